-- Statements and their parts that are whole: nothing that follows would belong to them.
use Rattle.std.specs.Prelude.{◌≡◌, ℕ, suc, Bool, true, false, ◌&&◌, codes, List, [], ◌∷◌, Option, Some, None}
use Rattle.op_parse_code.specs.Opening.{is_identifier, is_word}
use Rattle.op_parse_code.specs.Refusal.{Phrase}
use Rattle.op_parse_code.specs.declared.handler.TryRest.{TryRest}
use Rattle.op_parse_code.specs.declared.handler.TryRest.TheVariants.{Finally, Except, On, OnElse}
use Rattle.op_scan.specs.declared.token.TokenKind.{TokenKind}
use Rattle.op_scan.specs.declared.token.TokenKind.TheVariants as kind
use Rattle.op_tree.specs.Ends.{IsNot, EndsStatement}
use Rattle.op_tree.specs.NameGrammar.{IsName}
use Rattle.op_tree.proofs.StatementUnique.{ends_list}
use Rattle.op_tree.specs.Lists.{handlers_of}
use Rattle.op_tree.specs.Statement.{Statement, try_finally, try_except, try_on, try_on_else, Statements, no_statements, statements, Branches, Handlers, no_handlers, handlers, stmts_of}
use Rattle.op_tree.specs.StatementGrammar.{IsStatement, AreStatements, AreBranches, AreHandlers, IsOn, direction_of}
use Rattle.op_tree.specs.Terminal.{Terminal, ◌at◌}
use Rattle.op_tree.specs.declared.position.Name.{Name}
use Rattle.op_tree.specs.declared.position.Position.{Position}
use Rattle.op_tree.specs.declared.position.QualifiedName.{QualifiedName}
use Rattle.op_tree.specs.declared.statement.Direction.{Direction}

abbrev pub SomeStatement : Phrase Statement
SomeStatement d s ks r = IsStatement d s ks r × EndsStatement s r

-- a statement that begins with a word, from the tokens behind it, one deeper
abbrev pub Behind : TokenKind → Position → Phrase Statement
Behind k p d s ks r = IsStatement (suc d) s (k at p ∷ ks) r × EndsStatement s r

-- a call or an assignment, with the depth inside it
abbrev pub SomeCall : Phrase Statement
SomeCall d s ks r = IsStatement (suc d) s ks r × EndsStatement s r

abbrev pub is_semicolon : TokenKind → Bool
is_semicolon kind.Semicolon = true
is_semicolon other = false

-- nothing that follows would belong to the last of the statements, nor would another follow
abbrev pub EndsStatements : Statements → List Terminal → Type 0
EndsStatements no_statements r = Unit {0}
EndsStatements (statements s no_statements) r = EndsStatement s r × IsNot is_semicolon r
EndsStatements (statements s (statements s1 ss)) r = EndsStatements (statements s1 ss) r

abbrev pub SomeStatements : Phrase Statements
SomeStatements d ss ks r = AreStatements d ss ks r × EndsStatements ss r

-- the first token passes the test
abbrev pub front_is : (TokenKind → Bool) → List Terminal → Bool
front_is test [] = false
front_is test (t ∷ ts) = test t.kind

-- the word `on` and a name
abbrev pub begins_handler : List Terminal → Bool
begins_handler [] = false
begins_handler (t ∷ []) = false
begins_handler (t ∷ u ∷ ts) = is_word (codes "on") t.kind && is_identifier u.kind

abbrev pub SomeBranches : Phrase Branches
SomeBranches d bs ks r = AreBranches d bs ks r × (front_is ends_list r ≡ true)

abbrev pub SomeHandlers : Phrase Handlers
SomeHandlers d hs ks r = AreHandlers d hs ks r × (front_is ends_list r ≡ true)

abbrev pub SomeDirection : Phrase Direction
SomeDirection d way ks r = (k : TokenKind) × (p : Position) × (ks ≡ k at p ∷ r) × (direction_of k ≡ Some way)

-- "on", with the variable and the class
abbrev pub SomeOn : Phrase (Option Name × QualifiedName)
SomeOn d x ks r = IsOn x.0 x.1 ks r

-- what stands behind the first name of a class, up to `do`
abbrev pub ClassTail : ℕ → Option Name → List Terminal → List Terminal → Type 0
ClassTail d None ks r = (u : Position) × (ks ≡ kind.Do_ at u ∷ r)
ClassTail d (Some n) ks r = (p u : Position) × (m : List Terminal) × (ks ≡ kind.Dot at p ∷ m) × IsName n m (kind.Do_ at u ∷ r)

abbrev pub class_of : Name → Option Name → QualifiedName
class_of n None = record { unit = None; name = n }
class_of n (Some m) = record { unit = Some n; name = m }

-- what stands behind the body of a `try`
pub data Rest : Type 0 where
  finally_rest : (finalization : Statements) → Rest
  except_rest : (handler : Statements) → Rest
  on_rest : (handlers : Handlers) → Rest
  on_else_rest : (handlers : Handlers) (otherwise : Statements) → Rest

abbrev pub rest_of : TryRest → Rest
rest_of (Finally finalization) = finally_rest (stmts_of finalization.items)
rest_of (Except handler) = except_rest (stmts_of handler.items)
rest_of (On hs) = on_rest (handlers_of hs.items)
rest_of (OnElse hs otherwise) = on_else_rest (handlers_of hs.items) (stmts_of otherwise.items)

abbrev pub try_of : Statements → Rest → Statement
try_of body (finally_rest ts) = try_finally body ts
try_of body (except_rest ts) = try_except body ts
try_of body (on_rest hs) = try_on body hs
try_of body (on_else_rest hs ts) = try_on_else body hs ts

-- at least one handler
abbrev pub IsHandled : Handlers → Type 0
IsHandled no_handlers = ⊥
IsHandled (handlers v c s hs) = Unit {0}

-- what stands behind `except`, up to `end`
abbrev pub SomeExcept : ℕ → Rest → List Terminal → List Terminal → Type 0
SomeExcept d (finally_rest ts) ks r = ⊥
SomeExcept d (except_rest ts) ks r = (u : Position) × AreStatements d ts ks (kind.End at u ∷ r)
SomeExcept d (on_rest hs) ks r = (u : Position) × IsHandled hs × AreHandlers d hs ks (kind.End at u ∷ r)
SomeExcept d (on_else_rest hs ts) ks r = (u w : Position) × (n : List Terminal) × IsHandled hs × AreHandlers d hs ks (kind.Else_ at u ∷ n) × AreStatements d ts n (kind.End at w ∷ r)
