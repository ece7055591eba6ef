-- The grammar of statements. The number is the depth that is left. A statement is counted where it has a token.
use Rattle.std.specs.Prelude.{◌≡◌, ℕ, suc, List, ◌∷◌, codes, Option, Some, None}
use Rattle.op_scan.specs.declared.token.TokenKind.{TokenKind}
use Rattle.op_scan.specs.declared.token.TokenKind.TheVariants as kind
use Rattle.op_tree.specs.Expression.{Expression, Designator, Elements}
use Rattle.op_tree.specs.ExpressionGrammar.{IsExpr, IsDesignator, AreElements}
use Rattle.op_tree.specs.NameGrammar.{IsName, IsQualified}
use Rattle.op_tree.specs.Statement.{Statement, empty, block, if_then, if_else, case_of, case_else, while_do, repeat_until, for_to, for_in, try_finally, try_except, try_on, try_on_else, raise, reraise, inherited, inherited_call, call, assign, Statements, no_statements, statements, Branches, no_branches, branches, Handlers, no_handlers, handlers}
use Rattle.op_tree.specs.Terminal.{Terminal, ◌at◌, IsWord}
use Rattle.op_tree.specs.declared.position.Name.{Name}
use Rattle.op_tree.specs.declared.position.Position.{Position}
use Rattle.op_tree.specs.declared.position.QualifiedName.{QualifiedName}
use Rattle.op_tree.specs.declared.statement.Direction.{Direction}
use Rattle.op_tree.specs.declared.statement.Direction.TheVariants.{To, Downto}

-- An `else` behind the statement would not belong to it: it does not end in an `if` that has none.
abbrev pub IsClosed : Statement → Type 0
IsClosed empty = Unit {0}
IsClosed (block ss) = Unit {0}
IsClosed (if_then c s) = ⊥
IsClosed (if_else c s t) = IsClosed t
IsClosed (case_of e bs) = Unit {0}
IsClosed (case_else e bs ss) = Unit {0}
IsClosed (while_do c s) = IsClosed s
IsClosed (repeat_until ss e) = Unit {0}
IsClosed (for_to n first direction last s) = IsClosed s
IsClosed (for_in n e s) = IsClosed s
IsClosed (try_finally ss ts) = Unit {0}
IsClosed (try_except ss ts) = Unit {0}
IsClosed (try_on ss hs) = Unit {0}
IsClosed (try_on_else ss hs ts) = Unit {0}
IsClosed (raise p e) = Unit {0}
IsClosed (reraise p) = Unit {0}
IsClosed (inherited p) = Unit {0}
IsClosed (inherited_call p d) = Unit {0}
IsClosed (call d) = Unit {0}
IsClosed (assign d p e) = Unit {0}

-- "to" | "downto"
abbrev pub direction_of : TokenKind → Option Direction
direction_of kind.To = Some To
direction_of kind.Downto = Some Downto
direction_of other = None

-- "on" [id ":"] qid "do"
pub data IsOn : Option Name → QualifiedName → List Terminal → List Terminal → Type 0 where
  is_on_class : {c : QualifiedName} {on : List ℕ} {p q : Position} {ks r : List Terminal} → IsWord (codes "on") on → IsQualified c ks (kind.Do_ at q ∷ r) → IsOn None c (kind.Identifier on at p ∷ ks) r
  is_on_variable : {n : Name} {c : QualifiedName} {on : List ℕ} {p q u : Position} {ks m r : List Terminal} → IsWord (codes "on") on → IsName n ks (kind.Colon at q ∷ m) → IsQualified c m (kind.Do_ at u ∷ r) → IsOn (Some n) c (kind.Identifier on at p ∷ ks) r

mutual
  -- stmt = [block | if | case | while | repeat | for | try | raise | inherited | desig [":=" expr]]
  pub data IsStatement : ℕ → Statement → List Terminal → List Terminal → Type 0 where
    is_empty : {d : ℕ} {ks : List Terminal} → IsStatement d empty ks ks
    -- block
    is_block : {d : ℕ} {ss : Statements} {p : Position} {ks r : List Terminal} → IsBlock d ss (kind.Begin at p ∷ ks) r → IsStatement (suc d) (block ss) (kind.Begin at p ∷ ks) r
    -- "if" expr "then" stmt ["else" stmt], where an "else" belongs to the nearest "if"
    is_if_then : {d : ℕ} {c : Expression} {s : Statement} {p q : Position} {ks m r : List Terminal} → IsExpr d c ks (kind.Then at q ∷ m) → IsStatement d s m r → IsStatement (suc d) (if_then c s) (kind.If_ at p ∷ ks) r
    is_if_else : {d : ℕ} {c : Expression} {s t : Statement} {p q u : Position} {ks m n r : List Terminal} → IsExpr d c ks (kind.Then at q ∷ m) → IsStatement d s m (kind.Else_ at u ∷ n) → IsClosed s → IsStatement d t n r → IsStatement (suc d) (if_else c s t) (kind.If_ at p ∷ ks) r
    -- "case" expr "of" {labels ":" stmt ";"} ["else" stmts] "end"
    is_case : {d : ℕ} {e : Expression} {bs : Branches} {p q u : Position} {ks m r : List Terminal} → IsExpr d e ks (kind.Of at q ∷ m) → AreBranches d bs m (kind.End at u ∷ r) → IsStatement (suc d) (case_of e bs) (kind.Case at p ∷ ks) r
    is_case_else : {d : ℕ} {e : Expression} {bs : Branches} {ss : Statements} {p q u v : Position} {ks m n r : List Terminal} → IsExpr d e ks (kind.Of at q ∷ m) → AreBranches d bs m (kind.Else_ at u ∷ n) → AreStatements d ss n (kind.End at v ∷ r) → IsStatement (suc d) (case_else e bs ss) (kind.Case at p ∷ ks) r
    -- "while" expr "do" stmt
    is_while : {d : ℕ} {c : Expression} {s : Statement} {p q : Position} {ks m r : List Terminal} → IsExpr d c ks (kind.Do_ at q ∷ m) → IsStatement d s m r → IsStatement (suc d) (while_do c s) (kind.While_ at p ∷ ks) r
    -- "repeat" stmts "until" expr
    is_repeat : {d : ℕ} {ss : Statements} {c : Expression} {p q : Position} {ks m r : List Terminal} → AreStatements d ss ks (kind.Until at q ∷ m) → IsExpr d c m r → IsStatement (suc d) (repeat_until ss c) (kind.Repeat at p ∷ ks) r
    -- "for" id ":=" expr ("to" | "downto") expr "do" stmt
    is_for_to : {d : ℕ} {n : Name} {first last : Expression} {k : TokenKind} {way : Direction} {s : Statement} {p q u v : Position} {ks m m1 m2 r : List Terminal} → IsName n ks (kind.Assign at q ∷ m) → IsExpr d first m (k at u ∷ m1) → direction_of k ≡ Some way → IsExpr d last m1 (kind.Do_ at v ∷ m2) → IsStatement d s m2 r → IsStatement (suc d) (for_to n first way last s) (kind.For_ at p ∷ ks) r
    -- "for" id "in" expr "do" stmt
    is_for_in : {d : ℕ} {n : Name} {e : Expression} {s : Statement} {p q u : Position} {ks m m1 r : List Terminal} → IsName n ks (kind.In_ at q ∷ m) → IsExpr d e m (kind.Do_ at u ∷ m1) → IsStatement d s m1 r → IsStatement (suc d) (for_in n e s) (kind.For_ at p ∷ ks) r
    -- "try" stmts "finally" stmts "end"
    is_try_finally : {d : ℕ} {ss ts : Statements} {p q u : Position} {ks m r : List Terminal} → AreStatements d ss ks (kind.Finally at q ∷ m) → AreStatements d ts m (kind.End at u ∷ r) → IsStatement (suc d) (try_finally ss ts) (kind.Try_ at p ∷ ks) r
    -- "try" stmts "except" (handlers | stmts) "end", handlers = on {on} ["else" stmts]
    is_try_except : {d : ℕ} {ss ts : Statements} {p q u : Position} {ks m r : List Terminal} → AreStatements d ss ks (kind.Except at q ∷ m) → AreStatements d ts m (kind.End at u ∷ r) → IsStatement (suc d) (try_except ss ts) (kind.Try_ at p ∷ ks) r
    is_try_on : {d : ℕ} {ss : Statements} {v : Option Name} {c : QualifiedName} {s : Statement} {hs : Handlers} {p q u : Position} {ks m r : List Terminal} → AreStatements d ss ks (kind.Except at q ∷ m) → AreHandlers d (handlers v c s hs) m (kind.End at u ∷ r) → IsStatement (suc d) (try_on ss (handlers v c s hs)) (kind.Try_ at p ∷ ks) r
    is_try_on_else : {d : ℕ} {ss ts : Statements} {v : Option Name} {c : QualifiedName} {s : Statement} {hs : Handlers} {p q u w : Position} {ks m n r : List Terminal} → AreStatements d ss ks (kind.Except at q ∷ m) → AreHandlers d (handlers v c s hs) m (kind.Else_ at u ∷ n) → AreStatements d ts n (kind.End at w ∷ r) → IsStatement (suc d) (try_on_else ss (handlers v c s hs) ts) (kind.Try_ at p ∷ ks) r
    -- "raise" [expr]
    is_raise : {d : ℕ} {e : Expression} {p : Position} {ks r : List Terminal} → IsExpr d e ks r → IsStatement (suc d) (raise p e) (kind.Raise at p ∷ ks) r
    is_reraise : {d : ℕ} {p : Position} {r : List Terminal} → IsStatement (suc d) (reraise p) (kind.Raise at p ∷ r) r
    -- "inherited" [desig]
    is_inherited : {d : ℕ} {p : Position} {r : List Terminal} → IsStatement (suc d) (inherited p) (kind.Inherited at p ∷ r) r
    is_inherited_call : {d : ℕ} {g : Designator} {p : Position} {ks r : List Terminal} → IsDesignator d g ks r → IsStatement (suc d) (inherited_call p g) (kind.Inherited at p ∷ ks) r
    -- desig [":=" expr]
    is_call : {d : ℕ} {g : Designator} {ks r : List Terminal} → IsDesignator d g ks r → IsStatement (suc d) (call g) ks r
    is_assignment : {d : ℕ} {g : Designator} {e : Expression} {p : Position} {ks m r : List Terminal} → IsDesignator d g ks (kind.Assign at p ∷ m) → IsExpr d e m r → IsStatement (suc d) (assign g p e) ks r

  -- block = "begin" stmts "end"
  pub data IsBlock : ℕ → Statements → List Terminal → List Terminal → Type 0 where
    is_begin_end : {d : ℕ} {ss : Statements} {p q : Position} {ks r : List Terminal} → AreStatements d ss ks (kind.End at q ∷ r) → IsBlock d ss (kind.Begin at p ∷ ks) r

  -- stmts = stmt {";" stmt}
  pub data AreStatements : ℕ → Statements → List Terminal → List Terminal → Type 0 where
    are_one_statement : {d : ℕ} {s : Statement} {ks r : List Terminal} → IsStatement d s ks r → AreStatements d (statements s no_statements) ks r
    are_statements : {d : ℕ} {s : Statement} {ss : Statements} {p : Position} {ks m r : List Terminal} → IsStatement d s ks (kind.Semicolon at p ∷ m) → AreStatements d ss m r → AreStatements d (statements s ss) ks r

  -- {labels ":" stmt ";"}, where the last ";" before "end" or "else" may be missing
  pub data AreBranches : ℕ → Branches → List Terminal → List Terminal → Type 0 where
    are_no_branches : {d : ℕ} {ks : List Terminal} → AreBranches d no_branches ks ks
    are_branches : {d : ℕ} {ls : Elements} {s : Statement} {bs : Branches} {p q : Position} {ks m n r : List Terminal} → AreElements d ls ks (kind.Colon at p ∷ m) → IsStatement d s m (kind.Semicolon at q ∷ n) → AreBranches d bs n r → AreBranches d (branches ls s bs) ks r
    is_branch_before_end : {d : ℕ} {ls : Elements} {s : Statement} {p q : Position} {ks m r : List Terminal} → AreElements d ls ks (kind.Colon at p ∷ m) → IsStatement d s m (kind.End at q ∷ r) → AreBranches d (branches ls s no_branches) ks (kind.End at q ∷ r)
    is_branch_before_else : {d : ℕ} {ls : Elements} {s : Statement} {p q : Position} {ks m r : List Terminal} → AreElements d ls ks (kind.Colon at p ∷ m) → IsStatement d s m (kind.Else_ at q ∷ r) → IsClosed s → AreBranches d (branches ls s no_branches) ks (kind.Else_ at q ∷ r)

  -- {on}, where the last ";" before "end" or "else" may be missing
  pub data AreHandlers : ℕ → Handlers → List Terminal → List Terminal → Type 0 where
    are_no_handlers : {d : ℕ} {ks : List Terminal} → AreHandlers d no_handlers ks ks
    are_handlers : {d : ℕ} {v : Option Name} {c : QualifiedName} {s : Statement} {hs : Handlers} {p : Position} {ks m n r : List Terminal} → IsOn v c ks m → IsStatement d s m (kind.Semicolon at p ∷ n) → AreHandlers d hs n r → AreHandlers d (handlers v c s hs) ks r
    is_handler_before_end : {d : ℕ} {v : Option Name} {c : QualifiedName} {s : Statement} {p : Position} {ks m r : List Terminal} → IsOn v c ks m → IsStatement d s m (kind.End at p ∷ r) → AreHandlers d (handlers v c s no_handlers) ks (kind.End at p ∷ r)
    is_handler_before_else : {d : ℕ} {v : Option Name} {c : QualifiedName} {s : Statement} {p : Position} {ks m r : List Terminal} → IsOn v c ks m → IsStatement d s m (kind.Else_ at p ∷ r) → IsClosed s → AreHandlers d (handlers v c s no_handlers) ks (kind.Else_ at p ∷ r)
