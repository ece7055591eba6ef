-- Parts of first values.
use Rattle.std.specs.Prelude.{◌≡◌, ◌<◌, ◌+◌, ℕ, suc, List, ◌∷◌, Option, Some, None}
use Rattle.op_parse_code.specs.Refusal.{Phrase}
use Rattle.op_parse_decl.specs.Refusal.{TellsList}
use Rattle.op_parse_decl.specs.Types.{SomeInitial}
use Rattle.op_parse_decl.specs.declared.initializer.Room.{Room}
use Rattle.op_parse_decl.specs.declared.initializer.Room.TheVariants as room
use Rattle.op_scan.specs.declared.token.TokenKind.TheVariants as kind
use Rattle.op_tree.specs.DenoterGrammar.{AreInitials, AreFieldInitials}
use Rattle.op_tree.specs.Ends.{Stops}
use Rattle.op_tree.specs.Expression.{Expression, designated, designator, named, no_selectors}
use Rattle.op_tree.specs.ExpressionGrammar.{IsExpr}
use Rattle.op_tree.specs.Initial.{Initial, value, Initials, FieldInitials, no_field_initials, field_initials}
use Rattle.op_tree.specs.NameGrammar.{IsName}
use Rattle.op_tree.specs.Terminal.{Terminal, ◌at◌}
use Rattle.op_tree.specs.declared.position.Name.{Name}
use Rattle.op_tree.specs.declared.position.Position.{Position}

-- an expression, with its own depth
abbrev pub SomeValue : Phrase Expression
SomeValue d e ks r = IsExpr d e ks r × Stops r

-- a first value that is an expression, with the depth of first values
abbrev pub ValueOf : Phrase Expression
ValueOf d e ks r = SomeInitial d (value e) ks r

-- The depth of a first value in so many brackets, each of which is one of an expression or of a list: for an expression one more
-- than that of the expression, for a list or a record one less for each of the brackets.
abbrev pub HasDepth : ℕ → ℕ → ℕ → Initial → Type 0
HasDepth k d l (value e) = l ≡ suc d
HasDepth k d l other = l + k ≡ suc d

-- a first value in k brackets, with the depth for an expression
abbrev pub Within : ℕ → Phrase Initial
Within k d i ks r = (l : ℕ) × HasDepth k d l i × SomeInitial l i ks r

-- The room for lists and records in k brackets, where d is left for an expression. Where there is none, what tells of these
-- tokens tells of the bracket.
abbrev pub FitsRoom : Room → ℕ → ℕ → List Terminal → Type 0
FitsRoom (room.Left l) k d ks = l + k ≡ suc d
FitsRoom (room.Spent place) k d ks = (suc d < k) × ((m : List Terminal) → TellsList ks m → (t : Terminal) × (q : List Terminal) × (place ≡ t.position.place) × TellsList (t ∷ q) m)

-- whatever brackets are around, with this room
abbrev pub Around : Room → ℕ → List Terminal → (ℕ → Type 0) → Type 0
Around room d ks P = (k : ℕ) → FitsRoom room k d ks → P k

-- the same of a bracket at p, in which the first value is read, before what belongs to a list or a record
abbrev pub AroundFirst : Position → Room → Initial → List Terminal → List Terminal → (ℕ → ℕ → List Terminal → Type 0) → Type 0
AroundFirst p room i ks m P = (k d : ℕ) → FitsRoom room (suc k) d ks → Within (suc k) d i ks m → P k (suc d) (kind.OpenParenthesis at p ∷ ks)

-- the same of a bracket that closes behind its first value
abbrev pub AroundOne : Position → ℕ → Initial → List Terminal → (ℕ → List Terminal → Type 0) → Type 0
AroundOne p d i r P = (k inner : ℕ) (q : Position) (ks : List Terminal) → d ≡ suc inner → Within (suc k) inner i ks (kind.CloseParenthesis at q ∷ r) → P k (kind.OpenParenthesis at p ∷ ks)

-- an expression that stands in front is not too deep for an item of a list
abbrev pub FitsItem : ℕ → Initial → List Terminal → Type 0
FitsItem d (value e) ks = (x : Expression) × (r : List Terminal) × ValueOf d x ks r
FitsItem d other ks = Unit {0}

-- the name that a first value is, if it is no more
abbrev pub name_alone : Initial → Option Name
name_alone (value (designated (designator (named n) no_selectors))) = Some n
name_alone other = None

-- first values, and the closing bracket behind them
abbrev pub InitialsBefore : Phrase Initials
InitialsBefore d is ks r = (p : Position) × AreInitials d is ks (kind.CloseParenthesis at p ∷ r)

-- the fields behind one, and the closing bracket
pub data FieldsBehind : ℕ → FieldInitials → List Terminal → List Terminal → Type 0 where
  no_fields_behind : {d : ℕ} {p : Position} {r : List Terminal} → FieldsBehind d no_field_initials (kind.CloseParenthesis at p ∷ r) r
  fields_behind : {d : ℕ} {n : Name} {i : Initial} {fs : FieldInitials} {p q : Position} {ks m l r : List Terminal} → IsName n ks (kind.Colon at q ∷ m) → SomeInitial d i m l → FieldsBehind d fs l r → FieldsBehind d (field_initials n i fs) (kind.Semicolon at p ∷ ks) r

-- all fields of a record, and the closing bracket, from what stands behind the name of the first one and its colon
abbrev pub RecordBehind : Name → Position → Phrase FieldInitials
RecordBehind n q d fs ks r = (p : Position) × AreFieldInitials d fs (kind.Identifier n.text at n.position ∷ kind.Colon at q ∷ ks) (kind.CloseParenthesis at p ∷ r) × Stops r
