-- Headings and their parts that are whole: nothing that follows would belong to them.
use Rattle.std.specs.Prelude.{◌≡◌, ℕ, suc, Bool, true, false, List, [], ◌∷◌, Option, Some, None}
use Rattle.op_parse_code.specs.Opening.{is_identifier}
use Rattle.op_parse_code.specs.Refusal.{Phrase}
use Rattle.op_parse_code.specs.Whole.{NoMark}
use Rattle.op_parse_code.specs.declared.mark.Mark.TheVariants as mark
use Rattle.op_parse_decl.specs.Combined.{Both, both}
use Rattle.op_scan.specs.declared.token.TokenKind.{TokenKind}
use Rattle.op_scan.specs.declared.token.TokenKind.TheVariants as kind
use Rattle.op_tree.proofs.ExpressionUnique.{Begins}
use Rattle.op_tree.specs.Declaration.{Heading, Method}
use Rattle.op_tree.specs.Ends.{NoDirective}
use Rattle.op_tree.specs.HeadingGrammar.{IsHeading, AreDirectives, IsMethod, IsMode, IsParameterType, IsParameter, AreParameters, routine_kind_of}
use Rattle.op_tree.specs.NameGrammar.{IsName, AreNames}
use Rattle.op_tree.specs.Terminal.{Terminal, ◌at◌}
use Rattle.op_tree.specs.declared.heading.Directive.{Directive}
use Rattle.op_tree.specs.declared.heading.Parameter.{Parameter}
use Rattle.op_tree.specs.declared.heading.ParameterMode.{ParameterMode}
use Rattle.op_tree.specs.declared.heading.ParameterMode.TheVariants as mode
use Rattle.op_tree.specs.declared.heading.ParameterType.{ParameterType}
use Rattle.op_tree.specs.declared.heading.RoutineKind.{RoutineKind}
use Rattle.op_tree.specs.declared.position.Name.{Name}
use Rattle.op_tree.specs.declared.position.Position.{Position}

-- the word with which a heading begins
pub data IsRoutineKind : ℕ → RoutineKind → List Terminal → List Terminal → Type 0 where
  is_routine_kind : {d : ℕ} {k : TokenKind} {sort : RoutineKind} {p : Position} {r : List Terminal} → routine_kind_of k ≡ Some sort → IsRoutineKind d sort (k at p ∷ r) r

-- the name of a routine, behind that of its class if there is one
pub data SomeRoutineName : ℕ → Both (Option Name) Name → List Terminal → List Terminal → Type 0 where
  routine_alone : {d : ℕ} {n : Name} {ks r : List Terminal} → IsName n ks r → NoMark mark.Dot r → SomeRoutineName d (both None n) ks r
  routine_of_class : {d : ℕ} {c n : Name} {p : Position} {ks m r : List Terminal} → IsName c ks (kind.Dot at p ∷ m) → IsName n m r → SomeRoutineName d (both (Some c) n) ks r

-- a heading, and the semicolon behind it
abbrev pub SomeHeading : Phrase Heading
SomeHeading d h ks r = (p : Position) × IsHeading d h ks (kind.Semicolon at p ∷ r)

abbrev pub SomeDirectives : Phrase (List Directive)
SomeDirectives d ws ks r = AreDirectives ws ks r × NoDirective r

abbrev pub SomeMethod : Phrase Method
SomeMethod d a ks r = IsMethod d a ks r × NoDirective r

-- a directive and its semicolon
abbrev pub IsDirective : Directive → List Terminal → List Terminal → Type 0
IsDirective w ks r = AreDirectives (w ∷ []) ks r

-- ---- parameters

abbrev pub is_string : TokenKind → Bool
is_string kind.String = true
is_string other = false

abbrev pub SomeParameterType : Phrase ParameterType
SomeParameterType d t ks r = IsParameterType t ks r × NoMark mark.Dot r

-- no word `out` and a name stand at the front
abbrev pub NoOut : List Terminal → Type 0
NoOut ks = (r : List Terminal) → IsMode mode.Out ks r → Begins is_identifier r → ⊥

-- how parameters are passed: by value where no word of another mode stands there
abbrev pub SomeMode : ParameterMode → List Terminal → List Terminal → Type 0
SomeMode mode.Value ks r = (ks ≡ r) × NoMark mark.Var ks × NoMark mark.Const_ ks × NoOut ks
SomeMode mode.Out ks r = IsMode mode.Out ks r × Begins is_identifier r
SomeMode m ks r = IsMode m ks r

-- how parameters are passed, their names, and the colon behind them
pub data SomeModed : ℕ → Both ParameterMode (List Name) → List Terminal → List Terminal → Type 0 where
  some_moded : {d : ℕ} {m : ParameterMode} {ns : List Name} {p : Position} {ks z r : List Terminal} → IsMode m ks z → AreNames ns z (kind.Colon at p ∷ r) → SomeModed d (both m ns) ks r

abbrev pub SomeParameter : Phrase Parameter
SomeParameter d a ks r = IsParameter a ks r × NoMark mark.Dot r

-- the parameters of a routine, with their brackets
pub data SomeParameterPart : ℕ → List Parameter → List Terminal → List Terminal → Type 0 where
  part_missing : {d : ℕ} {ks : List Terminal} → NoMark mark.OpenParenthesis ks → SomeParameterPart d [] ks ks
  part_empty : {d : ℕ} {p q : Position} {r : List Terminal} → SomeParameterPart (suc d) [] (kind.OpenParenthesis at p ∷ kind.CloseParenthesis at q ∷ r) r
  part_given : {d : ℕ} {as_ : List Parameter} {p q : Position} {ks r : List Terminal} → AreParameters as_ ks (kind.CloseParenthesis at q ∷ r) → SomeParameterPart (suc d) as_ (kind.OpenParenthesis at p ∷ ks) r
