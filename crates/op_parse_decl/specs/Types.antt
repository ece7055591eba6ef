-- Names, types and first values that are whole: nothing that follows would belong to them.
use Rattle.std.specs.Prelude.{◌≡◌, ℕ, Bool, List, [], ◌∷◌, Option, Some, None, suc}
use Rattle.op_parse_code.specs.Refusal.{Phrase}
use Rattle.op_parse_code.specs.Whole.{NoMark}
use Rattle.op_parse_code.specs.declared.mark.Mark.TheVariants as mark
use Rattle.op_scan.specs.declared.token.TokenKind.{TokenKind}
use Rattle.op_scan.specs.declared.token.TokenKind.TheVariants as kind
use Rattle.op_tree.specs.Denoter.{Denoter, named, string, enumeration, Denoters, no_denoters, FieldLists}
use Rattle.op_tree.specs.DenoterGrammar.{IsDenoter, IsStructure, AreDenoters, AreFieldLists, IsInitial}
use Rattle.op_tree.specs.Ends.{Stops, StopsDenoter}
use Rattle.op_tree.specs.Expression.{Expression, designated, designator, named as named_root, string as string_root, bracketed, no_selectors, selectors, member}
use Rattle.op_tree.specs.Initial.{Initial}
use Rattle.op_tree.specs.NameGrammar.{AreNames, IsQualified, AreBracketedNames}
use Rattle.op_tree.specs.Terminal.{Terminal, ◌at◌}
use Rattle.op_tree.specs.declared.position.Name.{Name}
use Rattle.op_tree.specs.declared.position.Position.{Position}
use Rattle.op_tree.specs.declared.position.QualifiedName.{QualifiedName}

-- ---- names

abbrev pub SomeNames : Phrase (List Name)
SomeNames d ns ks r = AreNames ns ks r × NoMark mark.Comma r

abbrev pub SomeBracketedNames : Phrase (List Name)
SomeBracketedNames = AreBracketedNames

abbrev pub SomeQualified : Phrase QualifiedName
SomeQualified d q ks r = IsQualified q ks r × NoMark mark.Dot r

-- ---- types

abbrev pub SomeDenoter : Phrase Denoter
SomeDenoter d t ks r = IsDenoter d t ks r × StopsDenoter r

-- a type that begins so, from the tokens behind its first one, one deeper
abbrev pub DenoterBehind : TokenKind → Position → Phrase Denoter
DenoterBehind k p d t ks r = SomeDenoter (suc d) t (k at p ∷ ks) r

-- an array or a record, where the type begins there and is packed or not
abbrev pub SomeStructure : Position → Bool → Phrase Denoter
SomeStructure p packed d t ks r = IsStructure d p packed t ks r × StopsDenoter r

-- a type that begins as a bound of a subrange does, with the depth inside it
abbrev pub SomeBounded : Phrase Denoter
SomeBounded d t ks r = SomeDenoter (suc d) t ks r

-- types, and the closing bracket behind them
abbrev pub DenotersBefore : Phrase Denoters
DenotersBefore d ts ks r = (p : Position) × AreDenoters d ts ks (kind.CloseBracket at p ∷ r)

-- the fields of a record, and the `end` behind them
abbrev pub FieldsBefore : Phrase FieldLists
FieldsBefore d fs ks r = (p : Position) × AreFieldLists d fs ks (kind.End at p ∷ r)

-- a record, where the type begins there and is packed or not, up to its `end`
pub data RecordFields : ℕ → FieldLists → List Terminal → List Terminal → Type 0 where
  record_fields : {d : ℕ} {fs : FieldLists} {p : Position} {ks r : List Terminal} → FieldsBefore d fs ks r → RecordFields d fs (kind.Record at p ∷ ks) r

-- what stands between `array` and the type of its elements
pub data SomeIndices : ℕ → Denoters → List Terminal → List Terminal → Type 0 where
  no_indices : {d : ℕ} {p : Position} {r : List Terminal} → SomeIndices d no_denoters (kind.Of at p ∷ r) r
  some_indices : {d : ℕ} {ts : Denoters} {p q : Position} {ks r : List Terminal} → DenotersBefore d ts ks (kind.Of at q ∷ r) → SomeIndices (suc d) ts (kind.OpenBracket at p ∷ ks) r

-- ids ":" type
abbrev pub SomeFields : Phrase (List Name × Denoter)
SomeFields d x ks r = (p : Position) × (m : List Terminal) × AreNames x.0 ks (kind.Colon at p ∷ m) × SomeDenoter d x.1 m r

-- the type that an expression is where it is no bound
abbrev pub denoted : Expression → Option Denoter
denoted (designated (designator (named_root n) no_selectors)) = Some (named (record { unit = None; name = n }))
denoted (designated (designator (named_root u) (selectors (member n) no_selectors))) = Some (named (record { unit = Some u; name = n }))
denoted (designated (designator (string_root p) no_selectors)) = Some (string p)
denoted (designated (designator (bracketed p (designated (designator (named_root n) no_selectors))) no_selectors)) = Some (enumeration p (n ∷ []))
denoted other = None

-- nothing, where what follows belongs to no type
abbrev pub NoMoreType : Phrase (List Terminal)
NoMoreType d x ks r = (ks ≡ r) × StopsDenoter r

-- ---- first values

abbrev pub SomeInitial : Phrase Initial
SomeInitial d i ks r = IsInitial d i ks r × Stops r

-- nothing, where what follows is no dot
abbrev pub NoDot : Phrase (List Terminal)
NoDot d x ks r = (ks ≡ r) × NoMark mark.Dot r

-- nothing, where what follows belongs to no expression
abbrev pub NoMoreExpression : Phrase (List Terminal)
NoMoreExpression d x ks r = (ks ≡ r) × Stops r
