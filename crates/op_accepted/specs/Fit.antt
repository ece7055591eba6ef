-- What is shown of a program that breaks no rule, so that it is compiled: of its tables, of what its names stand for, and of the trees that the
-- checker makes. Types are solid, as numbers, sets, records and arrays with bounds are, and a text stands only where it is written. How long
-- texts are is not asked here.
use Rattle.std.specs.Prelude.{◌≡◌, ◌<◌, ◌⊎◌, ℕ, Bool, true, false, not, List, Option, Some, None, IfSome, IsSome, take}
use Rattle.std.specs.List.{All}
use Rattle.op_check_expr.specs.Naming.{Meant, feature_of_type, type_name, value}
use Rattle.op_check_expr.specs.Scopes.{Here}
use Rattle.op_check_expr.specs.Values.{Value, computed, constant}
use Rattle.op_core.specs.Expression.{Expression, expression, Steps, no_steps, steps}
use Rattle.op_core.specs.Faults.{Checked}
use Rattle.op_core.specs.Sizes.{type_at}
use Rattle.op_core.specs.Statement.{Statement, Statements}
use Rattle.op_core.specs.Types.{predefined}
use Rattle.op_core.specs.Typing.{type_of}
use Rattle.op_core.specs.declared.constant.Const.{Const}
use Rattle.op_core.specs.declared.constant.Const.TheVariants.{Ordinal, Text, Set as SetOf, Nil as NilOf}
use Rattle.op_core.specs.declared.ids.TypeId.{TypeId}
use Rattle.op_core.specs.declared.program.Core.{Core}
use Rattle.op_core.specs.declared.types.CoreType.{CoreType}
use Rattle.op_core.specs.declared.types.CoreType.TheVariants.{String, Subrange, Set, Array, DynamicArray, OpenArray, Broken}
use Rattle.op_meaning.specs.Every.{is_text, text_after}
use Rattle.op_plain.specs.Plain.{are_plain_statements, is_plain_expression, is_plain_statement}
use Rattle.op_sizes.specs.Written.{is_implied}
use Rattle.op_types.specs.declared.visible.Meaning.{Meaning}
use Rattle.op_types.specs.declared.visible.Meaning.TheVariants as meaning
use Rattle.op_typing.specs.Simple.{IsSolidType}
use Rattle.op_typing.specs.SimpleTests.{is_counted}

-- ---- what a part means

-- what is so of a value, if there is one
pub data IfAny {A : Type 0} (P : A → Type 0) : Option A → Type 0 where
  none : IfAny P None
  some : (a : A) → P a → IfAny P (Some a)

-- what is so of a part that has a type; nothing is said of one that has none
pub data IfTyped {A : Type 0} (P : A → Type 0) (c : Checked A) : Type 0 where
  typed : IfAny P c.typed → IfTyped P c

-- ---- trees

-- any text may stand in them
abbrev pub any_text : List ℕ → Bool
any_text bytes = true

abbrev pub IsFitTree : Core → Expression → Type 0
IsFitTree core e = is_plain_expression any_text core e ≡ true

abbrev pub IsFitStatement : Core → Statement → Type 0
IsFitStatement core s = is_plain_statement any_text core s ≡ true

abbrev pub AreFitStatements : Core → Statements → Type 0
AreFitStatements core ss = are_plain_statements any_text core ss ≡ true

-- the last step is a conversion that is not written; `before` says whether one stands in front
abbrev pub ends_implied : (before : Bool) → Steps → Bool
ends_implied before no_steps = before
ends_implied before (steps action next others) = ends_implied (is_implied action) others

abbrev pub ends_written : Expression → Bool
ends_written (expression root of others) = not (ends_implied false others)

-- what comes out of the steps is still a text that is written there; `text` says whether one stands in front
abbrev pub ends_text : (text : Bool) → Steps → Bool
ends_text text no_steps = text
ends_text text (steps action next others) = ends_text (text_after text action) others

abbrev pub stays_text : Expression → Bool
stays_text (expression root of others) = ends_text (is_text root) others

-- a tree that gives a value of a solid type
abbrev pub IsSolidTree : Core → Expression → Type 0
IsSolidTree core e = IsFitTree core e × IsSolidType core (type_of e)

-- ---- values

-- a text, or a value of a solid type
abbrev pub IsFitConstant : Core → Const → TypeId → Type 0
IsFitConstant core (Ordinal n) of = IsSolidType core of
IsFitConstant core (Text bytes) of = type_at core of ≡ Some String
IsFitConstant core (SetOf members) of = IsSolidType core of
IsFitConstant core NilOf of = IsSolidType core of

-- A constant counts for a node of the text at least. Behind what is computed a conversion may come, and it is no text.
abbrev pub IsFitValue : Core → Value → Type 0
IsFitValue core (constant c) = (0 < c.weight.nodes) × IsFitConstant core c.value c.of
IsFitValue core (computed e) = IsSolidTree core e × (ends_written e ≡ true) × (stays_text e ≡ false)

-- ---- names

-- a type that is named is solid, or shows a feature that is left out
abbrev pub IsFitMeaning : Core → Meaning → Type 0
IsFitMeaning core (meaning.Constant c) = IsFitConstant core c.value c.of
IsFitMeaning core (meaning.TypeName of) = IsSolidType core of ⊎ IsSome (feature_of_type (type_at core of))
IsFitMeaning core m = Unit {0}

-- what a name gave, as features are told there
abbrev pub IsFitMeant : Core → Meant → Type 0
IsFitMeant core (value v) = IsFitValue core v
IsFitMeant core (type_name of) = IsSolidType core of
IsFitMeant core m = Unit {0}

-- ---- tables

-- of what a type is made
abbrev pub IsFitType : Core → CoreType → Type 0
IsFitType core (Subrange base low high) = IsSolidType core base
IsFitType core (Set base) = IsSolidType core base
IsFitType core (Array at element) = IsSolidType core at × IsSolidType core element × (is_counted core (Array at element) ≡ true)
IsFitType core (DynamicArray element) = ⊥
IsFitType core (OpenArray element) = ⊥
IsFitType core Broken = ⊥
IsFitType core t = Unit {0}

pub record IsFitTables (core : Core) : Type 0 where
  pub predefined : take 16 core.types ≡ predefined
  pub types : All (IsFitType core) core.types
  pub fields : All (λ f. IsSolidType core f.of) core.fields
  pub parameters : All (λ p. IsSolidType core p.of) core.parameters
  pub variables : All (λ v. IsSolidType core v.of) core.variables
  pub results : All (λ r. IfSome r.result (IsSolidType core)) core.routines

-- where an expression or a statement stands
pub record IsFitHere (here : Here) : Type 0 where
  pub tables : IsFitTables here.core
  pub names : All (λ n. IsFitMeaning here.core n.meaning) here.visible
