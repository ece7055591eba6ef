-- Predefined types, and types by what is known of them.
use Rattle.std.proofs.Common.{◌≡◌, ◌<◌, ℕ, ℤ, true, Option, Some, None, slice_get, refl, sym, ap, ◌∙◌, arith}
use Rattle.op_base.proofs.Lists.{slice_get-take}
use Rattle.op_core.proofs.Growing.{all_at}
use Rattle.op_core.specs.Sizes.{range_of, type_at}
use Rattle.op_core.specs.Types.{id, predefined}
use Rattle.op_core.specs.declared.ids.TypeId.{TypeId}
use Rattle.op_core.specs.declared.program.Core.{Core}
use Rattle.op_core.specs.declared.types.CoreType.{CoreType}
use Rattle.op_core.specs.declared.types.CoreType.TheVariants as type
use Rattle.op_core.specs.declared.types.IntegerKind.TheVariants.{Signed32}
use Rattle.op_types.specs.Operators as table
use Rattle.op_typing.specs.Simple.{IsSolidType, is_solid}
use Rattle.op_accepted.specs.Fit.{IsFitTables, IsFitType}

-- ---- rows

-- one of the first 16 types
pub predefined_at : {core : Core} → IsFitTables core → (n : ℕ) → n < 16 → type_at core (id n) ≡ slice_get predefined n
predefined_at {core} t n less = sym (slice_get-take 16 n core.types less) ∙ ap (λ ts. slice_get ts n) t.predefined

-- of what a type is made
pub made_of : {core : Core} → IsFitTables core → (of : TypeId) (t : CoreType) → type_at core of ≡ Some t → IsFitType core t
made_of {core} h of t e = all_at (IsFitType core) core.types of.0 t h.types e

-- ---- solid types

pub solid_by : (core : Core) (of : TypeId) (o : Option CoreType) → type_at core of ≡ o → is_solid o ≡ true → IsSolidType core of
solid_by core of o e h = ap is_solid e ∙ h

pub integer_solid : {core : Core} → IsFitTables core → IsSolidType core table.integer
integer_solid {core} t = solid_by core table.integer (Some (type.Integer Signed32)) (predefined_at t 4 (omega arith)) refl

pub boolean_solid : {core : Core} → IsFitTables core → IsSolidType core table.boolean
boolean_solid {core} t = solid_by core table.boolean (Some type.Boolean) (predefined_at t 5 (omega arith)) refl

pub char_solid : {core : Core} → IsFitTables core → IsSolidType core table.char
char_solid {core} t = solid_by core table.char (Some type.Char) (predefined_at t 6 (omega arith)) refl

pub string_is : {core : Core} → IsFitTables core → type_at core table.string ≡ Some type.String
string_is {core} t = predefined_at t 7 (omega arith)

pub nothing_solid : {core : Core} → IsFitTables core → IsSolidType core (id 9)
nothing_solid {core} t = solid_by core (id 9) (Some type.Nothing) (predefined_at t 9 (omega arith)) refl

-- a type that ranges over numbers is solid
range_solid : (o : Option CoreType) (r : ℤ × ℤ) → range_of o ≡ Some r → is_solid o ≡ true
range_solid None r e = absurd (cc)
range_solid (Some (type.Integer kind)) r e = refl
range_solid (Some type.Boolean) r e = refl
range_solid (Some type.Char) r e = refl
range_solid (Some (type.Enumeration values)) r e = refl
range_solid (Some (type.Subrange base low high)) r e = refl
range_solid (Some t) r e = absurd (cc)

pub ordinal_solid : (core : Core) (of : TypeId) (r : ℤ × ℤ) → range_of (type_at core of) ≡ Some r → IsSolidType core of
ordinal_solid core of r e = range_solid (type_at core of) r e
