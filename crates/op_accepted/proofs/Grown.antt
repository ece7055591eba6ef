-- What was shown of a program is so of one whose tables have grown.
use Rattle.std.proofs.Common.{◌≡◌, inl, inr, ◌≤◌, ◌^◌, nat_lt, true, false, List, length, length-take, slice_get, take, All, IfSome, IsSome, IsSomeAnd, Option, Some, None, refl, sym, ap, subst, ◌∙◌, arith}
use Rattle.std.proofs.lemmas.Bool.{and_from, and_parts}
use Rattle.std.proofs.lemmas.List.{take-append-le}
use Rattle.std.proofs.lemmas.List.Elements.{All-weaker}
use Rattle.op_accepted.specs.Fit.{IsFitConstant, IsFitMeaning, IsFitType}
use Rattle.op_accepted.specs.State.{AreFitNames, GivesAlike, IsFitExport, IsLater, IsOfItself}
use Rattle.op_check_expr.specs.Naming.{feature_of_type}
use Rattle.op_check_unit.specs.declared.uses.Export.{Export}
use Rattle.op_core.proofs.Growing.{front_itself, front_stays, front_there, front_through, stay_front, stay_through}
use Rattle.op_core.specs.Growing.{IsFrontOf}
use Rattle.op_core.specs.Initial.{FirstValue}
use Rattle.op_core.specs.Sizes.{range_of, type_at, values_of}
use Rattle.op_core.specs.Types.{predefined}
use Rattle.op_core.specs.declared.constant.Const.{Const}
use Rattle.op_core.specs.declared.constant.Const.TheVariants.{Text}
use Rattle.op_core.specs.declared.ids.RoutineId.{RoutineId}
use Rattle.op_core.specs.declared.ids.TypeId.{TypeId}
use Rattle.op_core.specs.declared.ids.VariableId.{VariableId}
use Rattle.op_core.specs.declared.program.Core.{Core}
use Rattle.op_core.specs.declared.program.Unit.{Unit as UnitRow}
use Rattle.op_core.specs.declared.routine.Routine.{Routine}
use Rattle.op_core.specs.declared.types.CoreType.{CoreType}
use Rattle.op_core.specs.declared.types.CoreType.TheVariants.{Subrange, Set, Array}
use Rattle.op_meaning.specs.Shapes.{is_reference}
use Rattle.op_plain.specs.Plain.{is_plain_unit}
use Rattle.op_types.specs.Names.{Named}
use Rattle.op_types.specs.declared.visible.Meaning.{Meaning}
use Rattle.op_types.specs.declared.visible.Meaning.TheVariants as meaning
use Rattle.op_typing.specs.Simple.{IsSolidType, is_solid}
use Rattle.op_typing.specs.SimpleTests.{gives_nothing, is_none, is_procedure}

-- ---- tables behind others

pub later_itself : {core : Core} → IsLater core core
later_itself {core} = record { types = front_itself core.types; variables = front_itself core.variables; routines = stay_front (λ n r e. refl) (front_itself core.routines); units = refl }

pub later_through : {a b c : Core} → IsLater a b → IsLater b c → IsLater a c
later_through f g = record {
  types = front_through f.types g.types;
  variables = front_through f.variables g.variables;
  routines = stay_through (λ q r s h k. k ∙ h) f.routines g.routines;
  units = g.units ∙ f.units;
}

-- ---- types

-- a solid type is the same one
pub same_type : (old new : Core) → IsFrontOf old.types new.types → (of : TypeId) → IsSolidType old of → type_at new of ≡ type_at old of
same_type old new f of h = one (type_at old of) refl h
  where
    one : (o : Option CoreType) → type_at old of ≡ o → is_solid o ≡ true → type_at new of ≡ type_at old of
    one None e k = absurd (cc)
    one (Some t) e k = front_stays f of.0 t e ∙ sym e

pub solid_on : (old new : Core) → IsFrontOf old.types new.types → (of : TypeId) → IsSolidType old of → IsSolidType new of
solid_on old new f of h = ap is_solid (same_type old new f of h) ∙ h

pub type_on : (old new : Core) → IsFrontOf old.types new.types → (t : CoreType) → IsFitType old t → IsFitType new t
type_on old new f (Subrange base low high) h = solid_on old new f base h
type_on old new f (Set base) h = solid_on old new f base h
type_on old new f (Array at element) h = (solid_on old new f at h.0, solid_on old new f element h.1, ap (λ t. nat_lt (values_of (range_of t)) (2 ^ 31)) (same_type old new f at h.0) ∙ h.2)
type_on old new f t h = h

pub types_on : (old new : Core) → IsFrontOf old.types new.types → (ts : List CoreType) → All (IsFitType old) ts → All (IsFitType new) ts
types_on old new f ts h = All-weaker (IsFitType old) (IsFitType new) (type_on old new f) ts h

-- what is of solid types
pub all_solid_on : {A : Type 0} (of : A → TypeId) (old new : Core) → IsFrontOf old.types new.types → (xs : List A) → All (λ a. IsSolidType old (of a)) xs → All (λ a. IsSolidType new (of a)) xs
all_solid_on of old new f xs h = All-weaker (λ a. IsSolidType old (of a)) (λ a. IsSolidType new (of a)) (λ a k. solid_on old new f (of a) k) xs h

pub if_solid_on : (old new : Core) → IsFrontOf old.types new.types → (o : Option TypeId) → IfSome o (IsSolidType old) → IfSome o (IsSolidType new)
if_solid_on old new f None h = tt
if_solid_on old new f (Some of) h = solid_on old new f of h

length_known : (ts : List CoreType) → take 16 ts ≡ predefined → 16 ≤ length ts
length_known ts e = let l : length (take 16 ts) ≡ 16 = ap length e in let m = length-take 16 ts in omega (arith, l, m)

pub predefined_on : (old new : Core) → IsFrontOf old.types new.types → take 16 old.types ≡ predefined → take 16 new.types ≡ predefined
predefined_on old new f e = ap (take 16) f.is ∙ take-append-le 16 old.types f.more (length_known old.types e) ∙ e

-- ---- names

pub constant_on : (old new : Core) → IsFrontOf old.types new.types → (v : Const) (of : TypeId) → IsFitConstant old v of → IsFitConstant new v of
constant_on old new f (Text bytes) of h = front_stays f of.0 _ h
constant_on old new f v of h = solid_on old new f of h

shows_on : (old new : Core) → IsFrontOf old.types new.types → (of : TypeId) → IsSome (feature_of_type (type_at old of)) → IsSome (feature_of_type (type_at new of))
shows_on old new f of h = one (type_at old of) refl h
  where
    one : (o : Option CoreType) → type_at old of ≡ o → IsSome (feature_of_type o) → IsSome (feature_of_type (type_at new of))
    one None e k = absurd (cc)
    one (Some t) e k = subst (λ o. IsSome (feature_of_type o)) (sym (front_stays f of.0 t e)) k

pub meaning_on : (old new : Core) → IsFrontOf old.types new.types → (m : Meaning) → IsFitMeaning old m → IsFitMeaning new m
meaning_on old new f (meaning.Constant c) h = constant_on old new f c.value c.of h
meaning_on old new f (meaning.TypeName of) (inl h) = inl (solid_on old new f of h)
meaning_on old new f (meaning.TypeName of) (inr h) = inr (shows_on old new f of h)
meaning_on old new f m h = h

pub names_on : (old new : Core) → IsFrontOf old.types new.types → (ns : List Named) → AreFitNames old ns → AreFitNames new ns
names_on old new f ns h = All-weaker (λ n. IsFitMeaning old n.meaning) (λ n. IsFitMeaning new n.meaning) (λ n k. meaning_on old new f n.meaning k) ns h

pub export_on : (old new : Core) → IsFrontOf old.types new.types → (e : Option Export) → IsFitExport old e → IsFitExport new e
export_on old new f None h = tt
export_on old new f (Some e) h = names_on old new f e.names h

pub exports_on : (old new : Core) → IsFrontOf old.types new.types → (es : List (Option Export)) → All (IsFitExport old) es → All (IsFitExport new) es
exports_on old new f es h = All-weaker (IsFitExport old) (IsFitExport new) (export_on old new f) es h

-- ---- first values

pub values_on : (old new : Core) → IsFrontOf old.variables new.variables → (bs : List (VariableId × FirstValue)) → All (IsOfItself old) bs → All (IsOfItself new) bs
values_on old new f bs h = All-weaker (IsOfItself old) (IsOfItself new) (λ b k. front_there (λ v. is_reference v.role ≡ false) f b.0.0 k) bs h

-- ---- units

-- the part is a procedure still
pub part_on : (old new : Core) → IsLater old new → (part : Option RoutineId) → is_procedure old part ≡ true → is_procedure new part ≡ true
part_on old new l None h = refl
part_on old new l (Some p) h = one (slice_get old.routines p.0) refl h
  where
    two : (r : Routine) (o : Option Routine) → is_none r.result ≡ true → IsSomeAnd o (GivesAlike r) → gives_nothing o ≡ true
    two r None e k = absurd k
    two r (Some s) e k = k ∙ e

    one : (o : Option Routine) → slice_get old.routines p.0 ≡ o → gives_nothing o ≡ true → gives_nothing (slice_get new.routines p.0) ≡ true
    one None e k = absurd (cc)
    one (Some r) e k = two r (slice_get new.routines p.0) k (l.routines.each p.0 r e)

pub unit_on : (old new : Core) → IsLater old new → (u : UnitRow) → is_plain_unit old u ≡ true → is_plain_unit new u ≡ true
unit_on old new l u h =
    let parts = and_parts (is_procedure old u.initialization) (is_procedure old u.finalization) h in
    and_from (is_procedure new u.initialization) (is_procedure new u.finalization) (part_on old new l u.initialization parts.0) (part_on old new l u.finalization parts.1)

pub units_on : (old new : Core) → IsLater old new → (us : List UnitRow) → All (λ u. is_plain_unit old u ≡ true) us → All (λ u. is_plain_unit new u ≡ true) us
units_on old new l us h = All-weaker (λ u. is_plain_unit old u ≡ true) (λ u. is_plain_unit new u ≡ true) (unit_on old new l) us h
