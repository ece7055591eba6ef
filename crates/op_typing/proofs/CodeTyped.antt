-- The managed code of a sound program without strings and references is typed.
use Rattle.std.proofs.Common.{◌≡◌, ◌<◌, ◌≤◌, ℕ, zero, suc, ◌+◌, Bool, true, false, List, [], ◌∷◌, ◌++◌, length, take, drop, Option, Some, None, slice_get, nat_eq, if◌then◌else◌, refl, sym, ap, subst, ◌∙◌, arith}
use Rattle.std.proofs.lemmas.Bool.{false_from_ne_true}
use Rattle.std.proofs.lemmas.List.Elements.{All-append, All-cons, All-drop, All-nil}
use Rattle.std.proofs.lemmas.Option.{none-some, same_Some}
use Rattle.std.specs.List.{All, flat_map}
use Rattle.std.specs.Option.{option_map}
use Rattle.std.specs.Prelude.{Box}
use Rattle.std.specs.declared.alloc.Global.{Global}
use Rattle.op_constants.proofs.SoundFirst.{row_fits}
use Rattle.op_core.specs.Initial.{FirstValue, first_value_of}
use Rattle.op_core.specs.Sound.{IsPart, IsSound, IsSoundNesting, IsUnit, at_start, within}
use Rattle.op_core.specs.Statement.{Statements, no_statements, stmts_of}
use Rattle.op_core.specs.StatementTyping.{AreStatements}
use Rattle.op_core.specs.declared.constant.Initial.{Initial}
use Rattle.op_core.specs.declared.ids.RoutineId.{RoutineId}
use Rattle.op_core.specs.declared.program.Core.{Core}
use Rattle.op_core.specs.declared.program.Unit.{Unit as UnitRow}
use Rattle.op_core.specs.declared.routine.Body.{Body}
use Rattle.op_core.specs.declared.routine.Owner.TheVariants.{Unit as OfUnit}
use Rattle.op_core.specs.declared.routine.Routine.{Routine}
use Rattle.op_core.specs.declared.routine.Variable.{Variable}
use Rattle.op_meaning.specs.Actions.{begin_with}
use Rattle.op_meaning.specs.Expressions.{first_here}
use Rattle.op_meaning.specs.Frames.{program_of}
use Rattle.op_meaning.specs.Items.{Items, none, act, nowhere, only}
use Rattle.op_meaning.specs.Shapes.{is_reference, type_of_local, type_of_row, variables_of}
use Rattle.op_meaning.specs.Statements.{first_items, work_of_all}
use Rattle.op_mir.specs.Code.{Instr, blocks_in, blocks_of, do_call, items_of, make_due, program_blocks, ret, unit_code}
use Rattle.op_typing.proofs.Actions.{both}
use Rattle.op_typing.proofs.Blocks.{blocks_typed}
use Rattle.op_typing.proofs.Founds.{env_at}
use Rattle.op_typing.proofs.Bodies.{statements_typed}
use Rattle.op_typing.proofs.Rows.{each_row, if_some, of_some, some_and}
use Rattle.op_typing.proofs.Types.{solid_is}
use Rattle.op_typing.specs.Claims.{CodeIsTyped, ItemsAreTyped, MirIsTyped}
use Rattle.op_typing.specs.Simple.{AreSimpleStatements, IsProcedure, IsSimpleProgram, IsSimpleRoutine, IsSimpleUnit, IsSolidType}
use Rattle.op_typing.specs.Typed.{AreTyped, AreTypedBlocks, AreTypedGiven, AreTypedInstrs, IsTypedAction, IsTypedCall, IsTypedInstr, IsTypedReceiver, OwnValue}

-- ---- bodies and first values, as the program has them

abbrev statements_by : Option Body → Statements
statements_by None = no_statements
statements_by (Some b) = stmts_of b.statements.items

abbrev body_by : Option Routine → Statements
body_by None = no_statements
body_by (Some y) = statements_by y.body

abbrev first_by : Option Variable → Option FirstValue
first_by None = None
first_by (Some v) = option_map (λ i. first_value_of i.value) v.first_value

abbrev begin_by : Core → ℕ → ℕ → Option FirstValue → Items
begin_by core r v None = none
begin_by core r v (Some value) = only (act (begin_with v (type_of_local core r v) value))

abbrev entering_by : Option RoutineId → List Instr
entering_by None = []
entering_by (Some q) = do_call q.0 [] nowhere None ∷ []

abbrev due_by : Option RoutineId → List Instr
due_by None = []
due_by (Some q) = make_due q ∷ []

mapped_first : (o : Option (Box Initial Global)) (value : FirstValue) → option_map (λ i. first_value_of i.value) o ≡ Some value → (b : Box Initial Global) × (o ≡ Some b) × (first_value_of b.value ≡ value)
mapped_first None value e = absurd (none-some _ e)
mapped_first (Some b) value e = (b, refl, same_Some _ _ e)

first_is : (o : Option Variable) (value : FirstValue) → first_by o ≡ Some value → (v : Variable) × (b : Box Initial Global) × (o ≡ Some v) × (v.first_value ≡ Some b) × (first_value_of b.value ≡ value)
first_is None value e = absurd (none-some _ e)
first_is (Some v) value e = let (b, is_there, same) = mapped_first v.first_value value e in (v, b, refl, is_there, same)

module _ (core : Core) (stack : ℕ) (sound : IsSound core) (nesting : IsSoundNesting core) (simple : IsSimpleProgram core) (r : ℕ) where
  -- ---- first values

  begin_typed : (v : ℕ) (value : FirstValue) → v < (variables_of core r).count → first_by (slice_get core.variables ((variables_of core r).first + v)) ≡ Some value → IsTypedAction core r (begin_with v (type_of_local core r v) value)
  begin_typed v value few e =
      let n = (variables_of core r).first + v in
      let (row, b, is_row, is_first, same) = first_is (slice_get core.variables n) value e in
      let fits = row_fits core sound n row b is_row is_first in
      let of : row.of ≡ type_of_local core r v = sym (ap type_of_row is_row) in
      let solid = each_row (λ v. IsSolidType core v.of) core.variables n row simple.variables is_row in
      let own = false_from_ne_true (is_reference row.role) (λ refers. none-some _ (sym (each_row (λ v. is_reference v.role ≡ true → v.first_value ≡ None) core.variables n row simple.references is_row refers) ∙ is_first)) in
      let there = of_some (slice_get core.variables n) (OwnValue row.of) row is_row (refl, own) in
      subst (λ of. IsTypedAction core r (begin_with v of value)) of (subst (λ value. IsTypedAction core r (begin_with v row.of value)) same ((few, there), fits.0, solid_is core row.of solid, fits.1))

  item_typed : (v : ℕ) → v < (variables_of core r).count → (o : Option FirstValue) → first_by (slice_get core.variables ((variables_of core r).first + v)) ≡ o → AreTyped core r (begin_by core r v o)
  item_typed v few None e = tt
  item_typed v few (Some value) e = (begin_typed v value few e, tt)

  first_typed : (n : ℕ) → n ≤ (variables_of core r).count → AreTyped core r (first_items core (λ v. first_by (slice_get core.variables v)) r n)
  first_typed zero few = tt
  first_typed (suc v) few =
      let o = first_by (slice_get core.variables ((variables_of core r).first + v)) in
      both core r (first_items core (λ v. first_by (slice_get core.variables v)) r v) (begin_by core r v o) (first_typed v (omega (arith, few))) (item_typed v (omega (arith, few)) o refl)

  -- ---- routines

  body_typed : (o : Option Routine) → slice_get core.routines r ≡ o → AreTyped core r (work_of_all (env_at core r) first_here (body_by o))
  body_typed None e = tt
  body_typed (Some x) e = by x.body refl
    where
      plain : IsSimpleRoutine core x
      plain = each_row (IsSimpleRoutine core) core.routines r x simple.routines e

      by : (b : Option Body) → x.body ≡ b → AreTyped core r (work_of_all (env_at core r) first_here (statements_by b))
      by None absent = tt
      by (Some b) some =
          let are = if_some x.body (λ b. AreStatements core (within core r) (at_start x) (stmts_of b.statements.items)) b (nesting.bodies r x e) some in
          let are_simple = if_some x.body (λ b. AreSimpleStatements core (stmts_of b.statements.items)) b plain.body some in
          statements_typed core sound simple r x e (stmts_of b.statements.items) (at_start x) first_here refl are are_simple

  items_typed : AreTyped core r (items_of (program_of core stack) r)
  items_typed =
      both core r (first_items core (λ v. first_by (slice_get core.variables v)) r (variables_of core r).count) (work_of_all (env_at core r) first_here (body_by (slice_get core.routines r)))
      (first_typed (variables_of core r).count (omega arith)) (body_typed (slice_get core.routines r) refl)

  -- ---- the program's own code

  nothing : AreTypedInstrs core r []
  nothing = All-nil (IsTypedInstr core r)

  part_typed : (part : Option RoutineId) → IsPart core part → IsProcedure core part → AreTypedInstrs core r (entering_by part)
  part_typed None h k = nothing
  part_typed (Some q) h k =
      let (y, at, facts) = some_and (slice_get core.routines q.0) (λ y. (y.owner ≡ OfUnit) × (y.parameters.count ≡ 0)) h in
      let (z, same, nothing_given) = some_and (slice_get core.routines q.0) (λ y. y.result ≡ None) k in
      let gives : y.result ≡ None = ap (λ y. y.result) (same_Some _ _ (sym at ∙ same)) ∙ nothing_given in
      let enters : IsTypedCall core r q.0 [] nowhere = record {
        callee = y;
        there = at;
        owner = facts.0;
        arguments = subst (λ n. AreTypedGiven core r [] (take n (drop y.parameters.first core.parameters))) (sym facts.1) tt;
        result = subst (λ o. IsTypedReceiver core o nowhere) (sym gives) tt;
      } in
      All-cons (IsTypedInstr core r) (do_call q.0 [] nowhere None) [] enters nothing

  due_typed : (part : Option RoutineId) → AreTypedInstrs core r (due_by part)
  due_typed None = nothing
  due_typed (Some q) = All-cons (IsTypedInstr core r) (make_due q) [] tt nothing

  units_typed : (us : List UnitRow) → All (IsUnit core) us → All (IsSimpleUnit core) us → AreTypedInstrs core r (flat_map unit_code us)
  units_typed [] h k = nothing
  units_typed (u ∷ us) h k =
      let is_unit = each_row (IsUnit core) (u ∷ us) 0 u h refl in
      let is_simple = each_row (IsSimpleUnit core) (u ∷ us) 0 u k refl in
      All-append (IsTypedInstr core r) (unit_code u) (flat_map unit_code us)
      (All-append (IsTypedInstr core r) (entering_by u.initialization) (due_by u.finalization) (part_typed u.initialization is_unit.2 is_simple.0) (due_typed u.finalization))
      (units_typed us (All-drop (IsUnit core) 1 (u ∷ us) h) (All-drop (IsSimpleUnit core) 1 (u ∷ us) k))

  program_typed : AreTypedBlocks core r (program_blocks (program_of core stack))
  program_typed =
      let returns : AreTypedInstrs core r (ret ∷ []) = All-cons (IsTypedInstr core r) ret [] tt nothing in
      let first = flat_map unit_code core.units ++ ret ∷ [] in
      All-cons (AreTypedInstrs core r) first ((ret ∷ []) ∷ [])
      (All-append (IsTypedInstr core r) (flat_map unit_code core.units) (ret ∷ []) (units_typed core.units sound.units simple.units) returns)
      (All-cons (AreTypedInstrs core r) (ret ∷ []) [] returns (All-nil (AreTypedInstrs core r)))

  code_typed : AreTypedBlocks core r (blocks_in (program_of core stack) r)
  code_typed = by (nat_eq r (length core.routines))
    where
      by : (b : Bool) → AreTypedBlocks core r (if b then program_blocks (program_of core stack) else blocks_of (items_of (program_of core stack) r))
      by true = program_typed
      by false = blocks_typed core r (items_of (program_of core stack) r) items_typed

pub items_are_typed : ItemsAreTyped
items_are_typed core stack sound nesting simple r = items_typed core stack sound nesting simple r

pub code_is_typed : CodeIsTyped
code_is_typed core stack sound nesting simple r = code_typed core stack sound nesting simple r

pub mir_is_typed : MirIsTyped
mir_is_typed core mir stack sound nesting simple same r = subst (AreTypedBlocks core r) (sym (same r)) (code_is_typed core stack sound nesting simple r)
