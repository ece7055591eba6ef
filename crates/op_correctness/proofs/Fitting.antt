-- The managed code of a sound program of the class fits, so that its low code may be built.
use Rattle.std.proofs.Common.{◌≡◌, ◌<◌, ◌≤◌, ℕ, ◌+◌, ◌-◌, ◌*◌, ◌^◌, min, List, [], ◌∷◌, ◌++◌, length, map, Option, Some, None, slice_get, true, sym, ap, ◌∙◌, subst, arith}
use Rattle.std.proofs.lemmas.List.Elements.{All-head, All-tail}
use Rattle.std.proofs.lemmas.Option.{slice_get_within}
use Rattle.std.specs.List.{All}
use Rattle.std.specs.Prelude.{IsTrue}
use Rattle.op_base.proofs.Tests.{some_there}
use Rattle.op_constants.specs.Literals.{literals_of}
use Rattle.op_constants.specs.Offsets.{size_in}
use Rattle.op_core.proofs.Rows.{there_is}
use Rattle.op_core.specs.Rows.{rows}
use Rattle.op_core.specs.Sound.{IsSound, IsSoundNesting, RoleAndType, is_of_block, role_and_type}
use Rattle.op_core.specs.declared.ids.RoutineId.{RoutineId}
use Rattle.op_core.specs.declared.ids.TypeId.{TypeId}
use Rattle.op_core.specs.declared.program.Core.{Core}
use Rattle.op_core.specs.declared.routine.Body.{Body}
use Rattle.op_core.specs.declared.routine.Parameter.{Parameter as ParameterRow}
use Rattle.op_core.specs.declared.routine.Role.{Role}
use Rattle.op_core.specs.declared.routine.Role.TheVariants.{Object, Parameter, Result}
use Rattle.op_core.specs.declared.routine.Routine.{Routine as Row}
use Rattle.op_core.specs.declared.routine.Variable.{Variable}
use Rattle.op_expand.specs.Calls.{finalizations}
use Rattle.op_places.specs.Frames.{frame_of, parameters_of}
use Rattle.op_expand.specs.Programs.{low_of}
use Rattle.op_expand.specs.Routines.{most_charge}
use Rattle.op_frames.proofs.GlobalsUnder.{globals_fit}
use Rattle.op_frames.proofs.LowFine.{buildable, valid}
use Rattle.op_frames.proofs.Lowered.{some_blocks}
use Rattle.op_frames.proofs.RegistersUnder.{registers_small}
use Rattle.op_frames.proofs.SoundSizes.{single_some, sizes_small}
use Rattle.op_frames.specs.Charged.{IsCharged}
use Rattle.op_frames.specs.Fitting.{AreFitting, IsFitting, IsPart, registers_of_routine}
use Rattle.op_frames.specs.Made.{AreMade, Every, IsCode}
use Rattle.op_frames.specs.Named.{IsNamed}
use Rattle.op_frames.specs.Wholes.{AreWholesIn}
use Rattle.op_image.specs.Building.{is_buildable}
use Rattle.op_layout.specs.Places.{layout_of}
use Rattle.op_low.specs.Valid.{is_valid}
use Rattle.op_lower.specs.Lowers.{IsRoutine, Lowers}
use Rattle.op_lower.specs.Seen.{seen_blocks}
use Rattle.op_meaning.specs.Charge.{charge_of}
use Rattle.op_meaning.specs.Frames.{program_of}
use Rattle.op_meaning.specs.Shapes.{variables_of}
use Rattle.op_mir.specs.Code.{items_of}
use Rattle.op_mir.specs.FrameNeed.{frame_need}
use Rattle.op_mir.specs.declared.code.Mir.{Mir}
use Rattle.op_mir.specs.declared.code.Routine.{Routine}
use Rattle.op_typing.proofs.Blocks.{blocks_typed}
use Rattle.op_typing.proofs.Callees.{parameters_first}
use Rattle.op_typing.proofs.CodeTyped.{items_are_typed}
use Rattle.op_typing.proofs.Paths.{has_rows, reference_low, routine, rows_of}
use Rattle.op_typing.proofs.Rows.{each_row, not_true}
use Rattle.op_typing.specs.Simple.{IsSimpleProgram, IsSimpleRoutine}
use Rattle.op_typing.specs.Typed.{AreTypedBlocks}
use Rattle.op_wholes.proofs.FramesFit.{all_named, frame_fits, need_fits}
use Rattle.op_wholes.specs.Listed.{wholes_of_statements}
use Rattle.op_correctness.proofs.Finalizations.{PartIs, parts_are}
use Rattle.op_correctness.proofs.Named.{blocks_named}
use Rattle.op_correctness.proofs.ProgramCode.{program_fits}
use Rattle.op_correctness.proofs.Targeting.{blocks_targeted}
use Rattle.op_correctness.specs.Charges.{HasCharge, HaveCharges}
use Rattle.op_correctness.specs.SimpleCore.{IsSimpleCore}

-- ---- rows of variables: none is an object, since no routine is a method

abbrev IsOwn : Variable → Type 0
IsOwn v = v.role ≡ Object → ⊥

-- what a block declares, a parameter and a result are none
block_own : (role : Role) → IsTrue (is_of_block role) → role ≡ Object → ⊥
block_own role of_block e = not_true (sym (ap is_of_block e) ∙ of_block)

parameter_own : (v : Variable) (p : ParameterRow) → role_and_type v ≡ (Parameter p.mode, p.of) → IsOwn v
parameter_own v p e object = let same : Object ≡ Parameter p.mode = sym object ∙ ap (λ o. o.0) e in absurd cc

result_own : (v : Variable) (of : TypeId) → role_and_type v ≡ (Result, of) → IsOwn v
result_own v of e object = let same : Object ≡ Result = sym object ∙ ap (λ o. o.0) e in absurd cc

-- so are all rows that begin with those of parameters and result
rows_own : (ps : List ParameterRow) (result : Option TypeId) (others : List RoleAndType) (vs : List Variable) → All (λ o. IsTrue (is_of_block o.0)) others → map role_and_type vs ≡ rows_of ps result ++ others → Every IsOwn vs
rows_own ps result others [] blocks e = tt
rows_own (p ∷ ps) result others (v ∷ vs) blocks e =
    let head : role_and_type v ≡ (Parameter p.mode, p.of) = cc in
    let tail : map role_and_type vs ≡ rows_of ps result ++ others = cc in
    (parameter_own v p head, rows_own ps result others vs blocks tail)
rows_own [] (Some of) others (v ∷ vs) blocks e =
    let head : role_and_type v ≡ (Result, of) = cc in
    let tail : map role_and_type vs ≡ others = cc in
    (result_own v of head, rows_own [] None others vs blocks tail)
rows_own [] None [] (v ∷ vs) blocks e = absurd cc
rows_own [] None (o ∷ others) (v ∷ vs) blocks e =
    let head : role_and_type v ≡ o = cc in
    let tail : map role_and_type vs ≡ others = cc in
    let here = All-head (λ (o : RoleAndType). IsTrue (is_of_block o.0)) o others blocks in
    (block_own v.role (subst (λ (o : RoleAndType). IsTrue (is_of_block o.0)) (sym head) here), rows_own [] None others vs (All-tail (λ (o : RoleAndType). IsTrue (is_of_block o.0)) o others blocks) tail)

-- what is asked of each variable
kept : (core : Core) (vs : List Variable) → Every (λ v. IsCharged v.role) vs → Every IsOwn vs → Every (λ v. IsCharged v.role × (v.role ≡ Object → size_in core v.of ≤ 4)) vs
kept core [] charged own = tt
kept core (v ∷ vs) (charge, charged) (first, own) = ((charge, λ object. absurd (first object)), kept core vs charged own)

-- a charge that a stack may have is told as it is
charge_told : (charge given : ℕ) → given ≡ min charge (2 ^ 64 - 1) → given ≤ most_charge → charge ≡ given
charge_told charge given e less = omega (arith, e, less)

-- a routine is no method, so it has a body
pub body_there : (core : Core) → IsSound core → IsSimpleCore core → (r : ℕ) (row : Row) → slice_get core.routines r ≡ Some row → (b : Body) × (row.body ≡ Some b)
body_there core sound is r row there = some_there row.body ((routine core sound is.simple r row there).has_body (each_row (IsSimpleRoutine core) core.routines r row is.simple.routines there).owner)

-- ---- a routine

module _ (core : Core) (sound : IsSound core) (nesting : IsSoundNesting core) (is : IsSimpleCore core) (r : ℕ) (charge : HasCharge core r) (row : Row) (there : slice_get core.routines r ≡ Some row) (x : Routine) (lowered : IsRoutine core r x) where
  simple : IsSimpleProgram core
  simple = is.simple

  -- it is no method, so it has a body
  has_body : (b : Body) × (row.body ≡ Some b)
  has_body = body_there core sound is r row there

  -- each of its variables has words in the charge, which are enough
  rows_kept : Every (λ v. IsCharged v.role × (v.role ≡ Object → size_in core v.of ≤ 4)) (rows core.variables (variables_of core r))
  rows_kept =
      let begins = has_rows core sound simple r row there in
      kept core (rows core.variables (variables_of core r)) charge.variables (rows_own (rows core.parameters row.parameters) row.result begins.others (rows core.variables (variables_of core r)) begins.of_block begins.are)

  -- Its frame takes no more than it is charged, and less where it has few parameters.
  pub frame_charged : x.charge ≤ most_charge → (frame_of core r x).locals + 4 * (registers_of_routine core r x + 1) + 4 * (63 - parameters_of core r) ≤ x.charge
  frame_charged less =
      let (b, body) = has_body in
      let within = frame_fits core 0 r row b sound simple there body x lowered (is.counted 0 r) rows_kept charge.parameters in
      let told = charge_told (charge_of core (record { 0 = r })) x.charge lowered.charge less in
      omega (arith, within, told)

  -- Its charge is at least its need, which counts as the greatest number of 64 bits where it is more.
  pub need_charged : min (frame_need core r x) (2 ^ 64 - 1) ≤ x.charge
  need_charged =
      let (b, body) = has_body in
      let within = need_fits core 0 r row b sound simple there body x lowered (is.counted 0 r) rows_kept charge.parameters in
      let told = lowered.charge in
      least (frame_need core r x) (charge_of core (record { 0 = r })) x.charge within told
    where
      least : (need charge given : ℕ) → need ≤ charge → given ≡ min charge (2 ^ 64 - 1) → min need (2 ^ 64 - 1) ≤ given
      least need charge given less e = omega (arith, less, e)

  -- its blocks are typed
  typed : AreTypedBlocks core r (seen_blocks core r x.blocks)
  typed = subst (AreTypedBlocks core r) (sym (lowered.blocks 0)) (blocks_typed core r (items_of (program_of core 0) r) (items_are_typed core 0 sound nesting simple r))

  -- they are made of items that have code
  made : AreMade (AreWholesIn (wholes_of_statements core 0 ((program_of core 0).body r))) (length x.blocks) (items_of (program_of core 0) r)
  made = let (b, body) = has_body in all_named core 0 r row b sound simple there body (is.counted 0 r) (length x.blocks)

  -- Its blocks name what is there.
  pub routine_named : Every (IsCode (IsNamed core (length x.blocks))) (seen_blocks core r x.blocks)
  routine_named =
      blocks_named core sound simple r (length x.blocks) (seen_blocks core r x.blocks) typed
      (blocks_targeted (AreWholesIn (wholes_of_statements core 0 ((program_of core 0).body r))) core 0 r x lowered made)

  -- It fits.
  pub routine_fits : IsFitting core r x
  routine_fits =
      let (b, body) = has_body in
      let few = charge.parameters in
      record {
        code = routine_named;
        some = some_blocks core 0 r x lowered;
        temporaries = lowered.temporaries;
        references = λ k v at refers. subst (λ n. k < n) (parameters_first core sound simple r row there) (reference_low core sound simple r row there k v at refers);
        parameters = omega (arith, few);
        registers = λ less. registers_small core 0 r row b there body x lowered (is.counted 0 r) charge.variables (single_some core sound.extents) few less;
        locals = λ less. let within = frame_charged less in omega (arith, within, less);
      }

-- ---- the program

module _ (core : Core) (mir : Mir) (sound : IsSound core) (nesting : IsSoundNesting core) (is : IsSimpleCore core) (charges : HaveCharges core) (lowers : Lowers core mir) where
  -- a routine of managed code has a row
  pub row_of : (r : ℕ) (x : Routine) → slice_get mir.routines r ≡ Some x → (row : Row) × (slice_get core.routines r ≡ Some row)
  row_of r x at = let low = slice_get_within mir.routines r x at in let number = lowers.number in there_is core.routines r (omega (arith, low, number))

  -- Each routine fits.
  pub each_fits : (r : ℕ) (x : Routine) → slice_get mir.routines r ≡ Some x → IsFitting core r x
  each_fits r x at =
      let (row, there) = row_of r x at in
      routine_fits core sound nesting is r (charges r (slice_get_within core.routines r row there)) row there x (lowers.routines r x at)

  -- and each finalization part is one
  each_part : (fs : List RoutineId) → All (PartIs core) fs → Every (IsPart core) fs
  each_part [] are = tt
  each_part (f ∷ fs) are = let here = All-head (PartIs core) f fs are in ((here.low, here.parameters), each_part fs (All-tail (PartIs core) f fs are))

  -- So does the program.
  pub are_fitting : AreFitting core mir
  are_fitting = record {
    sizes = sizes_small core sound;
    number = lowers.number;
    routines = each_fits;
    program = subst (λ n. IsFitting core n mir.program) (sym lowers.number) (program_fits core sound nesting is.simple mir.program lowers.program);
    parts = each_part (finalizations core) (parts_are core core.units sound.units is.simple.units);
  }

  -- The low code names what is there, whatever the stack.
  pub low_is_valid : (stack : ℕ) → is_valid (low_of core mir stack) ≡ true
  low_is_valid stack = valid core mir stack are_fitting

  -- It may be built.
  pub low_is_buildable : (stack : ℕ) → is_buildable (low_of core mir stack) (layout_of (literals_of core mir)) ≡ true
  low_is_buildable stack = buildable core mir stack are_fitting (globals_fit core sound)
