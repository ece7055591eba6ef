-- What the low code of a routine, and of each of its instructions, comes to.
use Rattle.std.proofs.Common.{◌≡◌, ◌≤◌, ℕ, zero, suc, ◌+◌, ◌*◌, Bool, true, false, nat_lt, List, [], ◌∷◌, ◌++◌, length, map, take, drop, Option, Some, None, slice_get, refl, sym, ap, subst, arith}
use Rattle.std.proofs.lemmas.List.Concat.{flat_map-cons}
use Rattle.std.proofs.lemmas.List.{length-take}
use Rattle.std.specs.List.{flat_map}
use Rattle.op_constants.specs.Offsets.{size_in}
use Rattle.op_constants.specs.Shapes.{is_composite}
use Rattle.op_core.specs.Initial.{FirstValue}
use Rattle.op_core.specs.Rows.{rows}
use Rattle.op_core.specs.declared.ids.RoutineId.{RoutineId}
use Rattle.op_core.specs.declared.program.Core.{Core}
use Rattle.op_core.specs.declared.program.Unit.{Unit as UnitRow}
use Rattle.op_core.specs.declared.routine.Body.{Body}
use Rattle.op_core.specs.declared.routine.Routine.{Routine as Row}
use Rattle.op_core.specs.declared.routine.Variable.{Variable}
use Rattle.op_places.specs.Frames.{frame_of, parameters_of}
use Rattle.op_places.specs.Homes.{home_at, parameter}
use Rattle.op_expand.specs.Routines.{all_blocks, all_received, beginning, blocks_of as low_blocks, code_of, error_blocks, instruction_code, low_routine, most_charge, received, received_number}
use Rattle.op_places.specs.declared.frame.Frame.{Frame}
use Rattle.op_places.specs.declared.frame.Returning.{Returning}
use Rattle.op_places.specs.declared.frame.Returning.TheVariants.{Ending, Nothing, Result}
use Rattle.op_places.specs.declared.homes.Home.{Home}
use Rattle.op_places.specs.declared.homes.Home.TheVariants.{Held, Stored, Shared}
use Rattle.op_frames.proofs.MadeLemmas.{every_append}
use Rattle.op_frames.specs.Counted.{AreCountedStatements}
use Rattle.op_frames.specs.Made.{Every}
use Rattle.op_low.specs.declared.code.Block.{Block as LowBlock}
use Rattle.op_low.specs.declared.instruction.Instruction.{Instruction as LowInstruction}
use Rattle.op_lower.specs.Lowers.{IsProgram, IsRoutine}
use Rattle.op_meaning.specs.Actions.{Action, begin_with}
use Rattle.op_meaning.specs.Calls.{env_of}
use Rattle.op_meaning.specs.Charge.{charge_of, nodes_of, statements_weight}
use Rattle.op_meaning.specs.Expressions.{first_here}
use Rattle.op_meaning.specs.Frames.{program_of}
use Rattle.op_meaning.specs.Items.{Item, act, Items, none, then_do, ◌&◌, only}
use Rattle.op_meaning.specs.Shapes.{shape_of, type_of_local, variables_of}
use Rattle.op_meaning.specs.Statements.{first_items, kind_of, work_of_all}
use Rattle.op_mir.specs.Code.{Exits, Instr, blocks_of, becoming_due, code, entering, items_of, jump, ret, routine_exits, unit_code}
use Rattle.op_mir.specs.View.{view_block, view_instruction}
use Rattle.op_mir.specs.declared.code.Block.{Block}
use Rattle.op_mir.specs.declared.code.Mir.{Mir}
use Rattle.op_mir.specs.declared.code.Routine.{Routine}
use Rattle.op_mir.specs.declared.instruction.Instruction.{Instruction}
use Rattle.op_mir.specs.declared.path.Root.TheVariants.{Local}
use Rattle.op_rt_text.specs.Names.{register}
use Rattle.op_compute.specs.Bank.{scratch_of}
use Rattle.op_sizes.proofs.ComputingSmall.{join, either}
use Rattle.op_sizes.proofs.ExpressionsSmall.{both_size}
use Rattle.op_sizes.proofs.ItemsSmall.{blocks_small, code_small}
use Rattle.op_sizes.proofs.MovesSmall.{instruction_small, store_small, taken_small}
use Rattle.op_sizes.proofs.StatementsSmall.{all_small, first_small}
use Rattle.op_sizes.specs.Claims.{AreSmall, IsSmall, received_in}
use Rattle.op_sizes.specs.Sizes.{action_size, blocks_size, code_size, instruction_size, items_size}
use Rattle.op_sizes.specs.Weights.{blocks_weight, code_weight}
use Rattle.op_sizes.specs.Written.{AreWrittenStatements}

-- ---- low code of managed code

module _ (core : Core) (mir : Mir) (frame : Frame) (r : ℕ) where
  code_light : (texts : List (List ℕ)) (code : List Instruction) → code_weight (code_of core mir frame texts code) ≤ code_size (map (view_instruction core r) code)
  code_light texts [] = omega arith
  code_light texts (i ∷ is) =
      let first = instruction_small core frame mir r texts i in
      let rest = code_light texts is in
      let all = join (instruction_code core mir frame texts i) (code_of core mir frame texts is) in
      omega (arith, first, rest, all)

  blocks_light : (texts : List (List ℕ)) (front : List LowInstruction) (bs : List Block) → blocks_weight (low_blocks core mir frame texts front bs) ≤ code_weight front + blocks_size (map (view_block core r) bs)
  blocks_light texts front [] = omega arith
  blocks_light texts front (b ∷ bs) =
      let first = code_light texts b.code in
      let rest = blocks_light texts [] bs in
      let all = join front (code_of core mir frame texts b.code) in
      omega (arith, first, rest, all)

pub low_join : (a b : List LowBlock) → blocks_weight (a ++ b) ≡ blocks_weight a + blocks_weight b
low_join [] b = omega arith
low_join (x ∷ a) b = let e = low_join a b in omega (arith, e)

-- a routine that is charged more than any stack has is one block of an error
low_light : (core : Core) (mir : Mir) (r : ℕ) (texts : List (List ℕ)) (routine : Routine) (n : ℕ) → 5 ≤ n → blocks_weight (all_blocks core mir texts r routine) ≤ n → blocks_weight (low_routine core mir texts r routine).blocks ≤ n
low_light core mir r texts routine n some less = by (nat_lt most_charge routine.charge) refl
  where
    by : (b : Bool) → nat_lt most_charge routine.charge ≡ b → blocks_weight (low_routine core mir texts r routine).blocks ≤ n
    by true e = rw e (omega (arith, some))
    by false e = rw e less

-- ---- the beginning of a routine

module _ (core : Core) (frame : Frame) where
  received_light : (k : ℕ) (v : Variable) → code_weight (received core frame k v) ≤ 8
  received_light k v = by (home_at frame.homes (record { 0 = k })) refl
    where
      by : (h : Home) → home_at frame.homes (record { 0 = k }) ≡ h → code_weight (received core frame k v) ≤ 8
      by (Held q) e = rw e (omega arith)
      by (Shared id) e = rw e (omega arith)
      by (Stored offset) e = rw e (
          let s = store_small core frame (kind_of core v.of) (register (parameter k)) (Local (record { 0 = k })) [] (scratch_of frame.bank 0) in
          let t = taken_small core frame (register (parameter k)) (size_in core v.of) (record { 0 = k }) in
          either (is_composite (shape_of core v.of)) _ (received_number core frame k v.of) 8 t (omega (arith, s))
          )

  all_received_light : (k : ℕ) (vs : List Variable) → code_weight (all_received core frame k vs) ≤ 8 * length vs
  all_received_light k [] = omega arith
  all_received_light k (v ∷ vs) =
      let first = received_light k v in
      let rest = all_received_light (k + 1) vs in
      let all = join (received core frame k v) (all_received core frame (k + 1) vs) in
      omega (arith, first, rest, all)

  rows_few : (r : ℕ) → length (take (parameters_of core r) (rows core.variables (variables_of core r))) ≤ (variables_of core r).count
  rows_few r =
      let run = variables_of core r in
      let a = length-take (parameters_of core r) (rows core.variables run) in
      let b = length-take run.count (drop run.first core.variables) in
      omega (arith, a, b)

  parameters_light : (r : ℕ) → code_weight (all_received core frame 0 (take (parameters_of core r) (rows core.variables (variables_of core r)))) ≤ 2 + 8 * received_in core r
  parameters_light r = let a = all_received_light 0 (take (parameters_of core r) (rows core.variables (variables_of core r))) in omega (arith, a)

beginning_light : (core : Core) (frame : Frame) (r : ℕ) → code_weight (beginning core frame r) ≤ 2 + 8 * received_in core r
beginning_light core frame r = by frame.returning refl
  where
    by : (o : Returning) → frame.returning ≡ o → code_weight (beginning core frame r) ≤ 2 + 8 * received_in core r
    by Ending e = rw e (omega arith)
    by Nothing e = rw e (parameters_light core (record frame { returning = Nothing }) r)
    by (Result of v) e = rw e (parameters_light core (record frame { returning = Result of v }) r)

-- ---- items of a routine

module _ (core : Core) (stack r : ℕ) (counted : AreCountedStatements ((program_of core stack).body r)) (written : AreWrittenStatements ((program_of core stack).body r)) where
  abbrev nodes : ℕ
  nodes = nodes_of (statements_weight core ((program_of core stack).body r))

  abbrev firsts : Items
  firsts = first_items core (program_of core stack).first r (variables_of core r).count

  abbrev work : Items
  work = work_of_all (env_of (program_of core stack) r) first_here ((program_of core stack).body r)

  work_light : items_size work ≤ 44 * nodes
  work_light = all_small (env_of (program_of core stack) r) first_here ((program_of core stack).body r) counted written

  items_light : items_size (items_of (program_of core stack) r) ≤ 44 * nodes + 9 * (variables_of core r).count
  items_light =
      let a = first_small core (program_of core stack).first r (variables_of core r).count in
      let b = work_light in
      let all = both_size firsts work in
      omega (arith, a, b, all)

  blocks_all : (mir : Mir) (texts : List (List ℕ)) (routine : Routine) → IsRoutine core r routine → blocks_weight (all_blocks core mir texts r routine) ≤ 44 * nodes + 8 * received_in core r + 9 * (variables_of core r).count + 46
  blocks_all mir texts routine is =
      let frame = frame_of core r routine in
      let front = beginning core frame r in
      let begins = beginning_light core frame r in
      let light = blocks_light core mir frame r texts front routine.blocks in
      let seen = ap blocks_size (is.blocks stack) in
      let small = blocks_small (items_of (program_of core stack) r) in
      let items = items_light in
      let all = low_join (low_blocks core mir frame texts front routine.blocks) error_blocks in
      omega (arith, begins, light, seen, small, items, all)

  pub routine_light : (mir : Mir) (texts : List (List ℕ)) (routine : Routine) → IsRoutine core r routine → blocks_weight (low_routine core mir texts r routine).blocks ≤ 44 * nodes + 8 * received_in core r + 9 * (variables_of core r).count + 46
  routine_light mir texts routine is = low_light core mir r texts routine (44 * nodes + 8 * received_in core r + 9 * (variables_of core r).count + 46) (omega arith) (blocks_all mir texts routine is)

-- ---- single instructions

module _ (most : ℕ) where
  abbrev IsLight : Instr → Type 0
  IsLight i = instruction_size i ≤ most

  -- an instruction is no more than all of them
  each_light : (code : List Instr) → code_size code ≤ most → Every IsLight code
  each_light [] less = tt
  each_light (i ∷ is) less = (omega (arith, less), each_light is (omega (arith, less)))

  blocks_each : (blocks : List (List Instr)) → blocks_size blocks ≤ most → Every (Every IsLight) blocks
  blocks_each [] less = tt
  blocks_each (b ∷ bs) less = (each_light b (omega (arith, less)), blocks_each bs (omega (arith, less)))

  -- items that are one small action each
  record IsFew (i : Item) : Type 0 where
    action : Action
    are : i ≡ act action
    few : action_size action ≤ 9

  abbrev AreFew : Items → Type 0
  AreFew none = Unit {0}
  AreFew (then_do i others) = IsFew i × AreFew others

  few_both : (a b : Items) → AreFew a → AreFew b → AreFew (a & b)
  few_both none b p q = q
  few_both (then_do i others) b p q = (p.0, few_both others b p.1 q)

  first_few : (core : Core) (first : ℕ → Option FirstValue) (r n : ℕ) → AreFew (first_items core first r n)
  first_few core first r zero = tt
  first_few core first r (suc v) = by (first_few core first r v) (first ((variables_of core r).first + v)) refl
    where
      by : AreFew (first_items core first r v) → (o : Option FirstValue) → first ((variables_of core r).first + v) ≡ o → AreFew (first_items core first r (suc v))
      by so_far None e = rw e (few_both (first_items core first r v) none so_far tt)
      by so_far (Some value) e = rw e (few_both (first_items core first r v) (only (act (begin_with v (type_of_local core r v) value))) so_far (record { action = begin_with v (type_of_local core r v) value; are = refl; few = omega arith }, tt))

  -- in front of other items
  in_front : 9 ≤ most → (out : Exits) (a b : Items) (k : ℕ) (behind : List Instr) → AreFew a → Every IsLight (code out b k behind).now → Every (Every IsLight) (code out b k behind).blocks → Every IsLight (code out (a & b) k behind).now × Every (Every IsLight) (code out (a & b) k behind).blocks
  in_front nine out none b k behind few now blocks = (now, blocks)
  in_front nine out (then_do i others) b k behind few now blocks =
      let rest = in_front nine out others b k behind few.1 now blocks in
      let here = few.0 in
      let less : action_size here.action ≤ most = omega (arith, nine, here.few) in
      subst (λ x. Every IsLight (code out (then_do x (others & b)) k behind).now × Every (Every IsLight) (code out (then_do x (others & b)) k behind).blocks) (sym here.are)
      ((less, rest.0), every_append (Every IsLight) (code out (others & b) k behind).blocks [] rest.1 tt)

  all_light : (a b : Items) → 22 ≤ most → AreFew a → 1 + items_size b ≤ most → Every (Every IsLight) (blocks_of (a & b))
  all_light a b some few less =
      let one : code_size (jump 1 ∷ []) ≤ 2 = omega arith in
      let c = code_small routine_exits b 2 (jump 1 ∷ []) (λ reason. one) in
      let each = in_front (omega (arith, some)) routine_exits a b 2 (jump 1 ∷ []) few (each_light (code routine_exits b 2 (jump 1 ∷ [])).now (omega (arith, less, c))) (blocks_each (code routine_exits b 2 (jump 1 ∷ [])).blocks (omega (arith, less, c))) in
      (each.0, ((some, tt), each.1))

-- of managed code as it is
module _ (core : Core) (mir : Mir) (r most : ℕ) where
  code_each : (code : List Instruction) → Every (IsLight most) (map (view_instruction core r) code) → Every (IsSmall core mir most) code
  code_each [] p = tt
  code_each (i ∷ is) p = (λ frame texts. let e = instruction_small core frame mir r texts i in omega (arith, e, p.0), code_each is p.1)

  blocks_of_each : (bs : List Block) → Every (Every (IsLight most)) (map (view_block core r) bs) → Every (λ b. Every (IsSmall core mir most) b.code) bs
  blocks_of_each [] p = tt
  blocks_of_each (b ∷ bs) p = (code_each b.code p.0, blocks_of_each bs p.1)

-- ---- charges

charged : (core : Core) (stack r : ℕ) (row : Row) → slice_get core.routines r ≡ Some row → 256 + 16 * nodes_of (statements_weight core ((program_of core stack).body r)) ≤ charge_of core (record { 0 = r })
charged core stack r row there = by row.body refl
  where
    by : (b : Option Body) → row.body ≡ b → 256 + 16 * nodes_of (statements_weight core ((program_of core stack).body r)) ≤ charge_of core (record { 0 = r })
    by None e = rw there (rw e (omega arith))
    by (Some b) e = rw there (rw e (omega arith))

pub instructions_light : (core : Core) (mir : Mir) (stack r : ℕ) (row : Row) (routine : Routine) → slice_get core.routines r ≡ Some row → IsRoutine core r routine → AreCountedStatements ((program_of core stack).body r) → AreWrittenStatements ((program_of core stack).body r) → AreSmall core mir (3 * charge_of core (record { 0 = r })) routine
instructions_light core mir stack r row routine there is counted written =
    let p = program_of core stack in
    let most = 3 * charge_of core (record { 0 = r }) in
    let covers = charged core stack r row there in
    let work = work_light core stack r counted written in
    let few = first_few most core p.first r (variables_of core r).count in
    let each = all_light most (first_items core p.first r (variables_of core r).count) (work_of_all (env_of p r) first_here (p.body r)) (omega (arith, covers)) few (omega (arith, covers, work)) in
    blocks_of_each core mir r most routine.blocks (subst (Every (Every (IsLight most))) (sym (is.blocks stack)) each)

-- ---- what stands below all routines

entering_light : (o : Option RoutineId) → code_size (entering o) ≤ 6
entering_light None = omega arith
entering_light (Some r) = omega arith

due_light : (o : Option RoutineId) → code_size (becoming_due o) ≤ 4
due_light None = omega arith
due_light (Some r) = omega arith

code_join : (a b : List Instr) → code_size (a ++ b) ≡ code_size a + code_size b
code_join [] b = omega arith
code_join (i ∷ a) b = let e = code_join a b in omega (arith, e)

units_light : (us : List UnitRow) → code_size (flat_map unit_code us) ≤ 10 * length us
units_light [] = omega arith
units_light (u ∷ us) =
    let a = entering_light u.initialization in
    let b = due_light u.finalization in
    let one = code_join (entering u.initialization) (becoming_due u.finalization) in
    let rest = units_light us in
    let all = code_join (unit_code u) (flat_map unit_code us) in
    let e = ap code_size (flat_map-cons unit_code u us) in
    omega (arith, a, b, one, rest, all, e)

units_each : (us : List UnitRow) → Every (IsLight 22) (flat_map unit_code us)
units_each [] = tt
units_each (u ∷ us) =
    let a = entering_light u.initialization in
    let b = due_light u.finalization in
    let one = code_join (entering u.initialization) (becoming_due u.finalization) in
    subst (Every (IsLight 22)) (sym (flat_map-cons unit_code u us)) (every_append (IsLight 22) (unit_code u) (flat_map unit_code us) (each_light 22 (unit_code u) (omega (arith, a, b, one))) (units_each us))

pub program_light : (core : Core) (mir : Mir) (r : ℕ) (texts : List (List ℕ)) (routine : Routine) → IsProgram core.units routine → AreSmall core mir 22 routine × (blocks_weight (low_routine core mir texts r routine).blocks ≤ 10 * length core.units + 17 * (variables_of core r).count + 68)
program_light core mir r texts routine is =
    let frame = frame_of core r routine in
    let front = beginning core frame r in
    let begins = beginning_light core frame r in
    let rows_there = rows_few core frame r in
    let light = blocks_light core mir frame r texts front routine.blocks in
    let seen = ap blocks_size (is.blocks core r) in
    let units = units_light core.units in
    let whole = code_join (flat_map unit_code core.units) (ret ∷ []) in
    let all = low_join (low_blocks core mir frame texts front routine.blocks) error_blocks in
    let returns : 22 ≤ 22 = omega arith in
    let each = every_append (IsLight 22) (flat_map unit_code core.units) (ret ∷ []) (units_each core.units) (returns, tt) in
    let most = 10 * length core.units + 17 * (variables_of core r).count + 68 in (
      blocks_of_each core mir r 22 routine.blocks (subst (Every (Every (IsLight 22))) (sym (is.blocks core r)) (each, ((returns, tt), tt))),
      low_light core mir r texts routine most (omega arith) (omega (arith, begins, rows_there, light, seen, units, whole, all)),
    )
