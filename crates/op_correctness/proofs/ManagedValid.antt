-- The managed code of a program that passes the test is valid.
use Rattle.std.proofs.Common.{◌≡◌, ◌<◌, ◌≤◌, ◌⊎◌, inl, inr, ℕ, zero, suc, ◌+◌, ◌-◌, ◌^◌, min, List, [], ◌∷◌, length, Option, Some, None, slice_get, refl, sym, ap, ◌∙◌, subst, arith}
use Rattle.std.specs.Prelude.{true, ◌&&◌, map, nat_eq, nat_le, nat_lt}
use Rattle.std.specs.List.{All, list_all}
use Rattle.std.proofs.lemmas.Bool.{and_from}
use Rattle.std.proofs.lemmas.Bool.Decides.{nat_tests}
use Rattle.std.proofs.lemmas.List.Elements.{All-head, All-tail}
use Rattle.std.proofs.lemmas.Option.{slice_get_within}
use Rattle.op_core.specs.Sound.{IsSound, IsSoundNesting, bytes_of, globals_of}
use Rattle.op_core.specs.declared.ids.RoutineId.{RoutineId}
use Rattle.op_core.specs.declared.program.Core.{Core}
use Rattle.op_frames.proofs.PlacesFine.{most_each}
use Rattle.op_frames.specs.Made.{Every, IsCode, IsLast, Leaves}
use Rattle.op_lower.specs.Lowers.{Lowers}
use Rattle.op_lower.specs.Seen.{seen_blocks}
use Rattle.op_lower.specs.Temporaries.{in_block, in_instruction}
use Rattle.op_meaning.specs.Shapes.{variables_of}
use Rattle.op_mir.specs.Code.{Arm as MeantArm, Instr}
use Rattle.op_mir.specs.FrameNeed.{frame_need}
use Rattle.op_mir.specs.Kinds.{calls, has_kinds}
use Rattle.op_mir.specs.Valid.{act_fits, action_fits, all_given_fit, are_valid_from, arm_fits, call_fits, globals_have_room, has_block, has_landing, has_routine, has_tables, has_ways, is_charged, is_valid, is_valid_block, is_valid_instruction, is_valid_routine, leaves, leaves_if, most_globals, receiver_fits, switch_fits}
use Rattle.op_mir.specs.View.{routine_at, view_arm, view_block, view_instruction, view_landing}
use Rattle.op_mir.specs.declared.code.Block.{Block}
use Rattle.op_mir.specs.declared.code.Mir.{Mir}
use Rattle.op_mir.specs.declared.code.Routine.{Routine}
use Rattle.op_mir.specs.declared.ids.BlockId.{BlockId}
use Rattle.op_mir.specs.declared.instruction.Arm.{Arm}
use Rattle.op_mir.specs.declared.instruction.Instruction.TheVariants.{Act, Call, Jump, When, Unless, Switch, Dispatch, MakeDue, OpenTemporaries, EndTemporary, Stop, Return}
use Rattle.op_mir.specs.declared.instruction.Instruction.{Instruction}
use Rattle.op_plain.proofs.PlainLemmas.{plain_by_test}
use Rattle.op_plain.specs.Plain.{is_plain_program}
use Rattle.op_typing.specs.Simple.{IsSimpleProgram}
use Rattle.op_typing.specs.Typed.{AreTypedBlocks, AreTypedInstrs, IsTypedInstr}
use Rattle.op_correctness.proofs.Actions.{action_there, has_it}
use Rattle.op_correctness.proofs.Calls.{call_there}
use Rattle.op_correctness.proofs.Correct.{core_charges, simple_core}
use Rattle.op_correctness.proofs.Fitting.{need_charged, row_of}
use Rattle.op_correctness.proofs.OperandKinds.{action_kinds, call_kinds}
use Rattle.op_correctness.proofs.OwnCode.{IsDue, none_due, own_due}
use Rattle.op_correctness.proofs.RoutineCode.{IsOwn, has_block as some_block, locals, low, targeted, typed, which}
use Rattle.op_correctness.proofs.Space.{at_program, at_row}
use Rattle.op_correctness.specs.Charges.{HaveCharges}
use Rattle.op_correctness.specs.SimpleCore.{IsSimpleCore}
use Rattle.op_correctness.specs.Targets.{IsTargetNumber, IsTargeted}

-- ---- numbers

is_below : (a b : ℕ) → a < b → nat_lt a b ≡ true
is_below a b less = grind (arith, nat_tests, less)

is_most : (a b : ℕ) → a ≤ b → nat_le a b ≡ true
is_most a b less = grind (arith, nat_tests, less)

is_equal : (a b : ℕ) → a ≡ b → nat_eq a b ≡ true
is_equal a b e = grind (arith, nat_tests, e)

-- ---- where instructions go on

-- with no landing no block is named
lands : (x : Routine) (landing : Option BlockId) → view_landing landing ≡ None → has_landing x landing ≡ true
lands x None none = refl
lands x (Some block) none = absurd cc

arms_there : (x : Routine) (arms : List Arm) → Every (λ (a : MeantArm). IsTargetNumber (length x.blocks) a.block) (map view_arm arms) → list_all (arm_fits x) arms ≡ true
arms_there x [] are = refl
arms_there x (a ∷ arms) ((some, less), are) = and_from (arm_fits x a) (list_all (arm_fits x) arms) (is_below a.block.0 (length x.blocks) less) (arms_there x arms are)

-- what its machine sees leaves the code, and so does the instruction
leaves_code : (core : Core) (r : ℕ) (i : Instruction) → IsLast (view_instruction core r i) → leaves i ≡ true
unfolding leaves
leaves_code core r (Act a landing) last = absurd last
leaves_code core r (Call id call) last = absurd last
leaves_code core r (Jump block) last = refl
leaves_code core r (When t block) last = absurd last
leaves_code core r (Unless t block) last = absurd last
leaves_code core r (Switch t arms) last = absurd last
leaves_code core r (Dispatch t block) last = absurd last
leaves_code core r (MakeDue f) last = absurd last
leaves_code core r (OpenTemporaries ts) last = absurd last
leaves_code core r (EndTemporary t) last = absurd last
leaves_code core r (Stop t) last = absurd last
leaves_code core r Return last = refl

last_leaves : (core : Core) (r : ℕ) (code : List Instruction) → Leaves (map (view_instruction core r) code) → leaves_if (slice_get code (length code - 1)) ≡ true
last_leaves core r [] leave = absurd leave
last_leaves core r (i ∷ []) leave = leaves_code core r i leave
last_leaves core r (i ∷ j ∷ code) leave =
    subst (λ n. leaves_if (slice_get (i ∷ j ∷ code) n) ≡ true) (all (length code)) (subst (λ n. leaves_if (slice_get (j ∷ code) n) ≡ true) (rest (length code)) (last_leaves core r (j ∷ code) leave))
  where
    rest : (n : ℕ) → suc n - 1 ≡ n
    rest n = omega arith

    all : (n : ℕ) → suc n ≡ suc (suc n) - 1
    all n = omega arith

-- ---- instructions, blocks and routines

module _ (core : Core) (sound : IsSound core) (mir : Mir) (number : length mir.routines ≡ length core.routines) (types : mir.counts.types ≡ length core.types) (variables : mir.counts.variables ≡ length core.variables) (r : ℕ) (x : Routine) (as_many : x.locals ≡ (variables_of core r).count) where
  instruction_valid : (i : Instruction) → IsTypedInstr core r (view_instruction core r i) → IsTargeted core r (length x.blocks) (view_instruction core r i) → IsDue core (view_instruction core r i) → in_instruction i ≤ x.temporaries → is_valid_instruction core mir (variables_of core r) x i ≡ true
  unfolding is_valid_instruction in_instruction act_fits call_fits switch_fits
  instruction_valid (Act a landing) is leads due below =
      and_from (action_fits mir x a && has_kinds core (variables_of core r) a) (has_landing x landing)
      (and_from (action_fits mir x a) (has_kinds core (variables_of core r) a) (action_there core sound mir r x types variables as_many a is below) (action_kinds core sound r a is)) (lands x landing leads)
  instruction_valid (Call id call) is leads due below =
      let (given, receiver) = call_there core sound mir r x types variables as_many id.0 call is below in
      let there = slice_get_within core.routines id.0 is.callee is.there in
      let kinds = call_kinds core sound r id.0 call is in
      and_from (has_routine mir id && all_given_fit mir x call.given && receiver_fits mir x call.receiver && calls core (variables_of core r) (slice_get core.routines id.0) call) (has_landing x call.landing)
      (and_from (has_routine mir id && all_given_fit mir x call.given && receiver_fits mir x call.receiver) (calls core (variables_of core r) (slice_get core.routines id.0) call)
      (and_from (has_routine mir id && all_given_fit mir x call.given) (receiver_fits mir x call.receiver) (and_from (has_routine mir id) (all_given_fit mir x call.given) (is_below id.0 (length mir.routines) (omega (arith, there, number))) given) receiver) kinds)
      (lands x call.landing leads)
  instruction_valid (Jump block) is (some, less) due below = is_below block.0 (length x.blocks) less
  instruction_valid (When t block) is (some, less) due below = and_from _ (has_block x block) (has_it core sound mir r x types variables as_many t below) (is_below block.0 (length x.blocks) less)
  instruction_valid (Unless t block) is (some, less) due below = and_from _ (has_block x block) (has_it core sound mir r x types variables as_many t below) (is_below block.0 (length x.blocks) less)
  instruction_valid (Switch t arms) is leads due below = and_from _ (list_all (arm_fits x) arms) (has_it core sound mir r x types variables as_many t below) (arms_there x arms leads)
  instruction_valid (Dispatch t block) is leads due below = and_from (nat_lt (t.0 + 1) x.temporaries) (has_ways x block) (is_below (t.0 + 1) x.temporaries (omega (arith, below))) (is_below (block.0 + 3) (length x.blocks) leads)
  instruction_valid (MakeDue f) is leads (there, part) below = and_from (has_routine mir f) _ (is_below f.0 (length mir.routines) (omega (arith, there, number))) part
  instruction_valid (OpenTemporaries ts) is leads due below = absurd leads
  instruction_valid (EndTemporary t) is leads due below = absurd leads
  instruction_valid (Stop t) is leads due below = has_it core sound mir r x types variables as_many t below
  instruction_valid Return is leads due below = refl

  code_valid : (code : List Instruction) → AreTypedInstrs core r (map (view_instruction core r) code) → Every (IsTargeted core r (length x.blocks)) (map (view_instruction core r) code) → Every (IsDue core) (map (view_instruction core r) code) → Every (λ i. in_instruction i ≤ x.temporaries) code → list_all (is_valid_instruction core mir (variables_of core r) x) code ≡ true
  code_valid [] is leads due below = refl
  code_valid (i ∷ code) is (here, leads) (first, due) (less, below) =
      let one = All-head (IsTypedInstr core r) (view_instruction core r i) (map (view_instruction core r) code) is in
      let others = All-tail (IsTypedInstr core r) (view_instruction core r i) (map (view_instruction core r) code) is in
      and_from (is_valid_instruction core mir (variables_of core r) x i) (list_all (is_valid_instruction core mir (variables_of core r) x) code) (instruction_valid i one here first less) (code_valid code others leads due below)

  blocks_valid : (bs : List Block) → AreTypedBlocks core r (seen_blocks core r bs) → Every (IsCode (IsTargeted core r (length x.blocks))) (seen_blocks core r bs) → Every (Every (IsDue core)) (seen_blocks core r bs) → Every (λ b. in_block b ≤ x.temporaries) bs → list_all (is_valid_block core mir (variables_of core r) x) bs ≡ true
  unfolding is_valid_block
  blocks_valid [] is leads due below = refl
  blocks_valid (b ∷ bs) is (here, leads) (first, due) (less, below) =
      let one = All-head (AreTypedInstrs core r) (view_block core r b) (seen_blocks core r bs) is in
      let others = All-tail (AreTypedInstrs core r) (view_block core r b) (seen_blocks core r bs) is in
      and_from (is_valid_block core mir (variables_of core r) x b) (list_all (is_valid_block core mir (variables_of core r) x) bs)
      (and_from (leaves_if (slice_get b.code (length b.code - 1))) (list_all (is_valid_instruction core mir (variables_of core r) x) b.code) (last_leaves core r b.code here.leaves) (code_valid b.code one here.each first (most_each in_instruction b.code x.temporaries less)))
      (blocks_valid bs others leads due below)

  routine_valid : 0 < length x.blocks → AreTypedBlocks core r (seen_blocks core r x.blocks) → Every (IsCode (IsTargeted core r (length x.blocks))) (seen_blocks core r x.blocks) → Every (Every (IsDue core)) (seen_blocks core r x.blocks) → Every (λ b. in_block b ≤ x.temporaries) x.blocks → is_valid_routine core mir (variables_of core r) x ≡ true
  unfolding is_valid_routine
  routine_valid some is leads due below =
      and_from (nat_eq x.locals (variables_of core r).count && nat_lt 0 (length x.blocks)) (list_all (is_valid_block core mir (variables_of core r) x) x.blocks)
      (and_from (nat_eq x.locals (variables_of core r).count) (nat_lt 0 (length x.blocks)) (is_equal x.locals (variables_of core r).count as_many) (is_below 0 (length x.blocks) some))
      (blocks_valid x.blocks is leads due below)

-- ---- programs

-- where a routine has a row, no finalization part becomes due
each_due : (core : Core) (r n : ℕ) → r < length core.routines → (bs : List (List Instr)) → Every (IsCode (IsTargeted core r n)) bs → Every (Every (IsDue core)) bs
each_due core r n few [] leads = tt
each_due core r n few (b ∷ bs) (here, leads) = (none_due core r n few b here.each, each_due core r n few bs leads)

module _ (core : Core) (mir : Mir) (sound : IsSound core) (nesting : IsSoundNesting core) (is : IsSimpleCore core) (charges : HaveCharges core) (lowers : Lowers core mir) where
  pub each_valid : (r : ℕ) (x : Routine) → routine_at mir r ≡ Some x → is_valid_routine core mir (variables_of core r) x ≡ true
  each_valid r x found =
      routine_valid core sound mir lowers.number lowers.types lowers.variables r x (locals core mir 0 sound nesting is lowers r x found) (some_block core mir 0 sound nesting is lowers r x found)
      (typed core mir 0 sound nesting is lowers r x found) (targeted core mir 0 sound nesting is lowers r x found) (due (which mir r x found)) (low core mir 0 sound nesting is lowers r x found)
    where
      due : IsOwn mir r x ⊎ (slice_get mir.routines r ≡ Some x) → Every (Every (IsDue core)) (seen_blocks core r x.blocks)
      due (inl (own, same)) =
          subst (λ (y : Routine). Every (Every (IsDue core)) (seen_blocks core r y.blocks)) (sym same) (subst (Every (Every (IsDue core))) (sym (lowers.program.blocks core r)) (own_due core sound.units is.simple.units))
      due (inr at) =
          let few = slice_get_within mir.routines r x at in
          let number = lowers.number in
          each_due core r (length x.blocks) (omega (arith, few, number)) (seen_blocks core r x.blocks) (targeted core mir 0 sound nesting is lowers r x found)

  each_charged : (r : ℕ) (x : Routine) → slice_get mir.routines r ≡ Some x → is_charged core r x ≡ true
  each_charged r x at =
      let (row, there) = row_of core mir sound nesting is charges lowers r x at in
      is_most (min (frame_need core r x) (2 ^ 64 - 1)) x.charge (need_charged core sound nesting is r (charges r (slice_get_within core.routines r row there)) row there x (lowers.routines r x at))

  all_valid : (r : ℕ) (xs : List Routine) → ((k : ℕ) (x : Routine) → slice_get xs k ≡ Some x → slice_get mir.routines (r + k) ≡ Some x) → are_valid_from core mir r xs ≡ true
  all_valid r [] at = refl
  all_valid r (x ∷ xs) at =
      let here : slice_get mir.routines r ≡ Some x = subst (λ n. slice_get mir.routines n ≡ Some x) (plus r) (at 0 x refl) in
      and_from (is_valid_routine core mir (variables_of core r) x && is_charged core r x) (are_valid_from core mir (r + 1) xs)
      (and_from (is_valid_routine core mir (variables_of core r) x) (is_charged core r x) (each_valid r x (at_row mir r x here)) (each_charged r x here))
      (all_valid (r + 1) xs (λ k y e. subst (λ n. slice_get mir.routines n ≡ Some y) (further r k) (at (suc k) y e)))
    where
      plus : (n : ℕ) → n + 0 ≡ n
      plus n = omega arith

      further : (n k : ℕ) → n + suc k ≡ n + 1 + k
      further n k = omega arith

  -- Such code is valid.
  pub code_is_valid : is_valid core mir ≡ true
  unfolding is_valid
  code_is_valid =
      let own : is_valid_routine core mir (variables_of core (length core.routines)) mir.program ≡ true = subst (λ n. is_valid_routine core mir (variables_of core n) mir.program ≡ true) lowers.number (each_valid (length mir.routines) mir.program (at_program mir)) in
      and_from (has_tables core mir && globals_have_room core && is_valid_routine core mir (variables_of core (length core.routines)) mir.program) (are_valid_from core mir 0 mir.routines)
      (and_from (has_tables core mir && globals_have_room core) (is_valid_routine core mir (variables_of core (length core.routines)) mir.program) (and_from (has_tables core mir) (globals_have_room core) tables (is_most (bytes_of core (globals_of core)) most_globals sound.globals)) own)
      (all_valid 0 mir.routines (λ k x e. subst (λ n. slice_get mir.routines n ≡ Some x) (zero_plus k) e))
    where
      zero_plus : (k : ℕ) → k ≡ 0 + k
      zero_plus k = omega arith

      tables : has_tables core mir ≡ true
      tables =
          and_from (nat_eq mir.counts.types (length core.types) && nat_eq mir.counts.variables (length core.variables)) (nat_eq (length mir.routines) (length core.routines))
          (and_from (nat_eq mir.counts.types (length core.types)) (nat_eq mir.counts.variables (length core.variables)) (is_equal mir.counts.types (length core.types) lowers.types) (is_equal mir.counts.variables (length core.variables) lowers.variables))
          (is_equal (length mir.routines) (length core.routines) lowers.number)

-- So is the code of a program that passes the test.
pub managed_valid : (core : Core) (mir : Mir) → is_plain_program core ≡ true → IsSound core → IsSoundNesting core → Lowers core mir → is_valid core mir ≡ true
managed_valid core mir plain sound nesting lowers =
    let class = plain_by_test core plain in
    code_is_valid core mir sound nesting (simple_core core class) (core_charges core class) lowers
