-- Calls of the routine that gives a block back, by the holes that are linked.
use Rattle.std.proofs.Common.{◌≡◌, ℕ, pos, ◌+◌, ◌*◌, ◌/◌, ◌%◌, ◌^◌, ◌<◌, ◌≤◌, List, [], ◌∷◌, drop, length, slice_index, refl, ap, sym, subst, ◌∙◌, arith}
use Rattle.op_heap.proofs.Holes.{linked_same}
use Rattle.op_heap.specs.Heap.{Hole, heap_address}
use Rattle.op_heap.specs.Memory.{AreLinked, control_address, first_hole}
use Rattle.op_low.specs.State.{Placement, State, space}
use Rattle.op_low.specs.declared.code.Low.{Low}
use Rattle.op_low.specs.declared.code.Routine.{Routine}
use Rattle.op_low.specs.declared.instruction.Call.{Call as Operands}
use Rattle.op_low.specs.declared.instruction.Instruction.{Instruction}
use Rattle.op_rt_heap.proofs.Calling.{call_comes, nothing_cleared, room_of}
use Rattle.op_rt_heap.proofs.GiveRun.{Seeking, code_is, no_offset, seek_first}
use Rattle.op_rt_heap.proofs.LinkedHoles.{BlockLies, Gives, HolesLie}
use Rattle.op_rt_heap.proofs.Moves.{IsWordOpen, const_goes, here, jump_goes, load_goes, set, shift_goes, word_open}
use Rattle.op_rt_heap.proofs.Walks.{Walk, cleared, walk_then}
use Rattle.op_rt_heap.specs.Give.{begins, give_block, seeks}
use Rattle.op_rt_heap.specs.Running.{IsCalled}
use Rattle.op_rv.proofs.Memory.{word_at-same}
use Rattle.op_rv.specs.Operation.{shift_value}
use Rattle.op_rv.specs.State.{word_at}
use Rattle.op_rv.specs.declared.instruction.ShiftOp.TheVariants.{Slli, Srli}

module _ (low : Low) (p : Placement) (m : State) (r : ℕ) (operands : Operands) (rest : List Instruction) (bytes : ℕ) (holes : List Hole) (b : Hole) (called : IsCalled low p m r give_block (b.address ∷ []) operands rest) (lie : HolesLie p m bytes holes) (lies : BlockLies m.memory bytes holes b) where
  abbrev past : ℕ
  past = heap_address + bytes

  abbrev memory : ℕ → ℕ
  memory = cleared low m r

  unchanged : (x : ℕ) → memory x ≡ m.memory x
  unchanged = nothing_cleared low m r (ap (λ (x : Routine). x.locals) called.is)

  linked : AreLinked memory (first_hole memory) holes
  linked =
      subst (λ next. AreLinked memory next holes) (sym (word_at-same m.memory memory control_address (λ x from before. unchanged x)))
      (linked_same holes m.memory memory (first_hole m.memory) heap_address past (λ x from. unchanged x) lie.spread lie.linked)

  has : space low p r ≤ m.room
  has = room_of low p m r give_block (b.address ∷ []) operands rest refl called

  in_heap : (a : ℕ) → heap_address ≤ a → a + 4 ≤ past → a % 4 ≡ 0 → IsWordOpen p m a
  in_heap a from before aligned = word_open p m heap_address bytes a lie.heap.heap from before aligned

  link_open : IsWordOpen p m control_address
  link_open = word_open p m control_address 32 control_address lie.heap.control (omega arith) (omega arith) refl

  abbrev head : ℕ
  head = word_at m.memory b.address

  abbrev called_with : ℕ → ℕ
  called_with = slice_index (b.address ∷ [])

  abbrev seeking : ℕ → ℕ
  seeking = set 2 control_address (set 1 b.size (set 1 (head / 16) (set 1 head called_with)))

  begun : Walk low p (here low p m r operands rest called_with begins memory) (here low p m r operands rest seeking seeks memory) [] 5
  begun =
      let from = lies.behind in
      let within = lies.within in
      let small = lie.heap.small in
      let some = lies.some in
      let aligned = lies.aligned in
      let word = lies.word in
      let headed = lies.headed in
      let same : word_at memory b.address ≡ head = word_at-same m.memory memory b.address (λ x from before. unchanged x) in
      let up : shift_value Slli (head / 16) 4 ≡ b.size = omega arith in
      walk_then
      (load_goes low p m r operands rest called_with memory 1 0 (pos 0) b.address head (drop 1 begins) (no_offset low p m r operands rest called.is has b.address b.address refl (omega arith)) same (in_heap b.address from (omega arith) (omega arith)))
      (walk_then
      (shift_goes low p m r operands rest (set 1 head called_with) memory Srli 1 1 4 (head / 16) (drop 2 begins) refl)
      (walk_then
      (shift_goes low p m r operands rest (set 1 (head / 16) (set 1 head called_with)) memory Slli 1 1 4 b.size (drop 3 begins) up)
      (walk_then
      (const_goes low p m r operands rest (set 1 b.size (set 1 (head / 16) (set 1 head called_with))) memory 2 control_address (drop 4 begins))
      (jump_goes low p m r operands rest seeking memory 1 seeks [] (code_is low p m r operands rest called.is has 1)))))

  seeking_begins : Seeking b seeking control_address 0
  seeking_begins = record { block_is = refl; size_is = refl; link_is = refl; before_is = refl; zero_is = refl }

  pub gives_it : Gives low p m operands rest holes b
  gives_it =
      let from = lies.behind in
      let within = lies.within in
      let small = lie.heap.small in
      let it = seek_first low p m r operands rest called.is has past b (omega arith) lies.some lies.behind lies.within lies.aligned in_heap holes seeking memory control_address heap_address (omega arith) seeking_begins (omega arith) (omega arith) link_open lies.apart lie.spread linked in
      record {
        memory = it.after;
        linked = it.is.linked;
        kept = λ x beside outside besides. it.is.kept x beside outside besides ∙ unchanged x;
        bytes = λ x old. it.is.bytes x (subst (λ b. b < 2 ^ 8) (sym (unchanged x)) old);
        comes =
            call_comes low p m r give_block (b.address ∷ []) operands rest begins 0 it.after (5 + (17 + 6 * length holes)) (96 + 6 * length holes) called refl refl (omega arith) refl (omega arith)
            (walk_then begun it.walk);
      }
