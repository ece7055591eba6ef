-- What calls of the routines that take and give back blocks do to linked holes, whatever lies between them.
use Rattle.std.proofs.Common.{◌≡◌, ◌<◌, ◌≤◌, ℕ, ◌+◌, ◌*◌, ◌/◌, ◌%◌, ◌^◌, List, length}
use Rattle.op_heap.specs.Frames.{IsNoLink}
use Rattle.op_heap.specs.Heap.{Hole, heap_address}
use Rattle.op_heap.specs.Memory.{AreLinked, first_hole}
use Rattle.op_heap.specs.Merging.{AreSpread, IsApart, IsOutside, given, taken}
use Rattle.op_low.specs.State.{Placement, State}
use Rattle.op_low.specs.declared.code.Low.{Low}
use Rattle.op_low.specs.declared.instruction.Call.{Call as Operands}
use Rattle.op_low.specs.declared.instruction.Instruction.{Instruction}
use Rattle.op_rt_heap.specs.Running.{Comes, HasHeap, KeepsBytes}
use Rattle.op_rv.specs.State.{word_at}

-- the heap has these holes
pub record HolesLie (p : Placement) (m : State) (bytes : ℕ) (holes : List Hole) : Type 0 where
  pub heap : HasHeap p m bytes
  pub spread : AreSpread heap_address (heap_address + bytes) holes
  pub linked : AreLinked m.memory (first_hole m.memory) holes

-- the size in the first word of a block
abbrev pub size_of : ℕ → ℕ
size_of head = head / 16 * 16

-- the front of the first hole that is large enough is taken, the block has its first word, and nothing outside of holes has changed
pub record Takes (low : Low) (p : Placement) (m : State) (operands : Operands) (rest : List Instruction) (holes : List Hole) (head a : ℕ) : Type 0 where
  pub memory : ℕ → ℕ
  pub linked : AreLinked memory (first_hole memory) (taken (size_of head) holes)
  pub headed : word_at memory a ≡ head
  pub kept : (x : ℕ) → IsNoLink x → IsOutside holes x → memory x ≡ m.memory x
  pub bytes : KeepsBytes m.memory memory
  pub comes : Comes low p m operands rest a memory (96 + 6 * length holes)

-- a block of the heap, apart from its holes, with its first word
pub record BlockLies (memory : ℕ → ℕ) (bytes : ℕ) (holes : List Hole) (b : Hole) : Type 0 where
  pub behind : heap_address ≤ b.address
  pub within : b.address + b.size ≤ heap_address + bytes
  pub aligned : b.address % 16 ≡ 0
  pub some : 16 ≤ b.size
  pub apart : IsApart b holes
  pub headed : size_of (word_at memory b.address) ≡ b.size
  pub word : word_at memory b.address < 2 ^ 32

-- the block is a hole more, merged with its neighbours, and nothing outside of holes and of the block has changed
pub record Gives (low : Low) (p : Placement) (m : State) (operands : Operands) (rest : List Instruction) (holes : List Hole) (b : Hole) : Type 0 where
  pub memory : ℕ → ℕ
  pub linked : AreLinked memory (first_hole memory) (given b holes)
  pub kept : (x : ℕ) → IsNoLink x → IsOutside holes x → (b.address ≤ x → x < b.address + b.size → ⊥) → memory x ≡ m.memory x
  pub bytes : KeepsBytes m.memory memory
  pub comes : Comes low p m operands rest 0 memory (96 + 6 * length holes)
