-- What the image of low code does.
use Rattle.std.specs.Prelude.{◌≡◌, ◌≢◌, ◌<◌, ◌≤◌, ℕ, ◌+◌, ◌*◌, ◌%◌, ◌^◌, Bool, true, false, not, ◌&&◌, ◌||◌, nat_le, nat_lt, Some, None, List, [], length, take, drop, slice_get, slice_index}
use Rattle.op_heap.specs.Demands.{first_heap}
use Rattle.op_heap.specs.Instances.{TableLies}
use Rattle.op_heap.specs.Memory.{HasBounds, HeapLies, control_bytes}
use Rattle.op_layout.specs.declared.layout.Layout.{Layout}
use Rattle.op_layout.specs.declared.layout.LiteralPlace.{LiteralPlace}
use Rattle.op_link.specs.Image.{first_failing, regions_in, start}
use Rattle.op_link.specs.Memory.{LieApart, control_address, heap_address, heap_size, variable_size}
use Rattle.op_link.specs.Region.{byte_in}
use Rattle.op_link.specs.declared.memory_map.Settings.{Settings}
use Rattle.op_low.specs.Machine.{IsPlacement, NeverBad, low_machine}
use Rattle.op_low.specs.State.{Ended, State as LowState, space}
use Rattle.op_low.specs.declared.code.Low.{Low}
use Rattle.op_rv.specs.State.{State, bytes_from}
use Rattle.op_rv.specs.declared.objects.GlobalVariable.{GlobalVariable}
use Rattle.op_rv.specs.declared.symbol.GlobalId.{GlobalId}
use Rattle.op_rv.specs.declared.symbol.LiteralId.{LiteralId}
use Rattle.op_rv.specs.declared.symbol.Symbol.TheVariants.{Global, Literal}
use Rattle.op_select.specs.Going.{IsSafe, IsSetting, Setting, locals_in, placement_of, routine_in}
use Rattle.op_select.specs.RiscvMachine.{riscv_machine}
use Rattle.op_select.specs.Selected.{Finished, most_steps, selected}
use Rattle.op_select.specs.Starting.{start_in}
use Rattle.op_simulation.specs.Matching.{Agreement}
use Rattle.op_simulation.specs.Path.{Path}
use Rattle.op_simulation.specs.System.{run, spent}
use Rattle.op_image.specs.Beginning.{begun}
use Rattle.op_image.specs.Meaning.{setting_of}

-- ---- the two beginnings

-- low code over this memory
abbrev pub low_start : Setting → (memory : ℕ → ℕ) → (input : List ℕ) → LowState
low_start w memory input = start_in w memory input

-- the state of low code after n steps, and what they cost
abbrev pub low_run : Setting → (memory : ℕ → ℕ) → (input : List ℕ) → ℕ → LowState
low_run w memory input n = run (low_machine w.low (placement_of w)) n (low_start w memory input)

abbrev pub low_spent : Setting → (memory : ℕ → ℕ) → (input : List ℕ) → ℕ → ℕ
low_spent w memory input n = spent (low_machine w.low (placement_of w)) n (low_start w memory input)

-- the state of the image after n steps
abbrev pub image_run : (image input : List ℕ) → ℕ → State
image_run image input n = run riscv_machine n (start image input)

-- ---- how they go along

-- the steps with which an image begins, before the head of its entry routine
abbrev pub start_steps : ℕ
start_steps = 18

-- the steps with which an image comes to where low code begins
abbrev pub most_first : Setting → ℕ
most_first w = 30 + 3 * (routine_in w w.low.entry.0).registers + locals_in w w.low.entry.0

-- after these first steps, which show nothing, both go along for ever: the same events, at most 32 steps for a cost of one, and
-- states that stand for one another again and again
pub record GoesAlong (w : Setting) (memory : ℕ → ℕ) (image input : List ℕ) : Type 0 where
  pub first : State
  pub steps : ℕ
  pub begun : start_steps ≤ steps
  pub within : steps ≤ most_first w
  pub path : Path riscv_machine (λ s. IsSafe s.ending) (start image input) first steps [] steps
  pub agreement : Agreement (selected w) (low_start w memory input) first

-- the image has ended as low code has after n steps: the same status, output and errors, and the same input left
pub record EndsWithin (w : Setting) (memory : ℕ → ℕ) (image input : List ℕ) (n status : ℕ) : Type 0 where
  pub steps : ℕ
  pub within : steps ≤ most_first w + most_steps * low_spent w memory input n
  pub finished : Finished status (low_run w memory input n) (image_run image input steps)

pub record Runs (w : Setting) (memory : ℕ → ℕ) (image input : List ℕ) : Type 0 where
  -- the image never faults
  pub safe : (n : ℕ) → IsSafe (image_run image input n).ending
  -- where low code ends, it ends
  pub ends : (n status : ℕ) → (low_run w memory input n).ending ≡ Ended status → EndsWithin w memory image input n status
  pub along : GoesAlong w memory image input

-- ---- the image of a program

-- the stack has room for the entry routine
abbrev pub HasRoom : Setting → Type 0
HasRoom w = w.bottom + space w.low (placement_of w) w.low.entry.0 ≤ w.top

abbrev pub AreBytes : List ℕ → Type 0
AreBytes bytes = (k : ℕ) → slice_index bytes k < 2 ^ 8

-- these bytes stand at an address of memory, below the stack, and may be read and not written
pub record StandsText (w : Setting) (memory : ℕ → ℕ) (at : ℕ) (bytes : List ℕ) : Type 0 where
  pub readable : (x : ℕ) → at ≤ x → x < at + length bytes → w.rights.readable x ≡ true
  pub fixed : (x : ℕ) → at ≤ x → x < at + length bytes → w.rights.writable x ≡ false
  pub below : at + length bytes ≤ w.bottom
  pub stands : bytes_from memory at (length bytes) ≡ bytes

-- the bytes of a literal, cut at the end of the layout's
abbrev pub literal_bytes : Layout → LiteralPlace → List ℕ
literal_bytes layout place = take place.length (drop place.offset layout.bytes)

-- a global variable lies at an address of memory: a multiple of 4 if its size is one, and an even one if its size is even; below
-- the control region, the heap and the stack. Its bytes may be read and written, which code and literals may not. Those that it begins with
-- stand there, and zeros behind them.
pub record StandsGlobal (w : Setting) (memory : ℕ → ℕ) (at : ℕ) (global : GlobalVariable) : Type 0 where
  pub words : 0 < variable_size global → variable_size global % 4 ≡ 0 → at % 4 ≡ 0
  pub halves : 0 < variable_size global → variable_size global % 2 ≡ 0 → at % 2 ≡ 0
  pub readable : (x : ℕ) → at ≤ x → x < at + variable_size global → w.rights.readable x ≡ true
  pub writable : (x : ℕ) → at ≤ x → x < at + variable_size global → w.rights.writable x ≡ true
  pub before_control : at + variable_size global ≤ control_address
  pub below : at + variable_size global ≤ w.bottom
  pub stands : bytes_from memory at (length global.initial) ≡ global.initial
  pub zeros : (x : ℕ) → at + length global.initial ≤ x → x < at + variable_size global → memory x ≡ 0

-- each global variable lies at its address, and two of them lie apart
pub record GlobalsStand (w : Setting) (memory : ℕ → ℕ) : Type 0 where
  pub each : (id : GlobalId) (global : GlobalVariable) → slice_get w.low.globals id.0 ≡ Some global → StandsGlobal w memory (w.placing.address (Global id)) global
  pub apart : (one other : GlobalId) (a b : GlobalVariable) → one.0 ≢ other.0 → slice_get w.low.globals one.0 ≡ Some a → slice_get w.low.globals other.0 ≡ Some b → LieApart (w.placing.address (Global one)) (variable_size a) (w.placing.address (Global other)) (variable_size b)

-- The control region and the heap lie below the stack, and may be read and written. In this memory all of the heap is one hole and no slot was issued;
-- it tells the bytes of heap and stack, and outside of the two it is as it was loaded.
pub record HeapStands (w : Setting) (memory : ℕ → ℕ) (settings : Settings) (image : List ℕ) : Type 0 where
  pub control_readable : (x : ℕ) → control_address ≤ x → x < control_address + control_bytes → w.rights.readable x ≡ true
  pub control_writable : (x : ℕ) → control_address ≤ x → x < control_address + control_bytes → w.rights.writable x ≡ true
  pub heap_readable : (x : ℕ) → heap_address ≤ x → x < heap_address + heap_size settings → w.rights.readable x ≡ true
  pub heap_writable : (x : ℕ) → heap_address ≤ x → x < heap_address + heap_size settings → w.rights.writable x ≡ true
  pub below : heap_address + heap_size settings ≤ w.bottom
  pub lies : (kinds : ℕ → ℕ) → HeapLies kinds memory (first_heap (heap_size settings))
  pub table : TableLies memory (first_heap (heap_size settings))
  pub bounds : HasBounds memory (heap_size settings) (1024 * settings.stack)
  pub kept : (x : ℕ) → (control_address ≤ x → x < control_address + control_bytes → ⊥) → (heap_address ≤ x → x < heap_address + heap_size settings → ⊥) → memory x ≡ byte_in (regions_in image) x

-- a byte of the control region or of the heap
abbrev pub is_of_heap : Settings → ℕ → Bool
is_of_heap settings x =
    (nat_le control_address x && nat_lt x (control_address + control_bytes)) || (nat_le heap_address x && nat_lt x (heap_address + heap_size settings))

-- as if they could not be written
abbrev pub guarded : Setting → Settings → Setting
guarded w settings = record w { rights = record w.rights { writable = λ x. w.rights.writable x && not (is_of_heap settings x) } }

-- behind its first steps the image never changes a byte of them
abbrev pub LeavesHeap : Settings → (memory : ℕ → ℕ) → (image input : List ℕ) → Type 0
LeavesHeap settings memory image input = (n x : ℕ) → start_steps ≤ n → is_of_heap settings x ≡ true → (image_run image input n).memory x ≡ memory x

-- The image meets all conditions, the code, the literals and the global variables stand in it, routines are found where they begin. It
-- begins with its heap, and then does over every input what low code does, if that never does what it must not do.
pub record Means (low : Low) (layout : Layout) (settings : Settings) (image : List ℕ) : Type 0 where
  pub bytes : AreBytes image
  pub loads : first_failing image ≡ None
  pub literals : (id : LiteralId) (place : LiteralPlace) → slice_get layout.literals id.0 ≡ Some place → StandsText (setting_of low layout settings image) (begun settings image) ((setting_of low layout settings image).placing.address (Literal id)) (literal_bytes layout place)
  pub globals : GlobalsStand (setting_of low layout settings image) (begun settings image)
  pub heap : HeapStands (setting_of low layout settings image) (begun settings image) settings image
  pub setting : IsSetting (setting_of low layout settings image)
  pub placement : IsPlacement low (placement_of (setting_of low layout settings image))
  pub runs : HasRoom (setting_of low layout settings image) → (input : List ℕ) → AreBytes input → NeverBad low (placement_of (setting_of low layout settings image)) (low_start (setting_of low layout settings image) (begun settings image) input) → Runs (setting_of low layout settings image) (begun settings image) image input
  -- what low code does not write, if it would not be bad without leave to, the image does not write either
  pub leaves : HasRoom (setting_of low layout settings image) → (input : List ℕ) → AreBytes input → NeverBad low (placement_of (guarded (setting_of low layout settings image) settings)) (low_start (guarded (setting_of low layout settings image) settings) (begun settings image) input) → LeavesHeap settings (begun settings image) image input
