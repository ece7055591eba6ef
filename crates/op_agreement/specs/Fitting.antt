-- What is asked of a program and of where it is placed.
use Rattle.std.specs.Prelude.{◌≡◌, ◌≢◌, ◌<◌, ◌≤◌, ◌⊎◌, ℕ, ◌+◌, ◌%◌, ◌^◌, true, false, List, length, Some, None, slice_get}
use Rattle.op_constants.specs.Arranged.{IsSmall}
use Rattle.op_constants.specs.Literals.{literals_of}
use Rattle.op_constants.specs.Offsets.{alignment_in, size_in}
use Rattle.op_core.specs.Sizes.{KeepsExtents}
use Rattle.op_core.specs.declared.ids.RoutineId.{RoutineId}
use Rattle.op_core.specs.declared.ids.TypeId.{TypeId}
use Rattle.op_core.specs.declared.types.CoreType.TheVariants.{Integer}
use Rattle.op_core.specs.declared.types.IntegerKind.TheVariants.{Signed8}
use Rattle.op_expand.specs.Calls.{closing_number, finalizations, has_closing, runtime}
use Rattle.op_expand.specs.Closing.{closing_routine}
use Rattle.op_meaning.specs.Calls.{emptied_type}
use Rattle.op_places.specs.Frames.{frame_of, parameters_of}
use Rattle.op_expand.specs.Routines.{most_charge}
use Rattle.op_heap.specs.Heap.{heap_address}
use Rattle.op_heap.specs.Instances.{TableLies}
use Rattle.op_heap.specs.Memory.{HeapLies, control_address, control_bytes}
use Rattle.op_low.specs.State.{routine_of, space}
use Rattle.op_meaning.specs.Expressions.{result_of}
use Rattle.op_meaning.specs.Shapes.{type_of_variable}
use Rattle.op_mir.specs.View.{routine_at}
use Rattle.op_mir.specs.declared.code.Block.{Block}
use Rattle.op_mir.specs.declared.code.Routine.{Routine}
use Rattle.op_rt_text.specs.Names.{literal}
use Rattle.op_rt_text.specs.Running.{HasRuntime}
use Rattle.op_rv.specs.State.{bytes_from}
use Rattle.op_rv.specs.declared.symbol.Symbol.{Symbol}
use Rattle.op_rv.specs.declared.symbol.Symbol.TheVariants.{Global}
use Rattle.op_agreement.specs.Settings.{Setting, Apart, FrameFits, HaveHomes, IsExpanded, due_address}
use Rattle.op_agreement.specs.Typed.{IsGlobal, AreFine, HasResult, parameter_rows}

-- Values are arranged by their types, each parameter has its row and each result its variable, errors end the program, nothing is emptied before a
-- call, no stack has more than 2^26 bytes, and no routine more than 64 parameters.
pub record IsArrangedProgram (g : Setting) : Type 0 where
  pub extents : KeepsExtents g.core
  pub first_type : slice_get g.core.types 0 ≡ Some (Integer Signed8)
  pub exceptions : g.core.exceptions ≡ None
  pub outs : (v : ℕ) → emptied_type g.core (slice_get g.core.variables v) ≡ None
  pub number : length g.mir.routines ≡ length g.core.routines
  pub parameters : (r : ℕ) → r < length g.core.routines → length (parameter_rows g.core r) ≡ parameters_of g.core r
  pub results : (r : ℕ) (of : TypeId) → result_of (slice_get g.core.routines r) ≡ Some of → HasResult g.core r of
  pub stack : g.stack ≤ most_charge
  pub few : (r : ℕ) → r < length g.core.routines → parameters_of g.core r ≤ 64

-- the routine with the number: its blocks are typed and stand in low code, its variables have homes of their own, and an activation takes
-- no more than it is charged, which is 256 at least
pub record RoutineFits (g : Setting) (r : ℕ) (x : Routine) : Type 0 where
  pub some : 0 < length x.blocks
  pub fine : (k : ℕ) (block : Block) → slice_get x.blocks k ≡ Some block → AreFine g.core g.mir r x block.code
  pub homes : (k : ℕ) (block : Block) → slice_get x.blocks k ≡ Some block → HaveHomes g.core r (frame_of g.core r x) block.code
  pub frame : FrameFits g.core r x (frame_of g.core r x)
  pub expanded : IsExpanded g r x (frame_of g.core r x)
  pub space : r < length g.mir.routines → space g.low g.placement (runtime + r) ≤ x.charge
  pub charged : r < length g.mir.routines → 256 ≤ x.charge

-- a literal stands below the stack, where nothing is written
pub record LiteralStands (g : Setting) (at : ℕ) (bytes : List ℕ) : Type 0 where
  pub readable : (x : ℕ) → at ≤ x → x < at + length bytes → g.placement.rights.readable x ≡ true
  pub fixed : (x : ℕ) → at ≤ x → x < at + length bytes → g.placement.rights.writable x ≡ false
  pub below : at + length bytes ≤ g.bottom
  pub stands : bytes_from g.loaded at (length bytes) ≡ bytes

-- a global variable stands below the stack, at a multiple of its type's alignment if it has bytes
pub record GlobalStands (g : Setting) (v : ℕ) (at size : ℕ) : Type 0 where
  pub type : IsSmall g.core (type_of_variable g.core v)
  pub aligned : 0 < size → at % alignment_in g.core (type_of_variable g.core v) ≡ 0
  pub readable : (x : ℕ) → at ≤ x → x < at + size → g.placement.rights.readable x ≡ true
  pub writable : (x : ℕ) → at ≤ x → x < at + size → g.placement.rights.writable x ≡ true
  pub below : at + size ≤ g.bottom

abbrev pub global_address : Setting → ℕ → ℕ
global_address g v = g.placement.address (Global (record { 0 = v }))

abbrev pub global_size : Setting → ℕ → ℕ
global_size g v = size_in g.core (type_of_variable g.core v)

-- the word that tells the bytes of stack, and counts the finalization parts that are due, stands below the stack, apart from the global variables
pub record DueStands (g : Setting) (at : ℕ) : Type 0 where
  pub words : at % 4 ≡ 0
  pub readable : (x : ℕ) → at ≤ x → x < at + 4 → g.placement.rights.readable x ≡ true
  pub writable : (x : ℕ) → at ≤ x → x < at + 4 → g.placement.rights.writable x ≡ true
  pub below : at + 4 ≤ g.bottom
  pub apart : (v : ℕ) → IsGlobal g.core v → Apart (global_address g v) (global_size g v) at 4

-- A byte of the heap's: it lies below the stack, apart from the global variables and from the word that counts. No step writes it but one of the heap.
pub record IsOwned (g : Setting) (x : ℕ) : Type 0 where
  pub below : x < g.bottom
  pub globals : (v : ℕ) → IsGlobal g.core v → (x < global_address g v) ⊎ (global_address g v + global_size g v ≤ x)
  pub due : (x < due_address g) ⊎ (due_address g + 4 ≤ x)

-- the control region and the heap are
pub record HeapIsPlaced (g : Setting) : Type 0 where
  pub control : (x : ℕ) → control_address ≤ x → x < control_address + control_bytes → IsOwned g x
  pub heap : (x : ℕ) → heap_address ≤ x → x < heap_address + g.heap.bytes → IsOwned g x

-- memory has the heap, and its slots
pub record HasHeap (g : Setting) (memory : ℕ → ℕ) : Type 0 where
  pub lies : HeapLies g.kinds memory g.heap
  pub table : TableLies memory g.heap

-- the stack lies behind all else, by whole words, and may be read and written
pub record IsPlacedProgram (g : Setting) : Type 0 where
  pub runtime : HasRuntime g.low g.placement
  pub words : (symbol : Symbol) → g.placement.address symbol < 2 ^ 32
  pub literals : (id : ℕ) (bytes : List ℕ) → slice_get (literals_of g.core g.mir) id ≡ Some bytes → LiteralStands g (g.placement.address (literal id)) bytes
  pub globals : (v : ℕ) → IsGlobal g.core v → GlobalStands g v (global_address g v) (global_size g v)
  pub apart : (v u : ℕ) → v ≢ u → IsGlobal g.core v → IsGlobal g.core u → Apart (global_address g v) (global_size g v) (global_address g u) (global_size g u)
  pub due : DueStands g (due_address g)
  pub heap : HeapIsPlaced g
  pub whole : g.bottom % 4 ≡ 0
  pub top : g.top < 2 ^ 32
  pub readable : (x : ℕ) → g.bottom ≤ x → x < g.top → g.placement.rights.readable x ≡ true
  pub writable : (x : ℕ) → g.bottom ≤ x → x < g.top → g.placement.rights.writable x ≡ true

-- ---- the closing

-- what the closing takes of the stack while a finalization part is done
abbrev pub closing_space : Setting → ℕ
closing_space g = space g.low g.placement (closing_number g.core)

-- A finalization part is a procedure without parameters. Its activations take less than they are charged, so that there is room for the closing too.
pub record PartFits (g : Setting) (r : ℕ) : Type 0 where
  pub exists : r < length g.mir.routines
  pub parameters : parameters_of g.core r ≡ 0
  pub result : result_of (slice_get g.core.routines r) ≡ None
  pub space : (x : Routine) → slice_get g.mir.routines r ≡ Some x → x.charge ≤ most_charge → space g.low g.placement (runtime + r) + closing_space g ≤ x.charge

-- The closing stands in low code, takes a few words of the stack, and does no more parts than a program may have units.
pub record ClosingFits (g : Setting) : Type 0 where
  pub few : length (finalizations g.core) ≤ 1024
  pub exists : closing_number g.core < length g.low.routines
  pub routine : routine_of g.low (closing_number g.core) ≡ closing_routine g.core g.mir g.stack
  pub space : closing_space g ≤ 20
  pub parts : (k : ℕ) (f : RoutineId) → slice_get (finalizations g.core) k ≡ Some f → PartFits g f.0

-- the premises of the agreement
pub record IsFitting (g : Setting) : Type 0 where
  pub program : IsArrangedProgram g
  pub routines : (r : ℕ) (x : Routine) → routine_at g.mir r ≡ Some x → x.charge ≤ most_charge → RoutineFits g r x
  pub placed : IsPlacedProgram g
  pub closing : has_closing g.core ≡ true → ClosingFits g
