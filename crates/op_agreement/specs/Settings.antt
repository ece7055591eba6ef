-- What is settled while a program runs: managed code with its stack, its low code, and where that is placed.
use Rattle.std.specs.Prelude.{◌≡◌, ◌≢◌, ◌<◌, ◌≤◌, ◌⊎◌, ℕ, ◌+◌, ◌%◌, true, false, List, [], ◌∷◌, ◌++◌, length, Some, slice_get}
use Rattle.std.specs.List.{list_any}
use Rattle.op_compute.specs.Bank.{place_of_error}
use Rattle.op_compute.specs.Meaning.{number_of_error}
use Rattle.op_compute.specs.declared.bank.RuntimeError.{RuntimeError}
use Rattle.op_constants.specs.Arranged.{IsSmall}
use Rattle.op_constants.specs.Literals.{block_literals, literals_of}
use Rattle.op_constants.specs.Texts.{is_among}
use Rattle.op_constants.specs.Offsets.{size_in}
use Rattle.op_core.specs.declared.ids.TypeId.{TypeId}
use Rattle.op_core.specs.declared.program.Core.{Core}
use Rattle.op_expand.specs.Calls.{due_word, runtime}
use Rattle.op_places.specs.Frames.{returning_of}
use Rattle.op_places.specs.Homes.{home_at, is_one_root, offset_of, parameter}
use Rattle.op_expand.specs.Routines.{error_code, low_parameters}
use Rattle.op_places.specs.declared.frame.Frame.{Frame}
use Rattle.op_places.specs.declared.homes.Home.{Home}
use Rattle.op_places.specs.declared.homes.Home.TheVariants.{Held, Stored, Shared}
use Rattle.op_heap.specs.Heap.{Heap}
use Rattle.op_low.specs.State.{Placement, block_of, routine_of}
use Rattle.op_low.specs.declared.code.Low.{Low}
use Rattle.op_meaning.specs.Shapes.{composite, no_type, shape_of, type_of_local, variables_of}
use Rattle.op_mir.specs.Machine.{Code}
use Rattle.op_mir.specs.View.{view_of}
use Rattle.op_mir.specs.declared.action.Action.TheVariants.{Constant, Load, Store, Copy, Look, BeginWith, Pick, Compute, Do}
use Rattle.op_mir.specs.declared.action.Action.{Action}
use Rattle.op_mir.specs.declared.code.Block.{Block}
use Rattle.op_mir.specs.declared.code.Mir.{Mir}
use Rattle.op_mir.specs.declared.code.Routine.{Routine}
use Rattle.op_mir.specs.declared.ids.LocalId.{LocalId}
use Rattle.op_mir.specs.declared.instruction.Given.TheVariants.{ByValue, ByPlace, ByCopy}
use Rattle.op_mir.specs.declared.instruction.Given.{Given}
use Rattle.op_mir.specs.declared.instruction.Instruction.TheVariants.{Act, Call, Jump, When, Unless, Switch, Dispatch, MakeDue, OpenTemporaries, EndTemporary, Stop, Return}
use Rattle.op_mir.specs.declared.instruction.Instruction.{Instruction}
use Rattle.op_mir.specs.declared.instruction.Receiver.TheVariants.{Nowhere, Temporary as ToTemporary, Place}
use Rattle.op_mir.specs.declared.instruction.Receiver.{Receiver}
use Rattle.op_mir.specs.declared.path.Root.TheVariants.{Global, Local, Through, Temporary}
use Rattle.op_mir.specs.declared.path.Root.{Root}
use Rattle.op_rt_text.specs.Names.{register}
use Rattle.op_agreement.specs.Coding.{front_of}
use Rattle.op_expand.specs.Routines.{code_of}
use Rattle.op_agreement.specs.Typed.{IsVariable}

-- the program, its stack from `bottom` to `top`, the memory in which it begins, and its heap with the kinds of what is under names
pub record Setting : Type 0 where
  pub core : Core
  pub mir : Mir
  pub stack : ℕ
  pub low : Low
  pub placement : Placement
  pub bottom : ℕ
  pub top : ℕ
  pub loaded : ℕ → ℕ
  pub heap : Heap
  pub kinds : ℕ → ℕ

-- managed code as its machine sees it
abbrev pub managed : Setting → Code
managed g = view_of g.core g.stack g.mir

-- the address of the word that tells the bytes of stack, and counts the finalization parts that are due
abbrev pub due_address : Setting → ℕ
due_address g = g.placement.address (due_word g.core)

-- ---- the homes of a routine's variables and temporaries

-- what has an address in the locals of a routine begins so far behind the first of them
abbrev pub StoredAt : Core → (r : ℕ) → Frame → Root → ℕ → Type 0
StoredAt core r frame (Global v) offset = ⊥
StoredAt core r frame (Local v) offset = IsVariable core r v.0 false × (home_at frame.homes v ≡ Stored offset)
StoredAt core r frame (Through v) offset = ⊥
StoredAt core r frame (Temporary of n) offset =
    (list_any (is_one_root (Temporary of n)) frame.roots ≡ true) × (offset_of core (Temporary of n) frame.temporaries frame.roots ≡ offset)

abbrev pub type_stored : Core → (r : ℕ) → Root → TypeId
type_stored core r (Global v) = no_type
type_stored core r (Local v) = type_of_local core r v.0
type_stored core r (Through v) = no_type
type_stored core r (Temporary of n) = of

-- two stretches of bytes have none in common
abbrev pub Apart : (a size b other : ℕ) → Type 0
Apart a size b other = (a + size ≤ b) ⊎ (b + other ≤ a)

-- a variable is kept in a register behind the first two and in front of the temporaries, or in the locals
abbrev pub HomeFits : Frame → Home → Type 0
HomeFits frame (Held r) = (2 ≤ r.0) × (r.0 < frame.bank.temporaries)
HomeFits frame (Stored offset) = Unit {0}
HomeFits frame (Shared id) = ⊥

-- Each variable has a home of its own. What has an address stands there by whole words, within the locals, which no stack has more of.
pub record FrameFits (core : Core) (r : ℕ) (x : Routine) (frame : Frame) : Type 0 where
  pub first : frame.first ≡ (variables_of core r).first
  pub scratch : frame.bank.scratch ≡ frame.bank.temporaries + x.temporaries
  pub errors : frame.bank.errors ≡ length x.blocks
  pub returning : frame.returning ≡ returning_of core r
  pub behind : 2 ≤ frame.bank.temporaries
  pub homes : (v : LocalId) → v.0 < (variables_of core r).count → HomeFits frame (home_at frame.homes v)
  pub alone : (v u : LocalId) → (a b : ℕ) → v.0 < (variables_of core r).count → u.0 < (variables_of core r).count → v.0 ≢ u.0 → home_at frame.homes v ≡ Held (register a) → home_at frame.homes u ≡ Held (register b) → a ≢ b
  pub references : (v : LocalId) → IsVariable core r v.0 true → home_at frame.homes v ≡ Held (register (parameter v.0))
  pub composites : (v : LocalId) → IsVariable core r v.0 false → shape_of core (type_of_local core r v.0) ≡ composite → (offset : ℕ) × (home_at frame.homes v ≡ Stored offset)
  pub within : (root : Root) (offset : ℕ) → StoredAt core r frame root offset → offset + size_in core (type_stored core r root) ≤ frame.locals
  pub words : (root : Root) (offset : ℕ) → StoredAt core r frame root offset → offset % 4 ≡ 0
  pub types : (root : Root) (offset : ℕ) → StoredAt core r frame root offset → IsSmall core (type_stored core r root)
  pub apart : (one other : Root) (a b : ℕ) → is_one_root one other ≡ false → StoredAt core r frame one a → StoredAt core r frame other b → Apart a (size_in core (type_stored core r one)) b (size_in core (type_stored core r other))
  pub whole : frame.locals % 4 ≡ 0

-- ---- what an instruction needs an address of has one

-- where a path begins
abbrev pub IsRooted : Core → (r : ℕ) → Frame → Root → Type 0
IsRooted core r frame (Global v) = Unit {0}
IsRooted core r frame (Local v) = Unit {0}
IsRooted core r frame (Through v) = Unit {0}
IsRooted core r frame (Temporary of n) = list_any (is_one_root (Temporary of n)) frame.roots ≡ true

-- a variable that is given by place stands in the locals
abbrev pub IsPlaced : Core → (r : ℕ) → Frame → Root → Type 0
IsPlaced core r frame (Global v) = IsRooted core r frame (Global v)
IsPlaced core r frame (Local v) = (offset : ℕ) × (home_at frame.homes v ≡ Stored offset)
IsPlaced core r frame (Through v) = IsRooted core r frame (Through v)
IsPlaced core r frame (Temporary of n) = IsRooted core r frame (Temporary of n)

abbrev pub HasGiven : Core → (r : ℕ) → Frame → Given → Type 0
HasGiven core r frame (ByValue kind t) = Unit {0}
HasGiven core r frame (ByPlace path) = IsPlaced core r frame path.root
HasGiven core r frame (ByCopy of path) = IsRooted core r frame path.root

abbrev pub HaveGiven : Core → (r : ℕ) → Frame → List Given → Type 0
HaveGiven core r frame [] = Unit {0}
HaveGiven core r frame (g ∷ gs) = HasGiven core r frame g × HaveGiven core r frame gs

abbrev pub HasReceiver : Core → (r : ℕ) → Frame → Receiver → Type 0
HasReceiver core r frame Nowhere = Unit {0}
HasReceiver core r frame (ToTemporary t) = Unit {0}
HasReceiver core r frame (Place of to) = IsRooted core r frame to.root

abbrev pub HasRoots : Core → (r : ℕ) → Frame → Action → Type 0
HasRoots core r frame (Constant to n) = Unit {0}
HasRoots core r frame (Load to kind from) = IsRooted core r frame from.root
HasRoots core r frame (Store to kind from) = IsRooted core r frame to.root
HasRoots core r frame (Copy of to from) = IsRooted core r frame to.root × IsRooted core r frame from.root
HasRoots core r frame (Look at) = IsRooted core r frame at.root
HasRoots core r frame (BeginWith v) = Unit {0}
HasRoots core r frame (Pick to text index) = Unit {0}
HasRoots core r frame (Compute c) = Unit {0}
HasRoots core r frame (Do p operands to) = Unit {0}

abbrev pub HasHomes : Core → (r : ℕ) → Frame → Instruction → Type 0
HasHomes core r frame (Act a landing) = HasRoots core r frame a
HasHomes core r frame (Call id call) = HaveGiven core r frame call.given × HasReceiver core r frame call.receiver
HasHomes core r frame (Jump block) = Unit {0}
HasHomes core r frame (When t block) = Unit {0}
HasHomes core r frame (Unless t block) = Unit {0}
HasHomes core r frame (Switch t arms) = Unit {0}
HasHomes core r frame (Dispatch t block) = Unit {0}
HasHomes core r frame (MakeDue f) = Unit {0}
HasHomes core r frame (OpenTemporaries ts) = Unit {0}
HasHomes core r frame (EndTemporary t) = Unit {0}
HasHomes core r frame (Stop t) = Unit {0}
HasHomes core r frame Return = Unit {0}

abbrev pub HaveHomes : Core → (r : ℕ) → Frame → List Instruction → Type 0
HaveHomes core r frame [] = Unit {0}
HaveHomes core r frame (i ∷ is) = HasHomes core r frame i × HaveHomes core r frame is

-- ---- the low code of a routine

-- each of the texts is among all literals
abbrev pub AreLiterals : (all texts : List (List ℕ)) → Type 0
AreLiterals all [] = Unit {0}
AreLiterals all (text ∷ texts) = (is_among text all ≡ true) × AreLiterals all texts

-- a block of managed code is this one of low code
pub record BlockStands (g : Setting) (r : ℕ) (frame : Frame) (k : ℕ) (block : Block) : Type 0 where
  pub literals : AreLiterals (literals_of g.core g.mir) (block_literals g.core r block)
  pub code : block_of g.low (runtime + r) k ≡ front_of g.core frame r k ++ code_of g.core g.mir frame (literals_of g.core g.mir) block.code

pub record IsExpanded (g : Setting) (r : ℕ) (x : Routine) (frame : Frame) : Type 0 where
  pub exists : runtime + r < length g.low.routines
  pub parameters : (routine_of g.low (runtime + r)).parameters ≡ low_parameters g.core r
  pub locals : (routine_of g.low (runtime + r)).locals ≡ frame.locals
  pub blocks : (k : ℕ) (block : Block) → slice_get x.blocks k ≡ Some block → BlockStands g r frame k block
  pub errors : (e : RuntimeError) → block_of g.low (runtime + r) (length x.blocks + place_of_error e) ≡ error_code (number_of_error e) (3 + place_of_error e)
