-- The source machine with its heap beside it: what each step asks of the heap and gives back to it, and when memory has the heap that it then is.
use Rattle.std.specs.Prelude.{◌≡◌, ℕ, suc, ◌++◌, Bool, true, false, Option, Some, List, [], ◌∷◌, is_some, length, map, nat_eq}
use Rattle.std.specs.List.{list_any}
use Rattle.op_heap.specs.Demands.{first_heap, let_go as given_back, made}
use Rattle.op_heap.specs.Heap.{Heap, block_named, holes}
use Rattle.op_heap.specs.Instances.{TableLies}
use Rattle.op_heap.specs.Memory.{HeapLies}
use Rattle.op_meaning.specs.Costs.{cost}
use Rattle.op_meaning.specs.Demands.{Demand, block, demand, let_go, nothing, standing}
use Rattle.op_meaning.specs.Frames.{Program, State}
use Rattle.op_meaning.specs.Machine.{step}
use Rattle.op_meaning.specs.Start.{start}
use Rattle.op_meaning.specs.World.{Object, buffer, chars, elements, fields, gone}
use Rattle.op_simulation.specs.Beside.{Both, Fold, with_beside}
use Rattle.op_simulation.specs.System.{System, run}

-- ---- what a step asks for and gives back

pub data Want : Type 0 where
  -- a block of so many bytes for a name, and for an instance a slot
  Take : (name bytes : ℕ) → (is_instance : Bool) → Want
  Give : (name : ℕ) → Want

abbrev pub wanted : (name : ℕ) → Demand → List Want
wanted name nothing = []
wanted name (block bytes slot) = Take name bytes slot ∷ []

-- a step asks for what stands under the next name, and gives back the names that it lets go
abbrev pub wants : Program → State → List Want
wants p s = wanted s.world.next (demand p s) ++ map (λ name. Give name) (let_go p s)

-- ---- the heap beside the machine

abbrev pub after_want : Heap → Want → Option Heap
after_want h (Take name bytes is_instance) = made h name bytes is_instance
after_want h (Give name) = Some (given_back h name)

-- for each block that is taken or given back the holes are gone through
abbrev pub heap_fold : Fold Want
heap_fold = record { Beside = Heap; after = after_want; price = λ h want. length (holes h); tells = [] }

abbrev pub asking : Program → System Want
asking p = record { State = State; step = step p; cost = cost p; shows = wants p }

-- It stops in front of the first step whose demand no hole or no slot serves, and then has the heap that was there.
abbrev pub heaped : Program → System Want
heaped p = with_beside (asking p) heap_fold

-- it begins with a heap of so many bytes, without a block
abbrev pub heaped_start : (p : Program) → (bytes : ℕ) → (input : List ℕ) → Both (asking p) heap_fold
heaped_start p bytes input = record { machine = start p input; beside = first_heap bytes; stopped = false }

abbrev pub heaped_run : (p : Program) → (bytes : ℕ) → (input : List ℕ) → ℕ → Both (asking p) heap_fold
heaped_run p bytes input n = run (heaped p) n (heaped_start p bytes input)

-- the heap after so many steps
abbrev pub heap_after : (p : Program) → (bytes : ℕ) → (input : List ℕ) → ℕ → Heap
heap_after p bytes input n = (heaped_run p bytes input n).beside

-- each of the first n steps was served
abbrev pub IsServed : (p : Program) → (bytes : ℕ) → (input : List ℕ) → ℕ → Type 0
IsServed p bytes input n = (heaped_run p bytes input n).stopped ≡ false

-- and the next one is not
pub record IsShort (p : Program) (bytes : ℕ) (input : List ℕ) (n : ℕ) : Type 0 where
  pub before : IsServed p bytes input n
  pub here : (heaped_run p bytes input (suc n)).stopped ≡ true

-- ---- memory has it

-- the kind of what stands under a name: 1 for a string, 2 for an array, 3 for an instance
abbrev pub kind_of : Object → ℕ
kind_of gone = 0
kind_of (chars bytes) = 1
kind_of (buffer bytes capacity) = 1
kind_of (elements of count) = 2
kind_of (fields c phase) = 3

-- The heap has a block for exactly the names that stand. Memory has the blocks and the holes between them, by size and kind, and the slots of instances,
-- which lead to their blocks.
pub record Held (s : State) (h : Heap) (memory : ℕ → ℕ) : Type 0 where
  pub names : (name : ℕ) → is_some (block_named name h.blocks) ≡ list_any (nat_eq name) (standing s)
  pub lies : HeapLies (λ name. kind_of (s.world.objects name)) memory h
  pub table : TableLies memory h
