-- In what sense an image agrees with a program: over every input it writes and ends as the program does, step by step and for ever.
use Rattle.std.specs.Prelude.{◌≡◌, ◌≤◌, ◌<◌, ℕ, suc, ◌+◌, ◌*◌, true, List, codes, length, ◌++◌, Some, None}
use Rattle.op_heap.specs.Heap.{holes}
use Rattle.op_image.specs.Means.{AreBytes, image_run}
use Rattle.op_link.specs.Image.{first_failing}
use Rattle.op_meaning.specs.Costs.{cost}
use Rattle.op_meaning.specs.Frames.{Program, State}
use Rattle.op_meaning.specs.Source.{LooksAtInput, source}
use Rattle.op_meaning.specs.Start.{start}
use Rattle.op_meaning.specs.Texts.{line_feed}
use Rattle.op_meaning.specs.World.{Ending, Running, Ended}
use Rattle.op_optimize.specs.Shortening.{Passed}
use Rattle.op_rv.specs.Decoding.{instr_at}
use Rattle.op_rv.specs.State.{State as ImageState, Ending as ImageEnding, Running as GoesOn, Ended as HasEnded, register, word_at}
use Rattle.op_rv.specs.Step.{CallsRead, can_fetch}
use Rattle.op_rv.specs.declared.instruction.Instr.TheVariants.{Ecall}
use Rattle.op_select.specs.Going.{IsSafe}
use Rattle.op_simulation.specs.System.{run}
use Rattle.op_correctness.specs.Heaped.{Held, IsServed, IsShort, heap_after}

-- the source machine after so many steps
abbrev pub source_run : Program → List ℕ → ℕ → State
source_run p input n = run (source p) n (start p input)

-- both go on, or both have ended with the same status
abbrev pub EndsAlike : Ending → ImageEnding → Type 0
EndsAlike Running e = e ≡ GoesOn
EndsAlike (Ended status) e = e ≡ HasEnded status

-- the same was written, the same is left of the input
pub record LooksAlike (s : State) (b : ImageState) : Type 0 where
  pub output : b.output ≡ s.world.output
  pub errors : b.errors ≡ s.world.errors
  pub input : b.input ≡ s.world.input
  pub ending : EndsAlike s.world.ending b.ending

-- the steps of an image for a work of one
abbrev pub most_for_work : ℕ
most_for_work = 4096

-- the next step is the environment call that writes, ECALL 64
pub record CallsWrite (b : ImageState) : Type 0 where
  pub runs : b.ending ≡ GoesOn
  pub fetched : can_fetch b ≡ true
  pub call : instr_at (word_at b.memory b.pc) ≡ Some Ecall
  pub number : register b 17 ≡ 64

-- what is written where no hole or no slot serves a demand
abbrev pub out_of_heap : List ℕ
out_of_heap = codes "Runtime error 203" ++ line_feed

-- the steps of an image for the step of a program: 4,096 for each unit of its work and for each hole of its heap
abbrev pub most_steps_at : (p : Program) → (heap : ℕ) → (input : List ℕ) → ℕ → ℕ
most_steps_at p heap input n = most_for_work * (cost p (source_run p input n) + length (holes (heap_after p heap input n)))

-- The image ends by error 203, soon after the point of the step that is not served: it has written what the program has, and told the error. Memory has
-- the heap still.
pub record EndsShort (p : Program) (heap : ℕ) (image input : List ℕ) (n point : ℕ) : Type 0 where
  pub steps : ℕ
  pub past : point ≤ steps
  pub soon : steps ≤ point + most_steps_at p heap input n
  pub ended : (image_run image input steps).ending ≡ HasEnded 203
  pub output : (image_run image input steps).output ≡ (source_run p input n).world.output
  pub errors : (image_run image input steps).errors ≡ (source_run p input n).world.errors ++ out_of_heap
  pub held : Held (source_run p input n) (heap_after p heap input n) (image_run image input steps).memory

-- The program has a heap of so many bytes, and a step is served where a hole and a slot serve what it asks of it. After each step of the source machine that
-- was served there is a point in the run of the image at which both look alike, and memory has the heap that stands beside the program. No point lies
-- before an earlier one, and where all steps are served they pass every step of the image: an image that goes on for ever does so where the program
-- does. Where a step is not served, the image ends by error 203. The image never faults. Whenever it has written between two points, or behind the
-- last one, memory has the heap of the point before. It calls for input, be it for no bytes, only between the points of a step that reads or looks at a byte
-- of the input or its end. It comes to the first point soon, and from each point to the next one in no more than 4,096 steps for each unit of the work of
-- the program's step and for each hole of its heap.
pub record GoesAlong (p : Program) (heap : ℕ) (image input : List ℕ) : Type 0 where
  pub point : ℕ → ℕ
  pub rises : (n : ℕ) → point n ≤ point (suc n)
  pub passes : ((n : ℕ) → IsServed p heap input n) → (m : ℕ) → Passed point m
  pub alike : (n : ℕ) → IsServed p heap input n → LooksAlike (source_run p input n) (image_run image input (point n))
  pub held : (n : ℕ) → IsServed p heap input n → Held (source_run p input n) (heap_after p heap input n) (image_run image input (point n)).memory
  pub written : (n m : ℕ) → IsServed p heap input n → point n ≤ m → (IsServed p heap input (suc n) → m < point (suc n)) → CallsWrite (image_run image input m) → Held (source_run p input n) (heap_after p heap input n) (image_run image input (suc m)).memory
  pub short : (n : ℕ) → IsShort p heap input n → EndsShort p heap image input n (point n)
  pub safe : (m : ℕ) → IsSafe (image_run image input m).ending
  pub unread : (m : ℕ) → m < point 0 → CallsRead (image_run image input m) → ⊥
  pub reads : (n m : ℕ) → IsServed p heap input n → point n ≤ m → (IsServed p heap input (suc n) → m < point (suc n)) → CallsRead (image_run image input m) → LooksAtInput p (source_run p input n)
  pub first : point 0 ≤ most_for_work
  pub soon : (n : ℕ) → IsServed p heap input (suc n) → (source_run p input n).world.ending ≡ Running → point (suc n) ≤ point n + most_steps_at p heap input n
  -- no program that is compiled so far asks anything of its heap
  pub served : (n : ℕ) → IsServed p heap input n

-- the image loads, and goes along with the program over every input, with a heap of so many bytes
pub record Agrees (p : Program) (heap : ℕ) (image : List ℕ) : Type 0 where
  pub loads : first_failing image ≡ None
  pub along : (input : List ℕ) → AreBytes input → GoesAlong p heap image input

-- the program ends with this status, and has then written this and left this of its input
pub record EndsAsMeant (p : Program) (input : List ℕ) (status : ℕ) (output errors left : List ℕ) : Type 0 where
  pub steps : ℕ
  pub ended : (source_run p input steps).world.ending ≡ Ended status
  pub writes : (source_run p input steps).world.output ≡ output
  pub reports : (source_run p input steps).world.errors ≡ errors
  pub leaves : (source_run p input steps).world.input ≡ left

-- the whole list begins with this front
abbrev pub BeginsWith : (front whole : List ℕ) → Type 0
BeginsWith front whole = (rest : List ℕ) × (whole ≡ front ++ rest)

-- the program comes to a step that reads or looks at a byte of its input or its end; before that step it has written no more than this, and behind it
-- no less
pub record LooksAsMeant (p : Program) (input output errors : List ℕ) : Type 0 where
  pub steps : ℕ
  pub looks : LooksAtInput p (source_run p input steps)
  pub written : BeginsWith (source_run p input steps).world.output output
  pub reported : BeginsWith (source_run p input steps).world.errors errors
  pub writes : BeginsWith output (source_run p input (suc steps)).world.output
  pub reports : BeginsWith errors (source_run p input (suc steps)).world.errors

-- no step of the program reads or looks at its input
abbrev pub NeverLooks : Program → List ℕ → Type 0
NeverLooks p input = (n : ℕ) → LooksAtInput p (source_run p input n) → ⊥
