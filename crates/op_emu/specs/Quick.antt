-- Steps over words that were decoded ahead.
use Rattle.std.specs.Prelude.{◌≡◌, ℕ, ◌+◌, ◌*◌, ◌%◌, ◌^◌, ◌<◌, List, MatchOption}
use Rattle.op_rv.specs.State.{State, Running}
use Rattle.op_rv.specs.Step.{act}
use Rattle.op_rv.specs.declared.instruction.Instr.{Instr}
use Rattle.op_emu.specs.Region.{Region, byte_in, rights_in}
use Rattle.op_emu.specs.Rows.{instr_of}
use Rattle.op_emu.specs.declared.quick.Next.{Next}
use Rattle.op_emu.specs.declared.quick.Next.TheVariants.{On, To, Stayed}
use Rattle.op_emu.specs.declared.row.Row.{Row}

-- a state that goes on
abbrev pub running : List ℕ → ℕ → List Region → List ℕ → List ℕ → List ℕ → State
running words pc regions input output errors =
    record {
      registers = words;
      pc = pc;
      memory = byte_in regions;
      rights = rights_in regions;
      input = input;
      output = output;
      errors = errors;
      ending = Running;
    }

-- what leads from these registers, program counter and segments to those, and touches no stream
abbrev pub Goes : (State → State) → List ℕ → ℕ → List Region → List ℕ → ℕ → List Region → Type 0
Goes f words pc regions words' pc' regions' =
    (x o e : List ℕ) → f (running words pc regions x o e) ≡ running words' pc' regions' x o e

-- an instruction that sets a register and goes on to the next one
abbrev pub Sets : Instr → List ℕ → List ℕ → Type 0
Sets i words words' = (pc : ℕ) (regions : List Region) → Goes (act i) words pc regions words' ((pc + 4) % 2 ^ 32) regions

-- from the word at a place on, of so many from an address on: on to the next word, to the word at another place, or nowhere
abbrev pub NextIs : (State → State) → ℕ → ℕ → ℕ → List ℕ → List Region → Next → List ℕ → List Region → Type 0
NextIs f base many k words regions On words' regions' =
    Goes f words (base + 4 * k) regions words' ((base + 4 * k + 4) % 2 ^ 32) regions'
NextIs f base many k words regions (To place) words' regions' =
    (place < many) × Goes f words (base + 4 * k) regions words' (base + 4 * place) regions'
NextIs f base many k words regions Stayed words' regions' = (words' ≡ words) × (regions' ≡ regions)

-- the instruction of a row was done, if it is one
abbrev pub RowGoes : Row → ℕ → ℕ → ℕ → List ℕ → List Region → Next → List ℕ → List Region → Type 0
RowGoes row base many k words regions next words' regions' =
    MatchOption (instr_of row) ((next ≡ Stayed) × (words' ≡ words) × (regions' ≡ regions)) (λ i. NextIs (act i) base many k words regions next words' regions')
