-- The machine of the instruction table as one that shows what it reads and writes.
use Rattle.std.specs.Prelude.{Bool, ◌&&◌, Option, Some, None, List, [], ◌∷◌, take, nat_eq, if◌then◌else◌}
use Rattle.op_simulation.specs.System.{System}
use Rattle.op_low.specs.Machine.{Event, Written, Taken}
use Rattle.op_low.specs.declared.instruction.Output.TheVariants.{Console, Errors}
use Rattle.op_rv.specs.Decoding.{instr_at}
use Rattle.op_rv.specs.Environment.{is_readable, is_writable}
use Rattle.op_rv.specs.State.{State, Ending, Running, Ended, Faulted, register, word_at, bytes_from}
use Rattle.op_rv.specs.Step.{step, can_fetch}
use Rattle.op_rv.specs.declared.instruction.Instr.{Instr}
use Rattle.op_rv.specs.declared.instruction.Instr.TheVariants.{Lui, Auipc, Jal, Jalr, Branch, Load, Store, Imm, Shift, Alu, Fence, Ecall, Ebreak}

abbrev pub event_if : Bool → Event → List Event
event_if happens event = if happens then event ∷ [] else []

abbrev pub read_event : State → List Event
read_event s =
    event_if (nat_eq (register s 10) 0 && is_writable s) (Taken (take (register s 12) s.input))

abbrev pub write_event : State → List Event
write_event s =
    let bytes = bytes_from s.memory (register s 11) (register s 12) in
    if nat_eq (register s 10) 1
    then event_if (is_readable s) (Written Console bytes)
    else event_if (nat_eq (register s 10) 2 && is_readable s) (Written Errors bytes)

-- what an environment call shows
unfoldable pub call_event : State → List Event
call_event s =
    if nat_eq (register s 17) 63 then read_event s else (if nat_eq (register s 17) 64 then write_event s else [])

unfoldable pub instr_shows : Option Instr → State → List Event
instr_shows None s = []
instr_shows (Some (Lui rd upper)) s = []
instr_shows (Some (Auipc rd upper)) s = []
instr_shows (Some (Jal rd offset)) s = []
instr_shows (Some (Jalr rd rs1 offset)) s = []
instr_shows (Some (Branch op rs1 rs2 offset)) s = []
instr_shows (Some (Load op rd rs1 offset)) s = []
instr_shows (Some (Store op rs1 rs2 offset)) s = []
instr_shows (Some (Imm op rd rs1 imm)) s = []
instr_shows (Some (Shift op rd rs1 amount)) s = []
instr_shows (Some (Alu op rd rs1 rs2)) s = []
instr_shows (Some (Fence rd rs1 bits)) s = []
instr_shows (Some Ecall) s = call_event s
instr_shows (Some Ebreak) s = []

unfoldable pub riscv_shows : Ending → State → List Event
riscv_shows Running s = if can_fetch s then instr_shows (instr_at (word_at s.memory s.pc)) s else []
riscv_shows (Ended status) s = []
riscv_shows (Faulted kind pc) s = []

-- each step costs one
abbrev pub riscv_machine : System Event
riscv_machine = record { State = State; step = step; cost = λ _. 1; shows = λ s. riscv_shows s.ending s }
