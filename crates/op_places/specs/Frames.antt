-- What is settled of a routine before its code is expanded. Register 0 has the bytes of stack that are left, register 1 the address where
-- a result of a record or array type goes; behind them come the parameters, the other variables that are kept in registers, the
-- temporaries, and scratch registers.
use Rattle.std.specs.Prelude.{ℕ, ◌+◌, List, [], ◌∷◌, length, take, Option, Some, None, nat_eq, slice_get, if◌then◌else◌}
use Rattle.op_compute.specs.Bank.{scratch_of}
use Rattle.op_compute.specs.declared.bank.Bank.{Bank}
use Rattle.op_core.specs.Rows.{rows}
use Rattle.op_core.specs.declared.ids.TypeId.{TypeId}
use Rattle.op_core.specs.declared.program.Core.{Core}
use Rattle.op_places.specs.Homes.{end_of, homes_from, parameter, room_behind, roots_of}
use Rattle.op_places.specs.declared.frame.Frame.{Frame}
use Rattle.op_places.specs.declared.frame.Returning.{Returning}
use Rattle.op_places.specs.declared.frame.Returning.TheVariants.{Ending, Nothing, Result}
use Rattle.op_places.specs.declared.homes.Home.{Home}
use Rattle.op_places.specs.declared.homes.Home.TheVariants.{Stored}
use Rattle.op_places.specs.declared.homes.Room.{Room}
use Rattle.op_low.specs.declared.ids.VirtualRegister.{VirtualRegister}
use Rattle.op_meaning.specs.Expressions.{result_of}
use Rattle.op_meaning.specs.Shapes.{result_of_routine, variables_of}
use Rattle.op_mir.specs.declared.code.Routine.{Routine}
use Rattle.op_rt_text.specs.Names.{register}

-- how many parameters a routine has, its object among them
abbrev pub parameters_of : Core → ℕ → ℕ
parameters_of core r = result_of_routine core r

abbrev returning_by : Core → ℕ → Option TypeId → Returning
returning_by core r None = Nothing
returning_by core r (Some of) = Result of (record { 0 = result_of_routine core r })

-- the routine with the number behind those of all routines is the program itself
abbrev pub returning_of : Core → ℕ → Returning
returning_of core r = if nat_eq r (length core.routines) then Ending else returning_by core r (result_of (slice_get core.routines r))

abbrev pub first_room : ℕ → Room
first_room parameters = record { register = parameter parameters; offset = 0 }

-- behind all variables
abbrev pub variables_room : Core → ℕ → Routine → Room
variables_room core r routine =
    room_behind core (parameters_of core r) (roots_of routine) 0 (first_room (parameters_of core r)) (rows core.variables (variables_of core r))

-- the register of the first parameter that is stored, from number k on; it is free once the parameter is
abbrev pub spare_from : VirtualRegister → (k : ℕ) → List Home → VirtualRegister
spare_from other k [] = other
spare_from other k (Stored offset ∷ homes) = register (parameter k)
spare_from other k (home ∷ homes) = spare_from other (k + 1) homes

-- with no such parameter it is a scratch register
abbrev pub spare_of : Bank → (parameters : ℕ) → List Home → VirtualRegister
spare_of bank parameters homes = spare_from (scratch_of bank 1) 0 (take parameters homes)

abbrev pub bank_of : Room → Routine → Bank
bank_of room routine = record {
  temporaries = room.register;
  scratch = room.register + routine.temporaries;
  errors = length routine.blocks;
}

abbrev pub frame_of : Core → ℕ → Routine → Frame
frame_of core r routine =
    let parameters = parameters_of core r in
    let homes = homes_from core parameters (roots_of routine) 0 (first_room parameters) (rows core.variables (variables_of core r)) in
    let room = variables_room core r routine in
    record {
      first = (variables_of core r).first;
      homes = homes;
      roots = roots_of routine;
      temporaries = room.offset;
      locals = end_of core room.offset (roots_of routine);
      bank = bank_of room routine;
      spare = spare_of (bank_of room routine) parameters homes;
      returning = returning_of core r;
    }
