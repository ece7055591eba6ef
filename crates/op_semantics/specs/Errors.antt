-- Run-time errors. Where a file of the program uses SysUtils, errors 200, 201, 215 and 219 raise an exception; every other one ends
-- the program: it writes its line to the error stream, its number is the status, and nothing else runs. (Free Pascal User's Guide,
-- "Run-time errors"; Reference Guide, "Exceptions"; reference of the unit SysUtils, "EDivByZero", "ERangeError", "EIntOverflow" and
-- "EInvalidCast".)
use Rattle.std.specs.Prelude.{ℕ, nat_eq, List, [], ◌∷◌, ◌++◌, Option, Some, None, codes, if◌then◌else◌}
use Rattle.op_core.specs.declared.ids.ClassId.{ClassId}
use Rattle.op_core.specs.declared.ids.FieldId.{FieldId}
use Rattle.op_core.specs.declared.program.Core.{Core}
use Rattle.op_core.specs.declared.program.ExceptionClasses.{ExceptionClasses}
use Rattle.op_semantics.specs.Shapes.{zero_instance, field_of_class}
use Rattle.op_meaning.specs.Texts.{digits_of, line_feed}
use Rattle.op_meaning.specs.Values.{text, literal, put, object, all_of}
use Rattle.op_semantics.specs.World.{World, Ended, Live, fields, making, with_value, reported}

-- the program ends with this error
abbrev pub stopped : ℕ → World → World
stopped n w = record (reported (codes "Runtime error " ++ digits_of n ++ line_feed) w) { ending = Ended n }

-- the class that an error is raised as, and its message
abbrev pub class_of_error : ExceptionClasses → ℕ → Option (ClassId × List ℕ)
class_of_error x n =
    if nat_eq n 200 then Some (x.zero_divisor, codes "Division by zero")
    else if nat_eq n 201 then Some (x.range, codes "Range check error")
    else if nat_eq n 215 then Some (x.overflow, codes "Integer overflow")
    else if nat_eq n 219 then Some (x.cast, codes "Invalid type cast")
    else None

-- a live instance under the next name, whose fields are zero but for its message, is under way
abbrev pub raised_as : Core → FieldId → ClassId → List ℕ → World → World
raised_as core message c says w =
    record (with_value (all_of (object w.next)) (put (field_of_class core c message ∷ []) (text (literal says)) (zero_instance core c)) (making (fields c Live) w)) { raised = Some w.next }

abbrev failed_as : Core → ℕ → FieldId → Option (ClassId × List ℕ) → World → World
failed_as core n message None w = stopped n w
failed_as core n message (Some e) w = raised_as core message e.0 e.1 w

abbrev failed_by : Core → ℕ → Option ExceptionClasses → World → World
failed_by core n None w = stopped n w
failed_by core n (Some x) w = failed_as core n x.message (class_of_error x n) w

-- the error with this number
abbrev pub failed : Core → ℕ → World → World
failed core n w = failed_by core n core.exceptions w
