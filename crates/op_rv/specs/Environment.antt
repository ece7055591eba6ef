-- Environment calls: the number in a7, the arguments in a0 to a2 and the result in a0.
use Rattle.std.specs.Prelude.{ℕ, ◌%◌, ◌++◌, List, length, take, drop, Bool, nat_eq, if◌then◌else◌}
use Rattle.op_rv.specs.State.{State, Ended, register, with_register, advanced, faulted, bytes_from, all_from, with_bytes}
use Rattle.op_rv.specs.declared.fault.FaultKind.TheVariants.{Load, Store, Call}

-- the a2 bytes at a1 may be read
abbrev pub is_readable : State → Bool
is_readable s = all_from s.rights.readable (register s 11) (register s 12)

-- the a2 bytes at a1 may be written
abbrev pub is_writable : State → Bool
is_writable s = all_from s.rights.writable (register s 11) (register s 12)

-- a0 becomes the result, and the machine goes on
abbrev pub returned : ℕ → State → State
returned result s = advanced (with_register s 10 result)

-- these bytes go from the front of the input to a1, and their number comes back
abbrev pub filled : List ℕ → State → State
filled bytes s =
    record (returned (length bytes) s) { memory = with_bytes s.memory (register s 11) bytes; input = drop (length bytes) s.input }

-- read: from descriptor 0, the input, come a2 bytes, or as many as are left
unfoldable pub read_call : State → State
read_call s =
    if nat_eq (register s 10) 0
    then (if is_writable s then filled (take (register s 12) s.input) s else faulted Store s)
    else faulted Call s

-- write: the a2 bytes at a1 go to descriptor 1, the output, or 2, the errors, and their number comes back
unfoldable pub write_call : State → State
write_call s =
    let bytes = bytes_from s.memory (register s 11) (register s 12) in
    if nat_eq (register s 10) 1
    then (if is_readable s then record (returned (register s 12) s) { output = s.output ++ bytes } else faulted Load s)
    else
    (if nat_eq (register s 10) 2
    then (if is_readable s then record (returned (register s 12) s) { errors = s.errors ++ bytes } else faulted Load s)
    else faulted Call s)

-- exit: the status is the low eight bits of a0
unfoldable pub exit_call : State → State
exit_call s = record s { ending = Ended (register s 10 % 256) }

unfoldable pub environment_call : State → State
environment_call s =
    if nat_eq (register s 17) 63
    then read_call s
    else (if nat_eq (register s 17) 64 then write_call s else (if nat_eq (register s 17) 93 then exit_call s else faulted Call s))
