-- An example: a program of one routine that ends with 7, placed in memory.
use Rattle.std.specs.Prelude.{ℕ, ◌-◌, ◌/◌, ◌%◌, Bool, ◌&&◌, Some, None, List, [], ◌∷◌, ◌++◌, slice_get, nat_eq, nat_le, nat_lt, if◌then◌else◌}
use Rattle.op_low.specs.declared.code.Low.{Low}
use Rattle.op_low.specs.declared.code.Routine.{Routine}
use Rattle.op_low.specs.declared.ids.VirtualRegister.{VirtualRegister}
use Rattle.op_low.specs.declared.instruction.Instruction.TheVariants.{Const, Exit, Raise}
use Rattle.op_rv.specs.declared.instruction.Instr.{Instr}
use Rattle.op_rv.specs.declared.objects.Item.{Item}
use Rattle.op_rv.specs.declared.objects.Item.TheVariants.{Plain, Address, Branch, Call, CallAt, Jump}
use Rattle.op_select.specs.Frames.{head_of}
use Rattle.op_select.specs.Going.{Setting}
use Rattle.op_select.specs.Selection.{code_items, items_of}

abbrev register : VirtualRegister
register = record { 0 = 0 }

abbrev pub example_routine : Routine
example_routine =
    record {
      parameters = 0;
      registers = 1;
      locals = 0;
      blocks = record { code = Const register 7 ∷ Exit register ∷ [] } ∷ [];
    }

abbrev pub example_low : Low
example_low =
    record {
      routines = example_routine ∷ [];
      entry = record { 0 = 0 };
      counts = record { literals = 0; tables = 0; descriptors = 0 };
      globals = [];
    }

-- items that are instructions already
abbrev plain_of : List Item → List Instr
plain_of [] = []
plain_of (Plain i ∷ is) = i ∷ plain_of is
plain_of (Address rd symbol ∷ is) = plain_of is
plain_of (Branch op left right block ∷ is) = plain_of is
plain_of (Jump block ∷ is) = plain_of is
plain_of (Call routine landing ∷ is) = plain_of is
plain_of (CallAt landing ∷ is) = plain_of is

-- the head, its block, and the one that raises, one behind the other
unfoldable pub example_code : List Instr
example_code =
    plain_of
    (head_of example_routine
    ++ code_items example_routine (Const register 7 ∷ Exit register ∷ [])
    ++ items_of example_routine Raise)

abbrev pub is_between : ℕ → ℕ → ℕ → Bool
is_between from past x = nat_le from x && nat_lt x past

-- code from 0x10000 on, and a stack of a page from 0x20000 on
abbrev pub example_setting : Setting
example_setting =
    record {
      low = example_low;
      placing =
          record {
            code = λ a. if nat_le 65536 a && nat_eq (a % 4) 0 then slice_get example_code ((a - 65536) / 4) else None;
            head = λ r. 65536;
            block = λ r b. if nat_eq b 0 then 65552 else 65568;
            address = λ symbol. 65536;
          };
      rights =
          record {
            readable = is_between 131072 135168;
            writable = is_between 131072 135168;
            executable = is_between 65536 69632;
          };
      routine_at = λ a. if nat_eq a 65536 then Some 0 else None;
      bottom = 131072;
      top = 135168;
    }
