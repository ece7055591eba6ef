-- The frame of a routine: what it keeps on the stack for itself, above sp. Its highest word is the return address, then
-- comes a word for each virtual register, the first one highest. So a caller knows the place of each argument, and stores
-- those from the ninth on right there, below its own sp.
--
-- The first virtual registers live in registers of the machine. Each routine that is called saves those that it uses, in the
-- words of its own frame that these virtual registers leave free, and gives them back at its end.
use Rattle.std.specs.Prelude.{ℕ, pos, zero, suc, ◌+◌, ◌-◌, ◌*◌, ◌%◌, ◌^◌, ◌-ℤ◌, ℤ, List, [], ◌∷◌, ◌++◌, nat_eq, nat_le, nat_lt, if◌then◌else◌, max, min}
use Rattle.op_low.specs.declared.code.Routine.{Routine}
use Rattle.op_low.specs.declared.ids.VirtualRegister.{VirtualRegister}
use Rattle.op_rv.specs.declared.instruction.BranchOp.TheVariants.{Bne}
use Rattle.op_rv.specs.declared.instruction.ImmOp.TheVariants.{Addi}
use Rattle.op_rv.specs.declared.instruction.Instr.TheVariants.{Branch, Imm, Jalr, Load, Store}
use Rattle.op_rv.specs.declared.instruction.LoadOp.TheVariants.{Lw}
use Rattle.op_rv.specs.declared.instruction.StoreOp.TheVariants.{Sw}
use Rattle.op_rv.specs.declared.objects.Item.{Item}
use Rattle.op_rv.specs.declared.objects.Item.TheVariants.{Plain}
use Rattle.op_select.specs.Sequences.{x0, ra, sp, s0, a0, a1, below, sum, word_load, word_store}
use Rattle.op_select.specs.declared.frame.Home.{Home}
use Rattle.op_select.specs.declared.frame.Home.TheVariants.{Frame, Register}

-- the bytes of a routine's frame
unfoldable pub frame_of : Routine → ℕ
frame_of routine = 4 * (routine.registers + 1)

-- ---- virtual registers

-- how many virtual registers live in registers of the machine
abbrev pub most_homes : ℕ
most_homes = 14

-- those are s2 to s11, and then t3 to t6
abbrev pub home_register : ℕ → ℕ
home_register k = 18 + k

-- where a virtual register is kept
unfoldable pub home : Routine → VirtualRegister → Home
home routine r =
    if nat_lt r.0 most_homes then Register (home_register r.0) else Frame (4 * (routine.registers - 1 - r.0))

-- ---- moves to and from registers of the machine

unfoldable pub load_home : ℕ → Home → List Item
load_home to (Register number) = Plain (Imm Addi to number (pos 0)) ∷ []
load_home to (Frame offset) = word_load to sp to offset

unfoldable pub store_home : ℕ → Home → List Item
store_home value (Register number) = Plain (Imm Addi number value (pos 0)) ∷ []
store_home value (Frame offset) = word_store value sp ra offset

unfoldable pub fetch : Routine → ℕ → VirtualRegister → List Item
fetch routine to r = load_home to (home routine r)

unfoldable pub keep : Routine → VirtualRegister → ℕ → List Item
keep routine r value = store_home value (home routine r)

-- ---- operands and results of instructions

unfoldable pub register_of : (scratch : ℕ) → Home → ℕ
register_of scratch (Register number) = number
register_of scratch (Frame offset) = scratch

unfoldable pub brought : (scratch : ℕ) → Home → List Item
brought scratch (Register number) = []
brought scratch (Frame offset) = word_load scratch sp scratch offset

unfoldable pub put_away : Home → List Item
put_away (Register number) = []
put_away (Frame offset) = word_store a0 sp ra offset

-- the register of the machine that an instruction reads or writes: the home, and for a word of the frame a scratch register
unfoldable pub operand : Routine → (scratch : ℕ) → VirtualRegister → ℕ
operand routine scratch r = register_of scratch (home routine r)

-- what brings it there
unfoldable pub bring : Routine → (scratch : ℕ) → VirtualRegister → List Item
bring routine scratch r = brought scratch (home routine r)

-- a result that was written to the operand with the scratch register a0
unfoldable pub put : Routine → VirtualRegister → List Item
put routine r = put_away (home routine r)

-- ---- arguments

-- an argument from the ninth on, by its number: to its place in the frame of the routine that is called
unfoldable pub passed_in_memory : Routine → ℕ → VirtualRegister → List Item
passed_in_memory routine k r =
    bring routine a0 r ++ word_store (operand routine a0 r) sp ra (below ((4 * k + 8) % 2 ^ 32))

-- an argument by its number; the first eight go in a0 to a7
unfoldable pub passed_one : Routine → ℕ → VirtualRegister → List Item
passed_one routine k r = if nat_lt k 8 then fetch routine (a0 + k) r else passed_in_memory routine k r

-- the arguments from number k on, the last one first
unfoldable pub passed : Routine → ℕ → List VirtualRegister → List Item
passed routine k [] = []
passed routine k (r ∷ rs) = passed routine (k + 1) rs ++ passed_one routine k r

-- ---- homes of the caller

-- how many homes a routine uses
abbrev pub homes_of : Routine → ℕ
homes_of routine = min routine.registers most_homes

-- where the caller's one is saved, from the caller's sp on
abbrev pub saved_at : ℕ → ℤ
saved_at k = pos 0 -ℤ pos (4 * k + 8)

-- a home is saved, and becomes what another register has
abbrev pub taken_from : (k source : ℕ) → List Item
taken_from k source =
    Plain (Store Sw sp (home_register k) (saved_at k)) ∷ Plain (Imm Addi (home_register k) source (pos 0)) ∷ []

-- a home is saved, and the virtual register gets its first value there: zero, or the argument, which comes from the ninth one
-- on in the very word to which the home is saved
unfoldable pub taken_one : Routine → ℕ → List Item
taken_one routine k =
    if nat_le routine.parameters k then taken_from k x0
    else (if nat_lt k 8 then taken_from k (a0 + k) else Plain (Load Lw a0 sp (saved_at k)) ∷ taken_from k a0)

-- the homes below number n
unfoldable pub taken : Routine → ℕ → List Item
taken routine zero = []
taken routine (suc n) = taken routine n ++ taken_one routine n

-- and back
unfoldable pub given_back : ℕ → List Item
given_back zero = []
given_back (suc n) = given_back n ++ Plain (Load Lw (home_register n) sp (saved_at n)) ∷ []

-- ---- the beginning of a routine

-- zeros from the address in a register up to the one in another, which is not the same: a loop of one store
abbrev pub cleared : (from until : ℕ) → List Item
cleared from until =
    Plain (Store Sw from x0 (pos 0))
    ∷ Plain (Imm Addi from from (pos 4))
    ∷ Plain (Branch Bne from until (pos 0 -ℤ pos 8))
    ∷ []

-- how many virtual registers in the frame are no parameters
abbrev pub fresh_words : Routine → ℕ
fresh_words routine = routine.registers - max routine.parameters most_homes

-- these lie lowest
unfoldable pub cleared_registers : Routine → List Item
cleared_registers routine =
    let others = fresh_words routine in
    if nat_eq others 0 then []
    else Plain (Imm Addi a0 sp (pos 0)) ∷ sum a1 sp a1 (4 * others) ++ cleared a0 a1

-- the locals begin at the limit, which rises by them
unfoldable pub cleared_locals : Routine → List Item
cleared_locals routine =
    if nat_eq routine.locals 0 then []
    else Plain (Imm Addi a0 s0 (pos 0)) ∷ sum s0 s0 a1 routine.locals ++ cleared a0 s0

unfoldable pub head_of : Routine → List Item
head_of routine =
    Plain (Store Sw sp ra (pos 0 -ℤ pos 4))
    ∷ taken routine (homes_of routine)
    ++ sum sp sp ra (below (frame_of routine))
    ++ cleared_registers routine
    ++ cleared_locals routine

-- ---- its end

unfoldable pub lowered : Routine → List Item
lowered routine = if nat_eq routine.locals 0 then [] else sum s0 s0 ra (below routine.locals)

-- back behind the call, with the value in a0 and in a1 whether the routine raised
unfoldable pub epilogue : Routine → List Item
epilogue routine =
    lowered routine
    ++ sum sp sp ra (frame_of routine)
    ++ given_back (homes_of routine)
    ++ Plain (Load Lw ra sp (pos 0 -ℤ pos 4))
    ∷ Plain (Jalr x0 ra (pos 0))
    ∷ []
