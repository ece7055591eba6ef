-- Short sequences of instructions: words put in registers, and words of memory at a distance from a register. A distance
-- is a word; one below a register is negative, so addresses wrap.
use Rattle.std.specs.Prelude.{ℕ, ℤ, pos, ◌+◌, ◌-◌, ◌/◌, ◌%◌, ◌^◌, ◌-ℤ◌, Bool, List, [], ◌∷◌, ◌++◌, nat_eq, if◌then◌else◌}
use Rattle.op_rv.specs.declared.instruction.Instr.TheVariants.{Lui, Load, Store, Imm, Alu}
use Rattle.op_rv.specs.declared.instruction.AluOp.TheVariants.{Add}
use Rattle.op_rv.specs.declared.instruction.ImmOp.TheVariants.{Addi}
use Rattle.op_rv.specs.declared.instruction.LoadOp.TheVariants.{Lw}
use Rattle.op_rv.specs.declared.instruction.StoreOp.TheVariants.{Sw}
use Rattle.op_rv.specs.declared.objects.Item.{Item}
use Rattle.op_rv.specs.declared.objects.Item.TheVariants.{Plain}

-- ---- registers, by their names in the manual

abbrev pub x0 : ℕ
x0 = 0

abbrev pub ra : ℕ
ra = 1

abbrev pub sp : ℕ
sp = 2

-- the first address above what low code may use
abbrev pub s0 : ℕ
s0 = 8

abbrev pub a0 : ℕ
a0 = 10

abbrev pub a1 : ℕ
a1 = 11

abbrev pub a2 : ℕ
a2 = 12

abbrev pub a7 : ℕ
a7 = 17

-- ---- the two parts of a word

-- lui sets the upper 20 bits, rounded so that what is left fits an immediate
unfoldable pub upper_of : ℕ → ℕ
upper_of w = (w + 2 ^ 11) % 2 ^ 32 / 2 ^ 12

-- what is left, -2,048 to 2,047
unfoldable pub lower_of : ℕ → ℤ
lower_of w = pos ((w + 2 ^ 11) % 2 ^ 12) -ℤ pos (2 ^ 11)

-- it fits an immediate
unfoldable pub is_near : ℕ → Bool
is_near w = nat_eq (upper_of w) 0

-- so many bytes down
unfoldable pub below : ℕ → ℕ
below n = (2 ^ 32 - n) % 2 ^ 32

-- ---- sequences

-- one small number, below 2,048
abbrev pub small : ℕ → ℕ → List Item
small to n = Plain (Imm Addi to x0 (pos n)) ∷ []

-- any word
unfoldable pub constant : ℕ → ℕ → List Item
constant to w =
    if is_near w
    then Plain (Imm Addi to x0 (lower_of w)) ∷ []
    else Plain (Lui to (upper_of w)) ∷ Plain (Imm Addi to to (lower_of w)) ∷ []

-- A place at a distance from a base is reached by a register and an immediate: near ones by the base itself, far ones by
-- the register `via`.
unfoldable pub reach : (base via w : ℕ) → List Item
reach base via w =
    if is_near w then [] else Plain (Lui via (upper_of w)) ∷ Plain (Alu Add via via base) ∷ []

unfoldable pub reached : (base via w : ℕ) → ℕ
reached base via w = if is_near w then base else via

-- a base and a word
unfoldable pub sum : (to base via w : ℕ) → List Item
sum to base via w = reach base via w ++ Plain (Imm Addi to (reached base via w) (lower_of w)) ∷ []

-- the word of memory there
unfoldable pub word_load : (to base via w : ℕ) → List Item
word_load to base via w = reach base via w ++ Plain (Load Lw to (reached base via w) (lower_of w)) ∷ []

unfoldable pub word_store : (value base via w : ℕ) → List Item
word_store value base via w = reach base via w ++ Plain (Store Sw (reached base via w) value (lower_of w)) ∷ []
