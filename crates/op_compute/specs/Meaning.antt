-- What a computation gives, and when its low code does that.
use Rattle.std.specs.Prelude.{◌≡◌, ◌≢◌, ℕ, ◌<◌, ◌^◌, ℤ, pos, ◌+ℤ◌, neg_ℤ, unsigned_abs, Bool, true, not, ◌&&◌, if◌then◌else◌}
use Rattle.std.specs.Int.{w32, int_bit_not}
use Rattle.std.specs.Int.RustNames.{FitsSigned}
use Rattle.std.specs.Ordering.{int_eq}
use Rattle.op_compute.specs.Straight.{Outcome, Behind, Away}
use Rattle.op_compute.specs.declared.bank.Operands.{Operands}
use Rattle.op_compute.specs.declared.bank.RuntimeError.{RuntimeError}
use Rattle.op_compute.specs.declared.bank.RuntimeError.TheVariants.{DivisionByZero, RangeCheck, StackOverflow, IntegerOverflow}
use Rattle.op_compute.specs.declared.bank.Work.{Work}
use Rattle.op_core.specs.declared.program.Core.{Core}
use Rattle.op_low.specs.declared.ids.VirtualRegister.{VirtualRegister}
use Rattle.op_meaning.specs.Errors.{failed}
use Rattle.op_meaning.specs.Numbers.{between, wrapped, fits_word, exact, divides, compared, low_bits_of, upper_case, is_true}
use Rattle.op_meaning.specs.Sets.{truth, bit, set_of, without, combined, is_element}
use Rattle.op_meaning.specs.World.{World, with_number}
use Rattle.op_mir.specs.declared.action.Computation.{Computation}
use Rattle.op_mir.specs.declared.action.Computation.TheVariants.{Arithmetic, Compare, Negate, Complement, Invert, Absolute, Odd, Upper, LowBits, Check, Neighbour, Single, Span, Combine, Contains, CheckSet}
use Rattle.op_mir.specs.declared.ids.TemporaryId.{TemporaryId}
use Rattle.op_rv.specs.Operation.{signed}
use Rattle.op_rv.specs.declared.symbol.BlockId.{BlockId}

-- ---- computations

-- a number, or a run-time error
pub data Meant : Type 0 where
  gives : (n : ℤ) → Meant
  fails : (error : RuntimeError) → Meant

-- the low 32 bits of a result, or error 215 where it is checked and has more
abbrev pub computed : Bool → ℤ → Meant
computed checked n = if checked && not (fits_word n) then fails IntegerOverflow else gives (wrapped n)

-- error 201 where the number is out of the range
abbrev pub within : ℤ → ℤ → ℤ → Meant
within low high n = if between low high n then gives n else fails RangeCheck

-- of two numbers, the second of which is the first one again where the computation has one operand
unfoldable pub meant : Computation → ℤ → ℤ → Meant
meant (Arithmetic o checked to a b) x y = if divides o && int_eq y (pos 0) then fails DivisionByZero else computed checked (exact o x y)
meant (Compare o to a b) x y = gives (truth (compared o x y))
meant (Negate checked to a) x y = computed checked (neg_ℤ x)
meant (Complement to a) x y = gives (int_bit_not w32 x)
meant (Invert to a) x y = gives (truth (not (is_true x)))
meant (Absolute checked to a) x y = computed checked (pos (unsigned_abs x))
meant (Odd to a) x y = gives (truth (bit x 0))
meant (Upper to a) x y = gives (upper_case x)
meant (LowBits kind to a) x y = gives (low_bits_of kind x)
meant (Check low high to a) x y = within low high x
meant (Neighbour distance low high to a) x y = within low high (x +ℤ distance)
meant (Single to a) x y = gives (set_of (λ n. int_eq (pos n) x))
meant (Span to a b) x y = gives (set_of (λ n. between x y (pos n)))
meant (Combine o to a b) x y = gives (combined o x y)
meant (Contains to a b) x y = gives (truth (is_element x y))
meant (CheckSet all to a) x y = if int_eq (without x all) (pos 0) then gives x else fails RangeCheck

abbrev pub number_of_error : RuntimeError → ℕ
number_of_error DivisionByZero = 200
number_of_error RangeCheck = 201
number_of_error StackOverflow = 202
number_of_error IntegerOverflow = 215

-- the world, in which a temporary is the number, or the error has come
abbrev pub settled : Core → (to : ℕ) → Meant → World → World
settled core to (gives n) w = with_number to n w
settled core to (fails error) w = failed core (number_of_error error) w

-- the temporary that a computation sets, and those of its operands, which are one where there is only one
abbrev pub to_of : Computation → TemporaryId
to_of (Arithmetic o checked to a b) = to
to_of (Compare o to a b) = to
to_of (Negate checked to a) = to
to_of (Complement to a) = to
to_of (Invert to a) = to
to_of (Absolute checked to a) = to
to_of (Odd to a) = to
to_of (Upper to a) = to
to_of (LowBits kind to a) = to
to_of (Check low high to a) = to
to_of (Neighbour distance low high to a) = to
to_of (Single to a) = to
to_of (Span to a b) = to
to_of (Combine o to a b) = to
to_of (Contains to a b) = to
to_of (CheckSet all to a) = to

abbrev pub left_of : Computation → TemporaryId
left_of (Arithmetic o checked to a b) = a
left_of (Compare o to a b) = a
left_of (Negate checked to a) = a
left_of (Complement to a) = a
left_of (Invert to a) = a
left_of (Absolute checked to a) = a
left_of (Odd to a) = a
left_of (Upper to a) = a
left_of (LowBits kind to a) = a
left_of (Check low high to a) = a
left_of (Neighbour distance low high to a) = a
left_of (Single to a) = a
left_of (Span to a b) = a
left_of (Combine o to a b) = a
left_of (Contains to a b) = a
left_of (CheckSet all to a) = a

abbrev pub right_of : Computation → TemporaryId
right_of (Arithmetic o checked to a b) = b
right_of (Compare o to a b) = b
right_of (Span to a b) = b
right_of (Combine o to a b) = b
right_of (Contains to a b) = b
right_of c = left_of c

-- the numbers that stand in a computation have 32 bits
abbrev pub HasWords : Computation → Type 0
HasWords (Check low high to a) = (fits_word low ≡ true) × (fits_word high ≡ true)
HasWords (Neighbour distance low high to a) = FitsSigned w32 distance × (fits_word low ≡ true) × (fits_word high ≡ true)
HasWords _ = Unit {0}

-- ---- low code

abbrev pub block_for : Work → RuntimeError → BlockId
block_for w DivisionByZero = w.division
block_for w RangeCheck = w.range
block_for w StackOverflow = w.stack
block_for w IntegerOverflow = w.overflow

-- the scratch registers stand in order behind those of the operands
pub record IsApart (w : Work) (o : Operands) : Type 0 where
  pub to : o.to.0 < w.first.0
  pub left : o.left.0 < w.first.0
  pub right : o.right.0 < w.first.0
  pub second : w.first.0 < w.second.0
  pub third : w.second.0 < w.third.0

-- no register in front of the scratch registers has changed, but for one
abbrev pub AreKept : Work → (to : VirtualRegister) → (ℕ → ℕ) → (ℕ → ℕ) → Type 0
AreKept w to f g = (r : ℕ) → r < w.first.0 → r ≢ to.0 → g r ≡ f r

-- a word is the number
pub record IsWordOf (word : ℕ) (n : ℤ) : Type 0 where
  pub number : signed word ≡ n
  pub bound : word < 2 ^ 32

-- a register has become the word of the number
pub record Gives (w : Work) (to : VirtualRegister) (f g : ℕ → ℕ) (n : ℤ) : Type 0 where
  pub result : IsWordOf (g to.0) n
  pub others : AreKept w to f g

pub record Fails (w : Work) (to : VirtualRegister) (f g : ℕ → ℕ) (block : BlockId) (error : RuntimeError) : Type 0 where
  pub leads : block ≡ block_for w error
  pub others : AreKept w to f g

-- where code comes to, from these registers on, is what is meant
abbrev pub Answers : Work → (to : VirtualRegister) → (ℕ → ℕ) → Meant → Outcome → Type 0
Answers w to f (gives n) (Behind g) = Gives w to f g n
Answers w to f (fails error) (Away block g) = Fails w to f g block error
Answers w to f _ _ = ⊥
