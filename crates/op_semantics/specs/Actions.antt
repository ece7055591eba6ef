-- Actions: what an activation does between two choices, each in one step. Their operands and what they give are in temporaries, which
-- are named by their numbers. (Free Pascal Reference Guide, "Expressions" and "Assignments"; reference of the unit System.)
use Rattle.std.specs.Prelude.{ℕ, ℤ, pos, negsuc, ◌+ℤ◌, ◌-ℤ◌, neg_ℤ, nat_abs, unsigned_abs, Bool, not, ◌&&◌, List, [], ◌∷◌, ◌++◌, length, slice_index, if◌then◌else◌}
use Rattle.std.specs.Int.{w32, int_bit_not}
use Rattle.std.specs.Ordering.{int_eq}
use Rattle.op_core.specs.Initial.{FirstValue}
use Rattle.op_core.specs.declared.ids.TypeId.{TypeId}
use Rattle.op_core.specs.declared.program.Core.{Core}
use Rattle.op_core.specs.declared.types.IntegerKind.{IntegerKind}
use Rattle.op_semantics.specs.Errors.{failed}
use Rattle.op_meaning.specs.Numbers.{between, wrapped, fits_word, exact, divides, compared, low_bits_of, upper_case, is_true}
use Rattle.op_semantics.specs.Paths.{Path, at_place, place_of}
use Rattle.op_semantics.specs.Primitives.{Destination, Operand, meaning, performed, signature, values_of}
use Rattle.op_meaning.specs.Sets.{truth, bit, set_of, without, combined, is_element}
use Rattle.op_semantics.specs.Shapes.{first_of}
use Rattle.op_meaning.specs.Texts.{byte_of}
use Rattle.op_meaning.specs.Values.{and_then, number, local, all_of, number_in}
use Rattle.op_semantics.specs.World.{World, with_number, number_at, value_at, with_value}
use Rattle.op_semantics.specs.declared.primitive.Primitive.{Primitive}
use Rattle.op_tree.specs.declared.operator.Operator.{Operator}

pub data Action : Type 0 where
  -- ---- values and places
  constant : (to : ℕ) → (n : ℤ) → Action
  load : (to : ℕ) → (kind : IntegerKind) → (from : Path) → Action
  store : (to : Path) → (kind : IntegerKind) → (from : ℕ) → Action
  -- all parts of what stands at a place
  copy : (of : TypeId) → (to from : Path) → Action
  -- a variable of the activation begins with its first value
  begin_with : (variable : ℕ) → (of : TypeId) → (value : FirstValue) → Action
  -- a Char of a literal, by its index from 1
  pick : (to : ℕ) → (text : List ℕ) → (index : ℕ) → Action
  -- ---- numbers
  arithmetic : (operator : Operator) → (checked : Bool) → (to left right : ℕ) → Action
  compare : (operator : Operator) → (to left right : ℕ) → Action
  negate : (checked : Bool) → (to from : ℕ) → Action
  -- `not` of an integer, and of a Boolean
  complement : (to from : ℕ) → Action
  invert : (to from : ℕ) → Action
  absolute : (checked : Bool) → (to from : ℕ) → Action
  odd : (to from : ℕ) → Action
  upper : (to from : ℕ) → Action
  -- a conversion that keeps the low bits, and one that is checked
  low_bits : (kind : IntegerKind) → (to from : ℕ) → Action
  check : (low high : ℤ) → (to from : ℕ) → Action
  -- the value that stands so far behind this one, within the type
  neighbour : (distance low high : ℤ) → (to from : ℕ) → Action
  -- ---- sets
  -- of one value, and of all from one to another
  single : (to from : ℕ) → Action
  span : (to first last : ℕ) → Action
  combine : (operator : Operator) → (to left right : ℕ) → Action
  contains : (to element set : ℕ) → Action
  -- checks that there is no element but of this set
  check_set : (all : ℤ) → (to from : ℕ) → Action
  -- ---- the input: the next byte, or -1 at its end; the next byte is taken; and of the number that is being read nothing, and one byte more
  peek : (to : ℕ) → Action
  take : Action
  forget : Action
  note : (from : ℕ) → Action
  -- ---- what a run-time routine does
  primitive : (p : Primitive) → (operands : List Operand) → (to : Destination) → Action

-- the low 32 bits of a result, or error 215 where Q is on and it has more
abbrev pub computed : Core → Bool → ℕ → ℤ → World → World
computed core checked to n w = if checked && not (fits_word n) then failed core 215 w else with_number to (wrapped n) w

-- error 200 where the divisor is zero
abbrev pub calculated : Core → Operator → Bool → ℕ → ℤ → ℤ → World → World
calculated core o checked to a b w = if divides o && int_eq b (pos 0) then failed core 200 w else computed core checked to (exact o a b) w

-- error 201 where the number is out of the range
abbrev pub within : Core → ℤ → ℤ → ℕ → ℤ → World → World
within core low high to n w = if between low high n then with_number to n w else failed core 201 w

-- error 201 where the literal has no such Char
abbrev pub picked : Core → ℕ → List ℕ → ℤ → World → World
picked core to text n w = if between (pos 1) (pos (length text)) n then with_number to (pos (slice_index text (nat_abs (n -ℤ pos 1)))) w else failed core 201 w

-- the next byte of what is left of the input, and what is left behind it
abbrev pub next_byte : List ℕ → ℤ
next_byte [] = negsuc 0
next_byte (b ∷ bytes) = pos b

abbrev pub behind_next : List ℕ → List ℕ
behind_next [] = []
behind_next (b ∷ bytes) = bytes

-- by how many places each name is held is told too
unfoldable pub perform : Core → (held : ℕ → ℕ) → Action → World → World
perform core held (constant to n) w = with_number to (wrapped n) w
perform core held (load to kind from) w = at_place core (place_of w from) (λ p. with_number to (number_in (value_at w p)) w) w
perform core held (store to kind from) w = at_place core (place_of w to) (λ p. with_value p (number (low_bits_of kind (number_at w from))) w) w
perform core held (copy of to from) w = at_place core (place_of w from) (λ q. at_place core (place_of w to) (λ p. with_value p (value_at w q) w) w) w
perform core held (begin_with v of value) w = with_value (all_of (local w.depth v)) (first_of core of value) w
perform core held (pick to text index) w = picked core to text (number_at w index) w
perform core held (arithmetic o checked to a b) w = calculated core o checked to (number_at w a) (number_at w b) w
perform core held (compare o to a b) w = with_number to (truth (compared o (number_at w a) (number_at w b))) w
perform core held (negate checked to a) w = computed core checked to (neg_ℤ (number_at w a)) w
perform core held (complement to a) w = with_number to (int_bit_not w32 (number_at w a)) w
perform core held (invert to a) w = with_number to (truth (not (is_true (number_at w a)))) w
perform core held (absolute checked to a) w = computed core checked to (pos (unsigned_abs (number_at w a))) w
perform core held (odd to a) w = with_number to (truth (bit (number_at w a) 0)) w
perform core held (upper to a) w = with_number to (upper_case (number_at w a)) w
perform core held (low_bits kind to a) w = with_number to (low_bits_of kind (number_at w a)) w
perform core held (check low high to a) w = within core low high to (number_at w a) w
perform core held (neighbour distance low high to a) w = within core low high to (number_at w a +ℤ distance) w
perform core held (single to a) w = with_number to (set_of (λ n. int_eq (pos n) (number_at w a))) w
perform core held (span to a b) w = with_number to (set_of (λ n. between (number_at w a) (number_at w b) (pos n))) w
perform core held (combine o to a b) w = with_number to (combined o (number_at w a) (number_at w b)) w
perform core held (contains to a b) w = with_number to (truth (is_element (number_at w a) (number_at w b))) w
perform core held (check_set all to a) w = if int_eq (without (number_at w a) all) (pos 0) then with_number to (number_at w a) w else failed core 201 w
perform core held (peek to) w = with_number to (next_byte w.input) w
perform core held take w = record w { input = behind_next w.input }
perform core held forget w = record w { token = [] }
perform core held (note a) w = record w { token = w.token ++ byte_of (number_at w a) ∷ [] }
perform core held (primitive p operands to) w = performed core to (and_then (values_of core held w (signature p) operands) (meaning core p)) w
