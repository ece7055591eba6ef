-- What is meant by a computation is what the source machine does.
use Rattle.std.proofs.Common.{◌≡◌, ℕ, ℤ, pos, Bool, true, false, ◌&&◌, not, refl, if◌then◌else◌}
use Rattle.std.specs.Ordering.{int_eq}
use Rattle.op_compute.specs.Meaning.{gives, fails, meant, settled, number_of_error, to_of, left_of, right_of}
use Rattle.op_compute.specs.declared.bank.RuntimeError.{RuntimeError}
use Rattle.op_compute.specs.declared.bank.RuntimeError.TheVariants.{DivisionByZero, RangeCheck, IntegerOverflow}
use Rattle.op_core.specs.declared.program.Core.{Core}
use Rattle.op_meaning.specs.Actions.{perform}
use Rattle.op_meaning.specs.Errors.{failed}
use Rattle.op_meaning.specs.Numbers.{between, divides, exact, fits_word, wrapped}
use Rattle.op_meaning.specs.Sets.{without}
use Rattle.op_meaning.specs.World.{World, number_at, with_number}
use Rattle.op_mir.specs.View.{view_computation}
use Rattle.op_mir.specs.declared.action.Computation.{Computation}
use Rattle.op_mir.specs.declared.action.Computation.TheVariants.{Arithmetic, Compare, Negate, Complement, Invert, Absolute, Odd, Upper, LowBits, Check, Neighbour, Single, Span, Combine, Contains, CheckSet}

-- a number where the test holds, and an error where it does not
chosen : (core : Core) (to : _) (test : Bool) (n : ℤ) (error : RuntimeError) (w : World) → (if test then with_number to n w else failed core (number_of_error error) w) ≡ settled core to (if test then gives n else fails error) w
chosen core to true n error w = refl
chosen core to false n error w = refl

failing : (core : Core) (to : _) (test : Bool) (n : ℤ) (error : RuntimeError) (w : World) → (if test then failed core (number_of_error error) w else with_number to n w) ≡ settled core to (if test then fails error else gives n) w
failing core to true n error w = refl
failing core to false n error w = refl

failing_twice : (core : Core) (to : _) (first test : Bool) (n : ℤ) (before error : RuntimeError) (w : World) → (if first then failed core (number_of_error before) w else (if test then failed core (number_of_error error) w else with_number to n w)) ≡ settled core to (if first then fails before else (if test then fails error else gives n)) w
failing_twice core to true test n before error w = refl
failing_twice core to false test n before error w = failing core to test n error w

pub performed : (core : Core) (held : ℕ → ℕ) (c : Computation) (w : World) → perform core held (view_computation c) w ≡ settled core (to_of c).0 (meant c (number_at w (left_of c).0) (number_at w (right_of c).0)) w
unfolding perform meant
performed core held (Arithmetic o checked to a b) w =
    let x = number_at w a.0 in
    let y = number_at w b.0 in
    failing_twice core to.0 (divides o && int_eq y (pos 0)) (checked && not (fits_word (exact o x y))) (wrapped (exact o x y)) DivisionByZero IntegerOverflow w
performed core held (Compare o to a b) w = refl
performed core held (Negate checked to a) w = failing core to.0 (checked && _) _ IntegerOverflow w
performed core held (Complement to a) w = refl
performed core held (Invert to a) w = refl
performed core held (Absolute checked to a) w = failing core to.0 (checked && _) _ IntegerOverflow w
performed core held (Odd to a) w = refl
performed core held (Upper to a) w = refl
performed core held (LowBits kind to a) w = refl
performed core held (Check low high to a) w = chosen core to.0 (between low high (number_at w a.0)) (number_at w a.0) RangeCheck w
performed core held (Neighbour distance low high to a) w = chosen core to.0 _ _ RangeCheck w
performed core held (Single to a) w = refl
performed core held (Span to a b) w = refl
performed core held (Combine o to a b) w = refl
performed core held (Contains to a b) w = refl
performed core held (CheckSet all to a) w = chosen core to.0 (int_eq (without (number_at w a.0) all) (pos 0)) (number_at w a.0) RangeCheck w
