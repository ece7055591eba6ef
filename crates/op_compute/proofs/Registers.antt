-- Registers, of which one has another value, and parts of what code comes to.
use Rattle.std.proofs.Common.{◌≡◌, ◌≢◌, ℕ, ℤ, ◌<◌, ◌≤◌, Bool, true, false, not, nat_eq, refl, ap₂, sym, ◌∙◌, subst, arith, if◌then◌else◌}
use Rattle.std.proofs.lemmas.Bool.{ne_eqb}
use Rattle.std.proofs.lemmas.Bool.Decides.{nat_tests}
use Rattle.op_base.proofs.Tests.{eqb-itself}
use Rattle.op_compute.specs.Meaning.{Meant, gives, fails, computed, Answers, AreKept, IsApart, IsWordOf, block_for}
use Rattle.op_compute.specs.Moves.{move_code}
use Rattle.op_compute.specs.Straight.{put, outcome, takes, Outcome, Behind, Away}
use Rattle.op_compute.specs.declared.bank.Operands.{Operands}
use Rattle.op_compute.specs.declared.bank.RuntimeError.{RuntimeError}
use Rattle.op_compute.specs.declared.bank.RuntimeError.TheVariants.{IntegerOverflow}
use Rattle.op_compute.specs.declared.bank.Work.{Work}
use Rattle.op_low.specs.declared.ids.VirtualRegister.{VirtualRegister}
use Rattle.op_meaning.specs.Numbers.{fits_word, wrapped}
use Rattle.op_rv.specs.declared.instruction.BranchOp.TheVariants.{Bne}

-- ---- one register

pub put_same : (f : ℕ → ℕ) (to : VirtualRegister) (v : ℕ) → put f to v to.0 ≡ v
unfolding put
put_same f to v = simp (eqb-itself to.0) refl

pub put_other : (f : ℕ → ℕ) (to : VirtualRegister) (v n : ℕ) → n ≢ to.0 → put f to v n ≡ f n
unfolding put
put_other f to v n p = simp (ne_eqb n to.0 p) refl

pub put_lower : (f : ℕ → ℕ) (to : VirtualRegister) (v n : ℕ) → n < to.0 → put f to v n ≡ f n
put_lower f to v n p = put_other f to v n (omega arith)

pub put_higher : (f : ℕ → ℕ) (to : VirtualRegister) (v n : ℕ) → to.0 < n → put f to v n ≡ f n
put_higher f to v n p = put_other f to v n (omega arith)

-- ---- what is kept

pub kept_none : (w : Work) (to : VirtualRegister) (f : ℕ → ℕ) → AreKept w to f f
kept_none w to f = λ r below differs. refl

pub kept_scratch : (w : Work) (to r : VirtualRegister) (f g : ℕ → ℕ) (v : ℕ) → w.first.0 ≤ r.0 → AreKept w to f g → AreKept w to f (put g r v)
kept_scratch w to r f g v le kept = λ k below differs. put_other g r v k (omega arith) ∙ kept k below differs

pub kept_result : (w : Work) (to : VirtualRegister) (f g : ℕ → ℕ) (v : ℕ) → AreKept w to f g → AreKept w to f (put g to v)
kept_result w to f g v kept = λ k below differs. put_other g to v k differs ∙ kept k below differs

-- ---- ends of code

pub result_set : (w : Work) (to : VirtualRegister) (f g : ℕ → ℕ) (v : ℕ) (n : ℤ) → AreKept w to f g → IsWordOf v n → Answers w to f (gives n) (Behind (put g to v))
result_set w to f g v n kept is = record { result = subst (λ u. IsWordOf u n) (sym (put_same g to v)) is; others = kept_result w to f g v kept }

moved_by : (w : Work) (to from : VirtualRegister) (f g : ℕ → ℕ) (n : ℤ) (same : Bool) → nat_eq to.0 from.0 ≡ same → AreKept w to f g → IsWordOf (g from.0) n → Answers w to f (gives n) (if same then Behind g else Behind (put g to (g from.0)))
moved_by w to from f g n true e kept is =
    let one : to.0 ≡ from.0 = grind (arith, nat_tests) in
    record { result = subst (λ k. IsWordOf (g k) n) (sym one) is; others = kept }
moved_by w to from f g n false e kept is = result_set w to f g (g from.0) n kept is

outcome_move : (to from : VirtualRegister) (g : ℕ → ℕ) (same : Bool) → nat_eq to.0 from.0 ≡ same → outcome (move_code to from) g ≡ (if same then Behind g else Behind (put g to (g from.0)))
unfolding outcome move_code
outcome_move to from g true e = simp e refl
outcome_move to from g false e = simp e refl

pub moved : (w : Work) (to from : VirtualRegister) (f g : ℕ → ℕ) (n : ℤ) → AreKept w to f g → IsWordOf (g from.0) n → Answers w to f (gives n) (outcome (move_code to from) g)
moved w to from f g n kept is =
    let same = nat_eq to.0 from.0 in
    subst (Answers w to f (gives n)) (sym (outcome_move to from g same refl)) (moved_by w to from f g n same refl kept is)

-- ---- tests

-- where the test of the code is that of the meaning; behind it the test has not held
pub tested : (w : Work) (to : VirtualRegister) (f g : ℕ → ℕ) (taken test : Bool) (error : RuntimeError) (meaning : Meant) (rest : Outcome) → taken ≡ test → AreKept w to f g → (test ≡ false → Answers w to f meaning rest) → Answers w to f (if test then fails error else meaning) (if taken then Away (block_for w error) g else rest)
tested w to f g true true error meaning rest e kept behind = record { leads = refl; others = kept }
tested w to f g false false error meaning rest e kept behind = behind refl
tested w to f g true false error meaning rest e kept behind = absurd cc
tested w to f g false true error meaning rest e kept behind = absurd cc

-- ---- three scratch registers

abbrev pub three : Work → (ℕ → ℕ) → (a b c : ℕ) → (ℕ → ℕ)
three w f a b c = put (put (put f w.first a) w.second b) w.third c

pub three_kept : (w : Work) (o : Operands) (f : ℕ → ℕ) (a b c : ℕ) → IsApart w o → AreKept w o.to f (three w f a b c)
three_kept w o f a b c apart =
    kept_scratch w o.to w.third f (put (put f w.first a) w.second b) c (omega arith)
    (kept_scratch w o.to w.second f (put f w.first a) b (omega arith) (kept_scratch w o.to w.first f f a (omega arith) (kept_none w o.to f)))

pub three_first : (w : Work) (o : Operands) (f : ℕ → ℕ) (a b c : ℕ) → IsApart w o → three w f a b c w.first.0 ≡ a
three_first w o f a b c apart =
    put_lower (put (put f w.first a) w.second b) w.third c w.first.0 (omega arith) ∙ put_lower (put f w.first a) w.second b w.first.0 apart.second ∙ put_same f w.first a

pub three_second : (w : Work) (o : Operands) (f : ℕ → ℕ) (a b c : ℕ) → IsApart w o → three w f a b c w.second.0 ≡ b
three_second w o f a b c apart = put_lower (put (put f w.first a) w.second b) w.third c w.second.0 apart.third ∙ put_same (put f w.first a) w.second b

-- the first of three is the result where the other two do not differ
pub overflow_tested : (w : Work) (o : Operands) (f : ℕ → ℕ) (a b c : ℕ) (n : ℤ) → IsApart w o → takes Bne b c ≡ not (fits_word n) → IsWordOf a (wrapped n) → Answers w o.to f (computed true n) (if takes Bne (three w f a b c w.second.0) (three w f a b c w.third.0) then Away w.overflow (three w f a b c) else outcome (move_code o.to w.first) (three w f a b c))
overflow_tested w o f a b c n apart test is =
    let g = three w f a b c in
    let kept = three_kept w o f a b c apart in
    let values : takes Bne (g w.second.0) (g w.third.0) ≡ takes Bne b c = ap₂ (takes Bne) (three_second w o f a b c apart) (put_same (put (put f w.first a) w.second b) w.third c) in
    tested w o.to f g (takes Bne (g w.second.0) (g w.third.0)) (not (fits_word n)) IntegerOverflow (gives (wrapped n)) (outcome (move_code o.to w.first) g) (values ∙ test) kept
    (λ fits. moved w o.to w.first f g (wrapped n) kept (subst (λ u. IsWordOf u (wrapped n)) (sym (three_first w o f a b c apart)) is))
