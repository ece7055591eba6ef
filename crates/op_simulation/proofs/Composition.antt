-- Simulations compose, and may be restated.
use Rattle.std.proofs.Common.{◌≡◌, ℕ, suc, ◌+◌, ◌*◌, ◌<◌, ◌≤◌, List, [], ◌++◌, refl, ap₂, ◌∙◌, subst, le_trans, mul-le-mul_left, mul-le-mul_right, arith}
use Rattle.op_simulation.specs.System.{System, run, trace, spent}
use Rattle.op_simulation.specs.Matching.{Matching, Stretch, Follows, Joins, Agreement, Through, through, Weaker}
use Rattle.op_simulation.proofs.Points.{agreement, between_points, moments_between}

-- ---- traces

pub joins_equal : {Event : Type 0} → Joins {E = Event} {F = Event} (λ xs ys. xs ≡ ys)
joins_equal {Event} = record { none = refl; both = λ xs ys us vs first second. ap₂ (λ p q. p ++ q) first second }

pub joins_through : {E F G : Type 0} (R : List E → List F → Type 0) (Q : List F → List G → Type 0) → Joins R → Joins Q → Joins (Through R Q)
joins_through R Q upper lower =
    record {
      none = record { middle = []; upper = upper.none; lower = lower.none };
      both = λ xs ys us vs first second.
          record {
            middle = first.middle ++ second.middle;
            upper = upper.both _ _ _ _ first.upper second.upper;
            lower = lower.both _ _ _ _ first.lower second.lower;
          };
    }

pub equal_through : {Event : Type 0} (xs ys : List Event) → Through {S = List Event} {T = List Event} {U = List Event} (λ us vs. us ≡ vs) (λ us vs. us ≡ vs) xs ys → xs ≡ ys
equal_through xs ys t = t.upper ∙ t.lower

-- ---- three machines

scaled : (c d x y z : ℕ) → y ≤ c * x → z ≤ d * y → z ≤ d * c * x
scaled c d x y z upper lower =
    let e : d * (c * x) ≡ d * c * x = omega arith in
    subst (λ k. z ≤ k) e (le_trans lower (mul-le-mul_left d upper))

-- a stretch of A over B, and the agreement of B and C along it
stretched : {E F G : Type 0} {A : System E} {B : System F} {C : System G} (X : Matching A B) (Y : Matching B C) (a : A.State) (b : B.State) (c : C.State) → Stretch X a b → Agreement Y b c → Stretch (through X Y) a c
stretched {A = A} {B = B} {C = C} X Y a b c above below =
    let m = suc above.more in
    let more = below.point above.more + (below.stretch above.more).more in
    let is : below.point m ≡ suc more = below.next above.more in
    let upper = above.within in
    let lower : spent C (suc more) c ≤ Y.factor * spent B m b = subst (λ k. spent C k c ≤ Y.factor * spent B m b) is (below.within m) in
    record {
      more = more;
      states = record { middle = run B m b; upper = above.states; lower = subst (λ k. Y.states (run B m b) (run C k c)) is (below.states m) };
      traces = record { middle = trace B m b; upper = above.traces; lower = subst (λ k. Y.traces (trace B m b) (trace C k c)) is (below.traces m) };
      within = scaled X.factor Y.factor (A.cost a) (spent B m b) (spent C (suc more) c) upper lower;
      moments = λ j le.
          let under : j < below.point m = omega arith in
          let found = between_points Y b c below j m under in
          let fits : found.0 ≤ above.more = let h = found.1 in omega arith in
          record {
            middle = run B found.0 b;
            upper = above.moments found.0 fits;
            lower = moments_between Y b c below j found.0 found.2;
          };
    }

pub compose : {E F G : Type 0} {A : System E} {B : System F} {C : System G} (X : Matching A B) (Y : Matching B C) → Follows X → Follows Y → Joins Y.traces → Follows (through X Y)
compose X Y above below joins =
    record {
      go = λ a c related.
          stretched X Y a related.middle c (above.go a related.middle related.upper) (agreement Y below joins related.middle c related.lower);
    }

-- ---- the same two machines

-- the same stretch, with less said of it
pub weaken : {E F : Type 0} {A : System E} {B : System F} (X Y : Matching A B) → Weaker X Y → Follows X → Follows Y
weaken {A = A} {B = B} X Y weaker follows =
    record {
      go = λ a b related.
          let s = follows.go a b (weaker.from a b related) in
          record {
            more = s.more;
            states = weaker.to _ _ s.states;
            traces = weaker.traces _ _ s.traces;
            within = le_trans s.within (mul-le-mul_right (A.cost a) weaker.factor);
            moments = λ j le. weaker.moments _ _ (s.moments j le);
          };
    }
