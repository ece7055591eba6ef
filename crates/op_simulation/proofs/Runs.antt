-- Runs of a machine: they compose, one that has ended stays, and two ends are one.
use Rattle.std.proofs.Common.{◌≡◌, ℕ, zero, suc, ◌+◌, ◌-◌, ◌≤◌, ◌⊎◌, inl, inr, [], ◌++◌, refl, ap, sym, ◌∙◌, append_assoc, append-nil, arith}
use Rattle.op_simulation.specs.System.{System, Halted, Always, run, trace, spent}

-- ---- m steps and then n

pub run_add : {Event : Type 0} (A : System Event) (m n : ℕ) (a : A.State) → run A (m + n) a ≡ run A n (run A m a)
unfolding run
run_add A zero n a =
    let e : zero + n ≡ n = omega arith in
    ap (λ k. run A k a) e
run_add A (suc m) n a =
    let e : suc m + n ≡ suc (m + n) = omega arith in
    ap (λ k. run A k a) e ∙ run_add A m n (A.step a)

pub trace_add : {Event : Type 0} (A : System Event) (m n : ℕ) (a : A.State) → trace A (m + n) a ≡ trace A m a ++ trace A n (run A m a)
unfolding run trace
trace_add A zero n a =
    let e : zero + n ≡ n = omega arith in
    ap (λ k. trace A k a) e
trace_add A (suc m) n a =
    let e : suc m + n ≡ suc (m + n) = omega arith in
    ap (λ k. trace A k a) e ∙ ap (λ xs. A.shows a ++ xs) (trace_add A m n (A.step a)) ∙ sym (append_assoc (A.shows a) (trace A m (A.step a)) (trace A n (run A m (A.step a))))

pub spent_add : {Event : Type 0} (A : System Event) (m n : ℕ) (a : A.State) → spent A (m + n) a ≡ spent A m a + spent A n (run A m a)
unfolding run spent
spent_add A zero n a =
    let e : zero + n ≡ n = omega arith in
    let f : 0 + spent A n a ≡ spent A n a = omega arith in
    ap (λ k. spent A k a) e ∙ sym f
spent_add A (suc m) n a =
    let e : suc m + n ≡ suc (m + n) = omega arith in
    let rest = spent_add A m n (A.step a) in
    let f : A.cost a + (spent A m (A.step a) + spent A n (run A m (A.step a))) ≡ A.cost a + spent A m (A.step a) + spent A n (run A m (A.step a)) = omega arith in
    ap (λ k. spent A k a) e ∙ ap (λ k. A.cost a + k) rest ∙ f

-- ---- n steps and then one

pub run_last : {Event : Type 0} (A : System Event) (n : ℕ) (a : A.State) → run A (suc n) a ≡ A.step (run A n a)
unfolding run
run_last A zero a = refl
run_last A (suc n) a = run_last A n (A.step a)

pub trace_last : {Event : Type 0} (A : System Event) (n : ℕ) (a : A.State) → trace A (suc n) a ≡ trace A n a ++ A.shows (run A n a)
unfolding run trace
trace_last A zero a = append-nil (A.shows a)
trace_last A (suc n) a =
    ap (λ xs. A.shows a ++ xs) (trace_last A n (A.step a)) ∙ sym (append_assoc (A.shows a) (trace A n (A.step a)) (A.shows (run A n (A.step a))))

pub spent_last : {Event : Type 0} (A : System Event) (n : ℕ) (a : A.State) → spent A (suc n) a ≡ spent A n a + A.cost (run A n a)
unfolding run spent
spent_last A zero a = omega arith
spent_last A (suc n) a =
    let rest = spent_last A n (A.step a) in
    let f : A.cost a + (spent A n (A.step a) + A.cost (run A n (A.step a))) ≡ A.cost a + spent A n (A.step a) + A.cost (run A n (A.step a)) = omega arith in
    ap (λ k. A.cost a + k) rest ∙ f

-- ---- a state that has ended

pub run_halted : {Event : Type 0} (A : System Event) (n : ℕ) (a : A.State) → Halted A a → run A n a ≡ a
unfolding run
run_halted A zero a h = refl
run_halted A (suc n) a h = ap (run A n) h.stays ∙ run_halted A n a h

pub trace_halted : {Event : Type 0} (A : System Event) (n : ℕ) (a : A.State) → Halted A a → trace A n a ≡ []
unfolding trace
trace_halted A zero a h = refl
trace_halted A (suc n) a h = ap (λ xs. xs ++ trace A n (A.step a)) h.silent ∙ ap (trace A n) h.stays ∙ trace_halted A n a h

-- from there on the run stays
pub run_past_end : {Event : Type 0} (A : System Event) (m n : ℕ) (a : A.State) → Halted A (run A m a) → m ≤ n → run A n a ≡ run A m a
run_past_end A m n a h le =
    let e : n ≡ m + (n - m) = omega arith in
    ap (λ k. run A k a) e ∙ run_add A m (n - m) a ∙ run_halted A (n - m) (run A m a) h

pub trace_past_end : {Event : Type 0} (A : System Event) (m n : ℕ) (a : A.State) → Halted A (run A m a) → m ≤ n → trace A n a ≡ trace A m a
trace_past_end A m n a h le =
    let e : n ≡ m + (n - m) = omega arith in
    ap (λ k. trace A k a) e ∙ trace_add A m (n - m) a ∙ ap (λ xs. trace A m a ++ xs) (trace_halted A (n - m) (run A m a) h) ∙ append-nil (trace A m a)

either_first : (m n : ℕ) → (m ≤ n) ⊎ (n ≤ m)
either_first zero n = inl (omega arith)
either_first (suc m) zero = inr (omega arith)
either_first (suc m) (suc n) = elim (either_first m n) [ inl le ↦ inl (omega arith) | inr le ↦ inr (omega arith) ]

-- a machine is a function, so it has one end and one trace to it
pub one_end : {Event : Type 0} (A : System Event) (m n : ℕ) (a : A.State) → Halted A (run A m a) → Halted A (run A n a) → run A m a ≡ run A n a
one_end A m n a h k =
    elim (either_first m n) [
      | inl le ↦ sym (run_past_end A m n a h le)
      | inr le ↦ run_past_end A n m a k le
    ]

pub one_trace : {Event : Type 0} (A : System Event) (m n : ℕ) (a : A.State) → Halted A (run A m a) → Halted A (run A n a) → trace A m a ≡ trace A n a
one_trace A m n a h k =
    elim (either_first m n) [
      | inl le ↦ sym (trace_past_end A m n a h le)
      | inr le ↦ trace_past_end A n m a k le
    ]

-- ---- facts that hold for ever

pub always_here : {Event : Type 0} (A : System Event) (holds : A.State → Type 0) (a : A.State) → Always A holds a → holds a
unfolding run
always_here A holds a always = always 0

pub always_next : {Event : Type 0} (A : System Event) (holds : A.State → Type 0) (a : A.State) → Always A holds a → Always A holds (A.step a)
unfolding run
always_next A holds a always n = always (suc n)
