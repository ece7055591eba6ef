-- Parts one behind the other: what is made of a part stands behind the part's faults.
use Rattle.std.proofs.Common.{◌≡◌, ℕ, suc, ◌<◌, ◌≤◌, ◌+◌, List, [], ◌∷◌, map, length, drop, drop-cons, add-one, get_or, Option, Result, Ok, Err, IfOk, refl, sym, ap, subst, ◌∙◌}
use Rattle.std.proofs.lemmas.List.{at_drop_all}
use Rattle.std.specs.Option.{option_map}
use Rattle.op_base.proofs.Tests.{map_ok}
use Rattle.op_core.specs.Faults.{kept}
use Rattle.op_core.specs.declared.first_refusal.FirstRefusal.{FirstRefusal}
use Rattle.op_judgement.specs.Judgement.{Judgement, Reports, both_typed, checked, followed, of_two, through, with_part}
use Rattle.op_check_expr.specs.Parts.{Behind, OfOk, standing}

pub reports_followed : {A B : Type 0} (c : Judgement B) (f : Option B → Judgement A) (old mid new : FirstRefusal) (b : Option B) (given : Option A) → Reports c old mid b → Reports (f b) mid new given → Reports (followed c f) old new given
reports_followed c f old mid new b given h k =
    let n : Reports (f (checked c).typed) mid new given = subst (λ b. Reports (f b) mid new given) h.0 k in
    (n.0, n.1 ∙ ap (λ q. kept q (checked (f (checked c).typed)).faults) h.1)

-- two parts, and what is made of both
pub reports_of_two : {A B C : Type 0} (f : A → B → C) (a : Judgement A) (b : Judgement B) (old mid new : FirstRefusal) (x : Option A) (y : Option B) (t : Option C) → Reports a old mid x → Reports b mid new y → t ≡ both_typed f x y → Reports (of_two f a b) old new t
reports_of_two f a b old mid new x y t h k e = (e ∙ (λ i. both_typed f (h.0 i) (k.0 i)), k.1 ∙ ap (λ s. kept s (checked b).faults) h.1)

-- what completes the rest completes the whole
pub record Completes {A : Type 0} (whole rest : Judgement A) (old mid : FirstRefusal) : Type 0 where
  pub completes : (new : FirstRefusal) (given : Option A) → Reports rest mid new given → Reports whole old new given

pub begins : {A : Type 0} (c : Judgement A) (s : FirstRefusal) → Completes c c s s
begins c s = record { completes = λ new given k. k }

-- one part read, and what is made of it
pub goes_on : {A B : Type 0} (whole : Judgement A) (c : Judgement B) (f : Option B → Judgement A) (first old mid : FirstRefusal) (b : Option B) → Completes whole (followed c f) first old → Reports c old mid b → Completes whole (f b) first mid
goes_on whole c f first old mid b w h = record { completes = λ new given k. w.completes new given (reports_followed c f old mid new b given h k) }

-- two parts, the second by the first
pub two_steps : {A B C : Type 0} (whole : Judgement A) (c : Judgement B) (f : Option B → Judgement C) (g : Option C → Judgement A) (first old mid far : FirstRefusal) (b : Option B) (x : Option C) → Completes whole (followed c (λ b. followed (f b) g)) first old → Reports c old mid b → Reports (f b) mid far x → Completes whole (g x) first far
two_steps whole c f g first old mid far b x w h k =
    goes_on whole (f b) g first mid far x (goes_on whole c (λ b. followed (f b) g) first old mid b w h) k

-- nothing is left
pub finished : {A X : Type 0} (whole : Judgement A) (F : List X → Judgement A) (xs : List X) (k : ℕ) (first s : FirstRefusal) (a : Option A) → length xs ≤ k → F [] ≡ standing a → Completes whole (F (drop k xs)) first s → Reports whole first s a
finished whole F xs k first s a h e w =
    w.completes s a (subst (λ c. Reports c s s a) (sym (ap F (at_drop_all (λ ys. ys) xs k h) ∙ e)) (refl, refl))

pub next_mapped : {A B : Type 0} (f : A → B) (list : List A) (k : ℕ) (x : A) → k < length list → x ≡ get_or list k x → map f (drop k list) ≡ f x ∷ map f (drop (k + 1) list)
next_mapped f list k x h e = rw add-one (ap (map f) (drop-cons list k x h) ∙ ap (λ y. f y ∷ map f (drop (suc k) list)) (sym e))

-- what a call that may lack memory answers, as a view sees it
abbrev pub Answers : {A B E : Type 0} → Result (Option B) E → (B → A) → Judgement A → FirstRefusal → FirstRefusal → Type 0
Answers r view c old new = IfOk r (λ v. Reports c old new (option_map view v))

pub answers_followed : {A B C E : Type 0} (r : Result (Option C) E) (view : C → A) (c : Judgement B) (f : Option B → Judgement A) (old mid new : FirstRefusal) (b : Option B) → Reports c old mid b → Answers r view (f b) mid new → Answers r view (followed c f) old new
answers_followed r view c f old mid new b h k =
    map_ok {P = λ v. Reports (f b) mid new (option_map view v)} {Q = λ v. Reports (followed c f) old new (option_map view v)} r (λ v q. reports_followed c f old mid new b (option_map view v) h q) k

-- what is made of a part, and of that
reports_through : {A B C : Type 0} (j : Judgement A) (g : A → Judgement B) (h : B → Judgement C) (old mid new : FirstRefusal) (d : Option A) (r : Option C) → Reports j old mid d → Reports (through (with_part g d) h) mid new r → Reports (through (through j g) h) old new r
reports_through j g h old mid new d r q k =
    let n : Reports (through (with_part g (checked j).typed) h) mid new r = subst (λ d. Reports (through (with_part g d) h) mid new r) q.0 k in
    (n.0, n.1 ∙ ap (λ s. kept s (checked (through (with_part g (checked j).typed) h)).faults) q.1)

pub answers_through : {A B C D E : Type 0} (r : Result (Option D) E) (view : D → C) (j : Judgement A) (g : A → Judgement B) (h : B → Judgement C) (old mid new : FirstRefusal) (d : Option A) → Reports j old mid d → Answers r view (through (with_part g d) h) mid new → Answers r view (through (through j g) h) old new
answers_through r view j g h old mid new d q k =
    map_ok {P = λ v. Reports (through (with_part g d) h) mid new (option_map view v)} {Q = λ v. Reports (through (through j g) h) old new (option_map view v)} r (λ v n. reports_through j g h old mid new d (option_map view v) q n) k

-- what is put in a place, as far as memory goes
abbrev pub Puts : {A V E : Type 0} → Result V E → Judgement A → FirstRefusal → FirstRefusal → Option A → Type 0
Puts r j old new a = IfOk r (λ _. Reports j old new a)

pub puts_followed : {A B V E : Type 0} (r : Result V E) (c : Judgement B) (f : Option B → Judgement A) (old mid new : FirstRefusal) (b : Option B) (a : Option A) → Reports c old mid b → Puts r (f b) mid new a → Puts r (followed c f) old new a
puts_followed r c f old mid new b a h k =
    map_ok {P = λ _. Reports (f b) mid new a} {Q = λ _. Reports (followed c f) old new a} r (λ v q. reports_followed c f old mid new b a h q) k

-- what stands behind an answer, with what that says
pub behind : {U V E P Q R : Type 0} (done : Result U E) (r : Result V E) → IfOk done (λ _. P) → IfOk r (λ _. Behind done Q) → (P → Q → R) → IfOk r (λ _. R)
behind (Ok u) (Ok v) h g k = k h g
behind (Err e) (Ok v) h g k = absurd g
behind done (Err e) h g k = g

-- the same where the second one has a value
pub behind_value : {U V E P : Type 0} {Q R : V → Type 0} (done : Result U E) (r : Result V E) → IfOk done (λ _. P) → IfOk r (λ v. Behind done (Q v)) → ((v : V) → P → Q v → R v) → IfOk r R
behind_value (Ok u) (Ok v) h g k = k v h g
behind_value (Err e) (Ok v) h g k = absurd g
behind_value done (Err e) h g k = g

-- what stands behind an answer with a value
pub of_ok : {A E R : Type 0} {P Q : A → Type 0} (answer : Result A E) → IfOk answer P → OfOk answer Q → ((a : A) → P a → Q a → R) → R
of_ok (Ok a) h g k = k a h g
of_ok (Err e) h g k = absurd g

-- the same of what is there
pub behind_both : {U E P Q R : Type 0} (done : Result U E) → IfOk done (λ _. P) → Behind done Q → (P → Q → R) → R
behind_both (Ok u) h g k = k h g
behind_both (Err e) h g k = absurd g

-- an element of a list taken off
pub next : {A : Type 0} {B : Type 1} (F : List A → B) (list : List A) (k : ℕ) (x : A) → k < length list → x ≡ get_or list k x → F (drop k list) ≡ F (x ∷ drop (k + 1) list)
next F list k x h e = rw add-one (ap F (drop-cons list k x h ∙ ap (λ y. y ∷ drop (suc k) list) (sym e)))
