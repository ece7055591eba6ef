-- What is computed by a judgement is what is said by it.
use Rattle.std.proofs.Common.{◌≡◌, ◌↔◌, inl, inr, Bool, true, false, Option, Some, None, if◌then◌else◌, refl, sym, ap, subst, ◌∙◌}
use Rattle.std.proofs.lemmas.Bool.{false≢true}
use Rattle.std.proofs.lemmas.Option.{none-some}
use Rattle.op_base.specs.declared.rule.Refusal.{Refusal}
use Rattle.op_core.proofs.Agreeing.{agrees_after, agrees_changed, agrees_fine, agrees_rule, agrees_untyped, lists_both, lists_one, some_is}
use Rattle.op_core.specs.Faults.{Checked, IsIn, one}
use Rattle.op_judgement.specs.Judgement.{Judgement, Breaks, Means, When, Whether, both_typed, by, by_entry, by_test, changed, checked, fault, fine, followed, given, known, of_two, or_fault, refused, through, unless, untyped, when, with_part}
use Rattle.op_core.specs.Relations.{Agrees, Either, Entry, Holds, Only, Through, Where}

true_is : true ≡ false → ⊥
true_is e = absurd (cc)

holds_two : {A B C : Type 0} (f : A → B → C) (x : Option A) (y : Option B) {T : A → Type 0} {U : B → Type 0} → Holds x T → Holds y U → Holds (both_typed f x y) (Through T (λ a. Through U (λ b. Only (f a b))))
holds_two f None y h k c = (λ e. absurd (none-some _ e), λ s. absurd (none-some _ ((h s.0).1 s.1)))
holds_two f (Some a) None h k c = (λ e. absurd (none-some _ e), λ s. absurd (none-some _ ((k s.2.0).1 s.2.1)))
holds_two f (Some a) (Some b) h k c = (
  λ e. (a, (h a).0 refl, (b, (k b).0 refl, some_is e)),
  λ s. ap Some ((λ i. f (some_is ((h s.0).1 s.1) i) (some_is ((k s.2.0).1 s.2.1) i)) ∙ s.2.2),
)

-- what is read of a part that means T
pub agrees_by : {A B : Type 0} (f : A → Checked B) (o : Option A) {T : A → Type 0} {U : A → B → Type 0} {Q : A → Refusal → Type 0} → Holds o T → ((a : A) → Agrees (f a) (U a) (Q a)) → Agrees (by f o) (Through T U) (Through T Q)
agrees_by f None h g = (
  λ b. (λ e. absurd (none-some _ e), λ s. absurd (none-some _ ((h s.0).1 s.1))),
  λ r. (λ i. elim i [ ], λ s. absurd (none-some _ ((h s.0).1 s.1))),
)
agrees_by f (Some x) {T} {U} {Q} h g = let t = (h x).0 refl in (
  λ b. (λ e. (x, t, ((g x).0 b).0 e), λ s. ((g x).0 b).1 (subst (λ a. U a b) (sym (some_is ((h s.0).1 s.1))) s.2)),
  λ r. (λ i. (x, t, ((g x).1 r).0 i), λ s. ((g x).1 r).1 (subst (λ a. Q a r) (sym (some_is ((h s.0).1 s.1))) s.2)),
)

same_option : {A : Type 0} (o p : Option A) (T : A → Type 0) → Holds o T → Holds p T → o ≡ p
same_option None None T h k = refl
same_option None (Some b) T h k = absurd (none-some _ ((h b).1 ((k b).0 refl)))
same_option (Some a) p T h k = sym ((k a).1 ((h a).0 refl))

whether : {A B : Type 0} (P : B → Type 0) (o : Option A) {T : A → Type 0} (U : Option A → B → Type 0) (b : B) → Holds o T → (P b ↔ U o b) → P b ↔ Whether T U b
whether P o {T} U b h e = (λ p. (o, h, e.0 p), λ s. e.1 (subst (λ o. U o b) (same_option s.0 o T s.1 h) s.2))

pub agrees_whether : {A B : Type 0} (f : Option A → Checked B) (o : Option A) {T : A → Type 0} {U : Option A → B → Type 0} {Q : Option A → Refusal → Type 0} → Holds o T → ((o : Option A) → Agrees (f o) (U o) (Q o)) → Agrees (f o) (Whether T U) (Whether T Q)
agrees_whether f o {T} {U} {Q} h g = (
  λ b. whether (λ b. (f o).typed ≡ Some b) o U b h ((g o).0 b),
  λ r. whether (λ r. IsIn r (f o).faults) o Q r h ((g o).1 r),
)

no_entry : {A : Type 0} (fault r : Refusal) (o : Option A) (Q : A → Refusal → Type 0) → o ≡ None → Either (Where (o ≡ None) (Only fault)) (Through (Entry o) Q) r → IsIn r (one fault)
no_entry fault r o Q e (inl w) = (lists_one fault r).1 w.1
no_entry fault r o Q e (inr s) = absurd (none-some _ (sym e ∙ s.1))

an_entry : {A : Type 0} (fault r : Refusal) (x : A) (Q : A → Refusal → Type 0) → Either (Where (Some x ≡ None) (Only fault)) (Through (Entry (Some x)) Q) r → Q x r
an_entry fault r x Q (inl w) = absurd (none-some _ (sym w.0))
an_entry fault r x Q (inr s) = subst (λ a. Q a r) (sym (some_is s.1)) s.2

-- an entry of a table, or a fault where there is none
agrees_or_fault : {A B : Type 0} (fault : Refusal) (f : A → Checked B) (o : Option A) {U : A → B → Type 0} {Q : A → Refusal → Type 0} → ((a : A) → Agrees (f a) (U a) (Q a)) → Agrees (or_fault fault f o) (Through (Entry o) U) (Either (Where (o ≡ None) (Only fault)) (Through (Entry o) Q))
agrees_or_fault fault f None {Q} g = (
  λ b. (λ e. absurd (none-some _ e), λ s. absurd (none-some _ s.1)),
  λ r. (λ i. inl (refl, (lists_one fault r).0 i), no_entry fault r None Q refl),
)
agrees_or_fault fault f (Some x) {U} {Q} g = (
  λ b. (λ e. (x, refl, ((g x).0 b).0 e), λ s. ((g x).0 b).1 (subst (λ a. U a b) (sym (some_is s.1)) s.2)),
  λ r. (λ i. inr (x, refl, ((g x).1 r).0 i), λ e. ((g x).1 r).1 (an_entry fault r x Q e)),
)

passed : (fault r : Refusal) (Q : Refusal → Type 0) → Either (Where (true ≡ false) (Only fault)) (Where (true ≡ true) Q) r → Q r
passed fault r Q (inl w) = absurd (true_is w.0)
passed fault r Q (inr w) = w.1

failed : (fault r : Refusal) (Q : Refusal → Type 0) → Either (Where (false ≡ false) (Only fault)) (Where (false ≡ true) Q) r → IsIn r (one fault)
failed fault r Q (inl w) = (lists_one fault r).1 w.1
failed fault r Q (inr w) = absurd (false≢true w.0)

pub agrees_unless : {A : Type 0} (fault : Refusal) (c : Checked A) (b : Bool) {T : A → Type 0} {Q : Refusal → Type 0} → Agrees c T Q → Agrees (unless fault c b) (Where (b ≡ true) T) (Either (Where (b ≡ false) (Only fault)) (Where (b ≡ true) Q))
agrees_unless fault c true {Q} h = (
  λ a. (λ e. (refl, (h.0 a).0 e), λ t. (h.0 a).1 t.1),
  λ r. (λ i. inr (refl, (h.1 r).0 i), λ e. (h.1 r).1 (passed fault r Q e)),
)
agrees_unless fault c false {Q} h = (
  λ a. (λ e. absurd (none-some _ e), λ t. absurd (false≢true t.0)),
  λ r. (λ i. inl (refl, (lists_one fault r).0 i), failed fault r Q),
)

agrees_when : {A : Type 0} (b : Bool) (c d : Checked A) {T U : A → Type 0} {P Q : Refusal → Type 0} → Agrees c T P → Agrees d U Q → Agrees (if b then c else d) (When b T U) (When b P Q)
agrees_when true c d h i = h
agrees_when false c d h i = i

pub agrees : {A : Type 0} (j : Judgement A) → Agrees (checked j) (Means j) (Breaks j)
agrees (fine a) = agrees_fine a
agrees untyped = agrees_untyped
agrees (refused rule place) = agrees_rule (fault rule place)
agrees (changed f j) = agrees_changed (agrees j)
agrees (of_two f j k) = let h = agrees j in let i = agrees k in
    (holds_two f (checked j).typed (checked k).typed h.0 i.0, lists_both (checked j).faults (checked k).faults (Breaks j) (Breaks k) h.1 i.1)
agrees (through j g) = let h = agrees j in agrees_after h.1 (agrees_by (λ a. checked (g a)) (checked j).typed h.0 (λ a. agrees (g a)))
agrees (followed j g) = let h = agrees j in agrees_after h.1 (agrees_whether (λ o. checked (g o)) (checked j).typed h.0 (λ o. agrees (g o)))
agrees (given j g) = agrees_whether (λ o. checked (g o)) (checked j).typed (agrees j).0 (λ o. agrees (g o))
agrees (with_part g o) = agrees_by (λ a. checked (g a)) o (λ a. (λ e. e, λ e. e)) (λ a. agrees (g a))
agrees (by_entry rule place g o) = agrees_or_fault (fault rule place) (λ a. checked (g a)) o (λ a. agrees (g a))
agrees (by_test rule place j b) = agrees_unless (fault rule place) (checked j) b (agrees j)
agrees (when b j k) = agrees_when b (checked j) (checked k) (agrees j) (agrees k)
agrees (known c T B law told) = law
