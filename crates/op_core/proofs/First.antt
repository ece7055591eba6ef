-- What is kept of faults is the first one.
use Rattle.std.proofs.Common.{◌≡◌, ℕ, nat_lt, Bool, true, false, Option, Some, None, refl, subst, arith, ◌⊎◌, inl, inr, cond}
use Rattle.op_base.specs.declared.rule.Refusal.{Refusal}
use Rattle.op_core.specs.Faults.{Faults, none, one, both, comes_before, earlier, kept, lower_or, IsIn, here, front, behind, FirstIs}

-- a fault is there, and this one does not come before it
abbrev NotBefore : Refusal → Option Refusal → Type 0
NotBefore q None = ⊥
NotBefore q (Some r) = comes_before q r ≡ false

not_below : (q f a : ℕ) → nat_lt q a ≡ false → nat_lt f a ≡ true → nat_lt q f ≡ false
not_below q f a h e = grind arith

not_lower : (q f a : ℕ) (s t u : Bool) → lower_or q a s ≡ false → lower_or f a t ≡ true → (s ≡ false → t ≡ true → u ≡ false) → lower_or q f u ≡ false
not_lower q f a s t u h e others = grind arith

not_before : (q f a : Refusal) → comes_before q a ≡ false → comes_before f a ≡ true → comes_before q f ≡ false
not_before q f a h e =
    not_lower q.place.line f.place.line a.place.line _ _ _ h e (λ h e.
    not_lower q.place.col f.place.col a.place.col _ _ _ h e (not_below q.rule.number f.rule.number a.rule.number))

not_before_itself : (f : Refusal) → comes_before f f ≡ false
not_before_itself f = grind arith

-- of a fault that is there and one more
chosen : (q f a : Refusal) (b : Bool) → comes_before f a ≡ b → comes_before q a ≡ false → NotBefore q (Some (cond b f a))
chosen q f a true e h = not_before q f a h e
chosen q f a false e h = h

chosen_last : (f a : Refusal) (b : Bool) → comes_before f a ≡ b → NotBefore f (Some (cond b f a))
chosen_last f a true e = not_before_itself f
chosen_last f a false e = e

stays : (q : Refusal) (old : Option Refusal) (faults : Faults) → NotBefore q old → NotBefore q (kept old faults)
stays q old none h = h
stays q None (one f) h = absurd h
stays q (Some a) (one f) h = chosen q f a (comes_before f a) refl h
stays q old (both first others) h = stays q (kept old first) others (stays q old first h)

last : (f : Refusal) (old : Option Refusal) → NotBefore f (earlier old f)
last f None = not_before_itself f
last f (Some a) = chosen_last f a (comes_before f a) refl

-- none of the faults comes before what is kept of them
least : (q : Refusal) (old : Option Refusal) (faults : Faults) → IsIn q faults → NotBefore q (kept old faults)
least q old none h = elim h [ ]
least q old (one f) here = last q old
least q old (both first others) (front h) = stays q (kept old first) others (least q old first h)
least q old (both first others) (behind h) = least q (kept old first) others h

-- what is kept was there before, or is one of the faults
abbrev IsFrom : Option Refusal → Faults → Option Refusal → Type 0
IsFrom old faults None = old ≡ None
IsFrom old faults (Some r) = (old ≡ Some r) ⊎ IsIn r faults

chosen_from : (a f : Refusal) (b : Bool) → IsFrom (Some a) (one f) (Some (cond b f a))
chosen_from a f true = inr here
chosen_from a f false = inl refl

in_front : {old : Option Refusal} {first others : Faults} (r : Refusal) → IsFrom old first (Some r) → IsFrom old (both first others) (Some r)
in_front r (inl e) = inl e
in_front r (inr i) = inr (front i)

from_both : (old : Option Refusal) (first others : Faults) (middle new : Option Refusal) → IsFrom old first middle → IsFrom middle others new → IsFrom old (both first others) new
from_both old first others middle None h e = subst (IsFrom old first) e h
from_both old first others middle (Some r) h (inr i) = inr (behind i)
from_both old first others middle (Some r) h (inl e) = in_front r (subst (IsFrom old first) e h)

from : (old : Option Refusal) (faults : Faults) → IsFrom old faults (kept old faults)
from None none = refl
from (Some r) none = inl refl
from None (one f) = inr here
from (Some a) (one f) = chosen_from a f (comes_before f a)
from old (both first others) = from_both old first others (kept old first) (kept (kept old first) others) (from old first) (from (kept old first) others)

first_by : (faults : Faults) (new : Option Refusal) → IsFrom None faults new → ((q : Refusal) → IsIn q faults → NotBefore q new) → FirstIs faults new
first_by faults None h l = l
first_by faults (Some r) (inl e) l = absurd (cc)
first_by faults (Some r) (inr i) l = record { is_in = i; least = l }

pub first_is : (faults : Faults) → FirstIs faults (kept None faults)
first_is faults = first_by faults (kept None faults) (from None faults) (λ q. least q None faults)
