-- What is said of parts that have a type, by what is said of their own parts.
use Rattle.std.proofs.Common.{◌≡◌, ℕ, Bool, true, false, Option, Some, None, refl, if◌then◌else◌}
use Rattle.std.specs.Option.{option_map}
use Rattle.op_base.specs.declared.place.Place.{Place}
use Rattle.op_check_expr.specs.Parts.{whether, by_feature}
use Rattle.op_core.specs.Faults.{Checked, Faults, after, none as no_faults}
use Rattle.op_judgement.proofs.Computed.{changed, followed, of_two}
use Rattle.op_judgement.specs.Judgement.{Judgement, both_typed, by, checked, fault, or_fault, unless}
use Rattle.op_judgement.specs.declared.rules.Feature.{Feature}
use Rattle.op_judgement.specs.declared.rules.LanguageRule.{LanguageRule}
use Rattle.op_accepted.specs.Fit.{IfAny, IfTyped, none, some, typed}

-- ---- values that may be there

pub any_of : {A : Type 0} {P : A → Type 0} (o : Option A) → ((a : A) → o ≡ Some a → P a) → IfAny P o
any_of None g = none
any_of (Some a) g = some a (g a refl)

pub present : {A : Type 0} (o : Option A) → IfAny (λ a. Unit {0}) o
present o = any_of o (λ a e. tt)

pub any_as : {A : Type 0} {P Q : A → Type 0} {o : Option A} → IfAny P o → ((a : A) → P a → Q a) → IfAny Q o
any_as none g = none
any_as (some a p) g = some a (g a p)

pub any_map : {A B : Type 0} {P : A → Type 0} {Q : B → Type 0} {o : Option A} (f : A → B) → IfAny P o → ((a : A) → P a → Q (f a)) → IfAny Q (option_map f o)
any_map f none g = none
any_map f (some a p) g = some (f a) (g a p)

-- ---- parts

pub any_typed : {A : Type 0} {P : A → Type 0} {c : Checked A} → IfTyped P c → IfAny P c.typed
any_typed (typed h) = h

pub fits_fine : {A : Type 0} {P : A → Type 0} {a : A} → P a → IfTyped P (record { typed = Some a; faults = no_faults })
fits_fine {a} p = typed (some a p)

-- what has no type
pub fits_silent : {A : Type 0} {P : A → Type 0} {faults : Faults} → IfTyped P (record { typed = None; faults = faults })
fits_silent = typed none

pub fits_standing : {A : Type 0} {P : A → Type 0} {o : Option A} → IfAny P o → IfTyped P (record { typed = o; faults = no_faults })
fits_standing h = typed h

-- by the table's entry, where a test holds, and where no feature is shown
pub fits_entry : {A B : Type 0} {P : B → Type 0} {f : A → Checked B} (rule : LanguageRule) (place : Place) (o : Option A) → ((a : A) → o ≡ Some a → IfTyped P (f a)) → IfTyped P (or_fault (fault rule place) f o)
fits_entry rule place None g = fits_silent
fits_entry rule place (Some a) g = g a refl

pub fits_test : {A : Type 0} {P : A → Type 0} {c : Checked A} (rule : LanguageRule) (place : Place) (b : Bool) → (b ≡ true → IfTyped P c) → IfTyped P (unless (fault rule place) c b)
fits_test rule place false g = fits_silent
fits_test rule place true g = g refl

pub fits_if : {A : Type 0} {P : A → Type 0} {c d : Checked A} (b : Bool) → (b ≡ true → IfTyped P c) → (b ≡ false → IfTyped P d) → IfTyped P (if b then c else d)
fits_if true g h = g refl
fits_if false g h = h refl

pub fits_whether : {A : Type 0} {P : A → Type 0} (j k : Judgement A) (b : Bool) → IfTyped P (checked j) → IfTyped P (checked k) → IfTyped P (checked (whether b j k))
fits_whether j k true g h = g
fits_whether j k false g h = h

pub fits_unshown : {A : Type 0} {P : A → Type 0} (j : Judgement A) (place : Place) (o : Option Feature) → (o ≡ None → IfTyped P (checked j)) → IfTyped P (checked (by_feature place o j))
fits_unshown j place None g = g refl
fits_unshown j place (Some feature) g = fits_silent

-- whatever it is
pub fits_any : {A : Type 0} (c : Checked A) → IfTyped (λ a. Unit {0}) c
fits_any c = typed (present c.typed)

-- a part, and what is made of it
pub fits_with : {A B : Type 0} {P : A → Type 0} {Q : B → Type 0} {f : A → Checked B} {o : Option A} → IfAny P o → ((a : A) → P a → IfTyped Q (f a)) → IfTyped Q (by f o)
fits_with none g = fits_silent
fits_with (some a p) g = g a p

pub fits_after : {A : Type 0} {P : A → Type 0} {faults : Faults} {c : Checked A} → IfTyped P c → IfTyped P (after faults c)
fits_after (typed h) = typed h

pub fits_followed : {A B : Type 0} {P : A → Type 0} {Q : B → Type 0} {c : Checked A} {f : Option A → Checked B} → IfTyped P c → ((o : Option A) → IfAny P o → IfTyped Q (f o)) → IfTyped Q (followed c f)
fits_followed {c} (typed h) g = fits_after (g c.typed h)

pub fits_behind : {A B : Type 0} {P : A → Type 0} {Q : B → Type 0} {c : Checked A} {f : A → Checked B} → IfTyped P c → ((a : A) → P a → IfTyped Q (f a)) → IfTyped Q (after c.faults (by f c.typed))
fits_behind h g = fits_followed h (λ o k. fits_with k g)

pub fits_changed : {A B : Type 0} {P : A → Type 0} {Q : B → Type 0} {c : Checked A} (f : A → B) → IfTyped P c → ((a : A) → P a → Q (f a)) → IfTyped Q (changed f c)
fits_changed f (typed h) g = typed (any_map f h g)

pub fits_as : {A : Type 0} {P Q : A → Type 0} {c : Checked A} → IfTyped P c → ((a : A) → P a → Q a) → IfTyped Q c
fits_as (typed h) g = typed (any_as h g)

-- of two parts
pub both_are : {A B C : Type 0} {P : A → Type 0} {Q : B → Type 0} {R : C → Type 0} {a : Option A} {b : Option B} (f : A → B → C) → IfAny P a → IfAny Q b → ((x : A) (y : B) → P x → Q y → R (f x y)) → IfAny R (both_typed f a b)
both_are f none k g = none
both_are f (some x h) none g = none
both_are f (some x h) (some y k) g = some (f x y) (g x y h k)

pub fits_two : {A B C : Type 0} {P : A → Type 0} {Q : B → Type 0} {R : C → Type 0} {a : Checked A} {b : Checked B} (f : A → B → C) → IfTyped P a → IfTyped Q b → ((x : A) (y : B) → P x → Q y → R (f x y)) → IfTyped R (of_two f a b)
fits_two f (typed h) (typed k) g = typed (both_are f h k g)
