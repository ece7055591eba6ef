-- Parts of declarations leave fit states where their parts do.
use Rattle.std.proofs.Common.{◌≡◌, Bool, true, false, List, [], ◌∷◌, Option, None, refl, if◌then◌else◌}
use Rattle.op_accepted.proofs.Grown.{later_itself, later_through}
use Rattle.op_accepted.specs.Fit.{IfAny, IfTyped, none, some, typed}
use Rattle.op_accepted.specs.State.{IsFitState, IsLater, Keeps, faulty, kept}
use Rattle.op_base.specs.declared.place.Place.{Place}
use Rattle.op_check_unit.specs.Steps.{Given, Here, breaks, by, checked, followed, gives, is_clear, silent, unless, unless_faulty, where_true}
use Rattle.op_base.specs.declared.rule.Refusal.{Refusal}
use Rattle.op_core.specs.Faults.{Checked, Faults, behind, both, front, here, one}
use Rattle.op_core.specs.declared.program.Core.{Core}
use Rattle.op_judgement.proofs.Clear.{some_fault}
use Rattle.op_judgement.specs.Steps as step
use Rattle.op_judgement.specs.Steps.{Step, done}
use Rattle.op_judgement.specs.declared.rules.LanguageRule.{LanguageRule}
use Rattle.op_tree.specs.Declaration.{Declaration, Declarations, declarations, no_declarations}

-- what denotes nothing
abbrev pub Nothing : Unit {0} → Core → Type 0
Nothing t core = Unit {0}

pub keeps_gives : {A : Type 0} {P : A → Core → Type 0} {old : Core} {a : A} {h : Here} → IsFitState h → IsLater old h.core → P a h.core → Keeps P old (gives a h)
keeps_gives {a} x l p = kept x l (some a p)

-- nothing in front
pub keeps_here : {A : Type 0} {P : A → Core → Type 0} {a : A} {h : Here} → IsFitState h → P a h.core → Keeps P h.core (gives a h)
keeps_here x p = keeps_gives x later_itself p

pub keeps_breaks : {A : Type 0} {P : A → Core → Type 0} {old : Core} {f : Refusal} {h : Here} → Keeps P old (record { typed = None; here = h; faults = one f })
keeps_breaks {f} = faulty f here

pub keeps_silent : {A : Type 0} {P : A → Core → Type 0} {h : Here} → IsFitState h → Keeps P h.core (silent h)
keeps_silent x = kept x later_itself none

-- a part without what it denotes
pub keeps_option : {A : Type 0} {P : A → Core → Type 0} {old : Core} {o : Option A} {h : Here} {faults : Faults} → IsFitState h → IsLater old h.core → IfAny (λ a. P a h.core) o → Keeps P old (record { typed = o; here = h; faults = faults })
keeps_option x l p = kept x l p

pub keeps_checked : {A : Type 0} {P : A → Core → Type 0} {h : Here} {c : Checked A} → IsFitState h → IfTyped (λ a. P a h.core) c → Keeps P h.core (checked h c)
keeps_checked x (typed p) = kept x later_itself p

pub keeps_from : {A : Type 0} {P : A → Core → Type 0} {old mid : Core} {g : Given A} → IsLater old mid → Keeps P mid g → Keeps P old g
keeps_from l (kept x m p) = kept x (later_through l m) p
keeps_from l (faulty r i) = faulty r i

pub keeps_after : {A : Type 0} {P : A → Core → Type 0} {old : Core} (faults : Faults) (g : Given A) → Keeps P old g → Keeps P old (record { typed = g.typed; here = g.here; faults = both faults g.faults })
keeps_after faults g (kept x l p) = kept x l p
keeps_after faults g (faulty r i) = faulty r (behind i)

-- a part, and what comes behind it
pub keeps_followed : {A B : Type 0} {P : A → Core → Type 0} {Q : B → Core → Type 0} {old : Core} {g : Given A} (f : Option A → Here → Step Here B) → Keeps P old g → ((o : Option A) (i : Here) → IsFitState i → IsLater old i.core → IfAny (λ a. P a i.core) o → Keeps Q i.core (done (f o i))) → Keeps Q old (followed g (λ o i. done (f o i)))
keeps_followed {g} f (kept x l p) k = keeps_after g.faults (done (f g.typed g.here)) (keeps_from l (k g.typed g.here x l p))
keeps_followed f (faulty r i) k = faulty r (front i)

pub keeps_by : {A B : Type 0} {P : A → Type 0} {Q : B → Core → Type 0} {o : Option A} (f : A → Here → Step Here B) (h : Here) → IsFitState h → IfAny P o → ((a : A) → P a → Keeps Q h.core (done (f a h))) → Keeps Q h.core (by (λ a h. done (f a h)) o h)
keeps_by f h x none k = keeps_silent x
keeps_by f h x (some a p) k = k a p

-- a part, and what is made of its meaning
pub keeps_behind : {A B : Type 0} {P : A → Core → Type 0} {Q : B → Core → Type 0} {old : Core} {g : Given A} (f : A → Here → Step Here B) → Keeps P old g → ((a : A) (i : Here) → IsFitState i → IsLater old i.core → P a i.core → Keeps Q i.core (done (f a i))) → Keeps Q old (followed g (by (λ a i. done (f a i))))
keeps_behind f d k = keeps_followed (step.by f) d (λ o i x l p. keeps_by f i x p (λ a q. k a i x l q))

-- a part, and what is made of the state behind it
pub keeps_then : {A B : Type 0} {P : A → Core → Type 0} {Q : B → Core → Type 0} {old : Core} {g : Given A} (f : Here → Step Here B) → Keeps P old g → ((i : Here) → IsFitState i → IsLater old i.core → Keeps Q i.core (done (f i))) → Keeps Q old (followed g (λ t h. done (f h)))
keeps_then f d k = keeps_followed (λ t h. f h) d (λ o i x l p. k i x l)

pub keeps_where : {A : Type 0} {P : A → Core → Type 0} {old : Core} (b : Bool) (rule : LanguageRule) (place : Place) (h : Here) {g : Given A} → (b ≡ true → Keeps P old g) → Keeps P old (where_true b rule place h g)
keeps_where true rule place h d = d refl
keeps_where false rule place h d = keeps_breaks

pub keeps_if : {A : Type 0} {P : A → Core → Type 0} {old : Core} (b : Bool) {g d : Given A} → (b ≡ true → Keeps P old g) → (b ≡ false → Keeps P old d) → Keeps P old (if b then g else d)
keeps_if true g d = g refl
keeps_if false g d = d refl

-- ---- lists

pub keeps_each : {A : Type 0} (f : A → Here → Step Here (Unit {0})) → ((a : A) (h : Here) → IsFitState h → Keeps Nothing h.core (done (f a h))) → (as_ : List A) (h : Here) → IsFitState h → Keeps Nothing h.core (done (step.each f as_ h))
keeps_each f k [] h x = keeps_here x tt
keeps_each f k (a ∷ as_) h x = keeps_then (step.each f as_) (k a h x) (λ i y l. keeps_each f k as_ i y)

pub keeps_declarations : (f : Declaration → Here → Step Here (Unit {0})) → ((d : Declaration) (h : Here) → IsFitState h → Keeps Nothing h.core (done (f d h))) → (ds : Declarations) (h : Here) → IsFitState h → Keeps Nothing h.core (done (step.each_declaration f ds h))
keeps_declarations f k no_declarations h x = keeps_here x tt
keeps_declarations f k (declarations d ds) h x = keeps_then (step.each_declaration f ds) (k d h x) (λ i y l. keeps_declarations f k ds i y)

pub keeps_gather : {A B : Type 0} (P : B → Core → Type 0) (f : A → B → Here → Step Here B) → ((a : A) (b : B) (h : Here) → IsFitState h → P b h.core → Keeps P h.core (done (f a b h))) → (as_ : List A) (b : B) (h : Here) → IsFitState h → P b h.core → Keeps P h.core (done (step.gather f as_ b h))
keeps_gather P f k [] b h x p = keeps_here x p
keeps_gather P f k (a ∷ as_) b h x p = keeps_behind (step.gather f as_) (k a b h x p) (λ c i y l q. keeps_gather P f k as_ c i y q)

-- ---- parts that break a rule

pub keeps_unless : {A B : Type 0} {P : A → Core → Type 0} {Q : B → Core → Type 0} {old : Core} (g : Given A) (f : Here → Given B) → Keeps P old g → ((i : Here) → IsFitState i → IsLater old i.core → Keeps Q i.core (f i)) → Keeps Q old (unless_faulty g f)
keeps_unless {A} {B} {P} {Q} {old} g f d k = by_clear (is_clear g.faults) refl
  where
    behind_it : Keeps P old g → Keeps Q old (followed g (λ t h. f h))
    behind_it (kept x l p) = keeps_after g.faults (f g.here) (keeps_from l (k g.here x l))
    behind_it (faulty r i) = faulty r (front i)

    by_clear : (b : Bool) → is_clear g.faults ≡ b → Keeps Q old (unless b g f)
    by_clear true e = behind_it d
    by_clear false e = let s = some_fault g.faults e in faulty s.0 s.1
