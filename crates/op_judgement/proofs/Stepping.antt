-- What is computed by a step is what is said by it.
use Rattle.std.proofs.Common.{◌≡◌, Bool, true, false, List, [], ◌∷◌, Option, Some, None, if◌then◌else◌}
use Rattle.op_base.specs.declared.place.Place.{Place}
use Rattle.op_base.specs.declared.rule.Refusal.{Refusal}
use Rattle.op_core.proofs.Agreeing.{agrees_fine, agrees_rule, agrees_untyped, holds_some, lists_both, lists_none, lists_one}
use Rattle.op_core.specs.Faults.{Checked, both}
use Rattle.op_core.specs.Relations.{Either, Holds, Lists, Only, Through, Where}
use Rattle.op_judgement.proofs.Clear.{holds_unless, lists_unless}
use Rattle.op_judgement.proofs.Judging.{agrees as judged_agrees, agrees_by, agrees_unless, agrees_whether}
use Rattle.op_judgement.specs.Given as made
use Rattle.op_judgement.specs.Given.{Given}
use Rattle.op_judgement.specs.Judgement.{When, fault}
use Rattle.op_judgement.specs.declared.rules.LanguageRule.{LanguageRule}
use Rattle.op_judgement.specs.Steps.{Breaks, EachBreaks, EachDeclarationBreaks, GatherBreaks, GatherMeans, Means, Step, behind, breaks, by, changes, done, each, each_declaration, followed, gather, gives, judged, next, onward, silent, unchanged, unless_faulty, when, where_true}
use Rattle.op_tree.specs.Declaration.{Declaration, Declarations, no_declarations, declarations}

-- what is computed, but for the state
abbrev pub told : {S A : Type 0} → Given S A → Checked A
told g = record { typed = g.typed; faults = g.faults }

-- exactly what is meant, and exactly the rules that are broken
abbrev pub AgreesFrom : {S A : Type 0} → Given S A → (A → Type 0) → (Refusal → Type 0) → Type 0
AgreesFrom g T B = Holds g.typed T × Lists g.faults B

-- a part, and what comes behind it
from_part : {S A B : Type 0} (g : Given S A) (f : Given S B) {P Q : Refusal → Type 0} {T : B → Type 0} → Lists g.faults P → AgreesFrom f T Q → Holds f.typed T × Lists (both g.faults f.faults) (Either P Q)
from_part g f {P} {Q} l a = (a.0, lists_both g.faults f.faults P Q l a.1)

from_where : {S A : Type 0} (b : Bool) (rule : LanguageRule) (place : Place) (h : S) (g : Given S A) {T : A → Type 0} {Q : Refusal → Type 0} → AgreesFrom g T Q → AgreesFrom (made.where_true b rule place h g) (Where (b ≡ true) T) (Either (Where (b ≡ false) (Only (fault rule place))) (Where (b ≡ true) Q))
from_where true rule place h g a = agrees_unless (fault rule place) (told g) true a
from_where false rule place h g a = agrees_unless (fault rule place) (told g) false a

from_when : {S A : Type 0} (b : Bool) (g k : Given S A) {T U : A → Type 0} {P Q : Refusal → Type 0} → AgreesFrom g T P → AgreesFrom k U Q → AgreesFrom (if b then g else k) (When b T U) (When b P Q)
from_when true g k a c = a
from_when false g k a c = c

from_by : {S A B : Type 0} (f : A → S → Given S B) (o : Option A) (h : S) {T : A → Type 0} {U : A → B → Type 0} {Q : A → Refusal → Type 0} → Holds o T → ((a : A) → AgreesFrom (f a h) (U a) (Q a)) → AgreesFrom (made.by f o h) (Through T U) (Through T Q)
from_by f None h t a = agrees_by (λ a. told (f a h)) None t a
from_by f (Some x) h t a = agrees_by (λ a. told (f a h)) (Some x) t a

from_each : {S A : Type 0} (f : A → S → Given S (Unit {0})) (B : A → S → Refusal → Type 0) → ((a : A) (h : S) → Lists (f a h).faults (B a h)) → (as_ : List A) (h : S) → AgreesFrom (made.each f as_ h) (Only tt) (EachBreaks B (λ a h. (f a h).here) as_ h)
from_each f B k [] h = (holds_some tt, lists_none)
from_each f B k (a ∷ as_) h = from_part (f a h) (made.each f as_ (f a h).here) (k a h) (from_each f B k as_ (f a h).here)

from_each_declaration : {S : Type 0} (f : Declaration → S → Given S (Unit {0})) (B : Declaration → S → Refusal → Type 0) → ((d : Declaration) (h : S) → Lists (f d h).faults (B d h)) → (ds : Declarations) (h : S) → AgreesFrom (made.each_declaration f ds h) (Only tt) (EachDeclarationBreaks B (λ d h. (f d h).here) ds h)
from_each_declaration f B k no_declarations h = (holds_some tt, lists_none)
from_each_declaration f B k (declarations d ds) h = from_part (f d h) (made.each_declaration f ds (f d h).here) (k d h) (from_each_declaration f B k ds (f d h).here)

from_gather : {S A B : Type 0} (f : A → B → S → Given S B) (T : A → B → S → B → Type 0) (Q : A → B → S → Refusal → Type 0) → ((a : A) (b : B) (h : S) → AgreesFrom (f a b h) (T a b h) (Q a b h)) → (as_ : List A) (b : B) (h : S) → AgreesFrom (made.gather f as_ b h) (GatherMeans T (λ a b h. (f a b h).here) as_ b h) (GatherBreaks T Q (λ a b h. (f a b h).here) as_ b h)
from_gather f T Q k [] b h = (holds_some b, lists_none)
from_gather f T Q k (a ∷ as_) b h =
    let g = f a b h in
    from_part g (made.by (made.gather f as_) g.typed g.here) (k a b h).1
    (from_by (made.gather f as_) g.typed g.here (k a b h).0 (λ c. from_gather f T Q k as_ c g.here))

pub agrees : {S A : Type 0} (g : Step S A) → AgreesFrom (done g) (Means g) (Breaks g)
agrees (gives a h) = agrees_fine a
agrees (silent h) = agrees_untyped
agrees (breaks rule place h) = agrees_rule (fault rule place)
agrees (unchanged rule place a h) = (holds_some a, lists_one (fault rule place))
agrees (where_true b rule place h g) = from_where b rule place h (done g) (agrees g)
agrees (when b g k) = from_when b (done g) (done k) (agrees g) (agrees k)
agrees (judged h j) = judged_agrees j
agrees (changes g f) = (holds_some tt, (agrees g).1)
agrees (next g f) = from_part (done g) (done (f (behind g))) (agrees g).1 (agrees (f (behind g)))
agrees (followed g f) =
    from_part (done g) (done (f (done g).typed (behind g))) (agrees g).1
    (agrees_whether (λ o. told (done (f o (behind g)))) (done g).typed (agrees g).0 (λ o. agrees (f o (behind g))))
agrees (onward g f) =
    from_part (done g) (made.by (λ a h. done (f a h)) (done g).typed (behind g)) (agrees g).1
    (from_by (λ a h. done (f a h)) (done g).typed (behind g) (agrees g).0 (λ a. agrees (f a (behind g))))
agrees (unless_faulty g f) =
    (holds_unless (done g) (λ h. done (f h)) (agrees g).1 (agrees (f (behind g))).0, lists_unless (done g) (λ h. done (f h)) (agrees g).1 (agrees (f (behind g))).1)
agrees (by f o h) = from_by (λ a h. done (f a h)) o h (λ a. (λ e. e, λ e. e)) (λ a. agrees (f a h))
agrees (each f as_ h) = from_each (λ a h. done (f a h)) (λ a h. Breaks (f a h)) (λ a h. (agrees (f a h)).1) as_ h
agrees (each_declaration f ds h) = from_each_declaration (λ d h. done (f d h)) (λ d h. Breaks (f d h)) (λ d h. (agrees (f d h)).1) ds h
agrees (gather f as_ b h) =
    from_gather (λ a b h. done (f a b h)) (λ a b h. Means (f a b h)) (λ a b h. Breaks (f a b h)) (λ a b h. agrees (f a b h)) as_ b h
