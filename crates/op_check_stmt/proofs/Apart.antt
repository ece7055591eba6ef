-- Labels that are looked up by their first values, beside the labels in front.
use Rattle.std.proofs.Math.Seq.{take-suc}
use Rattle.std.proofs.Common.{◌≡◌, ℕ, suc, ◌+◌, ◌<◌, length, take, drop, drop-cons, add-one, get_or, rules, Bool, true, false, ◌&&◌, ◌||◌, List, [], ◌∷◌, ◌++◌, Option, Some, None, IsSome, if◌then◌else◌, refl, sym, ap, subst, ◌∙◌, arith}
use Rattle.std.proofs.lemmas.Bool.{false_from_ne_true, or_left, or_right}
use Rattle.std.specs.Prelude.{ℤ, ◌<ℤ◌, ◌≤ℤ◌, int_le}
use Rattle.std.specs.BTreeMap.{BTreeMap, get, is_at, Updates}
use Rattle.std.specs.List.{list_any}
use Rattle.std.specs.Ordering.{int_cmp, is_gt, is_lt}
use Rattle.std.proofs.lemmas.Int.{ints, by_lt_z}
use Rattle.std.proofs.lemmas.List.Folds.{list_any-append}
use Rattle.op_core.specs.declared.statement.Label.{Label}
use Rattle.op_check_stmt.specs.Labels.{overlap, repeated, repeated_after}
use Rattle.op_check_stmt.specs.Seen.{Apart, IsKept, Met, from_to}
use Rattle.op_check_stmt.specs.declared.case.Spot.{Spot}

pub overlaps : (a b : Label) → a.first ≤ℤ a.last → b.first ≤ℤ b.last → a.first ≤ℤ b.last → b.first ≤ℤ a.last → overlap a b ≡ true
overlaps a b h k l m = grind (arith, ints)

pub record Shared (a b : Label) : Type 0 where
  pub filled : a.first ≤ℤ a.last
  pub also_filled : b.first ≤ℤ b.last
  pub begins : a.first ≤ℤ b.last
  pub also_begins : b.first ≤ℤ a.last

pub shared : (a b : Label) → overlap a b ≡ true → Shared a b
shared a b h = record { filled = grind (arith, ints); also_filled = grind (arith, ints); begins = grind (arith, ints); also_begins = grind (arith, ints) }

-- a label that does not begin later and has no value of another one ends before it
pub before : (a b : Label) → overlap a b ≡ false → a.first ≤ℤ a.last → b.first ≤ℤ b.last → a.first <ℤ b.first → a.last <ℤ b.first
before a b h k l m = grind (arith, ints)

false_true : (b : Bool) → b ≡ false → b ≡ true → ⊥
false_true b h k = cc

pub at_most : (a b : ℤ) → is_gt (int_cmp a b) ≡ false → a ≤ℤ b
at_most a b h = by_lt_z b a (λ (lt : b <ℤ a). absurd (grind (arith, ints))) (λ (le : a ≤ℤ b). le)

pub not_below : (a b : ℤ) → is_lt (int_cmp a b) ≡ false → b ≤ℤ a
not_below a b h = by_lt_z a b (λ (lt : a <ℤ b). absurd (grind (arith, ints))) (λ (le : b ≤ℤ a). le)

pub other : (a b : ℤ) → a <ℤ b → is_at (int_cmp a) b ≡ false
other a b h = grind (arith, ints)

pub also_other : (a b : ℤ) → b <ℤ a → is_at (int_cmp a) b ≡ false
also_other a b h = grind (arith, ints)

one_value : (a b : Option ℤ) (v w : ℤ) → a ≡ b → a ≡ Some v → b ≡ Some w → v ≡ w
one_value a b v w e h k = cc

both_true : (a b : ℤ) (c d : ℤ) → a ≤ℤ b → c ≤ℤ d → (int_le a b && int_le c d) ≡ true
both_true a b c d h k = grind (arith, ints)

reached : (a v f l : ℤ) → a ≤ℤ v → v <ℤ f → f ≤ℤ l → a ≤ℤ l
reached a v f l h k m = omega (arith, ints)

equal : (q f : ℤ) → q ≤ℤ f → f ≤ℤ q → q ≡ f
equal q f h k = omega (arith, ints)

-- The last label that does not begin behind the end of another one: where that does not reach this one, none of them does.
pub none_met : (seen : BTreeMap ℤ ℤ) → Apart seen → (label : Label) (f l : ℤ) → get int_cmp seen f ≡ Some l → ((q : ℤ) (v : ℤ) → q ≤ℤ label.last → get int_cmp seen q ≡ Some v → q ≤ℤ f) → (int_le label.first l && int_le label.first label.last) ≡ false → (q v : ℤ) → get int_cmp seen q ≡ Some v → overlap (from_to q v) label ≡ false
none_met seen a label f l is greatest unmet q v h =
    false_from_ne_true (overlap (from_to q v) label)
    (λ t. let s = shared (from_to q v) label t in
    let le : q ≤ℤ f = greatest q v s.begins h in
    let filled : f ≤ℤ l = a.filled f l is in
    by_lt_z q f
    (λ (lt : q <ℤ f). let ends : v <ℤ f = a.apart q v f l h is lt in
    let reach : label.first ≤ℤ l = reached label.first v f l s.also_begins ends filled in
    false_true (int_le label.first l && int_le label.first label.last) unmet (both_true label.first l label.first label.last reach s.also_filled))
    (λ (ge : f ≤ℤ q). let e : q ≡ f = equal q f le ge in
    let w : v ≡ l = one_value (get int_cmp seen q) (get int_cmp seen f) v l (ap (get int_cmp seen) e) h is in
    false_true (int_le label.first l && int_le label.first label.last) unmet (both_true label.first l label.first label.last (subst (λ x. label.first ≤ℤ x) w s.also_begins) s.also_filled)))

-- ---- the map beside the labels in front

abbrev pub is_met : List Spot → Label → Bool
is_met front label = list_any (λ b. overlap b.label label) front

pub record Seen (seen : BTreeMap ℤ ℤ) (front : List Spot) : Type 0 where
  pub is_apart : Apart seen
  pub sound : (q v : ℤ) → get int_cmp seen q ≡ Some v → (x : Label) → overlap (from_to q v) x ≡ true → is_met front x ≡ true
  pub complete : (x : Label) → is_met front x ≡ true → Met seen x

or_false : (b : Bool) → (b || false) ≡ b
or_false true = refl
or_false false = refl

-- whether one more label meets another one
met_last : (front : List Spot) (s : Spot) (x : Label) → is_met (front ++ s ∷ []) x ≡ (is_met front x || overlap s.label x)
met_last front s x = list_any-append (λ b. overlap b.label x) front (s ∷ []) ∙ ap (λ b. is_met front x || b) (or_false (overlap s.label x))

pub either : {P : Type 0} (a b : Bool) → (a || b) ≡ true → (a ≡ true → P) → (b ≡ true → P) → P
either true b h f g = f refl
either false b h f g = g h

by_place : {P : Type 0} (a q : ℤ) → (a <ℤ q → P) → (q <ℤ a → P) → (q ≡ a → P) → P
by_place a q f g h = by_lt_z a q f (λ (le : q ≤ℤ a). by_lt_z q a g (λ (ge : a ≤ℤ q). h (equal q a le ge)))

swapped : (a b : Label) → overlap a b ≡ false → overlap b a ≡ false
swapped a b h = false_from_ne_true (overlap b a) (λ t. let s = shared b a t in false_true (overlap a b) h (overlaps a b s.also_filled s.filled s.also_begins s.begins))

-- what is there once one more is kept
module _ (seen new : BTreeMap ℤ ℤ) (a z : ℤ) (u : Updates int_cmp seen new a (Some z)) where
  pub entry : {P : Type 0} (q v : ℤ) → get int_cmp new q ≡ Some v → (q ≡ a → v ≡ z → P) → (get int_cmp seen q ≡ Some v → P) → P
  entry q v h f g =
      by_place a q (λ (lt : a <ℤ q). g (sym (u.2 q (other a q lt)) ∙ h)) (λ (lt : q <ℤ a). g (sym (u.2 q (also_other a q lt)) ∙ h))
      (λ (e : q ≡ a). f e (one_value (get int_cmp new q) (get int_cmp new a) v z (ap (get int_cmp new) e) h u.1))

never : (q r a : ℤ) → q <ℤ r → q ≡ a → r ≡ a → ⊥
never q r a h e f = omega (arith, ints)

same_place : (q v a z : ℤ) (l : Label) → q ≤ℤ v → a ≤ℤ z → l.first ≡ a → l.last ≡ z → q ≡ a → overlap (from_to q v) l ≡ false → ⊥
same_place q v a z l h k e f g unmet =
    let le : l.first ≤ℤ l.last = omega (arith, ints) in
    let begins : q ≤ℤ l.last = omega (arith, ints) in
    let also : l.first ≤ℤ v = omega (arith, ints) in
    false_true (overlap (from_to q v) l) unmet (overlaps (from_to q v) l h le begins also)

kept_met : (seen new : BTreeMap ℤ ℤ) (a z : ℤ) → Updates int_cmp seen new a (Some z) → (x : Label) → a ≤ℤ z → (l : Label) → l.first ≡ a → l.last ≡ z → ((q v : ℤ) → get int_cmp seen q ≡ Some v → overlap (from_to q v) l ≡ false) → Apart seen → Met seen x → Met new x
kept_met seen new a z u x filled l e f unmet old m =
    by_place a m.first
    (λ (lt : a <ℤ m.first). record { first = m.first; last = m.last; is_there = u.2 m.first (other a m.first lt) ∙ m.is_there; meets = m.meets })
    (λ (lt : m.first <ℤ a). record { first = m.first; last = m.last; is_there = u.2 m.first (also_other a m.first lt) ∙ m.is_there; meets = m.meets })
    (λ (g : m.first ≡ a). absurd (same_place m.first m.last a z l (old.filled m.first m.last m.is_there) filled e f g (unmet m.first m.last m.is_there)))

pub added : (seen new : BTreeMap ℤ ℤ) (front : List Spot) (s : Spot) → Seen seen front → s.label.first ≤ℤ s.label.last → ((q v : ℤ) → get int_cmp seen q ≡ Some v → overlap (from_to q v) s.label ≡ false) → Updates int_cmp seen new s.label.first (Some s.label.last) → Seen new (front ++ s ∷ [])
added seen new front s held filled unmet u =
    let a = s.label.first in
    let z = s.label.last in
    let old = held.is_apart in
    record {
      is_apart = record {
        filled = λ q v h. entry seen new a z u q v h (λ (e : q ≡ a) (f : v ≡ z). subst (λ q. q ≤ℤ v) (sym e) (subst (λ v. a ≤ℤ v) (sym f) filled)) (λ (k : get int_cmp seen q ≡ Some v). old.filled q v k);
        apart = λ q v r w h k lt.
            entry seen new a z u q v h
            (λ (e : q ≡ a) (f : v ≡ z). entry seen new a z u r w k
            (λ (g : r ≡ a) (i : w ≡ z). absurd (never q r a lt e g))
            (λ (there : get int_cmp seen r ≡ Some w). subst (λ v. v <ℤ r) (sym f) (before s.label (from_to r w) (swapped (from_to r w) s.label (unmet r w there)) filled (old.filled r w there) (subst (λ q. q <ℤ r) e lt))))
            (λ (there : get int_cmp seen q ≡ Some v). entry seen new a z u r w k
            (λ (g : r ≡ a) (i : w ≡ z). subst (λ r. v <ℤ r) (sym g) (before (from_to q v) s.label (unmet q v there) (old.filled q v there) filled (subst (λ r. q <ℤ r) g lt)))
            (λ (also : get int_cmp seen r ≡ Some w). old.apart q v r w there also lt));
      };
      sound = λ q v h x o. met_last front s x ∙
          entry seen new a z u q v h
          (λ (e : q ≡ a) (f : v ≡ z). or_right (is_met front x) (overlap s.label x) (subst (λ v. overlap (from_to a v) x ≡ true) f (subst (λ q. overlap (from_to q v) x ≡ true) e o)))
          (λ (k : get int_cmp seen q ≡ Some v). or_left (is_met front x) (overlap s.label x) (held.sound q v k x o));
      complete = λ x m. either (is_met front x) (overlap s.label x) (sym (met_last front s x) ∙ m)
          (λ (k : is_met front x ≡ true). kept_met seen new a z u x filled s.label refl refl unmet old (held.complete x k))
          (λ (o : overlap s.label x ≡ true). record { first = a; last = z; is_there = u.1; meets = o });
    }

not_filled : (a b : Label) → a.last <ℤ a.first → overlap a b ≡ true → ⊥
not_filled a b h o = let s = shared a b o in let le : a.first ≤ℤ a.last = s.filled in omega (arith, ints)

pub skipped : (seen : BTreeMap ℤ ℤ) (front : List Spot) (s : Spot) → Seen seen front → s.label.last <ℤ s.label.first → Seen seen (front ++ s ∷ [])
skipped seen front s held empty = record {
  is_apart = held.is_apart;
  sound = λ q v h x o. met_last front s x ∙ or_left (is_met front x) (overlap s.label x) (held.sound q v h x o);
  complete = λ x m. either (is_met front x) (overlap s.label x) (sym (met_last front s x) ∙ m) (λ (k : is_met front x ≡ true). held.complete x k) (λ (o : overlap s.label x ≡ true). absurd (not_filled s.label x empty o));
}

-- ---- the labels behind

pub found : (seen : BTreeMap ℤ ℤ) (front : List Spot) (s : Spot) (rest : List Spot) → Seen seen front → Met seen s.label → repeated_after front (s ∷ rest) ≡ Some s.place
found seen front s rest held m =
    ap (λ b. if b then Some s.place else repeated_after (front ++ s ∷ []) rest) (held.sound m.first m.last m.is_there s.label m.meets)

pub passed : (seen : BTreeMap ℤ ℤ) (front : List Spot) (s : Spot) (rest : List Spot) → Seen seen front → ((q v : ℤ) → get int_cmp seen q ≡ Some v → overlap (from_to q v) s.label ≡ false) → repeated_after front (s ∷ rest) ≡ repeated_after (front ++ s ∷ []) rest
passed seen front s rest held unmet =
    ap (λ b. if b then Some s.place else repeated_after (front ++ s ∷ []) rest)
    (false_from_ne_true (is_met front s.label) (λ (t : is_met front s.label ≡ true). let m = held.complete s.label t in false_true (overlap (from_to m.first m.last) s.label) (unmet m.first m.last m.is_there) m.meets))

pub kept_more : (seen new : BTreeMap ℤ ℤ) (front : List Spot) (s : Spot) → Seen seen front → ((q v : ℤ) → get int_cmp seen q ≡ Some v → overlap (from_to q v) s.label ≡ false) → IsKept seen s.label new → Seen new (front ++ s ∷ [])
kept_more seen new front s held unmet k =
    by_lt_z s.label.last s.label.first (λ (lt : s.label.last <ℤ s.label.first). subst (λ m. Seen m (front ++ s ∷ [])) (sym (k.skipped lt)) (skipped seen front s held lt))
    (λ (le : s.label.first ≤ℤ s.label.last). added seen new front s held le unmet (k.kept le))

pub hold_on : (new : BTreeMap ℤ ℤ) (labels : List Spot) (k : ℕ) (d : Spot) → k < length labels → Seen new (take k labels ++ get_or labels k d ∷ []) → Seen new (take (k + 1) labels)
hold_on new labels k d lt h = rw add-one (subst (Seen new) (sym (take-suc labels k d lt)) h)

pub go_on : (seen : BTreeMap ℤ ℤ) (labels : List Spot) (k : ℕ) (d : Spot) → k < length labels → Seen seen (take k labels) → ((q v : ℤ) → get int_cmp seen q ≡ Some v → overlap (from_to q v) (get_or labels k d).label ≡ false) → repeated_after (take k labels) (drop k labels) ≡ repeated labels → repeated_after (take (k + 1) labels) (drop (k + 1) labels) ≡ repeated labels
go_on seen labels k d lt held unmet e =
    rw add-one
    (ap (λ front. repeated_after front (drop (suc k) labels)) (take-suc labels k d lt)
    ∙ sym (passed seen (take k labels) (get_or labels k d) (drop (suc k) labels) held unmet)
    ∙ ap (repeated_after (take k labels)) (sym (drop-cons labels k d lt)) ∙ e)

-- ---- what a look-up answers

pub in_reach : (a b : ℤ) → a ≤ℤ b → is_gt (int_cmp a b) ≡ false
in_reach a b h = grind (arith, ints)

pub there : (o : Option ℤ) (v : ℤ) → o ≡ Some v → IsSome o
there None v h = absurd (cc)
there (Some x) v h = search rules

pub reached_one : (a b c d : ℤ) → (int_le a b && int_le c d) ≡ true → a ≤ℤ b
reached_one a b c d h = grind (arith, ints)

pub filled_one : (a b c d : ℤ) → (int_le a b && int_le c d) ≡ true → c ≤ℤ d
filled_one a b c d h = grind (arith, ints)

pub entry_met : (seen : BTreeMap ℤ ℤ) → Apart seen → (label : Label) (f l : ℤ) → get int_cmp seen f ≡ Some l → is_gt (int_cmp f label.last) ≡ false → (int_le label.first l && int_le label.first label.last) ≡ true → overlap (from_to f l) label ≡ true
entry_met seen a label f l is le t =
    overlaps (from_to f l) label (a.filled f l is) (filled_one label.first l label.first label.last t) (at_most f label.last le) (reached_one label.first l label.first label.last t)
