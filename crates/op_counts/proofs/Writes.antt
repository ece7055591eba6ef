-- How a write changes the number of holders: at a place of each kind, at two places that are exchanged, at a temporary that is made or ends, and
-- at an object that is made, becomes another one, or is gone.
use Rattle.std.proofs.Common.{◌≡◌, ℕ, ◌+◌, ◌<◌, List, [], ◌∷◌, ◌++◌, length, refl, sym, ap, ap₂, ◌∙◌, subst, arith}
use Rattle.std.proofs.lemmas.Bool.{eqb-true, eq-eqb, ne_eqb}
use Rattle.std.proofs.lemmas.List.Sums.{sum_by-cons}
use Rattle.std.specs.List.{count_by, sum_by}
use Rattle.std.specs.Prelude.{Bool, true, false, cond, nat_eq, if◌then◌else◌}
use Rattle.op_core.specs.declared.ids.VariableId.{VariableId}
use Rattle.op_core.specs.declared.program.Core.{Core}
use Rattle.op_counts.proofs.HoldersCounted.{sum_one}
use Rattle.op_counts.proofs.HoldersListed.{sum_temporaries, sum_objects, temporaries_summed, listed_summed, same_is, same_self, is_it, global_once, local_once, caller_local_once, temporary_times, object_once, object_never}
use Rattle.op_counts.proofs.ValueCounts.{if_true, if_false, sum_same, sum_changed, put_counted, apart_stays, apart_leads}
use Rattle.op_counts.specs.Counting.{sum_below, count_in, Leads, AreApart, listed_object, listed, IsListed, times, count_over, held, IsCountedWrite}
use Rattle.op_meaning.specs.Frames.{StateOver, CallerOver, with_world}
use Rattle.op_meaning.specs.Losing.{same_temporary}
use Rattle.op_meaning.specs.Shapes.{variables_of}
use Rattle.op_meaning.specs.Values.{Value, Holder, global, local, temporary, object, Place, get, put, all_of, same_holder}
use Rattle.op_meaning.specs.World.{World, Object, gone, Temporary, making, with_object, value_at, with_value}

-- ---- sums over holders that differ at one of them

-- which is not listed
pub never_summed : (f g : Holder → ℕ) (h : Holder) (hs : List Holder) → ((k : Holder) → same_holder k h ≡ false → f k ≡ g k) → times h hs ≡ 0 → sum_by f hs ≡ sum_by g hs
never_summed f g h [] same e = refl
never_summed f g h (k ∷ hs) same e =
    let first : times h (k ∷ hs) ≡ is_it h k + times h hs = sum_by-cons (is_it h) k hs in
    sum_by-cons f k hs ∙ by (same_holder k h) refl (sym first ∙ e) (never_summed f g h hs same) ∙ sym (sum_by-cons g k hs)
  where
    by : (b : Bool) → same_holder k h ≡ b → cond b 1 0 + times h hs ≡ 0 → (times h hs ≡ 0 → sum_by f hs ≡ sum_by g hs) → f k + sum_by f hs ≡ g k + sum_by g hs
    by true t e' again = absurd (omega arith)
    by false t e' again = ap₂ (λ a b. a + b) (same k t) (again (omega arith))

-- or is listed once
pub once_summed : (f g : Holder → ℕ) (h : Holder) (hs : List Holder) → ((k : Holder) → same_holder k h ≡ false → f k ≡ g k) → times h hs ≡ 1 → sum_by f hs + g h ≡ sum_by g hs + f h
once_summed f g h [] same e = absurd (omega arith)
once_summed f g h (k ∷ hs) same e =
    let first : times h (k ∷ hs) ≡ is_it h k + times h hs = sum_by-cons (is_it h) k hs in
    let one : sum_by f (k ∷ hs) ≡ f k + sum_by f hs = sum_by-cons f k hs in
    let two : sum_by g (k ∷ hs) ≡ g k + sum_by g hs = sum_by-cons g k hs in
    let all : f k + sum_by f hs + g h ≡ g k + sum_by g hs + f h = by (same_holder k h) refl (sym first ∙ e) (once_summed f g h hs same) in
    omega arith
  where
    by : (b : Bool) → same_holder k h ≡ b → cond b 1 0 + times h hs ≡ 1 → (times h hs ≡ 1 → sum_by f hs + g h ≡ sum_by g hs + f h) → f k + sum_by f hs + g h ≡ g k + sum_by g hs + f h
    by true t e' again =
        let rest : sum_by f hs ≡ sum_by g hs = never_summed f g h hs same (omega arith) in
        let is : k ≡ h = same_is k h t in
        let one : f k ≡ f h = ap f is in
        let two : g k ≡ g h = ap g is in
        omega arith
    by false t e' again =
        let rest : sum_by f hs + g h ≡ sum_by g hs + f h = again (omega arith) in
        let one : f k ≡ g k = same k t in
        omega arith

-- ---- a write, over any list of holders

elsewhere : (w : World) (y : ℕ) (q : Place) (v : Value) (k : Holder) → same_holder k q.holder ≡ false → count_in y ((with_value q v w).memory k) ≡ count_in y (w.memory k)
elsewhere w y q v k e = ap (count_in y) (if_false (same_holder k q.holder) (put q.path v (w.memory k)) (w.memory k) e)

pub written_here : (w : World) (q : Place) (v : Value) → (with_value q v w).memory q.holder ≡ put q.path v (w.memory q.holder)
written_here w q v = if_true (same_holder q.holder q.holder) (put q.path v (w.memory q.holder)) (w.memory q.holder) (same_self q.holder)

-- at a holder that is not listed, nothing changes
pub never_written : (w : World) (y : ℕ) (q : Place) (v : Value) (hs : List Holder) → times q.holder hs ≡ 0 → count_over (with_value q v w) y hs ≡ count_over w y hs
never_written w y q v hs never = never_summed (λ h. count_in y ((with_value q v w).memory h)) (λ h. count_in y (w.memory h)) q.holder hs (elsewhere w y q v) never

-- At a holder that is listed once, and where the path leads to a part that is there, what is written is counted in place of what stood there.
pub once_written : (w : World) (y : ℕ) (q : Place) (v : Value) (hs : List Holder) → times q.holder hs ≡ 1 → Leads q.path (w.memory q.holder)
    → count_over (with_value q v w) y hs + count_in y (value_at w q) ≡ count_over w y hs + count_in y v
once_written w y q v hs once leads =
    let old = w.memory q.holder in
    let f = λ (h : Holder). count_in y ((with_value q v w).memory h) in
    let g = λ (h : Holder). count_in y (w.memory h) in
    let here : f q.holder ≡ count_in y (put q.path v old) = ap (count_in y) (written_here w q v) in
    let deep : count_in y (put q.path v old) + count_in y (get q.path old) ≡ count_in y old + count_in y v = put_counted y q.path v old leads in
    let all : sum_by f hs + g q.holder ≡ sum_by g hs + f q.holder = once_summed f g q.holder hs (elsewhere w y q v) once in
    omega arith

-- ---- a write at a place, by what holds it

module _ {Work Counts : Type 0} (core : Core) (s : StateOver Work Counts) (path : List ℕ) (new : Value) (y : ℕ) where
  -- A write at a global variable that stands once in the table of globals.
  pub global_written : (v : ℕ) → count_by (λ (g : VariableId). nat_eq g.0 v) core.globals ≡ 1 → Leads path (s.world.memory (global v)) → IsCountedWrite core s (record { holder = global v; path = path }) new y
  global_written v once leads = once_written s.world y (record { holder = global v; path = path }) new (listed core s) (global_once core s v once) leads

  -- A write at a variable of the activation under way.
  pub local_written : (v : ℕ) → v < (variables_of core s.routine).count → Leads path (s.world.memory (local (length s.callers) v)) → IsCountedWrite core s (record { holder = local (length s.callers) v; path = path }) new y
  local_written v less leads = once_written s.world y (record { holder = local (length s.callers) v; path = path }) new (listed core s) (local_once core s v less) leads

  -- A write at a variable of an activation that waits, as a variable parameter leads to.
  pub caller_local_written : (above : List (CallerOver Work)) (c : CallerOver Work) (below : List (CallerOver Work)) (v : ℕ) → s.callers ≡ above ++ c ∷ below → v < (variables_of core c.routine).count
      → Leads path (s.world.memory (local (length below) v)) → IsCountedWrite core s (record { holder = local (length below) v; path = path }) new y
  caller_local_written above c below v is less leads = once_written s.world y (record { holder = local (length below) v; path = path }) new (listed core s) (caller_local_once core s above c below v is less) leads

  -- A write at a temporary that was made once.
  pub temporary_written : (t : Temporary) → count_by (λ u. same_temporary u t) s.world.made ≡ 1 → Leads path (s.world.memory (temporary (length s.callers) t.of t.n))
      → IsCountedWrite core s (record { holder = temporary (length s.callers) t.of t.n; path = path }) new y
  temporary_written t once leads = once_written s.world y (record { holder = temporary (length s.callers) t.of t.n; path = path }) new (listed core s) (temporary_times core s t ∙ once) leads

  -- A write at an array, or at an instance that is not dead.
  pub object_written : (n : ℕ) → n < s.world.next → IsListed s.world n → Leads path (s.world.memory (object n)) → IsCountedWrite core s (record { holder = object n; path = path }) new y
  object_written n less stands leads = once_written s.world y (record { holder = object n; path = path }) new (listed core s) (object_once core s n less stands) leads

-- ---- two places

-- what a write at the one leaves of the other one
other_stays : (w : World) (a b : Place) (new : Value) → (same_holder a.holder b.holder ≡ true → AreApart a.path b.path) → value_at (with_value b new w) a ≡ value_at w a
other_stays w a b new apart = by (same_holder a.holder b.holder) refl
  where
    by : (c : Bool) → same_holder a.holder b.holder ≡ c → get a.path (if c then put b.path new (w.memory a.holder) else w.memory a.holder) ≡ get a.path (w.memory a.holder)
    by true e = apart_stays a.path b.path new (w.memory a.holder) (apart e)
    by false e = refl

other_leads : (w : World) (a b : Place) (new : Value) → (same_holder a.holder b.holder ≡ true → AreApart a.path b.path) → Leads a.path (w.memory a.holder) → Leads a.path ((with_value b new w).memory a.holder)
other_leads w a b new apart leads = by (same_holder a.holder b.holder) refl
  where
    by : (c : Bool) → same_holder a.holder b.holder ≡ c → Leads a.path (if c then put b.path new (w.memory a.holder) else w.memory a.holder)
    by true e = apart_leads a.path b.path new (w.memory a.holder) (apart e) leads
    by false e = leads

-- Two places exchange their values, of which neither is within the other one: all holders stay as many.
pub exchanged : {Work Counts : Type 0} (core : Core) (s : StateOver Work Counts) (a b : Place) (y : ℕ) → (same_holder a.holder b.holder ≡ true → AreApart a.path b.path)
    → times a.holder (listed core s) ≡ 1 → Leads a.path (s.world.memory a.holder) → times b.holder (listed core s) ≡ 1 → Leads b.path (s.world.memory b.holder)
    → held core (with_world (with_value a (value_at s.world b) (with_value b (value_at s.world a) s.world)) s) y ≡ held core s y
exchanged core s a b y apart once leads once' leads' =
    let w = s.world in
    let w' = with_value b (value_at w a) w in
    let hs = listed core s in
    let first : count_over w' y hs + count_in y (value_at w b) ≡ count_over w y hs + count_in y (value_at w a) = once_written w y b (value_at w a) hs once' leads' in
    let second : count_over (with_value a (value_at w b) w') y hs + count_in y (value_at w' a) ≡ count_over w' y hs + count_in y (value_at w b) =
    once_written w' y a (value_at w b) hs once (other_leads w a b (value_at w a) apart leads) in
    let same : count_in y (value_at w' a) ≡ count_in y (value_at w a) = ap (count_in y) (other_stays w a b (value_at w a) apart) in
    omega arith

-- ---- temporaries

module _ {Work Counts : Type 0} (core : Core) (s : StateOver Work Counts) (t : Temporary) (y : ℕ) where
  abbrev q : Place
  q = all_of (temporary (length s.callers) t.of t.n)

  -- A temporary is made with a value: what that holds is added.
  pub temporary_made : (new : Value) → count_by (λ u. same_temporary u t) s.world.made ≡ 0 → held core (with_world (record (with_value q new s.world) { made = t ∷ s.world.made }) s) y ≡ held core s y + count_in y new
  temporary_made new never =
      let w = s.world in
      let w' = with_value q new w in
      let f = λ (h : Holder). count_in y (w'.memory h) in
      let d = length s.callers in
      let up = listed_summed f core (with_world (record w' { made = t ∷ w.made }) s) in
      let down = listed_summed f core s in
      let more : sum_temporaries f d (t ∷ w.made) ≡ sum_temporaries f d w.made + f q.holder = temporaries_summed f d t w.made in
      let here : f q.holder ≡ count_in y new = ap (count_in y) (written_here w q new) in
      let kept : sum_by f (listed core s) ≡ held core s y = never_written w y q new (listed core s) (temporary_times core s t ∙ never) in
      omega arith

  -- The temporary that was made last is given up, as one is whose walk is done: what it holds is taken away.
  pub temporary_given_up : (made : List Temporary) → s.world.made ≡ t ∷ made → held core (with_world (record s.world { made = made }) s) y + count_in y (s.world.memory q.holder) ≡ held core s y
  temporary_given_up made is =
      let w = s.world in
      let g = λ (h : Holder). count_in y (w.memory h) in
      let d = length s.callers in
      let up = listed_summed g core (with_world (record w { made = made }) s) in
      let down = listed_summed g core s in
      let was : sum_temporaries g d w.made ≡ sum_temporaries g d (t ∷ made) = ap (sum_temporaries g d) is in
      let more : sum_temporaries g d (t ∷ made) ≡ sum_temporaries g d made + g q.holder = temporaries_summed g d t made in
      omega arith

  -- The temporary that was made last ends, whatever is left in it: what it held is taken away.
  pub temporary_ended : (made : List Temporary) (left : Value) → s.world.made ≡ t ∷ made → count_by (λ u. same_temporary u t) made ≡ 0
      → held core (with_world (record (with_value q left s.world) { made = made }) s) y + count_in y (s.world.memory q.holder) ≡ held core s y
  temporary_ended made left is never =
      let s' = with_world (record s.world { made = made }) s in
      ap (λ n. n + count_in y (s.world.memory q.holder)) (never_written s.world y q left (listed core s') (temporary_times core s' t ∙ never)) ∙ temporary_given_up made is

-- ---- objects

making_summed : (f : Holder → ℕ) (o : Object) (w : World) → sum_objects f (making o w).next (making o w).objects ≡ sum_objects f w.next w.objects + sum_by f (listed_object w.next o)
unfolding sum_below
making_summed f o w =
    ap₂ (λ a b. a + b)
    (sum_same w.next _ _ (λ n less. ap (λ x. sum_by f (listed_object n x)) (if_false (nat_eq n w.next) o (w.objects n) (ne_eqb n w.next (λ e. omega arith)))))
    (ap (λ x. sum_by f (listed_object w.next x)) (if_true (nat_eq w.next w.next) o (w.objects w.next) (eq-eqb w.next w.next refl)))

object_summed : (f : Holder → ℕ) (n : ℕ) (o : Object) (w : World) → n < w.next → sum_objects f w.next (with_object n o w).objects + sum_by f (listed_object n (w.objects n)) ≡ sum_objects f w.next w.objects + sum_by f (listed_object n o)
object_summed f n o w less =
    let g = λ (m : ℕ). sum_by f (listed_object m ((with_object n o w).objects m)) in
    let g' = λ (m : ℕ). sum_by f (listed_object m (w.objects m)) in
    let here : g n ≡ sum_by f (listed_object n o) = ap (λ x. sum_by f (listed_object n x)) (if_true (nat_eq n n) o (w.objects n) (eq-eqb n n refl)) in
    let all : sum_below w.next g + g' n ≡ sum_below w.next g' + g n = sum_changed w.next n g g' less (λ m e. ap (λ x. sum_by f (listed_object m x)) (if_false (nat_eq m n) o (w.objects m) e)) in
    omega arith

relisted : (n : ℕ) (o : Object) (objects : ℕ → Object) → listed_object n o ≡ listed_object n (objects n) → (m : ℕ) (b : Bool) → nat_eq m n ≡ b → listed_object m (if b then o else objects m) ≡ listed_object m (objects m)
relisted n o objects same m true e = subst (λ k. listed_object k o ≡ listed_object k (objects k)) (sym (eqb-true m n e)) same
relisted n o objects same m false e = refl

module _ {Work Counts : Type 0} (core : Core) (s : StateOver Work Counts) (y : ℕ) where
  -- The next name is given to an object: nothing is added for a string, and for parts what their holder has.
  pub object_made : (o : Object) → held core (with_world (making o s.world) s) y ≡ held core s y + count_over s.world y (listed_object s.world.next o)
  object_made o =
      let f = λ (h : Holder). count_in y (s.world.memory h) in
      let up = listed_summed f core (with_world (making o s.world) s) in
      let down = listed_summed f core s in
      let more : sum_objects f (making o s.world).next (making o s.world).objects ≡ sum_objects f s.world.next s.world.objects + sum_by f (listed_object s.world.next o) = making_summed f o s.world in
      omega arith

  -- The next name is that of an array or an instance with this value: what that holds is added.
  pub parts_made : (o : Object) (new : Value) → listed_object s.world.next o ≡ object s.world.next ∷ [] → held core (with_world (with_value (all_of (object s.world.next)) new (making o s.world)) s) y ≡ held core s y + count_in y new
  parts_made o new stands =
      let w = s.world in
      let q = all_of (object w.next) in
      let w' = with_value q new w in
      let f = λ (h : Holder). count_in y (w'.memory h) in
      let up = listed_summed f core (with_world (with_value q new (making o w)) s) in
      let down = listed_summed f core s in
      let more : sum_objects f (making o w).next (making o w).objects ≡ sum_objects f w.next w.objects + sum_by f (listed_object w.next o) = making_summed f o w in
      let alone : sum_by f (listed_object w.next o) ≡ f (object w.next) = ap (sum_by f) stands ∙ sum_one f (object w.next) in
      let here : f (object w.next) ≡ count_in y new = ap (count_in y) (written_here w q new) in
      let kept : sum_by f (listed core s) ≡ held core s y = never_written w y q new (listed core s) (object_never core s) in
      omega arith

  -- Another object stands under a name: what that one holds is counted in place of what the old one held.
  pub object_changed : (n : ℕ) (o : Object) → n < s.world.next
      → held core (with_world (with_object n o s.world) s) y + count_over s.world y (listed_object n (s.world.objects n)) ≡ held core s y + count_over s.world y (listed_object n o)
  object_changed n o less =
      let w = s.world in
      let f = λ (h : Holder). count_in y (w.memory h) in
      let up = listed_summed f core (with_world (with_object n o w) s) in
      let down = listed_summed f core s in
      let more : sum_objects f w.next (with_object n o w).objects + sum_by f (listed_object n (w.objects n)) ≡ sum_objects f w.next w.objects + sum_by f (listed_object n o) = object_summed f n o w less in
      omega arith

  -- Another object stands under a name, which is listed as the old one was, as an instance is in its next phase: all holders stay as many.
  pub object_relisted : (n : ℕ) (o : Object) → listed_object n o ≡ listed_object n (s.world.objects n) → held core (with_world (with_object n o s.world) s) y ≡ held core s y
  object_relisted n o same =
      let w = s.world in
      let f = λ (h : Holder). count_in y (w.memory h) in
      let up = listed_summed f core (with_world (with_object n o w) s) in
      let down = listed_summed f core s in
      let more : sum_objects f w.next (with_object n o w).objects ≡ sum_objects f w.next w.objects = sum_same w.next _ _ (λ m less. ap (sum_by f) (relisted n o w.objects same m (nat_eq m n) refl)) in
      omega arith

  -- An object is gone: what it held is taken away.
  pub object_gone : (n : ℕ) → n < s.world.next → held core (with_world (with_object n gone s.world) s) y + count_over s.world y (listed_object n (s.world.objects n)) ≡ held core s y
  object_gone n less =
      let all : held core (with_world (with_object n gone s.world) s) y + count_over s.world y (listed_object n (s.world.objects n)) ≡ held core s y + 0 = object_changed n gone less in
      omega arith
