-- Which holders a state lists, and that it lists each of them once: its globals, the variables and temporaries of its activations, and its
-- objects.
use Rattle.std.proofs.Common.{◌≡◌, ℕ, suc, ◌+◌, ◌<◌, ◌≤◌, List, [], ◌∷◌, ◌++◌, length, map, refl, sym, ap, ap₂, ◌∙◌, arith, length-append}
use Rattle.std.proofs.lemmas.Bool.{eqb-true, ne_eqb, and_left, and_from, and_parts}
use Rattle.std.proofs.lemmas.List.Sums.{sum_by-append, sum_by-cons}
use Rattle.std.specs.List.{count_by, sum_by}
use Rattle.std.specs.Prelude.{Bool, true, false, ◌&&◌, cond, nat_eq}
use Rattle.op_base.proofs.Tests.{eqb-itself}
use Rattle.op_core.specs.Types.{is_same}
use Rattle.op_core.specs.declared.ids.TypeId.{TypeId}
use Rattle.op_core.specs.declared.ids.VariableId.{VariableId}
use Rattle.op_core.specs.declared.program.Core.{Core}
use Rattle.op_counts.proofs.HoldersCounted.{sum_each, sum_one}
use Rattle.op_counts.proofs.ValueCounts.{sum_same, sum_none, sum_changed}
use Rattle.op_counts.specs.Counting.{sum_below, listed_variables, listed_temporaries, listed_activation, listed_callers, listed_object, listed, IsListed, times}
use Rattle.op_meaning.specs.Frames.{StateOver, CallerOver}
use Rattle.op_meaning.specs.Holding.{each}
use Rattle.op_meaning.specs.Losing.{same_temporary}
use Rattle.op_meaning.specs.Shapes.{variables_of}
use Rattle.op_meaning.specs.Values.{Holder, global, local, temporary, object, same_holder}
use Rattle.op_meaning.specs.World.{Object, gone, chars, buffer, elements, fields, Construction, Live, Destruction, Dead, Temporary}

-- ---- a sum over all holders, part by part

abbrev pub sum_globals : (Holder → ℕ) → Core → ℕ
sum_globals f core = sum_by f (map (λ (v : VariableId). global v.0) core.globals)

abbrev pub sum_variables : (Holder → ℕ) → Core → ℕ → ℕ → ℕ
sum_variables f core d r = sum_below (variables_of core r).count (λ v. f (local d v))

abbrev pub sum_temporaries : (Holder → ℕ) → ℕ → List Temporary → ℕ
sum_temporaries f d made = sum_by f (listed_temporaries d made)

abbrev pub sum_callers : {Work : Type 0} → (Holder → ℕ) → Core → List (CallerOver Work) → ℕ
sum_callers f core cs = sum_by f (listed_callers core cs)

abbrev pub sum_objects : (Holder → ℕ) → ℕ → (ℕ → Object) → ℕ
sum_objects f next objects = sum_below next (λ n. sum_by f (listed_object n (objects n)))

variables_summed : (f : Holder → ℕ) (core : Core) (d r : ℕ) → sum_by f (listed_variables core d r) ≡ sum_variables f core d r
variables_summed f core d r = sum_each f (variables_of core r).count (λ v. local d v ∷ []) ∙ sum_same (variables_of core r).count _ _ (λ v less. sum_one f (local d v))

pub activation_summed : (f : Holder → ℕ) (core : Core) (d r : ℕ) (made : List Temporary) → sum_by f (listed_activation core d r made) ≡ sum_variables f core d r + sum_temporaries f d made
activation_summed f core d r made = sum_by-append f (listed_variables core d r) (listed_temporaries d made) ∙ ap (λ n. n + sum_temporaries f d made) (variables_summed f core d r)

pub temporaries_summed : (f : Holder → ℕ) (d : ℕ) (t : Temporary) (made : List Temporary) → sum_temporaries f d (t ∷ made) ≡ sum_temporaries f d made + f (temporary d t.of t.n)
temporaries_summed f d t made = sum_by-append f (listed_temporaries d made) (temporary d t.of t.n ∷ []) ∙ ap (λ n. sum_temporaries f d made + n) (sum_one f (temporary d t.of t.n))

pub callers_summed : {Work : Type 0} (f : Holder → ℕ) (core : Core) (c : CallerOver Work) (cs : List (CallerOver Work))
    → sum_callers f core (c ∷ cs) ≡ sum_callers f core cs + (sum_variables f core (length cs) c.routine + sum_temporaries f (length cs) c.made)
callers_summed f core c cs =
    sum_by-append f (listed_callers core cs) (listed_activation core (length cs) c.routine c.made)
    ∙ ap (λ n. sum_callers f core cs + n) (activation_summed f core (length cs) c.routine c.made)

pub listed_summed : {Work Counts : Type 0} (f : Holder → ℕ) (core : Core) (s : StateOver Work Counts)
    → sum_by f (listed core s) ≡ sum_globals f core + sum_callers f core s.callers + (sum_variables f core (length s.callers) s.routine + sum_temporaries f (length s.callers) s.world.made) + sum_objects f s.world.next s.world.objects
listed_summed f core s =
    let gs = map (λ (v : VariableId). global v.0) core.globals in
    let cs = listed_callers core s.callers in
    let a = listed_activation core (length s.callers) s.routine s.world.made in
    let os = each s.world.next (λ n. listed_object n (s.world.objects n)) in
    sum_by-append f (gs ++ cs ++ a) os
    ∙ ap₂ (λ m n. m + n)
    (sum_by-append f (gs ++ cs) a ∙ ap₂ (λ m n. m + n) (sum_by-append f gs cs) (activation_summed f core (length s.callers) s.routine s.world.made))
    (sum_each f s.world.next (λ n. listed_object n (s.world.objects n)))

-- ---- the same holder

same_type : (of to : TypeId) → is_same of to ≡ true → of ≡ to
same_type of to e = ap (λ n. record { 0 = n }) (eqb-true of.0 to.0 e)

pub same_is : (h k : Holder) → same_holder h k ≡ true → h ≡ k
same_is (global v) (global u) e = ap (λ n. global n) (eqb-true v u e)
same_is (local d v) (local f u) e = let (a, b) = and_parts (nat_eq d f) (nat_eq v u) e in ap₂ (λ x y. local x y) (eqb-true d f a) (eqb-true v u b)
same_is (temporary d of n) (temporary f to k) e =
    let (ab, c) = and_parts (nat_eq d f && is_same of to) (nat_eq n k) e in
    let (a, b) = and_parts (nat_eq d f) (is_same of to) ab in
    ap₂ (λ x y. temporary x y n) (eqb-true d f a) (same_type of to b) ∙ ap (λ m. temporary f to m) (eqb-true n k c)
same_is (object v) (object u) e = ap (λ n. object n) (eqb-true v u e)
same_is (global v) (local d u) e = absurd cc
same_is (global v) (temporary d of n) e = absurd cc
same_is (global v) (object u) e = absurd cc
same_is (local d v) (global u) e = absurd cc
same_is (local d v) (temporary f of n) e = absurd cc
same_is (local d v) (object u) e = absurd cc
same_is (temporary d of n) (global u) e = absurd cc
same_is (temporary d of n) (local f u) e = absurd cc
same_is (temporary d of n) (object u) e = absurd cc
same_is (object v) (global u) e = absurd cc
same_is (object v) (local d u) e = absurd cc
same_is (object v) (temporary d of n) e = absurd cc

pub same_self : (h : Holder) → same_holder h h ≡ true
same_self (global v) = eqb-itself v
same_self (local d v) = and_from (nat_eq d d) (nat_eq v v) (eqb-itself d) (eqb-itself v)
same_self (temporary d of n) = and_from (nat_eq d d && is_same of of) (nat_eq n n) (and_from (nat_eq d d) (is_same of of) (eqb-itself d) (eqb-itself of.0)) (eqb-itself n)
same_self (object n) = eqb-itself n

-- 1 where it is this holder
abbrev pub is_it : Holder → Holder → ℕ
is_it h g = cond (same_holder g h) 1 0

not_it : (b : Bool) → b ≡ false → ◌≡◌ {A = ℕ} (cond b 1 0) 0
not_it true e = absurd cc
not_it false e = refl

yes_it : (b : Bool) → b ≡ true → ◌≡◌ {A = ℕ} (cond b 1 0) 1
yes_it true e = refl
yes_it false e = absurd cc

is_itself : (h : Holder) → is_it h h ≡ 1
is_itself h = yes_it (same_holder h h) (same_self h)

sum_once : (n k : ℕ) (f : ℕ → ℕ) → k < n → f k ≡ 1 → ((j : ℕ) → nat_eq j k ≡ false → f j ≡ 0) → sum_below n f ≡ 1
sum_once n k f less here others =
    let zeros : sum_below n (λ (j : ℕ). 0) ≡ 0 = sum_none n (λ j. 0) (λ j l. refl) in
    let all : sum_below n f + 0 ≡ sum_below n (λ (j : ℕ). 0) + f k = sum_changed n k f (λ j. 0) less others in
    omega arith

pub right_fails : (a b : Bool) → b ≡ false → (a && b) ≡ false
right_fails true b e = e
right_fails false b e = refl

-- ---- parts of a state that do not list a holder

no_global : (h : Holder) → ((v : ℕ) → is_it h (global v) ≡ 0) → (vs : List VariableId) → sum_by (is_it h) (map (λ (v : VariableId). global v.0) vs) ≡ 0
no_global h other [] = refl
no_global h other (v ∷ vs) = sum_by-cons (is_it h) (global v.0) (map (λ (u : VariableId). global u.0) vs) ∙ ap₂ (λ a b. a + b) (other v.0) (no_global h other vs)

no_temporary : (h : Holder) (d : ℕ) → ((of : TypeId) (n : ℕ) → is_it h (temporary d of n) ≡ 0) → (made : List Temporary) → sum_temporaries (is_it h) d made ≡ 0
no_temporary h d other [] = refl
no_temporary h d other (t ∷ made) = temporaries_summed (is_it h) d t made ∙ ap₂ (λ a b. a + b) (no_temporary h d other made) (other t.of t.n)

no_variable : (h : Holder) (core : Core) (d r : ℕ) → ((v : ℕ) → is_it h (local d v) ≡ 0) → sum_variables (is_it h) core d r ≡ 0
no_variable h core d r other = sum_none (variables_of core r).count _ (λ v less. other v)

-- of activations that are not as high as this
no_caller : {Work : Type 0} (h : Holder) (core : Core) (high : ℕ) → ((e v : ℕ) → e < high → is_it h (local e v) ≡ 0) → ((e : ℕ) (of : TypeId) (n : ℕ) → e < high → is_it h (temporary e of n) ≡ 0)
    → (cs : List (CallerOver Work)) → length cs ≤ high → sum_callers (is_it h) core cs ≡ 0
no_caller h core high locals temporaries [] le = refl
no_caller h core high locals temporaries (c ∷ cs) le =
    let rest : sum_callers (is_it h) core cs ≡ 0 = no_caller h core high locals temporaries cs (omega arith) in
    let variables : sum_variables (is_it h) core (length cs) c.routine ≡ 0 = no_variable h core (length cs) c.routine (λ v. locals (length cs) v (omega arith)) in
    let made : sum_temporaries (is_it h) (length cs) c.made ≡ 0 = no_temporary h (length cs) (λ of n. temporaries (length cs) of n (omega arith)) c.made in
    callers_summed (is_it h) core c cs ∙ ap₂ (λ a b. a + b) rest (ap₂ (λ a b. a + b) variables made)

no_object : (h : Holder) (n : ℕ) → is_it h (object n) ≡ 0 → (o : Object) → sum_by (is_it h) (listed_object n o) ≡ 0
no_object h n other gone = refl
no_object h n other (chars bytes) = refl
no_object h n other (buffer bytes capacity) = refl
no_object h n other (elements of count) = sum_one (is_it h) (object n) ∙ other
no_object h n other (fields c Construction) = sum_one (is_it h) (object n) ∙ other
no_object h n other (fields c Live) = sum_one (is_it h) (object n) ∙ other
no_object h n other (fields c Destruction) = sum_one (is_it h) (object n) ∙ other
no_object h n other (fields c Dead) = refl

no_objects : (h : Holder) (next : ℕ) → ((n : ℕ) → n < next → is_it h (object n) ≡ 0) → (objects : ℕ → Object) → sum_objects (is_it h) next objects ≡ 0
no_objects h next other objects = sum_none next _ (λ n less. no_object h n (other n less) (objects n))

-- ---- variables

other_depth : (d e u v : ℕ) → (e ≡ d → ⊥) → is_it (local d v) (local e u) ≡ 0
other_depth d e u v other = not_it (nat_eq e d && nat_eq u v) (and_left (nat_eq e d) (nat_eq u v) (ne_eqb e d other))

variable_once : (core : Core) (d r v : ℕ) → v < (variables_of core r).count → sum_variables (is_it (local d v)) core d r ≡ 1
variable_once core d r v less =
    sum_once (variables_of core r).count v (λ u. is_it (local d v) (local d u)) less (is_itself (local d v)) (λ u e. not_it (nat_eq d d && nat_eq u v) (right_fails (nat_eq d d) (nat_eq u v) e))

module _ {Work Counts : Type 0} (core : Core) (s : StateOver Work Counts) where
  -- a global variable that stands once in the table of globals
  pub global_once : (v : ℕ) → count_by (λ (g : VariableId). nat_eq g.0 v) core.globals ≡ 1 → times (global v) (listed core s) ≡ 1
  global_once v once =
      let h = global v in
      let globals : sum_globals (is_it h) core ≡ 1 = among core.globals ∙ once in
      let callers : sum_callers (is_it h) core s.callers ≡ 0 = no_caller h core (length s.callers) (λ e u l. refl) (λ e of n l. refl) s.callers (omega arith) in
      let variables : sum_variables (is_it h) core (length s.callers) s.routine ≡ 0 = no_variable h core (length s.callers) s.routine (λ u. refl) in
      let made : sum_temporaries (is_it h) (length s.callers) s.world.made ≡ 0 = no_temporary h (length s.callers) (λ of n. refl) s.world.made in
      let objects : sum_objects (is_it h) s.world.next s.world.objects ≡ 0 = no_objects h s.world.next (λ n l. refl) s.world.objects in
      let all = listed_summed (is_it h) core s in
      omega arith
    where
      among : (vs : List VariableId) → sum_by (is_it (global v)) (map (λ (g : VariableId). global g.0) vs) ≡ count_by (λ (g : VariableId). nat_eq g.0 v) vs
      among [] = refl
      among (g ∷ vs) =
          sum_by-cons (is_it (global v)) (global g.0) (map (λ (u : VariableId). global u.0) vs)
          ∙ ap (λ n. is_it (global v) (global g.0) + n) (among vs)
          ∙ sym (sum_by-cons (λ (u : VariableId). cond (nat_eq u.0 v) 1 0) g vs)

  -- a variable of the activation under way
  pub local_once : (v : ℕ) → v < (variables_of core s.routine).count → times (local (length s.callers) v) (listed core s) ≡ 1
  local_once v less =
      let d = length s.callers in
      let h = local d v in
      let globals : sum_globals (is_it h) core ≡ 0 = no_global h (λ u. refl) core.globals in
      let callers : sum_callers (is_it h) core s.callers ≡ 0 = no_caller h core d (λ e u l. other_depth d e u v (λ x. omega arith)) (λ e of n l. refl) s.callers (omega arith) in
      let variables : sum_variables (is_it h) core d s.routine ≡ 1 = variable_once core d s.routine v less in
      let made : sum_temporaries (is_it h) d s.world.made ≡ 0 = no_temporary h d (λ of n. refl) s.world.made in
      let objects : sum_objects (is_it h) s.world.next s.world.objects ≡ 0 = no_objects h s.world.next (λ n l. refl) s.world.objects in
      let all = listed_summed (is_it h) core s in
      omega arith

  -- a variable of an activation that waits
  pub caller_local_once : (above : List (CallerOver Work)) (c : CallerOver Work) (below : List (CallerOver Work)) (v : ℕ) → s.callers ≡ above ++ c ∷ below → v < (variables_of core c.routine).count
      → times (local (length below) v) (listed core s) ≡ 1
  caller_local_once above c below v is less =
      let d = length below in
      let h = local d v in
      let globals : sum_globals (is_it h) core ≡ 0 = no_global h (λ u. refl) core.globals in
      let callers : sum_callers (is_it h) core s.callers ≡ 1 = ap (sum_callers (is_it h) core) is ∙ among above in
      let long : length s.callers ≡ length (above ++ c ∷ below) = ap length is in
      let longer : length (above ++ c ∷ below) ≡ length above + suc d = length-append above (c ∷ below) in
      let variables : sum_variables (is_it h) core (length s.callers) s.routine ≡ 0 = no_variable h core (length s.callers) s.routine (λ u. other_depth d (length s.callers) u v (λ x. omega arith)) in
      let made : sum_temporaries (is_it h) (length s.callers) s.world.made ≡ 0 = no_temporary h (length s.callers) (λ of n. refl) s.world.made in
      let objects : sum_objects (is_it h) s.world.next s.world.objects ≡ 0 = no_objects h s.world.next (λ n l. refl) s.world.objects in
      let all = listed_summed (is_it h) core s in
      omega arith
    where
      among : (above' : List (CallerOver Work)) → sum_callers (is_it (local (length below) v)) core (above' ++ c ∷ below) ≡ 1
      among [] =
          let d = length below in
          let h = local d v in
          let rest : sum_callers (is_it h) core below ≡ 0 = no_caller h core d (λ e u l. other_depth d e u v (λ x. omega arith)) (λ e of n l. refl) below (omega arith) in
          callers_summed (is_it h) core c below ∙ ap₂ (λ a b. a + b) rest (ap₂ (λ a b. a + b) (variable_once core d c.routine v less) (no_temporary h d (λ of n. refl) c.made))
      among (a ∷ above') =
          let h = local (length below) v in
          let cs = above' ++ c ∷ below in
          let longer : length cs ≡ length above' + suc (length below) = length-append above' (c ∷ below) in
          let variables : sum_variables (is_it h) core (length cs) a.routine ≡ 0 = no_variable h core (length cs) a.routine (λ u. other_depth (length below) (length cs) u v (λ x. omega arith)) in
          callers_summed (is_it h) core a cs ∙ ap₂ (λ m n. m + n) (among above') (ap₂ (λ m n. m + n) variables (no_temporary h (length cs) (λ of n. refl) a.made))

  -- a temporary of the activation under way, as often as it was made
  pub temporary_times : (t : Temporary) → times (temporary (length s.callers) t.of t.n) (listed core s) ≡ count_by (λ u. same_temporary u t) s.world.made
  temporary_times t =
      let d = length s.callers in
      let h = temporary d t.of t.n in
      let globals : sum_globals (is_it h) core ≡ 0 = no_global h (λ u. refl) core.globals in
      let callers : sum_callers (is_it h) core s.callers ≡ 0 = no_caller h core d (λ e u l. refl) (λ e of n l. lower e of n (λ x. omega arith)) s.callers (omega arith) in
      let variables : sum_variables (is_it h) core d s.routine ≡ 0 = no_variable h core d s.routine (λ u. refl) in
      let made : sum_temporaries (is_it h) d s.world.made ≡ count_by (λ u. same_temporary u t) s.world.made = among s.world.made in
      let objects : sum_objects (is_it h) s.world.next s.world.objects ≡ 0 = no_objects h s.world.next (λ n l. refl) s.world.objects in
      let all = listed_summed (is_it h) core s in
      omega arith
    where
      lower : (e : ℕ) (of : TypeId) (n : ℕ) → (e ≡ length s.callers → ⊥) → is_it (temporary (length s.callers) t.of t.n) (temporary e of n) ≡ 0
      lower e of n other =
          let d = length s.callers in
          not_it ((nat_eq e d && is_same of t.of) && nat_eq n t.n) (and_left (nat_eq e d && is_same of t.of) (nat_eq n t.n) (and_left (nat_eq e d) (is_same of t.of) (ne_eqb e d other)))

      there : (a b c : Bool) → a ≡ true → ◌≡◌ {A = ℕ} (cond ((a && b) && c) 1 0) (cond (b && c) 1 0)
      there true b c e = refl
      there false b c e = absurd cc

      among : (made : List Temporary) → sum_temporaries (is_it (temporary (length s.callers) t.of t.n)) (length s.callers) made ≡ count_by (λ u. same_temporary u t) made
      among [] = refl
      among (u ∷ made) =
          let d = length s.callers in
          let h = temporary d t.of t.n in
          let first : sum_temporaries (is_it h) d (u ∷ made) ≡ sum_temporaries (is_it h) d made + is_it h (temporary d u.of u.n) = temporaries_summed (is_it h) d u made in
          let here : is_it h (temporary d u.of u.n) ≡ cond (same_temporary u t) 1 0 = there (nat_eq d d) (is_same u.of t.of) (nat_eq u.n t.n) (eqb-itself d) in
          let rest : sum_temporaries (is_it h) d made ≡ count_by (λ x. same_temporary x t) made = among made in
          let last : count_by (λ x. same_temporary x t) (u ∷ made) ≡ cond (same_temporary u t) 1 0 + count_by (λ x. same_temporary x t) made = sum_by-cons (λ x. cond (same_temporary x t) 1 0) u made in
          omega arith

  objects_alone : (n : ℕ) → times (object n) (listed core s) ≡ sum_objects (is_it (object n)) s.world.next s.world.objects
  objects_alone n =
      let d = length s.callers in
      let h = object n in
      let globals : sum_globals (is_it h) core ≡ 0 = no_global h (λ u. refl) core.globals in
      let callers : sum_callers (is_it h) core s.callers ≡ 0 = no_caller h core d (λ e u l. refl) (λ e of m l. refl) s.callers (omega arith) in
      let variables : sum_variables (is_it h) core d s.routine ≡ 0 = no_variable h core d s.routine (λ u. refl) in
      let made : sum_temporaries (is_it h) d s.world.made ≡ 0 = no_temporary h d (λ of m. refl) s.world.made in
      let all = listed_summed (is_it h) core s in
      omega arith

  -- an object, as often as it is listed under its name
  pub object_times : (n : ℕ) → n < s.world.next → times (object n) (listed core s) ≡ times (object n) (listed_object n (s.world.objects n))
  object_times n less =
      let f = λ (m : ℕ). sum_by (is_it (object n)) (listed_object m (s.world.objects m)) in
      let zeros : sum_below s.world.next (λ (j : ℕ). 0) ≡ 0 = sum_none s.world.next (λ j. 0) (λ j l. refl) in
      let all : sum_below s.world.next f + 0 ≡ sum_below s.world.next (λ (j : ℕ). 0) + f n = sum_changed s.world.next n f (λ j. 0) less (λ m e. no_object (object n) m (not_it (nat_eq m n) e) (s.world.objects m)) in
      let alone : times (object n) (listed core s) ≡ sum_below s.world.next f = objects_alone n in
      omega arith

  -- an array, or an instance that is not dead
  pub object_once : (n : ℕ) → n < s.world.next → IsListed s.world n → times (object n) (listed core s) ≡ 1
  object_once n less stands = object_times n less ∙ ap (times (object n)) stands ∙ sum_one (is_it (object n)) (object n) ∙ is_itself (object n)

  -- a name that was not given yet has no object
  pub object_never : times (object s.world.next) (listed core s) ≡ 0
  object_never = objects_alone s.world.next ∙ no_objects (object s.world.next) s.world.next (λ m l. not_it (nat_eq m s.world.next) (ne_eqb m s.world.next (λ e. omega arith))) s.world.objects
