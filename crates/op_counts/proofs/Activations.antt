-- How calls change the number of holders: an activation begins with no name but those that it is given, and takes with it what its variables
-- and temporaries still hold.
use Rattle.std.proofs.Common.{◌≡◌, ℕ, suc, ◌+◌, ◌<◌, ◌≤◌, List, [], ◌∷◌, length, map, refl, sym, ap, ap₂, ◌∙◌, subst, arith}
use Rattle.std.proofs.lemmas.Bool.{eq-eqb, ne_eqb}
use Rattle.std.proofs.lemmas.List.Sums.{sum_by-cons}
use Rattle.std.specs.List.{sum_by}
use Rattle.std.specs.Prelude.{false, ◌&&◌, nat_eq, nat_lt}
use Rattle.op_core.specs.declared.ids.TypeId.{TypeId}
use Rattle.op_core.specs.declared.ids.VariableId.{VariableId}
use Rattle.op_core.specs.declared.program.Core.{Core}
use Rattle.op_counts.proofs.HoldersCounted.{sum_one}
use Rattle.op_counts.proofs.HoldersListed.{sum_globals, sum_variables, sum_temporaries, sum_callers, sum_objects, activation_summed, temporaries_summed, callers_summed, listed_summed, right_fails, local_once}
use Rattle.op_counts.proofs.NamelessValues.{begins_nameless}
use Rattle.op_counts.proofs.Receiving.{received_placed, received_failing}
use Rattle.op_counts.proofs.ValueCounts.{if_true, if_false, sum_same, sum_none}
use Rattle.op_counts.proofs.Writes.{once_written}
use Rattle.op_counts.specs.Counting.{count_in, Leads, listed_activation, listed_object, listed, times, count_over, held, given_count}
use Rattle.op_meaning.specs.Calls.{given_one, given_all, cleared, no_temps, none_waiting, caller_of, begun, result_in, gone_back, gone_back_raising}
use Rattle.op_meaning.specs.Frames.{Program, StateOver, CallerOver, Rules, Handed, a_value, a_place}
use Rattle.op_meaning.specs.Items.{Receiver, to_temp, to_place}
use Rattle.op_meaning.specs.Paths.{Path, place_of}
use Rattle.op_meaning.specs.Shapes.{variables_of, type_of_local, zero_of}
use Rattle.op_meaning.specs.Values.{Holder, global, local, temporary, object, Place, reached, failing, all_of}
use Rattle.op_meaning.specs.World.{World, Object, gone, chars, buffer, elements, fields, Construction, Live, Destruction, Dead, Temporary, value_at, with_value}

-- ---- sums that agree below a depth

module _ (core : Core) (f g : Holder → ℕ) (high : ℕ) (locals : (e v : ℕ) → e < high → f (local e v) ≡ g (local e v)) (temporaries : (e : ℕ) (of : TypeId) (n : ℕ) → e < high → f (temporary e of n) ≡ g (temporary e of n)) where
  temporaries_agree : (d : ℕ) (made : List Temporary) → d < high → sum_temporaries f d made ≡ sum_temporaries g d made
  temporaries_agree d [] less = refl
  temporaries_agree d (t ∷ made) less =
      temporaries_summed f d t made ∙ ap₂ (λ a b. a + b) (temporaries_agree d made less) (temporaries d t.of t.n less) ∙ sym (temporaries_summed g d t made)

  callers_agree : {Work : Type 0} (cs : List (CallerOver Work)) → length cs ≤ high → sum_callers f core cs ≡ sum_callers g core cs
  callers_agree [] le = refl
  callers_agree (c ∷ cs) le =
      callers_summed f core c cs
      ∙ ap₂ (λ a b. a + b) (callers_agree cs (omega arith))
      (ap₂ (λ a b. a + b) (sum_same (variables_of core c.routine).count _ _ (λ v l. locals (length cs) v (omega arith))) (temporaries_agree (length cs) c.made (omega arith)))
      ∙ sym (callers_summed g core c cs)

globals_agree : (f g : Holder → ℕ) → ((v : ℕ) → f (global v) ≡ g (global v)) → (vs : List VariableId) → sum_by f (map (λ (v : VariableId). global v.0) vs) ≡ sum_by g (map (λ (v : VariableId). global v.0) vs)
globals_agree f g same [] = refl
globals_agree f g same (v ∷ vs) =
    sum_by-cons f (global v.0) (map (λ (u : VariableId). global u.0) vs)
    ∙ ap₂ (λ a b. a + b) (same v.0) (globals_agree f g same vs)
    ∙ sym (sum_by-cons g (global v.0) (map (λ (u : VariableId). global u.0) vs))

alone_agrees : (f g : Holder → ℕ) (n : ℕ) → f (object n) ≡ g (object n) → sum_by f (object n ∷ []) ≡ sum_by g (object n ∷ [])
alone_agrees f g n same = sum_one f (object n) ∙ same ∙ sym (sum_one g (object n))

object_agrees : (f g : Holder → ℕ) (n : ℕ) → f (object n) ≡ g (object n) → (o : Object) → sum_by f (listed_object n o) ≡ sum_by g (listed_object n o)
object_agrees f g n same gone = refl
object_agrees f g n same (chars bytes) = refl
object_agrees f g n same (buffer bytes capacity) = refl
object_agrees f g n same (elements of count) = alone_agrees f g n same
object_agrees f g n same (fields c Construction) = alone_agrees f g n same
object_agrees f g n same (fields c Live) = alone_agrees f g n same
object_agrees f g n same (fields c Destruction) = alone_agrees f g n same
object_agrees f g n same (fields c Dead) = refl

objects_agree : (f g : Holder → ℕ) → ((n : ℕ) → f (object n) ≡ g (object n)) → (next : ℕ) (objects : ℕ → Object) → sum_objects f next objects ≡ sum_objects g next objects
objects_agree f g same next objects = sum_same next _ _ (λ n less. object_agrees f g n (same n) (objects n))

-- ---- what is given

given_counted : (y d k : ℕ) (given : List Handed) (w : World) (hs : List Holder)
    → ((j : ℕ) → k ≤ j → j < k + length given → times (local d j) hs ≡ 1)
    → ((j : ℕ) → k ≤ j → j < k + length given → count_in y (w.memory (local d j)) ≡ 0)
    → count_over (given_all d k given w) y hs ≡ count_over w y hs + given_count y given
given_counted y d k [] w hs there empty = omega arith
given_counted y d k (a_place q ∷ given) w hs there empty =
    given_counted y d (suc k) given (given_one d k (a_place q) w) hs (λ j le less. there j (omega arith) (omega arith)) (λ j le less. empty j (omega arith) (omega arith))
given_counted y d k (a_value v ∷ given) w hs there empty =
    let w' = with_value (all_of (local d k)) v w in
    let old : count_in y (w.memory (local d k)) ≡ 0 = empty k (omega arith) (omega arith) in
    let first : count_over w' y hs + count_in y (w.memory (local d k)) ≡ count_over w y hs + count_in y v = once_written w y (all_of (local d k)) v hs (there k (omega arith) (omega arith)) tt in
    let rest : count_over (given_all d (suc k) given w') y hs ≡ count_over w' y hs + given_count y given = given_counted y d (suc k) given w' hs (λ j le less. there j (omega arith) (omega arith))
    (λ j le less. ap (count_in y) (if_false (nat_eq d d && nat_eq j k) v (w.memory (local d j)) (right_fails (nat_eq d d) (nat_eq j k) (ne_eqb j k (λ e. omega arith)))) ∙ empty j (omega arith) (omega arith)) in
    omega arith

next_stays : (d k : ℕ) (given : List Handed) (w : World) → (given_all d k given w).next ≡ w.next
next_stays d k [] w = refl
next_stays d k (a_value v ∷ given) w = next_stays d (suc k) given (given_one d k (a_value v) w)
next_stays d k (a_place q ∷ given) w = next_stays d (suc k) given (given_one d k (a_place q) w)

objects_stay : (d k : ℕ) (given : List Handed) (w : World) → (given_all d k given w).objects ≡ w.objects
objects_stay d k [] w = refl
objects_stay d k (a_value v ∷ given) w = objects_stay d (suc k) given (given_one d k (a_value v) w)
objects_stay d k (a_place q ∷ given) w = objects_stay d (suc k) given (given_one d k (a_place q) w)

made_stays : (d k : ℕ) (given : List Handed) (w : World) → (given_all d k given w).made ≡ w.made
made_stays d k [] w = refl
made_stays d k (a_value v ∷ given) w = made_stays d (suc k) given (given_one d k (a_value v) w)
made_stays d k (a_place q ∷ given) w = made_stays d (suc k) given (given_one d k (a_place q) w)

-- ---- an activation begins

-- An activation begins, where the stack has room for it: what it is given is added, and nothing else.
pub begun_counted : {Work Counts : Type 0} (rules : Rules Work Counts) (r : ℕ) (receiver : Receiver) (given : List Handed) (s : StateOver Work Counts) (y : ℕ)
    → nat_lt rules.program.stack (s.charged + rules.program.charge r) ≡ false → s.world.depth ≡ length s.callers → length given ≤ (variables_of rules.program.core r).count
    → held rules.program.core (begun rules r receiver given s) y ≡ held rules.program.core s y + given_count y given
begun_counted rules r receiver given s y room deep fits =
    let core = rules.program.core in
    let w = s.world in
    let d = suc w.depth in
    let w1 : World = record w { temps = no_temps; waiting = none_waiting; made = []; depth = d; memory = cleared core r d w.memory } in
    let c = caller_of s receiver in
    let t = record s { charged = s.charged + rules.program.charge r; world = given_all d 0 given w1; routine = r; work = rules.body r; frames = []; callers = c ∷ s.callers } in
    let hs = listed core t in
    let depth : d ≡ length t.callers = ap suc deep in
    let there : (j : ℕ) → j < (variables_of core r).count → times (local d j) hs ≡ 1 = λ j less. subst (λ e. times (local e j) hs ≡ 1) (sym depth) (local_once core t j less) in
    let zeros : (j : ℕ) → count_in y (w1.memory (local d j)) ≡ 0 = λ j. ap (count_in y) (if_true (nat_eq d d) (zero_of core (type_of_local core r j)) (w.memory (local d j)) (eq-eqb d d refl)) ∙ begins_nameless core y (type_of_local core r j) in
    let handed : count_over t.world y hs ≡ count_over w1 y hs + given_count y given = given_counted y d 0 given w1 hs (λ j le less. there j (omega arith)) (λ j le less. zeros j) in
    let f = λ (h : Holder). count_in y (w.memory h) in
    let f1 = λ (h : Holder). count_in y (w1.memory h) in
    let up = listed_summed f1 core t in
    let down = listed_summed f core s in
    let globals : sum_globals f1 core ≡ sum_globals f core = globals_agree f1 f (λ v. refl) core.globals in
    let objects : sum_objects f1 t.world.next t.world.objects ≡ sum_objects f w.next w.objects = ap₂ (λ n o. sum_objects f1 n o) (next_stays d 0 given w1) (objects_stay d 0 given w1) ∙ objects_agree f1 f (λ n. refl) w.next w.objects in
    let locals : (e v : ℕ) → e < d → f1 (local e v) ≡ f (local e v) = λ e v less. ap (count_in y) (if_false (nat_eq e d) (zero_of core (type_of_local core r v)) (w.memory (local e v)) (ne_eqb e d (λ x. omega arith))) in
    let temporaries : (e : ℕ) (of : TypeId) (n : ℕ) → e < d → f1 (temporary e of n) ≡ f (temporary e of n) = λ e of n less. ap (count_in y) (if_false (nat_eq e d) (zero_of core of) (w.memory (temporary e of n)) (ne_eqb e d (λ x. omega arith))) in
    let callers : sum_callers f1 core (c ∷ s.callers) ≡ sum_callers f core (c ∷ s.callers) = callers_agree core f1 f d locals temporaries (c ∷ s.callers) (omega arith) in
    let more = callers_summed f core c s.callers in
    let variables : sum_variables f1 core (length t.callers) r ≡ 0 = subst (λ e. sum_variables f1 core e r ≡ 0) depth (sum_none (variables_of core r).count _ (λ v less. zeros v)) in
    let made : sum_temporaries f1 (length t.callers) t.world.made ≡ 0 = ap (λ m. sum_temporaries f1 (length t.callers) m) (made_stays d 0 given w1) in
    let sum : count_over w1 y hs ≡ held core s y = omega arith in
    ap (λ x. held core x y) (if_false (nat_lt rules.program.stack (s.charged + rules.program.charge r)) _ t room) ∙ handed ∙ ap (λ n. n + given_count y given) sum

-- ---- an activation is left

module _ {Work Counts : Type 0} (p : Program) (c : CallerOver Work) (cs : List (CallerOver Work)) (s : StateOver Work Counts) (y : ℕ) where
  -- An activation is left: what its variables and temporaries still hold is taken away. One that has ended them leaves its result.
  pub left_counted : s.callers ≡ c ∷ cs → held p.core s y ≡ held p.core (gone_back_raising p c cs s) y + count_over s.world y (listed_activation p.core (length s.callers) s.routine s.world.made)
  left_counted is =
      let f = λ (h : Holder). count_in y (s.world.memory h) in
      let d = length s.callers in
      let t = gone_back_raising p c cs s in
      let up = listed_summed f p.core s in
      let down : held p.core t y ≡ sum_globals f p.core + sum_callers f p.core cs + (sum_variables f p.core (length cs) c.routine + sum_temporaries f (length cs) c.made) + sum_objects f s.world.next s.world.objects = listed_summed f p.core t in
      let shorter : sum_callers f p.core s.callers ≡ sum_callers f p.core (c ∷ cs) = ap (λ x. sum_callers f p.core x) is in
      let more = callers_summed f p.core c cs in
      let own : sum_by f (listed_activation p.core d s.routine s.world.made) ≡ sum_variables f p.core d s.routine + sum_temporaries f d s.world.made = activation_summed f p.core d s.routine s.world.made in
      omega arith

  -- A result that goes to a temporary is a number: no holder comes with it.
  pub result_kept : (t : ℕ) → c.receiver ≡ to_temp t → held p.core (gone_back p c cs s) y ≡ held p.core (gone_back_raising p c cs s) y
  result_kept t is = ap (λ x. held p.core (gone_back p (record c { receiver = x }) cs s) y) is

  -- A result that goes to a place is counted there, in place of what stood there.
  pub result_placed : (of : TypeId) (path : Path) (q : Place) → c.receiver ≡ to_place of path → place_of (gone_back_raising p c cs s).world path ≡ reached q
      → times q.holder (listed p.core (gone_back_raising p c cs s)) ≡ 1 → Leads q.path (s.world.memory q.holder)
      → held p.core (gone_back p c cs s) y + count_in y (value_at s.world q) ≡ held p.core (gone_back_raising p c cs s) y + count_in y (result_in p s.routine s.world)
  result_placed of path q is found once leads =
      ap (λ x. held p.core (gone_back p (record c { receiver = x }) cs s) y + count_in y (value_at s.world q)) is
      ∙ received_placed p (gone_back_raising p c cs s) (result_in p s.routine s.world) y of path q found once leads

  -- Where an error is met on the way there, no holder comes.
  pub result_failing : (of : TypeId) (path : Path) (error : ℕ) → c.receiver ≡ to_place of path → place_of (gone_back_raising p c cs s).world path ≡ failing error
      → held p.core (gone_back p c cs s) y ≡ held p.core (gone_back_raising p c cs s) y
  result_failing of path error is met =
      ap (λ x. held p.core (gone_back p (record c { receiver = x }) cs s) y) is
      ∙ received_failing p (gone_back_raising p c cs s) (result_in p s.routine s.world) y of path error met
