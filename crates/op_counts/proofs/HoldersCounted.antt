-- The places that `holders` finds are as many as the sum over the holders of the state says.
use Rattle.std.proofs.Common.{◌≡◌, ℕ, zero, suc, ◌+◌, List, [], ◌∷◌, ◌++◌, length, map, refl, sym, ap, ap₂, ◌∙◌, arith, length-append}
use Rattle.std.proofs.lemmas.List.Concat.{flat_map-cons}
use Rattle.std.proofs.lemmas.List.Sums.{sum_by-append, sum_by-cons}
use Rattle.std.specs.List.{flat_map, sum_by}
use Rattle.op_core.specs.declared.ids.VariableId.{VariableId}
use Rattle.op_core.specs.declared.program.Core.{Core}
use Rattle.op_counts.proofs.ValueCounts.{sum_same, each_counted, places_counted}
use Rattle.op_counts.specs.Counting.{sum_below, count_in, listed_variables, listed_temporaries, listed_activation, listed_callers, listed_object, count_over, held}
use Rattle.op_meaning.specs.Frames.{StateOver, CallerOver}
use Rattle.op_meaning.specs.Holding.{each, in_holder, holders, holders_in_temporaries, holders_in_variables, holders_in_activation, holders_in_callers, holders_in_object}
use Rattle.op_meaning.specs.Shapes.{variables_of}
use Rattle.op_meaning.specs.Values.{Holder, global, local, temporary, object, all_of}
use Rattle.op_meaning.specs.World.{World, Object, gone, chars, buffer, elements, fields, Construction, Live, Destruction, Dead, Temporary}

-- ---- sums

pub sum_each : {A : Type 0} (f : A → ℕ) (n : ℕ) (g : ℕ → List A) → sum_by f (each n g) ≡ sum_below n (λ k. sum_by f (g k))
unfolding each sum_below
sum_each f zero g = refl
sum_each f (suc n) g = sum_by-append f (each n g) (g n) ∙ ap (λ m. m + sum_by f (g n)) (sum_each f n g)

pub sum_one : {A : Type 0} (f : A → ℕ) (x : A) → sum_by f (x ∷ []) ≡ f x
sum_one f x = omega arith

-- ---- the parts of a state

holder_counted : (w : World) (y : ℕ) (h : Holder) → length (in_holder w y h) ≡ count_in y (w.memory h)
holder_counted w y h = places_counted y (all_of h) (w.memory h)

module _ (core : Core) (w : World) (y : ℕ) where
  abbrev f : Holder → ℕ
  f h = count_in y (w.memory h)

  globals_counted : (vs : List VariableId) → length (flat_map (λ (v : VariableId). in_holder w y (global v.0)) vs) ≡ count_over w y (map (λ (v : VariableId). global v.0) vs)
  globals_counted [] = refl
  globals_counted (v ∷ vs) =
      ap length (flat_map-cons (λ (u : VariableId). in_holder w y (global u.0)) v vs)
      ∙ length-append (in_holder w y (global v.0)) (flat_map (λ (u : VariableId). in_holder w y (global u.0)) vs)
      ∙ ap₂ (λ a b. a + b) (holder_counted w y (global v.0)) (globals_counted vs)
      ∙ sym (sum_by-cons f (global v.0) (map (λ (u : VariableId). global u.0) vs))

  variables_counted : (d r : ℕ) → length (holders_in_variables core w y d r) ≡ count_over w y (listed_variables core d r)
  variables_counted d r =
      let n = (variables_of core r).count in
      each_counted n (λ v. in_holder w y (local d v))
      ∙ sum_same n _ _ (λ v less. holder_counted w y (local d v) ∙ sym (sum_one f (local d v)))
      ∙ sym (sum_each f n (λ v. local d v ∷ []))

  temporaries_counted : (d : ℕ) (made : List Temporary) → length (holders_in_temporaries w y d made) ≡ count_over w y (listed_temporaries d made)
  temporaries_counted d [] = refl
  temporaries_counted d (t ∷ made) =
      length-append (holders_in_temporaries w y d made) (in_holder w y (temporary d t.of t.n))
      ∙ ap₂ (λ a b. a + b) (temporaries_counted d made) (holder_counted w y (temporary d t.of t.n) ∙ sym (sum_one f (temporary d t.of t.n)))
      ∙ sym (sum_by-append f (listed_temporaries d made) (temporary d t.of t.n ∷ []))

  activation_counted : (d r : ℕ) (made : List Temporary) → length (holders_in_activation core w y d r made) ≡ count_over w y (listed_activation core d r made)
  activation_counted d r made =
      length-append (holders_in_variables core w y d r) (holders_in_temporaries w y d made)
      ∙ ap₂ (λ a b. a + b) (variables_counted d r) (temporaries_counted d made)
      ∙ sym (sum_by-append f (listed_variables core d r) (listed_temporaries d made))

  callers_counted : {Work : Type 0} (cs : List (CallerOver Work)) → length (holders_in_callers core w y cs) ≡ count_over w y (listed_callers core cs)
  callers_counted [] = refl
  callers_counted (c ∷ cs) =
      length-append (holders_in_callers core w y cs) (holders_in_activation core w y (length cs) c.routine c.made)
      ∙ ap₂ (λ a b. a + b) (callers_counted cs) (activation_counted (length cs) c.routine c.made)
      ∙ sym (sum_by-append f (listed_callers core cs) (listed_activation core (length cs) c.routine c.made))

  object_counted : (n : ℕ) (o : Object) → length (holders_in_object w y n o) ≡ count_over w y (listed_object n o)
  object_counted n gone = refl
  object_counted n (chars bytes) = refl
  object_counted n (buffer bytes capacity) = refl
  object_counted n (elements of count) = holder_counted w y (object n) ∙ sym (sum_one f (object n))
  object_counted n (fields c Construction) = holder_counted w y (object n) ∙ sym (sum_one f (object n))
  object_counted n (fields c Live) = holder_counted w y (object n) ∙ sym (sum_one f (object n))
  object_counted n (fields c Destruction) = holder_counted w y (object n) ∙ sym (sum_one f (object n))
  object_counted n (fields c Dead) = refl

  objects_counted : (next : ℕ) (objects : ℕ → Object) → length (each next (λ n. holders_in_object w y n (objects n))) ≡ count_over w y (each next (λ n. listed_object n (objects n)))
  objects_counted next objects =
      each_counted next (λ n. holders_in_object w y n (objects n))
      ∙ sum_same next _ _ (λ n less. object_counted n (objects n))
      ∙ sym (sum_each f next (λ n. listed_object n (objects n)))

-- ---- the whole state

-- The number of holders of a name is the sum of how often each holder's value contains it.
pub holders_counted : {Work Counts : Type 0} (core : Core) (s : StateOver Work Counts) (y : ℕ) → length (holders core s y) ≡ held core s y
holders_counted core s y =
    let w = s.world in
    let f = λ (h : Holder). count_in y (w.memory h) in
    let gs = flat_map (λ (v : VariableId). in_holder w y (global v.0)) core.globals in
    let cs = holders_in_callers core w y s.callers in
    let a = holders_in_activation core w y (length s.callers) s.routine w.made in
    let os = each w.next (λ n. holders_in_object w y n (w.objects n)) in
    let gs' = map (λ (v : VariableId). global v.0) core.globals in
    let cs' = listed_callers core s.callers in
    let a' = listed_activation core (length s.callers) s.routine w.made in
    let os' = each w.next (λ n. listed_object n (w.objects n)) in
    length-append (gs ++ cs ++ a) os
    ∙ ap₂ (λ m n. m + n)
    (length-append (gs ++ cs) a
    ∙ ap₂ (λ m n. m + n)
    (length-append gs cs ∙ ap₂ (λ m n. m + n) (globals_counted core w y core.globals) (callers_counted core w y s.callers) ∙ sym (sum_by-append f gs' cs'))
    (activation_counted core w y (length s.callers) s.routine w.made)
    ∙ sym (sum_by-append f (gs' ++ cs') a'))
    (objects_counted core w y w.next w.objects)
    ∙ sym (sum_by-append f (gs' ++ cs' ++ a') os')
