-- Instructions of typed code are those that the agreement asks for: their operands are there, at the types that they are used at.
use Rattle.std.proofs.Common.{◌≡◌, ◌≤◌, ◌<◌, ℕ, zero, suc, List, [], ◌∷◌, length, Option, Some, None, refl, sym, ap, subst, arith}
use Rattle.std.specs.Prelude.{true, false, ◌&&◌, map, max, nat_lt, slice_get}
use Rattle.std.proofs.lemmas.Bool.{and_from, lt-ltb}
use Rattle.std.specs.List.{All, list_all}
use Rattle.std.proofs.lemmas.List.Elements.{All-head, All-tail}
use Rattle.std.proofs.lemmas.Option.{slice_get_within}
use Rattle.op_constants.specs.Arranged.{IsSmall}
use Rattle.op_constants.specs.Reaching.{Reaches}
use Rattle.op_core.specs.Sound.{IsSound}
use Rattle.op_core.specs.declared.ids.TypeId.{TypeId}
use Rattle.op_core.specs.declared.program.Core.{Core}
use Rattle.op_frames.proofs.PlacesFine.{most_each}
use Rattle.op_frames.specs.Made.{Every}
use Rattle.op_lower.specs.Temporaries.{in_action, in_computation, in_destination, in_operand, in_path, in_step, up_to}
use Rattle.op_meaning.specs.Actions.{Action as MeantAction, constant, load, store, copy, look, begin_with, pick, arithmetic, compare, negate, complement, invert, absolute, odd, upper, low_bits, check, neighbour, single, span, combine, contains, check_set, primitive}
use Rattle.op_core.specs.Sizes.{type_at}
use Rattle.op_meaning.specs.Shapes.{part_type, variables_of}
use Rattle.op_meaning.specs.Primitives.{EachOperand, IsTaken, Operand as MeantOperand, from_temp, gives, literal_text, text_at}
use Rattle.op_meaning.specs.declared.primitive.Sort.{Sort}
use Rattle.op_mir.specs.Valid.{action_fits, computation_fits, copy_fits, destination_fits, has, has_three, has_two, load_fits, operand_fits, path_fits, root_fits, step_fits}
use Rattle.op_mir.specs.View.{view_action, view_destination, view_operand, view_path, view_root, view_step}
use Rattle.op_mir.specs.declared.action.Action.{Action}
use Rattle.op_mir.specs.declared.action.Action.TheVariants.{Constant, Load, Store, Copy, Look, BeginWith, Pick, Compute, Do}
use Rattle.op_mir.specs.declared.action.Computation.{Computation}
use Rattle.op_mir.specs.declared.action.Computation.TheVariants.{Arithmetic, Compare, Negate, Complement, Invert, Absolute, Odd, Upper, LowBits, Check, Neighbour, Single, Span, Combine, Contains, CheckSet}
use Rattle.op_mir.specs.declared.action.Destination.{Destination}
use Rattle.op_mir.specs.declared.action.Destination.TheVariants.{Unused, InTemporary, InNew, IntoPlace, OverPlace}
use Rattle.op_mir.specs.declared.action.Operand.{Operand}
use Rattle.op_mir.specs.declared.action.Operand.TheVariants.{Number, Text, Literal}
use Rattle.op_mir.specs.declared.code.Mir.{Mir}
use Rattle.op_mir.specs.declared.code.Routine.{Routine}
use Rattle.op_mir.specs.declared.ids.TemporaryId.{TemporaryId}
use Rattle.op_mir.specs.declared.path.Path.{Path}
use Rattle.op_mir.specs.declared.path.Root.{Root}
use Rattle.op_mir.specs.declared.path.Root.TheVariants.{Global, Local, Through, Temporary}
use Rattle.op_mir.specs.declared.path.Step.{Step}
use Rattle.op_mir.specs.declared.path.Step.TheVariants.{Field, Element}
use Rattle.op_typing.proofs.Rows.{some_and}
use Rattle.op_typing.specs.Typed.{IsTypedAction as TypedAction, IsTypedOperand as TypedOperand, PathTo as TypedPath, RootIs as TypedRoot}
use Rattle.op_agreement.specs.Typed.{AreBytes, AreSmall, IsTypedAction, IsTypedOperand}
use Rattle.op_correctness.proofs.Places.{path_is, small_steps, variable_is}

-- ---- types

all_bytes : (text : List ℕ) → All (λ b. b < 256) text → AreBytes text
all_bytes [] all k = omega arith
all_bytes (b ∷ text) all zero = All-head (λ b. b < 256) b text all
all_bytes (b ∷ text) all (suc k) = all_bytes text (All-tail (λ b. b < 256) b text all) k

operands_are : (os : List MeantOperand) → EachOperand TypedOperand os → EachOperand IsTypedOperand os
operands_are [] each = tt
operands_are (from_temp t ∷ os) each = (tt, operands_are os each.1)
operands_are (text_at path ∷ os) each = absurd each.0
operands_are (literal_text text ∷ os) each = ((each.0.0, all_bytes text each.0.1), operands_are os each.1)

module _ (core : Core) (sound : IsSound core) (r : ℕ) where
  pub action_is : (a : MeantAction) → TypedAction core r a → IsTypedAction core r a
  action_is (constant to n) t = t
  action_is (load to kind from) (of, path, single') = (of, single', path_is core sound r from of path)
  action_is (store to kind from) (of, path, single') = (of, single', path_is core sound r to of path)
  action_is (copy of to from) (a, b, parts) = (parts, path_is core sound r to of a, path_is core sound r from of b)
  action_is (look at) (of, path) = (of, path_is core sound r at of path)
  action_is (begin_with v of value) (variable, small, solid, fits) =
      let (is, type) = variable_is core r v of false variable in (is, type, small, fits)
  action_is (pick to text index) (short, bytes) = (short, all_bytes text bytes)
  action_is (check low high to a) t = t
  action_is (neighbour distance low high to a) t = t
  action_is (primitive p operands to) t = record { sorts = t.sorts; each = operands_are operands t.each; taken = t.taken; nothing = t.nothing }
  action_is (arithmetic o checked to a b) t = tt
  action_is (compare o to a b) t = tt
  action_is (negate checked to a) t = tt
  action_is (complement to a) t = tt
  action_is (invert to a) t = tt
  action_is (absolute checked to a) t = tt
  action_is (odd to a) t = tt
  action_is (upper to a) t = tt
  action_is (low_bits kind to a) t = tt
  action_is (single to a) t = tt
  action_is (span to a b) t = tt
  action_is (combine o to a b) t = tt
  action_is (contains to a b) t = tt
  action_is (check_set all to a) t = tt

-- ---- what is named is there

module _ (core : Core) (sound : IsSound core) (mir : Mir) (r : ℕ) (x : Routine) (types : mir.counts.types ≡ length core.types) (variables : mir.counts.variables ≡ length core.variables) (locals : x.locals ≡ (variables_of core r).count) where
  pub has_it : (t : TemporaryId) → up_to t ≤ x.temporaries → has x t ≡ true
  has_it t low = lt-ltb t.0 x.temporaries (omega arith)

  two_there : (a b : TemporaryId) → max (up_to a) (up_to b) ≤ x.temporaries → has_two x a b ≡ true
  two_there a b low = and_from (has x a) (has x b) (has_it a (omega arith)) (has_it b (omega arith))

  three_there : (a b c : TemporaryId) → max (up_to a) (max (up_to b) (up_to c)) ≤ x.temporaries → has_three x a b c ≡ true
  three_there a b c low = and_from (has_two x a b) (has x c) (two_there a b (omega arith)) (has_it c (omega arith))

  pub type_there : (of : TypeId) → IsSmall core of → nat_lt of.0 mir.counts.types ≡ true
  type_there of small = let there = small.there in lt-ltb of.0 mir.counts.types (omega arith)

  root_there : (root : Root) (of : TypeId) → TypedRoot core r (view_root root) of → IsSmall core of → root_fits mir x root ≡ true
  unfolding root_fits
  root_there (Global v) of (listed, there) small =
      let (row, is, of_is) = some_and (slice_get core.variables v.0) (λ y. y.of ≡ of) there in
      let low = slice_get_within core.variables v.0 row is in
      lt-ltb v.0 mir.counts.variables (omega arith)
  root_there (Local v) of (low, there) small = lt-ltb v.0 x.locals (omega arith)
  root_there (Through v) of (low, (count, there)) small = lt-ltb v.0 x.locals (omega arith)
  root_there (Temporary type n) of same small = subst (λ y. nat_lt y.0 mir.counts.types ≡ true) (sym same) (type_there of small)

  steps_there : (steps : List Step) (of to : TypeId) → Reaches core of (map view_step steps) to → AreSmall core of (map view_step steps) → Every (λ s. in_step s ≤ x.temporaries) steps → list_all (step_fits mir x) steps ≡ true
  unfolding step_fits
  steps_there [] of to reaches small low = refl
  steps_there (Field whole n ∷ steps) of to (same, run, is, few, reaches) (first, small) (low, lows) =
      and_from (step_fits mir x (Field whole n)) (list_all (step_fits mir x) steps) (subst (λ y. nat_lt y.0 mir.counts.types ≡ true) (sym same) (type_there of first))
      (steps_there steps (part_type core (type_at core of) n) to reaches small lows)
  steps_there (Element whole least most t ∷ steps) of to (same, index, each, is, range, reaches) (first, small) (low, lows) =
      and_from (step_fits mir x (Element whole least most t)) (list_all (step_fits mir x) steps)
      (and_from (nat_lt whole.0 mir.counts.types) (has x t) (subst (λ y. nat_lt y.0 mir.counts.types ≡ true) (sym same) (type_there of first)) (has_it t low))
      (steps_there steps each to reaches (subst (λ y. AreSmall core y (map view_step steps)) (ap (λ o. part_type core o 0) is) small) lows)

  pub path_there : (path : Path) (of : TypeId) → TypedPath core r (view_path path) of → in_path path ≤ x.temporaries → path_fits mir x path ≡ true
  unfolding path_fits
  path_there path of typed low =
      and_from (root_fits mir x path.root) (list_all (step_fits mir x) path.steps) (root_there path.root typed.from typed.root typed.whole)
      (steps_there path.steps typed.from of typed.reaches (small_steps core sound typed.from of (map view_step path.steps) typed.whole typed.reaches) (most_each in_step path.steps x.temporaries low))

  -- ---- actions

  computation_there : (c : Computation) → in_computation c ≤ x.temporaries → computation_fits x c ≡ true
  unfolding computation_fits in_computation
  computation_there (Arithmetic o checked to a b) low = three_there to a b low
  computation_there (Compare o to a b) low = three_there to a b low
  computation_there (Negate checked to a) low = two_there to a low
  computation_there (Complement to a) low = two_there to a low
  computation_there (Invert to a) low = two_there to a low
  computation_there (Absolute checked to a) low = two_there to a low
  computation_there (Odd to a) low = two_there to a low
  computation_there (Upper to a) low = two_there to a low
  computation_there (LowBits kind to a) low = two_there to a low
  computation_there (Check least most to a) low = two_there to a low
  computation_there (Neighbour distance least most to a) low = two_there to a low
  computation_there (Single to a) low = two_there to a low
  computation_there (Span to a b) low = three_there to a b low
  computation_there (Combine o to a b) low = three_there to a b low
  computation_there (Contains to a b) low = three_there to a b low
  computation_there (CheckSet all to a) low = two_there to a low

  operands_there : (os : List Operand) → EachOperand TypedOperand (map view_operand os) → Every (λ o. in_operand o ≤ x.temporaries) os → list_all (operand_fits mir x) os ≡ true
  unfolding operand_fits in_operand
  operands_there [] typed low = refl
  operands_there (Number t ∷ os) typed low = and_from (has x t) (list_all (operand_fits mir x) os) (has_it t low.0) (operands_there os typed.1 low.1)
  operands_there (Text path ∷ os) typed low = absurd typed.0
  operands_there (Literal text ∷ os) typed low = operands_there os typed.1 low.1

  -- nothing goes to a place
  destination_there : (gives : Option Sort) (to : Destination) → gives ≡ None → IsTaken gives (view_destination to) → in_destination to ≤ x.temporaries → destination_fits mir x to ≡ true
  unfolding destination_fits in_destination
  destination_there (Some sort) to nothing taken low = absurd cc
  destination_there None Unused nothing taken low = refl
  destination_there None (InTemporary t) nothing taken low = absurd taken
  destination_there None (InNew of n) nothing taken low = absurd taken
  destination_there None (IntoPlace of to old) nothing taken low = absurd taken
  destination_there None (OverPlace to) nothing taken low = absurd taken

  move_there : (t : TemporaryId) (path : Path) (of : TypeId) → TypedPath core r (view_path path) of → max (up_to t) (in_path path) ≤ x.temporaries → load_fits mir x t path ≡ true
  unfolding load_fits
  move_there t path of typed low = and_from (has x t) (path_fits mir x path) (has_it t (omega arith)) (path_there path of typed (omega arith))

  pub action_there : (a : Action) → TypedAction core r (view_action core r a) → in_action a ≤ x.temporaries → action_fits mir x a ≡ true
  unfolding action_fits in_action copy_fits
  action_there (Constant to n) t low = has_it to low
  action_there (Load to kind from) (of, path, single') low = move_there to from of path low
  action_there (Store to kind from) (of, path, single') low = move_there from to of path low
  action_there (Copy of to from) (a, b, parts) low =
      and_from (nat_lt of.0 mir.counts.types && path_fits mir x to) (path_fits mir x from)
      (and_from (nat_lt of.0 mir.counts.types) (path_fits mir x to) (type_there of a.small) (path_there to of a (omega arith))) (path_there from of b (omega arith))
  action_there (Look at) (of, path) low = path_there at of path low
  action_there (BeginWith v) (variable, small, solid, fits) low = lt-ltb v.0 x.locals (let few = variable.0 in omega arith)
  action_there (Pick to text index) t low = two_there to index low
  action_there (Compute c) t low = computation_there c low
  action_there (Do p os to) t low = and_from (list_all (operand_fits mir x) os) (destination_fits mir x to) (operands_there os t.each (most_each in_operand os x.temporaries (omega (arith, low)))) (destination_there (gives p) to t.nothing t.taken (omega (arith, low)))
