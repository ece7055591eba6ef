-- A program that passes the test is plain.
use Rattle.std.proofs.Common.{◌≡◌, ◌<◌, ◌≤◌, ◌⊎◌, inl, inr, ℕ, zero, suc, true, false, ◌&&◌, nat_lt, Option, Some, None, List, [], ◌∷◌, ◌++◌, length, slice_get, map, reverse, refl, ap, subst, arith}
use Rattle.std.proofs.lemmas.Bool.Decides.{nat_tests}
use Rattle.std.specs.Cmp.{first_so, second_so}
use Rattle.std.specs.List.{list_all}
use Rattle.std.proofs.lemmas.Bool.{cases_lt, not-true}
use Rattle.std.proofs.lemmas.Option.{slice_get_past}
use Rattle.op_base.proofs.Lists.{passes_at}
use Rattle.op_core.specs.declared.ids.RoutineId.{RoutineId}
use Rattle.op_core.specs.declared.ids.TypeId.{TypeId}
use Rattle.op_core.specs.declared.program.Core.{Core}
use Rattle.op_core.specs.declared.program.ExceptionClasses.{ExceptionClasses}
use Rattle.op_core.specs.declared.program.Unit.{Unit as UnitRow}
use Rattle.op_core.specs.declared.routine.Routine.{Routine}
use Rattle.op_core.specs.declared.routine.Variable.{Variable}
use Rattle.op_meaning.specs.Actions.{Action, constant, load, store, copy, look, begin_with, pick, arithmetic, compare, negate, complement, invert, absolute, odd, upper, low_bits, check, neighbour, single, span, combine, contains, check_set, primitive}
use Rattle.op_meaning.specs.Calls.{env_of}
use Rattle.op_meaning.specs.Expressions.{first_here}
use Rattle.op_meaning.specs.Frames.{Program, empty_global, program_of}
use Rattle.op_meaning.specs.Items.{Item, act, also, choose, select, loop, body_first, protect, leave, enter, scoped, attempt, throw, rethrow, halt, construct, free, Items, none, then_do, Turns, turns, Cases, no_cases, cases}
use Rattle.op_meaning.specs.Primitives.{EachOperand, Operand, from_temp, gives, literal_text, text_at}
use Rattle.op_meaning.specs.Shapes.{is_managed, no_type, variables_of}
use Rattle.op_meaning.specs.Start.{first_pending}
use Rattle.op_meaning.specs.Statements.{first_items, work_of_all}
use Rattle.op_meaning.specs.declared.primitive.Sort.{Sort}
use Rattle.op_mir.proofs.Unmanaged.{none_emptied, ending_by_row, no_globals}
use Rattle.op_mir.specs.Code.{items_of}
use Rattle.op_mir.specs.Kinds.{is_nothing}
use Rattle.op_mir.specs.Plain.{IsPlainAction, IsPlainOperand, ArePlain, ArePlainCases, ArePlainTurns, ArePlainUnits, IfExists, IsPlain, IsPlainItem, IsWay}
use Rattle.op_mir.specs.PlainTests.{is_plain_action, is_plain_operand, are_plain, are_plain_cases, are_plain_turns, has_no_exceptions, has_part, has_plain_tables, is_plain_item, is_plain_result, is_plain_routine, is_plain_type, is_plain_unit, is_plain_variable}
use Rattle.op_mir.proofs.PlainRuns.{plain_both, plain_first}

-- ---- items

way : (what : ℕ) → nat_lt what 3 ≡ true → IsWay what
way zero is = tt
way (suc zero) is = tt
way (suc (suc zero)) is = tt
way (suc (suc (suc n))) is = grind (arith, nat_tests)

operands_plain : (os : List Operand) → list_all is_plain_operand os ≡ true → EachOperand IsPlainOperand os
operands_plain [] is = tt
operands_plain (from_temp t ∷ os) is = (tt, operands_plain os is)
operands_plain (text_at path ∷ os) is = absurd cc
operands_plain (literal_text bytes ∷ os) is = (tt, operands_plain os is)

nothing_given : (gives : Option Sort) → is_nothing gives ≡ true → gives ≡ None
nothing_given None is = refl
nothing_given (Some sort) is = absurd cc

plain_action : (a : Action) → is_plain_action a ≡ true → IsPlainAction a
plain_action (constant to n) is = tt
plain_action (load to kind from) is = tt
plain_action (store to kind from) is = tt
plain_action (copy of to from) is = tt
plain_action (look at) is = tt
plain_action (begin_with v of value) is = tt
plain_action (pick to chars index) is = tt
plain_action (arithmetic o checked to a b) is = tt
plain_action (compare o to a b) is = tt
plain_action (negate checked to a) is = tt
plain_action (complement to a) is = tt
plain_action (invert to a) is = tt
plain_action (absolute checked to a) is = tt
plain_action (odd to a) is = tt
plain_action (upper to a) is = tt
plain_action (low_bits kind to a) is = tt
plain_action (check low high to a) is = tt
plain_action (neighbour distance low high to a) is = tt
plain_action (single to a) is = tt
plain_action (span to a b) is = tt
plain_action (combine o to a b) is = tt
plain_action (contains to a b) is = tt
plain_action (check_set all to a) is = tt
plain_action (primitive p operands to) is = (nothing_given (gives p) (first_so _ _ is), operands_plain operands (second_so (is_nothing (gives p)) _ is))

module _ (p : Program) where
  mutual
    pub plain_items : (items : Items) → are_plain (length p.core.routines) items ≡ true → ArePlain p items
    plain_items none is = tt
    plain_items (then_do i others) is = (plain_item i (first_so _ _ is), plain_items others (second_so _ _ is))

    plain_item : (i : Item) → is_plain_item (length p.core.routines) i ≡ true → IsPlainItem p i
    plain_item (act a) is = plain_action a is
    plain_item (also truth t items) is = plain_items items is
    plain_item (choose t first otherwise) is = (plain_items first (first_so _ _ is), plain_items otherwise (second_so _ _ is))
    plain_item (select t cs otherwise) is = (plain_cases cs (first_so _ _ is), plain_items otherwise (second_so _ _ is))
    plain_item (loop l) is = plain_turns l is
    plain_item (body_first l) is = plain_turns l is
    plain_item (protect t items finalization) is = (plain_items items (first_so _ _ is), plain_items finalization (second_so _ _ is))
    plain_item (leave what) is = way what is
    plain_item (enter r given receiver) is = grind (arith, nat_tests)
    plain_item (halt t) is = tt
    plain_item (scoped t ts items) is = plain_items items is
    plain_item (attempt items cs) is = absurd cc
    plain_item (throw t) is = absurd cc
    plain_item rethrow is = absurd cc
    plain_item (construct c r given to) is = absurd cc
    plain_item (free takes_nil t) is = absurd cc

    plain_turns : (l : Turns) → are_plain_turns (length p.core.routines) l ≡ true → ArePlainTurns p l
    plain_turns (turns head t ends between body) is =
        let front = first_so (are_plain (length p.core.routines) head && are_plain (length p.core.routines) between) _ is in
        (plain_items head (first_so _ _ front), plain_items between (second_so _ _ front), plain_items body (second_so _ _ is))

    plain_cases : (cs : Cases) → are_plain_cases (length p.core.routines) cs ≡ true → ArePlainCases p cs
    plain_cases no_cases is = tt
    plain_cases (cases labels items others) is = (plain_items items (first_so _ _ is), plain_cases others (second_so _ _ is))

-- ---- tables

module _ (core : Core) (stack : ℕ) (tables : has_plain_tables core ≡ true) where
  abbrev p : Program
  p = program_of core stack

  first_test : has_no_exceptions core.exceptions ≡ true
  unfolding has_plain_tables
  first_test = first_so _ _ (first_so _ _ (first_so _ _ (first_so _ _ tables)))

  unmanaged : is_managed core no_type ≡ false
  unfolding has_plain_tables
  unmanaged = not-true _ (second_so _ _ (first_so _ _ (first_so _ _ (first_so _ _ tables))))

  variables : list_all (is_plain_variable core) core.variables ≡ true
  unfolding has_plain_tables
  variables = second_so _ _ (first_so _ _ (first_so _ _ tables))

  routines : list_all (is_plain_routine core) core.routines ≡ true
  unfolding has_plain_tables
  routines = second_so _ _ (first_so _ _ tables)

  units : list_all (is_plain_unit core) core.units ≡ true
  unfolding has_plain_tables
  units = second_so _ _ tables

  no_exceptions : (x : Option ExceptionClasses) → has_no_exceptions x ≡ true → x ≡ None
  no_exceptions None is = refl
  no_exceptions (Some x) is = absurd cc

  -- ---- nothing has to be ended

  unmanaged_at : (k : ℕ) (v : Variable) → slice_get core.variables k ≡ Some v → is_managed core v.of ≡ false
  unmanaged_at k v at = not-true _ (passes_at (is_plain_variable core) core.variables k v variables at)

  plain_result : (r : ℕ) (x : Routine) → slice_get core.routines r ≡ Some x → is_plain_routine core x ≡ true
  plain_result r x at = passes_at (is_plain_routine core) core.routines r x routines at

  unmanaged_result : (r : ℕ) (x : Routine) (of : TypeId) → slice_get core.routines r ≡ Some x → x.result ≡ Some of → is_managed core of ≡ false
  unmanaged_result r x of at is = not-true (is_managed core of) (subst (λ o. is_plain_result core o ≡ true) is (plain_result r x at))

  -- ---- units and globals

  exists : (part : Option RoutineId) → has_part core part ≡ true → IfExists p part
  exists None is = tt
  exists (Some r) is = grind (arith, nat_tests)

  plain_units : (us : List UnitRow) → list_all (is_plain_unit core) us ≡ true → ArePlainUnits p us
  plain_units [] all = tt
  plain_units (u ∷ us) all =
      let is = first_so (is_plain_unit core u) _ all in
      (exists u.initialization (first_so _ _ is), exists u.finalization (second_so (has_part core u.initialization) _ is), plain_units us (second_so (is_plain_unit core u) _ all))

  -- ---- bodies

  plain_body : (r : ℕ) → ArePlain p (work_of_all (env_of p r) first_here (p.body r)) → ArePlain p (items_of p r)
  plain_body r plain = plain_both p (first_items core p.first r (variables_of core r).count) _ (plain_first p r (variables_of core r).count) plain

  no_body : (r : ℕ) → slice_get core.routines r ≡ None → ArePlain p (work_of_all (env_of p r) first_here (p.body r))
  no_body r at = rw at tt

  pub plain_program : ((r : ℕ) → r < length core.routines → are_plain (length core.routines) (items_of p r) ≡ true) → IsPlain p
  plain_program bodies = record {
    exceptions = no_exceptions core.exceptions first_test;
    bodies = λ r. body_by r (cases_lt r (length core.routines));
    endings = λ r. ending_by_row core unmanaged_at unmanaged_result r (slice_get core.routines r) refl;
    outs = none_emptied core unmanaged_at;
    units = plain_units core.units units;
    globals = ap (map (λ v. empty_global v)) (no_globals core unmanaged_at unmanaged (reverse core.units));
  }
    where
      body_by : (r : ℕ) → ((r < length core.routines) ⊎ (length core.routines ≤ r)) → ArePlain p (items_of p r)
      body_by r (inl there) = plain_items p (items_of p r) (bodies r there)
      body_by r (inr past) = plain_body r (no_body r (slice_get_past core.routines r past))
