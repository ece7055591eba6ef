-- A sound program of the class is plain: what is done of any routine makes no instances and handles no exceptions.
use Rattle.std.proofs.Common.{◌≡◌, ◌<◌, ℕ, zero, suc, ◌+◌, ◌*◌, List, [], ◌∷◌, Option, Some, None, arith}
use Rattle.std.specs.Prelude.{slice_get}
use Rattle.std.specs.List.{All}
use Rattle.std.proofs.lemmas.List.Elements.{All-head, All-tail}
use Rattle.std.proofs.lemmas.Option.{slice_get_within}
use Rattle.op_core.specs.Sound.{IsPart, IsSound, IsSoundNesting, IsUnit}
use Rattle.op_core.specs.declared.ids.RoutineId.{RoutineId}
use Rattle.op_core.specs.declared.program.Core.{Core}
use Rattle.op_core.specs.declared.program.Unit.{Unit as UnitRow}
use Rattle.op_core.specs.declared.routine.Owner.TheVariants.{Unit as OfUnit}
use Rattle.op_core.specs.declared.routine.Routine.{Routine as Row}
use Rattle.op_frames.specs.Made.{AreMade, AreMadeCases, AreMadeTurns, IsMade}
use Rattle.op_frames.specs.Within.{IsWithin}
use Rattle.op_meaning.specs.Actions.{Action, constant, load, store, copy, look, begin_with, pick, arithmetic, compare, negate, complement, invert, absolute, odd, upper, low_bits, check, neighbour, single, span, combine, contains, check_set, primitive}
use Rattle.op_meaning.specs.Calls.{ending_of}
use Rattle.op_meaning.specs.Frames.{program_of}
use Rattle.op_meaning.specs.Items.{Item, act, also, choose, select, loop, body_first, protect, leave, enter, scoped, attempt, throw, rethrow, halt, construct, free, Items, none, then_do, Turns, turns, Cases, no_cases, cases}
use Rattle.op_meaning.specs.Primitives.{EachOperand, Operand, from_temp, literal_text, text_at}
use Rattle.op_meaning.specs.Start.{first_pending}
use Rattle.op_mir.specs.Code.{Instr, items_of}
use Rattle.op_mir.specs.Plain.{ArePlain, ArePlainCases, ArePlainTurns, ArePlainUnits, IfExists, IsPlain, IsPlainAction, IsPlainItem, IsPlainOperand, IsWay}
use Rattle.op_typing.proofs.CodeTyped.{items_are_typed}
use Rattle.op_typing.proofs.Rows.{some_and}
use Rattle.op_typing.specs.Typed.{AreTyped, AreTypedCases, AreTypedTurns, IsTypedAction, IsTypedItem, IsTypedOperand}
use Rattle.op_correctness.proofs.Making.{items_made, nodes}
use Rattle.op_correctness.specs.SimpleCore.{IsSimpleCore}

-- ---- items

-- what is left is one of three
few_ways : (what : ℕ) → what < 3 → IsWay what
few_ways zero few = tt
few_ways (suc zero) few = tt
few_ways (suc (suc zero)) few = tt
few_ways (suc (suc (suc n))) few = absurd (omega arith)

operands_plain : (os : List Operand) → EachOperand IsTypedOperand os → EachOperand IsPlainOperand os
operands_plain [] typed = tt
operands_plain (from_temp t ∷ os) typed = (tt, operands_plain os typed.1)
operands_plain (text_at path ∷ os) typed = absurd typed.0
operands_plain (literal_text bytes ∷ os) typed = (tt, operands_plain os typed.1)

-- an action that is typed
pub action_plain : (core : Core) (r : ℕ) (a : Action) → IsTypedAction core r a → IsPlainAction a
action_plain core r (constant to n) typed = tt
action_plain core r (load to kind from) typed = tt
action_plain core r (store to kind from) typed = tt
action_plain core r (copy of to from) typed = tt
action_plain core r (look at) typed = tt
action_plain core r (begin_with v of value) typed = tt
action_plain core r (pick to chars index) typed = tt
action_plain core r (arithmetic o checked to a b) typed = tt
action_plain core r (compare o to a b) typed = tt
action_plain core r (negate checked to a) typed = tt
action_plain core r (complement to a) typed = tt
action_plain core r (invert to a) typed = tt
action_plain core r (absolute checked to a) typed = tt
action_plain core r (odd to a) typed = tt
action_plain core r (upper to a) typed = tt
action_plain core r (low_bits kind to a) typed = tt
action_plain core r (check low high to a) typed = tt
action_plain core r (neighbour distance low high to a) typed = tt
action_plain core r (single to a) typed = tt
action_plain core r (span to a b) typed = tt
action_plain core r (combine o to a b) typed = tt
action_plain core r (contains to a b) typed = tt
action_plain core r (check_set all to a) typed = tt
action_plain core r (primitive p operands to) typed = (typed.nothing, operands_plain operands typed.each)

-- Items that are typed and have code are plain, whatever is asked of their code.
module _ (core : Core) (stack r : ℕ) (Q : Instr → Type 0) (blocks : ℕ) where
  mutual
    pub items_plain : (items : Items) → AreTyped core r items → AreMade Q blocks items → ArePlain (program_of core stack) items
    items_plain none typed made = tt
    items_plain (then_do i others) (first, typed) (one, made) = (item_plain i first one, items_plain others typed made)

    -- of one item
    item_plain : (i : Item) → IsTypedItem core r i → IsMade Q blocks i → IsPlainItem (program_of core stack) i
    item_plain (act a) typed made = action_plain core r a typed
    item_plain (also truth t items) typed (branch, made) = items_plain items typed made
    item_plain (choose t first otherwise) (one, other) (branch, mine, yours) = (items_plain first one mine, items_plain otherwise other yours)
    item_plain (select t cs otherwise) (ones, other) (branch, mine, yours) = (cases_plain cs ones mine, items_plain otherwise other yours)
    item_plain (loop l) typed made = turns_plain l typed made
    item_plain (body_first l) typed made = turns_plain l typed made
    item_plain (protect t items finalization) (one, other) (reasons, way, mine, yours) = (items_plain items one mine, items_plain finalization other yours)
    item_plain (leave what) typed made = few_ways what typed
    item_plain (enter q given receiver) typed made = slice_get_within core.routines q typed.callee typed.there
    item_plain (halt t) typed made = tt
    item_plain (scoped t ts items) typed made = absurd made
    item_plain (attempt items cs) typed made = absurd made
    item_plain (throw at) typed made = absurd made
    item_plain rethrow typed made = absurd made
    item_plain (construct c q given to) typed made = absurd made
    item_plain (free takes_nil at) typed made = absurd made

    -- of a loop
    turns_plain : (l : Turns) → AreTypedTurns core r l → AreMadeTurns Q blocks l → ArePlainTurns (program_of core stack) l
    turns_plain (turns head t ends between body) (one, two, three) (branch, mine, yours, theirs) = (items_plain head one mine, items_plain between two yours, items_plain body three theirs)

    -- and of the arms of a selection
    cases_plain : (cs : Cases) → AreTypedCases core r cs → AreMadeCases Q blocks cs → ArePlainCases (program_of core stack) cs
    cases_plain no_cases typed made = tt
    cases_plain (cases labels items others) (words, first, typed) (one, made) = (items_plain items first one, cases_plain others typed made)

-- ---- the program

module _ (core : Core) (stack : ℕ) where
  -- the parts of units are routines of the program
  part_exists : (part : Option RoutineId) → IsPart core part → IfExists (program_of core stack) part
  part_exists None is = tt
  part_exists (Some q) is =
      let (y, there, facts) = some_and (slice_get core.routines q.0) (λ (y : Row). (y.owner ≡ OfUnit) × (y.parameters.count ≡ 0)) is in
      slice_get_within core.routines q.0 y there

  -- of all units
  units_plain : (us : List UnitRow) → All (IsUnit core) us → ArePlainUnits (program_of core stack) us
  units_plain [] are = tt
  units_plain (u ∷ us) are =
      let first = All-head (IsUnit core) u us are in
      (part_exists u.initialization first.2, part_exists u.finalization first.3, units_plain us (All-tail (IsUnit core) u us are))

  -- So is the program, where nothing is to be done behind a routine and behind the program.
  pub program_plain : IsSound core → IsSoundNesting core → IsSimpleCore core → ((r : ℕ) → ending_of core r ≡ []) → first_pending core ≡ [] → IsPlain (program_of core stack)
  program_plain sound nesting is endings pending = record {
    exceptions = is.exceptions;
    bodies = λ r. items_plain core stack r (IsWithin (2 * nodes core stack r) (2 * nodes core stack r + 1)) 0 (items_of (program_of core stack) r) (items_are_typed core stack sound nesting is.simple r) (items_made core stack r 0 (is.counted stack r));
    endings = endings;
    outs = is.outs;
    units = units_plain core.units sound.units;
    globals = pending;
  }
