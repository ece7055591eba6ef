-- What is held, lost, asked for and shown, by computation: states that are written down as they stand, with strings, arrays and instances
-- under names, since no program makes such so far; and what the steps of programs ask, let go, show and cost.
use Rattle.std.specs.Prelude.{◌≡◌, ℕ, zero, suc, pos, negsuc, Bool, true, false, List, [], ◌∷◌, length, map, Some, None, codes, nat_eq, if◌then◌else◌, ◌+◌, ◌++◌}
use Rattle.std.specs.Int.{int_wrap}
use Rattle.std.proofs.Common.{refl}
use Rattle.op_core.specs.Sizes.{plain as extent}
use Rattle.op_core.specs.Statement.{assign}
use Rattle.op_core.specs.Types.{id}
use Rattle.op_core.specs.declared.types.CoreType.TheVariants.{Record, DynamicArray}
use Rattle.op_meaning.proofs.Programs.{said, var, num, quoted, calc, line, shown, do_call, own, procedure, core_of, runs, part, rows_at}
use Rattle.op_meaning.proofs.RunsWhole.{raising, error_program}
use Rattle.op_meaning.specs.Actions.{perform}
use Rattle.op_meaning.specs.Calls.{source_rules}
use Rattle.op_meaning.specs.Costs.{cost}
use Rattle.op_meaning.specs.Demands.{block, standing}
use Rattle.op_meaning.specs.Frames.{Program, State}
use Rattle.op_meaning.specs.Holding.{each, any_below, holders}
use Rattle.op_meaning.specs.Items.{item, Item, leave, halt, free, Task, scope}
use Rattle.op_meaning.specs.Losing.{ends_place}
use Rattle.op_meaning.specs.Machine.{run_for, step, step_by, stepped, acted, done, do_item, do_task}
use Rattle.op_meaning.specs.Paths.{Path, path_to, in_temporary}
use Rattle.op_meaning.specs.Sets.{bits_below}
use Rattle.op_meaning.specs.Source.{source, Asked, LetGo, Written, Reported}
use Rattle.op_meaning.specs.Spots.{spots_from}
use Rattle.op_meaning.specs.Start.{start, after}
use Rattle.op_meaning.specs.Texts.{decimal_by}
use Rattle.op_meaning.specs.Values.{Value, number, parts, text as chars_of, array, instance, named, literal, empty, Holder, global, temporary, object, Place, all_of, Spot}
use Rattle.op_meaning.specs.World.{Object, gone, chars, elements, fields, Live, Temporary}
use Rattle.op_simulation.specs.System.{trace}
use Rattle.op_tree.specs.declared.operator.Operator.TheVariants.{Add, Div}
use Rattle.op_tree.specs.declared.position.Name.{Name}

-- a place of a holder, and a part of it
abbrev at : Holder → List ℕ → Place
at h path = record { holder = h; path = path }

abbrev string : ℕ → Value
string n = chars_of (named n)

-- parts that are listed
abbrev nth_value : List Value → ℕ → Value
nth_value [] k = number (pos 0)
nth_value (v ∷ vs) zero = v
nth_value (v ∷ vs) (suc k) = nth_value vs k

abbrev of_parts : List Value → Value
of_parts vs = parts (length vs) (nth_value vs)

-- the names that stand, what was written, and how it ended
pub record Left : Type 0 where
  pub names : List ℕ
  pub output : List ℕ
  pub errors : List ℕ

unfoldable pub left_after : ℕ → Program → State → Left
unfolding run_for step step_by stepped acted done do_item do_task perform bits_below decimal_by int_wrap each any_below spots_from
left_after n p s = left_of (run_for n p s)
  where
    left_of : State → Left
    left_of t = record { names = standing t; output = t.world.output; errors = t.world.errors }

module _ (name : Name) where
  -- ---- who holds

  -- Global 0 is a record of the string 1, a number and the string 2; global 1 is the array 3 of two strings, 2 and a literal; a temporary
  -- has the string 1 too. The program has no code.
  abbrev pub held_program : Program
  held_program =
      let core = core_of name (Record (rows_at 0 3) ∷ DynamicArray (id 7) ∷ []) (part name 7 ∷ part name 4 ∷ part name 7 ∷ []) 2 (own name 16 ∷ own name 17 ∷ []) [] in
      runs name (record core { extents = core.extents ++ extent 12 true ∷ extent 4 true ∷ [] }) ([] ∷ [])

  -- a global with the type of its row
  abbrev pub spot : ℕ → Spot
  spot v = record { at = all_of (global v); of = id (16 + v) }

  abbrev pub held_memory : Holder → Value
  held_memory (global zero) = of_parts (string 1 ∷ number (pos 5) ∷ string 2 ∷ [])
  held_memory (global (suc v)) = array (Some 3)
  held_memory (object n) = of_parts (string 2 ∷ chars_of (literal (codes "x")) ∷ [])
  held_memory (temporary d of n) = string 1
  held_memory h = number (pos 0)

  abbrev pub held_objects : ℕ → Object
  held_objects (suc zero) = chars (codes "a")
  held_objects (suc (suc zero)) = chars (codes "b")
  held_objects (suc (suc (suc zero))) = elements (id 7) 2
  held_objects _ = gone

  abbrev pub held_state : State
  held_state = let s = start held_program [] in record s {
    world = record s.world { made = record { of = id 7; n = 6 } ∷ []; memory = held_memory; objects = held_objects; next = 4 };
    work = [];
  }

  holders_of_one : holders held_program.core held_state 1 ≡ at (global 0) (0 ∷ []) ∷ at (temporary 0 (id 7) 6) [] ∷ []
  unfolding each
  holders_of_one = refl

  holders_of_two : holders held_program.core held_state 2 ≡ at (global 0) (2 ∷ []) ∷ at (object 3) (0 ∷ []) ∷ []
  unfolding each
  holders_of_two = refl

  holders_of_three : holders held_program.core held_state 3 ≡ at (global 1) [] ∷ []
  unfolding each
  holders_of_three = refl

  -- ---- what a loss starts

  -- The record ends by a walk over its strings: both are held elsewhere and stand. Then the temporary ends, and the string 1 is gone. Then
  -- the array loses its holder: its elements end in order, so that the string 2 is gone, and then the array itself.
  record_ends : left_after 4 held_program (ends_place (source_rules held_program) (spot 0) held_state) ≡ record { names = 1 ∷ 2 ∷ 3 ∷ []; output = []; errors = [] }
  unfolding left_after
  record_ends = refl

  temporary_ends : left_after 5 held_program (record (ends_place (source_rules held_program) (spot 0) held_state) { work = scope (record { of = id 7; n = 6 }) [] ∷ [] }) ≡ record { names = 2 ∷ 3 ∷ []; output = []; errors = [] }
  unfolding left_after
  temporary_ends = refl

  array_ends : left_after 4 held_program (ends_place (source_rules held_program) (spot 1) held_state) ≡ record { names = 1 ∷ 2 ∷ []; output = []; errors = [] }
  unfolding left_after
  array_ends = refl

  abbrev second_ends : State → State
  second_ends s = ends_place (source_rules held_program) (spot 1) s

  all_end : left_after 5 held_program (second_ends (run_for 5 held_program (record (ends_place (source_rules held_program) (spot 0) held_state) { work = scope (record { of = id 7; n = 6 }) [] ∷ [] })))
      ≡ record { names = []; output = []; errors = [] }
  unfolding left_after run_for step step_by stepped acted done do_item do_task each any_below spots_from
  all_end = refl

  -- ---- temporaries that end behind items

  -- Temporaries 0 and 1 of the type 7 were made, 1 last, and have the strings 1 and 2; temporary 2 was not made.
  abbrev scope_memory : Holder → Value
  scope_memory (temporary d of n) = string (suc n)
  scope_memory h = number (pos 0)

  abbrev of_seven : ℕ → Temporary
  of_seven n = record { of = id 7; n = n }

  abbrev scope_state : List Task → State
  scope_state work = let s = start held_program [] in record s {
    world = record s.world { made = of_seven 1 ∷ of_seven 0 ∷ []; memory = scope_memory; objects = held_objects; next = 3 };
    work = work;
  }

  abbrev scope_of_three : Task
  scope_of_three = scope (of_seven 2) (of_seven 1 ∷ of_seven 0 ∷ [])

  -- one that was not made stays as it is, then the last one that was made ends, and then the first one
  unmade_stays : left_after 1 held_program (scope_state (scope_of_three ∷ [])) ≡ record { names = 1 ∷ 2 ∷ []; output = []; errors = [] }
  unfolding left_after
  unmade_stays = refl

  last_ends_first : left_after 2 held_program (scope_state (scope_of_three ∷ [])) ≡ record { names = 1 ∷ []; output = []; errors = [] }
  unfolding left_after
  last_ends_first = refl

  first_ends_last : left_after 3 held_program (scope_state (scope_of_three ∷ [])) ≡ record { names = []; output = []; errors = [] }
  unfolding left_after
  first_ends_last = refl

  -- where items are left, their temporaries end in the same order, and then what stands behind them is left too
  left_items_end : left_after 3 held_program (scope_state (item (leave 0) ∷ scope_of_three ∷ item (halt 0) ∷ [])) ≡ record { names = 1 ∷ []; output = []; errors = [] }
  unfolding left_after
  left_items_end = refl

  all_left_end : left_after 4 held_program (scope_state (item (leave 0) ∷ scope_of_three ∷ item (halt 0) ∷ [])) ≡ record { names = []; output = []; errors = [] }
  unfolding left_after
  all_left_end = refl

  -- so they do where an exception goes through
  raised_through : left_after 3 held_program (let s = scope_state (item (halt 0) ∷ scope_of_three ∷ []) in record s { world = record s.world { raised = Some 9 } }) ≡ record { names = []; output = []; errors = [] }
  unfolding left_after
  raised_through = refl

  -- ---- instances

  -- The instance 1 of EA, whose destructor writes d, is in the interface that global 0 is, and in a class reference, which does not hold
  -- it.
  abbrev class_program : Program
  class_program = raising name [] []

  abbrev instance_memory : Bool → Holder → Value
  instance_memory is_held (global v) = if is_held then instance true (Some 1) else instance true None
  instance_memory is_held (temporary d of n) = instance false (Some 1)
  instance_memory is_held (object n) = of_parts (chars_of empty ∷ [])
  instance_memory is_held h = number (pos 0)

  -- a class reference in a temporary
  abbrev reference : Path
  reference = path_to (in_temporary (id 18) 0)

  abbrev instance_state : Bool → List Item → State
  instance_state is_held items = let s = start class_program [] in record s {
    world = record s.world { memory = instance_memory is_held; objects = λ n. if nat_eq n 1 then fields (record { 0 = 2 }) Live else gone; next = 2 };
    work = map (λ i. item i) items;
  }

  -- the last interface that holds it ends, and so it is destroyed
  last_holder_ends : left_after 8 class_program (ends_place (source_rules class_program) (record { at = all_of (global 0); of = id 4 }) (instance_state true [])) ≡ record { names = []; output = codes "d"; errors = [] }
  unfolding left_after
  last_holder_ends = refl

  -- Free destroys what nothing holds, what is held is error 204, and what is dead error 216
  freed_once : left_after 9 class_program (instance_state false (free true reference ∷ [])) ≡ record { names = []; output = codes "d"; errors = [] }
  unfolding left_after
  freed_once = refl

  freed_while_held : left_after 8 class_program (instance_state true (free true reference ∷ [])) ≡ record { names = 1 ∷ []; output = []; errors = said (codes "Runtime error 204") }
  unfolding left_after
  freed_while_held = refl

  freed_twice : left_after 12 class_program (instance_state false (free true reference ∷ free true reference ∷ [])) ≡ record { names = []; output = codes "d"; errors = said (codes "Runtime error 216") }
  unfolding left_after
  freed_twice = refl

  -- ---- what steps show

  -- each item of a Write is one event; calls and sums show nothing
  abbrev line_program : Program
  line_program = runs name (core_of name [] [] 1 (own name 4 ∷ []) (procedure name 0 0 0 ∷ []))
      ((assign (var 0 4) (num (negsuc 2)) ∷ []) ∷ (do_call 0 [] ∷ shown (quoted (codes "ab") ∷ var 0 4 ∷ []) ∷ []) ∷ [])

  shows_items : trace (source line_program) 40 (start line_program []) ≡ Written (codes "ab") ∷ Written (codes "-3") ∷ []
  unfolding trace run_for step step_by stepped acted done do_item do_task perform bits_below decimal_by int_wrap each any_below spots_from
  shows_items = refl

  -- an error that is raised asks for the block of its instance, with a slot, and lets it go at the handler's end
  shows_block : trace (source (error_program name)) 60 (start (error_program name) [])
      ≡ Written (codes "t") ∷ Asked (block 32 true) ∷ Written (codes "z") ∷ LetGo 1 ∷ Written (10 ∷ []) ∷ []
  unfolding trace run_for step step_by stepped acted done do_item do_task perform bits_below decimal_by int_wrap each any_below spots_from
  shows_block = refl

  -- a run-time error goes to the error stream
  shows_error : trace (source (runs name (core_of name [] [] 0 [] []) ((line (calc (num (pos 1)) Div (num (pos 0)) ∷ []) ∷ []) ∷ []))) 20
      (start (runs name (core_of name [] [] 0 [] []) ((line (calc (num (pos 1)) Div (num (pos 0)) ∷ []) ∷ []) ∷ [])) [])
      ≡ Reported (said (codes "Runtime error 200")) ∷ []
  unfolding trace run_for step step_by stepped acted done do_item do_task perform bits_below decimal_by int_wrap each any_below spots_from
  shows_error = refl

  -- ---- what steps cost

  -- The fourth step of this program is the sum of a global: 1, three numbers of 4 bytes, and the charge of the main part, which is 304.
  abbrev sum_program : Program
  sum_program = runs name (core_of name [] [] 1 (own name 4 ∷ []) []) ((assign (var 0 4) (calc (var 0 4) Add (num (pos 1))) ∷ []) ∷ [])

  cost_of_sum : cost sum_program (after sum_program [] 3) ≡ 317
  unfolding after run_for step step_by stepped acted done do_item do_task perform bits_below decimal_by int_wrap each any_below spots_from
  cost_of_sum = refl

  -- the call of the main part: 1, and the charge of what is entered
  cost_of_call : cost sum_program (start sum_program []) ≡ 305
  unfolding after run_for step step_by stepped acted done do_item do_task perform bits_below decimal_by int_wrap each any_below spots_from
  cost_of_call = refl
