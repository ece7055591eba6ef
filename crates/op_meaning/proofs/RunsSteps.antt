-- What is done in steps of its own, by computation: places of `out` arguments are emptied before a call, an instance is made before its
-- constructor is entered, and what a loss starts takes its charge afterwards. (Free Pascal Reference Guide, "Out parameters", "Class
-- instantiation" and "Managed types"; User's Guide, "Run-time errors".)
use Rattle.std.specs.Prelude.{◌≡◌, ℕ, zero, suc, pos, List, [], ◌∷◌, codes, nat_eq, if◌then◌else◌, None}
use Rattle.std.specs.Int.{int_wrap}
use Rattle.std.proofs.Common.{refl}
use Rattle.op_core.specs.Types.{id}
use Rattle.op_tree.specs.declared.position.Name.{Name}
use Rattle.op_meaning.proofs.Programs.{said, own, procedure, core_of, runs, by_out}
use Rattle.op_meaning.proofs.RunsHeld.{held_program, held_state, spot}
use Rattle.op_meaning.proofs.RunsWhole.{raising, class_id}
use Rattle.op_meaning.specs.Actions.{perform}
use Rattle.op_meaning.specs.Calls.{source_rules}
use Rattle.op_meaning.specs.Demands.{standing}
use Rattle.op_meaning.specs.Frames.{Program, State}
use Rattle.op_meaning.specs.Holding.{each, any_below}
use Rattle.op_meaning.specs.Items.{by_place, nowhere, to_place, item, enter, construct, Item, Given, Task}
use Rattle.op_meaning.specs.Losing.{ends_place}
use Rattle.op_meaning.specs.Machine.{run_for, step, step_by, stepped, acted, done, do_item, do_task}
use Rattle.op_meaning.specs.Paths.{Path, path_to, with_step, in_global, in_temporary, element}
use Rattle.op_meaning.specs.Sets.{bits_below}
use Rattle.op_meaning.specs.Spots.{spots_from}
use Rattle.op_meaning.specs.Start.{start}
use Rattle.op_meaning.specs.Texts.{decimal_by}
use Rattle.op_meaning.specs.Values.{Value, number, text, named, Holder, global}
use Rattle.op_meaning.specs.World.{Object, gone, chars}

-- the names that stand, how many activations are below the one under way, and what was reported
pub record Seen : Type 0 where
  pub names : List ℕ
  pub depth : ℕ
  pub errors : List ℕ

unfoldable seen_after : ℕ → Program → State → Seen
unfolding run_for step step_by stepped acted done do_item do_task perform bits_below decimal_by int_wrap each any_below spots_from
seen_after n p s = seen (run_for n p s)
  where
    seen : State → Seen
    seen t = record { names = standing t; depth = t.world.depth; errors = t.world.errors }

abbrev quiet : List ℕ → ℕ → Seen
quiet names depth = record { names = names; depth = depth; errors = [] }

abbrev failed_with : List ℕ → List ℕ → Seen
failed_with names digits = record { names = names; depth = 0; errors = said digits }

module _ (name : Name) where
  -- ---- out arguments

  --   procedure p(out s, t: string); begin end;
  -- with two global variables that have the strings 1 and 2
  abbrev out_program : Program
  out_program = runs name (core_of name [] [] 2 (own name 7 ∷ own name 7 ∷ by_out name 7 ∷ by_out name 7 ∷ []) (procedure name 2 2 2 ∷ [])) ([] ∷ [] ∷ [])

  abbrev out_memory : Holder → Value
  out_memory (global v) = text (named (suc v))
  out_memory h = number (pos 0)

  abbrev out_state : List Item → State
  out_state items = let s = start out_program [] in record s {
    world = record s.world { memory = out_memory; objects = λ n. if nat_eq n 1 then chars (codes "a") else (if nat_eq n 2 then chars (codes "b") else gone); next = 3 };
    work = works items;
  }
    where
      works : List Item → List Task
      works [] = []
      works (i ∷ is) = item i ∷ works is

  abbrev call_with : List Path → Item
  call_with paths = enter 0 (given paths) nowhere
    where
      given : List Path → List Given
      given [] = []
      given (p ∷ ps) = by_place p ∷ given ps

  abbrev both : Item
  both = call_with (path_to (in_global 0) ∷ path_to (in_global 1) ∷ [])

  -- the paths are followed first; then each place is emptied, in order; then the routine is entered
  paths_first : seen_after 1 out_program (out_state (both ∷ [])) ≡ quiet (1 ∷ 2 ∷ []) 0
  unfolding seen_after
  paths_first = refl

  one_emptied : seen_after 2 out_program (out_state (both ∷ [])) ≡ quiet (2 ∷ []) 0
  unfolding seen_after
  one_emptied = refl

  both_emptied : seen_after 3 out_program (out_state (both ∷ [])) ≡ quiet [] 0
  unfolding seen_after
  both_emptied = refl

  then_entered : seen_after 4 out_program (out_state (both ∷ [])) ≡ quiet [] 1
  unfolding seen_after
  then_entered = refl

  -- where a path fails nothing has been emptied
  abbrev outside : Path
  outside = with_step (element (id 16) (pos 1) (pos 2) 0) (path_to (in_global 1))

  nothing_emptied : seen_after 1 out_program (out_state (call_with (path_to (in_global 0) ∷ outside ∷ []) ∷ [])) ≡ failed_with (1 ∷ 2 ∷ []) (codes "Runtime error 201")
  unfolding seen_after
  nothing_emptied = refl

  -- where the stack has no room the places are empty already
  abbrev narrow : Program → ℕ → Program
  narrow p stack = record p { stack = stack }

  emptied_before_error : seen_after 4 (narrow out_program 100) (out_state (both ∷ [])) ≡ failed_with [] (codes "Runtime error 202")
  unfolding seen_after
  emptied_before_error = refl

  -- ---- instances

  -- An instance of EA is made for a temporary; its constructor writes c.
  abbrev class_program : Program
  class_program = raising name [] []

  abbrev made_state : State
  made_state = let s = start class_program [] in record s { work = item (construct (class_id 2) 0 [] (to_place (id 18) (path_to (in_temporary (id 18) 0)))) ∷ [] }

  made_first : seen_after 1 class_program made_state ≡ quiet (1 ∷ []) 0
  unfolding seen_after
  made_first = refl

  entered_next : seen_after 2 class_program made_state ≡ quiet (1 ∷ []) 1
  unfolding seen_after
  entered_next = refl

  -- where the constructor cannot be entered, the instance stands
  made_before_error : seen_after 2 (narrow class_program 100) made_state ≡ failed_with (1 ∷ []) (codes "Runtime error 202")
  unfolding seen_after
  made_before_error = refl

  -- where a path of its arguments fails, none was made
  not_made : seen_after 1 (record class_program { core = record class_program.core { exceptions = None } }) (record made_state { work = item (construct (class_id 2) 0 (by_place outside ∷ []) nowhere) ∷ [] }) ≡ failed_with [] (codes "Runtime error 201")
  unfolding seen_after
  not_made = refl

  -- ---- losses

  -- The array that a global lost stands until its walk takes its charge and is done; with no room for that it still stands.
  walk_without_room : seen_after 1 (narrow (held_program name) 60) (ends_place (source_rules (held_program name)) (spot name 1) (held_state name)) ≡ failed_with (1 ∷ 2 ∷ 3 ∷ []) (codes "Runtime error 202")
  unfolding seen_after
  walk_without_room = refl

  walk_with_room : seen_after 1 (narrow (held_program name) 64) (ends_place (source_rules (held_program name)) (spot name 1) (held_state name)) ≡ quiet (1 ∷ 2 ∷ 3 ∷ []) 0
  unfolding seen_after
  walk_with_room = refl
