-- Scopes of temporaries in managed code, run by computation: their temporaries end behind the items and at every exit, the one that was
-- made last first, and of each only what was made. No action makes such a temporary yet, so the states in which they were made are written out.
use Rattle.std.specs.Prelude.{◌≡◌, ℕ, zero, suc, pos, true, List, [], ◌∷◌, nat_eq, if◌then◌else◌}
use Rattle.std.specs.Int.{int_wrap}
use Rattle.std.proofs.Common.{refl}
use Rattle.op_core.specs.Types.{id}
use Rattle.op_meaning.proofs.RunsHeld.{held_objects, held_program}
use Rattle.op_meaning.specs.Actions.{constant}
use Rattle.op_meaning.specs.Items.{Items, turns, none, only, act, leave, loop, protect, scoped}
use Rattle.op_meaning.specs.Values.{Value, number, parts, text, named, Holder, temporary}
use Rattle.op_meaning.specs.World.{Temporary}
use Rattle.op_tree.specs.declared.position.Name.{Name}
use Rattle.op_mir.specs.Code.{blocks_of}
use Rattle.op_mir.specs.Machine.{Code, MirState, code_of, execute, mir_done, mir_acted, mir_stepped, mir_step_by, mir_step, mir_machine, mir_start, block_at}
use Rattle.op_mir.proofs.FrameRuns.{left_of}
use Rattle.op_simulation.specs.System.{run}
use Rattle.op_meaning.specs.Actions.{perform}
use Rattle.op_meaning.specs.Holding.{each, any_below}
use Rattle.op_meaning.specs.Sets.{bits_below}
use Rattle.op_meaning.specs.Spots.{spots_from}
use Rattle.op_meaning.specs.Texts.{decimal_by}

-- a string in a temporary, and a record of two strings with a number between them
abbrev of_string : ℕ → Temporary
of_string n = record { of = id 7; n = n }

abbrev of_record : Temporary
of_record = record { of = id 16; n = 0 }

-- String temporary n has the string n + 1, and the record has the strings 1 and 2.
abbrev fields_in : ℕ → Value
fields_in zero = text (named 1)
fields_in (suc zero) = number (pos 5)
fields_in k = text (named 2)

abbrev memory : Holder → Value
memory (temporary d of n) = if nat_eq of.0 16 then parts 3 fields_in else text (named (suc n))
memory h = number (pos 0)

module _ (name : Name) where
  -- the code of items in a routine of its own, which stands alone
  abbrev code_with : Items → Code
  code_with items = record (code_of (held_program name)) { blocks = λ r. blocks_of items }

  -- these temporaries were made, the last one first
  abbrev state_with : List Temporary → Items → MirState
  state_with made items = let m = mir_start (held_program name) [] in record m {
    world = record m.world { made = made; memory = memory; objects = held_objects name; next = 3 };
    work = block_at (blocks_of items) 0;
  }

  -- which strings stand after so many instructions
  unfoldable standing_after : ℕ → List Temporary → Items → List ℕ
  unfolding run mir_step mir_step_by mir_stepped mir_acted mir_done execute perform bits_below decimal_by int_wrap each any_below spots_from
  standing_after n made items = (left_of (run (mir_machine (code_with items)) n (state_with made items))).names

  abbrev one_then_two : List Temporary
  one_then_two = of_string 1 ∷ of_string 0 ∷ []

  -- ---- behind the items

  -- the scope is opened; temporary 2 was not made and stays as it is; then temporary 1 ends, which was made last, and then temporary 0
  abbrev scope_of_three : Items → Items
  scope_of_three items = only (scoped (of_string 2) (of_string 1 ∷ of_string 0 ∷ []) items)

  unmade_stays : standing_after 2 one_then_two (scope_of_three none) ≡ 1 ∷ 2 ∷ []
  unfolding standing_after
  unmade_stays = refl

  last_ends_first : standing_after 3 one_then_two (scope_of_three none) ≡ 1 ∷ []
  unfolding standing_after
  last_ends_first = refl

  first_ends_last : standing_after 4 one_then_two (scope_of_three none) ≡ []
  unfolding standing_after
  first_ends_last = refl

  -- ---- a record with parts

  -- its walk is begun and charged, and its strings end in order
  record_ends : standing_after 4 (of_record ∷ []) (only (scoped of_record [] none)) ≡ 2 ∷ []
  unfolding standing_after
  record_ends = refl

  whole_record_ends : standing_after 5 (of_record ∷ []) (only (scoped of_record [] none)) ≡ []
  unfolding standing_after
  whole_record_ends = refl

  -- Its first string is the one of temporary 0 too, and stays until that ends, which was made before it.
  abbrev record_and_string : Items
  record_and_string = only (scoped of_record (of_string 0 ∷ []) none)

  held_part_stays : standing_after 5 (of_record ∷ of_string 0 ∷ []) record_and_string ≡ 1 ∷ []
  unfolding standing_after
  held_part_stays = refl

  both_end : standing_after 7 (of_record ∷ of_string 0 ∷ []) record_and_string ≡ []
  unfolding standing_after
  both_end = refl

  -- ---- where the items are left

  -- Exit out of two scopes: the temporary of the inner one ends, then that of the outer one
  abbrev scopes_left : ℕ → Items
  scopes_left what = only (scoped (of_string 0) [] (only (scoped (of_string 1) [] (only (leave what)))))

  exit_ends_inner : standing_after 4 one_then_two (scopes_left 0) ≡ 1 ∷ []
  unfolding standing_after
  exit_ends_inner = refl

  exit_ends_outer : standing_after 6 one_then_two (scopes_left 0) ≡ []
  unfolding standing_after
  exit_ends_outer = refl

  -- Break out of a loop in a scope ends what was made in its body alone: the loop is entered, its test is false, and its body is left.
  abbrev body_left : ℕ → Items
  body_left what = only (scoped (of_string 0) [] (only (loop (turns none 0 true none (only (scoped (of_string 1) [] (only (leave what))))))))

  break_ends_body : standing_after 7 one_then_two (body_left 1) ≡ 1 ∷ []
  unfolding standing_after
  break_ends_body = refl

  -- and behind the loop the outer scope ends
  behind_loop : standing_after 9 one_then_two (body_left 1) ≡ []
  unfolding standing_after
  behind_loop = refl

  -- Continue ends it too
  continue_ends_body : standing_after 7 one_then_two (body_left 2) ≡ 1 ∷ []
  unfolding standing_after
  continue_ends_body = refl

  -- Exit out of a protected part: the inner temporary ends before the finally part, the outer one behind it
  abbrev protected_left : Items
  protected_left = only (scoped (of_string 0) [] (only (protect 5 (only (scoped (of_string 1) [] (only (leave 0)))) (only (act (constant 7 (pos 1)))))))

  part_left : standing_after 5 one_then_two protected_left ≡ 1 ∷ []
  unfolding standing_after
  part_left = refl

  both_left : standing_after 11 one_then_two protected_left ≡ []
  unfolding standing_after
  both_left = refl
