-- What managed code does on frames, run by computation: what the source machine does there. No instruction makes such a frame yet, so the
-- states in which a program closes are written out.
use Rattle.std.specs.Prelude.{◌≡◌, ℕ, zero, suc, pos, true, List, [], ◌∷◌, Some, codes, nat_eq, if◌then◌else◌}
use Rattle.std.specs.Int.{int_wrap}
use Rattle.std.proofs.Common.{refl}
use Rattle.op_meaning.specs.Spots.{spots_from}
use Rattle.op_simulation.specs.System.{run}
use Rattle.op_core.specs.Types.{id}
use Rattle.op_meaning.proofs.Programs.{own, core_of, runs}
use Rattle.op_meaning.proofs.RunsWhole.{raising}
use Rattle.op_meaning.specs.Actions.{perform}
use Rattle.op_meaning.specs.Demands.{is_standing}
use Rattle.op_meaning.specs.Frames.{Program, closing, empty_global}
use Rattle.op_meaning.specs.Holding.{each, any_below}
use Rattle.op_meaning.specs.Sets.{bits_below}
use Rattle.op_meaning.specs.Texts.{decimal_by}
use Rattle.op_meaning.specs.Values.{Value, number, parts, text, array, instance, named, empty, Holder, global, object}
use Rattle.op_meaning.specs.World.{Object, gone, chars, elements, fields, Live, Ending, Ended}
use Rattle.op_tree.specs.declared.position.Name.{Name}
use Rattle.op_mir.specs.Machine.{MirState, code_of, execute, mir_done, mir_acted, mir_stepped, mir_step_by, mir_step, mir_machine, mir_start}

-- the names that stand, what was written, and how it ended
pub record Left : Type 0 where
  pub names : List ℕ
  pub output : List ℕ
  pub ending : Ending

abbrev pub left_of : MirState → Left
left_of t = record { names = each t.world.next (λ n. if is_standing (t.world.objects n) then n ∷ [] else []); output = t.world.output; ending = t.world.ending }

unfoldable pub left_after : ℕ → Program → MirState → Left
unfolding run mir_step mir_step_by mir_stepped mir_acted mir_done execute perform bits_below decimal_by int_wrap each any_below spots_from
left_after n p m = left_of (run (mir_machine (code_of p)) n m)

-- the program closes, and its first global is to be emptied
abbrev closes_with : Program → (Holder → Value) → (ℕ → Object) → ℕ → MirState
closes_with p memory objects next = let m = mir_start p [] in record m {
  world = record m.world { memory = memory; objects = objects; next = next };
  work = [];
  frames = closing 0 ∷ [];
  pending = empty_global (record { 0 = 0 }) ∷ [];
}

module _ (name : Name) where
  -- ---- walks

  -- Global 0 is the array 3 of the strings 1 and 2, and global 1 the string 2.
  abbrev held_program : Program
  held_program = runs name (core_of name [] [] 2 (own name 4 ∷ own name 4 ∷ []) []) ([] ∷ [])

  abbrev held_memory : Holder → Value
  held_memory (global zero) = array (Some 3)
  held_memory (global (suc v)) = text (named 2)
  held_memory (object n) = parts 2 (λ k. text (named (suc k)))
  held_memory h = number (pos 0)

  abbrev held_objects : ℕ → Object
  held_objects (suc zero) = chars (codes "a")
  held_objects (suc (suc zero)) = chars (codes "b")
  held_objects (suc (suc (suc zero))) = elements (id 7) 2
  held_objects _ = gone

  -- its elements end in order: the string 1 is gone, 2 is held by the other global, and then the array is gone and the program has ended
  array_ends : left_after 6 held_program (closes_with held_program held_memory held_objects 4) ≡ record { names = 2 ∷ []; output = []; ending = Ended 0 }
  unfolding left_after
  array_ends = refl

  -- ---- destructions

  -- Global 0 is an interface with the instance 1 of a class whose destructor writes d.
  abbrev class_program : Program
  class_program = raising name [] []

  abbrev instance_memory : Holder → Value
  instance_memory (global v) = instance true (Some 1)
  instance_memory (object n) = parts 1 (λ k. text empty)
  instance_memory h = number (pos 0)

  -- the destructor is called as any routine is, and then the instance is dead
  instance_ends : left_after 12 class_program (closes_with class_program instance_memory (λ n. if nat_eq n 1 then fields (record { 0 = 2 }) Live else gone) 2)
      ≡ record { names = []; output = codes "d"; ending = Ended 0 }
  unfolding left_after
  instance_ends = refl
