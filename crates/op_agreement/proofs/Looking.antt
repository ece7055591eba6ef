-- Looks: a place is found, and nothing is done there.
use Rattle.std.proofs.Common.{◌≡◌, ℕ, List, [], ◌∷◌, ◌++◌, Option, Some, None, refl, sym, ap, ◌∙◌, subst, arith, append_assoc, ◌≤◌, ◌*◌, ◌+◌}
use Rattle.op_agreement.proofs.Branching.{begins_here, step_here}
use Rattle.op_agreement.proofs.Cases.{behind_act}
use Rattle.op_agreement.proofs.Computing.{nothing_stands, rest_above, rest_below}
use Rattle.op_agreement.proofs.Going.{goes_from, goes_one, goes_then, goes_within}
use Rattle.op_agreement.proofs.Loading.{index_fails, indices_in, placed_part}
use Rattle.op_agreement.proofs.Paths.{PlaceTo, place_goes, place_most}
use Rattle.op_agreement.proofs.Pricing.{afford}
use Rattle.op_agreement.proofs.Standing.{Next, here}
use Rattle.op_agreement.proofs.Storing.{look_empty}
use Rattle.op_agreement.specs.Chart.{Floor}
use Rattle.op_agreement.specs.Coding.{code_for}
use Rattle.op_agreement.specs.Fitting.{IsFitting}
use Rattle.op_agreement.specs.Settings.{HomeFits, IsPlaced, Setting, managed}
use Rattle.op_agreement.specs.Stands.{Stands}
use Rattle.op_agreement.specs.Steps.{Comes, most_for_one}
use Rattle.op_compute.proofs.Registers.{put_lower}
use Rattle.op_compute.specs.Bank.{scratch_of}
use Rattle.op_compute.specs.Straight.{at, fewest_steps, put}
use Rattle.op_places.specs.Homes.{home_at}
use Rattle.op_places.specs.Moves.{near}
use Rattle.op_places.specs.Places.{home_code, home_spot, place_code, place_of, reach_code}
use Rattle.op_places.specs.declared.frame.Frame.{Frame}
use Rattle.op_places.specs.declared.homes.Home.{Home}
use Rattle.op_places.specs.declared.homes.Home.TheVariants.{Held, Stored, Shared}
use Rattle.op_low.specs.Machine.{act}
use Rattle.op_low.specs.State.{State}
use Rattle.op_low.specs.declared.ids.VirtualRegister.{VirtualRegister}
use Rattle.op_low.specs.declared.instruction.Instruction.{Instruction as LowInstruction}
use Rattle.op_low.specs.declared.instruction.Instruction.TheVariants.{Const}
use Rattle.op_meaning.specs.Actions.{perform}
use Rattle.op_meaning.specs.Paths.{at_place, place_of as place_meant}
use Rattle.op_meaning.specs.Values.{Place, all_of, local, Reached as Met, reached as met, failing}
use Rattle.op_mir.specs.Machine.{MirState, execute, mir_step, mir_cost}
use Rattle.op_mir.specs.Valid.{action_fits}
use Rattle.op_mir.specs.View.{view_path}
use Rattle.op_mir.specs.declared.action.Action.TheVariants.{Look}
use Rattle.op_mir.specs.declared.ids.BlockId.{BlockId}
use Rattle.op_mir.specs.declared.ids.LocalId.{LocalId}
use Rattle.op_mir.specs.declared.instruction.Instruction.{Instruction}
use Rattle.op_mir.specs.declared.instruction.Instruction.TheVariants.{Act}
use Rattle.op_mir.specs.declared.path.Path.{Path}
use Rattle.op_mir.specs.declared.path.Root.{Root}
use Rattle.op_mir.specs.declared.path.Root.TheVariants.{Global, Local, Through, Temporary}
use Rattle.op_mir.specs.declared.path.Step.{Step}

module _ (g : Setting) (fit : IsFitting g) (m : MirState) (l : State) (floors : ℕ → Floor) (is : List Instruction) where
  abbrev frame : Frame
  frame = (here m floors).frame

  abbrev free : VirtualRegister
  free = scratch_of (here m floors).frame.bank 0

  abbrev code_at : Path → List LowInstruction
  code_at path = place_code g.core (here m floors).frame near path.root path.steps (scratch_of (here m floors).frame.bank 0)

  module _ (path : Path) (landing : Option BlockId) (next : Next g m l floors (Act (Look path) landing) is) where
    abbrev rest_low : List LowInstruction
    rest_low = rest_below g m l floors (Act (Look path) landing) is next

    abbrev looked : Met Place → MirState
    looked o = record m { world = at_place g.core o (λ p. m.world) m.world; work = rest_above g m l floors (Act (Look path) landing) is next }

    look_step : (o : Met Place) → place_meant m.world (view_path path) ≡ o → mir_step (managed g) m ≡ looked o
    unfolding execute perform
    look_step o e = step_here g fit m l floors (Act (Look path) landing) is next ∙ ap looked e

    look_code : (o : Met Place) → place_meant m.world (view_path path) ≡ o → l ≡ at l l.top.registers (code_at path ++ (Const free 0 ∷ rest_low)) → PlaceTo g fit m l floors next.stays (fewest_steps (code_at path)) (place_most path) (at l l.top.registers (code_at path ++ (Const free 0 ∷ rest_low))) l.top.registers free (place_of g.core frame near path.root path.steps free) (Const free 0 ∷ rest_low) next.fine.1.0 o → Comes g m l
    unfolding act put
    look_code (failing error) e begins fails = index_fails g fit m l floors is (Act (Look path) landing) next (fewest_steps (code_at path)) (place_most path) (at l l.top.registers (code_at path ++ (Const free 0 ∷ rest_low))) error begins fails (afford g fit m l floors (Act (Look path) landing) is next (λ light. light) (place_most path + 5) (omega arith)) (look_step (failing error) e)
    look_code (met q) e begins reached =
        let h = put reached.h free 0 in
        record {
          to = at l h rest_low;
          goes = goes_within g 1 (most_for_one * mir_cost (managed g) m) l (at l h rest_low)
              (goes_from g 1 l (at l l.top.registers (code_at path ++ (Const free 0 ∷ rest_low))) (at l h rest_low) begins
              (goes_then g (fewest_steps (code_at path)) 1 1 (at l l.top.registers (code_at path ++ (Const free 0 ∷ rest_low))) (at l reached.h (Const free 0 ∷ rest_low)) (at l h rest_low) (omega arith) reached.goes (goes_one g l reached.h (Const free 0) rest_low refl)))
              (afford g fit m l floors (Act (Look path) landing) is next (λ light. light) (place_most path + 1) (omega arith));
          stands = subst (λ k. Stands g k (at l h rest_low)) (sym (look_step (met q) e)) (nothing_stands g m l floors (Act (Look path) landing) is next h (behind_act next.on) (λ r low. put_lower reached.h free 0 r low ∙ reached.kept r low));
        }

    look_placed : IsPlaced g.core (here m floors).number frame path.root → Comes g m l
    unfolding code_for action_fits
    look_placed placed =
        let indices = indices_in g.mir (here m floors).routine path next.fine.0 in
        let begins : l ≡ at l l.top.registers (code_at path ++ (Const free 0 ∷ rest_low)) = begins_here g fit m l floors (Act (Look path) landing) is next (code_at path ++ Const free 0 ∷ []) refl ∙ ap (at l l.top.registers) (append_assoc (code_at path) (Const free 0 ∷ []) rest_low) in
        look_code (place_meant m.world (view_path path)) refl begins
        (place_goes g fit m l floors next.stays path next.fine.1.0 near free l.top.registers (Const free 0 ∷ rest_low) next.fine.1.1 placed indices (omega arith) (λ r low. refl))

  look_local : (v : LocalId) (landing : Option BlockId) (next : Next g m l floors (Act (Look (record { root = Local v; steps = [] })) landing) is) (home : Home) → home_at frame.homes v ≡ home → HomeFits frame home → Comes g m l
  unfolding code_for
  look_local v landing next (Held r) e fits =
      look_empty g fit m l floors is (record { root = Local v; steps = [] }) landing next
      (ap (λ h. (home_code frame free h ++ [] ++ reach_code near (home_spot free h)) ++ Const free 0 ∷ []) e)
      (all_of (local m.world.depth v.0)) refl
  look_local v landing next (Stored offset) e fits = look_placed (record { root = Local v; steps = [] }) landing next (offset, e)
  look_local v landing next (Shared s) e fits = absurd fits

  look_at : (root : Root) (steps : List Step) (landing : Option BlockId) → Next g m l floors (Act (Look (record { root = root; steps = steps })) landing) is → Comes g m l
  look_at (Global v) steps landing next = look_placed (record { root = Global v; steps = steps }) landing next tt
  look_at (Through v) steps landing next = look_placed (record { root = Through v; steps = steps }) landing next tt
  look_at (Temporary of n) steps landing next = look_placed (record { root = Temporary of n; steps = steps }) landing next next.homes
  look_at (Local v) [] landing next = look_local v landing next (home_at frame.homes v) refl (next.stays.activation.floor.fits.homes v next.fine.1.1.root.0.0)
  look_at (Local v) (st ∷ ss) landing next = look_placed (record { root = Local v; steps = st ∷ ss }) landing next (placed_part g fit m l floors is (Act (Look (record { root = Local v; steps = st ∷ ss })) landing) next v st ss next.fine.1.0 next.fine.1.1)

  pub look_comes : (path : Path) (landing : Option BlockId) → Next g m l floors (Act (Look path) landing) is → Comes g m l
  look_comes path landing next = look_at path.root path.steps landing next
