-- Where the result of a call goes: the code of its receiver comes to a register with the address, if it has one.
use Rattle.std.proofs.Common.{◌≡◌, ℕ, ◌+◌, List, [], ◌∷◌, ◌++◌, length, Option, Some, None, refl, sym, ap, ap₂, subst, arith, ◌*◌, ◌≤◌}
use Rattle.std.specs.Prelude.{map, true}
use Rattle.std.proofs.lemmas.Bool.{and_parts}
use Rattle.op_compute.specs.Bank.{scratch_of}
use Rattle.op_compute.specs.Straight.{at, fewest_steps}
use Rattle.op_constants.specs.Arranged.{IsSmall}
use Rattle.op_core.specs.declared.ids.TypeId.{TypeId}
use Rattle.op_core.specs.declared.program.Core.{Core}
use Rattle.op_expand.specs.Calls.{receiver_code, receiver_spot, left}
use Rattle.op_places.specs.Homes.{offset_of}
use Rattle.op_places.specs.Places.{at_register, at_scratch, place_code, place_of}
use Rattle.op_places.specs.declared.frame.Frame.{Frame}
use Rattle.op_places.specs.declared.spot.Spot.{Spot}
use Rattle.op_low.specs.State.{Caller, State}
use Rattle.op_low.specs.declared.ids.VirtualRegister.{VirtualRegister}
use Rattle.op_low.specs.declared.instruction.Instruction.{Instruction as LowInstruction}
use Rattle.op_meaning.specs.Costs.{indices}
use Rattle.op_meaning.specs.Items.{to_place}
use Rattle.op_meaning.specs.Paths.{Path as MeantPath, in_temporary, place_of as place_meant}
use Rattle.op_meaning.specs.Values.{all_of, temporary}
use Rattle.op_mir.specs.Machine.{MirState}
use Rattle.op_mir.specs.Valid.{copied_fits, has_type, path_fits, receiver_fits}
use Rattle.op_mir.specs.View.{view_path, view_receiver, view_root, view_step}
use Rattle.op_mir.specs.declared.instruction.Receiver.TheVariants.{Nowhere, Temporary as ToTemporary, Place as ToPlace}
use Rattle.op_mir.specs.declared.instruction.Receiver.{Receiver as DeclaredReceiver}
use Rattle.op_mir.specs.declared.path.Path.{Path}
use Rattle.op_mir.specs.declared.path.Root.TheVariants.{Global, Local, Through, Temporary}
use Rattle.op_mir.specs.declared.path.Root.{Root}
use Rattle.op_mir.specs.declared.path.Step.{Step}
use Rattle.op_agreement.proofs.Branching.{has_of}
use Rattle.op_agreement.proofs.Elements.{KeptBelow}
use Rattle.op_agreement.proofs.Spots.{SpotFits, fits_register, fits_scratch}
use Rattle.op_agreement.proofs.Going.{Goes, goes_fewer, goes_none, goes_within}
use Rattle.op_agreement.proofs.Loading.{indices_in}
use Rattle.op_agreement.proofs.Paths.{PlaceTo, Reached, place_goes, place_most}
use Rattle.op_agreement.proofs.Standing.{here}
use Rattle.op_agreement.specs.Chart.{Floor, IsAt}
use Rattle.op_agreement.specs.Fitting.{IsFitting}
use Rattle.op_agreement.specs.Settings.{HasReceiver, IsPlaced, IsRooted, Setting}
use Rattle.op_agreement.specs.Stands.{ResultGoes, Stays}
use Rattle.op_agreement.specs.Typed.{IsTypedReceiver, PathTo}

abbrev temporary_path : TypeId → ℕ → MeantPath
temporary_path of n = record { root = in_temporary of n; steps = [] }

-- a result with parts goes to a whole temporary
typed_place : (core : Core) (of : TypeId) (path : MeantPath) (result : Option TypeId) → IsTypedReceiver core (to_place of path) result → (n : ℕ) × (path ≡ temporary_path of n)
typed_place core of path None typed = absurd typed
typed_place core of path (Some type) (n, same, one, shape) = (n, same)

-- a path is viewed as one that begins with a temporary only where it does
root_is : (root : Root) (of : TypeId) (n : ℕ) → view_root root ≡ in_temporary of n → root ≡ Temporary of n
root_is (Global v) of n e = absurd cc
root_is (Local v) of n e = absurd cc
root_is (Through v) of n e = absurd cc
root_is (Temporary to k) of n e = cc

-- and as one without steps only where it has none
no_steps : (ss : List Step) → map view_step ss ≡ [] → ss ≡ []
no_steps [] e = refl
no_steps (st ∷ ss) e = absurd cc

module _ (g : Setting) (fit : IsFitting g) (m : MirState) (l : State) (floors : ℕ → Floor) (s : Stays g floors m l) where
  abbrev frame : Frame
  frame = (here m floors).frame

  -- behind the register of the bytes that are left
  abbrev pub start : VirtualRegister
  start = scratch_of (here m floors).frame.bank 1

  -- the register of the spot has the address where the result goes, if it has one
  pub record ResultGiven (from : State) (spot : Spot) (code : List LowInstruction) (receiver : DeclaredReceiver) : Type 0 where
    pub h : ℕ → ℕ
    pub goes : Goes g 0 3 from (at l h code)
    pub kept : KeptBelow (here m floors).frame.bank.scratch l.top.registers h
    pub fits : SpotFits (here m floors).frame.bank.scratch start spot
    pub receives : (c : Caller) → ResultGoes g floors (length m.callers) receiver (view_receiver receiver) c (h spot.base.0)

  -- what has no address is passed the bytes that are left
  left_fits : SpotFits (here m floors).frame.bank.scratch start (at_register left start)
  left_fits =
      let fits = s.activation.floor.fits in
      let behind = fits.behind in
      let scratch = fits.scratch in
      fits_register (here m floors).frame.bank.scratch left start (omega arith) (omega arith)

  -- the address of a temporary with parts
  address_given : (of : TypeId) (to : Path) (n : ℕ) (code : List LowInstruction) → view_path to ≡ temporary_path of n → path_fits g.mir (here m floors).routine to ≡ true → IsRooted g.core (here m floors).number (here m floors).frame to.root → ResultGiven (at l l.top.registers (place_code g.core (here m floors).frame 0 to.root to.steps start ++ code)) (place_of g.core (here m floors).frame 0 to.root to.steps start) code (ToPlace of to)
  address_given of to n code same fits rooted =
      let d = length m.callers in
      let root : to.root ≡ Temporary of n = root_is to.root of n (ap (λ (p : MeantPath). p.root) same) in
      let steps : to.steps ≡ [] = no_steps to.steps (ap (λ (p : MeantPath). p.steps) same) in
      let rooted_there : IsRooted g.core (here m floors).number (here m floors).frame (Temporary of n) = subst (IsRooted g.core (here m floors).number (here m floors).frame) root rooted in
      let placed : IsPlaced g.core (here m floors).number (here m floors).frame to.root = subst (IsPlaced g.core (here m floors).number (here m floors).frame) (sym root) rooted_there in
      let small : IsSmall g.core of = s.activation.floor.fits.types (Temporary of n) (offset_of g.core (Temporary of n) frame.temporaries frame.roots) (rooted_there, refl) in
      let typed : PathTo g.core (here m floors).number (view_path to) of = subst (λ p. PathTo g.core (here m floors).number p of) (sym same) (record { from = of; root = refl; reaches = refl; words = tt; small = small }) in
      let path_code = place_code g.core (here m floors).frame 0 to.root to.steps start in
      let spot = place_of g.core (here m floors).frame 0 to.root to.steps start in
      let few : place_most to ≤ 3 = let none : place_most to ≡ 3 = ap (λ (p : MeantPath). 3 + 2 * indices p) same in omega arith in
      let spot_is : spot ≡ at_scratch start = ap₂ (λ r ss. place_of g.core (here m floors).frame 0 r ss start) root steps in
      let from = at l l.top.registers (path_code ++ code) in
      let reached : Reached g fit m l floors s (fewest_steps path_code) (place_most to) from l.top.registers start spot code (all_of (temporary m.world.depth of n)) of =
      subst (λ p. PlaceTo g fit m l floors s (fewest_steps path_code) (place_most to) from l.top.registers start spot code of (place_meant m.world p)) same
      (place_goes g fit m l floors s to of 0 start l.top.registers code typed placed (indices_in g.mir (here m floors).routine to fits) (omega arith) (λ r low. refl)) in
      let none : spot.offset ≡ 0 = ap (λ (x : Spot). x.offset) spot_is in
      let low = reached.low in
      let there : IsAt g floors d (all_of (temporary m.world.depth of n)) of (reached.h spot.base.0) = let e : reached.h spot.base.0 + spot.offset ≡ reached.h spot.base.0 = omega arith in subst (IsAt g floors d (all_of (temporary m.world.depth of n)) of) e reached.is in
      record {
        h = reached.h;
        goes = goes_within g 0 3 from (at l reached.h code) (goes_fewer g (fewest_steps path_code) 0 from (at l reached.h code) (omega arith) reached.goes) few;
        kept = λ r below. reached.kept r (omega arith);
        fits = subst (SpotFits (here m floors).frame.bank.scratch start) (sym spot_is) (fits_scratch (here m floors).frame.bank.scratch start);
        receives = λ c. (n, same, subst (λ e. IsAt g floors d (all_of (temporary e of n)) of (reached.h spot.base.0)) s.depth there, omega arith);
      }

  -- of each receiver
  pub result_given : (receiver : DeclaredReceiver) (result : Option TypeId) (code : List LowInstruction) → receiver_fits g.mir (here m floors).routine receiver ≡ true → IsTypedReceiver g.core (view_receiver receiver) result → HasReceiver g.core (here m floors).number (here m floors).frame receiver → ResultGiven (at l l.top.registers (receiver_code g.core (here m floors).frame receiver start ++ code)) (receiver_spot g.core (here m floors).frame receiver start) code receiver
  unfolding receiver_fits copied_fits
  result_given Nowhere result code fits typed homes = record { h = l.top.registers; goes = goes_within g 0 3 (at l l.top.registers code) (at l l.top.registers code) (goes_none g (at l l.top.registers code)) (omega arith); kept = λ r low. refl; fits = left_fits; receives = λ c. tt }
  result_given (ToTemporary t) result code fits typed homes = record { h = l.top.registers; goes = goes_within g 0 3 (at l l.top.registers code) (at l l.top.registers code) (goes_none g (at l l.top.registers code)) (omega arith); kept = λ r low. refl; fits = left_fits; receives = λ c. has_of (here m floors).routine t fits }
  result_given (ToPlace of to) result code fits typed homes =
      let (n, same) = typed_place g.core of (view_path to) result typed in
      address_given of to n code same (and_parts (has_type g.mir of) (path_fits g.mir (here m floors).routine to) fits).1 homes
