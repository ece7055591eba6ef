-- Values with parts are copied from one place to another.
use Rattle.std.proofs.Common.{◌≡◌, ◌≤◌, ◌<◌, ◌⊎◌, inl, inr, ℕ, ◌+◌, List, [], ◌∷◌, ◌++◌, Option, Some, None, refl, sym, ap, ap₂, ◌∙◌, subst, arith, append_assoc, ◌*◌}
use Rattle.std.specs.Prelude.{◌^◌, ◌&&◌, map, Bool, false, if◌then◌else◌}
use Rattle.std.proofs.lemmas.Bool.{and_parts, cases_lt}
use Rattle.op_compute.proofs.Registers.{put_lower}
use Rattle.op_compute.specs.Bank.{error_block_of, scratch_of}
use Rattle.op_compute.specs.Meaning.{IsWordOf}
use Rattle.op_compute.specs.Straight.{at, fewest_steps, put}
use Rattle.op_compute.specs.declared.bank.RuntimeError.TheVariants.{RangeCheck}
use Rattle.op_constants.specs.Arranged.{IsSmall}
use Rattle.op_constants.specs.Offsets.{size_in}
use Rattle.op_core.specs.declared.ids.TypeId.{TypeId}
use Rattle.op_places.specs.Moves.{by_words, bytes_code, is_short, limit_of, near}
use Rattle.op_places.specs.Places.{place_code, place_of}
use Rattle.op_places.specs.declared.frame.Frame.{Frame}
use Rattle.op_places.specs.declared.spot.Spot.{Spot}
use Rattle.op_low.specs.State.{State, block_of}
use Rattle.op_low.specs.declared.ids.VirtualRegister.{VirtualRegister}
use Rattle.op_low.specs.declared.instruction.Instruction.{Instruction as LowInstruction}
use Rattle.op_meaning.specs.Actions.{perform}
use Rattle.op_meaning.specs.Paths.{at_place, place_of as place_meant}
use Rattle.op_meaning.specs.Shapes.{composite, shape_of}
use Rattle.op_meaning.specs.Values.{Place, number_in, Reached as Met, reached as met, failing}
use Rattle.op_meaning.specs.World.{value_at, with_value}
use Rattle.op_mir.proofs.PlainLemmas.{plain_perform}
use Rattle.op_mir.specs.Machine.{MirState, execute, mir_step, mir_cost}
use Rattle.op_mir.specs.Plain.{IsPlainWorld}
use Rattle.op_mir.specs.Valid.{action_fits, copy_fits, has_type, path_fits}
use Rattle.op_mir.specs.View.{view_action, view_path, view_step}
use Rattle.op_mir.specs.declared.action.Action.TheVariants.{Copy}
use Rattle.op_mir.specs.declared.ids.BlockId.{BlockId}
use Rattle.op_mir.specs.declared.instruction.Instruction.TheVariants.{Act}
use Rattle.op_mir.specs.declared.instruction.Instruction.{Instruction}
use Rattle.op_mir.specs.declared.path.Path.{Path}
use Rattle.op_mir.specs.declared.path.Root.TheVariants.{Global, Local, Through, Temporary}
use Rattle.op_mir.specs.declared.path.Root.{Root}
use Rattle.op_mir.specs.declared.path.Step.{Step}
use Rattle.op_agreement.proofs.Branching.{begins_here, step_here}
use Rattle.op_agreement.proofs.Cases.{behind_act}
use Rattle.op_agreement.proofs.Computing.{rest_above, rest_below, rest_stands}
use Rattle.op_agreement.proofs.Copied.{all_whole, copyable, stays_copied, stays_nothing}
use Rattle.op_agreement.proofs.Copying.{having, none_goes, some_go, copy_most}
use Rattle.op_agreement.proofs.Elements.{KeptBelow}
use Rattle.op_agreement.proofs.Following.{Comes}
use Rattle.op_agreement.proofs.Going.{Goes, goes_then, goes_within}
use Rattle.op_agreement.proofs.Loading.{index_fails, indices_in, placed_part}
use Rattle.op_agreement.proofs.Paths.{Failed, PlaceTo, Reached, home_goes, place_goes, spot_fits, place_most}
use Rattle.op_agreement.proofs.Places.{HaveIndices, small_last}
use Rattle.op_agreement.proofs.Pricing.{afford}
use Rattle.op_agreement.proofs.Standing.{Next, SameVariables, Temporaries, here, stands_on}
use Rattle.op_agreement.proofs.Updating.{limit_here}
use Rattle.op_agreement.proofs.Primitives.{room_there}
use Rattle.op_agreement.specs.Chart.{Floor}
use Rattle.op_agreement.specs.Coding.{code_for}
use Rattle.op_agreement.specs.Fitting.{IsFitting}
use Rattle.op_agreement.specs.Settings.{IsPlaced, IsRooted, Setting, managed}
use Rattle.op_agreement.specs.Stands.{Stands, Stays}
use Rattle.op_agreement.specs.Steps.{most_for_one}
use Rattle.op_agreement.specs.Typed.{PathTo}

regroup : (a b c d : List LowInstruction) → (a ++ b ++ c) ++ d ≡ a ++ (b ++ (c ++ d))
regroup a b c d = simp append_assoc refl

-- what is copied by a run-time routine stands right where a register has its address
pub right_there : (words : Bool) (size offset : ℕ) → offset ≤ limit_of words size → is_short words size ≡ false → offset ≡ 0
right_there words size offset less long = let none : limit_of words size ≡ 0 = ap (λ b. if b then near else 0) long in omega arith

module _ (g : Setting) (fit : IsFitting g) (m : MirState) (l : State) (floors : ℕ → Floor) (is : List Instruction) where
  abbrev frame : Frame
  frame = (here m floors).frame

  -- a path to a value with parts begins with what has an address
  placed_parts : (i : Instruction) (next : Next g m l floors i is) (root : Root) (steps : List Step) (of : TypeId) → shape_of g.core of ≡ composite → PathTo g.core (here m floors).number (view_path (record { root = root; steps = steps })) of → IsRooted g.core (here m floors).number frame root → IsPlaced g.core (here m floors).number frame root
  placed_parts i next (Global v) steps of parts typed rooted = tt
  placed_parts i next (Through v) steps of parts typed rooted = tt
  placed_parts i next (Temporary to n) steps of parts typed rooted = rooted
  placed_parts i next (Local v) [] of parts typed rooted =
      let (variable, type) = typed.root in
      next.stays.activation.floor.fits.composites v variable (ap (shape_of g.core) (type ∙ typed.reaches) ∙ parts)
  placed_parts i next (Local v) (st ∷ ss) of parts typed rooted = placed_part g fit m l floors is i next v st ss of typed

  module _ (of : TypeId) (to from : Path) (landing : Option BlockId) (next : Next g m l floors (Act (Copy of to from) landing) is) where
    abbrev rest : List LowInstruction
    rest = rest_below g m l floors (Act (Copy of to from) landing) is next

    abbrev words : Bool
    words = by_words g.core of

    abbrev limit : ℕ
    limit = limit_of words (size_in g.core of)

    abbrev free : VirtualRegister
    free = scratch_of (here m floors).frame.bank 0

    abbrev source : Spot
    source = place_of g.core (here m floors).frame limit from.root from.steps free

    abbrev target : Spot
    target = place_of g.core (here m floors).frame limit to.root to.steps source.free

    abbrev source_code : List LowInstruction
    source_code = place_code g.core (here m floors).frame limit from.root from.steps free

    abbrev target_code : List LowInstruction
    target_code = place_code g.core (here m floors).frame limit to.root to.steps source.free

    abbrev copies : List LowInstruction
    copies = bytes_code words (size_in g.core of) source target

    abbrev parts : shape_of g.core of ≡ composite
    parts = next.fine.1.0

    abbrev to_typed : PathTo g.core (here m floors).number (view_path to) of
    to_typed = next.fine.1.1

    abbrev from_typed : PathTo g.core (here m floors).number (view_path from) of
    from_typed = next.fine.1.2

    small : IsSmall g.core of
    small = small_last g.core from_typed.from of (map view_step from.steps) from_typed.reaches from_typed.small

    -- ---- the step of managed code

    abbrev copied : Met Place → Met Place → MirState
    copied o p = record m { world = at_place g.core o (λ q. at_place g.core p (λ t. with_value t (value_at m.world q) m.world) m.world) m.world; work = rest_above g m l floors (Act (Copy of to from) landing) is next }

    -- as an equation, and that its world is plain
    copy_step : (o p : Met Place) → place_meant m.world (view_path from) ≡ o → place_meant m.world (view_path to) ≡ p → mir_step (managed g) m ≡ copied o p
    unfolding execute perform
    copy_step o p e f = step_here g fit m l floors (Act (Copy of to from) landing) is next ∙ ap₂ copied e f

    copy_plain : (o p : Met Place) → place_meant m.world (view_path from) ≡ o → place_meant m.world (view_path to) ≡ p → IsPlainWorld (copied o p).world
    unfolding perform
    copy_plain o p e f =
        let plain : IsPlainWorld (copied (place_meant m.world (view_path from)) (place_meant m.world (view_path to))).world = plain_perform g.core fit.program.exceptions (λ n. 0) (view_action g.core (here m floors).number (Copy of to from)) m.world tt next.stays.plain in
        subst (λ o. IsPlainWorld (copied o p).world) e (subst (λ p. IsPlainWorld (copied (place_meant m.world (view_path from)) p).world) f plain)

    -- ---- registers of the spots

    indices : HaveIndices (here m floors).routine to.steps × HaveIndices (here m floors).routine from.steps
    unfolding action_fits copy_fits
    indices =
        let (front, last) = and_parts (has_type g.mir of && path_fits g.mir (here m floors).routine to) (path_fits g.mir (here m floors).routine from) next.fine.0 in
        let (first, middle) = and_parts (has_type g.mir of) (path_fits g.mir (here m floors).routine to) front in
        (indices_in g.mir (here m floors).routine to middle, indices_in g.mir (here m floors).routine from last)

    to_placed : IsPlaced g.core (here m floors).number (here m floors).frame to.root
    to_placed = placed_parts (Act (Copy of to from) landing) next to.root to.steps of parts to_typed next.homes.0

    from_placed : IsPlaced g.core (here m floors).number (here m floors).frame from.root
    from_placed = placed_parts (Act (Copy of to from) landing) next from.root from.steps of parts from_typed next.homes.1

    source_fits : (source.base.0 < source.free.0) × (free.0 ≤ source.free.0) × (source.offset ≤ limit)
    source_fits =
        let home = home_goes g fit m l floors next.stays from.root from_typed.from free l.top.registers [] from_typed.root from_placed (omega arith) (λ r low. refl) in
        spot_fits g fit m l floors next.stays from of limit free l.top.registers [] from_typed from_placed indices.1 (omega arith) (λ r low. refl) home.base home.more

    target_fits : (target.base.0 < target.free.0) × (source.free.0 ≤ target.free.0) × (target.offset ≤ limit)
    target_fits =
        let (base, more, offset) = source_fits in
        let home = home_goes g fit m l floors next.stays to.root to_typed.from source.free l.top.registers [] to_typed.root to_placed (omega arith) (λ r low. refl) in
        spot_fits g fit m l floors next.stays to of limit source.free l.top.registers [] to_typed to_placed indices.0 (omega arith) (λ r low. refl) home.base home.more

    -- ---- both places are reached

    abbrev behind_source : List LowInstruction
    behind_source = target_code ++ (copies ++ rest)

    module _ (q p : Place) (e : place_meant m.world (view_path from) ≡ met q) (f : place_meant m.world (view_path to) ≡ met p) where
      -- the state to which the code comes stands for the one in which the value is copied
      behind_copies : (h memory : ℕ → ℕ) → Goes g 1 (place_most from + place_most to + copy_most (size_in g.core of)) l (having l h rest memory) → Stays g floors (copied (met q) (met p)) (having l h rest memory) → Comes g m l
      behind_copies h memory goes stays = record {
        to = having l h rest memory;
        goes = goes_within g 1 (most_for_one * mir_cost (managed g) m) l (having l h rest memory) goes (afford g fit m l floors (Act (Copy of to from) landing) is next (λ light. light) (place_most from + place_most to + copy_most (size_in g.core of)) (omega arith));
        stands = subst (λ x. Stands g x (having l h rest memory)) (sym (copy_step (met q) (met p) e f)) (stands_on g (copied (met q) (met p)) (having l h rest memory) next.ending next.frames (record {
          floors = floors;
          stays = stays;
          position = rest_stands g m l floors (Act (Copy of to from) landing) is next (behind_act next.on);
        }));
      }

      -- registers in front of the scratch registers are kept by all three parts of the code
      kept_all : (h k n : ℕ → ℕ) → KeptBelow free.0 l.top.registers h → KeptBelow source.free.0 h k → KeptBelow target.free.0 k n → KeptBelow free.0 l.top.registers n
      kept_all h k n first second third r low = let (base, more, offset) = source_fits in let (other, further, far) = target_fits in third r (omega arith) ∙ second r (omega arith) ∙ first r low

      temporaries_kept : (n : ℕ → ℕ) → KeptBelow free.0 l.top.registers n → Temporaries (here m floors) m.world.temps n
      temporaries_kept n kept t low =
          let scratch = next.stays.activation.floor.fits.scratch in
          subst (λ y. IsWordOf y (m.world.temps t)) (sym (kept ((here m floors).frame.bank.temporaries + t) (omega arith))) (next.stays.activation.kept.temporaries t low)

      variables_kept : (n : ℕ → ℕ) → KeptBelow free.0 l.top.registers n → SameVariables (here m floors) l.top.registers n
      variables_kept n kept r low = let scratch = next.stays.activation.floor.fits.scratch in kept r (omega arith)

      -- the bytes are copied, if there are any
      both_reached : (least : ℕ) (first : Reached g fit m l floors next.stays least (place_most from) l l.top.registers free source behind_source q of) (more : ℕ) (second : Reached g fit m l floors next.stays more (place_most to) (at l first.h behind_source) first.h source.free target (copies ++ rest) p of) → Comes g m l
      both_reached least first more second =
          by (cases_lt 0 (size_in g.core of))
        where
          before : Goes g 0 (place_most from + place_most to) l (at l second.h (copies ++ rest))
          before = goes_then g least more 0 l (at l first.h behind_source) (at l second.h (copies ++ rest)) (omega arith) first.goes second.goes

          low : l.limit ≤ 2 ^ 32
          low = let top = limit_here g fit floors m l next.stays in let end = fit.placed.top in omega arith

          a : ℕ
          a = first.h source.base.0 + source.offset

          b : ℕ
          b = second.h target.base.0 + target.offset

          by : (0 < size_in g.core of) ⊎ (size_in g.core of ≤ 0) → Comes g m l
          by (inr few) =
              let none : size_in g.core of ≡ 0 = omega arith in
              let h = put second.h target.free 0 in
              let kept = kept_all first.h second.h h first.kept second.kept (λ r under. put_lower second.h target.free 0 r under) in
              behind_copies h l.memory
              (goes_within g 1 (place_most from + place_most to + copy_most (size_in g.core of)) l (at l h rest)
              (goes_then g 0 1 1 l (at l second.h (copies ++ rest)) (at l h rest) (omega arith) before (none_goes g l low words (size_in g.core of) source target second.h rest none)) (omega arith))
              (stays_nothing g fit m l floors next.stays of small p b second.is none (value_at m.world q) (rest_above g m l floors (Act (Copy of to from) landing) is next) h rest (copy_plain (met q) (met p) e f) (variables_kept h kept) (temporaries_kept h kept))
          by (inl some) =
              let (source_base, source_more, source_near) = source_fits in
              let (target_base, target_more, target_near) = target_fits in
              let from_is : second.h source.base.0 + source.offset ≡ a = ap (λ x. x + source.offset) (second.kept source.base.0 source_base) in
              let size_word = small.size in
              let it = some_go g l low words (size_in g.core of) source target second.h rest a b some (omega arith) target_base from_is refl
              (copyable g fit m l floors next.stays of small q p a b first.is second.is some)
              (all_whole g fit m l floors next.stays of small q p a b first.is second.is some)
              fit.placed.runtime (room_there g fit m l floors next.stays l refl refl) (omega arith)
              (λ long. (right_there words (size_in g.core of) source.offset source_near long, right_there words (size_in g.core of) target.offset target_near long)) in
              let kept = kept_all first.h second.h it.h first.kept second.kept it.kept in
              behind_copies it.h it.memory
              (goes_then g 0 1 1 l (at l second.h (copies ++ rest)) (having l it.h rest it.memory) (omega arith) before it.goes)
              (stays_copied g fit m l floors next.stays of small q p a b first.is second.is some it.memory it.copied (rest_above g m l floors (Act (Copy of to from) landing) is next) it.h rest (copy_plain (met q) (met p) e f) (variables_kept it.h kept) (temporaries_kept it.h kept))

    -- ---- one after the other

    -- the target, behind the source
    target_by : (q : Place) → place_meant m.world (view_path from) ≡ met q → (least : ℕ) → (first : Reached g fit m l floors next.stays least (place_most from) l l.top.registers free source behind_source q of) → (p : Met Place) → place_meant m.world (view_path to) ≡ p → (more : ℕ) → PlaceTo g fit m l floors next.stays more (place_most to) (at l first.h behind_source) first.h source.free target (copies ++ rest) of p → Comes g m l
    target_by q e least first (failing error) f more fails =
        let all : Failed g fit m l floors next.stays 0 (place_most from + place_most to) l error = record { is = fails.is; h = fails.h; goes = goes_then g least more 0 l (at l first.h behind_source) (at l fails.h (block_of g.low l.top.routine (error_block_of (here m floors).frame.bank RangeCheck).0)) (omega arith) first.goes fails.goes } in
        index_fails g fit m l floors is (Act (Copy of to from) landing) next 0 (place_most from + place_most to) l error refl all (afford g fit m l floors (Act (Copy of to from) landing) is next (λ light. light) (place_most from + place_most to + 5) (omega arith)) (copy_step (met q) (failing error) e f)
    target_by q e least first (met p) f more second = both_reached q p e f least first more second

    -- the source
    source_by : (o : Met Place) → place_meant m.world (view_path from) ≡ o → (least : ℕ) → PlaceTo g fit m l floors next.stays least (place_most from) l l.top.registers free source behind_source of o → Comes g m l
    source_by (failing error) e least fails = index_fails g fit m l floors is (Act (Copy of to from) landing) next least (place_most from) l error refl fails (afford g fit m l floors (Act (Copy of to from) landing) is next (λ light. light) (place_most from + 5) (omega arith)) (copy_step (failing error) (place_meant m.world (view_path to)) e refl)
    source_by (met q) e least first =
        let (base, more, offset) = source_fits in
        target_by q e least first (place_meant m.world (view_path to)) refl (fewest_steps target_code)
        (place_goes g fit m l floors next.stays to of limit source.free first.h (copies ++ rest) to_typed to_placed indices.0 (omega arith) (λ r low. first.kept r (omega arith)))

    -- a copy
    pub copy_comes : Comes g m l
    unfolding code_for
    copy_comes =
        let begins : l ≡ at l l.top.registers (source_code ++ behind_source) = begins_here g fit m l floors (Act (Copy of to from) landing) is next (source_code ++ target_code ++ copies) refl ∙ ap (at l l.top.registers) (regroup source_code target_code copies rest) in
        source_by (place_meant m.world (view_path from)) refl (fewest_steps source_code)
        (subst (λ x. PlaceTo g fit m l floors next.stays (fewest_steps source_code) (place_most from) x l.top.registers free source behind_source of (place_meant m.world (view_path from))) (sym begins)
        (place_goes g fit m l floors next.stays from of limit free l.top.registers behind_source from_typed from_placed indices.1 (omega arith) (λ r low. refl)))
