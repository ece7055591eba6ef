-- The code of a path comes to the place where it leads, or to error 201.
use Rattle.std.proofs.Common.{◌≡◌, ◌≢◌, ◌≤◌, ◌<◌, ◌⊎◌, inl, inr, ℕ, ◌+◌, ◌*◌, List, [], ◌∷◌, ◌++◌, Some, None, refl, sym, ap, ◌∙◌, subst, arith, append_assoc, append-nil}
use Rattle.std.specs.Prelude.{◌^◌, ◌%◌, map, pos, Bool, true, false, nat_le, ◌-ℤ◌, nat_abs, if◌then◌else◌}
use Rattle.std.proofs.lemmas.Bool.{and_parts, ltb-true}
use Rattle.std.specs.List.{list_all}
use Rattle.std.proofs.lemmas.Bool.Decides.{nat_tests}
use Rattle.op_compute.proofs.RangeLemmas.{sum_then}
use Rattle.op_compute.proofs.Registers.{kept_scratch}
use Rattle.op_compute.specs.Bank.{error_block_of, register_of}
use Rattle.op_compute.specs.Meaning.{IsWordOf, IsApart}
use Rattle.op_compute.specs.Ranges.{sum_with}
use Rattle.op_compute.specs.Straight.{Away, Behind, Outcome, outcome}
use Rattle.op_compute.specs.declared.bank.Operands.{Operands}
use Rattle.op_compute.specs.declared.bank.RuntimeError.TheVariants.{RangeCheck}
use Rattle.op_compute.specs.declared.bank.Work.{Work}
use Rattle.op_constants.proofs.Lying.{leads_within}
use Rattle.op_constants.proofs.Reaching.{steps_lead}
use Rattle.op_constants.proofs.TypesArranged.{type_is_arranged}
use Rattle.op_constants.specs.Arranged.{IsSmall}
use Rattle.op_constants.specs.Lies.{arrangement_of}
use Rattle.op_constants.specs.Offsets.{element_size, field_offset, size_in}
use Rattle.op_constants.specs.Reaching.{Reaches, distance}
use Rattle.op_core.specs.Sizes.{type_at}
use Rattle.op_core.specs.declared.ids.TypeId.{TypeId}
use Rattle.op_places.specs.Places.{after, at_scratch, reach_code, reached, step_code, steps_code, steps_spot}
use Rattle.op_places.specs.declared.frame.Frame.{Frame}
use Rattle.op_places.specs.declared.spot.Spot.{Spot}
use Rattle.op_low.specs.State.{State}
use Rattle.op_low.specs.declared.instruction.Instruction.{Instruction}
use Rattle.op_meaning.specs.Paths.{Step as MeantStep, field, element, place_from}
use Rattle.op_meaning.specs.Shapes.{part_type}
use Rattle.op_meaning.specs.Values.{Place, part_at, failing, reached as met}
use Rattle.op_meaning.specs.World.{number_at}
use Rattle.op_mir.specs.Machine.{MirState}
use Rattle.op_mir.specs.Valid.{has, step_fits}
use Rattle.op_mir.specs.View.{view_step}
use Rattle.op_mir.specs.declared.code.Mir.{Mir}
use Rattle.op_mir.specs.declared.code.Routine.{Routine}
use Rattle.op_mir.specs.declared.path.Step.TheVariants.{Field, Element}
use Rattle.op_mir.specs.declared.path.Step.{Step}
use Rattle.op_agreement.proofs.Elements.{KeptBelow, element_then}
use Rattle.op_agreement.proofs.Standing.{here}
use Rattle.op_agreement.specs.Chart.{Floor}
use Rattle.op_agreement.specs.Fitting.{IsFitting}
use Rattle.op_agreement.specs.Settings.{Setting}
use Rattle.op_agreement.specs.Stands.{Stays}
use Rattle.op_agreement.specs.Typed.{AreSmall, HaveWords}

-- ---- what is known of steps

-- the temporaries of indices are there
abbrev pub HaveIndices : Routine → List Step → Type 0
HaveIndices x [] = Unit {0}
HaveIndices x (Field of n ∷ ss) = HaveIndices x ss
HaveIndices x (Element of low high t ∷ ss) = (t.0 < x.temporaries) × HaveIndices x ss

pub indices_of : (mir : Mir) (x : Routine) (ss : List Step) → list_all (step_fits mir x) ss ≡ true → HaveIndices x ss
unfolding step_fits
indices_of mir x [] is = tt
indices_of mir x (Field of n ∷ ss) is = indices_of mir x ss (and_parts _ _ is).1
indices_of mir x (Element of low high t ∷ ss) is =
    let (first, others) = and_parts _ (list_all (step_fits mir x) ss) is in
    (ltb-true t.0 x.temporaries (and_parts _ (has x t) first).1, indices_of mir x ss others)

pub small_first : (core : _) (of : TypeId) (steps : List MeantStep) → AreSmall core of steps → IsSmall core of
small_first core of [] small = small
small_first core of (field whole k ∷ steps) small = small.0
small_first core of (element whole low high t ∷ steps) small = small.0

pub small_last : (core : _) (of last : TypeId) (steps : List MeantStep) → Reaches core of steps last → AreSmall core of steps → IsSmall core last
small_last core of last [] reaches small = subst (IsSmall core) reaches small
small_last core of last (field whole k ∷ steps) (same, run, is, few, reaches) small = small_last core (part_type core (type_at core of) k) last steps reaches small.1
small_last core of last (element whole low high t ∷ steps) (same, index, each, is, range, reaches) small =
    small_last core each last steps reaches (subst (λ o. AreSmall core (part_type core o 0) steps) is small.1)

-- ---- spots

-- the first free register stands behind the one with the address
pub spot_behind : (core : _) (ss : List Step) (spot : Spot) → spot.base.0 < spot.free.0 → ((steps_spot core ss spot).base.0 < (steps_spot core ss spot).free.0) × (spot.free.0 ≤ (steps_spot core ss spot).free.0)
spot_behind core [] spot base = (base, omega arith)
spot_behind core (Field of n ∷ ss) spot base = spot_behind core ss (record spot { offset = spot.offset + field_offset core of n }) base
spot_behind core (Element of low high t ∷ ss) spot base =
    let (below, more) = spot_behind core ss (record spot { base = spot.free; free = after spot.free }) (omega arith) in
    (below, omega arith)

pub reached_behind : (limit : ℕ) (spot : Spot) → spot.base.0 < spot.free.0 → ((reached limit spot).base.0 < (reached limit spot).free.0) × (spot.free.0 ≤ (reached limit spot).free.0) × ((reached limit spot).offset ≤ limit)
reached_behind limit spot base = by (nat_le spot.offset limit) refl
  where
    by : (b : Bool) → nat_le spot.offset limit ≡ b → ((if b then spot else at_scratch spot.free).base.0 < (if b then spot else at_scratch spot.free).free.0) × (spot.free.0 ≤ (if b then spot else at_scratch spot.free).free.0) × ((if b then spot else at_scratch spot.free).offset ≤ limit)
    by true e = (base, omega arith, grind (arith, nat_tests))
    by false e = (omega arith, omega arith, omega arith)

-- the address becomes that of a part
address : (b o v far part whole h : ℕ) → h ≡ (b + far) % 2 ^ 32 → b + o ≡ v → v + whole < 2 ^ 32 → far + part ≤ whole → (h + o ≡ v + far) × (v + far + part < 2 ^ 32)
address b o v far part whole h is sum room within = (omega arith, omega arith)

regroup : (a b c d : List Instruction) → (a ++ b ++ c) ++ d ≡ a ++ ((b ++ c) ++ d)
regroup a b c d = simp append_assoc refl

-- the distance behind an address becomes at most a limit
pub reach_then : (limit : ℕ) (spot : Spot) (f : ℕ → ℕ) (Holds : Outcome → Type 0) → spot.base.0 < spot.free.0 → f spot.base.0 + spot.offset < 2 ^ 32 → ((h : ℕ → ℕ) → KeptBelow spot.free.0 f h → h (reached limit spot).base.0 + (reached limit spot).offset ≡ f spot.base.0 + spot.offset → Holds (Behind h)) → Holds (outcome (reach_code limit spot) f)
unfolding outcome
reach_then limit spot f Holds base room behind = by (nat_le spot.offset limit) behind
  where
    work : Work
    work = record { first = spot.free; second = after spot.free; third = after (after spot.free); division = record { 0 = 0 }; range = record { 0 = 0 }; stack = record { 0 = 0 }; overflow = record { 0 = 0 } }

    operands : Operands
    operands = record { to = spot.base; left = spot.base; right = spot.base }

    apart : IsApart work operands
    apart = record { to = base; left = base; right = base; second = omega arith; third = omega arith }

    sum : (h v : ℕ) → h ≡ (v + spot.offset) % 2 ^ 32 → v + spot.offset < 2 ^ 32 → h + 0 ≡ v + spot.offset
    sum h v is less = omega arith

    kept_with : (h : ℕ → ℕ) → ((r : ℕ) → r < spot.free.0 → r ≢ spot.base.0 → h r ≡ f r) → h spot.base.0 ≡ f spot.base.0 → KeptBelow spot.free.0 f h
    kept_with h kept same r below = cases (Rattle.std.proofs.lemmas.Bool.cases_eq r spot.base.0)
      where
        cases : (r ≡ spot.base.0) ⊎ (r ≡ spot.base.0 → ⊥) → h r ≡ f r
        cases (inl is) = ap h is ∙ same ∙ sym (ap f is)
        cases (inr other) = kept r below other

    by : (b : Bool) → ((h : ℕ → ℕ) → KeptBelow spot.free.0 f h → h (if b then spot else at_scratch spot.free).base.0 + (if b then spot else at_scratch spot.free).offset ≡ f spot.base.0 + spot.offset → Holds (Behind h)) → Holds (outcome (if b then [] else sum_with spot.free spot.free spot.base (pos spot.offset)) f)
    by true behind = behind f (λ r below. refl) refl
    by false behind =
        subst (λ code. Holds (outcome code f)) (append-nil (sum_with spot.free spot.free spot.base (pos spot.offset)))
        (sum_then work operands f apart spot.free (λ g v before. kept_scratch work spot.base spot.free f g v (omega arith) before) (pos spot.offset) [] Holds f (λ r below other. refl) refl
        (λ h kept value left. behind h (kept_with h kept (left (λ e. omega arith))) (sum (h spot.free.0) (f spot.base.0) value room)))

module _ (g : Setting) (fit : IsFitting g) (m : MirState) (l : State) (floors : ℕ → Floor) (s : Stays g floors m l) where
  abbrev pub frame_here : Frame
  frame_here = (here m floors).frame

  abbrev pub Kept : (ℕ → ℕ) → Type 0
  Kept f = KeptBelow (here m floors).frame.bank.scratch l.top.registers f

  -- ---- steps

  step_within : (st : MeantStep) (from part : TypeId) (p q : Place) → IsSmall g.core from → IsSmall g.core part → Reaches g.core from (st ∷ []) part → place_from m.world p (st ∷ []) ≡ met q → distance g.core m.world (st ∷ []) + size_in g.core part ≤ size_in g.core from
  step_within st from part p q small few reaches e =
      let (ks, at_, leads) = steps_lead g.core fit.program.extents fit.program.first_type m.world from part (st ∷ []) p q small.there reaches e in
      let whole = type_is_arranged g.core fit.program.extents from small in
      let inner = type_is_arranged g.core fit.program.extents part few in
      let within = leads_within (arrangement_of g.core from) (arrangement_of g.core part) ks (distance g.core m.world (st ∷ [])) whole.arranged leads in
      let a_size = whole.size in
      let b_size = inner.size in
      omega arith

  pub steps_then : (ss : List Step) (spot : Spot) (f : ℕ → ℕ) (p : Place) (from to : TypeId) (value : ℕ) (rest : List Instruction) (Holds : Outcome → Type 0) → HaveIndices (here m floors).routine ss → HaveWords (map view_step ss) → Reaches g.core from (map view_step ss) to → AreSmall g.core from (map view_step ss) → (here m floors).frame.bank.scratch ≤ spot.free.0 → spot.base.0 < spot.free.0 → Kept f → f spot.base.0 + spot.offset ≡ value → value + size_in g.core from < 2 ^ 32 → ((q : Place) → place_from m.world p (map view_step ss) ≡ met q → (h : ℕ → ℕ) → KeptBelow spot.free.0 f h → h (steps_spot g.core ss spot).base.0 + (steps_spot g.core ss spot).offset ≡ value + distance g.core m.world (map view_step ss) → Holds (outcome rest h)) → (place_from m.world p (map view_step ss) ≡ failing 201 → (h : ℕ → ℕ) → Holds (Away (error_block_of (here m floors).frame.bank RangeCheck) h)) → Holds (outcome (steps_code g.core frame_here ss spot ++ rest) f)
  steps_then [] spot f p from to value rest Holds indices words reaches small scratch base kept is room inside outside =
      inside p refl f (λ r below. refl) (omega arith)
  steps_then (Field of n ∷ ss) spot f p from to value rest Holds indices words (same, run, found, few, reaches) small scratch base kept is room inside outside =
      let part = part_type g.core (type_at g.core from) n in
      let within = step_within (field of n) from part p (part_at n p) small.0 (small_first g.core part (map view_step ss) small.1) (same, run, found, few, refl) refl in
      steps_then ss (record spot { offset = spot.offset + field_offset g.core of n }) f (part_at n p) part to (value + field_offset g.core of n) rest Holds indices words reaches small.1 scratch base kept (omega arith) (omega arith)
      (λ q e h after value_is. inside q e h after (value_is ∙ further value (field_offset g.core of n) (distance g.core m.world (map view_step ss)))) outside
    where
      further : (a b c : ℕ) → a + b + c ≡ a + (b + c)
      further a b c = omega arith
  steps_then (Element of low high t ∷ ss) spot f p from to value rest Holds (index_low, indices) (fits_low, fits_high, order, words) (same, index, each, found, range, reaches) small scratch base kept is room inside outside =
      let x = number_at m.world t.0 in
      let n = nat_abs (x -ℤ low) in
      let spot1 = record spot { base = spot.free; free = after spot.free } in
      let behind = (here m floors).frame.bank in
      let fits = s.activation.floor.fits in
      let scratch_is = fits.scratch in
      let bank = (here m floors).frame.bank in
      let there : f (bank.temporaries + t.0) ≡ l.top.registers (bank.temporaries + t.0) = kept (bank.temporaries + t.0) (omega arith) in
      let word : IsWordOf (f (bank.temporaries + t.0)) x = subst (λ v. IsWordOf v x) (sym there) (s.activation.kept.temporaries t.0 index_low) in
      let smaller : AreSmall g.core each (map view_step ss) = subst (λ o. AreSmall g.core (part_type g.core o 0) (map view_step ss)) found small.1 in
      subst (λ code. Holds (outcome code f)) (sym (append_assoc (step_code g.core frame_here (Element of low high t) spot) (steps_code g.core frame_here ss spot1) rest))
      (element_then frame_here (register_of bank t) low high x spot f word fits_low fits_high order (omega arith) base (element_size g.core of) (steps_code g.core frame_here ss spot1 ++ rest) Holds
      (λ test h after value_is.
      let found_place : place_from m.world p (element of low high t.0 ∷ []) ≡ met (part_at n p) = ap (λ b. if b then met (part_at n p) else failing 201) test in
      let within = step_within (element of low high t.0) from each p (part_at n p) small.0 (small_first g.core each (map view_step ss) smaller) (same, index, each, found, range, refl) found_place in
      let (sum, less) = address (f spot.base.0) spot.offset value (n * element_size g.core of) (size_in g.core each) (size_in g.core from) (h spot.free.0) value_is is room (omega arith) in
      steps_then ss spot1 h (part_at n p) each to (value + n * element_size g.core of) rest Holds indices words reaches smaller (omega arith) (omega arith) (λ r below. after r (omega arith) ∙ kept r below) sum less
      (λ q e k later place_is. inside q (ap (λ b. if b then place_from m.world (part_at n p) (map view_step ss) else failing 201) test ∙ e) k (λ r below. later r (omega arith) ∙ after r below) (place_is ∙ further value (n * element_size g.core of) (distance g.core m.world (map view_step ss))))
      (λ e. outside (ap (λ b. if b then place_from m.world (part_at n p) (map view_step ss) else failing 201) test ∙ e)))
      (λ test h. outside (ap (λ b. if b then place_from m.world (part_at n p) (map view_step ss) else failing 201) test) h))
    where
      further : (a b c : ℕ) → a + b + c ≡ a + (b + c)
      further a b c = omega arith
