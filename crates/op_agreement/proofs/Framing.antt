-- The frame of a routine fits its variables and temporaries: each has a home of its own.
use Rattle.std.proofs.Common.{◌≡◌, ◌<◌, ◌≤◌, ◌⊎◌, ℕ, ◌+◌, ◌%◌, false, nat_eq, refl, subst, arith, inl, inr}
use Rattle.std.proofs.lemmas.Bool.{cases_lt, eqb-false}
use Rattle.op_constants.specs.Arranged.{IsSmall}
use Rattle.op_constants.specs.Offsets.{size_in}
use Rattle.op_core.specs.Rows.{rows}
use Rattle.op_core.specs.declared.ids.TypeId.{TypeId}
use Rattle.op_core.specs.declared.program.Core.{Core}
use Rattle.op_places.specs.Frames.{first_room, frame_of, parameters_of}
use Rattle.op_places.specs.Homes.{is_one_root, offset_of, roots_of, rounded}
use Rattle.op_places.specs.declared.frame.Frame.{Frame}
use Rattle.op_meaning.specs.Shapes.{type_of_local, variables_of}
use Rattle.op_mir.specs.declared.code.Routine.{Routine}
use Rattle.op_mir.specs.declared.ids.LocalId.{LocalId}
use Rattle.op_mir.specs.declared.path.Root.{Root}
use Rattle.op_mir.specs.declared.path.Root.TheVariants.{Global, Local, Through, Temporary}
use Rattle.op_agreement.proofs.Rooms.{behind_whole, end_later, end_whole, offset_later, offset_whole, offset_within, offsets_apart, rounded_more}
use Rattle.op_agreement.specs.Framing.{HasVariables}
use Rattle.op_agreement.specs.Settings.{Apart, FrameFits, StoredAt, type_stored}
use Rattle.op_agreement.proofs.Homes.{all_behind, alone, composite_stored, home_fits, local_whole, local_within, locals_apart, reference_held}

module _ (core : Core) (r : ℕ) (x : Routine) (has : HasVariables core r x) where
  abbrev frame : Frame
  frame = frame_of core r x

  -- what is stored lies within the locals
  stored_within : (root : Root) (offset : ℕ) → StoredAt core r frame root offset → offset + size_in core (type_stored core r root) ≤ frame.locals
  stored_within (Local v) offset at =
      let variables = local_within core r x has v.0 offset at.0.0 at.1 in
      let end = end_later core frame.temporaries (roots_of x) in
      let more = rounded_more (size_in core (type_of_local core r v.0)) in
      omega (arith, variables, end, more)
  stored_within (Temporary of n) offset at =
      let end = offset_within core of n frame.temporaries (roots_of x) at.0 in
      let same = at.1 in
      let more = rounded_more (size_in core of) in
      omega (arith, end, same, more)
  stored_within (Global v) offset at = absurd at
  stored_within (Through v) offset at = absurd at

  -- variables leave whole words
  variables_whole : frame.temporaries % 4 ≡ 0
  variables_whole = behind_whole core (parameters_of core r) (roots_of x) 0 (first_room (parameters_of core r)) (rows core.variables (variables_of core r)) refl

  -- what is stored begins at a whole word
  stored_whole : (root : Root) (offset : ℕ) → StoredAt core r frame root offset → offset % 4 ≡ 0
  stored_whole (Local v) offset at = local_whole core r x has v.0 offset at.0.0 at.1
  stored_whole (Temporary of n) offset at = subst (λ a. a % 4 ≡ 0) at.1 (offset_whole core (Temporary of n) frame.temporaries (roots_of x) variables_whole)
  stored_whole (Global v) offset at = absurd at
  stored_whole (Through v) offset at = absurd at

  -- and has a type whose values are small
  stored_small : (root : Root) (offset : ℕ) → StoredAt core r frame root offset → IsSmall core (type_stored core r root)
  stored_small (Local v) offset at = has.variables v.0 at.0
  stored_small (Temporary of n) offset at = has.temporaries of n at.0
  stored_small (Global v) offset at = absurd at
  stored_small (Through v) offset at = absurd at

  -- variables lie in front of temporaries
  local_first : (v : LocalId) (of : TypeId) (n a b : ℕ) → StoredAt core r frame (Local v) a → StoredAt core r frame (Temporary of n) b → a + size_in core (type_of_local core r v.0) ≤ b
  local_first v of n a b one other =
      let variables = local_within core r x has v.0 a one.0.0 one.1 in
      let later = offset_later core (Temporary of n) frame.temporaries (roots_of x) in
      let same = other.1 in
      let more = rounded_more (size_in core (type_of_local core r v.0)) in
      omega (arith, variables, later, same, more)

  -- two variables lie apart
  two_locals : (v u : LocalId) (a b : ℕ) → nat_eq v.0 u.0 ≡ false → StoredAt core r frame (Local v) a → StoredAt core r frame (Local u) b → Apart a (size_in core (type_of_local core r v.0)) b (size_in core (type_of_local core r u.0))
  two_locals v u a b differ one other = by (cases_lt v.0 u.0) (cases_lt u.0 v.0)
    where
      by : (v.0 < u.0) ⊎ (u.0 ≤ v.0) → (u.0 < v.0) ⊎ (v.0 ≤ u.0) → Apart a (size_in core (type_of_local core r v.0)) b (size_in core (type_of_local core r u.0))
      by (inl order) _ = inl (locals_apart core r x has v.0 u.0 a b one.0.0 other.0.0 order one.1 other.1)
      by (inr p) (inl order) = inr (locals_apart core r x has u.0 v.0 b a other.0.0 one.0.0 order other.1 one.1)
      by (inr p) (inr q) = absurd (eqb-false v.0 u.0 differ (omega (arith, p, q)))

  -- and so do two temporaries
  two_temporaries : (of type : TypeId) (n m a b : ℕ) → is_one_root (Temporary of n) (Temporary type m) ≡ false → StoredAt core r frame (Temporary of n) a → StoredAt core r frame (Temporary type m) b → Apart a (size_in core of) b (size_in core type)
  two_temporaries of type n m a b differ one other = by (offsets_apart core of type n m frame.temporaries (roots_of x) differ one.0 other.0)
    where
      by : (offset_of core (Temporary of n) frame.temporaries frame.roots + rounded (size_in core of) ≤ offset_of core (Temporary type m) frame.temporaries frame.roots) ⊎ (offset_of core (Temporary type m) frame.temporaries frame.roots + rounded (size_in core type) ≤ offset_of core (Temporary of n) frame.temporaries frame.roots) → Apart a (size_in core of) b (size_in core type)
      by (inl p) = let first = one.1 in let second = other.1 in let more = rounded_more (size_in core of) in inl (omega (arith, p, first, second, more))
      by (inr p) = let first = one.1 in let second = other.1 in let more = rounded_more (size_in core type) in inr (omega (arith, p, first, second, more))

  -- so what is stored for different roots lies apart
  stored_apart : (one other : Root) (a b : ℕ) → is_one_root one other ≡ false → StoredAt core r frame one a → StoredAt core r frame other b → Apart a (size_in core (type_stored core r one)) b (size_in core (type_stored core r other))
  stored_apart (Local v) (Local u) a b differ one other = two_locals v u a b differ one other
  stored_apart (Local v) (Temporary of n) a b differ one other = inl (local_first v of n a b one other)
  stored_apart (Temporary of n) (Local v) a b differ one other = inr (local_first v of n b a other one)
  stored_apart (Temporary of n) (Temporary type m) a b differ one other = two_temporaries of type n m a b differ one other
  stored_apart (Global v) other a b differ at _ = absurd at
  stored_apart (Through v) other a b differ at _ = absurd at
  stored_apart (Local v) (Global u) a b differ _ at = absurd at
  stored_apart (Local v) (Through u) a b differ _ at = absurd at
  stored_apart (Temporary of n) (Global u) a b differ _ at = absurd at
  stored_apart (Temporary of n) (Through u) a b differ _ at = absurd at

  -- the frame that expansion settles for a routine is as it is asked
  pub frame_fits : FrameFits core r x (frame_of core r x)
  frame_fits = record {
    first = refl;
    scratch = refl;
    errors = refl;
    returning = refl;
    behind = let all = all_behind core r x has in omega (arith, all);
    homes = λ v low. home_fits core r x has v.0 low;
    alone = λ v u a b low high differ one other. alone core r x has v.0 u.0 a b low high differ one other;
    references = λ v variable. reference_held core r x has v.0 variable;
    composites = λ v variable shape. composite_stored core r x has v.0 variable shape;
    within = stored_within;
    words = stored_whole;
    types = stored_small;
    apart = stored_apart;
    whole = end_whole core frame.temporaries (roots_of x) variables_whole;
  }
