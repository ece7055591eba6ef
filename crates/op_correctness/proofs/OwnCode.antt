-- The program's own code enters the first parts of its units, makes the last ones due, and returns: it branches nowhere, and names no temporary.
use Rattle.std.proofs.Common.{◌≡◌, ◌≤◌, ◌<◌, ℕ, List, [], ◌∷◌, ◌++◌, Option, Some, None, slice_get, refl, sym, ap, ◌∙◌, subst, arith}
use Rattle.std.proofs.lemmas.List.Concat.{flat_map-cons}
use Rattle.std.proofs.lemmas.List.Elements.{All-head, All-tail}
use Rattle.std.proofs.lemmas.Option.{slice_get_within}
use Rattle.std.specs.Prelude.{◌||◌, Bool, true, false, IsSomeAnd, length, map}
use Rattle.std.specs.List.{All, flat_map, list_any}
use Rattle.op_agreement.specs.Typed.{IsLight}
use Rattle.op_core.specs.Sound.{IsPart, IsUnit}
use Rattle.op_core.specs.declared.ids.RoutineId.{RoutineId}
use Rattle.op_core.specs.declared.program.Core.{Core}
use Rattle.op_core.specs.declared.program.Unit.{Unit as UnitRow}
use Rattle.op_core.specs.declared.routine.Owner.TheVariants.{Unit as OfUnit}
use Rattle.op_core.specs.declared.routine.Routine.{Routine as Row}
use Rattle.op_expand.specs.Calls.{has_closing, is_there}
use Rattle.op_frames.proofs.Lowered.{most_at}
use Rattle.op_frames.proofs.MadeLemmas.{every_append}
use Rattle.op_frames.specs.Made.{Every, IsCode, Leaves}
use Rattle.op_lower.specs.Seen.{seen_blocks}
use Rattle.op_lower.specs.Temporaries.{in_block, in_given, in_instruction, in_receiver, most_of}
use Rattle.op_meaning.specs.Items.{nowhere}
use Rattle.op_mir.specs.Kinds.{is_part}
use Rattle.op_mir.specs.Code.{Instr, do_act, do_call, jump, when, unless, switch, dispatch, make_due, open_temporaries, end_temporary, stop, ret, becoming_due, entering, unit_code}
use Rattle.op_mir.specs.View.{view_given, view_instruction, view_receiver}
use Rattle.op_mir.specs.declared.code.Block.{Block}
use Rattle.op_mir.specs.declared.instruction.Given.{Given}
use Rattle.op_mir.specs.declared.instruction.Instruction.TheVariants.{Act, Call, Jump, When, Unless, Switch, Dispatch, MakeDue, OpenTemporaries, EndTemporary, Stop, Return}
use Rattle.op_mir.specs.declared.instruction.Instruction.{Instruction}
use Rattle.op_mir.specs.declared.instruction.Receiver.TheVariants.{Nowhere, Temporary as ToTemporary, Place}
use Rattle.op_mir.specs.declared.instruction.Receiver.{Receiver}
use Rattle.op_typing.proofs.Rows.{some_and}
use Rattle.op_typing.specs.Simple.{IsProcedure, IsSimpleUnit}
use Rattle.op_correctness.specs.Targets.{IsTargeted}

-- a call without arguments and without a result, a finalization part that becomes due, or a return
abbrev IsBare : Core → Instr → Type 0
IsBare core (do_call r given receiver landing) = (given ≡ []) × (receiver ≡ nowhere) × (landing ≡ None)
IsBare core ret = Unit {0}
IsBare core (do_act a landing) = ⊥
IsBare core (jump k) = ⊥
IsBare core (when t k) = ⊥
IsBare core (unless t k) = ⊥
IsBare core (switch t arms) = ⊥
IsBare core (dispatch t k) = ⊥
IsBare core (make_due f) = has_closing core ≡ true
IsBare core (open_temporaries ts) = ⊥
IsBare core (end_temporary t) = ⊥
IsBare core (stop t) = ⊥

-- ---- what it is made of

module _ (core : Core) where
  -- a unit's first part is entered by a bare call
  entering_bare : (part : Option RoutineId) → Every (IsBare core) (entering part)
  entering_bare None = tt
  entering_bare (Some q) = ((refl, refl, refl), tt)

  -- where a last part becomes due there is a closing
  due_bare : (part : Option RoutineId) → (is_there part ≡ true → has_closing core ≡ true) → Every (IsBare core) (becoming_due part)
  due_bare None closing = tt
  due_bare (Some q) closing = (closing refl, tt)

  units_bare : (us : List UnitRow) → (list_any (λ (u : UnitRow). is_there u.finalization) us ≡ true → has_closing core ≡ true) → Every (IsBare core) (flat_map unit_code us)
  units_bare [] closing = tt
  units_bare (u ∷ us) closing =
      subst (Every (IsBare core)) (sym (flat_map-cons unit_code u us))
      (every_append (IsBare core) (unit_code u) (flat_map unit_code us)
      (every_append (IsBare core) (entering u.initialization) (becoming_due u.finalization) (entering_bare u.initialization) (due_bare u.finalization (λ e. closing (first (is_there u.finalization) e))))
      (units_bare us (λ e. closing (second (is_there u.finalization) e))))
    where
      first : (b : Bool) → b ≡ true → (b || list_any (λ (u : UnitRow). is_there u.finalization) us) ≡ true
      first true e = refl
      first false e = absurd cc

      second : (b : Bool) → list_any (λ (u : UnitRow). is_there u.finalization) us ≡ true → (b || list_any (λ (u : UnitRow). is_there u.finalization) us) ≡ true
      second true e = refl
      second false e = e

-- ---- branches

-- such code branches nowhere
bare_targeted : (core : Core) (r n : ℕ) → r ≡ length core.routines → (is : List Instr) → Every (IsBare core) is → Every (IsTargeted core r n) is
bare_targeted core r n own [] bare = tt
bare_targeted core r n own (do_call q given receiver landing ∷ is) (here, bare) = (here.2, bare_targeted core r n own is bare)
bare_targeted core r n own (make_due f ∷ is) (here, bare) = ((own, here), bare_targeted core r n own is bare)
bare_targeted core r n own (ret ∷ is) (here, bare) = (tt, bare_targeted core r n own is bare)
bare_targeted core r n own (do_act a landing ∷ is) (here, bare) = absurd here
bare_targeted core r n own (jump k ∷ is) (here, bare) = absurd here
bare_targeted core r n own (when t k ∷ is) (here, bare) = absurd here
bare_targeted core r n own (unless t k ∷ is) (here, bare) = absurd here
bare_targeted core r n own (switch t arms ∷ is) (here, bare) = absurd here
bare_targeted core r n own (dispatch t k ∷ is) (here, bare) = absurd here
bare_targeted core r n own (open_temporaries ts ∷ is) (here, bare) = absurd here
bare_targeted core r n own (end_temporary t ∷ is) (here, bare) = absurd here
bare_targeted core r n own (stop t ∷ is) (here, bare) = absurd here

-- code in front of a return leaves
leaves_behind : (is : List Instr) → Leaves (is ++ ret ∷ [])
leaves_behind [] = tt
leaves_behind (i ∷ []) = tt
leaves_behind (i ∷ j ∷ is) = leaves_behind (j ∷ is)

-- the blocks of the program itself
abbrev own_blocks : List UnitRow → List (List Instr)
own_blocks us = (flat_map unit_code us ++ ret ∷ []) ∷ (ret ∷ []) ∷ []

-- all of them are bare
own_bare : (core : Core) → Every (Every (IsBare core)) (own_blocks core.units)
own_bare core = (every_append (IsBare core) (flat_map unit_code core.units) (ret ∷ []) (units_bare core core.units (λ e. e)) (tt, tt), ((tt, tt), tt))

-- The program's own blocks lead to blocks of it.
pub own_targeted : (core : Core) (r n : ℕ) → r ≡ length core.routines → Every (IsCode (IsTargeted core r n)) (own_blocks core.units)
own_targeted core r n own = (
  record { each = bare_targeted core r n own (flat_map unit_code core.units ++ ret ∷ []) (own_bare core).0; leaves = leaves_behind (flat_map unit_code core.units) },
  (record { each = (tt, tt); leaves = tt }, tt),
)

-- ---- finalization parts

-- each part that becomes due is a routine without parameters and without a result
abbrev pub IsDue : Core → Instr → Type 0
IsDue core (make_due f) = (f.0 < length core.routines) × (is_part (slice_get core.routines f.0) ≡ true)
IsDue core (do_call r given receiver landing) = Unit {0}
IsDue core (do_act a landing) = Unit {0}
IsDue core (jump k) = Unit {0}
IsDue core (when t k) = Unit {0}
IsDue core (unless t k) = Unit {0}
IsDue core (switch t arms) = Unit {0}
IsDue core (dispatch t k) = Unit {0}
IsDue core (open_temporaries ts) = Unit {0}
IsDue core (end_temporary t) = Unit {0}
IsDue core (stop t) = Unit {0}
IsDue core ret = Unit {0}

module _ (core : Core) where
  part_due : (f : RoutineId) → IsPart core (Some f) → IsProcedure core (Some f) → IsDue core (make_due f)
  part_due f sound simple =
      let (x, there, facts) = some_and (slice_get core.routines f.0) (λ (y : Row). (y.owner ≡ OfUnit) × (y.parameters.count ≡ 0)) sound in
      let result : x.result ≡ None = if_there (slice_get core.routines f.0) x there simple in
      (slice_get_within core.routines f.0 x there, ap is_part there ∙ part_by x facts.0 facts.1 result)
    where
      if_there : (o : Option Row) (x : Row) → o ≡ Some x → IsSomeAnd o (λ (y : Row). y.result ≡ None) → x.result ≡ None
      if_there o x e h = subst (λ (p : Option Row). IsSomeAnd p (λ (y : Row). y.result ≡ None)) e h

      part_by : (x : Row) → x.owner ≡ OfUnit → x.parameters.count ≡ 0 → x.result ≡ None → is_part (Some x) ≡ true
      part_by x owner none result = rw (owner, none, result) refl

  entering_due : (part : Option RoutineId) → Every (IsDue core) (entering part)
  entering_due None = tt
  entering_due (Some q) = (tt, tt)

  becoming_is_due : (part : Option RoutineId) → IsPart core part → IsProcedure core part → Every (IsDue core) (becoming_due part)
  becoming_is_due None sound simple = tt
  becoming_is_due (Some f) sound simple = (part_due f sound simple, tt)

  units_due : (us : List UnitRow) → All (IsUnit core) us → All (IsSimpleUnit core) us → Every (IsDue core) (flat_map unit_code us)
  units_due [] sound simple = tt
  units_due (u ∷ us) sound simple =
      let is_sound = All-head (IsUnit core) u us sound in
      let is_simple = All-head (IsSimpleUnit core) u us simple in
      subst (Every (IsDue core)) (sym (flat_map-cons unit_code u us))
      (every_append (IsDue core) (unit_code u) (flat_map unit_code us)
      (every_append (IsDue core) (entering u.initialization) (becoming_due u.finalization) (entering_due u.initialization) (becoming_is_due u.finalization is_sound.3 is_simple.1))
      (units_due us (All-tail (IsUnit core) u us sound) (All-tail (IsSimpleUnit core) u us simple)))

  -- So is each that the program's own code makes due.
  pub own_due : All (IsUnit core) core.units → All (IsSimpleUnit core) core.units → Every (Every (IsDue core)) (own_blocks core.units)
  own_due sound simple = (every_append (IsDue core) (flat_map unit_code core.units) (ret ∷ []) (units_due core.units sound simple) (tt, tt), ((tt, tt), tt))

  -- No other code makes one due.
  pub none_due : (r n : ℕ) → r < length core.routines → (is : List Instr) → Every (IsTargeted core r n) is → Every (IsDue core) is
  none_due r n low [] targeted = tt
  none_due r n low (make_due f ∷ is) (here, targeted) = let own = here.0 in absurd (omega (arith, low, own))
  none_due r n low (do_call q given receiver landing ∷ is) (here, targeted) = (tt, none_due r n low is targeted)
  none_due r n low (do_act a landing ∷ is) (here, targeted) = (tt, none_due r n low is targeted)
  none_due r n low (jump k ∷ is) (here, targeted) = (tt, none_due r n low is targeted)
  none_due r n low (when t k ∷ is) (here, targeted) = (tt, none_due r n low is targeted)
  none_due r n low (unless t k ∷ is) (here, targeted) = (tt, none_due r n low is targeted)
  none_due r n low (switch t arms ∷ is) (here, targeted) = (tt, none_due r n low is targeted)
  none_due r n low (dispatch t k ∷ is) (here, targeted) = (tt, none_due r n low is targeted)
  none_due r n low (open_temporaries ts ∷ is) (here, targeted) = absurd here
  none_due r n low (end_temporary t ∷ is) (here, targeted) = absurd here
  none_due r n low (stop t ∷ is) (here, targeted) = (tt, none_due r n low is targeted)
  none_due r n low (ret ∷ is) (here, targeted) = (tt, none_due r n low is targeted)

-- ---- temporaries

-- a call without arguments and without a result names no temporary
none_given : (gs : List Given) → map view_given gs ≡ [] → most_of in_given gs ≡ 0
none_given [] none = refl
none_given (g ∷ gs) none = absurd cc

-- where its machine sees no argument there is none, and no place for a result
no_given : (gs : List Given) → map view_given gs ≡ [] → gs ≡ []
no_given [] e = refl
no_given (g ∷ gs) e = absurd cc

no_receiver : (y : Receiver) → view_receiver y ≡ nowhere → y ≡ Nowhere
no_receiver Nowhere e = refl
no_receiver (ToTemporary t) e = absurd cc
no_receiver (Place of to) e = absurd cc

none_received : (y : Receiver) → view_receiver y ≡ nowhere → in_receiver y ≡ 0
none_received Nowhere none = refl
none_received (ToTemporary t) none = absurd cc
none_received (Place of to) none = absurd cc

module _ (core : Core) (r n : ℕ) where
  -- bare instructions name no temporary above a number
  bare_low : (i : Instruction) → IsBare core (view_instruction core r i) → in_instruction i ≤ n
  unfolding in_instruction
  bare_low (Call id call) (given, receiver, landing) =
      let one = none_given call.given given in
      let other = none_received call.receiver receiver in
      omega (arith, one, other)
  bare_low Return bare = omega arith
  bare_low (Act a landing) bare = absurd bare
  bare_low (Jump block) bare = absurd bare
  bare_low (When t block) bare = absurd bare
  bare_low (Unless t block) bare = absurd bare
  bare_low (Switch t arms) bare = absurd bare
  bare_low (Dispatch t block) bare = absurd bare
  bare_low (MakeDue f) bare = omega arith
  bare_low (OpenTemporaries ts) bare = absurd bare
  bare_low (EndTemporary t) bare = absurd bare
  bare_low (Stop t) bare = absurd bare

  -- so do the instructions of code
  all_low : (code : List Instruction) → Every (IsBare core) (map (view_instruction core r) code) → Every (λ i. in_instruction i ≤ n) code
  all_low [] bare = tt
  all_low (i ∷ code) (here, bare) = (bare_low i here, all_low code bare)

  -- and those of blocks
  blocks_low : (blocks : List Block) → Every (Every (IsBare core)) (seen_blocks core r blocks) → Every (λ b. in_block b ≤ n) blocks
  blocks_low [] bare = tt
  blocks_low (b ∷ blocks) (here, bare) = (most_at in_instruction b.code n (all_low b.code here), blocks_low blocks bare)

  -- bare instructions are those that cost little
  bare_light : (i : Instruction) → IsBare core (view_instruction core r i) → IsLight i
  bare_light (Call id call) (given, receiver, landing) = (no_given call.given given, no_receiver call.receiver receiver)
  bare_light Return bare = tt
  bare_light (Act a landing) bare = absurd bare
  bare_light (Jump block) bare = absurd bare
  bare_light (When t block) bare = absurd bare
  bare_light (Unless t block) bare = absurd bare
  bare_light (Switch t arms) bare = absurd bare
  bare_light (Dispatch t block) bare = absurd bare
  bare_light (MakeDue f) bare = tt
  bare_light (OpenTemporaries ts) bare = absurd bare
  bare_light (EndTemporary t) bare = absurd bare
  bare_light (Stop t) bare = absurd bare

  all_light : (code : List Instruction) → Every (IsBare core) (map (view_instruction core r) code) → Every IsLight code
  all_light [] bare = tt
  all_light (i ∷ code) (here, bare) = (bare_light i here, all_light code bare)

  blocks_light : (blocks : List Block) → Every (Every (IsBare core)) (seen_blocks core r blocks) → Every (λ b. Every IsLight b.code) blocks
  blocks_light [] bare = tt
  blocks_light (b ∷ blocks) (here, bare) = (all_light b.code here, blocks_light blocks bare)

  -- So are those of the program's own blocks.
  pub own_light : (blocks : List Block) → seen_blocks core r blocks ≡ own_blocks core.units → Every (λ b. Every IsLight b.code) blocks
  own_light blocks seen = blocks_light blocks (subst (Every (Every (IsBare core))) (sym seen) (own_bare core))

  -- And they name no temporary.
  pub own_low : (blocks : List Block) → seen_blocks core r blocks ≡ own_blocks core.units → Every (λ b. in_block b ≤ n) blocks
  own_low blocks seen = blocks_low blocks (subst (Every (Every (IsBare core))) (sym seen) (own_bare core))
