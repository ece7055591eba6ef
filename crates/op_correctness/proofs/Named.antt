-- Instructions of typed code name what is there, and their numbers have 32 bits.
use Rattle.std.proofs.Common.{◌≡◌, ◌≤◌, ◌<◌, ℕ, ℤ, suc, ◌+◌, ◌-ℤ◌, ◌^◌, pos, negsuc, false, List, [], ◌∷◌, length, Option, Some, None, refl, sym, ap, ◌∙◌, subst, arith}
use Rattle.std.specs.Prelude.{slice_get}
use Rattle.std.specs.Int.{w32, cast_unsigned, int_bit_not}
use Rattle.std.specs.Int.RustNames.{FitsSigned}
use Rattle.std.specs.List.{All}
use Rattle.std.proofs.lemmas.Int.{ints}
use Rattle.std.proofs.lemmas.List.Elements.{All-head, All-tail}
use Rattle.std.proofs.lemmas.Option.{slice_get_within}
use Rattle.op_constants.proofs.Lying.{leads_within}
use Rattle.op_constants.proofs.Reaching.{element_leads, field_before, field_leads}
use Rattle.op_constants.proofs.SoundFirst.{first_type, small_type}
use Rattle.op_constants.proofs.TypesArranged.{type_is_arranged}
use Rattle.op_constants.specs.Arranged.{IsSmall}
use Rattle.op_constants.specs.FirstBytes.{first_number}
use Rattle.op_constants.specs.FirstFits.{FirstFits}
use Rattle.op_constants.specs.Lies.{arrangement_of}
use Rattle.op_constants.specs.Offsets.{field_offset, size_in}
use Rattle.op_constants.specs.Reaching.{Reaches}
use Rattle.op_constants.specs.Shapes.{is_composite}
use Rattle.op_core.specs.Initial.{FirstValue}
use Rattle.op_core.specs.Rows.{rows}
use Rattle.op_core.specs.Sizes.{range_of, type_at, values_of}
use Rattle.op_core.specs.Sound.{IsSound}
use Rattle.op_core.specs.declared.ids.Run.{Run}
use Rattle.op_core.specs.declared.ids.TypeId.{TypeId}
use Rattle.op_core.specs.declared.program.Core.{Core}
use Rattle.op_core.specs.declared.routine.Parameter.{Parameter}
use Rattle.op_core.specs.declared.statement.Label.{Label}
use Rattle.op_core.specs.declared.types.CoreType.TheVariants.{Array, Record}
use Rattle.op_frames.proofs.SoundSizes.{sizes_small}
use Rattle.op_frames.specs.Made.{Every, IsCode}
use Rattle.op_frames.specs.Named.{IsNamed, IsNamedAction, IsNamedArm, IsNamedCall, IsNamedGiven, IsNamedLabel, IsNamedOperand, IsNamedPath, IsNamedReceiver, IsNamedRoot, IsNamedStep, fields_offset}
use Rattle.op_meaning.specs.Actions.{Action, constant, load, store, copy, look, begin_with, pick, arithmetic, compare, negate, complement, invert, absolute, odd, upper, low_bits, check, neighbour, single, span, combine, contains, check_set, primitive}
use Rattle.op_meaning.specs.Items.{Given, by_value, by_place, by_copy, Receiver, nowhere, to_temp, to_place}
use Rattle.op_meaning.specs.Paths.{Path, Root, in_global, in_local, through, in_temporary, Step, field, element}
use Rattle.op_meaning.specs.Primitives.{EachOperand, Operand, from_temp, literal_text, text_at}
use Rattle.op_meaning.specs.Shapes.{part_type, shape_of}
use Rattle.op_mir.specs.Code.{Arm, Instr, do_act, do_call, jump, when, unless, switch, dispatch, make_due, open_temporaries, end_temporary, stop, ret}
use Rattle.op_typing.proofs.Rows.{some_and}
use Rattle.op_typing.proofs.Storing.{result_number}
use Rattle.op_typing.proofs.Types.{range_words}
use Rattle.op_typing.specs.Simple.{IsSimpleProgram}
use Rattle.op_typing.specs.Typed.{AreTypedBlocks, AreTypedGiven, AreTypedInstrs, AreWords, IsTypedAction, IsTypedCall, IsTypedGiven, IsTypedInstr, IsTypedOperand, IsTypedReceiver, PathTo, RootIs}
use Rattle.op_agreement.proofs.FirstNumbers.{first_fits, number_fits}
use Rattle.op_correctness.specs.Targets.{IsTargetNumber, IsTargeted}

-- ---- numbers

-- the distance between two numbers of 32 bits is a word
distance_word : (low high : ℤ) → FitsSigned w32 low → FitsSigned w32 high → cast_unsigned w32 (high -ℤ low) < 2 ^ 32
distance_word low high least most = by (high -ℤ low) refl
  where
    by : (d : ℤ) → high -ℤ low ≡ d → cast_unsigned w32 d < 2 ^ 32
    by (pos n) e = let few : n < 2 ^ 32 = omega (arith, ints, least, most, e) in few
    by (negsuc n) e = omega arith

-- the others of 32 bits are one number again
others_word : (all : ℤ) → FitsSigned w32 (int_bit_not w32 all)
others_word all = omega (arith, ints)

-- a text that has a place has a length of 32 bits
text_word : (n : ℕ) → n < 2 ^ 31 → n < 2 ^ 32
text_word n short = omega (arith, short)

-- labels and arms of a selection
labels_named : (labels : List Label) → AreWords labels → Every IsNamedLabel labels
labels_named [] are = tt
labels_named (l ∷ ls) are = (All-head (λ l. FitsSigned w32 l.first × FitsSigned w32 l.last) l ls are, labels_named ls (All-tail (λ l. FitsSigned w32 l.first × FitsSigned w32 l.last) l ls are))

arms_named : (blocks : ℕ) (arms : List Arm) → All (λ a. AreWords a.labels) arms → Every (λ (a : Arm). IsTargetNumber blocks a.block) arms → Every (IsNamedArm blocks) arms
arms_named blocks [] are lead = tt
arms_named blocks (a ∷ arms) are (first, lead) =
    ((first.1, labels_named a.labels (All-head (λ a. AreWords a.labels) a arms are)), arms_named blocks arms (All-tail (λ a. AreWords a.labels) a arms are) lead)

-- ---- places

module _ (core : Core) (sound : IsSound core) where
  -- a global variable has a row
  root_named : (r : ℕ) (root : Root) (of : TypeId) → RootIs core r root of → IsNamedRoot core root
  root_named r (in_global v) of (listed, there) = let (row, is, same) = some_and (slice_get core.variables v) (λ x. x.of ≡ of) there in slice_get_within core.variables v row is
  root_named r (in_local v) of is = tt
  root_named r (through v) of is = tt
  root_named r (in_temporary type n) of is = tt

  -- a field lies within its record
  field_within : (of : TypeId) (run : Run) (k : ℕ) → IsSmall core of → type_at core of ≡ Some (Record run) → k < run.count → IsSmall core (part_type core (type_at core of) k) × (field_offset core of k + size_in core (part_type core (type_at core of) k) ≤ size_in core of)
  field_within of run k small is few =
      let part = part_type core (type_at core of) k in
      let before : part.0 < of.0 = subst (λ o. (part_type core o k).0 < of.0) (sym is) (field_before core sound.extents (first_type core sound) of run k is few) in
      let there = small.there in
      let small_part : IsSmall core part = small_type core sound part (omega (arith, before, there)) in
      let whole = type_is_arranged core sound.extents of small in
      let inner = type_is_arranged core sound.extents part small_part in
      let within = leads_within (arrangement_of core of) (arrangement_of core part) (k ∷ []) (field_offset core of k) whole.arranged (field_leads core sound.extents (first_type core sound) of run k there is few) in
      let size = whole.size in
      let part_size = inner.size in
      (small_part, omega (arith, within, size, part_size))

  -- an element takes no more than its array
  element_within : (of index each : TypeId) (low high : ℤ) → IsSmall core of → type_at core of ≡ Some (Array index each) → range_of (type_at core index) ≡ Some (low, high) → IsSmall core each × (size_in core each ≤ size_in core of)
  element_within of index each low high small is range =
      let before = (sound.extents.behind of.0 (Array index each) is).1 in
      let there = small.there in
      let small_each : IsSmall core each = small_type core sound each (omega (arith, before, there)) in
      let whole = type_is_arranged core sound.extents of small in
      let inner = type_is_arranged core sound.extents each small_each in
      let some : 0 < values_of (range_of (type_at core index)) = subst (λ o. 0 < values_of o) (sym range) (omega arith) in
      let within = leads_within (arrangement_of core of) (arrangement_of core each) (0 ∷ []) _ whole.arranged (element_leads core sound.extents (first_type core sound) of index each 0 there is some) in
      let size = whole.size in
      let part_size = inner.size in
      (small_each, omega (arith, within, size, part_size))

  -- where the steps of a path lead lies within what it begins with
  steps_named : (of to : TypeId) (steps : List Step) → IsSmall core of → Reaches core of steps to → Every IsNamedStep steps × (fields_offset core steps + size_in core to ≤ size_in core of)
  steps_named of to [] small reaches = let same = ap (size_in core) reaches in (tt, omega (arith, same))
  steps_named of to (field whole k ∷ steps) small (same, run, is, few, reaches) =
      let (small_part, within) = field_within of run k small is few in
      let (named, rest) = steps_named (part_type core (type_at core of) k) to steps small_part reaches in
      let offset = ap (λ o. field_offset core o k) same in
      ((tt, named), omega (arith, within, rest, offset))
  steps_named of to (element whole low high t ∷ steps) small (same, index, each, is, range, reaches) =
      let (small_each, within) = element_within of index each low high small is range in
      let (named, rest) = steps_named each to steps small_each reaches in
      let (least, most) = range_words core sound index (low, high) range in
      ((distance_word low high least most, named), omega (arith, within, rest))

  -- A path of typed code names what is there.
  pub path_named : (r : ℕ) (path : Path) (of : TypeId) → PathTo core r path of → IsNamedPath core path
  path_named r path of p =
      let (named, within) = steps_named p.from of path.steps p.whole p.reaches in
      let size = sizes_small core sound p.from in
      (root_named r path.root p.from p.root, named, omega (arith, within, size))

  -- ---- actions

  -- what a variable without parts begins with
  first_word : (of : TypeId) (value : FirstValue) → FirstFits core of value → is_composite (shape_of core of) ≡ false → FitsSigned w32 (first_number value)
  first_word of value fits whole = number_fits _ (first_number value) (first_fits core of value (shape_of core of) refl whole fits)

  operands_named : (os : List Operand) → EachOperand IsTypedOperand os → EachOperand IsNamedOperand os
  operands_named [] each = tt
  operands_named (from_temp t ∷ os) each = (tt, operands_named os each.1)
  operands_named (text_at path ∷ os) each = absurd each.0
  operands_named (literal_text text ∷ os) each = (text_word (length text) each.0.0, operands_named os each.1)

  -- So does an action.
  pub action_named : (r : ℕ) (a : Action) → IsTypedAction core r a → IsNamedAction core a
  action_named r (constant to n) t = t
  action_named r (load to kind from) (of, path, is) = path_named r from of path
  action_named r (store to kind from) (of, path, is) = path_named r to of path
  action_named r (copy of to from) (a, b, parts) = (path_named r to of a, path_named r from of b)
  action_named r (look at) (of, path) = path_named r at of path
  action_named r (begin_with v of value) (variable, small, solid, fits) = λ whole. first_word of value fits whole
  action_named r (pick to text index) (short, bytes) = text_word (length text) short
  action_named r (neighbour distance low high to a) t = t.0
  action_named r (check_set all to a) t = others_word all
  action_named r (primitive p operands to) t = record { sorts = t.sorts; each = operands_named operands t.each; taken = t.taken; nothing = t.nothing }
  action_named r (arithmetic o checked to a b) t = tt
  action_named r (compare o to a b) t = tt
  action_named r (negate checked to a) t = tt
  action_named r (complement to a) t = tt
  action_named r (invert to a) t = tt
  action_named r (absolute checked to a) t = tt
  action_named r (odd to a) t = tt
  action_named r (upper to a) t = tt
  action_named r (low_bits kind to a) t = tt
  action_named r (check low high to a) t = tt
  action_named r (single to a) t = tt
  action_named r (span to a b) t = tt
  action_named r (combine o to a b) t = tt
  action_named r (contains to a b) t = tt

  -- ---- calls

  -- what a parameter is given
  given_named : (r : ℕ) (g : Given) (p : Parameter) → IsTypedGiven core r g p → IsNamedGiven core g
  given_named r (by_value kind t) p h = tt
  given_named r (by_place path) p (to, refers) = path_named r path p.of to
  given_named r (by_copy of path) p (same, to, whole, own) = path_named r path of to

  -- all that is given is named, and there is as much of it as there are parameters
  givens_named : (r : ℕ) (gs : List Given) (ps : List Parameter) → AreTypedGiven core r gs ps → Every (IsNamedGiven core) gs × (length gs ≡ length ps)
  givens_named r [] [] h = (tt, refl)
  givens_named r [] (p ∷ ps) h = absurd h
  givens_named r (g ∷ gs) [] h = absurd h
  givens_named r (g ∷ gs) (p ∷ ps) (first, h) =
      let (named, many) = givens_named r gs ps h in
      ((given_named r g p first, named), ap suc many)

  -- what gets the result
  receiver_named : (result : Option TypeId) (y : Receiver) → IsTypedReceiver core result y → IsNamedReceiver core y
  receiver_named None nowhere h = tt
  receiver_named None (to_temp t) h = absurd h
  receiver_named None (to_place type path) h = absurd h
  receiver_named (Some of) nowhere h = absurd h
  receiver_named (Some of) (to_temp t) h = tt
  receiver_named (Some of) (to_place type path) (same, whole, small, (n, is)) = subst (IsNamedPath core) (sym is) (tt, tt, omega arith)

  module _ (simple : IsSimpleProgram core) where
    -- A call names a routine that is there, and gives it as much as it takes.
    pub call_named : (r q : ℕ) (gs : List Given) (y : Receiver) → IsTypedCall core r q gs y → IsNamedCall core q gs y
    call_named r q gs y c =
        let (named, many) = givens_named r gs (rows core.parameters c.callee.parameters) c.arguments in
        (slice_get_within core.routines q c.callee c.there, many ∙ result_number core sound simple q c.callee c.there, named, receiver_named c.callee.result y c.result)

    -- ---- instructions

    -- what an instruction names, where its branches lead to blocks
    instruction_named : (r blocks : ℕ) (i : Instr) → IsTypedInstr core r i → IsTargeted core r blocks i → IsNamed core blocks i
    instruction_named r blocks (do_act a landing) typed targeted = action_named r a typed
    instruction_named r blocks (do_call q given receiver landing) typed targeted = call_named r q given receiver typed
    instruction_named r blocks (jump k) typed targeted = targeted.1
    instruction_named r blocks (when t k) typed targeted = targeted.1
    instruction_named r blocks (unless t k) typed targeted = targeted.1
    instruction_named r blocks (switch t arms) typed targeted = arms_named blocks arms typed targeted
    instruction_named r blocks (dispatch t k) typed targeted = targeted
    instruction_named r blocks (make_due f) typed targeted = tt
    instruction_named r blocks (open_temporaries ts) typed targeted = absurd targeted
    instruction_named r blocks (end_temporary t) typed targeted = absurd targeted
    instruction_named r blocks (stop t) typed targeted = tt
    instruction_named r blocks ret typed targeted = tt

    -- and each instruction of a block
    code_named : (r blocks : ℕ) (code : List Instr) → AreTypedInstrs core r code → Every (IsTargeted core r blocks) code → Every (IsNamed core blocks) code
    code_named r blocks [] typed targeted = tt
    code_named r blocks (i ∷ code) typed (leads, targeted) =
        (instruction_named r blocks i (All-head (IsTypedInstr core r) i code typed) leads, code_named r blocks code (All-tail (IsTypedInstr core r) i code typed) targeted)

    -- Typed blocks whose branches lead to blocks name what is there.
    pub blocks_named : (r blocks : ℕ) (bs : List (List Instr)) → AreTypedBlocks core r bs → Every (IsCode (IsTargeted core r blocks)) bs → Every (IsCode (IsNamed core blocks)) bs
    blocks_named r blocks [] typed are = tt
    blocks_named r blocks (code ∷ bs) typed (first, are) =
        let here = All-head (AreTypedInstrs core r) code bs typed in
        let rest = All-tail (AreTypedInstrs core r) code bs typed in
        (record { each = code_named r blocks code here first.each; leaves = first.leaves }, blocks_named r blocks bs rest are)
