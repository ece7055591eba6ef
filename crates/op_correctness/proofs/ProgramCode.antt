-- The program's own code, which enters the parts of its units: it has no temporary, and takes two scratch registers.
use Rattle.std.proofs.Common.{◌≡◌, ◌≤◌, ℕ, ◌+◌, max, true, List, [], ◌∷◌, ◌++◌, fold, flat_map, length, map, nat_eq, Option, Some, None, slice_get, refl, sym, ap, ap₂, ◌∙◌, subst, arith, le_refl, if◌then◌else◌}
use Rattle.std.proofs.lemmas.Bool.Decides.{nat_tests}
use Rattle.std.proofs.lemmas.List.{length-map}
use Rattle.std.proofs.lemmas.List.Concat.{flat_map-cons}
use Rattle.std.proofs.lemmas.List.Elements.{All-head, All-tail}
use Rattle.std.proofs.lemmas.Option.{slice_get_past}
use Rattle.op_core.specs.Rows.{rows}
use Rattle.op_core.specs.Sound.{IsSound, IsSoundNesting}
use Rattle.op_core.specs.declared.ids.RoutineId.{RoutineId}
use Rattle.op_core.specs.declared.program.Core.{Core}
use Rattle.op_core.specs.declared.program.Unit.{Unit as UnitRow}
use Rattle.op_core.specs.declared.routine.Variable.{Variable}
use Rattle.op_places.specs.Frames.{first_room, frame_of, parameters_of, variables_room}
use Rattle.op_places.specs.Homes.{end_of, room_behind, roots_of, with_block, with_given, with_instruction, with_receiver}
use Rattle.op_places.specs.declared.homes.Room.{Room}
use Rattle.op_frames.proofs.Beginnings.{begins_two}
use Rattle.op_frames.proofs.Lowered.{most_at}
use Rattle.op_frames.proofs.MadeLemmas.{every_append}
use Rattle.op_frames.specs.Fitting.{IsFitting, registers_of_routine, room_of_block, room_of_instruction}
use Rattle.op_frames.specs.Made.{Every, IsCode, Leaves}
use Rattle.op_frames.specs.Named.{IsNamed}
use Rattle.op_frames.specs.Scratch.{givens_room, receiver_room, room_in}
use Rattle.op_lower.specs.Lowers.{IsProgram}
use Rattle.op_lower.specs.Temporaries.{in_block, in_given, in_instruction, in_receiver, most_of}
use Rattle.op_meaning.specs.Frames.{program_of}
use Rattle.op_meaning.specs.Items.{Given as MeantGiven, Receiver as MeantReceiver, nowhere}
use Rattle.op_meaning.specs.Shapes.{variables_in, variables_of}
use Rattle.op_mir.specs.Code.{Instr, do_act, do_call, jump, when, unless, switch, dispatch, make_due, open_temporaries, end_temporary, stop, ret, becoming_due, blocks_of, entering, items_of, program_blocks, unit_code}
use Rattle.op_mir.specs.View.{view_block, view_given, view_instruction, view_receiver}
use Rattle.op_mir.specs.declared.code.Block.{Block}
use Rattle.op_mir.specs.declared.code.Routine.{Routine}
use Rattle.op_mir.specs.declared.instruction.Given.{Given}
use Rattle.op_mir.specs.declared.instruction.Instruction.{Instruction}
use Rattle.op_mir.specs.declared.instruction.Instruction.TheVariants.{Act, Call, Jump, When, Unless, Switch, Dispatch, MakeDue, OpenTemporaries, EndTemporary, Stop, Return}
use Rattle.op_mir.specs.declared.instruction.Receiver.{Receiver}
use Rattle.op_mir.specs.declared.instruction.Receiver.TheVariants.{Nowhere, Temporary as ToTemporary, Place}
use Rattle.op_mir.specs.declared.path.Root.{Root}
use Rattle.op_typing.proofs.CodeTyped.{code_is_typed}
use Rattle.op_typing.specs.Simple.{IsSimpleProgram}
use Rattle.op_typing.specs.Typed.{AreTypedBlocks, AreTypedInstrs, IsTypedInstr}
use Rattle.op_correctness.proofs.Named.{call_named}

-- it enters a part, makes one due, or returns
abbrev IsOwn : Instr → Type 0
IsOwn (do_call q given receiver landing) = (given ≡ []) × (receiver ≡ nowhere)
IsOwn (make_due f) = Unit {0}
IsOwn ret = Unit {0}
IsOwn (do_act a landing) = ⊥
IsOwn (jump k) = ⊥
IsOwn (when t k) = ⊥
IsOwn (unless t k) = ⊥
IsOwn (switch t arms) = ⊥
IsOwn (dispatch t k) = ⊥
IsOwn (open_temporaries ts) = ⊥
IsOwn (end_temporary t) = ⊥
IsOwn (stop t) = ⊥

-- ---- the code as its machine sees it

-- a unit is entered by its initialization, and its finalization becomes due
entering_own : (part : Option RoutineId) → Every IsOwn (entering part)
entering_own None = tt
entering_own (Some q) = ((refl, refl), tt)

due_own : (part : Option RoutineId) → Every IsOwn (becoming_due part)
due_own None = tt
due_own (Some q) = (tt, tt)

units_own : (us : List UnitRow) → Every IsOwn (flat_map unit_code us)
units_own [] = tt
units_own (u ∷ us) =
    let here = every_append IsOwn (entering u.initialization) (becoming_due u.finalization) (entering_own u.initialization) (due_own u.finalization) in
    subst (Every IsOwn) (sym (flat_map-cons unit_code u us)) (every_append IsOwn (unit_code u) (flat_map unit_code us) here (units_own us))

-- code that ends with a return leaves
returns : (code : List Instr) → Leaves (code ++ ret ∷ [])
returns [] = tt
returns (i ∷ []) = tt
returns (i ∷ j ∷ code) = returns (j ∷ code)

-- the program's two blocks
own_blocks : (us : List UnitRow) → Every (IsCode IsOwn) ((flat_map unit_code us ++ ret ∷ []) ∷ (ret ∷ []) ∷ [])
own_blocks us = (
  record { each = every_append IsOwn (flat_map unit_code us) (ret ∷ []) (units_own us) (tt, tt); leaves = returns (flat_map unit_code us) },
  (record { each = (tt, tt); leaves = tt }, tt),
)

module _ (core : Core) (sound : IsSound core) (simple : IsSimpleProgram core) (r blocks : ℕ) where
  -- what an instruction of it names is there
  own_named : (i : Instr) → IsOwn i → IsTypedInstr core r i → IsNamed core blocks i
  own_named (do_call q given receiver landing) own typed = call_named core sound simple r q given receiver typed
  own_named (make_due f) own typed = tt
  own_named ret own typed = tt
  own_named (do_act a landing) own typed = absurd own
  own_named (jump k) own typed = absurd own
  own_named (when t k) own typed = absurd own
  own_named (unless t k) own typed = absurd own
  own_named (switch t arms) own typed = absurd own
  own_named (dispatch t k) own typed = absurd own
  own_named (open_temporaries ts) own typed = absurd own
  own_named (end_temporary t) own typed = absurd own
  own_named (stop t) own typed = absurd own

  own_code_named : (code : List Instr) → Every IsOwn code → AreTypedInstrs core r code → Every (IsNamed core blocks) code
  own_code_named [] own typed = tt
  own_code_named (i ∷ code) (first, own) typed =
      (own_named i first (All-head (IsTypedInstr core r) i code typed), own_code_named code own (All-tail (IsTypedInstr core r) i code typed))

  own_blocks_named : (bs : List (List Instr)) → Every (IsCode IsOwn) bs → AreTypedBlocks core r bs → Every (IsCode (IsNamed core blocks)) bs
  own_blocks_named [] own typed = tt
  own_blocks_named (code ∷ bs) (first, own) typed =
      let each = own_code_named code first.each (All-head (AreTypedInstrs core r) code bs typed) in
      (record { each = each; leaves = first.leaves }, own_blocks_named bs own (All-tail (AreTypedInstrs core r) code bs typed))

-- ---- what its instructions take

-- where its machine sees no argument there is none, and no place for a result
nothing_given : (gs : List Given) → map view_given gs ≡ [] → gs ≡ []
nothing_given [] e = refl
nothing_given (g ∷ gs) e = absurd cc

nothing_received : (y : Receiver) → view_receiver y ≡ nowhere → y ≡ Nowhere
nothing_received Nowhere e = refl
nothing_received (ToTemporary t) e = absurd cc
nothing_received (Place of to) e = absurd cc

-- no temporary, two scratch registers at most, and no place
pub record TakesLittle (core : Core) (r : ℕ) (i : Instruction) : Type 0 where
  pub temporaries : in_instruction i ≤ 0
  pub room : room_of_instruction core r i ≤ 2
  pub roots : (roots : List Root) → with_instruction roots i ≡ roots

module _ (core : Core) (r : ℕ) where
  -- each instruction of it takes little
  little : (i : Instruction) → IsOwn (view_instruction core r i) → TakesLittle core r i
  unfolding in_instruction
  little (Call id call) (given, receiver) =
      let gs : call.given ≡ [] = nothing_given call.given given in
      let y : call.receiver ≡ Nowhere = nothing_received call.receiver receiver in
      let none : max (most_of in_given call.given) (in_receiver call.receiver) ≡ 0 = ap₂ (λ gs y. max (most_of in_given gs) (in_receiver y)) gs y in
      let same : (roots : List Root) → with_receiver (fold with_given roots call.given) call.receiver ≡ roots = λ roots. ap₂ (λ gs y. with_receiver (fold with_given roots gs) y) gs y in
      record { temporaries = omega (arith, none); room = room_is id.0 (map view_given call.given) (view_receiver call.receiver) given receiver; roots = same }
    where
      room_is : (q : ℕ) (gs : List MeantGiven) (y : MeantReceiver) → gs ≡ [] → y ≡ nowhere → room_in (do_call q gs y None) ≤ 2
      room_is q gs y given receiver = let one : 1 + receiver_room y + givens_room gs ≡ 1 = ap₂ (λ gs y. 1 + receiver_room y + givens_room gs) given receiver in omega (arith, one)
  little (MakeDue f) own = record { temporaries = le_refl 0; room = le_refl 2; roots = λ roots. refl }
  little (OpenTemporaries ts) own = absurd own
  little (EndTemporary t) own = absurd own
  little Return own = record { temporaries = le_refl 0; room = omega arith; roots = λ roots. refl }
  little (Act a landing) own = absurd own
  little (Jump block) own = absurd own
  little (When t block) own = absurd own
  little (Unless t block) own = absurd own
  little (Switch t arms) own = absurd own
  little (Dispatch t block) own = absurd own
  little (Stop t) own = absurd own

  all_little : (code : List Instruction) → Every IsOwn (map (view_instruction core r) code) → Every (TakesLittle core r) code
  all_little [] own = tt
  all_little (i ∷ code) (first, own) = (little i first, all_little code own)

  -- so does code
  code_temporaries : (code : List Instruction) → Every (TakesLittle core r) code → Every (λ i. in_instruction i ≤ 0) code
  code_temporaries [] are = tt
  code_temporaries (i ∷ code) (first, are) = (first.temporaries, code_temporaries code are)

  code_room : (code : List Instruction) → Every (TakesLittle core r) code → Every (λ i. room_of_instruction core r i ≤ 2) code
  code_room [] are = tt
  code_room (i ∷ code) (first, are) = (first.room, code_room code are)

  code_roots : (code : List Instruction) (roots : List Root) → Every (TakesLittle core r) code → fold with_instruction roots code ≡ roots
  code_roots [] roots are = refl
  code_roots (i ∷ code) roots (first, are) = ap (λ rs. fold with_instruction rs code) (first.roots roots) ∙ code_roots code roots are

  -- and so do blocks
  blocks_little : (bs : List Block) → Every (IsCode IsOwn) (map (view_block core r) bs) → Every (λ b. Every (TakesLittle core r) b.code) bs
  blocks_little [] own = tt
  blocks_little (b ∷ bs) (first, own) = (all_little b.code first.each, blocks_little bs own)

  blocks_temporaries : (bs : List Block) → Every (λ b. Every (TakesLittle core r) b.code) bs → Every (λ b. in_block b ≤ 0) bs
  blocks_temporaries [] are = tt
  blocks_temporaries (b ∷ bs) (first, are) = (most_at in_instruction b.code 0 (code_temporaries b.code first), blocks_temporaries bs are)

  blocks_room : (bs : List Block) → Every (λ b. Every (TakesLittle core r) b.code) bs → Every (λ b. room_of_block core r b ≤ 2) bs
  blocks_room [] are = tt
  blocks_room (b ∷ bs) (first, are) = (most_at (room_of_instruction core r) b.code 2 (code_room b.code first), blocks_room bs are)

  blocks_roots : (bs : List Block) (roots : List Root) → Every (λ b. Every (TakesLittle core r) b.code) bs → fold with_block roots bs ≡ roots
  blocks_roots [] roots are = refl
  blocks_roots (b ∷ bs) roots (first, are) = ap (λ rs. fold with_block rs bs) (code_roots b.code roots first) ∙ blocks_roots bs roots are

-- ---- its frame

module _ (core : Core) (sound : IsSound core) (nesting : IsSoundNesting core) (simple : IsSimpleProgram core) (x : Routine) (is : IsProgram core.units x) where
  abbrev number : ℕ
  number = length core.routines

  -- what its machine sees
  seen : map (view_block core number) x.blocks ≡ (flat_map unit_code core.units ++ ret ∷ []) ∷ (ret ∷ []) ∷ []
  seen = is.blocks core number

  own : Every (IsCode IsOwn) (map (view_block core number) x.blocks)
  own = subst (Every (IsCode IsOwn)) (sym seen) (own_blocks core.units)

  each_little : Every (λ b. Every (TakesLittle core number) b.code) x.blocks
  each_little = blocks_little core number x.blocks own

  -- it is typed
  typed : AreTypedBlocks core number ((flat_map unit_code core.units ++ ret ∷ []) ∷ (ret ∷ []) ∷ [])
  typed =
      let p = program_of core 0 in
      let same : nat_eq number number ≡ true = grind (arith, nat_tests) in
      subst (λ b. AreTypedBlocks core number (if b then program_blocks p else blocks_of (items_of p number))) same (code_is_typed core 0 sound nesting simple number)

  -- nothing in it needs an address
  no_roots : roots_of x ≡ []
  no_roots = blocks_roots core number x.blocks [] each_little

  -- its number is that of no routine
  no_row : slice_get core.routines number ≡ None
  no_row = slice_get_past core.routines number (le_refl number)

  -- so it has no parameters and no variables
  no_parameters : parameters_of core number ≡ 0
  no_parameters = rw no_row refl

  no_variables : rows core.variables (variables_of core number) ≡ []
  no_variables = ap (λ o. rows core.variables (variables_in o)) no_row

  -- the first two registers are its own
  room_is : variables_room core number x ≡ first_room 0
  room_is = ap₂ (λ n vs. room_behind core n (roots_of x) 0 (first_room n) vs) no_parameters no_variables

  -- It has no locals.
  pub program_locals : (frame_of core number x).locals ≡ 0
  program_locals = ap₂ (λ (room : Room) roots. end_of core room.offset roots) room_is no_roots

  -- It names four registers at most.
  pub program_registers : registers_of_routine core number x ≤ 4
  program_registers =
      let first : (variables_room core number x).register ≡ 2 = ap (λ (room : Room). room.register) room_is in
      let rooms = most_at (room_of_block core number) x.blocks 2 (blocks_room core number x.blocks each_little) in
      let none = is.temporaries in
      let begins = begins_two core number x in
      omega (arith, first, rooms, none, begins)

  -- The program's own code names what is there, and its frame is small.
  pub program_fits : IsFitting core number x
  program_fits =
      let blocks = length x.blocks in
      let registers = program_registers in
      let locals = program_locals in
      let two : length x.blocks ≡ 2 = sym (length-map x.blocks (view_block core number)) ∙ ap length seen in
      let none = most_at in_block x.blocks 0 (blocks_temporaries core number x.blocks each_little) in
      let some = is.temporaries in
      let parameters = no_parameters in
      record {
        code = own_blocks_named core sound simple number blocks (map (view_block core number) x.blocks) own (subst (AreTypedBlocks core number) (sym seen) typed);
        some = omega (arith, two);
        temporaries = omega (arith, none, some);
        references = λ k v at refers. absurd (nothing_at k v (sym (ap (λ vs. slice_get vs k) no_variables) ∙ at));
        parameters = omega (arith, parameters);
        registers = λ less. omega (arith, registers);
        locals = λ less. omega (arith, locals);
      }
    where
      nothing_at : (k : ℕ) (v : Variable) → slice_get {X = Variable} [] k ≡ Some v → ⊥
      nothing_at k v e = absurd cc
