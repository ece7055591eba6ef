-- The low code of instructions and of blocks has its operands in range, and its last instruction leaves it.
use Rattle.std.proofs.Common.{◌≡◌, ◌<◌, ◌≤◌, ◌⊎◌, ℕ, suc, ◌+◌, Bool, true, false, List, [], ◌∷◌, ◌++◌, length, map, slice_get, option_map, Option, Some, None, append-nil, true≢false, refl, sym, ap, ◌∙◌, subst, arith, if◌then◌else◌, inl, inr, FitsSigned}
use Rattle.std.specs.Int.{w32}
use Rattle.op_compute.specs.Bank.{scratch_of}
use Rattle.op_compute.specs.Branches.{block_of}
use Rattle.op_constants.specs.FirstBytes.{are_zeros, first_bytes, first_number}
use Rattle.op_constants.specs.Literals.{action_literals, first_literals, first_of_row, instruction_literals}
use Rattle.op_constants.specs.Offsets.{size_in}
use Rattle.op_constants.specs.Shapes.{is_composite}
use Rattle.op_constants.specs.Texts.{number_of}
use Rattle.op_core.specs.declared.ids.TypeId.{TypeId}
use Rattle.op_core.specs.declared.program.Core.{Core}
use Rattle.op_core.specs.declared.routine.Variable.{Variable}
use Rattle.op_core.specs.declared.statement.Label.{Label}
use Rattle.op_core.specs.declared.types.IntegerKind.{IntegerKind}
use Rattle.op_core.specs.Initial.{FirstValue, first_value_of}
use Rattle.op_expand.specs.Calls.{left, result_address, number_code, parts_code, return_code, closing_call, has_closing}
use Rattle.op_places.specs.Frames.{frame_of}
use Rattle.op_places.specs.Homes.{parameter}
use Rattle.op_places.specs.Places.{at_register, place_code, place_of}
use Rattle.op_expand.specs.Actions.{action_code, composite_begun, begun_by, begun_code, number_begun, parts_begun, row_of, zeros_begun}
use Rattle.op_places.specs.Moves.{by_words, bytes_code, limit_of, load_code, held, near}
use Rattle.op_expand.specs.Routines.{instruction_code, code_of}
use Rattle.op_places.specs.declared.frame.Frame.{Frame}
use Rattle.op_places.specs.declared.frame.Returning.{Returning}
use Rattle.op_places.specs.declared.frame.Returning.TheVariants.{Ending, Nothing, Result}
use Rattle.op_frames.proofs.CallsFine.{CanReturn, TakesClosing, call_fine, due_fine, return_fine, stop_fine}
use Rattle.op_frames.proofs.ComputingFine.{IsArm, HasWord, joined, constant_fine, true_fine, false_fine, switch_fine, dispatch_fine}
use Rattle.op_frames.proofs.Fine.{Bounds, Below, AreFine}
use Rattle.op_frames.proofs.MovesFine.{HasRuntime, zeros_begun_fine, load_fine, store_fine, copy_fine, path_fine, number_begun_fine, number_held_fine, parts_begun_fine, pick_fine, primitive_fine, register_below, the_work, computation_fine}
use Rattle.op_frames.proofs.PlacesFine.{IsFrame, Temporaries}
use Rattle.op_frames.specs.Made.{Every, IsLast, Leaves}
use Rattle.op_frames.specs.Named.{IsNamed, IsNamedAction, IsNamedArm, IsNamedLabel}
use Rattle.op_frames.specs.Scratch.{action_room, room_in}
use Rattle.op_low.specs.Valid.{leaves, takes}
use Rattle.op_low.specs.declared.code.Low.{Low}
use Rattle.op_low.specs.declared.ids.VirtualRegister.{VirtualRegister}
use Rattle.op_low.specs.declared.instruction.Instruction.{Instruction as LowInstruction}
use Rattle.op_low.specs.declared.instruction.Instruction.TheVariants.{Jump as LowJump, Return as LowReturn, Const, Exit}
use Rattle.op_lower.specs.Temporaries.{in_action, in_instruction}
use Rattle.op_meaning.specs.Shapes.{Shape, single, composite, of_chars, of_elements, of_instance, shape_of, type_of_local, type_of_row, variables_of}
use Rattle.op_meaning.specs.Statements.{kind_of}
use Rattle.op_mir.specs.View.{first_at, view_action, view_arm, view_computation, view_instruction}
use Rattle.op_mir.specs.declared.action.Action.{Action}
use Rattle.op_mir.specs.declared.action.Action.TheVariants.{Constant, Load, Store, Copy, Look, BeginWith, Pick, Compute, Do}
use Rattle.op_mir.specs.declared.action.Computation.{Computation}
use Rattle.op_mir.specs.declared.action.Computation.TheVariants.{Arithmetic, Compare, Negate, Complement, Invert, Absolute, Odd, Upper, LowBits, Check, Neighbour, Single, Span, Combine, Contains, CheckSet}
use Rattle.op_mir.specs.declared.code.Mir.{Mir}
use Rattle.op_mir.specs.declared.code.Routine.{Routine}
use Rattle.op_mir.specs.declared.ids.BlockId.{BlockId as ManagedBlock}
use Rattle.op_mir.specs.declared.ids.LocalId.{LocalId}
use Rattle.op_mir.specs.declared.instruction.Arm.{Arm}
use Rattle.op_mir.specs.declared.instruction.Instruction.{Instruction}
use Rattle.op_mir.specs.declared.instruction.Instruction.TheVariants.{Act, Call, Jump, When, Unless, Switch, Dispatch, MakeDue, OpenTemporaries, EndTemporary, Stop, Return}
use Rattle.op_mir.specs.declared.path.Root.TheVariants.{Local}
use Rattle.op_rt_text.specs.Names.{register}

-- ---- what leaves code

abbrev pub Ends : List LowInstruction → Type 0
Ends [] = ⊥
Ends (i ∷ []) = leaves i ≡ true
Ends (i ∷ j ∷ is) = Ends (j ∷ is)

ends_more : (i : LowInstruction) (is : List LowInstruction) → Ends is → Ends (i ∷ is)
ends_more i [] e = absurd e
ends_more i (j ∷ is) e = e

pub ends_behind : (a b : List LowInstruction) → Ends b → Ends (a ++ b)
ends_behind [] b e = e
ends_behind (i ∷ is) b e = ends_more i (is ++ b) (ends_behind is b e)

number_ends : (core : Core) (frame : Frame) (kind : IntegerKind) (v : LocalId) → Ends (number_code core frame kind v)
unfolding leaves
number_ends core frame kind v = by (held core frame (Local v) []) refl
  where
    by : (o : Option VirtualRegister) → held core frame (Local v) [] ≡ o → Ends (number_code core frame kind v)
    by (Some r) e = rw e refl
    by None e = rw e (ends_behind (load_code core frame kind left (Local v) [] left) (LowReturn left ∷ []) refl)

parts_end : (core : Core) (frame : Frame) (of : TypeId) (v : LocalId) → Ends (parts_code core frame of v)
unfolding parts_code leaves
parts_end core frame of v =
    let limit = limit_of (by_words core of) (size_in core of) in
    ends_behind (place_code core frame limit (Local v) [] left ++ bytes_code (by_words core of) (size_in core of) (place_of core frame limit (Local v) [] left) (at_register result_address (register (parameter 0)))) (LowReturn left ∷ []) refl

result_ends : (whole : Bool) (core : Core) (frame : Frame) (of : TypeId) (v : LocalId) → Ends (if whole then parts_code core frame of v else number_code core frame (kind_of core of) v)
result_ends true core frame of v = parts_end core frame of v
result_ends false core frame of v = number_ends core frame (kind_of core of) v

return_ends : (core : Core) (frame : Frame) (returning : Returning) → Ends (return_code core frame returning)
unfolding leaves
return_ends core frame Ending = by (has_closing core)
  where
    by : (b : Bool) → Ends (if b then Const (scratch_of frame.bank 0) 0 ∷ closing_call core (scratch_of frame.bank 0) ∷ Exit left ∷ [] else Const left 0 ∷ Exit left ∷ [])
    by true = refl
    by false = refl
return_ends core frame Nothing = refl
return_ends core frame (Result of v) = result_ends (is_composite (shape_of core of)) core frame of v

jump_ends : (block : ManagedBlock) → Ends (LowJump (block_of block) ∷ [])
unfolding leaves
jump_ends block = refl

-- the last instruction of managed code leaves it
last_ends : (core : Core) (mir : Mir) (frame : Frame) (r : ℕ) (texts : List (List ℕ)) (i : Instruction) → IsLast (view_instruction core r i) → Ends (instruction_code core mir frame texts i)
last_ends core mir frame r texts (Jump block) l = jump_ends block
last_ends core mir frame r texts Return l = return_ends core frame frame.returning
last_ends core mir frame r texts (Act action landing) l = absurd l
last_ends core mir frame r texts (Call f operands) l = absurd l
last_ends core mir frame r texts (When t block) l = absurd l
last_ends core mir frame r texts (Unless t block) l = absurd l
last_ends core mir frame r texts (Switch t arms) l = absurd l
last_ends core mir frame r texts (Dispatch t block) l = absurd l
last_ends core mir frame r texts (MakeDue f) l = absurd l
last_ends core mir frame r texts (OpenTemporaries ts) l = absurd l
last_ends core mir frame r texts (EndTemporary t) l = absurd l
last_ends core mir frame r texts (Stop t) l = absurd l

pub code_ends : (core : Core) (mir : Mir) (frame : Frame) (r : ℕ) (texts : List (List ℕ)) (is : List Instruction) → Leaves (map (view_instruction core r) is) → Ends (code_of core mir frame texts is)
code_ends core mir frame r texts [] l = absurd l
code_ends core mir frame r texts (i ∷ []) l = subst Ends (sym (append-nil (instruction_code core mir frame texts i))) (last_ends core mir frame r texts i l)
code_ends core mir frame r texts (i ∷ j ∷ is) l = ends_behind (instruction_code core mir frame texts i) _ (code_ends core mir frame r texts (j ∷ is) l)

-- ---- literals

-- a literal that code takes is counted
abbrev pub IsNumbered : Low → List (List ℕ) → List ℕ → Type 0
IsNumbered low texts text = number_of texts text < low.counts.literals

-- ---- instructions

-- of a variable that begins with a value: there is a register for what is copied, and one more for a number that goes into memory
pub record CanBegin (m : Bounds) (core : Core) (frame : Frame) (v : LocalId) : Type 0 where
  pub one : frame.bank.scratch + 1 ≤ m.registers
  pub spare : is_composite (shape_of core (type_of_row (row_of core frame v))) ≡ true → Below m frame.spare
  pub another : is_composite (shape_of core (type_of_row (row_of core frame v))) ≡ false → ((q : VirtualRegister) × (held core frame (Local v) [] ≡ Some q)) ⊎ (frame.bank.scratch + 2 ≤ m.registers)

-- what an instruction asks of the program and of the frame
abbrev pub CanDo : Bounds → Core → Frame → Instruction → Type 0
CanDo m core frame (Act (BeginWith v) landing) = CanBegin m core frame v
CanDo m core frame (Call r operands) = takes (slice_get m.low.routines (9 + r.0)) (suc (suc (length operands.given))) ≡ true
CanDo m core frame (Stop t) = TakesClosing m core
CanDo m core frame Return = CanReturn m core frame frame.returning
CanDo m core frame _ = Unit {0}

module _ (m : Bounds) (core : Core) (r : ℕ) (routine : Routine) (n blocks : ℕ) (is : IsFrame m core (frame_of core r routine)) (temporaries : Temporaries (frame_of core r routine) n) (runtime : HasRuntime m) (fewer : blocks ≤ m.blocks) where
  -- what a variable begins with is the same in both definitions
  first_is : (v : LocalId) → first_at core r v.0 ≡ first_of_row (slice_get core.variables ((variables_of core r).first + v.0))
  first_is v = by (slice_get core.variables ((variables_of core r).first + v.0)) refl
    where
      row_by : (x : Variable) (o : Option FirstValue) → option_map (λ i. first_value_of i.value) x.first_value ≡ o → slice_get core.variables ((variables_of core r).first + v.0) ≡ Some x → first_at core r v.0 ≡ first_of_row (slice_get core.variables ((variables_of core r).first + v.0))
      row_by x None e is = rw is (rw e refl)
      row_by x (Some i) e is = rw is (rw e refl)

      by : (o : Option Variable) → slice_get core.variables ((variables_of core r).first + v.0) ≡ o → first_at core r v.0 ≡ first_of_row (slice_get core.variables ((variables_of core r).first + v.0))
      by None e = rw e refl
      by (Some x) e = row_by x (option_map (λ i. first_value_of i.value) x.first_value) refl e

  composite_fine : (texts : List (List ℕ)) (bytes : List ℕ) (zeros : Bool) (v : LocalId) (of : TypeId) → (zeros ≡ false → number_of texts bytes < m.low.counts.literals) → (frame_of core r routine).bank.scratch + 1 ≤ m.registers → Below m (frame_of core r routine).spare
      → AreFine m (if zeros then zeros_begun core (frame_of core r routine) (size_in core of) v else parts_begun core (frame_of core r routine) (size_in core of) (number_of texts bytes) v)
  composite_fine texts bytes true v of there one spare = zeros_begun_fine m core (frame_of core r routine) n is temporaries runtime (size_in core of) v (is.sizes of) spare one
  composite_fine texts bytes false v of there one spare = parts_begun_fine m core (frame_of core r routine) n is temporaries runtime (size_in core of) (number_of texts bytes) v (is.sizes of) (there refl) spare one

  begun_by_shape : (whole : Bool) (texts : List (List ℕ)) (v : LocalId) (of : TypeId) (row : Option Variable) → (whole ≡ false → FitsSigned w32 (first_number (first_of_row row))) → (whole ≡ true → are_zeros (first_bytes core of (first_of_row row)) ≡ false → number_of texts (first_bytes core of (first_of_row row)) < m.low.counts.literals)
      → (frame_of core r routine).bank.scratch + 1 ≤ m.registers → (whole ≡ true → Below m (frame_of core r routine).spare)
      → (whole ≡ false → ((q : VirtualRegister) × (held core (frame_of core r routine) (Local v) [] ≡ Some q)) ⊎ ((frame_of core r routine).bank.scratch + 2 ≤ m.registers))
      → AreFine m (if whole then composite_begun core (frame_of core r routine) texts (size_in core of) (first_bytes core of (first_of_row row)) v else number_begun core (frame_of core r routine) (kind_of core of) (first_number (first_of_row row)) v)
  begun_by_shape true texts v of row fits there one spare another = composite_fine texts (first_bytes core of (first_of_row row)) (are_zeros (first_bytes core of (first_of_row row))) v of (there refl) one (spare refl)
  begun_by_shape false texts v of row fits there one spare another = by (another refl)
    where
      by : ((q : VirtualRegister) × (held core (frame_of core r routine) (Local v) [] ≡ Some q)) ⊎ ((frame_of core r routine).bank.scratch + 2 ≤ m.registers) → AreFine m (number_begun core (frame_of core r routine) (kind_of core of) (first_number (first_of_row row)) v)
      by (inl (q, e)) = number_held_fine m core (frame_of core r routine) n is temporaries runtime (kind_of core of) (first_number (first_of_row row)) v q e (fits refl) one
      by (inr two) = number_begun_fine m core (frame_of core r routine) n is temporaries runtime (kind_of core of) (first_number (first_of_row row)) v (fits refl) two

  -- a variable of a type with parts takes a literal, where it does not begin as zero
  counted_by : (texts : List (List ℕ)) (bytes : List ℕ) (s : Shape) → Every (IsNumbered m.low texts) (first_literals s bytes) → is_composite s ≡ true → are_zeros bytes ≡ false → IsNumbered m.low texts bytes
  counted_by texts bytes composite there whole some = (subst (λ z. Every (IsNumbered m.low texts) (if z then [] else bytes ∷ [])) some there).0
  counted_by texts bytes (single kind) there whole some = absurd (true≢false (sym whole))
  counted_by texts bytes of_chars there whole some = absurd (true≢false (sym whole))
  counted_by texts bytes of_elements there whole some = absurd (true≢false (sym whole))
  counted_by texts bytes (of_instance holds) there whole some = absurd (true≢false (sym whole))

  counted : (texts : List (List ℕ)) (v : LocalId) → Every (IsNumbered m.low texts) (action_literals core r (BeginWith v)) → is_composite (shape_of core (type_of_local core r v.0)) ≡ true → are_zeros (first_bytes core (type_of_local core r v.0) (first_at core r v.0)) ≡ false → IsNumbered m.low texts (first_bytes core (type_of_local core r v.0) (first_at core r v.0))
  counted texts v there whole some =
      let bytes = first_bytes core (type_of_local core r v.0) (first_at core r v.0) in
      counted_by texts bytes (shape_of core (type_of_local core r v.0)) there whole some

  begun_fine : (texts : List (List ℕ)) (v : LocalId) → (is_composite (shape_of core (type_of_local core r v.0)) ≡ false → FitsSigned w32 (first_number (first_at core r v.0))) → Every (IsNumbered m.low texts) (action_literals core r (BeginWith v)) → CanBegin m core (frame_of core r routine) v → AreFine m (begun_code core (frame_of core r routine) texts v)
  unfolding begun_by
  begun_fine texts v fits there can =
      begun_by_shape (is_composite (shape_of core (type_of_local core r v.0))) texts v (type_of_local core r v.0) (row_of core (frame_of core r routine) v) (λ e. subst (λ f. FitsSigned w32 (first_number f)) (first_is v) (fits e))
      (λ e. subst (λ f. are_zeros (first_bytes core (type_of_local core r v.0) f) ≡ false → IsNumbered m.low texts (first_bytes core (type_of_local core r v.0) f)) (first_is v) (counted texts v there e)) can.one can.spare can.another

  computation_room : (c : Computation) → action_room (view_computation c) ≡ 3
  computation_room (Arithmetic o checked to a b) = refl
  computation_room (Compare o to a b) = refl
  computation_room (Negate checked to a) = refl
  computation_room (Complement to a) = refl
  computation_room (Invert to a) = refl
  computation_room (Absolute checked to a) = refl
  computation_room (Odd to a) = refl
  computation_room (Upper to a) = refl
  computation_room (LowBits kind to a) = refl
  computation_room (Check low high to a) = refl
  computation_room (Neighbour distance low high to a) = refl
  computation_room (Single to a) = refl
  computation_room (Span to a b) = refl
  computation_room (Combine o to a b) = refl
  computation_room (Contains to a b) = refl
  computation_room (CheckSet all to a) = refl

  action_fine : (texts : List (List ℕ)) (a : Action) → IsNamedAction core (view_action core r a) → in_action a ≤ n → (frame_of core r routine).bank.scratch + action_room (view_action core r a) ≤ m.registers → Every (IsNumbered m.low texts) (action_literals core r a) → CanDo m core (frame_of core r routine) (Act a None) → AreFine m (action_code core (frame_of core r routine) texts a)
  unfolding in_action
  action_fine texts (Constant to k) named t room there can = constant_fine m _ k named (register_below m core (frame_of core r routine) n is temporaries runtime to t)
  action_fine texts (Load to kind from) named t room there can = load_fine m core (frame_of core r routine) n is temporaries runtime kind from (scratch_of (frame_of core r routine).bank 0) named (omega (arith, t)) (omega (arith, room)) _ (register_below m core (frame_of core r routine) n is temporaries runtime to (omega (arith, t)))
  action_fine texts (Store to kind from) named t room there can = store_fine m core (frame_of core r routine) n is temporaries runtime kind to (scratch_of (frame_of core r routine).bank 0) named (omega (arith, t)) (omega (arith, room)) _ (register_below m core (frame_of core r routine) n is temporaries runtime from (omega (arith, t)))
  action_fine texts (Copy of to from) named t room there can = copy_fine m core (frame_of core r routine) n is temporaries runtime of to from named.0 named.1 (omega (arith, t)) (omega (arith, t)) (omega (arith, room))
  action_fine texts (Look at) named t room there can = joined m _ _ (path_fine m core (frame_of core r routine) n is temporaries runtime near at (scratch_of (frame_of core r routine).bank 0) named t (omega (arith, room))) ((omega (arith, room), omega arith), tt)
  action_fine texts (BeginWith v) named t room there can = begun_fine texts v named there can
  action_fine texts (Pick to text index) named t room there can = pick_fine m core (frame_of core r routine) n is temporaries runtime (number_of texts text) _ (length text) _ there.0 named (register_below m core (frame_of core r routine) n is temporaries runtime to (omega (arith, t))) (register_below m core (frame_of core r routine) n is temporaries runtime index (omega (arith, t))) room
  action_fine texts (Compute c) named t room there can = computation_fine m core (frame_of core r routine) n is temporaries runtime r c named t (subst (λ k. (frame_of core r routine).bank.scratch + k ≤ m.registers) (computation_room c) room)
  action_fine texts (Do p os to) named t room there can = primitive_fine m core (frame_of core r routine) n is temporaries runtime texts p os to named t room there

  -- the arms of a switch
  labels_words : (ls : List Label) → Every IsNamedLabel ls → Every HasWord ls
  labels_words [] h = tt
  labels_words (l ∷ ls) h = (h.0, labels_words ls h.1)

  arms_words : (arms : List Arm) → Every (IsNamedArm blocks) (map view_arm arms) → Every (IsArm m) arms
  arms_words [] h = tt
  arms_words (a ∷ others) h = ((omega (arith, h.0.0, fewer), labels_words a.labels h.0.1), arms_words others h.1)

  -- an instruction that has what it asks of the program and of the frame
  pub instruction_fine : (mir : Mir) (texts : List (List ℕ)) (i : Instruction) → IsNamed core blocks (view_instruction core r i) → in_instruction i ≤ n → (frame_of core r routine).bank.scratch + room_in (view_instruction core r i) ≤ m.registers → Every (IsNumbered m.low texts) (instruction_literals core r i) → CanDo m core (frame_of core r routine) i → AreFine m (instruction_code core mir (frame_of core r routine) texts i)
  unfolding in_instruction
  instruction_fine mir texts (Act a landing) named t room there can = action_fine texts a named t room there (can_act a landing can)
    where
      can_act : (a : Action) (landing : Option ManagedBlock) → CanDo m core (frame_of core r routine) (Act a landing) → CanDo m core (frame_of core r routine) (Act a None)
      can_act (BeginWith v) landing c = c
      can_act (Constant to k) landing c = tt
      can_act (Load to kind from) landing c = tt
      can_act (Store to kind from) landing c = tt
      can_act (Copy of to from) landing c = tt
      can_act (Look at) landing c = tt
      can_act (Pick to text index) landing c = tt
      can_act (Compute c') landing c = tt
      can_act (Do p os to) landing c = tt
  instruction_fine mir texts (Call f operands) named t room there can = call_fine m core (frame_of core r routine) n is temporaries runtime mir f.0 operands named.2 named.3 t room can
  instruction_fine mir texts (Jump block) named t room there can = (omega (arith, named, fewer), tt)
  instruction_fine mir texts (When t block) named c room there can = true_fine m _ (the_work m core (frame_of core r routine) n is temporaries runtime room) _ (register_below m core (frame_of core r routine) n is temporaries runtime t c) block (omega (arith, named, fewer))
  instruction_fine mir texts (Unless t block) named c room there can = false_fine m _ (the_work m core (frame_of core r routine) n is temporaries runtime room) _ (register_below m core (frame_of core r routine) n is temporaries runtime t c) block (omega (arith, named, fewer))
  instruction_fine mir texts (Switch t arms) named c room there can = switch_fine m _ (the_work m core (frame_of core r routine) n is temporaries runtime room) _ (register_below m core (frame_of core r routine) n is temporaries runtime t c) arms (arms_words arms named)
  instruction_fine mir texts (Dispatch t block) named c room there can = dispatch_fine m _ (the_work m core (frame_of core r routine) n is temporaries runtime room) _ (register_below m core (frame_of core r routine) n is temporaries runtime t (omega (arith, c))) block (omega (arith, named, fewer))
  instruction_fine mir texts (MakeDue f) named t room there can = due_fine m core (frame_of core r routine) n is temporaries runtime (omega (arith, room))
  instruction_fine mir texts (OpenTemporaries ts) named t room there can = absurd named
  instruction_fine mir texts (EndTemporary ended) named t room there can = absurd named
  instruction_fine mir texts (Stop t) named c room there can = stop_fine m core (frame_of core r routine) n is temporaries runtime _ (register_below m core (frame_of core r routine) n is temporaries runtime t c) can
  instruction_fine mir texts Return named t room there can = return_fine m core (frame_of core r routine) n is temporaries runtime (frame_of core r routine).returning can
