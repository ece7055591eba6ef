-- What lowering makes of items is code whose instructions are made of them.
use Rattle.std.proofs.Common.{◌≡◌, ◌<◌, ◌≤◌, ℕ, zero, suc, pos, ◌+◌, ◌*◌, max, Bool, true, false, List, [], ◌∷◌, ◌++◌, length, map, fold, Option, Some, None, slice_get, refl, sym, ap, ◌∙◌, subst, arith, le_refl}
use Rattle.std.proofs.lemmas.List.{length-map}
use Rattle.op_core.specs.declared.program.Core.{Core}
use Rattle.op_frames.proofs.MadeLemmas.{blocks_well}
use Rattle.op_frames.specs.Fitting.{room_of_block, room_of_instruction}
use Rattle.op_frames.specs.Made.{Every, AreMade, IsCode}
use Rattle.op_frames.specs.Named.{IsNamed}
use Rattle.op_frames.specs.Scratch.{room_in}
use Rattle.op_frames.specs.Within.{StepsBelow, ActionBelow, DestinationBelow, OperandBelow, GivenBelow, ReceiverBelow, IsWithin}
use Rattle.op_lower.specs.Lowers.{IsRoutine}
use Rattle.op_lower.specs.Seen.{seen_blocks}
use Rattle.op_lower.specs.Temporaries.{most_of, up_to, in_step, in_path, in_computation, in_operand, in_destination, in_action, in_given, in_receiver, in_call, in_instruction, in_block, in_blocks}
use Rattle.op_meaning.specs.Frames.{program_of}
use Rattle.op_meaning.specs.Primitives.{EachOperand}
use Rattle.op_mir.specs.Code.{Instr, blocks_of, items_of, jump, ret}
use Rattle.op_mir.specs.View.{view_block, view_instruction, view_action, view_computation, view_destination, view_operand, view_given, view_receiver, view_step}
use Rattle.op_mir.specs.declared.action.Action.{Action}
use Rattle.op_mir.specs.declared.action.Action.TheVariants.{Constant, Load, Store, Copy, Look, BeginWith, Pick, Compute, Do}
use Rattle.op_mir.specs.declared.action.Computation.{Computation}
use Rattle.op_mir.specs.declared.action.Computation.TheVariants.{Arithmetic, Compare, Negate, Complement, Invert, Absolute, Odd, Upper, LowBits, Check, Neighbour, Single, Span, Combine, Contains, CheckSet}
use Rattle.op_mir.specs.declared.action.Destination.{Destination}
use Rattle.op_mir.specs.declared.action.Destination.TheVariants.{Unused, InTemporary, InNew, IntoPlace, OverPlace}
use Rattle.op_mir.specs.declared.action.Operand.{Operand}
use Rattle.op_mir.specs.declared.action.Operand.TheVariants.{Number, Text, Literal}
use Rattle.op_mir.specs.declared.code.Block.{Block}
use Rattle.op_mir.specs.declared.code.Routine.{Routine}
use Rattle.op_mir.specs.declared.instruction.Given.{Given}
use Rattle.op_mir.specs.declared.instruction.Given.TheVariants.{ByValue, ByPlace, ByCopy}
use Rattle.op_mir.specs.declared.instruction.Instruction.{Instruction}
use Rattle.op_mir.specs.declared.instruction.Instruction.TheVariants.{Act, Call, Jump, When, Unless, Switch, Dispatch, MakeDue, OpenTemporaries, EndTemporary, Stop, Return}
use Rattle.op_mir.specs.declared.instruction.Receiver.{Receiver}
use Rattle.op_mir.specs.declared.instruction.Receiver.TheVariants.{Nowhere, Temporary, Place}
use Rattle.op_mir.specs.declared.path.Path.{Path}
use Rattle.op_mir.specs.declared.path.Step.{Step}
use Rattle.op_mir.specs.declared.path.Step.TheVariants.{Field, Element}

-- ---- blocks

-- this holds of each instruction of a routine's blocks, if it does of those that its items become
pub code_is : (Q : Instr → Type 0) (core : Core) (stack r : ℕ) (routine : Routine) → ((k : ℕ) → 0 < k → k < length routine.blocks → Q (jump k)) → Q ret → IsRoutine core r routine → AreMade Q (length routine.blocks) (items_of (program_of core stack) r) → Every (IsCode Q) (seen_blocks core r routine.blocks)
code_is Q core stack r routine jumps returns is made =
    let items = items_of (program_of core stack) r in
    let count : length (blocks_of items) ≡ length routine.blocks = ap length (sym (is.blocks stack)) ∙ length-map routine.blocks (view_block core r) in
    subst (Every (IsCode Q)) (sym (is.blocks stack)) (blocks_well Q (length routine.blocks) jumps returns items count made)

pub named_code : (core : Core) (stack r : ℕ) (routine : Routine) → IsRoutine core r routine → AreMade (IsNamed core (length routine.blocks)) (length routine.blocks) (items_of (program_of core stack) r) → Every (IsCode (IsNamed core (length routine.blocks))) (seen_blocks core r routine.blocks)
named_code core stack r routine is made = code_is (IsNamed core (length routine.blocks)) core stack r routine (λ k some less. less) tt is made

pub some_blocks : (core : Core) (stack r : ℕ) (routine : Routine) → IsRoutine core r routine → 0 < length routine.blocks
some_blocks core stack r routine is =
    let items = items_of (program_of core stack) r in
    let count : length (blocks_of items) ≡ length routine.blocks = ap length (sym (is.blocks stack)) ∙ length-map routine.blocks (view_block core r) in
    some_of (length (blocks_of items)) (length routine.blocks) count (two_blocks _)
  where
    two_blocks : (k : ℕ) → 0 < suc k
    two_blocks k = omega arith

    some_of : (a b : ℕ) → a ≡ b → 0 < a → 0 < b
    some_of a b e p = omega (arith, e, p)

-- ---- temporaries

most_under : {A : Type 0} (f : A → ℕ) (n : ℕ) (xs : List A) (top : ℕ) → n ≤ top → Every (λ x. f x ≤ top) xs → fold (λ most x. max most (f x)) n xs ≤ top
most_under f n [] top less p = less
most_under f n (x ∷ xs) top less p = most_under f (max n (f x)) xs top (both_under n (f x) top less p.0) p.1
  where
    both_under : (a b c : ℕ) → a ≤ c → b ≤ c → max a b ≤ c
    both_under a b c p q = omega arith

-- as many as the part has that has the most
pub most_at : {A : Type 0} (f : A → ℕ) (xs : List A) (top : ℕ) → Every (λ x. f x ≤ top) xs → most_of f xs ≤ top
most_at f xs top p = most_under f 0 xs top (omega arith) p

module _ (top room : ℕ) where
  steps_under : (ss : List Step) → StepsBelow top (map view_step ss) → Every (λ s. in_step s ≤ top) ss
  steps_under [] p = tt
  steps_under (Field of k ∷ ss) p = (omega arith, steps_under ss p)
  steps_under (Element of low high t ∷ ss) p = (omega (arith, p.0), steps_under ss p.1)

  path_under : (p : Path) → StepsBelow top (map view_step p.steps) → in_path p ≤ top
  path_under p b = most_at in_step p.steps top (steps_under p.steps b)

  computation_under : (c : Computation) → ActionBelow top (view_computation c) → in_computation c ≤ top
  unfolding in_computation
  computation_under (Arithmetic o checked to a b) p = omega (arith, p.0, p.1, p.2)
  computation_under (Compare o to a b) p = omega (arith, p.0, p.1, p.2)
  computation_under (Negate checked to a) p = omega (arith, p.0, p.1)
  computation_under (Complement to a) p = omega (arith, p.0, p.1)
  computation_under (Invert to a) p = omega (arith, p.0, p.1)
  computation_under (Absolute checked to a) p = omega (arith, p.0, p.1)
  computation_under (Odd to a) p = omega (arith, p.0, p.1)
  computation_under (Upper to a) p = omega (arith, p.0, p.1)
  computation_under (LowBits kind to a) p = omega (arith, p.0, p.1)
  computation_under (Check low high to a) p = omega (arith, p.0, p.1)
  computation_under (Neighbour distance low high to a) p = omega (arith, p.0, p.1)
  computation_under (Single to a) p = omega (arith, p.0, p.1)
  computation_under (Span to a b) p = omega (arith, p.0, p.1, p.2)
  computation_under (Combine o to a b) p = omega (arith, p.0, p.1, p.2)
  computation_under (Contains to a b) p = omega (arith, p.0, p.1, p.2)
  computation_under (CheckSet all to a) p = omega (arith, p.0, p.1)

  operands_under : (os : List Operand) → EachOperand (OperandBelow top) (map view_operand os) → Every (λ o. in_operand o ≤ top) os
  unfolding in_operand
  operands_under [] p = tt
  operands_under (Number t ∷ os) p = (omega (arith, p.0), operands_under os p.1)
  operands_under (Text path ∷ os) p = (path_under path p.0, operands_under os p.1)
  operands_under (Literal text ∷ os) p = (omega arith, operands_under os p.1)

  destination_under : (to : Destination) → DestinationBelow top (view_destination to) → in_destination to ≤ top
  unfolding in_destination
  destination_under Unused p = omega arith
  destination_under (InTemporary t) p = omega (arith, p)
  destination_under (InNew of n) p = omega arith
  destination_under (IntoPlace of to old) p = path_under to p
  destination_under (OverPlace to) p = path_under to p

  action_under : (core : Core) (r : ℕ) (a : Action) → ActionBelow top (view_action core r a) → in_action a ≤ top
  unfolding in_action
  action_under core r (Constant to n) p = omega (arith, p)
  action_under core r (Load to kind from) p = let e = path_under from p.1 in omega (arith, p.0, e)
  action_under core r (Store to kind from) p = let e = path_under to p.1 in omega (arith, p.0, e)
  action_under core r (Copy of to from) p = let e = path_under to p.0 in let f = path_under from p.1 in omega (arith, e, f)
  action_under core r (Look at) p = path_under at p
  action_under core r (BeginWith v) p = omega arith
  action_under core r (Pick to text index) p = omega (arith, p.0, p.1)
  action_under core r (Compute c) p = computation_under c p
  action_under core r (Do q os to) p =
      let all = most_at in_operand os top (operands_under os p.0) in
      let one = destination_under to p.1 in
      omega (arith, all, one)

  given_under : (g : Given) → GivenBelow top (view_given g) → in_given g ≤ top
  given_under (ByValue kind t) p = omega (arith, p)
  given_under (ByPlace path) p = path_under path p
  given_under (ByCopy of path) p = path_under path p

  givens_under : (gs : List Given) → Every (GivenBelow top) (map view_given gs) → Every (λ g. in_given g ≤ top) gs
  givens_under [] p = tt
  givens_under (g ∷ gs) p = (given_under g p.0, givens_under gs p.1)

  receiver_under : (to : Receiver) → ReceiverBelow top (view_receiver to) → in_receiver to ≤ top
  receiver_under Nowhere p = omega arith
  receiver_under (Temporary t) p = omega (arith, p)
  receiver_under (Place of path) p = path_under path p

  instruction_under : (core : Core) (r : ℕ) (i : Instruction) → IsWithin top room (view_instruction core r i) → (in_instruction i ≤ top) × (room_of_instruction core r i ≤ room)
  unfolding in_instruction
  instruction_under core r (Act a landing) p = (action_under core r a p.0, p.1)
  instruction_under core r (Call f operands) p =
      let e = most_at in_given operands.given top (givens_under operands.given p.0) in
      let g = receiver_under operands.receiver p.1 in
      (omega (arith, e, g), p.2)
  instruction_under core r (Jump block) p = (omega arith, omega arith)
  instruction_under core r (When t block) p = (omega (arith, p.0), p.1)
  instruction_under core r (Unless t block) p = (omega (arith, p.0), p.1)
  instruction_under core r (Switch t arms) p = (omega (arith, p.0), p.1)
  instruction_under core r (Dispatch t block) p = (omega (arith, p.0), p.1)
  instruction_under core r (MakeDue f) p = (omega arith, omega (arith, p))
  instruction_under core r (OpenTemporaries ts) p = (omega arith, omega arith)
  instruction_under core r (EndTemporary t) p = (omega arith, omega arith)
  instruction_under core r (Stop t) p = (omega (arith, p), omega arith)
  instruction_under core r Return p = (omega arith, omega arith)

  code_under : (core : Core) (r : ℕ) (code : List Instruction) → Every (IsWithin top room) (map (view_instruction core r) code) → Every (λ i. in_instruction i ≤ top) code × Every (λ i. room_of_instruction core r i ≤ room) code
  code_under core r [] p = (tt, tt)
  code_under core r (i ∷ code) p =
      let here = instruction_under core r i p.0 in
      let rest = code_under core r code p.1 in
      ((here.0, rest.0), (here.1, rest.1))

  blocks_under : (core : Core) (r : ℕ) (bs : List Block) → Every (IsCode (IsWithin top room)) (map (view_block core r) bs) → Every (λ b. in_block b ≤ top) bs × Every (λ b. room_of_block core r b ≤ room) bs
  blocks_under core r [] p = (tt, tt)
  blocks_under core r (b ∷ bs) p =
      let code = p.0 in
      let here = code_under core r b.code code.each in
      let rest = blocks_under core r bs p.1 in
      ((most_at in_instruction b.code top here.0, rest.0), (most_at (room_of_instruction core r) b.code room here.1, rest.1))

  -- no more temporaries and scratch registers than the items name
  pub routine_under : (core : Core) (stack r : ℕ) (routine : Routine) → IsRoutine core r routine → AreMade (IsWithin top room) (length routine.blocks) (items_of (program_of core stack) r) → (routine.temporaries ≤ top) × (most_of (room_of_block core r) routine.blocks ≤ room)
  routine_under core stack r routine is made =
      let code = code_is (IsWithin top room) core stack r routine (λ k some less. tt) tt is made in
      let under = blocks_under core r routine.blocks code in
      let t = most_at in_block routine.blocks top under.0 in
      (omega (arith, t, is.temporaries), most_at (room_of_block core r) routine.blocks room under.1)
