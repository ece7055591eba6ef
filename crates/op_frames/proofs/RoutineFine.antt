-- Routines whose blocks have their operands in range are valid.
use Rattle.std.proofs.Common.{◌≡◌, ◌<◌, ◌≤◌, ℕ, zero, suc, ◌+◌, ◌-◌, ◌%◌, ◌^◌, max, true, List, [], ◌∷◌, length, map, nat_eq, slice_get, fold, refl, sym, ap, subst, arith, le_refl, ◌++◌, flat_map}
use Rattle.std.proofs.Math.Nat.{le-max_left, le-max_right}
use Rattle.std.proofs.lemmas.Bool.{and_from, le-leb, lt-ltb}
use Rattle.std.specs.List.{list_all}
use Rattle.std.proofs.lemmas.List.Concat.{flat_map-cons}
use Rattle.op_constants.specs.Literals.{block_literals, instruction_literals}
use Rattle.op_core.specs.declared.program.Core.{Core}
use Rattle.op_places.specs.Frames.{frame_of}
use Rattle.op_expand.specs.Registers.{greatest_in, registers_in, with_block, with_instruction}
use Rattle.op_expand.specs.Routines.{code_of, blocks_of, error_block, error_blocks, routine_with}
use Rattle.op_frames.proofs.CodeFine.{CanDo, Ends, ends_behind, code_ends, instruction_fine, IsNumbered}
use Rattle.op_frames.proofs.ComputingFine.{joined}
use Rattle.op_frames.proofs.Fine.{Bounds, AreFine, greatest_below, valid_instruction}
use Rattle.op_frames.proofs.MovesFine.{HasRuntime}
use Rattle.op_frames.proofs.PlacesFine.{IsFrame, Temporaries}
use Rattle.op_frames.specs.Made.{Every, Leaves}
use Rattle.op_frames.specs.Named.{IsNamed}
use Rattle.op_frames.specs.Scratch.{room_in}
use Rattle.op_low.specs.Valid.{has_symbol, is_sized, is_valid_block, is_valid_instruction, is_valid_routine, leaves, leaves_if, most_locals, most_registers}
use Rattle.op_low.specs.declared.code.Block.{Block as LowBlock}
use Rattle.op_low.specs.declared.code.Routine.{Routine as LowRoutine}
use Rattle.op_low.specs.declared.instruction.Instruction.{Instruction as LowInstruction}
use Rattle.op_lower.specs.Temporaries.{in_instruction}
use Rattle.op_mir.specs.View.{view_instruction}
use Rattle.op_mir.specs.declared.code.Block.{Block}
use Rattle.op_mir.specs.declared.code.Mir.{Mir}
use Rattle.op_mir.specs.declared.code.Routine.{Routine}
use Rattle.op_mir.specs.declared.instruction.Instruction.{Instruction}

-- ---- literals in two lists, one behind the other

pub every_split : {A : Type 0} (Q : A → Type 0) (xs ys : List A) → Every Q (xs ++ ys) → Every Q xs × Every Q ys
every_split Q [] ys all = (tt, all)
every_split Q (x ∷ xs) ys all = let parts = every_split Q xs ys all.1 in ((all.0, parts.0), parts.1)

-- ---- blocks

-- its operands are in range, and its last instruction leaves it
abbrev pub IsFineBlock : Bounds → LowBlock → Type 0
IsFineBlock m b = AreFine m b.code × Ends b.code

module _ (m : Bounds) (core : Core) (r : ℕ) (routine : Routine) (n blocks : ℕ) (is : IsFrame m core (frame_of core r routine)) (temporaries : Temporaries (frame_of core r routine) n) (runtime : HasRuntime m) (fewer : blocks ≤ m.blocks) (mir : Mir) where
  -- what has to hold of an instruction of managed code
  pub record IsGood (i : Instruction) : Type 0 where
    pub named : IsNamed core blocks (view_instruction core r i)
    pub temps : in_instruction i ≤ n
    pub room : (frame_of core r routine).bank.scratch + room_in (view_instruction core r i) ≤ m.registers
    pub can : CanDo m core (frame_of core r routine) i

  code_fine : (texts : List (List ℕ)) (code : List Instruction) → Every IsGood code → Every (IsNumbered m.low texts) (flat_map (instruction_literals core r) code) → AreFine m (code_of core mir (frame_of core r routine) texts code)
  code_fine texts [] g there = tt
  code_fine texts (i ∷ others) g there =
      let parts = every_split (IsNumbered m.low texts) (instruction_literals core r i) (flat_map (instruction_literals core r) others) (subst (Every (IsNumbered m.low texts)) (flat_map-cons (instruction_literals core r) i others) there) in
      let here = g.0 in
      joined m _ _ (instruction_fine m core r routine n blocks is temporaries runtime fewer mir texts i here.named here.temps here.room parts.0 here.can)
      (code_fine texts others g.1 parts.1)

  -- its instructions are good, and the last one leaves it
  abbrev pub IsGoodBlock : Block → Type 0
  IsGoodBlock b = Every IsGood b.code × Leaves (map (view_instruction core r) b.code)

  pub blocks_fine : (texts : List (List ℕ)) (front : List LowInstruction) (bs : List Block) → AreFine m front → Every IsGoodBlock bs → Every (IsNumbered m.low texts) (flat_map (block_literals core r) bs) → Every (IsFineBlock m) (blocks_of core mir (frame_of core r routine) texts front bs)
  blocks_fine texts front [] f g there = tt
  blocks_fine texts front (b ∷ bs) f g there =
      let parts = every_split (IsNumbered m.low texts) (block_literals core r b) (flat_map (block_literals core r) bs) (subst (Every (IsNumbered m.low texts)) (flat_map-cons (block_literals core r) b bs) there) in
      let code = joined m front _ f (code_fine texts b.code g.0.0 parts.0) in
      ((code, ends_behind front _ (code_ends core mir (frame_of core r routine) r texts b.code g.0.1)), blocks_fine texts [] bs tt g.1 parts.1)

  pub blocks_count : (texts : List (List ℕ)) (front : List LowInstruction) (bs : List Block) → length (blocks_of core mir (frame_of core r routine) texts front bs) ≡ length bs
  blocks_count texts front [] = refl
  blocks_count texts front (b ∷ bs) = ap suc (blocks_count texts [] bs)

-- ---- the blocks of errors

error_fine : (m : Bounds) (error id : ℕ) → error < 2 ^ 32 → id < m.low.counts.literals → 2 ≤ m.registers → IsFineBlock m (error_block error id)
unfolding has_symbol leaves
error_fine m error id small there two =
    let zero : 0 < m.registers = omega (arith, two) in
    let one : 1 < m.registers = omega (arith, two) in
    (((zero, lt-ltb id m.low.counts.literals there), ((one, omega arith), ((zero, one), ((zero, small), (zero, tt))))), refl)

pub stack_fine : (m : Bounds) → 7 ≤ m.low.counts.literals → 2 ≤ m.registers → Every (IsFineBlock m) (error_block 202 5 ∷ [])
stack_fine m enough two = (error_fine m 202 5 (omega arith) (omega (arith, enough)) two, tt)

pub errors_fine : (m : Bounds) → 7 ≤ m.low.counts.literals → 2 ≤ m.registers → Every (IsFineBlock m) error_blocks
errors_fine m enough two = (
  error_fine m 200 3 (omega arith) (omega (arith, enough)) two,
  (
    error_fine m 201 4 (omega arith) (omega (arith, enough)) two,
    (
      error_fine m 202 5 (omega arith) (omega (arith, enough)) two,
      (error_fine m 215 6 (omega arith) (omega (arith, enough)) two, tt),
    ),
  ),
)

-- ---- registers

code_over : (k : ℕ) (code : List LowInstruction) → (k ≤ fold with_instruction k code) × ((top : ℕ) → fold with_instruction k code ≤ top → Every (λ i. greatest_in i ≤ top) code)
code_over k [] = (le_refl k, λ top less. tt)
code_over k (i ∷ code) =
    let rest = code_over (max k (greatest_in i)) code in
    (omega (arith, rest.0, le-max_left k (greatest_in i)), λ top less. (omega (arith, rest.0, le-max_right k (greatest_in i), less), rest.1 top less))

blocks_over : (k : ℕ) (bs : List LowBlock) → (k ≤ fold with_block k bs) × ((top : ℕ) → fold with_block k bs ≤ top → Every (λ b. Every (λ i. greatest_in i ≤ top) b.code) bs)
blocks_over k [] = (le_refl k, λ top less. tt)
blocks_over k (b ∷ bs) =
    let here = code_over k b.code in
    let rest = blocks_over (fold with_instruction k b.code) bs in
    (omega (arith, here.0, rest.0), λ top less. (here.1 top (omega (arith, rest.0, less)), rest.1 top less))

code_under : (m : Bounds) (k : ℕ) (code : List LowInstruction) → k < m.registers → AreFine m code → fold with_instruction k code < m.registers
code_under m k [] p f = p
code_under m k (i ∷ code) p f =
    let some : 0 < m.registers = omega (arith, p) in
    let g = greatest_below m i some f.0 in
    let both : max k (greatest_in i) < m.registers = omega (arith, p, g) in
    code_under m (max k (greatest_in i)) code both f.1

blocks_under : (m : Bounds) (k : ℕ) (bs : List LowBlock) → k < m.registers → Every (IsFineBlock m) bs → fold with_block k bs < m.registers
blocks_under m k [] p f = p
blocks_under m k (b ∷ bs) p f = blocks_under m (fold with_instruction k b.code) bs (code_under m k b.code p f.0.0) f.1

-- no more registers than are there
pub registers_under : (m : Bounds) (parameters : ℕ) (bs : List LowBlock) → 0 < m.registers → parameters ≤ m.registers → Every (IsFineBlock m) bs → registers_in parameters bs ≤ m.registers
registers_under m parameters bs some few f = let e = blocks_under m 0 bs some f in omega (arith, e, few)

-- ---- valid routines

ends_last : (i : LowInstruction) (code : List LowInstruction) → Ends (i ∷ code) → leaves_if (slice_get (i ∷ code) (length code)) ≡ true
ends_last i [] e = e
ends_last i (j ∷ code) e = ends_last j code e

ends_code : (code : List LowInstruction) → Ends code → leaves_if (slice_get code (length code - 1)) ≡ true
ends_code [] e = absurd e
ends_code (i ∷ code) e =
    let last : suc (length code) - 1 ≡ length code = omega arith in
    subst (λ k. leaves_if (slice_get (i ∷ code) k) ≡ true) (sym last) (ends_last i code e)

module _ (m : Bounds) (routine : LowRoutine) (count : length routine.blocks ≡ m.blocks) (locals : routine.locals ≡ m.locals) where
  valid_code : (top : ℕ) (code : List LowInstruction) → top < routine.registers → Every (λ i. greatest_in i ≤ top) code → AreFine m code → list_all (is_valid_instruction m.low routine) code ≡ true
  valid_code top [] t g f = refl
  valid_code top (i ∷ code) t g f =
      let here : greatest_in i < routine.registers = omega (arith, t, g.0) in
      and_from _ _ (valid_instruction m routine count locals i here f.0) (valid_code top code t g.1 f.1)

  valid_blocks : (top : ℕ) (bs : List LowBlock) → top < routine.registers → Every (λ b. Every (λ i. greatest_in i ≤ top) b.code) bs → Every (IsFineBlock m) bs → list_all (is_valid_block m.low routine) bs ≡ true
  unfolding is_valid_block
  valid_blocks top [] t g f = refl
  valid_blocks top (b ∷ bs) t g f = and_from _ _ (and_from _ _ (ends_code b.code f.0.1) (valid_code top b.code t g.0 f.0.0)) (valid_blocks top bs t g.1 f.1)

-- a routine with so many registers as it names
pub valid_routine : (m : Bounds) (parameters : ℕ) (bs : List LowBlock) → length bs ≡ m.blocks → Every (IsFineBlock m) bs → 0 < m.registers → parameters ≤ m.registers → m.registers ≤ most_registers → m.locals ≤ most_locals → m.locals % 4 ≡ 0 → 0 < length bs → is_valid_routine m.low (routine_with parameters m.locals bs) ≡ true
unfolding is_valid_routine is_sized
valid_routine m parameters bs count f some few registers locals whole there =
    let over = blocks_over 0 bs in
    let top = fold with_block 0 bs in
    let named = over.1 top (le_refl top) in
    let less : top < registers_in parameters bs = omega (arith, le-max_right parameters (top + 1)) in
    let low_parameters : parameters ≤ registers_in parameters bs = le-max_left parameters (top + 1) in
    let size = registers_under m parameters bs some few f in
    let even : nat_eq (m.locals % 4) 0 ≡ true = ap (λ k. nat_eq k 0) whole in
    and_from _ _ (and_from _ _ (and_from _ _ (and_from _ _ (and_from _ _ (le-leb _ _ low_parameters) (le-leb _ _ (omega (arith, size, registers)))) (le-leb _ _ locals)) even) (lt-ltb _ _ there))
    (valid_blocks m (routine_with parameters m.locals bs) count refl top bs less named f)
