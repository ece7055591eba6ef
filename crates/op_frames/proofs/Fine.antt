-- Low code whose instructions have their operands in range.
use Rattle.std.proofs.Common.{◌≡◌, ◌<◌, ◌≤◌, ℕ, ℤ, pos, negsuc, ◌+◌, ◌-◌, ◌^◌, ◌-ℤ◌, max, true, false, ◌&&◌, List, [], ◌∷◌, ◌++◌, length, Option, Some, None, nat_eq, nat_lt, slice_get, fold, refl, sym, ap, ap₂, ◌∙◌, subst, arith, if◌then◌else◌, unsigned_abs, FitsSigned}
use Rattle.std.proofs.Math.Nat.{le-max_left, le-max_right}
use Rattle.std.proofs.lemmas.Bool.{and_from, lt-ltb}
use Rattle.op_expand.specs.Registers.{greatest, greatest_in, greatest_in_call, with_register}
use Rattle.std.specs.List.{list_all}
use Rattle.op_frames.specs.Made.{Every}
use Rattle.op_low.specs.Valid.{has, has_all, has_block, has_landing, has_symbol, takes, const_fits, address_fits, local_fits, imm_fits, shift_fits, branch_fits, operands_fit, call_fits, is_valid_instruction}
use Rattle.op_low.specs.declared.code.Low.{Low}
use Rattle.op_low.specs.declared.code.Routine.{Routine}
use Rattle.op_low.specs.declared.ids.VirtualRegister.{VirtualRegister}
use Rattle.op_low.specs.declared.instruction.Call.{Call as Operands}
use Rattle.op_low.specs.declared.instruction.Instruction.{Instruction}
use Rattle.op_low.specs.declared.instruction.Instruction.TheVariants.{Const, Address, Local, Move, Alu, AluImm, Shift, Load, Store, Call, CallAt, Branch, Jump, Return, Raise, Read, Write, Exit}
use Rattle.op_rv.specs.Encoding.{is_imm}
use Rattle.op_rv.specs.declared.symbol.BlockId.{BlockId}

-- what an instruction may name
pub record Bounds : Type 0 where
  pub low : Low
  pub locals : ℕ
  pub blocks : ℕ
  pub registers : ℕ

abbrev pub Below : Bounds → VirtualRegister → Type 0
Below m r = r.0 < m.registers

abbrev pub Leads : Bounds → BlockId → Type 0
Leads m block = block.0 < m.blocks

abbrev pub IsFine : Bounds → Instruction → Type 0
IsFine m (Const to n) = Below m to × (n < 2 ^ 32)
IsFine m (Address to symbol) = Below m to × (has_symbol m.low symbol ≡ true)
IsFine m (Local to offset) = Below m to × (offset < m.locals)
IsFine m (Move to from) = Below m to × Below m from
IsFine m (Alu op to left right) = Below m to × Below m left × Below m right
IsFine m (AluImm op to left imm) = Below m to × Below m left × (is_imm imm ≡ true)
IsFine m (Shift op to left amount) = Below m to × Below m left × (nat_lt amount 32 ≡ true)
IsFine m (Load op to base offset) = Below m to × Below m base × (is_imm offset ≡ true)
IsFine m (Store op value base offset) = Below m value × Below m base × (is_imm offset ≡ true)
IsFine m (Call id operands) = Every (Below m) operands.arguments × Below m operands.to × (takes (slice_get m.low.routines id.0) (length operands.arguments) ≡ true) × (operands.landing ≡ None)
IsFine m (CallAt address operands) = ⊥
IsFine m (Branch op left right block) = Below m left × Below m right × Leads m block
IsFine m (Jump block) = Leads m block
IsFine m (Return value) = Below m value
IsFine m Raise = ⊥
IsFine m (Read to buffer size) = ⊥
IsFine m (Write output buffer size) = Below m buffer × Below m size
IsFine m (Exit status) = Below m status

abbrev pub AreFine : Bounds → List Instruction → Type 0
AreFine m code = Every (IsFine m) code

-- ---- the greatest register that is named

max_below : (a b n : ℕ) → a < n → b < n → max a b < n
max_below a b n p q = omega arith

call_below : (n so_far : ℕ) (rs : List VirtualRegister) → so_far < n → Every (λ r. r.0 < n) rs → fold with_register so_far rs < n
call_below n so_far [] p q = p
call_below n so_far (r ∷ rs) p q = call_below n (max so_far r.0) rs (max_below so_far r.0 n p q.0) q.1

pub greatest_below : (m : Bounds) (i : Instruction) → 0 < m.registers → IsFine m i → greatest_in i < m.registers
greatest_below m (Const to n) some f = omega (arith, f.0)
greatest_below m (Address to symbol) some f = omega (arith, f.0)
greatest_below m (Local to offset) some f = omega (arith, f.0)
greatest_below m (Move to from) some f = omega (arith, f.0, f.1)
greatest_below m (Alu op to left right) some f = omega (arith, f.0, f.1, f.2)
greatest_below m (AluImm op to left imm) some f = omega (arith, f.0, f.1)
greatest_below m (Shift op to left amount) some f = omega (arith, f.0, f.1)
greatest_below m (Load op to base offset) some f = omega (arith, f.0, f.1)
greatest_below m (Store op value base offset) some f = omega (arith, f.0, f.1)
greatest_below m (Call id operands) some f = call_below m.registers (max operands.to.0 operands.to.0) operands.arguments (max_below operands.to.0 operands.to.0 m.registers f.1 f.1) f.0
greatest_below m (CallAt address operands) some f = absurd f
greatest_below m (Branch op left right block) some f = omega (arith, f.0, f.1)
greatest_below m (Jump block) some f = some
greatest_below m (Return value) some f = omega (arith, f)
greatest_below m Raise some f = absurd f
greatest_below m (Read to buffer size) some f = absurd f
greatest_below m (Write output buffer size) some f = omega (arith, f.0, f.1)
greatest_below m (Exit status) some f = omega (arith, f)

-- ---- valid instructions of a routine that has the registers that it names

module _ (m : Bounds) (routine : Routine) (blocks : length routine.blocks ≡ m.blocks) (locals : routine.locals ≡ m.locals) where
  has_it : (r : VirtualRegister) → r.0 < routine.registers → has routine r ≡ true
  has_it r p = lt-ltb r.0 routine.registers p

  goes : (block : BlockId) → Leads m block → has_block routine block ≡ true
  goes block p = lt-ltb block.0 (length routine.blocks) (omega (arith, blocks))

  arguments_there : (so_far : ℕ) (rs : List VirtualRegister) → fold with_register so_far rs < routine.registers → (so_far < routine.registers) × (list_all (has routine) rs ≡ true)
  arguments_there so_far [] p = (p, refl)
  arguments_there so_far (r ∷ rs) p =
      let rest = arguments_there (max so_far r.0) rs p in
      let here : r.0 < routine.registers = omega (arith, rest.0, le-max_right so_far r.0) in
      (omega (arith, rest.0, le-max_left so_far r.0), and_from _ _ (has_it r here) rest.1)

  two_there : (a b : VirtualRegister) → max a.0 b.0 < routine.registers → (has routine a && has routine b) ≡ true
  two_there a b p = and_from _ _ (has_it a (omega arith)) (has_it b (omega arith))

  three_there : (a b c : VirtualRegister) → max a.0 (max b.0 c.0) < routine.registers → ((has routine a && has routine b) && has routine c) ≡ true
  three_there a b c p = and_from _ _ (and_from _ _ (has_it a (omega arith)) (has_it b (omega arith))) (has_it c (omega arith))

  same_there : (a : VirtualRegister) → max a.0 (max a.0 a.0) < routine.registers → has routine a ≡ true
  same_there a p = has_it a (omega arith)

  two_of : (a b : VirtualRegister) → max a.0 (max b.0 b.0) < routine.registers → (has routine a && has routine b) ≡ true
  two_of a b p = and_from _ _ (has_it a (omega arith)) (has_it b (omega arith))

  pub valid_instruction : (i : Instruction) → greatest_in i < routine.registers → IsFine m i → is_valid_instruction m.low routine i ≡ true
  unfolding is_valid_instruction const_fits address_fits local_fits imm_fits shift_fits branch_fits operands_fit call_fits has_all
  valid_instruction (Const to n) g f = and_from _ _ (same_there to g) (lt-ltb n (2 ^ 32) f.1)
  valid_instruction (Address to symbol) g f = and_from _ _ (same_there to g) f.1
  valid_instruction (Local to offset) g f = and_from _ _ (same_there to g) (lt-ltb offset routine.locals (omega (arith, locals, f.1)))
  valid_instruction (Move to from) g f = two_of to from g
  valid_instruction (Alu op to left right) g f = three_there to left right g
  valid_instruction (AluImm op to left imm) g f = and_from _ _ (two_of to left g) f.2
  valid_instruction (Shift op to left amount) g f = and_from _ _ (two_of to left g) f.2
  valid_instruction (Load op to base offset) g f = and_from _ _ (two_of to base g) f.2
  valid_instruction (Store op value base offset) g f = and_from _ _ (two_of value base g) f.2
  valid_instruction (Call id operands) g f =
      let r = arguments_there (max operands.to.0 operands.to.0) operands.arguments g in
      let to : operands.to.0 < routine.registers = omega (arith, r.0) in
      and_from _ _ f.2 (and_from _ _ (and_from _ _ r.1 (has_it operands.to to)) (ap (λ l. has_landing routine l) f.3))
  valid_instruction (CallAt address operands) g f = absurd f
  valid_instruction (Branch op left right block) g f = and_from _ _ (two_of left right g) (goes block f.2)
  valid_instruction (Jump block) g f = goes block f
  valid_instruction (Return value) g f = same_there value g
  valid_instruction Raise g f = absurd f
  valid_instruction (Read to buffer size) g f = absurd f
  valid_instruction (Write output buffer size) g f = and_from _ _ (has_it buffer (omega arith)) (has_it size (omega arith))
  valid_instruction (Exit status) g f = same_there status g
