-- Instructions that compute a value: a step of low code with one of them is some steps of the machine.
use Rattle.std.proofs.Common.{◌≡◌, ◌≢◌, ℕ, ℤ, pos, negsuc, zero, suc, ◌+◌, ◌-◌, ◌*◌, ◌%◌, ◌^◌, ◌<◌, ◌≤◌, inl, inr, Bool, true, false, cond, ◌&&◌, nat_eq, nat_lt, Some, List, [], ◌∷◌, ◌++◌, length, get_or, refl, ap, ap₂, sym, subst, ◌∙◌, arith}
use Rattle.std.proofs.lemmas.Bool.{ltb-true, cases_lt, and_from, cond-true}
use Rattle.std.proofs.lemmas.Int.{ints}
use Rattle.std.specs.Cmp.{first_so, second_so}
use Rattle.std.specs.Int.{w8, w16, cast_signed}
use Rattle.op_low.specs.Machine.{Event, act as low_act, load as low_load}
use Rattle.op_low.specs.State.{State as LowState, keep as with_kept, value, usable}
use Rattle.op_low.specs.Valid.{is_valid_instruction, has, const_fits, address_fits, local_fits, imm_fits, shift_fits}
use Rattle.op_low.specs.declared.code.Routine.{Routine}
use Rattle.op_low.specs.declared.ids.VirtualRegister.{VirtualRegister}
use Rattle.op_low.specs.declared.instruction.Instruction.TheVariants.{Const, Address, Local, Move, Alu, AluImm, Shift, Load}
use Rattle.op_rv.proofs.Memory.{all_of, word_at-same}
use Rattle.op_rv.specs.Encoding.{is_imm}
use Rattle.op_rv.specs.Operation.{word_from, alu_value, imm_value, shift_value}
use Rattle.op_rv.specs.State.{State, register, with_register, advanced, faulted, all_from}
use Rattle.op_rv.specs.Step.{act, load, can_access, offset_from, load_size_of, load_value}
use Rattle.op_rv.specs.declared.fault.FaultKind.TheVariants.{Load as LoadFault}
use Rattle.op_rv.specs.declared.instruction.AluOp.{AluOp}
use Rattle.op_rv.specs.declared.instruction.ImmOp.{ImmOp}
use Rattle.op_rv.specs.declared.instruction.ImmOp.TheVariants.{Addi}
use Rattle.op_rv.specs.declared.instruction.LoadOp.{LoadOp}
use Rattle.op_rv.specs.declared.instruction.LoadOp.TheVariants.{Lb, Lh, Lw, Lbu, Lhu}
use Rattle.op_rv.specs.declared.instruction.ShiftOp.{ShiftOp}
use Rattle.op_rv.specs.declared.instruction.Instr.{Instr}
use Rattle.op_rv.specs.declared.instruction.Instr.TheVariants.{Lui, Imm as ImmInstr, Shift as ShiftInstr, Alu as AluInstr, Load as LoadInstr}
use Rattle.op_rv.specs.declared.objects.Item.{Item}
use Rattle.op_rv.specs.declared.objects.Item.TheVariants.{Address as AddressItem}
use Rattle.op_rv.specs.declared.symbol.Symbol.{Symbol}
use Rattle.op_select.specs.Frames.{bring, fetch, home, operand, put, register_of}
use Rattle.op_select.specs.Going.{Setting, IsSetting, homes_in, routine_in, placement_of, Stays, Goes}
use Rattle.op_select.specs.Placing.{Placing, Stands, First, StandsHere, Expands, Loading, InTwo, past, joined}
use Rattle.op_select.specs.RiscvMachine.{instr_shows}
use Rattle.op_select.specs.Selection.{items_of, code_items, computed}
use Rattle.op_select.specs.Sequences.{below, constant, sum}
use Rattle.op_select.specs.declared.frame.Home.TheVariants.{Frame, Register}
use Rattle.op_select.proofs.FrameLemmas.{Result, below_top, below_bottom, brings, fetches, puts, stays_placed, value-bounded}
use Rattle.op_select.proofs.OperationLemmas.{alu-bounded, imm-bounded, shift-bounded, load-bounded}
use Rattle.op_select.proofs.SequenceLemmas.{constants, sums}
use Rattle.op_select.proofs.Walks.{Walk, walk_join, placed, sound_placed, Becomes, becomes, register_is, plain_first, split}

-- two operands have their values; a0 and a1 may have changed
pub record Two (b : State) (first second x y at : ℕ) : Type 0 where
  pub registers : List ℕ
  pub size : length registers ≡ 32
  pub first_is : get_or registers first 0 ≡ x
  pub second_is : get_or registers second 0 ≡ y
  pub first_some : first ≢ 0
  pub second_some : second ≢ 0
  pub others : (q : ℕ) → q ≢ 10 → q ≢ 11 → get_or registers q 0 ≡ get_or b.registers q 0
  pub walk : Walk b (placed b registers at) 0 6 []

-- the machine has come to a state that stands for one of low code
pub record Steps (w : Setting) (m : LowState) (b : State) (most : ℕ) (events : List Event) : Type 0 where
  pub after : State
  pub goes : Goes w m after
  pub walk : Walk b after 1 most events

-- ---- what valid instructions name

-- the two instructions of an address
pub record AddressFirst (g : Placing) (r at rd : ℕ) (symbol : Symbol) (items : List Item) (end : ℕ) : Type 0 where
  pub upper : ℕ
  pub lower : ℤ
  pub joins : joined upper lower ≡ g.address symbol
  pub first : g.code at ≡ Some (Lui rd upper)
  pub second : g.code (at + 4) ≡ Some (ImmInstr Addi rd rd lower)
  pub rest : Stands g r (at + 4 + 4) items end

loading_first : (g : Placing) (r at rd : ℕ) (symbol : Symbol) (items : List Item) (end : ℕ) (is : List Instr) → Loading (g.address symbol) rd is → StandsHere g at is → Stands g r (past at is) items end → AddressFirst g r at rd symbol items end
unfolding StandsHere past
loading_first g r at rd symbol items end is (InTwo upper lower joins lists) here rest =
    let here' = subst (StandsHere g at) lists here in
    record {
      upper = upper;
      lower = lower;
      joins = joins;
      first = here'.0;
      second = here'.1.0;
      rest = subst (λ js. Stands g r (past at js) items end) lists rest;
    }

pub address_first : (g : Placing) (r at rd : ℕ) (symbol : Symbol) (items : List Item) (end : ℕ) → Stands g r at (AddressItem rd symbol ∷ items) end → AddressFirst g r at rd symbol items end
unfolding Expands
address_first g r at rd symbol items end (First is expands here rest) = loading_first g r at rd symbol items end is expands here rest

-- ---- access

pub usable_all : (right : ℕ → Bool) (m : LowState) (a n : ℕ) → all_from (usable right m) a n ≡ true → (x : ℕ) → a ≤ x → x < a + n → (right x ≡ true) × (x < m.limit)
unfolding all_from
usable_all right m a zero all x from before = absurd (omega arith)
usable_all right m a (suc n) all x from before =
    elim (cases_lt a x) [
      | inl later ↦ usable_all right m (a + 1) n (second_so (usable right m a) _ all) x (omega arith) (omega arith)
      | inr here ↦
          let same : a ≡ x = omega arith in
          let one : (right a && nat_lt a m.limit) ≡ true = first_so (usable right m a) _ all in
          subst (λ y. (right y ≡ true) × (y < m.limit)) same (first_so _ _ one, ltb-true a m.limit (second_so (right a) _ one))
    ]

pub access_of : (right : ℕ → Bool) (m : LowState) (a n : ℕ) → can_access (usable right m) a n ≡ true → can_access right a n ≡ true
access_of right m a n can = and_from (nat_eq (a % n) 0) (all_from right a n) (first_so (nat_eq (a % n) 0) _ can) (all_of right a n (λ x from before. (usable_all right m a n (second_so (nat_eq (a % n) 0) _ can) x from before).0))

module _ (w : Setting) (law : IsSetting w) where
  pub inside : (m : LowState) (r : VirtualRegister) → has (routine_in w m.top.routine) r ≡ true → r.0 < (routine_in w m.top.routine).registers
  inside m r is = ltb-true r.0 (routine_in w m.top.routine).registers is

  -- the register that a result is written to
  pub record Target (t : ℕ) : Type 0 where
    pub some : t ≢ 0
    pub small : t < 32
    pub not_sp : 2 ≢ t
    pub not_limit : 8 ≢ t
    pub not_argument : t ≢ 11

  targets_by : (routine : Routine) (to : VirtualRegister) (early : Bool) → nat_lt to.0 14 ≡ early → Target (register_of 10 (cond early (Register (18 + to.0)) (Frame (4 * (routine.registers - 1 - to.0)))))
  unfolding register_of
  targets_by routine to true test =
      let less = ltb-true to.0 14 test in
      record { some = omega arith; small = omega arith; not_sp = omega arith; not_limit = omega arith; not_argument = omega arith }
  targets_by routine to false test =
      record { some = omega arith; small = omega arith; not_sp = omega arith; not_limit = omega arith; not_argument = omega arith }

  pub targets : (routine : Routine) (to : VirtualRegister) → Target (operand routine 10 to)
  unfolding operand home
  targets routine to = targets_by routine to (nat_lt to.0 14) refl

  pub result_of : (b : State) (t v at l k : ℕ) → Target t → Becomes b t t v at l k → Result w law b t v at l k
  result_of b t v at l k target made =
      let two = target.not_sp in
      let eight = target.not_limit in
      record {
        registers = made.registers;
        size = made.size;
        value_is = made.value_is;
        sp_same = made.others 2 two two;
        limit_same = made.others 8 eight eight;
        homes_same = λ j other. made.others (18 + j) other other;
        walk = made.walk;
      }

  -- an instruction behind what brings its operands, by a0 and a1, to the register for its result
  pub result_behind : (b : State) (registers : List ℕ) (t v mid at l k : ℕ) → Target t → ((q : ℕ) → q ≢ 10 → q ≢ 11 → get_or registers q 0 ≡ get_or b.registers q 0) → Walk b (placed b registers mid) l k [] → Becomes (placed b registers mid) t t v at 1 1 → Result w law b t v at (l + 1) (k + 1)
  result_behind b registers t v mid at l k target others walk made =
      let two = target.not_sp in
      let eight = target.not_limit in
      record {
        registers = made.registers;
        size = made.size;
        value_is = made.value_is;
        sp_same = made.others 2 two two ∙ others 2 (omega arith) (omega arith);
        limit_same = made.others 8 eight eight ∙ others 8 (omega arith) (omega arith);
        homes_same = λ j other. made.others (18 + j) other other ∙ others (18 + j) (omega arith) (omega arith);
        walk = walk_join b (placed b registers mid) (placed b made.registers at) l k 1 1 [] [] walk made.walk;
      }

  -- the result is put home, and the code goes on
  pub finish : (m : LowState) (b : State) (v mid at end l k : ℕ) (to : VirtualRegister) → Stays w m b → Result w law b (operand (routine_in w m.top.routine) 10 to) v mid l k → 1 ≤ l → v < 2 ^ 32 → to.0 < (routine_in w m.top.routine).registers → Stands w.placing m.top.routine mid (put (routine_in w m.top.routine) to) at → Stands w.placing m.top.routine at (code_items (routine_in w m.top.routine) m.top.now) end → Steps w (with_kept to v m) b (k + 3) []
  finish m b v mid at end l k to stays made some fits within stands rest =
      let kept = puts w law m b v mid at l k to stays made some fits within stands in
      record {
        after = kept.after;
        goes = record { stays = kept.stays; ready = record { end = end; stands = subst (λ n. Stands w.placing m.top.routine n (code_items (routine_in w m.top.routine) m.top.now) end) (sym kept.there) rest } };
        walk = kept.walk;
      }

  pub two_brought : (m : LowState) (b : State) (left right : VirtualRegister) (at : ℕ) → Stays w m b → left.0 < (routine_in w m.top.routine).registers → right.0 < (routine_in w m.top.routine).registers → Stands w.placing m.top.routine b.pc (bring (routine_in w m.top.routine) 10 left ++ bring (routine_in w m.top.routine) 11 right) at → Two b (operand (routine_in w m.top.routine) 10 left) (operand (routine_in w m.top.routine) 11 right) (value m left) (value m right) at
  two_brought m b left right at stays left_in right_in stands =
      let parts = split w.placing m.top.routine b.pc (bring (routine_in w m.top.routine) 10 left) _ at stands in
      let one = brings w law m b 10 left parts.middle stays left_in (omega arith) (omega arith) (omega arith) parts.first in
      let c = placed b one.registers parts.middle in
      let stays_c = stays_placed w law m b one.registers parts.middle stays one.size (one.others 2 (omega arith)) (one.others 8 (omega arith)) (λ k. one.others (18 + k) (omega arith)) in
      let other = brings w law m c 11 right at stays_c right_in (omega arith) (omega arith) (omega arith) parts.second in
      record {
        registers = other.registers;
        size = other.size;
        first_is = other.others (operand (routine_in w m.top.routine) 10 left) (one.apart 11 (omega arith) (omega arith)) ∙ one.value_is;
        second_is = other.value_is;
        first_some = one.some;
        second_some = other.some;
        others = λ q ten eleven. other.others q eleven ∙ one.others q ten;
        walk = walk_join b c (placed b other.registers at) 0 3 0 3 [] [] one.walk other.walk;
      }

  -- ---- the instructions

  pub const_steps : (m : LowState) (b : State) (to : VirtualRegister) (n end : ℕ) → Stays w m b → is_valid_instruction w.low (routine_in w m.top.routine) (Const to n) ≡ true → Stands w.placing m.top.routine b.pc (items_of (routine_in w m.top.routine) (Const to n) ++ code_items (routine_in w m.top.routine) m.top.now) end → Steps w (low_act w.low (placement_of w) (Const to n) m) b 5 []
  unfolding is_valid_instruction const_fits items_of low_act
  const_steps m b to n end stays valid stands =
      let t = operand (routine_in w m.top.routine) 10 to in
      let target = targets (routine_in w m.top.routine) to in
      let whole = split w.placing m.top.routine b.pc (items_of (routine_in w m.top.routine) (Const to n)) _ end stands in
      let parts = split w.placing m.top.routine b.pc (constant t n) _ whole.middle whole.first in
      let fits = ltb-true n (2 ^ 32) (second_so _ _ valid) in
      let made = constants w law b m.top.routine t n parts.middle stays.sound target.some target.small fits parts.first in
      finish m b n parts.middle whole.middle end 1 2 to stays (result_of b t n parts.middle 1 2 target made) (omega arith) fits (inside m to (first_so _ _ valid)) parts.second whole.second

  pub move_steps : (m : LowState) (b : State) (to from : VirtualRegister) (end : ℕ) → Stays w m b → is_valid_instruction w.low (routine_in w m.top.routine) (Move to from) ≡ true → Stands w.placing m.top.routine b.pc (items_of (routine_in w m.top.routine) (Move to from) ++ code_items (routine_in w m.top.routine) m.top.now) end → Steps w (low_act w.low (placement_of w) (Move to from) m) b 6 []
  unfolding is_valid_instruction items_of low_act
  move_steps m b to from end stays valid stands =
      let t = operand (routine_in w m.top.routine) 10 to in
      let target = targets (routine_in w m.top.routine) to in
      let whole = split w.placing m.top.routine b.pc (items_of (routine_in w m.top.routine) (Move to from)) _ end stands in
      let parts = split w.placing m.top.routine b.pc (fetch (routine_in w m.top.routine) t from) _ whole.middle whole.first in
      let from_in = inside m from (second_so _ _ valid) in
      let made = fetches w law m b t from parts.middle stays from_in target.some target.small (λ e. target.not_sp (sym e)) parts.first in
      finish m b (value m from) parts.middle whole.middle end 1 3 to stays (result_of b t (value m from) parts.middle 1 3 target made) (omega arith) (value-bounded w law m b from stays from_in) (inside m to (first_so _ _ valid)) parts.second whole.second

  -- what is below by less than n is found by a word
  local_place : (limit locals offset : ℕ) → offset < locals → locals ≤ limit → limit < 2 ^ 31 → (limit + below (locals - offset)) % 2 ^ 32 ≡ limit - locals + offset
  unfolding below
  local_place limit locals offset inside under small = omega arith

  below-bounded : (n : ℕ) → below n < 2 ^ 32
  unfolding below
  below-bounded n = omega arith

  pub local_steps : (m : LowState) (b : State) (to : VirtualRegister) (offset end : ℕ) → Stays w m b → is_valid_instruction w.low (routine_in w m.top.routine) (Local to offset) ≡ true → Stands w.placing m.top.routine b.pc (items_of (routine_in w m.top.routine) (Local to offset) ++ code_items (routine_in w m.top.routine) m.top.now) end → Steps w (low_act w.low (placement_of w) (Local to offset) m) b 6 []
  unfolding is_valid_instruction local_fits items_of low_act
  local_steps m b to offset end stays valid stands =
      let routine = routine_in w m.top.routine in
      let t = operand routine 10 to in
      let target = targets routine to in
      let whole = split w.placing m.top.routine b.pc (items_of routine (Local to offset)) _ end stands in
      let parts = split w.placing m.top.routine b.pc (sum t 8 t (below (routine.locals - offset))) _ whole.middle whole.first in
      let within : offset < routine.locals = ltb-true offset routine.locals (second_so _ _ valid) in
      let bottom = below_bottom w b.memory (homes_in b) m.top.routine m.limit (m.limit + m.room) m.callers stays.below in
      let top = below_top w b.memory (homes_in b) m.top.routine m.limit (m.limit + m.room) m.callers stays.below in
      let low = law.low_top in
      let place = local_place m.limit routine.locals offset within (omega arith) (omega arith) in
      let made = sums w law b m.top.routine t 8 t (below (routine.locals - offset)) parts.middle stays.sound target.some target.small (omega arith) target.some target.small (λ e. target.not_limit (sym e)) (below-bounded (routine.locals - offset)) parts.first in
      let result = result_of b t ((get_or b.registers 8 0 + below (routine.locals - offset)) % 2 ^ 32) parts.middle 1 3 target made in
      let is = ap (λ n. (n + below (routine.locals - offset)) % 2 ^ 32) stays.limit ∙ place in
      finish m b (m.limit - routine.locals + offset) parts.middle whole.middle end 1 3 to stays (subst (λ v. Result w law b t v parts.middle 1 3) is result) (omega arith) (omega arith) (inside m to (first_so _ _ valid)) parts.second whole.second

  -- two operands are joined
  pub alu_steps : (m : LowState) (b : State) (op : AluOp) (to left right : VirtualRegister) (end : ℕ) → Stays w m b → is_valid_instruction w.low (routine_in w m.top.routine) (Alu op to left right) ≡ true → Stands w.placing m.top.routine b.pc (items_of (routine_in w m.top.routine) (Alu op to left right) ++ code_items (routine_in w m.top.routine) m.top.now) end → Steps w (low_act w.low (placement_of w) (Alu op to left right) m) b 10 []
  unfolding is_valid_instruction items_of low_act act instr_shows
  alu_steps m b op to left right end stays valid stands =
      let routine = routine_in w m.top.routine in
      let t = operand routine 10 to in
      let p = operand routine 10 left in
      let q = operand routine 11 right in
      let target = targets routine to in
      let i = AluInstr op t p q in
      let whole = split w.placing m.top.routine b.pc (items_of routine (Alu op to left right)) _ end stands in
      let parts = split w.placing m.top.routine b.pc (bring routine 10 left ++ bring routine 11 right) _ whole.middle whole.first in
      let to_left : (has routine to && has routine left) ≡ true = first_so _ _ valid in
      let left_in = inside m left (second_so (has routine to) _ to_left) in
      let right_in = inside m right (second_so (has routine to && has routine left) _ valid) in
      let two = two_brought m b left right parts.middle stays left_in right_in parts.first in
      let c = placed b two.registers parts.middle in
      let sound_c = sound_placed w law b two.registers parts.middle stays.sound two.size in
      let first = plain_first w.placing m.top.routine parts.middle i _ whole.middle parts.second in
      let v = alu_value op (value m left) (value m right) in
      let is : alu_value op (register c p) (register c q) ≡ v = ap₂ (alu_value op) (register_is c p two.first_some ∙ two.first_is) (register_is c q two.second_some ∙ two.second_is) in
      let made = becomes w law c i t v sound_c first.0 target.some target.small refl (ap (λ n. advanced (with_register c t n)) is) in
      let result = result_behind b two.registers t v parts.middle (parts.middle + 4) 0 6 target two.others two.walk made in
      finish m b v (parts.middle + 4) whole.middle end 1 7 to stays result (omega arith) (alu-bounded op (value m left) (value m right) (value-bounded w law m b left stays left_in) (value-bounded w law m b right stays right_in)) (inside m to (first_so _ _ to_left)) first.1 whole.second

  -- what an instruction makes of an operand
  pub computed_steps : (m : LowState) (b : State) (i : Instr) (from to : VirtualRegister) (v at end : ℕ) → Stays w m b → from.0 < (routine_in w m.top.routine).registers → to.0 < (routine_in w m.top.routine).registers → v < 2 ^ 32 → ((c : State) → instr_shows (Some i) c ≡ []) → ((c : State) → Stays w m c → register c (operand (routine_in w m.top.routine) 10 from) ≡ value m from → act i c ≡ advanced (with_register c (operand (routine_in w m.top.routine) 10 to) v)) → Stands w.placing m.top.routine b.pc (computed (routine_in w m.top.routine) from i to) at → Stands w.placing m.top.routine at (code_items (routine_in w m.top.routine) m.top.now) end → Steps w (with_kept to v m) b 7 []
  computed_steps m b i from to v at end stays from_in to_in fits shows acts stands rest =
      let routine = routine_in w m.top.routine in
      let t = operand routine 10 to in
      let p = operand routine 10 from in
      let target = targets routine to in
      let parts = split w.placing m.top.routine b.pc (bring routine 10 from) _ at stands in
      let one = brings w law m b 10 from parts.middle stays from_in (omega arith) (omega arith) (omega arith) parts.first in
      let c = placed b one.registers parts.middle in
      let stays_c = stays_placed w law m b one.registers parts.middle stays one.size (one.others 2 (omega arith)) (one.others 8 (omega arith)) (λ k. one.others (18 + k) (omega arith)) in
      let first = plain_first w.placing m.top.routine parts.middle i _ at parts.second in
      let made = becomes w law c i t v stays_c.sound first.0 target.some target.small (shows c) (acts c stays_c (register_is c p one.some ∙ one.value_is)) in
      let result = result_behind b one.registers t v parts.middle (parts.middle + 4) 0 3 target (λ q ten eleven. one.others q ten) one.walk made in
      finish m b v (parts.middle + 4) at end 1 4 to stays result (omega arith) fits to_in first.1 rest

  pub shift_steps : (m : LowState) (b : State) (op : ShiftOp) (to left : VirtualRegister) (amount end : ℕ) → Stays w m b → is_valid_instruction w.low (routine_in w m.top.routine) (Shift op to left amount) ≡ true → Stands w.placing m.top.routine b.pc (items_of (routine_in w m.top.routine) (Shift op to left amount) ++ code_items (routine_in w m.top.routine) m.top.now) end → Steps w (low_act w.low (placement_of w) (Shift op to left amount) m) b 7 []
  unfolding is_valid_instruction shift_fits items_of low_act act instr_shows
  shift_steps m b op to left amount end stays valid stands =
      let routine = routine_in w m.top.routine in
      let t = operand routine 10 to in
      let i = ShiftInstr op t (operand routine 10 left) amount in
      let whole = split w.placing m.top.routine b.pc (items_of routine (Shift op to left amount)) _ end stands in
      let both : (has routine to && has routine left) ≡ true = first_so _ _ valid in
      let left_in = inside m left (second_so (has routine to) _ both) in
      computed_steps m b i left to (shift_value op (value m left) amount) whole.middle end stays left_in (inside m to (first_so _ _ both)) (shift-bounded op (value m left) amount (value-bounded w law m b left stays left_in)) (λ c. refl) (λ c stays_c is. ap (λ n. advanced (with_register c t (shift_value op n amount))) is) whole.first whole.second

  imm_word-bounded : (imm : ℤ) → is_imm imm ≡ true → word_from imm < 2 ^ 32
  imm_word-bounded (pos n) is =
      let less = ltb-true n (2 ^ 11) is in
      omega (arith, ints)
  imm_word-bounded (negsuc n) is = omega (arith, ints)

  pub imm_steps : (m : LowState) (b : State) (op : ImmOp) (to left : VirtualRegister) (imm : ℤ) (end : ℕ) → Stays w m b → is_valid_instruction w.low (routine_in w m.top.routine) (AluImm op to left imm) ≡ true → Stands w.placing m.top.routine b.pc (items_of (routine_in w m.top.routine) (AluImm op to left imm) ++ code_items (routine_in w m.top.routine) m.top.now) end → Steps w (low_act w.low (placement_of w) (AluImm op to left imm) m) b 7 []
  unfolding is_valid_instruction imm_fits items_of low_act act instr_shows
  imm_steps m b op to left imm end stays valid stands =
      let routine = routine_in w m.top.routine in
      let t = operand routine 10 to in
      let i = ImmInstr op t (operand routine 10 left) imm in
      let whole = split w.placing m.top.routine b.pc (items_of routine (AluImm op to left imm)) _ end stands in
      let both : (has routine to && has routine left) ≡ true = first_so _ _ valid in
      let left_in = inside m left (second_so (has routine to) _ both) in
      let imm_small = imm_word-bounded imm (second_so (has routine to && has routine left) _ valid) in
      computed_steps m b i left to (imm_value op (value m left) (word_from imm)) whole.middle end stays left_in (inside m to (first_so _ _ both)) (imm-bounded op (value m left) (word_from imm) (value-bounded w law m b left stays left_in) imm_small) (λ c. refl) (λ c stays_c is. ap (λ n. advanced (with_register c t (imm_value op n (word_from imm)))) is) whole.first whole.second

  pub address_steps : (m : LowState) (b : State) (to : VirtualRegister) (symbol : Symbol) (end : ℕ) → Stays w m b → is_valid_instruction w.low (routine_in w m.top.routine) (Address to symbol) ≡ true → Stands w.placing m.top.routine b.pc (items_of (routine_in w m.top.routine) (Address to symbol) ++ code_items (routine_in w m.top.routine) m.top.now) end → Steps w (low_act w.low (placement_of w) (Address to symbol) m) b 5 []
  unfolding is_valid_instruction address_fits items_of low_act act instr_shows joined
  address_steps m b to symbol end stays valid stands =
      let routine = routine_in w m.top.routine in
      let whole = split w.placing m.top.routine b.pc (items_of routine (Address to symbol)) _ end stands in
      let t = operand routine 10 to in
      let target = targets routine to in
      let two = address_first w.placing m.top.routine b.pc t symbol (put routine to) whole.middle whole.first in
      let lui = becomes w law b (Lui t two.upper) t (two.upper * 2 ^ 12) stays.sound two.first target.some target.small refl refl in
      let c = placed b lui.registers (b.pc + 4) in
      let sound_c = sound_placed w law b lui.registers (b.pc + 4) stays.sound lui.size in
      let added = becomes w law c (ImmInstr Addi t t two.lower) t ((register c t + word_from two.lower) % 2 ^ 32) sound_c two.second target.some target.small refl refl in
      let is : (register c t + word_from two.lower) % 2 ^ 32 ≡ w.placing.address symbol = ap (λ n. (n + word_from two.lower) % 2 ^ 32) (register_is c t target.some ∙ lui.value_is) ∙ two.joins in
      let fits : w.placing.address symbol < 2 ^ 32 = subst (λ n. n < 2 ^ 32) two.joins (omega arith) in
      let joined_ : Becomes b t t (w.placing.address symbol) (b.pc + 4 + 4) 2 2 = record {
        registers = added.registers;
        size = added.size;
        value_is = added.value_is ∙ is;
        others = λ q other more. added.others q other more ∙ lui.others q other more;
        walk = walk_join b c (placed b added.registers (b.pc + 4 + 4)) 1 1 1 1 [] [] lui.walk added.walk;
      } in
      finish m b (w.placing.address symbol) (b.pc + 4 + 4) whole.middle end 2 2 to stays (result_of b t (w.placing.address symbol) (b.pc + 4 + 4) 2 2 target joined_) (omega arith) fits (inside m to (first_so _ _ valid)) two.rest whole.second

  -- what lies below the limit is the same in both memories
  same_load : (m : LowState) (b : State) (op : LoadOp) (a : ℕ) → Stays w m b → ((x : ℕ) → a ≤ x → x < a + load_size_of op → x < m.limit) → load_value op b.memory a ≡ load_value op m.memory a
  same_load m b Lb a stays within = ap (λ n. word_from (cast_signed w8 n)) (stays.memory a (within a (omega arith) (omega arith)))
  same_load m b Lh a stays within =
      ap₂ (λ x y. word_from (cast_signed w16 (x + 2 ^ 8 * y))) (stays.memory a (within a (omega arith) (omega arith))) (stays.memory (a + 1) (within (a + 1) (omega arith) (omega arith)))
  same_load m b Lw a stays within = word_at-same m.memory b.memory a (λ x from before. stays.memory x (within x from before))
  same_load m b Lbu a stays within = stays.memory a (within a (omega arith) (omega arith))
  same_load m b Lhu a stays within =
      ap₂ (λ x y. x + 2 ^ 8 * y) (stays.memory a (within a (omega arith) (omega arith))) (stays.memory (a + 1) (within (a + 1) (omega arith) (omega arith)))

  pub load_steps : (m : LowState) (b : State) (op : LoadOp) (to base : VirtualRegister) (offset : ℤ) (end : ℕ) → Stays w m b → is_valid_instruction w.low (routine_in w m.top.routine) (Load op to base offset) ≡ true → can_access (usable w.rights.readable m) (offset_from (value m base) offset) (load_size_of op) ≡ true → Stands w.placing m.top.routine b.pc (items_of (routine_in w m.top.routine) (Load op to base offset) ++ code_items (routine_in w m.top.routine) m.top.now) end → Steps w (low_act w.low (placement_of w) (Load op to base offset) m) b 7 []
  unfolding is_valid_instruction imm_fits items_of low_act low_load act load instr_shows
  load_steps m b op to base offset end stays valid can stands =
      let routine = routine_in w m.top.routine in
      let t = operand routine 10 to in
      let p = operand routine 10 base in
      let i = LoadInstr op t p offset in
      let a = offset_from (value m base) offset in
      let v = load_value op m.memory a in
      let whole = split w.placing m.top.routine b.pc (items_of routine (Load op to base offset)) _ end stands in
      let both : (has routine to && has routine base) ≡ true = first_so _ _ valid in
      let base_in = inside m base (second_so (has routine to) _ both) in
      let within : (x : ℕ) → a ≤ x → x < a + load_size_of op → x < m.limit = λ x from before. (usable_all w.rights.readable m a (load_size_of op) (second_so (nat_eq (a % load_size_of op) 0) _ can) x from before).1 in
      let fits = subst (λ n. n < 2 ^ 32) (same_load m b op a stays within) (load-bounded op b.memory a stays.sound.bytes) in
      let may = access_of w.rights.readable m a (load_size_of op) can in
      let acts : (c : State) → Stays w m c → register c p ≡ value m base → act i c ≡ advanced (with_register c t v) = λ c stays_c is.
      let may_c : can_access c.rights.readable a (load_size_of op) ≡ true = subst (λ rights. can_access rights.readable a (load_size_of op) ≡ true) (sym stays_c.sound.rights) may in
      ap (λ n. load op t (offset_from n offset) c) is
      ∙ cond-true (can_access c.rights.readable a (load_size_of op)) (advanced (with_register c t (load_value op c.memory a))) (faulted LoadFault c) may_c
      ∙ ap (λ n. advanced (with_register c t n)) (same_load m c op a stays_c within) in
      let done = computed_steps m b i base to v whole.middle end stays base_in (inside m to (first_so _ _ both)) fits (λ c. refl) acts whole.first whole.second in
      subst (λ s. Steps w s b 7 []) (sym (cond-true (can_access (usable w.rights.readable m) a (load_size_of op)) (with_kept to v m) _ can)) done
