-- Simplified code is valid.
use Rattle.std.proofs.Common.{◌≡◌, ℕ, pos, zero, suc, ◌-◌, ◌-ℤ◌, ◌%◌, ◌^◌, ◌≤◌, ◌<◌, Bool, true, false, ◌&&◌, not, if◌then◌else◌, Option, Some, None, List, [], ◌∷◌, ◌++◌, slice_get, length, nat_eq, nat_lt, nat_le, refl, ap, sym, ◌∙◌, subst, arith}
use Rattle.std.proofs.lemmas.Bool.{and_from, and_parts, leb-true, le-leb, lt-ltb, ltb-true}
use Rattle.std.proofs.lemmas.Bool.Decides.{nat_tests}
use Rattle.std.proofs.lemmas.Int.{ints}
use Rattle.std.proofs.lemmas.Option.{same_Some}
use Rattle.std.specs.List.{list_all}
use Rattle.std.specs.Ordering.{int_eq}
use Rattle.op_rv.specs.Encoding.{is_imm}
use Rattle.op_rv.specs.declared.instruction.AluOp.{AluOp}
use Rattle.op_rv.specs.declared.instruction.AluOp.TheVariants.{Add, Sub, Sll, Slt, Sltu, Xor, Srl, Sra, Or, And, Mul, Mulh, Mulhsu, Mulhu, Div, Divu, Rem, Remu}
use Rattle.op_rv.specs.declared.instruction.BranchOp.{BranchOp}
use Rattle.op_rv.specs.declared.instruction.BranchOp.TheVariants.{Beq, Bne, Blt, Bge, Bltu, Bgeu}
use Rattle.op_rv.specs.declared.instruction.ImmOp.{ImmOp}
use Rattle.op_rv.specs.declared.instruction.ImmOp.TheVariants.{Addi, Slti, Sltiu, Xori, Ori, Andi}
use Rattle.op_rv.specs.declared.symbol.BlockId.{BlockId}
use Rattle.op_rv.specs.declared.symbol.Symbol.{Symbol}
use Rattle.op_rv.specs.declared.symbol.Symbol.TheVariants.{Literal, Table, Descriptor, Global, Routine as RoutineSymbol}
use Rattle.op_low.specs.Valid.{address_fits, branch_fits, call_at_fits, call_fits, const_fits, has, has_all, has_block, has_landing, has_symbol, has_two, imm_fits, is_sized, is_valid, is_valid_block, is_valid_instruction, is_valid_routine, leaves, leaves_if, local_fits, operands_fit, shift_fits, takes}
use Rattle.op_low.specs.declared.code.Block.{Block}
use Rattle.op_low.specs.declared.code.Low.{Low}
use Rattle.op_low.specs.declared.code.Routine.{Routine}
use Rattle.op_low.specs.declared.ids.VirtualRegister.{VirtualRegister}
use Rattle.op_low.specs.declared.instruction.Call.{Call as Operands}
use Rattle.op_low.specs.declared.instruction.Instruction.{Instruction}
use Rattle.op_low.specs.declared.instruction.Instruction.TheVariants.{Const, Address, Local, Move, Alu, AluImm, Shift, Load, Store, Call, CallAt, Branch, Jump, Return, Raise, Read, Write, Exit}
use Rattle.op_optimize.specs.Contents.{has_already}
use Rattle.op_optimize.specs.Each.{Each, NoneLeft, OneMore}
use Rattle.op_optimize.specs.Programs.{EachRoutine}
use Rattle.op_optimize.specs.Facts.{behind_write, is_copy_of, is_kept, look_up, source, source_by, value_in, value_or, with_fact, without}
use Rattle.op_optimize.specs.Liveness.{is_dead}
use Rattle.op_optimize.specs.Reading.{same, target_of}
use Rattle.op_optimize.specs.Rewriting.{alu_both, and_one, branch, branch_both, branch_by, branch_on, first_of, fold_both, folded_into, is_zero, map_call, map_call_at, map_one, map_two, moved, operands_by, operands_of, operation, rewritten, sources, tested, with_value}
use Rattle.op_optimize.specs.Simplifying.{SimplifiesBlock, SimplifiesBlocks, SimplifiesRoutine, Simplifies, Stays, and_fact, contents_behind, destination, facts_behind, in_front, last_written, left_out, nothing_of, or_nothing, simplified, stays_as}
use Rattle.op_optimize.specs.Values.{alu_from, alu_value, folded, is_commutative, near, power_below, power_by, power_of, value_behind, value_of, value_with_one}
use Rattle.op_optimize.specs.declared.block.Way.{Way}
use Rattle.op_optimize.specs.declared.fact.Fact.{Fact}
use Rattle.op_optimize.specs.declared.fact.Known.{Known}
use Rattle.op_optimize.specs.declared.fact.Value.{Value}
use Rattle.op_optimize.specs.declared.fact.Value.TheVariants.{Copy, Number, Difference, Truth}
use Rattle.op_optimize.specs.declared.value.NumberForm.{NumberForm}
use Rattle.op_optimize.specs.declared.value.NumberForm.TheVariants.{Imm}
use Rattle.op_optimize.proofs.Costs.{sources_many}
use Rattle.op_optimize.proofs.PlainCode.{targets_fit}
use Rattle.op_optimize.proofs.SimplifiedCode.{by_first, rest_by}
use Rattle.op_optimize.proofs.SimplifiedPlans.{stays_rewritten}
use Rattle.op_optimize.proofs.SimplifiedRuns.{is_left_out as is_left_out_by}

-- ---- values and facts with registers of the better routine

module _ (better : Low) (thinner : Routine) where
  value_fits : Value → Bool
  value_fits (Copy of) = has thinner of
  value_fits (Number n) = nat_lt n (2 ^ 32)
  value_fits (Difference left right) = has thinner left && has thinner right
  value_fits (Truth op left right) = has thinner left && has thinner right

  value_fits_if : Option Value → Bool
  value_fits_if None = true
  value_fits_if (Some v) = value_fits v

  facts_fit : List Fact → Bool
  facts_fit facts = list_all (λ f. value_fits f.value) facts

  has_if : Option VirtualRegister → Bool
  has_if None = true
  has_if (Some r) = has thinner r

  valid_if : Option Instruction → Bool
  valid_if None = true
  valid_if (Some j) = is_valid_instruction better thinner j

  value_in_fits : (facts : List Fact) (r : VirtualRegister) → facts_fit facts ≡ true → has thinner r ≡ true → value_fits (value_in facts r) ≡ true
  unfolding value_in look_up value_fits facts_fit
  value_in_fits [] r fit there = there
  value_in_fits (f ∷ fs) r fit there = by (same f.register r) (value_in_fits fs r (and_parts _ _ fit).1 there)
    where
      by : (t : Bool) → value_fits (value_or r (look_up fs r)) ≡ true → value_fits (value_or r (if t then Some f.value else look_up fs r)) ≡ true
      by true rest = (and_parts _ _ fit).0
      by false rest = rest

  source_fits : (nothing : VirtualRegister) → has thinner nothing ≡ true → (v : Value) → value_fits v ≡ true → has_if (source_by nothing v) ≡ true
  unfolding value_fits has_if
  source_fits nothing there (Copy of) fits = fits
  source_fits nothing there (Number n) fits = by (nat_eq n 0)
    where
      by : (t : Bool) → has_if (if t then Some nothing else None) ≡ true
      by true = there
      by false = refl
  source_fits nothing there (Difference left right) fits = refl
  source_fits nothing there (Truth op left right) fits = refl

  without_fits : (facts : List Fact) (to : VirtualRegister) → facts_fit facts ≡ true → facts_fit (without facts to) ≡ true
  unfolding without facts_fit
  without_fits [] to fit = refl
  without_fits (f ∷ fs) to fit = by (same f.register to) (without_fits fs to (and_parts _ _ fit).1)
    where
      by : (t : Bool) → facts_fit (without fs to) ≡ true → facts_fit (if t then without fs to else f ∷ without fs to) ≡ true
      by true rest = rest
      by false rest = and_from _ _ (and_parts _ _ fit).0 rest

  behind_fits : (facts : List Fact) (last : VirtualRegister) → facts_fit facts ≡ true → facts_fit (behind_write facts last) ≡ true
  unfolding behind_write facts_fit
  behind_fits [] last fit = refl
  behind_fits (f ∷ fs) last fit = by (is_kept f last) (behind_fits fs last (and_parts _ _ fit).1)
    where
      by : (t : Bool) → facts_fit (behind_write fs last) ≡ true → facts_fit (if t then f ∷ behind_write fs last else behind_write fs last) ≡ true
      by true rest = and_from _ _ (and_parts _ _ fit).0 rest
      by false rest = rest

  joined_fits : (xs : List Fact) (f : Fact) → facts_fit xs ≡ true → value_fits f.value ≡ true → facts_fit (xs ++ f ∷ []) ≡ true
  unfolding facts_fit
  joined_fits [] f fit fits = and_from _ _ fits refl
  joined_fits (x ∷ xs) f fit fits = and_from _ _ (and_parts _ _ fit).0 (joined_fits xs f (and_parts _ _ fit).1 fits)

  with_fact_fits : (facts : List Fact) (to : VirtualRegister) (v : Value) → facts_fit facts ≡ true → value_fits v ≡ true → facts_fit (with_fact facts to v) ≡ true
  unfolding with_fact
  with_fact_fits facts to v fit fits = by (is_copy_of v to)
    where
      by : (t : Bool) → facts_fit (if t then without facts to else without facts to ++ record { register = to; value = v } ∷ []) ≡ true
      by true = without_fits facts to fit
      by false = joined_fits (without facts to) (record { register = to; value = v }) (without_fits facts to fit) fits

  -- ---- instructions

  two_there : (a b : VirtualRegister) → has thinner a ≡ true → has thinner b ≡ true → has_two thinner a b ≡ true
  two_there a b first second = and_from _ _ first second

  map_one_valid : (f : VirtualRegister → Instruction) (o : Option VirtualRegister) → has_if o ≡ true → ((a : VirtualRegister) → has thinner a ≡ true → is_valid_instruction better thinner (f a) ≡ true) → valid_if (map_one f o) ≡ true
  unfolding has_if valid_if
  map_one_valid f None there each = refl
  map_one_valid f (Some a) there each = each a there

  map_two_valid : (f : VirtualRegister → VirtualRegister → Instruction) (o q : Option VirtualRegister) → has_if o ≡ true → has_if q ≡ true → ((a b : VirtualRegister) → has thinner a ≡ true → has thinner b ≡ true → is_valid_instruction better thinner (f a b) ≡ true) → valid_if (map_two f o q) ≡ true
  unfolding has_if valid_if
  map_two_valid f None q there too each = refl
  map_two_valid f (Some a) None there too each = refl
  map_two_valid f (Some a) (Some b) there too each = each a b there too

  small_imm : (n : ℕ) → n < 2048 → is_imm (pos n) ≡ true
  small_imm n less = grind (arith, ints, nat_tests, less)

  high_imm : (n : ℕ) → 2 ^ 32 - 2048 ≤ n → n < 2 ^ 32 → is_imm (pos n -ℤ pos (2 ^ 32)) ≡ true
  high_imm n more less = grind (arith, ints, nat_tests, more, less)

  form_valid : Option NumberForm → (to a : VirtualRegister) → Bool
  form_valid None to a = true
  form_valid (Some f) to a = is_valid_instruction better thinner (folded_into f to a)

  module _ (to : VirtualRegister) (to_there : has thinner to ≡ true) where
    near_valid : (op : ImmOp) (n : ℕ) (a : VirtualRegister) → has thinner a ≡ true → form_valid (near op n) to a ≡ true
    unfolding form_valid is_valid_instruction imm_fits
    near_valid op n a there = by (nat_lt n 2048) (nat_le (2 ^ 32 - 2048) n && nat_lt n (2 ^ 32)) refl refl
      where
        by : (t u : Bool) → nat_lt n 2048 ≡ t → (nat_le (2 ^ 32 - 2048) n && nat_lt n (2 ^ 32)) ≡ u → form_valid (if t then Some (Imm op (pos n)) else (if u then Some (Imm op (pos n -ℤ pos (2 ^ 32))) else None)) to a ≡ true
        by true u e d = and_from _ _ (two_there to a to_there there) (small_imm n (ltb-true n 2048 e))
        by false true e d = and_from _ _ (two_there to a to_there there) (high_imm n (leb-true (2 ^ 32 - 2048) n (and_parts _ _ d).0) (ltb-true n (2 ^ 32) (and_parts _ _ d).1))
        by false false e d = refl

    amount_small : (n : ℕ) → nat_lt (n % 32) 32 ≡ true
    amount_small n = lt-ltb _ _ (omega arith)

    power_less : (k n : ℕ) → power_below k n ≤ k - 1
    unfolding power_below
    power_less zero n = omega arith
    power_less (suc k) n = by (nat_eq n (2 ^ k)) (power_less k n)
      where
        by : (t : Bool) → power_below k n ≤ k - 1 → (if t then k else power_below k n) ≤ suc k - 1
        by true less = omega arith
        by false less = omega arith

    power_small : (n : ℕ) → nat_lt (power_of n) 32 ≡ true
    unfolding power_of
    power_small n = let less = power_less 32 n in lt-ltb _ _ (omega arith)

    power_valid : (k : ℕ) (a : VirtualRegister) → nat_lt k 32 ≡ true → has thinner a ≡ true → form_valid (power_by k) to a ≡ true
    unfolding form_valid is_valid_instruction shift_fits
    power_valid zero a small there = refl
    power_valid (suc k) a small there = and_from _ _ (two_there to a to_there there) small

    folded_valid : (op : AluOp) (n : ℕ) (a : VirtualRegister) → has thinner a ≡ true → form_valid (folded op n) to a ≡ true
    unfolding folded form_valid is_valid_instruction shift_fits
    folded_valid Add n a there = near_valid Addi n a there
    folded_valid Sub n a there = near_valid Addi ((2 ^ 32 - n) % 2 ^ 32) a there
    folded_valid And n a there = near_valid Andi n a there
    folded_valid Or n a there = near_valid Ori n a there
    folded_valid Xor n a there = near_valid Xori n a there
    folded_valid Slt n a there = near_valid Slti n a there
    folded_valid Sltu n a there = near_valid Sltiu n a there
    folded_valid Sll n a there = and_from _ _ (two_there to a to_there there) (amount_small n)
    folded_valid Srl n a there = and_from _ _ (two_there to a to_there there) (amount_small n)
    folded_valid Sra n a there = and_from _ _ (two_there to a to_there there) (amount_small n)
    folded_valid Mul n a there = power_valid (power_of n) a (power_small n) there
    folded_valid Mulh n a there = refl
    folded_valid Mulhsu n a there = refl
    folded_valid Mulhu n a there = refl
    folded_valid Div n a there = refl
    folded_valid Divu n a there = refl
    folded_valid Rem n a there = refl
    folded_valid Remu n a there = refl

    fold_valid : (o : Option NumberForm) (q : Option VirtualRegister) → has_if q ≡ true → ((a : VirtualRegister) → has thinner a ≡ true → form_valid o to a ≡ true) → valid_if (fold_both o to q) ≡ true
    unfolding has_if valid_if form_valid
    fold_valid None q there each = refl
    fold_valid (Some f) None there each = refl
    fold_valid (Some f) (Some a) there each = each a there

    with_value_valid : (op : AluOp) (q : Option VirtualRegister) (v : Value) → has_if q ≡ true → valid_if (with_value op to q v) ≡ true
    unfolding with_value valid_if
    with_value_valid op q (Number n) there = fold_valid (folded op n) q there (folded_valid op n)
    with_value_valid op q (Copy of) there = refl
    with_value_valid op q (Difference left right) there = refl
    with_value_valid op q (Truth t left right) there = refl

    first_valid : (o q : Option Instruction) → valid_if o ≡ true → valid_if q ≡ true → valid_if (first_of o q) ≡ true
    first_valid None q a b = b
    first_valid (Some j) q a b = a

    if_valid : (t : Bool) (o : Option Instruction) → valid_if o ≡ true → valid_if (if t then o else None) ≡ true
    unfolding valid_if
    if_valid true o valid = valid
    if_valid false o valid = refl

    both_valid : (op : AluOp) (o q : Option VirtualRegister) → has_if o ≡ true → has_if q ≡ true → valid_if (alu_both op to o q) ≡ true
    unfolding has_if valid_if is_valid_instruction
    both_valid op None q there too = refl
    both_valid op (Some a) None there too = refl
    both_valid op (Some a) (Some b) there too = and_from _ _ (and_from _ _ to_there there) too

    moved_valid : (v : Value) → value_fits v ≡ true → valid_if (moved to v) ≡ true
    unfolding moved value_fits valid_if is_valid_instruction const_fits
    moved_valid (Copy of) fits = and_from _ _ to_there fits
    moved_valid (Number n) fits = and_from _ _ to_there fits
    moved_valid (Difference left right) fits = and_from _ _ (and_from _ _ to_there (and_parts _ _ fits).0) (and_parts _ _ fits).1
    moved_valid (Truth Blt left right) fits = and_from _ _ (and_from _ _ to_there (and_parts _ _ fits).0) (and_parts _ _ fits).1
    moved_valid (Truth Bltu left right) fits = and_from _ _ (and_from _ _ to_there (and_parts _ _ fits).0) (and_parts _ _ fits).1
    moved_valid (Truth Beq left right) fits = refl
    moved_valid (Truth Bne left right) fits = refl
    moved_valid (Truth Bge left right) fits = refl
    moved_valid (Truth Bgeu left right) fits = refl

  branch_both_valid : (op : BranchOp) (o q : Option VirtualRegister) (block : BlockId) → has_block thinner block ≡ true → has_if o ≡ true → has_if q ≡ true → valid_if (branch_both op o q block) ≡ true
  unfolding has_if valid_if is_valid_instruction branch_fits
  branch_both_valid op None q block at there too = refl
  branch_both_valid op (Some a) None block at there too = refl
  branch_both_valid op (Some a) (Some b) block at there too = and_from _ _ (and_from _ _ there too) at

  branch_on_valid : (o : Option BranchOp) (a b : VirtualRegister) (block : BlockId) → has_block thinner block ≡ true → has thinner a ≡ true → has thinner b ≡ true → valid_if (branch_on o a b block) ≡ true
  unfolding valid_if is_valid_instruction branch_fits
  branch_on_valid None a b block at there too = refl
  branch_on_valid (Some op) a b block at there too = and_from _ _ (and_from _ _ there too) at

-- ---- code of a routine

module _ (low better : Low) (routine thinner : Routine) (takes_stay : (r arguments : ℕ) → takes (slice_get better.routines r) arguments ≡ takes (slice_get low.routines r) arguments) (symbols_stay : (symbol : Symbol) → has_symbol better symbol ≡ has_symbol low symbol) (has_more : (r : VirtualRegister) → has routine r ≡ true → has thinner r ≡ true) (locals : thinner.locals ≡ routine.locals) (blocks : length thinner.blocks ≡ length routine.blocks) where
  block_there : (block : BlockId) → has_block routine block ≡ true → has_block thinner block ≡ true
  block_there block is = ap (nat_lt block.0) blocks ∙ is

  landing_there : (landing : Option BlockId) → has_landing routine landing ≡ true → has_landing thinner landing ≡ true
  landing_there None is = refl
  landing_there (Some block) is = block_there block is

  module _ (nothing : VirtualRegister) (nothing_there : has thinner nothing ≡ true) (facts : List Fact) (fit : facts_fit better thinner facts ≡ true) where
    from : (r : VirtualRegister) → has routine r ≡ true → has_if better thinner (source facts nothing r) ≡ true
    unfolding source
    from r there = source_fits better thinner nothing nothing_there (value_in facts r) (value_in_fits better thinner facts r fit (has_more r there))

    all_there_if : Option (List VirtualRegister) → Bool
    all_there_if None = true
    all_there_if (Some rs) = list_all (has thinner) rs

    sources_there : (rs : List VirtualRegister) → list_all (has routine) rs ≡ true → all_there_if (sources facts nothing rs) ≡ true
    unfolding sources all_there_if has_if
    sources_there [] all = refl
    sources_there (r ∷ rs) all = by (source facts nothing r) (sources facts nothing rs) (from r (and_parts _ _ all).0) (sources_there rs (and_parts _ _ all).1)
      where
        by : (o : Option VirtualRegister) (q : Option (List VirtualRegister)) → has_if better thinner o ≡ true → all_there_if q ≡ true → all_there_if (and_one o q) ≡ true
        by None q there rest = refl
        by (Some a) None there rest = refl
        by (Some a) (Some l) there rest = and_from _ _ there rest

    operands_valid : (call : Operands) (to : VirtualRegister) → has thinner to ≡ true → operands_fit routine call ≡ true → (q : Option (List VirtualRegister)) → sources facts nothing call.arguments ≡ q → (new : Operands) → operands_by call to q ≡ Some new → (operands_fit thinner new ≡ true) × (length new.arguments ≡ length call.arguments)
    unfolding operands_fit has_all all_there_if
    operands_valid call to to_there valid None e new is = absurd cc
    operands_valid call to to_there valid (Some l) e new is =
        let parts = and_parts _ _ valid in
        let args = and_parts _ _ parts.0 in
        let there : list_all (has thinner) l ≡ true = ap all_there_if (sym e) ∙ sources_there call.arguments args.0 in
        subst (λ (o : Operands). (operands_fit thinner o ≡ true) × (length o.arguments ≡ length call.arguments)) (same_Some _ _ is)
        (and_from _ _ (and_from _ _ there to_there) (landing_there call.landing parts.1), sources_many facts nothing to call.arguments l e)

    rewritten_valid : (i j : Instruction) (to : VirtualRegister) → has thinner to ≡ true → is_valid_instruction low routine i ≡ true → rewritten facts nothing to i ≡ Some j → is_valid_instruction better thinner j ≡ true
    unfolding valid_if rewritten is_valid_instruction const_fits address_fits local_fits imm_fits shift_fits branch_fits call_fits call_at_fits operation branch operands_of has_if value_fits
    rewritten_valid i j to to_there valid is = by i valid is
      where
        told : (o : Option Instruction) → valid_if better thinner o ≡ true → o ≡ Some j → is_valid_instruction better thinner j ≡ true
        told o fine e = ap (valid_if better thinner) (sym e) ∙ fine

        branches : (op : BranchOp) (v : Value) (left right : VirtualRegister) (block : BlockId) → has_block thinner block ≡ true → value_fits better thinner v ≡ true → has routine left ≡ true → has routine right ≡ true → valid_if better thinner (branch_by facts nothing op v left right block) ≡ true
        branches op (Truth t a b) left right block at fits l r = if_valid better thinner nothing nothing_there (is_zero (value_in facts right)) _ (branch_on_valid better thinner (tested op t) a b block at (and_parts _ _ fits).0 (and_parts _ _ fits).1)
        branches op (Copy of) left right block at fits l r = branch_both_valid better thinner op (source facts nothing left) (source facts nothing right) block at (from left l) (from right r)
        branches op (Number n) left right block at fits l r = branch_both_valid better thinner op (source facts nothing left) (source facts nothing right) block at (from left l) (from right r)
        branches op (Difference a b) left right block at fits l r = branch_both_valid better thinner op (source facts nothing left) (source facts nothing right) block at (from left l) (from right r)

        by : (i : Instruction) → is_valid_instruction low routine i ≡ true → rewritten facts nothing to i ≡ Some j → is_valid_instruction better thinner j ≡ true
        by (Const t n) valid is = told (Some (Const to n)) (and_from _ _ to_there (and_parts _ _ valid).1) is
        by (Address t symbol) valid is = told (Some (Address to symbol)) (and_from _ _ to_there (symbols_stay symbol ∙ (and_parts _ _ valid).1)) is
        by (Local t offset) valid is = told (Some (Local to offset)) (and_from _ _ to_there (ap (nat_lt offset) locals ∙ (and_parts _ _ valid).1)) is
        by (Move t r) valid is = told _ (moved_valid better thinner to to_there (value_in facts r) (value_in_fits better thinner facts r fit (has_more r (and_parts _ _ valid).1))) is
        by (Alu op t left right) valid is =
            let l = (and_parts _ _ (and_parts _ _ valid).0).1 in
            let r = (and_parts _ _ valid).1 in
            told _
            (first_valid better thinner to to_there _ _ (with_value_valid better thinner to to_there op (source facts nothing left) (value_in facts right) (from left l))
            (first_valid better thinner to to_there _ _ (if_valid better thinner to to_there (is_commutative op) _ (with_value_valid better thinner to to_there op (source facts nothing right) (value_in facts left) (from right r)))
            (both_valid better thinner to to_there op (source facts nothing left) (source facts nothing right) (from left l) (from right r)))) is
        by (AluImm op t left imm) valid is =
            told _ (map_one_valid better thinner (λ a. AluImm op to a imm) (source facts nothing left) (from left (and_parts _ _ (and_parts _ _ valid).0).1) (λ a there. and_from _ _ (and_from _ _ to_there there) (and_parts _ _ valid).1)) is
        by (Shift op t left amount) valid is =
            told _ (map_one_valid better thinner (λ a. Shift op to a amount) (source facts nothing left) (from left (and_parts _ _ (and_parts _ _ valid).0).1) (λ a there. and_from _ _ (and_from _ _ to_there there) (and_parts _ _ valid).1)) is
        by (Load op t base offset) valid is =
            told _ (map_one_valid better thinner (λ a. Load op to a offset) (source facts nothing base) (from base (and_parts _ _ (and_parts _ _ valid).0).1) (λ a there. and_from _ _ (and_from _ _ to_there there) (and_parts _ _ valid).1)) is
        by (Store op v base offset) valid is =
            told _ (map_two_valid better thinner (λ a b. Store op a b offset) (source facts nothing v) (source facts nothing base) (from v (and_parts _ _ (and_parts _ _ valid).0).0) (from base (and_parts _ _ (and_parts _ _ valid).0).1) (λ a b there too. and_from _ _ (and_from _ _ there too) (and_parts _ _ valid).1)) is
        by (Call id call) valid is = call_found (operands_of facts nothing call to) refl is
          where
            call_found : (o : Option Operands) → operands_of facts nothing call to ≡ o → map_call (Call id) o ≡ Some j → is_valid_instruction better thinner j ≡ true
            call_found None e is = absurd cc
            call_found (Some new) e is =
                let fine = operands_valid call to to_there (and_parts _ _ valid).1 (sources facts nothing call.arguments) refl new e in
                subst (λ k. is_valid_instruction better thinner k ≡ true) (same_Some _ _ is)
                (and_from _ _ (ap (takes (slice_get better.routines id.0)) fine.1 ∙ takes_stay id.0 (length call.arguments) ∙ (and_parts _ _ valid).0) fine.0)
        by (CallAt address call) valid is = call_found (source facts nothing address) (operands_of facts nothing call to) (from address (and_parts _ _ valid).0) refl is
          where
            call_found : (q : Option VirtualRegister) (o : Option Operands) → has_if better thinner q ≡ true → operands_of facts nothing call to ≡ o → map_call_at q o ≡ Some j → is_valid_instruction better thinner j ≡ true
            call_found None o there e is = absurd cc
            call_found (Some at) None there e is = absurd cc
            call_found (Some at) (Some new) there e is =
                let fine = operands_valid call to to_there (and_parts _ _ valid).1 (sources facts nothing call.arguments) refl new e in
                subst (λ k. is_valid_instruction better thinner k ≡ true) (same_Some _ _ is) (and_from _ _ there fine.0)
        by (Branch op left right block) valid is =
            let l = (and_parts _ _ (and_parts _ _ valid).0).0 in
            let r = (and_parts _ _ (and_parts _ _ valid).0).1 in
            told _ (branches op (value_in facts left) left right block (block_there block (and_parts _ _ valid).1) (value_in_fits better thinner facts left fit (has_more left l)) l r) is
        by (Jump block) valid is = told (Some (Jump block)) (block_there block valid) is
        by (Return v) valid is = told _ (map_one_valid better thinner Return (source facts nothing v) (from v valid) (λ a there. there)) is
        by Raise valid is = told (Some Raise) refl is
        by (Read t buffer size) valid is =
            told _ (map_two_valid better thinner (Read to) (source facts nothing buffer) (source facts nothing size) (from buffer (and_parts _ _ (and_parts _ _ valid).0).1) (from size (and_parts _ _ valid).1) (λ a b there too. and_from _ _ (and_from _ _ to_there there) too)) is
        by (Write output buffer size) valid is =
            told _ (map_two_valid better thinner (Write output) (source facts nothing buffer) (source facts nothing size) (from buffer (and_parts _ _ valid).0) (from size (and_parts _ _ valid).1) (λ a b there too. and_from _ _ there too)) is
        by (Exit status) valid is = told _ (map_one_valid better thinner Exit (source facts nothing status) (from status valid) (λ a there. there)) is

    -- ---- the value of what is left out

    with_one_fits : (op : ImmOp) (v : Value) → value_fits better thinner v ≡ true → value_fits_if better thinner (value_with_one nothing op v) ≡ true
    unfolding value_with_one value_fits value_fits_if
    with_one_fits Sltiu (Copy of) fits = and_from _ _ fits nothing_there
    with_one_fits Sltiu (Number n) fits = refl
    with_one_fits Sltiu (Difference left right) fits = fits
    with_one_fits Sltiu (Truth t left right) fits = fits
    with_one_fits Xori (Truth t left right) fits = fits
    with_one_fits Xori (Copy of) fits = refl
    with_one_fits Xori (Number n) fits = refl
    with_one_fits Xori (Difference left right) fits = refl
    with_one_fits Addi v fits = refl
    with_one_fits Slti v fits = refl
    with_one_fits Ori v fits = refl
    with_one_fits Andi v fits = refl

    alu_fits : (op : AluOp) (o q : Option VirtualRegister) → has_if better thinner o ≡ true → has_if better thinner q ≡ true → value_fits_if better thinner (alu_from op o q) ≡ true
    unfolding has_if value_fits_if value_fits
    alu_fits op None q there too = refl
    alu_fits op (Some a) None there too = refl
    alu_fits Slt (Some a) (Some b) there too = and_from _ _ there too
    alu_fits Sltu (Some a) (Some b) there too = and_from _ _ there too
    alu_fits Xor (Some a) (Some b) there too = and_from _ _ there too
    alu_fits Add (Some a) (Some b) there too = refl
    alu_fits Sub (Some a) (Some b) there too = refl
    alu_fits Sll (Some a) (Some b) there too = refl
    alu_fits Srl (Some a) (Some b) there too = refl
    alu_fits Sra (Some a) (Some b) there too = refl
    alu_fits Or (Some a) (Some b) there too = refl
    alu_fits And (Some a) (Some b) there too = refl
    alu_fits Mul (Some a) (Some b) there too = refl
    alu_fits Mulh (Some a) (Some b) there too = refl
    alu_fits Mulhsu (Some a) (Some b) there too = refl
    alu_fits Mulhu (Some a) (Some b) there too = refl
    alu_fits Div (Some a) (Some b) there too = refl
    alu_fits Divu (Some a) (Some b) there too = refl
    alu_fits Rem (Some a) (Some b) there too = refl
    alu_fits Remu (Some a) (Some b) there too = refl

    value_of_fits : (i : Instruction) → is_valid_instruction low routine i ≡ true → value_fits_if better thinner (value_of facts nothing i) ≡ true
    unfolding value_of value_fits_if value_fits is_valid_instruction const_fits imm_fits alu_value
    value_of_fits (Const t n) valid = (and_parts _ _ valid).1
    value_of_fits (Move t r) valid = value_in_fits better thinner facts r fit (has_more r (and_parts _ _ valid).1)
    value_of_fits (Alu op t left right) valid = alu_fits op (source facts nothing left) (source facts nothing right) (from left (and_parts _ _ (and_parts _ _ valid).0).1) (from right (and_parts _ _ valid).1)
    value_of_fits (AluImm op t left imm) valid = by (int_eq imm (pos 1))
      where
        by : (t' : Bool) → value_fits_if better thinner (if t' then value_with_one nothing op (value_in facts left) else None) ≡ true
        by true = with_one_fits op (value_in facts left) (value_in_fits better thinner facts left fit (has_more left (and_parts _ _ (and_parts _ _ valid).0).1))
        by false = refl
    value_of_fits (Address t symbol) valid = refl
    value_of_fits (Local t offset) valid = refl
    value_of_fits (Shift op t left amount) valid = refl
    value_of_fits (Load op t base offset) valid = refl
    value_of_fits (Store op v base offset) valid = refl
    value_of_fits (Call id call) valid = refl
    value_of_fits (CallAt address call) valid = refl
    value_of_fits (Branch op left right block) valid = refl
    value_of_fits (Jump block) valid = refl
    value_of_fits (Return v) valid = refl
    value_of_fits Raise valid = refl
    value_of_fits (Read t buffer size) valid = refl
    value_of_fits (Write output buffer size) valid = refl
    value_of_fits (Exit status) valid = refl

    value_behind_fits : (known : List Known) (to : VirtualRegister) (i : Instruction) → has thinner to ≡ true → is_valid_instruction low routine i ≡ true → value_fits_if better thinner (value_behind facts known nothing to i) ≡ true
    unfolding value_behind value_fits_if value_fits
    value_behind_fits known to i there valid = by (has_already known to i) (value_of_fits i valid)
      where
        by : (t : Bool) → value_fits_if better thinner (value_of facts nothing i) ≡ true → value_fits_if better thinner (if t then Some (Copy to) else value_of facts nothing i) ≡ true
        by true rest = there
        by false rest = rest

  -- ---- code

  module _ (live : List ℕ) (way : Way) (nothing_there : has thinner way.nothing ≡ true) where
    target_there : (i : Instruction) (to : VirtualRegister) → is_valid_instruction low routine i ≡ true → target_of i ≡ Some to → has thinner to ≡ true
    target_there i to valid is = has_more to (targets_fit low routine i to valid is)

    destination_there : (is : List Instruction) (to : VirtualRegister) → has thinner to ≡ true → list_all (is_valid_instruction low routine) is ≡ true → has thinner (destination live way is to) ≡ true
    unfolding destination is_valid_instruction
    destination_there (Move last r ∷ is) to there valid = by (way.thorough && same r to && not (same last to) && is_dead live is to)
      where
        by : (t : Bool) → has thinner (if t then last else to) ≡ true
        by true = has_more last (and_parts _ _ (and_parts _ _ valid).0).0
        by false = there
    destination_there [] to there valid = there
    destination_there (Const t n ∷ is) to there valid = there
    destination_there (Address t symbol ∷ is) to there valid = there
    destination_there (Local t offset ∷ is) to there valid = there
    destination_there (Alu op t left right ∷ is) to there valid = there
    destination_there (AluImm op t left imm ∷ is) to there valid = there
    destination_there (Shift op t left amount ∷ is) to there valid = there
    destination_there (Load op t base offset ∷ is) to there valid = there
    destination_there (Store op v base offset ∷ is) to there valid = there
    destination_there (Call id call ∷ is) to there valid = there
    destination_there (CallAt address call ∷ is) to there valid = there
    destination_there (Branch op left right block ∷ is) to there valid = there
    destination_there (Jump block ∷ is) to there valid = there
    destination_there (Return v ∷ is) to there valid = there
    destination_there (Raise ∷ is) to there valid = there
    destination_there (Read t buffer size ∷ is) to there valid = there
    destination_there (Write output buffer size ∷ is) to there valid = there
    destination_there (Exit status ∷ is) to there valid = there

    last_there : (i : Instruction) (is : List Instruction) → is_valid_instruction low routine i ≡ true → list_all (is_valid_instruction low routine) is ≡ true → has thinner (or_nothing way (last_written live way is (target_of i))) ≡ true
    last_there i is valid rest = by (target_of i) refl
      where
        by : (o : Option VirtualRegister) → target_of i ≡ o → has thinner (or_nothing way (last_written live way is o)) ≡ true
        by None e = nothing_there
        by (Some to) e = destination_there is to (target_there i to valid e) rest

    facts_behind_fit : (facts : List Fact) (i : Instruction) (is : List Instruction) → facts_fit better thinner facts ≡ true → is_valid_instruction low routine i ≡ true → list_all (is_valid_instruction low routine) is ≡ true → facts_fit better thinner (facts_behind live way facts is (target_of i)) ≡ true
    unfolding facts_behind value_fits
    facts_behind_fit facts i is fit valid rest = by (target_of i) refl
      where
        by : (o : Option VirtualRegister) → target_of i ≡ o → facts_fit better thinner (facts_behind live way facts is o) ≡ true
        by None e = fit
        by (Some to) e =
            with_fact_fits better thinner (behind_write (without facts to) (destination live way is to)) to (Copy (destination live way is to))
            (behind_fits better thinner (without facts to) (destination live way is to) (without_fits better thinner facts to fit))
            (destination_there is to (target_there i to valid e) rest)

    left_fits : (facts : List Fact) (known : List Known) (i : Instruction) (is : List Instruction) (v : Value) → facts_fit better thinner facts ≡ true → is_valid_instruction low routine i ≡ true → left_out live way facts known i is ≡ Some v → facts_fit better thinner (and_fact facts (target_of i) (Some v)) ≡ true
    unfolding value_fits_if
    left_fits facts known i is v fit valid left =
        let out = is_left_out_by live way facts known i is v left in
        let there = target_there i out.to valid out.target in
        let fits : value_fits better thinner v ≡ true = ap (value_fits_if better thinner) (sym out.is) ∙ value_behind_fits way.nothing nothing_there facts fit known out.to i there valid in
        subst (λ o. facts_fit better thinner (and_fact facts o (Some v)) ≡ true) (sym out.target) (with_fact_fits better thinner facts out.to v fit fits)

    code_valid : (facts : List Fact) (known : List Known) (code js : List Instruction) → facts_fit better thinner facts ≡ true → list_all (is_valid_instruction low routine) code ≡ true → simplified live way facts known code ≡ Some js → list_all (is_valid_instruction better thinner) js ≡ true
    unfolding simplified
    code_valid facts known [] js fit valid is_js = subst (λ (l : List Instruction). list_all (is_valid_instruction better thinner) l ≡ true) (same_Some _ _ is_js) refl
    code_valid facts known (i ∷ is) js fit valid is_js =
        by (left_out live way facts known i is) refl (sym (by_first live way facts known i is) ∙ is_js)
        (λ v e l. code_valid (and_fact facts (target_of i) (Some v)) known is l (left_fits facts known i is v fit (and_parts _ _ valid).0 e) (and_parts _ _ valid).1)
        (λ l. code_valid (facts_behind live way facts is (target_of i)) (contents_behind live way known i is) is l (facts_behind_fit facts i is fit (and_parts _ _ valid).0 (and_parts _ _ valid).1) (and_parts _ _ valid).1)
      where
        kept : (o : Option Instruction) (q : Option (List Instruction)) → stays_as live way facts i is ≡ o → simplified live way (facts_behind live way facts is (target_of i)) (contents_behind live way known i is) is ≡ q → in_front o q ≡ Some js → ((l : List Instruction) → simplified live way (facts_behind live way facts is (target_of i)) (contents_behind live way known i is) is ≡ Some l → list_all (is_valid_instruction better thinner) l ≡ true) → list_all (is_valid_instruction better thinner) js ≡ true
        kept None q e d all rest = absurd cc
        kept (Some j) None e d all rest = absurd cc
        kept (Some j) (Some l) e d all rest =
            subst (λ (l : List Instruction). list_all (is_valid_instruction better thinner) l ≡ true) (same_Some _ _ all)
            (and_from _ _ (rewritten_valid way.nothing nothing_there facts fit i j (or_nothing way (last_written live way is (target_of i))) (last_there i is (and_parts _ _ valid).0 (and_parts _ _ valid).1) (and_parts _ _ valid).0 (stays_rewritten live way facts i j is e)) (rest l d))

        by : (o : Option Value) → left_out live way facts known i is ≡ o → rest_by live way facts known i is o ≡ Some js → ((v : Value) → left_out live way facts known i is ≡ Some v → (l : List Instruction) → simplified live way (and_fact facts (target_of i) (Some v)) known is ≡ Some l → list_all (is_valid_instruction better thinner) l ≡ true) → ((l : List Instruction) → simplified live way (facts_behind live way facts is (target_of i)) (contents_behind live way known i is) is ≡ Some l → list_all (is_valid_instruction better thinner) l ≡ true) → list_all (is_valid_instruction better thinner) js ≡ true
        by (Some v) e all left rest = left v e js all
        by None e all left rest = kept (stays_as live way facts i is) (simplified live way (facts_behind live way facts is (target_of i)) (contents_behind live way known i is) is) refl refl all rest

-- ---- the last instruction leaves the block

-- of code
data Leaves : List Instruction → Type 0 where
  LastLeaves : {i : Instruction} → leaves i ≡ true → Leaves (i ∷ [])
  RestLeaves : {i : Instruction} {is : List Instruction} → Leaves is → Leaves (i ∷ is)

-- by the first instruction
data EndsSo (i : Instruction) (is : List Instruction) : Type 0 where
  Ends : is ≡ [] → leaves i ≡ true → EndsSo i is
  Goes : Leaves is → EndsSo i is

leaves_so : (i : Instruction) (is : List Instruction) → Leaves (i ∷ is) → EndsSo i is
leaves_so i [] (LastLeaves left) = Ends refl left
leaves_so i [] (RestLeaves rest) = Goes rest
leaves_so i (j ∷ js) (RestLeaves rest) = Goes rest

leaves_by : (code : List Instruction) → leaves_if (slice_get code (length code - 1)) ≡ true → Leaves code
leaves_by [] last = absurd cc
leaves_by (i ∷ []) last = LastLeaves last
leaves_by (i ∷ j ∷ js) last =
    let at : length (i ∷ j ∷ js) - 1 ≡ suc (length (j ∷ js) - 1) = omega arith in
    RestLeaves (leaves_by (j ∷ js) (sym (ap (λ k. leaves_if (slice_get (i ∷ j ∷ js) k)) at) ∙ last))

by_leaves : (code : List Instruction) → Leaves code → leaves_if (slice_get code (length code - 1)) ≡ true
by_leaves [] all = elim all [ ]
by_leaves (i ∷ []) (LastLeaves last) = last
by_leaves (i ∷ []) (RestLeaves rest) = elim rest [ ]
by_leaves (i ∷ j ∷ js) (RestLeaves rest) =
    let at : length (i ∷ j ∷ js) - 1 ≡ suc (length (j ∷ js) - 1) = omega arith in
    ap (λ k. leaves_if (slice_get (i ∷ j ∷ js) k)) at ∙ by_leaves (j ∷ js) rest

leaving_stays : (facts : List Fact) (nothing to : VirtualRegister) (i j : Instruction) → leaves i ≡ true → rewritten facts nothing to i ≡ Some j → leaves j ≡ true
unfolding leaves rewritten
leaving_stays facts nothing to (Jump block) j last is = ap (λ o. leaves_if o) (sym is)
leaving_stays facts nothing to (Return v) j last is = by (source facts nothing v) is
  where
    by : (o : Option VirtualRegister) → map_one Return o ≡ Some j → leaves j ≡ true
    by None is = absurd cc
    by (Some a) is = ap (λ o. leaves_if o) (sym is)
leaving_stays facts nothing to Raise j last is = ap (λ o. leaves_if o) (sym is)
leaving_stays facts nothing to (Exit status) j last is = by (source facts nothing status) is
  where
    by : (o : Option VirtualRegister) → map_one Exit o ≡ Some j → leaves j ≡ true
    by None is = absurd cc
    by (Some a) is = ap (λ o. leaves_if o) (sym is)
leaving_stays facts nothing to (Const t n) j last is = absurd cc
leaving_stays facts nothing to (Address t symbol) j last is = absurd cc
leaving_stays facts nothing to (Local t offset) j last is = absurd cc
leaving_stays facts nothing to (Move t from) j last is = absurd cc
leaving_stays facts nothing to (Alu op t left right) j last is = absurd cc
leaving_stays facts nothing to (AluImm op t left imm) j last is = absurd cc
leaving_stays facts nothing to (Shift op t left amount) j last is = absurd cc
leaving_stays facts nothing to (Load op t base offset) j last is = absurd cc
leaving_stays facts nothing to (Store op v base offset) j last is = absurd cc
leaving_stays facts nothing to (Call id call) j last is = absurd cc
leaving_stays facts nothing to (CallAt address call) j last is = absurd cc
leaving_stays facts nothing to (Branch op left right block) j last is = absurd cc
leaving_stays facts nothing to (Read t buffer size) j last is = absurd cc
leaving_stays facts nothing to (Write output buffer size) j last is = absurd cc

writes_nothing : (i : Instruction) → leaves i ≡ true → target_of i ≡ None
unfolding leaves target_of
writes_nothing (Jump block) last = refl
writes_nothing (Return v) last = refl
writes_nothing Raise last = refl
writes_nothing (Exit status) last = refl
writes_nothing (Const t n) last = absurd cc
writes_nothing (Address t symbol) last = absurd cc
writes_nothing (Local t offset) last = absurd cc
writes_nothing (Move t from) last = absurd cc
writes_nothing (Alu op t left right) last = absurd cc
writes_nothing (AluImm op t left imm) last = absurd cc
writes_nothing (Shift op t left amount) last = absurd cc
writes_nothing (Load op t base offset) last = absurd cc
writes_nothing (Store op v base offset) last = absurd cc
writes_nothing (Call id call) last = absurd cc
writes_nothing (CallAt address call) last = absurd cc
writes_nothing (Branch op left right block) last = absurd cc
writes_nothing (Read t buffer size) last = absurd cc
writes_nothing (Write output buffer size) last = absurd cc

module _ (live : List ℕ) (way : Way) where
  code_leaves : (facts : List Fact) (known : List Known) (code js : List Instruction) → Leaves code → simplified live way facts known code ≡ Some js → Leaves js
  unfolding simplified
  code_leaves facts known [] js last is_js = elim last [ ]
  code_leaves facts known (i ∷ is) js last is_js =
      by (left_out live way facts known i is) refl (sym (by_first live way facts known i is) ∙ is_js) last
      (λ v l further. code_leaves (and_fact facts (target_of i) v) known is l further)
      (λ l further. code_leaves (facts_behind live way facts is (target_of i)) (contents_behind live way known i is) is l further)
    where
      kept : (o : Option Instruction) (q : Option (List Instruction)) → stays_as live way facts i is ≡ o → simplified live way (facts_behind live way facts is (target_of i)) (contents_behind live way known i is) is ≡ q → in_front o q ≡ Some js → Leaves (i ∷ is) → ((l : List Instruction) → Leaves is → simplified live way (facts_behind live way facts is (target_of i)) (contents_behind live way known i is) is ≡ Some l → Leaves l) → Leaves js
      kept None q e d all last rest = absurd cc
      kept (Some j) None e d all last rest = absurd cc
      kept (Some j) (Some l) e d all last rest = subst Leaves (same_Some _ _ all) (ends (leaves_so i is last))
        where
          ends : EndsSo i is → Leaves (j ∷ l)
          ends (Goes further) = RestLeaves (rest l further d)
          ends (Ends none left) =
              let no_more : [] ≡ l = same_Some _ _ (sym (ap (λ code. simplified live way (facts_behind live way facts code (target_of i)) (contents_behind live way known i code) code) none) ∙ d) in
              subst (λ (k : List Instruction). Leaves (j ∷ k)) no_more (LastLeaves (leaving_stays facts way.nothing (or_nothing way (last_written live way is (target_of i))) i j left (stays_rewritten live way facts i j is e)))

      by : (o : Option Value) → left_out live way facts known i is ≡ o → rest_by live way facts known i is o ≡ Some js → Leaves (i ∷ is) → ((v : Option Value) (l : List Instruction) → Leaves is → simplified live way (and_fact facts (target_of i) v) known is ≡ Some l → Leaves l) → ((l : List Instruction) → Leaves is → simplified live way (facts_behind live way facts is (target_of i)) (contents_behind live way known i is) is ≡ Some l → Leaves l) → Leaves js
      by None e all last left rest = kept (stays_as live way facts i is) (simplified live way (facts_behind live way facts is (target_of i)) (contents_behind live way known i is) is) refl refl all last rest
      by (Some v) e all last left rest = ends (leaves_so i is last)
        where
          ends : EndsSo i is → Leaves js
          ends (Goes further) = left (Some v) js further all
          ends (Ends none leaving) =
              let out = is_left_out_by live way facts known i is v e in
              let clash : None ≡ Some out.to = sym (writes_nothing i leaving) ∙ out.target in
              absurd cc

-- ---- routines and programs

-- the same but for what a program has beside its routines
same_valid : (low better : Low) (routine : Routine) → ((r arguments : ℕ) → takes (slice_get better.routines r) arguments ≡ takes (slice_get low.routines r) arguments) → ((symbol : Symbol) → has_symbol better symbol ≡ has_symbol low symbol) → (i : Instruction) → is_valid_instruction low routine i ≡ true → is_valid_instruction better routine i ≡ true
unfolding is_valid_instruction address_fits call_fits
same_valid low better routine takes_stay symbols_stay (Const t n) valid = valid
same_valid low better routine takes_stay symbols_stay (Address t symbol) valid = and_from _ _ (and_parts _ _ valid).0 (symbols_stay symbol ∙ (and_parts _ _ valid).1)
same_valid low better routine takes_stay symbols_stay (Local t offset) valid = valid
same_valid low better routine takes_stay symbols_stay (Move t from) valid = valid
same_valid low better routine takes_stay symbols_stay (Alu op t left right) valid = valid
same_valid low better routine takes_stay symbols_stay (AluImm op t left imm) valid = valid
same_valid low better routine takes_stay symbols_stay (Shift op t left amount) valid = valid
same_valid low better routine takes_stay symbols_stay (Load op t base offset) valid = valid
same_valid low better routine takes_stay symbols_stay (Store op v base offset) valid = valid
same_valid low better routine takes_stay symbols_stay (Call id call) valid = and_from _ _ (takes_stay id.0 (length call.arguments) ∙ (and_parts _ _ valid).0) (and_parts _ _ valid).1
same_valid low better routine takes_stay symbols_stay (CallAt address call) valid = valid
same_valid low better routine takes_stay symbols_stay (Branch op left right block) valid = valid
same_valid low better routine takes_stay symbols_stay (Jump block) valid = valid
same_valid low better routine takes_stay symbols_stay (Return v) valid = valid
same_valid low better routine takes_stay symbols_stay Raise valid = valid
same_valid low better routine takes_stay symbols_stay (Read t buffer size) valid = valid
same_valid low better routine takes_stay symbols_stay (Write output buffer size) valid = valid
same_valid low better routine takes_stay symbols_stay (Exit status) valid = valid

pub many_items : {T U : Type 0} {R : T → U → Type 0} (xs : List T) (ys : List U) → Each R xs ys → length ys ≡ length xs
many_items [] [] NoneLeft = refl
many_items [] (y ∷ ys) each = elim each [ ]
many_items (x ∷ xs) [] each = elim each [ ]
many_items (x ∷ xs) (y ∷ ys) (OneMore first rest) = ap suc (many_items xs ys rest)

same_parameters : (routine better : Routine) → SimplifiesRoutine routine better → better.parameters ≡ routine.parameters
same_parameters routine better (Stays same) = ap (λ (r : Routine). r.parameters) same
same_parameters routine better (Simplifies live simple) = simple.parameters

takes_alike : (rs ts : List Routine) (r arguments : ℕ) → Each SimplifiesRoutine rs ts → takes (slice_get ts r) arguments ≡ takes (slice_get rs r) arguments
takes_alike [] [] r arguments NoneLeft = refl
takes_alike [] (y ∷ ys) r arguments each = elim each [ ]
takes_alike (x ∷ xs) [] r arguments each = elim each [ ]
takes_alike (x ∷ xs) (y ∷ ys) zero arguments (OneMore first rest) = ap (λ k. nat_eq k arguments) (same_parameters x y first)
takes_alike (x ∷ xs) (y ∷ ys) (suc r) arguments (OneMore first rest) = takes_alike xs ys r arguments rest

module _ (low better : Low) (each : EachRoutine SimplifiesRoutine low better) where
  takes_stay : (r arguments : ℕ) → takes (slice_get better.routines r) arguments ≡ takes (slice_get low.routines r) arguments
  takes_stay r arguments = takes_alike low.routines better.routines r arguments each.routines

  symbols_stay : (symbol : Symbol) → has_symbol better symbol ≡ has_symbol low symbol
  unfolding has_symbol
  symbols_stay (Literal id) = ap (λ c. nat_lt id.0 c.literals) each.counts
  symbols_stay (Table id) = ap (λ c. nat_lt id.0 c.tables) each.counts
  symbols_stay (Descriptor id) = ap (λ c. nat_lt id.0 c.descriptors) each.counts
  symbols_stay (Global id) = ap (λ gs. nat_lt id.0 (length gs)) each.globals
  symbols_stay (RoutineSymbol id) = ap (nat_lt id.0) (many_items low.routines better.routines each.routines)

  same_code : (routine : Routine) (code : List Instruction) → list_all (is_valid_instruction low routine) code ≡ true → list_all (is_valid_instruction better routine) code ≡ true
  same_code routine [] valid = refl
  same_code routine (i ∷ is) valid = and_from _ _ (same_valid low better routine takes_stay symbols_stay i (and_parts _ _ valid).0) (same_code routine is (and_parts _ _ valid).1)

  same_blocks : (routine : Routine) (bs : List Block) → list_all (is_valid_block low routine) bs ≡ true → list_all (is_valid_block better routine) bs ≡ true
  unfolding is_valid_block
  same_blocks routine [] valid = refl
  same_blocks routine (b ∷ bs) valid =
      let first = and_parts _ _ (and_parts _ _ valid).0 in
      and_from _ _ (and_from _ _ first.0 (same_code routine b.code first.1)) (same_blocks routine bs (and_parts _ _ valid).1)

  module _ (live : List ℕ) (routine thinner : Routine) (simple : SimplifiesBlocks live routine thinner) where
    has_more_there : (r : VirtualRegister) → has routine r ≡ true → has thinner r ≡ true
    has_more_there r there = let less = ltb-true r.0 routine.registers there in let more = simple.registers in lt-ltb _ _ (omega arith)

    nothing_has : has thinner (nothing_of routine) ≡ true
    nothing_has = let more = simple.registers in lt-ltb _ _ (omega arith)

    blocks_valid : (bs cs : List Block) → Each (SimplifiesBlock live routine) bs cs → list_all (is_valid_block low routine) bs ≡ true → list_all (is_valid_block better thinner) cs ≡ true
    unfolding is_valid_block facts_fit
    blocks_valid [] [] NoneLeft valid = refl
    blocks_valid [] (c ∷ cs) each valid = elim each [ ]
    blocks_valid (b ∷ bs) [] each valid = elim each [ ]
    blocks_valid (b ∷ bs) (c ∷ cs) (OneMore one rest) valid =
        let first = and_parts _ _ (and_parts _ _ valid).0 in
        and_from _ _
        (and_from _ _
        (by_leaves c.code (code_leaves live one.way [] [] b.code c.code (leaves_by b.code first.0) one.is))
        (code_valid low better routine thinner takes_stay symbols_stay has_more_there simple.locals (many_items routine.blocks thinner.blocks simple.blocks) live one.way (ap (has thinner) one.nothing ∙ nothing_has) [] [] b.code c.code refl first.1 one.is))
        (blocks_valid bs cs rest (and_parts _ _ valid).1)

  routine_valid : (routine thinner : Routine) → SimplifiesRoutine routine thinner → is_valid_routine low routine ≡ true → is_valid_routine better thinner ≡ true
  unfolding is_valid_routine is_sized
  routine_valid routine thinner (Stays same) valid =
      subst (λ r. is_valid_routine better r ≡ true) (sym same) (and_from _ _ (and_parts _ _ valid).0 (same_blocks routine routine.blocks (and_parts _ _ valid).1))
  routine_valid routine thinner (Simplifies live simple) valid =
      let sized = and_parts _ _ (and_parts _ _ valid).0 in
      let four = and_parts _ _ sized.0 in
      let three = and_parts _ _ four.0 in
      let two = and_parts _ _ three.0 in
      let fits = leb-true routine.parameters routine.registers two.0 in
      let same_parameters = simple.parameters in
      let one_more = simple.registers in
      let few = simple.few in
      and_from _ _
      (and_from _ _
      (and_from _ _ (and_from _ _ (and_from _ _ (le-leb thinner.parameters thinner.registers (omega arith)) (le-leb thinner.registers (2 ^ 24) (omega arith))) (ap (λ k. nat_le k (2 ^ 26)) simple.locals ∙ three.1)) (ap (λ k. nat_eq (k % 4) 0) simple.locals ∙ four.1))
      (ap (nat_lt 0) (many_items routine.blocks thinner.blocks simple.blocks) ∙ sized.1))
      (blocks_valid live routine thinner simple routine.blocks thinner.blocks simple.blocks (and_parts _ _ valid).1)

  routines_valid : (rs ts : List Routine) → Each SimplifiesRoutine rs ts → list_all (is_valid_routine low) rs ≡ true → list_all (is_valid_routine better) ts ≡ true
  routines_valid [] [] NoneLeft all = refl
  routines_valid [] (y ∷ ys) others all = elim others [ ]
  routines_valid (x ∷ xs) [] others all = elim others [ ]
  routines_valid (x ∷ xs) (y ∷ ys) (OneMore first rest) all = and_from _ _ (routine_valid x y first (and_parts _ _ all).0) (routines_valid xs ys rest (and_parts _ _ all).1)

  pub simplified_valid : is_valid low ≡ true → is_valid better ≡ true
  unfolding is_valid
  simplified_valid valid =
      and_from _ _
      (ap (λ id. takes (slice_get better.routines id.0) 0) each.entry ∙ takes_stay low.entry.0 0 ∙ (and_parts _ _ valid).0)
      (routines_valid low.routines better.routines each.routines (and_parts _ _ valid).1)
