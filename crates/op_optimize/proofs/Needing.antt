-- What code needs of registers: step by step, and where a block begins.
use Rattle.std.proofs.Common.{◌≡◌, ℕ, zero, suc, ◌+◌, ◌≤◌, ◌<◌, Bool, true, false, ◌&&◌, ◌||◌, not, if◌then◌else◌, inl, inr, Some, List, [], ◌∷◌, slice_get, take, min, nat_eq, refl, ap, sym, ◌∙◌, subst, arith}
use Rattle.std.proofs.lemmas.Bool.{and_parts, or_left, or_right, cases_lt, eqb-true, eq-eqb}
use Rattle.std.specs.List.{list_all, list_any}
use Rattle.op_base.proofs.Tests.{eqb-turned}
use Rattle.op_low.specs.State.{code_or}
use Rattle.op_low.specs.Valid.{leaves, has, has_all, is_valid_instruction, imm_fits, shift_fits, branch_fits, operands_fit, call_fits, call_at_fits}
use Rattle.op_low.specs.declared.code.Block.{Block}
use Rattle.op_low.specs.declared.code.Low.{Low}
use Rattle.op_low.specs.declared.code.Routine.{Routine}
use Rattle.op_low.specs.declared.ids.VirtualRegister.{VirtualRegister}
use Rattle.op_low.specs.declared.instruction.Call.{Call as Operands}
use Rattle.op_low.specs.declared.instruction.Instruction.{Instruction}
use Rattle.op_low.specs.declared.instruction.Instruction.TheVariants.{Const, Address, Local, Move, Alu, AluImm, Shift, Load, Store, Call, CallAt, Branch, Jump, Return, Raise, Read, Write, Exit}
use Rattle.op_optimize.specs.Liveness.{is_live, is_live_beyond, is_read_or_live, is_lost, needs, shows_dead, is_dead, covers_below, covers_blocks, is_closed}
use Rattle.op_optimize.specs.Reading.{same, either, reads, is_argument, target_of}

-- ---- tests

pub each_below : (all test : ℕ → Bool) → ((n : ℕ) → all (suc n) ≡ (all n && test n)) → (n x : ℕ) → x < n → all n ≡ true → test x ≡ true
each_below all test next zero x less is = absurd (omega arith)
each_below all test next (suc n) x less is =
    let parts = and_parts _ _ (sym (next n) ∙ is) in
    elim (cases_lt x n) [
      | inl below ↦ each_below all test next n x below parts.0
      | inr over ↦ let e : n ≡ x = omega arith in subst (λ k. test k ≡ true) e parts.1
    ]

pub same_other_way : (a b : ℕ) → nat_eq a b ≡ true → nat_eq b a ≡ true
same_other_way a b is = eq-eqb b a (sym (eqb-true a b is))

first_true : (b c : Bool) → b ≡ true → (if b then true else c) ≡ true
first_true true c is = refl
first_true false c is = absurd cc

goes_behind : (b l n : Bool) → l ≡ false → n ≡ true → (if b then true else (if l then false else n)) ≡ true
goes_behind true l n not_lost is = refl
goes_behind false true n not_lost is = absurd cc
goes_behind false false n not_lost is = is

clash : (b l d n : Bool) → (d ≡ true → n ≡ true → ⊥) → (if b then false else (if l then true else d)) ≡ true → (if b then true else (if l then false else n)) ≡ true → ⊥
clash true l d n rest dead needed = absurd cc
clash false true d n rest dead needed = absurd cc
clash false false d n rest dead needed = rest dead needed

pub implied : (n l : Bool) → (not n || l) ≡ true → n ≡ true → l ≡ true
implied true l is needed = is
implied false l is needed = absurd cc

-- ---- step by step

module _ (live : List ℕ) (i : Instruction) (is : List Instruction) (r : VirtualRegister) where
  pub needs_kept : is_read_or_live live i r ≡ true → needs live (i ∷ is) r ≡ true
  unfolding needs
  needs_kept kept = first_true _ _ kept

  pub needs_read : reads i r ≡ true → needs live (i ∷ is) r ≡ true
  needs_read read = needs_kept (or_left _ _ read)

  pub needs_beyond : is_live_beyond live i r ≡ true → needs live (i ∷ is) r ≡ true
  needs_beyond beyond = needs_kept (or_right (reads i r) _ beyond)

  pub needs_behind : is_lost i r ≡ false → needs live is r ≡ true → needs live (i ∷ is) r ≡ true
  unfolding needs
  needs_behind stays needed = goes_behind (is_read_or_live live i r) _ _ stays needed

dead_in : (live : List ℕ) (n : ℕ) (code : List Instruction) (r : VirtualRegister) → shows_dead live (take n code) r ≡ true → needs live code r ≡ true → ⊥
unfolding shows_dead needs
dead_in live zero [] r dead needed = absurd cc
dead_in live zero (i ∷ is) r dead needed = absurd cc
dead_in live (suc n) [] r dead needed = absurd cc
dead_in live (suc n) (i ∷ is) r dead needed = clash (is_read_or_live live i r) (is_lost i r) _ _ (dead_in live n is r) dead needed

pub dead_is_not_needed : (live : List ℕ) (code : List Instruction) (r : VirtualRegister) → is_dead live code r ≡ true → needs live code r ≡ true → ⊥
unfolding is_dead
dead_is_not_needed live code r dead needed = dead_in live 64 code r dead needed

pub raise_needs_nothing : (live : List ℕ) (r : VirtualRegister) → needs live (Raise ∷ []) r ≡ false
unfolding needs reads is_live_beyond target_of leaves
raise_needs_nothing live r = refl

-- what writes a register goes on behind
pub goes_on_behind : (i : Instruction) (to : VirtualRegister) → target_of i ≡ Some to → leaves i ≡ false
unfolding target_of leaves
goes_on_behind (Const t n) to is = refl
goes_on_behind (Address t symbol) to is = refl
goes_on_behind (Local t offset) to is = refl
goes_on_behind (Move t from) to is = refl
goes_on_behind (Alu op t left right) to is = refl
goes_on_behind (AluImm op t left imm) to is = refl
goes_on_behind (Shift op t left amount) to is = refl
goes_on_behind (Load op t base offset) to is = refl
goes_on_behind (Store op v base offset) to is = refl
goes_on_behind (Call id call) to is = refl
goes_on_behind (CallAt address call) to is = refl
goes_on_behind (Branch op left right block) to is = refl
goes_on_behind (Jump block) to is = absurd cc
goes_on_behind (Return v) to is = absurd cc
goes_on_behind Raise to is = absurd cc
goes_on_behind (Read t buffer size) to is = refl
goes_on_behind (Write output buffer size) to is = refl
goes_on_behind (Exit status) to is = absurd cc

-- ---- where a block begins

pub closed_at : (live : List ℕ) (registers k : ℕ) (blocks : List Block) (j at x : ℕ) → at ≡ k + j → x < min registers 64 → covers_blocks live registers k blocks ≡ true → needs live (code_or (slice_get blocks j)) (record { 0 = x }) ≡ true → is_live live (record { 0 = at }) (record { 0 = x }) ≡ true
unfolding covers_blocks covers_below needs
closed_at live registers k [] j at x e less closed needed = absurd cc
closed_at live registers k (b ∷ bs) zero at x e less closed needed =
    let here : k ≡ at = omega arith in
    let covered = and_parts _ _ closed in
    subst (λ n. is_live live (record { 0 = n }) (record { 0 = x }) ≡ true) here
    (implied _ _ (each_below (covers_below live (record { 0 = k }) b.code) (λ n. not (needs live b.code (record { 0 = n })) || is_live live (record { 0 = k }) (record { 0 = n })) (λ n. refl) (min registers 64) x less covered.0) needed)
closed_at live registers k (b ∷ bs) (suc j) at x e less closed needed = closed_at live registers (suc k) bs j at x (omega arith) less (and_parts _ _ closed).1 needed

pub needed_is_live : (live : List ℕ) (routine : Routine) (block : ℕ) (r : VirtualRegister) → is_closed live routine ≡ true → routine.registers ≤ 64 → r.0 < routine.registers → needs live (code_or (slice_get routine.blocks block)) r ≡ true → is_live live (record { 0 = block }) r ≡ true
unfolding is_closed
needed_is_live live routine block r closed few less needed = closed_at live routine.registers 0 routine.blocks block block r.0 (omega arith) (omega arith) closed needed

-- ---- valid instructions read registers of their routine

module _ (routine : Routine) (r : VirtualRegister) where
  has_same : (a : VirtualRegister) → has routine a ≡ true → same a r ≡ true → has routine r ≡ true
  has_same a there is = subst (λ n. has routine (record { 0 = n }) ≡ true) (eqb-true a.0 r.0 is) there

  has_either : (a b : VirtualRegister) → has routine a ≡ true → has routine b ≡ true → either a b r ≡ true → has routine r ≡ true
  has_either a b first second is = by (same a r) refl
    where
      by : (test : Bool) → same a r ≡ test → has routine r ≡ true
      by true e = has_same a first e
      by false e = has_same b second (sym (ap (λ t. t || same b r) e) ∙ is)

  has_passed : (args : List VirtualRegister) → list_all (has routine) args ≡ true → list_any (λ a. same a r) args ≡ true → has routine r ≡ true
  has_passed [] all is = absurd cc
  has_passed (a ∷ args) all is = by (has_passed args (and_parts _ _ all).1) (same a r) refl
    where
      by : (list_any (λ a. same a r) args ≡ true → has routine r ≡ true) → (test : Bool) → same a r ≡ test → has routine r ≡ true
      by rest true e = has_same a (and_parts _ _ all).0 e
      by rest false e = rest (sym (ap (λ t. t || list_any (λ a. same a r) args) e) ∙ is)

  has_argument : (call : Operands) → operands_fit routine call ≡ true → is_argument call r ≡ true → has routine r ≡ true
  unfolding operands_fit has_all is_argument
  has_argument call fits is = has_passed call.arguments (and_parts _ _ (and_parts _ _ fits).0).0 is

  pub reads_its_own : (low : Low) (i : Instruction) → is_valid_instruction low routine i ≡ true → reads i r ≡ true → has routine r ≡ true
  unfolding is_valid_instruction imm_fits shift_fits branch_fits call_fits call_at_fits reads
  reads_its_own low (Const to n) valid is = absurd cc
  reads_its_own low (Address to symbol) valid is = absurd cc
  reads_its_own low (Local to offset) valid is = absurd cc
  reads_its_own low (Move to from) valid is = has_same from (and_parts _ _ valid).1 is
  reads_its_own low (Alu op to left right) valid is = has_either left right (and_parts _ _ (and_parts _ _ valid).0).1 (and_parts _ _ valid).1 is
  reads_its_own low (AluImm op to left imm) valid is = has_same left (and_parts _ _ (and_parts _ _ valid).0).1 is
  reads_its_own low (Shift op to left amount) valid is = has_same left (and_parts _ _ (and_parts _ _ valid).0).1 is
  reads_its_own low (Load op to base offset) valid is = has_same base (and_parts _ _ (and_parts _ _ valid).0).1 is
  reads_its_own low (Store op v base offset) valid is = has_either v base (and_parts _ _ (and_parts _ _ valid).0).0 (and_parts _ _ (and_parts _ _ valid).0).1 is
  reads_its_own low (Call id call) valid is = has_argument call (and_parts _ _ valid).1 is
  reads_its_own low (CallAt address call) valid is = by (same address r) refl
    where
      by : (test : Bool) → same address r ≡ test → has routine r ≡ true
      by true e = has_same address (and_parts _ _ valid).0 e
      by false e = has_argument call (and_parts _ _ valid).1 (sym (ap (λ t. t || is_argument call r) e) ∙ is)
  reads_its_own low (Branch op left right block) valid is = has_either left right (and_parts _ _ (and_parts _ _ valid).0).0 (and_parts _ _ (and_parts _ _ valid).0).1 is
  reads_its_own low (Jump block) valid is = absurd cc
  reads_its_own low (Return v) valid is = has_same v valid is
  reads_its_own low Raise valid is = absurd cc
  reads_its_own low (Read to buffer size) valid is = has_either buffer size (and_parts _ _ (and_parts _ _ valid).0).1 (and_parts _ _ valid).1 is
  reads_its_own low (Write output buffer size) valid is = has_either buffer size (and_parts _ _ valid).0 (and_parts _ _ valid).1 is
  reads_its_own low (Exit status) valid is = has_same status valid is
