-- An instruction that stays shows the same and costs no more over the registers of the better code, and counts for as much.
use Rattle.std.proofs.Common.{◌≡◌, ℕ, suc, ◌+◌, Bool, true, false, ◌&&◌, if◌then◌else◌, Option, Some, None, List, [], ◌∷◌, length, nat_eq, refl, ap, sym, ◌∙◌, arith, ◌||◌, ap₂}
use Rattle.std.proofs.lemmas.Bool.Decides.{nat_tests}
use Rattle.std.proofs.lemmas.Option.{same_Some}
use Rattle.std.proofs.lemmas.Bool.{eq-eqb, or_left}
use Rattle.op_low.specs.Machine.{cost_by, Taken, Written, shown_by, shown_if, taken}
use Rattle.op_low.specs.State.{Placement, State, routine_of, space, value, Activation, Caller, usable}
use Rattle.op_low.specs.declared.code.Low.{Low}
use Rattle.op_low.specs.declared.ids.VirtualRegister.{VirtualRegister}
use Rattle.op_low.specs.declared.instruction.Call.{Call as Operands}
use Rattle.op_low.specs.declared.instruction.Instruction.{Instruction}
use Rattle.op_low.specs.declared.instruction.Instruction.TheVariants.{Const, Address, Local, Move, Alu, AluImm, Shift, Load, Store, Call, CallAt, Branch, Jump, Return, Raise, Read, Write, Exit}
use Rattle.op_low.specs.declared.instruction.Output.{Output}
use Rattle.op_optimize.proofs.Actions.{with_parts}
use Rattle.op_optimize.proofs.Steps.{call_at_cost, call_cost}
use Rattle.op_optimize.specs.Facts.{source, value_in}
use Rattle.op_optimize.specs.Reading.{reads, same}
use Rattle.op_optimize.specs.Rewriting.{alu_both, and_one, branch, branch_both, branch_by, branch_on, first_of, fold_both, is_zero, map_call, map_call_at, map_one, map_two, moved, operands_by, operands_of, operation, rewritten, sources, tested, with_value}
use Rattle.op_optimize.specs.Values.{folded, is_commutative}
use Rattle.op_optimize.specs.Weights.{low_weight}
use Rattle.op_optimize.specs.declared.fact.Fact.{Fact}
use Rattle.op_optimize.specs.declared.fact.Value.{Value}
use Rattle.op_optimize.specs.declared.fact.Value.TheVariants.{Copy, Number, Difference, Truth}
use Rattle.op_optimize.specs.declared.value.NumberForm.{NumberForm}
use Rattle.op_optimize.specs.declared.value.NumberForm.TheVariants.{Imm, ByShift}
use Rattle.op_rv.specs.State.{all_from, bytes_from}
use Rattle.op_rv.specs.declared.instruction.AluOp.{AluOp}
use Rattle.op_rv.specs.declared.instruction.BranchOp.{BranchOp}
use Rattle.op_rv.specs.declared.instruction.BranchOp.TheVariants.{Beq, Bne, Blt, Bge, Bltu, Bgeu}
use Rattle.op_rv.specs.declared.symbol.BlockId.{BlockId}

-- it is no call, neither of a routine nor of the environment
abbrev pub is_plain : Instruction → Bool
is_plain (Call id call) = false
is_plain (CallAt address call) = false
is_plain (Read to buffer size) = false
is_plain (Write output buffer size) = false
is_plain _ = true

-- it is none, and counts for so much
abbrev pub is_plain_if : ℕ → Option Instruction → Bool
is_plain_if n None = true
is_plain_if n (Some j) = is_plain j && nat_eq (low_weight j) n

both : (t : Bool) (a b : ℕ) → (t && nat_eq a b) ≡ true → (t ≡ true) × (a ≡ b)
both true a b is = (refl, grind (arith, nat_tests, is))
both false a b is = absurd cc

-- ---- what is made of an instruction that is no call is none, and counts for as much

map_one_plain : (n : ℕ) (f : VirtualRegister → Instruction) → ((a : VirtualRegister) → is_plain_if n (Some (f a)) ≡ true) → (o : Option VirtualRegister) → is_plain_if n (map_one f o) ≡ true
map_one_plain n f plain None = refl
map_one_plain n f plain (Some a) = plain a

map_two_plain : (n : ℕ) (f : VirtualRegister → VirtualRegister → Instruction) → ((a b : VirtualRegister) → is_plain_if n (Some (f a b)) ≡ true) → (o q : Option VirtualRegister) → is_plain_if n (map_two f o q) ≡ true
map_two_plain n f plain None q = refl
map_two_plain n f plain (Some a) None = refl
map_two_plain n f plain (Some a) (Some b) = plain a b

first_plain : (o q : Option Instruction) → is_plain_if 1 o ≡ true → is_plain_if 1 q ≡ true → is_plain_if 1 (first_of o q) ≡ true
first_plain None q a b = b
first_plain (Some j) q a b = a

fold_plain : (o : Option NumberForm) (to : VirtualRegister) (q : Option VirtualRegister) → is_plain_if 1 (fold_both o to q) ≡ true
fold_plain None to q = refl
fold_plain (Some f) to None = refl
fold_plain (Some (Imm op imm)) to (Some a) = refl
fold_plain (Some (ByShift op amount)) to (Some a) = refl

with_value_plain : (op : AluOp) (to : VirtualRegister) (o : Option VirtualRegister) (v : Value) → is_plain_if 1 (with_value op to o v) ≡ true
unfolding with_value
with_value_plain op to o (Number n) = fold_plain (folded op n) to o
with_value_plain op to o (Copy of) = refl
with_value_plain op to o (Difference left right) = refl
with_value_plain op to o (Truth t left right) = refl

if_plain : (t : Bool) (o : Option Instruction) → is_plain_if 1 o ≡ true → is_plain_if 1 (if t then o else None) ≡ true
if_plain true o plain = plain
if_plain false o plain = refl

alu_plain : (op : AluOp) (to : VirtualRegister) (o q : Option VirtualRegister) → is_plain_if 1 (alu_both op to o q) ≡ true
alu_plain op to None q = refl
alu_plain op to (Some a) None = refl
alu_plain op to (Some a) (Some b) = refl

branch_plain : (op : BranchOp) (o q : Option VirtualRegister) (block : BlockId) → is_plain_if 1 (branch_both op o q block) ≡ true
branch_plain op None q block = refl
branch_plain op (Some a) None block = refl
branch_plain op (Some a) (Some b) block = refl

on_plain : (o : Option BranchOp) (a b : VirtualRegister) (block : BlockId) → is_plain_if 1 (branch_on o a b block) ≡ true
on_plain None a b block = refl
on_plain (Some op) a b block = refl

module _ (facts : List Fact) (nothing to : VirtualRegister) where
  operation_plain : (op : AluOp) (left right : VirtualRegister) → is_plain_if 1 (operation facts nothing op to left right) ≡ true
  unfolding operation
  operation_plain op left right =
      first_plain _ _ (with_value_plain op to (source facts nothing left) (value_in facts right))
      (first_plain _ _ (if_plain (is_commutative op) _ (with_value_plain op to (source facts nothing right) (value_in facts left))) (alu_plain op to (source facts nothing left) (source facts nothing right)))

  moved_plain : (v : Value) → is_plain_if 1 (moved to v) ≡ true
  unfolding moved
  moved_plain (Copy of) = refl
  moved_plain (Number n) = refl
  moved_plain (Difference left right) = refl
  moved_plain (Truth Blt left right) = refl
  moved_plain (Truth Bltu left right) = refl
  moved_plain (Truth Beq left right) = refl
  moved_plain (Truth Bne left right) = refl
  moved_plain (Truth Bge left right) = refl
  moved_plain (Truth Bgeu left right) = refl

  branches_plain : (op : BranchOp) (v : Value) (left right : VirtualRegister) (block : BlockId) → is_plain_if 1 (branch_by facts nothing op v left right block) ≡ true
  branches_plain op (Truth t a b) left right block = if_plain (is_zero (value_in facts right)) _ (on_plain (tested op t) a b block)
  branches_plain op (Copy of) left right block = branch_plain op (source facts nothing left) (source facts nothing right) block
  branches_plain op (Number n) left right block = branch_plain op (source facts nothing left) (source facts nothing right) block
  branches_plain op (Difference a b) left right block = branch_plain op (source facts nothing left) (source facts nothing right) block

  rewritten_plain : (i : Instruction) → is_plain i ≡ true → is_plain_if (low_weight i) (rewritten facts nothing to i) ≡ true
  unfolding rewritten branch
  rewritten_plain (Const t n) plain = refl
  rewritten_plain (Address t symbol) plain = refl
  rewritten_plain (Local t offset) plain = refl
  rewritten_plain (Move t from) plain = moved_plain (value_in facts from)
  rewritten_plain (Alu op t left right) plain = operation_plain op left right
  rewritten_plain (AluImm op t left imm) plain = map_one_plain 1 (λ a. AluImm op to a imm) (λ a. refl) (source facts nothing left)
  rewritten_plain (Shift op t left amount) plain = map_one_plain 1 (λ a. Shift op to a amount) (λ a. refl) (source facts nothing left)
  rewritten_plain (Load op t base offset) plain = map_one_plain 1 (λ a. Load op to a offset) (λ a. refl) (source facts nothing base)
  rewritten_plain (Store op v base offset) plain = map_two_plain 1 (λ a b. Store op a b offset) (λ a b. refl) (source facts nothing v) (source facts nothing base)
  rewritten_plain (Call id call) plain = absurd cc
  rewritten_plain (CallAt address call) plain = absurd cc
  rewritten_plain (Branch op left right block) plain = branches_plain op (value_in facts left) left right block
  rewritten_plain (Jump block) plain = refl
  rewritten_plain (Return v) plain = map_one_plain 3 Return (λ a. refl) (source facts nothing v)
  rewritten_plain Raise plain = refl
  rewritten_plain (Read t buffer size) plain = absurd cc
  rewritten_plain (Write output buffer size) plain = absurd cc
  rewritten_plain (Exit status) plain = map_one_plain 1 Exit (λ a. refl) (source facts nothing status)

  stays_plain : (i j : Instruction) → is_plain i ≡ true → rewritten facts nothing to i ≡ Some j → (is_plain j ≡ true) × (low_weight j ≡ low_weight i)
  stays_plain i j plain is = both (is_plain j) (low_weight j) (low_weight i) (ap (is_plain_if (low_weight i)) (sym is) ∙ rewritten_plain i plain)

  -- ---- calls

  pub sources_many : (rs new : List VirtualRegister) → sources facts nothing rs ≡ Some new → length new ≡ length rs
  unfolding sources
  sources_many [] new is = ap length (sym (same_Some _ _ is))
  sources_many (r ∷ rs) new is = by (source facts nothing r) (sources facts nothing rs) refl is (sources_many rs)
    where
      by : (o : Option VirtualRegister) (q : Option (List VirtualRegister)) → sources facts nothing rs ≡ q → and_one o q ≡ Some new → ((l : List VirtualRegister) → sources facts nothing rs ≡ Some l → length l ≡ length rs) → length new ≡ suc (length rs)
      by None q e is rest = absurd cc
      by (Some a) None e is rest = absurd cc
      by (Some a) (Some l) e is rest = ap length (sym (same_Some _ _ is)) ∙ ap suc (rest l e)

  operands_many : (call new : Operands) → operands_of facts nothing call to ≡ Some new → length new.arguments ≡ length call.arguments
  unfolding operands_of
  operands_many call new is = by (sources facts nothing call.arguments) refl is
    where
      by : (q : Option (List VirtualRegister)) → sources facts nothing call.arguments ≡ q → operands_by call to q ≡ Some new → length new.arguments ≡ length call.arguments
      by None e is = absurd cc
      by (Some l) e is = ap (λ (o : Operands). length o.arguments) (sym (same_Some _ _ is)) ∙ sources_many call.arguments l e

-- ---- what instructions cost

module _ (low : Low) (p : Placement) where
  plain_cost : (j : Instruction) (n : State) → is_plain j ≡ true → cost_by low p j n ≡ 1
  unfolding cost_by
  plain_cost (Const t k) n plain = refl
  plain_cost (Address t symbol) n plain = refl
  plain_cost (Local t offset) n plain = refl
  plain_cost (Move t from) n plain = refl
  plain_cost (Alu op t left right) n plain = refl
  plain_cost (AluImm op t left imm) n plain = refl
  plain_cost (Shift op t left amount) n plain = refl
  plain_cost (Load op t base offset) n plain = refl
  plain_cost (Store op x base offset) n plain = refl
  plain_cost (Call id call) n plain = absurd cc
  plain_cost (CallAt address call) n plain = absurd cc
  plain_cost (Branch op left right block) n plain = refl
  plain_cost (Jump block) n plain = refl
  plain_cost (Return x) n plain = refl
  plain_cost Raise n plain = refl
  plain_cost (Read t buffer size) n plain = absurd cc
  plain_cost (Write output buffer size) n plain = absurd cc
  plain_cost (Exit status) n plain = refl

-- what they show

module _ (p : Placement) where
  plain_shows : (j : Instruction) (n : State) → is_plain j ≡ true → shown_by p j n ≡ []
  unfolding shown_by
  plain_shows (Const t k) n plain = refl
  plain_shows (Address t symbol) n plain = refl
  plain_shows (Local t offset) n plain = refl
  plain_shows (Move t from) n plain = refl
  plain_shows (Alu op t left right) n plain = refl
  plain_shows (AluImm op t left imm) n plain = refl
  plain_shows (Shift op t left amount) n plain = refl
  plain_shows (Load op t base offset) n plain = refl
  plain_shows (Store op x base offset) n plain = refl
  plain_shows (Call id call) n plain = absurd cc
  plain_shows (CallAt address call) n plain = absurd cc
  plain_shows (Branch op left right block) n plain = refl
  plain_shows (Jump block) n plain = refl
  plain_shows (Return x) n plain = refl
  plain_shows Raise n plain = refl
  plain_shows (Read t buffer size) n plain = absurd cc
  plain_shows (Write output buffer size) n plain = absurd cc
  plain_shows (Exit status) n plain = refl

-- ---- an instruction that stays

-- what a rewritten instruction is
data Rewrites (facts : List Fact) (nothing to : VirtualRegister) (i j : Instruction) : Type 0 where
  PlainOne : is_plain i ≡ true → (is_plain j ≡ true) × (low_weight j ≡ low_weight i) → Rewrites facts nothing to i j
  CallOne : (id : _) (call new : Operands) → i ≡ Call id call → j ≡ Call id new → length new.arguments ≡ length call.arguments → Rewrites facts nothing to i j
  ReadOne : (t buffer size a b : VirtualRegister) → i ≡ Read t buffer size → j ≡ Read to a b → source facts nothing buffer ≡ Some a → source facts nothing size ≡ Some b → Rewrites facts nothing to i j
  WriteOne : (output : Output) (buffer size a b : VirtualRegister) → i ≡ Write output buffer size → j ≡ Write output a b → source facts nothing buffer ≡ Some a → source facts nothing size ≡ Some b → Rewrites facts nothing to i j
  CallAtOne : (address at : VirtualRegister) (call new : Operands) → i ≡ CallAt address call → j ≡ CallAt at new → source facts nothing address ≡ Some at → length new.arguments ≡ length call.arguments → Rewrites facts nothing to i j

rewrites : (facts : List Fact) (nothing to : VirtualRegister) (i j : Instruction) → rewritten facts nothing to i ≡ Some j → Rewrites facts nothing to i j
unfolding rewritten
rewrites facts nothing to (Call id call) j is = by (operands_of facts nothing call to) refl is
  where
    by : (o : Option Operands) → operands_of facts nothing call to ≡ o → map_call (Call id) o ≡ Some j → Rewrites facts nothing to (Call id call) j
    by None e is = absurd cc
    by (Some new) e is = CallOne id call new refl (sym (same_Some _ _ is)) (operands_many facts nothing to call new e)
rewrites facts nothing to (CallAt address call) j is = by (source facts nothing address) (operands_of facts nothing call to) refl refl is
  where
    by : (q : Option VirtualRegister) (o : Option Operands) → source facts nothing address ≡ q → operands_of facts nothing call to ≡ o → map_call_at q o ≡ Some j → Rewrites facts nothing to (CallAt address call) j
    by None o d e is = absurd cc
    by (Some at) None d e is = absurd cc
    by (Some at) (Some new) d e is = CallAtOne address at call new refl (sym (same_Some _ _ is)) d (operands_many facts nothing to call new e)
rewrites facts nothing to (Const t n) j is = PlainOne refl (stays_plain facts nothing to (Const t n) j refl is)
rewrites facts nothing to (Address t symbol) j is = PlainOne refl (stays_plain facts nothing to (Address t symbol) j refl is)
rewrites facts nothing to (Local t offset) j is = PlainOne refl (stays_plain facts nothing to (Local t offset) j refl is)
rewrites facts nothing to (Move t from) j is = PlainOne refl (stays_plain facts nothing to (Move t from) j refl is)
rewrites facts nothing to (Alu op t left right) j is = PlainOne refl (stays_plain facts nothing to (Alu op t left right) j refl is)
rewrites facts nothing to (AluImm op t left imm) j is = PlainOne refl (stays_plain facts nothing to (AluImm op t left imm) j refl is)
rewrites facts nothing to (Shift op t left amount) j is = PlainOne refl (stays_plain facts nothing to (Shift op t left amount) j refl is)
rewrites facts nothing to (Load op t base offset) j is = PlainOne refl (stays_plain facts nothing to (Load op t base offset) j refl is)
rewrites facts nothing to (Store op v base offset) j is = PlainOne refl (stays_plain facts nothing to (Store op v base offset) j refl is)
rewrites facts nothing to (Branch op left right block) j is = PlainOne refl (stays_plain facts nothing to (Branch op left right block) j refl is)
rewrites facts nothing to (Jump block) j is = PlainOne refl (stays_plain facts nothing to (Jump block) j refl is)
rewrites facts nothing to (Return v) j is = PlainOne refl (stays_plain facts nothing to (Return v) j refl is)
rewrites facts nothing to Raise j is = PlainOne refl (stays_plain facts nothing to Raise j refl is)
rewrites facts nothing to (Read t buffer size) j is = by (source facts nothing buffer) (source facts nothing size) refl refl is
  where
    by : (q o : Option VirtualRegister) → source facts nothing buffer ≡ q → source facts nothing size ≡ o → map_two (Read to) q o ≡ Some j → Rewrites facts nothing to (Read t buffer size) j
    by None o d e is = absurd cc
    by (Some a) None d e is = absurd cc
    by (Some a) (Some b) d e is = ReadOne t buffer size a b refl (sym (same_Some _ _ is)) d e
rewrites facts nothing to (Write output buffer size) j is = by (source facts nothing buffer) (source facts nothing size) refl refl is
  where
    by : (q o : Option VirtualRegister) → source facts nothing buffer ≡ q → source facts nothing size ≡ o → map_two (Write output) q o ≡ Some j → Rewrites facts nothing to (Write output buffer size) j
    by None o d e is = absurd cc
    by (Some a) None d e is = absurd cc
    by (Some a) (Some b) d e is = WriteOne output buffer size a b refl (sym (same_Some _ _ is)) d e
rewrites facts nothing to (Exit status) j is = PlainOne refl (stays_plain facts nothing to (Exit status) j refl is)

-- it counts for as much
pub weight_stays : (facts : List Fact) (nothing to : VirtualRegister) (i j : Instruction) → rewritten facts nothing to i ≡ Some j → low_weight j ≡ low_weight i
weight_stays facts nothing to i j is = by (rewrites facts nothing to i j is)
  where
    by : Rewrites facts nothing to i j → low_weight j ≡ low_weight i
    by (PlainOne a b) = b.1
    by (ReadOne t buffer size x y a b d e) = ap low_weight b ∙ sym (ap low_weight a)
    by (WriteOne output buffer size x y a b d e) = ap low_weight b ∙ sym (ap low_weight a)
    by (CallOne id call new a b many) = ap low_weight b ∙ ap (λ k. 1 + k) many ∙ sym (ap low_weight a)
    by (CallAtOne address at call new a b d many) = ap low_weight b ∙ ap (λ k. 1 + k) many ∙ sym (ap low_weight a)

module _ (low better : Low) (p : Placement) (locals_stay : (r : ℕ) → (routine_of better r).locals ≡ (routine_of low r).locals) where
  same_call_cost : (r many less : ℕ) → less ≡ many → 1 + space better p r + less ≡ 1 + space low p r + many
  same_call_cost r many less e = ap (λ k. 1 + (k + p.frame r) + less) (locals_stay r) ∙ ap (λ k. 1 + space low p r + k) e

  same_found_cost : (found : Option ℕ) (many less : ℕ) → less ≡ many → call_cost better p found less ≡ call_cost low p found many
  same_found_cost None many less e = refl
  same_found_cost (Some r) many less e = same_call_cost r many less e

  -- it costs as much
  pub cost_stays : (facts : List Fact) (nothing to : VirtualRegister) (i j : Instruction) (m n : State) → rewritten facts nothing to i ≡ Some j → ((address at : VirtualRegister) (call : Operands) → i ≡ CallAt address call → source facts nothing address ≡ Some at → value n at ≡ value m address) → cost_by better p j n ≡ cost_by low p i m
  unfolding cost_by
  cost_stays facts nothing to i j m n is same_address = by (rewrites facts nothing to i j is)
    where
      by : Rewrites facts nothing to i j → cost_by better p j n ≡ cost_by low p i m
      by (PlainOne a b) = plain_cost better p j n b.0 ∙ sym (plain_cost low p i m a)
      by (ReadOne t buffer size x y a b d e) = ap (λ k. cost_by better p k n) b ∙ sym (ap (λ k. cost_by low p k m) a)
      by (WriteOne output buffer size x y a b d e) = ap (λ k. cost_by better p k n) b ∙ sym (ap (λ k. cost_by low p k m) a)
      by (CallOne id call new a b many) = ap (λ k. cost_by better p k n) b ∙ same_call_cost id.0 (length call.arguments) (length new.arguments) many ∙ sym (ap (λ k. cost_by low p k m) a)
      by (CallAtOne address at call new a b d many) =
          ap (λ k. cost_by better p k n) b
          ∙ call_at_cost better p at new n (p.routine_at (value m address)) (ap p.routine_at (same_address address at call a d))
          ∙ same_found_cost (p.routine_at (value m address)) (length call.arguments) (length new.arguments) many
          ∙ sym (ap (λ k. cost_by low p k m) a ∙ call_at_cost low p address call m (p.routine_at (value m address)) refl)

-- it shows the same, in a state that is the same but for its activations
pub shows_stays : (p : Placement) (facts : List Fact) (nothing to : VirtualRegister) (i j : Instruction) (m : State) (b : Activation) (ds : List Caller) → rewritten facts nothing to i ≡ Some j → ((r a : VirtualRegister) → reads i r ≡ true → source facts nothing r ≡ Some a → value (with_parts b ds m) a ≡ value m r) → shown_by p j (with_parts b ds m) ≡ shown_by p i m
unfolding shown_by reads
shows_stays p facts nothing to i j m b ds is same_value = by (rewrites facts nothing to i j is)
  where
    first : (r s : VirtualRegister) → (same r r || same s r) ≡ true
    first r s = or_left (same r r) (same s r) (eq-eqb r.0 r.0 refl)

    second : (x : Bool) (r : VirtualRegister) → (x || same r r) ≡ true
    second true r = refl
    second false r = eq-eqb r.0 r.0 refl

    by : Rewrites facts nothing to i j → shown_by p j (with_parts b ds m) ≡ shown_by p i m
    by (PlainOne a c) = plain_shows p j (with_parts b ds m) c.0 ∙ sym (plain_shows p i m a)
    by (CallOne id call new a c many) = ap (λ k. shown_by p k (with_parts b ds m)) c ∙ sym (ap (λ k. shown_by p k m) a)
    by (CallAtOne address at call new a c d many) = ap (λ k. shown_by p k (with_parts b ds m)) c ∙ sym (ap (λ k. shown_by p k m) a)
    by (ReadOne t buffer size x y a c d e) =
        let at = same_value buffer x (ap (λ k. reads k buffer) a ∙ first buffer size) d in
        let many = same_value size y (ap (λ k. reads k size) a ∙ second (same buffer size) size) e in
        ap (λ k. shown_by p k (with_parts b ds m)) c
        ∙ ap₂ (λ u v. shown_if (all_from (usable p.rights.writable m) u v) (Taken (taken v m))) at many
        ∙ sym (ap (λ k. shown_by p k m) a)
    by (WriteOne output buffer size x y a c d e) =
        let at = same_value buffer x (ap (λ k. reads k buffer) a ∙ first buffer size) d in
        let many = same_value size y (ap (λ k. reads k size) a ∙ second (same buffer size) size) e in
        ap (λ k. shown_by p k (with_parts b ds m)) c
        ∙ ap₂ (λ u v. shown_if (all_from (usable p.rights.readable m) u v) (Written output (bytes_from m.memory u v))) at many
        ∙ sym (ap (λ k. shown_by p k m) a)
