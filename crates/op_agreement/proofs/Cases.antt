-- The instructions whose code is straight, each with its step.
use Rattle.std.proofs.Common.{◌≡◌, ◌<◌, ◌≤◌, ◌⊎◌, inl, inr, ℕ, ℤ, zero, suc, ◌+◌, ◌*◌, List, [], ◌∷◌, length, Some, None, refl, sym, ap, ◌∙◌, arith}
use Rattle.std.specs.Prelude.{map, pos, negsuc, Bool, true, false, if◌then◌else◌}
use Rattle.std.specs.List.{list_any}
use Rattle.std.specs.Ordering.{int_eq}
use Rattle.std.proofs.lemmas.Bool.Decides.{nat_tests}
use Rattle.std.proofs.lemmas.Int.{ints}
use Rattle.op_compute.proofs.ComputingLemmas.{constant, computation_answers, computation_steps}
use Rattle.op_compute.proofs.MeaningLemmas.{performed}
use Rattle.op_compute.proofs.TurningLemmas.{branches_turn}
use Rattle.op_compute.proofs.Words.{number_is, word_wraps}
use Rattle.op_compute.specs.Bank.{register_of, work_of}
use Rattle.op_compute.specs.Branches.{block_of as target_of, dispatch_code, false_code, switch_code, true_code, way_code, arms_code}
use Rattle.op_compute.specs.Computing.{computation_code, constant_code}
use Rattle.op_compute.specs.Meaning.{gives, left_of, meant, right_of, to_of}
use Rattle.op_compute.specs.Straight.{outcome}
use Rattle.op_compute.specs.Turning.{Reads, way_for, where_false, where_true}
use Rattle.op_low.specs.State.{State}
use Rattle.op_low.specs.declared.instruction.Instruction.TheVariants.{Const, Jump as LowJump}
use Rattle.op_meaning.specs.Actions.{perform}
use Rattle.op_meaning.specs.Leaving.{name_in}
use Rattle.op_meaning.specs.Machine.{label_has}
use Rattle.op_meaning.specs.Numbers.{is_true}
use Rattle.op_meaning.specs.World.{with_number, number_at}
use Rattle.op_mir.specs.Machine.{Code, MirState, arm_for, code_rules, dispatched, execute, go_if, go_to, mir_cost}
use Rattle.op_mir.specs.Valid.{action_fits, has}
use Rattle.op_mir.specs.View.{view_arm}
use Rattle.op_mir.specs.declared.action.Action.TheVariants.{Constant, Compute}
use Rattle.op_mir.specs.declared.action.Computation.{Computation}
use Rattle.op_mir.specs.declared.code.Routine.{Routine}
use Rattle.op_mir.specs.declared.ids.BlockId.{BlockId}
use Rattle.op_mir.specs.declared.ids.TemporaryId.{TemporaryId}
use Rattle.op_mir.specs.declared.instruction.Arm.{Arm}
use Rattle.op_mir.specs.declared.instruction.Instruction.TheVariants.{Act, Jump, When, Unless, Switch, Dispatch}
use Rattle.op_mir.specs.declared.instruction.Instruction.{Instruction}
use Rattle.op_agreement.proofs.Branching.{answered, fits_of, has_of, some_last, step_here, turned, words_of}
use Rattle.op_agreement.proofs.Computing.{rest_above}
use Rattle.op_agreement.proofs.Following.{Comes}
use Rattle.op_agreement.proofs.Lengths.{computation_short, switch_short}
use Rattle.op_agreement.proofs.Pricing.{afford, afford_light, heavy, least}
use Rattle.op_agreement.proofs.Standing.{Next, here}
use Rattle.op_agreement.specs.Chart.{Floor}
use Rattle.op_agreement.specs.Coding.{code_for}
use Rattle.op_agreement.specs.Fitting.{IsFitting}
use Rattle.op_agreement.specs.Settings.{Setting, managed}
use Rattle.op_agreement.specs.Steps.{most_for_one}
use Rattle.op_agreement.specs.Typed.{AreTargets, IsTarget}

pub behind_act : {A : Type 0} → ⊥ ⊎ A → A
behind_act (inl never) = absurd never
behind_act (inr others) = others

-- ---- where branches lead

some_same : {a b : ℕ} → Some a ≡ Some b → a ≡ b
some_same e = cc

true_target : (x : ℤ) (k j : ℕ) → where_true x k ≡ Some j → k ≡ j
true_target x k j e = by (is_true x) e
  where
    by : (b : Bool) → (if b then Some k else None) ≡ Some j → k ≡ j
    by true e = cc
    by false e = absurd cc

false_target : (x : ℤ) (k j : ℕ) → where_false x k ≡ Some j → k ≡ j
false_target x k j e = by (is_true x) e
  where
    by : (b : Bool) → (if b then None else Some k) ≡ Some j → k ≡ j
    by true e = absurd cc
    by false e = cc

target_same : (x : Routine) (block : BlockId) (j : ℕ) → block.0 ≡ j → IsTarget x block → IsTarget x (record { 0 = j })
target_same x block j same (some, low) = (omega arith, omega arith)

arm_target : (x : Routine) (n : ℤ) (arms : List Arm) (j : ℕ) → AreTargets x arms → arm_for n (map view_arm arms) ≡ Some j → IsTarget x (record { 0 = j })
arm_target x n [] j there e = absurd cc
arm_target x n (a ∷ arms) j (first, others) e = by (list_any (label_has n) a.labels) e (arm_target x n arms j others)
  where
    by : (b : Bool) → (if b then Some a.block.0 else arm_for n (map view_arm arms)) ≡ Some j → (arm_for n (map view_arm arms) ≡ Some j → IsTarget x (record { 0 = j })) → IsTarget x (record { 0 = j })
    by true e rest = target_same x a.block j (some_same e) first
    by false e rest = rest e

way_target : (x : Routine) (n : ℤ) (k j : ℕ) → k + 3 < length x.blocks → way_for n k ≡ Some j → IsTarget x (record { 0 = j })
way_target x n k j low e = first (int_eq n (pos 1)) e
  where
    third : (b : Bool) → (if b then Some (k + 3) else None) ≡ Some j → IsTarget x (record { 0 = j })
    third true e = let same : k + 3 ≡ j = cc in (omega arith, omega arith)
    third false e = absurd cc

    second : (b : Bool) → (if b then Some (k + 2) else (if int_eq n (pos 3) then Some (k + 3) else None)) ≡ Some j → IsTarget x (record { 0 = j })
    second true e = let same : k + 2 ≡ j = cc in (omega arith, omega arith)
    second false e = third (int_eq n (pos 3)) e

    first : (b : Bool) → (if b then Some (k + 1) else (if int_eq n (pos 2) then Some (k + 2) else (if int_eq n (pos 3) then Some (k + 3) else None))) ≡ Some j → IsTarget x (record { 0 = j })
    first true e = let same : k + 1 ≡ j = cc in (omega arith, omega arith)
    first false e = second (int_eq n (pos 2)) e

-- behind a finally part nothing is raised again
dispatched_is : (c : Code) (n : ℤ) (t k : ℕ) (m : MirState) → m.world.raised ≡ None → m.world.waiting (t + 1) ≡ None → dispatched c n t k m ≡ go_if c (way_for n k) m
dispatched_is c (pos zero) t k m none nobody = refl
dispatched_is c (pos (suc zero)) t k m none nobody = refl
dispatched_is c (pos (suc (suc zero))) t k m none nobody = refl
dispatched_is c (pos (suc (suc (suc zero)))) t k m none nobody = refl
dispatched_is c (pos (suc (suc (suc (suc zero))))) t k m none nobody = ap (λ r. record m { world = record m.world { raised = r } }) (nobody ∙ sym none)
dispatched_is c (pos (suc (suc (suc (suc (suc n)))))) t k m none nobody =
    let one : int_eq (pos (suc (suc (suc (suc (suc n)))))) (pos 1) ≡ false = grind (arith, nat_tests, ints) in
    let two : int_eq (pos (suc (suc (suc (suc (suc n)))))) (pos 2) ≡ false = grind (arith, nat_tests, ints) in
    let three : int_eq (pos (suc (suc (suc (suc (suc n)))))) (pos 3) ≡ false = grind (arith, nat_tests, ints) in
    rw (one, two, three) refl
dispatched_is c (negsuc n) t k m none nobody = refl

module _ (g : Setting) (fit : IsFitting g) (m : MirState) (l : State) (floors : ℕ → Floor) (is : List Instruction) where
  abbrev Stands_next : Instruction → Type 0
  Stands_next i = Next g m l floors i is

  pub constant_comes : (to : TemporaryId) (n : _) (landing : _) → Stands_next (Act (Constant to n) landing) → Comes g m l
  unfolding code_for constant_code execute perform
  constant_comes to n landing next =
      let fits = next.fine.1 in
      let wraps = word_wraps _ n (number_is n fits) in
      answered g fit m l floors (Act (Constant to n) landing) is next (constant_code (register_of (here m floors).frame.bank to) n) to (gives n) refl refl (omega arith) (λ light. light) (behind_act next.on)
      (constant (work_of (here m floors).frame.bank) (register_of (here m floors).frame.bank to) l.top.registers n fits)
      (step_here g fit m l floors (Act (Constant to n) landing) is next ∙ ap (λ z. record m { world = with_number to.0 z m.world; work = rest_above g m l floors (Act (Constant to n) landing) is next }) wraps)

  pub compute_comes : (c : Computation) (landing : _) → Stands_next (Act (Compute c) landing) → Comes g m l
  unfolding code_for execute action_fits
  compute_comes c landing next =
      let a = next.stays.activation in
      let bank = (here m floors).frame.bank in
      let typed = next.fine in
      let fits = fits_of (here m floors).routine bank a.floor.fits.scratch c typed.0 in
      let words = words_of g.core (here m floors).number c typed.1 in
      let some = computation_steps bank c words in
      let x = number_at m.world (left_of c).0 in
      let y = number_at m.world (right_of c).0 in
      answered g fit m l floors (Act (Compute c) landing) is next (computation_code bank c) (to_of c) (meant c x y) refl some (computation_short bank c) (λ light. light) (behind_act next.on)
      (computation_answers bank c l.top.registers x y words fits.apart (a.kept.temporaries (left_of c).0 fits.first) (a.kept.temporaries (right_of c).0 fits.second))
      (step_here g fit m l floors (Act (Compute c) landing) is next ∙ ap (λ w. record m { world = w; work = rest_above g m l floors (Act (Compute c) landing) is next }) (performed g.core ((code_rules (managed g)).number (record m { work = rest_above g m l floors (Act (Compute c) landing) is next })) c m.world))

  -- ---- branches

  reads : (i : Instruction) (next : Stands_next i) (t : TemporaryId) → has (here m floors).routine t ≡ true → Reads (work_of (here m floors).frame.bank) (register_of (here m floors).frame.bank t) l.top.registers (number_at m.world t.0)
  reads i next t is =
      let a = next.stays.activation in
      let low = has_of (here m floors).routine t is in
      let scratch = a.floor.fits.scratch in
      record { below = omega arith; second = omega arith; word = a.kept.temporaries t.0 low }

  third : (work_of (here m floors).frame.bank).second.0 < (work_of (here m floors).frame.bank).third.0
  third = omega arith

  pub jump_comes : (block : BlockId) → Stands_next (Jump block) → Comes g m l
  unfolding code_for outcome execute
  jump_comes block next =
      turned g fit m l floors (Jump block) is next (LowJump (target_of block) ∷ []) (Some block.0) refl refl (afford_light g fit m l floors (Jump block) is next 1 (omega arith)) (λ e. absurd cc) (λ k e. target_same (here m floors).routine block k (some_same e) next.fine) (refl, λ r low. refl)
      (step_here g fit m l floors (Jump block) is next)

  pub when_comes : (t : TemporaryId) (block : BlockId) → Stands_next (When t block) → Comes g m l
  unfolding code_for true_code execute
  when_comes t block next =
      let bank = (here m floors).frame.bank in
      let x = number_at m.world t.0 in
      let branches = branches_turn (work_of bank) (register_of bank t) l.top.registers x (reads (When t block) next t next.fine.0) third in
      turned g fit m l floors (When t block) is next (true_code (work_of bank) (register_of bank t) block) (where_true x block.0) refl refl (afford g fit m l floors (When t block) is next (λ light. light) 2 (omega arith)) (λ e. behind_act next.on) (λ k e. target_same (here m floors).routine block k (true_target x block.0 k e) next.fine.1) (branches.when_true block)
      (step_here g fit m l floors (When t block) is next ∙ by (is_true x))
    where
      by : (b : Bool) → (if b then go_to (managed g) block.0 (record m { work = rest_above g m l floors (When t block) is next }) else record m { work = rest_above g m l floors (When t block) is next }) ≡ go_if (managed g) (if b then Some block.0 else None) (record m { work = rest_above g m l floors (When t block) is next })
      by true = refl
      by false = refl

  pub unless_comes : (t : TemporaryId) (block : BlockId) → Stands_next (Unless t block) → Comes g m l
  unfolding code_for false_code execute
  unless_comes t block next =
      let bank = (here m floors).frame.bank in
      let x = number_at m.world t.0 in
      let branches = branches_turn (work_of bank) (register_of bank t) l.top.registers x (reads (Unless t block) next t next.fine.0) third in
      turned g fit m l floors (Unless t block) is next (false_code (work_of bank) (register_of bank t) block) (where_false x block.0) refl refl (afford g fit m l floors (Unless t block) is next (λ light. light) 2 (omega arith)) (λ e. behind_act next.on) (λ k e. target_same (here m floors).routine block k (false_target x block.0 k e) next.fine.1) (branches.when_false block)
      (step_here g fit m l floors (Unless t block) is next ∙ by (is_true x))
    where
      by : (b : Bool) → (if b then record m { work = rest_above g m l floors (Unless t block) is next } else go_to (managed g) block.0 (record m { work = rest_above g m l floors (Unless t block) is next })) ≡ go_if (managed g) (if b then None else Some block.0) (record m { work = rest_above g m l floors (Unless t block) is next })
      by true = refl
      by false = refl

  pub switch_comes : (t : TemporaryId) (arms : _) → Stands_next (Switch t arms) → Comes g m l
  unfolding code_for switch_code execute
  switch_comes t arms next =
      let bank = (here m floors).frame.bank in
      let x = number_at m.world t.0 in
      let branches = branches_turn (work_of bank) (register_of bank t) l.top.registers x (reads (Switch t arms) next t next.fine.0) third in
      let some = some_last (arms_code (work_of bank) (register_of bank t) arms) (Const (work_of bank).first 0) in
      let paid = heavy g fit m l floors (Switch t arms) is next (λ light. light) in
      let labels = paid.paid in
      let charge = paid.charge in
      let cost = least g fit m l floors (Switch t arms) is next in
      let short = switch_short (work_of bank) (register_of bank t) arms in
      let few : length (switch_code (work_of bank) (register_of bank t) arms) ≤ most_for_one * mir_cost (managed g) m = omega arith in
      turned g fit m l floors (Switch t arms) is next (switch_code (work_of bank) (register_of bank t) arms) (arm_for x (map view_arm arms)) refl some few (λ e. behind_act next.on) (λ k e. arm_target (here m floors).routine x arms k next.fine.2 e) (branches.by_label arms next.fine.1)
      (step_here g fit m l floors (Switch t arms) is next)

  pub dispatch_comes : (t : TemporaryId) (block : BlockId) → Stands_next (Dispatch t block) → Comes g m l
  unfolding code_for dispatch_code way_code execute
  dispatch_comes t block next =
      let bank = (here m floors).frame.bank in
      let x = number_at m.world t.0 in
      let plain = next.stays.plain in
      let branches = branches_turn (work_of bank) (register_of bank t) l.top.registers x (reads (Dispatch t block) next t next.fine.0) third in
      turned g fit m l floors (Dispatch t block) is next (dispatch_code (work_of bank) (register_of bank t) block) (way_for x block.0) refl refl (afford g fit m l floors (Dispatch t block) is next (λ light. light) 6 (omega arith)) (λ e. behind_act next.on) (λ k e. way_target (here m floors).routine x block.0 k next.fine.1 e) (branches.by_reason block)
      (step_here g fit m l floors (Dispatch t block) is next ∙ dispatched_is (managed g) x t.0 block.0 (record m { work = rest_above g m l floors (Dispatch t block) is next }) plain.raised (plain.waiting (t.0 + 1)))
