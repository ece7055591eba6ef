-- Simplified code does the same in no more steps.
use Rattle.std.proofs.Common.{◌≡◌, ◌≢◌, ℕ, pos, suc, ◌+◌, ◌-◌, ◌<◌, Bool, true, false, ◌&&◌, ◌||◌, if◌then◌else◌, Option, Some, None, List, [], ◌∷◌, length, replicate, slice_get, nat_lt, refl, ap, ap₂, sym, ◌∙◌, subst, subst₂, arith}
use Rattle.std.proofs.lemmas.Bool.{and_parts, eqb-true, eq-eqb, ltb-true, or_left}
use Rattle.std.proofs.lemmas.Option.{same_Some}
use Rattle.std.specs.List.{list_all}
use Rattle.std.specs.Ordering.{int_eq}
use Rattle.op_low.proofs.ValidRuns.{start_runs, step_runs}
use Rattle.op_low.specs.Machine.{NeverBad, act, cost, entered, start, step, shown_by, shows}
use Rattle.op_low.specs.Runs.{RunsValid}
use Rattle.op_low.specs.State.{Activation, Bad, Caller, Ended, Placement, Running, State, keep, routine_of, routine_or, value}
use Rattle.op_low.specs.Valid.{is_valid, is_valid_instruction, takes}
use Rattle.op_low.specs.declared.code.Low.{Low}
use Rattle.op_low.specs.declared.code.Routine.{Routine}
use Rattle.op_low.specs.declared.ids.VirtualRegister.{VirtualRegister}
use Rattle.op_low.specs.declared.instruction.Call.{Call as Operands}
use Rattle.op_low.specs.declared.instruction.Instruction.{Instruction}
use Rattle.op_low.specs.declared.instruction.Instruction.TheVariants.{Const, Address, Local, Move, Alu, AluImm, Shift, Load, Store, Call, CallAt, Branch, Jump, Return, Raise, Read, Write, Exit}
use Rattle.op_optimize.proofs.Actions.{Alike, BothEnded, BothGo, CallersStand, GoesAlike, NoCallers, with_parts}
use Rattle.op_optimize.proofs.Costs.{cost_stays, shows_stays}
use Rattle.op_optimize.proofs.Emitting.{source_means}
use Rattle.op_optimize.proofs.Facts.{Knows, meaning}
use Rattle.op_optimize.proofs.Meanings.{alu_means, is_there, one_means}
use Rattle.op_optimize.proofs.Needing.{needs_read, reads_its_own}
use Rattle.op_optimize.proofs.Simplifications.{InBlock, Plans, values_left_out}
use Rattle.op_optimize.proofs.SimplifiedCode.{skips_one, stays_one}
use Rattle.op_optimize.proofs.Staying.{Stand, Stayed, does, enters}
use Rattle.op_optimize.proofs.Stepping.{shortens}
use Rattle.op_optimize.proofs.Steps.{behind, cost_ended, cost_is, step_is, step_is_bad, step_stays, shows_ended, shows_is}
use Rattle.op_optimize.specs.Contents.{content_of, has_already}
use Rattle.op_optimize.specs.Facts.{source, value_in, with_fact}
use Rattle.op_optimize.specs.Liveness.{needs}
use Rattle.op_optimize.specs.Reading.{reads, same, target_of}
use Rattle.op_optimize.specs.Rewriting.{rewritten}
use Rattle.op_optimize.specs.Shortening.{LooksLike, Shortens}
use Rattle.op_optimize.specs.Simplifying.{and_fact, contents_behind, facts_behind, in_front, last_written, left_out, left_out_by, may_go, may_write, most_facts, or_nothing, serves_by, simplified, stays_as}
use Rattle.op_optimize.specs.Stepping.{Leads, Moves, Skips, StepIs}
use Rattle.op_optimize.specs.Values.{alu_from, alu_value as alu_value_of, value_behind, value_of, value_with_one}
use Rattle.op_optimize.specs.Worth.{serves}
use Rattle.op_optimize.specs.declared.block.Way.{Way}
use Rattle.op_optimize.specs.declared.fact.Content.TheVariants.{Number as NumberIn, Place}
use Rattle.op_optimize.specs.declared.fact.Fact.{Fact}
use Rattle.op_optimize.specs.declared.fact.Known.{Known}
use Rattle.op_optimize.specs.declared.fact.Value.{Value}
use Rattle.op_optimize.specs.declared.fact.Value.TheVariants.{Copy}
use Rattle.op_rv.specs.Operation.{alu_value, imm_value, word_from}
use Rattle.op_rv.specs.State.{with_bytes}

-- ---- an instruction that is left out puts the value of its fact in its register, and shows nothing

record PutsValue (low : Low) (p : Placement) (i : Instruction) (m : State) (to : VirtualRegister) (s : ℕ → ℕ) (v : Value) : Type 0 where
  put : ℕ
  does : act low p i m ≡ keep to put m
  means : put ≡ meaning s v
  silent : (n : State) → shown_by p i n ≡ []

module _ (low : Low) (p : Placement) (m : State) (s : ℕ → ℕ) (facts : List Fact) (known : List Known) (nothing to : VirtualRegister) (none : s nothing.0 ≡ 0) (knows : Knows p.address s known) where
  has_content : (i : Instruction) (v : Value) → target_of i ≡ Some to → has_already known to i ≡ true → Copy to ≡ v → PutsValue low p i m to s v
  unfolding has_already content_of target_of act shown_by
  has_content (Const t n) v target has is =
      record { put = n; does = ap (λ r. keep r n m) (same_Some _ _ target); means = sym (is_there p.address s known to (NumberIn n) knows has) ∙ ap (meaning s) is; silent = λ n. refl }
  has_content (Address t symbol) v target has is =
      record { put = p.address symbol; does = ap (λ r. keep r (p.address symbol) m) (same_Some _ _ target); means = sym (is_there p.address s known to (Place symbol) knows has) ∙ ap (meaning s) is; silent = λ n. refl }
  has_content (Local t offset) v target has is = absurd cc
  has_content (Move t from) v target has is = absurd cc
  has_content (Alu op t left right) v target has is = absurd cc
  has_content (AluImm op t left imm) v target has is = absurd cc
  has_content (Shift op t left amount) v target has is = absurd cc
  has_content (Load op t base offset) v target has is = absurd cc
  has_content (Store op x base offset) v target has is = absurd cc
  has_content (Call id call) v target has is = absurd cc
  has_content (CallAt address call) v target has is = absurd cc
  has_content (Branch op left right block) v target has is = absurd cc
  has_content (Jump block) v target has is = absurd cc
  has_content (Return x) v target has is = absurd cc
  has_content Raise v target has is = absurd cc
  has_content (Read t buffer size) v target has is = absurd cc
  has_content (Write output buffer size) v target has is = absurd cc
  has_content (Exit status) v target has is = absurd cc

  module _ (i : Instruction) (holds : (r : VirtualRegister) → reads i r ≡ true → value m r ≡ meaning s (value_in facts r)) where
    sourced : (r a : VirtualRegister) → reads i r ≡ true → source facts nothing r ≡ Some a → value m r ≡ s a.0
    unfolding source
    sourced r a read is = holds r read ∙ sym (source_means s nothing none (value_in facts r) a is)

  has_value : (i : Instruction) (v : Value) → ((r : VirtualRegister) → reads i r ≡ true → value m r ≡ meaning s (value_in facts r)) → target_of i ≡ Some to → value_of facts nothing i ≡ Some v → PutsValue low p i m to s v
  unfolding value_of target_of act reads alu_value_of shown_by
  has_value (Const t n) v holds target is = record { put = n; does = ap (λ r. keep r n m) (same_Some _ _ target); means = ap (meaning s) (same_Some _ _ is); silent = λ n. refl }
  has_value (Move t from) v holds target is =
      record { put = value m from; does = ap (λ r. keep r (value m from) m) (same_Some _ _ target); means = holds from (eq-eqb from.0 from.0 refl) ∙ ap (meaning s) (same_Some _ _ is); silent = λ n. refl }
  has_value (Alu op t left right) v holds target is = by (source facts nothing left) (source facts nothing right) refl refl is
    where
      by : (a b : Option VirtualRegister) → source facts nothing left ≡ a → source facts nothing right ≡ b → alu_from op a b ≡ Some v → PutsValue low p (Alu op t left right) m to s v
      by None b e d is = absurd cc
      by (Some a) None e d is = absurd cc
      by (Some a) (Some b) e d is =
          let first = sourced (Alu op t left right) holds left a (or_left (same left left) _ (eq-eqb left.0 left.0 refl)) e in
          let second = sourced (Alu op t left right) holds right b (or_right_itself (same left right) right) d in
          record {
            put = alu_value op (value m left) (value m right);
            does = ap (λ r. keep r (alu_value op (value m left) (value m right)) m) (same_Some _ _ target);
            means = ap₂ (alu_value op) first second ∙ alu_means s op a b v is;
            silent = λ n. refl;
          }
        where
          or_right_itself : (x : Bool) (r : VirtualRegister) → (x || same r r) ≡ true
          or_right_itself true r = refl
          or_right_itself false r = eq-eqb r.0 r.0 refl
  has_value (AluImm op t left imm) v holds target is = by (int_eq imm (pos 1)) refl is
    where
      by : (t' : Bool) → int_eq imm (pos 1) ≡ t' → (if t' then value_with_one nothing op (value_in facts left) else None) ≡ Some v → PutsValue low p (AluImm op t left imm) m to s v
      by false e is = absurd cc
      by true e is =
          record {
            put = imm_value op (value m left) (word_from imm);
            does = ap (λ r. keep r (imm_value op (value m left) (word_from imm)) m) (same_Some _ _ target);
            means = ap (λ x. imm_value op x (word_from imm)) (holds left (eq-eqb left.0 left.0 refl)) ∙ one_means s nothing none op (value_in facts left) v imm e is;
            silent = λ n. refl;
          }
  has_value (Address t symbol) v holds target is = absurd cc
  has_value (Local t offset) v holds target is = absurd cc
  has_value (Shift op t left amount) v holds target is = absurd cc
  has_value (Load op t base offset) v holds target is = absurd cc
  has_value (Store op x base offset) v holds target is = absurd cc
  has_value (Call id call) v holds target is = absurd cc
  has_value (CallAt address call) v holds target is = absurd cc
  has_value (Branch op left right block) v holds target is = absurd cc
  has_value (Jump block) v holds target is = absurd cc
  has_value (Return x) v holds target is = absurd cc
  has_value Raise v holds target is = absurd cc
  has_value (Read t buffer size) v holds target is = absurd cc
  has_value (Write output buffer size) v holds target is = absurd cc
  has_value (Exit status) v holds target is = absurd cc

  puts_value : (i : Instruction) (v : Value) → ((r : VirtualRegister) → reads i r ≡ true → value m r ≡ meaning s (value_in facts r)) → target_of i ≡ Some to → value_behind facts known nothing to i ≡ Some v → PutsValue low p i m to s v
  unfolding value_behind
  puts_value i v holds target is = by (has_already known to i) refl is
    where
      by : (t : Bool) → has_already known to i ≡ t → (if t then Some (Copy to) else value_of facts nothing i) ≡ Some v → PutsValue low p i m to s v
      by true e is = has_content i v target e (same_Some _ _ is)
      by false e is = has_value i v holds target is

-- what is left out has a register and a value
pub record LeftOut (live : List ℕ) (way : Way) (facts : List Fact) (known : List Known) (i : Instruction) (v : Value) : Type 0 where
  pub to : VirtualRegister
  pub target : target_of i ≡ Some to
  pub is : value_behind facts known way.nothing to i ≡ Some v

pub is_left_out : (live : List ℕ) (way : Way) (facts : List Fact) (known : List Known) (i : Instruction) (is : List Instruction) (v : Value) → left_out live way facts known i is ≡ Some v → LeftOut live way facts known i v
unfolding left_out
is_left_out live way facts known i is v left = by way.thorough (target_of i) refl left
  where
    served : (to : VirtualRegister) (o : Option Value) → value_behind facts known way.nothing to i ≡ o → serves_by live way facts to is o ≡ Some v → value_behind facts known way.nothing to i ≡ Some v
    served to None e left = absurd cc
    served to (Some w) e left = kept (nat_lt (length facts) most_facts && serves live way.nothing to w is) left
      where
        kept : (t : Bool) → (if t then Some w else None) ≡ Some v → value_behind facts known way.nothing to i ≡ Some v
        kept true left = e ∙ left
        kept false left = absurd cc

    by : (t : Bool) (o : Option VirtualRegister) → target_of i ≡ o → (if t then left_out_by live way facts known i is o else None) ≡ Some v → LeftOut live way facts known i v
    by false o e left = absurd cc
    by true None e left = absurd cc
    by true (Some to) e left = record { to = to; target = e; is = served to (value_behind facts known way.nothing to i) refl left }

-- ---- programs that stand for one another

pub record Related (low better : Low) (p : Placement) (plans : Plans low better) (m n : State) : Type 0 where
  pub alike : Alike (Stand low better p plans) low better m n
  pub valid : RunsValid low m

module _ (low better : Low) (p : Placement) (plans : Plans low better) (many : length better.routines ≡ length low.routines) (valid : is_valid low ≡ true) where
  looks : (m n : State) → Related low better p plans m n → LooksLike m n
  looks m n related = by related.alike
    where
      by : Alike (Stand low better p plans) low better m n → LooksLike m n
      by (BothGo g) = record {
        output = ap (λ (s : State). s.output) g.same;
        errors = ap (λ (s : State). s.errors) g.same;
        input = ap (λ (s : State). s.input) g.same;
        ending = ap (λ (s : State). s.ending) g.same;
      }
      by (BothEnded e) = e.looks

  -- ---- a step

  module _ (m : State) (b : Activation) (ds : List Caller) (runs : RunsValid low m) (running : m.ending ≡ Running) (waits : CallersStand (Stand low better p plans) low better m.callers ds) (stands : InBlock low better p.address plans m.top b) (fine : (step low p m).ending ≢ Bad) (i : Instruction) (is : List Instruction) (now : m.top.now ≡ i ∷ is) where
    abbrev live : List ℕ
    live = (plans m.top.routine).live

    valid_first : is_valid_instruction low (routine_of low m.top.routine) i ≡ true
    valid_first = (and_parts _ _ (subst (λ code. list_all (is_valid_instruction low (routine_of low m.top.routine)) code ≡ true) now runs.top)).0

    code_now : simplified live stands.way stands.facts stands.known (i ∷ is) ≡ Some b.now
    code_now = ap (simplified live stands.way stands.facts stands.known) (sym now) ∙ stands.code

    values_first : (r : VirtualRegister) → r.0 < (routine_of low m.top.routine).registers → needs live (i ∷ is) r ≡ true → m.top.registers r.0 ≡ meaning b.registers (value_in stands.facts r)
    values_first r less needed = stands.values r less (ap (λ code. needs live code r) now ∙ needed)

    holds : (r : VirtualRegister) → reads i r ≡ true → value (record m { top = behind is m.top }) r ≡ meaning b.registers (value_in stands.facts r)
    holds r read = values_first r (ltb-true r.0 _ (reads_its_own (routine_of low m.top.routine) r low i valid_first read)) (needs_read live i is r read)

    nothing_there : b.registers stands.way.nothing.0 ≡ 0
    nothing_there = ap (λ (r : VirtualRegister). b.registers r.0) stands.nothing ∙ stands.none

    skips : (v : Value) → left_out live stands.way stands.facts stands.known i is ≡ Some v → StepIs low better p (Related low better p plans) m (with_parts b ds m)
    skips v left =
        let out = is_left_out live stands.way stands.facts stands.known i is v left in
        let puts = puts_value low p (record m { top = behind is m.top }) b.registers stands.facts stands.known stands.way.nothing out.to nothing_there stands.knows i v holds out.target out.is in
        let here : step low p m ≡ keep out.to puts.put (record m { top = behind is m.top }) = step_is low p m i is running now ∙ puts.does in
        let gone : GoesAlike (Stand low better p plans) low better (keep out.to puts.put (record m { top = behind is m.top })) (with_parts b ds m) =
        record {
          top = b;
          callers = ds;
          same = refl;
          running = running;
          tops = record {
            routine = stands.routine;
            way = stands.way;
            nothing = stands.nothing;
            facts = with_fact stands.facts out.to v;
            known = stands.known;
            code = ap (λ o. simplified live stands.way (and_fact stands.facts o (Some v)) stands.known is) (sym out.target) ∙ sym (skips_one live stands.way stands.facts stands.known i is v left) ∙ code_now;
            values = values_left_out live i is stands.facts m.top.registers b.registers (routine_of low m.top.routine).registers values_first out.to puts.put v out.target puts.means;
            knows = stands.knows;
            none = stands.none;
          };
          waits = waits;
        } in
        let shorter : length (step low p m).top.now ≡ length is = ap (λ (s : State). length s.top.now) here in
        let whole : length m.top.now ≡ suc (length is) = ap length now in
        Skips
        (record {
          alike = subst (λ s. Alike (Stand low better p plans) low better s (with_parts b ds m)) (sym here) (BothGo gone);
          valid = step_runs low p valid m runs;
        })
        (omega arith)
        (shows_is p m i is running now ∙ puts.silent m)

    moves : left_out live stands.way stands.facts stands.known i is ≡ None → StepIs low better p (Related low better p plans) m (with_parts b ds m)
    unfolding stays_as source reads
    moves stays = by (stays_as live stands.way stands.facts i is) (simplified live stands.way (facts_behind live stands.way stands.facts is (target_of i)) (contents_behind live stands.way stands.known i is) is) refl refl (sym (stays_one live stands.way stands.facts stands.known i is stays) ∙ code_now)
      where
        both_true : (x y : Bool) (j : Instruction) (o : Option Instruction) → (if x && y then o else None) ≡ Some j → (x ≡ true) × (y ≡ true) × (o ≡ Some j)
        both_true true true j o is = (refl, refl, is)
        both_true true false j o is = absurd cc
        both_true false y j o is = absurd cc

        same_rest : (j : Instruction) (js : List Instruction) → Some (j ∷ js) ≡ Some b.now → b.now ≡ j ∷ js
        same_rest j js is = sym (same_Some _ _ is)

        by : (o : Option Instruction) (q : Option (List Instruction)) → stays_as live stands.way stands.facts i is ≡ o → simplified live stands.way (facts_behind live stands.way stands.facts is (target_of i)) (contents_behind live stands.way stands.known i is) is ≡ q → in_front o q ≡ Some b.now → StepIs low better p (Related low better p plans) m (with_parts b ds m)
        by None q e d whole = absurd cc
        by (Some j) None e d whole = absurd cc
        by (Some j) (Some js) e d whole =
            let parts = both_true _ _ j _ (stays_is ∙ e) in
            let stayed : Stayed low better p plans many m b ds running waits stands is js i = record { now = now; goes = parts.0; may = parts.1; rest = d; valid = valid_first } in
            let here = step_is low p m i is running now in
            let there = step_is better p (with_parts b ds m) j js running (same_rest j js whole) in
            let acted = does low better p plans many m b ds running waits stands is js i j stayed parts.2 (subst (λ (s : State). s.ending ≢ Bad) here fine) in
            let alike : Alike (Stand low better p plans) low better (step low p m) (step better p (with_parts b ds m)) = subst₂ (Alike (Stand low better p plans) low better) (sym here) (sym there) acted in
            let same_cost = cost_stays low better p (λ r. (plans r).locals) stands.facts stands.way.nothing (or_nothing stands.way (last_written live stands.way is (target_of i))) i j m (with_parts b ds m) parts.2
            (λ address at call is_call is_at. same_address address at call is_call is_at) in
            let costs : cost better p m.ending (with_parts b ds m) ≡ cost low p m.ending m = cost_is better p (with_parts b ds m) j js running (same_rest j js whole) ∙ same_cost ∙ sym (cost_is low p m i is running now) in
            let shown : shows p m.ending (with_parts b ds m) ≡ shows p m.ending m = shows_is p (with_parts b ds m) j js running (same_rest j js whole)
            ∙ shows_stays p stands.facts stands.way.nothing (or_nothing stands.way (last_written live stands.way is (target_of i))) i j m b ds parts.2 same_value
            ∙ sym (shows_is p m i is running now) in
            Moves (record { alike = alike; valid = step_runs low p valid m runs }) (omega arith) shown
          where
            stays_is : (if may_go live stands.facts i && may_write live stands.way stands.facts is (target_of i) then rewritten stands.facts stands.way.nothing (or_nothing stands.way (last_written live stands.way is (target_of i))) i else None) ≡ stays_as live stands.way stands.facts i is
            stays_is = refl

            same_value : (r at : VirtualRegister) → reads i r ≡ true → source stands.facts stands.way.nothing r ≡ Some at → value (with_parts b ds m) at ≡ value m r
            same_value r at read is_at = source_means b.registers stands.way.nothing nothing_there (value_in stands.facts r) at is_at ∙ sym (holds r read)

            same_address : (address at : VirtualRegister) (call : Operands) → i ≡ CallAt address call → source stands.facts stands.way.nothing address ≡ Some at → value (with_parts b ds m) at ≡ value m address
            same_address address at call is_call is_at = same_value address at (ap (λ k. reads k address) is_call ∙ or_left (same address address) _ (eq-eqb address.0 address.0 refl)) is_at

    goes_on : StepIs low better p (Related low better p plans) m (with_parts b ds m)
    goes_on = by (left_out live stands.way stands.facts stands.known i is) refl
      where
        by : (o : Option Value) → left_out live stands.way stands.facts stands.known i is ≡ o → StepIs low better p (Related low better p plans) m (with_parts b ds m)
        by None e = moves e
        by (Some v) e = skips v e

  steps : (m n : State) → Related low better p plans m n → m.ending ≢ Bad → (step low p m).ending ≢ Bad → StepIs low better p (Related low better p plans) m n
  steps m n related good fine = by related.alike
    where
      by : Alike (Stand low better p plans) low better m n → StepIs low better p (Related low better p plans) m n
      by (BothGo g) = subst (StepIs low better p (Related low better p plans) m) (sym g.same) (go m.top.now refl)
        where
          go : (code : List Instruction) → m.top.now ≡ code → StepIs low better p (Related low better p plans) m (with_parts g.top g.callers m)
          go [] now = absurd (fine (ap (λ (s : State). s.ending) (step_is_bad low p m g.running now)))
          go (i ∷ is) now = goes_on m g.top g.callers related.valid g.running g.waits g.tops fine i is now
      by (BothEnded e) =
          let there = step_stays low p m e.status e.ended in
          let ended : n.ending ≡ Ended e.status = e.looks.ending ∙ e.ended in
          let there_too = step_stays better p n e.status ended in
          let one = cost_ended low p m e.status e.ended in
          let one_too = cost_ended better p n e.status ended in
          Moves (subst₂ (Related low better p plans) (sym there) (sym there_too) related) (omega arith) (shows_ended p n e.status ended ∙ sym (shows_ended p m e.status e.ended))

  pub leads : Leads low better p (Related low better p plans)
  leads = record { alike = looks; steps = steps }

  module _ (entry : better.entry ≡ low.entry) (bottom room : ℕ) (memory : ℕ → ℕ) (input : List ℕ) where
    begin_with : Activation → (locals routine : ℕ) → State
    begin_with top locals routine =
        record {
          top = top;
          callers = [];
          limit = bottom + locals;
          room = room - (locals + p.frame routine);
          memory = with_bytes memory bottom (replicate {A = ℕ} locals 0);
          input = input;
          output = [];
          errors = [];
          ending = Running;
        }

    takes_none : (o : Option Routine) → takes o 0 ≡ true → 0 ≡ (routine_or o).parameters
    takes_none None is = absurd cc
    takes_none (Some routine) is = sym (eqb-true routine.parameters 0 is)

    starts : GoesAlike (Stand low better p plans) low better (start low p bottom room memory input) (start better p bottom room memory input)
    unfolding start begin_with is_valid
    starts =
        record {
          top = entered better low.entry.0 [];
          callers = [];
          same =
              ap (λ e. begin_with (entered better e.0 []) (routine_of better e.0).locals e.0) entry
              ∙ ap (λ k. begin_with (entered better low.entry.0 []) k low.entry.0) (plans low.entry.0).locals;
          running = refl;
          tops = enters low better p plans low.entry.0 [] (takes_none (slice_get low.routines low.entry.0) (and_parts _ _ valid).0);
          waits = NoCallers;
        }

    pub simplified_shortens : NeverBad low p (start low p bottom room memory input) → Shortens low better p (start low p bottom room memory input) (start better p bottom room memory input)
    simplified_shortens never =
        shortens low better p (Related low better p plans) leads _ _ (record { alike = BothGo starts; valid = start_runs low p valid bottom room memory input }) never
