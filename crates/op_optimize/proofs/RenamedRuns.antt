-- Code with other names for its registers does the same in no more steps.
use Rattle.std.proofs.Common.{◌≡◌, ◌≢◌, ℕ, suc, ◌+◌, ◌-◌, Bool, true, false, ◌||◌, if◌then◌else◌, Option, Some, None, List, [], ◌∷◌, map, slice_get, length, replicate, refl, ap, ap₂, sym, ◌∙◌, subst, subst₂, arith}
use Rattle.std.proofs.lemmas.Bool.{eqb-true, eq-eqb, and_parts, or_left}
use Rattle.std.specs.List.{list_all}
use Rattle.op_rv.specs.State.{all_from, bytes_from, with_bytes}
use Rattle.op_low.specs.Machine.{NeverBad, Taken, Written, act, cost, cost_by, cost_next, done, entered, shown_by, shown_if, shows, start, step, step_by_ending, taken}
use Rattle.op_low.specs.Runs.{RunsValid}
use Rattle.op_low.specs.State.{Activation, Bad, Caller, Ended, Placement, Running, State, bad, keep, routine_of, routine_or, space, usable, value, value_in}
use Rattle.op_low.specs.Valid.{is_valid, is_valid_instruction, takes}
use Rattle.op_low.proofs.ValidRuns.{start_runs, step_runs}
use Rattle.op_low.specs.declared.code.Low.{Low}
use Rattle.op_low.specs.declared.code.Routine.{Routine}
use Rattle.op_low.specs.declared.ids.VirtualRegister.{VirtualRegister}
use Rattle.op_low.specs.declared.instruction.Instruction.{Instruction}
use Rattle.op_low.specs.declared.instruction.Instruction.TheVariants.{Const, Address, Local, Move, Alu, AluImm, Shift, Load, Store, Call, CallAt, Branch, Jump, Return, Raise, Read, Write, Exit}
use Rattle.op_optimize.specs.Programs.{EachRoutine}
use Rattle.op_optimize.specs.Reading.{reads, same, target_of}
use Rattle.op_optimize.specs.Renaming.{RenamesRoutine, is_idle, renamed, renamed_call, renamed_code, renamed_instruction}
use Rattle.op_optimize.specs.Shortening.{LooksLike, Shortens}
use Rattle.op_optimize.specs.Stepping.{Leads, Moves, Skips, StepIs}
use Rattle.op_optimize.proofs.Acting.{acts, map_length}
use Rattle.op_optimize.proofs.Standing.{Alike, BothEnded, BothGo, CallersStand, EndsAlike, Finds, GoesAlike, NamesStand, NoCallers, Related, Stands, StandsAlike, StandsNamed, behind, enters, finds_alike, finds_named, locals_stay, named_idle, with_parts}
use Rattle.op_optimize.proofs.Stepping.{shortens}
use Rattle.op_optimize.proofs.Steps.{shows_ended, shows_is}

-- ---- without names nothing is renamed

same_list : (xs : List VirtualRegister) → map (renamed []) xs ≡ xs
unfolding renamed
same_list [] = refl
same_list (x ∷ xs) = ap (λ l. x ∷ l) (same_list xs)

pub same_instruction : (i : Instruction) → renamed_instruction [] i ≡ i
unfolding renamed_instruction renamed renamed_call
same_instruction (Const to n) = refl
same_instruction (Address to symbol) = refl
same_instruction (Local to offset) = refl
same_instruction (Move to from) = refl
same_instruction (Alu op to left right) = refl
same_instruction (AluImm op to left imm) = refl
same_instruction (Shift op to left amount) = refl
same_instruction (Load op to base offset) = refl
same_instruction (Store op v base offset) = refl
same_instruction (Call id call) = ap (λ (xs : List VirtualRegister). Call id (record { arguments = xs; to = call.to; landing = call.landing })) (same_list call.arguments)
same_instruction (CallAt address call) = ap (λ (xs : List VirtualRegister). CallAt address (record { arguments = xs; to = call.to; landing = call.landing })) (same_list call.arguments)
same_instruction (Branch op left right block) = refl
same_instruction (Jump block) = refl
same_instruction (Return v) = refl
same_instruction Raise = refl
same_instruction (Read to buffer size) = refl
same_instruction (Write output buffer size) = refl
same_instruction (Exit status) = refl

-- ---- a step

step_is : (low : Low) (p : Placement) (m : State) (i : Instruction) (is : List Instruction) → m.ending ≡ Running → m.top.now ≡ i ∷ is → step low p m ≡ act low p i (record m { top = behind is m.top })
unfolding step step_by_ending done
step_is low p m i is running now = ap (λ e. step_by_ending low p e m) running ∙ ap (λ code. done low p code m) now

step_is_bad : (low : Low) (p : Placement) (m : State) → m.ending ≡ Running → m.top.now ≡ [] → step low p m ≡ bad m
unfolding step step_by_ending done
step_is_bad low p m running now = ap (λ e. step_by_ending low p e m) running ∙ ap (λ code. done low p code m) now

step_stays : (low : Low) (p : Placement) (m : State) (status : ℕ) → m.ending ≡ Ended status → step low p m ≡ m
unfolding step step_by_ending
step_stays low p m status ended = ap (λ e. step_by_ending low p e m) ended

-- ---- what it costs

cost_is : (low : Low) (p : Placement) (m : State) (i : Instruction) (is : List Instruction) → m.ending ≡ Running → m.top.now ≡ i ∷ is → cost low p m.ending m ≡ cost_by low p i m
unfolding cost
cost_is low p m i is running now = ap (λ e. cost low p e m) running ∙ ap (λ code. cost_next low p code m) now

cost_ended : (low : Low) (p : Placement) (m : State) (status : ℕ) → m.ending ≡ Ended status → cost low p m.ending m ≡ 1
unfolding cost
cost_ended low p m status ended = ap (λ e. cost low p e m) ended

-- of a call of the routine that was found
call_cost : Low → Placement → Option ℕ → ℕ → ℕ
call_cost low p None arguments = 1
call_cost low p (Some r) arguments = 1 + space low p r + arguments

call_at_cost : (low : Low) (p : Placement) (address : VirtualRegister) (call : _) (m : State) (found : Option ℕ) → p.routine_at (value m address) ≡ found → cost_by low p (CallAt address call) m ≡ call_cost low p found (length call.arguments)
unfolding cost_by call_cost
call_at_cost low p address call m None e = rw e refl
call_at_cost low p address call m (Some r) e = rw e refl

module _ (low better : Low) (p : Placement) (each : EachRoutine RenamesRoutine low better) where
  same_call_cost : (r : ℕ) (many less : ℕ) → less ≡ many → 1 + space better p r + less ≡ 1 + space low p r + many
  same_call_cost r many less e = ap (λ k. 1 + (k + p.frame r) + less) (locals_stay low better each r) ∙ ap (λ k. 1 + space low p r + k) e

  same_found_cost : (found : Option ℕ) (many less : ℕ) → less ≡ many → call_cost better p found less ≡ call_cost low p found many
  unfolding call_cost
  same_found_cost None many less e = refl
  same_found_cost (Some r) many less e = same_call_cost r many less e

  same_cost : (names : List ℕ) (i : Instruction) (m n : State) → ((r : VirtualRegister) → reads i r ≡ true → value n (renamed names r) ≡ value m r) → cost_by better p (renamed_instruction names i) n ≡ cost_by low p i m
  unfolding cost_by renamed_instruction renamed_call reads
  same_cost names (Const to k) m n operands = refl
  same_cost names (Address to symbol) m n operands = refl
  same_cost names (Local to offset) m n operands = refl
  same_cost names (Move to from) m n operands = refl
  same_cost names (Alu op to left right) m n operands = refl
  same_cost names (AluImm op to left imm) m n operands = refl
  same_cost names (Shift op to left amount) m n operands = refl
  same_cost names (Load op to base offset) m n operands = refl
  same_cost names (Store op v base offset) m n operands = refl
  same_cost names (Call id call) m n operands = same_call_cost id.0 _ _ (map_length (renamed names) call.arguments)
  same_cost names (CallAt address call) m n operands =
      let there : p.routine_at (value n (renamed names address)) ≡ p.routine_at (value m address) = ap p.routine_at (operands address (or_left (same address address) _ (eq-eqb address.0 address.0 refl))) in
      call_at_cost better p (renamed names address) (renamed_call names call) n _ there
      ∙ same_found_cost (p.routine_at (value m address)) _ _ (map_length (renamed names) call.arguments)
      ∙ sym (call_at_cost low p address call m _ refl)
  same_cost names (Branch op left right block) m n operands = refl
  same_cost names (Jump block) m n operands = refl
  same_cost names (Return v) m n operands = refl
  same_cost names Raise m n operands = refl
  same_cost names (Read to buffer size) m n operands = refl
  same_cost names (Write output buffer size) m n operands = refl
  same_cost names (Exit status) m n operands = refl

  -- ---- what it shows

  same_shown : (names : List ℕ) (i : Instruction) (m : State) (b : Activation) (ds : List Caller) → ((r : VirtualRegister) → reads i r ≡ true → value (with_parts b ds m) (renamed names r) ≡ value m r) → shown_by p (renamed_instruction names i) (with_parts b ds m) ≡ shown_by p i m
  unfolding shown_by renamed_instruction renamed_call reads
  same_shown names (Const to k) m b ds operands = refl
  same_shown names (Address to symbol) m b ds operands = refl
  same_shown names (Local to offset) m b ds operands = refl
  same_shown names (Move to from) m b ds operands = refl
  same_shown names (Alu op to left right) m b ds operands = refl
  same_shown names (AluImm op to left imm) m b ds operands = refl
  same_shown names (Shift op to left amount) m b ds operands = refl
  same_shown names (Load op to base offset) m b ds operands = refl
  same_shown names (Store op v base offset) m b ds operands = refl
  same_shown names (Call id call) m b ds operands = refl
  same_shown names (CallAt address call) m b ds operands = refl
  same_shown names (Branch op left right block) m b ds operands = refl
  same_shown names (Jump block) m b ds operands = refl
  same_shown names (Return v) m b ds operands = refl
  same_shown names Raise m b ds operands = refl
  same_shown names (Read to buffer size) m b ds operands =
      ap₂ (λ u v. shown_if (all_from (usable p.rights.writable m) u v) (Taken (taken v m))) (operands buffer (or_left (same buffer buffer) _ (eq-eqb buffer.0 buffer.0 refl))) (operands size (or_right (same buffer size) size))
    where
      or_right : (x : Bool) (r : VirtualRegister) → (x || same r r) ≡ true
      or_right true r = refl
      or_right false r = eq-eqb r.0 r.0 refl
  same_shown names (Write output buffer size) m b ds operands =
      ap₂ (λ u v. shown_if (all_from (usable p.rights.readable m) u v) (Written output (bytes_from m.memory u v))) (operands buffer (or_left (same buffer buffer) _ (eq-eqb buffer.0 buffer.0 refl))) (operands size (or_right (same buffer size) size))
    where
      or_right : (x : Bool) (r : VirtualRegister) → (x || same r r) ≡ true
      or_right true r = refl
      or_right false r = eq-eqb r.0 r.0 refl
  same_shown names (Exit status) m b ds operands = refl

  -- ---- both do a step

  module _ (valid : is_valid low ≡ true) where
    moves : (names : List ℕ) (i : Instruction) (is js : List Instruction) (m : State) (b : Activation) (ds : List Caller) → RunsValid low m → m.ending ≡ Running → m.top.now ≡ i ∷ is → b.now ≡ renamed_instruction names i ∷ js → Finds low better names i (behind is m.top) (behind js b) → CallersStand low better m.callers ds → (step low p m).ending ≢ Bad → StepIs low better p (Related low better) m (with_parts b ds m)
    moves names i is js m b ds runs running now next finds waits fine =
        let here = step_is low p m i is running now in
        let there = step_is better p (with_parts b ds m) (renamed_instruction names i) js running next in
        let acted = acts low better p each names i (record m { top = behind is m.top }) (behind js b) ds running finds waits (subst (λ s. s.ending ≢ Bad) here fine) in
        let alike : Alike low better (step low p m) (step better p (with_parts b ds m)) = subst₂ (Alike low better) (sym here) (sym there) acted in
        let costs : cost better p m.ending (with_parts b ds m) ≡ cost low p m.ending m = cost_is better p (with_parts b ds m) (renamed_instruction names i) js running next ∙ same_cost names i m (with_parts b ds m) finds.operands ∙ sym (cost_is low p m i is running now) in
        let shown : shows p m.ending (with_parts b ds m) ≡ shows p m.ending m = shows_is p (with_parts b ds m) (renamed_instruction names i) js running next ∙ same_shown names i m b ds finds.operands ∙ sym (shows_is p m i is running now) in
        Moves (record { alike = alike; valid = step_runs low p valid m runs }) (omega arith) shown

    -- one does a move between registers of one name
    skips : (live names : List ℕ) (registers : ℕ) (to from : VirtualRegister) (is : List Instruction) (m : State) (b : Activation) (ds : List Caller) → RunsValid low m → m.ending ≡ Running → m.top.now ≡ Move to from ∷ is → NamesStand low better live names registers m.top b → b.now ≡ renamed_code names is → same (renamed names to) (renamed names from) ≡ true → CallersStand low better m.callers ds → StepIs low better p (Related low better) m (with_parts b ds m)
    unfolding act target_of reads shown_by
    skips live names registers to from is m b ds runs running now stands left idle waits =
        let here = step_is low p m (Move to from) is running now in
        let finds = finds_named low better live names registers (Move to from) is m.top b stands now b.now left (subst (λ code. list_all (is_valid_instruction low (routine_of low m.top.routine)) code ≡ true) now runs.top) in
        let there : value_in b.registers (renamed names to) ≡ value m from = ap b.registers (eqb-true _ _ idle) ∙ finds.operands from (eq-eqb from.0 from.0 refl) in
        let gone : GoesAlike low better (keep to (value m from) (record m { top = behind is m.top })) (with_parts b ds m) =
        record {
          top = b;
          callers = ds;
          same = refl;
          running = running;
          tops = named_idle low better live names registers (Move to from) is m.top b stands now b.now left to (value m from) refl there;
          waits = waits;
        } in
        let shorter : length (step low p m).top.now ≡ length is = ap (λ s. length s.top.now) here in
        let whole : length m.top.now ≡ suc (length is) = ap length now in
        Skips
        (record {
          alike = subst (λ s. Alike low better s (with_parts b ds m)) (sym here) (BothGo gone);
          valid = step_runs low p valid m runs;
        })
        (omega arith)
        (shows_is p m (Move to from) is running now)

    -- ---- every step

    module _ (m : State) (runs : RunsValid low m) (fine : (step low p m).ending ≢ Bad) (running : m.ending ≡ Running) (b : Activation) (ds : List Caller) (waits : CallersStand low better m.callers ds) where
      goes_alike : (i : Instruction) (is : List Instruction) → m.top.now ≡ i ∷ is → routine_of better m.top.routine ≡ routine_of low m.top.routine → b ≡ m.top → StepIs low better p (Related low better) m (with_parts b ds m)
      goes_alike i is now same top =
          subst (λ a. StepIs low better p (Related low better) m (with_parts a ds m)) (sym top)
          (moves [] i is is m m.top ds runs running now (now ∙ ap (λ j. j ∷ is) (sym (same_instruction i))) (finds_alike low better i (behind is m.top) same) waits fine)

      goes_idle : (live names : List ℕ) (registers : ℕ) (i : Instruction) (is : List Instruction) → m.top.now ≡ i ∷ is → NamesStand low better live names registers m.top b → b.now ≡ renamed_code names is → is_idle names i ≡ true → StepIs low better p (Related low better) m (with_parts b ds m)
      unfolding is_idle
      goes_idle live names registers (Const to n) is now stands left idle = absurd cc
      goes_idle live names registers (Address to symbol) is now stands left idle = absurd cc
      goes_idle live names registers (Local to offset) is now stands left idle = absurd cc
      goes_idle live names registers (Move to from) is now stands left idle = skips live names registers to from is m b ds runs running now stands left idle waits
      goes_idle live names registers (Alu op to l r) is now stands left idle = absurd cc
      goes_idle live names registers (AluImm op to l imm) is now stands left idle = absurd cc
      goes_idle live names registers (Shift op to l amount) is now stands left idle = absurd cc
      goes_idle live names registers (Load op to base offset) is now stands left idle = absurd cc
      goes_idle live names registers (Store op v base offset) is now stands left idle = absurd cc
      goes_idle live names registers (Call id call) is now stands left idle = absurd cc
      goes_idle live names registers (CallAt address call) is now stands left idle = absurd cc
      goes_idle live names registers (Branch op l r block) is now stands left idle = absurd cc
      goes_idle live names registers (Jump block) is now stands left idle = absurd cc
      goes_idle live names registers (Return v) is now stands left idle = absurd cc
      goes_idle live names registers Raise is now stands left idle = absurd cc
      goes_idle live names registers (Read to buffer size) is now stands left idle = absurd cc
      goes_idle live names registers (Write output buffer size) is now stands left idle = absurd cc
      goes_idle live names registers (Exit status) is now stands left idle = absurd cc

      goes_named : (live names : List ℕ) (registers : ℕ) (i : Instruction) (is : List Instruction) → m.top.now ≡ i ∷ is → NamesStand low better live names registers m.top b → (test : Bool) → is_idle names i ≡ test → StepIs low better p (Related low better) m (with_parts b ds m)
      unfolding renamed_code
      goes_named live names registers i is now stands true idle =
          goes_idle live names registers i is now stands (stands.now ∙ ap (renamed_code names) now ∙ ap (λ t. if t then renamed_code names is else renamed_instruction names i ∷ renamed_code names is) idle) idle
      goes_named live names registers i is now stands false idle =
          moves names i is (renamed_code names is) m b ds runs running now
          (stands.now ∙ ap (renamed_code names) now ∙ ap (λ t. if t then renamed_code names is else renamed_instruction names i ∷ renamed_code names is) idle)
          (finds_named low better live names registers i is m.top b stands now (renamed_code names is) refl (subst (λ code. list_all (is_valid_instruction low (routine_of low m.top.routine)) code ≡ true) now runs.top))
          waits fine

      goes : (now : List Instruction) → m.top.now ≡ now → Stands low better m.top b → StepIs low better p (Related low better) m (with_parts b ds m)
      goes [] now stands = absurd (fine (ap (λ s. s.ending) (step_is_bad low p m running now)))
      goes (i ∷ is) now (StandsAlike same top) = goes_alike i is now same top
      goes (i ∷ is) now (StandsNamed live names registers stands) = goes_named live names registers i is now stands (is_idle names i) refl

    ended : (m n : State) → RunsValid low m → EndsAlike m n → StepIs low better p (Related low better) m n
    ended m n runs ends =
        let looks = ends.looks in
        let over : n.ending ≡ Ended ends.status = looks.ending ∙ ends.ended in
        let one = cost_ended low p m ends.status ends.ended in
        let other = cost_ended better p n ends.status over in
        Moves
        (subst₂ (Related low better) (sym (step_stays low p m ends.status ends.ended)) (sym (step_stays better p n ends.status over)) (record { alike = BothEnded ends; valid = runs }))
        (omega arith)
        (shows_ended p n ends.status over ∙ sym (shows_ended p m ends.status ends.ended))

    steps_by : (m n : State) → RunsValid low m → Alike low better m n → (step low p m).ending ≢ Bad → StepIs low better p (Related low better) m n
    steps_by m n runs (BothGo g) fine =
        subst (StepIs low better p (Related low better) m) (sym g.same) (goes m runs fine g.running g.top g.callers g.waits m.top.now refl g.tops)
    steps_by m n runs (BothEnded e) fine = ended m n runs e

    looks_by : (m n : State) → Alike low better m n → LooksLike m n
    looks_by m n (BothGo g) = record { output = ap (λ s. s.output) g.same; errors = ap (λ s. s.errors) g.same; input = ap (λ s. s.input) g.same; ending = ap (λ s. s.ending) g.same }
    looks_by m n (BothEnded e) = e.looks

    pub leads : Leads low better p (Related low better)
    leads =
        record {
          alike = λ m n related. looks_by m n related.alike;
          steps = λ m n related not_bad fine. steps_by m n related.valid related.alike fine;
        }

    -- ---- from the beginning

    entry_fits : takes (slice_get low.routines low.entry.0) 0 ≡ true
    unfolding is_valid
    entry_fits = (and_parts _ _ valid).0

    entry_takes_nothing : (found : Option Routine) → takes found 0 ≡ true → 0 ≡ (routine_or found).parameters
    entry_takes_nothing None taken = absurd cc
    entry_takes_nothing (Some routine) taken = sym (eqb-true _ _ taken)

    module _ (bottom room : ℕ) (memory : ℕ → ℕ) (input : List ℕ) where
      begun : (entry locals : ℕ) → State
      begun entry locals =
          record {
            top = entered better entry [];
            callers = [];
            limit = bottom + locals;
            room = room - (locals + p.frame entry);
            memory = with_bytes memory bottom (replicate {A = ℕ} locals 0);
            input = input;
            output = [];
            errors = [];
            ending = Running;
          }

      pub starts : Related low better (start low p bottom room memory input) (start better p bottom room memory input)
      unfolding start begun
      starts =
          record {
            alike = BothGo (record {
              top = entered better low.entry.0 [];
              callers = [];
              same = ap (λ (e : ℕ). begun e (routine_of better e).locals) (ap (λ id. id.0) each.entry) ∙ ap (begun low.entry.0) (locals_stay low better each low.entry.0);
              running = refl;
              tops = enters low better each low.entry.0 [] (entry_takes_nothing (slice_get low.routines low.entry.0) entry_fits);
              waits = NoCallers;
            });
            valid = start_runs low p valid bottom room memory input;
          }

      pub renaming_shortens : NeverBad low p (start low p bottom room memory input) → Shortens low better p (start low p bottom room memory input) (start better p bottom room memory input)
      renaming_shortens never = shortens low better p (Related low better) leads (start low p bottom room memory input) (start better p bottom room memory input) starts never
