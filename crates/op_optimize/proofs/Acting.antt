-- What an instruction does under other names: it leads from states that stand for one another to such states.
use Rattle.std.proofs.Common.{◌≡◌, ◌≢◌, ℕ, suc, ◌+◌, ◌-◌, ◌%◌, ◌^◌, Bool, true, false, ◌&&◌, if◌then◌else◌, Option, Some, None, List, [], ◌∷◌, map, length, drop, replicate, nat_eq, nat_lt, nat_le, refl, ap, sym, ◌∙◌, subst, subst₂}
use Rattle.std.proofs.lemmas.Bool.{and_parts, eqb-true, eq-eqb, or_left, or_right}
use Rattle.std.specs.List.{list_any}
use Rattle.op_rv.specs.State.{with_bytes}
use Rattle.op_rv.specs.Operation.{alu_value, imm_value, shift_value, branch_taken, word_from}
use Rattle.op_rv.specs.Step.{offset_from}
use Rattle.op_rv.specs.declared.instruction.LoadOp.{LoadOp}
use Rattle.op_rv.specs.declared.instruction.StoreOp.{StoreOp}
use Rattle.op_rv.specs.declared.symbol.BlockId.{BlockId}
use Rattle.op_low.specs.Machine.{act, call, call_found, can_enter, entered, exit, left, load, raise_to, read, return_to, store, taken, write, written}
use Rattle.op_low.specs.State.{Activation, Bad, Caller, Ended, Placement, Running, State, at_block, bad, jump, keep, landed, routine_of, value, value_in, values, with_value}
use Rattle.op_low.specs.Valid.{leaves}
use Rattle.op_low.specs.declared.code.Low.{Low}
use Rattle.op_low.specs.declared.ids.VirtualRegister.{VirtualRegister}
use Rattle.op_low.specs.declared.instruction.Call.{Call as Operands}
use Rattle.op_low.specs.declared.instruction.Instruction.{Instruction}
use Rattle.op_low.specs.declared.instruction.Instruction.TheVariants.{Const, Address, Local, Move, Alu, AluImm, Shift, Load, Store, Call, CallAt, Branch, Jump, Return, Raise, Read, Write, Exit}
use Rattle.op_low.specs.declared.instruction.Output.{Output}
use Rattle.op_low.specs.declared.instruction.Output.TheVariants.{Console, Errors}
use Rattle.op_optimize.specs.Liveness.{other_block}
use Rattle.op_optimize.specs.Programs.{EachRoutine}
use Rattle.op_optimize.specs.Reading.{same, either, is_argument, reads, target_of}
use Rattle.op_optimize.specs.Renaming.{RenamesRoutine, renamed, renamed_call, renamed_instruction}
use Rattle.op_optimize.proofs.Naming.{IsMoved}
use Rattle.op_optimize.proofs.Standing.{Alike, BothEnded, BothGo, CallersStand, Finds, NoCallers, OneCaller, Stands, each_many, enters, locals_stay, parameters_stay, with_parts}

-- ---- tests

pub map_length : (f : VirtualRegister → VirtualRegister) (xs : List VirtualRegister) → length (map f xs) ≡ length xs
map_length f [] = refl
map_length f (x ∷ xs) = ap suc (map_length f xs)

values_length : (m : State) (xs : List VirtualRegister) → length (values m xs) ≡ length xs
values_length m [] = refl
values_length m (x ∷ xs) = ap suc (values_length m xs)

module _ (low better : Low) (p : Placement) (each : EachRoutine RenamesRoutine low better) (names : List ℕ) where
  if_alike : (test : Bool) (m n s t : State) → Alike low better s t → (if test then s else bad m).ending ≢ Bad → Alike low better (if test then s else bad m) (if test then t else bad n)
  if_alike true m n s t alike fine = alike
  if_alike false m n s t alike fine = absurd (fine refl)

  if_both : (test other : Bool) (m n s t : State) → other ≡ test → (test ≡ true → Alike low better s t) → (if test then s else bad m).ending ≢ Bad → Alike low better (if test then s else bad m) (if other then t else bad n)
  if_both true true m n s t e alike fine = alike refl
  if_both true false m n s t e alike fine = absurd cc
  if_both false other m n s t e alike fine = absurd (fine refl)

  choose : (test other : Bool) (s t u v : State) → other ≡ test → Alike low better s t → Alike low better u v → Alike low better (if test then s else u) (if other then t else v)
  choose true true s t u v e first second = first
  choose true false s t u v e first second = absurd cc
  choose false true s t u v e first second = absurd cc
  choose false false s t u v e first second = second

  same_values : (m : State) (b : Activation) (ds : List Caller) (xs : List VirtualRegister) → ((r : VirtualRegister) → list_any (λ a. same a r) xs ≡ true → value_in b.registers (renamed names r) ≡ value m r) → values (with_parts b ds m) (map (renamed names) xs) ≡ values m xs
  same_values m b ds [] has = refl
  same_values m b ds (x ∷ xs) has =
      let first : value_in b.registers (renamed names x) ≡ value m x = has x (or_left (same x x) _ (eq-eqb x.0 x.0 refl)) in
      let rest = same_values m b ds xs (λ r is. has r (or_right (same x r) _ is)) in
      ap (λ v. v ∷ values (with_parts b ds m) (map (renamed names) xs)) first ∙ ap (λ vs. value m x ∷ vs) rest

  module _ (i : Instruction) (m : State) (b : Activation) (ds : List Caller) (running : m.ending ≡ Running) (finds : Finds low better names i m.top b) (waits : CallersStand low better m.callers ds) where
    -- memory and input may be others
    keeps : (memory : ℕ → ℕ) (input : List ℕ) (to : VirtualRegister) (v w : ℕ) → w ≡ v → target_of i ≡ Some to → IsMoved i m.top.registers v → Alike low better (keep to v (record m { memory = memory; input = input })) (keep (renamed names to) w (with_parts b ds (record m { memory = memory; input = input })))
    keeps memory input to v w e target moved =
        BothGo
        (record {
          top = with_value (renamed names to) w b;
          callers = ds;
          same = refl;
          running = running;
          tops = subst (λ x. Stands low better (with_value to v m.top) (with_value (renamed names to) x b)) (sym e) (finds.written to v target moved);
          waits = waits;
        })

    -- memory and what was written may be others
    stays : (memory : ℕ → ℕ) (output errors : List ℕ) → target_of i ≡ None → leaves i ≡ false → Alike low better (record m { memory = memory; output = output; errors = errors }) (with_parts b ds (record m { memory = memory; output = output; errors = errors }))
    stays memory output errors none goes =
        BothGo (record { top = b; callers = ds; same = refl; running = running; tops = finds.goes_on none goes; waits = waits })

    jumps_on : (block : BlockId) → other_block i ≡ Some block → Alike low better (jump low block m) (jump better block (with_parts b ds m))
    jumps_on block other =
        BothGo (record { top = at_block better block b; callers = ds; same = refl; running = running; tops = finds.jumps block other; waits = waits })

    loads : (op : LoadOp) (to : VirtualRegister) (at there : ℕ) → there ≡ at → target_of i ≡ Some to → ((v : ℕ) → IsMoved i m.top.registers v) → (load p op to at m).ending ≢ Bad → Alike low better (load p op to at m) (load p op (renamed names to) there (with_parts b ds m))
    unfolding load
    loads op to at there e target moved fine =
        subst (λ x. Alike low better (load p op to at m) (load p op (renamed names to) x (with_parts b ds m))) (sym e)
        (if_alike _ m (with_parts b ds m) _ _ (keeps m.memory m.input to _ _ refl target (moved _)) fine)

    stores : (op : StoreOp) (v w at there : ℕ) → w ≡ v → there ≡ at → target_of i ≡ None → leaves i ≡ false → (store p op v at m).ending ≢ Bad → Alike low better (store p op v at m) (store p op w there (with_parts b ds m))
    unfolding store
    stores op v w at there same_value e none goes fine =
        subst₂ (λ x y. Alike low better (store p op v at m) (store p op x y (with_parts b ds m))) (sym same_value) (sym e)
        (if_alike _ m (with_parts b ds m) _ _ (stays _ m.output m.errors none goes) fine)

    reads_in : (to : VirtualRegister) (at there size many : ℕ) → there ≡ at → many ≡ size → target_of i ≡ Some to → ((v : ℕ) → IsMoved i m.top.registers v) → (read p to at size m).ending ≢ Bad → Alike low better (read p to at size m) (read p (renamed names to) there many (with_parts b ds m))
    unfolding read
    reads_in to at there size many e same_size target moved fine =
        subst₂ (λ x y. Alike low better (read p to at size m) (read p (renamed names to) x y (with_parts b ds m))) (sym e) (sym same_size)
        (if_alike _ m (with_parts b ds m) _ _ (keeps (with_bytes m.memory at (taken size m)) (drop size m.input) to _ _ refl target (moved _)) fine)

    written_out : (output : Output) (bytes : List ℕ) → target_of i ≡ None → leaves i ≡ false → Alike low better (written output bytes m) (written output bytes (with_parts b ds m))
    written_out Console bytes none goes = stays m.memory _ m.errors none goes
    written_out Errors bytes none goes = stays m.memory m.output _ none goes

    writes_out : (output : Output) (at there size many : ℕ) → there ≡ at → many ≡ size → target_of i ≡ None → leaves i ≡ false → (write p output at size m).ending ≢ Bad → Alike low better (write p output at size m) (write p output there many (with_parts b ds m))
    unfolding write
    writes_out output at there size many e same_size none goes fine =
        subst₂ (λ x y. Alike low better (write p output at size m) (write p output x y (with_parts b ds m))) (sym e) (sym same_size)
        (if_alike _ m (with_parts b ds m) _ _ (written_out output _ none goes) fine)

    ends : (status other : ℕ) → other ≡ status → Alike low better (exit status m) (exit other (with_parts b ds m))
    ends status other e =
        BothEnded
        (record {
          status = status % 2 ^ 8;
          ended = refl;
          looks = record { output = refl; errors = refl; input = refl; ending = ap (λ v. Ended (v % 2 ^ 8)) e };
        })

    -- ---- calls

    lands_on : (landing : Option BlockId) → other_block i ≡ landing → Stands low better (landed low landing m.top) (landed better landing b)
    lands_on None other = finds.raises
    lands_on (Some block) other = finds.jumps block other

    same_entry : (r : ℕ) (arguments : List VirtualRegister) → can_enter better p r (length (map (renamed names) arguments)) (with_parts b ds m) ≡ can_enter low p r (length arguments) m
    same_entry r arguments =
        ap (λ k. nat_lt r k && nat_eq (length (map (renamed names) arguments)) (routine_of better r).parameters && nat_le ((routine_of better r).locals + p.frame r) m.room) (each_many _ _ each.routines)
        ∙ ap (λ k. nat_lt r (length low.routines) && nat_eq k (routine_of better r).parameters && nat_le ((routine_of better r).locals + p.frame r) m.room) (map_length (renamed names) arguments)
        ∙ ap (λ k. nat_lt r (length low.routines) && nat_eq (length arguments) k && nat_le ((routine_of better r).locals + p.frame r) m.room) (parameters_stay low better each r)
        ∙ ap (λ k. nat_lt r (length low.routines) && nat_eq (length arguments) (routine_of low r).parameters && nat_le (k + p.frame r) m.room) (locals_stay low better each r)

    begun : (r : ℕ) (operands : Operands) → Activation → (locals : ℕ) → State
    begun r operands top locals =
        record m {
          top = top;
          callers = record { activation = b; to = renamed names operands.to; landing = operands.landing } ∷ ds;
          limit = m.limit + locals;
          room = m.room - (locals + p.frame r);
          memory = with_bytes m.memory m.limit (replicate {A = ℕ} locals 0);
        }

    calls : (r : ℕ) (operands : Operands) → target_of i ≡ Some operands.to → other_block i ≡ operands.landing → ((v : ℕ) → IsMoved i m.top.registers v) → ((x : VirtualRegister) → is_argument operands x ≡ true → value_in b.registers (renamed names x) ≡ value m x) → (call low p r operands m).ending ≢ Bad → Alike low better (call low p r operands m) (call better p r (renamed_call names operands) (with_parts b ds m))
    unfolding call renamed_call begun is_argument
    calls r operands target other moved has fine =
        if_both (can_enter low p r (length operands.arguments) m) (can_enter better p r (length (map (renamed names) operands.arguments)) (with_parts b ds m)) m (with_parts b ds m) _ _ (same_entry r operands.arguments)
        (λ test.
        let many : length (values m operands.arguments) ≡ (routine_of low r).parameters = values_length m operands.arguments ∙ eqb-true _ _ (and_parts _ _ (and_parts _ _ test).0).1 in
        BothGo
        (record {
          top = entered better r (values (with_parts b ds m) (map (renamed names) operands.arguments));
          callers = record { activation = b; to = renamed names operands.to; landing = operands.landing } ∷ ds;
          same = ap (begun r operands (entered better r (values (with_parts b ds m) (map (renamed names) operands.arguments)))) (locals_stay low better each r);
          running = running;
          tops = subst (λ vs. Stands low better (entered low r (values m operands.arguments)) (entered better r vs)) (sym (same_values m b ds operands.arguments has)) (enters low better each r (values m operands.arguments) many);
          waits = OneCaller (record { back = λ v. finds.written operands.to v target (moved v); lands = lands_on operands.landing other }) waits;
        }))
        fine

    calls_found : (r s : Option ℕ) (operands : Operands) → s ≡ r → target_of i ≡ Some operands.to → other_block i ≡ operands.landing → ((v : ℕ) → IsMoved i m.top.registers v) → ((x : VirtualRegister) → is_argument operands x ≡ true → value_in b.registers (renamed names x) ≡ value m x) → (call_found low p r operands m).ending ≢ Bad → Alike low better (call_found low p r operands m) (call_found better p s (renamed_call names operands) (with_parts b ds m))
    calls_found None s operands e target other moved has fine = absurd (fine refl)
    calls_found (Some r) s operands e target other moved has fine =
        subst (λ x. Alike low better (call_found low p (Some r) operands m) (call_found better p x (renamed_call names operands) (with_parts b ds m))) (sym e) (calls r operands target other moved has fine)

    -- ---- back to callers

    gone : Activation → List Caller → (routine locals : ℕ) → State
    gone top callers routine locals = record m { top = top; callers = callers; limit = m.limit - locals; room = m.room + (locals + p.frame routine) }

    lefts : (a c : Activation) (cs es : List Caller) → Stands low better a c → CallersStand low better cs es → Alike low better (left low p a cs m) (left better p c es (with_parts b ds m))
    unfolding gone
    lefts a c cs es stands rest =
        BothGo
        (record {
          top = c;
          callers = es;
          same = ap (λ r. gone c es r (routine_of better r).locals) finds.routine ∙ ap (gone c es m.top.routine) (locals_stay low better each m.top.routine);
          running = running;
          tops = stands;
          waits = rest;
        })

    returns_to : (v w : ℕ) (cs es : List Caller) → w ≡ v → CallersStand low better cs es → (return_to low p v cs m).ending ≢ Bad → Alike low better (return_to low p v cs m) (return_to better p w es (with_parts b ds m))
    returns_to v w [] [] e NoCallers fine = absurd (fine refl)
    returns_to v w [] (d ∷ es) e stands fine = absurd (fine refl)
    returns_to v w (c ∷ cs) [] e stands fine = elim stands [ ]
    returns_to v w (c ∷ cs) (d ∷ es) e (OneCaller first rest) fine =
        lefts _ _ cs es (subst (λ x. Stands low better (with_value c.to v c.activation) (with_value d.to x d.activation)) (sym e) (first.back v)) rest

    raises_to : (cs es : List Caller) → CallersStand low better cs es → (raise_to low p cs m).ending ≢ Bad → Alike low better (raise_to low p cs m) (raise_to better p es (with_parts b ds m))
    raises_to [] [] NoCallers fine = absurd (fine refl)
    raises_to [] (d ∷ es) stands fine = absurd (fine refl)
    raises_to (c ∷ cs) [] stands fine = elim stands [ ]
    raises_to (c ∷ cs) (d ∷ es) (OneCaller first rest) fine = lefts _ _ cs es first.lands rest

  -- ---- instructions

  either_first : (a b : VirtualRegister) → either a b a ≡ true
  either_first a b = or_left (same a a) (same b a) (eq-eqb a.0 a.0 refl)

  either_second : (a b : VirtualRegister) → either a b b ≡ true
  either_second a b = or_right (same a b) (same b b) (eq-eqb b.0 b.0 refl)

  itself : (a : VirtualRegister) → same a a ≡ true
  itself a = eq-eqb a.0 a.0 refl

  pub acts : (i : Instruction) (m : State) (b : Activation) (ds : List Caller) → m.ending ≡ Running → Finds low better names i m.top b → CallersStand low better m.callers ds → (act low p i m).ending ≢ Bad → Alike low better (act low p i m) (act better p (renamed_instruction names i) (with_parts b ds m))
  unfolding act renamed_instruction target_of reads leaves
  acts (Const to n) m b ds running finds waits fine = keeps (Const to n) m b ds running finds waits m.memory m.input to n n refl refl (λ r moved. absurd cc)
  acts (Address to symbol) m b ds running finds waits fine = keeps (Address to symbol) m b ds running finds waits m.memory m.input to _ _ refl refl (λ r moved. absurd cc)
  acts (Local to offset) m b ds running finds waits fine =
      let same_locals : (routine_of better b.routine).locals ≡ (routine_of low m.top.routine).locals = ap (λ r. (routine_of better r).locals) finds.routine ∙ locals_stay low better each m.top.routine in
      keeps (Local to offset) m b ds running finds waits m.memory m.input to _ _ (ap (λ k. m.limit - k + offset) same_locals) refl (λ r moved. absurd cc)
  acts (Move to from) m b ds running finds waits fine =
      keeps (Move to from) m b ds running finds waits m.memory m.input to _ _ (finds.operands from (itself from)) refl (λ r moved. ap m.top.registers (eqb-true from.0 r.0 moved))
  acts (Alu op to left right) m b ds running finds waits fine =
      keeps (Alu op to left right) m b ds running finds waits m.memory m.input to _ _
      (ap (λ v. alu_value op v (value_in b.registers (renamed names right))) (finds.operands left (either_first left right)) ∙ ap (alu_value op (value m left)) (finds.operands right (either_second left right)))
      refl (λ r moved. absurd cc)
  acts (AluImm op to left imm) m b ds running finds waits fine =
      keeps (AluImm op to left imm) m b ds running finds waits m.memory m.input to _ _ (ap (λ v. imm_value op v (word_from imm)) (finds.operands left (itself left))) refl (λ r moved. absurd cc)
  acts (Shift op to left amount) m b ds running finds waits fine =
      keeps (Shift op to left amount) m b ds running finds waits m.memory m.input to _ _ (ap (λ v. shift_value op v amount) (finds.operands left (itself left))) refl (λ r moved. absurd cc)
  acts (Load op to base offset) m b ds running finds waits fine =
      loads (Load op to base offset) m b ds running finds waits op to _ _ (ap (λ v. offset_from v offset) (finds.operands base (itself base))) refl (λ v r moved. absurd cc) fine
  acts (Store op v base offset) m b ds running finds waits fine =
      stores (Store op v base offset) m b ds running finds waits op _ _ _ _ (finds.operands v (either_first v base)) (ap (λ x. offset_from x offset) (finds.operands base (either_second v base))) refl refl fine
  acts (Call id operands) m b ds running finds waits fine =
      calls (Call id operands) m b ds running finds waits id.0 operands refl refl (λ v r moved. absurd cc) (λ x is. finds.operands x is) fine
  acts (CallAt address operands) m b ds running finds waits fine =
      calls_found (CallAt address operands) m b ds running finds waits _ _ operands (ap p.routine_at (finds.operands address (or_left (same address address) _ (itself address)))) refl refl (λ v r moved. absurd cc) (λ x is. finds.operands x (or_right (same address x) _ is)) fine
  acts (Branch op left right block) m b ds running finds waits fine =
      choose (branch_taken op (value m left) (value m right)) (branch_taken op (value_in b.registers (renamed names left)) (value_in b.registers (renamed names right))) _ _ _ _
      (ap (λ v. branch_taken op v (value_in b.registers (renamed names right))) (finds.operands left (either_first left right)) ∙ ap (branch_taken op (value m left)) (finds.operands right (either_second left right)))
      (jumps_on (Branch op left right block) m b ds running finds waits block refl)
      (stays (Branch op left right block) m b ds running finds waits m.memory m.output m.errors refl refl)
  acts (Jump block) m b ds running finds waits fine = jumps_on (Jump block) m b ds running finds waits block refl
  acts (Return v) m b ds running finds waits fine = returns_to (Return v) m b ds running finds waits _ _ m.callers ds (finds.operands v (itself v)) waits fine
  acts Raise m b ds running finds waits fine = raises_to Raise m b ds running finds waits m.callers ds waits fine
  acts (Read to buffer size) m b ds running finds waits fine =
      reads_in (Read to buffer size) m b ds running finds waits to _ _ _ _ (finds.operands buffer (either_first buffer size)) (finds.operands size (either_second buffer size)) refl (λ v r moved. absurd cc) fine
  acts (Write output buffer size) m b ds running finds waits fine =
      writes_out (Write output buffer size) m b ds running finds waits output _ _ _ _ (finds.operands buffer (either_first buffer size)) (finds.operands size (either_second buffer size)) refl refl fine
  acts (Exit status) m b ds running finds waits fine = ends (Exit status) m b ds running finds waits _ _ (finds.operands status (itself status))
