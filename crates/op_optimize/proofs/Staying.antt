-- A program and the one with simplified blocks: what an instruction does that stays.
use Rattle.std.proofs.Common.{◌≡◌, ◌≢◌, ℕ, ◌+◌, ◌-◌, ◌<◌, Bool, true, false, ◌&&◌, not, if◌then◌else◌, Option, Some, None, List, [], ◌∷◌, length, refl, ap, ap₂, sym, ◌∙◌, subst, subst₂, arith}
use Rattle.std.proofs.lemmas.Bool.{and_parts, eq-eqb, or_left, or_right, ltb-true}
use Rattle.std.proofs.lemmas.List.{get_or_past}
use Rattle.std.proofs.lemmas.Option.{same_Some}
use Rattle.op_rv.specs.Operation.{branch_taken, imm_value, shift_value, word_from}
use Rattle.op_rv.specs.Step.{offset_from}
use Rattle.op_rv.specs.declared.symbol.BlockId.{BlockId}
use Rattle.op_low.specs.Machine.{act, entered}
use Rattle.op_low.specs.State.{Activation, Bad, Caller, Placement, Running, State, at_block, block_of, keep, landed, routine_of, value, with_value}
use Rattle.op_low.specs.Valid.{is_valid_instruction, leaves}
use Rattle.op_low.specs.declared.code.Low.{Low}
use Rattle.op_low.specs.declared.ids.VirtualRegister.{VirtualRegister}
use Rattle.op_low.specs.declared.instruction.Call.{Call as Operands}
use Rattle.op_low.specs.declared.instruction.Instruction.{Instruction}
use Rattle.op_low.specs.declared.instruction.Instruction.TheVariants.{Const, Address, Local, Move, Alu, AluImm, Shift, Load, Store, Call, CallAt, Branch, Jump, Return, Raise, Read, Write, Exit}
use Rattle.op_optimize.specs.Contents.{content_of}
use Rattle.op_optimize.specs.Facts.{look_up, source, value_in}
use Rattle.op_optimize.specs.Liveness.{is_live, is_live_beyond, is_live_in, needs, other_block}
use Rattle.op_optimize.specs.Reading.{either, is_argument, reads, same, target_of}
use Rattle.op_optimize.specs.Rewriting.{map_call, map_call_at, map_one, map_two, operands_by, operands_of, rewritten, sources}
use Rattle.op_optimize.specs.Simplifying.{contents_behind, destination, facts_behind, known_by, last_written, left_out, may_go, may_write, or_nothing, plain_way, simplified, stays_as}
use Rattle.op_optimize.proofs.Actions.{Alike, CallersStand, Finds, calls, calls_found, choose, ends, jumps_on, keeps, loads, raises_to, reads_in, returns_to, stays, stores, with_parts, writes_out}
use Rattle.op_optimize.proofs.Emitting.{branch_does, moved_does, operation_does, source_means, sources_pass}
use Rattle.op_optimize.proofs.Facts.{at_another, content_value, knows_behind, meaning}
use Rattle.op_optimize.proofs.Needing.{needs_beyond, needs_read, raise_needs_nothing, reads_its_own}
use Rattle.op_optimize.proofs.Simplifications.{InBlock, Plans, Puts, behind, goes_clear, values_stay, values_written}

module _ (low better : Low) (p : Placement) (plans : Plans low better) where
  abbrev pub Stand : Activation → Activation → Type 0
  Stand a b = InBlock low better p.address plans a b

  -- ---- where code begins

  pub enters : (r : ℕ) (arguments : List ℕ) → length arguments ≡ (routine_of low r).parameters → Stand (entered low r arguments) (entered better r arguments)
  unfolding value_in look_up
  enters r arguments enough =
      let plan = plans r in
      let first = plan.blocks 0 in
      let few = plan.fits in
      record {
        routine = refl;
        way = first.way;
        nothing = first.nothing;
        facts = [];
        known = [];
        code = first.is;
        values = λ x less needed. refl;
        knows = tt;
        none = get_or_past arguments (routine_of low r).registers 0 (omega arith);
      }

  module _ (a b : Activation) (routine : b.routine ≡ a.routine) (none : b.registers (routine_of low a.routine).registers ≡ 0) where
    -- at a block that needs only what both have
    pub at_block_stands : (block : BlockId) → ((r : VirtualRegister) → r.0 < (routine_of low a.routine).registers → is_live (plans a.routine).live block r ≡ true → a.registers r.0 ≡ b.registers r.0) → Stand (at_block low block a) (at_block better block b)
    unfolding value_in look_up
    at_block_stands block same_values =
        let plan = plans a.routine in
        let there = plan.blocks block.0 in
        record {
          routine = routine;
          way = there.way;
          nothing = there.nothing;
          facts = [];
          known = [];
          code = there.is ∙ ap (λ k. Some (block_of better k block.0)) (sym routine);
          values = λ r less needed. same_values r less (plan.closed block.0 r less needed);
          knows = tt;
          none = none;
        }

    pub raises_stands : Stand (landed low None a) (landed better None b)
    unfolding simplified left_out stays_as may_go may_write rewritten target_of
    raises_stands = record {
      routine = routine;
      way = plain_way (routine_of low a.routine);
      nothing = refl;
      facts = [];
      known = [];
      code = refl;
      values = λ r less needed. let no = raise_needs_nothing (plans a.routine).live r in absurd cc;
      knows = tt;
      none = none;
    }

  -- ---- an instruction that stays

  both_true : (x y : Bool) (j : Instruction) (o : Option Instruction) → (if x && y then o else None) ≡ Some j → (x ≡ true) × (y ≡ true) × (o ≡ Some j)
  both_true true true j o is = (refl, refl, is)
  both_true true false j o is = absurd cc
  both_true false y j o is = absurd cc

  module _ (a b : Activation) (stands : InBlock low better p.address plans a b) (i : Instruction) (is js : List Instruction) (now : a.now ≡ i ∷ is) where
    live : List ℕ
    live = (plans a.routine).live

    abbrev registers : ℕ
    registers = (routine_of low a.routine).registers

    abbrev last : VirtualRegister
    last = or_nothing stands.way (last_written (plans a.routine).live stands.way is (target_of i))

    values_now : (r : VirtualRegister) → r.0 < registers → needs (plans a.routine).live (i ∷ is) r ≡ true → a.registers r.0 ≡ meaning b.registers (value_in stands.facts r)
    values_now r less needed = stands.values r less (ap (λ code. needs (plans a.routine).live code r) now ∙ needed)

    module _ (goes : may_go (plans a.routine).live stands.facts i ≡ true) (may : may_write (plans a.routine).live stands.way stands.facts is (target_of i) ≡ true) (rest : simplified (plans a.routine).live stands.way (facts_behind (plans a.routine).live stands.way stands.facts is (target_of i)) (contents_behind (plans a.routine).live stands.way stands.known i is) is ≡ Some js) where
      stays_written : (o : Option VirtualRegister) → target_of i ≡ o → (to : VirtualRegister) (v : ℕ) → o ≡ Some to → Puts p.address i v → Stand (with_value to v (behind is a)) (with_value (or_nothing stands.way (last_written (plans a.routine).live stands.way is o)) v (behind js b))
      unfolding may_write contents_behind
      stays_written None target to v is_to puts = absurd cc
      stays_written (Some t) target to v is_to puts =
          let t_is : t ≡ to = same_Some _ _ is_to in
          let written : may_write (plans a.routine).live stands.way stands.facts is (Some t) ≡ true = ap (may_write (plans a.routine).live stands.way stands.facts is) (sym target) ∙ may in
          subst (λ x. Stand (with_value x v (behind is a)) (with_value (destination (plans a.routine).live stands.way is t) v (behind js b))) t_is
          (record {
            routine = stands.routine;
            way = stands.way;
            nothing = stands.nothing;
            facts = facts_behind (plans a.routine).live stands.way stands.facts is (Some t);
            known = known_by stands.known i (Some (destination (plans a.routine).live stands.way is t));
            code =
                ap₂ (λ fs ks. simplified (plans a.routine).live stands.way fs ks is)
                (ap (facts_behind (plans a.routine).live stands.way stands.facts is) (sym target))
                (ap (λ o. known_by stands.known i (last_written (plans a.routine).live stands.way is o)) (sym target))
                ∙ rest;
            values = values_written (plans a.routine).live i is stands.facts a.registers b.registers registers values_now stands.way t v target written;
            knows = knows_behind p.address b.registers (destination (plans a.routine).live stands.way is t) v i stands.known puts stands.knows;
            none = at_another b.registers (destination (plans a.routine).live stands.way is t) (record { 0 = registers }) v (apart written) ∙ stands.none;
          })
        where
          is_false : (x : Bool) → not x ≡ true → x ≡ false
          is_false true e = absurd cc
          is_false false e = refl

          apart : may_write (plans a.routine).live stands.way stands.facts is (Some t) ≡ true → same (destination (plans a.routine).live stands.way is t) (record { 0 = registers }) ≡ false
          apart written = ap (same (destination (plans a.routine).live stands.way is t)) (sym stands.nothing) ∙ is_false _ (and_parts _ _ written).0

      stays_behind : (o : Option VirtualRegister) → target_of i ≡ o → o ≡ None → leaves i ≡ false → Stand (behind is a) (behind js b)
      unfolding facts_behind contents_behind
      stays_behind (Some t) target none goes_on = absurd cc
      stays_behind None target none goes_on =
          record {
            routine = stands.routine;
            way = stands.way;
            nothing = stands.nothing;
            facts = stands.facts;
            known = stands.known;
            code =
                ap₂ (λ fs ks. simplified (plans a.routine).live stands.way fs ks is)
                (ap (facts_behind (plans a.routine).live stands.way stands.facts is) (sym target))
                (ap (λ o. known_by stands.known i (last_written (plans a.routine).live stands.way is o)) (sym target))
                ∙ rest;
            values = values_stay (plans a.routine).live i is stands.facts a.registers b.registers registers values_now target goes_on;
            knows = stands.knows;
            none = stands.none;
          }

      stays_lands : (landing : Option BlockId) → other_block i ≡ landing → Stand (landed low landing (behind is a)) (landed better landing (behind js b))
      unfolding is_live_beyond
      stays_lands None other = raises_stands (behind is a) (behind js b) stands.routine stands.none
      stays_lands (Some block) other =
          at_block_stands (behind is a) (behind js b) stands.routine stands.none block
          (λ r less is_live_there.
          let beyond : is_live_beyond (plans a.routine).live i r ≡ true = ap (λ o. is_live_in (plans a.routine).live o r) other ∙ is_live_there in
          values_now r less (needs_beyond (plans a.routine).live i is r beyond) ∙ ap (meaning b.registers) (goes_clear (plans a.routine).live i r stands.facts goes beyond))

      pub finds : Finds Stand low better i last (Puts p.address i) (behind is a) (behind js b)
      finds = record {
        routine = stands.routine;
        written = λ to v target puts. stays_written (target_of i) refl to v target puts;
        goes_on = λ none goes_on. stays_behind (target_of i) refl none goes_on;
        lands = stays_lands;
      }

      -- ---- instruction by instruction

      module _ (valid : is_valid_instruction low (routine_of low a.routine) i ≡ true) where
        has_nothing : b.registers stands.way.nothing.0 ≡ 0
        has_nothing = ap (λ (r : VirtualRegister). b.registers r.0) stands.nothing ∙ stands.none

        operand : (r : VirtualRegister) → reads i r ≡ true → a.registers r.0 ≡ meaning b.registers (value_in stands.facts r)
        operand r read = values_now r (ltb-true r.0 registers (reads_its_own (routine_of low a.routine) r low i valid read)) (needs_read (plans a.routine).live i is r read)

        read_from : (r s : VirtualRegister) → reads i r ≡ true → source stands.facts stands.way.nothing r ≡ Some s → b.registers s.0 ≡ a.registers r.0
        unfolding source
        read_from r s read is_s = source_means b.registers stands.way.nothing has_nothing (value_in stands.facts r) s is_s ∙ sym (operand r read)

  -- ---- what it does

  module _ (many : length better.routines ≡ length low.routines) where
    same_locals : (r : ℕ) → (routine_of better r).locals ≡ (routine_of low r).locals
    same_locals r = (plans r).locals

    same_parameters : (r : ℕ) → (routine_of better r).parameters ≡ (routine_of low r).parameters
    same_parameters r = (plans r).parameters

    map_one_is : (f : VirtualRegister → Instruction) (o : Option VirtualRegister) (j : Instruction) (Goal : Instruction → Type 0) → map_one f o ≡ Some j → ((a : VirtualRegister) → o ≡ Some a → Goal (f a)) → Goal j
    map_one_is f None j Goal is goal = absurd cc
    map_one_is f (Some a) j Goal is goal = subst Goal (same_Some _ _ is) (goal a refl)

    map_two_is : (f : VirtualRegister → VirtualRegister → Instruction) (o q : Option VirtualRegister) (j : Instruction) (Goal : Instruction → Type 0) → map_two f o q ≡ Some j → ((a b : VirtualRegister) → o ≡ Some a → q ≡ Some b → Goal (f a b)) → Goal j
    map_two_is f None q j Goal is goal = absurd cc
    map_two_is f (Some a) None j Goal is goal = absurd cc
    map_two_is f (Some a) (Some b) j Goal is goal = subst Goal (same_Some _ _ is) (goal a b refl refl)

    either_first : (a b : VirtualRegister) → either a b a ≡ true
    either_first a b = or_left (same a a) (same b a) (eq-eqb a.0 a.0 refl)

    either_second : (a b : VirtualRegister) → either a b b ≡ true
    either_second a b = or_right (same a b) (same b b) (eq-eqb b.0 b.0 refl)

    itself : (a : VirtualRegister) → same a a ≡ true
    itself a = eq-eqb a.0 a.0 refl

    module _ (m : State) (b : Activation) (ds : List Caller) (running : m.ending ≡ Running) (waits : CallersStand Stand low better m.callers ds) (stands : InBlock low better p.address plans m.top b) (is js : List Instruction) where
      abbrev pub here : State
      here = record m { top = behind is m.top }

      abbrev pub there : State
      there = with_parts (behind js b) ds (record m { top = behind is m.top })

      abbrev pub lasts : Instruction → VirtualRegister
      lasts i = or_nothing stands.way (last_written (plans m.top.routine).live stands.way is (target_of i))

      abbrev pub Goes : Instruction → Type 0
      Goes i = may_go (plans m.top.routine).live stands.facts i ≡ true

      abbrev pub May : Instruction → Type 0
      May i = may_write (plans m.top.routine).live stands.way stands.facts is (target_of i) ≡ true

      abbrev pub Rest : Instruction → Type 0
      Rest i = simplified (plans m.top.routine).live stands.way (facts_behind (plans m.top.routine).live stands.way stands.facts is (target_of i)) (contents_behind (plans m.top.routine).live stands.way stands.known i is) is ≡ Some js

      -- all that is asked of an instruction that stays
      pub record Stayed (i : Instruction) : Type 0 where
        pub now : m.top.now ≡ i ∷ is
        pub goes : Goes i
        pub may : May i
        pub rest : Rest i
        pub valid : is_valid_instruction low (routine_of low m.top.routine) i ≡ true

      found : (i : Instruction) → Stayed i → Finds Stand low better i (lasts i) (Puts p.address i) (behind is m.top) (behind js b)
      found i x = finds m.top b stands i is js x.now x.goes x.may x.rest

      holds : (i : Instruction) → Stayed i → (r : VirtualRegister) → reads i r ≡ true → m.top.registers r.0 ≡ meaning b.registers (value_in stands.facts r)
      holds i x r read = operand m.top b stands i is js x.now x.goes x.may x.rest x.valid r read

      reads_from : (i : Instruction) → Stayed i → (r s : VirtualRegister) → reads i r ≡ true → source stands.facts stands.way.nothing r ≡ Some s → b.registers s.0 ≡ m.top.registers r.0
      reads_from i x r s read is_s = read_from m.top b stands i is js x.now x.goes x.may x.rest x.valid r s read is_s

      nothing_there : b.registers stands.way.nothing.0 ≡ 0
      nothing_there = ap (λ (r : VirtualRegister). b.registers r.0) stands.nothing ∙ stands.none

      -- it puts a value in a register
      puts_it : (i : Instruction) (to : VirtualRegister) (v : ℕ) (j : Instruction) → Stayed i → target_of i ≡ Some to → Puts p.address i v → act low p i here ≡ keep to v here → act better p j there ≡ keep (lasts i) v there → Alike Stand low better (act low p i here) (act better p j there)
      puts_it i to v j x target puts does does_too =
          subst₂ (Alike Stand low better) (sym does) (sym does_too)
          (keeps low better p Stand enters same_locals same_parameters many i (lasts i) (Puts p.address i) here (behind js b) ds running (found i x) waits here.memory here.input to v v refl target puts)

      pub does : (i : Instruction) (j : Instruction) → Stayed i → rewritten stands.facts stands.way.nothing (lasts i) i ≡ Some j → (act low p i here).ending ≢ Bad → Alike Stand low better (act low p i here) (act better p j there)
      unfolding act rewritten target_of reads leaves content_of is_argument operands_of
      does (Const to n) j x is fine = puts_it (Const to n) to n j x refl (λ c e. ap (content_value p.address) (same_Some _ _ e)) refl (ap (λ k. act better p k there) (sym (same_Some _ _ is)))
      does (Address to symbol) j x is fine = puts_it (Address to symbol) to (p.address symbol) j x refl (λ c e. ap (content_value p.address) (same_Some _ _ e)) refl (ap (λ k. act better p k there) (sym (same_Some _ _ is)))
      does (Local to offset) j x is fine =
          puts_it (Local to offset) to _ j x refl (λ c e. absurd cc) refl
          (ap (λ k. act better p k there) (sym (same_Some _ _ is))
          ∙ ap (λ k. keep (lasts (Local to offset)) (m.limit - k + offset) there) (ap (λ r. (routine_of better r).locals) stands.routine ∙ same_locals m.top.routine))
      does (Move to from) j x is fine =
          puts_it (Move to from) to _ j x refl (λ c e. absurd cc) refl
          (moved_does better p there (lasts (Move to from)) (value_in stands.facts from) j (value here from) is (sym (holds (Move to from) x from (itself from))))
      does (Alu op to left right) j x is fine =
          puts_it (Alu op to left right) to _ j x refl (λ c e. absurd cc) refl
          (operation_does better p there (lasts (Alu op to left right)) stands.facts stands.way.nothing nothing_there op left right j (value here left) (value here right) is
          (sym (holds (Alu op to left right) x left (either_first left right))) (sym (holds (Alu op to left right) x right (either_second left right))))
      does (AluImm op to left imm) j x is fine =
          map_one_is (λ a. AluImm op (lasts (AluImm op to left imm)) a imm) (source stands.facts stands.way.nothing left) j (λ k. Alike Stand low better (act low p (AluImm op to left imm) here) (act better p k there)) is
          (λ a is_a. puts_it (AluImm op to left imm) to _ (AluImm op (lasts (AluImm op to left imm)) a imm) x refl (λ c e. absurd cc) refl (ap (λ v. keep (lasts (AluImm op to left imm)) (imm_value op v (word_from imm)) there) (reads_from (AluImm op to left imm) x left a (itself left) is_a)))
      does (Shift op to left amount) j x is fine =
          map_one_is (λ a. Shift op (lasts (Shift op to left amount)) a amount) (source stands.facts stands.way.nothing left) j (λ k. Alike Stand low better (act low p (Shift op to left amount) here) (act better p k there)) is
          (λ a is_a. puts_it (Shift op to left amount) to _ (Shift op (lasts (Shift op to left amount)) a amount) x refl (λ c e. absurd cc) refl (ap (λ v. keep (lasts (Shift op to left amount)) (shift_value op v amount) there) (reads_from (Shift op to left amount) x left a (itself left) is_a)))
      does (Load op to base offset) j x is fine =
          map_one_is (λ a. Load op (lasts (Load op to base offset)) a offset) (source stands.facts stands.way.nothing base) j (λ k. Alike Stand low better (act low p (Load op to base offset) here) (act better p k there)) is
          (λ a is_a. loads low better p Stand enters same_locals same_parameters many (Load op to base offset) (lasts (Load op to base offset)) (Puts p.address (Load op to base offset)) here (behind js b) ds running (found (Load op to base offset) x) waits op to _ _ (ap (λ v. offset_from v offset) (reads_from (Load op to base offset) x base a (itself base) is_a)) refl (λ v c e. absurd cc) fine)
      does (Store op v base offset) j x is fine =
          map_two_is (λ a c. Store op a c offset) (source stands.facts stands.way.nothing v) (source stands.facts stands.way.nothing base) j (λ k. Alike Stand low better (act low p (Store op v base offset) here) (act better p k there)) is
          (λ a c is_a is_c. stores low better p Stand enters same_locals same_parameters many (Store op v base offset) (lasts (Store op v base offset)) (Puts p.address (Store op v base offset)) here (behind js b) ds running (found (Store op v base offset) x) waits op _ _ _ _ (reads_from (Store op v base offset) x v a (either_first v base) is_a) (ap (λ y. offset_from y offset) (reads_from (Store op v base offset) x base c (either_second v base) is_c)) refl refl fine)
      does (Call id call) j x is fine = by_call (operands_of stands.facts stands.way.nothing call (lasts (Call id call))) refl is
        where
          by_call : (o : Option Operands) → operands_of stands.facts stands.way.nothing call (lasts (Call id call)) ≡ o → map_call (Call id) o ≡ Some j → Alike Stand low better (act low p (Call id call) here) (act better p j there)
          by_call None e is = absurd cc
          by_call (Some new) e is =
              passes (sources stands.facts stands.way.nothing call.arguments) refl e
            where
              passes : (q : Option (List VirtualRegister)) → sources stands.facts stands.way.nothing call.arguments ≡ q → operands_by call (lasts (Call id call)) q ≡ Some new → Alike Stand low better (act low p (Call id call) here) (act better p j there)
              passes None d is_new = absurd cc
              passes (Some arguments) d is_new =
                  let same_both = sources_pass m.top.registers b.registers stands.facts stands.way.nothing nothing_there call.arguments arguments (λ r there_is. holds (Call id call) x r there_is) d in
                  let is_j : Call id (record { arguments = arguments; to = lasts (Call id call); landing = call.landing }) ≡ j = ap (Call id) (same_Some _ _ is_new) ∙ same_Some _ _ is in
                  subst (λ k. Alike Stand low better (act low p (Call id call) here) (act better p k there)) is_j
                  (calls low better p Stand enters same_locals same_parameters many (Call id call) (lasts (Call id call)) (Puts p.address (Call id call)) here (behind js b) ds running (found (Call id call) x) waits id.0 call arguments same_both.0 same_both.1 refl refl (λ v c e. absurd cc) fine)
      does (CallAt address call) j x is fine = by_address (source stands.facts stands.way.nothing address) refl is
        where
          by_address : (q : Option VirtualRegister) → source stands.facts stands.way.nothing address ≡ q → map_call_at q (operands_of stands.facts stands.way.nothing call (lasts (CallAt address call))) ≡ Some j → Alike Stand low better (act low p (CallAt address call) here) (act better p j there)
          by_address None e is = absurd cc
          by_address (Some at) e is = by_call (operands_of stands.facts stands.way.nothing call (lasts (CallAt address call))) refl is
            where
              by_call : (o : Option Operands) → operands_of stands.facts stands.way.nothing call (lasts (CallAt address call)) ≡ o → map_call_at (Some at) o ≡ Some j → Alike Stand low better (act low p (CallAt address call) here) (act better p j there)
              by_call None d is = absurd cc
              by_call (Some new) d is = passes (sources stands.facts stands.way.nothing call.arguments) refl d
                where
                  passes : (q : Option (List VirtualRegister)) → sources stands.facts stands.way.nothing call.arguments ≡ q → operands_by call (lasts (CallAt address call)) q ≡ Some new → Alike Stand low better (act low p (CallAt address call) here) (act better p j there)
                  passes None g is_new = absurd cc
                  passes (Some arguments) g is_new =
                      let same_both = sources_pass m.top.registers b.registers stands.facts stands.way.nothing nothing_there call.arguments arguments (λ r there_is. holds (CallAt address call) x r (or_right (same address r) _ there_is)) g in
                      let is_j : CallAt at (record { arguments = arguments; to = lasts (CallAt address call); landing = call.landing }) ≡ j = ap (CallAt at) (same_Some _ _ is_new) ∙ same_Some _ _ is in
                      subst (λ k. Alike Stand low better (act low p (CallAt address call) here) (act better p k there)) is_j
                      (calls_found low better p Stand enters same_locals same_parameters many (CallAt address call) (lasts (CallAt address call)) (Puts p.address (CallAt address call)) here (behind js b) ds running (found (CallAt address call) x) waits _ _ call arguments (ap p.routine_at (reads_from (CallAt address call) x address at (or_left (same address address) _ (itself address)) e)) same_both.0 same_both.1 refl refl (λ v c e. absurd cc) fine)
      does (Branch op left right block) j x is fine =
          let there_is = branch_does b.registers stands.facts stands.way.nothing nothing_there op left right block j (value here left) (value here right) is (sym (holds (Branch op left right block) x left (either_first left right))) (sym (holds (Branch op left right block) x right (either_second left right))) in
          let f = found (Branch op left right block) x in
          subst (λ k. Alike Stand low better (act low p (Branch op left right block) here) (act better p k there)) (sym there_is.is)
          (choose low better p Stand enters same_locals same_parameters many (branch_taken op (value here left) (value here right)) (branch_taken there_is.op_of (b.registers there_is.left_of.0) (b.registers there_is.right_of.0)) _ _ _ _ there_is.taken
          (jumps_on low better p Stand enters same_locals same_parameters many (Branch op left right block) (lasts (Branch op left right block)) (Puts p.address (Branch op left right block)) here (behind js b) ds running (found (Branch op left right block) x) waits block block (f.lands (Some block) refl))
          (stays low better p Stand enters same_locals same_parameters many (Branch op left right block) (lasts (Branch op left right block)) (Puts p.address (Branch op left right block)) here (behind js b) ds running (found (Branch op left right block) x) waits m.memory m.output m.errors refl refl))
      does (Jump block) j x is fine =
          subst (λ k. Alike Stand low better (act low p (Jump block) here) (act better p k there)) (same_Some _ _ is)
          (jumps_on low better p Stand enters same_locals same_parameters many (Jump block) (lasts (Jump block)) (Puts p.address (Jump block)) here (behind js b) ds running (found (Jump block) x) waits block block ((found (Jump block) x).lands (Some block) refl))
      does (Return v) j x is fine =
          map_one_is Return (source stands.facts stands.way.nothing v) j (λ k. Alike Stand low better (act low p (Return v) here) (act better p k there)) is
          (λ a is_a. returns_to low better p Stand enters same_locals same_parameters many (Return v) (lasts (Return v)) (Puts p.address (Return v)) here (behind js b) ds running (found (Return v) x) waits _ _ m.callers ds (reads_from (Return v) x v a (itself v) is_a) waits fine)
      does Raise j x is fine =
          subst (λ k. Alike Stand low better (act low p Raise here) (act better p k there)) (same_Some _ _ is)
          (raises_to low better p Stand enters same_locals same_parameters many Raise (lasts Raise) (Puts p.address Raise) here (behind js b) ds running (found Raise x) waits m.callers ds waits fine)
      does (Read to buffer size) j x is fine =
          map_two_is (Read (lasts (Read to buffer size))) (source stands.facts stands.way.nothing buffer) (source stands.facts stands.way.nothing size) j (λ k. Alike Stand low better (act low p (Read to buffer size) here) (act better p k there)) is
          (λ a c is_a is_c. reads_in low better p Stand enters same_locals same_parameters many (Read to buffer size) (lasts (Read to buffer size)) (Puts p.address (Read to buffer size)) here (behind js b) ds running (found (Read to buffer size) x) waits to _ _ _ _ (reads_from (Read to buffer size) x buffer a (either_first buffer size) is_a) (reads_from (Read to buffer size) x size c (either_second buffer size) is_c) refl (λ v c e. absurd cc) fine)
      does (Write output buffer size) j x is fine =
          map_two_is (Write output) (source stands.facts stands.way.nothing buffer) (source stands.facts stands.way.nothing size) j (λ k. Alike Stand low better (act low p (Write output buffer size) here) (act better p k there)) is
          (λ a c is_a is_c. writes_out low better p Stand enters same_locals same_parameters many (Write output buffer size) (lasts (Write output buffer size)) (Puts p.address (Write output buffer size)) here (behind js b) ds running (found (Write output buffer size) x) waits output _ _ _ _ (reads_from (Write output buffer size) x buffer a (either_first buffer size) is_a) (reads_from (Write output buffer size) x size c (either_second buffer size) is_c) refl refl fine)
      does (Exit status) j x is fine =
          map_one_is Exit (source stands.facts stands.way.nothing status) j (λ k. Alike Stand low better (act low p (Exit status) here) (act better p k there)) is
          (λ a is_a. ends low better p Stand enters same_locals same_parameters many (Exit status) (lasts (Exit status)) (Puts p.address (Exit status)) here (behind js b) ds running (found (Exit status) x) waits _ _ (reads_from (Exit status) x status a (itself status) is_a))
