-- Primitives: their operands are put into registers, and a run-time routine does what is meant.
use Rattle.std.proofs.Common.{◌≡◌, ◌≤◌, ◌<◌, ℕ, zero, suc, ◌+◌, List, [], ◌∷◌, ◌++◌, length, Option, Some, None, refl, sym, ap, ap₂, ◌∙◌, subst, arith, ◌*◌, length-append, map, true, append_assoc, Bool}
use Rattle.std.specs.Prelude.{◌^◌, false, codes, nat_eq, replicate, slice_get, if◌then◌else◌, ℤ}
use Rattle.std.specs.List.{list_all, list_any}
use Rattle.std.proofs.lemmas.Bool.{and_parts}
use Rattle.std.proofs.lemmas.Bool.Decides.{nat_tests}
use Rattle.std.proofs.lemmas.List.{length-map}
use Rattle.op_agreement.proofs.HeapKept.{heap_below}
use Rattle.op_agreement.proofs.Branching.{begins_here, has_of, step_here}
use Rattle.op_agreement.proofs.Cases.{behind_act}
use Rattle.op_agreement.proofs.Charting.{live_stands}
use Rattle.op_agreement.proofs.Computing.{rest_above, rest_below, rest_stands, temporary_set, variables_kept}
use Rattle.op_agreement.proofs.Counting.{count_below}
use Rattle.op_agreement.proofs.Elements.{KeptBelow}
use Rattle.op_agreement.proofs.ErrorsEnd.{error_line, error_stands, limit_above, literal_there}
use Rattle.op_agreement.proofs.Following.{Comes}
use Rattle.op_agreement.proofs.Going.{Goes, goes_from, goes_none, goes_path, goes_then, goes_within, is_read}
use Rattle.op_agreement.proofs.Pricing.{afford, cost_is, heavy}
use Rattle.op_agreement.proofs.PrimitivesDo.{primitive_does, words_low}
use Rattle.op_agreement.proofs.Standing.{Next, SameVariables, Temporaries, here, kept_registers, stands_on}
use Rattle.op_agreement.proofs.Updating.{floors_here, limit_here}
use Rattle.op_agreement.specs.Chart.{AllLie, Floor, address_of, type_held}
use Rattle.op_agreement.specs.Coding.{code_for}
use Rattle.op_agreement.specs.Fitting.{IsFitting}
use Rattle.op_agreement.specs.Primitives.{CallFails, CallsTo, Does, DoesBy, StandFor, Words, listed}
use Rattle.op_agreement.specs.Settings.{AreLiterals, Setting, managed}
use Rattle.op_agreement.specs.Stands.{CallersStand, Stands, Stays}
use Rattle.op_agreement.specs.Steps.{most_for_one}
use Rattle.op_agreement.specs.Typed.{AreFine, IsLight, IsTypedOperand}
use Rattle.op_compute.proofs.Registers.{put_lower, put_same}
use Rattle.op_compute.specs.Bank.{register_of, scratch_of, work_of}
use Rattle.op_compute.specs.Meaning.{Gives as GivesNumber, IsWordOf}
use Rattle.op_compute.specs.Straight.{at, put}
use Rattle.op_compute.specs.declared.bank.Bank.{Bank}
use Rattle.op_constants.proofs.Distinct.{stands_at_number}
use Rattle.op_constants.proofs.Lying.{kept}
use Rattle.op_constants.proofs.TypesArranged.{type_is_arranged}
use Rattle.op_constants.specs.Lies.{arrangement_of}
use Rattle.op_constants.specs.Literals.{literals_of, operands_literals}
use Rattle.op_constants.specs.Texts.{number_of}
use Rattle.op_primitives.proofs.PrimitiveRows.{served}
use Rattle.op_expand.specs.Calls.{result_address}
use Rattle.op_primitives.specs.Primitives.{call_by, destination_register, operands_code, operands_passed, primitive_code}
use Rattle.op_places.specs.declared.frame.Frame.{Frame}
use Rattle.op_low.specs.Machine.{act, low_machine, cost, cost_by}
use Rattle.op_low.specs.State.{State}
use Rattle.op_low.specs.declared.ids.VirtualRegister.{VirtualRegister}
use Rattle.op_low.specs.declared.instruction.Call.{Call as Operands}
use Rattle.op_low.specs.declared.instruction.Instruction.{Instruction as LowInstruction}
use Rattle.op_low.specs.declared.instruction.Instruction.TheVariants.{Address, Call, Const}
use Rattle.op_meaning.specs.Actions.{perform}
use Rattle.op_meaning.specs.Errors.{failed}
use Rattle.op_meaning.specs.Primitives.{EachOperand, IsTaken, Outcome, Values, a_literal, gives, meaning, performed, signature, sort_of, values_of}
use Rattle.op_meaning.specs.Values.{Reached, reached, failing, and_then, Value, number as number_value, number_in}
use Rattle.op_meaning.specs.World.{World, number_at, written}
use Rattle.op_meaning.specs.declared.primitive.Primitive.{Primitive}
use Rattle.op_meaning.specs.declared.primitive.Sort.{Sort}
use Rattle.op_mir.specs.Code.{Instr}
use Rattle.op_mir.specs.Machine.{MirState, code_rules, execute, mir_step, mir_cost, mir_effort}
use Rattle.op_mir.specs.Valid.{action_fits, destination_fits, operand_fits}
use Rattle.op_mir.specs.View.{view_destination, view_operand}
use Rattle.op_mir.specs.declared.action.Action.TheVariants.{Do}
use Rattle.op_mir.specs.declared.action.Destination.{Destination}
use Rattle.op_mir.specs.declared.action.Destination.TheVariants.{Unused, InTemporary, InNew, IntoPlace, OverPlace}
use Rattle.op_mir.specs.declared.action.Operand.{Operand}
use Rattle.op_mir.specs.declared.action.Operand.TheVariants.{Number, Text, Literal}
use Rattle.op_mir.specs.declared.code.Mir.{Mir}
use Rattle.op_mir.specs.declared.code.Routine.{Routine}
use Rattle.op_mir.specs.declared.ids.BlockId.{BlockId}
use Rattle.op_mir.specs.declared.ids.TemporaryId.{TemporaryId}
use Rattle.op_mir.specs.declared.instruction.Instruction.{Instruction}
use Rattle.op_mir.specs.declared.instruction.Instruction.TheVariants.{Act}
use Rattle.op_rt_text.specs.Names.{call, literal, routine_id}
use Rattle.op_rt_text.specs.Running.{Called, HasRoom, HasTexts, StandsAt, all_written}
use Rattle.op_rv.specs.State.{bytes_from}
use Rattle.op_simulation.specs.System.{run, spent}

-- what writes in pieces does not read
pieces_unread : (pieces : List (List ℕ)) → list_any is_read (all_written pieces) ≡ false
pieces_unread [] = refl
pieces_unread (bytes ∷ pieces) = pieces_unread pieces

-- what is behind a call: output, and temporaries
abbrev called_world : List ℕ → (ℕ → ℤ) → World → World
called_world text temps w = record w { temps = temps; output = w.output ++ text }

module _ (g : Setting) (fit : IsFitting g) (m : MirState) (l : State) (floors : ℕ → Floor) (s : Stays g floors m l) where
  -- ---- what run-time routines ask for

  above_bottom : g.bottom ≤ l.limit
  above_bottom = limit_above g floors m.world.memory m.world.bound m.callers l.callers m.routine (l.top.registers result_address.0) l.limit l.room m.charged s.callers

  pub text_there : (k : State) → k.limit ≡ l.limit → k.memory ≡ l.memory → (id : ℕ) (text : List ℕ) → slice_get (literals_of g.core g.mir) id ≡ Some text → StandsAt g.placement k (g.placement.address (literal id)) text
  text_there k limit memory id text found =
      let stands = fit.placed.literals id text found in
      let below = stands.below in
      let above = above_bottom in
      record {
        readable = stands.readable;
        below = omega arith;
        stands = ap (λ mem. bytes_from mem (g.placement.address (literal id)) (length text)) memory ∙ (literal_there g l (g.placement.address (literal id)) text stands above s.fixed).1;
      }

  pub texts_there : (k : State) → k.limit ≡ l.limit → k.memory ≡ l.memory → HasTexts g.placement k
  texts_there k limit memory = record {
    blanks = text_there k limit memory 0 (replicate {A = ℕ} 64 32) refl;
    truth = text_there k limit memory 1 (codes "TRUE") refl;
    falsehood = text_there k limit memory 2 (codes "FALSE") refl;
  }

  pub room_there : (k : State) → k.limit ≡ l.limit → k.room ≡ l.room → HasRoom g.placement k 256
  room_there k limit room =
      let a = s.activation in
      let enough = a.enough in
      let top = a.top in
      let end = fit.placed.top in
      let above = above_bottom in
      record {
        room = omega arith;
        words = omega arith;
        readable = λ x from to. fit.placed.readable x (omega arith) (omega arith);
        writable = λ x from to. fit.placed.writable x (omega arith) (omega arith);
      }

  -- ---- what is kept where memory behind the limit, and the output, have changed

  pub stays_called : (text : List ℕ) (temps : ℕ → ℤ) (rest : List Instr) (h : ℕ → ℕ) (now : List LowInstruction) (memory : ℕ → ℕ) → ((x : ℕ) → x < l.limit → memory x ≡ l.memory x) → SameVariables (here m floors) l.top.registers h → Temporaries (here m floors) temps h → Stays g floors (record m { world = called_world text temps m.world; work = rest }) (record (at l h now) { memory = memory; output = l.output ++ text })
  stays_called text temps rest h now memory kept_memory same are =
      let a = s.activation in
      let fits = a.floor.fits in
      let behind = fits.behind in
      let zeroth : h 0 ≡ l.top.registers 0 = same 0 (omega arith) in
      let first : h 1 ≡ l.top.registers 1 = same 1 (omega arith) in
      record {
        running = refl;
        plain = record { raised = s.plain.raised; made = s.plain.made; waiting = s.plain.waiting };
        pending = s.pending;
        depth = s.depth;
        activation = record {
          floor = a.floor;
          number = a.number;
          same = a.same;
          kept = kept_registers g floors (length m.callers) m.world.memory m.world.bound m.world.temps temps l.top.registers h fits same are a.kept;
          left = ap (λ x. x + m.charged) zeroth ∙ a.left;
          base = a.base;
          enough = subst (λ x. x + 1024 ≤ l.room) (sym zeroth) a.enough;
          top = a.top;
        };
        callers = subst (λ x. CallersStand g floors m.world.memory m.world.bound m.callers l.callers m.routine x l.limit l.room m.charged) (sym first) s.callers;
        lie = λ x live. lies x live;
        fixed = λ x low fixed. let above = above_bottom in kept_memory x (omega arith) ∙ s.fixed x low fixed;
        heap = heap_below g fit l.memory memory (λ x low. let above = above_bottom in kept_memory x (omega arith)) s.heap;
        due = count_below g fit (length m.pending) l.memory memory (λ x low. let above = above_bottom in kept_memory x (omega arith)) s.due;
        bytes = λ x low. subst (λ b. b < 2 ^ 8) (sym (kept_memory x low)) (s.bytes x low);
        output = ap (λ x. x ++ text) s.output;
        errors = s.errors;
        input = s.input;
      }
    where
      lies : AllLie g floors (length m.callers) m.world.memory memory
      lies h live =
          let stands = live_stands g fit floors (length m.callers) l.limit (floors_here g fit floors m l s) (limit_here g fit floors m l s) h live in
          let arranged = type_is_arranged g.core fit.program.extents (type_held g.core floors h) stands.small in
          let size = arranged.size in
          let below = stands.below in
          kept (arrangement_of g.core (type_held g.core floors h)) (m.world.memory h) l.memory memory (address_of g floors h) arranged.arranged (λ x from to. kept_memory x (omega arith)) (s.lie h live)

module _ (g : Setting) (fit : IsFitting g) (m : MirState) (l : State) (floors : ℕ → Floor) (i : Instruction) (is : List Instruction) (next : Next g m l floors i is) where
  abbrev rest : List LowInstruction
  rest = rest_below g m l floors i is next

  abbrev operands : List VirtualRegister → VirtualRegister → Operands
  operands arguments to = record { arguments = arguments; to = to; landing = None }

  abbrev calls : (ℕ → ℕ) → (number : ℕ) → List VirtualRegister → VirtualRegister → State
  calls f number arguments to = at l f (Call (routine_id number) (operands arguments to) ∷ rest)

  -- a call takes a step
  at_least : (f : ℕ → ℕ) (number : ℕ) (arguments : List VirtualRegister) (to : VirtualRegister) (k : State) (n : ℕ) → k.top.now ≡ rest → run (low_machine g.low g.placement) n (calls f number arguments to) ≡ k → 1 ≤ n
  unfolding run
  at_least f number arguments to k zero now ends =
      let same : suc (length rest) ≡ length rest = ap (λ (x : State). length x.top.now) ends ∙ ap length now in
      absurd (omega arith)
  at_least f number arguments to k (suc n) now ends = omega arith

  abbrev above : List ℕ → (ℕ → ℤ) → MirState
  above text temps = record m { world = called_world text temps m.world; work = rest_above g m l floors i is next }

  -- what is written is paid for
  called_costs : (IsLight i → ⊥) → (text : List ℕ) (temps : ℕ → ℤ) → mir_step (managed g) m ≡ above text temps → 16 + (512 + length text) ≤ most_for_one * mir_cost (managed g) m
  called_costs light text temps step =
      let paid = (heavy g fit m l floors i is next light).least in
      let cost : mir_cost (managed g) m ≡ mir_effort (managed g) m (above text temps) = cost_is g fit m l floors i is next ∙ ap (mir_effort (managed g) m) step in
      let long = length-append m.world.output text in
      omega arith

  -- the call, behind other code, does what managed code does
  called_comes : (f : ℕ → ℕ) (number : ℕ) (arguments : List VirtualRegister) (to : VirtualRegister) (text : List ℕ) (temps : ℕ → ℤ) {IsValue : ℕ → Type 0} → Goes g 0 16 l (calls f number arguments to) → (IsLight i → ⊥) → (done : CallsTo g.low g.placement (calls f number arguments to) (operands arguments to) rest IsValue text l.memory (512 + length text)) → SameVariables (here m floors) l.top.registers (λ r. if nat_eq r to.0 then done.value else f r) → Temporaries (here m floors) temps (λ r. if nat_eq r to.0 then done.value else f r) → AreFine g.core g.mir (here m floors).number (here m floors).routine is → mir_step (managed g) m ≡ above text temps → Comes g m l
  called_comes f number arguments to text temps goes light done same are fine step =
      let h = λ (r : ℕ). if nat_eq r to.0 then done.value else f r in
      let k : State = record (at l h rest) { memory = done.memory; output = l.output ++ text } in
      let some = at_least f number arguments to k done.steps refl done.path.ends in
      let call_goes : Goes g 1 (512 + length text) (calls f number arguments to) k = goes_path g done.steps 1 (512 + length text) (calls f number arguments to) k some done.path (pieces_unread done.pieces) in
      record {
        to = k;
        goes = goes_within g 1 (most_for_one * mir_cost (managed g) m) l k (goes_then g 0 1 1 l (calls f number arguments to) k (omega arith) goes call_goes) (called_costs light text temps step);
        stands = subst (λ x. Stands g x k) (sym step) (stands_on g (above text temps) k next.ending next.frames (record {
          floors = floors;
          stays = stays_called g fit m l floors next.stays text temps (rest_above g m l floors i is next) h rest done.memory done.same same are;
          position = rest_stands g m l floors i is next fine;
        }));
      }

  -- the call, behind other code, ends the program with the error that managed code ends with
  failed_comes : (f : ℕ → ℕ) (number : ℕ) (arguments : List VirtualRegister) (to : VirtualRegister) (error : ℕ) → Goes g 0 16 l (calls f number arguments to) → (IsLight i → ⊥) → CallFails g.low g.placement (calls f number arguments to) error 512 → mir_step (managed g) m ≡ record m { world = failed g.core error m.world; work = rest_above g m l floors i is next } → Comes g m l
  failed_comes f number arguments to error goes light fails step =
      let s = next.stays in
      let call_goes : Goes g 1 512 (calls f number arguments to) fails.to = goes_path g fails.steps 1 512 (calls f number arguments to) fails.to fails.some fails.path fails.unread in
      record {
        to = fails.to;
        goes = goes_within g 1 (most_for_one * mir_cost (managed g) m) l fails.to (goes_then g 0 1 1 l (calls f number arguments to) fails.to (omega arith) goes call_goes) (afford g fit m l floors i is next light (16 + 512) (omega arith));
        stands = subst (λ x. Stands g x fails.to) (sym step) (error_stands g fit (record m { work = rest_above g m l floors i is next }) error fails.to fails.ending (fails.output ∙ s.output) (fails.errors ∙ ap (λ x. x ++ error_line error) s.errors) (fails.input ∙ s.input));
      }

  -- ---- what a routine does that is called

  abbrev bank : Bank
  bank = (here m floors).frame.bank

  abbrev performs : (sort : Option Sort) → Destination → Reached (Outcome sort) → MirState
  performs sort to o = record m { world = performed g.core (view_destination to) o m.world; work = rest_above g m l floors i is next }

  pub outcome_comes : (f : ℕ → ℕ) (number : ℕ) (arguments : List VirtualRegister) (to : Destination) (sort : Option Sort) (o : Reached (Outcome sort)) → sort ≡ None → IsTaken sort (view_destination to) → KeptBelow bank.scratch l.top.registers f → Goes g 0 16 l (calls f number arguments (destination_register (here m floors).frame to)) → (IsLight i → ⊥) → Does g.low g.placement (calls f number arguments (destination_register (here m floors).frame to)) (operands arguments (destination_register (here m floors).frame to)) rest sort o → AreFine g.core g.mir (here m floors).number (here m floors).routine is → mir_step (managed g) m ≡ performs sort to o → Comes g m l
  outcome_comes f number arguments to sort (failing error) nothing taken kept_f goes light does fine step =
      failed_comes f number arguments (destination_register (here m floors).frame to) error goes light does step
  outcome_comes f number arguments to (Some sort) (reached o) nothing taken kept_f goes light does fine step = absurd cc
  outcome_comes f number arguments (InTemporary t) None (reached o) nothing taken kept_f goes light does fine step = absurd taken
  outcome_comes f number arguments (InNew of n) None (reached o) nothing taken kept_f goes light does fine step = absurd taken
  outcome_comes f number arguments (IntoPlace of to old) None (reached o) nothing taken kept_f goes light does fine step = absurd taken
  outcome_comes f number arguments (OverPlace to) None (reached o) nothing taken kept_f goes light does fine step = absurd taken
  outcome_comes f number arguments Unused None (reached o) nothing taken kept_f goes light does fine step =
      let a = next.stays.activation in
      let to = scratch_of bank 0 in
      let scratch = a.floor.fits.scratch in
      let kept_h : KeptBelow bank.scratch l.top.registers (λ r. if nat_eq r to.0 then does.value else f r) = λ r low. let t : nat_eq r to.0 ≡ false = grind (arith, nat_tests) in ap (λ b. if b then does.value else f r) t ∙ kept_f r low in
      called_comes f number arguments to o.bytes m.world.temps goes light does (λ r low. kept_h r (omega arith))
      (λ t low. subst (λ x. IsWordOf x (m.world.temps t)) (sym (kept_h (bank.temporaries + t) (omega arith))) (a.kept.temporaries t low)) fine step

-- ---- operands

number_there : (mir : Mir) (x : Routine) (t : TemporaryId) → operand_fits mir x (Number t) ≡ true → t.0 < x.temporaries
unfolding operand_fits
number_there mir x t is = has_of x t is

module _ (g : Setting) (fit : IsFitting g) (m : MirState) (l : State) (floors : ℕ → Floor) (s : Stays g floors m l) where
  abbrev frame : Frame
  frame = (here m floors).frame

  abbrev texts : List (List ℕ)
  texts = literals_of g.core g.mir

  -- the operands are in registers, as words that stand for their values
  pub record Passed (sorts : List Sort) (h : ℕ → ℕ) (used : ℕ) (os : List Operand) : Type 0 where
    pub values : Values sorts
    pub are : (held : ℕ → ℕ) → values_of held m.world sorts (map view_operand os) ≡ reached values
    pub words : Words sorts
    pub stand : (k : State) → k.limit ≡ l.limit → k.memory ≡ l.memory → StandFor g.placement k sorts values words
    pub passed : map (λ (r : VirtualRegister). h r.0) (operands_passed frame used os) ≡ listed sorts values words

  pub record Passes (f : ℕ → ℕ) (used : ℕ) (os : List Operand) (rest : List LowInstruction) : Type 0 where
    pub registers : ℕ → ℕ
    pub goes : Goes g 0 (2 * length os) (at l f (operands_code frame texts used os ++ rest)) (at l registers rest)
    pub kept : KeptBelow (frame.bank.scratch + used) f registers
    pub passed : Passed (map sort_of (map view_operand os)) registers used os

  two_put : (f : ℕ → ℕ) (used id size : ℕ) (now : List LowInstruction) → Goes g 0 2 (at l f (Address (scratch_of frame.bank used) (literal id) ∷ Const (scratch_of frame.bank (used + 1)) size ∷ now)) (at l (put (put f (scratch_of frame.bank used) (g.placement.address (literal id))) (scratch_of frame.bank (used + 1)) size) now)
  unfolding act put run Rattle.op_low.specs.Machine.step Rattle.op_low.specs.Machine.step_by_ending Rattle.op_low.specs.Machine.done spent cost cost_by Rattle.op_simulation.specs.System.trace Rattle.op_low.specs.Machine.shows Rattle.op_low.specs.Machine.shown_by
  two_put f used id size now = record { steps = 2; enough = omega arith; within = omega arith; ends = refl; unread = refl }

  operands_pass : (f : ℕ → ℕ) (used : ℕ) (os : List Operand) (rest : List LowInstruction) → list_all (operand_fits g.mir (here m floors).routine) os ≡ true → AreLiterals texts (operands_literals os) → EachOperand IsTypedOperand (map view_operand os) → KeptBelow frame.bank.scratch l.top.registers f → Passes f used os rest
  operands_pass f used [] rest has literals typed kept_f = record {
    registers = f;
    goes = goes_within g 0 0 (at l f rest) (at l f rest) (goes_none g (at l f rest)) (omega arith);
    kept = λ r low. refl;
    passed = record { values = tt; are = λ held. refl; words = tt; stand = λ k limit memory. tt; passed = refl };
  }
  operands_pass f used (Number t ∷ os) rest has literals typed kept_f =
      let (first, others) = and_parts (operand_fits g.mir (here m floors).routine (Number t)) (list_all (operand_fits g.mir (here m floors).routine) os) has in
      let low : t.0 < (here m floors).routine.temporaries = number_there g.mir (here m floors).routine t first in
      let scratch = s.activation.floor.fits.scratch in
      let rec = operands_pass f (used + 0) os rest others literals typed.1 kept_f in
      let same : rec.registers (register_of frame.bank t).0 ≡ l.top.registers (register_of frame.bank t).0 = rec.kept (register_of frame.bank t).0 (omega arith) ∙ kept_f (register_of frame.bank t).0 (omega arith) in
      let word : IsWordOf (rec.registers (register_of frame.bank t).0) (number_at m.world t.0) = subst (λ w. IsWordOf w (number_at m.world t.0)) (sym same) (s.activation.kept.temporaries t.0 low) in
      record {
        registers = rec.registers;
        goes = goes_within g 0 (2 * length (Number t ∷ os)) (at l f (operands_code frame texts used (Number t ∷ os) ++ rest)) (at l rec.registers rest) rec.goes (omega arith);
        kept = λ r low. rec.kept r (omega arith);
        passed = record {
          values = (number_at m.world t.0, rec.passed.values);
          are = λ held. ap (λ vs. and_then vs (λ x. reached (number_at m.world t.0, x))) (rec.passed.are held);
          words = (rec.registers (register_of frame.bank t).0, rec.passed.words);
          stand = λ k limit memory. (word, rec.passed.stand k limit memory);
          passed = ap (λ ws. rec.registers (register_of frame.bank t).0 ∷ ws) rec.passed.passed;
        };
      }
  operands_pass f used (Text path ∷ os) rest has literals typed kept_f = absurd typed.0
  operands_pass f used (Literal text ∷ os) rest has literals typed kept_f =
      let (first, others) = and_parts (operand_fits g.mir (here m floors).routine (Literal text)) (list_all (operand_fits g.mir (here m floors).routine) os) has in
      let a = scratch_of frame.bank used in
      let b = scratch_of frame.bank (used + 1) in
      let id = number_of texts text in
      let place = g.placement.address (literal id) in
      let h = put (put f a place) b (length text) in
      let kept_h : KeptBelow (frame.bank.scratch + used) f h = λ r low. put_lower (put f a place) b (length text) r (omega arith) ∙ put_lower f a place r (omega arith) in
      let rec = operands_pass h (used + 2) os rest others literals.1 typed.1 (λ r low. kept_h r (omega arith) ∙ kept_f r low) in
      let address_is : rec.registers a.0 ≡ place = rec.kept a.0 (omega arith) ∙ put_lower (put f a place) b (length text) a.0 (omega arith) ∙ put_same f a place in
      let size_is : rec.registers b.0 ≡ length text = rec.kept b.0 (omega arith) ∙ put_same (put f a place) b (length text) in
      record {
        registers = rec.registers;
        goes = goes_within g 0 (2 * length (Literal text ∷ os)) (at l f (operands_code frame texts used (Literal text ∷ os) ++ rest)) (at l rec.registers rest)
            (goes_then g 0 0 0 (at l f (operands_code frame texts used (Literal text ∷ os) ++ rest)) (at l h (operands_code frame texts (used + 2) os ++ rest)) (at l rec.registers rest) (omega arith) (two_put f used id (length text) (operands_code frame texts (used + 2) os ++ rest)) rec.goes) (omega arith);
        kept = λ r low. rec.kept r (omega arith) ∙ kept_h r low;
        passed = record {
          values = (a_literal text, rec.passed.values);
          are = λ held. ap (λ vs. and_then vs (λ x. reached (a_literal text, x))) (rec.passed.are held);
          words = (place, rec.passed.words);
          stand = λ k limit memory. ((text_there g fit m l floors s k limit memory id text (stands_at_number texts text literals.0), fit.placed.words (literal id), typed.0.0), rec.passed.stand k limit memory);
          passed = ap₂ (λ u v. u ∷ v ∷ map (λ (r : VirtualRegister). rec.registers r.0) (operands_passed frame (used + 2) os)) address_is size_is ∙ ap (λ ws. place ∷ length text ∷ ws) rec.passed.passed;
        };
      }

-- ---- a primitive

module _ (g : Setting) (fit : IsFitting g) (m : MirState) (l : State) (floors : ℕ → Floor) (is : List Instruction) where
  pub primitive_comes : (p : Primitive) (os : List Operand) (to : Destination) (landing : Option BlockId) → Next g m l floors (Act (Do p os to) landing) is → Comes g m l
  unfolding code_for execute perform action_fits
  primitive_comes p os to landing next =
      let i = Act (Do p os to) landing in
      let s = next.stays in
      let frame = (here m floors).frame in
      let texts = literals_of g.core g.mir in
      let routine = (here m floors).routine in
      let rest = rest_below g m l floors i is next in
      let typed = next.fine.1 in
      let serving = served p typed.nothing in
      let coded : primitive_code frame texts p os to ≡ call_by frame texts (Some serving.routine) os to = ap (λ y. call_by frame texts y os to) serving.is in
      let does : DoesBy (Some serving.routine) p = subst (λ y. DoesBy y p) serving.is (primitive_does p) in
      let arguments = operands_passed frame 0 os in
      let register = destination_register frame to in
      let code = operands_code frame texts 0 os in
      let the_call = call serving.routine arguments register in
      let (there, destined) = and_parts (list_all (operand_fits g.mir routine) os) (destination_fits g.mir routine to) next.fine.0 in
      let pass = operands_pass g fit m l floors s l.top.registers 0 os (the_call ∷ rest) there next.literals typed.each (λ r low. refl) in
      let passed : Passed g fit m l floors s (signature p) pass.registers 0 os = subst (λ sorts. Passed g fit m l floors s sorts pass.registers 0 os) typed.sorts pass.passed in
      let k = at l pass.registers (the_call ∷ rest) in
      let stand = passed.stand k refl refl in
      let values = passed.values in
      let called : Called g.low g.placement k serving.routine (listed (signature p) values passed.words) (record { arguments = arguments; to = register; landing = None }) rest = record {
        runtime = fit.placed.runtime;
        running = refl;
        next = refl;
        passed = passed.passed;
        words = words_low g.placement k (signature p) values passed.words stand;
        room = room_there g fit m l floors s k refl refl;
      } in
      let few = serving.few in
      let number : length os ≡ length (signature p) = sym (length-map os view_operand) ∙ sym (length-map (map view_operand os) sort_of) ∙ ap length typed.sorts in
      let begins = begins_here g fit m l floors i is next (code ++ the_call ∷ []) coded ∙ ap (at l l.top.registers) (append_assoc code (the_call ∷ []) rest) in
      let means = ap (λ vs. record m { world = performed g.core (view_destination to) (and_then vs (meaning p)) m.world; work = rest_above g m l floors i is next }) (passed.are ((code_rules (managed g)).number (record m { work = rest_above g m l floors i is next }))) in
      outcome_comes g fit m l floors i is next pass.registers serving.routine arguments to (gives p) (meaning p values) typed.nothing typed.taken (λ r low. pass.kept r (omega arith))
      (goes_from g 0 l (at l l.top.registers (code ++ the_call ∷ rest)) k begins (goes_within g 0 16 (at l l.top.registers (code ++ the_call ∷ rest)) k pass.goes (omega arith)))
      (λ light. light)
      (does g.low g.placement k (record { arguments = arguments; to = register; landing = None }) rest values passed.words (texts_there g fit m l floors s k refl refl) stand called)
      (behind_act next.on) (step_here g fit m l floors i is next ∙ means)
