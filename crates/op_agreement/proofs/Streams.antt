-- The bytes of each stream: what low code shows is what its output grows by, and what managed code shows is what lies between two worlds.
use Rattle.std.proofs.Common.{◌≡◌, ℕ, zero, suc, List, [], ◌∷◌, ◌++◌, length, true, false, refl, sym, ap, ap₂, ◌∙◌, append_assoc, append-nil, subst}
use Rattle.std.specs.Prelude.{Bool, IsTrue, not, ◌&&◌, ◌||◌, map, nat_lt, Option, Some, None, if◌then◌else◌}
use Rattle.std.specs.List.{flat_map, list_any}
use Rattle.std.proofs.lemmas.Bool.{or_left, or_right}
use Rattle.std.proofs.lemmas.List.Folds.{list_any-append}
use Rattle.std.proofs.lemmas.List.Concat.{flat_map-append, flat_map-cons}
use Rattle.op_core.specs.declared.program.Core.{Core}
use Rattle.op_low.specs.Machine.{Event, Written, Taken, act, call, call_found, can_enter, done, left, load, low_machine, raise_to, read, return_to, shown_by, shown_if, shown_next, shows, step, step_by_ending, store, taken, write, written}
use Rattle.op_low.specs.State.{Placement, State, Caller, Ending, Running, Ended, Bad, bad, jump, keep, usable, value}
use Rattle.op_low.specs.declared.code.Low.{Low}
use Rattle.op_low.specs.declared.instruction.Call.{Call as Operands}
use Rattle.op_low.specs.declared.instruction.Instruction.{Instruction}
use Rattle.op_low.specs.declared.instruction.Instruction.TheVariants.{Const, Address, Local, Move, Alu, AluImm, Shift, Load, Store, Call, CallAt, Branch, Jump, Return, Raise, Read, Write, Exit}
use Rattle.op_low.specs.declared.instruction.Output.{Output}
use Rattle.op_low.specs.declared.instruction.Output.TheVariants.{Console, Errors}
use Rattle.op_meaning.specs.Demands.{Demand, nothing, block as a_block, block_of, is_standing}
use Rattle.op_meaning.specs.Source.{Event as Shown, LetGo, Taken as TakenAbove, Written as WrittenAbove, Reported, behind, is_of_input, taken as taken_above}
use Rattle.op_meaning.specs.Holding.{each}
use Rattle.op_meaning.specs.World.{World}
use Rattle.op_mir.specs.Machine.{asked, looked, shown_between, where_some}
use Rattle.op_rv.specs.Operation.{branch_taken}
use Rattle.op_rv.specs.State.{all_from, bytes_from, with_bytes}
use Rattle.op_rv.specs.Step.{can_access, load_size_of, load_value, offset_from, store_size_of}
use Rattle.std.specs.Int.{bytes_low_first}
use Rattle.op_simulation.specs.Matching.{Joins}
use Rattle.op_simulation.specs.System.{run, trace}
use Rattle.op_agreement.specs.Claims.{SameBytes, console_above, console_below, errors_above, errors_below}
use Rattle.op_agreement.specs.Steps.{is_read}

-- what is so of either of two, or of the first or the second
input_both : (a b x y : Bool) → (IsTrue a → IsTrue x) → (IsTrue b → IsTrue y) → IsTrue (a || b) → IsTrue (x || y)
input_both true b x y first second is = or_left x y (first refl)
input_both false b x y first second is = or_right x y (second is)

pub joins_bytes : Joins SameBytes
joins_bytes = record {
  none = record { console = refl; errors = refl; input = λ is. is };
  both = λ xs ys us vs first second. record {
    console = flat_map-append console_above xs ys ∙ ap₂ (λ a b. a ++ b) first.console second.console ∙ sym (flat_map-append console_below us vs);
    errors = flat_map-append errors_above xs ys ∙ ap₂ (λ a b. a ++ b) first.errors second.errors ∙ sym (flat_map-append errors_below us vs);
    input =
        λ is.
        list_any-append is_of_input xs ys
        ∙ input_both (list_any is_read us) (list_any is_read vs) (list_any is_of_input xs) (list_any is_of_input ys) first.input second.input (sym (list_any-append is_read us vs) ∙ is);
  };
}

-- ---- low code

-- from one state to another that went on behind it, the outputs grow by what was shown
pub record Grows (m n : State) (events : List Event) : Type 0 where
  pub output : n.output ≡ m.output ++ flat_map console_below events
  pub errors : n.errors ≡ m.errors ++ flat_map errors_below events

same : (m n : State) → n.output ≡ m.output → n.errors ≡ m.errors → Grows m n []
same m n output errors = record { output = output ∙ sym (append-nil m.output); errors = errors ∙ sym (append-nil m.errors) }

module _ (low : Low) (p : Placement) where
  either : (b : Bool) (m t e : State) → Grows m t [] → Grows m e [] → Grows m (if b then t else e) []
  either true m t e yes_grows no_grows = yes_grows
  either false m t e yes_grows no_grows = no_grows

  abbrev Quiet : State → State → Type 0
  Quiet m n = Grows m n []

  call_grows : (r : ℕ) (o : Operands) (m : State) → Quiet m (call low p r o m)
  unfolding call
  call_grows r o m = either (can_enter low p r (length o.arguments) m) m _ _ (same m _ refl refl) (same m _ refl refl)

  found_grows : (r : Option ℕ) (o : Operands) (m : State) → Quiet m (call_found low p r o m)
  found_grows None o m = same m _ refl refl
  found_grows (Some r) o m = call_grows r o m

  return_grows : (v : ℕ) (cs : List Caller) (m : State) → Quiet m (return_to low p v cs m)
  return_grows v [] m = same m _ refl refl
  return_grows v (c ∷ cs) m = same m _ refl refl

  raise_grows : (cs : List Caller) (m : State) → Quiet m (raise_to low p cs m)
  raise_grows [] m = same m _ refl refl
  raise_grows (c ∷ cs) m = same m _ refl refl

  read_grows : (b : Bool) (t m : State) (bytes : List ℕ) → t.output ≡ m.output → t.errors ≡ m.errors → Grows m (if b then t else bad m) (shown_if b (Taken bytes))
  read_grows true t m bytes output errors = record { output = output ∙ sym (append-nil m.output); errors = errors ∙ sym (append-nil m.errors) }
  read_grows false t m bytes output errors = same m (bad m) refl refl

  written_grows : (b : Bool) (o : Output) (bytes : List ℕ) (m : State) → Grows m (if b then written o bytes m else bad m) (shown_if b (Written o bytes))
  written_grows true Console bytes m = record { output = ap (λ x. m.output ++ x) (sym (append-nil bytes)); errors = sym (append-nil m.errors) }
  written_grows true Errors bytes m = record { output = sym (append-nil m.output); errors = ap (λ x. m.errors ++ x) (sym (append-nil bytes)) }
  written_grows false o bytes m = same m (bad m) refl refl

  act_grows : (i : Instruction) (m : State) → Grows m (act low p i m) (shown_by p i m)
  unfolding act shown_by load store read write
  act_grows (Const to n) m = same m _ refl refl
  act_grows (Address to symbol) m = same m _ refl refl
  act_grows (Local to offset) m = same m _ refl refl
  act_grows (Move to from) m = same m _ refl refl
  act_grows (Alu op to left right) m = same m _ refl refl
  act_grows (AluImm op to left imm) m = same m _ refl refl
  act_grows (Shift op to left amount) m = same m _ refl refl
  act_grows (Load op to base offset) m =
      either (can_access (usable p.rights.readable m) (offset_from (value m base) offset) (load_size_of op)) m (keep to (load_value op m.memory (offset_from (value m base) offset)) m) (bad m) (same m _ refl refl) (same m _ refl refl)
  act_grows (Store op v base offset) m =
      either (can_access (usable p.rights.writable m) (offset_from (value m base) offset) (store_size_of op)) m (record m { memory = with_bytes m.memory (offset_from (value m base) offset) (bytes_low_first 0 (store_size_of op) (value m v)) }) (bad m) (same m _ refl refl) (same m _ refl refl)
  act_grows (Call r o) m = call_grows r.0 o m
  act_grows (CallAt address o) m = found_grows (p.routine_at (value m address)) o m
  act_grows (Branch op left right block) m = either (branch_taken op (value m left) (value m right)) m (jump low block m) m (same m _ refl refl) (same m _ refl refl)
  act_grows (Jump block) m = same m _ refl refl
  act_grows (Return v) m = return_grows (value m v) m.callers m
  act_grows Raise m = raise_grows m.callers m
  act_grows (Read to buffer size) m =
      read_grows (all_from (usable p.rights.writable m) (value m buffer) (value m size)) _ m (taken (value m size) m) refl refl
  act_grows (Write output buffer size) m =
      written_grows (all_from (usable p.rights.readable m) (value m buffer) (value m size)) output (bytes_from m.memory (value m buffer) (value m size)) m
  act_grows (Exit status) m = same m _ refl refl

  moved : (m n : State) (is : List Instruction) (events : List Event) → Grows (record m { top = record m.top { now = is } }) n events → Grows m n events
  moved m n is events g = record { output = g.output; errors = g.errors }

  shown_same : (i : Instruction) (m : State) (is : List Instruction) → shown_by p i (record m { top = record m.top { now = is } }) ≡ shown_by p i m
  unfolding shown_by
  shown_same (Const to n) m is = refl
  shown_same (Address to symbol) m is = refl
  shown_same (Local to offset) m is = refl
  shown_same (Move to from) m is = refl
  shown_same (Alu op to left right) m is = refl
  shown_same (AluImm op to left imm) m is = refl
  shown_same (Shift op to left amount) m is = refl
  shown_same (Load op to base offset) m is = refl
  shown_same (Store op v base offset) m is = refl
  shown_same (Call r o) m is = refl
  shown_same (CallAt address o) m is = refl
  shown_same (Branch op left right block) m is = refl
  shown_same (Jump block) m is = refl
  shown_same (Return v) m is = refl
  shown_same Raise m is = refl
  shown_same (Read to buffer size) m is = refl
  shown_same (Write output buffer size) m is = refl
  shown_same (Exit status) m is = refl

  done_grows : (is : List Instruction) (m : State) → Grows m (done low p is m) (shown_next p is m)
  unfolding done
  done_grows [] m = same m _ refl refl
  done_grows (i ∷ is) m = moved m _ is _ (subst (Grows _ _) (shown_same i m is) (act_grows i (record m { top = record m.top { now = is } })))

  step_grows : (e : Ending) (m : State) → Grows m (step_by_ending low p e m) (shows p e m)
  unfolding step_by_ending shows
  step_grows Running m = done_grows m.top.now m
  step_grows (Ended status) m = same m m refl refl
  step_grows Bad m = same m m refl refl

  -- a run's outputs grow by what it shows
  pub run_grows : (n : ℕ) (m : State) → Grows m (run (low_machine low p) n m) (trace (low_machine low p) n m)
  unfolding run trace step
  run_grows zero m = same m m refl refl
  run_grows (suc n) m =
      let first = step_grows m.ending m in
      let others = run_grows n (step low p m) in
      let events = shows p m.ending m in
      let more = trace (low_machine low p) n (step low p m) in
      record {
        output = others.output ∙ ap (λ x. x ++ flat_map console_below more) first.output ∙ append_assoc m.output (flat_map console_below events) (flat_map console_below more) ∙ ap (λ x. m.output ++ x) (sym (flat_map-append console_below events more));
        errors = others.errors ∙ ap (λ x. x ++ flat_map errors_below more) first.errors ∙ append_assoc m.errors (flat_map errors_below events) (flat_map errors_below more) ∙ ap (λ x. m.errors ++ x) (sym (flat_map-append errors_below events more));
      }

-- ---- managed code

console_taken : (xs : List ℕ) → flat_map console_above (where_some (λ x. TakenAbove x) xs) ≡ []
console_taken [] = refl
console_taken (x ∷ xs) = refl

errors_taken : (xs : List ℕ) → flat_map errors_above (where_some (λ x. TakenAbove x) xs) ≡ []
errors_taken [] = refl
errors_taken (x ∷ xs) = refl

console_written : (xs : List ℕ) → flat_map console_above (where_some (λ x. WrittenAbove x) xs) ≡ xs
console_written [] = refl
console_written (x ∷ xs) = append-nil (x ∷ xs)

errors_written : (xs : List ℕ) → flat_map errors_above (where_some (λ x. WrittenAbove x) xs) ≡ []
errors_written [] = refl
errors_written (x ∷ xs) = refl

console_reported : (xs : List ℕ) → flat_map console_above (where_some (λ x. Reported x) xs) ≡ []
console_reported [] = refl
console_reported (x ∷ xs) = refl

errors_reported : (xs : List ℕ) → flat_map errors_above (where_some (λ x. Reported x) xs) ≡ xs
errors_reported [] = refl
errors_reported (x ∷ xs) = append-nil (x ∷ xs)

console_let_go : (ns : List ℕ) → flat_map console_above (map (λ n. LetGo n) ns) ≡ []
console_let_go [] = refl
console_let_go (n ∷ ns) = flat_map-cons console_above (LetGo n) (map (λ n. LetGo n) ns) ∙ console_let_go ns

errors_let_go : (ns : List ℕ) → flat_map errors_above (map (λ n. LetGo n) ns) ≡ []
errors_let_go [] = refl
errors_let_go (n ∷ ns) = flat_map-cons errors_above (LetGo n) (map (λ n. LetGo n) ns) ∙ errors_let_go ns

console_looked : (b : Bool) → flat_map console_above (looked b) ≡ []
console_looked true = refl
console_looked false = refl

errors_looked : (b : Bool) → flat_map errors_above (looked b) ≡ []
errors_looked true = refl
errors_looked false = refl

console_asked : (d : Demand) → flat_map console_above (asked d) ≡ []
console_asked nothing = refl
console_asked (a_block n slot) = refl

errors_asked : (d : Demand) → flat_map errors_above (asked d) ≡ []
errors_asked nothing = refl
errors_asked (a_block n slot) = refl

-- of six parts two have bytes of the stream
six : (f : Shown → List ℕ) (l a t w r g : List Shown) (x y : List ℕ) → flat_map f l ≡ [] → flat_map f a ≡ [] → flat_map f t ≡ [] → flat_map f w ≡ x → flat_map f r ≡ y → flat_map f g ≡ [] → flat_map f (l ++ a ++ (t ++ w ++ r) ++ g) ≡ x ++ y
six f l a t w r g x y no_l no_a no_t is_w is_r no_g = simp (flat_map-append, no_l, no_a, no_t, is_w, is_r, no_g, append-nil) refl

pub console_between : (core : Core) (b : Bool) (v w : World) → flat_map console_above (shown_between core b v w) ≡ behind v.output w.output
console_between core b v w =
    six console_above (looked b) (asked (if nat_lt v.next w.next then block_of core (w.objects v.next) else nothing)) (where_some (λ x. TakenAbove x) (taken_above v.input w.input))
    (where_some (λ x. WrittenAbove x) (behind v.output w.output)) (where_some (λ x. Reported x) (behind v.errors w.errors))
    (map (λ n. LetGo n) (each v.next (λ n. if is_standing (v.objects n) && not (is_standing (w.objects n)) then n ∷ [] else [])))
    (behind v.output w.output) [] (console_looked b) (console_asked _) (console_taken _) (console_written _) (console_reported _) (console_let_go (each v.next (λ n. if is_standing (v.objects n) && not (is_standing (w.objects n)) then n ∷ [] else [])))
    ∙ append-nil (behind v.output w.output)

pub errors_between : (core : Core) (b : Bool) (v w : World) → flat_map errors_above (shown_between core b v w) ≡ behind v.errors w.errors
errors_between core b v w =
    six errors_above (looked b) (asked (if nat_lt v.next w.next then block_of core (w.objects v.next) else nothing)) (where_some (λ x. TakenAbove x) (taken_above v.input w.input))
    (where_some (λ x. WrittenAbove x) (behind v.output w.output)) (where_some (λ x. Reported x) (behind v.errors w.errors))
    (map (λ n. LetGo n) (each v.next (λ n. if is_standing (v.objects n) && not (is_standing (w.objects n)) then n ∷ [] else [])))
    [] (behind v.errors w.errors) (errors_looked b) (errors_asked _) (errors_taken _) (errors_written _) (errors_reported _) (errors_let_go (each v.next (λ n. if is_standing (v.objects n) && not (is_standing (w.objects n)) then n ∷ [] else [])))

behind_front : (xs ys : List ℕ) → behind xs (xs ++ ys) ≡ ys
behind_front [] ys = refl
behind_front (x ∷ xs) ys = behind_front xs ys

-- where both outputs are equal before and after, and the input was not read, the same was shown
pub same_bytes : (core : Core) (b : Bool) (v w : World) (l k : State) (events : List Event) → l.output ≡ v.output → l.errors ≡ v.errors → k.output ≡ w.output → k.errors ≡ w.errors → Grows l k events → list_any is_read events ≡ false → SameBytes (shown_between core b v w) events
same_bytes core b v w l k events output errors new_output new_errors grows unread = record {
  console =
      console_between core b v w ∙ ap (behind v.output) (sym new_output ∙ grows.output ∙ ap (λ x. x ++ flat_map console_below events) output)
      ∙ behind_front v.output (flat_map console_below events);
  errors =
      errors_between core b v w ∙ ap (behind v.errors) (sym new_errors ∙ grows.errors ∙ ap (λ x. x ++ flat_map errors_below events) errors)
      ∙ behind_front v.errors (flat_map errors_below events);
  input = λ is. let clash : false ≡ true = sym unread ∙ is in absurd cc;
}
