-- An error ends the program: its line goes to the error stream, and its number is the status.
use Rattle.std.proofs.Common.{◌≡◌, ◌≤◌, ◌<◌, inl, inr, ℕ, ◌+◌, List, [], ◌∷◌, ◌++◌, length, Some, refl, sym, ap, ap₂, ◌∙◌, subst, arith}
use Rattle.std.specs.Prelude.{◌^◌, ◌%◌, true, ◌&&◌, codes, nat_lt, slice_get, if◌then◌else◌}
use Rattle.std.proofs.lemmas.Bool.{cond-true}
use Rattle.std.proofs.lemmas.Bool.Decides.{nat_tests}
use Rattle.op_compute.specs.Bank.{error_block_of, place_of_error}
use Rattle.op_compute.specs.Meaning.{number_of_error}
use Rattle.op_compute.specs.Straight.{at}
use Rattle.op_compute.specs.declared.bank.RuntimeError.{RuntimeError}
use Rattle.op_compute.specs.declared.bank.RuntimeError.TheVariants.{DivisionByZero, RangeCheck, StackOverflow, IntegerOverflow}
use Rattle.op_constants.specs.Literals.{literals_of}
use Rattle.op_expand.specs.Calls.{left, result_address}
use Rattle.op_expand.specs.Routines.{error_code}
use Rattle.op_low.specs.Machine.{act, cost, cost_by, done, shown_by, shows, step, step_by_ending, write}
use Rattle.op_low.specs.State.{Caller, State, Ended, bad, block_of, usable}
use Rattle.op_low.specs.declared.instruction.Instruction.{Instruction}
use Rattle.op_low.specs.declared.instruction.Instruction.TheVariants.{Const, Exit, Write}
use Rattle.op_low.specs.declared.instruction.Output.TheVariants.{Errors}
use Rattle.op_meaning.specs.Errors.{failed, stopped}
use Rattle.op_meaning.specs.Texts.{digits_of, line_feed}
use Rattle.op_meaning.specs.Values.{Value, Holder, Place}
use Rattle.op_meaning.specs.World.{World}
use Rattle.op_mir.proofs.PlainLemmas.{failed_stops}
use Rattle.op_mir.specs.Code.{Instr}
use Rattle.op_mir.specs.Machine.{MirCaller, MirState}
use Rattle.op_rt_text.specs.Names.{literal}
use Rattle.op_rv.proofs.Memory.{all_of, bytes_from-same}
use Rattle.op_rv.specs.State.{all_from, bytes_from}
use Rattle.op_simulation.specs.System.{run, spent, trace}
use Rattle.op_agreement.proofs.Going.{Goes, goes_from, goes_one, goes_then, goes_to}
use Rattle.op_agreement.proofs.Standing.{here}
use Rattle.op_agreement.specs.Chart.{Floor}
use Rattle.op_agreement.specs.Fitting.{IsFitting, LiteralStands}
use Rattle.op_agreement.specs.Settings.{Setting}
use Rattle.op_agreement.specs.Stands.{CallersStand, Stands, Stays}

-- ---- the stack lies above what is placed

pub limit_above : (g : Setting) (floors : ℕ → Floor) (values : Holder → Value) (bound : ℕ → ℕ → Place) (cs : List MirCaller) (ls : List Caller) (number address limit room charged : ℕ) → CallersStand g floors values bound cs ls number address limit room charged → g.bottom ≤ limit
limit_above g floors values bound [] [] number address limit room charged (is, at) = omega arith
limit_above g floors values bound [] (l ∷ ls) number address limit room charged s = absurd s
limit_above g floors values bound (c ∷ cs) [] number address limit room charged s = absurd s
limit_above g floors values bound (c ∷ cs) (l ∷ ls) number address limit room charged (inr (below, under, spare, status, a, ended, others, are, charge, at, more, closing, activation, callers)) =
    let deeper = limit_above g floors values bound cs others c.routine (a.registers result_address.0) below spare under callers in
    omega arith
limit_above g floors values bound (c ∷ cs) (l ∷ ls) number address limit room charged (inl (below, under, spare, declared, low, charge, at, more, frames, receiver, to, typed, result, waiting, made, position, activation, callers)) =
    let deeper = limit_above g floors values bound cs ls c.routine (l.activation.registers result_address.0) below spare under callers in
    omega arith

-- ---- what an error writes

abbrev pub error_line : ℕ → List ℕ
error_line n = codes "Runtime error " ++ digits_of n ++ line_feed

line_there : (g : Setting) (e : RuntimeError) → slice_get (literals_of g.core g.mir) (3 + place_of_error e) ≡ Some (error_line (number_of_error e))
line_there g DivisionByZero = refl
line_there g RangeCheck = refl
line_there g StackOverflow = refl
line_there g IntegerOverflow = refl

small_number : (e : RuntimeError) → number_of_error e % 2 ^ 8 ≡ number_of_error e
small_number DivisionByZero = refl
small_number RangeCheck = refl
small_number StackOverflow = refl
small_number IntegerOverflow = refl

-- ---- its code

module _ (g : Setting) where
  abbrev after_two : State → (ℕ → ℕ) → (id : ℕ) → ℕ → ℕ
  after_two l f id r = if Rattle.std.specs.Prelude.nat_eq r 1 then 18 else (if Rattle.std.specs.Prelude.nat_eq r 0 then g.placement.address (literal id) else f r)

  abbrev said : State → (ℕ → ℕ) → List Instruction → List ℕ → State
  said l f now text = record (at l f now) { errors = l.errors ++ text }

  abbrev over : State → (ℕ → ℕ) → List ℕ → (n : ℕ) → State
  over l f text n = record (said l (λ r. if Rattle.std.specs.Prelude.nat_eq r 0 then n else f r) [] text) { ending = Ended (n % 2 ^ 8) }

  begins : (l : State) (f : ℕ → ℕ) (n id : ℕ) → Goes g 2 2 (at l f (error_code n id)) (at l (after_two l f id) (Write Errors left result_address ∷ Const left n ∷ Exit left ∷ []))
  unfolding run spent trace step step_by_ending done act cost cost_by shows shown_by
  begins l f n id = record { steps = 2; enough = omega arith; within = omega arith; ends = refl; unread = refl }

  writes : (l : State) (f : ℕ → ℕ) (now : List Instruction) (at_ : ℕ) (text : List ℕ) → f 0 ≡ at_ → f 1 ≡ length text → all_from (usable g.placement.rights.readable l) at_ (length text) ≡ true → bytes_from l.memory at_ (length text) ≡ text → Goes g 1 1 (at l f (Write Errors left result_address ∷ now)) (said l f now text)
  unfolding act write
  writes l f now at_ text zeroth first may is =
      goes_to g 1 (at l f (Write Errors left result_address ∷ now)) _ (said l f now text)
      (cond-true (all_from (usable g.placement.rights.readable l) (f 0) (f 1)) (said l f now (bytes_from l.memory (f 0) (f 1))) (bad (at l f now))
      (ap (λ x. all_from (usable g.placement.rights.readable l) x (f 1)) zeroth ∙ ap (all_from (usable g.placement.rights.readable l) at_) first ∙ may)
      ∙ ap (said l f now) (ap (λ x. bytes_from l.memory x (f 1)) zeroth ∙ ap (bytes_from l.memory at_) first ∙ is))
      (goes_one g l f (Write Errors left result_address) now refl)

  ends : (l : State) (f : ℕ → ℕ) (text : List ℕ) (n : ℕ) → Goes g 2 2 (said l f (Const left n ∷ Exit left ∷ []) text) (over l f text n)
  unfolding run spent trace step step_by_ending done act cost cost_by shows shown_by
  ends l f text n = record { steps = 2; enough = omega arith; within = omega arith; ends = refl; unread = refl }

  -- a literal stands where it was loaded
  pub literal_there : (l : State) (at_ : ℕ) (text : List ℕ) → LiteralStands g at_ text → g.bottom ≤ l.limit → Rattle.op_agreement.specs.Stands.IsFixed g l.memory → (all_from (usable g.placement.rights.readable l) at_ (length text) ≡ true) × (bytes_from l.memory at_ (length text) ≡ text)
  literal_there l at_ text stands above fixed =
      let below = stands.below in (
        all_of (usable g.placement.rights.readable l) at_ (length text) (λ x low high. may x (stands.readable x low high) (omega arith)),
        bytes_from-same g.loaded l.memory at_ (length text) (λ x low high. fixed x (omega arith) (stands.fixed x low high)) ∙ stands.stands,
      )
    where
      may : (x : ℕ) → g.placement.rights.readable x ≡ true → x < l.limit → (g.placement.rights.readable x && nat_lt x l.limit) ≡ true
      may x right low = let t : nat_lt x l.limit ≡ true = grind (arith, nat_tests) in ap₂ (λ a b. a && b) right t

  -- the code of an error ends the program, wherever it stands
  pub record ErrorEnds (l : State) (e : RuntimeError) (f : ℕ → ℕ) : Type 0 where
    pub to : State
    pub goes : Goes g 5 5 (at l f (error_code (number_of_error e) (3 + place_of_error e))) to
    pub ending : to.ending ≡ Ended (number_of_error e)
    pub output : to.output ≡ l.output
    pub errors : to.errors ≡ l.errors ++ error_line (number_of_error e)
    pub input : to.input ≡ l.input

  pub error_runs : IsFitting g → (l : State) → g.bottom ≤ l.limit → Rattle.op_agreement.specs.Stands.IsFixed g l.memory → (e : RuntimeError) (f : ℕ → ℕ) → ErrorEnds l e f
  error_runs fit l above fixed e f =
      let n = number_of_error e in
      let id = 3 + place_of_error e in
      let line = error_line n in
      let at_ = g.placement.address (literal id) in
      let (may, is) = literal_there l at_ line (fit.placed.literals id line (line_there g e)) above fixed in
      let f2 = after_two l f id in
      record {
        to = over l f2 line n;
        goes = goes_then g 2 3 5 (at l f (error_code n id)) (at l f2 (Write Errors left result_address ∷ Const left n ∷ Exit left ∷ [])) (over l f2 line n) (omega arith) (begins l f n id)
            (goes_then g 1 2 3 (at l f2 (Write Errors left result_address ∷ Const left n ∷ Exit left ∷ [])) (said l f2 (Const left n ∷ Exit left ∷ []) line) (over l f2 line n) (omega arith)
            (writes l f2 (Const left n ∷ Exit left ∷ []) at_ line refl refl may is)
            (ends l f2 line n));
        ending = ap (λ x. Ended x) (small_number e);
        output = refl;
        errors = refl;
        input = refl;
      }

  -- and so does the program above
  pub error_stands : IsFitting g → (m : MirState) (n : ℕ) (k : State) → k.ending ≡ Ended n → k.output ≡ m.world.output → k.errors ≡ m.world.errors ++ error_line n → k.input ≡ m.world.input → Stands g (record m { world = failed g.core n m.world }) k
  error_stands fit m n k ending output errors input = by (failed g.core n m.world) (failed_stops g.core fit.program.exceptions n m.world)
    where
      by : (w : World) → w ≡ stopped n m.world → Stands g (record m { world = w }) k
      by w is = subst (λ x. Stands g (record m { world = x }) k) (sym is) (record { ending = ending; output = output; errors = errors; input = input })

  pub error_ends : IsFitting g → (floors : ℕ → Floor) (m : MirState) (l : State) → Stays g floors m l → (e : RuntimeError) (f : ℕ → ℕ) (rest : List Instr) → (k : State) × Goes g 5 5 (at l f (block_of g.low l.top.routine (error_block_of (here m floors).frame.bank e).0)) k × Stands g (record m { world = failed g.core (number_of_error e) m.world; work = rest }) k
  error_ends fit floors m l s e f rest =
      let a = s.activation in
      let above = limit_above g floors m.world.memory m.world.bound m.callers l.callers m.routine (l.top.registers result_address.0) l.limit l.room m.charged s.callers in
      let runs = error_runs fit l above s.fixed e f in
      let code : block_of g.low l.top.routine (error_block_of (here m floors).frame.bank e).0 ≡ error_code (number_of_error e) (3 + place_of_error e) =
      ap₂ (λ r b. block_of g.low r (b + place_of_error e)) a.same a.floor.fits.errors ∙ a.floor.expanded.errors e in (
        runs.to,
        goes_from g 5 (at l f (block_of g.low l.top.routine (error_block_of (here m floors).frame.bank e).0)) (at l f (error_code (number_of_error e) (3 + place_of_error e))) runs.to (ap (at l f) code) runs.goes,
        error_stands fit (record m { work = rest }) (number_of_error e) runs.to runs.ending (runs.output ∙ s.output) (runs.errors ∙ ap (λ x. x ++ error_line (number_of_error e)) s.errors) (runs.input ∙ s.input),
      )
