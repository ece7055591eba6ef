-- Steps of low code: so many lead from one state to another.
use Rattle.std.proofs.Common.{◌≡◌, ◌≤◌, ℕ, zero, suc, ◌+◌, Bool, true, false, ◌||◌, List, [], ◌∷◌, ◌++◌, length, append-nil, refl, sym, ap, ap₂, ◌∙◌, subst, arith, le_trans}
use Rattle.std.proofs.lemmas.List.Folds.{list_any-append}
use Rattle.std.specs.List.{list_any}
use Rattle.op_compute.proofs.StraightRuns.{straight_runs}
use Rattle.op_compute.specs.Straight.{at, outcome, fewest_steps, Outcome, Behind, Away, Crooked}
use Rattle.op_low.specs.Machine.{Event, Written, act, cost, cost_by, done, low_machine, shown_by, shown_if, shows, step, step_by_ending}
use Rattle.op_low.specs.State.{State, Ending, Running, Ended, Bad, block_of, space, usable, value}
use Rattle.op_low.specs.declared.instruction.Output.{Output}
use Rattle.op_low.specs.declared.instruction.Instruction.{Instruction}
use Rattle.op_low.specs.declared.instruction.Instruction.TheVariants.{Const, Address, Local, Move, Alu, AluImm, Shift, Load, Store, Call, CallAt, Branch, Jump, Return, Raise, Read, Write, Exit}
use Rattle.op_rv.specs.State.{all_from, bytes_from}
use Rattle.op_simulation.proofs.Runs.{run_add, spent_add, trace_add}
use Rattle.op_simulation.specs.Path.{Path}
use Rattle.op_simulation.specs.System.{run, spent, trace}
use Rattle.op_agreement.specs.Settings.{Setting}
pub use Rattle.op_agreement.specs.Steps.{Goes, cost_going, counted, is_read}

-- whether an instruction reads the input
abbrev pub is_read_instruction : Instruction → Bool
is_read_instruction (Const to n) = false
is_read_instruction (Address to symbol) = false
is_read_instruction (Local to offset) = false
is_read_instruction (Move to from) = false
is_read_instruction (Alu op to a b) = false
is_read_instruction (AluImm op to a imm) = false
is_read_instruction (Shift op to a amount) = false
is_read_instruction (Load op to a offset) = false
is_read_instruction (Store op a b offset) = false
is_read_instruction (Call r operands) = false
is_read_instruction (CallAt address operands) = false
is_read_instruction (Branch op a b block) = false
is_read_instruction (Jump block) = false
is_read_instruction (Return a) = false
is_read_instruction Raise = false
is_read_instruction (Read to a b) = true
is_read_instruction (Write output a b) = false
is_read_instruction (Exit a) = false

written_unread : (b : Bool) (output : Output) (bytes : List ℕ) → list_any is_read (shown_if b (Written output bytes)) ≡ false
written_unread true output bytes = refl
written_unread false output bytes = refl

module _ (g : Setting) where
  pub goes_none : (l : State) → Goes g 0 0 l l
  unfolding run spent trace
  goes_none l = record { steps = 0; enough = omega arith; within = omega arith; ends = refl; unread = refl }

  -- states and steps are those of the machine that counts
  pub run_counted : (n : ℕ) (l : State) → run (counted g) n l ≡ run (low_machine g.low g.placement) n l
  unfolding run
  run_counted zero l = refl
  run_counted (suc n) l = run_counted n ((low_machine g.low g.placement).step l)

  cost_less : (e : Ending) (l : State) → cost_going g l e ≤ cost g.low g.placement e l
  cost_less Running l = omega arith
  cost_less (Ended status) l = omega arith
  cost_less Bad l = omega arith

  -- and cost no more
  pub spent_counted : (n : ℕ) (l : State) → spent (counted g) n l ≤ spent (low_machine g.low g.placement) n l
  unfolding spent
  spent_counted zero l = omega arith
  spent_counted (suc n) l =
      let first = cost_less l.ending l in
      let rest = spent_counted n ((low_machine g.low g.placement).step l) in
      omega arith

  -- what does not read, twice, does not
  unread_both : (m n : ℕ) (a b : State) → run (low_machine g.low g.placement) m a ≡ b → list_any is_read (trace (low_machine g.low g.placement) m a) ≡ false → list_any is_read (trace (low_machine g.low g.placement) n b) ≡ false → list_any is_read (trace (low_machine g.low g.placement) (m + n) a) ≡ false
  unread_both m n a b ends first second =
      ap (list_any is_read) (trace_add (low_machine g.low g.placement) m n a)
      ∙ list_any-append is_read (trace (low_machine g.low g.placement) m a) (trace (low_machine g.low g.placement) n (run (low_machine g.low g.placement) m a))
      ∙ ap₂ (λ x y. x || y) first (ap (λ c. list_any is_read (trace (low_machine g.low g.placement) n c)) ends ∙ second)

  -- one path and another
  pub goes_then : {p q : ℕ} (m n k : ℕ) (a b c : State) → k ≤ m + n → Goes g m p a b → Goes g n q b c → Goes g k (p + q) a c
  goes_then m n k a b c less first second =
      let before = first.enough in
      let after = second.enough in
      let at_first = first.within in
      let then_second = second.within in
      let all = spent_add (counted g) first.steps second.steps a in
      let there : spent (counted g) second.steps (run (counted g) first.steps a) ≡ spent (counted g) second.steps b = ap (spent (counted g) second.steps) (run_counted first.steps a ∙ first.ends) in
      record {
        steps = first.steps + second.steps;
        enough = omega arith;
        within = omega arith;
        ends = run_add (low_machine g.low g.placement) first.steps second.steps a ∙ ap (run (low_machine g.low g.placement) second.steps) first.ends ∙ second.ends;
        unread = unread_both first.steps second.steps a b first.ends first.unread second.unread;
      }

  pub goes_fewer : {p : ℕ} (m n : ℕ) (a b : State) → n ≤ m → Goes g m p a b → Goes g n p a b
  goes_fewer m n a b less first = let before = first.enough in record { steps = first.steps; enough = omega arith; within = first.within; ends = first.ends; unread = first.unread }

  -- at no more than more
  pub goes_within : {p : ℕ} (n q : ℕ) (a b : State) → Goes g n p a b → p ≤ q → Goes g n q a b
  goes_within n q a b first less = record { steps = first.steps; enough = first.enough; within = le_trans first.within less; ends = first.ends; unread = first.unread }

  -- by a path of the machine, that does not read
  pub goes_path : {Holds : State → Type 0} {events : List Event} (steps n most : ℕ) (a b : State) → n ≤ steps → Path (low_machine g.low g.placement) Holds a b steps events most → list_any is_read events ≡ false → Goes g n most a b
  goes_path steps n most a b enough path unread = record { steps = steps; enough = enough; within = le_trans (spent_counted steps a) path.within; ends = path.ends; unread = ap (list_any is_read) path.shows ∙ unread }

  -- from and to states that are the same
  pub goes_from : {p : ℕ} (n : ℕ) (a b c : State) → a ≡ b → Goes g n p b c → Goes g n p a c
  goes_from {p} n a b c same goes = subst (λ x. Goes g n p x c) (sym same) goes

  pub goes_to : {p : ℕ} (n : ℕ) (a b c : State) → b ≡ c → Goes g n p a b → Goes g n p a c
  goes_to {p} n a b c same goes = subst (Goes g n p a) same goes

  -- a machine that goes on is one at its registers and code
  pub standing : (l : State) (now : List Instruction) → l.ending ≡ Running → l.top.now ≡ now → l ≡ at l l.top.registers now
  standing l now running is = ap₂ (λ n e. record l { top = record l.top { now = n }; ending = e }) is running

  -- one instruction
  abbrev pub cost_of : State → Instruction → ℕ
  cost_of l (Call r operands) = 1 + space g.low g.placement r.0 + length operands.arguments
  cost_of l (CallAt address operands) = cost_by g.low g.placement (CallAt address operands) l
  cost_of l _ = 1

  cost_is : (l : State) (i : Instruction) → cost_by g.low g.placement i l ≡ cost_of l i
  unfolding cost_by
  cost_is l (Const to n) = refl
  cost_is l (Address to symbol) = refl
  cost_is l (Local to offset) = refl
  cost_is l (Move to from) = refl
  cost_is l (Alu op to a b) = refl
  cost_is l (AluImm op to a imm) = refl
  cost_is l (Shift op to a amount) = refl
  cost_is l (Load op to a offset) = refl
  cost_is l (Store op a b offset) = refl
  cost_is l (Call r operands) = refl
  cost_is l (CallAt address operands) = refl
  cost_is l (Branch op a b block) = refl
  cost_is l (Jump block) = refl
  cost_is l (Return a) = refl
  cost_is l Raise = refl
  cost_is l (Read to a b) = refl
  cost_is l (Write output a b) = refl
  cost_is l (Exit a) = refl

  -- what an instruction shows that does not read
  shown_unread : (l : State) (i : Instruction) → is_read_instruction i ≡ false → list_any is_read (shown_by g.placement i l) ≡ false
  unfolding shown_by
  shown_unread l (Const to n) unread = refl
  shown_unread l (Address to symbol) unread = refl
  shown_unread l (Local to offset) unread = refl
  shown_unread l (Move to from) unread = refl
  shown_unread l (Alu op to a b) unread = refl
  shown_unread l (AluImm op to a imm) unread = refl
  shown_unread l (Shift op to a amount) unread = refl
  shown_unread l (Load op to a offset) unread = refl
  shown_unread l (Store op a b offset) unread = refl
  shown_unread l (Call r operands) unread = refl
  shown_unread l (CallAt address operands) unread = refl
  shown_unread l (Branch op a b block) unread = refl
  shown_unread l (Jump block) unread = refl
  shown_unread l (Return a) unread = refl
  shown_unread l Raise unread = refl
  shown_unread l (Read to a b) unread = absurd cc
  shown_unread l (Write output a b) unread = written_unread (all_from (usable g.placement.rights.readable l) (value l a) (value l b)) output (bytes_from l.memory (value l a) (value l b))
  shown_unread l (Exit a) unread = refl

  pub goes_one : (l : State) (f : ℕ → ℕ) (i : Instruction) (is : List Instruction) → is_read_instruction i ≡ false → Goes g 1 (cost_of (at l f (i ∷ is)) i) (at l f (i ∷ is)) (act g.low g.placement i (at l f is))
  unfolding run spent trace step step_by_ending done cost shows
  goes_one l f i is unread =
      let same = cost_is (at l f (i ∷ is)) i in
      record { steps = 1; enough = omega arith; within = omega arith; ends = refl; unread = ap (list_any is_read) (append-nil (shown_by g.placement i (at l f (i ∷ is)))) ∙ shown_unread (at l f (i ∷ is)) i unread }

  -- where straight code comes to
  abbrev pub GoesTo : (least most : ℕ) → State → State → List Instruction → Outcome → Type 0
  GoesTo n most m from rest (Behind f) = Goes g n most from (at m f rest)
  GoesTo n most m from rest (Away block f) = Goes g n most from (at m f (block_of g.low m.top.routine block.0))
  GoesTo n most m from rest Crooked = Unit {0}

  -- in no more steps than it has instructions
  pub goes_straight : (m : State) (code rest : List Instruction) (f : ℕ → ℕ) → GoesTo (fewest_steps code) (length code) m (at m f (code ++ rest)) rest (outcome code f)
  goes_straight m code rest f = by (outcome code f) (straight_runs g.low g.placement (λ s. Unit {0}) m (λ f now. tt) code rest f)
    where
      by : (o : Outcome) → Rattle.op_compute.specs.Straight.LeadsTo g.low g.placement (λ s. Unit {0}) m (at m f (code ++ rest)) rest (fewest_steps code) (length code) o → GoesTo (fewest_steps code) (length code) m (at m f (code ++ rest)) rest o
      by (Behind h) leads = goes_within (fewest_steps code) (length code) (at m f (code ++ rest)) (at m h rest) (goes_path leads.steps (fewest_steps code) leads.steps (at m f (code ++ rest)) (at m h rest) leads.enough leads.path refl) leads.within
      by (Away block h) leads = goes_within (fewest_steps code) (length code) (at m f (code ++ rest)) (at m h (block_of g.low m.top.routine block.0)) (goes_path leads.steps (fewest_steps code) leads.steps (at m f (code ++ rest)) (at m h (block_of g.low m.top.routine block.0)) leads.enough leads.path refl) leads.within
      by Crooked leads = tt
