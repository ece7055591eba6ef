-- Instructions that are straight code: constants and computations, jumps, branches, switches and what stands behind a finally part.
use Rattle.std.proofs.Common.{◌≡◌, ◌<◌, ◌≤◌, ℕ, zero, suc, ◌+◌, ◌*◌, List, [], ◌∷◌, ◌++◌, length, Option, Some, None, refl, sym, ap, ap₂, ◌∙◌, subst, arith}
use Rattle.std.specs.Prelude.{true, ◌&&◌}
use Rattle.std.proofs.lemmas.Bool.{and_parts}
use Rattle.std.specs.Option.{option_map}
use Rattle.std.proofs.lemmas.Bool.Decides.{nat_tests}
use Rattle.std.proofs.lemmas.Option.{slice_get-map}
use Rattle.op_agreement.proofs.Computing.{all_variables_kept, nothing_stands, number_stands, rest_above, rest_below, temporaries_kept}
use Rattle.op_agreement.proofs.ErrorsEnd.{error_ends}
use Rattle.op_agreement.proofs.Following.{Comes}
use Rattle.op_agreement.proofs.Going.{GoesTo, goes_from, goes_straight, goes_then, goes_within, standing}
use Rattle.op_agreement.proofs.Pricing.{afford}
use Rattle.op_agreement.proofs.Standing.{Next, here, stands_on, stays_registers, step_is}
use Rattle.op_agreement.specs.Chart.{Floor}
use Rattle.op_agreement.specs.Coding.{code_for, front_of}
use Rattle.op_agreement.specs.Fitting.{IsFitting}
use Rattle.op_agreement.specs.Settings.{HaveHomes, Setting, managed}
use Rattle.op_agreement.specs.Stands.{IsFloor, Position, Stands}
use Rattle.op_agreement.specs.Steps.{most_for_one}
use Rattle.op_agreement.specs.Typed.{AreFine, IsLight, IsTarget, IsTypedAction}
use Rattle.op_compute.specs.Bank.{error_block_of, operands_of, register_of, work_of}
use Rattle.op_compute.specs.Computing.{registers_of}
use Rattle.op_compute.specs.Meaning.{Answers, HasWords, IsApart, Meant, block_for, fails, gives, left_of, right_of, settled, to_of}
use Rattle.op_compute.specs.Straight.{Away, Behind, Crooked, Outcome, at, fewest_steps, outcome}
use Rattle.op_compute.specs.Turning.{Turns}
use Rattle.op_compute.specs.declared.bank.Bank.{Bank}
use Rattle.op_compute.specs.declared.bank.RuntimeError.{RuntimeError}
use Rattle.op_compute.specs.declared.bank.RuntimeError.TheVariants.{DivisionByZero, RangeCheck, StackOverflow, IntegerOverflow}
use Rattle.op_constants.specs.Literals.{literals_of}
use Rattle.op_core.proofs.Rows.{there_is}
use Rattle.op_expand.specs.Calls.{runtime}
use Rattle.op_expand.specs.Routines.{code_of}
use Rattle.op_low.specs.State.{State, block_of}
use Rattle.op_low.specs.declared.instruction.Instruction.{Instruction as LowInstruction}
use Rattle.op_mir.specs.Machine.{MirState, block_at, block_or, execute, go_if, mir_cost, mir_step}
use Rattle.op_mir.specs.Valid.{computation_fits, has, has_three, has_two}
use Rattle.op_mir.specs.View.{view_block, view_computation, view_instruction, view_routine}
use Rattle.op_mir.specs.declared.action.Computation.{Computation}
use Rattle.op_mir.specs.declared.action.Computation.TheVariants.{Arithmetic, Compare, Negate, Complement, Invert, Absolute, Odd, Upper, LowBits, Check, Neighbour, Single, Span, Combine, Contains, CheckSet}
use Rattle.op_mir.specs.declared.code.Routine.{Routine}
use Rattle.op_mir.specs.declared.ids.BlockId.{BlockId}
use Rattle.op_mir.specs.declared.ids.TemporaryId.{TemporaryId}
use Rattle.op_mir.specs.declared.instruction.Instruction.{Instruction}

-- ---- code

pub some_last : (xs : List LowInstruction) (i : LowInstruction) → fewest_steps (xs ++ i ∷ []) ≡ 1
some_last [] i = refl
some_last (x ∷ xs) i = refl

-- ---- temporaries that are there

low_of : (x : Routine) (t : TemporaryId) → has x t ≡ true → t.0 < x.temporaries
low_of x t is = grind (arith, nat_tests)

pub has_of : (x : Routine) (t : TemporaryId) → has x t ≡ true → t.0 < x.temporaries
has_of x t is = low_of x t is

pub two_of : (x : Routine) (a b : TemporaryId) → has_two x a b ≡ true → (a.0 < x.temporaries) × (b.0 < x.temporaries)
two_of x a b is = let (p, q) = and_parts (has x a) (has x b) is in (low_of x a p, low_of x b q)

pub three_of : (x : Routine) (a b c : TemporaryId) → has_three x a b c ≡ true → (a.0 < x.temporaries) × (b.0 < x.temporaries) × (c.0 < x.temporaries)
three_of x a b c is =
    let (pq, r) = and_parts (has x a && has x b) (has x c) is in
    let (p, q) = and_parts (has x a) (has x b) pq in
    (low_of x a p, low_of x b q, low_of x c r)

-- the temporaries of a computation are there, and the scratch registers stand behind their registers
pub record ComputationFits (x : Routine) (bank : Bank) (c : Computation) : Type 0 where
  pub result : (to_of c).0 < x.temporaries
  pub first : (left_of c).0 < x.temporaries
  pub second : (right_of c).0 < x.temporaries
  pub apart : IsApart (work_of bank) (registers_of bank c)

module _ (x : Routine) (bank : Bank) (behind : bank.scratch ≡ bank.temporaries + x.temporaries) where
  apart_of : (a b c : TemporaryId) → a.0 < x.temporaries → b.0 < x.temporaries → c.0 < x.temporaries → IsApart (work_of bank) (operands_of bank a b c)
  apart_of a b c p q r = record { to = omega arith; left = omega arith; right = omega arith; second = omega arith; third = omega arith }

  of_three : (a b c : TemporaryId) → has_three x a b c ≡ true → (a.0 < x.temporaries) × (b.0 < x.temporaries) × (c.0 < x.temporaries) × IsApart (work_of bank) (operands_of bank a b c)
  of_three a b c is = let (p, q, r) = three_of x a b c is in (p, q, r, apart_of a b c p q r)

  of_two : (a b : TemporaryId) → has_two x a b ≡ true → (a.0 < x.temporaries) × (b.0 < x.temporaries) × (b.0 < x.temporaries) × IsApart (work_of bank) (operands_of bank a b b)
  of_two a b is = let (p, q) = two_of x a b is in (p, q, q, apart_of a b b p q q)

  pub fits_of : (c : Computation) → computation_fits x c ≡ true → ComputationFits x bank c
  unfolding computation_fits registers_of
  fits_of (Arithmetic o checked to a b) is = let (p, q, r, s) = of_three to a b is in record { result = p; first = q; second = r; apart = s }
  fits_of (Compare o to a b) is = let (p, q, r, s) = of_three to a b is in record { result = p; first = q; second = r; apart = s }
  fits_of (Negate checked to a) is = let (p, q, r, s) = of_two to a is in record { result = p; first = q; second = r; apart = s }
  fits_of (Complement to a) is = let (p, q, r, s) = of_two to a is in record { result = p; first = q; second = r; apart = s }
  fits_of (Invert to a) is = let (p, q, r, s) = of_two to a is in record { result = p; first = q; second = r; apart = s }
  fits_of (Absolute checked to a) is = let (p, q, r, s) = of_two to a is in record { result = p; first = q; second = r; apart = s }
  fits_of (Odd to a) is = let (p, q, r, s) = of_two to a is in record { result = p; first = q; second = r; apart = s }
  fits_of (Upper to a) is = let (p, q, r, s) = of_two to a is in record { result = p; first = q; second = r; apart = s }
  fits_of (LowBits kind to a) is = let (p, q, r, s) = of_two to a is in record { result = p; first = q; second = r; apart = s }
  fits_of (Check low high to a) is = let (p, q, r, s) = of_two to a is in record { result = p; first = q; second = r; apart = s }
  fits_of (Neighbour distance low high to a) is = let (p, q, r, s) = of_two to a is in record { result = p; first = q; second = r; apart = s }
  fits_of (Single to a) is = let (p, q, r, s) = of_two to a is in record { result = p; first = q; second = r; apart = s }
  fits_of (Span to a b) is = let (p, q, r, s) = of_three to a b is in record { result = p; first = q; second = r; apart = s }
  fits_of (Combine o to a b) is = let (p, q, r, s) = of_three to a b is in record { result = p; first = q; second = r; apart = s }
  fits_of (Contains to a b) is = let (p, q, r, s) = of_three to a b is in record { result = p; first = q; second = r; apart = s }
  fits_of (CheckSet all to a) is = let (p, q, r, s) = of_two to a is in record { result = p; first = q; second = r; apart = s }

pub words_of : (core : Rattle.op_core.specs.declared.program.Core.Core) (r : ℕ) (c : Computation) → IsTypedAction core r (view_computation c) → HasWords c
words_of core r (Arithmetic o checked to a b) typed = tt
words_of core r (Compare o to a b) typed = tt
words_of core r (Negate checked to a) typed = tt
words_of core r (Complement to a) typed = tt
words_of core r (Invert to a) typed = tt
words_of core r (Absolute checked to a) typed = tt
words_of core r (Odd to a) typed = tt
words_of core r (Upper to a) typed = tt
words_of core r (LowBits kind to a) typed = tt
words_of core r (Check low high to a) typed = typed
words_of core r (Neighbour distance low high to a) typed = typed
words_of core r (Single to a) typed = tt
words_of core r (Span to a b) typed = tt
words_of core r (Combine o to a b) typed = tt
words_of core r (Contains to a b) typed = tt
words_of core r (CheckSet all to a) typed = tt

-- ---- blocks

block_for_is : (bank : Bank) (e : RuntimeError) → block_for (work_of bank) e ≡ error_block_of bank e
block_for_is bank DivisionByZero = refl
block_for_is bank RangeCheck = refl
block_for_is bank StackOverflow = refl
block_for_is bank IntegerOverflow = refl

front_none : (g : Setting) (f : Floor) (k : ℕ) → 0 < k → front_of g.core f.frame f.number k ≡ []
front_none g f zero some = absurd (omega arith)
front_none g f (suc k) some = refl

-- a block that is not the first one stands in both codes
pub block_stands : (g : Setting) → IsFitting g → (f : Floor) → IsFloor g f → (block : BlockId) → IsTarget f.routine block → Position g f (block_at ((managed g).blocks f.number) block.0) (block_of g.low (runtime + f.number) block.0)
block_stands g fit f floor block (some, low) =
    let (b, found) = there_is f.routine.blocks block.0 low in
    let fits = fit.routines f.number f.routine floor.found floor.charge in
    let stands = floor.expanded.blocks block.0 b found in
    record {
      is = b.code;
      above =
          ap (λ x. block_at (view_routine g.core f.number x) block.0) floor.found
          ∙ ap block_or (slice_get-map (view_block g.core f.number) f.routine.blocks block.0 ∙ ap (option_map (view_block g.core f.number)) found);
      below = stands.code ∙ ap (λ front. front ++ code_of g.core g.mir f.frame (literals_of g.core g.mir) b.code) (front_none g f block.0 some);
      literals = stands.literals;
      fine = fits.fine block.0 b found;
      homes = subst (λ frame. HaveHomes g.core f.number frame b.code) (sym floor.framed) (fits.homes block.0 b found);
    }

-- ---- straight code that comes to what is meant

module _ (g : Setting) (fit : IsFitting g) (m : MirState) (l : State) (floors : ℕ → Floor) (i : Instruction) (is : List Instruction) (next : Next g m l floors i is) where
  floor_here : IsFloor g (here m floors)
  floor_here = next.stays.activation.floor

  abbrev pub bank_here : Bank
  bank_here = (here m floors).frame.bank

  pub step_here : mir_step (managed g) m ≡ execute (managed g) (view_instruction g.core (here m floors).number i) (record m { work = rest_above g m l floors i is next })
  step_here = step_is g m (view_instruction g.core (here m floors).number i) (rest_above g m l floors i is next) next.ending next.stays.plain.raised next.frames next.above

  -- the machine stands before the code
  pub begins_here : (code : List LowInstruction) → code_for g.core g.mir (here m floors).frame i ≡ code → l ≡ at l l.top.registers (code ++ rest_below g m l floors i is next)
  begins_here code is_code = standing g l (code ++ rest_below g m l floors i is next) next.stays.running (next.below ∙ ap (λ c. c ++ rest_below g m l floors i is next) is_code)

  runs_here : (code : List LowInstruction) → code_for g.core g.mir (here m floors).frame i ≡ code → fewest_steps code ≡ 1 → GoesTo g 1 (length code) l l (rest_below g m l floors i is next) (outcome code l.top.registers)
  runs_here code is_code some =
      subst (λ x. GoesTo g 1 (length code) l x (rest_below g m l floors i is next) (outcome code l.top.registers)) (sym (begins_here code is_code))
      (subst (λ n. GoesTo g n (length code) l (at l l.top.registers (code ++ rest_below g m l floors i is next)) (rest_below g m l floors i is next) (outcome code l.top.registers)) some
      (goes_straight g l code (rest_below g m l floors i is next) l.top.registers))

  -- a temporary becomes a number, or an error ends the program
  pub answered : (code : List LowInstruction) (to : TemporaryId) (x : Meant) → code_for g.core g.mir (here m floors).frame i ≡ code → fewest_steps code ≡ 1 → length code ≤ 16 → (IsLight i → ⊥) → AreFine g.core g.mir (here m floors).number (here m floors).routine is → Answers (work_of bank_here) (register_of bank_here to) l.top.registers x (outcome code l.top.registers) → mir_step (managed g) m ≡ record m { world = settled g.core to.0 x m.world; work = rest_above g m l floors i is next } → Comes g m l
  answered code to x is_code some short heavy fine answers step = by x (outcome code l.top.registers) (runs_here code is_code some) answers step
    where
      affords : (n : ℕ) → n ≤ 32 → n ≤ most_for_one * mir_cost (managed g) m
      affords n few = afford g fit m l floors i is next heavy n (omega arith)

      by : (x : Meant) (o : Outcome) → GoesTo g 1 (length code) l l (rest_below g m l floors i is next) o → Answers (work_of bank_here) (register_of bank_here to) l.top.registers x o → mir_step (managed g) m ≡ record m { world = settled g.core to.0 x m.world; work = rest_above g m l floors i is next } → Comes g m l
      by (gives n) (Behind h) goes answers step = record {
        to = at l h (rest_below g m l floors i is next);
        goes = goes_within g 1 (most_for_one * mir_cost (managed g) m) l (at l h (rest_below g m l floors i is next)) goes (affords (length code) (omega arith));
        stands = subst (λ k. Stands g k (at l h (rest_below g m l floors i is next))) (sym step) (number_stands g m l floors i is next to n h fine answers);
      }
      by (fails e) (Away block h) goes answers step =
          let (k, ends, stands) = error_ends g fit floors m l next.stays e h (rest_above g m l floors i is next) in
          record {
            to = k;
            goes = goes_within g 1 (most_for_one * mir_cost (managed g) m) l k
                (goes_then g 1 5 1 l (at l h (block_of g.low l.top.routine block.0)) k (omega arith) goes (goes_from g 5 (at l h (block_of g.low l.top.routine block.0)) (at l h (block_of g.low l.top.routine (error_block_of bank_here e).0)) k (ap (λ (b : Rattle.op_rv.specs.declared.symbol.BlockId.BlockId). at l h (block_of g.low l.top.routine b.0)) (answers.leads ∙ block_for_is bank_here e)) ends))
                (affords (length code + 5) (omega arith));
            stands = subst (λ x. Stands g x k) (sym step) stands;
          }
      by (gives n) (Away block h) goes answers step = absurd answers
      by (gives n) Crooked goes answers step = absurd answers
      by (fails e) (Behind h) goes answers step = absurd answers
      by (fails e) Crooked goes answers step = absurd answers

  -- ---- code that goes to a block, or on

  pub turned : (code : List LowInstruction) (target : Option ℕ) → code_for g.core g.mir (here m floors).frame i ≡ code → fewest_steps code ≡ 1 → length code ≤ most_for_one * mir_cost (managed g) m → (target ≡ None → AreFine g.core g.mir (here m floors).number (here m floors).routine is) → ((k : ℕ) → target ≡ Some k → IsTarget (here m floors).routine (record { 0 = k })) → Turns (work_of bank_here) l.top.registers target (outcome code l.top.registers) → mir_step (managed g) m ≡ go_if (managed g) target (record m { work = rest_above g m l floors i is next }) → Comes g m l
  turned code target is_code some few fine there turns step = by target (outcome code l.top.registers) (runs_here code is_code some) fine there turns step
    where
      by : (target : Option ℕ) (o : Outcome) → GoesTo g 1 (length code) l l (rest_below g m l floors i is next) o → (target ≡ None → AreFine g.core g.mir (here m floors).number (here m floors).routine is) → ((k : ℕ) → target ≡ Some k → IsTarget (here m floors).routine (record { 0 = k })) → Turns (work_of bank_here) l.top.registers target o → mir_step (managed g) m ≡ go_if (managed g) target (record m { work = rest_above g m l floors i is next }) → Comes g m l
      by None (Behind h) goes fine there turns step = record {
        to = at l h (rest_below g m l floors i is next);
        goes = goes_within g 1 (most_for_one * mir_cost (managed g) m) l (at l h (rest_below g m l floors i is next)) goes few;
        stands = subst (λ k. Stands g k (at l h (rest_below g m l floors i is next))) (sym step) (nothing_stands g m l floors i is next h (fine refl) turns);
      }
      by (Some k) (Away block h) goes fine there (same, kept) step =
          let s = next.stays in
          let a = s.activation in
          let blocks : (managed g).blocks (here m floors).number ≡ (managed g).blocks m.routine = ap (managed g).blocks a.number in
          let position = block_stands g fit (here m floors) floor_here (record { 0 = k }) (there k refl) in
          let low : block_of g.low (runtime + (here m floors).number) k ≡ block_of g.low l.top.routine block.0 = ap₂ (block_of g.low) (sym a.same) (sym same) in
          record {
            to = at l h (block_of g.low l.top.routine block.0);
            goes = goes_within g 1 (most_for_one * mir_cost (managed g) m) l (at l h (block_of g.low l.top.routine block.0)) goes few;
            stands = subst (λ x. Stands g x (at l h (block_of g.low l.top.routine block.0))) (sym step)
                (stands_on g (record m { work = block_at ((managed g).blocks m.routine) k }) (at l h (block_of g.low l.top.routine block.0)) next.ending next.frames (record {
                  floors = floors;
                  stays = stays_registers g floors m l m.world.temps (block_at ((managed g).blocks m.routine) k) h (block_of g.low l.top.routine block.0)
                      (all_variables_kept g (here m floors) a.floor.fits l.top.registers h kept)
                      (temporaries_kept g (here m floors) a.floor.fits m.world.temps l.top.registers h kept a.kept.temporaries) s;
                  position = subst (λ x. Position g (here m floors) x (block_of g.low l.top.routine block.0)) (ap (λ bs. block_at bs k) blocks) (subst (Position g (here m floors) (block_at ((managed g).blocks (here m floors).number) k)) low position);
                }));
          }
      by None (Away block h) goes fine there turns step = absurd turns
      by None Crooked goes fine there turns step = absurd turns
      by (Some k) (Behind h) goes fine there turns step = absurd turns
      by (Some k) Crooked goes fine there turns step = absurd turns
