-- What a call charges: the test of the code is the one that is meant, and where the stack has room for the charge it has room for the routine.
use Rattle.std.proofs.Common.{◌≡◌, ◌≢◌, ◌≤◌, ◌<◌, ◌⊎◌, inl, inr, ℕ, ◌+◌, ◌-◌, List, [], ◌∷◌, length, Some, refl, sym, ap, ap₂, ◌∙◌, arith, None}
use Rattle.std.specs.Prelude.{◌^◌, ◌%◌, min, true, false, nat_eq, nat_lt, slice_get, if◌then◌else◌}
use Rattle.std.proofs.Math.Nat.{min-eq_left, min-eq_right}
use Rattle.std.proofs.lemmas.Bool.{cases_lt}
use Rattle.std.proofs.lemmas.Bool.Decides.{nat_tests}
use Rattle.op_compute.proofs.Registers.{put_lower, put_other, put_same}
use Rattle.op_compute.specs.Bank.{error_block_of}
use Rattle.op_compute.specs.Straight.{Away, Behind, alu_of, outcome, put, takes}
use Rattle.op_compute.specs.declared.bank.RuntimeError.TheVariants.{StackOverflow}
use Rattle.op_expand.specs.Calls.{charge_of, charging_code, runtime}
use Rattle.op_meaning.specs.Shapes.{variables_of}
use Rattle.op_meaning.specs.Values.{Reached, reached, failing}
use Rattle.op_mir.proofs.CallLemmas.{no_outs}
use Rattle.op_places.specs.Frames.{parameters_of}
use Rattle.op_places.specs.Homes.{parameter}
use Rattle.op_places.specs.declared.frame.Frame.{Frame}
use Rattle.op_low.specs.State.{routine_of, space}
use Rattle.op_low.specs.declared.ids.VirtualRegister.{VirtualRegister}
use Rattle.op_meaning.specs.Calls.{begun, caller_of, emptied_type, entered, goes_in_behind, outs_of}
use Rattle.op_meaning.specs.Frames.{Handed, a_routine, at_reached, fails}
use Rattle.op_meaning.specs.Items.{Receiver}
use Rattle.op_mir.specs.Machine.{Code, MirState, block_at, code_rules, tables}
use Rattle.op_mir.specs.View.{routine_at}
use Rattle.op_mir.specs.declared.code.Routine.{Routine}
use Rattle.op_rv.specs.declared.instruction.AluOp.TheVariants.{Sub}
use Rattle.op_rv.specs.declared.instruction.BranchOp.TheVariants.{Bltu}
use Rattle.op_agreement.specs.Fitting.{IsFitting, RoutineFits}
use Rattle.op_agreement.specs.Settings.{Setting, managed}
use Rattle.op_agreement.specs.Typed.{parameter_rows}

-- ---- the charge

-- the test of the code, by as much of the charge as a word has, is the one that is meant
pub charge_over : (bytes charged stack charge : ℕ) → bytes + charged ≡ stack → stack ≤ 2 ^ 26 → nat_lt stack (charged + charge) ≡ true → nat_lt bytes (min charge (2 ^ 32 - 1)) ≡ true
charge_over bytes charged stack charge sum few over = by (cases_lt charge (2 ^ 32 - 1))
  where
    more : bytes < charge
    more = let e : stack < charged + charge = grind (arith, nat_tests) in omega arith

    by : (charge < 2 ^ 32 - 1) ⊎ (2 ^ 32 - 1 ≤ charge) → nat_lt bytes (min charge (2 ^ 32 - 1)) ≡ true
    by (inl low) = let less = more in let e : nat_lt bytes charge ≡ true = grind (arith, nat_tests) in ap (nat_lt bytes) (min-eq_left (omega arith)) ∙ e
    by (inr high) = let e : nat_lt bytes (2 ^ 32 - 1) ≡ true = grind (arith, nat_tests) in ap (nat_lt bytes) (min-eq_right high) ∙ e

-- and where the stack has room, the code has the whole charge
charge_within : (bytes charged stack charge : ℕ) → bytes + charged ≡ stack → stack ≤ 2 ^ 26 → nat_lt stack (charged + charge) ≡ false → (charge ≤ bytes) × (min charge (2 ^ 32 - 1) ≡ charge) × (nat_lt bytes (min charge (2 ^ 32 - 1)) ≡ false)
charge_within bytes charged stack charge sum few under =
    let e : charged + charge ≤ stack = grind (arith, nat_tests) in
    let less : charge ≤ bytes = omega arith in
    let all : min charge (2 ^ 32 - 1) ≡ charge = min-eq_left (omega arith) in
    let test : nat_lt bytes charge ≡ false = grind (arith, nat_tests) in
    (less, all, ap (nat_lt bytes) all ∙ test)

module _ (frame : Frame) (to : VirtualRegister) (n : ℕ) (f : ℕ → ℕ) (behind : 0 < to.0) where
  -- the registers behind the charge
  abbrev pub charged_registers : ℕ → ℕ
  charged_registers = put (put f to n) to (alu_of Sub (put f to n 0) (put f to n to.0))

  -- the branch tests the bytes that are left
  test_is : takes Bltu (put f to n 0) (put f to n to.0) ≡ nat_lt (f 0) n
  unfolding takes
  test_is = ap₂ nat_lt (put_lower f to n 0 behind) (put_same f to n)

  -- the code comes to error 202 where fewer bytes are left
  pub over_charged : nat_lt (f 0) n ≡ true → outcome (charging_code frame to n) f ≡ Away (error_block_of frame.bank StackOverflow) (put f to n)
  unfolding outcome
  over_charged over = ap (λ b. if b then Away (error_block_of frame.bank StackOverflow) (put f to n) else Behind charged_registers) (test_is ∙ over)

  -- and else goes on
  pub has_charge : nat_lt (f 0) n ≡ false → outcome (charging_code frame to n) f ≡ Behind charged_registers
  unfolding outcome
  has_charge under = ap (λ b. if b then Away (error_block_of frame.bank StackOverflow) (put f to n) else Behind charged_registers) (test_is ∙ under)

  -- with so many bytes fewer in the register for them
  pub charged_left : n ≤ f 0 → f 0 < 2 ^ 32 → charged_registers to.0 ≡ f 0 - n
  unfolding alu_of
  charged_left less word =
      let bytes = put_lower f to n 0 behind in
      let charge = put_same f to n in
      let e : (f 0 + (2 ^ 32 - n)) % 2 ^ 32 ≡ f 0 - n = omega arith in
      put_same (put f to n) to (alu_of Sub (put f to n 0) (put f to n to.0)) ∙ ap₂ (λ a b. (a + (2 ^ 32 - b)) % 2 ^ 32) bytes charge ∙ e

  -- and all else as it was
  pub charged_other : (r : ℕ) → r ≢ to.0 → charged_registers r ≡ f r
  charged_other r other = put_other (put f to n) to (alu_of Sub (put f to n 0) (put f to n to.0)) r other ∙ put_other f to n r other

-- ---- the routine that is called

module _ (g : Setting) (fit : IsFitting g) (r : ℕ) (x : Routine) (low : r < length g.mir.routines) (there : slice_get g.mir.routines r ≡ Some x) where
  -- it is no other one than the program has
  pub found_there : routine_at g.mir r ≡ Some x
  found_there = let t : nat_eq r (length g.mir.routines) ≡ false = grind (arith, nat_tests) in ap (λ b. if b then Some g.mir.program else slice_get g.mir.routines r) t ∙ there

  -- what is charged above
  pub charge_above : (managed g).charge r ≡ x.charge
  charge_above = rw found_there refl

  -- what is charged below, as far as a word has it
  pub charge_below : charge_of g.mir r ≡ min x.charge (2 ^ 32 - 1)
  charge_below = rw there refl

  -- it has as many parameters as it has rows for them, and two more
  pub parameters_are : RoutineFits g r x → length (parameter_rows g.core r) ≡ parameters_of g.core r → (routine_of g.low (runtime + r)).parameters ≡ 2 + length (parameter_rows g.core r)
  parameters_are fits rows =
      let number = fit.program.number in
      let t : nat_eq r (length g.core.routines) ≡ false = grind (arith, nat_tests) in
      fits.expanded.parameters ∙ ap (λ b. if b then 0 else parameter (parameters_of g.core r)) t ∙ ap parameter (sym rows)

  -- where the stack has room for the charge, it has room for the activation
  pub record HasRoomFor (bytes room : ℕ) : Type 0 where
    pub fits : RoutineFits g r x
    pub charge : x.charge ≤ bytes
    pub whole : charge_of g.mir r ≡ x.charge
    pub test : nat_lt bytes (charge_of g.mir r) ≡ false
    pub space : space g.low g.placement (runtime + r) ≤ room

  -- and it has that where error 202 does not come
  pub room_for : (bytes charged room : ℕ) → bytes + charged ≡ g.stack → bytes + 1024 ≤ room → nat_lt g.stack (charged + (managed g).charge r) ≡ false → HasRoomFor bytes room
  room_for bytes charged room sum enough under =
      let few = fit.program.stack in
      let (charge, whole, test) = charge_within bytes charged g.stack x.charge sum few (ap (λ n. nat_lt g.stack (charged + n)) (sym charge_above) ∙ under) in
      let fits = fit.routines r x found_there (omega arith) in
      let taken = fits.space low in
      record { fits = fits; charge = charge; whole = charge_below ∙ whole; test = ap (nat_lt bytes) charge_below ∙ test; space = omega arith }

-- what is meant where the stack has no room
pub begun_over : (c : Code) (r : ℕ) (receiver : Receiver) (given : List Handed) (m : MirState) → nat_lt c.stack (m.charged + c.charge r) ≡ true → begun (code_rules c) r receiver given m ≡ fails (tables c) 202 m
begun_over c r receiver given m over = rw over refl

-- the state in which a routine begins
abbrev pub begun_above : Code → ℕ → Receiver → List Handed → MirState → MirState
begun_above c r receiver given m = record {
  world = entered (tables c) r given m.world;
  routine = r;
  work = block_at (c.blocks r) 0;
  frames = [];
  callers = caller_of m receiver ∷ m.callers;
  pending = m.pending;
  charged = m.charged + c.charge r;
  counts = tt;
}

-- what is meant where it has room
pub begun_under : (c : Code) (r : ℕ) (receiver : Receiver) (given : List Handed) (m : MirState) → nat_lt c.stack (m.charged + c.charge r) ≡ false → begun (code_rules c) r receiver given m ≡ begun_above c r receiver given m
begun_under c r receiver given m under = rw under refl

-- what a call does once its paths have been followed, where nothing has to be emptied
abbrev pub goes_in_with : Code → ℕ → Receiver → Reached (List Handed) → MirState → MirState
goes_in_with c r receiver given m = at_reached (tables c) given (λ xs. begun (code_rules c) r receiver xs m) m

pub call_is : (c : Code) → ((v : ℕ) → emptied_type c.core (slice_get c.core.variables v) ≡ None) → (r : ℕ) (receiver : Receiver) (given : Reached (List Handed)) (m : MirState)
    → at_reached (tables c) given (λ xs. goes_in_behind (code_rules c) (a_routine r) receiver xs (outs_of c.core (a_routine r) xs) m) m ≡ goes_in_with c r receiver given m
call_is c none r receiver (failing error) m = refl
call_is c none r receiver (reached xs) m = ap (λ qs. goes_in_behind (code_rules c) (a_routine r) receiver xs qs m) (no_outs c.core none (variables_of c.core r).first xs)
