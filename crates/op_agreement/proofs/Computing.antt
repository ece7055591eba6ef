-- Instructions that are straight code: constants, computations, jumps, branches and switches.
use Rattle.std.proofs.Common.{◌≡◌, ◌⊎◌, inl, inr, ℕ, ℤ, ◌+◌, List, refl, sym, ap, subst, arith}
use Rattle.std.specs.Prelude.{map, Bool, true, false, nat_eq, if◌then◌else◌}
use Rattle.std.proofs.lemmas.Bool.{cases_eq}
use Rattle.std.proofs.lemmas.Bool.Decides.{nat_tests}
use Rattle.op_compute.specs.Bank.{register_of, work_of}
use Rattle.op_compute.specs.Meaning.{AreKept as KeepsAll, Gives, IsWordOf}
use Rattle.op_compute.specs.Straight.{at}
use Rattle.op_compute.specs.Turning.{AreAllKept}
use Rattle.op_constants.specs.Literals.{literals_of}
use Rattle.op_low.specs.State.{State}
use Rattle.op_low.specs.declared.instruction.Instruction.{Instruction as LowInstruction}
use Rattle.op_meaning.specs.Values.{Value, number, number_in}
use Rattle.op_meaning.specs.World.{with_number}
use Rattle.op_mir.specs.Code.{Instr}
use Rattle.op_mir.specs.Machine.{MirState}
use Rattle.op_mir.specs.View.{view_instruction}
use Rattle.op_mir.specs.declared.ids.TemporaryId.{TemporaryId}
use Rattle.op_mir.specs.declared.instruction.Instruction.{Instruction}
use Rattle.op_agreement.proofs.Standing.{Next, SameVariables, Temporaries, here, stands_on, stays_registers}
use Rattle.op_agreement.specs.Chart.{Floor}
use Rattle.op_expand.specs.Routines.{code_of}
use Rattle.op_agreement.specs.Settings.{Setting, FrameFits}
use Rattle.op_agreement.specs.Stands.{Position, Stands}
use Rattle.op_agreement.specs.Typed.{AreFine}

-- ---- registers

-- the work registers stand behind those of the temporaries
scratch_behind : (g : Setting) (f : Floor) → FrameFits g.core f.number f.routine f.frame → (work_of f.frame.bank).first.0 ≡ f.frame.bank.temporaries + f.routine.temporaries
scratch_behind g f fits = let e = fits.scratch in omega arith

module _ (g : Setting) (f : Floor) (fits : FrameFits g.core f.number f.routine f.frame) where
  pub variables_kept : (to : TemporaryId) (old new : ℕ → ℕ) → KeepsAll (work_of f.frame.bank) (register_of f.frame.bank to) old new → SameVariables f old new
  variables_kept to old new kept r low = let e = scratch_behind g f fits in kept r (omega arith) (λ same. omega arith)

  pub all_variables_kept : (old new : ℕ → ℕ) → AreAllKept (work_of f.frame.bank) old new → SameVariables f old new
  all_variables_kept old new kept r low = let e = scratch_behind g f fits in kept r (omega arith)

  pub temporaries_kept : (temps : ℕ → ℤ) (old new : ℕ → ℕ) → AreAllKept (work_of f.frame.bank) old new → Temporaries f temps old → Temporaries f temps new
  temporaries_kept temps old new kept are t low =
      let e = scratch_behind g f fits in
      subst (λ x. IsWordOf x (temps t)) (sym (kept (f.frame.bank.temporaries + t) (omega arith))) (are t low)

  -- one temporary has become a number
  pub temporary_set : (to : TemporaryId) (n : ℤ) (temps : ℕ → ℤ) (old new : ℕ → ℕ) → Gives (work_of f.frame.bank) (register_of f.frame.bank to) old new n → Temporaries f temps old → Temporaries f (λ u. if nat_eq u to.0 then n else temps u) new
  temporary_set to n temps old new gives are t low = by (cases_eq t to.0)
    where
      by : (t ≡ to.0) ⊎ (t ≡ to.0 → ⊥) → IsWordOf (new (f.frame.bank.temporaries + t)) (if nat_eq t to.0 then n else temps t)
      by (inl same) =
          let test : nat_eq t to.0 ≡ true = grind (arith, nat_tests) in
          let there : new (f.frame.bank.temporaries + to.0) ≡ new (f.frame.bank.temporaries + t) = ap (λ u. new (f.frame.bank.temporaries + u)) (sym same) in
          subst (λ b. IsWordOf (new (f.frame.bank.temporaries + t)) (if b then n else temps t)) (sym test) (subst (λ x. IsWordOf x n) there gives.result)
      by (inr other) =
          let test : nat_eq t to.0 ≡ false = grind (arith, nat_tests) in
          let e = scratch_behind g f fits in
          let there : new (f.frame.bank.temporaries + t) ≡ old (f.frame.bank.temporaries + t) = gives.others (f.frame.bank.temporaries + t) (omega arith) (λ same. other (omega arith)) in
          subst (λ b. IsWordOf (new (f.frame.bank.temporaries + t)) (if b then n else temps t)) (sym test) (subst (λ x. IsWordOf x (temps t)) (sym there) (are t low))

-- ---- what stands behind the next instruction

module _ (g : Setting) (m : MirState) (l : State) (floors : ℕ → Floor) (i : Instruction) (is : List Instruction) (next : Next g m l floors i is) where
  abbrev pub rest_above : List Instr
  rest_above = map (view_instruction g.core (here m floors).number) is

  abbrev pub rest_below : List LowInstruction
  rest_below = code_of g.core g.mir (here m floors).frame (literals_of g.core g.mir) is

  pub rest_stands : AreFine g.core g.mir (here m floors).number (here m floors).routine is → Position g (here m floors) rest_above rest_below
  rest_stands fine = record { is = is; above = refl; below = refl; literals = next.others; fine = fine; homes = next.more }

  -- a temporary has become a number
  pub number_stands : (to : TemporaryId) (n : ℤ) (h : ℕ → ℕ) → AreFine g.core g.mir (here m floors).number (here m floors).routine is → Gives (work_of (here m floors).frame.bank) (register_of (here m floors).frame.bank to) l.top.registers h n → Stands g (record m { world = with_number to.0 n m.world; work = rest_above }) (at l h rest_below)
  number_stands to n h fine gives =
      let s = next.stays in
      let fits = s.activation.floor.fits in
      stands_on g (record m { world = with_number to.0 n m.world; work = rest_above }) (at l h rest_below) next.ending next.frames (record {
        floors = floors;
        stays = stays_registers g floors m l (λ u. if nat_eq u to.0 then n else m.world.temps u) rest_above h rest_below
            (variables_kept g (here m floors) fits to l.top.registers h gives.others)
            (temporary_set g (here m floors) fits to n m.world.temps l.top.registers h gives s.activation.kept.temporaries) s;
        position = rest_stands fine;
      })

  -- nothing has changed but scratch registers
  pub nothing_stands : (h : ℕ → ℕ) → AreFine g.core g.mir (here m floors).number (here m floors).routine is → AreAllKept (work_of (here m floors).frame.bank) l.top.registers h → Stands g (record m { work = rest_above }) (at l h rest_below)
  nothing_stands h fine kept =
      let s = next.stays in
      let fits = s.activation.floor.fits in
      stands_on g (record m { work = rest_above }) (at l h rest_below) next.ending next.frames (record {
        floors = floors;
        stays = stays_registers g floors m l m.world.temps rest_above h rest_below
            (all_variables_kept g (here m floors) fits l.top.registers h kept)
            (temporaries_kept g (here m floors) fits m.world.temps l.top.registers h kept s.activation.kept.temporaries) s;
        position = rest_stands fine;
      })
