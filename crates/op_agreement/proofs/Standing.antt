-- States that stand for one another: what is known where both go on, and how that is kept.
use Rattle.std.proofs.Common.{◌≡◌, ◌≤◌, ◌<◌, ◌⊎◌, ℕ, suc, ◌+◌, List, [], ◌∷◌, ◌++◌, length, None, refl, sym, ap, ◌∙◌, subst, arith}
use Rattle.std.specs.Prelude.{◌^◌, map, ℤ}
use Rattle.std.specs.List.{flat_map}
use Rattle.op_compute.specs.Meaning.{IsWordOf}
use Rattle.op_compute.specs.Straight.{at}
use Rattle.op_constants.specs.Literals.{instruction_literals, literals_of}
use Rattle.op_places.specs.Homes.{home_at, parameter}
use Rattle.op_places.specs.declared.homes.Home.TheVariants.{Held}
use Rattle.op_low.specs.State.{State}
use Rattle.op_low.specs.declared.instruction.Instruction.{Instruction as LowInstruction}
use Rattle.op_meaning.specs.Shapes.{variables_of}
use Rattle.op_meaning.specs.Values.{Value, Holder, local, Place, number_in}
use Rattle.op_meaning.specs.Frames.{Frame}
use Rattle.op_meaning.specs.World.{Running as GoingOn}
use Rattle.op_mir.specs.Code.{Instr}
use Rattle.op_mir.specs.Machine.{MirState, execute, mir_acted, mir_done, mir_step, mir_step_by, mir_stepped}
use Rattle.op_mir.specs.View.{view_instruction}
use Rattle.op_mir.specs.declared.instruction.Instruction.{Instruction}
use Rattle.op_agreement.specs.Chart.{Floor}
use Rattle.op_agreement.specs.Coding.{code_for}
use Rattle.op_expand.specs.Routines.{code_of}
use Rattle.op_agreement.specs.Settings.{Setting, managed, AreLiterals, FrameFits, HomeFits, HasHomes, HaveHomes}
use Rattle.op_agreement.specs.Stands.{AreKept, CallersStand, GoesOn, Stands, Stays, StandsBy}
use Rattle.op_agreement.specs.Typed.{AreFine, IsFine, IsPaid, Leaves}

-- ---- a state that goes on, and its next instruction

abbrev pub here : MirState → (ℕ → Floor) → Floor
here m floors = floors (length m.callers)

-- the instruction i stands next, and the code of others behind it
pub record Next (g : Setting) (m : MirState) (l : State) (floors : ℕ → Floor) (i : Instruction) (is : List Instruction) : Type 0 where
  pub stays : Stays g floors m l
  pub ending : m.world.ending ≡ GoingOn
  pub frames : m.frames ≡ []
  pub above : m.work ≡ view_instruction g.core (here m floors).number i ∷ map (view_instruction g.core (here m floors).number) is
  pub below : l.top.now ≡ code_for g.core g.mir (here m floors).frame i ++ code_of g.core g.mir (here m floors).frame (literals_of g.core g.mir) is
  pub literals : AreLiterals (literals_of g.core g.mir) (instruction_literals g.core (here m floors).number i)
  pub others : AreLiterals (literals_of g.core g.mir) (flat_map (instruction_literals g.core (here m floors).number) is)
  pub fine : IsFine g.core g.mir (here m floors).number (here m floors).routine i
  pub paid : IsPaid g.mir (here m floors).number (here m floors).routine i
  pub on : Leaves i ⊎ AreFine g.core g.mir (here m floors).number (here m floors).routine is
  pub homes : HasHomes g.core (here m floors).number (here m floors).frame i
  pub more : HaveHomes g.core (here m floors).number (here m floors).frame is

-- literals in two lists, one behind the other
pub literals_split : (all xs ys : List (List ℕ)) → AreLiterals all (xs ++ ys) → AreLiterals all xs × AreLiterals all ys
literals_split all [] ys are = (tt, are)
literals_split all (x ∷ xs) ys (first, rest) = let (front, back) = literals_split all xs ys rest in ((first, front), back)

-- the step of managed code is that of its next instruction
pub step_is : (g : Setting) (m : MirState) (i : Instr) (rest : List Instr) → m.world.ending ≡ GoingOn → m.world.raised ≡ None → m.frames ≡ [] → m.work ≡ i ∷ rest → mir_step (managed g) m ≡ execute (managed g) i (record m { work = rest })
unfolding mir_step mir_step_by mir_stepped mir_acted mir_done
step_is g m i rest ending raised frames is =
    ap (λ e. mir_step_by (managed g) e m) ending ∙ ap (λ r. mir_stepped (managed g) r m) raised ∙ ap (λ f. mir_acted (managed g) f m) frames ∙ ap (λ r. mir_done (managed g) r m) is

-- what goes on stands for what goes on
pub stands_on : (g : Setting) (m : MirState) (l : State) → m.world.ending ≡ GoingOn → m.frames ≡ [] → GoesOn g m l → Stands g m l
stands_on g m l ending frames goes = subst (λ e. StandsBy g e m.frames m l) (sym ending) (subst (λ f. StandsBy g GoingOn f m l) (sym frames) goes)

-- ---- what is kept where registers of temporaries and scratch registers change

-- registers in front of the temporaries are as they were
abbrev pub SameVariables : Floor → (ℕ → ℕ) → (ℕ → ℕ) → Type 0
SameVariables f old new = (r : ℕ) → r < f.frame.bank.temporaries → new r ≡ old r

abbrev pub Temporaries : Floor → (ℕ → ℤ) → (ℕ → ℕ) → Type 0
Temporaries f temps registers = (t : ℕ) → t < f.routine.temporaries → IsWordOf (registers (f.frame.bank.temporaries + t)) (temps t)

module _ (g : Setting) (floors : ℕ → Floor) where
  held_below : (d v r : ℕ) → FrameFits g.core (floors d).number (floors d).routine (floors d).frame → v < (variables_of g.core (floors d).number).count → home_at (floors d).frame.homes (record { 0 = v }) ≡ Held (record { 0 = r }) → r < (floors d).frame.bank.temporaries
  held_below d v r fits low is = (subst (HomeFits (floors d).frame) is (fits.homes (record { 0 = v }) low)).1

  pub kept_registers : (d : ℕ) (values : Holder → Value) (bound : ℕ → ℕ → Place) (temps new_temps : ℕ → ℤ) (old new : ℕ → ℕ) → FrameFits g.core (floors d).number (floors d).routine (floors d).frame → SameVariables (floors d) old new → Temporaries (floors d) new_temps new → AreKept g floors d values bound temps old → AreKept g floors d values bound new_temps new
  kept_registers d values bound temps new_temps old new fits same are kept = record {
    variables = λ v r is home. subst (λ x. IsWordOf x (number_in (values (local d v)))) (sym (same r (held_below d v r fits is.0 home))) (kept.variables v r is home);
    references = λ v is. subst (Rattle.op_agreement.specs.Chart.IsAt g floors d (bound d v) _) (sym (same (parameter v) (held_below d v (parameter v) fits is.0 (fits.references (record { 0 = v }) is)))) (kept.references v is);
    words = λ v is. subst (λ x. x < 2 ^ 32) (sym (same (parameter v) (held_below d v (parameter v) fits is.0 (fits.references (record { 0 = v }) is)))) (kept.words v is);
    temporaries = are;
  }

-- temporaries of the activation under way change, and nothing else
pub stays_registers : (g : Setting) (floors : ℕ → Floor) (m : MirState) (l : State) (temps : ℕ → ℤ) (rest : List Instr) (f : ℕ → ℕ) (now : List LowInstruction) → SameVariables (here m floors) l.top.registers f → Temporaries (here m floors) temps f → Stays g floors m l → Stays g floors (record m { world = record m.world { temps = temps }; work = rest }) (at l f now)
stays_registers g floors m l temps rest f now same are s =
    let a = s.activation in
    let fits = a.floor.fits in
    let behind = fits.behind in
    let zeroth : f 0 ≡ l.top.registers 0 = same 0 (omega arith) in
    let first : f 1 ≡ l.top.registers 1 = same 1 (omega arith) in
    record {
      running = refl;
      plain = record { raised = s.plain.raised; made = s.plain.made; waiting = s.plain.waiting };
      pending = s.pending;
      depth = s.depth;
      activation = record {
        floor = a.floor;
        number = a.number;
        same = a.same;
        kept = kept_registers g floors (length m.callers) m.world.memory m.world.bound m.world.temps temps l.top.registers f fits same are a.kept;
        left = ap (λ x. x + m.charged) zeroth ∙ a.left;
        base = a.base;
        enough = subst (λ x. x + 1024 ≤ l.room) (sym zeroth) a.enough;
        top = a.top;
      };
      callers = subst (λ x. CallersStand g floors m.world.memory m.world.bound m.callers l.callers m.routine x l.limit l.room m.charged) (sym first) s.callers;
      lie = s.lie;
      fixed = s.fixed;
      heap = s.heap;
      due = s.due;
      bytes = s.bytes;
      output = s.output;
      errors = s.errors;
      input = s.input;
    }

-- scratch registers of the activation under way change, and what it is to do
pub stays_closing : (g : Setting) (floors : ℕ → Floor) (m : MirState) (l : State) (frames : List Frame) (rest : List Instr) (f : ℕ → ℕ) (now : List LowInstruction) → SameVariables (here m floors) l.top.registers f → Temporaries (here m floors) m.world.temps f → Stays g floors m l → Stays g floors (record m { work = rest; frames = frames }) (at l f now)
stays_closing g floors m l frames rest f now same are s =
    let a = s.activation in
    let fits = a.floor.fits in
    let behind = fits.behind in
    let zeroth : f 0 ≡ l.top.registers 0 = same 0 (omega arith) in
    let first : f 1 ≡ l.top.registers 1 = same 1 (omega arith) in
    record {
      running = refl;
      plain = s.plain;
      pending = s.pending;
      depth = s.depth;
      activation = record {
        floor = a.floor;
        number = a.number;
        same = a.same;
        kept = kept_registers g floors (length m.callers) m.world.memory m.world.bound m.world.temps m.world.temps l.top.registers f fits same are a.kept;
        left = ap (λ x. x + m.charged) zeroth ∙ a.left;
        base = a.base;
        enough = subst (λ x. x + 1024 ≤ l.room) (sym zeroth) a.enough;
        top = a.top;
      };
      callers = subst (λ x. CallersStand g floors m.world.memory m.world.bound m.callers l.callers m.routine x l.limit l.room m.charged) (sym first) s.callers;
      lie = s.lie;
      fixed = s.fixed;
      heap = s.heap;
      due = s.due;
      bytes = s.bytes;
      output = s.output;
      errors = s.errors;
      input = s.input;
    }
