-- Low code follows managed code: each instruction, and the ends of a program.
use Rattle.std.proofs.Common.{◌≡◌, ◌⊎◌, inl, inr, ℕ, List, [], ◌∷◌, Option, refl, sym, subst, arith}
use Rattle.std.specs.Prelude.{map}
use Rattle.std.specs.List.{flat_map}
use Rattle.std.proofs.lemmas.List.Concat.{flat_map-cons}
use Rattle.op_constants.specs.Literals.{instruction_literals, literals_of}
use Rattle.op_low.specs.State.{State}
use Rattle.op_core.specs.declared.ids.RoutineId.{RoutineId}
use Rattle.op_meaning.specs.Frames.{Frame, walk, destruction, construction, closing, uncharged, calling}
use Rattle.op_meaning.specs.World.{Ending, Running as GoingOn, Ended as HasEnded}
use Rattle.op_mir.specs.declared.instruction.Call.{Call as Operands}
use Rattle.op_mir.specs.Machine.{MirState, mir_step}
use Rattle.op_mir.specs.View.{view_instruction}
use Rattle.op_mir.specs.declared.action.Action.TheVariants.{Constant, Load, Store, Copy, Look, BeginWith, Pick, Compute, Do}
use Rattle.op_mir.specs.declared.action.Action.{Action}
use Rattle.op_mir.specs.declared.ids.BlockId.{BlockId}
use Rattle.op_mir.specs.declared.instruction.Instruction.TheVariants.{Act, Call, Jump, When, Unless, Switch, Dispatch, MakeDue, OpenTemporaries, EndTemporary, Stop, Return}
use Rattle.op_mir.specs.declared.instruction.Instruction.{Instruction}
use Rattle.op_agreement.proofs.Assigning.{copy_comes}
use Rattle.op_agreement.proofs.Beginning.{begin_with_comes}
use Rattle.op_agreement.proofs.Calling.{call_begins}
use Rattle.op_agreement.proofs.Cases.{compute_comes, constant_comes, dispatch_comes, jump_comes, switch_comes, unless_comes, when_comes}
use Rattle.op_agreement.proofs.Closing.{closing_comes, ended_comes, stays_above, stop_comes}
use Rattle.op_agreement.proofs.Computing.{rest_below}
use Rattle.op_agreement.proofs.Finalizing.{closing_goes_on, closing_step}
use Rattle.op_agreement.proofs.Following.{agrees, follows_by}
use Rattle.op_agreement.proofs.Loading.{load_comes}
use Rattle.op_agreement.proofs.Looking.{look_comes}
use Rattle.op_agreement.proofs.MakingDue.{make_due_comes}
use Rattle.op_agreement.proofs.Opening.{begins_comes}
use Rattle.op_agreement.proofs.Picking.{pick_comes}
use Rattle.op_agreement.proofs.PartsResult.{return_comes}
use Rattle.op_agreement.proofs.Standing.{Next, here, literals_split}
use Rattle.op_agreement.proofs.StillDue.{closing_due, instruction_due}
use Rattle.op_agreement.proofs.Storing.{store_comes}
use Rattle.op_agreement.proofs.Waiting.{caller_waits}
use Rattle.op_agreement.proofs.Primitives.{primitive_comes}
use Rattle.op_agreement.specs.Chart.{Floor}
use Rattle.op_agreement.specs.Claims.{AgreesForEver, LowCodeFollows}
use Rattle.op_expand.specs.Calls.{finalizations}
use Rattle.op_expand.specs.Routines.{code_of}
use Rattle.op_agreement.specs.Coding.{code_for}
use Rattle.op_agreement.specs.Fitting.{IsFitting}
use Rattle.op_agreement.specs.Handing.{Begins}
use Rattle.op_agreement.specs.Settings.{AreLiterals, HaveHomes, Setting, managed}
use Rattle.op_agreement.specs.Stands.{ArePending, AreStillDue, StandsBy, Stays}
use Rattle.op_agreement.specs.Steps.{Comes}
use Rattle.op_agreement.specs.Typed.{AreFine}

module _ (g : Setting) (fit : IsFitting g) (m : MirState) (l : State) (ending : m.world.ending ≡ GoingOn) (frames : m.frames ≡ []) (floors : ℕ → Floor) (s : Stays g floors m l) (due : AreStillDue g m) where
  -- the next instruction of a position
  next_of : (i : Instruction) (is : List Instruction) → m.work ≡ map (view_instruction g.core (here m floors).number) (i ∷ is) → l.top.now ≡ code_of g.core g.mir (here m floors).frame (literals_of g.core g.mir) (i ∷ is) → AreLiterals (literals_of g.core g.mir) (flat_map (instruction_literals g.core (here m floors).number) (i ∷ is)) → AreFine g.core g.mir (here m floors).number (here m floors).routine (i ∷ is) → HaveHomes g.core (here m floors).number (here m floors).frame (i ∷ is) → Next g m l floors i is
  unfolding code_for
  next_of i is above below literals fine homes =
      let (first, others) = literals_split (literals_of g.core g.mir) (instruction_literals g.core (here m floors).number i) (flat_map (instruction_literals g.core (here m floors).number) is) (subst (AreLiterals (literals_of g.core g.mir)) (flat_map-cons (instruction_literals g.core (here m floors).number) i is) literals) in
      record { stays = s; ending = ending; frames = frames; above = above; below = below; literals = first; others = others; fine = fine.0; paid = fine.1; on = fine.2; homes = homes.0; more = homes.1 }

  action_comes : (a : Action) (landing : Option BlockId) (is : List Instruction) → Next g m l floors (Act a landing) is → Comes g m l
  action_comes (Constant to n) landing is next = constant_comes g fit m l floors is to n landing next
  action_comes (Load to kind from) landing is next = load_comes g fit m l floors is to kind from landing next
  action_comes (Store to kind from) landing is next = store_comes g fit m l floors is kind from to landing next
  action_comes (Compute c) landing is next = compute_comes g fit m l floors is c landing next
  action_comes (Do p os to) landing is next = primitive_comes g fit m l floors is p os to landing next
  action_comes (Copy of to from) landing is next = copy_comes g fit m l floors is of to from landing next
  action_comes (Look at) landing is next = look_comes g fit m l floors is at landing next
  action_comes (BeginWith v) landing is next = begin_with_comes g fit m l floors is v landing next
  action_comes (Pick to text index) landing is next = pick_comes g fit m l floors is to text index landing next

  -- a call ends by an error of its arguments, by error 202, or the routine begins
  call_comes : (callee : RoutineId) (call : Operands) (is : List Instruction) → Next g m l floors (Call callee call) is → Comes g m l
  call_comes callee call is next = by (call_begins g fit m l floors callee call is next (fit.program.parameters callee.0 (let number = fit.program.number in let there = next.fine.0 in omega arith)))
    where
      by : Comes g m l ⊎ Begins g m l floors callee.0 call (rest_below g m l floors (Call callee call) is next) → Comes g m l
      by (inl comes) = comes
      by (inr begins) =
          begins_comes g fit m l floors callee call is next begins
          (λ new values bound same variables places locals. caller_waits g fit m l floors callee call is next begins new values bound same (record { variables = variables; places = places }) locals)

  instruction_comes : (i : Instruction) (is : List Instruction) → Next g m l floors i is → Comes g m l
  instruction_comes (Act a landing) is next = action_comes a landing is next
  instruction_comes (Call r call) is next = call_comes r call is next
  instruction_comes (Jump block) is next = jump_comes g fit m l floors is block next
  instruction_comes (When t block) is next = when_comes g fit m l floors is t block next
  instruction_comes (Unless t block) is next = unless_comes g fit m l floors is t block next
  instruction_comes (Switch t arms) is next = switch_comes g fit m l floors is t arms next
  instruction_comes (Dispatch t block) is next = dispatch_comes g fit m l floors is t block next
  instruction_comes (MakeDue f) is next = make_due_comes g fit m l floors is f due next
  instruction_comes (OpenTemporaries ts) is next = absurd next.fine
  instruction_comes (EndTemporary t) is next = absurd next.fine
  instruction_comes (Stop t) is next = stop_comes g fit m l floors is t next
  instruction_comes Return is next = return_comes g fit m l floors is due next

  -- low code comes along, and what is still to become due does so
  abbrev Steps : Type 0
  Steps = Comes g m l × AreStillDue g (mir_step (managed g) m)

  position_comes : (is : List Instruction) → m.work ≡ map (view_instruction g.core (here m floors).number) is → l.top.now ≡ code_of g.core g.mir (here m floors).frame (literals_of g.core g.mir) is → AreLiterals (literals_of g.core g.mir) (flat_map (instruction_literals g.core (here m floors).number) is) → AreFine g.core g.mir (here m floors).number (here m floors).routine is → HaveHomes g.core (here m floors).number (here m floors).frame is → Steps
  position_comes [] above below literals fine homes = absurd fine
  position_comes (i ∷ is) above below literals fine homes = let next = next_of i is above below literals fine homes in (instruction_comes i is next, instruction_due g fit m l floors due i is next)

-- from any states that stand for one another
module _ (g : Setting) (fit : IsFitting g) where
  comes_by : (e : Ending) (frames : List Frame) (m : MirState) (l : State) → m.world.ending ≡ e → m.frames ≡ frames → AreStillDue g m → StandsBy g e frames m l → Comes g m l × AreStillDue g (mir_step (managed g) m)
  comes_by (HasEnded status) frames m l ending frames_are due s = (ended_comes g m l status ending s, subst (AreStillDue g) (sym (stays_above g m status ending)) due)
  comes_by GoingOn [] m l ending frames_are due s =
      position_comes g fit m l ending frames_are s.floors s.stays due s.position.is s.position.above s.position.below s.position.literals s.position.fine s.position.homes
  comes_by GoingOn (closing status ∷ []) m l ending frames_are due (inl s) =
      (closing_comes g m l status ending frames_are s, subst (AreStillDue g) (sym (closing_step g m status m.pending ending frames_are s.raised refl)) (closing_due g m status m.pending frames_are (subst (ArePending (finalizations g.core)) (sym s.pending) (record { few = omega arith; are = refl }))))
  comes_by GoingOn (closing status ∷ []) m l ending frames_are due (inr s) =
      (closing_goes_on g fit m l status ending frames_are s, subst (AreStillDue g) (sym (closing_step g m status m.pending ending frames_are s.stays.plain.raised refl)) (closing_due g m status m.pending frames_are s.stays.pending))
  comes_by GoingOn (closing status ∷ frame ∷ frames) m l ending frames_are due s = absurd s
  comes_by GoingOn (walk places lost waits ∷ frames) m l ending frames_are due s = absurd s
  comes_by GoingOn (destruction i started entered places waits ∷ frames) m l ending frames_are due s = absurd s
  comes_by GoingOn (uncharged frame ∷ frames) m l ending frames_are due s = absurd s
  comes_by GoingOn (calling callee receiver given outs ∷ frames) m l ending frames_are due s = absurd s
  comes_by GoingOn (construction i ∷ frames) m l ending frames_are due s = absurd s

pub low_code_follows : LowCodeFollows
low_code_follows g fit = follows_by g (λ m l s. comes_by g fit m.world.ending m.frames m l refl refl s.0 s.1)

pub agrees_for_ever : AgreesForEver
agrees_for_ever g fit m l stands = agrees g (low_code_follows g fit) m l stands
