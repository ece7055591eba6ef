-- Exit, Break and Continue: what is still to be done in the activation is cut off up to the part with a finally part, the handler or
-- the loop that comes next, or to the end of items whose temporaries end first. (Free Pascal Reference Guide, "The
-- try...finally statement"; reference of the unit System, "Exit", "Break" and "Continue".)
use Rattle.std.specs.Prelude.{ℕ, zero, suc, ◌+◌, ℤ, pos, List, [], ◌∷◌, Option, None}
use Rattle.op_semantics.specs.Frames.{StateOver, State, with_work}
use Rattle.op_semantics.specs.Items.{Turns, head_of, Task, item, mark, turn, finally, resume, catching, scope, handling, leaving, ending, due, onto}
use Rattle.op_meaning.specs.Values.{Value, instance}
use Rattle.op_semantics.specs.World.{World, with_number}

-- why something is left: 1 the routine is left, 2 a loop, 3 its turn, and 4 by an exception

pub record Cut : Type 0 where
  pub work : List Task
  pub world : World

abbrev pub cut_loop : ℕ → Turns → List Task → World → Cut → Cut
cut_loop (suc (suc zero)) l work w further = record { work = work; world = w }
cut_loop (suc (suc (suc zero))) l work w further = record { work = onto (head_of l) (turn l ∷ work); world = w }
cut_loop _ l work w further = further

-- A finally part is done with the reason in its temporary, and what is left goes on behind it. Temporaries, and the instance of a handler,
-- end first.
abbrev pub cut : ℕ → List Task → World → Cut
cut reason [] w = record { work = []; world = w }
cut reason (mark l ∷ work) w = cut_loop reason l work w (cut reason work w)
cut reason (finally t ts ∷ work) w = record { work = onto ts (resume t ∷ work); world = with_number t (pos reason) w }
cut reason (scope t ts ∷ work) w = record { work = scope t ts ∷ leaving reason ∷ work; world = w }
cut reason (handling i ∷ work) w = record { work = handling i ∷ leaving reason ∷ work; world = w }
cut reason (ending vs result ∷ work) w = record { work = ending vs result ∷ work; world = w }
cut reason (item i ∷ work) w = cut reason work w
cut reason (turn l ∷ work) w = cut reason work w
cut reason (resume t ∷ work) w = cut reason work w
cut reason (catching cs ∷ work) w = cut reason work w
cut reason (leaving other ∷ work) w = cut reason work w
cut reason (due f ∷ work) w = cut reason work w

abbrev pub left : ℕ → List Task → State → State
left reason work s = let c = cut reason work s.world in record s { world = c.world; work = c.work }

-- ---- behind a finally part

abbrev pub name_in : Value → Option ℕ
name_in (instance holds n) = n
name_in _ = None

-- the exception that waits is under way again
abbrev pub raised_again : {Work Counts : Type 0} → ℕ → Work → StateOver Work Counts → StateOver Work Counts
raised_again t work s = record s { world = record s.world { raised = s.world.waiting t }; work = work }

-- what was left goes on, and where nothing was, so does what follows
abbrev pub resumed : ℤ → ℕ → List Task → State → State
resumed (pos (suc zero)) t work s = left 1 work s
resumed (pos (suc (suc zero))) t work s = left 2 work s
resumed (pos (suc (suc (suc zero)))) t work s = left 3 work s
resumed (pos (suc (suc (suc (suc zero))))) t work s = raised_again (t + 1) work s
resumed _ t work s = with_work work s
