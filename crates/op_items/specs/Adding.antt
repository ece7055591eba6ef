-- What a function adds to the items so far, and where the value is that it has found.
use Rattle.std.specs.Prelude.{◌≡◌, Bool, List, Option, Vec, map}
use Rattle.std.specs.declared.alloc.Global.{Global}
use Rattle.op_core.specs.Expression.{Expression}
use Rattle.op_core.specs.declared.types.CoreType.{CoreType}
use Rattle.op_items.specs.View.{items_view, cases_view, clauses_view, turns_view}
use Rattle.op_items.specs.declared.expression.Passed.{Passed}
use Rattle.op_items.specs.declared.found.Found.{Found}
use Rattle.op_items.specs.declared.found.Now.{Now}
use Rattle.op_items.specs.declared.found.Now.TheVariants.{Ready, At, Literal}
use Rattle.op_items.specs.declared.item.Case.{Case}
use Rattle.op_items.specs.declared.item.Clause.{Clause}
use Rattle.op_items.specs.declared.item.Item.{Item}
use Rattle.op_items.specs.declared.item.Turns.{Turns}
use Rattle.op_items.specs.declared.setting.Setting.{Setting}
use Rattle.op_meaning.specs.Expressions.{AllPassed, Env, Here, Found as MeantFound, Now as MeantNow, OnePassed, found, ready, at_path, a_text, goes_on_at, make, second_here, two_by}
use Rattle.op_meaning.specs.Items.{Items, none, ◌&◌, Cases, Clauses, Turns as MeantTurns}
use Rattle.op_mir.specs.View.{view_given, view_path}
use Rattle.op_mir.specs.declared.instruction.Given.{Given}
use Rattle.op_tree.specs.declared.operator.Operator.{Operator}

abbrev pub env_view : Setting → Env
env_view setting = record { core = setting.core.now; routine = setting.routine.0 }

abbrev pub view_in : Setting → List Item → Items
view_in setting items = items_view setting.core.now setting.routine.0 items

abbrev pub cases_in : Setting → List Case → Cases
cases_in setting cs = cases_view setting.core.now setting.routine.0 cs

abbrev pub clauses_in : Setting → List Clause → Clauses → Clauses
clauses_in setting cs last = clauses_view setting.core.now setting.routine.0 cs last

abbrev pub turns_in : Setting → Turns → MeantTurns
turns_in setting l = turns_view setting.core.now setting.routine.0 l

abbrev pub now_view : Now → MeantNow
now_view Ready = ready
now_view (At path) = at_path (view_path path)
now_view (Literal bytes) = a_text bytes

-- with nothing that was to be done for it
abbrev pub found_view : Found → MeantFound
found_view f = record { items = none; now = now_view f.now; used = f.used }

-- behind the old items come these
abbrev pub Adds : Setting → List Item → List Item → Items → Type 0
Adds setting old new more = view_in setting new ≡ view_in setting old & more

-- and the value is where it is found
pub record Gives (setting : Setting) (old new : List Item) (f : Found) (g : MeantFound) : Type 0 where
  pub adds : Adds setting old new g.items
  pub is : found_view f ≡ record g { items = none }

-- the rest of an operator on two operands, behind the left one
abbrev pub two_on : Env → Here → Operator → Bool → Option CoreType → Expression → MeantFound
two_on env here o checked of e = let goes_on = goes_on_at o of in two_by goes_on o checked of here (found none ready) (make env (second_here goes_on here) e).items

-- and an argument is given so to its parameter
pub record Passes (setting : Setting) (old new : List Item) (p : Passed) (q : OnePassed) : Type 0 where
  pub adds : Adds setting old new q.items
  pub given : view_given p.given ≡ q.given
  pub used : p.used ≡ q.used

pub record PassesAll (setting : Setting) (old new : List Item) (all : Vec Given Global) (q : AllPassed) : Type 0 where
  pub adds : Adds setting old new q.items
  pub given : map view_given all.items ≡ q.given
