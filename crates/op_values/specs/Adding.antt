-- What a function adds to the items so far, and where the value is that it has found.
use Rattle.std.specs.Prelude.{◌≡◌, ℕ, List}
use Rattle.op_semantics.specs.Expressions.{Env, Found as MeantFound, Now as MeantNow, ready, at_path, owned, a_text, a_nil, a_char}
use Rattle.op_semantics.specs.Items.{Items, none, ◌&◌, Cases, Clauses, Turns as MeantTurns}
use Rattle.op_values.specs.View.{items_view, cases_view, clauses_view, turns_view, view_operand, view_path}
use Rattle.op_values.specs.declared.found.Found.{Found}
use Rattle.op_values.specs.declared.found.Now.{Now}
use Rattle.op_values.specs.declared.found.Now.TheVariants.{Ready, At, Owned, Literal, Nil, Char}
use Rattle.op_values.specs.declared.item.Case.{Case}
use Rattle.op_values.specs.declared.item.Clause.{Clause}
use Rattle.op_values.specs.declared.item.Item.{Item}
use Rattle.op_values.specs.declared.item.Turns.{Turns}
use Rattle.op_values.specs.declared.setting.Setting.{Setting}

abbrev pub env_view : Setting → Env
env_view setting = record { core = setting.core.now; routine = setting.routine.0 }

abbrev pub view_in : Setting → List Item → Items
view_in setting items = items_view setting.core.now setting.routine.0 items

abbrev pub cases_in : Setting → List Case → Cases
cases_in setting cs = cases_view setting.core.now setting.routine.0 cs

abbrev pub clauses_in : Setting → List Clause → Clauses → Clauses
clauses_in setting cs last = clauses_view setting.core.now setting.routine.0 cs last

abbrev pub turns_in : Setting → Turns → MeantTurns
turns_in setting l = turns_view setting.core.now setting.routine.0 l

abbrev pub now_view : Now → MeantNow
now_view Ready = ready
now_view (At path) = at_path (view_path path)
now_view (Owned path) = owned (view_path path)
now_view (Literal bytes) = a_text bytes
now_view (Nil of) = a_nil of
now_view (Char text index) = a_char (view_operand text) index.0

-- with nothing that was to be done for it
abbrev pub found_view : Found → MeantFound
found_view f = record { items = none; now = now_view f.now; used = f.used; held = f.held }

-- behind the old items come these
abbrev pub Adds : Setting → List Item → List Item → Items → Type 0
Adds setting old new more = view_in setting new ≡ view_in setting old & more

-- and the value is where it is found
pub record Gives (setting : Setting) (old new : List Item) (f : Found) (g : MeantFound) : Type 0 where
  pub adds : Adds setting old new g.items
  pub is : found_view f ≡ record g { items = none }
