-- An item with a list says just what the list says.
use Rattle.std.specs.Prelude.{◌≡◌, ℕ, Bool, List, Vec, map}
use Rattle.std.specs.declared.alloc.Global.{Global}
use Rattle.op_core.specs.declared.program.Core.{Core}
use Rattle.op_values.specs.View.{item_view, items_view, cases_view, clauses_view, turns_view}
use Rattle.op_values.specs.declared.item.Case.{Case}
use Rattle.op_values.specs.declared.item.Clause.{Clause}
use Rattle.op_values.specs.declared.item.Item.{Item}
use Rattle.op_values.specs.declared.item.Item.TheVariants.{Also, Choose, Select, Loop, BodyFirst, Protect, Scoped, Attempt, AttemptAll}
use Rattle.op_values.specs.declared.item.Turns.{Turns}
use Rattle.op_semantics.specs.Items.{also, choose, select, loop, body_first, protect, scoped, attempt, no_clauses, for_others}
use Rattle.op_values.specs.View.{view_temporary}
use Rattle.op_values.specs.declared.ids.TemporaryId.{TemporaryId}
use Rattle.op_values.specs.declared.temporary.Temporary.{Temporary}

-- in a routine of the number
pub record ItemNodes (core : Core) (r : ℕ) : Type 0 where
  pub also_says : (truth : Bool) (t : TemporaryId) (items : Vec Item Global) → item_view core r (Also truth t items) ≡ also truth t.0 (items_view core r items.items)
  pub choose_says : (t : TemporaryId) (first otherwise : Vec Item Global) → item_view core r (Choose t first otherwise) ≡ choose t.0 (items_view core r first.items) (items_view core r otherwise.items)
  pub select_says : (t : TemporaryId) (cs : Vec Case Global) (otherwise : Vec Item Global) → item_view core r (Select t cs otherwise) ≡ select t.0 (cases_view core r cs.items) (items_view core r otherwise.items)
  pub loop_says : (l : Turns) → item_view core r (Loop l) ≡ loop (turns_view core r l)
  pub body_first_says : (l : Turns) → item_view core r (BodyFirst l) ≡ body_first (turns_view core r l)
  pub protect_says : (t : TemporaryId) (items finalization : Vec Item Global) → item_view core r (Protect t items finalization) ≡ protect t.0 (items_view core r items.items) (items_view core r finalization.items)
  pub scoped_says : (first : Temporary) (others : List Temporary) (items : Vec Item Global) → item_view core r (Scoped first others items) ≡ scoped (view_temporary first) (map view_temporary others) (items_view core r items.items)
  pub attempt_says : (items : Vec Item Global) (cs : Vec Clause Global) → item_view core r (Attempt items cs) ≡ attempt (items_view core r items.items) (clauses_view core r cs.items no_clauses)
  pub attempt_all_says : (items : Vec Item Global) (cs : Vec Clause Global) (others : Vec Item Global) → item_view core r (AttemptAll items cs others) ≡ attempt (items_view core r items.items) (clauses_view core r cs.items (for_others (items_view core r others.items)))
