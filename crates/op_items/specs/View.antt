-- Items as the source machine sees them: what the Rust items of a routine say, wherever they lie in memory.
use Rattle.std.specs.Prelude.{ℕ, List, [], ◌∷◌, Option, Some, None, map}
use Rattle.op_core.specs.declared.program.Core.{Core}
use Rattle.op_items.specs.declared.item.Case.{Case}
use Rattle.op_items.specs.declared.item.Clause.{Clause}
use Rattle.op_items.specs.declared.item.Item.{Item, Row_of-Item, end_of-Item, more_of-Item, Row_of-Case, end_of-Case, more_of-Case, Row_of-Clause, end_of-Clause, more_of-Clause}
use Rattle.op_items.specs.declared.item.Item.TheVariants.{Act, Also', Choose', Select', Loop', BodyFirst', Protect', Leave, Enter, Scoped', Attempt', AttemptAll', Throw, Rethrow, Halt, Construct, Free}
use Rattle.op_items.specs.declared.item.Turns.{Turns}
use Rattle.op_items.specs.declared.item.Way.{Way}
use Rattle.op_items.specs.declared.item.Way.TheVariants.{Exit, Break, Continue}
use Rattle.op_meaning.specs.Items.{Item as MeantItem, act, also, choose, select, loop, body_first, protect, leave, enter, scoped, attempt, throw, rethrow, halt, construct, free, Items, none, then_do, Turns as MeantTurns, turns, Cases, no_cases, cases, Clauses, no_clauses, for_others, clauses}
use Rattle.op_meaning.specs.Paths.{Root as MeantRoot}
use Rattle.op_mir.specs.View.{view_action, view_given, view_path, view_receiver, view_root, view_temporary}
use Rattle.op_mir.specs.declared.path.Root.{Root}

-- 0 leaves the routine, 1 the loop, 2 its turn
abbrev pub way_view : Way → ℕ
way_view Exit = 0
way_view Break = 1
way_view Continue = 2

abbrev pub variable_view : Option Root → Option MeantRoot
variable_view None = None
variable_view (Some root) = Some (view_root root)

-- in a routine of the number
abbrev mutual
  pub item_view : Core → ℕ → Item → MeantItem
  item_view core r (Act action) = act (view_action core r action)
  item_view core r (Also' truth t _ row) = also truth t.0 (item_row core r row)
  item_view core r (Choose' t _ first _ otherwise) = choose t.0 (item_row core r first) (item_row core r otherwise)
  item_view core r (Select' t _ row _ otherwise) = select t.0 (case_row core r row) (item_row core r otherwise)
  item_view core r (Loop' _ head t ends _ between _ body) = loop (turns (item_row core r head) t.0 ends (item_row core r between) (item_row core r body))
  item_view core r (BodyFirst' _ head t ends _ between _ body) = body_first (turns (item_row core r head) t.0 ends (item_row core r between) (item_row core r body))
  item_view core r (Protect' t _ row _ finalization) = protect t.0 (item_row core r row) (item_row core r finalization)
  item_view core r (Leave way) = leave (way_view way)
  item_view core r (Enter id given receiver) = enter id.0 (map view_given given) (view_receiver receiver)
  item_view core r (Scoped' first others _ row) = scoped (view_temporary first) (map view_temporary others) (item_row core r row)
  item_view core r (Attempt' _ row _ handlers) = attempt (item_row core r row) (clause_row core r handlers no_clauses)
  item_view core r (AttemptAll' _ row _ handlers _ others) = attempt (item_row core r row) (clause_row core r handlers (for_others (item_row core r others)))
  item_view core r (Throw at) = throw (view_path at)
  item_view core r Rethrow = rethrow
  item_view core r (Halt t) = halt t.0
  item_view core r (Construct class id given receiver) = construct class id.0 (map view_given given) (view_receiver receiver)
  item_view core r (Free takes_nil at) = free takes_nil (view_path at)

  pub item_row : Core → ℕ → {n : _} → Row_of-Item n → Items
  item_row core r end_of-Item = none
  item_row core r (more_of-Item i rest) = then_do (item_view core r i) (item_row core r rest)

  pub case_row : Core → ℕ → {n : _} → Row_of-Case n → Cases
  case_row core r end_of-Case = no_cases
  case_row core r (more_of-Case labels _ row rest) = cases labels (item_row core r row) (case_row core r rest)

  -- the last clause comes behind them
  pub clause_row : Core → ℕ → {n : _} → Row_of-Clause n → Clauses → Clauses
  clause_row core r end_of-Clause last = last
  clause_row core r (more_of-Clause class variable _ row rest) last = clauses class (variable_view variable) (item_row core r row) (clause_row core r rest last)

abbrev pub items_view : Core → ℕ → List Item → Items
items_view core r [] = none
items_view core r (i ∷ items) = then_do (item_view core r i) (items_view core r items)

abbrev pub cases_view : Core → ℕ → List Case → Cases
cases_view core r [] = no_cases
cases_view core r (c ∷ cs) = cases c.labels (items_view core r c.items.items) (cases_view core r cs)

abbrev pub clauses_view : Core → ℕ → List Clause → Clauses → Clauses
clauses_view core r [] last = last
clauses_view core r (c ∷ cs) last = clauses c.class (variable_view c.variable) (items_view core r c.items.items) (clauses_view core r cs last)

abbrev pub turns_view : Core → ℕ → Turns → MeantTurns
turns_view core r l = turns (items_view core r l.head.items) l.temporary.0 l.ends (items_view core r l.between.items) (items_view core r l.body.items)
