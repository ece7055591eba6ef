-- What a row of items says is what the items of its list say.
use Rattle.std.proofs.Common.{◌≡◌, ℕ, List, [], ◌∷◌, ◌++◌, refl, ap, sym, ◌∙◌, ap₂}
use Rattle.std.specs.Prelude.{Vec, map}
use mathlib.Core.Former.{Count}
use Rattle.std.specs.declared.alloc.Global.{Global}
use Rattle.op_core.specs.declared.program.Core.{Core}
use Rattle.op_values.specs.Nodes.{ItemNodes}
use Rattle.op_values.specs.View.{item_view, item_row, case_row, clause_row, items_view, cases_view, clauses_view, turns_view, variable_view}
use Rattle.op_values.specs.declared.item.Clause.{Clause}
use Rattle.op_values.specs.declared.item.Item.{Item, Row_of-Item, end_of-Item, more_of-Item, items-the_row-Item, items_hidden-the_row-Item-0, items_shown-the_row-Item-0, Row_of-Case, end_of-Case, more_of-Case, items-the_row-Case, items_hidden-the_row-Case-1, Row_of-Clause, end_of-Clause, more_of-Clause, items-the_row-Clause, items_hidden-the_row-Clause-2}
use Rattle.op_values.specs.declared.item.Item.TheVariants.{Also, Choose, Select, Loop, BodyFirst, Protect, Scoped, Attempt, AttemptAll, Also', Choose', Select', Loop', BodyFirst', Protect', Scoped', Attempt', AttemptAll'}
use Rattle.op_values.specs.declared.item.Turns.{Turns}
use Rattle.op_semantics.specs.Items.{also, choose, select, loop, body_first, protect, scoped, attempt, then_do, turns, cases, clauses, Clauses, no_clauses, for_others, ◌&◌}
use Rattle.op_values.specs.View.{view_temporary}

-- ---- rows

item_list : (core : Core) (r : ℕ) (n : _) (row : Row_of-Item n) → item_row core r row ≡ items_view core r (items-the_row-Item n row)
item_list core r n end_of-Item = refl
item_list core r n (more_of-Item i rest) = ap (then_do (item_view core r i)) (item_list core r _ rest)

case_list : (core : Core) (r : ℕ) (n : _) (row : Row_of-Case n) → case_row core r row ≡ cases_view core r (items-the_row-Case n row)
case_list core r n end_of-Case = refl
case_list core r n (more_of-Case labels shape row rest) = ap₂ (cases labels) (item_list core r _ row ∙ ap (items_view core r) (sym (items_shown-the_row-Item-0 shape row))) (case_list core r _ rest)

clause_list : (core : Core) (r : ℕ) (n : _) (row : Row_of-Clause n) (last : Clauses) → clause_row core r row last ≡ clauses_view core r (items-the_row-Clause n row) last
clause_list core r n end_of-Clause last = refl
clause_list core r n (more_of-Clause class variable shape row rest) last = ap₂ (clauses class (variable_view variable)) (item_list core r _ row ∙ ap (items_view core r) (sym (items_shown-the_row-Item-0 shape row))) (clause_list core r _ rest last)

-- ---- the rows in items

abbrev Rows : Type 0
Rows = (n : Count) × Row_of-Item n

abbrev first_in : Item → Rows
first_in (Also' truth t _ row) = (_, row)
first_in (Choose' t _ row _ others) = (_, row)
first_in (Select' t _ cs _ row) = (_, row)
first_in (Loop' _ row t ends _ between _ body) = (_, row)
first_in (BodyFirst' _ row t ends _ between _ body) = (_, row)
first_in (Protect' t _ row _ others) = (_, row)
first_in (Scoped' t ts _ row) = (_, row)
first_in (Attempt' _ row _ cs) = (_, row)
first_in (AttemptAll' _ row _ cs _ others) = (_, row)
first_in other = (_, end_of-Item)

abbrev second_in : Item → Rows
second_in (Choose' t _ row _ others) = (_, others)
second_in (Loop' _ row t ends _ between _ body) = (_, between)
second_in (BodyFirst' _ row t ends _ between _ body) = (_, between)
second_in (Protect' t _ row _ others) = (_, others)
second_in (AttemptAll' _ row _ cs _ others) = (_, others)
second_in other = (_, end_of-Item)

abbrev third_in : Item → Rows
third_in (Loop' _ row t ends _ between _ body) = (_, body)
third_in (BodyFirst' _ row t ends _ between _ body) = (_, body)
third_in other = (_, end_of-Item)

abbrev cases_in : Item → (n : Count) × Row_of-Case n
cases_in (Select' t _ cs _ row) = (_, cs)
cases_in other = (_, end_of-Case)

abbrev clauses_in : Item → (n : Count) × Row_of-Clause n
clauses_in (Attempt' _ row _ cs) = (_, cs)
clauses_in (AttemptAll' _ row _ cs _ others) = (_, cs)
clauses_in other = (_, end_of-Clause)

by_items : (core : Core) (r : ℕ) (row : Rows) (items : Vec Item Global) → items-the_row-Item row.0 row.1 ≡ items.items → item_row core r row.1 ≡ items_view core r items.items
by_items core r row items e = item_list core r row.0 row.1 ∙ ap (items_view core r) e

by_clauses : (core : Core) (r : ℕ) (row : (n : Count) × Row_of-Clause n) (cs : Vec Clause Global) (last : Clauses) → items-the_row-Clause row.0 row.1 ≡ cs.items → clause_row core r row.1 last ≡ clauses_view core r cs.items last
by_clauses core r row cs last e = clause_list core r row.0 row.1 last ∙ ap (λ x. clauses_view core r x last) e

by_turns : (core : Core) (r : ℕ) (l : Turns) (a b c : Rows) → items-the_row-Item a.0 a.1 ≡ l.head.items → items-the_row-Item b.0 b.1 ≡ l.between.items → items-the_row-Item c.0 c.1 ≡ l.body.items → turns (item_row core r a.1) l.temporary.0 l.ends (item_row core r b.1) (item_row core r c.1) ≡ turns_view core r l
by_turns core r l a b c p q s =
    ap (λ x. turns x l.temporary.0 l.ends (item_row core r b.1) (item_row core r c.1)) (by_items core r a l.head p)
    ∙ ap₂ (turns (items_view core r l.head.items) l.temporary.0 l.ends) (by_items core r b l.between q) (by_items core r c l.body s)

pub item_nodes : (core : Core) (r : ℕ) → ItemNodes core r
item_nodes core r = record {
  also_says = λ truth t items. ap (also truth t.0) (by_items core r (first_in (Also truth t items)) items (items_hidden-the_row-Item-0 items));
  choose_says = λ t first otherwise. ap₂ (choose t.0) (by_items core r (first_in (Choose t first otherwise)) first (items_hidden-the_row-Item-0 first)) (by_items core r (second_in (Choose t first otherwise)) otherwise (items_hidden-the_row-Item-0 otherwise));
  select_says = λ t cs otherwise. ap₂ (select t.0) (let row = cases_in (Select t cs otherwise) in case_list core r row.0 row.1 ∙ ap (cases_view core r) (items_hidden-the_row-Case-1 cs)) (by_items core r (first_in (Select t cs otherwise)) otherwise (items_hidden-the_row-Item-0 otherwise));
  loop_says = λ l. ap loop (by_turns core r l (first_in (Loop l)) (second_in (Loop l)) (third_in (Loop l)) (items_hidden-the_row-Item-0 l.head) (items_hidden-the_row-Item-0 l.between) (items_hidden-the_row-Item-0 l.body));
  body_first_says = λ l. ap body_first (by_turns core r l (first_in (BodyFirst l)) (second_in (BodyFirst l)) (third_in (BodyFirst l)) (items_hidden-the_row-Item-0 l.head) (items_hidden-the_row-Item-0 l.between) (items_hidden-the_row-Item-0 l.body));
  protect_says = λ t items finalization. ap₂ (protect t.0) (by_items core r (first_in (Protect t items finalization)) items (items_hidden-the_row-Item-0 items)) (by_items core r (second_in (Protect t items finalization)) finalization (items_hidden-the_row-Item-0 finalization));
  scoped_says = λ t ts items. ap (scoped (view_temporary t) (map view_temporary ts)) (by_items core r (first_in (Scoped t ts items)) items (items_hidden-the_row-Item-0 items));
  attempt_says = λ items cs. ap₂ attempt (by_items core r (first_in (Attempt items cs)) items (items_hidden-the_row-Item-0 items)) (by_clauses core r (clauses_in (Attempt items cs)) cs no_clauses (items_hidden-the_row-Clause-2 cs));
  attempt_all_says = λ items cs others.
      ap₂ attempt (by_items core r (first_in (AttemptAll items cs others)) items (items_hidden-the_row-Item-0 items))
      (by_clauses core r (clauses_in (AttemptAll items cs others)) cs (for_others (item_row core r (second_in (AttemptAll items cs others)).1)) (items_hidden-the_row-Clause-2 cs)
      ∙ ap (λ x. clauses_view core r cs.items (for_others x)) (by_items core r (second_in (AttemptAll items cs others)) others (items_hidden-the_row-Item-0 others)));
}

-- ---- items behind items

pub items_behind : (core : Core) (r : ℕ) (xs ys : List Item) → items_view core r (xs ++ ys) ≡ items_view core r xs & items_view core r ys
items_behind core r [] ys = refl
items_behind core r (x ∷ xs) ys = ap (then_do (item_view core r x)) (items_behind core r xs ys)
