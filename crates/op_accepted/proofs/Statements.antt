-- Statements that have a type are fit.
use Rattle.std.proofs.Common.{◌≡◌, ◌<◌, Bool, true, false, is_some, not, List, ◌∷◌, Option, Some, None, refl}
use Rattle.std.proofs.lemmas.Bool.{and_from}
use Rattle.std.specs.List.{list_all}
use Rattle.std.specs.Option.{option_map}
use Rattle.std.specs.Prelude.{pos}
use Rattle.op_base.specs.declared.place.Place.{Place}
use Rattle.op_check_expr.specs.Expressions.{position_of}
use Rattle.op_check_expr.specs.Scopes.{Here}
use Rattle.op_check_expr.specs.Values.{Value, tree_of, type_of}
use Rattle.op_check_expr.specs.declared.scope.Around.TheVariants.{Loop, Finally}
use Rattle.op_check_stmt.specs.Case.{bound, branch_labels, constant_in, fits, label, labels, selected_by, selector, spot}
use Rattle.op_check_stmt.specs.Labels.{repeated}
use Rattle.op_check_stmt.specs.Leaving.{in_finally, jump_of, reach_of}
use Rattle.op_check_stmt.specs.Procedure as procedures
use Rattle.op_check_stmt.specs.Procedure.{Called, Values, base_in, base_of, called, called_means, change, change_means, count_means, exit_means, halt_means, is_text, item, items, jump_means, member, plain_call, procedure, result_of, set, text, unwritten, values, written}
use Rattle.op_check_stmt.specs.Statement.{all_spots, assign_means, bound_of, branches, case_head, case_statement, condition, first_class, for_statement, looped, paired, statement, statements, stored, tried, type_in, with_branch, within}
use Rattle.op_check_stmt.specs.Variable.{counter, host_of, is_ordinal}
use Rattle.op_check_stmt.specs.declared.leaving.Jump.{Jump}
use Rattle.op_check_stmt.specs.declared.leaving.Jump.TheVariants.{Break, Continue}
use Rattle.op_check_stmt.specs.declared.variable.Counter.{Counter}
use Rattle.op_core.specs.Expression.{Expression as Tree}
use Rattle.op_core.specs.Statement.{Statement, Statements, assign, block, built_in, call as call_statement, count, exit_with, halt, if_else, if_then, padded, plain, repeat_until, statements as core_statements, try_finally, while_do, write}
use Rattle.op_core.specs.Typing as typing
use Rattle.op_core.specs.declared.ids.TypeId.{TypeId}
use Rattle.op_core.specs.declared.statement.Label.{Label}
use Rattle.op_plain.specs.Plain.{are_nodes, are_plain_branches, are_plain_labels, is_plain_amount, is_plain_item}
use Rattle.op_tree.specs.Expression.{Expression, Argument, value as value_argument, padded as padded_argument, rounded, Arguments, no_arguments, arguments, Designator, Element, one, range, Elements, no_elements, elements}
use Rattle.op_tree.specs.Statement as tree
use Rattle.op_tree.specs.declared.position.Name.{Name}
use Rattle.op_tree.specs.declared.position.Position.{Position}
use Rattle.op_tree.specs.declared.statement.Direction.{Direction}
use Rattle.op_tree.specs.declared.statement.Direction.TheVariants.{To, Downto}
use Rattle.op_types.specs.Assignable.{assignable}
use Rattle.op_types.specs.Operators as table
use Rattle.op_types.specs.Sorts.{sort_of}
use Rattle.op_types.specs.declared.sort.Sort.{Sort}
use Rattle.op_types.specs.declared.sort.Sort.TheVariants.{Ordinal}
use Rattle.op_types.specs.declared.visible.BuiltIn as types
use Rattle.op_types.specs.declared.visible.BuiltIn.TheVariants as name
use Rattle.op_typing.specs.Simple.{IsSolidType}
use Rattle.op_accepted.proofs.Expressions.{called_alone_fits, element_fits, given_fits, target_fits, value_of_fits, variable_fits}
use Rattle.op_accepted.proofs.Parts.{fits_behind, fits_changed, fits_entry, fits_fine, fits_followed, fits_silent, fits_test, fits_two}
use Rattle.op_accepted.proofs.Solid.{boolean_solid, integer_solid}
use Rattle.op_accepted.proofs.StatementParts.{AreFitBounds, Counts, CountsSpot, IsFitHead, amount_fits, base_solid, both_count, changes, constant_counts, counter_fits, fit_within, fits_upon, host_solid, jumps, leaving_fits, more_labels, once_fits, result_solid, some_labels, typed_counts}
use Rattle.op_accepted.proofs.Trees.{as_ordinal_fits, as_type_fits, tree_fits}
use Rattle.op_accepted.specs.Fit.{AreFitStatements, IfTyped, IsFitHere, IsFitStatement, IsFitTree, IsFitValue, any_text}
use Rattle.op_judgement.specs.Judgement.{Judgement, changed, checked, given}
use Rattle.op_judgement.specs.declared.rules.LanguageRule.TheVariants.{LeavesFinally, NoConstant, NotAssignable, NotBoolean, NotOrdinal, NotWritten, VariableOfAnotherType, WrongArguments}
use Rattle.op_types.specs.ConstantParts.{start_of}

condition_fits : (here : Here) → IsFitHere here → (e : Expression) → IfTyped (IsFitTree here.core) (checked (condition here e))
condition_fits here h e =
    fits_behind (value_of_fits here h None e) (λ v k. fits_test NotBoolean (start_of e) (assignable here.core (type_of v) table.boolean) (λ a. fits_fine (as_type_fits here.core h.tables false table.boolean v k (boolean_solid h.tables) a)))

-- ---- selectors and labels

selected_fits : (here : Here) → IsFitHere here → (place : Place) (v : Value) → IsFitValue here.core v → (s : Sort) → sort_of here.core (type_of v) ≡ s → IfTyped (IsFitTree here.core) (checked (selected_by here.core place v s))
selected_fits here h place v k (Ordinal kind) e = fits_fine (as_ordinal_fits here.core h.tables false (host_of here.core (type_of v)) v kind k (host_solid here.core h.tables (type_of v) kind e) e)
selected_fits here h place v k s e = fits_silent

selector_fits : (here : Here) → IsFitHere here → (e : Expression) → IfTyped (IsFitTree here.core) (checked (selector here e))
selector_fits here h e = fits_behind (value_of_fits here h None e) (λ v k. selected_fits here h (start_of e) v k (sort_of here.core (type_of v)) refl)

bound_counts : (here : Here) → IsFitHere here → (of : Option TypeId) (e : Expression) → IfTyped Counts (checked (bound here of e))
bound_counts here h of e =
    fits_behind (value_of_fits here h None e) (λ v k. fits_test NotAssignable (start_of e) (fits here.core (type_of v) of) (λ a. fits_entry NoConstant (start_of e) (constant_in v) (λ c is. typed_counts of c (constant_counts here.core v c k is))))

label_counts : (here : Here) → IsFitHere here → (of : Option TypeId) (e : Element) → IfTyped CountsSpot (checked (label here of e))
label_counts here h of (one e) = fits_changed (λ b. spot (start_of e) b b b.weight) (bound_counts here h of e) (λ b k. k)
label_counts here h of (range e f) = fits_followed (bound_counts here h of e) (λ low k. fits_followed (bound_counts here h of f) (λ high l. both_count (start_of e) k l))

number_fits : (here : Here) → IsFitHere here → (of : Option TypeId) (e : Element) → IfTyped (λ (l : Label). 0 < l.nodes) (checked (changed (λ s. s.label) (label here of e)))
number_fits here h of e = fits_changed (λ s. s.label) (label_counts here h of e) (λ s k. k)

others_fit : (here : Here) → IsFitHere here → (of : Option TypeId) (es : Elements) → IfTyped (λ ls. are_nodes ls ≡ true) (checked (labels here of es))
others_fit here h of no_elements = fits_fine refl
others_fit here h of (elements e es) = fits_two (λ l ls. l ∷ ls) (number_fits here h of e) (others_fit here h of es) more_labels

labels_fit : (here : Here) → IsFitHere here → (of : Option TypeId) (es : Elements) → IfTyped (λ ls. are_plain_labels ls ≡ true) (checked (branch_labels here of es))
labels_fit here h of no_elements = fits_silent
labels_fit here h of (elements e es) = fits_two (λ l ls. l ∷ ls) (number_fits here h of e) (others_fit here h of es) some_labels

-- ---- built-in procedures

text_fits : (here : Here) → IsFitHere here → (e : Expression) → IfTyped (IsFitTree here.core) (checked (text here e))
text_fits here h e = fits_behind (value_of_fits here h None e) (λ v k. fits_test NotWritten (start_of e) (is_text (sort_of here.core (type_of v))) (λ a. fits_fine (tree_fits here.core v k)))

item_fits : (here : Here) → IsFitHere here → (a : Argument) → IfTyped (λ x. is_plain_item any_text here.core x ≡ true) (checked (item here a))
item_fits here h (value_argument e) = fits_changed plain (text_fits here h e) (λ t k. k)
item_fits here h (padded_argument e width) = fits_two padded (text_fits here h e) (given_fits here h table.integer (integer_solid h.tables) false width) (λ t w k l. and_from _ _ k l)
item_fits here h (rounded e width digits) = fits_silent

items_fit : (here : Here) → IsFitHere here → (given : Arguments) → IfTyped (λ xs. list_all (is_plain_item any_text here.core) xs ≡ true) (checked (items here given))
items_fit here h no_arguments = fits_fine refl
items_fit here h (arguments a rest) = fits_two (λ x xs. x ∷ xs) (item_fits here h a) (items_fit here h rest) (λ x xs k l. and_from _ _ k l)

written_fits : (here : Here) → IsFitHere here → (ends_line : Bool) (given : Arguments) → IfTyped (IsFitStatement here.core) (checked (written here ends_line given))
written_fits here h ends_line args = fits_changed (λ xs. built_in (write xs ends_line)) (items_fit here h args) (λ xs k. k)

counted_fits : (here : Here) → IsFitHere here → (ranges : Bool) (e : Expression) → IfTyped (λ t. IsFitTree here.core t.place) (checked (procedures.counted here ranges e))
counted_fits here h ranges e = fits_behind (variable_fits here h None e) (λ t k. fits_test NotOrdinal (start_of e) (is_ordinal (sort_of here.core (typing.type_of t))) (λ a. fits_fine k.0))

count_fits : (here : Here) → IsFitHere here → (direction : Direction) (n : Name) (given : Values) → IfTyped (IsFitStatement here.core) (checked (count_means here direction n given))
count_fits here h direction n (procedures.one e) =
    fits_two (λ t m. built_in (count direction t m n.position.switches.q)) (counted_fits here h (position_of e).switches.r e) (fits_fine {P = λ e. is_plain_amount any_text here.core e ≡ true} {a = unwritten (pos 1)} (integer_solid h.tables)) (λ t m k l. and_from _ _ k l)
count_fits here h direction n (procedures.two e f) =
    fits_two (λ t m. built_in (count direction t m n.position.switches.q)) (counted_fits here h (position_of e).switches.r e) (given_fits here h table.integer (integer_solid h.tables) false f) (λ t m k l. and_from _ _ k (amount_fits here.core m l))
count_fits here h direction n procedures.none = fits_silent
count_fits here h direction n procedures.others = fits_silent

set_fits : (here : Here) → IsFitHere here → (e : Expression) → IfTyped (IsFitTree here.core) (checked (set here e))
set_fits here h e = fits_behind (variable_fits here h None e) (λ t k. fits_test VariableOfAnotherType (start_of e) (is_some (base_of here.core (typing.type_of t))) (λ a. fits_fine k.0))

member_fits : (here : Here) → IsFitHere here → (o : Option TypeId) → ((base : TypeId) → o ≡ Some base → IsSolidType here.core base) → (e : Expression) → IfTyped (IsFitTree here.core) (checked (member here o e))
member_fits here h None g e = fits_changed tree_of (value_of_fits here h None e) (λ v k. tree_fits here.core v k)
member_fits here h (Some base) g e = element_fits here h base (g base refl) e

change_fits : (here : Here) → IsFitHere here → (includes : Bool) (n : Name) (given : Values) → IfTyped (IsFitStatement here.core) (checked (change_means here includes n given))
change_fits here h includes n (procedures.two e f) =
    fits_upon (change includes) (λ o. checked (member here (base_in here.core o) f)) (set_fits here h e) (λ t k. member_fits here h (base_of here.core (typing.type_of t)) (λ base is. base_solid here.core h.tables (typing.type_of t) base is) f) (λ t m k l. changes here.core includes t m k l)
change_fits here h includes n procedures.none = fits_silent
change_fits here h includes n (procedures.one e) = fits_silent
change_fits here h includes n procedures.others = fits_silent

exit_fits : (here : Here) → IsFitHere here → (n : Name) (given : Values) → IfTyped (IsFitStatement here.core) (checked (exit_means here n given))
exit_fits here h n procedures.none = fits_test LeavesFinally n.position.place (not (in_finally here.around)) (λ a. fits_fine refl)
exit_fits here h n (procedures.one e) =
    fits_entry WrongArguments n.position.place (result_of here) (λ of is. fits_test LeavesFinally n.position.place (not (in_finally here.around)) (λ a. fits_changed exit_with (given_fits here h of (result_solid here h of is) (position_of e).switches.r e) (λ t k. k)))
exit_fits here h n (procedures.two e f) = fits_silent
exit_fits here h n procedures.others = fits_silent

halt_fits : (here : Here) → IsFitHere here → (n : Name) (given : Values) → IfTyped (IsFitStatement here.core) (checked (halt_means here n given))
halt_fits here h n procedures.none = fits_fine (integer_solid h.tables)
halt_fits here h n (procedures.one e) = fits_changed halt (given_fits here h table.integer (integer_solid h.tables) false e) (λ t k. amount_fits here.core t k)
halt_fits here h n (procedures.two e f) = fits_silent
halt_fits here h n procedures.others = fits_silent

jump_fits : (here : Here) (jump : Jump) (n : Name) (given : Values) → IfTyped (IsFitStatement here.core) (checked (jump_means here jump n given))
jump_fits here jump n procedures.none = leaving_fits n.position.place (jump_of jump) (reach_of here.around) (jumps here.core jump)
jump_fits here jump n (procedures.one e) = fits_silent
jump_fits here jump n (procedures.two e f) = fits_silent
jump_fits here jump n procedures.others = fits_silent

plain_fits : (here : Here) → IsFitHere here → (d : Designator) → IfTyped (IsFitStatement here.core) (checked (plain_call here d))
plain_fits here h d = fits_changed call_statement (called_alone_fits here h d) (λ t k. k)

procedure_fits : (here : Here) → IsFitHere here → (d : Designator) (b : types.BuiltIn) (c : Called) → IfTyped (IsFitStatement here.core) (checked (procedure here d b c))
procedure_fits here h d name.Write c = written_fits here h false c.given
procedure_fits here h d name.WriteLn c = written_fits here h true c.given
procedure_fits here h d name.Inc c = count_fits here h To c.name (values c.given)
procedure_fits here h d name.Dec c = count_fits here h Downto c.name (values c.given)
procedure_fits here h d name.Include c = change_fits here h true c.name (values c.given)
procedure_fits here h d name.Exclude c = change_fits here h false c.name (values c.given)
procedure_fits here h d name.Exit c = exit_fits here h c.name (values c.given)
procedure_fits here h d name.Halt c = halt_fits here h c.name (values c.given)
procedure_fits here h d name.Break c = jump_fits here Break c.name (values c.given)
procedure_fits here h d name.Continue c = jump_fits here Continue c.name (values c.given)
procedure_fits here h d b c = plain_fits here h d

called_fits : (here : Here) → IsFitHere here → (d : Designator) (c : Option Called) → IfTyped (IsFitStatement here.core) (checked (called_means here d c))
called_fits here h d None = plain_fits here h d
called_fits here h d (Some c) = procedure_fits here h d c.which c

-- ---- statements

assign_fits : (here : Here) → IsFitHere here → (d : Designator) (p : Position) (e : Expression) → IfTyped (IsFitStatement here.core) (checked (assign_means here d p e))
assign_fits here h d p e =
    fits_upon assign (λ t. checked (stored here (option_map typing.type_of t) p.switches.r e)) (target_fits here h d) (λ t k. given_fits here h (typing.type_of t) k.1 p.switches.r e) (λ t v k l. and_from _ _ k.0 l)

bounds_fit : (here : Here) → IsFitHere here → (n : Name) (e f : Expression) → IfTyped (λ head. AreFitBounds here.core head.1) (checked (paired (counter here n) (given (counter here n) (λ c. paired (bound_of here c e) (bound_of here c f)))))
bounds_fit here h n e f =
    fits_upon {R = λ head. AreFitBounds here.core head.1} (λ c bounds. (c, bounds)) (λ c. checked (paired (bound_of here c e) (bound_of here c f))) (counter_fits here h n)
    (λ c k. fits_two {R = AreFitBounds here.core} (λ a b. (a, b)) (given_fits here h c.bounds k false e) (given_fits here h c.bounds k false f) (λ a b k l. (k, l)))
    (λ c bounds k l. l)

-- a selector with its branches
head_fits : (here : Here) → IsFitHere here → (e : Expression) (bs : tree.Branches) → ((of : Option TypeId) → IfTyped (λ cs. are_plain_branches any_text here.core cs ≡ true) (checked (branches here of bs))) → IfTyped (IsFitHead here.core) (checked (case_head here e bs (λ of. branches here of bs)))
head_fits here h e bs g =
    let of = type_in (checked (selector here e)).typed in
    fits_followed (fits_two {R = IsFitHead here.core} (λ e bs. (e, bs)) (selector_fits here h e) (g of) (λ t cs k l. (k, l))) (λ head k. once_fits k (repeated (all_spots here of bs)))

tried_fits : {P : Statement → Type 0} (at : Option Place) (body : Judgement Statements) (whole : Judgement Statement) → IfTyped P (checked whole) → IfTyped P (checked (tried at body whole))
tried_fits None body whole h = h
tried_fits (Some at) body whole h = fits_silent

mutual
  pub statement_fits : (here : Here) → IsFitHere here → (x : tree.Statement) → IfTyped (IsFitStatement here.core) (checked (statement here x))
  statement_fits here h tree.empty = fits_fine refl
  statement_fits here h (tree.block ss) = fits_changed block (statements_fit here h ss) (λ x k. k)
  statement_fits here h (tree.if_then e x) = fits_two if_then (condition_fits here h e) (statement_fits here h x) (λ e x k m. and_from _ _ k m)
  statement_fits here h (tree.if_else e x y) =
      fits_two (λ (p : Tree × Statement) y. if_else p.0 p.1 y)
      (fits_two {R = λ p. IsFitTree here.core p.0 × IsFitStatement here.core p.1} (λ e x. (e, x)) (condition_fits here h e) (statement_fits here h x) (λ e x k m. (k, m)))
      (statement_fits here h y) (λ p y k m. and_from _ _ k.0 (and_from _ _ k.1 m))
  statement_fits here h (tree.case_of e bs) =
      fits_two case_statement (head_fits here h e bs (λ of. branches_fit here h of bs)) (fits_fine {P = AreFitStatements here.core} refl) (λ head ss k m. and_from _ _ k.0 (and_from _ _ k.1 m))
  statement_fits here h (tree.case_else e bs ss) =
      fits_two case_statement (head_fits here h e bs (λ of. branches_fit here h of bs)) (statements_fit here h ss) (λ head ss k m. and_from _ _ k.0 (and_from _ _ k.1 m))
  statement_fits here h (tree.while_do e x) = fits_two while_do (condition_fits here h e) (statement_fits (looped here None) (fit_within (Loop None) h) x) (λ e x k m. and_from _ _ k m)
  statement_fits here h (tree.repeat_until ss e) = fits_two repeat_until (statements_fit (looped here None) (fit_within (Loop None) h) ss) (condition_fits here h e) (λ ss e k m. and_from _ _ m k)
  statement_fits here h (tree.for_to n e direction f x) =
      let id = option_map (λ c. c.variable) (checked (counter here n)).typed in
      fits_two (λ (head : Counter × (Tree × Tree)) x. for_statement direction head.0 head.1 x) (bounds_fit here h n e f)
      (statement_fits (looped here id) (fit_within (Loop id) h) x) (λ head x k m. and_from _ _ k.0 (and_from _ _ k.1 m))
  statement_fits here h (tree.for_in n e x) = fits_silent
  statement_fits here h (tree.try_finally ss ts) = fits_two try_finally (statements_fit here h ss) (statements_fit (within here Finally) (fit_within Finally h) ts) (λ ss ts k m. and_from _ _ k m)
  statement_fits here h (tree.try_except ss ts) = fits_silent
  statement_fits here h (tree.try_on ss hs) = tried_fits (first_class hs) (statements here ss) (changed block (statements here ss)) (fits_changed block (statements_fit here h ss) (λ x k. k))
  statement_fits here h (tree.try_on_else ss hs ts) = fits_silent
  statement_fits here h (tree.raise p e) = fits_silent
  statement_fits here h (tree.reraise p) = fits_silent
  statement_fits here h (tree.inherited p) = fits_silent
  statement_fits here h (tree.inherited_call p d) = fits_silent
  statement_fits here h (tree.call d) = called_fits here h d (called here.visible d)
  statement_fits here h (tree.assign d p e) = assign_fits here h d p e

  branches_fit : (here : Here) → IsFitHere here → (of : Option TypeId) (bs : tree.Branches) → IfTyped (λ cs. are_plain_branches any_text here.core cs ≡ true) (checked (branches here of bs))
  branches_fit here h of tree.no_branches = fits_fine refl
  branches_fit here h of (tree.branches es x bs) =
      fits_two with_branch
      (fits_two {R = λ (b : List Label × Statement). (are_plain_labels b.0 ≡ true) × IsFitStatement here.core b.1} (λ ls x. (ls, x)) (labels_fit here h of es) (statement_fits here h x) (λ ls x k m. (k, m)))
      (branches_fit here h of bs) (λ b bs k m. and_from _ _ k.0 (and_from _ _ k.1 m))

  pub statements_fit : (here : Here) → IsFitHere here → (xs : tree.Statements) → IfTyped (AreFitStatements here.core) (checked (statements here xs))
  statements_fit here h tree.no_statements = fits_fine refl
  statements_fit here h (tree.statements x xs) = fits_two core_statements (statement_fits here h x) (statements_fit here h xs) (λ x xs k m. and_from _ _ k m)
