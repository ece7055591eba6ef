use Rattle.std.proofs.Common.{◌≡◌, ◌∷◌, ◌++◌, ◌+◌, IfOk, Option, Some, None, Result, List, drop, refl, ap, sym, subst, ◌∙◌}
use Rattle.std.specs.Option.{option_map}
use Rattle.op_check_expr.specs.Scopes.{Here, here_of}
use Rattle.op_judgement.proofs.Computed.{Reports as ReportsOf, followed, paired as both}
use Rattle.op_judgement.specs.Judgement.{Judgement, Reports, both_typed, changed, checked, fine, refused}
use Rattle.op_judgement.specs.declared.rules.Feature.TheVariants.{Exceptions}
use Rattle.op_judgement.specs.declared.rules.LanguageRule.TheVariants.{NotInProfile}
use Rattle.op_check_expr.specs.declared.scope.Around.{Around}
use Rattle.op_check_expr.specs.declared.scope.Around.TheVariants.{Finally}
use Rattle.op_check_expr.proofs.Following.{behind, behind_both, behind_value, of_ok}
use Rattle.op_check_stmt.proofs.Parts.{Completes, begins, behind_answer, distinct_viewed, ends, next, noted, one, pairs, seen, then, three, two}
use Rattle.std.proofs.lemmas.List.{append-nil}
use Rattle.op_check_stmt.specs.Labels.{once, repeated}
use Rattle.op_check_stmt.specs.Parts.{branches_in}
use Rattle.op_base.specs.declared.memory_error.NoMemory.{NoMemory}
use Rattle.op_core.specs.Statement.{Statements, Branches}
use Rattle.op_core.specs.declared.first_refusal.FirstRefusal.{FirstRefusal}
use Rattle.op_core.specs.declared.statement.CoreBranch.{CoreBranch}
use Rattle.op_check_stmt.proofs.Rows.{all_branches, all_statements, next_branch, next_statement, none_left}
use Rattle.op_check_stmt.specs.Case.{branch_labels, selector, spots}
use Rattle.op_check_stmt.specs.Unplaced.{place_of_body}
use Rattle.op_check_stmt.specs.Parts.{bounds_of, boxed_of, branch_of, front_of, head_of, items_of, statements_in}
use Rattle.op_check_stmt.specs.Statement.{all_spots, bound_of, branches, case_head, case_statement, condition, excepted, first_class, for_statement, paired, looped, place_of_handlers, statement, statements, tried, type_in, with_branch, within}
use Rattle.op_check_stmt.specs.Variable.{counter}
use Rattle.op_check_stmt.specs.declared.variable.Counter.{Counter}
use Rattle.op_core.specs.Expression.{Expression, expr_of as typed_of}
use Rattle.op_core.specs.Nodes.{branches_of as typed_branches_of}
use Rattle.op_core.specs.Statement.{Statement, block, if_then, if_else, while_do, repeat_until, try_finally, statements as typed_statements, no_branches as no_typed_branches, no_statements, stmt_of as typed_statement, stmts_of as typed_statements_of}
use Rattle.op_core.specs.declared.statement.CoreStmt.{CoreStmt}
use Rattle.op_tree.proofs.Rows.{block_says, case_of_says, case_else_says, repeat_until_says, try_finally_says, try_except_says, try_on_says, try_on_else_says}
use Rattle.op_tree.specs.Expression.{expr_of}
use Rattle.op_tree.specs.Lists.{branches_of, handlers_of}
use Rattle.op_tree.specs.declared.expression.Expr.{Expr}
use Rattle.op_tree.specs.Statement as tree
use Rattle.op_tree.specs.Statement.{designator_of, elements_of, stmt_of, stmts_of}
use Rattle.op_tree.specs.declared.statement.Stmt.{Stmt}
use Rattle.op_tree.specs.declared.statement.Stmt.TheVariants.{TryOn}
use Rattle.std.specs.Prelude.{Vec}
use Rattle.std.specs.declared.alloc.Global.{Global}
use Rattle.op_check_stmt.proofs.walk.+statements.Goals as goal

abbrev listed : Vec CoreStmt Global → Statements
listed v = typed_statements_of v.items

abbrev branch_list : Vec CoreBranch Global → Branches
branch_list v = typed_branches_of v.items

abbrev head_at : Here → Rattle.op_tree.specs.Statement.Branches → Expr → Judgement (Expression × Branches)
head_at here bs e = case_head here (expr_of e) bs (λ of. branches here of bs)

-- with other parts round it
abbrev moved : Here → List Around → Here
moved here around = record here { around = around }

-- the head of a case, at a selector that is in a block of its own
head_of_selector : (here : Here) (bs : tree.Branches) (old new : FirstRefusal) (t : Option (Expression × Branches)) {a b : Expr} → a ≡ b → Reports (head_at here bs a) old new t → Reports (head_at here bs b) old new t
head_of_selector here bs old new t is = subst (λ e. Reports (head_at here bs e) old new t) is

-- what is known of a tree is known of the statement that says it
told : {V : Type 0} (here : Here) (old new : FirstRefusal) (r : Result V NoMemory) (q : Option Statement) {s t : tree.Statement} → s ≡ t → IfOk r (λ _. Reports (statement here s) old new q) → IfOk r (λ _. Reports (statement here t) old new q)
told here old new r q e = subst (λ s. IfOk r (λ _. Reports (statement here s) old new q)) e

pub statement-returns-in-Block : goal.statement-returns-in-Block
statement-returns-in-Block t c =
    told (here_of c.args.here.now.scope) c.args.sink.now c.block.new.sink c.block.result (option_map typed_statement c.block.new.out)
    (ap (λ ss. tree.block (stmts_of ss)) c.deref.ensures.value ∙ sym (ap stmt_of c.in-Block.is ∙ block_says c.in-Block.list)) c.block.ensures

pub statement-returns-in-If : goal.statement-returns-in-If
statement-returns-in-If t c =
    told (here_of c.args.here.now.scope) c.args.sink.now c.if_then.new.sink c.if_then.result (option_map typed_statement c.if_then.new.out)
    (ap (λ s. tree.if_then (expr_of c.in-If.condition) (stmt_of s)) c.deref-in-If.ensures ∙ sym (ap stmt_of c.in-If.is)) c.if_then.ensures

pub statement-returns-in-IfElse : goal.statement-returns-in-IfElse
statement-returns-in-IfElse t c =
    let here = here_of c.args.here.now.scope in
    let e = checked (condition here (expr_of c.in-IfElse.condition)) in
    let then = λ (s : Stmt). checked (statement here (stmt_of s)) in
    let old = c.args.sink.now in
    let far = c.if_front-done.new.sink in
    let new = c.boxed-otherwise.new.sink in
    let front = option_map front_of c.if_front-done.new.out in
    let q = option_map typed_statement c.if_else.new.out in
    told here old new c.if_else.result q (sym (ap stmt_of c.in-IfElse.is))
    (behind c.if_front-done.result c.if_else.result c.if_front-done.ensures c.if_else.ensures
    (λ h k. of_ok c.boxed-otherwise.result c.boxed-otherwise.ensures k
    (λ o g is. two (λ (f : Expression × Statement) (s : Statement). if_else f.0 f.1 s) (both e (then c.in-IfElse.then.value)) (then c.in-IfElse.otherwise.value) old far new front (option_map boxed_of o) q
    (subst (λ s. ReportsOf (both e (then s)) old far front) c.deref-in-IfElse.ensures h)
    (subst (λ s. ReportsOf (then s) far new (option_map boxed_of o)) c.deref-in-IfElse-2.ensures g) is)))

pub statement-returns-in-Case : goal.statement-returns-in-Case
statement-returns-in-Case t c =
    told (here_of c.args.here.now.scope) c.args.sink.now c.case_of.new.sink c.case_of.result (option_map typed_statement c.case_of.new.out)
    (ap (λ bs. tree.case_of (expr_of c.deref-in-Case-2.result.now) (branches_of bs)) c.deref-in-Case.ensures.value
    ∙ ap (λ e. tree.case_of (expr_of e) (branches_of c.in-Case.branches.items)) c.deref-in-Case-2.ensures
    ∙ sym (ap stmt_of c.in-Case.is ∙ case_of_says c.in-Case.selector c.in-Case.branches)) c.case_of.ensures

pub statement-returns-in-CaseElse : goal.statement-returns-in-CaseElse
statement-returns-in-CaseElse t c =
    let here = here_of c.args.here.now.scope in
    let bs = branches_of c.in-CaseElse.branches.items in
    let head = λ (e : Expr). head_at here bs e in
    let otherwise = checked (statements here (stmts_of c.in-CaseElse.otherwise.items)) in
    let old = c.args.sink.now in
    let mid = c.case_head-done.new.sink in
    let new = c.statements-otherwise.new.sink in
    let typed = option_map head_of c.case_head-done.new.out in
    let last = statements_in c.statements-otherwise.new.out in
    let q = option_map typed_statement c.case_of-in-CaseElse.new.out in
    told here old new c.case_of-in-CaseElse.result q (sym (ap stmt_of c.in-CaseElse.is ∙ case_else_says c.in-CaseElse.selector c.in-CaseElse.branches c.in-CaseElse.otherwise))
    (behind c.case_head-done.result c.case_of-in-CaseElse.result c.case_head-done.ensures c.case_of-in-CaseElse.ensures
    (λ h k. behind_both c.statements-otherwise.result c.statements-otherwise.ensures k
    (λ g is. two case_statement (checked (head c.in-CaseElse.selector.value)) otherwise old mid new typed last q
    (subst (λ bs. Reports (head_at here (branches_of bs) c.in-CaseElse.selector.value) old mid typed) c.deref-in-CaseElse.ensures.value
    (head_of_selector here (branches_of c.deref-in-CaseElse.result.now) old mid typed c.deref-in-CaseElse-2.ensures h))
    (subst (λ ss. Reports (statements here (stmts_of ss)) mid new last) c.deref-in-CaseElse-3.ensures.value g) is)))

pub statement-returns-in-While : goal.statement-returns-in-While
statement-returns-in-While t c =
    told (here_of c.args.here.now.scope) c.args.sink.now c.while_do.new.sink c.while_do.result (option_map typed_statement c.while_do.new.out)
    (ap (λ s. tree.while_do (expr_of c.in-While.condition) (stmt_of s)) c.deref-in-While.ensures ∙ sym (ap stmt_of c.in-While.is)) c.while_do.ensures

pub statement-returns-in-Repeat : goal.statement-returns-in-Repeat
statement-returns-in-Repeat t c =
    told (here_of c.args.here.now.scope) c.args.sink.now c.repeat_until.new.sink c.repeat_until.result (option_map typed_statement c.repeat_until.new.out)
    (ap (λ ss. tree.repeat_until (stmts_of ss) (expr_of c.deref-in-Repeat-2.result.now)) c.deref-in-Repeat.ensures.value
    ∙ ap (λ e. tree.repeat_until (stmts_of c.in-Repeat.body.items) (expr_of e)) c.deref-in-Repeat-2.ensures
    ∙ sym (ap stmt_of c.in-Repeat.is ∙ repeat_until_says c.in-Repeat.body c.in-Repeat.condition)) c.repeat_until.ensures

pub statement-returns-in-For : goal.statement-returns-in-For
statement-returns-in-For t c =
    let for = tree.for_to c.in-For.variable in
    let first = expr_of c.in-For.first.value in
    told (here_of c.args.here.now.scope) c.args.sink.now c.for_to.new.sink c.for_to.result (option_map typed_statement c.for_to.new.out)
    (ap (λ s. for (expr_of c.deref-in-For-2.result.now) c.in-For.direction (expr_of c.deref-in-For-3.result.now) (stmt_of s)) c.deref-in-For.ensures
    ∙ ap (λ e. for (expr_of e) c.in-For.direction (expr_of c.deref-in-For-3.result.now) (stmt_of c.in-For.body.value)) c.deref-in-For-2.ensures
    ∙ ap (λ e. for first c.in-For.direction (expr_of e) (stmt_of c.in-For.body.value)) c.deref-in-For-3.ensures
    ∙ sym (ap stmt_of c.in-For.is)) c.for_to.ensures

pub statement-returns-in-TryFinally : goal.statement-returns-in-TryFinally
statement-returns-in-TryFinally t c =
    let here = here_of c.args.here.now.scope in
    let old = c.args.sink.now in
    let mid = c.statements-done.new.sink in
    let new = c.finally_part-finally.new.sink in
    let first = statements_in c.statements-done.new.out in
    let last = statements_in c.finally_part-finally.new.out in
    let q = option_map typed_statement c.try_finally.new.out in
    told here old new c.try_finally.result q (sym (ap stmt_of c.in-TryFinally.is ∙ try_finally_says c.in-TryFinally.body c.in-TryFinally.finalization))
    (behind c.statements-done.result c.try_finally.result c.statements-done.ensures c.try_finally.ensures
    (λ h k. behind_both c.finally_part-finally.result c.finally_part-finally.ensures k
    (λ g is. two try_finally (checked (statements here (stmts_of c.in-TryFinally.body.items))) (checked (statements (within here Finally) (stmts_of c.in-TryFinally.finalization.items))) old mid new first last q
    (subst (λ ss. Reports (statements here (stmts_of ss)) old mid first) c.deref-in-TryFinally.ensures.value h)
    (subst (λ ss. Reports (statements (within here Finally) (stmts_of ss)) mid new last) c.deref-in-TryFinally-2.ensures.value g) is)))

pub statement-returns-in-Call : goal.statement-returns-in-Call
statement-returns-in-Call t c = told (here_of c.args.here.now.scope) c.args.sink.now c.call.new.sink c.call.result (option_map typed_statement c.call.new.out) (sym (ap stmt_of c.in-Call.is)) c.call.ensures

pub statement-returns-in-Assign : goal.statement-returns-in-Assign
statement-returns-in-Assign t c =
    told (here_of c.args.here.now.scope) c.args.sink.now c.assignment.new.sink c.assignment.result (option_map typed_statement c.assignment.new.out)
    (ap (λ e. tree.assign (designator_of c.in-Assign.target) c.in-Assign.position (expr_of e)) c.deref-in-Assign.ensures ∙ sym (ap stmt_of c.in-Assign.is)) c.assignment.ensures

pub block-returns : goal.block-returns
block-returns t c =
    let here = here_of c.args.here.now.scope in
    behind c.statements-done.result c.block.result c.statements-done.ensures c.block.ensures
    (λ h is. one block (checked (statements here (stmts_of c.args.list.now))) c.args.sink.now c.statements-done.new.sink (statements_in c.statements-done.new.out) (option_map typed_statement c.block.new.out) h is)

pub if_then-returns : goal.if_then-returns
if_then-returns t c =
    let here = here_of c.args.here.now.scope in
    behind c.check_condition-done.result c.if_then.result c.check_condition-done.ensures c.if_then.ensures
    (λ h k. of_ok c.boxed-then.result c.boxed-then.ensures k
    (λ o g is. two if_then (checked (condition here (expr_of c.args.e.now))) (checked (statement here (stmt_of c.args.then.now)))
    c.args.sink.now c.check_condition-done.new.sink c.boxed-then.new.sink
    (option_map typed_of c.check_condition-done.new.out) (option_map boxed_of o) (option_map typed_statement c.if_then.new.out) h g is))

pub if_front-returns : goal.if_front-returns
if_front-returns t c =
    let here = here_of c.args.here.now.scope in
    behind c.check_condition-done.result c.front.result c.check_condition-done.ensures c.front.ensures
    (λ h k. of_ok c.boxed-then.result c.boxed-then.ensures k
    (λ o g is. pairs typed_of boxed_of (checked (condition here (expr_of c.args.e.now))) (checked (statement here (stmt_of c.args.then.now)))
    c.args.sink.now c.check_condition-done.new.sink c.boxed-then.new.sink c.check_condition-done.new.out o c.front.new.out h g is))

pub while_do-returns : goal.while_do-returns
while_do-returns t c =
    let here = here_of c.args.here.now.scope in
    behind c.check_condition-done.result c.while_do.result c.check_condition-done.ensures c.while_do.ensures
    (λ h k. of_ok c.loop_body-body.result c.loop_body-body.ensures k
    (λ o g is. two while_do (checked (condition here (expr_of c.args.e.now))) (checked (statement (looped here None) (stmt_of c.args.body.now)))
    c.args.sink.now c.check_condition-done.new.sink c.loop_body-body.new.sink
    (option_map typed_of c.check_condition-done.new.out) (option_map boxed_of o) (option_map typed_statement c.while_do.new.out) h g is))

pub repeat_until-returns : goal.repeat_until-returns
repeat_until-returns t c =
    let here = here_of c.args.here.now.scope in
    let typed = statements_in c.statements-done.new.out in
    behind c.statements-done.result c.repeat_until.result c.statements-done.ensures c.repeat_until.ensures
    (λ h k. behind_both c.check_condition-tested.result c.check_condition-tested.ensures k
    (λ g is. two repeat_until (checked (statements (looped here None) (stmts_of c.args.body.now))) (checked (condition here (expr_of c.args.e.now)))
    c.args.sink.now c.statements-done.new.sink c.check_condition-tested.new.sink typed (option_map typed_of c.check_condition-tested.new.out) (option_map typed_statement c.repeat_until.new.out)
    (subst (λ h. Reports (statements h (stmts_of c.args.body.now)) c.args.sink.now c.statements-done.new.sink typed)
    (c.inside.ensures ∙ ap (moved here) (c.as_slice.ensures.value ∙ c.in_ok-around.ensures)) h) g is))

pub for_to-returns : goal.for_to-returns
for_to-returns t c =
    let here = here_of c.args.here.now.scope in
    let k = checked (counter here c.args.variable.now) in
    let bounds = λ (k : Option Counter). checked (paired (bound_of here k (expr_of c.args.first.now)) (bound_of here k (expr_of c.args.last.now))) in
    let body = λ (k : Option Counter). checked (statement (looped here (option_map (λ c. c.variable) k)) (stmt_of c.args.body.now)) in
    let old = c.args.sink.now in
    let mid = c.check_counter.new.sink in
    let far = c.bounds.new.sink in
    let new = c.loop_body.new.sink in
    let is = c.in_ok-counter.ensures.0 in
    behind_answer c.bounds.result c.for_to.result c.bounds.ensures c.for_to.ensures
    (λ both h j. of_ok c.loop_body.result c.loop_body.ensures j
    (λ o g e. three (for_statement c.args.direction) k (bounds k.typed) (body k.typed) old mid far new
    c.in_ok-counter.counter (option_map bounds_of both) (option_map boxed_of o) (option_map typed_statement c.for_to.new.out)
    c.in_ok-counter.ensures
    (subst (λ k. ReportsOf (bounds k) mid far (option_map bounds_of both)) is h)
    (subst (λ k. ReportsOf (body k) far new (option_map boxed_of o)) is
    (subst (λ v. Reports (statement (looped here v) (stmt_of c.args.body.now)) far new (option_map boxed_of o)) c.variable_of.ensures g)) e))

pub finally_part-returns : goal.finally_part-returns
finally_part-returns t c =
    let here = here_of c.args.here.now.scope in
    subst (λ h. IfOk c.statements.result (λ _. Reports (statements h (stmts_of c.args.list.now)) c.args.sink.now c.statements.new.sink (statements_in c.statements.new.out)))
    (c.inside.ensures ∙ ap (moved here) (c.as_slice.ensures.value ∙ c.in_ok-around.ensures)) c.statements.ensures

pub excepted-returns : goal.excepted-returns
excepted-returns t c =
    let here = here_of c.args.here.now.scope in
    let mid = c.statements-done.new.sink in
    let new = c.handlers_left_out.new.sink in
    let q = option_map typed_statement c.handlers_left_out.new.out in
    behind c.statements-done.result c.handlers_left_out.result c.statements-done.ensures c.handlers_left_out.ensures
    (λ h k. then (checked (statements here (stmts_of c.args.body.now))) (λ ss. checked (refused (NotInProfile Exceptions) (place_of_handlers here c.args.class)))
    c.args.sink.now mid new (statements_in c.statements-done.new.out) q h
    (subst (λ p. Reports (refused (NotInProfile Exceptions) p) mid new q) c.place_of_handlers.ensures k))

pub boxed-returns : goal.boxed-returns
boxed-returns t c = behind_value c.statement-done.result c.boxed.result c.statement-done.ensures c.boxed.ensures (λ s h is. (is ∙ h.0, h.1))

pub loop_body-returns : goal.loop_body-returns
loop_body-returns t c =
    let here = here_of c.args.here.now.scope in
    let q = option_map typed_statement c.statement-done.new.out in
    behind_value c.statement-done.result c.boxed.result c.statement-done.ensures c.boxed.ensures
    (λ s h is. let k = subst (λ h. Reports (statement h (stmt_of c.args.s.now)) c.args.sink.now c.statement-done.new.sink q) (c.inside.ensures ∙ ap (moved here) (c.as_slice.ensures.value ∙ c.in_ok-around.ensures)) h in
    (is ∙ k.0, k.1))

pub case_of-returns : goal.case_of-returns
case_of-returns t c =
    let here = here_of c.args.here.now.scope in
    let new = c.case_head-done.new.sink in
    behind c.case_head-done.result c.case_of.result c.case_head-done.ensures c.case_of.ensures
    (λ h is. two case_statement (checked (head_at here (branches_of c.args.list.now) c.args.e.now)) (checked (fine no_statements))
    c.args.sink.now new new (option_map head_of c.case_head-done.new.out) (statements_in (Some c.new.result)) (option_map typed_statement c.case_of.new.out)
    h (ap (λ xs. Some (typed_statements_of xs)) c.new.ensures.items, refl) is)

pub statements-loop-s-init : goal.statements-loop-s-init
statements-loop-s-init t c =
    let whole = statements (here_of c.args.here.now.scope) (stmts_of c.args.list.now) in
    subst (λ xs. Completes typed_statement typed_statements xs (checked whole) (checked whole) c.args.sink.now c.args.sink.now) (sym c.begin.ensures) (begins typed_statement typed_statements (checked whole) c.args.sink.now)

pub statements-loop-s-preserved : goal.statements-loop-s-preserved
statements-loop-s-preserved t c =
    let here = here_of c.args.here.now.scope in
    let list = c.args.list.now in
    let k = c.loop-s.s-index in
    let x = c.s-item.result in
    let part = c.statement-done.new.out in
    behind_both c.statement-done.result c.statement-done.ensures c.in_ok-collect.ensures
    (λ h is. next typed_statement typed_statements (items_of c.loop-s.out) (items_of c.collect.new.list) part (option_map typed_statement part) (checked (statements here (stmts_of list))) (checked (statement here (stmt_of x))) (checked (statements here (stmts_of (drop (k + 1) list)))) c.args.sink.now c.loop-s.sink c.statement-done.new.sink
    (subst (λ r. Completes typed_statement typed_statements (items_of c.loop-s.out) (checked (statements here (stmts_of list))) (checked (statements here r)) c.args.sink.now c.loop-s.sink) (next_statement list k x c.loop-s-test.true c.s-item.is) c.loop-s.invariant)
    h refl is)

pub statements-returns : goal.statements-returns
statements-returns t c =
    let here = here_of c.args.here.now.scope in
    let list = c.args.list.now in
    let typed = items_of c.loop-s.out in
    subst (Reports (statements here (stmts_of list)) c.args.sink.now c.loop-s.sink) (ap (option_map typed_statements_of) (sym c.fit.ensures) ∙ seen typed_statements_of c.fit.new.list)
    (ends typed_statement typed_statements no_statements typed_statements_of all_statements typed (checked (statements here (stmts_of list))) c.args.sink.now c.loop-s.sink
    (subst (λ r. Completes typed_statement typed_statements typed (checked (statements here (stmts_of list))) r c.args.sink.now c.loop-s.sink) (none_left (λ xs. checked (statements here (stmts_of xs))) list c.loop-s.s-index c.loop-s-test.false) c.loop-s.invariant))

pub branches-loop-branch-init : goal.branches-loop-branch-init
branches-loop-branch-init t c =
    let whole = branches (here_of c.args.here.now.scope) c.args.of (branches_of c.args.list.now) in
    record {
      typed = subst (λ xs. Completes branch_of with_branch xs (checked whole) (checked whole) c.args.sink.now c.args.sink.now) (sym c.begin.ensures) (begins branch_of with_branch (checked whole) c.args.sink.now);
      noted = refl;
    }

pub branches-loop-branch-preserved : goal.branches-loop-branch-preserved
branches-loop-branch-preserved t c =
    let here = here_of c.args.here.now.scope in
    let of = c.args.of in
    let list = c.args.list.now in
    let k = c.loop-branch.branch-index in
    let x = c.branch-item.result in
    let old = c.loop-branch.sink in
    let mid = c.branch_labels-labels.new.sink in
    let new = c.statement-done.new.sink in
    let own = elements_of x.labels.items in
    let rest = branches_of (drop (k + 1) list) in
    let e = next_branch list k x c.loop-branch-test.true c.branch-item.is in
    let item = checked (paired (branch_labels here of own) (statement here (stmt_of x.body))) in
    let typed = option_map branch_of c.branch-made.new.out in
    let body = option_map typed_statement c.statement-done.new.out in
    behind_both c.branch-made.result c.branch-made.ensures c.in_ok-collect.ensures
    (λ made is. of_ok c.branch_labels-labels.result c.branch_labels-labels.ensures.reports made
    (λ ls reports j. of_ok c.branch_labels-labels.result c.branch_labels-labels.ensures.notes made
    (λ ls' notes j'. behind_both c.statement-done.result c.statement-done.ensures j
    (λ h both. let part = two (λ l s. (l, s)) (checked (branch_labels here of own)) (checked (statement here (stmt_of x.body))) old mid new (items_of ls) body typed
    (subst (λ es. Reports (branch_labels here of (elements_of es)) old mid (items_of ls)) c.deref.ensures.value reports) h both in
    record {
      typed = next branch_of with_branch (items_of c.loop-branch.out) (items_of c.collect.new.list) c.branch-made.new.out typed (checked (branches here of (branches_of list))) item (checked (branches here of rest)) c.args.sink.now old new
          (subst (λ r. Completes branch_of with_branch (items_of c.loop-branch.out) (checked (branches here of (branches_of list))) (checked (branches here of r)) c.args.sink.now old) e c.loop-branch.invariant.typed)
          part refl is;
      noted = noted c.loop-branch.spots.items c.branch_labels-labels.new.others.items (c.args.spots.now.items ++ all_spots here of (branches_of list)) (spots here of own) (all_spots here of rest) (all_spots here of (branches_of (drop k list)))
          (notes ∙ ap (λ es. c.loop-branch.spots.items ++ spots here of (elements_of es)) c.deref.ensures.value) (ap (all_spots here of) e) c.loop-branch.invariant.noted;
    }))))

pub branches-returns-clause-reports : goal.branches-returns-clause-reports
branches-returns-clause-reports t c =
    let here = here_of c.args.here.now.scope in
    let of = c.args.of in
    let list = c.args.list.now in
    let typed = items_of c.loop-branch.out in
    let whole = branches here of (branches_of list) in
    subst (Reports whole c.args.sink.now c.loop-branch.sink) (ap (option_map typed_branches_of) (sym c.fit.ensures) ∙ seen typed_branches_of c.fit.new.list)
    (ends branch_of with_branch no_typed_branches typed_branches_of all_branches typed (checked whole) c.args.sink.now c.loop-branch.sink
    (subst (λ r. Completes branch_of with_branch typed (checked whole) r c.args.sink.now c.loop-branch.sink) (none_left (λ xs. checked (branches here of (branches_of xs))) list c.loop-branch.branch-index c.loop-branch-test.false) c.loop-branch.invariant.typed))

pub branches-returns-clause-notes : goal.branches-returns-clause-notes
branches-returns-clause-notes t c =
    let here = here_of c.args.here.now.scope in
    let of = c.args.of in
    let list = c.args.list.now in
    sym (append-nil c.loop-branch.spots.items) ∙ ap (λ r. c.loop-branch.spots.items ++ r) (sym (none_left (λ xs. all_spots here of (branches_of xs)) list c.loop-branch.branch-index c.loop-branch-test.false)) ∙ c.loop-branch.invariant.noted

pub case_head-returns : goal.case_head-returns
case_head-returns t c =
    let here = here_of c.args.here.now.scope in
    let e = checked (selector here (expr_of c.args.e.now)) in
    let bs = branches_of c.args.list.now in
    let rest = checked (branches here (type_in e.typed) bs) in
    let old = c.args.sink.now in
    let mid = c.check_selector-tested.new.sink in
    let far = c.branches-done.new.sink in
    let new = c.head.new.sink in
    let x = c.check_selector-tested.new.out in
    let y = c.branches-done.new.out in
    let spots = c.branches-done.new.spots.items in
    behind c.check_selector-tested.result c.head.result c.check_selector-tested.ensures c.head.ensures
    (λ h k. behind_both c.branches-done.result c.branches-done.ensures.reports k
    (λ reports j. behind_both c.branches-done.result c.branches-done.ensures.notes k
    (λ notes j'. let of : c.type_in-of.result ≡ type_in e.typed = c.type_in-of.ensures ∙ ap type_in h.0 in
    let all : spots ≡ all_spots here (type_in e.typed) bs = notes ∙ ap (λ xs. xs ++ all_spots here c.type_in-of.result bs) c.new-spots.ensures.items ∙ ap (λ of. all_spots here of bs) of in
    subst (λ ss. ReportsOf (followed (both e rest) (λ head. once head (repeated ss))) old new (option_map head_of c.head.new.out)) all
    (distinct_viewed head_of (both_typed (λ a b. (a, b)) x y) c.head.new.out spots (both e rest) old far new
    (pairs typed_of branch_list e rest old mid far x y (both_typed (λ a b. (a, b)) x y) h (subst (λ of. Reports (branches here of bs) mid far (branches_in y)) of reports) refl) j))))

-- a statement with handlers stands behind its body
pub statement-returns-in-None : goal.statement-returns-in-None
statement-returns-in-None t c =
    let here = here_of c.args.here.now.scope in
    let ss = statements here (stmts_of c.in-TryOn.body.items) in
    let old = c.args.sink.now in
    let r = c.block-in-None.result in
    let new = c.block-in-None.new.sink in
    let q = option_map typed_statement c.block-in-None.new.out in
    let hs = ap (λ hs. first_class (handlers_of hs)) c.deref-in-TryOn.ensures.value in
    told here old new r q (sym (ap stmt_of c.in-TryOn.is ∙ try_on_says c.in-TryOn.body c.in-TryOn.handlers))
    (subst (λ o. IfOk r (λ _. ReportsOf (checked (tried o ss (changed block ss))) old new q)) (sym (sym hs ∙ sym c.first_class.ensures ∙ c.in-None.is))
    (subst (λ ss. IfOk r (λ _. Reports (statement here (tree.block (stmts_of ss))) old new q)) c.deref-in-None.ensures.value c.block-in-None.ensures))

pub statement-returns-in-Some : goal.statement-returns-in-Some
statement-returns-in-Some t c =
    let here = here_of c.args.here.now.scope in
    let ss = statements here (stmts_of c.in-TryOn.body.items) in
    let old = c.args.sink.now in
    let r = c.excepted-in-Some.result in
    let new = c.excepted-in-Some.new.sink in
    let q = option_map typed_statement c.excepted-in-Some.new.out in
    let hs = ap (λ hs. first_class (handlers_of hs)) c.deref-in-TryOn.ensures.value in
    told here old new r q (sym (ap stmt_of c.in-TryOn.is ∙ try_on_says c.in-TryOn.body c.in-TryOn.handlers))
    (subst (λ o. IfOk r (λ _. ReportsOf (checked (tried o ss (changed block ss))) old new q)) (sym (sym hs ∙ sym c.first_class.ensures ∙ c.in-Some.is))
    (subst (λ ss. IfOk r (λ _. Reports (excepted c.in-Some.place (statements here (stmts_of ss))) old new q)) c.deref-in-Some.ensures.value c.excepted-in-Some.ensures))

pub statement-returns-in-TryExcept : goal.statement-returns-in-TryExcept
statement-returns-in-TryExcept t c =
    let here = here_of c.args.here.now.scope in
    let r = c.excepted.result in
    let q = option_map typed_statement c.excepted.new.out in
    told here c.args.sink.now c.excepted.new.sink r q (sym (ap stmt_of c.in-TryExcept.is ∙ try_except_says c.in-TryExcept.body c.in-TryExcept.handler))
    (subst (λ ss. IfOk r (λ _. Reports (excepted (place_of_body here) (statements here (stmts_of ss))) c.args.sink.now c.excepted.new.sink q)) c.deref-in-TryExcept.ensures.value c.excepted.ensures)

pub statement-returns-in-TryOnElse : goal.statement-returns-in-TryOnElse
statement-returns-in-TryOnElse t c =
    let here = here_of c.args.here.now.scope in
    let body = stmts_of c.in-TryOnElse.body.items in
    let old = c.args.sink.now in
    let new = c.excepted-in-TryOnElse.new.sink in
    let r = c.excepted-in-TryOnElse.result in
    let q = option_map typed_statement c.excepted-in-TryOnElse.new.out in
    told here old new r q (sym (ap stmt_of c.in-TryOnElse.is ∙ try_on_else_says c.in-TryOnElse.body c.in-TryOnElse.handlers c.in-TryOnElse.otherwise))
    (subst (λ o. IfOk r (λ _. Reports (excepted (place_of_handlers here o) (statements here body)) old new q))
    (c.first_class-in-TryOnElse.ensures ∙ ap (λ hs. first_class (handlers_of hs)) c.deref-in-TryOnElse-2.ensures.value)
    (subst (λ ss. IfOk r (λ _. Reports (excepted (place_of_handlers here c.first_class-in-TryOnElse.result) (statements here (stmts_of ss))) old new q)) c.deref-in-TryOnElse.ensures.value c.excepted-in-TryOnElse.ensures))
