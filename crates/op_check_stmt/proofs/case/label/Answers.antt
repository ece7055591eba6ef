use Rattle.std.proofs.Common.{ap, subst, sym, ◌∙◌}
use Rattle.op_check_expr.specs.Scopes.{here_of}
use Rattle.op_check_stmt.proofs.Parts.{then}
use Rattle.op_check_stmt.specs.Case.{both_bounds, bound, label}
use Rattle.op_judgement.specs.Judgement.{Reports, checked, followed}
use Rattle.op_tree.specs.Expression.{element_of, expr_of}
use Rattle.op_types.specs.ConstantParts.{start_of}
use Rattle.op_check_stmt.proofs.case.label.Goals as goal

pub returns-in_ok-high-in-Range : goal.returns-in_ok-high-in-Range
returns-in_ok-high-in-Range c =
    let here = here_of c.args.here.scope in
    let of = c.args.of in
    let e = expr_of c.in-Range.first.value in
    let f = expr_of c.in-Range.last.value in
    let old = c.args.sink.now in
    let mid = c.check_bound-in-Range.new.sink in
    let far = c.check_bound-in-Range-2.new.sink in
    let new = c.range_of.new.sink in
    let low = c.in_ok-low-in-Range.low in
    let high = c.in_ok-high-in-Range.high in
    subst (λ x. Reports (label here of x) old new c.range_of.result) (sym (ap element_of c.in-Range.is))
    (then (checked (bound here of e)) (λ b. checked (followed (bound here of f) (both_bounds (start_of e) b))) old mid new low c.range_of.result
    (subst (λ e. Reports (bound here of (expr_of e)) old mid low) c.deref.ensures c.in_ok-low-in-Range.ensures)
    (then (checked (bound here of f)) (λ b. checked (both_bounds (start_of e) low b)) mid far new high c.range_of.result
    (subst (λ e. Reports (bound here of (expr_of e)) mid far high) c.deref-in-Range.ensures c.in_ok-high-in-Range.ensures)
    (subst (λ p. Reports (both_bounds p low high) far new c.range_of.result) (c.start_of-in-Range.ensures ∙ ap (λ e. start_of (expr_of e)) c.deref-in-Range-2.ensures) c.range_of.ensures)))
