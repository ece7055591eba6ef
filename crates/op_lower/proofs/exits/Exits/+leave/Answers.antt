use Rattle.std.proofs.Common.{◌≡◌, ◌∷◌, [], map, sym, ap, ◌∙◌}
use Rattle.op_mir.specs.Code.{ends, loop_exits, open_temporaries}
use Rattle.op_mir.specs.View.{view_temporary}
use Rattle.op_lower.specs.Exits.{exits_of, reason_of}
use Rattle.op_lower.proofs.exits.Exits.+leave.Goals as goal

pub returns-in-Exit : goal.returns-in-Exit
returns-in-Exit t c =
    let around = exits_of c.in-Loop.around.now in
    let e : exits_of c.args.self.now (reason_of c.args.way) ≡ around (reason_of c.args.way) =
    ap (λ x. exits_of x (reason_of c.args.way)) c.in-Loop.is
    ∙ ap (λ w. loop_exits around c.in-Loop.behind.0 (reason_of w)) c.in-Exit.is
    ∙ sym (ap (λ w. around (reason_of w)) c.in-Exit.is) in
    rw e c.leave.ensures

pub returns-in-Finally : goal.returns-in-Finally
returns-in-Finally t c = rw (ap (λ x. exits_of x (reason_of c.args.way)) c.in-Finally.is) c.leave_part.ensures

pub returns-in_ok-end_scope-in-Scope : goal.returns-in_ok-end_scope-in-Scope
returns-in_ok-end_scope-in-Scope t c = λ core r.
    c.in_ok-end_scope-in-Scope.ensures core r
    ∙ ap (λ x. open_temporaries [] ∷ ends (map view_temporary c.in-Scope.temporaries.now) x) (c.in_ok-code-in-Scope.ensures core r)
    ∙ sym (ap (λ x. exits_of x (reason_of c.args.way)) c.in-Scope.is)
