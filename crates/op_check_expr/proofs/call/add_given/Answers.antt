use Rattle.std.proofs.Common.{◌≡◌, Some, [], ◌∷◌, ◌++◌, ap, subst, sym, ◌∙◌}
use Rattle.std.specs.Option.{option_map}
use Rattle.op_core.specs.Expression.{argument_of}
use Rattle.op_core.specs.Nodes.{arguments_of}
use Rattle.op_check_expr.specs.Calling.{given_behind, given_of}
use Rattle.op_check_expr.specs.Parts.{Behind}
use Rattle.op_check_expr.proofs.Arguments.{one_more}
use Rattle.op_check_expr.proofs.call.add_given.Goals as goal

pub returns : goal.returns
returns c =
    let xs = c.in-Some.list in
    let x = c.in-Some-more.more in
    rw c.put.ensures (subst (λ d. Behind d (Some (given_of c.push.new.self) ≡ given_behind (option_map given_of c.args.given.now) (option_map argument_of c.args.more))) (sym c.in_ok-done.was)
    (ap Some (ap arguments_of (c.in_ok-push.ensures.items ∙ ap (λ ys. ys ++ x ∷ []) c.make_room.ensures) ∙ sym (one_more xs.items x))
    ∙ sym (ap (λ g. given_behind (option_map given_of g) (option_map argument_of c.args.more)) (sym c.take.ensures.value ∙ c.in-Some.is) ∙ ap (λ m. given_behind (Some (given_of xs)) (option_map argument_of m)) c.in-Some-more.is)))
