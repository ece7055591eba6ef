use Rattle.op_link.proofs.Headers.{apart_from_all, overlaps_some}
use Rattle.op_link.proofs.conditions.+are_apart.Goals as goal

pub returns-then-is_apart_from : goal.returns-then-is_apart_from
returns-then-is_apart_from t c =
    apart_from_all c.in-Some.first.now c.in-Some.rest.now c.args.headers.now c.in-Some.ensures.cases.0 c.is_apart_from.result c.are_apart.result c.is_apart_from.ensures c.if-is_apart_from.true c.are_apart.ensures

pub returns-else-is_apart_from : goal.returns-else-is_apart_from
returns-else-is_apart_from t c =
    overlaps_some c.in-Some.first.now c.in-Some.rest.now c.args.headers.now c.in-Some.ensures.cases.0 c.is_apart_from.result c.is_apart_from.ensures c.if-is_apart_from.false
