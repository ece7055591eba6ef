use Rattle.op_parse_decl.specs.DeclarationParts.{method_of_list}
use Rattle.op_parse_decl.proofs.routine.MethodMade.of.Goals as goal

pub returns : goal.returns
returns c = rw c.from.ensures (λ d ks r x. method_of_list _ x)
