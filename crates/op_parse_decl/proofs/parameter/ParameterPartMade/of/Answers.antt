use Rattle.op_parse_decl.specs.HeadingParts.{given_of_list}
use Rattle.op_parse_decl.proofs.parameter.ParameterPartMade.of.Goals as goal

pub returns-in-Unmarked-1₀ : goal.returns-in-Unmarked-1₀
returns-in-Unmarked-1₀ c = rw (c.in-Marked.is, c.in-Unmarked-1₀.is, ← c.in-Unmarked-1₀.list-is, c.from-in-Unmarked-1₀.ensures) (λ d ks r x. given_of_list _ x)
