use Rattle.std.proofs.Common.{sym, ap, ◌∙◌}
use Rattle.op_parse_decl.proofs.Methods.{directive_stands}
use Rattle.op_tree.specs.HeadingGrammar.{directive_of}
use Rattle.op_tree.specs.Terminal.{terminals}
use Rattle.op_parse_decl.proofs.heading.directive_at.Goals as goal

pub returns-clause-stands : goal.returns-clause-stands
returns-clause-stands c = directive_stands _ _ _ _ _ _ _ _ (ap terminals c.in_ok-first.ensures.cases.0) c.in-Identifier.is c.in_ok-rest.ensures.mark.1 (ap directive_of (sym c.as_slice.ensures) ∙ sym c.directive_of.ensures ∙ c.in_ok-directive.was)
