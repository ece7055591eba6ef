use Rattle.std.proofs.Common.{sym, ap, ◌∙◌}
use Rattle.op_parse_decl.proofs.Classes.{visibility_stands}
use Rattle.op_tree.specs.HeadingGrammar.{visibility_of}
use Rattle.op_tree.specs.Terminal.{terminals}
use Rattle.op_parse_decl.proofs.class.visibility.Goals as goal

pub returns-clause-stands : goal.returns-clause-stands
returns-clause-stands c = visibility_stands _ _ _ _ _ _ (ap terminals c.in_ok-first.ensures.cases.0) c.in-Identifier.is (ap visibility_of (sym c.as_slice.ensures) ∙ sym c.visibility_of.ensures ∙ c.in_ok-visibility.was) (sym c.goes_on_as_field.ensures ∙ c.if-goes_on_as_field.false)
