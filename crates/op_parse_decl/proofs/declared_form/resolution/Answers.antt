use Rattle.std.proofs.Common.{sym, ap, ◌∷◌, ◌∙◌}
use Rattle.op_parse_decl.proofs.Classes.{resolves}
use Rattle.op_scan.specs.declared.token.TokenKind.TheVariants as kind
use Rattle.op_tree.specs.Terminal.{terminals, ◌at◌}
use Rattle.op_parse_decl.proofs.declared_form.resolution.Goals as goal

pub returns : goal.returns
returns c = resolves _ _ _ _ _ _ (sym c.is_identifier.ensures ∙ c.if-not-is_identifier.false) (c.in_ok-rest.ensures.mark.1 ∙ ap (λ z. kind.Dot at c.in_ok-rest.ensures.mark.0 ∷ z) (ap terminals c.in_ok-second.ensures.cases.0)) _ c.in_ok-behind_mark.ensures.mark.1
