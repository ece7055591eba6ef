use Rattle.std.proofs.Common.{sym, ap, ◌∙◌}
use Rattle.op_parse_decl.proofs.ClassParts.{indexed_property}
use Rattle.op_tree.specs.Terminal.{terminals}
use Rattle.op_parse_decl.proofs.property.IndexedPropertyFormBehind.feature.Goals as goal

pub returns-then-is_word : goal.returns-then-is_word
returns-then-is_word c = indexed_property (ap terminals c.in_ok-first.ensures.cases.0) (sym c.is_word.ensures ∙ c.if-is_word.true)
