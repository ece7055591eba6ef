use Rattle.std.proofs.Common.{codes, ◌++◌}
use Rattle.std.proofs.Common.{ap, ◌∙◌}
use Rattle.std.specs.Prelude.{decimal}
use Rattle.op_tool.proofs.Words.{line_parts}
use Rattle.op_tool.proofs.report.refusal_line.Goals as goal

-- the parts of the line
pub returns : goal.returns
returns c = (
  c.rule_text-text.result.now,
  c.rule_text-text.ensures,
  c.in_ok-extend_from_slice-2.ensures.items
      ∙ ap (λ bytes. bytes ++ c.as_bytes.result.now) (c.in_ok-extend_from_slice.ensures.items ∙ ap (λ bytes. bytes ++ c.args.file.now) c.in_ok-line.ensures.items)
      ∙ ap (λ bytes. codes "opc: " ++ c.args.file.now ++ bytes) (c.as_bytes.ensures.value ∙ c.in_ok-rest.ensures.ok)
      ∙ line_parts c.args.file.now (decimal c.args.refusal.place.line) (decimal c.args.refusal.place.col) (decimal c.args.refusal.rule.number) c.rule_text-text.result.now,
)
