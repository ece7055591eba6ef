use Rattle.std.proofs.Common.{sym, ◌∙◌}
use Rattle.op_mir.specs.FrameNeed.{roots_of_instruction}
use Rattle.op_mir.proofs.NeedLemmas.{any_in_blocks, any_named, once_back, once_front, once_new}
use Rattle.op_mir.proofs.frame_need.bytes_once.Goals as goal

pub returns-then-named_in_code-clause-value : goal.returns-then-named_in_code-clause-value
returns-then-named_in_code-clause-value c = once_front c.args.core.now c.args.root _ _ (any_named c.args.root roots_of_instruction c.args.others.now ∙ sym c.named_in_code.ensures ∙ c.if-named_in_code.true)

pub returns-then-named_in_blocks-clause-value : goal.returns-then-named_in_blocks-clause-value
returns-then-named_in_blocks-clause-value c =
    once_back c.args.core.now c.args.root _ _ (any_named c.args.root roots_of_instruction c.args.others.now ∙ sym c.named_in_code.ensures ∙ c.if-named_in_code.false)
    (any_in_blocks c.args.root c.args.behind.now ∙ sym c.named_in_blocks.ensures ∙ c.if-named_in_blocks.true)

pub returns-clause-value : goal.returns-clause-value
returns-clause-value c =
    once_new c.args.core.now c.args.root _ _ _ (any_named c.args.root roots_of_instruction c.args.others.now ∙ sym c.named_in_code.ensures ∙ c.if-named_in_code.false)
    (any_in_blocks c.args.root c.args.behind.now ∙ sym c.named_in_blocks.ensures ∙ c.if-named_in_blocks.false) c.size_of_root.ensures.value
