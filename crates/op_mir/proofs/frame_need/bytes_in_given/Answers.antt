use Rattle.std.proofs.Common.{sym, ◌∙◌}
use Rattle.op_mir.specs.FrameNeed.{roots_of_given, roots_of_receiver}
use Rattle.op_mir.proofs.NeedLemmas.{any_call, none_given, once_behind, once_front, one_given}
use Rattle.op_mir.proofs.frame_need.bytes_in_given.Goals as goal

pub returns-in-None : goal.returns-in-None
returns-in-None c = none_given c.args.core.now _ _ _ c.given_root.ensures c.in-None.is

pub returns-then-named_in_call : goal.returns-then-named_in_call
returns-then-named_in_call c =
    one_given c.args.core.now _ c.in-Some.root _ _ _ c.given_root.ensures c.in-Some.is
    (once_front c.args.core.now c.in-Some.root _ _ (any_call c.in-Some.root roots_of_given c.args.more.now (roots_of_receiver c.args.receiver.now) ∙ sym c.named_in_call.ensures ∙ c.if-named_in_call.true))

pub returns-else-named_in_call : goal.returns-else-named_in_call
returns-else-named_in_call c =
    one_given c.args.core.now _ c.in-Some.root _ _ _ c.given_root.ensures c.in-Some.is
    (once_behind c.args.core.now c.in-Some.root _ _ _ (any_call c.in-Some.root roots_of_given c.args.more.now (roots_of_receiver c.args.receiver.now) ∙ sym c.named_in_call.ensures ∙ c.if-named_in_call.false) c.bytes_once.ensures.value)
