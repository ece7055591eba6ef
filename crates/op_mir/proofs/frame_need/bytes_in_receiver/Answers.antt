use Rattle.op_mir.proofs.NeedLemmas.{none_given, one_given}
use Rattle.op_mir.proofs.frame_need.bytes_in_receiver.Goals as goal

pub returns-in-None-clause-value : goal.returns-in-None-clause-value
returns-in-None-clause-value c = none_given c.args.core.now _ _ _ c.receiver_root.ensures c.in-None.is

pub returns-in-Some-clause-value : goal.returns-in-Some-clause-value
returns-in-Some-clause-value c = one_given c.args.core.now _ c.in-Some.root _ _ _ c.receiver_root.ensures c.in-Some.is c.bytes_once.ensures.value
