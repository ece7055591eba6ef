use Rattle.op_expand.proofs.closing.+push_find.Given as goal

-- one part less in each call
abbrev pub decreases-push_find : goal.decreases-push_find
decreases-push_find l = l.parts
