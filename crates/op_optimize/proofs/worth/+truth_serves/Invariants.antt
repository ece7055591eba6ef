use Rattle.op_optimize.proofs.worth.+truth_serves.Given as goal

-- one instruction less in each call
abbrev pub decreases-truth_serves : goal.decreases-truth_serves
decreases-truth_serves l = l.most
