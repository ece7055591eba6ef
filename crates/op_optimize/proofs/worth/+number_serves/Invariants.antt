use Rattle.op_optimize.proofs.worth.+number_serves.Given as goal

-- one instruction less in each call
abbrev pub decreases-number_serves : goal.decreases-number_serves
decreases-number_serves l = l.most
