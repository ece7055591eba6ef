use Rattle.op_optimize.proofs.worth.+copy_serves.Given as goal

-- one instruction less in each call
abbrev pub decreases-copy_serves : goal.decreases-copy_serves
decreases-copy_serves l = l.most
