use Rattle.std.proofs.Common.{length}
use Rattle.op_command.proofs.command.+completes.Given as goal

abbrev pub decreases-completes : goal.decreases-completes
decreases-completes l = length l.words.now
