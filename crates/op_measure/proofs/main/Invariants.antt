use denote.Shadow.{shadow}
use denote.Text.{Utf8}
use Rattle.op_measure.proofs.main.Given as goal

-- what is kept as the command is text
abbrev pub invariant-loop-word : goal.invariant-loop-word
invariant-loop-word l = shadow (Utf8 l.command)
