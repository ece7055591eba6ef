use Rattle.std.proofs.Common.{map, string_bytes, ◌∙◌, ap}
use Rattle.std.proofs.lemmas.Result.{IfErr-weaker}
use Rattle.clap.specs.Takes.{takes}
use Rattle.op_command.proofs.line.parsed.Goals as goal

pub returns-clause-passes : goal.returns-clause-passes
returns-clause-passes c = IfErr-weaker c.try_get_matches_from.result _ _ (λ error passes taken. passes (ap (λ told. takes told (map string_bytes c.args.words.now)) c.in_ok-line.ensures ∙ taken)) c.try_get_matches_from.ensures.passes
