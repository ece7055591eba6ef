use Rattle.std.proofs.Common.{map, string_bytes, sym, ◌∙◌}
use Rattle.op_command.proofs.Parsing.{at_most_one}
use Rattle.op_command.proofs.Reading.{is_no_command, is_some_command}
use Rattle.op_command.proofs.Telling.{answer_in_range, matches_ask, refused_is_none}
use Rattle.op_command.proofs.line.command_of.Goals as goal

pub returns-then-not-is_command-clause-is : goal.returns-then-not-is_command-clause-is
returns-then-not-is_command-clause-is c = is_no_command (map string_bytes c.args.words.now) (sym c.is_command.ensures ∙ c.if-not-is_command.true)

pub returns-then-not-is_command-clause-one : goal.returns-then-not-is_command-clause-one
returns-then-not-is_command-clause-one c = at_most_one (map string_bytes c.args.words.now)

pub returns-in-Ok-clause-is : goal.returns-in-Ok-clause-is
returns-in-Ok-clause-is c =
    matches_ask (map string_bytes c.args.words.now) c.in-Ok.matches c.command_in.result (sym c.is_command.ensures ∙ c.if-not-is_command.false) c.in-Ok.ensures.matches c.command_in.ensures

pub returns-in-Ok-clause-settings : goal.returns-in-Ok-clause-settings
returns-in-Ok-clause-settings c =
    answer_in_range (map string_bytes c.args.words.now) c.command_in.result
    (matches_ask (map string_bytes c.args.words.now) c.in-Ok.matches c.command_in.result (sym c.is_command.ensures ∙ c.if-not-is_command.false) c.in-Ok.ensures.matches c.command_in.ensures)

pub returns-in-Ok-clause-one : goal.returns-in-Ok-clause-one
returns-in-Ok-clause-one c = at_most_one (map string_bytes c.args.words.now)

pub returns-in-OutOfMemory-clause-is : goal.returns-in-OutOfMemory-clause-is
returns-in-OutOfMemory-clause-is c = is_some_command (map string_bytes c.args.words.now) (sym c.is_command.ensures ∙ c.if-not-is_command.false)

pub returns-in-OutOfMemory-clause-one : goal.returns-in-OutOfMemory-clause-one
returns-in-OutOfMemory-clause-one c = at_most_one (map string_bytes c.args.words.now)

pub returns : goal.returns
returns c =
    record {
      is = refused_is_none (map string_bytes c.args.words.now) c.kind.result (λ taken. c.kind.ensures ∙ c.in-Err.ensures.passes taken) c.in_default.not-OutOfMemory;
      settings = tt;
      one = at_most_one (map string_bytes c.args.words.now);
    }
