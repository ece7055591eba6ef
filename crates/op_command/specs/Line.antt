-- What `clap` is told of the command line, and the command that its matches have.
use Rattle.std.specs.Prelude.{◌≡◌, true, false, List, [], ℕ, Option, Some, None, codes}
use Rattle.std.specs.Option.{option_and_then, option_map}
use Rattle.clap.specs.Simple.{new_shape}
use Rattle.clap.specs.Words.{App, Row, Rule, app_of, first_of, new_app, new_rule, with_rule, with_subcommand}
use Rattle.clap.specs.declared.builder.command.Command.{Command}
use Rattle.clap.specs.declared.builder.command.Command.TheViews.{out-Command}
use Rattle.op_command.specs.Command.{Asked, Range, heap_range, stack_range, step_range, word_of}
use Rattle.op_command.specs.Reading.{number_in, verb_of}
use Rattle.op_command.specs.declared.command.Verb.{Verb}
use Rattle.op_command.specs.declared.command.Verb.TheVariants as verb

-- ---- what is told

-- the operand, which has to be there
abbrev pub file_rule : Rule
file_rule = record (new_rule (codes "file")) { required = true }

-- an option, with one value
abbrev pub option_rule : List ℕ → Rule
option_rule name = record (new_rule name) { long = Some name }

-- a command of this word, with its operand
abbrev pub named : List ℕ → App
named word = with_rule (new_app word) file_rule

abbrev pub with_steps : App → App
with_steps command = with_rule command (option_rule (codes "steps"))

abbrev pub with_sizes : App → App
with_sizes command = with_rule (with_rule command (option_rule (codes "heap"))) (option_rule (codes "stack"))

-- each command, with the options that it takes
abbrev pub told_of : Verb → App
told_of verb.Exec = with_sizes (with_steps (named (word_of verb.Exec)))
told_of verb.Build = with_sizes (named (word_of verb.Build))
told_of verb.Check = named (word_of verb.Check)
told_of verb.List = with_sizes (named (word_of verb.List))
told_of verb.Run = with_steps (named (word_of verb.Run))

-- no command yet: all words are given, and none asks for help
abbrev pub no_commands : App
no_commands = record {
  top = record (new_shape (codes "opc")) { no_binary_name = true; disable_help_flag = true; disable_help_subcommand = true };
  subs = [];
}

abbrev pub and_command : App → Verb → App
and_command line one = with_subcommand line (told_of one).top

-- the whole line
abbrev pub line : App
line = and_command (and_command (and_command (and_command (and_command no_commands verb.Exec) verb.Build) verb.Check) verb.List) verb.Run

-- `clap` is told this of a command, which has nothing that goes for its subcommands too
abbrev pub IsTold : Command → App → Type 0
IsTold command told = (app_of command ≡ told) × ((out-Command command).has_globals ≡ false)

-- ---- what is found

-- the number of an option, if its digits write one in the range; the one that stands for it where there are none
abbrev pub number_or : Range → Option (List ℕ) → Option ℕ
number_or range None = Some range.default
number_or range (Some digits) = number_in range digits

abbrev pub asked_with : Verb → Option (List ℕ) → Option ℕ → Option ℕ → Option ℕ → Option Asked
asked_with one operand heap stack steps =
    option_and_then (λ name. option_and_then (λ kibibytes. option_and_then (λ more. option_map (λ most. record {
      verb = one;
      operand = name;
      settings = record { heap = kibibytes; stack = more };
      steps = most;
    }) steps) stack) heap) operand

-- what the matches of a command ask for
abbrev pub asked_by_matches : Verb → List Row → Option Asked
asked_by_matches one rows =
    asked_with one (first_of (codes "file") rows) (number_or heap_range (first_of (codes "heap") rows)) (number_or stack_range (first_of (codes "stack") rows))
    (number_or step_range (first_of (codes "steps") rows))

-- what the matches of the line ask for: the word of a command, and its own matches
abbrev pub asked_in_matches : Option (List ℕ × List Row) → Option Asked
asked_in_matches found = option_and_then (λ met. option_and_then (λ one. asked_by_matches one met.1) (verb_of met.0)) found
