-- What the answer of `clap` comes to.
use Rattle.std.proofs.Common.{◌≡◌, ◌≢◌, ℕ, true, Option, Some, None, option_map, IfSome, List, MatchOption, codes, ap, sym, ◌∙◌, subst}
use Rattle.std.specs.Borrow.{Bor}
use Rattle.clap.specs.Matches.{first_value}
use Rattle.clap.specs.Simple.{HasMatchesOf, subcommand_rows_of}
use Rattle.clap.specs.Takes.{takes}
use Rattle.clap.specs.Walk.{Row, Text, first_of, rows_of}
use Rattle.clap.specs.declared.error.kind.ErrorKind.{ErrorKind}
use Rattle.clap.specs.declared.error.kind.ErrorKind.TheVariants.{OutOfMemory}
use Rattle.clap.specs.declared.parser.matches.ArgMatches.{ArgMatches}
use Rattle.clap.specs.declared.parser.matches.Found.{Found}
use Rattle.clap.proofs.WalkLemmas.{first_value-rows}
use Rattle.op_link.specs.Memory.{are_in_range}
use Rattle.op_command.proofs.Parsing.{is_simple_line, line_is_matched, line_is_taken}
use Rattle.op_command.proofs.Reading.{is_some_command, settings_in_range}
use Rattle.op_command.specs.Command.{Asked, IsCommand, IsNoCommand, Range, heap_range, stack_range, step_range}
use Rattle.op_command.specs.Line.{asked_by_matches, asked_in_matches, asked_with, line, number_or}
use Rattle.op_command.specs.Reading.{asked_of, is_command}
use Rattle.op_command.specs.declared.command.Command.{Command}
use Rattle.op_command.specs.declared.command.Verb.{Verb}

-- ---- the getters

pub text_found : (f : Found) (id : Text) (text : Option (Bor Text)) → option_map (λ s. s.now) text ≡ first_value f id → first_of id (rows_of f) ≡ option_map (λ s. s.now) text
text_found f id text is = sym (first_value-rows f id) ∙ sym is

pub number_found : (range : Range) (f : Found) (id : Text) (text : Option (Bor Text)) (number : Option ℕ) → option_map (λ s. s.now) text ≡ first_value f id → number ≡ number_or range (option_map (λ s. s.now) text) → number_or range (first_of id (rows_of f)) ≡ number
number_found range f id text number is read = ap (number_or range) (text_found f id text is) ∙ sym read

-- what the matches of a command ask for, by its parts
pub asks_with : (one : Verb) (rows : List Row) (operand : Option Text) (heap stack steps : Option ℕ) → first_of (codes "file") rows ≡ operand → number_or heap_range (first_of (codes "heap") rows) ≡ heap → number_or stack_range (first_of (codes "stack") rows) ≡ stack
    → number_or step_range (first_of (codes "steps") rows) ≡ steps → asked_with one operand heap stack steps ≡ asked_by_matches one rows
asks_with one rows operand heap stack steps is_operand is_heap is_stack is_steps = λ i. asked_with one (sym is_operand i) (sym is_heap i) (sym is_stack i) (sym is_steps i)

-- ---- the answer

answer_asks : (words : List Text) (asked : Asked) (answer : Option Command) → IsCommand words asked → option_map asked_of answer ≡ Some asked → MatchOption answer (IsNoCommand words) (λ command. IsCommand words (asked_of command))
answer_asks words asked None is same = absurd cc
answer_asks words asked (Some command) is same =
    let that : asked ≡ asked_of command = cc in
    subst (IsCommand words) that is

-- words that pass have the command of the matches
pub matches_ask : (words : List Text) (m : ArgMatches) (answer : Option Command) → is_command words ≡ true → HasMatchesOf line words m → option_map asked_of answer ≡ asked_in_matches (subcommand_rows_of m)
    → MatchOption answer (IsNoCommand words) (λ command. IsCommand words (asked_of command))
matches_ask words m answer passes matches found =
    let is = is_some_command words passes in
    answer_asks words is.0 answer is.1 (found ∙ ap asked_in_matches (matches is_simple_line).1 ∙ line_is_matched words is.0 is.1)

pub answer_in_range : (words : List Text) (answer : Option Command) → MatchOption answer (IsNoCommand words) (λ command. IsCommand words (asked_of command)) → IfSome answer (λ command. are_in_range command.settings ≡ true)
answer_in_range words None is = tt
answer_in_range words (Some command) is = settings_in_range words (asked_of command) is

-- words that are refused, and not for want of memory, are no command
pub refused_is_none : (words : List Text) (kind : ErrorKind) → (takes line words ≡ true → kind ≡ OutOfMemory) → kind ≢ OutOfMemory → IsNoCommand words
refused_is_none words kind passes other asked is = other (passes (line_is_taken words asked is))
