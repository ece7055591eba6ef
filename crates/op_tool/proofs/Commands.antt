-- The command that was found among the words, by the arms that look at it.
use Rattle.std.proofs.Common.{◌≡◌, ℕ, Option, Some, None, List, MatchOption, subst}
use Rattle.op_command.specs.Command.{IsCommand, IsNoCommand}
use Rattle.op_command.specs.Reading.{asked_of}
use Rattle.op_command.specs.declared.command.Command.{Command}

pub found_asks : (words : List (List ℕ)) (found : Option Command) (command : Command) → found ≡ Some command → MatchOption found (IsNoCommand words) (λ command. IsCommand words (asked_of command)) → IsCommand words (asked_of command)
found_asks words found command same is = subst (λ o. MatchOption o (IsNoCommand words) (λ command. IsCommand words (asked_of command))) same is

pub none_found : (words : List (List ℕ)) (found : Option Command) → found ≡ None → MatchOption found (IsNoCommand words) (λ command. IsCommand words (asked_of command)) → IsNoCommand words
none_found words found same is = subst (λ o. MatchOption o (IsNoCommand words) (λ command. IsCommand words (asked_of command))) same is
