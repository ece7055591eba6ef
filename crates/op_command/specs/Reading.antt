-- The tests by which words are a command, one word after the other. That these are the words that ask for something is shown of them.
use Rattle.std.specs.Prelude.{ℕ, ◌&&◌, Bool, true, false, not, List, [], ◌∷◌, Option, Some, None, codes, is_some, length, nat_le, nat_lt, if◌then◌else◌, bytes_eq}
use Rattle.std.specs.Char.{digit_value}
use Rattle.std.specs.List.{list_all}
use Rattle.std.specs.Option.{option_map_or}
use Rattle.std.specs.Str.Parse.{digits_value}
use Rattle.op_command.specs.Command.{Asked, Range, heap_range, is_name, is_operand, stack_range, step_range, makes_image, runs_image, word_of}
use Rattle.op_command.specs.declared.command.Verb.{Verb}
use Rattle.op_command.specs.declared.command.Verb.TheVariants as verb
use Rattle.op_command.specs.declared.command.Command.{Command}
use Rattle.op_command.specs.declared.command.Met.{Met}

-- ---- numbers

abbrev pub are_digits : List ℕ → Bool
are_digits digits = list_all (λ c. nat_lt (digit_value c) 10) digits

abbrev pub is_in : Range → ℕ → Bool
is_in range number = nat_le range.least number && nat_le number range.most

unfoldable pub number_in : Range → List ℕ → Option ℕ
number_in range digits =
    if nat_lt 0 (length digits) && (nat_le (length digits) 20 && (are_digits digits && is_in range (digits_value 10 digits))) then Some (digits_value 10 digits)
    else None

-- ---- pieces

-- the digits are the number of an option that the command takes
abbrev pub is_given : Bool → Range → List ℕ → Bool
is_given taken range digits = taken && is_some (number_in range digits)

abbrev pub with_steps : Verb → List ℕ → Met → Option Met
with_steps one digits met = if not met.steps && is_given (runs_image one) step_range digits then Some (record met { steps = true }) else None

abbrev pub with_heap : Verb → List ℕ → Met → Option Met
with_heap one digits met = if not met.heap && is_given (makes_image one) heap_range digits then Some (record met { heap = true }) else None

abbrev pub with_stack : Verb → List ℕ → Met → Option Met
with_stack one digits met = if not met.stack && is_given (makes_image one) stack_range digits then Some (record met { stack = true }) else None

-- an option that was not met before
unfoldable pub with_option : Verb → List ℕ → List ℕ → Met → Option Met
with_option one word digits met =
    if bytes_eq word (codes "--steps") then with_steps one digits met
    else (if bytes_eq word (codes "--heap") then with_heap one digits met
    else (if bytes_eq word (codes "--stack") then with_stack one digits met else None))

-- ---- lines

abbrev pub nothing : Met
nothing = record { operand = false; steps = false; heap = false; stack = false }

-- these words complete a line of the command; the word of an option may wait for its digits
unfoldable pub completes : Verb → Option (List ℕ) → Met → List (List ℕ) → Bool
completes one None met [] = met.operand
completes one None met (word ∷ rest) =
    if is_name word then not met.operand && (is_operand one word && completes one None (record met { operand = true }) rest) else completes one (Some word) met rest
completes one (Some option) met [] = false
completes one (Some option) met (digits ∷ rest) = option_map_or (λ more. completes one None more rest) (with_option one option digits met) false

abbrev pub verb_of : List ℕ → Option Verb
verb_of word =
    if bytes_eq word (word_of verb.Exec) then Some verb.Exec
    else (if bytes_eq word (word_of verb.Build) then Some verb.Build
    else (if bytes_eq word (word_of verb.Check) then Some verb.Check
    else (if bytes_eq word (word_of verb.List) then Some verb.List
    else (if bytes_eq word (word_of verb.Run) then Some verb.Run else None))))

unfoldable pub is_command : List (List ℕ) → Bool
is_command [] = false
is_command (word ∷ rest) = option_map_or (λ one. completes one None nothing rest) (verb_of word) false

-- ---- as the program has it

abbrev pub asked_of : Command → Asked
asked_of command = record { verb = command.verb; operand = command.operand.now; settings = command.settings; steps = command.steps }
