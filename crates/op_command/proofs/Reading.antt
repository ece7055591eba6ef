-- The words that pass the tests are those that ask for something.
use Rattle.std.proofs.Common.{◌≡◌, ℕ, Bool, true, false, not, ◌&&◌, if◌then◌else◌, Option, Some, None, is_some, List, [], ◌∷◌, ◌++◌, codes, bytes_eq, nat_le, ◌≤◌, arith, refl, ap, sym, ◌∙◌, subst}
use Rattle.std.proofs.lemmas.Bool.{and_from, and_parts, not-true}
use Rattle.std.proofs.lemmas.Bool.Decides.{nat_tests}
use Rattle.std.proofs.lemmas.Slice.Eq.{bytes_eq-Decides}
use Rattle.std.specs.List.{flat_map}
use Rattle.std.specs.Option.{option_map_or}
use Rattle.op_link.specs.Memory.{are_in_range}
use Rattle.op_command.proofs.Numbers.{if_some, if_true, number_found, number_read}
use Rattle.op_command.specs.Command.{Asked, IsCommand, IsGiven, IsNoCommand, IsSomeCommand, Piece, Range, heap_of, heap_range, is_name, is_operand, operands_of, stack_of, stack_range, step_range, steps_of, makes_image, runs_image, the_heap, the_operand, the_stack, the_steps, word_of, words_of}
use Rattle.op_command.specs.Reading.{completes, is_command, is_given, nothing, number_in, verb_of, with_heap, with_option, with_stack, with_steps}
use Rattle.op_command.specs.declared.command.Met.{Met}
use Rattle.op_command.specs.declared.command.Verb.{Verb}
use Rattle.op_command.specs.declared.command.Verb.TheVariants as verb

-- ---- parts of one kind

-- at most one of these values, which passes, and none where one was met before
abbrev pub Once : (List ℕ → Bool) → Bool → List (List ℕ) → Type 0
Once passes met [] = Unit {0}
Once passes met (value ∷ []) = (met ≡ false) × (passes value ≡ true)
Once passes met (value ∷ again ∷ more) = ⊥

-- one was met, or stands here
abbrev pub HasOne : Bool → List (List ℕ) → Type 0
HasOne met [] = met ≡ true
HasOne met (value ∷ more) = Unit {0}

has_met : (values : List (List ℕ)) → HasOne true values
has_met [] = refl
has_met (value ∷ more) = tt

once_first : (passes : List ℕ → Bool) (met : Bool) (value : List ℕ) (values : List (List ℕ)) → met ≡ false → passes value ≡ true → Once passes true values → Once passes met (value ∷ values)
once_first passes met value [] none is once = (none, is)
once_first passes met value (v ∷ []) none is (never, so) = absurd cc
once_first passes met value (v ∷ w ∷ more) none is never = absurd never

first_once : (passes : List ℕ → Bool) (met : Bool) (value : List ℕ) (values : List (List ℕ)) → Once passes met (value ∷ values) → (met ≡ false) × (passes value ≡ true) × Once passes true values
first_once passes met value [] (none, is) = (none, is, tt)
first_once passes met value (v ∷ more) never = absurd never

-- ---- words that pass

-- these words are pieces that may stand behind what was met, and complete a line of the command with it
pub record Adds (one : Verb) (met : Met) (words : List (List ℕ)) : Type 0 where
  pub pieces : List Piece
  pub are : words ≡ flat_map words_of pieces
  pub operand : Once (is_operand one) met.operand (flat_map operands_of pieces)
  pub has_operand : HasOne met.operand (flat_map operands_of pieces)
  pub steps : Once (is_given (runs_image one) step_range) met.steps (flat_map steps_of pieces)
  pub heap : Once (is_given (makes_image one) heap_range) met.heap (flat_map heap_of pieces)
  pub stack : Once (is_given (makes_image one) stack_range) met.stack (flat_map stack_of pieces)

add_operand : (one : Verb) (name : List ℕ) (rest : List (List ℕ)) (met : Met) → (not met.operand && (is_operand one name && completes one None (record met { operand = true }) rest)) ≡ true
    → (completes one None (record met { operand = true }) rest ≡ true → Adds one (record met { operand = true }) rest) → Adds one met (name ∷ rest)
add_operand one name rest met is adds =
    let first = and_parts (not met.operand) (is_operand one name && completes one None (record met { operand = true }) rest) is in
    let second = and_parts (is_operand one name) (completes one None (record met { operand = true }) rest) first.1 in
    let more = adds second.1 in
    record {
      pieces = the_operand name ∷ more.pieces;
      are = ap (λ words. name ∷ words) more.are;
      operand = once_first (is_operand one) met.operand name (flat_map operands_of more.pieces) (not-true met.operand first.0) second.0 more.operand;
      has_operand = tt;
      steps = more.steps;
      heap = more.heap;
      stack = more.stack;
    }

add_steps : (one : Verb) (digits : List ℕ) (rest : List (List ℕ)) (met more : Met) → with_steps one digits met ≡ Some more → Adds one more rest → Adds one met (codes "--steps" ∷ digits ∷ rest)
add_steps one digits rest met more is adds =
    let made = if_some (not met.steps && is_given (runs_image one) step_range digits) (record met { steps = true }) more is in
    let parts = and_parts (not met.steps) (is_given (runs_image one) step_range digits) made.0 in
    let further = subst (λ m. Adds one m rest) (sym made.1) adds in
    record {
      pieces = the_steps digits ∷ further.pieces;
      are = ap (λ words. codes "--steps" ∷ digits ∷ words) further.are;
      operand = further.operand;
      has_operand = further.has_operand;
      steps = once_first (is_given (runs_image one) step_range) met.steps digits (flat_map steps_of further.pieces) (not-true met.steps parts.0) parts.1 further.steps;
      heap = further.heap;
      stack = further.stack;
    }

add_heap : (one : Verb) (digits : List ℕ) (rest : List (List ℕ)) (met more : Met) → with_heap one digits met ≡ Some more → Adds one more rest → Adds one met (codes "--heap" ∷ digits ∷ rest)
add_heap one digits rest met more is adds =
    let made = if_some (not met.heap && is_given (makes_image one) heap_range digits) (record met { heap = true }) more is in
    let parts = and_parts (not met.heap) (is_given (makes_image one) heap_range digits) made.0 in
    let further = subst (λ m. Adds one m rest) (sym made.1) adds in
    record {
      pieces = the_heap digits ∷ further.pieces;
      are = ap (λ words. codes "--heap" ∷ digits ∷ words) further.are;
      operand = further.operand;
      has_operand = further.has_operand;
      steps = further.steps;
      heap = once_first (is_given (makes_image one) heap_range) met.heap digits (flat_map heap_of further.pieces) (not-true met.heap parts.0) parts.1 further.heap;
      stack = further.stack;
    }

add_stack : (one : Verb) (digits : List ℕ) (rest : List (List ℕ)) (met more : Met) → with_stack one digits met ≡ Some more → Adds one more rest → Adds one met (codes "--stack" ∷ digits ∷ rest)
add_stack one digits rest met more is adds =
    let made = if_some (not met.stack && is_given (makes_image one) stack_range digits) (record met { stack = true }) more is in
    let parts = and_parts (not met.stack) (is_given (makes_image one) stack_range digits) made.0 in
    let further = subst (λ m. Adds one m rest) (sym made.1) adds in
    record {
      pieces = the_stack digits ∷ further.pieces;
      are = ap (λ words. codes "--stack" ∷ digits ∷ words) further.are;
      operand = further.operand;
      has_operand = further.has_operand;
      steps = further.steps;
      heap = further.heap;
      stack = once_first (is_given (makes_image one) stack_range) met.stack digits (flat_map stack_of further.pieces) (not-true met.stack parts.0) parts.1 further.stack;
    }

-- by the first test that holds
by_tests : {A : Type 0} {P : Type 0} (a b c : Bool) (x y z : Option A) (value : A) → (if a then x else (if b then y else (if c then z else None))) ≡ Some value → (a ≡ true → x ≡ Some value → P) → (b ≡ true → y ≡ Some value → P) → (c ≡ true → z ≡ Some value → P) → P
by_tests true b c x y z value is first second third = first refl is
by_tests false true c x y z value is first second third = second refl is
by_tests false false true x y z value is first second third = third refl is
by_tests false false false x y z value is first second third = absurd cc

add_option : (one : Verb) (word digits : List ℕ) (rest : List (List ℕ)) (met more : Met) → with_option one word digits met ≡ Some more → Adds one more rest → Adds one met (word ∷ digits ∷ rest)
unfolding with_option
add_option one word digits rest met more is adds =
    by_tests (bytes_eq word (codes "--steps")) (bytes_eq word (codes "--heap")) (bytes_eq word (codes "--stack")) (with_steps one digits met) (with_heap one digits met) (with_stack one digits met) more is
    (λ same given. subst (λ w. Adds one met (w ∷ digits ∷ rest)) (sym ((bytes_eq-Decides word (codes "--steps")).0 same)) (add_steps one digits rest met more given adds))
    (λ same given. subst (λ w. Adds one met (w ∷ digits ∷ rest)) (sym ((bytes_eq-Decides word (codes "--heap")).0 same)) (add_heap one digits rest met more given adds))
    (λ same given. subst (λ w. Adds one met (w ∷ digits ∷ rest)) (sym ((bytes_eq-Decides word (codes "--stack")).0 same)) (add_stack one digits rest met more given adds))

abbrev waiting : Option (List ℕ) → List (List ℕ)
waiting None = []
waiting (Some word) = word ∷ []

by_test : {A : Type 0} {P : Type 0} (test : Bool) (x y : A) (value : A) → (if test then x else y) ≡ value → (x ≡ value → P) → (y ≡ value → P) → P
by_test true x y value is first second = first is
by_test false x y value is first second = second is

some_passes : {A : Type 0} {P : Type 0} (passes : A → Bool) (o : Option A) → option_map_or passes o false ≡ true → ((a : A) → o ≡ Some a → passes a ≡ true → P) → P
some_passes passes None is then_so = absurd cc
some_passes passes (Some a) is then_so = then_so a refl is

completed : (words : List (List ℕ)) (awaited : Option (List ℕ)) (one : Verb) (met : Met) → completes one awaited met words ≡ true → Adds one met (waiting awaited ++ words)
unfolding completes
completed [] None one met is = record { pieces = []; are = refl; operand = tt; has_operand = is; steps = tt; heap = tt; stack = tt }
completed [] (Some word) one met is = absurd cc
completed (word ∷ rest) None one met is =
    by_test (is_name word) (not met.operand && (is_operand one word && completes one None (record met { operand = true }) rest)) (completes one (Some word) met rest) true is
    (λ goes. add_operand one word rest met goes (completed rest None one (record met { operand = true })))
    (λ waits. completed rest (Some word) one met waits)
completed (digits ∷ rest) (Some word) one met is =
    some_passes (λ more. completes one None more rest) (with_option one word digits met) is (λ more made next. add_option one word digits rest met more made (completed rest None one more next))

-- ---- numbers and names of a command

some_number : {A : Type 0} (o : Option A) → is_some o ≡ true → (a : A) × (o ≡ Some a)
some_number None is = absurd cc
some_number (Some a) is = (a, refl)

given_number : (taken : Bool) (range : Range) (values : List (List ℕ)) → Once (is_given taken range) false values → (number : ℕ) × IsGiven taken range values number
given_number taken range [] once = (range.default, refl)
given_number taken range (digits ∷ []) (none, is) =
    let parts = and_parts taken (is_some (number_in range digits)) is in
    let some = some_number (number_in range digits) parts.1 in
    (some.0, (parts.0, number_read range digits some.0 some.1))
given_number taken range (digits ∷ again ∷ more) never = absurd never

once_given : (taken : Bool) (range : Range) (values : List (List ℕ)) (number : ℕ) → IsGiven taken range values number → Once (is_given taken range) false values
once_given taken range [] number same = tt
once_given taken range (digits ∷ []) number (is, meant) = (refl, and_from taken (is_some (number_in range digits)) is (ap is_some (number_found range digits number meant)))
once_given taken range (digits ∷ again ∷ more) number never = absurd never

one_operand : (one : Verb) (values : List (List ℕ)) → Once (is_operand one) false values → HasOne false values → (name : List ℕ) × (values ≡ name ∷ []) × (is_operand one name ≡ true)
one_operand one [] once never = absurd cc
one_operand one (name ∷ []) (none, is) has = (name, refl, is)
one_operand one (name ∷ again ∷ more) never has = absurd never

-- ---- commands

pub word_of_verb : (verb : Verb) → verb_of (word_of verb) ≡ Some verb
word_of_verb verb.Exec = refl
word_of_verb verb.Build = refl
word_of_verb verb.Check = refl
word_of_verb verb.List = refl
word_of_verb verb.Run = refl

by_words : {A : Type 0} {P : Type 0} (a b c d e : Bool) (v w x y z value : A) → (if a then Some v else (if b then Some w else (if c then Some x else (if d then Some y else (if e then Some z else None))))) ≡ Some value → (a ≡ true → v ≡ value → P) → (b ≡ true → w ≡ value → P) → (c ≡ true → x ≡ value → P) → (d ≡ true → y ≡ value → P) → (e ≡ true → z ≡ value → P) → P
by_words true b c d e v w x y z value is first second third fourth fifth = first refl cc
by_words false true c d e v w x y z value is first second third fourth fifth = second refl cc
by_words false false true d e v w x y z value is first second third fourth fifth = third refl cc
by_words false false false true e v w x y z value is first second third fourth fifth = fourth refl cc
by_words false false false false true v w x y z value is first second third fourth fifth = fifth refl cc
by_words false false false false false v w x y z value is first second third fourth fifth = absurd cc

verb_word : (word : List ℕ) (its : Verb) → verb_of word ≡ Some its → word ≡ word_of its
verb_word word its is =
    let by : (one : Verb) → bytes_eq word (word_of one) ≡ true → one ≡ its → word ≡ word_of its = λ one same is_verb. (bytes_eq-Decides word (word_of one)).0 same ∙ ap word_of is_verb in
    by_words (bytes_eq word (word_of verb.Exec)) (bytes_eq word (word_of verb.Build)) (bytes_eq word (word_of verb.Check)) (bytes_eq word (word_of verb.List)) (bytes_eq word (word_of verb.Run)) verb.Exec verb.Build verb.Check verb.List verb.Run its is
    (by verb.Exec) (by verb.Build) (by verb.Check) (by verb.List) (by verb.Run)

asks : (one : Verb) (rest : List (List ℕ)) → Adds one nothing rest → IsSomeCommand (word_of one ∷ rest)
asks one rest adds =
    let name = one_operand one (flat_map operands_of adds.pieces) adds.operand adds.has_operand in
    let steps = given_number (runs_image one) step_range (flat_map steps_of adds.pieces) adds.steps in
    let heap = given_number (makes_image one) heap_range (flat_map heap_of adds.pieces) adds.heap in
    let stack = given_number (makes_image one) stack_range (flat_map stack_of adds.pieces) adds.stack in (
      record { verb = one; operand = name.0; settings = record { heap = heap.0; stack = stack.0 }; steps = steps.0 },
      record {
        pieces = adds.pieces;
        are = ap (λ words. word_of one ∷ words) adds.are;
        one = name.1;
        operand = name.2;
        steps = steps.1;
        heap = heap.1;
        stack = stack.1;
      },
    )

pub is_some_command : (words : List (List ℕ)) → is_command words ≡ true → IsSomeCommand words
unfolding is_command
is_some_command [] is = absurd cc
is_some_command (word ∷ rest) is =
    some_passes (λ one. completes one None nothing rest) (verb_of word) is (λ one is_verb rest_passes.
    subst (λ w. IsSomeCommand (w ∷ rest)) (sym (verb_word word one is_verb)) (asks one rest (completed rest None one nothing rest_passes)))

-- ---- commands pass

pub is_named : (verb : Verb) (name : List ℕ) → is_operand verb name ≡ true → is_name name ≡ true
is_named verb.Exec name is = (and_parts _ _ is).0
is_named verb.Build name is = (and_parts _ _ is).0
is_named verb.Check name is = (and_parts _ _ is).0
is_named verb.List name is = (and_parts _ _ is).0
is_named verb.Run name is = is

meets_steps : (one : Verb) (digits : List ℕ) (met : Met) → met.steps ≡ false → is_given (runs_image one) step_range digits ≡ true → with_option one (codes "--steps") digits met ≡ Some (record met { steps = true })
unfolding with_option
meets_steps one digits met none is = if_true (not met.steps && is_given (runs_image one) step_range digits) (record met { steps = true }) (record met { steps = true }) (and_from (not met.steps) (is_given (runs_image one) step_range digits) (ap not none) is) refl

meets_heap : (one : Verb) (digits : List ℕ) (met : Met) → met.heap ≡ false → is_given (makes_image one) heap_range digits ≡ true → with_option one (codes "--heap") digits met ≡ Some (record met { heap = true })
unfolding with_option
meets_heap one digits met none is = if_true (not met.heap && is_given (makes_image one) heap_range digits) (record met { heap = true }) (record met { heap = true }) (and_from (not met.heap) (is_given (makes_image one) heap_range digits) (ap not none) is) refl

meets_stack : (one : Verb) (digits : List ℕ) (met : Met) → met.stack ≡ false → is_given (makes_image one) stack_range digits ≡ true → with_option one (codes "--stack") digits met ≡ Some (record met { stack = true })
unfolding with_option
meets_stack one digits met none is = if_true (not met.stack && is_given (makes_image one) stack_range digits) (record met { stack = true }) (record met { stack = true }) (and_from (not met.stack) (is_given (makes_image one) stack_range digits) (ap not none) is) refl

pieces_pass : (pieces : List Piece) (one : Verb) (met : Met) → Once (is_operand one) met.operand (flat_map operands_of pieces) → HasOne met.operand (flat_map operands_of pieces) → Once (is_given (runs_image one) step_range) met.steps (flat_map steps_of pieces)
    → Once (is_given (makes_image one) heap_range) met.heap (flat_map heap_of pieces) → Once (is_given (makes_image one) stack_range) met.stack (flat_map stack_of pieces) → completes one None met (flat_map words_of pieces) ≡ true
unfolding completes
pieces_pass [] one met operand has steps heap stack = has
pieces_pass (the_operand name ∷ pieces) one met operand has steps heap stack =
    let rest = flat_map words_of pieces in
    let passes = completes one None (record met { operand = true }) rest in
    let first = first_once (is_operand one) met.operand name (flat_map operands_of pieces) operand in
    ap (λ b. if b then not met.operand && (is_operand one name && passes) else completes one (Some name) met rest) (is_named one name first.1)
    ∙ and_from (not met.operand) (is_operand one name && passes) (ap not first.0)
    (and_from (is_operand one name) passes first.1 (pieces_pass pieces one (record met { operand = true }) first.2 (has_met (flat_map operands_of pieces)) steps heap stack))
pieces_pass (the_steps digits ∷ pieces) one met operand has steps heap stack =
    let first = first_once (is_given (runs_image one) step_range) met.steps digits (flat_map steps_of pieces) steps in
    ap (λ o. option_map_or (λ more. completes one None more (flat_map words_of pieces)) o false) (meets_steps one digits met first.0 first.1)
    ∙ pieces_pass pieces one (record met { steps = true }) operand has first.2 heap stack
pieces_pass (the_heap digits ∷ pieces) one met operand has steps heap stack =
    let first = first_once (is_given (makes_image one) heap_range) met.heap digits (flat_map heap_of pieces) heap in
    ap (λ o. option_map_or (λ more. completes one None more (flat_map words_of pieces)) o false) (meets_heap one digits met first.0 first.1)
    ∙ pieces_pass pieces one (record met { heap = true }) operand has steps first.2 stack
pieces_pass (the_stack digits ∷ pieces) one met operand has steps heap stack =
    let first = first_once (is_given (makes_image one) stack_range) met.stack digits (flat_map stack_of pieces) stack in
    ap (λ o. option_map_or (λ more. completes one None more (flat_map words_of pieces)) o false) (meets_stack one digits met first.0 first.1)
    ∙ pieces_pass pieces one (record met { stack = true }) operand has steps heap first.2

line_passes : (one : Verb) (rest : List (List ℕ)) → completes one None nothing rest ≡ true → is_command (word_of one ∷ rest) ≡ true
unfolding is_command
line_passes one rest is = ap (λ o. option_map_or (λ its. completes its None nothing rest) o false) (word_of_verb one) ∙ is

pub command_passes : (words : List (List ℕ)) (asked : Asked) → IsCommand words asked → is_command words ≡ true
command_passes words asked is =
    let one = asked.verb in
    subst (λ ws. is_command ws ≡ true) (sym is.are)
    (line_passes one (flat_map words_of is.pieces) (pieces_pass is.pieces one nothing
    (subst (Once (is_operand one) false) (sym is.one) (refl, is.operand)) (subst (HasOne false) (sym is.one) tt)
    (once_given (runs_image one) step_range (flat_map steps_of is.pieces) asked.steps is.steps)
    (once_given (makes_image one) heap_range (flat_map heap_of is.pieces) asked.settings.heap is.heap)
    (once_given (makes_image one) stack_range (flat_map stack_of is.pieces) asked.settings.stack is.stack)))

pub is_no_command : (words : List (List ℕ)) → is_command words ≡ false → IsNoCommand words
is_no_command words never asked is = (let passes = command_passes words asked is in absurd cc)

-- ---- settings

in_range_of : (taken : Bool) (range : Range) (values : List (List ℕ)) (number : ℕ) → range.least ≤ range.default → range.default ≤ range.most → IsGiven taken range values number → (range.least ≤ number) × (number ≤ range.most)
in_range_of taken range [] number low high same = (subst (λ n. range.least ≤ n) (sym same) low, subst (λ n. n ≤ range.most) (sym same) high)
in_range_of taken range (digits ∷ []) number low high (is, meant) = (meant.from, meant.up_to)
in_range_of taken range (digits ∷ again ∷ more) number low high never = absurd never

range_test : (heap stack : ℕ) → 64 ≤ heap → heap ≤ 262144 → 16 ≤ stack → stack ≤ 65536 → (nat_le 64 heap && nat_le heap 262144 && nat_le 16 stack && nat_le stack 65536) ≡ true
range_test heap stack from to least most = grind (arith, nat_tests)

pub settings_in_range : (words : List (List ℕ)) (asked : Asked) → IsCommand words asked → are_in_range asked.settings ≡ true
settings_in_range words asked is =
    let heap = in_range_of (makes_image asked.verb) heap_range (flat_map heap_of is.pieces) asked.settings.heap (omega arith) (omega arith) is.heap in
    let stack = in_range_of (makes_image asked.verb) stack_range (flat_map stack_of is.pieces) asked.settings.stack (omega arith) (omega arith) is.stack in
    range_test asked.settings.heap asked.settings.stack heap.0 heap.1 stack.0 stack.1
