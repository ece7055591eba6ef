-- `clap` takes each line of the grammar, and its matches have what the line asks for.
use Rattle.std.proofs.Common.{◌≡◌, ℕ, ◌<◌, Bool, true, false, cond, not, ◌&&◌, ◌||◌, if◌then◌else◌, Option, Some, None, is_some, option_map, List, [], ◌∷◌, ◌++◌, append-nil, bytes_eq, codes, eqb-true, fold, length, nat_eq, nat_lt, arith, refl, ap, sym, ◌∙◌, subst}
use Rattle.std.proofs.lemmas.Bool.{and_from, and_parts, not-true, or_parts}
use Rattle.std.specs.Char.{digit_value}
use Rattle.std.specs.List.{find, flat_map, list_all, list_any, starts_with}
use Rattle.std.specs.Option.{option_and_then, option_map_or}
use Rattle.std.specs.Prelude.{slice_get}
use Rattle.std.specs.Str.Parse.{IsNumeral}
use Rattle.clap.specs.Facts.{explicit_source}
use Rattle.clap.specs.Lexer.{long_of, long_of_rest, short_of, short_of_rest, strip_byte}
use Rattle.clap.specs.Simple.{Shape, built, entered, is_simple, label_of, names_of, new_rule, new_shape, rows_at, subcommand_of}
use Rattle.clap.specs.Takes.{built_takes, default_passes, entered_passes, flag_word_passes, is_given, is_valid, level_passes, long_passes, bundle_passes, other_passes, positional_passes, settle_passes, step_passes, takes, turn_passes, use_passes, walk_passes, word_passes}
use Rattle.clap.specs.Values.{reading_of}
use Rattle.clap.specs.Walk.{Held, Names, Row, Rule, Step, Text, Walk, after_flag, after_step, answers_to, arg_by_id, arg_by_index, arg_by_long, at_row, default_rows, finished, first_of, has_row, idle, is_empty, is_pending, long_met, long_or_other, more_values, next, nothing_held, option, option_word, pushed, reading_by, rows_after, settled, settled_rows, short_or_plain, to_positional, trailing, used_by_id, value, walk, walk_from, walked, with_default, with_values, word_met}
use Rattle.clap.specs.declared.builder.action.ArgAction.TheVariants.{Set}
use Rattle.clap.specs.declared.builder.value_parser.ValueParser.TheVariants as vp
use Rattle.clap.specs.declared.parser.matches.ValueSource.TheVariants.{CommandLine}
use Rattle.clap.proofs.OnLiterals.{clap_on_literals}
use Rattle.clap.proofs.SimpleLemmas.{is_nil}
use Rattle.clap.proofs.WalkLemmas.{walk_stopped}
use Rattle.op_base.proofs.Tests.{eqb-turned}
use Rattle.op_command.proofs.Numbers.{alone, number_found}
use Rattle.op_command.proofs.Reading.{is_named, word_of_verb}
use Rattle.op_command.specs.Command.{Asked, IsAtMostOneCommand, IsCommand, IsGiven, IsNumber, Piece, Range, heap_of, heap_range, is_name, is_operand, makes_image, operands_of, runs_image, stack_of, stack_range, step_range, steps_of, the_heap, the_operand, the_stack, the_steps, word_of, words_of}
use Rattle.op_command.specs.Line.{asked_by_matches, asked_in_matches, asked_with, line, number_or}
use Rattle.op_command.specs.declared.command.Verb.{Verb}
use Rattle.op_command.specs.declared.command.Verb.TheVariants as verb

-- ---- what building makes of the line

-- an argument that takes one value, filled in
abbrev filled : Bool → Option Text → Option ℕ → Text → Rule
filled required long index id = record (new_rule id) {
  required = required;
  long = long;
  index = index;
  action = Some Set;
  parser = Some vp.String;
  range = Some (record { start_inclusive = 1; end_inclusive = 1 });
}

abbrev file : Rule
file = filled true None (Some 1) (codes "file")

abbrev numbered : Text → Rule
numbered id = filled false (Some id) None id

abbrev rules : Verb → List Rule
rules verb.Exec = file ∷ numbered (codes "steps") ∷ numbered (codes "heap") ∷ numbered (codes "stack") ∷ []
rules verb.Build = file ∷ numbered (codes "heap") ∷ numbered (codes "stack") ∷ []
rules verb.Check = file ∷ []
rules verb.List = file ∷ numbered (codes "heap") ∷ numbered (codes "stack") ∷ []
rules verb.Run = file ∷ numbered (codes "steps") ∷ []

abbrev leaf : Verb → Shape
leaf one = record (new_shape (word_of one)) { rules = rules one; no_binary_name = true; disable_help_flag = true; disable_help_subcommand = true; is_built = true }

abbrev top : Shape
top = (built line).top

abbrev names : Names
names = names_of (built line)

pub is_simple_line : is_simple line ≡ true
unfolding clap_on_literals
is_simple_line = refl

finds_leaf : (one : Verb) → find (λ s. answers_to (word_of one) (label_of s)) (built line).subs ≡ Some (leaf one)
unfolding clap_on_literals
finds_leaf verb.Exec = refl
finds_leaf verb.Build = refl
finds_leaf verb.Check = refl
finds_leaf verb.List = refl
finds_leaf verb.Run = refl

-- ---- the word of the command

stops : (one : Verb) → walked [] names (walk_from nothing_held) (word_of one) ≡ record (walk_from nothing_held) { stopped = Some (word_of one, []) }
unfolding clap_on_literals
stops verb.Exec = refl
stops verb.Build = refl
stops verb.Check = refl
stops verb.List = refl
stops verb.Run = refl

is_met : (one : Verb) → turn_passes top names (walk_from nothing_held) (word_of one) ≡ true
unfolding clap_on_literals
is_met verb.Exec = refl
is_met verb.Build = refl
is_met verb.Check = refl
is_met verb.List = refl
is_met verb.Run = refl

-- the words behind it are left to the command
walk_of_line : (one : Verb) (rest : List Text) → walk [] names nothing_held (word_of one ∷ rest) ≡ record (walk_from nothing_held) { stopped = Some (word_of one, rest) }
walk_of_line one rest = ap (λ (w : Walk). fold (walked [] names) w rest) (stops one) ∙ sym (walk_stopped [] names (walk_from nothing_held) (word_of one) [] rest)

rest_passes : (s : Shape) (their : Names) (w : Walk) (stop : Text × List Text) (words : List Text) → walk_passes s their (record w { stopped = Some stop }) words ≡ true
unfolding walk_passes walked
rest_passes s their w stop [] = refl
rest_passes s their w stop (word ∷ words) = rest_passes s their w (stop.0, stop.1 ++ word ∷ []) words

line_walks : (one : Verb) (rest : List Text) → walk_passes top names (walk_from nothing_held) (word_of one ∷ rest) ≡ true
unfolding walk_passes
line_walks one rest =
    and_from (turn_passes top names (walk_from nothing_held) (word_of one)) (walk_passes top names (walked top.rules names (walk_from nothing_held) (word_of one)) rest) (is_met one)
    (ap (λ (w : Walk). walk_passes top names w rest) (stops one) ∙ rest_passes top names (walk_from nothing_held) (word_of one, []) rest)

top_passes : (one : Verb) (rest : List Text) (has : Bool) → level_passes top names nothing_held (word_of one ∷ rest) has ≡ true
top_passes one rest has =
    ap (λ (w : Walk). walk_passes top names (walk_from nothing_held) (word_of one ∷ rest) && (settle_passes top.rules top.args_override_self w.held && (list_all default_passes top.rules && is_valid top (finished top.rules w.held) has))) (walk_of_line one rest)
    ∙ ap (λ b. b && true) (line_walks one rest)

takes_line : (one : Verb) (rest : List Text) → level_passes (leaf one) [] nothing_held rest false ≡ true → takes line (word_of one ∷ rest) ≡ true
takes_line one rest is =
    let stop = (walk top.rules names nothing_held (word_of one ∷ rest)).stopped in
    let enters = ap (λ (w : Walk). entered_passes (built line) w.stopped) (walk_of_line one rest) ∙ ap (λ o. option_map_or (λ s. level_passes s [] nothing_held rest false) o true) (finds_leaf one) ∙ is in
    and_from (is_simple line) (built_takes (built line) nothing_held (word_of one ∷ rest)) is_simple_line
    (and_from (entered_passes (built line) stop) (level_passes top names nothing_held (word_of one ∷ rest) (is_some (entered (built line) stop))) enters (top_passes one rest (is_some (entered (built line) stop))))

matches_of_line : (one : Verb) (rest : List Text) → subcommand_of line (word_of one ∷ rest) ≡ Some (word_of one, rows_after (rules one) [] rest)
matches_of_line one rest = ap (λ (w : Walk). entered (built line) w.stopped) (walk_of_line one rest) ∙ ap (option_map (λ s. rows_at s rest)) (finds_leaf one)

-- ---- words that are no flags

record IsPlain (word : Text) : Type 0 where
  dashes : bytes_eq word (45 ∷ 45 ∷ []) ≡ false
  long : long_of word ≡ None
  short : short_of word ≡ None

plain_word : (x : ℕ) (xs : List ℕ) → nat_eq x 45 ≡ false → IsPlain (x ∷ xs)
plain_word x xs is =
    record {
      dashes = ap (λ b. b && bytes_eq xs (45 ∷ [])) is;
      long = ap (λ b. option_and_then long_of_rest (option_and_then (strip_byte 45) (if b then Some xs else None))) is;
      short = ap (λ b. option_and_then short_of_rest (if b then Some xs else None)) is;
    }

plain_name : (name : Text) → is_name name ≡ true → IsPlain name
plain_name [] is = absurd cc
plain_name (x ∷ xs) is =
    let first = and_parts (nat_lt 0 (length (x ∷ xs))) (not (starts_with nat_eq (x ∷ xs) (codes "-"))) is in
    plain_word x xs (eqb-turned 45 x (alone (nat_eq 45 x) (not-true (starts_with nat_eq (x ∷ xs) (codes "-")) first.1)))

no_dash : (x : ℕ) → digit_value x < 10 → nat_eq x 45 ≡ false
no_dash x is = go (nat_eq x 45) refl
  where
    go : (b : Bool) → nat_eq x 45 ≡ b → nat_eq x 45 ≡ false
    go true same =
        let bad : 36 < 10 = subst (λ y. digit_value y < 10) (eqb-true x 45 same) is in
        absurd (omega arith)
    go false same = same

plain_digits : (digits : Text) → IsNumeral 10 digits → IsPlain digits
plain_digits [] is = absurd (omega (arith, is.0))
plain_digits (x ∷ xs) is = plain_word x xs (no_dash x is.1.0)

-- ---- rows

-- what is found for an argument that was used once
abbrev row : Text → Text → Row
row id text = record { id = id; values = text ∷ []; count = None; source = Some CommandLine; reading = reading_of vp.String }

row_missing : (id : Text) (change : Row → List Row) (missing : List Row) (rows : List Row) → has_row id rows ≡ false → at_row id change missing rows ≡ rows ++ missing
row_missing id change missing [] none = refl
row_missing id change missing (r ∷ rows) none =
    let first = or_parts (bytes_eq r.id id) (has_row id rows) none in
    ap (λ b. if b then change r ++ rows else r ∷ at_row id change missing rows) first.0 ∙ ap (λ more. r ∷ more) (row_missing id change missing rows first.1)

any_before : {X : Type 0} (test : X → Bool) (xs : List X) (x : X) → test x ≡ false → list_any test (xs ++ x ∷ []) ≡ list_any test xs
any_before test [] x is = ap (λ b. b || false) is
any_before test (y ∷ xs) x is = ap (λ b. test y || b) (any_before test xs x is)

find_before : {X : Type 0} (test : X → Bool) (xs : List X) (x : X) → test x ≡ false → find test (xs ++ x ∷ []) ≡ find test xs
find_before test [] x is = ap (λ b. cond b (Some x) None) is
find_before test (y ∷ xs) x is = ap (λ o. cond (test y) (Some y) o) (find_before test xs x is)

find_last : {X : Type 0} (test : X → Bool) (xs : List X) (x : X) → list_any test xs ≡ false → test x ≡ true → find test (xs ++ x ∷ []) ≡ Some x
find_last test [] x none is = ap (λ b. cond b (Some x) None) is
find_last test (y ∷ xs) x none is =
    let first = or_parts (test y) (list_any test xs) none in
    ap (λ b. cond b (Some y) (find test (xs ++ x ∷ []))) first.0 ∙ find_last test xs x first.1 is

find_none : {X : Type 0} (test : X → Bool) (xs : List X) → list_any test xs ≡ false → find test xs ≡ None
find_none test [] none = refl
find_none test (x ∷ xs) none =
    let first = or_parts (test x) (list_any test xs) none in
    ap (λ b. cond b (Some x) (find test xs)) first.0 ∙ find_none test xs first.1

-- the rows have these values of an argument, one at most
abbrev Has : Text → List Row → List Text → Type 0
Has id rows [] = has_row id rows ≡ false
Has id rows (text ∷ more) = find (λ (r : Row). bytes_eq r.id id) rows ≡ Some (row id text)

has_other : (id : Text) (rows : List Row) (r : Row) (texts : List Text) → bytes_eq r.id id ≡ false → Has id rows texts → Has id (rows ++ r ∷ []) texts
has_other id rows r [] other is = any_before (λ (r : Row). bytes_eq r.id id) rows r other ∙ is
has_other id rows r (text ∷ more) other is = find_before (λ (r : Row). bytes_eq r.id id) rows r other ∙ is

has_now : (id : Text) (rows : List Row) (text : Text) → bytes_eq id id ≡ true → Has id rows [] → Has id (rows ++ row id text ∷ []) (text ∷ [])
has_now id rows text same none = find_last (λ (r : Row). bytes_eq r.id id) rows (row id text) none same

-- ---- between two pieces

abbrev at : Held → ℕ → Walk
at h position = record { held = h; waiting = idle; position = position; is_trailing = false; stopped = None }

-- this text is the value of an argument that was used
abbrev holding : List Rule → Held → Text → Text → Held
holding c h id text = record (settled c h) { pending = Some (id, text ∷ []) }

-- these are the rows with what is pending, which passes
record Stands (c : List Rule) (h : Held) (rows : List Row) : Type 0 where
  are : settled_rows c h.pending h.rows ≡ rows
  passes : settle_passes c false h ≡ true

stands_on : (c : List Rule) (h : Held) (rows : List Row) (required : Bool) (long : Option Text) (index : Option ℕ) (id text : Text) → arg_by_id c id ≡ Some (filled required long index id) → has_row id rows ≡ false → Stands c h rows
    → Stands c (holding c h id text) (rows ++ row id text ∷ [])
stands_on c h rows required long index id text by_id none stands =
    record {
      are =
          ap (λ (now : List Row). used_by_id (arg_by_id c id) (text ∷ []) now) stands.are
          ∙ ap (λ o. used_by_id o (text ∷ []) rows) by_id
          ∙ ap (with_values id (reading_of vp.String) CommandLine (text ∷ [])) (row_missing id (λ _. []) [] rows none ∙ append-nil rows)
          ∙ row_missing id (more_values CommandLine (text ∷ [])) (row id text ∷ []) rows none;
      passes =
          ap (λ (now : List Row). option_map_or (λ a. use_passes false a (text ∷ []) now) (arg_by_id c id) true) stands.are
          ∙ ap (λ o. option_map_or (λ a. use_passes false a (text ∷ []) rows) o true) by_id
          ∙ ap (λ b. (not b || false) && true) none;
    }

-- ---- the operand

not_both : {A : Type 0} (b : Bool) (x y : A) → (if b && false then x else y) ≡ y
not_both true x y = refl
not_both false x y = refl

last_holds : (b x : Bool) → x ≡ true → (b && false || x) ≡ true
last_holds true x is = is
last_holds false x is = is

operand_met : (c : List Rule) (h : Held) (name : Text) → IsPlain name → word_met c [] false idle 1 name h ≡ (h, value)
operand_met c h name is =
    ap (λ b. if b then (h, trailing 1) else long_or_other c idle name (long_of name) h) is.dashes
    ∙ ap (λ l. long_or_other c idle name l h) is.long ∙ ap (λ s. short_or_plain c idle name s h) is.short

operand_walked : (c : List Rule) (h : Held) (name : Text) → arg_by_index c 1 ≡ Some file → IsPlain name → walked c [] (at h 1) name ≡ at (holding c h (codes "file") name) 2
unfolding walked
operand_walked c h name found is =
    ap (λ (met : Held × Step). after_step c name (at h 1) met.0 met.1) (operand_met c h name is)
    ∙ ap (λ o. to_positional c o name (at h 1) h) found
    ∙ ap (λ (held : Held). at (pushed (codes "file") name held) 2) (not_both (is_pending file h.pending) h (settled c h))

plain_passes : (s : Shape) (word : Text) (h : Held) → IsPlain word → other_passes s None word h ≡ true
plain_passes s word h is =
    ap (λ b. b || flag_word_passes s.rules s.args_override_self (long_of word) word h) is.dashes
    ∙ ap (λ l. flag_word_passes s.rules s.args_override_self l word h) is.long
    ∙ ap (λ o. option_map_or (λ flags. bundle_passes s.rules s.args_override_self flags h) o true) is.short

operand_passes : (s : Shape) (h : Held) (name : Text) → arg_by_index s.rules 1 ≡ Some file → IsPlain name → settle_passes s.rules s.args_override_self h ≡ true → turn_passes s [] (at h 1) name ≡ true
operand_passes s h name found is passes =
    let met = word_met s.rules [] false idle 1 name h in
    and_from (word_passes s [] false idle name h) (step_passes s 1 met.0 met.1) (plain_passes s name h is)
    (ap (λ (to : Held × Step). step_passes s 1 to.0 to.1) (operand_met s.rules h name is)
    ∙ ap (λ o. option_map_or (λ a. positional_passes s.rules s.args_override_self a h) o false) found
    ∙ last_holds (is_pending file h.pending) (settle_passes s.rules s.args_override_self h) passes)

-- ---- an option

-- the word is that of an option of the command
record Opens (c : List Rule) (word id : Text) : Type 0 where
  dashes : bytes_eq word (45 ∷ 45 ∷ []) ≡ false
  long : long_of word ≡ Some (id, None)
  by_long : arg_by_long c id ≡ Some (numbered id)
  by_id : arg_by_id c id ≡ Some (numbered id)
  same : bytes_eq id id ≡ true

abbrev opened : List Rule → Held → Text → Held
opened c h id = record (settled c h) { pending = Some (id, []) }

abbrev awaiting : List Rule → Held → ℕ → Text → Walk
awaiting c h position id = record { held = opened c h id; waiting = option id; position = position; is_trailing = false; stopped = None }

option_met : (c : List Rule) (h : Held) (position : ℕ) (word id : Text) → Opens c word id → word_met c [] false idle position word h ≡ (opened c h id, next (option id))
option_met c h position word id opens =
    ap (λ b. if b then (h, trailing position) else long_or_other c idle word (long_of word) h) opens.dashes
    ∙ ap (λ l. long_or_other c idle word l h) opens.long
    ∙ ap (λ a. after_flag c idle word (long_met c a None h).0 (long_met c a None h).1) opens.by_long

option_walked : (c : List Rule) (h : Held) (position : ℕ) (word id : Text) → Opens c word id → walked c [] (at h position) word ≡ awaiting c h position id
unfolding walked
option_walked c h position word id opens = ap (λ (met : Held × Step). after_step c word (at h position) met.0 met.1) (option_met c h position word id opens)

option_passes : (s : Shape) (h : Held) (position : ℕ) (word id : Text) → Opens s.rules word id → settle_passes s.rules s.args_override_self h ≡ true → turn_passes s [] (at h position) word ≡ true
option_passes s h position word id opens passes =
    let again = s.args_override_self in
    let met = word_met s.rules [] false idle position word h in
    and_from (word_passes s [] false idle word h) (step_passes s position met.0 met.1)
    (ap (λ b. b || flag_word_passes s.rules again (long_of word) word h) opens.dashes
    ∙ ap (λ l. flag_word_passes s.rules again l word h) opens.long ∙ ap (λ a. long_passes s.rules again a None h) opens.by_long ∙ passes)
    (ap (λ (to : Held × Step). step_passes s position to.0 to.1) (option_met s.rules h position word id opens))

digits_met : (c : List Rule) (h : Held) (position : ℕ) (word id digits : Text) → Opens c word id → IsPlain digits → word_met c [] false (option id) position digits (opened c h id) ≡ (holding c h id digits, next idle)
digits_met c h position word id digits opens is =
    let held = opened c h id in
    ap (λ b. if b then (held, trailing position) else long_or_other c (option id) digits (long_of digits) held) is.dashes
    ∙ ap (λ l. long_or_other c (option id) digits l held) is.long ∙ ap (λ s. short_or_plain c (option id) digits s held) is.short
    ∙ ap (λ o. ((option_word o id digits held).0, next (option_word o id digits held).1)) opens.by_id
    ∙ ap (λ b. (holding c h id digits, next (if nat_lt (if b then 1 else 0) 1 then option id else idle))) opens.same

digits_walked : (c : List Rule) (h : Held) (position : ℕ) (word id digits : Text) → Opens c word id → IsPlain digits → walked c [] (awaiting c h position id) digits ≡ at (holding c h id digits) position
unfolding walked
digits_walked c h position word id digits opens is = ap (λ (met : Held × Step). after_step c digits (awaiting c h position id) met.0 met.1) (digits_met c h position word id digits opens is)

digits_pass : (s : Shape) (h : Held) (position : ℕ) (word id digits : Text) → Opens s.rules word id → IsPlain digits → turn_passes s [] (awaiting s.rules h position id) digits ≡ true
digits_pass s h position word id digits opens is =
    let held = opened s.rules h id in
    let met = word_met s.rules [] false (option id) position digits held in
    and_from (word_passes s [] false (option id) digits held) (step_passes s position met.0 met.1) (plain_passes s digits held is)
    (ap (λ (to : Held × Step). step_passes s position to.0 to.1) (digits_met s.rules h position word id digits opens is))

-- ---- the arguments of a command

file_found : (one : Verb) → (arg_by_index (rules one) 1 ≡ Some file) × (arg_by_id (rules one) (codes "file") ≡ Some file)
file_found verb.Exec = (refl, refl)
file_found verb.Build = (refl, refl)
file_found verb.Check = (refl, refl)
file_found verb.List = (refl, refl)
file_found verb.Run = (refl, refl)

opens_steps : (one : Verb) → runs_image one ≡ true → Opens (rules one) (codes "--steps") (codes "steps")
opens_steps verb.Exec is = record { dashes = refl; long = refl; by_long = refl; by_id = refl; same = refl }
opens_steps verb.Build is = absurd cc
opens_steps verb.Check is = absurd cc
opens_steps verb.List is = absurd cc
opens_steps verb.Run is = record { dashes = refl; long = refl; by_long = refl; by_id = refl; same = refl }

opens_heap : (one : Verb) → makes_image one ≡ true → Opens (rules one) (codes "--heap") (codes "heap")
opens_heap verb.Exec is = record { dashes = refl; long = refl; by_long = refl; by_id = refl; same = refl }
opens_heap verb.Build is = record { dashes = refl; long = refl; by_long = refl; by_id = refl; same = refl }
opens_heap verb.Check is = absurd cc
opens_heap verb.List is = record { dashes = refl; long = refl; by_long = refl; by_id = refl; same = refl }
opens_heap verb.Run is = absurd cc

opens_stack : (one : Verb) → makes_image one ≡ true → Opens (rules one) (codes "--stack") (codes "stack")
opens_stack verb.Exec is = record { dashes = refl; long = refl; by_long = refl; by_id = refl; same = refl }
opens_stack verb.Build is = record { dashes = refl; long = refl; by_long = refl; by_id = refl; same = refl }
opens_stack verb.Check is = absurd cc
opens_stack verb.List is = record { dashes = refl; long = refl; by_long = refl; by_id = refl; same = refl }
opens_stack verb.Run is = absurd cc

defaults_pass : (one : Verb) → list_all default_passes (rules one) ≡ true
defaults_pass verb.Exec = refl
defaults_pass verb.Build = refl
defaults_pass verb.Check = refl
defaults_pass verb.List = refl
defaults_pass verb.Run = refl

no_defaults : (one : Verb) → list_all (λ (a : Rule). is_empty a.defaults) (rules one) ≡ true
no_defaults verb.Exec = refl
no_defaults verb.Build = refl
no_defaults verb.Check = refl
no_defaults verb.List = refl
no_defaults verb.Run = refl

valid_given : (one : Verb) (rows : List Row) → is_given (codes "file") rows ≡ true → is_valid (leaf one) rows false ≡ true
valid_given verb.Exec rows is = ap (λ b. b && true) is
valid_given verb.Build rows is = ap (λ b. b && true) is
valid_given verb.Check rows is = ap (λ b. b && true) is
valid_given verb.List rows is = ap (λ b. b && true) is
valid_given verb.Run rows is = ap (λ b. b && true) is

either_way : {A : Type 0} (b : Bool) (x : A) → (if b then x else x) ≡ x
either_way true x = refl
either_way false x = refl

default_stays : (c : List Rule) (rows : List Row) → list_all (λ (a : Rule). is_empty a.defaults) c ≡ true → fold with_default rows c ≡ rows
default_stays [] rows none = refl
default_stays (a ∷ c) rows none =
    let first = and_parts (is_empty a.defaults) (list_all (λ (a : Rule). is_empty a.defaults) c) none in
    ap (λ (now : List Row). fold with_default now c)
    (ap (λ defaults. if has_row a.id rows then rows else default_rows a.id (reading_by a) defaults rows) (is_nil a.defaults first.0) ∙ either_way (has_row a.id rows) rows)
    ∙ default_stays c rows first.1

-- ---- a whole line

-- what was read of the pieces before
record Seen : Type 0 where
  operands : List Text
  steps : List Text
  heap : List Text
  stack : List Text

record Says (rows : List Row) (seen : Seen) : Type 0 where
  operand : Has (codes "file") rows seen.operands
  steps : Has (codes "steps") rows seen.steps
  heap : Has (codes "heap") rows seen.heap
  stack : Has (codes "stack") rows seen.stack

-- these pieces complete what was read to a line that asks so
record Completes (asked : Asked) (seen : Seen) (pieces : List Piece) : Type 0 where
  operand : seen.operands ++ flat_map operands_of pieces ≡ asked.operand ∷ []
  steps : IsGiven (runs_image asked.verb) step_range (seen.steps ++ flat_map steps_of pieces) asked.steps
  heap : IsGiven (makes_image asked.verb) heap_range (seen.heap ++ flat_map heap_of pieces) asked.settings.heap
  stack : IsGiven (makes_image asked.verb) stack_range (seen.stack ++ flat_map stack_of pieces) asked.settings.stack

-- the words are taken, and the rows in the end ask so
record Through (asked : Asked) (w : Walk) (words : List Text) : Type 0 where
  passes : walk_passes (leaf asked.verb) [] w words ≡ true
  rows : List Row
  stands : Stands (rules asked.verb) (fold (walked (rules asked.verb) []) w words).held rows
  has_file : is_given (codes "file") rows ≡ true
  asks : asked_by_matches asked.verb rows ≡ Some asked

through_word : (asked : Asked) (w after : Walk) (word : Text) (rest : List Text) → turn_passes (leaf asked.verb) [] w word ≡ true → walked (rules asked.verb) [] w word ≡ after → Through asked after rest → Through asked w (word ∷ rest)
unfolding walk_passes
through_word asked w after word rest turn is through =
    let more = subst (λ (w : Walk). Through asked w rest) (sym is) through in
    record {
      passes = and_from (turn_passes (leaf asked.verb) [] w word) (walk_passes (leaf asked.verb) [] (walked (rules asked.verb) [] w word) rest) turn more.passes;
      rows = more.rows;
      stands = more.stands;
      has_file = more.has_file;
      asks = more.asks;
    }

through_option : (asked : Asked) (h : Held) (position : ℕ) (word id digits : Text) (rest : List Text) → Opens (rules asked.verb) word id → IsPlain digits → settle_passes (rules asked.verb) false h ≡ true
    → Through asked (at (holding (rules asked.verb) h id digits) position) rest → Through asked (at h position) (word ∷ digits ∷ rest)
through_option asked h position word id digits rest opens is passes through =
    let c = rules asked.verb in
    let s = leaf asked.verb in
    through_word asked (at h position) (awaiting c h position id) word (digits ∷ rest) (option_passes s h position word id opens passes) (option_walked c h position word id opens)
    (through_word asked (awaiting c h position id) (at (holding c h id digits) position) digits rest (digits_pass s h position word id digits opens is) (digits_walked c h position word id digits opens is) through)

-- a value is the only one
only_given : (taken : Bool) (range : Range) (seen : List Text) (digits : Text) (rest : List Text) (number : ℕ) → IsGiven taken range (seen ++ digits ∷ rest) number → (seen ≡ []) × (taken ≡ true) × IsNumber range digits number
only_given taken range [] digits [] number (is, meant) = (refl, is, meant)
only_given taken range [] digits (d ∷ rest) number never = absurd never
only_given taken range (s ∷ []) digits rest number never = absurd never
only_given taken range (s ∷ t ∷ seen) digits rest number never = absurd never

only_operand : (seen : List Text) (name : Text) (rest : List Text) (operand : Text) → seen ++ name ∷ rest ≡ operand ∷ [] → (seen ≡ []) × (name ≡ operand)
only_operand [] name rest operand is = (refl, cc)
only_operand (s ∷ []) name rest operand is = absurd cc
only_operand (s ∷ t ∷ seen) name rest operand is = absurd cc

-- the number of an option by the rows
number_had : (taken : Bool) (range : Range) (id : Text) (rows : List Row) (texts : List Text) (number : ℕ) → IsGiven taken range texts number → Has id rows texts → number_or range (first_of id rows) ≡ Some number
number_had taken range id rows [] number same has = ap (λ o. number_or range (option_and_then (λ (r : Row). slice_get r.values 0) o)) (find_none (λ (r : Row). bytes_eq r.id id) rows has) ∙ ap Some (sym same)
number_had taken range id rows (digits ∷ []) number (is, meant) has = ap (λ o. number_or range (option_and_then (λ (r : Row). slice_get r.values 0) o)) has ∙ number_found range digits number meant
number_had taken range id rows (digits ∷ again ∷ more) number never has = absurd never

-- the operand by the rows
operand_had : (rows : List Row) (texts : List Text) (operand : Text) → texts ≡ operand ∷ [] → Has (codes "file") rows texts → (first_of (codes "file") rows ≡ Some operand) × (is_given (codes "file") rows ≡ true)
operand_had rows [] operand is has = absurd cc
operand_had rows (text ∷ more) operand is has =
    let same : text ≡ operand = cc in (
      ap (option_and_then (λ (r : Row). slice_get r.values 0)) has ∙ ap Some same,
      ap (λ o. option_map_or (λ (r : Row). explicit_source r.source) o false) has,
    )

ended : (asked : Asked) (h : Held) (position : ℕ) (rows : List Row) (seen : Seen) → Stands (rules asked.verb) h rows → Says rows seen → Completes asked seen [] → Through asked (at h position) []
unfolding walk_passes
ended asked h position rows seen stands says all =
    let operand = operand_had rows seen.operands asked.operand (sym (append-nil seen.operands) ∙ all.operand) says.operand in
    let steps = number_had (runs_image asked.verb) step_range (codes "steps") rows seen.steps asked.steps (subst (λ texts. IsGiven (runs_image asked.verb) step_range texts asked.steps) (append-nil seen.steps) all.steps) says.steps in
    let heap = number_had (makes_image asked.verb) heap_range (codes "heap") rows seen.heap asked.settings.heap (subst (λ texts. IsGiven (makes_image asked.verb) heap_range texts asked.settings.heap) (append-nil seen.heap) all.heap) says.heap in
    let stack = number_had (makes_image asked.verb) stack_range (codes "stack") rows seen.stack asked.settings.stack (subst (λ texts. IsGiven (makes_image asked.verb) stack_range texts asked.settings.stack) (append-nil seen.stack) all.stack) says.stack in
    record {
      passes = refl;
      rows = rows;
      stands = stands;
      has_file = operand.1;
      asks =
          ap (λ o. asked_with asked.verb o (number_or heap_range (first_of (codes "heap") rows)) (number_or stack_range (first_of (codes "stack") rows)) (number_or step_range (first_of (codes "steps") rows))) operand.0
          ∙ ap (λ o. asked_with asked.verb (Some asked.operand) o (number_or stack_range (first_of (codes "stack") rows)) (number_or step_range (first_of (codes "steps") rows))) heap
          ∙ ap (λ o. asked_with asked.verb (Some asked.operand) (Some asked.settings.heap) o (number_or step_range (first_of (codes "steps") rows))) stack
          ∙ ap (asked_with asked.verb (Some asked.operand) (Some asked.settings.heap) (Some asked.settings.stack)) steps;
    }

through : (pieces : List Piece) (asked : Asked) (h : Held) (position : ℕ) (rows : List Row) (seen : Seen) → is_operand asked.verb asked.operand ≡ true → Stands (rules asked.verb) h rows → Says rows seen → (seen.operands ≡ [] → position ≡ 1)
    → Completes asked seen pieces → Through asked (at h position) (flat_map words_of pieces)
through [] asked h position rows seen named stands says place all = ended asked h position rows seen stands says all
through (the_operand name ∷ pieces) asked h position rows seen named stands says place all =
    let c = rules asked.verb in
    let id = codes "file" in
    let only = only_operand seen.operands name (flat_map operands_of pieces) asked.operand all.operand in
    let none = subst (Has id rows) only.0 says.operand in
    let is = plain_name name (subst (λ text. is_name text ≡ true) (sym only.1) (is_named asked.verb asked.operand named)) in
    let more = through pieces asked (holding c h id name) 2 (rows ++ row id name ∷ []) (record seen { operands = name ∷ [] }) named
    (stands_on c h rows true None (Some 1) id name (file_found asked.verb).1 none stands)
    (record {
      operand = has_now id rows name refl none;
      steps = has_other (codes "steps") rows (row id name) seen.steps refl says.steps;
      heap = has_other (codes "heap") rows (row id name) seen.heap refl says.heap;
      stack = has_other (codes "stack") rows (row id name) seen.stack refl says.stack;
    })
    (λ empty. absurd cc)
    (record {
      operand = subst (λ texts. texts ++ name ∷ flat_map operands_of pieces ≡ asked.operand ∷ []) only.0 all.operand;
      steps = all.steps;
      heap = all.heap;
      stack = all.stack;
    }) in
    subst (λ n. Through asked (at h n) (name ∷ flat_map words_of pieces)) (sym (place only.0))
    (through_word asked (at h 1) (at (holding c h id name) 2) name (flat_map words_of pieces) (operand_passes (leaf asked.verb) h name (file_found asked.verb).0 is stands.passes)
    (operand_walked c h name (file_found asked.verb).0 is) more)
through (the_steps digits ∷ pieces) asked h position rows seen named stands says place all =
    let c = rules asked.verb in
    let id = codes "steps" in
    let only = only_given (runs_image asked.verb) step_range seen.steps digits (flat_map steps_of pieces) asked.steps all.steps in
    let opens = opens_steps asked.verb only.1 in
    let none = subst (Has id rows) only.0 says.steps in
    let more = through pieces asked (holding c h id digits) position (rows ++ row id digits ∷ []) (record seen { steps = digits ∷ [] }) named
    (stands_on c h rows false (Some id) None id digits opens.by_id none stands)
    (record {
      operand = has_other (codes "file") rows (row id digits) seen.operands refl says.operand;
      steps = has_now id rows digits refl none;
      heap = has_other (codes "heap") rows (row id digits) seen.heap refl says.heap;
      stack = has_other (codes "stack") rows (row id digits) seen.stack refl says.stack;
    })
    place
    (record {
      operand = all.operand;
      steps = subst (λ texts. IsGiven (runs_image asked.verb) step_range (texts ++ digits ∷ flat_map steps_of pieces) asked.steps) only.0 all.steps;
      heap = all.heap;
      stack = all.stack;
    }) in
    through_option asked h position (codes "--steps") id digits (flat_map words_of pieces) opens (plain_digits digits only.2.numeral) stands.passes more
through (the_heap digits ∷ pieces) asked h position rows seen named stands says place all =
    let c = rules asked.verb in
    let id = codes "heap" in
    let only = only_given (makes_image asked.verb) heap_range seen.heap digits (flat_map heap_of pieces) asked.settings.heap all.heap in
    let opens = opens_heap asked.verb only.1 in
    let none = subst (Has id rows) only.0 says.heap in
    let more = through pieces asked (holding c h id digits) position (rows ++ row id digits ∷ []) (record seen { heap = digits ∷ [] }) named
    (stands_on c h rows false (Some id) None id digits opens.by_id none stands)
    (record {
      operand = has_other (codes "file") rows (row id digits) seen.operands refl says.operand;
      steps = has_other (codes "steps") rows (row id digits) seen.steps refl says.steps;
      heap = has_now id rows digits refl none;
      stack = has_other (codes "stack") rows (row id digits) seen.stack refl says.stack;
    })
    place
    (record {
      operand = all.operand;
      steps = all.steps;
      heap = subst (λ texts. IsGiven (makes_image asked.verb) heap_range (texts ++ digits ∷ flat_map heap_of pieces) asked.settings.heap) only.0 all.heap;
      stack = all.stack;
    }) in
    through_option asked h position (codes "--heap") id digits (flat_map words_of pieces) opens (plain_digits digits only.2.numeral) stands.passes more
through (the_stack digits ∷ pieces) asked h position rows seen named stands says place all =
    let c = rules asked.verb in
    let id = codes "stack" in
    let only = only_given (makes_image asked.verb) stack_range seen.stack digits (flat_map stack_of pieces) asked.settings.stack all.stack in
    let opens = opens_stack asked.verb only.1 in
    let none = subst (Has id rows) only.0 says.stack in
    let more = through pieces asked (holding c h id digits) position (rows ++ row id digits ∷ []) (record seen { stack = digits ∷ [] }) named
    (stands_on c h rows false (Some id) None id digits opens.by_id none stands)
    (record {
      operand = has_other (codes "file") rows (row id digits) seen.operands refl says.operand;
      steps = has_other (codes "steps") rows (row id digits) seen.steps refl says.steps;
      heap = has_other (codes "heap") rows (row id digits) seen.heap refl says.heap;
      stack = has_now id rows digits refl none;
    })
    place
    (record {
      operand = all.operand;
      steps = all.steps;
      heap = all.heap;
      stack = subst (λ texts. IsGiven (makes_image asked.verb) stack_range (texts ++ digits ∷ flat_map stack_of pieces) asked.settings.stack) only.0 all.stack;
    }) in
    through_option asked h position (codes "--stack") id digits (flat_map words_of pieces) opens (plain_digits digits only.2.numeral) stands.passes more

leaf_passes : (asked : Asked) (words : List Text) → Through asked (walk_from nothing_held) words → level_passes (leaf asked.verb) [] nothing_held words false ≡ true
leaf_passes asked words is =
    let c = rules asked.verb in
    let end = (walk c [] nothing_held words).held in
    let finishes = default_stays c (settled c end).rows (no_defaults asked.verb) ∙ is.stands.are in
    and_from (walk_passes (leaf asked.verb) [] (walk_from nothing_held) words) (settle_passes c false end && (list_all default_passes c && is_valid (leaf asked.verb) (finished c end) false)) is.passes
    (and_from (settle_passes c false end) (list_all default_passes c && is_valid (leaf asked.verb) (finished c end) false) is.stands.passes
    (and_from (list_all default_passes c) (is_valid (leaf asked.verb) (finished c end) false) (defaults_pass asked.verb)
    (valid_given asked.verb (finished c end) (ap (is_given (codes "file")) finishes ∙ is.has_file))))

leaf_asks : (asked : Asked) (words : List Text) → Through asked (walk_from nothing_held) words → asked_by_matches asked.verb (rows_after (rules asked.verb) [] words) ≡ Some asked
leaf_asks asked words is =
    let c = rules asked.verb in
    let end = (walk c [] nothing_held words).held in
    ap (asked_by_matches asked.verb) (default_stays c (settled c end).rows (no_defaults asked.verb) ∙ is.stands.are) ∙ is.asks

abbrev nothing_seen : Seen
nothing_seen = record { operands = []; steps = []; heap = []; stack = [] }

goes_through : (words : List Text) (asked : Asked) (is : IsCommand words asked) → Through asked (walk_from nothing_held) (flat_map words_of is.pieces)
goes_through words asked is =
    through is.pieces asked nothing_held 1 [] nothing_seen is.operand (record { are = refl; passes = refl }) (record { operand = refl; steps = refl; heap = refl; stack = refl }) (λ empty. refl)
    (record { operand = is.one; steps = is.steps; heap = is.heap; stack = is.stack })

-- `clap` takes a line of the grammar
pub line_is_taken : (words : List Text) (asked : Asked) → IsCommand words asked → takes line words ≡ true
line_is_taken words asked is =
    let rest = flat_map words_of is.pieces in
    subst (λ ws. takes line ws ≡ true) (sym is.are) (takes_line asked.verb rest (leaf_passes asked rest (goes_through words asked is)))

-- and its matches have what the line asks for
pub line_is_matched : (words : List Text) (asked : Asked) → IsCommand words asked → asked_in_matches (subcommand_of line words) ≡ Some asked
line_is_matched words asked is =
    let rest = flat_map words_of is.pieces in
    subst (λ ws. asked_in_matches (subcommand_of line ws) ≡ Some asked) (sym is.are)
    (ap asked_in_matches (matches_of_line asked.verb rest) ∙ ap (option_and_then (λ one. asked_by_matches one (rows_after (rules asked.verb) [] rest))) (word_of_verb asked.verb)
    ∙ leaf_asks asked rest (goes_through words asked is))

pub at_most_one : (words : List Text) → IsAtMostOneCommand words
at_most_one words one other first second = (let same = sym (line_is_matched words one first) ∙ line_is_matched words other second in cc)
