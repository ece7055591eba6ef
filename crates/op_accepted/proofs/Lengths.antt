-- The texts of a program are short where its size is no more than an image may take.
use Rattle.std.proofs.Common.{◌≡◌, ◌<◌, ◌≤◌, ◌+◌, ◌*◌, ◌^◌, ◌&&◌, ◌∙◌, ℕ, Bool, true, false, not, nat_le, List, [], ◌∷◌, length, Option, Some, None, refl, sym, arith, inl, inr, ap, subst}
use Rattle.std.proofs.lemmas.Bool.{and_from, and_parts, false≢true, leb-false, leb-true, lt-ltb}
use Rattle.std.proofs.lemmas.List.Sums.{sum_by-cons}
use Rattle.std.specs.List.{list_all, sum_by, flat_map}
use Rattle.std.proofs.lemmas.List.Concat.{flat_map-cons}
use Rattle.op_accepted.proofs.Keeping.{statements_kept, AllFit, fit_back, fit_front}
use Rattle.op_accepted.specs.Fit.{AreFitStatements, any_text}
use Rattle.op_constants.proofs.Distinct.{among_distinct, first_or_later}
use Rattle.op_constants.specs.Texts.{distinct, is_among}
use Rattle.op_core.proofs.Growing.{front_itself}
use Rattle.op_core.specs.Statement.{Statements, stmts_of}
use Rattle.op_core.specs.declared.program.Core.{Core}
use Rattle.op_core.specs.declared.routine.Body.{Body}
use Rattle.op_core.specs.declared.routine.Routine.{Routine}
use Rattle.op_link.specs.Memory.{most_linked}
use Rattle.op_meaning.specs.Charge.{statements_in}
use Rattle.op_meaning.specs.Shapes.{is_managed, no_type}
use Rattle.op_plain.specs.Plain.{are_plain_statements, is_plain_body, is_plain_by, is_plain_result, is_plain_routine, is_plain_unit, is_plain_variable, is_short, most_units, takes_few}
use Rattle.op_sizes.specs.ProgramSize.{first_values, literals, names, nodes, program_size, text_size, texts}
use Rattle.op_sizes.specs.Texts.{body_texts, statements_texts}
use Rattle.op_typing.specs.SimpleTests.{is_counted, is_none, is_of_unit, is_solid_parameter}

-- it counts for no more than an image may take
IsShort : List ℕ → Type 0
IsShort text = text_size text ≤ 67108864

short : (text : List ℕ) → IsShort text → is_short text ≡ true
unfolding IsShort
short text h = lt-ltb (length text) (2 ^ 31) (omega arith)

short_statements : (core : Core) (ss : Statements) → AreFitStatements core ss → AllFit IsShort (statements_texts ss) → are_plain_statements is_short core ss ≡ true
short_statements core ss e h = statements_kept core core (front_itself core.types) any_text is_short IsShort (λ text less f. short text less) ss h e

-- one of some texts counts for no more than all
one_counted : (text : List ℕ) (texts : List (List ℕ)) → is_among text texts ≡ true → text_size text ≤ sum_by text_size texts
one_counted text [] h = absurd (false≢true h)
one_counted text (x ∷ xs) h =
    let sum = sum_by-cons text_size x xs in
    elim (first_or_later text x xs h) [
      | inl is ↦ let same = ap text_size is in omega (arith, sum, same)
      | inr later ↦ let rest = one_counted text xs later in omega (arith, sum, rest)
    ]

all_short : (core : Core) → literals core ≤ 67108864 → AllFit IsShort (texts core)
unfolding IsShort
all_short core h = record { each = λ text among. let one = one_counted text (distinct (texts core)) (among_distinct text (texts core) among) in omega (arith, one, h) }

-- ---- a whole program

-- with a test that stays as it is
beside : (a : Bool) {b c : Bool} → (b ≡ true → c ≡ true) → (a && b) ≡ true → (a && c) ≡ true
beside a {b} {c} f e = let parts = and_parts a b e in and_from a c parts.0 (f parts.1)

before : (b : Bool) {a c : Bool} → (a ≡ true → c ≡ true) → (a && b) ≡ true → (c && b) ≡ true
before b {a} {c} f e = let parts = and_parts a b e in and_from c b (f parts.0) parts.1

short_body : (core : Core) (b : Option Body) → AllFit IsShort (body_texts (statements_in b)) → is_plain_body any_text core b ≡ true → is_plain_body is_short core b ≡ true
short_body core None h e = e
short_body core (Some b) h e = short_statements core (stmts_of b.statements.items) e h

short_routine : (core : Core) (x : Routine) → AllFit IsShort (body_texts (statements_in x.body)) → is_plain_routine any_text core x ≡ true → is_plain_routine is_short core x ≡ true
short_routine core x h e = beside (is_of_unit x.owner) (beside (is_none x.enclosing) (beside (is_plain_result core x.result) (beside (takes_few x.parameters.count) (short_body core x.body h)))) e

short_routines : (core : Core) (xs : List Routine) → AllFit IsShort (flat_map (λ x. body_texts (statements_in x.body)) xs) → list_all (is_plain_routine any_text core) xs ≡ true → list_all (is_plain_routine is_short core) xs ≡ true
short_routines core [] h e = refl
short_routines core (x ∷ xs) h e =
    let bodies = λ (x : Routine). body_texts (statements_in x.body) in
    let all = subst (AllFit IsShort) (flat_map-cons bodies x xs) h in
    let parts = and_parts (is_plain_routine any_text core x) (list_all (is_plain_routine any_text core) xs) e in
    and_from _ _ (short_routine core x (fit_front IsShort (bodies x) (flat_map bodies xs) all) parts.0) (short_routines core xs (fit_back IsShort (bodies x) (flat_map bodies xs) all) parts.1)

short_by_texts : (core : Core) → literals core ≤ 67108864 → is_plain_by any_text core ≡ true → is_plain_by is_short core ≡ true
unfolding is_plain_by
short_by_texts core h e =
    beside (is_none core.exceptions)
    (beside (not (is_managed core no_type))
    (beside (list_all (is_counted core) core.types)
    (beside (list_all (is_solid_parameter core) core.parameters)
    (beside (list_all (is_plain_variable core) core.variables)
    (before (list_all (is_plain_unit core) core.units && nat_le (length core.units) most_units) (short_routines core core.routines (all_short core h))))))) e

part_of : (nodes names texts values : ℕ) → 262144 + 2048 * nodes + 2048 * names + texts + values ≤ 67108864 → texts ≤ 67108864
part_of nodes names texts values less = omega (arith, less)

pub short_program : (core : Core) → is_plain_by any_text core ≡ true → program_size core ≤ most_linked → is_plain_by is_short core ≡ true
short_program core fit less = short_by_texts core (part_of (nodes core) (names core) (literals core) (first_values core) less) fit

-- so a program whose texts are not short has a larger size
pub not_short : (core : Core) → is_plain_by any_text core ≡ true → is_plain_by is_short core ≡ false → most_linked < program_size core
not_short core fit long = by (nat_le (program_size core) most_linked) refl
  where
    by : (b : Bool) → nat_le (program_size core) most_linked ≡ b → most_linked < program_size core
    by true less = absurd (false≢true (sym long ∙ short_program core fit (leb-true _ _ less)))
    by false more = leb-false _ _ more
