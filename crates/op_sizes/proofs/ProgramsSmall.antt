-- The code, the constants and the initial globals of an image take no more bytes than the size of the program.
use Rattle.std.proofs.Common.{◌≡◌, ◌≤◌, ℕ, suc, ◌+◌, ◌*◌, List, [], ◌∷◌, ◌++◌, length, length-append, length-take, length-drop, map, drop, Option, Some, None, IsSome, ◌⊎◌, inl, inr, ◌||◌, slice_get, refl, sym, ap, subst, arith, Bool, true, false, if◌then◌else◌}
use Rattle.std.proofs.lemmas.Bool.{false≢true}
use Rattle.std.proofs.lemmas.List.Concat.{flat_map-cons}
use Rattle.std.proofs.lemmas.List.Elements.{All-cons, All-head, All-nil, All-tail}
use Rattle.std.proofs.lemmas.List.Sums.{sum_by-cons}
use Rattle.std.proofs.lemmas.Option.{slice_get_past}
use Rattle.std.specs.List.{All, flat_map, sum_by}
use Rattle.std.specs.Option.{option_to_list}
use Rattle.std.specs.Str.{bytes_eq}
use Rattle.op_constants.specs.Fixed.{fixed_literals}
use Rattle.op_constants.specs.Literals.{all_literals, literals_of, routine_literals, routines_literals}
use Rattle.op_constants.proofs.Distinct.{among_back, among_cases, among_distinct, among_first, among_front, among_later, first_or_later}
use Rattle.op_constants.specs.Texts.{distinct, is_among}
use Rattle.op_core.specs.Rows.{rows}
use Rattle.op_core.specs.Sound.{IsRoutine as IsRowOf, IsSound}
use Rattle.op_core.specs.declared.ids.RoutineId.{RoutineId}
use Rattle.op_core.specs.declared.program.Core.{Core}
use Rattle.op_core.specs.declared.program.Unit.{Unit as UnitRow}
use Rattle.op_core.specs.declared.routine.Body.{Body}
use Rattle.op_core.specs.declared.routine.Owner.TheVariants.{Unit as OfUnit}
use Rattle.op_core.specs.declared.routine.Routine.{Routine as Row}
use Rattle.op_expand.specs.Calls.{has_closing}
use Rattle.op_expand.specs.Closing.{closing_routines, closing_routine}
use Rattle.op_places.specs.Frames.{parameters_of}
use Rattle.op_expand.specs.Programs.{low_of, routines_from}
use Rattle.op_expand.specs.Routines.{low_routine}
use Rattle.op_frames.specs.Counted.{AreCountedStatements}
use Rattle.op_layout.specs.Places.{layout_of}
use Rattle.op_link.specs.Linking.{linked_size}
use Rattle.op_link.specs.Memory.{initial_size}
use Rattle.op_link.specs.declared.memory_map.Settings.{Settings}
use Rattle.op_low.specs.declared.code.Block.{Block as LowBlock}
use Rattle.op_low.specs.declared.code.Low.{Low}
use Rattle.op_low.specs.declared.code.Routine.{Routine as LowRoutine}
use Rattle.op_low.specs.declared.instruction.Instruction.{Instruction as LowInstruction}
use Rattle.op_lower.specs.Lowers.{IsProgram, IsRoutine, Lowers}
use Rattle.op_meaning.specs.Calls.{env_of}
use Rattle.op_meaning.specs.Charge.{nodes_of, statements_in, statements_weight}
use Rattle.op_meaning.specs.Expressions.{first_here}
use Rattle.op_meaning.specs.Frames.{program_of}
use Rattle.op_meaning.specs.Shapes.{variables_in, variables_of}
use Rattle.op_meaning.specs.Statements.{first_items, work_of_all}
use Rattle.op_meaning.specs.Texts.{line_feed}
use Rattle.op_mir.specs.Code.{Instr, becoming_due, entering, items_of, ret, unit_code}
use Rattle.op_mir.specs.declared.code.Mir.{Mir}
use Rattle.op_mir.specs.declared.code.Routine.{Routine}
use Rattle.op_optimize.proofs.Optimized.{thins}
use Rattle.op_optimize.specs.Optimizing.{Optimizes}
use Rattle.op_optimize.specs.Thinning.{Kept, LeftOut, NoBlocks, NoRoutines, Nothing, OneMore, OneRoutineMore, Thins, ThinsBlocks, ThinsRoutines}
use Rattle.op_rt_text.specs.Runtime.{runtime_routines}
use Rattle.op_select.specs.Selection.{object_routine_of, select_of}
use Rattle.op_sizes.proofs.BytesSmall.{object_bytes}
use Rattle.op_sizes.proofs.ClosingSmall.{closing_weight, finalizations_few}
use Rattle.op_sizes.proofs.ExpressionTexts.{both_text}
use Rattle.op_sizes.proofs.FirstValues.{firsts_kept, initial_kept, texts_sized, variables_texts}
use Rattle.op_sizes.proofs.LinkedSmall.{linked_less, routines_bytes}
use Rattle.op_sizes.proofs.NamesCounted.{variables_named, parameters_are_named}
use Rattle.op_sizes.proofs.RoutinesSmall.{program_light, routine_light}
use Rattle.op_sizes.proofs.StatementTexts.{all_keeps}
use Rattle.op_sizes.proofs.TextsKept.{all_bytes, blocks_kept, blocks_text, code_text, routine_kept, total, total_join}
use Rattle.op_sizes.proofs.TextsOnce.{counted_among, distinct_less, is_one, some_counted}
use Rattle.op_sizes.specs.Texts.{body_texts, statements_texts}
use Rattle.op_sizes.specs.ProgramSize.{body_nodes, own_names, parts_of, program_size, text_size, texts, variables_size}
use Rattle.op_sizes.specs.Weights.{blocks_weight, code_weight}
use Rattle.op_sizes.specs.Written.{AreWrittenStatements}

-- ---- the most bytes that routines take: no more where instructions are left out

abbrev most_bytes : List LowRoutine → ℕ
most_bytes [] = 0
most_bytes (x ∷ xs) = 332 + 40 * blocks_weight x.blocks + most_bytes xs

objects_less : (xs : List LowRoutine) → routines_bytes (map object_routine_of xs) ≤ most_bytes xs
objects_less [] = omega arith
objects_less (x ∷ xs) = let first = object_bytes x in let rest = objects_less xs in omega (arith, first, rest)

bytes_join : (a b : List LowRoutine) → most_bytes (a ++ b) ≡ most_bytes a + most_bytes b
bytes_join [] b = omega arith
bytes_join (x ∷ a) b = let e = bytes_join a b in omega (arith, e)

thinner_code : (code thinner : List LowInstruction) → Thins code thinner → code_weight thinner ≤ code_weight code
thinner_code [] [] Nothing = omega arith
thinner_code [] (j ∷ js) thinner = elim thinner [ ]
thinner_code (i ∷ is) js (LeftOut rest) = let less = thinner_code is js rest in omega (arith, less)
thinner_code (i ∷ is) (j ∷ js) (Kept first rest) = let less = thinner_code is js rest in omega (arith, first, less)

thinner_blocks : (blocks thinner : List LowBlock) → ThinsBlocks blocks thinner → blocks_weight thinner ≤ blocks_weight blocks
thinner_blocks [] [] NoBlocks = omega arith
thinner_blocks [] (c ∷ cs) thinner = elim thinner [ ]
thinner_blocks (b ∷ bs) [] thinner = elim thinner [ ]
thinner_blocks (b ∷ bs) (c ∷ cs) (OneMore first rest) =
    let one = thinner_code b.code c.code first in
    let less = thinner_blocks bs cs rest in
    omega (arith, one, less)

thinner_routines : (routines thinner : List LowRoutine) → ThinsRoutines routines thinner → most_bytes thinner ≤ most_bytes routines
thinner_routines [] [] NoRoutines = omega arith
thinner_routines [] (t ∷ ts) thinner = elim thinner [ ]
thinner_routines (x ∷ xs) [] thinner = elim thinner [ ]
thinner_routines (x ∷ xs) (t ∷ ts) (OneRoutineMore first rest) =
    let one = thinner_blocks x.blocks t.blocks first.blocks in
    let less = thinner_routines xs ts rest in
    omega (arith, one, less)

runtime_less : most_bytes runtime_routines ≤ 100000
runtime_less = omega arith

-- ---- a routine of the program

-- a body of it, with one variable more than the names that it declares, and a name for each parameter
record IsOwn (core : Core) (x : Row) : Type 0 where
  body : Body
  has : x.body ≡ Some body
  few : x.variables.count ≤ own_names core x + 1
  owner : x.owner ≡ OfUnit
  given : x.parameters.count ≤ own_names core x

-- the routines, and the rows of routines, are those from number r on
module _ (core : Core) where
  AreOwn : ℕ → List Routine → Type 0
  AreOwn r ys = (k : ℕ) (y : Routine) → slice_get ys k ≡ Some y → IsRoutine core (r + k) y

  AreRows : ℕ → List Row → Type 0
  AreRows r xs = (k : ℕ) → slice_get xs k ≡ slice_get core.routines (r + k)

  first_own : (r : ℕ) (y : Routine) (ys : List Routine) → AreOwn r (y ∷ ys) → IsRoutine core r y
  unfolding AreOwn
  first_own r y ys are = let at : r + 0 ≡ r = omega arith in subst (λ n. IsRoutine core n y) at (are 0 y refl)

  rest_own : (r : ℕ) (y : Routine) (ys : List Routine) → AreOwn r (y ∷ ys) → AreOwn (r + 1) ys
  unfolding AreOwn
  rest_own r y ys are = λ k z there. let at : r + suc k ≡ r + 1 + k = omega arith in subst (λ n. IsRoutine core n z) at (are (suc k) z there)

  first_row : (r : ℕ) (x : Row) (xs : List Row) → AreRows r (x ∷ xs) → slice_get core.routines r ≡ Some x
  unfolding AreRows
  first_row r x xs are = let at : r + 0 ≡ r = omega arith in sym (subst (λ n. Some x ≡ slice_get core.routines n) at (are 0))

  rest_rows : (r : ℕ) (x : Row) (xs : List Row) → AreRows r (x ∷ xs) → AreRows (r + 1) xs
  unfolding AreRows
  rest_rows r x xs are = λ k. let at : r + suc k ≡ r + 1 + k = omega arith in subst (λ n. slice_get xs k ≡ slice_get core.routines n) at (are (suc k))

module _ (core : Core) (mir : Mir) (counted : (r : ℕ) → AreCountedStatements ((program_of core 0).body r)) (written : (r : ℕ) → AreWrittenStatements ((program_of core 0).body r)) where
  -- the bytes of a row of routines, without texts
  abbrev row_bytes : Row → ℕ
  row_bytes x = 2048 * body_nodes core x + 2048 * own_names core x

  body_there : (r : ℕ) (x : Row) → slice_get core.routines r ≡ Some x → (b : Body) → x.body ≡ Some b → body_nodes core x ≡ 1 + nodes_of (statements_weight core ((program_of core 0).body r))
  body_there r x there b has = rw there (rw has refl)

  text_there : (r : ℕ) (x : Row) → slice_get core.routines r ≡ Some x → (b : Body) → x.body ≡ Some b → statements_texts ((program_of core 0).body r) ≡ body_texts (statements_in x.body)
  text_there r x there b has = rw there (rw has refl)

  parameters_there : (r : ℕ) (x : Row) → slice_get core.routines r ≡ Some x → x.owner ≡ OfUnit → parameters_of core r ≡ x.parameters.count
  parameters_there r x there owner = rw (there, owner) (none_more x.parameters.count)
    where
      none_more : (n : ℕ) → 0 + n ≡ n
      none_more n = omega arith

  -- a routine takes 484 bytes more than what is written in it counts for, if it has a result
  one_less : (texts : List (List ℕ)) (r : ℕ) (x : Row) (y : Routine) → slice_get core.routines r ≡ Some x → IsRoutine core r y → IsOwn core x → most_bytes (low_routine core mir texts r y ∷ []) ≤ row_bytes x + 484
  one_less texts r x y there is own =
      let light = routine_light core 0 r (counted r) (written r) mir texts y is in
      let nodes = body_there r x there own.body own.has in
      let count = ap (λ o. (variables_in o).count) there in
      let few = own.few in
      let given = own.given in
      let parameters = parameters_there r x there own.owner in
      let received = length-take (parameters_of core r) (rows core.variables (variables_of core r)) in
      omega (arith, light, nodes, count, few, given, parameters, received)

  -- ---- all routines, from number r on

  abbrev rows_bytes : List Row → ℕ
  rows_bytes [] = 0
  rows_bytes (x ∷ xs) = row_bytes x + rows_bytes xs

  routines_less : (texts : List (List ℕ)) (r : ℕ) (xs : List Row) (ys : List Routine) → length ys ≡ length xs → AreRows core r xs → AreOwn core r ys → All (IsOwn core) xs → most_bytes (routines_from core mir texts r ys) ≤ rows_bytes xs + 484 * length xs
  routines_less texts r [] [] same rows_are are own = omega arith
  routines_less texts r (x ∷ xs) [] same rows_are are own = omega (arith, same)
  routines_less texts r [] (y ∷ ys) same rows_are are own = omega (arith, same)
  routines_less texts r (x ∷ xs) (y ∷ ys) same rows_are are own =
      let first = one_less texts r x y (first_row core r x xs rows_are) (first_own core r y ys are) (All-head (IsOwn core) x xs own) in
      let rest = routines_less texts (r + 1) xs ys (omega (arith, same)) (rest_rows core r x xs rows_are) (rest_own core r y ys are) (All-tail (IsOwn core) x xs own) in
      omega (arith, first, rest)

  rows_summed : (xs : List Row) → rows_bytes xs ≡ 2048 * sum_by (body_nodes core) xs + 2048 * sum_by (own_names core) xs
  rows_summed [] = omega arith
  rows_summed (x ∷ xs) =
      let rest = rows_summed xs in
      let a = sum_by-cons (body_nodes core) x xs in
      let b = sum_by-cons (own_names core) x xs in
      omega (arith, rest, a, b)

  -- ---- the texts that routines take: those of their bodies, what their variables begin with, and the end of a line

  texts_less : (w : List ℕ → ℕ) → w line_feed ≡ 0 → (r : ℕ) (y : Routine) → IsRoutine core r y → total w (routine_literals core r y) ≤ total w (variables_texts core (rows core.variables (variables_of core r))) + total w (statements_texts ((program_of core 0).body r))
  texts_less w none r y is =
      let p = program_of core 0 in
      let firsts = first_items core p.first r (variables_of core r).count in
      let work = work_of_all (env_of p r) first_here (p.body r) in
      let kept = routine_kept w core r y in
      let seen = ap (blocks_text w core) (is.blocks 0) in
      let blocks = blocks_kept w core (items_of p r) in
      let both = both_text w core firsts work in
      let a = firsts_kept w core 0 r in
      let b = all_keeps w none core (env_of p r) first_here (p.body r) (counted r) in
      omega (arith, kept, seen, blocks, both, a, b)

  abbrev row_texts : Row → List (List ℕ)
  row_texts x = body_texts (statements_in x.body) ++ variables_texts core (rows core.variables x.variables)

  abbrev rows_texts : List Row → List (List ℕ)
  rows_texts [] = []
  rows_texts (x ∷ xs) = row_texts x ++ rows_texts xs

  routine_taken : (text : List ℕ) (r : ℕ) (x : Row) (y : Routine) → slice_get core.routines r ≡ Some x → IsRoutine core r y → IsOwn core x → is_among text (routine_literals core r y) ≡ true → is_among text (line_feed ∷ row_texts x) ≡ true
  routine_taken text r x y there is own taken = by (bytes_eq text line_feed) refl
    where
      by : (line : Bool) → bytes_eq text line_feed ≡ line → is_among text (line_feed ∷ row_texts x) ≡ true
      by true e = ap (λ b. b || is_among text (row_texts x)) e
      by false e =
          let none : is_one text line_feed ≡ 0 = ap (λ b. if b then 1 else 0) e in
          let less = texts_less (is_one text) none r y is in
          let some = some_counted text (routine_literals core r y) taken in
          let body = ap (total (is_one text)) (text_there r x there own.body own.has) in
          let firsts = ap (λ o. total (is_one text) (variables_texts core (rows core.variables (variables_in o)))) there in
          let all = total_join (is_one text) (body_texts (statements_in x.body)) (variables_texts core (rows core.variables x.variables)) in
          among_later text line_feed (row_texts x) (counted_among text (row_texts x) (omega (arith, less, some, body, firsts, all)))

  routines_taken : (text : List ℕ) (r : ℕ) (xs : List Row) (ys : List Routine) → length ys ≡ length xs → AreRows core r xs → AreOwn core r ys → All (IsOwn core) xs → is_among text (routines_literals core r ys) ≡ true → is_among text (line_feed ∷ rows_texts xs) ≡ true
  routines_taken text r [] [] same rows_are are own taken = absurd (false≢true taken)
  routines_taken text r (x ∷ xs) [] same rows_are are own taken = absurd (omega (arith, same))
  routines_taken text r [] (y ∷ ys) same rows_are are own taken = absurd (omega (arith, same))
  routines_taken text r (x ∷ xs) (y ∷ ys) same rows_are are own taken =
      elim (among_cases text (routine_literals core r y) (routines_literals core (suc r) ys) taken) [
        | inl here ↦
            behind_line (rows_texts (x ∷ xs)) (row_texts x) (λ h. among_front text (row_texts x) (rows_texts xs) h)
            (routine_taken text r x y (first_row core r x xs rows_are) (first_own core r y ys are) (All-head (IsOwn core) x xs own) here)
        | inr later ↦
            let next : suc r ≡ r + 1 = omega arith in
            behind_line (rows_texts (x ∷ xs)) (rows_texts xs) (λ h. among_back text (row_texts x) (rows_texts xs) h)
            (routines_taken text (r + 1) xs ys (omega (arith, same)) (rest_rows core r x xs rows_are) (rest_own core r y ys are) (All-tail (IsOwn core) x xs own) (subst (λ n. is_among text (routines_literals core n ys) ≡ true) next later))
      ]
    where
      behind_line : (all part : List (List ℕ)) → (is_among text part ≡ true → is_among text all ≡ true) → is_among text (line_feed ∷ part) ≡ true → is_among text (line_feed ∷ all) ≡ true
      behind_line all part more h =
          elim (first_or_later text line_feed part h) [
            | inl is ↦ subst (λ t. is_among t (line_feed ∷ all) ≡ true) (sym is) (among_first line_feed all)
            | inr there ↦ among_later text line_feed all (more there)
          ]

  -- those of all bodies come first, each once
  abbrev rows_firsts : List Row → List (List ℕ)
  rows_firsts [] = []
  rows_firsts (x ∷ xs) = variables_texts core (rows core.variables x.variables) ++ rows_firsts xs

  rows_sorted : (text : List ℕ) (xs : List Row) → is_among text (rows_texts xs) ≡ true → (is_among text (flat_map (λ x. body_texts (statements_in x.body)) xs) ≡ true) ⊎ (is_among text (rows_firsts xs) ≡ true)
  rows_sorted text [] h = inl h
  rows_sorted text (x ∷ xs) h =
      let bodies = λ (x : Row). body_texts (statements_in x.body) in
      let split = flat_map-cons bodies x xs in
      let firsts = variables_texts core (rows core.variables x.variables) in
      elim (among_cases text (row_texts x) (rows_texts xs) h) [
        | inl here ↦
            elim (among_cases text (bodies x) firsts here) [
              | inl body ↦ inl (subst (λ ts. is_among text ts ≡ true) (sym split) (among_front text (bodies x) (flat_map bodies xs) body))
              | inr first ↦ inr (among_front text firsts (rows_firsts xs) first)
            ]
        | inr later ↦
            elim (rows_sorted text xs later) [
              | inl body ↦ inl (subst (λ ts. is_among text ts ≡ true) (sym split) (among_back text (bodies x) (flat_map bodies xs) body))
              | inr first ↦ inr (among_back text firsts (rows_firsts xs) first)
            ]
      ]

  firsts_sized : (xs : List Row) → total (λ l. length l) (rows_firsts xs) ≤ sum_by (λ x. variables_size core (rows core.variables x.variables)) xs
  firsts_sized [] = omega arith
  firsts_sized (x ∷ xs) =
      let first = texts_sized core (rows core.variables x.variables) in
      let rest = firsts_sized xs in
      let all = total_join (λ l. length l) (variables_texts core (rows core.variables x.variables)) (rows_firsts xs) in
      let sum = sum_by-cons (λ x. variables_size core (rows core.variables x.variables)) x xs in
      omega (arith, first, rest, all, sum)

  -- all that the literals of the program are among
  abbrev everything : List (List ℕ)
  everything = fixed_literals ++ (line_feed ∷ (distinct (texts core) ++ rows_firsts core.routines))

  row_there : (text : List ℕ) → is_among text (line_feed ∷ rows_texts core.routines) ≡ true → is_among text everything ≡ true
  row_there text h =
      let firsts = rows_firsts core.routines in
      let rest = distinct (texts core) ++ firsts in
      among_back text fixed_literals (line_feed ∷ rest) (elim (first_or_later text line_feed (rows_texts core.routines) h) [
        | inl is ↦ subst (λ t. is_among t (line_feed ∷ rest) ≡ true) (sym is) (among_first line_feed rest)
        | inr there ↦ among_later text line_feed rest (elim (rows_sorted text core.routines there) [
          | inl body ↦ among_front text (distinct (texts core)) firsts (among_distinct text (texts core) body)
          | inr first ↦ among_back text (distinct (texts core)) firsts first
        ])
      ])

texts_counted : (ls : List (List ℕ)) → total (λ l. length l) ls ≤ sum_by text_size ls
texts_counted [] = omega arith
texts_counted (l ∷ ls) = let rest = texts_counted ls in let e = sum_by-cons text_size l ls in omega (arith, rest, e)

fixed_less : total (λ l. length l) fixed_literals ≤ 200
fixed_less = omega arith

-- ---- what stands below all routines

text_join : (w : List ℕ → ℕ) (core : Core) (a b : List Instr) → code_text w core (a ++ b) ≡ code_text w core a + code_text w core b
text_join w core [] b = omega arith
text_join w core (i ∷ a) b = let e = text_join w core a b in omega (arith, e)

part_text : (w : List ℕ → ℕ) (core : Core) (u : UnitRow) → code_text w core (unit_code u) ≡ 0
part_text w core u =
    let a = enters u.initialization in
    let b = comes_due u.finalization in
    let all = text_join w core (entering u.initialization) (becoming_due u.finalization) in
    omega (arith, a, b, all)
  where
    enters : (o : Option RoutineId) → code_text w core (entering o) ≡ 0
    enters None = refl
    enters (Some r) = omega arith

    comes_due : (o : Option RoutineId) → code_text w core (becoming_due o) ≡ 0
    comes_due None = refl
    comes_due (Some r) = omega arith

parts_text : (w : List ℕ → ℕ) (core : Core) (us : List UnitRow) → code_text w core (flat_map unit_code us) ≡ 0
parts_text w core [] = refl
parts_text w core (u ∷ us) =
    let here = part_text w core u in
    let rest = parts_text w core us in
    let all = text_join w core (unit_code u) (flat_map unit_code us) in
    let e = ap (code_text w core) (flat_map-cons unit_code u us) in
    omega (arith, here, rest, all, e)

program_text : (w : List ℕ → ℕ) (core : Core) (r : ℕ) (routine : Routine) → IsProgram core.units routine → total w (routine_literals core r routine) ≤ 0
program_text w core r routine is =
    let kept = routine_kept w core r routine in
    let seen = ap (blocks_text w core) (is.blocks core r) in
    let units = parts_text w core core.units in
    let all = text_join w core (flat_map unit_code core.units) (ret ∷ []) in
    omega (arith, kept, seen, units, all)

few_parts : (us : List UnitRow) → length (flat_map parts_of us) ≤ 2 * length us
few_parts [] = omega arith
few_parts (u ∷ us) =
    let a = at_most_one u.initialization in
    let b = at_most_one u.finalization in
    let rest = few_parts us in
    let one = length-append (option_to_list u.initialization) (option_to_list u.finalization) in
    let all = length-append (parts_of u) (flat_map parts_of us) in
    let e = ap length (flat_map-cons parts_of u us) in
    omega (arith, a, b, rest, one, all, e)
  where
    at_most_one : (o : Option RoutineId) → length (option_to_list o) ≤ 1
    at_most_one None = omega arith
    at_most_one (Some r) = omega arith

-- ---- programs

own_of : (core : Core) (x : Row) → IsRowOf core x → x.owner ≡ OfUnit → IsOwn core x
own_of core x row owner = by x.body refl (row.has_body owner)
  where
    by : (o : Option Body) → x.body ≡ o → IsSome x.body → IsOwn core x
    by None e some = let none = subst IsSome e some in absurd (cc none)
    by (Some b) e some =
        let named = variables_named core x owner (row.begins some) in
        let fits = row.runs.1 in
        let front = length-take x.variables.count (drop x.variables.first core.variables) in
        let behind = length-drop x.variables.first core.variables in
        let given = parameters_are_named core x owner (row.begins some) in
        let given_fits = row.runs.0 in
        let given_front = length-take x.parameters.count (drop x.parameters.first core.parameters) in
        let given_behind = length-drop x.parameters.first core.parameters in
        record { body = b; has = e; few = omega (arith, named, fits, front, behind); owner = owner; given = omega (arith, given, given_fits, given_front, given_behind) }

all_own : (core : Core) (xs : List Row) → All (IsRowOf core) xs → All (λ x. x.owner ≡ OfUnit) xs → All (IsOwn core) xs
all_own core [] sound owners = All-nil (IsOwn core)
all_own core (x ∷ xs) sound owners =
    let here = own_of core x (All-head (IsRowOf core) x xs sound) (All-head (λ (x : Row). x.owner ≡ OfUnit) x xs owners) in
    All-cons (IsOwn core) x xs here (all_own core xs (All-tail (IsRowOf core) x xs sound) (All-tail (λ (x : Row). x.owner ≡ OfUnit) x xs owners))

module _ (core : Core) (mir : Mir) (lowers : Lowers core mir) (sound : IsSound core) (owners : All (λ x. x.owner ≡ OfUnit) core.routines) (counted : (r : ℕ) → AreCountedStatements ((program_of core 0).body r)) (written : (r : ℕ) → AreWrittenStatements ((program_of core 0).body r)) where
  rows_here : AreRows core 0 core.routines
  unfolding AreRows
  rows_here = λ k. let e : k ≡ 0 + k = omega arith in ap (slice_get core.routines) e

  own_here : AreOwn core 0 mir.routines
  unfolding AreOwn
  own_here = λ k y there. let e : k ≡ 0 + k = omega arith in subst (λ n. IsRoutine core n y) e (lowers.routines k y there)

  -- no variable is the program's own
  none_here : (variables_of core (length mir.routines)).count ≡ 0
  none_here =
      let past : length core.routines ≤ length mir.routines = let same = lowers.number in omega (arith, same) in
      ap (λ o. (variables_in o).count) (slice_get_past core.routines (length mir.routines) past)

  -- the closing, where there is one
  closing_less : (stack : ℕ) → most_bytes (closing_routines core mir stack) ≤ 652 + 480 * length core.units
  closing_less stack = by (has_closing core)
    where
      by : (b : Bool) → most_bytes (if b then closing_routine core mir stack ∷ [] else []) ≤ 652 + 480 * length core.units
      by false = omega arith
      by true =
          let weight = closing_weight core mir stack in
          let few = finalizations_few core.units in
          omega (arith, weight, few)

  -- each literal of the program is among them
  taken_there : (text : List ℕ) → is_among text (all_literals core mir) ≡ true → is_among text (everything core mir counted written) ≡ true
  taken_there text h =
      let own = routine_literals core (length mir.routines) mir.program in
      let routines = routines_literals core 0 mir.routines in
      elim (among_cases text (fixed_literals ++ routines) own h) [
        | inl front ↦
            elim (among_cases text fixed_literals routines front) [
              | inl fixed ↦ among_front text fixed_literals (line_feed ∷ (distinct (texts core) ++ rows_firsts core mir counted written core.routines)) fixed
              | inr routine ↦ row_there core mir counted written text (routines_taken core mir counted written text 0 core.routines mir.routines lowers.number rows_here own_here (all_own core core.routines sound.routines owners) routine)
            ]
        | inr last ↦
            let none = program_text (is_one text) core (length mir.routines) mir.program lowers.program in
            let some = some_counted text own last in
            absurd (omega (arith, none, some))
      ]

  pub image_less : (stack : ℕ) (settings : Settings) (better : Low) → Optimizes (low_of core mir stack) better → linked_size (select_of better) (layout_of (literals_of core mir)) settings ≤ program_size core
  unfolding select_of
  image_less stack settings better optimizes =
      let program = length mir.routines in
      let all = literals_of core mir in
      let own = low_routine core mir all program mir.program in
      let others = routines_from core mir all 0 mir.routines in
      let linked = linked_less (select_of better) (layout_of all) settings in
      let objects = objects_less better.routines in
      let thinner = thinner_routines (low_of core mir stack).routines better.routines (thins (low_of core mir stack) better optimizes) in
      let initial = ap initial_size optimizes.globals in
      let one = bytes_join (runtime_routines ++ others) (own ∷ closing_routines core mir stack) in
      let closing = closing_less stack in
      let two = bytes_join runtime_routines others in
      let runtime = runtime_less in
      let routines = routines_less core mir counted written all 0 core.routines mir.routines lowers.number rows_here own_here (all_own core core.routines sound.routines owners) in
      let summed = rows_summed core mir counted written core.routines in
      let light = (program_light core mir program all mir.program lowers.program).1 in
      let none = none_here in
      let constants = all_bytes all in
      let bodies = distinct (texts core) in
      let firsts = rows_firsts core mir counted written core.routines in
      let literals_once = distinct_less (λ l. length l) (all_literals core mir) (everything core mir counted written) taken_there in
      let three = total_join (λ l. length l) fixed_literals (line_feed ∷ (bodies ++ firsts)) in
      let four = total_join (λ l. length l) bodies firsts in
      let fixed = fixed_less in
      let text = texts_counted bodies in
      let values = firsts_sized core mir counted written core.routines in
      let globals = initial_kept core stack in
      let parts = few_parts core.units in
      omega (arith, linked, objects, thinner, initial, one, closing, two, runtime, routines, summed, light, none, constants, literals_once, three, four, fixed, text, values, globals, parts)
