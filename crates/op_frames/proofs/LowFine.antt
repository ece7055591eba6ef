-- The low code of a program that fits may be built.
use Rattle.std.proofs.Common.{◌≡◌, ◌<◌, ◌≤◌, ℕ, zero, suc, ◌+◌, Bool, true, false, List, [], ◌∷◌, ◌++◌, length, replicate, nat_eq, nat_le, nat_lt, slice_get, slice_set, fold, flat_map, Some, refl, sym, ap, ◌∙◌, subst, arith, le_refl, append_assoc, length-append, if◌then◌else◌, sum_by, codes}
use Rattle.std.proofs.lemmas.Bool.{and_from, le-leb, ne_eqb}
use Rattle.std.proofs.lemmas.Bool.Decides.{nat_tests}
use Rattle.std.proofs.lemmas.List.{length-replicate, length-set}
use Rattle.std.proofs.lemmas.List.Concat.{flat_map-cons}
use Rattle.std.proofs.lemmas.List.Folds.{list_all-append}
use Rattle.std.proofs.lemmas.List.Sums.{sum_by-append}
use Rattle.std.specs.List.{list_all}
use Rattle.std.proofs.lemmas.Option.{slice_get_within}
use Rattle.op_base.proofs.Lists.{slice_get-behind, slice_get-front}
use Rattle.op_constants.proofs.Distinct.{among_first, among_later, number_within, program_among, routines_among}
use Rattle.op_constants.specs.Literals.{literals_of, routine_literals, routines_literals}
use Rattle.op_constants.specs.Texts.{is_among}
use Rattle.op_core.specs.declared.ids.RoutineId.{RoutineId}
use Rattle.op_core.specs.declared.ids.VariableId.{VariableId}
use Rattle.op_core.specs.declared.program.Core.{Core}
use Rattle.op_expand.specs.Calls.{has_closing, closing_number, finalizations}
use Rattle.op_expand.specs.Closing.{closing_routine, closing_routines}
use Rattle.op_places.specs.Frames.{parameters_of}
use Rattle.op_places.specs.Homes.{parameter}
use Rattle.op_expand.specs.Programs.{global_of, globals_in, low_of, no_bytes, routines_from, stack_global, with_global}
use Rattle.op_expand.specs.Routines.{low_parameters, low_routine, most_charge}
use Rattle.op_frames.proofs.ClosingFine.{closing_registers, closing_valid}
use Rattle.op_frames.proofs.CodeFine.{IsNumbered}
use Rattle.op_frames.proofs.ProgramFine.{from_valid, low_valid}
use Rattle.op_frames.specs.Fitting.{AreFitting, IsFitting, IsPart}
use Rattle.op_frames.specs.Made.{Every}
use Rattle.op_image.specs.Building.{is_buildable, is_laid_out}
use Rattle.op_layout.specs.Places.{layout_of, places_from}
use Rattle.op_link.proofs.GlobalPlaces.{size_most}
use Rattle.op_link.specs.Memory.{constants_size, globals_size, variable_size}
use Rattle.op_low.specs.Valid.{is_valid, is_valid_routine, takes}
use Rattle.op_low.specs.declared.code.Routine.{Routine as LowRoutine}
use Rattle.op_meaning.specs.Texts.{line_feed}
use Rattle.op_mir.specs.declared.code.Mir.{Mir}
use Rattle.op_mir.specs.declared.code.Routine.{Routine}
use Rattle.op_rt_text.proofs.ValidRoutines.{valid_routines}
use Rattle.op_rt_text.specs.Runtime.{runtime_routines}
use Rattle.op_rv.specs.declared.objects.GlobalVariable.{GlobalVariable}

eq_true : (a b : ℕ) → a ≡ b → nat_eq a b ≡ true
eq_true a b p = grind (arith, nat_tests)

-- ---- elements of joined lists

-- ---- the parameters of routines

pub parameters_by : (over : Bool) (core : Core) (mir : Mir) (texts : List (List ℕ)) (r : ℕ) (x : Routine) → nat_lt most_charge x.charge ≡ over → (low_routine core mir texts r x).parameters ≡ low_parameters core r
parameters_by true core mir texts r x e = rw e refl
parameters_by false core mir texts r x e = rw e refl

low_has : (core : Core) (mir : Mir) (texts : List (List ℕ)) (r : ℕ) (x : Routine) → (low_routine core mir texts r x).parameters ≡ low_parameters core r
low_has core mir texts r x = parameters_by (nat_lt most_charge x.charge) core mir texts r x refl

-- the routine that is called
from_at : (core : Core) (mir : Mir) (texts : List (List ℕ)) (xs : List Routine) (r k n : ℕ) → k < length xs → low_parameters core (r + k) ≡ n → takes (slice_get (routines_from core mir texts r xs) k) n ≡ true
from_at core mir texts [] r k n less e = absurd (omega arith)
from_at core mir texts (x ∷ xs) r zero n less e =
    let here : r + 0 ≡ r = omega arith in
    eq_true _ _ (low_has core mir texts r x ∙ ap (low_parameters core) (sym here) ∙ e)
from_at core mir texts (x ∷ xs) r (suc k) n less e =
    let less' : suc k < suc (length xs) = less in
    let next : r + 1 + k ≡ r + suc k = omega arith in
    from_at core mir texts xs (r + 1) k n (omega (arith, less')) (ap (low_parameters core) next ∙ e)

from_count : (core : Core) (mir : Mir) (texts : List (List ℕ)) (xs : List Routine) (r : ℕ) → length (routines_from core mir texts r xs) ≡ length xs
from_count core mir texts [] r = refl
from_count core mir texts (x ∷ xs) r = ap suc (from_count core mir texts xs (r + 1))

pub own_parameters : (core : Core) (f k : ℕ) → f < length core.routines → k ≡ parameters_of core f → low_parameters core f ≡ suc (suc k)
own_parameters core f k less e =
    let other : nat_eq f (length core.routines) ≡ false = ne_eqb f (length core.routines) (λ x. omega arith) in
    let same : 2 + parameters_of core f ≡ suc (suc k) = omega (arith, e) in
    ap (λ b. if b then 0 else parameter (parameters_of core f)) other ∙ same

no_parameters : (core : Core) (r : ℕ) → r ≡ length core.routines → low_parameters core r ≡ 0
no_parameters core r e = ap (λ b. if b then 0 else parameter (parameters_of core r)) (eq_true r (length core.routines) e)

-- ---- global variables

set_count : {A : Type 0} (xs : List A) (k : ℕ) (x : A) → length (slice_set xs k x) ≡ length xs
set_count xs k x = length-set xs k x

fold_count : (core : Core) (globals : List GlobalVariable) (ids : List VariableId) → length (fold (with_global core) globals ids) ≡ length globals
fold_count core globals [] = refl
fold_count core globals (v ∷ ids) =
    fold_count core (with_global core globals v) ids ∙ set_count globals v.0 (global_of core (slice_get core.variables v.0))

globals_count : (core : Core) → length (globals_in core) ≡ length core.variables
globals_count core = fold_count core (replicate (length core.variables) no_bytes) core.globals ∙ length-replicate (length core.variables) no_bytes

-- ---- literals

-- what is among all of them has its number below how many they are
each_numbered : (core : Core) (mir : Mir) (stack : ℕ) (texts : List (List ℕ)) → ((text : List ℕ) → is_among text texts ≡ true → is_among text (literals_of core mir) ≡ true) → Every (IsNumbered (low_of core mir stack) (literals_of core mir)) texts
each_numbered core mir stack [] there = tt
each_numbered core mir stack (text ∷ texts) there =
    (number_within (literals_of core mir) text (there text (among_first text texts)), each_numbered core mir stack texts (λ other h. there other (among_later other text texts h)))

places_count : (offset : ℕ) (ls : List (List ℕ)) → length (places_from offset ls) ≡ length ls
places_count offset [] = refl
places_count offset (l ∷ ls) = ap suc (places_count (offset + length l) ls)

places_small : (offset top : ℕ) (ls : List (List ℕ)) → offset + length (flat_map (λ l. l) ls) ≤ top → list_all (λ place. nat_le place.offset top) (places_from offset ls) ≡ true
places_small offset top [] less = refl
places_small offset top (l ∷ ls) less =
    let f = ap length (flat_map-cons (λ x. x) l ls) ∙ length-append l (flat_map (λ x. x) ls) in
    and_from _ _ (le-leb offset top (omega (arith, less))) (places_small (offset + length l) top ls (omega (arith, f, less)))

module _ (core : Core) (mir : Mir) (stack : ℕ) where
  from : List LowRoutine
  from = routines_from core mir (literals_of core mir) 0 mir.routines

  last : LowRoutine
  last = low_routine core mir (literals_of core mir) (length mir.routines) mir.program

  pub laid_out : is_laid_out (low_of core mir stack) (layout_of (literals_of core mir)) ≡ true
  unfolding is_laid_out
  laid_out =
      let count : length (places_from 0 (literals_of core mir)) ≡ length (literals_of core mir) = places_count 0 (literals_of core mir) in
      let size = constants_size (layout_of (literals_of core mir)) in
      let first = le-leb (low_of core mir stack).counts.literals (length (places_from 0 (literals_of core mir))) (omega (arith, count)) in
      let less : 0 + length (flat_map (λ l. l) (literals_of core mir)) ≤ size = omega arith in
      and_from _ _ (and_from _ _ (and_from _ _ (and_from _ _ (and_from _ _ (and_from _ _ first refl) refl) (places_small 0 size (literals_of core mir) less)) refl) refl) refl

  module _ (fits : AreFitting core mir) where
    -- those that every program has stand in front
    enough : 7 ≤ (low_of core mir stack).counts.literals
    enough = let last = slice_get_within (literals_of core mir) 6 (codes "Runtime error 215" ++ line_feed) refl in omega (arith, last)

    globals_there : length core.variables < length (low_of core mir stack).globals
    globals_there =
        let a = length-append (globals_in core) (stack_global stack ∷ []) in
        let b = globals_count core in
        omega (arith, a, b)

    others : (low_of core mir stack).routines ≡ runtime_routines ++ (from ++ last ∷ closing_routines core mir stack)
    unfolding from last
    others = append_assoc runtime_routines from (last ∷ closing_routines core mir stack)

    calls : (f k : ℕ) → f < length core.routines → k ≡ parameters_of core f → takes (slice_get (low_of core mir stack).routines (9 + f)) (suc (suc k)) ≡ true
    unfolding from
    calls f k less e =
        let there : f < length mir.routines = omega (arith, fits.number, less) in
        let inside : f < length from = omega (arith, from_count core mir (literals_of core mir) mir.routines 0, there) in
        let zero_f : 0 + f ≡ f = omega arith in
        let own = from_at core mir (literals_of core mir) mir.routines 0 f (suc (suc k)) there (ap (low_parameters core) zero_f ∙ own_parameters core f k less e) in
        let at : slice_get (low_of core mir stack).routines (9 + f) ≡ slice_get from f = ap (λ rs. slice_get rs (9 + f)) others ∙ slice_get-behind runtime_routines (from ++ last ∷ closing_routines core mir stack) f ∙ slice_get-front from (last ∷ closing_routines core mir stack) f inside in
        subst (λ o. takes o (suc (suc k)) ≡ true) (sym at) own

    begins : takes (slice_get (low_of core mir stack).routines (9 + length mir.routines)) 0 ≡ true
    unfolding from last
    begins =
        let count : length from + 0 ≡ length mir.routines = omega (arith, from_count core mir (literals_of core mir) mir.routines 0) in
        let there = subst (λ k. slice_get (from ++ last ∷ closing_routines core mir stack) k ≡ Some last) count (slice_get-behind from (last ∷ closing_routines core mir stack) 0) in
        let at : slice_get (low_of core mir stack).routines (9 + length mir.routines) ≡ Some last = ap (λ rs. slice_get rs (9 + length mir.routines)) others ∙ slice_get-behind runtime_routines (from ++ last ∷ closing_routines core mir stack) (length mir.routines) ∙ there in
        let none : takes (Some last) 0 ≡ true = eq_true _ _ (low_has core mir (literals_of core mir) (length mir.routines) mir.program ∙ no_parameters core (length mir.routines) fits.number) in
        subst (λ o. takes o 0 ≡ true) (sym at) none

    -- the closing stands behind all other routines
    ends : has_closing core ≡ true → takes (slice_get (low_of core mir stack).routines (closing_number core)) 2 ≡ true
    unfolding from last
    ends closes =
        let closing = last ∷ closing_routines core mir stack in
        let number : closing_number core ≡ 9 + (length mir.routines + 1) = omega (arith, fits.number) in
        let count : length from + 1 ≡ length mir.routines + 1 = omega (arith, from_count core mir (literals_of core mir) mir.routines 0) in
        let there = subst (λ k. slice_get (from ++ closing) k ≡ slice_get (closing_routines core mir stack) 0) count (slice_get-behind from closing 1) in
        let at : slice_get (low_of core mir stack).routines (closing_number core) ≡ Some (closing_routine core mir stack) =
        ap (slice_get (low_of core mir stack).routines) number ∙ ap (λ rs. slice_get rs (9 + (length mir.routines + 1))) others ∙ slice_get-behind runtime_routines (from ++ closing) (length mir.routines + 1) ∙ there
        ∙ ap (λ b. slice_get (if b then closing_routine core mir stack ∷ [] else []) 0) closes in
        subst (λ o. takes o 2 ≡ true) (sym at) refl

    parts_taken : (fs : List RoutineId) → Every (IsPart core) fs → Every (λ f. takes (slice_get (low_of core mir stack).routines (9 + f.0)) 2 ≡ true) fs
    parts_taken [] are = tt
    parts_taken (f ∷ fs) are = (calls f.0 0 are.0.0 (sym are.0.1), parts_taken fs are.1)

    -- it takes four registers
    pub closing_small : (closing_routine core mir stack).registers ≤ 4
    closing_small = closing_registers (low_of core mir stack) core mir stack globals_there enough (parts_taken (finalizations core) fits.parts)

    closing_there : list_all (is_valid_routine (low_of core mir stack)) (closing_routines core mir stack) ≡ true
    closing_there = by (has_closing core)
      where
        by : (b : Bool) → list_all (is_valid_routine (low_of core mir stack)) (if b then closing_routine core mir stack ∷ [] else []) ≡ true
        by false = refl
        by true = and_from _ true (closing_valid (low_of core mir stack) core mir stack globals_there enough (parts_taken (finalizations core) fits.parts)) refl

    pub valid : is_valid (low_of core mir stack) ≡ true
    unfolding is_valid from last
    valid =
        let low = low_of core mir stack in
        let zeros = valid_routines low (from ++ last ∷ closing_routines core mir stack) others (omega (arith, enough)) in
        let own = from_valid low core mir fits.sizes (from ++ last ∷ closing_routines core mir stack) others globals_there enough calls ends mir.routines 0 (literals_of core mir) (λ k x e. let zero_k : 0 + k ≡ k = omega arith in subst (λ j. IsFitting core j x) (sym zero_k) (fits.routines k x e)) (each_numbered core mir stack (routines_literals core 0 mir.routines) (routines_among core mir)) in
        let program = low_valid low core mir fits.sizes (from ++ last ∷ closing_routines core mir stack) others globals_there enough calls ends (length mir.routines) (literals_of core mir) mir.program fits.program (each_numbered core mir stack (routine_literals core (length mir.routines) mir.program) (program_among core mir)) in
        let front = list_all-append (is_valid_routine low) runtime_routines from ∙ and_from _ _ zeros own in
        let all = list_all-append (is_valid_routine low) (runtime_routines ++ from) (last ∷ closing_routines core mir stack) ∙ and_from _ _ front (and_from _ _ program closing_there) in
        and_from _ _ begins all

    -- what lies between global variables takes no more than three quarters of their bytes
    pub buildable : sum_by variable_size (globals_in core) ≤ 8388608 → is_buildable (low_of core mir stack) (layout_of (literals_of core mir)) ≡ true
    unfolding is_buildable
    buildable small =
        let a = sum_by-append variable_size (globals_in core) (stack_global stack ∷ []) in
        let b : 0 + variable_size (stack_global stack) ≡ 4 = refl in
        let most = size_most (low_of core mir stack).globals in
        and_from _ _ (and_from _ _ valid laid_out) (le-leb (globals_size (low_of core mir stack).globals) 15728640 (omega (arith, a, b, small, most)))
