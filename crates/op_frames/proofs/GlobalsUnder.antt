-- Global variables have no more bytes than a program may have in them.
use Rattle.std.proofs.Common.{◌≡◌, ◌≤◌, ℕ, zero, suc, ◌+◌, List, [], ◌∷◌, length, replicate, fold, flat_map, option_to_list, Option, Some, None, slice_get, slice_set, option_map, refl, ap, ◌∙◌, arith, ◌-◌, min, take, length-append, length-take, Bool, true, false, if◌then◌else◌}
use Rattle.std.proofs.lemmas.List.Concat.{flat_map-cons}
use Rattle.std.proofs.lemmas.List.Sums.{sum_by-append, sum_by-cons}
use Rattle.std.specs.List.{sum_by}
use Rattle.std.proofs.lemmas.List.{length-replicate}
use Rattle.op_constants.proofs.FirstRows.{first-length}
use Rattle.op_constants.specs.FirstBytes.{first_bytes, fitted, are_zeros}
use Rattle.op_constants.specs.Offsets.{size_in}
use Rattle.op_core.specs.Initial.{FirstValue, first_value_of, constant, parts}
use Rattle.op_core.specs.Sound.{IsSound, bytes_of, globals_of}
use Rattle.op_core.specs.declared.ids.TypeId.{TypeId}
use Rattle.op_core.specs.declared.ids.VariableId.{VariableId}
use Rattle.op_core.specs.declared.program.Core.{Core}
use Rattle.op_core.specs.declared.routine.Variable.{Variable}
use Rattle.op_expand.specs.Programs.{global_of, globals_in, no_bytes, with_global, global_with}
use Rattle.op_link.specs.Memory.{variable_size}
use Rattle.op_rv.specs.declared.objects.GlobalVariable.{GlobalVariable}

-- ---- values

-- also where it begins as zero
pub size_with : (bytes : List ℕ) → variable_size (global_with bytes) ≡ length bytes
size_with bytes = by (are_zeros bytes)
  where
    by : (zeros : Bool) → variable_size (if zeros then record { initial = []; zeros = length bytes } else record { initial = bytes; zeros = 0 }) ≡ length bytes
    by true = let none : 0 + length bytes ≡ length bytes = omega arith in none
    by false = let none : length bytes + 0 ≡ length bytes = omega arith in none

size_of_row : (core : Core) (v : Variable) → variable_size (global_of core (Some v)) ≡ size_in core v.of
size_of_row core v = by (option_map (λ i. first_value_of i.value) v.first_value) refl
  where
    by : (o : Option FirstValue) → option_map (λ i. first_value_of i.value) v.first_value ≡ o → variable_size (global_of core (Some v)) ≡ size_in core v.of
    by None e = let zero_size : 0 + size_in core v.of ≡ size_in core v.of = omega arith in rw e zero_size
    by (Some value) e =
        let count = first-length core v.of value in
        let sum : variable_size (global_with (first_bytes core v.of value)) ≡ size_in core v.of = size_with (first_bytes core v.of value) ∙ count in
        rw e sum

row_size : (core : Core) (o : Option Variable) → variable_size (global_of core o) ≡ sum_by (λ v. size_in core v.of) (option_to_list o)
row_size core None = refl
row_size core (Some v) = let b = size_of_row core v in let all : variable_size (global_of core (Some v)) ≡ 0 + size_in core v.of = omega (arith, b) in all

-- ---- tables

set_sum : (f : GlobalVariable → ℕ) (xs : List GlobalVariable) (k : ℕ) (x : GlobalVariable) → sum_by f (slice_set xs k x) ≤ sum_by f xs + f x
set_sum f [] k x = let e : 0 ≤ 0 + f x = omega arith in e
set_sum f (y ∷ ys) zero x =
    let a = sum_by-cons f x ys in
    let b = sum_by-cons f y ys in
    let goal : sum_by f (x ∷ ys) ≤ sum_by f (y ∷ ys) + f x = omega (arith, a, b) in
    goal
set_sum f (y ∷ ys) (suc k) x =
    let a = sum_by-cons f y (slice_set ys k x) in
    let b = sum_by-cons f y ys in
    let c = set_sum f ys k x in
    let goal : sum_by f (y ∷ slice_set ys k x) ≤ sum_by f (y ∷ ys) + f x = omega (arith, a, b, c) in
    goal

nothing_more : (a : ℕ) → a ≤ a + 0
nothing_more a = omega arith

rows_sum : (core : Core) (globals : List GlobalVariable) (ids : List VariableId) → sum_by variable_size (fold (with_global core) globals ids) ≤ sum_by variable_size globals + sum_by (λ v. size_in core v.of) (flat_map (λ v. option_to_list (slice_get core.variables v.0)) ids)
rows_sum core globals [] = nothing_more (sum_by variable_size globals)
rows_sum core globals (id ∷ ids) =
    let row = slice_get core.variables id.0 in
    let rest = rows_sum core (with_global core globals id) ids in
    let here = set_sum variable_size globals id.0 (global_of core row) in
    let mine = row_size core row in
    let more = ap (sum_by (λ v. size_in core v.of)) (flat_map-cons (λ v. option_to_list (slice_get core.variables v.0)) id ids) ∙ sum_by-append (λ v. size_in core v.of) (option_to_list row) (flat_map (λ v. option_to_list (slice_get core.variables v.0)) ids) in
    step (sum_by variable_size (fold (with_global core) globals (id ∷ ids))) (sum_by variable_size (with_global core globals id)) (sum_by variable_size globals) (variable_size (global_of core row)) (sum_by (λ v. size_in core v.of) (option_to_list row)) (sum_by (λ v. size_in core v.of) (flat_map (λ v. option_to_list (slice_get core.variables v.0)) ids)) (sum_by (λ v. size_in core v.of) (flat_map (λ v. option_to_list (slice_get core.variables v.0)) (id ∷ ids))) rest here mine more
  where
    step : (all next old one mine rest whole : ℕ) → all ≤ next + rest → next ≤ old + one → one ≡ mine → whole ≡ mine + rest → all ≤ old + whole
    step all next old one mine rest whole a b c d = omega (arith, a, b, c, d)

empty_sum : (n : ℕ) → sum_by variable_size (replicate n no_bytes) ≡ 0
empty_sum zero = refl
empty_sum (suc n) =
    let a = sum_by-cons variable_size no_bytes (replicate n no_bytes) in
    let b : sum_by variable_size (no_bytes ∷ replicate n no_bytes) ≡ 0 + sum_by variable_size (replicate n no_bytes) = a in
    let c = empty_sum n in
    b ∙ ap (λ k. 0 + k) c

-- the bytes of global variables are those of their values
globals_under : (core : Core) → sum_by variable_size (globals_in core) ≤ bytes_of core (globals_of core)
globals_under core =
    let a = rows_sum core (replicate (length core.variables) no_bytes) core.globals in
    let b = empty_sum (length core.variables) in
    let a' : sum_by variable_size (globals_in core) ≤ sum_by variable_size (replicate (length core.variables) no_bytes) + bytes_of core (globals_of core) = a in
    omega (arith, a', b)

-- a sound program has at most 8,388,608 of them
pub globals_fit : (core : Core) → IsSound core → sum_by variable_size (globals_in core) ≤ 8388608
globals_fit core sound = let a = globals_under core in let b = sound.globals in omega (arith, a, b)
