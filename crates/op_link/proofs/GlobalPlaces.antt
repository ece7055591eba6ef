-- Where global variables lie, and what stands there: those with bytes of their own in one stretch of memory, and the others in
-- a stretch of zeros behind it.
use Rattle.std.proofs.Common.{◌≡◌, ◌≢◌, ℕ, zero, suc, ◌+◌, ◌-◌, ◌*◌, ◌/◌, ◌%◌, ◌<◌, ◌≤◌, ◌⊎◌, inl, inr, Bool, true, false, not, cond, None, Some, List, [], ◌∷◌, ◌++◌, length, get_or, replicate, slice_get, nat_eq, nat_le, drop, drop-cons, refl, ap, sym, subst, ◌∙◌, arith, append_assoc, length-append}
use Rattle.std.proofs.lemmas.Bool.{eqb-true}
use Rattle.std.proofs.lemmas.Bool.Decides.{nat_tests}
use Rattle.std.proofs.lemmas.List.{get_or-append-add, get_or_append_left, get_or_past, length-replicate}
use Rattle.std.proofs.lemmas.List.Sums.{sum_by-cons}
use Rattle.std.specs.List.{sum_by}
use Rattle.op_rv.proofs.Memory.{get_or-zeros}
use Rattle.op_rv.specs.declared.objects.GlobalVariable.{GlobalVariable}
use Rattle.op_link.specs.Memory.{LieApart, addresses_from, begin_by, begin_of, begins_as_zero, behind_global, behind_globals, bytes_of_globals, global_bytes, globals_size, if_small, initial_size, lies_in, next_multiple, variable_size}
use Rattle.op_link.proofs.Lengths.{some_same}

-- ---- where a variable begins

-- what has so many bytes may stand at an offset
pub record Begins (size from at : ℕ) : Type 0 where
  pub least : from ≤ at
  pub most : at ≤ from + 3
  pub words : 0 < size → size % 4 ≡ 0 → at % 4 ≡ 0
  pub halves : 0 < size → size % 2 ≡ 0 → at % 2 ≡ 0
  pub room : 4 * (at + size) ≤ 4 * from + 7 * size

begins_by : (size from : ℕ) (none words halves : Bool) → nat_eq size 0 ≡ none → nat_eq (size % 4) 0 ≡ words → nat_eq (size % 2) 0 ≡ halves → Begins size from (cond none from (cond words (next_multiple 4 from) (cond halves (next_multiple 2 from) from)))
begins_by size from true words halves a b c =
    let none : size ≡ 0 = eqb-true size 0 a in
    record { least = omega arith; most = omega arith; words = λ some whole. absurd (omega arith); halves = λ some even. absurd (omega arith); room = omega arith }
begins_by size from false true halves a b c =
    let whole : size % 4 ≡ 0 = eqb-true (size % 4) 0 b in
    let some : 0 < size = grind (arith, nat_tests) in
    record { least = omega arith; most = omega arith; words = λ some whole. omega arith; halves = λ some even. omega arith; room = omega arith }
begins_by size from false false true a b c =
    let even : size % 2 ≡ 0 = eqb-true (size % 2) 0 c in
    let odd : 0 < size % 4 = grind (arith, nat_tests) in
    record { least = omega arith; most = omega arith; words = λ some whole. absurd (omega arith); halves = λ some even. omega arith; room = omega arith }
begins_by size from false false false a b c =
    let odd : 0 < size % 2 = grind (arith, nat_tests) in
    record { least = omega arith; most = omega arith; words = λ some whole. absurd (omega arith); halves = λ some even. absurd (omega arith); room = omega arith }

pub begins : (from : ℕ) (global : GlobalVariable) → Begins (variable_size global) from (begin_of from global)
unfolding begin_by
begins from global =
    let size = variable_size global in
    begins_by size from (nat_eq size 0) (nat_eq (size % 4) 0) (nat_eq (size % 2) 0) refl refl refl

-- ---- the two stretches

pub behind_there : (as_zero : Bool) (from : ℕ) (global : GlobalVariable) → lies_in as_zero global ≡ true → behind_global as_zero from global ≡ begin_of from global + variable_size global
unfolding behind_global
behind_there as_zero from global is = ap (λ b. cond b (begin_of from global + variable_size global) from) is

pub behind_other : (as_zero : Bool) (from : ℕ) (global : GlobalVariable) → lies_in as_zero global ≡ false → behind_global as_zero from global ≡ from
unfolding behind_global
behind_other as_zero from global is = ap (λ b. cond b (begin_of from global + variable_size global) from) is

pub in_zeros : (global : GlobalVariable) (b : Bool) → begins_as_zero global ≡ b → lies_in true global ≡ b
unfolding lies_in
in_zeros global b is = is

pub in_own : (global : GlobalVariable) (b : Bool) → begins_as_zero global ≡ b → lies_in false global ≡ not b
unfolding lies_in
in_own global b is = ap not is

-- a variable goes on behind it, and never back
pub behind_least : (as_zero : Bool) (from : ℕ) (global : GlobalVariable) → from ≤ behind_global as_zero from global
behind_least as_zero from global = by (lies_in as_zero global) refl
  where
    by : (b : Bool) → lies_in as_zero global ≡ b → from ≤ behind_global as_zero from global
    by true is = let begin = begins from global in let least = begin.least in let there = behind_there as_zero from global is in omega arith
    by false is = let other = behind_other as_zero from global is in omega arith

pub globals_least : (as_zero : Bool) (from : ℕ) (globals : List GlobalVariable) → from ≤ behind_globals as_zero from globals
globals_least as_zero from [] = omega arith
globals_least as_zero from (global ∷ globals) =
    let here = behind_least as_zero from global in
    let rest = globals_least as_zero (behind_global as_zero from global) globals in
    omega arith

-- the next one of a list goes no further than all that are left
pub next_least : (as_zero : Bool) (from : ℕ) (globals : List GlobalVariable) (k : ℕ) (x : GlobalVariable) → k < length globals → x ≡ get_or globals k x → behind_global as_zero from x ≤ behind_globals as_zero from (drop k globals)
next_least as_zero from globals k x there is =
    let least = globals_least as_zero (behind_global as_zero from x) (drop (suc k) globals) in
    let split : drop k globals ≡ x ∷ drop (suc k) globals = drop-cons globals k x there ∙ ap (λ y. y ∷ drop (suc k) globals) (sym is) in
    subst (λ gs. behind_global as_zero from x ≤ behind_globals as_zero from gs) (sym split) least

-- ---- what is within the room for them

pub small_is : (n : ℕ) → n ≤ 15728640 → None ≡ if_small n → ⊥
unfolding if_small
small_is n less is = by (nat_le n 15728640) refl is
  where
    by : (b : Bool) → nat_le n 15728640 ≡ b → None ≡ cond b (Some n) None → ⊥
    by true e is = absurd cc
    by false e is = let over : 15728640 < n = grind (arith, nat_tests) in absurd (omega arith)

pub small_some : (n m : ℕ) → Some m ≡ if_small n → m ≡ n
unfolding if_small
small_some n m is = by (nat_le n 15728640) is
  where
    by : (b : Bool) → Some m ≡ cond b (Some n) None → m ≡ n
    by true is = some_same m n is
    by false is = absurd cc

past_small : (n m : ℕ) → n ≤ m → None ≡ if_small n → 15728640 < m
past_small n m less is = by (nat_le n 15728640) refl
  where
    by : (b : Bool) → nat_le n 15728640 ≡ b → 15728640 < m
    by true e = let under : n ≤ 15728640 = grind (arith, nat_tests) in absurd (small_is n under is)
    by false e = let over : 15728640 < n = grind (arith, nat_tests) in omega arith

pub none_small : (n m : ℕ) → n ≤ m → None ≡ if_small n → None ≡ if_small m
unfolding if_small
none_small n m less is =
    let over = past_small n m less is in
    let test : nat_le m 15728640 ≡ false = grind (arith, nat_tests) in
    ap (λ b. cond b (Some m) None) (sym test)

pub not_small : (n m : ℕ) → n ≤ m → None ≡ if_small n → false ≡ nat_le m 15728640
not_small n m less is = let over = past_small n m less is in grind (arith, nat_tests)

-- ---- the bytes that they take

-- what a variable has in one of the two stretches
abbrev pub part_in : Bool → GlobalVariable → ℕ
part_in as_zero global = cond (lies_in as_zero global) (variable_size global) 0

abbrev pub room_in : Bool → GlobalVariable → ℕ
room_in as_zero global = cond (lies_in as_zero global) (variable_size global + 3) 0

-- with what may lie in front of it, a variable takes at most 7 / 4 of its bytes, and three more
behind_most : (as_zero : Bool) (from : ℕ) (global : GlobalVariable) → (4 * behind_global as_zero from global ≤ 4 * from + 7 * part_in as_zero global) × (behind_global as_zero from global ≤ from + room_in as_zero global)
behind_most as_zero from global = by (lies_in as_zero global) refl
  where
    by : (b : Bool) → lies_in as_zero global ≡ b → (4 * behind_global as_zero from global ≤ 4 * from + 7 * cond b (variable_size global) 0) × (behind_global as_zero from global ≤ from + cond b (variable_size global + 3) 0)
    by true is = let begin = begins from global in let room = begin.room in let most = begin.most in let there = behind_there as_zero from global is in (omega arith, omega arith)
    by false is = let other = behind_other as_zero from global is in (omega arith, omega arith)

pub globals_most : (as_zero : Bool) (from : ℕ) (globals : List GlobalVariable) → (4 * behind_globals as_zero from globals ≤ 4 * from + 7 * sum_by (part_in as_zero) globals) × (behind_globals as_zero from globals ≤ from + sum_by (room_in as_zero) globals)
globals_most as_zero from [] = (omega arith, omega arith)
globals_most as_zero from (global ∷ globals) =
    let here = behind_most as_zero from global in
    let rest = globals_most as_zero (behind_global as_zero from global) globals in
    let parts = sum_by-cons (part_in as_zero) global globals in
    let rooms = sum_by-cons (room_in as_zero) global globals in
    (omega (arith, here.0, rest.0, parts), omega (arith, here.1, rest.1, rooms))

-- a variable is in one of them
one_part : (global : GlobalVariable) → part_in false global + part_in true global ≡ variable_size global
one_part global = by (begins_as_zero global) refl
  where
    by : (b : Bool) → begins_as_zero global ≡ b → part_in false global + part_in true global ≡ variable_size global
    by true is = let own = ap (λ b. cond b (variable_size global) 0) (in_own global true is) in let zeros = ap (λ b. cond b (variable_size global) 0) (in_zeros global true is) in omega arith
    by false is = let own = ap (λ b. cond b (variable_size global) 0) (in_own global false is) in let zeros = ap (λ b. cond b (variable_size global) 0) (in_zeros global false is) in omega arith

both_parts : (globals : List GlobalVariable) → sum_by (part_in false) globals + sum_by (part_in true) globals ≡ sum_by variable_size globals
both_parts [] = refl
both_parts (global ∷ globals) =
    omega (arith, one_part global, both_parts globals, sum_by-cons (part_in false) global globals, sum_by-cons (part_in true) global globals, sum_by-cons variable_size global globals)

-- so all of them take at most 7 / 4 of their bytes
pub size_most : (globals : List GlobalVariable) → 4 * globals_size globals ≤ 7 * sum_by variable_size globals
size_most globals =
    let own = (globals_most false 0 globals).0 in
    let zeros = (globals_most true (initial_size globals) globals).0 in
    let both = both_parts globals in
    omega arith

-- ---- where they lie

-- so many bytes are within one of two stretches
abbrev pub Within : (own owned other cleared at size : ℕ) → Type 0
Within own owned other cleared at size = ((own ≤ at) × (at + size ≤ owned)) ⊎ ((other ≤ at) × (at + size ≤ cleared))

-- the offset of one of them
abbrev pub offsets_from : (own other : ℕ) → List GlobalVariable → ℕ → ℕ
offsets_from own other [] k = 0
offsets_from own other (global ∷ globals) zero = begin_of (cond (begins_as_zero global) other own) global
offsets_from own other (global ∷ globals) (suc k) = offsets_from (behind_global false own global) (behind_global true other global) globals k

pub address_is : (start own other : ℕ) (globals : List GlobalVariable) (k : ℕ) (global : GlobalVariable) → slice_get globals k ≡ Some global → get_or (addresses_from start own other globals) k 0 ≡ start + offsets_from own other globals k
address_is start own other [] k global is = absurd cc
address_is start own other (first ∷ rest) zero global is = refl
address_is start own other (first ∷ rest) (suc k) global is = address_is start (behind_global false own first) (behind_global true other first) rest k global is

first_within : (own other : ℕ) (first : GlobalVariable) (rest : List GlobalVariable) (as_zero : Bool) → begins_as_zero first ≡ as_zero → Within own (behind_globals false own (first ∷ rest)) other (behind_globals true other (first ∷ rest)) (begin_of (cond as_zero other own) first) (variable_size first)
first_within own other first rest true is =
    let least = (begins other first).least in
    let there = behind_there true other first (in_zeros first true is) in
    let rest = globals_least true (behind_global true other first) rest in
    inr (omega arith, omega arith)
first_within own other first rest false is =
    let least = (begins own first).least in
    let there = behind_there false own first (in_own first false is) in
    let rest = globals_least false (behind_global false own first) rest in
    inl (omega arith, omega arith)

within_more : (own other : ℕ) (first : GlobalVariable) (owned cleared at size : ℕ) → Within (behind_global false own first) owned (behind_global true other first) cleared at size → Within own owned other cleared at size
within_more own other first owned cleared at size (inl side) =
    let least = behind_least false own first in
    let from : behind_global false own first ≤ at = side.0 in
    inl (omega arith, side.1)
within_more own other first owned cleared at size (inr side) =
    let least = behind_least true other first in
    let from : behind_global true other first ≤ at = side.0 in
    inr (omega arith, side.1)

pub global_within : (own other : ℕ) (globals : List GlobalVariable) (k : ℕ) (global : GlobalVariable) → slice_get globals k ≡ Some global → Within own (behind_globals false own globals) other (behind_globals true other globals) (offsets_from own other globals k) (variable_size global)
global_within own other [] k global is = absurd cc
global_within own other (first ∷ rest) zero global is =
    subst (λ (global : GlobalVariable). Within own (behind_globals false own (first ∷ rest)) other (behind_globals true other (first ∷ rest)) (begin_of (cond (begins_as_zero first) other own) first) (variable_size global)) (some_same first global is) (first_within own other first rest (begins_as_zero first) refl)
global_within own other (first ∷ rest) (suc k) global is =
    let next = global_within (behind_global false own first) (behind_global true other first) rest k global is in
    within_more own other first (behind_globals false own (first ∷ rest)) (behind_globals true other (first ∷ rest)) (offsets_from (behind_global false own first) (behind_global true other first) rest k) (variable_size global) next

-- where the second stretch begins at the end of the first one, they are within both
pub lies_between : (owned cleared at size : ℕ) → owned ≤ cleared → Within 0 owned owned cleared at size → at + size ≤ cleared
lies_between owned cleared at size more (inl side) = let to : at + size ≤ owned = side.1 in omega arith
lies_between owned cleared at size more (inr side) = side.1

-- ---- each begins where it may

-- it is at a multiple of 4 if its size is one, and at an even place if its size is even
pub record IsAligned (size at : ℕ) : Type 0 where
  pub words : 0 < size → size % 4 ≡ 0 → at % 4 ≡ 0
  pub halves : 0 < size → size % 2 ≡ 0 → at % 2 ≡ 0

pub global_aligned : (own other : ℕ) (globals : List GlobalVariable) (k : ℕ) (global : GlobalVariable) → slice_get globals k ≡ Some global → IsAligned (variable_size global) (offsets_from own other globals k)
global_aligned own other [] k global is = absurd cc
global_aligned own other (first ∷ rest) zero global is =
    let begin = begins (cond (begins_as_zero first) other own) first in
    subst (λ (global : GlobalVariable). IsAligned (variable_size global) (begin_of (cond (begins_as_zero first) other own) first)) (some_same first global is) (record { words = begin.words; halves = begin.halves })
global_aligned own other (first ∷ rest) (suc k) global is = global_aligned (behind_global false own first) (behind_global true other first) rest k global is

-- ---- two of them lie apart

first_apart : (own other : ℕ) (first : GlobalVariable) (rest : List GlobalVariable) (cleared at size : ℕ) (as_zero : Bool) → begins_as_zero first ≡ as_zero → behind_globals false own (first ∷ rest) ≤ other → Within (behind_global false own first) (behind_globals false own (first ∷ rest)) (behind_global true other first) cleared at size → LieApart (begin_of (cond as_zero other own) first) (variable_size first) at size
first_apart own other first rest cleared at size true is room (inl side) =
    let least = (begins other first).least in
    let to : at + size ≤ behind_globals false own (first ∷ rest) = side.1 in
    inr (omega arith)
first_apart own other first rest cleared at size true is room (inr side) =
    let there = behind_there true other first (in_zeros first true is) in
    let from : behind_global true other first ≤ at = side.0 in
    inl (omega arith)
first_apart own other first rest cleared at size false is room (inl side) =
    let there = behind_there false own first (in_own first false is) in
    let from : behind_global false own first ≤ at = side.0 in
    inl (omega arith)
first_apart own other first rest cleared at size false is room (inr side) =
    let there = behind_there false own first (in_own first false is) in
    let more = globals_least false (behind_global false own first) rest in
    let least = behind_least true other first in
    let from : behind_global true other first ≤ at = side.0 in
    inl (omega arith)

other_first : (at size other_at other_size : ℕ) → LieApart at size other_at other_size → LieApart other_at other_size at size
other_first at size other_at other_size (inl before) = inr before
other_first at size other_at other_size (inr behind) = inl behind

pub globals_apart : (own other : ℕ) (globals : List GlobalVariable) (i j : ℕ) (a b : GlobalVariable) → behind_globals false own globals ≤ other → i ≢ j → slice_get globals i ≡ Some a → slice_get globals j ≡ Some b → LieApart (offsets_from own other globals i) (variable_size a) (offsets_from own other globals j) (variable_size b)
globals_apart own other [] i j a b room differ is_a is_b = absurd cc
globals_apart own other (first ∷ rest) zero zero a b room differ is_a is_b = absurd (differ refl)
globals_apart own other (first ∷ rest) zero (suc j) a b room differ is_a is_b =
    let at = offsets_from (behind_global false own first) (behind_global true other first) rest j in
    let within = global_within (behind_global false own first) (behind_global true other first) rest j b is_b in
    subst (λ (a : GlobalVariable). LieApart (begin_of (cond (begins_as_zero first) other own) first) (variable_size a) at (variable_size b)) (some_same first a is_a) (first_apart own other first rest (behind_globals true other (first ∷ rest)) at (variable_size b) (begins_as_zero first) refl room within)
globals_apart own other (first ∷ rest) (suc i) zero a b room differ is_a is_b =
    let at = offsets_from (behind_global false own first) (behind_global true other first) rest i in
    let within = global_within (behind_global false own first) (behind_global true other first) rest i a is_a in
    let begin = begin_of (cond (begins_as_zero first) other own) first in
    subst (λ (b : GlobalVariable). LieApart at (variable_size a) begin (variable_size b)) (some_same first b is_b) (other_first begin (variable_size first) at (variable_size a) (first_apart own other first rest (behind_globals true other (first ∷ rest)) at (variable_size a) (begins_as_zero first) refl room within))
globals_apart own other (first ∷ rest) (suc i) (suc j) a b room differ is_a is_b =
    let least = behind_least true other first in
    let whole : behind_globals false (behind_global false own first) rest ≤ other = room in
    globals_apart (behind_global false own first) (behind_global true other first) rest i j a b (omega arith) (λ same. differ (ap suc same)) is_a is_b

-- ---- what stands there

-- the bytes of a variable fill its part of the first stretch
pub length-global_bytes : (from : ℕ) (global : GlobalVariable) → from + length (global_bytes from global) ≡ behind_global false from global
unfolding global_bytes
length-global_bytes from global = by (begins_as_zero global) refl
  where
    front : List ℕ
    front = replicate (begin_of from global - from) 0

    by : (b : Bool) → begins_as_zero global ≡ b → from + length (cond b [] (front ++ global.initial ++ replicate {A = ℕ} global.zeros 0)) ≡ behind_global false from global
    by true is = let other = behind_other false from global (in_own global true is) in omega arith
    by false is =
        let there = behind_there false from global (in_own global false is) in
        let least = (begins from global).least in
        omega (arith, there, least, length-append (front ++ global.initial) (replicate {A = ℕ} global.zeros 0), length-append front global.initial, length-replicate {A = ℕ} (begin_of from global - from) 0, length-replicate {A = ℕ} global.zeros 0)

pub length-bytes_of_globals : (from : ℕ) (globals : List GlobalVariable) → from + length (bytes_of_globals from globals) ≡ behind_globals false from globals
length-bytes_of_globals from [] = omega arith
length-bytes_of_globals from (global ∷ globals) =
    omega (arith, length-append (global_bytes from global) (bytes_of_globals (behind_global false from global) globals), length-global_bytes from global, length-bytes_of_globals (behind_global false from global) globals)

-- the two stretches in memory, from an offset in either one on
pub record Filled (memory : ℕ → ℕ) (start own other : ℕ) (globals : List GlobalVariable) : Type 0 where
  pub bytes : (j : ℕ) → own + j < behind_globals false own globals → memory (start + own + j) ≡ get_or (bytes_of_globals own globals) j 0
  pub zeros : (j : ℕ) → other ≤ j → j < behind_globals true other globals → memory (start + j) ≡ 0

own_byte : (from : ℕ) (global : GlobalVariable) (j : ℕ) → begins_as_zero global ≡ false → get_or (global_bytes from global) (begin_of from global - from + j) 0 ≡ get_or global.initial j 0
unfolding global_bytes
own_byte from global j is =
    let gap = begin_of from global - from in
    let front : List ℕ = replicate gap 0 in
    let own : List ℕ = replicate global.zeros 0 in
    ap (λ b. get_or (cond b [] (front ++ global.initial ++ own)) (gap + j) 0) is
    ∙ ap (λ bytes. get_or bytes (gap + j) 0) (append_assoc front global.initial own)
    ∙ ap (λ n. get_or (front ++ (global.initial ++ own)) (n + j) 0) (sym (length-replicate {A = ℕ} gap 0))
    ∙ get_or-append-add front (global.initial ++ own) j 0
    ∙ get_or-zeros global.initial global.zeros j

no_byte : (global : GlobalVariable) (j : ℕ) → begins_as_zero global ≡ true → get_or global.initial j 0 ≡ 0
unfolding begins_as_zero
no_byte global j is =
    let none : length global.initial ≡ 0 = eqb-true (length global.initial) 0 is in
    get_or_past global.initial j 0 (omega arith)

first_begins : (memory : ℕ → ℕ) (start own other : ℕ) (first : GlobalVariable) (rest : List GlobalVariable) (j : ℕ) (as_zero : Bool) → begins_as_zero first ≡ as_zero → Filled memory start own other (first ∷ rest) → j < variable_size first → memory (start + begin_of (cond as_zero other own) first + j) ≡ get_or first.initial j 0
first_begins memory start own other first rest j true is filled before =
    let there = behind_there true other first (in_zeros first true is) in
    let least = (begins other first).least in
    let more = globals_least true (behind_global true other first) rest in
    let place : start + begin_of other first + j ≡ start + (begin_of other first + j) = omega arith in
    ap memory place ∙ filled.zeros (begin_of other first + j) (omega arith) (omega arith) ∙ sym (no_byte first j is)
first_begins memory start own other first rest j false is filled before =
    let there = behind_there false own first (in_own first false is) in
    let least = (begins own first).least in
    let more = globals_least false (behind_global false own first) rest in
    let long = length-global_bytes own first in
    let gap = begin_of own first - own in
    let place : start + begin_of own first + j ≡ start + own + (gap + j) = omega arith in
    ap memory place ∙ filled.bytes (gap + j) (omega arith) ∙ get_or_append_left (global_bytes own first) (bytes_of_globals (behind_global false own first) rest) 0 (gap + j) (omega arith) ∙ own_byte own first j is

rest_filled : (memory : ℕ → ℕ) (start own other : ℕ) (first : GlobalVariable) (rest : List GlobalVariable) → Filled memory start own other (first ∷ rest) → Filled memory start (behind_global false own first) (behind_global true other first) rest
rest_filled memory start own other first rest filled =
    let long = length-global_bytes own first in
    let part = length (global_bytes own first) in
    record {
      bytes = λ j before.
          let place : start + behind_global false own first + j ≡ start + own + (part + j) = omega arith in
          ap memory place
          ∙ filled.bytes (part + j) (omega arith)
          ∙ get_or-append-add (global_bytes own first) (bytes_of_globals (behind_global false own first) rest) j 0;
      zeros = λ j from before. let least = behind_least true other first in filled.zeros j (omega arith) before;
    }

-- a variable's bytes, and zeros behind them
pub global_begins : (memory : ℕ → ℕ) (start own other : ℕ) (globals : List GlobalVariable) (k : ℕ) (global : GlobalVariable) (j : ℕ) → Filled memory start own other globals → slice_get globals k ≡ Some global → j < variable_size global → memory (start + offsets_from own other globals k + j) ≡ get_or global.initial j 0
global_begins memory start own other [] k global j filled is before = absurd cc
global_begins memory start own other (first ∷ rest) zero global j filled is before =
    subst (λ (global : GlobalVariable). j < variable_size global → memory (start + begin_of (cond (begins_as_zero first) other own) first + j) ≡ get_or global.initial j 0) (some_same first global is) (λ before. first_begins memory start own other first rest j (begins_as_zero first) refl filled before) before
global_begins memory start own other (first ∷ rest) (suc k) global j filled is before =
    global_begins memory start (behind_global false own first) (behind_global true other first) rest k global j (rest_filled memory start own other first rest filled) is before
