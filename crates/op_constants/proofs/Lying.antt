-- What loads, stores and copies of bytes are to values.
use Rattle.std.proofs.Common.{◌≡◌, ◌<◌, ◌≤◌, ℕ, suc, ◌+◌, ◌*◌, ◌^◌, List, [], ◌∷◌, ◌++◌, true, false, nat_eq, sym, ap, ap₂, ◌∙◌, subst, arith, inl, inr}
use Rattle.std.specs.Prelude.{◌⊎◌, if◌then◌else◌}
use Rattle.std.proofs.lemmas.Bool.{cases_eq, cases_lt}
use Rattle.std.proofs.lemmas.Bool.Decides.{nat_tests}
use Rattle.op_core.specs.Sizes.{integer_size}
use Rattle.op_core.specs.declared.types.IntegerKind.{IntegerKind}
use Rattle.op_core.specs.declared.types.IntegerKind.TheVariants.{Signed8, Unsigned8, Signed16, Unsigned16, Signed32}
use Rattle.op_meaning.specs.Values.{Value, part_of, get, put}
use Rattle.op_rv.specs.Operation.{signed, extended_byte, extended_half}
use Rattle.op_rv.specs.Step.{load_value}
use Rattle.op_constants.specs.Lies.{Arrangement, one_number, in_parts, bytes_in, IsArranged, IsAligned, Lies, Leads, load_op}

-- ---- parts

-- a part lies where its path leads
pub part_lies : (l to : Arrangement) (path : List ℕ) (v : Value) (memory : ℕ → ℕ) (a d : ℕ) → Leads l path to d → Lies l v memory a → Lies to (get path v) memory (a + d)
part_lies l to [] v memory a d (same, none) lies =
    let at : a ≡ a + d = omega arith in
    subst (Lies to v memory) at (subst (λ l. Lies l v memory a) same lies)
part_lies (one_number kind) to (k ∷ path) v memory a d leads lies = absurd leads
part_lies (in_parts size count offset part) to (k ∷ path) v memory a d (low, e, far, leads) lies =
    let at : a + offset k + e ≡ a + d = omega arith in
    subst (Lies to (get path (part_of k v)) memory) at (part_lies (part k) to path (part_of k v) memory (a + offset k) e leads (lies k low))

-- a part is arranged, lies within, and is aligned where the whole is
pub leads_arranged : (l to : Arrangement) (path : List ℕ) (d : ℕ) → IsArranged l → Leads l path to d → IsArranged to
leads_arranged l to [] d is (same, none) = subst IsArranged same is
leads_arranged (one_number kind) to (k ∷ path) d is leads = absurd leads
leads_arranged (in_parts size count offset part) to (k ∷ path) d is (low, e, far, leads) = leads_arranged (part k) to path e (is.0 k low).0 leads

pub leads_within : (l to : Arrangement) (path : List ℕ) (d : ℕ) → IsArranged l → Leads l path to d → d + bytes_in to ≤ bytes_in l
leads_within l to [] d is (same, none) = let e = ap bytes_in same in omega arith
leads_within (one_number kind) to (k ∷ path) d is leads = absurd leads
leads_within (in_parts size count offset part) to (k ∷ path) d is (low, e, far, leads) =
    let inner = leads_within (part k) to path e (is.0 k low).0 leads in
    let room = (is.0 k low).1 in
    omega arith

pub leads_aligned : (l to : Arrangement) (path : List ℕ) (a d : ℕ) → IsAligned l a → Leads l path to d → IsAligned to (a + d)
leads_aligned l to [] a d is (same, none) =
    let at : a ≡ a + d = omega arith in
    subst (IsAligned to) at (subst (λ l. IsAligned l a) same is)
leads_aligned (one_number kind) to (k ∷ path) a d is leads = absurd leads
leads_aligned (in_parts size count offset part) to (k ∷ path) a d is (low, e, far, leads) =
    let at : a + offset k + e ≡ a + d = omega arith in
    subst (IsAligned to) at (leads_aligned (part k) to path (a + offset k) e (is k low) leads)

-- a path behind a path
pub leads_on : (l m to : Arrangement) (path more : List ℕ) (d e : ℕ) → Leads l path m d → Leads m more to e → Leads l (path ++ more) to (d + e)
leads_on l m to [] more d e (same, none) leads =
    let far : e ≡ d + e = omega arith in
    subst (Leads l more to) far (subst (λ l. Leads l more to e) (sym same) leads)
leads_on (one_number kind) m to (k ∷ path) more d e leads further = absurd leads
leads_on (in_parts size count offset part) m to (k ∷ path) more d e (low, x, far, leads) further =
    (low, x + e, omega arith, leads_on (part k) m to path more x e leads further)

-- ---- the same bytes are the same value

pub number-same : (kind : IntegerKind) (old new : ℕ → ℕ) (a b : ℕ) → ((x : ℕ) → x < integer_size kind → new (b + x) ≡ old (a + x)) → load_value (load_op kind) new b ≡ load_value (load_op kind) old a
number-same kind old new a b same = by kind same
  where
    first : (n : ℕ) → ((x : ℕ) → x < suc n → new (b + x) ≡ old (a + x)) → new b ≡ old a
    first n same = let at : b ≡ b + 0 = omega arith in let from : a + 0 ≡ a = omega arith in ap new at ∙ same 0 (omega arith) ∙ ap old from

    by : (k : IntegerKind) → ((x : ℕ) → x < integer_size k → new (b + x) ≡ old (a + x)) → load_value (load_op k) new b ≡ load_value (load_op k) old a
    by Signed8 same = ap extended_byte (first 0 same)
    by Unsigned8 same = first 0 same
    by Signed16 same = ap₂ (λ i j. extended_half (i + 2 ^ 8 * j)) (first 1 same) (same 1 (omega arith))
    by Unsigned16 same = ap₂ (λ i j. i + 2 ^ 8 * j) (first 1 same) (same 1 (omega arith))
    by Signed32 same =
        let b0 = first 3 same in
        let b1 = same 1 (omega arith) in
        let b2 = same 2 (omega arith) in
        let b3 = same 3 (omega arith) in
        omega arith

-- there or elsewhere
pub copied : (l : Arrangement) (v : Value) (old new : ℕ → ℕ) (a b : ℕ) → IsArranged l → ((x : ℕ) → x < bytes_in l → new (b + x) ≡ old (a + x)) → Lies l v old a → Lies l v new b
copied (one_number kind) v old new a b is same lies = lies ∙ ap signed (sym (number-same kind old new a b same))
copied (in_parts size count offset part) v old new a b is same lies = λ k low.
    let room = (is.0 k low).1 in
    copied (part k) (part_of k v) old new (a + offset k) (b + offset k) (is.0 k low).0 (λ x small. inner k x small room) (lies k low)
  where
    inner : (k x : ℕ) → x < bytes_in (part k) → offset k + bytes_in (part k) ≤ size → new (b + offset k + x) ≡ old (a + offset k + x)
    inner k x small room =
        let to : b + offset k + x ≡ b + (offset k + x) = omega arith in
        let from : a + (offset k + x) ≡ a + offset k + x = omega arith in
        ap new to ∙ same (offset k + x) (omega arith) ∙ ap old from

-- bytes elsewhere do not matter
pub kept : (l : Arrangement) (v : Value) (old new : ℕ → ℕ) (a : ℕ) → IsArranged l → ((x : ℕ) → a ≤ x → x < a + bytes_in l → new x ≡ old x) → Lies l v old a → Lies l v new a
kept l v old new a is same lies = copied l v old new a a is (λ x small. same (a + x) (omega arith) (omega arith)) lies

-- ---- a part is put

-- where the bytes of a part become those of another value, that is put there, and the rest stays
pub put_lies : (l to : Arrangement) (path : List ℕ) (v w : Value) (old new : ℕ → ℕ) (a d : ℕ) → IsArranged l → Leads l path to d → ((x : ℕ) → (x < a + d) ⊎ (a + d + bytes_in to ≤ x) → new x ≡ old x) → Lies to w new (a + d) → Lies l v old a → Lies l (put path w v) new a
put_lies l to [] v w old new a d is (same, none) outside there lies =
    let at : a + d ≡ a = omega arith in
    subst (λ l. Lies l w new a) (sym same) (subst (Lies to w new) at there)
put_lies (one_number kind) to (k ∷ path) v w old new a d is leads outside there lies = absurd leads
put_lies (in_parts size count offset part) to (k ∷ path) v w old new a d is (low, e, far, leads) outside there lies =
    let at : a + d ≡ a + offset k + e = omega arith in
    let here = put_lies (part k) to path (part_of k v) w old new (a + offset k) e (is.0 k low).0 leads (λ x far. outside x (subst (λ b. (x < b) ⊎ (b + bytes_in to ≤ x)) (sym at) far)) (subst (Lies to w new) at there) (lies k low) in
    λ j below. by here (leads_within (part k) to path e (is.0 k low).0 leads) j below (cases_eq j k) (cases_lt j k)
  where
    new_part : Value
    new_part = put path w (part_of k v)

    by : Lies (part k) new_part new (a + offset k) → e + bytes_in to ≤ bytes_in (part k) → (j : ℕ) → j < count → (j ≡ k) ⊎ (j ≡ k → ⊥) → (j < k) ⊎ (k ≤ j) → Lies (part j) (if nat_eq j k then new_part else part_of j v) new (a + offset j)
    by here inside j below (inl same) order =
        let t : nat_eq j k ≡ true = grind (arith, nat_tests) in
        rw t (subst (λ i. Lies (part i) new_part new (a + offset i)) (sym same) here)
    by here inside j below (inr other) (inl before) =
        let t : nat_eq j k ≡ false = grind (arith, nat_tests) in
        let apart = is.1 j k before low in
        rw t (kept (part j) (part_of j v) old new (a + offset j) (is.0 j below).0 (λ x lower upper. outside x (inl (omega arith))) (lies j below))
    by here inside j below (inr other) (inr after) =
        let t : nat_eq j k ≡ false = grind (arith, nat_tests) in
        let order : k < j = omega arith in
        let apart = is.1 k j order below in
        rw t (kept (part j) (part_of j v) old new (a + offset j) (is.0 j below).0 (λ x lower upper. outside x (inr (omega arith))) (lies j below))
