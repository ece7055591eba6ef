-- What is cut, and what zeros stand behind.
use Rattle.std.proofs.Common.{◌≡◌, ℕ, zero, suc, ◌+◌, ◌-◌, ◌<◌, ◌≤◌, List, [], ◌∷◌, ◌++◌, length, take, drop, replicate, refl, ap, sym, ◌∙◌, arith}
use Rattle.std.proofs.lemmas.List.{append-nil, append_assoc, drop_at, length-drop, take_all, take_at, take-append-drop}
use Rattle.op_core.specs.Initial.{FirstValue, constant, parts}
use Rattle.op_core.specs.declared.ids.TypeId.{TypeId}
use Rattle.op_core.specs.declared.program.Core.{Core}
use Rattle.op_constants.specs.FirstBytes.{content, first_bytes, fitted}
use Rattle.op_constants.specs.Offsets.{size_in}

fitted-short : (size : ℕ) (bytes : List ℕ) → length bytes ≤ size → bytes ++ replicate {A = ℕ} (size - length bytes) 0 ≡ fitted size bytes
fitted-short size bytes less = ap (λ b. b ++ replicate {A = ℕ} (size - length bytes) 0) (sym (take_all size bytes less))

fitted-long : (size : ℕ) (bytes : List ℕ) → size ≤ length bytes → take size bytes ≡ fitted size bytes
fitted-long size bytes more =
    let none : 0 ≡ size - length bytes = omega arith in
    sym (append-nil (take size bytes)) ∙ ap (λ n. take size bytes ++ replicate {A = ℕ} n 0) none

-- what stands behind a front is shorter, and zeros come behind it
pub shorter : (old : List ℕ) (begin size : ℕ) → begin ≤ length old → length old - begin < size → old ++ replicate {A = ℕ} (size - (length old - begin)) 0 ≡ take begin old ++ fitted size (drop begin old)
shorter old begin size front less =
    let many = length-drop begin old in
    ap (λ b. b ++ replicate {A = ℕ} (size - (length old - begin)) 0) (sym (take-append-drop begin old))
    ∙ append_assoc (take begin old) (drop begin old) (replicate {A = ℕ} (size - (length old - begin)) 0)
    ∙ ap (λ n. take begin old ++ (drop begin old ++ replicate {A = ℕ} (size - n) 0)) (sym many)
    ∙ ap (λ b. take begin old ++ b) (fitted-short size (drop begin old) (omega arith))

take-none : (n : ℕ) → take {A = ℕ} n [] ≡ []
take-none zero = refl
take-none (suc n) = refl

take-sum : (old : List ℕ) (begin size : ℕ) → take (begin + size) old ≡ take begin old ++ take size (drop begin old)
take-sum old zero size = ap (λ n. take n old) (omega arith)
take-sum [] (suc begin) size = take-none (suc begin + size) ∙ sym (take-none size)
take-sum (x ∷ old) (suc begin) size =
    let next : suc begin + size ≡ suc (begin + size) = omega arith in
    ap (λ n. take n (x ∷ old)) next ∙ ap (λ b. x ∷ b) (take-sum old begin size)

-- it is as long or longer, and is cut
pub longer : (old : List ℕ) (begin size : ℕ) → size ≤ length old - begin → take (begin + size) old ≡ take begin old ++ fitted size (drop begin old)
longer old begin size more =
    let many = length-drop begin old in
    take-sum old begin size ∙ ap (λ b. take begin old ++ b) (fitted-long size (drop begin old) (omega arith))

-- what was put behind a list is what is cut or has zeros behind it
pub fitted_behind : (front content : List ℕ) (size : ℕ) → take (length front) (front ++ content) ++ fitted size (drop (length front) (front ++ content)) ≡ front ++ fitted size content
fitted_behind front content size =
    ap (λ b. b ++ fitted size (drop (length front) (front ++ content))) (take_at front content (length front) refl)
    ∙ ap (λ b. front ++ fitted size b) (drop_at front content (length front) refl)

first-fitted : (core : Core) (of : TypeId) (v : FirstValue) → fitted (size_in core of) (content core of v) ≡ first_bytes core of v
first-fitted core of (constant c) = refl
first-fitted core of (parts vs) = refl

pub first_behind : (core : Core) (of : TypeId) (v : FirstValue) (front all : List ℕ) → all ≡ front ++ content core of v → take (length front) all ++ fitted (size_in core of) (drop (length front) all) ≡ front ++ first_bytes core of v
first_behind core of v front all is =
    ap (λ b. take (length front) b ++ fitted (size_in core of) (drop (length front) b)) is
    ∙ fitted_behind front (content core of v) (size_in core of)
    ∙ ap (λ b. front ++ b) (first-fitted core of v)
