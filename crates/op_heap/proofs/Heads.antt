-- The first words of blocks.
use Rattle.std.proofs.Common.{◌≡◌, ℕ, ◌+◌, ◌<◌, ◌≤◌, inl, inr, Bool, true, false, nat_eq, nat_lt, Some, List, [], ◌∷◌, refl, ap, sym, subst, ◌∙◌, arith}
use Rattle.std.proofs.lemmas.Bool.{cond-false, cond-true}
use Rattle.op_heap.proofs.Gaps.{none_block, some_block}
use Rattle.op_heap.specs.Frames.{ChangesIn}
use Rattle.op_heap.specs.Heap.{ArePlaced, Block, IsInside, block_named, placed, without}
use Rattle.op_heap.specs.Memory.{AreHeaded}
use Rattle.op_rv.proofs.Memory.{word_at-same}
use Rattle.op_rv.specs.State.{word_at}

pub headed_kept : (bs : List Block) (memory after : ℕ → ℕ) (kinds : ℕ → ℕ) (from past : ℕ) → ArePlaced from past bs → ((x : ℕ) → IsInside bs x → after x ≡ memory x) → AreHeaded memory kinds bs → AreHeaded after kinds bs
headed_kept [] memory after kinds from past are kept headed = tt
headed_kept (b ∷ bs) memory after kinds from past are kept headed =
    let some = are.0.some in (
      word_at-same memory after b.address (λ x at before. kept x (inl (at, omega arith))) ∙ headed.0,
      headed.1,
      headed_kept bs memory after kinds (b.address + b.size) past are.1 (λ x within. kept x (inr within)) headed.2,
    )

pub headed_placed : (bs : List Block) (memory : ℕ → ℕ) (kinds : ℕ → ℕ) (b : Block) → word_at memory b.address ≡ b.size + kinds b.name → kinds b.name < 16 → AreHeaded memory kinds bs → AreHeaded memory kinds (placed b bs)
headed_placed [] memory kinds b is kind headed = (is, kind, tt)
headed_placed (c ∷ cs) memory kinds b is kind headed = by_order (nat_lt b.address c.address) refl (headed_placed cs memory kinds b is kind headed.2)
  where
    by_order : (test : Bool) → nat_lt b.address c.address ≡ test → AreHeaded memory kinds (placed b cs) → AreHeaded memory kinds (placed b (c ∷ cs))
    by_order true before rest = subst (AreHeaded memory kinds) (sym (cond-true (nat_lt b.address c.address) (b ∷ c ∷ cs) (c ∷ placed b cs) before)) (is, kind, headed)
    by_order false after rest = subst (AreHeaded memory kinds) (sym (cond-false (nat_lt b.address c.address) (b ∷ c ∷ cs) (c ∷ placed b cs) after)) (headed.0, headed.1, rest)

pub headed_without : (bs : List Block) (memory : ℕ → ℕ) (kinds : ℕ → ℕ) (name : ℕ) → AreHeaded memory kinds bs → AreHeaded memory kinds (without name bs)
headed_without [] memory kinds name headed = tt
headed_without (c ∷ cs) memory kinds name headed = by_name (nat_eq c.name name) refl (headed_without cs memory kinds name headed.2)
  where
    by_name : (test : Bool) → nat_eq c.name name ≡ test → AreHeaded memory kinds (without name cs) → AreHeaded memory kinds (without name (c ∷ cs))
    by_name true is rest = subst (AreHeaded memory kinds) (sym (cond-true (nat_eq c.name name) cs (c ∷ without name cs) is)) headed.2
    by_name false is rest = subst (AreHeaded memory kinds) (sym (cond-false (nat_eq c.name name) cs (c ∷ without name cs) is)) (headed.0, headed.1, rest)

-- of the block of a name
pub headed_named : (bs : List Block) (memory : ℕ → ℕ) (kinds : ℕ → ℕ) (name : ℕ) (b : Block) → block_named name bs ≡ Some b → AreHeaded memory kinds bs → (word_at memory b.address ≡ b.size + kinds b.name) × (kinds b.name < 16)
headed_named [] memory kinds name b found headed = absurd (none_block b found)
headed_named (c ∷ cs) memory kinds name b found headed = by_name (nat_eq c.name name) refl (λ found. headed_named cs memory kinds name b found headed.2)
  where
    by_name : (test : Bool) → nat_eq c.name name ≡ test → (block_named name cs ≡ Some b → (word_at memory b.address ≡ b.size + kinds b.name) × (kinds b.name < 16)) → (word_at memory b.address ≡ b.size + kinds b.name) × (kinds b.name < 16)
    by_name true is later =
        let same : c ≡ b = some_block c b (sym (cond-true (nat_eq c.name name) (Some c) (block_named name cs) is) ∙ found) in
        subst (λ (b : Block). (word_at memory b.address ≡ b.size + kinds b.name) × (kinds b.name < 16)) same (headed.0, headed.1)
    by_name false is later = later (sym (cond-false (nat_eq c.name name) (Some c) (block_named name cs) is) ∙ found)

-- first words of blocks: this one's is not changed, and the others lie in front of it or behind it
pub headed_beside : (bs : List Block) (b : Block) (memory after : ℕ → ℕ) (kinds : ℕ → ℕ) (from past : ℕ) → ChangesIn b memory after → ArePlaced from past bs → block_named b.name bs ≡ Some b → AreHeaded memory kinds bs → AreHeaded after kinds bs
headed_beside [] b memory after kinds from past changes are found headed = absurd (none_block b found)
headed_beside (c ∷ cs) b memory after kinds from past changes are found headed = by_name (nat_eq c.name b.name) refl (λ found. headed_beside cs b memory after kinds (c.address + c.size) past changes are.1 found headed.2)
  where
    behind_all : (cs : List Block) (from : ℕ) → b.address + b.size ≤ from → ArePlaced from past cs → AreHeaded memory kinds cs → AreHeaded after kinds cs
    behind_all [] from less are headed = tt
    behind_all (d ∷ ds) from less are headed =
        let behind = are.0.behind in
        let some = are.0.some in
        (word_at-same memory after d.address (λ x at before. changes x (λ lower upper. omega arith)) ∙ headed.0, headed.1, behind_all ds (d.address + d.size) (omega arith) are.1 headed.2)

    named_behind : (cs : List Block) (from : ℕ) → ArePlaced from past cs → block_named b.name cs ≡ Some b → from ≤ b.address
    named_behind [] from are found = absurd (none_block b found)
    named_behind (d ∷ ds) from are found = by_test (nat_eq d.name b.name) refl (λ found. named_behind ds (d.address + d.size) are.1 found)
      where
        by_test : (test : Bool) → nat_eq d.name b.name ≡ test → (block_named b.name ds ≡ Some b → d.address + d.size ≤ b.address) → from ≤ b.address
        by_test true is later =
            let behind = are.0.behind in
            let same : d ≡ b = some_block d b (sym (cond-true (nat_eq d.name b.name) (Some d) (block_named b.name ds) is) ∙ found) in
            subst (λ (b : Block). from ≤ b.address) same behind
        by_test false is later =
            let behind = are.0.behind in
            let beyond = later (sym (cond-false (nat_eq d.name b.name) (Some d) (block_named b.name ds) is) ∙ found) in
            omega arith

    by_name : (test : Bool) → nat_eq c.name b.name ≡ test → (block_named b.name cs ≡ Some b → AreHeaded after kinds cs) → AreHeaded after kinds (c ∷ cs)
    by_name true is later =
        let same : c ≡ b = some_block c b (sym (cond-true (nat_eq c.name b.name) (Some c) (block_named b.name cs) is) ∙ found) in
        let address : c.address ≡ b.address = ap (λ (b : Block). b.address) same in
        let size : c.size ≡ b.size = ap (λ (b : Block). b.size) same in
        (word_at-same memory after c.address (λ x at before. changes x (λ lower upper. omega arith)) ∙ headed.0, headed.1, behind_all cs (c.address + c.size) (omega arith) are.1 headed.2)
    by_name false is later =
        let next : block_named b.name cs ≡ Some b = sym (cond-false (nat_eq c.name b.name) (Some c) (block_named b.name cs) is) ∙ found in
        let beyond = named_behind cs (c.address + c.size) are.1 next in
        let some = are.0.some in
        (word_at-same memory after c.address (λ x at before. changes x (λ lower upper. omega arith)) ∙ headed.0, headed.1, later next)

pub headed_within : (bs : List Block) (memory after : ℕ → ℕ) (kinds : ℕ → ℕ) (from past : ℕ) → ((x : ℕ) → from ≤ x → x < past → after x ≡ memory x) → ArePlaced from past bs → AreHeaded memory kinds bs → AreHeaded after kinds bs
headed_within [] memory after kinds from past same are headed = tt
headed_within (b ∷ bs) memory after kinds from past same are headed =
    let some = are.0.some in
    let behind = are.0.behind in
    let end = ends bs (b.address + b.size) are.1 in
    (word_at-same memory after b.address (λ x at before. same x (omega arith) (omega arith)) ∙ headed.0, headed.1, headed_within bs memory after kinds (b.address + b.size) past (λ x at before. same x (omega arith) before) are.1 headed.2)
  where
    ends : (bs : List Block) (from : ℕ) → ArePlaced from past bs → from ≤ past
    ends [] from are = are
    ends (c ∷ cs) from are =
        let behind = are.0.behind in
        let later = ends cs (c.address + c.size) are.1 in
        omega arith
