-- What the loops of the selection keep.
use Rattle.std.proofs.Common.{◌≡◌, ℕ, zero, suc, ◌+◌, ◌-◌, ◌<◌, ◌≤◌, true, nat_le, List, [], ◌∷◌, ◌++◌, length, drop, get_or, ap, sym, ◌∙◌, append_assoc, append-nil, arith}
use Rattle.std.proofs.lemmas.List.{drop_more, drop_all}
use Rattle.std.proofs.lemmas.Bool.Decides.{nat_tests}
use Rattle.std.specs.Cmp.{first_so, second_so}
use Rattle.std.specs.List.{list_all}
use Rattle.op_low.specs.Valid.{is_sized, is_valid, is_valid_routine, most_registers}
use Rattle.op_low.specs.declared.code.Low.{Low}
use Rattle.op_low.specs.declared.code.Routine.{Routine}
use Rattle.op_low.specs.declared.ids.VirtualRegister.{VirtualRegister}
use Rattle.op_rv.specs.declared.objects.Item.{Item}
use Rattle.op_select.specs.Frames.{passed, passed_one}

-- ---- arguments

pub passed_none : (routine : Routine) (rs : List VirtualRegister) (old : List Item) → old ≡ old ++ passed routine (length rs) (drop (length rs) rs)
unfolding passed
passed_none routine rs old =
    let none : drop (length rs) rs ≡ [] = drop_all (length rs) rs (omega arith) in
    sym (ap (λ ts. old ++ passed routine (length rs) ts) none ∙ append-nil old)

pub passed_more : (routine : Routine) (rs : List VirtualRegister) (k : ℕ) (d : VirtualRegister) (old mid new : List Item) → 0 < k → k ≤ length rs → mid ≡ old ++ passed routine k (drop k rs) → new ≡ mid ++ passed_one routine (k - 1) (get_or rs (k - 1) d) → new ≡ old ++ passed routine (k - 1) (drop (k - 1) rs)
unfolding passed
passed_more routine rs k d old mid new some most before after =
    let whole : k - 1 + 1 ≡ k = omega arith in
    let one = passed_one routine (k - 1) (get_or rs (k - 1) d) in
    let more : drop (k - 1) rs ≡ get_or rs (k - 1) d ∷ drop (k - 1 + 1) rs = drop_more rs (k - 1) d (omega arith) in
    let rest : passed routine (k - 1) (drop (k - 1) rs) ≡ passed routine k (drop k rs) ++ one = ap (passed routine (k - 1)) more ∙ ap (λ n. passed routine n (drop n rs) ++ one) whole in
    after ∙ ap (λ front. front ++ one) before ∙ append_assoc old (passed routine k (drop k rs)) one ∙ sym (ap (λ back. old ++ back) rest)

-- ---- routines

sized_registers : (routine : Routine) → is_sized routine ≡ true → routine.registers ≤ most_registers
unfolding is_sized
sized_registers routine is =
    let test : nat_le routine.registers most_registers ≡ true = second_so _ _ (first_so _ _ (first_so _ _ (first_so _ _ is))) in
    grind (arith, nat_tests)

sized_in : (low : Low) (routines : List Routine) (i : ℕ) (d : Routine) → list_all (is_valid_routine low) routines ≡ true → i < length routines → (get_or routines i d).registers ≤ most_registers
unfolding is_valid_routine
sized_in low [] i d all within = absurd (omega arith)
sized_in low (r ∷ rs) zero d all within = sized_registers r (first_so _ _ (first_so _ _ all))
sized_in low (r ∷ rs) (suc i) d all within = sized_in low rs i d (second_so _ _ all) (omega arith)

pub sized_at : (low : Low) (i : ℕ) (d : Routine) → is_valid low ≡ true → i < length low.routines → (get_or low.routines i d).registers ≤ most_registers
unfolding is_valid
sized_at low i d valid within = sized_in low low.routines i d (second_so _ _ valid) within
