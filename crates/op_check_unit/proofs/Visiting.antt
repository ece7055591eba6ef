-- The walk over the uses of interface parts, one step more.
use Rattle.std.proofs.Common.{◌≡◌, ℕ, suc, ◌+◌, ◌<◌, ◌≤◌, true, false, if◌then◌else◌, List, [], ◌∷◌, ◌++◌, add-one, drop, drop-cons, get_or, length, nat_eq, sym, ap, subst, ◌∙◌}
use Rattle.std.proofs.lemmas.List.{drop_all}
use Rattle.std.specs.List.{list_any}
use Rattle.op_check_unit.specs.Interfaces.{all_visited, interface_uses, unit_at, visited, visited_from}
use Rattle.op_tree.specs.File.{File}
use Rattle.op_tree.specs.declared.position.Name.{Name}

-- a unit that was reached, and one that was not
pub reached_already : (depth less : ℕ) (order : List (List ℕ)) (fs : List File) (k : ℕ) (so_far : List ℕ) → depth ≡ suc less → list_any (λ j. nat_eq j k) so_far ≡ true → so_far ≡ visited depth order fs k so_far
reached_already depth less order fs k so_far e is =
    subst (λ n. so_far ≡ visited n order fs k so_far) (sym e)
    (sym (ap (λ b. if b then so_far else all_visited (visited less order fs) order (interface_uses (unit_at order fs k)) so_far ++ k ∷ []) is))

pub reached_now : (depth less : ℕ) (order : List (List ℕ)) (fs : List File) (k : ℕ) (so_far : List ℕ) → depth ≡ suc less → list_any (λ j. nat_eq j k) so_far ≡ false → all_visited (visited less order fs) order (interface_uses (unit_at order fs k)) so_far ++ k ∷ [] ≡ visited depth order fs k so_far
reached_now depth less order fs k so_far e is =
    subst (λ n. all_visited (visited less order fs) order (interface_uses (unit_at order fs k)) so_far ++ k ∷ [] ≡ visited n order fs k so_far) (sym e)
    (sym (ap (λ b. if b then so_far else all_visited (visited less order fs) order (interface_uses (unit_at order fs k)) so_far ++ k ∷ []) is))

pub next_visit : (visit : ℕ → List ℕ → List ℕ) (order : List (List ℕ)) (k : ℕ) (so_far : List ℕ) → k < length order → visited_from visit k (drop k order) so_far ≡ visited_from visit (k + 1) (drop (k + 1) order) (visit k so_far)
next_visit visit order k so_far lt =
    let e : drop k order ≡ get_or order k [] ∷ drop (k + 1) order = rw add-one (drop-cons order k [] lt) in
    ap (λ ns. visited_from visit k ns so_far) e

pub all_done : (visit : ℕ → List ℕ → List ℕ) (order : List (List ℕ)) (names used : List Name) (k : ℕ) (mid so_far : List ℕ) → length names ≤ k → names ≡ used → all_visited visit order (drop k names) mid ≡ all_visited visit order names so_far → mid ≡ all_visited visit order used so_far
all_done visit order names used k mid so_far le e is =
    sym (ap (λ ns. all_visited visit order ns mid) (drop_all k names le)) ∙ is ∙ ap (λ ns. all_visited visit order ns so_far) e
