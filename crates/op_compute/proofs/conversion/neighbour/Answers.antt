use Rattle.std.proofs.Common.{◌≡◌, List, ◌++◌, append_assoc, ap, ◌∙◌, to_z, of_z, to_z-of_z, w32}
use Rattle.std.proofs.lemmas.Result.{on_ok_weaker}
use Rattle.op_compute.proofs.conversion.neighbour.Goals as goal
use Rattle.op_compute.specs.Conversions.{neighbour_code, neighbour_test}
use Rattle.op_compute.specs.Ranges.{sum_with}

joined : {A : Type 0} (new between old x x' y y' : List A) → x ≡ x' → y ≡ y' → between ≡ old ++ x → new ≡ between ++ y → new ≡ old ++ (x' ++ y')
joined new between old x x' y y' r s p q = q ∙ (λ i. (p i) ++ (s i)) ∙ append_assoc old x y' ∙ ap (λ xs. old ++ (xs ++ y')) r

pub returns : goal.returns
unfolding neighbour_code
returns c =
    let distance : to_z w32 (of_z w32 c.args.distance) ≡ c.args.distance = to_z-of_z c.ranges.distance in
    let low : to_z w32 (of_z w32 c.args.low) ≡ c.args.low = to_z-of_z c.ranges.low in
    let high : to_z w32 (of_z w32 c.args.high) ≡ c.args.high = to_z-of_z c.ranges.high in
    on_ok_weaker
    c.push_sum_with.result
    (joined _ _ _ _ _ _ _
    (λ i. neighbour_test c.args.work c.args.operands.left (distance i) (low i) (high i))
    (λ i. sum_with c.args.work.first c.args.operands.to c.args.operands.left (distance i))
    c.in_ok-test_neighbour.ensures)
    c.push_sum_with.ensures
