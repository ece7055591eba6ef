use Rattle.std.proofs.Common.{◌≡◌, drop, length, nat_le, sum_by}
use Rattle.op_constants.proofs.texts.Texts.is_within.Given as goal

abbrev pub invariant-loop-text : goal.invariant-loop-text
invariant-loop-text l =
    nat_le (sum_by (λ k. length k.items) (drop l.text-index l.text-items)) l.room ≡ nat_le (sum_by (λ k. length k.items) l.text-items) l.fn.most
