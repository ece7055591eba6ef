use Rattle.std.proofs.Common.{◌≡◌, false, drop, fold, map}
use Rattle.op_core.specs.Sizes.{extended, extent_of}
use Rattle.op_core.proofs.size.in_order.Given as goal

-- the fields that are left give the whole
abbrev pub invariant-loop-field : goal.invariant-loop-field
invariant-loop-field l = fold extended l.parts (map (λ f. extent_of l.core f.of) (drop l.field-index l.fields)) ≡ fold extended (record { size = 0; alignment = 1; managed = false }) (map (λ f. extent_of l.core f.of) l.fields)
