use Rattle.std.proofs.Common.{◌≡◌, ◌≤◌, ◌++◌, ◌+◌, ◌*◌, ℕ, length, map}
use Rattle.op_core.specs.declared.program.Core.{Core}
use Rattle.op_scopes.proofs.Sizes.{item_size, size}
use Rattle.op_semantics.specs.Candidates.{made_by}
use Rattle.op_values.specs.View.{items_view, view_temporary}
use Rattle.op_scopes.proofs.made.+made.Given as goal

-- What is left, behind what was made, gives the whole.
abbrev pub invariant-add_all-loop-last : goal.invariant-add_all-loop-last
invariant-add_all-loop-last l = record {
  completes : (core : Core) (r : ℕ) → map view_temporary l.made.items ++ made_by (items_view core r l.rest) ≡ map view_temporary l.fn.made.items ++ made_by (items_view core r l.fn.items);
  smaller : size l.rest ≤ size l.fn.items;
}

abbrev pub decreases-add_all-loop-last : goal.decreases-add_all-loop-last
decreases-add_all-loop-last l = length l.rest

-- A function goes down to parts.
abbrev pub decreases-add_all : goal.decreases-add_all
decreases-add_all l = 2 * size l.items.now

abbrev pub decreases-add : goal.decreases-add
decreases-add l = 2 * item_size l.item.now + 1
