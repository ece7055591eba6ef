use Rattle.std.proofs.Common.{◌≤◌, ◌+◌, ◌*◌, vec_len, reverse}
use Rattle.op_lower.specs.Made.{Completes, CompletesArms, items_made, arms_made}
use Rattle.op_lower.proofs.Sizes.{cases_size, item_size, size, turns_size}
use Rattle.op_lower.proofs.items.+items.Given as goal

-- In each loop what is left gives the whole.
abbrev pub invariant-arms-loop-case : goal.invariant-arms-loop-case
invariant-arms-loop-case l = record {
  completes : CompletesArms (arms_made l.exits l.fn.cases.items l.fn.blocks l.on) (arms_made l.exits l.cases.items l.blocks l.on) l.fn.blocks l.blocks (reverse l.reversed.items);
  smaller : cases_size l.cases.items ≤ cases_size l.fn.cases.items;
}

abbrev pub decreases-arms-loop-case : goal.decreases-arms-loop-case
decreases-arms-loop-case l = vec_len l.cases

abbrev pub invariant-code-loop-item : goal.invariant-code-loop-item
invariant-code-loop-item l = record {
  completes : Completes (items_made l.exits l.fn.items.items l.fn.blocks l.fn.now) (items_made l.exits l.items.items l.blocks l.now) l.fn.blocks l.blocks;
  smaller : size l.items.items ≤ size l.fn.items.items;
}

abbrev pub decreases-code-loop-item : goal.decreases-code-loop-item
decreases-code-loop-item l = vec_len l.items

-- A function goes down to parts, or hands what it has to one of a lower rank.
abbrev pub decreases-code : goal.decreases-code
decreases-code l = 8 * size l.items.now.items

abbrev pub decreases-code_to : goal.decreases-code_to
decreases-code_to l = 8 * size l.items.now.items + 1

abbrev pub decreases-branch : goal.decreases-branch
decreases-branch l = 8 * size l.items.now.items + 2

abbrev pub decreases-body_block : goal.decreases-body_block
decreases-body_block l = 8 * size l.body.now.items + 2

abbrev pub decreases-finally_block : goal.decreases-finally_block
decreases-finally_block l = 8 * size l.items.now.items + 2

abbrev pub decreases-code_item : goal.decreases-code_item
decreases-code_item l = 8 * item_size l.item.now + 4

abbrev pub decreases-arms : goal.decreases-arms
decreases-arms l = 8 * cases_size l.cases.now.items + 4

abbrev pub decreases-loop_blocks : goal.decreases-loop_blocks
decreases-loop_blocks l = 8 * turns_size l.turns.now + 4

abbrev pub decreases-from_head : goal.decreases-from_head
decreases-from_head l = 8 * turns_size l.turns.now + 5

abbrev pub decreases-from_body : goal.decreases-from_body
decreases-from_body l = 8 * turns_size l.turns.now + 5

abbrev pub decreases-also : goal.decreases-also
decreases-also l = 8 * size l.items.now.items + 5

abbrev pub decreases-choose : goal.decreases-choose
decreases-choose l = 8 * (size l.first.now.items + size l.otherwise.now.items) + 5

abbrev pub decreases-select : goal.decreases-select
decreases-select l = 8 * (cases_size l.cases.now.items + size l.otherwise.now.items) + 5

abbrev pub decreases-scoped : goal.decreases-scoped
decreases-scoped l = 8 * size l.items.now.items + 5

abbrev pub decreases-protect : goal.decreases-protect
decreases-protect l = 8 * (size l.items.now.items + size l.finalization.now.items) + 5
