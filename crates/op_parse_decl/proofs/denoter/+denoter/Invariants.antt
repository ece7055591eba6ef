use Rattle.std.proofs.Common.{◌+◌, ◌*◌, ◌≤◌, length}
use Rattle.op_parse_decl.proofs.Denoters.{Indexing}
use Rattle.op_parse_decl.proofs.Fields.{Fielding}
use Rattle.op_tree.specs.Terminal.{terminals}
use Rattle.op_parse_decl.proofs.denoter.+denoter.Given as goal

abbrev pub decreases-denoter : goal.decreases-denoter
decreases-denoter l = 8 * length l.tokens.now + 1

abbrev pub decreases-set : goal.decreases-set
decreases-set l = 8 * length l.tokens.now + 2

abbrev pub decreases-packed : goal.decreases-packed
decreases-packed l = 8 * length l.tokens.now + 4

abbrev pub decreases-array : goal.decreases-array
decreases-array l = 8 * length l.tokens.now + 5

abbrev pub decreases-indices : goal.decreases-indices
decreases-indices l = 8 * length l.tokens.now + 4

abbrev pub decreases-index_types : goal.decreases-index_types
decreases-index_types l = 8 * length l.tokens.now + 3

abbrev pub decreases-record : goal.decreases-record
decreases-record l = 8 * length l.tokens.now + 5

abbrev pub decreases-field_lists : goal.decreases-field_lists
decreases-field_lists l = 8 * length l.tokens.now + 4

abbrev pub decreases-fields_of_one_type : goal.decreases-fields_of_one_type
decreases-fields_of_one_type l = 8 * length l.tokens.now + 2

abbrev pub invariant-index_types-loop-types : goal.invariant-index_types-loop-types
invariant-index_types-loop-types l = Indexing l.fn.setting.left l.fn.setting.end (terminals l.fn.tokens) l.types.items (terminals l.rest) × (length l.rest ≤ length l.fn.tokens)

abbrev pub decreases-index_types-loop-types : goal.decreases-index_types-loop-types
decreases-index_types-loop-types l = length l.rest

abbrev pub invariant-field_lists-loop-after : goal.invariant-field_lists-loop-after
invariant-field_lists-loop-after l = Fielding l.fn.setting.left l.fn.setting.end (terminals l.fn.tokens) l.lists.items (terminals l.rest) × (length l.rest ≤ length l.fn.tokens)

abbrev pub decreases-field_lists-loop-after : goal.decreases-field_lists-loop-after
decreases-field_lists-loop-after l = length l.rest
