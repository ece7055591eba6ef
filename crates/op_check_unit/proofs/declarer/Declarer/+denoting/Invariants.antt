use Rattle.std.proofs.Common.{[], drop, reverse}
use Rattle.std.specs.Option.{option_copied}
use Rattle.op_check_unit.proofs.Going.{Completes}
use Rattle.op_check_unit.specs.Steps.{here_of}
use Rattle.op_tree.specs.Lists.{denoters_of, field_lists_of}
use Rattle.op_check_unit.proofs.declarer.Declarer.+denoting.Given as goal
use Rattle.op_check_unit.specs.Denoting.{field_lists, indices}
use Rattle.op_judgement.specs.Steps.{done}

abbrev pub invariant-field_lists-loop-list : goal.invariant-field_lists-loop-list
invariant-field_lists-loop-list l = Completes (done (field_lists (option_copied l.own) (field_lists_of l.lists) l.fn.rows (here_of l.fn.self))) (done (field_lists (option_copied l.own) (field_lists_of (drop l.list-index l.lists)) l.rows (here_of l.self))) l.fn.self l.self

abbrev pub invariant-indices-loop-denoter : goal.invariant-indices-loop-denoter
invariant-indices-loop-denoter l = Completes (done (indices (option_copied l.own) [] (denoters_of l.list) (here_of l.fn.self))) (done (indices (option_copied l.own) (reverse l.types.items) (denoters_of (drop l.denoter-index l.list)) (here_of l.self))) l.fn.self l.self
