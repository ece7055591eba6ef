use Rattle.std.proofs.Common.{◌≡◌, ◌++◌, drop, map}
use Rattle.op_core.specs.Expression.{expr_of}
use Rattle.op_core.specs.Nodes.{arguments_of, elements_of, steps_of}
use Rattle.op_items.proofs.Finding.{behind}
use Rattle.op_items.specs.Adding.{env_view, found_view, view_in}
use Rattle.op_items.specs.Setting.{here_view}
use Rattle.op_meaning.specs.Expressions.{find, find_steps, gather, pass}
use Rattle.op_meaning.specs.Items.{◌&◌}
use Rattle.op_mir.specs.View.{view_given}
use Rattle.op_items.proofs.expression.+expression.Given as goal

-- In each loop what is left gives the whole.
abbrev pub invariant-find-loop-each : goal.invariant-find-loop-each
invariant-find-loop-each l = behind (view_in l.fn.setting l.items.items) (find_steps (env_view l.fn.setting) (here_view l.fn.here) l.of (steps_of (drop l.each-index l.each-items)) (found_view l.found)) ≡ behind (view_in l.fn.setting l.fn.items.items) (find (env_view l.fn.setting) (here_view l.fn.here) (expr_of l.e))

abbrev pub invariant-gather-loop-each : goal.invariant-gather-loop-each
invariant-gather-loop-each l = view_in l.fn.setting l.items.items & gather (env_view l.fn.setting) (here_view l.fn.here) (elements_of (drop l.each-index l.elements)) ≡ view_in l.fn.setting l.fn.items.items & gather (env_view l.fn.setting) (here_view l.fn.here) (elements_of l.elements)

abbrev pub invariant-pass-loop-each : goal.invariant-pass-loop-each
invariant-pass-loop-each l = record {
  adds : view_in l.fn.setting l.items.items & (pass (env_view l.fn.setting) (here_view l.here) (arguments_of (drop l.each-index l.arguments))).items ≡ view_in l.fn.setting l.fn.items.items & (pass (env_view l.fn.setting) (here_view l.fn.here) (arguments_of l.arguments)).items;
  given : map view_given l.given.items ++ (pass (env_view l.fn.setting) (here_view l.here) (arguments_of (drop l.each-index l.arguments))).given ≡ (pass (env_view l.fn.setting) (here_view l.fn.here) (arguments_of l.arguments)).given;
}
