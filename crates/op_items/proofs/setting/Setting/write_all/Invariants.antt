use Rattle.std.proofs.Common.{◌≡◌, drop, map}
use Rattle.op_core.specs.Statement.{item_of}
use Rattle.op_items.specs.Adding.{env_view, view_in}
use Rattle.op_items.specs.Setting.{here_view}
use Rattle.op_meaning.specs.Items.{◌&◌}
use Rattle.op_meaning.specs.Statements.{write_all}
use Rattle.op_items.proofs.setting.Setting.write_all.Given as goal

-- What is left gives the whole.
abbrev pub invariant-loop-each : goal.invariant-loop-each
invariant-loop-each l = view_in l.fn.self l.items.items & write_all (env_view l.fn.self) (here_view l.fn.here) (map item_of (drop l.each-index l.written)) ≡ view_in l.fn.self l.fn.items.items & write_all (env_view l.fn.self) (here_view l.fn.here) (map item_of l.written)
