use Rattle.std.proofs.Common.{◌≡◌, drop, map}
use Rattle.std.specs.List.{list_all}
use Rattle.op_core.specs.Statement.{item_of}
use Rattle.op_plain.specs.Plain.{is_plain_item, is_short}
use Rattle.op_typing.specs.SimpleTests.{is_short_text}
use Rattle.op_plain.proofs.statement.are_plain_items.Given as goal

abbrev pub invariant-loop-each : goal.invariant-loop-each
invariant-loop-each l = record {
  texts : list_all (is_plain_item is_short_text l.core) (map item_of (drop l.each-index l.list)) ≡ list_all (is_plain_item is_short_text l.core) (map item_of l.list);
  lengths : list_all (is_plain_item is_short l.core) (map item_of (drop l.each-index l.list)) ≡ list_all (is_plain_item is_short l.core) (map item_of l.list);
}
