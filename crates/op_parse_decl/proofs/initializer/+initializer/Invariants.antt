use Rattle.std.proofs.Common.{◌≡◌, ◌+◌, ◌*◌, ◌≤◌, ◌<◌, ◌++◌, List, length}
use Rattle.op_parse_code.proofs.Lists.{ReadingBy}
use Rattle.op_parse_code.specs.Refusal.{Alive}
use Rattle.op_parse_decl.proofs.InitialLists.{add_field, add_item}
use Rattle.op_parse_decl.specs.Initials.{FieldsBehind, InitialsBefore}
use Rattle.op_parse_decl.specs.Refusal.{DecidesInPart}
use Rattle.op_parse_decl.specs.Types.{SomeInitial}
use Rattle.op_tree.specs.Initial.{initial_of}
use Rattle.op_tree.specs.Terminal.{Terminal, terminals}
use Rattle.op_tree.specs.declared.initializer.FieldInitializer.{FieldInitializer}
use Rattle.op_tree.specs.declared.initializer.Initializer.{Initializer}
use Rattle.op_parse_decl.proofs.initializer.+initializer.Given as goal

abbrev pub decreases-read_initial : goal.decreases-read_initial
decreases-read_initial l = 8 * length l.tokens.now + 1

abbrev pub decreases-in_brackets : goal.decreases-in_brackets
decreases-in_brackets l = 8 * length l.tokens.now

abbrev pub decreases-list_or_record : goal.decreases-list_or_record
decreases-list_or_record l = 8 * length l.tokens.now

abbrev pub decreases-items : goal.decreases-items
decreases-items l = 8 * length l.tokens.now + 2

abbrev pub decreases-fields : goal.decreases-fields
decreases-fields l = 8 * length l.tokens.now + 2

abbrev pub invariant-items-loop-behind : goal.invariant-items-loop-behind
invariant-items-loop-behind l = (read : List Initializer) × (l.items.items ≡ l.fn.items.items ++ read) × ReadingBy DecidesInPart (Alive InitialsBefore) add_item InitialsBefore l.fn.setting.left l.fn.setting.end (terminals l.fn.tokens) read (terminals l.rest) × (length l.rest ≤ length l.fn.tokens)

abbrev pub decreases-items-loop-behind : goal.decreases-items-loop-behind
decreases-items-loop-behind l = length l.rest

abbrev pub invariant-fields-loop-after : goal.invariant-fields-loop-after
invariant-fields-loop-after l = (all : List Terminal) × (read : List FieldInitializer) × SomeInitial l.fn.setting.left (initial_of l.tree) (terminals l.fn.tokens) all × (l.others.items ≡ l.fn.others.items ++ read) × ReadingBy DecidesInPart (Alive FieldsBehind) add_field FieldsBehind l.fn.setting.left l.fn.setting.end all read (terminals l.rest) × (length l.rest < length l.fn.tokens)

abbrev pub decreases-fields-loop-after : goal.decreases-fields-loop-after
decreases-fields-loop-after l = length l.rest
