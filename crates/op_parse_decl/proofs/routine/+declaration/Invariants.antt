use Rattle.std.proofs.Common.{◌+◌, ◌*◌, ◌≤◌, length}
use Rattle.op_parse_decl.proofs.Combining.{Repeating}
use Rattle.op_parse_code.specs.Opening.{is_identifier}
use Rattle.op_parse_decl.specs.Begun.{Opens, RepeatsBegun}
use Rattle.op_parse_decl.specs.Combined.{Repeats}
use Rattle.op_tree.specs.Ends.{IsNot}
use Rattle.op_parse_decl.specs.Declarations.{BlockDeclaration, begins_declaration}
use Rattle.op_tree.specs.Declaration.{declaration_of}
use Rattle.op_tree.specs.Terminal.{terminals}
use Rattle.op_parse_decl.proofs.routine.+declaration.Given as goal

abbrev pub decreases-declarations : goal.decreases-declarations
decreases-declarations l = 4 * l.setting.left + 1

abbrev pub decreases-declaration : goal.decreases-declaration
decreases-declaration l = 4 * l.setting.left

abbrev pub decreases-body : goal.decreases-body
decreases-body l = 4 * l.setting.left + 2

abbrev pub invariant-declarations-loop-setting : goal.invariant-declarations-loop-setting
invariant-declarations-loop-setting l = Repeating (Repeats begins_declaration BlockDeclaration) (RepeatsBegun begins_declaration BlockDeclaration (Opens (IsNot is_identifier) BlockDeclaration)) declaration_of l.fn.setting.left l.fn.setting.end (terminals l.fn.tokens) l.items.items (terminals l.rest) × (length l.rest ≤ length l.fn.tokens)

abbrev pub decreases-declarations-loop-setting : goal.decreases-declarations-loop-setting
decreases-declarations-loop-setting l = length l.rest
