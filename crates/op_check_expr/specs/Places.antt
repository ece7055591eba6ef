-- Places that may be written, and arguments that must be such (Free Pascal Reference Guide, "Variable parameters" and
-- "Assignments").
use Rattle.std.specs.Prelude.{nat_eq, Bool, true, false, not, ◌&&◌, Option, Some, None, slice_get}
use Rattle.std.specs.List.{list_any}
use Rattle.op_base.specs.declared.place.Place.{Place}
use Rattle.op_core.specs.Expression.{Expression as Tree, expression, Root, variable}
use Rattle.op_core.specs.Roles.{is_written}
use Rattle.op_core.specs.Types.{is_one_type}
use Rattle.op_core.specs.Typing.{is_place, is_place_after, is_variable}
use Rattle.op_core.specs.Typing as typing
use Rattle.op_core.specs.declared.ids.TypeId.{TypeId}
use Rattle.op_core.specs.declared.ids.VariableId.{VariableId}
use Rattle.op_core.specs.declared.program.Core.{Core}
use Rattle.op_core.specs.declared.routine.Variable.{Variable as VariableRow}
use Rattle.op_judgement.specs.Judgement.{Judgement, by_test, fine, refused}
use Rattle.op_judgement.specs.declared.rules.LanguageRule.TheVariants.{CharacterOfString, NoVariable, NotWritable, VariableOfAnotherType}
use Rattle.op_check_expr.specs.Values.{Value, constant, computed}
use Rattle.op_check_expr.specs.declared.scope.Around.{Around}
use Rattle.op_check_expr.specs.declared.scope.Around.TheVariants.{Loop}
use Rattle.op_check_expr.specs.Scopes.{Here}

abbrev pub counts : VariableId → Around → Bool
counts id (Loop (Some counter)) = nat_eq counter.0 id.0
counts id _ = false

-- the variable of a loop round the place cannot be written
abbrev pub is_counted : Here → VariableId → Bool
is_counted s id = list_any (counts id) s.around

abbrev pub is_writable_row : Here → VariableId → Option VariableRow → Bool
is_writable_row s id None = false
is_writable_row s id (Some v) = is_written v.role && not (is_counted s id)

abbrev pub is_writable_root : Here → Root → Bool
is_writable_root s (variable id) = is_writable_row s id (slice_get s.core.variables id.0)
is_writable_root s _ = false

-- Whether steps lead from a root of this sort to a place. Where `chars` is set a character of a string is one.
abbrev pub leads : Bool → Core → Bool → Tree → Bool
leads chars core so_far (expression root of others) = is_place_after chars core of others so_far

abbrev pub root_of : Tree → Root
root_of (expression root of others) = root

abbrev pub is_writable : Here → Bool → Tree → Bool
is_writable s chars e = leads chars s.core (is_writable_root s (root_of e)) e

abbrev pub is_very : Core → TypeId → Option TypeId → Bool
is_very core from None = true
is_very core from (Some to) = is_one_type core.types from to

-- an argument at a place that must be a variable, of the very type where one is given, that may be written
abbrev pub variable_tree : Here → Place → Option TypeId → Tree → Judgement Tree
variable_tree s at to e =
    by_test NoVariable at
    (by_test VariableOfAnotherType at
    (by_test NotWritable at (by_test CharacterOfString at (fine e) (is_place false s.core e)) (is_writable s true e))
    (is_very s.core (typing.type_of e) to))
    (is_place true s.core e)

abbrev pub variable_value : Here → Place → Option TypeId → Value → Judgement Tree
variable_value s at to (computed e) = variable_tree s at to e
variable_value s at to (constant c) = refused NoVariable at

-- what is assigned to, in a statement that begins at a place
abbrev pub target_value : Here → Place → Value → Judgement Tree
target_value s at (computed e) = by_test NotWritable at (fine e) (is_writable s true e)
target_value s at (constant c) = refused NotWritable at
