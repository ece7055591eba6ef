-- Parts of loops that count ("The For..to/downto..do statement" and "The For..in..do statement" of the Free Pascal Reference Guide).
use Rattle.std.specs.Prelude.{ℕ, ◌+◌, List, [], ◌∷◌}
use Rattle.op_core.specs.declared.ids.TypeId.{TypeId}
use Rattle.op_core.specs.declared.ids.VariableId.{VariableId}
use Rattle.op_core.specs.declared.operation.Conversion.{Conversion}
use Rattle.op_meaning.specs.Actions.{check, contains}
use Rattle.op_meaning.specs.Expressions.{Env, Here, past, past_whole, at_path, found, own, then_acts, converted, element_step, high_in, low_in, whole_path}
use Rattle.op_meaning.specs.Items.{Items, none, then_do, only, act, acts, body_first, choose, ◌&◌}
use Rattle.op_meaning.specs.Paths.{with_step}
use Rattle.op_meaning.specs.Shapes.{shape_of, type_of_variable}
use Rattle.op_meaning.specs.Statements.{at_variable, check_bound, counting, store_variable, stored_by}
use Rattle.op_tree.specs.declared.statement.Direction.{Direction}

-- behind both bounds, which are in the temporary and the next one, where there is a turn
abbrev pub bounded : Env → ℕ → VariableId → Direction → Items → Items
bounded env t v d body = acts (check_bound env v t ∷ check_bound env v (t + 1) ∷ []) & only (body_first (counting t d (then_do (act (store_variable env v t)) body)))

-- the element of an array whose index is in the first temporary becomes the variable
abbrev pub element_stored : Env → Here → TypeId → TypeId → VariableId → Conversion → Items
element_stored env here of element v into =
    let to = type_of_variable env.core v.0 in
    let each = own env element (past 3 (past_whole here)) (found none (at_path (with_step (element_step env.core of here.temp) (whole_path of here)))) in
    stored_by (shape_of env.core to) element (past 3 (past_whole here)) (then_acts each (converted env.core into to (here.temp + 3))) (at_variable env v)

-- a turn for the next number, which is in the second temporary; the set is in the first one
abbrev pub turn_of_set : Env → Here → TypeId → VariableId → Conversion → Items → Items
turn_of_set env here base v into body =
    let t = here.temp in
    let to = type_of_variable env.core v.0 in
    then_do (act (contains (t + 4) (t + 1) t)) (only (choose (t + 4)
    (acts (check (low_in env.core base) (high_in env.core base) (t + 4) (t + 1) ∷ []) & acts (converted env.core into to (t + 4)) & only (act (store_variable env v (t + 4))) & body)
    none))
