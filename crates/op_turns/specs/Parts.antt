-- Parts of loops that count ("The For..to/downto..do statement" and "The For..in..do statement" of the Free Pascal Reference Guide).
use Rattle.std.specs.Prelude.{ℕ, ◌+◌, [], ◌∷◌}
use Rattle.op_core.specs.declared.ids.TypeId.{TypeId}
use Rattle.op_core.specs.declared.ids.VariableId.{VariableId}
use Rattle.op_core.specs.declared.operation.Conversion.{Conversion}
use Rattle.op_semantics.specs.Actions.{check, compare, contains}
use Rattle.op_semantics.specs.Expressions.{Env, Here, Now, converted, found, high_in, low_in, then_converted}
use Rattle.op_semantics.specs.Items.{Items, none, then_do, only, act, acts, body_first, choose, ◌&◌}
use Rattle.op_semantics.specs.Shapes.{type_of_variable}
use Rattle.op_semantics.specs.Statements.{at_variable, check_bound, counting, store_variable, stored_by}
use Rattle.op_tree.specs.declared.statement.Direction.{Direction}
use Rattle.op_tree.specs.declared.operator.Operator.{Operator}

-- the counter is in the temporary, and the last value in the next one: where the one passes the test beside the other, these items
abbrev pub where_turns : Operator → ℕ → Items → Items
where_turns o t first = then_do (act (compare o (t + 2) t (t + 1))) (only (choose (t + 2) first none))

-- where there is a turn, both bounds are checked
abbrev pub bounded : Env → ℕ → VariableId → Direction → Items → Items
bounded env t v d body = acts (check_bound env v t ∷ check_bound env v (t + 1) ∷ []) & only (body_first (counting t d (then_do (act (store_variable env v t)) body)))

-- a number that is in the set goes to the variable
abbrev pub member_stored : Env → ℕ → TypeId → VariableId → Conversion → Items → Items
member_stored env t base v into body =
    acts (check (low_in env.core base) (high_in env.core base) (t + 4) (t + 1) ∷ []) & acts (converted env.core into (type_of_variable env.core v.0) (t + 4))
    & only (act (store_variable env v (t + 4))) & body

-- a turn for the next number, which is in the second temporary; the set is in the first one
abbrev pub turn_of_set : Env → ℕ → TypeId → VariableId → Conversion → Items → Items
turn_of_set env t base v into body =
    then_do (act (contains (t + 4) (t + 1) t)) (only (choose (t + 4) (member_stored env t base v into body) none))

-- where an element is, and `here` is behind it: it becomes a value of the variable's type and goes into the variable
abbrev pub element_stored : Env → Here → TypeId → VariableId → Conversion → Now → Items
element_stored env here element v into now =
    let to = type_of_variable env.core v.0 in
    let g = then_converted env into element to here (found none now here.held) now in
    stored_by env.core to element here g (at_variable env g.held v)
