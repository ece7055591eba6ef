-- Parts of what stores, Read, Inc, Dec, Include and Exclude are made into, behind what was evaluated for them. (Free Pascal Reference Guide,
-- "Assignments"; reference of the unit System, "Read", "Inc", "Dec", "Include" and "Exclude".)
use Rattle.std.specs.Prelude.{ℕ, ◌+◌, Bool, [], ◌∷◌}
use Rattle.op_core.specs.declared.ids.TypeId.{TypeId}
use Rattle.op_core.specs.declared.operation.Conversion.{Conversion}
use Rattle.op_core.specs.declared.program.Core.{Core}
use Rattle.op_core.specs.declared.types.IntegerKind.TheVariants.{Signed32}
use Rattle.op_semantics.specs.Actions.{arithmetic, combine, load, primitive, single, store, take}
use Rattle.op_semantics.specs.Expressions.{Here, Now, ready, converted, held_path}
use Rattle.op_semantics.specs.Items.{Items, ◌&◌, act, acts, only, scoped, then_do}
use Rattle.op_semantics.specs.Paths.{Path}
use Rattle.op_semantics.specs.Primitives.{Operand, from_temp, value_of, in_new, in_temp, into_place, over_place}
use Rattle.op_semantics.specs.Statements.{counted_store, is_in_line, longer_by, stored_at, sum_or_difference, while_next}
use Rattle.op_semantics.specs.declared.primitive.Primitive.{Primitive}
use Rattle.op_semantics.specs.declared.primitive.Primitive.TheVariants.{IsFull, LongerLine, NewLine, TextOfLine}
use Rattle.op_tree.specs.declared.operator.Operator.{Operator}
use Rattle.op_tree.specs.declared.statement.Direction.{Direction}

-- what a primitive gives of one operand goes into a place of the type, and the old value ends
abbrev pub replaced : TypeId → Primitive → Operand → Path → ℕ → Items
replaced of p operand to old = only (scoped (record { of = of; n = old }) [] (only (act (primitive p (operand ∷ []) (into_place of to old)))))

-- a number in the first temporary is converted and goes into a place of the type
abbrev pub number_stored : Core → Conversion → TypeId → Here → ℕ → Now → Items
number_stored core c of there held place = acts (converted core c of there.temp) & stored_at core of of there ready held place

-- behind the amount, which stands behind what was there
abbrev pub counted_behind : Core → Direction → Bool → Conversion → TypeId → Here → Here → Now → Items
counted_behind core d checked c of here there now =
    acts (arithmetic (sum_or_difference d) checked there.temp there.temp (there.temp + 1) ∷ []) & acts (converted core c of there.temp)
    & counted_store core of here there now

-- behind the element, which is in the temporary behind this one
abbrev pub changed_behind : Operator → ℕ → Path → Items
changed_behind o t p = acts (single (t + 1) (t + 1) ∷ load t Signed32 p ∷ combine o t t (t + 1) ∷ store p Signed32 t ∷ [])

-- a line becomes a byte longer, and the temporary says whether it is full
abbrev pub byte_added : Path → ℕ → Items
byte_added line t =
    acts (primitive LongerLine (value_of line ∷ from_temp t ∷ []) (over_place line) ∷ take ∷ primitive IsFull (value_of line ∷ []) (in_temp t) ∷ [])

-- a line in a new temporary: its bytes, and then the text that they are
abbrev pub line_read : TypeId → ℕ → ℕ → Items
line_read of t held =
    then_do (act (primitive NewLine [] (in_new of (held + 1))))
    (while_next t (is_in_line t) (longer_by of t (held + 1)) & replaced of TextOfLine (value_of (held_path of (held + 1))) (held_path of held) (held + 2))
