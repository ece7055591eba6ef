-- The variables of loops (Free Pascal Reference Guide, "The For..to/downto..do statement").
use Rattle.std.specs.Prelude.{Bool, true, false, Option, Some, None, slice_get}
use Rattle.op_base.specs.declared.place.Place.{Place}
use Rattle.op_check_expr.specs.Phrases.{is_writable_variable}
use Rattle.op_check_expr.specs.Scopes.{Here}
use Rattle.op_core.specs.Sizes.{type_at}
use Rattle.op_core.specs.declared.ids.TypeId.{TypeId}
use Rattle.op_core.specs.declared.ids.VariableId.{VariableId}
use Rattle.op_core.specs.declared.program.Core.{Core}
use Rattle.op_core.specs.declared.routine.Variable.{Variable as VariableRow}
use Rattle.op_core.specs.declared.types.CoreType.{CoreType}
use Rattle.op_core.specs.declared.types.CoreType.TheVariants as type
use Rattle.op_judgement.specs.Judgement.{Judgement, by_test, fine, refused, untyped, with_part}
use Rattle.op_judgement.specs.declared.rules.LanguageRule.TheVariants.{NotOrdinal, NotWritable, UnknownName, WrongKindOfName}
use Rattle.op_tree.specs.declared.position.Name.{Name}
use Rattle.op_types.specs.Names.{lower, meaning_of}
use Rattle.op_types.specs.Operators as table
use Rattle.op_types.specs.Sorts.{sort_of}
use Rattle.op_types.specs.declared.sort.Sort.{Sort}
use Rattle.op_types.specs.declared.sort.Sort.TheVariants as sort
use Rattle.op_types.specs.declared.visible.Meaning.{Meaning}
use Rattle.op_types.specs.declared.visible.Meaning.TheVariants.{Variable, Spoiled}
use Rattle.op_check_stmt.specs.declared.variable.Counter.{Counter}

abbrev pub is_ordinal : Sort → Bool
is_ordinal (sort.Ordinal kind) = true
is_ordinal _ = false

-- the type in which values of an ordinal type are counted and compared: Integer, or the one that a subrange is of
abbrev pub host_by : TypeId → Option CoreType → TypeId
host_by of (Some (type.Integer kind)) = table.integer
host_by of (Some (type.Subrange base low high)) = base
host_by of _ = of

abbrev pub host_of : Core → TypeId → TypeId
host_of core of = host_by of (type_at core of)

-- a variable of a type that may be written, or not
abbrev pub counter_means : Core → Place → VariableId → TypeId → Bool → Judgement Counter
counter_means core place id of is_writable =
    by_test NotOrdinal place (by_test NotWritable place (fine (record { variable = id; bounds = host_of core of })) is_writable) (is_ordinal (sort_of core of))

abbrev pub counter_row : Here → Place → VariableId → Option VariableRow → Judgement Counter
counter_row here place id row = with_part (λ v. counter_means here.core place id v.of (is_writable_variable here id)) row

-- a name that is spoiled was refused where it is declared
abbrev pub counter_named : Here → Place → Option Meaning → Judgement Counter
counter_named here place None = refused UnknownName place
counter_named here place (Some Spoiled) = untyped
counter_named here place (Some (Variable id writable)) = counter_row here place id (slice_get here.core.variables id.0)
counter_named here place _ = refused WrongKindOfName place

-- what the name behind `for` stands for
abbrev pub counter : Here → Name → Judgement Counter
counter here n = counter_named here n.position.place (meaning_of here.visible (lower n.text))
