-- What names stand for in an expression (Free Pascal Reference Guide, "Identifiers" and "Scope").
use Rattle.std.specs.Prelude.{ℕ, ◌+◌, ◌^◌, nat_eq, nat_lt, List, Option, Some, None, slice_get, position, if◌then◌else◌}
use Rattle.std.specs.Option.{option_and_then, option_map}
use Rattle.op_core.specs.Expression.{Expression as Tree, expression, variable, field, no_steps, then as with_step}
use Rattle.op_core.specs.FieldNames.{is_named}
use Rattle.op_core.specs.Rows.{rows}
use Rattle.op_core.specs.Sizes.{type_at}
use Rattle.op_core.specs.declared.ids.FieldId.{FieldId}
use Rattle.op_core.specs.declared.ids.RoutineId.{RoutineId}
use Rattle.op_core.specs.declared.ids.Run.{Run}
use Rattle.op_core.specs.declared.ids.TypeId.{TypeId}
use Rattle.op_core.specs.declared.ids.VariableId.{VariableId}
use Rattle.op_core.specs.declared.operation.Function.TheVariants.{Assigned}
use Rattle.op_core.specs.declared.program.Core.{Core}
use Rattle.op_core.specs.declared.routine.Variable.{Variable as VariableRow}
use Rattle.op_core.specs.declared.types.CoreType.{CoreType}
use Rattle.op_core.specs.declared.types.CoreType.TheVariants as type
use Rattle.op_core.specs.declared.types.Field.{Field}
use Rattle.op_tree.specs.declared.position.Name.{Name}
use Rattle.op_tree.specs.declared.position.Position.{Position}
use Rattle.op_judgement.specs.Judgement.{Judgement, by_entry, fine, refused, untyped, with_part}
use Rattle.op_judgement.specs.declared.rules.Feature.{Feature}
use Rattle.op_judgement.specs.declared.rules.Feature.TheVariants.{Classes, DynamicArrays, Interfaces, Strings}
use Rattle.op_judgement.specs.declared.rules.LanguageRule.TheVariants.{NoMember, UnknownName}
use Rattle.op_check_expr.specs.Parts.{by_feature}
use Rattle.op_check_expr.specs.Values.{Value, constant, computed, tree_of, type_of, value_of}
use Rattle.op_check_expr.specs.declared.denoted.Denoted.{Denoted as RustDenoted}
use Rattle.op_check_expr.specs.declared.denoted.Meant.{Meant as RustMeant}
use Rattle.op_check_expr.specs.declared.denoted.Meant.TheVariants as rust
use Rattle.op_types.specs.ConstantParts.{made, nodes}
use Rattle.op_types.specs.declared.visible.BuiltIn.{BuiltIn}
use Rattle.op_types.specs.declared.visible.BuiltIn.TheVariants.{Read, ReadLn, Eof, Eoln, SetLength, Copy, Val, Str, Pos, Delete, Insert, StringOfChar, Function, LeftOut}
use Rattle.op_types.specs.declared.visible.Meaning.{Meaning}
use Rattle.op_types.specs.declared.visible.Meaning.TheVariants as meaning

-- what a name stands for, or what is selected of it
pub data Meant : Type 0 where
  value : (v : Value) → Meant
  routine : (id : RoutineId) → Meant
  type_name : (of : TypeId) → Meant
  unit : (name : List ℕ) → Meant
  built_in : (b : BuiltIn) → Meant

-- with the name that it was last named by
pub record Denoted : Type 0 where
  pub position : Position
  pub what : Meant

abbrev pub meant_of : RustMeant → Meant
meant_of (rust.Value v) = value (value_of v)
meant_of (rust.Routine id) = routine id
meant_of (rust.TypeName of) = type_name of
meant_of (rust.Unit name) = unit name
meant_of (rust.BuiltIn b) = built_in b

abbrev pub denoted_of : RustDenoted → Denoted
denoted_of d = record { position = d.position; what = meant_of d.what }

abbrev pub denoted : Position → Meant → Denoted
denoted position what = record { position = position; what = what }

abbrev pub valued : Position → Value → Denoted
valued position v = denoted position (value v)

-- ---- features that a name shows

abbrev pub feature_of : BuiltIn → Option Feature
feature_of Read = Some Strings
feature_of ReadLn = Some Strings
feature_of Eof = Some Strings
feature_of Eoln = Some Strings
feature_of SetLength = Some Strings
feature_of Copy = Some Strings
feature_of Val = Some Strings
feature_of Str = Some Strings
feature_of Pos = Some Strings
feature_of Delete = Some Strings
feature_of Insert = Some Strings
feature_of StringOfChar = Some Strings
feature_of (Function Assigned) = Some DynamicArrays
feature_of (LeftOut feature) = Some feature
feature_of _ = None

-- strings; TObject, TInterfacedObject and IUnknown, the first classes and the first interface
abbrev pub feature_of_type : Option CoreType → Option Feature
feature_of_type (Some type.String) = Some Strings
feature_of_type (Some (type.Class id)) = if nat_eq id.0 0 then Some Classes else (if nat_eq id.0 1 then Some Interfaces else None)
feature_of_type (Some (type.Interface id)) = if nat_eq id.0 0 then Some Interfaces else None
feature_of_type _ = None

-- ---- names

abbrev pub variable_tree : VariableId → TypeId → Tree
variable_tree id of = expression (variable id) of no_steps

abbrev pub variable_named : Position → VariableId → Option VariableRow → Judgement Denoted
variable_named p id v = with_part (λ v. fine (valued p (computed (variable_tree id v.of)))) v

-- What a name stands for, spelled so at a position, by its declaration; a spoiled one is silent.
abbrev pub named : Core → List ℕ → Position → Option Meaning → Judgement Denoted
named core name p None = refused UnknownName p.place
named core name p (Some meaning.Spoiled) = untyped
named core name p (Some (meaning.Constant c)) = fine (valued p (constant (made c.value c.of (nodes 1))))
named core name p (Some (meaning.Variable id writable)) = variable_named p id (slice_get core.variables id.0)
named core name p (Some (meaning.TypeName of)) = by_feature p.place (feature_of_type (type_at core of)) (fine (denoted p (type_name of)))
named core name p (Some (meaning.Routine id)) = fine (denoted p (routine id))
named core name p (Some (meaning.Unit id)) = fine (denoted p (unit name))
named core name p (Some (meaning.BuiltIn b)) = by_feature p.place (feature_of b) (fine (denoted p (built_in b)))

-- ---- members and elements

-- the number of a row among those that lie together, where it has no more than 32 bits
abbrev pub number_at : Run → ℕ → Option ℕ
number_at run k = if nat_lt (run.first + k) (2 ^ 32) then Some (run.first + k) else None

abbrev pub field_at : List Field → Run → ℕ → Option (FieldId × TypeId)
field_at fields run k = option_and_then (λ n. option_map (λ f. (record { 0 = n }, f.of)) (slice_get fields k)) (number_at run k)

-- the field of a record by its name, with its type
abbrev pub field_named : Core → List ℕ → Option CoreType → Option (FieldId × TypeId)
field_named core name (Some (type.Record run)) = option_and_then (field_at (rows core.fields run) run) (position (is_named name) (rows core.fields run))
field_named core name _ = None

abbrev pub field_of : Core → Name → Value → Judgement Denoted
field_of core m v =
    by_entry NoMember m.position.place (λ f. fine (valued m.position (computed (with_step (tree_of v) (field f.0) f.1)))) (field_named core m.text (type_at core (type_of v)))
