-- What declarations of types, constants and variables mean (Free Pascal Reference Guide, "Types", "Constants" and "Variables").
use Rattle.std.specs.Prelude.{ℕ, ◌+◌, ◌-◌, ◌^◌, min, nat_le, false, true, ◌||◌, List, [], ◌∷◌, ◌++◌, length, is_some, Option, Some, None}
use Rattle.op_base.specs.declared.place.Place.{Place}
use Rattle.op_check_unit.specs.Denoting.{denoted}
use Rattle.op_check_unit.specs.Initials.{first}
use Rattle.op_check_unit.specs.Naming.{all_ahead, declared, ended, with_ahead}
use Rattle.op_check_unit.specs.Steps.{Here}
use Rattle.op_check_unit.specs.Types.{constant_part}
use Rattle.op_core.specs.Initial.{FirstValue}
use Rattle.op_core.specs.Sizes.{extent_of}
use Rattle.op_core.specs.declared.ids.RoutineId.{RoutineId}
use Rattle.op_core.specs.declared.ids.TypeId.{TypeId}
use Rattle.op_core.specs.declared.ids.VariableId.{VariableId}
use Rattle.op_core.specs.declared.routine.Role.{Role}
use Rattle.op_core.specs.declared.routine.Role.TheVariants.{Plain, Constant}
use Rattle.op_judgement.specs.Judgement.{refused}
use Rattle.op_judgement.specs.declared.rules.Feature.TheVariants.{Classes, Interfaces}
use Rattle.op_judgement.specs.declared.rules.LanguageRule.TheVariants.{GlobalsTooLarge, NoConstant, NotInProfile}
use Rattle.op_judgement.specs.Steps.{Step, breaks, each, followed, gives, judged, next, silent, where_true}
use Rattle.op_tree.specs.Denoter.{Denoter}
use Rattle.op_tree.specs.Declaration.{Constant as ConstantTree, TypeDeclaration, TypeDefinition, Variables, class, denotes, forward_class, forward_interface, interface}
use Rattle.op_tree.specs.Initial.{Initial, value, list, record_}
use Rattle.op_tree.specs.declared.position.Name.{Name}
use Rattle.op_types.specs.declared.constant.Constant.{Constant as Value}
use Rattle.op_types.specs.declared.visible.Meaning.{Meaning}
use Rattle.op_types.specs.declared.visible.Meaning.TheVariants.{Constant as ConstantNamed, TypeName, Variable, Spoiled}

-- ---- types

-- classes and interfaces are left out
abbrev pub defined : Name → TypeDefinition → Here → Step Here TypeId
defined own (denotes t) h = denoted (Some own) false t h
defined own forward_class h = judged h (refused (NotInProfile Classes) own.position.place)
defined own (class c) h = judged h (refused (NotInProfile Classes) own.position.place)
defined own (forward_interface i) h = judged h (refused (NotInProfile Interfaces) own.position.place)
defined own (interface i) h = judged h (refused (NotInProfile Interfaces) own.position.place)

-- a name whose declaration is broken is spoiled
abbrev pub type_meaning : Option TypeId → Meaning
type_meaning None = Spoiled
type_meaning (Some of) = TypeName of

abbrev pub type_declared : TypeDeclaration → Here → Step Here (Unit {0})
type_declared d h = followed (defined d.name d.definition (with_ahead d.name h)) (λ t h. declared d.name (type_meaning t) (ended h))

abbrev pub types_declared : List TypeDeclaration → Here → Step Here (Unit {0})
types_declared = each type_declared

-- ---- rows of variables

abbrev pub next_variable : Here → VariableId
next_variable h = record { 0 = length h.core.variables }

-- the first value of the next variable, if it has one
abbrev pub first_means : TypeId → Option Initial → Here → Step Here FirstValue
first_means of None h = silent h
first_means of (Some i) h = judged h (first h.core h.names of i)

abbrev pub with_first : Option FirstValue → Here → Here
with_first None h = h
with_first (Some v) h = record h { first_values = h.first_values ++ (next_variable h, v) ∷ [] }

-- what stands in no routine is global
abbrev with_global : Option RoutineId → VariableId → List VariableId → List VariableId
with_global None id globals = globals ++ id ∷ []
with_global (Some r) id globals = globals

-- a sum above the greatest number of 64 bits counts as that number
abbrev pub with_bytes : ℕ → ℕ → ℕ
with_bytes bytes more = min (bytes + more) (2 ^ 64 - 1)

abbrev pub with_row : Role → TypeId → Name → Here → Here
with_row role of n h = record h {
  core = record h.core {
    variables = h.core.variables ++ record { name = n; of = of; role = role; first_value = None } ∷ [];
    globals = with_global h.routine (next_variable h) h.core.globals;
  };
  bytes = with_bytes h.bytes (extent_of h.core of).size;
}

-- the most bytes that all globals may have
abbrev pub most_global_bytes : ℕ
most_global_bytes = 8388608

abbrev pub globals_fit : Place → Here → Step Here (Unit {0})
globals_fit place h = where_true (is_some h.routine || nat_le h.bytes most_global_bytes) GlobalsTooLarge place h (gives tt h)

-- a variable or typed constant, up to its name
abbrev pub row_entered : Role → TypeId → Option Initial → Name → Here → Step Here (Unit {0})
row_entered role of i n h = followed (first_means of i h) (λ v h. globals_fit n.position.place (with_row role of n (with_first v h)))

-- ---- constants

-- a constant without a type is an expression
abbrev pub value_means : Initial → Here → Step Here Value
value_means (value e) h = judged h (constant_part h.core h.names e)
value_means (list p items) h = breaks NoConstant p.place h
value_means (record_ p fields) h = breaks NoConstant p.place h

abbrev pub constant_meaning : Option Value → Meaning
constant_meaning None = Spoiled
constant_meaning (Some c) = ConstantNamed c

-- a typed constant, which is a variable that cannot be written, with a row where it has a type
abbrev pub typed_declared : Option TypeId → Initial → Name → Here → Step Here (Unit {0})
typed_declared None i n h = declared n Spoiled h
typed_declared (Some of) i n h = next (row_entered Constant of (Some i) n h) (declared n (Variable (next_variable h) false))

abbrev pub constant_by : Option Denoter → Initial → Name → Here → Step Here (Unit {0})
constant_by None i n h = followed (value_means i h) (λ c h. declared n (constant_meaning c) h)
constant_by (Some t) i n h = followed (denoted None false t (with_ahead n h)) (λ t h. typed_declared t i n (ended h))

abbrev pub constant_declared : ConstantTree → Here → Step Here (Unit {0})
constant_declared d h = constant_by d.denoter d.value d.name h

abbrev pub constants_declared : List ConstantTree → Here → Step Here (Unit {0})
constants_declared = each constant_declared

-- ---- variables

abbrev pub rows_entered : Option TypeId → Option Initial → List Name → Here → Step Here (Unit {0})
rows_entered None i ns h = gives tt h
rows_entered (Some of) i ns h = each (row_entered Plain of i) ns h

abbrev pub variable_meaning : Option TypeId → ℕ → Meaning
variable_meaning None k = Spoiled
variable_meaning (Some of) k = Variable (record { 0 = k }) true

-- names of variables, whose rows are numbered from k on
abbrev pub variables_named : Option TypeId → ℕ → List Name → Here → Step Here (Unit {0})
variables_named t k [] h = gives tt h
variables_named t k (n ∷ ns) h = next (declared n (variable_meaning t k) h) (variables_named t (k + 1) ns)

-- each of them begins with the first value
abbrev pub names_declared : Option TypeId → Option Initial → List Name → Here → Step Here (Unit {0})
names_declared t i ns h = next (rows_entered t i ns h) (variables_named t (length h.core.variables) ns)

-- variables of one type
abbrev pub one_type_declared : Variables → Here → Step Here (Unit {0})
one_type_declared v h = followed (denoted None false v.denoter (all_ahead v.names h)) (λ t h. names_declared t v.value v.names (ended h))

abbrev pub variables_declared : List Variables → Here → Step Here (Unit {0})
variables_declared = each one_type_declared
