-- A routine has one variable more than it declares names, at most: its result.
use Rattle.std.proofs.Common.{◌≡◌, ◌≤◌, ℕ, suc, ◌+◌, true, List, [], ◌∷◌, length, length-append, map, Option, Some, None, refl, ap, arith}
use Rattle.std.proofs.lemmas.List.Elements.{All-head, All-tail}
use Rattle.std.proofs.lemmas.List.Sums.{sum_by-append, sum_by-cons}
use Rattle.std.specs.List.{All, sum_by}
use Rattle.std.specs.Option.{option_to_list}
use Rattle.op_core.specs.Rows.{rows}
use Rattle.op_core.specs.Sound.{HasRows, RoleAndType, first_rows, is_of_block, role_and_type}
use Rattle.op_core.specs.declared.ids.TypeId.{TypeId}
use Rattle.op_core.specs.declared.program.Core.{Core}
use Rattle.op_core.specs.declared.routine.Owner.TheVariants.{Unit as OfUnit}
use Rattle.op_core.specs.declared.routine.Parameter.{Parameter as ParameterRow}
use Rattle.op_core.specs.declared.routine.Role.TheVariants.{Constant, Handler, Object, Parameter, Plain, Result}
use Rattle.op_core.specs.declared.routine.Routine.{Routine as Row}
use Rattle.op_core.specs.declared.routine.Variable.{Variable}
use Rattle.op_sizes.specs.ProgramSize.{declared_by, own_names}

-- ---- the names that a routine declares

role_named : (p : RoleAndType) → is_of_block p.0 ≡ true → declared_by p.0 ≡ 1
role_named (Plain, of) e = refl
role_named (Constant, of) e = refl
role_named (Handler, of) e = refl
role_named (Parameter mode, of) e = absurd (cc e)
role_named (Object, of) e = absurd (cc e)
role_named (Result, of) e = absurd (cc e)

block_named : (ps : List RoleAndType) → All (λ p. is_of_block p.0 ≡ true) ps → length ps ≤ sum_by (λ (p : RoleAndType). declared_by p.0) ps
block_named [] all = omega arith
block_named (p ∷ ps) all =
    let here = role_named p (All-head (λ (p : RoleAndType). is_of_block p.0 ≡ true) p ps all) in
    let rest = block_named ps (All-tail (λ (p : RoleAndType). is_of_block p.0 ≡ true) p ps all) in
    let e = sum_by-cons (λ (p : RoleAndType). declared_by p.0) p ps in
    omega (arith, here, rest, e)

parameters_named : (ps : List ParameterRow) → length ps ≤ sum_by (λ (p : RoleAndType). declared_by p.0) (map (λ (p : ParameterRow). (Parameter p.mode, p.of)) ps)
parameters_named [] = omega arith
parameters_named (p ∷ ps) =
    let rest = parameters_named ps in
    let e = sum_by-cons (λ (p : RoleAndType). declared_by p.0) (Parameter p.mode, p.of) (map (λ (p : ParameterRow). (Parameter p.mode, p.of)) ps) in
    omega (arith, rest, e)

by_roles : (vs : List Variable) → sum_by (λ (v : Variable). declared_by v.role) vs ≡ sum_by (λ (p : RoleAndType). declared_by p.0) (map role_and_type vs)
by_roles [] = refl
by_roles (v ∷ vs) =
    let rest = by_roles vs in
    let a = sum_by-cons (λ (v : Variable). declared_by v.role) v vs in
    let b = sum_by-cons (λ (p : RoleAndType). declared_by p.0) (role_and_type v) (map role_and_type vs) in
    omega (arith, rest, a, b)

length-map : {A B : Type 0} (f : A → B) (xs : List A) → length (map f xs) ≡ length xs
length-map f [] = refl
length-map f (x ∷ xs) = ap suc (length-map f xs)

abbrev results : Option TypeId → List RoleAndType
results o = map (λ (of : TypeId). (Result, of)) (option_to_list o)

abbrev names_among : List RoleAndType → ℕ
names_among ps = sum_by (λ (p : RoleAndType). declared_by p.0) ps

few_results : (o : Option TypeId) → length (results o) ≤ 1
few_results None = omega arith
few_results (Some of) = omega arith

abbrev parameters : List ParameterRow → List RoleAndType
parameters ps = map (λ (p : ParameterRow). (Parameter p.mode, p.of)) ps

-- all but the result of what a heading declares
heading_named : (core : Core) (x : Row) → x.owner ≡ OfUnit → length (first_rows core x) ≤ names_among (first_rows core x) + 1
heading_named core x owner = rw owner (
    let ps = rows core.parameters x.parameters in
    let named = parameters_named ps in
    let many = length-map {B = RoleAndType} (λ (p : ParameterRow). (Parameter p.mode, p.of)) ps in
    let few = few_results x.result in
    let long = length-append (parameters ps) (results x.result) in
    let sum = sum_by-append (λ (p : RoleAndType). declared_by p.0) (parameters ps) (results x.result) in
    omega (arith, named, many, few, long, sum)
    )

pub variables_named : (core : Core) (x : Row) → x.owner ≡ OfUnit → HasRows core x → length (rows core.variables x.variables) ≤ own_names core x + 1
variables_named core x owner begins =
    let vs = rows core.variables x.variables in
    let first = first_rows core x in
    let heading = heading_named core x owner in
    let block = block_named begins.others begins.of_block in
    let many = length-map role_and_type vs in
    let long = ap length begins.are in
    let split = length-append first begins.others in
    let roles = by_roles vs in
    let sum = ap names_among begins.are in
    let parts = sum_by-append (λ (p : RoleAndType). declared_by p.0) first begins.others in
    omega (arith, heading, block, many, long, split, roles, sum, parts)

-- ---- and so are its parameters

given_named : (core : Core) (x : Row) → x.owner ≡ OfUnit → length (rows core.parameters x.parameters) ≤ names_among (first_rows core x)
given_named core x owner = rw owner (
    let ps = rows core.parameters x.parameters in
    let named = parameters_named ps in
    let sum = sum_by-append (λ (p : RoleAndType). declared_by p.0) (parameters ps) (results x.result) in
    omega (arith, named, sum)
    )

pub parameters_are_named : (core : Core) (x : Row) → x.owner ≡ OfUnit → HasRows core x → length (rows core.parameters x.parameters) ≤ own_names core x
parameters_are_named core x owner begins =
    let heading = given_named core x owner in
    let roles = by_roles (rows core.variables x.variables) in
    let sum = ap names_among begins.are in
    let parts = sum_by-append (λ (p : RoleAndType). declared_by p.0) (first_rows core x) begins.others in
    omega (arith, heading, roles, sum, parts)
