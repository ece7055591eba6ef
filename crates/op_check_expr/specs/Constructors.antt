-- What set constructors mean (Free Pascal Reference Guide, "Set Constructors").
use Rattle.std.specs.Prelude.{pos, Bool, true, false, ◌&&◌, List, [], ◌∷◌, Option, Some, None, if◌then◌else◌, map, Vec}
use Rattle.std.specs.List.{list_all}
use Rattle.std.specs.declared.alloc.Global.{Global}
use Rattle.op_base.specs.declared.place.Place.{Place}
use Rattle.op_core.specs.Expression.{Element, Elements, expression, no_elements, no_steps, one as one_tree, range as range_tree, set as set_root}
use Rattle.op_core.specs.Expression as tree
use Rattle.op_core.specs.Sizes.{type_at}
use Rattle.op_core.specs.Typing as typing
use Rattle.op_core.specs.declared.ids.TypeId.{TypeId}
use Rattle.op_core.specs.declared.program.Core.{Core}
use Rattle.op_judgement.specs.Judgement.{Judgement, by_test, changed, fine, followed, with_part}
use Rattle.op_judgement.specs.declared.rules.LanguageRule.TheVariants.{NoSetElement, NotAssignable, NotOrdinal}
use Rattle.op_types.specs.Folding.{gathered_means, range_means, single_means}
use Rattle.op_check_expr.specs.Parts.{standing}
use Rattle.op_check_expr.specs.Values.{Value, constant, computed, as_type, type_of, value_of}
use Rattle.op_check_expr.specs.declared.set.Member.{Member as RustMember}
use Rattle.op_check_expr.specs.declared.set.Member.TheVariants as rust
use Rattle.op_types.specs.Assignable.{assignable}
use Rattle.op_types.specs.ConstantParts.{is_ordinal, joined, made, no_members, nodes}
use Rattle.op_types.specs.Operators as table
use Rattle.op_types.specs.Sets.{common_set, set_over}
use Rattle.op_types.specs.Sorts.{are_sets, sort_of}
use Rattle.op_types.specs.Values.{contains, number_of}
use Rattle.op_types.specs.declared.constant.Constant.{Constant}

-- an element with the values that it is made of, each with the place where it begins
pub data Member : Type 0 where
  one : (at : Place) (v : Value) → Member
  range : (at : Place) (v : Value) (at' : Place) (v' : Value) → Member

abbrev pub member_of : RustMember → Member
member_of (rust.One at v) = one at (value_of v)
member_of (rust.Range at v at' v') = range at (value_of v) at' (value_of v')

abbrev pub members_of : Vec RustMember Global → List Member
members_of v = map member_of v.items

abbrev pub place_of : Member → Place
place_of (one at v) = at
place_of (range at v at' v') = at

-- ---- constants

abbrev pub constant_of : Value → Option Constant
constant_of (constant c) = Some c
constant_of (computed e) = None

abbrev pub is_constant : Value → Bool
is_constant (constant c) = true
is_constant (computed e) = false

abbrev pub are_constants : Member → Bool
are_constants (one at v) = is_constant v
are_constants (range at v at' v') = is_constant v && is_constant v'

abbrev pub constant_member : Core → Member → Judgement Constant
constant_member core (one at v) = single_means core at (constant_of v)
constant_member core (range at v at' v') = range_means core at (constant_of v) at' (constant_of v')

-- behind the elements so far
abbrev pub constant_members : Core → Option Constant → List Member → Judgement Constant
constant_members core a [] = standing a
constant_members core a (m ∷ ms) = followed (constant_member core m) (λ b. followed (gathered_means core (place_of m) a b) (λ c. constant_members core c ms))

-- ---- others

abbrev pub is_small : Value → Bool
is_small (constant c) = contains (pos 0, pos 31) (number_of c.value)
is_small (computed e) = true

-- a value in a set: of an ordinal type, and no constant out of 0 to 31; it gives the type of the set
abbrev pub value_in_set : Core → Place → Value → Judgement TypeId
value_in_set core at v = by_test NotOrdinal at (by_test NoSetElement at (fine (set_over core (type_of v))) (is_small v)) (is_ordinal (sort_of core (type_of v)))

abbrev pub member_in_set : Core → Member → Judgement TypeId
member_in_set core (one at v) = value_in_set core at v
member_in_set core (range at v at' v') =
    followed (value_in_set core at v) (λ a. followed (value_in_set core at' v') (λ b.
    with_part (λ a. with_part (λ b. by_test NotAssignable at' (fine (common_set core a b)) (assignable core (type_of v') (type_of v))) b) a))

-- a set of the one type and one of another that begins at a place
abbrev pub both_in_set : Core → Place → Option TypeId → Option TypeId → Judgement TypeId
both_in_set core at a b = with_part (λ a. with_part (λ b. by_test NotAssignable at (fine (common_set core a b)) (are_sets (sort_of core a) (sort_of core b))) b) a

-- the type of a set of these, behind those so far
abbrev pub type_of_set : Core → Option TypeId → List Member → Judgement TypeId
type_of_set core a [] = standing a
type_of_set core a (m ∷ ms) = followed (member_in_set core m) (λ b. followed (both_in_set core (place_of m) a b) (λ c. type_of_set core c ms))

abbrev pub element_tree : Core → TypeId → Member → Element
element_tree core base (one at v) = one_tree (as_type core true base v)
element_tree core base (range at v at' v') = range_tree (as_type core true base v) (as_type core true base v')

abbrev pub elements_from : List Element → Elements
elements_from [] = no_elements
elements_from (x ∷ xs) = tree.elements x (elements_from xs)

abbrev pub or_own : TypeId → Option TypeId → TypeId
or_own own None = own
or_own own (Some of) = of

-- The type of a set whose own is known: the one that its use wants, where a set is assignable to that.
abbrev pub wanted_or : Core → Option TypeId → TypeId → TypeId
wanted_or core None own = own
wanted_or core (Some to) own = if assignable core own to then to else own

abbrev pub set_tree : Core → TypeId → List Member → Value
set_tree core of ms = computed (expression (set_root (elements_from (map (element_tree core (or_own of (typing.base_of (type_at core of)))) ms))) of no_steps)

abbrev pub computed_set : Core → Option TypeId → List Member → Judgement Value
computed_set core wanted ms = changed (λ own. set_tree core (wanted_or core wanted own) ms) (type_of_set core (Some table.empty_set) ms)

-- a node round the elements
abbrev bracketed : Constant → Constant
bracketed a = made a.value a.of (joined a.weight (nodes 0))

abbrev pub set_by : Core → Option TypeId → List Member → Bool → Judgement Value
set_by core wanted ms true = changed constant (changed bracketed (constant_members core (Some no_members) ms))
set_by core wanted ms false = computed_set core wanted ms

-- a constant where all its elements are
abbrev pub set_of : Core → Option TypeId → List Member → Judgement Value
set_of core wanted ms = set_by core wanted ms (list_all are_constants ms)
