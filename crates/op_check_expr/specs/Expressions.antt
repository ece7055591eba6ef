-- What expressions mean: a value, or the rules that they break (Free Pascal Reference Guide, "Expressions").
use Rattle.std.specs.Prelude.{ℕ, pos, neg_ℤ, false, List, [], ◌∷◌, ◌++◌, Option, Some, None}
use Rattle.std.specs.Option.{option_map}
use Rattle.op_base.specs.declared.place.Place.{Place}
use Rattle.op_core.specs.Expression.{Arguments as GivenArguments, Argument as GivenArgument, index as index_step, then as with_step}
use Rattle.op_core.specs.Sizes.{type_at}
use Rattle.op_core.specs.declared.constant.Const.TheVariants.{Text}
use Rattle.op_core.specs.declared.ids.TypeId.{TypeId}
use Rattle.op_core.specs.declared.program.Core.{Core}
use Rattle.op_core.specs.declared.routine.Parameter.{Parameter}
use Rattle.op_core.specs.declared.types.CoreType.{CoreType}
use Rattle.op_core.specs.declared.types.CoreType.TheVariants as type
use Rattle.op_tree.specs.Expression.{Expression, chain, prefixed, number, nil, set, literal, designated, inherited, Operations, no_operations, operation, Elements, no_elements, elements, Element, one, range, Designator, designator, Root, named, string, bracketed, Selectors, no_selectors, selectors, Selector, member, index, call, Expressions, no_expressions, expressions, Arguments, no_arguments, arguments, Argument, value, padded, rounded}
use Rattle.op_tree.specs.declared.position.Name.{Name}
use Rattle.op_tree.specs.declared.position.Position.{Position}
use Rattle.op_judgement.specs.Judgement.{Judgement, both_typed, by_entry, changed, fine, followed, of_two, refused, through, untyped, with_part}
use Rattle.op_judgement.specs.declared.rules.Feature.TheVariants.{Classes, DynamicArrays, Strings}
use Rattle.op_judgement.specs.declared.rules.LanguageRule.TheVariants.{NotInProfile, NotIndexed, WrongKindOfName}
use Rattle.op_types.specs.Folding.{bound_means, numeral}
use Rattle.op_check_expr.specs.Calling.{call_of, first_of, given_behind, given_first, others_of, parameters_for, passed, plan_for, plan_of, type_wanted}
use Rattle.op_check_expr.specs.Constructors.{Member, set_of}
use Rattle.op_check_expr.specs.Constructors as member
use Rattle.op_check_expr.specs.Naming as naming
use Rattle.op_check_expr.specs.Naming.{Denoted, Meant, field_of, valued}
use Rattle.op_check_expr.specs.Operating.{operation_of, prefix_of, used}
use Rattle.op_check_expr.specs.Parts.{standing}
use Rattle.op_check_expr.specs.Values.{Value, constant, computed, in_brackets, index_at, tree_of, type_of}
use Rattle.op_check_expr.specs.declared.call.Plan.{Plan}
use Rattle.op_check_expr.specs.declared.call.Plan.TheVariants.{Bound, Sole}
use Rattle.op_check_expr.specs.Scopes.{Here}
use Rattle.op_types.specs.ConstantParts.{joined_name, made, nodes, number_behind, text_constant}
use Rattle.op_types.specs.Names.{lower, meaning_of}
use Rattle.op_types.specs.Operators as table
use Rattle.op_types.specs.declared.constant.Applied.{Applied}

-- ---- the first token

abbrev mutual
  pub position_of : Expression → Position
  position_of (chain first rest) = position_of first
  position_of (prefixed o p e) = p
  position_of (number n p) = p
  position_of (nil p) = p
  position_of (set p es) = p
  position_of (literal text p ss) = p
  position_of (designated d) = position_of_designator d
  position_of (inherited p d) = p

  pub position_of_designator : Designator → Position
  position_of_designator (designator (named n) ss) = n.position
  position_of_designator (designator (string p) ss) = p
  position_of_designator (designator (bracketed p e) ss) = p

-- ---- parts without parts of their own

-- a text of which something is selected is a string, whatever its length
abbrev pub text_denoted : Position → List ℕ → Denoted
text_denoted p text = valued p (constant (made (Text text) table.string (nodes 1)))

-- a number behind a minus is one number
abbrev pub or_number : Option (ℕ × Place) → Judgement Value → Judgement Value
or_number None j = j
or_number (Some n) j = changed constant (numeral n.1 2 (neg_ℤ (pos n.0)))

abbrev pub bracket_of : Position → Judgement Value → Judgement Denoted
bracket_of p j = changed (λ v. valued p (in_brackets v)) j

abbrev pub position_of_denoted : Option Denoted → Option Position
position_of_denoted d = option_map (λ d. d.position) d

abbrev pub still_at_position : Option Position → Option Value → Option Denoted
still_at_position p v = both_typed valued p v

-- at the same position, what is made of it
abbrev pub still_at : Option Denoted → Judgement Value → Judgement Denoted
still_at d j = of_two valued (standing (position_of_denoted d)) j

-- ---- indices

-- of what can be indexed, the type of its index and that of its elements
abbrev pub index_types : Option CoreType → Option (TypeId × TypeId)
index_types (Some (type.Array at element)) = Some (at, element)
index_types (Some (type.DynamicArray element)) = Some (table.integer, element)
index_types (Some (type.OpenArray element)) = Some (table.integer, element)
index_types (Some type.String) = Some (table.integer, table.char)
index_types _ = None

-- with an index that begins at a place
abbrev pub element_at : Core → Place → Value → TypeId × TypeId → Value → Judgement Value
element_at core at a of v =
    changed (λ i. computed (with_step (tree_of a) (index_step i) of.1)) (index_at core at (type_at core (type_of a)) of.0 v)

-- behind a bracket at a place
abbrev pub indexed_value : Core → Place → Place → Option Value → Value → Judgement Value
indexed_value core bracket at v a =
    by_entry NotIndexed bracket (λ of. with_part (element_at core at a of) v) (index_types (type_at core (type_of a)))

abbrev pub indexed : Core → Place → Place → Option Value → Option Value → Judgement Value
indexed core bracket at a v = with_part (indexed_value core bracket at v) a

-- ---- values

-- what a name stands for as a value: a function alone is called, a type is none
abbrev pub settled_by : Here → Position → Meant → Judgement Value
settled_by s p (naming.value v) = fine v
settled_by s p (naming.type_name of) = refused WrongKindOfName p.place
settled_by s p what = followed (plan_for s false p what no_arguments) (λ plan. standing (call_of s plan (given_first plan)))

abbrev pub settled : Here → Denoted → Judgement Value
settled s d = settled_by s d.position d.what

abbrev pub name_denoted : Here → List ℕ → List ℕ → Position → Judgement Denoted
name_denoted s key text p = naming.named s.core text p (meaning_of s.visible key)

-- a member of a unit or of a value
abbrev pub member_by : Here → Name → Denoted → Meant → Judgement Denoted
member_by s m d (naming.unit text) = name_denoted s (joined_name text m.text) m.text m.position
member_by s m d what = through (settled s d) (field_of s.core m)

abbrev pub member_of : Here → Name → Denoted → Judgement Denoted
member_of s m d = member_by s m d d.what

-- What a call means: `sole` is what its one argument gives to what takes one value, and `given` what its arguments are for parameters,
-- of which there are none where nothing takes them.
abbrev pub call_means : Here → Option Plan → (Applied → Position → Judgement Value) → (List Parameter → Option GivenArguments → Judgement GivenArguments) → Judgement Value
call_means s (Some (Bound f of at)) sole given = changed constant (bound_means s.core f (of, at))
call_means s (Some (Sole what p)) sole given = sole what p
call_means s plan sole given = followed (given (parameters_for s plan) (given_first plan)) (λ args. standing (call_of s plan args))

abbrev pub ranged : Place → Place → Value → Value → Member
ranged at at' a b = member.range at a at' b

abbrev pub with_member : Option (List Member) → Option Member → Option (List Member)
with_member (Some ms) (Some m) = Some (ms ++ m ∷ [])
with_member _ _ = None

-- ---- expressions

-- What an expression means; `wanted` is the type that its use fixes, which a set constructor looks at.
abbrev mutual
  pub value_in : Here → Option TypeId → Expression → Judgement Value
  value_in s wanted (chain first rest) = followed (value_in s None first) (λ a. operations s (position_of first).place a rest)
  value_in s wanted (prefixed o p e) = or_number (number_behind o e) (through (value_in s None e) (prefix_of s.core o p))
  value_in s wanted (number n p) = changed constant (numeral p.place 1 (pos n))
  value_in s wanted (nil p) = refused (NotInProfile DynamicArrays) p.place
  value_in s wanted (set p es) = through (members s (Some []) es) (set_of s.core wanted)
  value_in s wanted (literal text p no_selectors) = fine (constant (text_constant text))
  value_in s wanted (literal text p (selectors x xs)) = through (selected s (Some (text_denoted p text)) (selectors x xs)) (settled s)
  value_in s wanted (designated d) = through (designator_of s d) (settled s)
  value_in s wanted (inherited p d) = refused (NotInProfile Classes) p.place

  -- behind a first operand, in an expression that begins at a place
  pub operations : Here → Place → Option Value → Operations → Judgement Value
  operations s start a no_operations = standing a
  operations s start a (operation o p e others) =
      followed (value_in s None e) (λ b. followed (operation_of s.core start o p a b) (λ c. operations s start c others))

  -- behind the elements so far
  pub members : Here → Option (List Member) → Elements → Judgement (List Member)
  members s ms no_elements = standing ms
  members s ms (elements e es) = followed (member_in s e) (λ m. members s (with_member ms m) es)

  pub member_in : Here → Element → Judgement Member
  member_in s (one e) = changed (member.one (position_of e).place) (value_in s None e)
  member_in s (range e f) = of_two (ranged (position_of e).place (position_of f).place) (value_in s None e) (value_in s None f)

  pub designator_of : Here → Designator → Judgement Denoted
  designator_of s (designator root ss) = followed (root_of s root) (λ d. selected s d ss)

  pub root_of : Here → Root → Judgement Denoted
  root_of s (named n) = name_denoted s (lower n.text) n.text n.position
  root_of s (string p) = refused (NotInProfile Strings) p.place
  root_of s (bracketed p e) = bracket_of p (value_in s None e)

  pub selected : Here → Option Denoted → Selectors → Judgement Denoted
  selected s d no_selectors = standing d
  selected s d (selectors x xs) = followed (select s d x) (λ c. selected s c xs)

  pub select : Here → Option Denoted → Selector → Judgement Denoted
  select s d (member m) = with_part (member_of s m) d
  select s d (index p es) = still_at d (followed (with_part (settled s) d) (λ a. elements_at s p.place a es))
  select s d (call args) =
      still_at d (followed (plan_of s false d args) (λ plan. call_means s plan (λ what p. sole s what p args) (λ ps so_far. given s ps so_far args)))

  -- an element, index by index, behind a bracket at a place
  pub elements_at : Here → Place → Option Value → Expressions → Judgement Value
  elements_at s bracket a no_expressions = standing a
  elements_at s bracket a (expressions e es) =
      followed (value_in s None e) (λ v. followed (indexed s.core bracket (position_of e).place a v) (λ b. elements_at s bracket b es))

  -- a cast or a function of the one argument
  pub sole : Here → Applied → Position → Arguments → Judgement Value
  sole s what p (arguments (value e) no_arguments) = through (value_in s None e) (used s.core p what (position_of e).place)
  sole s what p _ = untyped

  pub given : Here → List Parameter → Option GivenArguments → Arguments → Judgement GivenArguments
  given s ps so_far no_arguments = standing so_far
  given s ps so_far (arguments a others) = followed (argument s (first_of ps) a) (λ b. given s (others_of ps) (given_behind so_far b) others)

  pub argument : Here → Option Parameter → Argument → Judgement GivenArgument
  argument s p (value e) = through (value_in s (type_wanted p) e) (passed s p (position_of e))
  argument s p (padded e width) = followed (value_in s None e) (λ a. followed (value_in s None width) (λ b. untyped))
  argument s p (rounded e width digits) = followed (value_in s None e) (λ a. followed (value_in s None width) (λ b. followed (value_in s None digits) (λ c. untyped)))

abbrev pub range_in : Here → Element → Judgement Member
range_in s (one e) = untyped
range_in s (range e f) = member_in s (range e f)

-- an expression whose value nothing takes
abbrev pub unused : Here → Expression → Judgement GivenArgument
unused s e = followed (value_in s None e) (λ a. untyped)

-- an argument with a width, for which there is no parameter
abbrev pub formatted : Here → Argument → Judgement GivenArgument
formatted s (value e) = untyped
formatted s (padded e width) = argument s None (padded e width)
formatted s (rounded e width digits) = argument s None (rounded e width digits)

abbrev pub set_in : Here → Option TypeId → Elements → Judgement Value
set_in s wanted es = through (members s (Some []) es) (set_of s.core wanted)

-- arguments for the parameters of a routine; for none where nothing is called
abbrev pub given_to : Here → Option Plan → Arguments → Judgement Value
given_to s plan args = followed (given s (parameters_for s plan) (given_first plan) args) (λ args. standing (call_of s plan args))

abbrev pub called : Here → Option Plan → Arguments → Judgement Value
called s plan args = call_means s plan (λ what p. sole s what p args) (λ ps so_far. given s ps so_far args)
