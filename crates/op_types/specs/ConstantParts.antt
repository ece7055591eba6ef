-- What constant expressions are made of: places, weights, names and what they stand for.
use Rattle.std.specs.Option.{option_and_then}
use Rattle.std.specs.Prelude.{ℕ, pos, ◌+◌, ◌%◌, Bool, true, false, List, [], ◌∷◌, ◌++◌, codes, Option, Some, None, is_some, if◌then◌else◌}
use Rattle.op_base.specs.declared.place.Place.{Place}
use Rattle.op_core.specs.Sizes.{capped}
use Rattle.op_core.specs.declared.constant.Const.TheVariants.{Ordinal, Text, Set, Nil}
use Rattle.op_core.specs.declared.constant.Const.{Const}
use Rattle.op_core.specs.declared.ids.TypeId.{TypeId}
use Rattle.op_core.specs.declared.operation.Function.TheVariants.{Length, Low, High, Ord, Succ, Pred, Abs, Sqr, Odd, UpCase}
use Rattle.op_core.specs.declared.operation.Function.{Function}
use Rattle.op_core.specs.declared.program.Core.{Core}
use Rattle.op_judgement.specs.declared.rules.LanguageRule.{LanguageRule}
use Rattle.op_judgement.specs.declared.rules.LanguageRule.TheVariants.{NotAssignable, NotOrdinal}
use Rattle.op_tree.specs.Expression.{Expression, chain, prefixed, number, nil, set, literal, designated, inherited, Element, one, range, Designator, designator, Root, named, string, bracketed, Selectors, no_selectors, selectors, member, Arguments, no_arguments, arguments, value}
use Rattle.op_tree.specs.declared.operator.Operator.TheVariants.{Is, As_}
use Rattle.op_tree.specs.declared.operator.Operator.{Operator}
use Rattle.op_tree.specs.declared.operator.PrefixOperator.TheVariants.{Minus}
use Rattle.op_tree.specs.declared.operator.PrefixOperator.{PrefixOperator}
use Rattle.op_tree.specs.declared.position.Name.{Name}
use Rattle.op_types.specs.Names.{Named, lower, meaning_of}
use Rattle.op_types.specs.Operators as table
use Rattle.op_types.specs.Sorts.{kind_of}
use Rattle.op_types.specs.declared.constant.Applied.TheVariants.{Cast, Function as Function'}
use Rattle.op_types.specs.declared.constant.Constant.{Constant}
use Rattle.op_types.specs.declared.constant.Use.TheVariants.{Unknown, Silent, Bound, Apply}
use Rattle.op_types.specs.declared.constant.Use.{Use}
use Rattle.op_types.specs.declared.constant.Weight.{Weight}
use Rattle.op_types.specs.declared.sort.Sort.TheVariants as sort
use Rattle.op_types.specs.declared.sort.Sort.{Sort}
use Rattle.op_types.specs.declared.visible.BuiltIn.TheVariants.{Chr, Function as FunctionNamed}
use Rattle.op_types.specs.declared.visible.Meaning.TheVariants.{TypeName, Unit as UnitNamed, BuiltIn as BuiltInNamed, Spoiled}
use Rattle.op_types.specs.declared.visible.Meaning.{Meaning}

-- ---- the first token

abbrev mutual
  pub start_of : Expression → Place
  start_of (chain first rest) = start_of first
  start_of (prefixed o p e) = p.place
  start_of (number n p) = p.place
  start_of (nil p) = p.place
  start_of (set p es) = p.place
  start_of (literal text p ss) = p.place
  start_of (designated (designator root ss)) = start_of_root root
  start_of (inherited p d) = p.place

  pub start_of_root : Root → Place
  start_of_root (named n) = n.position.place
  start_of_root (string p) = p.place
  start_of_root (bracketed p e) = p.place

-- ---- what constants are

-- so many nodes, none of which is a set
abbrev pub nodes : ℕ → Weight
nodes n = record { nodes = n; words = 0 }

-- what two parts count for
abbrev pub plus : Weight → Weight → Weight
plus a b = record { nodes = capped (a.nodes + b.nodes); words = capped (a.words + b.words) }

-- a node more than these
abbrev pub joined : Weight → Weight → Weight
joined a b = plus (plus a b) (nodes 1)

-- a set takes a word
abbrev own_words : Const → ℕ
own_words (Ordinal n) = 0
own_words (Text bytes) = 0
own_words (Set members) = 1
own_words Nil = 0

abbrev pub made : Const → TypeId → Weight → Constant
made v of w = record { value = v; of = of; weight = plus w (record { nodes = 0; words = own_words v }) }

-- a node round what is inside
abbrev pub boxed : Constant → Constant
boxed a = made a.value a.of (joined a.weight (nodes 0))

-- a text of one byte is a Char until a string is needed
abbrev pub text_constant : List ℕ → Constant
text_constant (b ∷ []) = made (Ordinal (pos (b % 256))) table.char (nodes 1)
text_constant text = made (Text text) table.string (nodes 1)

-- with selectors it is none
abbrev pub literal_means : List ℕ → Selectors → Option (Option Constant)
literal_means text no_selectors = Some (Some (text_constant text))
literal_means text (selectors s ss) = None

abbrev pub number_behind : PrefixOperator → Expression → Option (ℕ × Place)
number_behind Minus (number n p) = Some (n, p.place)
number_behind _ _ = None

-- constants have no such operators
abbrev pub is_folded : Operator → Bool
is_folded Is = false
is_folded As_ = false
is_folded _ = true

-- ---- sets

-- elements that are no node of their own
abbrev pub loose : List ℕ → TypeId → Weight → Constant
loose members of w = record { value = Set members; of = of; weight = w }

abbrev pub no_members : Constant
no_members = loose [] table.empty_set (nodes 0)

abbrev pub members_of : Const → List ℕ
members_of (Ordinal n) = []
members_of (Text bytes) = []
members_of (Set members) = members
members_of Nil = []

abbrev pub start_of_element : Element → Place
start_of_element (one e) = start_of e
start_of_element (range e f) = start_of e

-- ---- names

-- a name of a unit
abbrev pub joined_name : List ℕ → List ℕ → List ℕ
joined_name unit name = lower unit ++ codes "." ++ lower name

-- what a name behind another stands for, and where: the first name is a unit's, or it is the one that is not known
abbrev pub behind_name : List Named → Name → Name → Option Meaning → Option (Option Meaning × Place)
behind_name names n m (Some (UnitNamed id)) = Some (meaning_of names (joined_name n.text m.text), m.position.place)
behind_name names n m None = Some (None, n.position.place)
behind_name names n m _ = None

abbrev pub qualified : List Named → Name → Name → Option (Option Meaning × Place)
qualified names n m = behind_name names n m (meaning_of names (lower n.text))

-- ---- functions and casts

-- the rule that an argument breaks which the function does not take
abbrev pub rule_of : Function → LanguageRule
rule_of Ord = NotOrdinal
rule_of Succ = NotOrdinal
rule_of Pred = NotOrdinal
rule_of _ = NotAssignable

abbrev pub is_ordinal : Sort → Bool
is_ordinal (sort.Ordinal kind) = true
is_ordinal _ = false

abbrev pub only_value : Arguments → Option Expression
only_value (arguments (value e) no_arguments) = Some e
only_value _ = None

abbrev pub type_in : Place → Option Meaning → Option (TypeId × Place)
type_in place (Some (TypeName of)) = Some (of, place)
type_in place _ = None

abbrev pub type_of_name : List Named → Designator → Option (TypeId × Place)
type_of_name names (designator (named n) no_selectors) = type_in n.position.place (meaning_of names (lower n.text))
type_of_name names (designator (named n) (selectors (member m) no_selectors)) = option_and_then (λ q. type_in q.1 q.0) (qualified names n m)
type_of_name names _ = None

abbrev pub type_of_value : List Named → Expression → Option (TypeId × Place)
type_of_value names (chain first rest) = None
type_of_value names (prefixed o p e) = None
type_of_value names (number n p) = None
type_of_value names (nil p) = None
type_of_value names (set p es) = None
type_of_value names (literal text p s) = None
type_of_value names (designated d) = type_of_name names d
type_of_value names (inherited p d) = None

-- the type that the one argument of a call names
abbrev pub type_named : List Named → Arguments → Option (TypeId × Place)
type_named names args = option_and_then (type_of_value names) (only_value args)

-- what a call does with its one argument, and what of a type it names
abbrev pub use_of_function : Function → Option Use
use_of_function Low = Some (Bound Low)
use_of_function High = Some (Bound High)
use_of_function Ord = Some (Apply (Function' Ord))
use_of_function Succ = Some (Apply (Function' Succ))
use_of_function Pred = Some (Apply (Function' Pred))
use_of_function Abs = Some (Apply (Function' Abs))
use_of_function Sqr = Some (Apply (Function' Sqr))
use_of_function Odd = Some (Apply (Function' Odd))
use_of_function UpCase = Some (Apply (Function' UpCase))
use_of_function Length = Some (Apply (Function' Length))
use_of_function _ = None

abbrev pub use_of : Core → Option Meaning → Option Use
use_of core None = Some Unknown
use_of core (Some Spoiled) = Some Silent
use_of core (Some (TypeName of)) = if is_some (kind_of core of) then Some (Apply (Cast of)) else None
use_of core (Some (BuiltInNamed Chr)) = Some (Apply (Cast table.char))
use_of core (Some (BuiltInNamed (FunctionNamed f))) = use_of_function f
use_of core _ = None
