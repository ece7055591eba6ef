-- What constant expressions mean and which rules they break: judgements; and which expressions are constant.
use Rattle.std.specs.Prelude.{◌≡◌, ℕ, ℤ, pos, neg_ℤ, Bool, true, false, ◌&&◌, List, Option, Some, None, is_some, if◌then◌else◌}
use Rattle.op_base.specs.declared.place.Place.{Place}
use Rattle.op_core.specs.Faults.{Checked, kept}
use Rattle.op_core.specs.Sizes.{type_at}
use Rattle.op_core.specs.declared.constant.Const.TheVariants.{Nil}
use Rattle.op_core.specs.declared.constant.Const.{Const}
use Rattle.op_core.specs.declared.first_refusal.FirstRefusal.{FirstRefusal}
use Rattle.op_core.specs.declared.ids.TypeId.{TypeId}
use Rattle.op_core.specs.declared.operation.Function.{Function}
use Rattle.op_core.specs.declared.program.Core.{Core}
use Rattle.op_judgement.specs.Judgement.{Judgement, Reports, by_entry, by_test, changed, checked, fine, followed, of_two, refused, through, untyped, with_part}
use Rattle.op_judgement.specs.declared.rules.LanguageRule.{LanguageRule}
use Rattle.op_judgement.specs.declared.rules.LanguageRule.TheVariants.{NoCast, NoOperator, NoSetElement, NotAssignable, NotOrdinal, NumberTooLarge, OutOfRange, UnknownName, WrongArguments}
use Rattle.op_tree.specs.Expression.{Expression, chain, prefixed, number, nil, set, literal, designated, inherited, Operations, no_operations, operation, Elements, no_elements, elements, Element, one, range, Designator, designator, named, bracketed, Selectors, no_selectors, selectors, member, call, Arguments, no_arguments, arguments, value}
use Rattle.op_tree.specs.declared.operator.Operator.TheVariants.{Add}
use Rattle.op_tree.specs.declared.operator.Operator.{Operator}
use Rattle.op_tree.specs.declared.operator.PrefixOperator.{PrefixOperator}
use Rattle.op_types.specs.Assignable.{assignable, true_of}
use Rattle.op_types.specs.ConstantParts.{boxed, is_folded, is_ordinal, joined, loose, made, members_of, no_members, nodes, number_behind, plus, qualified, rule_of, start_of, start_of_element, text_constant, type_named, use_of}
use Rattle.op_types.specs.Names.{Named, lower, meaning_of}
use Rattle.op_types.specs.Operators as table
use Rattle.op_types.specs.Sets.{between, combined, common_set, set_over}
use Rattle.op_types.specs.Sorts.{are_sets, sort_of}
use Rattle.op_types.specs.Values.{applied, before, bound_of, cast, contains, number_of, operated, within}
use Rattle.op_types.specs.declared.constant.Applied.TheVariants.{Cast, Function as Function'}
use Rattle.op_types.specs.declared.constant.Applied.{Applied}
use Rattle.op_types.specs.declared.constant.Constant.{Constant}
use Rattle.op_types.specs.declared.constant.Use.TheVariants.{Unknown, Bound, Apply}
use Rattle.op_types.specs.declared.constant.Use.{Use}
use Rattle.op_types.specs.declared.constant.Weight.{Weight}
use Rattle.op_types.specs.declared.visible.Meaning.TheVariants.{Constant as ConstantNamed, Spoiled}
use Rattle.op_types.specs.declared.visible.Meaning.{Meaning}

-- ---- values

-- a constant, where there is such a value; else the rule is broken at the place
abbrev pub entered : LanguageRule → Place → TypeId → Weight → Option Const → Judgement Constant
entered rule place of w v = by_entry rule place (λ v. fine (made v of w)) v

-- a number, behind a minus or alone
abbrev pub numeral : Place → ℕ → ℤ → Judgement Constant
numeral place count n = entered NumberTooLarge place table.integer (nodes count) (within n)

-- with selectors it is none
abbrev pub literal_constant : List ℕ → Selectors → Judgement Constant
literal_constant text no_selectors = fine (text_constant text)
literal_constant text (selectors s ss) = untyped

-- ---- operators

abbrev pub prefix_means : Core → Place → PrefixOperator → Constant → Judgement Constant
prefix_means core place o a =
    by_entry NoOperator place (λ of. entered OutOfRange place of (joined a.weight (nodes 0)) (before o of (number_of a.value))) (table.prefixed o (sort_of core a.of))

-- an operator at a place, in an expression that begins at another
abbrev pub operator_means : Core → Place → Operator → Place → Constant → Constant → Judgement Constant
operator_means core start o place a b =
    by_entry NoOperator place (λ of. entered OutOfRange start of (joined a.weight b.weight) (operated o (sort_of core a.of) (sort_of core b.of) a.value b.value))
    (table.operation o (sort_of core a.of) (sort_of core b.of) (common_set core a.of b.of))

abbrev pub operation_means : Core → Place → Operator → Place → Option Constant → Option Constant → Judgement Constant
operation_means core start o place a b = with_part (λ a. with_part (operator_means core start o place a) b) a

-- ---- names

-- what is no constant has no meaning here; of a spoiled name its declaration has spoken
abbrev pub name_means : Place → Option Meaning → Judgement Constant
name_means place None = refused UnknownName place
name_means place (Some (ConstantNamed c)) = fine (made c.value c.of (nodes 1))
name_means place _ = untyped

-- ---- functions and casts

-- a function at a place, of an argument at another
abbrev pub application_means : Core → Place → Function → Place → Constant → Judgement Constant
application_means core place f at a =
    by_entry (rule_of f) at (λ of. entered OutOfRange place of (joined a.weight (nodes 0)) (applied core f a.of a.value)) (table.application f (sort_of core a.of) a.of)

abbrev pub cast_means : Core → Place → TypeId → Constant → Judgement Constant
cast_means core place of a =
    by_test NoCast place (entered OutOfRange place of (joined a.weight (nodes 0)) (cast (type_at core of) (number_of a.value))) (is_ordinal (sort_of core a.of))

-- by the places of the name and of the argument
abbrev pub use_means : Core → Applied → Place → Place → Constant → Judgement Constant
use_means core (Cast of) place at a = cast_means core place of a
use_means core (Function' f) place at a = application_means core place f at a

-- Low or High of a type
abbrev pub bound_means : Core → Function → TypeId × Place → Judgement Constant
bound_means core f of = by_entry NotOrdinal of.1 (λ b. fine (made b.0 b.1 (nodes 2))) (bound_of core f of.0)

-- a name at a place, with one list of arguments: the type that these name, and what is done with the one value that they are
abbrev pub call_means : Core → Place → Option (TypeId × Place) → (Applied → Judgement Constant) → Option Use → Judgement Constant
call_means core place of g (Some Unknown) = refused UnknownName place
call_means core place of g (Some (Bound f)) = with_part (bound_means core f) of
call_means core place of g (Some (Apply what)) = g what
call_means core place of g _ = untyped

-- ---- sets

-- an element that begins at a place: of an ordinal type, from 0 to 31
abbrev pub element_means : Core → Place → Constant → Judgement Constant
element_means core at a = by_test NotOrdinal at (by_test NoSetElement at (fine a) (contains (pos 0, pos 31) (number_of a.value))) (is_ordinal (sort_of core a.of))

-- the set of one element
abbrev pub singleton : Core → Constant → Judgement Constant
singleton core a = fine (loose (between (number_of a.value) (number_of a.value)) (set_over core a.of) a.weight)

abbrev pub single_means : Core → Place → Option Constant → Judgement Constant
single_means core at a = through (with_part (element_means core at) a) (singleton core)

abbrev pub pair : {A B : Type 0} → A → B → A × B
pair a b = (a, b)

abbrev pub all_between : Core → Constant → Constant → Constant
all_between core a b =
    loose (between (number_of a.value) (number_of b.value)) (common_set core (set_over core a.of) (set_over core b.of)) (plus a.weight b.weight)

-- the elements from one to another that begins at a place, where this is of the first one's kind
abbrev pub from_to : Core → Place → Constant → Constant → Judgement Constant
from_to core at a b = by_test NotAssignable at (fine (all_between core a b)) (assignable core b.of a.of)

abbrev pub range_means : Core → Place → Option Constant → Place → Option Constant → Judgement Constant
range_means core at a at' b =
    through (of_two pair (with_part (element_means core at) a) (with_part (element_means core at') b)) (λ ab. from_to core at' ab.0 ab.1)

abbrev pub union : Core → Constant → Constant → Constant
union core a b = loose (combined Add (members_of a.value) (members_of b.value)) (common_set core a.of b.of) (plus a.weight b.weight)

-- elements so far, and those of one that begins at a place, where these are of the same kind
abbrev pub united : Core → Place → Constant → Constant → Judgement Constant
united core at a b = by_test NotAssignable at (fine (union core a b)) (are_sets (sort_of core a.of) (sort_of core b.of))

abbrev pub gathered_means : Core → Place → Option Constant → Option Constant → Judgement Constant
gathered_means core at a b = with_part (λ a. with_part (united core at a) b) a

-- ---- expressions

abbrev pub in_brackets : Judgement Constant → Judgement Constant
in_brackets j = changed boxed j

abbrev pub or_number : Option (ℕ × Place) → Judgement Constant → Judgement Constant
or_number None j = j
or_number (Some n) j = numeral n.1 2 (neg_ℤ (pos n.0))

-- What a constant expression means; what is none has no meaning here.
abbrev mutual
  pub constant : Core → List Named → Expression → Judgement Constant
  constant core names (chain first rest) = operations core names (start_of first) (constant core names first) rest
  constant core names (prefixed o p e) = or_number (number_behind o e) (through (constant core names e) (prefix_means core p.place o))
  constant core names (number n p) = numeral p.place 1 (pos n)
  constant core names (nil p) = fine (made Nil table.nil (nodes 1))
  constant core names (literal text p ss) = literal_constant text ss
  constant core names (designated d) = designated_constant core names d
  constant core names (set p es) = in_brackets (members core names (fine no_members) es)
  constant core names (inherited p d) = untyped

  -- behind what stands in front
  pub operations : Core → List Named → Place → Judgement Constant → Operations → Judgement Constant
  operations core names start a no_operations = a
  operations core names start a (operation o p e others) =
      operations core names start (followed a (λ a. followed (constant core names e) (operation_means core start o p.place a))) others

  -- behind the elements so far
  pub members : Core → List Named → Judgement Constant → Elements → Judgement Constant
  members core names a no_elements = a
  members core names a (elements e es) =
      members core names (followed a (λ a. followed (element core names e) (gathered_means core (start_of_element e) a))) es

  pub element : Core → List Named → Element → Judgement Constant
  element core names (one e) = followed (constant core names e) (single_means core (start_of e))
  element core names (range e f) =
      followed (constant core names e) (λ a. followed (constant core names f) (range_means core (start_of e) a (start_of f)))

  pub designated_constant : Core → List Named → Designator → Judgement Constant
  designated_constant core names (designator (named n) no_selectors) = name_means n.position.place (meaning_of names (lower n.text))
  designated_constant core names (designator (named n) (selectors (member m) no_selectors)) = with_part (λ q. name_means q.1 q.0) (qualified names n m)
  designated_constant core names (designator (named n) (selectors (call args) no_selectors)) =
      call_means core n.position.place (type_named names args) (argument_means core names n.position.place args) (use_of core (meaning_of names (lower n.text)))
  designated_constant core names (designator (named n) (selectors (member m) (selectors (call args) no_selectors))) =
      with_part (λ q. call_means core q.1 (type_named names args) (argument_means core names q.1 args) (use_of core q.0)) (qualified names n m)
  designated_constant core names (designator (bracketed p e) no_selectors) = in_brackets (constant core names e)
  designated_constant core names _ = untyped

  -- a cast or a function at a place takes one argument
  pub argument_means : Core → List Named → Place → Arguments → Applied → Judgement Constant
  argument_means core names place (arguments (value e) no_arguments) what = through (constant core names e) (use_means core what place (start_of e))
  argument_means core names place _ what = refused WrongArguments place

-- ---- which expressions are constant

-- a constant's name; or one that is unknown or spoiled, which may have been meant for one
abbrev pub is_constant_name : Option Meaning → Bool
is_constant_name None = true
is_constant_name (Some Spoiled) = true
is_constant_name (Some (ConstantNamed c)) = true
is_constant_name _ = false

-- of a name with one list of arguments: whether these name a type, or are constant
abbrev pub is_constant_call : Option (TypeId × Place) → Bool → Option Use → Bool
is_constant_call of b None = false
is_constant_call of b (Some (Bound f)) = is_some of
is_constant_call of b (Some (Apply what)) = b
is_constant_call of b _ = true

-- those whose parts are
abbrev mutual
  pub is_constant : Core → List Named → Expression → Bool
  is_constant core names (chain first rest) = is_constant core names first && are_constant_operands core names rest
  is_constant core names (prefixed o p e) = is_constant core names e
  is_constant core names (number n p) = true
  is_constant core names (nil p) = true
  is_constant core names (set p es) = are_constant_elements core names es
  is_constant core names (literal text p no_selectors) = true
  is_constant core names (literal text p (selectors s ss)) = false
  is_constant core names (designated d) = is_constant_designator core names d
  is_constant core names (inherited p d) = false

  -- with operators that constants have
  pub are_constant_operands : Core → List Named → Operations → Bool
  are_constant_operands core names no_operations = true
  are_constant_operands core names (operation o p e others) = is_folded o && (is_constant core names e && are_constant_operands core names others)

  pub are_constant_elements : Core → List Named → Elements → Bool
  are_constant_elements core names no_elements = true
  are_constant_elements core names (elements e es) = is_constant_element core names e && are_constant_elements core names es

  pub is_constant_element : Core → List Named → Element → Bool
  is_constant_element core names (one e) = is_constant core names e
  is_constant_element core names (range e f) = is_constant core names e && is_constant core names f

  pub is_constant_designator : Core → List Named → Designator → Bool
  is_constant_designator core names (designator (named n) no_selectors) = is_constant_name (meaning_of names (lower n.text))
  is_constant_designator core names (designator (named n) (selectors (member m) no_selectors)) = true_of (λ q. is_constant_name q.0) (qualified names n m)
  is_constant_designator core names (designator (named n) (selectors (call args) no_selectors)) =
      is_constant_call (type_named names args) (is_constant_argument core names args) (use_of core (meaning_of names (lower n.text)))
  is_constant_designator core names (designator (named n) (selectors (member m) (selectors (call args) no_selectors))) =
      true_of (λ q. is_constant_call (type_named names args) (is_constant_argument core names args) (use_of core q.0)) (qualified names n m)
  is_constant_designator core names (designator (bracketed p e) no_selectors) = is_constant core names e
  is_constant_designator core names _ = false

  -- a wrong number of arguments breaks a rule of constants
  pub is_constant_argument : Core → List Named → Arguments → Bool
  is_constant_argument core names (arguments (value e) no_arguments) = is_constant core names e
  is_constant_argument core names _ = true

-- ---- answers

-- None where it is no constant expression, else what it means
abbrev pub Finds : Bool → Judgement Constant → FirstRefusal → FirstRefusal → Option (Option Constant) → Type 0
Finds is_one j old new None = is_one ≡ false
Finds is_one j old new (Some typed) = (is_one ≡ true) × Reports j old new typed

-- the same in one equation
abbrev pub if_constant : Bool → Judgement Constant → Option (Checked Constant)
if_constant is_one j = if is_one then Some (checked j) else None

abbrev pub Gives : Option (Checked Constant) → FirstRefusal → FirstRefusal → Option (Option Constant) → Type 0
Gives None old new given = given ≡ None
Gives (Some c) old new given = (given ≡ Some c.typed) × (new.kept ≡ kept old.kept c.faults)
