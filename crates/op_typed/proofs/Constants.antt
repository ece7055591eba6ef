-- Where names stand for what is there, constant expressions have a sound value or break a rule.
use Rattle.std.proofs.Common.{◌≡◌, inl, inr, ℕ, ℤ, pos, ◌≤ℤ◌, ◌%◌, arith, neg_ℤ, Bool, true, false, ◌&&◌, List, [], ◌∷◌, is_some, Option, Some, None, if◌then◌else◌, refl, sym, ap, subst, ◌∙◌}
use Rattle.std.proofs.lemmas.Bool.{and_parts, false≢true}
use Rattle.std.proofs.lemmas.Int.{ints}
use Rattle.std.specs.List.{All}
use Rattle.std.specs.Option.{IfSome, IsSomeAnd}
use Rattle.op_base.specs.declared.place.Place.{Place}
use Rattle.op_core.specs.Relations.{Filled, Whole}
use Rattle.op_core.specs.Sizes.{range_of, type_at}
use Rattle.op_core.specs.Sound.{IsFounded}
use Rattle.op_core.specs.Typing.{Fits, Sees, Within, base_of}
use Rattle.op_core.specs.declared.constant.Const.{Const}
use Rattle.op_core.specs.declared.constant.Const.TheVariants as const
use Rattle.op_core.specs.declared.ids.TypeId.{TypeId}
use Rattle.op_core.specs.declared.operation.Function.{Function}
use Rattle.op_core.specs.declared.operation.Function.TheVariants.{Length, Low, High, Ord, Succ, Pred, Abs, Sqr, Odd, UpCase}
use Rattle.op_core.specs.declared.program.Core.{Core}
use Rattle.op_tree.specs.Expression.{Expression, chain, prefixed, number, nil, set, literal, designated, inherited, Operations, no_operations, operation, Elements, no_elements, elements, Element, one, range, Designator, designator, named, bracketed, no_selectors, selectors, member, call, Arguments, no_arguments, arguments, value}
use Rattle.op_tree.specs.declared.operator.Operator.{Operator}
use Rattle.op_tree.specs.declared.operator.Operator.TheVariants.{Add}
use Rattle.op_tree.specs.declared.operator.PrefixOperator.{PrefixOperator}
use Rattle.op_tree.specs.declared.position.Name.{Name}
use Rattle.op_typed.proofs.Fitting.{application_fits, bound_fits, cast_fits, char_fits, contained, elements_all, number_within, operation_fits, pair_of, prefix_fits, set_fits, within_integer}
use Rattle.op_typed.proofs.Sorting.{stands_as}
use Rattle.op_typed.proofs.TypeFacts.{IsSmall, Takes, assigned_kind, between_some, empty_set_kind, nil_kind, over_common, over_common_set, over_is_set, over_takes, stands_for, string_kind}
use Rattle.op_types.specs.Assignable.{assignable}
use Rattle.op_judgement.proofs.Completing.{whole_behind, whole_changed_so, whole_entered, whole_followed, whole_gives, whole_rule, whole_tested, whole_two, whole_with}
use Rattle.op_judgement.specs.Judgement.{Judgement, checked, fine, followed, through, with_part as when}
use Rattle.op_judgement.specs.declared.rules.LanguageRule.{LanguageRule}
use Rattle.op_judgement.specs.declared.rules.LanguageRule.TheVariants.{NoCast, NoOperator, NoSetElement, NotAssignable, NotOrdinal, NumberTooLarge, OutOfRange}
use Rattle.op_types.specs.Assignable.{true_of}
use Rattle.op_types.specs.ConstantParts.{behind_name, boxed, is_folded, is_ordinal, joined, joined_name, made, members_of, no_members, nodes, number_behind, rule_of, start_of, start_of_element, text_constant, type_named, use_of, use_of_function}
use Rattle.op_types.specs.Folding.{all_between, are_constant_elements, are_constant_operands, argument_means, bound_means, call_means, constant, designated_constant, element, element_means, entered, from_to, gathered_means, in_brackets, is_constant, is_constant_argument, is_constant_call, is_constant_designator, is_constant_element, is_constant_name, members, name_means, numeral, operation_means, operations, operator_means, or_number, pair, prefix_means, range_means, single_means, use_means}
use Rattle.op_types.specs.Names.{Named, lower, meaning_of}
use Rattle.op_types.specs.Operators as table
use Rattle.op_types.specs.Sets.{between, combined, common_set, is_between, set_over}
use Rattle.op_types.specs.Sorts.{are_sets, kind_of, sort_of}
use Rattle.op_typed.specs.Standing.{AllStand, IsSoundConstant, StandsFor}
use Rattle.op_types.specs.Values.{applied, before, bound_of, cast, contains, number_of, operated, within}
use Rattle.op_types.specs.declared.constant.Weight.{Weight}
use Rattle.op_types.specs.declared.constant.Applied.{Applied}
use Rattle.op_types.specs.declared.constant.Applied.TheVariants.{Cast, Function as Function'}
use Rattle.op_types.specs.declared.constant.Constant.{Constant}
use Rattle.op_types.specs.declared.constant.Use.{Use}
use Rattle.op_types.specs.declared.constant.Use.TheVariants.{Unknown, Silent, Bound, Apply}
use Rattle.op_types.specs.declared.sort.OrdinalKind.{OrdinalKind}
use Rattle.op_types.specs.declared.sort.Sort.{Sort}
use Rattle.op_types.specs.declared.sort.Sort.TheVariants.{Ordinal}
use Rattle.op_types.specs.declared.visible.BuiltIn.TheVariants.{Chr, Function as FunctionNamed}
use Rattle.op_types.specs.declared.visible.Meaning.{Meaning}
use Rattle.op_types.specs.declared.visible.Meaning.TheVariants.{Constant as ConstantNamed, TypeName, Unit as UnitNamed, BuiltIn as BuiltInNamed, Spoiled}

entered_whole : (core : Core) (rule : LanguageRule) (place : Place) (of : TypeId) (w : Weight) (v : Option Const) → ((x : Const) → v ≡ Some x → Fits core x of) → Whole (IsSoundConstant core) (checked (entered rule place of w v))
entered_whole core rule place of w v h = whole_entered rule place v (λ x e. whole_gives (h x e))

pub numeral_whole : {core : Core} → IsFounded core → (place : Place) (count : ℕ) (n : ℤ) → Whole (IsSoundConstant core) (checked (numeral place count n))
numeral_whole {core} f place count n = entered_whole core NumberTooLarge place table.integer (nodes count) (within n) (λ v e. within_integer n v f e)

pub literal_sound : {core : Core} → IsFounded core → (text : List ℕ) → IsSoundConstant core (text_constant text)
literal_sound f (b ∷ []) = char_fits (pos (b % 256)) f (omega (arith, ints), omega (arith, ints))
literal_sound f [] = string_kind f
literal_sound f (b ∷ c ∷ bs) = string_kind f

pub prefix_whole : {core : Core} → IsFounded core → (place : Place) (o : PrefixOperator) (a : Constant) → IsSoundConstant core a → Whole (IsSoundConstant core) (checked (prefix_means core place o a))
prefix_whole {core} f place o a s =
    whole_entered NoOperator place (table.prefixed o (sort_of core a.of)) (λ of e. entered_whole core OutOfRange place of (joined a.weight (nodes 0)) (before o of (number_of a.value)) (λ v g. prefix_fits o a.of of a.value v f s e g))

pub operator_whole : {core : Core} → IsFounded core → (start : Place) (o : Operator) (place : Place) (a b : Constant) → IsSoundConstant core a → IsSoundConstant core b → Whole (IsSoundConstant core) (checked (operator_means core start o place a b))
operator_whole {core} f start o place a b s t =
    whole_entered NoOperator place (table.operation o (sort_of core a.of) (sort_of core b.of) (common_set core a.of b.of))
    (λ of e. entered_whole core OutOfRange start of (joined a.weight b.weight) (operated o (sort_of core a.of) (sort_of core b.of) a.value b.value) (λ v g. operation_fits o a.of b.of of a.value b.value v f s t e g))

pub use_whole : {core : Core} → IsFounded core → (what : Applied) (place at : Place) (a : Constant) → IsSoundConstant core a → Whole (IsSoundConstant core) (checked (use_means core what place at a))
use_whole {core} f (Cast of) place at a s =
    whole_tested NoCast place (is_ordinal (sort_of core a.of)) (λ t. entered_whole core OutOfRange place of (joined a.weight (nodes 0)) (cast (type_at core of) (number_of a.value)) (λ v e. cast_fits core of (number_of a.value) v e))
use_whole {core} f (Function' g) place at a s =
    whole_entered (rule_of g) at (table.application g (sort_of core a.of) a.of) (λ of e. entered_whole core OutOfRange place of (joined a.weight (nodes 0)) (applied core g a.of a.value) (λ v h. application_fits g a.of of a.value v f s e h))

pub bound_whole : {core : Core} → IsFounded core → (g : Function) (of : TypeId × Place) → Whole (IsSoundConstant core) (checked (bound_means core g of))
bound_whole {core} f g of = whole_entered NotOrdinal of.1 (bound_of core g of.0) (λ b e. whole_gives (bound_fits g of.0 b f e))

-- ---- sets

-- a constant that may be an element of a set
record MayBeElement (core : Core) (a : Constant) : Type 0 where
  kind : OrdinalKind
  sort : sort_of core a.of ≡ Ordinal kind
  is : kind_of core a.of ≡ Some kind
  small : IsSmall (number_of a.value)
  within : IsSomeAnd (range_of (type_at core a.of)) (λ r. Within r (number_of a.value))

pub ordinal_sort : (s : Sort) → is_ordinal s ≡ true → (k : OrdinalKind) × (s ≡ Ordinal k)
ordinal_sort (Ordinal k) h = (k, refl)
ordinal_sort s h = absurd (cc)

element_of_whole : (core : Core) (at : Place) (a : Constant) → IsSoundConstant core a → Whole (MayBeElement core) (checked (element_means core at a))
element_of_whole core at a s =
    whole_tested NotOrdinal at (is_ordinal (sort_of core a.of)) (λ o. whole_tested NoSetElement at (contains (pos 0, pos 31) (number_of a.value)) (λ c. whole_gives (
    let k = ordinal_sort (sort_of core a.of) o in
    let i = (stands_as core a.of (Ordinal k.0) k.1).1 in
    record { kind = k.0; sort = k.1; is = i; small = contained (pos 0) (pos 31) (number_of a.value) c; within = number_within core a.of a.value k.0 i s })))

element_whole : (core : Core) (at : Place) {o : Option Constant} → Filled (IsSoundConstant core) o → Whole (MayBeElement core) (checked (when (element_means core at) o))
element_whole core at h = whole_with h (λ a s. element_of_whole core at a s)

between_all : (P : ℕ → Type 0) (low high : ℤ) → ((n : ℕ) → low ≤ℤ pos n → pos n ≤ℤ high → P n) → All P (between low high)
between_all P low high h = elements_all P (is_between low high) (λ n e. let p = contained low high (pos n) e in h n p.0 p.1)

-- between two numbers that it takes a set type takes all
takes_between : (core : Core) (to : TypeId) (a b n : ℤ) → Takes core to a → Takes core to b → a ≤ℤ n → n ≤ℤ b → Takes core to n
takes_between core to a b n h g l u = go (base_of (type_at core to)) h g
  where
    go : (o : Option TypeId) → IsSomeAnd o (λ base. IsSomeAnd (range_of (type_at core base)) (λ r. Within r a)) → IsSomeAnd o (λ base. IsSomeAnd (range_of (type_at core base)) (λ r. Within r b)) → IsSomeAnd o (λ base. IsSomeAnd (range_of (type_at core base)) (λ r. Within r n))
    go (Some base) h g = between_some (range_of (type_at core base)) h g l u
    go None h g = absurd h

pub single_whole : {core : Core} → IsFounded core → (at : Place) {o : Option Constant} → Filled (IsSoundConstant core) o → Whole (IsSoundConstant core) (checked (single_means core at o))
single_whole {core} f at h = whole_behind (element_whole core at h) (λ a s. whole_gives (
    let t = over_takes a.of (number_of a.value) s.kind f s.is s.within s.small in
    set_fits (set_over core a.of) (between (number_of a.value) (number_of a.value)) f (over_is_set a.of s.kind f s.is)
    (between_all (λ n. Takes core (set_over core a.of) (pos n)) (number_of a.value) (number_of a.value) (λ n l u. takes_between core (set_over core a.of) (number_of a.value) (number_of a.value) (pos n) t t l u))))

from_to_whole : {core : Core} → IsFounded core → (at : Place) (a b : Constant) → MayBeElement core a → MayBeElement core b → Whole (IsSoundConstant core) (checked (from_to core at a b))
from_to_whole {core} f at a b s t = whole_tested NotAssignable at (assignable core b.of a.of) (λ e. whole_gives {a = all_between core a b} (
    let to = common_set core (set_over core a.of) (set_over core b.of) in
    let same : kind_of core b.of ≡ Some s.kind = t.is ∙ ap Some (assigned_kind b.of a.of t.kind s.kind f t.is s.is t.sort s.sort e) in
    let low = over_common a.of b.of (number_of a.value) s.kind f s.is same s.small (inl s.within) in
    let high = over_common a.of b.of (number_of b.value) s.kind f s.is same t.small (inr t.within) in
    set_fits to (between (number_of a.value) (number_of b.value)) f (over_common_set a.of b.of s.kind f s.is same)
    (between_all (λ n. Takes core to (pos n)) (number_of a.value) (number_of b.value) (λ n l u. takes_between core to (number_of a.value) (number_of b.value) (pos n) low high l u))))

pub range_whole : {core : Core} → IsFounded core → (at at' : Place) {o q : Option Constant} → Filled (IsSoundConstant core) o → Filled (IsSoundConstant core) q → Whole (IsSoundConstant core) (checked (range_means core at o at' q))
range_whole {core} f at at' {o} {q} h k =
    whole_behind (whole_two {R = λ ab. MayBeElement core ab.0 × MayBeElement core ab.1} pair (element_whole core at h) (element_whole core at' k) (λ a b p q. (p, q))) (λ ab p. from_to_whole f at' ab.0 ab.1 p.0 p.1)

pub gathered_whole : {core : Core} → IsFounded core → (at : Place) {o q : Option Constant} → Filled (IsSoundConstant core) o → Filled (IsSoundConstant core) q → Whole (IsSoundConstant core) (checked (gathered_means core at o q))
gathered_whole {core} f at h k = whole_with h (λ a s. whole_with k (λ b t. whole_tested NotAssignable at (are_sets (sort_of core a.of) (sort_of core b.of)) (λ e. whole_gives (
    let p = pair_of a.of b.of a.value b.value f s t e in
    subst (λ m. Fits core (const.Set (combined Add m (members_of b.value))) (common_set core a.of b.of)) (sym (ap members_of p.left)) (subst (λ m. Fits core (const.Set (combined Add p.xs m)) (common_set core a.of b.of)) (sym (ap members_of p.right)) (p.fits Add))))))

-- ---- names

pub stands_if : (core : Core) (sees : Sees) (names : List Named) → AllStand core sees names → (key : List ℕ) → IfSome (meaning_of names key) (StandsFor core sees)
stands_if core sees names all key = go (meaning_of names key) refl
  where
    go : (m : Option Meaning) → meaning_of names key ≡ m → IfSome m (StandsFor core sees)
    go (Some m) e = stands_for core sees names all key m e
    go None e = tt

-- in a record above Type 0, as the judgement is
record IsWhole (core : Core) (j : Judgement Constant) : Type 1 where
  whole : Whole (IsSoundConstant core) (checked j)

name_whole : (core : Core) (sees : Sees) (place : Place) (m : Option Meaning) → IfSome m (StandsFor core sees) → is_constant_name m ≡ true → IsWhole core (name_means place m)
name_whole core sees place None h c = record { whole = whole_rule }
name_whole core sees place (Some Spoiled) h c = absurd h
name_whole core sees place (Some (ConstantNamed x)) h c = record { whole = whole_gives h }
name_whole core sees place (Some m) h c = absurd (false≢true c)

-- of what a name behind another stands for
qualified_whole : (core : Core) (sees : Sees) (names : List Named) → AllStand core sees names → (n m : Name) (o : Option Meaning) (test : Option Meaning × Place → Bool) (f : Option Meaning × Place → Judgement Constant) → ((q : Option Meaning × Place) → IfSome q.0 (StandsFor core sees) → test q ≡ true → IsWhole core (f q)) → true_of test (behind_name names n m o) ≡ true → IsWhole core (when f (behind_name names n m o))
qualified_whole core sees names all n m (Some (UnitNamed id)) test f h c = record { whole = (h (meaning_of names (joined_name n.text m.text), m.position.place) (stands_if core sees names all (joined_name n.text m.text)) c).whole }
qualified_whole core sees names all n m None test f h c = record { whole = (h (None, n.position.place) tt c).whole }
qualified_whole core sees names all n m (Some o) test f h c = absurd (false≢true c)

-- ---- calls

-- what is done is no silence
abbrev Speaks : Option Use → Type 0
Speaks (Some Silent) = ⊥
Speaks u = Unit {0}

function_speaks : (f : Function) → Speaks (use_of_function f)
function_speaks Low = tt
function_speaks High = tt
function_speaks Ord = tt
function_speaks Succ = tt
function_speaks Pred = tt
function_speaks Abs = tt
function_speaks Sqr = tt
function_speaks Odd = tt
function_speaks UpCase = tt
function_speaks Length = tt
function_speaks f = tt

use_speaks : (core : Core) (sees : Sees) (m : Option Meaning) → IfSome m (StandsFor core sees) → Speaks (use_of core m)
use_speaks core sees None h = tt
use_speaks core sees (Some Spoiled) h = absurd h
use_speaks core sees (Some (TypeName of)) h = go (is_some (kind_of core of))
  where
    go : (b : Bool) → Speaks (if b then Some (Apply (Cast of)) else None)
    go true = tt
    go false = tt
use_speaks core sees (Some (BuiltInNamed Chr)) h = tt
use_speaks core sees (Some (BuiltInNamed (FunctionNamed f))) h = function_speaks f
use_speaks core sees (Some m) h = tt

call_whole : {core : Core} → IsFounded core → (place : Place) (of : Option (TypeId × Place)) (b : Bool) (g : Applied → Judgement Constant) (u : Option Use) → is_constant_call of b u ≡ true → Speaks u → ((what : Applied) → b ≡ true → IsWhole core (g what)) → IsWhole core (call_means core place of g u)
call_whole f place of b g None c k h = absurd (false≢true c)
call_whole f place of b g (Some Unknown) c k h = record { whole = whole_rule }
call_whole f place of b g (Some Silent) c k h = absurd k
call_whole f place None b g (Some (Bound x)) c k h = absurd (false≢true c)
call_whole f place (Some of) b g (Some (Bound x)) c k h = record { whole = bound_whole f x of }
call_whole f place of b g (Some (Apply what)) c k h = h what c

-- ---- all of it

operation_whole : {core : Core} → IsFounded core → (start : Place) (o : Operator) (place : Place) {a b : Option Constant} → Filled (IsSoundConstant core) a → Filled (IsSoundConstant core) b → Whole (IsSoundConstant core) (checked (operation_means core start o place a b))
operation_whole f start o place h k = whole_with h (λ a s. whole_with k (λ b t. operator_whole f start o place a b s t))

-- of two parts, each of which may have no meaning
of_both : (core : Core) (j k : Judgement Constant) (g : Option Constant → Option Constant → Judgement Constant) → Whole (IsSoundConstant core) (checked j) → Whole (IsSoundConstant core) (checked k) → ((o q : Option Constant) → Filled (IsSoundConstant core) o → Filled (IsSoundConstant core) q → Whole (IsSoundConstant core) (checked (g o q))) → IsWhole core (followed j (λ a. followed k (g a)))
of_both core j k g h i l = record {
  whole = whole_followed {c = checked j} {f = λ o. checked (followed k (g o))} h (λ o m. whole_followed {c = checked k} {f = λ q. checked (g o q)} i (λ q n. l o q m n));
}

boxed_whole : (core : Core) (j : Judgement Constant) → IsWhole core j → IsWhole core (in_brackets j)
boxed_whole core j h = record { whole = whole_changed_so boxed h.whole (λ a s. s) }

no_members_sound : {core : Core} → IsFounded core → IsSoundConstant core no_members
no_members_sound f = let k = empty_set_kind f in rw k tt

nil_sound : {core : Core} → IsFounded core → (w : Weight) → IsSoundConstant core (made const.Nil table.nil w)
nil_sound f w = let k = nil_kind f in rw k refl

numbered : {core : Core} → IsFounded core → (n : Option (ℕ × Place)) (j : Judgement Constant) → IsWhole core j → IsWhole core (or_number n j)
numbered f None j h = h
numbered f (Some n) j h = record { whole = numeral_whole f n.1 2 (neg_ℤ (pos n.0)) }

mutual
  constant_if : (core : Core) (sees : Sees) (names : List Named) → IsFounded core → AllStand core sees names → (e : Expression) → is_constant core names e ≡ true → IsWhole core (constant core names e)
  constant_if core sees names f all (chain first rest) c =
      let k = and_parts (is_constant core names first) (are_constant_operands core names rest) c in
      operations_if core sees names f all (start_of first) (constant core names first) (constant_if core sees names f all first k.0) rest k.1
  constant_if core sees names f all (prefixed o p e) c =
      numbered f (number_behind o e) (through (constant core names e) (prefix_means core p.place o)) (record { whole = whole_behind (constant_if core sees names f all e c).whole (λ a s. prefix_whole f p.place o a s) })
  constant_if core sees names f all (number n p) c = record { whole = numeral_whole f p.place 1 (pos n) }
  constant_if core sees names f all (nil p) c = record { whole = whole_gives (nil_sound f (nodes 1)) }
  constant_if core sees names f all (literal text p no_selectors) c = record { whole = whole_gives (literal_sound f text) }
  constant_if core sees names f all (literal text p (selectors s ss)) c = absurd (false≢true c)
  constant_if core sees names f all (designated d) c = designated_if core sees names f all d c
  constant_if core sees names f all (set p es) c =
      boxed_whole core (members core names (fine no_members) es) (members_if core sees names f all (fine no_members) (record { whole = whole_gives (no_members_sound f) }) es c)
  constant_if core sees names f all (inherited p d) c = absurd (false≢true c)

  operations_if : (core : Core) (sees : Sees) (names : List Named) → IsFounded core → AllStand core sees names → (start : Place) (a : Judgement Constant) → IsWhole core a → (rest : Operations) → are_constant_operands core names rest ≡ true → IsWhole core (operations core names start a rest)
  operations_if core sees names f all start a h no_operations c = h
  operations_if core sees names f all start a h (operation o p e others) c =
      let k = and_parts (is_constant core names e) (are_constant_operands core names others) (and_parts (is_folded o) (is_constant core names e && are_constant_operands core names others) c).1 in
      operations_if core sees names f all start (followed a (λ a. followed (constant core names e) (operation_means core start o p.place a)))
      (of_both core a (constant core names e) (operation_means core start o p.place) h.whole (constant_if core sees names f all e k.0).whole (λ a b m n. operation_whole f start o p.place m n)) others k.1

  members_if : (core : Core) (sees : Sees) (names : List Named) → IsFounded core → AllStand core sees names → (a : Judgement Constant) → IsWhole core a → (es : Elements) → are_constant_elements core names es ≡ true → IsWhole core (members core names a es)
  members_if core sees names f all a h no_elements c = h
  members_if core sees names f all a h (elements e es) c =
      let k = and_parts (is_constant_element core names e) (are_constant_elements core names es) c in
      members_if core sees names f all (followed a (λ a. followed (element core names e) (gathered_means core (start_of_element e) a)))
      (of_both core a (element core names e) (gathered_means core (start_of_element e)) h.whole (element_if core sees names f all e k.0).whole (λ a b m n. gathered_whole f (start_of_element e) m n)) es k.1

  element_if : (core : Core) (sees : Sees) (names : List Named) → IsFounded core → AllStand core sees names → (e : Element) → is_constant_element core names e ≡ true → IsWhole core (element core names e)
  element_if core sees names f all (one e) c =
      record { whole = whole_followed {f = λ o. checked (single_means core (start_of e) o)} (constant_if core sees names f all e c).whole (λ o k. single_whole f (start_of e) k) }
  element_if core sees names f all (range e g) c =
      let k = and_parts (is_constant core names e) (is_constant core names g) c in
      of_both core (constant core names e) (constant core names g) (λ a. range_means core (start_of e) a (start_of g)) (constant_if core sees names f all e k.0).whole (constant_if core sees names f all g k.1).whole (λ a b m n. range_whole f (start_of e) (start_of g) m n)

  designated_if : (core : Core) (sees : Sees) (names : List Named) → IsFounded core → AllStand core sees names → (d : Designator) → is_constant_designator core names d ≡ true → IsWhole core (designated_constant core names d)
  designated_if core sees names f all (designator (named n) no_selectors) c =
      name_whole core sees n.position.place (meaning_of names (lower n.text)) (stands_if core sees names all (lower n.text)) c
  designated_if core sees names f all (designator (named n) (selectors (member m) no_selectors)) c =
      qualified_whole core sees names all n m (meaning_of names (lower n.text)) (λ q. is_constant_name q.0) (λ q. name_means q.1 q.0) (λ q s k. name_whole core sees q.1 q.0 s k) c
  designated_if core sees names f all (designator (named n) (selectors (call args) no_selectors)) c =
      call_whole f n.position.place (type_named names args) (is_constant_argument core names args) (argument_means core names n.position.place args) (use_of core (meaning_of names (lower n.text))) c
      (use_speaks core sees (meaning_of names (lower n.text)) (stands_if core sees names all (lower n.text))) (argument_if core sees names f all n.position.place args)
  designated_if core sees names f all (designator (named n) (selectors (member m) (selectors (call args) no_selectors))) c =
      qualified_whole core sees names all n m (meaning_of names (lower n.text)) (λ q. is_constant_call (type_named names args) (is_constant_argument core names args) (use_of core q.0)) (λ q. call_means core q.1 (type_named names args) (argument_means core names q.1 args) (use_of core q.0)) (λ q s k.
      call_whole f q.1 (type_named names args) (is_constant_argument core names args) (argument_means core names q.1 args) (use_of core q.0) k (use_speaks core sees q.0 s) (argument_if core sees names f all q.1 args)) c
  designated_if core sees names f all (designator (bracketed p e) no_selectors) c = boxed_whole core (constant core names e) (constant_if core sees names f all e c)
  designated_if core sees names f all d c = absurd (false≢true c)

  argument_if : (core : Core) (sees : Sees) (names : List Named) → IsFounded core → AllStand core sees names → (place : Place) (args : Arguments) (what : Applied) → is_constant_argument core names args ≡ true → IsWhole core (argument_means core names place args what)
  argument_if core sees names f all place (arguments (value e) no_arguments) what c =
      record { whole = whole_behind (constant_if core sees names f all e c).whole (λ a s. use_whole f what place (start_of e) a s) }
  argument_if core sees names f all place args what c = record { whole = whole_rule }

-- A constant expression has a sound value or breaks a rule.
pub folded_whole : {core : Core} (sees : Sees) (names : List Named) → IsFounded core → AllStand core sees names → (e : Expression) → is_constant core names e ≡ true → Whole (IsSoundConstant core) (checked (constant core names e))
folded_whole {core} sees names f all e c = (constant_if core sees names f all e c).whole
