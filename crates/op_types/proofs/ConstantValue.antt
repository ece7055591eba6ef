-- A constant expression has a value, or breaks a rule, or a name in it is spoiled.
use Rattle.std.proofs.Common.{◌≡◌, ◌⊎◌, inl, inr, ℕ, pos, neg_ℤ, Bool, true, false, List, Option, Some, None, is_some, if◌then◌else◌, refl}
use Rattle.std.proofs.lemmas.Bool.{and_parts, false≢true}
use Rattle.std.specs.Option.{option_map}
use Rattle.op_base.specs.declared.place.Place.{Place}
use Rattle.op_core.specs.Faults.{Checked, Faults, FirstIs, after, front}
use Rattle.op_core.specs.Relations.{Always, Filled, IsWhole, faulty, filled, typed}
use Rattle.op_core.specs.Sizes.{type_at}
use Rattle.op_core.specs.declared.constant.Const.{Const}
use Rattle.op_core.specs.declared.ids.TypeId.{TypeId}
use Rattle.op_core.specs.declared.operation.Function.{Function}
use Rattle.op_core.specs.declared.operation.Function.TheVariants.{Low}
use Rattle.op_core.specs.declared.program.Core.{Core}
use Rattle.op_judgement.proofs.Completing.{whole_after, whole_behind, whole_entered, whole_fine, whole_rule, whole_tested, whole_two, whole_with}
use Rattle.op_judgement.specs.Judgement.{Judgement, by, checked, fine, followed, through, with_part as when}
use Rattle.op_judgement.specs.declared.rules.LanguageRule.{LanguageRule}
use Rattle.op_judgement.specs.declared.rules.LanguageRule.TheVariants.{NoCast, NoOperator, NoSetElement, NotAssignable, NotOrdinal, NumberTooLarge, OutOfRange}
use Rattle.op_tree.specs.Expression.{Expression, chain, prefixed, number, nil, set, literal, designated, inherited, Operations, no_operations, operation, Elements, no_elements, elements, Element, one, range, Designator, designator, named, bracketed, no_selectors, selectors, member, call, Arguments, no_arguments, arguments, value}
use Rattle.op_tree.specs.declared.operator.Operator.{Operator}
use Rattle.op_tree.specs.declared.operator.PrefixOperator.{PrefixOperator}
use Rattle.op_tree.specs.declared.position.Name.{Name}
use Rattle.op_types.specs.Answered.{ArgumentIsSpoiled, DesignatorIsSpoiled, ElementIsSpoiled, ElementsAreSpoiled, IsSpoiled, OperandsAreSpoiled}
use Rattle.op_types.specs.Assignable.{assignable, true_of}
use Rattle.op_types.specs.ConstantParts.{behind_name, boxed, is_folded, is_ordinal, joined, joined_name, no_members, nodes, number_behind, rule_of, start_of, start_of_element, type_named, use_of, use_of_function}
use Rattle.op_types.specs.Folding.{are_constant_elements, are_constant_operands, argument_means, bound_means, call_means, constant, designated_constant, element, element_means, entered, from_to, gathered_means, is_constant, is_constant_argument, is_constant_call, is_constant_designator, is_constant_element, is_constant_name, members, name_means, operation_means, operations, operator_means, or_number, pair, prefix_means, range_means, single_means, use_means}
use Rattle.op_types.specs.Operators as table
use Rattle.op_types.specs.Sets.{common_set}
use Rattle.op_types.specs.Sorts.{are_sets, sort_of}
use Rattle.op_types.specs.Values.{applied, before, bound_of, cast, contains, number_of, operated, within}
use Rattle.op_types.specs.declared.constant.Weight.{Weight}
use Rattle.op_types.specs.Names.{Named, lower, meaning_of}
use Rattle.op_types.specs.declared.constant.Applied.{Applied}
use Rattle.op_types.specs.declared.constant.Applied.TheVariants.{Cast, Function as Function'}
use Rattle.op_types.specs.declared.constant.Constant.{Constant}
use Rattle.op_types.specs.declared.constant.Use.{Use}
use Rattle.op_types.specs.declared.constant.Use.TheVariants.{Unknown, Silent, Bound, Apply}
use Rattle.op_types.specs.declared.visible.BuiltIn.TheVariants.{Chr, Function as FunctionNamed}
use Rattle.op_types.specs.declared.visible.Meaning.{Meaning}
use Rattle.op_types.specs.declared.visible.Meaning.TheVariants.{Constant as ConstantNamed, TypeName, Unit as UnitNamed, BuiltIn as BuiltInNamed, Spoiled}

-- it has a meaning or breaks a rule, or it is so
pub data Told {A : Type 0} (S : Type 0) (c : Checked A) : Type 1 where
  whole : IsWhole c → Told S c
  spoiled : S → Told S c

-- without a meaning, and without a rule that is broken
pub silent : {c : Checked Constant} {S : Type 0} → Told S c → None ≡ option_map (λ a. a.value) c.typed → FirstIs c.faults None → S
silent (whole (typed h)) e first = absurd (valued h e)
  where
    valued : {o : Option Constant} → Filled Always o → None ≡ option_map (λ a. a.value) o → ⊥
    valued (filled a p) e = absurd (cc)
silent (whole (faulty r i)) e first = absurd (first r i)
silent (spoiled s) e first = s

-- ---- parts

told_as : {A S R : Type 0} {c : Checked A} → Told S c → (S → R) → Told R c
told_as (whole h) g = whole h
told_as (spoiled s) g = spoiled (g s)

told_after : {A S : Type 0} {faults : Faults} {c : Checked A} → Told S c → Told S (after faults c)
told_after (whole h) = whole (whole_after h)
told_after (spoiled s) = spoiled s

told_followed : {A B S : Type 0} (c : Checked A) (f : Option A → Checked B) → Told S c → ((o : Option A) → Filled Always o → Told S (f o)) → Told S (after c.faults (f c.typed))
told_followed c f (whole (typed h)) g = told_after (g c.typed h)
told_followed c f (whole (faulty r i)) g = whole (faulty r (front i))
told_followed c f (spoiled s) g = spoiled s

told_with : {A B S : Type 0} (f : A → Checked B) {o : Option A} → Filled Always o → ((a : A) → Told S (f a)) → Told S (by f o)
told_with f (filled a p) g = g a

told_through : {A B S : Type 0} (j : Judgement A) (f : A → Judgement B) → Told S (checked j) → ((a : A) → IsWhole (checked (f a))) → Told S (checked (through j f))
told_through j f h g = told_followed (checked j) (by (λ a. checked (f a))) h (λ o k. told_with (λ a. checked (f a)) k (λ a. whole (g a)))

-- of two parts, each of which may have no meaning
told_two : {A B C S : Type 0} (j : Judgement A) (k : Judgement B) (f : Option A → Option B → Judgement C) → Told S (checked j) → Told S (checked k) → ((o : Option A) (q : Option B) → Filled Always o → Filled Always q → IsWhole (checked (f o q))) → Told S (checked (followed j (λ a. followed k (f a))))
told_two j k f h i g =
    told_followed (checked j) (λ o. checked (followed k (f o))) h (λ o m. told_followed (checked k) (λ q. checked (f o q)) i (λ q n. whole (g o q m n)))

told_changed : {A B S : Type 0} (f : A → B) (c : Checked A) → Told S c → Told S (record { typed = option_map f c.typed; faults = c.faults })
told_changed f c (whole (typed h)) = whole (typed (mapped f h))
  where
    mapped : {A B : Type 0} (f : A → B) {o : Option A} → Filled Always o → Filled Always (option_map f o)
    mapped f (filled a p) = filled (f a) tt
told_changed f c (whole (faulty r i)) = whole (faulty r i)
told_changed f c (spoiled s) = spoiled s

-- ---- what always has a meaning or breaks a rule

entered_whole : (rule : LanguageRule) (place : Place) (of : TypeId) (w : Weight) (v : Option Const) → IsWhole (checked (entered rule place of w v))
entered_whole rule place of w None = whole_rule
entered_whole rule place of w (Some v) = whole_fine

prefix_whole : (core : Core) (place : Place) (o : PrefixOperator) (a : Constant) → IsWhole (checked (prefix_means core place o a))
prefix_whole core place o a =
    let w = joined a.weight (nodes 0) in
    whole_entered NoOperator place (table.prefixed o (sort_of core a.of)) (λ of _. entered_whole OutOfRange place of w (before o of (number_of a.value)))

operator_whole : (core : Core) (start : Place) (o : Operator) (place : Place) (a b : Constant) → IsWhole (checked (operator_means core start o place a b))
operator_whole core start o place a b =
    let w = joined a.weight b.weight in
    let v = operated o (sort_of core a.of) (sort_of core b.of) a.value b.value in
    whole_entered NoOperator place (table.operation o (sort_of core a.of) (sort_of core b.of) (common_set core a.of b.of)) (λ of _. entered_whole OutOfRange start of w v)

operation_whole : (core : Core) (start : Place) (o : Operator) (place : Place) (a b : Option Constant) → Filled Always a → Filled Always b → IsWhole (checked (operation_means core start o place a b))
operation_whole core start o place a b h k =
    whole_with h (λ a _. whole_with k (λ b _. operator_whole core start o place a b))

use_whole : (core : Core) (what : Applied) (place at : Place) (a : Constant) → IsWhole (checked (use_means core what place at a))
use_whole core (Cast of) place at a =
    let w = joined a.weight (nodes 0) in
    let v = cast (type_at core of) (number_of a.value) in
    whole_tested NoCast place (is_ordinal (sort_of core a.of)) (λ _. entered_whole OutOfRange place of w v)
use_whole core (Function' f) place at a =
    let w = joined a.weight (nodes 0) in
    let v = applied core f a.of a.value in
    whole_entered (rule_of f) at (table.application f (sort_of core a.of) a.of) (λ of _. entered_whole OutOfRange place of w v)

bound_whole : (core : Core) (f : Function) (of : TypeId × Place) → IsWhole (checked (bound_means core f of))
bound_whole core f of = whole_entered NotOrdinal of.1 (bound_of core f of.0) (λ b _. whole_fine)

-- ---- sets

element_whole : (core : Core) (at : Place) (a : Constant) → IsWhole (checked (element_means core at a))
element_whole core at a =
    whole_tested NotOrdinal at (is_ordinal (sort_of core a.of)) (λ _. whole_tested NoSetElement at (contains (pos 0, pos 31) (number_of a.value)) (λ _. whole_fine))

elements_whole : (core : Core) (at : Place) (a : Option Constant) → Filled Always a → IsWhole (checked (when (element_means core at) a))
elements_whole core at a h = whole_with h (λ a _. element_whole core at a)

single_whole : (core : Core) (at : Place) (a : Option Constant) → Filled Always a → IsWhole (checked (single_means core at a))
single_whole core at a h = whole_behind (elements_whole core at a h) (λ a _. whole_fine)

from_to_whole : (core : Core) (at : Place) (a b : Constant) → IsWhole (checked (from_to core at a b))
from_to_whole core at a b = whole_tested NotAssignable at (assignable core b.of a.of) (λ _. whole_fine)

range_whole : (core : Core) (at at' : Place) (a b : Option Constant) → Filled Always a → Filled Always b → IsWhole (checked (range_means core at a at' b))
range_whole core at at' a b h k =
    whole_behind (whole_two {R = Always} pair (elements_whole core at a h) (elements_whole core at' b k) (λ a b _ _. tt)) (λ ab _. from_to_whole core at' ab.0 ab.1)

gathered_whole : (core : Core) (at : Place) (a b : Option Constant) → Filled Always a → Filled Always b → IsWhole (checked (gathered_means core at a b))
gathered_whole core at a b h k =
    whole_with h (λ a _. whole_with k (λ b _. whole_tested NotAssignable at (are_sets (sort_of core a.of) (sort_of core b.of)) (λ _. whole_fine)))

-- ---- names and calls

name_told : (place : Place) (m : Option Meaning) → is_constant_name m ≡ true → Told (m ≡ Some Spoiled) (checked (name_means place m))
name_told place None c = whole whole_rule
name_told place (Some Spoiled) c = spoiled refl
name_told place (Some (ConstantNamed x)) c = whole whole_fine
name_told place (Some m) c = absurd (false≢true c)

not_known : {Z S : Type 0} → (None ≡ Some Spoiled) ⊎ S → Z ⊎ S
not_known (inl e) = absurd (cc)
not_known (inr s) = inr s

-- of what a name behind another stands for
qualified_told : {S : Type 0} (names : List Named) (n m : Name) (o : Option Meaning) (test : Option Meaning × Place → Bool) (f : Option Meaning × Place → Judgement Constant) → ((q : Option Meaning × Place) → test q ≡ true → Told ((q.0 ≡ Some Spoiled) ⊎ S) (checked (f q))) → true_of test (behind_name names n m o) ≡ true → Told ((meaning_of names (joined_name n.text m.text) ≡ Some Spoiled) ⊎ S) (checked (when f (behind_name names n m o)))
qualified_told names n m (Some (UnitNamed id)) test f h c = h (meaning_of names (joined_name n.text m.text), m.position.place) c
qualified_told names n m None test f h c = told_as (h (None, n.position.place) c) not_known
qualified_told names n m (Some o) test f h c = absurd (false≢true c)

bound_told : {S : Type 0} (core : Core) (f : Function) (of : Option (TypeId × Place)) → is_some of ≡ true → Told S (checked (when (bound_means core f) of))
bound_told core f None e = absurd (false≢true e)
bound_told core f (Some of) e = whole (bound_whole core f of)

call_told : {S : Type 0} (core : Core) (place : Place) (of : Option (TypeId × Place)) (b : Bool) (g : Applied → Judgement Constant) (u : Option Use) → is_constant_call of b u ≡ true → ((what : Applied) → b ≡ true → Told S (checked (g what))) → Told ((u ≡ Some Silent) ⊎ S) (checked (call_means core place of g u))
call_told core place of b g None c h = absurd (false≢true c)
call_told core place of b g (Some Unknown) c h = whole whole_rule
call_told core place of b g (Some Silent) c h = spoiled (inl refl)
call_told core place of b g (Some (Bound f)) c h = bound_told core f of c
call_told core place of b g (Some (Apply what)) c h = told_as (h what c) inr

function_speaks : (f : Function) → use_of_function f ≡ Some Silent → ⊥
function_speaks Low e = absurd (cc)
function_speaks f e = absurd (cc)

type_speaks : (b : Bool) (what : Applied) → (if b then Some (Apply what) else None) ≡ Some Silent → ⊥
type_speaks true what e = absurd (cc)
type_speaks false what e = absurd (cc)

-- only what is spoiled is silent
silent_is : (core : Core) (m : Option Meaning) → use_of core m ≡ Some Silent → m ≡ Some Spoiled
silent_is core (Some Spoiled) e = refl
silent_is core (Some (TypeName of)) e = absurd (type_speaks _ _ e)
silent_is core (Some (BuiltInNamed (FunctionNamed f))) e = absurd (function_speaks f e)
silent_is core (Some (BuiltInNamed Chr)) e = absurd (cc)
silent_is core m e = absurd (cc)

spoiled_call : {S : Type 0} (core : Core) (m : Option Meaning) → (use_of core m ≡ Some Silent) ⊎ S → (m ≡ Some Spoiled) ⊎ S
spoiled_call core m (inl e) = inl (silent_is core m e)
spoiled_call core m (inr s) = inr s

-- ---- expressions

regrouped : {P Q R : Type 0} → (P ⊎ Q) ⊎ R → P ⊎ (Q ⊎ R)
regrouped (inl (inl p)) = inl p
regrouped (inl (inr q)) = inr (inl q)
regrouped (inr r) = inr (inr r)

first_only : {P : Type 0} → P ⊎ ⊥ → P
first_only (inl p) = p
first_only (inr never) = absurd never

last_only : {P : Type 0} → ⊥ ⊎ P → P
last_only (inl never) = absurd never
last_only (inr p) = p

numbered : {S : Type 0} (n : Option (ℕ × Place)) (j : Judgement Constant) → Told S (checked j) → Told S (checked (or_number n j))
numbered None j h = h
numbered (Some n) j h = whole (entered_whole NumberTooLarge n.1 table.integer (nodes 2) (within (neg_ℤ (pos n.0))))

mutual
  pub has_value : (core : Core) (names : List Named) (e : Expression) → is_constant core names e ≡ true → Told (IsSpoiled names e) (checked (constant core names e))
  has_value core names (chain first rest) c =
      let k = and_parts (is_constant core names first) (are_constant_operands core names rest) c in
      behind_told core names (start_of first) (constant core names first) (IsSpoiled names first) rest k.1 (has_value core names first k.0)
  has_value core names (prefixed o p e) c =
      numbered (number_behind o e) (through (constant core names e) (prefix_means core p.place o)) (told_through (constant core names e) (prefix_means core p.place o) (has_value core names e c) (λ a. prefix_whole core p.place o a))
  has_value core names (number n p) c = whole (entered_whole NumberTooLarge p.place table.integer (nodes 1) (within (pos n)))
  has_value core names (nil p) c = whole whole_fine
  has_value core names (set p es) c =
      told_changed boxed (checked (members core names (fine no_members) es)) (told_as (gathered_told core names (fine no_members) ⊥ es c (whole whole_fine)) last_only)
  has_value core names (literal text p no_selectors) c = whole whole_fine
  has_value core names (literal text p (selectors s ss)) c = absurd (false≢true c)
  has_value core names (designated d) c = designator_told core names d c
  has_value core names (inherited p d) c = absurd (false≢true c)

  behind_told : (core : Core) (names : List Named) (start : Place) (a : Judgement Constant) (S : Type 0) (rest : Operations) → are_constant_operands core names rest ≡ true → Told S (checked a) → Told (S ⊎ OperandsAreSpoiled names rest) (checked (operations core names start a rest))
  behind_told core names start a S no_operations c h = told_as h inl
  behind_told core names start a S (operation o p e others) c h =
      let k = and_parts (is_constant core names e) (are_constant_operands core names others) (and_parts (is_folded o) _ c).1 in
      told_as (behind_told core names start (followed a (λ a. followed (constant core names e) (operation_means core start o p.place a))) (S ⊎ IsSpoiled names e) others k.1
      (told_two a (constant core names e) (operation_means core start o p.place) (told_as h inl) (told_as (has_value core names e k.0) inr) (operation_whole core start o p.place))) regrouped

  gathered_told : (core : Core) (names : List Named) (a : Judgement Constant) (S : Type 0) (es : Elements) → are_constant_elements core names es ≡ true → Told S (checked a) → Told (S ⊎ ElementsAreSpoiled names es) (checked (members core names a es))
  gathered_told core names a S no_elements c h = told_as h inl
  gathered_told core names a S (elements e es) c h =
      let k = and_parts (is_constant_element core names e) (are_constant_elements core names es) c in
      told_as (gathered_told core names (followed a (λ a. followed (element core names e) (gathered_means core (start_of_element e) a))) (S ⊎ ElementIsSpoiled names e) es k.1
      (told_two a (element core names e) (gathered_means core (start_of_element e)) (told_as h inl) (told_as (members_told core names e k.0) inr) (gathered_whole core (start_of_element e)))) regrouped

  members_told : (core : Core) (names : List Named) (e : Element) → is_constant_element core names e ≡ true → Told (ElementIsSpoiled names e) (checked (element core names e))
  members_told core names (one e) c =
      told_followed (checked (constant core names e)) (λ o. checked (single_means core (start_of e) o)) (has_value core names e c) (λ o k. whole (single_whole core (start_of e) o k))
  members_told core names (range e f) c =
      let k = and_parts (is_constant core names e) (is_constant core names f) c in
      told_two (constant core names e) (constant core names f) (λ a. range_means core (start_of e) a (start_of f)) (told_as (has_value core names e k.0) inl) (told_as (has_value core names f k.1) inr) (range_whole core (start_of e) (start_of f))

  designator_told : (core : Core) (names : List Named) (d : Designator) → is_constant_designator core names d ≡ true → Told (DesignatorIsSpoiled names d) (checked (designated_constant core names d))
  designator_told core names (designator (named n) no_selectors) c = name_told n.position.place (meaning_of names (lower n.text)) c
  designator_told core names (designator (named n) (selectors (member m) no_selectors)) c =
      told_as (qualified_told names n m (meaning_of names (lower n.text)) (λ q. is_constant_name q.0) (λ q. name_means q.1 q.0) (λ q k. told_as (name_told q.1 q.0 k) inl) c) first_only
  designator_told core names (designator (named n) (selectors (call args) no_selectors)) c =
      told_as (call_told core n.position.place (type_named names args) (is_constant_argument core names args) (argument_means core names n.position.place args) (use_of core (meaning_of names (lower n.text))) c (argument_told core names n.position.place args)) (spoiled_call core (meaning_of names (lower n.text)))
  designator_told core names (designator (named n) (selectors (member m) (selectors (call args) no_selectors))) c =
      qualified_told names n m (meaning_of names (lower n.text)) (λ q. is_constant_call (type_named names args) (is_constant_argument core names args) (use_of core q.0)) (λ q. call_means core q.1 (type_named names args) (argument_means core names q.1 args) (use_of core q.0)) (λ q k.
      told_as (call_told core q.1 (type_named names args) (is_constant_argument core names args) (argument_means core names q.1 args) (use_of core q.0) k (argument_told core names q.1 args)) (spoiled_call core q.0)) c
  designator_told core names (designator (bracketed p e) no_selectors) c = told_changed boxed (checked (constant core names e)) (has_value core names e c)
  designator_told core names d c = absurd (false≢true c)

  argument_told : (core : Core) (names : List Named) (place : Place) (args : Arguments) (what : Applied) → is_constant_argument core names args ≡ true → Told (ArgumentIsSpoiled names args) (checked (argument_means core names place args what))
  argument_told core names place (arguments (value e) no_arguments) what c = told_through (constant core names e) (use_means core what place (start_of e)) (has_value core names e c) (λ a. use_whole core what place (start_of e) a)
  argument_told core names place args what c = whole whole_rule
