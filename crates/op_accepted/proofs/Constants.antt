-- Where tables and names are fit, each constant of a declaration is fit.
use Rattle.std.proofs.Common.{◌≡◌, ℕ, pos, neg_ℤ, Bool, true, false, List, Option, Some, None, sym, arith, if◌then◌else◌}
use Rattle.std.proofs.lemmas.Option.{none-some}
use Rattle.std.specs.Option.{IfSome}
use Rattle.op_base.specs.declared.place.Place.{Place}
use Rattle.op_check_expr.specs.Phrases.{value as value_meant}
use Rattle.op_check_unit.specs.Types as types
use Rattle.op_check_unit.specs.Types.{built, constant_part, feature_of_constant, no_constant, scope_outside}
use Rattle.op_core.specs.Faults.{Checked}
use Rattle.op_core.specs.declared.constant.Const.{Const}
use Rattle.op_core.specs.declared.constant.Const.TheVariants as const
use Rattle.op_core.specs.declared.ids.TypeId.{TypeId}
use Rattle.op_core.specs.declared.program.Core.{Core}
use Rattle.op_judgement.specs.Judgement.{Judgement, checked, fine, followed, through, with_part as when}
use Rattle.op_tree.specs.Expression.{Expression, chain, prefixed, number, nil, set, literal, designated, inherited, Operations, no_operations, operation, Elements, no_elements, elements, Element, one, range, Designator, designator, named, bracketed, no_selectors, selectors, member, call, Arguments, no_arguments, arguments, value}
use Rattle.op_tree.specs.declared.operator.Operator.{Operator}
use Rattle.op_tree.specs.declared.position.Name.{Name}
use Rattle.op_types.specs.ConstantParts.{behind_name, boxed, joined_name, no_members, number_behind, start_of, start_of_element, text_constant, type_named, use_of}
use Rattle.op_types.specs.Folding.{argument_means, call_means, constant, designated_constant, element, gathered_means, is_constant, members, name_means, operation_means, operations, or_number, prefix_means}
use Rattle.op_types.specs.Names.{Named, lower, meaning_of}
use Rattle.op_types.specs.declared.constant.Applied.{Applied}
use Rattle.op_types.specs.declared.constant.Constant.{Constant}
use Rattle.op_types.specs.declared.constant.Use.{Use}
use Rattle.op_types.specs.declared.constant.Use.TheVariants.{Unknown, Silent, Bound, Apply}
use Rattle.op_types.specs.declared.visible.Meaning.{Meaning}
use Rattle.op_types.specs.declared.visible.Meaning.TheVariants.{Constant as ConstantNamed, Unit as UnitNamed}
use Rattle.op_accepted.specs.Fit.{IfAny, IfTyped, IsFitConstant, IsFitMeaning, IsFitTables, some, typed}
use Rattle.op_accepted.proofs.ConstantParts.{IsFitFolded, IsFitSet, bound_fits, gathered_fits, no_members_fit, numeral_fits, operator_fits, prefix_fits, range_fits, single_fits, text_fits, use_fits}
use Rattle.op_accepted.proofs.Leaves.{meant_if}
use Rattle.op_accepted.proofs.Parts.{any_typed, fits_after, fits_any, fits_as, fits_behind, fits_changed, fits_fine, fits_silent, fits_unshown, fits_with, present}
use Rattle.op_accepted.proofs.SetTypes.{set_solid}
use Rattle.op_accepted.proofs.Trees.{no_text_fits}
use Rattle.op_accepted.specs.State.{AreFitNames}

-- `nil` is a constant, which no declaration takes
abbrev IsFitOrNil : Core → Const → TypeId → Type 0
IsFitOrNil core const.Nil of = Unit {0}
IsFitOrNil core v of = IsFitConstant core v of

abbrev MayFit : Core → Constant → Type 0
MayFit core c = IsFitOrNil core c.value c.of

may_fit : (core : Core) (v : Const) (of : TypeId) → IsFitConstant core v of → IsFitOrNil core v of
may_fit core const.Nil of h = tt
may_fit core v of h = h

folded_may : (core : Core) {c : Checked Constant} → IfTyped (IsFitFolded core) c → IfTyped (MayFit core) c
folded_may core h = fits_as h (λ c k. may_fit core c.value c.of k.1)

-- ---- parts

-- in a record above Type 0, as the judgement is
record Fits {A : Type 0} (P : A → Type 0) (j : Judgement A) : Type 1 where
  fits : IfTyped P (checked j)

-- of two parts, each of which may have no meaning
of_both : {A B C : Type 0} (P : A → Type 0) (Q : B → Type 0) (R : C → Type 0) (j : Judgement A) (k : Judgement B) (g : Option A → Option B → Judgement C) → Fits P j → Fits Q k → ((o : Option A) (q : Option B) → IfAny P o → IfAny Q q → IfTyped R (checked (g o q))) → Fits R (followed j (λ a. followed k (g a)))
of_both P Q R j k g h i l = record { fits = fits_after (fits_after (l (checked j).typed (checked k).typed (any_typed h.fits) (any_typed i.fits))) }

-- ---- names

name_fits : (core : Core) (place : Place) (m : Option Meaning) → IfSome m (IsFitMeaning core) → Fits (MayFit core) (name_means place m)
name_fits core place None h = record { fits = fits_silent }
name_fits core place (Some (ConstantNamed c)) h = record { fits = fits_fine (may_fit core c.value c.of h) }
name_fits core place (Some m) h = record { fits = fits_silent }

-- of what a name behind another stands for
qualified_fits : (core : Core) (names : List Named) → AreFitNames core names → (n m : Name) (o : Option Meaning) (f : Option Meaning × Place → Judgement Constant) → ((q : Option Meaning × Place) → IfSome q.0 (IsFitMeaning core) → Fits (MayFit core) (f q)) → Fits (MayFit core) (when f (behind_name names n m o))
qualified_fits core names all n m (Some (UnitNamed id)) f h = record { fits = (h (meaning_of names (joined_name n.text m.text), m.position.place) (meant_if core names all (joined_name n.text m.text))).fits }
qualified_fits core names all n m None f h = record { fits = (h (None, n.position.place) tt).fits }
qualified_fits core names all n m (Some o) f h = record { fits = fits_silent }

-- ---- calls

call_fits : {core : Core} → IsFitTables core → (place : Place) (of : Option (TypeId × Place)) (g : Applied → Judgement Constant) (u : Option Use) → ((what : Applied) → Fits (MayFit core) (g what)) → Fits (MayFit core) (call_means core place of g u)
call_fits t place of g None h = record { fits = fits_silent }
call_fits t place of g (Some Unknown) h = record { fits = fits_silent }
call_fits t place of g (Some Silent) h = record { fits = fits_silent }
call_fits t place None g (Some (Bound f)) h = record { fits = fits_silent }
call_fits {core} t place (Some of) g (Some (Bound f)) h = record { fits = folded_may core (bound_fits core f of) }
call_fits t place of g (Some (Apply what)) h = h what

-- ---- all of it

operation_fits : {core : Core} → IsFitTables core → (start : Place) (o : Operator) (place : Place) (a b : Option Constant) → IfTyped (MayFit core) (checked (operation_means core start o place a b))
operation_fits {core} t start o place a b = fits_with (present a) (λ a _. fits_with (present b) (λ b _. folded_may core (operator_fits t start o place a b)))

numbered : {core : Core} → IsFitTables core → (n : Option (ℕ × Place)) (j : Judgement Constant) → Fits (MayFit core) j → Fits (MayFit core) (or_number n j)
numbered t None j h = h
numbered {core} t (Some n) j h = record { fits = folded_may core (numeral_fits t n.1 2 (neg_ℤ (pos n.0)) (omega arith)) }

mutual
  judged_fits : (core : Core) (names : List Named) → IsFitTables core → AreFitNames core names → (e : Expression) → Fits (MayFit core) (constant core names e)
  judged_fits core names t all (chain first rest) = operations_fit core names t all (start_of first) (constant core names first) (judged_fits core names t all first) rest
  judged_fits core names t all (prefixed o p e) =
      numbered t (number_behind o e) (through (constant core names e) (prefix_means core p.place o)) (record { fits = fits_behind (judged_fits core names t all e).fits (λ a _. folded_may core (prefix_fits t p.place o a)) })
  judged_fits core names t all (number n p) = record { fits = folded_may core (numeral_fits t p.place 1 (pos n) (omega arith)) }
  judged_fits core names t all (nil p) = record { fits = fits_fine tt }
  judged_fits core names t all (literal text p no_selectors) = record { fits = typed (some (text_constant text) (may_fit core (text_constant text).value (text_constant text).of (text_fits t text).1)) }
  judged_fits core names t all (literal text p (selectors s ss)) = record { fits = fits_silent }
  judged_fits core names t all (designated d) = designated_fits core names t all d
  judged_fits core names t all (set p es) =
      record {
        fits = fits_changed boxed (members_fit core names t all (fine no_members) (record { fits = fits_fine (no_members_fit t) }) es).fits (λ a h. may_fit core a.value a.of (no_text_fits core a.value a.of h.0 (set_solid core a.of h.1)));
      }
  judged_fits core names t all (inherited p d) = record { fits = fits_silent }

  operations_fit : (core : Core) (names : List Named) → IsFitTables core → AreFitNames core names → (start : Place) (a : Judgement Constant) → Fits (MayFit core) a → (rest : Operations) → Fits (MayFit core) (operations core names start a rest)
  operations_fit core names t all start a h no_operations = h
  operations_fit core names t all start a h (operation o p e others) =
      operations_fit core names t all start (followed a (λ a. followed (constant core names e) (operation_means core start o p.place a)))
      (of_both (MayFit core) (MayFit core) (MayFit core) a (constant core names e) (operation_means core start o p.place) h (judged_fits core names t all e) (λ a b _ _. operation_fits t start o p.place a b)) others

  members_fit : (core : Core) (names : List Named) → IsFitTables core → AreFitNames core names → (a : Judgement Constant) → Fits (IsFitSet core) a → (es : Elements) → Fits (IsFitSet core) (members core names a es)
  members_fit core names t all a h no_elements = h
  members_fit core names t all a h (elements e es) =
      members_fit core names t all (followed a (λ a. followed (element core names e) (gathered_means core (start_of_element e) a)))
      (of_both (IsFitSet core) (IsFitSet core) (IsFitSet core) a (element core names e) (gathered_means core (start_of_element e)) h (element_fits core names t all e) (λ a b m n. gathered_fits t (start_of_element e) m n)) es

  element_fits : (core : Core) (names : List Named) → IsFitTables core → AreFitNames core names → (e : Element) → Fits (IsFitSet core) (element core names e)
  element_fits core names t all (one e) = record { fits = fits_after (single_fits t (start_of e) (checked (constant core names e)).typed) }
  element_fits core names t all (range e g) =
      record { fits = fits_after (fits_after (range_fits t (start_of e) (checked (constant core names e)).typed (start_of g) (checked (constant core names g)).typed)) }

  designated_fits : (core : Core) (names : List Named) → IsFitTables core → AreFitNames core names → (d : Designator) → Fits (MayFit core) (designated_constant core names d)
  designated_fits core names t all (designator (named n) no_selectors) =
      name_fits core n.position.place (meaning_of names (lower n.text)) (meant_if core names all (lower n.text))
  designated_fits core names t all (designator (named n) (selectors (member m) no_selectors)) =
      qualified_fits core names all n m (meaning_of names (lower n.text)) (λ q. name_means q.1 q.0) (λ q h. name_fits core q.1 q.0 h)
  designated_fits core names t all (designator (named n) (selectors (call args) no_selectors)) =
      call_fits t n.position.place (type_named names args) (argument_means core names n.position.place args) (use_of core (meaning_of names (lower n.text))) (argument_fits core names t all n.position.place args)
  designated_fits core names t all (designator (named n) (selectors (member m) (selectors (call args) no_selectors))) =
      qualified_fits core names all n m (meaning_of names (lower n.text)) (λ q. call_means core q.1 (type_named names args) (argument_means core names q.1 args) (use_of core q.0)) (λ q h.
      call_fits t q.1 (type_named names args) (argument_means core names q.1 args) (use_of core q.0) (argument_fits core names t all q.1 args))
  designated_fits core names t all (designator (bracketed p e) no_selectors) = record { fits = fits_changed boxed (judged_fits core names t all e).fits (λ a k. k) }
  designated_fits core names t all d = record { fits = fits_silent }

  argument_fits : (core : Core) (names : List Named) → IsFitTables core → AreFitNames core names → (place : Place) (args : Arguments) (what : Applied) → Fits (MayFit core) (argument_means core names place args what)
  argument_fits core names t all place (arguments (value e) no_arguments) what =
      record { fits = fits_behind (judged_fits core names t all e).fits (λ a _. folded_may core (use_fits t what place (start_of e) a)) }
  argument_fits core names t all place args what = record { fits = fits_silent }

-- what is no constant has no type here
no_constant_fits : {P : Constant → Type 0} (core : Core) (names : List Named) (e : Expression) → IfTyped P (checked (no_constant core names e))
no_constant_fits {P} core names e = fits_behind (fits_any (checked (value_meant (scope_outside core names) None e))) (λ v i. fits_silent)

built_fits : (core : Core) (place : Place) (c : Constant) → MayFit core c → IfTyped (λ c. IsFitConstant core c.value c.of) (checked (built place c))
built_fits core place c h = fits_unshown (fine c) place (feature_of_constant c.value) (λ e. fits_fine (go c.value h e))
  where
    go : (v : Const) → IsFitOrNil core v c.of → feature_of_constant v ≡ None → IsFitConstant core v c.of
    go const.Nil h e = absurd (none-some _ (sym e))
    go v h e = h

pub constant_fits : (core : Core) (names : List Named) → IsFitTables core → AreFitNames core names → (e : Expression) → IfTyped (λ c. IsFitConstant core c.value c.of) (checked (constant_part core names e))
unfolding types.constant_part
constant_fits core names t all e = fits_behind (go (is_constant core names e)) (λ c h. built_fits core (start_of e) c h)
  where
    go : (b : Bool) → IfTyped (MayFit core) (if b then checked (constant core names e) else checked (no_constant core names e))
    go true = (judged_fits core names t all e).fits
    go false = no_constant_fits core names e
