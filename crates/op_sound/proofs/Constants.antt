-- Where names stand for what is there, what has to be a constant has a sound value or breaks a rule; so has a first value.
use Rattle.std.proofs.Common.{◌≡◌, ℕ, suc, ◌≤◌, nat_lt, Bool, true, false, List, [], ◌∷◌, length, map, replicate, slice_get, Option, Some, None, if◌then◌else◌, refl, sym, subst, arith}
use Rattle.std.proofs.lemmas.Bool.{ltb-false, ltb-true}
use Rattle.std.proofs.lemmas.Option.{slice_get-get_or, slice_get_within}
use Rattle.std.specs.List.{All}
use Rattle.op_base.specs.declared.place.Place.{Place}
use Rattle.op_core.proofs.Rows.{there_is}
use Rattle.op_typed.proofs.Leaves.{whole_unshown}
use Rattle.op_typed.proofs.Trees.{retyped_fits}
use Rattle.op_typed.proofs.Expressions.{value_of_whole}
use Rattle.op_typed.specs.Settled.{IsSettled}
use Rattle.op_check_expr.specs.Values.{retyped}
use Rattle.op_check_unit.specs.Initials.{by_brackets, by_elements, by_fields, counted, elements, fields, first, first_designated, first_expression, of_type, one_value, shape_by, shape_of, single, starts, unless_wrong, wrong_count}
use Rattle.op_check_unit.specs.Naming.{is_name}
use Rattle.op_check_unit.specs.Types as types
use Rattle.op_check_unit.specs.Types.{constant_part, feature_of_constant, needed, no_constant, scope_outside}
use Rattle.op_check_unit.specs.declared.initial.Shape.{Shape}
use Rattle.op_core.specs.Faults.{Checked}
use Rattle.op_core.specs.Initial.{FirstValue, FirstValues, constant as constant_value, parts, values}
use Rattle.op_core.specs.Members.{Kind}
use Rattle.op_core.specs.Relations.{Filled, Whole, filled}
use Rattle.op_core.specs.Rows.{rows}
use Rattle.op_core.specs.Sizes.{range_of, type_at, values_of}
use Rattle.op_core.specs.Sound.{AreFirst, IsFirst, IsFounded, Row}
use Rattle.op_core.specs.Typing.{Fits, Sees}
use Rattle.op_core.specs.declared.constant.Const.{Const}
use Rattle.op_core.specs.declared.ids.Run.{Run}
use Rattle.op_core.specs.declared.ids.TypeId.{TypeId}
use Rattle.op_core.specs.declared.program.Core.{Core}
use Rattle.op_core.specs.declared.types.CoreType.{CoreType}
use Rattle.op_core.specs.declared.types.CoreType.TheVariants as type
use Rattle.op_core.specs.declared.types.Field.{Field}
use Rattle.op_judgement.proofs.Completing.{whole_behind, whole_changed_so, whole_entered, whole_followed, whole_gives, whole_if, whole_rule, whole_tested, whole_two}
use Rattle.op_judgement.specs.Judgement.{Judgement, changed, checked, fine}
use Rattle.op_judgement.specs.declared.rules.LanguageRule.TheVariants.{NotAssignable, OutOfRange}
use Rattle.op_tree.specs.Expression.{Designator, Expression, bracketed, designated, designator, no_selectors}
use Rattle.op_tree.specs.Initial.{FieldInitials, Initial, Initials, field_initials, initials, list, no_field_initials, no_initials, record_, value}
use Rattle.op_typed.proofs.Constants.{folded_whole}
use Rattle.op_typed.proofs.Sorting.{stands}
use Rattle.op_types.specs.Assignable.{assignable}
use Rattle.op_types.specs.ConstantParts.{start_of}
use Rattle.op_types.specs.Folding as folding
use Rattle.op_types.specs.Names.{Named}
use Rattle.op_types.specs.Sorts.{sort_of}
use Rattle.op_typed.specs.Standing.{AllStand, IsSoundConstant}
use Rattle.op_types.specs.declared.constant.Constant.{Constant}

-- ---- constants

needed_whole : (core : Core) (sees : Sees) (names : List Named) → IsFounded core → AllStand core sees names → (e : Expression) → Whole (IsSoundConstant core) (checked (needed core names e))
needed_whole core sees names f all e = go (folding.is_constant core names e) refl
  where
    there : IsSettled sees (scope_outside core names)
    there = record { founded = f; names = all; own = λ id r e. absurd (cc) }

    go : (b : Bool) → folding.is_constant core names e ≡ b → Whole (IsSoundConstant core) (if b then checked (folding.constant core names e) else checked (no_constant core names e))
    go true h = folded_whole sees names f all e h
    go false h = whole_behind (value_of_whole there None e) (λ v k. whole_rule)

pub constant_whole : (core : Core) (sees : Sees) (names : List Named) → IsFounded core → AllStand core sees names → (e : Expression) → Whole (IsSoundConstant core) (checked (constant_part core names e))
unfolding types.constant_part
constant_whole core sees names f all e = whole_behind (needed_whole core sees names f all e) (λ c h. whole_unshown (fine c) (start_of e) (feature_of_constant c.value) (λ _. whole_gives h))

-- ---- single values

is_constant : (core : Core) (t : CoreType) (of : TypeId) (v : Const) → Fits core v of → IsFirst core t of (constant_value v)
is_constant core (type.Record run) of v h = h
is_constant core (type.Array index element) of v h = h
is_constant core t of v h = h

of_type_whole : (core : Core) (t : CoreType) (place : Place) (of : TypeId) (c : Constant) → Whole (IsFirst core t of) (checked (of_type core place of c))
of_type_whole core t place of c =
    whole_tested NotAssignable place (assignable core c.of of) (λ a. whole_entered OutOfRange place (retyped core of c.value) (λ v e. whole_gives (is_constant core t of v (retyped_fits core of (sort_of core of) c.value v (stands core of) e))))

single_whole : (core : Core) (sees : Sees) (names : List Named) → IsFounded core → AllStand core sees names → (of : TypeId) (t : CoreType) (e : Expression) → Whole (IsFirst core t of) (checked (single core names of e))
single_whole core sees names f all of t e = whole_behind (constant_whole core sees names f all e) (λ c _. of_type_whole core t (start_of e) of c)

-- ---- lists

wrong_is : (bracket : Place) (count : ℕ) (begin : List Place) → wrong_count bracket count begin ≡ None → length begin ≡ count
wrong_is bracket count begin h = go (nat_lt (length begin) count) refl h
  where
    up : (b : Bool) → nat_lt count (length begin) ≡ b → count ≤ length begin → slice_get begin count ≡ None → length begin ≡ count
    up true e l g = let k = ltb-true count (length begin) e in absurd (let q = slice_get-get_or begin count bracket k in cc)
    up false e l g = let k = ltb-false count (length begin) e in omega (arith, k, l)

    go : (b : Bool) → nat_lt (length begin) count ≡ b → (if b then Some bracket else slice_get begin count) ≡ None → length begin ≡ count
    go true e g = absurd (cc)
    go false e g = let l = ltb-false (length begin) count e in up (nat_lt count (length begin)) refl l g

unless_whole : {A : FirstValues → Type 0} {P : FirstValue → Type 0} (o : Option Place) {vs : Option FirstValues} → (o ≡ None → (v : FirstValues) → A v → P (parts v)) → Filled A vs → Whole P (checked (unless_wrong o vs))
unless_whole None g (filled v a) = whole_gives (g refl v a)
unless_whole (Some place) g h = whole_rule

-- as many parts as an array has
counted_whole : (core : Core) (of index element : TypeId) (bracket : Place) (begin : List Place) (vs : Judgement FirstValues) → Whole (AreFirst core (replicate (length begin) element)) (checked vs) → Whole (IsFirst core (type.Array index element) of) (checked (counted bracket (values_of (range_of (type_at core index))) begin vs))
counted_whole core of index element bracket begin vs h =
    let count = values_of (range_of (type_at core index)) in
    whole_followed h (λ o k. unless_whole (wrong_count bracket count begin) (λ e v a. subst (λ n. AreFirst core (replicate n element) v) (wrong_is bracket count begin e) a) k)

-- ---- by the shape of a type

-- the type of an element
element_row : {core : Core} (of index element : TypeId) → IsFounded core → Kind core of (type.Array index element) → (u : CoreType) × Kind core element u
element_row {core} of index element f e =
    let a = (f.types of.0 (type.Array index element) e).1 in
    let b = slice_get_within core.types of.0 (type.Array index element) e in
    there_is core.types element.0 (omega (arith, a, b))

by_shape : (core : Core) (of : TypeId) (t : CoreType) (g : Shape → Checked FirstValue) → Kind core of t → Whole (IsFirst core t of) (g (shape_by core (Some t))) → Whole (IsFirst core t of) (g (shape_of core of))
by_shape core of t g e h = subst (λ o. Whole (IsFirst core t of) (g (shape_by core o))) (sym e) h

brackets_whole : (core : Core) (of : TypeId) (t : CoreType) → IsFounded core → Kind core of t → (bracket : Place) (c : Judgement FirstValue) (g : ℕ → TypeId → Judgement FirstValue) → Whole (IsFirst core t of) (checked c) → ((index element : TypeId) (u : CoreType) → Kind core element u → Whole (IsFirst core (type.Array index element) of) (checked (g (values_of (range_of (type_at core index))) element))) → Whole (IsFirst core t of) (checked (by_brackets bracket c g (shape_of core of)))
brackets_whole core of t f e bracket c g h k = by_shape core of t (λ s. checked (by_brackets bracket c g s)) e (go t e h)
  where
    go : (t : CoreType) → Kind core of t → Whole (IsFirst core t of) (checked c) → Whole (IsFirst core t of) (checked (by_brackets bracket c g (shape_by core (Some t))))
    go (type.Array index element) e h = let u = element_row of index element f e in k index element u.0 u.1
    go (type.DynamicArray element) e h = whole_rule
    go t e h = h

elements_by_whole : (core : Core) (of : TypeId) (t : CoreType) → IsFounded core → Kind core of t → (bracket : Place) (g : ℕ → TypeId → Judgement FirstValue) → ((index element : TypeId) (u : CoreType) → Kind core element u → Whole (IsFirst core (type.Array index element) of) (checked (g (values_of (range_of (type_at core index))) element))) → Whole (IsFirst core t of) (checked (by_elements bracket g (shape_of core of)))
elements_by_whole core of t f e bracket g k = by_shape core of t (λ s. checked (by_elements bracket g s)) e (go t e)
  where
    go : (t : CoreType) → Kind core of t → Whole (IsFirst core t of) (checked (by_elements bracket g (shape_by core (Some t))))
    go (type.Array index element) e = let u = element_row of index element f e in k index element u.0 u.1
    go t e = whole_rule

fields_by_whole : (core : Core) (of : TypeId) (t : CoreType) → IsFounded core → Kind core of t → (bracket : Place) (g : Run → Judgement FirstValue) → ((run : Run) → All (λ f. Row core.types f.of.0) (rows core.fields run) → Whole (IsFirst core (type.Record run) of) (checked (g run))) → Whole (IsFirst core t of) (checked (by_fields bracket g (shape_of core of)))
fields_by_whole core of t f e bracket g k = by_shape core of t (λ s. checked (by_fields bracket g s)) e (go t e)
  where
    go : (t : CoreType) → Kind core of t → Whole (IsFirst core t of) (checked (by_fields bracket g (shape_by core (Some t))))
    go (type.Record run) e =
        let b = slice_get_within core.types of.0 (type.Record run) e in
        k run (λ i d l. let a = (f.types of.0 (type.Record run) e).1 i d l in omega (arith, a, b))
    go t e = whole_rule

-- ---- expressions

-- a list of one
one_first : (core : Core) (element : TypeId) (u : CoreType) → Kind core element u → (v : FirstValue) → IsFirst core u element v → AreFirst core (replicate 1 element) (one_value v)
one_first core element u e v h = (rw e h, tt)

mutual
  expression_whole : (core : Core) (sees : Sees) (names : List Named) → IsFounded core → AllStand core sees names → (of : TypeId) (t : CoreType) → Kind core of t → (e : Expression) → Whole (IsFirst core t of) (checked (first_expression core names of e))
  expression_whole core sees names f all of t k (designated d) = designated_whole core sees names f all of t k d
  expression_whole core sees names f all of t k e = single_whole core sees names f all of t e

  designated_whole : (core : Core) (sees : Sees) (names : List Named) → IsFounded core → AllStand core sees names → (of : TypeId) (t : CoreType) → Kind core of t → (d : Designator) → Whole (IsFirst core t of) (checked (first_designated core names of d))
  designated_whole core sees names f all of t k (designator (bracketed p e) no_selectors) =
      brackets_whole core of t f k p.place (single core names of (designated (designator (bracketed p e) no_selectors)))
      (λ count element. counted p.place count (start_of e ∷ []) (changed one_value (first_expression core names element e))) (single_whole core sees names f all of t (designated (designator (bracketed p e) no_selectors)))
      (λ index element u g. counted_whole core of index element p.place (start_of e ∷ []) (changed one_value (first_expression core names element e)) (whole_changed_so one_value (expression_whole core sees names f all element u g e) (one_first core element u g)))
  designated_whole core sees names f all of t k d = single_whole core sees names f all of t (designated d)

-- ---- first values

mutual
  pub first_whole : (core : Core) (sees : Sees) (names : List Named) → IsFounded core → AllStand core sees names → (of : TypeId) (i : Initial) (t : CoreType) → Kind core of t → Whole (IsFirst core t of) (checked (first core names of i))
  first_whole core sees names f all of (value e) t k = expression_whole core sees names f all of t k e
  first_whole core sees names f all of (list p items) t k = elements_by_whole core of t f k p.place (λ count element. counted p.place count (starts items) (elements core names element items)) (λ index element u g. counted_whole core of index element p.place (starts items) (elements core names element items) (elements_whole core sees names f all element items u g))
  first_whole core sees names f all of (record_ p items) t k = fields_by_whole core of t f k p.place (λ run. changed parts (fields core names p.place (rows core.fields run) items)) (λ run h. whole_changed_so parts (fields_whole core sees names f all p.place (rows core.fields run) h items) (λ v a. a))

  elements_whole : (core : Core) (sees : Sees) (names : List Named) → IsFounded core → AllStand core sees names → (of : TypeId) (is : Initials) (t : CoreType) → Kind core of t → Whole (AreFirst core (replicate (length (starts is)) of)) (checked (elements core names of is))
  elements_whole core sees names f all of no_initials t k = whole_gives tt
  elements_whole core sees names f all of (initials i is) t k = whole_two values (first_whole core sees names f all of i t k) (elements_whole core sees names f all of is t k) (λ v vs p q. (rw k p, q))

  fields_whole : (core : Core) (sees : Sees) (names : List Named) → IsFounded core → AllStand core sees names → (bracket : Place) (fs : List Field) → All (λ f. Row core.types f.of.0) fs → (is : FieldInitials) → Whole (AreFirst core (map (λ f. f.of) fs)) (checked (fields core names bracket fs is))
  fields_whole core sees names f all bracket [] h no_field_initials = whole_gives tt
  fields_whole core sees names f all bracket (x ∷ xs) h no_field_initials = whole_rule
  fields_whole core sees names f all bracket [] h (field_initials n i is) = whole_rule
  fields_whole core sees names f all bracket (x ∷ xs) h (field_initials n i is) =
      let u = there_is core.types x.of.0 (h 0 x (omega arith)) in
      whole_if (is_name (Some x.name) n) (whole_two values (first_whole core sees names f all x.of i u.0 u.1) (fields_whole core sees names f all bracket xs (λ j d l. h (suc j) d (omega (arith, l))) is) (λ v vs p q. (rw u.1 p, q))) whole_rule
