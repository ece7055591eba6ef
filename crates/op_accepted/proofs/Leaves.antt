-- Names, places, elements and what is given to parameters are fit.
use Rattle.std.proofs.Common.{◌≡◌, ◌⊎◌, inl, inr, ℕ, zero, suc, pos, neg_ℤ, Bool, true, false, List, [], ◌∷◌, slice_get, take, drop, IfSome, Option, Some, None, refl, ap, subst, ◌∙◌, arith, if◌then◌else◌}
use Rattle.std.proofs.lemmas.Bool.{and_from, false≢true}
use Rattle.std.proofs.lemmas.Option.{none-some}
use Rattle.std.specs.List.{All}
use Rattle.std.specs.Option.{IsSome, option_and_then, option_map, option_or}
use Rattle.std.specs.Prelude.{position}
use Rattle.std.specs.Str.{bytes_eq}
use Rattle.op_base.specs.declared.place.Place.{Place}
use Rattle.op_check_expr.specs.Calling.{passed}
use Rattle.op_check_expr.specs.Expressions as means
use Rattle.op_check_expr.specs.Expressions.{element_at, index_types, indexed, or_number}
use Rattle.op_check_expr.specs.Naming as naming
use Rattle.op_check_expr.specs.Naming.{Denoted, feature_of, feature_of_type, field_at, field_named, field_of, number_at, variable_named}
use Rattle.op_check_expr.specs.Places.{is_very, is_writable, target_value, variable_value}
use Rattle.op_check_expr.specs.Scopes.{Here}
use Rattle.op_check_expr.specs.Values.{Value, constant, computed, index_at, index_tree, stored, tree_of, type_of}
use Rattle.op_core.proofs.Growing.{all_at}
use Rattle.op_core.specs.Expression.{Expression as Tree, Argument, field, index, value as value_argument, place as place_argument}
use Rattle.op_core.specs.FieldNames.{is_named}
use Rattle.op_judgement.specs.Judgement.{Judgement, checked}
use Rattle.op_core.specs.Rows.{rows}
use Rattle.op_core.specs.Sizes.{type_at}
use Rattle.op_core.specs.Typing as typing
use Rattle.op_core.specs.Typing.{is_place, takes_place}
use Rattle.op_core.specs.declared.ids.FieldId.{FieldId}
use Rattle.op_core.specs.declared.ids.Run.{Run}
use Rattle.op_core.specs.declared.ids.TypeId.{TypeId}
use Rattle.op_core.specs.declared.ids.VariableId.{VariableId}
use Rattle.op_core.specs.declared.program.Core.{Core}
use Rattle.op_core.specs.declared.routine.Parameter.{Parameter}
use Rattle.op_core.specs.declared.routine.Variable.{Variable as VariableRow}
use Rattle.op_core.specs.declared.types.CoreType.{CoreType}
use Rattle.op_core.specs.declared.types.CoreType.TheVariants as type
use Rattle.op_core.specs.declared.types.Field.{Field}
use Rattle.op_meaning.specs.Every.{text_after}
use Rattle.op_plain.specs.Plain.{is_plain_argument, is_plain_expression, is_plain_step}
use Rattle.op_tree.specs.declared.position.Name.{Name}
use Rattle.op_tree.specs.declared.position.Position.{Position}
use Rattle.op_types.specs.Assignable.{assignable}
use Rattle.op_types.specs.Names.{Named, meaning_of}
use Rattle.op_types.specs.Operators as table
use Rattle.op_types.specs.declared.visible.Meaning.{Meaning}
use Rattle.op_types.specs.declared.visible.Meaning.TheVariants as meaning
use Rattle.op_typing.specs.Simple.{IsSolidType, is_solid}
use Rattle.op_accepted.specs.Fit.{IfAny, IfTyped, IsFitHere, IsFitMeaning, IsFitMeant, IsFitTables, IsFitTree, IsFitValue, IsSolidTree, any_text, some, stays_text, typed}
use Rattle.op_accepted.proofs.ConstantParts.{nodes_count, numeral_fits}
use Rattle.op_accepted.proofs.Parts.{fits_changed, fits_entry, fits_fine, fits_silent, fits_test, fits_unshown, fits_whether, fits_with}
use Rattle.op_accepted.proofs.Solid.{char_solid, integer_solid, made_of}
use Rattle.op_accepted.proofs.Trees.{as_type_fits, open_step, step_fits, tree_fits, tree_open}
use Rattle.op_accepted.specs.State.{AreFitNames}
use Rattle.op_core.proofs.Agreeing.{some_is}
use Rattle.op_judgement.specs.declared.rules.LanguageRule.TheVariants.{CharacterOfString, NoMember, NoVariable, NotAssignable, NotIndexed, NotWritable, VariableOfAnotherType}

pub number_fits : {core : Core} → IsFitTables core → (n : Option (ℕ × Place)) (j : Judgement Value) → IfTyped (IsFitValue core) (checked j) → IfTyped (IsFitValue core) (checked (or_number n j))
number_fits t None j h = h
number_fits t (Some n) j h = fits_changed constant (numeral_fits t n.1 2 (neg_ℤ (pos n.0)) (omega arith)) (λ c q. q)

-- ---- values as what is stored, given and assigned to

pub stored_fits : {core : Core} → IsFitTables core → (at : Place) (ranges : Bool) (to : TypeId) (v : Value) → IsFitValue core v → IsSolidType core to → IfTyped (IsFitTree core) (checked (stored core at ranges to v))
stored_fits {core} t at ranges to v h s = fits_test NotAssignable at (assignable core (type_of v) to) (λ a. fits_fine (as_type_fits core t ranges to v h s a))

pub variable_value_fits : (here : Here) (at : Place) (of : Option TypeId) (v : Value) → IsFitValue here.core v → IfTyped (IsSolidTree here.core) (checked (variable_value here at of v))
variable_value_fits here at of (computed e) h =
    fits_test NoVariable at (is_place true here.core e) (λ _. fits_test VariableOfAnotherType at (is_very here.core (typing.type_of e) of) (λ _. fits_test NotWritable at (is_writable here true e) (λ _. fits_test CharacterOfString at (is_place false here.core e) (λ _. fits_fine h.0))))
variable_value_fits here at of (constant c) h = fits_silent

pub target_value_fits : (here : Here) (at : Place) (v : Value) → IsFitValue here.core v → IfTyped (IsSolidTree here.core) (checked (target_value here at v))
target_value_fits here at (computed e) h = fits_test NotWritable at (is_writable here true e) (λ _. fits_fine h.0)
target_value_fits here at (constant c) h = fits_silent

abbrev pub IsFitArgument : Core → Argument → Type 0
IsFitArgument core a = is_plain_argument any_text core a ≡ true

pub passed_fits : (here : Here) → IsFitTables here.core → (p : Parameter) (at : Position) (v : Value) → IsSolidType here.core p.of → IsFitValue here.core v → IfTyped (IsFitArgument here.core) (checked (passed here (Some p) at v))
passed_fits here t p at v s h =
    fits_whether _ _ (takes_place p.mode) (fits_changed place_argument (variable_value_fits here at.place (Some p.of) v h) (λ e k. k.0)) (fits_changed value_argument (stored_fits t at.place at.switches.r p.of v h s) (λ e k. k))

-- ---- elements of arrays and texts

index_at_fits : {core : Core} → IsFitTables core → (at : Place) (of : Option CoreType) (to : TypeId) (v : Value) → IsFitValue core v → IsSolidType core to → IfTyped (IsFitTree core) (checked (index_at core at of to v))
index_at_fits {core} t at of to v h s = fits_test NotAssignable at (assignable core (type_of v) to) (λ a. fits_fine (go of a))
  where
    go : (of : Option CoreType) → assignable core (type_of v) to ≡ true → IsFitTree core (index_tree core of to v)
    go (Some (type.Array at element)) a = tree_fits core v h
    go of a = as_type_fits core t true to v h s a

-- what is indexed has a solid type of its index and one of its elements
index_solid : {core : Core} → IsFitTables core → (from : TypeId) (of : TypeId × TypeId) → index_types (type_at core from) ≡ Some of → IsSolidType core of.0 × IsSolidType core of.1
index_solid {core} t from of e = go (type_at core from) refl e
  where
    both : (a b : TypeId) → IsSolidType core a → IsSolidType core b → Some (a, b) ≡ Some of → IsSolidType core of.0 × IsSolidType core of.1
    both a b h k e = subst (λ of. IsSolidType core of.0 × IsSolidType core of.1) (some_is e) (h, k)

    go : (o : Option CoreType) → type_at core from ≡ o → index_types o ≡ Some of → IsSolidType core of.0 × IsSolidType core of.1
    go (Some (type.Array at element)) q e = let m = made_of t from (type.Array at element) q in both at element m.0 m.1 e
    go (Some (type.DynamicArray element)) q e = absurd (made_of t from (type.DynamicArray element) q)
    go (Some (type.OpenArray element)) q e = absurd (made_of t from (type.OpenArray element) q)
    go (Some type.String) q e = both table.integer table.char (integer_solid t) (char_solid t) e
    go o q e = absurd (none-some _ e)

indexed_step : (core : Core) (text : Bool) (i : Tree) (of : TypeId) → IsFitTree core i → IsSolidType core of → is_plain_step any_text core text (index i) of ≡ true
indexed_step core true i of h s = and_from (is_solid (type_at core of)) (is_plain_expression any_text core i) s h
indexed_step core false i of h s = and_from (is_solid (type_at core of)) (is_plain_expression any_text core i) s h

no_text_after : (text : Bool) (i : Tree) → text_after text (index i) ≡ false
no_text_after true i = refl
no_text_after false i = refl

element_at_fits : {core : Core} → IsFitTables core → (at : Place) (a : Value) (of : TypeId × TypeId) (v : Value) → index_types (type_at core (type_of a)) ≡ Some of → IsFitValue core a → IsFitValue core v → IfTyped (IsFitValue core) (checked (element_at core at a of v))
element_at_fits {core} t at a of v e h k =
    let s = index_solid t (type_of a) of e in
    fits_changed _ (index_at_fits t at (type_at core (type_of a)) of.0 v k s.0) (λ i q. step_fits core (tree_of a) (index i) of.1 (tree_fits core a h) refl (indexed_step core (stays_text (tree_of a)) i of.1 q s.1) (no_text_after (stays_text (tree_of a)) i) s.1)

pub indexed_fits : {core : Core} → IsFitTables core → (bracket at : Place) {a v : Option Value} → IfAny (IsFitValue core) a → IfAny (IsFitValue core) v → IfTyped (IsFitValue core) (checked (indexed core bracket at a v))
indexed_fits {core} t bracket at h k = fits_with h (λ a h. fits_entry NotIndexed bracket (index_types (type_at core (type_of a))) (λ of e. fits_with k (λ v k. element_at_fits t at a of v e h k)))

-- ---- names

meaning_fits : (core : Core) (names : List Named) → AreFitNames core names → (key : List ℕ) (m : Meaning) → meaning_of names key ≡ Some m → IsFitMeaning core m
meaning_fits core [] all key m h = absurd (none-some _ h)
meaning_fits core (n ∷ ns) all key m h = go (meaning_fits core ns (λ k d l. all (suc k) d (omega (arith, l))) key m) (meaning_of ns key) refl (bytes_eq n.name key) h
  where
    go : (meaning_of ns key ≡ Some m → IsFitMeaning core m) → (o : Option Meaning) → meaning_of ns key ≡ o → (b : Bool) → option_or o (if b then Some n.meaning else None) ≡ Some m → IsFitMeaning core m
    go others (Some a) e b g = others (e ∙ g)
    go others None e true g = subst (IsFitMeaning core) (some_is g) (all 0 n (omega arith))
    go others None e false g = absurd (none-some _ g)

pub meant_if : (core : Core) (names : List Named) → AreFitNames core names → (key : List ℕ) → IfSome (meaning_of names key) (IsFitMeaning core)
meant_if core names all key = go (meaning_of names key) refl
  where
    go : (m : Option Meaning) → meaning_of names key ≡ m → IfSome m (IsFitMeaning core)
    go (Some m) e = meaning_fits core names all key m e
    go None e = tt

abbrev pub IsFitDenoted : Core → Denoted → Type 0
IsFitDenoted core d = IsFitMeant core d.what

-- a variable alone is a tree of its type
pub variable_tree_fits : (core : Core) (id : VariableId) (of : TypeId) → IsSolidType core of → IsFitValue core (computed (naming.variable_tree id of))
variable_tree_fits core id of s = ((and_from (is_solid (type_at core of)) true s refl, s), refl, refl)

row_named_fits : {core : Core} → IsFitTables core → (p : Position) (id : VariableId) → IfTyped (IsFitDenoted core) (checked (variable_named p id (slice_get core.variables id.0)))
row_named_fits {core} t p id = go (slice_get core.variables id.0) refl
  where
    go : (o : Option VariableRow) → slice_get core.variables id.0 ≡ o → IfTyped (IsFitDenoted core) (checked (variable_named p id o))
    go None e = fits_silent
    go (Some v) e = fits_fine (variable_tree_fits core id v.of (all_at (λ v. IsSolidType core v.of) core.variables id.0 v t.variables e))

-- a type that shows no feature
shown_type : (core : Core) (of : TypeId) → IsSolidType core of ⊎ IsSome (feature_of_type (type_at core of)) → feature_of_type (type_at core of) ≡ None → IsSolidType core of
shown_type core of (inl s) e = s
shown_type core of (inr i) e = absurd (false≢true (subst IsSome e i))

named_fits : {core : Core} → IsFitTables core → (name : List ℕ) (p : Position) (m : Option Meaning) → ((a : Meaning) → m ≡ Some a → IsFitMeaning core a) → IfTyped (IsFitDenoted core) (checked (naming.named core name p m))
named_fits t name p None h = fits_silent
named_fits t name p (Some meaning.Spoiled) h = fits_silent
named_fits {core} t name p (Some (meaning.Constant c)) h = typed (some (naming.valued p (constant _)) (nodes_count c.value c.of 1 (omega arith), h (meaning.Constant c) refl))
named_fits t name p (Some (meaning.Variable id w)) h = row_named_fits t p id
named_fits {core} t name p (Some (meaning.TypeName of)) h = fits_unshown _ p.place (feature_of_type (type_at core of)) (λ e. fits_fine (shown_type core of (h (meaning.TypeName of) refl) e))
named_fits t name p (Some (meaning.Routine id)) h = fits_fine tt
named_fits t name p (Some (meaning.Unit id)) h = fits_fine tt
named_fits t name p (Some (meaning.BuiltIn b)) h = fits_unshown _ p.place (feature_of b) (λ _. fits_fine tt)

pub name_fits : {here : Here} → IsFitHere here → (key name : List ℕ) (p : Position) → IfTyped (IsFitDenoted here.core) (checked (means.name_denoted here key name p))
name_fits {here} s key name p = named_fits s.tables name p (meaning_of here.visible key) (meaning_fits here.core here.visible s.names key)

-- ---- members

taken_is : {A : Type 0} (k n : ℕ) (xs : List A) (a : A) → slice_get (take k xs) n ≡ Some a → slice_get xs n ≡ Some a
taken_is zero n xs a e = absurd (none-some _ e)
taken_is (suc k) n [] a e = e
taken_is (suc k) zero (x ∷ xs) a e = e
taken_is (suc k) (suc n) (x ∷ xs) a e = taken_is k n xs a e

-- what holds of all holds of one that stands behind some
behind_all : {A : Type 0} (P : A → Type 0) (k n : ℕ) (xs : List A) (a : A) → All P xs → slice_get (drop k xs) n ≡ Some a → P a
behind_all P zero n xs a h e = all_at P xs n a h e
behind_all P (suc k) n [] a h e = absurd (none-some _ e)
behind_all P (suc k) n (x ∷ xs) a h e = behind_all P k n xs a (λ k d l. h (suc k) d (omega (arith, l))) e

-- what holds of all rows of a table holds of those that lie together
pub row_is : {A : Type 0} (P : A → Type 0) (xs : List A) (run : Run) (n : ℕ) (a : A) → All P xs → slice_get (rows xs run) n ≡ Some a → P a
row_is P xs run n a h e = behind_all P run.first n xs a h (taken_is run.count n (drop run.first xs) a e)

field_solid : {core : Core} → IsFitTables core → (name : List ℕ) (from : TypeId) (f : FieldId × TypeId) → field_named core name (type_at core from) ≡ Some f → IsSolidType core f.1 × IsSolidType core from
field_solid {core} t name from f e = go (type_at core from) refl e
  where
    at : (run : Run) (k : ℕ) (n : Option ℕ) (o : Option Field) → slice_get (rows core.fields run) k ≡ o → option_and_then (λ n. option_map (λ f. (record { 0 = n }, f.of)) o) n ≡ Some f → IsSolidType core f.1
    at run k (Some n) (Some x) q e = subst (λ f. IsSolidType core f.1) (some_is e) (row_is (λ f. IsSolidType core f.of) core.fields run k x t.fields q)
    at run k (Some n) None q e = absurd (none-some _ e)
    at run k None o q e = absurd (none-some _ e)

    by : (run : Run) (o : Option ℕ) → option_and_then (field_at (rows core.fields run) run) o ≡ Some f → IsSolidType core f.1
    by run (Some k) e = at run k (number_at run k) (slice_get (rows core.fields run) k) refl e
    by run None e = absurd (none-some _ e)

    go : (o : Option CoreType) → type_at core from ≡ o → field_named core name o ≡ Some f → IsSolidType core f.1 × IsSolidType core from
    go (Some (type.Record run)) q e = (by run (position (is_named name) (rows core.fields run)) e, ap is_solid q)
    go o q e = absurd (none-some _ e)

pub field_fits : {core : Core} → IsFitTables core → (m : Name) (v : Value) → IsFitValue core v → IfTyped (IsFitDenoted core) (checked (field_of core m v))
field_fits {core} t m v h =
    fits_entry NoMember m.position.place (field_named core m.text (type_at core (type_of v))) (λ f e. let s = field_solid t m.text (type_of v) f e in fits_fine (open_step core (tree_of v) (field f.0) f.1 (tree_open core v h s.1) refl s.0 s.0))
