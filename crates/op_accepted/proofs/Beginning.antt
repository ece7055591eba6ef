-- Where a program begins all is fit: the types and names of System.
use Rattle.std.proofs.Common.{◌≡◌, inl, inr, ◌⊎◌, ℕ, ◌+◌, Bool, true, false, ◌||◌, List, [], ◌∷◌, ◌++◌, All, IfSome, IsSome, is_some, length, length-append, map, slice_get, take, None, refl, sym, ap, subst, ◌∙◌, arith}
use Rattle.std.proofs.lemmas.Bool.{and_parts, or_cases}
use Rattle.std.proofs.lemmas.List.{length-map}
use Rattle.std.proofs.lemmas.List.Elements.{All-append, All-cons, All-nil}
use Rattle.std.specs.List.{list_all}
use Rattle.op_accepted.proofs.Rows.{only_name, united_fit}
use Rattle.op_accepted.specs.Fit.{AreFitStatements, IsFitMeaning, IsFitType}
use Rattle.op_accepted.specs.State.{AreFitNames, AreTreesFit, IsFit, IsFitState, IsOfItself, IsOuterRow, IsPlainRow}
use Rattle.op_check_expr.specs.Naming.{feature_of_type}
use Rattle.op_check_unit.specs.Programs.{blank_unit, with_units}
use Rattle.op_check_unit.specs.System.{beginning, character_names, class_names, floating_names, function_names, integer_names, meaning_of_known, native_names, other_names, pointer_names, rest_names, short_names, sized_names, statement_names, string_names, system_core, system_names, system_unit, text_names, type_names, value_names, with_known, with_left_out, with_table}
use Rattle.op_sound.specs.Tables.{known_types}
use Rattle.op_check_unit.specs.declared.system.Known.{Known}
use Rattle.op_check_unit.specs.declared.system.Known.TheVariants.{Named as Type_, Form, Value}
use Rattle.op_core.specs.declared.program.Core.{Core}
use Rattle.op_core.specs.declared.types.CoreType.{CoreType}
use Rattle.op_core.specs.declared.types.CoreType.TheVariants.{Subrange, Set, Array, DynamicArray, OpenArray, Broken}
use Rattle.op_plain.specs.Plain.{is_plain_unit}
use Rattle.op_types.specs.Entering.{entered}
use Rattle.op_types.specs.Names.{Named}
use Rattle.op_typing.specs.Simple.{IsSolidType, is_solid}

-- ---- types

-- rows that are made of the types of System
passes : CoreType → Bool
passes (Subrange base low high) = is_solid (slice_get known_types base.0)
passes (Set base) = is_solid (slice_get known_types base.0)
passes (Array at element) = false
passes (DynamicArray element) = false
passes (OpenArray element) = false
passes Broken = false
passes t = true

row_fits : (core : Core) (t : CoreType) → core.types ≡ known_types → passes t ≡ true → IsFitType core t
unfolding passes
row_fits core (Subrange base low high) e h = ap (λ ts. is_solid (slice_get ts base.0)) e ∙ h
row_fits core (Set base) e h = ap (λ ts. is_solid (slice_get ts base.0)) e ∙ h
row_fits core (Array at element) e h = absurd (cc)
row_fits core (DynamicArray element) e h = absurd (cc)
row_fits core (OpenArray element) e h = absurd (cc)
row_fits core Broken e h = absurd (cc)
row_fits core t e h = tt

rows_fit : (core : Core) (ts : List CoreType) → core.types ≡ known_types → list_all passes ts ≡ true → All (IsFitType core) ts
rows_fit core [] e h = All-nil (IsFitType core)
rows_fit core (t ∷ ts) e h = let p = and_parts (passes t) (list_all passes ts) h in All-cons (IsFitType core) t ts (row_fits core t e p.0) (rows_fit core ts e p.1)

known_pass : list_all passes known_types ≡ true
unfolding passes
known_pass = refl

-- ---- names

knows : Known → Bool
knows (Type_ of) = is_solid (slice_get known_types of.0) || is_some (feature_of_type (slice_get known_types of.0))
knows (Form b) = true
knows (Value of n) = is_solid (slice_get known_types of.0)

known_fits : (core : Core) (k : Known) → core.types ≡ known_types → knows k ≡ true → IsFitMeaning core (meaning_of_known k)
unfolding knows
known_fits core (Type_ of) e h = one (or_cases (is_solid (slice_get known_types of.0)) (is_some (feature_of_type (slice_get known_types of.0))) h)
  where
    one : (is_solid (slice_get known_types of.0) ≡ true) ⊎ (is_some (feature_of_type (slice_get known_types of.0)) ≡ true) → IsSolidType core of ⊎ IsSome (feature_of_type (slice_get core.types of.0))
    one (inl k) = inl (ap (λ ts. is_solid (slice_get ts of.0)) e ∙ k)
    one (inr k) = inr (ap (λ ts. is_some (feature_of_type (slice_get ts of.0))) e ∙ k)
known_fits core (Form b) e h = tt
known_fits core (Value of n) e h = ap (λ ts. is_solid (slice_get ts of.0)) e ∙ h

with_known_fits : (core : Core) (n : List ℕ) (k : Known) (ns : List Named) → AreFitNames core ns → IsFitMeaning core (meaning_of_known k) → AreFitNames core (with_known n k ns)
with_known_fits core n k ns a f = All-append (λ n. IsFitMeaning core n.meaning) (ns ++ _ ∷ []) (_ ∷ []) (All-append (λ n. IsFitMeaning core n.meaning) ns (_ ∷ []) a (only_name core _ f)) (only_name core _ f)

table_fits : (core : Core) (xs : List (List ℕ × Known)) (ns : List Named) → core.types ≡ known_types → list_all (λ x. knows x.1) xs ≡ true → AreFitNames core ns → AreFitNames core (with_table xs ns)
table_fits core [] ns e h a = a
table_fits core (x ∷ xs) ns e h a = let p = and_parts (knows x.1) (list_all (λ x. knows x.1) xs) h in table_fits core xs (with_known x.0 x.1 ns) e p.1 (with_known_fits core x.0 x.1 ns a (known_fits core x.1 e p.0))

left_out_fits : (core : Core) (ns : List Named) → core.types ≡ known_types → AreFitNames core ns → AreFitNames core (with_left_out ns)
unfolding knows
left_out_fits core ns e a =
    let f = with_table floating_names ns in
    let i = with_table integer_names f in
    let n = with_table native_names i in
    let z = with_table sized_names n in
    let h = with_table short_names z in
    let s = with_table string_names h in
    let c = with_table character_names s in
    table_fits core rest_names (with_table pointer_names c) e refl (table_fits core pointer_names c e refl (table_fits core character_names s e refl
    (table_fits core string_names h e refl (table_fits core short_names z e refl (table_fits core sized_names n e refl (table_fits core native_names i e refl
    (table_fits core integer_names f e refl (table_fits core floating_names ns e refl a))))))))

system_fits : (core : Core) → core.types ≡ known_types → AreFitNames core system_names
unfolding knows
system_fits core e =
    let t = with_table type_names system_unit in
    let c = with_table class_names t in
    let v = with_table value_names c in
    let w = with_table text_names v in
    let s = with_table statement_names w in
    left_out_fits core (with_table other_names (with_table function_names s)) e (table_fits core other_names (with_table function_names s) e refl (table_fits core function_names s e refl (table_fits core statement_names w e refl (table_fits core text_names v e refl (table_fits core value_names c e refl
    (table_fits core class_names t e refl (table_fits core type_names system_unit e refl (only_name core _ tt))))))))

-- ---- the state

-- a program of these types and names, with nothing declared
bare_fits : (core : Core) → core.types ≡ known_types → core.fields ≡ [] → core.parameters ≡ [] → core.variables ≡ [] → core.routines ≡ [] → core.units ≡ [] → core.exceptions ≡ None → IsFit core system_names [] []
bare_fits core t f p v r u x = record {
  tables = record {
    predefined = ap (take 16) t;
    types = subst (All (IsFitType core)) (sym t) (rows_fit core known_types t known_pass);
    fields = subst (All (λ f. IsSolidType core f.of)) (sym f) (All-nil (λ f. IsSolidType core f.of));
    parameters = subst (All (λ p. IsSolidType core p.of)) (sym p) (All-nil (λ p. IsSolidType core p.of));
    variables = subst (All (λ v. IsSolidType core v.of)) (sym v) (All-nil (λ v. IsSolidType core v.of));
    results = subst (All (λ r. IfSome r.result (IsSolidType core))) (sym r) (All-nil (λ r. IfSome r.result (IsSolidType core)));
  };
  exceptions = x;
  variables = subst (All IsPlainRow) (sym v) (All-nil IsPlainRow);
  routines = subst (All IsOuterRow) (sym r) (All-nil IsOuterRow);
  units = subst (All (λ u. is_plain_unit core u ≡ true)) (sym u) (All-nil (λ u. is_plain_unit core u ≡ true));
  names = system_fits core t;
  bodies = All-nil (λ b. AreFitStatements core b.1);
  values = All-nil (IsOfItself core);
}

pub beginning_fits : IsFitState beginning
unfolding entered
beginning_fits = bare_fits system_core refl refl refl refl refl refl refl

-- ---- units before they are declared

blanks_fit : (core : Core) (ns : List (List ℕ)) → All (λ u. is_plain_unit core u ≡ true) (map blank_unit ns)
blanks_fit core [] = All-nil (λ u. is_plain_unit core u ≡ true)
blanks_fit core (n ∷ ns) = All-cons (λ u. is_plain_unit core u ≡ true) (blank_unit n) (map blank_unit ns) refl (blanks_fit core ns)

module _ (known : AreTreesFit) where
  pub with_units_fits : (order : List (List ℕ)) → IsFitState (with_units order beginning)
  with_units_fits order =
      united_fit known system_core system_names [] [] (system_core.units ++ (map blank_unit order ++ blank_unit [] ∷ [])) beginning_fits
      (All-append (λ u. is_plain_unit system_core u ≡ true) system_core.units (map blank_unit order ++ blank_unit [] ∷ []) beginning_fits.units
      (All-append (λ u. is_plain_unit system_core u ≡ true) (map blank_unit order) (blank_unit [] ∷ []) (blanks_fit system_core order) (All-cons (λ u. is_plain_unit system_core u ≡ true) (blank_unit []) [] refl (All-nil (λ u. is_plain_unit system_core u ≡ true)))))

pub count_of_units : (order : List (List ℕ)) → length (with_units order beginning).core.units ≡ length order + 1
unfolding entered
count_of_units order = let l = length-append (map blank_unit order) (blank_unit [] ∷ []) in let m = length-map order blank_unit in omega (arith, l, m)
