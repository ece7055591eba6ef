-- At most one heading stands at the front of a list of tokens before a semicolon.
use Rattle.std.proofs.Common.{◌≡◌, ℕ, Bool, List, [], ◌∷◌, Option, Some, refl, sym, ap, ◌∙◌, subst, ap₂}
use Rattle.std.proofs.lemmas.Option.{same_Some}
use Rattle.op_scan.specs.declared.token.TokenKind.TheVariants as kind
use Rattle.op_tree.proofs.DenoterUnique.{names_begin, no_dot, qualified_begins, unique_denoter, unique_names}
use Rattle.op_tree.proofs.ExpressionUnique.{true_false, false_true, is_colon, behind}
use Rattle.op_tree.proofs.StatementUnique.{is_semicolon, is_dot, unique_name, unique_qualified, same4, same5}
use Rattle.op_tree.specs.Declaration.{Heading}
use Rattle.op_tree.specs.Denoter.{Denoter}
use Rattle.op_tree.specs.Ends.{IsNot, begins_selector, StopsDenoter}
use Rattle.op_tree.specs.HeadingGrammar.{IsMode, by_value, by_var, by_const, by_out, IsOpenArray, is_no_array, is_open_array, IsParameterType, is_named, is_string, IsParameter, is_parameter, AreParameters, is_one_parameter, are_parameters, IsParameterPart, has_no_brackets, has_empty_brackets, has_parameters, IsOptionalType, has_no_type, has_type, IsRoutineName, is_of_no_class, is_of_class, IsHeading, is_heading}
use Rattle.op_tree.specs.NameGrammar.{AreNames, are_one_name, are_names, is_name, IsName}
use Rattle.op_tree.specs.Terminal.{Terminal, ◌at◌}
use Rattle.op_tree.specs.declared.heading.Parameter.{Parameter}
use Rattle.op_tree.specs.declared.heading.ParameterMode.{ParameterMode}
use Rattle.op_tree.specs.declared.heading.ParameterType.{ParameterType}
use Rattle.op_tree.specs.declared.heading.ParameterType.TheVariants.{Named}
use Rattle.op_tree.specs.declared.heading.RoutineKind.{RoutineKind}
use Rattle.op_tree.specs.declared.position.Name.{Name}
use Rattle.op_tree.specs.declared.position.Position.{Position}

-- ---- parameters

abbrev pub parameter_with : ParameterMode → List Name → Bool → ParameterType → Parameter
parameter_with m ns b t = record { mode = m; names = ns; open_array = b; of = t }

-- a word that names follow is no name
out_is_no_name : {A : Type 0} {ns ns' : List Name} {text : List ℕ} {p q : Position} {ks r z : List Terminal} → AreNames ns (kind.Identifier text at p ∷ ks) (kind.Colon at q ∷ r) → AreNames ns' ks z → A
out_is_no_name (are_one_name is_name) b = false_true (names_begin b)
out_is_no_name (are_names is_name a) b = false_true (names_begin b)

pub unique_moded : {m m' : ParameterMode} {ns ns' : List Name} {ks k k' r r' : List Terminal} {p p' : Position} → IsMode m ks k → AreNames ns k (kind.Colon at p ∷ r) → IsMode m' ks k' → AreNames ns' k' (kind.Colon at p' ∷ r') → (m ≡ m') × (ns ≡ ns') × (r ≡ r')
unique_moded by_value a by_value a' =
    let u = unique_names a a' refl refl in
    (refl, u.0, ap behind u.1)
unique_moded by_value a by_var a' = false_true (names_begin a)
unique_moded by_value a by_const a' = false_true (names_begin a)
unique_moded by_value a (by_out w) a' = out_is_no_name a a'
unique_moded by_var a by_value a' = false_true (names_begin a')
unique_moded by_var a by_var a' =
    let u = unique_names a a' refl refl in
    (refl, u.0, ap behind u.1)
unique_moded by_const a by_value a' = false_true (names_begin a')
unique_moded by_const a by_const a' =
    let u = unique_names a a' refl refl in
    (refl, u.0, ap behind u.1)
unique_moded (by_out w) a by_value a' = out_is_no_name a' a
unique_moded (by_out w) a (by_out w') a' =
    let u = unique_names a a' refl refl in
    (refl, u.0, ap behind u.1)

pub unique_parameter_type : {t t' : ParameterType} {ks r r' : List Terminal} → IsParameterType t ks r → IsParameterType t' ks r' → IsNot is_dot r → IsNot is_dot r' → (t ≡ t') × (r ≡ r')
unique_parameter_type (is_named q) (is_named q') h h' =
    let u = unique_qualified q q' h h' in
    (ap Named u.0, u.1)
unique_parameter_type (is_named q) is_string h h' = false_true (qualified_begins q)
unique_parameter_type is_string (is_named q) h h' = false_true (qualified_begins q)
unique_parameter_type is_string is_string h h' = (refl, refl)

pub unique_open : {b b' : Bool} {t t' : ParameterType} {ks k k' r r' : List Terminal} → IsOpenArray b ks k → IsParameterType t k r → IsOpenArray b' ks k' → IsParameterType t' k' r' → IsNot is_dot r → IsNot is_dot r' → (b ≡ b') × (t ≡ t') × (r ≡ r')
unique_open is_no_array t is_no_array t' h h' =
    let u = unique_parameter_type t t' h h' in
    (refl, u.0, u.1)
unique_open is_no_array (is_named q) is_open_array t' h h' = false_true (qualified_begins q)
unique_open is_open_array t is_no_array (is_named q) h h' = false_true (qualified_begins q)
unique_open is_open_array t is_open_array t' h h' =
    let u = unique_parameter_type t t' h h' in
    (refl, u.0, u.1)

pub unique_parameter : {a a' : Parameter} {ks r r' : List Terminal} → IsParameter a ks r → IsParameter a' ks r' → IsNot is_dot r → IsNot is_dot r' → (a ≡ a') × (r ≡ r')
unique_parameter (is_parameter m n b t) (is_parameter {b = b1} {m2 = z} m' n' b' t') h h' =
    let u = unique_moded m n m' n' in
    let v = unique_open b t (subst (λ x. IsOpenArray b1 x z) (sym u.2) b') t' h h' in
    (same4 parameter_with u.0 u.1 v.0 v.1, v.2)

pub unique_parameters : {as_ as' : List Parameter} {ks r r' : List Terminal} → AreParameters as_ ks r → AreParameters as' ks r' → IsNot is_dot r → IsNot is_dot r' → IsNot is_semicolon r → IsNot is_semicolon r' → (as_ ≡ as') × (r ≡ r')
unique_parameters (is_one_parameter a) (is_one_parameter a') h h' c c' =
    let u = unique_parameter a a' h h' in
    (ap (λ x. x ∷ []) u.0, u.1)
unique_parameters (is_one_parameter a) (are_parameters a' b') h h' c c' = true_false (subst (IsNot is_semicolon) (unique_parameter a a' h refl).1 c)
unique_parameters (are_parameters a b) (is_one_parameter a') h h' c c' = true_false (subst (IsNot is_semicolon) (sym (unique_parameter a a' refl h').1) c')
unique_parameters (are_parameters a b) (are_parameters {as_ = as1} {r = z} a' b') h h' c c' =
    let u = unique_parameter a a' refl refl in
    let v = unique_parameters b (subst (λ x. AreParameters as1 x z) (sym (ap behind u.1)) b') h h' c c' in
    (ap₂ (λ x y. x ∷ y) u.0 v.0, v.1)

pub no_parameters : {A : Type 0} {as_ : List Parameter} {p : Position} {ks r : List Terminal} → AreParameters as_ (kind.CloseParenthesis at p ∷ ks) r → A
no_parameters (is_one_parameter (is_parameter by_value n b t)) = false_true (names_begin n)
no_parameters (are_parameters (is_parameter by_value n b t) more) = false_true (names_begin n)

pub unique_parameter_part : {d d' : ℕ} {as_ as' : List Parameter} {ks r r' : List Terminal} → IsParameterPart d as_ ks r → IsParameterPart d' as' ks r' → IsNot begins_selector r → IsNot begins_selector r' → (as_ ≡ as') × (r ≡ r')
unique_parameter_part has_no_brackets has_no_brackets h h' = (refl, refl)
unique_parameter_part has_no_brackets has_empty_brackets h h' = true_false h
unique_parameter_part has_no_brackets (has_parameters a) h h' = true_false h
unique_parameter_part has_empty_brackets has_no_brackets h h' = true_false h'
unique_parameter_part has_empty_brackets has_empty_brackets h h' = (refl, refl)
unique_parameter_part has_empty_brackets (has_parameters a) h h' = no_parameters a
unique_parameter_part (has_parameters a) has_no_brackets h h' = true_false h'
unique_parameter_part (has_parameters a) has_empty_brackets h h' = no_parameters a
unique_parameter_part (has_parameters a) (has_parameters a') h h' =
    let u = unique_parameters a a' refl refl refl refl in
    (u.0, ap behind u.1)

-- ---- headings

pub unique_optional_type : {d d' : ℕ} {t t' : Option Denoter} {ks r r' : List Terminal} → IsOptionalType d t ks r → IsOptionalType d' t' ks r' → StopsDenoter r → StopsDenoter r' → IsNot is_colon r → IsNot is_colon r' → (t ≡ t') × (r ≡ r')
unique_optional_type has_no_type has_no_type h h' c c' = (refl, refl)
unique_optional_type has_no_type (has_type t) h h' c c' = true_false c
unique_optional_type (has_type t) has_no_type h h' c c' = true_false c'
unique_optional_type (has_type t) (has_type t') h h' c c' =
    let u = unique_denoter t t' h h' in
    (ap Some u.0, u.1)

unique_routine_name : {c c' : Option Name} {n n' : Name} {ks r r' : List Terminal} → IsRoutineName c n ks r → IsRoutineName c' n' ks r' → IsNot is_dot r → IsNot is_dot r' → (c ≡ c') × (n ≡ n') × (r ≡ r')
unique_routine_name (is_of_no_class a) (is_of_no_class a') h h' =
    let u = unique_name a a' in
    (refl, u.0, u.1)
unique_routine_name (is_of_no_class a) (is_of_class a' b') h h' = true_false (subst (IsNot is_dot) (unique_name a a').1 h)
unique_routine_name (is_of_class a b) (is_of_no_class a') h h' = true_false (subst (IsNot is_dot) (sym (unique_name a a').1) h')
unique_routine_name (is_of_class a b) (is_of_class {n = n1} {r = z} a' b') h h' =
    let u = unique_name a a' in
    let v = unique_name b (subst (λ x. IsName n1 x z) (sym (ap behind u.1)) b') in
    (ap Some u.0, v.0, v.1)

pub type_part_no_selector : {d : ℕ} {t : Option Denoter} {p : Position} {ks r : List Terminal} → IsOptionalType d t ks (kind.Semicolon at p ∷ r) → IsNot begins_selector ks
type_part_no_selector has_no_type = refl
type_part_no_selector (has_type t) = refl

pub part_no_dot : {d : ℕ} {as_ : List Parameter} {ks r : List Terminal} → IsParameterPart d as_ ks r → IsNot is_dot r → IsNot is_dot ks
part_no_dot has_no_brackets h = h
part_no_dot has_empty_brackets h = refl
part_no_dot (has_parameters a) h = refl

abbrev heading_with : RoutineKind → Option Name → Name → List Parameter → Option Denoter → Heading
heading_with k c n ps t = record { kind = k; class = c; name = n; parameters = ps; result = t }

pub unique_heading : {d d' : ℕ} {h h' : Heading} {p p' : Position} {ks r r' : List Terminal} → IsHeading d h ks (kind.Semicolon at p ∷ r) → IsHeading d' h' ks (kind.Semicolon at p' ∷ r') → (h ≡ h') × (r ≡ r')
unique_heading {p' = p'} {r' = r'} (is_heading {m1 = m1} e n a t) (is_heading {d = y} {as_ = a1} {t = t1} {m1 = z} e' n' a' t') =
    let s = type_part_no_selector t in
    let s' = type_part_no_selector t' in
    let u = unique_routine_name n n' (part_no_dot a (no_dot m1 s)) (part_no_dot a' (no_dot z s')) in
    let v = unique_parameter_part a (subst (λ x. IsParameterPart y a1 x z) (sym u.2) a') s s' in
    let w = unique_optional_type t (subst (λ x. IsOptionalType y t1 x (kind.Semicolon at p' ∷ r')) (sym v.1) t') (record { operator = refl; selector = refl; range = refl }) (record { operator = refl; selector = refl; range = refl }) refl refl in
    (same5 heading_with (same_Some _ _ (sym e ∙ e')) u.0 u.1 v.0 w.0, ap behind w.1)
