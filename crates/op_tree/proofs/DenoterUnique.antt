-- At most one type, and at most one first value, stands at the front of a list of tokens before what may follow it.
use Rattle.std.proofs.Common.{◌≡◌, ℕ, suc, Bool, true, false, List, [], ◌∷◌, refl, sym, ap, subst, ap₂}
use Rattle.op_base.proofs.Tests.{ap₃}
use Rattle.op_scan.specs.declared.token.TokenKind.{TokenKind}
use Rattle.op_scan.specs.declared.token.TokenKind.TheVariants as kind
use Rattle.op_tree.proofs.ExpressionUnique.{true_false, false_true, Begins, chain_begins, ends_operand, is_comma, is_colon, behind, unique_chain, unique_expr}
use Rattle.op_tree.proofs.StatementUnique.{differ, is_semicolon, is_end, is_identifier, unique_name, is_dot, unique_qualified}
use Rattle.op_tree.specs.Denoter.{Denoter, named, subrange, enumeration, set, array, record_, Denoters, no_denoters, denoters, FieldLists, no_fields, fields}
use Rattle.op_tree.specs.DenoterGrammar.{IsDenoter, is_named, is_string, is_subrange, is_enumeration, is_set, is_unpacked, is_packed, IsStructure, is_dynamic_array, is_static_array, is_record, AreDenoters, are_one_denoter, are_denoters, AreFieldLists, are_no_fields, are_last_fields, are_fields, IsNoExpression, IsInitial, is_value, is_list, is_record_value, AreInitials, are_one_initial, are_initials, AreFieldInitials, are_one_field_initial, are_field_initials}
use Rattle.op_tree.specs.Ends.{IsNot, begins_selector, begins_expression, Stops, StopsDenoter, is_dot_dot, EndsChain}
use Rattle.op_tree.specs.Expression.{Expression}
use Rattle.op_tree.specs.ExpressionGrammar.{IsChain, is_chain, IsOperand, is_simple, is_term, is_factor, are_no_operations, IsFactor, is_prefixed, is_designated, is_designator, is_named as is_named_root, is_string as is_string_root, is_bracketed, are_no_selectors, are_selectors, is_member}
use Rattle.op_tree.specs.Initial.{Initial, value, list, record_ as record_value, Initials, no_initials, initials, FieldInitials, no_field_initials, field_initials}
use Rattle.op_tree.specs.NameGrammar.{IsName, is_name, AreNames, are_one_name, are_names, IsQualified, is_unqualified, is_qualified, AreBracketedNames, are_bracketed_names}
use Rattle.op_tree.specs.Terminal.{Terminal, ◌at◌}
use Rattle.op_tree.specs.declared.operator.Level.{Level}
use Rattle.op_tree.specs.declared.operator.Level.TheVariants.{Relational, Additive}
use Rattle.op_tree.specs.declared.position.Name.{Name}
use Rattle.op_tree.specs.declared.position.Position.{Position}
use Rattle.op_tree.specs.declared.position.QualifiedName.{QualifiedName}

-- ---- names

pub unique_names : {ns ns' : List Name} {ks r r' : List Terminal} → AreNames ns ks r → AreNames ns' ks r' → IsNot is_comma r → IsNot is_comma r' → (ns ≡ ns') × (r ≡ r')
unique_names (are_one_name a) (are_one_name a') h h' =
    let u = unique_name a a' in
    (ap (λ x. x ∷ []) u.0, u.1)
unique_names (are_one_name a) (are_names a' b') h h' = true_false (subst (IsNot is_comma) (unique_name a a').1 h)
unique_names (are_names a b) (are_one_name a') h h' = true_false (subst (IsNot is_comma) (sym (unique_name a a').1) h')
unique_names (are_names a b) (are_names {ns = n1} {r = z} a' b') h h' =
    let u = unique_name a a' in
    let v = unique_names b (subst (λ x. AreNames n1 x z) (sym (ap behind u.1)) b') h h' in
    (ap₂ (λ x y. x ∷ y) u.0 v.0, v.1)

pub names_begin : {ns : List Name} {ks r : List Terminal} → AreNames ns ks r → Begins is_identifier ks
names_begin (are_one_name is_name) = refl
names_begin (are_names is_name b) = refl

pub qualified_begins : {q : QualifiedName} {ks r : List Terminal} → IsQualified q ks r → Begins is_identifier ks
qualified_begins (is_unqualified is_name) = refl
qualified_begins (is_qualified is_name b) = refl

pub unique_bracketed_names : {d d' : ℕ} {ns ns' : List Name} {ks r r' : List Terminal} → AreBracketedNames d ns ks r → AreBracketedNames d' ns' ks r' → (ns ≡ ns') × (r ≡ r')
unique_bracketed_names (are_bracketed_names a) (are_bracketed_names a') =
    let u = unique_names a a' refl refl in
    (u.0, ap behind u.1)

-- ---- names as expressions

pub stop_simple : (e : Expression) (r : List Terminal) → StopsDenoter r → EndsChain Additive e r
stop_simple e r h = (h.operator, ends_operand e r h.selector)

pub no_dot : (r : List Terminal) → IsNot begins_selector r → IsNot is_dot r
no_dot [] h = tt
no_dot (t ∷ r) h = at_kind t.kind h
  where
    at_kind : (k : TokenKind) → begins_selector k ≡ false → is_dot k ≡ false
    at_kind kind.Dot h = true_false h
    at_kind other h = refl

-- an expression of one factor, at a level
pub as_simple : {d : ℕ} {e : Expression} {ks r : List Terminal} → IsFactor d e ks r → IsChain Additive d e ks r
as_simple f = is_chain (is_term (is_chain (is_factor f) are_no_operations refl)) are_no_operations refl

pub as_expr : {d : ℕ} {e : Expression} {ks r : List Terminal} → IsFactor d e ks r → IsChain Relational d e ks r
as_expr f = is_chain (is_simple (as_simple f)) are_no_operations refl

abbrev Reads : (List Terminal → Expression → Type 0) → List Terminal → Type 0
Reads P r = (e : Expression) × P r e

pub qualified_factor : {q : QualifiedName} {ks r : List Terminal} → IsQualified q ks r → (e : Expression) × IsFactor 1 e ks r
qualified_factor (is_unqualified is_name) = (_, is_designated (is_designator is_named_root are_no_selectors))
qualified_factor (is_qualified is_name is_name) = (_, is_designated (is_designator is_named_root (are_selectors is_member are_no_selectors)))

pub name_factor : {n : Name} {ks r : List Terminal} → IsName n ks r → (e : Expression) × IsFactor 1 e ks r
name_factor is_name = (_, is_designated (is_designator is_named_root are_no_selectors))

-- a type that a factor spells is no bound of a subrange
no_bound : {A : Type 0} {d d' : ℕ} {e e' : Expression} {p : Position} {ks m r : List Terminal} → IsFactor d e ks r → IsChain Additive d' e' ks (kind.DotDot at p ∷ m) → StopsDenoter r → A
no_bound {e = e} {e' = e'} f a h =
    let u = unique_chain (as_simple f) a (stop_simple e _ h) (refl, ends_operand e' _ refl) in
    true_false (subst (IsNot is_dot_dot) u.1 h.range)

-- an expression that begins with a bracket begins with one in brackets
pub record Opened (ks : List Terminal) : Type 0 where
  pub depth : ℕ
  pub inside : Expression
  pub close : Position
  pub after : List Terminal
  pub is_inside : IsChain Relational depth inside ks (kind.CloseParenthesis at close ∷ after)

mutual
  pub opened : {l : Level} {d : ℕ} {e : Expression} {p : Position} {ks r : List Terminal} → IsChain l d e (kind.OpenParenthesis at p ∷ ks) r → Opened ks
  opened (is_chain a os q) = opened_operand a

  opened_operand : {l : Level} {d : ℕ} {e : Expression} {p : Position} {ks r : List Terminal} → IsOperand l d e (kind.OpenParenthesis at p ∷ ks) r → Opened ks
  opened_operand (is_simple f) = opened f
  opened_operand (is_term f) = opened f
  opened_operand (is_factor (is_prefixed h f)) = absurd cc
  opened_operand (is_factor (is_designated (is_designator (is_bracketed f) ss))) = record { depth = _; inside = _; close = _; after = _; is_inside = f }

pub no_enumeration : {A : Type 0} {d d' : ℕ} {ns : List Name} {e : Expression} {p : Position} {ks m r : List Terminal} → AreBracketedNames d ns ks r → IsChain Additive d' e ks (kind.DotDot at p ∷ m) → StopsDenoter r → A
no_enumeration (are_bracketed_names (are_one_name is_name)) a h = no_bound (is_designated (is_designator (is_bracketed (as_expr {d = 1} (is_designated (is_designator is_named_root are_no_selectors)))) are_no_selectors)) a h
no_enumeration (are_bracketed_names (are_names n b)) a h =
    let i = opened a in
    differ is_comma (unique_expr (as_expr (name_factor n).1) i.is_inside (refl, refl) (refl, refl)).1 refl refl

-- ---- types

abbrev pub is_structure : TokenKind → Bool
is_structure kind.Array = true
is_structure kind.Record = true
is_structure other = false

pub structure_begins : {d : ℕ} {p : Position} {b : Bool} {t : Denoter} {ks r : List Terminal} → IsStructure d p b t ks r → Begins is_structure ks
structure_begins (is_dynamic_array t) = refl
structure_begins (is_static_array ts t) = refl
structure_begins (is_record fs) = refl

no_structure : {A : Type 0} (k : TokenKind) → begins_expression k ≡ true → is_structure k ≡ true → A
no_structure kind.Array h g = false_true h
no_structure kind.Record h g = false_true h
no_structure other h g = false_true g

no_structure_name : {A : Type 0} (k : TokenKind) → is_identifier k ≡ true → is_structure k ≡ true → A
no_structure_name kind.Array h g = false_true h
no_structure_name kind.Record h g = false_true h
no_structure_name other h g = false_true g

pub no_names_at_end : {A : Type 0} {ns : List Name} {ks r : List Terminal} → AreNames ns ks r → Begins is_end ks → A
no_names_at_end {ks = ks} a h = at_front ks (names_begin a) h
  where
    at_kind : {A : Type 0} (k : TokenKind) → is_identifier k ≡ true → is_end k ≡ true → A
    at_kind kind.End i e = false_true i
    at_kind other i e = false_true e

    at_front : {A : Type 0} (ks : List Terminal) → Begins is_identifier ks → Begins is_end ks → A
    at_front [] i e = absurd i
    at_front (t ∷ ks) i e = at_kind t.kind i e

end_stops : (r : List Terminal) → Begins is_end r → StopsDenoter r
end_stops [] h = absurd h
end_stops (t ∷ r) h = at_kind t.kind t.position r h
  where
    at_kind : (k : TokenKind) (p : Position) (r : List Terminal) → is_end k ≡ true → StopsDenoter (k at p ∷ r)
    at_kind kind.End p r h = record { operator = refl; selector = refl; range = refl }
    at_kind other p r h = false_true h

mutual
  pub unique_denoter : {d d' : ℕ} {t t' : Denoter} {ks r r' : List Terminal} → IsDenoter d t ks r → IsDenoter d' t' ks r' → StopsDenoter r → StopsDenoter r' → (t ≡ t') × (r ≡ r')
  unique_denoter (is_named q) (is_named q') h h' =
      let u = unique_qualified q q' (no_dot _ h.selector) (no_dot _ h'.selector) in
      (ap named u.0, u.1)
  unique_denoter (is_named q) (is_subrange a b) h h' = no_bound (qualified_factor q).1 a h
  unique_denoter (is_named q) (is_unpacked {k = k} s) h h' = no_structure_name k (qualified_begins q) (structure_begins s)
  unique_denoter (is_named q) f' h h' = false_true (qualified_begins q)
  unique_denoter (is_subrange a b) (is_named q) h h' = no_bound (qualified_factor q).1 a h'
  unique_denoter (is_unpacked {k = k} s) (is_named q) h h' = no_structure_name k (qualified_begins q) (structure_begins s)
  unique_denoter f (is_named q) h h' = false_true (qualified_begins q)
  unique_denoter is_string is_string h h' = (refl, refl)
  unique_denoter is_string (is_subrange a b) h h' = no_bound {d = 0} (is_designated (is_designator is_string_root are_no_selectors)) a h
  unique_denoter is_string (is_unpacked s) h h' = false_true (structure_begins s)
  unique_denoter (is_subrange a b) is_string h h' = no_bound {d = 0} (is_designated (is_designator is_string_root are_no_selectors)) a h'
  unique_denoter (is_unpacked s) is_string h h' = false_true (structure_begins s)
  unique_denoter (is_enumeration {p = p} ns) (is_enumeration ns') h h' =
      let u = unique_bracketed_names ns ns' in
      (ap (enumeration p) u.0, u.1)
  unique_denoter (is_enumeration ns) (is_subrange a b) h h' = no_enumeration ns a h
  unique_denoter (is_enumeration ns) (is_unpacked s) h h' = false_true (structure_begins s)
  unique_denoter (is_subrange a b) (is_enumeration ns) h h' = no_enumeration ns a h'
  unique_denoter (is_unpacked s) (is_enumeration ns) h h' = false_true (structure_begins s)
  unique_denoter (is_subrange {first = e} {last = g} a b) (is_subrange {d = y} {first = e'} {last = g'} {r = z} a' b') h h' =
      let u = unique_chain a a' (refl, ends_operand e _ refl) (refl, ends_operand e' _ refl) in
      let v = unique_chain b (subst (λ x. IsChain Additive y g' x z) (sym (ap behind u.1)) b') (stop_simple g _ h) (stop_simple g' _ h') in
      (ap₂ subrange u.0 v.0, v.1)
  unique_denoter (is_subrange a b) (is_unpacked {k = k} s) h h' = no_structure k (chain_begins a) (structure_begins s)
  unique_denoter (is_unpacked {k = k} s) (is_subrange a b) h h' = no_structure k (chain_begins a) (structure_begins s)
  unique_denoter (is_subrange a b) f' h h' = false_true (chain_begins a)
  unique_denoter f (is_subrange a b) h h' = false_true (chain_begins a)
  unique_denoter (is_set {p = p} t) (is_set t') h h' =
      let u = unique_denoter t t' h h' in
      (ap (set p) u.0, u.1)
  unique_denoter (is_set t) (is_unpacked s) h h' = false_true (structure_begins s)
  unique_denoter (is_unpacked s) (is_set t) h h' = false_true (structure_begins s)
  unique_denoter (is_unpacked s) (is_unpacked s') h h' = unique_structure s s' h h'
  unique_denoter (is_unpacked s) (is_packed s') h h' = false_true (structure_begins s)
  unique_denoter (is_packed s) (is_unpacked s') h h' = false_true (structure_begins s')
  unique_denoter (is_packed s) (is_packed s') h h' = unique_structure s s' h h'

  unique_structure : {d d' : ℕ} {p : Position} {b : Bool} {t t' : Denoter} {ks r r' : List Terminal} → IsStructure d p b t ks r → IsStructure d' p b t' ks r' → StopsDenoter r → StopsDenoter r' → (t ≡ t') × (r ≡ r')
  unique_structure {p = p} {b = b} (is_dynamic_array t) (is_dynamic_array t') h h' =
      let u = unique_denoter t t' h h' in
      (ap (array p b no_denoters) u.0, u.1)
  unique_structure {p = p} {b = b} (is_static_array ts t) (is_static_array {d = y} {t = t1} {r = z} ts' t') h h' =
      let u = unique_denoters ts ts' (record { operator = refl; selector = refl; range = refl }) (record { operator = refl; selector = refl; range = refl }) refl refl in
      let v = unique_denoter t (subst (λ x. IsDenoter (suc y) t1 x z) (sym (ap behind (ap behind u.1))) t') h h' in
      (ap₂ (array p b) u.0 v.0, v.1)
  unique_structure {p = p} {b = b} (is_record fs) (is_record fs') h h' =
      let u = unique_field_lists fs fs' refl refl in
      (ap (record_ p b) u.0, ap behind u.1)

  pub unique_denoters : {d d' : ℕ} {ts ts' : Denoters} {ks r r' : List Terminal} → AreDenoters d ts ks r → AreDenoters d' ts' ks r' → StopsDenoter r → StopsDenoter r' → IsNot is_comma r → IsNot is_comma r' → (ts ≡ ts') × (r ≡ r')
  unique_denoters (are_one_denoter t) (are_one_denoter t') h h' c c' =
      let u = unique_denoter t t' h h' in
      (ap (λ x. denoters x no_denoters) u.0, u.1)
  unique_denoters (are_one_denoter t) (are_denoters t' ts') h h' c c' =
      let u = unique_denoter t t' h (record { operator = refl; selector = refl; range = refl }) in
      true_false (subst (IsNot is_comma) u.1 c)
  unique_denoters (are_denoters t ts) (are_one_denoter t') h h' c c' =
      let u = unique_denoter t t' (record { operator = refl; selector = refl; range = refl }) h' in
      true_false (subst (IsNot is_comma) (sym u.1) c')
  unique_denoters (are_denoters t ts) (are_denoters {d = y} {ts = t1} {r = z} t' ts') h h' c c' =
      let u = unique_denoter t t' (record { operator = refl; selector = refl; range = refl }) (record { operator = refl; selector = refl; range = refl }) in
      let v = unique_denoters ts (subst (λ x. AreDenoters y t1 x z) (sym (ap behind u.1)) ts') h h' c c' in
      (ap₂ denoters u.0 v.0, v.1)

  pub unique_field_lists : {d d' : ℕ} {fs fs' : FieldLists} {ks r r' : List Terminal} → AreFieldLists d fs ks r → AreFieldLists d' fs' ks r' → Begins is_end r → Begins is_end r' → (fs ≡ fs') × (r ≡ r')
  unique_field_lists are_no_fields are_no_fields h h' = (refl, refl)
  unique_field_lists are_no_fields (are_last_fields ns t) h h' = no_names_at_end ns h
  unique_field_lists are_no_fields (are_fields ns t fs) h h' = no_names_at_end ns h
  unique_field_lists (are_last_fields ns t) are_no_fields h h' = no_names_at_end ns h'
  unique_field_lists (are_fields ns t fs) are_no_fields h h' = no_names_at_end ns h'
  unique_field_lists (are_last_fields {r = w} ns t) (are_last_fields {d = y} {t = t1} {r = z} ns' t') h h' =
      let u = unique_names ns ns' refl refl in
      let v = unique_denoter t (subst (λ x. IsDenoter y t1 x z) (sym (ap behind u.1)) t') (end_stops w h) (end_stops z h') in
      (ap₂ (λ x y. fields x y no_fields) u.0 v.0, v.1)
  unique_field_lists (are_last_fields {r = w} ns t) (are_fields {d = y} {t = t1} {q = q} {n = z} ns' t' fs') h h' =
      let u = unique_names ns ns' refl refl in
      let v = unique_denoter t (subst (λ x. IsDenoter y t1 x (kind.Semicolon at q ∷ z)) (sym (ap behind u.1)) t') (end_stops w h) (record { operator = refl; selector = refl; range = refl }) in
      differ is_end v.1 h refl
  unique_field_lists (are_fields ns t fs) (are_last_fields {d = y} {t = t1} {r = z} ns' t') h h' =
      let u = unique_names ns ns' refl refl in
      let v = unique_denoter t (subst (λ x. IsDenoter y t1 x z) (sym (ap behind u.1)) t') (record { operator = refl; selector = refl; range = refl }) (end_stops z h') in
      differ is_end (sym v.1) h' refl
  unique_field_lists (are_fields ns t fs) (are_fields {d = y} {t = t1} {fs = f1} {q = q} {n = z} {r = w} ns' t' fs') h h' =
      let u = unique_names ns ns' refl refl in
      let v = unique_denoter t (subst (λ x. IsDenoter y t1 x (kind.Semicolon at q ∷ z)) (sym (ap behind u.1)) t') (record { operator = refl; selector = refl; range = refl }) (record { operator = refl; selector = refl; range = refl }) in
      let b = unique_field_lists fs (subst (λ x. AreFieldLists y f1 x w) (sym (ap behind v.1)) fs') h h' in
      (ap₃ fields u.0 v.0 b.0, b.1)

-- ---- first values

-- what begins as a record is no expression
pub no_expression_record : {A : Type 0} {d d' : ℕ} {fs : FieldInitials} {e : Expression} {q : Position} {ks m r : List Terminal} → AreFieldInitials d fs ks r → IsChain Relational d' e ks (kind.CloseParenthesis at q ∷ m) → A
no_expression_record (are_one_field_initial n i) f = differ is_colon (unique_expr (as_expr (name_factor n).1) f (refl, refl) (refl, refl)).1 refl refl
no_expression_record (are_field_initials n i fs) f = differ is_colon (unique_expr (as_expr (name_factor n).1) f (refl, refl) (refl, refl)).1 refl refl

-- nor is what begins as a list
pub no_expression_list : {A : Type 0} {d d' : ℕ} {is : Initials} {e : Expression} {q : Position} {ks m r : List Terminal} → AreInitials d is ks r → IsNoExpression is → IsChain Relational d' e ks (kind.CloseParenthesis at q ∷ m) → A
no_expression_list (are_one_initial (is_value f0)) n f = absurd n
no_expression_list (are_one_initial (is_list is k)) n f = no_expression_list is k (opened f).is_inside
no_expression_list (are_one_initial (is_record_value fs)) n f = no_expression_record fs (opened f).is_inside
no_expression_list (are_initials (is_value f0) is) n f = differ is_comma (unique_expr f0 f (refl, refl) (refl, refl)).1 refl refl
no_expression_list (are_initials (is_list is k) js) n f = no_expression_list is k (opened f).is_inside
no_expression_list (are_initials (is_record_value fs) js) n f = no_expression_record fs (opened f).is_inside

field_initials_begin : {d : ℕ} {fs : FieldInitials} {ks r : List Terminal} → AreFieldInitials d fs ks r → Begins is_identifier ks
field_initials_begin (are_one_field_initial is_name i) = refl
field_initials_begin (are_field_initials is_name i fs) = refl

-- a list is no record
no_record_list : {A : Type 0} {d d' : ℕ} {is : Initials} {fs : FieldInitials} {p q : Position} {ks m r : List Terminal} → AreInitials d is ks (kind.CloseParenthesis at p ∷ r) → AreFieldInitials d' fs ks (kind.CloseParenthesis at q ∷ m) → A
no_record_list (are_one_initial (is_value f)) (are_one_field_initial n i) = differ is_colon (unique_expr (as_expr (name_factor n).1) f (refl, refl) (refl, refl)).1 refl refl
no_record_list (are_one_initial (is_value f)) (are_field_initials n i fs) = differ is_colon (unique_expr (as_expr (name_factor n).1) f (refl, refl) (refl, refl)).1 refl refl
no_record_list (are_initials (is_value f) is) (are_one_field_initial n i) = differ is_colon (unique_expr (as_expr (name_factor n).1) f (refl, refl) (refl, refl)).1 refl refl
no_record_list (are_initials (is_value f) is) (are_field_initials n i fs) = differ is_colon (unique_expr (as_expr (name_factor n).1) f (refl, refl) (refl, refl)).1 refl refl
no_record_list (are_one_initial (is_list is k)) fs = false_true (field_initials_begin fs)
no_record_list (are_one_initial (is_record_value is)) fs = false_true (field_initials_begin fs)
no_record_list (are_initials (is_list is k) js) fs = false_true (field_initials_begin fs)
no_record_list (are_initials (is_record_value is) js) fs = false_true (field_initials_begin fs)

mutual
  pub unique_initial : {d d' : ℕ} {i i' : Initial} {ks r r' : List Terminal} → IsInitial d i ks r → IsInitial d' i' ks r' → Stops r → Stops r' → (i ≡ i') × (r ≡ r')
  unique_initial (is_value f) (is_value f') h h' =
      let u = unique_expr f f' h h' in
      (ap value u.0, u.1)
  unique_initial (is_value f) (is_list is n) h h' = no_expression_list is n (opened f).is_inside
  unique_initial (is_value f) (is_record_value fs) h h' = no_expression_record fs (opened f).is_inside
  unique_initial (is_list is n) (is_value f) h h' = no_expression_list is n (opened f).is_inside
  unique_initial (is_record_value fs) (is_value f) h h' = no_expression_record fs (opened f).is_inside
  unique_initial (is_list {p = p} is n) (is_list is' n') h h' =
      let u = unique_initials is is' (refl, refl) (refl, refl) refl refl in
      (ap (list p) u.0, ap behind u.1)
  unique_initial (is_list is n) (is_record_value fs) h h' = no_record_list is fs
  unique_initial (is_record_value fs) (is_list is n) h h' = no_record_list is fs
  unique_initial (is_record_value {p = p} fs) (is_record_value fs') h h' =
      let u = unique_field_initials fs fs' (refl, refl) (refl, refl) refl refl in
      (ap (record_value p) u.0, ap behind u.1)

  pub unique_initials : {d d' : ℕ} {is is' : Initials} {ks r r' : List Terminal} → AreInitials d is ks r → AreInitials d' is' ks r' → Stops r → Stops r' → IsNot is_comma r → IsNot is_comma r' → (is ≡ is') × (r ≡ r')
  unique_initials (are_one_initial i) (are_one_initial i') h h' c c' =
      let u = unique_initial i i' h h' in
      (ap (λ x. initials x no_initials) u.0, u.1)
  unique_initials (are_one_initial i) (are_initials i' is') h h' c c' =
      let u = unique_initial i i' h (refl, refl) in
      true_false (subst (IsNot is_comma) u.1 c)
  unique_initials (are_initials i is) (are_one_initial i') h h' c c' =
      let u = unique_initial i i' (refl, refl) h' in
      true_false (subst (IsNot is_comma) (sym u.1) c')
  unique_initials (are_initials i is) (are_initials {d = y} {is = i1} {r = z} i' is') h h' c c' =
      let u = unique_initial i i' (refl, refl) (refl, refl) in
      let v = unique_initials is (subst (λ x. AreInitials y i1 x z) (sym (ap behind u.1)) is') h h' c c' in
      (ap₂ initials u.0 v.0, v.1)

  pub unique_field_initials : {d d' : ℕ} {fs fs' : FieldInitials} {ks r r' : List Terminal} → AreFieldInitials d fs ks r → AreFieldInitials d' fs' ks r' → Stops r → Stops r' → IsNot is_semicolon r → IsNot is_semicolon r' → (fs ≡ fs') × (r ≡ r')
  unique_field_initials (are_one_field_initial n i) (are_one_field_initial {d = y} {i = i1} {r = z} n' i') h h' c c' =
      let u = unique_name n n' in
      let v = unique_initial i (subst (λ x. IsInitial y i1 x z) (sym (ap behind u.1)) i') h h' in
      (ap₂ (λ x y. field_initials x y no_field_initials) u.0 v.0, v.1)
  unique_field_initials (are_one_field_initial n i) (are_field_initials {d = y} {i = i1} {q = q} {l = z} n' i' fs') h h' c c' =
      let u = unique_name n n' in
      let v = unique_initial i (subst (λ x. IsInitial y i1 x (kind.Semicolon at q ∷ z)) (sym (ap behind u.1)) i') h (refl, refl) in
      true_false (subst (IsNot is_semicolon) v.1 c)
  unique_field_initials (are_field_initials n i fs) (are_one_field_initial {d = y} {i = i1} {r = z} n' i') h h' c c' =
      let u = unique_name n n' in
      let v = unique_initial i (subst (λ x. IsInitial y i1 x z) (sym (ap behind u.1)) i') (refl, refl) h' in
      true_false (subst (IsNot is_semicolon) (sym v.1) c')
  unique_field_initials (are_field_initials n i fs) (are_field_initials {d = y} {i = i1} {fs = f1} {q = q} {l = l} {r = z} n' i' fs') h h' c c' =
      let u = unique_name n n' in
      let v = unique_initial i (subst (λ x. IsInitial y i1 x (kind.Semicolon at q ∷ l)) (sym (ap behind u.1)) i') (refl, refl) (refl, refl) in
      let w = unique_field_initials fs (subst (λ x. AreFieldInitials y f1 x z) (sym (ap behind v.1)) fs') h h' c c' in
      (ap₃ field_initials u.0 v.0 w.0, w.1)
