-- An expression that names a type is that type.
use Rattle.std.proofs.Common.{◌≡◌, ℕ, suc, List, [], ◌∷◌, ◌++◌, ◌<◌, Some, None, false, length, refl, sym, ◌∙◌, subst, arith}
use Rattle.std.proofs.lemmas.Option.{same_Some}
use Rattle.op_parse_code.specs.Whole.{Chain, NoMark}
use Rattle.op_parse_code.specs.declared.mark.Mark.TheVariants as mark
use Rattle.op_parse_decl.specs.Types.{SomeBounded, denoted}
use Rattle.op_scan.specs.declared.token.TokenKind.{TokenKind}
use Rattle.op_scan.specs.declared.token.TokenKind.TheVariants as kind
use Rattle.op_tree.specs.Denoter.{Denoter, named, string, enumeration}
use Rattle.op_tree.specs.DenoterGrammar.{IsDenoter, is_named, is_string, is_enumeration}
use Rattle.op_tree.specs.Ends.{IsNot, StopsDenoter, is_dot_dot, EndsChain}
use Rattle.op_tree.specs.Expression.{Expression, designated, Designator, designator, named as named_root, string as string_root, bracketed, no_selectors, selectors, member, selector_of, Selector as PureSelector}
use Rattle.op_tree.specs.ExpressionGrammar.{IsChain, is_chain, is_simple, is_term, is_factor, are_no_operations, are_operations, IsFactor, is_designated, IsDesignator, is_designator, is_named as is_named_root, is_string as is_string_root, is_bracketed, are_no_selectors, are_selectors, is_member}
use Rattle.op_tree.specs.NameGrammar.{is_name, is_unqualified, is_qualified, are_one_name, are_bracketed_names}
use Rattle.op_tree.specs.Statement.{selectors_of}
use Rattle.op_tree.specs.Terminal.{Terminal, ◌at◌}
use Rattle.op_tree.specs.declared.operator.Level.TheVariants.{Relational, Additive, Multiplicative}
use Rattle.op_tree.specs.declared.expression.Selector.{Selector}
use Rattle.op_tree.specs.declared.position.Name.{Name}
use Rattle.op_tree.specs.declared.position.Position.{Position}

designated_same : {g g' : Designator} → designated g ≡ designated g' → g ≡ g'
designated_same h = cc

by_factor : {d : ℕ} {e : Expression} {g : Designator} {ks r : List Terminal} → e ≡ designated g → IsFactor d e ks r → IsDesignator d g ks r
by_factor {d = d} {ks = ks} {r = r} h (is_designated f) = subst (λ z. IsDesignator d z ks r) (designated_same h) f
by_factor h f = absurd cc

by_term : {d : ℕ} {e : Expression} {g : Designator} {ks r : List Terminal} → e ≡ designated g → IsChain Multiplicative d e ks r → IsDesignator d g ks r
by_term h (is_chain (is_factor f) are_no_operations q) = by_factor (sym q ∙ h) f
by_term h (is_chain a (are_operations o l b os) q) = absurd cc

by_simple : {d : ℕ} {e : Expression} {g : Designator} {ks r : List Terminal} → e ≡ designated g → IsChain Additive d e ks r → IsDesignator d g ks r
by_simple h (is_chain (is_term f) are_no_operations q) = by_term (sym q ∙ h) f
by_simple h (is_chain a (are_operations o l b os) q) = absurd cc

pub by_expr : {d : ℕ} {e : Expression} {g : Designator} {ks r : List Terminal} → e ≡ designated g → IsChain Relational d e ks r → IsDesignator d g ks r
by_expr h (is_chain (is_simple f) are_no_operations q) = by_simple (sym q ∙ h) f
by_expr h (is_chain a (are_operations o l b os) q) = absurd cc

no_range : (r : List Terminal) → NoMark mark.DotDot r → IsNot is_dot_dot r
no_range [] h = tt
no_range (t ∷ r) h = at_kind t.kind t.position h
  where
    at_kind : (k : TokenKind) (p : Position) → NoMark mark.DotDot (k at p ∷ r) → is_dot_dot k ≡ false
    at_kind kind.DotDot p h = absurd (h p r refl)
    at_kind other p h = refl

of_name : {d : ℕ} {n : Name} {ks m : List Terminal} → IsDesignator d (designator (named_root n) no_selectors) ks m → IsDenoter (suc d) (named (record { unit = None; name = n })) ks m
of_name (is_designator is_named_root are_no_selectors) = is_named (is_unqualified is_name)

of_member : {d : ℕ} {u n : Name} {ks m : List Terminal} → IsDesignator d (designator (named_root u) (selectors (member n) no_selectors)) ks m → IsDenoter (suc d) (named (record { unit = Some u; name = n })) ks m
of_member (is_designator is_named_root (are_selectors is_member are_no_selectors)) = is_named (is_qualified is_name is_name)

of_word : {d : ℕ} {p : Position} {ks m : List Terminal} → IsDesignator d (designator (string_root p) no_selectors) ks m → IsDenoter (suc d) (string p) ks m
of_word (is_designator is_string_root are_no_selectors) = is_string

inside_brackets : {d : ℕ} {n : Name} {p q : Position} {ks m : List Terminal} → IsDesignator d (designator (named_root n) no_selectors) ks (kind.CloseParenthesis at q ∷ m) → IsDenoter (suc (suc d)) (enumeration p (n ∷ [])) (kind.OpenParenthesis at p ∷ ks) m
inside_brackets (is_designator is_named_root are_no_selectors) = is_enumeration (are_bracketed_names (are_one_name is_name))

of_brackets : {d : ℕ} {n : Name} {p : Position} {ks m : List Terminal} → IsDesignator d (designator (bracketed p (designated (designator (named_root n) no_selectors))) no_selectors) ks m → IsDenoter (suc d) (enumeration p (n ∷ [])) ks m
of_brackets (is_designator (is_bracketed g) are_no_selectors) = inside_brackets (by_expr refl g)

ends_type : (e : Designator) {m : List Terminal} → EndsChain Additive (designated e) m → NoMark mark.DotDot m → StopsDenoter m
ends_type e {m = m} f none = record { operator = f.0; selector = f.1; range = no_range m none }

pub denoted_whole : (d : ℕ) (a : Expression) (t : Denoter) (ks m : List Terminal) → Chain Additive d a ks m → NoMark mark.DotDot m → denoted a ≡ Some t → SomeBounded d t ks m
denoted_whole d (designated (designator (named_root n) no_selectors)) t ks m f none h = subst (λ z. SomeBounded d z ks m) (same_Some _ _ h) (of_name (by_simple refl f.0), ends_type (designator (named_root n) no_selectors) f.1 none)
denoted_whole d (designated (designator (named_root u) (selectors (member n) no_selectors))) t ks m f none h = subst (λ z. SomeBounded d z ks m) (same_Some _ _ h) (of_member (by_simple refl f.0), ends_type (designator (named_root u) (selectors (member n) no_selectors)) f.1 none)
denoted_whole d (designated (designator (string_root p) no_selectors)) t ks m f none h = subst (λ z. SomeBounded d z ks m) (same_Some _ _ h) (of_word (by_simple refl f.0), ends_type (designator (string_root p) no_selectors) f.1 none)
denoted_whole d (designated (designator (bracketed p (designated (designator (named_root n) no_selectors))) no_selectors)) t ks m f none h = subst (λ z. SomeBounded d z ks m) (same_Some _ _ h) (of_brackets (by_simple refl f.0), ends_type (designator (bracketed p (designated (designator (named_root n) no_selectors))) no_selectors) f.1 none)
denoted_whole d other t ks m f none h = absurd cc

-- ---- the same of trees

pub named_alone : (n : Name) (xs ys : List Selector) → xs ≡ ys ++ [] → length ys ≡ 0 → denoted (designated (designator (named_root n) (selectors_of xs))) ≡ Some (named (record { unit = None; name = n }))
named_alone n xs [] e h = subst (λ z. denoted (designated (designator (named_root n) (selectors_of z))) ≡ Some (named (record { unit = None; name = n }))) (sym e) refl
named_alone n xs (y ∷ ys) e h = absurd (omega (arith, h))

pub named_more : (n : Name) (xs ys : List Selector) (x : Selector) → xs ≡ ys ++ (x ∷ []) → 0 < length ys → denoted (designated (designator (named_root n) (selectors_of xs))) ≡ None
named_more n xs [] x e h = absurd (omega (arith, h))
named_more n xs (y ∷ ys) x e h = subst (λ z. denoted (designated (designator (named_root n) (selectors_of z))) ≡ None) (sym e) (two (selector_of y) ys)
  where
    two : (s : PureSelector) (ys : List Selector) → denoted (designated (designator (named_root n) (selectors s (selectors_of (ys ++ (x ∷ [])))))) ≡ None
    two (member u) [] = refl
    two (member u) (z ∷ zs) = refl
    two other ys = refl

pub string_more : (p : Position) (xs : List Selector) → 0 < length xs → denoted (designated (designator (string_root p) (selectors_of xs))) ≡ None
string_more p [] h = absurd (omega (arith, h))
string_more p (x ∷ xs) h = refl

pub string_alone : (p : Position) (xs : List Selector) → length xs ≡ 0 → denoted (designated (designator (string_root p) (selectors_of xs))) ≡ Some (string p)
string_alone p [] h = refl
string_alone p (x ∷ xs) h = absurd (omega (arith, h))

pub bracketed_more : (p : Position) (e : Expression) (xs : List Selector) → 0 < length xs → denoted (designated (designator (bracketed p e) (selectors_of xs))) ≡ None
bracketed_more p (designated (designator (named_root n) no_selectors)) [] h = absurd (omega (arith, h))
bracketed_more p (designated (designator (named_root n) no_selectors)) (x ∷ xs) h = refl
bracketed_more p other [] h = absurd (omega (arith, h))
bracketed_more p other (x ∷ xs) h = refl

pub none_selected : (xs : List Selector) → length xs ≡ 0 → selectors_of xs ≡ no_selectors
none_selected [] h = refl
none_selected (x ∷ xs) h = absurd (omega (arith, h))

pub one_more : (p : Position) (n : Name) (xs : List Selector) → 0 < length xs → denoted (designated (designator (bracketed p (designated (designator (named_root n) (selectors_of xs)))) no_selectors)) ≡ None
one_more p n [] h = absurd (omega (arith, h))
one_more p n (x ∷ xs) h = refl
