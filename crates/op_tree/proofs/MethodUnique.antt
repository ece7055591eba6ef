-- At most one method, and at most one list of methods, stands at the front of a list of tokens.
use Rattle.std.proofs.Common.{◌≡◌, ℕ, Bool, true, false, List, [], ◌∷◌, Some, refl, sym, ◌∙◌, subst, ap₂}
use Rattle.std.proofs.lemmas.Option.{same_Some}
use Rattle.op_scan.specs.declared.token.TokenKind.{TokenKind}
use Rattle.op_scan.specs.declared.token.TokenKind.TheVariants as kind
use Rattle.op_tree.proofs.ExpressionUnique.{true_false, false_true, Begins}
use Rattle.op_tree.proofs.HeadingUnique.{unique_heading}
use Rattle.op_tree.proofs.StatementUnique.{both, is_end, is_identifier}
use Rattle.op_tree.specs.Declaration.{Heading, Method}
use Rattle.op_tree.specs.Ends.{IsNot, NoDirective}
use Rattle.op_tree.specs.HeadingGrammar.{routine_kind_of, IsHeading, is_heading, AreDirectives, are_no_directives, are_directives, IsMethod, is_method, AreMethods, are_no_methods, are_methods}
use Rattle.op_tree.specs.Terminal.{Terminal}
use Rattle.op_tree.specs.declared.heading.Directive.{Directive}
use Rattle.op_tree.specs.declared.heading.RoutineKind.{RoutineKind}

-- ---- directives

pub no_directive : (r : List Terminal) → IsNot is_identifier r → NoDirective r
no_directive [] h w ws z f = elim f [ ]
no_directive (t ∷ r) h w ws z (are_directives e f) = true_false h

pub unique_directives : {ws ws' : List Directive} {ks r r' : List Terminal} → AreDirectives ws ks r → AreDirectives ws' ks r' → NoDirective r → NoDirective r' → (ws ≡ ws') × (r ≡ r')
unique_directives are_no_directives are_no_directives h h' = (refl, refl)
unique_directives are_no_directives (are_directives e f) h h' = absurd (h _ _ _ (are_directives e f))
unique_directives (are_directives e f) are_no_directives h h' = absurd (h' _ _ _ (are_directives e f))
unique_directives (are_directives e f) (are_directives e' f') h h' =
    let u = unique_directives f f' h h' in
    (ap₂ (λ x y. x ∷ y) (same_Some _ _ (sym e ∙ e')) u.0, u.1)

-- ---- methods

pub unique_method : {d d' : ℕ} {a a' : Method} {ks r r' : List Terminal} → IsMethod d a ks r → IsMethod d' a' ks r' → NoDirective r → NoDirective r' → (a ≡ a') × (r ≡ r')
unique_method (is_method h ws) (is_method {ws = ws1} {r = z} h' ws') n n' =
    let u = unique_heading h h' in
    let v = unique_directives ws (subst (λ x. AreDirectives ws1 x z) (sym u.1) ws') n n' in
    (ap₂ (λ x y. record { heading = x; directives = y }) u.0 v.0, v.1)

-- the kind begins a heading
abbrev pub begins_heading : TokenKind → Bool
begins_heading kind.Procedure = true
begins_heading kind.Function = true
begins_heading kind.Constructor = true
begins_heading kind.Destructor = true
begins_heading other = false

routine_begins : (k : TokenKind) (sort : RoutineKind) → routine_kind_of k ≡ Some sort → begins_heading k ≡ true
routine_begins kind.Procedure sort h = refl
routine_begins kind.Function sort h = refl
routine_begins kind.Constructor sort h = refl
routine_begins kind.Destructor sort h = refl
routine_begins other sort h = absurd cc

pub heading_begins : {d : ℕ} {h : Heading} {ks r : List Terminal} → IsHeading d h ks r → Begins begins_heading ks
heading_begins (is_heading {k = k} {sort = sort} e n a t) = routine_begins k sort e

pub method_begins : {d : ℕ} {a : Method} {ks r : List Terminal} → IsMethod d a ks r → Begins begins_heading ks
method_begins (is_method h ws) = heading_begins h

-- what begins with the one kind does not begin with the other
pub apart : {one other : TokenKind → Bool} → ((k : TokenKind) → one k ≡ true → other k ≡ false) → (ks : List Terminal) → Begins one ks → IsNot other ks
apart f [] h = absurd h
apart f (t ∷ ks) h = f t.kind h

pub heading_no_identifier : (k : TokenKind) → begins_heading k ≡ true → is_identifier k ≡ false
heading_no_identifier (kind.Identifier text) h = false_true h
heading_no_identifier other h = refl

-- a list of methods before an end begins with a heading or the end
abbrev pub begins_methods : TokenKind → Bool
begins_methods kind.End = true
begins_methods k = begins_heading k

heading_begins_methods : (k : TokenKind) → begins_heading k ≡ true → begins_methods k ≡ true
heading_begins_methods kind.End h = refl
heading_begins_methods k h = h

end_begins_methods : (k : TokenKind) → is_end k ≡ true → begins_methods k ≡ true
end_begins_methods kind.End h = refl
end_begins_methods k h = false_true h

pub also : {one other : TokenKind → Bool} → ((k : TokenKind) → one k ≡ true → other k ≡ true) → (ks : List Terminal) → Begins one ks → Begins other ks
also f [] h = h
also f (t ∷ ks) h = f t.kind h

pub methods_begin : {d : ℕ} {as_ : List Method} {ks r : List Terminal} → AreMethods d as_ ks r → Begins is_end r → Begins begins_methods ks
methods_begin {r = r} are_no_methods e = also end_begins_methods r e
methods_begin {ks = ks} (are_methods a more) e = also heading_begins_methods ks (method_begins a)

methods_no_identifier : (k : TokenKind) → begins_methods k ≡ true → is_identifier k ≡ false
methods_no_identifier (kind.Identifier text) h = false_true h
methods_no_identifier other h = refl

heading_no_end : (k : TokenKind) → begins_heading k ≡ true → is_end k ≡ false
heading_no_end kind.End h = false_true h
heading_no_end other h = refl

no_method_at_end : {A : Type 0} {d : ℕ} {a : Method} {ks r : List Terminal} → IsMethod d a ks r → Begins is_end ks → A
no_method_at_end {ks = ks} a e = both is_end ks e (apart heading_no_end ks (method_begins a))

pub unique_methods : {d d' : ℕ} {as_ as' : List Method} {ks r r' : List Terminal} → AreMethods d as_ ks r → AreMethods d' as' ks r' → Begins is_end r → Begins is_end r' → (as_ ≡ as') × (r ≡ r')
unique_methods are_no_methods are_no_methods e e' = (refl, refl)
unique_methods are_no_methods (are_methods a more) e e' = no_method_at_end a e
unique_methods (are_methods a more) are_no_methods e e' = no_method_at_end a e'
unique_methods (are_methods {m = m} a more) (are_methods {d = y} {as_ = as1} {m = m1} {r = z} a' more') e e' =
    let h = apart methods_no_identifier m (methods_begin more e) in
    let h' = apart methods_no_identifier m1 (methods_begin more' e') in
    let u = unique_method a a' (no_directive m h) (no_directive m1 h') in
    let v = unique_methods more (subst (λ x. AreMethods y as1 x z) (sym u.1) more') e e' in
    (ap₂ (λ x y. x ∷ y) u.0 v.0, v.1)
