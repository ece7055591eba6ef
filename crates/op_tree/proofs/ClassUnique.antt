-- At most one class, and at most one interface, stands at the front of a list of tokens before a semicolon.
use Rattle.std.proofs.Common.{◌≡◌, ℕ, Bool, true, false, List, [], ◌∷◌, codes, Option, Some, None, refl, sym, ap, ◌∙◌, subst, ap₂}
use Rattle.std.proofs.lemmas.Option.{same_Some}
use Rattle.op_base.proofs.Tests.{ap₃}
use Rattle.op_scan.specs.declared.token.TokenKind.{TokenKind}
use Rattle.op_scan.specs.declared.token.TokenKind.TheVariants as kind
use Rattle.op_tree.proofs.DenoterUnique.{names_begin, unique_bracketed_names, unique_denoter, unique_names}
use Rattle.op_tree.proofs.ExpressionUnique.{true_false, false_true, Begins, is_comma, is_colon, behind}
use Rattle.op_tree.proofs.MethodUnique.{also, apart, begins_heading, begins_methods, heading_no_identifier, method_begins, methods_begin, no_directive, unique_method, unique_methods}
use Rattle.op_tree.proofs.StatementUnique.{both, differ, is_end, is_identifier, is_semicolon, unique_name, same4}
use Rattle.op_tree.specs.Declaration.{Class, Interface, Member, fields, method, property, Method, Property, Section}
use Rattle.op_tree.specs.Denoter.{Denoter}
use Rattle.op_tree.specs.DenoterGrammar.{IsDenoter}
use Rattle.op_tree.specs.Ends.{IsNot, NoDirective, StopsDenoter}
use Rattle.op_tree.specs.HeadingGrammar.{are_directives, IsAccessor, has_no_accessor, has_accessor, IsProperty, is_property, IsMember, are_fields, is_class_method, is_class_property, AreMembers, are_no_members, are_members, AreSections, are_no_sections, are_sections, IsClassBody, begins_with_visibility, begins_with_members, IsClass, has_body_alone, has_list_alone, has_list_and_body, IsIdentifier, has_no_identifier, has_identifier, AreMethods, IsInterface, has_methods_alone, has_ancestor_alone, has_ancestor_and_methods}
use Rattle.op_tree.specs.NameGrammar.{AreNames, are_one_name, are_names, is_name, are_bracketed_names}
use Rattle.op_tree.specs.Terminal.{Terminal, ◌at◌}
use Rattle.op_tree.specs.declared.class.Visibility.{Visibility}
use Rattle.op_tree.specs.declared.position.Name.{Name}
use Rattle.op_tree.specs.declared.position.Position.{Position}

-- ---- properties

pub accessor_stops : {word : List ℕ} {n : Option Name} {ks r : List Terminal} → IsAccessor word n ks r → StopsDenoter r → StopsDenoter ks
accessor_stops has_no_accessor h = h
accessor_stops (has_accessor w n) h = record { operator = refl; selector = refl; range = refl }

two_words : {A : Type 0} {text : List ℕ} → text ≡ codes "read" → text ≡ codes "write" → A
two_words e f = absurd cc

unique_accessor : {word : List ℕ} {n n' : Option Name} {p p' : Position} {ks r r' : List Terminal} → IsAccessor word n ks (kind.Semicolon at p ∷ r) → IsAccessor word n' ks (kind.Semicolon at p' ∷ r') → (n ≡ n') × (r ≡ r')
unique_accessor has_no_accessor has_no_accessor = (refl, refl)
unique_accessor (has_accessor w n) (has_accessor w' n') =
    let u = unique_name n n' in
    (ap Some u.0, ap behind u.1)

unique_accessors : {a a' b b' : Option Name} {p p' : Position} {ks m m' r r' : List Terminal} → IsAccessor (codes "read") a ks m → IsAccessor (codes "write") b m (kind.Semicolon at p ∷ r) → IsAccessor (codes "read") a' ks m' → IsAccessor (codes "write") b' m' (kind.Semicolon at p' ∷ r') → (a ≡ a') × (b ≡ b') × (r ≡ r')
unique_accessors has_no_accessor w has_no_accessor w' =
    let u = unique_accessor w w' in
    (refl, u.0, u.1)
unique_accessors has_no_accessor (has_accessor w n) (has_accessor v' n') w' = two_words v' w
unique_accessors (has_accessor v n) w has_no_accessor (has_accessor w' n') = two_words v w'
unique_accessors {b' = b1} {p' = q} {r' = z} (has_accessor v n) w (has_accessor v' n') w' =
    let u = unique_name n n' in
    let s = unique_accessor w (subst (λ x. IsAccessor (codes "write") b1 x (kind.Semicolon at q ∷ z)) (sym u.1) w') in
    (ap Some u.0, s.0, s.1)

abbrev pub property_with : Name → Denoter → Option Name → Option Name → Property
property_with n t a b = record { name = n; denoter = t; read = a; write = b }

pub semicolon_stops : (p : Position) (r : List Terminal) → StopsDenoter (kind.Semicolon at p ∷ r)
semicolon_stops p r = record { operator = refl; selector = refl; range = refl }

unique_property : {d d' : ℕ} {a a' : Property} {ks r r' : List Terminal} → IsProperty d a ks r → IsProperty d' a' ks r' → (a ≡ a') × (r ≡ r')
unique_property (is_property n t v w) (is_property {d = y} {t = t1} {read = a1} {m1 = z} {m2 = z2} n' t' v' w') =
    let s = accessor_stops v (accessor_stops w (semicolon_stops _ _)) in
    let s' = accessor_stops v' (accessor_stops w' (semicolon_stops _ _)) in
    let u = unique_name n n' in
    let b = unique_denoter t (subst (λ x. IsDenoter y t1 x z) (sym (ap behind u.1)) t') s s' in
    let c = unique_accessors v w (subst (λ x. IsAccessor (codes "read") a1 x z2) (sym b.1) v') w' in
    (same4 property_with u.0 b.0 c.0 c.1, c.2)

-- ---- members

-- what stands in a class: members, the word of a visibility, the end
abbrev stands_in_class : TokenKind → Bool
stands_in_class kind.End = true
stands_in_class kind.Property = true
stands_in_class kind.Procedure = true
stands_in_class kind.Function = true
stands_in_class kind.Constructor = true
stands_in_class kind.Destructor = true
stands_in_class (kind.Identifier text) = true
stands_in_class other = false

end_in_class : (k : TokenKind) → is_end k ≡ true → stands_in_class k ≡ true
end_in_class kind.End h = refl
end_in_class other h = false_true h

identifier_in_class : (k : TokenKind) → is_identifier k ≡ true → stands_in_class k ≡ true
identifier_in_class (kind.Identifier text) h = refl
identifier_in_class other h = false_true h

heading_in_class : (k : TokenKind) → begins_heading k ≡ true → stands_in_class k ≡ true
heading_in_class kind.Procedure h = refl
heading_in_class kind.Function h = refl
heading_in_class kind.Constructor h = refl
heading_in_class kind.Destructor h = refl
heading_in_class other h = false_true h

no_comma_in_class : (k : TokenKind) → stands_in_class k ≡ true → is_comma k ≡ false
no_comma_in_class kind.Comma h = false_true h
no_comma_in_class other h = refl

no_colon_in_class : (k : TokenKind) → stands_in_class k ≡ true → is_colon k ≡ false
no_colon_in_class kind.Colon h = false_true h
no_colon_in_class other h = refl

no_semicolon_in_class : (k : TokenKind) → stands_in_class k ≡ true → is_semicolon k ≡ false
no_semicolon_in_class kind.Semicolon h = false_true h
no_semicolon_in_class other h = refl

heading_no_end : (k : TokenKind) → begins_heading k ≡ true → is_end k ≡ false
heading_no_end kind.End h = false_true h
heading_no_end other h = refl

identifier_no_end : (k : TokenKind) → is_identifier k ≡ true → is_end k ≡ false
identifier_no_end kind.End h = false_true h
identifier_no_end other h = refl

end_no_identifier : (k : TokenKind) → is_end k ≡ true → is_identifier k ≡ false
end_no_identifier (kind.Identifier text) h = false_true h
end_no_identifier other h = refl

member_begins : {d : ℕ} {a : Member} {ks r : List Terminal} → IsMember d a ks r → Begins stands_in_class ks
member_begins {ks = ks} (are_fields ns t) = also identifier_in_class ks (names_begin ns)
member_begins {ks = ks} (is_class_method a) = also heading_in_class ks (method_begins a)
member_begins (is_class_property (is_property n t v w)) = refl

members_begin : {d : ℕ} {as_ : List Member} {ks r : List Terminal} → AreMembers d as_ ks r → Begins stands_in_class r → Begins stands_in_class ks
members_begin are_no_members h = h
members_begin (are_members a more) h = member_begins a

no_member_at_end : {A : Type 0} {d : ℕ} {a : Member} {ks r : List Terminal} → IsMember d a ks r → Begins is_end ks → A
no_member_at_end {ks = ks} (are_fields ns t) e = both is_end ks e (apart identifier_no_end ks (names_begin ns))
no_member_at_end {ks = ks} (is_class_method a) e = both is_end ks e (apart heading_no_end ks (method_begins a))
no_member_at_end (is_class_property (is_property n t v w)) e = false_true e

-- no member and no directive stands in front
record EndsMembers (r : List Terminal) : Type 0 where
  member : {d : ℕ} {a : Member} {z : List Terminal} → IsMember d a r z → ⊥
  directive : NoDirective r

-- a name with a comma or a colon behind it is no directive
pub names_no_directive : {ns : List Name} {p : Position} {ks r : List Terminal} → AreNames ns ks (kind.Colon at p ∷ r) → NoDirective ks
names_no_directive (are_one_name is_name) w ws z f = elim f [ ]
names_no_directive (are_names is_name b) w ws z f = elim f [ ]

members_no_directive : {d : ℕ} {as_ : List Member} {ks r : List Terminal} → AreMembers d as_ ks r → NoDirective r → NoDirective ks
members_no_directive are_no_members h = h
members_no_directive (are_members (are_fields ns t) more) h = names_no_directive ns
members_no_directive (are_members {ks = ks} (is_class_method a) more) h = no_directive ks (apart heading_no_identifier ks (method_begins a))
members_no_directive (are_members {ks = ks} (is_class_property (is_property n t v w)) more) h = no_directive ks refl

unique_member : {d d' : ℕ} {a a' : Member} {ks r r' : List Terminal} → IsMember d a ks r → IsMember d' a' ks r' → NoDirective r → NoDirective r' → (a ≡ a') × (r ≡ r')
unique_member (are_fields ns t) (are_fields {d = y} {t = t1} {q = q} {r = z} ns' t') h h' =
    let u = unique_names ns ns' refl refl in
    let v = unique_denoter t (subst (λ x. IsDenoter y t1 x (kind.Semicolon at q ∷ z)) (sym (ap behind u.1)) t') (semicolon_stops _ _) (semicolon_stops _ _) in
    (ap₂ (λ x y. fields (record { names = x; denoter = y })) u.0 v.0, ap behind v.1)
unique_member {ks = ks} (are_fields ns t) (is_class_method a) h h' = both is_identifier ks (names_begin ns) (apart heading_no_identifier ks (method_begins a))
unique_member (are_fields ns t) (is_class_property (is_property n s v w)) h h' = false_true (names_begin ns)
unique_member {ks = ks} (is_class_method a) (are_fields ns t) h h' = both is_identifier ks (names_begin ns) (apart heading_no_identifier ks (method_begins a))
unique_member (is_class_method a) (is_class_method a') h h' =
    let u = unique_method a a' h h' in
    (ap method u.0, u.1)
unique_member (is_class_method a) (is_class_property (is_property n s v w)) h h' = false_true (method_begins a)
unique_member (is_class_property (is_property n s v w)) (are_fields ns t) h h' = false_true (names_begin ns)
unique_member (is_class_property (is_property n s v w)) (is_class_method a) h h' = false_true (method_begins a)
unique_member (is_class_property a) (is_class_property a') h h' =
    let u = unique_property a a' in
    (ap property u.0, u.1)

unique_members : {d d' : ℕ} {as_ as' : List Member} {ks r r' : List Terminal} → AreMembers d as_ ks r → AreMembers d' as' ks r' → EndsMembers r → EndsMembers r' → (as_ ≡ as') × (r ≡ r')
unique_members are_no_members are_no_members h h' = (refl, refl)
unique_members are_no_members (are_members a more) h h' = absurd (h.member a)
unique_members (are_members a more) are_no_members h h' = absurd (h'.member a)
unique_members (are_members a more) (are_members {d = y} {as_ = as1} {r = z} a' more') h h' =
    let u = unique_member a a' (members_no_directive more h.directive) (members_no_directive more' h'.directive) in
    let v = unique_members more (subst (λ x. AreMembers y as1 x z) (sym u.1) more') h h' in
    (ap₂ (λ x y. x ∷ y) u.0 v.0, v.1)

-- ---- sections

sections_begin : {d : ℕ} {ss : List Section} {ks r : List Terminal} → AreSections d ss ks r → Begins is_end r → Begins stands_in_class ks
sections_begin {r = r} are_no_sections e = also end_in_class r e
sections_begin (are_sections v as_ ss) e = refl

-- a word before what stands in a class is no name of a field
word_no_name : {A : Type 0} {ns : List Name} {text : List ℕ} {p q : Position} {ks r : List Terminal} → AreNames ns (kind.Identifier text at p ∷ ks) (kind.Colon at q ∷ r) → Begins stands_in_class ks → A
word_no_name {ks = ks} (are_one_name is_name) b = both is_colon ks refl (apart no_colon_in_class ks b)
word_no_name {ks = ks} (are_names is_name more) b = both is_comma ks refl (apart no_comma_in_class ks b)

word_no_member : {A : Type 0} {d : ℕ} {a : Member} {text : List ℕ} {p : Position} {ks z : List Terminal} → Begins stands_in_class ks → IsMember d a (kind.Identifier text at p ∷ ks) z → A
word_no_member b (are_fields ns t) = word_no_name ns b
word_no_member b (is_class_method a) = false_true (method_begins a)
word_no_member b (is_class_property a) = elim a [ ]

word_no_directive : {text : List ℕ} {p : Position} {ks : List Terminal} → Begins stands_in_class ks → NoDirective (kind.Identifier text at p ∷ ks)
word_no_directive {ks = ks} b w ws z (are_directives e f) = both is_semicolon ks refl (apart no_semicolon_in_class ks b)

sections_end_members : {d : ℕ} {ss : List Section} {ks r : List Terminal} → AreSections d ss ks r → Begins is_end r → EndsMembers ks
sections_end_members {r = r} are_no_sections e = record { member = λ a. no_member_at_end a e; directive = no_directive r (apart end_no_identifier r e) }
sections_end_members (are_sections v as_ ss) e =
    let b = members_begin as_ (sections_begin ss e) in
    record { member = λ a. word_no_member b a; directive = word_no_directive b }

abbrev pub section_with : Option Visibility → List Member → Section
section_with v as_ = record { visibility = v; members = as_ }

unique_sections : {d d' : ℕ} {ss ss' : List Section} {ks r r' : List Terminal} → AreSections d ss ks r → AreSections d' ss' ks r' → Begins is_end r → Begins is_end r' → (ss ≡ ss') × (r ≡ r')
unique_sections are_no_sections are_no_sections e e' = (refl, refl)
unique_sections are_no_sections (are_sections v as_ ss) e e' = false_true e
unique_sections (are_sections v as_ ss) are_no_sections e e' = false_true e'
unique_sections (are_sections v as_ ss) (are_sections {d = y} {ss = s1} {r = z} v' as' ss') e e' =
    let u = unique_members as_ as' (sections_end_members ss e) (sections_end_members ss' e') in
    let t = unique_sections ss (subst (λ x. AreSections y s1 x z) (sym u.1) ss') e e' in
    (ap₃ (λ x y z. section_with (Some x) y ∷ z) (same_Some _ _ (sym v ∙ v')) u.0 t.0, t.1)

-- ---- classes

unique_body : {d d' : ℕ} {ss ss' : List Section} {ks r r' : List Terminal} → IsClassBody d ss ks r → IsClassBody d' ss' ks r' → (ss ≡ ss') × (r ≡ r')
unique_body (begins_with_visibility ss) (begins_with_visibility ss') =
    let u = unique_sections ss ss' refl refl in
    (u.0, ap behind u.1)
unique_body (begins_with_visibility ss) (begins_with_members (are_members a as_) ss') = absurd ((sections_end_members ss refl).member a)
unique_body (begins_with_members (are_members a as_) ss) (begins_with_visibility ss') = absurd ((sections_end_members ss' refl).member a)
unique_body (begins_with_members as_ ss) (begins_with_members {d = y} {ss = s1} {p = p} {r = z} as' ss') =
    let u = unique_members as_ as' (sections_end_members ss refl) (sections_end_members ss' refl) in
    let v = unique_sections ss (subst (λ x. AreSections y s1 x (kind.End at p ∷ z)) (sym u.1) ss') refl refl in
    (ap₂ (λ x y. section_with None x ∷ y) u.0 v.0, ap behind v.1)

body_begins : {d : ℕ} {ss : List Section} {ks r : List Terminal} → IsClassBody d ss ks r → Begins stands_in_class ks
body_begins (begins_with_visibility ss) = sections_begin ss refl
body_begins (begins_with_members (are_members a as_) ss) = member_begins a

abbrev pub class_with : List Name → List Section → Class
class_with ns ss = record { ancestors = ns; sections = ss }

pub no_body : {A : Type 0} {d : ℕ} {ss : List Section} {p : Position} {ks r s : List Terminal} → IsClassBody d ss ks r → kind.Semicolon at p ∷ s ≡ ks → A
no_body {ks = ks} b q = differ is_semicolon q refl (apart no_semicolon_in_class ks (body_begins b))

pub unique_class : {d d' : ℕ} {c c' : Class} {p p' : Position} {ks r r' : List Terminal} → IsClass d c ks (kind.Semicolon at p ∷ r) → IsClass d' c' ks (kind.Semicolon at p' ∷ r') → (c ≡ c') × (r ≡ r')
unique_class (has_body_alone b) (has_body_alone b') =
    let u = unique_body b b' in
    (ap (class_with []) u.0, ap behind u.1)
unique_class (has_body_alone b) (has_list_alone (are_bracketed_names ns)) = false_true (body_begins b)
unique_class (has_body_alone b) (has_list_and_body (are_bracketed_names ns) b') = false_true (body_begins b)
unique_class (has_list_alone (are_bracketed_names ns)) (has_body_alone b) = false_true (body_begins b)
unique_class (has_list_and_body (are_bracketed_names ns) b') (has_body_alone b) = false_true (body_begins b)
unique_class (has_list_alone ns) (has_list_alone ns') =
    let u = unique_bracketed_names ns ns' in
    (ap (λ x. class_with x []) u.0, ap behind u.1)
unique_class (has_list_alone ns) (has_list_and_body ns' b) = no_body b (unique_bracketed_names ns ns').1
unique_class (has_list_and_body ns b) (has_list_alone ns') = no_body b (sym (unique_bracketed_names ns ns').1)
unique_class {p' = q} {r' = z} (has_list_and_body ns b) (has_list_and_body {d = y} {ss = s1} ns' b') =
    let u = unique_bracketed_names ns ns' in
    let v = unique_body b (subst (λ x. IsClassBody y s1 x (kind.Semicolon at q ∷ z)) (sym u.1) b') in
    (ap₂ class_with u.0 v.0, ap behind v.1)

-- ---- interfaces

abbrev pub is_bracket : TokenKind → Bool
is_bracket kind.OpenBracket = true
is_bracket other = false

pub unique_identifier : {d d' : ℕ} {t t' : Option (List ℕ)} {ks r r' : List Terminal} → IsIdentifier d t ks r → IsIdentifier d' t' ks r' → IsNot is_bracket r → IsNot is_bracket r' → (t ≡ t') × (r ≡ r')
unique_identifier has_no_identifier has_no_identifier h h' = (refl, refl)
unique_identifier has_no_identifier has_identifier h h' = true_false h
unique_identifier has_identifier has_no_identifier h h' = true_false h'
unique_identifier has_identifier has_identifier h h' = (refl, refl)

methods_no_bracket : (k : TokenKind) → begins_methods k ≡ true → is_bracket k ≡ false
methods_no_bracket kind.OpenBracket h = false_true h
methods_no_bracket other h = refl

pub methods_no_semicolon : (k : TokenKind) → begins_methods k ≡ true → is_semicolon k ≡ false
methods_no_semicolon kind.Semicolon h = false_true h
methods_no_semicolon other h = refl

abbrev is_parenthesis : TokenKind → Bool
is_parenthesis kind.OpenParenthesis = true
is_parenthesis other = false

methods_no_parenthesis : (k : TokenKind) → begins_methods k ≡ true → is_parenthesis k ≡ false
methods_no_parenthesis kind.OpenParenthesis h = false_true h
methods_no_parenthesis other h = refl

-- methods before the end, as a list of tokens
before_end : {d : ℕ} {as_ : List Method} {q : Position} {ks r : List Terminal} → AreMethods d as_ ks (kind.End at q ∷ r) → Begins begins_methods ks
before_end as_ = methods_begin as_ refl

no_list : {d d' : ℕ} {t : Option (List ℕ)} {as_ : List Method} {q : Position} {ks m r : List Terminal} → IsIdentifier d t ks m → AreMethods d' as_ m (kind.End at q ∷ r) → IsNot is_parenthesis ks
no_list {m = m} has_no_identifier as_ = apart methods_no_parenthesis m (before_end as_)
no_list has_identifier as_ = refl

one_same : {n n' : Name} → n ∷ [] ≡ n' ∷ [] → n ≡ n'
one_same e = cc

abbrev pub interface_with : Option Name → Option (List ℕ) → List Method → Interface
interface_with n t as_ = record { ancestor = n; identifier = t; methods = as_ }

-- a semicolon is no list of methods
pub no_methods_here : {A : Type 0} {d : ℕ} {as_ : List Method} {p q : Position} {ks r s : List Terminal} → AreMethods d as_ ks (kind.End at q ∷ r) → kind.Semicolon at p ∷ s ≡ ks → A
no_methods_here {ks = ks} as_ q = differ is_semicolon q refl (apart methods_no_semicolon ks (before_end as_))

pub no_bracket : {d : ℕ} {as_ : List Method} {q : Position} {ks r : List Terminal} → AreMethods d as_ ks (kind.End at q ∷ r) → IsNot is_bracket ks
no_bracket {ks = ks} as_ = apart methods_no_bracket ks (before_end as_)

pub unique_interface : {d d' : ℕ} {i i' : Interface} {p p' : Position} {ks r r' : List Terminal} → IsInterface d i ks (kind.Semicolon at p ∷ r) → IsInterface d' i' ks (kind.Semicolon at p' ∷ r') → (i ≡ i') × (r ≡ r')
unique_interface {p' = w} {r' = z} (has_methods_alone t as_) (has_methods_alone {d = y} {as_ = a1} {q = q} t' as') =
    let u = unique_identifier t t' (no_bracket as_) (no_bracket as') in
    let v = unique_methods as_ (subst (λ x. AreMethods y a1 x (kind.End at q ∷ kind.Semicolon at w ∷ z)) (sym u.1) as') refl refl in
    (ap₂ (interface_with None) u.0 v.0, ap behind (ap behind v.1))
unique_interface (has_methods_alone t as_) (has_ancestor_alone (are_bracketed_names n) t') = true_false (no_list t as_)
unique_interface (has_methods_alone t as_) (has_ancestor_and_methods (are_bracketed_names n) t' as') = true_false (no_list t as_)
unique_interface (has_ancestor_alone (are_bracketed_names n) t') (has_methods_alone t as_) = true_false (no_list t as_)
unique_interface (has_ancestor_and_methods (are_bracketed_names n) t' as') (has_methods_alone t as_) = true_false (no_list t as_)
unique_interface {p' = w} {r' = z} (has_ancestor_alone n t) (has_ancestor_alone {d = y} {text = t1} n' t') =
    let u = unique_bracketed_names n n' in
    let v = unique_identifier t (subst (λ x. IsIdentifier y t1 x (kind.Semicolon at w ∷ z)) (sym u.1) t') refl refl in
    (ap₂ (λ x y. interface_with (Some x) y []) (one_same u.0) v.0, ap behind v.1)
unique_interface (has_ancestor_alone n t) (has_ancestor_and_methods {d = y} {text = t1} {m1 = z} n' t' as') =
    let u = unique_bracketed_names n n' in
    let v = unique_identifier t (subst (λ x. IsIdentifier y t1 x z) (sym u.1) t') refl (no_bracket as') in
    no_methods_here as' v.1
unique_interface {p' = w} {r' = z} (has_ancestor_and_methods n t as_) (has_ancestor_alone {d = y} {text = t1} n' t') =
    let u = unique_bracketed_names n n' in
    let v = unique_identifier t (subst (λ x. IsIdentifier y t1 x (kind.Semicolon at w ∷ z)) (sym u.1) t') (no_bracket as_) refl in
    no_methods_here as_ (sym v.1)
unique_interface {p' = w} {r' = z} (has_ancestor_and_methods n t as_) (has_ancestor_and_methods {d = y} {text = t1} {as_ = a1} {q = q} {m1 = z1} n' t' as') =
    let u = unique_bracketed_names n n' in
    let v = unique_identifier t (subst (λ x. IsIdentifier y t1 x z1) (sym u.1) t') (no_bracket as_) (no_bracket as') in
    let b = unique_methods as_ (subst (λ x. AreMethods y a1 x (kind.End at q ∷ kind.Semicolon at w ∷ z)) (sym v.1) as') refl refl in
    (ap₃ (λ x. interface_with (Some x)) (one_same u.0) v.0 b.0, ap behind (ap behind b.1))
