-- Classes stand whatever follows that begins so, and end at one place.
use Rattle.std.proofs.Common.{◌≡◌, ℕ, suc, false, List, [], ◌∷◌, refl, sym, ap, ◌∙◌, subst}
use Rattle.op_parse_code.proofs.Cuts.{IsCut, cut_none, cut_one, cut_join}
use Rattle.op_parse_code.proofs.Refusing.{Known}
use Rattle.op_parse_code.specs.Refusal.{Phrase, SameHead}
use Rattle.op_parse_code.specs.declared.mark.Mark.TheVariants as mark
use Rattle.op_parse_decl.specs.Deepening.{deeper_denoter}
use Rattle.op_parse_decl.specs.Classes.{SectionsBefore}
use Rattle.op_parse_decl.specs.Combined.{Both, both, Then, then_, Or, this, that, Choice, chosen, otherwise, Nothing, nothing, Fork, marked, unmarked}
use Rattle.op_parse_decl.specs.Declarations.{DefinitionBehind}
use Rattle.op_parse_decl.specs.HeadingParts.{known_heading}
use Rattle.op_parse_decl.specs.Known.{As, known_as, known_choice, known_fork, known_nothing, known_then, same_cut}
use Rattle.op_parse_decl.specs.KnownTypes.{known_bracketed_names, known_fields}
use Rattle.op_parse_decl.specs.Opening.{is_open}
use Rattle.op_parse_decl.specs.Properties.{known_property}
use Rattle.op_parse_decl.specs.Types.{SomeBracketedNames}
use Rattle.op_scan.specs.declared.token.TokenKind.{TokenKind}
use Rattle.op_scan.specs.declared.token.TokenKind.TheVariants as kind
use Rattle.op_tree.proofs.ClassUnique.{no_body, unique_class}
use Rattle.op_tree.proofs.DenoterUnique.{names_begin, structure_begins}
use Rattle.op_tree.proofs.ExpressionUnique.{chain_begins, false_true}
use Rattle.op_tree.proofs.MethodUnique.{method_begins}
use Rattle.op_tree.specs.Declaration.{Member, Section, TypeDefinition, class, forward_class}
use Rattle.op_tree.specs.DeclarationGrammar.{IsDefinition, denotes_type, is_class, is_forward_class, is_interface}
use Rattle.op_tree.specs.Denoter.{Denoter}
use Rattle.op_tree.specs.DenoterGrammar.{IsDenoter, is_named, is_subrange, is_unpacked}
use Rattle.op_tree.specs.Ends.{IsNot}
use Rattle.op_tree.specs.HeadingGrammar.{AreDirectives, are_no_directives, are_directives, is_method, IsMember, are_fields, is_class_method, is_class_property, AreMembers, are_no_members, are_members, AreSections, are_no_sections, are_sections, IsClassBody, begins_with_visibility, begins_with_members, has_body_alone, has_list_alone, has_list_and_body}
use Rattle.op_tree.specs.NameGrammar.{is_unqualified, is_qualified, are_bracketed_names}
use Rattle.op_tree.specs.Terminal.{Terminal, ◌at◌}
use Rattle.op_tree.specs.declared.heading.Directive.{Directive}
use Rattle.op_tree.specs.declared.position.Name.{Name}
use Rattle.op_tree.specs.declared.position.Position.{Position}

-- ---- what stands whatever follows that begins so

record Fronts (P : List Terminal → List Terminal → Type 0) (ks r : List Terminal) : Type 0 where
  front : List Terminal → List Terminal
  is_cut : IsCut front
  reaches : ks ≡ front r
  stands : (x : List Terminal) → SameHead r x → P (front x) x

front_known : {A : Type 0} {P : Phrase A} {d : ℕ} {a : A} {ks r : List Terminal} {W : List Terminal → List Terminal → Type 0} → Known P → P d a ks r → ((xs zs : List Terminal) → P d a xs zs → W xs zs) → Fronts W ks r
front_known {d = d} {a = a} {ks = ks} {r = r} known f join = let w = known.front d a ks r f in record { front = w.0; is_cut = w.1; reaches = w.2; stands = λ x h. join (w.0 x) x (w.3 x h) }

front_none : {P : List Terminal → List Terminal → Type 0} {ks : List Terminal} → ((x : List Terminal) → P x x) → Fronts P ks ks
front_none f = record { front = λ x. x; is_cut = cut_none; reaches = refl; stands = λ x h. f x }

front_token : {P W : List Terminal → List Terminal → Type 0} {ks r : List Terminal} (t : Terminal) → Fronts P ks r → ((xs zs : List Terminal) → P xs zs → W (t ∷ xs) zs) → Fronts W (t ∷ ks) r
front_token t s join = record { front = λ x. t ∷ s.front x; is_cut = cut_one t s.is_cut; reaches = ap (λ z. t ∷ z) s.reaches; stands = λ x h. join (s.front x) x (s.stands x h) }

front_before : {P W : List Terminal → List Terminal → Type 0} {ks r : List Terminal} (t : Terminal) → Fronts P ks (t ∷ r) → ((xs zs : List Terminal) → P xs (t ∷ zs) → W xs zs) → Fronts W ks r
front_before t s join = record { front = λ x. s.front (t ∷ x); is_cut = cut_join s.is_cut (cut_one t cut_none); reaches = s.reaches; stands = λ x h. join (s.front (t ∷ x)) x (s.stands (t ∷ x) refl) }

front_pair : {P Q W : List Terminal → List Terminal → Type 0} {ks m r : List Terminal} → Fronts P ks m → Fronts Q m r → ((xs ys zs : List Terminal) → P xs ys → Q ys zs → W xs zs) → Fronts W ks r
front_pair {r = r} s u join = record {
  front = λ x. s.front (u.front x);
  is_cut = cut_join s.is_cut u.is_cut;
  reaches = s.reaches ∙ ap s.front u.reaches;
  stands = λ x h. join (s.front (u.front x)) (u.front x) x (s.stands (u.front x) (subst (λ z. SameHead z (u.front x)) (sym u.reaches) (same_cut u.is_cut r x h))) (u.stands x h);
}

-- ---- members and sections

front_directives : {ws : List Directive} {ks r : List Terminal} → AreDirectives ws ks r → Fronts (AreDirectives ws) ks r
front_directives are_no_directives = front_none (λ x. are_no_directives)
front_directives (are_directives {word = word} {w = w} {ws = ws} {p = p} {q = q} e more) = front_token {P = λ xs zs. AreDirectives (w ∷ ws) (kind.Identifier word at p ∷ xs) zs} (kind.Identifier word at p) (front_token (kind.Semicolon at q) (front_directives more) (λ xs zs f. are_directives e f)) (λ xs zs f. f)

front_member : {d : ℕ} {a : Member} {ks r : List Terminal} → IsMember d a ks r → Fronts (IsMember d a) ks r
front_member {d = d} (are_fields {ns = ns} {t = t} {p = p} {q = q} {m = m} f g) = front_before (kind.Semicolon at q) (front_known {d = d} {a = (ns, t)} known_fields (p, m, f, (g, record { operator = refl; selector = refl; range = refl })) (λ xs zs x. x)) (λ xs zs x. are_fields x.2 x.3.0)
front_member {d = d} (is_class_method (is_method {h = h} {p = p} f ws)) = front_pair (front_known {d = d} {a = h} known_heading (p, f) (λ xs zs g. g)) (front_directives ws) (λ xs ys zs g vs. is_class_method (is_method g.1 vs))
front_member {d = d} (is_class_property {a = a} f) = front_known {d = d} {a = a} known_property f (λ xs zs g. is_class_property g)

front_members : {d : ℕ} {as_ : List Member} {ks r : List Terminal} → AreMembers d as_ ks r → Fronts (AreMembers d as_) ks r
front_members are_no_members = front_none (λ x. are_no_members)
front_members (are_members f more) = front_pair (front_member f) (front_members more) (λ xs ys zs g h. are_members g h)

front_sections : {d : ℕ} {ss : List Section} {ks r : List Terminal} → AreSections d ss ks r → Fronts (AreSections d ss) ks r
front_sections are_no_sections = front_none (λ x. are_no_sections)
front_sections {d = d} (are_sections {word = word} {as_ = as_} {ss = ss} {p = p} v f more) = front_token {P = λ xs zs. (m : List Terminal) × AreMembers d as_ xs m × AreSections d ss m zs} (kind.Identifier word at p) (front_pair (front_members f) (front_sections more) (λ xs ys zs g h. (ys, g, h))) (λ xs zs g. are_sections v g.1 g.2)

-- sections, up to the end and the semicolon
front_ends : {P W : List Terminal → List Terminal → Type 0} {ks r : List Terminal} (p q : Position) → Fronts P ks (kind.End at p ∷ kind.Semicolon at q ∷ r) → ((xs zs : List Terminal) → P xs (kind.End at p ∷ kind.Semicolon at q ∷ zs) → W xs zs) → Fronts W ks r
front_ends {P = P} p q s join = front_before (kind.Semicolon at q) (front_before {W = λ xs zs. P xs (kind.End at p ∷ zs)} (kind.End at p) s (λ xs zs f. f)) join

front_body : {d : ℕ} {ss : List Section} {q : Position} {ks r : List Terminal} → IsClassBody d ss ks (kind.Semicolon at q ∷ r) → Fronts (SectionsBefore d ss) ks r
front_body {q = q} (begins_with_visibility {p = p} ss) = front_ends p q (front_sections ss) (λ xs zs f. (q, begins_with_visibility f))
front_body {d = d} {q = q} (begins_with_members {a = a} {as_ = as_} {ss = ss} {p = p} f more) = front_ends {P = λ xs zs. (m : List Terminal) × AreMembers d (a ∷ as_) xs m × AreSections d ss m zs} p q (front_pair (front_members f) (front_sections more) (λ xs ys zs g h. (ys, g, h))) (λ xs zs g. (q, begins_with_members g.1 g.2))

-- ---- at any greater depth

deeper_member : {d : ℕ} {a : Member} {ks r : List Terminal} → IsMember d a ks r → IsMember (suc d) a ks r
deeper_member (are_fields ns t) = are_fields ns (deeper_denoter t)
deeper_member {d = d} {ks = ks} (is_class_method (is_method {h = h} {p = p} {m = m} f ws)) = is_class_method (is_method (known_heading.deepens d h ks m (p, f)).1 ws)
deeper_member {d = d} {ks = ks} {r = r} (is_class_property {a = a} f) = is_class_property (known_property.deepens d a ks r f)

deeper_members : {d : ℕ} {as_ : List Member} {ks r : List Terminal} → AreMembers d as_ ks r → AreMembers (suc d) as_ ks r
deeper_members are_no_members = are_no_members
deeper_members (are_members f more) = are_members (deeper_member f) (deeper_members more)

deeper_sections : {d : ℕ} {ss : List Section} {ks r : List Terminal} → AreSections d ss ks r → AreSections (suc d) ss ks r
deeper_sections are_no_sections = are_no_sections
deeper_sections (are_sections v f more) = are_sections v (deeper_members f) (deeper_sections more)

deeper_body : {d : ℕ} {ss : List Section} {ks r : List Terminal} → IsClassBody d ss ks r → IsClassBody (suc d) ss ks r
deeper_body (begins_with_visibility ss) = begins_with_visibility (deeper_sections ss)
deeper_body (begins_with_members f more) = begins_with_members (deeper_members f) (deeper_sections more)

-- a place for the word `class`, where any does
here : Position
here = record { place = record { file = 0; line = 0; col = 0 }; switches = record { h = false; q = false; r = false } }

pub known_sections : Known SectionsBefore
known_sections = record {
  front = λ d ss ks m b. let s = front_body b.1 in (s.front, s.is_cut, s.reaches, s.stands);
  same = λ d d' ss ss' ks m m' b b'. (unique_class (has_body_alone {p = here} b.1) (has_body_alone {p = here} b'.1)).1;
  deepens = λ d ss ks m b. (b.0, deeper_body b.1);
}

-- ---- what stands behind the word `class`

-- names in brackets if there are any, and a semicolon or sections
abbrev pub ClassParts : Phrase (Both (Or (List Name) (Unit {0})) (Or (Unit {0}) (List Section)))
ClassParts = Then (Choice is_open SomeBracketedNames Nothing) (Fork mark.Semicolon Nothing SectionsBefore)

pub forward_of_parts : {d : ℕ} {ks r : List Terminal} → ClassParts d (both (that tt) (this tt)) ks r → DefinitionBehind kind.Class d forward_class ks r
forward_of_parts (then_ (otherwise h nothing) (marked {p = q} nothing)) = λ p. (q, is_forward_class)

pub body_of_parts : {d : ℕ} {ss : List Section} {ks r : List Terminal} → ClassParts d (both (that tt) (that ss)) ks r → DefinitionBehind kind.Class d (class (record { ancestors = []; sections = ss })) ks r
body_of_parts (then_ (otherwise h nothing) (unmarked none b)) = λ p. (b.0, is_class (has_body_alone b.1))

pub list_of_parts : {d : ℕ} {ns : List Name} {ks r : List Terminal} → ClassParts d (both (this ns) (this tt)) ks r → DefinitionBehind kind.Class d (class (record { ancestors = ns; sections = [] })) ks r
list_of_parts (then_ (chosen h ns) (marked {p = q} nothing)) = λ p. (q, is_class (has_list_alone ns))

pub class_of_parts : {d : ℕ} {ns : List Name} {ss : List Section} {ks r : List Terminal} → ClassParts d (both (this ns) (that ss)) ks r → DefinitionBehind kind.Class d (class (record { ancestors = ns; sections = ss })) ks r
class_of_parts (then_ (chosen h ns) (unmarked none b)) = λ p. (b.0, is_class (has_list_and_body ns b.1))

class_no_type : {A : Type 0} {d : ℕ} {t : Denoter} {p : Position} {ks r : List Terminal} → IsDenoter d t (kind.Class at p ∷ ks) r → A
class_no_type (is_named (is_unqualified n)) = elim n [ ]
class_no_type (is_named (is_qualified n m)) = elim n [ ]
class_no_type (is_subrange a b) = false_true (chain_begins a)
class_no_type (is_unpacked s) = false_true (structure_begins s)

no_list : {d : ℕ} {ss : List Section} {ks r : List Terminal} → IsClassBody d ss ks r → IsNot is_open ks
no_list {ks = []} b = tt
no_list {ks = t ∷ ks} b = at_kind t.kind t.position b
  where
    no_member : {A : Type 0} {d : ℕ} {a : Member} {p : Position} {ks r : List Terminal} → IsMember d a (kind.OpenParenthesis at p ∷ ks) r → A
    no_member (are_fields ns t) = false_true (names_begin ns)
    no_member (is_class_method a) = false_true (method_begins a)
    no_member (is_class_property a) = elim a [ ]

    at_kind : {d : ℕ} {ss : List Section} {ks r : List Terminal} (k : TokenKind) (p : Position) → IsClassBody d ss (k at p ∷ ks) r → is_open k ≡ false
    at_kind kind.OpenParenthesis p (begins_with_visibility ss) = elim ss [ ]
    at_kind kind.OpenParenthesis p (begins_with_members (are_members a more) ss) = no_member a
    at_kind other p b = refl

class_in : {d : ℕ} {t : TypeDefinition} {p q : Position} {ks r : List Terminal} → IsDefinition d t (kind.Class at p ∷ ks) (kind.Semicolon at q ∷ r) → (a : _) × ClassParts d a ks r × ((i : ℕ) (ls s : List Terminal) → ClassParts i a ls s → DefinitionBehind kind.Class i t ls s)
class_in (denotes_type f) = class_no_type f
class_in (is_interface i) = elim i [ ]
class_in is_forward_class = (both (that tt) (this tt), then_ (otherwise refl nothing) (marked nothing), λ i ls s x. forward_of_parts x)
class_in {q = q} (is_class (has_body_alone {ss = ss} b)) = (both (that tt) (that ss), then_ (otherwise (no_list b) nothing) (unmarked (λ p s h. no_body b (sym h)) (q, b)), λ i ls s x. body_of_parts x)
class_in (is_class (has_list_alone (are_bracketed_names {ns = ns} f))) = (both (this ns) (this tt), then_ (chosen refl (are_bracketed_names f)) (marked nothing), λ i ls s x. list_of_parts x)
class_in {q = q} (is_class (has_list_and_body {ss = ss} (are_bracketed_names {ns = ns} f) b)) = (both (this ns) (that ss), then_ (chosen refl (are_bracketed_names f)) (unmarked (λ p s h. no_body b (sym h)) (q, b)), λ i ls s x. class_of_parts x)

pub made_class : As ClassParts (DefinitionBehind kind.Class)
made_class d t ks r f = class_in (f here).1

pub known_class : Known (DefinitionBehind kind.Class)
known_class = known_as made_class (known_then (known_choice known_bracketed_names known_nothing) (known_fork known_nothing known_sections))
