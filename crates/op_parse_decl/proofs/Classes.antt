-- Refusals of classes.
use Rattle.std.proofs.Common.{◌≡◌, ℕ, Bool, true, false, List, [], ◌∷◌, ◌++◌, codes, Some, None, map, refl, sym, ap, ◌∙◌, subst}
use Rattle.std.proofs.lemmas.List.{append-nil}
use Rattle.op_base.specs.declared.place.Place.{Place}
use Rattle.op_parse_code.proofs.Calls.{front_not}
use Rattle.op_parse_code.proofs.Cuts.{same_behind, same_not}
use Rattle.op_parse_code.proofs.Names.{identifier_kind, named_at, word_kind}
use Rattle.op_parse_code.proofs.Refusing.{Known, Some_, Seq, no_mark_refuses, no_mark_same, head_same}
use Rattle.op_parse_code.specs.Opening.{is_identifier, is_word, spelled}
use Rattle.op_parse_code.specs.Refusal.{Phrase, SameHead, Dead, Refuses, out_of_memory, syntax, nested, in_grammar, refused_at, Alive, Shown, place_at}
use Rattle.op_parse_code.specs.Whole.{Marked, NoMark}
use Rattle.op_parse_code.specs.WholeStatement.{front_is}
use Rattle.op_parse_code.specs.declared.error.ParseError.{ParseError}
use Rattle.op_parse_code.specs.declared.mark.Mark.TheVariants as mark
use Rattle.op_parse_decl.proofs.Begins.{PropertyBegun, marked_behind, property_opens}
use Rattle.op_parse_decl.proofs.Combining.{first, mark_refused, same_sym}
use Rattle.op_parse_decl.proofs.Denoters.{fits_denoter}
use Rattle.op_parse_decl.proofs.Opens.{opens as opens_fitting, opens_after, opens_behind, opens_map, opens_second, opens_with}
use Rattle.op_parse_decl.proofs.Refusals.{flat_mark, form_told, refuses_map, refuses_first, refuses_after, refuses_behind, refuses_part}
use Rattle.op_parse_decl.specs.Begun.{Anything, Opens, ThenBegun, in_first, in_second}
use Rattle.op_parse_decl.specs.Classes.{Adds, SectionsBefore, ClassRest, rest_ends, rest_directive, rest_method, rest_fields, rest_property, rest_visibility, RefusesRest, begins_resolution, IsFormBehindProperty, Resolves, goes_on_as_field, IsVisibility, is_visibility, NoVisibility, Entry, declares, opens, SomeEntry, members_behind, sections_behind, sections_before, body_with}
use Rattle.op_parse_decl.specs.Combined.{Both, both, Stands, stands, Then, then_}
use Rattle.op_parse_decl.specs.Form.{Form, HasForm, is_default_property, is_resolution, is_strict}
use Rattle.op_parse_decl.specs.HeadingParts.{known_heading}
use Rattle.op_parse_decl.specs.Headings.{SomeHeading, SomeMethod}
use Rattle.op_parse_decl.specs.Known.{known_stands, known_then, no_mark_by}
use Rattle.op_parse_decl.specs.KnownTypes.{known_denoter, known_names}
use Rattle.op_parse_decl.specs.Properties.{known_property}
use Rattle.op_parse_decl.specs.Refusal.{RefusesHere, Never, RefusesParts, by_grammar}
use Rattle.op_parse_decl.specs.Types.{SomeDenoter, SomeNames}
use Rattle.op_parse_decl.specs.declared.class.Body.{Body}
use Rattle.op_scan.specs.declared.token.TokenKind.{TokenKind}
use Rattle.op_scan.specs.declared.token.TokenKind.TheVariants as kind
use Rattle.op_tree.proofs.ClassUnique.{names_no_directive}
use Rattle.op_tree.proofs.ExpressionUnique.{Begins, behind, false_true, is_comma, true_false}
use Rattle.op_tree.proofs.MethodUnique.{apart, begins_heading, heading_begins, heading_no_identifier, no_directive}
use Rattle.op_tree.proofs.StatementUnique.{differ}
use Rattle.op_tree.specs.Declaration.{Member, method, fields, property, Method, Property, Section, member_of, section_of}
use Rattle.op_tree.specs.Denoter.{Denoter}
use Rattle.op_tree.specs.DenoterGrammar.{IsDenoter}
use Rattle.op_tree.specs.Ends.{IsNot, NoDirective}
use Rattle.op_tree.specs.HeadingGrammar.{beside, directive_of, routine_kind_of, visibilities, visibility_of, AreDirectives, are_no_directives, are_directives, is_method, IsMember, are_fields, is_class_method, is_class_property, IsProperty, is_property, AreMembers, are_no_members, are_members, AreSections, are_no_sections, are_sections, begins_with_visibility, begins_with_members}
use Rattle.op_tree.specs.NameGrammar.{AreNames, IsName, are_one_name, are_names, is_name}
use Rattle.op_tree.specs.Terminal.{Terminal, ◌at◌, name, IsWord}
use Rattle.op_tree.specs.declared.class.Visibility.{Visibility}
use Rattle.op_tree.specs.declared.heading.Directive.{Directive}
use Rattle.op_tree.specs.declared.heading.RoutineKind.{RoutineKind}
use Rattle.op_tree.specs.declared.heading.RoutineKind.TheVariants as routine
use Rattle.op_tree.specs.declared.position.Name.{Name}
use Rattle.op_tree.specs.declared.position.Position.{Position}

-- ---- the grammar's sections are such a rest

directives_rest : {d : ℕ} {ws : List Directive} {ks m r : List Terminal} → AreDirectives ws ks m → ClassRest true d tt m r → ClassRest true d tt ks r
directives_rest are_no_directives f = f
directives_rest (are_directives e more) f = rest_directive e (directives_rest more f)

member_rest : {d : ℕ} {a : Member} {ks m r : List Terminal} → IsMember d a ks m → ((b : Bool) → ClassRest b d tt m r) → (b : Bool) → ClassRest b d tt ks r
member_rest (are_fields (are_one_name is_name) t) f b = rest_fields (are_one_name is_name) t (f false)
member_rest (are_fields (are_names is_name ns) t) f b = rest_fields (are_names is_name ns) t (f false)
member_rest (is_class_method (is_method {p = p} h ws)) f b = rest_method (p, h) (directives_rest ws (f true))
member_rest (is_class_property (is_property n t v w)) f b = rest_property (is_property n t v w) (f false)

members_rest : {d : ℕ} {as_ : List Member} {ks m r : List Terminal} → AreMembers d as_ ks m → ((b : Bool) → ClassRest b d tt m r) → (b : Bool) → ClassRest b d tt ks r
members_rest are_no_members f = f
members_rest (are_members a more) f = member_rest a (members_rest more f)

sections_rest : {d : ℕ} {ss : List Section} {p q : Position} {ks r : List Terminal} → AreSections d ss ks (kind.End at p ∷ kind.Semicolon at q ∷ r) → (b : Bool) → ClassRest b d tt ks r
sections_rest are_no_sections b = rest_ends
sections_rest (are_sections v as_ ss) b = rest_visibility v (members_rest as_ (sections_rest ss) false)

body_rest : {d : ℕ} {ss : List Section} {ks r : List Terminal} → SectionsBefore d ss ks r → ClassRest false d tt ks r
body_rest (q, begins_with_visibility ss) = sections_rest ss false
body_rest (q, begins_with_members as_ ss) = members_rest as_ (sections_rest ss) false

-- ---- how it begins

-- no comma and no colon begins it
no_field : {b : Bool} {d : ℕ} {u : Unit {0}} {ks r : List Terminal} → ClassRest b d u ks r → IsNot goes_on_as_field ks
no_field {ks = []} f = tt
no_field {ks = t ∷ ks} f = at_kind t.kind t.position f
  where
    at_kind : {b : Bool} {d : ℕ} {u : Unit {0}} {ks r : List Terminal} (k : TokenKind) (p : Position) → ClassRest b d u (k at p ∷ ks) r → goes_on_as_field k ≡ false
    at_kind kind.Comma p (rest_method h more) = false_true (heading_begins h.1)
    at_kind kind.Colon p (rest_method h more) = false_true (heading_begins h.1)
    at_kind other p f = refl

no_semicolon : {A : Type 0} {b : Bool} {d : ℕ} {u : Unit {0}} {p : Position} {ks r : List Terminal} → ClassRest b d u (kind.Semicolon at p ∷ ks) r → A
no_semicolon (rest_method h more) = false_true (heading_begins h.1)

heading_at : {b : Bool} {d : ℕ} {u : Unit {0}} {ks r : List Terminal} → ClassRest b d u ks r → NoMark mark.End ks → NoMark mark.Property ks → IsNot is_identifier ks → Some_ (Seq SomeHeading (ClassRest true)) d ks
heading_at (rest_ends {p = p}) e f i = absurd (e p _ refl)
heading_at (rest_directive x more) e f i = true_false i
heading_at {r = r} (rest_method {h = h} {m = m} g more) e f i = ((h, tt), r, (m, g, more))
heading_at (rest_fields ns t more) e f i = true_false i
heading_at (rest_property {p = p} x more) e f i = absurd (f p _ refl)
heading_at (rest_visibility x more) e f i = true_false i

word_no_directive : {b : Bool} {d : ℕ} {u : Unit {0}} {text : List ℕ} {p : Position} {ks r : List Terminal} → ClassRest b d u ks r → NoDirective (kind.Identifier text at p ∷ ks)
word_no_directive more w ws z (are_directives e f) = no_semicolon more

-- all directives at the front
directives_first : {d : ℕ} {u : Unit {0}} {ks r : List Terminal} → ClassRest true d u ks r → (ws : List Directive) × (m : List Terminal) × AreDirectives ws ks m × NoDirective m
directives_first {ks = ks} rest_ends = ([], ks, are_no_directives, no_directive ks refl)
directives_first (rest_directive {w = w} e more) = let s = directives_first more in (w ∷ s.0, s.1, are_directives e s.2, s.3)
directives_first {ks = ks} (rest_method h more) = ([], ks, are_no_directives, no_directive ks (apart heading_no_identifier ks (heading_begins h.1)))
directives_first {ks = ks} (rest_fields ns t more) = ([], ks, are_no_directives, names_no_directive ns)
directives_first {ks = ks} (rest_property f more) = ([], ks, are_no_directives, no_directive ks refl)
directives_first {ks = ks} (rest_visibility e more) = ([], ks, are_no_directives, word_no_directive more)

-- ---- the end

end_off : {b : Bool} {d : ℕ} {u : Unit {0}} {p : Position} {ks r : List Terminal} → ClassRest b d u (kind.End at p ∷ ks) r → Some_ (Marked mark.Semicolon) d ks
end_off {r = r} (rest_ends {q = q}) = (q, r, refl)
end_off (rest_method h more) = false_true (heading_begins h.1)

pub end_refused : (d : ℕ) (end : Place) (p : Position) (ks m : List Terminal) (x : ParseError) → ks ≡ kind.End at p ∷ m → Refuses (Marked mark.Semicolon) d end m x → RefusesRest d end ks x
end_refused d end p ks m x is h b free = subst (λ z. RefusesParts (Opens Anything (ClassRest b)) (ClassRest b) d end z x) (sym is) (refuses_behind {W = Never} (Marked mark.Semicolon) (ClassRest b) d end (kind.End at p) m x (λ d' u ls r f. end_off f) (λ q y. absurd y) (refuses_part (flat_mark mark.Semicolon h)))

-- `end` and a semicolon
abbrev the_end : Position → List Terminal
the_end p = kind.End at p ∷ kind.Semicolon at p ∷ []

method_ends : {b : Bool} {d : ℕ} {a : Method} {p : Position} {ks r : List Terminal} → SomeMethod d a ks (kind.End at p ∷ kind.Semicolon at p ∷ r) → ClassRest b d tt ks r
method_ends (is_method {p = u} h ws, none) = rest_method (u, h) (directives_rest ws rest_ends)

property_ends : {b : Bool} {d : ℕ} {a : Property} {ks m r : List Terminal} → IsProperty d a ks m → ClassRest false d tt m r → ClassRest b d tt ks r
property_ends (is_property n t v w) f = rest_property (is_property n t v w) f

-- ---- a method

pub method_refused : (d : ℕ) (end : Place) (ks : List Terminal) (x : ParseError) → NoMark mark.End ks → NoMark mark.Property ks → IsNot is_identifier ks → RefusesParts (Opens NoDirective SomeMethod) SomeMethod d end ks x → RefusesRest d end ks x
method_refused d end ks x e f i h b free = refuses_map SomeMethod (ClassRest b) d end ks x (λ d' u ls r s g. at_heading d' ls (heading_at g (no_mark_same mark.End ks ls s e) (no_mark_same mark.Property ks ls s f) (same_not is_identifier ks ls s i))) (λ q y. opens_with the_end (λ p z c. no_directive (kind.End at p ∷ kind.Semicolon at p ∷ z) refl) (λ i a p ls z s c g. (tt, method_ends g)) y) h
  where
    at_heading : (d' : ℕ) (ls : List Terminal) → Some_ (Seq SomeHeading (ClassRest true)) d' ls → Some_ SomeMethod d' ls
    at_heading d' ls (a, r, (m, g, more)) = let s = directives_first more in (record { heading = a.0; directives = s.0 }, s.1, (is_method g.1 s.2, s.3))

directive_off : {d : ℕ} {u : Unit {0}} {word : List ℕ} {p q : Position} {ks r : List Terminal} → ClassRest true d u (kind.Identifier word at p ∷ kind.Semicolon at q ∷ ks) r → Some_ (ClassRest true) d ks
directive_off {r = r} (rest_directive e more) = (tt, r, more)
directive_off (rest_method h more) = false_true (heading_begins h.1)
directive_off (rest_fields (are_one_name n) t more) = elim n [ ]
directive_off (rest_fields (are_names n ns) t more) = elim n [ ]
directive_off (rest_visibility e more) = no_semicolon more

-- what is left behind a word
abbrev Behind : Bool → List ℕ → Position → Phrase (Unit {0})
Behind b word p d u ks r = ClassRest b d u (kind.Identifier word at p ∷ ks) r

word_dies : (b : Bool) (word : List ℕ) (p : Position) (d : ℕ) (end : Place) (ks : List Terminal) (x : ParseError) → RefusesParts (Opens Anything (Behind b word p)) (Behind b word p) d end ks x → RefusesParts (Opens Anything (ClassRest b)) (ClassRest b) d end (kind.Identifier word at p ∷ ks) x
word_dies b word p d end ks x h = refuses_behind (Behind b word p) (ClassRest b) d end (kind.Identifier word at p) ks x (λ d' u ls r f. (u, r, f)) (λ q y. opens_behind (λ i u ls r f. (u, f)) y) h

directives_die : (d : ℕ) (end : Place) (ws : List Directive) (ks m : List Terminal) (x : ParseError) → AreDirectives ws ks m → RefusesParts (Opens Anything (ClassRest true)) (ClassRest true) d end m x → RefusesParts (Opens Anything (ClassRest true)) (ClassRest true) d end ks x
directives_die d end ws ks m x are_no_directives h = h
directives_die d end ws ks m x (are_directives {word = word} {ws = ws1} {p = p} {q = q} {ks = ls} e more) h = word_dies true word p d end (kind.Semicolon at q ∷ ls) x (refuses_behind (ClassRest true) (Behind true word p) d end (kind.Semicolon at q) ls x (λ d' u ls r f. directive_off f) (λ u y. opens_behind (λ i v ls r f. (tt, rest_directive e f)) y) (directives_die d end ws1 ls m x more h))

method_dies : (d : ℕ) (end : Place) (a : Method) (ks m : List Terminal) (x : ParseError) → SomeMethod d a ks m → RefusesRest d end m x → RefusesRest d end ks x
method_dies d end a ks m x (is_method {h = g} {ws = ws} {p = p} {m = n} f vs, none) h b free =
    let begins = heading_begins f in
    refuses_map {W = Opens Anything (Seq SomeHeading (ClassRest true))} (Seq SomeHeading (ClassRest true)) (ClassRest b) d end ks x
    (λ d' u ls r s k. heading_at k (no_mark_same mark.End ks ls s (λ q z e. differ begins_heading e begins refl)) (no_mark_same mark.Property ks ls s (λ q z e. differ begins_heading e begins refl)) (same_not is_identifier ks ls s (apart heading_no_identifier ks begins)))
    (λ q y. opens_map (λ i a ls r s k. (tt, rest_method k.1 k.2)) y)
    (refuses_after SomeHeading (ClassRest true) d end g ks n x known_heading (p, f) (λ q y. opens_after known_heading (p, f) y) (directives_die d end ws n m x vs (h true (λ e. none))))

-- ---- a property

property_off : {b : Bool} {d : ℕ} {u : Unit {0}} {p : Position} {ks r : List Terminal} → ClassRest b d u (kind.Property at p ∷ ks) r → Some_ (Seq IsProperty (ClassRest false)) d (kind.Property at p ∷ ks)
property_off (rest_method h more) = false_true (heading_begins h.1)
property_off {r = r} (rest_property {a = a} {m = m} f more) = ((a, tt), r, (m, f, more))

property_rest : (d : ℕ) (end : Place) (p : Position) (ks m : List Terminal) (x : ParseError) → ks ≡ kind.Property at p ∷ m → RefusesParts (Opens Anything (Seq IsProperty (ClassRest false))) (Seq IsProperty (ClassRest false)) d end ks x → RefusesRest d end ks x
property_rest d end p ks m x is h b free = refuses_map (Seq IsProperty (ClassRest false)) (ClassRest b) d end ks x (λ d' u ls r s f. at_word d' u ls r (subst (λ z. SameHead z ls) is s) f) (λ q y. opens_map (λ i a ls r s k. (tt, property_ends k.1 k.2)) y) h
  where
    at_word : (d' : ℕ) (u : Unit {0}) (ls r : List Terminal) → SameHead (kind.Property at p ∷ m) ls → ClassRest b d' u ls r → Some_ (Seq IsProperty (ClassRest false)) d' ls
    at_word d' u [] r s f = absurd s
    at_word d' u (t ∷ ls) r s f = subst (λ (z : Terminal). Some_ (Seq IsProperty (ClassRest false)) d' (z ∷ ls)) s (property_off (subst (λ (z : Terminal). ClassRest b d' u (z ∷ ls) r) (sym s) f))

pub property_refused : (d : ℕ) (end : Place) (p : Position) (ks m : List Terminal) (x : ParseError) → ks ≡ kind.Property at p ∷ m → RefusesParts PropertyBegun IsProperty d end ks x → RefusesRest d end ks x
property_refused d end p ks m x is h = property_rest d end p ks m x is (refuses_first IsProperty (ClassRest false) d end ks x (λ q y. opens_with the_end (λ p z c. tt) (λ i a p ls z s c f. ((a, tt), (kind.End at p ∷ kind.Semicolon at p ∷ z, f, rest_ends))) (property_opens d ks q y)) h)

property_starts : {d : ℕ} {a : Property} {ks r : List Terminal} → IsProperty d a ks r → (p : Position) × (m : List Terminal) × (ks ≡ kind.Property at p ∷ m)
property_starts (is_property {p = p} {ks = m} n t v w) = (p, m, refl)

property_dies : (d : ℕ) (end : Place) (a : Property) (ks m : List Terminal) (x : ParseError) → IsProperty d a ks m → RefusesRest d end m x → RefusesRest d end ks x
property_dies d end a ks m x f h = let s = property_starts f in property_rest d end s.0 ks s.1 x s.2 (refuses_after IsProperty (ClassRest false) d end a ks m x known_property f (λ q y. opens_after known_property f y) (h false (λ e. false_true e)))

-- ---- the word of a visibility

-- where a directive could stand, one stands
directive_there : {A : Type 0} {word : List ℕ} {w : Directive} {p : Position} (q : Position) (ls m : List Terminal) → SameHead m (kind.Semicolon at q ∷ ls) → NoDirective (kind.Identifier word at p ∷ m) → directive_of word ≡ Some w → A
directive_there q ls [] s none e = absurd s
directive_there {word = word} {w = w} {p = p} q ls (t ∷ m) s none e = absurd (none w [] m (subst (λ (z : Terminal). AreDirectives (w ∷ []) (kind.Identifier word at p ∷ z ∷ m) m) (sym s) (are_directives e are_no_directives)))

visibility_off : {b : Bool} {d : ℕ} {u : Unit {0}} {word : List ℕ} {p : Position} {ls r : List Terminal} (m : List Terminal) → SameHead m ls → (b ≡ true → NoDirective (kind.Identifier word at p ∷ m)) → IsNot goes_on_as_field ls → ClassRest b d u (kind.Identifier word at p ∷ ls) r → Some_ (ClassRest false) d ls
visibility_off m s free n (rest_directive {q = q} {ks = ks} e more) = directive_there q ks m s (free refl) e
visibility_off m s free n (rest_method h more) = false_true (heading_begins h.1)
visibility_off m s free n (rest_fields (are_one_name is_name) t more) = true_false n
visibility_off m s free n (rest_fields (are_names is_name ns) t more) = true_false n
visibility_off {r = r} m s free n (rest_visibility e more) = (tt, r, more)

visibility_dies : (d : ℕ) (end : Place) (v : Visibility) (ks m : List Terminal) (x : ParseError) → IsVisibility v ks m → RefusesRest d end m x → RefusesRest d end ks x
visibility_dies d end v ks m x (is_visibility {word = word} {p = p} e n) h b free = word_dies b word p d end m x (refuses_map (ClassRest false) (Behind b word p) d end m x (λ d' u ls r s f. visibility_off m s free (same_not goes_on_as_field m ls s n) f) (λ q y. opens_map (λ i u ls r s f. (tt, rest_visibility e f)) y) (h false (λ e. false_true e)))

-- ---- fields

abbrev FieldsEnd : Phrase (Both (Unit {0}) (Both Denoter (Unit {0})))
FieldsEnd = Then (Stands mark.Colon) (Then SomeDenoter (Stands mark.Semicolon))

known_end : Known FieldsEnd
known_end = known_then (known_stands mark.Colon) (known_then known_denoter (known_stands mark.Semicolon))

abbrev pub FieldsBegun : Shown
FieldsBegun = ThenBegun Never (Stands mark.Colon) (ThenBegun (Alive SomeDenoter) SomeDenoter Never)

fields_open : (d : ℕ) (ks q : List Terminal) → FieldsBegun d ks q → Opens Anything FieldsEnd d ks q
fields_open d ks q (in_first x) = absurd x
fields_open d ks q (in_second c (in_first x)) = opens_second (known_stands mark.Colon) c (marked_behind mark.Semicolon (λ p z. record { operator = refl; selector = refl; range = refl }) (opens_fitting fits_denoter x))
fields_open d ks q (in_second c (in_second t x)) = absurd x

abbrev FieldsRest : Phrase (Both (Unit {0}) (Both Denoter (Unit {0})) × Unit {0})
FieldsRest = Seq FieldsEnd (ClassRest false)

fields_stand : {d : ℕ} {ns : List Name} {t : Denoter} {q u : Position} {ks m n r : List Terminal} → AreNames ns ks (kind.Colon at q ∷ m) → IsDenoter d t m (kind.Semicolon at u ∷ n) → ClassRest false d tt n r → Some_ (Seq SomeNames FieldsRest) d ks
fields_stand {ns = ns} {t = t} {q = q} {m = m} {n = n} {r = r} f g more = ((ns, (both tt (both t tt), tt)), r, (kind.Colon at q ∷ m, (f, no_mark_by mark.Comma is_comma refl refl), (n, then_ stands (then_ (g, record { operator = refl; selector = refl; range = refl }) stands), more)))

field_off : {b : Bool} {d : ℕ} {u : Unit {0}} {word : List ℕ} {p : Position} {ls r : List Terminal} (m : List Terminal) → SameHead m ls → (b ≡ true → NoDirective (kind.Identifier word at p ∷ m)) → NoVisibility (kind.Identifier word at p ∷ m) → ClassRest b d u (kind.Identifier word at p ∷ ls) r → Some_ (Seq SomeNames FieldsRest) d (kind.Identifier word at p ∷ ls)
field_off m s free none (rest_directive {q = q} {ks = ks} e more) = directive_there q ks m s (free refl) e
field_off m s free none (rest_method h more) = false_true (heading_begins h.1)
field_off m s free none (rest_fields f g more) = fields_stand f g more
field_off {ls = ls} m s free none (rest_visibility {v = v} e more) = absurd (none v m (is_visibility e (same_not goes_on_as_field ls m (same_sym m ls s) (no_field more))))

names_end : {ns : List Name} {word : List ℕ} {p : Position} {ls m : List Terminal} → NoMark mark.Comma ls → AreNames ns (kind.Identifier word at p ∷ ls) m → ls ≡ m
names_end none (are_one_name is_name) = refl
names_end none (are_names {p = q} is_name ns) = absurd (none q _ refl)

one_off : {d : ℕ} {word : List ℕ} {p : Position} (ls : List Terminal) → NoMark mark.Comma ls → Some_ (Seq SomeNames FieldsRest) d (kind.Identifier word at p ∷ ls) → Some_ FieldsRest d ls
one_off {d = d} ls none (a, r, (m, f, g)) = (a.1, r, subst (λ z. FieldsRest d a.1 z r) (sym (names_end none f.0)) g)

comma_off : {b : Bool} {d : ℕ} {u : Unit {0}} {word : List ℕ} {p q : Position} {ls r : List Terminal} → ClassRest b d u (kind.Identifier word at p ∷ kind.Comma at q ∷ ls) r → Some_ (Seq SomeNames FieldsRest) d ls
comma_off (rest_method h more) = false_true (heading_begins h.1)
comma_off (rest_fields (are_one_name n) g more) = elim n [ ]
comma_off (rest_fields (are_names is_name f) g more) = fields_stand f g more
comma_off (rest_visibility e more) = true_false (no_field more)

-- behind one name, or a comma
behind_name : {b : Bool} {d : ℕ} {word : List ℕ} {p : Position} (y : Both (Unit {0}) (Both Denoter (Unit {0})) × Unit {0}) {ls r : List Terminal} → FieldsRest d y ls r → ClassRest b d tt (kind.Identifier word at p ∷ ls) r
behind_name (both u (both t v), w) (m, then_ stands (then_ g stands), more) = rest_fields (are_one_name is_name) g.0 more

behind_comma : {b : Bool} {d : ℕ} {word : List ℕ} {p q : Position} (y : List Name × (Both (Unit {0}) (Both Denoter (Unit {0})) × Unit {0})) {ls r : List Terminal} → Seq SomeNames FieldsRest d y ls r → ClassRest b d tt (kind.Identifier word at p ∷ kind.Comma at q ∷ ls) r
behind_comma (ns, (both u (both t v), w)) (m, f, (n, then_ stands (then_ g stands), more)) = rest_fields (are_names is_name f.0) g.0 more

-- what stands behind the names is refused
fields_rest : (d : ℕ) (end : Place) (ns : List Name) (ks m : List Terminal) (x : ParseError) → SomeNames d ns ks m → NoVisibility ks → RefusesParts (Opens Anything FieldsRest) FieldsRest d end m x → RefusesRest d end ks x
fields_rest d end ns ks m x (are_one_name (is_name {text = word} {p = p}), comma) none h b free = word_dies b word p d end m x (refuses_map FieldsRest (Behind b word p) d end m x (λ d' u ls r s f. one_off ls (no_mark_same mark.Comma m ls s comma) (field_off m s free none f)) (λ q y. opens_map (λ i y ls r s f. (tt, behind_name y f)) y) h)
fields_rest d end ns ks m x (are_names {ns = ns1} {p = q} {m = n} (is_name {text = word} {p = p}) more, comma) none h b free = word_dies b word p d end (kind.Comma at q ∷ n) x (refuses_behind {W = Opens Anything (Seq SomeNames FieldsRest)} (Seq SomeNames FieldsRest) (Behind b word p) d end (kind.Comma at q) n x (λ d' u ls r f. comma_off f) (λ u y. opens_behind (λ i y ls r f. (tt, behind_comma y f)) y) (refuses_after SomeNames FieldsRest d end ns1 n m x known_names (more, comma) (λ u y. opens_after known_names (more, comma) y) h))

pub fields_end : (d : ℕ) (end : Place) (ns : List Name) (ks m : List Terminal) (x : ParseError) → SomeNames d ns ks m → NoVisibility ks → RefusesParts FieldsBegun FieldsEnd d end m x → RefusesRest d end ks x
fields_end d end ns ks m x f none h = fields_rest d end ns ks m x f none (refuses_first FieldsEnd (ClassRest false) d end m x (λ q y. opens_with the_end (λ p z c. tt) (λ i a p ls z s c g. ((a, tt), (kind.End at p ∷ kind.Semicolon at p ∷ z, g, rest_ends))) (fields_open d m q y)) h)

names_no_visibility : {ns : List Name} {p : Position} {ks r : List Terminal} → AreNames ns ks (kind.Colon at p ∷ r) → NoVisibility ks
names_no_visibility (are_one_name is_name) v z (is_visibility e n) = true_false n
names_no_visibility (are_names is_name ns) v z (is_visibility e n) = true_false n

-- a part of P begins with the token, and from the second one on Q is P
dead_second : {A B : Type 0} (P : A → List Terminal → List Terminal → Type 0) (Q : B → List Terminal → List Terminal → Type 0) (t : Terminal) (ks q : List Terminal) → (a : A) (z : List Terminal) → P a (t ∷ []) z → ((c : B) (ls r : List Terminal) → SameHead ks ls → Q c (t ∷ ls) r → (a : A) × (r' : List Terminal) × P a (t ∷ ls) r') → Dead P (t ∷ ks) q → Dead Q (t ∷ ks) q
dead_second P Q t ks q a z f h ([], e, never) = absurd (never (t ∷ []) a z (subst (λ y. SameHead y (t ∷ [])) e refl) f)
dead_second P Q t ks q a z f h (v ∷ seen, e, never) = (
  v ∷ seen,
  e,
  λ ls c r s g.
      let same : t ≡ v = head_same e in
      let w = h c (seen ++ ls) r (subst (λ y. SameHead y (seen ++ ls)) (sym (ap behind e)) (same_behind seen q ls s)) (subst (λ y. Q c (y ∷ (seen ++ ls)) r) (sym same) g) in
      never ls w.0 w.1 s (subst (λ y. P w.0 (y ∷ (seen ++ ls)) w.1) same w.2),
)

refuses_second : {A B : Type 0} {V : Shown} (P : Phrase A) (Q : Phrase B) (d : ℕ) (end : Place) (t : Terminal) (ks : List Terminal) (x : ParseError) → (a : A) (z : List Terminal) → ((d' : ℕ) → P d' a (t ∷ []) z) → ((d' : ℕ) (c : B) (ls r : List Terminal) → SameHead ks ls → Q d' c (t ∷ ls) r → Some_ P d' (t ∷ ls)) → RefusesHere P d end (t ∷ ks) x → RefusesParts V Q d end (t ∷ ks) x
refuses_second P Q d end t ks x a z f h (out_of_memory e) = by_grammar (out_of_memory e)
refuses_second P Q d end t ks x a z f h (syntax q e never) = by_grammar (syntax q e (λ d'. dead_second (P d') (Q d') t ks q a z (f d') (h d') (never d')))
refuses_second P Q d end t ks x a z f h (nested q m n e w never v lives) = absurd lives
refuses_second P Q d end t ks x a z f h (in_grammar feature q e w) = by_grammar (in_grammar feature q e w)

names_first : {d : ℕ} {ks : List Terminal} → Some_ (Seq SomeNames FieldsRest) d ks → Some_ SomeNames d ks
names_first (a, r, (m, f, g)) = (a.0, m, f)

pub fields_names : (d : ℕ) (end : Place) (ks : List Terminal) (x : ParseError) → Begins is_identifier ks → NoVisibility ks → RefusesHere SomeNames d end ks x → RefusesRest d end ks x
fields_names d end [] x i none h b free = absurd i
fields_names d end (t ∷ ks) x i none h b free = at_kind t.kind t.position i none free h
  where
    at_kind : (k : TokenKind) (p : Position) → is_identifier k ≡ true → NoVisibility (k at p ∷ ks) → (b ≡ true → NoDirective (k at p ∷ ks)) → RefusesHere SomeNames d end (k at p ∷ ks) x → RefusesParts (Opens Anything (ClassRest b)) (ClassRest b) d end (k at p ∷ ks) x
    at_kind (kind.Identifier word) p i none free h = refuses_second SomeNames (ClassRest b) d end (kind.Identifier word at p) ks x (name word p ∷ []) [] (λ d'. (are_one_name is_name, no_mark_by mark.Comma is_comma refl tt)) (λ d' u ls r s f. names_first (field_off ks s free none f)) h
    at_kind other p i none free h = false_true i

-- ---- an entry

entry_dies : (d : ℕ) (end : Place) (e : Entry) (ks m : List Terminal) (x : ParseError) → SomeEntry d e ks m → RefusesRest d end m x → RefusesRest d end ks x
entry_dies d end (opens v) ks m x f h = visibility_dies d end v ks m x f h
entry_dies d end (declares (method a)) ks m x (is_class_method f, none) h = method_dies d end a ks m x (f, none) h
entry_dies d end (declares (property a)) ks m x (is_class_property f, u) h = property_dies d end a ks m x f h
entry_dies d end (declares (fields a)) ks m x (are_fields {ns = ns} {t = t} {p = p} {m = n} f g, u) h = fields_rest d end ns ks (kind.Colon at p ∷ n) x (f, no_mark_by mark.Comma is_comma refl refl) (names_no_visibility f) (refuses_after FieldsEnd (ClassRest false) d end (both tt (both t tt)) (kind.Colon at p ∷ n) m x known_end (then_ stands (then_ (g, record { operator = refl; selector = refl; range = refl }) stands)) (λ q y. opens_after {a = both tt (both t tt)} known_end (then_ stands (then_ (g, record { operator = refl; selector = refl; range = refl }) stands)) y) (h false (λ e. false_true e)))

-- ---- the sections

-- what is read so far, and what is left
pub record Sectioning (d : ℕ) (end : Place) (all : List Terminal) (body : Body) (rest : List Terminal) : Type 0 where
  pub completes : (ms : List Member) (ss : List Section) (p q : Position) (m r : List Terminal) → AreMembers d ms rest m → AreSections d ss m (kind.End at p ∷ kind.Semicolon at q ∷ r) → SectionsBefore d (body_with body ms ss) all r
  pub dies : (x : ParseError) → RefusesRest d end rest x → RefusesParts (Opens Anything SectionsBefore) SectionsBefore d end all x

section_first : (d : ℕ) (ms : List Member) (ss : List Section) (p q : Position) (ks m r : List Terminal) → AreMembers d ms ks m → AreSections d ss m (kind.End at p ∷ kind.Semicolon at q ∷ r) → SectionsBefore d (sections_before None ms ss) ks r
section_first d ms ss p q ks m r are_no_members g = (q, begins_with_visibility g)
section_first d ms ss p q ks m r (are_members f more) g = (q, begins_with_members (are_members f more) g)

-- such a rest is one of sections
record Rest (d : ℕ) (ks r : List Terminal) : Type 0 where
  pub members : List Member
  pub sections : List Section
  pub behind : List Terminal
  pub end_at : Position
  pub semicolon_at : Position
  pub are_members : AreMembers d members ks behind
  pub are_sections : AreSections d sections behind (kind.End at end_at ∷ kind.Semicolon at semicolon_at ∷ r)

one_member : {d : ℕ} {a : Member} {ks m r : List Terminal} → IsMember d a ks m → Rest d m r → Rest d ks r
one_member {a = a} f x = record { members = a ∷ x.members; sections = x.sections; behind = x.behind; end_at = x.end_at; semicolon_at = x.semicolon_at; are_members = are_members f x.are_members; are_sections = x.are_sections }

-- the directives at the front, and the rest behind them; where none may stand there, all of it
all_in : {b : Bool} {d : ℕ} {u : Unit {0}} {ks r : List Terminal} → ClassRest b d u ks r → (ws : List Directive) × (m : List Terminal) × AreDirectives ws ks m × Rest d m r × (b ≡ false → Rest d ks r)
all_in {d = d} {ks = ks} (rest_ends {p = p} {q = q} {r = r}) =
    let x : Rest d (kind.End at p ∷ kind.Semicolon at q ∷ r) r = record { members = []; sections = []; behind = kind.End at p ∷ kind.Semicolon at q ∷ r; end_at = p; semicolon_at = q; are_members = are_no_members; are_sections = are_no_sections } in
    ([], kind.End at p ∷ kind.Semicolon at q ∷ r, are_no_directives, x, λ h. x)
all_in (rest_directive {w = w} e more) = let x = all_in more in (w ∷ x.0, x.1, are_directives e x.2, x.3, λ h. true_false h)
all_in {ks = ks} (rest_method {h = h} f more) =
    let w = all_in more in
    let x = one_member {a = method (record { heading = h; directives = w.0 })} (is_class_method (is_method f.1 w.2)) w.3 in
    ([], ks, are_no_directives, x, λ h. x)
all_in (rest_fields {ns = ns} {t = t} {word = word} {p = p} {ks = ks} f g more) =
    let x = one_member {a = fields (record { names = ns; denoter = t })} (are_fields f g) ((all_in more).4 refl) in
    ([], kind.Identifier word at p ∷ ks, are_no_directives, x, λ h. x)
all_in (rest_property {a = a} {p = p} {ks = ks} f more) =
    let x = one_member {a = property a} (is_class_property f) ((all_in more).4 refl) in
    ([], kind.Property at p ∷ ks, are_no_directives, x, λ h. x)
all_in {d = d} (rest_visibility {word = word} {v = v} {p = p} {ks = ks} {r = r} e more) =
    let w = (all_in more).4 refl in
    let x : Rest d (kind.Identifier word at p ∷ ks) r = record { members = []; sections = record { visibility = Some v; members = w.members } ∷ w.sections; behind = kind.Identifier word at p ∷ ks; end_at = w.end_at; semicolon_at = w.semicolon_at; are_members = are_no_members; are_sections = are_sections e w.are_members w.are_sections } in
    ([], kind.Identifier word at p ∷ ks, are_no_directives, x, λ h. x)

rest_body : {d : ℕ} {u : Unit {0}} {ks r : List Terminal} → ClassRest false d u ks r → (ss : List Section) × SectionsBefore d ss ks r
rest_body {d = d} {ks = ks} {r = r} f = let x = (all_in f).4 refl in (sections_before None x.members x.sections, section_first d x.members x.sections x.end_at x.semicolon_at ks x.behind r x.are_members x.are_sections)

pub sectioning_none : (d : ℕ) (end : Place) (all : List Terminal) (body : Body) → ((ms : List Member) (ss : List Section) → body_with body ms ss ≡ sections_before None ms ss) → Sectioning d end all body all
sectioning_none d end all body none = record {
  completes = λ ms ss p q m r f g. subst (λ z. SectionsBefore d z all r) (sym (none ms ss)) (section_first d ms ss p q all m r f g);
  dies = λ x h. refuses_map (ClassRest false) SectionsBefore d end all x (λ d' ss ls r s f. (tt, r, body_rest f)) (λ q y. opens_map (λ i u ls r s f. rest_body f) y) (h false (λ e. false_true e));
}

goes_on : (d : ℕ) (end : Place) (all rest m : List Terminal) (body : Body) (e : Entry) (ms : List Member) (ss : List Section) (p q : Position) (n r : List Terminal) → Sectioning d end all body rest → SomeEntry d e rest m → AreMembers d ms m n → AreSections d ss n (kind.End at p ∷ kind.Semicolon at q ∷ r) → SectionsBefore d (body_with body (members_behind e ms) (sections_behind e ms ss)) all r
goes_on d end all rest m body (declares a) ms ss p q n r so_far f g h = so_far.completes (a ∷ ms) ss p q n r (are_members f.0 g) h
goes_on d end all rest m body (opens v) ms ss p q n r so_far (is_visibility e k) g h = so_far.completes [] (record { visibility = Some v; members = ms } ∷ ss) p q rest r are_no_members (are_sections e g h)

pub sectioning_more : (d : ℕ) (end : Place) (all rest m : List Terminal) (body more : Body) (e : Entry) → Sectioning d end all body rest → SomeEntry d e rest m → Adds e body more → Sectioning d end all more m
sectioning_more d end all rest m body more e so_far f added = record {
  completes = λ ms ss p q n r g h. subst (λ z. SectionsBefore d z all r) (sym (added ms ss)) (goes_on d end all rest m body e ms ss p q n r so_far f g h);
  dies = λ x h. so_far.dies x (entry_dies d end e rest m x f h);
}

pub sectioning_ends : (d : ℕ) (end : Place) (all rest after : List Terminal) (body : Body) (ss : List Section) (p q : Position) (r : List Terminal) → Sectioning d end all body rest → rest ≡ kind.End at p ∷ after → after ≡ kind.Semicolon at q ∷ r → ss ≡ map section_of body.sections.items ++ sections_before body.visibility (map member_of body.members.items) [] → SectionsBefore d ss all r
sectioning_ends d end all rest after body ss p q r so_far e e1 is =
    let whole : SectionsBefore d (body_with body [] []) all r = so_far.completes [] [] p q rest r are_no_members (subst (λ z. AreSections d [] z (kind.End at p ∷ kind.Semicolon at q ∷ r)) (sym (e ∙ ap (λ z. kind.End at p ∷ z) e1)) are_no_sections) in
    subst (λ z. SectionsBefore d z all r) (ap (λ z. map section_of body.sections.items ++ sections_before body.visibility z []) (append-nil (map member_of body.members.items)) ∙ sym is) whole

-- ---- forms

pub strict_form : (k k' : TokenKind) (p q : Position) (r : List Terminal) → is_word (codes "strict") k ≡ true → is_identifier k' ≡ true → HasForm 21 (k at p ∷ k' at q ∷ r) (k at p ∷ k' at q ∷ r) (k' at q ∷ r)
strict_form k k' p q r h i =
    let w = word_kind (codes "strict") k h in
    ([], k at p ∷ k' at q ∷ r, refl, subst (λ z. Form 21 (z at p ∷ k' at q ∷ r) (z at p ∷ k' at q ∷ r) (k' at q ∷ r)) (sym w.0) (subst (λ z. Form 21 (kind.Identifier (spelled k) at p ∷ z at q ∷ r) (kind.Identifier (spelled k) at p ∷ z at q ∷ r) (z at q ∷ r)) (sym (identifier_kind k' i)) (is_strict w.1)))

pub resolves : (k : TokenKind) (p q : Position) (m form r : List Terminal) → is_identifier k ≡ true → m ≡ kind.Dot at p ∷ k at q ∷ form → (u : Position) → form ≡ kind.Equal at u ∷ r → Resolves m form
resolves k p q m form r i e u e1 = (name (spelled k) q, p, u, k at q ∷ form, r, e, named_at k q form i, e1)

routine_resolves : (k : TokenKind) → begins_resolution k ≡ true → (sort : RoutineKind) × (routine_kind_of k ≡ Some sort)
routine_resolves kind.Procedure h = (routine.Procedure, refl)
routine_resolves kind.Function h = (routine.Function, refl)
routine_resolves other h = false_true h

pub resolution_form : (k k' : TokenKind) (p q : Position) (m form : List Terminal) → begins_resolution k ≡ true → is_identifier k' ≡ true → Resolves m form → HasForm 22 (k at p ∷ k' at q ∷ m) form form
resolution_form k k' p q m form h i (n, u, v, ls, r, e, f, e1) = ([], k at p ∷ k' at q ∷ m, refl, subst (λ z. Form 22 (k at p ∷ k' at q ∷ m) z z) (sym e1) (is_resolution (routine_resolves k h).1 (subst (λ z. IsName (name (spelled k') q) (k' at q ∷ m) z) e (named_at k' q m i)) (subst (λ z. IsName n ls z) e1 f)))

pub default_form : (k : TokenKind) (p q : Position) (m r : List Terminal) → is_word (codes "default") k ≡ true → m ≡ kind.Semicolon at q ∷ r → IsFormBehindProperty 20 (k at p ∷ m)
default_form k p q m r h e =
    let w = word_kind (codes "default") k h in
    let word : k at p ∷ m ≡ kind.Identifier (spelled k) at p ∷ m = ap (λ z. z at p ∷ m) w.0 in
    let whole : k at p ∷ m ≡ kind.Identifier (spelled k) at p ∷ kind.Semicolon at q ∷ r = word ∙ ap (λ z. kind.Identifier (spelled k) at p ∷ z) e in
    (m, (spelled k, p, q, r, w.1, word, e), λ d a ks f. subst (λ z. Form 20 ks (k at p ∷ m) z) (sym e) (subst (λ z. Form 20 ks z (kind.Semicolon at q ∷ r)) (sym whole) (is_default_property w.1 (subst (λ z. IsProperty d a ks z) whole f))))

default_shows_nothing : (word : List ℕ) → IsWord (codes "default") word → visibility_of word ≡ None
unfolding visibility_of
default_shows_nothing word e = ap (λ x. beside x visibilities) e

default_no_visibility : {word : List ℕ} {p : Position} {m : List Terminal} → IsWord (codes "default") word → NoVisibility (kind.Identifier word at p ∷ m)
default_no_visibility w v z (is_visibility {word = word} e n) = no_some (sym (default_shows_nothing word w) ∙ e)
  where
    no_some : {A : Type 0} {v : Visibility} → None ≡ Some v → A
    no_some h = absurd cc

-- no member begins with the word and a semicolon
default_dies : (d : ℕ) (end : Place) (word : List ℕ) (p q : Position) (r : List Terminal) → IsWord (codes "default") word → RefusesRest d end (kind.Identifier word at p ∷ kind.Semicolon at q ∷ r) (refused_at 9 0 end (kind.Semicolon at q ∷ r))
default_dies d end word p q r w = fields_end d end (name word p ∷ []) (kind.Identifier word at p ∷ rest) rest (refused_at 9 0 end rest) (are_one_name is_name, no_mark_by mark.Comma goes_on_as_field refl refl) (default_no_visibility w) (first (mark_refused mark.Colon d end rest (refused_at 9 0 end rest) (no_mark_refuses mark.Colon d end rest (refused_at 9 0 end rest) (no_mark_by mark.Colon goes_on_as_field refl refl) refl)))
  where
    rest : List Terminal
    rest = kind.Semicolon at q ∷ r

pub default_told : (d : ℕ) (end : Place) (a : Property) (ks m : List Terminal) (feature : ℕ) (x : ParseError) → IsProperty d a ks m → IsFormBehindProperty feature m → x ≡ refused_at 13 feature end m → RefusesRest d end ks x
default_told d end a ks m feature x f (l, (word, p, q, r, w, is, e), form) h b free = form_told at_semicolon refl (ap (λ z. place_at end z) (sym e)) ([], ks, refl, form d a ks f) h (property_dies d end a ks m at_semicolon f (subst (λ z. RefusesRest d end z at_semicolon) (sym (is ∙ ap (λ z. kind.Identifier word at p ∷ z) e)) (default_dies d end word p q r w)) b free)
  where
    at_semicolon : ParseError
    at_semicolon = refused_at 9 0 end (kind.Semicolon at q ∷ r)

pub visibility_stands : (k : TokenKind) (word : List ℕ) (v : Visibility) (p : Position) (ks r : List Terminal) → ks ≡ k at p ∷ r → k ≡ kind.Identifier word → visibility_of word ≡ Some v → front_is goes_on_as_field r ≡ false → IsVisibility v ks r
visibility_stands k word v p ks r e h d n = subst (λ z. IsVisibility v z r) (sym (e ∙ ap (λ z. z at p ∷ r) h)) (is_visibility d (front_not goes_on_as_field r n))

pub fields_whole : (d : ℕ) (ns : List Name) (t : Denoter) (ks m r : List Terminal) → SomeNames d ns ks m → FieldsEnd d (both tt (both t tt)) m r → IsMember d (fields (record { names = ns; denoter = t })) ks r
fields_whole d ns t ks m r f (then_ stands (then_ g stands)) = are_fields f.0 g.0
