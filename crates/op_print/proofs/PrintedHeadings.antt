-- Headings, classes and interfaces can be printed and read again.
use Rattle.std.proofs.Common.{◌≡◌, ℕ, Bool, true, false, List, [], ◌∷◌, map, Option, Some, None, refl, ap, arith, ap₂}
use Rattle.std.specs.Char.{to_ascii_lowercase}
use Rattle.std.specs.Option.{option_map}
use Rattle.op_base.proofs.Tests.{ap₃}
use Rattle.op_print.proofs.Printed.{here, Able, fixed, Printed, printed, again, passed, first_of_all, Listed, last, more, bracketed}
use Rattle.op_print.proofs.PrintedDenoters.{printed_name, printed_names, printed_qualified, printed_brackets, printed_denoter}
use Rattle.op_print.specs.HeadingDrafts.{routine_word, directive_word, visibility_word, mode_draft, open_array_draft, parameter_type_draft, parameter_draft, type_draft, heading_draft, directive_draft, method_draft, accessor_draft, property_draft, member_draft, section_draft, class_draft, identifier_draft, interface_draft}
use Rattle.op_print.specs.NameDrafts.{qualified_of}
use Rattle.op_print.specs.Page.{each, enclosed, optional, ended}
use Rattle.op_print.specs.Scanned.{IsIdentifierText, IsSpellable}
use Rattle.op_print.specs.Unplaced.{bare_position, bare_name, bare_denoter, bare_parameter_type, bare_parameter, bare_heading, bare_method, bare_property, bare_member, bare_section, bare_class, bare_interface}
use Rattle.op_scan.specs.Byte.{is_name_start, is_name_byte}
use Rattle.op_scan.specs.Keyword.{keyword_of}
use Rattle.op_tree.proofs.ClassUnique.{class_with, interface_with, property_with, section_with}
use Rattle.op_tree.proofs.HeadingUnique.{parameter_with}
use Rattle.op_tree.specs.declared.heading.ParameterMode.TheVariants as mode
use Rattle.op_tree.specs.declared.position.Position.{Position}
use Rattle.op_scan.specs.declared.token.TokenKind.TheVariants as kind
use Rattle.op_tree.proofs.StatementUnique.{same4}
use Rattle.op_tree.specs.Declaration.{Heading, Method, Property, Member, fields, method, property, Section, Class, Interface}
use Rattle.op_tree.specs.Denoter.{Denoter}
use Rattle.op_tree.specs.HeadingGrammar.{directive_of, visibility_of, routine_kind_of, IsMode, by_value, by_var, by_const, by_out, IsOpenArray, is_no_array, is_open_array, IsParameterType, is_named, is_string, IsParameter, is_parameter, AreParameters, is_one_parameter, are_parameters, IsParameterPart, has_no_brackets, has_empty_brackets, has_parameters, IsOptionalType, has_no_type, has_type, IsRoutineName, is_of_no_class, is_of_class, IsHeading, is_heading, AreDirectives, are_no_directives, are_directives, IsMethod, is_method, AreMethods, are_no_methods, are_methods, IsAccessor, has_no_accessor, has_accessor, IsProperty, is_property, IsMember, are_fields, is_class_method, is_class_property, AreMembers, are_no_members, are_members, AreSections, are_no_sections, are_sections, IsClassBody, begins_with_visibility, begins_with_members, IsClass, has_body_alone, has_list_alone, has_list_and_body, IsIdentifier, has_no_identifier, has_identifier, IsInterface, has_methods_alone, has_ancestor_alone, has_ancestor_and_methods}
use Rattle.op_tree.specs.NameGrammar.{is_name, are_bracketed_names, are_one_name, are_names}
use Rattle.op_tree.specs.Terminal.{Terminal, ◌at◌, name}
use Rattle.op_tree.specs.declared.class.Visibility.{Visibility}
use Rattle.op_tree.specs.declared.class.Visibility.TheVariants as visibility
use Rattle.op_tree.specs.declared.heading.Directive.{Directive}
use Rattle.op_tree.specs.declared.heading.Directive.TheVariants as directive
use Rattle.op_tree.specs.declared.heading.Parameter.{Parameter}
use Rattle.op_tree.specs.declared.heading.ParameterMode.{ParameterMode}
use Rattle.op_tree.specs.declared.heading.ParameterType.{ParameterType}
use Rattle.op_tree.specs.declared.heading.ParameterType.TheVariants.{Named, String}
use Rattle.op_tree.specs.declared.heading.RoutineKind.{RoutineKind}
use Rattle.op_tree.specs.declared.heading.RoutineKind.TheVariants as routine
use Rattle.op_tree.specs.declared.position.Name.{Name}

-- ---- words

routine_is : (sort : RoutineKind) → (routine_kind_of (routine_word sort) ≡ Some sort) × IsSpellable (routine_word sort)
routine_is routine.Procedure = (refl, tt)
routine_is other = (refl, tt)

directive_is : (d : Directive) → (directive_of (directive_word d) ≡ Some d) × IsIdentifierText (directive_word d)
unfolding directive_of is_name_start is_name_byte keyword_of
directive_is directive.Virtual_ = (refl, record { first = refl; others = refl; short = omega arith; not_reserved = refl })
directive_is other = (refl, record { first = refl; others = refl; short = omega arith; not_reserved = refl })

visibility_is : (v : Visibility) → (visibility_of (visibility_word v) ≡ Some v) × IsIdentifierText (visibility_word v)
unfolding visibility_of is_name_start is_name_byte keyword_of
visibility_is visibility.Private = (refl, record { first = refl; others = refl; short = omega arith; not_reserved = refl })
visibility_is other = (refl, record { first = refl; others = refl; short = omega arith; not_reserved = refl })

-- ---- parameters

printed_mode : {m : ParameterMode} {ks r : List Terminal} → IsMode m ks r → Able ks → Printed IsMode (λ x. x) m (mode_draft m) r
printed_mode by_value g = printed tt g (λ p z. again mode.Value by_value refl)
printed_mode by_var g = printed tt g.1 (λ p z. again mode.Var by_var refl)
printed_mode by_const g = printed tt g.1 (λ p z. again mode.Const_ by_const refl)
printed_mode (by_out e) g = printed fixed.out g.1 (λ p z. again mode.Out (by_out refl) refl)

printed_array : {b : Bool} {ks r : List Terminal} → IsOpenArray b ks r → Able ks → Printed IsOpenArray (λ x. x) b (open_array_draft b) r
printed_array is_no_array g = printed tt g (λ p z. again false is_no_array refl)
printed_array is_open_array g = printed (tt, tt) g.1.1 (λ p z. again true is_open_array refl)

printed_parameter_type : {t : ParameterType} {ks r : List Terminal} → IsParameterType t ks r → Able ks → Printed IsParameterType bare_parameter_type t (parameter_type_draft t) r
printed_parameter_type (is_named q) g = passed Named (λ a ks z. is_named) (λ a. ap Named) (printed_qualified q g)
printed_parameter_type (is_string {p = w}) g = printed tt g.1 (λ p z. again (String (here p w)) is_string refl)

printed_parameter : {a : Parameter} {ks r : List Terminal} → IsParameter a ks r → Able ks → Printed IsParameter bare_parameter a (parameter_draft a) r
printed_parameter (is_parameter m n b t) g =
    let u = printed_mode m g in
    let v = printed_names n u.able in
    let w = printed_array b v.all.able.1 in
    let x = printed_parameter_type t w.able in
    printed (u.words, (v.all.words, (tt, (w.words, x.words)))) x.able (λ p z. let a = u.again p.0 _ in let b = v.all.again p.1.0 _ in let c = w.again p.1.1.1.0 _ in let e = x.again p.1.1.1.1 z in again (parameter_with a.part b.part c.part e.part) (is_parameter a.is b.is c.is e.is) (same4 parameter_with a.same b.same c.same e.same))

printed_parameters : {as_ : List Parameter} {ks r : List Terminal} → AreParameters as_ ks r → Able ks → Listed AreParameters (map bare_parameter) kind.Semicolon as_ (map parameter_draft as_) r
printed_parameters (is_one_parameter a) g = last (λ x. x ∷ []) (λ a ks z. is_one_parameter) (λ a. ap (λ x. x ∷ [])) (printed_parameter a g)
printed_parameters (are_parameters a as_) g =
    let u = printed_parameter a g in
    more (λ x y. x ∷ y) (λ a b p ks m z. are_parameters) (λ a b. ap₂ (λ x y. x ∷ y)) u (printed_parameters as_ u.able.1)

printed_parameter_part : {d : ℕ} {as_ : List Parameter} {ks r : List Terminal} → IsParameterPart d as_ ks r → Able ks → Printed (IsParameterPart d) (map bare_parameter) as_ (enclosed kind.OpenParenthesis kind.Semicolon kind.CloseParenthesis (map parameter_draft as_)) r
printed_parameter_part has_no_brackets g = printed tt g (λ p z. again [] has_no_brackets refl)
printed_parameter_part has_empty_brackets g = printed tt g.1.1 (λ p z. again [] has_no_brackets refl)
printed_parameter_part (has_parameters as_) g = bracketed kind.OpenParenthesis (λ a p q ks z. has_parameters) tt (printed_parameters as_ g.1)

-- ---- headings and methods

pub printed_type : {d : ℕ} {t : Option Denoter} {ks r : List Terminal} → IsOptionalType d t ks r → Able ks → Printed (IsOptionalType d) (option_map bare_denoter) t (optional type_draft t) r
printed_type has_no_type g = printed tt g (λ p z. again None has_no_type refl)
printed_type (has_type t) g =
    let u = printed_denoter t g.1 in
    printed (tt, u.words) u.able (λ p z. let a = u.again p.1 z in again (Some a.part) (has_type a.is) (ap Some a.same))

-- a routine's name and its class
abbrev Routine : Type 0
Routine = Option Name × Name

abbrev IsRoutineOf : Routine → List Terminal → List Terminal → Type 0
IsRoutineOf a ks z = IsRoutineName a.0 a.1 ks z

abbrev bare_routine : Routine → Routine
bare_routine a = (option_map bare_name a.0, bare_name a.1)

printed_routine_name : {c : Option Name} {n : Name} {ks r : List Terminal} → IsRoutineName c n ks r → Able ks → Printed IsRoutineOf bare_routine (c, n) (qualified_of c n) r
printed_routine_name (is_of_no_class (is_name {text = t} {p = x})) g = printed g.0 g.1 (λ p z. again (None, name t (here p x)) (is_of_no_class is_name) refl)
printed_routine_name (is_of_class (is_name {text = t} {p = x}) (is_name {text = w} {p = y})) g = printed (g.0, (tt, g.1.1.0)) g.1.1.1 (λ p z. again (Some (name t (here p.0 x)), name w (here p.1.1 y)) (is_of_class is_name is_name) refl)

abbrev heading_with : RoutineKind → Routine → List Parameter → Option Denoter → Heading
heading_with k n ps t = record { kind = k; class = n.0; name = n.1; parameters = ps; result = t }

pub printed_heading : {d : ℕ} {h : Heading} {ks r : List Terminal} → IsHeading d h ks r → Able ks → Printed (IsHeading d) bare_heading h (heading_draft h) r
printed_heading (is_heading {sort = sort} e n a t) g =
    let u = printed_routine_name n g.1 in
    let v = printed_parameter_part a u.able in
    let w = printed_type t v.able in
    let k = routine_is sort in
    printed (k.1, (u.words, (v.words, w.words))) w.able (λ p z. let a = u.again p.1.0 _ in let b = v.again p.1.1.0 _ in let c = w.again p.1.1.1 z in again (heading_with sort a.part b.part c.part) (is_heading k.0 a.is b.is c.is) (ap₃ (heading_with sort) a.same b.same c.same))

pub printed_directives : {ds : List Directive} {ks r : List Terminal} → AreDirectives ds ks r → Able ks → Printed AreDirectives (λ x. x) ds (each (map directive_draft ds)) r
printed_directives are_no_directives g = printed tt g (λ p z. again [] are_no_directives refl)
printed_directives (are_directives {w = w} e ds) g =
    let u = printed_directives ds g.1.1 in
    let k = directive_is w in
    printed ((k.1, tt), u.words) u.able (λ p z. let a = u.again p.1 z in again (w ∷ a.part) (are_directives k.0 a.is) (ap (λ x. w ∷ x) a.same))

pub printed_method : {d : ℕ} {a : Method} {ks r : List Terminal} → IsMethod d a ks r → Able ks → Printed (IsMethod d) bare_method a (method_draft a) r
printed_method (is_method h ws) g =
    let u = printed_heading h g in
    let v = printed_directives ws u.able.1 in
    printed (tt, (u.words, (tt, v.words))) v.able (λ p z. let a = u.again p.1.0 _ in let b = v.again p.1.1.1 z in again (record { heading = a.part; directives = b.part }) (is_method a.is b.is) (ap₂ (λ x y. record { heading = x; directives = y }) a.same b.same))

printed_methods : {d : ℕ} {as_ : List Method} {ks r : List Terminal} → AreMethods d as_ ks r → Able ks → Printed (AreMethods d) (map bare_method) as_ (each (map method_draft as_)) r
printed_methods are_no_methods g = printed tt g (λ p z. again [] are_no_methods refl)
printed_methods (are_methods a as_) g =
    let u = printed_method a g in
    first_of_all (λ x y. x ∷ y) (λ a b ks m z. are_methods) (λ a b. ap₂ (λ x y. x ∷ y)) u (printed_methods as_ u.able)

-- ---- members

printed_accessor : {text : List ℕ} {n : Option Name} {ks r : List Terminal} → map to_ascii_lowercase text ≡ text → IsIdentifierText text → IsAccessor text n ks r → Able ks → Printed (IsAccessor text) (option_map bare_name) n (optional (accessor_draft text) n) r
printed_accessor e i has_no_accessor g = printed tt g (λ p z. again None has_no_accessor refl)
printed_accessor e i (has_accessor w n) g =
    let u = printed_name n g.1 in
    printed (i, u.words) u.able (λ p z. let a = u.again p.1 z in again (Some a.part) (has_accessor e a.is) (ap Some a.same))

printed_property : {d : ℕ} {a : Property} {ks r : List Terminal} → IsProperty d a ks r → Able ks → Printed (IsProperty d) bare_property a (property_draft a) r
printed_property (is_property (is_name {text = text} {p = n}) t v w) g =
    let u = printed_denoter t g.1.1.1 in
    let x = printed_accessor refl fixed.read v u.able in
    let y = printed_accessor refl fixed.write w x.able in
    printed (tt, (tt, (g.1.0, (tt, (u.words, (x.words, (y.words, tt))))))) y.able.1 (λ p z. let a = u.again p.1.1.1.1.0 _ in let b = x.again p.1.1.1.1.1.0 _ in let c = y.again p.1.1.1.1.1.1.0 _ in again (property_with (name text (here p.1.1.0 n)) a.part b.part c.part) (is_property is_name a.is b.is c.is) (ap₃ (property_with (name text (bare_position n))) a.same b.same c.same))

printed_member : {d : ℕ} {a : Member} {ks r : List Terminal} → IsMember d a ks r → Able ks → Printed (IsMember d) bare_member a (member_draft a) r
printed_member (are_fields ns t) g =
    let u = printed_names ns g in
    let v = printed_denoter t u.all.able.1 in
    printed (tt, (u.all.words, (tt, (v.words, tt)))) v.able.1 (λ p z. let a = u.all.again p.1.0 _ in let b = v.again p.1.1.1.0 _ in again (fields (record { names = a.part; denoter = b.part })) (are_fields a.is b.is) (ap₂ (λ x y. fields (record { names = x; denoter = y })) a.same b.same))
printed_member (is_class_method a) g = passed method (λ a ks z. is_class_method) (λ a. ap method) (printed_method a g)
printed_member (is_class_property a) g = passed property (λ a ks z. is_class_property) (λ a. ap property) (printed_property a g)

printed_members : {d : ℕ} {as_ : List Member} {ks r : List Terminal} → AreMembers d as_ ks r → Able ks → Printed (AreMembers d) (map bare_member) as_ (each (map member_draft as_)) r
printed_members are_no_members g = printed tt g (λ p z. again [] are_no_members refl)
printed_members (are_members a as_) g =
    let u = printed_member a g in
    first_of_all (λ x y. x ∷ y) (λ a b ks m z. are_members) (λ a b. ap₂ (λ x y. x ∷ y)) u (printed_members as_ u.able)

-- ---- classes

printed_sections : {d : ℕ} {ss : List Section} {ks r : List Terminal} → AreSections d ss ks r → Able ks → Printed (AreSections d) (map bare_section) ss (each (map section_draft ss)) r
printed_sections are_no_sections g = printed tt g (λ p z. again [] are_no_sections refl)
printed_sections (are_sections {v = v0} e as_ ss) g =
    let u = printed_members as_ g.1 in
    let v = printed_sections ss u.able in
    let k = visibility_is v0 in
    printed (((tt, k.1), u.words), v.words) v.able (λ p z. let a = u.again p.0.1 _ in let b = v.again p.1 z in again (section_with (Some v0) a.part ∷ b.part) (are_sections k.0 a.is b.is) (ap₂ (λ x y. section_with (Some v0) x ∷ y) a.same b.same))

members_first : {d : ℕ} (a : Member) (as_ x : List Member) {ss : List Section} {p : Position} {ks m r : List Terminal} → map bare_member x ≡ map bare_member (a ∷ as_) → AreMembers d x ks m → AreSections d ss m (kind.End at p ∷ r) → IsClassBody d (section_with None x ∷ ss) ks r
members_first a as_ [] e f g = absurd cc
members_first a as_ (b ∷ bs) e f g = begins_with_members f g

printed_body : {d : ℕ} {ss : List Section} {ks r : List Terminal} → IsClassBody d ss ks r → Able ks → Printed (IsClassBody d) (map bare_section) ss (ended (each (map section_draft ss))) r
printed_body (begins_with_visibility ss) g =
    let u = printed_sections ss g in
    printed ((tt, (u.words, (tt, tt))), tt) u.able.1 (λ p z. let a = u.again p.0.1.0 _ in again a.part (begins_with_visibility a.is) a.same)
printed_body (begins_with_members {a = a0} {as_ = b0} as_ ss) g =
    let u = printed_members as_ g in
    let v = printed_sections ss u.able in
    printed ((tt, (((tt, u.words), v.words), (tt, tt))), tt) v.able.1 (λ p z. let a = u.again p.0.1.0.0.1 _ in let b = v.again p.0.1.0.1 _ in again (section_with None a.part ∷ b.part) (members_first a0 b0 a.part a.same a.is b.is) (ap₂ (λ x y. section_with None x ∷ y) a.same b.same))

pub printed_class : {d : ℕ} {c : Class} {ks r : List Terminal} → IsClass d c ks r → Able ks → Printed (IsClass d) bare_class c (class_draft c) r
printed_class (has_body_alone b) g =
    let u = printed_body b g.1 in
    printed (tt, (tt, u.words)) u.able (λ p z. let a = u.again p.1.1 z in again (class_with [] a.part) (has_body_alone a.is) (ap (class_with []) a.same))
printed_class (has_list_alone ns) g =
    let u = printed_brackets ns g.1 in
    printed (tt, (u.words, ((tt, (tt, (tt, tt))), tt))) u.able (λ p z. let a = u.again p.1.0 _ in again (class_with a.part []) (has_list_and_body a.is (begins_with_visibility are_no_sections)) (ap (λ x. class_with x []) a.same))
printed_class (has_list_and_body ns b) g =
    let u = printed_brackets ns g.1 in
    let v = printed_body b u.able in
    printed (tt, (u.words, v.words)) v.able (λ p z. let a = u.again p.1.0 _ in let b = v.again p.1.1 z in again (class_with a.part b.part) (has_list_and_body a.is b.is) (ap₂ class_with a.same b.same))

-- ---- interfaces

pub printed_identifier : {d : ℕ} {t : Option (List ℕ)} {ks r : List Terminal} → IsIdentifier d t ks r → Able ks → Printed (IsIdentifier d) (λ x. x) t (optional identifier_draft t) r
printed_identifier has_no_identifier g = printed tt g (λ p z. again None has_no_identifier refl)
printed_identifier (has_identifier {text = text}) g = printed (tt, (g.1.0, tt)) g.1.1.1 (λ p z. again (Some text) has_identifier refl)

pub printed_interface : {d : ℕ} {i : Interface} {ks r : List Terminal} → IsInterface d i ks r → Able ks → Printed (IsInterface d) bare_interface i (interface_draft i) r
printed_interface (has_methods_alone t as_) g =
    let u = printed_identifier t g.1 in
    let v = printed_methods as_ u.able in
    printed (tt, (tt, (u.words, ((tt, (v.words, (tt, tt))), tt)))) v.able.1 (λ p z. let a = u.again p.1.1.0 _ in let b = v.again p.1.1.1.0.1.0 _ in again (interface_with None a.part b.part) (has_methods_alone a.is b.is) (ap₂ (interface_with None) a.same b.same))
printed_interface (has_ancestor_alone (are_bracketed_names (are_one_name (is_name {text = text} {p = n}))) t) g =
    let u = printed_identifier t g.1.1.1.1 in
    printed (tt, ((tt, (g.1.1.0, tt)), (u.words, ((tt, (tt, (tt, tt))), tt)))) u.able (λ p z. let a = u.again p.1.1.0 _ in again (interface_with (Some (name text (here p.1.0.1.0 n))) a.part []) (has_ancestor_and_methods (are_bracketed_names (are_one_name is_name)) a.is are_no_methods) (ap (λ x. interface_with (Some (name text (bare_position n))) x []) a.same))
printed_interface (has_ancestor_alone (are_bracketed_names (are_names n ns)) t) g = elim ns [ ]
printed_interface (has_ancestor_and_methods (are_bracketed_names (are_one_name (is_name {text = text} {p = n}))) t as_) g =
    let u = printed_identifier t g.1.1.1.1 in
    let v = printed_methods as_ u.able in
    printed (tt, ((tt, (g.1.1.0, tt)), (u.words, ((tt, (v.words, (tt, tt))), tt)))) v.able.1 (λ p z. let a = u.again p.1.1.0 _ in let b = v.again p.1.1.1.0.1.0 _ in again (interface_with (Some (name text (here p.1.0.1.0 n))) a.part b.part) (has_ancestor_and_methods (are_bracketed_names (are_one_name is_name)) a.is b.is) (ap₂ (interface_with (Some (name text (bare_position n)))) a.same b.same))
printed_interface (has_ancestor_and_methods (are_bracketed_names (are_names n ns)) t as_) g = elim ns [ ]
