-- What begins the parts of a declaration begins it.
use Rattle.std.proofs.Common.{◌≡◌, ◌<◌, ◌||◌, ℕ, zero, suc, Bool, true, false, List, [], ◌∷◌, ◌++◌, codes, Option, Some, None, refl, sym, ap, subst, arith}
use Rattle.op_base.specs.declared.place.Place.{Place}
use Rattle.op_parse_code.proofs.Cuts.{IsCut, cut_none, cut_one, cut_join, same_not}
use Rattle.op_parse_code.proofs.Factors.{same_begins}
use Rattle.op_parse_code.proofs.Fitting.{a_name, name_alone}
use Rattle.op_parse_code.proofs.Living.{Fits}
use Rattle.op_parse_code.proofs.Refusing.{Known, no_mark_same}
use Rattle.op_parse_code.proofs.StatementKnown.{known_name, known_statements}
use Rattle.op_parse_code.proofs.Statements.{RestsAll, fits_statements}
use Rattle.op_parse_code.specs.Opening.{is_identifier, kind_of}
use Rattle.op_parse_code.specs.Refusal.{Phrase, SameHead, Shown, Alive}
use Rattle.op_parse_code.specs.Whole.{NoMark, SomeName}
use Rattle.op_parse_code.specs.WholeStatement.{SomeStatements}
use Rattle.op_parse_code.specs.declared.error.ParseError.{ParseError}
use Rattle.op_parse_code.specs.declared.mark.Mark.{Mark}
use Rattle.op_parse_code.specs.declared.mark.Mark.TheVariants as mark
use Rattle.op_parse_decl.proofs.Denoters.{fits_denoter}
use Rattle.op_parse_decl.proofs.InitialLists.{fits_initial}
use Rattle.op_parse_decl.proofs.Opens.{alive_of, opens, opens_behind, opens_deeper, opens_here, opens_map, opens_second, opens_with}
use Rattle.op_parse_decl.proofs.Refusals.{refuses_map}
use Rattle.op_parse_decl.specs.Begun.{Anything, Opens, ThenBegun, in_first, in_second, BehindBegun, behind_it, RepeatsBegun, in_next, in_further, SeparatedBegun, in_part, in_others, ChoiceBegun, in_chosen, in_other, ForkBegun, in_marked, in_unmarked, AheadBegun, in_ahead, in_not_ahead, DeeperBegun, in_deeper, no_room}
use Rattle.op_parse_decl.specs.Blocks.{DataOrRoutine, made_block_declaration, known_block_declaration, known_constant, known_type, known_variables, routine_of, data_of_parts, heading_of_parts as heading_declaration, known_data, known_declarations, made_interface_declaration}
use Rattle.op_parse_decl.specs.FileParts.{BlockParts, Last, ProgramParts, TailParts, UnitParts, block_of_parts, both_of_parts, end_of_parts, finalization_of_parts, initialization_of_parts, made_heading as made_program_heading, made_uses, name_of_parts, names_of_parts, program_of_parts, unit_of_parts}
use Rattle.op_parse_decl.specs.KnownLeaves.{known_here}
use Rattle.op_parse_decl.specs.ClassKnown.{ClassParts, body_of_parts, class_of_parts, forward_of_parts, list_of_parts}
use Rattle.op_parse_decl.specs.Classes.{SectionsBefore, goes_on_as_field}
use Rattle.op_parse_decl.specs.Combined.{Both, both, Stands, stands, Then, then_, Behind, no_mark, behind_mark, Repeats, no_more, one_more, Or, this, that, Choice, chosen, otherwise, Deeper, deeper, Nothing, nothing, Fork, marked, unmarked, Several, HasMark, mark_ahead, Ahead, is_ahead, not_ahead, Separated}
use Rattle.op_parse_decl.specs.DeclarationParts.{ConstantParts, constant_of_parts, DataParts, constants_of_parts, DefinitionParts, class_of_parts as class_definition, denoter_of_parts, interface_of_parts, made_data, made_definition, made_constant, made_type, made_variables, MethodParts, made_method, method_of_parts, TypeParts, type_of_parts, types_of_parts, VariablesParts, variables_of_parts, variable_list_of_parts}
use Rattle.op_parse_decl.specs.Declarations.{AllOf, EndsBlockDeclarations, BlockDeclaration, block_data, block_routine, no_uses, SomeProgram, SomeProgramHeading, SomeUnit, SomeUses, Whole, BodyBefore, DefinitionBefore, DefinitionBehind, InterfaceDeclaration, OneDirective, SomeData, StandsHere, WholeMethod, begins_declaration, is_directive, listed}
use Rattle.op_parse_decl.specs.Fronts.{front_bracketed_names}
use Rattle.op_parse_decl.specs.HeadingParts.{HeadingParts, PartFront, PartParts, empty_of_parts, heading_of_parts, known_heading, known_part, made_heading, made_name}
use Rattle.op_parse_decl.specs.HeadingKnown.{known_routine_kind}
use Rattle.op_parse_decl.specs.Headings.{IsRoutineKind, SomeHeading, SomeModed, SomeParameter, SomeParameterPart, SomeParameterType, SomeRoutineName}
use Rattle.op_parse_decl.specs.InterfaceParts.{AncestorParts, HeadParts, IdentifierParts, InterfaceParts, ends_of_parts, head_of_both, head_of_name, head_of_none, head_of_text, known_head, known_method, methods_of_parts}
use Rattle.op_parse_decl.specs.Interfaces.{InterfaceBefore, IsLiteral, literal, SomeInterfaceHead, bodiless}
use Rattle.op_parse_decl.specs.InitialKnown.{known_initial}
use Rattle.op_parse_decl.specs.Known.{As, no_mark_by, known_ahead, known_as, known_behind, known_deeper, known_choice, known_fork, known_nothing, known_repeats, known_stands, known_then, has_mark_same}
use Rattle.op_parse_decl.specs.KnownTypes.{known_bracketed_names, known_denoter, known_names}
use Rattle.op_parse_decl.specs.Opening.{is_open}
use Rattle.op_parse_decl.specs.Properties.{NamedProperty, SomeAccessor, PropertyParts, SomeAccessors, TypedProperty, known_property, made_property, property_of_parts}
use Rattle.op_parse_decl.specs.Refusal.{Never, RefusesParts}
use Rattle.op_parse_decl.specs.Types.{SomeBracketedNames, SomeDenoter, SomeInitial, SomeNames}
use Rattle.op_scan.specs.declared.token.TokenKind.{TokenKind}
use Rattle.op_scan.specs.declared.token.TokenKind.TheVariants as kind
use Rattle.op_tree.proofs.DeclarationUnique.{begins_data}
use Rattle.op_tree.proofs.ExpressionUnique.{Begins, false_true}
use Rattle.op_tree.proofs.MethodUnique.{begins_heading}
use Rattle.op_tree.specs.Declaration.{Body, Constant, Declaration, Declarations, Section, body, declarations, no_declarations, routine, Heading, Method, Property, TypeDeclaration, TypeDefinition, Variables, constants, denotes, forward_class, class, heading, interface, types, variables}
use Rattle.op_tree.specs.DeclarationGrammar.{AreVariablesOfOneType, IsConstant, IsTypeDeclaration, are_no_declarations, is_body}
use Rattle.op_tree.specs.File.{Program, Tail, UnitFile}
use Rattle.op_tree.specs.FileGrammar.{IsTail, has_end_alone}
use Rattle.op_tree.specs.Statement.{Statements, empty, no_statements, statements}
use Rattle.op_tree.specs.StatementGrammar.{are_one_statement, is_begin_end, is_empty}
use Rattle.op_tree.specs.Denoter.{Denoter}
use Rattle.op_tree.specs.DenoterGrammar.{is_value}
use Rattle.op_tree.specs.Ends.{IsNot, Stops, StopsDenoter}
use Rattle.op_tree.specs.HeadingGrammar.{IsProperty, are_no_directives, has_no_brackets, has_no_type, is_heading, is_method, is_of_no_class, routine_kind_of}
use Rattle.op_tree.specs.declared.file.ProgramHeading.{ProgramHeading}
use Rattle.op_tree.specs.declared.heading.RoutineKind.{RoutineKind}
use Rattle.op_tree.specs.declared.heading.RoutineKind.TheVariants as routines
use Rattle.op_tree.specs.Initial.{Initial, value}
use Rattle.op_tree.specs.NameGrammar.{IsName, is_name, are_bracketed_names}
use Rattle.op_tree.specs.Terminal.{Terminal, ◌at◌, name}
use Rattle.op_tree.specs.declared.heading.Directive.{Directive}
use Rattle.op_tree.specs.declared.position.Name.{Name}
use Rattle.op_tree.specs.declared.position.Position.{Position}

abbrev is_equal : TokenKind → Bool
is_equal kind.Equal = true
is_equal other = false

abbrev is_const : TokenKind → Bool
is_const kind.Const_ = true
is_const other = false

abbrev is_var : TokenKind → Bool
is_var kind.Var = true
is_var other = false

abbrev is_bracket : TokenKind → Bool
is_bracket kind.OpenBracket = true
is_bracket other = false

abbrev is_semicolon : TokenKind → Bool
is_semicolon kind.Semicolon = true
is_semicolon other = false

-- what is shown of the parts shows it
pub made_refused : {A B : Type 0} {P : Phrase A} {Q : Phrase B} {W V : Shown} {d : ℕ} {end : Place} {ks : List Terminal} {e : ParseError} → As P Q → ((d : ℕ) (ks q : List Terminal) → W d ks q → V d ks q) → RefusesParts W P d end ks e → RefusesParts V Q d end ks e
made_refused {P = P} {Q = Q} {W = W} {V = V} {d = d} {end = end} {ks = ks} {e = e} as_ k h = refuses_map {W = W} {V = V} P Q d end ks e (λ d' b ls r s q. let w = as_ d' b ls r q in (w.0, r, w.1)) (λ q x. k d ks q x) h

-- ---- parts put together

-- a mark behind a part, before any tokens
pub marked_behind : {A : Type 0} {P : Phrase A} {C : List Terminal → Type 0} {d : ℕ} {ks q : List Terminal} (m : Mark) → ((p : Position) (x : List Terminal) → C (kind_of m at p ∷ x)) → Opens C P d ks q → Opens Anything (Then P (Stands m)) d ks q
marked_behind m fit x = opens_with (λ p. kind_of m at p ∷ []) (λ p z c. fit p z) (λ i a p ls z s c f. (both a tt, then_ f stands)) x

-- what begins one of them, and no more of them
pub list_opens : {A : Type 0} {P : Phrase A} {W : Shown} {C : List Terminal → Type 0} {test : TokenKind → Bool} {d : ℕ} {ks q : List Terminal} → Known P → ((d : ℕ) (ks q : List Terminal) → W d ks q → Opens C P d ks q) → RepeatsBegun test P W d ks q → Opens (λ x. IsNot test x × C x) (Several test P) d ks q
list_opens {test = test} {ks = ks} known k (in_next {d = d} {q = q} b x) = opens_with (λ p. []) (λ p z c. c.1) (λ i a p ls z s c f. let h = same_begins test ks ls s b in (a ∷ [], (h, one_more h f (no_more c.0)))) (k d ks q x)
list_opens {A = A} {P = P} {test = test} {ks = ks} known k (in_further b p x) = opens_map {P = Then P (Several test P)} (λ i y ls r s f. again i y ls r s f) (opens_second known p (list_opens known k x))
  where
    again : (i : ℕ) (y : Both A (List A)) (ls r : List Terminal) → SameHead ks ls → Then P (Several test P) i y ls r → (z : List A) × Several test P i z ls r
    again i (both a as_) ls r s (then_ f g) = let h = same_begins test ks ls s b in (a ∷ as_, (h, one_more h f g.1))

no_list : {A : Type 0} {P : Phrase A} {test : TokenKind → Bool} {d : ℕ} {ks q : List Terminal} → RepeatsBegun test P Never d ks q → ⊥
no_list (in_next b x) = x
no_list (in_further b p x) = no_list x

-- ---- headings

fits_brackets : Fits SomeBracketedNames Anything
fits_brackets d ns ks r f = let s = front_bracketed_names f in (s.0, s.1, s.2, λ x c. s.3 x)

abbrev pub ParameterBegun : Shown
ParameterBegun = ThenBegun Never SomeModed (ThenBegun (BehindBegun mark.Array Never) (Behind mark.Array (Stands mark.Of)) Never)

abbrev pub PartBegun : Shown
PartBegun = AheadBegun mark.OpenParenthesis (DeeperBegun (ThenBegun (ThenBegun Never (Stands mark.OpenParenthesis) (AheadBegun mark.CloseParenthesis Never (SeparatedBegun mark.Semicolon SomeParameter ParameterBegun))) PartFront Never)) Never

no_parameter : {d : ℕ} {ks q : List Terminal} → ParameterBegun d ks q → ⊥
no_parameter (in_first x) = x
no_parameter (in_second p (in_first (behind_it x))) = x
no_parameter (in_second p (in_second o x)) = x

no_parameters : {d : ℕ} {ks q : List Terminal} → SeparatedBegun mark.Semicolon SomeParameter ParameterBegun d ks q → ⊥
no_parameters (in_part x) = no_parameter x
no_parameters (in_others p x) = no_parameters x

pub part_opens : (d : ℕ) (ks q : List Terminal) → PartBegun d ks q → Opens Anything SomeParameterPart d ks q
part_opens d ks q (in_ahead (mark_ahead {p = p}) no_room) = opens_here 1 (kind.OpenParenthesis at p) (kind.CloseParenthesis at p ∷ []) (omega arith) (λ x c. ([], empty_of_parts (is_ahead mark_ahead (deeper (then_ (then_ stands (is_ahead mark_ahead nothing)) stands)))))
part_opens d ks q (in_ahead h (in_deeper (in_first (in_first x)))) = absurd x
part_opens d ks q (in_ahead h (in_deeper (in_first (in_second o (in_ahead c x))))) = absurd x
part_opens d ks q (in_ahead h (in_deeper (in_first (in_second o (in_not_ahead c x))))) = absurd (no_parameters x)
part_opens d ks q (in_ahead h (in_deeper (in_second o x))) = absurd x
part_opens d ks q (in_not_ahead n x) = absurd x

abbrev pub NameBegun : Shown
NameBegun = ThenBegun Never SomeName (BehindBegun mark.Dot Never)

no_name : {d : ℕ} {ks q : List Terminal} → NameBegun d ks q → ⊥
no_name (in_first x) = x
no_name (in_second p (behind_it x)) = x

abbrev pub HeadingBegun : Shown
HeadingBegun = ThenBegun Never IsRoutineKind (ThenBegun NameBegun SomeRoutineName (ThenBegun (Opens Anything SomeParameterPart) SomeParameterPart (ThenBegun (BehindBegun mark.Colon (Alive SomeDenoter)) (Behind mark.Colon SomeDenoter) Never)))

-- a type behind a colon, before what belongs to none
type_opens : {d : ℕ} {ks q : List Terminal} → BehindBegun mark.Colon (Alive SomeDenoter) d ks q → Opens StopsDenoter (Behind mark.Colon SomeDenoter) d ks q
type_opens (behind_it x) = opens_behind (λ i t ls r f. (Some t, behind_mark f)) (opens fits_denoter x)

heading_back : (i : ℕ) (y : Both _ (Both (Both (Option Name) Name) (Both (List _) (Both (Option Denoter) (Unit {0}))))) (ls r : List Terminal) → HeadingParts i y ls r → (h : Heading) × SomeHeading i h ls r
heading_back i (both sort (both (both c n) (both as_ (both t tt)))) ls r f = (record { kind = sort; class = c; name = n; parameters = as_; result = t }, heading_of_parts f)

pub heading_opens : (d : ℕ) (ks q : List Terminal) → HeadingBegun d ks q → Opens Anything SomeHeading d ks q
heading_opens d ks q x = opens_map {P = HeadingParts} (λ i y ls r s f. heading_back i y ls r f) (parts x)
  where
    known_routine_name : Known SomeRoutineName
    known_routine_name = known_as made_name (known_then known_name (known_behind known_name))

    parts : HeadingBegun d ks q → Opens Anything HeadingParts d ks q
    parts (in_first x) = absurd x
    parts (in_second k (in_first x)) = absurd (no_name x)
    parts (in_second k (in_second n (in_first x))) = opens_second known_routine_kind k (opens_second known_routine_name n (opens_with (λ p. kind.Semicolon at p ∷ []) (λ p z c. tt) (λ i a p ls z s c f. (both a (both None tt), then_ f (then_ (no_mark (no_mark_by mark.Colon goes_on_as_field refl refl)) stands))) x))
    parts (in_second k (in_second n (in_second a (in_first x)))) = opens_second known_routine_kind k (opens_second known_routine_name n (opens_second known_part a (marked_behind mark.Semicolon (λ p z. record { operator = refl; selector = refl; range = refl }) (type_opens x))))
    parts (in_second k (in_second n (in_second a (in_second t x)))) = absurd x

-- ---- methods and properties

abbrev pub MethodBegun : Shown
MethodBegun = ThenBegun (Opens Anything SomeHeading) SomeHeading (RepeatsBegun is_directive OneDirective Never)

pub method_opens : (d : ℕ) (ks q : List Terminal) → MethodBegun d ks q → Opens (IsNot is_directive) WholeMethod d ks q
method_opens d ks q (in_first x) = opens_with (λ p. []) (λ p z c. tt) (λ i h p ls z s c f. (record { heading = h; directives = [] }, method_of_parts (then_ f (no_more c)))) x
method_opens d ks q (in_second h x) = absurd (no_list x)

abbrev pub PropertyBegun : Shown
PropertyBegun = ThenBegun (ThenBegun (ThenBegun (ThenBegun Never (Stands mark.Property) Never) NamedProperty Never) (Then NamedProperty (Stands mark.Colon)) (Alive SomeDenoter)) TypedProperty (ThenBegun Never SomeAccessors Never)

pub property_opens : (d : ℕ) (ks q : List Terminal) → PropertyBegun d ks q → Opens Anything IsProperty d ks q
property_opens d ks q (in_first (in_first (in_first (in_first x)))) = absurd x
property_opens d ks q (in_first (in_first (in_first (in_second a x)))) = absurd x
property_opens d ks q (in_first (in_first (in_second a x))) = absurd x
property_opens d ks q (in_first (in_second a x)) = opens_with {P = TypedProperty} {C = StopsDenoter} (λ p. kind.Semicolon at p ∷ []) (λ p z c. record { operator = refl; selector = refl; range = refl }) (λ i y p ls z s c f. back i y p ls z f) (opens_second (known_then (known_then (known_stands mark.Property) known_name) (known_stands mark.Colon)) a (opens fits_denoter x))
  where
    back : (i : ℕ) (y : Both (Both (Both (Unit {0}) Name) (Unit {0})) Denoter) (p : Position) (ls z : List Terminal) → TypedProperty (suc i) y ls (kind.Semicolon at p ∷ z) → (a : Property) × IsProperty (suc i) a ls z
    back i (both (both (both u n) v) t) p ls z f = (record { name = n; denoter = t; read = None; write = None }, property_of_parts (then_ f (then_ (then_ (refl, refl) (refl, refl)) stands)))
property_opens d ks q (in_second a (in_first x)) = absurd x
property_opens d ks q (in_second a (in_second b x)) = absurd x

-- ---- constants, types and variables

abbrev pub ConstantBegun : Shown
ConstantBegun = ThenBegun Never SomeName (ThenBegun (BehindBegun mark.Colon (Alive SomeDenoter)) (Behind mark.Colon SomeDenoter) (ThenBegun Never (Stands mark.Equal) (ThenBegun (Alive SomeInitial) SomeInitial Never)))

a_value : (i : ℕ) (p : Position) (r : List Terminal) → Stops r → SomeInitial (suc i) (value (a_name p)) (kind.Identifier [] at p ∷ r) r
a_value i p r c = (is_value (name_alone i p r), c)

constant_opens : (d : ℕ) (ks q : List Terminal) → ConstantBegun d ks q → Opens Anything IsConstant d ks q
constant_opens d ks q x = opens_map {P = ConstantParts} (λ i y ls r s f. back i y ls r f) (parts x)
  where
    back : (i : ℕ) (y : Both Name (Both (Option Denoter) (Both (Unit {0}) (Both Initial (Unit {0}))))) (ls r : List Terminal) → ConstantParts i y ls r → (c : Constant) × IsConstant i c ls r
    back i (both n (both t (both u (both v w)))) ls r f = (record { name = n; denoter = t; value = v }, constant_of_parts f)

    parts : ConstantBegun d ks q → Opens Anything ConstantParts d ks q
    parts (in_first x) = absurd x
    parts (in_second n (in_first x)) = opens_second known_name n (opens_with (λ p. kind.Equal at p ∷ kind.Identifier [] at p ∷ kind.Semicolon at p ∷ []) (λ p z c. record { operator = refl; selector = refl; range = refl }) (λ i t p ls z s c f. (both t (both tt (both (value (a_name p)) tt)), then_ f (then_ stands (then_ (a_value i p (kind.Semicolon at p ∷ z) (refl, refl)) stands)))) (type_opens x))
    parts (in_second n (in_second t (in_first x))) = absurd x
    parts (in_second n (in_second t (in_second e (in_first x)))) = opens_second known_name n (opens_second (known_behind known_denoter) t (opens_second (known_stands mark.Equal) e (marked_behind mark.Semicolon (λ p z. (refl, refl)) (opens fits_initial x))))
    parts (in_second n (in_second t (in_second e (in_second i x)))) = absurd x

abbrev pub VariablesBegun : Shown
VariablesBegun = ThenBegun Never SomeNames (ThenBegun Never (Stands mark.Colon) (ThenBegun (Alive SomeDenoter) SomeDenoter (ThenBegun (BehindBegun mark.Equal (Alive SomeInitial)) (Behind mark.Equal SomeInitial) Never)))

variables_open : (d : ℕ) (ks q : List Terminal) → VariablesBegun d ks q → Opens Anything AreVariablesOfOneType d ks q
variables_open d ks q x = opens_map {P = VariablesParts} (λ i y ls r s f. back i y ls r f) (parts x)
  where
    back : (i : ℕ) (y : Both (List Name) (Both (Unit {0}) (Both Denoter (Both (Option Initial) (Unit {0}))))) (ls r : List Terminal) → VariablesParts i y ls r → (c : Variables) × AreVariablesOfOneType i c ls r
    back i (both ns (both u (both t (both v w)))) ls r f = (record { names = ns; denoter = t; value = v }, variables_of_parts f)

    first_value : {d : ℕ} {ks q : List Terminal} → BehindBegun mark.Equal (Alive SomeInitial) d ks q → Opens Stops (Behind mark.Equal SomeInitial) d ks q
    first_value (behind_it x) = opens_behind (λ i v ls r f. (Some v, behind_mark f)) (opens fits_initial x)

    parts : VariablesBegun d ks q → Opens Anything VariablesParts d ks q
    parts (in_first x) = absurd x
    parts (in_second n (in_first x)) = absurd x
    parts (in_second n (in_second c (in_first x))) = opens_second known_names n (opens_second (known_stands mark.Colon) c (opens_with (λ p. kind.Semicolon at p ∷ []) (λ p z c. record { operator = refl; selector = refl; range = refl }) (λ i t p ls z s c f. (both t (both None tt), then_ f (then_ (no_mark (no_mark_by mark.Equal is_equal refl refl)) stands))) (opens fits_denoter x)))
    parts (in_second n (in_second c (in_second t (in_first x)))) = opens_second known_names n (opens_second (known_stands mark.Colon) c (opens_second known_denoter t (marked_behind mark.Semicolon (λ p z. (refl, refl)) (first_value x))))
    parts (in_second n (in_second c (in_second t (in_second v x)))) = absurd x

abbrev pub DefinitionBegun : Shown
DefinitionBegun = ForkBegun mark.Class (Opens Anything (DefinitionBehind kind.Class)) (AheadBegun mark.Interface (Opens Anything InterfaceBefore) (ThenBegun (Alive SomeDenoter) SomeDenoter Never))

definition_opens : (d : ℕ) (ks q : List Terminal) → DefinitionBegun d ks q → Opens Anything DefinitionBefore d ks q
definition_opens d ks q (in_marked x) = opens_behind (λ i t ls r f. (t, class_definition (marked f))) x
definition_opens d ks q (in_unmarked n (in_ahead h x)) = opens_map (λ i t ls r s f. (t, interface_of_parts (unmarked (no_mark_same mark.Class ks ls s n) (is_ahead (has_mark_same mark.Interface ks ls s h) f)))) x
definition_opens d ks q (in_unmarked n (in_not_ahead n' (in_first x))) = opens_map {P = Then SomeDenoter (Stands mark.Semicolon)} (λ i y ls r s f. back i y ls r s f) (marked_behind mark.Semicolon (λ p z. record { operator = refl; selector = refl; range = refl }) (opens fits_denoter x))
  where
    back : (i : ℕ) (y : Both Denoter (Unit {0})) (ls r : List Terminal) → SameHead ks ls → Then SomeDenoter (Stands mark.Semicolon) i y ls r → (t : TypeDefinition) × DefinitionBefore i t ls r
    back i (both t u) ls r s f = (denotes t, denoter_of_parts (unmarked (no_mark_same mark.Class ks ls s n) (not_ahead (no_mark_same mark.Interface ks ls s n') f)))
definition_opens d ks q (in_unmarked n (in_not_ahead n' (in_second t x))) = absurd x

abbrev pub TypeBegun : Shown
TypeBegun = ThenBegun Never SomeName (ThenBegun Never (Stands mark.Equal) DefinitionBegun)

type_declaration_opens : (d : ℕ) (ks q : List Terminal) → TypeBegun d ks q → Opens Anything IsTypeDeclaration d ks q
type_declaration_opens d ks q (in_first x) = absurd x
type_declaration_opens d ks q (in_second n (in_first x)) = absurd x
type_declaration_opens d ks q (in_second n (in_second {m = m} e x)) = opens_map {P = TypeParts} (λ i y ls r s f. back i y ls r f) (opens_second known_name n (opens_second (known_stands mark.Equal) e (definition_opens d m q x)))
  where
    back : (i : ℕ) (y : Both Name (Both (Unit {0}) TypeDefinition)) (ls r : List Terminal) → TypeParts i y ls r → (t : TypeDeclaration) × IsTypeDeclaration i t ls r
    back i (both n (both u t)) ls r f = (record { name = n; definition = t }, type_of_parts f)

abbrev pub DataBegun : Shown
DataBegun = ForkBegun mark.Const_ (RepeatsBegun is_identifier IsConstant ConstantBegun) (ForkBegun mark.Var (RepeatsBegun is_identifier AreVariablesOfOneType VariablesBegun) (ThenBegun Never (Stands mark.Type_) (RepeatsBegun is_identifier IsTypeDeclaration TypeBegun)))

pub data_opens : (d : ℕ) (ks q : List Terminal) → DataBegun d ks q → Opens (IsNot is_identifier) SomeData d ks q
data_opens d ks q (in_marked x) = opens_with (λ p. []) (λ p z c. (c, tt)) (λ i a p ls z s c f. (a, f)) (opens_behind {Q = SomeData} (λ i cs ls r f. (constants cs, constants_of_parts (marked f))) (list_opens known_constant constant_opens x))
data_opens d ks q (in_unmarked n (in_marked x)) = opens_with (λ p. []) (λ p z c. (c, tt)) (λ i a p ls z s c f. (a, f)) (opens_behind {Q = SomeData} (λ i cs ls r f. (variables cs, variable_list_of_parts (unmarked (no_mark_by mark.Const_ is_const refl refl) (marked f)))) (list_opens known_variables variables_open x))
data_opens d ks q (in_unmarked n (in_unmarked n' (in_first x))) = absurd x
data_opens d ks q (in_unmarked n (in_unmarked n' (in_second stands x))) = opens_with (λ p. []) (λ p z c. (c, tt)) (λ i a p ls z s c f. (a, f)) (opens_behind {Q = SomeData} (λ i cs ls r f. (types cs, types_of_parts (unmarked (no_mark_by mark.Const_ is_const refl refl) (unmarked (no_mark_by mark.Var is_var refl refl) (then_ stands f))))) (list_opens known_type type_declaration_opens x))

-- ---- declarations of an interface part

abbrev pub DeclarationBegun : Shown
DeclarationBegun = ChoiceBegun begins_data (Opens (IsNot is_identifier) SomeData) MethodBegun

-- what belongs to no declaration
abbrev pub EndsDeclaration : List Terminal → Type 0
EndsDeclaration x = IsNot is_identifier x × IsNot is_directive x

pub declaration_opens : (d : ℕ) (ks q : List Terminal) → DeclarationBegun d ks q → Opens EndsDeclaration InterfaceDeclaration d ks q
declaration_opens d ks q (in_chosen b x) = opens_with (λ p. []) (λ p z c. c.0) (λ i e p ls z s c f. (e, data_of_parts (chosen (same_begins begins_data ks ls s b) f))) x
declaration_opens d ks q (in_other n x) = opens_with (λ p. []) (λ p z c. c.1) (λ i a p ls z s c f. (heading a, heading_declaration (otherwise (same_not begins_data ks ls s n) f))) (method_opens d ks q x)

-- ---- declarations of a block

-- the least block
abbrev pub block_behind : Position → List Terminal
block_behind p = kind.Begin at p ∷ kind.End at p ∷ kind.Semicolon at p ∷ []

routine_back : (i : ℕ) (y : Both Method Body) (ls r : List Terminal) → Then WholeMethod BodyBefore i y ls r → (e : Declaration) × BlockDeclaration (suc i) e ls r
routine_back i (both a b) ls r (then_ f g) = (routine a.heading a.directives b, block_routine (routine_of f g))

pub empty_block : (i : ℕ) (p : Position) (z : List Terminal) → BodyBefore i (body no_declarations (statements empty no_statements)) (kind.Begin at p ∷ kind.End at p ∷ kind.Semicolon at p ∷ z) z
empty_block i p z = (p, is_body are_no_declarations (is_begin_end (are_one_statement is_empty)))

abbrev pub BlockDeclarationBegun : Shown
BlockDeclarationBegun = ChoiceBegun begins_data (Opens (IsNot is_identifier) SomeData) (DeeperBegun (ThenBegun MethodBegun WholeMethod (Opens Anything BodyBefore)))

-- a routine is too deep: its heading begins one
routine_kind : (k : TokenKind) (p : Position) (r : List Terminal) → begins_heading k ≡ true → Opens (IsNot is_identifier) BlockDeclaration 0 (k at p ∷ r) (k at p ∷ r)
routine_kind k p r b = by (sort_of k b)
  where
    sort_of : (k : TokenKind) → begins_heading k ≡ true → (sort : RoutineKind) × (routine_kind_of k ≡ Some sort)
    sort_of kind.Procedure b = (routines.Procedure, refl)
    sort_of kind.Function b = (routines.Function, refl)
    sort_of kind.Constructor b = (routines.Constructor, refl)
    sort_of kind.Destructor b = (routines.Destructor, refl)
    sort_of other b = false_true b

    by : (sort : RoutineKind) × (routine_kind_of k ≡ Some sort) → Opens (IsNot is_identifier) BlockDeclaration 0 (k at p ∷ r) (k at p ∷ r)
    by (sort, e) = opens_here 1 (k at p) (kind.Identifier [] at p ∷ kind.Semicolon at p ∷ block_behind p) (omega arith) (λ x c. routine_back 0 (both (record { heading = record { kind = sort; class = None; name = name [] p; parameters = []; result = None }; directives = [] }) (body no_declarations (statements empty no_statements))) (k at p ∷ kind.Identifier [] at p ∷ kind.Semicolon at p ∷ kind.Begin at p ∷ kind.End at p ∷ kind.Semicolon at p ∷ x) x (then_ (is_method (is_heading {sort = sort} e (is_of_no_class is_name) has_no_brackets has_no_type) are_no_directives, refl) (empty_block 0 p x)))

pub block_declaration_opens : (d : ℕ) (ks q : List Terminal) → Begins begins_declaration ks → BlockDeclarationBegun d ks q → Opens (IsNot is_identifier) BlockDeclaration d ks q
block_declaration_opens d ks q b (in_chosen h x) = opens_with (λ p. []) (λ p z c. c) (λ i e p ls z s c f. (e, block_data f)) x
block_declaration_opens d [] q b (in_other n no_room) = absurd b
block_declaration_opens d (t ∷ ks) q b (in_other n no_room) = routine_kind t.kind t.position ks (or_second (begins_data t.kind) (begins_heading t.kind) b n)
  where
    or_second : (a b : Bool) → a || b ≡ true → a ≡ false → b ≡ true
    or_second true b h g = false_true (sym g)
    or_second false b h g = h
block_declaration_opens d ks q b (in_other n (in_deeper (in_first x))) = opens_deeper {P = Then WholeMethod BodyBefore} routine_back (opens_with block_behind (λ p z c. refl) (λ i a p ls z s c f. (both a (body no_declarations (statements empty no_statements)), then_ f (empty_block (suc i) p z))) (method_opens _ ks q x))
block_declaration_opens d ks q b (in_other n (in_deeper (in_second m x))) = opens_deeper {P = Then WholeMethod BodyBefore} routine_back (opens_with (λ p. []) (λ p z c. tt) (λ i a p ls z s c f. (a, f)) (opens_second known_method m x))

abbrev declarations_from : List Declaration → Declarations
declarations_from [] = no_declarations
declarations_from (e ∷ es) = declarations e (declarations_from es)

listed_from : (es : List Declaration) → listed (declarations_from es) ≡ es
listed_from [] = refl
listed_from (e ∷ es) = ap (λ z. e ∷ z) (listed_from es)

-- all of them
pub block_opens : {d : ℕ} {ks q : List Terminal} → RepeatsBegun begins_declaration BlockDeclaration (Opens (IsNot is_identifier) BlockDeclaration) d ks q → Opens EndsBlockDeclarations (AllOf BlockDeclaration) d ks q
block_opens {ks = ks} x = opens_map {P = Several begins_declaration BlockDeclaration} (λ i es ls r s f. (declarations_from es, subst (λ z. Repeats begins_declaration BlockDeclaration i z ls r) (sym (listed_from es)) f.1)) (list_opens known_block_declaration (λ d ks q x. x) x)

-- ---- blocks

abbrev pub BlockBegun : Shown
BlockBegun = ThenBegun Never (Stands mark.Begin) (ThenBegun (Alive SomeStatements) SomeStatements Never)

last_opens : {d : ℕ} {ks q : List Terminal} → ThenBegun (Alive SomeStatements) SomeStatements Never d ks q → Opens Anything Last d ks q
last_opens (in_first x) = marked_behind mark.End (λ p z. (refl, refl, refl)) (opens fits_statements x)
last_opens (in_second s x) = absurd x

block_parts_open : {d : ℕ} {ks q : List Terminal} → BlockBegun d ks q → Opens Anything BlockParts d ks q
block_parts_open (in_first x) = absurd x
block_parts_open (in_second b x) = opens_second (known_stands mark.Begin) b (last_opens x)

pub block_before_opens : (d : ℕ) (ks q : List Terminal) → ThenBegun BlockBegun BlockParts Never d ks q → Opens Anything (Then BlockParts (Stands mark.Semicolon)) d ks q
block_before_opens d ks q (in_first x) = marked_behind mark.Semicolon (λ p z. tt) (block_parts_open x)
block_before_opens d ks q (in_second b x) = absurd x

-- ---- classes

abbrev pub ClassBegun : Shown
ClassBegun = ThenBegun (ChoiceBegun is_open (Alive SomeBracketedNames) Never) (Choice is_open SomeBracketedNames Nothing) (ForkBegun mark.Semicolon Never (Opens Anything SectionsBefore))

brackets_begin : {d : ℕ} {ns : List Name} {ks r : List Terminal} → SomeBracketedNames d ns ks r → Begins is_open ks
brackets_begin (are_bracketed_names f) = refl

pub class_opens : (d : ℕ) (ks q : List Terminal) → ClassBegun d ks q → Opens Anything (DefinitionBehind kind.Class) d ks q
class_opens d ks q (in_first (in_chosen b x)) = opens_with (λ p. kind.Semicolon at p ∷ []) (λ p z c. tt) (λ i ns p ls z s c f. (class (record { ancestors = ns; sections = [] }), list_of_parts (then_ (chosen (brackets_begin f) f) (marked nothing)))) (opens fits_brackets x)
class_opens d ks q (in_first (in_other n x)) = absurd x
class_opens d ks q (in_second c (in_marked x)) = absurd x
class_opens d ks q (in_second c (in_unmarked {ks = m} n x)) = opens_map {P = ClassParts} (λ i y ls r s f. back i y ls r f) (opens_second (known_choice known_bracketed_names known_nothing) c (opens_map (λ i ss ls r s f. (that ss, unmarked (no_mark_same mark.Semicolon m ls s n) f)) x))
  where
    back : (i : ℕ) (y : Both (Or (List Name) (Unit {0})) (Or (Unit {0}) (List Section))) (ls r : List Terminal) → ClassParts i y ls r → (t : TypeDefinition) × DefinitionBehind kind.Class i t ls r
    back i (both (this ns) (this u)) ls r f = (class (record { ancestors = ns; sections = [] }), list_of_parts f)
    back i (both (this ns) (that ss)) ls r f = (class (record { ancestors = ns; sections = ss }), class_of_parts f)
    back i (both (that u) (this v)) ls r f = (forward_class, forward_of_parts f)
    back i (both (that u) (that ss)) ls r f = (class (record { ancestors = []; sections = ss }), body_of_parts f)

-- ---- interfaces

abbrev pub AncestorBegun : Shown
AncestorBegun = AheadBegun mark.OpenParenthesis (DeeperBegun (ThenBegun Never (Stands mark.OpenParenthesis) (ThenBegun Never SomeName Never))) Never

abbrev pub IdentifierBegun : Shown
IdentifierBegun = AheadBegun mark.OpenBracket (DeeperBegun (ThenBegun Never (Stands mark.OpenBracket) (ThenBegun Never IsLiteral Never))) Never

abbrev pub HeadBegun : Shown
HeadBegun = ThenBegun Never (Stands mark.Interface) (ThenBegun AncestorBegun AncestorParts IdentifierBegun)

ancestor_opens : {d : ℕ} {ks q : List Terminal} → AncestorBegun d ks q → Opens Anything AncestorParts d ks q
ancestor_opens (in_ahead (mark_ahead {p = p}) no_room) = opens_here 1 (kind.OpenParenthesis at p) (kind.Identifier [] at p ∷ kind.CloseParenthesis at p ∷ []) (omega arith) (λ x c. (this (both tt (both (name [] p) tt)), is_ahead mark_ahead (deeper (then_ stands (then_ is_name stands)))))
ancestor_opens (in_ahead h (in_deeper (in_first x))) = absurd x
ancestor_opens (in_ahead h (in_deeper (in_second o (in_first x)))) = absurd x
ancestor_opens (in_ahead h (in_deeper (in_second o (in_second n x)))) = absurd x
ancestor_opens (in_not_ahead n x) = absurd x

identifier_opens : {d : ℕ} {ks q : List Terminal} → IdentifierBegun d ks q → Opens Anything IdentifierParts d ks q
identifier_opens (in_ahead (mark_ahead {p = p}) no_room) = opens_here 1 (kind.OpenBracket at p) (kind.CharacterString [] at p ∷ kind.CloseBracket at p ∷ []) (omega arith) (λ x c. (this (both tt (both [] tt)), is_ahead mark_ahead (deeper (then_ stands (then_ literal stands)))))
identifier_opens (in_ahead h (in_deeper (in_first x))) = absurd x
identifier_opens (in_ahead h (in_deeper (in_second o (in_first x)))) = absurd x
identifier_opens (in_ahead h (in_deeper (in_second o (in_second n x)))) = absurd x
identifier_opens (in_not_ahead n x) = absurd x

known_ancestor : Known AncestorParts
known_ancestor = known_ahead (known_deeper (known_then (known_stands mark.OpenParenthesis) (known_then known_name (known_stands mark.CloseParenthesis)))) known_nothing

head_opens : {d : ℕ} {ks q : List Terminal} → HeadBegun d ks q → Opens (NoMark mark.OpenBracket) SomeInterfaceHead d ks q
head_opens {d = d} {ks = ks} {q = q} x = opens_map {P = HeadParts} (λ i y ls r s f. back i y ls r f) (parts x)
  where
    back : (i : ℕ) (y : Both (Unit {0}) (Both (Or (Both (Unit {0}) (Both Name (Unit {0}))) (Unit {0})) (Or (Both (Unit {0}) (Both (List ℕ) (Unit {0}))) (Unit {0})))) (ls r : List Terminal) → HeadParts i y ls r → (h : Both (Option Name) (Option (List ℕ))) × SomeInterfaceHead i h ls r
    back i (both u (both (this (both v (both n w))) (this (both a (both text b))))) ls r f = (both (Some n) (Some text), head_of_both f)
    back i (both u (both (this (both v (both n w))) (that b))) ls r f = (both (Some n) None, head_of_name f)
    back i (both u (both (that v) (this (both a (both text b))))) ls r f = (both None (Some text), head_of_text f)
    back i (both u (both (that v) (that b))) ls r f = (both None None, head_of_none f)

    parts : HeadBegun d ks q → Opens (NoMark mark.OpenBracket) HeadParts d ks q
    parts (in_first x) = absurd x
    parts (in_second w (in_first x)) = opens_second (known_stands mark.Interface) w (opens_with (λ p. []) (λ p z c. tt) (λ i a p ls z s c f. (both a (that tt), then_ f (not_ahead c nothing))) (ancestor_opens x))
    parts (in_second w (in_second a x)) = opens_with (λ p. []) (λ p z c. tt) (λ i a p ls z s c f. (a, f)) (opens_second (known_stands mark.Interface) w (opens_second known_ancestor a (identifier_opens x)))

abbrev pub InterfaceBegun : Shown
InterfaceBegun = ThenBegun HeadBegun SomeInterfaceHead (ForkBegun mark.Semicolon Never (ThenBegun (RepeatsBegun begins_heading WholeMethod MethodBegun) (Repeats begins_heading WholeMethod) (ThenBegun Never (Stands mark.End) Never)))

pub interface_opens : (d : ℕ) (ks q : List Terminal) → InterfaceBegun d ks q → Opens Anything InterfaceBefore d ks q
interface_opens d ks q (in_first x) = opens_with (λ p. kind.Semicolon at p ∷ []) (λ p z c. no_mark_by mark.OpenBracket is_bracket refl refl) (λ i h p ls z s c f. ends i h p ls z f) (head_opens x)
  where
    ends : (i : ℕ) (h : Both (Option Name) (Option (List ℕ))) (p : Position) (ls z : List Terminal) → SomeInterfaceHead (suc i) h ls (kind.Semicolon at p ∷ z) → (t : TypeDefinition) × InterfaceBefore (suc i) t ls z
    ends i (both n text) p ls z f = (bodiless n text, ends_of_parts n (then_ f (marked nothing)))
interface_opens d ks q (in_second h (in_marked x)) = absurd x
interface_opens d ks q (in_second h (in_unmarked {ks = m} none (in_first x))) = opens_map {P = InterfaceParts} (λ i y ls r s f. back i y ls r f) (opens_second known_head h (opens_with (λ p. kind.End at p ∷ kind.Semicolon at p ∷ []) (λ p z c. (refl, refl)) (λ i as_ p ls z s c f. (that (both as_ (both tt tt)), unmarked (no_mark_same mark.Semicolon m ls s none) (then_ f.1 (then_ stands stands)))) (list_opens known_method method_opens x)))
  where
    back : (i : ℕ) (y : Both (Both (Option Name) (Option (List ℕ))) (Or (Unit {0}) (Both (List Method) (Both (Unit {0}) (Unit {0}))))) (ls r : List Terminal) → InterfaceParts i y ls r → (t : TypeDefinition) × InterfaceBefore i t ls r
    back i (both (both n text) (this u)) ls r f = (bodiless n text, ends_of_parts n f)
    back i (both (both n text) (that (both as_ (both u v)))) ls r f = (interface (record { ancestor = n; identifier = text; methods = as_ }), methods_of_parts n f)
interface_opens d ks q (in_second h (in_unmarked none (in_second as_ (in_first x)))) = absurd x
interface_opens d ks q (in_second h (in_unmarked none (in_second as_ (in_second e x)))) = absurd x

-- ---- files

abbrev pub UsesBegun : Shown
UsesBegun = BehindBegun mark.Uses (ThenBegun Never SomeNames Never)

uses_flat : {d : ℕ} {ks q : List Terminal} → UsesBegun d ks q → ⊥
uses_flat (behind_it (in_first x)) = x
uses_flat (behind_it (in_second n x)) = x

known_uses : Known SomeUses
known_uses = known_as made_uses (known_behind (known_then known_names (known_stands mark.Semicolon)))

known_program_heading : Known SomeProgramHeading
known_program_heading = known_as made_program_heading (known_behind (known_then known_name (known_then (known_choice known_bracketed_names known_nothing) (known_stands mark.Semicolon))))

abbrev is_uses : TokenKind → Bool
is_uses kind.Uses = true
is_uses other = false

abbrev is_end : TokenKind → Bool
is_end kind.End = true
is_end other = false

abbrev is_finalization : TokenKind → Bool
is_finalization kind.Finalization = true
is_finalization other = false

abbrev pub UnitFront : Phrase (Both (Both Position (Unit {0})) (Both Name (Both (Unit {0}) (Unit {0}))))
UnitFront = Then (Then StandsHere (Stands mark.Unit)) (Then SomeName (Then (Stands mark.Semicolon) (Stands mark.Interface)))

abbrev pub InterfacePart : Phrase (Both (List Name) (Both (List Declaration) (Unit {0})))
InterfacePart = Then SomeUses (Then (Repeats begins_declaration InterfaceDeclaration) (Stands mark.Implementation))

abbrev pub ProgramHeadingBegun : Shown
ProgramHeadingBegun = BehindBegun mark.Program (ThenBegun Never SomeName (ThenBegun (ChoiceBegun is_open (Alive SomeBracketedNames) Never) (Choice is_open SomeBracketedNames Nothing) Never))

program_heading_opens : {d : ℕ} {ks q : List Terminal} → ProgramHeadingBegun d ks q → Opens Anything SomeProgramHeading d ks q
program_heading_opens (behind_it (in_first x)) = absurd x
program_heading_opens (behind_it (in_second n (in_first (in_chosen b x)))) = opens_behind {P = Then SomeName (Then (Choice is_open SomeBracketedNames Nothing) (Stands mark.Semicolon))} (λ i y ls r f. back i y ls r f) (opens_second known_name n (opens_with (λ p. kind.Semicolon at p ∷ []) (λ p z c. tt) (λ i ns p ls z s c f. (both (this ns) tt, then_ (chosen (brackets_begin f) f) stands)) (opens fits_brackets x)))
  where
    back : {p : Position} (i : ℕ) (y : Both Name (Both (Or (List Name) (Unit {0})) (Unit {0}))) (ls r : List Terminal) → Then SomeName (Then (Choice is_open SomeBracketedNames Nothing) (Stands mark.Semicolon)) i y ls r → (h : Option ProgramHeading) × SomeProgramHeading i h (kind.Program at p ∷ ls) r
    back i (both n (both (this ns) u)) ls r f = (Some (record { name = n; parameters = ns }), names_of_parts (behind_mark f))
    back i (both n (both (that v) u)) ls r f = (Some (record { name = n; parameters = [] }), name_of_parts (behind_mark f))
program_heading_opens (behind_it (in_second n (in_first (in_other o x)))) = absurd x
program_heading_opens (behind_it (in_second n (in_second c x))) = absurd x

abbrev pub ProgramBegun : Shown
ProgramBegun = ThenBegun Never StandsHere (ThenBegun ProgramHeadingBegun SomeProgramHeading (ThenBegun UsesBegun SomeUses (ThenBegun (Opens EndsBlockDeclarations (AllOf BlockDeclaration)) (AllOf BlockDeclaration) (ThenBegun BlockBegun BlockParts Never))))

-- the least block, and a dot
abbrev block_dot : Position → List Terminal
block_dot p = kind.Begin at p ∷ kind.End at p ∷ kind.Dot at p ∷ []

abbrev BlockDot : Phrase (Both (Both (Unit {0}) (Both Statements (Unit {0}))) (Unit {0}))
BlockDot = Then BlockParts (Stands mark.Dot)

least_block : (i : ℕ) (p : Position) (z : List Terminal) → BlockDot i (both (both tt (both (statements empty no_statements) tt)) tt) (kind.Begin at p ∷ kind.End at p ∷ kind.Dot at p ∷ z) z
least_block i p z = then_ (then_ stands (then_ (are_one_statement is_empty, (refl, refl)) stands)) stands

pub program_opens : (d : ℕ) (ks q : List Terminal) → ProgramBegun d ks q → Opens Anything SomeProgram d ks q
program_opens d ks q x = opens_map {P = ProgramParts} (λ i y ls r s f. back i y ls r f) (parts x)
  where
    back : (i : ℕ) (y : Both Position (Both (Option ProgramHeading) (Both (List Name) (Both Declarations (Both (Both (Unit {0}) (Both Statements (Unit {0}))) (Unit {0})))))) (ls r : List Terminal) → ProgramParts i y ls r → (g : Program) × SomeProgram i g ls r
    back i (both p (both h (both ns (both ds (both (both u (both ss v)) w))))) ls r f = (record { position = p; heading = h; uses = ns; declarations = ds; statements = ss }, program_of_parts f)

    parts : ProgramBegun d ks q → Opens Anything ProgramParts d ks q
    parts (in_first x) = absurd x
    parts (in_second h (in_first x)) = opens_second known_here h (opens_with block_dot (λ p z c. tt) (λ i a p ls z s c f. (both a (both [] (both no_declarations (both (both tt (both (statements empty no_statements) tt)) tt))), then_ f (then_ (no_uses (no_mark_by mark.Uses is_uses refl refl)) (then_ (no_more refl) (least_block (suc i) p z))))) (program_heading_opens x))
    parts (in_second h (in_second a (in_first x))) = absurd (uses_flat x)
    parts (in_second h (in_second a (in_second u (in_first x)))) = opens_second known_here h (opens_second known_program_heading a (opens_second known_uses u (opens_with block_dot (λ p z c. (refl, refl)) (λ i es p ls z s c f. (both es (both (both tt (both (statements empty no_statements) tt)) tt), then_ f (least_block (suc i) p z))) x)))
    parts (in_second h (in_second a (in_second u (in_second ds (in_first x))))) = opens_second known_here h (opens_second known_program_heading a (opens_second known_uses u (opens_second known_declarations ds (marked_behind mark.Dot (λ p z. tt) (block_parts_open x)))))
    parts (in_second h (in_second a (in_second u (in_second ds (in_second b x))))) = absurd x

abbrev pub TailBegun : Shown
TailBegun = ForkBegun mark.End Never (ForkBegun mark.Finalization (ThenBegun (Alive SomeStatements) SomeStatements Never) (ForkBegun mark.Initialization (ThenBegun (Alive SomeStatements) SomeStatements (ForkBegun mark.Finalization (ThenBegun (Alive SomeStatements) SomeStatements Never) Never)) BlockBegun))

tail_back : (i : ℕ) (y : Or (Unit {0}) (Or (Both Statements (Unit {0})) (Or (Both Statements (Or (Both Statements (Unit {0})) (Unit {0}))) (Both (Unit {0}) (Both Statements (Unit {0})))))) (ls r : List Terminal) → TailParts i y ls r → (t : Tail) × IsTail i t ls r
tail_back i (this u) ls r f = (record { initialization = None; finalization = None }, end_of_parts f)
tail_back i (that (this (both ss u))) ls r f = (record { initialization = None; finalization = Some ss }, finalization_of_parts f)
tail_back i (that (that (this (both ss (this (both ts u)))))) ls r f = (record { initialization = Some ss; finalization = Some ts }, both_of_parts f)
tail_back i (that (that (this (both ss (that u))))) ls r f = (record { initialization = Some ss; finalization = None }, initialization_of_parts f)
tail_back i (that (that (that (both u (both ss v))))) ls r f = (record { initialization = Some ss; finalization = None }, block_of_parts f)

abbrev InitialTail : Phrase (Both Statements (Or (Both Statements (Unit {0})) (Unit {0})))
InitialTail = Then SomeStatements (Fork mark.Finalization Last (Stands mark.End))

tail_opens : (d : ℕ) (ks q : List Terminal) → TailBegun d ks q → Opens Anything IsTail d ks q
tail_opens d ks q x = opens_map {P = TailParts} (λ i y ls r s f. tail_back i y ls r f) (parts ks x)
  where
    parts : (ks : List Terminal) → TailBegun d ks q → Opens Anything TailParts d ks q
    parts ks (in_marked x) = absurd x
    parts ks (in_unmarked n (in_marked x)) = opens_behind {P = Last} (λ i y ls r f. (that (this y), unmarked (no_mark_by mark.End is_end refl refl) (marked f))) (last_opens x)
    parts ks (in_unmarked n (in_unmarked n' (in_marked (in_first x)))) = opens_behind {P = InitialTail} (λ i y ls r f. (that (that (this y)), unmarked (no_mark_by mark.End is_end refl refl) (unmarked (no_mark_by mark.Finalization is_finalization refl refl) (marked f)))) (opens_with (λ p. kind.End at p ∷ []) (λ p z c. (refl, refl, refl)) (λ i ss p ls z s c f. (both ss (that tt), then_ f (unmarked (no_mark_by mark.Finalization is_finalization refl refl) stands))) (opens fits_statements x))
    parts ks (in_unmarked n (in_unmarked n' (in_marked (in_second s (in_marked x))))) = opens_behind {P = InitialTail} (λ i y ls r f. (that (that (this y)), unmarked (no_mark_by mark.End is_end refl refl) (unmarked (no_mark_by mark.Finalization is_finalization refl refl) (marked f)))) (opens_second known_statements s (opens_behind (λ i y ls r f. (this y, marked f)) (last_opens x)))
    parts ks (in_unmarked n (in_unmarked n' (in_marked (in_second s (in_unmarked m x))))) = absurd x
    parts ks (in_unmarked n (in_unmarked n' (in_unmarked m x))) = opens_map (λ i y ls r s f. (that (that (that y)), unmarked (no_mark_same mark.End ks ls s n) (unmarked (no_mark_same mark.Finalization ks ls s n') (unmarked (no_mark_same mark.Initialization ks ls s m) f)))) (block_parts_open x)

abbrev pub UnitBegun : Shown
UnitBegun = ThenBegun (ThenBegun (ThenBegun Never StandsHere Never) (Then StandsHere (Stands mark.Unit)) (ThenBegun Never SomeName (ThenBegun Never (Stands mark.Semicolon) Never))) UnitFront (ThenBegun (ThenBegun UsesBegun SomeUses (ThenBegun (RepeatsBegun begins_declaration InterfaceDeclaration DeclarationBegun) (Repeats begins_declaration InterfaceDeclaration) Never)) InterfacePart (ThenBegun (ThenBegun UsesBegun SomeUses (Opens EndsBlockDeclarations (AllOf BlockDeclaration))) (Then SomeUses (AllOf BlockDeclaration)) (ThenBegun TailBegun IsTail Never)))

no_front : {d : ℕ} {ks q : List Terminal} → ThenBegun (ThenBegun Never StandsHere Never) (Then StandsHere (Stands mark.Unit)) (ThenBegun Never SomeName (ThenBegun Never (Stands mark.Semicolon) Never)) d ks q → ⊥
no_front (in_first (in_first x)) = x
no_front (in_first (in_second h x)) = x
no_front (in_second a (in_first x)) = x
no_front (in_second a (in_second n (in_first x))) = x
no_front (in_second a (in_second n (in_second b x))) = x

known_front : Known UnitFront
known_front = known_then (known_then known_here (known_stands mark.Unit)) (known_then known_name (known_then (known_stands mark.Semicolon) (known_stands mark.Interface)))

known_declaration : Known InterfaceDeclaration
known_declaration = known_as made_interface_declaration (known_choice known_data known_method)

known_interface_part : Known InterfacePart
known_interface_part = known_then known_uses (known_then (known_repeats known_declaration) (known_stands mark.Implementation))

pub unit_opens : (d : ℕ) (ks q : List Terminal) → UnitBegun d ks q → Opens Anything SomeUnit d ks q
unit_opens d ks q x = opens_map {P = UnitParts} (λ i y ls r s f. back i y ls r f) (parts x)
  where
    back : (i : ℕ) (y : Both (Both (Both Position (Unit {0})) (Both Name (Both (Unit {0}) (Unit {0})))) (Both (Both (List Name) (Both (List Declaration) (Unit {0}))) (Both (Both (List Name) Declarations) (Both Tail (Unit {0}))))) (ls r : List Terminal) → UnitParts i y ls r → (g : UnitFile) × SomeUnit i g ls r
    back i (both (both (both p u) (both n (both v w))) (both (both ns (both es a)) (both (both ls' ds) (both t b)))) ls r f = (_, unit_of_parts (declarations_from es) (subst (λ z. UnitParts i (both (both (both p u) (both n (both v w))) (both (both ns (both z a)) (both (both ls' ds) (both t b)))) ls r) (sym (listed_from es)) f))

    no_tail : Tail
    no_tail = record { initialization = None; finalization = None }

    -- behind the word `implementation`, with nothing there
    least_rest : (i : ℕ) (p : Position) (z : List Terminal) → Then (Then SomeUses (AllOf BlockDeclaration)) (Then IsTail (Stands mark.Dot)) i (both (both [] no_declarations) (both no_tail tt)) (kind.End at p ∷ kind.Dot at p ∷ z) z
    least_rest i p z = then_ (then_ (no_uses (no_mark_by mark.Uses is_uses refl refl)) (no_more refl)) (then_ has_end_alone stands)

    parts : UnitBegun d ks q → Opens Anything UnitParts d ks q
    parts (in_first x) = absurd (no_front x)
    parts (in_second a (in_first (in_first x))) = absurd (uses_flat x)
    parts (in_second a (in_first (in_second u (in_first x)))) = opens_second known_front a (opens_with {P = Then SomeUses (Several begins_declaration InterfaceDeclaration)} (λ p. kind.Implementation at p ∷ kind.End at p ∷ kind.Dot at p ∷ []) (λ p z c. (refl, (refl, refl))) (λ i y p ls z s c f. after_them i y p ls z f) (opens_second known_uses u (list_opens known_declaration declaration_opens x)))
      where
        after_them : (i : ℕ) (y : Both (List Name) (List Declaration)) (p : Position) (ls z : List Terminal) → Then SomeUses (Several begins_declaration InterfaceDeclaration) (suc i) y ls (kind.Implementation at p ∷ kind.End at p ∷ kind.Dot at p ∷ z) → (b : Both (Both (List Name) (Both (List Declaration) (Unit {0}))) (Both (Both (List Name) Declarations) (Both Tail (Unit {0})))) × Then InterfacePart (Then (Then SomeUses (AllOf BlockDeclaration)) (Then IsTail (Stands mark.Dot))) (suc i) b ls z
        after_them i (both ns es) p ls z (then_ f g) = (both (both ns (both es tt)) (both (both [] no_declarations) (both no_tail tt)), then_ (then_ f (then_ g.1 stands)) (least_rest (suc i) p z))
    parts (in_second a (in_first (in_second u (in_second es x)))) = absurd x
    parts (in_second a (in_second e (in_first (in_first x)))) = absurd (uses_flat x)
    parts (in_second a (in_second e (in_first (in_second u x)))) = opens_second known_front a (opens_second known_interface_part e (opens_with {P = Then SomeUses (AllOf BlockDeclaration)} (λ p. kind.End at p ∷ kind.Dot at p ∷ []) (λ p z c. (refl, refl)) (λ i y p ls z s c f. (both y (both no_tail tt), then_ f (then_ has_end_alone stands))) (opens_second known_uses u x)))
    parts (in_second a (in_second e (in_second {m = m} b (in_first x)))) = opens_second known_front a (opens_second known_interface_part e (opens_second (known_then known_uses known_declarations) b (marked_behind mark.Dot (λ p z. tt) (tail_opens d m q x))))
    parts (in_second a (in_second e (in_second b (in_second t x)))) = absurd x

-- nothing behind a file
pub whole_alive : {A : Type 0} {P : Phrase A} {d : ℕ} {ks q : List Terminal} → Opens Anything P d ks q → Alive (Whole P) d ks q
whole_alive x = let w = x.stands [] tt in record { seen = x.seen; first = x.first; rest = x.rest; from = x.from; to = x.to; depth = x.depth; deep = x.deep; others = x.others; behind = []; part = w.0; stands = (w.1, refl) }

-- what is shown shows another
pub shows_refused : {A : Type 0} {P : Phrase A} {W V : Shown} {d : ℕ} {end : Place} {ks : List Terminal} {e : ParseError} → ((d : ℕ) (ks q : List Terminal) → W d ks q → V d ks q) → RefusesParts W P d end ks e → RefusesParts V P d end ks e
shows_refused {P = P} {W = W} {V = V} {d = d} {end = end} {ks = ks} {e = e} k h = refuses_map {W = W} {V = V} P P d end ks e (λ d' b ls r s x. (b, r, x)) (λ q x. k d ks q x) h

pub block_refused : {d : ℕ} {end : Place} {ks : List Terminal} {e : ParseError} → Begins begins_declaration ks → RefusesParts BlockDeclarationBegun DataOrRoutine d end ks e → RefusesParts (Opens (IsNot is_identifier) BlockDeclaration) BlockDeclaration d end ks e
block_refused {d = d} {end = end} {ks = ks} {e = e} b h = refuses_map {W = BlockDeclarationBegun} DataOrRoutine BlockDeclaration d end ks e (λ d' b ls r s q. let w = made_block_declaration d' b ls r q in (w.0, r, w.1)) (λ q x. block_declaration_opens d ks q b x) h

-- nothing that a property reads and writes is too deep
pub no_accessors : (d : ℕ) (ks q : List Terminal) → ThenBegun Never (SomeAccessor (codes "read")) Never d ks q → Never d ks q
no_accessors d ks q (in_first x) = x
no_accessors d ks q (in_second n x) = x
