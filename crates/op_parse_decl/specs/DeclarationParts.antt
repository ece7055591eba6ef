-- What each production is made of.
use Rattle.std.proofs.Common.{◌≡◌, ℕ, Bool, true, false, List, [], ◌∷◌, Option, is_some, map, refl, ap, subst}
use Rattle.op_parse_code.specs.Refusal.{Phrase}
use Rattle.op_parse_code.specs.Whole.{NoMark, SomeName}
use Rattle.op_parse_code.specs.declared.mark.Mark.TheVariants as mark
use Rattle.op_parse_decl.specs.Combined.{Both, both, Stands, stands, Then, then_, Behind, no_mark, behind_mark, Repeats, no_more, one_more, Or, this, that, Fork, marked, unmarked, Several, mark_ahead, Ahead, is_ahead, not_ahead}
use Rattle.op_parse_decl.specs.Declarations.{DefinitionBefore, DefinitionBehind, OneDirective, SomeData, WholeMethod, is_directive}
use Rattle.op_parse_decl.specs.Headings.{SomeHeading}
use Rattle.op_parse_decl.specs.Interfaces.{InterfaceBefore}
use Rattle.op_parse_decl.specs.Known.{As, no_mark_by}
use Rattle.op_parse_decl.specs.Types.{SomeDenoter, SomeInitial, SomeNames}
use Rattle.op_scan.specs.declared.token.TokenKind.{TokenKind}
use Rattle.op_scan.specs.declared.token.TokenKind.TheVariants as kind
use Rattle.op_tree.proofs.DeclarationUnique.{denoter_no_object, first_value_stops}
use Rattle.op_tree.proofs.ExpressionUnique.{Begins, is_colon, is_comma}
use Rattle.op_tree.proofs.StatementUnique.{both as apart_by}
use Rattle.op_parse_code.specs.Opening.{is_identifier}
use Rattle.op_tree.specs.declared.heading.Directive.{Directive}
use Rattle.op_tree.specs.Declaration.{Constant, Variables, TypeDefinition, denotes, TypeDeclaration, constants, types, variables, Heading}
use Rattle.op_tree.specs.DeclarationGrammar.{IsConstant, is_constant, AreVariablesOfOneType, are_variables_of_one_type, IsFirstValue, has_no_first_value, has_first_value, IsTypeDeclaration, is_type_declaration, denotes_type, is_forward_class, is_class, is_forward_interface, is_interface, AreConstants, is_one_constant, are_constants, AreTypes, is_one_type, are_types, AreVariables, is_one_variables, are_variables, declares_constants, declares_types, declares_variables}
use Rattle.op_tree.specs.Denoter.{Denoter}
use Rattle.op_tree.specs.Ends.{IsNot, StopsDenoter}
use Rattle.op_tree.specs.HeadingGrammar.{IsOptionalType, has_no_type, has_type, has_body_alone, has_list_alone, has_list_and_body, has_methods_alone, has_ancestor_alone, has_ancestor_and_methods, AreDirectives, are_no_directives, are_directives, is_method}
use Rattle.op_tree.specs.Initial.{Initial}
use Rattle.op_tree.specs.NameGrammar.{is_name, are_one_name, are_names}
use Rattle.op_tree.specs.Terminal.{Terminal, ◌at◌}
use Rattle.op_tree.specs.declared.position.Name.{Name}
use Rattle.op_tree.specs.declared.position.Position.{Position}

-- ---- parts behind a mark

abbrev is_equal : TokenKind → Bool
is_equal kind.Equal = true
is_equal other = false

pub type_in : {d : ℕ} {t : Option Denoter} {ks r : List Terminal} → NoMark mark.Colon r → StopsDenoter r → IsOptionalType d t ks r → Behind mark.Colon SomeDenoter d t ks r
type_in none stops has_no_type = no_mark none
type_in none stops (has_type t) = behind_mark (t, stops)

pub type_out : {d : ℕ} {t : Option Denoter} {ks r : List Terminal} → Behind mark.Colon SomeDenoter d t ks r → IsOptionalType d t ks r
type_out (no_mark none) = has_no_type
type_out (behind_mark t) = has_type t.0

value_in : {d : ℕ} {i : Option Initial} {p : Position} {ks r : List Terminal} → IsFirstValue d i ks (kind.Semicolon at p ∷ r) → Behind mark.Equal SomeInitial d i ks (kind.Semicolon at p ∷ r)
value_in has_no_first_value = no_mark (no_mark_by mark.Equal is_equal refl refl)
value_in (has_first_value i) = behind_mark (i, (refl, refl))

value_out : {d : ℕ} {i : Option Initial} {ks r : List Terminal} → Behind mark.Equal SomeInitial d i ks r → IsFirstValue d i ks r
value_out (no_mark none) = has_no_first_value
value_out (behind_mark i) = has_first_value i.0

-- ---- constants

abbrev pub ConstantParts : Phrase (Both Name (Both (Option Denoter) (Both (Unit {0}) (Both Initial (Unit {0})))))
ConstantParts = Then SomeName (Then (Behind mark.Colon SomeDenoter) (Then (Stands mark.Equal) (Then SomeInitial (Stands mark.Semicolon))))

pub constant_of_parts : {d : ℕ} {n : Name} {t : Option Denoter} {i : Initial} {ks r : List Terminal} → ConstantParts d (both n (both t (both tt (both i tt)))) ks r → IsConstant d (record { name = n; denoter = t; value = i }) ks r
constant_of_parts (then_ n (then_ t (then_ stands (then_ i stands)))) = is_constant n (type_out t) i.0

pub made_constant : As ConstantParts IsConstant
made_constant d c ks r (is_constant {n = n} {t = t} {i = i} {p = p} {q = q} f g h) = (both n (both t (both tt (both i tt))), then_ f (then_ (type_in (no_mark_by mark.Colon is_colon refl refl) (record { operator = refl; selector = refl; range = refl }) g) (then_ stands (then_ (h, (refl, refl)) stands))), λ i ls s x. constant_of_parts x)

-- ---- variables

abbrev pub VariablesParts : Phrase (Both (List Name) (Both (Unit {0}) (Both Denoter (Both (Option Initial) (Unit {0})))))
VariablesParts = Then SomeNames (Then (Stands mark.Colon) (Then SomeDenoter (Then (Behind mark.Equal SomeInitial) (Stands mark.Semicolon))))

pub variables_of_parts : {d : ℕ} {ns : List Name} {t : Denoter} {i : Option Initial} {ks r : List Terminal} → VariablesParts d (both ns (both tt (both t (both i tt)))) ks r → AreVariablesOfOneType d (record { names = ns; denoter = t; value = i }) ks r
variables_of_parts (then_ n (then_ stands (then_ t (then_ i stands)))) = are_variables_of_one_type n.0 t.0 (value_out i)

pub made_variables : As VariablesParts AreVariablesOfOneType
made_variables d v ks r (are_variables_of_one_type {ns = ns} {t = t} {i = i} {p = p} {q = q} f g h) = (both ns (both tt (both t (both i tt))), then_ (f, no_mark_by mark.Comma is_comma refl refl) (then_ stands (then_ (g, first_value_stops h) (then_ (value_in h) stands))), λ i ls s x. variables_of_parts x)

-- ---- types

abbrev pub TypeParts : Phrase (Both Name (Both (Unit {0}) TypeDefinition))
TypeParts = Then SomeName (Then (Stands mark.Equal) DefinitionBefore)

pub type_of_parts : {d : ℕ} {n : Name} {t : TypeDefinition} {ks r : List Terminal} → TypeParts d (both n (both tt t)) ks r → IsTypeDeclaration d (record { name = n; definition = t }) ks r
type_of_parts (then_ n (then_ stands t)) = is_type_declaration n t.1

pub made_type : As TypeParts IsTypeDeclaration
made_type d c ks r (is_type_declaration {n = n} {t = t} {q = q} f g) = (both n (both tt t), then_ f (then_ stands (q, g)), λ i ls s x. type_of_parts x)

abbrev pub DefinitionParts : Phrase (Or TypeDefinition (Or TypeDefinition (Both Denoter (Unit {0}))))
DefinitionParts = Fork mark.Class (DefinitionBehind kind.Class) (Ahead mark.Interface InterfaceBefore (Then SomeDenoter (Stands mark.Semicolon)))

pub class_of_parts : {d : ℕ} {t : TypeDefinition} {ks r : List Terminal} → DefinitionParts d (this t) ks r → DefinitionBefore d t ks r
class_of_parts (marked {p = p} f) = f p

pub interface_of_parts : {d : ℕ} {t : TypeDefinition} {ks r : List Terminal} → DefinitionParts d (that (this t)) ks r → DefinitionBefore d t ks r
interface_of_parts (unmarked none (is_ahead h f)) = f.1

pub denoter_of_parts : {d : ℕ} {t : Denoter} {ks r : List Terminal} → DefinitionParts d (that (that (both t tt))) ks r → DefinitionBefore d (denotes t) ks r
denoter_of_parts (unmarked none (not_ahead none' (then_ t (stands {p = p})))) = (p, denotes_type t.0)

-- the kind begins a class or an interface
abbrev is_class_word : TokenKind → Bool
is_class_word kind.Class = true
is_class_word other = false

abbrev begins_object : TokenKind → Bool
begins_object kind.Class = true
begins_object kind.Interface = true
begins_object other = false

class_in : {d : ℕ} {t : TypeDefinition} {ks r : List Terminal} → DefinitionParts d (this t) ks r → (a : _) × DefinitionParts d a ks r × ((i : ℕ) (ls s : List Terminal) → DefinitionParts i a ls s → DefinitionBefore i t ls s)
class_in {t = t} f = (this t, f, λ i ls s x. class_of_parts x)

interface_in : {d : ℕ} {t : TypeDefinition} {p : Position} {ks r : List Terminal} → DefinitionBefore d t (kind.Interface at p ∷ ks) r → (a : _) × DefinitionParts d a (kind.Interface at p ∷ ks) r × ((i : ℕ) (ls s : List Terminal) → DefinitionParts i a ls s → DefinitionBefore i t ls s)
interface_in {t = t} f = (that (this t), unmarked (no_mark_by mark.Class is_class_word refl refl) (is_ahead mark_ahead (mark_ahead, f)), λ i ls s x. interface_of_parts x)

pub made_definition : As DefinitionParts DefinitionBefore
made_definition d t ks r (q, denotes_type {t = x} f) = (that (that (both x tt)), unmarked (no_mark_by mark.Class begins_object refl (denoter_no_object f)) (not_ahead (no_mark_by mark.Interface begins_object refl (denoter_no_object f)) (then_ (f, record { operator = refl; selector = refl; range = refl }) stands)), λ i ls s x. denoter_of_parts x)
made_definition d t ks r (q, is_forward_class) = class_in (marked (λ p. (q, is_forward_class)))
made_definition d t ks r (q, is_class (has_body_alone b)) = class_in (marked (λ p. (q, is_class (has_body_alone b))))
made_definition d t ks r (q, is_class (has_list_alone a)) = class_in (marked (λ p. (q, is_class (has_list_alone a))))
made_definition d t ks r (q, is_class (has_list_and_body a b)) = class_in (marked (λ p. (q, is_class (has_list_and_body a b))))
made_definition d t ks r (q, is_forward_interface i) = interface_in (q, is_forward_interface i)
made_definition d t ks r (q, is_interface (has_methods_alone i a)) = interface_in (q, is_interface (has_methods_alone i a))
made_definition d t ks r (q, is_interface (has_ancestor_alone n i)) = interface_in (q, is_interface (has_ancestor_alone n i))
made_definition d t ks r (q, is_interface (has_ancestor_and_methods n i a)) = interface_in (q, is_interface (has_ancestor_and_methods n i a))

-- ---- constants, types or variables in a row

constant_begins : {d : ℕ} {c : Constant} {ks r : List Terminal} → IsConstant d c ks r → Begins is_identifier ks
constant_begins (is_constant is_name g h) = refl

constants_in : {d : ℕ} {cs : List Constant} {ks r : List Terminal} → AreConstants d cs ks r → IsNot is_identifier r → Several is_identifier IsConstant d cs ks r
constants_in (is_one_constant c) n = (constant_begins c, one_more (constant_begins c) c (no_more n))
constants_in (are_constants c cs) n = (constant_begins c, one_more (constant_begins c) c (constants_in cs n).1)

type_begins : {d : ℕ} {c : TypeDeclaration} {ks r : List Terminal} → IsTypeDeclaration d c ks r → Begins is_identifier ks
type_begins (is_type_declaration is_name g) = refl

types_in : {d : ℕ} {cs : List TypeDeclaration} {ks r : List Terminal} → AreTypes d cs ks r → IsNot is_identifier r → Several is_identifier IsTypeDeclaration d cs ks r
types_in (is_one_type c) n = (type_begins c, one_more (type_begins c) c (no_more n))
types_in (are_types c cs) n = (type_begins c, one_more (type_begins c) c (types_in cs n).1)

variables_begin : {d : ℕ} {c : Variables} {ks r : List Terminal} → AreVariablesOfOneType d c ks r → Begins is_identifier ks
variables_begin (are_variables_of_one_type (are_one_name is_name) g h) = refl
variables_begin (are_variables_of_one_type (are_names is_name ns) g h) = refl

variables_in : {d : ℕ} {cs : List Variables} {ks r : List Terminal} → AreVariables d cs ks r → IsNot is_identifier r → Several is_identifier AreVariablesOfOneType d cs ks r
variables_in (is_one_variables c) n = (variables_begin c, one_more (variables_begin c) c (no_more n))
variables_in (are_variables c cs) n = (variables_begin c, one_more (variables_begin c) c (variables_in cs n).1)

-- where one of them is a list of them, and one before such a list, at least one in a row are a list
several_out : {A : Type 0} {test : TokenKind → Bool} {P : Phrase A} (Q : Phrase (List A)) → ((d : ℕ) (a : A) (ks r : List Terminal) → P d a ks r → Q d (a ∷ []) ks r) → ((d : ℕ) (a : A) (as_ : List A) (ks m r : List Terminal) → P d a ks m → Q d as_ m r → Q d (a ∷ as_) ks r) → {d : ℕ} {as_ : List A} {ks r : List Terminal} → Begins test ks → Repeats test P d as_ ks r → Q d as_ ks r × IsNot test r
several_out {test = test} Q one more {ks = ks} b (no_more n) = apart_by test ks b n
several_out Q one more b (one_more h c (no_more n)) = (one _ _ _ _ c, n)
several_out Q one more b (one_more h c (one_more h' c' rest)) = let w = several_out Q one more h' (one_more h' c' rest) in (more _ _ _ _ _ _ c w.0, w.1)

abbrev pub DataParts : Phrase (Or (List Constant) (Or (List Variables) (Both (Unit {0}) (List TypeDeclaration))))
DataParts = Fork mark.Const_ (Several is_identifier IsConstant) (Fork mark.Var (Several is_identifier AreVariablesOfOneType) (Then (Stands mark.Type_) (Several is_identifier IsTypeDeclaration)))

pub constants_of_parts : {d : ℕ} {cs : List Constant} {ks r : List Terminal} → DataParts d (this cs) ks r → SomeData d (constants cs) ks r
constants_of_parts (marked (h, cs)) = let w = several_out AreConstants (λ d a ks r f. is_one_constant f) (λ d a as_ ks m r f more. are_constants f more) h cs in (declares_constants w.0, w.1)

pub variable_list_of_parts : {d : ℕ} {cs : List Variables} {ks r : List Terminal} → DataParts d (that (this cs)) ks r → SomeData d (variables cs) ks r
variable_list_of_parts (unmarked none (marked (h, cs))) = let w = several_out AreVariables (λ d a ks r f. is_one_variables f) (λ d a as_ ks m r f more. are_variables f more) h cs in (declares_variables w.0, w.1)

pub types_of_parts : {d : ℕ} {cs : List TypeDeclaration} {ks r : List Terminal} → DataParts d (that (that (both tt cs))) ks r → SomeData d (types cs) ks r
types_of_parts (unmarked none (unmarked none' (then_ stands (h, cs)))) = let w = several_out AreTypes (λ d a ks r f. is_one_type f) (λ d a as_ ks m r f more. are_types f more) h cs in (declares_types w.0, w.1)

abbrev is_const_word : TokenKind → Bool
is_const_word kind.Const_ = true
is_const_word other = false

abbrev is_var_word : TokenKind → Bool
is_var_word kind.Var = true
is_var_word other = false

pub made_data : As DataParts SomeData
made_data d e ks r (declares_constants {cs = cs} f, n) = (this cs, marked (constants_in f n), λ i ls s x. constants_of_parts x)
made_data d e ks r (declares_variables {vs = cs} f, n) = (that (this cs), unmarked (no_mark_by mark.Const_ is_const_word refl refl) (marked (variables_in f n)), λ i ls s x. variable_list_of_parts x)
made_data d e ks r (declares_types {ts = cs} f, n) = (that (that (both tt cs)), unmarked (no_mark_by mark.Const_ is_const_word refl refl) (unmarked (no_mark_by mark.Var is_var_word refl refl) (then_ stands (types_in f n))), λ i ls s x. types_of_parts x)

-- ---- headings with their directives

abbrev pub MethodParts : Phrase (Both Heading (List Directive))
MethodParts = Then SomeHeading (Repeats is_directive OneDirective)

directives_in : {d : ℕ} {ws : List Directive} {ks r : List Terminal} → AreDirectives ws ks r → IsNot is_directive r → Repeats is_directive OneDirective d ws ks r
directives_in are_no_directives n = no_more n
directives_in (are_directives e ws) n = one_more (ap is_some e) (are_directives e are_no_directives) (directives_in ws n)

directives_out : {d : ℕ} {ws : List Directive} {ks r : List Terminal} → Repeats is_directive OneDirective d ws ks r → AreDirectives ws ks r × IsNot is_directive r
directives_out (no_more n) = (are_no_directives, n)
directives_out (one_more h (are_directives e are_no_directives) more) = let w = directives_out more in (are_directives e w.0, w.1)

pub method_of_parts : {d : ℕ} {h : Heading} {ws : List Directive} {ks r : List Terminal} → MethodParts d (both h ws) ks r → WholeMethod d (record { heading = h; directives = ws }) ks r
method_of_parts (then_ h ws) = let w = directives_out ws in (is_method h.1 w.0, w.1)

pub made_method : As MethodParts WholeMethod
made_method d a ks r (is_method {h = h} {ws = ws} {p = p} f g, n) = (both h ws, then_ (p, f) (directives_in g n), λ i ls s x. method_of_parts x)

map_same : (ws : List Directive) → map (λ w. w) ws ≡ ws
map_same [] = refl
map_same (w ∷ ws) = ap (λ z. w ∷ z) (map_same ws)

pub method_of_list : {d : ℕ} {h : Heading} (ws : List Directive) {ks r : List Terminal} → MethodParts d (both h (map (λ w. w) ws)) ks r → WholeMethod d (record { heading = h; directives = ws }) ks r
method_of_list {d = d} {h = h} ws {ks = ks} {r = r} x = method_of_parts (subst (λ z. MethodParts d (both h z) ks r) (map_same ws) x)
