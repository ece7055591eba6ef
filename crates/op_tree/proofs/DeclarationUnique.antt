-- At most one list of declarations stands at the front of a list of tokens before what is none.
use Rattle.std.proofs.Common.{◌≡◌, ℕ, Bool, true, false, List, [], ◌∷◌, codes, Option, Some, None, refl, sym, ap, subst, ap₂}
use Rattle.op_base.proofs.Tests.{ap₃}
use Rattle.op_scan.specs.declared.token.TokenKind.{TokenKind}
use Rattle.op_scan.specs.declared.token.TokenKind.TheVariants as kind
use Rattle.op_tree.proofs.ClassUnique.{no_body, no_bracket, no_methods_here, semicolon_stops, unique_class, unique_identifier, unique_interface}
use Rattle.op_tree.proofs.DenoterUnique.{names_begin, structure_begins, is_structure, unique_denoter, unique_initial, unique_names}
use Rattle.op_tree.proofs.ExpressionUnique.{true_false, false_true, Begins, chain_begins, behind}
use Rattle.op_tree.proofs.HeadingUnique.{unique_heading, unique_optional_type}
use Rattle.op_tree.proofs.MethodUnique.{also, apart, begins_heading, heading_begins, method_begins, no_directive, unique_directives, unique_method, heading_no_identifier}
use Rattle.op_tree.proofs.StatementUnique.{both, differ, is_identifier, unique_block, unique_name}
use Rattle.op_tree.specs.Declaration.{Constant, Variables, TypeDefinition, denotes, class, forward_interface, interface, TypeDeclaration, Declaration, constants, types, variables, heading, routine, Declarations, declarations, Body, body}
use Rattle.op_tree.specs.DeclarationGrammar.{IsConstant, is_constant, AreConstants, is_one_constant, are_constants, IsFirstValue, has_no_first_value, has_first_value, AreVariablesOfOneType, are_variables_of_one_type, AreVariables, is_one_variables, are_variables, IsDefinition, denotes_type, is_forward_class, is_class, is_forward_interface, is_interface, IsTypeDeclaration, is_type_declaration, AreTypes, is_one_type, are_types, IsDataDeclaration, declares_constants, declares_types, declares_variables, AreInterfaceDeclarations, are_no_interface_declarations, data_in_interface, heading_in_interface, AreDeclarations, are_no_declarations, data_declared, routine_declared, IsRoutine, is_routine, IsBody, is_body, is_forward}
use Rattle.op_tree.specs.Denoter.{Denoter}
use Rattle.op_tree.specs.DenoterGrammar.{IsDenoter, is_named, is_string, is_subrange, is_enumeration, is_set, is_unpacked, is_packed, IsInitial}
use Rattle.op_tree.specs.Ends.{IsNot, EndsDeclarations, NoDirective, StopsDenoter, begins_expression, continues_declarations}
use Rattle.op_tree.specs.HeadingGrammar.{directive_of, directives, beside, AreDirectives, are_directives, IsClass, has_body_alone, has_list_alone, has_list_and_body, IsIdentifier, IsInterface, has_methods_alone, has_ancestor_alone, has_ancestor_and_methods, IsOptionalType}
use Rattle.op_tree.specs.Initial.{Initial}
use Rattle.op_tree.specs.NameGrammar.{IsName, is_name, are_bracketed_names, is_unqualified, is_qualified}
use Rattle.op_tree.specs.Statement.{Statements}
use Rattle.op_tree.specs.StatementGrammar.{IsBlock, is_begin_end}
use Rattle.op_tree.specs.Terminal.{Terminal, ◌at◌, IsWord}
use Rattle.op_tree.specs.declared.position.Name.{Name}
use Rattle.op_tree.specs.declared.position.Position.{Position}

-- ---- lists that go on with a name

pub identifier_continues : (k : TokenKind) → continues_declarations k ≡ false → is_identifier k ≡ false
identifier_continues (kind.Identifier text) h = true_false h
identifier_continues other h = refl

no_name_here : (r : List Terminal) → EndsDeclarations r → IsNot is_identifier r
no_name_here [] h = tt
no_name_here (t ∷ r) h = identifier_continues t.kind h

pub name_begins : {n : Name} {ks r : List Terminal} → IsName n ks r → Begins is_identifier ks
name_begins is_name = refl

-- ---- constants

abbrev pub constant_with : Name → Option Denoter → Initial → Constant
constant_with n t i = record { name = n; denoter = t; value = i }

unique_constant : {d d' : ℕ} {c c' : Constant} {ks r r' : List Terminal} → IsConstant d c ks r → IsConstant d' c' ks r' → (c ≡ c') × (r ≡ r')
unique_constant (is_constant n t i) (is_constant {d = y} {t = t1} {i = i1} {p = p1} {q = q1} {m1 = z} {r = w} n' t' i') =
    let u = unique_name n n' in
    let v = unique_optional_type t (subst (λ x. IsOptionalType y t1 x (kind.Equal at p1 ∷ z)) (sym u.1) t') (record { operator = refl; selector = refl; range = refl }) (record { operator = refl; selector = refl; range = refl }) refl refl in
    let b = unique_initial i (subst (λ x. IsInitial y i1 x (kind.Semicolon at q1 ∷ w)) (sym (ap behind v.1)) i') (refl, refl) (refl, refl) in
    (ap₃ constant_with u.0 v.0 b.0, ap behind b.1)

constants_begin : {d : ℕ} {cs : List Constant} {ks r : List Terminal} → AreConstants d cs ks r → Begins is_identifier ks
constants_begin (is_one_constant (is_constant n t i)) = name_begins n
constants_begin (are_constants (is_constant n t i) more) = name_begins n

unique_constants : {d d' : ℕ} {cs cs' : List Constant} {ks r r' : List Terminal} → AreConstants d cs ks r → AreConstants d' cs' ks r' → IsNot is_identifier r → IsNot is_identifier r' → (cs ≡ cs') × (r ≡ r')
unique_constants (is_one_constant c) (is_one_constant c') h h' =
    let u = unique_constant c c' in
    (ap (λ x. x ∷ []) u.0, u.1)
unique_constants (is_one_constant c) (are_constants c' more') h h' = differ is_identifier (sym (unique_constant c c').1) (constants_begin more') h
unique_constants (are_constants c more) (is_one_constant c') h h' = differ is_identifier (unique_constant c c').1 (constants_begin more) h'
unique_constants (are_constants c more) (are_constants {d = y} {cs = c1} {r = z} c' more') h h' =
    let u = unique_constant c c' in
    let v = unique_constants more (subst (λ x. AreConstants y c1 x z) (sym u.1) more') h h' in
    (ap₂ (λ x y. x ∷ y) u.0 v.0, v.1)

-- ---- variables

pub first_value_stops : {d : ℕ} {i : Option Initial} {p : Position} {ks r : List Terminal} → IsFirstValue d i ks (kind.Semicolon at p ∷ r) → StopsDenoter ks
first_value_stops has_no_first_value = semicolon_stops _ _
first_value_stops (has_first_value i) = record { operator = refl; selector = refl; range = refl }

unique_first_value : {d d' : ℕ} {i i' : Option Initial} {p p' : Position} {ks r r' : List Terminal} → IsFirstValue d i ks (kind.Semicolon at p ∷ r) → IsFirstValue d' i' ks (kind.Semicolon at p' ∷ r') → (i ≡ i') × (r ≡ r')
unique_first_value has_no_first_value has_no_first_value = (refl, refl)
unique_first_value (has_first_value i) (has_first_value i') =
    let u = unique_initial i i' (refl, refl) (refl, refl) in
    (ap Some u.0, ap behind u.1)

abbrev pub variables_with : List Name → Denoter → Option Initial → Variables
variables_with ns t i = record { names = ns; denoter = t; value = i }

unique_variables_of_one_type : {d d' : ℕ} {v v' : Variables} {ks r r' : List Terminal} → AreVariablesOfOneType d v ks r → AreVariablesOfOneType d' v' ks r' → (v ≡ v') × (r ≡ r')
unique_variables_of_one_type (are_variables_of_one_type ns t i) (are_variables_of_one_type {d = y} {t = t1} {i = i1} {q = q1} {m1 = z} {r = w} ns' t' i') =
    let u = unique_names ns ns' refl refl in
    let v = unique_denoter t (subst (λ x. IsDenoter y t1 x z) (sym (ap behind u.1)) t') (first_value_stops i) (first_value_stops i') in
    let b = unique_first_value i (subst (λ x. IsFirstValue y i1 x (kind.Semicolon at q1 ∷ w)) (sym v.1) i') in
    (ap₃ variables_with u.0 v.0 b.0, b.1)

variables_begin : {d : ℕ} {vs : List Variables} {ks r : List Terminal} → AreVariables d vs ks r → Begins is_identifier ks
variables_begin (is_one_variables (are_variables_of_one_type ns t i)) = names_begin ns
variables_begin (are_variables (are_variables_of_one_type ns t i) more) = names_begin ns

unique_variables : {d d' : ℕ} {vs vs' : List Variables} {ks r r' : List Terminal} → AreVariables d vs ks r → AreVariables d' vs' ks r' → IsNot is_identifier r → IsNot is_identifier r' → (vs ≡ vs') × (r ≡ r')
unique_variables (is_one_variables v) (is_one_variables v') h h' =
    let u = unique_variables_of_one_type v v' in
    (ap (λ x. x ∷ []) u.0, u.1)
unique_variables (is_one_variables v) (are_variables v' more') h h' = differ is_identifier (sym (unique_variables_of_one_type v v').1) (variables_begin more') h
unique_variables (are_variables v more) (is_one_variables v') h h' = differ is_identifier (unique_variables_of_one_type v v').1 (variables_begin more) h'
unique_variables (are_variables v more) (are_variables {d = y} {vs = v1} {r = z} v' more') h h' =
    let u = unique_variables_of_one_type v v' in
    let w = unique_variables more (subst (λ x. AreVariables y v1 x z) (sym u.1) more') h h' in
    (ap₂ (λ x y. x ∷ y) u.0 w.0, w.1)

-- ---- types

-- the kind begins a class or an interface
abbrev begins_object : TokenKind → Bool
begins_object kind.Class = true
begins_object kind.Interface = true
begins_object other = false

pub expression_no_object : (k : TokenKind) → begins_expression k ≡ true → begins_object k ≡ false
expression_no_object kind.Class h = false_true h
expression_no_object kind.Interface h = false_true h
expression_no_object other h = refl

pub structure_no_object : (k : TokenKind) → is_structure k ≡ true → begins_object k ≡ false
structure_no_object kind.Class h = false_true h
structure_no_object kind.Interface h = false_true h
structure_no_object other h = refl

pub denoter_no_object : {d : ℕ} {t : Denoter} {ks r : List Terminal} → IsDenoter d t ks r → IsNot begins_object ks
denoter_no_object (is_named (is_unqualified is_name)) = refl
denoter_no_object (is_named (is_qualified is_name b)) = refl
denoter_no_object is_string = refl
denoter_no_object {ks = ks} (is_subrange a b) = apart expression_no_object ks (chain_begins a)
denoter_no_object (is_enumeration ns) = refl
denoter_no_object (is_set t) = refl
denoter_no_object (is_unpacked {k = k} s) = structure_no_object k (structure_begins s)
denoter_no_object (is_packed s) = refl

class_begins : {d : ℕ} {c : _} {ks r : List Terminal} → IsClass d c ks r → Begins begins_object ks
class_begins (has_body_alone b) = refl
class_begins (has_list_alone ns) = refl
class_begins (has_list_and_body ns b) = refl

interface_begins : {d : ℕ} {i : _} {ks r : List Terminal} → IsInterface d i ks r → Begins begins_object ks
interface_begins (has_methods_alone t as_) = refl
interface_begins (has_ancestor_alone n t) = refl
interface_begins (has_ancestor_and_methods n t as_) = refl

no_forward_class : {A : Type 0} {d : ℕ} {c : _} {p q : Position} {r s : List Terminal} → IsClass d c (kind.Class at p ∷ kind.Semicolon at q ∷ r) s → A
no_forward_class (has_body_alone b) = no_body b refl
no_forward_class (has_list_alone ns) = elim ns [ ]
no_forward_class (has_list_and_body ns b) = elim ns [ ]

no_forward_interface : {A : Type 0} {d d' : ℕ} {i : _} {t : Option (List ℕ)} {p q : Position} {ks r s : List Terminal} → IsIdentifier d t ks (kind.Semicolon at q ∷ r) → IsInterface d' i (kind.Interface at p ∷ ks) s → A
no_forward_interface t (has_methods_alone t' as_) = no_methods_here as_ (unique_identifier t t' refl (no_bracket as_)).1
no_forward_interface t (has_ancestor_alone (are_bracketed_names ns) t') = elim t [ ]
no_forward_interface t (has_ancestor_and_methods (are_bracketed_names ns) t' as_) = elim t [ ]

no_class_interface : {A : Type 0} {d d' : ℕ} {c : _} {i : _} {ks r s : List Terminal} → IsClass d c ks r → IsInterface d' i ks s → A
no_class_interface (has_body_alone b) i = elim i [ ]
no_class_interface (has_list_alone ns) i = elim i [ ]
no_class_interface (has_list_and_body ns b) i = elim i [ ]

no_class_forward_interface : {A : Type 0} {d : ℕ} {c : _} {p : Position} {ks r : List Terminal} → IsClass d c (kind.Interface at p ∷ ks) r → A
no_class_forward_interface c = elim c [ ]

unique_definition : {d d' : ℕ} {t t' : TypeDefinition} {p p' : Position} {ks r r' : List Terminal} → IsDefinition d t ks (kind.Semicolon at p ∷ r) → IsDefinition d' t' ks (kind.Semicolon at p' ∷ r') → (t ≡ t') × (r ≡ r')
unique_definition (denotes_type t) (denotes_type t') =
    let u = unique_denoter t t' (semicolon_stops _ _) (semicolon_stops _ _) in
    (ap denotes u.0, ap behind u.1)
unique_definition (denotes_type t) is_forward_class = true_false (denoter_no_object t)
unique_definition {ks = ks} (denotes_type t) (is_class c) = both begins_object ks (class_begins c) (denoter_no_object t)
unique_definition (denotes_type t) (is_forward_interface i) = true_false (denoter_no_object t)
unique_definition {ks = ks} (denotes_type t) (is_interface i) = both begins_object ks (interface_begins i) (denoter_no_object t)
unique_definition is_forward_class (denotes_type t) = true_false (denoter_no_object t)
unique_definition is_forward_class is_forward_class = (refl, refl)
unique_definition is_forward_class (is_class c) = no_forward_class c
unique_definition is_forward_class (is_interface i) = elim i [ ]
unique_definition {ks = ks} (is_class c) (denotes_type t) = both begins_object ks (class_begins c) (denoter_no_object t)
unique_definition (is_class c) is_forward_class = no_forward_class c
unique_definition (is_class c) (is_class c') =
    let u = unique_class c c' in
    (ap class u.0, u.1)
unique_definition (is_class c) (is_forward_interface i) = no_class_forward_interface c
unique_definition (is_class c) (is_interface i) = no_class_interface c i
unique_definition (is_forward_interface i) (denotes_type t) = true_false (denoter_no_object t)
unique_definition (is_forward_interface i) (is_class c) = no_class_forward_interface c
unique_definition (is_forward_interface i) (is_forward_interface i') =
    let u = unique_identifier i i' refl refl in
    (ap forward_interface u.0, ap behind u.1)
unique_definition (is_forward_interface t) (is_interface i) = no_forward_interface t i
unique_definition {ks = ks} (is_interface i) (denotes_type t) = both begins_object ks (interface_begins i) (denoter_no_object t)
unique_definition (is_interface i) is_forward_class = elim i [ ]
unique_definition (is_interface i) (is_class c) = no_class_interface c i
unique_definition (is_interface i) (is_forward_interface t) = no_forward_interface t i
unique_definition (is_interface i) (is_interface i') =
    let u = unique_interface i i' in
    (ap interface u.0, u.1)

abbrev pub type_with : Name → TypeDefinition → TypeDeclaration
type_with n t = record { name = n; definition = t }

unique_type_declaration : {d d' : ℕ} {t t' : TypeDeclaration} {ks r r' : List Terminal} → IsTypeDeclaration d t ks r → IsTypeDeclaration d' t' ks r' → (t ≡ t') × (r ≡ r')
unique_type_declaration (is_type_declaration n t) (is_type_declaration {d = y} {t = t1} {q = q1} {r = w} n' t') =
    let u = unique_name n n' in
    let v = unique_definition t (subst (λ x. IsDefinition y t1 x (kind.Semicolon at q1 ∷ w)) (sym (ap behind u.1)) t') in
    (ap₂ type_with u.0 v.0, v.1)

types_begin : {d : ℕ} {ts : List TypeDeclaration} {ks r : List Terminal} → AreTypes d ts ks r → Begins is_identifier ks
types_begin (is_one_type (is_type_declaration n t)) = name_begins n
types_begin (are_types (is_type_declaration n t) more) = name_begins n

unique_types : {d d' : ℕ} {ts ts' : List TypeDeclaration} {ks r r' : List Terminal} → AreTypes d ts ks r → AreTypes d' ts' ks r' → IsNot is_identifier r → IsNot is_identifier r' → (ts ≡ ts') × (r ≡ r')
unique_types (is_one_type t) (is_one_type t') h h' =
    let u = unique_type_declaration t t' in
    (ap (λ x. x ∷ []) u.0, u.1)
unique_types (is_one_type t) (are_types t' more') h h' = differ is_identifier (sym (unique_type_declaration t t').1) (types_begin more') h
unique_types (are_types t more) (is_one_type t') h h' = differ is_identifier (unique_type_declaration t t').1 (types_begin more) h'
unique_types (are_types t more) (are_types {d = y} {ts = t1} {r = z} t' more') h h' =
    let u = unique_type_declaration t t' in
    let v = unique_types more (subst (λ x. AreTypes y t1 x z) (sym u.1) more') h h' in
    (ap₂ (λ x y. x ∷ y) u.0 v.0, v.1)

-- ---- constants, types or variables

-- the kind begins constants, types or variables
abbrev pub begins_data : TokenKind → Bool
begins_data kind.Const_ = true
begins_data kind.Type_ = true
begins_data kind.Var = true
begins_data other = false

pub data_begins : {d : ℕ} {e : Declaration} {ks r : List Terminal} → IsDataDeclaration d e ks r → Begins begins_data ks
data_begins (declares_constants cs) = refl
data_begins (declares_types ts) = refl
data_begins (declares_variables vs) = refl

data_continues : (k : TokenKind) → begins_data k ≡ true → continues_declarations k ≡ true
data_continues kind.Const_ h = refl
data_continues kind.Type_ h = refl
data_continues kind.Var h = refl
data_continues other h = false_true h

data_no_identifier : (k : TokenKind) → begins_data k ≡ true → is_identifier k ≡ false
data_no_identifier (kind.Identifier text) h = false_true h
data_no_identifier other h = refl

heading_continues : (k : TokenKind) → begins_heading k ≡ true → continues_declarations k ≡ true
heading_continues kind.Procedure h = refl
heading_continues kind.Function h = refl
heading_continues kind.Constructor h = refl
heading_continues kind.Destructor h = refl
heading_continues other h = false_true h

pub heading_no_data : (k : TokenKind) → begins_heading k ≡ true → begins_data k ≡ false
heading_no_data kind.Procedure h = refl
heading_no_data kind.Function h = refl
heading_no_data kind.Constructor h = refl
heading_no_data kind.Destructor h = refl
heading_no_data other h = false_true h

unique_data : {d d' : ℕ} {e e' : Declaration} {ks r r' : List Terminal} → IsDataDeclaration d e ks r → IsDataDeclaration d' e' ks r' → IsNot is_identifier r → IsNot is_identifier r' → (e ≡ e') × (r ≡ r')
unique_data (declares_constants cs) (declares_constants cs') h h' =
    let u = unique_constants cs cs' h h' in
    (ap constants u.0, u.1)
unique_data (declares_types ts) (declares_types ts') h h' =
    let u = unique_types ts ts' h h' in
    (ap types u.0, u.1)
unique_data (declares_variables vs) (declares_variables vs') h h' =
    let u = unique_variables vs vs' h h' in
    (ap variables u.0, u.1)

no_data_here : {A : Type 0} {d : ℕ} {e : Declaration} {ks r : List Terminal} → IsDataDeclaration d e ks r → EndsDeclarations ks → A
no_data_here {ks = ks} e h = both continues_declarations ks (also data_continues ks (data_begins e)) h

no_heading_here : {A : Type 0} (ks : List Terminal) → Begins begins_heading ks → EndsDeclarations ks → A
no_heading_here ks b h = both continues_declarations ks (also heading_continues ks b) h

no_data_heading : {A : Type 0} (ks : List Terminal) → Begins begins_data ks → Begins begins_heading ks → A
no_data_heading ks b h = both begins_data ks b (apart heading_no_data ks h)

-- ---- interface parts

interface_no_identifier : {d : ℕ} {es : Declarations} {ks r : List Terminal} → AreInterfaceDeclarations d es ks r → IsNot is_identifier r → IsNot is_identifier ks
interface_no_identifier are_no_interface_declarations h = h
interface_no_identifier {ks = ks} (data_in_interface e es) h = apart data_no_identifier ks (data_begins e)
interface_no_identifier {ks = ks} (heading_in_interface a es) h = apart heading_no_identifier ks (method_begins a)

pub unique_interface_part : {d d' : ℕ} {es es' : Declarations} {ks r r' : List Terminal} → AreInterfaceDeclarations d es ks r → AreInterfaceDeclarations d' es' ks r' → EndsDeclarations r → EndsDeclarations r' → (es ≡ es') × (r ≡ r')
unique_interface_part are_no_interface_declarations are_no_interface_declarations h h' = (refl, refl)
unique_interface_part are_no_interface_declarations (data_in_interface e es) h h' = no_data_here e h
unique_interface_part {ks = ks} are_no_interface_declarations (heading_in_interface a es) h h' = no_heading_here ks (method_begins a) h
unique_interface_part (data_in_interface e es) are_no_interface_declarations h h' = no_data_here e h'
unique_interface_part {ks = ks} (heading_in_interface a es) are_no_interface_declarations h h' = no_heading_here ks (method_begins a) h'
unique_interface_part {ks = ks} (data_in_interface e es) (heading_in_interface a es') h h' = no_data_heading ks (data_begins e) (method_begins a)
unique_interface_part {ks = ks} (heading_in_interface a es) (data_in_interface e es') h h' = no_data_heading ks (data_begins e) (method_begins a)
unique_interface_part {r = r} {r' = r'} (data_in_interface e es) (data_in_interface {d = y} {es = e1} {r = z} e' es') h h' =
    let u = unique_data e e' (interface_no_identifier es (no_name_here r h)) (interface_no_identifier es' (no_name_here r' h')) in
    let v = unique_interface_part es (subst (λ x. AreInterfaceDeclarations y e1 x z) (sym u.1) es') h h' in
    (ap₂ declarations u.0 v.0, v.1)
unique_interface_part {r = r} {r' = r'} (heading_in_interface {m = m} a es) (heading_in_interface {d = y} {es = e1} {m = m1} {r = z} a' es') h h' =
    let u = unique_method a a' (no_directive m (interface_no_identifier es (no_name_here r h))) (no_directive m1 (interface_no_identifier es' (no_name_here r' h'))) in
    let v = unique_interface_part es (subst (λ x. AreInterfaceDeclarations y e1 x z) (sym u.1) es') h h' in
    (ap₂ (λ x y. declarations (heading x) y) u.0 v.0, v.1)

-- ---- routines

pub routine_begins : {d : ℕ} {e : Declaration} {ks r : List Terminal} → IsRoutine d e ks r → Begins begins_heading ks
routine_begins (is_routine h ws b) = heading_begins h

declarations_no_identifier : {d : ℕ} {es : Declarations} {ks r : List Terminal} → AreDeclarations d es ks r → IsNot is_identifier r → IsNot is_identifier ks
declarations_no_identifier are_no_declarations h = h
declarations_no_identifier {ks = ks} (data_declared e es) h = apart data_no_identifier ks (data_begins e)
declarations_no_identifier {ks = ks} (routine_declared e es) h = apart heading_no_identifier ks (routine_begins e)

pub block_no_declaration : {d : ℕ} {ss : Statements} {ks r : List Terminal} → IsBlock d ss ks r → EndsDeclarations ks
block_no_declaration (is_begin_end ss) = refl

block_no_identifier : {d : ℕ} {ss : Statements} {ks r : List Terminal} → IsBlock d ss ks r → IsNot is_identifier ks
block_no_identifier (is_begin_end ss) = refl

forward_is_no_directive : (word : List ℕ) → IsWord (codes "forward") word → directive_of word ≡ None
unfolding directive_of
forward_is_no_directive word e = ap (λ x. beside x directives) e

none_no_some : {A B : Type 0} {o : Option A} {x : A} → o ≡ None → o ≡ Some x → B
none_no_some e f = absurd cc

forward_no_directive : {word : List ℕ} {p q : Position} {r : List Terminal} → IsWord (codes "forward") word → NoDirective (kind.Identifier word at p ∷ kind.Semicolon at q ∷ r)
forward_no_directive {word = word} e w ws z (are_directives f more) = none_no_some (forward_is_no_directive word e) f

body_no_directive : {d : ℕ} {b : Body} {p : Position} {ks r : List Terminal} → IsBody d b ks (kind.Semicolon at p ∷ r) → NoDirective ks
body_no_directive {ks = ks} (is_body es ss) = no_directive ks (declarations_no_identifier es (block_no_identifier ss))
body_no_directive (is_forward e) = forward_no_directive e

mutual
  pub unique_declarations : {d d' : ℕ} {es es' : Declarations} {ks r r' : List Terminal} → AreDeclarations d es ks r → AreDeclarations d' es' ks r' → EndsDeclarations r → EndsDeclarations r' → (es ≡ es') × (r ≡ r')
  unique_declarations are_no_declarations are_no_declarations h h' = (refl, refl)
  unique_declarations are_no_declarations (data_declared e es) h h' = no_data_here e h
  unique_declarations {ks = ks} are_no_declarations (routine_declared e es) h h' = no_heading_here ks (routine_begins e) h
  unique_declarations (data_declared e es) are_no_declarations h h' = no_data_here e h'
  unique_declarations {ks = ks} (routine_declared e es) are_no_declarations h h' = no_heading_here ks (routine_begins e) h'
  unique_declarations {ks = ks} (data_declared e es) (routine_declared a es') h h' = no_data_heading ks (data_begins e) (routine_begins a)
  unique_declarations {ks = ks} (routine_declared a es) (data_declared e es') h h' = no_data_heading ks (data_begins e) (routine_begins a)
  unique_declarations {r = r} {r' = r'} (data_declared e es) (data_declared {d = y} {es = e1} {r = z} e' es') h h' =
      let u = unique_data e e' (declarations_no_identifier es (no_name_here r h)) (declarations_no_identifier es' (no_name_here r' h')) in
      let v = unique_declarations es (subst (λ x. AreDeclarations y e1 x z) (sym u.1) es') h h' in
      (ap₂ declarations u.0 v.0, v.1)
  unique_declarations (routine_declared e es) (routine_declared {d = y} {es = e1} {r = z} e' es') h h' =
      let u = unique_routine e e' in
      let v = unique_declarations es (subst (λ x. AreDeclarations y e1 x z) (sym u.1) es') h h' in
      (ap₂ declarations u.0 v.0, v.1)

  unique_routine : {d d' : ℕ} {e e' : Declaration} {ks r r' : List Terminal} → IsRoutine d e ks r → IsRoutine d' e' ks r' → (e ≡ e') × (r ≡ r')
  unique_routine (is_routine h ws b) (is_routine {d = y} {ws = w1} {b = b1} {q = q1} {n = n1} {r = z} h' ws' b') =
      let u = unique_heading h h' in
      let v = unique_directives ws (subst (λ x. AreDirectives w1 x n1) (sym u.1) ws') (body_no_directive b) (body_no_directive b') in
      let w = unique_routine_body b (subst (λ x. IsBody y b1 x (kind.Semicolon at q1 ∷ z)) (sym v.1) b') in
      (ap₃ routine u.0 v.0 w.0, w.1)

  unique_routine_body : {d d' : ℕ} {b b' : Body} {p p' : Position} {ks r r' : List Terminal} → IsBody d b ks (kind.Semicolon at p ∷ r) → IsBody d' b' ks (kind.Semicolon at p' ∷ r') → (b ≡ b') × (r ≡ r')
  unique_routine_body {p' = q} {r' = z} (is_body es ss) (is_body {d = y} {ss = s1} es' ss') =
      let u = unique_declarations es es' (block_no_declaration ss) (block_no_declaration ss') in
      let v = unique_block ss (subst (λ x. IsBlock y s1 x (kind.Semicolon at q ∷ z)) (sym u.1) ss') in
      (ap₂ body u.0 v.0, ap behind v.1)
  unique_routine_body (is_body es ss) (is_forward e) = true_false (declarations_no_identifier es (block_no_identifier ss))
  unique_routine_body (is_forward e) (is_body es ss) = true_false (declarations_no_identifier es (block_no_identifier ss))
  unique_routine_body (is_forward e) (is_forward e') = (refl, refl)
