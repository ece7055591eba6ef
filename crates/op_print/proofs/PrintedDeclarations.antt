-- Declarations can be printed and read again.
use Rattle.std.proofs.Common.{ℕ, List, ◌∷◌, map, Option, Some, None, refl, ap, ap₂}
use Rattle.std.specs.Option.{option_map}
use Rattle.op_base.proofs.Tests.{ap₃}
use Rattle.op_print.proofs.Printed.{here, Able, fixed, Printed, printed, again, passed, first_of_all, alone}
use Rattle.op_print.proofs.PrintedDenoters.{printed_names, printed_denoter, printed_initial}
use Rattle.op_print.proofs.PrintedHeadings.{printed_class, printed_directives, printed_heading, printed_identifier, printed_interface, printed_method, printed_type}
use Rattle.op_print.proofs.PrintedStatements.{printed_block}
use Rattle.op_print.specs.DeclarationDrafts.{begin_end_draft, body_draft, constant_draft, declaration_draft, declarations_draft, definition_draft, first_value_draft, type_declaration_draft, variables_draft}
use Rattle.op_print.specs.Page.{each, optional}
use Rattle.op_print.specs.Unplaced.{bare_position, bare_initial, bare_statements, bare_constant, bare_variables, bare_definition, bare_type, bare_declaration, bare_declarations, bare_body}
use Rattle.op_tree.proofs.DeclarationUnique.{constant_with, type_with, variables_with}
use Rattle.op_tree.specs.Declaration.{Constant, Variables, TypeDefinition, denotes, forward_class, class, forward_interface, interface, TypeDeclaration, Declaration, constants, types, variables, heading, routine, Declarations, no_declarations, declarations, Body, forward, body}
use Rattle.op_tree.specs.DeclarationGrammar.{IsConstant, is_constant, AreConstants, is_one_constant, are_constants, IsFirstValue, has_no_first_value, has_first_value, AreVariablesOfOneType, are_variables_of_one_type, AreVariables, is_one_variables, are_variables, IsDefinition, denotes_type, is_forward_class, is_class, is_forward_interface, is_interface, IsTypeDeclaration, is_type_declaration, AreTypes, is_one_type, are_types, IsDataDeclaration, declares_constants, declares_types, declares_variables, AreInterfaceDeclarations, are_no_interface_declarations, data_in_interface, heading_in_interface, AreDeclarations, are_no_declarations, data_declared, routine_declared, IsRoutine, is_routine, IsBody, is_body, is_forward}
use Rattle.op_tree.specs.Initial.{Initial}
use Rattle.op_tree.specs.NameGrammar.{is_name}
use Rattle.op_tree.specs.Statement.{Statements}
use Rattle.op_tree.specs.StatementGrammar.{IsBlock, is_begin_end}
use Rattle.op_tree.specs.Terminal.{Terminal, name}

-- ---- constants and variables

printed_constant : {d : ℕ} {c : Constant} {ks r : List Terminal} → IsConstant d c ks r → Able ks → Printed (IsConstant d) bare_constant c (constant_draft c) r
printed_constant (is_constant (is_name {text = text} {p = n}) t i) g =
    let u = printed_type t g.1 in
    let v = printed_initial i u.able.1 in
    printed (tt, (g.0, (u.words, (tt, (v.words, tt))))) v.able.1 (λ p z. let a = u.again p.1.1.0 _ in let b = v.again p.1.1.1.1.0 _ in again (constant_with (name text (here p.1.0 n)) a.part b.part) (is_constant is_name a.is b.is) (ap₂ (constant_with (name text (bare_position n))) a.same b.same))

printed_constants : {d : ℕ} {xs : List Constant} {ks r : List Terminal} → AreConstants d xs ks r → Able ks → Printed (AreConstants d) (map bare_constant) xs (each (map constant_draft xs)) r
printed_constants (is_one_constant x) g = alone (λ a ks z. is_one_constant) (printed_constant x g)
printed_constants (are_constants x xs) g =
    let u = printed_constant x g in
    first_of_all (λ x y. x ∷ y) (λ a b ks m z. are_constants) (λ a b. ap₂ (λ x y. x ∷ y)) u (printed_constants xs u.able)

printed_first_value : {d : ℕ} {i : Option Initial} {ks r : List Terminal} → IsFirstValue d i ks r → Able ks → Printed (IsFirstValue d) (option_map bare_initial) i (optional first_value_draft i) r
printed_first_value has_no_first_value g = printed tt g (λ p z. again None has_no_first_value refl)
printed_first_value (has_first_value i) g =
    let u = printed_initial i g.1 in
    printed (tt, u.words) u.able (λ p z. let a = u.again p.1 z in again (Some a.part) (has_first_value a.is) (ap Some a.same))

printed_variables_of_one_type : {d : ℕ} {v : Variables} {ks r : List Terminal} → AreVariablesOfOneType d v ks r → Able ks → Printed (AreVariablesOfOneType d) bare_variables v (variables_draft v) r
printed_variables_of_one_type (are_variables_of_one_type ns t i) g =
    let u = printed_names ns g in
    let v = printed_denoter t u.all.able.1 in
    let w = printed_first_value i v.able in
    printed (tt, (u.all.words, (tt, (v.words, (w.words, tt))))) w.able.1 (λ p z. let a = u.all.again p.1.0 _ in let b = v.again p.1.1.1.0 _ in let c = w.again p.1.1.1.1.0 _ in again (variables_with a.part b.part c.part) (are_variables_of_one_type a.is b.is c.is) (ap₃ variables_with a.same b.same c.same))

printed_variables : {d : ℕ} {xs : List Variables} {ks r : List Terminal} → AreVariables d xs ks r → Able ks → Printed (AreVariables d) (map bare_variables) xs (each (map variables_draft xs)) r
printed_variables (is_one_variables x) g = alone (λ a ks z. is_one_variables) (printed_variables_of_one_type x g)
printed_variables (are_variables x xs) g =
    let u = printed_variables_of_one_type x g in
    first_of_all (λ x y. x ∷ y) (λ a b ks m z. are_variables) (λ a b. ap₂ (λ x y. x ∷ y)) u (printed_variables xs u.able)

-- ---- types

printed_definition : {d : ℕ} {t : TypeDefinition} {ks r : List Terminal} → IsDefinition d t ks r → Able ks → Printed (IsDefinition d) bare_definition t (definition_draft t) r
printed_definition (denotes_type t) g = passed denotes (λ a ks z. denotes_type) (λ a. ap denotes) (printed_denoter t g)
printed_definition is_forward_class g = printed tt g.1 (λ p z. again forward_class is_forward_class refl)
printed_definition (is_class c) g = passed class (λ a ks z. is_class) (λ a. ap class) (printed_class c g)
printed_definition (is_forward_interface t) g =
    let u = printed_identifier t g.1 in
    printed (tt, u.words) u.able (λ p z. let a = u.again p.1 z in again (forward_interface a.part) (is_forward_interface a.is) (ap forward_interface a.same))
printed_definition (is_interface i) g = passed interface (λ a ks z. is_interface) (λ a. ap interface) (printed_interface i g)

printed_type_declaration : {d : ℕ} {t : TypeDeclaration} {ks r : List Terminal} → IsTypeDeclaration d t ks r → Able ks → Printed (IsTypeDeclaration d) bare_type t (type_declaration_draft t) r
printed_type_declaration (is_type_declaration (is_name {text = text} {p = n}) t) g =
    let u = printed_definition t g.1.1 in
    printed (tt, (g.0, (tt, (u.words, tt)))) u.able.1 (λ p z. let a = u.again p.1.1.1.0 _ in again (type_with (name text (here p.1.0 n)) a.part) (is_type_declaration is_name a.is) (ap (type_with (name text (bare_position n))) a.same))

printed_types : {d : ℕ} {xs : List TypeDeclaration} {ks r : List Terminal} → AreTypes d xs ks r → Able ks → Printed (AreTypes d) (map bare_type) xs (each (map type_declaration_draft xs)) r
printed_types (is_one_type x) g = alone (λ a ks z. is_one_type) (printed_type_declaration x g)
printed_types (are_types x xs) g =
    let u = printed_type_declaration x g in
    first_of_all (λ x y. x ∷ y) (λ a b ks m z. are_types) (λ a b. ap₂ (λ x y. x ∷ y)) u (printed_types xs u.able)

-- ---- declarations

printed_data : {d : ℕ} {e : Declaration} {ks r : List Terminal} → IsDataDeclaration d e ks r → Able ks → Printed (IsDataDeclaration d) bare_declaration e (declaration_draft e) r
printed_data (declares_constants cs) g =
    let u = printed_constants cs g.1 in
    printed (tt, (tt, (tt, (u.words, tt)))) u.able (λ p z. let a = u.again p.1.1.1.0 z in again (constants a.part) (declares_constants a.is) (ap constants a.same))
printed_data (declares_types ts) g =
    let u = printed_types ts g.1 in
    printed (tt, (tt, (tt, (u.words, tt)))) u.able (λ p z. let a = u.again p.1.1.1.0 z in again (types a.part) (declares_types a.is) (ap types a.same))
printed_data (declares_variables vs) g =
    let u = printed_variables vs g.1 in
    printed (tt, (tt, (tt, (u.words, tt)))) u.able (λ p z. let a = u.again p.1.1.1.0 z in again (variables a.part) (declares_variables a.is) (ap variables a.same))

pub printed_interface_declarations : {d : ℕ} {es : Declarations} {ks r : List Terminal} → AreInterfaceDeclarations d es ks r → Able ks → Printed (AreInterfaceDeclarations d) bare_declarations es (declarations_draft es) r
printed_interface_declarations are_no_interface_declarations g = printed tt g (λ p z. again no_declarations are_no_interface_declarations refl)
printed_interface_declarations (data_in_interface e es) g =
    let u = printed_data e g in
    first_of_all declarations (λ a b ks m z. data_in_interface) (λ a b. ap₂ declarations) u (printed_interface_declarations es u.able)
printed_interface_declarations (heading_in_interface a es) g =
    let u = printed_method a g in
    first_of_all (λ x y. declarations (heading x) y) (λ a b ks m z. heading_in_interface) (λ a b. ap₂ (λ x y. declarations (heading x) y)) u (printed_interface_declarations es u.able)

pub printed_begin_end : {d : ℕ} {ss : Statements} {ks r : List Terminal} → IsBlock d ss ks r → Able ks → Printed (IsBlock d) bare_statements ss (begin_end_draft ss) r
printed_begin_end (is_begin_end ss) g =
    let u = printed_block ss g.1 in
    printed (tt, (tt, (u.words, tt))) u.able.1 (λ p z. let a = u.again p.1.1.0 _ in again a.part (is_begin_end a.is) a.same)

mutual
  pub printed_declarations : {d : ℕ} {es : Declarations} {ks r : List Terminal} → AreDeclarations d es ks r → Able ks → Printed (AreDeclarations d) bare_declarations es (declarations_draft es) r
  printed_declarations are_no_declarations g = printed tt g (λ p z. again no_declarations are_no_declarations refl)
  printed_declarations (data_declared e es) g =
      let u = printed_data e g in
      first_of_all declarations (λ a b ks m z. data_declared) (λ a b. ap₂ declarations) u (printed_declarations es u.able)
  printed_declarations (routine_declared e es) g =
      let u = printed_routine e g in
      first_of_all declarations (λ a b ks m z. routine_declared) (λ a b. ap₂ declarations) u (printed_declarations es u.able)

  printed_routine : {d : ℕ} {e : Declaration} {ks r : List Terminal} → IsRoutine d e ks r → Able ks → Printed (IsRoutine d) bare_declaration e (declaration_draft e) r
  printed_routine (is_routine h ws b) g =
      let u = printed_heading h g in
      let v = printed_directives ws u.able.1 in
      let w = printed_body b v.able in
      printed (tt, (u.words, (tt, (v.words, (w.words, tt))))) w.able.1 (λ p z. let a = u.again p.1.0 _ in let b = v.again p.1.1.1.0 _ in let c = w.again p.1.1.1.1.0 _ in again (routine a.part b.part c.part) (is_routine a.is b.is c.is) (ap₃ routine a.same b.same c.same))

  printed_body : {d : ℕ} {b : Body} {ks r : List Terminal} → IsBody d b ks r → Able ks → Printed (IsBody d) bare_body b (body_draft b) r
  printed_body (is_body es b) g =
      let u = printed_declarations es g in
      let v = printed_begin_end b u.able in
      printed (tt, (u.words, (tt, v.words))) v.able (λ p z. let a = u.again p.1.0 _ in let b = v.again p.1.1.1 z in again (body a.part b.part) (is_body a.is b.is) (ap₂ body a.same b.same))
  printed_body (is_forward e) g = printed fixed.forward g.1 (λ p z. again forward (is_forward refl) refl)
