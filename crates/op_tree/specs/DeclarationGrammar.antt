-- The grammar of declarations. The number is the depth that is left.
use Rattle.std.specs.Prelude.{ℕ, suc, List, [], ◌∷◌, codes, Option, Some, None}
use Rattle.op_scan.specs.declared.token.TokenKind.TheVariants as kind
use Rattle.op_tree.specs.Declaration.{Heading, Method, Class, Interface, Constant, Variables, TypeDefinition, denotes, forward_class, class, forward_interface, interface, TypeDeclaration, Declaration, constants, types, variables, heading, routine, Declarations, no_declarations, declarations, Body, forward, body}
use Rattle.op_tree.specs.Denoter.{Denoter}
use Rattle.op_tree.specs.DenoterGrammar.{IsDenoter, IsInitial}
use Rattle.op_tree.specs.HeadingGrammar.{IsHeading, AreDirectives, IsMethod, IsOptionalType, IsClass, IsInterface, IsIdentifier}
use Rattle.op_tree.specs.Initial.{Initial}
use Rattle.op_tree.specs.NameGrammar.{IsName, AreNames}
use Rattle.op_tree.specs.Statement.{Statements}
use Rattle.op_tree.specs.StatementGrammar.{IsBlock}
use Rattle.op_tree.specs.Terminal.{Terminal, ◌at◌, IsWord}
use Rattle.op_tree.specs.declared.heading.Directive.{Directive}
use Rattle.op_tree.specs.declared.position.Name.{Name}
use Rattle.op_tree.specs.declared.position.Position.{Position}

-- ---- constants

-- cdef = id [":" type] "=" init ";"
pub data IsConstant : ℕ → Constant → List Terminal → List Terminal → Type 0 where
  is_constant : {d : ℕ} {n : Name} {t : Option Denoter} {i : Initial} {p q : Position} {ks m m1 r : List Terminal} → IsName n ks m → IsOptionalType d t m (kind.Equal at p ∷ m1) → IsInitial d i m1 (kind.Semicolon at q ∷ r) → IsConstant d (record { name = n; denoter = t; value = i }) ks r

-- cdef {cdef}
pub data AreConstants : ℕ → List Constant → List Terminal → List Terminal → Type 0 where
  is_one_constant : {d : ℕ} {c : Constant} {ks r : List Terminal} → IsConstant d c ks r → AreConstants d (c ∷ []) ks r
  are_constants : {d : ℕ} {c : Constant} {cs : List Constant} {ks m r : List Terminal} → IsConstant d c ks m → AreConstants d cs m r → AreConstants d (c ∷ cs) ks r

-- ---- variables

-- ["=" init]
pub data IsFirstValue : ℕ → Option Initial → List Terminal → List Terminal → Type 0 where
  has_no_first_value : {d : ℕ} {ks : List Terminal} → IsFirstValue d None ks ks
  has_first_value : {d : ℕ} {i : Initial} {p : Position} {ks r : List Terminal} → IsInitial d i ks r → IsFirstValue d (Some i) (kind.Equal at p ∷ ks) r

-- vdef = ids ":" type ["=" init] ";"
pub data AreVariablesOfOneType : ℕ → Variables → List Terminal → List Terminal → Type 0 where
  are_variables_of_one_type : {d : ℕ} {ns : List Name} {t : Denoter} {i : Option Initial} {p q : Position} {ks m m1 r : List Terminal} → AreNames ns ks (kind.Colon at p ∷ m) → IsDenoter d t m m1 → IsFirstValue d i m1 (kind.Semicolon at q ∷ r) → AreVariablesOfOneType d (record { names = ns; denoter = t; value = i }) ks r

-- vdef {vdef}
pub data AreVariables : ℕ → List Variables → List Terminal → List Terminal → Type 0 where
  is_one_variables : {d : ℕ} {v : Variables} {ks r : List Terminal} → AreVariablesOfOneType d v ks r → AreVariables d (v ∷ []) ks r
  are_variables : {d : ℕ} {v : Variables} {vs : List Variables} {ks m r : List Terminal} → AreVariablesOfOneType d v ks m → AreVariables d vs m r → AreVariables d (v ∷ vs) ks r

-- ---- types

-- type | class | iface. Without a list, a body and an "end" a class or an interface is a forward declaration.
pub data IsDefinition : ℕ → TypeDefinition → List Terminal → List Terminal → Type 0 where
  denotes_type : {d : ℕ} {t : Denoter} {ks r : List Terminal} → IsDenoter d t ks r → IsDefinition d (denotes t) ks r
  is_forward_class : {d : ℕ} {p : Position} {r : List Terminal} → IsDefinition d forward_class (kind.Class at p ∷ r) r
  is_class : {d : ℕ} {c : Class} {ks r : List Terminal} → IsClass d c ks r → IsDefinition d (class c) ks r
  is_forward_interface : {d : ℕ} {text : Option (List ℕ)} {p : Position} {ks r : List Terminal} → IsIdentifier d text ks r → IsDefinition d (forward_interface text) (kind.Interface at p ∷ ks) r
  is_interface : {d : ℕ} {i : Interface} {ks r : List Terminal} → IsInterface d i ks r → IsDefinition d (interface i) ks r

-- tdef = id "=" (type | class | iface) ";"
pub data IsTypeDeclaration : ℕ → TypeDeclaration → List Terminal → List Terminal → Type 0 where
  is_type_declaration : {d : ℕ} {n : Name} {t : TypeDefinition} {p q : Position} {ks m r : List Terminal} → IsName n ks (kind.Equal at p ∷ m) → IsDefinition d t m (kind.Semicolon at q ∷ r) → IsTypeDeclaration d (record { name = n; definition = t }) ks r

-- tdef {tdef}
pub data AreTypes : ℕ → List TypeDeclaration → List Terminal → List Terminal → Type 0 where
  is_one_type : {d : ℕ} {t : TypeDeclaration} {ks r : List Terminal} → IsTypeDeclaration d t ks r → AreTypes d (t ∷ []) ks r
  are_types : {d : ℕ} {t : TypeDeclaration} {ts : List TypeDeclaration} {ks m r : List Terminal} → IsTypeDeclaration d t ks m → AreTypes d ts m r → AreTypes d (t ∷ ts) ks r

-- ---- declarations

-- consts | types | vars
pub data IsDataDeclaration : ℕ → Declaration → List Terminal → List Terminal → Type 0 where
  declares_constants : {d : ℕ} {cs : List Constant} {p : Position} {ks r : List Terminal} → AreConstants d cs ks r → IsDataDeclaration d (constants cs) (kind.Const_ at p ∷ ks) r
  declares_types : {d : ℕ} {ts : List TypeDeclaration} {p : Position} {ks r : List Terminal} → AreTypes d ts ks r → IsDataDeclaration d (types ts) (kind.Type_ at p ∷ ks) r
  declares_variables : {d : ℕ} {vs : List Variables} {p : Position} {ks r : List Terminal} → AreVariables d vs ks r → IsDataDeclaration d (variables vs) (kind.Var at p ∷ ks) r

-- {idecl}, idecl = consts | types | vars | heading ";" {word ";"}
pub data AreInterfaceDeclarations : ℕ → Declarations → List Terminal → List Terminal → Type 0 where
  are_no_interface_declarations : {d : ℕ} {ks : List Terminal} → AreInterfaceDeclarations d no_declarations ks ks
  data_in_interface : {d : ℕ} {e : Declaration} {es : Declarations} {ks m r : List Terminal} → IsDataDeclaration d e ks m → AreInterfaceDeclarations d es m r → AreInterfaceDeclarations d (declarations e es) ks r
  heading_in_interface : {d : ℕ} {a : Method} {es : Declarations} {ks m r : List Terminal} → IsMethod d a ks m → AreInterfaceDeclarations d es m r → AreInterfaceDeclarations d (declarations (heading a) es) ks r

mutual
  -- {decl}, decl = consts | types | vars | routine
  pub data AreDeclarations : ℕ → Declarations → List Terminal → List Terminal → Type 0 where
    are_no_declarations : {d : ℕ} {ks : List Terminal} → AreDeclarations d no_declarations ks ks
    data_declared : {d : ℕ} {e : Declaration} {es : Declarations} {ks m r : List Terminal} → IsDataDeclaration d e ks m → AreDeclarations d es m r → AreDeclarations d (declarations e es) ks r
    routine_declared : {d : ℕ} {e : Declaration} {es : Declarations} {ks m r : List Terminal} → IsRoutine d e ks m → AreDeclarations d es m r → AreDeclarations d (declarations e es) ks r

  -- routine = heading ";" {word ";"} ({decl} block ";" | "forward" ";")
  pub data IsRoutine : ℕ → Declaration → List Terminal → List Terminal → Type 0 where
    is_routine : {d : ℕ} {h : Heading} {ws : List Directive} {b : Body} {p q : Position} {ks m n r : List Terminal} → IsHeading d h ks (kind.Semicolon at p ∷ m) → AreDirectives ws m n → IsBody d b n (kind.Semicolon at q ∷ r) → IsRoutine (suc d) (routine h ws b) ks r

  -- {decl} block | "forward"
  pub data IsBody : ℕ → Body → List Terminal → List Terminal → Type 0 where
    is_body : {d : ℕ} {es : Declarations} {ss : Statements} {ks m r : List Terminal} → AreDeclarations d es ks m → IsBlock d ss m r → IsBody d (body es ss) ks r
    is_forward : {d : ℕ} {word : List ℕ} {p : Position} {r : List Terminal} → IsWord (codes "forward") word → IsBody d forward (kind.Identifier word at p ∷ r) r
