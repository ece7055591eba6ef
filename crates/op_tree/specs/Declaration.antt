-- Declarations and whole files as values.
use Rattle.std.specs.Prelude.{ℕ, List, [], ◌∷◌, Option, map}
use Rattle.std.specs.Option.{option_map}
use Rattle.op_tree.specs.Denoter.{Denoter, denoter_of}
use Rattle.op_tree.specs.Initial.{Initial, initial_of}
use Rattle.op_tree.specs.Statement.{Statements, stmts_of}
use Rattle.op_tree.specs.declared.class.Class.{Class as RustClass}
use Rattle.op_tree.specs.declared.class.Interface.{Interface as RustInterface}
use Rattle.op_tree.specs.declared.class.Member.{Member as RustMember}
use Rattle.op_tree.specs.declared.class.Member.TheVariants as member
use Rattle.op_tree.specs.declared.class.Property.{Property as RustProperty}
use Rattle.op_tree.specs.declared.class.Section.{Section as RustSection}
use Rattle.op_tree.specs.declared.class.Visibility.{Visibility}
use Rattle.op_tree.specs.declared.declaration.Body.{Body as RustBody}
use Rattle.op_tree.specs.declared.declaration.Constant.{Constant as RustConstant}
use Rattle.op_tree.specs.declared.declaration.Body.TheVariants.{Forward, Block'}
use Rattle.op_tree.specs.declared.declaration.Body.{Row_of-Declaration, end_of-Declaration, more_of-Declaration}
use Rattle.op_tree.specs.declared.declaration.Declaration.{Declaration as RustDeclaration}
use Rattle.op_tree.specs.declared.declaration.Declaration.TheVariants.{Constants, Types, Variables as RustVariableList, Heading as RustHeadingOnly, Routine'}
use Rattle.op_tree.specs.declared.declaration.TypeDeclaration.{TypeDeclaration as RustTypeDeclaration}
use Rattle.op_tree.specs.declared.declaration.TypeDefinition.{TypeDefinition as RustTypeDefinition}
use Rattle.op_tree.specs.declared.declaration.TypeDefinition.TheVariants as definition
use Rattle.op_tree.specs.declared.declaration.Variables.{Variables as RustVariables}
use Rattle.op_tree.specs.declared.heading.Directive.{Directive}
use Rattle.op_tree.specs.declared.heading.Heading.{Heading as RustHeading}
use Rattle.op_tree.specs.declared.heading.Method.{Method as RustMethod}
use Rattle.op_tree.specs.declared.heading.Parameter.{Parameter}
use Rattle.op_tree.specs.declared.heading.RoutineKind.{RoutineKind}
use Rattle.op_tree.specs.declared.position.Name.{Name}

-- ---- headings

pub record Heading : Type 0 where
  pub kind : RoutineKind
  pub class : Option Name
  pub name : Name
  pub parameters : List Parameter
  pub result : Option Denoter

pub record Method : Type 0 where
  pub heading : Heading
  pub directives : List Directive

abbrev pub heading_of : RustHeading → Heading
heading_of h = record {
  kind = h.kind;
  class = h.class;
  name = h.name;
  parameters = h.parameters;
  result = option_map denoter_of h.result;
}

abbrev pub method_of : RustMethod → Method
method_of m = record { heading = heading_of m.heading; directives = m.directives }

-- ---- classes and interfaces

-- fields of one type
pub record FieldList : Type 0 where
  pub names : List Name
  pub denoter : Denoter

pub record Property : Type 0 where
  pub name : Name
  pub denoter : Denoter
  pub read : Option Name
  pub write : Option Name

pub data Member : Type 0 where
  fields : (fields : FieldList) → Member
  method : (method : Method) → Member
  property : (property : Property) → Member

pub record Section : Type 0 where
  pub visibility : Option Visibility
  pub members : List Member

pub record Class : Type 0 where
  pub ancestors : List Name
  pub sections : List Section

pub record Interface : Type 0 where
  pub ancestor : Option Name
  pub identifier : Option (List ℕ)
  pub methods : List Method

abbrev pub property_of : RustProperty → Property
property_of p = record { name = p.name; denoter = denoter_of p.denoter; read = p.read; write = p.write }

abbrev pub member_of : RustMember → Member
member_of (member.Fields f) = fields (record { names = f.names; denoter = denoter_of f.denoter })
member_of (member.Method m) = method (method_of m)
member_of (member.Property p) = property (property_of p)

abbrev pub section_of : RustSection → Section
section_of s = record { visibility = s.visibility; members = map member_of s.members.items }

abbrev pub class_of : RustClass → Class
class_of c = record { ancestors = c.ancestors; sections = map section_of c.sections.items }

abbrev pub interface_of : RustInterface → Interface
interface_of i = record { ancestor = i.ancestor; identifier = i.identifier; methods = map method_of i.methods.items }

-- ---- declarations

pub record Constant : Type 0 where
  pub name : Name
  pub denoter : Option Denoter
  pub value : Initial

pub record Variables : Type 0 where
  pub names : List Name
  pub denoter : Denoter
  pub value : Option Initial

pub data TypeDefinition : Type 0 where
  denotes : (denoter : Denoter) → TypeDefinition
  forward_class : TypeDefinition
  class : (class : Class) → TypeDefinition
  forward_interface : (identifier : Option (List ℕ)) → TypeDefinition
  interface : (interface : Interface) → TypeDefinition

pub record TypeDeclaration : Type 0 where
  pub name : Name
  pub definition : TypeDefinition

abbrev pub constant_of : RustConstant → Constant
constant_of c = record { name = c.name; denoter = option_map denoter_of c.denoter; value = initial_of c.value }

abbrev pub variables_of : RustVariables → Variables
variables_of v = record { names = v.names; denoter = denoter_of v.denoter; value = option_map (λ first. initial_of first.value) v.value }

abbrev pub definition_of : RustTypeDefinition → TypeDefinition
definition_of (definition.Denoter t) = denotes (denoter_of t)
definition_of definition.ForwardClass = forward_class
definition_of (definition.Class c) = class (class_of c)
definition_of (definition.ForwardInterface identifier) = forward_interface identifier
definition_of (definition.Interface i) = interface (interface_of i)

abbrev pub type_of : RustTypeDeclaration → TypeDeclaration
type_of t = record { name = t.name; definition = definition_of t.definition }

mutual
  pub data Declaration : Type 0 where
    constants : (constants : List Constant) → Declaration
    types : (types : List TypeDeclaration) → Declaration
    variables : (variables : List Variables) → Declaration
    heading : (heading : Method) → Declaration
    routine : (heading : Heading) (directives : List Directive) (body : Body) → Declaration

  pub data Declarations : Type 0 where
    no_declarations : Declarations
    declarations : (first : Declaration) (others : Declarations) → Declarations

  pub data Body : Type 0 where
    forward : Body
    body : (declarations : Declarations) (statements : Statements) → Body

abbrev mutual
  pub declaration_of : RustDeclaration → Declaration
  declaration_of (Constants cs) = constants (map constant_of cs.items)
  declaration_of (Types ts) = types (map type_of ts.items)
  declaration_of (RustVariableList vs) = variables (map variables_of vs.items)
  declaration_of (RustHeadingOnly m) = heading (method_of m)
  declaration_of (Routine' h directives b) = routine (heading_of h) directives (body_of b)

  pub declaration_row : {n : _} → Row_of-Declaration n → Declarations
  declaration_row end_of-Declaration = no_declarations
  declaration_row (more_of-Declaration d rest) = declarations (declaration_of d) (declaration_row rest)

  pub body_of : RustBody → Body
  body_of Forward = forward
  body_of (Block' _ row ss) = body (declaration_row row) (stmts_of ss.items)

-- the declarations of a list
abbrev pub declarations_of : List RustDeclaration → Declarations
declarations_of [] = no_declarations
declarations_of (d ∷ ds) = declarations (declaration_of d) (declarations_of ds)
