-- A tree without its places: every position in it has the same place, and its own switches.
use Rattle.std.specs.Prelude.{List, map}
use Rattle.std.specs.Option.{option_map}
use Rattle.op_base.specs.declared.place.Place.{Place}
use Rattle.op_tree.specs.Declaration.{Heading, Method, FieldList, Property, Member, fields as member_fields, method, property, Section, Class, Interface, Constant, Variables, TypeDefinition, denotes, forward_class, class, forward_interface, interface, TypeDeclaration, Declaration, constants, types, variables, heading, routine, Declarations, no_declarations, declarations, Body, forward, body}
use Rattle.op_tree.specs.Denoter.{Denoter, named as named_type, string as string_type, subrange, enumeration, set as set_type, array, record_, Denoters, no_denoters, denoters, FieldLists, no_fields, fields}
use Rattle.op_tree.specs.Expression.{Expression, chain, prefixed, number, nil, set, literal, designated, inherited, Operations, no_operations, operation, Elements, no_elements, elements, Element, one, range, Designator, designator, Root, named, string, bracketed, Selectors, no_selectors, selectors, Selector, member, index, call, Expressions, no_expressions, expressions, Arguments, no_arguments, arguments, Argument, value, padded, rounded}
use Rattle.op_tree.specs.File.{File, program, unit, UnitPart, Tail}
use Rattle.op_tree.specs.Initial.{Initial, value as value_of, list, record_ as record_value, Initials, no_initials, initials, FieldInitials, no_field_initials, field_initials}
use Rattle.op_tree.specs.Statement.{Statement, empty, block, if_then, if_else, case_of, case_else, while_do, repeat_until, for_to, for_in, try_finally, try_except, try_on, try_on_else, raise, reraise, inherited as alone, inherited_call, call as call_of, assign, Statements, no_statements, statements, Branches, no_branches, branches, Handlers, no_handlers, handlers}
use Rattle.op_tree.specs.Terminal.{name}
use Rattle.op_tree.specs.declared.file.ProgramHeading.{ProgramHeading}
use Rattle.op_tree.specs.declared.heading.Parameter.{Parameter}
use Rattle.op_tree.specs.declared.heading.ParameterType.{ParameterType}
use Rattle.op_tree.specs.declared.heading.ParameterType.TheVariants as parameter_type
use Rattle.op_tree.specs.declared.position.Name.{Name}
use Rattle.op_tree.specs.declared.position.Position.{Position}
use Rattle.op_tree.specs.declared.position.QualifiedName.{QualifiedName}

abbrev pub nowhere : Place
nowhere = record { file = 0; line = 0; col = 0 }

-- a position without its place
abbrev pub bare_position : Position → Position
bare_position p = record { place = nowhere; switches = p.switches }

-- ---- names

abbrev pub bare_name : Name → Name
bare_name n = name n.text (bare_position n.position)

abbrev pub bare_names : List Name → List Name
bare_names ns = map bare_name ns

abbrev pub bare_qualified : QualifiedName → QualifiedName
bare_qualified q = record { unit = option_map bare_name q.unit; name = bare_name q.name }

-- ---- expressions

abbrev mutual
  pub bare_expression : Expression → Expression
  bare_expression (chain first rest) = chain (bare_expression first) (bare_operations rest)
  bare_expression (prefixed o p e) = prefixed o (bare_position p) (bare_expression e)
  bare_expression (number n p) = number n (bare_position p)
  bare_expression (nil p) = nil (bare_position p)
  bare_expression (set p es) = set (bare_position p) (bare_elements es)
  bare_expression (literal text p ss) = literal text (bare_position p) (bare_selectors ss)
  bare_expression (designated g) = designated (bare_designator g)
  bare_expression (inherited p g) = inherited (bare_position p) (bare_designator g)

  pub bare_operations : Operations → Operations
  bare_operations no_operations = no_operations
  bare_operations (operation o p e os) = operation o (bare_position p) (bare_expression e) (bare_operations os)

  pub bare_designator : Designator → Designator
  bare_designator (designator root ss) = designator (bare_root root) (bare_selectors ss)

  pub bare_root : Root → Root
  bare_root (named n) = named (bare_name n)
  bare_root (string p) = string (bare_position p)
  bare_root (bracketed p e) = bracketed (bare_position p) (bare_expression e)

  pub bare_selectors : Selectors → Selectors
  bare_selectors no_selectors = no_selectors
  bare_selectors (selectors s ss) = selectors (bare_selector s) (bare_selectors ss)

  pub bare_selector : Selector → Selector
  bare_selector (member n) = member (bare_name n)
  bare_selector (index p es) = index (bare_position p) (bare_expressions es)
  bare_selector (call args) = call (bare_arguments args)

  pub bare_expressions : Expressions → Expressions
  bare_expressions no_expressions = no_expressions
  bare_expressions (expressions e es) = expressions (bare_expression e) (bare_expressions es)

  pub bare_elements : Elements → Elements
  bare_elements no_elements = no_elements
  bare_elements (elements e es) = elements (bare_element e) (bare_elements es)

  pub bare_element : Element → Element
  bare_element (one e) = one (bare_expression e)
  bare_element (range first last) = range (bare_expression first) (bare_expression last)

  pub bare_arguments : Arguments → Arguments
  bare_arguments no_arguments = no_arguments
  bare_arguments (arguments a args) = arguments (bare_argument a) (bare_arguments args)

  pub bare_argument : Argument → Argument
  bare_argument (value e) = value (bare_expression e)
  bare_argument (padded e width) = padded (bare_expression e) (bare_expression width)
  bare_argument (rounded e width digits) = rounded (bare_expression e) (bare_expression width) (bare_expression digits)

-- ---- types and first values

abbrev mutual
  pub bare_denoter : Denoter → Denoter
  bare_denoter (named_type q) = named_type (bare_qualified q)
  bare_denoter (string_type p) = string_type (bare_position p)
  bare_denoter (subrange first last) = subrange (bare_expression first) (bare_expression last)
  bare_denoter (enumeration p ns) = enumeration (bare_position p) (bare_names ns)
  bare_denoter (set_type p base) = set_type (bare_position p) (bare_denoter base)
  bare_denoter (array p b ts t) = array (bare_position p) b (bare_denoters ts) (bare_denoter t)
  bare_denoter (record_ p b fs) = record_ (bare_position p) b (bare_field_lists fs)

  pub bare_denoters : Denoters → Denoters
  bare_denoters no_denoters = no_denoters
  bare_denoters (denoters t ts) = denoters (bare_denoter t) (bare_denoters ts)

  pub bare_field_lists : FieldLists → FieldLists
  bare_field_lists no_fields = no_fields
  bare_field_lists (fields ns t fs) = fields (bare_names ns) (bare_denoter t) (bare_field_lists fs)

abbrev mutual
  pub bare_initial : Initial → Initial
  bare_initial (value_of e) = value_of (bare_expression e)
  bare_initial (list p is) = list (bare_position p) (bare_initials is)
  bare_initial (record_value p fs) = record_value (bare_position p) (bare_field_initials fs)

  pub bare_initials : Initials → Initials
  bare_initials no_initials = no_initials
  bare_initials (initials i is) = initials (bare_initial i) (bare_initials is)

  pub bare_field_initials : FieldInitials → FieldInitials
  bare_field_initials no_field_initials = no_field_initials
  bare_field_initials (field_initials n i fs) = field_initials (bare_name n) (bare_initial i) (bare_field_initials fs)

-- ---- statements

abbrev mutual
  pub bare_statement : Statement → Statement
  bare_statement empty = empty
  bare_statement (block ss) = block (bare_statements ss)
  bare_statement (if_then c s) = if_then (bare_expression c) (bare_statement s)
  bare_statement (if_else c s t) = if_else (bare_expression c) (bare_statement s) (bare_statement t)
  bare_statement (case_of e bs) = case_of (bare_expression e) (bare_branches bs)
  bare_statement (case_else e bs ss) = case_else (bare_expression e) (bare_branches bs) (bare_statements ss)
  bare_statement (while_do c s) = while_do (bare_expression c) (bare_statement s)
  bare_statement (repeat_until ss c) = repeat_until (bare_statements ss) (bare_expression c)
  bare_statement (for_to n first way last s) = for_to (bare_name n) (bare_expression first) way (bare_expression last) (bare_statement s)
  bare_statement (for_in n e s) = for_in (bare_name n) (bare_expression e) (bare_statement s)
  bare_statement (try_finally ss ts) = try_finally (bare_statements ss) (bare_statements ts)
  bare_statement (try_except ss ts) = try_except (bare_statements ss) (bare_statements ts)
  bare_statement (try_on ss hs) = try_on (bare_statements ss) (bare_handlers hs)
  bare_statement (try_on_else ss hs ts) = try_on_else (bare_statements ss) (bare_handlers hs) (bare_statements ts)
  bare_statement (raise p e) = raise (bare_position p) (bare_expression e)
  bare_statement (reraise p) = reraise (bare_position p)
  bare_statement (alone p) = alone (bare_position p)
  bare_statement (inherited_call p g) = inherited_call (bare_position p) (bare_designator g)
  bare_statement (call_of g) = call_of (bare_designator g)
  bare_statement (assign g p e) = assign (bare_designator g) (bare_position p) (bare_expression e)

  pub bare_statements : Statements → Statements
  bare_statements no_statements = no_statements
  bare_statements (statements s ss) = statements (bare_statement s) (bare_statements ss)

  pub bare_branches : Branches → Branches
  bare_branches no_branches = no_branches
  bare_branches (branches ls s bs) = branches (bare_elements ls) (bare_statement s) (bare_branches bs)

  pub bare_handlers : Handlers → Handlers
  bare_handlers no_handlers = no_handlers
  bare_handlers (handlers v c s hs) = handlers (option_map bare_name v) (bare_qualified c) (bare_statement s) (bare_handlers hs)

-- ---- headings, classes and interfaces

abbrev pub bare_parameter_type : ParameterType → ParameterType
bare_parameter_type (parameter_type.Named q) = parameter_type.Named (bare_qualified q)
bare_parameter_type (parameter_type.String p) = parameter_type.String (bare_position p)

abbrev pub bare_parameter : Parameter → Parameter
bare_parameter a = record { mode = a.mode; names = bare_names a.names; open_array = a.open_array; of = bare_parameter_type a.of }

abbrev pub bare_heading : Heading → Heading
bare_heading h = record { kind = h.kind; class = option_map bare_name h.class; name = bare_name h.name; parameters = map bare_parameter h.parameters; result = option_map bare_denoter h.result }

abbrev pub bare_method : Method → Method
bare_method m = record { heading = bare_heading m.heading; directives = m.directives }

abbrev pub bare_property : Property → Property
bare_property p = record { name = bare_name p.name; denoter = bare_denoter p.denoter; read = option_map bare_name p.read; write = option_map bare_name p.write }

abbrev pub bare_field_list : FieldList → FieldList
bare_field_list f = record { names = bare_names f.names; denoter = bare_denoter f.denoter }

abbrev pub bare_member : Member → Member
bare_member (member_fields f) = member_fields (bare_field_list f)
bare_member (method m) = method (bare_method m)
bare_member (property p) = property (bare_property p)

abbrev pub bare_section : Section → Section
bare_section s = record { visibility = s.visibility; members = map bare_member s.members }

abbrev pub bare_class : Class → Class
bare_class c = record { ancestors = bare_names c.ancestors; sections = map bare_section c.sections }

abbrev pub bare_interface : Interface → Interface
bare_interface i = record { ancestor = option_map bare_name i.ancestor; identifier = i.identifier; methods = map bare_method i.methods }

-- ---- declarations

abbrev pub bare_constant : Constant → Constant
bare_constant c = record { name = bare_name c.name; denoter = option_map bare_denoter c.denoter; value = bare_initial c.value }

abbrev pub bare_variables : Variables → Variables
bare_variables v = record { names = bare_names v.names; denoter = bare_denoter v.denoter; value = option_map bare_initial v.value }

abbrev pub bare_definition : TypeDefinition → TypeDefinition
bare_definition (denotes t) = denotes (bare_denoter t)
bare_definition forward_class = forward_class
bare_definition (class c) = class (bare_class c)
bare_definition (forward_interface text) = forward_interface text
bare_definition (interface i) = interface (bare_interface i)

abbrev pub bare_type : TypeDeclaration → TypeDeclaration
bare_type t = record { name = bare_name t.name; definition = bare_definition t.definition }

abbrev mutual
  pub bare_declaration : Declaration → Declaration
  bare_declaration (constants cs) = constants (map bare_constant cs)
  bare_declaration (types ts) = types (map bare_type ts)
  bare_declaration (variables vs) = variables (map bare_variables vs)
  bare_declaration (heading m) = heading (bare_method m)
  bare_declaration (routine h ds b) = routine (bare_heading h) ds (bare_body b)

  pub bare_declarations : Declarations → Declarations
  bare_declarations no_declarations = no_declarations
  bare_declarations (declarations e es) = declarations (bare_declaration e) (bare_declarations es)

  pub bare_body : Body → Body
  bare_body forward = forward
  bare_body (body es ss) = body (bare_declarations es) (bare_statements ss)

-- ---- files

abbrev pub bare_program_heading : ProgramHeading → ProgramHeading
bare_program_heading h = record { name = bare_name h.name; parameters = bare_names h.parameters }

abbrev pub bare_part : UnitPart → UnitPart
bare_part p = record { uses = bare_names p.uses; declarations = bare_declarations p.declarations }

abbrev pub bare_tail : Tail → Tail
bare_tail t = record { initialization = option_map bare_statements t.initialization; finalization = option_map bare_statements t.finalization }

-- the tree of a file, but for its places
abbrev pub unplaced : File → File
unplaced (program p) = program (record { position = bare_position p.position; heading = option_map bare_program_heading p.heading; uses = bare_names p.uses; declarations = bare_declarations p.declarations; statements = bare_statements p.statements })
unplaced (unit u) = unit (record { position = bare_position u.position; name = bare_name u.name; interface = bare_part u.interface; implementation = bare_part u.implementation; tail = bare_tail u.tail })
