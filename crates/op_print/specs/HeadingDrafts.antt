-- The print of headings, classes and interfaces, as drafts.
use Rattle.std.specs.Prelude.{ℕ, Bool, true, false, List, codes, map}
use Rattle.op_print.specs.DenoterDrafts.{denoter_draft, field_line}
use Rattle.op_print.specs.NameDrafts.{bracketed_draft, name_draft, names_draft, qualified_of, qualified_draft}
use Rattle.op_print.specs.Page.{Draft, nothing, word, tight, word_at, line, ◌&◌, each, enclosed, optional, ended}
use Rattle.op_scan.specs.declared.token.TokenKind.{TokenKind}
use Rattle.op_scan.specs.declared.token.TokenKind.TheVariants as kind
use Rattle.op_tree.specs.Declaration.{Class, Heading, Interface, Member, fields, method, property, Method, Property, Section}
use Rattle.op_tree.specs.Denoter.{Denoter}
use Rattle.op_tree.specs.declared.class.Visibility.{Visibility}
use Rattle.op_tree.specs.declared.class.Visibility.TheVariants as visibility
use Rattle.op_tree.specs.declared.heading.Directive.{Directive}
use Rattle.op_tree.specs.declared.heading.Directive.TheVariants as directive
use Rattle.op_tree.specs.declared.heading.Parameter.{Parameter}
use Rattle.op_tree.specs.declared.heading.ParameterMode.{ParameterMode}
use Rattle.op_tree.specs.declared.heading.ParameterMode.TheVariants as mode
use Rattle.op_tree.specs.declared.heading.ParameterType.{ParameterType}
use Rattle.op_tree.specs.declared.heading.ParameterType.TheVariants as parameter_type
use Rattle.op_tree.specs.declared.heading.RoutineKind.{RoutineKind}
use Rattle.op_tree.specs.declared.heading.RoutineKind.TheVariants as routine
use Rattle.op_tree.specs.declared.position.Name.{Name}

abbrev pub routine_word : RoutineKind → TokenKind
routine_word routine.Procedure = kind.Procedure
routine_word routine.Function = kind.Function
routine_word routine.Constructor = kind.Constructor
routine_word routine.Destructor = kind.Destructor

abbrev pub directive_word : Directive → List ℕ
directive_word directive.Virtual_ = codes "virtual"
directive_word directive.Override_ = codes "override"
directive_word directive.Abstract_ = codes "abstract"
directive_word directive.Reintroduce = codes "reintroduce"
directive_word directive.Overload = codes "overload"
directive_word directive.Cdecl = codes "cdecl"
directive_word directive.Stdcall = codes "stdcall"
directive_word directive.Register = codes "register"

abbrev pub visibility_word : Visibility → List ℕ
visibility_word visibility.Private = codes "private"
visibility_word visibility.Protected = codes "protected"
visibility_word visibility.Public = codes "public"
visibility_word visibility.Published = codes "published"

-- ---- headings

abbrev pub mode_draft : ParameterMode → Draft
mode_draft mode.Value = nothing
mode_draft mode.Var = word kind.Var
mode_draft mode.Const_ = word kind.Const_
mode_draft mode.Out = word (kind.Identifier (codes "out"))

abbrev pub open_array_draft : Bool → Draft
open_array_draft true = word kind.Array & word kind.Of
open_array_draft false = nothing

abbrev pub parameter_type_draft : ParameterType → Draft
parameter_type_draft (parameter_type.Named q) = qualified_draft q
parameter_type_draft (parameter_type.String p) = word_at p.switches kind.String

abbrev pub parameter_draft : Parameter → Draft
parameter_draft a = mode_draft a.mode & names_draft a.names & tight kind.Colon & open_array_draft a.open_array & parameter_type_draft a.of

abbrev pub type_draft : Denoter → Draft
type_draft t = tight kind.Colon & denoter_draft t

abbrev pub heading_draft : Heading → Draft
heading_draft h = word (routine_word h.kind) & qualified_of h.class h.name & enclosed kind.OpenParenthesis kind.Semicolon kind.CloseParenthesis (map parameter_draft h.parameters) & optional type_draft h.result

abbrev pub directive_draft : Directive → Draft
directive_draft d = word (kind.Identifier (directive_word d)) & tight kind.Semicolon

-- on a line of its own
abbrev pub method_draft : Method → Draft
method_draft m = line & heading_draft m.heading & tight kind.Semicolon & each (map directive_draft m.directives)

-- ---- classes

abbrev pub accessor_draft : List ℕ → Name → Draft
accessor_draft text n = word (kind.Identifier text) & name_draft n

abbrev pub property_draft : Property → Draft
property_draft p = line & word kind.Property & name_draft p.name & tight kind.Colon & denoter_draft p.denoter & optional (accessor_draft (codes "read")) p.read & optional (accessor_draft (codes "write")) p.write & tight kind.Semicolon

-- on a line of its own
abbrev pub member_draft : Member → Draft
member_draft (fields f) = field_line f.names (denoter_draft f.denoter)
member_draft (method m) = method_draft m
member_draft (property p) = property_draft p

abbrev pub visibility_draft : Visibility → Draft
visibility_draft v = line & word (kind.Identifier (visibility_word v))

abbrev pub section_draft : Section → Draft
section_draft s = optional visibility_draft s.visibility & each (map member_draft s.members)

abbrev pub class_draft : Class → Draft
class_draft c = word kind.Class & bracketed_draft c.ancestors & ended (each (map section_draft c.sections))

-- ---- interfaces

abbrev pub ancestor_draft : Name → Draft
ancestor_draft n = tight kind.OpenParenthesis & name_draft n & tight kind.CloseParenthesis

abbrev pub identifier_draft : List ℕ → Draft
identifier_draft text = tight kind.OpenBracket & word (kind.CharacterString text) & tight kind.CloseBracket

abbrev pub interface_draft : Interface → Draft
interface_draft i = word kind.Interface & optional ancestor_draft i.ancestor & optional identifier_draft i.identifier & ended (each (map method_draft i.methods))
