-- The print of declarations, as drafts. Each begins a line.
use Rattle.std.specs.Prelude.{codes, map}
use Rattle.op_print.specs.DenoterDrafts.{denoter_draft, initial_draft}
use Rattle.op_print.specs.HeadingDrafts.{class_draft, directive_draft, heading_draft, identifier_draft, interface_draft, method_draft, type_draft}
use Rattle.op_print.specs.NameDrafts.{name_draft, names_draft}
use Rattle.op_print.specs.Page.{Draft, nothing, word, tight, line, indent, outdent, ◌&◌, each, optional}
use Rattle.op_print.specs.StatementDrafts.{block_draft, statement_drafts}
use Rattle.op_scan.specs.declared.token.TokenKind.TheVariants as kind
use Rattle.op_tree.specs.Declaration.{Constant, Variables, TypeDefinition, denotes, forward_class, class, forward_interface, interface, TypeDeclaration, Declaration, constants, types, variables, heading, routine, Declarations, no_declarations, declarations, Body, forward, body}
use Rattle.op_tree.specs.Initial.{Initial}
use Rattle.op_tree.specs.Statement.{Statements}

abbrev pub constant_draft : Constant → Draft
constant_draft c = line & name_draft c.name & optional type_draft c.denoter & word kind.Equal & initial_draft c.value & tight kind.Semicolon

abbrev pub first_value_draft : Initial → Draft
first_value_draft i = word kind.Equal & initial_draft i

abbrev pub variables_draft : Variables → Draft
variables_draft v = line & names_draft v.names & tight kind.Colon & denoter_draft v.denoter & optional first_value_draft v.value & tight kind.Semicolon

abbrev pub definition_draft : TypeDefinition → Draft
definition_draft (denotes t) = denoter_draft t
definition_draft forward_class = word kind.Class
definition_draft (class c) = class_draft c
definition_draft (forward_interface text) = word kind.Interface & optional identifier_draft text
definition_draft (interface i) = interface_draft i

abbrev pub type_declaration_draft : TypeDeclaration → Draft
type_declaration_draft t = line & name_draft t.name & word kind.Equal & definition_draft t.definition & tight kind.Semicolon

abbrev pub begin_end_draft : Statements → Draft
begin_end_draft ss = line & word kind.Begin & block_draft (statement_drafts ss) & word kind.End

abbrev mutual
  pub declaration_draft : Declaration → Draft
  declaration_draft (constants cs) = line & word kind.Const_ & indent & each (map constant_draft cs) & outdent
  declaration_draft (types ts) = line & word kind.Type_ & indent & each (map type_declaration_draft ts) & outdent
  declaration_draft (variables vs) = line & word kind.Var & indent & each (map variables_draft vs) & outdent
  declaration_draft (heading m) = method_draft m
  declaration_draft (routine h ds b) = line & heading_draft h & tight kind.Semicolon & each (map directive_draft ds) & body_draft b & tight kind.Semicolon

  pub declarations_draft : Declarations → Draft
  declarations_draft no_declarations = nothing
  declarations_draft (declarations e es) = declaration_draft e & declarations_draft es

  pub body_draft : Body → Draft
  body_draft forward = word (kind.Identifier (codes "forward"))
  body_draft (body es ss) = indent & declarations_draft es & outdent & begin_end_draft ss
