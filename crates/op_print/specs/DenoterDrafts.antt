-- The print of types and of first values, as drafts.
use Rattle.std.specs.Prelude.{Bool, true, false, List, [], ◌∷◌}
use Rattle.op_print.specs.ExpressionDrafts.{expression_draft}
use Rattle.op_print.specs.NameDrafts.{name_draft, names_draft, qualified_draft}
use Rattle.op_print.specs.Page.{Draft, nothing, word, tight, word_at, line, ◌&◌, separated, enclosed, ended}
use Rattle.op_scan.specs.declared.token.Switches.{Switches}
use Rattle.op_scan.specs.declared.token.TokenKind.{TokenKind}
use Rattle.op_scan.specs.declared.token.TokenKind.TheVariants as kind
use Rattle.op_tree.specs.Denoter.{Denoter, named, string, subrange, enumeration, set, array, record_, Denoters, no_denoters, denoters, FieldLists, no_fields, fields}
use Rattle.op_tree.specs.declared.position.Name.{Name}
use Rattle.op_tree.specs.Initial.{Initial, value, list, record_ as record_value, Initials, no_initials, initials, FieldInitials, no_field_initials, field_initials}

-- names and their type, on a line of their own
abbrev pub field_line : List Name → Draft → Draft
field_line ns t = line & names_draft ns & tight kind.Colon & t & tight kind.Semicolon

abbrev pub packed_draft : Switches → Bool → Draft
packed_draft s true = word_at s kind.Packed
packed_draft s false = nothing

-- the word of an array or a record, with which the type begins where it is not packed
abbrev pub structure_draft : Switches → Bool → TokenKind → Draft
structure_draft s true k = word k
structure_draft s false k = word_at s k

abbrev mutual
  pub denoter_draft : Denoter → Draft
  denoter_draft (named q) = qualified_draft q
  denoter_draft (string p) = word_at p.switches kind.String
  denoter_draft (subrange first last) = expression_draft first & word kind.DotDot & expression_draft last
  denoter_draft (enumeration p ns) = word_at p.switches kind.OpenParenthesis & names_draft ns & tight kind.CloseParenthesis
  denoter_draft (set p base) = word_at p.switches kind.Set & word kind.Of & denoter_draft base
  denoter_draft (array p b ts t) = packed_draft p.switches b & structure_draft p.switches b kind.Array & enclosed kind.OpenBracket kind.Comma kind.CloseBracket (denoter_drafts ts) & word kind.Of & denoter_draft t
  denoter_draft (record_ p b fs) = packed_draft p.switches b & structure_draft p.switches b kind.Record & ended (fields_draft fs)

  pub denoter_drafts : Denoters → List Draft
  denoter_drafts no_denoters = []
  denoter_drafts (denoters t ts) = denoter_draft t ∷ denoter_drafts ts

  pub fields_draft : FieldLists → Draft
  fields_draft no_fields = nothing
  fields_draft (fields ns t fs) = field_line ns (denoter_draft t) & fields_draft fs

abbrev mutual
  pub initial_draft : Initial → Draft
  initial_draft (value e) = expression_draft e
  initial_draft (list p is) = word_at p.switches kind.OpenParenthesis & separated kind.Comma (initial_drafts is) & tight kind.CloseParenthesis
  initial_draft (record_value p fs) = word_at p.switches kind.OpenParenthesis & separated kind.Semicolon (field_initial_drafts fs) & tight kind.CloseParenthesis

  pub initial_drafts : Initials → List Draft
  initial_drafts no_initials = []
  initial_drafts (initials i is) = initial_draft i ∷ initial_drafts is

  pub field_initial_drafts : FieldInitials → List Draft
  field_initial_drafts no_field_initials = []
  field_initial_drafts (field_initials n i fs) = (name_draft n & tight kind.Colon & initial_draft i) ∷ field_initial_drafts fs
