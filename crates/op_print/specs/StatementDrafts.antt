-- The print of statements, as drafts.
use Rattle.std.specs.Prelude.{List, [], ◌∷◌, codes, Option}
use Rattle.op_print.specs.ExpressionDrafts.{designator_draft, element_drafts, expression_draft}
use Rattle.op_print.specs.NameDrafts.{name_draft, qualified_draft}
use Rattle.op_print.specs.Page.{Draft, nothing, word, tight, word_at, line, ◌&◌, separated, optional, indented}
use Rattle.op_scan.specs.declared.token.TokenKind.{TokenKind}
use Rattle.op_scan.specs.declared.token.TokenKind.TheVariants as kind
use Rattle.op_tree.specs.Statement.{Statement, empty, block, if_then, if_else, case_of, case_else, while_do, repeat_until, for_to, for_in, try_finally, try_except, try_on, try_on_else, raise, reraise, inherited, inherited_call, call, assign, Statements, no_statements, statements, Branches, no_branches, branches, Handlers, no_handlers, handlers}
use Rattle.op_tree.specs.declared.position.Name.{Name}
use Rattle.op_tree.specs.declared.position.QualifiedName.{QualifiedName}
use Rattle.op_tree.specs.declared.statement.Direction.{Direction}
use Rattle.op_tree.specs.declared.statement.Direction.TheVariants.{To, Downto}

abbrev pub direction_kind : Direction → TokenKind
direction_kind To = kind.To
direction_kind Downto = kind.Downto

abbrev pub variable_draft : Name → Draft
variable_draft n = name_draft n & tight kind.Colon

abbrev pub on_draft : Option Name → QualifiedName → Draft
on_draft v class = line & word (kind.Identifier (codes "on")) & optional variable_draft v & qualified_draft class & word kind.Do_

-- with semicolons between them, further in
abbrev pub block_draft : List Draft → Draft
block_draft ds = indented (separated kind.Semicolon ds)

-- A statement begins a line where it has a token.
abbrev pub begun : Statement → Draft
begun empty = nothing
begun other = line

abbrev mutual
  pub statement_draft : Statement → Draft
  statement_draft empty = nothing
  statement_draft (block ss) = word kind.Begin & block_draft (statement_drafts ss) & word kind.End
  statement_draft (if_then c s) = word kind.If_ & expression_draft c & word kind.Then & statement_draft s
  statement_draft (if_else c s t) = word kind.If_ & expression_draft c & word kind.Then & statement_draft s & word kind.Else_ & statement_draft t
  statement_draft (case_of e bs) = word kind.Case & expression_draft e & word kind.Of & indented (branches_draft bs) & word kind.End
  statement_draft (case_else e bs ss) = word kind.Case & expression_draft e & word kind.Of & indented (branches_draft bs) & word kind.Else_ & block_draft (statement_drafts ss) & word kind.End
  statement_draft (while_do c s) = word kind.While_ & expression_draft c & word kind.Do_ & statement_draft s
  statement_draft (repeat_until ss c) = word kind.Repeat & block_draft (statement_drafts ss) & word kind.Until & expression_draft c
  statement_draft (for_to n first way last s) = word kind.For_ & name_draft n & word kind.Assign & expression_draft first & word (direction_kind way) & expression_draft last & word kind.Do_ & statement_draft s
  statement_draft (for_in n e s) = word kind.For_ & name_draft n & word kind.In_ & expression_draft e & word kind.Do_ & statement_draft s
  statement_draft (try_finally ss ts) = word kind.Try_ & block_draft (statement_drafts ss) & word kind.Finally & block_draft (statement_drafts ts) & word kind.End
  statement_draft (try_except ss ts) = word kind.Try_ & block_draft (statement_drafts ss) & word kind.Except & block_draft (statement_drafts ts) & word kind.End
  statement_draft (try_on ss hs) = word kind.Try_ & block_draft (statement_drafts ss) & word kind.Except & indented (handlers_draft hs) & word kind.End
  statement_draft (try_on_else ss hs ts) = word kind.Try_ & block_draft (statement_drafts ss) & word kind.Except & indented (handlers_draft hs) & word kind.Else_ & block_draft (statement_drafts ts) & word kind.End
  statement_draft (raise p e) = word_at p.switches kind.Raise & expression_draft e
  statement_draft (reraise p) = word_at p.switches kind.Raise
  statement_draft (inherited p) = word_at p.switches kind.Inherited
  statement_draft (inherited_call p g) = word_at p.switches kind.Inherited & designator_draft g
  statement_draft (call g) = designator_draft g
  statement_draft (assign g p e) = designator_draft g & word_at p.switches kind.Assign & expression_draft e

  pub statement_drafts : Statements → List Draft
  statement_drafts no_statements = []
  statement_drafts (statements s ss) = (begun s & statement_draft s) ∷ statement_drafts ss

  pub branches_draft : Branches → Draft
  branches_draft no_branches = nothing
  branches_draft (branches ls s bs) = line & separated kind.Comma (element_drafts ls) & tight kind.Colon & statement_draft s & tight kind.Semicolon & branches_draft bs

  pub handlers_draft : Handlers → Draft
  handlers_draft no_handlers = nothing
  handlers_draft (handlers v class s hs) = on_draft v class & statement_draft s & tight kind.Semicolon & handlers_draft hs
