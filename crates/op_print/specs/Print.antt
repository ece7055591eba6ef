-- The print of a file.
use Rattle.std.specs.Prelude.{ℕ, List, [], ◌∷◌}
use Rattle.op_print.specs.DeclarationDrafts.{begin_end_draft, declarations_draft}
use Rattle.op_print.specs.NameDrafts.{bracketed_draft, name_draft, names_draft}
use Rattle.op_print.specs.Page.{Draft, nothing, word, tight, word_at, switch, line, ◌&◌, optional, after, empty_page}
use Rattle.op_print.specs.StatementDrafts.{block_draft, statement_drafts}
use Rattle.op_scan.specs.declared.token.TokenKind.{TokenKind}
use Rattle.op_scan.specs.declared.token.TokenKind.TheVariants as kind
use Rattle.op_tree.specs.File.{File, program, Program, unit, UnitFile, UnitPart, Tail}
use Rattle.op_tree.specs.Statement.{Statements}
use Rattle.op_tree.specs.declared.file.ProgramHeading.{ProgramHeading}
use Rattle.op_tree.specs.declared.position.Name.{Name}

abbrev pub program_heading_draft : ProgramHeading → Draft
program_heading_draft h = word kind.Program & name_draft h.name & bracketed_draft h.parameters & tight kind.Semicolon

abbrev pub uses_draft : List Name → Draft
uses_draft [] = nothing
uses_draft (n ∷ ns) = line & word kind.Uses & names_draft (n ∷ ns) & tight kind.Semicolon

abbrev pub program_draft : Program → Draft
program_draft p = optional program_heading_draft p.heading & uses_draft p.uses & declarations_draft p.declarations & begin_end_draft p.statements

abbrev pub part_draft : UnitPart → Draft
part_draft p = uses_draft p.uses & declarations_draft p.declarations

-- a word and statements
abbrev pub tail_part_draft : TokenKind → Statements → Draft
tail_part_draft k ss = word k & block_draft (statement_drafts ss)

abbrev pub tail_draft : Tail → Draft
tail_draft t = line & optional (tail_part_draft kind.Initialization) t.initialization & optional (tail_part_draft kind.Finalization) t.finalization & word kind.End

abbrev pub unit_draft : UnitFile → Draft
unit_draft u = word_at u.position.switches kind.Unit & name_draft u.name & tight kind.Semicolon & line & word kind.Interface & part_draft u.interface & line & word kind.Implementation & part_draft u.implementation & tail_draft u.tail

abbrev pub file_draft : File → Draft
file_draft (program p) = switch p.position.switches & program_draft p & tight kind.Dot & line
file_draft (unit u) = unit_draft u & tight kind.Dot & line

-- the text of a tree
unfoldable pub print_of : File → List ℕ
print_of file = (after empty_page (file_draft file)).text
