-- The print of names, as drafts.
use Rattle.std.specs.Prelude.{List, Option, Some, None, map}
use Rattle.op_print.specs.Page.{Draft, tight, word_at, tight_at, ◌&◌, separated, enclosed}
use Rattle.op_scan.specs.declared.token.TokenKind.TheVariants as kind
use Rattle.op_tree.specs.declared.position.Name.{Name}
use Rattle.op_tree.specs.declared.position.QualifiedName.{QualifiedName}

abbrev pub name_draft : Name → Draft
name_draft n = word_at n.position.switches (kind.Identifier n.text)

abbrev pub names_draft : List Name → Draft
names_draft ns = separated kind.Comma (map name_draft ns)

abbrev pub bracketed_draft : List Name → Draft
bracketed_draft ns = enclosed kind.OpenParenthesis kind.Comma kind.CloseParenthesis (map name_draft ns)

abbrev pub qualified_of : Option Name → Name → Draft
qualified_of None n = name_draft n
qualified_of (Some unit) n = name_draft unit & tight kind.Dot & tight_at n.position.switches (kind.Identifier n.text)

abbrev pub qualified_draft : QualifiedName → Draft
qualified_draft q = qualified_of q.unit q.name
