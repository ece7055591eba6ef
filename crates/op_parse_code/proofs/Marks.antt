-- Marks and other single tokens.
use Rattle.std.proofs.Common.{◌≡◌, Some, ap}
use Rattle.std.proofs.lemmas.Option.{same_Some}
use Rattle.op_parse_code.specs.Opening.{mark_of, kind_of}
use Rattle.op_parse_code.specs.declared.mark.Mark.{Mark}
use Rattle.op_parse_code.specs.declared.mark.Mark.TheVariants as mark
use Rattle.op_scan.specs.declared.token.TokenKind.{TokenKind}
use Rattle.op_scan.specs.declared.token.TokenKind.TheVariants as kind

pub mark_kind : (k : TokenKind) (m : Mark) → mark_of k ≡ Some m → k ≡ kind_of m
mark_kind kind.Comma m h = ap kind_of (same_Some _ _ h)
mark_kind kind.Colon m h = ap kind_of (same_Some _ _ h)
mark_kind kind.Semicolon m h = ap kind_of (same_Some _ _ h)
mark_kind kind.DotDot m h = ap kind_of (same_Some _ _ h)
mark_kind kind.Dot m h = ap kind_of (same_Some _ _ h)
mark_kind kind.Assign m h = ap kind_of (same_Some _ _ h)
mark_kind kind.CloseParenthesis m h = ap kind_of (same_Some _ _ h)
mark_kind kind.CloseBracket m h = ap kind_of (same_Some _ _ h)
mark_kind kind.Then m h = ap kind_of (same_Some _ _ h)
mark_kind kind.Else_ m h = ap kind_of (same_Some _ _ h)
mark_kind kind.Of m h = ap kind_of (same_Some _ _ h)
mark_kind kind.Do_ m h = ap kind_of (same_Some _ _ h)
mark_kind kind.Until m h = ap kind_of (same_Some _ _ h)
mark_kind kind.In_ m h = ap kind_of (same_Some _ _ h)
mark_kind kind.Except m h = ap kind_of (same_Some _ _ h)
mark_kind kind.Finally m h = ap kind_of (same_Some _ _ h)
mark_kind kind.End m h = ap kind_of (same_Some _ _ h)
mark_kind kind.Equal m h = ap kind_of (same_Some _ _ h)
mark_kind kind.OpenParenthesis m h = ap kind_of (same_Some _ _ h)
mark_kind kind.OpenBracket m h = ap kind_of (same_Some _ _ h)
mark_kind kind.Array m h = ap kind_of (same_Some _ _ h)
mark_kind kind.Record m h = ap kind_of (same_Some _ _ h)
mark_kind kind.Set m h = ap kind_of (same_Some _ _ h)
mark_kind kind.Case m h = ap kind_of (same_Some _ _ h)
mark_kind kind.Const_ m h = ap kind_of (same_Some _ _ h)
mark_kind kind.Var m h = ap kind_of (same_Some _ _ h)
mark_kind kind.Inline m h = ap kind_of (same_Some _ _ h)
mark_kind kind.Begin m h = ap kind_of (same_Some _ _ h)
mark_kind kind.Interface m h = ap kind_of (same_Some _ _ h)
mark_kind kind.Implementation m h = ap kind_of (same_Some _ _ h)
mark_kind kind.Initialization m h = ap kind_of (same_Some _ _ h)
mark_kind kind.Finalization m h = ap kind_of (same_Some _ _ h)
mark_kind kind.Program m h = ap kind_of (same_Some _ _ h)
mark_kind kind.Uses m h = ap kind_of (same_Some _ _ h)
mark_kind kind.Class m h = ap kind_of (same_Some _ _ h)
mark_kind kind.Property m h = ap kind_of (same_Some _ _ h)
mark_kind kind.Unit m h = ap kind_of (same_Some _ _ h)
mark_kind kind.Type_ m h = ap kind_of (same_Some _ _ h)
mark_kind other m h = absurd cc
