-- How each token is spelled.
use Rattle.std.specs.Prelude.{ℕ, List, [], ◌∷◌, ◌++◌, codes, decimal, nat_eq, if◌then◌else◌}
use Rattle.std.specs.List.{flat_map}
use Rattle.op_scan.specs.declared.token.TokenKind.{TokenKind}
use Rattle.op_scan.specs.declared.token.TokenKind.TheVariants as kind

-- A byte within quotes. A quote is doubled, and the two line ends stand as characters by number between quoted parts.
abbrev pub quoted_byte : ℕ → List ℕ
quoted_byte byte =
    if nat_eq byte 39 then codes "''" else
    (if nat_eq byte 13 then codes "'#13'" else
    (if nat_eq byte 10 then codes "'#10'" else byte ∷ []))

-- a string, as parts that begin and end with quotes
unfoldable pub quoted : List ℕ → List ℕ
quoted text = 39 ∷ flat_map quoted_byte text ++ 39 ∷ []

-- reserved words in lower case
abbrev pub spelling : TokenKind → List ℕ
spelling (kind.Identifier text) = text
spelling (kind.Number n) = decimal n
spelling (kind.CharacterString text) = quoted text
spelling kind.And = codes "and"
spelling kind.Array = codes "array"
spelling kind.As_ = codes "as"
spelling kind.Asm = codes "asm"
spelling kind.Begin = codes "begin"
spelling kind.Case = codes "case"
spelling kind.Class = codes "class"
spelling kind.Const_ = codes "const"
spelling kind.Constructor = codes "constructor"
spelling kind.Destructor = codes "destructor"
spelling kind.Dispinterface = codes "dispinterface"
spelling kind.Div = codes "div"
spelling kind.Do_ = codes "do"
spelling kind.Downto = codes "downto"
spelling kind.Else_ = codes "else"
spelling kind.End = codes "end"
spelling kind.Except = codes "except"
spelling kind.Exports = codes "exports"
spelling kind.File = codes "file"
spelling kind.Finalization = codes "finalization"
spelling kind.Finally = codes "finally"
spelling kind.For_ = codes "for"
spelling kind.Function = codes "function"
spelling kind.Goto = codes "goto"
spelling kind.If_ = codes "if"
spelling kind.Implementation = codes "implementation"
spelling kind.In_ = codes "in"
spelling kind.Inherited = codes "inherited"
spelling kind.Initialization = codes "initialization"
spelling kind.Inline = codes "inline"
spelling kind.Interface = codes "interface"
spelling kind.Is = codes "is"
spelling kind.Label = codes "label"
spelling kind.Library = codes "library"
spelling kind.Mod_ = codes "mod"
spelling kind.Nil = codes "nil"
spelling kind.Not = codes "not"
spelling kind.Object = codes "object"
spelling kind.Of = codes "of"
spelling kind.Operator = codes "operator"
spelling kind.Or = codes "or"
spelling kind.Packed = codes "packed"
spelling kind.Procedure = codes "procedure"
spelling kind.Program = codes "program"
spelling kind.Property = codes "property"
spelling kind.Raise = codes "raise"
spelling kind.Record = codes "record"
spelling kind.Repeat = codes "repeat"
spelling kind.Resourcestring = codes "resourcestring"
spelling kind.Set = codes "set"
spelling kind.Shl = codes "shl"
spelling kind.Shr = codes "shr"
spelling kind.String = codes "string"
spelling kind.Then = codes "then"
spelling kind.Threadvar = codes "threadvar"
spelling kind.To = codes "to"
spelling kind.Try_ = codes "try"
spelling kind.Type_ = codes "type"
spelling kind.Unit = codes "unit"
spelling kind.Until = codes "until"
spelling kind.Uses = codes "uses"
spelling kind.Var = codes "var"
spelling kind.While_ = codes "while"
spelling kind.With = codes "with"
spelling kind.Xor = codes "xor"
spelling kind.Plus = codes "+"
spelling kind.Minus = codes "-"
spelling kind.Star = codes "*"
spelling kind.Slash = codes "/"
spelling kind.Equal = codes "="
spelling kind.Less = codes "<"
spelling kind.Greater = codes ">"
spelling kind.LessEqual = codes "<="
spelling kind.GreaterEqual = codes ">="
spelling kind.NotEqual = codes "<>"
spelling kind.Assign = codes ":="
spelling kind.OpenParenthesis = codes "("
spelling kind.CloseParenthesis = codes ")"
spelling kind.OpenBracket = codes "["
spelling kind.CloseBracket = codes "]"
spelling kind.Comma = codes ","
spelling kind.Semicolon = codes ";"
spelling kind.Colon = codes ":"
spelling kind.Dot = codes "."
spelling kind.DotDot = codes ".."
