-- Symbols (Free Pascal Reference Guide, "Symbols").
use Rattle.std.specs.Prelude.{ℕ, Option, List, [], ◌∷◌, codes, length, nat_eq, if◌then◌else◌}
use Rattle.op_scan.specs.Keyword.{kind_beside}
use Rattle.op_scan.specs.declared.token.TokenKind.{TokenKind}
use Rattle.op_scan.specs.declared.token.TokenKind.TheVariants as kind

abbrev pub symbols_of_one : List (List ℕ × TokenKind)
symbols_of_one =
    (codes "+", kind.Plus) ∷
    (codes "-", kind.Minus) ∷
    (codes "*", kind.Star) ∷
    (codes "/", kind.Slash) ∷
    (codes "=", kind.Equal) ∷
    (codes "<", kind.Less) ∷
    (codes ">", kind.Greater) ∷
    (codes "(", kind.OpenParenthesis) ∷
    (codes ")", kind.CloseParenthesis) ∷
    (codes "[", kind.OpenBracket) ∷
    (codes "]", kind.CloseBracket) ∷
    (codes ",", kind.Comma) ∷
    (codes ";", kind.Semicolon) ∷
    (codes ":", kind.Colon) ∷
    (codes ".", kind.Dot) ∷
    []

abbrev pub symbols_of_two : List (List ℕ × TokenKind)
symbols_of_two =
    (codes "<=", kind.LessEqual) ∷
    (codes ">=", kind.GreaterEqual) ∷
    (codes "<>", kind.NotEqual) ∷
    (codes ":=", kind.Assign) ∷
    (codes "..", kind.DotDot) ∷
    []

-- the symbol that is spelled so, if there is one
unfoldable pub symbol_of : List ℕ → Option TokenKind
symbol_of spelling =
    kind_beside spelling
    (if nat_eq (length spelling) 1 then symbols_of_one else (if nat_eq (length spelling) 2 then symbols_of_two else []))
