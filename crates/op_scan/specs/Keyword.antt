-- The reserved words, in lower case (Free Pascal Reference Guide, "Reserved words").
use Rattle.std.specs.Prelude.{ℕ, Option, Some, None, List, [], ◌∷◌, codes, length, nat_eq, nat_lt, if◌then◌else◌}
use Rattle.std.specs.Str.{bytes_eq}
use Rattle.op_scan.specs.declared.token.TokenKind.{TokenKind}
use Rattle.op_scan.specs.declared.token.TokenKind.TheVariants as kind

-- what stands beside a word in a table
abbrev pub kind_beside : List ℕ → List (List ℕ × TokenKind) → Option TokenKind
kind_beside word [] = None
kind_beside word (row ∷ rows) = if bytes_eq word row.0 then Some row.1 else kind_beside word rows

-- reserved words of two letters
abbrev pub words_of_two : List (List ℕ × TokenKind)
words_of_two =
    (codes "as", kind.As_) ∷
    (codes "do", kind.Do_) ∷
    (codes "if", kind.If_) ∷
    (codes "in", kind.In_) ∷
    (codes "is", kind.Is) ∷
    (codes "of", kind.Of) ∷
    (codes "or", kind.Or) ∷
    (codes "to", kind.To) ∷
    []

-- reserved words of three letters
abbrev pub words_of_three : List (List ℕ × TokenKind)
words_of_three =
    (codes "and", kind.And) ∷
    (codes "asm", kind.Asm) ∷
    (codes "div", kind.Div) ∷
    (codes "end", kind.End) ∷
    (codes "for", kind.For_) ∷
    (codes "mod", kind.Mod_) ∷
    (codes "nil", kind.Nil) ∷
    (codes "not", kind.Not) ∷
    (codes "set", kind.Set) ∷
    (codes "shl", kind.Shl) ∷
    (codes "shr", kind.Shr) ∷
    (codes "try", kind.Try_) ∷
    (codes "var", kind.Var) ∷
    (codes "xor", kind.Xor) ∷
    []

-- reserved words of four letters
abbrev pub words_of_four : List (List ℕ × TokenKind)
words_of_four =
    (codes "case", kind.Case) ∷
    (codes "else", kind.Else_) ∷
    (codes "file", kind.File) ∷
    (codes "goto", kind.Goto) ∷
    (codes "then", kind.Then) ∷
    (codes "type", kind.Type_) ∷
    (codes "unit", kind.Unit) ∷
    (codes "uses", kind.Uses) ∷
    (codes "with", kind.With) ∷
    []

-- reserved words of five letters
abbrev pub words_of_five : List (List ℕ × TokenKind)
words_of_five =
    (codes "array", kind.Array) ∷
    (codes "begin", kind.Begin) ∷
    (codes "class", kind.Class) ∷
    (codes "const", kind.Const_) ∷
    (codes "label", kind.Label) ∷
    (codes "raise", kind.Raise) ∷
    (codes "until", kind.Until) ∷
    (codes "while", kind.While_) ∷
    []

-- reserved words of six letters
abbrev pub words_of_six : List (List ℕ × TokenKind)
words_of_six =
    (codes "downto", kind.Downto) ∷
    (codes "except", kind.Except) ∷
    (codes "inline", kind.Inline) ∷
    (codes "object", kind.Object) ∷
    (codes "packed", kind.Packed) ∷
    (codes "record", kind.Record) ∷
    (codes "repeat", kind.Repeat) ∷
    (codes "string", kind.String) ∷
    []

-- reserved words of seven letters
abbrev pub words_of_seven : List (List ℕ × TokenKind)
words_of_seven =
    (codes "exports", kind.Exports) ∷
    (codes "finally", kind.Finally) ∷
    (codes "library", kind.Library) ∷
    (codes "program", kind.Program) ∷
    []

-- reserved words of eight letters
abbrev pub words_of_eight : List (List ℕ × TokenKind)
words_of_eight =
    (codes "function", kind.Function) ∷
    (codes "operator", kind.Operator) ∷
    (codes "property", kind.Property) ∷
    []

-- reserved words of nine letters
abbrev pub words_of_nine : List (List ℕ × TokenKind)
words_of_nine =
    (codes "inherited", kind.Inherited) ∷
    (codes "interface", kind.Interface) ∷
    (codes "procedure", kind.Procedure) ∷
    (codes "threadvar", kind.Threadvar) ∷
    []

-- reserved words of ten letters and more
abbrev pub words_of_ten_up : List (List ℕ × TokenKind)
words_of_ten_up =
    (codes "destructor", kind.Destructor) ∷
    (codes "constructor", kind.Constructor) ∷
    (codes "finalization", kind.Finalization) ∷
    (codes "dispinterface", kind.Dispinterface) ∷
    (codes "implementation", kind.Implementation) ∷
    (codes "initialization", kind.Initialization) ∷
    (codes "resourcestring", kind.Resourcestring) ∷
    []

-- the reserved words that have as many letters
abbrev pub words_of_length : ℕ → List (List ℕ × TokenKind)
words_of_length n =
    (if nat_eq n 2 then words_of_two else
    (if nat_eq n 3 then words_of_three else
    (if nat_eq n 4 then words_of_four else
    (if nat_eq n 5 then words_of_five else
    (if nat_eq n 6 then words_of_six else
    (if nat_eq n 7 then words_of_seven else
    (if nat_eq n 8 then words_of_eight else
    (if nat_eq n 9 then words_of_nine else
    (if nat_lt 9 n then words_of_ten_up else [])))))))))

-- the reserved word that a text in lower case is, if it is one
unfoldable pub keyword_of : List ℕ → Option TokenKind
keyword_of word = kind_beside word (words_of_length (length word))
