-- What the first token of a part tells.
use Rattle.std.specs.Prelude.{◌≡◌, ℕ, Bool, true, false, List, [], ◌∷◌, Option, Some, None, map}
use Rattle.std.specs.Char.{to_ascii_lowercase}
use Rattle.std.specs.Str.{bytes_eq}
use Rattle.op_scan.specs.declared.token.TokenKind.{TokenKind}
use Rattle.op_scan.specs.declared.token.TokenKind.TheVariants as kind
use Rattle.op_parse_code.specs.declared.mark.Mark.{Mark}
use Rattle.op_parse_code.specs.declared.mark.Mark.TheVariants as mark
use Rattle.op_parse_code.specs.declared.opening.FactorOpening.{FactorOpening}
use Rattle.op_parse_code.specs.declared.opening.FactorOpening.TheVariants as opens
use Rattle.op_parse_code.specs.declared.opening.RootOpening.{RootOpening}
use Rattle.op_parse_code.specs.declared.opening.RootOpening.TheVariants as root
use Rattle.op_parse_code.specs.declared.opening.SelectorOpening.{SelectorOpening}
use Rattle.op_parse_code.specs.declared.opening.SelectorOpening.TheVariants as selects
use Rattle.op_parse_code.specs.declared.opening.StatementOpening.{StatementOpening}
use Rattle.op_parse_code.specs.declared.opening.StatementOpening.TheVariants as opens_statement
use Rattle.op_parse_code.specs.declared.opening.Word.{Word}
use Rattle.op_parse_code.specs.declared.opening.Word.TheVariants as word
use Rattle.op_tree.specs.Ends.{IsNot, binds, begins_selector, begins_designator, begins_expression, begins_statement}
use Rattle.op_tree.specs.Operator.{operator_of, prefix_operator_of, level_of}
use Rattle.op_tree.specs.Terminal.{Terminal, ◌at◌}
use Rattle.op_tree.specs.declared.operator.Level.{Level}
use Rattle.op_tree.specs.declared.operator.Level.TheVariants.{Relational, Additive, Multiplicative}
use Rattle.op_tree.specs.declared.operator.Operator.{Operator}
use Rattle.op_tree.specs.declared.position.Position.{Position}

-- the letters of an identifier or a string
abbrev pub spelled : TokenKind → List ℕ
spelled (kind.Identifier text) = text
spelled (kind.CharacterString text) = text
spelled other = []

-- a factor that begins with a token of this kind begins so
abbrev pub OpensFactor : FactorOpening → TokenKind → Type 0
OpensFactor (opens.Number n) k = k ≡ kind.Number n
OpensFactor opens.Nil k = k ≡ kind.Nil
OpensFactor opens.Set k = k ≡ kind.OpenBracket
OpensFactor opens.Literal k = k ≡ kind.CharacterString (spelled k)
OpensFactor opens.Inherited k = k ≡ kind.Inherited
OpensFactor (opens.Prefix o) k = prefix_operator_of k ≡ Some o
OpensFactor opens.Designator k = begins_designator k ≡ true
OpensFactor opens.Nothing k = begins_expression k ≡ false

abbrev pub OpensRoot : RootOpening → TokenKind → Type 0
OpensRoot root.Name k = k ≡ kind.Identifier (spelled k)
OpensRoot root.String k = k ≡ kind.String
OpensRoot root.Bracket k = k ≡ kind.OpenParenthesis
OpensRoot root.Nothing k = begins_designator k ≡ false

abbrev pub OpensSelector : SelectorOpening → TokenKind → Type 0
OpensSelector selects.Member k = k ≡ kind.Dot
OpensSelector selects.Index k = k ≡ kind.OpenBracket
OpensSelector selects.Call k = k ≡ kind.OpenParenthesis
OpensSelector selects.Nothing k = begins_selector k ≡ false

-- the token that a word is
abbrev pub kind_of_word : Word → TokenKind
kind_of_word word.Begin = kind.Begin
kind_of_word word.If_ = kind.If_
kind_of_word word.Case = kind.Case
kind_of_word word.While_ = kind.While_
kind_of_word word.Repeat = kind.Repeat
kind_of_word word.For_ = kind.For_
kind_of_word word.Try_ = kind.Try_
kind_of_word word.Inherited = kind.Inherited

-- a statement that begins with a token of this kind begins so
abbrev pub OpensStatement : StatementOpening → TokenKind → Type 0
OpensStatement (opens_statement.Word w) k = k ≡ kind_of_word w
OpensStatement opens_statement.Raise k = k ≡ kind.Raise
OpensStatement opens_statement.Designator k = begins_designator k ≡ true
OpensStatement opens_statement.Nothing k = begins_statement k ≡ false

-- the mark that a token is
abbrev pub mark_of : TokenKind → Option Mark
mark_of kind.Comma = Some mark.Comma
mark_of kind.Colon = Some mark.Colon
mark_of kind.Semicolon = Some mark.Semicolon
mark_of kind.DotDot = Some mark.DotDot
mark_of kind.Dot = Some mark.Dot
mark_of kind.Assign = Some mark.Assign
mark_of kind.CloseParenthesis = Some mark.CloseParenthesis
mark_of kind.CloseBracket = Some mark.CloseBracket
mark_of kind.Then = Some mark.Then
mark_of kind.Else_ = Some mark.Else_
mark_of kind.Of = Some mark.Of
mark_of kind.Do_ = Some mark.Do_
mark_of kind.Until = Some mark.Until
mark_of kind.In_ = Some mark.In_
mark_of kind.Except = Some mark.Except
mark_of kind.Finally = Some mark.Finally
mark_of kind.End = Some mark.End
mark_of kind.Equal = Some mark.Equal
mark_of kind.OpenParenthesis = Some mark.OpenParenthesis
mark_of kind.OpenBracket = Some mark.OpenBracket
mark_of kind.Array = Some mark.Array
mark_of kind.Record = Some mark.Record
mark_of kind.Set = Some mark.Set
mark_of kind.Case = Some mark.Case
mark_of kind.Const_ = Some mark.Const_
mark_of kind.Var = Some mark.Var
mark_of kind.Inline = Some mark.Inline
mark_of kind.Begin = Some mark.Begin
mark_of kind.Interface = Some mark.Interface
mark_of kind.Implementation = Some mark.Implementation
mark_of kind.Initialization = Some mark.Initialization
mark_of kind.Finalization = Some mark.Finalization
mark_of kind.Program = Some mark.Program
mark_of kind.Uses = Some mark.Uses
mark_of kind.Class = Some mark.Class
mark_of kind.Property = Some mark.Property
mark_of kind.Unit = Some mark.Unit
mark_of kind.Type_ = Some mark.Type_
mark_of other = None

-- the token that a mark is
abbrev pub kind_of : Mark → TokenKind
kind_of mark.Comma = kind.Comma
kind_of mark.Colon = kind.Colon
kind_of mark.Semicolon = kind.Semicolon
kind_of mark.DotDot = kind.DotDot
kind_of mark.Dot = kind.Dot
kind_of mark.Assign = kind.Assign
kind_of mark.CloseParenthesis = kind.CloseParenthesis
kind_of mark.CloseBracket = kind.CloseBracket
kind_of mark.Then = kind.Then
kind_of mark.Else_ = kind.Else_
kind_of mark.Of = kind.Of
kind_of mark.Do_ = kind.Do_
kind_of mark.Until = kind.Until
kind_of mark.In_ = kind.In_
kind_of mark.Except = kind.Except
kind_of mark.Finally = kind.Finally
kind_of mark.End = kind.End
kind_of mark.Equal = kind.Equal
kind_of mark.OpenParenthesis = kind.OpenParenthesis
kind_of mark.OpenBracket = kind.OpenBracket
kind_of mark.Array = kind.Array
kind_of mark.Record = kind.Record
kind_of mark.Set = kind.Set
kind_of mark.Case = kind.Case
kind_of mark.Const_ = kind.Const_
kind_of mark.Var = kind.Var
kind_of mark.Inline = kind.Inline
kind_of mark.Begin = kind.Begin
kind_of mark.Interface = kind.Interface
kind_of mark.Implementation = kind.Implementation
kind_of mark.Initialization = kind.Initialization
kind_of mark.Finalization = kind.Finalization
kind_of mark.Program = kind.Program
kind_of mark.Uses = kind.Uses
kind_of mark.Class = kind.Class
kind_of mark.Property = kind.Property
kind_of mark.Unit = kind.Unit
kind_of mark.Type_ = kind.Type_

abbrev pub is_identifier : TokenKind → Bool
is_identifier (kind.Identifier text) = true
is_identifier other = false

abbrev pub is_number : TokenKind → Bool
is_number (kind.Number n) = true
is_number other = false

-- the kind is an identifier that is spelled like this word, in any case of letters
abbrev pub is_word : List ℕ → TokenKind → Bool
is_word word (kind.Identifier text) = bytes_eq (map to_ascii_lowercase text) (map to_ascii_lowercase word)
is_word word other = false

-- an operator of the level stands at the front
abbrev pub StandsOperator : Level → Operator → Position → List Terminal → List Terminal → Type 0
StandsOperator l o p ks r = (k : TokenKind) × (ks ≡ k at p ∷ r) × (operator_of k ≡ Some o) × (level_of o ≡ l)

abbrev pub NoOperator : Level → List Terminal → Type 0
NoOperator l ks = (o : Operator) (p : Position) (r : List Terminal) → StandsOperator l o p ks r → ⊥

-- no operator that binds more tightly than the level stands at the front
abbrev pub NotTighter : Level → List Terminal → Type 0
NotTighter Relational ks = IsNot (binds Additive) ks
NotTighter Additive ks = IsNot (binds Multiplicative) ks
NotTighter Multiplicative ks = Unit {0}
