-- Each word of a print stands for its token, before what does not run into it.
use Rattle.std.proofs.Common.{◌≡◌, ℕ, true, false, cond, ◌&&◌, List, [], ◌∷◌, take, Some, None, refl, ap, ◌∙◌}
use Rattle.std.specs.Prelude.{nat_eq}
use Rattle.std.proofs.lemmas.Bool.{or_parts}
use Rattle.op_print.proofs.Quotes.{spelled_string}
use Rattle.op_print.proofs.Words.{IsApart, apart_tests, IsSpelled, spelled_identifier, spelled_name, spelled_number}
use Rattle.op_print.specs.Page.{last_byte}
use Rattle.op_print.specs.Scanned.{IsSpellable}
use Rattle.op_print.specs.Spelling.{spelling}
use Rattle.op_scan.proofs.SymbolFronts.{one_front, two_front}
use Rattle.op_scan.specs.Byte.{is_name_start, is_name_byte, is_blank, begins_with}
use Rattle.op_scan.specs.Class.{class_of, class_at}
use Rattle.op_scan.specs.Item.{a_symbol, Stands}
use Rattle.op_scan.specs.Keyword.{kind_beside, keyword_of}
use Rattle.op_scan.specs.Symbol.{symbols_of_one, symbols_of_two}
use Rattle.op_scan.specs.declared.class.Class.TheVariants as class
use Rattle.op_scan.specs.declared.token.TokenKind.{TokenKind}
use Rattle.op_scan.specs.declared.token.TokenKind.TheVariants as kind

-- a symbol of one byte, where no symbol of two begins there
one_symbol : (b : ℕ) (k : TokenKind) (rest : List ℕ) → class_at (b ∷ rest) ≡ class.Symbol → kind_beside (b ∷ []) symbols_of_one ≡ Some k → kind_beside (b ∷ take 1 rest) symbols_of_two ≡ None → Stands (b ∷ []) rest (a_symbol k)
one_symbol b k rest c e n = one_front (b ∷ rest) c k e n

two_symbol : (b d : ℕ) (k : TokenKind) (rest : List ℕ) → class_at (b ∷ d ∷ rest) ≡ class.Symbol → kind_beside (b ∷ d ∷ []) symbols_of_two ≡ Some k → Stands (b ∷ d ∷ []) rest (a_symbol k)
two_symbol b d k rest c e = two_front (b ∷ d ∷ rest) c k e

plain : (b : ℕ) (k : TokenKind) (rest : List ℕ) → spelling k ≡ b ∷ [] → class_at (b ∷ rest) ≡ class.Symbol → kind_beside (b ∷ []) symbols_of_one ≡ Some k → kind_beside (b ∷ take 1 rest) symbols_of_two ≡ None → IsSpelled k rest
plain b k rest s c e n = record { item = a_symbol k; stands = rw s (one_symbol b k rest c e n); gives = λ s. refl }

double : (b d : ℕ) (k : TokenKind) (rest : List ℕ) → spelling k ≡ b ∷ d ∷ [] → class_at (b ∷ d ∷ rest) ≡ class.Symbol → kind_beside (b ∷ d ∷ []) symbols_of_two ≡ Some k → IsSpelled k rest
double b d k rest s c e = record { item = a_symbol k; stands = rw s (two_symbol b d k rest c e); gives = λ s. refl }

-- ---- what follows

no_star : (rest : List ℕ) → IsApart 40 rest → begins_with rest 42 ≡ false
no_star [] h = refl
no_star (x ∷ xs) h = (apart_tests 40 x h).comment

no_slash : (rest : List ℕ) → IsApart 47 rest → begins_with rest 47 ≡ false
no_slash [] h = refl
no_slash (x ∷ xs) h = (apart_tests 47 x h).line_comment

no_range : (rest : List ℕ) → IsApart 46 rest → kind_beside (46 ∷ take 1 rest) symbols_of_two ≡ None
no_range [] h = refl
no_range (x ∷ xs) h = ap (λ t. cond (t && true) (Some kind.DotDot) None) (apart_tests 46 x h).range

no_assignment : (rest : List ℕ) → IsApart 58 rest → kind_beside (58 ∷ take 1 rest) symbols_of_two ≡ None
no_assignment [] h = refl
no_assignment (x ∷ xs) h = ap (λ t. cond (t && true) (Some kind.Assign) None) (apart_tests 58 x h).assignment

no_greater : (rest : List ℕ) → IsApart 62 rest → kind_beside (62 ∷ take 1 rest) symbols_of_two ≡ None
no_greater [] h = refl
no_greater (x ∷ xs) h = ap (λ t. cond (t && true) (Some kind.GreaterEqual) None) (apart_tests 62 x h).greater

no_less : (rest : List ℕ) → IsApart 60 rest → kind_beside (60 ∷ take 1 rest) symbols_of_two ≡ None
no_less [] h = refl
no_less (x ∷ xs) h =
    let e = or_parts (nat_eq x 61) (nat_eq x 62) (apart_tests 60 x h).less in
    ap (λ t. cond (t && true) (Some kind.LessEqual) (cond (nat_eq x 62 && true) (Some kind.NotEqual) None)) e.0
    ∙ ap (λ t. cond (t && true) (Some kind.NotEqual) None) e.1

bracket_class : (rest : List ℕ) → begins_with rest 42 ≡ false → class_at (40 ∷ rest) ≡ class.Symbol
unfolding class_at class_of is_name_start is_blank
bracket_class rest h = rw h refl

slash_class : (rest : List ℕ) → begins_with rest 47 ≡ false → class_at (47 ∷ rest) ≡ class.Symbol
unfolding class_at class_of is_name_start is_blank
slash_class rest h = rw h refl

-- ---- the words

pub spelled : (k : TokenKind) (rest : List ℕ) → IsSpellable k → IsApart (last_byte (spelling k)) rest → IsSpelled k rest
unfolding class_at class_of is_name_start is_blank is_name_byte keyword_of
spelled (kind.Identifier text) rest h a = spelled_identifier text rest h a
spelled (kind.Number n) rest h a = spelled_number n rest h a
spelled (kind.CharacterString text) rest h a = spelled_string text rest h a
spelled kind.Plus rest h a = plain 43 kind.Plus rest refl refl refl refl
spelled kind.Minus rest h a = plain 45 kind.Minus rest refl refl refl refl
spelled kind.Star rest h a = plain 42 kind.Star rest refl refl refl refl
spelled kind.Slash rest h a = plain 47 kind.Slash rest refl (slash_class rest (no_slash rest a)) refl refl
spelled kind.Equal rest h a = plain 61 kind.Equal rest refl refl refl refl
spelled kind.Less rest h a = plain 60 kind.Less rest refl refl refl (no_less rest a)
spelled kind.Greater rest h a = plain 62 kind.Greater rest refl refl refl (no_greater rest a)
spelled kind.LessEqual rest h a = double 60 61 kind.LessEqual rest refl refl refl
spelled kind.GreaterEqual rest h a = double 62 61 kind.GreaterEqual rest refl refl refl
spelled kind.NotEqual rest h a = double 60 62 kind.NotEqual rest refl refl refl
spelled kind.Assign rest h a = double 58 61 kind.Assign rest refl refl refl
spelled kind.OpenParenthesis rest h a = plain 40 kind.OpenParenthesis rest refl (bracket_class rest (no_star rest a)) refl refl
spelled kind.CloseParenthesis rest h a = plain 41 kind.CloseParenthesis rest refl refl refl refl
spelled kind.OpenBracket rest h a = plain 91 kind.OpenBracket rest refl refl refl refl
spelled kind.CloseBracket rest h a = plain 93 kind.CloseBracket rest refl refl refl refl
spelled kind.Comma rest h a = plain 44 kind.Comma rest refl refl refl refl
spelled kind.Semicolon rest h a = plain 59 kind.Semicolon rest refl refl refl refl
spelled kind.Colon rest h a = plain 58 kind.Colon rest refl refl refl (no_assignment rest a)
spelled kind.Dot rest h a = plain 46 kind.Dot rest refl refl refl (no_range rest a)
spelled kind.DotDot rest h a = double 46 46 kind.DotDot rest refl refl refl
spelled k rest h a = spelled_name k rest refl refl refl refl a
