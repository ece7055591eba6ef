-- The tokens of a text can be tokens: what the scanner gives keeps its bounds.
use Rattle.std.proofs.Common.{◌≡◌, ℕ, ◌≤◌, Bool, true, false, cond, ◌&&◌, ◌||◌, List, [], ◌∷◌, ◌++◌, codes, length, map, Option, Some, None, refl, sym, ap, ◌∙◌, subst}
use Rattle.std.specs.Prelude.{nat_eq, nat_lt, not, unwrap_or}
use Rattle.std.proofs.lemmas.Bool.{and_parts, ltb-false}
use Rattle.std.specs.Char.{to_ascii_lowercase}
use Rattle.std.specs.List.{list_all, take_while}
use Rattle.std.specs.Str.{bytes_eq}
use Rattle.std.proofs.lemmas.List.Sums.{take_while-cons}
use Rattle.op_base.specs.declared.rule.Rule.{Rule}
use Rattle.op_print.proofs.Printed.{Able}
use Rattle.op_print.proofs.Words.{true_false}
use Rattle.op_print.specs.Scanned.{IsSpellable}
use Rattle.op_scan.proofs.Scanning.{gives_same}
use Rattle.op_scan.specs.Byte.{begins_with, is_blank, is_name_start, is_name_byte}
use Rattle.op_scan.specs.Directive.{rule, is_word, argument_of, switched, with_switch, effect_of_switches, effect_of_mode, effect_of_interfaces, effect_of_state, effect_of_name, effect_of_letter, effect_of_named, effect_of_directive, effect_of_comment}
use Rattle.op_scan.specs.Item.{Item, Stands, blank, line_comment, comment, name, number, string, symbol, effect_of}
use Rattle.op_scan.specs.Keyword.{kind_beside, words_of_length, keyword_of}
use Rattle.op_scan.specs.Scan.{Scans, ends, passes, gives, breaks, nothing, Outcome, whole, refused, preceded}
use Rattle.op_scan.specs.Symbol.{symbol_of, symbols_of_one, symbols_of_two}
use Rattle.op_scan.specs.declared.effect.Effect.{Effect}
use Rattle.op_scan.specs.declared.effect.Effect.TheVariants.{Passes, Gives, Breaks}
use Rattle.op_scan.specs.declared.token.Switches.{Switches}
use Rattle.op_scan.specs.declared.token.Token.{Token}
use Rattle.op_scan.specs.declared.token.TokenKind.{TokenKind}
use Rattle.op_scan.specs.declared.token.TokenKind.TheVariants as kind
use Rattle.op_tree.specs.Terminal.{terminals}

-- ---- comments give no token

data Quiet : Effect → Type 0 where
  passing : {s : Switches} → Quiet (Passes s)
  breaking : {r : Rule} → Quiet (Breaks r)

gives_not : {A : Type 0} {x : Effect} {k : TokenKind} → Quiet x → x ≡ Gives k → A
gives_not passing e = absurd cc
gives_not breaking e = absurd cc

either_quiet : (b : Bool) {x y : Effect} → Quiet x → Quiet y → Quiet (cond b x y)
either_quiet true p q = p
either_quiet false p q = q

quiet_switches : (o : Option Switches) → Quiet (effect_of_switches o)
quiet_switches None = breaking
quiet_switches (Some s) = passing

quiet_mode : (s : Switches) (mode : List ℕ) → Quiet (effect_of_mode s mode)
unfolding effect_of_mode
quiet_mode s mode = either_quiet _ passing (either_quiet _ breaking breaking)

quiet_interfaces : (s : Switches) (argument : List ℕ) → Quiet (effect_of_interfaces s argument)
unfolding effect_of_interfaces
quiet_interfaces s argument = either_quiet _ passing (either_quiet _ breaking breaking)

quiet_state : (s : Switches) (letter : ℕ) (state : List ℕ) → Quiet (effect_of_state s letter state)
unfolding effect_of_state
quiet_state s letter state = either_quiet (is_word state (codes "on")) (passing {s = with_switch s letter true}) (either_quiet (is_word state (codes "off")) (passing {s = with_switch s letter false}) (breaking {r = rule 6}))

quiet_name : (s : Switches) (word argument : List ℕ) → Quiet (effect_of_name s word argument)
unfolding effect_of_name
quiet_name s word argument = either_quiet _ (quiet_mode s argument) (either_quiet _ (quiet_interfaces s argument) (either_quiet _ (quiet_state s 104 argument) (either_quiet _ (quiet_state s 113 argument) (either_quiet _ (quiet_state s 114 argument) passing))))

quiet_letter : (s : Switches) (word rest text : List ℕ) → Quiet (effect_of_letter s word rest text)
unfolding effect_of_letter
quiet_letter s word rest text =
    either_quiet (begins_with rest 43 || begins_with rest 45) (quiet_switches (switched s (take_while (λ byte. not (is_blank byte)) text)))
    (either_quiet (is_word word (codes "i")) (breaking {r = rule 8})
    (either_quiet (is_word word (codes "h") || is_word word (codes "q") || is_word word (codes "r") && nat_eq (length (argument_of rest)) 0) (breaking {r = rule 6}) (passing {s = s})))

quiet_named : (s : Switches) (word rest text : List ℕ) → Quiet (effect_of_named s word rest text)
unfolding effect_of_named
quiet_named s word rest text = either_quiet _ breaking (either_quiet _ (quiet_letter s word rest text) (quiet_name s word _))

quiet_directive : (s : Switches) (text : List ℕ) → Quiet (effect_of_directive s text)
unfolding effect_of_directive
quiet_directive s text = quiet_named s _ _ text

quiet_comment : (s : Switches) (inside : List ℕ) → Quiet (effect_of_comment s inside)
unfolding effect_of_comment
quiet_comment s [] = passing
quiet_comment s (byte ∷ text) = either_quiet _ (quiet_directive s text) passing

-- ---- reserved words and symbols

abbrev is_plain : TokenKind → Bool
is_plain (kind.Identifier text) = false
is_plain (kind.Number n) = false
is_plain (kind.CharacterString text) = false
is_plain other = true

plain_spellable : (k : TokenKind) → is_plain k ≡ true → IsSpellable k
plain_spellable (kind.Identifier text) h = true_false (sym h)
plain_spellable (kind.Number n) h = true_false (sym h)
plain_spellable (kind.CharacterString text) h = true_false (sym h)
plain_spellable other h = tt

abbrev all_plain : List (List ℕ × TokenKind) → Bool
all_plain rows = list_all (λ row. is_plain row.1) rows

first_or_later : (b : Bool) (j k : TokenKind) (o : Option TokenKind) → cond b (Some j) o ≡ Some k → is_plain j ≡ true → (o ≡ Some k → is_plain k ≡ true) → is_plain k ≡ true
first_or_later true j k o e p h = subst (λ z. is_plain z ≡ true) (some_kind e) p
  where
    some_kind : {x y : TokenKind} → Some x ≡ Some y → x ≡ y
    some_kind q = cc
first_or_later false j k o e p h = h e

beside_plain : (w : List ℕ) (rows : List (List ℕ × TokenKind)) (k : TokenKind) → kind_beside w rows ≡ Some k → all_plain rows ≡ true → is_plain k ≡ true
beside_plain w [] k e h = absurd cc
beside_plain w (row ∷ rows) k e h =
    let b = and_parts (is_plain row.1) (all_plain rows) h in
    first_or_later (bytes_eq w row.0) row.1 k (kind_beside w rows) e b.0 (λ q. beside_plain w rows k q b.1)

either_plain : (b : Bool) (x y : List (List ℕ × TokenKind)) → all_plain x ≡ true → all_plain y ≡ true → all_plain (cond b x y) ≡ true
either_plain true x y p q = p
either_plain false x y p q = q

words_plain : (n : ℕ) → all_plain (words_of_length n) ≡ true
words_plain n =
    either_plain (nat_eq n 2) _ _ refl (either_plain (nat_eq n 3) _ _ refl (either_plain (nat_eq n 4) _ _ refl (either_plain (nat_eq n 5) _ _ refl
    (either_plain (nat_eq n 6) _ _ refl (either_plain (nat_eq n 7) _ _ refl (either_plain (nat_eq n 8) _ _ refl (either_plain (nat_eq n 9) _ _ refl
    (either_plain (nat_lt 9 n) _ _ refl refl))))))))

keyword_plain : (w : List ℕ) (k : TokenKind) → keyword_of w ≡ Some k → is_plain k ≡ true
unfolding keyword_of
keyword_plain w k e = beside_plain w (words_of_length (length w)) k e (words_plain (length w))

symbol_plain : (w : List ℕ) (k : TokenKind) → symbol_of w ≡ Some k → is_plain k ≡ true
unfolding symbol_of
symbol_plain w k e = beside_plain w _ k e (either_plain (nat_eq (length w) 1) symbols_of_one _ refl (either_plain (nat_eq (length w) 2) symbols_of_two [] refl refl))

-- ---- items

-- what is given is what stands behind a test of a bound
within : (b : Bool) (r : Rule) (j k : TokenKind) → cond b (Breaks r) (Gives j) ≡ Gives k → (b ≡ false → IsSpellable j) → IsSpellable k
within true r j k e h = absurd cc
within false r j k e h = subst IsSpellable (gives_same e) (h refl)

all_taken : (p : ℕ → Bool) (xs : List ℕ) → list_all p (take_while p xs) ≡ true
all_taken p [] = refl
all_taken p (x ∷ xs) = ap (list_all p) (take_while-cons p x xs) ∙ go (p x) refl (all_taken p xs)
  where
    go : (b : Bool) → p x ≡ b → list_all p (take_while p xs) ≡ true → list_all p (cond b (x ∷ take_while p xs) []) ≡ true
    go true e h = ap (λ t. t && list_all p (take_while p xs)) e ∙ h
    go false e h = refl

name_or_word : (first : ℕ) (others : List ℕ) (o : Option TokenKind) → is_name_start first ≡ true → list_all is_name_byte (first ∷ others) ≡ true → length (first ∷ others) ≤ 127 → keyword_of (map to_ascii_lowercase (first ∷ others)) ≡ o → IsSpellable (unwrap_or o (kind.Identifier (first ∷ others)))
name_or_word first others None b a n e = record { first = b; others = a; short = n; not_reserved = e }
name_or_word first others (Some k) b a n e = plain_spellable k (keyword_plain (map to_ascii_lowercase (first ∷ others)) k e)

token_spellable : {piece rest : List ℕ} {item : Item} → Stands piece rest item → (s : Switches) (k : TokenKind) → effect_of s item ≡ Gives k → IsSpellable k
token_spellable (blank b) s k e = absurd cc
token_spellable (line_comment {inside = inside} c) s k e = gives_not (quiet_comment s inside) e
token_spellable (comment marks {inside = inside} c) s k e = gives_not (quiet_comment s inside) e
token_spellable (name {first = first} {others = others} {rest = rest} b t) s k e =
    let a : list_all is_name_byte (first ∷ others) ≡ true = ap (list_all is_name_byte) t ∙ all_taken is_name_byte (first ∷ others ++ rest) in
    within (nat_lt 127 (length (first ∷ others))) (rule 65) (unwrap_or (keyword_of (map to_ascii_lowercase (first ∷ others))) (kind.Identifier (first ∷ others))) k e
    (λ n. name_or_word first others (keyword_of (map to_ascii_lowercase (first ∷ others))) b a (ltb-false 127 (length (first ∷ others)) n) refl)
token_spellable (number base d) s k e = within _ (rule 4) _ k e (λ n. ltb-false 2147483648 _ n)
token_spellable (string n p) s k e = within _ (rule 66) _ k e (λ n. ltb-false 65535 _ n)
token_spellable (symbol {piece = piece} {kind = j} q l c m) s k e = subst IsSpellable (gives_same e) (plain_spellable j (symbol_plain piece j q))

-- ---- texts

abbrev AbleOutcome : Outcome → Type 0
AbleOutcome (whole tokens end) = Able (terminals tokens)
AbleOutcome (refused refusal) = Unit {0}

preceded_able : (token : Token) (others : Outcome) → IsSpellable token.kind → AbleOutcome others → AbleOutcome (preceded token others)
preceded_able token (whole tokens end) h a = (h, a)
preceded_able token (refused refusal) h a = tt

pub tokens_able : {file mark : ℕ} {before : List ℕ} {s : Switches} {bytes : List ℕ} {o : Outcome} → Scans file mark before s bytes o → AbleOutcome o
tokens_able ends = tt
tokens_able (passes p r i e h f d) = tokens_able d
tokens_able {s = s} (gives k others p r i e h f d q) = subst AbleOutcome (sym q) (preceded_able _ others (token_spellable h s k f) (tokens_able d))
tokens_able (breaks k p r i e h f q) = subst AbleOutcome (sym q) tt
tokens_able (nothing n h q) = subst AbleOutcome (sym q) tt
