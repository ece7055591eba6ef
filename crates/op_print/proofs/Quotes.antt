-- A string of a print stands for its token, before what is no quote.
use Rattle.std.proofs.Common.{◌≡◌, ◌≢◌, ℕ, ◌-◌, ◌≤◌, Bool, true, false, cond, ◌||◌, List, [], ◌∷◌, ◌++◌, length, get_or, refl, sym, ap, ◌∙◌, subst, append_assoc, length-append, arith}
use Rattle.std.specs.Prelude.{nat_eq}
use Rattle.std.specs.List.{flat_map, list_any}
use Rattle.std.proofs.lemmas.Bool.{eqb-true, le-ltb, or_parts}
use Rattle.std.proofs.lemmas.Grind.{flat_map-append}
use Rattle.op_print.proofs.Words.{take_while-all, IsApart, apart_tests, IsSpelled}
use Rattle.op_print.specs.Page.{last_byte}
use Rattle.op_print.specs.Spelling.{quoted, quoted_byte}
use Rattle.op_scan.proofs.Quoting.{line_more}
use Rattle.op_scan.proofs.Strings.{append_nil, no_part_empty, no_part_here}
use Rattle.op_scan.specs.Byte.{begins_with, is_line_end, is_digit_in}
use Rattle.op_scan.specs.Directive.{rule}
use Rattle.op_scan.specs.Item.{a_string, string}
use Rattle.op_scan.specs.Literal.{double_of, doubled, NoPart, quoted as quoted_part, decimal, Parts, stop, more, IsCharacter, value_of}
use Rattle.op_scan.specs.declared.effect.Effect.TheVariants.{Gives, Breaks}
use Rattle.op_scan.specs.declared.number.Base.TheVariants.{Decimal}
use Rattle.op_scan.specs.declared.token.TokenKind.TheVariants as kind

-- the inside of the quotes and the last one
abbrev inside : List ℕ → List ℕ
inside text = flat_map quoted_byte text ++ 39 ∷ []

-- the parts that begin with a quote: some bytes of a quoted part, which are done, and what follows
abbrev Opens : List ℕ → List ℕ → List ℕ → Type 0
Opens done text rest = Parts (39 ∷ (doubled done ++ (inside text ++ rest))) rest (done ++ text)

doubled-push : (done : List ℕ) (x : ℕ) → doubled (done ++ x ∷ []) ≡ doubled done ++ double_of x
doubled-push done x = flat_map-append double_of done (x ∷ []) ∙ ap (λ z. doubled done ++ z) (append_nil (double_of x))

regroup : (a b c d : List ℕ) → (a ++ b) ++ (c ++ d) ≡ a ++ ((b ++ c) ++ d)
regroup a b c d = append_assoc a b (c ++ d) ∙ ap (λ z. a ++ z) (sym (append_assoc b c d))

-- a byte that stands in the quotes
one_more : (done : List ℕ) (x : ℕ) (text rest fragment : List ℕ) → double_of x ≡ fragment → Opens (done ++ x ∷ []) text rest → Parts (39 ∷ (doubled done ++ ((fragment ++ inside text) ++ rest))) rest (done ++ x ∷ text)
one_more done x text rest fragment e h =
    let l : doubled (done ++ x ∷ []) ++ (inside text ++ rest) ≡ doubled done ++ ((fragment ++ inside text) ++ rest) =
    ap (λ z. z ++ (inside text ++ rest)) (doubled-push done x ∙ ap (λ z. doubled done ++ z) e) ∙ regroup (doubled done) fragment (inside text) rest in
    subst (λ z. Parts z rest (done ++ x ∷ text)) (ap (λ z. 39 ∷ z) l)
    (subst (λ z. Parts (39 ∷ (doubled (done ++ x ∷ []) ++ (inside text ++ rest))) rest z) (append_assoc done (x ∷ []) text) h)

-- a character by its number between two quoted parts
by_number : (done digits text rest : List ℕ) → list_any is_line_end done ≡ false → IsCharacter Decimal digits (39 ∷ (inside text ++ rest)) → Parts (39 ∷ (inside text ++ rest)) rest text → Parts ((39 ∷ doubled done ++ 39 ∷ []) ++ ((35 ∷ digits) ++ (39 ∷ (inside text ++ rest)))) rest (done ++ value_of Decimal digits ∷ text)
by_number done digits text rest l c h =
    more (39 ∷ doubled done ++ 39 ∷ []) ((35 ∷ digits) ++ (39 ∷ (inside text ++ rest))) done refl (quoted_part l refl)
    (more (35 ∷ digits) (39 ∷ (inside text ++ rest)) (value_of Decimal digits ∷ []) refl (decimal c) h)

carriage_return : (rest : List ℕ) → IsCharacter Decimal (49 ∷ 51 ∷ []) (39 ∷ rest)
unfolding is_digit_in
carriage_return rest = record {
  are_digits = record { some = λ e. cc; longest = sym (take_while-all (is_digit_in Decimal) (49 ∷ 51 ∷ []) (39 ∷ rest) refl refl) };
  in_range = omega arith;
}

line_feed : (rest : List ℕ) → IsCharacter Decimal (49 ∷ 48 ∷ []) (39 ∷ rest)
unfolding is_digit_in
line_feed rest = record {
  are_digits = record { some = λ e. cc; longest = sym (take_while-all (is_digit_in Decimal) (49 ∷ 48 ∷ []) (39 ∷ rest) refl refl) };
  in_range = omega arith;
}

no_line_end : (x : ℕ) → nat_eq x 13 ≡ false → nat_eq x 10 ≡ false → is_line_end x ≡ false
unfolding is_line_end
no_line_end x u v = ap (λ t. t || nat_eq x 10) u ∙ v

quote_is_no_line_end : (x : ℕ) → x ≡ 39 → is_line_end x ≡ false
unfolding is_line_end
quote_is_no_line_end x e = ap is_line_end e

-- The next byte of the text, where the others go on from any part that is begun.
next_byte : (done : List ℕ) (x : ℕ) (text rest : List ℕ) → list_any is_line_end done ≡ false → ((d : List ℕ) → list_any is_line_end d ≡ false → Opens d text rest) → Parts (39 ∷ (doubled done ++ ((quoted_byte x ++ inside text) ++ rest))) rest (done ++ x ∷ text)
next_byte done x text rest l h = at (nat_eq x 39) (nat_eq x 13) (nat_eq x 10) refl refl refl
  where
    at : (t u v : Bool) → nat_eq x 39 ≡ t → nat_eq x 13 ≡ u → nat_eq x 10 ≡ v → Parts (39 ∷ (doubled done ++ ((cond t (39 ∷ 39 ∷ []) (cond u (39 ∷ 35 ∷ 49 ∷ 51 ∷ 39 ∷ []) (cond v (39 ∷ 35 ∷ 49 ∷ 48 ∷ 39 ∷ []) (x ∷ []))) ++ inside text) ++ rest))) rest (done ++ x ∷ text)
    at true u v p q r =
        let e : double_of x ≡ 39 ∷ 39 ∷ [] = ap (λ t. cond t (39 ∷ 39 ∷ []) (x ∷ [])) p in
        one_more done x text rest (39 ∷ 39 ∷ []) e (h (done ++ x ∷ []) (line_more done x l (quote_is_no_line_end x (eqb-true x 39 p))))
    at false true v p q r =
        let e = append_assoc (39 ∷ doubled done) (39 ∷ []) (35 ∷ 49 ∷ 51 ∷ 39 ∷ (inside text ++ rest)) in
        subst (λ z. Parts (39 ∷ (doubled done ++ (39 ∷ 35 ∷ 49 ∷ 51 ∷ 39 ∷ (inside text ++ rest)))) rest (done ++ z ∷ text)) (sym (eqb-true x 13 q))
        (subst (λ z. Parts z rest (done ++ 13 ∷ text)) e (by_number done (49 ∷ 51 ∷ []) text rest l (carriage_return (inside text ++ rest)) (h [] refl)))
    at false false true p q r =
        let e = append_assoc (39 ∷ doubled done) (39 ∷ []) (35 ∷ 49 ∷ 48 ∷ 39 ∷ (inside text ++ rest)) in
        subst (λ z. Parts (39 ∷ (doubled done ++ (39 ∷ 35 ∷ 49 ∷ 48 ∷ 39 ∷ (inside text ++ rest)))) rest (done ++ z ∷ text)) (sym (eqb-true x 10 r))
        (subst (λ z. Parts z rest (done ++ 10 ∷ text)) e (by_number done (49 ∷ 48 ∷ []) text rest l (line_feed (inside text ++ rest)) (h [] refl)))
    at false false false p q r =
        let e : double_of x ≡ x ∷ [] = ap (λ t. cond t (39 ∷ 39 ∷ []) (x ∷ [])) p in
        one_more done x text rest (x ∷ []) e (h (done ++ x ∷ []) (line_more done x l (no_line_end x q r)))

open_part : (text rest : List ℕ) → NoPart rest → begins_with rest 39 ≡ false → (done : List ℕ) → list_any is_line_end done ≡ false → Opens done text rest
open_part [] rest n q done l =
    let e : 39 ∷ (doubled done ++ 39 ∷ rest) ≡ (39 ∷ doubled done ++ 39 ∷ []) ++ rest = ap (λ z. 39 ∷ z) (sym (append_assoc (doubled done) (39 ∷ []) rest)) in
    more (39 ∷ doubled done ++ 39 ∷ []) rest done e (quoted_part l q) (stop n)
open_part (x ∷ text) rest n q done l =
    subst (λ z. Parts (39 ∷ (doubled done ++ (z ++ rest))) rest (done ++ x ∷ text)) (sym (append_assoc (quoted_byte x) (flat_map quoted_byte text) (39 ∷ [])))
    (next_byte done x text rest l (open_part text rest n q))

-- ---- what stands behind a string

last_behind : (xs : List ℕ) (y : ℕ) → get_or (xs ++ y ∷ []) (length xs) 10 ≡ y
last_behind [] y = refl
last_behind (x ∷ xs) y = last_behind xs y

last_append : (xs : List ℕ) (y : ℕ) → last_byte (xs ++ y ∷ []) ≡ y
last_append xs y =
    let n : length (xs ++ y ∷ []) - 1 ≡ length xs = omega (arith, length-append xs (y ∷ [])) in
    ap (λ k. get_or (xs ++ y ∷ []) k 10) n ∙ last_behind xs y

no_part : (rest : List ℕ) → IsApart 39 rest → NoPart rest × (begins_with rest 39 ≡ false)
no_part [] h = (no_part_empty, refl)
no_part (y ∷ rest) h =
    let e = or_parts (nat_eq y 39) (nat_eq y 35) (apart_tests 39 y h).strings in
    (no_part_here y rest e.0 e.1, e.0)

not_empty : (xs : List ℕ) → 39 ∷ xs ≢ []
not_empty xs e = cc

pub spelled_string : (text rest : List ℕ) → length text ≤ 65535 → IsApart (last_byte (quoted text)) rest → IsSpelled (kind.CharacterString text) rest
unfolding quoted
spelled_string text rest h a =
    let n = no_part rest (subst (λ z. IsApart z rest) (last_append (39 ∷ flat_map quoted_byte text) 39) a) in
    record {
      item = a_string text;
      stands = string (not_empty (inside text)) (open_part text rest n.0 n.1 [] refl);
      gives = λ s. ap (λ t. cond t (Breaks (rule 66)) (Gives (kind.CharacterString text))) (le-ltb 65535 (length text) h);
    }
