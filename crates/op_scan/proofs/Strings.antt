-- Parts of strings: each is told by its bytes, and so is a run of them.
use Rattle.std.proofs.Common.{◌≡◌, ◌≢◌, ℕ, ◌+◌, ◌≤◌, Bool, true, false, cond, eqb, List, [], ◌∷◌, ◌++◌, take, drop, length, Option, Some, None, MatchOption, refl, sym, ap, ◌∙◌, subst, append_assoc, arith}
use Rattle.std.proofs.lemmas.Bool.{eqb-false, false≢true}
use Rattle.std.proofs.lemmas.List.{take-append-drop, length-take}
use Rattle.std.specs.List.{prefix_len, take_while}
use Rattle.op_scan.proofs.Lists.{head_eq, tail_eq}
use Rattle.op_scan.proofs.Quoting.{IsQuoted-unique}
use Rattle.op_scan.specs.Byte.{is_digit_in, begins_with}
use Rattle.op_scan.specs.Literal.{doubled, IsQuoted, AreDigits, IsCharacter, value_of, Part, quoted, decimal, hexadecimal, NoPart, AddsPart, Parts, stop, more, AddsParts, AddsQuoted}
use Rattle.op_scan.specs.declared.number.Base.{Base}
use Rattle.op_scan.specs.declared.number.Base.TheVariants.{Decimal, Hexadecimal}

pub append_nil : {A : Type 0} (xs : List A) → xs ++ [] ≡ xs
append_nil [] = refl
append_nil (x ∷ xs) = ap (λ ys. x ∷ ys) (append_nil xs)

-- ---- digits

pub digits_front : (base : Base) (bytes : List ℕ) (n : ℕ) → n ≡ prefix_len (is_digit_in base) bytes → n ≤ length bytes → n ≢ 0 → AreDigits base (take n bytes) (drop n bytes)
digits_front base bytes n e le some = record {
  some = λ empty. some (omega (arith, length-take n bytes, ap length empty));
  longest = subst (λ z. take n bytes ≡ take_while (is_digit_in base) z) (sym (take-append-drop n bytes)) (ap (λ k. take k bytes) e);
}

pub digits_are : (base : Base) (bytes digits rest : List ℕ) → bytes ≡ digits ++ rest → AreDigits base digits rest → digits ≡ take_while (is_digit_in base) bytes
digits_are base bytes digits rest e d = subst (λ z. digits ≡ take_while (is_digit_in base) z) (sym e) d.longest

pub digit_head : (base : Base) (first : ℕ) (others rest : List ℕ) → AreDigits base (first ∷ others) rest → is_digit_in base first ≡ true
digit_head base first others rest d = at (is_digit_in base first) refl d.longest
  where
    at : (test : Bool) → is_digit_in base first ≡ test → first ∷ others ≡ take (cond test (1 + prefix_len (is_digit_in base) (others ++ rest)) 0) (first ∷ others ++ rest) → is_digit_in base first ≡ true
    at true h e = h
    at false h e = absurd cc

dollar_is_no_digit : is_digit_in Decimal 36 ≡ false
unfolding is_digit_in
dollar_is_no_digit = refl

-- ---- one part

pub data PartCase (first : ℕ) (after text rest : List ℕ) : Type 0 where
  in_quotes : first ≡ 39 → IsQuoted after text rest → PartCase first after text rest
  by_decimal : (digits : List ℕ) → first ≡ 35 → after ≡ digits ++ rest → IsCharacter Decimal digits rest → text ≡ value_of Decimal digits ∷ [] → PartCase first after text rest
  by_hexadecimal : (digits : List ℕ) → first ≡ 35 → after ≡ 36 ∷ (digits ++ rest) → IsCharacter Hexadecimal digits rest → text ≡ value_of Hexadecimal digits ∷ [] → PartCase first after text rest

pub part_cases : (first : ℕ) (after piece rest text : List ℕ) → first ∷ after ≡ piece ++ rest → Part piece rest text → PartCase first after text rest
part_cases first after piece rest text e (quoted l b) =
    in_quotes (head_eq e) (record { spelled = tail_eq e ∙ append_assoc (doubled text) (39 ∷ []) rest; one_line = l; last = b })
part_cases first after piece rest text e (decimal {digits = digits} h) = by_decimal digits (head_eq e) (tail_eq e) h refl
part_cases first after piece rest text e (hexadecimal {digits = digits} h) = by_hexadecimal digits (head_eq e) (tail_eq e) h refl

pub part_not_empty : (piece rest text : List ℕ) → Part piece rest text → piece ≢ []
part_not_empty piece rest text (quoted l b) e = absurd cc
part_not_empty piece rest text (decimal h) e = absurd cc
part_not_empty piece rest text (hexadecimal h) e = absurd cc

pub no_part_empty : NoPart []
no_part_empty [] rest text e p = part_not_empty [] rest text p refl
no_part_empty (x ∷ piece) rest text e p = absurd cc

-- decimal digits do not begin with `$`
no_dollar : (digits rest others : List ℕ) → IsCharacter Decimal digits rest → digits ++ rest ≡ 36 ∷ others → ⊥
no_dollar [] rest others h e = h.are_digits.some refl
no_dollar (d ∷ digits) rest others h e =
    false≢true (sym dollar_is_no_digit ∙ ap (is_digit_in Decimal) (sym (head_eq e)) ∙ digit_head Decimal d digits rest h.are_digits)

-- a character ends where its digits do
character_unique : (base : Base) (digits rest digits' rest' bytes : List ℕ) → bytes ≡ digits ++ rest → bytes ≡ digits' ++ rest' → IsCharacter base digits rest → IsCharacter base digits' rest' → (rest ≡ rest') × (digits ≡ digits')
character_unique base digits rest digits' rest' bytes e e' h h' =
    let same : digits ≡ digits' = digits_are base bytes digits rest e h.are_digits ∙ sym (digits_are base bytes digits' rest' e' h'.are_digits) in
    (append_cancel digits rest rest' (sym e ∙ e' ∙ ap (λ xs. xs ++ rest') (sym same)), same)
  where
    append_cancel : (xs ys zs : List ℕ) → xs ++ ys ≡ xs ++ zs → ys ≡ zs
    append_cancel [] ys zs e = e
    append_cancel (x ∷ xs) ys zs e = append_cancel xs ys zs (tail_eq e)

39≢35 : (x : ℕ) → x ≡ 39 → x ≡ 35 → ⊥
39≢35 x a b = eqb-false 39 35 refl (sym a ∙ b)

case_unique : (first : ℕ) (after t r t' r' : List ℕ) → PartCase first after t r → PartCase first after t' r' → (r ≡ r') × (t ≡ t')
case_unique first after t r t' r' (in_quotes f q) (in_quotes f' q') = let u = IsQuoted-unique t after r q t' r' q' in (u.1, u.0)
case_unique first after t r t' r' (in_quotes f q) (by_decimal ds f' a h x) = absurd (39≢35 first f f')
case_unique first after t r t' r' (in_quotes f q) (by_hexadecimal ds f' a h x) = absurd (39≢35 first f f')
case_unique first after t r t' r' (by_decimal ds f a h x) (in_quotes f' q') = absurd (39≢35 first f' f)
case_unique first after t r t' r' (by_decimal ds f a h x) (by_decimal ds' f' a' h' x') =
    let u = character_unique Decimal ds r ds' r' after a a' h h' in (u.0, x ∙ ap (λ z. value_of Decimal z ∷ []) u.1 ∙ sym x')
case_unique first after t r t' r' (by_decimal ds f a h x) (by_hexadecimal ds' f' a' h' x') = absurd (no_dollar ds r _ h (sym a ∙ a'))
case_unique first after t r t' r' (by_hexadecimal ds f a h x) (in_quotes f' q') = absurd (39≢35 first f' f)
case_unique first after t r t' r' (by_hexadecimal ds f a h x) (by_decimal ds' f' a' h' x') = absurd (no_dollar ds' r' _ h' (sym a' ∙ a))
case_unique first after t r t' r' (by_hexadecimal ds f a h x) (by_hexadecimal ds' f' a' h' x') =
    let u = character_unique Hexadecimal ds r ds' r' (ds ++ r) refl (tail_eq (sym a ∙ a')) h h' in (u.0, x ∙ ap (λ z. value_of Hexadecimal z ∷ []) u.1 ∙ sym x')

pub Part-unique : (bytes p r t p' r' t' : List ℕ) → bytes ≡ p ++ r → bytes ≡ p' ++ r' → Part p r t → Part p' r' t' → (r ≡ r') × (t ≡ t')
Part-unique [] p r t p' r' t' e e' h h' = absurd (no_part_empty p r t e h)
Part-unique (b ∷ bytes) p r t p' r' t' e e' h h' = case_unique b bytes t r t' r' (part_cases b bytes p r t e h) (part_cases b bytes p' r' t' e' h')

pub Parts-unique : (bytes r t : List ℕ) → Parts bytes r t → (r' t' : List ℕ) → Parts bytes r' t' → (r ≡ r') × (t ≡ t')
Parts-unique bytes r t (stop n) r' t' (stop n') = (refl, refl)
Parts-unique bytes r t (stop n) r' t' (more p a x e h d) = absurd (n p a x e h)
Parts-unique bytes r t (more p a x e h d) r' t' (stop n) = absurd (n p a x e h)
Parts-unique bytes r t (more {others = o} p a x e h d) r' t' (more {others = o'} p' a' x' e' h' d') =
    let u = Part-unique bytes p a x p' a' x' e e' h h' in
    let v = Parts-unique a r o d r' o' (subst (λ z. Parts z r' o') (sym u.0) d') in
    (v.0, ap (λ z. z ++ o) u.1 ∙ ap (λ z. x' ++ z) v.1)

pub parts_front : (bytes r t : List ℕ) → Parts bytes r t → (piece : List ℕ) × (bytes ≡ piece ++ r)
parts_front bytes r t (stop n) = ([], refl)
parts_front bytes r t (more {others = o} p a x e h d) =
    let f = parts_front a r o d in (p ++ f.0, e ∙ ap (λ z. p ++ z) f.1 ∙ sym (append_assoc p f.0 r))

-- ---- the loop over parts

pub record PartsSoFar (bytes rest old new : List ℕ) : Type 0 where
  pub done : List ℕ
  pub added : new ≡ old ++ done
  pub completes : (r others : List ℕ) → Parts rest r others → Parts bytes r (done ++ others)

pub parts_begin : (bytes old : List ℕ) → PartsSoFar bytes bytes old old
parts_begin bytes old = record { done = []; added = sym (append_nil old); completes = λ r others h. h }

pub parts_more : (bytes rest after old new newer : List ℕ) → PartsSoFar bytes rest old new → AddsPart rest after new newer → PartsSoFar bytes after old newer
parts_more bytes rest after old new newer h a = record {
  done = h.done ++ a.text;
  added = a.added ∙ ap (λ xs. xs ++ a.text) h.added ∙ append_assoc old h.done a.text;
  completes = λ r others d. subst (λ z. Parts bytes r z) (sym (append_assoc h.done a.text others)) (h.completes r (a.text ++ others) (more a.piece after a.text a.front a.is_part d));
}

pub parts_end : (bytes rest old new : List ℕ) → PartsSoFar bytes rest old new → NoPart rest → AddsParts bytes rest old new
parts_end bytes rest old new h n = record {
  text = h.done;
  are_parts = subst (λ z. Parts bytes rest z) (append_nil h.done) (h.completes rest [] (stop n));
  added = h.added;
}

-- ---- the parts in the code

pub quoted_part_found : (bytes rest old new : List ℕ) → AddsQuoted bytes rest old new → AddsPart (39 ∷ bytes) rest old new
quoted_part_found bytes rest old new h = record {
  piece = 39 ∷ doubled h.text ++ 39 ∷ [];
  text = h.text;
  front = ap (λ xs. 39 ∷ xs) (h.is_quoted.spelled ∙ sym (append_assoc (doubled h.text) (39 ∷ []) rest));
  is_part = quoted h.is_quoted.one_line h.is_quoted.last;
  added = h.added;
}

pub hexadecimal_missing : (digits : List ℕ) → ((ds rest : List ℕ) → digits ≡ ds ++ rest → IsCharacter Hexadecimal ds rest → ⊥) → NoPart (35 ∷ 36 ∷ digits)
hexadecimal_missing digits n piece rest text e p = elim (part_cases 35 (36 ∷ digits) piece rest text e p) [
  | in_quotes f q ↦ 39≢35 35 f refl
  | by_decimal ds f a h x ↦ no_dollar ds rest digits h (sym a)
  | by_hexadecimal ds f a h x ↦ n ds rest (tail_eq a) h
]

pub decimal_missing : (bytes : List ℕ) → begins_with bytes 36 ≡ false → ((ds rest : List ℕ) → bytes ≡ ds ++ rest → IsCharacter Decimal ds rest → ⊥) → NoPart (35 ∷ bytes)
decimal_missing bytes b n piece rest text e p = elim (part_cases 35 bytes piece rest text e p) [
  | in_quotes f q ↦ 39≢35 35 f refl
  | by_decimal ds f a h x ↦ n ds rest a h
  | by_hexadecimal ds f a h x ↦ false≢true (sym b ∙ ap (λ z. begins_with z 36) a)
]

pub no_part_here : (first : ℕ) (after : List ℕ) → eqb first 39 ≡ false → eqb first 35 ≡ false → NoPart (first ∷ after)
no_part_here first after a b piece rest text e p = elim (part_cases first after piece rest text e p) [
  | in_quotes f q ↦ eqb-false first 39 a f
  | by_decimal ds f a' h x ↦ eqb-false first 35 b f
  | by_hexadecimal ds f a' h x ↦ eqb-false first 35 b f
]

-- ---- characters by number

pub match_weaker : {X : Type 0} (r : Option X) {P P' : Type 0} {Q Q' : X → Type 0} → MatchOption r P Q → (P → P') → ((x : X) → Q x → Q' x) → MatchOption r P' Q'
match_weaker None h f g = f h
match_weaker (Some x) h f g = g x h

pub hexadecimal_found : (bytes rest : List ℕ) (byte : ℕ) → bytes ≡ 36 ∷ drop 1 bytes → (ds : List ℕ) × (drop 1 bytes ≡ ds ++ rest) × IsCharacter Hexadecimal ds rest × (value_of Hexadecimal ds ≡ byte) → (piece : List ℕ) × (35 ∷ bytes ≡ piece ++ rest) × Part piece rest (byte ∷ [])
hexadecimal_found bytes rest byte b h =
    (35 ∷ 36 ∷ h.0, ap (λ xs. 35 ∷ xs) (b ∙ ap (λ xs. 36 ∷ xs) h.1), subst (λ v. Part (35 ∷ 36 ∷ h.0) rest (v ∷ [])) h.3 (hexadecimal h.2))

pub decimal_found : (bytes rest : List ℕ) (byte : ℕ) → (ds : List ℕ) × (bytes ≡ ds ++ rest) × IsCharacter Decimal ds rest × (value_of Decimal ds ≡ byte) → (piece : List ℕ) × (35 ∷ bytes ≡ piece ++ rest) × Part piece rest (byte ∷ [])
decimal_found bytes rest byte h =
    (35 ∷ h.0, ap (λ xs. 35 ∷ xs) h.1, subst (λ v. Part (35 ∷ h.0) rest (v ∷ [])) h.3 (decimal h.2))

pub hexadecimal_no_part : (bytes : List ℕ) → bytes ≡ 36 ∷ drop 1 bytes → ((ds rest : List ℕ) → drop 1 bytes ≡ ds ++ rest → IsCharacter Hexadecimal ds rest → ⊥) → NoPart (35 ∷ bytes)
hexadecimal_no_part bytes b n = subst (λ xs. NoPart (35 ∷ xs)) (sym b) (hexadecimal_missing (drop 1 bytes) n)
