-- Quoted parts of strings, byte by byte.
use Rattle.std.proofs.Common.{◌≡◌, ℕ, Bool, true, false, cond, eqb, ◌||◌, List, [], ◌∷◌, ◌++◌, refl, sym, ap, ◌∙◌, subst, append_assoc}
use Rattle.std.proofs.lemmas.Bool.{eqb-true, eqb-false, eq-eqb, false≢true, or_parts}
use Rattle.std.proofs.lemmas.Grind.{flat_map-append}
use Rattle.std.proofs.lemmas.List.Folds.{list_any-append}
use Rattle.std.specs.List.{list_any}
use Rattle.op_scan.proofs.Lists.{head_eq, tail_eq}
use Rattle.op_scan.specs.Byte.{is_line_end, begins_with}
use Rattle.op_scan.specs.Literal.{double_of, doubled, IsQuoted, AddsQuoted}

-- how the inside of a quoted part begins
pub data QuotedCase (byte : ℕ) (after text rest : List ℕ) : Type 0 where
  shut : byte ≡ 39 → text ≡ [] → after ≡ rest → begins_with rest 39 ≡ false → QuotedCase byte after text rest
  twice : (others more : List ℕ) → byte ≡ 39 → text ≡ 39 ∷ others → after ≡ 39 ∷ more → IsQuoted more others rest → QuotedCase byte after text rest
  plain : (others : List ℕ) → eqb byte 39 ≡ false → is_line_end byte ≡ false → text ≡ byte ∷ others → IsQuoted after others rest → QuotedCase byte after text rest

cases_at : (byte : ℕ) (after : List ℕ) (x : ℕ) (xs rest : List ℕ) (test : Bool) → eqb x 39 ≡ test → byte ∷ after ≡ (cond test (39 ∷ 39 ∷ []) (x ∷ []) ++ doubled xs) ++ 39 ∷ rest → is_line_end x ≡ false → list_any is_line_end xs ≡ false → begins_with rest 39 ≡ false → QuotedCase byte after (x ∷ xs) rest
cases_at byte after x xs rest true t e p one_line last =
    twice xs (doubled xs ++ 39 ∷ rest) (head_eq e) (ap (λ y. y ∷ xs) (eqb-true x 39 t)) (tail_eq e) (record { spelled = refl; one_line = one_line; last = last })
cases_at byte after x xs rest false t e p one_line last =
    let same : byte ≡ x = head_eq e in
    plain xs (subst (λ y. eqb y 39 ≡ false) (sym same) t) (subst (λ y. is_line_end y ≡ false) (sym same) p) (ap (λ y. y ∷ xs) (sym same)) (record { spelled = tail_eq e; one_line = one_line; last = last })

pub quoted_cases : (byte : ℕ) (after text rest : List ℕ) → IsQuoted (byte ∷ after) text rest → QuotedCase byte after text rest
quoted_cases byte after [] rest q = shut (head_eq q.spelled) refl (tail_eq q.spelled) q.last
quoted_cases byte after (x ∷ xs) rest q =
    let p = or_parts (is_line_end x) (list_any is_line_end xs) q.one_line in
    cases_at byte after x xs rest (eqb x 39) refl q.spelled p.0 p.1 q.last

pub not_empty : (text rest : List ℕ) → IsQuoted [] text rest → ⊥
not_empty [] rest q = absurd (let e : [] ≡ 39 ∷ rest = q.spelled in cc)
not_empty (x ∷ xs) rest q = never (eqb x 39) q.spelled
  where
    never : (test : Bool) → [] ≡ (cond test (39 ∷ 39 ∷ []) (x ∷ []) ++ doubled xs) ++ 39 ∷ rest → ⊥
    never true e = cc
    never false e = cc

-- ---- the bytes so far

pub record QuotedSoFar (bytes rest old new : List ℕ) : Type 0 where
  pub done : List ℕ
  pub spelled : bytes ≡ doubled done ++ rest
  pub one_line : list_any is_line_end done ≡ false
  pub added : new ≡ old ++ done
  pub dies : (text r : List ℕ) → IsQuoted bytes text r → (t : List ℕ) × IsQuoted rest t r

pub quoted_begins : (bytes old : List ℕ) → QuotedSoFar bytes bytes old old
quoted_begins bytes old = record { done = []; spelled = refl; one_line = refl; added = sym (append_nil old); dies = λ text r q. (text, q) }
  where
    append_nil : (xs : List ℕ) → xs ++ [] ≡ xs
    append_nil [] = refl
    append_nil (x ∷ xs) = ap (λ ys. x ∷ ys) (append_nil xs)

doubled_more : (done after spelling : List ℕ) (byte : ℕ) → double_of byte ≡ spelling → doubled (done ++ byte ∷ []) ++ after ≡ doubled done ++ (spelling ++ after)
doubled_more done after spelling byte h =
    ap (λ xs. xs ++ after) (flat_map-append double_of done (byte ∷ []) ∙ ap (λ xs. doubled done ++ (xs ++ [])) h)
    ∙ append_assoc (doubled done) (spelling ++ []) after ∙ ap (λ xs. doubled done ++ xs) (append_assoc spelling [] after)

pub line_more : (done : List ℕ) (byte : ℕ) → list_any is_line_end done ≡ false → is_line_end byte ≡ false → list_any is_line_end (done ++ byte ∷ []) ≡ false
line_more done byte d h =
    list_any-append is_line_end done (byte ∷ []) ∙ ap (λ b. b || (is_line_end byte || false)) d ∙ ap (λ b. b || false) h

plain_dies : (byte : ℕ) (after text r : List ℕ) → eqb byte 39 ≡ false → IsQuoted (byte ∷ after) text r → (t : List ℕ) × IsQuoted after t r
plain_dies byte after text r h q = elim (quoted_cases byte after text r q) [
  | shut b t a l ↦ absurd (eqb-false byte 39 h b)
  | twice others more b t a i ↦ absurd (eqb-false byte 39 h b)
  | plain others b l t i ↦ (others, i)
]

twice_dies : (byte : ℕ) (after more text r : List ℕ) → byte ≡ 39 → after ≡ 39 ∷ more → IsQuoted (byte ∷ after) text r → (t : List ℕ) × IsQuoted more t r
twice_dies byte after more text r h m q = elim (quoted_cases byte after text r q) [
  | shut b t a l ↦ absurd (false≢true (sym l ∙ ap (λ xs. begins_with xs 39) (sym a ∙ m)))
  | twice others rest b t a i ↦ (others, subst (λ xs. IsQuoted xs others r) (tail_eq (sym a ∙ m)) i)
  | plain others b l t i ↦ absurd (eqb-false byte 39 b h)
]

pub line_dies : (byte : ℕ) (after text r : List ℕ) → is_line_end byte ≡ true → IsQuoted (byte ∷ after) text r → ⊥
unfolding is_line_end
line_dies byte after text r h q = elim (quoted_cases byte after text r q) [
  | shut b t a l ↦ false≢true (ap is_line_end (sym b) ∙ h)
  | twice others more b t a i ↦ false≢true (ap is_line_end (sym b) ∙ h)
  | plain others b l t i ↦ false≢true (sym l ∙ h)
]

module _ (bytes rest old new : List ℕ) (h : QuotedSoFar bytes rest old new) (byte : ℕ) (after : List ℕ) (front : rest ≡ byte ∷ after) where
  at_front : (text r : List ℕ) → IsQuoted bytes text r → (t : List ℕ) × IsQuoted (byte ∷ after) t r
  at_front text r q = let d = h.dies text r q in (d.0, subst (λ xs. IsQuoted xs d.0 r) front d.1)

  more : (spelling others : List ℕ) → double_of byte ≡ spelling → byte ∷ after ≡ spelling ++ others → is_line_end byte ≡ false → ((text r : List ℕ) → IsQuoted bytes text r → (t : List ℕ) × IsQuoted others t r) → (newer : List ℕ) → newer ≡ new ++ byte ∷ [] → QuotedSoFar bytes others old newer
  more spelling others d e l dies newer n = record {
    done = h.done ++ byte ∷ [];
    spelled = h.spelled ∙ ap (λ xs. doubled h.done ++ xs) (front ∙ e) ∙ sym (doubled_more h.done others spelling byte d);
    one_line = line_more h.done byte h.one_line l;
    added = n ∙ ap (λ xs. xs ++ byte ∷ []) h.added ∙ append_assoc old h.done (byte ∷ []);
    dies = dies;
  }

  pub more_plain : eqb byte 39 ≡ false → is_line_end byte ≡ false → (newer : List ℕ) → newer ≡ new ++ byte ∷ [] → QuotedSoFar bytes after old newer
  more_plain b l = more (byte ∷ []) after (ap (λ t. cond t (39 ∷ 39 ∷ []) (byte ∷ [])) b) refl l
      (λ text r q. let d = at_front text r q in plain_dies byte after d.0 r b d.1)

  pub more_twice : byte ≡ 39 → (others : List ℕ) → after ≡ 39 ∷ others → is_line_end byte ≡ false → (newer : List ℕ) → newer ≡ new ++ byte ∷ [] → QuotedSoFar bytes others old newer
  more_twice b others a l = more (39 ∷ 39 ∷ []) others (ap (λ t. cond t (39 ∷ 39 ∷ []) (byte ∷ [])) (eq-eqb byte 39 b)) (ap (λ x. x ∷ after) b ∙ ap (λ xs. 39 ∷ xs) a) l
      (λ text r q. let d = at_front text r q in twice_dies byte after others d.0 r b a d.1)

  pub line_ends : is_line_end byte ≡ true → (text r : List ℕ) → IsQuoted bytes text r → ⊥
  line_ends l text r q = let d = at_front text r q in line_dies byte after d.0 r l d.1

  pub quote_ends : byte ≡ 39 → begins_with after 39 ≡ false → AddsQuoted bytes after old new
  quote_ends b a = record {
    text = h.done;
    is_quoted = record { spelled = h.spelled ∙ ap (λ xs. doubled h.done ++ xs) (front ∙ ap (λ x. x ∷ after) b); one_line = h.one_line; last = a };
    added = h.added;
  }

-- ---- a quoted part is told by its bytes

no_shut : (after rest : List ℕ) (more : List ℕ) → begins_with rest 39 ≡ false → after ≡ rest → after ≡ 39 ∷ more → ⊥
no_shut after rest more l a m = false≢true (sym l ∙ ap (λ xs. begins_with xs 39) (sym a ∙ m))

pub IsQuoted-unique : (t bytes r : List ℕ) → IsQuoted bytes t r → (t' r' : List ℕ) → IsQuoted bytes t' r' → (t ≡ t') × (r ≡ r')
IsQuoted-unique t [] r q t' r' q' = absurd (not_empty t r q)
IsQuoted-unique [] (b ∷ after) r q t' r' q' = elim (quoted_cases b after t' r' q') [
  | shut b' t a l ↦ (sym t, sym (tail_eq q.spelled) ∙ a)
  | twice others more b' t a i ↦ absurd (no_shut after r more q.last (tail_eq q.spelled) a)
  | plain others e l t i ↦ absurd (eqb-false b 39 e (head_eq q.spelled))
]
IsQuoted-unique (x ∷ xs) (b ∷ after) r q t' r' q' = elim (quoted_cases b after (x ∷ xs) r q) [
  | shut b1 t a l ↦ absurd cc
  | twice others more b1 t a i ↦ elim (quoted_cases b after t' r' q') [
    | shut b2 t2 a2 l2 ↦ absurd (no_shut after r' more l2 a2 a)
    | twice others2 more2 b2 t2 a2 i2 ↦
        let u = IsQuoted-unique xs more r (subst (λ ys. IsQuoted more ys r) (sym (tail_eq t)) i) others2 r' (subst (λ ys. IsQuoted ys others2 r') (tail_eq (sym a2 ∙ a)) i2) in
        (ap (λ y. y ∷ xs) (head_eq t) ∙ ap (λ ys. 39 ∷ ys) u.0 ∙ sym t2, u.1)
    | plain others2 e2 l2 t2 i2 ↦ absurd (eqb-false b 39 e2 b1)
  ]
  | plain others e l t i ↦ elim (quoted_cases b after t' r' q') [
    | shut b2 t2 a2 l2 ↦ absurd (eqb-false b 39 e b2)
    | twice others2 more2 b2 t2 a2 i2 ↦ absurd (eqb-false b 39 e b2)
    | plain others2 e2 l2 t2 i2 ↦
        let u = IsQuoted-unique xs after r (subst (λ ys. IsQuoted after ys r) (sym (tail_eq t)) i) others2 r' i2 in
        (ap (λ y. y ∷ xs) (head_eq t) ∙ ap (λ ys. b ∷ ys) u.0 ∙ sym t2, u.1)
  ]
]
