-- What the scanner finds in front of the bytes stands there, or nothing does.
use Rattle.std.proofs.Common.{◌≡◌, ◌≢◌, ℕ, suc, ◌+◌, ◌-◌, ◌<◌, ◌≤◌, Bool, true, false, cond, ltb, List, [], ◌∷◌, ◌++◌, take, drop, length, min, ⊎_elim, refl, sym, ap, ◌∙◌, subst, append_assoc, length-append, arith}
use Rattle.std.specs.Prelude.{nat_eq, not}
use Rattle.std.proofs.Math.Seq.{take-append_seam, take-append-add, drop-append-add, drop-append_seam}
use Rattle.std.proofs.lemmas.Bool.{false≢true}
use Rattle.std.proofs.lemmas.Bool.Decides.{nat_tests, Decides-ltb}
use Rattle.std.proofs.lemmas.List.{take-append-drop, length-take, nil_from_length}
use Rattle.std.specs.List.{prefix_len, take_while}
use Rattle.op_scan.proofs.Classes.{Means, class_means, ascii_is_digit}
use Rattle.op_scan.proofs.Items.{shape_at, append_cancel}
use Rattle.op_scan.proofs.Lists.{head_eq, begins_true}
use Rattle.op_scan.proofs.Nesting.{closes_inside, length_marks}
use Rattle.op_scan.proofs.Strings.{digits_front, digits_are, Parts-unique, parts_front}
use Rattle.op_scan.specs.Byte.{is_name_start, is_name_byte, is_blank, is_digit_in, begins_with}
use Rattle.op_scan.specs.Class.{class_at}
use Rattle.op_scan.specs.Comment.{opening, closing, Closes}
use Rattle.op_scan.specs.Directive.{rule}
use Rattle.op_scan.specs.Item.{Item, a_blank, a_comment, a_name, a_number, a_string, Stands, blank, line_comment, comment, name, number, string, rule_without}
use Rattle.op_scan.specs.Literal.{mark_of, value_of, Parts}
use Rattle.op_scan.specs.declared.class.Class.{Class}
use Rattle.op_scan.specs.declared.class.Class.TheVariants as class
use Rattle.op_scan.specs.declared.comment.Marks.{Marks}
use Rattle.op_scan.specs.declared.comment.Marks.TheVariants.{Braces, Stars}
use Rattle.op_scan.specs.declared.effect.Effect.TheVariants.{Gives, Breaks}
use Rattle.op_scan.specs.declared.number.Base.{Base}
use Rattle.op_scan.specs.declared.number.Base.TheVariants.{Decimal, Hexadecimal, Octal, Binary}
use Rattle.op_scan.specs.declared.token.TokenKind.TheVariants.{Number}

-- ---- the bytes of a class

-- the bytes of a class have a first one, but for that of symbols
pub means_first : (bytes : List ℕ) (k : Class) → class_at bytes ≡ k → k ≢ class.Symbol → (first : ℕ) × (after : List ℕ) × (bytes ≡ first ∷ after) × Means k first after
unfolding class_at
means_first [] k c n = absurd (n (sym c))
means_first (first ∷ after) k c n = (first, after, refl, subst (λ z. Means z first after) c (class_means first after))

pub run_front : (p : ℕ → Bool) (bytes : List ℕ) (n : ℕ) → n ≡ prefix_len p bytes → take n bytes ≡ take_while p (take n bytes ++ drop n bytes)
run_front p bytes n e = subst (λ z. take n bytes ≡ take_while p z) (sym (take-append-drop n bytes)) (ap (λ k. take k bytes) e)

-- a front that begins with a mark
marked : (P : List ℕ → List ℕ → Type 0) (mark bytes on : List ℕ) (n : ℕ) → bytes ≡ mark ++ on → P (mark ++ take n on) (drop n on) → P (take (length mark + n) bytes) (drop (length mark + n) bytes)
marked P mark bytes on n b h =
    let t : take (length mark + n) bytes ≡ mark ++ take n on = ap (take (length mark + n)) b ∙ take-append-add mark on n in
    let d : drop (length mark + n) bytes ≡ drop n on = ap (drop (length mark + n)) b ∙ drop-append-add mark on n in
    subst (λ z. P z (drop (length mark + n) bytes)) (sym t) (subst (P (mark ++ take n on)) (sym d) h)

-- ---- names

start_is_part : (byte : ℕ) → is_name_start byte ≡ true → is_name_byte byte ≡ true
unfolding is_name_start is_name_byte
start_is_part byte h = grind (arith, nat_tests)

pub name_front : (bytes : List ℕ) (n : ℕ) → class_at bytes ≡ class.Name → n ≡ prefix_len is_name_byte bytes → Stands (take n bytes) (drop n bytes) (a_name (take n bytes))
name_front [] n c e = absurd (let m = means_first [] class.Name c (λ z. absurd cc) in let b : [] ≡ m.0 ∷ m.1 = m.2 in cc)
name_front (first ∷ after) n c e =
    let m = means_first (first ∷ after) class.Name c (λ z. absurd cc) in
    let start : is_name_start first ≡ true = subst (λ z. is_name_start z ≡ true) (sym (head_eq m.2)) m.3 in
    let length_is : prefix_len is_name_byte (first ∷ after) ≡ 1 + prefix_len is_name_byte after = ap (λ t. cond t (1 + prefix_len is_name_byte after) 0) (start_is_part first start) in
    let k = prefix_len is_name_byte after in
    let n_is : n ≡ suc k = omega (arith, e, length_is) in
    subst (λ z. Stands (take z (first ∷ after)) (drop z (first ∷ after)) (a_name (take z (first ∷ after)))) (sym n_is)
    (name start (run_front is_name_byte (first ∷ after) (suc k) (sym n_is ∙ e)))

-- ---- numbers

pub number_marked : (base : Base) (bytes : List ℕ) → class_at bytes ≡ class.Number base → bytes ≡ mark_of base ++ drop (length (mark_of base)) bytes
number_marked Decimal bytes c = refl
number_marked Hexadecimal bytes c = let m = means_first bytes _ c (λ z. absurd cc) in m.2 ∙ ap (λ z. z ∷ m.1) m.3 ∙ ap (λ z. 36 ∷ drop 1 z) (sym m.2)
number_marked Octal bytes c = let m = means_first bytes _ c (λ z. absurd cc) in m.2 ∙ ap (λ z. z ∷ m.1) m.3 ∙ ap (λ z. 38 ∷ drop 1 z) (sym m.2)
number_marked Binary bytes c = let m = means_first bytes _ c (λ z. absurd cc) in m.2 ∙ ap (λ z. z ∷ m.1) m.3 ∙ ap (λ z. 37 ∷ drop 1 z) (sym m.2)

pub number_front : (base : Base) (bytes on : List ℕ) (n : ℕ) → bytes ≡ mark_of base ++ on → n ≡ prefix_len (is_digit_in base) on → n ≤ length on → n ≢ 0 → Stands (take (length (mark_of base) + n) bytes) (drop (length (mark_of base) + n) bytes) (a_number (value_of base (take n on)))
number_front base bytes on n b e le some =
    marked (λ p r. Stands p r (a_number (value_of base (take n on)))) (mark_of base) bytes on n b
    (number base (digits_front base on n e le some))

-- no digits stand behind the mark
pub number_missing : (base : Base) (bytes on : List ℕ) (n : ℕ) → class_at bytes ≡ class.Number base → bytes ≡ mark_of base ++ on → n ≡ prefix_len (is_digit_in base) on → n ≡ 0 → (piece rest : List ℕ) (item : Item) → bytes ≡ piece ++ rest → Stands piece rest item → ⊥
number_missing base bytes on n c b e zero_digits piece rest item front h =
    let s = shape_at bytes piece rest item (class.Number base) front c h in
    let whole : on ≡ s.0 ++ rest = append_cancel (mark_of base) on (s.0 ++ rest) (sym b ∙ front ∙ ap (λ z. z ++ rest) s.1 ∙ append_assoc (mark_of base) s.0 rest) in
    s.2.some (digits_are base on s.0 rest whole s.2 ∙ ap (λ k. take k on) (sym e ∙ zero_digits))

-- the rule where a number has no digits
pub number_rule : (base : Base) (bytes on : List ℕ) (n : ℕ) → class_at bytes ≡ class.Number base → bytes ≡ mark_of base ++ on → n ≡ prefix_len (is_digit_in base) on → n ≡ 0 → rule_without bytes ≡ rule 4
unfolding rule_without
number_rule Decimal bytes on n c b e z =
    let m = means_first bytes _ c (λ z. absurd cc) in
    let one : prefix_len (is_digit_in Decimal) (m.0 ∷ m.1) ≡ 1 + prefix_len (is_digit_in Decimal) m.1 = ap (λ t. cond t (1 + prefix_len (is_digit_in Decimal) m.1) 0) (ascii_is_digit m.0 m.3) in
    let same : prefix_len (is_digit_in Decimal) on ≡ prefix_len (is_digit_in Decimal) (m.0 ∷ m.1) = ap (prefix_len (is_digit_in Decimal)) (sym b ∙ m.2) in
    absurd (omega (arith, one, same, e, z))
number_rule Hexadecimal bytes on n c b e z = ap rule_without b
number_rule Octal bytes on n c b e z = ap rule_without b
number_rule Binary bytes on n c b e z = ap rule_without b

-- ---- comments

pub line_marked : (bytes : List ℕ) → class_at bytes ≡ class.LineComment → bytes ≡ 47 ∷ 47 ∷ drop 2 bytes
line_marked bytes c = let m = means_first bytes _ c (λ z. absurd cc) in m.2 ∙ m.3 ∙ ap (λ z. 47 ∷ 47 ∷ drop 2 z) (sym m.2)

pub line_front : (bytes on : List ℕ) (n : ℕ) → bytes ≡ 47 ∷ 47 ∷ on → n ≡ prefix_len (λ byte. not (nat_eq byte 10)) on → Stands (take (2 + n) bytes) (drop (2 + n) bytes) (a_comment (take n on))
line_front bytes on n b e =
    marked (λ p r. Stands p r (a_comment (take n on))) (47 ∷ 47 ∷ []) bytes on n b (line_comment (run_front (λ byte. not (nat_eq byte 10)) on n e))

pub comment_marked : (marks : Marks) (bytes : List ℕ) → class_at bytes ≡ class.Comment marks → bytes ≡ opening marks ++ drop (length (opening marks)) bytes
comment_marked marks bytes c =
    let m = means_first bytes _ c (λ z. absurd cc) in m.2 ∙ m.3 ∙ ap (λ z. opening marks ++ drop (length (opening marks)) z) (sym m.2)

pub comment_missing : (marks : Marks) (bytes on : List ℕ) → class_at bytes ≡ class.Comment marks → bytes ≡ opening marks ++ on → ((rest : List ℕ) → Closes marks on rest → ⊥) → (piece rest : List ℕ) (item : Item) → bytes ≡ piece ++ rest → Stands piece rest item → ⊥
comment_missing marks bytes on c b n piece rest item front h =
    let s = shape_at bytes piece rest item (class.Comment marks) front c h in
    let whole : on ≡ s.0 ++ closing marks ++ rest = append_cancel (opening marks) on (s.0 ++ closing marks ++ rest) (sym b ∙ front ∙ ap (λ z. z ++ rest) s.1 ∙ ap (λ z. z ++ rest) (append_assoc (opening marks) s.0 (closing marks)) ∙ append_assoc (opening marks) (s.0 ++ closing marks) rest) in
    n rest (subst (λ z. Closes marks z rest) (sym whole) s.2)

pub comment_rule : (marks : Marks) (bytes on : List ℕ) → bytes ≡ opening marks ++ on → rule_without bytes ≡ rule 3
unfolding rule_without
comment_rule Braces bytes on b = ap rule_without b
comment_rule Stars bytes on b = ap rule_without b

-- where a list is cut
cut : (bytes piece rest : List ℕ) (n : ℕ) → bytes ≡ piece ++ rest → n + length rest ≡ length bytes → (take n bytes ≡ piece) × (drop n bytes ≡ rest)
cut bytes piece rest n b h =
    let len : n ≡ length piece = omega (arith, h, ap length b, length-append piece rest) in (
      ap (λ k. take k bytes) len ∙ ap (take (length piece)) b ∙ take-append_seam piece rest,
      ap (λ k. drop k bytes) len ∙ ap (drop (length piece)) b ∙ drop-append_seam piece rest,
    )

module _ (marks : Marks) (on rest : List ℕ) (d : Closes marks on rest) where
  pub comment_length : length (opening marks) + length rest ≤ length on
  comment_length =
      let c = closes_inside marks on rest d in
      omega (arith, ap length c.1, length-append c.0 (closing marks ++ rest), length-append (closing marks) rest, length_marks marks)

  pub comment_front : (bytes : List ℕ) (n : ℕ) → bytes ≡ opening marks ++ on → n ≡ length on - length rest → Stands (take (length (opening marks) + n) bytes) (drop (length (opening marks) + n) bytes) (a_comment (take (n - length (opening marks)) on))
  comment_front bytes n b h =
      let c = closes_inside marks on rest d in
      let inside = c.0 in
      let lengths : length on ≡ length inside + (length (opening marks) + length rest) = omega (arith, ap length c.1, length-append inside (closing marks ++ rest), length-append (closing marks) rest, length_marks marks) in
      let whole : on ≡ (inside ++ closing marks) ++ rest = c.1 ∙ sym (append_assoc inside (closing marks) rest) in
      let ends = cut on (inside ++ closing marks) rest n whole (omega (arith, lengths, h)) in
      let is : take (n - length (opening marks)) on ≡ inside = (cut on inside (closing marks ++ rest) (n - length (opening marks)) c.1 (omega (arith, lengths, h, length-append (closing marks) rest, length_marks marks))).0 in
      marked (λ p r. Stands p r (a_comment (take (n - length (opening marks)) on))) (opening marks) bytes on n b
      (subst (λ i. Stands (opening marks ++ take n on) (drop n on) (a_comment i)) (sym is)
      (subst (λ p. Stands (opening marks ++ p) (drop n on) (a_comment inside)) (sym ends.0)
      (subst (λ r. Stands (opening marks ++ (inside ++ closing marks)) r (a_comment inside)) (sym ends.1)
      (subst (λ p. Stands p rest (a_comment inside)) (append_assoc (opening marks) inside (closing marks))
      (comment marks (subst (λ z. Closes marks z rest) whole d))))))

-- ---- strings

module _ (bytes rest text : List ℕ) (d : Parts bytes rest text) where
  pub string_length : length rest ≤ length bytes
  string_length = let f = parts_front bytes rest text d in omega (arith, ap length f.1, length-append f.0 rest)

  pub string_front : (n : ℕ) → n ≡ length bytes - length rest → n ≢ 0 → Stands (take n bytes) (drop n bytes) (a_string text)
  string_front n h some =
      let f = parts_front bytes rest text d in
      let c = cut bytes f.0 rest n f.1 (omega (arith, h, string_length)) in
      subst (λ r. Stands (take n bytes) r (a_string text)) (sym c.1)
      (string (λ e. some (omega (arith, ap length e, length-take n bytes, h, string_length)))
      (subst (λ z. Parts z rest text) (f.1 ∙ ap (λ p. p ++ rest) (sym c.0)) d))

  pub string_missing : class_at bytes ≡ class.String → length bytes - length rest ≡ 0 → (piece after : List ℕ) (item : Item) → bytes ≡ piece ++ after → Stands piece after item → ⊥
  string_missing c none piece after item front h =
      let s = shape_at bytes piece after item class.String front c h in
      let same = (Parts-unique bytes rest text d after s.0 s.2).0 in
      s.1 (nil_from_length piece (omega (arith, none, ap length front, length-append piece after, ap length same)))

pub hash_rule : (bytes : List ℕ) → begins_with bytes 35 ≡ true → rule_without bytes ≡ rule 5
unfolding rule_without
hash_rule bytes h = ap rule_without (begins_true bytes 35 h)

pub quote_rule : (bytes : List ℕ) → class_at bytes ≡ class.String → begins_with bytes 35 ≡ false → rule_without bytes ≡ rule 2
unfolding rule_without
quote_rule bytes c h =
    let m = means_first bytes _ c (λ z. absurd cc) in
    ⊎_elim
    (λ e. ap rule_without (m.2 ∙ ap (λ z. z ∷ m.1) e))
    (λ e. absurd (false≢true (sym h ∙ ap (λ z. begins_with z 35) (m.2 ∙ ap (λ z. z ∷ m.1) e))))
    m.3

-- ---- what a number does

pub number_effect : (value cut : ℕ) → cut ≡ min value 2147483649 → cond (ltb 2147483648 cut) (Breaks (rule 4)) (Gives (Number cut)) ≡ cond (ltb 2147483648 value) (Breaks (rule 4)) (Gives (Number value))
number_effect value cut e = at (ltb 2147483648 value) refl
  where
    at : (test : Bool) → ltb 2147483648 value ≡ test → cond (ltb 2147483648 cut) (Breaks (rule 4)) (Gives (Number cut)) ≡ cond test (Breaks (rule 4)) (Gives (Number value))
    at true h =
        let v : 2147483648 < value = (Decides-ltb 2147483648 value).0 h in
        ap (λ t. cond t (Breaks (rule 4)) (Gives (Number cut))) ((Decides-ltb 2147483648 cut).1 (omega (arith, v, e)))
    at false h =
        let v : value ≤ 2147483648 = grind (arith, nat_tests) in
        let same : cut ≡ value = omega (arith, v, e) in
        ap (λ z. cond (ltb 2147483648 z) (Breaks (rule 4)) (Gives (Number z))) same ∙ ap (λ t. cond t (Breaks (rule 4)) (Gives (Number value))) h

-- ---- blanks

pub blank_front : (bytes : List ℕ) → class_at bytes ≡ class.Blank → (1 ≤ length bytes) × Stands (take 1 bytes) (drop 1 bytes) a_blank
blank_front [] c = absurd (let m = means_first [] class.Blank c (λ z. absurd cc) in let b : [] ≡ m.0 ∷ m.1 = m.2 in cc)
blank_front (first ∷ after) c =
    let m = means_first (first ∷ after) class.Blank c (λ z. absurd cc) in
    (omega arith, blank (subst (λ z. is_blank z ≡ true) (sym (head_eq m.2)) m.3))
