-- One item stands at a place.
use Rattle.std.proofs.Common.{◌≡◌, ◌≢◌, ℕ, Bool, true, false, cond, eqb, ◌||◌, List, [], ◌∷◌, ◌++◌, take, length, Some, None, ◌⊎◌, inl, inr, ⊎_elim, refl, sym, ap, ◌∙◌, subst, append_assoc, length-append, arith}
use Rattle.std.specs.Prelude.{nat_eq, not}
use Rattle.std.specs.Str.{bytes_eq}
use Rattle.std.proofs.Math.Seq.{take-append_seam}
use Rattle.std.proofs.lemmas.Bool.{eqb-true, eq-eqb, false≢true, and_parts, or_left, or_right}
use Rattle.std.proofs.lemmas.Option.{none-some, same_Some}
use Rattle.std.specs.List.{take_while}
use Rattle.op_scan.proofs.Lists.{head_eq, tail_eq}
use Rattle.op_scan.proofs.Nesting.{Closes-unique}
use Rattle.op_scan.proofs.Strings.{append_nil, digits_are, digit_head, Parts-unique, part_cases, in_quotes, by_decimal, by_hexadecimal}
use Rattle.op_scan.proofs.Classes.{class_name, class_blank, class_digit}
use Rattle.op_scan.specs.Byte.{is_name_start, is_name_byte, is_blank, begins_with}
use Rattle.op_scan.specs.Class.{class_of, class_at}
use Rattle.op_scan.specs.Comment.{opening, closing, Closes}
use Rattle.op_scan.specs.Item.{Item, NoLongerSymbol, a_blank, a_comment, a_name, a_number, a_string, a_symbol, Stands, blank, line_comment, comment, name, number, string, symbol}
use Rattle.op_scan.specs.Keyword.{kind_beside}
use Rattle.op_scan.specs.Literal.{AreDigits, mark_of, value_of, Parts, stop, more}
use Rattle.op_scan.specs.Symbol.{symbol_of, symbols_of_one, symbols_of_two}
use Rattle.op_scan.specs.declared.class.Class.{Class}
use Rattle.op_scan.specs.declared.class.Class.TheVariants as class
use Rattle.op_scan.specs.declared.comment.Marks.{Marks}
use Rattle.op_scan.specs.declared.comment.Marks.TheVariants.{Braces, Stars}
use Rattle.op_scan.specs.declared.number.Base.{Base}
use Rattle.op_scan.specs.declared.number.Base.TheVariants.{Decimal, Hexadecimal, Octal, Binary}
use Rattle.op_scan.specs.declared.token.TokenKind.{TokenKind}

-- ---- lists

pub append_cancel : (xs ys zs : List ℕ) → xs ++ ys ≡ xs ++ zs → ys ≡ zs
append_cancel [] ys zs e = e
append_cancel (x ∷ xs) ys zs e = append_cancel xs ys zs (tail_eq e)

pub append_cancel_right : (xs ys zs : List ℕ) → xs ++ zs ≡ ys ++ zs → xs ≡ ys
append_cancel_right xs ys zs e =
    let same : length xs ≡ length ys = omega (arith, ap length e, length-append xs zs, length-append ys zs) in
    sym (take-append_seam xs zs) ∙ ap (λ n. take n (xs ++ zs)) same ∙ ap (take (length ys)) e ∙ take-append_seam ys zs

-- of two fronts of a list, one is a front of the other
pub fronts : (p r p' r' : List ℕ) → p ++ r ≡ p' ++ r' → ((m : List ℕ) × (p' ≡ p ++ m) × (r ≡ m ++ r')) ⊎ ((m : List ℕ) × (p ≡ p' ++ m) × (r' ≡ m ++ r))
fronts [] r p' r' e = inl (p', refl, e)
fronts (x ∷ p) r [] r' e = inr (x ∷ p, refl, sym e)
fronts (x ∷ p) r (y ∷ p') r' e =
    ⊎_elim
    (λ h. inl (h.0, ap (λ z. z ∷ p') (sym (head_eq e)) ∙ ap (λ zs. x ∷ zs) h.1, h.2))
    (λ h. inr (h.0, ap (λ z. z ∷ p) (head_eq e) ∙ ap (λ zs. y ∷ zs) h.1, h.2))
    (fronts p r p' r' (tail_eq e))

-- ---- the shape of an item of a class

abbrev pub Shape : Class → List ℕ → List ℕ → List ℕ → Item → Type 0
Shape class.Name bytes piece rest item = (piece ≡ take_while is_name_byte bytes) × (item ≡ a_name piece)
Shape class.Blank bytes piece rest item = (byte : ℕ) × (piece ≡ byte ∷ []) × (item ≡ a_blank)
Shape (class.Number base) bytes piece rest item = (digits : List ℕ) × (piece ≡ mark_of base ++ digits) × AreDigits base digits rest × (item ≡ a_number (value_of base digits))
Shape (class.Comment marks) bytes piece rest item = (inside : List ℕ) × (piece ≡ opening marks ++ inside ++ closing marks) × Closes marks (inside ++ closing marks ++ rest) rest × (item ≡ a_comment inside)
Shape class.LineComment bytes piece rest item = (inside : List ℕ) × (piece ≡ 47 ∷ 47 ∷ inside) × (inside ≡ take_while (λ byte. not (nat_eq byte 10)) (inside ++ rest)) × (item ≡ a_comment inside)
Shape class.String bytes piece rest item = (text : List ℕ) × (piece ≢ []) × Parts bytes rest text × (item ≡ a_string text)
Shape class.Symbol bytes piece rest item = (kind : TokenKind) × (symbol_of piece ≡ Some kind) × NoLongerSymbol piece rest × (item ≡ a_symbol kind)

-- ---- symbols begin with few bytes

first_in : List (List ℕ × TokenKind) → ℕ → Bool
first_in [] first = false
first_in (row ∷ rows) first = begins_with row.0 first || first_in rows first

same_first : (word row : List ℕ) (first : ℕ) (others : List ℕ) → word ≡ first ∷ others → bytes_eq word row ≡ true → begins_with row first ≡ true
same_first [] row first others w h = absurd cc
same_first (x ∷ xs) [] first others w h = absurd (false≢true h)
same_first (x ∷ xs) (y ∷ ys) first others w h =
    let p = and_parts (eqb x y) (bytes_eq xs ys) h in
    eq-eqb y first (sym (eqb-true x y p.0) ∙ head_eq w)

or_elim : {X : Type 0} (a b : Bool) → (a || b) ≡ true → (a ≡ true → X) → (b ≡ true → X) → X
or_elim true b h f g = f refl
or_elim false b h f g = g h

kind_first : (word : List ℕ) (first : ℕ) (others : List ℕ) (kind : TokenKind) → word ≡ first ∷ others → (rows : List (List ℕ × TokenKind)) → kind_beside word rows ≡ Some kind → first_in rows first ≡ true
unfolding first_in
kind_first word first others kind w [] e = absurd (none-some kind e)
kind_first word first others kind w (row ∷ rows) e = at (bytes_eq word row.0) refl (λ g. kind_first word first others kind w rows g) e
  where
    at : (test : Bool) → bytes_eq word row.0 ≡ test → (kind_beside word rows ≡ Some kind → first_in rows first ≡ true) → cond test (Some row.1) (kind_beside word rows) ≡ Some kind → (begins_with row.0 first || first_in rows first) ≡ true
    at true h f g = or_left (begins_with row.0 first) (first_in rows first) (same_first word row.0 first others w h)
    at false h f g = or_right (begins_with row.0 first) (first_in rows first) (f g)

RowsHold : (ℕ → Type 0) → List (List ℕ × TokenKind) → Type 0
RowsHold P [] = Unit {0}
RowsHold P (([], kind) ∷ rows) = RowsHold P rows
RowsHold P ((first ∷ others, kind) ∷ rows) = P first × RowsHold P rows

first_elim : (P : ℕ → Type 0) (rows : List (List ℕ × TokenKind)) → RowsHold P rows → (first : ℕ) → first_in rows first ≡ true → P first
unfolding first_in RowsHold
first_elim P [] all first h = absurd (false≢true h)
first_elim P (([], kind) ∷ rows) all first h = first_elim P rows all first h
first_elim P ((c ∷ cs, kind) ∷ rows) all first h =
    or_elim (eqb c first) (first_in rows first) h
    (λ e. subst P (eqb-true c first e) all.0)
    (λ e. first_elim P rows all.1 first e)

abbrev IsSymbolStart : ℕ → Type 0
IsSymbolStart first = (after : List ℕ) → ((rest : List ℕ) → first ∷ after ≢ 47 ∷ 47 ∷ rest) → ((rest : List ℕ) → first ∷ after ≢ 40 ∷ 42 ∷ rest) → class_of first after ≡ class.Symbol

not_begins : (bytes : List ℕ) (byte : ℕ) → ((rest : List ℕ) → bytes ≢ byte ∷ rest) → begins_with bytes byte ≡ false
not_begins [] byte n = refl
not_begins (x ∷ xs) byte n = at (eqb x byte) refl
  where
    at : (test : Bool) → eqb x byte ≡ test → test ≡ false
    at true h = absurd (n xs (ap (λ z. z ∷ xs) (eqb-true x byte h)))
    at false h = refl

slash_start : IsSymbolStart 47
unfolding class_of is_name_start is_blank
slash_start after n m = ap (λ t. cond t class.LineComment class.Symbol) (not_begins after 47 (λ rest e. n rest (ap (λ xs. 47 ∷ xs) e)))

open_start : IsSymbolStart 40
unfolding class_of is_name_start is_blank
open_start after n m = ap (λ t. cond t (class.Comment Stars) class.Symbol) (not_begins after 42 (λ rest e. m rest (ap (λ xs. 40 ∷ xs) e)))

ones_start : RowsHold IsSymbolStart symbols_of_one
unfolding class_of is_name_start is_blank RowsHold
ones_start = (
  λ a n m. refl,
  (
    λ a n m. refl,
    (
      λ a n m. refl,
      (
        slash_start,
        (
          λ a n m. refl,
          (
            λ a n m. refl,
            (
              λ a n m. refl,
              (
                open_start,
                (
                  λ a n m. refl,
                  (λ a n m. refl, (λ a n m. refl, (λ a n m. refl, (λ a n m. refl, (λ a n m. refl, (λ a n m. refl, tt)))))),
                ),
              ),
            ),
          ),
        ),
      ),
    ),
  ),
)

twos_start : RowsHold IsSymbolStart symbols_of_two
unfolding class_of is_name_start is_blank RowsHold
twos_start = (λ a n m. refl, (λ a n m. refl, (λ a n m. refl, (λ a n m. refl, (λ a n m. refl, tt)))))

pub no_symbol_empty : symbol_of [] ≡ None
unfolding symbol_of
no_symbol_empty = refl

symbol_start : (first : ℕ) (others : List ℕ) (kind : TokenKind) → symbol_of (first ∷ others) ≡ Some kind → IsSymbolStart first
unfolding symbol_of
symbol_start first others kind e = one (eqb (length (first ∷ others)) 1) e
  where
    two : (t : Bool) → kind_beside (first ∷ others) (cond t symbols_of_two []) ≡ Some kind → IsSymbolStart first
    two true g = first_elim IsSymbolStart symbols_of_two twos_start first (kind_first (first ∷ others) first others kind refl symbols_of_two g)
    two false g = absurd (none-some kind g)

    one : (t : Bool) → kind_beside (first ∷ others) (cond t symbols_of_one (cond (eqb (length (first ∷ others)) 2) symbols_of_two [])) ≡ Some kind → IsSymbolStart first
    one true g = first_elim IsSymbolStart symbols_of_one ones_start first (kind_first (first ∷ others) first others kind refl symbols_of_one g)
    one false g = two (eqb (length (first ∷ others)) 2) g

-- ---- each item has the shape of its class

string_start : (bytes rest text : List ℕ) → Parts bytes rest text → (first : ℕ) (after : List ℕ) → bytes ≡ first ∷ after → (rest ≡ bytes) ⊎ ((first ≡ 39) ⊎ (first ≡ 35))
string_start bytes rest text (stop n) first after b = inl refl
string_start bytes rest text (more piece m t e h d) first after b = inr (elim (part_cases first after piece m t (sym b ∙ e) h) [
  | in_quotes f q ↦ inl f
  | by_decimal ds f a g x ↦ inr f
  | by_hexadecimal ds f a g x ↦ inr f
])

class_string : (first : ℕ) (after : List ℕ) → (first ≡ 39) ⊎ (first ≡ 35) → class_of first after ≡ class.String
unfolding class_of is_name_start is_blank
class_string first after h =
    ⊎_elim
    (λ e. ap (λ z. class_of z after) e)
    (λ e. ap (λ z. class_of z after) e)
    h

not_itself : (x : ℕ) (xs ys : List ℕ) → ys ≡ x ∷ xs ++ ys → ⊥
not_itself x xs ys e = omega (arith, ap length e, length-append (x ∷ xs) ys)

string_shape : (piece rest text : List ℕ) → piece ≢ [] → Parts (piece ++ rest) rest text → Shape (class_at (piece ++ rest)) (piece ++ rest) piece rest (a_string text)
unfolding class_at
string_shape [] rest text n d = absurd (n refl)
string_shape (x ∷ xs) rest text n d =
    let e = class_string x (xs ++ rest) (⊎_elim (λ g. absurd (not_itself x xs rest g)) (λ g. g) (string_start (x ∷ xs ++ rest) rest text d x (xs ++ rest) refl)) in
    subst (λ k. Shape k (x ∷ xs ++ rest) (x ∷ xs) rest (a_string text)) (sym e) (text, n, d, refl)

symbol_shape : (piece rest : List ℕ) (kind : TokenKind) → symbol_of piece ≡ Some kind → NoLongerSymbol piece rest → ((after : List ℕ) → piece ++ rest ≢ 47 ∷ 47 ∷ after) → ((after : List ℕ) → piece ++ rest ≢ 40 ∷ 42 ∷ after) → Shape (class_at (piece ++ rest)) (piece ++ rest) piece rest (a_symbol kind)
unfolding class_at
symbol_shape [] rest kind s l n m = absurd (none-some kind (sym no_symbol_empty ∙ s))
symbol_shape (x ∷ xs) rest kind s l n m =
    subst (λ k. Shape k (x ∷ xs ++ rest) (x ∷ xs) rest (a_symbol kind)) (sym (symbol_start x xs kind s (xs ++ rest) n m)) (kind, s, l, refl)

number_shape : (base : Base) (digits rest : List ℕ) → AreDigits base digits rest → Shape (class_at (mark_of base ++ digits ++ rest)) (mark_of base ++ digits ++ rest) (mark_of base ++ digits) rest (a_number (value_of base digits))
unfolding class_at class_of is_name_start is_blank
number_shape Decimal [] rest d = absurd (d.some refl)
number_shape Decimal (x ∷ xs) rest d =
    subst (λ k. Shape k (x ∷ xs ++ rest) (x ∷ xs) rest (a_number (value_of Decimal (x ∷ xs)))) (sym (class_digit x (xs ++ rest) (digit_head Decimal x xs rest d))) (x ∷ xs, refl, d, refl)
number_shape Hexadecimal digits rest d = (digits, refl, d, refl)
number_shape Octal digits rest d = (digits, refl, d, refl)
number_shape Binary digits rest d = (digits, refl, d, refl)

comment_shape : (marks : Marks) (inside rest : List ℕ) → Closes marks (inside ++ closing marks ++ rest) rest → Shape (class_at (opening marks ++ inside ++ closing marks ++ rest)) (opening marks ++ inside ++ closing marks ++ rest) (opening marks ++ inside ++ closing marks) rest (a_comment inside)
unfolding class_at class_of is_name_start is_blank
comment_shape Braces inside rest d = (inside, refl, d, refl)
comment_shape Stars inside rest d = (inside, refl, d, refl)

line_shape : (inside rest : List ℕ) → inside ≡ take_while (λ byte. not (nat_eq byte 10)) (inside ++ rest) → Shape (class_at (47 ∷ 47 ∷ inside ++ rest)) (47 ∷ 47 ∷ inside ++ rest) (47 ∷ 47 ∷ inside) rest (a_comment inside)
unfolding class_at class_of is_name_start is_blank
line_shape inside rest e = (inside, refl, e, refl)

name_shape : (first : ℕ) (others rest : List ℕ) → is_name_start first ≡ true → first ∷ others ≡ take_while is_name_byte (first ∷ others ++ rest) → Shape (class_at (first ∷ others ++ rest)) (first ∷ others ++ rest) (first ∷ others) rest (a_name (first ∷ others))
unfolding class_at
name_shape first others rest h w =
    subst (λ k. Shape k (first ∷ others ++ rest) (first ∷ others) rest (a_name (first ∷ others))) (sym (class_name first (others ++ rest) h)) (w, refl)

blank_shape : (byte : ℕ) (rest : List ℕ) → is_blank byte ≡ true → Shape (class_at (byte ∷ rest)) (byte ∷ rest) (byte ∷ []) rest a_blank
unfolding class_at
blank_shape byte rest h = subst (λ k. Shape k (byte ∷ rest) (byte ∷ []) rest a_blank) (sym (class_blank byte rest h)) (byte, refl, refl)

pub stands_shape : (piece rest : List ℕ) (item : Item) → Stands piece rest item → Shape (class_at (piece ++ rest)) (piece ++ rest) piece rest item
stands_shape piece rest item (blank {byte = byte} h) = blank_shape byte rest h
stands_shape piece rest item (line_comment {inside = inside} e) = line_shape inside rest e
stands_shape piece rest item (comment marks {inside = inside} d) = comment_shape marks inside rest d
stands_shape piece rest item (name {first = first} {others = others} h w) = name_shape first others rest h w
stands_shape piece rest item (number base {digits = digits} d) = number_shape base digits rest d
stands_shape piece rest item (string {text = text} n d) = string_shape piece rest text n d
stands_shape piece rest item (symbol {kind = kind} s l n m) = symbol_shape piece rest kind s l n (m Stars)

-- an item of the class of these bytes
pub shape_at : (bytes piece rest : List ℕ) (item : Item) (k : Class) → bytes ≡ piece ++ rest → class_at bytes ≡ k → Stands piece rest item → Shape k bytes piece rest item
shape_at bytes piece rest item k b c h =
    subst (λ z. Shape k z piece rest item) (sym b) (subst (λ z. Shape z (piece ++ rest) piece rest item) (ap class_at (sym b) ∙ c) (stands_shape piece rest item h))

-- ---- one item stands at a place

module _ (bytes p r p' r' : List ℕ) (e : bytes ≡ p ++ r) (e' : bytes ≡ p' ++ r') where
  after_marks : (mark digits digits' : List ℕ) → p ≡ mark ++ digits → p' ≡ mark ++ digits' → digits ++ r ≡ digits' ++ r'
  after_marks mark digits digits' d d' =
      append_cancel mark (digits ++ r) (digits' ++ r')
      (sym (append_assoc mark digits r) ∙ ap (λ z. z ++ r) (sym d) ∙ sym e ∙ e' ∙ ap (λ z. z ++ r') d' ∙ append_assoc mark digits' r')

  same_rest : r ≡ r' → p ≡ p'
  same_rest q = append_cancel_right p p' r (sym e ∙ e' ∙ ap (λ z. p' ++ z) (sym q))

  Same : Item → Item → Type 0
  Same i i' = (p ≡ p') × (i ≡ i')

  unique_name : (i i' : Item) → Shape class.Name bytes p r i → Shape class.Name bytes p' r' i' → Same i i'
  unfolding Same
  unique_name i i' h h' = let q = h.0 ∙ sym h'.0 in (q, h.1 ∙ ap a_name q ∙ sym h'.1)

  unique_blank : (i i' : Item) → Shape class.Blank bytes p r i → Shape class.Blank bytes p' r' i' → Same i i'
  unfolding Same
  unique_blank i i' h h' =
      let b : h.0 ≡ h'.0 = head_eq (ap (λ z. z ++ r) (sym h.1) ∙ sym e ∙ e' ∙ ap (λ z. z ++ r') h'.1) in
      (h.1 ∙ ap (λ z. z ∷ []) b ∙ sym h'.1, h.2 ∙ sym h'.2)

  unique_number : (base : Base) (i i' : Item) → Shape (class.Number base) bytes p r i → Shape (class.Number base) bytes p' r' i' → Same i i'
  unfolding Same
  unique_number base i i' h h' =
      let x = after_marks (mark_of base) h.0 h'.0 h.1 h'.1 in
      let q : h.0 ≡ h'.0 = digits_are base (h.0 ++ r) h.0 r refl h.2 ∙ sym (digits_are base (h.0 ++ r) h'.0 r' x h'.2) in
      (h.1 ∙ ap (λ z. mark_of base ++ z) q ∙ sym h'.1, h.3 ∙ ap (λ z. a_number (value_of base z)) q ∙ sym h'.3)

  unique_line : (i i' : Item) → Shape class.LineComment bytes p r i → Shape class.LineComment bytes p' r' i' → Same i i'
  unfolding Same
  unique_line i i' h h' =
      let x = after_marks (47 ∷ 47 ∷ []) h.0 h'.0 h.1 h'.1 in
      let q : h.0 ≡ h'.0 = h.2 ∙ ap (take_while (λ byte. not (nat_eq byte 10))) x ∙ sym h'.2 in
      (h.1 ∙ ap (λ z. 47 ∷ 47 ∷ z) q ∙ sym h'.1, h.3 ∙ ap a_comment q ∙ sym h'.3)

  unique_comment : (marks : Marks) (i i' : Item) → Shape (class.Comment marks) bytes p r i → Shape (class.Comment marks) bytes p' r' i' → Same i i'
  unfolding Same
  unique_comment marks i i' h h' =
      let a = h.1 ∙ append_assoc (opening marks) h.0 (closing marks) in
      let a' = h'.1 ∙ append_assoc (opening marks) h'.0 (closing marks) in
      let x = after_marks (opening marks) (h.0 ++ closing marks) (h'.0 ++ closing marks) a a' in
      let same = Closes-unique marks (h.0 ++ closing marks ++ r) r h.2 r' (subst (λ z. Closes marks z r') (sym x) h'.2) in
      let y = append_cancel_right (h.0 ++ closing marks) (h'.0 ++ closing marks) r (x ∙ ap (λ z. h'.0 ++ closing marks ++ z) (sym same)) in
      (same_rest same, h.3 ∙ ap a_comment (append_cancel_right h.0 h'.0 (closing marks) y) ∙ sym h'.3)

  unique_string : (i i' : Item) → Shape class.String bytes p r i → Shape class.String bytes p' r' i' → Same i i'
  unfolding Same
  unique_string i i' h h' =
      let u = Parts-unique bytes r h.0 h.2 r' h'.0 h'.2 in
      (same_rest u.0, h.3 ∙ ap a_string u.1 ∙ sym h'.3)

  not_longer : (q s q' s' m : List ℕ) (k k' : TokenKind) → symbol_of q ≡ Some k → symbol_of q' ≡ Some k' → NoLongerSymbol q s → q' ≡ q ++ m → s ≡ m ++ s' → q ≡ q'
  not_longer q s q' s' [] k k' h h' l a b = sym (a ∙ append_nil q)
  not_longer q s q' s' (x ∷ m) k k' h h' l a b =
      absurd (none-some k' (sym (l (x ∷ m) s' (λ z. absurd cc) b) ∙ ap symbol_of (sym a) ∙ h'))

  unique_symbol : (i i' : Item) → Shape class.Symbol bytes p r i → Shape class.Symbol bytes p' r' i' → Same i i'
  unfolding Same
  unique_symbol i i' h h' =
      let q : p ≡ p' = ⊎_elim
      (λ f. not_longer p r p' r' f.0 h.0 h'.0 h.1 h'.1 h.2 f.1 f.2)
      (λ f. sym (not_longer p' r' p r f.0 h'.0 h.0 h'.1 h.1 h'.2 f.1 f.2))
      (fronts p r p' r' (sym e ∙ e'))
      in
      let k : h.0 ≡ h'.0 = same_Some _ _ (sym h.1 ∙ ap symbol_of q ∙ h'.1) in
      (q, h.3 ∙ ap a_symbol k ∙ sym h'.3)

  shape_unique : (k : Class) (i i' : Item) → Shape k bytes p r i → Shape k bytes p' r' i' → Same i i'
  shape_unique class.Name i i' h h' = unique_name i i' h h'
  shape_unique class.Blank i i' h h' = unique_blank i i' h h'
  shape_unique (class.Number base) i i' h h' = unique_number base i i' h h'
  shape_unique (class.Comment marks) i i' h h' = unique_comment marks i i' h h'
  shape_unique class.LineComment i i' h h' = unique_line i i' h h'
  shape_unique class.String i i' h h' = unique_string i i' h h'
  shape_unique class.Symbol i i' h h' = unique_symbol i i' h h'

  pub Stands-unique : (i i' : Item) → Stands p r i → Stands p' r' i' → (p ≡ p') × (i ≡ i')
  unfolding Same
  Stands-unique i i' h h' =
      shape_unique (class_at bytes) i i' (shape_at bytes p r i (class_at bytes) e refl h) (shape_at bytes p' r' i' (class_at bytes) e' refl h')
