-- Symbols in front of the bytes.
use Rattle.std.proofs.Common.{◌≡◌, ◌≢◌, ℕ, Bool, true, false, cond, eqb, List, [], ◌∷◌, ◌++◌, take, drop, length, Some, None, refl, sym, ap, ◌∙◌, subst, length-append, arith}
use Rattle.std.specs.Str.{bytes_eq}
use Rattle.std.proofs.Math.Seq.{take-append_seam}
use Rattle.std.proofs.lemmas.Bool.{eqb-true, eqb-false, false≢true}
use Rattle.std.proofs.lemmas.List.{take-append-drop}
use Rattle.std.proofs.lemmas.Option.{none-some}
use Rattle.std.proofs.lemmas.Slice.Eq.{bytes_eq-Decides}
use Rattle.op_scan.proofs.Classes.{NoMark, class_means, Means}
use Rattle.op_scan.proofs.Items.{Shape, shape_at}
use Rattle.op_scan.proofs.Lists.{one_false, two_false}
use Rattle.op_scan.specs.Class.{class_at}
use Rattle.op_scan.specs.Comment.{opening}
use Rattle.op_scan.specs.Directive.{rule}
use Rattle.op_scan.specs.Item.{Item, NoLongerSymbol, a_symbol, Stands, symbol, rule_without}
use Rattle.op_scan.specs.Keyword.{kind_beside}
use Rattle.op_scan.specs.Symbol.{symbol_of, symbols_of_one, symbols_of_two}
use Rattle.op_scan.specs.declared.class.Class.TheVariants as class
use Rattle.op_scan.specs.declared.comment.Marks.{Marks}
use Rattle.op_scan.specs.declared.comment.Marks.TheVariants.{Braces, Stars}
use Rattle.op_scan.specs.declared.token.TokenKind.{TokenKind}

-- ---- how long symbols are

HaveLength : ℕ → List (List ℕ × TokenKind) → Type 0
HaveLength n [] = Unit {0}
HaveLength n (row ∷ rows) = (length row.0 ≡ n) × HaveLength n rows

length_beside : (n : ℕ) (word : List ℕ) (kind : TokenKind) (rows : List (List ℕ × TokenKind)) → HaveLength n rows → kind_beside word rows ≡ Some kind → length word ≡ n
unfolding HaveLength
length_beside n word kind [] h e = absurd (none-some kind e)
length_beside n word kind (row ∷ rows) h e = at (bytes_eq word row.0) refl (λ g. length_beside n word kind rows h.1 g) e
  where
    at : (test : Bool) → bytes_eq word row.0 ≡ test → (kind_beside word rows ≡ Some kind → length word ≡ n) → cond test (Some row.1) (kind_beside word rows) ≡ Some kind → length word ≡ n
    at true t f g = ap length ((bytes_eq-Decides word row.0).0 t) ∙ h.0
    at false t f g = f g

ones_length : HaveLength 1 symbols_of_one
unfolding HaveLength
ones_length = (refl, (refl, (refl, (refl, (refl, (refl, (refl, (refl, (refl, (refl, (refl, (refl, (refl, (refl, (refl, tt)))))))))))))))

twos_length : HaveLength 2 symbols_of_two
unfolding HaveLength
twos_length = (refl, (refl, (refl, (refl, (refl, tt)))))

is_one : (word : List ℕ) → length word ≡ 1 → symbol_of word ≡ kind_beside word symbols_of_one
unfolding symbol_of
is_one word h = ap (λ n. kind_beside word (cond (eqb n 1) symbols_of_one (cond (eqb n 2) symbols_of_two []))) h

is_two : (word : List ℕ) → length word ≡ 2 → symbol_of word ≡ kind_beside word symbols_of_two
unfolding symbol_of
is_two word h = ap (λ n. kind_beside word (cond (eqb n 1) symbols_of_one (cond (eqb n 2) symbols_of_two []))) h

is_none : (word : List ℕ) → length word ≢ 1 → length word ≢ 2 → symbol_of word ≡ None
unfolding symbol_of
is_none word a b = at (eqb (length word) 1) (eqb (length word) 2) refl refl
  where
    at : (s t : Bool) → eqb (length word) 1 ≡ s → eqb (length word) 2 ≡ t → kind_beside word (cond s symbols_of_one (cond t symbols_of_two [])) ≡ None
    at true t p q = absurd (a (eqb-true (length word) 1 p))
    at false true p q = absurd (b (eqb-true (length word) 2 q))
    at false false p q = refl

-- ---- the class of symbols

symbol_means : (bytes : List ℕ) → class_at bytes ≡ class.Symbol → (first : ℕ) (after : List ℕ) → bytes ≡ first ∷ after → NoMark first after
unfolding class_at
symbol_means bytes c first after b = subst (λ z. Means z first after) (ap class_at (sym b) ∙ c) (class_means first after)

no_line : (bytes : List ℕ) → class_at bytes ≡ class.Symbol → (after : List ℕ) → bytes ≢ 47 ∷ 47 ∷ after
no_line bytes c after b = two_false 47 47 47 (47 ∷ after) after (symbol_means bytes c 47 (47 ∷ after) b).no_slashes refl

no_comment : (bytes : List ℕ) → class_at bytes ≡ class.Symbol → (marks : Marks) (after : List ℕ) → bytes ≢ opening marks ++ after
no_comment bytes c Braces after b = one_false 123 123 after after (symbol_means bytes c 123 after b).no_brace refl
no_comment bytes c Stars after b = two_false 40 40 42 (42 ∷ after) after (symbol_means bytes c 40 (42 ∷ after) b).no_star refl

module _ (bytes : List ℕ) (c : class_at bytes ≡ class.Symbol) where
  front : (n : ℕ) (kind : TokenKind) → symbol_of (take n bytes) ≡ Some kind → NoLongerSymbol (take n bytes) (drop n bytes) → Stands (take n bytes) (drop n bytes) (a_symbol kind)
  front n kind s l =
      symbol s l
      (λ after e. no_line bytes c after (sym (take-append-drop n bytes) ∙ e))
      (λ marks after e. no_comment bytes c marks after (sym (take-append-drop n bytes) ∙ e))

  pub two_length : (kind : TokenKind) → kind_beside (take 2 bytes) symbols_of_two ≡ Some kind → length (take 2 bytes) ≡ 2
  two_length kind e = length_beside 2 (take 2 bytes) kind symbols_of_two twos_length e

  pub one_length : (kind : TokenKind) → kind_beside (take 1 bytes) symbols_of_one ≡ Some kind → length (take 1 bytes) ≡ 1
  one_length kind e = length_beside 1 (take 1 bytes) kind symbols_of_one ones_length e

  pub two_front : (kind : TokenKind) → kind_beside (take 2 bytes) symbols_of_two ≡ Some kind → Stands (take 2 bytes) (drop 2 bytes) (a_symbol kind)
  two_front kind e =
      let two = two_length kind e in
      front 2 kind (is_two (take 2 bytes) two ∙ e)
      (λ others after n b.
      let len = length-append (take 2 bytes) others in
      is_none (take 2 bytes ++ others) (λ z. omega (arith, len, two, z)) (λ z. n (nil others (omega (arith, len, two, z)))))
    where
      nil : (xs : List ℕ) → length xs ≡ 0 → xs ≡ []
      nil [] e = refl
      nil (x ∷ xs) e = absurd (omega (arith, e))

  pub one_front : (kind : TokenKind) → kind_beside (take 1 bytes) symbols_of_one ≡ Some kind → kind_beside (take 2 bytes) symbols_of_two ≡ None → Stands (take 1 bytes) (drop 1 bytes) (a_symbol kind)
  one_front kind e none = front 1 kind (is_one (take 1 bytes) one ∙ e) (λ others after n b. longest bytes one none others after n b)
    where
      one : length (take 1 bytes) ≡ 1
      one = one_length kind e

      longest : (bytes : List ℕ) → length (take 1 bytes) ≡ 1 → kind_beside (take 2 bytes) symbols_of_two ≡ None → NoLongerSymbol (take 1 bytes) (drop 1 bytes)
      longest [] one none others after n b = absurd (omega (arith, one))
      longest (f ∷ af) one none [] after n b = absurd (n refl)
      longest (f ∷ af) one none (x ∷ []) after n b =
          is_two (f ∷ x ∷ []) refl ∙ ap (λ z. kind_beside (take 2 (f ∷ z)) symbols_of_two) (sym b) ∙ none
      longest (f ∷ af) one none (x ∷ y ∷ others) after n b = is_none (f ∷ x ∷ y ∷ others) (λ z. omega (arith, z)) (λ z. omega (arith, z))

  pub symbol_missing : kind_beside (take 1 bytes) symbols_of_one ≡ None → kind_beside (take 2 bytes) symbols_of_two ≡ None → (piece rest : List ℕ) (item : Item) → bytes ≡ piece ++ rest → Stands piece rest item → ⊥
  symbol_missing ones twos piece rest item b h = at (eqb (length piece) 1) (eqb (length piece) 2) refl refl
    where
      s : Shape class.Symbol bytes piece rest item
      s = shape_at bytes piece rest item class.Symbol b c h

      piece_is : piece ≡ take (length piece) bytes
      piece_is = sym (take-append_seam piece rest) ∙ ap (take (length piece)) (sym b)

      at : (t u : Bool) → eqb (length piece) 1 ≡ t → eqb (length piece) 2 ≡ u → ⊥
      at true u p q =
          let l = eqb-true (length piece) 1 p in
          none-some s.0 (sym ones ∙ ap (λ z. kind_beside z symbols_of_one) (sym (piece_is ∙ ap (λ n. take n bytes) l)) ∙ sym (is_one piece l) ∙ s.1)
      at false true p q =
          let l = eqb-true (length piece) 2 q in
          none-some s.0 (sym twos ∙ ap (λ z. kind_beside z symbols_of_two) (sym (piece_is ∙ ap (λ n. take n bytes) l)) ∙ sym (is_two piece l) ∙ s.1)
      at false false p q = none-some s.0 (sym (is_none piece (eqb-false (length piece) 1 p) (eqb-false (length piece) 2 q)) ∙ s.1)

pub symbol_rule : (bytes : List ℕ) → class_at bytes ≡ class.Symbol → kind_beside (take 1 bytes) symbols_of_one ≡ None → rule_without bytes ≡ rule 1
unfolding rule_without class_at
symbol_rule [] c none = refl
symbol_rule (first ∷ after) c none =
    let m : NoMark first after = subst (λ z. Means z first after) c (class_means first after) in
    at (eqb first 39) (eqb first 123) (eqb first 40) (eqb first 36) (eqb first 38) (eqb first 37) (eqb first 35) refl m.no_quote m.no_brace m.no_dollar m.no_ampersand m.no_percent m.no_hash
  where
    paren_is : eqb first 40 ≡ true → ⊥
    paren_is h = none-some _ (sym none ∙ ap (λ z. kind_beside (z ∷ []) symbols_of_one) (eqb-true first 40 h))

    at : (quote brace paren dollar ampersand percent hash : Bool) → eqb first 40 ≡ paren → quote ≡ false → brace ≡ false → dollar ≡ false → ampersand ≡ false → percent ≡ false → hash ≡ false → cond quote (rule 2) (cond brace (rule 3) (cond paren (rule 3) (cond dollar (rule 4) (cond ampersand (rule 4) (cond percent (rule 4) (cond hash (rule 5) (rule 1))))))) ≡ rule 1
    at true b o d a p h e1 e2 e3 e4 e5 e6 e7 = absurd (false≢true (sym e2))
    at false true o d a p h e1 e2 e3 e4 e5 e6 e7 = absurd (false≢true (sym e3))
    at false false true d a p h e1 e2 e3 e4 e5 e6 e7 = absurd (paren_is e1)
    at false false false true a p h e1 e2 e3 e4 e5 e6 e7 = absurd (false≢true (sym e4))
    at false false false false true p h e1 e2 e3 e4 e5 e6 e7 = absurd (false≢true (sym e5))
    at false false false false false true h e1 e2 e3 e4 e5 e6 e7 = absurd (false≢true (sym e6))
    at false false false false false false true e1 e2 e3 e4 e5 e6 e7 = absurd (false≢true (sym e7))
    at false false false false false false false e1 e2 e3 e4 e5 e6 e7 = refl
