-- How a comment goes on at each byte of its inside, and the comments round it.
use Rattle.std.proofs.Common.{◌≡◌, ◌≢◌, ℕ, false, eqb, List, [], ◌∷◌, ◌++◌, length, drop, refl, sym, ap, ◌∙◌, subst, ◌&&◌, append_assoc}
use Rattle.std.proofs.lemmas.Bool.{eqb-false}
use Rattle.op_scan.proofs.Lists.{head_eq, tail_eq, cond_case, one_true, one_false, two_true, two_false}
use Rattle.op_scan.specs.Byte.{begins_with}
use Rattle.op_scan.specs.Comment.{opening, closing, IsPlainHere, IsPlain, Closes, ends, passes, nests}
use Rattle.op_scan.specs.Inside.{opens, inside_at}
use Rattle.op_scan.specs.declared.comment.Marks.{Marks}
use Rattle.op_scan.specs.declared.comment.Marks.TheVariants.{Braces, Stars}
use Rattle.op_scan.specs.declared.comment.Inside.{Inside}
use Rattle.op_scan.specs.declared.comment.Inside.TheVariants as inside

-- ---- one byte

pub plain_one : (marks : Marks) (byte : ℕ) (after : List ℕ) → IsPlainHere marks (byte ∷ after) → IsPlain marks (byte ∷ []) after
plain_one marks byte after h [] b [] e = subst (λ x. IsPlainHere marks (x ∷ after)) (let p : byte ≡ b = head_eq e in p) h
plain_one marks byte after h [] b (c ∷ back) e = absurd cc
plain_one marks byte after h (c ∷ []) b back e = absurd cc
plain_one marks byte after h (c ∷ d ∷ front) b back e = absurd cc

pub plain_rest : (marks : Marks) (byte : ℕ) (text after : List ℕ) → IsPlain marks (byte ∷ text) after → IsPlain marks text after
plain_rest marks byte text after h front b back e = h (byte ∷ front) b back (ap (λ xs. byte ∷ xs) e)

closing≢opening : (marks inner : Marks) (a b : List ℕ) → closing marks ++ a ≢ opening inner ++ b
closing≢opening Braces Braces a b e = eqb-false 125 123 refl (head_eq e)
closing≢opening Braces Stars a b e = eqb-false 125 40 refl (head_eq e)
closing≢opening Stars Braces a b e = eqb-false 42 123 refl (head_eq e)
closing≢opening Stars Stars a b e = eqb-false 42 40 refl (head_eq e)

pub same_opening : (x y : Marks) (a b : List ℕ) → opening x ++ a ≡ opening y ++ b → (x ≡ y) × (a ≡ b)
same_opening Braces Braces a b e = (refl, tail_eq e)
same_opening Braces Stars a b e = absurd (eqb-false 123 40 refl (head_eq e))
same_opening Stars Braces a b e = absurd (eqb-false 40 123 refl (head_eq e))
same_opening Stars Stars a b e = (refl, tail_eq (tail_eq e))

pub same_closing : (x : Marks) (a b : List ℕ) → closing x ++ a ≡ closing x ++ b → a ≡ b
same_closing Braces a b e = tail_eq e
same_closing Stars a b e = tail_eq (tail_eq e)

-- ---- the comment at each byte

pub plain_step : (marks : Marks) (bytes rest : List ℕ) → Closes marks bytes rest → (byte : ℕ) (after : List ℕ) → bytes ≡ byte ∷ after → IsPlainHere marks bytes → Closes marks after rest
plain_step marks bytes rest (ends e) byte after b h = absurd (h.no_end rest e)
plain_step marks bytes rest (nests inner text m e d1 d2) byte after b h = absurd (h.no_comment inner text e)
plain_step marks bytes rest (passes [] m e p d) byte after b h = plain_step _ _ _ d byte after (sym e ∙ b) (subst (IsPlainHere marks) e h)
plain_step marks bytes rest (passes (t ∷ ts) m e p d) byte after b h =
    passes ts m (tail_eq (sym b ∙ e)) (plain_rest marks t ts m p) d

pub nest_step : (marks : Marks) (bytes rest : List ℕ) → Closes marks bytes rest → (inner : Marks) (q : List ℕ) → bytes ≡ opening inner ++ q → (x : List ℕ) × Closes inner q x × Closes marks x rest
nest_step marks bytes rest (ends e) inner q b = absurd (closing≢opening marks inner rest q (sym e ∙ b))
nest_step marks bytes rest (nests other text m e d1 d2) inner q b =
    let same = same_opening other inner text q (sym e ∙ b) in
    (m, subst (λ k. Closes k q m) same.0 (subst (λ xs. Closes other xs m) same.1 d1), d2)
nest_step marks bytes rest (passes [] m e p d) inner q b = nest_step _ _ _ d inner q (sym e ∙ b)
nest_step marks bytes rest (passes (t ∷ ts) m e p d) inner q b = absurd ((p [] t ts refl).no_comment inner q (sym e ∙ b))

pub end_step : (marks : Marks) (bytes rest : List ℕ) → Closes marks bytes rest → (q : List ℕ) → bytes ≡ closing marks ++ q → rest ≡ q
end_step marks bytes rest (ends e) q b = same_closing marks rest q (sym e ∙ b)
end_step marks bytes rest (nests other text m e d1 d2) q b = absurd (closing≢opening marks other q text (sym b ∙ e))
end_step marks bytes rest (passes [] m e p d) q b = end_step _ _ _ d q (sym e ∙ b)
end_step marks bytes rest (passes (t ∷ ts) m e p d) q b = absurd ((p [] t ts refl).no_end q (sym e ∙ b))

no_opening : (inner : Marks) (q : List ℕ) → [] ≢ opening inner ++ q
no_opening Braces q e = absurd cc
no_opening Stars q e = absurd cc

no_closing : (inner : Marks) (q : List ℕ) → [] ≢ closing inner ++ q
no_closing Braces q e = absurd cc
no_closing Stars q e = absurd cc

pub no_step : (marks : Marks) (bytes rest : List ℕ) → Closes marks bytes rest → bytes ≡ [] → ⊥
no_step marks bytes rest (ends e) b = no_closing marks rest (sym b ∙ e)
no_step marks bytes rest (nests other text m e d1 d2) b = no_opening other text (sym b ∙ e)
no_step marks bytes rest (passes [] m e p d) b = no_step _ _ _ d (sym e ∙ b)
no_step marks bytes rest (passes (t ∷ ts) m e p d) b = absurd cc

passes_steps : (marks : Marks) (text after y : List ℕ) → IsPlain marks text after → Closes marks (text ++ after) y → Closes marks after y
passes_steps marks [] after y p d = d
passes_steps marks (t ∷ ts) after y p d =
    passes_steps marks ts after y (plain_rest marks t ts after p) (plain_step marks (t ∷ ts ++ after) y d t (ts ++ after) refl (p [] t ts refl))

-- a comment has one end
pub Closes-unique : (marks : Marks) (bytes x : List ℕ) → Closes marks bytes x → (y : List ℕ) → Closes marks bytes y → x ≡ y
Closes-unique marks bytes x (ends e) y d = sym (end_step marks bytes y d x e)
Closes-unique marks bytes x (nests inner text m e d1 d2) y d =
    let n = nest_step _ _ _ d inner text e in
    Closes-unique _ _ _ d2 y (subst (λ z. Closes marks z y) (sym (Closes-unique _ _ _ d1 n.0 n.1)) n.2)
Closes-unique marks bytes x (passes text m e p d1) y d = Closes-unique _ _ _ d1 y (passes_steps marks text m y p (subst (λ z. Closes marks z y) e d))

-- the inside of a comment, and its end
pub closes_inside : (marks : Marks) (bytes rest : List ℕ) → Closes marks bytes rest → (inside : List ℕ) × (bytes ≡ inside ++ (closing marks ++ rest))
closes_inside marks bytes rest (ends e) = ([], e)
closes_inside marks bytes rest (nests inner text m e d1 d2) =
    let a = closes_inside _ _ _ d1 in
    let b = closes_inside _ _ _ d2 in (
      opening inner ++ (a.0 ++ (closing inner ++ b.0)),
      e ∙ ap (λ xs. opening inner ++ xs) (a.1 ∙ ap (λ xs. a.0 ++ (closing inner ++ xs)) b.1)
          ∙ sym (append_assoc (opening inner) (a.0 ++ (closing inner ++ b.0)) (closing marks ++ rest) ∙ ap (λ xs. opening inner ++ xs) (append_assoc a.0 (closing inner ++ b.0) (closing marks ++ rest) ∙ ap (λ xs. a.0 ++ xs) (append_assoc (closing inner) b.0 (closing marks ++ rest)))),
    )
closes_inside marks bytes rest (passes text m e p d) =
    let b = closes_inside _ _ _ d in
    (text ++ b.0, e ∙ ap (λ xs. text ++ xs) b.1 ∙ sym (append_assoc text b.0 (closing marks ++ rest)))

-- ---- what two bytes tell

abbrev pub Means : Inside → Marks → List ℕ → Type 0
Means inside.Closes marks bytes = bytes ≡ closing marks ++ drop (length (opening marks)) bytes
Means (inside.Opens inner) marks bytes = bytes ≡ opening inner ++ drop (length (opening inner)) bytes
Means inside.Plain marks bytes = IsPlainHere marks bytes

opens_means : (marks : Marks) (first : ℕ) (after : List ℕ) → ((rest : List ℕ) → first ∷ after ≢ closing marks ++ rest) → Means (opens first after) marks (first ∷ after)
opens_means marks first after no_end =
    cond_case (λ k. Means k marks (first ∷ after)) (eqb first 123)
    (λ h. one_true first 123 after h)
    (λ h. cond_case (λ k. Means k marks (first ∷ after)) (eqb first 40 && begins_with after 42)
    (λ g. two_true first 40 42 after g)
    (λ g. record { no_end = no_end; no_comment = none h g }))
  where
    none : eqb first 123 ≡ false → (eqb first 40 && begins_with after 42) ≡ false → (inner : Marks) (rest : List ℕ) → first ∷ after ≢ opening inner ++ rest
    none h g Braces rest = one_false first 123 after rest h
    none h g Stars rest = two_false first 40 42 after rest g

pub inside_means : (marks : Marks) (first : ℕ) (after : List ℕ) → Means (inside_at marks first after) marks (first ∷ after)
inside_means Braces first after =
    cond_case (λ k. Means k Braces (first ∷ after)) (eqb first 125) (λ h. one_true first 125 after h)
    (λ h. opens_means Braces first after (λ rest. one_false first 125 after rest h))
inside_means Stars first after =
    cond_case (λ k. Means k Stars (first ∷ after)) (eqb first 42 && begins_with after 41) (λ h. two_true first 42 41 after h)
    (λ h. opens_means Stars first after (λ rest. two_false first 42 41 after rest h))

-- the same, where the bytes are known whole
pub means_at : (marks : Marks) (bytes : List ℕ) (first : ℕ) (after : List ℕ) (k : Inside) → bytes ≡ first ∷ after → k ≡ inside_at marks first after → Means k marks bytes
means_at marks bytes first after k b e =
    subst (λ z. Means k marks z) (sym b) (subst (λ i. Means i marks (first ∷ after)) (sym e) (inside_means marks first after))

pub length_marks : (marks : Marks) → length (closing marks) ≡ length (opening marks)
length_marks Braces = refl
length_marks Stars = refl
