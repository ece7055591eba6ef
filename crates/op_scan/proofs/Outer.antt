-- The comments that are open round a comment, the outermost first.
use Rattle.std.proofs.Common.{◌≡◌, ℕ, List, [], ◌∷◌, ◌++◌, refl, sym, subst}
use Rattle.op_scan.specs.Comment.{opening, closing, IsPlainHere, Closes, ends, passes, nests}
use Rattle.op_scan.specs.declared.comment.Marks.{Marks}
use Rattle.op_scan.proofs.Nesting.{plain_one, plain_step, nest_step, end_step, no_step}

-- they are closed in turn, the last one first
abbrev pub Unwinds : List Marks → List ℕ → List ℕ → Type 0
Unwinds [] bytes rest = bytes ≡ rest
Unwinds (marks ∷ inner) bytes rest = (x : List ℕ) × Unwinds inner bytes x × Closes marks x rest

unwinds_push : (outer : List Marks) (marks : Marks) (bytes rest : List ℕ) → (x : List ℕ) × Closes marks bytes x × Unwinds outer x rest → Unwinds (outer ++ marks ∷ []) bytes rest
unwinds_push [] marks bytes rest h = (bytes, refl, subst (λ z. Closes marks bytes z) h.2 h.1)
unwinds_push (k ∷ ks) marks bytes rest h =
    (h.2.0, unwinds_push ks marks bytes h.2.0 (h.0, h.1, h.2.1), h.2.2)

unwinds_pop : (outer : List Marks) (marks : Marks) (bytes rest : List ℕ) → Unwinds (outer ++ marks ∷ []) bytes rest → (x : List ℕ) × Closes marks bytes x × Unwinds outer x rest
unwinds_pop [] marks bytes rest h = (rest, subst (λ z. Closes marks z rest) (sym h.1) h.2, refl)
unwinds_pop (k ∷ ks) marks bytes rest h =
    let p = unwinds_pop ks marks bytes h.0 h.1 in
    (p.0, p.1, (h.0, p.2, h.2))

-- the innermost one is closed, and then the others
abbrev pub Chain : List Marks → Marks → List ℕ → List ℕ → Type 0
Chain outer marks bytes rest = (x : List ℕ) × Closes marks bytes x × Unwinds outer x rest

-- closing what is open is closing the first comment
pub record Continues (first : Marks) (bytes : List ℕ) (outer : List Marks) (marks : Marks) (rest : List ℕ) : Type 0 where
  pub forth : (r : List ℕ) → Chain outer marks rest r → Closes first bytes r
  pub back : (r : List ℕ) → Closes first bytes r → Chain outer marks rest r

pub begins : (first : Marks) (bytes : List ℕ) → Continues first bytes [] first bytes
begins first bytes = record {
  forth = λ r h. subst (λ z. Closes first bytes z) h.2 h.1;
  back = λ r h. (r, h, refl);
}

module _ (first : Marks) (bytes : List ℕ) (outer : List Marks) (marks : Marks) (rest : List ℕ) (h : Continues first bytes outer marks rest) where
  pub passes_byte : (byte : ℕ) (after : List ℕ) → rest ≡ byte ∷ after → IsPlainHere marks (byte ∷ after) → Continues first bytes outer marks after
  passes_byte byte after e p = record {
    forth = λ r c. h.forth r (c.0, passes (byte ∷ []) after e (plain_one marks byte after p) c.1, c.2);
    back = λ r c. let d = h.back r c in (d.0, plain_step _ _ _ d.1 byte after e (subst (IsPlainHere marks) (sym e) p), d.2);
  }

  pub opens_comment : (inner : Marks) (after : List ℕ) → rest ≡ opening inner ++ after → Continues first bytes (outer ++ marks ∷ []) inner after
  opens_comment inner after e = record {
    forth = λ r c. let p = unwinds_pop outer marks c.0 r c.2 in h.forth r (p.0, nests inner after c.0 e c.1 p.1, p.2);
    back = λ r c.
        let d = h.back r c in
        let n = nest_step _ _ _ d.1 inner after e in
        (n.0, n.1, unwinds_push outer marks n.0 r (d.0, n.2, d.2));
  }

  pub closes_inner : (others : List Marks) (next : Marks) (after : List ℕ) → outer ≡ others ++ next ∷ [] → rest ≡ closing marks ++ after → Continues first bytes others next after
  closes_inner others next after o e = record {
    forth = λ r c. h.forth r (after, ends e, subst (λ z. Unwinds z after r) (sym o) (unwinds_push others next after r c));
    back = λ r c.
        let d = h.back r c in
        unwinds_pop others next after r (subst (λ z. Unwinds z after r) o (subst (λ z. Unwinds outer z r) (end_step _ _ _ d.1 after e) d.2));
  }

  pub closes_last : (after : List ℕ) → outer ≡ [] → rest ≡ closing marks ++ after → Closes first bytes after
  closes_last after o e = h.forth after (after, ends e, subst (λ z. Unwinds z after after) (sym o) refl)

  pub never_closes : rest ≡ [] → (r : List ℕ) → Closes first bytes r → ⊥
  never_closes e r c = no_step _ _ _ (h.back r c).1 e
