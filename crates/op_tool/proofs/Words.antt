-- The words of the command line, and the parts of the line of a refusal.
use Rattle.std.proofs.Common.{◌≡◌, ℕ, ◌<◌, ◌≤◌, List, [], ◌∷◌, length, map, codes, slice_index_or, refl, ap, sym, ◌∙◌, arith, ◌++◌, append_assoc}
use Rattle.op_tool.specs.Effects.{line}

-- two words are the first and the second one
pub two_words : {S : Type 0} (bytes : S → List ℕ) (words : List S) (first second : S) → 2 ≤ length words → length words < 3 → first ≡ slice_index_or words 0 first → second ≡ slice_index_or words 1 second → map bytes words ≡ bytes first ∷ bytes second ∷ []
two_words bytes [] first second least below is_first is_second = absurd (omega arith)
two_words bytes (a ∷ []) first second least below is_first is_second = absurd (omega arith)
two_words bytes (a ∷ b ∷ []) first second least below is_first is_second =
    ap (λ x. bytes x ∷ bytes b ∷ []) (sym is_first) ∙ ap (λ x. bytes first ∷ bytes x ∷ []) (sym is_second)
two_words bytes (a ∷ b ∷ c ∷ more) first second least below is_first is_second = absurd (omega arith)

pub line_parts : (file row col number text : List ℕ) → codes "opc: " ++ (file ++ (58 ∷ (row ++ (58 ∷ (col ++ (58 ∷ 32 ∷ 86 ∷ (number ++ (32 ∷ (text ++ 10 ∷ [])))))))))
    ≡ line (codes "opc: " ++ file ++ codes ":" ++ row ++ codes ":" ++ col ++ codes ": V" ++ number ++ codes " " ++ text)
line_parts file row col number text = simp append_assoc refl
