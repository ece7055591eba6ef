-- First values stand whatever follows that begins so, and end at one place.
use Rattle.std.proofs.Common.{ℕ, List, ◌∷◌, ap, ◌∙◌}
use Rattle.op_parse_code.proofs.Cuts.{cut_none, cut_one, cut_join, Front, same_not}
use Rattle.op_parse_code.proofs.ExpressionFronts.{front_chain}
use Rattle.op_parse_code.proofs.Refusing.{Known}
use Rattle.op_parse_code.proofs.StatementFronts.{front_name}
use Rattle.op_parse_decl.specs.Deepening.{deeper_initial}
use Rattle.op_parse_decl.specs.Types.{SomeInitial}
use Rattle.op_scan.specs.declared.token.TokenKind.TheVariants as kind
use Rattle.op_tree.proofs.DenoterUnique.{unique_initial}
use Rattle.op_tree.specs.DenoterGrammar.{IsInitial, is_value, is_list, is_record_value, AreInitials, are_one_initial, are_initials, AreFieldInitials, are_one_field_initial, are_field_initials}
use Rattle.op_tree.specs.Initial.{Initial, Initials, FieldInitials}
use Rattle.op_tree.specs.Terminal.{Terminal, ◌at◌}

mutual
  pub front_initial : {d : ℕ} {i : Initial} {ks r : List Terminal} → IsInitial d i ks r → Front (IsInitial d i) ks r
  front_initial (is_value f) = let s = front_chain f in (s.0, s.1, s.2, λ x. is_value (s.3 x))
  front_initial (is_list {p = p} {q = q} is n) =
      let s = front_initials is in
      (λ x. kind.OpenParenthesis at p ∷ s.0 (kind.CloseParenthesis at q ∷ x), cut_one (kind.OpenParenthesis at p) (cut_join s.1 (cut_one (kind.CloseParenthesis at q) cut_none)), ap (λ z. kind.OpenParenthesis at p ∷ z) s.2, λ x. is_list (s.3 (kind.CloseParenthesis at q ∷ x)) n)
  front_initial (is_record_value {p = p} {q = q} fs) =
      let s = front_field_initials fs in
      (λ x. kind.OpenParenthesis at p ∷ s.0 (kind.CloseParenthesis at q ∷ x), cut_one (kind.OpenParenthesis at p) (cut_join s.1 (cut_one (kind.CloseParenthesis at q) cut_none)), ap (λ z. kind.OpenParenthesis at p ∷ z) s.2, λ x. is_record_value (s.3 (kind.CloseParenthesis at q ∷ x)))

  pub front_initials : {d : ℕ} {is : Initials} {ks r : List Terminal} → AreInitials d is ks r → Front (AreInitials d is) ks r
  front_initials (are_one_initial i) = let s = front_initial i in (s.0, s.1, s.2, λ x. are_one_initial (s.3 x))
  front_initials (are_initials {p = p} i is) =
      let s = front_initial i in
      let u = front_initials is in
      (λ x. s.0 (kind.Comma at p ∷ u.0 x), cut_join s.1 (cut_one (kind.Comma at p) u.1), s.2 ∙ ap (λ z. s.0 (kind.Comma at p ∷ z)) u.2, λ x. are_initials (s.3 (kind.Comma at p ∷ u.0 x)) (u.3 x))

  pub front_field_initials : {d : ℕ} {fs : FieldInitials} {ks r : List Terminal} → AreFieldInitials d fs ks r → Front (AreFieldInitials d fs) ks r
  front_field_initials (are_one_field_initial {p = p} n i) =
      let s = front_name n in
      let w = front_initial i in
      (λ x. s.0 (kind.Colon at p ∷ w.0 x), cut_join s.1 (cut_one (kind.Colon at p) w.1), s.2 ∙ ap (λ z. s.0 (kind.Colon at p ∷ z)) w.2, λ x. are_one_field_initial (s.3 (kind.Colon at p ∷ w.0 x)) (w.3 x))
  front_field_initials (are_field_initials {p = p} {q = q} n i fs) =
      let s = front_name n in
      let w = front_initial i in
      let u = front_field_initials fs in
      (λ x. s.0 (kind.Colon at p ∷ w.0 (kind.Semicolon at q ∷ u.0 x)), cut_join s.1 (cut_one (kind.Colon at p) (cut_join w.1 (cut_one (kind.Semicolon at q) u.1))), s.2 ∙ ap (λ z. s.0 (kind.Colon at p ∷ z)) (w.2 ∙ ap (λ z. w.0 (kind.Semicolon at q ∷ z)) u.2), λ x. are_field_initials (s.3 (kind.Colon at p ∷ w.0 (kind.Semicolon at q ∷ u.0 x))) (w.3 (kind.Semicolon at q ∷ u.0 x)) (u.3 x))

pub known_initial : Known SomeInitial
known_initial = record {
  front = λ d i ks m p. let s = front_initial p.0 in (s.0, s.1, s.2, λ x h. (s.3 x, (same_not _ m x h p.1.0, same_not _ m x h p.1.1)));
  same = λ d d' i i' ks m m' p p'. (unique_initial p.0 p'.0 p.1 p'.1).1;
  deepens = λ d i ks m p. (deeper_initial p.0, p.1);
}
