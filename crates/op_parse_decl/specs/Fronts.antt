-- Names, types, first values and headings keep their derivations, whatever stands behind them.
use Rattle.std.proofs.Common.{◌≡◌, ℕ, Bool, List, [], ◌∷◌, refl, ap, ◌∙◌}
use Rattle.op_parse_code.proofs.Cuts.{IsCut, cut_none, cut_one, cut_join, Front}
use Rattle.op_parse_code.proofs.ExpressionFronts.{front_chain}
use Rattle.op_parse_code.proofs.StatementFronts.{front_name, front_qualified}
use Rattle.op_scan.specs.declared.token.TokenKind.TheVariants as kind
use Rattle.op_tree.specs.Denoter.{Denoter, Denoters, FieldLists}
use Rattle.op_tree.specs.DenoterGrammar.{IsDenoter, is_named, is_string, is_subrange, is_enumeration, is_set, is_unpacked, is_packed, IsStructure, is_dynamic_array, is_static_array, is_record, AreDenoters, are_one_denoter, are_denoters, AreFieldLists, are_no_fields, are_last_fields, are_fields}
use Rattle.op_tree.specs.NameGrammar.{AreNames, are_one_name, are_names, AreBracketedNames, are_bracketed_names}
use Rattle.op_tree.specs.Terminal.{Terminal, ◌at◌}
use Rattle.op_tree.specs.declared.position.Name.{Name}
use Rattle.op_tree.specs.declared.position.Position.{Position}

-- ---- names

pub front_names : {ns : List Name} {ks r : List Terminal} → AreNames ns ks r → Front (AreNames ns) ks r
front_names (are_one_name n) = let s = front_name n in (s.0, s.1, s.2, λ x. are_one_name (s.3 x))
front_names (are_names {p = p} n ns) =
    let s = front_name n in
    let u = front_names ns in
    (λ x. s.0 (kind.Comma at p ∷ u.0 x), cut_join s.1 (cut_one (kind.Comma at p) u.1), s.2 ∙ ap (λ z. s.0 (kind.Comma at p ∷ z)) u.2, λ x. are_names (s.3 (kind.Comma at p ∷ u.0 x)) (u.3 x))

-- names and the bracket that closes them, behind the one that opens them
front_closed : {ns : List Name} {q : Position} {ks r : List Terminal} → AreNames ns ks (kind.CloseParenthesis at q ∷ r) → (f : List Terminal → List Terminal) × IsCut f × (ks ≡ f r) × ((x : List Terminal) → AreNames ns (f x) (kind.CloseParenthesis at q ∷ x))
front_closed {q = q} ns =
    let s = front_names ns in
    (λ x. s.0 (kind.CloseParenthesis at q ∷ x), cut_join s.1 (cut_one (kind.CloseParenthesis at q) cut_none), s.2, λ x. s.3 (kind.CloseParenthesis at q ∷ x))

pub front_bracketed_names : {d : ℕ} {ns : List Name} {ks r : List Terminal} → AreBracketedNames d ns ks r → Front (AreBracketedNames d ns) ks r
front_bracketed_names (are_bracketed_names {p = p} ns) =
    let s = front_closed ns in
    (λ x. kind.OpenParenthesis at p ∷ s.0 x, cut_one (kind.OpenParenthesis at p) s.1, ap (λ z. kind.OpenParenthesis at p ∷ z) s.2, λ x. are_bracketed_names (s.3 x))

-- ---- types

mutual
  pub front_denoter : {d : ℕ} {t : Denoter} {ks r : List Terminal} → IsDenoter d t ks r → Front (IsDenoter d t) ks r
  front_denoter (is_named q) = let s = front_qualified q in (s.0, s.1, s.2, λ x. is_named (s.3 x))
  front_denoter (is_string {p = p}) = (λ x. kind.String at p ∷ x, cut_one (kind.String at p) cut_none, refl, λ x. is_string)
  front_denoter (is_subrange {p = p} a b) =
      let s = front_chain a in
      let u = front_chain b in
      (λ x. s.0 (kind.DotDot at p ∷ u.0 x), cut_join s.1 (cut_one (kind.DotDot at p) u.1), s.2 ∙ ap (λ z. s.0 (kind.DotDot at p ∷ z)) u.2, λ x. is_subrange (s.3 (kind.DotDot at p ∷ u.0 x)) (u.3 x))
  front_denoter (is_enumeration (are_bracketed_names {p = p} ns)) =
      let s = front_closed ns in
      (λ x. kind.OpenParenthesis at p ∷ s.0 x, cut_one (kind.OpenParenthesis at p) s.1, ap (λ z. kind.OpenParenthesis at p ∷ z) s.2, λ x. is_enumeration (are_bracketed_names (s.3 x)))
  front_denoter (is_set {p = p} {q = q} t) =
      let s = front_denoter t in
      (λ x. kind.Set at p ∷ kind.Of at q ∷ s.0 x, cut_one (kind.Set at p) (cut_one (kind.Of at q) s.1), ap (λ z. kind.Set at p ∷ kind.Of at q ∷ z) s.2, λ x. is_set (s.3 x))
  front_denoter (is_unpacked {k = k} {p = p} s) =
      let w = front_structure s in
      (λ x. k at p ∷ w.0 x, cut_one (k at p) w.1, ap (λ z. k at p ∷ z) w.2, λ x. is_unpacked (w.3 x))
  front_denoter (is_packed {ks = []} s) = elim s [ ]
  front_denoter (is_packed {p = p} {ks = u ∷ ks} s) =
      let w = front_structure s in
      (λ x. kind.Packed at p ∷ u ∷ w.0 x, cut_one (kind.Packed at p) (cut_one u w.1), ap (λ z. kind.Packed at p ∷ u ∷ z) w.2, λ x. is_packed (w.3 x))

  -- behind the first token
  pub front_structure : {d : ℕ} {p : Position} {b : Bool} {t : Denoter} {u : Terminal} {ks r : List Terminal} → IsStructure d p b t (u ∷ ks) r → (f : List Terminal → List Terminal) × IsCut f × (ks ≡ f r) × ((x : List Terminal) → IsStructure d p b t (u ∷ f x) x)
  front_structure (is_dynamic_array {u = u} t) =
      let s = front_denoter t in
      (λ x. kind.Of at u ∷ s.0 x, cut_one (kind.Of at u) s.1, ap (λ z. kind.Of at u ∷ z) s.2, λ x. is_dynamic_array (s.3 x))
  front_structure (is_static_array {u = u} {v = v} {w = w} ts t) =
      let s = front_denoters ts in
      let a = front_denoter t in
      (λ x. kind.OpenBracket at u ∷ s.0 (kind.CloseBracket at v ∷ kind.Of at w ∷ a.0 x), cut_one (kind.OpenBracket at u) (cut_join s.1 (cut_one (kind.CloseBracket at v) (cut_one (kind.Of at w) a.1))), ap (λ z. kind.OpenBracket at u ∷ z) (s.2 ∙ ap (λ z. s.0 (kind.CloseBracket at v ∷ kind.Of at w ∷ z)) a.2), λ x. is_static_array (s.3 (kind.CloseBracket at v ∷ kind.Of at w ∷ a.0 x)) (a.3 x))
  front_structure (is_record {u = u} fs) =
      let s = front_field_lists fs in
      (λ x. s.0 (kind.End at u ∷ x), cut_join s.1 (cut_one (kind.End at u) cut_none), s.2, λ x. is_record (s.3 (kind.End at u ∷ x)))

  pub front_denoters : {d : ℕ} {ts : Denoters} {ks r : List Terminal} → AreDenoters d ts ks r → Front (AreDenoters d ts) ks r
  front_denoters (are_one_denoter t) = let s = front_denoter t in (s.0, s.1, s.2, λ x. are_one_denoter (s.3 x))
  front_denoters (are_denoters {p = p} t ts) =
      let s = front_denoter t in
      let u = front_denoters ts in
      (λ x. s.0 (kind.Comma at p ∷ u.0 x), cut_join s.1 (cut_one (kind.Comma at p) u.1), s.2 ∙ ap (λ z. s.0 (kind.Comma at p ∷ z)) u.2, λ x. are_denoters (s.3 (kind.Comma at p ∷ u.0 x)) (u.3 x))

  pub front_field_lists : {d : ℕ} {fs : FieldLists} {ks r : List Terminal} → AreFieldLists d fs ks r → Front (AreFieldLists d fs) ks r
  front_field_lists are_no_fields = (λ x. x, cut_none, refl, λ x. are_no_fields)
  front_field_lists (are_last_fields {p = p} ns t) =
      let s = front_names ns in
      let w = front_denoter t in
      (λ x. s.0 (kind.Colon at p ∷ w.0 x), cut_join s.1 (cut_one (kind.Colon at p) w.1), s.2 ∙ ap (λ z. s.0 (kind.Colon at p ∷ z)) w.2, λ x. are_last_fields (s.3 (kind.Colon at p ∷ w.0 x)) (w.3 x))
  front_field_lists (are_fields {p = p} {q = q} ns t fs) =
      let s = front_names ns in
      let w = front_denoter t in
      let u = front_field_lists fs in
      (λ x. s.0 (kind.Colon at p ∷ w.0 (kind.Semicolon at q ∷ u.0 x)), cut_join s.1 (cut_one (kind.Colon at p) (cut_join w.1 (cut_one (kind.Semicolon at q) u.1))), s.2 ∙ ap (λ z. s.0 (kind.Colon at p ∷ z)) (w.2 ∙ ap (λ z. w.0 (kind.Semicolon at q ∷ z)) u.2), λ x. are_fields (s.3 (kind.Colon at p ∷ w.0 (kind.Semicolon at q ∷ u.0 x))) (w.3 (kind.Semicolon at q ∷ u.0 x)) (u.3 x))
