-- The sorts of names and types: each stands whatever follows that begins so, and ends at one place.
use Rattle.std.proofs.Common.{◌≡◌, ℕ, suc, false, List, [], ◌∷◌, refl, sym, ap, ◌∙◌, subst}
use Rattle.op_parse_code.proofs.Cuts.{IsCut, cut_none, cut_one, cut_join, same_not}
use Rattle.op_parse_code.proofs.Refusing.{Known, no_mark_same}
use Rattle.op_parse_code.specs.Refusal.{SameHead}
use Rattle.op_parse_code.specs.Whole.{NoMark}
use Rattle.op_parse_code.specs.declared.mark.Mark.TheVariants as mark
use Rattle.op_parse_decl.specs.Deepening.{deeper_brackets, deeper_denoter, deeper_denoters, deeper_fields}
use Rattle.op_parse_decl.specs.Fronts.{front_names, front_bracketed_names, front_denoter, front_denoters, front_field_lists}
use Rattle.op_parse_decl.specs.Types.{SomeNames, SomeBracketedNames, SomeDenoter, DenotersBefore, FieldsBefore, RecordFields, record_fields, SomeIndices, no_indices, some_indices, SomeFields}
use Rattle.op_scan.specs.declared.token.TokenKind.{TokenKind}
use Rattle.op_scan.specs.declared.token.TokenKind.TheVariants as kind
use Rattle.op_tree.proofs.DenoterUnique.{unique_names, unique_bracketed_names, unique_denoter, unique_denoters, unique_field_lists}
use Rattle.op_tree.proofs.ExpressionUnique.{behind, is_comma}
use Rattle.op_tree.proofs.StatementUnique.{is_dot}
use Rattle.op_tree.specs.Denoter.{Denoters, FieldLists}
use Rattle.op_tree.specs.Ends.{IsNot, StopsDenoter}
use Rattle.op_tree.specs.Terminal.{Terminal, ◌at◌}
use Rattle.op_tree.specs.declared.position.Position.{Position}

-- ---- what may follow

pub same_stops : (r r' : List Terminal) → SameHead r r' → StopsDenoter r → StopsDenoter r'
same_stops r r' s h = record { operator = same_not _ r r' s h.operator; selector = same_not _ r r' s h.selector; range = same_not _ r r' s h.range }

pub not_comma : (r : List Terminal) → NoMark mark.Comma r → IsNot is_comma r
not_comma [] h = tt
not_comma (t ∷ r) h = at_kind t.kind t.position h
  where
    at_kind : (k : TokenKind) (p : Position) → NoMark mark.Comma (k at p ∷ r) → is_comma k ≡ false
    at_kind kind.Comma p h = absurd (h p r refl)
    at_kind other p h = refl

pub not_dot : (r : List Terminal) → NoMark mark.Dot r → IsNot is_dot r
not_dot [] h = tt
not_dot (t ∷ r) h = at_kind t.kind t.position h
  where
    at_kind : (k : TokenKind) (p : Position) → NoMark mark.Dot (k at p ∷ r) → is_dot k ≡ false
    at_kind kind.Dot p h = absurd (h p r refl)
    at_kind other p h = refl

-- ---- two parts

-- ---- names

pub known_names : Known SomeNames
known_names = record {
  front = λ d ns ks m p. let s = front_names p.0 in (s.0, s.1, s.2, λ x h. (s.3 x, no_mark_same mark.Comma m x h p.1));
  same = λ d d' ns ns' ks m m' p p'. (unique_names p.0 p'.0 (not_comma m p.1) (not_comma m' p'.1)).1;
  deepens = λ d ns ks m p. p;
}

pub known_bracketed_names : Known SomeBracketedNames
known_bracketed_names = record {
  front = λ d ns ks m p. let s = front_bracketed_names p in (s.0, s.1, s.2, λ x h. s.3 x);
  same = λ d d' ns ns' ks m m' p p'. (unique_bracketed_names p p').1;
  deepens = λ d ns ks m p. deeper_brackets p;
}

-- ---- types

pub known_denoter : Known SomeDenoter
known_denoter = record {
  front = λ d t ks m p. let s = front_denoter p.0 in (s.0, s.1, s.2, λ x h. (s.3 x, same_stops m x h p.1));
  same = λ d d' t t' ks m m' p p'. (unique_denoter p.0 p'.0 p.1 p'.1).1;
  deepens = λ d t ks m p. (deeper_denoter p.0, p.1);
}

pub known_denoters : Known DenotersBefore
known_denoters = record {
  front = λ d ts ks m p. let s = front_denoters p.1 in (λ x. s.0 (kind.CloseBracket at p.0 ∷ x), cut_join s.1 (cut_one (kind.CloseBracket at p.0) cut_none), s.2, λ x h. (p.0, s.3 (kind.CloseBracket at p.0 ∷ x)));
  same = λ d d' ts ts' ks m m' p p'. ap behind (unique_denoters p.1 p'.1 (record { operator = refl; selector = refl; range = refl }) (record { operator = refl; selector = refl; range = refl }) refl refl).1;
  deepens = λ d ts ks m p. (p.0, deeper_denoters p.1);
}

pub known_fields_before : Known FieldsBefore
known_fields_before = record {
  front = λ d ts ks m p. let s = front_field_lists p.1 in (λ x. s.0 (kind.End at p.0 ∷ x), cut_join s.1 (cut_one (kind.End at p.0) cut_none), s.2, λ x h. (p.0, s.3 (kind.End at p.0 ∷ x)));
  same = λ d d' ts ts' ks m m' p p'. ap behind (unique_field_lists p.1 p'.1 refl refl).1;
  deepens = λ d ts ks m p. (p.0, deeper_fields p.1);
}

front_record : (d : ℕ) (fs : FieldLists) (ks m : List Terminal) → RecordFields d fs ks m → (f : List Terminal → List Terminal) × IsCut f × (ks ≡ f m) × ((x : List Terminal) → SameHead m x → RecordFields d fs (f x) x)
front_record d fs ks m (record_fields {p = p} {ks = ls} f) =
    let s = known_fields_before.front d fs ls m f in
    (λ x. kind.Record at p ∷ s.0 x, cut_one (kind.Record at p) s.1, ap (λ z. kind.Record at p ∷ z) s.2, λ x h. record_fields (s.3 x h))

same_record : (d d' : ℕ) (fs fs' : FieldLists) (ks m m' : List Terminal) → RecordFields d fs ks m → RecordFields d' fs' ks m' → m ≡ m'
same_record d d' fs fs' ks m m' (record_fields {ks = ls} f) (record_fields f') = known_fields_before.same d d' fs fs' ls m m' f f'

deepens_record : (d : ℕ) (fs : FieldLists) (ks m : List Terminal) → RecordFields d fs ks m → RecordFields (suc d) fs ks m
deepens_record d fs ks m (record_fields f) = record_fields (f.0, deeper_fields f.1)

pub known_record : Known RecordFields
known_record = record { front = front_record; same = same_record; deepens = deepens_record }

front_indices : (d : ℕ) (ts : Denoters) (ks m : List Terminal) → SomeIndices d ts ks m → (f : List Terminal → List Terminal) × IsCut f × (ks ≡ f m) × ((x : List Terminal) → SameHead m x → SomeIndices d ts (f x) x)
front_indices d ts ks m (no_indices {p = p}) = (λ x. kind.Of at p ∷ x, cut_one (kind.Of at p) cut_none, refl, λ x h. no_indices)
front_indices d ts ks m (some_indices {d = i} {p = p} {q = q} {ks = ls} f) =
    let s = known_denoters.front i ts ls (kind.Of at q ∷ m) f in
    (λ x. kind.OpenBracket at p ∷ s.0 (kind.Of at q ∷ x), cut_one (kind.OpenBracket at p) (cut_join s.1 (cut_one (kind.Of at q) cut_none)), ap (λ z. kind.OpenBracket at p ∷ z) s.2, λ x h. some_indices (s.3 (kind.Of at q ∷ x) refl))

same_indices : (d d' : ℕ) (ts ts' : Denoters) (ks m m' : List Terminal) → SomeIndices d ts ks m → SomeIndices d' ts' ks m' → m ≡ m'
same_indices d d' ts ts' ks m m' no_indices no_indices = refl
same_indices d d' ts ts' ks m m' (some_indices {d = i} {ks = ls} f) (some_indices {d = i'} f') = ap behind (known_denoters.same i i' ts ts' ls _ _ f f')

deepens_indices : (d : ℕ) (ts : Denoters) (ks m : List Terminal) → SomeIndices d ts ks m → SomeIndices (suc d) ts ks m
deepens_indices d ts ks m no_indices = no_indices
deepens_indices d ts ks m (some_indices f) = some_indices (f.0, deeper_denoters f.1)

pub known_indices : Known SomeIndices
known_indices = record { front = front_indices; same = same_indices; deepens = deepens_indices }

pub known_fields : Known SomeFields
known_fields = record {
  front = λ d x ks m p.
      let s = front_names p.2 in
      let u = known_denoter.front d x.1 p.1 m p.3 in
      (λ z. s.0 (kind.Colon at p.0 ∷ u.0 z), cut_join s.1 (cut_one (kind.Colon at p.0) u.1), s.2 ∙ ap (λ z. s.0 (kind.Colon at p.0 ∷ z)) u.2, λ z h. (p.0, u.0 z, s.3 (kind.Colon at p.0 ∷ u.0 z), u.3 z h));
  same = λ d d' x x' ks m m' p p'.
      let s = unique_names p.2 p'.2 refl refl in
      known_denoter.same d d' x.1 x'.1 p.1 m m' p.3 (subst (λ z. SomeDenoter d' x'.1 z m') (sym (ap behind s.1)) p'.3);
  deepens = λ d x ks m p. (p.0, p.1, p.2, (deeper_denoter p.3.0, p.3.1));
}
