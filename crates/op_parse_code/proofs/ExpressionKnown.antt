-- The sorts of parts of expressions: each stands whatever follows that begins so, and ends at one place.
use Rattle.std.proofs.Common.{◌≡◌, ℕ, suc, List, ◌∷◌, refl, sym, ap, ◌∙◌, subst}
use Rattle.op_parse_code.proofs.Cuts.{IsCut, cut_none, cut_one, cut_join, same_chain, same_operand_at}
use Rattle.op_parse_code.proofs.Deeper.{deeper_chain, deeper_operand, deeper_root, deeper_selector}
use Rattle.op_parse_code.proofs.ExpressionFronts.{front_chain, front_operand, front_root, front_selector}
use Rattle.op_parse_code.proofs.Refusing.{Known, no_mark_same}
use Rattle.op_parse_code.specs.Opening.{kind_of}
use Rattle.op_parse_code.specs.Refusal.{SameHead}
use Rattle.op_parse_code.specs.Whole.{Chain, Operand, Marked, SomeElement, SomeArgument}
use Rattle.op_parse_code.specs.declared.mark.Mark.{Mark}
use Rattle.op_parse_code.specs.declared.mark.Mark.TheVariants as mark
use Rattle.op_scan.specs.declared.token.TokenKind.TheVariants as kind
use Rattle.op_tree.proofs.ExpressionUnique.{behind, stop, unique_chain, unique_operand, unique_root, unique_selector}
use Rattle.op_tree.specs.Expression.{Element, one, range, Argument, value, padded, rounded}
use Rattle.op_tree.specs.ExpressionGrammar.{IsRoot, IsSelector}
use Rattle.op_tree.specs.Terminal.{Terminal, ◌at◌}
use Rattle.op_tree.specs.declared.operator.Level.{Level}
use Rattle.op_tree.specs.declared.operator.Level.TheVariants.{Relational}

pub known_chain : (l : Level) → Known (Chain l)
known_chain l = record {
  front = λ d e ks m p. let s = front_chain p.0 in (s.0, s.1, s.2, λ x h. (s.3 x, same_chain l e m x h p.1));
  same = λ d d' e e' ks m m' p p'. (unique_chain p.0 p'.0 p.1 p'.1).1;
  deepens = λ d e ks m p. (deeper_chain p.0, p.1);
}

pub known_operand : (l : Level) → Known (Operand l)
known_operand l = record {
  front = λ d e ks m p. let s = front_operand p.0 in (s.0, s.1, s.2, λ x h. (s.3 x, same_operand_at l e m x h p.1));
  same = λ d d' e e' ks m m' p p'. (unique_operand p.0 p'.0 p.1 p'.1).1;
  deepens = λ d e ks m p. (deeper_operand p.0, p.1);
}

pub known_root : Known IsRoot
known_root = record {
  front = λ d e ks m p. let s = front_root p in (s.0, s.1, s.2, λ x h. s.3 x);
  same = λ d d' e e' ks m m' p p'. (unique_root p p').1;
  deepens = λ d e ks m p. deeper_root p;
}

pub known_selector : Known IsSelector
known_selector = record {
  front = λ d e ks m p. let s = front_selector p in (s.0, s.1, s.2, λ x h. s.3 x);
  same = λ d d' e e' ks m m' p p'. (unique_selector p p').1;
  deepens = λ d e ks m p. deeper_selector p;
}

pub known_mark : (k : Mark) → Known (Marked k)
known_mark k = record {
  front = λ d q ks m p. (λ x. kind_of k at q ∷ x, cut_one (kind_of k at q) cut_none, p, λ x h. refl);
  same = λ d d' q q' ks m m' p p'. ap behind (sym p ∙ p');
  deepens = λ d q ks m p. p;
}

front_element : (d : ℕ) (a : Element) (ks m : List Terminal) → SomeElement d a ks m → (f : List Terminal → List Terminal) × IsCut f × (ks ≡ f m) × ((x : List Terminal) → SameHead m x → SomeElement d a (f x) x)
front_element d (one e) ks m (f, none) =
    let s = front_chain f.0 in
    (s.0, s.1, s.2, λ x h. ((s.3 x, same_chain Relational e m x h f.1), no_mark_same mark.DotDot m x h none))
front_element d (range a b) ks m (p, n, f, g) =
    let s = front_chain f.0 in
    let u = front_chain g.0 in
    (λ x. s.0 (kind.DotDot at p ∷ u.0 x), cut_join s.1 (cut_one (kind.DotDot at p) u.1), s.2 ∙ ap (λ z. s.0 (kind.DotDot at p ∷ z)) u.2, λ x h. (p, u.0 x, (s.3 (kind.DotDot at p ∷ u.0 x), stop a _ (refl, refl)), (u.3 x, same_chain Relational b m x h g.1)))

same_element : (d d' : ℕ) (a a' : Element) (ks m m' : List Terminal) → SomeElement d a ks m → SomeElement d' a' ks m' → m ≡ m'
same_element d d' (one e) (one e') ks m m' (f, none) (f', none') = (unique_chain f.0 f'.0 f.1 f'.1).1
same_element d d' (one e) (range a' b') ks m m' (f, none) (p', n', f', g') = absurd (none p' n' (unique_chain f.0 f'.0 f.1 f'.1).1)
same_element d d' (range a b) (one e') ks m m' (p, n, f, g) (f', none') = absurd (none' p n (sym (unique_chain f.0 f'.0 f.1 f'.1).1))
same_element d d' (range a b) (range a' b') ks m m' (p, n, f, g) (p', n', f', g') =
    let s = unique_chain f.0 f'.0 f.1 f'.1 in
    let w = subst (λ x. Chain Relational d' b' x m') (sym (ap behind s.1)) g' in
    (unique_chain g.0 w.0 g.1 w.1).1

deeper_element : (d : ℕ) (a : Element) (ks m : List Terminal) → SomeElement d a ks m → SomeElement (suc d) a ks m
deeper_element d (one e) ks m (f, none) = ((deeper_chain f.0, f.1), none)
deeper_element d (range a b) ks m (p, n, f, g) = (p, n, (deeper_chain f.0, f.1), (deeper_chain g.0, g.1))

pub known_element : Known SomeElement
known_element = record { front = front_element; same = same_element; deepens = deeper_element }

front_argument : (d : ℕ) (a : Argument) (ks m : List Terminal) → SomeArgument d a ks m → (f : List Terminal → List Terminal) × IsCut f × (ks ≡ f m) × ((x : List Terminal) → SameHead m x → SomeArgument d a (f x) x)
front_argument d (value e) ks m (f, none) =
    let s = front_chain f.0 in
    (s.0, s.1, s.2, λ x h. ((s.3 x, same_chain Relational e m x h f.1), no_mark_same mark.Colon m x h none))
front_argument d (padded a b) ks m (p, n, f, g, none) =
    let s = front_chain f.0 in
    let u = front_chain g.0 in
    (λ x. s.0 (kind.Colon at p ∷ u.0 x), cut_join s.1 (cut_one (kind.Colon at p) u.1), s.2 ∙ ap (λ z. s.0 (kind.Colon at p ∷ z)) u.2, λ x h. (p, u.0 x, (s.3 (kind.Colon at p ∷ u.0 x), stop a _ (refl, refl)), (u.3 x, same_chain Relational b m x h g.1), no_mark_same mark.Colon m x h none))
front_argument d (rounded a b c) ks m (p, q, n, n1, f, g, i) =
    let s = front_chain f.0 in
    let u = front_chain g.0 in
    let w = front_chain i.0 in
    (λ x. s.0 (kind.Colon at p ∷ u.0 (kind.Colon at q ∷ w.0 x)), cut_join s.1 (cut_one (kind.Colon at p) (cut_join u.1 (cut_one (kind.Colon at q) w.1))), s.2 ∙ ap (λ z. s.0 (kind.Colon at p ∷ z)) (u.2 ∙ ap (λ z. u.0 (kind.Colon at q ∷ z)) w.2), λ x h. (p, q, u.0 (kind.Colon at q ∷ w.0 x), w.0 x, (s.3 (kind.Colon at p ∷ u.0 (kind.Colon at q ∷ w.0 x)), stop a _ (refl, refl)), (u.3 (kind.Colon at q ∷ w.0 x), stop b _ (refl, refl)), (w.3 x, same_chain Relational c m x h i.1)))

same_argument : (d d' : ℕ) (a a' : Argument) (ks m m' : List Terminal) → SomeArgument d a ks m → SomeArgument d' a' ks m' → m ≡ m'
same_argument d d' (value e) (value e') ks m m' (f, none) (f', none') = (unique_chain f.0 f'.0 f.1 f'.1).1
same_argument d d' (value e) (padded a' b') ks m m' (f, none) (p', n', f', g', none') = absurd (none p' n' (unique_chain f.0 f'.0 f.1 f'.1).1)
same_argument d d' (value e) (rounded a' b' c') ks m m' (f, none) (p', q', n', n1', f', g', i') = absurd (none p' n' (unique_chain f.0 f'.0 f.1 f'.1).1)
same_argument d d' (padded a b) (value e') ks m m' (p, n, f, g, none) (f', none') = absurd (none' p n (sym (unique_chain f.0 f'.0 f.1 f'.1).1))
same_argument d d' (rounded a b c) (value e') ks m m' (p, q, n, n1, f, g, i) (f', none') = absurd (none' p n (sym (unique_chain f.0 f'.0 f.1 f'.1).1))
same_argument d d' (padded a b) (padded a' b') ks m m' (p, n, f, g, none) (p', n', f', g', none') =
    let s = unique_chain f.0 f'.0 f.1 f'.1 in
    let w = subst (λ x. Chain Relational d' b' x m') (sym (ap behind s.1)) g' in
    (unique_chain g.0 w.0 g.1 w.1).1
same_argument d d' (padded a b) (rounded a' b' c') ks m m' (p, n, f, g, none) (p', q', n', n1', f', g', i') =
    let s = unique_chain f.0 f'.0 f.1 f'.1 in
    let w = subst (λ x. Chain Relational d' b' x (kind.Colon at q' ∷ n1')) (sym (ap behind s.1)) g' in
    absurd (none q' n1' (unique_chain g.0 w.0 g.1 w.1).1)
same_argument d d' (rounded a b c) (padded a' b') ks m m' (p, q, n, n1, f, g, i) (p', n', f', g', none') =
    let s = unique_chain f.0 f'.0 f.1 f'.1 in
    let w = subst (λ x. Chain Relational d' b' x m') (sym (ap behind s.1)) g' in
    absurd (none' q n1 (sym (unique_chain g.0 w.0 g.1 w.1).1))
same_argument d d' (rounded a b c) (rounded a' b' c') ks m m' (p, q, n, n1, f, g, i) (p', q', n', n1', f', g', i') =
    let s = unique_chain f.0 f'.0 f.1 f'.1 in
    let w = subst (λ x. Chain Relational d' b' x (kind.Colon at q' ∷ n1')) (sym (ap behind s.1)) g' in
    let u = unique_chain g.0 w.0 g.1 w.1 in
    let v = subst (λ x. Chain Relational d' c' x m') (sym (ap behind u.1)) i' in
    (unique_chain i.0 v.0 i.1 v.1).1

deeper_argument : (d : ℕ) (a : Argument) (ks m : List Terminal) → SomeArgument d a ks m → SomeArgument (suc d) a ks m
deeper_argument d (value e) ks m (f, none) = ((deeper_chain f.0, f.1), none)
deeper_argument d (padded a b) ks m (p, n, f, g, none) = (p, n, (deeper_chain f.0, f.1), (deeper_chain g.0, g.1), none)
deeper_argument d (rounded a b c) ks m (p, q, n, n1, f, g, i) = (p, q, n, n1, (deeper_chain f.0, f.1), (deeper_chain g.0, g.1), (deeper_chain i.0, i.1))

pub known_argument : Known SomeArgument
known_argument = record { front = front_argument; same = same_argument; deepens = deeper_argument }
