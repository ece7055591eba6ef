-- Refusals of first values.
use Rattle.std.proofs.Common.{◌≡◌, ◌<◌, ◌+◌, ◌-◌, ◌||◌, ℕ, suc, Bool, true, false, List, [], ◌∷◌, ◌++◌, Some, None, length, refl, sym, ap, ◌∙◌, subst, append_assoc, arith, zero}
use Rattle.std.proofs.lemmas.List.{append-nil, append_cancel_right}
use Rattle.std.proofs.lemmas.Option.{same_Some}
use Rattle.op_base.specs.declared.place.Place.{Place}
use Rattle.op_parse_code.proofs.Chains.{additive_refuses, chain_operand, multiplicative_operand, multiplicative_refuses, relational_refuses}
use Rattle.op_parse_code.proofs.Cuts.{IsCut, cut_one, cut_join, cut_none, cut_seen, same_behind, same_not}
use Rattle.op_parse_code.proofs.Deeper.{chain_at}
use Rattle.op_parse_code.proofs.Designators.{designator_selectors, designator_whole}
use Rattle.op_parse_code.proofs.ExpressionFronts.{front_chain}
use Rattle.op_parse_code.proofs.ExpressionKnown.{known_chain}
use Rattle.op_parse_code.proofs.Factors.{designated_refuses, factor_designated}
use Rattle.op_parse_code.proofs.Fitting.{a_name, fits_chain, name_alone as name_alone'}
use Rattle.op_parse_code.proofs.Living.{Fits, Sample, alive_here, hands_as, hands_deeper, hands_first, hands_inside}
use Rattle.op_parse_code.proofs.Parts.{dead_none}
use Rattle.op_parse_code.proofs.Refusing.{Some_, Seq, suc_same, with_token_in_grammar, with_front_in_grammar, inside_seen, dead_here, no_mark_same, head_same, Shows, HandsOn, alive_after, refuses_map, refuses_first, refuses_inside, refuses_deeper, refuses_map_by, refuses_after_by, refuses_behind_by, refuses_deeper_by}
use Rattle.op_parse_code.specs.Refusal.{Phrase, SameHead, Dead, Decides, decides_there, Refuses, out_of_memory, syntax, nested, in_grammar, refused_at, Alive, Shown, RefusesBy}
use Rattle.op_parse_code.specs.Whole.{Chain, Marked, NoMark, Operand, SomeSelectors}
use Rattle.op_parse_code.specs.declared.error.ParseError.{ParseError}
use Rattle.op_parse_code.specs.declared.mark.Mark.TheVariants as mark
use Rattle.op_parse_decl.proofs.Combining.{same_sym}
use Rattle.op_parse_decl.proofs.Denoted.{by_expr}
use Rattle.op_parse_decl.proofs.Refusals.{as_value, flat_mark}
use Rattle.op_parse_decl.specs.Deepening.{deeper_initials}
use Rattle.op_parse_decl.specs.InitialKnown.{known_initial, front_initial}
use Rattle.op_parse_decl.specs.Initials.{SomeValue, ValueOf, HasDepth, Within, FitsRoom, FitsItem, name_alone, InitialsBefore, RecordBehind}
use Rattle.op_parse_decl.specs.Opening.{continues_expression}
use Rattle.op_parse_decl.specs.Refusal.{DecidesInPart, TellsList, decides_in_code, decides_in_list, tells_of_bracket, tells_of_name, tells_of_value, RefusesHere, Never, Untold, RefusesValue}
use Rattle.op_parse_decl.specs.Types.{SomeInitial, NoMoreExpression}
use Rattle.op_parse_decl.specs.declared.initializer.Room.{Room}
use Rattle.op_parse_decl.specs.declared.initializer.Room.TheVariants as room
use Rattle.op_scan.specs.declared.token.TokenKind.{TokenKind}
use Rattle.op_scan.specs.declared.token.TokenKind.TheVariants as kind
use Rattle.op_tree.proofs.DenoterUnique.{as_expr, no_expression_list, no_expression_record, unique_initial}
use Rattle.op_tree.proofs.ExpressionUnique.{Begins, behind, chain_begins, designator_begins, stop, true_false, false_true}
use Rattle.op_tree.proofs.StatementUnique.{both}
use Rattle.op_tree.specs.DenoterGrammar.{IsInitial, is_value, is_list, is_record_value, AreInitials, are_one_initial, are_initials, are_one_field_initial, are_field_initials, IsNoExpression, AreFieldInitials}
use Rattle.op_tree.specs.Ends.{IsNot, Stops, begins_expression, begins_selector, binds}
use Rattle.op_tree.specs.Expression.{Expression, designated, designator, named, bracketed, no_selectors, Root, Selectors, string, prefixed, number, nil, set, no_elements, literal, inherited}
use Rattle.op_tree.specs.ExpressionGrammar.{IsChain, is_chain, IsOperand, is_simple, is_term, is_factor, is_prefixed, is_designated, is_designator, is_named, is_bracketed, IsDesignator, are_no_selectors, IsRoot, IsFactor, is_number, is_nil, is_empty_set, is_literal, is_inherited, is_string}
use Rattle.op_tree.specs.Initial.{Initial, value, list, record_, Initials, no_initials, initials, FieldInitials, initial_of, field_initials, no_field_initials}
use Rattle.op_tree.specs.NameGrammar.{is_name}
use Rattle.op_tree.specs.Statement.{selectors_of}
use Rattle.op_tree.specs.Terminal.{Terminal, ◌at◌, name}
use Rattle.op_tree.specs.declared.expression.Expr.{Expr}
use Rattle.op_tree.specs.declared.expression.Selector.{Selector}
use Rattle.op_tree.specs.declared.initializer.Initializer.{Initializer}
use Rattle.op_tree.specs.declared.initializer.Initializer.TheVariants.{Value, List', Record'}
use Rattle.op_tree.specs.declared.operator.Level.{Level}
use Rattle.op_tree.specs.declared.operator.Level.TheVariants.{Additive, Multiplicative, Relational}
use Rattle.op_tree.specs.declared.operator.PrefixOperator.TheVariants as prefix
use Rattle.op_tree.specs.declared.position.Name.{Name}
use Rattle.op_tree.specs.declared.position.Position.{Position}

-- ---- how a first value reads that begins with a bracket

record Bracketed (d : ℕ) (ks : List Terminal) : Type 0 where
  pub inner : ℕ
  pub is_inner : d ≡ suc inner
  pub inside : Expression
  pub close : Position
  pub after : List Terminal
  pub is_inside : IsChain Relational inner inside ks (kind.CloseParenthesis at close ∷ after)

mutual
  chain_opened : {l : Level} {d : ℕ} {e : Expression} {p : Position} {ks r : List Terminal} → IsChain l d e (kind.OpenParenthesis at p ∷ ks) r → Bracketed d ks
  chain_opened (is_chain a os q) = operand_opened a

  operand_opened : {l : Level} {d : ℕ} {e : Expression} {p : Position} {ks r : List Terminal} → IsOperand l d e (kind.OpenParenthesis at p ∷ ks) r → Bracketed d ks
  operand_opened (is_simple f) = chain_opened f
  operand_opened (is_term f) = chain_opened f
  operand_opened (is_factor (is_prefixed h f)) = absurd cc
  operand_opened (is_factor (is_designated (is_designator (is_bracketed f) ss))) = record { inner = _; is_inner = refl; inside = _; close = _; after = _; is_inside = f }

-- what stands behind the first value in the brackets, which has this depth
data Tail (k d depth : ℕ) : Initial → List Terminal → Type 0 where
  tail_expression : {e : Expression} {q : Position} {m : List Terminal} → Tail k d depth (value e) (kind.CloseParenthesis at q ∷ m)
  tail_one : {i : Initial} {q : Position} {m : List Terminal} → IsNoExpression (initials i no_initials) → Stops m → Tail k d depth i (kind.CloseParenthesis at q ∷ m)
  tail_list : {i : Initial} {others : Initials} {q : Position} {m r : List Terminal} → suc (suc depth) + k ≡ suc d → Seq InitialsBefore NoMoreExpression depth (others, []) m r → Tail k d depth i (kind.Comma at q ∷ m)
  tail_record : {l : ℕ} {n : Name} {fs : FieldInitials} {q : Position} {m r : List Terminal} → suc (suc l) + k ≡ suc d → RecordBehind n q l fs m r → Tail k d depth (value (designated (designator (named n) no_selectors))) (kind.Colon at q ∷ m)

record Opening (k d : ℕ) (ls : List Terminal) : Type 0 where
  pub inner : ℕ
  pub is_inner : d ≡ suc inner
  pub depth : ℕ
  pub first : Initial
  pub rest : List Terminal
  pub stands : SomeInitial depth first ls rest
  pub fits : Within (suc k) inner first ls rest
  pub tail : Tail k d depth first rest

widen : (k i l : ℕ) (j : Initial) (ls m : List Terminal) → suc (suc l) + k ≡ suc (suc i) → SomeInitial l j ls m → Within (suc k) i j ls m
widen k i l (value e) ls m h (is_value {d = n} f, st) = let more : i ≡ (i - n) + n = omega (arith, h) in (suc i, refl, (is_value (chain_at Relational (i - n) n i e ls m more f), st))
widen k i l (list p is) ls m h f = let same : l + suc k ≡ suc i = omega (arith, h) in (l, same, f)
widen k i l (record_ p fs) ls m h f = let same : l + suc k ≡ suc i = omega (arith, h) in (l, same, f)

item_opening : (k d l : ℕ) (i : Initial) (ls m : List Terminal) → suc (suc l) + k ≡ suc d → SomeInitial l i ls m → Tail k d l i m → Opening k d ls
item_opening k d l i ls m h f t =
    let deep : d ≡ suc (l + k) = omega (arith, h) in
    let same : suc (suc l) + k ≡ suc (suc (l + k)) = omega arith in
    record { inner = l + k; is_inner = deep; depth = l; first = i; rest = m; stands = f; fits = widen k (l + k) l i ls m same f; tail = t }

name_opening : (k d l : ℕ) (text : List ℕ) (v w : Position) (fs : FieldInitials) (m r : List Terminal) → suc (suc l) + k ≡ suc d → RecordBehind (name text v) w l fs m r → Opening k d (kind.Identifier text at v ∷ kind.Colon at w ∷ m)
name_opening k d l text v w fs m r h g =
    let deep : d ≡ suc (l + k) = omega (arith, h) in
    let f : SomeInitial (suc (l + k)) (value (designated (designator (named (name text v)) no_selectors))) (kind.Identifier text at v ∷ kind.Colon at w ∷ m) (kind.Colon at w ∷ m) = (is_value (as_expr (is_designated (is_designator is_named are_no_selectors))), (refl, refl)) in
    record { inner = l + k; is_inner = deep; depth = suc (l + k); first = value (designated (designator (named (name text v)) no_selectors)); rest = kind.Colon at w ∷ m; stands = f; fits = (suc (l + k), refl, f); tail = tail_record h g }

opening : (k d : ℕ) (b : Initial) (p : Position) (ls r : List Terminal) → Within k d b (kind.OpenParenthesis at p ∷ ls) r → Opening k d ls
opening k d (value e) p ls r (l, h, (is_value {d = n} f, st)) =
    let o = chain_opened (subst (λ (z : ℕ). IsChain Relational z e (kind.OpenParenthesis at p ∷ ls) r) (suc_same h) f) in
    let g : SomeInitial (suc o.inner) (value o.inside) ls (kind.CloseParenthesis at o.close ∷ o.after) = (is_value o.is_inside, (refl, refl)) in
    record { inner = o.inner; is_inner = o.is_inner; depth = suc o.inner; first = value o.inside; rest = kind.CloseParenthesis at o.close ∷ o.after; stands = g; fits = (suc o.inner, refl, g); tail = tail_expression }
opening k d (list q is) p ls r (l, h, (is_list {d = n} {q = u} (are_one_initial {i = i} f) single, st)) = item_opening k d n i ls (kind.CloseParenthesis at u ∷ r) h (f, (refl, refl)) (tail_one single st)
opening k d (list q is) p ls r (l, h, (is_list {d = n} {q = u} (are_initials {i = i} {p = v} {m = m} f fs) single, st)) = item_opening k d n i ls (kind.Comma at v ∷ m) h (f, (refl, refl)) (tail_list h (r, (u, fs), (refl, st)))
opening k d (record_ q fs) p ls r (l, h, (is_record_value {d = n} {q = u} (are_one_field_initial {p = w} {m = m} (is_name {text = text} {p = v}) f), st)) = name_opening k d n text v w fs m r h (u, are_one_field_initial is_name f, st)
opening k d (record_ q fs) p ls r (l, h, (is_record_value {d = n} {q = u} (are_field_initials {p = w} {m = m} (is_name {text = text} {p = v}) f gs), st)) = name_opening k d n text v w fs m r h (u, are_field_initials is_name f gs, st)

-- ---- what is behind the first value dies

-- a first value whose rest begins with the same token
before_others : (l : ℕ) (i : Initial) (front ls m : List Terminal) → SomeInitial l i (front ++ ls) ls → SameHead ls m → SomeInitial l i (front ++ m) m
before_others l i front ls m f s =
    let v = known_initial.front l i (front ++ ls) ls f in
    let t = cut_seen v.1 in
    let same : front ≡ t.0 = append_cancel_right front t.0 ls (v.2 ∙ t.1 ls) in
    subst (λ z. SomeInitial l i (z ++ m) m) (sym same) (subst (λ z. SomeInitial l i z m) (t.1 m) (v.3 m s))

-- what stands behind this first value at the front of ks
abbrev After : ℕ → Initial → List Terminal → List Terminal → Phrase (Unit {0})
After k a ks m d u ls r = (l : ℕ) × SomeInitial l a ks m × Tail k d l a ls

dead_after_first : (k i d : ℕ) (a : Initial) (p : Position) (ks m q : List Terminal) → Within (suc k) i a ks m → Dead (After k a ks m d) m q → Dead (Within k d) (kind.OpenParenthesis at p ∷ ks) q
dead_after_first k i d a p ks m q (l, h, f) (seen, e, never) =
    let w = known_initial.front l a ks m f in
    let s = cut_seen w.1 in (
      kind.OpenParenthesis at p ∷ (s.0 ++ seen),
      ap (λ z. kind.OpenParenthesis at p ∷ z) (w.2 ∙ s.1 m ∙ ap (λ z. s.0 ++ z) e ∙ sym (append_assoc s.0 seen q)),
      λ ls b r g x.
          let head : SameHead m (seen ++ ls) = subst (λ z. SameHead z (seen ++ ls)) (sym e) (same_behind seen q ls g) in
          let whole : SomeInitial l a (s.0 ++ (seen ++ ls)) (seen ++ ls) = subst (λ z. SomeInitial l a z (seen ++ ls)) (s.1 (seen ++ ls)) (w.3 (seen ++ ls) head) in
          let o = opening k d b p (s.0 ++ (seen ++ ls)) r (subst (λ z. Within k d b (kind.OpenParenthesis at p ∷ z) r) (append_assoc s.0 seen ls) x) in
          let u = unique_initial o.stands.0 whole.0 o.stands.1 whole.1 in
          let there : SomeInitial o.depth a (s.0 ++ (seen ++ ls)) (seen ++ ls) = subst (λ z. SomeInitial o.depth a (s.0 ++ (seen ++ ls)) z) u.1 (subst (λ z. SomeInitial o.depth z (s.0 ++ (seen ++ ls)) o.rest) u.0 o.stands) in
          let here : SomeInitial o.depth a ks m = subst (λ z. SomeInitial o.depth a z m) (sym (w.2 ∙ s.1 m)) (before_others o.depth a s.0 (seen ++ ls) m there (same_sym m (seen ++ ls) head)) in
          never ls tt [] g (o.depth, here, subst (λ z. Tail k d o.depth a z) u.1 (subst (λ z. Tail k d o.depth z o.rest) u.0 o.tail)),
    )

after_first : {W : Shown} (k i : ℕ) (a : Initial) (p : Position) (ks m : List Terminal) (end : Place) (e : ParseError) → Within (suc k) i a ks m → Shows W (suc i) m (Alive (Within k)) (suc i) (kind.OpenParenthesis at p ∷ ks) → RefusesBy DecidesInPart W (After k a ks m) (suc i) end m e → RefusesValue (Within k) (suc i) end (kind.OpenParenthesis at p ∷ ks) e
after_first k i a p ks m end e f s (out_of_memory x) = out_of_memory x
after_first k i a p ks m end e f s (syntax q x never) = syntax q x (λ d'. dead_after_first k i d' a p ks m q f (never d'))
after_first k i a p ks m end e f s (nested q z n x w never v t) = nested q z n x w (dead_after_first k i (suc i) a p ks m z f never) v (s n t)
after_first k i a p ks m end e (l, h, f) t (in_grammar feature q x g) =
    let w = known_initial.front l a ks m f in
    let s = cut_seen w.1 in
    in_grammar feature q x (with_token_in_grammar (kind.OpenParenthesis at p) (with_front_in_grammar s.0 (w.2 ∙ s.1 m) g))

-- behind a token, at a depth that the outer one tells
under : {A B : Type 0} {W V : Shown} (P : Phrase A) (Q : Phrase B) (n d : ℕ) (end : Place) (t : Terminal) (ks : List Terminal) (e : ParseError) → ((d' : ℕ) (b : B) (ls r : List Terminal) → Q d' b (t ∷ ls) r → (i : ℕ) × (d' ≡ d → i ≡ n) × Some_ P i ls) → Shows W n ks V d (t ∷ ks) → RefusesBy DecidesInPart W P n end ks e → RefusesBy DecidesInPart V Q d end (t ∷ ks) e
under P Q n d end t ks e h k (out_of_memory x) = out_of_memory x
under P Q n d end t ks e h k (syntax q x never) = syntax q x (λ d'. let first = never n in (t ∷ first.0, ap (λ z. t ∷ z) first.1, λ ls b r s f. let w = h d' b (first.0 ++ ls) r f in inside_seen (P w.0) ks q first.0 first.1 (never w.0) ls w.2.0 w.2.1 s w.2.2))
under P Q n d end t ks e h k (nested q z o x w (seen, same, never) g lives) = nested q z o x w (t ∷ seen, ap (λ y. t ∷ y) same, λ ls b r s f. let v = h d b (seen ++ ls) r f in never ls v.2.0 v.2.1 s (subst (λ (y : ℕ). P y v.2.0 (seen ++ ls) v.2.1) (v.1 refl) v.2.2)) g (k o lives)
under P Q n d end t ks e h k (in_grammar feature q x f) = in_grammar feature q x (with_token_in_grammar t f)

dead_token : {A : Type 0} (P : A → List Terminal → List Terminal → Type 0) (t : Terminal) (ks : List Terminal) → ((a : A) (ls r : List Terminal) → P a (t ∷ ls) r → ⊥) → Dead P (t ∷ ks) (t ∷ ks)
dead_token {A} P t ks h = dead_here P (t ∷ ks) at_head
  where
    at_head : (a : A) (ls r : List Terminal) → SameHead (t ∷ ks) ls → P a ls r → ⊥
    at_head a [] r s f = absurd s
    at_head a (u ∷ ls) r s f = h a ls r (subst (λ z. P a (z ∷ ls) r) (sym s) f)

-- ---- lists and records of a greater depth

-- where tokens begin a part of a greater depth, others behind these begin another, up to the same token
shifted : {A B : Type 0} (P : Phrase A) (Q : Phrase B) (d e : ℕ) (front ks q : List Terminal) → ((i : ℕ) (a : A) (ls r : List Terminal) → d < i → P i a ls r → (j : ℕ) × (e < j) × (b : B) × Q j b (front ++ ls) r) → Alive P d ks q → Alive Q e (front ++ ks) q
shifted P Q d e front ks q h x =
    let goes : List Terminal = x.first ∷ (x.others ++ x.behind) in
    let w = h x.depth x.part (x.seen ++ goes) x.behind x.deep x.stands in
    record { seen = front ++ x.seen; first = x.first; rest = x.rest; from = ap (λ z. front ++ z) x.from ∙ sym (append_assoc front x.seen q); to = x.to; depth = w.0; deep = w.1; others = x.others; behind = x.behind; part = w.2; stands = subst (λ z. Q w.0 w.2 z x.behind) (sym (append_assoc front x.seen goes)) w.3 }

by_steps : {A : Type 0} (P : Phrase A) → ((d : ℕ) (a : A) (ks r : List Terminal) → P d a ks r → P (suc d) a ks r) → (n d i : ℕ) (a : A) (ks r : List Terminal) → i ≡ n + d → P d a ks r → P i a ks r
by_steps P deepens zero d i a ks r h p = let same : d ≡ i = omega (arith, h) in subst (λ (z : ℕ). P z a ks r) same p
by_steps P deepens (suc n) d i a ks r h p = let same : suc (n + d) ≡ i = omega (arith, h) in subst (λ (z : ℕ). P z a ks r) same (deepens (n + d) a ks r (by_steps P deepens n d (n + d) a ks r refl p))

-- the items behind the first one and a comma
abbrev MoreItems : Phrase (Position × (Initials × List Terminal))
MoreItems = Seq (Marked mark.Comma) (Seq InitialsBefore NoMoreExpression)

deepens_more_items : (d : ℕ) (x : Initials × List Terminal) (ks r : List Terminal) → Seq InitialsBefore NoMoreExpression d x ks r → Seq InitialsBefore NoMoreExpression (suc d) x ks r
deepens_more_items d x ks r (m, (p, f), g) = (m, (p, deeper_initials f), g)

listed_so : (k j : ℕ) (p : Position) (x : Initial × (Position × (Initials × List Terminal))) (ls r : List Terminal) → Seq SomeInitial MoreItems j x ls r → (b : Initial) × Within k (suc j + k) b (kind.OpenParenthesis at p ∷ ls) r
listed_so k j p (a, (u, (others, none))) ls r (m, f, (n, is, (o, (v, g), (same, st)))) = (list p (initials a others), (suc (suc j), omega arith, (is_list (are_initials (subst (λ z. IsInitial j a ls z) is f.0) (subst (λ z. AreInitials j others n (kind.CloseParenthesis at v ∷ z)) same g)) (no_expression a others g), st)))
  where
    no_expression : {j : ℕ} {n z : List Terminal} (a : Initial) (others : Initials) → AreInitials j others n z → IsNoExpression (initials a others)
    no_expression (value e) others (are_one_initial i) = tt
    no_expression (value e) others (are_initials i is) = tt
    no_expression (list q is) others js = tt
    no_expression (record_ q fs) others js = tt

-- how deep the first value stands in k brackets
deep_enough : (k i l j : ℕ) (a : Initial) → HasDepth (suc k) i l a → l < j → suc i < suc j + k
deep_enough k i l j (value e) h less = omega (arith, h, less)
deep_enough k i l j (list p is) h less = omega (arith, h, less)
deep_enough k i l j (record_ p fs) h less = omega (arith, h, less)

-- a list begins with its first item, a comma and what begins more items
items_alive : (k i : ℕ) (a : Initial) (p : Position) (ks m q : List Terminal) → Within (suc k) i a ks m → ((l : ℕ) → Alive MoreItems l m q) → Alive (Within k) (suc i) (kind.OpenParenthesis at p ∷ ks) q
items_alive k i a p ks m q (l, h, f) more = shifted (Seq SomeInitial MoreItems) (Within k) l (suc i) (kind.OpenParenthesis at p ∷ []) ks q (λ j x ls r less g. let w = listed_so k j p x ls r g in (suc j + k, deep_enough k i l j a h less, w.0, w.1)) (alive_after SomeInitial MoreItems l a ks m q known_initial f (more l))

more_alive : (n l : ℕ) (u : Position) (after q : List Terminal) → Alive (Seq InitialsBefore NoMoreExpression) n after q → Alive MoreItems l (kind.Comma at u ∷ after) q
more_alive n l u after q x = shifted (Seq InitialsBefore NoMoreExpression) MoreItems n l (kind.Comma at u ∷ []) after q (λ i y ls r less g. let deep : l < suc l + i = omega arith in (suc l + i, deep, (u, y), (ls, refl, by_steps (Seq InitialsBefore NoMoreExpression) deepens_more_items (suc l) i (suc l + i) y ls r refl g))) x

-- a list begins with its first item and a comma
comma_alive : (k i : ℕ) (a : Initial) (p u : Position) (ks m after : List Terminal) → Within (suc k) i a ks m → m ≡ kind.Comma at u ∷ after → Alive (Within k) (suc i) (kind.OpenParenthesis at p ∷ ks) m
comma_alive k i a p u ks m after f is = items_alive k i a p ks m m f (λ l. subst (λ z. Alive MoreItems l z z) (sym is) (least l))
  where
    item : (l : ℕ) → IsInitial (suc l) (value (a_name u)) (kind.Identifier [] at u ∷ kind.CloseParenthesis at u ∷ []) (kind.CloseParenthesis at u ∷ [])
    item l = is_value (name_alone' l u (kind.CloseParenthesis at u ∷ []))

    least : (l : ℕ) → Alive MoreItems l (kind.Comma at u ∷ after) (kind.Comma at u ∷ after)
    least l = alive_here MoreItems l (suc l) (kind.Comma at u) after (kind.Identifier [] at u ∷ kind.CloseParenthesis at u ∷ []) [] (u, (initials (value (a_name u)) no_initials, [])) (omega arith) (kind.Identifier [] at u ∷ kind.CloseParenthesis at u ∷ [], refl, ([], (u, are_one_initial (item l)), (refl, (tt, tt))))

-- a record begins with the name of its first field, a colon and what begins the fields from there on
fields_alive : (k i l : ℕ) (n : Name) (p u : Position) (after q : List Terminal) → l + suc k ≡ suc i → Alive (RecordBehind n u) l after q → Alive (Within k) (suc i) (kind.OpenParenthesis at p ∷ kind.Identifier n.text at n.position ∷ kind.Colon at u ∷ after) q
fields_alive k i l n p u after q h x = shifted (RecordBehind n u) (Within k) l (suc i) (kind.OpenParenthesis at p ∷ kind.Identifier n.text at n.position ∷ kind.Colon at u ∷ []) after q (λ j fs ls r less g. (suc j + k, omega (arith, h, less), record_ p fs, (suc (suc j), omega arith, (is_record_value g.1, g.2)))) x

-- a record begins with the name of its first field and a colon
colon_alive : (k i : ℕ) (n : Name) (p u : Position) (ks m after : List Terminal) → ks ≡ kind.Identifier n.text at n.position ∷ m → m ≡ kind.Colon at u ∷ after → Alive (Within k) (suc i) (kind.OpenParenthesis at p ∷ ks) m
colon_alive k i n p u ks m after e is = subst (λ z. Alive (Within k) (suc i) (kind.OpenParenthesis at p ∷ z) m) (sym e) (subst (λ z. Alive (Within k) (suc i) (kind.OpenParenthesis at p ∷ kind.Identifier n.text at n.position ∷ z) z) (sym is) (shifted Rest (Within k) (suc i) (suc i) (kind.OpenParenthesis at p ∷ kind.Identifier n.text at n.position ∷ []) (kind.Colon at u ∷ after) (kind.Colon at u ∷ after) (λ j fs ls r less g. (suc j + k, omega (arith, less), record_ p fs, (suc (suc j), omega arith, (is_record_value g.1, g.2)))) least))
  where
    -- all fields, from the colon behind the first name on
    Rest : Phrase FieldInitials
    Rest d fs ls r = (v : Position) × AreFieldInitials d fs (kind.Identifier n.text at n.position ∷ ls) (kind.CloseParenthesis at v ∷ r) × Stops r

    least : Alive Rest (suc i) (kind.Colon at u ∷ after) (kind.Colon at u ∷ after)
    least = alive_here Rest (suc i) (suc (suc i)) (kind.Colon at u) after (kind.Identifier [] at u ∷ kind.CloseParenthesis at u ∷ []) [] (field_initials n (value (a_name u)) no_field_initials) (omega arith) (u, are_one_field_initial is_name (is_value (name_alone' (suc i) u (kind.CloseParenthesis at u ∷ []))), (tt, tt))

-- ---- lists

after_comma : (k d l : ℕ) (a : Initial) (u : Position) (ls : List Terminal) → Tail k d l a (kind.Comma at u ∷ ls) → (suc (suc l) + k ≡ suc d) × Some_ (Seq InitialsBefore NoMoreExpression) l ls
after_comma k d l a u ls (tail_list {others = others} {r = r} h f) = (h, ((others, []), r, f))

pub list_refuses : (k i l : ℕ) (a : Initial) (p u : Position) (ks m after : List Terminal) (end : Place) (e : ParseError) → l + suc k ≡ suc i → Within (suc k) i a ks m → m ≡ kind.Comma at u ∷ after → RefusesValue (Seq InitialsBefore NoMoreExpression) l end after e → RefusesValue (Within k) (suc i) end (kind.OpenParenthesis at p ∷ ks) e
list_refuses k i l a p u ks m after end e h f is g = after_first {W = K} k i a p ks m end e f (λ q x. x) (subst (λ z. RefusesBy DecidesInPart K (After k a ks m) (suc i) end z e) (sym is) (under {V = K} (Seq InitialsBefore NoMoreExpression) (After k a ks m) l (suc i) end (kind.Comma at u) after e into (λ q x. items_alive k i a p ks m q f (λ n. subst (λ z. Alive MoreItems n z q) (sym is) (more_alive l n u after q x))) g))
  where
    -- what is shown of the list
    K : Shown
    K n ls q = Alive (Within k) (suc i) (kind.OpenParenthesis at p ∷ ks) q

    into : (d' : ℕ) (b : Unit {0}) (ls r : List Terminal) → After k a ks m d' b (kind.Comma at u ∷ ls) r → (x : ℕ) × (d' ≡ suc i → x ≡ l) × Some_ (Seq InitialsBefore NoMoreExpression) x ls
    into d' b ls r (x, s, t) = let v = after_comma k d' x a u ls t in (x, λ e. omega (arith, h, v.0, e), v.1)

-- an item that is too deep
pub item_refuses : (k i l : ℕ) (a : Initial) (x : Expression) (p u : Position) (ks m after : List Terminal) (end : Place) (e : ParseError) → l + suc k ≡ suc i → Within (suc k) i a ks m → m ≡ kind.Comma at u ∷ after → a ≡ value x → RefusesBy Decides Untold ValueOf l end ks e → RefusesValue (Within k) (suc i) end (kind.OpenParenthesis at p ∷ ks) e
item_refuses k i l a x p u ks m after end e h f is same g = by g
  where
    whole : Within (suc k) i (value x) ks (kind.Comma at u ∷ after)
    whole = subst (λ z. Within (suc k) i (value x) ks z) is (subst (λ z. Within (suc k) i z ks m) same f)

    at_depth : (b : Unit {0}) (ls r n : List Terminal) → Dead (ValueOf l) ks n → After k (value x) ks (kind.Comma at u ∷ after) (suc i) b (kind.Comma at u ∷ ls) r → ⊥
    at_depth b ls r n dead (y, s, t) = let v = after_comma k (suc i) y (value x) u ls t in let deep : y ≡ l = omega (arith, h, v.0) in dead_none (ValueOf l) ks n x _ (subst (λ (z : ℕ). SomeInitial z (value x) ks (kind.Comma at u ∷ after)) deep s) dead

    decided : (q n : List Terminal) → Decides q n → Dead (ValueOf l) ks n → DecidesInPart q (kind.Comma at u ∷ after)
    decided q n w (seen, e1, never) = decides_in_list (tells_of_value seen w (subst (λ z. IsInitial whole.0 (value x) z (kind.Comma at u ∷ after)) e1 whole.2.0))

    by : RefusesBy Decides Untold ValueOf l end ks e → RefusesValue (Within k) (suc i) end (kind.OpenParenthesis at p ∷ ks) e
    by (out_of_memory y) = out_of_memory y
    by (syntax q y never) = absurd (dead_none (ValueOf whole.0) ks q x _ whole.2 (never whole.0))
    by (nested q n o y w never g lives) = nested q (kind.Comma at u ∷ after) (kind.Comma at u ∷ after) y (decided q n w never) (dead_after_first k i (suc i) (value x) p ks (kind.Comma at u ∷ after) (kind.Comma at u ∷ after) whole (dead_token (After k (value x) ks (kind.Comma at u ∷ after) (suc i)) (kind.Comma at u) after (λ b ls r t. at_depth b ls r n never t))) decides_there (comma_alive k i (value x) p u ks (kind.Comma at u ∷ after) after whole refl)
    by (in_grammar feature q y z) = in_grammar feature q y (with_token_in_grammar (kind.OpenParenthesis at p) z)

-- an opening bracket that is too deep for a list or a record
spent : (k i : ℕ) (a : Initial) (p : Position) (ks m after : List Terminal) (t : Terminal) (place : Place) (end : Place) (e : ParseError) → FitsRoom (room.Spent place) (suc k) i ks → Within (suc k) i a ks m → m ≡ t ∷ after → TellsList ks m → ((d l : ℕ) (ls : List Terminal) → Tail k d l a (t ∷ ls) → (n : ℕ) × (suc (suc n) + k ≡ suc d)) → e ≡ refused_at 61 0 place [] → Alive (Within k) (suc i) (kind.OpenParenthesis at p ∷ ks) m → RefusesValue (Within k) (suc i) end (kind.OpenParenthesis at p ∷ ks) e
spent k i a p ks m after t place end e (h, tells) f is w deep x lives =
    let v = tells m w in
    nested (v.0 ∷ v.1) m m (x ∙ ap (λ (z : Place). refused_at 61 0 z []) v.2) (decides_in_list v.3) (dead_after_first k i (suc i) a p ks m m f (subst (λ z. Dead (After k a ks m (suc i)) z z) (sym is) (dead_token (After k a ks m (suc i)) t after (λ b ls r y. let n = deep (suc i) y.0 ls y.2 in absurd (omega (arith, h, n.1)))))) decides_there lives

pub list_too_deep : (k i : ℕ) (a : Initial) (p u : Position) (ks m after : List Terminal) (place : Place) (room' : Room) (end : Place) (e : ParseError) → FitsRoom room' (suc k) i ks → Within (suc k) i a ks m → m ≡ kind.Comma at u ∷ after → room' ≡ room.Spent place → e ≡ refused_at 61 0 place [] → RefusesValue (Within k) (suc i) end (kind.OpenParenthesis at p ∷ ks) e
list_too_deep k i a p u ks m after place room' end e h f is same x = spent k i a p ks m after (kind.Comma at u) place end e (subst (λ z. FitsRoom z (suc k) i ks) same h) f is (subst (λ z. TellsList ks z) (sym is) (tells_of_value [] decides_there (subst (λ z. IsInitial f.0 a ks z) is f.2.0))) (λ d l ls t. (l, (after_comma k d l a u ls t).0)) x (comma_alive k i a p u ks m after f is)

-- ---- records

of_designator : {d : ℕ} {n : Name} {ks r : List Terminal} → IsDesignator d (designator (named n) no_selectors) ks r → ks ≡ kind.Identifier n.text at n.position ∷ r
of_designator (is_designator is_named are_no_selectors) = refl

name_front : (a : Initial) (n : Name) (l : ℕ) (ks m : List Terminal) → name_alone a ≡ Some n → SomeInitial l a ks m → ks ≡ kind.Identifier n.text at n.position ∷ m
name_front (value (designated (designator (named n') no_selectors))) n l ks m h (is_value f, st) = subst (λ (z : Name). ks ≡ kind.Identifier z.text at z.position ∷ m) (same_Some _ _ h) (of_designator (by_expr refl f))
name_front other n l ks m h f = absurd cc

after_colon : (k d l : ℕ) (a : Initial) (u : Position) (ls : List Terminal) → Tail k d l a (kind.Colon at u ∷ ls) → (x : ℕ) × (n : Name) × (name_alone a ≡ Some n) × (suc (suc x) + k ≡ suc d) × Some_ (RecordBehind n u) x ls
after_colon k d l a u ls (tail_record {l = x} {n = n} {fs = fs} {r = r} h f) = (x, n, refl, h, (fs, r, f))

pub record_refuses : (k i l : ℕ) (a : Initial) (n : Name) (p u : Position) (ks m after : List Terminal) (end : Place) (e : ParseError) → l + suc k ≡ suc i → Within (suc k) i a ks m → m ≡ kind.Colon at u ∷ after → name_alone a ≡ Some n → RefusesValue (RecordBehind n u) l end after e → RefusesValue (Within k) (suc i) end (kind.OpenParenthesis at p ∷ ks) e
record_refuses k i l a n p u ks m after end e h f is same g = after_first {W = K} k i a p ks m end e f (λ q x. x) (subst (λ z. RefusesBy DecidesInPart K (After k a ks m) (suc i) end z e) (sym is) (under {V = K} (RecordBehind n u) (After k a ks m) l (suc i) end (kind.Colon at u) after e into (λ q x. subst (λ z. Alive (Within k) (suc i) (kind.OpenParenthesis at p ∷ z) q) (sym (name_front a n f.0 ks m same f.2 ∙ ap (λ z. kind.Identifier n.text at n.position ∷ z) is)) (fields_alive k i l n p u after q h x)) g))
  where
    -- what is shown of the record
    K : Shown
    K j ls q = Alive (Within k) (suc i) (kind.OpenParenthesis at p ∷ ks) q

    into : (d' : ℕ) (b : Unit {0}) (ls r : List Terminal) → After k a ks m d' b (kind.Colon at u ∷ ls) r → (x : ℕ) × (d' ≡ suc i → x ≡ l) × Some_ (RecordBehind n u) x ls
    into d' b ls r (x, s, t) = let v = after_colon k d' x a u ls t in (v.0, λ e. omega (arith, h, v.3, e), subst (λ z. Some_ (RecordBehind z u) v.0 ls) (same_Some _ _ (sym v.2 ∙ same)) v.4)

none_some : {A : Type 0} {n : Name} → None ≡ Some n → A
none_some h = absurd cc

pub no_record : (k i : ℕ) (a : Initial) (p u : Position) (ks m after : List Terminal) (end : Place) (e : ParseError) → Within (suc k) i a ks m → m ≡ kind.Colon at u ∷ after → name_alone a ≡ None → e ≡ refused_at 9 0 end m → RefusesValue (Within k) (suc i) end (kind.OpenParenthesis at p ∷ ks) e
no_record k i a p u ks m after end e f is none x = after_first {W = Never} k i a p ks m end e f (λ q y. absurd y) (syntax m x (λ d. subst (λ z. Dead (After k a ks m d) z z) (sym is) (dead_token (After k a ks m d) (kind.Colon at u) after (λ b ls r y. let v = after_colon k d y.0 a u ls y.2 in none_some (sym none ∙ v.2)))))

pub record_too_deep : (k i : ℕ) (a : Initial) (n : Name) (p u : Position) (ks m after : List Terminal) (place : Place) (room' : Room) (end : Place) (e : ParseError) → FitsRoom room' (suc k) i ks → Within (suc k) i a ks m → m ≡ kind.Colon at u ∷ after → name_alone a ≡ Some n → room' ≡ room.Spent place → e ≡ refused_at 61 0 place [] → RefusesValue (Within k) (suc i) end (kind.OpenParenthesis at p ∷ ks) e
record_too_deep k i a n p u ks m after place room' end e h f is alone same x = spent k i a p ks m after (kind.Colon at u) place end e (subst (λ z. FitsRoom z (suc k) i ks) same h) f is (subst (λ z. TellsList z m) (sym (name_front a n f.0 ks m alone f.2)) (subst (λ z. TellsList (kind.Identifier n.text at n.position ∷ z) z) (sym is) tells_of_name)) (λ d l ls t. let v = after_colon k d l a u ls t in (v.0, v.3)) x (colon_alive k i n p u ks m after (name_front a n f.0 ks m alone f.2) is)

-- ---- no comma, no colon and no closing bracket

only_comma : (k d l : ℕ) (a : Initial) (m : List Terminal) → Tail k d l a m → NoMark mark.CloseParenthesis m → NoMark mark.Colon m → (u : Position) × (r : List Terminal) × (m ≡ kind.Comma at u ∷ r)
only_comma k d l a m (tail_expression {q = q} {m = r}) close colon = absurd (close q r refl)
only_comma k d l a m (tail_one {q = q} {m = r} single st) close colon = absurd (close q r refl)
only_comma k d l a m (tail_list {q = q} {m = r} h f) close colon = (q, r, refl)
only_comma k d l a m (tail_record {q = q} {m = r} h f) close colon = absurd (colon q r refl)

pub no_comma_refuses : (k i : ℕ) (a : Initial) (p : Position) (ks m : List Terminal) (end : Place) (e : ParseError) → Within (suc k) i a ks m → NoMark mark.CloseParenthesis m → NoMark mark.Colon m → Refuses (Marked mark.Comma) (suc i) end m e → RefusesValue (Within k) (suc i) end (kind.OpenParenthesis at p ∷ ks) e
no_comma_refuses k i a p ks m end e f close colon h = after_first {W = Never} k i a p ks m end e f (λ q y. absurd y) (refuses_map_by {W = Never} (Marked mark.Comma) (After k a ks m) (suc i) end m e (λ d' b ls r s x. only_comma k d' x.0 a ls x.2 (no_mark_same mark.CloseParenthesis m ls s close) (no_mark_same mark.Colon m ls s colon)) (λ q y. y) (as_value (flat_mark mark.Comma h)))

-- ---- a list of one

after_close : (k d l : ℕ) (a : Initial) (u : Position) (ls : List Terminal) → IsNoExpression (initials a no_initials) → Tail k d l a (kind.CloseParenthesis at u ∷ ls) → Stops ls
after_close k d l a u ls single tail_expression = absurd single
after_close k d l a u ls single (tail_one n st) = st

pub one_refuses : (k d i : ℕ) (a : Initial) (p u : Position) (ks after : List Terminal) (end : Place) (e : ParseError) → d ≡ suc i → Within (suc k) i a ks (kind.CloseParenthesis at u ∷ after) → IsNoExpression (initials a no_initials) → ((d' : ℕ) → RefusesHere NoMoreExpression d' end after e) → RefusesValue (Within k) d end (kind.OpenParenthesis at p ∷ ks) e
one_refuses k d i a p u ks after end e z f single h = subst (λ (y : ℕ). RefusesValue (Within k) y end (kind.OpenParenthesis at p ∷ ks) e) (sym z) (after_first {W = Never} k i a p ks (kind.CloseParenthesis at u ∷ after) end e f (λ q y. absurd y) (refuses_behind_by {W = Never} NoMoreExpression (After k a ks (kind.CloseParenthesis at u ∷ after)) (suc i) end (kind.CloseParenthesis at u) after e (λ d' b ls r x. ([], ls, (refl, after_close k d' x.0 a u ls single x.2))) (λ q y. y) (as_value (h (suc i)))))

has_depth : (k i l : ℕ) (a : Initial) → IsNoExpression (initials a no_initials) → HasDepth (suc k) i l a → suc (suc l) + k ≡ suc (suc i)
has_depth k i l (value e) single h = absurd single
has_depth k i l (list p is) single h = omega (arith, h)
has_depth k i l (record_ p fs) single h = omega (arith, h)

pub one_whole : (k d i : ℕ) (a : Initial) (p u : Position) (ks after : List Terminal) → d ≡ suc i → Within (suc k) i a ks (kind.CloseParenthesis at u ∷ after) → IsNoExpression (initials a no_initials) → Stops after → Within k d (list p (initials a no_initials)) (kind.OpenParenthesis at p ∷ ks) after
one_whole k d i a p u ks after z (l, h, f) single st = subst (λ (y : ℕ). Within k y (list p (initials a no_initials)) (kind.OpenParenthesis at p ∷ ks) after) (sym z) (suc (suc l), has_depth k i l a single h, (is_list (are_one_initial f.0) single, st))

-- ---- an expression in brackets, and what belongs to it

-- the first of two fronts of the same tokens ends in the second one, or behind it
data Overlap (whole seen q : List Terminal) : Type 0 where
  overlap_past : (more : List Terminal) → seen ≡ whole ++ more → Overlap whole seen q
  overlap_in : (t : Terminal) (more : List Terminal) → whole ≡ seen ++ (t ∷ more) → SameHead q (t ∷ more) → Overlap whole seen q

overlap : (whole after seen q : List Terminal) → whole ++ after ≡ seen ++ q → Overlap whole seen q
overlap [] after seen q e = overlap_past seen refl
overlap (t ∷ whole) after [] q e = overlap_in t whole refl (subst (λ z. SameHead z (t ∷ whole)) e refl)
overlap (t ∷ whole) after (u ∷ seen) q e = also (overlap whole after seen q (ap behind e))
  where
    also : Overlap whole seen q → Overlap (t ∷ whole) (u ∷ seen) q
    also (overlap_past more h) = overlap_past more (subst (λ z. z ∷ seen ≡ t ∷ (whole ++ more)) (head_same e) (ap (λ z. t ∷ z) h))
    also (overlap_in v more h s) = overlap_in v more (subst (λ z. t ∷ whole ≡ z ∷ (seen ++ (v ∷ more))) (head_same e) (ap (λ z. t ∷ z) h)) s

-- a list or a record is none that begins with an expression in brackets
no_list : (k d i : ℕ) (b : Initial) (x : Expression) (p q : Position) (ls m r : List Terminal) → IsChain Relational i x ls (kind.CloseParenthesis at q ∷ m) → Within k d b (kind.OpenParenthesis at p ∷ ls) r → (e : Expression) × (b ≡ value e)
no_list k d i (value e) x p q ls m r f g = (e, refl)
no_list k d i (list u is) x p q ls m r f (l, h, (is_list fs single, st)) = no_expression_list fs single f
no_list k d i (record_ u fs) x p q ls m r f (l, h, (is_record_value gs, st)) = no_expression_record gs f

value_inside : (k d : ℕ) (e : Expression) (ks r : List Terminal) → Within k d (value e) ks r → SomeValue d e ks r
value_inside k d e ks r (l, h, (is_value f, st)) = (subst (λ (z : ℕ). IsChain Relational z e ks r) (suc_same h) f, st)

dead_expression : (k d i : ℕ) (x : Expression) (p q : Position) (ks after z : List Terminal) → IsChain Relational i x ks (kind.CloseParenthesis at q ∷ after) → Dead (SomeValue d) (kind.OpenParenthesis at p ∷ ks) z → Dead (SomeValue (suc i)) (kind.OpenParenthesis at p ∷ ks) z → Dead (Within k d) (kind.OpenParenthesis at p ∷ ks) z
dead_expression k d i x p q ks after z f (seen, e, never) dead = (seen, e, λ ls b r s g. dies ls b r s g (overlap c.0 after seen z (sym (ap (λ y. kind.OpenParenthesis at p ∷ y) w.2 ∙ c.1 after) ∙ e)))
  where
    w : (f : List Terminal → List Terminal) × IsCut f × (ks ≡ f (kind.CloseParenthesis at q ∷ after)) × ((y : List Terminal) → IsChain Relational i x (f y) y)
    w = front_chain f

    c : (front : List Terminal) × ((y : List Terminal) → kind.OpenParenthesis at p ∷ w.0 (kind.CloseParenthesis at q ∷ y) ≡ front ++ y)
    c = cut_seen (cut_one (kind.OpenParenthesis at p) (cut_join w.1 (cut_one (kind.CloseParenthesis at q) cut_none)))

    as_value : (ls r : List Terminal) (b : Initial) (e : Expression) → SameHead z ls → b ≡ value e → Within k d b (seen ++ ls) r → ⊥
    as_value ls r b e s same g =
        let v = subst (λ y. Within k d y (seen ++ ls) r) same g in
        never ls e r s (value_inside k d e (seen ++ ls) r v)

    dies : (ls : List Terminal) (b : Initial) (r : List Terminal) → SameHead z ls → Within k d b (seen ++ ls) r → Overlap c.0 seen z → ⊥
    dies ls b r s g (overlap_past more h) =
        let there : seen ++ ls ≡ kind.OpenParenthesis at p ∷ w.0 (kind.CloseParenthesis at q ∷ (more ++ ls)) = ap (λ y. y ++ ls) h ∙ append_assoc c.0 more ls ∙ sym (c.1 (more ++ ls)) in
        let v = no_list k d i b x p q (w.0 (kind.CloseParenthesis at q ∷ (more ++ ls))) (more ++ ls) r (w.3 (kind.CloseParenthesis at q ∷ (more ++ ls))) (subst (λ y. Within k d b y r) there g) in
        as_value ls r b v.0 s v.1 g
    dies ls b r s g (overlap_in t more h same) =
        let whole : IsChain Relational (suc i) (designated (designator (bracketed p x) no_selectors)) (kind.OpenParenthesis at p ∷ w.0 (kind.CloseParenthesis at q ∷ [])) [] = as_expr (is_designated (is_designator (is_bracketed (w.3 (kind.CloseParenthesis at q ∷ []))) are_no_selectors)) in
        let there : kind.OpenParenthesis at p ∷ w.0 (kind.CloseParenthesis at q ∷ []) ≡ seen ++ (t ∷ more) = c.1 [] ∙ append-nil c.0 ∙ h in
        inside_seen (SomeValue (suc i)) (kind.OpenParenthesis at p ∷ ks) z seen e dead (t ∷ more) _ [] same (subst (λ y. IsChain Relational (suc i) (designated (designator (bracketed p x) no_selectors)) y []) there whole, (tt, tt))

pub expression_whole : (k d : ℕ) (x : Expression) (ks r : List Terminal) → SomeValue d x ks r → Within k d (value x) ks r
expression_whole k d x ks r f = (suc d, refl, (is_value f.0, f.1))

value_alive : (k d : ℕ) (ks : List Terminal) → HandsOn SomeValue d ks (Within k) d ks
value_alive k d ks = hands_as SomeValue (Within k) d ks (λ i x ls r s f. (value x, expression_whole k i x ls r f))

expression_refuses : (k i : ℕ) (x : Expression) (p q : Position) (ks after : List Terminal) (end : Place) (e : ParseError) → Within (suc k) i (value x) ks (kind.CloseParenthesis at q ∷ after) → Refuses SomeValue (suc i) end (kind.OpenParenthesis at p ∷ ks) e → RefusesValue (Within k) (suc i) end (kind.OpenParenthesis at p ∷ ks) e
expression_refuses k i x p q ks after end e f (out_of_memory y) = out_of_memory y
expression_refuses k i x p q ks after end e f (syntax z y never) = syntax z y (λ d. dead_expression k d i x p q ks after z (value_inside (suc k) i x ks _ f).0 (never d) (never (suc i)))
expression_refuses k i x p q ks after end e f (nested z m n y w never v t) = nested z m n y (decides_in_code w) (dead_expression k (suc i) i x p q ks after m (value_inside (suc k) i x ks _ f).0 never never) v (value_alive k (suc i) (kind.OpenParenthesis at p ∷ ks) n t)
expression_refuses k i x p q ks after end e f (in_grammar feature z y g) = in_grammar feature z y g

pub root_whole : (k d i : ℕ) (a : Initial) (x : Expression) (p q : Position) (ks after : List Terminal) → d ≡ suc i → a ≡ value x → Within (suc k) i a ks (kind.CloseParenthesis at q ∷ after) → IsRoot d (bracketed p x) (kind.OpenParenthesis at p ∷ ks) after
root_whole k d i a x p q ks after z same f = subst (λ (y : ℕ). IsRoot y (bracketed p x) (kind.OpenParenthesis at p ∷ ks) after) (sym z) (is_bracketed (value_inside (suc k) i x ks _ (subst (λ y. Within (suc k) i y ks (kind.CloseParenthesis at q ∷ after)) same f)).0)

pub root_refuses : (k d i : ℕ) (a : Initial) (x : Expression) (p q : Position) (ks after : List Terminal) (end : Place) (e : ParseError) → d ≡ suc i → a ≡ value x → Within (suc k) i a ks (kind.CloseParenthesis at q ∷ after) → Refuses SomeValue d end (kind.OpenParenthesis at p ∷ ks) e → RefusesValue (Within k) d end (kind.OpenParenthesis at p ∷ ks) e
root_refuses k d i a x p q ks after end e z same f h = subst (λ (y : ℕ). RefusesValue (Within k) y end (kind.OpenParenthesis at p ∷ ks) e) (sym z) (expression_refuses k i x p q ks after end e (subst (λ y. Within (suc k) i y ks (kind.CloseParenthesis at q ∷ after)) same f) (subst (λ (y : ℕ). Refuses SomeValue y end (kind.OpenParenthesis at p ∷ ks) e) z h))

-- ---- lists and records

pub list_whole : (k i l : ℕ) (a : Initial) (others : Initials) (p u : Position) (ks m after r : List Terminal) → l + suc k ≡ suc i → Within (suc k) i a ks m → m ≡ kind.Comma at u ∷ after → FitsItem l a ks → InitialsBefore l others after r → Stops r → Within k (suc i) (list p (initials a others)) (kind.OpenParenthesis at p ∷ ks) r
list_whole k i l a others p u ks m after r h f is fits g st = (suc (suc l), omega (arith, h), (is_list (are_initials (subst (λ z. IsInitial l a ks z) is (item a f fits)) g.1) (no_expression a others g.1), st))
  where
    item : (a : Initial) → Within (suc k) i a ks m → FitsItem l a ks → IsInitial l a ks m
    item (value e) f (x, n, s) = let v = unique_initial s.0 f.2.0 s.1 f.2.1 in subst (λ z. IsInitial l (value e) ks z) v.1 (subst (λ z. IsInitial l z ks n) v.0 s.0)
    item (list q is) (x, e, f) fits = let same : x ≡ l = omega (arith, h, e) in subst (λ (z : ℕ). IsInitial z (list q is) ks m) same f.0
    item (record_ q fs) (x, e, f) fits = let same : x ≡ l = omega (arith, h, e) in subst (λ (z : ℕ). IsInitial z (record_ q fs) ks m) same f.0

    no_expression : {n : List Terminal} (a : Initial) (others : Initials) → AreInitials l others after n → IsNoExpression (initials a others)
    no_expression (value e) others (are_one_initial j) = tt
    no_expression (value e) others (are_initials j js) = tt
    no_expression (list q is) others js = tt
    no_expression (record_ q fs) others js = tt

pub record_whole : (k i l : ℕ) (a : Initial) (n : Name) (fs : FieldInitials) (p u : Position) (ks m after r : List Terminal) → l + suc k ≡ suc i → Within (suc k) i a ks m → m ≡ kind.Colon at u ∷ after → name_alone a ≡ Some n → RecordBehind n u l fs after r → Within k (suc i) (record_ p fs) (kind.OpenParenthesis at p ∷ ks) r
record_whole k i l a n fs p u ks m after r h f is alone g = subst (λ z. Within k (suc i) (record_ p fs) (kind.OpenParenthesis at p ∷ z) r) (sym (name_front a n f.0 ks m alone f.2 ∙ ap (λ z. kind.Identifier n.text at n.position ∷ z) is)) (suc (suc l), omega (arith, h), (is_record_value g.1, g.2))

-- ---- in brackets

no_bracket : (k : ℕ) (ks : List Terminal) → NoMark mark.OpenParenthesis ks → (d : ℕ) (b : Initial) (ls r : List Terminal) → SameHead ks ls → Within k d b ls r → Some_ SomeValue d ls
no_bracket k ks none d (value e) ls r s f = (e, r, value_inside k d e ls r f)
no_bracket k ks none d (list p is) ls r s (l, h, (is_list f single, st)) = absurd (no_mark_same mark.OpenParenthesis ks ls s none p _ refl)
no_bracket k ks none d (record_ p fs) ls r s (l, h, (is_record_value f, st)) = absurd (no_mark_same mark.OpenParenthesis ks ls s none p _ refl)

pub value_refuses : (k d : ℕ) (end : Place) (ks : List Terminal) (e : ParseError) → NoMark mark.OpenParenthesis ks → Refuses SomeValue d end ks e → RefusesValue (Within k) d end ks e
value_refuses k d end ks e none h = refuses_map SomeValue (Within k) d end ks e (no_bracket k ks none) (value_alive k d ks) (as_value h)

pub bracket_too_deep : (k d : ℕ) (end : Place) (p : Position) (ks m : List Terminal) (e : ParseError) → ks ≡ kind.OpenParenthesis at p ∷ m → d ≡ 0 → e ≡ refused_at 61 0 end ks → RefusesValue (Within k) d end ks e
bracket_too_deep k d end p ks m e is z x = subst (λ (w : ℕ). RefusesValue (Within k) w end ks e) (sym z) (nested ks ks ks x (decides_in_code decides_there) (subst (λ y. Dead (Within k 0) y y) (sym is) (dead_token (Within k 0) (kind.OpenParenthesis at p) m (λ b ls r f. let o = opening k 0 b p ls r f in absurd (omega (arith, o.is_inner))))) decides_there (subst (λ y. Alive (Within k) 0 y y) (sym is) (alive_here (Within k) 0 1 (kind.OpenParenthesis at p) m (kind.Identifier [] at p ∷ kind.CloseParenthesis at p ∷ []) [] (value (designated (designator (bracketed p (a_name p)) no_selectors))) (omega arith) (expression_whole k 1 (designated (designator (bracketed p (a_name p)) no_selectors)) _ [] (as_expr (is_designated (is_designator (is_bracketed (name_alone' 0 p (kind.CloseParenthesis at p ∷ []))) are_no_selectors)), (tt, tt))))))

-- what is in brackets, and the closing one with which the first value ends
abbrev InBrackets : ℕ → Phrase (Initial × (Position × List Terminal))
InBrackets k = Seq (Within k) (Seq (Marked mark.CloseParenthesis) NoMoreExpression)

fits_within : (k : ℕ) → Fits (Within k) Stops
fits_within k d i ks r (l, h, f) = let s = front_initial f.0 in (s.0, s.1, s.2, λ x c. (l, h, (s.3 x, c)))

close_it : Position → Sample (Seq (Marked mark.CloseParenthesis) NoMoreExpression) Stops
close_it p = record { tokens = kind.CloseParenthesis at p ∷ []; behind = []; part = (p, []); stands = λ i. ([], refl, (refl, (tt, tt))); fits = (refl, refl) }

enclosed : (k j : ℕ) (p : Position) (x : Initial × (Position × List Terminal)) (ls r : List Terminal) → InBrackets (suc k) j x ls r → (b : Initial) × Within k (suc j) b (kind.OpenParenthesis at p ∷ ls) r
enclosed k j p (a, (u, none)) ls r (m, f, (n, is, (same, st))) = by a (subst (λ z. Within (suc k) j a ls z) (is ∙ ap (λ z. kind.CloseParenthesis at u ∷ z) same) f)
  where
    by : (a : Initial) → Within (suc k) j a ls (kind.CloseParenthesis at u ∷ r) → (b : Initial) × Within k (suc j) b (kind.OpenParenthesis at p ∷ ls) r
    by (value e) f = (value (designated (designator (bracketed p e) no_selectors)), expression_whole k (suc j) (designated (designator (bracketed p e) no_selectors)) (kind.OpenParenthesis at p ∷ ls) r (as_expr (is_designated (is_designator (is_bracketed (value_inside (suc k) j e ls _ f).0) are_no_selectors)), st))
    by (list q is) f = (list p (initials (list q is) no_initials), one_whole k (suc j) j (list q is) p u ls r refl f tt st)
    by (record_ q fs) f = (list p (initials (record_ q fs) no_initials), one_whole k (suc j) j (record_ q fs) p u ls r refl f tt st)

inside_alive : (k i : ℕ) (p : Position) (ks : List Terminal) → HandsOn (Within (suc k)) i ks (Within k) (suc i) (kind.OpenParenthesis at p ∷ ks)
inside_alive k i p ks q x = hands_inside (InBrackets (suc k)) (Within k) i (kind.OpenParenthesis at p) ks (λ j y ls r f. enclosed k j p y ls r f) q (hands_first (Within (suc k)) (Seq (Marked mark.CloseParenthesis) NoMoreExpression) Stops i ks (fits_within (suc k)) close_it q x)

pub inside_refuses : (k d i : ℕ) (end : Place) (p : Position) (ks m : List Terminal) (e : ParseError) → ks ≡ kind.OpenParenthesis at p ∷ m → d ≡ suc i → RefusesValue (Within (suc k)) i end m e → RefusesValue (Within k) d end ks e
inside_refuses k d i end p ks m e is z h = subst (λ (y : ℕ). RefusesValue (Within k) y end ks e) (sym z) (subst (λ y. RefusesValue (Within k) (suc i) end y e) (sym is) (refuses_inside (Within (suc k)) (Within k) i end (kind.OpenParenthesis at p) m e (λ d' b ls r f. let o = opening k d' b p ls r f in (o.inner, o.is_inner, (o.first, o.rest, o.fits))) (inside_alive k i p m) h))

pub bracket_refuses : (k d i : ℕ) (end : Place) (p : Position) (ks m : List Terminal) (e : ParseError) → ks ≡ kind.OpenParenthesis at p ∷ m → d ≡ suc i → RefusesValue (Within k) (suc i) end (kind.OpenParenthesis at p ∷ m) e → RefusesValue (Within k) d end ks e
bracket_refuses k d i end p ks m e is z h = subst (λ (y : ℕ). RefusesValue (Within k) y end ks e) (sym z) (subst (λ y. RefusesValue (Within k) (suc i) end y e) (sym is) h)

pub bracket_whole : (k d i : ℕ) (b : Initial) (p : Position) (ks m r : List Terminal) → ks ≡ kind.OpenParenthesis at p ∷ m → d ≡ suc i → Within k (suc i) b (kind.OpenParenthesis at p ∷ m) r → Within k d b ks r
bracket_whole k d i b p ks m r is z f = subst (λ (y : ℕ). Within k y b ks r) (sym z) (subst (λ y. Within k (suc i) b y r) (sym is) f)

-- ---- a first value

initial_begins : {d : ℕ} {i : Initial} {ks r : List Terminal} → IsInitial d i ks r → Begins begins_expression ks
initial_begins (is_value f) = chain_begins f
initial_begins (is_list f single) = refl
initial_begins (is_record_value f) = refl

pub initial_none : (d : ℕ) (end : Place) (ks : List Terminal) (e : ParseError) → IsNot begins_expression ks → e ≡ refused_at 9 0 end ks → RefusesValue SomeInitial d end ks e
initial_none d end ks e h x = syntax ks x (λ d'. dead_here (SomeInitial d') ks (λ a ls r s f. both begins_expression ls (initial_begins f.0) (same_not begins_expression ks ls s h)))

no_initial : {i : Initial} {ks r : List Terminal} → IsInitial 0 i ks r → ⊥
no_initial f = elim f [ ]

-- with each token that an expression begins with, a first value of a greater depth begins
initial_at : (k : TokenKind) (p : Position) (r others : List Terminal) (e : Expression) → IsFactor 2 e (k at p ∷ others) [] → Alive SomeInitial 0 (k at p ∷ r) (k at p ∷ r)
initial_at k p r others e f = alive_here SomeInitial 0 3 (k at p) r others [] (value e) (omega arith) (is_value (as_expr (subst (λ z. IsFactor 2 e (k at p ∷ z) []) (sym (append-nil others)) f)), (tt, tt))

initial_kind : (k : TokenKind) (p : Position) (r : List Terminal) → begins_expression k ≡ true → Alive SomeInitial 0 (k at p ∷ r) (k at p ∷ r)
initial_kind (kind.Identifier text) p r b = initial_at (kind.Identifier text) p r [] (designated (designator (named (name text p)) no_selectors)) (is_designated (is_designator is_named are_no_selectors))
initial_kind kind.String p r b = initial_at kind.String p r [] (designated (designator (string p) no_selectors)) (is_designated (is_designator is_string are_no_selectors))
initial_kind kind.OpenParenthesis p r b = initial_at kind.OpenParenthesis p r (kind.Identifier [] at p ∷ kind.CloseParenthesis at p ∷ []) (designated (designator (bracketed p (a_name p)) no_selectors)) (is_designated (is_designator (is_bracketed (name_alone' 1 p (kind.CloseParenthesis at p ∷ []))) are_no_selectors))
initial_kind (kind.Number n) p r b = initial_at (kind.Number n) p r [] (number n p) is_number
initial_kind kind.Nil p r b = initial_at kind.Nil p r [] (nil p) is_nil
initial_kind kind.OpenBracket p r b = initial_at kind.OpenBracket p r (kind.CloseBracket at p ∷ []) (set p no_elements) is_empty_set
initial_kind (kind.CharacterString text) p r b = initial_at (kind.CharacterString text) p r [] (literal text p no_selectors) (is_literal are_no_selectors)
initial_kind kind.Inherited p r b = initial_at kind.Inherited p r (kind.Identifier [] at p ∷ []) (inherited p (designator (named (name [] p)) no_selectors)) (is_inherited (is_designator is_named are_no_selectors))
initial_kind kind.Not p r b = initial_at kind.Not p r (kind.Identifier [] at p ∷ []) (prefixed prefix.Not p (a_name p)) (is_prefixed refl (is_designated (is_designator is_named are_no_selectors)))
initial_kind kind.Plus p r b = initial_at kind.Plus p r (kind.Identifier [] at p ∷ []) (prefixed prefix.Plus p (a_name p)) (is_prefixed refl (is_designated (is_designator is_named are_no_selectors)))
initial_kind kind.Minus p r b = initial_at kind.Minus p r (kind.Identifier [] at p ∷ []) (prefixed prefix.Minus p (a_name p)) (is_prefixed refl (is_designated (is_designator is_named are_no_selectors)))
initial_kind other p r b = false_true b

pub initial_too_deep : (d : ℕ) (end : Place) (k : TokenKind) (p : Position) (ks : List Terminal) (e : ParseError) → begins_expression k ≡ true → d ≡ 0 → e ≡ refused_at 61 0 end (k at p ∷ ks) → RefusesValue SomeInitial d end (k at p ∷ ks) e
initial_too_deep d end k p ks e b z x = subst (λ (w : ℕ). RefusesValue SomeInitial w end (k at p ∷ ks) e) (sym z) (nested (k at p ∷ ks) (k at p ∷ ks) (k at p ∷ ks) x (decides_in_code decides_there) (dead_here (SomeInitial 0) (k at p ∷ ks) (λ a ls r s f. no_initial f.0)) decides_there (initial_kind k p ks b))

pub value_too_deep : (d : ℕ) (end : Place) (ks : List Terminal) (e : ParseError) → d ≡ 0 → e ≡ refused_at 61 0 end ks → RefusesBy Decides Untold ValueOf d end ks e
value_too_deep d end ks e z x = subst (λ (w : ℕ). RefusesBy Decides Untold ValueOf w end ks e) (sym z) (nested ks ks ks x decides_there (dead_here (ValueOf 0) ks (λ a ls r s f. no_initial f.0)) decides_there tt)

value_of : (d : ℕ) (x : Expression) (ls r : List Terminal) → ValueOf d x ls r → (i : ℕ) × (d ≡ suc i) × Some_ SomeValue i ls
value_of d x ls r (is_value {d = i} f, st) = (i, refl, (x, r, (f, st)))

pub value_inside_refuses : (d i : ℕ) (end : Place) (ks : List Terminal) (e : ParseError) → d ≡ suc i → Refuses SomeValue i end ks e → RefusesBy Decides Untold ValueOf d end ks e
value_inside_refuses d i end ks e z h = subst (λ (w : ℕ). RefusesBy Decides Untold ValueOf w end ks e) (sym z) (refuses_deeper_by {V = Untold} SomeValue ValueOf i end ks e (λ d' b ls r s f. value_of d' b ls r f) (λ q y. tt) h)

pub value_inside_whole : (d i : ℕ) (x : Expression) (ks r : List Terminal) → d ≡ suc i → SomeValue i x ks r → ValueOf d x ks r
value_inside_whole d i x ks r z f = subst (λ (w : ℕ). ValueOf w x ks r) (sym z) (is_value f.0, f.1)

into_brackets : (d : ℕ) (b : Initial) (ls r : List Terminal) → SomeInitial d b ls r → (i : ℕ) × (d ≡ suc i) × Some_ (Within 0) i ls
into_brackets d (value e) ls r (is_value {d = i} f, st) = (i, refl, (value e, r, (suc i, refl, (is_value f, st))))
into_brackets d (list p is) ls r (is_list {d = i} f single, st) = (suc i, refl, (list p is, r, (suc (suc i), omega arith, (is_list f single, st))))
into_brackets d (record_ p fs) ls r (is_record_value {d = i} f, st) = (suc i, refl, (record_ p fs, r, (suc (suc i), omega arith, (is_record_value f, st))))

pub initial_whole : (d i : ℕ) (b : Initial) (ks r : List Terminal) → d ≡ suc i → Within 0 i b ks r → SomeInitial d b ks r
initial_whole d i (value e) ks r z (l, h, f) = subst (λ (w : ℕ). SomeInitial w (value e) ks r) (h ∙ sym z) f
initial_whole d i (list p is) ks r z (l, h, f) = let same : l ≡ d = omega (arith, z, h) in subst (λ (w : ℕ). SomeInitial w (list p is) ks r) same f
initial_whole d i (record_ p fs) ks r z (l, h, f) = let same : l ≡ d = omega (arith, z, h) in subst (λ (w : ℕ). SomeInitial w (record_ p fs) ks r) same f

pub initial_refuses : (d i : ℕ) (end : Place) (ks : List Terminal) (e : ParseError) → d ≡ suc i → RefusesValue (Within 0) i end ks e → RefusesValue SomeInitial d end ks e
initial_refuses d i end ks e z h = subst (λ (w : ℕ). RefusesValue SomeInitial w end ks e) (sym z) (refuses_deeper (Within 0) SomeInitial i end ks e (λ d' b ls r s f. into_brackets d' b ls r f) (hands_deeper (Within 0) SomeInitial i ks (λ j b ls r s f. (b, initial_whole (suc j) j b ls r refl f))) h)

-- ---- an expression

into_value : (d : ℕ) (x : Expression) (ls r : List Terminal) → SomeValue d x ls r → Some_ (Seq (Chain Relational) NoMoreExpression) d ls
into_value d x ls r (f, st) = ((x, []), r, (r, (f, stop x r st), (refl, st)))

pub value_chain : (d : ℕ) (end : Place) (ks : List Terminal) (e : ParseError) → Refuses (Chain Relational) d end ks e → Refuses SomeValue d end ks e
value_chain d end ks e h = refuses_map (Seq (Chain Relational) NoMoreExpression) SomeValue d end ks e (λ d' b ls r s f. into_value d' b ls r f) (hands_as (Seq (Chain Relational) NoMoreExpression) SomeValue d ks (λ i y ls r s f. (y.0, (subst (λ z. IsChain Relational i y.0 ls z) f.2.0 f.1.0, f.2.1)))) (refuses_first (Chain Relational) NoMoreExpression d end ks e (hands_first (Chain Relational) NoMoreExpression Stops d ks (fits_chain Relational) (λ u. record { tokens = []; behind = []; part = []; stands = λ i. (refl, (tt, tt)); fits = (tt, tt) })) h)

pub value_goes_on : (d : ℕ) (end : Place) (x : Expression) (ks m : List Terminal) (e : ParseError) → Chain Relational d x ks m → RefusesHere NoMoreExpression d end m e → Refuses SomeValue d end ks e
value_goes_on d end x ks m e f h = refuses_map_by {W = Never} (Seq (Chain Relational) NoMoreExpression) SomeValue d end ks e (λ d' b ls r s f. into_value d' b ls r f) (λ q y. absurd y) (refuses_after_by {W = Never} (Chain Relational) NoMoreExpression d end x ks m e (known_chain Relational) f (λ q y. y) h)

or_clash : {A : Type 0} (a b : Bool) → (a || b) ≡ true → a ≡ false → b ≡ false → A
or_clash true b h f g = true_false f
or_clash false b h f g = true_false (sym h ∙ g)

pub expression_goes_on : (d : ℕ) (end : Place) (k : TokenKind) (p : Position) (ks : List Terminal) (e : ParseError) → continues_expression k ≡ true → e ≡ refused_at 9 0 end (k at p ∷ ks) → RefusesHere NoMoreExpression d end (k at p ∷ ks) e
expression_goes_on d end k p ks e h x = syntax (k at p ∷ ks) x (λ d'. dead_token (NoMoreExpression d') (k at p) ks (λ a ls r f. let st = subst Stops (sym f.0) f.1 in or_clash (binds Relational k) (begins_selector k) h st.0 st.1))

-- ---- rooms

pub room_in_bracket : (room' : Room) (k d i : ℕ) (p : Position) (ks m : List Terminal) → ks ≡ kind.OpenParenthesis at p ∷ m → d ≡ suc i → FitsRoom room' k d ks → FitsRoom room' k (suc i) (kind.OpenParenthesis at p ∷ m)
room_in_bracket room' k d i p ks m is z h = subst (λ z. FitsRoom room' k (suc i) z) is (subst (λ (y : ℕ). FitsRoom room' k y ks) z h)

pub room_left : (room' : Room) (l k d : ℕ) (ks : List Terminal) → room' ≡ room.Left l → FitsRoom room' k d ks → l + k ≡ suc d
room_left room' l k d ks is h = subst (λ z. FitsRoom z k d ks) is h

pub room_ends : (room' : Room) (l k d : ℕ) (p : Position) (ks : List Terminal) → room' ≡ room.Left l → l < 2 → FitsRoom room' k (suc d) (kind.OpenParenthesis at p ∷ ks) → FitsRoom (room.Spent p.place) (suc k) d ks
room_ends room' l k d p ks is less h = let fits = room_left room' l k (suc d) (kind.OpenParenthesis at p ∷ ks) is h in (omega (arith, less, fits), λ m w. (kind.OpenParenthesis at p, ks, refl, tells_of_bracket w))

pub room_stays : (room' : Room) (place : Place) (k d : ℕ) (p : Position) (ks : List Terminal) → room' ≡ room.Spent place → FitsRoom room' k (suc d) (kind.OpenParenthesis at p ∷ ks) → FitsRoom (room.Spent place) (suc k) d ks
room_stays room' place k d p ks is h = let fits = subst (λ z. FitsRoom z k (suc d) (kind.OpenParenthesis at p ∷ ks)) is h in (omega (arith, fits.0), λ m w. fits.1 m (tells_of_bracket w))

pub room_at_top : (l d : ℕ) (ks : List Terminal) → l ≡ suc d → FitsRoom (room.Left l) 0 d ks
room_at_top l d ks h = omega (arith, h)

-- ---- nodes

pub not_value : (x : Initializer) → ((e : Expr) → x ≡ Value e → ⊥) → IsNoExpression (initials (initial_of x) no_initials)
not_value (Value e) h = absurd (h e refl)
not_value (List' position _ row) h = tt
not_value (Record' position _ row) h = tt

-- ---- an expression whose root is read

pub simple_refuses : (d : ℕ) (end : Place) (ks : List Terminal) (e : ParseError) → Refuses (Chain Additive) d end ks e → Refuses SomeValue d end ks e
simple_refuses d end ks e h = value_chain d end ks e (chain_operand Relational d end ks e (relational_refuses d end ks e h))

pub term_refuses : (d : ℕ) (end : Place) (ks : List Terminal) (e : ParseError) → Refuses (Chain Multiplicative) d end ks e → Refuses SomeValue d end ks e
term_refuses d end ks e h = simple_refuses d end ks e (chain_operand Additive d end ks e (additive_refuses d end ks e h))

pub selectors_refuse : (d : ℕ) (end : Place) (root : Root) (ks m : List Terminal) (e : ParseError) → IsRoot d root ks m → Refuses SomeSelectors d end m e → Refuses SomeValue d end ks e
selectors_refuse d end root ks m e f h = term_refuses d end ks e (chain_operand Multiplicative d end ks e (multiplicative_refuses d end ks e (designated_refuses d end ks e (designator_begins (is_designator f are_no_selectors)) (designator_selectors d end root ks m e f h))))

pub root_operand : (d : ℕ) (root : Root) (ss : Selectors) (ks m r : List Terminal) → IsRoot d root ks m → SomeSelectors d ss m r → Operand Multiplicative d (designated (designator root ss)) ks r
root_operand d root ss ks m r f g = multiplicative_operand d _ ks r (factor_designated d _ ks r (designator_whole d root ss ks m r f g))

pub alone : (n : Name) (xs : List Selector) → length xs ≡ 0 → name_alone (value (designated (designator (named n) (selectors_of xs)))) ≡ Some n
alone n [] h = refl
alone n (x ∷ xs) h = absurd (omega (arith, h))

pub not_alone : (n : Name) (xs : List Selector) → 0 < length xs → name_alone (value (designated (designator (named n) (selectors_of xs)))) ≡ None
not_alone n [] h = absurd (omega (arith, h))
not_alone n (x ∷ xs) h = refl

pub fits_item : (d : ℕ) (a : Initial) (e x : Expression) (ks r : List Terminal) → a ≡ value e → ValueOf d x ks r → FitsItem d a ks
fits_item d a e x ks r is f = subst (λ z. FitsItem d z ks) (sym is) (x, r, f)
