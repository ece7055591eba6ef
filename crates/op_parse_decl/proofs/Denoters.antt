-- Refusals of types.
use Rattle.std.proofs.Common.{◌≡◌, ℕ, zero, suc, Bool, true, false, List, [], ◌∷◌, ◌++◌, Some, None, refl, sym, ap, ◌∙◌, subst, arith}
use Rattle.op_base.specs.declared.place.Place.{Place}
use Rattle.op_parse_code.proofs.Cuts.{same_not}
use Rattle.op_parse_code.proofs.ExpressionKnown.{known_mark}
use Rattle.op_parse_code.proofs.Cuts.{cut_one, cut_join, cut_none}
use Rattle.op_parse_code.proofs.Fitting.{factor_at}
use Rattle.op_parse_code.proofs.Chains.{factor_alone}
use Rattle.op_parse_code.proofs.Lists.{Splits, Joins, hands_item, hands_more}
use Rattle.op_parse_code.proofs.Living.{Any, Fits, Sample, alive_here, hands_as, hands_behind, hands_inside, hands_deeper, hands_first}
use Rattle.op_parse_code.proofs.Refusing.{Some_, Seq, HandsOn, Shows, alive_after, dead_here, no_mark_same}
use Rattle.op_parse_decl.proofs.Refusals.{as_form, flat_mark, form_told, list_item, list_close, list_more, refuses_map, refuses_first, refuses_after, refuses_behind, refuses_inside, refuses_deeper, refuses_part}
use Rattle.op_parse_decl.specs.Form.{BeginsProcedural, Form, TypeForm, is_procedural}
use Rattle.op_parse_code.specs.Refusal.{SameHead, Dead, Decision, Shown, Alive, Refuses, syntax, nested, decides_there, refused_at, Told, as_it_was, by_form}
use Rattle.op_parse_decl.specs.Refusal.{Never, RefusesIn, RefusesPart, RefusesParts, by_grammar, decides_in_code, left_out_type}
use Rattle.op_parse_code.specs.Whole.{Marked, NoMark}
use Rattle.op_parse_code.specs.declared.error.ParseError.{ParseError}
use Rattle.op_parse_code.specs.declared.mark.Mark.TheVariants as mark
use Rattle.op_parse_decl.proofs.Bounds.{structure_no_bound, bound_alive, as_bound}
use Rattle.op_parse_decl.specs.Fronts.{front_denoter, front_denoters}
use Rattle.op_parse_decl.specs.KnownTypes.{known_denoter, known_denoters, known_indices}
use Rattle.op_parse_decl.specs.Opening.{begins_denoter, IsProcedural}
use Rattle.op_parse_decl.specs.Types.{SomeDenoter, DenoterBehind, SomeStructure, SomeBounded, DenotersBefore, SomeIndices, no_indices, some_indices}
use Rattle.op_scan.specs.declared.token.TokenKind.{TokenKind}
use Rattle.op_scan.specs.declared.token.TokenKind.TheVariants as kind
use Rattle.op_tree.proofs.DenoterUnique.{is_structure, structure_begins, qualified_begins}
use Rattle.op_tree.proofs.ExpressionUnique.{Begins, false_true, chain_begins, behind}
use Rattle.op_tree.proofs.MethodUnique.{also}
use Rattle.op_tree.proofs.StatementUnique.{both, is_identifier}
use Rattle.op_tree.specs.Denoter.{Denoter, named, set, array, record_, Denoters, no_denoters, denoters, no_fields, denoter_of}
use Rattle.op_tree.specs.DenoterGrammar.{IsDenoter, is_named, is_string, is_subrange, is_enumeration, is_set, is_unpacked, is_packed, is_dynamic_array, is_static_array, is_record, are_one_denoter, are_denoters, are_no_fields}
use Rattle.op_tree.specs.NameGrammar.{is_name, is_unqualified}
use Rattle.op_tree.specs.Ends.{IsNot, StopsDenoter, begins_expression}
use Rattle.op_tree.specs.Lists.{denoters_of}
use Rattle.op_tree.specs.Terminal.{Terminal, ◌at◌, name}
use Rattle.op_tree.specs.declared.denoter.TypeDenoter.{TypeDenoter}
use Rattle.op_tree.specs.declared.position.Position.{Position}

-- ---- how a type begins

identifier_denotes : (k : TokenKind) → is_identifier k ≡ true → begins_denoter k ≡ true
identifier_denotes (kind.Identifier text) h = refl
identifier_denotes other h = false_true h

pub expression_denotes : (k : TokenKind) → begins_expression k ≡ true → begins_denoter k ≡ true
expression_denotes kind.Set h = refl
expression_denotes kind.Array h = refl
expression_denotes kind.Record h = refl
expression_denotes kind.Packed h = refl
expression_denotes other h = h

structure_denotes : (k : TokenKind) → is_structure k ≡ true → begins_denoter k ≡ true
structure_denotes kind.Array h = refl
structure_denotes kind.Record h = refl
structure_denotes other h = false_true h

denoter_begins : {d : ℕ} {t : Denoter} {ks r : List Terminal} → IsDenoter d t ks r → Begins begins_denoter ks
denoter_begins {ks = ks} (is_named q) = also identifier_denotes ks (qualified_begins q)
denoter_begins is_string = refl
denoter_begins {ks = ks} (is_subrange a b) = also expression_denotes ks (chain_begins a)
denoter_begins (is_enumeration ns) = refl
denoter_begins (is_set t) = refl
denoter_begins {ks = ks} (is_unpacked s) = also structure_denotes ks (structure_begins s)
denoter_begins (is_packed s) = refl

pub denoter_none : (d : ℕ) (end : Place) (ks : List Terminal) (e : ParseError) → IsNot begins_denoter ks → e ≡ refused_at 9 0 end ks → RefusesPart SomeDenoter d end ks e
denoter_none d end ks e h x = by_grammar (syntax ks x (λ d'. dead_here (SomeDenoter d') ks (λ t ls r s f. both begins_denoter ls (denoter_begins f.0) (same_not begins_denoter ks ls s h))))

deeper : {d : ℕ} {t : Denoter} {ks r : List Terminal} → IsDenoter d t ks r → (i : ℕ) × (d ≡ suc i)
deeper (is_named {d = i} q) = (i, refl)
deeper (is_string {d = i}) = (i, refl)
deeper (is_subrange {d = i} a b) = (i, refl)
deeper (is_enumeration {d = i} ns) = (i, refl)
deeper (is_set {d = i} t) = (i, refl)
deeper (is_unpacked {d = i} s) = (i, refl)
deeper (is_packed {d = i} s) = (i, refl)

no_room : (t : Denoter) (ks r : List Terminal) → IsDenoter 0 t ks r → ⊥
no_room t ks r f = elim f [ ]

-- the least type
abbrev a_type : Position → Denoter
a_type p = named (record { unit = None; name = name [] p })

type_there : (i : ℕ) (p : Position) (r : List Terminal) → IsDenoter (suc i) (a_type p) (kind.Identifier [] at p ∷ r) r
type_there i p r = is_named (is_unqualified (is_name {text = []} {p = p}))

some_type : Position → Sample SomeDenoter Any
some_type p = record { tokens = kind.Identifier [] at p ∷ []; behind = []; part = a_type p; stands = λ i. (type_there i p [], record { operator = tt; selector = tt; range = tt }); fits = tt }

-- with each token that a type begins with, one of a greater depth begins
denoter_kind : (k : TokenKind) (p : Position) (r : List Terminal) → begins_denoter k ≡ true → Alive SomeDenoter 0 (k at p ∷ r) (k at p ∷ r)
denoter_kind kind.Set p r b = alive_here SomeDenoter 0 2 (kind.Set at p) r (kind.Of at p ∷ kind.Identifier [] at p ∷ []) [] (set p (a_type p)) (omega arith) (is_set (type_there 0 p []), record { operator = tt; selector = tt; range = tt })
denoter_kind kind.Array p r b = alive_here SomeDenoter 0 2 (kind.Array at p) r (kind.Of at p ∷ kind.Identifier [] at p ∷ []) [] (array p false no_denoters (a_type p)) (omega arith) (is_unpacked (is_dynamic_array (type_there 0 p [])), record { operator = tt; selector = tt; range = tt })
denoter_kind kind.Record p r b = alive_here SomeDenoter 0 1 (kind.Record at p) r (kind.End at p ∷ []) [] (record_ p false no_fields) (omega arith) (is_unpacked (is_record are_no_fields), record { operator = tt; selector = tt; range = tt })
denoter_kind kind.Packed p r b = alive_here SomeDenoter 0 1 (kind.Packed at p) r (kind.Record at p ∷ kind.End at p ∷ []) [] (record_ p true no_fields) (omega arith) (is_packed (is_record are_no_fields), record { operator = tt; selector = tt; range = tt })
denoter_kind other p r b = as_bound (bound_alive 0 (other at p ∷ r) (other at p ∷ r) (factor_alone 0 (other at p ∷ r) (other at p ∷ r) (factor_at 0 other p r b)))

pub denoter_too_deep : (d : ℕ) (end : Place) (k : TokenKind) (p : Position) (ks : List Terminal) (e : ParseError) → begins_denoter k ≡ true → d ≡ 0 → e ≡ refused_at 61 0 end (k at p ∷ ks) → RefusesPart SomeDenoter d end (k at p ∷ ks) e
denoter_too_deep d end k p ks e b z x = subst (λ (w : ℕ). RefusesPart SomeDenoter w end (k at p ∷ ks) e) (sym z) (by_grammar (nested (k at p ∷ ks) (k at p ∷ ks) (k at p ∷ ks) x (decides_in_code decides_there) (dead_here (SomeDenoter 0) (k at p ∷ ks) (λ t ls r s f. no_room t ls r f.0)) decides_there (denoter_kind k p ks b)))

pub denoter_form : (d : ℕ) (end : Place) (feature : ℕ) (k : TokenKind) (p : Position) (ks : List Terminal) (e : ParseError) → begins_denoter k ≡ false → ((p : Position) (r : List Terminal) → Form feature (k at p ∷ r) (k at p ∷ r) (k at p ∷ r)) → e ≡ refused_at 13 feature end (k at p ∷ ks) → RefusesPart SomeDenoter d end (k at p ∷ ks) e
denoter_form d end feature k p ks e none form x = form_told (refused_at 9 0 end (k at p ∷ ks)) refl refl ([], k at p ∷ ks, refl, form p ks) x (denoter_none d end (k at p ∷ ks) (refused_at 9 0 end (k at p ∷ ks)) none refl)

procedural_none : (k : TokenKind) → BeginsProcedural k → begins_denoter k ≡ false
procedural_none kind.Procedure h = refl
procedural_none kind.Function h = refl
procedural_none other h = elim h [ ]

pub denoter_no_procedural : (d : ℕ) (end : Place) (k : TokenKind) (p : Position) (ks : List Terminal) (e : ParseError) → BeginsProcedural k → e ≡ refused_at 9 0 end (k at p ∷ ks) → RefusesPart SomeDenoter d end (k at p ∷ ks) e
denoter_no_procedural d end k p ks e h x = denoter_none d end (k at p ∷ ks) e (procedural_none k h) x

pub denoter_procedural : (d : ℕ) (end : Place) (k : TokenKind) (p : Position) (ks : List Terminal) (e : ParseError) → BeginsProcedural k → IsProcedural (k at p ∷ ks) → e ≡ refused_at 13 6 end (k at p ∷ ks) → RefusesPart SomeDenoter d end (k at p ∷ ks) e
denoter_procedural d end k p ks e h (t, k', q, r, is, none) x = form_told (refused_at 9 0 end (k at p ∷ ks)) refl refl ([], k at p ∷ ks, refl, subst (λ z. Form 6 (k at p ∷ z) (k at p ∷ z) (k at p ∷ z)) (sym (ap behind is)) (is_procedural h none)) x (denoter_no_procedural d end k p ks (refused_at 9 0 end (k at p ∷ ks)) h refl)

pub word_denotes : {k k' : TokenKind} → k ≡ k' → begins_denoter k' ≡ true → begins_denoter k ≡ true
word_denotes is h = subst (λ (z : TokenKind). begins_denoter z ≡ true) (sym is) h

-- ---- the rest of a type behind its first token

pub denoter_bounded : (d i : ℕ) (end : Place) (ks : List Terminal) (e : ParseError) → d ≡ suc i → RefusesPart SomeBounded i end ks e → RefusesPart SomeDenoter d end ks e
denoter_bounded d i end ks e z h = subst (λ (w : ℕ). RefusesPart SomeDenoter w end ks e) (sym z) (refuses_deeper SomeBounded SomeDenoter i end ks e (λ d' t ls r s f. let w = deeper f.0 in (w.0, w.1, (t, r, subst (λ (x : ℕ). SomeDenoter x t ls r) w.1 f))) (hands_deeper SomeBounded SomeDenoter i ks (λ i t ls r s f. (t, f))) h)

pub denoter_bounded_whole : (d i : ℕ) (t : Denoter) (ks r : List Terminal) → d ≡ suc i → SomeBounded i t ks r → SomeDenoter d t ks r
denoter_bounded_whole d i t ks r z f = subst (λ (w : ℕ). SomeDenoter w t ks r) (sym z) f

pub denoter_behind : (d i : ℕ) (end : Place) (k k' : TokenKind) (p : Position) (ks : List Terminal) (e : ParseError) → k ≡ k' → d ≡ suc i → RefusesPart (DenoterBehind k' p) i end ks e → RefusesPart SomeDenoter d end (k at p ∷ ks) e
denoter_behind d i end k k' p ks e h z x = subst (λ (w : ℕ). RefusesPart SomeDenoter w end (k at p ∷ ks) e) (sym z) (subst (λ w. RefusesPart SomeDenoter (suc i) end (w at p ∷ ks) e) (sym h) (refuses_inside (DenoterBehind k' p) SomeDenoter i end (k' at p) ks e (λ d' t ls r f. let w = deeper f.0 in (w.0, w.1, (t, r, subst (λ (x : ℕ). SomeDenoter x t (k' at p ∷ ls) r) w.1 f))) (hands_inside (DenoterBehind k' p) SomeDenoter i (k' at p) ks (λ i t ls r f. (t, f))) x))

pub denoter_behind_whole : (d i : ℕ) (t : Denoter) (k k' : TokenKind) (p : Position) (ks r : List Terminal) → k ≡ k' → d ≡ suc i → DenoterBehind k' p i t ks r → SomeDenoter d t (k at p ∷ ks) r
denoter_behind_whole d i t k k' p ks r h z f = subst (λ (w : ℕ). SomeDenoter w t (k at p ∷ ks) r) (sym z) (subst (λ w. SomeDenoter (suc i) t (w at p ∷ ks) r) (sym h) f)

-- ---- sets

into_set : (p : Position) (d : ℕ) (t : Denoter) (ls r : List Terminal) → DenoterBehind kind.Set p d t ls r → Some_ (Seq (Marked mark.Of) SomeDenoter) d ls
into_set p d t ls r (is_named q, st) = false_true (qualified_begins q)
into_set p d t ls r (is_subrange a b, st) = false_true (chain_begins a)
into_set p d t ls r (is_set {base = base} {q = q} {ks = ks} f, st) = ((q, base), r, (ks, refl, (f, st)))
into_set p d t ls r (is_unpacked s, st) = false_true (structure_begins s)

pub set_whole : (p q : Position) (d : ℕ) (t : Denoter) (ks m r : List Terminal) → ks ≡ kind.Of at q ∷ m → SomeDenoter d t m r → DenoterBehind kind.Set p d (set p t) ks r
set_whole p q d t ks m r is f = subst (λ z. DenoterBehind kind.Set p d (set p t) z r) (sym is) (is_set f.0, f.1)

out_of_set : (p : Position) (d : ℕ) (ks : List Terminal) → HandsOn (Seq (Marked mark.Of) SomeDenoter) d ks (DenoterBehind kind.Set p) d ks
out_of_set p d ks = hands_as (Seq (Marked mark.Of) SomeDenoter) (DenoterBehind kind.Set p) d ks (λ i x ls r s f. (set p x.1, set_whole p x.0 i x.1 ls f.0 r f.1 f.2))

pub set_of_missing : (p : Position) (d : ℕ) (end : Place) (ks : List Terminal) (e : ParseError) → Refuses (Marked mark.Of) d end ks e → RefusesPart (DenoterBehind kind.Set p) d end ks e
set_of_missing p d end ks e h = refuses_map (Seq (Marked mark.Of) SomeDenoter) (DenoterBehind kind.Set p) d end ks e (λ d' t ls r s f. into_set p d' t ls r f) (λ q x. absurd x) (refuses_first {V = Never} (Marked mark.Of) SomeDenoter d end ks e (λ q x. absurd x) (refuses_part (flat_mark mark.Of h)))

pub set_base : (p q : Position) (d : ℕ) (end : Place) (ks m : List Terminal) (e : ParseError) → ks ≡ kind.Of at q ∷ m → RefusesPart SomeDenoter d end m e → RefusesPart (DenoterBehind kind.Set p) d end ks e
set_base p q d end ks m e is h = refuses_map {W = Alive (Seq (Marked mark.Of) SomeDenoter)} (Seq (Marked mark.Of) SomeDenoter) (DenoterBehind kind.Set p) d end ks e (λ d' t ls r s f. into_set p d' t ls r f) (out_of_set p d ks) (refuses_after (Marked mark.Of) SomeDenoter d end q ks m e (known_mark mark.Of) is (λ q' x. alive_after (Marked mark.Of) SomeDenoter d q ks m q' (known_mark mark.Of) is x) h)

-- ---- arrays and records

no_name_there : (k : TokenKind) → is_structure k ≡ true → is_identifier k ≡ false
no_name_there kind.Array h = refl
no_name_there kind.Record h = refl
no_name_there other h = false_true h

into_unpacked : (d : ℕ) (t : Denoter) (k : TokenKind) (p : Position) (ls r : List Terminal) → is_structure k ≡ true → SomeDenoter d t (k at p ∷ ls) r → (i : ℕ) × (d ≡ suc i) × Some_ (SomeStructure p false) i (k at p ∷ ls)
into_unpacked d t k p ls r h (is_named q, st) = both is_identifier (k at p ∷ ls) (qualified_begins q) (no_name_there k h)
into_unpacked d t k p ls r h (is_string, st) = false_true h
into_unpacked d t k p ls r h (is_subrange a b, st) = both begins_expression (k at p ∷ ls) (chain_begins a) (structure_no_bound k h)
into_unpacked d t k p ls r h (is_enumeration ns, st) = false_true h
into_unpacked d t k p ls r h (is_set f, st) = false_true h
into_unpacked d t k p ls r h (is_unpacked {d = i} s, st) = (i, refl, (t, r, (s, st)))
into_unpacked d t k p ls r h (is_packed s, st) = false_true h

pub denoter_unpacked : (d i : ℕ) (end : Place) (k k' : TokenKind) (p : Position) (ks : List Terminal) (e : ParseError) → k ≡ k' → is_structure k' ≡ true → d ≡ suc i → ((q : Position) → RefusesPart (SomeStructure p false) i end (k' at q ∷ ks) e) → RefusesPart SomeDenoter d end (k at p ∷ ks) e
denoter_unpacked d i end k k' p ks e h g z x = subst (λ (w : ℕ). RefusesPart SomeDenoter w end (k at p ∷ ks) e) (sym z) (subst (λ w. RefusesPart SomeDenoter (suc i) end (w at p ∷ ks) e) (sym h) (refuses_deeper (SomeStructure p false) SomeDenoter i end (k' at p ∷ ks) e into (hands_deeper (SomeStructure p false) SomeDenoter i (k' at p ∷ ks) (λ j t ls r s f. out j t ls r s f)) (x p)))
  where
    out : (j : ℕ) (t : Denoter) (ls r : List Terminal) → SameHead (k' at p ∷ ks) ls → SomeStructure p false j t ls r → (b : Denoter) × SomeDenoter (suc j) b ls r
    out j t [] r s f = absurd s
    out j t (u ∷ ls) r s f = (t, subst (λ (z : Terminal). SomeDenoter (suc j) t (z ∷ ls) r) s (let g = subst (λ (z : Terminal). SomeStructure p false j t (z ∷ ls) r) (sym s) f in (is_unpacked g.0, g.1)))

    into : (d' : ℕ) (t : Denoter) (ls r : List Terminal) → SameHead (k' at p ∷ ks) ls → SomeDenoter d' t ls r → (i : ℕ) × (d' ≡ suc i) × Some_ (SomeStructure p false) i ls
    into d' t [] r s f = absurd s
    into d' t (u ∷ ls) r s f =
        let w = into_unpacked d' t k' p ls r g (subst (λ z. SomeDenoter d' t (z ∷ ls) r) (sym s) f) in
        (w.0, w.1, subst (λ z. Some_ (SomeStructure p false) w.0 (z ∷ ls)) s w.2)

pub denoter_unpacked_whole : (d i : ℕ) (t : Denoter) (k k' : TokenKind) (p : Position) (ks r : List Terminal) → k ≡ k' → d ≡ suc i → SomeStructure p false i t (k' at p ∷ ks) r → SomeDenoter d t (k at p ∷ ks) r
denoter_unpacked_whole d i t k k' p ks r h z f = subst (λ (w : ℕ). SomeDenoter w t (k at p ∷ ks) r) (sym z) (subst (λ w. SomeDenoter (suc i) t (w at p ∷ ks) r) (sym h) (is_unpacked f.0, f.1))

into_packed : (p : Position) (d : ℕ) (t : Denoter) (ls r : List Terminal) → SomeDenoter d t (kind.Packed at p ∷ ls) r → (i : ℕ) × (d ≡ suc i) × Some_ (SomeStructure p true) i ls
into_packed p d t ls r (is_named q, st) = false_true (qualified_begins q)
into_packed p d t ls r (is_subrange a b, st) = false_true (chain_begins a)
into_packed p d t ls r (is_unpacked s, st) = false_true (structure_begins s)
into_packed p d t ls r (is_packed {d = i} s, st) = (i, refl, (t, r, (s, st)))

pub denoter_packed : (d i : ℕ) (end : Place) (k : TokenKind) (p : Position) (ks : List Terminal) (e : ParseError) → k ≡ kind.Packed → d ≡ suc i → RefusesPart (SomeStructure p true) i end ks e → RefusesPart SomeDenoter d end (k at p ∷ ks) e
denoter_packed d i end k p ks e h z x = subst (λ (w : ℕ). RefusesPart SomeDenoter w end (k at p ∷ ks) e) (sym z) (subst (λ w. RefusesPart SomeDenoter (suc i) end (w at p ∷ ks) e) (sym h) (refuses_inside (SomeStructure p true) SomeDenoter i end (kind.Packed at p) ks e (into_packed p) (hands_inside (SomeStructure p true) SomeDenoter i (kind.Packed at p) ks (λ j t ls r f. (t, (is_packed f.0, f.1)))) x))

pub denoter_packed_whole : (d i : ℕ) (t : Denoter) (k : TokenKind) (p : Position) (ks r : List Terminal) → k ≡ kind.Packed → d ≡ suc i → SomeStructure p true i t ks r → SomeDenoter d t (k at p ∷ ks) r
denoter_packed_whole d i t k p ks r h z f = subst (λ (w : ℕ). SomeDenoter w t (k at p ∷ ks) r) (sym z) (subst (λ w. SomeDenoter (suc i) t (w at p ∷ ks) r) (sym h) (is_packed f.0, f.1))

no_array_record : (p : Position) (b : Bool) (ks : List Terminal) → NoMark mark.Array ks → (d : ℕ) (t : Denoter) (ls r : List Terminal) → SameHead ks ls → SomeStructure p b d t ls r → Some_ (Marked mark.Record) d ls
no_array_record p b ks none d t ls r s (is_dynamic_array {q = q} f, st) = absurd (no_mark_same mark.Array ks ls s none q _ refl)
no_array_record p b ks none d t ls r s (is_static_array {q = q} ts f, st) = absurd (no_mark_same mark.Array ks ls s none q _ refl)
no_array_record p b ks none d t ls r s (is_record {q = q} {ks = m} fs, st) = (q, m, refl)

pub packed_none : (p : Position) (d : ℕ) (end : Place) (ks : List Terminal) (e : ParseError) → NoMark mark.Array ks → Refuses (Marked mark.Record) d end ks e → RefusesPart (SomeStructure p true) d end ks e
packed_none p d end ks e none h = refuses_map (Marked mark.Record) (SomeStructure p true) d end ks e (no_array_record p true ks none) (λ q x. absurd x) (refuses_part (flat_mark mark.Record h))

pub structure_there : (p q : Position) (b : Bool) (d : ℕ) (end : Place) (k : TokenKind) (ks m : List Terminal) (e : ParseError) → ks ≡ k at q ∷ m → ((u : Position) → RefusesPart (SomeStructure p b) d end (k at u ∷ m) e) → RefusesPart (SomeStructure p b) d end ks e
structure_there p q b d end k ks m e is h = subst (λ z. RefusesPart (SomeStructure p b) d end z e) (sym is) (h q)

pub structure_there_whole : (p q : Position) (b : Bool) (d : ℕ) (t : Denoter) (k : TokenKind) (ks m r : List Terminal) → ks ≡ k at q ∷ m → ((u : Position) → SomeStructure p b d t (k at u ∷ m) r) → SomeStructure p b d t ks r
structure_there_whole p q b d t k ks m r is f = subst (λ z. SomeStructure p b d t z r) (sym is) (f q)

-- ---- arrays

into_array : (p q : Position) (b : Bool) (d : ℕ) (t : Denoter) (ls r : List Terminal) → SomeStructure p b d t (kind.Array at q ∷ ls) r → Some_ (Seq SomeIndices SomeDenoter) d ls
into_array p q b d t ls r (is_dynamic_array {t = a} {ks = m} f, st) = ((no_denoters, a), r, (m, no_indices, (f, st)))
into_array p q b d t ls r (is_static_array {ts = ts} {t = a} {v = v} {m = m} fs f, st) = ((ts, a), r, (m, some_indices {p = _} (v, fs), (f, st)))

pub array_whole : (p : Position) (b : Bool) (d : ℕ) (ts : Denoters) (t : Denoter) (ks m r : List Terminal) → SomeIndices d ts ks m → SomeDenoter d t m r → (q : Position) → SomeStructure p b d (array p b ts t) (kind.Array at q ∷ ks) r
array_whole p b d ts t ks m r no_indices f q = (is_dynamic_array f.0, f.1)
array_whole p b d ts t ks m r (some_indices g) f q = (is_static_array g.1 f.0, f.1)

array_behind : {W : Shown} (p : Position) (b : Bool) (d : ℕ) (end : Place) (ks : List Terminal) (e : ParseError) → Shows W d ks (Alive (Seq SomeIndices SomeDenoter)) d ks → RefusesParts W (Seq SomeIndices SomeDenoter) d end ks e → (q : Position) → RefusesPart (SomeStructure p b) d end (kind.Array at q ∷ ks) e
array_behind p b d end ks e k h q = refuses_behind (Seq SomeIndices SomeDenoter) (SomeStructure p b) d end (kind.Array at q) ks e (λ d' t ls r f. into_array p q b d' t ls r f) (λ u x. hands_behind (Seq SomeIndices SomeDenoter) (SomeStructure p b) d (kind.Array at q) ks (λ i y ls r f. (array p b y.0 y.1, array_whole p b i y.0 y.1 ls f.0 r f.1 f.2 q)) u (k u x)) h

fits_indices : Fits SomeIndices Any
fits_indices d ts ks r (no_indices {p = p}) = (λ x. kind.Of at p ∷ x, cut_one (kind.Of at p) cut_none, refl, λ x c. no_indices)
fits_indices d ts ks r (some_indices {p = p} {q = q} (u, f)) =
    let s = front_denoters f in
    (λ x. kind.OpenBracket at p ∷ s.0 (kind.CloseBracket at u ∷ kind.Of at q ∷ x), cut_one (kind.OpenBracket at p) (cut_join s.1 (cut_one (kind.CloseBracket at u) (cut_one (kind.Of at q) cut_none))), ap (λ z. kind.OpenBracket at p ∷ z) s.2, λ x c. some_indices (u, s.3 (kind.CloseBracket at u ∷ kind.Of at q ∷ x)))

pub array_indices : (p : Position) (b : Bool) (d : ℕ) (end : Place) (ks : List Terminal) (e : ParseError) → RefusesPart SomeIndices d end ks e → (q : Position) → RefusesPart (SomeStructure p b) d end (kind.Array at q ∷ ks) e
array_indices p b d end ks e h = array_behind {W = Alive SomeIndices} p b d end ks e (hands_first SomeIndices SomeDenoter Any d ks fits_indices some_type) (refuses_first {W = Alive SomeIndices} SomeIndices SomeDenoter d end ks e (λ q x. x) h)

pub array_element : (p : Position) (b : Bool) (d : ℕ) (end : Place) (ts : Denoters) (ks m : List Terminal) (e : ParseError) → SomeIndices d ts ks m → RefusesPart SomeDenoter d end m e → (q : Position) → RefusesPart (SomeStructure p b) d end (kind.Array at q ∷ ks) e
array_element p b d end ts ks m e f h = array_behind {W = Alive (Seq SomeIndices SomeDenoter)} p b d end ks e (λ q x. x) (refuses_after SomeIndices SomeDenoter d end ts ks m e known_indices f (λ q x. alive_after SomeIndices SomeDenoter d ts ks m q known_indices f x) h)

no_bracket_of : (ks : List Terminal) → NoMark mark.OpenBracket ks → (d : ℕ) (ts : Denoters) (ls r : List Terminal) → SameHead ks ls → SomeIndices d ts ls r → Some_ (Marked mark.Of) d ls
no_bracket_of ks none d ts ls r s (no_indices {p = p}) = (p, r, refl)
no_bracket_of ks none d ts ls r s (some_indices {p = p} f) = absurd (no_mark_same mark.OpenBracket ks ls s none p _ refl)

pub indices_none : (d : ℕ) (end : Place) (ks : List Terminal) (e : ParseError) → NoMark mark.OpenBracket ks → Refuses (Marked mark.Of) d end ks e → RefusesPart SomeIndices d end ks e
indices_none d end ks e none h = refuses_map (Marked mark.Of) SomeIndices d end ks e (no_bracket_of ks none) (λ q x. absurd x) (refuses_part (flat_mark mark.Of h))

pub indices_none_whole : (d : ℕ) (p : Position) (ks r : List Terminal) → ks ≡ kind.Of at p ∷ r → SomeIndices d no_denoters ks r
indices_none_whole d p ks r is = subst (λ z. SomeIndices d no_denoters z r) (sym is) no_indices

no_index : (ts : Denoters) (p : Position) (ls r : List Terminal) → SomeIndices 0 ts (kind.OpenBracket at p ∷ ls) r → ⊥
no_index ts p ls r f = elim f [ ]

pub indices_too_deep : (d : ℕ) (end : Place) (p : Position) (ks m : List Terminal) (e : ParseError) → ks ≡ kind.OpenBracket at p ∷ m → d ≡ 0 → e ≡ refused_at 61 0 end ks → RefusesPart SomeIndices d end ks e
indices_too_deep d end p ks m e is z x = subst (λ (w : ℕ). RefusesPart SomeIndices w end ks e) (sym z) (by_grammar (nested ks ks ks x (decides_in_code decides_there) (dead_here (SomeIndices 0) ks (λ ts ls r s f. none ts ls r (subst (λ z. SameHead z ls) is s) f)) decides_there (subst (λ y. Alive SomeIndices 0 y y) (sym is) lives)))
  where
    lives : Alive SomeIndices 0 (kind.OpenBracket at p ∷ m) (kind.OpenBracket at p ∷ m)
    lives = alive_here SomeIndices 0 2 (kind.OpenBracket at p) m (kind.Identifier [] at p ∷ kind.CloseBracket at p ∷ kind.Of at p ∷ []) [] (denoters (a_type p) no_denoters) (omega arith) (some_indices (p, are_one_denoter (type_there 0 p (kind.CloseBracket at p ∷ kind.Of at p ∷ []))))

    none : (ts : Denoters) (ls r : List Terminal) → SameHead (kind.OpenBracket at p ∷ m) ls → SomeIndices 0 ts ls r → ⊥
    none ts [] r s f = absurd s
    none ts (u ∷ ls) r s f = no_index ts p ls r (subst (λ z. SomeIndices 0 ts (z ∷ ls) r) (sym s) f)

into_indices : (p : Position) (d : ℕ) (ts : Denoters) (ls r : List Terminal) → SomeIndices d ts (kind.OpenBracket at p ∷ ls) r → (i : ℕ) × (d ≡ suc i) × Some_ (Seq DenotersBefore (Marked mark.Of)) i ls
into_indices p d ts ls r (some_indices {d = i} {q = q} f) = (i, refl, ((ts, q), r, (kind.Of at q ∷ r, f, refl)))

fits_types : Fits DenotersBefore Any
fits_types d ts ks r (p, f) = let s = front_denoters f in (λ x. s.0 (kind.CloseBracket at p ∷ x), cut_join s.1 (cut_one (kind.CloseBracket at p) cut_none), s.2, λ x c. (p, s.3 (kind.CloseBracket at p ∷ x)))

of_it : Position → Sample (Marked mark.Of) Any
of_it p = record { tokens = kind.Of at p ∷ []; behind = []; part = p; stands = λ i. refl; fits = tt }

indices_inside : {W : Shown} (d i : ℕ) (end : Place) (p : Position) (ks m : List Terminal) (e : ParseError) → ks ≡ kind.OpenBracket at p ∷ m → d ≡ suc i → Shows W i m (Alive (Seq DenotersBefore (Marked mark.Of))) i m → RefusesParts W (Seq DenotersBefore (Marked mark.Of)) i end m e → RefusesPart SomeIndices d end ks e
indices_inside d i end p ks m e is z k h = subst (λ (w : ℕ). RefusesPart SomeIndices w end ks e) (sym z) (subst (λ w. RefusesPart SomeIndices (suc i) end w e) (sym is) (refuses_inside (Seq DenotersBefore (Marked mark.Of)) SomeIndices i end (kind.OpenBracket at p) m e (into_indices p) (λ q x. hands_inside (Seq DenotersBefore (Marked mark.Of)) SomeIndices i (kind.OpenBracket at p) m (λ j y ls r f. (y.0, some_indices (subst (λ w. DenotersBefore j y.0 ls w) f.2 f.1))) q (k q x)) h))

pub indices_types : (d i : ℕ) (end : Place) (p : Position) (ks m : List Terminal) (e : ParseError) → ks ≡ kind.OpenBracket at p ∷ m → d ≡ suc i → RefusesPart DenotersBefore i end m e → RefusesPart SomeIndices d end ks e
indices_types d i end p ks m e is z h = indices_inside {W = Alive DenotersBefore} d i end p ks m e is z (hands_first DenotersBefore (Marked mark.Of) Any i m fits_types of_it) (refuses_first {W = Alive DenotersBefore} DenotersBefore (Marked mark.Of) i end m e (λ q x. x) h)

pub indices_of_missing : (d i : ℕ) (end : Place) (p : Position) (ts : Denoters) (ks m n : List Terminal) (e : ParseError) → ks ≡ kind.OpenBracket at p ∷ m → d ≡ suc i → DenotersBefore i ts m n → Refuses (Marked mark.Of) i end n e → RefusesPart SomeIndices d end ks e
indices_of_missing d i end p ts ks m n e is z f h = indices_inside {W = Never} d i end p ks m e is z (λ q x. absurd x) (refuses_after DenotersBefore (Marked mark.Of) i end ts m n e known_denoters f (λ q x. absurd x) (refuses_part (flat_mark mark.Of h)))

pub indices_whole : (d i : ℕ) (p q : Position) (ts : Denoters) (ks m n r : List Terminal) → ks ≡ kind.OpenBracket at p ∷ m → d ≡ suc i → DenotersBefore i ts m n → n ≡ kind.Of at q ∷ r → SomeIndices d ts ks r
indices_whole d i p q ts ks m n r is z f c = subst (λ (w : ℕ). SomeIndices w ts ks r) (sym z) (subst (λ w. SomeIndices (suc i) ts w r) (sym is) (some_indices {q = q} (subst (λ w. DenotersBefore i ts m w) c f)))

-- ---- index types

abbrev pub types_before : List TypeDenoter → Denoters → Denoters
types_before [] more = more
types_before (x ∷ xs) more = denoters (denoter_of x) (types_before xs more)

types_none : (xs : List TypeDenoter) → types_before xs no_denoters ≡ denoters_of xs
types_none [] = refl
types_none (x ∷ xs) = ap (denoters (denoter_of x)) (types_none xs)

types_push : (xs : List TypeDenoter) (x : TypeDenoter) (more : Denoters) → types_before (xs ++ (x ∷ [])) more ≡ types_before xs (denoters (denoter_of x) more)
types_push [] x more = refl
types_push (y ∷ xs) x more = ap (denoters (denoter_of y)) (types_push xs x more)

no_comma_closes : kind.Comma ≡ kind.CloseBracket → ⊥
no_comma_closes h = absurd cc

types_split : Splits SomeDenoter DenotersBefore mark.Comma mark.CloseBracket
types_split d x ls r (p, are_one_denoter {t = t} f) = ((t, None), r, (kind.CloseBracket at p ∷ r, (f, record { operator = refl; selector = refl; range = refl }), (p, refl)))
types_split d x ls r (p, are_denoters {t = t} {ts = ts} {p = q} {m = m} f g) = ((t, Some ts), r, (kind.Comma at q ∷ m, (f, record { operator = refl; selector = refl; range = refl }), (q, m, refl, (p, g))))

types_join : Joins SomeDenoter DenotersBefore mark.Comma mark.CloseBracket
types_join d (t, None) ls r (m, f, (p, e)) = (denoters t no_denoters, (p, are_one_denoter (subst (λ z. IsDenoter d t ls z) e f.0)))
types_join d (t, Some ts) ls r (m, f, (p, n, e, g)) = (denoters t ts, (g.0, are_denoters (subst (λ z. IsDenoter d t ls z) e f.0) g.1))

pub fits_denoter : Fits SomeDenoter StopsDenoter
fits_denoter d t ks r f = let s = front_denoter f.0 in (s.0, s.1, s.2, λ x c. (s.3 x, c))

-- the types that are read so far, and what is left
pub record Indexing (d : ℕ) (end : Place) (all : List Terminal) (xs : List TypeDenoter) (rest : List Terminal) : Type 0 where
  pub completes : (more : Denoters) (r : List Terminal) → DenotersBefore d more rest r → DenotersBefore d (types_before xs more) all r
  pub dies : (e : ParseError) → RefusesPart DenotersBefore d end rest e → RefusesPart DenotersBefore d end all e

pub indexing_item : (d : ℕ) (end : Place) (all rest : List Terminal) (xs : List TypeDenoter) (e : ParseError) → Indexing d end all xs rest → RefusesPart SomeDenoter d end rest e → RefusesPart DenotersBefore d end all e
indexing_item d end all rest xs e so_far h = so_far.dies e (list_item SomeDenoter DenotersBefore mark.Comma mark.CloseBracket d end rest e types_split (hands_item SomeDenoter DenotersBefore mark.Comma mark.CloseBracket StopsDenoter d rest types_join fits_denoter (λ p r. record { operator = refl; selector = refl; range = refl })) h)

pub indexing_close : (d : ℕ) (end : Place) (all rest m : List Terminal) (xs : List TypeDenoter) (x : TypeDenoter) (e : ParseError) → Indexing d end all xs rest → SomeDenoter d (denoter_of x) rest m → NoMark mark.Comma m → Refuses (Marked mark.CloseBracket) d end m e → RefusesPart DenotersBefore d end all e
indexing_close d end all rest m xs x e so_far f none h = so_far.dies e (list_close SomeDenoter DenotersBefore mark.Comma mark.CloseBracket d end (denoter_of x) rest m e types_split known_denoter f none (λ q x. absurd x) (refuses_part (flat_mark mark.CloseBracket h)))

pub indexing_more : (d : ℕ) (end : Place) (all rest m : List Terminal) (xs : List TypeDenoter) (x : TypeDenoter) (p : Position) (after : List Terminal) → Indexing d end all xs rest → SomeDenoter d (denoter_of x) rest m → m ≡ kind.Comma at p ∷ after → Indexing d end all (xs ++ (x ∷ [])) after
indexing_more d end all rest m xs x p after so_far f is =
    let g : SomeDenoter d (denoter_of x) rest (kind.Comma at p ∷ after) = subst (λ z. SomeDenoter d (denoter_of x) rest z) is f in
    record {
      completes = λ more r h. subst (λ z. DenotersBefore d z all r) (sym (types_push xs x more)) (so_far.completes _ r (h.0, are_denoters g.0 h.1));
      dies = λ e h. so_far.dies e (list_more SomeDenoter DenotersBefore mark.Comma mark.CloseBracket d end (denoter_of x) rest after p e types_split known_denoter no_comma_closes g (hands_more SomeDenoter DenotersBefore mark.Comma mark.CloseBracket d (denoter_of x) rest after p types_join known_denoter g) h);
    }

pub indexing_ends : (d : ℕ) (end : Place) (all rest m : List Terminal) (xs : List TypeDenoter) (x : TypeDenoter) (p : Position) (after : List Terminal) → Indexing d end all xs rest → SomeDenoter d (denoter_of x) rest m → m ≡ kind.CloseBracket at p ∷ after → DenotersBefore d (denoters_of (xs ++ (x ∷ []))) all after
indexing_ends d end all rest m xs x p after so_far f is =
    subst (λ z. DenotersBefore d z all after) (sym (types_push xs x no_denoters) ∙ types_none (xs ++ (x ∷ []))) (so_far.completes _ after (p, are_one_denoter (subst (λ z. SomeDenoter d (denoter_of x) rest z) is f).0))

-- ---- a form that begins as a type does

-- where a type is refused by rule 9, such a form is told
pub type_told : {D : Decision} {W : Shown} {d : ℕ} {end : Place} {ks : List Terminal} {feature : ℕ} {q : List Terminal} {e told : ParseError} → TypeForm feature ks q → Told feature end q e told → RefusesIn D W SomeBounded d end ks e → RefusesIn D W SomeBounded d end ks told
type_told {D = D} {W = W} {d = d} {end = end} {ks = ks} f (as_it_was x) h = subst (λ z. RefusesIn D W SomeBounded d end ks z) (sym x) h
type_told {ks = ks} {feature = feature} {q = q} {e = e} f (by_form is x) h = as_form e is (λ n y dead. left_out_type feature q ks n x f (λ d'. ([], refl, λ ls t r s p. (suc d', t, r, p))) (dead_type n dead)) h
  where
    dead_type : (n : List Terminal) → ((d' : ℕ) → Dead (SomeBounded d') ks n) → (i : ℕ) → Dead (SomeDenoter i) ks n
    dead_type n dead zero = let w = dead 0 in (w.0, w.1, λ ls t r s p. no_room t (w.0 ++ ls) r p.0)
    dead_type n dead (suc i) = dead i
