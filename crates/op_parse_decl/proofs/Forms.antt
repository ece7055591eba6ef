-- Forms that are left out, and what may not follow a type.
use Rattle.std.proofs.Common.{◌≡◌, ℕ, Bool, true, false, ◌||◌, ◌&&◌, List, [], ◌∷◌, Some, refl, sym, ap, ◌∙◌, subst}
use Rattle.op_base.specs.declared.place.Place.{Place}
use Rattle.op_parse_code.proofs.Names.{named_at}
use Rattle.op_parse_code.proofs.Refusing.{dead_here}
use Rattle.op_parse_decl.specs.Form.{Form, TypeForm, is_short_string, is_variant, is_record_method, is_value_in_type}
use Rattle.op_parse_code.specs.Opening.{is_identifier, spelled}
use Rattle.op_parse_code.specs.Refusal.{SameHead, syntax, refused_at, place_at, Told, as_it_was as told_as_was, by_form as told_by_form}
use Rattle.op_parse_decl.specs.Refusal.{RefusesHere, StandsAt, TellsForm, as_it_was, by_form}
use Rattle.op_parse_code.specs.Whole.{NoMark}
use Rattle.op_parse_code.specs.declared.error.ParseError.{ParseError}
use Rattle.op_parse_code.specs.declared.mark.Mark.TheVariants as mark
use Rattle.op_parse_decl.specs.Opening.{GivesAValue, IsFormOfRecord, IsProcedural, lists_names, is_comma, continues_type}
use Rattle.op_parse_decl.specs.Types.{NoMoreType}
use Rattle.op_scan.specs.declared.token.TokenKind.{TokenKind}
use Rattle.op_scan.specs.declared.token.TokenKind.TheVariants as kind
use Rattle.op_tree.proofs.ExpressionUnique.{true_false}
use Rattle.op_tree.specs.DenoterGrammar.{AreFieldLists}
use Rattle.op_tree.specs.Ends.{begins_selector, binds, is_dot_dot, StopsDenoter}
use Rattle.op_tree.specs.HeadingGrammar.{routine_kind_of}
use Rattle.op_tree.specs.NameGrammar.{IsName, are_one_name}
use Rattle.op_tree.specs.Terminal.{Terminal, ◌at◌, name}
use Rattle.op_tree.specs.declared.heading.RoutineKind.{RoutineKind}
use Rattle.op_tree.specs.declared.operator.Level.TheVariants.{Additive}
use Rattle.op_tree.specs.declared.position.Position.{Position}

pub short_string_form : (k : TokenKind) (p q : Position) (m r : List Terminal) → k ≡ kind.String → m ≡ kind.OpenBracket at q ∷ r → TypeForm 3 (k at p ∷ m) (k at p ∷ m)
short_string_form k p q m r h is = subst (λ z. TypeForm 3 (z at p ∷ m) (z at p ∷ m)) (sym h) (subst (λ z. TypeForm 3 (kind.String at p ∷ z) (kind.String at p ∷ z)) (sym is) is_short_string)

pub variant_form : (p : Position) (r : List Terminal) (k : TokenKind) → k ≡ kind.Case → IsFormOfRecord 9 (k at p ∷ r)
variant_form p r k h = (subst (λ (z : TokenKind). is_identifier z ≡ false) (sym h) refl, λ d fs q ks f. subst (λ z. Form 9 (kind.Record at q ∷ ks) (z at p ∷ r) (z at p ∷ r)) (sym h) (is_variant (subst (λ z. AreFieldLists d fs ks (z at p ∷ r)) h f)))

routine_no_name : (k : TokenKind) (sort : RoutineKind) → routine_kind_of k ≡ Some sort → is_identifier k ≡ false
routine_no_name (kind.Identifier text) sort h = absurd cc
routine_no_name other sort h = refl

pub method_form : (p : Position) (r : List Terminal) (k : TokenKind) (sort : RoutineKind) → routine_kind_of k ≡ Some sort → IsFormOfRecord 10 (k at p ∷ r)
method_form p r k sort h = (routine_no_name k sort h, λ d fs q ks f. is_record_method h f)

pub procedural_pair : (t : Terminal) (k : TokenKind) (p : Position) (ks m r : List Terminal) → ks ≡ t ∷ m → m ≡ k at p ∷ r → is_identifier k ≡ false → IsProcedural ks
procedural_pair t k p ks m r e e1 h = (t, k, p, r, e ∙ ap (λ z. t ∷ z) e1, λ text g. true_false (subst (λ (z : TokenKind). is_identifier z ≡ false) g h))

or_both : (a b : Bool) → a || b ≡ true → a ≡ false → b ≡ true
or_both true b h g = true_false g
or_both false b h g = h

both_ways : {A : Type 0} {b : Bool} → b ≡ true → b ≡ false → A
both_ways h g = true_false (sym h ∙ g)

or_neither : (a b : Bool) → a ≡ false → b ≡ false → a || b ≡ false
or_neither true b h g = h
or_neither false b h g = g

stops_not : (k : TokenKind) (p : Position) (r : List Terminal) → continues_type k ≡ true → StopsDenoter (k at p ∷ r) → ⊥
stops_not k p r h st = both_ways (or_both (binds Additive k || begins_selector k) (is_dot_dot k) h (or_neither (binds Additive k) (begins_selector k) st.operator st.selector)) st.range

pub type_goes_on : (d : ℕ) (end : Place) (k : TokenKind) (p : Position) (ks : List Terminal) (e : ParseError) → continues_type k ≡ true → e ≡ refused_at 9 0 end (k at p ∷ ks) → RefusesHere NoMoreType d end (k at p ∷ ks) e
type_goes_on d end k p ks e h x = syntax (k at p ∷ ks) x (λ d'. dead_here (NoMoreType d') (k at p ∷ ks) none)
  where
    none : (a : List Terminal) (ls r : List Terminal) → SameHead (k at p ∷ ks) ls → NoMoreType 0 a ls r → ⊥
    none a [] r s f = absurd s
    none a (u ∷ ls) r s f = stops_not k p ls h (subst (λ (z : Terminal). StopsDenoter (z ∷ ls)) (sym s) (subst StopsDenoter (sym f.0) f.1))

-- ---- an opening bracket, a name and a comma

pub lists_none : (ks : List Terminal) → NoMark mark.OpenParenthesis ks → lists_names ks ≡ false
lists_none [] h = refl
lists_none (t ∷ []) h = refl
lists_none (t ∷ u ∷ []) h = refl
lists_none (t ∷ u ∷ w ∷ ks) h = at_kind t.kind t.position h
  where
    at_kind : (k : TokenKind) (p : Position) → NoMark mark.OpenParenthesis (k at p ∷ u ∷ w ∷ ks) → lists_names (k at p ∷ u ∷ w ∷ ks) ≡ false
    at_kind kind.OpenParenthesis p h = absurd (h p _ refl)
    at_kind other p h = refl

and_false : (b : Bool) → b && false ≡ false
and_false true = refl
and_false false = refl

pub lists_no_name : (ks : List Terminal) (k : TokenKind) (p q : Position) (m r : List Terminal) → ks ≡ kind.OpenParenthesis at p ∷ m → m ≡ k at q ∷ r → is_identifier k ≡ false → lists_names ks ≡ false
lists_no_name ks k p q m r e e1 h = subst (λ (z : List Terminal). lists_names z ≡ false) (sym (e ∙ ap (λ z. kind.OpenParenthesis at p ∷ z) e1)) (at_rest r)
  where
    at_rest : (r : List Terminal) → lists_names (kind.OpenParenthesis at p ∷ k at q ∷ r) ≡ false
    at_rest [] = refl
    at_rest (w ∷ r) = ap (λ b. b && is_comma w.kind) h

pub lists_no_comma : (ks : List Terminal) (k : TokenKind) (p q : Position) (m r : List Terminal) → ks ≡ kind.OpenParenthesis at p ∷ m → m ≡ k at q ∷ r → NoMark mark.Comma r → lists_names ks ≡ false
lists_no_comma ks k p q m r e e1 h = subst (λ (z : List Terminal). lists_names z ≡ false) (sym (e ∙ ap (λ z. kind.OpenParenthesis at p ∷ z) e1)) (at_rest r h)
  where
    not_comma : (w : TokenKind) (u : Position) (r : List Terminal) → NoMark mark.Comma (w at u ∷ r) → is_comma w ≡ false
    not_comma kind.Comma u r h = absurd (h u r refl)
    not_comma other u r h = refl

    at_rest : (r : List Terminal) → NoMark mark.Comma r → lists_names (kind.OpenParenthesis at p ∷ k at q ∷ r) ≡ false
    at_rest [] h = refl
    at_rest (w ∷ r) h = ap (λ b. is_identifier k && b) (not_comma w.kind w.position r h) ∙ and_false (is_identifier k)

pub lists_some : (ks : List Terminal) (k : TokenKind) (p q u : Position) (m r z : List Terminal) → ks ≡ kind.OpenParenthesis at p ∷ m → m ≡ k at q ∷ r → is_identifier k ≡ true → r ≡ kind.Comma at u ∷ z → lists_names ks ≡ true
lists_some ks k p q u m r z e e1 h e2 = subst (λ (z : List Terminal). lists_names z ≡ true) (sym (e ∙ ap (λ z. kind.OpenParenthesis at p ∷ z) (e1 ∙ ap (λ z. k at q ∷ z) e2))) (ap (λ b. b && true) h)

pub given_form : (ks : List Terminal) (k : TokenKind) (p q : Position) (m r : List Terminal) → ks ≡ kind.OpenParenthesis at p ∷ m → m ≡ k at q ∷ r → is_identifier k ≡ true → GivesAValue r → TypeForm 31 ks r
given_form ks k p q m r e e1 h (k', u, z, is, g) = subst (λ z. TypeForm 31 z r) (sym (e ∙ ap (λ z. kind.OpenParenthesis at p ∷ z) e1)) (subst (λ w. TypeForm 31 (kind.OpenParenthesis at p ∷ k at q ∷ r) w) (sym is) (is_value_in_type g (subst (λ w. IsName (name (spelled k) q) (k at q ∷ r) w) is (named_at k q r h))))

-- a form that is told where the refusal stands there
pub told_there : {feature : ℕ} {end : Place} {q m : List Terminal} {e told : ParseError} → Told feature end q e told → StandsAt e (place_at end m) → TellsForm feature end q m e told
told_there (told_as_was x) there = as_it_was x
told_there (told_by_form is x) there = by_form is there x
