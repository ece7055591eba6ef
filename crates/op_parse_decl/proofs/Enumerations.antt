-- Refusals of enumerations of several values.
use Rattle.std.proofs.Common.{◌≡◌, ℕ, suc, Bool, true, false, List, [], ◌∷◌, ◌++◌, append_assoc, refl, sym, ap, ◌∙◌, subst, arith}
use Rattle.op_base.specs.declared.place.Place.{Place}
use Rattle.op_parse_code.proofs.Cuts.{cut_seen, same_behind}
use Rattle.op_parse_code.proofs.ExpressionKnown.{known_mark}
use Rattle.op_parse_code.proofs.Living.{alive_here}
use Rattle.op_parse_code.proofs.Refusing.{Seq, dead_here, no_mark_refuses, with_token_in_grammar, with_front_in_grammar, head_same, refuses_first_by, refuses_after_by}
use Rattle.op_parse_code.specs.Refusal.{Phrase, SameHead, Dead, Refuses, out_of_memory, syntax, nested, in_grammar, decides_there, refused_at, Alive}
use Rattle.op_parse_code.specs.Whole.{Marked, NoMark}
use Rattle.op_parse_code.specs.declared.error.ParseError.{ParseError}
use Rattle.op_parse_code.specs.declared.mark.Mark.TheVariants as mark
use Rattle.op_parse_decl.proofs.Bounds.{no_list}
use Rattle.op_parse_decl.proofs.Refusals.{flat_mark, form_told}
use Rattle.op_parse_decl.specs.Form.{Form, GivesValue, HasForm, gives_by_assign, gives_by_equal, is_given_value}
use Rattle.op_parse_decl.specs.Known.{no_mark_by}
use Rattle.op_parse_decl.specs.KnownTypes.{known_names}
use Rattle.op_parse_decl.specs.Opening.{GivesAValue, lists_names}
use Rattle.op_parse_decl.specs.Refusal.{RefusesHere, Never, RefusesPart, by_grammar, decides_in_code}
use Rattle.op_parse_decl.specs.Types.{SomeNames, SomeBounded, NoMoreType}
use Rattle.op_scan.specs.declared.token.TokenKind.{TokenKind}
use Rattle.op_scan.specs.declared.token.TokenKind.TheVariants as kind
use Rattle.op_tree.proofs.DenoterUnique.{structure_begins, qualified_begins}
use Rattle.op_tree.proofs.ExpressionUnique.{behind, false_true, is_comma}
use Rattle.op_tree.proofs.StatementUnique.{differ}
use Rattle.op_tree.specs.Denoter.{Denoter, enumeration}
use Rattle.op_tree.specs.DenoterGrammar.{is_named, is_subrange, is_enumeration, is_unpacked}
use Rattle.op_tree.specs.Ends.{StopsDenoter}
use Rattle.op_tree.specs.Expression.{Expression}
use Rattle.op_tree.specs.ExpressionGrammar.{IsChain, is_chain, IsOperand, is_simple, is_term, is_factor, is_prefixed, is_designated, is_designator, is_bracketed}
use Rattle.op_tree.specs.NameGrammar.{AreNames, are_one_name, are_names, is_name, are_bracketed_names}
use Rattle.op_tree.specs.Terminal.{Terminal, ◌at◌, name}
use Rattle.op_tree.specs.declared.operator.Level.{Level}
use Rattle.op_tree.specs.declared.operator.Level.TheVariants.{Additive}
use Rattle.op_tree.specs.declared.position.Name.{Name}
use Rattle.op_tree.specs.declared.position.Position.{Position}

-- an opening bracket, a name and a comma
record Listing (ks : List Terminal) : Type 0 where
  open_at : Position
  text : List ℕ
  name_at : Position
  comma_at : Position
  after : List Terminal
  is : ks ≡ kind.OpenParenthesis at open_at ∷ kind.Identifier text at name_at ∷ kind.Comma at comma_at ∷ after

listing : (ks : List Terminal) → lists_names ks ≡ true → Listing ks
listing [] h = absurd cc
listing (t ∷ []) h = absurd cc
listing (t ∷ u ∷ []) h = absurd cc
listing (t ∷ u ∷ w ∷ ks) h = at_kinds t.kind u.kind w.kind t.position u.position w.position h
  where
    at_kinds : (a b c : TokenKind) (p q s : Position) → lists_names (a at p ∷ b at q ∷ c at s ∷ ks) ≡ true → Listing (a at p ∷ b at q ∷ c at s ∷ ks)
    at_kinds kind.OpenParenthesis (kind.Identifier text) kind.Comma p q s h = record { open_at = p; text = text; name_at = q; comma_at = s; after = ks; is = refl }
    at_kinds kind.OpenParenthesis (kind.Identifier text) other p q s h = absurd cc
    at_kinds kind.OpenParenthesis other c p q s h = absurd cc
    at_kinds other b c p q s h = absurd cc

mutual
  bracket_depth : {l : Level} {d : ℕ} {e : Expression} {p : Position} {ks r : List Terminal} → IsChain l d e (kind.OpenParenthesis at p ∷ ks) r → (i : ℕ) × (d ≡ suc i)
  bracket_depth (is_chain a os q) = operand_depth a

  operand_depth : {l : Level} {d : ℕ} {e : Expression} {p : Position} {ks r : List Terminal} → IsOperand l d e (kind.OpenParenthesis at p ∷ ks) r → (i : ℕ) × (d ≡ suc i)
  operand_depth (is_simple f) = bracket_depth f
  operand_depth (is_term f) = bracket_depth f
  operand_depth (is_factor (is_prefixed h f)) = absurd cc
  operand_depth (is_factor (is_designated (is_designator (is_bracketed {d = i} f) ss))) = (i, refl)

-- a type behind an opening bracket is an enumeration, or begins with an expression in brackets
data Bracketed (d : ℕ) (t : Denoter) (p : Position) (ks r : List Terminal) : Type 0 where
  lists : (i : ℕ) (ns : List Name) (q : Position) → d ≡ suc i → t ≡ enumeration p ns → AreNames ns ks (kind.CloseParenthesis at q ∷ r) → StopsDenoter r → Bracketed d t p ks r
  encloses : (a : Expression) (m : List Terminal) → IsChain Additive d a (kind.OpenParenthesis at p ∷ ks) m → Bracketed d t p ks r

bracketed : (d : ℕ) (t : Denoter) (p : Position) (ks r : List Terminal) → SomeBounded d t (kind.OpenParenthesis at p ∷ ks) r → Bracketed d t p ks r
bracketed d t p ks r (is_named q, st) = false_true (qualified_begins q)
bracketed d t p ks r (is_subrange {first = a} {p = q} {m = m} f g, st) = encloses a (kind.DotDot at q ∷ m) f
bracketed d t p ks r (is_enumeration (are_bracketed_names {d = i} {ns = ns} {q = q} f), st) = lists i ns q refl refl f st
bracketed d t p ks r (is_unpacked s, st) = false_true (structure_begins s)

no_depth : (t : Denoter) (p : Position) (ks r : List Terminal) → SomeBounded 0 t (kind.OpenParenthesis at p ∷ ks) r → ⊥
no_depth t p ks r f = none (bracketed 0 t p ks r f)
  where
    no_zero : {i : ℕ} → 0 ≡ suc i → ⊥
    no_zero h = absurd (omega (arith, h))

    none : Bracketed 0 t p ks r → ⊥
    none (lists i ns q z e g st) = no_zero z
    none (encloses a m g) = no_zero (bracket_depth g).1

pub enumeration_too_deep : (d : ℕ) (end : Place) (ks : List Terminal) (e : ParseError) → lists_names ks ≡ true → d ≡ 0 → e ≡ refused_at 61 0 end ks → RefusesPart SomeBounded d end ks e
enumeration_too_deep d end ks e h z x = subst (λ (w : ℕ). RefusesPart SomeBounded w end ks e) (sym z) (by_grammar (nested ks ks ks x (decides_in_code decides_there) (dead_here (SomeBounded 0) ks none) decides_there (subst (λ y. Alive SomeBounded 0 y y) (sym form.is) lives)))
  where
    form : Listing ks
    form = listing ks h

    lives : Alive SomeBounded 0 (kind.OpenParenthesis at form.open_at ∷ kind.Identifier form.text at form.name_at ∷ kind.Comma at form.comma_at ∷ form.after) (kind.OpenParenthesis at form.open_at ∷ kind.Identifier form.text at form.name_at ∷ kind.Comma at form.comma_at ∷ form.after)
    lives = alive_here SomeBounded 0 1 (kind.OpenParenthesis at form.open_at) (kind.Identifier form.text at form.name_at ∷ kind.Comma at form.comma_at ∷ form.after) (kind.Identifier [] at form.open_at ∷ kind.CloseParenthesis at form.open_at ∷ []) [] (enumeration form.open_at (name [] form.open_at ∷ [])) (omega arith) (is_enumeration (are_bracketed_names (are_one_name is_name)), record { operator = tt; selector = tt; range = tt })

    none : (t : Denoter) (ls r : List Terminal) → SameHead ks ls → SomeBounded 0 t ls r → ⊥
    none t [] r s f = absurd (subst (λ z. SameHead z []) form.is s)
    none t (u ∷ ls) r s f = no_depth t form.open_at ls r (subst (λ (z : Terminal). SomeBounded 0 t (z ∷ ls) r) (sym (subst (λ z. SameHead z (u ∷ ls)) form.is s)) f)

-- ---- the names

dead_names : (d : ℕ) (p : Position) (rest q : List Terminal) → lists_names (kind.OpenParenthesis at p ∷ rest) ≡ true → Dead (SomeNames d) rest q → Dead (SomeBounded d) (kind.OpenParenthesis at p ∷ rest) q
dead_names d p rest q h (seen, e, never) = (kind.OpenParenthesis at p ∷ seen, ap (λ z. kind.OpenParenthesis at p ∷ z) e, λ ls t r s f. none ls r s (bracketed d t p (seen ++ ls) r f))
  where
    form : Listing (kind.OpenParenthesis at p ∷ rest)
    form = listing (kind.OpenParenthesis at p ∷ rest) h

    inside : seen ++ q ≡ kind.Identifier form.text at form.name_at ∷ kind.Comma at form.comma_at ∷ form.after
    inside = sym e ∙ ap behind form.is

    a_name : Terminal
    a_name = kind.Identifier form.text at form.name_at

    one : (d : ℕ) → SomeNames d (name form.text form.name_at ∷ []) (a_name ∷ []) []
    one d = (are_one_name is_name, λ u z g. nothing g)
      where
        nothing : {u : Terminal} {z : List Terminal} → [] ≡ u ∷ z → ⊥
        nothing g = absurd cc

    none : (ls r : List Terminal) → SameHead q ls → {t : Denoter} → Bracketed d t p (seen ++ ls) r → ⊥
    none ls r s (lists i ns u z g f st) = never ls ns (kind.CloseParenthesis at u ∷ r) s (f, λ v y k. differ is_comma (sym k) refl refl)
    none ls r s (encloses a m g) = by_seen seen q ls never s inside g
      where
        by_seen : (seen q ls : List Terminal) → ((xs : List Terminal) (ns : List Name) (r : List Terminal) → SameHead q xs → SomeNames d ns (seen ++ xs) r → ⊥) → SameHead q ls → seen ++ q ≡ a_name ∷ kind.Comma at form.comma_at ∷ form.after → IsChain Additive d a (kind.OpenParenthesis at p ∷ (seen ++ ls)) m → ⊥
        by_seen [] q ls never s is g = never (a_name ∷ []) _ [] (subst (λ z. SameHead z (a_name ∷ [])) (sym is) refl) (one d)
        by_seen (x ∷ []) q ls never s is g = never (kind.Comma at form.comma_at ∷ a_name ∷ []) _ [] (subst (λ z. SameHead z (kind.Comma at form.comma_at ∷ a_name ∷ [])) (sym (ap behind is)) refl) (subst (λ (z : Terminal). SomeNames d (name form.text form.name_at ∷ name form.text form.name_at ∷ []) (z ∷ kind.Comma at form.comma_at ∷ a_name ∷ []) []) (sym (head_same is)) (are_names is_name (one d).0, (one d).1))
        by_seen (x ∷ y ∷ seen) q ls never s is g = no_list form.text p form.name_at form.comma_at (seen ++ ls) (kind.OpenParenthesis at p ∷ x ∷ y ∷ (seen ++ ls)) m g (ap (λ z. kind.OpenParenthesis at p ∷ z ∷ y ∷ (seen ++ ls)) (head_same is) ∙ ap (λ z. kind.OpenParenthesis at p ∷ a_name ∷ z ∷ (seen ++ ls)) (head_same (ap behind is)))

in_brackets : (d : ℕ) (end : Place) (p : Position) (rest : List Terminal) (e : ParseError) → lists_names (kind.OpenParenthesis at p ∷ rest) ≡ true → RefusesHere SomeNames d end rest e → RefusesPart SomeBounded d end (kind.OpenParenthesis at p ∷ rest) e
in_brackets d end p rest e h (out_of_memory x) = by_grammar (out_of_memory x)
in_brackets d end p rest e h (syntax q x never) = by_grammar (syntax q x (λ d'. dead_names d' p rest q h (never d')))
in_brackets d end p rest e h (nested q z n x w never v t) = absurd t
in_brackets d end p rest e h (in_grammar feature q x f) = by_grammar (in_grammar feature q x (with_token_in_grammar (kind.OpenParenthesis at p) f))

open_kind : (k : TokenKind) (p : Position) (rest : List Terminal) → lists_names (k at p ∷ rest) ≡ true → k at p ∷ rest ≡ kind.OpenParenthesis at p ∷ rest
open_kind k p rest h = let f = listing (k at p ∷ rest) h in ap (λ z. z at p ∷ rest) (ap (λ z. z.kind) (head_same f.is))

pub enumeration_names : (d : ℕ) (end : Place) (k : TokenKind) (p : Position) (rest : List Terminal) (e : ParseError) → lists_names (k at p ∷ rest) ≡ true → RefusesHere SomeNames d end rest e → RefusesPart SomeBounded d end (k at p ∷ rest) e
enumeration_names d end k p rest e h f =
    let is = open_kind k p rest h in
    subst (λ z. RefusesPart SomeBounded d end z e) (sym is) (in_brackets d end p rest e (subst (λ (z : List Terminal). lists_names z ≡ true) is h) f)

pub enumeration_whole : (d i : ℕ) (k : TokenKind) (p q : Position) (ns : List Name) (rest m r : List Terminal) → lists_names (k at p ∷ rest) ≡ true → d ≡ suc i → SomeNames d ns rest m → m ≡ kind.CloseParenthesis at q ∷ r → StopsDenoter r → SomeBounded d (enumeration p ns) (k at p ∷ rest) r
enumeration_whole d i k p q ns rest m r h z f c st = subst (λ w. SomeBounded d (enumeration p ns) w r) (sym (open_kind k p rest h)) (subst (λ (w : ℕ). SomeBounded w (enumeration p ns) (kind.OpenParenthesis at p ∷ rest) r) (sym z) (is_enumeration (are_bracketed_names (subst (λ w. AreNames ns rest w) c f.0)), st))

-- ---- behind the names

-- the bracket that closes them, and the end of the type
abbrev Close : Phrase (Position × List Terminal)
Close = Seq (Marked mark.CloseParenthesis) NoMoreType

dead_close : (d d' : ℕ) (p : Position) (ns : List Name) (rest m q : List Terminal) → lists_names (kind.OpenParenthesis at p ∷ rest) ≡ true → SomeNames d ns rest m → Dead (Close d') m q → Dead (SomeBounded d') (kind.OpenParenthesis at p ∷ rest) q
dead_close d d' p ns rest m q h f (seen, e, never) =
    let w = known_names.front d ns rest m f in
    let s = cut_seen w.1 in (
      kind.OpenParenthesis at p ∷ (s.0 ++ seen),
      ap (λ z. kind.OpenParenthesis at p ∷ z) (w.2 ∙ s.1 m ∙ ap (λ z. s.0 ++ z) e ∙ sym (append_assoc s.0 seen q)),
      λ ls t r g x.
          let whole : SomeNames d ns (s.0 ++ (seen ++ ls)) (seen ++ ls) = subst (λ z. SomeNames d ns z (seen ++ ls)) (s.1 (seen ++ ls)) (w.3 (seen ++ ls) (subst (λ z. SameHead z (seen ++ ls)) (sym e) (same_behind seen q ls g))) in
          none ls t r (s.0 ++ (seen ++ ls)) g whole (subst (λ z. Bracketed d' t p z r) (append_assoc s.0 seen ls) (bracketed d' t p ((s.0 ++ seen) ++ ls) r x)),
    )
  where
    no_names : {r z : List Terminal} → AreNames [] r z → ⊥
    no_names g = elim g [ ]

    several : {ns : List Name} {rest m : List Terminal} → lists_names (kind.OpenParenthesis at p ∷ rest) ≡ true → AreNames ns rest m → NoMark mark.Comma m → (n n' : Name) × (more : List Name) × (ns ≡ n ∷ n' ∷ more)
    several {rest = rest} h (are_one_name is_name) none = let i = listing (kind.OpenParenthesis at p ∷ rest) h in absurd (none i.comma_at i.after (ap behind (ap behind i.is)))
    several h (are_names {n = n} a (are_one_name {n = n'} b)) none = (n, n', [], refl)
    several h (are_names {n = n} a (are_names {n = n'} {ns = more} b g)) none = (n, n', more, refl)

    is_list : {n n' : Name} {more : List Name} {ks z : List Terminal} → AreNames (n ∷ n' ∷ more) ks z → (text : List ℕ) × (u v : Position) × (y : List Terminal) × (ks ≡ kind.Identifier text at u ∷ kind.Comma at v ∷ y)
    is_list (are_names {p = v} {m = y} (is_name {text = text} {p = u}) g) = (text, u, v, y, refl)

    none : (ls : List Terminal) (t : Denoter) (r front : List Terminal) → SameHead q ls → SomeNames d ns front (seen ++ ls) → Bracketed d' t p front r → ⊥
    none ls t r front g whole (lists i ns' u z k b st) = never ls (u, []) r g (r, (known_names.same d d ns ns' front (seen ++ ls) (kind.CloseParenthesis at u ∷ r) whole (b, λ v y k. differ is_comma (sym k) refl refl)), (refl, st))
    none ls t r front g whole (encloses a z b) =
        let n = several h f.0 f.1 in
        let l = is_list (subst (λ x. AreNames x front (seen ++ ls)) n.3 whole.0) in
        no_list l.0 p l.1 l.2 l.3 (kind.OpenParenthesis at p ∷ front) z b (ap (λ x. kind.OpenParenthesis at p ∷ x) l.4)

in_list : (d : ℕ) (end : Place) (p : Position) (ns : List Name) (rest m : List Terminal) (e : ParseError) → lists_names (kind.OpenParenthesis at p ∷ rest) ≡ true → SomeNames d ns rest m → RefusesHere Close d end m e → RefusesPart SomeBounded d end (kind.OpenParenthesis at p ∷ rest) e
in_list d end p ns rest m e h f (out_of_memory x) = by_grammar (out_of_memory x)
in_list d end p ns rest m e h f (syntax q x never) = by_grammar (syntax q x (λ d'. dead_close d d' p ns rest m q h f (never d')))
in_list d end p ns rest m e h f (nested q z n x w never v t) = absurd t
in_list d end p ns rest m e h f (in_grammar feature q x g) =
    let w = known_names.front d ns rest m f in
    let s = cut_seen w.1 in
    by_grammar (in_grammar feature q x (with_token_in_grammar (kind.OpenParenthesis at p) (with_front_in_grammar s.0 (w.2 ∙ s.1 m) g)))

behind_names : (d : ℕ) (end : Place) (k : TokenKind) (p : Position) (ns : List Name) (rest m : List Terminal) (e : ParseError) → lists_names (k at p ∷ rest) ≡ true → SomeNames d ns rest m → RefusesHere Close d end m e → RefusesPart SomeBounded d end (k at p ∷ rest) e
behind_names d end k p ns rest m e h f g =
    let is = open_kind k p rest h in
    subst (λ z. RefusesPart SomeBounded d end z e) (sym is) (in_list d end p ns rest m e (subst (λ (z : List Terminal). lists_names z ≡ true) is h) f g)

pub enumeration_open : (d : ℕ) (end : Place) (k : TokenKind) (p : Position) (ns : List Name) (rest m : List Terminal) (e : ParseError) → lists_names (k at p ∷ rest) ≡ true → SomeNames d ns rest m → Refuses (Marked mark.CloseParenthesis) d end m e → RefusesPart SomeBounded d end (k at p ∷ rest) e
enumeration_open d end k p ns rest m e h f g = behind_names d end k p ns rest m e h f (refuses_first_by {W = Never} (Marked mark.CloseParenthesis) NoMoreType d end m e (λ q x. absurd x) (flat_mark mark.CloseParenthesis g))

pub enumeration_goes_on : (d : ℕ) (end : Place) (k : TokenKind) (p q : Position) (ns : List Name) (rest m r : List Terminal) (e : ParseError) → lists_names (k at p ∷ rest) ≡ true → SomeNames d ns rest m → m ≡ kind.CloseParenthesis at q ∷ r → RefusesHere NoMoreType d end r e → RefusesPart SomeBounded d end (k at p ∷ rest) e
enumeration_goes_on d end k p q ns rest m r e h f is g = behind_names d end k p ns rest m e h f (refuses_after_by {W = Never} (Marked mark.CloseParenthesis) NoMoreType d end q m r e (known_mark mark.CloseParenthesis) is (λ q x. absurd x) g)

-- ---- a value with a number

abbrev is_close : TokenKind → Bool
is_close kind.CloseParenthesis = true
is_close other = false

gives_no_close : {k : TokenKind} → GivesValue k → is_close k ≡ false
gives_no_close gives_by_equal = refl
gives_no_close gives_by_assign = refl

pub enumeration_form : (d : ℕ) (end : Place) (k : TokenKind) (p : Position) (ns : List Name) (rest m : List Terminal) (e : ParseError) → lists_names (k at p ∷ rest) ≡ true → SomeNames d ns rest m → GivesAValue m → e ≡ refused_at 13 31 end m → RefusesPart SomeBounded d end (k at p ∷ rest) e
enumeration_form d end k p ns rest m e h f (k', q, r, is, g) x = form_told (refused_at 9 0 end m) refl refl form x (enumeration_open d end k p ns rest m (refused_at 9 0 end m) h f (no_mark_refuses mark.CloseParenthesis d end m (refused_at 9 0 end m) none refl))
  where
    none : NoMark mark.CloseParenthesis m
    none = subst (NoMark mark.CloseParenthesis) (sym is) (no_mark_by mark.CloseParenthesis is_close refl (gives_no_close g))

    form : HasForm 31 (k at p ∷ rest) m m
    form = ([], k at p ∷ rest, refl, subst (λ z. Form 31 z m m) (sym (open_kind k p rest h)) (subst (λ z. Form 31 (kind.OpenParenthesis at p ∷ rest) z z) (sym is) (is_given_value g (subst (λ z. AreNames ns rest z) is f.0))))
