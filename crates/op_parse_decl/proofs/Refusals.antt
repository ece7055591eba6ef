-- Refusals of parts of a file are refusals of what they are parts of.
use Rattle.std.proofs.Common.{◌≡◌, ℕ, suc, List, [], ◌∷◌, ◌++◌, append_assoc, arith, refl, sym, ap, ◌∙◌, subst}
use Rattle.op_base.specs.declared.place.Place.{Place}
use Rattle.op_parse_code.proofs.Cuts.{cut_seen, same_refl}
use Rattle.op_parse_code.proofs.Lists.{Splits, SplitsOpen, Tail, Open, open_behind, tail_close, tail_more}
use Rattle.op_parse_code.proofs.Parts.{dead_none}
use Rattle.op_parse_code.proofs.Refusing.{Some_, Seq, Known, Shows, suc_same, refuses_map_by, refuses_first_by, refuses_after_by, refuses_behind_by, refuses_inside_by, refuses_deeper_by, leads_token, leads_map, leads_inside, leads_deeper, leads_after}
use Rattle.op_parse_code.specs.Opening.{kind_of}
use Rattle.op_parse_code.specs.Refusal.{Phrase, SameHead, Dead, Shown, Decision, Decides, RefusesBy, Refuses, Alive, out_of_memory, syntax, nested, in_grammar, IsSyntax, refused_at, place_at}
use Rattle.op_parse_code.specs.Whole.{Marked, NoMark, SomeName}
use Rattle.op_parse_code.specs.declared.error.ParseError.{ParseError}
use Rattle.op_parse_code.specs.declared.mark.Mark.{Mark}
use Rattle.op_parse_decl.specs.Form.{HasForm}
use Rattle.op_parse_decl.specs.Refusal.{Never, HasType, RefusesHere, RefusesIn, by_grammar, left_out, left_out_type, DecidesInPart, decides_in_code, RefusesParts, StandsAt, TellsForm, as_it_was, by_form}
use Rattle.op_tree.specs.NameGrammar.{is_name}
use Rattle.op_tree.specs.Terminal.{Terminal, ◌at◌}
use Rattle.op_tree.specs.declared.position.Position.{Position}

-- ---- forms, with tokens in front

pub with_token : (t : Terminal) {feature : ℕ} {ks q m : List Terminal} → HasForm feature ks q m → HasForm feature (t ∷ ks) q m
with_token t (seen, form, e, f) = (t ∷ seen, form, ap (λ z. t ∷ z) e, f)

pub with_front : (front : List Terminal) {feature : ℕ} {ks l q m : List Terminal} → ks ≡ front ++ l → HasForm feature l q m → HasForm feature ks q m
with_front front e (seen, form, e1, f) = (front ++ seen, form, e ∙ ap (λ z. front ++ z) e1 ∙ sym (append_assoc front seen form), f)

-- ---- refusals

pub refuses_map : {A B : Type 0} {D : Decision} {W V : Shown} (P : Phrase A) (Q : Phrase B) (d : ℕ) (end : Place) (ks : List Terminal) (e : ParseError) → ((d' : ℕ) (b : B) (ls r : List Terminal) → SameHead ks ls → Q d' b ls r → Some_ P d' ls) → Shows W d ks V d ks → RefusesIn D W P d end ks e → RefusesIn D V Q d end ks e
refuses_map P Q d end ks e h k (by_grammar x) = by_grammar (refuses_map_by P Q d end ks e h k x)
refuses_map P Q d end ks e h k (left_out feature q m n x f s never) = left_out feature q m n x f s (λ d'. leads_map (P d') (Q d') (λ ls. ⊥) ks n (h d') (never d'))
refuses_map P Q d end ks e h k (left_out_type feature q form m x f wants never) = left_out_type feature q form m x f (λ d'. leads_map (P d') (Q d') HasType ks form (h d') (wants d')) never

pub refuses_first : {A B : Type 0} {D : Decision} {W V : Shown} (P : Phrase A) (Q : Phrase B) (d : ℕ) (end : Place) (ks : List Terminal) (e : ParseError) → Shows W d ks V d ks → RefusesIn D W P d end ks e → RefusesIn D V (Seq P Q) d end ks e
refuses_first P Q d end ks e k h = refuses_map P (Seq P Q) d end ks e (λ d' b ls r s x. (b.0, x.0, x.1)) k h

pub refuses_after : {A B : Type 0} {D : Decision} {W V : Shown} (P : Phrase A) (Q : Phrase B) (d : ℕ) (end : Place) (a : A) (ks m : List Terminal) (e : ParseError) → Known P → P d a ks m → Shows W d m V d ks → RefusesIn D W Q d end m e → RefusesIn D V (Seq P Q) d end ks e
refuses_after P Q d end a ks m e known p k (by_grammar x) = by_grammar (refuses_after_by P Q d end a ks m e known p k x)
refuses_after P Q d end a ks m e known p k (left_out feature q l n x f h never) =
    let w = known.front d a ks m p in
    let s = cut_seen w.1 in
    left_out feature q l n x (with_front s.0 (w.2 ∙ s.1 m) f) h (λ d'. leads_after P Q (λ ls. ⊥) d d' a ks m n known p (never d'))
refuses_after P Q d end a ks m e known p k (left_out_type feature q form n x f wants never) = left_out_type feature q form n x f (λ d'. leads_after P Q HasType d d' a ks m form known p (wants d')) never

pub refuses_behind : {A B : Type 0} {D : Decision} {W V : Shown} (P : Phrase A) (Q : Phrase B) (d : ℕ) (end : Place) (t : Terminal) (ks : List Terminal) (e : ParseError) → ((d' : ℕ) (b : B) (ls r : List Terminal) → Q d' b (t ∷ ls) r → Some_ P d' ls) → Shows W d ks V d (t ∷ ks) → RefusesIn D W P d end ks e → RefusesIn D V Q d end (t ∷ ks) e
refuses_behind P Q d end t ks e h k (by_grammar x) = by_grammar (refuses_behind_by P Q d end t ks e h k x)
refuses_behind P Q d end t ks e h k (left_out feature q m n x f s never) = left_out feature q m n x (with_token t f) s (λ d'. leads_token (P d') (Q d') (λ ls. ⊥) t ks n (h d') (never d'))
refuses_behind P Q d end t ks e h k (left_out_type feature q form m x f wants never) = left_out_type feature q form m x f (λ d'. leads_token (P d') (Q d') HasType t ks form (h d') (wants d')) never

pub refuses_inside : {A B : Type 0} {D : Decision} {W V : Shown} (P : Phrase A) (Q : Phrase B) (d : ℕ) (end : Place) (t : Terminal) (ks : List Terminal) (e : ParseError) → ((d' : ℕ) (b : B) (ls r : List Terminal) → Q d' b (t ∷ ls) r → (i : ℕ) × (d' ≡ suc i) × Some_ P i ls) → Shows W d ks V (suc d) (t ∷ ks) → RefusesIn D W P d end ks e → RefusesIn D V Q (suc d) end (t ∷ ks) e
refuses_inside P Q d end t ks e h k (by_grammar x) = by_grammar (refuses_inside_by P Q d end t ks e h k x)
refuses_inside P Q d end t ks e h k (left_out feature q m n x f s never) = left_out feature q m n x (with_token t f) s (λ d'. leads_inside P Q (λ ls. ⊥) d' t ks n (h d') never)
refuses_inside P Q d end t ks e h k (left_out_type feature q form m x f wants never) = left_out_type feature q form m x f (λ d'. leads_inside P Q HasType d' t ks form (h d') wants) never

pub refuses_deeper : {A B : Type 0} {D : Decision} {W V : Shown} (P : Phrase A) (Q : Phrase B) (d : ℕ) (end : Place) (ks : List Terminal) (e : ParseError) → ((d' : ℕ) (b : B) (ls r : List Terminal) → SameHead ks ls → Q d' b ls r → (i : ℕ) × (d' ≡ suc i) × Some_ P i ls) → Shows W d ks V (suc d) ks → RefusesIn D W P d end ks e → RefusesIn D V Q (suc d) end ks e
refuses_deeper P Q d end ks e h k (by_grammar x) = by_grammar (refuses_deeper_by P Q d end ks e h k x)
refuses_deeper P Q d end ks e h k (left_out feature q m n x f s never) = left_out feature q m n x f s (λ d'. leads_deeper P Q (λ ls. ⊥) d' ks n (h d') never)
refuses_deeper P Q d end ks e h k (left_out_type feature q form m x f wants never) = left_out_type feature q form m x f (λ d'. leads_deeper P Q HasType d' ks form (h d') wants) never

-- ---- what statements and expressions refuse

pub as_value : {A : Type 0} {W : Shown} {P : Phrase A} {d : ℕ} {end : Place} {ks : List Terminal} {e : ParseError} → RefusesBy Decides W P d end ks e → RefusesBy DecidesInPart W P d end ks e
as_value (out_of_memory x) = out_of_memory x
as_value (syntax q x never) = syntax q x never
as_value (nested q m n x w never v t) = nested q m n x (decides_in_code w) never v t
as_value (in_grammar feature q x f) = in_grammar feature q x f

pub refuses_part : {A : Type 0} {W : Shown} {P : Phrase A} {d : ℕ} {end : Place} {ks : List Terminal} {e : ParseError} → RefusesBy Decides W P d end ks e → RefusesParts W P d end ks e
refuses_part x = by_grammar (as_value x)

-- ---- parts of one token are never nested too deep

-- With such a first token a part stands, at any depth, whatever stands behind it.
abbrev pub IsOneToken : {A : Type 0} → Phrase A → Type 0
IsOneToken {A} P = (d d' : ℕ) (a : A) (t : Terminal) (ls r ks : List Terminal) → P d a (t ∷ ls) r → Some_ P d' (t ∷ ks)

stands_alive : {A : Type 0} (P : Phrase A) → IsOneToken P → (d : ℕ) (ks q : List Terminal) → Alive P d ks q → Some_ P d ks
stands_alive {A} P one d ks q x = subst (Some_ P d) (sym (x.from ∙ ap (λ z. x.seen ++ z) x.to)) (by_seen x.seen (x.others ++ x.behind) x.stands)
  where
    by_seen : (seen ls : List Terminal) → P x.depth x.part (seen ++ (x.first ∷ ls)) x.behind → Some_ P d (seen ++ (x.first ∷ x.rest))
    by_seen [] ls p = one x.depth d x.part x.first ls x.behind x.rest p
    by_seen (t ∷ seen) ls p = one x.depth d x.part t (seen ++ (x.first ∷ ls)) x.behind (seen ++ (x.first ∷ x.rest)) p

never_nested : {A : Type 0} {D : Decision} {d : ℕ} {end : Place} {ks : List Terminal} {e : ParseError} (P : Phrase A) → IsOneToken P → RefusesBy D (Alive P) P d end ks e → RefusesBy D Never P d end ks e
never_nested P one (out_of_memory x) = out_of_memory x
never_nested P one (syntax q x dead) = syntax q x dead
never_nested {d = d} {ks = ks} P one (nested q m n x w dead v lives) = let s = stands_alive P one d ks n lives in absurd (dead_none (P d) ks m s.0 s.1 s.2 dead)
never_nested P one (in_grammar feature q x f) = in_grammar feature q x f

pub flat_mark : {d : ℕ} {end : Place} {ks : List Terminal} {e : ParseError} (m : Mark) → Refuses (Marked m) d end ks e → RefusesHere (Marked m) d end ks e
flat_mark m h = never_nested (Marked m) one h
  where
    token : {t u : Terminal} {ls r : List Terminal} → t ∷ ls ≡ u ∷ r → t ≡ u
    token h = cc

    one : IsOneToken (Marked m)
    one d d' p t ls r ks f = (p, ks, ap (λ z. z ∷ ks) (token f))

pub flat_name : {d : ℕ} {end : Place} {ks : List Terminal} {e : ParseError} → Refuses SomeName d end ks e → RefusesHere SomeName d end ks e
flat_name h = never_nested SomeName one h
  where
    one : IsOneToken SomeName
    one d d' n t ls r ks is_name = (n, ks, is_name)

-- ---- lists

pub list_item : {A X : Type 0} {D : Decision} {W V : Shown} (Item : Phrase A) (More : Phrase X) (by close : Mark) (d : ℕ) (end : Place) (ks : List Terminal) (e : ParseError) → Splits Item More by close → Shows W d ks V d ks → RefusesIn D W Item d end ks e → RefusesIn D V More d end ks e
list_item {V = V} Item More by close d end ks e into k h = refuses_map {W = V} (Seq Item (Tail More by close)) More d end ks e (λ d' b ls r s x. into d' b ls r x) (λ q x. x) (refuses_first Item (Tail More by close) d end ks e k h)

pub list_close : {A X : Type 0} {D : Decision} {W V : Shown} (Item : Phrase A) (More : Phrase X) (by close : Mark) (d : ℕ) (end : Place) (a : A) (ks m : List Terminal) (e : ParseError) → Splits Item More by close → Known Item → Item d a ks m → NoMark by m → Shows W d m V d ks → RefusesIn D W (Marked close) d end m e → RefusesIn D V More d end ks e
list_close {W = W} {V = V} Item More by close d end a ks m e into known p none k h = refuses_map {W = V} (Seq Item (Tail More by close)) More d end ks e (λ d' b ls r s x. into d' b ls r x) (λ q x. x) (refuses_after {W = W} Item (Tail More by close) d end a ks m e known p k (refuses_map {W = W} (Marked close) (Tail More by close) d end m e (tail_close More by close m none) (λ q x. x) h))

pub list_more : {A X : Type 0} {D : Decision} {W V : Shown} (Item : Phrase A) (More : Phrase X) (by close : Mark) (d : ℕ) (end : Place) (a : A) (ks m : List Terminal) (p : Position) (e : ParseError) → Splits Item More by close → Known Item → (kind_of by ≡ kind_of close → ⊥) → Item d a ks (kind_of by at p ∷ m) → Shows W d m V d ks → RefusesIn D W More d end m e → RefusesIn D V More d end ks e
list_more {W = W} {V = V} Item More by close d end a ks m p e into known other f k h = refuses_map {W = V} (Seq Item (Tail More by close)) More d end ks e (λ d' b ls r s x. into d' b ls r x) (λ q x. x) (refuses_after {W = λ i ls q. W d m q} {V = V} Item (Tail More by close) d end a ks (kind_of by at p ∷ m) e known f (λ q x. k q x) (refuses_behind {V = λ i ls q. W d m q} More (Tail More by close) d end (kind_of by at p) m e (tail_more More by close p other) (λ q x. x) h))

pub open_item : {A X Y : Type 0} {D : Decision} {W V : Shown} (Item : Phrase A) (More : Phrase X) (Whole : Phrase Y) (by : Mark) (d : ℕ) (end : Place) (ks : List Terminal) (e : ParseError) → SplitsOpen Item More Whole by → Shows W d ks V d ks → RefusesIn D W Item d end ks e → RefusesIn D V Whole d end ks e
open_item {V = V} Item More Whole by d end ks e into k h = refuses_map {W = V} (Seq Item (Open More by)) Whole d end ks e (λ d' b ls r s x. into d' b ls r x) (λ q x. x) (refuses_first Item (Open More by) d end ks e k h)

pub open_more : {A X Y : Type 0} {D : Decision} {W V : Shown} (Item : Phrase A) (More : Phrase X) (Whole : Phrase Y) (by : Mark) (d : ℕ) (end : Place) (a : A) (ks m after : List Terminal) (p : Position) (e : ParseError) → SplitsOpen Item More Whole by → Known Item → Item d a ks m → m ≡ kind_of by at p ∷ after → Shows W d after V d ks → RefusesIn D W More d end after e → RefusesIn D V Whole d end ks e
open_more {D = D} {W = W} {V = V} Item More Whole by d end a ks m after p e into known f is k h = refuses_map {W = V} (Seq Item (Open More by)) Whole d end ks e (λ d' b ls r s x. into d' b ls r x) (λ q x. x) (refuses_after {W = λ i ls q. W d after q} {V = V} Item (Open More by) d end a ks m e known f (λ q x. k q x) (subst (λ z. RefusesIn D (λ i ls q. W d after q) (Open More by) d end z e) (sym is) (refuses_behind More (Open More by) d end (kind_of by at p) after e (open_behind More by p) (λ q x. x) h)))

-- ---- a form in place of rule 9

no_sixty_one : {A : Type 0} → ◌≡◌ {A = ℕ} 61 9 → A
no_sixty_one h = absurd (omega (arith, h))

no_thirteen : {A : Type 0} → ◌≡◌ {A = ℕ} 13 9 → A
no_thirteen h = absurd (omega (arith, h))

-- where rule 9 refuses the part, a form may be told for which that shows it
pub as_form : {A : Type 0} {D : Decision} {W : Shown} {P : Phrase A} {d : ℕ} {end : Place} {ks : List Terminal} {told : ParseError} (e : ParseError) → IsSyntax e → ((n : List Terminal) → e ≡ refused_at 9 0 end n → ((d' : ℕ) → Dead (P d') ks n) → RefusesIn D W P d end ks told) → RefusesIn D W P d end ks e → RefusesIn D W P d end ks told
as_form e is k (by_grammar (out_of_memory y)) = absurd (subst IsSyntax y is)
as_form e is k (by_grammar (syntax n y dead)) = k n y dead
as_form e is k (by_grammar (nested m z n y w dead v lives)) = no_sixty_one (subst IsSyntax y is)
as_form e is k (by_grammar (in_grammar n m y g)) = no_thirteen (subst IsSyntax y is)
as_form e is k (left_out n m z l y g s dead) = no_thirteen (subst IsSyntax y is)
as_form e is k (left_out_type n m z l y g wants dead) = no_thirteen (subst IsSyntax y is)

pub form_told : {A : Type 0} {D : Decision} {W : Shown} {P : Phrase A} {d : ℕ} {end : Place} {ks : List Terminal} {feature : ℕ} {q m : List Terminal} {told : ParseError} (e : ParseError) → IsSyntax e → StandsAt e (place_at end m) → HasForm feature ks q m → told ≡ refused_at 13 feature end q → RefusesIn D W P d end ks e → RefusesIn D W P d end ks told
form_told {end = end} {feature = feature} {q = q} {m = m} e is there f x h = as_form e is (λ n y dead. left_out feature q m n x f (subst (λ z. StandsAt z (place_at end m)) y there) dead) h

pub refuses_told : {A : Type 0} {D : Decision} {W : Shown} {P : Phrase A} {d : ℕ} {end : Place} {ks : List Terminal} {feature : ℕ} {q m : List Terminal} {e told : ParseError} → HasForm feature ks q m → TellsForm feature end q m e told → RefusesIn D W P d end ks e → RefusesIn D W P d end ks told
refuses_told {D = D} {W = W} {P = P} {d = d} {end = end} {ks = ks} f (as_it_was x) h = subst (λ z. RefusesIn D W P d end ks z) (sym x) h
refuses_told {e = e} f (by_form is there x) h = form_told e is there f x h
