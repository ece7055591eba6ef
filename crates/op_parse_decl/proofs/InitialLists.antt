-- Refusals of the items and the fields of a first value.
use Rattle.std.proofs.Common.{◌≡◌, ℕ, suc, List, [], ◌∷◌, ◌++◌, Some, None, Result, Ok, Err, IfOk, IfErr, refl, sym, ap, ◌∙◌, subst, append_assoc}
use Rattle.op_base.specs.declared.place.Place.{Place}
use Rattle.op_parse_code.proofs.Cuts.{IsCut, cut_none, cut_one, cut_join}
use Rattle.op_parse_code.proofs.ExpressionKnown.{known_mark}
use Rattle.op_parse_code.proofs.Living.{Any, Fits, Sample, hands_as, hands_behind, hands_first}
use Rattle.op_parse_code.proofs.Lists.{Splits, Joins, Listed, hands_item, ReadingBy, reading_ends, reading_more}
use Rattle.op_parse_code.proofs.Refusing.{Some_, Seq, Known, Shows, HandsOn, no_mark_same, alive_after, refuses_map, refuses_first, refuses_after, refuses_map_by, refuses_first_by, refuses_after_by, refuses_behind_by}
use Rattle.op_parse_code.proofs.StatementFronts.{front_name}
use Rattle.op_parse_code.proofs.StatementKnown.{known_name}
use Rattle.op_parse_code.specs.Refusal.{Phrase, SameHead, Shown, Alive, RefusesBy, Refuses, MadeOf, made, no_room, passed_on}
use Rattle.op_parse_decl.proofs.Refusals.{as_value, flat_mark, flat_name}
use Rattle.op_parse_decl.specs.Refusal.{DecidesInPart, Never, RefusesValue, RefusesHere}
use Rattle.op_parse_code.specs.Whole.{Marked, NoMark, SomeName}
use Rattle.op_parse_code.specs.declared.error.ParseError.{ParseError}
use Rattle.op_parse_code.specs.declared.error.ParseError.TheVariants.{NoMemory}
use Rattle.op_parse_code.specs.declared.mark.Mark.TheVariants as mark
use Rattle.op_parse_decl.specs.Deepening.{deeper_initials}
use Rattle.op_parse_decl.specs.InitialKnown.{known_initial, front_initial, front_initials}
use Rattle.op_parse_decl.specs.Initials.{InitialsBefore, FieldsBehind, no_fields_behind, fields_behind, RecordBehind}
use Rattle.op_parse_decl.specs.Types.{SomeInitial, NoMoreExpression}
use Rattle.op_scan.specs.declared.token.TokenKind.TheVariants as kind
use Rattle.op_tree.proofs.DenoterUnique.{unique_initials}
use Rattle.op_tree.proofs.ExpressionUnique.{behind}
use Rattle.op_tree.proofs.StatementUnique.{unique_name}
use Rattle.op_tree.specs.DenoterGrammar.{IsInitial, AreFieldInitials, are_one_initial, are_initials, are_one_field_initial, are_field_initials}
use Rattle.op_tree.specs.Ends.{Stops}
use Rattle.op_tree.specs.Initial.{Initial, initial_of, Initials, no_initials, initials, FieldInitials, no_field_initials, field_initials}
use Rattle.op_tree.specs.Lists.{initials_of, field_initials_of}
use Rattle.op_tree.specs.NameGrammar.{IsName, is_name}
use Rattle.op_tree.specs.Terminal.{Terminal, ◌at◌}
use Rattle.op_tree.specs.declared.initializer.FieldInitializer.{FieldInitializer}
use Rattle.op_tree.specs.declared.initializer.Initializer.{Initializer}
use Rattle.op_tree.specs.declared.position.Name.{Name}
use Rattle.op_tree.specs.declared.position.Position.{Position}

-- ---- what was read for a list

pub was_made : {T U : Type 0} {P Q : T → Type 0} {R : T → U → Type 0} (r : Result T ParseError) (y : U) → MadeOf R r (Ok y) → IfOk r P → IfOk r Q → (x : T) × P x × Q x × R x y
was_made r y (made {x = x} m) p q = (x, p, q, m)

pub not_made : {T U : Type 0} {R : T → U → Type 0} {Q : Type 0} (P : ParseError → Type 0) (r : Result T ParseError) (e : ParseError) → MadeOf R r (Err e) → IfErr r P → (e ≡ NoMemory → Q) → (P e → Q) → Q
not_made P r e (no_room is) p f g = f is
not_made P r e (passed_on is) p f g = g (subst P (sym is) p)

pub one_more : {X : Type 0} (old before after read : List X) (x : X) → after ≡ before ++ (x ∷ []) → before ≡ old ++ read → after ≡ old ++ (read ++ (x ∷ []))
one_more old before after read x h g = h ∙ ap (λ z. z ++ (x ∷ [])) g ∙ append_assoc old read (x ∷ [])

pub initial_before : {d : ℕ} {i : Initial} {ks r s : List Terminal} → s ≡ r → SomeInitial d i ks r → SomeInitial d i ks s
initial_before {d = d} {i = i} {ks = ks} is f = subst (λ z. SomeInitial d i ks z) (sym is) f

-- ---- items

abbrev pub add_item : Initializer → Initials → Initials
add_item i more = initials (initial_of i) more

items_split : Splits SomeInitial InitialsBefore mark.Comma mark.CloseParenthesis
items_split d x ls r (p, are_one_initial {i = i} f) = ((i, None), r, (kind.CloseParenthesis at p ∷ r, (f, (refl, refl)), (p, refl)))
items_split d x ls r (p, are_initials {i = i} {is = is} {p = q} {m = m} f g) = ((i, Some is), r, (kind.Comma at q ∷ m, (f, (refl, refl)), (q, m, refl, (p, g))))

items_join : Joins SomeInitial InitialsBefore mark.Comma mark.CloseParenthesis
items_join d (i, None) ls r (m, f, (p, e)) = (initials i no_initials, (p, are_one_initial (subst (λ z. IsInitial d i ls z) e f.0)))
items_join d (i, Some is) ls r (m, f, (p, n, e, g)) = (initials i is, (g.0, are_initials (subst (λ z. IsInitial d i ls z) e f.0) g.1))

pub fits_initial : Fits SomeInitial Stops
fits_initial d i ks r p = let s = front_initial p.0 in (s.0, s.1, s.2, λ x c. (s.3 x, c))

pub items_listed : Listed SomeInitial InitialsBefore mark.Comma mark.CloseParenthesis initial_of add_item initials_of
items_listed = record {
  none = no_initials;
  known = known_initial;
  split = items_split;
  join = items_join;
  begins = λ d ks. hands_item SomeInitial InitialsBefore mark.Comma mark.CloseParenthesis Stops d ks items_join fits_initial (λ p r. (refl, refl));
  apart = λ h. absurd cc;
  one = λ d x ks r p f. (p, are_one_initial f.0);
  next = λ d x more ks m r p f g. (g.0, are_initials f.0 g.1);
  empty = refl;
  added = λ x xs. refl;
}

known_items : Known InitialsBefore
known_items = record {
  front = λ d is ks m f. let s = front_initials f.1 in (λ x. s.0 (kind.CloseParenthesis at f.0 ∷ x), cut_join s.1 (cut_one (kind.CloseParenthesis at f.0) cut_none), s.2, λ x h. (f.0, s.3 (kind.CloseParenthesis at f.0 ∷ x)));
  same = λ d d' is is' ks m m' f f'. ap behind (unique_initials f.1 f'.1 (refl, refl) (refl, refl) refl refl).1;
  deepens = λ d is ks m f. (f.0, deeper_initials f.1);
}

pub items_refuse : (d : ℕ) (end : Place) (ks : List Terminal) (e : ParseError) → RefusesValue InitialsBefore d end ks e → RefusesValue (Seq InitialsBefore NoMoreExpression) d end ks e
items_refuse d end ks e h = refuses_first InitialsBefore NoMoreExpression d end ks e (hands_first InitialsBefore NoMoreExpression Any d ks fits_items (λ p. record { tokens = []; behind = []; part = []; stands = λ i. (refl, (tt, tt)); fits = tt })) h
  where
    fits_items : Fits InitialsBefore Any
    fits_items d is ks r (p, f) = let s = front_initials f in (λ x. s.0 (kind.CloseParenthesis at p ∷ x), cut_join s.1 (cut_one (kind.CloseParenthesis at p) cut_none), s.2, λ x c. (p, s.3 (kind.CloseParenthesis at p ∷ x)))

pub items_go_on : (d : ℕ) (end : Place) (is : Initials) (ks m : List Terminal) (e : ParseError) → InitialsBefore d is ks m → RefusesHere NoMoreExpression d end m e → RefusesValue (Seq InitialsBefore NoMoreExpression) d end ks e
items_go_on d end is ks m e f h = refuses_after_by {W = Never} InitialsBefore NoMoreExpression d end is ks m e known_items f (λ q x. absurd x) (as_value h)

-- ---- the fields behind one

abbrev pub add_field : FieldInitializer → FieldInitials → FieldInitials
add_field x more = field_initials x.name (initial_of x.value) more

-- fields end with a bracket, so any tokens may stand behind it
front_open : (d : ℕ) (fs : FieldInitials) (ks r : List Terminal) → FieldsBehind d fs ks r → (t : Terminal) × (g : List Terminal → List Terminal) × IsCut g × (ks ≡ t ∷ g r) × ((x : List Terminal) → FieldsBehind d fs (t ∷ g x) x)
front_open d fs ks r (no_fields_behind {p = p}) = (kind.CloseParenthesis at p, λ x. x, cut_none, refl, λ x. no_fields_behind)
front_open d fs ks r (fields_behind {i = i} {fs = gs} {p = p} {q = q} {m = m} {l = l} f g h) =
    let s = front_name f in
    let v = known_initial.front d i m l g in
    let u = front_open d gs l r h in
    (kind.Semicolon at p, λ z. s.0 (kind.Colon at q ∷ v.0 (u.0 ∷ u.1 z)), cut_join s.1 (cut_one (kind.Colon at q) (cut_join v.1 (cut_one u.0 u.2))), ap (λ z. kind.Semicolon at p ∷ z) (s.2 ∙ ap (λ z. s.0 (kind.Colon at q ∷ z)) (v.2 ∙ ap v.0 u.3)), λ z. fields_behind (s.3 (kind.Colon at q ∷ v.0 (u.0 ∷ u.1 z))) (v.3 (u.0 ∷ u.1 z) (subst (λ y. SameHead y (u.0 ∷ u.1 z)) (sym u.3) refl)) (u.4 z))

same_more : (d d' : ℕ) (fs fs' : FieldInitials) (ks r r' : List Terminal) → FieldsBehind d fs ks r → FieldsBehind d' fs' ks r' → r ≡ r'
same_more d d' fs fs' ks r r' no_fields_behind no_fields_behind = refl
same_more d d' fs fs' ks r r' (fields_behind {i = i} {fs = gs} {m = m} {l = l} f g h) (fields_behind {i = i'} {fs = gs'} {m = m'} {l = l'} f' g' h') =
    let same = known_initial.same d d' i i' m l l' g (subst (λ y. SomeInitial d' i' y l') (sym (ap behind (unique_name f f').1)) g') in
    same_more d d' gs gs' l r r' h (subst (λ y. FieldsBehind d' gs' y r') (sym same) h')

deepens_more : (d : ℕ) (fs : FieldInitials) (ks r : List Terminal) → FieldsBehind d fs ks r → FieldsBehind (suc d) fs ks r
deepens_more d fs ks r no_fields_behind = no_fields_behind
deepens_more d fs ks r (fields_behind {i = i} {fs = gs} {m = m} {l = l} f g h) = fields_behind f (known_initial.deepens d i m l g) (deepens_more d gs l r h)

known_more : Known FieldsBehind
known_more = record { front = λ d fs ks r f. let u = front_open d fs ks r f in (λ x. u.0 ∷ u.1 x, cut_one u.0 u.2, u.3, λ x h. u.4 x); same = same_more; deepens = deepens_more }

abbrev ColonParts : Phrase (Position × (Initial × FieldInitials))
ColonParts = Seq (Marked mark.Colon) (Seq SomeInitial FieldsBehind)

into_fields : (p : Position) (d : ℕ) (fs : FieldInitials) (ls r : List Terminal) → FieldsBehind d fs (kind.Semicolon at p ∷ ls) r → Some_ (Seq SomeName ColonParts) d ls
into_fields p d fs ls r (fields_behind {n = n} {i = i} {fs = gs} {q = q} {m = m} {l = l} f g h) = ((n, (q, (i, gs))), r, (kind.Colon at q ∷ m, f, (m, refl, (l, g, h))))

fields_refuse : {W : Shown} (d : ℕ) (end : Place) (p : Position) (ks after : List Terminal) (e : ParseError) → ks ≡ kind.Semicolon at p ∷ after → Shows W d after (Alive (Seq SomeName ColonParts)) d after → RefusesBy DecidesInPart W (Seq SomeName ColonParts) d end after e → RefusesValue FieldsBehind d end ks e
fields_refuse d end p ks after e is k h = subst (λ z. RefusesValue FieldsBehind d end z e) (sym is) (refuses_behind_by (Seq SomeName ColonParts) FieldsBehind d end (kind.Semicolon at p) after e (into_fields p) (λ q x. hands_behind (Seq SomeName ColonParts) FieldsBehind d (kind.Semicolon at p) after (λ i y ls r f. (field_initials y.0 y.1.1.0 y.1.1.1, fields_behind (subst (λ z. IsName y.0 ls z) f.2.1 f.1) f.2.2.1 f.2.2.2)) q (k q x)) h)

name_refuses : {W : Shown} (d : ℕ) (end : Place) (p : Position) (n : Name) (ks after m : List Terminal) (e : ParseError) → ks ≡ kind.Semicolon at p ∷ after → IsName n after m → Shows W d m (Alive ColonParts) d m → RefusesBy DecidesInPart W ColonParts d end m e → RefusesValue FieldsBehind d end ks e
name_refuses {W = W} d end p n ks after m e is f k h = fields_refuse {W = Alive (Seq SomeName ColonParts)} d end p ks after e is (λ q x. x) (refuses_after_by {W = W} SomeName ColonParts d end n after m e known_name f (λ q x. alive_after SomeName ColonParts d n after m q known_name f (k q x)) h)

colon_refuses : (d : ℕ) (end : Place) (p q : Position) (n : Name) (ks after m k : List Terminal) (e : ParseError) → ks ≡ kind.Semicolon at p ∷ after → IsName n after m → m ≡ kind.Colon at q ∷ k → RefusesValue (Seq SomeInitial FieldsBehind) d end k e → RefusesValue FieldsBehind d end ks e
colon_refuses d end p q n ks after m k e is f c h = name_refuses {W = Alive ColonParts} d end p n ks after m e is f (λ u x. x) (refuses_after (Marked mark.Colon) (Seq SomeInitial FieldsBehind) d end q m k e (known_mark mark.Colon) c h)

only_close : (ks : List Terminal) → NoMark mark.Semicolon ks → (d : ℕ) (fs : FieldInitials) (ls r : List Terminal) → SameHead ks ls → FieldsBehind d fs ls r → Some_ (Marked mark.CloseParenthesis) d ls
only_close ks none d fs ls r s (no_fields_behind {p = p}) = (p, r, refl)
only_close ks none d fs ls r s (fields_behind {p = p} f g h) = absurd (no_mark_same mark.Semicolon ks ls s none p _ refl)

pub more_name : (d : ℕ) (end : Place) (p : Position) (all rest after : List Terminal) (xs : List FieldInitializer) (e : ParseError) → ReadingBy DecidesInPart (Alive FieldsBehind) add_field FieldsBehind d end all xs rest → rest ≡ kind.Semicolon at p ∷ after → Refuses SomeName d end after e → RefusesValue FieldsBehind d end all e
more_name d end p all rest after xs e so_far is h = so_far.dies e (fields_refuse {W = Never} d end p rest after e is (λ q x. absurd x) (refuses_first_by {W = Never} SomeName ColonParts d end after e (λ q x. x) (as_value (flat_name h))))

pub more_colon : (d : ℕ) (end : Place) (p : Position) (n : Name) (all rest after m : List Terminal) (xs : List FieldInitializer) (e : ParseError) → ReadingBy DecidesInPart (Alive FieldsBehind) add_field FieldsBehind d end all xs rest → rest ≡ kind.Semicolon at p ∷ after → IsName n after m → Refuses (Marked mark.Colon) d end m e → RefusesValue FieldsBehind d end all e
more_colon d end p n all rest after m xs e so_far is f h = so_far.dies e (name_refuses {W = Never} d end p n rest after m e is f (λ q x. absurd x) (refuses_first_by {W = Never} (Marked mark.Colon) (Seq SomeInitial FieldsBehind) d end m e (λ q x. x) (as_value (flat_mark mark.Colon h))))

pub more_value : (d : ℕ) (end : Place) (p q : Position) (n : Name) (all rest after m k : List Terminal) (xs : List FieldInitializer) (e : ParseError) → ReadingBy DecidesInPart (Alive FieldsBehind) add_field FieldsBehind d end all xs rest → rest ≡ kind.Semicolon at p ∷ after → IsName n after m → m ≡ kind.Colon at q ∷ k → RefusesValue SomeInitial d end k e → RefusesValue FieldsBehind d end all e
more_value d end p q n all rest after m k xs e so_far is f c h = so_far.dies e (colon_refuses d end p q n rest after m k e is f c (refuses_first SomeInitial FieldsBehind d end k e (hands_first SomeInitial FieldsBehind Stops d k fits_initial (λ u. record { tokens = kind.CloseParenthesis at u ∷ []; behind = []; part = no_field_initials; stands = λ i. no_fields_behind; fits = (refl, refl) })) h))

pub more_goes_on : (d : ℕ) (end : Place) (p q : Position) (all rest after m k l : List Terminal) (xs : List FieldInitializer) (x : FieldInitializer) → ReadingBy DecidesInPart (Alive FieldsBehind) add_field FieldsBehind d end all xs rest → rest ≡ kind.Semicolon at p ∷ after → IsName x.name after m → m ≡ kind.Colon at q ∷ k → SomeInitial d (initial_of x.value) k l → ReadingBy DecidesInPart (Alive FieldsBehind) add_field FieldsBehind d end all (xs ++ (x ∷ [])) l
more_goes_on d end p q all rest after m k l xs x so_far is f c g = reading_more add_field FieldsBehind d end all rest xs x l so_far (λ more r h. subst (λ z. FieldsBehind d (add_field x more) z r) (sym is) (fields_behind (subst (λ z. IsName x.name after z) c f) g h)) (λ e h. colon_refuses d end p q x.name rest after m k e is f c (refuses_after SomeInitial FieldsBehind d end (initial_of x.value) k l e known_initial g h))

pub more_close : (d : ℕ) (end : Place) (all rest : List Terminal) (xs : List FieldInitializer) (e : ParseError) → ReadingBy DecidesInPart (Alive FieldsBehind) add_field FieldsBehind d end all xs rest → NoMark mark.Semicolon rest → Refuses (Marked mark.CloseParenthesis) d end rest e → RefusesValue FieldsBehind d end all e
more_close d end all rest xs e so_far none h = so_far.dies e (refuses_map_by {W = Never} (Marked mark.CloseParenthesis) FieldsBehind d end rest e (only_close rest none) (λ q x. absurd x) (as_value (flat_mark mark.CloseParenthesis h)))

pub more_ends : (d : ℕ) (end : Place) (p : Position) (all rest after : List Terminal) (xs : List FieldInitializer) → ReadingBy DecidesInPart (Alive FieldsBehind) add_field FieldsBehind d end all xs rest → rest ≡ kind.CloseParenthesis at p ∷ after → FieldsBehind d (field_initials_of xs) all after
more_ends d end p all rest after xs so_far is = reading_ends add_field no_field_initials field_initials_of FieldsBehind d end all rest after xs refl (λ x xs. refl) so_far (subst (λ z. FieldsBehind d no_field_initials z after) (sym is) no_fields_behind)

-- ---- a record

fields_in : {d : ℕ} {fs : FieldInitials} {p : Position} {ks r : List Terminal} → AreFieldInitials d fs ks (kind.CloseParenthesis at p ∷ r) → (n : Name) × (i : Initial) × (more : FieldInitials) × (q : Position) × (m : List Terminal) × (l : List Terminal) × IsName n ks (kind.Colon at q ∷ m) × SomeInitial d i m l × FieldsBehind d more l r
fields_in {p = p} {r = r} (are_one_field_initial {n = n} {i = i} {p = q} {m = m} f g) = (n, i, no_field_initials, q, m, kind.CloseParenthesis at p ∷ r, f, (g, (refl, refl)), no_fields_behind)
fields_in (are_field_initials {n = n} {i = i} {p = q} {q = u} {m = m} {l = l} f g h) = let w = fields_in h in (n, i, field_initials w.0 w.1 w.2, q, m, kind.Semicolon at u ∷ l, f, (g, (refl, refl)), fields_behind w.6 w.7 w.8)

fields_out : {d : ℕ} {n : Name} {i : Initial} {fs : FieldInitials} {ks m l r : List Terminal} {q : Position} → IsName n ks (kind.Colon at q ∷ m) → SomeInitial d i m l → FieldsBehind d fs l r → (p : Position) × AreFieldInitials d (field_initials n i fs) ks (kind.CloseParenthesis at p ∷ r)
fields_out n f (no_fields_behind {p = p}) = (p, are_one_field_initial n f.0)
fields_out n f (fields_behind g h k) = let w = fields_out g h k in (w.0, are_field_initials n f.0 w.1)

into_record : (n : Name) (q : Position) (d : ℕ) (fs : FieldInitials) (ls r : List Terminal) → RecordBehind n q d fs ls r → Some_ (Seq SomeInitial (Seq FieldsBehind NoMoreExpression)) d ls
into_record n q d fs ls r (p, f, st) = let w = fields_in f in ((w.1, (w.2, [])), r, (w.5, subst (λ z. SomeInitial d w.1 z w.5) (ap behind (unique_name w.6 is_name).1) w.7, (r, w.8, (refl, st))))

pub record_behind_whole : (n : Name) (q : Position) (d : ℕ) (i : Initial) (fs : FieldInitials) (ks m r : List Terminal) → SomeInitial d i ks m → FieldsBehind d fs m r → Stops r → RecordBehind n q d (field_initials n i fs) ks r
record_behind_whole n q d i fs ks m r f g st = let w = fields_out is_name f g in (w.0, w.1, st)

abbrev RecordParts : Phrase (Initial × (FieldInitials × List Terminal))
RecordParts = Seq SomeInitial (Seq FieldsBehind NoMoreExpression)

out_of_record : (n : Name) (q : Position) (d : ℕ) (ks : List Terminal) → HandsOn RecordParts d ks (RecordBehind n q) d ks
out_of_record n q d ks = hands_as RecordParts (RecordBehind n q) d ks (λ i y ls r s f. (field_initials n y.0 y.1.0, record_behind_whole n q i y.0 y.1.0 ls f.0 r f.1 (subst (λ z. FieldsBehind i y.1.0 f.0 z) f.2.2.0 f.2.1) f.2.2.1))

-- nothing behind the fields
no_more : Position → Sample NoMoreExpression Any
no_more p = record { tokens = []; behind = []; part = []; stands = λ i. (refl, (tt, tt)); fits = tt }

fits_more : Fits FieldsBehind Any
fits_more d fs ks r f = let u = front_open d fs ks r f in (λ x. u.0 ∷ u.1 x, cut_one u.0 u.2, u.3, λ x c. u.4 x)

pub record_value_refuses : (n : Name) (q : Position) (d : ℕ) (end : Place) (ks : List Terminal) (e : ParseError) → RefusesValue SomeInitial d end ks e → RefusesValue (RecordBehind n q) d end ks e
record_value_refuses n q d end ks e h = refuses_map RecordParts (RecordBehind n q) d end ks e (λ d' b ls r s f. into_record n q d' b ls r f) (out_of_record n q d ks) (refuses_first SomeInitial (Seq FieldsBehind NoMoreExpression) d end ks e (hands_first SomeInitial (Seq FieldsBehind NoMoreExpression) Stops d ks fits_initial (λ u. record { tokens = kind.CloseParenthesis at u ∷ []; behind = []; part = (no_field_initials, []); stands = λ i. ([], no_fields_behind, (refl, (tt, tt))); fits = (refl, refl) })) h)

record_behind_value : {W : Shown} (n : Name) (q : Position) (d : ℕ) (end : Place) (i : Initial) (ks m : List Terminal) (e : ParseError) → SomeInitial d i ks m → Shows W d m (Alive (Seq FieldsBehind NoMoreExpression)) d m → RefusesBy DecidesInPart W (Seq FieldsBehind NoMoreExpression) d end m e → RefusesValue (RecordBehind n q) d end ks e
record_behind_value {W = W} n q d end i ks m e f k h = refuses_map RecordParts (RecordBehind n q) d end ks e (λ d' b ls r s f. into_record n q d' b ls r f) (out_of_record n q d ks) (refuses_after_by {W = W} SomeInitial (Seq FieldsBehind NoMoreExpression) d end i ks m e known_initial f (λ u x. alive_after SomeInitial (Seq FieldsBehind NoMoreExpression) d i ks m u known_initial f (k u x)) h)

pub record_more_refuses : (n : Name) (q : Position) (d : ℕ) (end : Place) (i : Initial) (ks m : List Terminal) (e : ParseError) → SomeInitial d i ks m → RefusesValue FieldsBehind d end m e → RefusesValue (RecordBehind n q) d end ks e
record_more_refuses n q d end i ks m e f h = record_behind_value {W = Alive (Seq FieldsBehind NoMoreExpression)} n q d end i ks m e f (λ u x. x) (refuses_first FieldsBehind NoMoreExpression d end m e (hands_first FieldsBehind NoMoreExpression Any d m fits_more no_more) h)

pub record_goes_on : (n : Name) (q : Position) (d : ℕ) (end : Place) (i : Initial) (fs : FieldInitials) (ks m r : List Terminal) (e : ParseError) → SomeInitial d i ks m → FieldsBehind d fs m r → RefusesHere NoMoreExpression d end r e → RefusesValue (RecordBehind n q) d end ks e
record_goes_on n q d end i fs ks m r e f g h = record_behind_value {W = Never} n q d end i ks m e f (λ u x. absurd x) (refuses_after_by {W = Never} FieldsBehind NoMoreExpression d end fs m r e known_more g (λ u x. x) (as_value h))
