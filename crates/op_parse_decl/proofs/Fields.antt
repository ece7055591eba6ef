-- Refusals of the fields of a record.
use Rattle.std.proofs.Common.{◌≡◌, ℕ, Bool, List, [], ◌∷◌, ◌++◌, refl, sym, ap, ◌∙◌, subst}
use Rattle.op_base.specs.declared.place.Place.{Place}
use Rattle.op_parse_code.proofs.ExpressionKnown.{known_mark}
use Rattle.op_parse_code.proofs.Names.{no_name_refuses}
use Rattle.op_parse_code.proofs.Cuts.{cut_one, cut_join, cut_none}
use Rattle.op_parse_code.proofs.Living.{Any, Fits, Sample, hands_as, hands_behind, hands_first}
use Rattle.op_parse_code.proofs.Refusing.{Some_, Seq, HandsOn, Shows, alive_after, no_mark_same}
use Rattle.op_parse_decl.proofs.Denoters.{fits_denoter}
use Rattle.op_parse_decl.proofs.Refusals.{flat_mark, form_told, refuses_map, refuses_first, refuses_after, refuses_behind, refuses_part}
use Rattle.op_parse_decl.specs.Fronts.{front_denoter, front_field_lists, front_names}
use Rattle.op_parse_code.specs.Refusal.{Phrase, SameHead, Shown, Alive, Refuses, refused_at}
use Rattle.op_parse_decl.specs.Refusal.{Never, RefusesHere, RefusesPart, RefusesParts}
use Rattle.op_parse_code.specs.Whole.{Marked, NoMark}
use Rattle.op_parse_code.specs.declared.error.ParseError.{ParseError}
use Rattle.op_parse_code.specs.declared.mark.Mark.TheVariants as mark
use Rattle.op_parse_decl.proofs.NameLists.{naming_item, naming_none}
use Rattle.op_parse_decl.specs.KnownTypes.{known_names, known_fields, known_record}
use Rattle.op_parse_decl.specs.Opening.{IsFormOfRecord}
use Rattle.op_parse_decl.specs.Types.{SomeNames, SomeDenoter, SomeStructure, FieldsBefore, RecordFields, record_fields, SomeFields, NoMoreType}
use Rattle.op_scan.specs.declared.token.TokenKind.TheVariants as kind
use Rattle.op_tree.proofs.ExpressionUnique.{is_comma}
use Rattle.op_tree.proofs.StatementUnique.{differ}
use Rattle.op_tree.specs.Denoter.{Denoter, record_, FieldLists, no_fields, fields, denoter_of}
use Rattle.op_tree.specs.DenoterGrammar.{is_record, AreFieldLists, are_no_fields, are_last_fields, are_fields}
use Rattle.op_tree.specs.Ends.{StopsDenoter}
use Rattle.op_tree.specs.Lists.{field_lists_of}
use Rattle.op_tree.specs.NameGrammar.{AreNames}
use Rattle.op_tree.specs.Terminal.{Terminal, ◌at◌}
use Rattle.op_tree.specs.declared.denoter.Fields.{Fields}
use Rattle.op_tree.specs.declared.position.Name.{Name}
use Rattle.op_tree.specs.declared.position.Position.{Position}

-- ---- fields of one type

no_comma_there : {p u : Position} {r z : List Terminal} → kind.Colon at p ∷ r ≡ kind.Comma at u ∷ z → ⊥
no_comma_there h = differ is_comma (sym h) refl refl

into_fields : (d : ℕ) (x : List Name × Denoter) (ls r : List Terminal) → SomeFields d x ls r → Some_ (Seq SomeNames (Seq (Marked mark.Colon) SomeDenoter)) d ls
into_fields d x ls r (p, m, f, g) = ((x.0, (p, x.1)), r, (kind.Colon at p ∷ m, (f, λ u z h. no_comma_there h), (m, refl, g)))

pub fields_whole : (d : ℕ) (ns : List Name) (t : Denoter) (ks m : List Terminal) (p : Position) (n r : List Terminal) → SomeNames d ns ks m → m ≡ kind.Colon at p ∷ n → SomeDenoter d t n r → SomeFields d (ns, t) ks r
fields_whole d ns t ks m p n r f is g = (p, n, subst (λ z. AreNames ns ks z) is f.0, g)

abbrev FieldsParts : Phrase (List Name × (Position × Denoter))
FieldsParts = Seq SomeNames (Seq (Marked mark.Colon) SomeDenoter)

pub fields_names : (d : ℕ) (end : Place) (ks : List Terminal) (e : ParseError) → RefusesHere SomeNames d end ks e → RefusesPart SomeFields d end ks e
fields_names d end ks e h = refuses_map {W = Never} FieldsParts SomeFields d end ks e (λ d' b ls r s x. into_fields d' b ls r x) (λ q x. absurd x) (refuses_first {V = Never} SomeNames (Seq (Marked mark.Colon) SomeDenoter) d end ks e (λ q x. absurd x) (refuses_part h))

fields_behind : {W : Shown} (d : ℕ) (end : Place) (ns : List Name) (ks m : List Terminal) (e : ParseError) → SomeNames d ns ks m → Shows W d m (Alive (Seq (Marked mark.Colon) SomeDenoter)) d m → RefusesParts W (Seq (Marked mark.Colon) SomeDenoter) d end m e → RefusesPart SomeFields d end ks e
fields_behind d end ns ks m e f k h = refuses_map {W = Alive FieldsParts} FieldsParts SomeFields d end ks e (λ d' b ls r s x. into_fields d' b ls r x) (hands_as FieldsParts SomeFields d ks (λ i y ls r s x. ((y.0, y.1.1), fields_whole i y.0 y.1.1 ls x.0 y.1.0 x.2.0 r x.1 x.2.1 x.2.2))) (refuses_after SomeNames (Seq (Marked mark.Colon) SomeDenoter) d end ns ks m e known_names f (λ q x. alive_after SomeNames (Seq (Marked mark.Colon) SomeDenoter) d ns ks m q known_names f (k q x)) h)

pub fields_colon : (d : ℕ) (end : Place) (ns : List Name) (ks m : List Terminal) (e : ParseError) → SomeNames d ns ks m → Refuses (Marked mark.Colon) d end m e → RefusesPart SomeFields d end ks e
fields_colon d end ns ks m e f h = fields_behind {W = Never} d end ns ks m e f (λ q x. absurd x) (refuses_first (Marked mark.Colon) SomeDenoter d end m e (λ q x. absurd x) (refuses_part (flat_mark mark.Colon h)))

pub fields_type : (d : ℕ) (end : Place) (ns : List Name) (ks m : List Terminal) (p : Position) (n : List Terminal) (e : ParseError) → SomeNames d ns ks m → m ≡ kind.Colon at p ∷ n → RefusesPart SomeDenoter d end n e → RefusesPart SomeFields d end ks e
fields_type d end ns ks m p n e f is h = fields_behind {W = Alive (Seq (Marked mark.Colon) SomeDenoter)} d end ns ks m e f (λ q x. x) (refuses_after (Marked mark.Colon) SomeDenoter d end p m n e (known_mark mark.Colon) is (λ q x. alive_after (Marked mark.Colon) SomeDenoter d p m n q (known_mark mark.Colon) is x) h)

-- ---- all fields of a record

abbrev pub lists_before : List Fields → FieldLists → FieldLists
lists_before [] more = more
lists_before (x ∷ xs) more = fields x.names (denoter_of x.denoter) (lists_before xs more)

lists_none : (xs : List Fields) → lists_before xs no_fields ≡ field_lists_of xs
lists_none [] = refl
lists_none (x ∷ xs) = ap (fields x.names (denoter_of x.denoter)) (lists_none xs)

lists_push : (xs : List Fields) (x : Fields) (more : FieldLists) → lists_before (xs ++ (x ∷ [])) more ≡ lists_before xs (fields x.names (denoter_of x.denoter) more)
lists_push [] x more = refl
lists_push (y ∷ xs) x more = ap (fields y.names (denoter_of y.denoter)) (lists_push xs x more)

-- behind fields of one type: the end, or a semicolon and more fields
pub data Behind : ℕ → FieldLists → List Terminal → List Terminal → Type 0 where
  behind_end : {d : ℕ} {p : Position} {r : List Terminal} → Behind d no_fields (kind.End at p ∷ r) r
  behind_semicolon : {d : ℕ} {fs : FieldLists} {p : Position} {ks r : List Terminal} → FieldsBefore d fs ks r → Behind d fs (kind.Semicolon at p ∷ ks) r

into_lists : (ks : List Terminal) → NoMark mark.End ks → (d : ℕ) (fs : FieldLists) (ls r : List Terminal) → SameHead ks ls → FieldsBefore d fs ls r → Some_ (Seq SomeFields Behind) d ls
into_lists ks none d fs ls r s (p, are_no_fields) = absurd (no_mark_same mark.End ks ls s none p r refl)
into_lists ks none d fs ls r s (p, are_last_fields {ns = ns} {t = t} {p = q} {m = m} f g) = (((ns, t), no_fields), r, (kind.End at p ∷ r, (q, m, f, (g, record { operator = refl; selector = refl; range = refl })), behind_end))
into_lists ks none d fs ls r s (p, are_fields {ns = ns} {t = t} {fs = fs1} {p = q} {q = u} {m = m} {n = n} f g more) = (((ns, t), fs1), r, (kind.Semicolon at u ∷ n, (q, m, f, (g, record { operator = refl; selector = refl; range = refl })), behind_semicolon (p, more)))

out_of_lists : (d : ℕ) (x : (List Name × Denoter) × FieldLists) (ls r : List Terminal) → Seq SomeFields Behind d x ls r → (fs : FieldLists) × FieldsBefore d fs ls r
out_of_lists d ((ns, t), fs) ls r (m, (p, n, f, g), behind_end {p = q}) = (fields ns t no_fields, (q, are_last_fields f g.0))
out_of_lists d ((ns, t), fs) ls r (m, (p, n, f, g), behind_semicolon (q, more)) = (fields ns t fs, (q, are_fields f g.0 more))

hands_lists : (d : ℕ) (ks : List Terminal) → HandsOn (Seq SomeFields Behind) d ks FieldsBefore d ks
hands_lists d ks = hands_as (Seq SomeFields Behind) FieldsBefore d ks (λ i y ls r s f. out_of_lists i y ls r f)

fits_fields : Fits SomeFields StopsDenoter
fits_fields d x ks r (p, m, f, g) =
    let s = front_names f in
    let w = fits_denoter d x.1 m r g in
    (λ z. s.0 (kind.Colon at p ∷ w.0 z), cut_join s.1 (cut_one (kind.Colon at p) w.1), s.2 ∙ ap (λ z. s.0 (kind.Colon at p ∷ z)) w.2, λ z c. (p, w.0 z, s.3 (kind.Colon at p ∷ w.0 z), w.3 z c))

-- the end behind fields
the_end : Position → Sample Behind StopsDenoter
the_end p = record { tokens = kind.End at p ∷ []; behind = []; part = no_fields; stands = λ i. behind_end; fits = record { operator = refl; selector = refl; range = refl } }

-- the fields that are read so far, and what is left
pub record Fielding (d : ℕ) (end : Place) (all : List Terminal) (xs : List Fields) (rest : List Terminal) : Type 0 where
  pub completes : (more : FieldLists) (r : List Terminal) → AreFieldLists d more rest r → AreFieldLists d (lists_before xs more) all r
  pub dies : (e : ParseError) → RefusesPart FieldsBefore d end rest e → RefusesPart FieldsBefore d end all e

in_record : (d : ℕ) (end : Place) (all : List Terminal) (e : ParseError) → RefusesPart FieldsBefore d end all e → (q : Position) → RefusesPart RecordFields d end (kind.Record at q ∷ all) e
in_record d end all e h q = refuses_behind FieldsBefore RecordFields d end (kind.Record at q) all e (λ d' fs ls r f. inside d' fs ls r f) (hands_behind FieldsBefore RecordFields d (kind.Record at q) all (λ i fs ls r f. (fs, record_fields f))) h
  where
    inside : (d' : ℕ) (fs : FieldLists) (ls r : List Terminal) → RecordFields d' fs (kind.Record at q ∷ ls) r → Some_ FieldsBefore d' ls
    inside d' fs ls r (record_fields f) = (fs, r, f)

pub fielding_ends : (d : ℕ) (end : Place) (all rest : List Terminal) (xs : List Fields) (p : Position) (r : List Terminal) → Fielding d end all xs rest → rest ≡ kind.End at p ∷ r → FieldsBefore d (field_lists_of xs) all r
fielding_ends d end all rest xs p r so_far is = (p, subst (λ z. AreFieldLists d z all (kind.End at p ∷ r)) (lists_none xs) (so_far.completes no_fields (kind.End at p ∷ r) (subst (λ z. AreFieldLists d no_fields z (kind.End at p ∷ r)) (sym is) are_no_fields)))

pub fielding_fields : (d : ℕ) (end : Place) (all rest : List Terminal) (xs : List Fields) (e : ParseError) → Fielding d end all xs rest → NoMark mark.End rest → RefusesPart SomeFields d end rest e → (q : Position) → RefusesPart RecordFields d end (kind.Record at q ∷ all) e
fielding_fields d end all rest xs e so_far none h = in_record d end all e (so_far.dies e (refuses_map {W = Alive (Seq SomeFields Behind)} (Seq SomeFields Behind) FieldsBefore d end rest e (into_lists rest none) (hands_lists d rest) (refuses_first SomeFields Behind d end rest e (hands_first SomeFields Behind StopsDenoter d rest fits_fields the_end) h)))

pub fielding_form : (d : ℕ) (end : Place) (all rest : List Terminal) (xs : List Fields) (feature : ℕ) (e : ParseError) → Fielding d end all xs rest → NoMark mark.End rest → IsFormOfRecord feature rest → e ≡ refused_at 13 feature end rest → (q : Position) → RefusesPart RecordFields d end (kind.Record at q ∷ all) e
fielding_form d end all rest xs feature e so_far none (no_name, form) x q = form_told syntax_there refl refl ([], kind.Record at q ∷ all, refl, form d (lists_before xs no_fields) q all (so_far.completes no_fields rest are_no_fields)) x (fielding_fields d end all rest xs syntax_there so_far none (fields_names d end rest syntax_there (naming_item d end rest rest [] syntax_there (naming_none rest) (no_name_refuses d end rest syntax_there no_name refl))) q)
  where
    syntax_there : ParseError
    syntax_there = refused_at 9 0 end rest

behind_dies : (d : ℕ) (end : Place) (rest m : List Terminal) (x : List Name × Denoter) (e : ParseError) → NoMark mark.End rest → SomeFields d x rest m → RefusesPart Behind d end m e → RefusesPart FieldsBefore d end rest e
behind_dies d end rest m x e none f h = refuses_map {W = Alive (Seq SomeFields Behind)} (Seq SomeFields Behind) FieldsBefore d end rest e (into_lists rest none) (hands_lists d rest) (refuses_after SomeFields Behind d end x rest m e known_fields f (λ q y. alive_after SomeFields Behind d x rest m q known_fields f y) h)

into_behind : (p : Position) (d : ℕ) (fs : FieldLists) (ls r : List Terminal) → Behind d fs (kind.Semicolon at p ∷ ls) r → Some_ FieldsBefore d ls
into_behind p d fs ls r (behind_semicolon f) = (fs, r, f)

pub fielding_more : (d : ℕ) (end : Place) (all rest m : List Terminal) (xs : List Fields) (x : Fields) (p : Position) (after : List Terminal) → Fielding d end all xs rest → NoMark mark.End rest → SomeFields d (x.names, denoter_of x.denoter) rest m → m ≡ kind.Semicolon at p ∷ after → Fielding d end all (xs ++ (x ∷ [])) after
fielding_more d end all rest m xs x p after so_far none f is =
    let g : SomeFields d (x.names, denoter_of x.denoter) rest (kind.Semicolon at p ∷ after) = subst (λ z. SomeFields d (x.names, denoter_of x.denoter) rest z) is f in
    record {
      completes = λ more r h. subst (λ z. AreFieldLists d z all r) (sym (lists_push xs x more)) (so_far.completes _ r (are_fields g.2 g.3.0 h));
      dies = λ e h. so_far.dies e (behind_dies d end rest (kind.Semicolon at p ∷ after) (x.names, denoter_of x.denoter) e none g (refuses_behind FieldsBefore Behind d end (kind.Semicolon at p) after e (into_behind p) (hands_behind FieldsBefore Behind d (kind.Semicolon at p) after (λ i fs ls r y. (fs, behind_semicolon y))) h));
    }

no_semicolon_end : (m : List Terminal) → NoMark mark.Semicolon m → (d : ℕ) (fs : FieldLists) (ls r : List Terminal) → SameHead m ls → Behind d fs ls r → Some_ (Marked mark.End) d ls
no_semicolon_end m none d fs ls r s (behind_end {p = p}) = (p, r, refl)
no_semicolon_end m none d fs ls r s (behind_semicolon {p = p} f) = absurd (no_mark_same mark.Semicolon m ls s none p _ refl)

pub fielding_unclosed : (d : ℕ) (end : Place) (all rest m : List Terminal) (xs : List Fields) (x : List Name × Denoter) (e : ParseError) → Fielding d end all xs rest → NoMark mark.End rest → SomeFields d x rest m → NoMark mark.Semicolon m → Refuses (Marked mark.End) d end m e → (q : Position) → RefusesPart RecordFields d end (kind.Record at q ∷ all) e
fielding_unclosed d end all rest m xs x e so_far none f open_end h = in_record d end all e (so_far.dies e (behind_dies d end rest m x e none f (refuses_map (Marked mark.End) Behind d end m e (no_semicolon_end m open_end) (λ q x. absurd x) (refuses_part (flat_mark mark.End h)))))

pub fielding_closes : (d : ℕ) (end : Place) (all rest m : List Terminal) (xs : List Fields) (x : Fields) (p : Position) (r : List Terminal) → Fielding d end all xs rest → SomeFields d (x.names, denoter_of x.denoter) rest m → m ≡ kind.End at p ∷ r → FieldsBefore d (field_lists_of (xs ++ (x ∷ []))) all r
fielding_closes d end all rest m xs x p r so_far f is =
    let g : SomeFields d (x.names, denoter_of x.denoter) rest (kind.End at p ∷ r) = subst (λ z. SomeFields d (x.names, denoter_of x.denoter) rest z) is f in
    (p, subst (λ z. AreFieldLists d z all (kind.End at p ∷ r)) (sym (lists_push xs x no_fields) ∙ lists_none (xs ++ (x ∷ []))) (so_far.completes _ _ (are_last_fields g.2 g.3.0)))

-- ---- a record

into_record : (p q : Position) (b : Bool) (d : ℕ) (t : Denoter) (ls r : List Terminal) → SomeStructure p b d t (kind.Record at q ∷ ls) r → Some_ (Seq RecordFields NoMoreType) d (kind.Record at q ∷ ls)
into_record p q b d t ls r (is_record {fs = fs} {u = u} f, st) = ((fs, []), r, (r, record_fields (u, f), (refl, st)))

into_record_at : (p q : Position) (b : Bool) (ks : List Terminal) (d : ℕ) (t : Denoter) (ls r : List Terminal) → SameHead (kind.Record at q ∷ ks) ls → SomeStructure p b d t ls r → Some_ (Seq RecordFields NoMoreType) d ls
into_record_at p q b ks d t [] r s f = absurd s
into_record_at p q b ks d t (u ∷ ls) r s f = subst (λ (z : Terminal). Some_ (Seq RecordFields NoMoreType) d (z ∷ ls)) s (into_record p q b d t ls r (subst (λ (z : Terminal). SomeStructure p b d t (z ∷ ls) r) (sym s) f))

out_of_record : (p q : Position) (b : Bool) (d : ℕ) (x : FieldLists × List Terminal) (ls r : List Terminal) → Seq RecordFields NoMoreType d x (kind.Record at q ∷ ls) r → SomeStructure p b d (record_ p b x.0) (kind.Record at q ∷ ls) r
out_of_record p q b d x ls r (m, record_fields f, (same, st)) = (is_record (subst (λ z. AreFieldLists d x.0 ls (kind.End at f.0 ∷ z)) same f.1), st)

hands_record : (p q : Position) (b : Bool) (d : ℕ) (ks : List Terminal) → HandsOn (Seq RecordFields NoMoreType) d (kind.Record at q ∷ ks) (SomeStructure p b) d (kind.Record at q ∷ ks)
hands_record p q b d ks = hands_as (Seq RecordFields NoMoreType) (SomeStructure p b) d (kind.Record at q ∷ ks) (λ i y ls r s f. out i y ls r s f)
  where
    out : (i : ℕ) (y : FieldLists × List Terminal) (ls r : List Terminal) → SameHead (kind.Record at q ∷ ks) ls → Seq RecordFields NoMoreType i y ls r → (t : Denoter) × SomeStructure p b i t ls r
    out i y [] r s f = absurd s
    out i y (u ∷ ls) r s f = (record_ p b y.0, subst (λ (z : Terminal). SomeStructure p b i (record_ p b y.0) (z ∷ ls) r) s (out_of_record p q b i y ls r (subst (λ (z : Terminal). Seq RecordFields NoMoreType i y (z ∷ ls) r) (sym s) f)))

fits_record : Fits RecordFields Any
fits_record d fs ks r (record_fields {p = p} (u, f)) =
    let s = front_field_lists f in
    (λ x. kind.Record at p ∷ s.0 (kind.End at u ∷ x), cut_one (kind.Record at p) (cut_join s.1 (cut_one (kind.End at u) cut_none)), ap (λ z. kind.Record at p ∷ z) s.2, λ x c. record_fields (u, s.3 (kind.End at u ∷ x)))

pub record_refuses : (p : Position) (b : Bool) (d : ℕ) (end : Place) (ks : List Terminal) (e : ParseError) → ((q : Position) → RefusesPart RecordFields d end (kind.Record at q ∷ ks) e) → (q : Position) → RefusesPart (SomeStructure p b) d end (kind.Record at q ∷ ks) e
record_refuses p b d end ks e h q = refuses_map {W = Alive (Seq RecordFields NoMoreType)} (Seq RecordFields NoMoreType) (SomeStructure p b) d end (kind.Record at q ∷ ks) e (into_record_at p q b ks) (hands_record p q b d ks) (refuses_first RecordFields NoMoreType d end (kind.Record at q ∷ ks) e (hands_first RecordFields NoMoreType Any d (kind.Record at q ∷ ks) fits_record (λ u. record { tokens = []; behind = []; part = []; stands = λ i. (refl, record { operator = tt; selector = tt; range = tt }); fits = tt })) (h q))

pub record_goes_on : (p : Position) (b : Bool) (d : ℕ) (end : Place) (fs : FieldLists) (ks m : List Terminal) (e : ParseError) → FieldsBefore d fs ks m → RefusesHere NoMoreType d end m e → (q : Position) → RefusesPart (SomeStructure p b) d end (kind.Record at q ∷ ks) e
record_goes_on p b d end fs ks m e f h q = refuses_map {W = Never} (Seq RecordFields NoMoreType) (SomeStructure p b) d end (kind.Record at q ∷ ks) e (into_record_at p q b ks) (λ q x. absurd x) (refuses_after {V = Never} RecordFields NoMoreType d end fs (kind.Record at q ∷ ks) m e known_record (record_fields f) (λ q x. absurd x) (refuses_part h))

pub record_whole : (p : Position) (b : Bool) (d : ℕ) (fs : FieldLists) (ks r : List Terminal) → FieldsBefore d fs ks r → StopsDenoter r → (q : Position) → SomeStructure p b d (record_ p b fs) (kind.Record at q ∷ ks) r
record_whole p b d fs ks r f st q = (is_record f.1, st)
