-- Refusals of names and of lists of names.
use Rattle.std.proofs.Common.{◌≡◌, ℕ, suc, arith, List, [], ◌∷◌, ◌++◌, Option, Some, None, refl, sym, ap, subst, append_assoc}
use Rattle.op_base.specs.declared.place.Place.{Place}
use Rattle.op_parse_code.proofs.Lists.{SplitsOpen, open_item, open_more}
use Rattle.op_parse_code.proofs.Living.{alive_here}
use Rattle.op_parse_code.proofs.Refusing.{Some_, Seq, dead_here, no_mark_same, refuses_map_by, refuses_first_by, refuses_after_by, refuses_behind_by}
use Rattle.op_parse_decl.proofs.Refusals.{flat_mark, flat_name, refuses_map, refuses_first, refuses_after, refuses_inside, refuses_part}
use Rattle.op_parse_code.proofs.StatementKnown.{known_name}
use Rattle.op_parse_code.specs.Refusal.{Alive, Refuses, syntax, nested, decides_there, refused_at}
use Rattle.op_parse_decl.specs.Refusal.{Never, RefusesHere, RefusesPart, RefusesParts, by_grammar, decides_in_code}
use Rattle.op_parse_code.specs.Whole.{Marked, NoMark, SomeName}
use Rattle.op_parse_code.specs.declared.error.ParseError.{ParseError}
use Rattle.op_parse_code.specs.declared.mark.Mark.TheVariants as mark
use Rattle.op_parse_decl.proofs.Combining.{same_sym}
use Rattle.op_parse_decl.specs.KnownTypes.{known_names}
use Rattle.op_parse_decl.specs.Types.{NoDot, SomeBracketedNames, SomeNames, SomeQualified}
use Rattle.op_scan.specs.declared.token.TokenKind.TheVariants as kind
use Rattle.op_tree.proofs.ExpressionUnique.{behind, is_comma}
use Rattle.op_tree.proofs.StatementUnique.{differ}
use Rattle.op_tree.specs.NameGrammar.{IsName, AreNames, are_one_name, are_names, is_name, is_unqualified, is_qualified, are_bracketed_names}
use Rattle.op_tree.specs.Terminal.{Terminal, ◌at◌, name}
use Rattle.op_tree.specs.declared.position.Name.{Name}
use Rattle.op_tree.specs.declared.position.Position.{Position}
use Rattle.op_tree.specs.declared.position.QualifiedName.{QualifiedName}

-- ---- names with commas between them

names_split : SplitsOpen SomeName SomeNames SomeNames mark.Comma
names_split d x ls r (are_one_name {n = n} f, none) = ((n, None), r, (r, f, (none, refl)))
names_split d x ls r (are_names {n = n} {ns = ns} {p = p} {m = m} f g, none) = ((n, Some ns), r, (kind.Comma at p ∷ m, f, (p, m, refl, (g, none))))

-- the names that are read so far, and what is left
pub record Naming (all : List Terminal) (xs : List Name) (rest : List Terminal) : Type 0 where
  pub completes : (d : ℕ) (more : List Name) (r : List Terminal) → SomeNames d more rest r → SomeNames d (xs ++ more) all r
  pub dies : (d : ℕ) (end : Place) (e : ParseError) → RefusesHere SomeNames d end rest e → RefusesHere SomeNames d end all e

pub naming_none : (all : List Terminal) → Naming all [] all
naming_none all = record { completes = λ d more r x. x; dies = λ d end e x. x }

pub naming_item : (d : ℕ) (end : Place) (all rest : List Terminal) (xs : List Name) (e : ParseError) → Naming all xs rest → Refuses SomeName d end rest e → RefusesHere SomeNames d end all e
naming_item d end all rest xs e so_far h = so_far.dies d end e (open_item SomeName SomeNames SomeNames mark.Comma d end rest e names_split (λ q x. absurd x) (flat_name h))

pub naming_more : (all rest m : List Terminal) (xs : List Name) (x : Name) (p : Position) (after : List Terminal) → Naming all xs rest → IsName x rest m → m ≡ kind.Comma at p ∷ after → Naming all (xs ++ (x ∷ [])) after
naming_more all rest m xs x p after so_far f is = record {
  completes = λ d more r h. subst (λ z. SomeNames d z all r) (sym (append_assoc xs (x ∷ []) more)) (so_far.completes d (x ∷ more) r (are_names (subst (λ z. IsName x rest z) is f) h.0, h.1));
  dies = λ d end e h. so_far.dies d end e (open_more SomeName SomeNames SomeNames mark.Comma d end x rest m after p e names_split known_name f is (λ q x. absurd x) h);
}

pub naming_ends : (d : ℕ) (all rest m : List Terminal) (xs : List Name) (x : Name) → Naming all xs rest → IsName x rest m → NoMark mark.Comma m → SomeNames d (xs ++ (x ∷ [])) all m
naming_ends d all rest m xs x so_far f none = so_far.completes d (x ∷ []) m (are_one_name f, none)

-- ---- names in brackets

into_brackets : (p : Position) (d : ℕ) (b : List Name) (ls r : List Terminal) → SomeBracketedNames d b (kind.OpenParenthesis at p ∷ ls) r → (i : ℕ) × (d ≡ suc i) × Some_ (Seq SomeNames (Marked mark.CloseParenthesis)) i ls
into_brackets p d b ls r (are_bracketed_names {d = i} {q = q} f) = (i, refl, ((b, q), r, (kind.CloseParenthesis at q ∷ r, (f, λ u z h. no_close h), refl)))
  where
    no_close : {q u : Position} {r z : List Terminal} → kind.CloseParenthesis at q ∷ r ≡ kind.Comma at u ∷ z → ⊥
    no_close h = differ is_comma (sym h) refl refl

into_open : (d : ℕ) (b : List Name) (ls r : List Terminal) → SomeBracketedNames d b ls r → Some_ (Marked mark.OpenParenthesis) d ls
into_open d b ls r (are_bracketed_names {p = p} {ks = ks} f) = (p, ks, refl)

pub brackets_missing : (d : ℕ) (end : Place) (ks : List Terminal) (e : ParseError) → Refuses (Marked mark.OpenParenthesis) d end ks e → RefusesPart SomeBracketedNames d end ks e
brackets_missing d end ks e h = refuses_map {W = Never} (Marked mark.OpenParenthesis) SomeBracketedNames d end ks e (λ d' b ls r s x. into_open d' b ls r x) (λ q x. absurd x) (refuses_part (flat_mark mark.OpenParenthesis h))

no_room : (b : List Name) (ls r : List Terminal) → SomeBracketedNames 0 b ls r → ⊥
no_room b ls r h = elim h [ ]

pub brackets_too_deep : (d : ℕ) (end : Place) (p : Position) (ks m : List Terminal) (e : ParseError) → ks ≡ kind.OpenParenthesis at p ∷ m → d ≡ 0 → e ≡ refused_at 61 0 end ks → RefusesPart SomeBracketedNames d end ks e
brackets_too_deep d end p ks m e is z x = subst (λ (w : ℕ). RefusesPart SomeBracketedNames w end ks e) (sym z) (by_grammar (nested ks ks ks x (decides_in_code decides_there) (dead_here (SomeBracketedNames 0) ks (λ b ls r s f. no_room b ls r f)) decides_there lives))
  where
    lives : Alive SomeBracketedNames 0 ks ks
    lives = subst (λ y. Alive SomeBracketedNames 0 y y) (sym is) (alive_here SomeBracketedNames 0 1 (kind.OpenParenthesis at p) m (kind.Identifier [] at p ∷ kind.CloseParenthesis at p ∷ []) [] (name [] p ∷ []) (omega arith) (are_bracketed_names (are_one_name is_name)))

brackets_inside : (d i : ℕ) (end : Place) (p : Position) (ks all : List Terminal) (e : ParseError) → all ≡ kind.OpenParenthesis at p ∷ ks → d ≡ suc i → RefusesParts Never (Seq SomeNames (Marked mark.CloseParenthesis)) i end ks e → RefusesPart SomeBracketedNames d end all e
brackets_inside d i end p ks all e is z h = subst (λ (w : ℕ). RefusesPart SomeBracketedNames w end all e) (sym z) (subst (λ w. RefusesPart SomeBracketedNames (suc i) end w e) (sym is) (refuses_inside {W = Never} (Seq SomeNames (Marked mark.CloseParenthesis)) SomeBracketedNames i end (kind.OpenParenthesis at p) ks e (into_brackets p) (λ q x. absurd x) h))

pub brackets_names : (d i : ℕ) (end : Place) (p : Position) (ks all : List Terminal) (e : ParseError) → all ≡ kind.OpenParenthesis at p ∷ ks → d ≡ suc i → RefusesHere SomeNames i end ks e → RefusesPart SomeBracketedNames d end all e
brackets_names d i end p ks all e is z h = brackets_inside d i end p ks all e is z (refuses_first SomeNames (Marked mark.CloseParenthesis) i end ks e (λ q x. absurd x) (refuses_part h))

pub brackets_open : (d i : ℕ) (end : Place) (p : Position) (ns : List Name) (ks all m : List Terminal) (e : ParseError) → all ≡ kind.OpenParenthesis at p ∷ ks → d ≡ suc i → SomeNames i ns ks m → Refuses (Marked mark.CloseParenthesis) i end m e → RefusesPart SomeBracketedNames d end all e
brackets_open d i end p ns ks all m e is z f h = brackets_inside d i end p ks all e is z (refuses_after SomeNames (Marked mark.CloseParenthesis) i end ns ks m e known_names f (λ q x. absurd x) (refuses_part (flat_mark mark.CloseParenthesis h)))

pub brackets_whole : (d i : ℕ) (p q : Position) (ns : List Name) (ks all m r : List Terminal) → all ≡ kind.OpenParenthesis at p ∷ ks → d ≡ suc i → SomeNames i ns ks m → m ≡ kind.CloseParenthesis at q ∷ r → SomeBracketedNames d ns all r
brackets_whole d i p q ns ks all m r is z f c = subst (λ (w : ℕ). SomeBracketedNames w ns all r) (sym z) (subst (λ w. SomeBracketedNames (suc i) ns w r) (sym is) (are_bracketed_names {q = q} (subst (λ w. AreNames ns ks w) c f.0)))

-- ---- qualified names

-- what stands behind the first name
abbrev Behind : ℕ → Option Name → List Terminal → List Terminal → Type 0
Behind d None ks r = NoMark mark.Dot ks
Behind d (Some n) ks r = (p : Position) × (m : List Terminal) × (ks ≡ kind.Dot at p ∷ m) × IsName n m r × NoMark mark.Dot r

into_qualified : (d : ℕ) (b : QualifiedName) (ls r : List Terminal) → SomeQualified d b ls r → Some_ (Seq SomeName Behind) d ls
into_qualified d b ls r (is_unqualified {n = n} f, none) = ((n, None), r, (r, f, none))
into_qualified d b ls r (is_qualified {unit = u} {n = n} {p = p} {m = m} f g, none) = ((u, Some n), r, (kind.Dot at p ∷ m, f, (p, m, refl, g, none)))

pub qualified_first : (d : ℕ) (end : Place) (ks : List Terminal) (e : ParseError) → Refuses SomeName d end ks e → RefusesHere SomeQualified d end ks e
qualified_first d end ks e h = refuses_map_by {W = Never} (Seq SomeName Behind) SomeQualified d end ks e (λ d' b ls r s x. into_qualified d' b ls r x) (λ q x. absurd x) (refuses_first_by SomeName Behind d end ks e (λ q x. absurd x) (flat_name h))

behind_dot : (p : Position) (d : ℕ) (x : Option Name) (ls r : List Terminal) → Behind d x (kind.Dot at p ∷ ls) r → Some_ (Seq SomeName NoDot) d ls
behind_dot p d None ls r none = absurd (none p ls refl)
behind_dot p d (Some n) ls r (q, m, e, f, none) = ((n, []), r, (r, subst (λ z. IsName n z r) (sym (ap behind e)) f, (refl, none)))

qualified_behind : (d : ℕ) (end : Place) (n : Name) (ks m : List Terminal) (p : Position) (after : List Terminal) (e : ParseError) → IsName n ks m → m ≡ kind.Dot at p ∷ after → RefusesHere (Seq SomeName NoDot) d end after e → RefusesHere SomeQualified d end ks e
qualified_behind d end n ks m p after e f is h = refuses_map_by {W = Never} (Seq SomeName Behind) SomeQualified d end ks e (λ d' b ls r s x. into_qualified d' b ls r x) (λ q x. absurd x) (refuses_after_by {W = Never} SomeName Behind d end n ks m e known_name f (λ q x. absurd x) (subst (λ z. RefusesHere Behind d end z e) (sym is) (refuses_behind_by (Seq SomeName NoDot) Behind d end (kind.Dot at p) after e (behind_dot p) (λ q x. absurd x) h)))

pub qualified_second : (d : ℕ) (end : Place) (n : Name) (ks m : List Terminal) (p : Position) (after : List Terminal) (e : ParseError) → IsName n ks m → m ≡ kind.Dot at p ∷ after → Refuses SomeName d end after e → RefusesHere SomeQualified d end ks e
qualified_second d end n ks m p after e f is h = qualified_behind d end n ks m p after e f is (refuses_first_by SomeName NoDot d end after e (λ q x. absurd x) (flat_name h))

pub qualified_dot : (d : ℕ) (end : Place) (n n' : Name) (ks m : List Terminal) (p : Position) (after r : List Terminal) (e : ParseError) → IsName n ks m → m ≡ kind.Dot at p ∷ after → IsName n' after r → RefusesHere NoDot d end r e → RefusesHere SomeQualified d end ks e
qualified_dot d end n n' ks m p after r e f is g h = qualified_behind d end n ks m p after e f is (refuses_after_by SomeName NoDot d end n' after r e known_name g (λ q x. absurd x) h)

pub qualified_whole : (d : ℕ) (n n' : Name) (ks m : List Terminal) (p : Position) (after r : List Terminal) → IsName n ks m → m ≡ kind.Dot at p ∷ after → IsName n' after r → NoMark mark.Dot r → SomeQualified d (record { unit = Some n; name = n' }) ks r
qualified_whole d n n' ks m p after r f is g none = (is_qualified (subst (λ z. IsName n ks z) is f) g, none)

pub dot_stands : (d : ℕ) (end : Place) (p : Position) (ks after : List Terminal) (e : ParseError) → ks ≡ kind.Dot at p ∷ after → e ≡ refused_at 9 0 end ks → RefusesHere NoDot d end ks e
dot_stands d end p ks after e is x = syntax ks x (λ d'. dead_here (NoDot d') ks (λ a ls r s f. no_mark_same mark.Dot ls ks (same_sym ks ls s) (subst (λ z. NoMark mark.Dot z) (sym f.0) f.1) p after is))
