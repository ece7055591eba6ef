-- Refusals of headings and their parameters, and the forms that show there.
use Rattle.std.proofs.Common.{◌≡◌, ℕ, Bool, true, false, List, [], ◌∷◌, ◌++◌, Option, Some, None, codes, refl, sym, ap, ◌∙◌, subst}
use Rattle.op_base.specs.declared.place.Place.{Place}
use Rattle.op_parse_code.proofs.Cuts.{same_behind, same_not}
use Rattle.op_parse_code.proofs.Factors.{same_begins}
use Rattle.op_parse_code.proofs.Names.{word_kind}
use Rattle.op_parse_code.proofs.Refusing.{Some_, dead_here, head_same, no_mark_same, Seq, refuses_after_by, refuses_behind_by, refuses_first_by, refuses_map_by}
use Rattle.op_parse_code.specs.Opening.{is_identifier, is_word}
use Rattle.op_parse_code.specs.Refusal.{Phrase, SameHead, Dead, out_of_memory, syntax, nested, in_grammar, refused_at, Refuses}
use Rattle.op_parse_code.specs.Whole.{NoMark, Marked}
use Rattle.op_parse_code.specs.declared.error.ParseError.{ParseError}
use Rattle.op_parse_code.specs.declared.mark.Mark.TheVariants as mark
use Rattle.op_parse_decl.proofs.Combining.{same_sym}
use Rattle.op_parse_decl.proofs.Refusals.{flat_mark, refuses_behind, refuses_map, refuses_part}
use Rattle.op_parse_decl.specs.Combined.{Both, both, Stands, stands, Then, then_, nothing, HasMark, mark_ahead, is_ahead, not_ahead, TellsBehind}
use Rattle.op_parse_decl.specs.Form.{Form, HasForm, is_array_of_const, is_default}
use Rattle.op_parse_decl.specs.HeadingParts.{PartFront, parameters_out}
use Rattle.op_parse_decl.specs.Headings.{IsRoutineKind, is_routine_kind, NoOut, SomeMode, SomeModed, some_moded, SomeParameterType, is_string as is_string_word}
use Rattle.op_parse_decl.specs.Known.{no_mark_by}
use Rattle.op_parse_decl.specs.KnownTypes.{known_names}
use Rattle.op_parse_decl.specs.Properties.{word_is}
use Rattle.op_parse_decl.specs.Refusal.{RefusesHere, Never, RefusesParts, by_grammar}
use Rattle.op_parse_decl.specs.Types.{NoDot, SomeNames, SomeQualified}
use Rattle.op_scan.specs.declared.token.TokenKind.{TokenKind}
use Rattle.op_scan.specs.declared.token.TokenKind.TheVariants as kind
use Rattle.op_tree.proofs.DenoterUnique.{names_begin, qualified_begins}
use Rattle.op_tree.proofs.ExpressionUnique.{Begins, behind, false_true, is_comma, true_false}
use Rattle.op_tree.proofs.StatementUnique.{both as apart, differ}
use Rattle.op_tree.specs.Ends.{IsNot, begins_designator}
use Rattle.op_tree.specs.HeadingGrammar.{routine_kind_of, IsMode, by_value, by_var, by_const, by_out, IsParameterType, is_named, is_string, AreParameters}
use Rattle.op_tree.specs.NameGrammar.{AreNames, are_one_name, are_names, is_name, is_unqualified, is_qualified}
use Rattle.op_tree.specs.Terminal.{Terminal, ◌at◌, IsWord, name}
use Rattle.op_tree.specs.declared.heading.ParameterMode.{ParameterMode}
use Rattle.op_tree.specs.declared.heading.ParameterMode.TheVariants as mode
use Rattle.op_tree.specs.declared.heading.ParameterType.{ParameterType}
use Rattle.op_tree.specs.declared.heading.ParameterType.TheVariants as string_type
use Rattle.op_tree.specs.declared.heading.RoutineKind.{RoutineKind}
use Rattle.op_tree.specs.declared.position.Name.{Name}
use Rattle.op_tree.specs.declared.position.Position.{Position}

-- ---- the word of a heading

abbrev pub kind_ahead : List Terminal → Option RoutineKind
kind_ahead [] = None
kind_ahead (t ∷ ts) = routine_kind_of t.kind

no_kind : (d : ℕ) (sort : RoutineKind) (ks ls r : List Terminal) → kind_ahead ks ≡ None → SameHead ks ls → IsRoutineKind d sort ls r → ⊥
no_kind d sort [] ls r h s (is_routine_kind e) = absurd s
no_kind d sort (t ∷ ks) ls r h s (is_routine_kind e) = nothing_some (sym h ∙ ap (λ (z : Terminal). routine_kind_of z.kind) s ∙ e)
  where
    nothing_some : {x : RoutineKind} → None ≡ Some x → ⊥
    nothing_some g = absurd cc

pub kind_refused : (d : ℕ) (end : Place) (ks : List Terminal) (e : ParseError) → kind_ahead ks ≡ None → e ≡ refused_at 9 0 end ks → RefusesParts Never IsRoutineKind d end ks e
kind_refused d end ks e h x = by_grammar (syntax ks x (λ d'. dead_here (IsRoutineKind d') ks (λ sort ls r s f. no_kind d' sort ks ls r h s f)))

-- ---- how parameters are passed

-- names, and the colon behind them
abbrev Named : Phrase (Both (List Name) (Unit {0}))
Named = Then SomeNames (Stands mark.Colon)

named : (d : ℕ) {ns : List Name} {p : Position} {ks r : List Terminal} → AreNames ns ks (kind.Colon at p ∷ r) → Some_ Named d ks
named d {ns = ns} {r = r} n = (both ns tt, r, then_ (n, no_mark_by mark.Comma is_comma refl refl) stands)

into_var : (p : Position) (d : ℕ) (a : Both ParameterMode (List Name)) (ls r : List Terminal) → SomeModed d a (kind.Var at p ∷ ls) r → Some_ Named d ls
into_var p d a ls r (some_moded by_value n) = false_true (names_begin n)
into_var p d a ls r (some_moded by_var n) = named d n

into_const : (p : Position) (d : ℕ) (a : Both ParameterMode (List Name)) (ls r : List Terminal) → SomeModed d a (kind.Const_ at p ∷ ls) r → Some_ Named d ls
into_const p d a ls r (some_moded by_value n) = false_true (names_begin n)
into_const p d a ls r (some_moded by_const n) = named d n

-- what stands behind a token
abbrev BehindToken : Terminal → Phrase (Both ParameterMode (List Name))
BehindToken t d a ls r = SomeModed d a (t ∷ ls) r

into_out : (out : List ℕ) (p : Position) (d : ℕ) (a : Both ParameterMode (List Name)) (ls r : List Terminal) → Begins is_identifier ls → BehindToken (kind.Identifier out at p) d a ls r → Some_ Named d ls
into_out out p d a ls r b (some_moded by_value (are_one_name is_name)) = false_true b
into_out out p d a ls r b (some_moded by_value (are_names is_name n)) = false_true b
into_out out p d a ls r b (some_moded (by_out w) n) = named d n

-- only the first token counts
same_first : (q : List Terminal) (t : Terminal) (ks ls : List Terminal) → SameHead q (t ∷ ks) → SameHead q (t ∷ ls)
same_first [] t ks ls s = absurd s
same_first (u ∷ q) t ks ls s = s

-- where no list of names begins so, none stands behind the word `out`: behind the word itself one does
no_out : (d : ℕ) (ks q seen ls : List Terminal) (out : List ℕ) (p : Position) (ns : List Name) (z r : List Terminal) → NoOut ks → ks ≡ seen ++ q → ((xs : List Terminal) (a : Both (List Name) (Unit {0})) (y : List Terminal) → SameHead q xs → Named d a (seen ++ xs) y → ⊥) → SameHead q ls → kind.Identifier out at p ∷ z ≡ seen ++ ls → IsWord (codes "out") out → AreNames ns z r → ⊥
no_out d ks q [] ls out p ns z r none e never s is w n = never (kind.Identifier out at p ∷ kind.Colon at p ∷ []) (both (name out p ∷ []) tt) [] (same_first q (kind.Identifier out at p) z (kind.Colon at p ∷ []) (subst (SameHead q) (sym is) s)) (then_ (are_one_name is_name, no_mark_by mark.Comma is_comma refl refl) stands)
no_out d ks q (t ∷ seen) ls out p ns z r none e never s is w n =
    let first : kind.Identifier out at p ∷ (seen ++ q) ≡ ks = ap (λ y. y ∷ (seen ++ q)) (head_same is) ∙ sym e in
    let same : SameHead (seen ++ q) z = subst (SameHead (seen ++ q)) (sym (ap behind is)) (same_behind seen q ls s) in
    none (seen ++ q) (subst (λ y. IsMode mode.Out y (seen ++ q)) first (by_out w)) (same_begins is_identifier z (seen ++ q) (same_sym (seen ++ q) z same) (names_begin n))

no_value : (d : ℕ) (ks q seen ls all : List Terminal) (a : Both ParameterMode (List Name)) (r : List Terminal) → SomeMode mode.Value ks ks → ks ≡ seen ++ q → ((xs : List Terminal) (a : Both (List Name) (Unit {0})) (y : List Terminal) → SameHead q xs → Named d a (seen ++ xs) y → ⊥) → SameHead q ls → all ≡ seen ++ ls → SameHead ks all → SomeModed d a all r → ⊥
no_value d ks q seen ls all a r m e never s is same (some_moded by_value n) = let w = named d n in never ls w.0 w.1 s (subst (λ z. Named d w.0 z w.1) is w.2)
no_value d ks q seen ls all a r m e never s is same (some_moded (by_var {p = p} {r = z}) n) = no_mark_same mark.Var ks all same m.1 p z refl
no_value d ks q seen ls all a r m e never s is same (some_moded (by_const {p = p} {r = z}) n) = no_mark_same mark.Const_ ks all same m.2 p z refl
no_value d ks q seen ls all a r m e never s is same (some_moded (by_out {out = out} {p = p} {r = z} w) n) = no_out d ks q seen ls out p _ z _ m.3 e never s is w n

dead_value : (d : ℕ) (ks q : List Terminal) → SomeMode mode.Value ks ks → Dead (Named d) ks q → Dead (SomeModed d) ks q
dead_value d ks q m (seen, e, never) = (seen, e, λ ls a r s x. no_value d ks q seen ls (seen ++ ls) a r m e never s refl (subst (λ z. SameHead z (seen ++ ls)) (sym e) (same_behind seen q ls s)) x)

by_value_refused : (d : ℕ) (end : Place) (ks : List Terminal) (e : ParseError) → SomeMode mode.Value ks ks → RefusesHere Named d end ks e → RefusesHere SomeModed d end ks e
by_value_refused d end ks e m (out_of_memory x) = out_of_memory x
by_value_refused d end ks e m (syntax q x never) = syntax q x (λ d'. dead_value d' ks q m (never d'))
by_value_refused d end ks e m (nested q z n x w never v t) = absurd t
by_value_refused d end ks e m (in_grammar feature q x f) = in_grammar feature q x f

moded_refused : (m : ParameterMode) (d : ℕ) (end : Place) (ks z : List Terminal) (e : ParseError) → SomeMode m ks z → RefusesHere Named d end z e → RefusesHere SomeModed d end ks e
moded_refused mode.Value d end ks z e m h = by_value_refused d end ks e (refl, m.1, m.2, m.3) (subst (λ y. RefusesHere Named d end y e) (sym m.0) h)
moded_refused mode.Var d end ks z e (by_var {p = p}) h = refuses_behind_by Named SomeModed d end (kind.Var at p) z e (into_var p) (λ q x. absurd x) h
moded_refused mode.Const_ d end ks z e (by_const {p = p}) h = refuses_behind_by Named SomeModed d end (kind.Const_ at p) z e (into_const p) (λ q x. absurd x) h
moded_refused mode.Out d end ks z e (by_out {out = out} {p = p} w, b) h = refuses_behind_by {W = Never} (BehindToken (kind.Identifier out at p)) SomeModed d end (kind.Identifier out at p) z e (λ d' a ls r x. (a, r, x)) (λ q x. absurd x) (refuses_map_by Named (BehindToken (kind.Identifier out at p)) d end z e (λ d' a ls r s x. into_out out p d' a ls r (same_begins is_identifier z ls s b) x) (λ q x. absurd x) h)

into_named_parts : (d : ℕ) (x : Both (List Name) (Unit {0})) (ls r : List Terminal) → Named d x ls r → Some_ (Seq SomeNames (Marked mark.Colon)) d ls
into_named_parts d x ls r (then_ {a = ns} {m = m} f (stands {p = p})) = ((ns, p), r, (m, f, refl))

pub moded_names : (m : ParameterMode) (d : ℕ) (end : Place) (ks z : List Terminal) (e : ParseError) → SomeMode m ks z → RefusesHere SomeNames d end z e → RefusesParts Never SomeModed d end ks e
moded_names m d end ks z e f h = refuses_part (moded_refused m d end ks z e f (refuses_map_by {W = Never} (Seq SomeNames (Marked mark.Colon)) Named d end z e (λ d' x ls r s y. into_named_parts d' x ls r y) (λ q x. absurd x) (refuses_first_by SomeNames (Marked mark.Colon) d end z e (λ q x. absurd x) h)))

pub moded_colon : (m : ParameterMode) (d : ℕ) (end : Place) (ns : List Name) (ks z l : List Terminal) (e : ParseError) → SomeMode m ks z → SomeNames d ns z l → Refuses (Marked mark.Colon) d end l e → RefusesParts Never SomeModed d end ks e
moded_colon m d end ns ks z l e f g h = refuses_part (moded_refused m d end ks z e f (refuses_map_by {W = Never} (Seq SomeNames (Marked mark.Colon)) Named d end z e (λ d' x ls r s y. into_named_parts d' x ls r y) (λ q x. absurd x) (refuses_after_by SomeNames (Marked mark.Colon) d end ns z l e known_names g (λ q x. absurd x) (flat_mark mark.Colon h))))

is_mode : (m : ParameterMode) {ks z : List Terminal} → SomeMode m ks z → IsMode m ks z
is_mode mode.Value {ks = ks} m = subst (IsMode mode.Value ks) m.0 by_value
is_mode mode.Var m = m
is_mode mode.Const_ m = m
is_mode mode.Out m = m.0

pub moded_whole : (m : ParameterMode) {d : ℕ} {ns : List Name} {p : Position} {ks z l r : List Terminal} → SomeMode m ks z → SomeNames d ns z l → l ≡ kind.Colon at p ∷ r → SomeModed d (both m ns) ks r
moded_whole m {ns = ns} {z = z} f n is = some_moded (is_mode m f) (subst (λ y. AreNames ns z y) is n.0)

pub var_mode : {p : Position} {ks r : List Terminal} → ks ≡ kind.Var at p ∷ r → SomeMode mode.Var ks r
var_mode {r = r} e = subst (λ z. IsMode mode.Var z r) (sym e) by_var

pub const_mode : {p : Position} {ks r : List Terminal} → ks ≡ kind.Const_ at p ∷ r → SomeMode mode.Const_ ks r
const_mode {r = r} e = subst (λ z. IsMode mode.Const_ z r) (sym e) by_const

pub out_mode : {k : TokenKind} {p : Position} {ks : List Terminal} → is_word (codes "out") k ≡ true → Begins is_identifier ks → SomeMode mode.Out (k at p ∷ ks) ks
out_mode {k = k} {p = p} {ks = ks} h b = let w = word_kind (codes "out") k h in (subst (λ z. IsMode mode.Out (z at p ∷ ks) ks) (sym w.0) (by_out w.1), b)

pub no_word_no_out : {k : TokenKind} {p : Position} {ks : List Terminal} → is_word (codes "out") k ≡ false → NoOut (k at p ∷ ks)
no_word_no_out h r (by_out {out = out} w) b = word_is (codes "out") out w h

pub no_name_no_out : {t : Terminal} {ks : List Terminal} → IsNot is_identifier ks → NoOut (t ∷ ks)
no_name_no_out {ks = ks} h r (by_out w) b = apart is_identifier ks b h

-- ---- types of parameters

type_begins : {t : ParameterType} {ks r : List Terminal} → IsParameterType t ks r → Begins begins_designator ks
type_begins (is_named (is_unqualified is_name)) = refl
type_begins (is_named (is_qualified is_name n)) = refl
type_begins is_string = refl

pub type_refused : (d : ℕ) (end : Place) (ks : List Terminal) (e : ParseError) → IsNot begins_designator ks → e ≡ refused_at 9 0 end ks → RefusesParts Never SomeParameterType d end ks e
type_refused d end ks e h x = by_grammar (syntax ks x (λ d'. dead_here (SomeParameterType d') ks (λ t ls r s f. apart begins_designator ls (type_begins f.0) (same_not begins_designator ks ls s h))))

pub string_kind : (k : TokenKind) → is_string_word k ≡ true → k ≡ kind.String
string_kind kind.String h = refl
string_kind other h = absurd cc

into_string : (p : Position) (d : ℕ) (t : ParameterType) (ls r : List Terminal) → SomeParameterType d t (kind.String at p ∷ ls) r → Some_ NoDot d ls
into_string p d t ls r (is_named q, none) = false_true (qualified_begins q)
into_string p d t ls r (is_string, none) = ([], r, (refl, none))

pub string_refused : (d : ℕ) (end : Place) (k : TokenKind) (p : Position) (ks : List Terminal) (e : ParseError) → k ≡ kind.String → RefusesHere NoDot d end ks e → RefusesParts Never SomeParameterType d end (k at p ∷ ks) e
string_refused d end k p ks e is h = subst (λ z. RefusesParts Never SomeParameterType d end (z at p ∷ ks) e) (sym is) (refuses_behind NoDot SomeParameterType d end (kind.String at p) ks e (into_string p) (λ q x. absurd x) (refuses_part h))

pub string_whole : (d : ℕ) {k : TokenKind} {p : Position} {ks : List Terminal} → k ≡ kind.String → NoMark mark.Dot ks → SomeParameterType d (string_type.String p) (k at p ∷ ks) ks
string_whole d {p = p} {ks = ks} is none = (subst (λ z. IsParameterType (string_type.String p) (z at p ∷ ks) ks) (sym is) is_string, none)

into_named : (ks : List Terminal) → IsNot is_string_word ks → (d : ℕ) (t : ParameterType) (ls r : List Terminal) → SameHead ks ls → SomeParameterType d t ls r → Some_ SomeQualified d ls
into_named ks h d t ls r s (is_named {q = q} f, none) = (q, r, (f, none))
into_named ks h d t ls r s (is_string, none) = true_false (same_not is_string_word ks ls s h)

pub named_refused : (d : ℕ) (end : Place) (ks : List Terminal) (e : ParseError) → IsNot is_string_word ks → RefusesHere SomeQualified d end ks e → RefusesParts Never SomeParameterType d end ks e
named_refused d end ks e h f = refuses_map SomeQualified SomeParameterType d end ks e (into_named ks h) (λ q x. absurd x) (refuses_part f)

-- ---- forms

abbrev is_close : TokenKind → Bool
is_close kind.CloseParenthesis = true
is_close other = false

pub array_of_const : {p q u : Position} {ks m n r : List Terminal} → ks ≡ kind.Array at p ∷ m → m ≡ kind.Of at q ∷ n → n ≡ kind.Const_ at u ∷ r → HasForm 18 ks ks n
array_of_const {p = p} {q = q} {u = u} {ks = ks} {r = r} e e1 e2 = ([], ks, refl, subst (λ z. Form 18 ks ks z) (sym e2) (subst (λ z. Form 18 z z (kind.Const_ at u ∷ r)) (sym (e ∙ ap (λ z. kind.Array at p ∷ z) (e1 ∙ ap (λ z. kind.Of at q ∷ z) e2))) is_array_of_const))

pub default_told : {p : Position} {q r : List Terminal} → q ≡ kind.Equal at p ∷ r → TellsBehind PartFront 14 q
default_told e d a ks (then_ stands (is_ahead h nothing)) = no_close h e
  where
    no_close : {A : Type 0} {p : Position} {q r : List Terminal} → HasMark mark.CloseParenthesis q → q ≡ kind.Equal at p ∷ r → A
    no_close mark_ahead e = differ is_close e refl refl
default_told {q = q} e d a ks (then_ (stands {r = ls}) (not_ahead {b = as_} none f)) = ([], ks, refl, subst (λ z. Form 14 ks z z) (sym e) (is_default (subst (λ z. AreParameters as_ ls z) e (parameters_out f))))
