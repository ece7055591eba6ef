-- Parts with nothing behind them.
use Rattle.std.proofs.Common.{◌≡◌, ℕ, List, [], ◌∷◌, length, arith, refl, sym, ap, subst}
use Rattle.op_base.specs.declared.place.Place.{Place}
use Rattle.op_parse_code.proofs.Refusing.{Some_, Seq, Known, dead_here}
use Rattle.op_parse_code.proofs.Living.{hands_as}
use Rattle.op_parse_decl.proofs.Begins.{ProgramBegun, UnitBegun, program_opens, unit_opens, whole_alive}
use Rattle.op_parse_decl.proofs.Refusals.{refuses_after, refuses_map}
use Rattle.op_parse_code.specs.Refusal.{Phrase, SameHead, Shown, Alive, syntax, refused_at}
use Rattle.op_parse_decl.specs.Refusal.{Never, RefusesPart, RefusesParts, by_grammar}
use Rattle.op_parse_code.specs.declared.error.ParseError.{ParseError}
use Rattle.op_parse_code.specs.Opening.{kind_of}
use Rattle.op_parse_code.specs.Whole.{NoMark}
use Rattle.op_parse_code.specs.declared.mark.Mark.TheVariants as mark
use Rattle.op_parse_code.proofs.Refusing.{no_mark_same}
use Rattle.op_parse_decl.specs.Declarations.{SomeProgram, SomeUnit, Whole, WholeFile}
use Rattle.op_parse_decl.specs.FileParts.{program_no_unit}
use Rattle.op_tree.specs.File.{File, program, unit}
use Rattle.op_tree.specs.FileGrammar.{is_unit}
use Rattle.op_tree.specs.declared.position.Position.{Position}
use Rattle.op_scan.specs.declared.token.Token.{Token}
use Rattle.op_tree.specs.Terminal.{Terminal, ◌at◌, terminals}

pub refuses_whole : {A : Type 0} {W : Shown} {P : Phrase A} {d : ℕ} {end : Place} {ks : List Terminal} {e : ParseError} → RefusesParts W P d end ks e → RefusesParts W (Whole P) d end ks e
refuses_whole {W = W} {P = P} {d = d} {end = end} {ks = ks} {e = e} h = refuses_map {W = W} P (Whole P) d end ks e (λ d' b ls r s x. (b, r, x.0)) (λ q x. x) h

pub nothing_left : {A : Type 0} (P : Phrase A) {d : ℕ} {a : A} {ks : List Terminal} (ts : List Token) → length ts ≡ 0 → P d a ks (terminals ts) → P d a ks []
nothing_left P [] h p = p
nothing_left P (t ∷ ts) h p = absurd (omega (arith, h))

abbrev NoToken : Phrase (Unit {0})
NoToken d u ks r = ks ≡ []

pub something_left : {A : Type 0} {W : Shown} {P : Phrase A} {d : ℕ} {end : Place} {a : A} {ks r : List Terminal} {t : Terminal} {e : ParseError} → Known P → P d a ks (t ∷ r) → e ≡ refused_at 9 0 end (t ∷ r) → RefusesParts W (Whole P) d end ks e
something_left {W = W} {P = P} {d = d} {end = end} {a = a} {ks = ks} {r = r} {t = t} {e = e} known p x =
    let rest : RefusesParts Never NoToken d end (t ∷ r) e = by_grammar (syntax (t ∷ r) x (λ d'. dead_here (NoToken d') (t ∷ r) (λ u ls y s f. subst (λ z. SameHead (t ∷ r) z) f s))) in
    refuses_map {W = Never} (Seq P NoToken) (Whole P) d end ks e (λ d' b ls y s f. ((b, tt), y, (y, f.0, f.1))) (λ q x. absurd x) (refuses_after P NoToken d end a ks (t ∷ r) e known p (λ q x. x) rest)

-- ---- files

into_unit : (p : Position) (ks : List Terminal) (d : ℕ) (f : File) (ls r : List Terminal) → SameHead (kind_of mark.Unit at p ∷ ks) ls → WholeFile d f ls r → Some_ (Whole SomeUnit) d ls
into_unit p ks d (unit u) ls r s f = (u, r, f)
into_unit p ks d (program g) ls r s f = absurd (marked ls s (program_no_unit f.0))
  where
    marked : (ls : List Terminal) → SameHead (kind_of mark.Unit at p ∷ ks) ls → NoMark mark.Unit ls → ⊥
    marked [] s never = s
    marked (t ∷ ls) s never = never p ls (ap (λ z. z ∷ ls) (sym s))

pub unit_refused : {d : ℕ} {end : Place} {p : Position} {ks r : List Terminal} {e : ParseError} → ks ≡ kind_of mark.Unit at p ∷ r → RefusesParts UnitBegun (Whole SomeUnit) d end ks e → RefusesPart WholeFile d end ks e
unit_refused {d = d} {end = end} {p = p} {ks = ks} {r = r} {e = e} is h = refuses_map (Whole SomeUnit) WholeFile d end ks e (λ d' f ls s b x. into_unit p r d' f ls s (subst (λ z. SameHead z ls) is b) x) (λ q x. hands_as (Whole SomeUnit) WholeFile d ks (λ i u ls r s f. (unit u, f)) q (whole_alive (unit_opens d ks q x))) h

into_program : (ks : List Terminal) → NoMark mark.Unit ks → (d : ℕ) (f : File) (ls r : List Terminal) → SameHead ks ls → WholeFile d f ls r → Some_ (Whole SomeProgram) d ls
into_program ks none d (program g) ls r s f = (g, r, f)
into_program ks none d (unit u) [] r s (x, z) = elim x [ ]
into_program ks none d (unit u) (t ∷ ls) r s (is_unit a b c e g h, z) = absurd (no_mark_same mark.Unit ks (t ∷ ls) s none t.position ls refl)

pub program_refused : {d : ℕ} {end : Place} {ks : List Terminal} {e : ParseError} → NoMark mark.Unit ks → RefusesParts ProgramBegun (Whole SomeProgram) d end ks e → RefusesPart WholeFile d end ks e
program_refused {d = d} {end = end} {ks = ks} {e = e} none h = refuses_map (Whole SomeProgram) WholeFile d end ks e (into_program ks none) (λ q x. hands_as (Whole SomeProgram) WholeFile d ks (λ i g ls r s f. (program g, f)) q (whole_alive (program_opens d ks q x))) h
