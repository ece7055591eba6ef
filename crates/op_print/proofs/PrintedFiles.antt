-- Files can be printed and read again.
use Rattle.std.proofs.Common.{◌≡◌, ℕ, List, [], ◌∷◌, inl, inr, map, Option, Some, None, refl, sym, ap, ◌∙◌, subst, ap₂}
use Rattle.std.specs.Option.{option_map}
use Rattle.op_base.proofs.Tests.{ap₃}
use Rattle.op_print.proofs.Printed.{here, Places, tokens, Able, Printed, printed, Again, again, HasOne, placed}
use Rattle.op_print.proofs.PrintedDeclarations.{printed_begin_end, printed_declarations, printed_interface_declarations}
use Rattle.op_print.proofs.PrintedDenoters.{printed_brackets, printed_names}
use Rattle.op_print.proofs.PrintedStatements.{printed_block}
use Rattle.op_print.proofs.Scanned.{BeginsWithWord, scanned_text, scanned_first}
use Rattle.op_print.proofs.TokensKept.{tokens_able}
use Rattle.op_print.specs.DeclarationDrafts.{begin_end_draft, declaration_draft, declarations_draft}
use Rattle.op_print.specs.NameDrafts.{name_draft, names_draft}
use Rattle.op_print.specs.Page.{Draft, word, tight, word_at, tight_at, line, ◌&◌, optional, after, empty_page}
use Rattle.op_print.specs.Print.{file_draft, program_heading_draft, program_draft, tail_draft, uses_draft}
use Rattle.op_print.specs.Scanned.{AreSpellable, Sign, first_said, AreSigned, signs_before, signs_of, ScansTo, SpelledAgain}
use Rattle.op_print.specs.Unplaced.{nowhere, bare_position, bare_names, bare_program_heading, bare_declarations, bare_statements, bare_tail, unplaced}
use Rattle.op_scan.specs.Scan.{StandFor}
use Rattle.op_scan.specs.declared.token.Switches.{Switches}
use Rattle.op_scan.specs.declared.token.Token.{Token}
use Rattle.op_scan.specs.declared.token.Tokens.{Tokens}
use Rattle.op_scan.specs.declared.token.TokenKind.TheVariants as kind
use Rattle.op_tree.proofs.FileUnique.{heading_with, part_with, program_with, tail_with, unit_with}
use Rattle.op_tree.proofs.StatementUnique.{same4}
use Rattle.op_tree.specs.Declaration.{Declaration, constants, types, variables, heading, routine, Declarations, no_declarations, declarations}
use Rattle.op_tree.specs.File.{File, program, unit, Tail}
use Rattle.op_tree.specs.FileGrammar.{IsProgramHeading, has_no_heading, has_name, has_name_and_list, IsUses, has_no_uses, has_uses, IsTail, has_end_alone, has_block, has_finalization, has_initialization, has_both, BeginAt, IsFile, is_program, is_unit, Spells}
use Rattle.op_tree.specs.NameGrammar.{is_name}
use Rattle.op_tree.specs.Statement.{Statements}
use Rattle.op_tree.specs.StatementGrammar.{is_begin_end}
use Rattle.op_tree.specs.Terminal.{Terminal, terminals, ◌at◌, name}
use Rattle.op_tree.specs.declared.file.ProgramHeading.{ProgramHeading}
use Rattle.op_tree.specs.declared.position.Name.{Name}
use Rattle.op_tree.specs.declared.position.Position.{Position}

-- ---- headings and uses

printed_program_heading : {d : ℕ} {h : Option ProgramHeading} {ks r : List Terminal} → IsProgramHeading d h ks r → Able ks → Printed (IsProgramHeading d) (option_map bare_program_heading) h (optional program_heading_draft h) r
printed_program_heading has_no_heading g = printed tt g (λ p z. again None has_no_heading refl)
printed_program_heading (has_name (is_name {text = text} {p = n})) g = printed (tt, (g.1.0, (tt, tt))) g.1.1.1 (λ p z. again (Some (heading_with (name text (here p.1.0 n)) [])) (has_name is_name) refl)
printed_program_heading (has_name_and_list (is_name {text = text} {p = n}) ns) g =
    let u = printed_brackets ns g.1.1 in
    printed (tt, (g.1.0, (u.words, tt))) u.able.1 (λ p z. let a = u.again p.1.1.0 _ in again (Some (heading_with (name text (here p.1.0 n)) a.part)) (has_name_and_list is_name a.is) (ap (λ x. Some (heading_with (name text (bare_position n)) x)) a.same))

uses_is : (ns : List Name) → HasOne (map name_draft ns) → uses_draft ns ≡ line & word kind.Uses & names_draft ns & tight kind.Semicolon
uses_is [] h = absurd h
uses_is (n ∷ ns) h = refl

printed_uses : {ns : List Name} {ks r : List Terminal} → IsUses ns ks r → Able ks → Printed IsUses bare_names ns (uses_draft ns) r
printed_uses has_no_uses g = printed tt g (λ p z. again [] has_no_uses refl)
printed_uses {r = r} (has_uses {ns = n0} ns) g =
    let u = printed_names ns g.1 in
    subst (λ d. Printed IsUses bare_names n0 d r) (sym (uses_is n0 u.some)) (printed (tt, (tt, (u.all.words, tt))) u.all.able.1 (λ p z. let a = u.all.again p.1.1.0 _ in again a.part (has_uses a.is) a.same))

-- ---- tails

printed_tail : {d : ℕ} {t : Tail} {ks r : List Terminal} → IsTail d t ks r → Able ks → Printed (IsTail d) bare_tail t (tail_draft t) r
printed_tail has_end_alone g = printed (tt, (tt, (tt, tt))) g.1 (λ p z. again (tail_with None None) has_end_alone refl)
printed_tail (has_block (is_begin_end ss)) g =
    let u = printed_block ss g.1 in
    printed (tt, ((tt, u.words), (tt, tt))) u.able.1 (λ p z. let a = u.again p.1.0.1 _ in again (tail_with (Some a.part) None) (has_initialization a.is) (ap (λ x. tail_with (Some x) None) a.same))
printed_tail (has_finalization ss) g =
    let u = printed_block ss g.1 in
    printed (tt, (tt, ((tt, u.words), tt))) u.able.1 (λ p z. let a = u.again p.1.1.0.1 _ in again (tail_with None (Some a.part)) (has_finalization a.is) (ap (λ x. tail_with None (Some x)) a.same))
printed_tail (has_initialization ss) g =
    let u = printed_block ss g.1 in
    printed (tt, ((tt, u.words), (tt, tt))) u.able.1 (λ p z. let a = u.again p.1.0.1 _ in again (tail_with (Some a.part) None) (has_initialization a.is) (ap (λ x. tail_with (Some x) None) a.same))
printed_tail (has_both ss ts) g =
    let u = printed_block ss g.1 in
    let v = printed_block ts u.able.1 in
    printed (tt, ((tt, u.words), ((tt, v.words), tt))) v.able.1 (λ p z. let a = u.again p.1.0.1 _ in let b = v.again p.1.1.0.1 _ in again (tail_with (Some a.part) (Some b.part)) (has_both a.is b.is) (ap₂ (λ x y. tail_with (Some x) (Some y)) a.same b.same))

-- ---- files

abbrev Begins : List Terminal → Type 0
Begins ks = (p : Position) × BeginAt p ks

begins : (d : Draft) (p : Places d) (ks : List Terminal) → Begins ks → Begins (tokens d p ks)
begins (word k) p ks b = (p, refl)
begins (tight k) p ks b = (p, refl)
begins (word_at s k) p ks b = (record { place = p; switches = s }, refl)
begins (tight_at s k) p ks b = (record { place = p; switches = s }, refl)
begins (a & c) p ks b = begins a p.0 (tokens c p.1 ks) (begins c p.1 ks b)
begins other p ks b = b

-- a program begins with a reserved word
declaration_begins : (e : Declaration) → BeginsWithWord (declaration_draft e)
declaration_begins (constants cs) = inr (tt, inl tt)
declaration_begins (types ts) = inr (tt, inl tt)
declaration_begins (variables vs) = inr (tt, inl tt)
declaration_begins (heading m) = inr (tt, inl (inl tt))
declaration_begins (routine h ds b) = inr (tt, inl (inl tt))

declarations_begin : (es : Declarations) (ss : Statements) → BeginsWithWord (declarations_draft es & begin_end_draft ss)
declarations_begin no_declarations ss = inr (tt, inr (tt, inl tt))
declarations_begin (declarations e es) ss = inl (inl (declaration_begins e))

uses_begin : (ns : List Name) (es : Declarations) (ss : Statements) → BeginsWithWord (uses_draft ns & declarations_draft es & begin_end_draft ss)
uses_begin [] es ss = inr (tt, declarations_begin es ss)
uses_begin (n ∷ ns) es ss = inl (inr (tt, inl tt))

program_begins : (h : Option ProgramHeading) (ns : List Name) (es : Declarations) (ss : Statements) → BeginsWithWord (optional program_heading_draft h & uses_draft ns & declarations_draft es & begin_end_draft ss)
program_begins None ns es ss = inr (tt, uses_begin ns es ss)
program_begins (Some h) ns es ss = inl (inl tt)

-- the first of the tokens has these switches
abbrev FirstHas : Switches → List Terminal → Type 0
FirstHas s [] = Unit {0}
FirstHas s (t ∷ ts) = t.position.switches ≡ s

position_switches : (s : Switches) (q : Position) (ks : List Terminal) → BeginAt q ks → FirstHas s ks → q.switches ≡ s
position_switches s q [] b h = absurd b
position_switches s q (t ∷ ks) b h = sym (ap (λ z. z.switches) b) ∙ h

-- of a program the first token has the switches
abbrev BeginsAs : File → List Terminal → Type 0
BeginsAs (program pr) ks = FirstHas pr.position.switches ks
BeginsAs (unit u) ks = Unit {0}

-- A file with this draft: each of its words can be a token, and wherever these stand with the file's switches they spell the file again.
record PrintedFile (d : ℕ) (f : File) : Type 0 where
  words : AreSpellable (file_draft f)
  again : (p : Places (file_draft f)) (z : List Terminal) → BeginsAs f (tokens (file_draft f) p z) → Again (λ y. IsFile d y (tokens (file_draft f) p z) z) unplaced f

printed_file : {d : ℕ} {f : File} {ks r : List Terminal} → IsFile d f ks r → Able ks → PrintedFile d f
printed_file {f = program pr} (is_program b h us es ss) g =
    let u = printed_program_heading h g in
    let v = printed_uses us u.able in
    let w = printed_declarations es v.able in
    let x = printed_begin_end ss w.able in
    record {
      words = (tt, ((u.words, (v.words, (w.words, x.words))), (tt, tt)));
      again = λ p z t.
          let ks = tokens (program_draft pr) p.1.0 (kind.Dot at p.1.1.0 ∷ z) in
          let q = begins (program_draft pr) p.1.0 (kind.Dot at p.1.1.0 ∷ z) (p.1.1.0, refl) in
          let a = u.again p.1.0.0 _ in
          let b = v.again p.1.0.1.0 _ in
          let e = w.again p.1.0.1.1.0 _ in
          let i = x.again p.1.0.1.1.1 _ in
          let same = position_switches pr.position.switches q.0 ks q.1 t in
          again (program_with q.0 a.part b.part e.part i.part) (is_program q.1 a.is b.is e.is i.is)
          (ap (λ y. program_with (record { place = nowhere; switches = y }) (option_map bare_program_heading a.part) (bare_names b.part) (bare_declarations e.part) (bare_statements i.part)) same ∙ same4 (program_with (bare_position pr.position)) a.same b.same e.same i.same);
    }
printed_file (is_unit {p = q} (is_name {text = text} {p = n}) us is ls ds t) g =
    let u = printed_uses us g.1.1.1.1 in
    let v = printed_interface_declarations is u.able in
    let w = printed_uses ls v.able.1 in
    let x = printed_declarations ds w.able in
    let y = printed_tail t x.able in
    record {
      words = ((tt, (g.1.0, (tt, (tt, (tt, ((u.words, v.words), (tt, (tt, ((w.words, x.words), y.words))))))))), (tt, tt));
      again = λ p z t.
          let a = u.again p.0.1.1.1.1.1.0.0 _ in
          let b = v.again p.0.1.1.1.1.1.0.1 _ in
          let c = w.again p.0.1.1.1.1.1.1.1.1.0.0 _ in
          let e = x.again p.0.1.1.1.1.1.1.1.1.0.1 _ in
          let i = y.again p.0.1.1.1.1.1.1.1.1.1 _ in
          again (unit_with (here p.0.0 q) (name text (here p.0.1.0 n)) (part_with a.part b.part) (part_with c.part e.part) i.part) (is_unit is_name a.is b.is c.is e.is i.is) (ap₃ (unit_with (bare_position q) (name text (bare_position n))) (ap₂ part_with a.same b.same) (ap₂ part_with c.same e.same) i.same);
    }

-- ---- what is scanned

pub scanned_file : (f : File) → AreSpellable (file_draft f) → (n : ℕ) → ScansTo n (after empty_page (file_draft f)).text (signs_of f)
scanned_file (program pr) h n = scanned_first pr.position.switches (program_draft pr & tight kind.Dot & line) (inl (program_begins pr.heading pr.uses pr.declarations pr.statements)) h.1 n
scanned_file (unit u) h n = scanned_text (file_draft (unit u)) h n

none_left : (tokens : List Token) → AreSigned tokens [] → terminals tokens ≡ []
none_left [] h = refl
none_left (t ∷ tokens) h = absurd h

-- what is said of the first token, and of the tokens besides
first_has : (s : Switches) (ts : List Token) (signs : List Sign) → AreSigned ts (first_said s signs) → FirstHas s (terminals ts)
first_has s [] signs h = tt
first_has s (t ∷ ts) [] h = absurd h
first_has s (t ∷ ts) (g ∷ signs) h = h.1.0

signed_besides : (s : Switches) (ts : List Token) (signs : List Sign) → AreSigned ts (first_said s signs) → AreSigned ts signs
signed_besides s [] [] h = h
signed_besides s [] (g ∷ signs) h = h
signed_besides s (t ∷ ts) [] h = h
signed_besides s (t ∷ ts) (g ∷ signs) h = (h.0, h.1.1, h.2)

signed_file : (f : File) (ts : List Token) → AreSigned ts (signs_of f) → AreSigned ts (signs_before (file_draft f) []) × BeginsAs f (terminals ts)
signed_file (program pr) ts h =
    let s = pr.position.switches in
    let signs = signs_before (file_draft (program pr)) [] in
    (signed_besides s ts signs h, first_has s ts signs h)
signed_file (unit u) ts h = (h, tt)

pub printed_again : (f : File) (m : ℕ) (bytes : List ℕ) (source : Tokens) → StandFor m bytes source → Spells f (terminals source.list) → (n : ℕ) → SpelledAgain n f (after empty_page (file_draft f)).text
printed_again f m bytes source g s n =
    let u = printed_file s (tokens_able g) in
    let t = scanned_file f u.words n in
    let h = signed_file f t.tokens t.signed in
    let q = placed (file_draft f) t.tokens [] h.0 in
    let are : terminals t.tokens ≡ tokens (file_draft f) q.places [] = q.are ∙ ap (tokens (file_draft f) q.places) (none_left q.rest q.signed) in
    let a = u.again q.places [] (subst (BeginsAs f) are h.1) in
    record { tokens = t.tokens; end = t.end; outcome = t.outcome; tree = a.part; spells = subst (λ z. IsFile 200 a.part z []) (sym are) a.is; same = a.same }
