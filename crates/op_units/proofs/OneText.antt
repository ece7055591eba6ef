-- A text has one tree or breaks a rule, and so has a file.
use Rattle.std.proofs.Common.{◌≡◌, ℕ, true, false, List, [], ◌∷◌, ◌++◌, Option, Some, None, if◌then◌else◌, map, refl, sym, ap, subst, ◌∙◌, inl, inr}
use Rattle.std.specs.Str.{bytes_eq}
use Rattle.op_base.specs.declared.place.Place.{Place}
use Rattle.op_base.specs.declared.rule.Refusal.{Refusal}
use Rattle.op_core.specs.Faults.{broken}
use Rattle.op_parse_code.specs.Refusal.{Alive, Dead, Leads, RefusesBy, SameHead, in_grammar, nested, out_of_memory, refused_at, syntax}
use Rattle.op_parse_code.specs.declared.error.ParseError.{ParseError}
use Rattle.op_parse_code.specs.declared.error.ParseError.TheVariants as parsed
use Rattle.op_parse_decl.specs.Declarations.{WholeFile}
use Rattle.op_parse_decl.specs.Refusal as part
use Rattle.op_parse_decl.specs.Types.{SomeDenoter}
use Rattle.op_scan.proofs.Scanning.{Scans-unique}
use Rattle.op_scan.specs.Scan.{Outcome, whole, refused, IsFirstRefusal, StandFor}
use Rattle.op_scan.specs.declared.token.Token.{Token}
use Rattle.op_scan.specs.declared.token.Tokens.{Tokens}
use Rattle.op_tree.proofs.FileUnique.{unique_file}
use Rattle.op_tree.specs.File.{File, file_of, program, unit}
use Rattle.op_tree.specs.FileGrammar.{Spells}
use Rattle.op_tree.specs.Terminal.{Terminal, terminals}
use Rattle.op_tree.specs.declared.file.Tree.{Tree}
use Rattle.op_tree.specs.declared.file.Tree.TheVariants as tree
use Rattle.op_tree.specs.declared.position.Name.{Name}
use Rattle.op_units.proofs.Forms.{no_grammar_form}
use Rattle.op_units.specs.Forms.{HasNoForm}
use Rattle.op_units.specs.Names.{lower, implementation_uses, interface_uses, use_of, uses_of}
use Rattle.op_units.specs.OneWalk.{AreShown, SameRefusal}
use Rattle.op_units.specs.Reading.{Breaks, IsShown, Reads, ReadsTokens, RefusedByGrammar, by_form, by_grammar, by_spelling, by_tokens, by_word}
use Rattle.op_units.specs.Walk.{FileBreaks, IsFile, by_name, by_text, by_uses, misnamed, own_names, used_again}
use Rattle.op_units.specs.declared.uses.Use.{Use}

none_some : {A : Type 0} {x : A} → None ≡ Some x → ⊥
none_some e = cc

same_some : {A : Type 0} {x y : A} → Some x ≡ Some y → x ≡ y
same_some e = cc

-- ---- tokens

whole_same : {ts us : List Token} {p q : Place} → whole ts p ≡ whole us q → (ts ≡ us) × (p ≡ q)
whole_same e = (cc, cc)

same_tokens : (number : ℕ) (bytes : List ℕ) (one other : Tokens) → StandFor number bytes one → StandFor number bytes other → one ≡ other
same_tokens number bytes one other s t =
    let e = whole_same (Scans-unique _ _ _ _ _ _ s _ t) in
    ap (λ l. put l one.end) e.0 ∙ ap (λ p. put other.list p) e.1
  where
    put : List Token → Place → Tokens
    put l p = record { list = l; end = p }

not_both : (number : ℕ) (bytes : List ℕ) (tokens : Tokens) (refusal : Refusal) → StandFor number bytes tokens → IsFirstRefusal number bytes refusal → ⊥
not_both number bytes tokens refusal s r = clash (Scans-unique _ _ _ _ _ _ s _ r)
  where
    clash : whole tokens.list tokens.end ≡ refused refusal → ⊥
    clash e = cc

-- ---- what is spelled is not refused

same_head : (q : List Terminal) → SameHead q q
same_head [] = tt
same_head (t ∷ ts) = refl

not_dead : {A : Type 0} (P : A → List Terminal → List Terminal → Type 0) (a : A) (ks q r : List Terminal) → P a ks r → Dead P ks q → ⊥
not_dead P a ks q r p (seen, is, dead) = dead q a r (same_head q) (subst (λ x. P a x r) is p)

spelled_whole : (tokens : Tokens) (file : File) (e : ParseError) (refusal : Refusal) → e ≡ parsed.Refused refusal → WholeFile 200 file (terminals tokens.list) [] → HasNoForm (terminals tokens.list) → RefusesBy part.DecidesInPart (Alive WholeFile) WholeFile 200 tokens.end (terminals tokens.list) e → ⊥
spelled_whole tokens file e refusal is w none (out_of_memory f) = cc
spelled_whole tokens file e refusal is w none (syntax q f dead) = not_dead (WholeFile 200) file (terminals tokens.list) q [] w (dead 200)
spelled_whole tokens file e refusal is w none (nested q m v f tells dead decides shown) = not_dead (WholeFile 200) file (terminals tokens.list) m [] w dead
spelled_whole tokens file e refusal is w none (in_grammar feature q f has) = no_grammar_form none has

spelled_fits : (tokens : Tokens) (file : File) (e : ParseError) (refusal : Refusal) → e ≡ parsed.Refused refusal → WholeFile 200 file (terminals tokens.list) [] → HasNoForm (terminals tokens.list) → RefusedByGrammar tokens e → ⊥
spelled_fits tokens file e refusal is w none (part.by_grammar h) = spelled_whole tokens file e refusal is w none h
spelled_fits tokens file e refusal is w none (part.left_out feature q m n f has at dead) = not_dead (WholeFile 200) file (terminals tokens.list) n [] w (dead 200)
spelled_fits tokens file e refusal is w none (part.left_out_type feature q form m f type leads dead) = type_there (leads 200)
  where
    type_there : Leads (WholeFile 200) (terminals tokens.list) form part.HasType → ⊥
    type_there (seen, from, has) =
        let t = has form file [] (same_head form) (subst (λ x. WholeFile 200 file x []) from w) in
        not_dead (SomeDenoter t.0) t.1 form m t.2 t.3 (dead t.0)

-- what is read is not refused
reads_tokens : (tokens : Tokens) (t : Tree) (refusal : Refusal) → ReadsTokens tokens t → IsShown tokens refusal → ⊥
reads_tokens tokens t refusal r (by_grammar grammar word refuses first is) = spelled_fits tokens (file_of t) (parsed.Refused grammar) grammar refl (r.spells, refl) r.plain refuses
reads_tokens tokens t refusal r (by_word file spells first) = r.built first.feature first.told first.is_there
reads_tokens tokens t refusal r (by_form file spells built form) = r.plain form.feature form.told form.is_there

-- ---- a text

pub one_tree : (number : ℕ) (bytes : List ℕ) (one other : Tree) → Reads number bytes one → Reads number bytes other → file_of one ≡ file_of other
one_tree number bytes one other (ts, s, r) (us, t, q) = (unique_file r.spells (subst (λ x. Spells (file_of other) (terminals x.list)) (sym (same_tokens number bytes ts us s t)) q.spells)).0

pub no_tree : (number : ℕ) (bytes : List ℕ) (t : Tree) (refusal : Refusal) → Reads number bytes t → Breaks number bytes refusal → ⊥
no_tree number bytes t refusal (ts, s, r) (by_spelling first) = not_both number bytes ts refusal s first
no_tree number bytes t refusal (ts, s, r) (by_tokens us u shown) = reads_tokens ts t refusal r (subst (λ x. IsShown x refusal) (sym (same_tokens number bytes ts us s u)) shown)

first_same : {r s : Refusal} → refused r ≡ refused s → r ≡ s
first_same e = cc

one_refusal : (number : ℕ) (bytes : List ℕ) (one other : Refusal) → Breaks number bytes one → Breaks number bytes other → SameRefusal one other
one_refusal number bytes one other (by_spelling s) (by_spelling t) = inl (first_same (Scans-unique _ _ _ _ _ _ s _ t))
one_refusal number bytes one other (by_spelling s) (by_tokens us u shown) = absurd (not_both number bytes us one u s)
one_refusal number bytes one other (by_tokens ts s shown) (by_spelling t) = absurd (not_both number bytes ts other s t)
one_refusal number bytes one other (by_tokens ts s first) (by_tokens us u second) = inr (record { tokens = ts; first = first; second = subst (λ x. IsShown x other) (sym (same_tokens number bytes ts us s u)) second })

-- ---- a file

abbrev misnamed_in : Option (List ℕ) → File → Option Place
misnamed_in None (program p) = None
misnamed_in None (unit u) = Some u.position.place
misnamed_in (Some n) (program p) = Some p.position.place
misnamed_in (Some n) (unit u) = if bytes_eq (lower u.name.text) n then None else Some u.name.position.place

misnamed_is : (n : Option (List ℕ)) (t : Tree) → misnamed n t ≡ misnamed_in n (file_of t)
misnamed_is None (tree.Program p) = refl
misnamed_is None (tree.Unit u) = refl
misnamed_is (Some n) (tree.Program p) = refl
misnamed_is (Some n) (tree.Unit u) = refl

abbrev interface_in : File → List Use
interface_in (program p) = []
interface_in (unit u) = map use_of u.interface.uses

abbrev implementation_in : File → List Use
implementation_in (program p) = map use_of p.uses
implementation_in (unit u) = map use_of u.implementation.uses

interface_is : (t : Tree) → interface_uses t ≡ interface_in (file_of t)
interface_is (tree.Program p) = refl
interface_is (tree.Unit u) = refl

implementation_is : (t : Tree) → implementation_uses t ≡ implementation_in (file_of t)
implementation_is (tree.Program p) = refl
implementation_is (tree.Unit u) = refl

same_named : (n : Option (List ℕ)) (one other : Tree) → file_of one ≡ file_of other → misnamed n one ≡ misnamed n other
same_named n one other e = misnamed_is n one ∙ ap (misnamed_in n) e ∙ sym (misnamed_is n other)

pub same_interface : (one other : Tree) → file_of one ≡ file_of other → interface_uses one ≡ interface_uses other
same_interface one other e = interface_is one ∙ ap interface_in e ∙ sym (interface_is other)

pub same_implementation : (one other : Tree) → file_of one ≡ file_of other → implementation_uses one ≡ implementation_uses other
same_implementation one other e = implementation_is one ∙ ap implementation_in e ∙ sym (implementation_is other)

same_uses : (one other : Tree) → file_of one ≡ file_of other → uses_of one ≡ uses_of other
same_uses one other e = ap (λ us. us ++ implementation_uses one) (same_interface one other e) ∙ ap (λ us. interface_uses other ++ us) (same_implementation one other e)

same_broken : (number : ℕ) (p q : Place) (one other : Refusal) → p ≡ q → one ≡ broken number p → other ≡ broken number q → one ≡ other
same_broken number p q one other e is js = is ∙ ap (broken number) e ∙ sym js

pub whole_file : (number : ℕ) (n : Option (List ℕ)) (bytes : List ℕ) (t : Tree) (refusal : Refusal) → IsFile number n bytes t → FileBreaks number n bytes refusal → ⊥
whole_file number n bytes t refusal f (by_text b) = no_tree number bytes t refusal f.reads b
whole_file number n bytes t refusal f (by_name u place reads named is) = none_some (sym f.named ∙ same_named n t u (one_tree number bytes t u f.reads reads) ∙ named)
whole_file number n bytes t refusal f (by_uses u place reads named again is) = none_some (sym f.once ∙ ap (used_again (own_names n)) (same_uses t u (one_tree number bytes t u f.reads reads)) ∙ again)

pub one_fault : (number : ℕ) (n : Option (List ℕ)) (bytes : List ℕ) (one other : Refusal) → FileBreaks number n bytes one → FileBreaks number n bytes other → SameRefusal one other
one_fault number n bytes one other (by_text b) (by_text c) = one_refusal number bytes one other b c
one_fault number n bytes one other (by_text b) (by_name u place reads named is) = absurd (no_tree number bytes u one reads b)
one_fault number n bytes one other (by_text b) (by_uses u place reads named again is) = absurd (no_tree number bytes u one reads b)
one_fault number n bytes one other (by_name t p r h is) (by_text c) = absurd (no_tree number bytes t other r c)
one_fault number n bytes one other (by_name t p r h is) (by_name u q s k js) = inl (same_broken 12 p q one other (same_some (sym h ∙ same_named n t u (one_tree number bytes t u r s) ∙ k)) is js)
one_fault number n bytes one other (by_name t p r h is) (by_uses u q s k again js) = absurd (none_some (sym k ∙ same_named n u t (one_tree number bytes u t s r) ∙ h))
one_fault number n bytes one other (by_uses t p r h again is) (by_text c) = absurd (no_tree number bytes t other r c)
one_fault number n bytes one other (by_uses t p r h again is) (by_name u q s k js) = absurd (none_some (sym h ∙ same_named n t u (one_tree number bytes t u r s) ∙ k))
one_fault number n bytes one other (by_uses t p r h again is) (by_uses u q s k more js) = inl (same_broken 17 p q one other (same_some (sym again ∙ ap (used_again (own_names n)) (same_uses t u (one_tree number bytes t u r s)) ∙ more)) is js)
