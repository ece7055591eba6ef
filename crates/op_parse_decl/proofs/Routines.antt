-- Declarations of blocks and bodies of routines: what is read, and what refuses them.
use Rattle.std.proofs.Common.{◌≡◌, ℕ, suc, true, codes, List, ◌∷◌, map, refl, sym, ap, ◌∙◌, subst}
use Rattle.std.specs.Str.{bytes_eq}
use Rattle.op_base.specs.declared.place.Place.{Place}
use Rattle.op_parse_code.proofs.Cuts.{same_not}
use Rattle.op_parse_code.proofs.Names.{word_kind}
use Rattle.op_parse_code.proofs.Refusing.{Some_}
use Rattle.op_parse_decl.proofs.Begins.{block_before_opens, block_behind, empty_block, BlockBegun}
use Rattle.op_parse_decl.proofs.Opens.{opens_map, opens_second, opens_with}
use Rattle.op_parse_decl.proofs.Refusals.{refuses_map, refuses_behind}
use Rattle.op_parse_decl.specs.Begun.{Anything, Opens, ThenBegun, in_first, in_second}
use Rattle.op_parse_code.specs.Opening.{is_word, spelled}
use Rattle.op_parse_code.specs.Refusal.{Phrase, SameHead}
use Rattle.op_parse_decl.specs.Refusal.{Never, RefusesParts}
use Rattle.op_parse_code.specs.declared.error.ParseError.{ParseError}
use Rattle.op_parse_code.specs.declared.mark.Mark.TheVariants as mark
use Rattle.op_parse_decl.proofs.Combining.{first, after}
use Rattle.op_parse_decl.specs.Blocks.{block_in, block_out, body_no_name, known_declarations, listed_of, routine_of}
use Rattle.op_parse_decl.specs.Combined.{Both, both, Stands, stands, Then, then_, Repeats}
use Rattle.op_parse_decl.specs.Declarations.{AllOf, EndsBlockDeclarations, BlockDeclaration, begins_declaration, block_routine, BodyBefore, BehindForward, WholeMethod, is_forward}
use Rattle.op_parse_decl.specs.FileParts.{BlockParts, block_in_parts}
use Rattle.op_scan.specs.declared.token.TokenKind.{TokenKind}
use Rattle.op_scan.specs.declared.token.TokenKind.TheVariants as kind
use Rattle.op_tree.proofs.ExpressionUnique.{true_false}
use Rattle.op_tree.specs.Declaration.{Method, Body, forward, body, routine, Declarations, declaration_of, declarations_of}
use Rattle.op_tree.specs.declared.declaration.Declaration.{Declaration as RustDeclaration}
use Rattle.op_tree.specs.DeclarationGrammar.{is_body, is_forward as is_forward_body}
use Rattle.op_tree.specs.Ends.{IsNot}
use Rattle.op_tree.specs.Statement.{Statements, empty, no_statements, statements}
use Rattle.op_tree.specs.StatementGrammar.{are_one_statement, is_begin_end, is_empty}
use Rattle.op_tree.specs.Terminal.{Terminal, ◌at◌, IsWord}
use Rattle.op_tree.specs.declared.position.Position.{Position}

pub row_whole : {d : ℕ} (xs : List RustDeclaration) {ks r : List Terminal} → Repeats begins_declaration BlockDeclaration d (map declaration_of xs) ks r → AllOf BlockDeclaration d (declarations_of xs) ks r
row_whole {d = d} xs {ks = ks} {r = r} f = subst (λ z. Repeats begins_declaration BlockDeclaration d z ks r) (listed_of xs) f

-- ---- bodies

abbrev BlockBefore : Phrase (Both (Both (Unit {0}) (Both Statements (Unit {0}))) (Unit {0}))
BlockBefore = Then BlockParts (Stands mark.Semicolon)

forward_test : (word : List ℕ) → IsWord (codes "forward") word → is_word (codes "forward") (kind.Identifier word) ≡ true
forward_test word e = ap (λ z. bytes_eq z (codes "forward")) e

into_block : (ks : List Terminal) → IsNot is_forward ks → (d : ℕ) (b : Body) (ls r : List Terminal) → SameHead ks ls → BodyBefore d b ls r → Some_ (Then (AllOf BlockDeclaration) BlockBefore) d ls
into_block ks n d b ls r s (q, is_body {es = es} f (is_begin_end {ss = ss} g)) = (both es (both (both tt (both ss tt)) tt), r, then_ (block_in f refl) (then_ (block_in_parts (is_begin_end g)) stands))
into_block ks n d b ls r s (q, is_forward_body {word = word} e) = true_false (sym (forward_test word e) ∙ same_not is_forward ks ls s n)

pub body_whole : {d : ℕ} {es : Declarations} {ss : Statements} {ks m r : List Terminal} → AllOf BlockDeclaration d es ks m → BlockBefore d (both (both tt (both ss tt)) tt) m r → BodyBefore d (body es ss) ks r
body_whole {es = es} f (then_ (then_ stands (then_ ss stands)) (stands {p = q})) = (q, is_body (block_out es f) (is_begin_end ss.0))

pub body_declarations : {d : ℕ} {end : Place} {ks : List Terminal} {e : ParseError} → IsNot is_forward ks → RefusesParts (Opens EndsBlockDeclarations (AllOf BlockDeclaration)) (AllOf BlockDeclaration) d end ks e → RefusesParts (Opens Anything BodyBefore) BodyBefore d end ks e
body_declarations {d = d} {end = end} {ks = ks} {e = e} n h = refuses_map {W = ThenBegun (Opens EndsBlockDeclarations (AllOf BlockDeclaration)) (AllOf BlockDeclaration) Never} (Then (AllOf BlockDeclaration) BlockBefore) BodyBefore d end ks e (into_block ks n) (λ q x. block_alive q x) (first h)
  where
    block_alive : (q : List Terminal) → ThenBegun (Opens EndsBlockDeclarations (AllOf BlockDeclaration)) (AllOf BlockDeclaration) Never d ks q → Opens Anything BodyBefore d ks q
    block_alive q (in_first x) = opens_with block_behind (λ p z c. (refl, refl)) (λ i es p ls z s c f. (body es (statements empty no_statements), (p, is_body (block_out es f) (is_begin_end (are_one_statement is_empty))))) x
    block_alive q (in_second es x) = absurd x

pub body_block : {d : ℕ} {end : Place} (es : Declarations) {ks m : List Terminal} {e : ParseError} → IsNot is_forward ks → AllOf BlockDeclaration d es ks m → RefusesParts (ThenBegun BlockBegun BlockParts Never) BlockBefore d end m e → RefusesParts (Opens Anything BodyBefore) BodyBefore d end ks e
body_block {d = d} {end = end} es {ks = ks} {m = m} {e = e} n f h = refuses_map {W = ThenBegun Never (AllOf BlockDeclaration) (ThenBegun BlockBegun BlockParts Never)} (Then (AllOf BlockDeclaration) BlockBefore) BodyBefore d end ks e (into_block ks n) (λ q x. block_alive q x) (after {a = es} known_declarations f h)
  where
    back : (i : ℕ) (y : Both Declarations (Both (Both (Unit {0}) (Both Statements (Unit {0}))) (Unit {0}))) (ls r : List Terminal) → Then (AllOf BlockDeclaration) BlockBefore i y ls r → (b : Body) × BodyBefore i b ls r
    back i (both es (both (both u (both ss v)) w)) ls r (then_ f g) = (body es ss, body_whole f g)

    block_alive : (q : List Terminal) → ThenBegun Never (AllOf BlockDeclaration) (ThenBegun BlockBegun BlockParts Never) d ks q → Opens Anything BodyBefore d ks q
    block_alive q (in_first x) = absurd x
    block_alive q (in_second {m = l} g x) = opens_map {P = Then (AllOf BlockDeclaration) BlockBefore} (λ i y ls r s k. back i y ls r k) (opens_second known_declarations g (block_before_opens d l q x))

pub forward_stands : (k : TokenKind) (p : Position) (r : List Terminal) → is_forward k ≡ true → BehindForward (k at p ∷ r) r
forward_stands k p r h = let w = word_kind (codes "forward") k h in (spelled k, p, w.1, ap (λ z. z at p ∷ r) w.0)

into_forward : (word : List ℕ) (p : Position) (d : ℕ) (b : Body) (ls r : List Terminal) → BodyBefore d b (kind.Identifier word at p ∷ ls) r → Some_ (Stands mark.Semicolon) d ls
into_forward word p d b ls r (q, is_body es (is_begin_end ss)) = true_false (body_no_name es refl)
into_forward word p d b ls r (q, is_forward_body e) = (tt, r, stands)

pub forward_refused : {d : ℕ} {end : Place} {ks m : List Terminal} {e : ParseError} → BehindForward ks m → RefusesParts Never (Stands mark.Semicolon) d end m e → RefusesParts (Opens Anything BodyBefore) BodyBefore d end ks e
forward_refused {d = d} {end = end} {m = m} {e = e} (word, p, w, is) h = subst (λ z. RefusesParts (Opens Anything BodyBefore) BodyBefore d end z e) (sym is) (refuses_behind {W = Never} (Stands mark.Semicolon) BodyBefore d end (kind.Identifier word at p) m e (into_forward word p) (λ q x. absurd x) h)

pub forward_whole : {d : ℕ} {u : Unit {0}} {ks m r : List Terminal} → BehindForward ks m → Stands mark.Semicolon d u m r → BodyBefore d forward ks r
forward_whole {d = d} {r = r} (word, p, w, is) (stands {p = q}) = subst (λ z. BodyBefore d forward z r) (sym is) (q, is_forward_body w)

-- ---- routines

pub routine_whole : {d i : ℕ} {a : Method} {b : Body} {ks m r : List Terminal} → d ≡ suc i → WholeMethod i a ks m → BodyBefore i b m r → BlockDeclaration d (routine a.heading a.directives b) ks r
routine_whole {a = a} {b = b} {ks = ks} {r = r} z f g = subst (λ (n : ℕ). BlockDeclaration n (routine a.heading a.directives b) ks r) (sym z) (block_routine (routine_of f g))
