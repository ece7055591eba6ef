-- What interfaces are made of.
use Rattle.std.proofs.Common.{◌≡◌, ℕ, suc, true, false, List, [], ◌∷◌, Option, Some, None, refl}
use Rattle.op_parse_code.proofs.Cuts.{cut_none, cut_one}
use Rattle.op_parse_code.proofs.Refusing.{Known}
use Rattle.op_parse_code.proofs.StatementKnown.{known_name}
use Rattle.op_parse_code.specs.Refusal.{Phrase}
use Rattle.op_parse_code.specs.Whole.{NoMark, SomeName}
use Rattle.op_parse_code.specs.declared.mark.Mark.TheVariants as mark
use Rattle.op_parse_decl.specs.Combined.{Both, both, Stands, stands, Then, then_, Repeats, no_more, one_more, Or, this, that, Deeper, deeper, Nothing, nothing, Fork, marked, unmarked, mark_ahead, Ahead, is_ahead, not_ahead}
use Rattle.op_parse_decl.specs.DeclarationParts.{made_method}
use Rattle.op_parse_decl.specs.Declarations.{WholeMethod, is_directive}
use Rattle.op_parse_decl.specs.HeadingParts.{known_heading}
use Rattle.op_parse_decl.specs.Interfaces.{IsLiteral, literal, no_ancestor, an_ancestor, SomeIdentifier, no_identifier, an_identifier, SomeInterfaceHead, some_head, bodiless, InterfaceBefore}
use Rattle.op_parse_decl.specs.Known.{As, Stays, known_ahead, known_as, known_deeper, known_fork, known_nothing, known_repeats, known_stands, known_then, no_mark_by}
use Rattle.op_parse_decl.specs.KnownLeaves.{known_directive}
use Rattle.op_parse_decl.specs.Opening.{is_open}
use Rattle.op_scan.specs.declared.token.TokenKind.{TokenKind}
use Rattle.op_scan.specs.declared.token.TokenKind.TheVariants as kind
use Rattle.op_tree.proofs.ClassUnique.{methods_no_semicolon}
use Rattle.op_tree.proofs.DeclarationUnique.{denoter_no_object}
use Rattle.op_tree.proofs.ExpressionUnique.{false_true, true_false}
use Rattle.op_tree.proofs.MethodUnique.{apart, begins_heading, begins_methods, method_begins, methods_begin}
use Rattle.op_tree.proofs.StatementUnique.{is_semicolon}
use Rattle.op_tree.specs.Declaration.{Method, interface}
use Rattle.op_tree.specs.DeclarationGrammar.{denotes_type, is_class, is_forward_interface, is_interface}
use Rattle.op_tree.specs.Ends.{IsNot, begins_selector}
use Rattle.op_tree.specs.HeadingGrammar.{AreMethods, are_no_methods, are_methods, IsIdentifier, has_no_identifier, has_identifier, has_methods_alone, has_ancestor_alone, has_ancestor_and_methods}
use Rattle.op_tree.specs.NameGrammar.{AreBracketedNames, are_bracketed_names, are_one_name, are_names}
use Rattle.op_tree.specs.Terminal.{Terminal, ◌at◌}
use Rattle.op_tree.specs.declared.position.Name.{Name}
use Rattle.op_tree.specs.declared.position.Position.{Position}

-- ---- a string

front_literal : (d : ℕ) (text : List ℕ) (ks r : List Terminal) → IsLiteral d text ks r → Stays (IsLiteral d text) ks r
front_literal d text ks r (literal {p = p}) = (λ x. kind.CharacterString text at p ∷ x, cut_one (kind.CharacterString text at p) cut_none, refl, λ x h. literal)

same_literal : (d d' : ℕ) (text text' : List ℕ) (ks r r' : List Terminal) → IsLiteral d text ks r → IsLiteral d' text' ks r' → r ≡ r'
same_literal d d' text text' ks r r' literal literal = refl

deepens_literal : (d : ℕ) (text : List ℕ) (ks r : List Terminal) → IsLiteral d text ks r → IsLiteral (suc d) text ks r
deepens_literal d text ks r literal = literal

pub known_literal : Known IsLiteral
known_literal = record { front = front_literal; same = same_literal; deepens = deepens_literal }

-- ---- the word, the ancestor and the text

abbrev pub AncestorParts : Phrase (Or (Both (Unit {0}) (Both Name (Unit {0}))) (Unit {0}))
AncestorParts = Ahead mark.OpenParenthesis (Deeper (Then (Stands mark.OpenParenthesis) (Then SomeName (Stands mark.CloseParenthesis)))) Nothing

abbrev pub IdentifierParts : Phrase (Or (Both (Unit {0}) (Both (List ℕ) (Unit {0}))) (Unit {0}))
IdentifierParts = Ahead mark.OpenBracket (Deeper (Then (Stands mark.OpenBracket) (Then IsLiteral (Stands mark.CloseBracket)))) Nothing

abbrev pub HeadParts : Phrase (Both (Unit {0}) (Both (Or (Both (Unit {0}) (Both Name (Unit {0}))) (Unit {0})) (Or (Both (Unit {0}) (Both (List ℕ) (Unit {0}))) (Unit {0}))))
HeadParts = Then (Stands mark.Interface) (Then AncestorParts IdentifierParts)

pub head_of_none : {d : ℕ} {ks r : List Terminal} → HeadParts d (both tt (both (that tt) (that tt))) ks r → SomeInterfaceHead d (both None None) ks r
head_of_none (then_ stands (then_ (not_ahead none nothing) (not_ahead none' nothing))) = some_head (no_ancestor none) (no_identifier none')

pub head_of_text : {d : ℕ} {text : List ℕ} {ks r : List Terminal} → HeadParts d (both tt (both (that tt) (this (both tt (both text tt))))) ks r → SomeInterfaceHead d (both None (Some text)) ks r
head_of_text (then_ stands (then_ (not_ahead none nothing) (is_ahead h (deeper (then_ stands (then_ literal stands)))))) = some_head (no_ancestor none) an_identifier

pub head_of_name : {d : ℕ} {n : Name} {ks r : List Terminal} → HeadParts d (both tt (both (this (both tt (both n tt))) (that tt))) ks r → SomeInterfaceHead d (both (Some n) None) ks r
head_of_name (then_ stands (then_ (is_ahead h (deeper (then_ stands (then_ n stands)))) (not_ahead none nothing))) = some_head (an_ancestor n) (no_identifier none)

pub head_of_both : {d : ℕ} {n : Name} {text : List ℕ} {ks r : List Terminal} → HeadParts d (both tt (both (this (both tt (both n tt))) (this (both tt (both text tt))))) ks r → SomeInterfaceHead d (both (Some n) (Some text)) ks r
head_of_both (then_ stands (then_ (is_ahead h (deeper (then_ stands (then_ n stands)))) (is_ahead h' (deeper (then_ stands (then_ literal stands)))))) = some_head (an_ancestor n) an_identifier

pub made_head : As HeadParts SomeInterfaceHead
made_head d x ks r (some_head (no_ancestor none) (no_identifier none')) = (both tt (both (that tt) (that tt)), then_ stands (then_ (not_ahead none nothing) (not_ahead none' nothing)), λ i ls s x. head_of_none x)
made_head d x ks r (some_head (no_ancestor none) (an_identifier {text = text})) = (both tt (both (that tt) (this (both tt (both text tt)))), then_ stands (then_ (not_ahead none nothing) (is_ahead mark_ahead (deeper (then_ stands (then_ literal stands))))), λ i ls s x. head_of_text x)
made_head d x ks r (some_head (an_ancestor {n = n} f) (no_identifier none)) = (both tt (both (this (both tt (both n tt))) (that tt)), then_ stands (then_ (is_ahead mark_ahead (deeper (then_ stands (then_ f stands)))) (not_ahead none nothing)), λ i ls s x. head_of_name x)
made_head d x ks r (some_head (an_ancestor {n = n} f) (an_identifier {text = text})) = (both tt (both (this (both tt (both n tt))) (this (both tt (both text tt)))), then_ stands (then_ (is_ahead mark_ahead (deeper (then_ stands (then_ f stands)))) (is_ahead mark_ahead (deeper (then_ stands (then_ literal stands))))), λ i ls s x. head_of_both x)

pub known_head : Known SomeInterfaceHead
known_head = known_as made_head (known_then (known_stands mark.Interface) (known_then (known_ahead (known_deeper (known_then (known_stands mark.OpenParenthesis) (known_then known_name (known_stands mark.CloseParenthesis)))) known_nothing) (known_ahead (known_deeper (known_then (known_stands mark.OpenBracket) (known_then known_literal (known_stands mark.CloseBracket)))) known_nothing)))

-- ---- methods

methods_no_directive : (k : TokenKind) → begins_methods k ≡ true → is_directive k ≡ false
methods_no_directive (kind.Identifier text) h = false_true h
methods_no_directive other h = refl

methods_in : {d : ℕ} {as_ : List Method} {q : Position} {ks r : List Terminal} → AreMethods d as_ ks (kind.End at q ∷ r) → Repeats begins_heading WholeMethod d as_ ks (kind.End at q ∷ r)
methods_in are_no_methods = no_more refl
methods_in (are_methods {m = m} a more) = one_more (method_begins a) (a, apart methods_no_directive m (methods_begin more refl)) (methods_in more)

pub methods_out : {d : ℕ} {as_ : List Method} {ks r : List Terminal} → Repeats begins_heading WholeMethod d as_ ks r → AreMethods d as_ ks r
methods_out (no_more none) = are_no_methods
methods_out (one_more h a more) = are_methods a.0 (methods_out more)

pub known_method : Known WholeMethod
known_method = known_as made_method (known_then known_heading (known_repeats known_directive))

pub known_methods : Known (Repeats begins_heading WholeMethod)
known_methods = known_repeats known_method

-- ---- interfaces

-- what stands behind the methods
abbrev pub Close : Phrase (Both (Unit {0}) (Unit {0}))
Close = Then (Stands mark.End) (Stands mark.Semicolon)

abbrev pub InterfaceParts : Phrase (Both (Both (Option Name) (Option (List ℕ))) (Or (Unit {0}) (Both (List Method) (Both (Unit {0}) (Unit {0})))))
InterfaceParts = Then SomeInterfaceHead (Fork mark.Semicolon Nothing (Then (Repeats begins_heading WholeMethod) Close))

pub identifier_out : {d : ℕ} {text : Option (List ℕ)} {ks r : List Terminal} → SomeIdentifier d text ks r → IsIdentifier d text ks r
identifier_out (no_identifier none) = has_no_identifier
identifier_out an_identifier = has_identifier

pub ends_of_parts : {d : ℕ} (n : Option Name) {text : Option (List ℕ)} {ks r : List Terminal} → InterfaceParts d (both (both n text) (this tt)) ks r → InterfaceBefore d (bodiless n text) ks r
ends_of_parts None (then_ (some_head (no_ancestor none) i) (marked {p = q} nothing)) = (mark_ahead, (q, is_forward_interface (identifier_out i)))
ends_of_parts (Some n) (then_ (some_head (an_ancestor f) i) (marked {p = q} nothing)) = (mark_ahead, (q, is_interface (has_ancestor_alone (are_bracketed_names (are_one_name f)) (identifier_out i))))

pub methods_of_parts : {d : ℕ} (n : Option Name) {text : Option (List ℕ)} {as_ : List Method} {ks r : List Terminal} → InterfaceParts d (both (both n text) (that (both as_ (both tt tt)))) ks r → InterfaceBefore d (interface (record { ancestor = n; identifier = text; methods = as_ })) ks r
methods_of_parts None (then_ (some_head (no_ancestor none) i) (unmarked none' (then_ a (then_ stands (stands {p = q}))))) = (mark_ahead, (q, is_interface (has_methods_alone (identifier_out i) (methods_out a))))
methods_of_parts (Some n) (then_ (some_head (an_ancestor f) i) (unmarked none' (then_ a (then_ stands (stands {p = q}))))) = (mark_ahead, (q, is_interface (has_ancestor_and_methods (are_bracketed_names (are_one_name f)) (identifier_out i) (methods_out a))))

methods_no_selector : (k : TokenKind) → begins_methods k ≡ true → begins_selector k ≡ false
methods_no_selector kind.Dot h = false_true h
methods_no_selector kind.OpenBracket h = false_true h
methods_no_selector kind.OpenParenthesis h = false_true h
methods_no_selector other h = refl

identifier_in : {d : ℕ} {text : Option (List ℕ)} {ks r : List Terminal} → IsIdentifier d text ks r → IsNot begins_selector r → SomeIdentifier d text ks r × NoMark mark.OpenParenthesis ks
identifier_in has_no_identifier h = (no_identifier (no_mark_by mark.OpenBracket begins_selector refl h), no_mark_by mark.OpenParenthesis begins_selector refl h)
identifier_in has_identifier h = (an_identifier, no_mark_by mark.OpenParenthesis is_open refl refl)

-- the head where no name stands, and where one does
head_alone : {d : ℕ} {text : Option (List ℕ)} {p : Position} {ks r : List Terminal} → IsIdentifier d text ks r → IsNot begins_selector r → SomeInterfaceHead d (both None text) (kind.Interface at p ∷ ks) r
head_alone i h = let w = identifier_in i h in some_head (no_ancestor w.1) w.0

head_named : {d : ℕ} {n : Name} {text : Option (List ℕ)} {p : Position} {ks m r : List Terminal} → AreBracketedNames d (n ∷ []) ks m → IsIdentifier d text m r → IsNot begins_selector r → SomeInterfaceHead d (both (Some n) text) (kind.Interface at p ∷ ks) r
head_named (are_bracketed_names (are_one_name f)) i h = some_head (an_ancestor f) (identifier_in i h).0
head_named (are_bracketed_names (are_names f ns)) i h = elim ns [ ]

close_in : {d : ℕ} {as_ : List Method} {q u : Position} {ks r : List Terminal} → AreMethods d as_ ks (kind.End at q ∷ kind.Semicolon at u ∷ r) → Fork mark.Semicolon Nothing (Then (Repeats begins_heading WholeMethod) Close) d (that (both as_ (both tt tt))) ks r
close_in {ks = ks} a = unmarked (no_mark_by mark.Semicolon is_semicolon refl (apart methods_no_semicolon ks (methods_begin a refl))) (then_ (methods_in a) (then_ stands stands))

before_methods : {d : ℕ} {as_ : List Method} {q : Position} {ks r : List Terminal} → AreMethods d as_ ks (kind.End at q ∷ r) → IsNot begins_selector ks
before_methods {ks = ks} a = apart methods_no_selector ks (methods_begin a refl)

pub made_interface : As InterfaceParts InterfaceBefore
made_interface d t ks r (mark_ahead, (q, denotes_type f)) = true_false (denoter_no_object f)
made_interface d t ks r (mark_ahead, (q, is_class c)) = elim c [ ]
made_interface d t ks r (mark_ahead, (q, is_forward_interface {text = text} i)) = (both (both None text) (this tt), then_ (head_alone i refl) (marked nothing), λ i ls s x. ends_of_parts None x)
made_interface d t ks r (mark_ahead, (q, is_interface (has_methods_alone {text = text} {as_ = as_} i a))) = (both (both None text) (that (both as_ (both tt tt))), then_ (head_alone i (before_methods a)) (close_in a), λ i ls s x. methods_of_parts None x)
made_interface d t ks r (mark_ahead, (q, is_interface (has_ancestor_alone {n = n} {text = text} b i))) = (both (both (Some n) text) (this tt), then_ (head_named b i refl) (marked nothing), λ i ls s x. ends_of_parts (Some n) x)
made_interface d t ks r (mark_ahead, (q, is_interface (has_ancestor_and_methods {n = n} {text = text} {as_ = as_} b i a))) = (both (both (Some n) text) (that (both as_ (both tt tt))), then_ (head_named b i (before_methods a)) (close_in a), λ i ls s x. methods_of_parts (Some n) x)

pub known_interface : Known InterfaceBefore
known_interface = known_as made_interface (known_then known_head (known_fork known_nothing (known_then known_methods (known_then (known_stands mark.End) (known_stands mark.Semicolon)))))
