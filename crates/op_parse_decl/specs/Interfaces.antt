-- Interfaces and their parts that are whole: nothing that follows would belong to them.
use Rattle.std.specs.Prelude.{ℕ, suc, Bool, true, false, List, [], ◌∷◌, Option, Some, None}
use Rattle.op_parse_code.specs.Refusal.{Phrase}
use Rattle.op_parse_code.specs.Whole.{NoMark}
use Rattle.op_parse_code.specs.declared.mark.Mark.TheVariants as mark
use Rattle.op_parse_decl.specs.Combined.{Both, both, HasMark}
use Rattle.op_parse_decl.specs.Declarations.{DefinitionBefore}
use Rattle.op_scan.specs.declared.token.TokenKind.{TokenKind}
use Rattle.op_scan.specs.declared.token.TokenKind.TheVariants as kind
use Rattle.op_tree.specs.Declaration.{TypeDefinition, forward_interface, interface}
use Rattle.op_tree.specs.NameGrammar.{IsName}
use Rattle.op_tree.specs.Terminal.{Terminal, ◌at◌}
use Rattle.op_tree.specs.declared.position.Name.{Name}
use Rattle.op_tree.specs.declared.position.Position.{Position}

abbrev pub is_literal : TokenKind → Bool
is_literal (kind.CharacterString text) = true
is_literal other = false

-- a string
pub data IsLiteral : ℕ → List ℕ → List Terminal → List Terminal → Type 0 where
  literal : {d : ℕ} {text : List ℕ} {p : Position} {r : List Terminal} → IsLiteral d text (kind.CharacterString text at p ∷ r) r

-- the ancestor in brackets, if there is one
pub data SomeAncestor : ℕ → Option Name → List Terminal → List Terminal → Type 0 where
  no_ancestor : {d : ℕ} {ks : List Terminal} → NoMark mark.OpenParenthesis ks → SomeAncestor d None ks ks
  an_ancestor : {d : ℕ} {n : Name} {p q : Position} {ks r : List Terminal} → IsName n ks (kind.CloseParenthesis at q ∷ r) → SomeAncestor (suc d) (Some n) (kind.OpenParenthesis at p ∷ ks) r

-- the text in square brackets, if there is one
pub data SomeIdentifier : ℕ → Option (List ℕ) → List Terminal → List Terminal → Type 0 where
  no_identifier : {d : ℕ} {ks : List Terminal} → NoMark mark.OpenBracket ks → SomeIdentifier d None ks ks
  an_identifier : {d : ℕ} {text : List ℕ} {p q u : Position} {r : List Terminal} → SomeIdentifier (suc d) (Some text) (kind.OpenBracket at p ∷ kind.CharacterString text at q ∷ kind.CloseBracket at u ∷ r) r

-- the word `interface`, the ancestor and the text
pub data SomeInterfaceHead : ℕ → Both (Option Name) (Option (List ℕ)) → List Terminal → List Terminal → Type 0 where
  some_head : {d : ℕ} {n : Option Name} {text : Option (List ℕ)} {p : Position} {ks m r : List Terminal} → SomeAncestor d n ks m → SomeIdentifier d text m r → SomeInterfaceHead d (both n text) (kind.Interface at p ∷ ks) r

-- an interface that ends there: without an ancestor it is a forward declaration
abbrev pub bodiless : Option Name → Option (List ℕ) → TypeDefinition
bodiless None text = forward_interface text
bodiless (Some n) text = interface (record { ancestor = Some n; identifier = text; methods = [] })

-- an interface, and the semicolon behind it
abbrev pub InterfaceBefore : Phrase TypeDefinition
InterfaceBefore d t ks r = HasMark mark.Interface ks × DefinitionBefore d t ks r
