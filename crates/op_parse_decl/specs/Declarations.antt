-- Declarations and files that are whole: nothing that follows would belong to them.
use Rattle.std.specs.Prelude.{◌≡◌, ℕ, Bool, ◌||◌, codes, List, [], ◌∷◌, Option, Some, None, is_some}
use Rattle.op_parse_code.specs.Opening.{is_identifier, is_word}
use Rattle.op_parse_code.specs.Refusal.{Phrase}
use Rattle.op_parse_code.specs.Whole.{NoMark}
use Rattle.op_parse_code.specs.declared.mark.Mark.TheVariants as mark
use Rattle.op_parse_decl.specs.Combined.{Repeats}
use Rattle.op_scan.specs.declared.token.TokenKind.{TokenKind}
use Rattle.op_scan.specs.declared.token.TokenKind.TheVariants as kind
use Rattle.op_tree.proofs.DeclarationUnique.{begins_data}
use Rattle.op_tree.proofs.MethodUnique.{begins_heading}
use Rattle.op_tree.specs.Declaration.{Declaration, Method, Body, TypeDefinition, Declarations, no_declarations, declarations, heading}
use Rattle.op_tree.specs.DeclarationGrammar.{IsDefinition, IsDataDeclaration, IsRoutine, IsBody}
use Rattle.op_tree.specs.Ends.{IsNot}
use Rattle.op_tree.specs.File.{File, Program, program, UnitFile, unit}
use Rattle.op_tree.specs.FileGrammar.{BeginAt, IsFile, IsProgramHeading}
use Rattle.op_tree.specs.HeadingGrammar.{AreDirectives, IsMethod, directive_of}
use Rattle.op_tree.specs.NameGrammar.{AreNames}
use Rattle.op_tree.specs.Terminal.{Terminal, ◌at◌, IsWord}
use Rattle.op_tree.specs.declared.file.ProgramHeading.{ProgramHeading}
use Rattle.op_tree.specs.declared.heading.Directive.{Directive}
use Rattle.op_tree.specs.declared.position.Name.{Name}
use Rattle.op_tree.specs.declared.position.Position.{Position}

-- ---- directives

-- the directive that a token is
abbrev pub directive_at : TokenKind → Option Directive
directive_at (kind.Identifier text) = directive_of text
directive_at other = None

abbrev pub is_directive : TokenKind → Bool
is_directive k = is_some (directive_at k)

-- a directive and its semicolon
abbrev pub OneDirective : Phrase Directive
OneDirective d w ks r = AreDirectives (w ∷ []) ks r

-- a method where no field may follow, so that no directive's word may
abbrev pub WholeMethod : Phrase Method
WholeMethod d a ks r = IsMethod d a ks r × IsNot is_directive r

-- ---- types

-- what a name stands for, and the semicolon behind it
abbrev pub DefinitionBefore : Phrase TypeDefinition
DefinitionBefore d t ks r = (q : Position) × IsDefinition d t ks (kind.Semicolon at q ∷ r)

-- a class from the tokens behind its first word on, and the semicolon behind it
abbrev pub DefinitionBehind : TokenKind → Phrase TypeDefinition
DefinitionBehind k d t ks r = (p : Position) → DefinitionBefore d t (k at p ∷ ks) r

-- ---- declarations

-- the kind begins a declaration
abbrev pub begins_declaration : TokenKind → Bool
begins_declaration k = begins_data k || begins_heading k

abbrev pub SomeData : Phrase Declaration
SomeData d e ks r = IsDataDeclaration d e ks r × IsNot is_identifier r

-- a declaration of an interface part
pub data InterfaceDeclaration : ℕ → Declaration → List Terminal → List Terminal → Type 0 where
  interface_data : {d : ℕ} {e : Declaration} {ks r : List Terminal} → SomeData d e ks r → InterfaceDeclaration d e ks r
  interface_heading : {d : ℕ} {a : Method} {ks r : List Terminal} → WholeMethod d a ks r → InterfaceDeclaration d (heading a) ks r

-- a declaration of any other part
pub data BlockDeclaration : ℕ → Declaration → List Terminal → List Terminal → Type 0 where
  block_data : {d : ℕ} {e : Declaration} {ks r : List Terminal} → SomeData d e ks r → BlockDeclaration d e ks r
  block_routine : {d : ℕ} {e : Declaration} {ks r : List Terminal} → IsRoutine d e ks r → BlockDeclaration d e ks r

abbrev pub listed : Declarations → List Declaration
listed no_declarations = []
listed (declarations e es) = e ∷ listed es

-- such declarations, as long as one begins
abbrev pub AllOf : Phrase Declaration → Phrase Declarations
AllOf P d es ks r = Repeats begins_declaration P d (listed es) ks r

-- what belongs to no declarations of a block
abbrev pub EndsBlockDeclarations : List Terminal → Type 0
EndsBlockDeclarations x = IsNot begins_declaration x × IsNot is_identifier x

-- what stands behind the heading and the directives of a routine, and the semicolon behind it
abbrev pub BodyBefore : Phrase Body
BodyBefore d b ks r = (q : Position) × IsBody d b ks (kind.Semicolon at q ∷ r)

abbrev pub is_forward : TokenKind → Bool
is_forward = is_word (codes "forward")

-- the word `forward` stands between the tokens
abbrev pub BehindForward : List Terminal → List Terminal → Type 0
BehindForward ks r = (word : List ℕ) × (p : Position) × IsWord (codes "forward") word × (ks ≡ kind.Identifier word at p ∷ r)

-- ---- files

-- nothing, where the first of the tokens stands there
pub data StandsHere : ℕ → Position → List Terminal → List Terminal → Type 0 where
  stands_here : {d : ℕ} {p : Position} {ks : List Terminal} → BeginAt p ks → StandsHere d p ks ks

-- [uses], none where the word does not stand there
pub data SomeUses : ℕ → List Name → List Terminal → List Terminal → Type 0 where
  no_uses : {d : ℕ} {ks : List Terminal} → NoMark mark.Uses ks → SomeUses d [] ks ks
  some_uses : {d : ℕ} {ns : List Name} {p q : Position} {ks r : List Terminal} → AreNames ns ks (kind.Semicolon at q ∷ r) → SomeUses d ns (kind.Uses at p ∷ ks) r

-- the heading of a program, none where the word does not stand there
pub data SomeProgramHeading : ℕ → Option ProgramHeading → List Terminal → List Terminal → Type 0 where
  no_heading : {d : ℕ} {ks : List Terminal} → NoMark mark.Program ks → SomeProgramHeading d None ks ks
  some_program_heading : {d : ℕ} {h : ProgramHeading} {ks r : List Terminal} → IsProgramHeading d (Some h) ks r → SomeProgramHeading d (Some h) ks r

abbrev pub SomeProgram : Phrase Program
SomeProgram d p ks r = IsFile d (program p) ks r

abbrev pub SomeUnit : Phrase UnitFile
SomeUnit d u ks r = IsFile d (unit u) ks r

-- a part, and no token behind it
abbrev pub Whole : {A : Type 0} → Phrase A → Phrase A
Whole P d a ks r = P d a ks r × (r ≡ [])

abbrev pub WholeFile : Phrase File
WholeFile = Whole IsFile
