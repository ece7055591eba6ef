-- At most one tree spells a list of tokens.
use Rattle.std.specs.Prelude.{◌≡◌, ℕ, List, ◌∷◌}
use Rattle.op_scan.specs.declared.token.TokenKind.TheVariants as kind
use Rattle.op_tree.specs.Declaration.{Class, Declarations, Heading, Interface, Method}
use Rattle.op_tree.specs.DeclarationGrammar.{AreDeclarations, AreInterfaceDeclarations}
use Rattle.op_tree.specs.Denoter.{Denoter}
use Rattle.op_tree.specs.DenoterGrammar.{IsDenoter, IsInitial}
use Rattle.op_tree.specs.Ends.{EndsChain, EndsDeclarations, EndsStatement, NoDirective, Stops, StopsDenoter}
use Rattle.op_tree.specs.Expression.{Expression}
use Rattle.op_tree.specs.ExpressionGrammar.{IsChain}
use Rattle.op_tree.specs.File.{File}
use Rattle.op_tree.specs.FileGrammar.{Spells}
use Rattle.op_tree.specs.Initial.{Initial}
use Rattle.op_tree.specs.Statement.{Statement}
use Rattle.op_tree.specs.StatementGrammar.{IsStatement}
use Rattle.op_tree.specs.HeadingGrammar.{IsClass, IsHeading, IsInterface, IsMethod}
use Rattle.op_tree.specs.Terminal.{Terminal, ◌at◌}
use Rattle.op_tree.specs.declared.operator.Level.{Level}
use Rattle.op_tree.specs.declared.position.Position.{Position}

-- One expression, at most, is whole at the front of a list of tokens, whatever the depth.
abbrev pub OneExpression : Type 0
OneExpression = (l : Level) (d d' : ℕ) (e e' : Expression) (ks r r' : List Terminal) → IsChain l d e ks r → IsChain l d' e' ks r' → EndsChain l e r → EndsChain l e' r' → (e ≡ e') × (r ≡ r')

-- The same of statements.
abbrev pub OneStatement : Type 0
OneStatement = (d d' : ℕ) (s s' : Statement) (ks r r' : List Terminal) → IsStatement d s ks r → IsStatement d' s' ks r' → EndsStatement s r → EndsStatement s' r' → (s ≡ s') × (r ≡ r')

-- One type, at most, stands at the front of a list of tokens before what belongs to no type.
abbrev pub OneDenoter : Type 0
OneDenoter = (d d' : ℕ) (t t' : Denoter) (ks r r' : List Terminal) → IsDenoter d t ks r → IsDenoter d' t' ks r' → StopsDenoter r → StopsDenoter r' → (t ≡ t') × (r ≡ r')

-- The same of first values.
abbrev pub OneInitial : Type 0
OneInitial = (d d' : ℕ) (i i' : Initial) (ks r r' : List Terminal) → IsInitial d i ks r → IsInitial d' i' ks r' → Stops r → Stops r' → (i ≡ i') × (r ≡ r')

-- The same of headings before a semicolon.
abbrev pub OneHeading : Type 0
OneHeading = (d d' : ℕ) (h h' : Heading) (p p' : Position) (ks r r' : List Terminal) → IsHeading d h ks (kind.Semicolon at p ∷ r) → IsHeading d' h' ks (kind.Semicolon at p' ∷ r') → (h ≡ h') × (r ≡ r')

-- The same of methods before what is no directive.
abbrev pub OneMethod : Type 0
OneMethod = (d d' : ℕ) (a a' : Method) (ks r r' : List Terminal) → IsMethod d a ks r → IsMethod d' a' ks r' → NoDirective r → NoDirective r' → (a ≡ a') × (r ≡ r')

-- The same of classes and of interfaces before a semicolon.
abbrev pub OneClass : Type 0
OneClass = (d d' : ℕ) (c c' : Class) (p p' : Position) (ks r r' : List Terminal) → IsClass d c ks (kind.Semicolon at p ∷ r) → IsClass d' c' ks (kind.Semicolon at p' ∷ r') → (c ≡ c') × (r ≡ r')

abbrev pub OneInterface : Type 0
OneInterface = (d d' : ℕ) (i i' : Interface) (p p' : Position) (ks r r' : List Terminal) → IsInterface d i ks (kind.Semicolon at p ∷ r) → IsInterface d' i' ks (kind.Semicolon at p' ∷ r') → (i ≡ i') × (r ≡ r')

-- The same of lists of declarations, and of those of an interface part, before what would belong to neither.
abbrev pub OneListOfDeclarations : Type 0
OneListOfDeclarations = (d d' : ℕ) (es es' : Declarations) (ks r r' : List Terminal) → AreDeclarations d es ks r → AreDeclarations d' es' ks r' → EndsDeclarations r → EndsDeclarations r' → (es ≡ es') × (r ≡ r')

abbrev pub OneInterfacePart : Type 0
OneInterfacePart = (d d' : ℕ) (es es' : Declarations) (ks r r' : List Terminal) → AreInterfaceDeclarations d es ks r → AreInterfaceDeclarations d' es' ks r' → EndsDeclarations r → EndsDeclarations r' → (es ≡ es') × (r ≡ r')

-- One file's tree, at most, spells a list of tokens.
abbrev pub OneFile : Type 0
OneFile = (f f' : File) (ks : List Terminal) → Spells f ks → Spells f' ks → f ≡ f'
