-- Parts that are whole: nothing that follows would belong to them.
use Rattle.std.specs.Prelude.{◌≡◌, ℕ, List, ◌∷◌}
use Rattle.op_scan.specs.declared.token.TokenKind.TheVariants as kind
use Rattle.op_base.specs.declared.place.Place.{Place}
use Rattle.op_parse_code.specs.Opening.{kind_of}
use Rattle.op_parse_code.specs.Refusal.{Phrase, Dead, Alive, refused_at}
use Rattle.op_parse_code.specs.declared.error.ParseError.{ParseError}
use Rattle.op_parse_code.specs.declared.mark.Mark.{Mark}
use Rattle.op_parse_code.specs.declared.mark.Mark.TheVariants as mark
use Rattle.op_tree.specs.Ends.{IsNot, binds, begins_selector, EndsOperand, EndOperations, EndsChain}
use Rattle.op_tree.specs.Expression.{Expression, Operations, Elements, no_elements, Element, one, range, Designator, Selectors, Expressions, Arguments, no_arguments, Argument, value, padded, rounded}
use Rattle.op_tree.specs.ExpressionGrammar.{IsChain, IsOperand, AreOperations, IsFactor, IsDesignator, AreSelectors, AreExpressions, AreElements, AreArguments}
use Rattle.op_tree.specs.NameGrammar.{IsName}
use Rattle.op_tree.proofs.ExpressionUnique.{EndsOperandAt}
use Rattle.op_tree.specs.Terminal.{Terminal, ◌at◌}
use Rattle.op_tree.specs.declared.operator.Level.{Level}
use Rattle.op_tree.specs.declared.operator.Level.TheVariants.{Relational}
use Rattle.op_tree.specs.declared.position.Name.{Name}
use Rattle.op_tree.specs.declared.position.Position.{Position}

abbrev pub Chain : Level → Phrase Expression
Chain l d e ks r = IsChain l d e ks r × EndsChain l e r

abbrev pub Operand : Level → Phrase Expression
Operand l d e ks r = IsOperand l d e ks r × EndsOperandAt l e r

abbrev pub SomeOperations : Level → Phrase Operations
SomeOperations l d os ks r = AreOperations l d os ks r × IsNot (binds l) r × EndOperations os r

abbrev pub Factor : Phrase Expression
Factor d e ks r = IsFactor d e ks r × EndsOperand e r

abbrev pub SomeDesignator : Phrase Designator
SomeDesignator d g ks r = IsDesignator d g ks r × IsNot begins_selector r

abbrev pub SomeSelectors : Phrase Selectors
SomeSelectors d ss ks r = AreSelectors d ss ks r × IsNot begins_selector r

-- one token, as a part
abbrev pub Marked : Mark → Phrase Position
Marked m d p ks r = ks ≡ kind_of m at p ∷ r

-- a mark does not stand at the front
abbrev pub NoMark : Mark → List Terminal → Type 0
NoMark m ks = (p : Position) (r : List Terminal) → ks ≡ kind_of m at p ∷ r → ⊥

abbrev pub SomeName : Phrase Name
SomeName d n ks r = IsName n ks r

abbrev pub SomeElement : Phrase Element
SomeElement d (one e) ks r = Chain Relational d e ks r × NoMark mark.DotDot r
SomeElement d (range first last) ks r = (p : Position) × (m : List Terminal) × Chain Relational d first ks (kind.DotDot at p ∷ m) × Chain Relational d last m r

abbrev pub SomeArgument : Phrase Argument
SomeArgument d (value e) ks r = Chain Relational d e ks r × NoMark mark.Colon r
SomeArgument d (padded e width) ks r = (p : Position) × (m : List Terminal) × Chain Relational d e ks (kind.Colon at p ∷ m) × Chain Relational d width m r × NoMark mark.Colon r
SomeArgument d (rounded e width digits) ks r = (p q : Position) × (m n : List Terminal) × Chain Relational d e ks (kind.Colon at p ∷ m) × Chain Relational d width m (kind.Colon at q ∷ n) × Chain Relational d digits n r

-- elements, and a mark behind them
abbrev pub ElementsBefore : Mark → Phrase Elements
ElementsBefore m d es ks r = (p : Position) × AreElements d es ks (kind_of m at p ∷ r)

-- arguments, and the closing bracket behind them
abbrev pub ArgumentsBefore : Phrase Arguments
ArgumentsBefore d args ks r = (p : Position) × AreArguments d args ks (kind.CloseParenthesis at p ∷ r)

-- indices, and the closing bracket behind them
abbrev pub IndicesBefore : Phrase Expressions
IndicesBefore d es ks r = (p : Position) × AreExpressions d es ks (kind.CloseBracket at p ∷ r)

-- the marks that stand behind elements: of a set, and of the labels of a branch
pub data ClosesElements : Mark → Type 0 where
  closes_set : ClosesElements mark.CloseBracket
  closes_labels : ClosesElements mark.Colon

-- what stands behind the bracket that opens a set, and the closing one
pub data InsideSet : ℕ → Elements → List Terminal → List Terminal → Type 0 where
  no_inside : {d : ℕ} {p : Position} {r : List Terminal} → InsideSet d no_elements (kind.CloseBracket at p ∷ r) r
  some_inside : {d : ℕ} {es : Elements} {ks r : List Terminal} → ElementsBefore mark.CloseBracket d es ks r → InsideSet d es ks r

-- what stands behind the bracket that opens a call, and the closing one
pub data InsideCall : ℕ → Arguments → List Terminal → List Terminal → Type 0 where
  no_arguments_inside : {d : ℕ} {p : Position} {r : List Terminal} → InsideCall d no_arguments (kind.CloseParenthesis at p ∷ r) r
  arguments_inside : {d : ℕ} {args : Arguments} {ks r : List Terminal} → ArgumentsBefore d args ks r → InsideCall d args ks r

-- an operand of a sign or `not` may not be nested there any more: either no factor begins so, or one does, and would be too deep
pub data CannotEnter (end : Place) (ks : List Terminal) (e : ParseError) : Type 0 where
  begins_none : e ≡ refused_at 9 0 end ks → ((d : ℕ) → Dead (Factor d) ks ks) → CannotEnter end ks e
  too_deep : e ≡ refused_at 61 0 end ks → Alive Factor 0 ks ks → CannotEnter end ks e
