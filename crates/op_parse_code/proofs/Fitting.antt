-- Parts of expressions stand before what stops them; and the least expression.
use Rattle.std.proofs.Common.{◌≡◌, ℕ, suc, true, List, [], ◌∷◌, refl, ap, ◌∙◌, arith}
use Rattle.op_parse_code.proofs.Cuts.{cut_one, cut_join}
use Rattle.op_parse_code.proofs.ExpressionFronts.{front_chain, front_operand, front_root, front_selector, front_designator}
use Rattle.op_parse_code.proofs.Living.{Fits, Sample, Any, alive_here}
use Rattle.op_parse_code.specs.Refusal.{Alive}
use Rattle.op_parse_code.specs.Whole.{Chain, Operand, Factor, SomeDesignator, NoMark, SomeElement, SomeArgument}
use Rattle.op_parse_code.specs.declared.mark.Mark.TheVariants as mark
use Rattle.op_scan.specs.declared.token.TokenKind.{TokenKind}
use Rattle.op_scan.specs.declared.token.TokenKind.TheVariants as kind
use Rattle.op_tree.proofs.ExpressionUnique.{stop, operand_at, false_true}
use Rattle.op_tree.specs.Ends.{IsNot, Stops, EndsChain, begins_selector, begins_expression}
use Rattle.op_tree.specs.Expression.{Expression, one, range, value, padded, rounded, prefixed, number, nil, set, literal, designated, inherited, no_elements, designator, named, string, bracketed, no_selectors}
use Rattle.op_tree.specs.ExpressionGrammar.{IsExpr, IsRoot, IsSelector, is_chain, is_simple, is_term, is_factor, are_no_operations, is_prefixed, is_number, is_nil, is_empty_set, is_literal, is_designated, is_inherited, is_designator, is_named, is_string, is_bracketed, are_no_selectors}
use Rattle.op_tree.specs.Terminal.{Terminal, ◌at◌, name}
use Rattle.op_tree.specs.declared.operator.Level.{Level}
use Rattle.op_tree.specs.declared.operator.Level.TheVariants.{Relational, Additive, Multiplicative}
use Rattle.op_tree.specs.declared.operator.PrefixOperator.TheVariants as prefix
use Rattle.op_tree.specs.declared.position.Position.{Position}

-- ---- what may stand behind

stops_at : (l : Level) (e : Expression) (x : List Terminal) → Stops x → EndsChain l e x
stops_at Relational e x c = stop e x c
stops_at Additive e x c = operand_at Relational e x (stop e x c)
stops_at Multiplicative e x c = operand_at Additive e x (operand_at Relational e x (stop e x c))

pub fits_chain : (l : Level) → Fits (Chain l) Stops
fits_chain l d e ks r p = let s = front_chain p.0 in (s.0, s.1, s.2, λ x c. (s.3 x, stops_at l e x c))

pub fits_operand : (l : Level) → Fits (Operand l) Stops
fits_operand l d e ks r p = let s = front_operand p.0 in (s.0, s.1, s.2, λ x c. (s.3 x, operand_at l e x (stops_at l e x c)))

pub fits_root : Fits IsRoot Any
fits_root d g ks r p = let s = front_root p in (s.0, s.1, s.2, λ x c. s.3 x)

pub fits_selector : Fits IsSelector Any
fits_selector d g ks r p = let s = front_selector p in (s.0, s.1, s.2, λ x c. s.3 x)

pub fits_designator : Fits SomeDesignator (IsNot begins_selector)
fits_designator d g ks r p = let s = front_designator p.0 in (s.0, s.1, s.2, λ x c. (s.3 x, c))

-- what belongs to no element, and to no argument
abbrev pub StopsElement : List Terminal → Type 0
StopsElement x = Stops x × NoMark mark.DotDot x

abbrev pub StopsArgument : List Terminal → Type 0
StopsArgument x = Stops x × NoMark mark.Colon x

pub fits_element : Fits SomeElement StopsElement
fits_element d (one e) ks r (f, none) =
    let s = front_chain f.0 in
    (s.0, s.1, s.2, λ x c. ((s.3 x, stop e x c.0), c.1))
fits_element d (range a b) ks r (p, n, f, g) =
    let s = front_chain f.0 in
    let u = front_chain g.0 in
    (λ x. s.0 (kind.DotDot at p ∷ u.0 x), cut_join s.1 (cut_one (kind.DotDot at p) u.1), s.2 ∙ ap (λ z. s.0 (kind.DotDot at p ∷ z)) u.2, λ x c. (p, u.0 x, (s.3 (kind.DotDot at p ∷ u.0 x), stop a _ (refl, refl)), (u.3 x, stop b x c.0)))

pub fits_argument : Fits SomeArgument StopsArgument
fits_argument d (value e) ks r (f, none) =
    let s = front_chain f.0 in
    (s.0, s.1, s.2, λ x c. ((s.3 x, stop e x c.0), c.1))
fits_argument d (padded a b) ks r (p, n, f, g, none) =
    let s = front_chain f.0 in
    let u = front_chain g.0 in
    (λ x. s.0 (kind.Colon at p ∷ u.0 x), cut_join s.1 (cut_one (kind.Colon at p) u.1), s.2 ∙ ap (λ z. s.0 (kind.Colon at p ∷ z)) u.2, λ x c. (p, u.0 x, (s.3 (kind.Colon at p ∷ u.0 x), stop a _ (refl, refl)), (u.3 x, stop b x c.0), c.1))
fits_argument d (rounded a b c) ks r (p, q, n, n1, f, g, i) =
    let s = front_chain f.0 in
    let u = front_chain g.0 in
    let w = front_chain i.0 in
    (λ x. s.0 (kind.Colon at p ∷ u.0 (kind.Colon at q ∷ w.0 x)), cut_join s.1 (cut_one (kind.Colon at p) (cut_join u.1 (cut_one (kind.Colon at q) w.1))), s.2 ∙ ap (λ z. s.0 (kind.Colon at p ∷ z)) (u.2 ∙ ap (λ z. u.0 (kind.Colon at q ∷ z)) w.2), λ x y. (p, q, u.0 (kind.Colon at q ∷ w.0 x), w.0 x, (s.3 (kind.Colon at p ∷ u.0 (kind.Colon at q ∷ w.0 x)), stop a _ (refl, refl)), (u.3 (kind.Colon at q ∷ w.0 x), stop b _ (refl, refl)), (w.3 x, stop c x y.0)))

-- ---- the least parts

abbrev pub a_name : Position → Expression
a_name p = designated (designator (named (name [] p)) no_selectors)

pub name_alone : (i : ℕ) (p : Position) (r : List Terminal) → IsExpr i (a_name p) (kind.Identifier [] at p ∷ r) r
name_alone i p r = is_chain (is_simple (is_chain (is_term (is_chain (is_factor (is_designated (is_designator is_named are_no_selectors))) are_no_operations refl)) are_no_operations refl)) are_no_operations refl

pub some_expression : Position → Sample (Chain Relational) Any
some_expression p = record { tokens = kind.Identifier [] at p ∷ []; behind = []; part = a_name p; stands = λ i. (name_alone (suc i) p [], stop (a_name p) [] (tt, tt)); fits = tt }

-- a factor of a greater depth begins with each token that an expression begins with
pub factor_at : (d : ℕ) (k : TokenKind) (p : Position) (r : List Terminal) → begins_expression k ≡ true → Alive Factor d (k at p ∷ r) (k at p ∷ r)
factor_at d (kind.Identifier text) p r b = alive_here Factor d (suc d) (kind.Identifier text at p) r [] [] (designated (designator (named (name text p)) no_selectors)) (omega arith) (is_designated (is_designator is_named are_no_selectors), tt)
factor_at d kind.String p r b = alive_here Factor d (suc d) (kind.String at p) r [] [] (designated (designator (string p) no_selectors)) (omega arith) (is_designated (is_designator is_string are_no_selectors), tt)
factor_at d kind.OpenParenthesis p r b = alive_here Factor d (suc d) (kind.OpenParenthesis at p) r (kind.Identifier [] at p ∷ kind.CloseParenthesis at p ∷ []) [] (designated (designator (bracketed p (a_name p)) no_selectors)) (omega arith) (is_designated (is_designator (is_bracketed (name_alone d p (kind.CloseParenthesis at p ∷ []))) are_no_selectors), tt)
factor_at d (kind.Number n) p r b = alive_here Factor d (suc d) (kind.Number n at p) r [] [] (number n p) (omega arith) (is_number, tt)
factor_at d kind.Nil p r b = alive_here Factor d (suc d) (kind.Nil at p) r [] [] (nil p) (omega arith) (is_nil, tt)
factor_at d kind.OpenBracket p r b = alive_here Factor d (suc d) (kind.OpenBracket at p) r (kind.CloseBracket at p ∷ []) [] (set p no_elements) (omega arith) (is_empty_set, tt)
factor_at d (kind.CharacterString text) p r b = alive_here Factor d (suc d) (kind.CharacterString text at p) r [] [] (literal text p no_selectors) (omega arith) (is_literal are_no_selectors, tt)
factor_at d kind.Inherited p r b = alive_here Factor d (suc d) (kind.Inherited at p) r (kind.Identifier [] at p ∷ []) [] (inherited p (designator (named (name [] p)) no_selectors)) (omega arith) (is_inherited (is_designator is_named are_no_selectors), tt)
factor_at d kind.Not p r b = alive_here Factor d (suc d) (kind.Not at p) r (kind.Identifier [] at p ∷ []) [] (prefixed prefix.Not p (a_name p)) (omega arith) (is_prefixed refl (is_designated (is_designator is_named are_no_selectors)), tt)
factor_at d kind.Plus p r b = alive_here Factor d (suc d) (kind.Plus at p) r (kind.Identifier [] at p ∷ []) [] (prefixed prefix.Plus p (a_name p)) (omega arith) (is_prefixed refl (is_designated (is_designator is_named are_no_selectors)), tt)
factor_at d kind.Minus p r b = alive_here Factor d (suc d) (kind.Minus at p) r (kind.Identifier [] at p ∷ []) [] (prefixed prefix.Minus p (a_name p)) (omega arith) (is_prefixed refl (is_designated (is_designator is_named are_no_selectors)), tt)
factor_at d other p r b = false_true b
