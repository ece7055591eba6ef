-- Operands with operators between them.
use Rattle.std.proofs.Common.{◌≡◌, ℕ, Bool, false, List, [], ◌∷◌, ◌++◌, Option, Some, None, refl, sym, ap, ◌∙◌, subst}
use Rattle.op_base.specs.declared.place.Place.{Place}
use Rattle.op_parse_code.proofs.ExpressionKnown.{known_operand}
use Rattle.op_parse_code.proofs.Fitting.{fits_operand}
use Rattle.op_parse_code.proofs.Living.{Sample, hands_as, hands_behind, hands_first}
use Rattle.op_parse_code.proofs.Refusing.{Some_, Seq, HandsOn, refuses_map, refuses_first, refuses_after, refuses_behind}
use Rattle.op_parse_code.specs.GrammarForm.{GrammarForm, is_slash}
use Rattle.op_parse_code.specs.Opening.{StandsOperator, NoOperator, NotTighter}
use Rattle.op_parse_code.specs.Refusal.{Grown, Refuses, in_grammar, refused_at}
use Rattle.op_parse_code.specs.Whole.{Chain, Operand, SomeOperations, Factor}
use Rattle.op_parse_code.specs.declared.error.ParseError.{ParseError}
use Rattle.op_scan.specs.declared.token.TokenKind.{TokenKind}
use Rattle.op_scan.specs.declared.token.TokenKind.TheVariants as kind
use Rattle.op_tree.proofs.ExpressionUnique.{EndsOperandAt, operand_ends, last_operand, last_operation, clash}
use Rattle.op_tree.specs.Ends.{IsNot, Stops, at_least, operator_at_least, binds, EndsOperand, EndOperations}
use Rattle.op_tree.specs.Expression.{Expression, Operations, no_operations, operation, expr_of}
use Rattle.op_tree.specs.ExpressionGrammar.{is_chain, is_simple, is_term, is_factor, AreOperations, are_no_operations, are_operations, chain_of}
use Rattle.op_tree.specs.Lists.{operations_of}
use Rattle.op_tree.specs.Operator.{operator_of, level_of}
use Rattle.op_tree.specs.Terminal.{Terminal, ◌at◌}
use Rattle.op_tree.specs.declared.expression.Operation.{Operation}
use Rattle.op_tree.specs.declared.operator.Level.{Level}
use Rattle.op_tree.specs.declared.operator.Level.TheVariants.{Relational, Additive, Multiplicative}
use Rattle.op_tree.specs.declared.operator.Operator.{Operator}
use Rattle.op_tree.specs.declared.operator.Operator.TheVariants as operator
use Rattle.op_tree.specs.declared.position.Position.{Position}

-- ---- ends

pub operand_end : (l : Level) (e : Expression) (r : List Terminal) → EndsOperandAt l e r → EndsOperand e r
operand_end Relational e r h = h.1
operand_end Additive e r h = h.1
operand_end Multiplicative e r h = h

pub operand_follows : (l : Level) (e : Expression) (r : List Terminal) → EndsOperandAt l e r → NotTighter l r
operand_follows Relational e r h = h.0
operand_follows Additive e r h = h.0
operand_follows Multiplicative e r h = tt

-- ---- a chain

chain_ends : {l : Level} {d : ℕ} {os : Operations} {m r : List Terminal} (e : Expression) → AreOperations l d os m r → EndsOperandAt l e m → EndOperations os r → EndsOperand (chain_of e os) r
chain_ends {l} e are_no_operations h t = operand_end l e _ h
chain_ends {l} e (are_operations h q a os) w t = t

pub chain_whole : (l : Level) (d : ℕ) (e : Expression) (os : Operations) (ks m r : List Terminal) → Operand l d e ks m → SomeOperations l d os m r → Chain l d (chain_of e os) ks r
chain_whole l d e os ks m r (f, h) (g, n, t) = (is_chain f g refl, (n, chain_ends e g h t))

into_chain : (l : Level) (d : ℕ) (e : Expression) (ks r : List Terminal) → Chain l d e ks r → Some_ (Seq (Operand l) (SomeOperations l)) d ks
into_chain l d e ks r (is_chain {first = first} {rest = os} {m = m} a o q, (n, t)) =
    let t1 = subst (λ z. EndsOperand z r) q t in
    ((first, os), r, (m, (a, operand_ends first o n t1), (o, n, last_operation first os r t1)))

out_of_chain : (l : Level) (d : ℕ) (ks : List Terminal) → HandsOn (Seq (Operand l) (SomeOperations l)) d ks (Chain l) d ks
out_of_chain l d ks = hands_as (Seq (Operand l) (SomeOperations l)) (Chain l) d ks (λ i y ls r s x. (chain_of y.0 y.1, chain_whole l i y.0 y.1 ls x.0 r x.1 x.2))

no_more : (l : Level) → Position → Sample (SomeOperations l) Stops
no_more l p = record { tokens = []; behind = []; part = no_operations; stands = λ i. (are_no_operations, tt, tt); fits = (tt, tt) }

operand_alone : (l : Level) (d : ℕ) (ks : List Terminal) → HandsOn (Operand l) d ks (Seq (Operand l) (SomeOperations l)) d ks
operand_alone l d ks = hands_first (Operand l) (SomeOperations l) Stops d ks (fits_operand l) (no_more l)

pub chain_operand : (l : Level) (d : ℕ) (end : Place) (ks : List Terminal) (e : ParseError) → Refuses (Operand l) d end ks e → Refuses (Chain l) d end ks e
chain_operand l d end ks e h = refuses_map (Seq (Operand l) (SomeOperations l)) (Chain l) d end ks e (λ d' b ls r s x. into_chain l d' b ls r x) (out_of_chain l d ks) (refuses_first (Operand l) (SomeOperations l) d end ks e (operand_alone l d ks) h)

pub chain_operations : (l : Level) (d : ℕ) (end : Place) (a : Expression) (ks m : List Terminal) (e : ParseError) → Operand l d a ks m → Refuses (SomeOperations l) d end m e → Refuses (Chain l) d end ks e
chain_operations l d end a ks m e f h = refuses_map (Seq (Operand l) (SomeOperations l)) (Chain l) d end ks e (λ d' b ls r s x. into_chain l d' b ls r x) (out_of_chain l d ks) (refuses_after (Operand l) (SomeOperations l) d end a ks m e (known_operand l) f h)

-- ---- an operand

pub relational_operand : (d : ℕ) (e : Expression) (ks r : List Terminal) → Chain Additive d e ks r → Operand Relational d e ks r
relational_operand d e ks r (f, h) = (is_simple f, h)

pub additive_operand : (d : ℕ) (e : Expression) (ks r : List Terminal) → Chain Multiplicative d e ks r → Operand Additive d e ks r
additive_operand d e ks r (f, h) = (is_term f, h)

pub multiplicative_operand : (d : ℕ) (e : Expression) (ks r : List Terminal) → Factor d e ks r → Operand Multiplicative d e ks r
multiplicative_operand d e ks r (f, h) = (is_factor f, h)

into_simple : (d : ℕ) (e : Expression) (ks r : List Terminal) → Operand Relational d e ks r → Some_ (Chain Additive) d ks
into_simple d e ks r (is_simple f, h) = (e, r, (f, h))

into_term : (d : ℕ) (e : Expression) (ks r : List Terminal) → Operand Additive d e ks r → Some_ (Chain Multiplicative) d ks
into_term d e ks r (is_term f, h) = (e, r, (f, h))

into_factor : (d : ℕ) (e : Expression) (ks r : List Terminal) → Operand Multiplicative d e ks r → Some_ Factor d ks
into_factor d e ks r (is_factor f, h) = (e, r, (f, h))

pub relational_refuses : (d : ℕ) (end : Place) (ks : List Terminal) (e : ParseError) → Refuses (Chain Additive) d end ks e → Refuses (Operand Relational) d end ks e
relational_refuses d end ks e h = refuses_map (Chain Additive) (Operand Relational) d end ks e (λ d' b ls r s x. into_simple d' b ls r x) (hands_as (Chain Additive) (Operand Relational) d ks (λ i b ls r s x. (b, relational_operand i b ls r x))) h

pub additive_refuses : (d : ℕ) (end : Place) (ks : List Terminal) (e : ParseError) → Refuses (Chain Multiplicative) d end ks e → Refuses (Operand Additive) d end ks e
additive_refuses d end ks e h = refuses_map (Chain Multiplicative) (Operand Additive) d end ks e (λ d' b ls r s x. into_term d' b ls r x) (hands_as (Chain Multiplicative) (Operand Additive) d ks (λ i b ls r s x. (b, additive_operand i b ls r x))) h

pub multiplicative_refuses : (d : ℕ) (end : Place) (ks : List Terminal) (e : ParseError) → Refuses Factor d end ks e → Refuses (Operand Multiplicative) d end ks e
multiplicative_refuses d end ks e h = refuses_map Factor (Operand Multiplicative) d end ks e (λ d' b ls r s x. into_factor d' b ls r x) (hands_as Factor (Operand Multiplicative) d ks (λ i b ls r s x. (b, multiplicative_operand i b ls r x))) h

-- a factor with nothing else
pub factor_alone : (d : ℕ) (ks : List Terminal) → HandsOn Factor d ks (Chain Additive) d ks
factor_alone d ks q x =
    let term = out_of_chain Multiplicative d ks q (operand_alone Multiplicative d ks q (hands_as Factor (Operand Multiplicative) d ks (λ i b ls r s f. (b, multiplicative_operand i b ls r f)) q x)) in
    out_of_chain Additive d ks q (operand_alone Additive d ks q (hands_as (Chain Multiplicative) (Operand Additive) d ks (λ i b ls r s f. (b, additive_operand i b ls r f)) q term))

-- ---- operations

abbrev pub operations_before : List Operation → Operations → Operations
operations_before [] more = more
operations_before (x ∷ xs) more = operation x.operator x.position (expr_of x.operand) (operations_before xs more)

pub before_none : (xs : List Operation) → operations_before xs no_operations ≡ operations_of xs
before_none [] = refl
before_none (x ∷ xs) = ap (operation x.operator x.position (expr_of x.operand)) (before_none xs)

before_push : (xs : List Operation) (x : Operation) (more : Operations) → operations_before (xs ++ (x ∷ [])) more ≡ operations_before xs (operation x.operator x.position (expr_of x.operand) more)
before_push [] x more = refl
before_push (y ∷ xs) x more = ap (operation y.operator y.position (expr_of y.operand)) (before_push xs x more)

-- the operations that are read so far, and what is left
pub record Operating (l : Level) (d : ℕ) (end : Place) (all : List Terminal) (xs : List Operation) (rest : List Terminal) : Type 0 where
  pub completes : (more : Operations) (r : List Terminal) → SomeOperations l d more rest r → SomeOperations l d (operations_before xs more) all r
  pub dies : (e : ParseError) → Refuses (SomeOperations l) d end rest e → Refuses (SomeOperations l) d end all e
  pub follows : NotTighter l rest

add_operation : (l : Level) (d : ℕ) (k : TokenKind) (o : Operator) (p : Position) (e : Expression) (more : Operations) (after m r : List Terminal) → operator_of k ≡ Some o → level_of o ≡ l → Operand l d e after m → SomeOperations l d more m r → SomeOperations l d (operation o p e more) (k at p ∷ after) r
add_operation l d k o p e more after m r h q (f, w) (are_no_operations, n, t) = (are_operations h q f are_no_operations, n, operand_end l e _ w)
add_operation l d k o p e more after m r h q (f, w) (are_operations h1 q1 a os, n, t) = (are_operations h q f (are_operations h1 q1 a os), n, t)

into_operation : (l : Level) (k : TokenKind) (o : Operator) (p : Position) → operator_of k ≡ Some o → level_of o ≡ l → (d : ℕ) (b : Operations) (ls r : List Terminal) → SomeOperations l d b (k at p ∷ ls) r → Some_ (Seq (Operand l) (SomeOperations l)) d ls
into_operation l k o p h q d b ls r (are_no_operations, n, t) = clash l k o p ls h q n
into_operation l k o p h q d b ls r (are_operations {o = o1} {e = e} {os = os} {m = m} h1 q1 a g, n, t) =
    let t1 = last_operand e os o1 p r t in
    ((e, os), r, (m, (a, operand_ends e g n t1), (g, n, last_operation e os r t1)))

out_of_operation : (l : Level) (d : ℕ) (k : TokenKind) (o : Operator) (p : Position) (ks : List Terminal) → operator_of k ≡ Some o → level_of o ≡ l → HandsOn (Seq (Operand l) (SomeOperations l)) d ks (SomeOperations l) d (k at p ∷ ks)
out_of_operation l d k o p ks h q = hands_behind (Seq (Operand l) (SomeOperations l)) (SomeOperations l) d (k at p) ks (λ i y ls r x. (operation o p y.0 y.1, add_operation l i k o p y.0 y.1 ls x.0 r h q x.1 x.2))

operand_refuses : (l : Level) (d : ℕ) (end : Place) (k : TokenKind) (o : Operator) (p : Position) (after : List Terminal) (e : ParseError) → operator_of k ≡ Some o → level_of o ≡ l → Refuses (Operand l) d end after e → Refuses (SomeOperations l) d end (k at p ∷ after) e
operand_refuses l d end k o p after e h q x = refuses_behind (Seq (Operand l) (SomeOperations l)) (SomeOperations l) d end (k at p) after e (into_operation l k o p h q) (out_of_operation l d k o p after h q) (refuses_first (Operand l) (SomeOperations l) d end after e (operand_alone l d after) x)

more_refuses : (l : Level) (d : ℕ) (end : Place) (k : TokenKind) (o : Operator) (p : Position) (a : Expression) (after m : List Terminal) (e : ParseError) → operator_of k ≡ Some o → level_of o ≡ l → Operand l d a after m → Refuses (SomeOperations l) d end m e → Refuses (SomeOperations l) d end (k at p ∷ after) e
more_refuses l d end k o p a after m e h q f x = refuses_behind (Seq (Operand l) (SomeOperations l)) (SomeOperations l) d end (k at p) after e (into_operation l k o p h q) (out_of_operation l d k o p after h q) (refuses_after (Operand l) (SomeOperations l) d end a after m e (known_operand l) f x)

pub operating_more : (l : Level) (d : ℕ) (end : Place) (all rest after m : List Terminal) (xs : List Operation) (x : Operation) → Operating l d end all xs rest → StandsOperator l x.operator x.position rest after → Operand l d (expr_of x.operand) after m → Operating l d end all (xs ++ (x ∷ [])) m
operating_more l d end all rest after m xs x so_far (k, is, h, q) f = record {
  completes = λ more r g. subst (λ z. SomeOperations l d z all r) (sym (before_push xs x more)) (so_far.completes _ r (subst (λ z. SomeOperations l d (operation x.operator x.position (expr_of x.operand) more) z r) (sym is) (add_operation l d k x.operator x.position (expr_of x.operand) more after m r h q f g)));
  dies = λ e g. so_far.dies e (subst (λ z. Refuses (SomeOperations l) d end z e) (sym is) (more_refuses l d end k x.operator x.position (expr_of x.operand) after m e h q f g));
  follows = operand_follows l (expr_of x.operand) m f.1;
}

pub operating_refuses : (l : Level) (d : ℕ) (end : Place) (all rest after : List Terminal) (xs ys zs : List Operation) (e : ParseError) → Operating l d end all xs rest → Grown ys zs (λ x. StandsOperator l x.operator x.position rest after) → Refuses (Operand l) d end after e → Refuses (SomeOperations l) d end all e
operating_refuses l d end all rest after xs ys zs e so_far (x, more, (k, is, h, q)) y = so_far.dies e (subst (λ z. Refuses (SomeOperations l) d end z e) (sym is) (operand_refuses l d end k x.operator x.position after e h q y))

slash_kind : (k : TokenKind) → operator_of k ≡ Some operator.Slash → k ≡ kind.Slash
slash_kind kind.Slash h = refl
slash_kind other h = absurd cc

pub slash_refuses : (l : Level) (d : ℕ) (end : Place) (rest after : List Terminal) (o : Operator) (p : Position) (e : ParseError) → StandsOperator l o p rest after → o ≡ operator.Slash → e ≡ refused_at 13 1 end rest → Refuses (SomeOperations l) d end rest e
slash_refuses l d end rest after o p e (k, is, h, q) slash x =
    let form : rest ≡ kind.Slash at p ∷ after = is ∙ ap (λ z. z at p ∷ after) (slash_kind k (h ∙ ap Some slash)) in
    in_grammar 1 rest x ([], rest, refl, subst (λ z. GrammarForm 1 z z) (sym form) is_slash)

-- an operator of a tighter level
abbrev tighter : Level → TokenKind → Bool
tighter Relational k = binds Additive k
tighter Additive k = binds Multiplicative k
tighter Multiplicative k = false

abbrev tighter_level : Level → Level → Bool
tighter_level Relational l = at_least Additive l
tighter_level Additive l = at_least Multiplicative l
tighter_level Multiplicative l = false

-- a level that is not tighter than another, and not the same, is looser
looser_level : (l l' : Level) → (l' ≡ l → ⊥) → tighter_level l l' ≡ false → at_least l l' ≡ false
looser_level Relational Relational other h = absurd (other refl)
looser_level Relational Additive other h = absurd cc
looser_level Relational Multiplicative other h = absurd cc
looser_level Additive Relational other h = refl
looser_level Additive Additive other h = absurd (other refl)
looser_level Additive Multiplicative other h = absurd cc
looser_level Multiplicative Relational other h = refl
looser_level Multiplicative Additive other h = refl
looser_level Multiplicative Multiplicative other h = absurd (other refl)

looser_operator : (l : Level) (k : TokenKind) (found : Option Operator) → operator_of k ≡ found → ((o : Operator) → operator_of k ≡ Some o → level_of o ≡ l → ⊥) → (tighter l k ≡ false) → operator_at_least l found ≡ false
looser_operator l k None q none h = refl
looser_operator Relational k (Some o) q none h = looser_level Relational (level_of o) (none o q) (sym (ap (operator_at_least Additive) q) ∙ h)
looser_operator Additive k (Some o) q none h = looser_level Additive (level_of o) (none o q) (sym (ap (operator_at_least Multiplicative) q) ∙ h)
looser_operator Multiplicative k (Some o) q none h = looser_level Multiplicative (level_of o) (none o q) refl

tighter_at : (l : Level) (t : Terminal) (r : List Terminal) → NotTighter l (t ∷ r) → tighter l t.kind ≡ false
tighter_at Relational t r h = h
tighter_at Additive t r h = h
tighter_at Multiplicative t r h = refl

levels : (l : Level) (r : List Terminal) → NotTighter l r → NoOperator l r → IsNot (binds l) r
levels l [] h none = tt
levels l (t ∷ r) h none = looser_operator l t.kind (operator_of t.kind) refl (λ o q w. none o t.position r (t.kind, refl, q, w)) (tighter_at l t r h)

pub operating_ends : (l : Level) (d : ℕ) (end : Place) (all rest : List Terminal) (xs : List Operation) → Operating l d end all xs rest → NoOperator l rest → SomeOperations l d (operations_of xs) all rest
operating_ends l d end all rest xs so_far none = subst (λ z. SomeOperations l d z all rest) (before_none xs) (so_far.completes no_operations rest (are_no_operations, levels l rest so_far.follows none, tt))
