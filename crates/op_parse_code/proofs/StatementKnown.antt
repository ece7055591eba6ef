-- The sorts of parts of statements: each stands whatever follows that begins so, and ends at one place.
use Rattle.std.proofs.Common.{◌≡◌, ℕ, Bool, true, List, [], ◌∷◌, refl, sym, ap, ◌∙◌, subst}
use Rattle.op_parse_code.proofs.Cuts.{cut_none, cut_one, cut_join, same_not}
use Rattle.op_parse_code.proofs.Deeper.{deeper_designator, deeper_elements, deeper_statement, deeper_statements, deeper_branches, deeper_handlers}
use Rattle.op_parse_code.proofs.ExpressionFronts.{front_designator, front_elements}
use Rattle.op_parse_code.proofs.Refusing.{Known}
use Rattle.op_parse_code.proofs.StatementFronts.{front_statement, front_statements, front_branches, front_handlers, front_name, front_on, same_statement, same_statements}
use Rattle.op_parse_code.specs.Refusal.{SameHead}
use Rattle.op_parse_code.specs.Whole.{SomeName, SomeDesignator, ElementsBefore}
use Rattle.op_parse_code.specs.WholeStatement.{SomeStatement, SomeStatements, SomeBranches, SomeHandlers, SomeOn, SomeDirection, EndsStatements, front_is, is_semicolon}
use Rattle.op_parse_code.specs.declared.mark.Mark.TheVariants as mark
use Rattle.op_scan.specs.declared.token.TokenKind.{TokenKind}
use Rattle.op_scan.specs.declared.token.TokenKind.TheVariants as kind
use Rattle.op_tree.proofs.ExpressionUnique.{Begins, behind, unique_designator, unique_elements, true_false}
use Rattle.op_tree.proofs.StatementUnique.{ends, ends_list, unique_name, unique_on, unique_statement, unique_branches, unique_handlers}
use Rattle.op_tree.specs.Ends.{IsNot}
use Rattle.op_tree.specs.Statement.{Statement, Statements, statements}
use Rattle.op_tree.specs.StatementGrammar.{AreStatements, are_one_statement, are_statements}
use Rattle.op_tree.specs.Terminal.{Terminal, ◌at◌}

pub known_name : Known SomeName
known_name = record {
  front = λ d n ks m p. let s = front_name p in (s.0, s.1, s.2, λ x h. s.3 x);
  same = λ d d' n n' ks m m' p p'. (unique_name p p').1;
  deepens = λ d n ks m p. p;
}

pub known_on : Known SomeOn
known_on = record {
  front = λ d n ks m p. let s = front_on p in (s.0, s.1, s.2, λ x h. s.3 x);
  same = λ d d' n n' ks m m' p p'. (unique_on p p').2;
  deepens = λ d n ks m p. p;
}

pub known_designator : Known SomeDesignator
known_designator = record {
  front = λ d n ks m p. let s = front_designator p.0 in (s.0, s.1, s.2, λ x h. (s.3 x, same_not _ m x h p.1));
  same = λ d d' n n' ks m m' p p'. (unique_designator p.0 p'.0 p.1 p'.1).1;
  deepens = λ d n ks m p. (deeper_designator p.0, p.1);
}

pub known_direction : Known SomeDirection
known_direction = record {
  front = λ d n ks m p. (λ x. p.0 at p.1 ∷ x, cut_one (p.0 at p.1) cut_none, p.2, λ x h. (p.0, p.1, refl, p.3));
  same = λ d d' n n' ks m m' p p'. ap behind (sym p.2 ∙ p'.2);
  deepens = λ d n ks m p. p;
}

pub known_labels : Known (ElementsBefore mark.Colon)
known_labels = record {
  front = λ d n ks m p. let s = front_elements p.1 in (λ x. s.0 (kind.Colon at p.0 ∷ x), cut_join s.1 (cut_one (kind.Colon at p.0) cut_none), s.2, λ x h. (p.0, s.3 (kind.Colon at p.0 ∷ x)));
  same = λ d d' n n' ks m m' p p'. ap behind (unique_elements p.1 p'.1 (refl, refl) (refl, refl) refl refl refl refl).1;
  deepens = λ d n ks m p. (p.0, deeper_elements p.1);
}

pub known_statement : Known SomeStatement
known_statement = record {
  front = λ d s ks m p. let a = front_statement p.0 in (a.0, a.1, a.2, λ x h. (a.3 x, same_statement s m x h p.1));
  same = λ d d' s s' ks m m' p p'. (unique_statement p.0 p'.0 p.1 p'.1).1;
  deepens = λ d s ks m p. (deeper_statement p.0, p.1);
}

-- what ends the last statement of a list ends the last but the first
pub ends_behind : {d : ℕ} {ss : Statements} {ks r : List Terminal} (s : Statement) → AreStatements d ss ks r → EndsStatements (statements s ss) r → EndsStatements ss r
ends_behind s (are_one_statement f) t = t
ends_behind s (are_statements f ss) t = t

same_list : {d d' : ℕ} {ss ss' : Statements} {ks r r' : List Terminal} → AreStatements d ss ks r → AreStatements d' ss' ks r' → EndsStatements ss r → EndsStatements ss' r' → r ≡ r'
same_list (are_one_statement f) (are_one_statement f') t t' = (unique_statement f f' t.0 t'.0).1
same_list (are_one_statement f) (are_statements {s = s'} f' ss') t t' = true_false (subst (λ z. IsNot is_semicolon z) (unique_statement f f' t.0 (ends s' _ refl refl)).1 t.1)
same_list (are_statements {s = s} f ss) (are_one_statement f') t t' = true_false (subst (λ z. IsNot is_semicolon z) (sym (unique_statement f f' (ends s _ refl refl) t'.0).1) t'.1)
same_list {d' = d'} {r' = r'} (are_statements {s = s} f ss) (are_statements {s = s'} {ss = ss1} f' ss') t t' =
    let u = unique_statement f f' (ends s _ refl refl) (ends s' _ refl refl) in
    same_list ss (subst (λ x. AreStatements d' ss1 x r') (sym (ap behind u.1)) ss') (ends_behind s ss t) (ends_behind s' ss' t')

pub known_statements : Known SomeStatements
known_statements = record {
  front = λ d s ks m p. let a = front_statements p.0 in (a.0, a.1, a.2, λ x h. (a.3 x, same_statements s m x h p.1));
  same = λ d d' s s' ks m m' p p'. same_list p.0 p'.0 p.1 p'.1;
  deepens = λ d s ks m p. (deeper_statements p.0, p.1);
}

pub begins_of : (r : List Terminal) → front_is ends_list r ≡ true → Begins ends_list r
begins_of [] h = absurd cc
begins_of (t ∷ r) h = h

pub same_front_is : (test : TokenKind → Bool) (r r' : List Terminal) → SameHead r r' → front_is test r ≡ true → front_is test r' ≡ true
same_front_is test [] [] s h = h
same_front_is test [] (u ∷ r') s h = absurd s
same_front_is test (t ∷ r) [] s h = absurd s
same_front_is test (t ∷ r) (u ∷ r') s h = subst (λ (z : Terminal). test z.kind ≡ true) s h

pub known_branches : Known SomeBranches
known_branches = record {
  front = λ d s ks m p. let a = front_branches p.0 in (a.0, a.1, a.2, λ x h. (a.3 x h, same_front_is ends_list m x h p.1));
  same = λ d d' s s' ks m m' p p'. (unique_branches p.0 p'.0 (begins_of m p.1) (begins_of m' p'.1)).1;
  deepens = λ d s ks m p. (deeper_branches p.0, p.1);
}

pub known_handlers : Known SomeHandlers
known_handlers = record {
  front = λ d s ks m p. let a = front_handlers p.0 in (a.0, a.1, a.2, λ x h. (a.3 x h, same_front_is ends_list m x h p.1));
  same = λ d d' s s' ks m m' p p'. (unique_handlers p.0 p'.0 (begins_of m p.1) (begins_of m' p'.1)).1;
  deepens = λ d s ks m p. (deeper_handlers p.0, p.1);
}
