-- Statements keep their derivations, whatever stands behind them.
use Rattle.std.proofs.Common.{◌≡◌, ℕ, List, [], ◌∷◌, Option, refl, ap, ◌∙◌, subst}
use Rattle.op_parse_code.proofs.Cuts.{IsCut, cut_none, cut_one, cut_join, Front, same_not, same_chain}
use Rattle.op_parse_code.proofs.ExpressionFronts.{front_chain, front_designator, front_elements}
use Rattle.op_parse_code.specs.Refusal.{SameHead}
use Rattle.op_parse_code.specs.WholeStatement.{is_semicolon, EndsStatements}
use Rattle.op_scan.specs.declared.token.TokenKind.TheVariants as kind
use Rattle.op_tree.specs.Ends.{EndsStatement}
use Rattle.op_tree.specs.NameGrammar.{IsName, is_name, IsQualified, is_unqualified, is_qualified}
use Rattle.op_tree.specs.Statement.{Statement, empty, block, if_then, if_else, case_of, case_else, while_do, repeat_until, for_to, for_in, try_finally, try_except, try_on, try_on_else, raise, reraise, inherited, inherited_call, call, assign, Statements, no_statements, statements, Branches, Handlers}
use Rattle.op_tree.specs.StatementGrammar.{IsOn, is_on_class, is_on_variable, IsStatement, is_empty, is_block, is_if_then, is_if_else, is_case, is_case_else, is_while, is_repeat, is_for_to, is_for_in, is_try_finally, is_try_except, is_try_on, is_try_on_else, is_raise, is_reraise, is_inherited, is_inherited_call, is_call, is_assignment, is_begin_end, AreStatements, are_one_statement, are_statements, AreBranches, are_no_branches, are_branches, is_branch_before_end, is_branch_before_else, AreHandlers, are_no_handlers, are_handlers, is_handler_before_end, is_handler_before_else}
use Rattle.op_tree.specs.Terminal.{Terminal, ◌at◌}
use Rattle.op_tree.specs.declared.operator.Level.TheVariants.{Relational}
use Rattle.op_tree.specs.declared.position.Name.{Name}
use Rattle.op_tree.specs.declared.position.QualifiedName.{QualifiedName}

-- ---- what may follow

pub same_statement : (s : Statement) (r r' : List Terminal) → SameHead r r' → EndsStatement s r → EndsStatement s r'
same_statement empty r r' h e = same_not _ r r' h e
same_statement (block ss) r r' h e = tt
same_statement (if_then c s) r r' h e = (same_statement s r r' h e.0, same_not _ r r' h e.1)
same_statement (if_else c s t) r r' h e = same_statement t r r' h e
same_statement (case_of x bs) r r' h e = tt
same_statement (case_else x bs ss) r r' h e = tt
same_statement (while_do c s) r r' h e = same_statement s r r' h e
same_statement (repeat_until ss c) r r' h e = same_chain Relational c r r' h e
same_statement (for_to v a way b s) r r' h e = same_statement s r r' h e
same_statement (for_in v a s) r r' h e = same_statement s r r' h e
same_statement (try_finally ss ts) r r' h e = tt
same_statement (try_except ss ts) r r' h e = tt
same_statement (try_on ss hs) r r' h e = tt
same_statement (try_on_else ss hs ts) r r' h e = tt
same_statement (raise p a) r r' h e = same_chain Relational a r r' h e
same_statement (reraise p) r r' h e = same_not _ r r' h e
same_statement (inherited p) r r' h e = same_not _ r r' h e
same_statement (inherited_call p g) r r' h e = same_not _ r r' h e
same_statement (call g) r r' h e = (same_not _ r r' h e.0, same_not _ r r' h e.1)
same_statement (assign g p a) r r' h e = same_chain Relational a r r' h e

pub same_statements : (ss : Statements) (r r' : List Terminal) → SameHead r r' → EndsStatements ss r → EndsStatements ss r'
same_statements no_statements r r' h e = tt
same_statements (statements s no_statements) r r' h e = (same_statement s r r' h e.0, same_not is_semicolon r r' h e.1)
same_statements (statements s (statements s1 ss)) r r' h e = same_statements (statements s1 ss) r r' h e

-- ---- names

pub front_name : {n : Name} {ks r : List Terminal} → IsName n ks r → Front (IsName n) ks r
front_name (is_name {text = text} {p = p}) = (λ x. kind.Identifier text at p ∷ x, cut_one (kind.Identifier text at p) cut_none, refl, λ x. is_name)

pub front_qualified : {q : QualifiedName} {ks r : List Terminal} → IsQualified q ks r → Front (IsQualified q) ks r
front_qualified (is_unqualified n) = let s = front_name n in (s.0, s.1, s.2, λ x. is_unqualified (s.3 x))
front_qualified (is_qualified {p = p} n m) =
    let s = front_name n in
    let u = front_name m in
    (λ x. s.0 (kind.Dot at p ∷ u.0 x), cut_join s.1 (cut_one (kind.Dot at p) u.1), s.2 ∙ ap (λ z. s.0 (kind.Dot at p ∷ z)) u.2, λ x. is_qualified (s.3 (kind.Dot at p ∷ u.0 x)) (u.3 x))

pub front_on : {v : Option Name} {c : QualifiedName} {ks r : List Terminal} → IsOn v c ks r → Front (IsOn v c) ks r
front_on (is_on_class {on = on} {p = p} {q = q} h a) =
    let s = front_qualified a in
    (λ x. kind.Identifier on at p ∷ s.0 (kind.Do_ at q ∷ x), cut_one (kind.Identifier on at p) (cut_join s.1 (cut_one (kind.Do_ at q) cut_none)), ap (λ z. kind.Identifier on at p ∷ z) s.2, λ x. is_on_class h (s.3 (kind.Do_ at q ∷ x)))
front_on (is_on_variable {on = on} {p = p} {q = q} {u = u} h n a) =
    let s = front_name n in
    let w = front_qualified a in
    (λ x. kind.Identifier on at p ∷ s.0 (kind.Colon at q ∷ w.0 (kind.Do_ at u ∷ x)), cut_one (kind.Identifier on at p) (cut_join s.1 (cut_one (kind.Colon at q) (cut_join w.1 (cut_one (kind.Do_ at u) cut_none)))), ap (λ z. kind.Identifier on at p ∷ z) (s.2 ∙ ap (λ z. s.0 (kind.Colon at q ∷ z)) w.2), λ x. is_on_variable h (s.3 (kind.Colon at q ∷ w.0 (kind.Do_ at u ∷ x))) (w.3 (kind.Do_ at u ∷ x)))

-- what holds of the tokens before a part that ends before a token of its own
abbrev pub FrontSame : (List Terminal → List Terminal → Type 0) → List Terminal → List Terminal → Type 0
FrontSame P ks r = (f : List Terminal → List Terminal) × IsCut f × (ks ≡ f r) × ((x : List Terminal) → SameHead r x → P (f x) x)

-- it holds where it holds before that token
at_token : (P : List Terminal → List Terminal → Type 0) (t : Terminal) (r : List Terminal) (f : List Terminal → List Terminal) → ((x : List Terminal) → P (f (t ∷ x)) (t ∷ x)) → (x : List Terminal) → SameHead (t ∷ r) x → P (f x) x
at_token P t r f h [] s = absurd s
at_token P t r f h (u ∷ x) s = subst (λ (z : Terminal). P (f (z ∷ x)) (z ∷ x)) s (h x)

-- ---- statements

mutual
  pub front_statement : {d : ℕ} {s : Statement} {ks r : List Terminal} → IsStatement d s ks r → Front (IsStatement d s) ks r
  front_statement is_empty = (λ x. x, cut_none, refl, λ x. is_empty)
  front_statement (is_block {p = p} (is_begin_end {q = q} ss)) =
      let s = front_statements ss in
      (λ x. kind.Begin at p ∷ s.0 (kind.End at q ∷ x), cut_one (kind.Begin at p) (cut_join s.1 (cut_one (kind.End at q) cut_none)), ap (λ z. kind.Begin at p ∷ z) s.2, λ x. is_block (is_begin_end (s.3 (kind.End at q ∷ x))))
  front_statement (is_if_then {p = p} {q = q} e f) =
      let a = front_chain e in
      let b = front_statement f in
      (λ x. kind.If_ at p ∷ a.0 (kind.Then at q ∷ b.0 x), cut_one (kind.If_ at p) (cut_join a.1 (cut_one (kind.Then at q) b.1)), ap (λ z. kind.If_ at p ∷ z) (a.2 ∙ ap (λ z. a.0 (kind.Then at q ∷ z)) b.2), λ x. is_if_then (a.3 (kind.Then at q ∷ b.0 x)) (b.3 x))
  front_statement (is_if_else {p = p} {q = q} {u = u} e f closed g) =
      let a = front_chain e in
      let b = front_statement f in
      let c = front_statement g in
      (λ x. kind.If_ at p ∷ a.0 (kind.Then at q ∷ b.0 (kind.Else_ at u ∷ c.0 x)), cut_one (kind.If_ at p) (cut_join a.1 (cut_one (kind.Then at q) (cut_join b.1 (cut_one (kind.Else_ at u) c.1)))), ap (λ z. kind.If_ at p ∷ z) (a.2 ∙ ap (λ z. a.0 (kind.Then at q ∷ z)) (b.2 ∙ ap (λ z. b.0 (kind.Else_ at u ∷ z)) c.2)), λ x. is_if_else (a.3 (kind.Then at q ∷ b.0 (kind.Else_ at u ∷ c.0 x))) (b.3 (kind.Else_ at u ∷ c.0 x)) closed (c.3 x))
  front_statement (is_case {p = p} {q = q} {u = u} e bs) =
      let a = front_chain e in
      let b = front_branches bs in
      (λ x. kind.Case at p ∷ a.0 (kind.Of at q ∷ b.0 (kind.End at u ∷ x)), cut_one (kind.Case at p) (cut_join a.1 (cut_one (kind.Of at q) (cut_join b.1 (cut_one (kind.End at u) cut_none)))), ap (λ z. kind.Case at p ∷ z) (a.2 ∙ ap (λ z. a.0 (kind.Of at q ∷ z)) b.2), λ x. is_case (a.3 (kind.Of at q ∷ b.0 (kind.End at u ∷ x))) (b.3 (kind.End at u ∷ x) refl))
  front_statement (is_case_else {p = p} {q = q} {u = u} {v = v} e bs ss) =
      let a = front_chain e in
      let b = front_branches bs in
      let c = front_statements ss in
      (λ x. kind.Case at p ∷ a.0 (kind.Of at q ∷ b.0 (kind.Else_ at u ∷ c.0 (kind.End at v ∷ x))), cut_one (kind.Case at p) (cut_join a.1 (cut_one (kind.Of at q) (cut_join b.1 (cut_one (kind.Else_ at u) (cut_join c.1 (cut_one (kind.End at v) cut_none)))))), ap (λ z. kind.Case at p ∷ z) (a.2 ∙ ap (λ z. a.0 (kind.Of at q ∷ z)) (b.2 ∙ ap (λ z. b.0 (kind.Else_ at u ∷ z)) c.2)), λ x. is_case_else (a.3 (kind.Of at q ∷ b.0 (kind.Else_ at u ∷ c.0 (kind.End at v ∷ x)))) (b.3 (kind.Else_ at u ∷ c.0 (kind.End at v ∷ x)) refl) (c.3 (kind.End at v ∷ x)))
  front_statement (is_while {p = p} {q = q} e f) =
      let a = front_chain e in
      let b = front_statement f in
      (λ x. kind.While_ at p ∷ a.0 (kind.Do_ at q ∷ b.0 x), cut_one (kind.While_ at p) (cut_join a.1 (cut_one (kind.Do_ at q) b.1)), ap (λ z. kind.While_ at p ∷ z) (a.2 ∙ ap (λ z. a.0 (kind.Do_ at q ∷ z)) b.2), λ x. is_while (a.3 (kind.Do_ at q ∷ b.0 x)) (b.3 x))
  front_statement (is_repeat {p = p} {q = q} ss e) =
      let a = front_statements ss in
      let b = front_chain e in
      (λ x. kind.Repeat at p ∷ a.0 (kind.Until at q ∷ b.0 x), cut_one (kind.Repeat at p) (cut_join a.1 (cut_one (kind.Until at q) b.1)), ap (λ z. kind.Repeat at p ∷ z) (a.2 ∙ ap (λ z. a.0 (kind.Until at q ∷ z)) b.2), λ x. is_repeat (a.3 (kind.Until at q ∷ b.0 x)) (b.3 x))
  front_statement (is_for_to {k = k} {p = p} {q = q} {u = u} {v = v} n a way b f) =
      let i = front_name n in
      let j = front_chain a in
      let l = front_chain b in
      let w = front_statement f in
      (λ x. kind.For_ at p ∷ i.0 (kind.Assign at q ∷ j.0 (k at u ∷ l.0 (kind.Do_ at v ∷ w.0 x))), cut_one (kind.For_ at p) (cut_join i.1 (cut_one (kind.Assign at q) (cut_join j.1 (cut_one (k at u) (cut_join l.1 (cut_one (kind.Do_ at v) w.1)))))), ap (λ z. kind.For_ at p ∷ z) (i.2 ∙ ap (λ z. i.0 (kind.Assign at q ∷ z)) (j.2 ∙ ap (λ z. j.0 (k at u ∷ z)) (l.2 ∙ ap (λ z. l.0 (kind.Do_ at v ∷ z)) w.2))), λ x. is_for_to (i.3 (kind.Assign at q ∷ j.0 (k at u ∷ l.0 (kind.Do_ at v ∷ w.0 x)))) (j.3 (k at u ∷ l.0 (kind.Do_ at v ∷ w.0 x))) way (l.3 (kind.Do_ at v ∷ w.0 x)) (w.3 x))
  front_statement (is_for_in {p = p} {q = q} {u = u} n a f) =
      let i = front_name n in
      let j = front_chain a in
      let w = front_statement f in
      (λ x. kind.For_ at p ∷ i.0 (kind.In_ at q ∷ j.0 (kind.Do_ at u ∷ w.0 x)), cut_one (kind.For_ at p) (cut_join i.1 (cut_one (kind.In_ at q) (cut_join j.1 (cut_one (kind.Do_ at u) w.1)))), ap (λ z. kind.For_ at p ∷ z) (i.2 ∙ ap (λ z. i.0 (kind.In_ at q ∷ z)) (j.2 ∙ ap (λ z. j.0 (kind.Do_ at u ∷ z)) w.2)), λ x. is_for_in (i.3 (kind.In_ at q ∷ j.0 (kind.Do_ at u ∷ w.0 x))) (j.3 (kind.Do_ at u ∷ w.0 x)) (w.3 x))
  front_statement (is_try_finally {p = p} {q = q} {u = u} ss ts) =
      let a = front_statements ss in
      let b = front_statements ts in
      (λ x. kind.Try_ at p ∷ a.0 (kind.Finally at q ∷ b.0 (kind.End at u ∷ x)), cut_one (kind.Try_ at p) (cut_join a.1 (cut_one (kind.Finally at q) (cut_join b.1 (cut_one (kind.End at u) cut_none)))), ap (λ z. kind.Try_ at p ∷ z) (a.2 ∙ ap (λ z. a.0 (kind.Finally at q ∷ z)) b.2), λ x. is_try_finally (a.3 (kind.Finally at q ∷ b.0 (kind.End at u ∷ x))) (b.3 (kind.End at u ∷ x)))
  front_statement (is_try_except {p = p} {q = q} {u = u} ss ts) =
      let a = front_statements ss in
      let b = front_statements ts in
      (λ x. kind.Try_ at p ∷ a.0 (kind.Except at q ∷ b.0 (kind.End at u ∷ x)), cut_one (kind.Try_ at p) (cut_join a.1 (cut_one (kind.Except at q) (cut_join b.1 (cut_one (kind.End at u) cut_none)))), ap (λ z. kind.Try_ at p ∷ z) (a.2 ∙ ap (λ z. a.0 (kind.Except at q ∷ z)) b.2), λ x. is_try_except (a.3 (kind.Except at q ∷ b.0 (kind.End at u ∷ x))) (b.3 (kind.End at u ∷ x)))
  front_statement (is_try_on {p = p} {q = q} {u = u} ss hs) =
      let a = front_statements ss in
      let b = front_handlers hs in
      (λ x. kind.Try_ at p ∷ a.0 (kind.Except at q ∷ b.0 (kind.End at u ∷ x)), cut_one (kind.Try_ at p) (cut_join a.1 (cut_one (kind.Except at q) (cut_join b.1 (cut_one (kind.End at u) cut_none)))), ap (λ z. kind.Try_ at p ∷ z) (a.2 ∙ ap (λ z. a.0 (kind.Except at q ∷ z)) b.2), λ x. is_try_on (a.3 (kind.Except at q ∷ b.0 (kind.End at u ∷ x))) (b.3 (kind.End at u ∷ x) refl))
  front_statement (is_try_on_else {p = p} {q = q} {u = u} {w = w} ss hs ts) =
      let a = front_statements ss in
      let b = front_handlers hs in
      let c = front_statements ts in
      (λ x. kind.Try_ at p ∷ a.0 (kind.Except at q ∷ b.0 (kind.Else_ at u ∷ c.0 (kind.End at w ∷ x))), cut_one (kind.Try_ at p) (cut_join a.1 (cut_one (kind.Except at q) (cut_join b.1 (cut_one (kind.Else_ at u) (cut_join c.1 (cut_one (kind.End at w) cut_none)))))), ap (λ z. kind.Try_ at p ∷ z) (a.2 ∙ ap (λ z. a.0 (kind.Except at q ∷ z)) (b.2 ∙ ap (λ z. b.0 (kind.Else_ at u ∷ z)) c.2)), λ x. is_try_on_else (a.3 (kind.Except at q ∷ b.0 (kind.Else_ at u ∷ c.0 (kind.End at w ∷ x)))) (b.3 (kind.Else_ at u ∷ c.0 (kind.End at w ∷ x)) refl) (c.3 (kind.End at w ∷ x)))
  front_statement (is_raise {p = p} e) =
      let a = front_chain e in
      (λ x. kind.Raise at p ∷ a.0 x, cut_one (kind.Raise at p) a.1, ap (λ z. kind.Raise at p ∷ z) a.2, λ x. is_raise (a.3 x))
  front_statement (is_reraise {p = p}) = (λ x. kind.Raise at p ∷ x, cut_one (kind.Raise at p) cut_none, refl, λ x. is_reraise)
  front_statement (is_inherited {p = p}) = (λ x. kind.Inherited at p ∷ x, cut_one (kind.Inherited at p) cut_none, refl, λ x. is_inherited)
  front_statement (is_inherited_call {p = p} g) =
      let a = front_designator g in
      (λ x. kind.Inherited at p ∷ a.0 x, cut_one (kind.Inherited at p) a.1, ap (λ z. kind.Inherited at p ∷ z) a.2, λ x. is_inherited_call (a.3 x))
  front_statement (is_call g) = let a = front_designator g in (a.0, a.1, a.2, λ x. is_call (a.3 x))
  front_statement (is_assignment {p = p} g e) =
      let a = front_designator g in
      let b = front_chain e in
      (λ x. a.0 (kind.Assign at p ∷ b.0 x), cut_join a.1 (cut_one (kind.Assign at p) b.1), a.2 ∙ ap (λ z. a.0 (kind.Assign at p ∷ z)) b.2, λ x. is_assignment (a.3 (kind.Assign at p ∷ b.0 x)) (b.3 x))

  pub front_statements : {d : ℕ} {ss : Statements} {ks r : List Terminal} → AreStatements d ss ks r → Front (AreStatements d ss) ks r
  front_statements (are_one_statement f) = let a = front_statement f in (a.0, a.1, a.2, λ x. are_one_statement (a.3 x))
  front_statements (are_statements {p = p} f ss) =
      let a = front_statement f in
      let b = front_statements ss in
      (λ x. a.0 (kind.Semicolon at p ∷ b.0 x), cut_join a.1 (cut_one (kind.Semicolon at p) b.1), a.2 ∙ ap (λ z. a.0 (kind.Semicolon at p ∷ z)) b.2, λ x. are_statements (a.3 (kind.Semicolon at p ∷ b.0 x)) (b.3 x))

  pub front_branches : {d : ℕ} {bs : Branches} {ks r : List Terminal} → AreBranches d bs ks r → FrontSame (AreBranches d bs) ks r
  front_branches are_no_branches = (λ x. x, cut_none, refl, λ x h. are_no_branches)
  front_branches (are_branches {p = p} {q = q} ls f bs) =
      let a = front_elements ls in
      let b = front_statement f in
      let c = front_branches bs in
      (λ x. a.0 (kind.Colon at p ∷ b.0 (kind.Semicolon at q ∷ c.0 x)), cut_join a.1 (cut_one (kind.Colon at p) (cut_join b.1 (cut_one (kind.Semicolon at q) c.1))), a.2 ∙ ap (λ z. a.0 (kind.Colon at p ∷ z)) (b.2 ∙ ap (λ z. b.0 (kind.Semicolon at q ∷ z)) c.2), λ x h. are_branches (a.3 (kind.Colon at p ∷ b.0 (kind.Semicolon at q ∷ c.0 x))) (b.3 (kind.Semicolon at q ∷ c.0 x)) (c.3 x h))
  front_branches {d} {bs} (is_branch_before_end {p = p} {q = q} {r = r} ls f) =
      let a = front_elements ls in
      let b = front_statement f in
      (λ x. a.0 (kind.Colon at p ∷ b.0 x), cut_join a.1 (cut_one (kind.Colon at p) b.1), a.2 ∙ ap (λ z. a.0 (kind.Colon at p ∷ z)) b.2, at_token (AreBranches d bs) (kind.End at q) r (λ x. a.0 (kind.Colon at p ∷ b.0 x)) (λ x. is_branch_before_end (a.3 (kind.Colon at p ∷ b.0 (kind.End at q ∷ x))) (b.3 (kind.End at q ∷ x))))
  front_branches {d} {bs} (is_branch_before_else {p = p} {q = q} {r = r} ls f closed) =
      let a = front_elements ls in
      let b = front_statement f in
      (λ x. a.0 (kind.Colon at p ∷ b.0 x), cut_join a.1 (cut_one (kind.Colon at p) b.1), a.2 ∙ ap (λ z. a.0 (kind.Colon at p ∷ z)) b.2, at_token (AreBranches d bs) (kind.Else_ at q) r (λ x. a.0 (kind.Colon at p ∷ b.0 x)) (λ x. is_branch_before_else (a.3 (kind.Colon at p ∷ b.0 (kind.Else_ at q ∷ x))) (b.3 (kind.Else_ at q ∷ x)) closed))

  pub front_handlers : {d : ℕ} {hs : Handlers} {ks r : List Terminal} → AreHandlers d hs ks r → FrontSame (AreHandlers d hs) ks r
  front_handlers are_no_handlers = (λ x. x, cut_none, refl, λ x h. are_no_handlers)
  front_handlers (are_handlers {p = p} o f hs) =
      let a = front_on o in
      let b = front_statement f in
      let c = front_handlers hs in
      (λ x. a.0 (b.0 (kind.Semicolon at p ∷ c.0 x)), cut_join a.1 (cut_join b.1 (cut_one (kind.Semicolon at p) c.1)), a.2 ∙ ap a.0 (b.2 ∙ ap (λ z. b.0 (kind.Semicolon at p ∷ z)) c.2), λ x h. are_handlers (a.3 (b.0 (kind.Semicolon at p ∷ c.0 x))) (b.3 (kind.Semicolon at p ∷ c.0 x)) (c.3 x h))
  front_handlers {d} {hs} (is_handler_before_end {p = p} {r = r} o f) =
      let a = front_on o in
      let b = front_statement f in
      (λ x. a.0 (b.0 x), cut_join a.1 b.1, a.2 ∙ ap a.0 b.2, at_token (AreHandlers d hs) (kind.End at p) r (λ x. a.0 (b.0 x)) (λ x. is_handler_before_end (a.3 (b.0 (kind.End at p ∷ x))) (b.3 (kind.End at p ∷ x))))
  front_handlers {d} {hs} (is_handler_before_else {p = p} {r = r} o f closed) =
      let a = front_on o in
      let b = front_statement f in
      (λ x. a.0 (b.0 x), cut_join a.1 b.1, a.2 ∙ ap a.0 b.2, at_token (AreHandlers d hs) (kind.Else_ at p) r (λ x. a.0 (b.0 x)) (λ x. is_handler_before_else (a.3 (b.0 (kind.Else_ at p ∷ x))) (b.3 (kind.Else_ at p ∷ x)) closed))
