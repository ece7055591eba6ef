-- At most one statement stands at the front of a list of tokens and is whole.
use Rattle.std.proofs.Common.{◌≡◌, ℕ, Bool, true, false, ◌||◌, List, [], ◌∷◌, Option, Some, refl, sym, ap, ◌∙◌, subst, ap₂}
use Rattle.std.proofs.lemmas.Option.{same_Some}
use Rattle.op_base.proofs.Tests.{ap₃}
use Rattle.op_scan.specs.declared.token.TokenKind.{TokenKind}
use Rattle.op_scan.specs.declared.token.TokenKind.TheVariants as kind
use Rattle.op_tree.proofs.ExpressionUnique.{true_false, false_true, Begins, designator_begins, elements_begin, chain_begins, selector_begins, stop, is_colon, behind, unique_chain, unique_expr, unique_designator, unique_elements}
use Rattle.op_tree.specs.Ends.{IsNot, binds, begins_selector, begins_designator, begins_expression, begins_statement, Stops, is_assign, is_else, EndsStatement}
use Rattle.op_tree.specs.Expression.{Elements}
use Rattle.op_tree.specs.ExpressionGrammar.{IsChain, is_designator, is_named, is_string, is_bracketed, AreSelectors, are_no_selectors, are_selectors, AreElements}
use Rattle.op_tree.specs.Expression.{Selectors}
use Rattle.op_tree.specs.NameGrammar.{IsName, is_name, IsQualified, is_unqualified, is_qualified}
use Rattle.op_tree.specs.Statement.{Statement, empty, block, if_then, if_else, case_of, case_else, while_do, repeat_until, for_to, for_in, try_finally, try_except, try_on, try_on_else, raise, reraise, inherited, inherited_call, call, assign, Statements, no_statements, statements, Branches, no_branches, branches, Handlers, no_handlers, handlers}
use Rattle.op_tree.specs.StatementGrammar.{IsClosed, direction_of, IsStatement, is_empty, is_block, is_if_then, is_if_else, is_case, is_case_else, is_while, is_repeat, is_for_to, is_for_in, is_try_finally, is_try_except, is_try_on, is_try_on_else, is_raise, is_reraise, is_inherited, is_inherited_call, is_call, is_assignment, IsBlock, is_begin_end, AreStatements, are_one_statement, are_statements, AreBranches, are_no_branches, are_branches, is_branch_before_end, is_branch_before_else, AreHandlers, are_no_handlers, are_handlers, is_handler_before_end, is_handler_before_else, IsOn, is_on_class, is_on_variable}
use Rattle.op_tree.specs.Terminal.{Terminal, ◌at◌}
use Rattle.op_tree.specs.declared.operator.Level.TheVariants.{Relational}
use Rattle.op_tree.specs.declared.position.Name.{Name}
use Rattle.op_tree.specs.declared.position.Position.{Position}
use Rattle.op_tree.specs.declared.position.QualifiedName.{QualifiedName}
use Rattle.op_tree.specs.declared.statement.Direction.{Direction}

-- ---- what may follow a statement

abbrev pub continues : TokenKind → Bool
continues k = begins_statement k || (binds Relational k || (begins_selector k || (begins_expression k || (begins_designator k || is_assign k))))

or_false : (a b : Bool) → a || b ≡ false → (a ≡ false) × (b ≡ false)
or_false true b h = true_false h
or_false false b h = (refl, h)

-- the same, test by test
pub record Rests (r : List Terminal) : Type 0 where
  pub statement : IsNot begins_statement r
  pub operator : IsNot (binds Relational) r
  pub selector : IsNot begins_selector r
  pub expression : IsNot begins_expression r
  pub designator : IsNot begins_designator r
  pub assign : IsNot is_assign r

pub rests : (r : List Terminal) → IsNot continues r → Rests r
rests [] h = record { statement = tt; operator = tt; selector = tt; expression = tt; designator = tt; assign = tt }
rests (t ∷ r) h =
    let a = or_false _ _ h in
    let b = or_false _ _ a.1 in
    let c = or_false _ _ b.1 in
    let d = or_false _ _ c.1 in
    let e = or_false _ _ d.1 in
    record { statement = a.0; operator = b.0; selector = c.0; expression = d.0; designator = e.0; assign = e.1 }

rested : (s : Statement) (r : List Terminal) → Rests r → IsNot is_else r → EndsStatement s r
rested empty r h n = h.statement
rested (block ss) r h n = tt
rested (if_then c s) r h n = (rested s r h n, n)
rested (if_else c s t) r h n = rested t r h n
rested (case_of e bs) r h n = tt
rested (case_else e bs ss) r h n = tt
rested (while_do c s) r h n = rested s r h n
rested (repeat_until ss c) r h n = stop c r (h.operator, h.selector)
rested (for_to v first way last s) r h n = rested s r h n
rested (for_in v e s) r h n = rested s r h n
rested (try_finally ss ts) r h n = tt
rested (try_except ss ts) r h n = tt
rested (try_on ss hs) r h n = tt
rested (try_on_else ss hs ts) r h n = tt
rested (raise p e) r h n = stop e r (h.operator, h.selector)
rested (reraise p) r h n = h.expression
rested (inherited p) r h n = h.designator
rested (inherited_call p g) r h n = h.selector
rested (call g) r h n = (h.selector, h.assign)
rested (assign g p e) r h n = stop e r (h.operator, h.selector)

rested_closed : (s : Statement) (r : List Terminal) → Rests r → IsClosed s → EndsStatement s r
rested_closed empty r h n = h.statement
rested_closed (block ss) r h n = tt
rested_closed (if_then c s) r h n = absurd n
rested_closed (if_else c s t) r h n = rested_closed t r h n
rested_closed (case_of e bs) r h n = tt
rested_closed (case_else e bs ss) r h n = tt
rested_closed (while_do c s) r h n = rested_closed s r h n
rested_closed (repeat_until ss c) r h n = stop c r (h.operator, h.selector)
rested_closed (for_to v first way last s) r h n = rested_closed s r h n
rested_closed (for_in v e s) r h n = rested_closed s r h n
rested_closed (try_finally ss ts) r h n = tt
rested_closed (try_except ss ts) r h n = tt
rested_closed (try_on ss hs) r h n = tt
rested_closed (try_on_else ss hs ts) r h n = tt
rested_closed (raise p e) r h n = stop e r (h.operator, h.selector)
rested_closed (reraise p) r h n = h.expression
rested_closed (inherited p) r h n = h.designator
rested_closed (inherited_call p g) r h n = h.selector
rested_closed (call g) r h n = (h.selector, h.assign)
rested_closed (assign g p e) r h n = stop e r (h.operator, h.selector)

-- what neither continues a statement nor is an else ends it
pub ends : (s : Statement) (r : List Terminal) → IsNot continues r → IsNot is_else r → EndsStatement s r
ends s r h n = rested s r (rests r h) n

pub ends_closed : (s : Statement) (r : List Terminal) → IsNot continues r → IsClosed s → EndsStatement s r
ends_closed s r h n = rested_closed s r (rests r h) n

-- ---- how lists of tokens differ

pub both : {A : Type 0} (test : TokenKind → Bool) (r : List Terminal) → Begins test r → IsNot test r → A
both test [] h n = absurd h
both test (t ∷ r) h n = true_false (sym h ∙ n)

pub differ : {A : Type 0} (test : TokenKind → Bool) {r r' : List Terminal} → r ≡ r' → Begins test r → IsNot test r' → A
differ test {r = r} {r' = r'} q h n = both test r' (subst (Begins test) q h) n

abbrev pub is_semicolon : TokenKind → Bool
is_semicolon kind.Semicolon = true
is_semicolon other = false

abbrev pub is_end : TokenKind → Bool
is_end kind.End = true
is_end other = false

abbrev is_finally : TokenKind → Bool
is_finally kind.Finally = true
is_finally other = false

abbrev pub is_identifier : TokenKind → Bool
is_identifier (kind.Identifier text) = true
is_identifier other = false

-- ---- names

pub unique_name : {n n' : Name} {ks r r' : List Terminal} → IsName n ks r → IsName n' ks r' → (n ≡ n') × (r ≡ r')
unique_name is_name is_name = (refl, refl)

abbrev pub is_dot : TokenKind → Bool
is_dot kind.Dot = true
is_dot other = false

pub unique_qualified : {q q' : QualifiedName} {ks r r' : List Terminal} → IsQualified q ks r → IsQualified q' ks r' → IsNot is_dot r → IsNot is_dot r' → (q ≡ q') × (r ≡ r')
unique_qualified (is_unqualified is_name) (is_unqualified is_name) h h' = (refl, refl)
unique_qualified (is_unqualified is_name) (is_qualified is_name b) h h' = true_false h
unique_qualified (is_qualified is_name b) (is_unqualified is_name) h h' = true_false h'
unique_qualified (is_qualified is_name is_name) (is_qualified is_name is_name) h h' = (refl, refl)

pub unique_on : {v v' : Option Name} {c c' : QualifiedName} {ks r r' : List Terminal} → IsOn v c ks r → IsOn v' c' ks r' → (v ≡ v') × (c ≡ c') × (r ≡ r')
unique_on (is_on_class h a) (is_on_class h' a') =
    let s = unique_qualified a a' refl refl in
    (refl, s.0, ap behind s.1)
unique_on (is_on_class h (is_unqualified a)) (is_on_variable h' n' a') = differ is_colon (sym (unique_name a n').1) refl refl
unique_on (is_on_class h (is_qualified a b)) (is_on_variable h' n' a') = differ is_colon (sym (unique_name a n').1) refl refl
unique_on (is_on_variable h n a) (is_on_class h' (is_unqualified a')) = differ is_colon (unique_name n a').1 refl refl
unique_on (is_on_variable h n a) (is_on_class h' (is_qualified a' b)) = differ is_colon (unique_name n a').1 refl refl
unique_on (is_on_variable h n a) (is_on_variable {c = c1} {u = u1} {r = r1} h' n' a') =
    let s = unique_name n n' in
    let u = unique_qualified a (subst (λ x. IsQualified c1 x (kind.Do_ at u1 ∷ r1)) (sym (ap behind s.1)) a') refl refl in
    (ap Some s.0, u.0, ap behind u.1)

-- ---- handlers and statements

identifier_no_selector : (k : TokenKind) → is_identifier k ≡ true → begins_selector k ≡ false
identifier_no_selector (kind.Identifier text) h = refl
identifier_no_selector other h = false_true h

no_selector : (ks : List Terminal) → Begins is_identifier ks → IsNot begins_selector ks
no_selector [] h = absurd h
no_selector (t ∷ ks) h = identifier_no_selector t.kind h

no_selectors_before : {A : Type 0} {d : ℕ} {ss : Selectors} {ks r : List Terminal} → AreSelectors d ss ks r → Begins is_identifier ks → IsNot is_identifier r → A
no_selectors_before {r = r} are_no_selectors b n = both is_identifier r b n
no_selectors_before (are_selectors {ks = ks} s ss) b n = selector_begins s (no_selector ks b)

-- no statement begins with two identifiers
no_statement : {A : Type 0} {d : ℕ} {s : Statement} {text : List ℕ} {p : _} {ks r : List Terminal} → IsStatement d s (kind.Identifier text at p ∷ ks) r → Begins is_identifier ks → IsNot is_identifier r → A
no_statement is_empty b n = true_false n
no_statement (is_call (is_designator is_named ss)) b n = no_selectors_before ss b n
no_statement (is_assignment (is_designator is_named ss) e) b n = no_selectors_before ss b refl

pub no_statements_at : {A : Type 0} {d : ℕ} {ss : Statements} {text : List ℕ} {p : _} {ks r : List Terminal} → AreStatements d ss (kind.Identifier text at p ∷ ks) r → Begins is_identifier ks → IsNot is_identifier r → A
no_statements_at (are_one_statement f) b n = no_statement f b n
no_statements_at (are_statements f ss) b n = no_statement f b refl

-- a handler is no statement
no_handler : {A : Type 0} {d : ℕ} {ss : Statements} {v : Option Name} {c : QualifiedName} {ks m r : List Terminal} → AreStatements d ss ks r → IsNot is_identifier r → IsOn v c ks m → A
no_handler ss n (is_on_class h (is_unqualified is_name)) = no_statements_at ss refl n
no_handler ss n (is_on_class h (is_qualified is_name a)) = no_statements_at ss refl n
no_handler ss n (is_on_variable h is_name a) = no_statements_at ss refl n

no_handlers_at : {A : Type 0} {d d' : ℕ} {ss : Statements} {v : Option Name} {c : QualifiedName} {s : Statement} {hs : Handlers} {ks m r : List Terminal} → AreStatements d ss ks r → IsNot is_identifier r → AreHandlers d' (handlers v c s hs) ks m → A
no_handlers_at ss n (are_handlers o f hs) = no_handler ss n o
no_handlers_at ss n (is_handler_before_end o f) = no_handler ss n o
no_handlers_at ss n (is_handler_before_else o f c) = no_handler ss n o

on_begins : {v : Option Name} {c : QualifiedName} {ks r : List Terminal} → IsOn v c ks r → Begins is_identifier ks
on_begins (is_on_class h a) = refl
on_begins (is_on_variable h n a) = refl

-- ---- at most one

statement_begins : {d : ℕ} {s : Statement} {ks r : List Terminal} → IsStatement d s ks r → IsNot begins_statement ks → (s ≡ empty) × (r ≡ ks)
statement_begins is_empty h = (refl, refl)
statement_begins (is_call (is_designator is_named ss)) h = true_false h
statement_begins (is_call (is_designator is_string ss)) h = true_false h
statement_begins (is_call (is_designator (is_bracketed e) ss)) h = true_false h
statement_begins (is_assignment (is_designator is_named ss) e) h = true_false h
statement_begins (is_assignment (is_designator is_string ss) e) h = true_false h
statement_begins (is_assignment (is_designator (is_bracketed f) ss) e) h = true_false h
statement_begins other h = true_false h

-- what ends a list of branches or of handlers
abbrev pub ends_list : TokenKind → Bool
ends_list kind.End = true
ends_list kind.Else_ = true
ends_list other = false

-- what ends a list of statements
abbrev pub EndsStatements : List Terminal → Type 0
EndsStatements r = IsNot continues r × IsNot is_else r × IsNot is_semicolon r

expression_ends_no_list : (k : TokenKind) → begins_expression k ≡ true → ends_list k ≡ false
expression_ends_no_list kind.End h = false_true h
expression_ends_no_list kind.Else_ h = false_true h
expression_ends_no_list other h = refl

pub no_elements_at : {A : Type 0} {d : ℕ} {es : Elements} {ks r : List Terminal} → AreElements d es ks r → Begins ends_list ks → A
no_elements_at {ks = ks} es h = at_front ks (elements_begin es) h
  where
    at_front : {A : Type 0} (ks : List Terminal) → Begins begins_expression ks → Begins ends_list ks → A
    at_front [] b e = absurd b
    at_front (t ∷ ks) b e = true_false (sym e ∙ expression_ends_no_list t.kind b)

identifier_ends_no_list : (k : TokenKind) → is_identifier k ≡ true → ends_list k ≡ false
identifier_ends_no_list kind.End h = false_true h
identifier_ends_no_list kind.Else_ h = false_true h
identifier_ends_no_list other h = refl

no_on_at : {A : Type 0} {v : Option Name} {c : QualifiedName} {ks r : List Terminal} → IsOn v c ks r → Begins ends_list ks → A
no_on_at {ks = ks} o h = at_front ks (on_begins o) h
  where
    at_front : {A : Type 0} (ks : List Terminal) → Begins is_identifier ks → Begins ends_list ks → A
    at_front [] b e = absurd b
    at_front (t ∷ ks) b e = true_false (sym e ∙ identifier_ends_no_list t.kind b)

pub same4 : {A B C D E : Type 0} (f : A → B → C → D → E) {a a' : A} {b b' : B} {c c' : C} {d d' : D} → a ≡ a' → b ≡ b' → c ≡ c' → d ≡ d' → f a b c d ≡ f a' b' c' d'
same4 f {a} {a'} {b} {b'} {c} {c'} {d} {d'} p q u v = ap (λ x. f x b c d) p ∙ ap₃ (f a') q u v

head_position_same : {k k' : TokenKind} {p p' : Position} {r r' : List Terminal} → k at p ∷ r ≡ k' at p' ∷ r' → p ≡ p'
head_position_same {p = p} q = ap (position_or p) q
  where
    position_or : Position → List Terminal → Position
    position_or p [] = p
    position_or p (t ∷ ts) = t.position

abbrev pub head_kind : List Terminal → TokenKind
head_kind [] = kind.End
head_kind (t ∷ ts) = t.kind

pub same5 : {A B C D E F : Type 0} (f : A → B → C → D → E → F) {a a' : A} {b b' : B} {c c' : C} {d d' : D} {e e' : E} → a ≡ a' → b ≡ b' → c ≡ c' → d ≡ d' → e ≡ e' → f a b c d e ≡ f a' b' c' d' e'
same5 f {a} {a'} {b} {b'} {c} {c'} {d} {d'} {e} {e'} p q u v w = ap (λ x. f x b c d e) p ∙ same4 (f a') q u v w

pub direction_stops : (k : TokenKind) (way : Direction) (p : Position) (r : List Terminal) → direction_of k ≡ Some way → Stops (k at p ∷ r)
direction_stops kind.To way p r h = (refl, refl)
direction_stops kind.Downto way p r h = (refl, refl)
direction_stops other way p r h = absurd cc

mutual
  pub unique_statement : {d d' : ℕ} {s s' : Statement} {ks r r' : List Terminal} → IsStatement d s ks r → IsStatement d' s' ks r' → EndsStatement s r → EndsStatement s' r' → (s ≡ s') × (r ≡ r')
  unique_statement is_empty f' h h' =
      let e = statement_begins f' h in
      (sym e.0, sym e.1)
  unique_statement f is_empty h h' = statement_begins f h'
  unique_statement (is_block b) (is_block b') h h' =
      let s = unique_block b b' in
      (ap block s.0, s.1)
  unique_statement (is_if_then c s) (is_if_then {d = y} {s = s1} {r = z} c' s') h h' =
      let u = unique_expr c c' (refl, refl) (refl, refl) in
      let v = unique_statement s (subst (λ x. IsStatement y s1 x z) (sym (ap behind u.1)) s') h.0 h'.0 in
      (ap₂ if_then u.0 v.0, v.1)
  unique_statement (is_if_then c s) (is_if_else {d = y} {s = s1} {u = q} {n = z} c' s' closed t') h h' =
      let u = unique_expr c c' (refl, refl) (refl, refl) in
      let v = unique_statement s (subst (λ x. IsStatement y s1 x (kind.Else_ at q ∷ z)) (sym (ap behind u.1)) s') h.0 (ends_closed s1 _ refl closed) in
      true_false (subst (IsNot is_else) v.1 h.1)
  unique_statement (is_if_else {s = s0} c s closed t) (is_if_then {d = y} {s = s1} {r = z} c' s') h h' =
      let u = unique_expr c c' (refl, refl) (refl, refl) in
      let v = unique_statement s (subst (λ x. IsStatement y s1 x z) (sym (ap behind u.1)) s') (ends_closed s0 _ refl closed) h'.0 in
      true_false (subst (IsNot is_else) (sym v.1) h'.1)
  unique_statement (is_if_else {s = s0} c s closed t) (is_if_else {d = y} {s = s1} {t = t1} {u = q} {n = z} {r = w} c' s' closed' t') h h' =
      let u = unique_expr c c' (refl, refl) (refl, refl) in
      let v = unique_statement s (subst (λ x. IsStatement y s1 x (kind.Else_ at q ∷ z)) (sym (ap behind u.1)) s') (ends_closed s0 _ refl closed) (ends_closed s1 _ refl closed') in
      let b = unique_statement t (subst (λ x. IsStatement y t1 x w) (sym (ap behind v.1)) t') h h' in
      (ap₃ if_else u.0 v.0 b.0, b.1)
  unique_statement (is_case c b) (is_case {d = y} {bs = b1} {u = q} {r = z} c' b') h h' =
      let u = unique_expr c c' (refl, refl) (refl, refl) in
      let v = unique_branches b (subst (λ x. AreBranches y b1 x (kind.End at q ∷ z)) (sym (ap behind u.1)) b') refl refl in
      (ap₂ case_of u.0 v.0, ap behind v.1)
  unique_statement (is_case c b) (is_case_else {d = y} {bs = b1} {u = q} {n = z} c' b' e') h h' =
      let u = unique_expr c c' (refl, refl) (refl, refl) in
      let v = unique_branches b (subst (λ x. AreBranches y b1 x (kind.Else_ at q ∷ z)) (sym (ap behind u.1)) b') refl refl in
      differ is_end v.1 refl refl
  unique_statement (is_case_else c b e) (is_case {d = y} {bs = b1} {u = q} {r = z} c' b') h h' =
      let u = unique_expr c c' (refl, refl) (refl, refl) in
      let v = unique_branches b (subst (λ x. AreBranches y b1 x (kind.End at q ∷ z)) (sym (ap behind u.1)) b') refl refl in
      differ is_end (sym v.1) refl refl
  unique_statement (is_case_else c b e) (is_case_else {d = y} {bs = b1} {ss = e1} {u = q} {v = l} {n = z} {r = w} c' b' e') h h' =
      let u = unique_expr c c' (refl, refl) (refl, refl) in
      let v = unique_branches b (subst (λ x. AreBranches y b1 x (kind.Else_ at q ∷ z)) (sym (ap behind u.1)) b') refl refl in
      let t = unique_statements e (subst (λ x. AreStatements y e1 x (kind.End at l ∷ w)) (sym (ap behind v.1)) e') (refl, refl, refl) (refl, refl, refl) in
      (ap₃ case_else u.0 v.0 t.0, ap behind t.1)
  unique_statement (is_while c s) (is_while {d = y} {s = s1} {r = z} c' s') h h' =
      let u = unique_expr c c' (refl, refl) (refl, refl) in
      let v = unique_statement s (subst (λ x. IsStatement y s1 x z) (sym (ap behind u.1)) s') h h' in
      (ap₂ while_do u.0 v.0, v.1)
  unique_statement (is_repeat b c) (is_repeat {d = y} {c = c1} {r = z} b' c') h h' =
      let u = unique_statements b b' (refl, refl, refl) (refl, refl, refl) in
      let v = unique_chain c (subst (λ x. IsChain Relational y c1 x z) (sym (ap behind u.1)) c') h h' in
      (ap₂ repeat_until u.0 v.0, v.1)
  unique_statement (is_for_to {k = k} {way = way} {u = q} {m1 = m1} n a w b s) (is_for_to {d = y} {first = a1} {last = b1} {k = k1} {way = way1} {s = s1} {u = q1} {v = l1} {m1 = x1} {m2 = x2} {r = z} n' a' w' b' s') h h' =
      let g = unique_name n n' in
      let u = unique_expr a (subst (λ x. IsChain Relational y a1 x (k1 at q1 ∷ x1)) (sym (ap behind g.1)) a') (direction_stops k way q m1 w) (direction_stops k1 way1 q1 x1 w') in
      let i = same_Some _ _ (sym w ∙ ap (λ x. direction_of (head_kind x)) u.1 ∙ w') in
      let v = unique_expr b (subst (λ x. IsChain Relational y b1 x (kind.Do_ at l1 ∷ x2)) (sym (ap behind u.1)) b') (refl, refl) (refl, refl) in
      let t = unique_statement s (subst (λ x. IsStatement y s1 x z) (sym (ap behind v.1)) s') h h' in
      (same5 for_to g.0 u.0 i v.0 t.0, t.1)
  unique_statement (is_for_to n a w b s) (is_for_in n' e' s') h h' = differ is_assign (unique_name n n').1 refl refl
  unique_statement (is_for_in n e s) (is_for_to n' a' w' b' s') h h' = differ is_assign (sym (unique_name n n').1) refl refl
  unique_statement (is_for_in n e s) (is_for_in {d = y} {e = e1} {s = s1} {u = q1} {m1 = x1} {r = z} n' e' s') h h' =
      let g = unique_name n n' in
      let u = unique_expr e (subst (λ x. IsChain Relational y e1 x (kind.Do_ at q1 ∷ x1)) (sym (ap behind g.1)) e') (refl, refl) (refl, refl) in
      let t = unique_statement s (subst (λ x. IsStatement y s1 x z) (sym (ap behind u.1)) s') h h' in
      (ap₃ for_in g.0 u.0 t.0, t.1)
  unique_statement (is_try_finally b c) (is_try_finally {d = y} {ts = c1} {u = q1} {r = z} b' c') h h' =
      let u = unique_statements b b' (refl, refl, refl) (refl, refl, refl) in
      let v = unique_statements c (subst (λ x. AreStatements y c1 x (kind.End at q1 ∷ z)) (sym (ap behind u.1)) c') (refl, refl, refl) (refl, refl, refl) in
      (ap₂ try_finally u.0 v.0, ap behind v.1)
  unique_statement (is_try_finally b c) (is_try_except b' c') h h' = differ is_finally (unique_statements b b' (refl, refl, refl) (refl, refl, refl)).1 refl refl
  unique_statement (is_try_finally b c) (is_try_on b' c') h h' = differ is_finally (unique_statements b b' (refl, refl, refl) (refl, refl, refl)).1 refl refl
  unique_statement (is_try_finally b c) (is_try_on_else b' c' e') h h' = differ is_finally (unique_statements b b' (refl, refl, refl) (refl, refl, refl)).1 refl refl
  unique_statement (is_try_except b c) (is_try_finally b' c') h h' = differ is_finally (sym (unique_statements b b' (refl, refl, refl) (refl, refl, refl)).1) refl refl
  unique_statement (is_try_on b c) (is_try_finally b' c') h h' = differ is_finally (sym (unique_statements b b' (refl, refl, refl) (refl, refl, refl)).1) refl refl
  unique_statement (is_try_on_else b c e) (is_try_finally b' c') h h' = differ is_finally (sym (unique_statements b b' (refl, refl, refl) (refl, refl, refl)).1) refl refl
  unique_statement (is_try_except b c) (is_try_except {d = y} {ts = c1} {u = q1} {r = z} b' c') h h' =
      let u = unique_statements b b' (refl, refl, refl) (refl, refl, refl) in
      let v = unique_statements c (subst (λ x. AreStatements y c1 x (kind.End at q1 ∷ z)) (sym (ap behind u.1)) c') (refl, refl, refl) (refl, refl, refl) in
      (ap₂ try_except u.0 v.0, ap behind v.1)
  unique_statement (is_try_except {d = y} {ts = c1} {u = q1} {r = z} b c) (is_try_on b' c') h h' =
      let u = unique_statements b b' (refl, refl, refl) (refl, refl, refl) in
      no_handlers_at (subst (λ x. AreStatements y c1 x (kind.End at q1 ∷ z)) (ap behind u.1) c) refl c'
  unique_statement (is_try_except {d = y} {ts = c1} {u = q1} {r = z} b c) (is_try_on_else b' c' e') h h' =
      let u = unique_statements b b' (refl, refl, refl) (refl, refl, refl) in
      no_handlers_at (subst (λ x. AreStatements y c1 x (kind.End at q1 ∷ z)) (ap behind u.1) c) refl c'
  unique_statement (is_try_on b c) (is_try_except {d = y} {ts = c1} {u = q1} {r = z} b' c') h h' =
      let u = unique_statements b b' (refl, refl, refl) (refl, refl, refl) in
      no_handlers_at (subst (λ x. AreStatements y c1 x (kind.End at q1 ∷ z)) (sym (ap behind u.1)) c') refl c
  unique_statement (is_try_on_else b c e) (is_try_except {d = y} {ts = c1} {u = q1} {r = z} b' c') h h' =
      let u = unique_statements b b' (refl, refl, refl) (refl, refl, refl) in
      no_handlers_at (subst (λ x. AreStatements y c1 x (kind.End at q1 ∷ z)) (sym (ap behind u.1)) c') refl c
  unique_statement (is_try_on b c) (is_try_on {d = y} {v = v1} {c = k1} {s = s1} {hs = c1} {u = q1} {r = z} b' c') h h' =
      let u = unique_statements b b' (refl, refl, refl) (refl, refl, refl) in
      let v = unique_handlers c (subst (λ x. AreHandlers y (handlers v1 k1 s1 c1) x (kind.End at q1 ∷ z)) (sym (ap behind u.1)) c') refl refl in
      (ap₂ try_on u.0 v.0, ap behind v.1)
  unique_statement (is_try_on b c) (is_try_on_else {d = y} {v = v1} {c = k1} {s = s1} {hs = c1} {u = q1} {n = z} b' c' e') h h' =
      let u = unique_statements b b' (refl, refl, refl) (refl, refl, refl) in
      let v = unique_handlers c (subst (λ x. AreHandlers y (handlers v1 k1 s1 c1) x (kind.Else_ at q1 ∷ z)) (sym (ap behind u.1)) c') refl refl in
      differ is_end v.1 refl refl
  unique_statement (is_try_on_else b c e) (is_try_on {d = y} {v = v1} {c = k1} {s = s1} {hs = c1} {u = q1} {r = z} b' c') h h' =
      let u = unique_statements b b' (refl, refl, refl) (refl, refl, refl) in
      let v = unique_handlers c (subst (λ x. AreHandlers y (handlers v1 k1 s1 c1) x (kind.End at q1 ∷ z)) (sym (ap behind u.1)) c') refl refl in
      differ is_end (sym v.1) refl refl
  unique_statement (is_try_on_else b c e) (is_try_on_else {d = y} {ts = e1} {v = v1} {c = k1} {s = s1} {hs = c1} {u = q1} {w = q2} {n = l} {r = z} b' c' e') h h' =
      let u = unique_statements b b' (refl, refl, refl) (refl, refl, refl) in
      let v = unique_handlers c (subst (λ x. AreHandlers y (handlers v1 k1 s1 c1) x (kind.Else_ at q1 ∷ l)) (sym (ap behind u.1)) c') refl refl in
      let t = unique_statements e (subst (λ x. AreStatements y e1 x (kind.End at q2 ∷ z)) (sym (ap behind v.1)) e') (refl, refl, refl) (refl, refl, refl) in
      (ap₃ try_on_else u.0 v.0 t.0, ap behind t.1)
  unique_statement (is_raise {p = p} e) (is_raise e') h h' =
      let u = unique_chain e e' h h' in
      (ap (raise p) u.0, u.1)
  unique_statement (is_raise {ks = ks} e) is_reraise h h' = both begins_expression ks (chain_begins e) h'
  unique_statement is_reraise (is_raise {ks = ks} e') h h' = both begins_expression ks (chain_begins e') h
  unique_statement is_reraise is_reraise h h' = (refl, refl)
  unique_statement is_inherited is_inherited h h' = (refl, refl)
  unique_statement is_inherited (is_inherited_call {ks = ks} g) h h' = both begins_designator ks (designator_begins g) h
  unique_statement (is_inherited_call {ks = ks} g) is_inherited h h' = both begins_designator ks (designator_begins g) h'
  unique_statement (is_inherited_call {p = p} g) (is_inherited_call g') h h' =
      let u = unique_designator g g' h h' in
      (ap (inherited_call p) u.0, u.1)
  unique_statement (is_call g) (is_call g') h h' =
      let u = unique_designator g g' h.0 h'.0 in
      (ap call u.0, u.1)
  unique_statement (is_call g) (is_assignment g' e') h h' =
      let u = unique_designator g g' h.0 refl in
      true_false (subst (IsNot is_assign) u.1 h.1)
  unique_statement (is_assignment g e) (is_call g') h h' =
      let u = unique_designator g g' refl h'.0 in
      true_false (subst (IsNot is_assign) (sym u.1) h'.1)
  unique_statement (is_assignment {p = p} g e) (is_assignment {d = y} {e = e1} {r = z} g' e') h h' =
      let u = unique_designator g g' refl refl in
      let v = unique_chain e (subst (λ x. IsChain Relational y e1 x z) (sym (ap behind u.1)) e') h h' in
      (ap₃ assign u.0 (head_position_same u.1) v.0, v.1)
  unique_statement (is_call g) f' h h' = false_true (designator_begins g)
  unique_statement (is_assignment g e) f' h h' = false_true (designator_begins g)
  unique_statement f (is_call g) h h' = false_true (designator_begins g)
  unique_statement f (is_assignment g e) h h' = false_true (designator_begins g)

  pub unique_block : {d d' : ℕ} {ss ss' : Statements} {ks r r' : List Terminal} → IsBlock d ss ks r → IsBlock d' ss' ks r' → (ss ≡ ss') × (r ≡ r')
  unique_block (is_begin_end ss) (is_begin_end ss') =
      let u = unique_statements ss ss' (refl, refl, refl) (refl, refl, refl) in
      (u.0, ap behind u.1)

  pub unique_statements : {d d' : ℕ} {ss ss' : Statements} {ks r r' : List Terminal} → AreStatements d ss ks r → AreStatements d' ss' ks r' → EndsStatements r → EndsStatements r' → (ss ≡ ss') × (r ≡ r')
  unique_statements (are_one_statement {s = s} f) (are_one_statement {s = s'} f') h h' =
      let u = unique_statement f f' (ends s _ h.0 h.1) (ends s' _ h'.0 h'.1) in
      (ap (λ x. statements x no_statements) u.0, u.1)
  unique_statements (are_one_statement {s = s} f) (are_statements {s = s'} f' ss') h h' =
      let u = unique_statement f f' (ends s _ h.0 h.1) (ends s' _ refl refl) in
      true_false (subst (IsNot is_semicolon) u.1 h.2)
  unique_statements (are_statements {s = s} f ss) (are_one_statement {s = s'} f') h h' =
      let u = unique_statement f f' (ends s _ refl refl) (ends s' _ h'.0 h'.1) in
      true_false (subst (IsNot is_semicolon) (sym u.1) h'.2)
  unique_statements (are_statements {s = s} f ss) (are_statements {d = y} {s = s'} {ss = x1} {r = z} f' ss') h h' =
      let u = unique_statement f f' (ends s _ refl refl) (ends s' _ refl refl) in
      let v = unique_statements ss (subst (λ x. AreStatements y x1 x z) (sym (ap behind u.1)) ss') h h' in
      (ap₂ statements u.0 v.0, v.1)

  pub unique_branches : {d d' : ℕ} {bs bs' : Branches} {ks r r' : List Terminal} → AreBranches d bs ks r → AreBranches d' bs' ks r' → Begins ends_list r → Begins ends_list r' → (bs ≡ bs') × (r ≡ r')
  unique_branches are_no_branches are_no_branches h h' = (refl, refl)
  unique_branches are_no_branches (are_branches es f bs) h h' = no_elements_at es h
  unique_branches are_no_branches (is_branch_before_end es f) h h' = no_elements_at es h
  unique_branches are_no_branches (is_branch_before_else es f c) h h' = no_elements_at es h
  unique_branches (are_branches es f bs) are_no_branches h h' = no_elements_at es h'
  unique_branches (is_branch_before_end es f) are_no_branches h h' = no_elements_at es h'
  unique_branches (is_branch_before_else es f c) are_no_branches h h' = no_elements_at es h'
  unique_branches (are_branches {s = s0} es f bs) (are_branches {d = y} {ls = l1} {s = s1} {bs = b1} {p = p1} {q = q1} {m = m1} {n = n1} {r = z} es' f' bs') h h' =
      let u = unique_elements es es' (refl, refl) (refl, refl) refl refl refl refl in
      let v = unique_statement f (subst (λ x. IsStatement y s1 x (kind.Semicolon at q1 ∷ n1)) (sym (ap behind u.1)) f') (ends s0 _ refl refl) (ends s1 _ refl refl) in
      let w = unique_branches bs (subst (λ x. AreBranches y b1 x z) (sym (ap behind v.1)) bs') h h' in
      (ap₃ branches u.0 v.0 w.0, w.1)
  unique_branches (are_branches {s = s0} es f bs) (is_branch_before_end {d = y} {ls = l1} {s = s1} {p = p1} {q = q1} {m = m1} {r = z} es' f') h h' =
      let u = unique_elements es es' (refl, refl) (refl, refl) refl refl refl refl in
      let v = unique_statement f (subst (λ x. IsStatement y s1 x (kind.End at q1 ∷ z)) (sym (ap behind u.1)) f') (ends s0 _ refl refl) (ends s1 _ refl refl) in
      differ is_semicolon v.1 refl refl
  unique_branches (are_branches {s = s0} es f bs) (is_branch_before_else {d = y} {ls = l1} {s = s1} {p = p1} {q = q1} {m = m1} {r = z} es' f' c') h h' =
      let u = unique_elements es es' (refl, refl) (refl, refl) refl refl refl refl in
      let v = unique_statement f (subst (λ x. IsStatement y s1 x (kind.Else_ at q1 ∷ z)) (sym (ap behind u.1)) f') (ends s0 _ refl refl) (ends_closed s1 _ refl c') in
      differ is_semicolon v.1 refl refl
  unique_branches (is_branch_before_end {s = s0} es f) (are_branches {d = y} {ls = l1} {s = s1} {bs = b1} {p = p1} {q = q1} {m = m1} {n = n1} {r = z} es' f' bs') h h' =
      let u = unique_elements es es' (refl, refl) (refl, refl) refl refl refl refl in
      let v = unique_statement f (subst (λ x. IsStatement y s1 x (kind.Semicolon at q1 ∷ n1)) (sym (ap behind u.1)) f') (ends s0 _ refl refl) (ends s1 _ refl refl) in
      differ is_end v.1 refl refl
  unique_branches (is_branch_before_end {s = s0} es f) (is_branch_before_end {d = y} {ls = l1} {s = s1} {p = p1} {q = q1} {m = m1} {r = z} es' f') h h' =
      let u = unique_elements es es' (refl, refl) (refl, refl) refl refl refl refl in
      let v = unique_statement f (subst (λ x. IsStatement y s1 x (kind.End at q1 ∷ z)) (sym (ap behind u.1)) f') (ends s0 _ refl refl) (ends s1 _ refl refl) in
      (ap₂ (λ x y. branches x y no_branches) u.0 v.0, v.1)
  unique_branches (is_branch_before_end {s = s0} es f) (is_branch_before_else {d = y} {ls = l1} {s = s1} {p = p1} {q = q1} {m = m1} {r = z} es' f' c') h h' =
      let u = unique_elements es es' (refl, refl) (refl, refl) refl refl refl refl in
      let v = unique_statement f (subst (λ x. IsStatement y s1 x (kind.Else_ at q1 ∷ z)) (sym (ap behind u.1)) f') (ends s0 _ refl refl) (ends_closed s1 _ refl c') in
      differ is_end v.1 refl refl
  unique_branches (is_branch_before_else {s = s0} es f c) (are_branches {d = y} {ls = l1} {s = s1} {bs = b1} {p = p1} {q = q1} {m = m1} {n = n1} {r = z} es' f' bs') h h' =
      let u = unique_elements es es' (refl, refl) (refl, refl) refl refl refl refl in
      let v = unique_statement f (subst (λ x. IsStatement y s1 x (kind.Semicolon at q1 ∷ n1)) (sym (ap behind u.1)) f') (ends_closed s0 _ refl c) (ends s1 _ refl refl) in
      differ is_else v.1 refl refl
  unique_branches (is_branch_before_else {s = s0} es f c) (is_branch_before_end {d = y} {ls = l1} {s = s1} {p = p1} {q = q1} {m = m1} {r = z} es' f') h h' =
      let u = unique_elements es es' (refl, refl) (refl, refl) refl refl refl refl in
      let v = unique_statement f (subst (λ x. IsStatement y s1 x (kind.End at q1 ∷ z)) (sym (ap behind u.1)) f') (ends_closed s0 _ refl c) (ends s1 _ refl refl) in
      differ is_else v.1 refl refl
  unique_branches (is_branch_before_else {s = s0} es f c) (is_branch_before_else {d = y} {ls = l1} {s = s1} {p = p1} {q = q1} {m = m1} {r = z} es' f' c') h h' =
      let u = unique_elements es es' (refl, refl) (refl, refl) refl refl refl refl in
      let v = unique_statement f (subst (λ x. IsStatement y s1 x (kind.Else_ at q1 ∷ z)) (sym (ap behind u.1)) f') (ends_closed s0 _ refl c) (ends_closed s1 _ refl c') in
      (ap₂ (λ x y. branches x y no_branches) u.0 v.0, v.1)

  pub unique_handlers : {d d' : ℕ} {hs hs' : Handlers} {ks r r' : List Terminal} → AreHandlers d hs ks r → AreHandlers d' hs' ks r' → Begins ends_list r → Begins ends_list r' → (hs ≡ hs') × (r ≡ r')
  unique_handlers are_no_handlers are_no_handlers h h' = (refl, refl)
  unique_handlers are_no_handlers (are_handlers o f hs) h h' = no_on_at o h
  unique_handlers are_no_handlers (is_handler_before_end o f) h h' = no_on_at o h
  unique_handlers are_no_handlers (is_handler_before_else o f c) h h' = no_on_at o h
  unique_handlers (are_handlers o f hs) are_no_handlers h h' = no_on_at o h'
  unique_handlers (is_handler_before_end o f) are_no_handlers h h' = no_on_at o h'
  unique_handlers (is_handler_before_else o f c) are_no_handlers h h' = no_on_at o h'
  unique_handlers (are_handlers {s = s0} o f hs) (are_handlers {d = y} {s = s1} {hs = b1} {p = q1} {n = n1} {r = z} o' f' hs') h h' =
      let u = unique_on o o' in
      let v = unique_statement f (subst (λ x. IsStatement y s1 x (kind.Semicolon at q1 ∷ n1)) (sym u.2) f') (ends s0 _ refl refl) (ends s1 _ refl refl) in
      let w = unique_handlers hs (subst (λ x. AreHandlers y b1 x z) (sym (ap behind v.1)) hs') h h' in
      (same4 handlers u.0 u.1 v.0 w.0, w.1)
  unique_handlers (are_handlers {s = s0} o f hs) (is_handler_before_end {d = y} {s = s1} {p = q1} {r = z} o' f') h h' =
      let u = unique_on o o' in
      let v = unique_statement f (subst (λ x. IsStatement y s1 x (kind.End at q1 ∷ z)) (sym u.2) f') (ends s0 _ refl refl) (ends s1 _ refl refl) in
      differ is_semicolon v.1 refl refl
  unique_handlers (are_handlers {s = s0} o f hs) (is_handler_before_else {d = y} {s = s1} {p = q1} {r = z} o' f' c') h h' =
      let u = unique_on o o' in
      let v = unique_statement f (subst (λ x. IsStatement y s1 x (kind.Else_ at q1 ∷ z)) (sym u.2) f') (ends s0 _ refl refl) (ends_closed s1 _ refl c') in
      differ is_semicolon v.1 refl refl
  unique_handlers (is_handler_before_end {s = s0} o f) (are_handlers {d = y} {s = s1} {hs = b1} {p = q1} {n = n1} {r = z} o' f' hs') h h' =
      let u = unique_on o o' in
      let v = unique_statement f (subst (λ x. IsStatement y s1 x (kind.Semicolon at q1 ∷ n1)) (sym u.2) f') (ends s0 _ refl refl) (ends s1 _ refl refl) in
      differ is_end v.1 refl refl
  unique_handlers (is_handler_before_end {s = s0} o f) (is_handler_before_end {d = y} {s = s1} {p = q1} {r = z} o' f') h h' =
      let u = unique_on o o' in
      let v = unique_statement f (subst (λ x. IsStatement y s1 x (kind.End at q1 ∷ z)) (sym u.2) f') (ends s0 _ refl refl) (ends s1 _ refl refl) in
      (ap₃ (λ x y w. handlers x y w no_handlers) u.0 u.1 v.0, v.1)
  unique_handlers (is_handler_before_end {s = s0} o f) (is_handler_before_else {d = y} {s = s1} {p = q1} {r = z} o' f' c') h h' =
      let u = unique_on o o' in
      let v = unique_statement f (subst (λ x. IsStatement y s1 x (kind.Else_ at q1 ∷ z)) (sym u.2) f') (ends s0 _ refl refl) (ends_closed s1 _ refl c') in
      differ is_end v.1 refl refl
  unique_handlers (is_handler_before_else {s = s0} o f c) (are_handlers {d = y} {s = s1} {hs = b1} {p = q1} {n = n1} {r = z} o' f' hs') h h' =
      let u = unique_on o o' in
      let v = unique_statement f (subst (λ x. IsStatement y s1 x (kind.Semicolon at q1 ∷ n1)) (sym u.2) f') (ends_closed s0 _ refl c) (ends s1 _ refl refl) in
      differ is_else v.1 refl refl
  unique_handlers (is_handler_before_else {s = s0} o f c) (is_handler_before_end {d = y} {s = s1} {p = q1} {r = z} o' f') h h' =
      let u = unique_on o o' in
      let v = unique_statement f (subst (λ x. IsStatement y s1 x (kind.End at q1 ∷ z)) (sym u.2) f') (ends_closed s0 _ refl c) (ends s1 _ refl refl) in
      differ is_else v.1 refl refl
  unique_handlers (is_handler_before_else {s = s0} o f c) (is_handler_before_else {d = y} {s = s1} {p = q1} {r = z} o' f' c') h h' =
      let u = unique_on o o' in
      let v = unique_statement f (subst (λ x. IsStatement y s1 x (kind.Else_ at q1 ∷ z)) (sym u.2) f') (ends_closed s0 _ refl c) (ends_closed s1 _ refl c') in
      (ap₃ (λ x y w. handlers x y w no_handlers) u.0 u.1 v.0, v.1)
