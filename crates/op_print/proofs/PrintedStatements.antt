-- Statements can be printed and read again.
use Rattle.std.proofs.Common.{◌≡◌, ℕ, suc, List, ◌∷◌, Option, Some, None, refl, sym, ap, subst, ap₂}
use Rattle.std.specs.Option.{option_map}
use Rattle.op_base.proofs.Tests.{ap₃}
use Rattle.op_print.proofs.Printed.{here, Able, Printed, printed, again, passed, Listed, last, more, fixed}
use Rattle.op_print.proofs.PrintedDenoters.{printed_qualified}
use Rattle.op_print.proofs.PrintedExpressions.{printed_chain, printed_designator, printed_elements}
use Rattle.op_print.specs.Page.{Draft, ◌&◌}
use Rattle.op_print.specs.Scanned.{IsSpellable}
use Rattle.op_print.specs.StatementDrafts.{direction_kind, on_draft, block_draft, begun, statement_draft, statement_drafts, branches_draft, handlers_draft}
use Rattle.op_print.specs.Unplaced.{bare_position, bare_name, bare_qualified, bare_statement, bare_statements, bare_branches, bare_handlers}
use Rattle.op_scan.specs.declared.token.TokenKind.TheVariants as kind
use Rattle.op_tree.specs.Statement.{Statement, empty, block, if_then, if_else, case_of, case_else, while_do, repeat_until, for_to, for_in, try_finally, try_except, try_on, try_on_else, raise, reraise, inherited, inherited_call, call, assign, Statements, no_statements, statements, Branches, no_branches, branches, Handlers, no_handlers, handlers}
use Rattle.op_tree.specs.StatementGrammar.{IsClosed, direction_of, IsOn, is_on_class, is_on_variable, IsStatement, is_empty, is_block, is_if_then, is_if_else, is_case, is_case_else, is_while, is_repeat, is_for_to, is_for_in, is_try_finally, is_try_except, is_try_on, is_try_on_else, is_raise, is_reraise, is_inherited, is_inherited_call, is_call, is_assignment, is_begin_end, AreStatements, are_one_statement, are_statements, AreBranches, are_no_branches, are_branches, is_branch_before_end, is_branch_before_else, AreHandlers, are_no_handlers, are_handlers, is_handler_before_end, is_handler_before_else}
use Rattle.op_tree.specs.Terminal.{Terminal, ◌at◌, name}
use Rattle.op_tree.specs.NameGrammar.{is_name}
use Rattle.op_tree.specs.declared.position.Name.{Name}
use Rattle.op_tree.specs.declared.position.Position.{Position}
use Rattle.op_tree.specs.declared.position.QualifiedName.{QualifiedName}
use Rattle.op_tree.specs.declared.statement.Direction.{Direction}
use Rattle.op_tree.specs.declared.statement.Direction.TheVariants.{To, Downto}

-- ---- an `else` behind a statement, but for places

closed_bare : (s : Statement) → IsClosed s → IsClosed (bare_statement s)
closed_bare (if_then c s) h = h
closed_bare (if_else c s t) h = closed_bare t h
closed_bare (while_do c s) h = closed_bare s h
closed_bare (for_to n e way g s) h = closed_bare s h
closed_bare (for_in n e s) h = closed_bare s h
closed_bare other h = tt

bare_closed : (s : Statement) → IsClosed (bare_statement s) → IsClosed s
bare_closed (if_then c s) h = h
bare_closed (if_else c s t) h = bare_closed t h
bare_closed (while_do c s) h = bare_closed s h
bare_closed (for_to n e way g s) h = bare_closed s h
bare_closed (for_in n e s) h = bare_closed s h
bare_closed other h = tt

closed_again : (s x : Statement) → bare_statement x ≡ bare_statement s → IsClosed s → IsClosed x
closed_again s x q h = bare_closed x (subst IsClosed (sym q) (closed_bare s h))

-- ---- parts

direction_is : (way : Direction) → direction_of (direction_kind way) ≡ Some way
direction_is To = refl
direction_is Downto = refl

direction_able : (way : Direction) → IsSpellable (direction_kind way)
direction_able To = tt
direction_able Downto = tt

on_line : {X : Type 0} {P : X → List Terminal → List Terminal → Type 0} {f : X → X} {x : X} {d : Draft} {r : List Terminal} (s : Statement) → Printed P f x d r → Printed P f x (begun s & d) r
on_line empty u = printed (tt, u.words) u.able (λ p z. u.again p.1 z)
on_line (block ss) u = printed (tt, u.words) u.able (λ p z. u.again p.1 z)
on_line other u = printed (tt, u.words) u.able (λ p z. u.again p.1 z)

in_block : {d : ℕ} {ss : Statements} {ds : List Draft} {r : List Terminal} → Listed (AreStatements d) bare_statements kind.Semicolon ss ds r → Printed (AreStatements d) bare_statements ss (block_draft ds) r
in_block u = printed (tt, (u.all.words, (tt, tt))) u.all.able (λ p z. u.all.again p.1.0 z)

-- what an exception handler is for
abbrev Caught : Type 0
Caught = Option Name × QualifiedName

abbrev IsCaught : Caught → List Terminal → List Terminal → Type 0
IsCaught c ks z = IsOn c.0 c.1 ks z

abbrev bare_caught : Caught → Caught
bare_caught c = (option_map bare_name c.0, bare_qualified c.1)

printed_on : {v : Option Name} {c : QualifiedName} {ks r : List Terminal} → IsOn v c ks r → Able ks → Printed IsCaught bare_caught (v, c) (on_draft v c) r
printed_on (is_on_class e q) g =
    let u = printed_qualified q g.1 in
    printed (tt, (fixed.on, (tt, (u.words, tt)))) u.able.1 (λ p z. let a = u.again p.1.1.1.0 _ in again (None, a.part) (is_on_class refl a.is) (ap (λ x. (None, x)) a.same))
printed_on (is_on_variable e (is_name {text = text} {p = w}) q) g =
    let u = printed_qualified q g.1.1.1 in
    printed (tt, (fixed.on, ((g.1.0, tt), (u.words, tt)))) u.able.1 (λ p z. let a = u.again p.1.1.1.0 _ in again (Some (name text (here p.1.1.0.0 w)), a.part) (is_on_variable refl is_name a.is) (ap (λ x. (Some (name text (bare_position w)), x)) a.same))

-- handlers are there also without places
try_on_again : {d : ℕ} {v : Option Name} {c : QualifiedName} {s : Statement} {hs : Handlers} {ss : Statements} {p q u : Position} {ks m r : List Terminal} (x : Handlers) → AreStatements d ss ks (kind.Except at q ∷ m) → AreHandlers d x m (kind.End at u ∷ r) → bare_handlers x ≡ handlers v c s hs → IsStatement (suc d) (try_on ss x) (kind.Try_ at p ∷ ks) r
try_on_again no_handlers ss h e = absurd cc
try_on_again (handlers v c s hs) ss h e = is_try_on ss h

try_on_else_again : {d : ℕ} {v : Option Name} {c : QualifiedName} {s : Statement} {hs : Handlers} {ss ts : Statements} {p q u w : Position} {ks m n r : List Terminal} (x : Handlers) → AreStatements d ss ks (kind.Except at q ∷ m) → AreHandlers d x m (kind.Else_ at u ∷ n) → AreStatements d ts n (kind.End at w ∷ r) → bare_handlers x ≡ handlers v c s hs → IsStatement (suc d) (try_on_else ss x ts) (kind.Try_ at p ∷ ks) r
try_on_else_again no_handlers ss h ts e = absurd cc
try_on_else_again (handlers v c s hs) ss h ts e = is_try_on_else ss h ts

mutual
  pub printed_statement : {d : ℕ} {s : Statement} {ks r : List Terminal} → IsStatement d s ks r → Able ks → Printed (IsStatement d) bare_statement s (statement_draft s) r
  printed_statement is_empty g = printed tt g (λ p z. again empty is_empty refl)
  printed_statement (is_block (is_begin_end ss)) g =
      let u = in_block (printed_statements ss g.1) in
      printed (tt, (u.words, tt)) u.able.1 (λ p z. let a = u.again p.1.0 _ in again (block a.part) (is_block (is_begin_end a.is)) (ap block a.same))
  printed_statement (is_if_then c s) g =
      let u = printed_chain c g.1 in
      let v = printed_statement s u.able.1 in
      printed (tt, (u.words, (tt, v.words))) v.able (λ p z. let a = u.again p.1.0 _ in let b = v.again p.1.1.1 z in again (if_then a.part b.part) (is_if_then a.is b.is) (ap₂ if_then a.same b.same))
  printed_statement (is_if_else {s = s0} c s e t) g =
      let u = printed_chain c g.1 in
      let v = printed_statement s u.able.1 in
      let w = printed_statement t v.able.1 in
      printed (tt, (u.words, (tt, (v.words, (tt, w.words))))) w.able (λ p z. let a = u.again p.1.0 _ in let b = v.again p.1.1.1.0 _ in let c = w.again p.1.1.1.1.1 z in again (if_else a.part b.part c.part) (is_if_else a.is b.is (closed_again s0 b.part b.same e) c.is) (ap₃ if_else a.same b.same c.same))
  printed_statement (is_case e bs) g =
      let u = printed_chain e g.1 in
      let v = printed_branches bs u.able.1 in
      printed (tt, (u.words, (tt, ((tt, (v.words, (tt, tt))), tt)))) v.able.1 (λ p z. let a = u.again p.1.0 _ in let b = v.again p.1.1.1.0.1.0 _ in again (case_of a.part b.part) (is_case a.is b.is) (ap₂ case_of a.same b.same))
  printed_statement (is_case_else e bs ss) g =
      let u = printed_chain e g.1 in
      let v = printed_branches bs u.able.1 in
      let w = in_block (printed_statements ss v.able.1) in
      printed (tt, (u.words, (tt, ((tt, (v.words, (tt, tt))), (tt, (w.words, tt)))))) w.able.1 (λ p z. let a = u.again p.1.0 _ in let b = v.again p.1.1.1.0.1.0 _ in let c = w.again p.1.1.1.1.1.0 _ in again (case_else a.part b.part c.part) (is_case_else a.is b.is c.is) (ap₃ case_else a.same b.same c.same))
  printed_statement (is_while c s) g =
      let u = printed_chain c g.1 in
      let v = printed_statement s u.able.1 in
      printed (tt, (u.words, (tt, v.words))) v.able (λ p z. let a = u.again p.1.0 _ in let b = v.again p.1.1.1 z in again (while_do a.part b.part) (is_while a.is b.is) (ap₂ while_do a.same b.same))
  printed_statement (is_repeat ss c) g =
      let u = in_block (printed_statements ss g.1) in
      let v = printed_chain c u.able.1 in
      printed (tt, (u.words, (tt, v.words))) v.able (λ p z. let a = u.again p.1.0 _ in let b = v.again p.1.1.1 z in again (repeat_until a.part b.part) (is_repeat a.is b.is) (ap₂ repeat_until a.same b.same))
  printed_statement (is_for_to {way = way} (is_name {text = text} {p = n}) x w y s) g =
      let u = printed_chain x g.1.1.1 in
      let v = printed_chain y u.able.1 in
      let t = printed_statement s v.able.1 in
      printed (tt, (g.1.0, (tt, (u.words, (direction_able way, (v.words, (tt, t.words))))))) t.able (λ p z. let a = u.again p.1.1.1.0 _ in let b = v.again p.1.1.1.1.1.0 _ in let c = t.again p.1.1.1.1.1.1.1 z in again (for_to (name text (here p.1.0 n)) a.part way b.part c.part) (is_for_to is_name a.is (direction_is way) b.is c.is) (ap₃ (λ x y. for_to (name text (bare_position n)) x way y) a.same b.same c.same))
  printed_statement (is_for_in (is_name {text = text} {p = n}) e s) g =
      let u = printed_chain e g.1.1.1 in
      let v = printed_statement s u.able.1 in
      printed (tt, (g.1.0, (tt, (u.words, (tt, v.words))))) v.able (λ p z. let a = u.again p.1.1.1.0 _ in let b = v.again p.1.1.1.1.1 z in again (for_in (name text (here p.1.0 n)) a.part b.part) (is_for_in is_name a.is b.is) (ap₂ (for_in (name text (bare_position n))) a.same b.same))
  printed_statement (is_try_finally ss ts) g =
      let u = in_block (printed_statements ss g.1) in
      let v = in_block (printed_statements ts u.able.1) in
      printed (tt, (u.words, (tt, (v.words, tt)))) v.able.1 (λ p z. let a = u.again p.1.0 _ in let b = v.again p.1.1.1.0 _ in again (try_finally a.part b.part) (is_try_finally a.is b.is) (ap₂ try_finally a.same b.same))
  printed_statement (is_try_except ss ts) g =
      let u = in_block (printed_statements ss g.1) in
      let v = in_block (printed_statements ts u.able.1) in
      printed (tt, (u.words, (tt, (v.words, tt)))) v.able.1 (λ p z. let a = u.again p.1.0 _ in let b = v.again p.1.1.1.0 _ in again (try_except a.part b.part) (is_try_except a.is b.is) (ap₂ try_except a.same b.same))
  printed_statement (is_try_on ss hs) g =
      let u = in_block (printed_statements ss g.1) in
      let v = printed_handlers hs u.able.1 in
      printed (tt, (u.words, (tt, ((tt, (v.words, (tt, tt))), tt)))) v.able.1 (λ p z. let a = u.again p.1.0 _ in let b = v.again p.1.1.1.0.1.0 _ in again (try_on a.part b.part) (try_on_again b.part a.is b.is b.same) (ap₂ try_on a.same b.same))
  printed_statement (is_try_on_else ss hs ts) g =
      let u = in_block (printed_statements ss g.1) in
      let v = printed_handlers hs u.able.1 in
      let w = in_block (printed_statements ts v.able.1) in
      printed (tt, (u.words, (tt, ((tt, (v.words, (tt, tt))), (tt, (w.words, tt)))))) w.able.1 (λ p z. let a = u.again p.1.0 _ in let b = v.again p.1.1.1.0.1.0 _ in let c = w.again p.1.1.1.1.1.0 _ in again (try_on_else a.part b.part c.part) (try_on_else_again b.part a.is b.is c.is b.same) (ap₃ try_on_else a.same b.same c.same))
  printed_statement (is_raise {p = w} e) g =
      let u = printed_chain e g.1 in
      printed (tt, u.words) u.able (λ p z. let a = u.again p.1 z in again (raise (here p.0 w) a.part) (is_raise a.is) (ap (raise (bare_position w)) a.same))
  printed_statement (is_reraise {p = w}) g = printed tt g.1 (λ p z. again (reraise (here p w)) is_reraise refl)
  printed_statement (is_inherited {p = w}) g = printed tt g.1 (λ p z. again (inherited (here p w)) is_inherited refl)
  printed_statement (is_inherited_call {p = w} f) g =
      let u = printed_designator f g.1 in
      printed (tt, u.words) u.able (λ p z. let a = u.again p.1 z in again (inherited_call (here p.0 w) a.part) (is_inherited_call a.is) (ap (inherited_call (bare_position w)) a.same))
  printed_statement (is_call f) g = passed call (λ a ks z. is_call) (λ a. ap call) (printed_designator f g)
  printed_statement (is_assignment {p = w} f e) g =
      let u = printed_designator f g in
      let v = printed_chain e u.able.1 in
      printed (u.words, (tt, v.words)) v.able (λ p z. let a = u.again p.0 _ in let b = v.again p.1.1 z in again (assign a.part (here p.1.0 w) b.part) (is_assignment a.is b.is) (ap₂ (λ x y. assign x (bare_position w) y) a.same b.same))

  printed_statements : {d : ℕ} {ss : Statements} {ks r : List Terminal} → AreStatements d ss ks r → Able ks → Listed (AreStatements d) bare_statements kind.Semicolon ss (statement_drafts ss) r
  printed_statements (are_one_statement {s = s0} s) g = last (λ x. statements x no_statements) (λ a ks z. are_one_statement) (λ a. ap (λ x. statements x no_statements)) (on_line s0 (printed_statement s g))
  printed_statements (are_statements {s = s0} s ss) g =
      let u = on_line s0 (printed_statement s g) in
      more statements (λ a b p ks m z. are_statements) (λ a b. ap₂ statements) u (printed_statements ss u.able.1)

  printed_branches : {d : ℕ} {bs : Branches} {ks r : List Terminal} → AreBranches d bs ks r → Able ks → Printed (AreBranches d) bare_branches bs (branches_draft bs) r
  printed_branches are_no_branches g = printed tt g (λ p z. again no_branches are_no_branches refl)
  printed_branches (are_branches ls s bs) g =
      let u = printed_elements ls g in
      let v = printed_statement s u.all.able.1 in
      let w = printed_branches bs v.able.1 in
      printed (tt, (u.all.words, (tt, (v.words, (tt, w.words))))) w.able (λ p z. let a = u.all.again p.1.0 _ in let b = v.again p.1.1.1.0 _ in let c = w.again p.1.1.1.1.1 z in again (branches a.part b.part c.part) (are_branches a.is b.is c.is) (ap₃ branches a.same b.same c.same))
  printed_branches (is_branch_before_end ls s) g =
      let u = printed_elements ls g in
      let v = printed_statement s u.all.able.1 in
      printed (tt, (u.all.words, (tt, (v.words, (tt, tt))))) v.able (λ p z. let a = u.all.again p.1.0 _ in let b = v.again p.1.1.1.0 _ in again (branches a.part b.part no_branches) (are_branches a.is b.is are_no_branches) (ap₂ (λ x y. branches x y no_branches) a.same b.same))
  printed_branches (is_branch_before_else ls s h) g =
      let u = printed_elements ls g in
      let v = printed_statement s u.all.able.1 in
      printed (tt, (u.all.words, (tt, (v.words, (tt, tt))))) v.able (λ p z. let a = u.all.again p.1.0 _ in let b = v.again p.1.1.1.0 _ in again (branches a.part b.part no_branches) (are_branches a.is b.is are_no_branches) (ap₂ (λ x y. branches x y no_branches) a.same b.same))

  printed_handlers : {d : ℕ} {hs : Handlers} {ks r : List Terminal} → AreHandlers d hs ks r → Able ks → Printed (AreHandlers d) bare_handlers hs (handlers_draft hs) r
  printed_handlers are_no_handlers g = printed tt g (λ p z. again no_handlers are_no_handlers refl)
  printed_handlers (are_handlers o s hs) g =
      let u = printed_on o g in
      let v = printed_statement s u.able in
      let w = printed_handlers hs v.able.1 in
      printed (u.words, (v.words, (tt, w.words))) w.able (λ p z. let a = u.again p.0 _ in let b = v.again p.1.0 _ in let c = w.again p.1.1.1 z in again (handlers a.part.0 a.part.1 b.part c.part) (are_handlers a.is b.is c.is) (ap₃ (λ x. handlers x.0 x.1) a.same b.same c.same))
  printed_handlers (is_handler_before_end o s) g =
      let u = printed_on o g in
      let v = printed_statement s u.able in
      printed (u.words, (v.words, (tt, tt))) v.able (λ p z. let a = u.again p.0 _ in let b = v.again p.1.0 _ in again (handlers a.part.0 a.part.1 b.part no_handlers) (are_handlers a.is b.is are_no_handlers) (ap₂ (λ x y. handlers x.0 x.1 y no_handlers) a.same b.same))
  printed_handlers (is_handler_before_else o s h) g =
      let u = printed_on o g in
      let v = printed_statement s u.able in
      printed (u.words, (v.words, (tt, tt))) v.able (λ p z. let a = u.again p.0 _ in let b = v.again p.1.0 _ in again (handlers a.part.0 a.part.1 b.part no_handlers) (are_handlers a.is b.is are_no_handlers) (ap₂ (λ x y. handlers x.0 x.1 y no_handlers) a.same b.same))

pub printed_block : {d : ℕ} {ss : Statements} {ks r : List Terminal} → AreStatements d ss ks r → Able ks → Printed (AreStatements d) bare_statements ss (block_draft (statement_drafts ss)) r
printed_block ss g = in_block (printed_statements ss g)
