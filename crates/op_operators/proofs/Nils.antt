-- Nil behind steps.
use Rattle.std.proofs.Common.{◌≡◌, ℕ, ◌+◌, ◌<◌, ◌≤◌, Bool, true, false, List, length, drop, get_or, refl, ap, sym, ◌∙◌}
use Rattle.std.proofs.lemmas.List.{drop_all}
use Rattle.op_core.proofs.Nodes.{list_nodes, next_step}
use Rattle.op_core.specs.Expression.{Root as Start, constant, variable, object, call, construct, set, eof, eoln, expression, Action as Doing, convert, bracket, field, index, method, prefixed, operate, is, apply, copy, Steps, steps, action_of, expr_of, root_of}
use Rattle.op_core.specs.Nodes.{steps_of}
use Rattle.op_core.specs.declared.constant.Const.TheVariants.{Ordinal, Text, Set as SetOf, Nil as NilOf}
use Rattle.op_core.specs.declared.expression.CoreExpr.{CoreExpr, out-CoreExpr}
use Rattle.op_core.specs.declared.expression.Step.{Step}
use Rattle.op_core.specs.declared.ids.TypeId.{TypeId}
use Rattle.op_operators.specs.Nils.{begins_nil, stays}
use Rattle.op_semantics.specs.Expressions.{is_nil, stays_nil}

stays_first : (a : Doing) (of : TypeId) (others : Steps) → stays a ≡ true → stays_nil (steps a of others) ≡ stays_nil others
stays_first (convert c origin) of others e = refl
stays_first bracket of others e = refl
stays_first (field id) of others e = cc
stays_first (index at) of others e = cc
stays_first (method id dispatch given) of others e = cc
stays_first (prefixed o checked) of others e = cc
stays_first (operate o checked right) of others e = cc
stays_first (is other) of others e = cc
stays_first (apply function checked) of others e = cc
stays_first (copy from count) of others e = cc

ends_first : (a : Doing) (of : TypeId) (others : Steps) → stays a ≡ false → stays_nil (steps a of others) ≡ false
ends_first (convert c origin) of others e = cc
ends_first bracket of others e = cc
ends_first (field id) of others e = refl
ends_first (index at) of others e = refl
ends_first (method id dispatch given) of others e = refl
ends_first (prefixed o checked) of others e = refl
ends_first (operate o checked right) of others e = refl
ends_first (is other) of others e = refl
ends_first (apply function checked) of others e = refl
ends_first (copy from count) of others e = refl

pub stays_on : (list : List Step) (k : ℕ) (x : Step) (all : Bool) → k < length list → x ≡ get_or list k x → stays (action_of x.action) ≡ true → stays_nil (steps_of (drop k list)) ≡ all → stays_nil (steps_of (drop (k + 1) list)) ≡ all
stays_on list k x all h i e inv = sym (stays_first (action_of x.action) x.of (steps_of (drop (k + 1) list)) e) ∙ ap stays_nil (sym (next_step list k x h i)) ∙ inv

pub ends_there : (list : List Step) (k : ℕ) (x : Step) (all : Bool) → k < length list → x ≡ get_or list k x → stays (action_of x.action) ≡ false → stays_nil (steps_of (drop k list)) ≡ all → false ≡ all
ends_there list k x all h i e inv = sym (ends_first (action_of x.action) x.of (steps_of (drop (k + 1) list)) e) ∙ ap stays_nil (sym (next_step list k x h i)) ∙ inv

pub all_stay : (list : List Step) (k : ℕ) (all : Bool) → length list ≤ k → stays_nil (steps_of (drop k list)) ≡ all → true ≡ all
all_stay list k all h inv = ap (λ xs. stays_nil (steps_of xs)) (sym (drop_all k list h)) ∙ inv

nil_first : (root : Start) (of : TypeId) (others : Steps) → begins_nil root ≡ true → is_nil (expression root of others) ≡ stays_nil others
nil_first (constant (Ordinal n) nodes words) of others e = cc
nil_first (constant (Text bytes) nodes words) of others e = cc
nil_first (constant (SetOf es) nodes words) of others e = cc
nil_first (constant NilOf nodes words) of others e = refl
nil_first (variable v) of others e = cc
nil_first (object v) of others e = cc
nil_first (call r given) of others e = cc
nil_first (construct c r given) of others e = cc
nil_first (set es) of others e = cc
nil_first eof of others e = cc
nil_first eoln of others e = cc

other_first : (root : Start) (of : TypeId) (others : Steps) → begins_nil root ≡ false → is_nil (expression root of others) ≡ false
other_first (constant (Ordinal n) nodes words) of others e = refl
other_first (constant (Text bytes) nodes words) of others e = refl
other_first (constant (SetOf es) nodes words) of others e = refl
other_first (constant NilOf nodes words) of others e = cc
other_first (variable v) of others e = refl
other_first (object v) of others e = refl
other_first (call r given) of others e = refl
other_first (construct c r given) of others e = refl
other_first (set es) of others e = refl
other_first eof of others e = refl
other_first eoln of others e = refl

pub nil_by_steps : (e : CoreExpr) (list : List Step) → list ≡ (out-CoreExpr e).steps.items → begins_nil (root_of (out-CoreExpr e).root) ≡ true → stays_nil (steps_of list) ≡ is_nil (expr_of e)
nil_by_steps e list same first = ap (λ xs. stays_nil (steps_of xs)) same ∙ sym (ap is_nil (list_nodes.expr_says e) ∙ nil_first (root_of (out-CoreExpr e).root) (out-CoreExpr e).of (steps_of (out-CoreExpr e).steps.items) first)

pub no_nil : (e : CoreExpr) → begins_nil (root_of (out-CoreExpr e).root) ≡ false → false ≡ is_nil (expr_of e)
no_nil e first = sym (ap is_nil (list_nodes.expr_says e) ∙ other_first (root_of (out-CoreExpr e).root) (out-CoreExpr e).of (steps_of (out-CoreExpr e).steps.items) first)
