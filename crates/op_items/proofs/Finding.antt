-- What is found of a value goes on behind what was found so far.
use Rattle.std.proofs.Common.{◌≡◌, ℕ, List, Bool, Option, Some, None, ℤ, ◌+◌, ◌<◌, ◌≤◌, ◌∷◌, [], ◌++◌, length, get_or, drop, map, append_assoc, Result, IfOk, refl, ap, sym, subst, ◌∙◌}
use Rattle.std.proofs.lemmas.List.{drop_all}
use Rattle.op_base.proofs.Tests.{map_ok}
use Rattle.op_core.proofs.Nodes.{list_nodes, next_step}
use Rattle.op_core.specs.Expression.{Expression, expression, root_of, expr_of, action_of, Steps, no_steps, steps, Action as Doing, convert, bracket, field, index, method, prefixed, operate, is, apply, copy}
use Rattle.op_core.specs.Nodes.{steps_of}
use Rattle.op_core.specs.Sizes.{type_at}
use Rattle.op_core.specs.Typing.{type_of}
use Rattle.op_core.specs.declared.expression.CoreExpr.{CoreExpr, out-CoreExpr}
use Rattle.op_core.specs.declared.expression.Step.{Step}
use Rattle.op_core.specs.declared.ids.TypeId.{TypeId}
use Rattle.op_core.specs.declared.operation.Function.{Function}
use Rattle.op_core.specs.declared.program.Core.{Core}
use Rattle.op_core.specs.declared.types.CoreType.{CoreType}
use Rattle.op_base.specs.declared.memory_error.NoMemory.{NoMemory}
use Rattle.op_items.proofs.Behind.{adds_both, behind_behind, behind_none, ok_as, ok_both}
use Rattle.op_items.specs.Adding.{Adds, Gives, env_view, found_view, two_on, view_in}
use Rattle.op_items.specs.declared.found.Found.{Found as RustFound}
use Rattle.op_items.specs.declared.item.Item.{Item}
use Rattle.op_items.specs.declared.setting.Setting.{Setting}
use Rattle.op_meaning.specs.Actions.{Action, pick, constant}
use Rattle.op_meaning.specs.Expressions.{Env, Here, past, past_whole, Found, found, Now, ready, at_path, a_text, loaded, own, own_by, then_acts, then_step, then_index, then_index_by, element_step, two_by, on_two, goes_on_at, second_here, prefix, converted, applied, applied_by, looked_at, measured, find, make, find_root, find_steps, find_step}
use Rattle.op_meaning.specs.Items.{Items, none, ◌&◌, only, act, also, acts}
use Rattle.op_meaning.specs.Shapes.{shape_of}
use Rattle.op_tree.specs.declared.operator.Operator.{Operator}

abbrev pub behind : Items → Found → Found
behind xs f = record f { items = xs & f.items }

-- with nothing that was to be done for it
abbrev pub alone : Found → Found
alone f = record f { items = none }

whole : (f : Found) → behind f.items (alone f) ≡ f
whole f = ap (λ x. record f { items = x }) (behind_none f.items)

twice : (xs ys : Items) (f : Found) → behind (xs & ys) f ≡ behind xs (behind ys f)
twice xs ys f = ap (λ x. record f { items = x }) (behind_behind xs ys f.items)

-- ---- each step takes along what was to be done

own_by_behind : (core : Core) (of : TypeId) (here : Here) (xs : Items) (f : Found) (now : Now) → own_by core of here (behind xs f) now ≡ behind xs (own_by core of here f now)
own_by_behind core of here xs f ready = refl
own_by_behind core of here xs f (at_path p) = ap (λ x. found x ready) (behind_behind xs f.items (loaded (shape_of core of) of here p))
own_by_behind core of here xs f (a_text bytes) = refl

own_behind : (env : Env) (of : TypeId) (here : Here) (xs : Items) (f : Found) → own env of here (behind xs f) ≡ behind xs (own env of here f)
own_behind env of here xs f = own_by_behind env.core of here xs f f.now

acts_behind : (xs : Items) (f : Found) (more : List Action) → then_acts (behind xs f) more ≡ behind xs (then_acts f more)
acts_behind xs f more = ap (λ x. record f { items = x }) (behind_behind xs f.items (acts more))

own_acts : (env : Env) (of : TypeId) (here : Here) (more : List Action) (xs : Items) (f : Found) → then_acts (own env of here (behind xs f)) more ≡ behind xs (then_acts (own env of here f) more)
own_acts env of here more xs f = ap (λ g. then_acts g more) (own_behind env of here xs f) ∙ acts_behind xs (own env of here f) more

index_behind : (core : Core) (of : TypeId) (here : Here) (i : Items) (xs : Items) (f : Found) (now : Now) → then_index_by core of here (behind xs f) i now ≡ behind xs (then_index_by core of here f i now)
index_behind core of here i xs f (a_text bytes) = ap (λ x. found x ready) (behind_behind xs f.items (i & only (act (pick here.temp bytes here.temp))))
index_behind core of here i xs f ready = ap (λ x. then_step of here (element_step core of (here.temp + f.used)) 1 (record f { items = x })) (behind_behind xs f.items i)
index_behind core of here i xs f (at_path p) = ap (λ x. then_step of here (element_step core of (here.temp + f.used)) 1 (record f { items = x })) (behind_behind xs f.items i)

two_behind : (goes : Option Bool) (o : Operator) (checked : Bool) (of : Option CoreType) (here : Here) (second : Items) (xs : Items) (f : Found) → two_by goes o checked of here (behind xs f) second ≡ behind xs (two_by goes o checked of here f second)
two_behind None o checked of here second xs f = ap (λ x. found x ready) (behind_behind xs f.items (second & only (act (on_two o checked of here.temp))))
two_behind (Some truth) o checked of here second xs f = ap (λ x. found x ready) (behind_behind xs f.items (only (also truth here.temp second)))

applied_behind : (n : Option ℤ) (env : Env) (function : Function) (checked : Bool) (of : TypeId) (here : Here) (xs : Items) (f : Found) → applied_by n env function checked of here (behind xs f) ≡ behind xs (applied_by n env function checked of here f)
applied_behind None env function checked of here xs f = own_acts env of here (applied env.core function checked of here.temp) xs f
applied_behind (Some n) env function checked of here xs f = ap (λ x. found x ready) (behind_behind xs f.items (looked_at f.now & only (act (constant here.temp n))))

step_behind : (env : Env) (here : Here) (of : TypeId) (a : Doing) (to : TypeId) (xs : Items) (f : Found) → find_step env here of a to (behind xs f) ≡ behind xs (find_step env here of a to f)
step_behind env here of (convert c origin) to xs f = own_acts env of here (converted env.core c to here.temp) xs f
step_behind env here of bracket to xs f = own_behind env of here xs f
step_behind env here of (field id) to xs f = refl
step_behind env here of (index e) to xs f = index_behind env.core of here (make env (past f.used (past_whole here)) e).items xs f f.now
step_behind env here of (method id dispatch given) to xs f = refl
step_behind env here of (prefixed o checked) to xs f = own_acts env of here (prefix o checked (type_at env.core of) here.temp) xs f
step_behind env here of (operate o checked e) to xs f =
    let goes = goes_on_at o (type_at env.core of) in
    let second = (make env (second_here goes here) e).items in
    ap (λ g. two_by goes o checked (type_at env.core of) here g second) (own_behind env of here xs f)
    ∙ two_behind goes o checked (type_at env.core of) here second xs (own env of here f)
step_behind env here of (is other) to xs f = refl
step_behind env here of (apply function checked) to xs f = applied_behind (measured env.core function of f.now) env function checked of here xs f
step_behind env here of (copy first count) to xs f = refl

steps_behind : (env : Env) (here : Here) (of : TypeId) (ss : Steps) (xs : Items) (f : Found) → find_steps env here of ss (behind xs f) ≡ behind xs (find_steps env here of ss f)
steps_behind env here of no_steps xs f = refl
steps_behind env here of (steps a next others) xs f = ap (find_steps env here next others) (step_behind env here of a next xs f) ∙ steps_behind env here next others xs (find_step env here of a next f)

-- ---- what was given goes on

-- nothing is to be done
pub stands : (setting : Setting) (old : List Item) (f : RustFound) (g : Found) → found_view f ≡ g → Gives setting old old f g
stands setting old f g e = record {
  adds = sym (behind_none (view_in setting old)) ∙ ap (λ x. view_in setting old & x.items) e;
  is = ap alone e;
}

-- one thing behind another
pub behind_gives : (setting : Setting) (old mid new : List Item) (f : RustFound) (xs : Items) (g : Found) → Adds setting old mid xs → Gives setting mid new f g → Gives setting old new f (behind xs g)
behind_gives setting old mid new f xs g a b = record {
  adds = b.adds ∙ ap (λ x. x & g.items) a ∙ behind_behind (view_in setting old) xs g.items;
  is = b.is;
}

pub then_gives : (setting : Setting) (old mid new : List Item) (f : RustFound) (g : Found) (more : Items) → Gives setting old mid f g → Adds setting mid new more → Gives setting old new f (record g { items = g.items & more })
then_gives setting old mid new f g more a b = record {
  adds = b ∙ ap (λ x. x & more) a.adds ∙ behind_behind (view_in setting old) g.items more;
  is = a.is;
}

make_is : (env : Env) (here : Here) (e : Expression) → own env (type_of e) here (find env here e) ≡ make env here e
make_is env here (expression root of others) = refl

pub makes : {A : Type 0} (setting : Setting) (old mid new : List Item) (f : RustFound) (r : Result A NoMemory) (here : Here) (e : Expression) (of : TypeId) → of ≡ type_of e → Gives setting old mid f (find (env_view setting) here e) → IfOk r (λ _. Adds setting mid new (own (env_view setting) of here (found_view f)).items) → IfOk r (λ _. Adds setting old new (make (env_view setting) here e).items)
makes setting old mid new f r here e of same a b =
    let env = env_view setting in
    let g = find env here e in
    let next = own env (type_of e) here in
    let c : IfOk r (λ _. Adds setting mid new (next (found_view f)).items) = subst (λ t. IfOk r (λ _. Adds setting mid new (own env t here (found_view f)).items)) same b in
    let k : g.items & (next (found_view f)).items ≡ (make env here e).items =
    ap (λ x. g.items & (next x).items) a.is
    ∙ ap (λ x. x.items) (sym (own_behind env (type_of e) here g.items (alone g)) ∙ ap next (whole g) ∙ make_is env here e) in
    ok_as setting old new r k (ok_both setting old mid new r g.items (next (found_view f)).items a.adds c)

pub made_gives : (setting : Setting) (old mid new : List Item) (f f' : RustFound) (here : Here) (e : Expression) (of : TypeId) → of ≡ type_of e → Gives setting old mid f (find (env_view setting) here e) → Gives setting mid new f' (own (env_view setting) of here (found_view f)) → Gives setting old new f' (make (env_view setting) here e)
made_gives setting old mid new f f' here e of same a b =
    let env = env_view setting in
    let g = find env here e in
    let next = own env (type_of e) here in
    let c : Gives setting mid new f' (next (found_view f)) = subst (λ t. Gives setting mid new f' (own env t here (found_view f))) same b in
    let k : behind g.items (next (found_view f)) ≡ make env here e = ap (λ x. behind g.items (next x)) a.is ∙ sym (own_behind env (type_of e) here g.items (alone g)) ∙ ap next (whole g) ∙ make_is env here e in
    subst (λ x. Gives setting old new f' x) k (behind_gives setting old mid new f' g.items (next (found_view f)) a.adds c)

pub acts_gives : (setting : Setting) (old mid new : List Item) (f : RustFound) (g : Found) (more : ℕ → List Action) (t t' : ℕ) → t ≡ t' → Gives setting old mid f g → Adds setting mid new (acts (more t)) → Gives setting old new f (then_acts g (more t'))
acts_gives setting old mid new f g more t t' e a b = then_gives setting old mid new f g (acts (more t')) a (subst (λ n. Adds setting mid new (acts (more n))) e b)

-- what a step says
pub step_gives : (setting : Setting) (old new : List Item) (f : RustFound) (here : Here) (of : TypeId) {a b : Doing} (to : TypeId) (g : Found) → a ≡ b → Gives setting old new f (find_step (env_view setting) here of b to g) → Gives setting old new f (find_step (env_view setting) here of a to g)
step_gives setting old new f here of to g e x = subst (λ y. Gives setting old new f (find_step (env_view setting) here of y to g)) (sym e) x

pub step_ok : (setting : Setting) (old new : List Item) (r : Result RustFound NoMemory) (here : Here) (of : TypeId) {a b : Doing} (to : TypeId) (g : Found) → a ≡ b → IfOk r (λ f. Gives setting old new f (find_step (env_view setting) here of b to g)) → IfOk r (λ f. Gives setting old new f (find_step (env_view setting) here of a to g))
step_ok setting old new r here of to g e x = map_ok r (λ f y. step_gives setting old new f here of to g e y) x

index_alone : (core : Core) (of : TypeId) (here : Here) (i : Items) (f : Found) (now : Now) → behind i (then_index_by core of here (alone f) none now) ≡ then_index_by core of here (alone f) i now
index_alone core of here i f (a_text bytes) = refl
index_alone core of here i f ready = ap (λ x. then_step of here (element_step core of (here.temp + f.used)) 1 (record f { items = x })) (behind_none i)
index_alone core of here i f (at_path p) = ap (λ x. then_step of here (element_step core of (here.temp + f.used)) 1 (record f { items = x })) (behind_none i)

pub index_gives : (setting : Setting) (old mid new : List Item) (f : RustFound) (r : Result RustFound NoMemory) (of : TypeId) (here : Here) (i : Items) → Adds setting old mid i → IfOk r (λ f'. Gives setting mid new f' (then_index setting.core.now of here (found_view f) none)) → IfOk r (λ f'. Gives setting old new f' (then_index setting.core.now of here (found_view f) i))
index_gives setting old mid new f r of here i a b =
    map_ok r (λ f' g. subst (λ x. Gives setting old new f' x) (index_alone setting.core.now of here i (found_view f) (found_view f).now) (behind_gives setting old mid new f' i (then_index setting.core.now of here (found_view f) none) a g)) b

two_alone : (goes : Option Bool) (o : Operator) (checked : Bool) (of : Option CoreType) (here : Here) (second : Items) (h : Found) → behind h.items (two_by goes o checked of here (found none ready) second) ≡ two_by goes o checked of here h second
two_alone None o checked of here second h = refl
two_alone (Some truth) o checked of here second h = refl

pub two_gives : (setting : Setting) (old mid new : List Item) (r : Result RustFound NoMemory) (here : Here) (o : Operator) (checked : Bool) (of : Option CoreType) (e : Expression) (h : Found) → Adds setting old mid h.items → IfOk r (λ f. Gives setting mid new f (two_on (env_view setting) here o checked of e)) → IfOk r (λ f. Gives setting old new f (two_by (goes_on_at o of) o checked of here h (make (env_view setting) (second_here (goes_on_at o of) here) e).items))
two_gives setting old mid new r here o checked of e h a b =
    map_ok r
    (λ f g. subst (λ x. Gives setting old new f x)
    (two_alone (goes_on_at o of) o checked of here (make (env_view setting) (second_here (goes_on_at o of) here) e).items h)
    (behind_gives setting old mid new f h.items (two_on (env_view setting) here o checked of e) a g)) b

-- ---- the steps of an expression: what is left gives the whole

pub goes_on : (setting : Setting) (old new : List Item) (f : RustFound) (h : Found) (env : Env) (here : Here) (of : TypeId) (ss : Steps) → Gives setting old new f h → behind (view_in setting new) (find_steps env here of ss (found_view f)) ≡ behind (view_in setting old) (find_steps env here of ss h)
goes_on setting old new f h env here of ss g =
    ap (λ x. behind x (find_steps env here of ss (found_view f))) g.adds
    ∙ ap (λ x. behind (view_in setting old & h.items) (find_steps env here of ss x)) g.is
    ∙ twice (view_in setting old) h.items (find_steps env here of ss (alone h))
    ∙ ap (behind (view_in setting old)) (sym (steps_behind env here of ss h.items (alone h)))
    ∙ ap (λ x. behind (view_in setting old) (find_steps env here of ss x)) (whole h)

pub gives_whole : (setting : Setting) (old new : List Item) (f : RustFound) (g : Found) → behind (view_in setting new) (found_view f) ≡ behind (view_in setting old) g → Gives setting old new f g
gives_whole setting old new f g e = record {
  adds = sym (behind_none (view_in setting new)) ∙ ap (λ x. x.items) e;
  is = ap alone e;
}

pub find_is : (env : Env) (here : Here) (e : CoreExpr) → find env here (expr_of e) ≡ find_steps env here (out-CoreExpr e).of (steps_of (out-CoreExpr e).steps.items) (find_root env here (out-CoreExpr e).of (root_of (out-CoreExpr e).root))
find_is env here e = ap (find env here) (list_nodes.expr_says e)

pub find_begins : (setting : Setting) (old new : List Item) (f : RustFound) (here : Here) (e : CoreExpr) (list : List Step) → list ≡ (out-CoreExpr e).steps.items → Gives setting old new f (find_root (env_view setting) here (out-CoreExpr e).of (root_of (out-CoreExpr e).root)) → behind (view_in setting new) (find_steps (env_view setting) here (out-CoreExpr e).of (steps_of list) (found_view f)) ≡ behind (view_in setting old) (find (env_view setting) here (expr_of e))
find_begins setting old new f here e list i g =
    let env = env_view setting in
    let of = (out-CoreExpr e).of in
    ap (λ xs. behind (view_in setting new) (find_steps env here of (steps_of xs) (found_view f))) i
    ∙ goes_on setting old new f (find_root env here of (root_of (out-CoreExpr e).root)) env here of (steps_of (out-CoreExpr e).steps.items) g
    ∙ ap (behind (view_in setting old)) (sym (find_is env here e))

pub find_goes_on : (setting : Setting) (mid new : List Item) (f f' : RustFound) (here : Here) (of : TypeId) (list : List Step) (k : ℕ) (x : Step) (end : Found) → k < length list → x ≡ get_or list k x → Gives setting mid new f' (find_step (env_view setting) here of (action_of x.action) x.of (found_view f)) → behind (view_in setting mid) (find_steps (env_view setting) here of (steps_of (drop k list)) (found_view f)) ≡ end → behind (view_in setting new) (find_steps (env_view setting) here x.of (steps_of (drop (k + 1) list)) (found_view f')) ≡ end
find_goes_on setting mid new f f' here of list k x end h i g inv =
    let env = env_view setting in
    goes_on setting mid new f' (find_step env here of (action_of x.action) x.of (found_view f)) env here x.of (steps_of (drop (k + 1) list)) g
    ∙ ap (λ ss. behind (view_in setting mid) (find_steps env here of ss (found_view f))) (sym (next_step list k x h i))
    ∙ inv

pub find_ends : (setting : Setting) (old new : List Item) (f : RustFound) (here : Here) (of : TypeId) (list : List Step) (k : ℕ) (g : Found) → length list ≤ k → behind (view_in setting new) (find_steps (env_view setting) here of (steps_of (drop k list)) (found_view f)) ≡ behind (view_in setting old) g → Gives setting old new f g
find_ends setting old new f here of list k g h inv =
    gives_whole setting old new f g
    (ap (λ xs. behind (view_in setting new) (find_steps (env_view setting) here of (steps_of xs) (found_view f))) (sym (drop_all k list h)) ∙ inv)
