-- The parts of expressions, one behind another.
use Rattle.std.proofs.Common.{◌≡◌, ℕ, suc, pos, ◌+◌, ◌<◌, ◌≤◌, List, [], ◌∷◌, ◌++◌, length, get_or, drop, drop-cons, add-one, map, append_assoc, append-nil, Bool, Vec, Option, Some, None, Result, IfOk, slice_get, refl, ap, sym, subst, ◌∙◌}
use Rattle.std.proofs.lemmas.List.{drop_all, map-append}
use Rattle.std.specs.declared.alloc.Global.{Global}
use Rattle.op_base.proofs.Tests.{map_ok}
use Rattle.op_base.specs.declared.memory_error.NoMemory.{NoMemory}
use Rattle.op_core.specs.Expression.{Expression, Element as Member, one, range, Elements, elements, Argument, listed, Arguments, arguments, Expressions, Root, call, construct as constructed, set as bracketed, argument_of, element_of}
use Rattle.op_core.specs.Nodes.{arguments_of, elements_of}
use Rattle.op_core.specs.declared.expression.CoreArgument.{CoreArgument}
use Rattle.op_core.specs.declared.expression.CoreElement.{CoreElement}
use Rattle.op_core.specs.declared.ids.ClassId.{ClassId}
use Rattle.op_core.specs.declared.ids.RoutineId.{RoutineId}
use Rattle.op_core.specs.declared.ids.TypeId.{TypeId}
use Rattle.op_core.specs.declared.types.CoreType.{CoreType}
use Rattle.op_items.proofs.Behind.{adds_both, adds_by, behind_behind, behind_none, ok_as, ok_both}
use Rattle.op_items.specs.Adding.{Adds, Gives, Passes, PassesAll, env_view, found_view, two_on, view_in}
use Rattle.op_items.specs.declared.expression.Passed.{Passed}
use Rattle.op_items.specs.declared.found.Found.{Found as RustFound}
use Rattle.op_items.specs.declared.item.Item.{Item}
use Rattle.op_items.specs.declared.setting.Setting.{Setting}
use Rattle.op_meaning.specs.Actions.{combine, constant, single as lone, span}
use Rattle.op_meaning.specs.Expressions.{Env, Here, past, past_whole, Found, found, ready, find_root, gather, gather_one, make, pass, pass_one, receiver_of, result_of, AllPassed, goes_on_at, on_two, second_here, two_by, whole_path}
use Rattle.op_meaning.specs.Items.{Given, by_copy, to_place, Items, none, then_do, ◌&◌, only, act, also, enter, construct}
use Rattle.op_mir.specs.View.{view_given}
use Rattle.op_mir.specs.declared.instruction.Given.{Given as RustGiven}
use Rattle.op_tree.specs.declared.operator.Operator.{Operator}
use Rattle.op_tree.specs.declared.operator.Operator.TheVariants.{Add}

-- ---- sets

pub one_gathered : {A : Type 0} (setting : Setting) (old mid new : List Item) (r : Result A NoMemory) (here at : Here) (member : Member) (e : Expression) (to : ℕ) → member ≡ one e → at ≡ past 1 here → to ≡ here.temp + 1 → Adds setting old mid (make (env_view setting) at e).items → IfOk r (λ _. Adds setting mid new (only (act (lone to to)))) → IfOk r (λ _. Adds setting old new (gather_one (env_view setting) here member))
one_gathered setting old mid new r here at member e to i a t x y =
    let env = env_view setting in
    let x' : Adds setting old mid (make env (past 1 here) e).items = subst (λ h. Adds setting old mid (make env h e).items) a x in
    let y' : IfOk r (λ _. Adds setting mid new (only (act (lone (here.temp + 1) (here.temp + 1))))) = subst (λ n. IfOk r (λ _. Adds setting mid new (only (act (lone n n))))) t y in
    subst (λ m. IfOk r (λ _. Adds setting old new (gather_one env here m))) (sym i) (ok_both setting old mid new r (make env (past 1 here) e).items (only (act (lone (here.temp + 1) (here.temp + 1)))) x' y')

pub range_gathered : {A : Type 0} (setting : Setting) (old mid more new : List Item) (r : Result A NoMemory) (here at at' : Here) (member : Member) (e e' : Expression) (to last : ℕ) → member ≡ range e e' → at ≡ past 1 here → at' ≡ past 2 here → to ≡ here.temp + 1 → last ≡ here.temp + 2 → Adds setting old mid (make (env_view setting) at e).items → Adds setting mid more (make (env_view setting) at' e').items → IfOk r (λ _. Adds setting more new (only (act (span to to last)))) → IfOk r (λ _. Adds setting old new (gather_one (env_view setting) here member))
range_gathered setting old mid more new r here at at' member e e' to last i a a' t l x y z =
    let env = env_view setting in
    let first = (make env (past 1 here) e).items in
    let second = (make env (past 2 here) e').items in
    let third = only (act (span (here.temp + 1) (here.temp + 1) (here.temp + 2))) in
    let x' : Adds setting old mid first = subst (λ h. Adds setting old mid (make env h e).items) a x in
    let y' : Adds setting mid more second = subst (λ h. Adds setting mid more (make env h e').items) a' y in
    let z' : IfOk r (λ _. Adds setting more new (only (act (span (here.temp + 1) (here.temp + 1) last)))) = subst (λ n. IfOk r (λ _. Adds setting more new (only (act (span n n last))))) t z in
    let z'' : IfOk r (λ _. Adds setting more new third) = subst (λ n. IfOk r (λ _. Adds setting more new (only (act (span (here.temp + 1) (here.temp + 1) n))))) l z' in
    subst (λ m. IfOk r (λ _. Adds setting old new (gather_one env here m))) (sym i)
    (ok_both setting old mid new r first (second & third) x' (ok_both setting mid more new r second third y' z''))

next_element : (list : List CoreElement) (k : ℕ) (x : CoreElement) → k < length list → x ≡ get_or list k x → elements_of (drop k list) ≡ elements (element_of x) (elements_of (drop (k + 1) list))
next_element list k x h e = rw add-one (ap elements_of (drop-cons list k x h) ∙ ap (λ y. elements (element_of y) (elements_of (drop (suc k) list))) (sym e))

pub gather_goes_on : (setting : Setting) (mid more new : List Item) (here : Here) (list : List CoreElement) (k : ℕ) (x : CoreElement) (to right : ℕ) (end : Items) → k < length list → x ≡ get_or list k x → to ≡ here.temp → right ≡ here.temp + 1 → Adds setting mid more (gather_one (env_view setting) here (element_of x)) → Adds setting more new (only (act (combine Add to to right))) → view_in setting mid & gather (env_view setting) here (elements_of (drop k list)) ≡ end → view_in setting new & gather (env_view setting) here (elements_of (drop (k + 1) list)) ≡ end
gather_goes_on setting mid more new here list k x to right end h i t s a b inv =
    let env = env_view setting in
    let one = gather_one env here (element_of x) in
    let joined = only (act (combine Add here.temp here.temp (here.temp + 1))) in
    let rest = gather env here (elements_of (drop (k + 1) list)) in
    let b' : Adds setting more new (only (act (combine Add here.temp here.temp right))) = subst (λ n. Adds setting more new (only (act (combine Add n n right)))) t b in
    let b'' : Adds setting more new joined = subst (λ n. Adds setting more new (only (act (combine Add here.temp here.temp n)))) s b' in
    ap (λ y. y & rest) (adds_both setting mid more new one joined a b'')
    ∙ behind_behind (view_in setting mid) (one & joined) rest
    ∙ ap (λ y. view_in setting mid & y) (behind_behind one joined rest)
    ∙ ap (λ es. view_in setting mid & gather env here es) (sym (next_element list k x h i))
    ∙ inv

pub gather_ends : (setting : Setting) (old new : List Item) (here : Here) (list : List CoreElement) (k : ℕ) (xs : Items) → length list ≤ k → view_in setting new & gather (env_view setting) here (elements_of (drop k list)) ≡ view_in setting old & xs → Adds setting old new xs
gather_ends setting old new here list k xs h inv =
    sym (behind_none (view_in setting new))
    ∙ ap (λ es. view_in setting new & gather (env_view setting) here (elements_of es)) (sym (drop_all k list h))
    ∙ inv

-- ---- arguments

next_argument : (list : List CoreArgument) (k : ℕ) (x : CoreArgument) → k < length list → x ≡ get_or list k x → arguments_of (drop k list) ≡ arguments (argument_of x) (arguments_of (drop (k + 1) list))
next_argument list k x h e = rw add-one (ap arguments_of (drop-cons list k x h) ∙ ap (λ y. arguments (argument_of y) (arguments_of (drop (suc k) list))) (sym e))

-- where the next argument goes
next_here : (env : Env) (here at here' : Here) (x : CoreArgument) (used : ℕ) → at ≡ past_whole here → used ≡ (pass_one env here (argument_of x)).used → here' ≡ past used at → here' ≡ past (pass_one env here (argument_of x)).used (past_whole here)
next_here env here at here' x used a u e = e ∙ ap (past used) a ∙ ap (λ n. past n (past_whole here)) u

pub pass_adds : (setting : Setting) (mid new : List Item) (here at here' : Here) (list : List CoreArgument) (k : ℕ) (x : CoreArgument) (p : Passed) (end : Items) → k < length list → x ≡ get_or list k x → at ≡ past_whole here → here' ≡ past p.used at → Passes setting mid new p (pass_one (env_view setting) here (argument_of x)) → view_in setting mid & (pass (env_view setting) here (arguments_of (drop k list))).items ≡ end → view_in setting new & (pass (env_view setting) here' (arguments_of (drop (k + 1) list))).items ≡ end
pass_adds setting mid new here at here' list k x p end h i a e b inv =
    let env = env_view setting in
    let one = pass_one env here (argument_of x) in
    let others = arguments_of (drop (k + 1) list) in
    let rest = (pass env (past one.used (past_whole here)) others).items in
    ap (λ y. view_in setting new & (pass env y others).items) (next_here env here at here' x p.used a b.used e)
    ∙ ap (λ y. y & rest) b.adds
    ∙ behind_behind (view_in setting mid) one.items rest
    ∙ ap (λ y. view_in setting mid & (pass env here y).items) (sym (next_argument list k x h i))
    ∙ inv

pub pass_given : (setting : Setting) (mid new : List Item) (here at here' : Here) (list : List CoreArgument) (k : ℕ) (x : CoreArgument) (p : Passed) (so_far all : List RustGiven) (end : List Given) → k < length list → x ≡ get_or list k x → at ≡ past_whole here → here' ≡ past p.used at → Passes setting mid new p (pass_one (env_view setting) here (argument_of x)) → all ≡ so_far ++ p.given ∷ [] → map view_given so_far ++ (pass (env_view setting) here (arguments_of (drop k list))).given ≡ end → map view_given all ++ (pass (env_view setting) here' (arguments_of (drop (k + 1) list))).given ≡ end
pass_given setting mid new here at here' list k x p so_far all end h i a e b l inv =
    let env = env_view setting in
    let one = pass_one env here (argument_of x) in
    let others = arguments_of (drop (k + 1) list) in
    let rest = (pass env (past one.used (past_whole here)) others).given in
    ap (λ y. map view_given all ++ (pass env y others).given) (next_here env here at here' x p.used a b.used e)
    ∙ ap (λ y. map view_given y ++ rest) l
    ∙ ap (λ y. y ++ rest) (map-append view_given so_far (p.given ∷ []))
    ∙ ap (λ y. (map view_given so_far ++ y ∷ []) ++ rest) b.given
    ∙ append_assoc (map view_given so_far) (one.given ∷ []) rest
    ∙ ap (λ y. map view_given so_far ++ (pass env here y).given) (sym (next_argument list k x h i))
    ∙ inv

pub pass_ends : (setting : Setting) (old new : List Item) (here at : Here) (list : List CoreArgument) (k : ℕ) (all : Vec RustGiven Global) (q : AllPassed) → length list ≤ k → view_in setting new & (pass (env_view setting) at (arguments_of (drop k list))).items ≡ view_in setting old & q.items → map view_given all.items ++ (pass (env_view setting) at (arguments_of (drop k list))).given ≡ q.given → PassesAll setting old new all q
pass_ends setting old new here at list k all q h a b = record {
  adds = sym (behind_none (view_in setting new)) ∙ ap (λ y. view_in setting new & (pass (env_view setting) at (arguments_of y)).items) (sym (drop_all k list h)) ∙ a;
  given = sym (append-nil (map view_given all.items)) ∙ ap (λ y. map view_given all.items ++ (pass (env_view setting) at (arguments_of y)).given) (sym (drop_all k list h)) ∙ b;
}

pub listed_given : (setting : Setting) (old : List Item) (here : Here) (argument : Argument) (of : TypeId) (es : Expressions) (p : Passed) → argument ≡ listed of es → view_given p.given ≡ by_copy of (whole_path of here) → p.used ≡ 0 → Passes setting old old p (pass_one (env_view setting) here argument)
listed_given setting old here argument of es p i g u = subst (λ a. Passes setting old old p (pass_one (env_view setting) here a)) (sym i) (record { adds = sym (behind_none (view_in setting old)); given = g; used = u })

-- ---- what an expression begins with

pub root_gives : (setting : Setting) (old new : List Item) (f : RustFound) (here : Here) (of : TypeId) {a b : Root} → a ≡ b → Gives setting old new f (find_root (env_view setting) here of b) → Gives setting old new f (find_root (env_view setting) here of a)
root_gives setting old new f here of e x = subst (λ y. Gives setting old new f (find_root (env_view setting) here of y)) (sym e) x

pub call_found : (setting : Setting) (old mid new : List Item) (f : RustFound) (here at : Here) (of : TypeId) (root : Root) (id : RoutineId) (given : Arguments) (all : Vec RustGiven Global) → root ≡ call id given → at ≡ past_whole here → PassesAll setting old mid all (pass (env_view setting) at given) → Adds setting mid new (only (enter id.0 (map view_given all.items) (receiver_of setting.core.now (result_of (slice_get setting.core.now.routines id.0)) here))) → found_view f ≡ found none ready → Gives setting old new f (find_root (env_view setting) here of root)
call_found setting old mid new f here at of root id given all i a p b e =
    let env = env_view setting in
    let q = pass env (past_whole here) given in
    let to = receiver_of setting.core.now (result_of (slice_get setting.core.now.routines id.0)) here in
    let p' : PassesAll setting old mid all q = subst (λ h. PassesAll setting old mid all (pass env h given)) a p in
    let b' : Adds setting mid new (only (enter id.0 q.given to)) = subst (λ g. Adds setting mid new (only (enter id.0 g to))) p'.given b in
    root_gives setting old new f here of i (record { adds = adds_both setting old mid new q.items (only (enter id.0 q.given to)) p'.adds b'; is = e })

pub construct_found : (setting : Setting) (old mid new : List Item) (f : RustFound) (here at : Here) (of : TypeId) (root : Root) (class : ClassId) (id : RoutineId) (given : Arguments) (all : Vec RustGiven Global) → root ≡ constructed class id given → at ≡ past_whole here → PassesAll setting old mid all (pass (env_view setting) at given) → Adds setting mid new (only (construct class id.0 (map view_given all.items) (to_place of (whole_path of here)))) → found_view f ≡ found none ready → Gives setting old new f (find_root (env_view setting) here of root)
construct_found setting old mid new f here at of root class id given all i a p b e =
    let env = env_view setting in
    let q = pass env (past_whole here) given in
    let to = to_place of (whole_path of here) in
    let p' : PassesAll setting old mid all q = subst (λ h. PassesAll setting old mid all (pass env h given)) a p in
    let b' : Adds setting mid new (only (construct class id.0 q.given to)) = subst (λ g. Adds setting mid new (only (construct class id.0 g to))) p'.given b in
    root_gives setting old new f here of i (record { adds = adds_both setting old mid new q.items (only (construct class id.0 q.given to)) p'.adds b'; is = e })

pub set_found : (setting : Setting) (old mid new : List Item) (f : RustFound) (here : Here) (of : TypeId) (root : Root) (es : Elements) (to : ℕ) → root ≡ bracketed es → to ≡ here.temp → Adds setting old mid (only (act (constant to (pos 0)))) → Adds setting mid new (gather (env_view setting) here es) → found_view f ≡ found none ready → Gives setting old new f (find_root (env_view setting) here of root)
set_found setting old mid new f here of root es to i t a b e =
    let a' : Adds setting old mid (only (act (constant here.temp (pos 0)))) = subst (λ n. Adds setting old mid (only (act (constant n (pos 0))))) t a in
    root_gives setting old new f here of i (record { adds = adds_both setting old mid new (only (act (constant here.temp (pos 0)))) (gather (env_view setting) here es) a' b; is = e })

-- ---- two operands

two_from : (setting : Setting) (old new : List Item) (f : RustFound) (here : Here) (o : Operator) (checked : Bool) (of : Option CoreType) (e : Expression) (goes : Option Bool) → goes ≡ goes_on_at o of → Gives setting old new f (two_by goes o checked of here (found none ready) (make (env_view setting) (second_here goes here) e).items) → Gives setting old new f (two_on (env_view setting) here o checked of e)
two_from setting old new f here o checked of e goes i x = subst (λ g. Gives setting old new f (two_by g o checked of here (found none ready) (make (env_view setting) (second_here g here) e).items)) i x

pub two_made : (setting : Setting) (old mid new : List Item) (f : RustFound) (here at : Here) (o : Operator) (checked : Bool) (of : Option CoreType) (e : Expression) (to : ℕ) → None ≡ goes_on_at o of → at ≡ past 1 here → to ≡ here.temp → Adds setting old mid (make (env_view setting) at e).items → Adds setting mid new (only (act (on_two o checked of to))) → found_view f ≡ found none ready → Gives setting old new f (two_on (env_view setting) here o checked of e)
two_made setting old mid new f here at o checked of e to i a t x y z =
    let env = env_view setting in
    let x' : Adds setting old mid (make env (past 1 here) e).items = subst (λ h. Adds setting old mid (make env h e).items) a x in
    let y' : Adds setting mid new (only (act (on_two o checked of here.temp))) = subst (λ n. Adds setting mid new (only (act (on_two o checked of n)))) t y in
    two_from setting old new f here o checked of e None i (record { adds = adds_both setting old mid new (make env (past 1 here) e).items (only (act (on_two o checked of here.temp))) x' y'; is = z })

pub two_alike : (setting : Setting) (old new start second : List Item) (f : RustFound) (here : Here) (o : Operator) (checked : Bool) (of : Option CoreType) (e : Expression) (truth : Bool) (to : ℕ) → Some truth ≡ goes_on_at o of → to ≡ here.temp → start ≡ [] → Adds setting start second (make (env_view setting) here e).items → Adds setting old new (only (also truth to (view_in setting second))) → found_view f ≡ found none ready → Gives setting old new f (two_on (env_view setting) here o checked of e)
two_alike setting old new start second f here o checked of e truth to i t s x y z =
    let made = (make (env_view setting) here e).items in
    let x' : view_in setting second ≡ made = subst (λ l. Adds setting l second made) s x in
    let y' : Adds setting old new (only (also truth here.temp made)) = subst (λ l. Adds setting old new (only (also truth here.temp l))) x' (subst (λ n. Adds setting old new (only (also truth n (view_in setting second)))) t y) in
    two_from setting old new f here o checked of e (Some truth) i (record { adds = y'; is = z })
