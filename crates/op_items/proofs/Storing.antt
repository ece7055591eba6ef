-- Stores, and what is written, behind what was found.
use Rattle.std.proofs.Common.{◌≡◌, ℕ, suc, ◌+◌, ◌<◌, ◌≤◌, List, [], ◌∷◌, length, get_or, drop, drop-cons, add-one, map, Result, IfOk, refl, ap, sym, subst, ◌∙◌}
use Rattle.std.proofs.lemmas.List.{drop_all}
use Rattle.op_base.specs.declared.memory_error.NoMemory.{NoMemory}
use Rattle.op_core.specs.Expression.{Expression}
use Rattle.op_core.specs.Statement.{Item as Output, padded, item_of}
use Rattle.op_core.specs.Typing.{type_of}
use Rattle.op_core.specs.declared.ids.TypeId.{TypeId}
use Rattle.op_core.specs.declared.ids.VariableId.{VariableId}
use Rattle.op_core.specs.declared.operation.Conversion.{Conversion}
use Rattle.op_core.specs.declared.statement.CoreItem.{CoreItem}
use Rattle.op_items.proofs.Behind.{adds_both, behind_behind, behind_none, ok_as, ok_both}
use Rattle.op_items.proofs.Finding.{alone, made_gives, stands}
use Rattle.op_items.specs.Adding.{Adds, Gives, env_view, found_view, now_view, view_in}
use Rattle.op_items.specs.Collections.{element_stored}
use Rattle.op_items.specs.declared.found.Found.{Found as RustFound}
use Rattle.op_items.specs.declared.item.Item.{Item}
use Rattle.op_items.specs.declared.setting.Setting.{Setting}
use Rattle.op_meaning.specs.Expressions.{Env, Here, past, past_whole, Found, found, Now, ready, at_path, a_text, converted, element_step, find, make, own, then_acts, whole_path}
use Rattle.op_meaning.specs.Items.{Items, none, ◌&◌, acts}
use Rattle.op_meaning.specs.Paths.{with_step}
use Rattle.op_meaning.specs.Shapes.{Shape, single, composite, of_chars, of_elements, of_instance, shape_of, type_of_variable}
use Rattle.op_meaning.specs.Statements.{at_variable, stored_by, write_all, write_by_now, write_one, write_value}

stored_alone : (s : Shape) (of : TypeId) (here : Here) (v target : Found) → v.items & target.items & stored_by s of here (found none ready) (alone target) ≡ stored_by s of here v target
stored_alone (single kind) of here v target = refl
stored_alone composite of here v target = refl
stored_alone of_chars of here v target = ap (λ x. v.items & x) (behind_none target.items)
stored_alone of_elements of here v target = ap (λ x. v.items & x) (behind_none target.items)
stored_alone (of_instance holds) of here v target = ap (λ x. v.items & x) (behind_none target.items)

pub stored_adds : {A : Type 0} (setting : Setting) (old mid more new : List Item) (r : Result A NoMemory) (s : Shape) (of : TypeId) (here : Here) (f : RustFound) (v target : Found) → Adds setting old mid v.items → Gives setting mid more f target → IfOk r (λ _. Adds setting more new (stored_by s of here (found none ready) (found_view f))) → IfOk r (λ _. Adds setting old new (stored_by s of here v target))
stored_adds setting old mid more new r s of here f v target a b c =
    let last = stored_by s of here (found none ready) (alone target) in
    let d : IfOk r (λ _. Adds setting more new last) = ok_as setting more new r (ap (λ x. stored_by s of here (found none ready) x) b.is) c in
    ok_as setting old new r (stored_alone s of here v target)
    (ok_both setting old mid new r v.items (target.items & last) a (ok_both setting mid more new r target.items last b.adds d))

written_alone : (env : Env) (here : Here) (of : TypeId) (f : Found) (width : Items) (now : Now) → f.items & width & write_by_now env here of (found none ready) none now ≡ write_by_now env here of f width now
written_alone env here of f width (a_text bytes) = refl
written_alone env here of f width ready = refl
written_alone env here of f width (at_path p) = refl

pub written_adds : {A : Type 0} (setting : Setting) (old mid more new : List Item) (r : Result A NoMemory) (here : Here) (of : TypeId) (f : RustFound) (v : Found) (width : Items) → Gives setting old mid f v → Adds setting mid more width → IfOk r (λ _. Adds setting more new (write_by_now (env_view setting) here of (found none ready) none (now_view f.now))) → IfOk r (λ _. Adds setting old new (write_value (env_view setting) here of v width))
written_adds setting old mid more new r here of f v width a b c =
    let last = write_by_now (env_view setting) here of (found none ready) none v.now in
    let d : IfOk r (λ _. Adds setting more new last) = ok_as setting more new r (ap (λ x. write_by_now (env_view setting) here of (found none ready) none x.now) a.is) c in
    ok_as setting old new r (written_alone (env_view setting) here of v width v.now)
    (ok_both setting old mid new r v.items (width & last) a.adds (ok_both setting mid more new r width last b d))

pub padded_adds : {A : Type 0} (setting : Setting) (old first mid more new : List Item) (r : Result A NoMemory) (here at : Here) (output : Output) (e e' : Expression) (of : TypeId) (f f' : RustFound) → output ≡ padded e e' → of ≡ type_of e → at ≡ past 1 here → Gives setting old first f (find (env_view setting) here e) → Gives setting first mid f' (own (env_view setting) of here (found_view f)) → Adds setting mid more (make (env_view setting) at e').items → IfOk r (λ _. Adds setting more new (write_by_now (env_view setting) here of (found none ready) none (now_view f'.now))) → IfOk r (λ _. Adds setting old new (write_one (env_view setting) here output))
padded_adds setting old first mid more new r here at output e e' of f f' i same a x y z w =
    let env = env_view setting in
    let z' : Adds setting mid more (make env (past 1 here) e').items = subst (λ h. Adds setting mid more (make env h e').items) a z in
    let w' : IfOk r (λ _. Adds setting more new (write_by_now env here (type_of e) (found none ready) none (now_view f'.now))) = subst (λ t. IfOk r (λ _. Adds setting more new (write_by_now env here t (found none ready) none (now_view f'.now)))) same w in
    subst (λ o. IfOk r (λ _. Adds setting old new (write_one env here o))) (sym i)
    (written_adds setting old mid more new r here (type_of e) f' (make env here e) (make env (past 1 here) e').items (made_gives setting old first mid f f' here e of same x y) z' w')

next_output : (list : List CoreItem) (k : ℕ) (x : CoreItem) → k < length list → x ≡ get_or list k x → map item_of (drop k list) ≡ item_of x ∷ map item_of (drop (k + 1) list)
next_output list k x h e = rw add-one (ap (map item_of) (drop-cons list k x h) ∙ ap (λ y. item_of y ∷ map item_of (drop (suc k) list)) (sym e))

pub write_goes_on : (setting : Setting) (mid new : List Item) (here : Here) (list : List CoreItem) (k : ℕ) (x : CoreItem) (end : Items) → k < length list → x ≡ get_or list k x → Adds setting mid new (write_one (env_view setting) here (item_of x)) → view_in setting mid & write_all (env_view setting) here (map item_of (drop k list)) ≡ end → view_in setting new & write_all (env_view setting) here (map item_of (drop (k + 1) list)) ≡ end
write_goes_on setting mid new here list k x end h i a inv =
    let env = env_view setting in
    let rest = write_all env here (map item_of (drop (k + 1) list)) in
    ap (λ y. y & rest) a
    ∙ behind_behind (view_in setting mid) (write_one env here (item_of x)) rest
    ∙ ap (λ y. view_in setting mid & write_all env here y) (sym (next_output list k x h i))
    ∙ inv

pub write_ends : (setting : Setting) (old new : List Item) (here : Here) (list : List CoreItem) (k : ℕ) (xs : Items) → length list ≤ k → view_in setting new & write_all (env_view setting) here (map item_of (drop k list)) ≡ view_in setting old & xs → Adds setting old new xs
write_ends setting old new here list k xs h inv =
    sym (behind_none (view_in setting new))
    ∙ ap (λ y. view_in setting new & write_all (env_view setting) here (map item_of y)) (sym (drop_all k list h))
    ∙ inv

-- ---- an element of an array is stored in a variable

pub element_adds : {A : Type 0} (setting : Setting) (old mid more new : List Item) (r : Result A NoMemory) (here inner : Here) (of element to : TypeId) (v : VariableId) (into : Conversion) (f f' : RustFound) (t : ℕ) → to ≡ type_of_variable setting.core.now v.0 → inner ≡ past 3 (past_whole here) → t ≡ here.temp + 3 → found_view f ≡ found none (at_path (with_step (element_step setting.core.now of here.temp) (whole_path of here))) → found_view f' ≡ at_variable (env_view setting) v → Adds setting old mid (own (env_view setting) element inner (found_view f)).items → Adds setting mid more (acts (converted setting.core.now into to t)) → IfOk r (λ _. Adds setting more new (stored_by (shape_of setting.core.now to) element inner (found none ready) (found_view f'))) → IfOk r (λ _. Adds setting old new (element_stored (env_view setting) here of element v into))
element_adds setting old mid more new r here inner of element to v into f f' t e-to e-inner e-t e-place e-target a b c =
    let env = env_view setting in
    let core = setting.core.now in
    let actions = acts (converted core into to t) in
    let value = then_acts (own env element inner (found_view f)) (converted core into to t) in
    let d : IfOk r (λ _. Adds setting old new (stored_by (shape_of core to) element inner value (found_view f'))) =
    stored_adds setting old more more new r (shape_of core to) element inner f' value (found_view f') (adds_both setting old mid more (own env element inner (found_view f)).items actions a b) (stands setting more f' (found_view f') refl) c in
    ok_as setting old new r
    (ap (λ x. stored_by (shape_of core x) element inner (then_acts (own env element inner (found_view f)) (converted core into x t)) (found_view f')) e-to
    ∙ ap (λ x. stored_by (shape_of core (type_of_variable core v.0)) element x (then_acts (own env element x (found_view f)) (converted core into (type_of_variable core v.0) t)) (found_view f')) e-inner
    ∙ ap (λ x. stored_by (shape_of core (type_of_variable core v.0)) element (past 3 (past_whole here)) (then_acts (own env element (past 3 (past_whole here)) (found_view f)) (converted core into (type_of_variable core v.0) x)) (found_view f')) e-t
    ∙ ap (λ x. stored_by (shape_of core (type_of_variable core v.0)) element (past 3 (past_whole here)) (then_acts (own env element (past 3 (past_whole here)) x) (converted core into (type_of_variable core v.0) (here.temp + 3))) (found_view f')) e-place
    ∙ ap (λ x. stored_by (shape_of core (type_of_variable core v.0)) element (past 3 (past_whole here)) (then_acts (own env element (past 3 (past_whole here)) (found none (at_path (with_step (element_step core of here.temp) (whole_path of here))))) (converted core into (type_of_variable core v.0) (here.temp + 3))) x) e-target) d
