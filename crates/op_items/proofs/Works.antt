-- What statements say, by what was added for them.
use Rattle.std.proofs.Common.{◌≡◌, ℕ, ◌+◌, List, [], slice_get, Some, None, Result, IfOk, refl, ap, sym, ◌∙◌}
use Rattle.op_base.specs.declared.memory_error.NoMemory.{NoMemory}
use Rattle.op_core.specs.Expression.{Expression}
use Rattle.op_core.specs.Sizes.{type_at}
use Rattle.op_core.specs.Statement.{Statement, Statements, Branches, Handlers, empty, case_of, for_to, for_in, try_finally, try_on, try_on_else, stmts_of}
use Rattle.op_core.specs.Typing.{type_of}
use Rattle.op_core.specs.declared.ids.TypeId.{TypeId}
use Rattle.op_core.specs.declared.ids.VariableId.{VariableId}
use Rattle.op_core.specs.declared.operation.Conversion.{Conversion}
use Rattle.op_core.specs.declared.program.Core.{Core}
use Rattle.op_core.specs.declared.routine.Body.{Body}
use Rattle.op_core.specs.declared.routine.Routine.{Routine}
use Rattle.op_items.proofs.Behind.{adds_by, behind_none, ok_as, ok_both}
use Rattle.op_items.specs.Adding.{Adds, env_view, view_in}
use Rattle.op_items.specs.Collections.{bounded}
use Rattle.op_items.specs.declared.item.Item.{Item}
use Rattle.op_items.specs.declared.setting.Setting.{Setting}
use Rattle.op_meaning.specs.Actions.{compare}
use Rattle.op_meaning.specs.Expressions.{Env, Here, past, make}
use Rattle.op_meaning.specs.Frames.{program_of}
use Rattle.op_meaning.specs.Items.{Items, none, ◌&◌, only, act, choose, select, protect, attempt, no_clauses, for_others}
use Rattle.op_meaning.specs.Statements.{cases_of, clauses_of, for_items, has_turn, in_collection, in_turn, work_of, work_of_all}
use Rattle.op_tree.specs.declared.operator.Operator.{Operator}
use Rattle.op_tree.specs.declared.statement.Direction.{Direction}

-- ---- statements with lists

pub empty_work : (setting : Setting) (old : List Item) (here : Here) (stmt : Statement) → stmt ≡ empty → Adds setting old old (work_of (env_view setting) here stmt)
empty_work setting old here stmt i = adds_by setting old old (ap (work_of (env_view setting) here) (sym i)) (sym (behind_none (view_in setting old)))

pub same_work : {A : Type 0} (setting : Setting) (old new : List Item) (r : Result A NoMemory) (here : Here) (stmt same : Statement) → stmt ≡ same → IfOk r (λ _. Adds setting old new (work_of (env_view setting) here same)) → IfOk r (λ _. Adds setting old new (work_of (env_view setting) here stmt))
same_work setting old new r here stmt same i a = ok_as setting old new r (ap (work_of (env_view setting) here) (sym i)) a

pub case_work : {A : Type 0} (setting : Setting) (old new : List Item) (r : Result A NoMemory) (here : Here) (stmt : Statement) (e : Expression) (bs : Branches) (ss : Statements) (otherwise : List Item) → stmt ≡ case_of e bs ss → view_in setting otherwise ≡ work_of_all (env_view setting) here ss → IfOk r (λ _. Adds setting old new ((make (env_view setting) here e).items & only (select here.temp (cases_of (env_view setting) here bs) (view_in setting otherwise)))) → IfOk r (λ _. Adds setting old new (work_of (env_view setting) here stmt))
case_work setting old new r here stmt e bs ss otherwise i o a =
    let env = env_view setting in
    ok_as setting old new r
    (ap (λ x. (make env here e).items & only (select here.temp (cases_of env here bs) x)) o
    ∙ ap (work_of env here) (sym i)) a

pub finally_work : {A : Type 0} (setting : Setting) (old new : List Item) (r : Result A NoMemory) (here inner : Here) (stmt : Statement) (ss ts : Statements) (body : List Item) → stmt ≡ try_finally ss ts → inner ≡ past 2 here → view_in setting body ≡ work_of_all (env_view setting) inner ss → IfOk r (λ _. Adds setting old new (only (protect here.temp (view_in setting body) (work_of_all (env_view setting) (past 2 here) ts)))) → IfOk r (λ _. Adds setting old new (work_of (env_view setting) here stmt))
finally_work setting old new r here inner stmt ss ts body i n b a =
    let env = env_view setting in
    ok_as setting old new r
    (ap (λ x. only (protect here.temp x (work_of_all env (past 2 here) ts))) (b ∙ ap (λ h. work_of_all env h ss) n)
    ∙ ap (work_of env here) (sym i)) a

pub on_work : {A : Type 0} (setting : Setting) (old new : List Item) (r : Result A NoMemory) (here : Here) (stmt : Statement) (ss : Statements) (hs : Handlers) (body : List Item) → stmt ≡ try_on ss hs → view_in setting body ≡ work_of_all (env_view setting) here ss → IfOk r (λ _. Adds setting old new (only (attempt (view_in setting body) (clauses_of (env_view setting) here hs no_clauses)))) → IfOk r (λ _. Adds setting old new (work_of (env_view setting) here stmt))
on_work setting old new r here stmt ss hs body i b a =
    let env = env_view setting in
    ok_as setting old new r
    (ap (λ x. only (attempt x (clauses_of env here hs no_clauses))) b
    ∙ ap (work_of env here) (sym i)) a

pub else_work : {A : Type 0} (setting : Setting) (old new : List Item) (r : Result A NoMemory) (here : Here) (stmt : Statement) (ss : Statements) (hs : Handlers) (ts : Statements) (body others : List Item) → stmt ≡ try_on_else ss hs ts → view_in setting body ≡ work_of_all (env_view setting) here ss → view_in setting others ≡ work_of_all (env_view setting) here ts → IfOk r (λ _. Adds setting old new (only (attempt (view_in setting body) (clauses_of (env_view setting) here hs (for_others (view_in setting others)))))) → IfOk r (λ _. Adds setting old new (work_of (env_view setting) here stmt))
else_work setting old new r here stmt ss hs ts body others i b o a =
    let env = env_view setting in
    ok_as setting old new r
    (ap (λ x. only (attempt x (clauses_of env here hs (for_others (view_in setting others))))) b
    ∙ ap (λ x. only (attempt (work_of_all env here ss) (clauses_of env here hs (for_others x)))) o
    ∙ ap (work_of env here) (sym i)) a

-- ---- loops that count

pub for_work : {A : Type 0} (setting : Setting) (old mid more new : List Item) (r : Result A NoMemory) (here at inner : Here) (v : VariableId) (e : Expression) (d : Direction) (f : Expression) (s : Statement) (body : List Item) → at ≡ past 1 here → inner ≡ past 3 here → view_in setting body ≡ work_of (env_view setting) inner s → Adds setting old mid (make (env_view setting) here e).items → Adds setting mid more (make (env_view setting) at f).items → IfOk r (λ _. Adds setting more new (for_items (env_view setting) here v d (view_in setting body))) → IfOk r (λ _. Adds setting old new (work_of (env_view setting) here (for_to v e d f s)))
for_work setting old mid more new r here at inner v e d f s body n m b x y z =
    let env = env_view setting in
    let first = (make env here e).items in
    let last = (make env at f).items in
    let rest = for_items env here v d (view_in setting body) in
    ok_as setting old new r
    (ap (λ h. first & (make env h f).items & rest) n
    ∙ ap (λ y. first & (make env (past 1 here) f).items & for_items env here v d y) b
    ∙ ap (λ h. first & (make env (past 1 here) f).items & for_items env here v d (work_of env h s)) m)
    (ok_both setting old mid new r first (last & rest) x (ok_both setting mid more new r last rest y z))

pub in_work : {A : Type 0} (setting : Setting) (old mid new : List Item) (r : Result A NoMemory) (here inner : Here) (v : VariableId) (into : Conversion) (e : Expression) (s : Statement) (of : TypeId) (body : List Item) → of ≡ type_of e → inner ≡ in_turn here → view_in setting body ≡ work_of (env_view setting) inner s → Adds setting old mid (make (env_view setting) here e).items → IfOk r (λ _. Adds setting mid new (in_collection (env_view setting) here of (type_at setting.core.now of) v into (view_in setting body))) → IfOk r (λ _. Adds setting old new (work_of (env_view setting) here (for_in v into e s)))
in_work setting old mid new r here inner v into e s of body t n b x y =
    let env = env_view setting in
    let core = setting.core.now in
    let first = (make env here e).items in
    let rest = in_collection env here of (type_at core of) v into (view_in setting body) in
    ok_as setting old new r
    (ap (λ z. first & in_collection env here z (type_at core z) v into (view_in setting body)) t
    ∙ ap (λ z. first & in_collection env here (type_of e) (type_at core (type_of e)) v into z) b
    ∙ ap (λ h. first & in_collection env here (type_of e) (type_at core (type_of e)) v into (work_of env h s)) n)
    (ok_both setting old mid new r first rest x y)

pub counted_turns : {A : Type 0} (setting : Setting) (old mid new : List Item) (r : Result A NoMemory) (here : Here) (v : VariableId) (d : Direction) (body : Items) (o : Operator) (t u : ℕ) (first otherwise : List Item) → o ≡ has_turn d → t ≡ here.temp → u ≡ t + 2 → view_in setting first ≡ bounded (env_view setting) t v d body → otherwise ≡ [] → Adds setting old mid (only (act (compare o (t + 2) t (t + 1)))) → IfOk r (λ _. Adds setting mid new (only (choose u (view_in setting first) (view_in setting otherwise)))) → IfOk r (λ _. Adds setting old new (for_items (env_view setting) here v d body))
counted_turns setting old mid new r here v d body o t u first otherwise p q s b e x y =
    let env = env_view setting in
    let test = only (act (compare o (t + 2) t (t + 1))) in
    let rest = only (choose u (view_in setting first) (view_in setting otherwise)) in
    ok_as setting old new r
    (ap (λ z. test & only (choose z (view_in setting first) (view_in setting otherwise))) s
    ∙ ap (λ z. test & only (choose (t + 2) z (view_in setting otherwise))) b
    ∙ ap (λ z. test & only (choose (t + 2) (bounded env t v d body) (view_in setting z))) e
    ∙ ap (λ z. only (act (compare z (t + 2) t (t + 1))) & only (choose (t + 2) (bounded env t v d body) none)) p
    ∙ ap (λ z. only (act (compare (has_turn d) (z + 2) z (z + 1))) & only (choose (z + 2) (bounded env z v d body) none)) q)
    (ok_both setting old mid new r test rest x y)

-- ---- routines

pub no_routine : (core : Core) (env : Env) (here : Here) (r : ℕ) → slice_get core.routines r ≡ None → none ≡ work_of_all env here ((program_of core 0).body r)
no_routine core env here r e = rw e refl

pub no_body : (core : Core) (env : Env) (here : Here) (r : ℕ) (row : Routine) → slice_get core.routines r ≡ Some row → row.body ≡ None → none ≡ work_of_all env here ((program_of core 0).body r)
no_body core env here r row e f = rw (e, f) refl

pub a_body : (core : Core) (r : ℕ) (row : Routine) (body : Body) → slice_get core.routines r ≡ Some row → row.body ≡ Some body → stmts_of body.statements.items ≡ (program_of core 0).body r
a_body core r row body e f = rw (e, f) refl
