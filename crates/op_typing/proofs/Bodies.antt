-- The items of all statements are typed.
use Rattle.std.proofs.Common.{◌≡◌, ℕ, true, false, List, Some, slice_get, refl, sym, subst, ◌∙◌, arith}
use Rattle.std.specs.List.{All}
use Rattle.op_core.specs.Expression.{Expression}
use Rattle.op_core.specs.Sizes.{range_of, type_at}
use Rattle.op_core.specs.Sound.{IsSound, within}
use Rattle.op_core.specs.Statement.{Statement, empty, block, if_then, if_else, case_of, while_do, repeat_until, for_to, for_in, try_finally, try_on, try_on_else, raise, reraise, call, assign, exit, exit_with, break, continue, halt as halt_with, built_in, Statements, no_statements, statements, Branches, no_branches, branches}
use Rattle.op_core.specs.StatementTyping.{AreBranches, AreStatements, Bounds, GivesElements, Here as Around, IsLabel, IsStatement, in_finally, in_loop}
use Rattle.op_core.specs.Typing.{Converts, IsTyped, IsValue, Within, type_of}
use Rattle.op_core.specs.declared.ids.TypeId.{TypeId}
use Rattle.op_core.specs.declared.program.Core.{Core}
use Rattle.op_core.specs.declared.routine.Routine.{Routine}
use Rattle.op_core.specs.declared.statement.Label.{Label}
use Rattle.op_meaning.specs.Every.{EveryWork, branches_works}
use Rattle.op_meaning.specs.Expressions.{Here, found, at_path, find, make, past, past_whole, path_of}
use Rattle.op_meaning.specs.Items.{none, ◌&◌, only, choose, select, halt, throw, leave}
use Rattle.op_meaning.specs.Shapes.{shape_of}
use Rattle.op_meaning.specs.Statements.{assigned, cases_of, for_items, in_collection, in_turn, result_path, stored_by, work_of, work_of_all}
use Rattle.op_typing.proofs.Actions.{both}
use Rattle.op_typing.proofs.Expressions.{find_typed, make_typed, value_typed}
use Rattle.op_typing.proofs.Founds.{FoundIs, env_at, path_typed}
use Rattle.op_typing.proofs.Loops.{bounds_single, collection_typed, for_typed}
use Rattle.op_typing.proofs.Rows.{all_then, each_row, if_some, some_and, some_then}
use Rattle.op_typing.proofs.Statements.{built_in_typed}
use Rattle.op_typing.proofs.Storing.{place_state, result_typed, stored_typed}
use Rattle.op_typing.proofs.Types.{IsWord, one_back_solid, value_word}
use Rattle.op_typing.specs.Simple.{AreSimpleStatements, IsSimple, IsSimpleProgram, IsSimpleRoutine, IsSimpleStatement, IsSolidType, simple_asks}
use Rattle.op_typing.specs.Typed.{AreTyped, AreTypedCases, AreWords, PathTo}

module _ (core : Core) (sound : IsSound core) (simple : IsSimpleProgram core) (r : ℕ) (x : Routine) (is_there : slice_get core.routines r ≡ Some x) where
  made : (e : Expression) (here : Here) → IsTyped core (within core r) e → IsSimple core e → AreTyped core r (make (env_at core r) here e).items
  made e here h s = (make_typed core sound simple r x is_there e here h s).0

  assign_typed : (target e : Expression) (here : Here) → IsTyped core (within core r) target → FoundIs core r false (type_of target) (find (env_at core r) (past 1 (past_whole here)) target) → IsValue core (within core r) (type_of target) e → IsSimple core e → AreTyped core r (assigned (env_at core r) here target e)
  assign_typed target e here h f v s =
      let typed = value_typed core (within core r) (type_of target) e v in
      let same = one_back_solid core (type_of e) (type_of target) typed.1 f.1.0 in
      let now = (find (env_at core r) (past 1 (past_whole here)) target).now in
      let path = subst (λ of. PathTo core r (path_of of here now) (type_of target)) (sym same) (path_typed core sound simple r (type_of target) here now f.1.0 f.1.1) in
      stored_typed core r (type_of e) (type_of target) here (make (env_at core r) here e) (find (env_at core r) (past 1 (past_whole here)) target) (made e here typed.0 s) f.0 path (λ whole. same)

  exit_typed : (e : Expression) (here : Here) (of : TypeId) → x.result ≡ Some of → IsValue core (within core r) of e → IsSimple core e → AreTyped core r (stored_by (shape_of core (type_of e)) (type_of e) here (make (env_at core r) here e) (found none (at_path (result_path (env_at core r)))))
  exit_typed e here of is_result v s =
      let plain = each_row (IsSimpleRoutine core) core.routines r x simple.routines is_there in
      let solid = if_some x.result (IsSolidType core) of plain.result is_result in
      let typed = value_typed core (within core r) of e v in
      let same = one_back_solid core (type_of e) of typed.1 solid in
      let path = subst (PathTo core r (result_path (env_at core r))) (sym same) (result_typed core sound simple r x is_there of is_result solid) in
      stored_typed core r (type_of e) (type_of e) here (make (env_at core r) here e) (found none (at_path (result_path (env_at core r)))) (made e here typed.0 s) tt path (λ whole. refl)

  words_typed : (of : TypeId) (labels : List Label) → All (IsLabel core of) labels → AreWords labels
  words_typed of labels h = all_then (IsLabel core of) (λ l. IsWord l.first × IsWord l.last) labels h (λ l is_label. (
    value_word core sound of l.first (some_then (range_of (type_at core of)) (λ range. Within range l.first × Within range l.last) (λ range. Within range l.first) is_label.0 (λ range both. both.0)),
    value_word core sound of l.last (some_then (range_of (type_at core of)) (λ range. Within range l.first × Within range l.last) (λ range. Within range l.last) is_label.0 (λ range both. both.1)),
  ))

  mutual
    pub statement_typed : (s : Statement) (around : Around) (here : Here) → around.result ≡ x.result → IsStatement core (within core r) around s → IsSimpleStatement core s → AreTyped core r (work_of (env_at core r) here s)
    statement_typed empty around here same h p = tt
    statement_typed (block ss) around here same h p = statements_typed ss around here same h p
    statement_typed (if_then e s) around here same h p =
        both core r (make (env_at core r) here e).items (only (choose here.temp (work_of (env_at core r) here s) none)) (made e here h.0.0 p.0) ((statement_typed s around here same h.1 p.1, tt), tt)
    statement_typed (if_else e s t) around here same h p =
        both core r (make (env_at core r) here e).items (only (choose here.temp (work_of (env_at core r) here s) (work_of (env_at core r) here t))) (made e here h.0.0 p.0)
        ((statement_typed s around here same h.1 p.1, statement_typed t around here same h.2 p.2), tt)
    statement_typed (case_of e bs ss) around here same h p =
        both core r (make (env_at core r) here e).items (only (select here.temp (cases_of (env_at core r) here bs) (work_of_all (env_at core r) here ss))) (made e here h.0.0 p.0)
        ((branches_typed bs around here (type_of e) same h.1 p.1, statements_typed ss around here same h.2 p.2), tt)
    statement_typed (while_do e s) around here same h p = ((made e here h.0.0 p.0, tt, statement_typed s (in_loop around) here same h.1 p.1), tt)
    statement_typed (repeat_until ss e) around here same h p = ((made e here h.1.0 p.0, tt, statements_typed ss (in_loop around) here same h.0 p.1), tt)
    statement_typed (for_to id e direction f s) around here same h p =
        let (v, is_row, bounds) = some_and (slice_get core.variables id.0) (λ v. Bounds core v.of (type_at core v.of) (type_of e)) h.0.1 in
        let (kind, is_single) = bounds_single core v.of (type_of e) bounds in
        let last = value_typed core (within core r) (type_of e) f h.2 in
        let body = statement_typed s (in_loop around) (past 3 here) same h.3 p.2 in
        let turns = for_items (env_at core r) here id direction (work_of (env_at core r) (past 3 here) s) in
        both core r (make (env_at core r) here e).items ((make (env_at core r) (past 1 here) f).items & turns) (made e here h.1 p.0)
        (both core r (make (env_at core r) (past 1 here) f).items turns (made f (past 1 here) last.0 p.1)
        (for_typed core sound simple r x is_there here id v kind direction (work_of (env_at core r) (past 3 here) s) h.0.0 is_row is_single body))
    statement_typed (for_in id into e s) around here same h p =
        let (v, is_row, gives) = some_and (slice_get core.variables id.0) (λ v. (element : TypeId) × (GivesElements core (type_of e) element × Converts core into element v.of)) h.1.1 in
        let body = statement_typed s (in_loop around) (in_turn here) same h.2 p.1 in
        both core r (make (env_at core r) here e).items (in_collection (env_at core r) here (type_of e) (type_at core (type_of e)) id into (work_of (env_at core r) (in_turn here) s)) (made e here h.0 p.0)
        (collection_typed core sound simple r x is_there here (type_of e) gives.0 id v into (work_of (env_at core r) (in_turn here) s) gives.1.0 h.1.0 is_row gives.1.1 body)
    statement_typed (try_finally ss ts) around here same h p =
        ((statements_typed ss around (past 2 here) same h.0 p.0, statements_typed ts (in_finally around) (past 2 here) same h.1 p.1), tt)
    statement_typed (try_on ss hs) around here same h p = (tt, tt)
    statement_typed (try_on_else ss hs ts) around here same h p = (tt, tt)
    statement_typed (raise e) around here same h p =
        let f = find (env_at core r) here e in
        both core r f.items (only (throw (path_of (type_of e) here f.now))) (find_typed core sound simple r x is_there e here h.0 p).0 (tt, tt)
    statement_typed reraise around here same h p = (tt, tt)
    statement_typed (call e) around here same h p = (find_typed core sound simple r x is_there e here h p).0
    statement_typed (assign target e) around here same h p =
        let f = find_typed core sound simple r x is_there target (past 1 (past_whole here)) h.0 p.0 in
        assign_typed target e here h.0 (place_state true core r target (find (env_at core r) (past 1 (past_whole here)) target) h.1 f) h.2 p.1
    statement_typed exit around here same h p = (omega arith, tt)
    statement_typed (exit_with e) around here same h p =
        let (of, is_result, v) = some_and around.result (λ of. IsValue core (within core r) of e) h.1 in
        both core r (stored_by (shape_of core (type_of e)) (type_of e) here (make (env_at core r) here e) (found none (at_path (result_path (env_at core r))))) (only (leave 0))
        (exit_typed e here of (sym same ∙ is_result) v p) (omega arith, tt)
    statement_typed break around here same h p = (omega arith, tt)
    statement_typed continue around here same h p = (omega arith, tt)
    statement_typed (halt_with e) around here same h p = both core r (make (env_at core r) here e).items (only (halt here.temp)) (made e here h.0 p) (tt, tt)
    statement_typed (built_in b) around here same h p = built_in_typed core sound simple r x is_there b here h p

    pub statements_typed : (ss : Statements) (around : Around) (here : Here) → around.result ≡ x.result → AreStatements core (within core r) around ss → AreSimpleStatements core ss → AreTyped core r (work_of_all (env_at core r) here ss)
    statements_typed no_statements around here same h p = tt
    statements_typed (statements s ss) around here same h p =
        both core r (work_of (env_at core r) here s) (work_of_all (env_at core r) here ss) (statement_typed s around here same h.0 p.0) (statements_typed ss around here same h.1 p.1)

    branches_typed : (bs : Branches) (around : Around) (here : Here) (of : TypeId) → around.result ≡ x.result → AreBranches core (within core r) around of bs → EveryWork (simple_asks core) (branches_works bs) → AreTypedCases core r (cases_of (env_at core r) here bs)
    branches_typed no_branches around here of same h p = tt
    branches_typed (branches labels s bs) around here of same h p = (words_typed of labels h.0, statement_typed s around here same h.1 p.1, branches_typed bs around here of same h.2 p.2)
