use Rattle.std.proofs.Common.{◌≡◌, Option, None, Some, Result, Err, sym, ap, subst, ◌∙◌}
use Rattle.std.specs.Option.{option_map}
use Rattle.op_base.specs.declared.rule.Refusal.{Refusal}
use Rattle.op_check_expr.specs.Scopes.{here_of}
use Rattle.op_judgement.specs.Judgement.{Judgement, Reports, checked}
use Rattle.op_check_stmt.proofs.Law.{stmt_law, stmt_told}
use Rattle.op_check_stmt.specs.Statement.{StmtIs, statement}
use Rattle.op_core.proofs.First.{first_is}
use Rattle.op_core.specs.Faults.{FirstIs, kept, or_typed}
use Rattle.op_core.specs.Statement.{Statement, stmt_of as typed_statement}
use Rattle.op_core.specs.declared.error.CheckError.{CheckError}
use Rattle.op_core.specs.declared.error.CheckError.TheVariants.{Refused}
use Rattle.op_core.specs.declared.statement.CoreStmt.{CoreStmt}
use Rattle.op_tree.specs.Statement.{stmt_of}
use Rattle.op_check_stmt.proofs.walk.stmt.Goals as goal

by_first : (x : Judgement Statement) (typed : CoreStmt) (r : Result CoreStmt CheckError) (first : Option Refusal) → FirstIs (checked x).faults first → r ≡ or_typed first typed → (checked x).typed ≡ Some (typed_statement typed) → StmtIs x r
by_first x typed r None h e f = subst (StmtIs x) (sym e) (f, h)
by_first x typed r (Some q) h e f = subst (StmtIs x) (sym e) h

pub returns-in-Some : goal.returns-in-Some
returns-in-Some c =
    let x = statement (here_of c.args.scope.now) (stmt_of c.args.s.now) in
    let h = subst (λ q. Reports x c.new-sink.result c.statement.new.sink (option_map typed_statement q)) c.in-Some.is c.in_ok-statement.ensures in
    let k : c.statement.new.sink.kept ≡ kept None (checked x).faults = h.1 ∙ ap (λ k. kept k (checked x).faults) c.new-sink.ensures in
    let is = by_first x c.in-Some.typed c.or_typed.result (kept None (checked x).faults) (first_is (checked x).faults) (c.or_typed.ensures ∙ ap (λ k. or_typed k c.in-Some.typed) k) (sym h.0) in
    record { exact = is; law = stmt_law x c.or_typed.result is; told = stmt_told x c.or_typed.result is }

pub returns-in-Some-kept : goal.returns-in-Some-kept
returns-in-Some-kept c =
    let x = statement (here_of c.args.scope.now) (stmt_of c.args.s.now) in
    let h = c.in_ok-statement.ensures in
    let k : c.statement.new.sink.kept ≡ kept None (checked x).faults = h.1 ∙ ap (λ k. kept k (checked x).faults) c.new-sink.ensures in
    let is = subst (FirstIs (checked x).faults) (sym k ∙ c.in-Some-kept.is) (first_is (checked x).faults) in
    record { exact = is; law = stmt_law x (Err (Refused c.in-Some-kept.refusal)) is; told = stmt_told x (Err (Refused c.in-Some-kept.refusal)) is }
