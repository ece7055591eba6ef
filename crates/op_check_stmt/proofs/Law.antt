-- What is checked of statements is what the judgements say.
use Rattle.std.proofs.Common.{Result, Ok, Err, IfErr}
use Rattle.op_core.proofs.Agreeing.{first_broken, none_broken}
use Rattle.op_core.specs.Statement.{Statement, stmt_of as typed_said}
use Rattle.op_core.specs.declared.error.CheckError.{CheckError}
use Rattle.op_core.specs.declared.error.CheckError.TheVariants.{Refused, NoMemory}
use Rattle.op_core.specs.declared.statement.CoreStmt.{CoreStmt}
use Rattle.op_judgement.proofs.Judging.{agrees}
use Rattle.op_judgement.proofs.Told.{all_told, told_in}
use Rattle.op_judgement.specs.Judgement.{Breaks, Judgement, RefusalHasText, checked}
use Rattle.op_check_stmt.specs.Statement.{StmtIs, StmtMeans}

pub stmt_law : (j : Judgement Statement) (r : Result CoreStmt CheckError) → StmtIs j r → StmtMeans j r
stmt_law j (Ok typed) h = let law = agrees j in ((law.0 (typed_said typed)).0 h.0, none_broken (checked j).faults (Breaks j) law.1 h.1)
stmt_law j (Err (Refused r)) h = first_broken (checked j).faults (Breaks j) r (agrees j).1 h
stmt_law j (Err NoMemory) h = tt

-- what one is refused by has a text
pub stmt_told : (j : Judgement Statement) (r : Result CoreStmt CheckError) → StmtIs j r → IfErr r RefusalHasText
stmt_told j (Ok typed) h = tt
stmt_told j (Err (Refused r)) h = told_in (checked j).faults (all_told j) r h.is_in
stmt_told j (Err NoMemory) h = tt
