-- Typed parts that are made of parts, and lists of such.
use Rattle.std.specs.Prelude.{List, [], ◌∷◌, ◌++◌, Box, Option, Vec}
use Rattle.std.specs.Option.{option_map}
use Rattle.std.specs.declared.alloc.Global.{Global}
use Rattle.op_core.specs.Expression.{Expression, expr_of}
use Rattle.op_core.specs.Nodes.{branches_of}
use Rattle.op_core.specs.Statement.{Statement, Statements, Branches, stmt_of, stmts_of}
use Rattle.op_core.specs.declared.expression.CoreExpr.{CoreExpr}
use Rattle.op_core.specs.declared.statement.CoreBranch.{CoreBranch}
use Rattle.op_core.specs.declared.statement.CoreStmt.{CoreStmt}
use Rattle.op_core.specs.declared.statement.Label.{Label}
use Rattle.op_judgement.specs.Judgement.{both_typed}

abbrev pub items_of : {A : Type 0} → Option (Vec A Global) → Option (List A)
items_of list = option_map (λ v. v.items) list

abbrev pub with_last : {A : Type 0} → Option (List A) → Option A → Option (List A)
with_last list part = both_typed (λ xs x. xs ++ x ∷ []) list part

abbrev pub statements_in : Option (Vec CoreStmt Global) → Option Statements
statements_in list = option_map (λ v. stmts_of v.items) list

abbrev pub branches_in : Option (Vec CoreBranch Global) → Option Branches
branches_in list = option_map (λ v. branches_of v.items) list

-- ---- parts

abbrev pub three_typed : {A B C D : Type 0} → (A → B → C → D) → Option A → Option B → Option C → Option D
three_typed {A} {B} f a b c = both_typed (λ (p : A × B) c. f p.0 p.1 c) (both_typed (λ a b. (a, b)) a b) c

abbrev pub boxed_of : Box CoreStmt Global → Statement
boxed_of s = stmt_of s.value

abbrev pub front_of : CoreExpr × Box CoreStmt Global → Expression × Statement
front_of front = (expr_of front.0, boxed_of front.1)

abbrev pub bounds_of : CoreExpr × CoreExpr → Expression × Expression
bounds_of pair = (expr_of pair.0, expr_of pair.1)

abbrev pub head_of : CoreExpr × Vec CoreBranch Global → Expression × Branches
head_of head = (expr_of head.0, branches_of head.1.items)

abbrev pub branch_of : CoreBranch → List Label × Statement
branch_of b = (b.labels, stmt_of b.body)
