-- The parts of a list in a tree, from a place on.
use Rattle.std.proofs.Common.{◌≡◌, ℕ, suc, ◌<◌, ◌+◌, ◌≤◌, List, [], ◌∷◌, length, drop, drop-cons, add-one, get_or, refl, sym, ap, ◌∙◌, map}
use Rattle.std.proofs.lemmas.List.{at_drop_all}
use Rattle.op_check_stmt.proofs.Parts.{in_front}
use Rattle.op_check_stmt.specs.Parts.{branch_of}
use Rattle.op_check_stmt.specs.Statement.{with_branch}
use Rattle.op_core.specs.Nodes.{branches_of as typed_branches_of}
use Rattle.op_core.specs.Statement.{item_of, no_statements, statements as typed_statements, no_branches as no_typed_branches, stmt_of as typed_statement, stmts_of as typed_statements_of}
use Rattle.op_core.specs.declared.statement.CoreBranch.{CoreBranch}
use Rattle.op_core.specs.declared.statement.CoreItem.{CoreItem}
use Rattle.op_core.specs.declared.statement.CoreStmt.{CoreStmt}
use Rattle.op_core.specs.declared.statement.Label.{Label}
use Rattle.op_tree.specs.Expression.{elements, element_of, arguments, argument_of}
use Rattle.op_tree.specs.Lists.{arguments_of, branches_of}
use Rattle.op_tree.specs.Statement.{branches, elements_of, statements, stmt_of, stmts_of}
use Rattle.op_tree.specs.declared.expression.Argument.{Argument}
use Rattle.op_tree.specs.declared.expression.Element.{Element}
use Rattle.op_tree.specs.declared.statement.Branch.{Branch}
use Rattle.op_tree.specs.declared.statement.Stmt.{Stmt}

-- ---- of the tree

cons : {T R : Type 0} (f : List T → R) (list : List T) (k : ℕ) (x : T) → k < length list → x ≡ get_or list k x → f (drop k list) ≡ f (x ∷ drop (k + 1) list)
cons f list k x h e = rw add-one (ap f (drop-cons list k x h) ∙ ap (λ y. f (y ∷ drop (suc k) list)) (sym e))

pub next_statement : (list : List Stmt) (k : ℕ) (x : Stmt) → k < length list → x ≡ get_or list k x → stmts_of (drop k list) ≡ statements (stmt_of x) (stmts_of (drop (k + 1) list))
next_statement list k x h e = cons stmts_of list k x h e

pub next_branch : (list : List Branch) (k : ℕ) (x : Branch) → k < length list → x ≡ get_or list k x → branches_of (drop k list) ≡ branches (elements_of x.labels.items) (stmt_of x.body) (branches_of (drop (k + 1) list))
next_branch list k x h e = cons branches_of list k x h e

pub next_element : (list : List Element) (k : ℕ) (x : Element) → k < length list → x ≡ get_or list k x → elements_of (drop k list) ≡ elements (element_of x) (elements_of (drop (k + 1) list))
next_element list k x h e = cons elements_of list k x h e

pub next_argument : (list : List Argument) (k : ℕ) (x : Argument) → k < length list → x ≡ get_or list k x → arguments_of (drop k list) ≡ arguments (argument_of x) (arguments_of (drop (k + 1) list))
next_argument list k x h e = cons arguments_of list k x h e

-- nothing is left
pub none_left : {T R : Type 0} (f : List T → R) (list : List T) (k : ℕ) → length list ≤ k → f (drop k list) ≡ f []
none_left f list k h = at_drop_all f list k h

-- ---- of typed parts

pub all_statements : (xs : List CoreStmt) → in_front typed_statement typed_statements xs no_statements ≡ typed_statements_of xs
all_statements [] = refl
all_statements (x ∷ xs) = ap (typed_statements (typed_statement x)) (all_statements xs)

pub all_branches : (xs : List CoreBranch) → in_front branch_of with_branch xs no_typed_branches ≡ typed_branches_of xs
all_branches [] = refl
all_branches (x ∷ xs) = ap (with_branch (branch_of x)) (all_branches xs)

pub all_items : (xs : List CoreItem) → in_front item_of (λ y ys. y ∷ ys) xs [] ≡ map item_of xs
all_items [] = refl
all_items (x ∷ xs) = ap (λ ys. item_of x ∷ ys) (all_items xs)

pub all_labels : (xs : List Label) → in_front (λ x. x) (λ y ys. y ∷ ys) xs [] ≡ xs
all_labels [] = refl
all_labels (x ∷ xs) = ap (λ ys. x ∷ ys) (all_labels xs)
