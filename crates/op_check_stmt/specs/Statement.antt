-- What statements mean: a typed statement, or the rules that they break (Free Pascal Reference Guide, "Statements").
use Rattle.std.specs.Prelude.{◌≡◌, Result, Ok, Err, Bool, false, List, [], ◌∷◌, ◌++◌, Option, Some, None}
use Rattle.std.specs.Option.{option_map}
use Rattle.op_base.specs.declared.place.Place.{Place}
use Rattle.op_check_expr.specs.Phrases as phrase
use Rattle.op_check_expr.specs.Phrases.{target}
use Rattle.op_check_expr.specs.Scopes.{Here}
use Rattle.op_check_expr.specs.Values.{Value, as_type, tree_of, type_of}
use Rattle.op_check_expr.specs.declared.scope.Around.{Around}
use Rattle.op_check_expr.specs.declared.scope.Around.TheVariants.{Loop, Finally}
use Rattle.op_core.specs.Expression.{Expression as Tree}
use Rattle.op_core.specs.Faults.{FirstIs}
use Rattle.op_core.specs.Relations.{IsFirstOf, NoneBroken}
use Rattle.op_core.specs.Statement.{Statement, empty, block, if_then, if_else, case_of, while_do, repeat_until, for_to, try_finally, assign, Statements, no_statements, statements as core_statements, Branches, no_branches, branches as core_branches, stmt_of as typed_said}
use Rattle.op_core.specs.Typing as typing
use Rattle.op_core.specs.declared.error.CheckError.{CheckError}
use Rattle.op_core.specs.declared.error.CheckError.TheVariants.{Refused, NoMemory}
use Rattle.op_core.specs.declared.ids.TypeId.{TypeId}
use Rattle.op_core.specs.declared.ids.VariableId.{VariableId}
use Rattle.op_core.specs.declared.program.Core.{Core}
use Rattle.op_core.specs.declared.statement.CoreStmt.{CoreStmt}
use Rattle.op_core.specs.declared.statement.Label.{Label}
use Rattle.op_tree.specs.Expression.{Expression, Designator}
use Rattle.op_tree.specs.Statement as tree
use Rattle.op_tree.specs.declared.position.Position.{Position}
use Rattle.op_tree.specs.declared.statement.Direction.{Direction}
use Rattle.op_types.specs.Assignable.{assignable}
use Rattle.op_types.specs.ConstantParts.{start_of}
use Rattle.op_types.specs.Operators as table
use Rattle.op_judgement.specs.Judgement.{Breaks, Judgement, Means, by_test, changed, checked, fine, followed, given, of_two, refused, through}
use Rattle.op_judgement.specs.declared.rules.Feature.TheVariants.{Classes, DynamicArrays, Exceptions}
use Rattle.op_judgement.specs.declared.rules.LanguageRule.TheVariants.{NotBoolean, NotInProfile}
use Rattle.op_check_stmt.specs.Case.{branch_labels, distinct, selector, spots}
use Rattle.op_check_stmt.specs.Procedure.{call_means}
use Rattle.op_check_stmt.specs.Unplaced.{place_of_body}
use Rattle.op_check_stmt.specs.Variable.{counter}
use Rattle.op_check_stmt.specs.declared.case.Spot.{Spot}
use Rattle.op_check_stmt.specs.declared.variable.Counter.{Counter}

-- ---- what stands round a part

abbrev pub within : Here → Around → Here
within here part = record here { around = here.around ++ part ∷ [] }

-- the body of a loop, of a `for` with its variable, which cannot be written there
abbrev pub looped : Here → Option VariableId → Here
looped here counter = within here (Loop counter)

-- ---- parts together

abbrev pub paired : {A B : Type 0} → Judgement A → Judgement B → Judgement (A × B)
paired a b = of_two (λ a b. (a, b)) a b

abbrev pub of_three : {A B C D : Type 0} → (A → B → C → D) → Judgement A → Judgement B → Judgement C → Judgement D
of_three f a b c = of_two (λ p c. f p.0 p.1 c) (paired a b) c

-- ---- expressions in statements

abbrev pub condition_means : Core → Place → Value → Judgement Tree
condition_means core place v = by_test NotBoolean place (fine (as_type core false table.boolean v)) (assignable core (type_of v) table.boolean)

abbrev pub condition : Here → Expression → Judgement Tree
condition here e = through (phrase.value here None e) (condition_means here.core (start_of e))

-- a value that is stored in what has this type, where there is one; the test is whether ranges are checked
abbrev pub stored : Here → Option TypeId → Bool → Expression → Judgement Tree
stored here None ranges e = changed tree_of (phrase.value here None e)
stored here (Some of) ranges e = phrase.given here of ranges e

-- ---- statements

-- with what switches at the `:=`
abbrev pub assign_means : Here → Designator → Position → Expression → Judgement Statement
assign_means here d p e = of_two assign (target here d) (given (target here d) (λ place. stored here (option_map typing.type_of place) p.switches.r e))

abbrev pub bound_of : Here → Option Counter → Expression → Judgement Tree
bound_of here c e = stored here (option_map (λ c. c.bounds) c) false e

abbrev pub counted : Here → Option Counter → Here
counted here c = looped here (option_map (λ c. c.variable) c)

-- where the first handler's class stands
abbrev pub first_class : tree.Handlers → Option Place
first_class tree.no_handlers = None
first_class (tree.handlers v class s hs) = Some class.name.position.place

-- The tree has no place for the word `except`: what stands behind it is refused at the first handler's class, where there is one.
abbrev pub place_of_handlers : Here → Option Place → Place
place_of_handlers here None = place_of_body here
place_of_handlers here (Some place) = place

-- what stands behind a body that may raise exceptions: the feature at a place
abbrev pub excepted : Place → Judgement Statements → Judgement Statement
excepted place body = followed body (λ ss. refused (NotInProfile Exceptions) place)

-- a whole, unless handlers stand behind its body
abbrev pub tried : Option Place → Judgement Statements → Judgement Statement → Judgement Statement
tried None body whole = whole
tried (Some place) body whole = excepted place body

-- the labels of all branches that have values, in the order of the text
abbrev pub all_spots : Here → Option TypeId → tree.Branches → List Spot
all_spots here of tree.no_branches = []
all_spots here of (tree.branches es s bs) = spots here of es ++ all_spots here of bs

abbrev pub case_statement : Tree × Branches → Statements → Statement
case_statement head otherwise = case_of head.0 head.1 otherwise

abbrev pub for_statement : Direction → Counter → Tree × Tree → Statement → Statement
for_statement direction c bounds body = for_to c.variable bounds.0 direction bounds.1 body

abbrev pub with_branch : List Label × Statement → Branches → Branches
with_branch b others = core_branches b.0 b.1 others

abbrev pub type_in : Option Tree → Option TypeId
type_in e = option_map typing.type_of e

-- a selector with its branches, of which no two have a label in common
abbrev pub case_head : Here → Expression → tree.Branches → (Option TypeId → Judgement Branches) → Judgement (Tree × Branches)
case_head here e bs branches =
    followed (paired (selector here e) (given (selector here e) (λ s. branches (type_in s))))
    (λ head. given (selector here e) (λ s. distinct head (all_spots here (type_in s) bs)))

-- What the words `in`, `raise`, `inherited` and `except` begin is not in this profile.
abbrev mutual
  pub statement : Here → tree.Statement → Judgement Statement
  statement here tree.empty = fine empty
  statement here (tree.block ss) = changed block (statements here ss)
  statement here (tree.if_then e s) = of_two if_then (condition here e) (statement here s)
  statement here (tree.if_else e s t) = of_three if_else (condition here e) (statement here s) (statement here t)
  statement here (tree.case_of e bs) = of_two case_statement (case_head here e bs (λ of. branches here of bs)) (fine no_statements)
  statement here (tree.case_else e bs ss) = of_two case_statement (case_head here e bs (λ of. branches here of bs)) (statements here ss)
  statement here (tree.while_do e s) = of_two while_do (condition here e) (statement (looped here None) s)
  statement here (tree.repeat_until ss e) = of_two repeat_until (statements (looped here None) ss) (condition here e)
  statement here (tree.for_to n e direction f s) =
      of_three (for_statement direction) (counter here n)
      (given (counter here n) (λ c. paired (bound_of here c e) (bound_of here c f)))
      (given (counter here n) (λ c. statement (counted here c) s))
  statement here (tree.for_in n e s) = refused (NotInProfile DynamicArrays) n.position.place
  statement here (tree.try_finally ss ts) = of_two try_finally (statements here ss) (statements (within here Finally) ts)
  statement here (tree.try_except ss ts) = excepted (place_of_body here) (statements here ss)
  statement here (tree.try_on ss hs) = tried (first_class hs) (statements here ss) (changed block (statements here ss))
  statement here (tree.try_on_else ss hs ts) = excepted (place_of_handlers here (first_class hs)) (statements here ss)
  statement here (tree.raise p e) = refused (NotInProfile Exceptions) p.place
  statement here (tree.reraise p) = refused (NotInProfile Exceptions) p.place
  statement here (tree.inherited p) = refused (NotInProfile Classes) p.place
  statement here (tree.inherited_call p d) = refused (NotInProfile Classes) p.place
  statement here (tree.call d) = call_means here d
  statement here (tree.assign d p e) = assign_means here d p e

  pub branches : Here → Option TypeId → tree.Branches → Judgement Branches
  branches here of tree.no_branches = fine no_branches
  branches here of (tree.branches es s bs) = of_two with_branch (paired (branch_labels here of es) (statement here s)) (branches here of bs)

  pub statements : Here → tree.Statements → Judgement Statements
  statements here tree.no_statements = fine no_statements
  statements here (tree.statements s ss) = of_two core_statements (statement here s) (statements here ss)

-- ---- the call

-- the typed statement, where no rule is broken; else the first one
abbrev pub StmtIs : Judgement Statement → Result CoreStmt CheckError → Type 0
StmtIs j (Ok s) = ((checked j).typed ≡ Some (typed_said s)) × FirstIs (checked j).faults None
StmtIs j (Err (Refused r)) = FirstIs (checked j).faults (Some r)
StmtIs j (Err NoMemory) = Unit {0}

-- the same, in the words of relations: what is meant, and which rules are broken
abbrev pub StmtMeans : Judgement Statement → Result CoreStmt CheckError → Type 0
StmtMeans j (Ok s) = Means j (typed_said s) × NoneBroken (Breaks j)
StmtMeans j (Err (Refused r)) = IsFirstOf (Breaks j) r
StmtMeans j (Err NoMemory) = Unit {0}
