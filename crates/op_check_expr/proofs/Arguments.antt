-- Lists of arguments.
use Rattle.std.proofs.Common.{◌≡◌, suc, ◌&&◌, List, [], ◌∷◌, ◌++◌, length, refl, ap}
use Rattle.std.specs.List.{list_all}
use Rattle.op_core.specs.Expression.{arguments, argument_of as given_said}
use Rattle.op_core.specs.Nodes as core
use Rattle.op_core.specs.declared.expression.CoreArgument.{CoreArgument}
use Rattle.op_tree.specs.Expression.{argument_of}
use Rattle.op_tree.specs.Lists.{arguments_of}
use Rattle.op_tree.specs.declared.expression.Argument.{Argument}
use Rattle.op_check_expr.specs.Calling.{are_plain, behind, count_of, is_plain}

pub counted : (list : List Argument) → count_of (arguments_of list) ≡ length list
counted [] = refl
counted (a ∷ others) = ap suc (counted others)

pub all_plain : (list : List Argument) → are_plain (arguments_of list) ≡ list_all (λ a. is_plain (argument_of a)) list
all_plain [] = refl
all_plain (a ∷ others) = ap (λ b. is_plain (argument_of a) && b) (all_plain others)

pub one_more : (xs : List CoreArgument) (x : CoreArgument) → behind (core.arguments_of xs) (given_said x) ≡ core.arguments_of (xs ++ x ∷ [])
one_more [] x = refl
one_more (y ∷ ys) x = ap (arguments (given_said y)) (one_more ys x)
