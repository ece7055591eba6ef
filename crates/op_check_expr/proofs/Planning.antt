-- What is done with the one argument of a function.
use Rattle.std.proofs.Common.{◌≡◌, refl}
use Rattle.op_core.specs.declared.operation.Function.{Function}
use Rattle.op_core.specs.declared.operation.Function.TheVariants.{Low, High}
use Rattle.op_tree.specs.Expression.{Arguments}
use Rattle.op_tree.specs.declared.position.Position.{Position}
use Rattle.op_check_expr.specs.Calling.{function_plan, sole_plan}
use Rattle.op_check_expr.specs.Scopes.{Here}
use Rattle.op_types.specs.ConstantParts.{only_value}
use Rattle.op_types.specs.declared.constant.Applied.TheVariants.{Function as Function'}

-- no other function than Low and High takes a type
pub takes_value : (here : Here) (p : Position) (f : Function) (args : Arguments) → (f ≡ Low → ⊥) → (f ≡ High → ⊥) → sole_plan p (Function' f) (only_value args) ≡ function_plan here p f args
takes_value here p Low args h k = absurd (h refl)
takes_value here p High args h k = absurd (k refl)
takes_value here p f args h k = refl
