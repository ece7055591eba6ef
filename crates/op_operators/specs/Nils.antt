-- What is nil, and behind what nil is still nil.
use Rattle.std.specs.Prelude.{Bool, true, false}
use Rattle.op_core.specs.Expression.{Root, constant, Action, convert, bracket}
use Rattle.op_core.specs.declared.constant.Const.{Const}
use Rattle.op_core.specs.declared.constant.Const.TheVariants.{Nil}

abbrev pub is_nil_constant : Const → Bool
is_nil_constant Nil = true
is_nil_constant _ = false

abbrev pub begins_nil : Root → Bool
begins_nil (constant c nodes words) = is_nil_constant c
begins_nil _ = false

abbrev pub stays : Action → Bool
stays (convert c origin) = true
stays bracket = true
stays _ = false
