use Rattle.std.proofs.Common.{◌≡◌, Option, IfOk, subst, sym}
use Rattle.std.specs.Prelude.{option_copied}
use Rattle.op_calls.proofs.Places.{place_stands}
use Rattle.op_calls.specs.Passing.{passed_view}
use Rattle.op_core.specs.declared.routine.Variable.{Variable}
use Rattle.op_semantics.specs.Expressions.{OnePassed, array_passed}
use Rattle.op_values.specs.Adding.{found_view}
use Rattle.op_values.specs.Setting.{here_view}
use Rattle.op_calls.proofs.passing.array_passed.Goals as goal

pub returns-in-None : goal.returns-in-None
returns-in-None c =
    let q : Option Variable → OnePassed = λ v. array_passed c.args.setting.core.now (here_view c.args.here) v c.args.of (found_view c.args.found) in
    place_stands c.args.setting c.args.items.now.items c.place_passed.result (q (option_copied c.args.parameter)) (subst (λ v. IfOk c.place_passed.result (λ p. passed_view p ≡ q (option_copied v))) (sym c.in-None.is) c.place_passed.ensures)
