use Rattle.std.proofs.Common.{◌≡◌, Bool, true, false, Option, None, Some, Result, Ok, Err, IfErr, refl, sym, ap, subst, ◌∙◌}
use Rattle.std.specs.Option.{option_map}
use Rattle.op_base.specs.declared.rule.Refusal.{Refusal}
use Rattle.op_core.proofs.First.{first_is}
use Rattle.op_core.specs.Faults.{FirstIs, kept, or_typed}
use Rattle.op_core.specs.declared.constant.Const.{Const}
use Rattle.op_core.specs.declared.error.CheckError.{CheckError}
use Rattle.op_core.specs.declared.error.CheckError.TheVariants.{Refused, NoMemory}
use Rattle.op_core.specs.declared.first_refusal.FirstRefusal.{FirstRefusal}
use Rattle.op_judgement.proofs.Told.{all_told, told_in}
use Rattle.op_judgement.specs.Judgement.{RefusalHasText, Judgement, Reports, checked}
use Rattle.op_tree.specs.Expression.{expr_of}
use Rattle.op_types.proofs.ConstantLaw.{folds}
use Rattle.op_types.specs.Answered.{FoldIs}
use Rattle.op_types.specs.Folding.{Finds, constant, is_constant}
use Rattle.op_types.specs.declared.constant.Constant.{Constant}
use Rattle.op_types.proofs.constant.fold.Goals as goal

by_first : (j : Judgement Constant) (v : Option Const) (r : Result (Option Const) CheckError) (first : Option Refusal) → FirstIs (checked j).faults first → r ≡ or_typed first v → v ≡ option_map (λ a. a.value) (checked j).typed → FoldIs true j r
by_first j v r None h e f = subst (FoldIs true j) (sym e) (f, h)
by_first j v r (Some q) h e f = subst (FoldIs true j) (sym e) h

folded : (j : Judgement Constant) (old new : FirstRefusal) (typed : Option Constant) (v : Option Const) (r : Result (Option Const) CheckError) → Reports j old new typed → old.kept ≡ None → v ≡ option_map (λ a. a.value) typed → r ≡ or_typed new.kept v → FoldIs true j r
folded j old new typed v r h n f e =
    let faults = (checked j).faults in
    by_first j v r (kept None faults) (first_is faults) (e ∙ ap (λ k. or_typed k v) (h.1 ∙ ap (λ k. kept k faults) n)) (f ∙ ap (option_map (λ a. a.value)) h.0)

told : (b : Bool) (j : Judgement Constant) (r : Result (Option Const) CheckError) → FoldIs b j r → IfErr r RefusalHasText
told b j (Ok v) h = tt
told b j (Err NoMemory) h = tt
told true j (Err (Refused q)) h = told_in (checked j).faults (all_told j) q h.is_in
told false j (Err (Refused q)) h = absurd h

pub returns-in-None : goal.returns-in-None
returns-in-None c =
    let e = expr_of c.args.e.now in
    let b = is_constant c.args.core.now c.args.visible.now e in
    let j = constant c.args.core.now c.args.visible.now e in
    let h = subst (Finds b j c.new-sink.result c.expression.new.sink) c.in-None.is c.in_ok-expression.ensures in
    let f = subst (λ b. FoldIs b j (Ok None)) (sym h) refl in
    record { folded = f; law = folds c.args.core.now c.args.visible.now e (Ok None) f; told = tt }

pub returns-in-Some : goal.returns-in-Some
returns-in-Some c =
    let e = expr_of c.args.e.now in
    let b = is_constant c.args.core.now c.args.visible.now e in
    let j = constant c.args.core.now c.args.visible.now e in
    let h = subst (Finds b j c.new-sink.result c.expression.new.sink) c.in-Some.is c.in_ok-expression.ensures in
    let f = subst (λ b. FoldIs b j c.or_typed.result) (sym h.0)
    (folded j c.new-sink.result c.expression.new.sink c.in-Some.typed c.value_of.result c.or_typed.result h.1 c.new-sink.ensures c.value_of.ensures c.or_typed.ensures) in
    record { folded = f; law = folds c.args.core.now c.args.visible.now e c.or_typed.result f; told = told b j c.or_typed.result f }
