-- What `fold` answers is what the judgements of constant expressions say.
use Rattle.std.proofs.Common.{◌≡◌, inl, inr, Bool, true, false, List, Option, Some, None, Result, Ok, Err, refl, sym}
use Rattle.std.specs.Option.{option_map}
use Rattle.op_base.proofs.Tests.{none_of_some}
use Rattle.op_core.proofs.Agreeing.{first_broken, holds_map, none_broken}
use Rattle.op_core.specs.Relations.{Holds}
use Rattle.op_core.specs.declared.constant.Const.{Const}
use Rattle.op_core.specs.declared.error.CheckError.{CheckError}
use Rattle.op_core.specs.declared.error.CheckError.TheVariants.{Refused, NoMemory}
use Rattle.op_core.specs.declared.program.Core.{Core}
use Rattle.op_judgement.proofs.Judging.{agrees}
use Rattle.op_judgement.specs.Judgement.{Breaks, checked}
use Rattle.op_tree.specs.Expression.{Expression}
use Rattle.op_types.proofs.ConstantValue.{has_value, silent}
use Rattle.op_types.specs.Answered.{FoldIs, Folds, Without}
use Rattle.op_types.specs.Folding.{constant, is_constant}
use Rattle.op_types.specs.Names.{Named}
use Rattle.op_types.specs.declared.constant.Constant.{Constant}

valueless : {t : Option Constant} {T : Constant → Type 0} → Holds t T → None ≡ option_map (λ a. a.value) t → Without T
valueless h e a t = absurd (let k = (h a).1 t in cc)

answered : (core : Core) (names : List Named) (e : Expression) (b : Bool) → is_constant core names e ≡ b → (r : Result (Option Const) CheckError) → FoldIs b (constant core names e) r → Folds core names e r
answered core names e false q (Ok None) f = inl q
answered core names e false q (Ok (Some v)) f = absurd (none_of_some f)
answered core names e false q (Err (Refused r)) f = absurd f
answered core names e false q (Err NoMemory) f = tt
answered core names e true q (Ok None) f =
    let j = constant core names e in
    let h = agrees j in
    inr (q, valueless h.0 f.0, none_broken (checked j).faults (Breaks j) h.1 f.1, silent (has_value core names e q) f.0 f.1)
answered core names e true q (Ok (Some v)) f =
    let j = constant core names e in
    let h = agrees j in
    (q, (holds_map h.0 v).0 (sym f.0), none_broken (checked j).faults (Breaks j) h.1 f.1)
answered core names e true q (Err (Refused r)) f =
    let j = constant core names e in (q, first_broken (checked j).faults (Breaks j) r (agrees j).1 f)
answered core names e true q (Err NoMemory) f = tt

pub folds : (core : Core) (names : List Named) (e : Expression) (r : Result (Option Const) CheckError) → FoldIs (is_constant core names e) (constant core names e) r → Folds core names e r
folds core names e r f = answered core names e (is_constant core names e) refl r f
