use Rattle.std.proofs.Common.{◌≡◌, ◌+◌, ◌-◌, [], ◌∷◌, ◌++◌, length, set, ap, ◌∙◌, arith, length-append}
use Rattle.op_types.specs.Names.{Named, all_of}
use Rattle.op_types.proofs.Stretches.{last_grows}
use Rattle.op_types.proofs.visible.Visible.enter.Goals as goal

pub invariant_of-self-2 : goal.invariant_of-self-2
invariant_of-self-2 c =
    let n : Named = record { name = c.in_ok-name.name.items; meaning = c.args.meaning } in
    let tied = c.begin.new.stretches.ok.0 in
    let some = c.in_ok-begin.ensures.begun in
    let size = c.len-last.ensures in
    let at : (c.len-last.result - 1) + 1 ≡ length c.begin.new.stretches.items = grind (arith, tied, some, size) in
    let more = last_grows c.begin.new.stretches.items (c.len-last.result - 1) c.index_mut.result.now c.index_mut.result.now c.enter.new.self (n ∷ []) at c.index_mut.ensures.value c.in_ok-enter.ensures.entered in
    let l = ap length more ∙ length-append (all_of c.begin.new.stretches.items) (n ∷ []) in
    let same = ap length c.in_ok-begin.ensures.same in
    let count = c.self.invariant in
    grind (arith, l, same, count)

pub returns : goal.returns
returns c =
    let n : Named = record { name = c.in_ok-name.name.items; meaning = c.args.meaning } in
    let tied = c.begin.new.stretches.ok.0 in
    let some = c.in_ok-begin.ensures.begun in
    let size = c.len-last.ensures in
    let at : (c.len-last.result - 1) + 1 ≡ length c.begin.new.stretches.items = grind (arith, tied, some, size) in
    last_grows c.begin.new.stretches.items (c.len-last.result - 1) c.index_mut.result.now c.index_mut.result.now c.enter.new.self (n ∷ []) at c.index_mut.ensures.value c.in_ok-enter.ensures.entered
    ∙ ap (λ v. v ++ n ∷ []) (c.in_ok-begin.ensures.same ∙ c.self.view_is)
    ∙ ap (λ k. c.args.self.now ++ record { name = k; meaning = c.args.meaning } ∷ []) c.in_ok-name.ensures
