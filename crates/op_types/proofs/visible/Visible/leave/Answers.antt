use Rattle.std.proofs.Common.{◌≡◌, ◌≤◌, ◌+◌, ◌-◌, length, take, sym, ap, ◌∙◌, arith, length-take}
use Rattle.std.proofs.lemmas.Grind.{common_steps}
use Rattle.op_types.specs.Names.{all_of}
use Rattle.op_types.proofs.Stretches.{ends_before, ends_in_last, front_length, same_got}
use Rattle.op_types.proofs.visible.Visible.leave.Goals as goal

pub overflow_sub-before : goal.overflow_sub-before
overflow_sub-before c =
    let tied = c.loop-self.self-inside.stretches.ok.0 in
    let size = c.len-at.ensures in
    let empty = c.is_empty.ensures in
    let at : (c.len-at.result - 1) + 1 ≡ length c.loop-self.self-inside.stretches.items = grind (arith, common_steps, tied, size, empty) in
    let all = front_length c.loop-self.self-inside.stretches.items (c.len-at.result - 1) c.index.result.now c.index.result.now at c.index.ensures in
    let last = c.len.ensures in
    let count = c.loop-self.invariant.0 in
    omega (arith, all, last, count)

pub invariant_of-self-then-before-count : goal.invariant_of-self-then-before-count
invariant_of-self-then-before-count c =
    let tied = c.loop-self.self-inside.stretches.ok.0 in
    let size = c.len-at.ensures in
    let empty = c.is_empty.ensures in
    let at : (c.len-at.result - 1) + 1 ≡ length c.loop-self.self-inside.stretches.items = grind (arith, common_steps, tied, size, empty) in
    let all = front_length c.loop-self.self-inside.stretches.items (c.len-at.result - 1) c.index.result.now c.index.result.now at c.index.ensures in
    let last = c.len.ensures in
    let count = c.loop-self.invariant.0 in
    let whole : (c.loop-self.self-inside.count - c.len.result) + length c.index.result.now ≡ length (all_of c.loop-self.self-inside.stretches.items) = omega (arith, all, last, count) in
    let same = same_got c.loop-self.self-inside.stretches.items (c.len-at.result - 1) c.index.result.now c.index_mut.result.now at c.index.ensures c.index_mut.ensures.value in
    let before = c.loop-self.self-inside.count - c.len.result in
    let ends = ends_in_last c.loop-self.self-inside.stretches.items (c.len-at.result - 1) c.index.result.now c.index.result.now c.leave.new.self c.args.count before at c.index.ensures whole c.if-before-count.true (c.leave.ensures ∙ ap (λ v. take (c.args.count - before) v) same) in
    let l = ap length ends ∙ length-take c.args.count (all_of c.loop-self.self-inside.stretches.items) in
    let least = c.min-self-inside.ensures in
    omega (arith, l, least, count)

pub returns-then-before-count : goal.returns-then-before-count
returns-then-before-count c =
    let tied = c.loop-self.self-inside.stretches.ok.0 in
    let size = c.len-at.ensures in
    let empty = c.is_empty.ensures in
    let at : (c.len-at.result - 1) + 1 ≡ length c.loop-self.self-inside.stretches.items = grind (arith, common_steps, tied, size, empty) in
    let all = front_length c.loop-self.self-inside.stretches.items (c.len-at.result - 1) c.index.result.now c.index.result.now at c.index.ensures in
    let last = c.len.ensures in
    let count = c.loop-self.invariant.0 in
    let whole : (c.loop-self.self-inside.count - c.len.result) + length c.index.result.now ≡ length (all_of c.loop-self.self-inside.stretches.items) = omega (arith, all, last, count) in
    let same = same_got c.loop-self.self-inside.stretches.items (c.len-at.result - 1) c.index.result.now c.index_mut.result.now at c.index.ensures c.index_mut.ensures.value in
    let before = c.loop-self.self-inside.count - c.len.result in
    let ends = ends_in_last c.loop-self.self-inside.stretches.items (c.len-at.result - 1) c.index.result.now c.index.result.now c.leave.new.self c.args.count before at c.index.ensures whole c.if-before-count.true (c.leave.ensures ∙ ap (λ v. take (c.args.count - before) v) same) in
    ends ∙ c.loop-self.invariant.1

pub loop-self-preserved : goal.loop-self-preserved
loop-self-preserved c =
    let tied = c.loop-self.self-inside.stretches.ok.0 in
    let size = c.len-at.ensures in
    let empty = c.is_empty.ensures in
    let at : (c.len-at.result - 1) + 1 ≡ length c.loop-self.self-inside.stretches.items = grind (arith, common_steps, tied, size, empty) in
    let all = front_length c.loop-self.self-inside.stretches.items (c.len-at.result - 1) c.index.result.now c.index.result.now at c.index.ensures in
    let last = c.len.ensures in
    let count = c.loop-self.invariant.0 in
    let whole : (c.loop-self.self-inside.count - c.len.result) + length c.index.result.now ≡ length (all_of c.loop-self.self-inside.stretches.items) = omega (arith, all, last, count) in
    let before = c.loop-self.self-inside.count - c.len.result in
    let low : c.args.count ≤ before = omega (arith, c.if-before-count.false) in
    let r = ends_before c.loop-self.self-inside.stretches.items (c.len-at.result - 1) c.index.result.now c.index.result.now c.args.count before at c.index.ensures whole low in
    (r.0 ∙ sym (ap (λ v. length (all_of v)) c.truncate.ensures.items), ap (λ v. take c.args.count (all_of v)) c.truncate.ensures.items ∙ r.1 ∙ c.loop-self.invariant.1)
