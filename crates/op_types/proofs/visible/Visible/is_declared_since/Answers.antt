use Rattle.std.proofs.Common.{◌≡◌, ◌+◌, ◌-◌, ◌≤◌, drop, is_some, length, reverse, refl, subst, sym, ap, ◌∙◌, arith}
use Rattle.std.proofs.lemmas.Iterator.Adapters.{YieldsList-from_rev_slice}
use Rattle.std.proofs.lemmas.Iterator.Consumers.{YieldsList-end, YieldsList-turn}
use Rattle.std.proofs.lemmas.List.{length_push}
use Rattle.std.specs.Iterator.Adapters.{rev_source}
use Rattle.std.specs.Slice.Iter.{iter_rest}
use Rattle.op_types.specs.Names.{all_of, meaning_of}
use Rattle.op_types.proofs.Stretches.{IsLeft, declared_back, goes_back_since, holds_it, left_at_first, none_left, none_left_behind}
use Rattle.op_types.proofs.visible.Visible.is_declared_since.Goals as goal

pub loop-stretch-init : goal.loop-stretch-init
loop-stretch-init c =
    let its : iter_rest (rev_source c.into_iter-stretch-iterator.result) ≡ c.self.inside.stretches.items = cc in
    left_at_first (iter_rest (rev_source c.into_iter-stretch-iterator.result)) c.self.inside.count c.args.count c.args.self.now c.in_ok-key.key.items (c.self.invariant ∙ sym (ap (λ v. length (all_of v)) its)) (ap all_of its ∙ c.self.view_is)

pub loop-stretch-preserved : goal.loop-stretch-preserved
loop-stretch-preserved c =
    let its = reverse (iter_rest (rev_source c.into_iter-stretch-iterator.result)) in
    let t = YieldsList-turn (YieldsList-from_rev_slice {s = c.into_iter-stretch-iterator.result} (iter_rest (rev_source c.into_iter-stretch-iterator.result)) refl) c.loop-stretch.yielded _ c.loop-stretch.yielded_by _ _ c.in-Some.stretch c.in-Some.is c.next.ensures.steps in
    subst (λ k. IsLeft (drop k its) (c.loop-stretch.before - c.len-before.result) c.args.count c.args.self.now c.in_ok-key.key.items) (sym (length_push c.loop-stretch.yielded c.in-Some.stretch))
    (subst (λ n. IsLeft (drop (length c.loop-stretch.yielded + 1) its) (c.loop-stretch.before - n) c.args.count c.args.self.now c.in_ok-key.key.items) (sym c.len-before.ensures)
    (goes_back_since its (length c.loop-stretch.yielded) c.in-Some.stretch.now c.loop-stretch.before c.args.count c.args.self.now c.in_ok-key.key.items t.0 t.1 c.loop-stretch.invariant
    (ap (λ n. is_some (meaning_of (drop (c.args.count - (c.loop-stretch.before - n)) c.in-Some.stretch.now) c.in_ok-key.key.items)) (sym c.len-before.ensures) ∙ ap (λ n. is_some (meaning_of (drop n c.in-Some.stretch.now) c.in_ok-key.key.items)) (sym c.saturating_sub.ensures) ∙ sym c.is_declared_since.ensures ∙ c.if-is_declared_since.false)))

pub returns-then-before-count : goal.returns-then-before-count
returns-then-before-count c =
    none_left (drop (length c.loop-stretch.yielded) (reverse (iter_rest (rev_source c.into_iter-stretch-iterator.result)))) c.loop-stretch.before c.args.count c.args.self.now c.in_ok-key.key.items c.if-before-count.true c.loop-stretch.invariant
    ∙ ap (λ k. is_some (meaning_of (drop c.args.count c.args.self.now) k)) c.in_ok-key.ensures

pub overflow_sub-before : goal.overflow_sub-before
overflow_sub-before c =
    let its = reverse (iter_rest (rev_source c.into_iter-stretch-iterator.result)) in
    let t = YieldsList-turn (YieldsList-from_rev_slice {s = c.into_iter-stretch-iterator.result} (iter_rest (rev_source c.into_iter-stretch-iterator.result)) refl) c.loop-stretch.yielded _ c.loop-stretch.yielded_by _ _ c.in-Some.stretch c.in-Some.is c.next.ensures.steps in
    let h = holds_it its (length c.loop-stretch.yielded) c.in-Some.stretch.now c.loop-stretch.before t.0 t.1 c.loop-stretch.invariant.counts in
    let l = c.len-before.ensures in
    omega (arith, h, l)

pub returns-then-is_declared_since : goal.returns-then-is_declared_since
returns-then-is_declared_since c =
    let its = reverse (iter_rest (rev_source c.into_iter-stretch-iterator.result)) in
    let t = YieldsList-turn (YieldsList-from_rev_slice {s = c.into_iter-stretch-iterator.result} (iter_rest (rev_source c.into_iter-stretch-iterator.result)) refl) c.loop-stretch.yielded _ c.loop-stretch.yielded_by _ _ c.in-Some.stretch c.in-Some.is c.next.ensures.steps in
    declared_back its (length c.loop-stretch.yielded) c.in-Some.stretch.now c.loop-stretch.before c.args.count c.args.self.now c.in_ok-key.key.items t.0 t.1 c.loop-stretch.invariant
    (ap (λ n. is_some (meaning_of (drop (c.args.count - (c.loop-stretch.before - n)) c.in-Some.stretch.now) c.in_ok-key.key.items)) (sym c.len-before.ensures) ∙ ap (λ n. is_some (meaning_of (drop n c.in-Some.stretch.now) c.in_ok-key.key.items)) (sym c.saturating_sub.ensures) ∙ sym c.is_declared_since.ensures ∙ c.if-is_declared_since.true)
    ∙ ap (λ k. is_some (meaning_of (drop c.args.count c.args.self.now) k)) c.in_ok-key.ensures

pub returns : goal.returns
returns c =
    let its = reverse (iter_rest (rev_source c.into_iter-stretch-iterator.result)) in
    let t = YieldsList-end (YieldsList-from_rev_slice {s = c.into_iter-stretch-iterator.result} (iter_rest (rev_source c.into_iter-stretch-iterator.result)) refl) c.loop-stretch.yielded _ c.loop-stretch.yielded_by _ _ c.in-None.is c.next.ensures.steps in
    let low : length its ≤ length c.loop-stretch.yielded = omega (arith, t.1) in
    none_left_behind its (length c.loop-stretch.yielded) c.loop-stretch.before c.args.count c.args.self.now c.in_ok-key.key.items low c.loop-stretch.invariant
    ∙ ap (λ k. is_some (meaning_of (drop c.args.count c.args.self.now) k)) c.in_ok-key.ensures
