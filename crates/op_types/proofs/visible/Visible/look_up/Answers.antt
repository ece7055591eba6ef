use Rattle.std.proofs.Common.{◌≡◌, ◌≤◌, drop, length, reverse, refl, sym, ap, ◌∙◌, arith}
use Rattle.std.proofs.lemmas.Iterator.Adapters.{YieldsList-from_rev_slice}
use Rattle.std.proofs.lemmas.Iterator.Consumers.{YieldsList-end, YieldsList-turn}
use Rattle.std.proofs.lemmas.List.{length_push}
use Rattle.std.specs.Iterator.Adapters.{rev_source}
use Rattle.std.specs.Slice.Iter.{iter_rest}
use Rattle.op_types.specs.Names.{all_of, meaning_of}
use Rattle.op_types.proofs.Stretches.{all_back, back_of_reverse, found_back, found_none, goes_back}
use Rattle.op_types.proofs.visible.Visible.look_up.Goals as goal

pub loop-stretch-init : goal.loop-stretch-init
loop-stretch-init c =
    let its : iter_rest (rev_source c.into_iter-stretch-iterator.result) ≡ c.self.inside.stretches.items = cc in
    ap (λ v. meaning_of v c.in_ok-key.key.items) (back_of_reverse (iter_rest (rev_source c.into_iter-stretch-iterator.result)) ∙ ap all_of its ∙ c.self.view_is)

pub loop-stretch-preserved : goal.loop-stretch-preserved
loop-stretch-preserved c =
    let its = reverse (iter_rest (rev_source c.into_iter-stretch-iterator.result)) in
    let t = YieldsList-turn (YieldsList-from_rev_slice {s = c.into_iter-stretch-iterator.result} (iter_rest (rev_source c.into_iter-stretch-iterator.result)) refl) c.loop-stretch.yielded _ c.loop-stretch.yielded_by _ _ c.in-Some.stretch c.in-Some.is c.next.ensures.steps in
    ap (λ k. meaning_of (all_back (drop k its)) c.in_ok-key.key.items) (length_push c.loop-stretch.yielded c.in-Some.stretch)
    ∙ goes_back its (length c.loop-stretch.yielded) c.in-Some.stretch.now c.args.self.now c.in_ok-key.key.items t.0 t.1 c.loop-stretch.invariant (sym c.in-None-look_up.ensures)

pub returns-in-Some-look_up : goal.returns-in-Some-look_up
returns-in-Some-look_up c =
    let its = reverse (iter_rest (rev_source c.into_iter-stretch-iterator.result)) in
    let t = YieldsList-turn (YieldsList-from_rev_slice {s = c.into_iter-stretch-iterator.result} (iter_rest (rev_source c.into_iter-stretch-iterator.result)) refl) c.loop-stretch.yielded _ c.loop-stretch.yielded_by _ _ c.in-Some.stretch c.in-Some.is c.next.ensures.steps in
    found_back its (length c.loop-stretch.yielded) c.in-Some.stretch.now c.args.self.now c.in_ok-key.key.items c.in-Some-look_up.meaning.now t.0 t.1 c.loop-stretch.invariant (sym c.in-Some-look_up.ensures)
    ∙ ap (meaning_of c.args.self.now) c.in_ok-key.ensures

pub returns : goal.returns
returns c =
    let its = reverse (iter_rest (rev_source c.into_iter-stretch-iterator.result)) in
    let t = YieldsList-end (YieldsList-from_rev_slice {s = c.into_iter-stretch-iterator.result} (iter_rest (rev_source c.into_iter-stretch-iterator.result)) refl) c.loop-stretch.yielded _ c.loop-stretch.yielded_by _ _ c.in-None.is c.next.ensures.steps in
    let low : length its ≤ length c.loop-stretch.yielded = omega (arith, t.1) in
    found_none its (length c.loop-stretch.yielded) c.args.self.now c.in_ok-key.key.items low c.loop-stretch.invariant
    ∙ ap (meaning_of c.args.self.now) c.in_ok-key.ensures
