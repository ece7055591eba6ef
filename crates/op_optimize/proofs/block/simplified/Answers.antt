use Rattle.std.proofs.Common.{Some, sym, ap, ap₂, ◌∙◌}
use Rattle.std.proofs.lemmas.List.{nil_from_length}
use Rattle.op_optimize.specs.Simplifying.{and_fact, facts_behind, left_out, stays_as}
use Rattle.op_optimize.proofs.SimplifiedCode.{goes_on_with, goes_on_without, is_all, stops_at}
use Rattle.op_optimize.proofs.block.simplified.Goals as goal

pub loop-instruction-preserved-in-Some-value : goal.loop-instruction-preserved-in-Some-value
loop-instruction-preserved-in-Some-value c =
    goes_on_without c.args.live.now c.args.way c.loop-instruction.made.items c.loop-instruction.facts.items c.in_ok-facts.facts.items c.loop-instruction.known.items c.in-Some.instruction.now c.in-Some.behind.now c.loop-instruction.rest.now c.left_out-value.result c.in-Some-value.value
    c.in-Some.ensures.cases.0
    (c.left_out-value.ensures ∙ ap₂ (λ fs ks. left_out c.args.live.now c.args.way fs ks c.in-Some.instruction.now c.in-Some.behind.now) c.as_slice.ensures.value c.as_slice-in-Some.ensures.value)
    c.in-Some-value.is
    (c.in_ok-facts.ensures ∙ ap (λ t. and_fact c.loop-instruction.facts.items t (Some c.in-Some-value.value)) c.target.ensures)
    ∙ c.loop-instruction.invariant

pub returns-in-None : goal.returns-in-None
returns-in-None c =
    stops_at c.args.live.now c.args.way c.loop-instruction.made.items c.loop-instruction.facts.items c.loop-instruction.known.items c.in-Some.instruction.now c.in-Some.behind.now c.loop-instruction.rest.now
    c.in-Some.ensures.cases.0
    (sym (c.left_out-value.ensures ∙ ap₂ (λ fs ks. left_out c.args.live.now c.args.way fs ks c.in-Some.instruction.now c.in-Some.behind.now) c.as_slice.ensures.value c.as_slice-in-Some.ensures.value) ∙ c.in_default-value.is)
    (sym (c.in_ok-stays_as.ensures ∙ ap (λ fs. stays_as c.args.live.now c.args.way fs c.in-Some.instruction.now c.in-Some.behind.now) c.as_slice-in_default-value.ensures.value) ∙ c.in-None.is)
    ∙ c.loop-instruction.invariant

pub loop-instruction-preserved : goal.loop-instruction-preserved
loop-instruction-preserved c =
    goes_on_with c.args.live.now c.args.way c.loop-instruction.made.items c.loop-instruction.facts.items c.in_ok-facts-2.facts.items c.loop-instruction.known.items c.in_ok-known.known.items c.in-Some.instruction.now c.in-Some-2.better c.in-Some.behind.now c.loop-instruction.rest.now c.push.new.self.items
    c.in-Some.ensures.cases.0
    (sym (c.left_out-value.ensures ∙ ap₂ (λ fs ks. left_out c.args.live.now c.args.way fs ks c.in-Some.instruction.now c.in-Some.behind.now) c.as_slice.ensures.value c.as_slice-in-Some.ensures.value) ∙ c.in_default-value.is)
    (sym (c.in_ok-stays_as.ensures ∙ ap (λ fs. stays_as c.args.live.now c.args.way fs c.in-Some.instruction.now c.in-Some.behind.now) c.as_slice-in_default-value.ensures.value) ∙ c.in-Some-2.is)
    c.in_ok-push-in-Some-2.ensures.items
    (c.in_ok-facts-2.ensures ∙ ap (facts_behind c.args.live.now c.args.way c.loop-instruction.facts.items c.in-Some.behind.now) c.target-in_default-value.ensures)
    c.in_ok-known.ensures
    ∙ c.loop-instruction.invariant

pub returns : goal.returns
returns c =
    ap Some (c.from.ensures ∙ c.shrink_to_fit.ensures.items)
    ∙ is_all c.args.live.now c.args.way c.loop-instruction.made.items c.loop-instruction.facts.items c.loop-instruction.known.items c.loop-instruction.rest.now (nil_from_length c.loop-instruction.rest.now c.in_default.ensures.cases) ∙ c.loop-instruction.invariant
