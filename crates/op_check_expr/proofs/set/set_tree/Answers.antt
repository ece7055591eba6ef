use Rattle.std.proofs.Common.{◌≡◌, ◌++◌, map, sym, subst, ap, ◌∙◌, arith, length}
use Rattle.std.proofs.lemmas.List.{nil_from_length}
use Rattle.op_core.specs.Expression.{element_of, expression, no_steps, set as set_root}
use Rattle.op_check_expr.proofs.Sets.{all_elements, more_elements}
use Rattle.op_check_expr.specs.Constructors.{element_tree, elements_from, member_of}
use Rattle.op_check_expr.specs.Values.{computed}
use Rattle.op_check_expr.proofs.set.set_tree.Goals as goal

pub loop-member-init : goal.loop-member-init
loop-member-init c =
    let core = c.args.core.now in
    let base = c.base_or_own-base.result in
    let rest = c.into_iter-member-iterator.result.rest.items in
    record {
      all = ap (λ xs. map element_of xs ++ map (element_tree core base) (map member_of rest)) c.new-elements.ensures.items
          ∙ ap (λ ms. map (element_tree core base) (map member_of ms)) c.into_iter-member-iterator.ensures.into_iter_gives.0;
    }

pub loop-member-preserved : goal.loop-member-preserved
loop-member-preserved c =
    let core = c.args.core.now in
    let base = c.base_or_own-base.result in
    let es = c.loop-member.elements.items in
    let rest = map (element_tree core base) (map member_of c.next.new.self.rest.items) in
    record {
      all = ap (λ xs. map element_of xs ++ rest) c.in_ok-push.ensures.items
          ∙ more_elements es c.in_ok-element_tree.field-0 (element_tree core base (member_of c.in-Some.member)) rest c.in_ok-element_tree.ensures
          ∙ ap (λ ms. map element_of es ++ map (element_tree core base) (map member_of ms)) (sym c.in-Some.ensures.steps.0)
          ∙ c.loop-member.invariant.all;
    }

pub returns : goal.returns
returns c =
    let core = c.args.core.now in
    let base = c.base_or_own-base.result in
    let es = c.loop-member.elements.items in
    let ms = map member_of c.args.members.items in
    let rest = c.loop-member.member-iterator.rest in
    let h = c.in-None.ensures.steps.0 in
    let k = rest.ok in
    let e : length rest.items ≡ 0 = omega (arith, h, k) in
    ap computed (c.set_expression.ensures ∙ ap (λ es. expression (set_root es) c.args.of no_steps)
    (all_elements es (map (element_tree core base) ms) (subst (λ rs. map element_of es ++ map (element_tree core base) (map member_of rs) ≡ map (element_tree core base) ms) (nil_from_length rest.items e) c.loop-member.invariant.all)
    ∙ ap (λ b. elements_from (map (element_tree core b) ms)) c.base_or_own-base.ensures))
