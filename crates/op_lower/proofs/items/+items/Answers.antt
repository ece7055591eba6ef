use Rattle.std.proofs.Common.{◌≡◌, ◌-◌, suc, length, map, vec_len, ◌∷◌, [], reverse, refl, ap, ◌∙◌, arith}
use Rattle.op_mir.specs.Code.{ends, scope_exits}
use Rattle.op_mir.specs.View.{view_temporary}
use Rattle.op_mir.specs.declared.instruction.Instruction.TheVariants.{Jump}
use Rattle.op_lower.proofs.MadeLemmas.{added, also_is, also_makes, arm_done, begun, body_first_is, body_grows, body_is, branch_adds, choose_is, choose_makes, finally_adds, grows, item_done, last_stands, leave_makes, loop_adds, loop_is, protect_is, reserved, reversed_push, scoped_is, scoped_makes, select_is, select_makes}
use Rattle.op_lower.proofs.Sizes.{also_size, body_first_size, choose_size, loop_size, popped_case_size, popped_size, protect_size, scoped_size, select_size, size, cases_size, turns_size, size_of_turns}
use Rattle.op_lower.specs.Exits.{exits_of}
use Rattle.op_lower.specs.Made.{items_made, arms_made}
use Rattle.op_lower.specs.Seen.{seen}
use Rattle.op_lower.specs.declared.exits.Exits.TheViews.{Loop, Scope}
use Rattle.op_lower.proofs.items.+items.Goals as goal

-- ---- items

pub code-code_item-requires : goal.code-code_item-requires
code-code_item-requires t c =
    let items = c.loop-item.items.items in
    let counted : length items ≡ suc (vec_len c.loop-item.items - 1) = omega (arith, c.in-Some.ensures.variant.0 refl, c.loop-item.items.ok) in
    let last = last_stands items _ _ c.in-Some.item.now c.in-Some.item.now (vec_len c.loop-item.items - 1) counted c.in-Some.ensures.value refl refl in
    (omega (arith, popped_size items _ c.in-Some.item.now last, c.loop-item.invariant.smaller), tt)

pub code-loop-item-preserved : goal.code-loop-item-preserved
code-loop-item-preserved t c =
    let items = c.loop-item.items.items in
    let counted : length items ≡ suc (vec_len c.loop-item.items - 1) = omega (arith, c.in-Some.ensures.variant.0 refl, c.loop-item.items.ok) in
    let last = last_stands items _ c.drop_last.new.items.items c.in-Some.item.now c.code_item.new.item (vec_len c.loop-item.items - 1) counted c.in-Some.ensures.value refl c.drop_last.ensures in
    record {
      completes = item_done c.args.exits.now (items_made c.args.exits.now c.args.items.now.items c.args.blocks.now c.args.now.now) items c.drop_last.new.items.items c.in-Some.item.now c.args.blocks.now c.loop-item.blocks c.code_item.new.blocks c.loop-item.now c.code_item.new.now last c.loop-item.invariant.completes c.in_ok-code_item.ensures;
      smaller = omega (arith, popped_size items c.drop_last.new.items.items c.in-Some.item.now last, c.loop-item.invariant.smaller);
    }

-- ---- branches

pub branch-fill-requires : goal.branch-fill-requires
branch-fill-requires t c = reserved c.args.blocks.now c.reserve.new.self c.code_to.new.blocks _ c.in_ok-block.block.0 c.in_ok-block.ensures.number c.in_ok-block.ensures.blocks (grows (items_made c.args.exits.now c.args.items.now.items c.reserve.new.self (Jump c.args.on ∷ [])) c.reserve.new.self c.code_to.new.blocks c.code_to.new.now c.in_ok-code_to.ensures)

pub branch-returns-clause-blocks : goal.branch-returns-clause-blocks
branch-returns-clause-blocks t c = branch_adds c.args.exits.now c.args.items.now.items c.args.on c.args.blocks.now c.reserve.new.self c.code_to.new.blocks c.fill.new.self c.code_to.new.now c.in_ok-block.block.0 c.in_ok-block.ensures.blocks c.in_ok-code_to.ensures c.in_ok-block.ensures.number c.fill.ensures

pub also-returns : goal.also-returns
also-returns t c = also_makes c.args.exits.now c.args.truth c.args.temporary c.args.items.now.items c.args.now.now c.in_ok-end.end.on c.args.blocks.now c.join.new.self c.code_to.new.blocks c.code_to.new.now c.branch_unless.new.now c.in_ok-end.end.block.0 c.in_ok-branch_unless.ensures c.in_ok-end.ensures.number c.in_ok-end.ensures.on c.in_ok-end.ensures.blocks c.in_ok-code_to.ensures

pub choose-returns : goal.choose-returns
choose-returns t c = choose_makes c.args.exits.now c.args.temporary c.args.first.now.items c.args.otherwise.now.items c.args.now.now c.in_ok-end.end.on c.in_ok-other.other c.args.blocks.now c.join.new.self c.branch-alloc.new.blocks c.code_to.new.blocks c.code_to.new.now c.branch_unless.new.now c.in_ok-branch_unless.ensures c.in_ok-end.ensures.on c.in_ok-end.ensures.blocks c.in_ok-other.ensures.number c.in_ok-other.ensures.blocks c.in_ok-code_to.ensures

pub select-returns : goal.select-returns
select-returns t c = select_makes c.args.exits.now c.args.temporary c.args.cases.now.items c.args.otherwise.now.items c.args.now.now c.in_ok-end.end.on c.args.blocks.now c.join.new.self c.code_to.new.blocks c.arms.new.blocks c.code_to.new.now c.put.new.self c.in_ok-arms.arms c.in_ok-put.ensures c.in_ok-end.ensures.on c.in_ok-end.ensures.blocks c.in_ok-code_to.ensures c.in_ok-arms.ensures

pub arms-branch-alloc-requires : goal.arms-branch-alloc-requires
arms-branch-alloc-requires t c = (omega (arith, popped_case_size c.loop-case.cases.items c.pop.new.self.items c.in-Some.case c.in-Some.ensures.items, c.loop-case.invariant.smaller), tt)

pub arms-loop-case-preserved : goal.arms-loop-case-preserved
arms-loop-case-preserved t c = record {
  completes = arm_done c.args.exits.now (arms_made c.args.exits.now c.args.cases.now.items c.args.blocks.now c.args.on) c.loop-case.cases.items c.pop.new.self.items c.in-Some.case c.args.on c.in_ok-block.block c.args.blocks.now c.loop-case.blocks c.branch-alloc.new.blocks (reverse c.loop-case.reversed.items) (reverse c.push.new.self.items) c.in-Some.ensures.items c.loop-case.invariant.completes c.in_ok-block.ensures.number c.in_ok-block.ensures.blocks (reversed_push c.loop-case.reversed.items c.push.new.self.items _ c.in_ok-push.ensures.items);
  smaller = omega (arith, popped_case_size c.loop-case.cases.items c.pop.new.self.items c.in-Some.case c.in-Some.ensures.items, c.loop-case.invariant.smaller);
}

-- ---- loops

pub body_block-fill-requires : goal.body_block-fill-requires
body_block-fill-requires t c = omega (arith, c.requires, grows (items_made c.args.exits.now c.args.body.now.items c.args.blocks.now (Jump c.args.made.head ∷ [])) c.args.blocks.now c.code_to.new.blocks c.code_to.new.now c.in_ok-code_to.ensures)

pub body_block-returns : goal.body_block-returns
body_block-returns t c = body_is (items_made c.args.exits.now c.args.body.now.items c.args.blocks.now (Jump c.args.made.head ∷ [])) c.args.made.body c.reached_by-on.result c.args.blocks.now c.code_to.new.blocks c.fill.new.self c.code_to.new.now c.in_ok-code_to.ensures c.reached_by-on.ensures c.fill.ensures

pub loop_blocks-body_block-requires : goal.loop_blocks-body_block-requires
loop_blocks-body_block-requires t c = (omega (arith, size_of_turns c.args.turns.now), omega (arith, c.in_ok-made.ensures.body, begun c.args.blocks.now c.begin_loop.new.self _ _ _ c.in_ok-made.ensures.blocks))

pub loop_blocks-code_to-requires : goal.loop_blocks-code_to-requires
loop_blocks-code_to-requires t c = (omega (arith, size_of_turns c.args.turns.now), tt)

pub loop_blocks-code-requires : goal.loop_blocks-code-requires
loop_blocks-code-requires t c = (omega (arith, size_of_turns c.args.turns.now), tt)

pub loop_blocks-fill-requires : goal.loop_blocks-fill-requires
loop_blocks-fill-requires t c =
    let within = Loop c.args.exits c.in_ok-made.made.behind in
    let first = begun c.args.blocks.now c.begin_loop.new.self _ _ _ c.in_ok-made.ensures.blocks in
    let body = body_grows (items_made within c.args.turns.now.body.items c.begin_loop.new.self (Jump c.in_ok-made.made.head ∷ [])) c.in_ok-made.made.body c.in_ok-on.on c.begin_loop.new.self c.body_block.new.blocks c.in_ok-on.ensures in
    let between = grows (items_made within c.args.turns.now.between.items c.body_block.new.blocks (Jump c.in_ok-on.on ∷ [])) c.body_block.new.blocks c.code_to.new.blocks c.code_to.new.now c.in_ok-code_to.ensures in
    let head = grows (items_made c.args.exits.now c.args.turns.now.head.items c.code_to.new.blocks c.branch_if.new.now) c.code_to.new.blocks c.code.new.blocks c.code.new.now c.in_ok-code.ensures in
    omega (arith, c.in_ok-made.ensures.head, first, body, between, head)

pub loop_blocks-returns-clause-blocks : goal.loop_blocks-returns-clause-blocks
loop_blocks-returns-clause-blocks t c = loop_adds c.args.exits.now (Loop c.args.exits c.in_ok-made.made.behind) c.args.turns.now c.args.now.now c.in_ok-made.made.behind c.in_ok-made.made.head c.in_ok-made.made.body c.in_ok-on.on c.args.blocks.now c.begin_loop.new.self c.body_block.new.blocks c.code_to.new.blocks c.code.new.blocks c.fill.new.self c.code_to.new.now c.branch_if.new.now c.code.new.now c.in_ok-branch_if.ensures refl c.in_ok-made.ensures.behind c.in_ok-made.ensures.head c.in_ok-made.ensures.body c.in_ok-made.ensures.blocks c.in_ok-on.ensures c.in_ok-code_to.ensures c.in_ok-code.ensures c.fill.ensures

-- ---- temporaries that end

pub scoped-returns : goal.scoped-returns
scoped-returns t c = scoped_makes c.args.exits.now (Scope c.args.exits c.as_slice-all.result) c.args.first c.args.others.now c.in_ok-temporaries.temporaries c.args.items.now.items c.args.now.now c.end.new.self c.code.new.now c.put.new.self c.args.blocks.now c.code.new.blocks c.in_ok-temporaries.ensures (ap (λ ts. scope_exits (exits_of c.args.exits.now) (map view_temporary ts)) c.as_slice-all.ensures) (λ core r. c.in_ok-end.ensures core r ∙ ap (λ ts. ends (map view_temporary ts) (seen core r c.args.now.now)) c.as_slice-all.ensures) c.in_ok-code.ensures c.in_ok-put.ensures

-- ---- finally parts

pub finally_block-fill-requires : goal.finally_block-fill-requires
finally_block-fill-requires t c =
    let ways = added (λ core r. [] ∷ exits_of c.args.exits.now 1 ∷ exits_of c.args.exits.now 2 ∷ exits_of c.args.exits.now 3 ∷ []) c.args.blocks.now c.ways_out.new.blocks c.in_ok-block.ensures.blocks in
    let more = grows (items_made c.args.exits.now c.args.items.now.items c.ways_out.new.blocks c.put.new.self) c.ways_out.new.blocks c.code.new.blocks c.code.new.now c.in_ok-code.ensures in
    omega (arith, c.in_ok-block.ensures.number, ways, more)

pub finally_block-returns-clause-blocks : goal.finally_block-returns-clause-blocks
finally_block-returns-clause-blocks t c = finally_adds c.args.exits.now c.args.reason c.args.items.now.items c.args.now.now c.in_ok-block.block c.args.blocks.now c.ways_out.new.blocks c.code.new.blocks c.fill.new.self c.put.new.self c.code.new.now c.in_ok-put.ensures c.in_ok-block.ensures.number c.in_ok-block.ensures.blocks c.in_ok-code.ensures c.fill.ensures

-- ---- which item it is

pub code_item-also-requires : goal.code_item-also-requires
code_item-also-requires t c = (omega (arith, also_size c.args.item.now c.in-Also.truth c.in-Also.temporary c.in-Also.items c.in-Also.is, ap (λ x. size x.items) c.in-Also.items-is), tt)

pub code_item-returns-in-Also : goal.code_item-returns-in-Also
code_item-returns-in-Also t c = also_is c.args.exits.now c.args.item.now c.in-Also.truth _ c.in-Also.temporary _ c.in-Also.items _ c.args.blocks.now c.also.new.blocks c.args.now.now c.also.new.now c.also.result c.in-Also.is c.in-Also.truth-is c.in-Also.temporary-is c.in-Also.items-is c.also.ensures

pub code_item-choose-requires : goal.code_item-choose-requires
code_item-choose-requires t c = (omega (arith, choose_size c.args.item.now c.in-Choose.temporary c.in-Choose.first c.in-Choose.otherwise c.in-Choose.is, ap (λ x. size x.items) c.in-Choose.first-is, ap (λ x. size x.items) c.in-Choose.otherwise-is), tt)

pub code_item-returns-in-Choose : goal.code_item-returns-in-Choose
code_item-returns-in-Choose t c = choose_is c.args.exits.now c.args.item.now c.in-Choose.temporary _ c.in-Choose.first _ c.in-Choose.otherwise _ c.args.blocks.now c.choose.new.blocks c.args.now.now c.choose.new.now c.choose.result c.in-Choose.is c.in-Choose.temporary-is c.in-Choose.first-is c.in-Choose.otherwise-is c.choose.ensures

pub code_item-select-requires : goal.code_item-select-requires
code_item-select-requires t c = (omega (arith, select_size c.args.item.now c.in-Select.temporary c.in-Select.cases c.in-Select.otherwise c.in-Select.is, ap (λ x. cases_size x.items) c.in-Select.cases-is, ap (λ x. size x.items) c.in-Select.otherwise-is), tt)

pub code_item-returns-in-Select : goal.code_item-returns-in-Select
code_item-returns-in-Select t c = select_is c.args.exits.now c.args.item.now c.in-Select.temporary _ c.in-Select.cases _ c.in-Select.otherwise _ c.args.blocks.now c.select.new.blocks c.args.now.now c.select.new.now c.select.result c.in-Select.is c.in-Select.temporary-is c.in-Select.cases-is c.in-Select.otherwise-is c.select.ensures

pub code_item-from_head-requires : goal.code_item-from_head-requires
code_item-from_head-requires t c = (omega (arith, loop_size c.args.item.now c.in-Loop.turns c.in-Loop.is, ap turns_size c.in-Loop.turns-is), tt)

pub code_item-returns-in-Loop : goal.code_item-returns-in-Loop
code_item-returns-in-Loop t c = loop_is c.args.exits.now c.args.item.now c.in-Loop.turns _ c.args.blocks.now c.from_head.new.blocks c.args.now.now c.from_head.new.now c.from_head.result c.in-Loop.is c.in-Loop.turns-is c.from_head.ensures

pub code_item-from_body-requires : goal.code_item-from_body-requires
code_item-from_body-requires t c = (omega (arith, body_first_size c.args.item.now c.in-BodyFirst.turns c.in-BodyFirst.is, ap turns_size c.in-BodyFirst.turns-is), tt)

pub code_item-returns-in-BodyFirst : goal.code_item-returns-in-BodyFirst
code_item-returns-in-BodyFirst t c = body_first_is c.args.exits.now c.args.item.now c.in-BodyFirst.turns _ c.args.blocks.now c.from_body.new.blocks c.args.now.now c.from_body.new.now c.from_body.result c.in-BodyFirst.is c.in-BodyFirst.turns-is c.from_body.ensures

pub code_item-protect-requires : goal.code_item-protect-requires
code_item-protect-requires t c = (omega (arith, protect_size c.args.item.now c.in-Protect.temporary c.in-Protect.items c.in-Protect.finalization c.in-Protect.is, ap (λ x. size x.items) c.in-Protect.items-is, ap (λ x. size x.items) c.in-Protect.finalization-is), tt)

pub code_item-returns-in-Protect : goal.code_item-returns-in-Protect
code_item-returns-in-Protect t c = protect_is c.args.exits.now c.args.item.now c.in-Protect.temporary _ c.in-Protect.items _ c.in-Protect.finalization _ c.args.blocks.now c.protect.new.blocks c.args.now.now c.protect.new.now c.protect.result c.in-Protect.is c.in-Protect.temporary-is c.in-Protect.items-is c.in-Protect.finalization-is c.protect.ensures

pub code_item-scoped-requires : goal.code_item-scoped-requires
code_item-scoped-requires t c = (omega (arith, scoped_size c.args.item.now c.in-Scoped.first c.in-Scoped.others c.in-Scoped.items c.in-Scoped.is, ap (λ x. size x.items) c.in-Scoped.items-is), tt)

pub code_item-returns-in-Scoped : goal.code_item-returns-in-Scoped
code_item-returns-in-Scoped t c = scoped_is c.args.exits.now c.args.item.now c.in-Scoped.first _ c.in-Scoped.others _ c.in-Scoped.items _ c.args.blocks.now c.scoped.new.blocks c.args.now.now c.scoped.new.now c.scoped.result c.in-Scoped.is c.in-Scoped.first-is c.in-Scoped.others-is c.in-Scoped.items-is c.scoped.ensures

pub code_item-returns-in-Leave : goal.code_item-returns-in-Leave
code_item-returns-in-Leave t c = leave_makes c.args.exits.now c.args.item.now c.in-Leave.way _ c.args.blocks.now c.args.now.now c.leave.new.now c.leave.result c.in-Leave.is c.in-Leave.way-is c.leave.ensures
