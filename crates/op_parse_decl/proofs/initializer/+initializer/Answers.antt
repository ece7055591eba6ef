use Rattle.std.proofs.Common.{suc, length, sym, ap, ◌∙◌, arith}
use Rattle.op_parse_code.proofs.Errors.{passed, ok_weaker, err_weaker, made_ok, made_err}
use Rattle.op_parse_code.proofs.Lists.{listed_item, listed_close, listed_more, listed_ends}
use Rattle.op_parse_code.proofs.Names.{empty_not}
use Rattle.op_parse_code.specs.Refusal.{out_of_memory}
use Rattle.op_parse_decl.proofs.Refusals.{as_value}
use Rattle.op_parse_decl.proofs.InitialLists.{was_made, not_made, one_more, initial_before, items_listed, items_refuse, items_go_on, more_close, more_colon, more_ends, more_goes_on, more_name, more_value, record_value_refuses, record_more_refuses, record_goes_on, record_behind_whole}
use Rattle.op_parse_decl.proofs.Initials.{initial_none, initial_too_deep, initial_whole, initial_refuses, room_at_top, room_in_bracket, room_left, value_refuses, expression_whole, bracket_too_deep, inside_refuses, bracket_whole, bracket_refuses, no_record, record_too_deep, record_whole, record_refuses, no_comma_refuses, list_too_deep, item_refuses, list_whole, list_refuses}
use Rattle.op_tree.specs.Ends.{begins_expression}
use Rattle.op_tree.specs.Terminal.{terminals}
use Rattle.op_parse_decl.proofs.initializer.+initializer.Goals as goal

pub read_initial-returns-in_default-clause-refused : goal.read_initial-returns-in_default-clause-refused
read_initial-returns-in_default-clause-refused t c = initial_none c.args.setting.left c.args.setting.end _ _ (empty_not begins_expression c.args.tokens.now c.in_default.ensures.cases) c.syntax.ensures

pub read_initial-returns-then-not-begins_expression-clause-refused : goal.read_initial-returns-then-not-begins_expression-clause-refused
read_initial-returns-then-not-begins_expression-clause-refused t c = initial_none c.args.setting.left c.args.setting.end _ _ (rw c.in-Some.ensures.cases.0 (sym c.begins_expression.ensures ∙ c.if-not-begins_expression.true)) c.syntax-then-not-begins_expression.ensures

pub read_initial-returns-in_err-left-clause-refused : goal.read_initial-returns-in_err-left-clause-refused
read_initial-returns-in_err-left-clause-refused t c = passed c.from_residual.result c.from_residual.ensures.1 (λ y e. rw (e, c.in-Some.ensures.cases.0) (initial_too_deep c.args.setting.left c.args.setting.end _ _ _ _ (sym c.begins_expression.ensures ∙ c.if-not-begins_expression.false) c.in_err-left.ensures.refused.0 (rw c.in-Some.ensures.cases.0 at c.in_err-left.ensures.refused.1)))

pub read_initial-returns-clause-whole : goal.read_initial-returns-clause-whole
read_initial-returns-clause-whole t c = ok_weaker c.in_brackets.result c.in_brackets.ensures.whole (λ f h. initial_whole c.args.setting.left _ _ _ _ c.in_ok-left.ensures.inside (h 0 (room_at_top c.args.setting.left _ (terminals c.args.tokens.now) c.in_ok-left.ensures.inside)))

pub read_initial-returns-clause-refused : goal.read_initial-returns-clause-refused
read_initial-returns-clause-refused t c = err_weaker c.in_brackets.result c.in_brackets.ensures.refused (λ e h. initial_refuses c.args.setting.left _ c.args.setting.end _ _ c.in_ok-left.ensures.inside (h 0 (room_at_top c.args.setting.left _ (terminals c.args.tokens.now) c.in_ok-left.ensures.inside)))

pub in_brackets-returns-in-None-clause-whole : goal.in_brackets-returns-in-None-clause-whole
in_brackets-returns-in-None-clause-whole t c = ok_weaker c.value.result c.value.ensures.whole (λ f h. λ k fits. rw h.1 (expression_whole k c.args.setting.left _ _ _ h.2))

pub in_brackets-returns-in-None-clause-refused : goal.in_brackets-returns-in-None-clause-refused
in_brackets-returns-in-None-clause-refused t c = err_weaker c.value.result c.value.ensures.refused (λ e h. λ k fits. value_refuses k c.args.setting.left c.args.setting.end _ _ c.in-None.ensures.bracket h)

pub in_brackets-returns-in_err-left-in-Some-clause-refused : goal.in_brackets-returns-in_err-left-in-Some-clause-refused
in_brackets-returns-in_err-left-in-Some-clause-refused t c = passed c.from_residual.result c.from_residual.ensures.1 (λ y e. rw e (λ k fits. bracket_too_deep k c.args.setting.left c.args.setting.end _ _ _ _ c.in-Some.ensures.bracket c.in_err-left-in-Some.ensures.refused.0 c.in_err-left-in-Some.ensures.refused.1))

pub in_brackets-returns-in_err-rest-in-Some-clause-refused : goal.in_brackets-returns-in_err-rest-in-Some-clause-refused
in_brackets-returns-in_err-rest-in-Some-clause-refused t c = passed c.from_residual-in_err-rest-in-Some.result c.from_residual-in_err-rest-in-Some.ensures.1 (λ y e. rw e (λ k fits. inside_refuses k c.args.setting.left _ c.args.setting.end _ _ _ _ c.in-Some.ensures.bracket c.in_ok-left-in-Some.ensures.inside (c.in_err-rest-in-Some.ensures.refused (suc k) (c.inside_bracket-room.ensures k _ _ (room_in_bracket c.args.room k c.args.setting.left _ _ _ _ c.in-Some.ensures.bracket c.in_ok-left-in-Some.ensures.inside fits)))))

pub in_brackets-returns-in-Some-behind_mark-clause-whole : goal.in_brackets-returns-in-Some-behind_mark-clause-whole
in_brackets-returns-in-Some-behind_mark-clause-whole t c = ok_weaker c.closed.result c.closed.ensures.whole (λ f h. λ k fits. rw c.in-Some.ensures.bracket (h k _ _ _ c.in_ok-left-in-Some.ensures.inside (rw c.in-Some-behind_mark.ensures.mark.1 at (c.in_ok-rest-in-Some.ensures.whole (suc k) (c.inside_bracket-room.ensures k _ _ (room_in_bracket c.args.room k c.args.setting.left _ _ _ _ c.in-Some.ensures.bracket c.in_ok-left-in-Some.ensures.inside fits))))))

pub in_brackets-returns-in-Some-behind_mark-clause-refused : goal.in_brackets-returns-in-Some-behind_mark-clause-refused
in_brackets-returns-in-Some-behind_mark-clause-refused t c = err_weaker c.closed.result c.closed.ensures.refused (λ e h. λ k fits. rw c.in-Some.ensures.bracket (h k _ _ _ c.in_ok-left-in-Some.ensures.inside (rw c.in-Some-behind_mark.ensures.mark.1 at (c.in_ok-rest-in-Some.ensures.whole (suc k) (c.inside_bracket-room.ensures k _ _ (room_in_bracket c.args.room k c.args.setting.left _ _ _ _ c.in-Some.ensures.bracket c.in_ok-left-in-Some.ensures.inside fits))))))

pub in_brackets-returns-in-None-behind_mark-clause-whole : goal.in_brackets-returns-in-None-behind_mark-clause-whole
in_brackets-returns-in-None-behind_mark-clause-whole t c = ok_weaker c.list_or_record.result c.list_or_record.ensures.whole (λ f h. λ k fits. bracket_whole k c.args.setting.left _ _ _ _ _ _ c.in-Some.ensures.bracket c.in_ok-left-in-Some.ensures.inside (h k _ (c.inside_bracket-room.ensures k _ _ (room_in_bracket c.args.room k c.args.setting.left _ _ _ _ c.in-Some.ensures.bracket c.in_ok-left-in-Some.ensures.inside fits)) (c.in_ok-rest-in-Some.ensures.whole (suc k) (c.inside_bracket-room.ensures k _ _ (room_in_bracket c.args.room k c.args.setting.left _ _ _ _ c.in-Some.ensures.bracket c.in_ok-left-in-Some.ensures.inside fits)))))

pub in_brackets-returns-in-None-behind_mark-clause-refused : goal.in_brackets-returns-in-None-behind_mark-clause-refused
in_brackets-returns-in-None-behind_mark-clause-refused t c = err_weaker c.list_or_record.result c.list_or_record.ensures.refused (λ e h. λ k fits. bracket_refuses k c.args.setting.left _ c.args.setting.end _ _ _ _ c.in-Some.ensures.bracket c.in_ok-left-in-Some.ensures.inside (h k _ (c.inside_bracket-room.ensures k _ _ (room_in_bracket c.args.room k c.args.setting.left _ _ _ _ c.in-Some.ensures.bracket c.in_ok-left-in-Some.ensures.inside fits)) (c.in_ok-rest-in-Some.ensures.whole (suc k) (c.inside_bracket-room.ensures k _ _ (room_in_bracket c.args.room k c.args.setting.left _ _ _ _ c.in-Some.ensures.bracket c.in_ok-left-in-Some.ensures.inside fits)))))

pub list_or_record-returns-in_default-clause-refused : goal.list_or_record-returns-in_default-clause-refused
list_or_record-returns-in_default-clause-refused t c = λ k i room f. no_record k i _ _ _ _ _ _ c.args.setting.end _ f c.in-Some.ensures.mark.1 (sym c.name_alone.ensures ∙ c.in_default.is) c.syntax.ensures

pub list_or_record-returns-in_err-left-in-Some-clause-refused : goal.list_or_record-returns-in_err-left-in-Some-clause-refused
list_or_record-returns-in_err-left-in-Some-clause-refused t c = passed c.from_residual.result c.from_residual.ensures.1 (λ y e. rw e (λ k i room f. record_too_deep k i _ _ _ _ _ _ _ _ c.args.room c.args.setting.end _ room f c.in-Some.ensures.mark.1 (sym c.name_alone.ensures ∙ c.in-Some-name_alone.is) c.in_err-left-in-Some.ensures.refused.1 c.in_err-left-in-Some.ensures.refused.2))

pub list_or_record-returns-in_ok-left-in-Some-clause-whole : goal.list_or_record-returns-in_ok-left-in-Some-clause-whole
list_or_record-returns-in_ok-left-in-Some-clause-whole t c = made_ok c.fields-read.result c.record.result c.record.ensures c.fields-read.ensures.whole (λ behind rest h made. λ k i room g. rw (made.0, made.1, h.1, c.new-others.ensures.items) (record_whole k i _ _ _ _ _ _ _ _ _ _ (room_left c.args.room _ _ _ _ c.in_ok-left-in-Some.ensures.left room) g c.in-Some.ensures.mark.1 (sym c.name_alone.ensures ∙ c.in-Some-name_alone.is) (h.2 _ _)))

pub list_or_record-returns-in_ok-left-in-Some-clause-refused : goal.list_or_record-returns-in_ok-left-in-Some-clause-refused
list_or_record-returns-in_ok-left-in-Some-clause-refused t c = made_err c.fields-read.result c.record.result c.record.ensures c.fields-read.ensures.refused (λ e h. λ k i room g. out_of_memory h) (λ e h. λ k i room g. record_refuses k i _ _ _ _ _ _ _ _ c.args.setting.end _ (room_left c.args.room _ _ _ _ c.in_ok-left-in-Some.ensures.left room) g c.in-Some.ensures.mark.1 (sym c.name_alone.ensures ∙ c.in-Some-name_alone.is) (h _ _))

pub list_or_record-returns-in_ok-left-in-Some-clause-shorter : goal.list_or_record-returns-in_ok-left-in-Some-clause-shorter
list_or_record-returns-in_ok-left-in-Some-clause-shorter t c = made_ok c.fields-read.result c.record.result c.record.ensures c.fields-read.ensures.shorter (λ behind rest h made. rw made.1 (omega (arith, h, c.in-Some.ensures.shorter)))

pub list_or_record-returns-in_err-after-in-None-clause-refused : goal.list_or_record-returns-in_err-after-in-None-clause-refused
list_or_record-returns-in_err-after-in-None-clause-refused t c = passed c.from_residual-in_err-after-in-None.result c.from_residual-in_err-after-in-None.ensures.1 (λ y e. rw e (λ k i room f. no_comma_refuses k i _ _ _ _ c.args.setting.end _ f c.requires.closes c.in-None.ensures.mark (c.in_err-after-in-None.ensures.refused _)))

pub list_or_record-returns-in_err-left-in-None-clause-refused : goal.list_or_record-returns-in_err-left-in-None-clause-refused
list_or_record-returns-in_err-left-in-None-clause-refused t c = passed c.from_residual-in_err-left-in-None.result c.from_residual-in_err-left-in-None.ensures.1 (λ y e. rw e (λ k i room f. list_too_deep k i _ _ _ _ _ _ _ c.args.room c.args.setting.end _ room f c.in_ok-after-in-None.ensures.mark.1 c.in_err-left-in-None.ensures.refused.1 c.in_err-left-in-None.ensures.refused.2))

pub list_or_record-returns-in_err-fits-in-None-clause-refused : goal.list_or_record-returns-in_err-fits-in-None-clause-refused
list_or_record-returns-in_err-fits-in-None-clause-refused t c = passed c.from_residual-in_err-fits-in-None.result c.from_residual-in_err-fits-in-None.ensures.1 (λ y e. rw e (λ k i room f. item_refuses k i _ _ _ _ _ _ _ _ c.args.setting.end _ (room_left c.args.room _ _ _ _ c.in_ok-left-in-None.ensures.left room) f c.in_ok-after-in-None.ensures.mark.1 c.in_err-fits-in-None.ensures.refused.1 c.in_err-fits-in-None.ensures.refused.2))

pub list_or_record-returns-in_ok-fits-in-None-clause-whole : goal.list_or_record-returns-in_ok-fits-in-None-clause-whole
list_or_record-returns-in_ok-fits-in-None-clause-whole t c = made_ok c.items-read.result c.list.result c.list.ensures c.items-read.ensures.whole (λ behind rest h made. λ k i room g. rw (made.0, made.1, h.1, c.new-others-in-None.ensures.items) (list_whole k i _ _ _ _ _ _ _ _ _ (room_left c.args.room _ _ _ _ c.in_ok-left-in-None.ensures.left room) g c.in_ok-after-in-None.ensures.mark.1 c.in_ok-fits-in-None.ensures.fits h.2 h.3))

pub list_or_record-returns-in_ok-fits-in-None-clause-refused : goal.list_or_record-returns-in_ok-fits-in-None-clause-refused
list_or_record-returns-in_ok-fits-in-None-clause-refused t c = made_err c.items-read.result c.list.result c.list.ensures c.items-read.ensures.refused (λ e h. λ k i room g. out_of_memory h) (λ e h. λ k i room g. list_refuses k i _ _ _ _ _ _ _ c.args.setting.end _ (room_left c.args.room _ _ _ _ c.in_ok-left-in-None.ensures.left room) g c.in_ok-after-in-None.ensures.mark.1 h)

pub list_or_record-returns-in_ok-fits-in-None-clause-shorter : goal.list_or_record-returns-in_ok-fits-in-None-clause-shorter
list_or_record-returns-in_ok-fits-in-None-clause-shorter t c = made_ok c.items-read.result c.list.result c.list.ensures c.items-read.ensures.shorter (λ behind rest h made. rw made.1 (omega (arith, h, c.in_ok-after-in-None.ensures.shorter)))

pub items-returns-in_err-behind-clause-refused : goal.items-returns-in_err-behind-clause-refused
items-returns-in_err-behind-clause-refused t c = passed c.from_residual.result c.from_residual.ensures.1 (λ y e. rw e (not_made _ _ _ c.in_err-behind.ensures c.read_initial-read.ensures.refused out_of_memory (λ h. items_refuse c.args.setting.left c.args.setting.end _ _ (listed_item items_listed c.args.setting.left c.args.setting.end _ _ _ _ c.loop-behind.invariant.2 h))))

pub items-loop-behind-preserved : goal.items-loop-behind-preserved
items-loop-behind-preserved t c =
    let i = c.loop-behind.invariant in
    let w = was_made _ _ c.in_ok-behind.ensures c.read_initial-read.ensures.whole c.read_initial-read.ensures.shorter in
    (_, one_more _ _ _ i.0 _ w.3.0 i.1, listed_more items_listed c.args.setting.left c.args.setting.end _ _ _ _ _ _ _ i.2 w.1 (ap terminals (sym w.3.1) ∙ c.in-Some.ensures.mark.1), omega (arith, i.3, c.in-Some.ensures.shorter, w.2, ap length w.3.1))

pub items-loop-behind-smaller : goal.items-loop-behind-smaller
items-loop-behind-smaller t c =
    let w = was_made _ _ c.in_ok-behind.ensures c.read_initial-read.ensures.whole c.read_initial-read.ensures.shorter in
    omega (arith, c.in-Some.ensures.shorter, w.2, ap length w.3.1)

pub items-returns-in_err-rest-in-None-clause-refused : goal.items-returns-in_err-rest-in-None-clause-refused
items-returns-in_err-rest-in-None-clause-refused t c =
    let w = was_made _ _ c.in_ok-behind.ensures c.read_initial-read.ensures.whole c.read_initial-read.ensures.shorter in
    passed c.from_residual-in_err-rest-in-None.result c.from_residual-in_err-rest-in-None.ensures.1 (λ y e. rw e (items_refuse c.args.setting.left c.args.setting.end _ _ (listed_close items_listed c.args.setting.left c.args.setting.end _ _ _ _ _ _ c.loop-behind.invariant.2 (initial_before (ap terminals w.3.1) w.1) c.in-None.ensures.mark (as_value (c.in_err-rest-in-None.ensures.refused _)))))

pub items-returns-in_err-stop_expression-in-None-clause-refused : goal.items-returns-in_err-stop_expression-in-None-clause-refused
items-returns-in_err-stop_expression-in-None-clause-refused t c =
    let w = was_made _ _ c.in_ok-behind.ensures c.read_initial-read.ensures.whole c.read_initial-read.ensures.shorter in
    passed c.from_residual-in_err-stop_expression-in-None.result c.from_residual-in_err-stop_expression-in-None.ensures.1 (λ y e. rw e (items_go_on c.args.setting.left c.args.setting.end _ _ _ _ (listed_ends items_listed c.args.setting.left c.args.setting.end _ _ _ _ _ _ _ c.loop-behind.invariant.2 w.1 (ap terminals (sym w.3.1) ∙ c.in_ok-rest-in-None.ensures.mark.1)) (c.in_err-stop_expression-in-None.ensures.refused _)))

pub items-returns-in-None-clause-whole : goal.items-returns-in-None-clause-whole
items-returns-in-None-clause-whole t c =
    let i = c.loop-behind.invariant in
    let w = was_made _ _ c.in_ok-behind.ensures c.read_initial-read.ensures.whole c.read_initial-read.ensures.shorter in
    (_, one_more _ _ _ i.0 _ w.3.0 i.1, listed_ends items_listed c.args.setting.left c.args.setting.end _ _ _ _ _ _ _ i.2 w.1 (ap terminals (sym w.3.1) ∙ c.in_ok-rest-in-None.ensures.mark.1), c.in_ok-stop_expression-in-None.ensures.stops)

pub items-returns-in-None-clause-shorter : goal.items-returns-in-None-clause-shorter
items-returns-in-None-clause-shorter t c =
    let w = was_made _ _ c.in_ok-behind.ensures c.read_initial-read.ensures.whole c.read_initial-read.ensures.shorter in
    omega (arith, c.loop-behind.invariant.3, w.2, ap length w.3.1, c.in_ok-rest-in-None.ensures.shorter)

pub fields-returns-in_err-rest-clause-refused : goal.fields-returns-in_err-rest-clause-refused
fields-returns-in_err-rest-clause-refused t c = passed c.from_residual.result c.from_residual.ensures.1 (λ y e. rw e (λ n q. record_value_refuses n q c.args.setting.left c.args.setting.end _ _ c.in_err-rest.ensures.refused))

pub fields-returns-in_err-name-clause-refused : goal.fields-returns-in_err-name-clause-refused
fields-returns-in_err-name-clause-refused t c =
    let i = c.loop-after.invariant in
    passed c.from_residual-in_err-name.result c.from_residual-in_err-name.ensures.1 (λ y e. rw e (λ n q. record_more_refuses n q c.args.setting.left c.args.setting.end _ _ _ _ i.2 (more_name c.args.setting.left c.args.setting.end _ _ _ _ _ _ i.4 c.in-Some.ensures.mark.1 (c.in_err-name.ensures.refused _))))

pub fields-returns-in_err-behind-clause-refused : goal.fields-returns-in_err-behind-clause-refused
fields-returns-in_err-behind-clause-refused t c =
    let i = c.loop-after.invariant in
    passed c.from_residual-in_err-behind.result c.from_residual-in_err-behind.ensures.1 (λ y e. rw e (λ n q. record_more_refuses n q c.args.setting.left c.args.setting.end _ _ _ _ i.2 (more_colon c.args.setting.left c.args.setting.end _ _ _ _ _ _ _ _ i.4 c.in-Some.ensures.mark.1 c.in_ok-name.ensures.name (c.in_err-behind.ensures.refused _))))

pub fields-returns-in_err-rest-2-clause-refused : goal.fields-returns-in_err-rest-2-clause-refused
fields-returns-in_err-rest-2-clause-refused t c =
    let i = c.loop-after.invariant in
    passed c.from_residual-in_err-rest-2.result c.from_residual-in_err-rest-2.ensures.1 (λ y e. rw e (not_made _ _ _ c.in_err-rest-2.ensures c.read_initial-read.ensures.refused (λ h. λ n q. out_of_memory h) (λ h. λ n q. record_more_refuses n q c.args.setting.left c.args.setting.end _ _ _ _ i.2 (more_value c.args.setting.left c.args.setting.end _ _ _ _ _ _ _ _ _ _ i.4 c.in-Some.ensures.mark.1 c.in_ok-name.ensures.name c.in_ok-behind.ensures.mark.1 h))))

pub fields-loop-after-preserved : goal.fields-loop-after-preserved
fields-loop-after-preserved t c =
    let i = c.loop-after.invariant in
    let w = was_made _ _ c.in_ok-rest-2.ensures c.read_initial-read.ensures.whole c.read_initial-read.ensures.shorter in
    (i.0, _, i.2, one_more _ _ _ i.1 _ w.3.0 i.3, more_goes_on c.args.setting.left c.args.setting.end _ _ _ _ _ _ _ _ _ _ i.4 c.in-Some.ensures.mark.1 c.in_ok-name.ensures.name c.in_ok-behind.ensures.mark.1 (initial_before (ap terminals w.3.1) w.1), omega (arith, i.5, c.in-Some.ensures.shorter, c.in_ok-name.ensures.shorter, c.in_ok-behind.ensures.shorter, w.2, ap length w.3.1))

pub fields-returns-in_err-rest-3-clause-refused : goal.fields-returns-in_err-rest-3-clause-refused
fields-returns-in_err-rest-3-clause-refused t c =
    let i = c.loop-after.invariant in
    passed c.from_residual-in_err-rest-3.result c.from_residual-in_err-rest-3.ensures.1 (λ y e. rw e (λ n q. record_more_refuses n q c.args.setting.left c.args.setting.end _ _ _ _ i.2 (more_close c.args.setting.left c.args.setting.end _ _ _ _ i.4 c.in_default.ensures.mark (c.in_err-rest-3.ensures.refused _))))

pub fields-returns-in_err-stop_expression-clause-refused : goal.fields-returns-in_err-stop_expression-clause-refused
fields-returns-in_err-stop_expression-clause-refused t c =
    let i = c.loop-after.invariant in
    passed c.from_residual-in_err-stop_expression.result c.from_residual-in_err-stop_expression.ensures.1 (λ y e. rw e (λ n q. record_goes_on n q c.args.setting.left c.args.setting.end _ _ _ _ _ _ i.2 (more_ends c.args.setting.left c.args.setting.end _ _ _ _ _ i.4 c.in_ok-rest-3.ensures.mark.1) (c.in_err-stop_expression.ensures.refused _)))

pub fields-returns-clause-whole : goal.fields-returns-clause-whole
fields-returns-clause-whole t c =
    let i = c.loop-after.invariant in
    (i.1, i.3, λ n q. record_behind_whole n q c.args.setting.left _ _ _ _ _ i.2 (more_ends c.args.setting.left c.args.setting.end _ _ _ _ _ i.4 c.in_ok-rest-3.ensures.mark.1) c.in_ok-stop_expression.ensures.stops)
