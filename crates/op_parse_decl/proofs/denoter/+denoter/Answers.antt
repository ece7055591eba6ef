use Rattle.std.proofs.Common.{refl, arith}
use Rattle.op_parse_code.proofs.Errors.{passed, ok_weaker, err_weaker}
use Rattle.op_parse_code.proofs.Names.{empty_not}
use Rattle.op_parse_code.specs.Refusal.{out_of_memory}
use Rattle.op_parse_decl.specs.Refusal.{by_grammar}
use Rattle.op_parse_decl.proofs.Denoters.{denoter_none, denoter_form, denoter_procedural, denoter_no_procedural, denoter_too_deep, expression_denotes, word_denotes, denoter_bounded, denoter_bounded_whole, denoter_behind, denoter_behind_whole, denoter_unpacked, denoter_unpacked_whole, denoter_packed, denoter_packed_whole, set_of_missing, set_base, set_whole, structure_there, structure_there_whole, packed_none, array_indices, array_element, array_whole, indices_none, indices_none_whole, indices_too_deep, indices_types, indices_of_missing, indices_whole, indexing_item, indexing_more, indexing_close, indexing_ends}
use Rattle.op_parse_decl.proofs.Fields.{fields_names, fields_colon, fields_type, fields_whole, fielding_ends, fielding_form, fielding_fields, fielding_more, fielding_unclosed, fielding_closes, record_refuses, record_goes_on, record_whole}
use Rattle.op_parse_decl.specs.Opening.{begins_denoter}
use Rattle.op_scan.specs.declared.token.TokenKind.TheVariants as kind
use Rattle.op_parse_decl.proofs.denoter.+denoter.Goals as goal

pub denoter-returns-in_default-clause-refused : goal.denoter-returns-in_default-clause-refused
denoter-returns-in_default-clause-refused t c = denoter_none c.args.setting.left c.args.setting.end _ _ (empty_not begins_denoter c.args.tokens.now c.in_default.ensures.cases) c.syntax.ensures

pub denoter-returns-in-Nothing-clause-refused : goal.denoter-returns-in-Nothing-clause-refused
denoter-returns-in-Nothing-clause-refused t c = denoter_none c.args.setting.left c.args.setting.end _ _ (rw c.in-Some.ensures.cases.0 c.in-Nothing.ensures) c.syntax-in-Nothing.ensures

pub denoter-returns-in-LeftOut-clause-refused : goal.denoter-returns-in-LeftOut-clause-refused
denoter-returns-in-LeftOut-clause-refused t c = rw c.in-Some.ensures.cases.0 (denoter_form c.args.setting.left c.args.setting.end _ _ _ _ _ c.in-LeftOut.ensures.0 c.in-LeftOut.ensures.1 (rw c.in-Some.ensures.cases.0 at c.left_out.ensures))

pub denoter-returns-then-is_procedural-clause-refused : goal.denoter-returns-then-is_procedural-clause-refused
denoter-returns-then-is_procedural-clause-refused t c = rw c.in-Some.ensures.cases.0 (denoter_procedural c.args.setting.left c.args.setting.end _ _ _ _ c.in-Procedural.ensures (rw c.in-Some.ensures.cases.0 at (c.is_procedural.ensures c.if-is_procedural.true)) (rw c.in-Some.ensures.cases.0 at c.left_out-then-is_procedural.ensures))

pub denoter-returns-else-is_procedural-clause-refused : goal.denoter-returns-else-is_procedural-clause-refused
denoter-returns-else-is_procedural-clause-refused t c = rw c.in-Some.ensures.cases.0 (denoter_no_procedural c.args.setting.left c.args.setting.end _ _ _ _ c.in-Procedural.ensures (rw c.in-Some.ensures.cases.0 at c.syntax-in-Procedural.ensures))

pub denoter-returns-in_err-left-in-Bound-clause-refused : goal.denoter-returns-in_err-left-in-Bound-clause-refused
denoter-returns-in_err-left-in-Bound-clause-refused t c = passed c.from_residual.result c.from_residual.ensures.1 (λ y e. rw (e, c.in-Some.ensures.cases.0) (denoter_too_deep c.args.setting.left c.args.setting.end _ _ _ _ (expression_denotes _ c.in-Bound.ensures) c.in_err-left-in-Bound.ensures.refused.0 (rw c.in-Some.ensures.cases.0 at c.in_err-left-in-Bound.ensures.refused.1)))

pub denoter-returns-in_err-left-in-Set-clause-refused : goal.denoter-returns-in_err-left-in-Set-clause-refused
denoter-returns-in_err-left-in-Set-clause-refused t c = passed c.from_residual-in_err-left-in-Set.result c.from_residual-in_err-left-in-Set.ensures.1 (λ y e. rw (e, c.in-Some.ensures.cases.0) (denoter_too_deep c.args.setting.left c.args.setting.end _ _ _ _ (word_denotes c.in-Set.ensures refl) c.in_err-left-in-Set.ensures.refused.0 (rw c.in-Some.ensures.cases.0 at c.in_err-left-in-Set.ensures.refused.1)))

pub denoter-returns-in_err-left-in-Array-clause-refused : goal.denoter-returns-in_err-left-in-Array-clause-refused
denoter-returns-in_err-left-in-Array-clause-refused t c = passed c.from_residual-in_err-left-in-Array.result c.from_residual-in_err-left-in-Array.ensures.1 (λ y e. rw (e, c.in-Some.ensures.cases.0) (denoter_too_deep c.args.setting.left c.args.setting.end _ _ _ _ (word_denotes c.in-Array.ensures refl) c.in_err-left-in-Array.ensures.refused.0 (rw c.in-Some.ensures.cases.0 at c.in_err-left-in-Array.ensures.refused.1)))

pub denoter-returns-in_err-left-in-Record-clause-refused : goal.denoter-returns-in_err-left-in-Record-clause-refused
denoter-returns-in_err-left-in-Record-clause-refused t c = passed c.from_residual-in_err-left-in-Record.result c.from_residual-in_err-left-in-Record.ensures.1 (λ y e. rw (e, c.in-Some.ensures.cases.0) (denoter_too_deep c.args.setting.left c.args.setting.end _ _ _ _ (word_denotes c.in-Record.ensures refl) c.in_err-left-in-Record.ensures.refused.0 (rw c.in-Some.ensures.cases.0 at c.in_err-left-in-Record.ensures.refused.1)))

pub denoter-returns-in_err-left-in-Packed-clause-refused : goal.denoter-returns-in_err-left-in-Packed-clause-refused
denoter-returns-in_err-left-in-Packed-clause-refused t c = passed c.from_residual-in_err-left-in-Packed.result c.from_residual-in_err-left-in-Packed.ensures.1 (λ y e. rw (e, c.in-Some.ensures.cases.0) (denoter_too_deep c.args.setting.left c.args.setting.end _ _ _ _ (word_denotes c.in-Packed.ensures refl) c.in_err-left-in-Packed.ensures.refused.0 (rw c.in-Some.ensures.cases.0 at c.in_err-left-in-Packed.ensures.refused.1)))

pub denoter-returns-in_ok-left-in-Bound-clause-whole : goal.denoter-returns-in_ok-left-in-Bound-clause-whole
denoter-returns-in_ok-left-in-Bound-clause-whole t c = ok_weaker c.bounded.result c.bounded.ensures.whole (λ f h. denoter_bounded_whole _ _ _ _ _ c.in_ok-left-in-Bound.ensures.inside h)

pub denoter-returns-in_ok-left-in-Bound-clause-refused : goal.denoter-returns-in_ok-left-in-Bound-clause-refused
denoter-returns-in_ok-left-in-Bound-clause-refused t c = err_weaker c.bounded.result c.bounded.ensures.refused (λ e h. denoter_bounded _ _ _ _ _ c.in_ok-left-in-Bound.ensures.inside h)

pub denoter-returns-in_ok-left-in-Set-clause-whole : goal.denoter-returns-in_ok-left-in-Set-clause-whole
denoter-returns-in_ok-left-in-Set-clause-whole t c = ok_weaker c.set.result c.set.ensures.whole (λ f h. rw c.in-Some.ensures.cases.0 (denoter_behind_whole _ _ _ _ kind.Set _ _ _ c.in-Set.ensures c.in_ok-left-in-Set.ensures.inside (rw c.position_of-position.ensures at h)))

pub denoter-returns-in_ok-left-in-Set-clause-refused : goal.denoter-returns-in_ok-left-in-Set-clause-refused
denoter-returns-in_ok-left-in-Set-clause-refused t c = err_weaker c.set.result c.set.ensures.refused (λ e h. rw c.in-Some.ensures.cases.0 (denoter_behind _ _ _ _ kind.Set _ _ _ c.in-Set.ensures c.in_ok-left-in-Set.ensures.inside (rw c.position_of-position.ensures at h)))

pub denoter-returns-in_ok-left-in-Array-clause-whole : goal.denoter-returns-in_ok-left-in-Array-clause-whole
denoter-returns-in_ok-left-in-Array-clause-whole t c = ok_weaker c.array.result c.array.ensures.whole (λ f h. rw c.in-Some.ensures.cases.0 (denoter_unpacked_whole _ _ _ _ kind.Array _ _ _ c.in-Array.ensures c.in_ok-left-in-Array.ensures.inside ((rw c.position_of-position.ensures at h) _)))

pub denoter-returns-in_ok-left-in-Array-clause-refused : goal.denoter-returns-in_ok-left-in-Array-clause-refused
denoter-returns-in_ok-left-in-Array-clause-refused t c = err_weaker c.array.result c.array.ensures.refused (λ e h. rw c.in-Some.ensures.cases.0 (denoter_unpacked _ _ _ _ kind.Array _ _ _ c.in-Array.ensures refl c.in_ok-left-in-Array.ensures.inside (rw c.position_of-position.ensures at h)))

pub denoter-returns-in_ok-left-in-Record-clause-whole : goal.denoter-returns-in_ok-left-in-Record-clause-whole
denoter-returns-in_ok-left-in-Record-clause-whole t c = ok_weaker c.record.result c.record.ensures.whole (λ f h. rw c.in-Some.ensures.cases.0 (denoter_unpacked_whole _ _ _ _ kind.Record _ _ _ c.in-Record.ensures c.in_ok-left-in-Record.ensures.inside ((rw c.position_of-position.ensures at h) _)))

pub denoter-returns-in_ok-left-in-Record-clause-refused : goal.denoter-returns-in_ok-left-in-Record-clause-refused
denoter-returns-in_ok-left-in-Record-clause-refused t c = err_weaker c.record.result c.record.ensures.refused (λ e h. rw c.in-Some.ensures.cases.0 (denoter_unpacked _ _ _ _ kind.Record _ _ _ c.in-Record.ensures refl c.in_ok-left-in-Record.ensures.inside (rw c.position_of-position.ensures at h)))

pub denoter-returns-in_ok-left-in-Packed-clause-whole : goal.denoter-returns-in_ok-left-in-Packed-clause-whole
denoter-returns-in_ok-left-in-Packed-clause-whole t c = ok_weaker c.packed.result c.packed.ensures.whole (λ f h. rw c.in-Some.ensures.cases.0 (denoter_packed_whole _ _ _ _ _ _ _ c.in-Packed.ensures c.in_ok-left-in-Packed.ensures.inside (rw c.position_of-position.ensures at h)))

pub denoter-returns-in_ok-left-in-Packed-clause-refused : goal.denoter-returns-in_ok-left-in-Packed-clause-refused
denoter-returns-in_ok-left-in-Packed-clause-refused t c = err_weaker c.packed.result c.packed.ensures.refused (λ e h. rw c.in-Some.ensures.cases.0 (denoter_packed _ _ _ _ _ _ _ c.in-Packed.ensures c.in_ok-left-in-Packed.ensures.inside (rw c.position_of-position.ensures at h)))

pub set-returns-in_err-rest-clause-refused : goal.set-returns-in_err-rest-clause-refused
set-returns-in_err-rest-clause-refused t c = passed c.from_residual.result c.from_residual.ensures.1 (λ y e. rw e (set_of_missing c.args.position c.args.setting.left c.args.setting.end _ _ (c.in_err-rest.ensures.refused _)))

pub set-returns-in_err-base-clause-refused : goal.set-returns-in_err-base-clause-refused
set-returns-in_err-base-clause-refused t c = passed c.from_residual-in_err-base.result c.from_residual-in_err-base.ensures.1 (λ y e. rw e (set_base c.args.position _ c.args.setting.left c.args.setting.end _ _ _ c.in_ok-rest.ensures.mark.1 c.in_err-base.ensures.refused))

pub set-returns-in_err-node-clause-refused : goal.set-returns-in_err-node-clause-refused
set-returns-in_err-node-clause-refused t c = passed c.from_residual-in_err-node.result c.from_residual-in_err-node.ensures.1 (λ y e. by_grammar (out_of_memory e))

pub set-returns-clause-whole : goal.set-returns-clause-whole
set-returns-clause-whole t c = rw c.in_ok-node.ensures (set_whole c.args.position _ c.args.setting.left _ _ _ _ c.in_ok-rest.ensures.mark.1 c.in_ok-base.ensures.whole)

pub packed-returns-in-Some-clause-whole : goal.packed-returns-in-Some-clause-whole
packed-returns-in-Some-clause-whole t c = ok_weaker c.array.result c.array.ensures.whole (λ f h. structure_there_whole _ _ _ _ _ kind.Array _ _ _ c.in-Some.ensures.mark.1 h)

pub packed-returns-in-Some-clause-refused : goal.packed-returns-in-Some-clause-refused
packed-returns-in-Some-clause-refused t c = err_weaker c.array.result c.array.ensures.refused (λ e h. structure_there _ _ _ _ _ kind.Array _ _ _ c.in-Some.ensures.mark.1 h)

pub packed-returns-in_err-rest-in-None-clause-refused : goal.packed-returns-in_err-rest-in-None-clause-refused
packed-returns-in_err-rest-in-None-clause-refused t c = passed c.from_residual.result c.from_residual.ensures.1 (λ y e. rw e (packed_none c.args.position c.args.setting.left c.args.setting.end _ _ c.in-None.ensures.mark (c.in_err-rest-in-None.ensures.refused _)))

pub packed-returns-in_ok-rest-in-None-clause-whole : goal.packed-returns-in_ok-rest-in-None-clause-whole
packed-returns-in_ok-rest-in-None-clause-whole t c = ok_weaker c.record.result c.record.ensures.whole (λ f h. structure_there_whole _ _ _ _ _ kind.Record _ _ _ c.in_ok-rest-in-None.ensures.mark.1 h)

pub packed-returns-in_ok-rest-in-None-clause-refused : goal.packed-returns-in_ok-rest-in-None-clause-refused
packed-returns-in_ok-rest-in-None-clause-refused t c = err_weaker c.record.result c.record.ensures.refused (λ e h. structure_there _ _ _ _ _ kind.Record _ _ _ c.in_ok-rest-in-None.ensures.mark.1 h)

pub array-returns-in_err-indices-clause-refused : goal.array-returns-in_err-indices-clause-refused
array-returns-in_err-indices-clause-refused t c = passed c.from_residual.result c.from_residual.ensures.1 (λ y e. rw e (array_indices c.args.position c.args.packed c.args.setting.left c.args.setting.end _ _ c.in_err-indices.ensures.refused))

pub array-returns-in_err-element-clause-refused : goal.array-returns-in_err-element-clause-refused
array-returns-in_err-element-clause-refused t c = passed c.from_residual-in_err-element.result c.from_residual-in_err-element.ensures.1 (λ y e. rw e (array_element c.args.position c.args.packed c.args.setting.left c.args.setting.end _ _ _ _ c.in_ok-indices.ensures.whole c.in_err-element.ensures.refused))

pub array-returns-in_err-node-clause-refused : goal.array-returns-in_err-node-clause-refused
array-returns-in_err-node-clause-refused t c = passed c.from_residual-in_err-node.result c.from_residual-in_err-node.ensures.1 (λ y e. λ q. by_grammar (out_of_memory e))

pub array-returns-clause-whole : goal.array-returns-clause-whole
array-returns-clause-whole t c = rw c.in_ok-node.ensures (array_whole c.args.position c.args.packed c.args.setting.left _ _ _ _ _ c.in_ok-indices.ensures.whole c.in_ok-element.ensures.whole)

pub indices-returns-in_err-rest-in-None-clause-refused : goal.indices-returns-in_err-rest-in-None-clause-refused
indices-returns-in_err-rest-in-None-clause-refused t c = passed c.from_residual.result c.from_residual.ensures.1 (λ y e. rw e (indices_none c.args.setting.left c.args.setting.end _ _ c.in-None.ensures.mark (c.in_err-rest-in-None.ensures.refused _)))

pub indices-returns-in_ok-rest-in-None-clause-whole : goal.indices-returns-in_ok-rest-in-None-clause-whole
indices-returns-in_ok-rest-in-None-clause-whole t c = rw c.new.ensures.items (indices_none_whole c.args.setting.left _ _ _ c.in_ok-rest-in-None.ensures.mark.1)

pub indices-returns-in_err-left-in-Some-clause-refused : goal.indices-returns-in_err-left-in-Some-clause-refused
indices-returns-in_err-left-in-Some-clause-refused t c = passed c.from_residual-in_err-left-in-Some.result c.from_residual-in_err-left-in-Some.ensures.1 (λ y e. rw e (indices_too_deep c.args.setting.left c.args.setting.end _ _ _ _ c.in-Some.ensures.mark.1 c.in_err-left-in-Some.ensures.refused.0 c.in_err-left-in-Some.ensures.refused.1))

pub indices-returns-in_err-indices-in-Some-clause-refused : goal.indices-returns-in_err-indices-in-Some-clause-refused
indices-returns-in_err-indices-in-Some-clause-refused t c = passed c.from_residual-in_err-indices-in-Some.result c.from_residual-in_err-indices-in-Some.ensures.1 (λ y e. rw e (indices_types c.args.setting.left _ c.args.setting.end _ _ _ _ c.in-Some.ensures.mark.1 c.in_ok-left-in-Some.ensures.inside c.in_err-indices-in-Some.ensures.refused))

pub indices-returns-in_err-rest-in-Some-clause-refused : goal.indices-returns-in_err-rest-in-Some-clause-refused
indices-returns-in_err-rest-in-Some-clause-refused t c = passed c.from_residual-in_err-rest-in-Some.result c.from_residual-in_err-rest-in-Some.ensures.1 (λ y e. rw e (indices_of_missing c.args.setting.left _ c.args.setting.end _ _ _ _ _ _ c.in-Some.ensures.mark.1 c.in_ok-left-in-Some.ensures.inside c.in_ok-indices-in-Some.ensures.whole (c.in_err-rest-in-Some.ensures.refused _)))

pub indices-returns-in_ok-rest-in-Some-clause-whole : goal.indices-returns-in_ok-rest-in-Some-clause-whole
indices-returns-in_ok-rest-in-Some-clause-whole t c = indices_whole c.args.setting.left _ _ _ _ _ _ _ _ c.in-Some.ensures.mark.1 c.in_ok-left-in-Some.ensures.inside c.in_ok-indices-in-Some.ensures.whole c.in_ok-rest-in-Some.ensures.mark.1

pub index_types-returns-in_err-index-clause-refused : goal.index_types-returns-in_err-index-clause-refused
index_types-returns-in_err-index-clause-refused t c = passed c.from_residual.result c.from_residual.ensures.1 (λ y e. rw e (indexing_item c.args.setting.left c.args.setting.end _ _ _ _ c.loop-types.invariant.0 c.in_err-index.ensures.refused))

pub index_types-returns-in_err-push-clause-refused : goal.index_types-returns-in_err-push-clause-refused
index_types-returns-in_err-push-clause-refused t c = passed c.from_residual-in_err-push.result c.from_residual-in_err-push.ensures.1 (λ y e. by_grammar (out_of_memory e))

pub index_types-loop-types-preserved : goal.index_types-loop-types-preserved
index_types-loop-types-preserved t c = (rw c.in_ok-push.ensures.items (indexing_more c.args.setting.left c.args.setting.end _ _ _ _ _ _ _ c.loop-types.invariant.0 c.in_ok-index.ensures.whole c.in-Some.ensures.mark.1), omega (arith, c.loop-types.invariant.1, c.in-Some.ensures.shorter, c.in_ok-index.ensures.shorter))

pub index_types-returns-in_err-rest-in-None-clause-refused : goal.index_types-returns-in_err-rest-in-None-clause-refused
index_types-returns-in_err-rest-in-None-clause-refused t c = passed c.from_residual-in_err-rest-in-None.result c.from_residual-in_err-rest-in-None.ensures.1 (λ y e. rw e (indexing_close c.args.setting.left c.args.setting.end _ _ _ _ _ _ c.loop-types.invariant.0 c.in_ok-index.ensures.whole c.in-None.ensures.mark (c.in_err-rest-in-None.ensures.refused _)))

pub index_types-returns-in-None-clause-whole : goal.index_types-returns-in-None-clause-whole
index_types-returns-in-None-clause-whole t c = rw c.in_ok-push.ensures.items (indexing_ends c.args.setting.left c.args.setting.end _ _ _ _ _ _ _ c.loop-types.invariant.0 c.in_ok-index.ensures.whole c.in_ok-rest-in-None.ensures.mark.1)

pub record-returns-in_err-fields-clause-refused : goal.record-returns-in_err-fields-clause-refused
record-returns-in_err-fields-clause-refused t c = passed c.from_residual.result c.from_residual.ensures.1 (λ y e. rw e (record_refuses c.args.position c.args.packed c.args.setting.left c.args.setting.end _ _ c.in_err-fields.ensures.refused))

pub record-returns-in_err-stop_type-clause-refused : goal.record-returns-in_err-stop_type-clause-refused
record-returns-in_err-stop_type-clause-refused t c = passed c.from_residual-in_err-stop_type.result c.from_residual-in_err-stop_type.ensures.1 (λ y e. rw e (record_goes_on c.args.position c.args.packed c.args.setting.left c.args.setting.end _ _ _ _ c.in_ok-fields.ensures.whole (c.in_err-stop_type.ensures.refused _)))

pub record-returns-clause-whole : goal.record-returns-clause-whole
record-returns-clause-whole t c = rw c.record_node.ensures (record_whole c.args.position c.args.packed c.args.setting.left _ _ _ c.in_ok-fields.ensures.whole c.in_ok-stop_type.ensures.stops)

pub field_lists-returns-in-Some-clause-whole : goal.field_lists-returns-in-Some-clause-whole
field_lists-returns-in-Some-clause-whole t c = fielding_ends c.args.setting.left c.args.setting.end _ _ _ _ _ c.loop-after.invariant.0 c.in-Some.ensures.mark.1

pub field_lists-returns-in-Some-form_of_record-clause-refused : goal.field_lists-returns-in-Some-form_of_record-clause-refused
field_lists-returns-in-Some-form_of_record-clause-refused t c = fielding_form c.args.setting.left c.args.setting.end _ _ _ _ _ c.loop-after.invariant.0 c.in_default.ensures.mark c.in-Some-form_of_record.ensures c.left_out.ensures

pub field_lists-returns-in_err-fields-clause-refused : goal.field_lists-returns-in_err-fields-clause-refused
field_lists-returns-in_err-fields-clause-refused t c = passed c.from_residual.result c.from_residual.ensures.1 (λ y e. rw e (fielding_fields c.args.setting.left c.args.setting.end _ _ _ _ c.loop-after.invariant.0 c.in_default.ensures.mark c.in_err-fields.ensures.refused))

pub field_lists-returns-in_err-push-clause-refused : goal.field_lists-returns-in_err-push-clause-refused
field_lists-returns-in_err-push-clause-refused t c = passed c.from_residual-in_err-push.result c.from_residual-in_err-push.ensures.1 (λ y e. λ q. by_grammar (out_of_memory e))

pub field_lists-loop-after-preserved : goal.field_lists-loop-after-preserved
field_lists-loop-after-preserved t c = (rw c.in_ok-push.ensures.items (fielding_more c.args.setting.left c.args.setting.end _ _ _ _ _ _ _ c.loop-after.invariant.0 c.in_default.ensures.mark c.in_ok-fields.ensures.whole c.in-Some-behind_mark.ensures.mark.1), omega (arith, c.loop-after.invariant.1, c.in-Some-behind_mark.ensures.shorter, c.in_ok-fields.ensures.shorter))

pub field_lists-returns-in_err-rest-in-None-clause-refused : goal.field_lists-returns-in_err-rest-in-None-clause-refused
field_lists-returns-in_err-rest-in-None-clause-refused t c = passed c.from_residual-in_err-rest-in-None.result c.from_residual-in_err-rest-in-None.ensures.1 (λ y e. rw e (fielding_unclosed c.args.setting.left c.args.setting.end _ _ _ _ _ _ c.loop-after.invariant.0 c.in_default.ensures.mark c.in_ok-fields.ensures.whole c.in-None.ensures.mark (c.in_err-rest-in-None.ensures.refused _)))

pub field_lists-returns-in-None-clause-whole : goal.field_lists-returns-in-None-clause-whole
field_lists-returns-in-None-clause-whole t c = rw c.in_ok-push.ensures.items (fielding_closes c.args.setting.left c.args.setting.end _ _ _ _ _ _ _ c.loop-after.invariant.0 c.in_ok-fields.ensures.whole c.in_ok-rest-in-None.ensures.mark.1)

pub fields_of_one_type-returns-in_err-names-clause-refused : goal.fields_of_one_type-returns-in_err-names-clause-refused
fields_of_one_type-returns-in_err-names-clause-refused t c = passed c.from_residual.result c.from_residual.ensures.1 (λ y e. rw e (fields_names c.args.setting.left c.args.setting.end _ _ (c.in_err-names.ensures.refused _)))

pub fields_of_one_type-returns-in_err-rest-clause-refused : goal.fields_of_one_type-returns-in_err-rest-clause-refused
fields_of_one_type-returns-in_err-rest-clause-refused t c = passed c.from_residual-in_err-rest.result c.from_residual-in_err-rest.ensures.1 (λ y e. rw e (fields_colon c.args.setting.left c.args.setting.end _ _ _ _ (c.in_ok-names.ensures.whole 0) (c.in_err-rest.ensures.refused _)))

pub fields_of_one_type-returns-in_err-denoter-clause-refused : goal.fields_of_one_type-returns-in_err-denoter-clause-refused
fields_of_one_type-returns-in_err-denoter-clause-refused t c = passed c.from_residual-in_err-denoter.result c.from_residual-in_err-denoter.ensures.1 (λ y e. rw e (fields_type c.args.setting.left c.args.setting.end _ _ _ _ _ _ (c.in_ok-names.ensures.whole 0) c.in_ok-rest.ensures.mark.1 c.in_err-denoter.ensures.refused))

pub fields_of_one_type-returns-clause-whole : goal.fields_of_one_type-returns-clause-whole
fields_of_one_type-returns-clause-whole t c = fields_whole c.args.setting.left _ _ _ _ _ _ _ (c.in_ok-names.ensures.whole 0) c.in_ok-rest.ensures.mark.1 c.in_ok-denoter.ensures.whole

pub denoter-bounded-requires : goal.denoter-bounded-requires
denoter-bounded-requires t c = rw c.in-Some.ensures.cases.0 c.in-Bound.ensures
