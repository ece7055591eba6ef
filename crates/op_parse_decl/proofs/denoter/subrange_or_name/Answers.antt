use Rattle.std.proofs.Common.{sym, ap, ◌∙◌}
use Rattle.std.specs.Option.{option_map}
use Rattle.op_parse_code.proofs.Errors.{passed}
use Rattle.op_parse_code.specs.Refusal.{out_of_memory}
use Rattle.op_parse_decl.specs.Refusal.{by_grammar}
use Rattle.op_parse_decl.proofs.Bounds.{bound_first, bound_last, bound_goes_on, bounds_whole, bound_no_type}
use Rattle.op_parse_decl.proofs.Denoted.{denoted_whole}
use Rattle.op_tree.specs.Denoter.{denoter_of}
use Rattle.op_parse_decl.proofs.denoter.subrange_or_name.Goals as goal

pub returns-in_err-first-clause-refused : goal.returns-in_err-first-clause-refused
returns-in_err-first-clause-refused c = passed c.from_residual.result c.from_residual.ensures.1 (λ y e. rw e (bound_first c.args.setting.left c.args.setting.end _ _ c.requires.begins c.requires.lists c.in_err-first.ensures.refused))

pub returns-in_err-last-clause-refused : goal.returns-in_err-last-clause-refused
returns-in_err-last-clause-refused c = passed c.from_residual-in_err-last.result c.from_residual-in_err-last.ensures.1 (λ y e. rw e (bound_last c.args.setting.left c.args.setting.end _ _ _ _ _ _ c.requires.begins c.in_ok-first.ensures.whole c.in-Some.ensures.mark.1 c.in_err-last.ensures.refused))

pub returns-in_err-stop_type-clause-refused : goal.returns-in_err-stop_type-clause-refused
returns-in_err-stop_type-clause-refused c = passed c.from_residual-in_err-stop_type.result c.from_residual-in_err-stop_type.ensures.1 (λ y e. rw e (bound_goes_on c.args.setting.left c.args.setting.end _ _ _ _ _ _ _ _ c.requires.begins c.in_ok-first.ensures.whole c.in-Some.ensures.mark.1 c.in_ok-last.ensures.whole (c.in_err-stop_type.ensures.refused _)))

pub returns-in_err-node-clause-refused : goal.returns-in_err-node-clause-refused
returns-in_err-node-clause-refused c = passed c.from_residual-in_err-node.result c.from_residual-in_err-node.ensures.1 (λ y e. by_grammar (out_of_memory e))

pub returns-in-Some-clause-whole : goal.returns-in-Some-clause-whole
returns-in-Some-clause-whole c = rw c.in_ok-node.ensures (bounds_whole c.args.setting.left _ _ _ _ _ _ _ c.in_ok-first.ensures.whole c.in-Some.ensures.mark.1 c.in_ok-last.ensures.whole c.in_ok-stop_type.ensures.stops)

pub returns-in_err-denoter-clause-refused : goal.returns-in_err-denoter-clause-refused
returns-in_err-denoter-clause-refused c = passed c.from_residual-in_err-denoter.result c.from_residual-in_err-denoter.ensures.1 (λ y e. by_grammar (out_of_memory e))

pub returns-in-Some-2-clause-whole : goal.returns-in-Some-2-clause-whole
returns-in-Some-2-clause-whole c = denoted_whole c.args.setting.left _ _ _ _ c.in_ok-first.ensures.whole c.in_default.ensures.mark (sym c.in_ok-denoter.ensures ∙ ap (option_map denoter_of) c.in-Some-2.is)

pub returns-in-None-clause-refused : goal.returns-in-None-clause-refused
returns-in-None-clause-refused c = bound_no_type c.args.setting.left c.args.setting.end _ _ _ _ c.requires.begins c.in_ok-first.ensures.whole c.in_default.ensures.mark (sym c.in_ok-denoter.ensures ∙ ap (option_map denoter_of) c.in-None.is) c.syntax.ensures
