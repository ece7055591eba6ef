use Rattle.std.proofs.Common.{refl, arith}
use Rattle.op_parse_code.proofs.Errors.{passed}
use Rattle.op_parse_code.specs.Refusal.{out_of_memory}
use Rattle.op_parse_decl.specs.Refusal.{by_grammar}
use Rattle.op_parse_decl.proofs.Classes.{end_refused, sectioning_ends, sectioning_more, sectioning_none}
use Rattle.op_parse_decl.proofs.class.SectionsPart.read.Goals as goal

pub loop-after-init : goal.loop-after-init
loop-after-init c = (sectioning_none c.args.setting.left c.args.setting.end _ _ (λ ms ss. rw (c.new.ensures.items, c.new-2.ensures.items) refl), omega arith)

pub returns-in_err-rest-clause-refused : goal.returns-in_err-rest-clause-refused
returns-in_err-rest-clause-refused c = passed c.from_residual.result c.from_residual.ensures.1 (λ y e. rw e (c.loop-after.invariant.0.dies _ (end_refused c.args.setting.left c.args.setting.end _ _ _ _ c.in-Some.ensures.mark.1 (c.in_err-rest.ensures.refused c.args.setting.left))))

pub returns-in_err-sections-clause-refused : goal.returns-in_err-sections-clause-refused
returns-in_err-sections-clause-refused c = passed c.from_residual-in_err-sections.result c.from_residual-in_err-sections.ensures.1 (λ y e. by_grammar (out_of_memory e))

pub returns-in-Some-clause-whole : goal.returns-in-Some-clause-whole
returns-in-Some-clause-whole c = sectioning_ends c.args.setting.left c.args.setting.end _ _ _ _ _ _ _ _ c.loop-after.invariant.0 c.in-Some.ensures.mark.1 c.in_ok-rest.ensures.mark.1 c.in_ok-sections.ensures

pub returns-in_err-body-clause-refused : goal.returns-in_err-body-clause-refused
returns-in_err-body-clause-refused c = passed c.from_residual-in_err-body.result c.from_residual-in_err-body.ensures.1 (λ y e. by_grammar (out_of_memory e))

pub loop-after-preserved : goal.loop-after-preserved
loop-after-preserved c = (sectioning_more c.args.setting.left c.args.setting.end _ _ _ _ _ _ c.loop-after.invariant.0 c.in_ok-entry.ensures.whole c.in_ok-body.ensures, omega (arith, c.loop-after.invariant.1, c.in_ok-entry.ensures.shorter))
