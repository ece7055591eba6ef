use Rattle.std.proofs.Common.{◌≡◌, ap, inl, inr, refl, subst, ◌∙◌}
use Rattle.op_base.specs.Outside.{AppendsFront, appended}
use Rattle.op_listing.specs.Listing.{listing_of}
use Rattle.op_tool.specs.Owes.{call}
use Rattle.op_command.specs.Reading.{asked_of}
use Rattle.op_tool.specs.declared.finish.Finish.TheVariants.{Ended}
use Rattle.op_tool.proofs.Failing.{says_list_error}
use Rattle.op_tool.proofs.Saying.{says_no_memory, says_written, says_written_in_part}
use Rattle.op_tool.proofs.driver.list.Goals as goal

pub returns-in-Done-clause-says : goal.returns-in-Done-clause-says
returns-in-Done-clause-says g c words left count =
    let made = c.in-Ok.ensures.made in
    let text : c.as_slice-in-Ok-listing.result.now ≡ listing_of c.in-Ok.made.items = c.as_slice-in-Ok-listing.ensures ∙ c.in-Ok-listing.ensures.is ∙ ap listing_of c.as_slice.ensures.value in
    says_written _ (Ended 0) _ left (g.W.Sink.written c.args.out.now) (g.W.Sink.written c.put.new.self) (g.E.Sink.written c.args.err.now) _ (λ same. cc) (λ input. inr (refl, made, (refl, refl, refl))) (c.in-Done.ensures.done refl ∙ ap (appended (g.W.Sink.written c.args.out.now)) text)

pub returns-in-Ok-listing-clause-says : goal.returns-in-Ok-listing-clause-says
returns-in-Ok-listing-clause-says g c words left count =
    let made = c.in-Ok.ensures.made in
    let text : c.as_slice-in-Ok-listing.result.now ≡ listing_of c.in-Ok.made.items = c.as_slice-in-Ok-listing.ensures ∙ c.in-Ok-listing.ensures.is ∙ ap listing_of c.as_slice.ensures.value in
    let front = subst (λ bytes. AppendsFront (g.W.Sink.written c.args.out.now) bytes (g.W.Sink.written c.put.new.self)) text (c.in-Failed.ensures.front refl) in
    says_written_in_part _ (Ended 0) _ left (g.W.Sink.written c.args.out.now) (g.W.Sink.written c.put.new.self) (g.E.Sink.written c.args.err.now) _ (λ input. inr (refl, made, (refl, refl, refl))) front (inl (c.in-Failed.ensures.failed refl))

-- no room for the text
pub returns-in-Ok-clause-says : goal.returns-in-Ok-clause-says
returns-in-Ok-clause-says g c words left count =
    let made = c.in-Ok.ensures.made in
    says_no_memory _ c.report_no_memory.result _ _ _ _ _ _ _ _ _ (λ done only. inr (made, only)) c.report_no_memory.ensures.says

pub returns-clause-says : goal.returns-clause-says
returns-clause-says g c words left count =
    says_list_error (call words (g.F.Files.stored c.args.files.now) (g.F.Files.faults c.args.files.now) (g.F.Files.faults c.compile.new.files) count count c.args.image.now.items) (asked_of c.args.command.now) c.in-Err.error c.report_error.result _ _ _ _ _ _ _ _ _ c.in-Err.ensures.failed refl c.requires.empty c.report_error.ensures.says
