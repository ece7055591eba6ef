use Rattle.std.proofs.Common.{◌≡◌, sym, subst, ap, ◌∙◌}
use Rattle.op_print.proofs.PrintedFiles.{printed_again, scanned_file}
use Rattle.op_print.specs.Page.{after, empty_page}
use Rattle.op_print.specs.Print.{file_draft}
use Rattle.op_print.specs.Scanned.{signs_of, ScansTo, SpelledAgain}
use Rattle.op_tree.specs.File.{file_of}
use Rattle.op_print.proofs.file.print.Goals as goal

pub returns-clause-scans : goal.returns-clause-scans
returns-clause-scans c = λ h n.
    let file = file_of c.args.tree.now in
    let e : c.into_text.result ≡ (after empty_page (file_draft file)).text = c.into_text.ensures ∙ ap (λ p. p.text) (c.in_ok-file.ensures ∙ ap (λ p. after p (file_draft file)) c.new-page.ensures) in
    subst (λ z. ScansTo n z (signs_of file)) (sym e) (scanned_file file h n)

pub returns-clause-again : goal.returns-clause-again
returns-clause-again c = λ m bytes tokens g s n.
    let file = file_of c.args.tree.now in
    let e : c.into_text.result ≡ (after empty_page (file_draft file)).text = c.into_text.ensures ∙ ap (λ p. p.text) (c.in_ok-file.ensures ∙ ap (λ p. after p (file_draft file)) c.new-page.ensures) in
    subst (λ z. SpelledAgain n file z) (sym e) (printed_again file m bytes tokens g s n)
