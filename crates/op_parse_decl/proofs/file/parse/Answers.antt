use Rattle.std.proofs.Common.{[], refl, sym, subst}
use Rattle.op_parse_code.proofs.Errors.{ok_weaker, err_weaker}
use Rattle.op_parse_code.proofs.Parts.{match_of}
use Rattle.op_parse_decl.proofs.Told.{file_is_free, told_refusal}
use Rattle.op_parse_code.specs.Refusal.{IsFree}
use Rattle.op_parse_decl.specs.Declarations.{WholeFile}
use Rattle.op_tree.proofs.FileUnique.{unique_file}
use Rattle.op_tree.specs.FileGrammar.{Spells}
use Rattle.op_tree.specs.Terminal.{terminals}
use Rattle.op_parse_decl.proofs.file.parse.Goals as goal

pub returns-clause-only : goal.returns-clause-only
returns-clause-only c = λ file f.
    let g : Spells file (terminals c.as_slice.result.now) = subst (λ z. Spells file (terminals z)) (sym c.as_slice.ensures) f in
    match_of _ _ c.file.result (ok_weaker c.file.result c.file.ensures.whole (λ x w. (unique_file w g).0)) (err_weaker c.file.result c.file.ensures.refused (λ y w. subst (λ z. IsFree c.args.tokens.now.end (terminals z) y) c.as_slice.ensures (file_is_free WholeFile _ _ _ y file [] (g, refl) w)))

pub returns-clause-told : goal.returns-clause-told
returns-clause-told c = err_weaker c.file.result c.file.ensures.refused (λ y w. told_refusal w)
