use Rattle.std.proofs.Common.{arith, ap, ap₂, ◌∙◌}
use Rattle.std.specs.List.{sum_by}
use Rattle.op_core.specs.Rows.{rows}
use Rattle.op_mir.specs.FrameNeed.{code_words, each_once, first_words, roots_named, size_of_root, variable_bytes}
use Rattle.op_mir.proofs.NeedLemmas.{capped, most_words_capped, need_is}
use Rattle.op_mir.proofs.frame_need.frame_need.Goals as goal

pub returns : goal.returns
returns c =
    let core = c.args.core.now in
    let need = need_is core c.args.routine c.args.code.now in
    let parameters = c.parameters_of-parameters.ensures in
    let variables = c.rows-variables.ensures ∙ ap (λ run. rows core.variables run) c.variables_of.ensures in
    let blocks = c.as_slice-blocks.ensures in
    let firsts = c.first_words.ensures ∙ ap₂ (λ n vs. first_words n vs) parameters variables in
    let words = c.code_words.ensures ∙ most_words_capped c.as_slice-blocks.result.now ∙ ap (λ bs. capped (code_words bs)) blocks in
    let bytes = c.bytes_of_variables.ensures ∙ ap (λ vs. capped (sum_by (variable_bytes core) vs)) variables in
    let wholes = c.bytes_of_wholes.ensures ∙ ap (λ bs. capped (sum_by (size_of_root core) (each_once (roots_named bs)))) blocks in
    let most = c.max.ensures in
    let one = c.saturating_add.ensures in
    let two = c.saturating_add-2.ensures in
    let three = c.saturating_add-words.ensures in
    let times = c.saturating_mul.ensures in
    let sum = c.saturating_add-3.ensures in
    let all = c.saturating_add-4.ensures in
    omega (arith, need, parameters, firsts, words, bytes, wholes, most, one, two, three, times, sum, all)
