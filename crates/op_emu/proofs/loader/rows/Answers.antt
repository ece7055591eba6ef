use Rattle.std.proofs.Common.{◌≡◌, ℕ, ◌+◌, ◌-◌, ◌*◌, ◌<◌, ◌≤◌, [], ◌∷◌, length, get_or, ap, sym, ◌∙◌, subst, arith, length-append}
use Rattle.op_rv.specs.State.{word_at}
use Rattle.op_emu.specs.Rows.{IsRowOf, HasRows}
use Rattle.op_emu.specs.declared.row.Row.TheVariants.{Other}
use Rattle.op_emu.proofs.Decoded.{one_more_row, all_rows}
use Rattle.op_emu.proofs.loader.rows.Goals as goal

pub loop-k-preserved : goal.loop-k-preserved
loop-k-preserved c =
    let bytes = c.args.segment.now.bytes.items in
    let rows = c.loop-k.rows.items in
    let now = c.loop-k.invariant in
    let offset : c.args.segment.now.base + 4 * c.loop-k.k - c.args.segment.now.base ≡ 4 * length rows =
    omega (arith, now.many)
    in
    let next : IsRowOf (word_at (λ n. get_or bytes n 0) (4 * length rows)) c.row_of.result =
    subst (λ word. IsRowOf word c.row_of.result) (c.word.ensures ∙ ap (word_at (λ n. get_or bytes n 0)) offset) c.row_of.ensures
    in
    record {
      many = omega (arith, ap length c.in_ok-push.ensures.items, length-append rows (c.row_of.result ∷ []), now.many);
      rows_of = subst (λ items. (j : ℕ) → j < length items → IsRowOf (word_at (λ n. get_or bytes n 0) (4 * j)) (get_or items j Other)) (sym c.in_ok-push.ensures.items) (one_more_row bytes rows c.row_of.result now.rows_of next);
    }

pub returns : goal.returns
returns c =
    let bytes = c.args.segment.now.bytes.items in
    let now = c.loop-k.invariant in
    let within : 4 * length c.loop-k.rows.items ≤ length bytes = omega (arith, now.many) in
    subst (HasRows bytes) (sym c.in_ok-push-2.ensures.items) (all_rows bytes c.loop-k.rows.items within now.rows_of)
