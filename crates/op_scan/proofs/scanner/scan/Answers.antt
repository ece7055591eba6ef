use Rattle.std.proofs.Common.{◌≡◌, ◌≢◌, ◌+◌, ◌-◌, ◌^◌, ◌<◌, ◌≤◌, [], length, drop, sym, ap, ◌∙◌, arith}
use Rattle.std.proofs.lemmas.Bool.{eqb-true, eqb-false}
use Rattle.std.proofs.lemmas.List.{length-drop, nil_from_length}
use Rattle.op_scan.specs.Scan.{mark_length}
use Rattle.op_scan.proofs.Scanning.{scan_begins, front_within, front_moves, scan_bounds, scan_passes, scan_gives, scan_breaks, scan_ends, only_answer, passes≢breaks, gives≢breaks}
use Rattle.op_scan.proofs.Told.{told_scans}
use Rattle.op_scan.proofs.scanner.scan.Goals as goal
use Rattle.op_scan.proofs.scanner.scan.Goals.{in-Passes, in-Gives+in_ok-push-in-Gives}

pub loop-rest-init : goal.loop-rest-init
loop-rest-init c =
    let mark = mark_length c.args.bytes.now in
    let first : length c.args.bytes.now - length c.without_mark-rest.result.now ≡ mark = omega (arith, ap length c.without_mark-rest.ensures.text, length-drop mark c.args.bytes.now, c.without_mark-rest.ensures.mark) in
    rw (first, c.without_mark-rest.ensures.text, c.new-tokens.ensures.items) (scan_begins _ _ _)

pub returns-in-Breaks-clause-answer : goal.returns-in-Breaks-clause-answer
returns-in-Breaks-clause-answer c =
    let l = c.loop-rest in
    let some : l.rest.now ≢ [] = λ e. eqb-false (length l.rest.now) 0 (sym c.loop-rest-test.ensures) (ap length e) in
    scan_breaks _ _ _ _ _ _ _ _ l.invariant _ _ _ c.in_ok-length.ensures c.in-Breaks.is some

pub returns-in-Breaks-clause-only : goal.returns-in-Breaks-clause-only
returns-in-Breaks-clause-only c =
    let l = c.loop-rest in
    let some : l.rest.now ≢ [] = λ e. eqb-false (length l.rest.now) 0 (sym c.loop-rest-test.ensures) (ap length e) in
    only_answer c.args.file c.args.bytes.now _ (scan_breaks _ _ _ _ _ _ _ _ l.invariant _ _ _ c.in_ok-length.ensures c.in-Breaks.is some)

pub returns-in-Breaks-clause-told : goal.returns-in-Breaks-clause-told
returns-in-Breaks-clause-told c = told_scans (returns-in-Breaks-clause-answer c)

pub place_behind-place-requires-clause-lines : goal.place_behind-place-requires-clause-lines
place_behind-place-requires-clause-lines c =
    let mark = mark_length c.args.bytes.now in
    let small : mark + length (drop mark c.args.bytes.now) ≤ 2 ^ 31 = omega (arith, length-drop mark c.args.bytes.now, c.without_mark-rest.ensures.mark, c.requires) in
    let b = scan_bounds _ _ _ _ _ _ _ _ c.loop-rest.invariant _ (front_within c.in_ok-length.ensures) small in
    omega (arith, b.1, c.split_at.ensures.front_len)

pub place_behind-place-requires-clause-columns : goal.place_behind-place-requires-clause-columns
place_behind-place-requires-clause-columns c =
    let mark = mark_length c.args.bytes.now in
    let small : mark + length (drop mark c.args.bytes.now) ≤ 2 ^ 31 = omega (arith, length-drop mark c.args.bytes.now, c.without_mark-rest.ensures.mark, c.requires) in
    let b = scan_bounds _ _ _ _ _ _ _ _ c.loop-rest.invariant _ (front_within c.in_ok-length.ensures) small in
    omega (arith, b.2, c.split_at.ensures.front_len)

pub loop-rest-smaller : goal.loop-rest-smaller
loop-rest-smaller c =
    let f = c.in_ok-length.ensures in
    let moves : length (drop c.in_ok-length.field-0.length c.loop-rest.rest.now) < length c.loop-rest.rest.now = elim c.match-effect.branch [
      | in-Passes w ↦ front_moves f (λ r b. passes≢breaks (sym w.in-Passes.is ∙ b))
      | in-Gives+in_ok-push-in-Gives w ↦ front_moves f (λ r b. gives≢breaks (sym w.in-Gives.is ∙ b))
    ] in
    omega (arith, moves, ap length c.split_at.ensures.back)

pub loop-rest-preserved : goal.loop-rest-preserved
loop-rest-preserved c =
    let l = c.loop-rest in
    let f = c.in_ok-length.ensures in
    let follows = rw c.split_at.ensures.front at c.place_behind-place.ensures in
    elim c.match-effect.branch [
      | in-Passes w ↦ rw (w.switches-is, w.tokens-is, c.split_at.ensures.back) (scan_passes _ _ _ _ _ _ _ _ l.invariant _ _ w.in-Passes.next f w.in-Passes.is _ follows)
      | in-Gives+in_ok-push-in-Gives w ↦ rw (w.switches-is, w.tokens-is, c.split_at.ensures.back) (scan_gives _ _ _ _ _ _ _ _ l.invariant _ _ w.in-Gives.kind f w.in-Gives.is _ follows _ w.in_ok-push-in-Gives.ensures.items)
    ]

pub returns-clause-answer : goal.returns-clause-answer
returns-clause-answer c =
    let l = c.loop-rest in
    let empty = nil_from_length l.rest.now (eqb-true (length l.rest.now) 0 (sym c.loop-rest-test.ensures)) in
    rw c.from.ensures (scan_ends _ _ _ _ _ _ _ _ l.invariant empty)

pub returns-clause-only : goal.returns-clause-only
returns-clause-only c =
    let l = c.loop-rest in
    let empty = nil_from_length l.rest.now (eqb-true (length l.rest.now) 0 (sym c.loop-rest-test.ensures)) in
    only_answer c.args.file c.args.bytes.now _ (rw c.from.ensures (scan_ends _ _ _ _ _ _ _ _ l.invariant empty))
