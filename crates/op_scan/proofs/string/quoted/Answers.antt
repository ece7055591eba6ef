use Rattle.std.proofs.Common.{◌≡◌, false, eqb, sym, rules}
use Rattle.op_scan.proofs.Lists.{begins_true}
use Rattle.op_scan.proofs.Quoting.{quoted_begins, line_ends, more_plain, more_twice}
use Rattle.op_scan.proofs.string.quoted.Goals as goal
use Rattle.op_scan.proofs.string.quoted.Goals.{then-byte-ne39, else-byte-ne39+then-begins_with}

pub loop-byte-init : goal.loop-byte-init
loop-byte-init c = quoted_begins _ _

pub returns-then-is_line_end-clause-found : goal.returns-then-is_line_end-clause-found
returns-then-is_line_end-clause-found c =
    line_ends _ _ _ _ c.loop-byte.invariant c.in-Some.byte.now c.in-Some.after.now c.in-Some.ensures.cases.0 (sym c.if-is_line_end.ensures)

pub loop-byte-preserved : goal.loop-byte-preserved
loop-byte-preserved c =
    let s = c.in-Some in
    let line = sym c.if-is_line_end.ensures in
    elim c.if-byte-ne39.branch [
      | then-byte-ne39 w ↦ rw w.rest-is (more_plain _ _ _ _ c.loop-byte.invariant s.byte.now s.after.now s.ensures.cases.0 (let h : eqb s.byte.now 39 ≡ false = search rules in h) line _ c.in_ok-push.ensures.items)
      | else-byte-ne39+then-begins_with w ↦
          rw (w.rest-is, w.split_at.ensures.back) (more_twice _ _ _ _ c.loop-byte.invariant s.byte.now s.after.now s.ensures.cases.0 w.if-byte-ne39.false _ (begins_true s.after.now 39 (sym w.if-begins_with.ensures)) line _ c.in_ok-push.ensures.items)
    ]
