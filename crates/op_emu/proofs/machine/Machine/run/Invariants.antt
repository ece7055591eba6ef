use Rattle.std.proofs.Common.{◌≡◌, ◌≤◌, ◌-◌}
use Rattle.op_emu.specs.declared.stop.Stepped.TheVariants.{Went}
use Rattle.op_emu.specs.Acts.{streams, faults, Rises}
use Rattle.op_emu.specs.Runs.{DoesSteps}
use Rattle.op_emu.proofs.machine.Machine.run.Given as goal

abbrev pub invariant-loop-done : goal.invariant-loop-done
invariant-loop-done g l =
    let source = g.R.Source in
    let out = g.W.Sink in
    let err = g.E.Sink in
    record {
      within : l.done ≤ l.n;
      goes : l.self.last ≡ Went;
      does : DoesSteps l.done l.fn.self l.self (streams (source.left l.fn.input) (source.left l.input) (out.written l.fn.out) (out.written l.out) (err.written l.fn.err) (err.written l.err));
      counts : Rises (faults (source.faults l.fn.input) (source.faults l.input) (out.faults l.fn.out) (out.faults l.out) (err.faults l.fn.err) (err.faults l.err));
    }

abbrev pub decreases-loop-done : goal.decreases-loop-done
decreases-loop-done g l = l.n - l.done
