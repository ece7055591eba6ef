-- The example runs as it should.
use Rattle.std.proofs.Common.{◌≡◌, true, [], refl}
use Rattle.op_simulation.specs.System.{run}
use Rattle.op_low.specs.Example.{example, anywhere}
use Rattle.op_low.specs.Machine.{low_machine, start, step, step_by_ending, done, act, call}
use Rattle.op_low.specs.State.{Ended}
use Rattle.op_low.specs.Valid.{is_valid, is_valid_routine, is_valid_block, is_valid_instruction, is_sized, leaves, const_fits, branch_fits, call_fits, operands_fit, has_all}

pub example_valid : is_valid (example 20) ≡ true
unfolding is_valid is_valid_routine is_valid_block is_valid_instruction is_sized leaves const_fits branch_fits call_fits operands_fit has_all
example_valid = refl

pub example_returns : (run (low_machine (example 4) anywhere) 9 (start (example 4) anywhere 4096 1024 (λ _. 0) [])).ending ≡ Ended 14
unfolding run start step step_by_ending done act call
example_returns = refl

pub example_raises : (run (low_machine (example 20) anywhere) 9 (start (example 20) anywhere 4096 1024 (λ _. 0) [])).ending ≡ Ended 7
unfolding run start step step_by_ending done act call
example_raises = refl
