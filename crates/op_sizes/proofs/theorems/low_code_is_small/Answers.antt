use Rattle.op_sizes.proofs.ComputingSmall.{lengths_covered}
use Rattle.op_sizes.proofs.ProgramsSmall.{image_less}
use Rattle.op_sizes.proofs.RoutinesSmall.{instructions_light, program_light, routine_light}
use Rattle.op_sizes.proofs.theorems.low_code_is_small.Goals as goal

pub returns : goal.returns
returns c = record {
  lengths = lengths_covered;
  instructions = instructions_light;
  routines = λ core mir texts stack r routine is counted written. routine_light core stack r counted written mir texts routine is;
  program = λ core mir texts r routine is. program_light core mir r texts routine is;
  images = λ core mir stack settings better lowers sound owners counted written optimizes. image_less core mir lowers sound owners counted written stack settings better optimizes;
}
