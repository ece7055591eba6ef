-- What low code counts for.
pub use Rattle.op_optimize.specs.Weights.{low_weight, code_weight, blocks_weight}
