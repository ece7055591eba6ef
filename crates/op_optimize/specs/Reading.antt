-- What an instruction reads and writes, which low code says.
pub use Rattle.op_low.specs.Reading.{same, either, is_some_one, writes}
unfoldable pub use Rattle.op_low.specs.Reading.{is_argument, reads, target_of}
