-- What shapes tell of values in memory.
pub use Rattle.op_mir.specs.Shapes.{is_composite, kind_of}
