-- The segments of memory, which are those of images.
pub use Rattle.op_link.specs.Region.{Region, Range, covers, is_apart, are_apart, range_of, region_at, rights_in}
unfoldable pub use Rattle.op_link.specs.Region.{byte_in, readable_in, writable_in, executable_in}
