pub mod PrimitiveRows
