-- How values are kept, as the source machine sees it.
use Rattle.op_values.specs.declared.shape.Shape.{Shape}
use Rattle.op_values.specs.declared.shape.Shape.TheVariants.{Single, Composite, Chars, Elements, Instance}
use Rattle.op_semantics.specs.Shapes.{Shape as MeantShape, single, composite, of_chars, of_elements, of_instance}

abbrev pub shape_view : Shape → MeantShape
shape_view (Single kind) = single kind
shape_view Composite = composite
shape_view Chars = of_chars
shape_view Elements = of_elements
shape_view (Instance holds) = of_instance holds
