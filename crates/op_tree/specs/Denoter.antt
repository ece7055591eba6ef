-- Types as they are written, as values.
use Rattle.std.specs.Prelude.{Bool, List}
use Rattle.op_tree.specs.Expression.{Expression, expr_of}
use Rattle.op_tree.specs.declared.denoter.TypeDenoter.{TypeDenoter, Row_of-TypeDenoter, end_of-TypeDenoter, more_of-TypeDenoter, Row_of-Fields, end_of-Fields, more_of-Fields}
use Rattle.op_tree.specs.declared.denoter.TypeDenoter.TheVariants.{Named, String, Subrange, Enumeration, Set', Array', Record'}
use Rattle.op_tree.specs.declared.position.Name.{Name}
use Rattle.op_tree.specs.declared.position.Position.{Position}
use Rattle.op_tree.specs.declared.position.QualifiedName.{QualifiedName}

mutual
  pub data Denoter : Type 0 where
    named : (name : QualifiedName) → Denoter
    string : (position : Position) → Denoter
    subrange : (first last : Expression) → Denoter
    enumeration : (position : Position) (values : List Name) → Denoter
    set : (position : Position) (base : Denoter) → Denoter
    array : (position : Position) (packed : Bool) (indices : Denoters) (element : Denoter) → Denoter
    record_ : (position : Position) (packed : Bool) (fields : FieldLists) → Denoter

  pub data Denoters : Type 0 where
    no_denoters : Denoters
    denoters : (first : Denoter) (others : Denoters) → Denoters

  pub data FieldLists : Type 0 where
    no_fields : FieldLists
    fields : (names : List Name) (denoter : Denoter) (others : FieldLists) → FieldLists

abbrev mutual
  pub denoter_of : TypeDenoter → Denoter
  denoter_of (Named name) = named name
  denoter_of (String position) = string position
  denoter_of (Subrange first last) = subrange (expr_of first.value) (expr_of last.value)
  denoter_of (Enumeration position values) = enumeration position values
  denoter_of (Set' position _ base) = set position (denoter_of base)
  denoter_of (Array' position packed _ row _ element) = array position packed (denoter_row row) (denoter_of element)
  denoter_of (Record' position packed _ row) = record_ position packed (field_row row)

  pub denoter_row : {n : _} → Row_of-TypeDenoter n → Denoters
  denoter_row end_of-TypeDenoter = no_denoters
  denoter_row (more_of-TypeDenoter t rest) = denoters (denoter_of t) (denoter_row rest)

  pub field_row : {n : _} → Row_of-Fields n → FieldLists
  field_row end_of-Fields = no_fields
  field_row (more_of-Fields names t rest) = fields names (denoter_of t) (field_row rest)
