-- First values of constants and variables, as values.
use Rattle.op_tree.specs.Expression.{Expression, expr_of}
use Rattle.op_tree.specs.declared.initializer.Initializer.{Initializer, Row_of-Initializer, end_of-Initializer, more_of-Initializer, Row_of-FieldInitializer, end_of-FieldInitializer, more_of-FieldInitializer}
use Rattle.op_tree.specs.declared.initializer.Initializer.TheVariants.{Value, List', Record'}
use Rattle.op_tree.specs.declared.position.Name.{Name}
use Rattle.op_tree.specs.declared.position.Position.{Position}

mutual
  pub data Initial : Type 0 where
    value : (value : Expression) → Initial
    list : (position : Position) (items : Initials) → Initial
    record_ : (position : Position) (fields : FieldInitials) → Initial

  pub data Initials : Type 0 where
    no_initials : Initials
    initials : (first : Initial) (others : Initials) → Initials

  pub data FieldInitials : Type 0 where
    no_field_initials : FieldInitials
    field_initials : (name : Name) (value : Initial) (others : FieldInitials) → FieldInitials

abbrev mutual
  pub initial_of : Initializer → Initial
  initial_of (Value e) = value (expr_of e)
  initial_of (List' position _ row) = list position (initial_row row)
  initial_of (Record' position _ row) = record_ position (field_initial_row row)

  pub initial_row : {n : _} → Row_of-Initializer n → Initials
  initial_row end_of-Initializer = no_initials
  initial_row (more_of-Initializer i rest) = initials (initial_of i) (initial_row rest)

  pub field_initial_row : {n : _} → Row_of-FieldInitializer n → FieldInitials
  field_initial_row end_of-FieldInitializer = no_field_initials
  field_initial_row (more_of-FieldInitializer name i rest) = field_initials name (initial_of i) (field_initial_row rest)
