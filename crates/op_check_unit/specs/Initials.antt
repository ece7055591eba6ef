-- First values of typed constants and variables (Free Pascal Reference Guide, "Typed constants" and "Initialized variables").
use Rattle.std.specs.Prelude.{ℕ, nat_lt, Bool, true, false, List, [], ◌∷◌, length, slice_get, Option, Some, None, Vec, if◌then◌else◌}
use Rattle.std.specs.Option.{option_map}
use Rattle.std.specs.declared.alloc.Global.{Global}
use Rattle.op_base.specs.declared.place.Place.{Place}
use Rattle.op_check_expr.specs.Parts.{standing}
use Rattle.op_check_expr.specs.Values.{retyped}
use Rattle.op_check_unit.specs.Naming.{is_name}
use Rattle.op_check_unit.specs.Types.{constant_part}
use Rattle.op_check_unit.specs.declared.initial.Shape.{Shape}
use Rattle.op_check_unit.specs.declared.initial.Shape.TheVariants.{Single, Elements, Unbounded, Fields}
use Rattle.op_core.specs.Initial.{FirstValue, constant, parts, FirstValues, no_values, values}
use Rattle.op_core.specs.Nodes.{first_values_of}
use Rattle.op_core.specs.Rows.{rows}
use Rattle.op_core.specs.Sizes.{range_of, type_at, values_of}
use Rattle.op_core.specs.declared.constant.Initial.{Initial as TypedInitial}
use Rattle.op_core.specs.declared.ids.Run.{Run}
use Rattle.op_core.specs.declared.ids.TypeId.{TypeId}
use Rattle.op_core.specs.declared.program.Core.{Core}
use Rattle.op_core.specs.declared.types.CoreType.{CoreType}
use Rattle.op_core.specs.declared.types.CoreType.TheVariants as type
use Rattle.op_core.specs.declared.types.Field.{Field}
use Rattle.op_judgement.specs.Judgement.{Judgement, by_entry, by_test, changed, fine, followed, of_two, refused, through, when}
use Rattle.op_judgement.specs.declared.rules.LanguageRule.TheVariants.{NoMember, NotAssignable, OutOfRange}
use Rattle.op_tree.specs.Expression.{Expression, chain, prefixed, number, nil, set, literal, designated, inherited, Designator, designator, named, string, bracketed, no_selectors, selectors}
use Rattle.op_tree.specs.Initial.{Initial, value, list, record_, Initials, no_initials, initials, FieldInitials, no_field_initials, field_initials}
use Rattle.op_types.specs.Assignable.{assignable}
use Rattle.op_types.specs.ConstantParts.{start_of}
use Rattle.op_types.specs.Names.{Named}
use Rattle.op_types.specs.declared.constant.Constant.{Constant}

-- ---- single values

-- a constant that has to be assignable to the type, and in its range
abbrev pub of_type : Core → Place → TypeId → Constant → Judgement FirstValue
of_type core place of c = by_test NotAssignable place (by_entry OutOfRange place (λ v. fine (constant v)) (retyped core of c.value)) (assignable core c.of of)

abbrev pub single : Core → List Named → TypeId → Expression → Judgement FirstValue
single core names of e = through (constant_part core names e) (of_type core (start_of e) of)

-- ---- what a first value is made of

abbrev pub shape_by : Core → Option CoreType → Shape
shape_by core (Some (type.Array index element)) = Elements (values_of (range_of (type_at core index))) element
shape_by core (Some (type.DynamicArray element)) = Unbounded
shape_by core (Some (type.Record run)) = Fields run
shape_by core _ = Single

abbrev pub shape_of : Core → TypeId → Shape
shape_of core of = shape_by core (type_at core of)

-- ---- lists

-- where a list has not as many parts as are needed: at its bracket where it has fewer, else at the first one too many
abbrev pub wrong_count : Place → ℕ → List Place → Option Place
wrong_count bracket count starts = if nat_lt (length starts) count then Some bracket else slice_get starts count

abbrev pub unless_wrong : Option Place → Option FirstValues → Judgement FirstValue
unless_wrong None vs = standing (option_map parts vs)
unless_wrong (Some place) vs = refused NotAssignable place

-- parts that begin at these places, where so many are needed
abbrev pub counted : Place → ℕ → List Place → Judgement FirstValues → Judgement FirstValue
counted bracket count starts vs = followed vs (unless_wrong (wrong_count bracket count starts))

abbrev pub start_of_initial : Initial → Place
start_of_initial (value e) = start_of e
start_of_initial (list p items) = p.place
start_of_initial (record_ p items) = p.place

abbrev pub starts : Initials → List Place
starts no_initials = []
starts (initials i is) = start_of_initial i ∷ starts is

-- what typed parts say
abbrev pub values_in : Option (Vec TypedInitial Global) → Option FirstValues
values_in typed = option_map (λ v. first_values_of v.items) typed

-- ---- expressions

abbrev pub one_value : FirstValue → FirstValues
one_value v = values v no_values

-- an expression in brackets is a list of one where the type is an array, and an array without bounds has no list
abbrev pub by_brackets : Place → Judgement FirstValue → (ℕ → TypeId → Judgement FirstValue) → Shape → Judgement FirstValue
by_brackets bracket c f (Elements count of) = f count of
by_brackets bracket c f Unbounded = refused NotAssignable bracket
by_brackets bracket c f _ = c

abbrev mutual
  pub first_expression : Core → List Named → TypeId → Expression → Judgement FirstValue
  first_expression core names of (chain first rest) = single core names of (chain first rest)
  first_expression core names of (prefixed o p e) = single core names of (prefixed o p e)
  first_expression core names of (number n p) = single core names of (number n p)
  first_expression core names of (nil p) = single core names of (nil p)
  first_expression core names of (set p es) = single core names of (set p es)
  first_expression core names of (literal text p s) = single core names of (literal text p s)
  first_expression core names of (designated d) = first_designated core names of d
  first_expression core names of (inherited p d) = single core names of (inherited p d)

  pub first_designated : Core → List Named → TypeId → Designator → Judgement FirstValue
  first_designated core names of (designator (bracketed p e) no_selectors) =
      by_brackets p.place (single core names of (designated (designator (bracketed p e) no_selectors)))
      (λ count element. counted p.place count (start_of e ∷ []) (changed one_value (first_expression core names element e))) (shape_of core of)
  first_designated core names of d = single core names of (designated d)

abbrev pub is_bracketed : Expression → Bool
is_bracketed (chain first rest) = false
is_bracketed (prefixed o p e) = false
is_bracketed (number n p) = false
is_bracketed (nil p) = false
is_bracketed (set p es) = false
is_bracketed (literal text p s) = false
is_bracketed (designated (designator (named n) ss)) = false
is_bracketed (designated (designator (string p) ss)) = false
is_bracketed (designated (designator (bracketed p e) no_selectors)) = true
is_bracketed (designated (designator (bracketed p e) (selectors s ss))) = false
is_bracketed (inherited p d) = false

-- ---- first values

-- only an array that has bounds has a list
abbrev pub by_elements : Place → (ℕ → TypeId → Judgement FirstValue) → Shape → Judgement FirstValue
by_elements bracket f (Elements count of) = f count of
by_elements bracket f _ = refused NotAssignable bracket

abbrev pub by_fields : Place → (Run → Judgement FirstValue) → Shape → Judgement FirstValue
by_fields bracket f (Fields run) = f run
by_fields bracket f _ = refused NotAssignable bracket

-- the first value of a variable of a type
abbrev mutual
  pub first : Core → List Named → TypeId → Initial → Judgement FirstValue
  first core names of (value e) = first_expression core names of e
  first core names of (list p items) = by_elements p.place (λ count element. counted p.place count (starts items) (elements core names element items)) (shape_of core of)
  first core names of (record_ p items) = by_fields p.place (λ run. changed parts (fields core names p.place (rows core.fields run) items)) (shape_of core of)

  pub elements : Core → List Named → TypeId → Initials → Judgement FirstValues
  elements core names of no_initials = fine no_values
  elements core names of (initials i is) = of_two values (first core names of i) (elements core names of is)

  -- every field, in order of declaration
  pub fields : Core → List Named → Place → List Field → FieldInitials → Judgement FirstValues
  fields core names bracket [] no_field_initials = fine no_values
  fields core names bracket (f ∷ fs) no_field_initials = refused NotAssignable bracket
  fields core names bracket [] (field_initials n i is) = refused NoMember n.position.place
  fields core names bracket (f ∷ fs) (field_initials n i is) =
      when (is_name (Some f.name) n) (of_two values (first core names f.of i) (fields core names bracket fs is)) (refused NoMember n.position.place)
