-- Types whose values have parts: what is converted to one, or from one, is a value of it, and its parts are asked for where a step leads to
-- them.
use Rattle.std.proofs.Common.{◌≡◌, inl, inr, ℕ, ℤ, true, false, List, [], ◌∷◌, Option, Some, None, refl, sym, ap, ◌∙◌}
use Rattle.std.specs.Prelude.{IsSomeAnd, IsTrue}
use Rattle.op_constants.specs.Shapes.{is_composite}
use Rattle.op_core.specs.Needs.{host}
use Rattle.op_core.specs.Sizes.{range_of, type_at}
use Rattle.op_core.specs.Typing.{AreMembers, Converts, Fits, HoldsField, Indexes, IsImplemented, IsInstance, IsUp, IsWider, OneType, Within, base_of, is_character, is_reference}
use Rattle.op_core.specs.declared.constant.Const.{Const}
use Rattle.op_core.specs.declared.constant.Const.TheVariants.{Ordinal, Text, Set as SetOf, Nil as NilOf}
use Rattle.op_core.specs.declared.ids.FieldId.{FieldId}
use Rattle.op_core.specs.declared.ids.TypeId.{TypeId}
use Rattle.op_core.specs.declared.operation.Conversion.{Conversion}
use Rattle.op_core.specs.declared.operation.Conversion.TheVariants.{Keep, LowBits, Check, ToString, ToInterface, Instance}
use Rattle.op_core.specs.declared.program.Core.{Core}
use Rattle.op_core.specs.declared.types.CoreType.{CoreType}
use Rattle.op_core.specs.declared.types.CoreType.TheVariants.{Integer, Boolean, Char, String, Nil, EmptySet, Enumeration, Subrange, Set, Record, Array, DynamicArray, OpenArray, Class, Interface}
use Rattle.op_meaning.specs.Shapes.{Shape, composite, shape_by, shape_of}
use Rattle.op_typing.proofs.Rows.{not_true, some_then}
use Rattle.op_typing.proofs.Storing.{converts_same}
use Rattle.op_typing.proofs.Types.{one_back_solid, one_solid}
use Rattle.op_typing.specs.Simple.{is_solid}

-- the type's values have parts
abbrev pub IsWhole : Core → TypeId → Type 0
IsWhole core of = is_composite (shape_of core of) ≡ true

pub shape_whole : (s : Shape) → is_composite s ≡ true → s ≡ composite
shape_whole composite e = refl
shape_whole _ e = absurd (not_true e)

pub whole_shape : (s : Shape) → s ≡ composite → is_composite s ≡ true
whole_shape s e = ap is_composite e

whole_solid : (core : Core) (o : Option CoreType) → is_composite (shape_by core o) ≡ true → is_solid o ≡ true
whole_solid core (Some (Record fields)) e = refl
whole_solid core (Some (Array at element)) e = refl
whole_solid core _ e = absurd (not_true e)

pub array_whole : (core : Core) (of at element : TypeId) → type_at core of ≡ Some (Array at element) → IsWhole core of
array_whole core of at element e = ap (λ o. is_composite (shape_by core o)) e

-- ---- what values with parts are not

ordinal_apart : (core : Core) (o : Option CoreType) → IsSomeAnd (range_of o) (λ range. Unit {0}) → is_composite (shape_by core o) ≡ true → ⊥
ordinal_apart core (Some (Integer kind)) h e = not_true e
ordinal_apart core (Some Boolean) h e = not_true e
ordinal_apart core (Some Char) h e = not_true e
ordinal_apart core (Some (Enumeration values)) h e = not_true e
ordinal_apart core (Some (Subrange base low high)) h e = not_true e
ordinal_apart core _ h e = h

pub set_apart : (core : Core) (o : Option CoreType) → IsSomeAnd (base_of o) (λ base. Unit {0}) → is_composite (shape_by core o) ≡ true → ⊥
set_apart core (Some (Set base)) h e = not_true e
set_apart core _ h e = h

instance_apart : (core : Core) (o : Option CoreType) → IsInstance o → is_composite (shape_by core o) ≡ true → ⊥
instance_apart core (Some (Class c)) h e = not_true e
instance_apart core (Some (Interface i)) h e = not_true e
instance_apart core (Some Nil) h e = not_true e
instance_apart core _ h e = h

implemented_apart : (core : Core) (o p : Option CoreType) → IsImplemented core o p → is_composite (shape_by core o) ≡ true → ⊥
implemented_apart core (Some (Class c)) (Some (Interface i)) h e = not_true e
implemented_apart core (Some t) (Some u) h e = h
implemented_apart core (Some t) None h e = h
implemented_apart core None p h e = h

up_apart : (core : Core) (o p : Option CoreType) → IsUp core o p → is_composite (shape_by core o) ≡ true → ⊥
up_apart core (Some (Class c)) (Some (Class d)) h e = not_true e
up_apart core (Some (Interface i)) (Some (Interface j)) h e = not_true e
up_apart core (Some Nil) (Some t) h e = not_true e
up_apart core (Some EmptySet) (Some t) h e = not_true e
up_apart core (Some t) (Some u) h e = h
up_apart core (Some t) None h e = h
up_apart core None p h e = h

wider_first : (q r : Option (ℤ × ℤ)) → IsWider q r → IsSomeAnd q (λ range. Unit {0})
wider_first (Some q) (Some r) h = tt
wider_first _ _ h = absurd h

pub kind_apart : (core : Core) (o : Option CoreType) (t : CoreType) → is_composite (shape_by core (Some t)) ≡ false → o ≡ Some t → is_composite (shape_by core o) ≡ true → ⊥
kind_apart core o t single same e = not_true (sym single ∙ ap (λ o. is_composite (shape_by core o)) (sym same) ∙ e)

members_apart : (core : Core) (members : List ℕ) (o : Option CoreType) → AreMembers core members o → is_composite (shape_by core o) ≡ true → ⊥
members_apart core members (Some (Record fields)) h e = record_members members h
  where
    record_members : (members : List ℕ) → AreMembers core members (Some (Record fields)) → ⊥
    record_members [] h = h
    record_members (m ∷ ms) h = h
members_apart core members (Some (Array at element)) h e = array_members members h
  where
    array_members : (members : List ℕ) → AreMembers core members (Some (Array at element)) → ⊥
    array_members [] h = h
    array_members (m ∷ ms) h = h
members_apart core members _ h e = not_true e

reference_apart : (core : Core) (o : Option CoreType) → is_reference o ≡ true → is_composite (shape_by core o) ≡ true → ⊥
reference_apart core (Some (Record fields)) h e = not_true h
reference_apart core (Some (Array at element)) h e = not_true h
reference_apart core _ h e = not_true e

-- constants have no parts
pub constant_apart : (core : Core) (c : Const) (of : TypeId) → Fits core c of → IsWhole core of → ⊥
constant_apart core (Ordinal n) of h e = ordinal_apart core (type_at core of) (some_then (range_of (type_at core of)) (λ r. Within r n) (λ range. Unit {0}) h (λ r inside. tt)) e
constant_apart core (Text bytes) of h e = kind_apart core (type_at core of) String refl h e
constant_apart core (SetOf members) of h e = members_apart core members (type_at core of) h e
constant_apart core NilOf of h e = reference_apart core (type_at core of) h e

-- ---- conversions

char_apart : (core : Core) (o : Option CoreType) → IsTrue (is_character (host core o)) → is_composite (shape_by core o) ≡ true → ⊥
char_apart core (Some (Record fields)) h e = not_true h
char_apart core (Some (Array at element)) h e = not_true h
char_apart core _ h e = not_true e

-- from values with parts, and to such, there are none
pub converts_from : (core : Core) (c : Conversion) (from to : TypeId) → Converts core c from to → IsWhole core from → from ≡ to
converts_from core Keep from to (inl h) e = one_solid core from to h (whole_solid core (type_at core from) e)
converts_from core Keep from to (inr (inl h)) e = absurd (up_apart core (type_at core from) (type_at core to) h e)
converts_from core Keep from to (inr (inr h)) e = absurd (ordinal_apart core (type_at core from) (wider_first (range_of (type_at core from)) (range_of (type_at core to)) h) e)
converts_from core LowBits from to h e = absurd (ordinal_apart core (type_at core from) h.0 e)
converts_from core Check from to (inl h) e = absurd (ordinal_apart core (type_at core from) h.0 e)
converts_from core Check from to (inr h) e = absurd (set_apart core (type_at core from) h.0 e)
converts_from core ToString from to h e = absurd (char_apart core (type_at core from) h.0 e)
converts_from core ToInterface from to h e = absurd (implemented_apart core (type_at core from) (type_at core to) h e)
converts_from core Instance from to h e = absurd (instance_apart core (type_at core from) h.0 e)

pub converts_to : (core : Core) (c : Conversion) (from to : TypeId) → Converts core c from to → IsWhole core to → from ≡ to
converts_to core c from to h e = converts_same core c from to (whole_solid core (type_at core to) e) h (shape_whole (shape_of core to) e)

-- ---- types that are one

pub one_whole : (core : Core) (a b : TypeId) → OneType core a b → IsWhole core a → a ≡ b
one_whole core a b h e = one_solid core a b h (whole_solid core (type_at core a) e)

pub one_back_whole : (core : Core) (a b : TypeId) → OneType core a b → IsWhole core b → a ≡ b
one_back_whole core a b h e = one_back_solid core a b h (whole_solid core (type_at core b) e)

-- ---- what steps lead through

pub field_whole : (core : Core) (o : Option CoreType) (f : FieldId) → is_solid o ≡ true → HoldsField core o f → is_composite (shape_by core o) ≡ true
field_whole core (Some (Record fields)) f solid h = refl
field_whole core (Some (Class c)) f solid h = absurd (not_true solid)
field_whole core _ f solid h = absurd h

pub index_whole : (core : Core) (o : Option CoreType) (i to : TypeId) → is_solid o ≡ true → Indexes core o i to → is_composite (shape_by core o) ≡ true
index_whole core (Some (Array at element)) i to solid h = refl
index_whole core (Some (DynamicArray element)) i to solid h = absurd (not_true solid)
index_whole core (Some (OpenArray element)) i to solid h = absurd (not_true solid)
index_whole core (Some String) i to solid h = absurd (not_true solid)
index_whole core _ i to solid h = absurd h
