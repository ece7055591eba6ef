-- Classes and their methods: which class descends from which, and which routine a call of a method enters. (Free Pascal Reference Guide,
-- "Classes", "Virtual methods" and "Abstract methods".)
use Rattle.std.specs.Prelude.{ℕ, zero, suc, Bool, true, false, ◌||◌, List, [], ◌∷◌, length, Option, Some, None, slice_get, nat_eq, if◌then◌else◌}
use Rattle.std.specs.List.{list_any}
use Rattle.std.specs.Str.{str_eq_ignore_ascii_case}
use Rattle.op_core.specs.Rows.{rows}
use Rattle.op_core.specs.Sizes.{type_at}
use Rattle.op_core.specs.declared.class.Binding.{Binding}
use Rattle.op_core.specs.declared.class.Binding.TheVariants.{Static as StaticBinding, Override}
use Rattle.op_core.specs.declared.class.Class.{Class as ClassRow}
use Rattle.op_core.specs.declared.class.Interface.{Interface as Face}
use Rattle.op_core.specs.declared.class.Method.{Method}
use Rattle.op_core.specs.declared.ids.ClassId.{ClassId}
use Rattle.op_core.specs.declared.ids.InterfaceId.{InterfaceId}
use Rattle.op_core.specs.declared.ids.TypeId.{TypeId}
use Rattle.op_core.specs.declared.operation.Dispatch.{Dispatch}
use Rattle.op_core.specs.declared.operation.Dispatch.TheVariants.{Direct, Virtual, Interface as ByInterface}
use Rattle.op_core.specs.declared.program.Core.{Core}
use Rattle.op_core.specs.declared.routine.Routine.{Routine}
use Rattle.op_core.specs.declared.types.CoreType.{CoreType}
use Rattle.op_core.specs.declared.types.CoreType.TheVariants.{Class, Interface}
use Rattle.op_meaning.specs.Values.{Reached, reached, failing, and_then}

abbrev descends_by : (ClassId → Bool) → Option ClassRow → Bool
descends_by inner None = false
descends_by inner (Some x) = above x.ancestor
  where
    above : Option ClassId → Bool
    above None = false
    above (Some a) = inner a

abbrev descends_within : ℕ → Core → ClassId → ClassId → Bool
descends_within zero core d c = false
descends_within (suc n) core d c = nat_eq c.0 d.0 || descends_by (descends_within n core d) (slice_get core.classes c.0)

-- the class is that one or descends from it
abbrev pub descends : Core → ClassId → ClassId → Bool
descends core c d = descends_within (suc (length core.classes)) core d c

-- ---- interfaces ("Interfaces")

abbrev extends_by : (InterfaceId → Bool) → Option Face → Bool
extends_by inner None = false
extends_by inner (Some x) = above x.ancestor
  where
    above : Option InterfaceId → Bool
    above None = false
    above (Some a) = inner a

abbrev extends_within : ℕ → Core → InterfaceId → InterfaceId → Bool
extends_within zero core j i = false
extends_within (suc n) core j i = nat_eq j.0 i.0 || extends_by (λ a. extends_within n core a i) (slice_get core.interfaces j.0)

-- the interface is that one or descends from it
abbrev pub extends : Core → InterfaceId → InterfaceId → Bool
extends core j i = extends_within (suc (length core.interfaces)) core j i

abbrev lists_here : Core → InterfaceId → ClassRow → Bool
lists_here core i x = list_any (λ j. extends core j i) (rows core.listed x.interfaces)

abbrev lister_by : (ClassId → Option ClassId) → Core → InterfaceId → ClassId → Option ClassRow → Option ClassId
lister_by inner core i c None = None
lister_by inner core i c (Some x) = if lists_here core i x then Some c else above x.ancestor
  where
    above : Option ClassId → Option ClassId
    above None = None
    above (Some a) = inner a

abbrev lister_within : ℕ → Core → InterfaceId → ClassId → Option ClassId
lister_within zero core i c = None
lister_within (suc n) core i c = lister_by (lister_within n core i) core i c (slice_get core.classes c.0)

-- the nearest class from this one up that lists the interface or a descendant of it
abbrev pub lister_of : Core → InterfaceId → ClassId → Option ClassId
lister_of core i c = lister_within (suc (length core.classes)) core i c

-- ---- methods by their names

abbrev name_of : Option Routine → List ℕ
name_of None = []
name_of (Some r) = r.name.text

abbrev is_named : Core → List ℕ → Method → Bool
is_named core text m = str_eq_ignore_ascii_case (name_of (slice_get core.routines m.routine.0)) text

abbrev method_here : Core → List ℕ → List Method → Option Method
method_here core text [] = None
method_here core text (m ∷ ms) = if is_named core text m then Some m else method_here core text ms

abbrev or_above : Option Method → Option Method → Option Method
or_above None above = above
or_above (Some m) above = Some m

abbrev named_by : (ClassId → Option Method) → Core → List ℕ → Option ClassRow → Option Method
named_by inner core text None = None
named_by inner core text (Some x) = or_above (method_here core text (rows core.methods x.methods)) (above x.ancestor)
  where
    above : Option ClassId → Option Method
    above None = None
    above (Some a) = inner a

abbrev named_within : ℕ → Core → List ℕ → ClassId → Option Method
named_within zero core text c = None
named_within (suc n) core text c = named_by (named_within n core text) core text (slice_get core.classes c.0)

-- the method of that name in the class or in its nearest ancestor that has one
abbrev pub method_named : Core → List ℕ → ClassId → Option Method
method_named core text c = named_within (suc (length core.classes)) core text c

-- ---- which routine is entered ("Virtual methods"): a method, until another one of its name begins that is no override

pub record Bound : Type 0 where
  pub routine : ℕ
  pub is_over : Bool

abbrev rebound : Option Method → Bound → Bound
rebound None b = b
rebound (Some m) b = by m.binding
  where
    by : Binding → Bound
    by Override = if b.is_over then b else record b { routine = m.routine.0 }
    by other = record b { is_over = true }

abbrev has_method : ℕ → List Method → Bool
has_method r [] = false
has_method r (m ∷ ms) = nat_eq m.routine.0 r || has_method r ms

abbrev bound_by : (ClassId → Bound) → Core → ℕ → Option ClassRow → Bound
bound_by inner core r None = record { routine = r; is_over = false }
bound_by inner core r (Some x) =
    if has_method r (rows core.methods x.methods) then record { routine = r; is_over = false }
    else rebound (method_here core (name_of (slice_get core.routines r)) (rows core.methods x.methods)) (above x.ancestor)
  where
    above : Option ClassId → Bound
    above None = record { routine = r; is_over = false }
    above (Some a) = inner a

abbrev bound_within : ℕ → Core → ℕ → ClassId → Bound
bound_within zero core r c = record { routine = r; is_over = false }
bound_within (suc n) core r c = bound_by (bound_within n core r) core r (slice_get core.classes c.0)

abbrev pub override_of : Core → ℕ → ClassId → ℕ
override_of core r c = (bound_within (suc (length core.classes)) core r c).routine

abbrev is_virtual : Binding → Bool
is_virtual StaticBinding = false
is_virtual b = true

abbrev goes_to : Core → ClassId → Option Method → Reached ℕ
goes_to core c None = failing 216
goes_to core c (Some m) = reached (if is_virtual m.binding then override_of core m.routine.0 c else m.routine.0)

abbrev by_lister : Core → ℕ → ClassId → Option ClassId → Reached ℕ
by_lister core r c None = failing 216
by_lister core r c (Some l) = goes_to core c (method_named core (name_of (slice_get core.routines r)) l)

abbrev interface_of : Option CoreType → InterfaceId
interface_of (Some (Interface i)) = i
interface_of _ = record { 0 = 0 }

abbrev dispatched : Core → ℕ → Dispatch → TypeId → ClassId → Reached ℕ
dispatched core r Direct of c = reached r
dispatched core r Virtual of c = reached (override_of core r c)
dispatched core r ByInterface of c = by_lister core r c (lister_of core (interface_of (type_at core of)) c)

abbrev pub not_abstract : List Method → ℕ → Reached ℕ
not_abstract [] r = reached r
not_abstract (m ∷ ms) r = if nat_eq m.routine.0 r then (if m.is_abstract then failing 211 else reached r) else not_abstract ms r

-- of an instance that is called by the type; an abstract method is error 211
abbrev pub method_for : Core → ℕ → Dispatch → TypeId → ClassId → Reached ℕ
method_for core r dispatch of c = and_then (dispatched core r dispatch of c) (λ q. not_abstract core.methods q)

-- ---- whether an instance of a class is one of a type ("Classes", `is` and `as`)

abbrev is_some : Option ClassId → Bool
is_some None = false
is_some (Some c) = true

abbrev is_one_by : Core → ClassId → Option CoreType → Bool
is_one_by core c (Some (Class d)) = descends core c d
is_one_by core c (Some (Interface i)) = is_some (lister_of core i c)
is_one_by core c t = false

abbrev pub is_one_of : Core → ClassId → TypeId → Bool
is_one_of core c of = is_one_by core c (type_at core of)
