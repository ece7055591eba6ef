-- What every typed program keeps that the checker gives. The limits are those of this compiler.
use Rattle.std.specs.Prelude.{◌≡◌, ℕ, suc, pos, ◌+◌, ◌<◌, ◌≤◌, ◌≤ℤ◌, ◌≢◌, Bool, true, false, List, [], ◌∷◌, ◌++◌, Option, Some, None, IsSome, IsTrue, IsSomeAnd, IfSome, if◌then◌else◌, length, nat_le, slice_get, take, map, codes, replicate, ◌⊎◌}
use Rattle.std.specs.Char.{to_ascii_lowercase}
use Rattle.std.specs.List.{All, Contains, filter, flat_map, sum_by}
use Rattle.std.specs.Option.{option_and_then, option_map, option_to_list}
use Rattle.std.proofs.Common.{refl}
use Rattle.std.proofs.lemmas.Bool.{false≢true}
use Rattle.op_core.specs.Needs.{Fact, always, both, class_such, fields_such, has_form, four, interface_such, of_kind, has_part, type_there, where_so, IsSo}
use Rattle.op_core.specs.Heading.{is_same_heading}
use Rattle.op_core.specs.Initial.{FirstValue, constant, parts, FirstValues, no_values, values, first_value_of}
use Rattle.op_core.specs.Members.{There, Kind, InRun, Descends, AsksFor, HasMethod}
pub use Rattle.op_core.specs.Rows.{Fit, Row}
use Rattle.op_core.specs.Rows.{rows}
use Rattle.op_core.specs.Sizes.{type_at, range_of, values_of, extent_of, KeepsExtents}
use Rattle.op_core.specs.Statement.{stmts_of}
use Rattle.op_core.specs.StatementTyping.{AreStatements, Here}
use Rattle.op_core.specs.Types.{id, predefined}
use Rattle.op_core.specs.Typing.{Sees, Fits, Within, element_of, ordinal}
use Rattle.op_core.specs.declared.class.Accessor.{Accessor}
use Rattle.op_core.specs.declared.class.Accessor.TheVariants.{Field as ByField, Method as ByMethod}
use Rattle.op_core.specs.declared.class.Binding.TheVariants.{Static, Override}
use Rattle.op_core.specs.declared.class.Class.{Class as RustClass}
use Rattle.op_core.specs.declared.class.Interface.{Interface as Face}
use Rattle.op_core.specs.declared.class.Method.{Method}
use Rattle.op_core.specs.declared.class.Property.{Property}
use Rattle.op_core.specs.declared.ids.ClassId.{ClassId}
use Rattle.op_core.specs.declared.ids.InterfaceId.{InterfaceId}
use Rattle.op_core.specs.declared.ids.RoutineId.{RoutineId}
use Rattle.op_core.specs.declared.ids.Run.{Run}
use Rattle.op_core.specs.declared.ids.TypeId.{TypeId}
use Rattle.op_core.specs.declared.ids.VariableId.{VariableId}
use Rattle.op_core.specs.declared.program.Core.{Core}
use Rattle.op_core.specs.declared.program.ExceptionClasses.{ExceptionClasses}
use Rattle.op_core.specs.declared.program.Unit.{Unit as RustUnit}
use Rattle.op_core.specs.declared.routine.Owner.{Owner}
use Rattle.op_core.specs.declared.routine.Owner.TheVariants.{Unit as OfUnit, Class as OfClass, Interface as OfInterface}
use Rattle.op_core.specs.declared.routine.Role.{Role}
use Rattle.op_core.specs.declared.routine.Role.TheVariants.{Plain, Constant, Parameter, Object, Result, Handler}
use Rattle.op_core.specs.declared.routine.Routine.{Routine}
use Rattle.op_core.specs.declared.routine.Variable.{Variable}
use Rattle.op_core.specs.declared.types.CoreType.{CoreType}
use Rattle.op_core.specs.declared.types.CoreType.TheVariants.{Integer, Boolean, Char, Enumeration, Subrange, Set, Record, Array, DynamicArray, OpenArray, Class, Interface, Broken}
use Rattle.op_core.specs.declared.types.IntegerKind.TheVariants.{Signed32}
use Rattle.op_tree.specs.declared.heading.RoutineKind.TheVariants.{Destructor}

-- ---- ids in range

-- this holds of each row, by its number
abbrev pub Each : {A : Type 0} → List A → (ℕ → A → Type 0) → Type 0
Each {A} table P = (n : ℕ) (a : A) → slice_get table n ≡ Some a → P n a

-- ---- chains of ancestors, and of routines round a routine

-- so many steps lead to one that has nothing above it
pub data Depth (above : ℕ → Option ℕ) : ℕ → ℕ → Type 0 where
  top : {n : ℕ} → above n ≡ None → Depth above n 0
  below : {n m k : ℕ} → above n ≡ Some m → Depth above m k → Depth above n (suc k)

abbrev pub EndsWithin : ℕ → (ℕ → Option ℕ) → ℕ → Type 0
EndsWithin most above n = (k : ℕ) × Depth above n k × (k ≤ most)

abbrev pub ancestor_of : Core → ℕ → Option ℕ
ancestor_of core n = option_and_then (λ x. option_map (λ a. a.0) x.ancestor) (slice_get core.classes n)

abbrev pub extended_by : Core → ℕ → Option ℕ
extended_by core n = option_and_then (λ x. option_map (λ a. a.0) x.ancestor) (slice_get core.interfaces n)

abbrev pub enclosing_of : Core → ℕ → Option ℕ
enclosing_of core n = option_and_then (λ x. option_map (λ a. a.0) x.enclosing) (slice_get core.routines n)

-- ---- types

-- of a row in front of that one, and ordinal
abbrev pub range_row : ℕ → TypeId → Fact
range_row n base = both (always (base.0 < n)) (ordinal base)

-- what subranges are of: the type of all values of a kind
abbrev pub is_whole : Option CoreType → Bool
is_whole (Some (Integer Signed32)) = true
is_whole (Some Boolean) = true
is_whole (Some Char) = true
is_whole (Some (Enumeration count)) = true
is_whole _ = false

abbrev pub type_row : ℕ → CoreType → Fact
type_row n (Enumeration count) = always ((0 < count) × (count ≤ 65536))
type_row n (Subrange base low high) = four (range_row n base) (has_part range_of refl base (λ r. always (Within r low × Within r high))) (always (low ≤ℤ high)) (has_form (λ t. IsTrue (is_whole t)) false≢true base)
type_row n (Set base) = both (range_row n base) (has_part range_of refl base (λ r. always ((pos 0 ≤ℤ r.0) × (r.1 ≤ℤ pos 31))))
type_row n (Record fields) = fields_such fields (λ f. f.of.0 < n)
type_row n (Array index element) = both (range_row n index) (always (element.0 < n))
type_row n (DynamicArray element) = type_there element
type_row n (OpenArray element) = type_there element
type_row n (Class c) = class_such c (λ x. x.of.0 ≡ n)
type_row n (Interface i) = interface_such i (λ x. x.of.0 ≡ n)
type_row n Broken = always ⊥
type_row n _ = always (Unit {0})

abbrev pub IsTypeRow : Core → ℕ → CoreType → Type 0
IsTypeRow core n t = IsSo core (type_row n t)

-- Right behind an enumeration or a subrange within 0 to 31 stands its set type, behind a larger enumeration the subrange of its
-- first 32 values.
abbrev pub set_behind : ℕ → CoreType → Fact
set_behind n (Enumeration count) = of_kind (id (n + 1)) (if nat_le count 32 then Set (id n) else Subrange (id n) (pos 0) (pos 31))
set_behind n (Subrange base low high) = where_so (pos 0 ≤ℤ low) (where_so (high ≤ℤ pos 31) (of_kind (id (n + 1)) (Set (id n))))
set_behind n _ = always (Unit {0})

abbrev pub HasSet : Core → ℕ → CoreType → Type 0
HasSet core n t = IsSo core (set_behind n t)

-- the second is a part of the first through records and arrays alone
pub data Holds (core : Core) : TypeId → TypeId → Type 0 where
  of_element : {a b : TypeId} → element_of (type_at core a) ≡ Some b → Holds core a b
  of_field : {a b : TypeId} {fields : Run} → Kind core a (Record fields) → Contains (map (λ f. f.of) (rows core.fields fields)) b → Holds core a b
  through : {a b c : TypeId} → Holds core a b → Holds core b c → Holds core a c

abbrev pub size_of : Core → TypeId → ℕ
size_of core of = (extent_of core of).size

-- ---- classes and interfaces

abbrev lower : List ℕ → List ℕ
lower text = map to_ascii_lowercase text

-- the two routines have the same name and the same heading
abbrev Matches : Core → RoutineId → RoutineId → Type 0
Matches core a b = There core.routines a.0 (λ x. There core.routines b.0 (λ y. (lower x.name.text ≡ lower y.name.text) × IsTrue (is_same_heading core x y)))

-- an ancestor has a virtual method that this one takes the place of
pub record Overrides (core : Core) (parent : ClassId) (m : Method) : Type 0 where
  pub owner : ClassId
  pub descends : Descends core parent owner
  pub old : Method
  pub declares : There core.classes owner.0 (λ x. Contains (rows core.methods x.methods) old)
  pub is_virtual : old.binding ≢ Static
  pub matches : Matches core old.routine m.routine

-- the one destructor is Destroy, without parameters; it is overridden everywhere but in TObject
abbrev IsDestructor : RustClass → Method → Routine → Type 0
IsDestructor x m r = (lower r.name.text ≡ codes "destroy") × (r.parameters.count ≡ 0) × (IsSome x.ancestor → m.binding ≡ Override)

pub record IsMethod (core : Core) (n : ℕ) (x : RustClass) (m : Method) (r : Routine) : Type 0 where
  pub owner : r.owner ≡ OfClass (record { 0 = n })
  pub overrides : m.binding ≡ Override → IsSomeAnd x.ancestor (λ a. Overrides core a m)
  pub destructor : r.kind ≡ Destructor → IsDestructor x m r
  pub body : m.is_abstract ≡ false → IsSome r.body

abbrev IsAccessor : Core → Accessor → Type 0
IsAccessor core (ByField f) = Row core.fields f.0
IsAccessor core (ByMethod r) = Row core.routines r.0

abbrev IsProperty : Core → Property → Type 0
IsProperty core p = Row core.types p.of.0 × IfSome p.read (IsAccessor core) × IfSome p.write (IsAccessor core)

pub record IsClass (core : Core) (n : ℕ) (x : RustClass) : Type 0 where
  pub of : Kind core x.of (Class (record { 0 = n }))
  pub unit : Row core.units x.unit.0
  pub complete : x.complete ≡ true
  pub root : x.ancestor ≡ None → n ≡ 0
  pub ancestors : EndsWithin 64 (ancestor_of core) n
  pub runs : Fit core.listed x.interfaces × Fit core.fields x.fields × Fit core.methods x.methods × Fit core.properties x.properties
  pub fields : All (λ f. Row core.types f.of.0) (rows core.fields x.fields)
  pub properties : All (IsProperty core) (rows core.properties x.properties)
  pub methods : All (λ m. There core.routines m.routine.0 (IsMethod core n x m)) (rows core.methods x.methods)
  pub interfaces : All (λ i. Row core.interfaces i.0) (rows core.listed x.interfaces)
  pub implements : (i : InterfaceId) → Contains (rows core.listed x.interfaces) i → (asked : RoutineId) → AsksFor core i asked → (own : RoutineId) × HasMethod core (record { 0 = n }) own × Matches core own asked

pub record IsInterface (core : Core) (n : ℕ) (x : Face) : Type 0 where
  pub of : Kind core x.of (Interface (record { 0 = n }))
  pub unit : Row core.units x.unit.0
  pub complete : x.complete ≡ true
  pub ancestors : EndsWithin (length core.interfaces) (extended_by core) n
  pub methods : Fit core.methods x.methods × All (λ m. There core.routines m.routine.0 (λ r. r.owner ≡ OfInterface (record { 0 = n }))) (rows core.methods x.methods)

-- ---- variables and routines

abbrev mutual
  pub IsFirst : Core → CoreType → TypeId → FirstValue → Type 0
  IsFirst core t of (constant v) = Fits core v of
  IsFirst core (Record fields) of (parts vs) = AreFirst core (map (λ f. f.of) (rows core.fields fields)) vs
  IsFirst core (Array index element) of (parts vs) = AreFirst core (replicate (values_of (range_of (type_at core index))) element) vs
  IsFirst core _ of (parts vs) = ⊥

  pub AreFirst : Core → List TypeId → FirstValues → Type 0
  AreFirst core [] no_values = Unit {0}
  AreFirst core (of ∷ ofs) (values v vs) = IsSomeAnd (type_at core of) (λ t. IsFirst core t of v) × AreFirst core ofs vs
  AreFirst core _ _ = ⊥

abbrev pub IsVariableRow : Core → Variable → Type 0
IsVariableRow core v = IsSomeAnd (type_at core v.of) (λ t. IfSome v.first_value (λ i. IsFirst core t v.of (first_value_of i.value)))

abbrev pub is_declared : Role → Bool
is_declared Plain = true
is_declared Constant = true
is_declared _ = false

-- together, in bytes
abbrev pub bytes_of : Core → List Variable → ℕ
bytes_of core vs = sum_by (λ v. size_of core v.of) vs

abbrev pub at_start : Routine → Here
at_start r = record { result = r.result; handler = false; loop = false; routine = true }

abbrev pub IsBody : Core → Sees → Routine → Type 0
IsBody core sees r = IfSome r.body (λ b. AreStatements core sees (at_start r) (stmts_of b.statements.items))

abbrev pub IsOwner : Core → Owner → Type 0
IsOwner core OfUnit = Unit {0}
IsOwner core (OfClass c) = Row core.classes c.0
IsOwner core (OfInterface i) = Row core.interfaces i.0

-- what a variable is, and of which type
abbrev pub RoleAndType : Type 0
RoleAndType = Role × TypeId

abbrev pub role_and_type : Variable → RoleAndType
role_and_type v = (v.role, v.of)

-- of a method the object, which is of the type of its class
abbrev pub object_in : Core → Owner → List RoleAndType
object_in core OfUnit = []
object_in core (OfClass c) = map (λ x. (Object, x.of)) (option_to_list (slice_get core.classes c.0))
object_in core (OfInterface i) = map (λ x. (Object, x.of)) (option_to_list (slice_get core.interfaces i.0))

-- the object, each parameter with its mode, and the result
abbrev pub first_rows : Core → Routine → List RoleAndType
first_rows core r = object_in core r.owner ++ map (λ p. (Parameter p.mode, p.of)) (rows core.parameters r.parameters) ++ map (λ of. (Result, of)) (option_to_list r.result)

-- declared by a block, and not by a heading: variables, typed constants, and what handlers declare
abbrev pub is_of_block : Role → Bool
is_of_block Plain = true
is_of_block Constant = true
is_of_block Handler = true
is_of_block _ = false

-- these come first, and all others are of the block
pub record BeginWith (first : List RoleAndType) (vs : List Variable) : Type 0 where
  pub others : List RoleAndType
  pub are : map role_and_type vs ≡ first ++ others
  pub of_block : All (λ o. IsTrue (is_of_block o.0)) others

-- the variables of its activations
abbrev pub HasRows : Core → Routine → Type 0
HasRows core r = BeginWith (first_rows core r) (rows core.variables r.variables)

pub record IsRoutine (core : Core) (r : Routine) : Type 0 where
  pub unit : Row core.units r.unit.0
  pub owner : IsOwner core r.owner
  pub enclosing : IfSome r.enclosing (λ e. Row core.routines e.0)
  pub runs : Fit core.parameters r.parameters × Fit core.variables r.variables
  pub parameters : All (λ p. Row core.types p.of.0) (rows core.parameters r.parameters)
  pub result : IfSome r.result (λ of. Row core.types of.0)
  pub has_body : r.owner ≡ OfUnit → IsSome r.body
  pub begins : IsSome r.body → HasRows core r
  pub locals : bytes_of core (filter (λ v. is_declared v.role) (rows core.variables r.variables)) ≤ 1048576

-- ---- while a program is declared

-- a routine that is no method, by its heading
abbrev pub IsHeaded : Core → Routine → Type 0
IsHeaded core r = (r.owner ≡ OfUnit) × Fit core.parameters r.parameters × IfSome r.result (λ of. Row core.types of.0)

-- what typed trees rest on
pub record IsFounded (core : Core) : Type 0 where
  pub types : Each core.types (IsTypeRow core)
  pub predefined : take 16 core.types ≡ predefined
  pub sets : Each core.types (HasSet core)
  pub parameters : All (λ p. Row core.types p.of.0) core.parameters
  pub variables : All (λ v. Row core.types v.of.0) core.variables
  pub routines : All (IsHeaded core) core.routines

-- ---- programs

abbrev pub IsPart : Core → Option RoutineId → Type 0
IsPart core part = IfSome part (λ p. There core.routines p.0 (λ r. (r.owner ≡ OfUnit) × (r.parameters.count ≡ 0)))

abbrev pub IsUnit : Core → RustUnit → Type 0
IsUnit core u = Fit core.globals u.globals × All (λ v. Row core.variables v.0) (rows core.globals u.globals) × IsPart core u.initialization × IsPart core u.finalization

abbrev pub AreExceptions : Core → ExceptionClasses → Type 0
AreExceptions core x =
    All (λ c. Row core.classes c.0 × Descends core c x.exception) (x.exception ∷ x.zero_divisor ∷ x.range ∷ x.overflow ∷ x.cast ∷ [])
    × There core.classes x.exception.0 (λ c. InRun c.fields x.message.0)

-- the rows of all global variables
abbrev pub globals_of : Core → List Variable
globals_of core = flat_map (λ v. option_to_list (slice_get core.variables v.0)) core.globals

-- bodies may name whatever is there
abbrev pub everything : Core → Sees
everything core = record { variable = λ v. Row core.variables v.0; routine = λ r. Row core.routines r.0 }

pub record IsSound (core : Core) : Type 0 where
  pub types : Each core.types (IsTypeRow core)
  pub finite : (a : TypeId) → Holds core a a → ⊥
  pub predefined : take 16 core.types ≡ predefined
  pub sets : Each core.types (HasSet core)
  pub extents : KeepsExtents core
  pub sizes : Each core.types (λ n t. size_of core (id n) ≤ 1048576)
  pub classes : Each core.classes (IsClass core)
  pub interfaces : Each core.interfaces (IsInterface core)
  pub descriptions : length core.classes + length core.interfaces ≤ 4096
  pub variables : All (IsVariableRow core) core.variables
  pub routines : All (IsRoutine core) core.routines
  pub bodies : All (IsBody core (everything core)) core.routines
  pub units : All (IsUnit core) core.units
  pub globals : bytes_of core (globals_of core) ≤ 8388608
  pub exceptions : IfSome core.exceptions (AreExceptions core)

-- ---- nesting

-- it is the routine, or stands round it
pub data Encloses (core : Core) : ℕ → ℕ → Type 0 where
  itself : {n : ℕ} → Encloses core n n
  further : {n m k : ℕ} → enclosing_of core n ≡ Some m → Encloses core m k → Encloses core n k

abbrev pub IsGlobal : Core → VariableId → Type 0
IsGlobal core v = Contains core.globals v

-- globals and the variables of the routine and of those round it, routines that stand in none or in one of these
abbrev pub within : Core → ℕ → Sees
within core n = record {
  variable = λ v. IsGlobal core v ⊎ ((m : ℕ) × Encloses core n m × There core.routines m (λ r. InRun r.variables v.0));
  routine = λ r. There core.routines r.0 (λ x. (x.enclosing ≡ None) ⊎ IsSomeAnd x.enclosing (λ e. Encloses core n e.0));
}

pub record IsSoundNesting (core : Core) : Type 0 where
  pub methods : All (λ r. r.owner ≢ OfUnit → r.enclosing ≡ None) core.routines
  pub ends : Each core.routines (λ n r. EndsWithin (length core.routines) (enclosing_of core) n)
  pub bodies : Each core.routines (λ n r. IsBody core (within core n) r)
