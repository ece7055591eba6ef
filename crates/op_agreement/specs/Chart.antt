-- Where the values of a running program lie in memory.
use Rattle.std.specs.Prelude.{◌≡◌, ◌≤◌, ◌⊎◌, ℕ, ◌+◌}
use Rattle.op_constants.specs.Lies.{Lies, Leads, arrangement_of}
use Rattle.op_constants.specs.Offsets.{size_in}
use Rattle.op_core.specs.declared.ids.TypeId.{TypeId}
use Rattle.op_core.specs.declared.program.Core.{Core}
use Rattle.op_places.specs.Homes.{home_at, offset_of}
use Rattle.op_places.specs.declared.frame.Frame.{Frame}
use Rattle.op_places.specs.declared.homes.Home.{Home}
use Rattle.op_places.specs.declared.homes.Home.TheVariants.{Stored}
use Rattle.op_meaning.specs.Shapes.{no_type, type_of_local, type_of_variable}
use Rattle.op_meaning.specs.Values.{Value, Holder, global, local, temporary, object, Place}
use Rattle.op_mir.specs.declared.code.Routine.{Routine}
use Rattle.op_mir.specs.declared.path.Root.TheVariants.{Local, Temporary}
use Rattle.op_rv.specs.declared.symbol.Symbol.TheVariants.{Global}
use Rattle.op_agreement.specs.Settings.{Setting, StoredAt}
use Rattle.op_agreement.specs.Typed.{IsGlobal}

-- the routine of an activation, and where its locals begin
pub record Floor : Type 0 where
  pub number : ℕ
  pub routine : Routine
  pub frame : Frame
  pub base : ℕ

-- how far behind the first of the locals what is stored begins
abbrev pub stored_offset : Home → ℕ
stored_offset (Stored offset) = offset
stored_offset _ = 0

-- What lies in memory, where so many activations are below the one under way: globals, and of each activation what has an address in its
-- locals.
abbrev pub Live : Core → (ℕ → Floor) → (depth : ℕ) → Holder → Type 0
Live core floors depth (global v) = IsGlobal core v
Live core floors depth (local d v) =
    (d ≤ depth) × StoredAt core (floors d).number (floors d).frame (Local (record { 0 = v })) (stored_offset (home_at (floors d).frame.homes (record { 0 = v })))
Live core floors depth (temporary d of n) =
    (d ≤ depth) × StoredAt core (floors d).number (floors d).frame (Temporary of n) (offset_of core (Temporary of n) (floors d).frame.temporaries (floors d).frame.roots)
Live core floors depth (object name) = ⊥

abbrev pub type_held : Core → (ℕ → Floor) → Holder → TypeId
type_held core floors (global v) = type_of_variable core v
type_held core floors (local d v) = type_of_local core (floors d).number v
type_held core floors (temporary d of n) = of
type_held core floors (object name) = no_type

abbrev pub address_of : Setting → (ℕ → Floor) → Holder → ℕ
address_of g floors (global v) = g.placement.address (Global (record { 0 = v }))
address_of g floors (local d v) = (floors d).base + stored_offset (home_at (floors d).frame.homes (record { 0 = v }))
address_of g floors (temporary d of n) = (floors d).base + offset_of g.core (Temporary of n) (floors d).frame.temporaries (floors d).frame.roots
address_of g floors (object name) = 0

-- each value that is live lies at its address
abbrev pub AllLie : Setting → (ℕ → Floor) → (depth : ℕ) → (Holder → Value) → (ℕ → ℕ) → Type 0
AllLie g floors depth values memory =
    (h : Holder) → Live g.core floors depth h → Lies (arrangement_of g.core (type_held g.core floors h)) (values h) memory (address_of g floors h)

-- A place of the type is live, and this is its address. What has no bytes may have any address.
pub record IsAt (g : Setting) (floors : ℕ → Floor) (depth : ℕ) (q : Place) (of : TypeId) (a : ℕ) : Type 0 where
  pub live : Live g.core floors depth q.holder
  pub distance : ℕ
  pub leads : Leads (arrangement_of g.core (type_held g.core floors q.holder)) q.path (arrangement_of g.core of) distance
  pub at : (size_in g.core of ≡ 0) ⊎ (a ≡ address_of g floors q.holder + distance)
