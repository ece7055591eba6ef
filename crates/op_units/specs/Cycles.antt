-- How the walk is done: the search for cycles, and what the steps of the code answer.
use Rattle.std.specs.Prelude.{◌≡◌, ℕ, zero, suc, ◌+◌, ◌<◌, ◌≤◌, true, false, ⊤, ◌⊎◌, Option, Some, None, Result, Ok, Err, List, [], ◌∷◌, ◌++◌, if◌then◌else◌, length, slice_get, take}
use Rattle.op_base.specs.Outside.{Rose}
use Rattle.op_base.specs.declared.files.NamedFile.{NamedFile}
use Rattle.op_base.specs.declared.place.Place.{Place}
use Rattle.op_base.specs.declared.rule.Refusal.{Refusal}
use Rattle.op_core.specs.Faults.{broken}
use Rattle.op_tree.specs.declared.file.Tree.{Tree}
use Rattle.op_units.specs.Names.{is_among}
use Rattle.op_units.specs.Walk.{AreOpen, Enters, FileBreaks, Has, Lead, Stops, Visits, Walked, interface_of, is_known, nothing_read, refused, start_of, with_interface, with_unit}
use Rattle.op_units.specs.declared.error.LoadError.{LoadError}
use Rattle.op_units.specs.declared.error.LoadError.TheVariants.{Refused, ReadFault, NoMemory}
use Rattle.op_units.specs.declared.frame.Frame.{Frame}
use Rattle.op_units.specs.declared.uses.Use.{Use}

-- ---- the search for cycles

-- the names, and those of these that were not among them
abbrev pub with_name : List (List ℕ) → List ℕ → List (List ℕ)
with_name seen name = if is_among name seen then seen else seen ++ name ∷ []

abbrev pub with_names : List (List ℕ) → List (List ℕ) → List (List ℕ)
with_names seen [] = seen
with_names seen (name ∷ names) = with_names (with_name seen name) names

module _ (units : List (List ℕ)) (interfaces : List (List (List ℕ))) where
  -- what the name at this place uses in its interface part is among the names
  abbrev pub ClosedAt : List (List ℕ) → ℕ → Type 0
  ClosedAt seen k = (a b : List ℕ) (names : List (List ℕ)) → slice_get seen k ≡ Some a → interface_of units interfaces a ≡ Some names → is_among b names ≡ true → is_among b seen ≡ true

  -- the names, with all to which interface uses lead from one more
  pub record Reached (old : List (List ℕ)) (start : List ℕ) (new : List (List ℕ)) : Type 0 where
    pub more : List (List ℕ)
    pub grows : new ≡ old ++ more
    pub has : is_among start new ≡ true
    pub closed : ((k : ℕ) → ClosedAt old k) → (k : ℕ) → ClosedAt new k
    pub sound : (name : List ℕ) → is_among name new ≡ true → (is_among name old ≡ true) ⊎ Lead units interfaces start name

-- the use by which interface uses lead back to the unit, the first one
pub record ClosesAt (w : Walked) (unit : List ℕ) (interface : List Use) (k : ℕ) : Type 0 where
  pub front : List Use
  pub rest : List Use
  pub used : Use
  pub parts : interface ≡ front ++ used ∷ rest
  pub number : length front ≡ k
  pub others : AreOpen w unit front
  pub leads : Lead w.units w.interfaces used.name unit

abbrev pub ClosingIs : Walked → List ℕ → List Use → Option ℕ → Type 0
ClosingIs w unit interface None = AreOpen w unit interface
ClosingIs w unit interface (Some k) = ClosesAt w unit interface k

-- ---- a file

-- the unit was not read before; a program is none
abbrev pub IsFresh : Walked → Option (List ℕ) → Type 0
IsFresh w None = Unit {0}
IsFresh w (Some unit) = is_known w unit ≡ false

-- the file of this name and size, with this tree and these names in its interface part, was read
abbrev pub with_parts : Walked → List ℕ → Option (List ℕ) → ℕ → Tree → List (List ℕ) → Walked
with_parts w file unit size t names = record {
  trees = w.trees ++ t ∷ [];
  names = w.names ++ file ∷ [];
  units = with_unit unit w.units;
  interfaces = with_interface unit names w.interfaces;
  order = w.order;
  size = w.size + size;
}

-- what a unit too large is refused by
abbrev pub TooLargeIs : Walked → List ℕ → List ℕ → Place → LoadError → Type 0
TooLargeIs w file bare place (Refused refusal name) = ((1000 ≤ length w.units) × (refusal ≡ broken 63 place) × (name ≡ file)) ⊎ ((length w.units < 1000) × (refusal ≡ broken 62 (start_of (length w.trees))) × (name ≡ bare))
TooLargeIs w file bare place ReadFault = ⊥
TooLargeIs w file bare place NoMemory = ⊤

-- what is to be visited, by the number of the use that closes a cycle
abbrev pub uses_up_to : Option ℕ → List Use → List Use → List Use
uses_up_to None interface implementation = interface ++ implementation
uses_up_to (Some k) interface implementation = take k interface

abbrev pub use_at : List Use → ℕ → Option Place
use_at [] k = None
use_at (used ∷ uses) zero = Some used.place
use_at (used ∷ uses) (suc k) = use_at uses k

abbrev pub closing_at : Option ℕ → List Use → Option Place
closing_at None interface = None
closing_at (Some k) interface = use_at interface k

pub record FrameIs (file : List ℕ) (unit : Option (List ℕ)) (closing : Option ℕ) (interface implementation : List Use) (frame : Frame) : Type 0 where
  pub file_is : frame.file ≡ file
  pub unit_is : frame.unit ≡ unit
  pub uses_are : frame.uses.items ≡ uses_up_to closing interface implementation
  pub closing_is : frame.closing ≡ closing_at closing interface

-- what reading a file of these bytes answers
abbrev pub EnterIs : List ℕ → Option (List ℕ) → List ℕ → Walked → Walked → Result Frame LoadError → Type 0
EnterIs file unit bytes old new (Ok frame) = (frame.file ≡ file) × (frame.unit ≡ unit) × Enters old file unit bytes frame.uses.items frame.closing new
EnterIs file unit bytes old new (Err (Refused refusal name)) = (name ≡ file) × FileBreaks (length old.trees) unit bytes refusal
EnterIs file unit bytes old new (Err ReadFault) = ⊥
EnterIs file unit bytes old new (Err NoMemory) = ⊤

-- ---- the walk

-- this refusal of the file of a name, but for want of memory
abbrev pub RefusesBy : List ℕ → Refusal → LoadError → Type 0
RefusesBy name refusal (Refused given file) = (file ≡ name) × (given ≡ refusal)
RefusesBy name refusal ReadFault = ⊥
RefusesBy name refusal NoMemory = ⊤

-- what reading the main file answers
abbrev pub FirstIs : Option (List NamedFile) → List ℕ → Walked → ℕ → ℕ → Result Frame LoadError → Type 0
FirstIs stored main new before after (Ok frame) = (frame.file ≡ main) × (frame.unit ≡ None) × (bytes : List ℕ) × Has stored main 4194304 bytes × Enters nothing_read main None bytes frame.uses.items frame.closing new
FirstIs stored main new before after (Err e) = Stops stored main before after e

-- why the uses of a file are not visited to their end
abbrev pub StopsAt : Option (List NamedFile) → List ℕ → Frame → Walked → ℕ → ℕ → LoadError → Type 0
StopsAt stored folder frame w before after (Refused refusal file) = Visits stored folder frame.file frame.closing w frame.uses.items (refused refusal file)
StopsAt stored folder frame w before after ReadFault = Rose before after
StopsAt stored folder frame w before after NoMemory = ⊤

-- the frames, with one more in front if there is one
abbrev pub with_frame : Option Frame → List Frame → List Frame
with_frame None frames = frames
with_frame (Some frame) frames = frame ∷ frames
