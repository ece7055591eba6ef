-- The walk over the units of a program: depth first, each file once. `stored` are the files, as far as they tell.
use Rattle.std.specs.Prelude.{◌≡◌, ℕ, ◌+◌, ◌-◌, ◌<◌, ◌≤◌, min, Bool, true, false, ⊤, ◌⊎◌, Option, Some, None, Result, Ok, Err, List, [], ◌∷◌, ◌++◌, if◌then◌else◌, length, map, position, slice_get, IfSome, IsSome, IsSomeAnd}
use Rattle.std.specs.Option.{option_and_then}
use Rattle.std.specs.Str.{bytes_eq}
use Rattle.op_base.specs.FileAnswer.{file_named}
use Rattle.op_base.specs.Outside.{Rose}
use Rattle.op_base.specs.declared.files.NamedFile.{NamedFile}
use Rattle.op_base.specs.declared.place.Place.{Place}
use Rattle.op_base.specs.declared.rule.Refusal.{Refusal}
use Rattle.op_core.specs.Faults.{broken}
use Rattle.op_base.specs.Rule.{HasText}
use Rattle.op_parse_code.specs.declared.error.ParseError.{ParseError}
use Rattle.op_parse_code.specs.declared.error.ParseError.TheVariants as parsed
use Rattle.op_tree.specs.declared.file.Tree.{Tree}
use Rattle.op_tree.specs.declared.file.Tree.TheVariants as tree
use Rattle.op_units.specs.Reading.{Breaks, Reads}
use Rattle.op_units.specs.Names.{lower, is_among, is_built_in, is_system, is_sysutils, file_of_unit, IsFolder, interface_uses, implementation_uses, uses_of, name_of}
use Rattle.op_units.specs.declared.error.LoadError.{LoadError}
use Rattle.op_units.specs.declared.error.LoadError.TheVariants.{Refused, ReadFault, NoMemory}
use Rattle.op_units.specs.declared.forest.Forest.{Forest}
use Rattle.op_units.specs.declared.frame.Frame.{Frame}
use Rattle.op_units.specs.declared.uses.Use.{Use}
use Rattle.op_units.specs.declared.walk.Walk.{Walk}

-- ---- how far the walk has come

-- what was read and placed
pub record Walked : Type 0 where
  -- the trees of the files, and their names, in order of reading
  pub trees : List Tree
  pub names : List (List ℕ)
  -- the units among them, which are visited or under visit: their names, and those of the uses lists of their interface parts
  pub units : List (List ℕ)
  pub interfaces : List (List (List ℕ))
  -- the units that are placed
  pub order : List (List ℕ)
  -- the sum of the bytes of the files
  pub size : ℕ

abbrev pub nothing_read : Walked
nothing_read = record { trees = []; names = []; units = []; interfaces = []; order = []; size = 0 }

-- one unit more, if it is one
abbrev pub with_unit : Option (List ℕ) → List (List ℕ) → List (List ℕ)
with_unit None units = units
with_unit (Some unit) units = units ++ unit ∷ []

abbrev pub with_interface : Option (List ℕ) → List (List ℕ) → List (List (List ℕ)) → List (List (List ℕ))
with_interface None names interfaces = interfaces
with_interface (Some unit) names interfaces = interfaces ++ names ∷ []

-- the file of this name, with these bytes and this tree, was read
abbrev pub with_file : Walked → List ℕ → Option (List ℕ) → List ℕ → Tree → Walked
with_file w file unit bytes t = record {
  trees = w.trees ++ t ∷ [];
  names = w.names ++ file ∷ [];
  units = with_unit unit w.units;
  interfaces = with_interface unit (map name_of (interface_uses t)) w.interfaces;
  order = w.order;
  size = w.size + length bytes;
}

-- the unit was placed, if it is one
abbrev pub placed : Walked → Option (List ℕ) → Walked
placed w unit = record w { order = with_unit unit w.order }

-- ---- cycles

-- the names in the interface part of the unit, if it was read
abbrev pub interface_of : List (List ℕ) → List (List (List ℕ)) → List ℕ → Option (List (List ℕ))
interface_of units interfaces unit = option_and_then (λ k. slice_get interfaces k) (position (bytes_eq unit) units)

-- interface uses of the files that were read lead from one unit to another
pub data Lead (units : List (List ℕ)) (interfaces : List (List (List ℕ))) : List ℕ → List ℕ → Type 0 where
  is_there : {a : List ℕ} → Lead units interfaces a a
  goes_on : {a c : List ℕ} (b : List ℕ) (names : List (List ℕ)) → interface_of units interfaces a ≡ Some names → is_among b names ≡ true → Lead units interfaces b c → Lead units interfaces a c

-- a name in the interface part of a unit closes no cycle, where interface uses of the files before do not lead back to the unit
abbrev pub IsOpen : Walked → List ℕ → Use → Type 0
IsOpen w unit used = Lead w.units w.interfaces used.name unit → ⊥

abbrev pub AreOpen : Walked → List ℕ → List Use → Type 0
AreOpen w unit [] = Unit {0}
AreOpen w unit (used ∷ uses) = IsOpen w unit used × AreOpen w unit uses

-- What is visited of the uses of a unit: all, or those in front of the name by which interface uses have a cycle, with the place of that name.
pub data AreVisited (w : Walked) (unit : List ℕ) (interface implementation : List Use) : List Use → Option Place → Type 0 where
  are_all : AreOpen w unit interface → AreVisited w unit interface implementation (interface ++ implementation) None
  are_front : (front rest : List Use) (used : Use) → interface ≡ front ++ used ∷ rest → AreOpen w unit front → Lead w.units w.interfaces used.name unit → AreVisited w unit interface implementation front (Some used.place)

-- ---- one file

-- how many bytes the next file may have
abbrev pub room : ℕ → ℕ
room size = min 4194304 (16777216 - size)

abbrev pub IsMissing : Option (List NamedFile) → List ℕ → Type 0
IsMissing stored path = IfSome stored (λ files. file_named files path ≡ None)

-- the file is there, with more bytes than these
abbrev pub IsTooLarge : Option (List NamedFile) → List ℕ → ℕ → Type 0
IsTooLarge stored path most = IfSome stored (λ files. IsSomeAnd (file_named files path) (λ bytes. most < length bytes))

abbrev pub IsThere : Option (List NamedFile) → List ℕ → Type 0
IsThere stored path = IfSome stored (λ files. IsSome (file_named files path))

-- the file has these bytes, and not too many
abbrev pub Has : Option (List NamedFile) → List ℕ → ℕ → List ℕ → Type 0
Has stored path most bytes = (length bytes ≤ most) × IfSome stored (λ files. file_named files path ≡ Some bytes)

-- where the name in a file is not that by which it is used: the main file is a program, any other one a unit of its name
abbrev pub misnamed : Option (List ℕ) → Tree → Option Place
misnamed None (tree.Program p) = None
misnamed None (tree.Unit u) = Some u.position.place
misnamed (Some unit) (tree.Program p) = Some p.position.place
misnamed (Some unit) (tree.Unit u) = if bytes_eq (lower u.name.text) unit then None else Some u.name.position.place

-- the first name that is used again, or that is one of these
abbrev pub used_again : List (List ℕ) → List Use → Option Place
used_again names [] = None
used_again names (used ∷ uses) = if is_among used.name names then Some used.place else used_again (names ++ used.name ∷ []) uses

abbrev pub own_names : Option (List ℕ) → List (List ℕ)
own_names None = []
own_names (Some unit) = unit ∷ []

-- the first rule that a file breaks by itself; the number is its own in the order of reading
pub data FileBreaks (number : ℕ) (unit : Option (List ℕ)) (bytes : List ℕ) (refusal : Refusal) : Type 0 where
  by_text : Breaks number bytes refusal → FileBreaks number unit bytes refusal
  by_name : (t : Tree) (place : Place) → Reads number bytes t → misnamed unit t ≡ Some place → refusal ≡ broken 12 place → FileBreaks number unit bytes refusal
  by_uses : (t : Tree) (place : Place) → Reads number bytes t → misnamed unit t ≡ None → used_again (own_names unit) (uses_of t) ≡ Some place → refusal ≡ broken 17 place → FileBreaks number unit bytes refusal

-- the uses of a file in its interface part and behind it, where it has the right name and no name is used twice
pub record AreUses (unit : Option (List ℕ)) (t : Tree) (interface implementation : List Use) : Type 0 where
  pub named : misnamed unit t ≡ None
  pub once : used_again (own_names unit) (interface ++ implementation) ≡ None
  pub in_interface : interface ≡ interface_uses t
  pub in_implementation : implementation ≡ implementation_uses t

-- the first rule that a file breaks by itself, as parsing answers, but for want of memory
abbrev pub FileBreaksAs : ℕ → Option (List ℕ) → List ℕ → ParseError → Type 0
FileBreaksAs number unit bytes (parsed.Refused refusal) = FileBreaks number unit bytes refusal
FileBreaksAs number unit bytes parsed.NoMemory = ⊤

-- the tree of a file that breaks none
pub record IsFile (number : ℕ) (unit : Option (List ℕ)) (bytes : List ℕ) (t : Tree) : Type 0 where
  pub reads : Reads number bytes t
  pub named : misnamed unit t ≡ None
  pub once : used_again (own_names unit) (uses_of t) ≡ None

-- the name of a unit, and none of a program
abbrev pub unit_name : Option (List ℕ) → List ℕ
unit_name None = []
unit_name (Some unit) = unit

-- A file is read: what is to be visited of it, and how far the walk has come.
pub record Enters (w : Walked) (file : List ℕ) (unit : Option (List ℕ)) (bytes : List ℕ) (uses : List Use) (closing : Option Place) (new : Walked) : Type 0 where
  pub main : Tree
  pub is_file : IsFile (length w.trees) unit bytes main
  pub visited : AreVisited w (unit_name unit) (interface_uses main) (implementation_uses main) uses closing
  pub new_is : new ≡ with_file w file unit bytes main

-- ---- one name in a uses list

abbrev pub is_known : Walked → List ℕ → Bool
is_known w name = is_among name w.units

-- the unit has no file, or was visited, or is under visit
abbrev pub IsPassed : Walked → List ℕ → Type 0
IsPassed w name = (is_known w name ≡ true) ⊎ (is_system name ≡ true)

-- the unit's file is to be read
pub record IsNew (w : Walked) (name : List ℕ) : Type 0 where
  pub unknown : is_known w name ≡ false
  pub outside : is_built_in name ≡ false

abbrev pub path : List ℕ → List ℕ → List ℕ
path folder unit = folder ++ file_of_unit unit

abbrev pub start_of : ℕ → Place
start_of file = record { file = file; line = 1; col = 1 }

-- The first rule that comes of a name in a uses list of a file, but for those that break in files that the unit uses: the refusal, and the name of
-- the file that it stands in.
pub data UseBreaks (stored : Option (List NamedFile)) (folder : List ℕ) (w : Walked) (file : List ℕ) (used : Use) : Refusal → List ℕ → Type 0 where
  -- the unit is not built yet
  is_unbuilt : is_known w used.name ≡ false → is_sysutils used.name ≡ true → UseBreaks stored folder w file used (record { rule = record { number = 13; feature = 44 }; place = used.place }) file
  is_missing : IsNew w used.name → IsMissing stored (path folder used.name) → UseBreaks stored folder w file used (broken 10 used.place) file
  -- a thousand units have been read
  is_too_many : IsNew w used.name → IsThere stored (path folder used.name) → 1000 ≤ length w.units → UseBreaks stored folder w file used (broken 63 used.place) file
  is_too_large : IsNew w used.name → length w.units < 1000 → IsTooLarge stored (path folder used.name) (room w.size) → UseBreaks stored folder w file used (broken 62 (start_of (length w.trees))) (file_of_unit used.name)
  breaks : {refusal : Refusal} (bytes : List ℕ) → IsNew w used.name → length w.units < 1000 → Has stored (path folder used.name) (room w.size) bytes → FileBreaks (length w.trees) (Some used.name) bytes refusal → UseBreaks stored folder w file used refusal (file_of_unit used.name)

-- the unit's file is read
pub record Opens (stored : Option (List NamedFile)) (folder : List ℕ) (w : Walked) (name : List ℕ) (uses : List Use) (closing : Option Place) (new : Walked) : Type 0 where
  pub bytes : List ℕ
  pub is_new : IsNew w name
  pub has : Has stored (path folder name) (room w.size) bytes
  pub fits : length w.units < 1000
  pub enters : Enters w (file_of_unit name) (Some name) bytes uses closing new

-- ---- the walk

-- how the walk ends: all is read, or a rule is broken in the file of a name
pub data Ends : Type 0 where
  walked : (w : Walked) → Ends
  refused : (refusal : Refusal) (file : List ℕ) → Ends

-- The uses of a file are visited in turn, up to the name that closes a cycle if there is one. A unit is visited by visiting its uses, and placed behind them.
pub data Visits (stored : Option (List NamedFile)) (folder : List ℕ) : List ℕ → Option Place → Walked → List Use → Ends → Type 0 where
  is_done : {file : List ℕ} {w : Walked} → Visits stored folder file None w [] (walked w)
  is_cycle : {file : List ℕ} {place : Place} {w : Walked} → Visits stored folder file (Some place) w [] (refused (broken 11 place) file)
  passes : {file : List ℕ} {closing : Option Place} {w : Walked} {used : Use} {uses : List Use} {end : Ends} → IsPassed w used.name → Visits stored folder file closing w uses end → Visits stored folder file closing w (used ∷ uses) end
  breaks : {file name : List ℕ} {closing : Option Place} {w : Walked} {used : Use} {uses : List Use} {refusal : Refusal} → UseBreaks stored folder w file used refusal name → Visits stored folder file closing w (used ∷ uses) (refused refusal name)
  breaks_within : {file name : List ℕ} {closing within : Option Place} {w m : Walked} {used : Use} {uses inner : List Use} {refusal : Refusal} → Opens stored folder w used.name inner within m → Visits stored folder (file_of_unit used.name) within m inner (refused refusal name) → Visits stored folder file closing w (used ∷ uses) (refused refusal name)
  visits : {file : List ℕ} {closing within : Option Place} {w m n : Walked} {used : Use} {uses inner : List Use} {end : Ends} → Opens stored folder w used.name inner within m → Visits stored folder (file_of_unit used.name) within m inner (walked n) → Visits stored folder file closing (placed n (Some used.name)) uses end → Visits stored folder file closing w (used ∷ uses) end

-- the walk from the main file of this name
pub data Walks (stored : Option (List NamedFile)) (main : List ℕ) : Ends → Type 0 where
  main_is_missing : IsMissing stored main → Walks stored main (refused (broken 10 (start_of 0)) main)
  main_is_too_large : IsTooLarge stored main 4194304 → Walks stored main (refused (broken 62 (start_of 0)) main)
  main_breaks : {refusal : Refusal} (bytes : List ℕ) → Has stored main 4194304 bytes → FileBreaks 0 None bytes refusal → Walks stored main (refused refusal main)
  goes : {folder bytes : List ℕ} {w : Walked} {uses : List Use} {closing : Option Place} {end : Ends} → Has stored main 4194304 bytes → IsFolder main folder → Enters nothing_read main None bytes uses closing w → Visits stored folder main closing w uses end → Walks stored main end

-- ---- the answers

-- the files that are read, and the units in order
pub record IsForest (w : Walked) (forest : Forest) : Type 0 where
  pub trees : forest.trees ≡ w.trees
  pub names : forest.names ≡ w.names
  pub order : forest.order ≡ w.order

pub record GivesForest (stored : Option (List NamedFile)) (main : List ℕ) (forest : Forest) : Type 0 where
  pub all : Walked
  pub walks : Walks stored main (walked all)
  pub is_forest : IsForest all forest

-- an error with its cause; `before` and `after` are the counts of faults of the files
abbrev pub Stops : Option (List NamedFile) → List ℕ → ℕ → ℕ → LoadError → Type 0
Stops stored main before after (Refused refusal file) = Walks stored main (refused refusal file)
Stops stored main before after ReadFault = Rose before after
Stops stored main before after NoMemory = ⊤

-- the rule of a refusal has a text
abbrev pub RefusalHasText : LoadError → Type 0
RefusalHasText (Refused refusal file) = HasText refusal.rule
RefusalHasText ReadFault = ⊤
RefusalHasText NoMemory = ⊤

-- ---- the code's own

abbrev pub walked_of : Walk → Walked
walked_of w = record { trees = w.trees.items; names = w.names.items; units = w.units; interfaces = w.interfaces; order = w.order.items; size = w.size }

-- what comes of a name in a uses list
abbrev pub UseIs : Option (List NamedFile) → List ℕ → List ℕ → Use → Walked → Walked → ℕ → ℕ → Result (Option Frame) LoadError → Type 0
UseIs stored folder file used old new before after (Ok None) = IsPassed old used.name × (new ≡ old)
UseIs stored folder file used old new before after (Ok (Some frame)) = (frame.file ≡ file_of_unit used.name) × (frame.unit ≡ Some used.name) × Opens stored folder old used.name frame.uses.items frame.closing new
UseIs stored folder file used old new before after (Err (Refused refusal name)) = UseBreaks stored folder old file used refusal name
UseIs stored folder file used old new before after (Err ReadFault) = Rose before after
UseIs stored folder file used old new before after (Err NoMemory) = ⊤
