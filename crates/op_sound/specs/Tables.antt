-- What the tables keep besides routines and variables while a program is declared.
use Rattle.std.specs.Prelude.{◌≡◌, ℕ, ◌<◌, ◌≤◌, List, [], ◌∷◌, ◌++◌, take, None}
use Rattle.op_check_unit.specs.System.{empty, with_classes}
use Rattle.op_core.specs.Sizes.{KeepsExtents}
use Rattle.op_core.specs.Sound.{Each, HasSet, IsTypeRow, size_of}
use Rattle.op_core.specs.Types.{id, predefined}
use Rattle.op_core.specs.declared.program.Core.{Core}
use Rattle.op_core.specs.declared.types.CoreType.{CoreType}
use Rattle.op_core.specs.declared.types.CoreType.TheVariants.{Class, DynamicArray, Enumeration, Interface, OpenArray, Set, Subrange}

-- the elements of an array stand in front of it, also where it has no bounds
abbrev pub IsBelow : ℕ → CoreType → Type 0
IsBelow n (DynamicArray element) = element.0 < n
IsBelow n (OpenArray element) = element.0 < n
IsBelow n _ = Unit {0}

-- its values are kept in a word, whatever they are made of
abbrev pub IsPlain : CoreType → Type 0
IsPlain (Enumeration count) = Unit {0}
IsPlain (Subrange base low high) = Unit {0}
IsPlain (Set base) = Unit {0}
IsPlain (DynamicArray element) = Unit {0}
IsPlain _ = ⊥

-- The types that System has, and what no declaration of a program changes.
abbrev pub known_types : List CoreType
known_types = predefined ++ Class (record { 0 = 0 }) ∷ Class (record { 0 = 1 }) ∷ Interface (record { 0 = 0 }) ∷ []

pub record IsSystem (core : Core) : Type 0 where
  pub types : take 19 core.types ≡ known_types
  pub classes : core.classes ≡ (with_classes empty).classes
  pub interfaces : core.interfaces ≡ (with_classes empty).interfaces
  pub listed : core.listed ≡ (with_classes empty).listed
  pub methods : core.methods ≡ []
  pub properties : core.properties ≡ []
  pub exceptions : core.exceptions ≡ None

pub record IsTabled (core : Core) : Type 0 where
  pub system : IsSystem core
  pub types : Each core.types (IsTypeRow core)
  pub below : Each core.types IsBelow
  pub sets : Each core.types (HasSet core)
  pub extents : KeepsExtents core
  pub sizes : Each core.types (λ n t. size_of core (id n) ≤ 1048576)
