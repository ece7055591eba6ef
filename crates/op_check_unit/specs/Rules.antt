-- The rules that a whole program breaks, with its units.
use Rattle.std.specs.Prelude.{◌≡◌, ℕ, ◌+◌, List, [], ◌∷◌, length, slice_get, Option, Some, None, Result, Ok, Err}
use Rattle.op_base.specs.declared.rule.Refusal.{Refusal}
use Rattle.op_check_unit.specs.Interfaces.{interface_order, unit_at}
use Rattle.op_check_unit.specs.Programs.{Outline, blank_outline, in_unit, interface_means, outline, outline_faults, outlined, program_declared, start, unit_completes, units_mean}
use Rattle.op_check_unit.specs.Steps.{Here}
use Rattle.op_check_unit.specs.System.{beginning}
use Rattle.op_check_unit.specs.declared.uses.Export.{Export}
use Rattle.op_core.specs.Faults.{Faults}
use Rattle.op_core.specs.Relations.{Either, IsFirstOf, Never, NoneBroken, Only, Where}
use Rattle.op_core.specs.declared.error.CheckError.{CheckError}
use Rattle.op_core.specs.declared.error.CheckError.TheVariants.{Refused, NoMemory}
use Rattle.op_core.specs.declared.program.Core.{Core}
use Rattle.op_judgement.specs.Judgement.{fault}
use Rattle.op_judgement.specs.declared.rules.LanguageRule.TheVariants.{OtherFile}
use Rattle.op_judgement.specs.Steps.{Breaks, behind}
use Rattle.op_tree.specs.File.{File, Program, UnitFile, program}

-- ---- interface parts

abbrev pub InterfaceBreaksBy : ℕ → Option (Option Export) → Option UnitFile → Outline → Refusal → Type 0
InterfaceBreaksBy k (Some None) (Some u) o = Breaks (interface_means o.exports u (in_unit k o.here))
InterfaceBreaksBy k e u o = Never

-- The interface part of one unit, where these are declared one behind the other.
abbrev pub BreaksAmong : List (List ℕ) → List File → List ℕ → Outline → ℕ → Refusal → Type 0
BreaksAmong order fs [] o k = Never
BreaksAmong order fs (j ∷ js) o k =
    Either (Where (j ≡ k) (InterfaceBreaksBy j (slice_get o.exports j) (unit_at order fs j) o)) (BreaksAmong order fs js (outlined order fs j o) k)

-- ---- units and the program

-- A unit is asked, with the rules that its interface part breaks, only where those before it break no rule.
abbrev pub UnitsBreak : List File → List (Option Export) → (ℕ → Refusal → Type 0) → ℕ → List (Option Export) → Here → Refusal → Type 0
UnitsBreak fs es B k [] h = Never
UnitsBreak fs es B k (e ∷ rest) h =
    let P = Either (B k) (Breaks (unit_completes fs es e h)) in
    Either P (Where (NoneBroken P) (UnitsBreak fs es B (k + 1) rest (behind (unit_completes fs es e h))))

-- the units in their order, and the program where these break no rule
abbrev pub PartsOfProgramBreak : Program → List (List ℕ) → List File → (ℕ → Refusal → Type 0) → (ℕ → Faults) → Outline → Refusal → Type 0
PartsOfProgramBreak p order fs B faults o =
    let P = UnitsBreak fs o.exports B 0 o.exports o.here in
    Either P (Where (NoneBroken P) (Breaks (program_declared o.exports p (in_unit (length order) (units_mean fs o.exports faults 0 o.exports o.here).here))))

abbrev pub FilesBreak : List File → List (List ℕ) → Here → Refusal → Type 0
FilesBreak (program p ∷ fs) order h =
    PartsOfProgramBreak p order fs (BreaksAmong order fs (interface_order order fs) (blank_outline order h)) (outline_faults order fs h) (outline order fs h)
FilesBreak _ order h = Only (fault OtherFile start)

-- a program and its units stand behind the unit System
abbrev pub ProgramBreaks : List File → List (List ℕ) → Refusal → Type 0
ProgramBreaks fs order = FilesBreak fs order beginning

-- ---- the answer

-- no rule is broken, or this is the first one that is
abbrev pub Obeys : (Refusal → Type 0) → Result Core CheckError → Type 0
Obeys B (Ok core) = NoneBroken B
Obeys B (Err (Refused r)) = IsFirstOf B r
Obeys B (Err NoMemory) = Unit {0}
