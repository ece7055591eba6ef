-- The rules that a program breaks are exactly its faults.
use Rattle.std.proofs.Common.{◌≡◌, ℕ, ◌+◌, Bool, true, false, if◌then◌else◌, List, [], ◌∷◌, length, nat_eq, slice_get, Option, Some, None, Result, Ok, Err, refl, arith}
use Rattle.std.proofs.lemmas.Bool.{eqb-true}
use Rattle.std.proofs.lemmas.Bool.Decides.{nat_tests}
use Rattle.op_base.specs.declared.rule.Refusal.{Refusal}
use Rattle.op_check_unit.specs.Checking.{CheckIs}
use Rattle.op_check_unit.specs.Interfaces.{interface_order, unit_at}
use Rattle.op_check_unit.specs.Programs.{Outline, blank_outline, faulted, faults_among, files_mean, in_unit, interface_faults_by, interface_means, outline, outline_faults, outlined, parts_of_program, program_declared, program_means, start, unit_completes, units_mean}
use Rattle.op_check_unit.specs.Rules.{BreaksAmong, FilesBreak, InterfaceBreaksBy, Obeys, PartsOfProgramBreak, ProgramBreaks, UnitsBreak}
use Rattle.op_check_unit.specs.Steps.{Given, Here}
use Rattle.op_check_unit.specs.System.{beginning}
use Rattle.op_check_unit.specs.declared.uses.Export.{Export}
use Rattle.op_core.proofs.Agreeing.{first_broken, lists_both, lists_none, lists_one, none_broken}
use Rattle.op_core.specs.Faults.{Faults, none}
use Rattle.op_core.specs.Relations.{Lists, Where}
use Rattle.op_core.specs.declared.error.CheckError.{CheckError}
use Rattle.op_core.specs.declared.error.CheckError.TheVariants.{Refused, NoMemory}
use Rattle.op_core.specs.declared.program.Core.{Core}
use Rattle.op_judgement.proofs.Clear.{lists_unless}
use Rattle.op_judgement.proofs.Stepping.{agrees}
use Rattle.op_judgement.specs.Judgement.{fault}
use Rattle.op_judgement.specs.declared.rules.LanguageRule.TheVariants.{OtherFile}
use Rattle.op_judgement.specs.Steps.{Breaks, Step, done}
use Rattle.op_tree.specs.File.{File, Program, UnitFile, program, unit}

broken : (g : Step Here (Unit {0})) → Lists (done g).faults (Breaks g)
broken g = (agrees g).1

-- ---- interface parts

interface_law_by : (k : ℕ) (e : Option (Option Export)) (u : Option UnitFile) (o : Outline) → Lists (interface_faults_by k e u o) (InterfaceBreaksBy k e u o)
interface_law_by k (Some None) (Some u) o = broken (interface_means o.exports u (in_unit k o.here))
interface_law_by k (Some None) None o = lists_none
interface_law_by k (Some (Some e)) u o = lists_none
interface_law_by k None u o = lists_none

pub other_number : (j k : ℕ) → nat_eq j k ≡ false → j ≡ k → ⊥
other_number j k e f = grind (arith, nat_tests, e, f)

lists_at : {f : Faults} {P : Refusal → Type 0} (j k : ℕ) (b : Bool) → nat_eq j k ≡ b → Lists f P → Lists (if b then f else none) (Where (j ≡ k) P)
lists_at j k true e l r = (λ i. (eqb-true j k e, (l r).0 i), λ s. (l r).1 s.1)
lists_at j k false e l r = (λ i. elim i [ ], λ s. absurd (other_number j k e s.0))

among_law : (order : List (List ℕ)) (fs : List File) (ks : List ℕ) (o : Outline) (k : ℕ) → Lists (faults_among order fs ks o k) (BreaksAmong order fs ks o k)
among_law order fs [] o k = lists_none
among_law order fs (j ∷ js) o k =
    lists_both (if nat_eq j k then interface_faults_by j (slice_get o.exports j) (unit_at order fs j) o else none) (faults_among order fs js (outlined order fs j o) k)
    (Where (j ≡ k) (InterfaceBreaksBy j (slice_get o.exports j) (unit_at order fs j) o)) (BreaksAmong order fs js (outlined order fs j o) k)
    (lists_at j k (nat_eq j k) refl (interface_law_by j (slice_get o.exports j) (unit_at order fs j) o)) (among_law order fs js (outlined order fs j o) k)

-- ---- units and the program

units_law : (fs : List File) (es : List (Option Export)) (faults : ℕ → Faults) (B : ℕ → Refusal → Type 0) → ((k : ℕ) → Lists (faults k) (B k)) → (k : ℕ) (rest : List (Option Export)) (h : Here) → Lists (units_mean fs es faults k rest h).faults (UnitsBreak fs es B k rest h)
units_law fs es faults B l k [] h = lists_none
units_law fs es faults B l k (e ∷ rest) h =
    let g = unit_completes fs es e h in
    lists_unless (faulted (faults k) (done g)) (units_mean fs es faults (k + 1) rest) (lists_both (faults k) (done g).faults (B k) (Breaks g) (l k) (broken g)) (units_law fs es faults B l (k + 1) rest (done g).here)

parts_of_program_law : (p : Program) (order : List (List ℕ)) (fs : List File) (faults : ℕ → Faults) (B : ℕ → Refusal → Type 0) (o : Outline) → ((k : ℕ) → Lists (faults k) (B k)) → Lists (parts_of_program p order fs faults o).faults (PartsOfProgramBreak p order fs B faults o)
parts_of_program_law p order fs faults B o l =
    lists_unless (units_mean fs o.exports faults 0 o.exports o.here) (λ h. done (program_declared o.exports p (in_unit (length order) h))) (units_law fs o.exports faults B l 0 o.exports o.here)
    (broken (program_declared o.exports p (in_unit (length order) (units_mean fs o.exports faults 0 o.exports o.here).here)))

files_law : (fs : List File) (order : List (List ℕ)) (h : Here) → Lists (files_mean fs order h).faults (FilesBreak fs order h)
files_law [] order h = lists_one (fault OtherFile start)
files_law (unit u ∷ fs) order h = lists_one (fault OtherFile start)
files_law (program p ∷ fs) order h =
    parts_of_program_law p order fs (outline_faults order fs h) (BreaksAmong order fs (interface_order order fs) (blank_outline order h)) (outline order fs h) (among_law order fs (interface_order order fs) (blank_outline order h))

pub program_law : (fs : List File) (order : List (List ℕ)) → Lists (program_means fs order).faults (ProgramBreaks fs order)
program_law fs order = files_law fs order beginning

-- what the checker answers of it
pub obeys : (g : Given (Unit {0})) (B : Refusal → Type 0) (r : Result Core CheckError) → Lists g.faults B → CheckIs g r → Obeys B r
obeys g B (Ok core) h c = none_broken g.faults B h c.1
obeys g B (Err (Refused r)) h c = first_broken g.faults B r h c.0
obeys g B (Err NoMemory) h c = tt
