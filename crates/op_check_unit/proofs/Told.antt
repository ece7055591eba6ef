-- Each rule that a program is refused by has a text.
use Rattle.std.proofs.Common.{ℕ, ◌+◌, Bool, true, false, if◌then◌else◌, List, [], ◌∷◌, length, nat_eq, slice_get, Option, Some, None, Result, Ok, Err, IfErr}
use Rattle.op_check_unit.specs.Checking.{CheckIs}
use Rattle.op_check_unit.specs.Interfaces.{interface_order, unit_at}
use Rattle.op_check_unit.specs.Programs.{Outline, blank_outline, faulted, faults_among, files_mean, in_unit, interface_faults, interface_faults_by, interface_means, outline, outline_faults, outlined, parts_of_program, program_declared, program_means, unit_completes, units_mean}
use Rattle.op_check_unit.specs.Steps.{Here}
use Rattle.op_check_unit.specs.System.{beginning}
use Rattle.op_check_unit.specs.declared.uses.Export.{Export}
use Rattle.op_core.specs.Faults.{Faults, none}
use Rattle.op_core.specs.declared.error.CheckError.{CheckError}
use Rattle.op_core.specs.declared.error.CheckError.TheVariants.{Refused, NoMemory}
use Rattle.op_core.specs.declared.program.Core.{Core}
use Rattle.op_judgement.proofs.Told.{has_text, step_told, told_in, told_unless_faulty}
use Rattle.op_judgement.specs.Judgement.{HaveTexts, RefusalHasText}
use Rattle.op_judgement.specs.Steps.{done}
use Rattle.op_judgement.specs.declared.rules.LanguageRule.TheVariants.{OtherFile}
use Rattle.op_tree.specs.File.{File, Program, UnitFile, program, unit}

-- ---- interface parts

interface_told : (k : ℕ) (e : Option (Option Export)) (u : Option UnitFile) (o : Outline) → HaveTexts (interface_faults_by k e u o)
interface_told k (Some None) (Some u) o = step_told (interface_means o.exports u (in_unit k o.here))
interface_told k (Some None) None o = tt
interface_told k (Some (Some e)) u o = tt
interface_told k None u o = tt

told_if : (f : Faults) (b : Bool) → HaveTexts f → HaveTexts (if b then f else none)
told_if f true t = t
told_if f false t = tt

among_told : (order : List (List ℕ)) (fs : List File) (ks : List ℕ) (o : Outline) (k : ℕ) → HaveTexts (faults_among order fs ks o k)
among_told order fs [] o k = tt
among_told order fs (j ∷ js) o k = (
  told_if (interface_faults order fs j o) (nat_eq j k) (interface_told j (slice_get o.exports j) (unit_at order fs j) o),
  among_told order fs js (outlined order fs j o) k,
)

-- ---- units and the program

units_told : (fs : List File) (es : List (Option Export)) (faults : ℕ → Faults) → ((k : ℕ) → HaveTexts (faults k)) → (k : ℕ) (rest : List (Option Export)) (h : Here) → HaveTexts (units_mean fs es faults k rest h).faults
units_told fs es faults t k [] h = tt
units_told fs es faults t k (e ∷ rest) h =
    let g = unit_completes fs es e h in
    told_unless_faulty (faulted (faults k) (done g)) (units_mean fs es faults (k + 1) rest) (t k, step_told g) (units_told fs es faults t (k + 1) rest (done g).here)

parts_told : (p : Program) (order : List (List ℕ)) (fs : List File) (faults : ℕ → Faults) (o : Outline) → ((k : ℕ) → HaveTexts (faults k)) → HaveTexts (parts_of_program p order fs faults o).faults
parts_told p order fs faults o t =
    told_unless_faulty (units_mean fs o.exports faults 0 o.exports o.here) (λ h. done (program_declared o.exports p (in_unit (length order) h))) (units_told fs o.exports faults t 0 o.exports o.here)
    (step_told (program_declared o.exports p (in_unit (length order) (units_mean fs o.exports faults 0 o.exports o.here).here)))

files_told : (fs : List File) (order : List (List ℕ)) (h : Here) → HaveTexts (files_mean fs order h).faults
files_told [] order h = has_text OtherFile
files_told (unit u ∷ fs) order h = has_text OtherFile
files_told (program p ∷ fs) order h = parts_told p order fs (outline_faults order fs h) (outline order fs h) (among_told order fs (interface_order order fs) (blank_outline order h))

pub program_told : (fs : List File) (order : List (List ℕ)) (r : Result Core CheckError) → CheckIs (program_means fs order) r → IfErr r RefusalHasText
program_told fs order (Ok core) c = tt
program_told fs order (Err (Refused r)) c = told_in (program_means fs order).faults (files_told fs order beginning) r c.0.is_in
program_told fs order (Err NoMemory) c = tt
