-- A whole program leaves a fit state, or breaks a rule.
use Rattle.std.proofs.Common.{◌≡◌, inl, inr, ◌⊎◌, ◌<◌, ℕ, zero, suc, ◌+◌, List, [], ◌∷◌, All, drop, length, replicate, slice_get, slice_set, Option, Some, None, refl, subst, ◌∙◌, arith}
use Rattle.std.proofs.lemmas.List.{length-replicate}
use Rattle.std.proofs.lemmas.List.Elements.{All-cons, All-drop, All-head, All-nil, All-set, All-tail}
use Rattle.std.proofs.lemmas.Option.{slice_get_within}
use Rattle.op_accepted.proofs.Beginning.{with_units_fits}
use Rattle.op_accepted.proofs.Grown.{exports_on, later_itself, later_through, names_on}
use Rattle.op_accepted.proofs.StateParts.{Nothing, keeps_breaks, keeps_from, keeps_here, keeps_unless}
use Rattle.op_accepted.proofs.Rows.{globaled, globaled_fit, globaled_later}
use Rattle.op_accepted.proofs.Units.{completes_fits, interface_fits, program_declared_fits, unit_left_fits}
use Rattle.op_accepted.specs.Fit.{IsFitMeaning}
use Rattle.op_accepted.specs.State.{AreTreesFit, IsFitExport, IsFitState, IsLater, Keeps, faulty, kept}
use Rattle.op_base.specs.declared.rule.Refusal.{Refusal}
use Rattle.op_check_unit.proofs.Outlines.{all_same_count, same_count}
use Rattle.op_sound.proofs.Units.{fault_behind, own_fault, units_fault}
use Rattle.op_check_unit.specs.Interfaces.{interface_order, unit_at}
use Rattle.op_check_unit.specs.Programs.{Outline, all_outlined, blank_outline, faulted, faults_among, files_mean, in_unit, interface_faults, interface_faults_by, interface_means, outline, outline_faults, outlined, outlined_by, parts_of_program, program_declared, program_means, unit_completes, units_mean, with_interface, with_units}
use Rattle.op_check_unit.specs.Steps.{Given, Here}
use Rattle.op_check_unit.specs.System.{beginning}
use Rattle.op_check_unit.specs.Uses.{exported, put_apart}
use Rattle.op_check_unit.specs.declared.uses.Export.{Export}
use Rattle.op_core.specs.Faults.{Faults, IsIn, behind, front}
use Rattle.op_core.specs.declared.program.Core.{Core}
use Rattle.op_judgement.specs.Steps.{done}
use Rattle.op_tree.specs.File.{File, Program, UnitFile, program, unit}

-- ---- interface parts

-- what the interface parts so far declare and export, behind a program
record IsFitOutline (start : Core) (o : Outline) : Type 0 where
  state : IsFitState o.here
  exports : All (IsFitExport o.here.core) o.exports
  later : IsLater start o.here.core

-- a rule that the interface part of some unit breaks
abbrev SomeFault : ℕ → (ℕ → Faults) → Type 0
SomeFault count faults = (k : ℕ) × (k < count) × ((r : Refusal) × IsIn r (faults k))

module _ (known : AreTreesFit) where
  interface_outlined : (start : Core) (k : ℕ) (u : UnitFile) (o : Outline) (g : Given (Unit {0})) → IsFitOutline start o → IsFitState g.here → IsLater o.here.core g.here.core → IsFitState (put_apart g.here) × All (IsFitExport (put_apart g.here).core) (slice_set o.exports k (Some (exported u.name g))) × IsLater start (put_apart g.here).core
  interface_outlined start k u o g x y l =
      let h = g.here in
      let m = globaled_later h.core [] in (
        globaled_fit known h.core h.names h.bodies h.first_values [] y,
        All-set (IsFitExport (globaled h.core [])) o.exports k (Some (exported u.name g)) (names_on h.core (globaled h.core []) m.types (drop h.first h.names) (All-drop (λ n. IsFitMeaning h.core n.meaning) h.first h.names y.names)) (exports_on o.here.core (globaled h.core []) (later_through l m).types o.exports x.exports),
        later_through x.later (later_through l m),
      )

  outlined_by_fits : (start : Core) (k : ℕ) (e : Option (Option Export)) (u : Option UnitFile) (o : Outline) → slice_get o.exports k ≡ e → IsFitOutline start o → IsFitOutline start (outlined_by k e u o) ⊎ ((k < length o.exports) × ((r : Refusal) × IsIn r (interface_faults_by k e u o)))
  outlined_by_fits start k (Some None) (Some u) o there x = one (interface_fits known o.exports u (in_unit k o.here) x.exports x.state)
    where
      g : Given (Unit {0})
      g = done (interface_means o.exports u (in_unit k o.here))

      one : Keeps Nothing o.here.core g → IsFitOutline start (with_interface k u o) ⊎ ((k < length o.exports) × ((r : Refusal) × IsIn r g.faults))
      one (kept y l p) = let s = interface_outlined start k u o g x y l in inl (record { state = unit_left_fits o.here (put_apart g.here) s.0; exports = s.1; later = s.2 })
      one (faulty r i) = inr (slice_get_within o.exports k None there, (r, i))
  outlined_by_fits start k (Some None) None o there x = inl x
  outlined_by_fits start k (Some (Some e)) u o there x = inl x
  outlined_by_fits start k None u o there x = inl x

  all_outlined_fits : (start : Core) (order : List (List ℕ)) (fs : List File) (ks : List ℕ) (o : Outline) → IsFitOutline start o → IsFitOutline start (all_outlined order fs ks o) ⊎ SomeFault (length o.exports) (faults_among order fs ks o)
  all_outlined_fits start order fs [] o x = inl x
  all_outlined_fits start order fs (k ∷ ks) o x = one (outlined_by_fits start k (slice_get o.exports k) (unit_at order fs k) o refl x) (λ z. all_outlined_fits start order fs ks (outlined order fs k o) z)
    where
      next : Outline
      next = outlined order fs k o

      count : length next.exports ≡ length o.exports
      count = same_count k (slice_get o.exports k) (unit_at order fs k) o

      later : IsFitOutline start (all_outlined order fs ks next) ⊎ SomeFault (length next.exports) (faults_among order fs ks next) → IsFitOutline start (all_outlined order fs (k ∷ ks) o) ⊎ SomeFault (length o.exports) (faults_among order fs (k ∷ ks) o)
      later (inl z) = inl z
      later (inr s) = inr (s.0, (let lt = s.1 in omega (arith, lt, count)), (s.2.0, behind s.2.1))

      one : IsFitOutline start next ⊎ ((k < length o.exports) × ((r : Refusal) × IsIn r (interface_faults order fs k o))) → (IsFitOutline start next → IsFitOutline start (all_outlined order fs ks next) ⊎ SomeFault (length next.exports) (faults_among order fs ks next)) → IsFitOutline start (all_outlined order fs (k ∷ ks) o) ⊎ SomeFault (length o.exports) (faults_among order fs (k ∷ ks) o)
      one (inl z) rest = later (rest z)
      one (inr s) rest = inr (k, s.0, (s.1.0, front (own_fault k (interface_faults order fs k o) s.1.0 s.1.1)))

  -- ---- the rest of units

  keeps_faulted : {old : Core} (f : Faults) (g : Given (Unit {0})) → Keeps Nothing old g → Keeps Nothing old (faulted f g)
  keeps_faulted f g (kept x l p) = kept x l p
  keeps_faulted f g (faulty r i) = faulty r (behind i)

  units_fit : (fs : List File) (es : List (Option Export)) (faults : ℕ → Faults) (k : ℕ) (rest : List (Option Export)) (h : Here) → All (IsFitExport h.core) es → All (IsFitExport h.core) rest → IsFitState h → Keeps Nothing h.core (units_mean fs es faults k rest h)
  units_fit fs es faults k [] h a b x = keeps_here x tt
  units_fit fs es faults k (e ∷ rest) h a b x =
      keeps_unless (faulted (faults k) (done (unit_completes fs es e h))) (units_mean fs es faults (k + 1) rest)
      (keeps_faulted (faults k) (done (unit_completes fs es e h)) (completes_fits known fs es e h a (All-head (IsFitExport h.core) e rest b) x))
      (λ i y l. units_fit fs es faults (k + 1) rest i (exports_on h.core i.core l.types es a) (exports_on h.core i.core l.types rest (All-tail (IsFitExport h.core) e rest b)) y)

  -- ---- the program

  units_and_program : (p : Program) (order : List (List ℕ)) (fs : List File) (faults : ℕ → Faults) (o : Outline) (start : Core) → IsFitOutline start o → Keeps Nothing start (parts_of_program p order fs faults o)
  units_and_program p order fs faults o start x =
      keeps_from x.later
      (keeps_unless (units_mean fs o.exports faults 0 o.exports o.here) (λ h. done (program_declared o.exports p (in_unit (length order) h))) (units_fit fs o.exports faults 0 o.exports o.here x.exports x.exports x.state)
      (λ i y l. program_declared_fits known o.exports p (in_unit (length order) i) (exports_on o.here.core i.core l.types o.exports x.exports) y))

-- ---- a rule that an interface part breaks

-- ---- all files

none_exported : (core : Core) (n : ℕ) → All (IsFitExport core) (replicate n None)
none_exported core zero = All-nil (IsFitExport core)
none_exported core (suc n) = All-cons (IsFitExport core) None (replicate n None) tt (none_exported core n)

module _ (known : AreTreesFit) where
  blank_fits : (order : List (List ℕ)) → IsFitOutline (with_units order beginning).core (blank_outline order beginning)
  blank_fits order = record { state = with_units_fits known order; exports = none_exported (with_units order beginning).core (length order); later = later_itself }

  program_parts_fit : (p : Program) (order : List (List ℕ)) (fs : List File) (faults : ℕ → Faults) (o : Outline) (start : Core) → length o.exports ≡ length order → IsFitOutline start o ⊎ SomeFault (length order) faults → Keeps Nothing start (parts_of_program p order fs faults o)
  program_parts_fit p order fs faults o start count (inl x) = units_and_program known p order fs faults o start x
  program_parts_fit p order fs faults o start count (inr s) =
      let q = units_fault fs o.exports faults 0 s.0 o.exports o.here s.2.0 (let lt = s.1 in omega (arith, lt, count)) (subst (λ n. IsIn s.2.0 (faults n)) (omega arith) s.2.1) in
      faulty q.0 (fault_behind (units_mean fs o.exports faults 0 o.exports o.here) (λ h. done (program_declared o.exports p (in_unit (length order) h))) q.0 q.1)

  files_fit : (fs : List File) (order : List (List ℕ)) → Keeps Nothing (with_units order beginning).core (files_mean fs order beginning)
  files_fit [] order = keeps_breaks
  files_fit (unit u ∷ fs) order = keeps_breaks
  files_fit (program p ∷ fs) order =
      program_parts_fit p order fs (outline_faults order fs beginning) (outline order fs beginning) (with_units order beginning).core (all_same_count order fs (interface_order order fs) (blank_outline order beginning) ∙ blank)
      (one (all_outlined_fits known (with_units order beginning).core order fs (interface_order order fs) (blank_outline order beginning) (blank_fits order)))
    where
      blank : length (replicate {A = Option Export} (length order) None) ≡ length order
      blank = length-replicate {A = Option Export} (length order) None

      one : IsFitOutline (with_units order beginning).core (outline order fs beginning) ⊎ SomeFault (length (blank_outline order beginning).exports) (outline_faults order fs beginning) → IsFitOutline (with_units order beginning).core (outline order fs beginning) ⊎ SomeFault (length order) (outline_faults order fs beginning)
      one (inl x) = inl x
      one (inr s) = inr (s.0, (let lt = s.1 in omega (arith, lt, blank)), s.2)

  pub program_fits : (fs : List File) (order : List (List ℕ)) → Keeps Nothing (with_units order beginning).core (program_means fs order)
  program_fits fs order = files_fit fs order
