-- A program is accepted or refused, and never both.
use Rattle.std.proofs.Common.{◌≡◌, ℕ, List, Option, Some, None, Ok, Err, map, slice_get, unwrap_or, refl, sym, ap, subst, ◌∙◌, inl}
use Rattle.op_base.specs.declared.files.NamedFile.{NamedFile}
use Rattle.op_base.specs.declared.rule.Refusal.{Refusal}
use Rattle.op_check_unit.specs.Checking.{Fills, body_in, placed, without_bodies}
use Rattle.op_check_unit.specs.FirstValues.{begins_with, begun, without_first_values}
use Rattle.op_check_unit.specs.Programs.{program_means}
use Rattle.op_check_unit.specs.Steps.{Given}
use Rattle.op_core.specs.Faults.{FirstIs, IsFirst, kept}
use Rattle.op_core.specs.declared.error.CheckError.TheVariants as check
use Rattle.op_core.specs.declared.program.Core.{Core}
use Rattle.op_tool.specs.Compiles.{Checks, IsBroken, IsTypedProgram, by_check, by_files, name_at}
use Rattle.op_tool.specs.OneOutcome.{OneOutcome, SameProgram}
use Rattle.op_tree.specs.File.{file_of}
use Rattle.op_units.proofs.OneWalk.{one_walk}
use Rattle.op_units.specs.OneWalk.{SameForest, SameRefusal}
use Rattle.op_units.specs.Walk.{GivesForest, walked, refused}
use Rattle.op_units.specs.declared.forest.Forest.{Forest}

one_forest : (files : List NamedFile) (name : List ℕ) (one other : Forest) → GivesForest (Some files) name one → GivesForest (Some files) name other → SameForest one other
one_forest files name one other a b =
    let e = one_walk files name (walked a.all) (walked b.all) a.walks b.walks in
    record {
      trees = ap (map file_of) a.is_forest.trees ∙ ap (λ s. s.files) e ∙ sym (ap (map file_of) b.is_forest.trees);
      names = a.is_forest.names ∙ ap (λ s. s.names) e ∙ sym b.is_forest.names;
      order = a.is_forest.order ∙ ap (λ s. s.order) e ∙ sym b.is_forest.order;
    }

abbrev meant : Forest → Given (Unit {0})
meant forest = program_means (map file_of forest.trees) forest.order

same_meaning : (one other : Forest) → SameForest one other → meant one ≡ meant other
same_meaning one other s = ap (λ fs. program_means fs one.order) s.trees ∙ ap (program_means (map file_of other.trees)) s.order

filled_so : (g : Given (Unit {0})) (one other : Core) → Fills g.here.bodies g.here.first_values g.here.core one → Fills g.here.bodies g.here.first_values g.here.core other → SameProgram one other
filled_so g one other a b = record { others = a.others ∙ sym b.others; bodies = a.bodies ∙ sym b.bodies; values = a.values ∙ sym b.values }

same_kept : (faults : Option Refusal) (r s : Refusal) → faults ≡ Some r → faults ≡ Some s → r ≡ s
same_kept faults r s e f = same (sym e ∙ f)
  where
    same : Some r ≡ Some s → r ≡ s
    same e = cc

module _ (files : List NamedFile) (name : List ℕ) where
  one_program : (one other : Core) → IsTypedProgram (Some files) name one → IsTypedProgram (Some files) name other → SameProgram one other
  one_program one other (f, a) (g, b) =
      let e = same_meaning f g (one_forest files name f g a.loads b.loads) in
      filled_so (meant f) one other a.checks.means.0 (subst (λ m. Fills m.here.bodies m.here.first_values m.here.core other) (sym e) b.checks.means.0)

  one_rule : (file other : List ℕ) (r s : Refusal) → IsBroken (Some files) name file r → IsBroken (Some files) name other s → (file ≡ other) × SameRefusal r s
  one_rule file other r s (by_files a) (by_files b) = one_walk files name (refused r file) (refused s other) a b
  one_rule file other r s (by_files a) (by_check g b c is) = absurd (one_walk files name (refused r file) (walked b.all) a b.walks)
  one_rule file other r s (by_check f a c is) (by_files b) = absurd (one_walk files name (walked a.all) (refused s other) a.walks b)
  one_rule file other r s (by_check f a c is) (by_check g b d js) =
      let same = one_forest files name f g a b in
      let e = same_kept (kept None (meant f).faults) r s c.means.1 (ap (λ m. kept None m.faults) (same_meaning f g same) ∙ d.means.1) in
      (is ∙ ap (λ p. name_at f name p.place) e ∙ ap (λ ns. unwrap_or (slice_get ns s.place.file) name) same.names ∙ sym js, inl e)

  never_both : (core : Core) (file : List ℕ) (r : Refusal) → IsTypedProgram (Some files) name core → IsBroken (Some files) name file r → ⊥
  never_both core file r (f, a) (by_files b) = one_walk files name (walked a.loads.all) (refused r file) a.loads.walks b
  never_both core file r (f, a) (by_check g b c is) =
      a.checks.means.1 r (subst (λ m. IsFirst m.faults r) (sym (same_meaning f g (one_forest files name f g a.loads b))) c.means.0).is_in

pub one_outcome : (files : List NamedFile) (name : List ℕ) → OneOutcome files name
one_outcome files name = record { one_program = one_program files name; one_rule = one_rule files name; never_both = never_both files name }
