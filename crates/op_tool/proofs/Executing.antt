-- The run of an image that agrees with a program.
use Rattle.std.proofs.Common.{◌≡◌, ℕ, Option, Some, None, inr, List, [], ◌∷◌, ◌++◌, suc, codes, sym, ap, ◌∙◌, subst, append-nil}
use Rattle.op_base.specs.declared.files.NamedFile.{NamedFile}
use Rattle.op_correctness.proofs.Ending.{ends_as_meant}
use Rattle.op_correctness.proofs.ReadCalls.{looks_as_meant, runs_so}
use Rattle.op_correctness.specs.Agrees.{EndsAsMeant, GoesAlong, LooksAsMeant}
use Rattle.op_emu.specs.Filling.{AreBytes}
use Rattle.op_image.specs.Means.{image_run}
use Rattle.op_link.specs.Image.{start}
use Rattle.op_link.specs.Memory.{heap_size}
use Rattle.op_rv.specs.State.{State, Ended, Faulted}
use Rattle.op_rv.specs.Step.{CallsRead, after}
use Rattle.op_select.specs.Going.{IsSafe}
use Rattle.op_command.specs.Command.{Asked}
use Rattle.op_tool.specs.Compiles.{Made, meant}
use Rattle.op_tool.specs.Effects.{Effect, line}
use Rattle.op_tool.specs.ImageRun.{HasWritten, OwesImage, WantsBeyond}
use Rattle.op_tool.specs.Owes.{call, OwesExec}
use Rattle.op_tool.specs.declared.finish.Finish.{Finish}
use Rattle.op_tool.specs.declared.finish.Finish.TheVariants as finish

-- what is left of bytes are bytes
bytes_behind : (taken left : List ℕ) → AreBytes (taken ++ left) → AreBytes left
bytes_behind [] left bytes = bytes
bytes_behind (x ∷ taken) left bytes = bytes_behind taken left (λ k. bytes (suc k))

passes_none : (condition : ℕ) → None ≡ Some condition → ⊥
passes_none condition e = cc

never_faults : (e : _) (kind : _) (pc : ℕ) → e ≡ Faulted kind pc → IsSafe e → ⊥
unfolding IsSafe
never_faults e kind pc is safe = subst IsSafe is safe

module _ (words : List (List ℕ)) (stored : Option (List NamedFile)) (before now count count' : ℕ) (image : List ℕ) (asked : Asked) (made : Made stored asked.operand asked.settings image) where
  along : (done : Effect) → AreBytes done.input → GoesAlong (meant made.core asked.settings) (heap_size asked.settings) image done.input
  along done bytes = made.is_image.agrees.along done.input bytes

  ends : (done : Effect) (status : ℕ) → AreBytes done.input → (after done.steps (start image done.input)).ending ≡ Ended status → let s = after done.steps (start image done.input) in EndsAsMeant (meant made.core asked.settings) done.input status s.output s.errors s.input
  ends done status bytes is =
      let same : image_run image done.input done.steps ≡ after done.steps (start image done.input) = runs_so done.steps (start image done.input) in
      subst (λ (s : State). EndsAsMeant (meant made.core asked.settings) done.input status s.output s.errors s.input) same
      (ends_as_meant (meant made.core asked.settings) (heap_size asked.settings) image done.input (along done bytes) done.steps status (ap (λ (s : State). s.ending) same ∙ is))

  exec_owes : (answer : Finish) (done : Effect) → AreBytes done.input → OwesImage image asked.steps count count' answer done → OwesExec (call words stored before now count count' image) asked answer done
  exec_owes (finish.Ended status) done bytes (few, (meets, (ended, left, (out, err)))) =
      let s = ends done status bytes ended in
      inr (record {
        made = made;
        means = record { steps = s.steps; ended = s.ended; writes = s.writes ∙ sym out; reports = s.reports ∙ sym (err ∙ append-nil _); leaves = s.leaves ∙ sym left };
        is_end = tt;
        owes = (few, (meets, (ended, left, (out, err))));
      })
  exec_owes (finish.Faulted kind pc) done bytes (few, (meets, (faulted, left, written))) =
      absurd (never_faults (image_run image done.input done.steps).ending kind pc (ap (λ (s : State). s.ending) (runs_so done.steps (start image done.input)) ∙ faulted) ((along done bytes).safe done.steps))
  exec_owes finish.Spent done bytes owes = inr (record { made = made; means = tt; is_end = tt; owes = owes })
  exec_owes finish.ReadFault done bytes (rose, fewer, meets, taken, parts, faults) =
      let left_bytes : AreBytes done.left = bytes_behind taken done.left (subst AreBytes parts bytes) in
      let found = subst (λ input. let s = after done.steps (start image input) in WantsBeyond s done.left × HasWritten s (line (codes "opc: read fault")) done) (sym parts) (faults done.left left_bytes) in
      let there : image_run image done.input done.steps ≡ after done.steps (start image done.input) = runs_so done.steps (start image done.input) in
      let looks = looks_as_meant (meant made.core asked.settings) (heap_size asked.settings) image done.input (along done bytes) done.steps (subst CallsRead (sym there) found.0.calls) in
      let s = after done.steps (start image done.input) in
      inr (record {
        made = made;
        means = (
          s.errors,
          found.1.1,
          subst (λ out. LooksAsMeant (meant made.core asked.settings) done.input out s.errors) (sym found.1.0) (subst (λ (t : State). LooksAsMeant (meant made.core asked.settings) done.input t.output t.errors) there looks),
        );
        is_end = tt;
        owes = (rose, fewer, meets, taken, parts, faults);
      })
  exec_owes (finish.BadImage condition) done bytes (fails, reports) = absurd (passes_none condition (sym made.is_image.agrees.loads ∙ fails))
  exec_owes finish.NoMemory done bytes owes = inr (record { made = made; means = tt; is_end = tt; owes = owes })
  exec_owes finish.Usage done bytes owes = absurd owes
  exec_owes (finish.Refused rule place) done bytes owes = absurd owes
  exec_owes finish.WriteFault done bytes owes = absurd owes
  exec_owes finish.Limit done bytes owes = absurd owes

-- the run of an image that was made of a program
pub exec_made : (words : List (List ℕ)) (stored : Option (List NamedFile)) (before now count count' : ℕ) (image made : List ℕ) (asked : Asked) → image ≡ made → Made stored asked.operand asked.settings made → (answer : Finish) (done : Effect) → AreBytes done.input → OwesImage image asked.steps count count' answer done → OwesExec (call words stored before now count count' made) asked answer done
exec_made words stored before now count count' image made asked same is answer done bytes owes =
    exec_owes words stored before now count count' made asked is answer done bytes (subst (λ i. OwesImage i asked.steps count count' answer done) same owes)
