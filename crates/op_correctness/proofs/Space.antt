-- Activations of low code take no more of the stack than they are charged.
use Rattle.std.proofs.Common.{◌≡◌, ◌<◌, ◌≤◌, ℕ, suc, ◌+◌, ◌*◌, ◌++◌, List, [], ◌∷◌, length, replicate, nat_eq, nat_lt, true, false, Some, slice_get, refl, sym, ap, ◌∙◌, subst, arith, append_assoc, if◌then◌else◌}
use Rattle.std.proofs.lemmas.Bool.{ne_eqb}
use Rattle.std.proofs.lemmas.Bool.Decides.{nat_tests}
use Rattle.std.proofs.lemmas.List.{length-replicate}
use Rattle.std.proofs.lemmas.Option.{slice_get_within}
use Rattle.op_agreement.proofs.Expanding.{low_found, closing_made}
use Rattle.op_agreement.specs.Settings.{Setting, AreLiterals}
use Rattle.op_constants.proofs.Distinct.{number_within}
use Rattle.op_constants.specs.Literals.{literals_of, routine_literals}
use Rattle.op_core.proofs.Rows.{there_is}
use Rattle.op_core.specs.Sound.{IsSound, IsSoundNesting}
use Rattle.op_core.specs.declared.program.Core.{Core}
use Rattle.op_correctness.proofs.Fitting.{each_fits, frame_charged, row_of, are_fitting}
use Rattle.op_correctness.proofs.ProgramCode.{program_fits, program_locals, program_registers}
use Rattle.op_correctness.proofs.Thinner.{frames_less}
use Rattle.op_correctness.specs.Charges.{HaveCharges}
use Rattle.op_correctness.specs.Placed.{setting_by}
use Rattle.op_correctness.specs.SimpleCore.{IsSimpleCore}
use Rattle.op_correctness.specs.Spacious.{IsSpacious}
use Rattle.op_expand.specs.Calls.{runtime, has_closing, closing_number}
use Rattle.op_expand.specs.Closing.{closing_routines, closing_routine}
use Rattle.op_places.specs.Frames.{frame_of, parameters_of}
use Rattle.op_expand.specs.Programs.{low_of, no_bytes, routines_from}
use Rattle.op_expand.specs.Routines.{low_routine, most_charge}
use Rattle.op_frames.proofs.CodeFine.{IsNumbered}
use Rattle.op_frames.proofs.LowFine.{closing_small, own_parameters, parameters_by}
use Rattle.op_frames.proofs.ProgramFine.{low_frame}
use Rattle.op_frames.proofs.SoundSizes.{sizes_small}
use Rattle.op_frames.specs.Fitting.{IsFitting, registers_of_routine}
use Rattle.op_frames.specs.Made.{Every}
use Rattle.op_low.specs.State.{routine_of, routine_or, space}
use Rattle.op_low.specs.Valid.{takes}
use Rattle.op_low.specs.declared.code.Low.{Low}
use Rattle.op_low.specs.declared.code.Routine.{Routine as LowRoutine}
use Rattle.op_lower.specs.Lowers.{Lowers}
use Rattle.op_mir.specs.View.{routine_at}
use Rattle.op_mir.specs.declared.code.Mir.{Mir}
use Rattle.op_mir.specs.declared.code.Routine.{Routine}
use Rattle.op_optimize.proofs.Optimized.{thins}
use Rattle.op_optimize.specs.Optimizing.{Optimizes}
use Rattle.op_rt_text.specs.Runtime.{runtime_routines}
use Rattle.op_select.specs.Frames.{frame_of as frame_bytes}
use Rattle.op_select.specs.Going.{Setting as Placed}

-- ---- what is called takes its parameters

-- it is called with as many arguments
takes_parameters : (routine : LowRoutine) (n : ℕ) → routine.parameters ≡ n → takes (Some routine) n ≡ true
takes_parameters routine n e = grind (arith, nat_tests, e)

-- the number of a routine is not that of the program
pub at_row : (mir : Mir) (r : ℕ) (x : Routine) → slice_get mir.routines r ≡ Some x → routine_at mir r ≡ Some x
at_row mir r x at =
    let low = slice_get_within mir.routines r x at in
    let other : nat_eq r (length mir.routines) ≡ false = ne_eqb r (length mir.routines) (λ e. omega (arith, low, e)) in
    ap (λ b. if b then Some mir.program else slice_get mir.routines r) other ∙ at

-- the next number is
pub at_program : (mir : Mir) → routine_at mir (length mir.routines) ≡ Some mir.program
at_program mir =
    let same : nat_eq (length mir.routines) (length mir.routines) ≡ true = grind (arith, nat_tests) in
    ap (λ b. if b then Some mir.program else slice_get mir.routines (length mir.routines)) same

-- what has another number is a routine
at_other : (mir : Mir) (r : ℕ) (x : Routine) → r < length mir.routines → routine_at mir r ≡ Some x → slice_get mir.routines r ≡ Some x
at_other mir r x low found =
    let other : nat_eq r (length mir.routines) ≡ false = ne_eqb r (length mir.routines) (λ e. omega (arith, low, e)) in
    sym (ap (λ b. if b then Some mir.program else slice_get mir.routines r) other) ∙ found

module _ (core : Core) (mir : Mir) (stack : ℕ) (sound : IsSound core) (nesting : IsSoundNesting core) (is : IsSimpleCore core) (charges : HaveCharges core) (lowers : Lowers core mir) (low : Low) (is_low : low ≡ low_of core mir stack) (w : Placed) (optimizes : Optimizes low w.low) where
  abbrev g : Setting
  g = setting_by core mir stack low w (λ x. 0)

  -- ---- the frame of a routine, beside code that has as many literals as the routine names

  -- behind the run-time routines stand those of the program, and the program itself
  others : List LowRoutine
  others = routines_from core mir (literals_of core mir) 0 mir.routines ++ low_routine core mir (literals_of core mir) (length mir.routines) mir.program ∷ closing_routines core mir stack

  -- the same routines with as many literals and global variables as are asked for: registers and locals of a routine do not depend on them
  enough_for : (literals : ℕ) → Low
  enough_for literals = record {
    routines = g.low.routines;
    entry = g.low.entry;
    counts = record { literals = 7 + literals; tables = 0; descriptors = 0 };
    globals = replicate (suc (length core.variables)) no_bytes;
  }

  routines_are : g.low.routines ≡ runtime_routines ++ others
  unfolding others
  routines_are = ap (λ l. l.routines) is_low ∙ append_assoc runtime_routines (routines_from core mir (literals_of core mir) 0 mir.routines) (low_routine core mir (literals_of core mir) (length mir.routines) mir.program ∷ closing_routines core mir stack)

  -- each routine of the program is called with its parameters
  calls : (f k : ℕ) → f < length core.routines → k ≡ parameters_of core f → takes (slice_get g.low.routines (runtime + f)) (suc (suc k)) ≡ true
  calls f k less e =
      let number = lowers.number in
      let (x, at) = there_is mir.routines f (omega (arith, less, number)) in
      let found = low_found g is_low f x (at_row mir f x at) in
      let parameters : (low_routine core mir (literals_of core mir) f x).parameters ≡ suc (suc k) = parameters_by (nat_lt most_charge x.charge) core mir (literals_of core mir) f x refl ∙ own_parameters core f k less e in
      subst (λ o. takes o (suc (suc k)) ≡ true) (sym found.at) (takes_parameters (low_routine core mir (literals_of core mir) f x) (suc (suc k)) parameters)

  -- and so is the closing
  ends : has_closing core ≡ true → takes (slice_get g.low.routines (closing_number core)) 2 ≡ true
  ends closes = subst (λ o. takes o 2 ≡ true) (sym (closing_made g is_low closes lowers.number)) refl

  -- what it takes is among these literals
  all_numbered : (texts : List (List ℕ)) → AreLiterals (literals_of core mir) texts → Every (IsNumbered (enough_for (length (literals_of core mir))) (literals_of core mir)) texts
  unfolding enough_for
  all_numbered [] are = tt
  all_numbered (text ∷ texts) are = let less = number_within (literals_of core mir) text are.0 in (omega (arith, less), all_numbered texts are.1)

  -- a routine of low code that fits has no more registers than are counted, and the locals of its frame
  routine_small : (r : ℕ) (x : Routine) → IsFitting core r x → x.charge ≤ most_charge → AreLiterals (literals_of core mir) (routine_literals core r x) → ((low_routine core mir (literals_of core mir) r x).registers ≤ registers_of_routine core r x) × ((low_routine core mir (literals_of core mir) r x).locals ≡ (frame_of core r x).locals)
  unfolding enough_for
  routine_small r x fits charge literals =
      let many : length (replicate (suc (length core.variables)) no_bytes) ≡ suc (length core.variables) = length-replicate (suc (length core.variables)) no_bytes in
      low_frame (enough_for (length (literals_of core mir))) core mir (sizes_small core sound) others routines_are (omega (arith, many)) (omega arith) calls ends r (literals_of core mir) x fits (all_numbered (routine_literals core r x) literals) charge

  -- what is placed has no larger frames than the low code as it was expanded
  as_expanded : (r : ℕ) → space g.low g.placement r ≤ (routine_of g.low r).locals + 4 * ((routine_of g.low r).registers + 1)
  unfolding frame_bytes
  as_expanded r = let less = frames_less g.low w.low (thins g.low w.low optimizes) r in omega (arith, less)

  -- what an activation of it takes
  pub space_of : (r : ℕ) (x : Routine) → routine_at mir r ≡ Some x → IsFitting core r x → x.charge ≤ most_charge → space g.low g.placement (runtime + r) ≤ (frame_of core r x).locals + 4 * (registers_of_routine core r x + 1)
  space_of r x found fits charge =
      let stands = low_found g is_low r x found in
      let same : routine_of g.low (runtime + r) ≡ low_routine core mir (literals_of core mir) r x = ap routine_or stands.at in
      let (registers, locals) = routine_small r x fits charge stands.literals in
      let taken : space g.low g.placement (runtime + r) ≤ (low_routine core mir (literals_of core mir) r x).locals + 4 * ((low_routine core mir (literals_of core mir) r x).registers + 1) = subst (λ (y : LowRoutine). space g.low g.placement (runtime + r) ≤ y.locals + 4 * (y.registers + 1)) same (as_expanded (runtime + r)) in
      omega (arith, taken, registers, locals)

  -- ---- what is proved

  -- An activation of a routine takes no more than it is charged.
  pub space_charged : (r : ℕ) (x : Routine) → slice_get mir.routines r ≡ Some x → x.charge ≤ most_charge → space g.low g.placement (runtime + r) ≤ x.charge
  space_charged r x at charge =
      let (row, there) = row_of core mir sound nesting is charges lowers r x at in
      let fits = each_fits core mir sound nesting is charges lowers r x at in
      let taken = space_of r x (at_row mir r x at) fits charge in
      let within = frame_charged core sound nesting is r (charges r (slice_get_within core.routines r row there)) row there x (lowers.routines r x at) charge in
      omega (arith, taken, within)

  -- One without parameters takes less.
  space_left : (r : ℕ) (x : Routine) → slice_get mir.routines r ≡ Some x → x.charge ≤ most_charge → parameters_of core r ≡ 0 → space g.low g.placement (runtime + r) + 20 ≤ x.charge
  space_left r x at charge none =
      let (row, there) = row_of core mir sound nesting is charges lowers r x at in
      let fits = each_fits core mir sound nesting is charges lowers r x at in
      let taken = space_of r x (at_row mir r x at) fits charge in
      let within = frame_charged core sound nesting is r (charges r (slice_get_within core.routines r row there)) row there x (lowers.routines r x at) charge in
      omega (arith, taken, within, none)

  -- The closing takes a few words.
  closing_space : has_closing core ≡ true → space g.low g.placement (closing_number core) ≤ 20
  closing_space closes =
      let same : routine_of g.low (closing_number core) ≡ closing_routine core mir stack = ap routine_or (closing_made g is_low closes lowers.number) in
      let registers = closing_small core mir stack (are_fitting core mir sound nesting is charges lowers) in
      let taken : space g.low g.placement (closing_number core) ≤ 0 + 4 * ((closing_routine core mir stack).registers + 1) = subst (λ (y : LowRoutine). space g.low g.placement (closing_number core) ≤ y.locals + 4 * (y.registers + 1)) same (as_expanded (closing_number core)) in
      omega (arith, taken, registers)

  -- So it is over any memory.
  pub is_spacious : (memory : ℕ → ℕ) → IsSpacious (setting_by core mir stack low w memory)
  is_spacious memory = record {
    charged = λ r x found charge low_number. space_charged r x (at_other mir r x low_number found) charge;
    parts = λ r x found charge low_number none. space_left r x (at_other mir r x low_number found) charge none;
    closing = closing_space;
  }

  -- The program itself takes a few words.
  pub program_space : space g.low g.placement (runtime + length core.routines) ≤ 1024
  program_space =
      let program = lowers.program in
      let number = lowers.number in
      let found : routine_at mir (length core.routines) ≡ Some mir.program = subst (λ n. routine_at mir n ≡ Some mir.program) number (at_program mir) in
      let fits = program_fits core sound nesting is.simple mir.program program in
      let charge = program.charge in
      let taken = space_of (length core.routines) mir.program found fits (omega (arith, charge)) in
      let locals = program_locals core sound nesting is.simple mir.program program in
      let registers = program_registers core sound nesting is.simple mir.program program in
      omega (arith, taken, locals, registers)
