-- Of the other routines of a program, the low code of a routine reads the charges alone.
use Rattle.std.proofs.Common.{◌≡◌, ℕ, ◌+◌, List, [], ◌∷◌, ◌++◌, Option, Some, None, ap, append_assoc, ◌∙◌, length, refl}
use Rattle.std.specs.Prelude.{nat_lt, slice_get, if◌then◌else◌}
use Rattle.std.proofs.lemmas.Option.{slice_get-map}
use Rattle.op_core.specs.declared.program.Core.{Core}
use Rattle.op_core.specs.declared.ids.RoutineId.{RoutineId}
use Rattle.op_expand.specs.Calls.{charge_of, finalizations, has_closing}
use Rattle.op_expand.specs.Closing.{closing_routines, finding_code, part_blocks}
use Rattle.op_places.specs.Frames.{frame_of}
use Rattle.op_expand.specs.Programs.{routine_without_code, routines_from, without_code}
use Rattle.op_expand.specs.Routines.{beginning, blocks_of, code_of, error_block, error_blocks, instruction_code, low_parameters, low_routine, most_charge, routine_with}
use Rattle.op_places.specs.declared.frame.Frame.{Frame}
use Rattle.op_low.specs.declared.code.Low.{Low}
use Rattle.op_low.specs.declared.code.Routine.{Routine as LowRoutine}
use Rattle.op_low.specs.declared.instruction.Instruction.{Instruction as LowInstruction}
use Rattle.op_mir.specs.declared.code.Block.{Block}
use Rattle.op_mir.specs.declared.code.Mir.{Mir}
use Rattle.op_mir.specs.declared.code.Routine.{Routine}
use Rattle.op_mir.specs.declared.instruction.Instruction.{Instruction}
use Rattle.op_mir.specs.declared.instruction.Instruction.TheVariants.{Call}
use Rattle.op_rv.specs.declared.objects.GlobalVariable.{GlobalVariable}

same_charge : (mir : Mir) (r : ℕ) → charge_of (without_code mir) r ≡ charge_of mir r
same_charge mir r = by (slice_get mir.routines r) refl
  where
    by : (o : Option Routine) → slice_get mir.routines r ≡ o → charge_of (without_code mir) r ≡ charge_of mir r
    by None e = rw (slice_get-map routine_without_code mir.routines r, e) refl
    by (Some x) e = rw (slice_get-map routine_without_code mir.routines r, e) refl

same_instruction : (core : Core) (mir : Mir) (frame : Frame) (texts : List (List ℕ)) (i : Instruction) → instruction_code core (without_code mir) frame texts i ≡ instruction_code core mir frame texts i
same_instruction core mir frame texts (Call r operands) = rw (same_charge mir r.0) refl
same_instruction core mir frame texts _ = refl

same_code : (core : Core) (mir : Mir) (frame : Frame) (texts : List (List ℕ)) (is : List Instruction) → code_of core (without_code mir) frame texts is ≡ code_of core mir frame texts is
same_code core mir frame texts [] = refl
same_code core mir frame texts (i ∷ is) = rw (same_instruction core mir frame texts i, same_code core mir frame texts is) refl

same_blocks : (core : Core) (mir : Mir) (frame : Frame) (texts : List (List ℕ)) (front : List LowInstruction) (bs : List Block) → blocks_of core (without_code mir) frame texts front bs ≡ blocks_of core mir frame texts front bs
same_blocks core mir frame texts front [] = refl
same_blocks core mir frame texts front (b ∷ bs) = rw (same_code core mir frame texts b.code, same_blocks core mir frame texts [] bs) refl

same_routine : (core : Core) (mir : Mir) (texts : List (List ℕ)) (r : ℕ) (x : Routine) → low_routine core (without_code mir) texts r x ≡ low_routine core mir texts r x
same_routine core mir texts r x =
    ap (λ blocks. if nat_lt most_charge x.charge then routine_with (low_parameters core r) 0 (error_block 202 5 ∷ []) else routine_with (low_parameters core r) (frame_of core r x).locals (blocks ++ error_blocks))
    (same_blocks core mir (frame_of core r x) texts (beginning core (frame_of core r x) r) x.blocks)

same_routines : (core : Core) (mir : Mir) (texts : List (List ℕ)) (r : ℕ) (xs : List Routine) → routines_from core (without_code mir) texts r xs ≡ routines_from core mir texts r xs
same_routines core mir texts r [] = refl
same_routines core mir texts r (x ∷ xs) = rw (same_routine core mir texts r x, same_routines core mir texts (r + 1) xs) refl

same_parts : (core : Core) (mir : Mir) (stack parts before : ℕ) (fs : List RoutineId) → part_blocks core (without_code mir) stack parts before fs ≡ part_blocks core mir stack parts before fs
same_parts core mir stack parts before [] = refl
same_parts core mir stack parts before (f ∷ fs) = rw (same_charge mir f.0, same_parts core mir stack parts (before + 1) fs) refl

same_closing : (core : Core) (mir : Mir) (stack : ℕ) → closing_routines core (without_code mir) stack ≡ closing_routines core mir stack
same_closing core mir stack =
    let fs = finalizations core in
    ap (λ blocks. if has_closing core then routine_with 2 0 (record { code = finding_code core stack (length fs) } ∷ blocks ++ error_block 202 5 ∷ []) ∷ [] else []) (same_parts core mir stack (length fs) 0 fs)

-- ---- low code that is made with the charges alone

pub low_is : (routines others : List LowRoutine) (entry first literals counted : ℕ) (globals zeros : List GlobalVariable) → routines ≡ others → entry ≡ first → literals ≡ counted → globals ≡ zeros → ◌≡◌ {A = Low} (record { routines = routines; entry = record { 0 = entry }; counts = record { literals = literals; tables = 0; descriptors = 0 }; globals = globals }) (record { routines = others; entry = record { 0 = first }; counts = record { literals = counted; tables = 0; descriptors = 0 }; globals = zeros })
low_is routines others entry first literals counted globals zeros e f g h = rw (e, f, g, h) refl

-- behind these routines, of which nothing need be known
pub routines_are : (texts : List (List ℕ)) (core : Core) (charges mir : Mir) (fixed front now last all : List LowRoutine) (stack id : ℕ) → charges ≡ without_code mir → front ≡ fixed → now ≡ front ++ routines_from core charges texts 0 mir.routines → id ≡ length mir.routines → last ≡ now ++ low_routine core charges texts id mir.program ∷ [] → all ≡ last ++ closing_routines core charges stack → all ≡ fixed ++ routines_from core mir texts 0 mir.routines ++ low_routine core mir texts (length mir.routines) mir.program ∷ closing_routines core mir stack
routines_are texts core charges mir fixed front now last all stack id e f g h j k =
    let program = length mir.routines in
    let bare = without_code mir in
    let whole : List LowRoutine → Mir → ℕ → List LowRoutine = λ front c id. ((front ++ routines_from core c texts 0 mir.routines) ++ low_routine core c texts id mir.program ∷ []) ++ closing_routines core c stack in
    let front_is : all ≡ whole front charges id = k ∙ ap (λ x. x ++ closing_routines core charges stack) (j ∙ ap (λ x. x ++ low_routine core charges texts id mir.program ∷ []) g) in
    let bare_is : whole front charges id ≡ whole fixed bare program = ap (λ c. whole front c id) e ∙ ap (λ x. whole x bare id) f ∙ ap (λ n. whole fixed bare n) h in
    let all_is : whole fixed bare program ≡ whole fixed mir program =
    ap (λ rs. ((fixed ++ rs) ++ low_routine core bare texts program mir.program ∷ []) ++ closing_routines core bare stack) (same_routines core mir texts 0 mir.routines)
    ∙ ap (λ r. ((fixed ++ routines_from core mir texts 0 mir.routines) ++ r ∷ []) ++ closing_routines core bare stack) (same_routine core mir texts program mir.program)
    ∙ ap (λ rs. ((fixed ++ routines_from core mir texts 0 mir.routines) ++ low_routine core mir texts program mir.program ∷ []) ++ rs) (same_closing core mir stack) in
    front_is ∙ bare_is ∙ all_is ∙ append_assoc (fixed ++ routines_from core mir texts 0 mir.routines) (low_routine core mir texts program mir.program ∷ []) (closing_routines core mir stack)
