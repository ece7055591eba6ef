-- States of a program and of the one with other names that stand for one another.
use Rattle.std.proofs.Common.{◌≡◌, ℕ, zero, suc, ◌<◌, true, false, Some, None, List, [], ◌∷◌, slice_get, slice_index, length, refl, ap, ◌∙◌, subst}
use Rattle.std.proofs.lemmas.Bool.{and_parts, ltb-true}
use Rattle.op_low.specs.Runs.{RunsValid}
use Rattle.op_low.specs.State.{Activation, Caller, Ended, Running, State, at_block, block_of, code_or, landed, routine_of, routine_or, value_in, with_value}
use Rattle.op_low.specs.Machine.{entered}
use Rattle.op_low.specs.Valid.{leaves, is_valid_instruction}
use Rattle.std.specs.List.{list_all}
use Rattle.op_low.specs.declared.code.Low.{Low}
use Rattle.op_low.specs.declared.code.Routine.{Routine}
use Rattle.op_low.specs.declared.ids.VirtualRegister.{VirtualRegister}
use Rattle.op_low.specs.declared.instruction.Instruction.{Instruction}
use Rattle.op_rv.specs.declared.symbol.BlockId.{BlockId}
use Rattle.op_optimize.specs.Each.{Each, NoneLeft, OneMore}
use Rattle.op_optimize.specs.Liveness.{other_block}
use Rattle.op_optimize.specs.Programs.{EachRoutine}
use Rattle.op_optimize.specs.Reading.{reads, target_of}
use Rattle.op_optimize.specs.Renaming.{renamed, renamed_instruction, renamed_code, renamed_routine, is_idle, is_safe_code, RenamesRoutine, Stays, Renamed}
use Rattle.op_optimize.specs.Shortening.{LooksLike}
use Rattle.op_optimize.proofs.Needing.{raise_needs_nothing, reads_its_own}
use Rattle.op_optimize.proofs.Naming.{Good, Have, IsMoved, good, have_at, have_begun, have_behind, have_idle, have_written, operand, renamed_at, safe_block, safe_first, safe_rest}

-- ---- activations

-- the registers have other names
pub record NamesStand (low better : Low) (live names : List ℕ) (registers : ℕ) (a b : Activation) : Type 0 where
  pub good : Good live names registers (routine_of low a.routine)
  pub code : routine_of better a.routine ≡ renamed_routine names registers (routine_of low a.routine)
  pub routine : b.routine ≡ a.routine
  pub now : b.now ≡ renamed_code names a.now
  pub safe : is_safe_code live names (routine_of low a.routine).registers a.now ≡ true
  pub have : Have live names (routine_of low a.routine).registers a.now a.registers b.registers

pub data Stands (low better : Low) (a b : Activation) : Type 0 where
  StandsAlike : routine_of better a.routine ≡ routine_of low a.routine → b ≡ a → Stands low better a b
  StandsNamed : (live names : List ℕ) (registers : ℕ) → NamesStand low better live names registers a b → Stands low better a b

-- a caller goes on with whatever the call gives, or where it lands
pub record CallerStands (low better : Low) (c d : Caller) : Type 0 where
  pub back : (v : ℕ) → Stands low better (with_value c.to v c.activation) (with_value d.to v d.activation)
  pub lands : Stands low better (landed low c.landing c.activation) (landed better d.landing d.activation)

pub data CallersStand (low better : Low) : (cs ds : List Caller) → Type 0 where
  NoCallers : CallersStand low better [] []
  OneCaller : {c d : Caller} {cs ds : List Caller} → CallerStands low better c d → CallersStand low better cs ds → CallersStand low better (c ∷ cs) (d ∷ ds)

-- ---- states

abbrev pub with_parts : Activation → List Caller → State → State
with_parts b ds m = record m { top = b; callers = ds }

pub record GoesAlike (low better : Low) (m n : State) : Type 0 where
  pub top : Activation
  pub callers : List Caller
  pub same : n ≡ with_parts top callers m
  pub running : m.ending ≡ Running
  pub tops : Stands low better m.top top
  pub waits : CallersStand low better m.callers callers

pub record EndsAlike (m n : State) : Type 0 where
  pub status : ℕ
  pub ended : m.ending ≡ Ended status
  pub looks : LooksLike m n

pub data Alike (low better : Low) (m n : State) : Type 0 where
  BothGo : GoesAlike low better m n → Alike low better m n
  BothEnded : EndsAlike m n → Alike low better m n

pub record Related (low better : Low) (m n : State) : Type 0 where
  pub alike : Alike low better m n
  pub valid : RunsValid low m

-- ---- routines

pub data RoutineStands (low better : Low) (r : ℕ) : Type 0 where
  SameRoutine : routine_of better r ≡ routine_of low r → RoutineStands low better r
  NamedRoutine : (live names : List ℕ) (registers : ℕ) → Good live names registers (routine_of low r) → routine_of better r ≡ renamed_routine names registers (routine_of low r) → RoutineStands low better r

stands_in : (low better : Low) (rs ts : List Routine) (r : ℕ) → Each RenamesRoutine rs ts → RenamesRoutine (routine_or (slice_get rs r)) (routine_or (slice_get ts r))
stands_in low better [] [] r NoneLeft = Stays refl
stands_in low better [] (y ∷ ys) r each = elim each [ ]
stands_in low better (x ∷ xs) [] r each = elim each [ ]
stands_in low better (x ∷ xs) (y ∷ ys) zero (OneMore first rest) = first
stands_in low better (x ∷ xs) (y ∷ ys) (suc r) (OneMore first rest) = stands_in low better xs ys r rest

routine_stands : (low better : Low) (r : ℕ) → RenamesRoutine (routine_of low r) (routine_of better r) → RoutineStands low better r
routine_stands low better r (Stays same) = SameRoutine same
routine_stands low better r (Renamed live names registers is same) = NamedRoutine live names registers (good live names registers (routine_of low r) is) same

pub each_stands : (low better : Low) → EachRoutine RenamesRoutine low better → (r : ℕ) → RoutineStands low better r
each_stands low better each r = routine_stands low better r (stands_in low better low.routines better.routines r each.routines)

same_locals : (low better : Low) (r : ℕ) → RoutineStands low better r → (routine_of better r).locals ≡ (routine_of low r).locals
unfolding renamed_routine
same_locals low better r (SameRoutine same) = ap (λ x. x.locals) same
same_locals low better r (NamedRoutine live names registers fine same) = ap (λ x. x.locals) same

same_parameters : (low better : Low) (r : ℕ) → RoutineStands low better r → (routine_of better r).parameters ≡ (routine_of low r).parameters
unfolding renamed_routine
same_parameters low better r (SameRoutine same) = ap (λ x. x.parameters) same
same_parameters low better r (NamedRoutine live names registers fine same) = ap (λ x. x.parameters) same

pub locals_stay : (low better : Low) → EachRoutine RenamesRoutine low better → (r : ℕ) → (routine_of better r).locals ≡ (routine_of low r).locals
locals_stay low better each r = same_locals low better r (each_stands low better each r)

pub parameters_stay : (low better : Low) → EachRoutine RenamesRoutine low better → (r : ℕ) → (routine_of better r).parameters ≡ (routine_of low r).parameters
parameters_stay low better each r = same_parameters low better r (each_stands low better each r)

pub each_many : {R : Routine → Routine → Type 0} (rs ts : List Routine) → Each R rs ts → length ts ≡ length rs
each_many [] [] NoneLeft = refl
each_many [] (y ∷ ys) each = elim each [ ]
each_many (x ∷ xs) [] each = elim each [ ]
each_many (x ∷ xs) (y ∷ ys) (OneMore first rest) = ap suc (each_many xs ys rest)

-- ---- blocks

renamed_block_of : (low better : Low) (names : List ℕ) (registers r b : ℕ) → routine_of better r ≡ renamed_routine names registers (routine_of low r) → block_of better r b ≡ renamed_code names (block_of low r b)
unfolding renamed_routine
renamed_block_of low better names registers r b same =
    ap (λ x. code_or (slice_get x.blocks b)) same ∙ renamed_at names (routine_of low r).blocks b

-- a routine is entered with these arguments
entered_stands : (low better : Low) (r : ℕ) (arguments : List ℕ) → length arguments ≡ (routine_of low r).parameters → RoutineStands low better r → Stands low better (entered low r arguments) (entered better r arguments)
entered_stands low better r arguments many (SameRoutine same) =
    StandsAlike same (ap (λ (code : List Instruction). record { routine = r; registers = slice_index arguments; now = code }) (ap (λ x. code_or (slice_get x.blocks 0)) same))
entered_stands low better r arguments many (NamedRoutine live names registers fine same) =
    StandsNamed live names registers
    (record {
      good = fine;
      code = same;
      routine = refl;
      now = renamed_block_of low better names registers r 0 same;
      safe = safe_block live names (routine_of low r).registers (routine_of low r).blocks 0 fine.blocks;
      have = have_begun live names registers (routine_of low r) fine arguments many;
    })

pub enters : (low better : Low) → EachRoutine RenamesRoutine low better → (r : ℕ) (arguments : List ℕ) → length arguments ≡ (routine_of low r).parameters → Stands low better (entered low r arguments) (entered better r arguments)
enters low better each r arguments many = entered_stands low better r arguments many (each_stands low better each r)

-- ---- behind an instruction

abbrev pub behind : List Instruction → Activation → Activation
behind is a = record a { now = is }

-- What an instruction finds: operands have the same values, and wherever the code goes on the activations stand.
pub record Finds (low better : Low) (names : List ℕ) (i : Instruction) (a b : Activation) : Type 0 where
  pub routine : b.routine ≡ a.routine
  pub operands : (r : VirtualRegister) → reads i r ≡ true → value_in b.registers (renamed names r) ≡ value_in a.registers r
  pub written : (to : VirtualRegister) (v : ℕ) → target_of i ≡ Some to → IsMoved i a.registers v → Stands low better (with_value to v a) (with_value (renamed names to) v b)
  pub goes_on : target_of i ≡ None → leaves i ≡ false → Stands low better a b
  pub jumps : (block : BlockId) → other_block i ≡ Some block → Stands low better (at_block low block a) (at_block better block b)
  pub raises : Stands low better (landed low None a) (landed better None b)

-- where nothing is renamed
pub finds_alike : (low better : Low) (i : Instruction) (a : Activation) → routine_of better a.routine ≡ routine_of low a.routine → Finds low better [] i a a
unfolding renamed
finds_alike low better i a same =
    record {
      routine = refl;
      operands = λ r read. refl;
      written = λ to v target moved. StandsAlike same refl;
      goes_on = λ none stays. StandsAlike same refl;
      jumps = λ block other. StandsAlike same (ap (λ (code : List Instruction). record a { now = code }) (ap (λ x. code_or (slice_get x.blocks block.0)) same));
      raises = StandsAlike same refl;
    }

module _ (low better : Low) (live names : List ℕ) (registers : ℕ) (i : Instruction) (is : List Instruction) (a b : Activation) where
  module _ (stands : NamesStand low better live names registers a b) (now : a.now ≡ i ∷ is) (js : List Instruction) (left : js ≡ renamed_code names is) where
    have_now : Have live names (routine_of low a.routine).registers (i ∷ is) a.registers b.registers
    have_now = subst (λ code. Have live names (routine_of low a.routine).registers code a.registers b.registers) now stands.have

    safe_now : is_safe_code live names (routine_of low a.routine).registers (i ∷ is) ≡ true
    safe_now = subst (λ code. is_safe_code live names (routine_of low a.routine).registers code ≡ true) now stands.safe

    safe_behind : is_safe_code live names (routine_of low a.routine).registers is ≡ true
    safe_behind = safe_rest live names (routine_of low a.routine).registers i is safe_now

    named_written : (to : VirtualRegister) (v : ℕ) → target_of i ≡ Some to → IsMoved i a.registers v → Stands low better (with_value to v (behind is a)) (with_value (renamed names to) v (behind js b))
    named_written to v target moved =
        StandsNamed live names registers
        (record {
          good = stands.good;
          code = stands.code;
          routine = stands.routine;
          now = left;
          safe = safe_behind;
          have = have_written live names (routine_of low a.routine).registers i is a.registers b.registers to v target (safe_first live names (routine_of low a.routine).registers i is to safe_now target) moved have_now;
        })

    named_goes_on : target_of i ≡ None → leaves i ≡ false → Stands low better (behind is a) (behind js b)
    named_goes_on none stays =
        StandsNamed live names registers
        (record {
          good = stands.good;
          code = stands.code;
          routine = stands.routine;
          now = left;
          safe = safe_behind;
          have = have_behind live names (routine_of low a.routine).registers i is a.registers b.registers none stays have_now;
        })

    pub named_idle : (to : VirtualRegister) (v : ℕ) → target_of i ≡ Some to → value_in b.registers (renamed names to) ≡ v → Stands low better (with_value to v (behind is a)) (behind js b)
    named_idle to v target there =
        StandsNamed live names registers
        (record {
          good = stands.good;
          code = stands.code;
          routine = stands.routine;
          now = left;
          safe = safe_behind;
          have = have_idle live names (routine_of low a.routine).registers i is a.registers b.registers to v target there have_now;
        })

    named_jumps : (block : BlockId) → other_block i ≡ Some block → Stands low better (at_block low block (behind is a)) (at_block better block (behind js b))
    named_jumps block other =
        let fine = stands.good in
        StandsNamed live names registers
        (record {
          good = stands.good;
          code = stands.code;
          routine = stands.routine;
          now = ap (λ r. block_of better r block.0) stands.routine ∙ renamed_block_of low better names registers a.routine block.0 stands.code;
          safe = safe_block live names (routine_of low a.routine).registers (routine_of low a.routine).blocks block.0 fine.blocks;
          have = have_at live names (routine_of low a.routine).registers i is a.registers b.registers (routine_of low a.routine) block refl fine.closed fine.few other have_now;
        })

    named_raises : Stands low better (landed low None (behind is a)) (landed better None (behind js b))
    unfolding renamed_code is_idle renamed_instruction is_safe_code target_of
    named_raises =
        StandsNamed live names registers
        (record {
          good = stands.good;
          code = stands.code;
          routine = stands.routine;
          now = refl;
          safe = refl;
          have = record { has = λ r less needed. let none = raise_needs_nothing live r in absurd cc };
        })

    pub finds_named : list_all (is_valid_instruction low (routine_of low a.routine)) (i ∷ is) ≡ true → Finds low better names i (behind is a) (behind js b)
    finds_named valid =
        record {
          routine = stands.routine;
          operands = λ r read. operand live names (routine_of low a.routine).registers i is a.registers b.registers have_now r (own r read) read;
          written = named_written;
          goes_on = named_goes_on;
          jumps = named_jumps;
          raises = named_raises;
        }
      where
        own : (r : VirtualRegister) → reads i r ≡ true → r.0 < (routine_of low a.routine).registers
        own r read = ltb-true _ _ (reads_its_own (routine_of low a.routine) r low i (first_valid valid) read)
          where
            first_valid : list_all (is_valid_instruction low (routine_of low a.routine)) (i ∷ is) ≡ true → is_valid_instruction low (routine_of low a.routine) i ≡ true
            first_valid all = (and_parts _ _ all).0
