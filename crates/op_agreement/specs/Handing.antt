-- What a call hands over, and what low code has of it.
use Rattle.std.specs.Prelude.{◌≡◌, ◌<◌, ◌⊎◌, ℕ, ◌+◌, ◌-◌, ◌*◌, ◌^◌, List, [], ◌∷◌, length, map, nat_lt, false, true, Some, None, replicate}
use Rattle.std.specs.List.{sum_by}
use Rattle.op_compute.specs.Bank.{scratch_of}
use Rattle.op_compute.specs.Meaning.{IsWordOf}
use Rattle.op_core.specs.declared.routine.Variable.{Variable}
use Rattle.op_core.specs.declared.types.IntegerKind.{IntegerKind}
use Rattle.op_expand.specs.Calls.{receiver_of, runtime}
use Rattle.op_low.specs.Machine.{entered}
use Rattle.op_low.specs.State.{State, routine_of, space}
use Rattle.op_low.specs.declared.ids.VirtualRegister.{VirtualRegister}
use Rattle.op_low.specs.declared.instruction.Instruction.{Instruction as LowInstruction}
use Rattle.op_meaning.specs.Calls.{all_handed}
use Rattle.op_meaning.specs.Costs.{given_bytes}
use Rattle.op_meaning.specs.Frames.{Handed, a_value, a_place}
use Rattle.op_meaning.specs.Numbers.{low_bits_of}
use Rattle.op_meaning.specs.Shapes.{single, composite, is_reference, shape_of}
use Rattle.op_meaning.specs.Values.{Place, Value, number, number_in, reached}
use Rattle.op_meaning.specs.World.{World, value_at}
use Rattle.op_mir.specs.Machine.{MirState}
use Rattle.op_mir.specs.View.{view_given, view_receiver}
use Rattle.op_mir.specs.declared.instruction.Call.{Call as Operands}
use Rattle.op_rv.specs.State.{with_bytes}
use Rattle.op_agreement.specs.Chart.{Floor, IsAt}
use Rattle.op_agreement.specs.Settings.{Setting, managed}
use Rattle.op_agreement.specs.Stands.{ResultGoes}
use Rattle.op_agreement.specs.Steps.{Goes}
use Rattle.op_agreement.specs.Typed.{parameter_rows}

-- a number by value, whose word is that number; a value with parts, whose word is the address of where it stands with the caller; and what a
-- variable parameter stands for, with its address
abbrev pub IsNumberHanded : Setting → Value → Variable → ℕ → Type 0
IsNumberHanded g v p word = (kind : IntegerKind) × (shape_of g.core p.of ≡ single kind) × (v ≡ number (number_in v)) × (low_bits_of kind (number_in v) ≡ number_in v) × IsWordOf word (number_in v)

abbrev pub ArePartsHanded : Setting → (ℕ → Floor) → (d : ℕ) → World → Value → Variable → ℕ → Type 0
ArePartsHanded g floors d w v p word = (shape_of g.core p.of ≡ composite) × (q : Place) × IsAt g floors d q p.of word × (v ≡ value_at w q) × (word < 2 ^ 32)

abbrev pub IsHanded : Setting → (ℕ → Floor) → (d : ℕ) → World → Handed → Variable → ℕ → Type 0
IsHanded g floors d w (a_value v) p word = (is_reference p.role ≡ false) × (IsNumberHanded g v p word ⊎ ArePartsHanded g floors d w v p word)
IsHanded g floors d w (a_place q) p word = (is_reference p.role ≡ true) × IsAt g floors d q p.of word × (word < 2 ^ 32)

abbrev pub AreHanded : Setting → (ℕ → Floor) → (d : ℕ) → World → List Handed → List Variable → List ℕ → Type 0
AreHanded g floors d w [] [] [] = Unit {0}
AreHanded g floors d w (x ∷ xs) (p ∷ ps) (n ∷ ns) = IsHanded g floors d w x p n × AreHanded g floors d w xs ps ns
AreHanded g floors d w _ _ _ = ⊥

-- the state in which a routine begins, which has these words as arguments; the caller waits in front of `rest` with these registers
abbrev pub begun_below : Setting → (r : ℕ) → (registers : ℕ → ℕ) → (rest : List LowInstruction) → (to : VirtualRegister) → (words : List ℕ) → State → State
begun_below g r registers rest to words l =
    let locals = (routine_of g.low (runtime + r)).locals in
    record l {
      top = entered g.low (runtime + r) words;
      callers = record { activation = record l.top { registers = registers; now = rest }; to = to; landing = None } ∷ l.callers;
      limit = l.limit + locals;
      room = l.room - space g.low g.placement (runtime + r);
      memory = with_bytes l.memory l.limit (replicate locals 0);
    }

-- what is given, in bytes
abbrev pub bytes_given : Setting → Operands → ℕ
bytes_given g call = sum_by (given_bytes g.core) (map view_given call.given)

-- what low code costs up to there
abbrev pub begins_most : Setting → (r : ℕ) → Operands → ℕ
begins_most g r call = 9 + 4 * length call.given + 2 * bytes_given g call + space g.low g.placement (runtime + r)

-- the stack has room for the charge, all arguments are handed over, and low code comes to where the routine begins
pub record Begins (g : Setting) (m : MirState) (l : State) (floors : ℕ → Floor) (r : ℕ) (call : Operands) (rest : List LowInstruction) : Type 0 where
  pub given : List Handed
  pub handed : all_handed m.world (map view_given call.given) ≡ reached given
  pub charged : nat_lt g.stack (m.charged + (managed g).charge r) ≡ false
  pub registers : ℕ → ℕ
  pub kept : (x : ℕ) → x < (floors (length m.callers)).frame.bank.scratch → registers x ≡ l.top.registers x
  pub result : ℕ
  pub words : List ℕ
  pub are : AreHanded g floors (length m.callers) m.world given (parameter_rows g.core r) words
  pub to : VirtualRegister
  pub gets : to ≡ receiver_of (floors (length m.callers)).frame call.receiver (scratch_of (floors (length m.callers)).frame.bank 0)
  pub goes : Goes g 1 (begins_most g r call) l (begun_below g r registers rest to ((registers 0 - (managed g).charge r) ∷ result ∷ words) l)
  pub receives : ResultGoes g floors (length m.callers) call.receiver (view_receiver call.receiver) (record { activation = record l.top { registers = registers; now = rest }; to = to; landing = None }) result
