-- A routine that ends by writing bytes of memory, with blanks in front.
use Rattle.std.proofs.Common.{◌≡◌, ℕ, ◌+◌, ◌^◌, ◌<◌, ◌≤◌, cond, nat_eq, None, List, [], ◌∷◌, ◌++◌, length, replicate, ap₂, ◌∙◌, append-nil, arith}
use Rattle.op_low.specs.State.{Placement, State, space}
use Rattle.op_low.specs.declared.code.Counts.{Counts}
use Rattle.op_low.specs.declared.code.Low.{Low}
use Rattle.op_low.specs.declared.code.Routine.{Routine}
use Rattle.op_low.specs.declared.ids.VirtualRegister.{VirtualRegister}
use Rattle.op_low.specs.declared.instruction.Call.{Call as Operands}
use Rattle.op_low.specs.declared.instruction.Instruction.{Instruction}
use Rattle.op_low.specs.declared.instruction.Instruction.TheVariants.{Return}
use Rattle.op_meaning.specs.Texts.{padded, width_of}
use Rattle.op_rt_text.specs.Names.{blanks, call, write_blanks_number, write_bytes_number}
use Rattle.op_rt_text.specs.Running.{StandsAt}
use Rattle.op_rt_text.proofs.BytesRun.{bytes_called, stands_on}
use Rattle.op_rt_text.proofs.Calls.{inside}
use Rattle.op_rt_text.proofs.Programs.{Written, WrittenInside, leaves_written, longer_written, program, then_more}
use Rattle.op_rv.specs.Operation.{signed}
use Rattle.op_rv.specs.declared.objects.GlobalVariable.{GlobalVariable}
use Rattle.op_rv.specs.declared.symbol.RoutineId.{RoutineId}

module _ (others : List Routine) (entry : RoutineId) (named : Counts) (globals : List GlobalVariable) (p : Placement) (small_blanks : p.frame write_blanks_number ≤ 64) (small : p.frame write_bytes_number ≤ 64) where
  abbrev low : Low
  low = program others entry named globals

  -- the value that comes back from a call is returned
  returned : (m : State) (r : ℕ) (operands : Operands) (rest : List Instruction) (registers memory : ℕ → ℕ) (output : List ℕ) (number : ℕ) (arguments : List VirtualRegister) (to : VirtualRegister) (bytes : List ℕ) (most : ℕ) → space low p r ≤ m.room → ((x : ℕ) → x < m.limit → memory x ≡ m.memory x) → Written low p (inside low p m r operands rest registers [] memory output) number (record { arguments = arguments; to = to; landing = None }) (Return to ∷ []) bytes most → WrittenInside low p m r operands rest registers (call number arguments to ∷ Return to ∷ []) memory output bytes (most + 1)
  returned m r operands rest registers memory output number arguments to bytes most has kept calls =
      then_more
      calls.walk
      calls.joined
      (leaves_written low p m r operands rest (λ x. cond (nat_eq x to.0) calls.value (registers x)) to calls.memory (output ++ bytes) (λ x below. calls.kept x (omega arith) ∙ kept x below) has)
      (append-nil bytes)
      (omega arith)

  -- the address, the length and the width stand in registers, and the value that comes back is returned
  pub bytes_last : (m : State) (r : ℕ) (operands : Operands) (rest : List Instruction) (registers memory : ℕ → ℕ) (output : List ℕ) (address size wide to : VirtualRegister) (at width : ℕ) (text : List ℕ) → registers address.0 ≡ at → registers size.0 ≡ length text → registers wide.0 ≡ width → space low p r + 128 ≤ m.room → ((x : ℕ) → x < m.limit → memory x ≡ m.memory x) → StandsAt p m (p.address blanks) (replicate {A = ℕ} 64 32) → StandsAt p (inside low p m r operands rest registers [] memory output) at text → length text < 2 ^ 31 → width < 2 ^ 32 → WrittenInside low p m r operands rest registers (call write_bytes_number (address ∷ size ∷ wide ∷ []) to ∷ Return to ∷ []) memory output (padded (width_of (signed width)) text) (length (padded (width_of (signed width)) text) + 156)
  bytes_last m r operands rest registers memory output address size wide to at width text there counts wanted has kept spaces stands short word =
      let bytes = padded (width_of (signed width)) text in
      let the_call : Operands = record { arguments = address ∷ size ∷ wide ∷ []; to = to; landing = None } in
      let state = inside low p m r operands rest registers [] memory output in
      let passed = ap₂ (λ a vs. a ∷ vs) there (ap₂ (λ l w. l ∷ w ∷ []) counts wanted) in
      longer_written
      (returned m r operands rest registers memory output write_bytes_number (address ∷ size ∷ wide ∷ []) to bytes (length bytes + 155) (omega arith) kept
      (bytes_called others entry named globals p small_blanks small state the_call (Return to ∷ []) at width text passed stands (stands_on p m state (p.address blanks) (replicate {A = ℕ} 64 32) (omega arith) kept spaces) short word (omega arith)))
      (omega arith)
