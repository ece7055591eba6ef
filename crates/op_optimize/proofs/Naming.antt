-- Registers under their new names: what code needs is there, from instruction to instruction.
use Rattle.std.proofs.Common.{◌≡◌, ℕ, zero, suc, ◌≤◌, ◌<◌, Bool, true, false, ◌||◌, not, if◌then◌else◌, ◌⊎◌, inl, inr, Some, None, List, [], ◌∷◌, map, slice_get, slice_index, length, nat_eq, nat_lt, nat_le, refl, ap, sym, ◌∙◌, arith}
use Rattle.std.proofs.lemmas.Bool.{and_parts, eqb-true, eqb-false, ltb-true, ltb-false, leb-true}
use Rattle.std.proofs.lemmas.List.{get_or_past}
use Rattle.op_base.proofs.Tests.{eqb-turned}
use Rattle.op_low.specs.State.{code_or, value_in}
use Rattle.op_low.specs.Valid.{leaves}
use Rattle.op_low.specs.declared.code.Block.{Block}
use Rattle.op_low.specs.declared.code.Routine.{Routine}
use Rattle.op_low.specs.declared.ids.VirtualRegister.{VirtualRegister}
use Rattle.op_low.specs.declared.instruction.Instruction.{Instruction}
use Rattle.op_rv.specs.declared.symbol.BlockId.{BlockId}
use Rattle.op_optimize.specs.Liveness.{is_closed, is_live, is_live_beyond, is_live_in, is_lost, needs, other_block}
use Rattle.op_optimize.specs.Reading.{same, reads, target_of, is_some_one}
use Rattle.op_optimize.specs.Renaming.{renamed, renamed_code, renamed_block, is_moved, is_apart, are_apart, may_write, is_safe_code, are_safe_blocks, begins_well, all_begin_well, is_renaming}
use Rattle.op_optimize.proofs.Needing.{each_below, implied, same_other_way, needs_read, needs_beyond, needs_behind, dead_is_not_needed, goes_on_behind, needed_is_live}

-- what code needs has the same values under the new names
pub record Have (live names : List ℕ) (registers : ℕ) (code : List Instruction) (old new : ℕ → ℕ) : Type 0 where
  pub has : (r : VirtualRegister) → r.0 < registers → needs live code r ≡ true → value_in new (renamed names r) ≡ value_in old r

-- where the instruction is a move, the value is that of the register that is moved
abbrev pub IsMoved : Instruction → (ℕ → ℕ) → ℕ → Type 0
IsMoved i old v = (r : VirtualRegister) → is_moved i r ≡ true → v ≡ value_in old r

-- the names are good ones for a routine
pub record Good (live names : List ℕ) (registers : ℕ) (routine : Routine) : Type 0 where
  pub few : routine.registers ≤ 64
  pub no_more : registers ≤ routine.registers
  pub parameters : routine.parameters ≤ registers
  pub closed : is_closed live routine ≡ true
  pub begin : all_begin_well live names routine.parameters registers routine.registers ≡ true
  pub blocks : are_safe_blocks live names routine.registers routine.blocks ≡ true

pub good : (live names : List ℕ) (registers : ℕ) (routine : Routine) → is_renaming live names registers routine ≡ true → Good live names registers routine
unfolding is_renaming
good live names registers routine is =
    let five = and_parts _ _ is in
    let four = and_parts _ _ five.0 in
    let three = and_parts _ _ four.0 in
    let two = and_parts _ _ three.0 in
    let one = and_parts _ _ two.0 in
    record {
      few = leb-true routine.registers 64 one.0;
      no_more = leb-true registers routine.registers one.1;
      parameters = leb-true routine.parameters registers two.1;
      closed = three.1;
      begin = four.1;
      blocks = five.1;
    }

-- ---- from instruction to instruction

apart_gives : (s n m d : Bool) → (s || (not n || (m || d))) ≡ true → s ≡ false → n ≡ true → (m ≡ true) ⊎ (d ≡ true)
apart_gives true n m d is other equal = absurd cc
apart_gives false true true d is other equal = inl refl
apart_gives false true false d is other equal = inr is
apart_gives false false m d is other equal = absurd cc

module _ (live names : List ℕ) (registers : ℕ) (i : Instruction) (is : List Instruction) (old new : ℕ → ℕ) where
  -- each operand is there
  pub operand : Have live names registers (i ∷ is) old new → (r : VirtualRegister) → r.0 < registers → reads i r ≡ true → value_in new (renamed names r) ≡ value_in old r
  operand have r less read = have.has r less (needs_read live i is r read)

  pub have_behind : target_of i ≡ None → leaves i ≡ false → Have live names registers (i ∷ is) old new → Have live names registers is old new
  have_behind none stays have =
      record {
        has = λ r less needed. have.has r less (needs_behind live i is r (ap (λ t. is_some_one t r || leaves i) none ∙ stays) needed);
      }

  not_lost : (to r : VirtualRegister) → target_of i ≡ Some to → nat_eq to.0 r.0 ≡ false → is_lost i r ≡ false
  not_lost to r target other =
      ap (λ t. is_some_one t r || leaves i) target ∙ ap (λ t. t || leaves i) other ∙ goes_on_behind i to target

  apart_at : (to r : VirtualRegister) → are_apart live names i is to registers ≡ true → r.0 < registers → is_apart live names i is to r ≡ true
  unfolding are_apart
  apart_at to r apart less = each_below (are_apart live names i is to) (λ n. is_apart live names i is to (record { 0 = n })) (λ n. refl) registers r.0 less apart

  -- what a register has behind an instruction that writes another one, or itself
  written_value : (to r : VirtualRegister) (v : ℕ) → target_of i ≡ Some to → are_apart live names i is to registers ≡ true → IsMoved i old v → Have live names registers (i ∷ is) old new → r.0 < registers → needs live is r ≡ true → (t u : Bool) → nat_eq r.0 to.0 ≡ t → nat_eq (renamed names r).0 (renamed names to).0 ≡ u → (if u then v else value_in new (renamed names r)) ≡ (if t then v else value_in old r)
  unfolding is_apart
  written_value to r v target apart moved have less needed true true is_to is_name = refl
  written_value to r v target apart moved have less needed true false is_to is_name =
      absurd (eqb-false _ _ is_name (ap (λ n. (renamed names (record { 0 = n })).0) (eqb-true r.0 to.0 is_to)))
  written_value to r v target apart moved have less needed false false is_to is_name =
      have.has r less (needs_behind live i is r (not_lost to r target (eqb-turned _ _ is_to)) needed)
  written_value to r v target apart moved have less needed false true is_to is_name =
      elim (apart_gives _ _ _ _ (apart_at to r apart less) (eqb-turned _ _ is_to) (same_other_way _ _ is_name)) [
        | inl is_from ↦ moved r is_from
        | inr dead ↦ absurd (dead_is_not_needed live is r dead needed)
      ]

  pub have_written : (to : VirtualRegister) (v : ℕ) → target_of i ≡ Some to → are_apart live names i is to registers ≡ true → IsMoved i old v → Have live names registers (i ∷ is) old new → Have live names registers is (λ r. if nat_eq r to.0 then v else old r) (λ r. if nat_eq r (renamed names to).0 then v else new r)
  have_written to v target apart moved have =
      record { has = λ r less needed. written_value to r v target apart moved have less needed (nat_eq r.0 to.0) (nat_eq (renamed names r).0 (renamed names to).0) refl refl }

  idle_value : (to r : VirtualRegister) (v : ℕ) → target_of i ≡ Some to → value_in new (renamed names to) ≡ v → Have live names registers (i ∷ is) old new → r.0 < registers → needs live is r ≡ true → (t : Bool) → nat_eq r.0 to.0 ≡ t → value_in new (renamed names r) ≡ (if t then v else value_in old r)
  idle_value to r v target there have less needed true is_to = ap (λ n. value_in new (renamed names (record { 0 = n }))) (eqb-true r.0 to.0 is_to) ∙ there
  idle_value to r v target there have less needed false is_to = have.has r less (needs_behind live i is r (not_lost to r target (eqb-turned _ _ is_to)) needed)

  -- the name has the value already
  pub have_idle : (to : VirtualRegister) (v : ℕ) → target_of i ≡ Some to → value_in new (renamed names to) ≡ v → Have live names registers (i ∷ is) old new → Have live names registers is (λ r. if nat_eq r to.0 then v else old r) new
  have_idle to v target there have =
      record { has = λ r less needed. idle_value to r v target there have less needed (nat_eq r.0 to.0) refl }

  -- at another block of the routine
  pub have_at : (routine : Routine) (block : BlockId) → registers ≡ routine.registers → is_closed live routine ≡ true → routine.registers ≤ 64 → other_block i ≡ Some block → Have live names registers (i ∷ is) old new → Have live names registers (code_or (slice_get routine.blocks block.0)) old new
  unfolding is_live_beyond
  have_at routine block e closed few other have =
      record {
        has = λ r less needed.
            let within : r.0 < routine.registers = omega arith in
            have.has r less (needs_beyond live i is r (ap (λ b. is_live_in live b r) other ∙ needed_is_live live routine block.0 r closed few within needed));
      }

-- ---- where code begins

module _ (live names : List ℕ) (registers : ℕ) (routine : Routine) (fine : Good live names registers routine) where
  begins_at : (r : VirtualRegister) → r.0 < routine.registers → begins_well live names routine.parameters registers r ≡ true
  unfolding all_begin_well
  begins_at r less = each_below (all_begin_well live names routine.parameters registers) (λ n. begins_well live names routine.parameters registers (record { 0 = n })) (λ n. refl) routine.registers r.0 less fine.begin

  pub named_within : (r : VirtualRegister) → r.0 < routine.registers → (renamed names r).0 < registers
  unfolding begins_well
  named_within r less = ltb-true _ _ (and_parts _ _ (begins_at r less)).0

  begun_value : (arguments : List ℕ) (r : VirtualRegister) → length arguments ≡ routine.parameters → is_live live (record { 0 = 0 }) r ≡ true → (t : Bool) → nat_lt r.0 routine.parameters ≡ t → (if t then same (renamed names r) r else (not (is_live live (record { 0 = 0 }) r) || nat_le routine.parameters (renamed names r).0)) ≡ true → slice_index arguments (renamed names r).0 ≡ slice_index arguments r.0
  begun_value arguments r many lives true is_parameter well = ap (slice_index arguments) (eqb-true _ _ well)
  begun_value arguments r many lives false is_parameter well =
      let over : routine.parameters ≤ r.0 = ltb-false _ _ is_parameter in
      let beyond : routine.parameters ≤ (renamed names r).0 = leb-true _ _ (implied _ _ well lives) in
      get_or_past arguments (renamed names r).0 0 (omega arith) ∙ sym (get_or_past arguments r.0 0 (omega arith))

  pub have_begun : (arguments : List ℕ) → length arguments ≡ routine.parameters → Have live names routine.registers (code_or (slice_get routine.blocks 0)) (slice_index arguments) (slice_index arguments)
  unfolding begins_well
  have_begun arguments many =
      record {
        has = λ r less needed.
            begun_value arguments r many (needed_is_live live routine 0 r fine.closed fine.few less needed) (nat_lt r.0 routine.parameters) refl (and_parts _ _ (begins_at r less)).1;
      }

-- ---- code

pub safe_first : (live names : List ℕ) (registers : ℕ) (i : Instruction) (is : List Instruction) (to : VirtualRegister) → is_safe_code live names registers (i ∷ is) ≡ true → target_of i ≡ Some to → are_apart live names i is to registers ≡ true
unfolding is_safe_code
safe_first live names registers i is to safe target = sym (ap (may_write live names registers i is) target) ∙ (and_parts _ _ safe).0

pub safe_rest : (live names : List ℕ) (registers : ℕ) (i : Instruction) (is : List Instruction) → is_safe_code live names registers (i ∷ is) ≡ true → is_safe_code live names registers is ≡ true
unfolding is_safe_code
safe_rest live names registers i is safe = (and_parts _ _ safe).1

pub safe_block : (live names : List ℕ) (registers : ℕ) (blocks : List Block) (k : ℕ) → are_safe_blocks live names registers blocks ≡ true → is_safe_code live names registers (code_or (slice_get blocks k)) ≡ true
unfolding are_safe_blocks is_safe_code
safe_block live names registers [] k safe = refl
safe_block live names registers (b ∷ bs) zero safe = (and_parts _ _ safe).0
safe_block live names registers (b ∷ bs) (suc k) safe = safe_block live names registers bs k (and_parts _ _ safe).1

pub renamed_at : (names : List ℕ) (blocks : List Block) (k : ℕ) → code_or (slice_get (map (renamed_block names) blocks) k) ≡ renamed_code names (code_or (slice_get blocks k))
unfolding renamed_block renamed_code
renamed_at names [] k = refl
renamed_at names (b ∷ bs) zero = refl
renamed_at names (b ∷ bs) (suc k) = renamed_at names bs k
