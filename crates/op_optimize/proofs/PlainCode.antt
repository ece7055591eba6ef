-- Code that is gone through without leaving anything out stays as it is.
use Rattle.std.proofs.Common.{◌≡◌, ℕ, Bool, true, false, ◌&&◌, not, if◌then◌else◌, Option, Some, None, List, [], ◌∷◌, refl, ap, ◌∙◌, subst, arith}
use Rattle.std.proofs.lemmas.Bool.{and_parts, eqb-true, eq-eqb, ltb-true}
use Rattle.std.proofs.lemmas.Option.{same_Some}
use Rattle.std.specs.List.{list_all}
use Rattle.op_low.specs.Valid.{address_fits, call_at_fits, call_fits, const_fits, has, imm_fits, is_valid_instruction, local_fits, operands_fit, shift_fits}
use Rattle.op_low.specs.declared.code.Low.{Low}
use Rattle.op_low.specs.declared.code.Routine.{Routine}
use Rattle.op_low.specs.declared.ids.VirtualRegister.{VirtualRegister}
use Rattle.op_low.specs.declared.instruction.Call.{Call as Operands}
use Rattle.op_low.specs.declared.instruction.Instruction.{Instruction}
use Rattle.op_low.specs.declared.instruction.Instruction.TheVariants.{Const, Address, Local, Move, Alu, AluImm, Shift, Load, Store, Call, CallAt, Branch, Jump, Return, Raise, Read, Write, Exit}
use Rattle.op_rv.specs.declared.instruction.AluOp.{AluOp}
use Rattle.op_optimize.specs.Facts.{behind_write, is_copy_of, look_up, source, value_in, with_fact, without}
use Rattle.op_optimize.specs.Reading.{same, target_of}
use Rattle.op_optimize.specs.Rewriting.{and_one, branch, first_of, map_call, map_call_at, moved, operands_by, operands_of, operation, rewritten, sources, with_value}
use Rattle.op_optimize.specs.Simplifying.{contents_behind, destination, facts_behind, in_front, last_written, left_out, may_go, may_lose, may_write, nothing_of, or_nothing, plain_way, simplified, stays_as}
use Rattle.op_optimize.specs.Values.{is_commutative}
use Rattle.op_optimize.specs.declared.fact.Known.{Known}
use Rattle.op_optimize.specs.declared.fact.Value.TheVariants.{Copy}

sources_stay : (nothing : VirtualRegister) (rs : List VirtualRegister) → sources [] nothing rs ≡ Some rs
unfolding sources source value_in look_up
sources_stay nothing [] = refl
sources_stay nothing (r ∷ rs) = ap (and_one (Some r)) (sources_stay nothing rs)

operands_stay : (nothing : VirtualRegister) (call : Operands) → operands_of [] nothing call call.to ≡ Some call
unfolding operands_of
operands_stay nothing call = ap (operands_by call call.to) (sources_stay nothing call.arguments)

operation_stays : (nothing : VirtualRegister) (op : AluOp) (to left right : VirtualRegister) → operation [] nothing op to left right ≡ Some (Alu op to left right)
unfolding operation with_value source value_in look_up
operation_stays nothing op to left right = by (is_commutative op)
  where
    by : (t : Bool) → first_of (if t then None else None) (Some (Alu op to left right)) ≡ Some (Alu op to left right)
    by true = refl
    by false = refl

abbrev or_itself : VirtualRegister → Option VirtualRegister → VirtualRegister
or_itself nothing None = nothing
or_itself nothing (Some to) = to

rewritten_stays : (nothing : VirtualRegister) (i : Instruction) → rewritten [] nothing (or_itself nothing (target_of i)) i ≡ Some i
unfolding rewritten target_of moved branch source value_in look_up
rewritten_stays nothing (Const to n) = refl
rewritten_stays nothing (Address to symbol) = refl
rewritten_stays nothing (Local to offset) = refl
rewritten_stays nothing (Move to from) = refl
rewritten_stays nothing (Alu op to left right) = operation_stays nothing op to left right
rewritten_stays nothing (AluImm op to left imm) = refl
rewritten_stays nothing (Shift op to left amount) = refl
rewritten_stays nothing (Load op to base offset) = refl
rewritten_stays nothing (Store op v base offset) = refl
rewritten_stays nothing (Call id call) = ap (λ o. map_call (Call id) o) (operands_stay nothing call)
rewritten_stays nothing (CallAt address call) = ap (map_call_at (Some address)) (operands_stay nothing call)
rewritten_stays nothing (Branch op left right block) = refl
rewritten_stays nothing (Jump block) = refl
rewritten_stays nothing (Return v) = refl
rewritten_stays nothing Raise = refl
rewritten_stays nothing (Read to buffer size) = refl
rewritten_stays nothing (Write output buffer size) = refl
rewritten_stays nothing (Exit status) = refl

-- a register of the routine is written
pub targets_fit : (low : Low) (routine : Routine) (i : Instruction) (to : VirtualRegister) → is_valid_instruction low routine i ≡ true → target_of i ≡ Some to → has routine to ≡ true
unfolding is_valid_instruction target_of const_fits address_fits local_fits imm_fits shift_fits call_fits call_at_fits operands_fit
targets_fit low routine (Const t n) to valid is = subst (λ r. has routine r ≡ true) (same_Some _ _ is) (and_parts _ _ valid).0
targets_fit low routine (Address t symbol) to valid is = subst (λ r. has routine r ≡ true) (same_Some _ _ is) (and_parts _ _ valid).0
targets_fit low routine (Local t offset) to valid is = subst (λ r. has routine r ≡ true) (same_Some _ _ is) (and_parts _ _ valid).0
targets_fit low routine (Move t from) to valid is = subst (λ r. has routine r ≡ true) (same_Some _ _ is) (and_parts _ _ valid).0
targets_fit low routine (Alu op t left right) to valid is = subst (λ r. has routine r ≡ true) (same_Some _ _ is) (and_parts _ _ (and_parts _ _ valid).0).0
targets_fit low routine (AluImm op t left imm) to valid is = subst (λ r. has routine r ≡ true) (same_Some _ _ is) (and_parts _ _ (and_parts _ _ valid).0).0
targets_fit low routine (Shift op t left amount) to valid is = subst (λ r. has routine r ≡ true) (same_Some _ _ is) (and_parts _ _ (and_parts _ _ valid).0).0
targets_fit low routine (Load op t base offset) to valid is = subst (λ r. has routine r ≡ true) (same_Some _ _ is) (and_parts _ _ (and_parts _ _ valid).0).0
targets_fit low routine (Store op v base offset) to valid is = absurd cc
targets_fit low routine (Call id call) to valid is = subst (λ r. has routine r ≡ true) (same_Some _ _ is) (and_parts _ _ (and_parts _ _ (and_parts _ _ valid).1).0).1
targets_fit low routine (CallAt address call) to valid is = subst (λ r. has routine r ≡ true) (same_Some _ _ is) (and_parts _ _ (and_parts _ _ (and_parts _ _ valid).1).0).1
targets_fit low routine (Branch op left right block) to valid is = absurd cc
targets_fit low routine (Jump block) to valid is = absurd cc
targets_fit low routine (Return v) to valid is = absurd cc
targets_fit low routine Raise to valid is = absurd cc
targets_fit low routine (Read t buffer size) to valid is = subst (λ r. has routine r ≡ true) (same_Some _ _ is) (and_parts _ _ (and_parts _ _ valid).0).0
targets_fit low routine (Write output buffer size) to valid is = absurd cc
targets_fit low routine (Exit status) to valid is = absurd cc

module _ (low : Low) (routine : Routine) (live : List ℕ) where
  itself : (is : List Instruction) (to : VirtualRegister) → destination live (plain_way routine) is to ≡ to
  unfolding destination
  itself [] to = refl
  itself (Move t from ∷ is) to = refl
  itself (Const t n ∷ is) to = refl
  itself (Address t symbol ∷ is) to = refl
  itself (Local t offset ∷ is) to = refl
  itself (Alu op t left right ∷ is) to = refl
  itself (AluImm op t left imm ∷ is) to = refl
  itself (Shift op t left amount ∷ is) to = refl
  itself (Load op t base offset ∷ is) to = refl
  itself (Store op v base offset ∷ is) to = refl
  itself (Call id call ∷ is) to = refl
  itself (CallAt address call ∷ is) to = refl
  itself (Branch op left right block ∷ is) to = refl
  itself (Jump block ∷ is) to = refl
  itself (Return v ∷ is) to = refl
  itself (Raise ∷ is) to = refl
  itself (Read t buffer size ∷ is) to = refl
  itself (Write output buffer size ∷ is) to = refl
  itself (Exit status ∷ is) to = refl

  no_facts : (is : List Instruction) (o : Option VirtualRegister) → facts_behind live (plain_way routine) [] is o ≡ []
  unfolding facts_behind without behind_write with_fact is_copy_of
  no_facts is None = refl
  no_facts is (Some to) =
      ap (λ t. if t then [] else record { register = to; value = Copy (destination live (plain_way routine) is to) } ∷ []) (ap (λ r. same r to) (itself is to) ∙ eq-eqb to.0 to.0 refl)

  apart : (to : VirtualRegister) → has routine to ≡ true → same to (nothing_of routine) ≡ false
  apart to fits = by (same to (nothing_of routine)) refl
    where
      by : (t : Bool) → same to (nothing_of routine) ≡ t → same to (nothing_of routine) ≡ false
      by true e = let less = ltb-true to.0 routine.registers fits in let is = eqb-true to.0 routine.registers e in absurd (omega arith)
      by false e = e

  may_always : (is : List Instruction) (o : Option VirtualRegister) → ((to : VirtualRegister) → o ≡ Some to → has routine to ≡ true) → may_write live (plain_way routine) [] is o ≡ true
  unfolding may_write may_lose without
  may_always is None fits = refl
  may_always is (Some to) fits = ap (λ t. not t && true) (ap (λ r. same r (nothing_of routine)) (itself is to) ∙ apart to (fits to refl))

  last_itself : (is : List Instruction) (o : Option VirtualRegister) → or_nothing (plain_way routine) (last_written live (plain_way routine) is o) ≡ or_itself (nothing_of routine) o
  last_itself is None = refl
  last_itself is (Some to) = itself is to

  one_stays : (i : Instruction) (is : List Instruction) → is_valid_instruction low routine i ≡ true → stays_as live (plain_way routine) [] i is ≡ Some i
  unfolding stays_as may_go
  one_stays i is valid =
      ap (λ t. if t then rewritten [] (nothing_of routine) (or_nothing (plain_way routine) (last_written live (plain_way routine) is (target_of i))) i else None) (may_always is (target_of i) (λ to e. targets_fit low routine i to valid e))
      ∙ ap (λ r. rewritten [] (nothing_of routine) r i) (last_itself is (target_of i))
      ∙ rewritten_stays (nothing_of routine) i

  pub code_stays : (known : List Known) (code : List Instruction) → list_all (is_valid_instruction low routine) code ≡ true → simplified live (plain_way routine) [] known code ≡ Some code
  unfolding simplified left_out
  code_stays known [] valid = refl
  code_stays known (i ∷ is) valid =
      let parts = and_parts _ _ valid in
      ap (λ o. in_front o (simplified live (plain_way routine) (facts_behind live (plain_way routine) [] is (target_of i)) (contents_behind live (plain_way routine) known i is) is)) (one_stays i is parts.0)
      ∙ ap (λ fs. in_front (Some i) (simplified live (plain_way routine) fs (contents_behind live (plain_way routine) known i is) is)) (no_facts is (target_of i))
      ∙ ap (in_front (Some i)) (code_stays (contents_behind live (plain_way routine) known i is) is parts.1)
