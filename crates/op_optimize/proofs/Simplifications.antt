-- Activations of a program and of the one with simplified blocks that stand for one another, and what an instruction that stays finds.
use Rattle.std.proofs.Common.{◌≡◌, ℕ, ◌≤◌, ◌<◌, Bool, true, false, ◌&&◌, ◌||◌, not, if◌then◌else◌, Some, None, List, [], ◌∷◌, slice_get, refl, ap, sym, ◌∙◌, subst}
use Rattle.std.proofs.lemmas.Bool.{and_parts, eqb-true, eqb-false, eq-eqb}
use Rattle.op_low.specs.State.{Activation, code_or, routine_of, value_in as register_in}
use Rattle.op_low.specs.Valid.{leaves}
use Rattle.op_low.specs.declared.code.Low.{Low}
use Rattle.op_low.specs.declared.code.Routine.{Routine}
use Rattle.op_low.specs.declared.ids.VirtualRegister.{VirtualRegister}
use Rattle.op_low.specs.declared.instruction.Instruction.{Instruction}
use Rattle.op_low.specs.declared.instruction.Instruction.TheVariants.{Const, Address, Local, Move, Alu, AluImm, Shift, Load, Store, Call, CallAt, Branch, Jump, Return, Raise, Read, Write, Exit}
use Rattle.op_rv.specs.declared.symbol.Symbol.{Symbol}
use Rattle.op_optimize.specs.Contents.{content_of}
use Rattle.op_optimize.specs.Facts.{behind_write, look_up, value_in, value_or, with_fact, without}
use Rattle.op_optimize.specs.Liveness.{is_dead, is_live, is_live_beyond, is_lost, needs}
use Rattle.op_optimize.specs.Reading.{is_some_one, reads, same, target_of}
use Rattle.op_optimize.specs.Simplifying.{destination, facts_behind, may_go, may_write, nothing_of, simplified}
use Rattle.op_optimize.specs.declared.block.Way.{Way}
use Rattle.op_optimize.specs.declared.fact.Content.{Content}
use Rattle.op_optimize.specs.declared.fact.Fact.{Fact}
use Rattle.op_optimize.specs.declared.fact.Known.{Known}
use Rattle.op_optimize.specs.declared.fact.Value.{Value}
use Rattle.op_optimize.specs.declared.fact.Value.TheVariants.{Copy}
use Rattle.op_optimize.proofs.Facts.{Knows, at_another, at_itself, content_value, meaning, same_register, updated, value_beside, value_kept, value_new, value_without}
use Rattle.op_optimize.proofs.Needing.{goes_on_behind, needs_behind}

-- how a block of a routine is simplified
pub record BlockPlan (live : List ℕ) (routine better : Routine) (block : ℕ) : Type 0 where
  pub way : Way
  pub nothing : way.nothing ≡ nothing_of routine
  pub is : simplified live way [] [] (code_or (slice_get routine.blocks block)) ≡ Some (code_or (slice_get better.blocks block))

-- how a routine is: a table that has what its blocks need, and a register that it has not
pub record Plan (routine better : Routine) : Type 0 where
  pub live : List ℕ
  pub closed : (block : ℕ) (r : VirtualRegister) → r.0 < routine.registers → needs live (code_or (slice_get routine.blocks block)) r ≡ true → is_live live (record { 0 = block }) r ≡ true
  pub blocks : (block : ℕ) → BlockPlan live routine better block
  pub parameters : better.parameters ≡ routine.parameters
  pub locals : better.locals ≡ routine.locals
  pub fits : routine.parameters ≤ routine.registers

abbrev pub Plans : (low better : Low) → Type 0
Plans low better = (r : ℕ) → Plan (routine_of low r) (routine_of better r)

-- ---- activations

pub record InBlock (low better : Low) (address : Symbol → ℕ) (plans : Plans low better) (a b : Activation) : Type 0 where
  pub routine : b.routine ≡ a.routine
  pub way : Way
  pub nothing : way.nothing ≡ nothing_of (routine_of low a.routine)
  pub facts : List Fact
  pub known : List Known
  pub code : simplified (plans a.routine).live way facts known a.now ≡ Some b.now
  pub values : (r : VirtualRegister) → r.0 < (routine_of low a.routine).registers → needs (plans a.routine).live a.now r ≡ true → register_in a.registers r ≡ meaning b.registers (value_in facts r)
  pub knows : Knows address b.registers known
  pub none : b.registers (routine_of low a.routine).registers ≡ 0

abbrev pub behind : List Instruction → Activation → Activation
behind is a = record a { now = is }

-- what an instruction puts in its register, where that is told
abbrev pub Puts : (Symbol → ℕ) → Instruction → ℕ → Type 0
Puts address i v = (c : Content) → content_of i ≡ Some c → v ≡ content_value address c

-- a block that may be reached needs nothing that the better code has not written
module _ (live : List ℕ) (i : Instruction) (r : VirtualRegister) where
  pub goes_clear : (facts : List Fact) → may_go live facts i ≡ true → is_live_beyond live i r ≡ true → value_in facts r ≡ Copy r
  unfolding value_in look_up may_go
  goes_clear [] may is_live = refl
  goes_clear (f ∷ fs) may is_live =
      let parts = and_parts _ _ may in
      by (same f.register r) refl parts.0 (goes_clear fs parts.1 is_live)
    where
      none : (t : Bool) → t ≡ true → not t ≡ true → ⊥
      none true e n = absurd cc
      none false e n = absurd cc

      by : (t : Bool) → same f.register r ≡ t → not (is_live_beyond live i f.register) ≡ true → value_in fs r ≡ Copy r → value_in (f ∷ fs) r ≡ Copy r
      by true e dead rest = absurd (none (is_live_beyond live i f.register) (ap (is_live_beyond live i) (same_register f.register r e) ∙ is_live) dead)
      by false e dead rest = ap (λ t. value_or r (if t then Some f.value else look_up fs r)) e ∙ rest

-- where a value is written elsewhere it is moved from there next
data GoesTo (live : List ℕ) (is : List Instruction) (to last : VirtualRegister) : Type 0 where
  Stays : same last to ≡ true → GoesTo live is to last
  Moved : same last to ≡ false → needs live is last ≡ false → GoesTo live is to last

goes_to : (live : List ℕ) (way : Way) (is : List Instruction) (to : VirtualRegister) → GoesTo live is to (destination live way is to)
unfolding destination needs reads is_live_beyond target_of leaves
goes_to live way (Move last from ∷ is) to = by (way.thorough && same from to && not (same last to) && is_dead live is to) (same last to) (same from last) refl refl refl
  where
    yes : same to to ≡ true
    yes = eq-eqb to.0 to.0 refl

    by : (t u w : Bool) → (way.thorough && same from to && not (same last to) && is_dead live is to) ≡ t → same last to ≡ u → same from last ≡ w → GoesTo live (Move last from ∷ is) to (if t then last else to)
    by false u w e d f = Stays yes
    by true true w e d f = Stays d
    by true false true e d f =
        let inner = and_parts _ _ (and_parts _ _ e).0 in
        let from_to = (and_parts _ _ inner.0).1 in
        absurd (eqb-false last.0 to.0 d (sym (eqb-true from.0 last.0 f) ∙ eqb-true from.0 to.0 from_to))
    by true false false e d f =
        Moved d (ap (λ w. if w || false then true else (if same last last || false then false else needs live is last)) f ∙ ap (λ u. if u || false then false else needs live is last) (eq-eqb last.0 last.0 refl))
goes_to live way [] to = Stays (eq-eqb to.0 to.0 refl)
goes_to live way (Const t n ∷ is) to = Stays (eq-eqb to.0 to.0 refl)
goes_to live way (Address t symbol ∷ is) to = Stays (eq-eqb to.0 to.0 refl)
goes_to live way (Local t offset ∷ is) to = Stays (eq-eqb to.0 to.0 refl)
goes_to live way (Alu op t left right ∷ is) to = Stays (eq-eqb to.0 to.0 refl)
goes_to live way (AluImm op t left imm ∷ is) to = Stays (eq-eqb to.0 to.0 refl)
goes_to live way (Shift op t left amount ∷ is) to = Stays (eq-eqb to.0 to.0 refl)
goes_to live way (Load op t base offset ∷ is) to = Stays (eq-eqb to.0 to.0 refl)
goes_to live way (Store op v base offset ∷ is) to = Stays (eq-eqb to.0 to.0 refl)
goes_to live way (Call id call ∷ is) to = Stays (eq-eqb to.0 to.0 refl)
goes_to live way (CallAt address call ∷ is) to = Stays (eq-eqb to.0 to.0 refl)
goes_to live way (Branch op left right block ∷ is) to = Stays (eq-eqb to.0 to.0 refl)
goes_to live way (Jump block ∷ is) to = Stays (eq-eqb to.0 to.0 refl)
goes_to live way (Return v ∷ is) to = Stays (eq-eqb to.0 to.0 refl)
goes_to live way (Raise ∷ is) to = Stays (eq-eqb to.0 to.0 refl)
goes_to live way (Read t buffer size ∷ is) to = Stays (eq-eqb to.0 to.0 refl)
goes_to live way (Write output buffer size ∷ is) to = Stays (eq-eqb to.0 to.0 refl)
goes_to live way (Exit status ∷ is) to = Stays (eq-eqb to.0 to.0 refl)

not_lost : (i : Instruction) (to r : VirtualRegister) → target_of i ≡ Some to → same to r ≡ false → is_lost i r ≡ false
not_lost i to r target other = ap (λ t. is_some_one t r || leaves i) target ∙ ap (λ t. t || leaves i) other ∙ goes_on_behind i to target

-- ---- values behind an instruction

module _ (live : List ℕ) (i : Instruction) (is : List Instruction) (facts : List Fact) (old new : ℕ → ℕ) (registers : ℕ) (values : (r : VirtualRegister) → r.0 < registers → needs live (i ∷ is) r ≡ true → register_in old r ≡ meaning new (value_in facts r)) where
  -- that writes nothing
  pub values_stay : target_of i ≡ None → leaves i ≡ false → (r : VirtualRegister) → r.0 < registers → needs live is r ≡ true → register_in old r ≡ meaning new (value_in facts r)
  values_stay none goes r less needed = values r less (needs_behind live i is r (ap (λ t. is_some_one t r || leaves i) none ∙ goes) needed)

  -- that is left out: its register would have the value
  pub values_left_out : (to : VirtualRegister) (x : ℕ) (v : Value) → target_of i ≡ Some to → x ≡ meaning new v → (r : VirtualRegister) → r.0 < registers → needs live is r ≡ true → updated old to x r.0 ≡ meaning new (value_in (with_fact facts to v) r)
  values_left_out to x v target means r less needed = by (same to r) refl
    where
      by : (t : Bool) → same to r ≡ t → updated old to x r.0 ≡ meaning new (value_in (with_fact facts to v) r)
      by true e =
          let is_to = same_register to r e in
          subst (λ y. updated old to x y.0 ≡ meaning new (value_in (with_fact facts to v) y)) is_to
          (at_itself old to x ∙ means ∙ ap (meaning new) (sym (value_new to v facts)))
      by false e =
          at_another old to r x e ∙ values r less (needs_behind live i is r (not_lost i to r target e) needed) ∙ ap (meaning new) (sym (value_beside to v facts r e))

  -- that stays, and writes another register or the same
  pub values_written : (way : Way) (to : VirtualRegister) (x : ℕ) → target_of i ≡ Some to → may_write live way facts is (Some to) ≡ true → (r : VirtualRegister) → r.0 < registers → needs live is r ≡ true → updated old to x r.0 ≡ meaning (updated new (destination live way is to) x) (value_in (facts_behind live way facts is (Some to)) r)
  unfolding may_write facts_behind
  values_written way to x target may r less needed = by (same to r) refl (goes_to live way is to)
    where
      last : VirtualRegister
      last = destination live way is to

      by : (t : Bool) → same to r ≡ t → GoesTo live is to (destination live way is to) → updated old to x r.0 ≡ meaning (updated new (destination live way is to) x) (value_in (with_fact (behind_write (without facts to) (destination live way is to)) to (Copy (destination live way is to))) r)
      by true e goes =
          let is_to = same_register to r e in
          subst (λ y. updated old to x y.0 ≡ meaning (updated new (destination live way is to) x) (value_in (with_fact (behind_write (without facts to) (destination live way is to)) to (Copy (destination live way is to))) y)) is_to
          (at_itself old to x ∙ sym (at_itself new (destination live way is to) x) ∙ ap (meaning (updated new (destination live way is to) x)) (sym (value_new to (Copy (destination live way is to)) (behind_write (without facts to) (destination live way is to)))))
      by false e goes =
          let before = values r less (needs_behind live i is r (not_lost i to r target e) needed) in
          at_another old to r x e ∙ before ∙ ap (meaning new) (sym (value_without to facts r e))
          ∙ sym (value_kept new (destination live way is to) x live is (without facts to) r (and_parts _ _ may).1 (apart goes) needed)
          ∙ ap (meaning (updated new (destination live way is to) x)) (sym (value_beside to (Copy (destination live way is to)) (behind_write (without facts to) (destination live way is to)) r e))
        where
          apart : GoesTo live is to (destination live way is to) → same (destination live way is to) r ≡ false
          apart (Stays is_to) = ap (λ y. same y r) (same_register (destination live way is to) to is_to) ∙ e
          apart (Moved other unneeded) = differs (same (destination live way is to) r) refl
            where
              differs : (t : Bool) → same (destination live way is to) r ≡ t → same (destination live way is to) r ≡ false
              differs true d = let clash = sym (ap (needs live is) (same_register (destination live way is to) r d) ∙ needed) ∙ unneeded in absurd cc
              differs false d = d
