-- What facts say of registers, and what they say once a register is written.
use Rattle.std.proofs.Common.{◌≡◌, ℕ, zero, suc, Bool, true, false, ◌&&◌, ◌||◌, not, if◌then◌else◌, Option, Some, None, List, [], ◌∷◌, ◌++◌, nat_eq, refl, ap, ap₂, sym, ◌∙◌, subst, take}
use Rattle.std.proofs.lemmas.Bool.{and_parts, eqb-true, eqb-false, eq-eqb}
use Rattle.std.specs.Int.{from_bool}
use Rattle.op_base.proofs.Tests.{eqb-turned}
use Rattle.op_low.specs.declared.ids.VirtualRegister.{VirtualRegister}
use Rattle.op_low.specs.declared.instruction.Instruction.{Instruction}
use Rattle.op_rv.specs.Operation.{alu_value, branch_taken}
use Rattle.op_rv.specs.declared.instruction.AluOp.TheVariants.{Xor}
use Rattle.op_rv.specs.declared.symbol.Symbol.{Symbol}
use Rattle.op_optimize.specs.Contents.{and_content, content_of, known_behind, others}
use Rattle.op_optimize.specs.Facts.{behind_write, is_copy_of, look_up, mentions, value_in, value_or, with_fact, without}
use Rattle.op_optimize.specs.Liveness.{is_dead, needs}
use Rattle.op_optimize.specs.Reading.{same}
use Rattle.op_optimize.specs.Simplifying.{may_lose}
use Rattle.op_optimize.specs.declared.fact.Content.{Content}
use Rattle.op_optimize.specs.declared.fact.Content.TheVariants.{Number as NumberIn, Place}
use Rattle.op_optimize.specs.declared.fact.Fact.{Fact}
use Rattle.op_optimize.specs.declared.fact.Known.{Known}
use Rattle.op_optimize.specs.declared.fact.Value.{Value}
use Rattle.op_optimize.specs.declared.fact.Value.TheVariants.{Copy, Number, Difference, Truth}
use Rattle.op_optimize.proofs.Needing.{dead_is_not_needed}

-- what a value is, over the registers of the better code
abbrev pub meaning : (ℕ → ℕ) → Value → ℕ
meaning s (Copy of) = s of.0
meaning s (Number n) = n
meaning s (Difference left right) = alu_value Xor (s left.0) (s right.0)
meaning s (Truth op left right) = from_bool (branch_taken op (s left.0) (s right.0))

abbrev pub updated : (ℕ → ℕ) → VirtualRegister → ℕ → ℕ → ℕ
updated s to v = λ r. if nat_eq r to.0 then v else s r

pub at_itself : (s : ℕ → ℕ) (to : VirtualRegister) (v : ℕ) → updated s to v to.0 ≡ v
at_itself s to v = ap (λ t. if t then v else s to.0) (eq-eqb to.0 to.0 refl)

pub at_another : (s : ℕ → ℕ) (to r : VirtualRegister) (v : ℕ) → same to r ≡ false → updated s to v r.0 ≡ s r.0
at_another s to r v other = ap (λ t. if t then v else s r.0) (eqb-turned to.0 r.0 other)

pub same_register : (a b : VirtualRegister) → same a b ≡ true → a ≡ b
same_register a b is = ap (λ n. record { 0 = n }) (eqb-true a.0 b.0 is)

-- ---- the fact of a register goes, or comes

module _ (to : VirtualRegister) where
  look_up_without : (facts : List Fact) (r : VirtualRegister) → same to r ≡ false → look_up (without facts to) r ≡ look_up facts r
  unfolding look_up without
  look_up_without [] r other = refl
  look_up_without (f ∷ fs) r other = by (same f.register to) (same f.register r) refl refl (look_up_without fs r other)
    where
      by : (t u : Bool) → same f.register to ≡ t → same f.register r ≡ u → look_up (without fs to) r ≡ look_up fs r → look_up (without (f ∷ fs) to) r ≡ look_up (f ∷ fs) r
      by true true e d rest = absurd (eqb-false to.0 r.0 other (sym (eqb-true f.register.0 to.0 e) ∙ eqb-true f.register.0 r.0 d))
      by true false e d rest = ap (λ t. look_up (if t then without fs to else f ∷ without fs to) r) e ∙ rest ∙ sym (ap (λ u. if u then Some f.value else look_up fs r) d)
      by false u e d rest = ap (λ t. look_up (if t then without fs to else f ∷ without fs to) r) e ∙ ap (λ o. if same f.register r then Some f.value else o) rest

  look_up_itself : (facts : List Fact) → look_up (without facts to) to ≡ None
  unfolding look_up without
  look_up_itself [] = refl
  look_up_itself (f ∷ fs) = by (same f.register to) refl (look_up_itself fs)
    where
      by : (t : Bool) → same f.register to ≡ t → look_up (without fs to) to ≡ None → look_up (without (f ∷ fs) to) to ≡ None
      by true e rest = ap (λ t. look_up (if t then without fs to else f ∷ without fs to) to) e ∙ rest
      by false e rest = ap (λ t. look_up (if t then without fs to else f ∷ without fs to) to) e ∙ ap (λ u. if u then Some f.value else look_up (without fs to) to) e ∙ rest

  abbrev first_of : Option Value → Option Value → Option Value
  first_of None other = other
  first_of (Some v) other = Some v

  look_up_behind : (xs ys : List Fact) (r : VirtualRegister) → look_up (xs ++ ys) r ≡ first_of (look_up xs r) (look_up ys r)
  unfolding look_up
  look_up_behind [] ys r = refl
  look_up_behind (f ∷ fs) ys r = by (same f.register r) (look_up_behind fs ys r)
    where
      by : (t : Bool) → look_up (fs ++ ys) r ≡ first_of (look_up fs r) (look_up ys r) → (if t then Some f.value else look_up (fs ++ ys) r) ≡ first_of (if t then Some f.value else look_up fs r) (look_up ys r)
      by true rest = refl
      by false rest = rest

  pub value_without : (facts : List Fact) (r : VirtualRegister) → same to r ≡ false → value_in (without facts to) r ≡ value_in facts r
  unfolding value_in
  value_without facts r other = ap (value_or r) (look_up_without facts r other)

  value_itself : (facts : List Fact) → value_in (without facts to) to ≡ Copy to
  unfolding value_in
  value_itself facts = ap (value_or to) (look_up_itself facts)

  module _ (v : Value) where
    copies : (w : Value) → is_copy_of w to ≡ true → w ≡ Copy to
    unfolding is_copy_of
    copies (Copy of) is = ap Copy (same_register of to is)
    copies (Number n) is = absurd cc
    copies (Difference left right) is = absurd cc
    copies (Truth op left right) is = absurd cc

    look_up_new : (facts : List Fact) → look_up (without facts to ++ record { register = to; value = v } ∷ []) to ≡ Some v
    unfolding look_up
    look_up_new facts =
        look_up_behind (without facts to) (record { register = to; value = v } ∷ []) to
        ∙ ap (λ o. first_of o (if same to to then Some v else None)) (look_up_itself facts)
        ∙ ap (λ t. if t then Some v else None) (eq-eqb to.0 to.0 refl)

    look_up_beside : (facts : List Fact) (r : VirtualRegister) → same to r ≡ false → look_up (without facts to ++ record { register = to; value = v } ∷ []) r ≡ look_up facts r
    unfolding look_up
    look_up_beside facts r other =
        look_up_behind (without facts to) (record { register = to; value = v } ∷ []) r
        ∙ ap (λ o. first_of o (if same to r then Some v else None)) (look_up_without facts r other)
        ∙ ap (λ t. first_of (look_up facts r) (if t then Some v else None)) other ∙ none (look_up facts r)
      where
        none : (o : Option Value) → first_of o None ≡ o
        none None = refl
        none (Some w) = refl

    -- the register would have that value
    pub value_new : (facts : List Fact) → value_in (with_fact facts to v) to ≡ v
    unfolding with_fact value_in
    value_new facts = by (is_copy_of v to) refl
      where
        by : (t : Bool) → is_copy_of v to ≡ t → value_in (if t then without facts to else without facts to ++ record { register = to; value = v } ∷ []) to ≡ v
        by true e = value_itself facts ∙ sym (copies v e)
        by false e = ap (value_or to) (look_up_new facts)

    -- and no other one is changed
    pub value_beside : (facts : List Fact) (r : VirtualRegister) → same to r ≡ false → value_in (with_fact facts to v) r ≡ value_in facts r
    unfolding with_fact value_in
    value_beside facts r other = by (is_copy_of v to)
      where
        by : (t : Bool) → value_in (if t then without facts to else without facts to ++ record { register = to; value = v } ∷ []) r ≡ value_in facts r
        by true = value_without facts r other
        by false = ap (value_or r) (look_up_beside facts r other)

-- ---- a register of the better code is written

module _ (s : ℕ → ℕ) (last : VirtualRegister) (x : ℕ) where
  -- what does not mention it stays
  pub meaning_stays : (v : Value) → mentions v last ≡ false → meaning (updated s last x) v ≡ meaning s v
  unfolding mentions
  meaning_stays (Copy of) none = at_another s last of x (eqb-turned of.0 last.0 none)
  meaning_stays (Number n) none = refl
  meaning_stays (Difference left right) none =
      let parts = or_parts (same left last) (same right last) none in
      ap₂ (alu_value Xor) (at_another s last left x (eqb-turned left.0 last.0 parts.0)) (at_another s last right x (eqb-turned right.0 last.0 parts.1))
    where
      or_parts : (a b : Bool) → (a || b) ≡ false → (a ≡ false) × (b ≡ false)
      or_parts true b is = absurd cc
      or_parts false b is = (refl, is)
  meaning_stays (Truth op left right) none =
      let parts = or_parts (same left last) (same right last) none in
      ap₂ (λ a b. from_bool (branch_taken op a b)) (at_another s last left x (eqb-turned left.0 last.0 parts.0)) (at_another s last right x (eqb-turned right.0 last.0 parts.1))
    where
      or_parts : (a b : Bool) → (a || b) ≡ false → (a ≡ false) × (b ≡ false)
      or_parts true b is = absurd cc
      or_parts false b is = (refl, is)

  -- what is needed behind the write has the value that it had
  pub value_kept : (live : List ℕ) (is : List Instruction) (facts : List Fact) (r : VirtualRegister) → may_lose live facts is last ≡ true → same last r ≡ false → needs live is r ≡ true → meaning (updated s last x) (value_in (behind_write facts last) r) ≡ meaning s (value_in facts r)
  unfolding value_in look_up behind_write may_lose
  value_kept live is [] r may other needed = at_another s last r x other
  value_kept live is (f ∷ fs) r may other needed =
      let parts = and_parts _ _ may in
      by (same f.register r) (mentions f.value last) refl refl parts.0 (value_kept live is fs r parts.1 other needed)
    where
      front : Bool → List Fact
      front t = if t then f ∷ behind_write fs last else behind_write fs last

      not_here : (t : Bool) → same f.register r ≡ false → value_in (if t then f ∷ behind_write fs last else behind_write fs last) r ≡ value_in (behind_write fs last) r
      not_here true d = ap (λ u. value_or r (if u then Some f.value else look_up (behind_write fs last) r)) d
      not_here false d = refl

      or_dead : (a m d : Bool) → (a || (not m || d)) ≡ true → a ≡ false → m ≡ true → d ≡ true
      or_dead true m d is e n = absurd cc
      or_dead false true d is e n = is
      or_dead false false d is e n = absurd cc

      by : (t m : Bool) → same f.register r ≡ t → mentions f.value last ≡ m → (same f.register last || (not (mentions f.value last) || is_dead live is f.register)) ≡ true → meaning (updated s last x) (value_in (behind_write fs last) r) ≡ meaning s (value_in fs r) → meaning (updated s last x) (value_in (behind_write (f ∷ fs) last) r) ≡ meaning s (value_in (f ∷ fs) r)
      by true true d m may_f rest =
          let is_r = same_register f.register r d in
          let apart : same f.register last ≡ false = ap (λ a. same a last) is_r ∙ eqb-turned last.0 r.0 other in
          let dead = or_dead _ _ _ may_f apart m in
          absurd (dead_is_not_needed live is r (subst (λ a. is_dead live is a ≡ true) is_r dead) needed)
      by true false d m may_f rest =
          let is_r = same_register f.register r d in
          let apart : same f.register last ≡ false = ap (λ a. same a last) is_r ∙ eqb-turned last.0 r.0 other in
          let kept : (not (same f.register last) && not (mentions f.value last)) ≡ true = ap₂ (λ a b. not a && not b) apart m in
          ap (λ t. meaning (updated s last x) (value_in (if t then f ∷ behind_write fs last else behind_write fs last) r)) kept
          ∙ ap (λ u. meaning (updated s last x) (value_or r (if u then Some f.value else look_up (behind_write fs last) r))) d
          ∙ meaning_stays f.value m
          ∙ sym (ap (λ u. meaning s (value_or r (if u then Some f.value else look_up fs r))) d)
      by false m d e may_f rest =
          ap (meaning (updated s last x)) (not_here (not (same f.register last) && not (mentions f.value last)) d)
          ∙ rest
          ∙ sym (ap (λ u. meaning s (value_or r (if u then Some f.value else look_up fs r))) d)

-- ---- contents

abbrev pub content_value : (Symbol → ℕ) → Content → ℕ
content_value address (NumberIn n) = n
content_value address (Place symbol) = address symbol

abbrev pub Knows : (Symbol → ℕ) → (ℕ → ℕ) → List Known → Type 0
Knows address s [] = Unit {0}
Knows address s (k ∷ ks) = (s k.register.0 ≡ content_value address k.content) × Knows address s ks

module _ (address : Symbol → ℕ) (s : ℕ → ℕ) where
  knows_few : (n : ℕ) (known : List Known) → Knows address s known → Knows address s (take n known)
  knows_few zero [] knows = tt
  knows_few zero (k ∷ ks) knows = tt
  knows_few (suc n) [] knows = tt
  knows_few (suc n) (k ∷ ks) knows = (knows.0, knows_few n ks knows.1)

  knows_others : (last : VirtualRegister) (x : ℕ) (known : List Known) → Knows address s known → Knows address (updated s last x) (others known last)
  unfolding others
  knows_others last x [] knows = tt
  knows_others last x (k ∷ ks) knows = by (same k.register last) refl (knows_others last x ks knows.1)
    where
      by : (t : Bool) → same k.register last ≡ t → Knows address (updated s last x) (others ks last) → Knows address (updated s last x) (if t then others ks last else k ∷ others ks last)
      by true e rest = rest
      by false e rest = (at_another s last k.register x (eqb-turned k.register.0 last.0 e) ∙ knows.0, rest)

  -- what an instruction puts there is known behind it
  pub knows_behind : (last : VirtualRegister) (x : ℕ) (i : Instruction) (known : List Known) → ((c : Content) → content_of i ≡ Some c → x ≡ content_value address c) → Knows address s known → Knows address (updated s last x) (known_behind known last i)
  unfolding known_behind
  knows_behind last x i known puts knows = by (content_of i) puts
    where
      rest : Knows address (updated s last x) (others (take 12 known) last)
      rest = knows_others last x (take 12 known) (knows_few 12 known knows)

      by : (o : Option Content) → ((c : Content) → o ≡ Some c → x ≡ content_value address c) → Knows address (updated s last x) (and_content last o ++ others (take 12 known) last)
      by None puts = rest
      by (Some c) puts = (at_itself s last x ∙ puts c refl, rest)
