-- A variable of the routine under way begins as zero: a run-time routine puts zeros in all its words.
use Rattle.std.proofs.Common.{◌≡◌, ◌≢◌, ◌≤◌, ◌<◌, ◌⊎◌, inl, inr, ℕ, zero, suc, ◌+◌, ◌-◌, List, [], ◌∷◌, ◌++◌, None, length, replicate, refl, sym, ap, ap₂, ◌∙◌, subst, arith, ◌*◌}
use Rattle.std.specs.Prelude.{◌^◌, ◌%◌, Bool, true, false, nat_eq, nat_lt, slice_index, if◌then◌else◌}
use Rattle.std.proofs.lemmas.Bool.{cases_lt}
use Rattle.std.proofs.lemmas.Bool.Decides.{nat_tests}
use Rattle.std.proofs.lemmas.List.{length-replicate}
use Rattle.std.proofs.lemmas.Grind.{div_ceil_times}
use Rattle.op_compute.proofs.Registers.{put_lower, put_other, put_same}
use Rattle.op_compute.specs.Bank.{scratch_of}
use Rattle.op_compute.specs.Straight.{at, put}
use Rattle.op_expand.specs.Calls.{runtime}
use Rattle.op_places.specs.Homes.{home_at, rounded}
use Rattle.op_expand.specs.Actions.{zeros_begun}
use Rattle.op_places.specs.Places.{home_code, home_spot, reach_code, reached, stored_code}
use Rattle.op_places.specs.declared.homes.Home.{Home}
use Rattle.op_places.specs.declared.homes.Home.TheVariants.{Stored}
use Rattle.op_low.specs.Machine.{act}
use Rattle.op_low.specs.State.{Running, State, routine_of}
use Rattle.op_low.specs.declared.ids.VirtualRegister.{VirtualRegister}
use Rattle.op_low.specs.declared.instruction.Call.{Call as Operands}
use Rattle.op_low.specs.declared.instruction.Instruction.{Instruction as LowInstruction}
use Rattle.op_low.specs.declared.instruction.Instruction.TheVariants.{Const, Local as LocalAddress}
use Rattle.op_mir.specs.declared.ids.LocalId.{LocalId}
use Rattle.op_rt_text.proofs.Contracts.{memory_is_zeroed}
use Rattle.op_rt_text.specs.Names.{call, clear_number}
use Rattle.op_rt_text.specs.Running.{Called, Clearable, Clears}
use Rattle.op_rv.proofs.Memory.{with_bytes-outside, with_bytes-within, zeros_get}
use Rattle.op_rv.specs.State.{with_bytes}
use Rattle.op_agreement.proofs.Going.{Goes, goes_from, goes_one, goes_then, goes_to, standing, goes_within, goes_path}
use Rattle.op_agreement.proofs.Taking.{IsStored, LiesWithin, stored_within}
use Rattle.op_agreement.proofs.WholeWords.{bytes_stored, rounded_some}
use Rattle.op_agreement.specs.Chart.{Floor}
use Rattle.op_agreement.specs.Fitting.{IsFitting}
use Rattle.op_agreement.specs.Settings.{Setting}

-- The variable is stored, and there is room for a call. The spare register is not the one that gets the variable's address.
pub record CanClear (g : Setting) (f : Floor) (l : State) (v : LocalId) (offset size : ℕ) : Type 0 where
  pub stored : IsStored g f l v offset size
  pub running : l.ending ≡ Running
  pub routine : l.top.routine ≡ runtime + f.number
  pub lowest : g.bottom ≤ f.base
  pub room : 1024 ≤ l.room
  pub bytes : (x : ℕ) → x < l.limit → l.memory x < 2 ^ 8
  pub other : f.frame.spare.0 ≢ f.frame.bank.scratch

-- what it costs at most
abbrev pub clear_most : ℕ → ℕ
clear_most size = 212 + 6 * size

-- Low code has come to the rest. Registers in front of the scratch registers are as they were, but for the spare one; so is memory below
-- the limit, but for the whole words of the variable, which has zeros now.
pub record Emptied (g : Setting) (f : Floor) (l : State) (rest : List LowInstruction) (a size : ℕ) : Type 0 where
  pub registers : ℕ → ℕ
  pub memory : ℕ → ℕ
  pub goes : Goes g 1 (clear_most size) l (record (at l registers rest) { memory = memory })
  pub kept : (r : ℕ) → r < f.frame.bank.scratch → r ≢ f.frame.spare.0 → registers r ≡ l.top.registers r
  pub others : (x : ℕ) → x < l.limit → (x < a) ⊎ (a + rounded size ≤ x) → memory x ≡ l.memory x
  pub none : (k : ℕ) → k < size → memory (a + k) ≡ 0
  pub bytes : (x : ℕ) → x < l.limit → memory x < 2 ^ 8

module _ (g : Setting) (fit : IsFitting g) (f : Floor) (l : State) (v : LocalId) (offset size : ℕ) (can : CanClear g f l v offset size) (rest : List LowInstruction) where
  abbrev to : VirtualRegister
  to = scratch_of f.frame.bank 0

  abbrev spare : VirtualRegister
  spare = f.frame.spare

  abbrev a : ℕ
  a = f.base + offset

  abbrev operands : Operands
  operands = record { arguments = to ∷ spare ∷ []; to = spare; landing = None }

  within_here : LiesWithin g f l offset size
  within_here = stored_within g fit f l v offset size can.stored

  -- ---- the code

  -- by whether there are bytes, and by the home of the variable, which is stored in front of the end of the locals
  abbrev code_by : Bool → Home → List LowInstruction
  code_by none home =
      if none then Const spare 0 ∷ []
      else (home_code f.frame to home ++ [] ++ reach_code 0 (home_spot to home)) ++ Const spare (rounded size) ∷ call clear_number ((reached 0 (home_spot to home)).base ∷ spare ∷ []) spare ∷ []

  abbrev place_taken : Bool → List LowInstruction
  place_taken inside = if inside then LocalAddress to offset ∷ [] else Const to 0 ∷ []

  -- what is left of it, step by step
  abbrev at_call : List LowInstruction
  at_call = call clear_number (to ∷ spare ∷ []) spare ∷ rest

  abbrev at_size : List LowInstruction
  at_size = Const spare (rounded size) ∷ at_call

  abbrev at_place : List LowInstruction
  at_place = LocalAddress to offset ∷ at_size

  -- ---- some bytes

  module _ (some : 0 < size) where
    -- with some bytes the code is this
    code_is : zeros_begun g.core f.frame size v ++ rest ≡ at_place
    unfolding zeros_begun
    code_is =
        let inside = within_here.inside in
        let more : nat_eq size 0 ≡ false = grind (arith, nat_tests) in
        let less : nat_lt offset f.frame.locals ≡ true = grind (arith, nat_tests) in
        let reach : reach_code 0 (home_spot to (Stored offset)) ≡ [] = refl in
        let base : (reached 0 (home_spot to (Stored offset))).base ≡ to = refl in
        let behind = λ (r : VirtualRegister). Const spare (rounded size) ∷ call clear_number (r ∷ spare ∷ []) spare ∷ [] in
        ap (λ b. code_by b (home_at f.frame.homes v) ++ rest) more
        ∙ ap (λ h. code_by false h ++ rest) can.stored.home
        ∙ ap₂ (λ c r. ((stored_code f.frame to offset ++ [] ++ c) ++ behind r) ++ rest) reach base
        ∙ ap (λ b. ((place_taken b ++ [] ++ []) ++ behind to) ++ rest) less

    -- the registers on the way
    abbrev placed : ℕ → ℕ
    placed = put l.top.registers to a

    abbrev sized : ℕ → ℕ
    sized = put placed spare (rounded size)

    -- the address of the variable
    address_goes : Goes g 1 1 (at l l.top.registers at_place) (at l placed at_size)
    unfolding act put
    address_goes =
        let limit = can.stored.limit in
        let is : (routine_of g.low l.top.routine).locals ≡ f.frame.locals = ap (λ r. (routine_of g.low r).locals) can.routine ∙ can.stored.floor.expanded.locals in
        let at_ : l.limit - (routine_of g.low l.top.routine).locals + offset ≡ a = omega arith in
        goes_to g 1 (at l l.top.registers at_place) (at l (put l.top.registers to (l.limit - (routine_of g.low l.top.routine).locals + offset)) at_size) (at l placed at_size)
        (ap (λ x. at l (put l.top.registers to x) at_size) at_)
        (goes_one g l l.top.registers (LocalAddress to offset) at_size refl)

    -- how many bytes its words have
    size_goes : Goes g 1 1 (at l placed at_size) (at l sized at_call)
    unfolding act put
    size_goes = goes_one g l placed (Const spare (rounded size)) at_call refl

    -- the run-time routine is called as it asks
    called : Called g.low g.placement (at l sized at_call) clear_number (a ∷ rounded size ∷ []) operands rest
    called =
        let inside = within_here.rounded_in in
        let low = within_here.low in
        let high = within_here.high in
        let lowest = can.lowest in
        let room = can.room in
        let top = can.stored.top in
        let end = fit.placed.top in
        let limit = can.stored.limit in
        let other = can.other in
        record {
          runtime = fit.placed.runtime;
          running = refl;
          next = refl;
          passed = ap₂ (λ x y. x ∷ y ∷ []) (put_other placed spare (rounded size) to.0 (λ same. other (omega arith)) ∙ put_same l.top.registers to a) (put_same placed spare (rounded size));
          words = words (omega arith) (omega arith);
          room = record {
            room = omega arith;
            words = omega arith;
            readable = λ x up down. fit.placed.readable x (omega arith) (omega arith);
            writable = λ x up down. fit.placed.writable x (omega arith) (omega arith);
          };
        }
      where
        words : a < 2 ^ 32 → rounded size < 2 ^ 32 → (k : ℕ) → slice_index (a ∷ rounded size ∷ []) k < 2 ^ 32
        words p q zero = p
        words p q (suc zero) = q
        words p q (suc (suc k)) = omega arith

    -- the words may be written
    clearable : Clearable g.placement (at l sized at_call) a (rounded size)
    clearable =
        let inside = within_here.rounded_in in
        let high = within_here.high in
        let lowest = can.lowest in
        let (least, more) = rounded_some size some in
        record {
          target = record { may = λ x up down. fit.placed.writable x (omega arith) (omega arith); below = inside };
          aligned = within_here.whole;
          whole = omega arith;
          some = omega arith;
        }

    clears : Clears g.low g.placement (at l sized at_call) operands rest a (rounded size)
    clears = memory_is_zeroed g.low g.placement (at l sized at_call) operands rest a (rounded size) clearable called

    -- so the variable has zeros
    emptied_some : l.top.now ≡ zeros_begun g.core f.frame size v ++ rest → Emptied g f l rest a size
    unfolding put
    emptied_some now =
        let c = clears in
        let registers = put sized spare c.value in
        let end : State = record (at l registers rest) { memory = c.memory } in
        let inside = within_here.rounded_in in
        let (least, more) = rounded_some size some in
        let (no_less, no_more) = div_ceil_times size 4 (omega arith) in
        let zeros = replicate {A = ℕ} (rounded size) 0 in
        let many : length zeros ≡ rounded size = length-replicate {A = ℕ} (rounded size) 0 in
        record {
          registers = registers;
          memory = c.memory;
          goes = goes_within g 1 (clear_most size) l end (goes_from g 1 l (at l l.top.registers at_place) end (standing g l at_place can.running (now ∙ code_is))
              (goes_then g 1 1 1 (at l l.top.registers at_place) (at l placed at_size) end (omega arith) address_goes
              (goes_then g 1 0 1 (at l placed at_size) (at l sized at_call) end (omega arith) size_goes
              (goes_path g c.steps 0 (192 + 6 * rounded size) (at l sized at_call) end (omega arith) c.path refl)))) (omega arith);
          kept = λ r low other. put_other sized spare c.value r other ∙ put_other placed spare (rounded size) r other ∙ put_lower l.top.registers to a r (omega arith);
          others = λ x low far. c.cleared x low ∙ with_bytes-outside l.memory a zeros x (outside x far many);
          none = λ k low.
              let e : a + k - a ≡ k = omega arith in
              c.cleared (a + k) (omega arith) ∙ with_bytes-within l.memory a zeros (a + k) (omega arith) (omega arith) ∙ zeros_get (rounded size) (a + k - a);
          bytes = λ x low. subst (λ b. b < 2 ^ 8) (sym (c.cleared x low)) (bytes_stored l.limit l.memory a zeros can.bytes (λ k. let e = zeros_get (rounded size) k in omega (arith, e)) x low);
        }
      where
        outside : (x : ℕ) → (x < a) ⊎ (a + rounded size ≤ x) → length (replicate {A = ℕ} (rounded size) 0) ≡ rounded size → a ≤ x → x < a + length (replicate {A = ℕ} (rounded size) 0) → ⊥
        outside x (inl less) many up down = omega (arith, less, up)
        outside x (inr more) many up down = omega (arith, more, many, down)

  -- what has no bytes
  emptied_none : size ≡ 0 → l.top.now ≡ zeros_begun g.core f.frame size v ++ rest → Emptied g f l rest a size
  unfolding zeros_begun act put
  emptied_none nothing now =
      let test : nat_eq size 0 ≡ true = ap (λ n. nat_eq n 0) nothing in
      let is : zeros_begun g.core f.frame size v ++ rest ≡ Const spare 0 ∷ rest = ap (λ b. code_by b (home_at f.frame.homes v) ++ rest) test in
      let start = at l l.top.registers (Const spare 0 ∷ rest) in
      record {
        registers = put l.top.registers spare 0;
        memory = l.memory;
        goes = goes_within g 1 (clear_most size) l (at l (put l.top.registers spare 0) rest) (goes_from g 1 l start (at l (put l.top.registers spare 0) rest) (standing g l (Const spare 0 ∷ rest) can.running (now ∙ is)) (goes_one g l l.top.registers (Const spare 0) rest refl)) (omega arith);
        kept = λ r low other. put_other l.top.registers spare 0 r other;
        others = λ x low far. refl;
        none = λ k low. absurd (omega arith);
        bytes = can.bytes;
      }

  -- the variable begins as zero
  pub emptied_goes : l.top.now ≡ zeros_begun g.core f.frame size v ++ rest → Emptied g f l rest a size
  emptied_goes now = by (cases_lt 0 size)
    where
      by : (0 < size) ⊎ (size ≤ 0) → Emptied g f l rest a size
      by (inl some) = emptied_some some now
      by (inr none) = emptied_none (omega arith) now
