-- A finalization part becomes due.
use Rattle.std.proofs.Common.{◌≡◌, ◌<◌, inl, inr, ℕ, zero, suc, ◌+◌, List, [], ◌∷◌, drop, length, Some, refl, sym, ap, ap₂, ◌∙◌, subst, arith, slice_get}
use Rattle.std.specs.Prelude.{◌%◌, ◌^◌, ◌*◌, pos, true, false, nat_eq, if◌then◌else◌}
use Rattle.std.proofs.lemmas.Bool.Decides.{nat_tests}
use Rattle.op_compute.specs.Bank.{scratch_of}
use Rattle.op_compute.specs.Straight.{at}
use Rattle.op_core.specs.declared.ids.RoutineId.{RoutineId}
use Rattle.op_expand.specs.Calls.{due_code, due_word, finalizations, has_closing, result_address}
use Rattle.op_low.specs.Machine.{act}
use Rattle.op_low.specs.State.{Caller, State}
use Rattle.op_low.specs.declared.ids.VirtualRegister.{VirtualRegister}
use Rattle.op_low.specs.declared.instruction.Instruction.TheVariants.{Address, AluImm, Load, Store}
use Rattle.op_low.specs.declared.instruction.Instruction.{Instruction as LowInstruction}
use Rattle.op_meaning.specs.Frames.{Pending, finalize}
use Rattle.op_mir.specs.Machine.{MirCaller, MirState, execute, mir_cost}
use Rattle.op_mir.specs.declared.instruction.Instruction.TheVariants.{MakeDue}
use Rattle.op_mir.specs.declared.instruction.Instruction.{Instruction}
use Rattle.op_rv.specs.declared.instruction.ImmOp.TheVariants.{Addi}
use Rattle.op_rv.specs.declared.instruction.LoadOp.TheVariants.{Lw}
use Rattle.op_rv.specs.declared.instruction.StoreOp.TheVariants.{Sw}
use Rattle.op_agreement.proofs.Branching.{begins_here, step_here}
use Rattle.op_agreement.proofs.Cases.{behind_act}
use Rattle.op_agreement.proofs.Computing.{all_variables_kept, rest_above, rest_below, rest_stands, temporaries_kept}
use Rattle.op_agreement.proofs.Copying.{having}
use Rattle.op_agreement.proofs.DueWord.{counted, due_addressed, due_loads, due_stores, stays_counted}
use Rattle.op_agreement.proofs.ErrorsEnd.{limit_above}
use Rattle.op_agreement.proofs.Going.{Goes, goes_from, goes_one, goes_then, goes_to, goes_within}
use Rattle.op_agreement.proofs.Pricing.{afford_light}
use Rattle.op_agreement.proofs.Standing.{Next, here, stands_on}
use Rattle.op_agreement.specs.Chart.{Floor}
use Rattle.op_agreement.specs.Coding.{code_for}
use Rattle.op_agreement.specs.Fitting.{IsFitting}
use Rattle.op_agreement.specs.Settings.{Setting, due_address, managed}
use Rattle.op_agreement.specs.Stands.{ArePending, AreStillDue, CallersStand, NoneCloses, Stands, dues_in, lowest_rest, part_or}
use Rattle.op_agreement.specs.Steps.{Comes, most_for_one}

-- ---- the first of what is left of a list

pub drop_first : {A : Type 0} (xs ys : List A) (y : A) (n : ℕ) → drop n xs ≡ y ∷ ys → (slice_get xs n ≡ Some y) × (n < length xs) × (drop (suc n) xs ≡ ys)
drop_first [] ys y zero e = absurd cc
drop_first [] ys y (suc n) e = absurd cc
drop_first (x ∷ xs) ys y zero e = let first : x ≡ y = cc in let others : xs ≡ ys = cc in (ap (λ z. Some z) first, omega arith, others)
drop_first (x ∷ xs) ys y (suc n) e = let rest = drop_first xs ys y n e in (rest.0, omega (arith, rest.1), rest.2)

module _ (g : Setting) (fit : IsFitting g) (m : MirState) (l : State) (floors : ℕ → Floor) (is : List Instruction) (f : RoutineId) (due : AreStillDue g m) (next : Next g m l floors (MakeDue f) is) where
  closes : has_closing g.core ≡ true
  closes = next.fine.1

  -- only the program itself does so
  pub main_alone : m.callers ≡ []
  main_alone = by m.callers l.callers refl next.stays.callers
    where
      main : m.routine ≡ length g.core.routines
      main = let number = next.stays.activation.number in let many = fit.program.number in let own = next.fine.0 in omega arith

      by : (cs : List MirCaller) (ls : List Caller) → m.callers ≡ cs → CallersStand g floors m.world.memory m.world.bound cs ls m.routine (l.top.registers result_address.0) l.limit l.room m.charged → m.callers ≡ []
      by [] ls above s = above
      by (c ∷ cs) [] above s = absurd s
      by (c ∷ cs) (lc ∷ lcs) above (inl (below, under, spare, declared, low, charge, at_, more, frames, receiver, to, typed, result, waiting, made, position, activation, callers)) = let own = main in absurd (omega arith)
      by (c ∷ cs) (lc ∷ lcs) above (inr (below, under, spare, status, a, ended, others, are, charge, at_, more, waits, activation, callers)) = let own = main in let low = waits.low in absurd (omega arith)

  -- it is the first one that is not due yet
  pub first_is : f ∷ dues_in (rest_above g m l floors (MakeDue f) is next) ≡ drop (length m.pending) (finalizations g.core)
  first_is =
      let open_ : NoneCloses m.frames m.callers = subst (NoneCloses m.frames) (sym main_alone) next.frames in
      sym (ap (λ cs. dues_in (lowest_rest m.work cs)) main_alone ∙ ap dues_in next.above) ∙ due open_

  abbrev found : (slice_get (finalizations g.core) (length m.pending) ≡ Some f) × (length m.pending < length (finalizations g.core)) × (drop (suc (length m.pending)) (finalizations g.core) ≡ dues_in (rest_above g m l floors (MakeDue f) is next))
  found = drop_first (finalizations g.core) (dues_in (rest_above g m l floors (MakeDue f) is next)) f (length m.pending) (sym first_is)

  abbrev more : List Pending
  more = finalize f ∷ m.pending

  more_pending : ArePending (finalizations g.core) more
  more_pending =
      let (there, low, others) = found in
      let are = next.stays.pending.are in
      record { few = omega (arith, low); are = ap₂ (λ x xs. finalize (part_or x) ∷ xs) (sym there) are }

  abbrev word : VirtualRegister
  word = scratch_of (here m floors).frame.bank 0

  abbrev count : VirtualRegister
  count = scratch_of (here m floors).frame.bank 1

  abbrev addressed : ℕ → ℕ
  addressed r = if nat_eq r word.0 then due_address g else l.top.registers r

  abbrev loaded : ℕ → ℕ
  loaded r = if nat_eq r count.0 then g.stack + length m.pending else addressed r

  abbrev added : ℕ → ℕ
  added r = if nat_eq r count.0 then g.stack + suc (length m.pending) else loaded r

  apart : nat_eq word.0 count.0 ≡ false
  apart = grind (arith, nat_tests)

  word_there : addressed word.0 ≡ due_address g
  word_there = let t : nat_eq word.0 word.0 ≡ true = grind (arith, nat_tests) in ap (λ b. if b then due_address g else l.top.registers word.0) t

  word_stays : added word.0 ≡ due_address g
  word_stays = ap (λ b. if b then g.stack + suc (length m.pending) else (if b then g.stack + length m.pending else addressed word.0)) apart ∙ word_there

  count_there : added count.0 ≡ g.stack + suc (length m.pending)
  count_there = let t : nat_eq count.0 count.0 ≡ true = grind (arith, nat_tests) in ap (λ b. if b then g.stack + suc (length m.pending) else loaded count.0) t

  kept : (r : ℕ) → r < word.0 → added r ≡ l.top.registers r
  kept r low =
      let t : nat_eq r word.0 ≡ false = grind (arith, nat_tests) in
      let u : nat_eq r count.0 ≡ false = grind (arith, nat_tests) in
      ap₂ (λ b c. if b then g.stack + suc (length m.pending) else (if b then g.stack + length m.pending else (if c then due_address g else l.top.registers r))) u t

  abbrev rest : List LowInstruction
  rest = rest_below g m l floors (MakeDue f) is next

  adds : Goes g 1 1 (at l loaded (AluImm Addi count count (pos 1) ∷ Store Sw count word (pos 0) ∷ rest)) (at l added (Store Sw count word (pos 0) ∷ rest))
  unfolding act
  adds =
      let (there, low, others) = found in
      let few = (fit.closing closes).few in
      let most = fit.program.stack in
      let t : nat_eq count.0 count.0 ≡ true = grind (arith, nat_tests) in
      let had : loaded count.0 ≡ g.stack + length m.pending = ap (λ b. if b then g.stack + length m.pending else addressed count.0) t in
      let sum : (loaded count.0 + 1) % 2 ^ 32 ≡ g.stack + suc (length m.pending) = omega (arith, low, few, had, most) in
      goes_to g 1 (at l loaded (AluImm Addi count count (pos 1) ∷ Store Sw count word (pos 0) ∷ rest)) (act g.low g.placement (AluImm Addi count count (pos 1)) (at l loaded (Store Sw count word (pos 0) ∷ rest))) (at l added (Store Sw count word (pos 0) ∷ rest))
      (ap (λ n. at l (λ (r : ℕ). if nat_eq r count.0 then n else loaded r) (Store Sw count word (pos 0) ∷ rest)) sum)
      (goes_one g l loaded (AluImm Addi count count (pos 1)) (Store Sw count word (pos 0) ∷ rest) refl)

  pub make_due_comes : Comes g m l
  unfolding code_for execute
  make_due_comes =
      let s = next.stays in
      let fits = s.activation.floor.fits in
      let bottom = limit_above g floors m.world.memory m.world.bound m.callers l.callers m.routine (l.top.registers result_address.0) l.limit l.room m.charged s.callers in
      let memory = counted g fit closes floors m l s more more_pending in
      let k = having l added rest memory in
      let storing = Store Sw count word (pos 0) ∷ rest in
      let adding = AluImm Addi count count (pos 1) ∷ storing in
      let loading = Load Lw count word (pos 0) ∷ adding in
      let from = at l l.top.registers (Address word (due_word g.core) ∷ loading) in
      let m2 : MirState = record m { work = rest_above g m l floors (MakeDue f) is next; pending = finalize f ∷ m.pending } in
      let one = due_addressed g fit l bottom l.top.registers word loading in
      let two = due_loads g fit l bottom addressed count word adding (g.stack + length m.pending) word_there (s.due closes) in
      let four = due_stores g fit l bottom added count word rest (g.stack + length more) word_stays count_there in
      record {
        to = k;
        goes = goes_from g 1 l from k (begins_here g fit m l floors (MakeDue f) is next (due_code g.core (here m floors).frame) refl)
            (goes_within g 1 (most_for_one * mir_cost (managed g) m) from k
            (goes_then g 1 1 1 from (at l addressed loading) k (omega arith) one
            (goes_then g 1 1 1 (at l addressed loading) (at l loaded adding) k (omega arith) two
            (goes_then g 1 1 1 (at l loaded adding) (at l added storing) k (omega arith) adds four)))
            (afford_light g fit m l floors (MakeDue f) is next 4 (omega arith)));
        stands = subst (λ x. Stands g x k) (sym (step_here g fit m l floors (MakeDue f) is next)) (stands_on g m2 k next.ending next.frames (record {
          floors = floors;
          stays = stays_counted g fit closes floors m l s more more_pending (rest_above g m l floors (MakeDue f) is next) added rest
              (all_variables_kept g (here m floors) fits l.top.registers added kept)
              (temporaries_kept g (here m floors) fits m.world.temps l.top.registers added kept s.activation.kept.temporaries);
          position = rest_stands g m l floors (MakeDue f) is next (behind_act next.on);
        }));
      }
