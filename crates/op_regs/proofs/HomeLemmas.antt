-- What the scan and the intervals say of homes, of a routine and of a program.
use Rattle.std.proofs.Common.{◌≡◌, ◌≢◌, ◌<◌, ◌≤◌, ◌+◌, ℕ, zero, suc, Bool, true, false, List, [], ◌∷◌, ◌++◌, length, map, Option, Some, None, IsSome, slice_get, refl, sym, ap, ◌∙◌, subst, inl, inr, arith, length-append}
use Rattle.std.specs.Prelude.{option_map, nat_eq, nat_le, nat_lt}
use Rattle.std.proofs.lemmas.Bool.{cases_eq}
use Rattle.std.proofs.lemmas.Bool.Decides.{nat_tests}
use Rattle.std.proofs.lemmas.List.{length-map}
use Rattle.std.proofs.lemmas.Option.{same_Some, slice_get-map, slice_get_within}
use Rattle.op_base.proofs.Lists.{slice_get-behind, slice_get-front}
use Rattle.op_low.specs.State.{routine_of, routine_or}
use Rattle.op_low.specs.declared.code.Block.{Block}
use Rattle.op_low.specs.declared.code.Low.{Low}
use Rattle.op_low.specs.declared.code.Routine.{Routine}
use Rattle.op_low.specs.declared.ids.VirtualRegister.{VirtualRegister}
use Rattle.op_rv.specs.declared.symbol.RoutineId.{RoutineId}
use Rattle.op_regs.specs.Homes.{AreAllHomes, AreHomes, GivesOut, HasHomes, KeepsApart, NeedsFrames, blocks_of, given, home_in, home_of, is_given}
use Rattle.op_regs.specs.Intervals.{AreIntervals, HasLive, IsInterval}
use Rattle.op_regs.specs.Liveness.{IsCrowded, IsLive, IsWithin, most}
use Rattle.op_regs.specs.Scanning.{AreAllTaken, AreRuns, Covers, Crowd, IsFair, home_or_first}
use Rattle.op_regs.specs.Tables.{entry, or_none}
use Rattle.op_regs.specs.declared.home.Assignment.{Assignment}
use Rattle.op_regs.specs.declared.home.Home.{Home}
use Rattle.op_regs.specs.declared.home.Home.TheVariants.{Frame, Reg}
use Rattle.op_regs.specs.declared.interval.Interval.{Interval}
use Rattle.op_regs.specs.declared.scan.Scan.{Scan}
use Rattle.op_regs.proofs.LineLemmas.{some_mapped}
use Rattle.op_regs.proofs.TableLemmas.{entry_within}

-- ---- intervals

pub interval_there : (blocks : List Block) (r : VirtualRegister) (o : Option Interval) (p : ℕ) → IsInterval blocks r o → IsLive blocks r p → (i : Interval) × (o ≡ Some i) × HasLive blocks r i
interval_there blocks r None p none lives = absurd (none p lives)
interval_there blocks r (Some i) p has lives = (i, refl, has)

has_live : (blocks : List Block) (r : VirtualRegister) (o : Option Interval) (i : Interval) → IsInterval blocks r o → o ≡ Some i → HasLive blocks r i
has_live blocks r o i is e = subst (IsInterval blocks r) e is

pub intervals_run : (blocks : List Block) (registers : ℕ) (spans : List (Option Interval)) → AreIntervals blocks registers spans → AreRuns spans
intervals_run blocks registers spans are =
    λ r i is.
    let less : r < registers = omega (arith, entry_within spans r i is, are.each) in
    let lives : HasLive blocks (record { 0 = r }) i = has_live blocks (record { 0 = r }) (entry spans r) i (are.intervals (record { 0 = r }) less) is in
    (lives.all i.first lives.first).1

-- ---- the homes of a routine

given_is : (k : ℕ) → k < most → is_given (given k) ≡ true
given_is k less = grind (arith, nat_tests, less)

word_is : (o : Option Home) (w : ℕ) → home_or_first o ≡ Frame w → o ≡ Some (Frame w)
word_is None w e = absurd cc
word_is (Some x) w e = ap Some e

home_is : (o : Option Home) (x : Home) → home_or_first o ≡ x → (o ≡ None → ⊥) → o ≡ Some x
home_is None x e there = absurd (there refl)
home_is (Some y) x e there = ap Some e

module _ (routine : Routine) (scan : Scan) (are : AreIntervals routine.blocks routine.registers scan.spans.items) (fair : IsFair scan) (all : AreAllTaken scan) where
  has_home : (r : ℕ) (x : Home) → slice_get (map home_or_first scan.homes.items) r ≡ Some x → home_or_first (entry scan.homes.items r) ≡ x
  has_home r x at_r =
      let (o, there, same) = some_mapped home_or_first (slice_get scan.homes.items r) x (sym (slice_get-map home_or_first scan.homes.items r) ∙ at_r) in
      ap (λ t. home_or_first (or_none t)) there ∙ same

  has_number : (r : ℕ) (x : Home) → slice_get (map home_or_first scan.homes.items) r ≡ Some x → r < routine.registers
  has_number r x at_r = omega (arith, slice_get_within (map home_or_first scan.homes.items) r x at_r, length-map scan.homes.items home_or_first, fair.each, are.each)

  interval_at : (r : VirtualRegister) (p : ℕ) → r.0 < routine.registers → IsLive routine.blocks r p → (i : Interval) × (entry scan.spans.items r.0 ≡ Some i) × HasLive routine.blocks r i
  interval_at r p less lives = interval_there routine.blocks r (entry scan.spans.items r.0) p (are.intervals r less) lives

  homes_apart : (r s : VirtualRegister) (p : ℕ) (x y : Home) → r.0 ≢ s.0 → IsLive routine.blocks r p → IsLive routine.blocks s p → slice_get (map home_or_first scan.homes.items) r.0 ≡ Some x → slice_get (map home_or_first scan.homes.items) s.0 ≡ Some y → x ≢ y
  homes_apart r s p x y differ live_r live_s at_r at_s same =
      let (i, is_r, has_r) = interval_at r p (has_number r.0 x at_r) live_r in
      let (j, is_s, has_s) = interval_at s p (has_number s.0 y at_s) live_s in
      let home_r : entry scan.homes.items r.0 ≡ Some x = home_is (entry scan.homes.items r.0) x (has_home r.0 x at_r) (λ none. all r.0 i none is_r) in
      let home_s : entry scan.homes.items s.0 ≡ Some x = home_is (entry scan.homes.items s.0) x (has_home s.0 y at_s ∙ sym same) (λ none. all s.0 j none is_s) in
      let in_r : (i.first ≤ p) × (p ≤ i.last) = has_r.all p live_r in
      let in_s : (j.first ≤ p) × (p ≤ j.last) = has_s.all p live_s in
      fair.fair.apart r.0 s.0 x i j differ home_r home_s is_r is_s (omega (arith, in_r.0, in_s.1)) (omega (arith, in_s.0, in_r.1))

  covers_within : (r p : ℕ) → Covers (entry scan.spans.items) r p → IsWithin routine.blocks (record { 0 = r }) p
  covers_within r p covers =
      let less : r < routine.registers = omega (arith, entry_within scan.spans.items r covers.interval covers.is, are.each) in
      let lives : HasLive routine.blocks (record { 0 = r }) covers.interval = has_live routine.blocks (record { 0 = r }) (entry scan.spans.items r) covers.interval (are.intervals (record { 0 = r }) less) covers.is in
      record {
        first = covers.interval.first;
        last = covers.interval.last;
        begins = lives.first;
        ends = lives.last;
        behind = covers.behind;
        before = covers.before;
      }

  crowd_is : (r : VirtualRegister) → Crowd (entry scan.spans.items) r.0 → (p : ℕ) × IsCrowded routine.blocks r p
  crowd_is r crowd = (
    crowd.point,
    record {
      own = covers_within r.0 crowd.point crowd.own;
      others = λ k. record { 0 = crowd.others k };
      differ = crowd.differ;
      apart = crowd.apart;
      meet = λ k less. covers_within (crowd.others k) crowd.point (crowd.meet k less);
    },
  )

  home_given : (r : ℕ) (o : Option Home) (n : ℕ) → entry scan.homes.items r ≡ o → home_or_first o ≡ Reg n → is_given n ≡ true
  home_given r None n at_r e = let same : 5 ≡ n = cc in subst (λ m. is_given m ≡ true) same refl
  home_given r (Some x) n at_r e =
      let (k, less, same) = fair.fair.numbers r n (at_r ∙ ap Some e) in
      ap is_given same ∙ given_is k less

  pub homes_are : AreHomes routine (map home_or_first scan.homes.items)
  homes_are =
      record {
        each = omega (arith, length-map scan.homes.items home_or_first, fair.each, are.each);
        apart = homes_apart;
        crowded = λ r w at_r. crowd_is r (fair.fair.crowded r.0 w (word_is (entry scan.homes.items r.0) w (has_home r.0 (Frame w) at_r)));
        numbers = λ r n at_r. home_given r.0 (entry scan.homes.items r.0) n refl (has_home r.0 (Reg n) at_r);
      }

-- ---- those of all routines

pub homes_more : (routines : List Routine) (homes new : List (List Home)) (n : ℕ) (routine : Routine) (of : List Home) → length homes ≡ n → ((k : ℕ) (at_k : Routine) (its : List Home) → k < n → slice_get routines k ≡ Some at_k → slice_get homes k ≡ Some its → AreHomes at_k its) → slice_get routines n ≡ Some routine → AreHomes routine of → new ≡ homes ++ of ∷ [] → (k : ℕ) (at_k : Routine) (its : List Home) → k < n + 1 → slice_get routines k ≡ Some at_k → slice_get new k ≡ Some its → AreHomes at_k its
homes_more routines homes new n routine of many so_far there are is k at_k its less is_k has_k =
    elim (cases_eq k n) [
      | inl e ↦
          let same : routine ≡ at_k = same_Some _ _ (sym there ∙ ap (slice_get routines) (sym e) ∙ is_k) in
          let place : k ≡ length homes + 0 = omega (arith, e, many) in
          let last : Some of ≡ Some its = sym (slice_get-behind homes (of ∷ []) 0) ∙ ap (slice_get (homes ++ of ∷ [])) (sym place) ∙ ap (λ t. slice_get t k) (sym is) ∙ has_k in
          subst (AreHomes at_k) (same_Some _ _ last) (subst (λ r. AreHomes r of) same are)
      | inr apart ↦
          let below : k < n = omega (arith, less, apart) in
          let inside : k < length homes = omega (arith, below, many) in
          so_far k at_k its below is_k (sym (slice_get-front homes (of ∷ []) k inside) ∙ ap (λ t. slice_get t k) (sym is) ∙ has_k)
    ]

-- ---- a program

there_is : {A : Type 0} (xs : List A) (k : ℕ) → k < length xs → (x : A) × (slice_get xs k ≡ Some x)
there_is [] k less = absurd (omega (arith, less))
there_is (x ∷ xs) zero less = (x, refl)
there_is (x ∷ xs) (suc k) less = there_is xs k (omega (arith, less))

module _ (low : Low) (a : Assignment) (are : AreAllHomes low.routines a.routines) where
  homes_at : (k : ℕ) (homes : List Home) → slice_get a.routines k ≡ Some homes → AreHomes (routine_of low k) homes
  homes_at k homes is =
      let (routine, there) = there_is low.routines k (omega (arith, slice_get_within a.routines k homes is, are.each)) in
      subst (λ r. AreHomes r homes) (sym (ap routine_or there)) (are.homes_at k routine homes there is)

  pub has_homes : HasHomes low a
  has_homes routine r within less =
      let (homes, is) = there_is a.routines routine.0 (omega (arith, within, are.each)) in
      let its : AreHomes (routine_of low routine.0) homes = homes_at routine.0 homes is in
      let (x, there) = there_is homes r.0 (omega (arith, less, its.each)) in
      subst IsSome (sym (ap (λ o. home_of o r) is ∙ there)) refl

  keeps_apart : (routine : RoutineId) (o : Option (List Home)) → slice_get a.routines routine.0 ≡ o → (r s : VirtualRegister) (p : ℕ) (x y : Home) → r.0 ≢ s.0 → IsLive (blocks_of low routine) r p → IsLive (blocks_of low routine) s p → home_of o r ≡ Some x → home_of o s ≡ Some y → x ≢ y
  keeps_apart routine None is r s p x y differ live_r live_s at_r at_s = absurd cc
  keeps_apart routine (Some homes) is r s p x y differ live_r live_s at_r at_s = (homes_at routine.0 homes is).apart r s p x y differ live_r live_s at_r at_s

  pub all_apart : KeepsApart low a
  all_apart routine = keeps_apart routine (slice_get a.routines routine.0) refl

  needs_frames : (routine : RoutineId) (o : Option (List Home)) → slice_get a.routines routine.0 ≡ o → (r : VirtualRegister) (w : ℕ) → home_of o r ≡ Some (Frame w) → (p : ℕ) × IsCrowded (blocks_of low routine) r p
  needs_frames routine None is r w at_r = absurd cc
  needs_frames routine (Some homes) is r w at_r = (homes_at routine.0 homes is).crowded r w at_r

  pub all_needed : NeedsFrames low a
  all_needed routine = needs_frames routine (slice_get a.routines routine.0) refl

  gives_out : (routine : RoutineId) (o : Option (List Home)) → slice_get a.routines routine.0 ≡ o → (r : VirtualRegister) (n : ℕ) → home_of o r ≡ Some (Reg n) → is_given n ≡ true
  gives_out routine None is r n at_r = absurd cc
  gives_out routine (Some homes) is r n at_r = (homes_at routine.0 homes is).numbers r n at_r

  pub all_given : GivesOut low a
  all_given routine = gives_out routine (slice_get a.routines routine.0) refl
