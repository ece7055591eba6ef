-- The temporaries of record and array types that a routine names take no more room than a list that has all of them.
use Rattle.std.proofs.Common.{◌≡◌, ◌<◌, ◌≤◌, ℕ, zero, suc, ◌+◌, ◌*◌, Bool, true, false, ◌&&◌, ◌||◌, List, [], ◌∷◌, ◌++◌, length, map, fold, nat_eq, refl, sym, ap, ◌∙◌, subst, arith, true≢false, if◌then◌else◌}
use Rattle.std.proofs.lemmas.Bool.{eqb-true, or_from, or_left, or_right}
use Rattle.std.proofs.lemmas.Bool.Decides.{nat_tests}
use Rattle.std.proofs.lemmas.List.Sums.{sum_by-cons}
use Rattle.std.specs.Cmp.{first_so}
use Rattle.std.specs.List.{list_any, sum_by}
use Rattle.op_base.proofs.Tests.{or_second}
use Rattle.op_constants.specs.Offsets.{size_in}
use Rattle.op_core.specs.declared.ids.TypeId.{TypeId}
use Rattle.op_core.specs.declared.program.Core.{Core}
use Rattle.op_places.proofs.RoomLemmas.{one_with_both}
use Rattle.op_places.specs.Homes.{is_one_root, roots_of, rounded, size_of_root, with_root, with_temporary, with_place, with_given, with_receiver, with_call, with_action, with_instruction, with_block}
use Rattle.op_frames.proofs.Lowered.{code_is}
use Rattle.op_frames.specs.Made.{AreMade, Every, IsCode}
use Rattle.op_frames.specs.Wholes.{IsWholeIn, ActionIn, GivenIn, ReceiverIn, AreWholesIn}
use Rattle.op_lower.specs.Lowers.{IsRoutine}
use Rattle.op_meaning.specs.Frames.{program_of}
use Rattle.op_mir.specs.Code.{Instr, items_of}
use Rattle.op_mir.specs.View.{view_action, view_block, view_given, view_instruction, view_receiver, view_root}
use Rattle.op_mir.specs.declared.action.Action.{Action}
use Rattle.op_mir.specs.declared.action.Action.TheVariants.{Constant, Load, Store, Copy, Look, BeginWith, Pick, Compute, Do}
use Rattle.op_mir.specs.declared.code.Block.{Block}
use Rattle.op_mir.specs.declared.code.Routine.{Routine}
use Rattle.op_mir.specs.declared.instruction.Given.{Given}
use Rattle.op_mir.specs.declared.instruction.Given.TheVariants.{ByValue, ByPlace, ByCopy}
use Rattle.op_mir.specs.declared.instruction.Instruction.{Instruction}
use Rattle.op_mir.specs.declared.instruction.Instruction.TheVariants.{Act, Call, Jump, When, Unless, Switch, Dispatch, MakeDue, OpenTemporaries, EndTemporary, Stop, Return}
use Rattle.op_mir.specs.declared.instruction.Receiver.{Receiver}
use Rattle.op_mir.specs.declared.instruction.Receiver.TheVariants.{Nowhere, Temporary as ToTemporary, Place}
use Rattle.op_mir.specs.declared.path.Root.{Root}
use Rattle.op_mir.specs.declared.path.Root.TheVariants.{Global, Local, Through, Temporary}

-- ---- tests

pub none_first : (a b : Bool) → (a || b) ≡ false → a ≡ false
none_first true b e = e
none_first false b e = refl

pub none_second : (a b : Bool) → (a || b) ≡ false → b ≡ false
none_second true b e = absurd (true≢false e)
none_second false b e = e

pub eq_tells : (a b : ℕ) → nat_eq a b ≡ true → a ≡ b
eq_tells a b e = grind (arith, nat_tests)

pub eq_true : (a b : ℕ) → a ≡ b → nat_eq a b ≡ true
eq_true a b p = grind (arith, nat_tests)

eq_turned : (a b : ℕ) → nat_eq a b ≡ nat_eq b a
eq_turned a b = grind (arith, nat_tests)

-- ---- roots

turned_by : (a b c d : Bool) → a ≡ c → b ≡ d → (a && b) ≡ (c && d)
turned_by a b c d p q = cc

turned : (r s : Root) → is_one_root r s ≡ is_one_root s r
turned (Local v) (Local w) = eq_turned v.0 w.0
turned (Local v) (Global w) = refl
turned (Local v) (Through w) = refl
turned (Local v) (Temporary of n) = refl
turned (Global v) (Local w) = refl
turned (Global v) (Global w) = refl
turned (Global v) (Through w) = refl
turned (Global v) (Temporary of n) = refl
turned (Through v) (Local w) = refl
turned (Through v) (Global w) = refl
turned (Through v) (Through w) = refl
turned (Through v) (Temporary of n) = refl
turned (Temporary of n) (Local w) = refl
turned (Temporary of n) (Global w) = refl
turned (Temporary of n) (Through w) = refl
turned (Temporary of n) (Temporary type m) = turned_by (nat_eq of.0 type.0) (nat_eq n m) (nat_eq type.0 of.0) (nat_eq m n) (eq_turned of.0 type.0) (eq_turned n m)

-- a root that is one with a temporary is that temporary
one_size : (core : Core) (of : TypeId) (n : ℕ) (s : Root) → is_one_root (Temporary of n) s ≡ true → size_of_root core (Temporary of n) ≡ size_of_root core s
one_size core of n (Local w) e = absurd (true≢false (sym e))
one_size core of n (Global w) e = absurd (true≢false (sym e))
one_size core of n (Through w) e = absurd (true≢false (sym e))
one_size core of n (Temporary type m) e = ap (λ k. rounded (size_in core (record { 0 = k }))) (eqb-true of.0 type.0 (first_so (nat_eq of.0 type.0) (nat_eq n m) e))

-- ---- a list without the first root that is one with a root

remove_from : Root → List Root → List Root
remove_from r [] = []
remove_from r (x ∷ xs) = if is_one_root r x then xs else x ∷ remove_from r xs

module _ (core : Core) where
  remove_sum : (of : TypeId) (n : ℕ) (wholes : List Root) → list_any (is_one_root (Temporary of n)) wholes ≡ true → sum_by (size_of_root core) (remove_from (Temporary of n) wholes) + size_of_root core (Temporary of n) ≤ sum_by (size_of_root core) wholes
  unfolding remove_from
  remove_sum of n [] e = absurd (true≢false (sym e))
  remove_sum of n (x ∷ xs) e = by (is_one_root (Temporary of n) x) refl (remove_sum of n xs)
    where
      by : (one : Bool) → is_one_root (Temporary of n) x ≡ one → (list_any (is_one_root (Temporary of n)) xs ≡ true → sum_by (size_of_root core) (remove_from (Temporary of n) xs) + size_of_root core (Temporary of n) ≤ sum_by (size_of_root core) xs) → sum_by (size_of_root core) (remove_from (Temporary of n) (x ∷ xs)) + size_of_root core (Temporary of n) ≤ sum_by (size_of_root core) (x ∷ xs)
      by true o more =
          let s = one_size core of n x o in
          let goal : sum_by (size_of_root core) xs + size_of_root core (Temporary of n) ≤ sum_by (size_of_root core) (x ∷ xs) = omega (arith, s, sum_by-cons (size_of_root core) x xs) in
          rw o goal
      by false o more =
          let rest = more (or_second (is_one_root (Temporary of n) x) (list_any (is_one_root (Temporary of n)) xs) o e) in
          let goal : sum_by (size_of_root core) (x ∷ remove_from (Temporary of n) xs) + size_of_root core (Temporary of n) ≤ sum_by (size_of_root core) (x ∷ xs) = omega (arith, rest, sum_by-cons (size_of_root core) x xs, sum_by-cons (size_of_root core) x (remove_from (Temporary of n) xs)) in
          rw o goal

  remove_covers : (of type : TypeId) (n m : ℕ) (wholes : List Root) → is_one_root (Temporary of n) (Temporary type m) ≡ false → list_any (is_one_root (Temporary type m)) wholes ≡ true → list_any (is_one_root (Temporary type m)) (remove_from (Temporary of n) wholes) ≡ true
  unfolding remove_from
  remove_covers of type n m [] apart e = absurd (true≢false (sym e))
  remove_covers of type n m (x ∷ xs) apart e = by (is_one_root (Temporary of n) x) (is_one_root (Temporary type m) x) refl refl (remove_covers of type n m xs apart)
    where
      by : (one other : Bool) → is_one_root (Temporary of n) x ≡ one → is_one_root (Temporary type m) x ≡ other → (list_any (is_one_root (Temporary type m)) xs ≡ true → list_any (is_one_root (Temporary type m)) (remove_from (Temporary of n) xs) ≡ true) → list_any (is_one_root (Temporary type m)) (remove_from (Temporary of n) (x ∷ xs)) ≡ true
      by true true o p more = absurd (true≢false (sym (one_with_both of type n m x o p) ∙ apart))
      by true false o p more =
          let rest = or_second (is_one_root (Temporary type m) x) (list_any (is_one_root (Temporary type m)) xs) p e in
          rw o rest
      by false true o p more =
          let goal = or_left (is_one_root (Temporary type m) x) (list_any (is_one_root (Temporary type m)) (remove_from (Temporary of n) xs)) p in
          rw o goal
      by false false o p more =
          let rest = more (or_second (is_one_root (Temporary type m) x) (list_any (is_one_root (Temporary type m)) xs) p e) in
          let goal = or_right (is_one_root (Temporary type m) x) (list_any (is_one_root (Temporary type m)) (remove_from (Temporary of n) xs)) rest in
          rw o goal

  -- ---- roots, each once

  abbrev pub AreApart : List Root → Type 0
  AreApart [] = Unit {0}
  AreApart (r ∷ rs) = (list_any (is_one_root r) rs ≡ false) × AreApart rs

  abbrev pub IsCovered : List Root → Root → Type 0
  IsCovered wholes r = IsWholeIn wholes (view_root r)

  still_covered : (of : TypeId) (n : ℕ) (wholes : List Root) (r : Root) → is_one_root (Temporary of n) r ≡ false → IsCovered wholes r → IsCovered (remove_from (Temporary of n) wholes) r
  still_covered of n wholes (Global v) apart c = tt
  still_covered of n wholes (Local v) apart c = tt
  still_covered of n wholes (Through v) apart c = tt
  still_covered of n wholes (Temporary type m) apart c = remove_covers of type n m wholes apart c

  all_covered : (of : TypeId) (n : ℕ) (wholes rs : List Root) → list_any (is_one_root (Temporary of n)) rs ≡ false → Every (IsCovered wholes) rs → Every (IsCovered (remove_from (Temporary of n) wholes)) rs
  all_covered of n wholes [] apart c = tt
  all_covered of n wholes (r ∷ rs) apart c =
      (still_covered of n wholes r (none_first (is_one_root (Temporary of n) r) (list_any (is_one_root (Temporary of n)) rs) apart) c.0, all_covered of n wholes rs (none_second (is_one_root (Temporary of n) r) (list_any (is_one_root (Temporary of n)) rs) apart) c.1)

  sum_empty : (r : Root) (rs : List Root) (k : ℕ) → size_of_root core r ≡ 0 → sum_by (size_of_root core) rs ≤ k → sum_by (size_of_root core) (r ∷ rs) ≤ k
  sum_empty r rs k nothing less = let e = sum_by-cons (size_of_root core) r rs in omega (arith, e, nothing, less)

  pub sum_covered : (rs wholes : List Root) → AreApart rs → Every (IsCovered wholes) rs → sum_by (size_of_root core) rs ≤ sum_by (size_of_root core) wholes
  sum_covered [] wholes a c = let e : 0 ≤ sum_by (size_of_root core) wholes = omega arith in e
  sum_covered (Global v ∷ rs) wholes a c = sum_empty (Global v) rs _ refl (sum_covered rs wholes a.1 c.1)
  sum_covered (Local v ∷ rs) wholes a c = sum_empty (Local v) rs _ refl (sum_covered rs wholes a.1 c.1)
  sum_covered (Through v ∷ rs) wholes a c = sum_empty (Through v) rs _ refl (sum_covered rs wholes a.1 c.1)
  sum_covered (Temporary of n ∷ rs) wholes a c =
      let e = sum_by-cons (size_of_root core) (Temporary of n) rs in
      let rest = sum_covered rs (remove_from (Temporary of n) wholes) a.1 (all_covered of n wholes rs a.0 c.1) in
      let removed = remove_sum of n wholes c.0 in
      omega (arith, e, rest, removed)

  -- ---- the roots of code

  abbrev pub IsGood : List Root → List Root → Type 0
  IsGood wholes roots = AreApart roots × Every (IsCovered wholes) roots

  any_end : (r root : Root) (rs : List Root) → list_any (is_one_root r) rs ≡ false → is_one_root r root ≡ false → list_any (is_one_root r) (rs ++ root ∷ []) ≡ false
  any_end r root [] p q = or_from (is_one_root r root) false q refl
  any_end r root (x ∷ rs) p q = or_from (is_one_root r x) (list_any (is_one_root r) (rs ++ root ∷ [])) (none_first (is_one_root r x) (list_any (is_one_root r) rs) p) (any_end r root rs (none_second (is_one_root r x) (list_any (is_one_root r) rs) p) q)

  apart_end : (root : Root) (rs : List Root) → AreApart rs → list_any (is_one_root root) rs ≡ false → AreApart (rs ++ root ∷ [])
  apart_end root [] a n = (refl, tt)
  apart_end root (x ∷ rs) a n =
      let here = none_first (is_one_root root x) (list_any (is_one_root root) rs) n in
      (any_end x root rs a.0 (turned x root ∙ here), apart_end root rs a.1 (none_second (is_one_root root x) (list_any (is_one_root root) rs) n))

  covered_end : (wholes : List Root) (root : Root) (rs : List Root) → Every (IsCovered wholes) rs → IsCovered wholes root → Every (IsCovered wholes) (rs ++ root ∷ [])
  covered_end wholes root [] c r = (r, tt)
  covered_end wholes root (x ∷ rs) c r = (c.0, covered_end wholes root rs c.1 r)

  root_by : (there : Bool) (wholes rs : List Root) (root : Root) → list_any (is_one_root root) rs ≡ there → IsGood wholes rs → IsCovered wholes root → IsGood wholes (if there then rs else rs ++ root ∷ [])
  root_by true wholes rs root e g c = g
  root_by false wholes rs root e g c = (apart_end root rs g.0 e, covered_end wholes root rs g.1 c)

  root_good : (wholes rs : List Root) (root : Root) → IsGood wholes rs → IsCovered wholes root → IsGood wholes (with_root rs root)
  root_good wholes rs root g c = root_by (list_any (is_one_root root) rs) wholes rs root refl g c

  temporary_good : (wholes rs : List Root) (root : Root) → IsGood wholes rs → IsCovered wholes root → IsGood wholes (with_temporary rs root)
  temporary_good wholes rs (Temporary of n) g c = root_good wholes rs (Temporary of n) g c
  temporary_good wholes rs (Global v) g c = g
  temporary_good wholes rs (Local v) g c = g
  temporary_good wholes rs (Through v) g c = g

  place_good : (wholes rs : List Root) (root : Root) → IsGood wholes rs → IsCovered wholes root → IsGood wholes (with_place rs root)
  place_good wholes rs (Local v) g c = root_good wholes rs (Local v) g c
  place_good wholes rs (Temporary of n) g c = temporary_good wholes rs (Temporary of n) g c
  place_good wholes rs (Global v) g c = g
  place_good wholes rs (Through v) g c = g

  given_good : (wholes rs : List Root) (x : Given) → IsGood wholes rs → GivenIn wholes (view_given x) → IsGood wholes (with_given rs x)
  given_good wholes rs (ByPlace path) g c = place_good wholes rs path.root g c
  given_good wholes rs (ByCopy of path) g c = temporary_good wholes rs path.root g c
  given_good wholes rs (ByValue kind t) g c = g

  givens_good : (wholes rs : List Root) (xs : List Given) → IsGood wholes rs → Every (GivenIn wholes) (map view_given xs) → IsGood wholes (fold with_given rs xs)
  givens_good wholes rs [] g c = g
  givens_good wholes rs (x ∷ xs) g c = givens_good wholes (with_given rs x) xs (given_good wholes rs x g c.0) c.1

  receiver_good : (wholes rs : List Root) (x : Receiver) → IsGood wholes rs → ReceiverIn wholes (view_receiver x) → IsGood wholes (with_receiver rs x)
  receiver_good wholes rs (Place of to) g c = temporary_good wholes rs to.root g c
  receiver_good wholes rs Nowhere g c = g
  receiver_good wholes rs (ToTemporary t) g c = g

  action_good : (r : ℕ) (wholes rs : List Root) (a : Action) → IsGood wholes rs → ActionIn wholes (view_action core r a) → IsGood wholes (with_action rs a)
  action_good r wholes rs (Load to kind from) g c = temporary_good wholes rs from.root g c
  action_good r wholes rs (Store to kind from) g c = temporary_good wholes rs to.root g c
  action_good r wholes rs (Copy of to from) g c = temporary_good wholes (with_temporary rs from.root) to.root (temporary_good wholes rs from.root g c.1) c.0
  action_good r wholes rs (Look at) g c = temporary_good wholes rs at.root g c
  action_good r wholes rs (Constant to n) g c = g
  action_good r wholes rs (BeginWith v) g c = g
  action_good r wholes rs (Pick to text index) g c = g
  action_good r wholes rs (Compute k) g c = g
  action_good r wholes rs (Do p operands to) g c = g

  instruction_good : (r : ℕ) (wholes rs : List Root) (i : Instruction) → IsGood wholes rs → AreWholesIn wholes (view_instruction core r i) → IsGood wholes (with_instruction rs i)
  instruction_good r wholes rs (Act a landing) g c = action_good r wholes rs a g c
  instruction_good r wholes rs (Call f operands) g c = receiver_good wholes (fold with_given rs operands.given) operands.receiver (givens_good wholes rs operands.given g c.0) c.1
  instruction_good r wholes rs (Jump block) g c = g
  instruction_good r wholes rs (When t block) g c = g
  instruction_good r wholes rs (Unless t block) g c = g
  instruction_good r wholes rs (Switch t arms) g c = g
  instruction_good r wholes rs (Dispatch t block) g c = g
  instruction_good r wholes rs (MakeDue f) g c = g
  instruction_good r wholes rs (OpenTemporaries ts) g c = g
  instruction_good r wholes rs (EndTemporary t) g c = g
  instruction_good r wholes rs (Stop t) g c = g
  instruction_good r wholes rs Return g c = g

  code_good : (r : ℕ) (wholes rs : List Root) (code : List Instruction) → IsGood wholes rs → Every (AreWholesIn wholes) (map (view_instruction core r) code) → IsGood wholes (fold with_instruction rs code)
  code_good r wholes rs [] g c = g
  code_good r wholes rs (i ∷ code) g c = code_good r wholes (with_instruction rs i) code (instruction_good r wholes rs i g c.0) c.1

  pub blocks_good : (r : ℕ) (wholes rs : List Root) (bs : List Block) → IsGood wholes rs → Every (Every (AreWholesIn wholes)) (map (view_block core r) bs) → IsGood wholes (fold with_block rs bs)
  blocks_good r wholes rs [] g c = g
  blocks_good r wholes rs (b ∷ bs) g c = blocks_good r wholes (with_block rs b) bs (code_good r wholes rs b.code g c.0) c.1

  all_each : (Q : Instr → Type 0) (codes : List (List Instr)) → Every (IsCode Q) codes → Every (Every Q) codes
  all_each Q [] c = tt
  all_each Q (code ∷ codes) c = let here = c.0 in (here.each, all_each Q codes c.1)

  -- of a routine whose items name no others
  pub wholes_small : (stack r : ℕ) (routine : Routine) (wholes : List Root) → IsRoutine core r routine → AreMade (AreWholesIn wholes) (length routine.blocks) (items_of (program_of core stack) r) → sum_by (size_of_root core) (roots_of routine) ≤ sum_by (size_of_root core) wholes
  wholes_small stack r routine wholes is made =
      let code = code_is (AreWholesIn wholes) core stack r routine (λ k some less. tt) tt is made in
      let good = blocks_good r wholes [] routine.blocks (tt, tt) (all_each (AreWholesIn wholes) (map (view_block core r) routine.blocks) code) in
      sum_covered (roots_of routine) wholes good.0 good.1
