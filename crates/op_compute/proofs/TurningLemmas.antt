-- The low code of branches by a number leads where the number says.
use Rattle.std.proofs.Common.{◌≡◌, ℕ, ℤ, pos, ◌+◌, ◌^◌, ◌<◌, ◌-ℤ◌, unsigned_abs, Bool, true, false, not, ◌||◌, nat_eq, List, [], ◌∷◌, ◌++◌, map, Option, Some, None, append_assoc, append-nil, inl, inr, refl, ap, ap₂, sym, ◌∙◌, subst, arith, if◌then◌else◌}
use Rattle.std.proofs.lemmas.Bool.{cases_eq}
use Rattle.std.proofs.lemmas.Bool.Decides.{nat_tests}
use Rattle.std.proofs.lemmas.Int.{ints}
use Rattle.std.specs.Int.{w32, cast_unsigned}
use Rattle.std.specs.Int.RustNames.{FitsSigned}
use Rattle.std.specs.List.{list_any, flat_map}
use Rattle.std.specs.Ordering.{int_eq}
use Rattle.std.specs.Prelude.{int_lt}
use Rattle.op_base.proofs.Tests.{twice_not}
use Rattle.op_compute.proofs.RangeLemmas.{distance_then, register_below}
use Rattle.op_compute.proofs.Registers.{put_same, put_lower}
use Rattle.op_compute.proofs.WordParts.{gap, range_test, none_between}
use Rattle.op_compute.proofs.WordProducts.{zero_test}
use Rattle.op_compute.proofs.Words.{number_is, small_is}
use Rattle.op_compute.specs.Branches.{block_of, true_code, false_code, label_code, labels_code, arm_code, arms_code, switch_code, way_code, dispatch_code}
use Rattle.op_compute.specs.Meaning.{IsApart, IsWordOf, AreKept}
use Rattle.op_compute.specs.Ranges.{distance_code, distance_register}
use Rattle.op_compute.specs.Straight.{put, outcome, takes, Outcome, Behind, Away}
use Rattle.op_compute.specs.Turning.{AreAllKept, Turns, Reads, HasWordLabels, HasWordArms, way_for, where_true, where_false, BranchesTurn}
use Rattle.op_compute.specs.declared.bank.Operands.{Operands}
use Rattle.op_compute.specs.declared.bank.Work.{Work}
use Rattle.op_core.specs.declared.statement.Label.{Label}
use Rattle.op_low.specs.declared.ids.VirtualRegister.{VirtualRegister}
use Rattle.op_low.specs.declared.instruction.Instruction.{Instruction}
use Rattle.op_low.specs.declared.instruction.Instruction.TheVariants.{Const, Branch}
use Rattle.op_meaning.specs.Machine.{label_has}
use Rattle.op_meaning.specs.Numbers.{between, is_true}
use Rattle.op_mir.specs.Machine.{arm_for}
use Rattle.op_mir.specs.View.{view_arm}
use Rattle.op_mir.specs.declared.ids.BlockId.{BlockId as ManagedBlock}
use Rattle.op_mir.specs.declared.instruction.Arm.{Arm}
use Rattle.op_rv.specs.Operation.{signed}
use Rattle.op_rv.specs.declared.instruction.BranchOp.TheVariants.{Beq, Bne, Bgeu, Bltu}
use Rattle.op_rv.specs.declared.symbol.BlockId.{BlockId}

-- ---- one branch

turned : (w : Work) (f g : ℕ → ℕ) (taken test : Bool) (block : BlockId) (found : Option ℕ) (rest : Outcome) → taken ≡ test → AreAllKept w f g → Turns w f found rest → Turns w f (if test then Some block.0 else found) (if taken then Away block g else rest)
turned w f g true true block found rest e kept behind = (refl, kept)
turned w f g false false block found rest e kept behind = behind
turned w f g true false block found rest e kept behind = absurd cc
turned w f g false true block found rest e kept behind = absurd cc

differs : (a b : ℕ) → takes Bne a b ≡ not (takes Beq a b)
unfolding takes
differs a b = refl

not_below : (a b : ℕ) → takes Bgeu a b ≡ not (takes Bltu a b)
unfolding takes
not_below a b = refl

words_equal : (a b : ℕ) → a < 2 ^ 32 → b < 2 ^ 32 → nat_eq a b ≡ int_eq (signed a) (signed b)
words_equal a b p q = grind (arith, ints, nat_tests)

equal_test : (a b : ℕ) (x y : ℤ) → IsWordOf a x → IsWordOf b y → takes Beq a b ≡ int_eq x y
unfolding takes
equal_test a b x y p q = words_equal a b p.bound q.bound ∙ ap₂ int_eq p.number q.number

one_value : (x first last : ℤ) → int_eq first last ≡ true → int_eq x first ≡ between first last x
one_value x first last e = grind (arith, ints)

swapped : (n : ℤ) (t : Bool) (k : ℕ) → (if not t then None else Some k) ≡ (if t then Some k else None)
swapped n true k = refl
swapped n false k = refl

all_of : (w : Work) (from : VirtualRegister) (g h : ℕ → ℕ) → AreKept w from g h → h from.0 ≡ g from.0 → AreAllKept w g h
all_of w from g h after left = λ r below.
    elim (cases_eq r from.0) [
      | inl same ↦ ap h same ∙ left ∙ ap g (sym same)
      | inr apart ↦ after r below apart
    ]

either_of : (s t : Bool) (k : ℕ) (found : Option ℕ) → (if s then Some k else (if t then Some k else found)) ≡ (if s || t then Some k else found)
either_of true t k found = refl
either_of false t k found = refl

module _ (w : Work) (from : VirtualRegister) (f : ℕ → ℕ) (x : ℤ) (reads : Reads w from f x) where
  kept_first : (g : ℕ → ℕ) (v : ℕ) → AreAllKept w f g → AreAllKept w f (put g w.first v)
  kept_first g v kept = λ r below. put_lower g w.first v r below ∙ kept r below

  kept_second : (g : ℕ → ℕ) (v : ℕ) → AreAllKept w f g → AreAllKept w f (put g w.second v)
  kept_second g v kept = λ r below. let next = reads.second in put_lower g w.second v r (omega arith) ∙ kept r below

  word_in : (g : ℕ → ℕ) → AreAllKept w f g → IsWordOf (g from.0) x
  word_in g kept = subst (λ u. IsWordOf u x) (sym (kept from.0 reads.below)) reads.word

  -- a comparison with a number
  equal_then : (n : ℤ) (block : BlockId) (found : Option ℕ) (rest : List Instruction) (g : ℕ → ℕ) (v : ℕ) → IsWordOf v n → AreAllKept w f g → ((h : ℕ → ℕ) → AreAllKept w f h → Turns w f found (outcome rest h)) → Turns w f (if int_eq x n then Some block.0 else found) (outcome (Const w.first v ∷ Branch Beq from w.first block ∷ rest) g)
  unfolding outcome
  equal_then n block found rest g v is kept behind =
      let h = put g w.first v in
      let now : AreAllKept w f h = kept_first g v kept in
      let test : takes Beq (h from.0) (h w.first.0) ≡ int_eq x n = ap₂ (takes Beq) (put_lower g w.first v from.0 reads.below) (put_same g w.first v) ∙ equal_test (g from.0) v x n (word_in g kept) is in
      turned w f h (takes Beq (h from.0) (h w.first.0)) (int_eq x n) block found (outcome rest h) test now (behind h now)

  -- ---- truth

  pub true_leads : (block : ManagedBlock) → Turns w f (where_true x block.0) (outcome (true_code w from block) f)
  unfolding outcome true_code
  true_leads block =
      let h = put f w.first 0 in
      let kept : AreAllKept w f h = kept_first f 0 (λ r below. refl) in
      let test : takes Bne (h from.0) (h w.first.0) ≡ is_true x =
      ap₂ (takes Bne) (put_lower f w.first 0 from.0 reads.below) (put_same f w.first 0) ∙ differs (f from.0) 0 ∙ ap not (zero_test (f from.0) x reads.word) in
      turned w f h (takes Bne (h from.0) (h w.first.0)) (is_true x) (block_of block) None (Behind h) test kept kept

  pub false_leads : (block : ManagedBlock) → Turns w f (where_false x block.0) (outcome (false_code w from block) f)
  unfolding outcome false_code
  false_leads block =
      let h = put f w.first 0 in
      let kept : AreAllKept w f h = kept_first f 0 (λ r below. refl) in
      let test : takes Beq (h from.0) (h w.first.0) ≡ int_eq x (pos 0) =
      ap₂ (takes Beq) (put_lower f w.first 0 from.0 reads.below) (put_same f w.first 0) ∙ zero_test (f from.0) x reads.word in
      subst (λ found. Turns w f found (if takes Beq (h from.0) (h w.first.0) then Away (block_of block) h else Behind h)) (sym (swapped x (int_eq x (pos 0)) block.0))
      (turned w f h (takes Beq (h from.0) (h w.first.0)) (int_eq x (pos 0)) (block_of block) None (Behind h) test kept kept)

  -- ---- labels

  abbrev operands : Operands
  operands = record { to = from; left = from; right = from }

  apart_from : (third : w.second.0 < w.third.0) → IsApart w operands
  apart_from third = record { to = reads.below; left = reads.below; right = reads.below; second = reads.second; third = third }

  label_by : (empty one : Bool) (third : w.second.0 < w.third.0) (label : Label) (block : BlockId) (found : Option ℕ) (rest : List Instruction) (g : ℕ → ℕ) → int_lt label.last label.first ≡ empty → int_eq label.first label.last ≡ one → FitsSigned w32 label.first → FitsSigned w32 label.last → AreAllKept w f g → ((h : ℕ → ℕ) → AreAllKept w f h → Turns w f found (outcome rest h)) → Turns w f (if label_has x label then Some block.0 else found) (outcome ((if empty then [] else (if one then Const w.first (cast_unsigned w32 label.first) ∷ Branch Beq from w.first block ∷ [] else distance_code w.first from label.first ++ Const w.second (unsigned_abs (label.last -ℤ label.first)) ∷ Branch Bgeu w.second (distance_register w.first from label.first) block ∷ [])) ++ rest) g)
  unfolding outcome
  label_by true one third label block found rest g e e1 first last kept behind =
      subst (λ t. Turns w f (if t then Some block.0 else found) (outcome rest g)) (sym (none_between label.first label.last x e)) (behind g kept)
  label_by false true third label block found rest g e e1 first last kept behind =
      subst (λ t. Turns w f (if t then Some block.0 else found) (outcome (Const w.first (cast_unsigned w32 label.first) ∷ Branch Beq from w.first block ∷ rest) g)) (one_value x label.first label.last e1)
      (equal_then label.first block found rest g (cast_unsigned w32 label.first) (number_is label.first first) kept behind)
  label_by false false third label block found rest g e e1 first last kept behind =
      let register = distance_register w.first from label.first in
      let width = unsigned_abs (label.last -ℤ label.first) in
      let tail = Const w.second width ∷ Branch Bgeu w.second register block ∷ [] in
      let goes = if label_has x label then Some block.0 else found in
      let l = cast_unsigned w32 label.first in
      let apart = apart_from third in
      subst (λ code. Turns w f goes (outcome code g)) (sym (append_assoc (distance_code w.first from label.first) tail rest))
      (distance_then w operands g apart label.first l (tail ++ rest) (λ out. Turns w f goes out) (number_is label.first first) (word_in g kept).bound (λ r below differs. refl)
      (λ h after left value.
      let k = put h w.second width in
      let same : AreAllKept w f h = λ r below. all_of w from g h after left r below ∙ kept r below in
      let now : AreAllKept w f k = kept_second h width same in
      let test : takes Bgeu (k w.second.0) (k register.0) ≡ label_has x label =
      ap₂ (takes Bgeu) (put_same h w.second width) (put_lower h w.second width register.0 (register_below w operands g apart label.first) ∙ value)
      ∙ not_below width (gap (g from.0) l)
      ∙ ap not (range_test (g from.0) l (cast_unsigned w32 label.last) x label.first label.last (word_in g kept) (number_is label.first first) (number_is label.last last) e)
      ∙ sym (twice_not (label_has x label)) in
      turned w f k (takes Bgeu (k w.second.0) (k register.0)) (label_has x label) block found (outcome rest k) test now (behind k now)))

  label_then : (third : w.second.0 < w.third.0) (label : Label) (block : BlockId) (found : Option ℕ) (rest : List Instruction) (g : ℕ → ℕ) → FitsSigned w32 label.first → FitsSigned w32 label.last → AreAllKept w f g → ((h : ℕ → ℕ) → AreAllKept w f h → Turns w f found (outcome rest h)) → Turns w f (if label_has x label then Some block.0 else found) (outcome (label_code w from block label ++ rest) g)
  unfolding label_code
  label_then third label block found rest g first last kept behind =
      label_by (int_lt label.last label.first) (int_eq label.first label.last) third label block found rest g refl refl first last kept behind

  labels_then : (third : w.second.0 < w.third.0) (labels : List Label) (block : BlockId) (found : Option ℕ) (rest : List Instruction) (g : ℕ → ℕ) → HasWordLabels labels → AreAllKept w f g → ((h : ℕ → ℕ) → AreAllKept w f h → Turns w f found (outcome rest h)) → Turns w f (if list_any (label_has x) labels then Some block.0 else found) (outcome (flat_map (label_code w from block) labels ++ rest) g)
  labels_then third [] block found rest g words kept behind = behind g kept
  labels_then third (l ∷ ls) block found rest g words kept behind =
      let others = flat_map (label_code w from block) ls in
      subst (λ code. Turns w f (if label_has x l || list_any (label_has x) ls then Some block.0 else found) (outcome code g)) (sym (append_assoc (label_code w from block l) others rest))
      (subst (λ goes. Turns w f goes (outcome (label_code w from block l ++ (others ++ rest)) g)) (either_of (label_has x l) (list_any (label_has x) ls) block.0 found)
      (label_then third l block (if list_any (label_has x) ls then Some block.0 else found) (others ++ rest) g words.0 words.1 kept
      (λ h after. labels_then third ls block found rest h words.2 after behind)))

  arm_then : (third : w.second.0 < w.third.0) (arm : Arm) (found : Option ℕ) (rest : List Instruction) (g : ℕ → ℕ) → HasWordLabels arm.labels → AreAllKept w f g → ((h : ℕ → ℕ) → AreAllKept w f h → Turns w f found (outcome rest h)) → Turns w f (if list_any (label_has x) arm.labels then Some arm.block.0 else found) (outcome (arm_code w from arm ++ rest) g)
  unfolding arm_code labels_code
  arm_then third arm found rest g words kept behind = labels_then third arm.labels (block_of arm.block) found rest g words kept behind

  arms_then : (third : w.second.0 < w.third.0) (arms : List Arm) (rest : List Instruction) (g : ℕ → ℕ) → HasWordArms arms → AreAllKept w f g → ((h : ℕ → ℕ) → AreAllKept w f h → Turns w f None (outcome rest h)) → Turns w f (arm_for x (map view_arm arms)) (outcome (flat_map (arm_code w from) arms ++ rest) g)
  arms_then third [] rest g words kept behind = behind g kept
  arms_then third (arm ∷ arms) rest g words kept behind =
      let others = flat_map (arm_code w from) arms in
      subst (λ code. Turns w f (arm_for x (map view_arm (arm ∷ arms))) (outcome code g)) (sym (append_assoc (arm_code w from arm) others rest))
      (arm_then third arm (arm_for x (map view_arm arms)) (others ++ rest) g words.0 kept (λ h after. arms_then third arms rest h words.1 after behind))

  last : (h : ℕ → ℕ) → AreAllKept w f h → Turns w f None (outcome (Const w.first 0 ∷ []) h)
  unfolding outcome
  last h kept = kept_first h 0 kept

  pub switch_leads : w.second.0 < w.third.0 → (arms : List Arm) → HasWordArms arms → Turns w f (arm_for x (map view_arm arms)) (outcome (switch_code w from arms) f)
  unfolding switch_code arms_code
  switch_leads third arms words = arms_then third arms (Const w.first 0 ∷ []) f words (λ r below. refl) last

  -- ---- reasons

  way_then : (reason : ℕ) → reason < 2 ^ 31 → (block : ManagedBlock) (found : Option ℕ) (rest : List Instruction) (g : ℕ → ℕ) → AreAllKept w f g → ((h : ℕ → ℕ) → AreAllKept w f h → Turns w f found (outcome rest h)) → Turns w f (if int_eq x (pos reason) then Some (block.0 + reason) else found) (outcome (way_code w from block reason ++ rest) g)
  unfolding way_code
  way_then reason small block found rest g kept behind = equal_then (pos reason) (record { 0 = block.0 + reason }) found rest g reason (small_is reason small) kept behind

  end : (h : ℕ → ℕ) → AreAllKept w f h → Turns w f None (outcome [] h)
  unfolding outcome
  end h kept = kept

  pub dispatch_leads : (block : ManagedBlock) → Turns w f (way_for x block.0) (outcome (dispatch_code w from block) f)
  unfolding dispatch_code
  dispatch_leads block =
      let third = way_code w from block 3 in
      let second = way_code w from block 2 ++ third in
      let three : Option ℕ = if int_eq x (pos 3) then Some (block.0 + 3) else None in
      let two : Option ℕ = if int_eq x (pos 2) then Some (block.0 + 2) else three in
      subst (λ code. Turns w f (way_for x block.0) (outcome code f)) (sym (append_assoc (way_code w from block 1) (way_code w from block 2) third))
      (way_then 1 (omega arith) block two second f (λ r below. refl)
      (λ h kept. way_then 2 (omega arith) block three third h kept
      (λ k after. subst (λ code. Turns w f three (outcome code k)) (append-nil third) (way_then 3 (omega arith) block None [] k after end))))

  pub branches_turn : w.second.0 < w.third.0 → BranchesTurn w from f x
  branches_turn third = record { when_true = true_leads; when_false = false_leads; by_label = switch_leads third; by_reason = dispatch_leads }
