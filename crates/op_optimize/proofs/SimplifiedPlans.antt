-- A program whose routines stay or are simplified: how each block becomes what it is, and that no more is left.
use Rattle.std.proofs.Common.{◌≡◌, ◌<◌, ◌≤◌, ℕ, zero, suc, Bool, true, false, ◌&&◌, if◌then◌else◌, inl, inr, Option, Some, None, List, [], ◌∷◌, slice_get, nat_le, refl, ap, sym, ◌∙◌, subst, arith}
use Rattle.std.proofs.lemmas.Bool.{and_parts, cases_lt, leb-true, le-leb}
use Rattle.std.proofs.lemmas.Option.{same_Some}
use Rattle.std.specs.List.{list_all}
use Rattle.op_low.specs.State.{code_or, routine_or, no_routine}
use Rattle.op_low.specs.Valid.{is_sized, is_valid, is_valid_block, is_valid_instruction, is_valid_routine}
use Rattle.op_low.specs.declared.code.Block.{Block}
use Rattle.op_low.specs.declared.code.Low.{Low}
use Rattle.op_low.specs.declared.code.Routine.{Routine}
use Rattle.op_low.specs.declared.ids.VirtualRegister.{VirtualRegister}
use Rattle.op_low.specs.declared.instruction.Instruction.{Instruction}
use Rattle.op_optimize.specs.Each.{Each, NoneLeft, OneMore}
use Rattle.op_optimize.specs.Liveness.{has_bit, is_closed, is_live, needs}
use Rattle.op_optimize.specs.Programs.{EachRoutine}
use Rattle.op_optimize.specs.Reading.{target_of}
use Rattle.op_optimize.specs.Simplifying.{SimplifiesBlock, SimplifiesRoutine, Simplifies, Stays, and_fact, contents_behind, facts_behind, in_front, last_written, left_out, may_go, may_write, or_nothing, plain_way, simplified, stays_as}
use Rattle.op_optimize.specs.Rewriting.{rewritten}
use Rattle.op_optimize.specs.Thinning.{Kept, LeftOut, NoBlocks, Nothing, OneMore as OneBlock, Thins, ThinsBlocks}
use Rattle.op_optimize.specs.declared.block.Way.{Way}
use Rattle.op_optimize.specs.declared.fact.Fact.{Fact}
use Rattle.op_optimize.specs.declared.fact.Known.{Known}
use Rattle.op_optimize.specs.declared.fact.Value.{Value}
use Rattle.op_optimize.proofs.Costs.{weight_stays}
use Rattle.op_optimize.proofs.Needing.{closed_at}
use Rattle.op_optimize.proofs.PlainCode.{code_stays}
use Rattle.op_optimize.proofs.SimplifiedCode.{by_first, rest_by}
use Rattle.op_optimize.proofs.Simplifications.{Plan, Plans}

-- ---- how each block becomes what it is

empty_table : (block : ℕ) (r : VirtualRegister) → is_live [] (record { 0 = block }) r ≡ true
unfolding is_live
empty_table block r = by (nat_le 64 r.0)
  where
    by : (t : Bool) → (if t then true else true) ≡ true
    by true = refl
    by false = refl

far_is_live : (live : List ℕ) (block : ℕ) (r : VirtualRegister) → 64 ≤ r.0 → is_live live (record { 0 = block }) r ≡ true
unfolding is_live
far_is_live live block r far = ap (λ t. if t then true else has_bit (slice_get live block) r.0) (le-leb 64 r.0 far)

closed_everywhere : (live : List ℕ) (routine : Routine) → is_closed live routine ≡ true → (block : ℕ) (r : VirtualRegister) → r.0 < routine.registers → needs live (code_or (slice_get routine.blocks block)) r ≡ true → is_live live (record { 0 = block }) r ≡ true
unfolding is_closed
closed_everywhere live routine closed block r less needed =
    elim (cases_lt r.0 64) [
      | inl near ↦ closed_at live routine.registers 0 routine.blocks block block r.0 (omega arith) (omega arith) closed needed
      | inr far ↦ far_is_live live block r far
    ]

module _ (live : List ℕ) (routine : Routine) where
  block_at : (bs cs : List Block) (k : ℕ) → Each (SimplifiesBlock live routine) bs cs → SimplifiesBlock live routine (record { code = code_or (slice_get bs k) }) (record { code = code_or (slice_get cs k) })
  unfolding simplified
  block_at [] [] k NoneLeft = record { way = plain_way routine; nothing = refl; is = refl }
  block_at [] (c ∷ cs) k each = elim each [ ]
  block_at (b ∷ bs) [] k each = elim each [ ]
  block_at (b ∷ bs) (c ∷ cs) zero (OneMore first rest) = first
  block_at (b ∷ bs) (c ∷ cs) (suc k) (OneMore first rest) = block_at bs cs k rest

module _ (low : Low) where
  code_valid : (routine : Routine) (bs : List Block) (k : ℕ) → list_all (is_valid_block low routine) bs ≡ true → list_all (is_valid_instruction low routine) (code_or (slice_get bs k)) ≡ true
  unfolding is_valid_block
  code_valid routine [] k all = refl
  code_valid routine (b ∷ bs) zero all = (and_parts _ _ (and_parts _ _ all).0).1
  code_valid routine (b ∷ bs) (suc k) all = code_valid routine bs k (and_parts _ _ all).1

  plan_of : (routine better : Routine) → is_valid_routine low routine ≡ true → SimplifiesRoutine routine better → Plan routine better
  unfolding is_valid_routine is_sized
  plan_of routine better valid (Stays same) =
      let sized = and_parts _ _ (and_parts _ _ valid).0 in
      subst (Plan routine) (sym same)
      (record {
        live = [];
        closed = λ block r less needed. empty_table block r;
        blocks = λ k. record { way = plain_way routine; nothing = refl; is = code_stays low routine [] [] (code_or (slice_get routine.blocks k)) (code_valid routine routine.blocks k (and_parts _ _ valid).1) };
        parameters = refl;
        locals = refl;
        fits = leb-true routine.parameters routine.registers (and_parts _ _ (and_parts _ _ (and_parts _ _ sized.0).0).0).0;
      })
  plan_of routine better valid (Simplifies live simple) =
      let sized = and_parts _ _ (and_parts _ _ valid).0 in
      record {
        live = live;
        closed = closed_everywhere live routine simple.closed;
        blocks = λ k. let one = block_at live routine routine.blocks better.blocks k simple.blocks in record { way = one.way; nothing = one.nothing; is = one.is };
        parameters = simple.parameters;
        locals = simple.locals;
        fits = leb-true routine.parameters routine.registers (and_parts _ _ (and_parts _ _ (and_parts _ _ sized.0).0).0).0;
      }

  no_plan : Plan no_routine no_routine
  unfolding simplified
  no_plan = record {
    live = [];
    closed = λ block r less needed. empty_table block r;
    blocks = λ k. record { way = plain_way no_routine; nothing = refl; is = refl };
    parameters = refl;
    locals = refl;
    fits = omega arith;
  }

  plan_at : (rs ts : List Routine) (r : ℕ) → list_all (is_valid_routine low) rs ≡ true → Each SimplifiesRoutine rs ts → Plan (routine_or (slice_get rs r)) (routine_or (slice_get ts r))
  plan_at [] [] r all NoneLeft = no_plan
  plan_at [] (y ∷ ys) r all each = elim each [ ]
  plan_at (x ∷ xs) [] r all each = elim each [ ]
  plan_at (x ∷ xs) (y ∷ ys) zero all (OneMore first rest) = plan_of x y (and_parts _ _ all).0 first
  plan_at (x ∷ xs) (y ∷ ys) (suc r) all (OneMore first rest) = plan_at xs ys r (and_parts _ _ all).1 rest

pub plans_of : (low better : Low) → is_valid low ≡ true → EachRoutine SimplifiesRoutine low better → Plans low better
unfolding is_valid
plans_of low better valid each r = plan_at low low.routines better.routines r (and_parts _ _ valid).1 each.routines

-- ---- no more is left

module _ (live : List ℕ) (way : Way) where
  pub stays_rewritten : (facts : List Fact) (i j : Instruction) (is : List Instruction) → stays_as live way facts i is ≡ Some j → rewritten facts way.nothing (or_nothing way (last_written live way is (target_of i))) i ≡ Some j
  unfolding stays_as
  stays_rewritten facts i j is e = by (may_go live facts i && may_write live way facts is (target_of i)) e
    where
      by : (t : Bool) → (if t then rewritten facts way.nothing (or_nothing way (last_written live way is (target_of i))) i else None) ≡ Some j → rewritten facts way.nothing (or_nothing way (last_written live way is (target_of i))) i ≡ Some j
      by true e = e
      by false e = absurd cc

  pub code_thins : (facts : List Fact) (known : List Known) (code better : List Instruction) → simplified live way facts known code ≡ Some better → Thins code better
  unfolding simplified
  code_thins facts known [] better is = subst (Thins []) (same_Some _ _ is) Nothing
  code_thins facts known (i ∷ is) better is_better =
      by (left_out live way facts known i is) refl (sym (by_first live way facts known i is) ∙ is_better)
      (λ v js. code_thins (and_fact facts (target_of i) v) known is js)
      (λ js. code_thins (facts_behind live way facts is (target_of i)) (contents_behind live way known i is) is js)
    where
      kept : (o : Option Instruction) (q : Option (List Instruction)) → stays_as live way facts i is ≡ o → simplified live way (facts_behind live way facts is (target_of i)) (contents_behind live way known i is) is ≡ q → in_front o q ≡ Some better → ((js : List Instruction) → simplified live way (facts_behind live way facts is (target_of i)) (contents_behind live way known i is) is ≡ Some js → Thins is js) → Thins (i ∷ is) better
      kept None q e d all rest = absurd cc
      kept (Some j) None e d all rest = absurd cc
      kept (Some j) (Some js) e d all rest =
          let many = weight_stays facts way.nothing (or_nothing way (last_written live way is (target_of i))) i j (stays_rewritten facts i j is e) in
          subst (Thins (i ∷ is)) (same_Some _ _ all) (Kept (omega arith) (rest js d))

      by : (o : Option Value) → left_out live way facts known i is ≡ o → rest_by live way facts known i is o ≡ Some better → ((v : Option Value) (js : List Instruction) → simplified live way (and_fact facts (target_of i) v) known is ≡ Some js → Thins is js) → ((js : List Instruction) → simplified live way (facts_behind live way facts is (target_of i)) (contents_behind live way known i is) is ≡ Some js → Thins is js) → Thins (i ∷ is) better
      by (Some v) e all left rest = LeftOut (left (Some v) better all)
      by None e all left rest = kept (stays_as live way facts i is) (simplified live way (facts_behind live way facts is (target_of i)) (contents_behind live way known i is) is) refl refl all rest

pub blocks_thin : (live : List ℕ) (routine : Routine) (bs cs : List Block) → Each (SimplifiesBlock live routine) bs cs → ThinsBlocks bs cs
blocks_thin live routine [] [] NoneLeft = NoBlocks
blocks_thin live routine [] (c ∷ cs) each = elim each [ ]
blocks_thin live routine (b ∷ bs) [] each = elim each [ ]
blocks_thin live routine (b ∷ bs) (c ∷ cs) (OneMore first rest) = OneBlock (code_thins live first.way [] [] b.code c.code first.is) (blocks_thin live routine bs cs rest)
