-- Simplified code, one instruction after the other.
use Rattle.std.proofs.Common.{◌≡◌, ℕ, if◌then◌else◌, Option, Some, None, List, [], ◌∷◌, ◌++◌, refl, ap, sym, ◌∙◌, append_assoc, append-nil}
use Rattle.std.proofs.lemmas.List.{nil_from_length}
use Rattle.op_low.specs.declared.instruction.Instruction.{Instruction}
use Rattle.op_optimize.specs.Reading.{target_of}
use Rattle.op_optimize.specs.Rewriting.{behind}
use Rattle.op_optimize.specs.Simplifying.{and_fact, contents_behind, facts_behind, in_front, is_left_out, left_out, simplified, stays_as}
use Rattle.op_optimize.specs.declared.block.Way.{Way}
use Rattle.op_optimize.specs.declared.fact.Fact.{Fact}
use Rattle.op_optimize.specs.declared.fact.Known.{Known}
use Rattle.op_optimize.specs.declared.fact.Value.{Value}

module _ (live : List ℕ) (way : Way) where
  -- what code becomes, by what was done of its first instruction
  abbrev pub rest_by : List Fact → List Known → Instruction → List Instruction → Option Value → Option (List Instruction)
  rest_by facts known i is v =
      if is_left_out v
      then simplified live way (and_fact facts (target_of i) v) known is
      else in_front (stays_as live way facts i is) (simplified live way (facts_behind live way facts is (target_of i)) (contents_behind live way known i is) is)

  pub by_first : (facts : List Fact) (known : List Known) (i : Instruction) (is : List Instruction) → simplified live way facts known (i ∷ is) ≡ rest_by facts known i is (left_out live way facts known i is)
  unfolding simplified
  by_first facts known i is = refl

  pub skips_one : (facts : List Fact) (known : List Known) (i : Instruction) (is : List Instruction) (v : Value) → left_out live way facts known i is ≡ Some v → simplified live way facts known (i ∷ is) ≡ simplified live way (and_fact facts (target_of i) (Some v)) known is
  skips_one facts known i is v is_left = by_first facts known i is ∙ ap (rest_by facts known i is) is_left

  pub stays_one : (facts : List Fact) (known : List Known) (i : Instruction) (is : List Instruction) → left_out live way facts known i is ≡ None → simplified live way facts known (i ∷ is) ≡ in_front (stays_as live way facts i is) (simplified live way (facts_behind live way facts is (target_of i)) (contents_behind live way known i is) is)
  stays_one facts known i is stays = by_first facts known i is ∙ ap (rest_by facts known i is) stays

  -- ---- behind what was made

  behind_one : (made : List Instruction) (j : Instruction) (o : Option (List Instruction)) → behind (made ++ j ∷ []) o ≡ behind made (in_front (Some j) o)
  behind_one made j None = refl
  behind_one made j (Some js) = ap Some (append_assoc made (j ∷ []) js)

  pub goes_on_without : (made : List Instruction) (facts others : List Fact) (known : List Known) (i : Instruction) (is rest : List Instruction) (o : Option Value) (v : Value) → rest ≡ i ∷ is → o ≡ left_out live way facts known i is → o ≡ Some v → others ≡ and_fact facts (target_of i) (Some v) → behind made (simplified live way others known is) ≡ behind made (simplified live way facts known rest)
  goes_on_without made facts others known i is rest o v there told left same =
      ap (λ fs. behind made (simplified live way fs known is)) same
      ∙ sym (ap (behind made) (ap (simplified live way facts known) there ∙ skips_one facts known i is v (sym told ∙ left)))

  pub goes_on_with : (made : List Instruction) (facts facts2 : List Fact) (known known2 : List Known) (i j : Instruction) (is rest made2 : List Instruction) → rest ≡ i ∷ is → left_out live way facts known i is ≡ None → stays_as live way facts i is ≡ Some j → made2 ≡ made ++ j ∷ [] → facts2 ≡ facts_behind live way facts is (target_of i) → known2 ≡ contents_behind live way known i is → behind made2 (simplified live way facts2 known2 is) ≡ behind made (simplified live way facts known rest)
  goes_on_with made facts facts2 known known2 i j is rest made2 there stays is_j more same_facts same_known =
      ap (λ m. behind m (simplified live way facts2 known2 is)) more
      ∙ ap (λ fs. behind (made ++ j ∷ []) (simplified live way fs known2 is)) same_facts
      ∙ ap (λ ks. behind (made ++ j ∷ []) (simplified live way (facts_behind live way facts is (target_of i)) ks is)) same_known
      ∙ behind_one made j (simplified live way (facts_behind live way facts is (target_of i)) (contents_behind live way known i is) is)
      ∙ sym (ap (behind made) (ap (simplified live way facts known) there ∙ stays_one facts known i is stays ∙ ap (λ o. in_front o (simplified live way (facts_behind live way facts is (target_of i)) (contents_behind live way known i is) is)) is_j))

  pub stops_at : (made : List Instruction) (facts : List Fact) (known : List Known) (i : Instruction) (is rest : List Instruction) → rest ≡ i ∷ is → left_out live way facts known i is ≡ None → stays_as live way facts i is ≡ None → None ≡ behind made (simplified live way facts known rest)
  stops_at made facts known i is rest there stays none =
      sym (ap (behind made) (ap (simplified live way facts known) there ∙ stays_one facts known i is stays ∙ ap (λ o. in_front o (simplified live way (facts_behind live way facts is (target_of i)) (contents_behind live way known i is) is)) none))

  pub is_all : (made : List Instruction) (facts : List Fact) (known : List Known) (rest : List Instruction) → rest ≡ [] → Some made ≡ behind made (simplified live way facts known rest)
  unfolding simplified
  is_all made facts known rest none = sym (ap (λ is. behind made (simplified live way facts known is)) none ∙ ap Some (append-nil made))
