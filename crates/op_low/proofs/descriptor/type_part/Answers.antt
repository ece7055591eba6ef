use Rattle.std.proofs.Common.{◌≡◌, ◌+◌, ◌^◌, ◌<◌, ℕ, ◌∙◌, slice_index, arith}
use Rattle.op_low.specs.Descriptor.{kind_in}
use Rattle.op_low.specs.declared.descriptor.DescKind.TheVariants.{Fields}
use Rattle.op_low.proofs.DescriptorLemmas.{word_in-fits, element_stands, element_within, part_in-element}
use Rattle.op_low.proofs.descriptor.type_part.Goals as goal

pub element_part-requires : goal.element_part-requires
element_part-requires c =
    let constants = c.args.constants.now in
    let kind = kind_in constants c.args.at in
    let other : kind ≡ Fields → ⊥ = λ is. c.in_default.not-Fields (c.type_kind.ensures ∙ is) in
    let bytes : (i : ℕ) → slice_index constants i < 2 ^ 8 = λ i. let fits = c.type_inv.constants i in omega arith in
    record {
      stands = element_stands kind constants c.args.at c.args.k c.requires.descriptor.parts other c.requires.is_part;
      fits = element_within kind constants c.args.at c.args.k c.requires.descriptor.parts other c.requires.is_part (word_in-fits constants (c.args.at + 4) bytes);
    }

pub returns-in_default : goal.returns-in_default
returns-in_default c =
    let constants = c.args.constants.now in
    let kind = kind_in constants c.args.at in
    let other : kind ≡ Fields → ⊥ = λ is. c.in_default.not-Fields (c.type_kind.ensures ∙ is) in
    part_in-element kind constants c.args.at c.args.k c.element_part.result other c.element_part.ensures.offset c.element_part.ensures.inner
