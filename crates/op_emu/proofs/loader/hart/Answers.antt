use Rattle.std.proofs.Common.{List, map, ◌∙◌, ap, refl, subst}
use Rattle.op_emu.specs.Region.{Region, range_of, are_apart}
use Rattle.op_emu.specs.Rows.{AllDecoded}
use Rattle.op_emu.specs.Segments.{regions_of, lie_apart}
use Rattle.op_emu.proofs.ImageLemmas.{lie_apart_in, begins}
use Rattle.op_emu.proofs.loader.hart.Goals as goal

pub codes-requires : goal.codes-requires
codes-requires c =
    ap lie_apart c.deref.ensures.value
    ∙ ap (λ (regions : List Region). are_apart (map range_of regions)) c.in_ok-segments.ensures
    ∙ lie_apart_in c.args.image.now c.requires.meets

pub invariant_of-result : goal.invariant_of-result
invariant_of-result c =
    record {
      apart = ap (λ (regions : List Region). are_apart (map range_of regions)) c.in_ok-segments.ensures ∙ lie_apart_in c.args.image.now c.requires.meets;
      decoded = subst (λ ss. AllDecoded (regions_of ss) c.in_ok-codes.codes.items) c.deref.ensures.value c.in_ok-codes.ensures;
    }

pub returns : goal.returns
returns c =
    record {
      begins = λ input. begins c.args.image.now input _ _ _ c.new.ensures c.requires.entry c.in_ok-segments.ensures;
      asks = refl;
    }
