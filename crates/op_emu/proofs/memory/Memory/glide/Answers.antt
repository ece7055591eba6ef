use Rattle.std.proofs.Common.{◌∙◌, ap, sym, subst, refl}
use Rattle.std.proofs.lemmas.List.{with_items_is}
use Rattle.op_emu.specs.Rows.{AreDecoded}
use Rattle.op_emu.specs.Segments.{regions_of, lie_apart}
use Rattle.op_emu.proofs.Gliding.{Goes-none}
use Rattle.op_emu.proofs.memory.Memory.glide.Goals as goal

pub invariant_of-self : goal.invariant_of-self
invariant_of-self c =
    let back = with_items_is c.args.self.now.segments c.glide-done.new.segments (c.glide-done.auto.segments ∙ c.deref_mut.ensures.len) in
    record {
      apart = ap lie_apart back ∙ c.glide-done.ensures.apart;
      decoded = λ j code below is.
          subst (λ ss. AreDecoded (regions_of ss) code.base code.rows.items) (sym back) (c.glide-done.ensures.decoded code.base code.rows.items (subst (λ ss. AreDecoded (regions_of ss) code.base code.rows.items) (sym c.deref_mut.ensures.value) (c.args.self.now.decoded j code below is)));
    }

pub returns-in-None-clause-goes : goal.returns-in-None-clause-goes
returns-in-None-clause-goes c = Goes-none 0 _ _ _ refl
