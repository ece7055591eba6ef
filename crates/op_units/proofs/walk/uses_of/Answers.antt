use Rattle.std.proofs.Common.{sym, ◌∙◌}
use Rattle.op_units.specs.Names.{implementation_uses, interface_uses}
use Rattle.op_units.specs.Walk.{by_name, by_uses, own_names}
use Rattle.op_units.proofs.Entering.{same_uses}
use Rattle.op_units.proofs.walk.uses_of.Goals as goal

pub returns-in-Some-clause-refused : goal.returns-in-Some-clause-refused
returns-in-Some-clause-refused c number bytes reads = by_name c.args.tree.now c.in-Some.place reads (sym c.in_ok-place.ensures ∙ c.in-Some.is) c.broken.ensures

pub returns-in-Some-2-clause-refused : goal.returns-in-Some-2-clause-refused
returns-in-Some-2-clause-refused c number bytes reads =
    let tree = c.args.tree.now in
    let once = same_uses c.in_ok-names.names (own_names c.args.unit.now) c.as_slice.result.now (interface_uses tree) c.as_slice-2.result.now (implementation_uses tree) c.in_ok-names.ensures (c.as_slice.ensures.value ∙ c.in_ok-interface.ensures) (c.as_slice-2.ensures.value ∙ c.in_ok-implementation.ensures) in
    by_uses tree c.in-Some-2.place reads (sym c.in_ok-place.ensures ∙ c.in_default.is) (sym once ∙ sym c.in_ok-place-2.ensures ∙ c.in-Some-2.is) c.broken-in-Some-2.ensures

pub returns-clause-whole : goal.returns-clause-whole
returns-clause-whole c =
    let interface = c.in_ok-interface.interface.items in
    let implementation = c.in_ok-implementation.implementation.items in
    let once = same_uses c.in_ok-names.names (own_names c.args.unit.now) c.as_slice.result.now interface c.as_slice-2.result.now implementation c.in_ok-names.ensures c.as_slice.ensures.value c.as_slice-2.ensures.value in
    record { named = sym c.in_ok-place.ensures ∙ c.in_default.is; once = sym once ∙ sym c.in_ok-place-2.ensures ∙ c.in_default-2.is; in_interface = c.in_ok-interface.ensures; in_implementation = c.in_ok-implementation.ensures }
