use Rattle.std.proofs.Common.{arith, length, map, refl, sym, ap, subst, ◌∙◌}
use Rattle.op_units.specs.Cycles.{with_parts}
use Rattle.op_units.specs.Names.{name_of}
use Rattle.op_units.specs.Reading.{Reads}
use Rattle.op_units.specs.Walk.{unit_name, walked_of}
use Rattle.op_units.proofs.Entering.{closing_within, enters, file_breaks}
use Rattle.op_units.proofs.walk.Walk.enter.Goals as goal

pub returns-in-Err-Refused : goal.returns-in-Err-Refused
returns-in-Err-Refused c = rw c.in-Err-Refused.field-0-is (refl, file_breaks (walked_of c.args.self.now) c.in-Ok.number c.args.unit c.args.bytes.now c.in-Err-Refused.field-0 c.in-Err-Refused.refusal (omega (arith, c.in-Ok.ensures.1, c.len.ensures, c.args.self.now.trees.ok.0)) c.in-Err-Refused.ensures.refused c.in-Err-Refused.field-0-is)

pub frame_of-requires : goal.frame_of-requires
frame_of-requires c = closing_within (walked_of c.args.self.now) (unit_name c.args.unit) c.in-Ok-parts_of.parts.uses.interface.items c.in-Ok-parts_of.parts.closing c.in-Ok-parts_of.ensures.whole.2

pub returns : goal.returns
returns c =
    let w = walked_of c.args.self.now in
    let parts = c.in-Ok-parts_of.parts in
    let tree = parts.tree in
    let unit = c.args.unit in
    let bytes = c.args.bytes.now in
    let interface = parts.uses.interface.items in
    let implementation = parts.uses.implementation.items in
    let whole = c.in-Ok-parts_of.ensures.whole in
    let kept = c.in_ok-keep.ensures ∙ ap (λ name. with_parts w name unit (length bytes) tree (map name_of c.as_slice-2.result.now)) c.as_slice.ensures ∙ ap (λ us. with_parts w c.args.file unit (length bytes) tree (map name_of us)) c.as_slice-2.ensures.value in
    enters w (walked_of c.keep.new.self) c.args.file unit bytes tree parts.closing interface implementation c.in_ok-frame_of.field-0 (subst (λ n. Reads n bytes tree) (omega (arith, c.in-Ok.ensures.1, c.len.ensures, c.args.self.now.trees.ok.0)) whole.0) whole.1.named whole.1.once whole.1.in_interface whole.1.in_implementation whole.2 kept c.in_ok-frame_of.ensures
