use Rattle.std.proofs.Common.{sym, arith, take}
use Rattle.std.proofs.lemmas.List.{length-take-le}
use Rattle.op_emu.proofs.Decoded.{still_decoded, is_writable_there}
use Rattle.op_emu.proofs.Writing.{writable_somewhere, has_address, place_within, apart_after, written_after}
use Rattle.op_emu.proofs.memory.Memory.write_front.Goals as goal

pub write_front-requires : goal.write_front-requires
write_front-requires c =
    place_within c.args.self.now.segments.items c.args.at c.in-Some.k c.index_mut.result.now (has_address _ _ _ (sym c.in-Some.ensures)) c.index_mut.ensures.value

pub invariant_of-self : goal.invariant_of-self
invariant_of-self c =
    let bytes = take c.write_front.result c.args.bytes.now in
    let count = length-take-le c.write_front.result c.args.bytes.now c.write_front.ensures.most in
    record {
      apart = apart_after c.args.self.now.segments.items c.args.at c.in-Some.k c.index_mut.result.now (has_address _ _ _ (sym c.in-Some.ensures)) c.index_mut.ensures.value c.args.self.now.apart c.write_front.new.self bytes (omega (arith, count, c.write_front.ensures.fits)) c.write_front.ensures.wrote;
      decoded = λ j code below is. still_decoded c.args.self.now.segments.items c.args.at c.in-Some.k c.index_mut.result.now (has_address _ _ _ (sym c.in-Some.ensures)) c.index_mut.ensures.value c.args.self.now.apart c.write_front.new.self bytes (omega (arith, count, c.write_front.ensures.fits)) c.write_front.ensures.wrote (is_writable_there c.args.self.now.segments.items c.args.at c.in-Some.k c.index_mut.result.now (has_address _ _ _ (sym c.in-Some.ensures)) c.index_mut.ensures.value c.args.self.now.apart c.requires) _ _ (c.args.self.now.decoded j code below is);
    }

pub unreachable-requires : goal.unreachable-requires
unreachable-requires c =
    writable_somewhere c.args.self.now.segments.items c.args.at c.requires (sym c.in-None.ensures)

pub returns-clause-wrote : goal.returns-clause-wrote
returns-clause-wrote c =
    let bytes = take c.write_front.result c.args.bytes.now in
    let count = length-take-le c.write_front.result c.args.bytes.now c.write_front.ensures.most in
    written_after c.args.self.now.segments.items c.args.at c.in-Some.k c.index_mut.result.now (has_address _ _ _ (sym c.in-Some.ensures)) c.index_mut.ensures.value c.args.self.now.apart c.write_front.new.self bytes (omega (arith, count, c.write_front.ensures.fits)) c.write_front.ensures.wrote
