use Rattle.std.proofs.Common.{◌∙◌, ap, sym, subst, refl}
use Rattle.op_base.specs.Outside.{appended}
use Rattle.op_rv.specs.State.{Running, all_from, bytes_from}
use Rattle.op_emu.specs.Acts.{sets, Leads, moment}
use Rattle.op_emu.specs.Region.{readable_in, byte_in}
use Rattle.op_emu.specs.Registers.{value_of}
use Rattle.op_emu.specs.Segments.{regions_of}
use Rattle.op_emu.proofs.ActsLemmas.{Leads-sets}
use Rattle.op_emu.proofs.hart.Hart.write_to.Goals as goal

pub returns-in-Done-clause-acts : goal.returns-in-Done-clause-acts
returns-in-Done-clause-acts g c =
    let old = c.args.self.now in
    let may = readable_in (regions_of old.memory.segments.items) in
    let memory = byte_in (regions_of old.memory.segments.items) in
    let count = value_of old.registers.words 12 in
    let same_range = ap (λ a. all_from may a c.get-count.result) c.get-at.ensures ∙ ap (all_from may (value_of old.registers.words 11)) c.get-count.ensures in
    let same_bytes = ap (λ a. bytes_from memory a c.get-count.result) c.get-at.ensures ∙ ap (bytes_from memory (value_of old.registers.words 11)) c.get-count.ensures in
    let sink = g.S.Sink in (
      sym same_range ∙ sym c.allows.ensures ∙ c.if-not-allows.false,
      c.in-Done.ensures.done refl ∙ ap (appended (sink.written c.args.to.now)) same_bytes,
      subst (λ n. Leads (sets 10 n) old (moment c.set.new.self Running)) c.get-count.ensures (Leads-sets old c.set.new.self 10 c.get-count.result c.set.ensures.registers c.set.ensures.pc c.set.ensures.memory c.set.ensures.input),
    )
