use Rattle.std.proofs.Common.{◌≡◌, ◌≤◌, ◌∙◌, ap, sym, subst, arith, inl, inr, [], true}
use Rattle.op_rv.specs.declared.fault.FaultKind.TheVariants.{Store}
use Rattle.op_rv.specs.State.{all_from}
use Rattle.op_rv.specs.Environment.{read_call}
use Rattle.op_emu.specs.Acts.{may_fill}
use Rattle.op_emu.specs.Region.{writable_in}
use Rattle.op_emu.specs.Registers.{value_of}
use Rattle.op_emu.specs.Segments.{regions_of, IsWritten}
use Rattle.op_emu.proofs.ActsLemmas.{Acts-fault, Takes-none, read_call-unwritable}
use Rattle.op_emu.proofs.ReadLemmas.{Acts-read, Acts-fills}
use Rattle.std.proofs.lemmas.Bool.{false≢true}
use Rattle.op_emu.proofs.Writing.{written_none}
use Rattle.op_emu.proofs.hart.Hart.read_input.Goals as goal

pub returns-then-not-allows-clause-acts : goal.returns-then-not-allows-clause-acts
returns-then-not-allows-clause-acts g c =
    let may = writable_in (regions_of c.args.self.now.memory.segments.items) in
    let at = value_of c.args.self.now.registers.words 11 in
    let same_range = ap (λ a. all_from may a c.get-count.result) c.get-at.ensures ∙ ap (all_from may at) c.get-count.ensures in
    λ o e oc oc' ec ec'.
    Acts-fault read_call c.args.self.now Store _ _ _ (λ x out err.
    read_call-unwritable _ c.requires (sym same_range ∙ sym c.allows.ensures ∙ c.if-not-allows.true))

pub returns-then-self-clause-acts : goal.returns-then-self-clause-acts
returns-then-self-clause-acts g c =
    let old = c.args.self.now in
    let new = c.set.new.self in
    let may = writable_in (regions_of old.memory.segments.items) in
    let at = value_of old.registers.words 11 in
    let same_range = ap (λ a. all_from may a c.get-count.result) c.get-at.ensures ∙ ap (all_from may at) c.get-count.ensures in
    let allowed : may_fill old ≡ true = sym same_range ∙ sym c.allows.ensures ∙ c.if-not-allows.false in
    let kept = c.set.ensures.input in
    let written = subst (λ memory. IsWritten (regions_of old.memory.segments.items) (regions_of memory.segments.items) at []) (sym c.set.ensures.memory) (written_none (regions_of old.memory.segments.items) at) in
    λ o e oc oc' ec ec'.
    Acts-read old new [] _ _ o e c.requires allowed (omega arith) (inr (kept ∙ c.if-self.true)) (Takes-none old new _ kept) c.set.ensures.registers c.set.ensures.pc written

pub returns-in-Whole-clause-acts : goal.returns-in-Whole-clause-acts
returns-in-Whole-clause-acts g c =
    let old = c.args.self.now in
    let may = writable_in (regions_of old.memory.segments.items) in
    let at = value_of old.registers.words 11 in
    let same_range = ap (λ a. all_from may a c.get-count.result) c.get-at.ensures ∙ ap (all_from may at) c.get-count.ensures in
    let allowed : may_fill old ≡ true = sym same_range ∙ sym c.allows.ensures ∙ c.if-not-allows.false in
    let kept = c.set-in-Whole.ensures.input in
    let within : c.get-count.result ≤ value_of old.registers.words 12 = omega (arith, c.get-count.ensures) in
    λ o e oc oc' ec ec'.
    Acts-fills old c.set-in-Whole.new.self c.fill.new.self c.get-count.result c.get-at.result _ _ o e c.requires allowed c.if-self.false c.in-Whole.ensures.filled c.get-at.ensures within (inl c.get-count.ensures) (λ ended. absurd (false≢true (sym c.if-self.false ∙ sym kept ∙ ended))) c.set-in-Whole.ensures.memory c.set-in-Whole.ensures.registers c.set-in-Whole.ensures.pc

pub returns-in-Ended-clause-acts : goal.returns-in-Ended-clause-acts
returns-in-Ended-clause-acts g c =
    let old = c.args.self.now in
    let may = writable_in (regions_of old.memory.segments.items) in
    let at = value_of old.registers.words 11 in
    let same_range = ap (λ a. all_from may a c.get-count.result) c.get-at.ensures ∙ ap (all_from may at) c.get-count.ensures in
    let allowed : may_fill old ≡ true = sym same_range ∙ sym c.allows.ensures ∙ c.if-not-allows.false in
    let filled = c.in-Ended.ensures.filled in
    let within : c.in-Ended.taken ≤ value_of old.registers.words 12 = omega (arith, c.get-count.ensures, filled.0) in
    λ o e oc oc' ec ec'.
    Acts-fills old c.set-in-Ended.new.self c.fill.new.self c.in-Ended.taken c.get-at.result _ _ o e c.requires allowed c.if-self.false filled.1 c.get-at.ensures within (inr c.set-in-Ended.ensures.input) (λ _. filled.2) c.set-in-Ended.ensures.memory c.set-in-Ended.ensures.registers c.set-in-Ended.ensures.pc
