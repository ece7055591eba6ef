use Rattle.std.proofs.Common.{subst, take, ap, ◌∙◌, refl, ◌≡◌, ℕ}
use Rattle.std.specs.Int.{bytes_low_first}
use Rattle.op_rv.specs.Step.{store_size_of}
use Rattle.op_rv.specs.declared.instruction.StoreOp.{StoreOp}
use Rattle.op_rv.specs.declared.instruction.StoreOp.TheVariants.{Sb, Sh, Sw}
use Rattle.op_emu.specs.Segments.{regions_of, IsWritten}
use Rattle.op_emu.proofs.memory.Memory.store.Goals as goal

low_bytes : (op : StoreOp) (value : ℕ) → take (store_size_of op) (bytes_low_first 0 4 value) ≡ bytes_low_first 0 (store_size_of op) value
low_bytes Sb value = refl
low_bytes Sh value = refl
low_bytes Sw value = refl

pub returns : goal.returns
returns c =
    subst (IsWritten (regions_of c.args.self.now.segments.items) (regions_of c.write.new.self.segments.items) c.args.at) (ap (λ n. take n c.to_le_bytes-bytes.result) c.store_size.ensures.result ∙ ap (take (store_size_of c.args.op)) c.to_le_bytes-bytes.ensures ∙ low_bytes c.args.op c.args.value) c.write.ensures
