use Rattle.std.proofs.Common.{◌≡◌, ◌<◌, ◌∷◌, ◌++◌, ◌+◌, ◌∙◌, [], ap, ap₂, sym, drop, length, ℕ, List}
use Rattle.std.proofs.Math.ListN.{get_or}
use Rattle.std.proofs.Math.Seq.{append_snoc}
use Rattle.std.proofs.lemmas.List.{drop_more}
use Rattle.op_core.specs.declared.ids.RoutineId.{RoutineId}
use Rattle.op_core.specs.declared.program.Core.{Core}
use Rattle.op_expand.specs.Closing.{part_blocks, part_code}
use Rattle.op_low.specs.declared.code.Block.{Block}
use Rattle.op_mir.specs.declared.code.Mir.{Mir}
use Rattle.op_expand.proofs.closing.push_parts.Goals as goal

-- one block more is made, and the rest begins one further on
more : (core : Core) (mir : Mir) (stack count before : ℕ) (done : List Block) (parts : List RoutineId) (i : ℕ) → i < length parts
    → done ++ ((record { code = part_code core mir stack count before (get_or parts i (record { 0 = 0 })) }) ∷ []) ++ part_blocks core mir stack count (before + 1) (drop (i + 1) parts) ≡ done ++ part_blocks core mir stack count before (drop i parts)
more core mir stack count before done parts i there =
    append_snoc done (record { code = part_code core mir stack count before (get_or parts i (record { 0 = 0 })) }) (part_blocks core mir stack count (before + 1) (drop (i + 1) parts))
    ∙ ap (λ rest. done ++ part_blocks core mir stack count before rest) (sym (drop_more parts i (record { 0 = 0 }) there))

pub loop-part-preserved : goal.loop-part-preserved
loop-part-preserved c =
    ap₂ (λ done before. done ++ part_blocks c.args.core.now c.args.mir.now c.args.stack c.args.count before (drop (c.loop-part.part-index + 1) c.args.parts.now)) (c.in_ok-push.ensures.items ∙ ap (λ block. c.loop-part.blocks.items ++ block ∷ []) c.in_ok-part_block.ensures) c.in_ok-before.ensures
    ∙ more c.args.core.now c.args.mir.now c.args.stack c.args.count c.loop-part.before c.loop-part.blocks.items c.args.parts.now c.loop-part.part-index c.loop-part-test.true
    ∙ c.loop-part.invariant
