use Rattle.std.proofs.Common.{◌≡◌, ◌+◌, ◌++◌, drop, take, sym, ap, ◌∙◌, Some, arith}
use Rattle.std.proofs.lemmas.List.{take-append-drop, drop-drop, take_rest}
use Rattle.op_base.proofs.source.MemSourceSource.take.Goals as goal

pub returns-in_default-clause-gave : goal.returns-in_default-clause-gave
returns-in_default-clause-gave c =
    let source = c.args.self.now in
    let rest = drop source.at source.bytes.items in
    let k = c.copy_front.result in
    let front : take k c.copy_front.new.into ≡ take k rest = c.copy_front.ensures.copied ∙ ap (take k) (take_rest c.deref.result.now source.at ∙ ap (drop source.at) c.deref.ensures.value) in
    let parts : rest ≡ take k c.copy_front.new.into ++ drop (source.at + k) source.bytes.items =
    sym (take-append-drop k rest) ∙ ap (λ xs. xs ++ drop k rest) (sym front) ∙ ap (λ xs. take k c.copy_front.new.into ++ xs) (drop-drop k source.at source.bytes.items)
    in
    (omega arith, omega arith, ap Some parts)
