use Rattle.std.proofs.Common.{◌∷◌, [], ◌++◌, sym, ap, subst, ◌∙◌, arith}
use Rattle.std.specs.Option.{option_flatten}
use Rattle.op_types.specs.Names.{Agrees}
use Rattle.op_types.specs.declared.names.Declared.{Declared}
use Rattle.op_types.proofs.Index.{entered_agrees}
use Rattle.op_types.proofs.names.Names.enter.Goals as goal

pub invariant_of-self-2 : goal.invariant_of-self-2
invariant_of-self-2 c =
    let d : Declared = record { name = c.args.name; meaning = c.args.meaning; hides = c.flatten-hides.result } in
    let at = c.len-at.ensures in
    let kept = c.reserve.ensures.items in
    subst (λ xs. Agrees xs c.insert.new.self) (sym (c.in-Ok.ensures.items ∙ ap (λ xs. xs ++ d ∷ []) kept))
    (entered_agrees c.self.inside.declared.items c.self.inside.newest c.insert.new.self d c.in_ok-key.key c.len-at.result (grind (arith, at, kept)) c.self.invariant
    c.in_ok-insert.ensures.updates (c.flatten-hides.ensures ∙ ap option_flatten c.in_ok-insert.ensures.old) (sym (c.in_ok-key.ensures.items ∙ c.as_slice.ensures.value)))
