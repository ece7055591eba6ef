use Rattle.std.proofs.Common.{take, sym, ap, ◌∙◌, arith}
use Rattle.std.specs.Option.{option_copied}
use Rattle.op_types.specs.Names.{last_named, meaning_of}
use Rattle.op_types.proofs.Index.{lies, stands, stands_for_none}
use Rattle.op_types.proofs.names.Names.look_up.Goals as goal

pub returns-in_err-at : goal.returns-in_err-at
returns-in_err-at c =
    ap option_copied c.from_residual.ensures ∙ stands_for_none (take c.args.within c.args.self.now) c.args.key.now.items (sym c.in_err-at.was ∙ c.last_of.ensures)

pub index-requires : goal.index-requires
index-requires c =
    let h = lies c.self.inside.declared.items c.args.within c.args.key.now.items c.in_ok-at.at (sym c.in_ok-at.was ∙ c.last_of.ensures ∙ ap (λ ns. last_named (take c.args.within ns) c.args.key.now.items) (sym c.self.view_is)) in
    let k = c.self.inside.declared.ok in
    grind (arith, h, k)

pub returns : goal.returns
returns c =
    (stands c.self.inside.declared.items c.args.within c.args.key.now.items c.in_ok-at.at c.index.result.now (sym c.in_ok-at.was ∙ c.last_of.ensures ∙ ap (λ ns. last_named (take c.args.within ns) c.args.key.now.items) (sym c.self.view_is)) c.index.ensures).1
    ∙ ap (λ ns. meaning_of (take c.args.within ns) c.args.key.now.items) c.self.view_is
