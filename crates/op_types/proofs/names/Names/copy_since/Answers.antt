use Rattle.std.proofs.Common.{◌≡◌, ◌++◌, IfOk, subst}
use Rattle.op_types.proofs.Index.{behind_first}
use Rattle.op_types.proofs.names.Names.copy_since.Goals as goal

pub returns : goal.returns
returns c =
    let parts = behind_first c.self.inside.declared.items c.as_slice-declared.result.now c.split_at.result.0.now c.split_at-2.result.1.now c.args.within c.args.count c.min.result c.min-2.result c.args.self.now c.as_slice-declared.ensures.value c.min.ensures c.split_at.ensures.front c.min-2.ensures c.split_at-2.ensures.back c.self.view_is in
    subst (λ names. IfOk c.enter_copies.result (λ _. c.enter_copies.new.self ≡ c.args.copy.now ++ names)) parts c.enter_copies.ensures
