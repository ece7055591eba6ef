-- What a first value with parts says.
use Rattle.std.proofs.Common.{◌≡◌, List, ap, sym, ◌∙◌}
use Rattle.std.specs.Prelude.{Vec}
use Rattle.std.specs.declared.alloc.Global.{Global}
use Rattle.op_core.proofs.Nodes.{list_nodes}
use Rattle.op_core.specs.Initial.{parts, first_value_of}
use Rattle.op_core.specs.Nodes.{first_values_of}
use Rattle.op_core.specs.declared.constant.Initial.{Initial}
use Rattle.op_core.specs.declared.constant.Initial.TheVariants.{Parts}

pub parts-said : (i : Initial) (vs : Vec Initial Global) (items : List Initial) → i ≡ Parts vs → items ≡ vs.items → parts (first_values_of items) ≡ first_value_of i
parts-said i vs items is same = ap (λ xs. parts (first_values_of xs)) same ∙ sym (list_nodes.parts_says vs) ∙ ap first_value_of (sym is)
