-- How large items are, for the measures of what goes down them: one for each item of one evaluation.
use Rattle.std.proofs.Common.{◌≡◌, ℕ, suc, ◌+◌, Bool, List, [], ◌∷◌, ◌++◌, None, ap, ◌∙◌, arith}
use Rattle.std.specs.Prelude.{Vec}
use Rattle.std.specs.declared.alloc.Global.{Global}
use Rattle.op_core.specs.declared.program.Core.{Core}
use Rattle.op_semantics.specs.Items.{Item as MeantItem, also, Items, none, then_do}
use Rattle.op_values.proofs.Nodes.{item_nodes}
use Rattle.op_values.specs.View.{item_view, items_view}
use Rattle.op_values.specs.declared.ids.TemporaryId.{TemporaryId}
use Rattle.op_values.specs.declared.item.Item.{Item}
use Rattle.op_values.specs.declared.item.Item.TheVariants.{Also}

no_tables : Core
no_tables = record { types = []; extents = []; fields = []; classes = []; interfaces = []; listed = []; methods = []; properties = []; routines = []; parameters = []; variables = []; globals = []; units = []; exceptions = None }

abbrev mutual
  in_item : MeantItem → ℕ
  in_item (also truth t items) = suc (in_items items)
  in_item _ = 0

  in_items : Items → ℕ
  in_items none = 0
  in_items (then_do i others) = suc (in_item i + in_items others)

pub item_size : Item → ℕ
item_size i = in_item (item_view no_tables 0 i)

pub size : List Item → ℕ
size items = in_items (items_view no_tables 0 items)

pub also_size : (i : Item) (truth : Bool) (t : TemporaryId) (items : Vec Item Global) → i ≡ Also truth t items → item_size i ≡ suc (size items.items)
unfolding item_size size
also_size i truth t items e = ap (λ x. in_item (item_view no_tables 0 x)) e ∙ ap in_item ((item_nodes no_tables 0).also_says truth t items)

push_size : (rest : List Item) (i : Item) → size (rest ++ i ∷ []) ≡ suc (size rest + item_size i)
unfolding size item_size
push_size [] i = omega arith
push_size (x ∷ xs) i = let h : size (xs ++ i ∷ []) ≡ suc (size xs + item_size i) = push_size xs i in omega (arith, h)

pub last_size : (items front : List Item) (last : Item) → items ≡ front ++ last ∷ [] → size items ≡ suc (size front + item_size last)
last_size items front last e = ap size e ∙ push_size front last
