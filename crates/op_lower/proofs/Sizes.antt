-- How large items are, for the measures of what goes down them: one for each item, case and loop.
use Rattle.std.proofs.Common.{◌≡◌, ℕ, suc, ◌+◌, Bool, List, [], ◌∷◌, ◌++◌, refl, ap, ◌∙◌, arith}
use Rattle.std.specs.Prelude.{Vec}
use Rattle.std.specs.declared.alloc.Global.{Global}
use Rattle.op_items.proofs.Nodes.{item_nodes}
use Rattle.op_items.specs.View.{item_view, items_view, cases_view, turns_view}
use Rattle.op_items.specs.declared.item.Case.{Case}
use Rattle.op_items.specs.declared.item.Item.{Item}
use Rattle.op_items.specs.declared.item.Item.TheVariants.{Also, Choose, Select, Loop, BodyFirst, Protect, Scoped}
use Rattle.op_items.specs.declared.item.Turns.{Turns}
use Rattle.op_lower.proofs.MadeLemmas.{no_tables}
use Rattle.op_meaning.specs.Items.{Item as MeantItem, also, choose, select, loop, body_first, protect, scoped, Items, none, then_do, Turns as MeantTurns, turns, Cases, no_cases, cases}
use Rattle.op_mir.specs.declared.ids.TemporaryId.{TemporaryId}
use Rattle.op_mir.specs.declared.temporary.Temporary.{Temporary}

abbrev mutual
  in_item : MeantItem → ℕ
  in_item (also truth t items) = suc (in_items items)
  in_item (choose t first otherwise) = suc (in_items first + in_items otherwise)
  in_item (select t cs otherwise) = suc (in_cases cs + in_items otherwise)
  in_item (loop l) = suc (in_turns l)
  in_item (body_first l) = suc (in_turns l)
  in_item (protect t items finalization) = suc (in_items items + in_items finalization)
  in_item (scoped t ts items) = suc (in_items items)
  in_item _ = 0

  in_items : Items → ℕ
  in_items none = 0
  in_items (then_do i others) = suc (in_item i + in_items others)

  in_turns : MeantTurns → ℕ
  in_turns (turns head t ends between body) = in_items head + in_items between + in_items body

  in_cases : Cases → ℕ
  in_cases no_cases = 0
  in_cases (cases labels items others) = suc (in_items items + in_cases others)

pub item_size : Item → ℕ
item_size i = in_item (item_view no_tables 0 i)

pub size : List Item → ℕ
size items = in_items (items_view no_tables 0 items)

pub turns_size : Turns → ℕ
turns_size l = in_turns (turns_view no_tables 0 l)

pub cases_size : List Case → ℕ
cases_size cs = in_cases (cases_view no_tables 0 cs)

-- ---- the size of a node

pub also_size : (i : Item) (truth : Bool) (t : TemporaryId) (items : Vec Item Global) → i ≡ Also truth t items → item_size i ≡ suc (size items.items)
unfolding item_size size
also_size i truth t items e = ap (λ x. in_item (item_view no_tables 0 x)) e ∙ ap in_item ((item_nodes no_tables 0).also_says truth t items)

pub choose_size : (i : Item) (t : TemporaryId) (first otherwise : Vec Item Global) → i ≡ Choose t first otherwise → item_size i ≡ suc (size first.items + size otherwise.items)
unfolding item_size size
choose_size i t first otherwise e = ap (λ x. in_item (item_view no_tables 0 x)) e ∙ ap in_item ((item_nodes no_tables 0).choose_says t first otherwise)

pub select_size : (i : Item) (t : TemporaryId) (cs : Vec Case Global) (otherwise : Vec Item Global) → i ≡ Select t cs otherwise → item_size i ≡ suc (cases_size cs.items + size otherwise.items)
unfolding item_size size cases_size
select_size i t cs otherwise e = ap (λ x. in_item (item_view no_tables 0 x)) e ∙ ap in_item ((item_nodes no_tables 0).select_says t cs otherwise)

pub loop_size : (i : Item) (l : Turns) → i ≡ Loop l → item_size i ≡ suc (turns_size l)
unfolding item_size turns_size
loop_size i l e = ap (λ x. in_item (item_view no_tables 0 x)) e ∙ ap in_item ((item_nodes no_tables 0).loop_says l)

pub body_first_size : (i : Item) (l : Turns) → i ≡ BodyFirst l → item_size i ≡ suc (turns_size l)
unfolding item_size turns_size
body_first_size i l e = ap (λ x. in_item (item_view no_tables 0 x)) e ∙ ap in_item ((item_nodes no_tables 0).body_first_says l)

pub protect_size : (i : Item) (t : TemporaryId) (items finalization : Vec Item Global) → i ≡ Protect t items finalization → item_size i ≡ suc (size items.items + size finalization.items)
unfolding item_size size
protect_size i t items finalization e = ap (λ x. in_item (item_view no_tables 0 x)) e ∙ ap in_item ((item_nodes no_tables 0).protect_says t items finalization)

pub scoped_size : (i : Item) (t : Temporary) (ts : List Temporary) (items : Vec Item Global) → i ≡ Scoped t ts items → item_size i ≡ suc (size items.items)
unfolding item_size size
scoped_size i t ts items e = ap (λ x. in_item (item_view no_tables 0 x)) e ∙ ap in_item ((item_nodes no_tables 0).scoped_says t ts items)

pub size_of_turns : (l : Turns) → turns_size l ≡ size l.head.items + size l.between.items + size l.body.items
unfolding turns_size size
size_of_turns l = refl

-- ---- lists

push_size : (rest : List Item) (i : Item) → size (rest ++ i ∷ []) ≡ suc (size rest + item_size i)
unfolding size item_size
push_size [] i = omega arith
push_size (x ∷ xs) i = let h : size (xs ++ i ∷ []) ≡ suc (size xs + item_size i) = push_size xs i in omega (arith, h)

pub popped_size : (items rest : List Item) (i : Item) → items ≡ rest ++ i ∷ [] → size items ≡ suc (size rest + item_size i)
popped_size items rest i e = ap size e ∙ push_size rest i

push_case_size : (rest : List Case) (c : Case) → cases_size (rest ++ c ∷ []) ≡ suc (cases_size rest + size c.items.items)
unfolding cases_size size
push_case_size [] c = omega arith
push_case_size (x ∷ xs) c = let h : cases_size (xs ++ c ∷ []) ≡ suc (cases_size xs + size c.items.items) = push_case_size xs c in omega (arith, h)

pub popped_case_size : (cs rest : List Case) (c : Case) → cs ≡ rest ++ c ∷ [] → cases_size cs ≡ suc (cases_size rest + size c.items.items)
popped_case_size cs rest c e = ap cases_size e ∙ push_case_size rest c
