-- What items and calls make, from the last one on.
use Rattle.std.proofs.Common.{◌≡◌, ℕ, Bool, Result, IfOk, List, [], ◌∷◌, ◌++◌, map, append_assoc, append-nil, ap, sym, ◌∙◌}
use Rattle.std.proofs.lemmas.List.{map-append}
use Rattle.std.specs.Prelude.{Vec}
use Rattle.std.specs.declared.alloc.Global.{Global}
use Rattle.op_base.proofs.Tests.{map_ok}
use Rattle.op_core.specs.declared.program.Core.{Core}
use Rattle.op_semantics.specs.Candidates.{made_at, made_by, made_with, made_with_all}
use Rattle.op_semantics.specs.Items.{Given as MeantGiven, Items, none, then_do, ◌&◌, only}
use Rattle.op_values.proofs.Nodes.{item_nodes, items_behind}
use Rattle.op_values.specs.View.{item_view, items_view, view_given}
use Rattle.op_values.specs.declared.given.Given.{Given}
use Rattle.op_values.specs.declared.ids.TemporaryId.{TemporaryId}
use Rattle.op_values.specs.declared.item.Item.{Item}
use Rattle.op_values.specs.declared.item.Item.TheVariants.{Also}
use Rattle.op_semantics.specs.World.{Temporary}

-- ---- from the last one on

made_behind : (xs ys : Items) → made_by (xs & ys) ≡ made_by ys ++ made_by xs
made_behind none ys = sym (append-nil (made_by ys))
made_behind (then_do x xs) ys = ap (λ z. z ++ made_at x) (made_behind xs ys) ∙ append_assoc (made_by ys) (made_by xs) (made_at x)

pub last_makes : (core : Core) (r : ℕ) (items front : List Item) (last : Item) → items ≡ front ++ last ∷ [] → made_by (items_view core r items) ≡ made_at (item_view core r last) ++ made_by (items_view core r front)
last_makes core r items front last e =
    ap (λ xs. made_by (items_view core r xs)) e
    ∙ ap made_by (items_behind core r front (last ∷ []))
    ∙ made_behind (items_view core r front) (only (item_view core r last))

pub also_makes : {A E : Type 0} (i : Item) (truth : Bool) (t : TemporaryId) (items : Vec Item Global) (xs : List Item) (result : Result A E) (new old : List Temporary) → i ≡ Also truth t items → xs ≡ items.items → IfOk result (λ _. (core : Core) (r : ℕ) → new ≡ old ++ made_by (items_view core r xs)) → IfOk result (λ _. (core : Core) (r : ℕ) → new ≡ old ++ made_at (item_view core r i))
also_makes i truth t items xs result new old e same made = map_ok result (λ _ h core r.
    h core r
    ∙ ap (λ x. old ++ x) (ap (λ x. made_by (items_view core r x)) same ∙ sym (ap (λ x. made_at (item_view core r x)) e ∙ ap made_at ((item_nodes core r).also_says truth t items)))) made

given_behind : (gs : List MeantGiven) (g : MeantGiven) → made_with_all (gs ++ g ∷ []) ≡ made_with g ++ made_with_all gs
given_behind [] g = sym (append-nil (made_with g))
given_behind (h ∷ gs) g = ap (λ z. z ++ made_with h) (given_behind gs g) ∙ append_assoc (made_with g) (made_with_all gs) (made_with h)

pub last_holds : (given front : List Given) (last : Given) → given ≡ front ++ last ∷ [] → made_with_all (map view_given given) ≡ made_with (view_given last) ++ made_with_all (map view_given front)
last_holds given front last e =
    ap (λ gs. made_with_all (map view_given gs)) e
    ∙ ap made_with_all (map-append view_given front (last ∷ []))
    ∙ given_behind (map view_given front) (view_given last)

-- ---- what is left goes behind what was made

pub goes_on : {A : Type 0} (made new first others rest whole : List A) → rest ≡ first ++ others → new ≡ made ++ first → made ++ rest ≡ whole → new ++ others ≡ whole
goes_on made new first others rest whole split put h =
    ap (λ x. x ++ others) put
    ∙ append_assoc made first others
    ∙ ap (λ x. made ++ x) (sym split)
    ∙ h
