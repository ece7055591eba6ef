-- A list is made, and is then given its parts.
use Rattle.std.proofs.Common.{◌≡◌, ℕ, ℤ, List, Result, IfOk, ap₂}
use Rattle.op_semantics.specs.Actions.{constant}
use Rattle.op_semantics.specs.Expressions.{found, Now}
use Rattle.op_semantics.specs.Items.{Items, none, then_do, ◌&◌, act, only}
use Rattle.op_values.proofs.ItemsBehind.{adds_both, ok_as, ok_both}
use Rattle.op_values.specs.Adding.{Adds, Gives, found_view}
use Rattle.op_values.specs.declared.found.Found.{Found as RustFound}
use Rattle.op_values.specs.declared.item.Item.{Item}
use Rattle.op_values.specs.declared.setting.Setting.{Setting}

pub list_begins : {A E : Type 0} (setting : Setting) (old mid new : List Item) (result : Result A E) (t t' : ℕ) (n n' : ℤ) (more : ℕ → Items) → t ≡ t' → n ≡ n' → Adds setting old mid (only (act (constant t n))) → IfOk result (λ _. Adds setting mid new (more t)) → IfOk result (λ _. Adds setting old new (then_do (act (constant t' n')) (more t')))
list_begins setting old mid new result t t' n n' more to value a b =
    ok_as setting old new result (ap₂ (λ t n. then_do (act (constant t n)) (more t)) to value) (ok_both setting old mid new result (only (act (constant t n))) (more t) a b)

pub list_gives : (setting : Setting) (old mid new : List Item) (f : RustFound) (begun parts : Items) (now : Now) (held : ℕ) → found_view f ≡ found none now held → Adds setting old mid begun → Adds setting mid new parts → Gives setting old new f (found (begun & parts) now held)
list_gives setting old mid new f begun parts now held is a b = record {
  adds = adds_both setting old mid new begun parts a b;
  is = is;
}
