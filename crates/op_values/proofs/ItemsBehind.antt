-- Items behind items.
use Rattle.std.proofs.Common.{◌≡◌, List, refl, ap, subst, ◌∙◌, IfOk, Result}
use Rattle.op_base.proofs.Tests.{map_ok}
use Rattle.op_base.specs.declared.memory_error.NoMemory.{NoMemory}
use Rattle.op_values.specs.Adding.{Adds, view_in}
use Rattle.op_values.specs.declared.item.Item.{Item}
use Rattle.op_values.specs.declared.setting.Setting.{Setting}
use Rattle.op_semantics.specs.Items.{Item as MeantItem, Items, none, then_do, ◌&◌, only}

pub adds_as : {A : Type 0} (setting : Setting) (old new : List Item) (result : Result A NoMemory) {x y : MeantItem} → x ≡ y → IfOk result (λ _. Adds setting old new (only x)) → IfOk result (λ _. Adds setting old new (only y))
adds_as setting old new result e p = subst (λ z. IfOk result (λ _. Adds setting old new (only z))) e p

pub behind_behind : (xs ys zs : Items) → (xs & ys) & zs ≡ xs & ys & zs
behind_behind none ys zs = refl
behind_behind (then_do x xs) ys zs = ap (then_do x) (behind_behind xs ys zs)

pub behind_none : (xs : Items) → xs & none ≡ xs
behind_none none = refl
behind_none (then_do x xs) = ap (then_do x) (behind_none xs)

-- ---- one thing behind another

pub adds_both : (setting : Setting) (old mid new : List Item) (xs ys : Items) → Adds setting old mid xs → Adds setting mid new ys → Adds setting old new (xs & ys)
adds_both setting old mid new xs ys a b = b ∙ ap (λ x. x & ys) a ∙ behind_behind (view_in setting old) xs ys

pub adds_by : (setting : Setting) (old new : List Item) {xs ys : Items} → xs ≡ ys → Adds setting old new xs → Adds setting old new ys
adds_by setting old new e a = a ∙ ap (λ x. view_in setting old & x) e

pub ok_both : {A E : Type 0} (setting : Setting) (old mid new : List Item) (r : Result A E) (xs ys : Items) → Adds setting old mid xs → IfOk r (λ _. Adds setting mid new ys) → IfOk r (λ _. Adds setting old new (xs & ys))
ok_both setting old mid new r xs ys a b = map_ok r (λ _ c. adds_both setting old mid new xs ys a c) b

pub ok_as : {A E : Type 0} (setting : Setting) (old new : List Item) (r : Result A E) {xs ys : Items} → xs ≡ ys → IfOk r (λ _. Adds setting old new xs) → IfOk r (λ _. Adds setting old new ys)
ok_as setting old new r e b = map_ok r (λ _ c. adds_by setting old new e c) b
