-- Places are given with nothing to be done for them.
use Rattle.std.proofs.Common.{◌≡◌, List, Bool, true, Option, Some, Result, IfOk, refl, ap, sym, ◌∙◌, if◌then◌else◌}
use Rattle.op_base.proofs.Tests.{map_ok}
use Rattle.op_base.specs.declared.memory_error.NoMemory.{NoMemory}
use Rattle.op_calls.specs.Passing.{Passes, kept, passed_view}
use Rattle.op_calls.specs.declared.passing.Passed.{Passed}
use Rattle.op_core.specs.Sizes.{type_at}
use Rattle.op_core.specs.declared.ids.TypeId.{TypeId}
use Rattle.op_core.specs.declared.routine.Variable.{Variable}
use Rattle.op_core.specs.declared.types.CoreType.{CoreType}
use Rattle.op_core.specs.declared.types.CoreType.TheVariants.{OpenArray}
use Rattle.op_semantics.specs.Expressions.{Here, OnePassed, array_passed, elements_copied, open_passed, operand_of, path_of, reference_passed}
use Rattle.op_semantics.specs.Items.{none, ◌&◌}
use Rattle.op_semantics.specs.Paths.{Path, Root, in_global, in_local, through, in_temporary}
use Rattle.op_semantics.specs.Shapes.{refers}
use Rattle.op_values.proofs.ItemsBehind.{behind_none}
use Rattle.op_values.specs.Adding.{found_view, now_view, view_in}
use Rattle.op_values.specs.declared.found.Found.{Found}
use Rattle.op_values.specs.declared.item.Item.{Item}
use Rattle.op_values.specs.declared.setting.Setting.{Setting}

abbrev alone : OnePassed → OnePassed
alone q = record q { items = none }

stands : (setting : Setting) (old : List Item) (p : Passed) (q : OnePassed) → passed_view p ≡ q → Passes setting old old p q
stands setting old p q e = record {
  adds = sym (behind_none (view_in setting old)) ∙ ap (λ x. view_in setting old & x.items) e;
  is = ap alone e;
}

pub place_stands : (setting : Setting) (old : List Item) (result : Result Passed NoMemory) (q : OnePassed) → IfOk result (λ p. passed_view p ≡ q) → IfOk result (λ p. Passes setting old old p q)
place_stands setting old result q h = map_ok result (λ p e. stands setting old p q e) h

-- where the value is now does not count
open_kept : (p : Path) (root : Root) (f : Found) → open_passed p root (kept f.used f.held) ≡ open_passed p root (found_view f)
open_kept p (in_global v) f = refl
open_kept p (in_local v) f = refl
open_kept p (through v) f = refl
open_kept p (in_temporary of n) f = refl

reference_kept : (of : TypeId) (type : Option CoreType) (p : Path) (f : Found) → reference_passed of type p (kept f.used f.held) ≡ reference_passed of type p (found_view f)
reference_kept of (Some (OpenArray element)) p f = open_kept p p.root f
reference_kept of _ p f = refl

pub reference_stands : (setting : Setting) (old : List Item) (row : Variable) (here : Here) (of : TypeId) (f : Found) (p : Path) (result : Result Passed NoMemory) (test : Bool) → test ≡ refers setting.core.now (Some row) → test ≡ true → p ≡ path_of of here (now_view f.now) → IfOk result (λ x. passed_view x ≡ reference_passed of (type_at setting.core.now of) p (kept f.used f.held)) → IfOk result (λ x. Passes setting old old x (array_passed setting.core.now here (Some row) of (found_view f)))
reference_stands setting old row here of f p result test tested holds at h =
    let core = setting.core.now in
    let by = reference_passed of (type_at core of) in
    let place = path_of of here (now_view f.now) in
    let q : by p (kept f.used f.held) ≡ array_passed core here (Some row) of (found_view f) =
    reference_kept of (type_at core of) p f
    ∙ ap (λ x. by x (found_view f)) at
    ∙ ap (λ b. if b then by place (found_view f) else elements_copied core row.of (operand_of of here (now_view f.now)) (found_view f)) (sym holds ∙ tested) in
    place_stands setting old result _ (map_ok result (λ x e. e ∙ q) h)
