-- One thing is found behind another: each way to go on from a value takes along what was to be done for it.
use Rattle.std.proofs.Common.{◌≡◌, ℕ, ◌+◌, pos, Bool, true, false, List, [], ◌∷◌, if◌then◌else◌, refl, ap, sym, ◌∙◌, IfOk, Result}
use Rattle.op_base.proofs.Tests.{map_ok}
use Rattle.op_base.specs.declared.memory_error.NoMemory.{NoMemory}
use Rattle.op_core.specs.declared.ids.TypeId.{TypeId}
use Rattle.op_core.specs.declared.operation.Function.{Function}
use Rattle.op_core.specs.declared.operation.Function.TheVariants.{Length, Low, High, Ord, Succ, Pred, Abs, Sqr, Odd, UpCase, Assigned, Whole, ClassName}
use Rattle.op_core.specs.declared.program.Core.{Core}
use Rattle.op_operators.proofs.ItemsBehind.{behind_behind, behind_none}
use Rattle.op_semantics.specs.Actions.{Action, constant}
use Rattle.op_semantics.specs.Expressions.{Env, Found as MeantFound, Here, Now, ready, found, applied, applied_to, operand_of, then_acts, then_number, then_piece, then_step, then_value}
use Rattle.op_semantics.specs.Items.{Items, none, ◌&◌, acts}
use Rattle.op_semantics.specs.Paths.{Step}
use Rattle.op_semantics.specs.Primitives.{Operand}
use Rattle.op_semantics.specs.Shapes.{is_managed}
use Rattle.op_semantics.specs.declared.primitive.Primitive.{Primitive}
use Rattle.op_semantics.specs.declared.primitive.Primitive.TheVariants.{NameOfClass}
use Rattle.op_values.specs.Adding.{Adds, Gives, found_view, view_in}
use Rattle.op_values.specs.declared.found.Found.{Found}
use Rattle.op_values.specs.declared.item.Item.{Item}
use Rattle.op_values.specs.declared.setting.Setting.{Setting}

abbrev pub behind : Items → MeantFound → MeantFound
behind xs f = record f { items = xs & f.items }

abbrev alone : MeantFound → MeantFound
alone f = record f { items = none }

abbrev pub Follows : (MeantFound → MeantFound) → Type 0
Follows goes_on = (xs : Items) (f : MeantFound) → goes_on (behind xs f) ≡ behind xs (goes_on f)

whole : (f : MeantFound) → behind f.items (alone f) ≡ f
whole f = ap (λ x. record f { items = x }) (behind_none f.items)

-- ---- what follows

found_behind : (xs ys more : Items) (now : Now) (held : ℕ) → found ((xs & ys) & more) now held ≡ behind xs (found (ys & more) now held)
found_behind xs ys more now held = ap (λ x. found x now held) (behind_behind xs ys more)

either_behind : (b : Bool) (xs : Items) (f f' g g' : MeantFound) → f ≡ behind xs g → f' ≡ behind xs g' → (if b then f else f') ≡ behind xs (if b then g else g')
either_behind true xs f f' g g' p q = p
either_behind false xs f f' g g' p q = q

pub value_follows : (core : Core) (of : TypeId) (here : Here) (p : Primitive) (os : List Operand) → Follows (then_value core of here p os)
value_follows core of here p os xs f = either_behind (is_managed core of) xs _ _ _ _ (found_behind xs f.items _ _ _) (found_behind xs f.items _ _ _)

pub number_follows : (here : Here) (p : Primitive) (os : List Operand) → Follows (then_number here p os)
number_follows here p os xs f = found_behind xs f.items _ ready f.held

-- ---- what is found behind another

found_both : (setting : Setting) (old mid new : List Item) (g h : Found) (first : MeantFound) (goes_on : MeantFound → MeantFound) → Follows goes_on → Gives setting old mid g first → Gives setting mid new h (goes_on (found_view g)) → Gives setting old new h (goes_on first)
found_both setting old mid new g h first goes_on follows p q =
    let e : goes_on first ≡ behind first.items (goes_on (found_view g)) = ap goes_on (sym (whole first)) ∙ follows first.items (alone first) ∙ ap (λ f. behind first.items (goes_on f)) (sym p.is) in
    record {
      adds = q.adds ∙ ap (λ x. x & (goes_on (found_view g)).items) p.adds ∙ behind_behind (view_in setting old) first.items (goes_on (found_view g)).items ∙ ap (λ f. view_in setting old & f.items) (sym e);
      is = q.is ∙ ap alone (sym e);
    }

pub gives_both : (setting : Setting) (old mid new : List Item) (g : Found) (r : Result Found NoMemory) (first : MeantFound) (goes_on : MeantFound → MeantFound) → Follows goes_on → Gives setting old mid g first → IfOk r (λ h. Gives setting mid new h (goes_on (found_view g))) → IfOk r (λ h. Gives setting old new h (goes_on first))
gives_both setting old mid new g r first goes_on follows p q = map_ok r (λ h. found_both setting old mid new g h first goes_on follows p) q

-- actions by a temporary
pub acts_gives : (setting : Setting) (old mid new : List Item) (g : Found) (first : MeantFound) (more : ℕ → List Action) (t u : ℕ) → t ≡ u → Gives setting old mid g first → Adds setting mid new (acts (more t)) → Gives setting old new g (then_acts first (more u))
acts_gives setting old mid new g first more t u e p a = record {
  adds = a ∙ ap (λ x. x & acts (more t)) p.adds ∙ behind_behind (view_in setting old) first.items (acts (more t)) ∙ ap (λ n. view_in setting old & first.items & acts (more n)) e;
  is = p.is;
}

pub acts_follow : (more : List Action) → Follows (λ f. then_acts f more)
acts_follow more xs f = ap (λ x. record f { items = x }) (behind_behind xs f.items (acts more))

-- actions in front of it
pub acts_in_front : (setting : Setting) (old mid : List Item) (f : Found) (more : List Action) → Adds setting old mid (acts more) → Gives setting old mid f (then_acts (found_view f) more)
acts_in_front setting old mid f more a = record { adds = a; is = refl }

-- a step further
pub step_gives : (setting : Setting) (old new : List Item) (g : Found) (r : Result Found NoMemory) (first : MeantFound) (of : TypeId) (here : Here) (step : Step) (used : ℕ) → Gives setting old new g first → IfOk r (λ h. found_view h ≡ then_step of here step used (found_view g)) → IfOk r (λ h. Gives setting old new h (then_step of here step used first))
step_gives setting old new g r first of here step used p q = map_ok r (λ h e. record { adds = p.adds; is = e ∙ ap (then_step of here step used) p.is }) q

-- ---- functions

pub piece_follows : (core : Core) (of to : TypeId) (here : Here) (now : Now) → Follows (then_piece core of to here now)
piece_follows core of to here now xs f = value_follows core to here _ _ xs f

pub applied_follows : (env : Env) (function : Function) (checked : Bool) (of to : TypeId) (here : Here) → Follows (applied_to env function checked of to here)
applied_follows env Whole checked of to here xs f =
    let all : List Action = constant here.temp (pos 0) ∷ constant (here.temp + 1) (pos 2147483647) ∷ [] in
    ap (then_piece env.core of to here f.now) (acts_follow all xs f) ∙ piece_follows env.core of to here f.now xs (then_acts f all)
applied_follows env ClassName checked of to here xs f = value_follows env.core to here NameOfClass (operand_of of here f.now ∷ []) xs f
applied_follows env Length checked of to here xs f = acts_follow (applied env.core Length checked of here.temp) xs f
applied_follows env Low checked of to here xs f = acts_follow (applied env.core Low checked of here.temp) xs f
applied_follows env High checked of to here xs f = acts_follow (applied env.core High checked of here.temp) xs f
applied_follows env Ord checked of to here xs f = acts_follow (applied env.core Ord checked of here.temp) xs f
applied_follows env Succ checked of to here xs f = acts_follow (applied env.core Succ checked of here.temp) xs f
applied_follows env Pred checked of to here xs f = acts_follow (applied env.core Pred checked of here.temp) xs f
applied_follows env Abs checked of to here xs f = acts_follow (applied env.core Abs checked of here.temp) xs f
applied_follows env Sqr checked of to here xs f = acts_follow (applied env.core Sqr checked of here.temp) xs f
applied_follows env Odd checked of to here xs f = acts_follow (applied env.core Odd checked of here.temp) xs f
applied_follows env Assigned checked of to here xs f = acts_follow (applied env.core Assigned checked of here.temp) xs f
applied_follows env UpCase checked of to here xs f = acts_follow (applied env.core UpCase checked of here.temp) xs f
