-- A place is found where it is: its path begins with a variable.
use Rattle.std.proofs.Common.{◌≡◌, ℕ, Bool, true, false, Option, Some, refl, sym, ◌∙◌, subst}
use Rattle.std.specs.Prelude.{IsTrue}
use Rattle.std.proofs.lemmas.Bool.{false_from_ne_true}
use Rattle.std.specs.Cmp.{second_so}
use Rattle.op_core.specs.Expression.{Expression, expression, Root as Start, constant as fixed, variable, object, call, construct as constructed, set as bracketed, eof, eoln, Steps, no_steps, steps, Action as Doing, convert, bracket, field, index, method, prefixed, operate, is, apply, copy as copied}
use Rattle.op_core.specs.Sizes.{type_at}
use Rattle.op_core.specs.Typing.{Sees, AreSteps, Fits, IsAction, IsRoot, IsTyped, is_place, is_place_after, is_variable, leads_on}
use Rattle.op_core.specs.declared.constant.Const.{Const}
use Rattle.op_core.specs.declared.constant.Const.TheVariants.{Ordinal, Text, Set as SetOf, Nil as NilOf}
use Rattle.op_core.specs.declared.ids.TypeId.{TypeId}
use Rattle.op_core.specs.declared.program.Core.{Core}
use Rattle.op_core.specs.declared.types.CoreType.{CoreType}
use Rattle.op_core.specs.declared.types.CoreType.TheVariants.{Array, Class, DynamicArray, OpenArray, Record, String}
use Rattle.op_meaning.specs.Every.{EveryNode, is_text, root_nodes, steps_nodes, text_after}
use Rattle.op_meaning.specs.Expressions.{Found, Here, Now, a_text, at_path, find, find_root, find_step, find_steps, make, of_constant, past, past_whole, ready, then_index_by}
use Rattle.op_meaning.specs.Items.{Items}
use Rattle.op_typing.proofs.Founds.{env_at}
use Rattle.op_typing.proofs.Rows.{not_true}
use Rattle.op_typing.specs.Simple.{IsSimple, IsSimpleStep, IsSolidType, is_solid, simple_asks}

-- a place, and no value that was made
abbrev pub IsAt : Now → Type 0
IsAt (at_path p) = Unit {0}
IsAt ready = ⊥
IsAt (a_text bytes) = ⊥

-- only fields and elements lead to places
abbrev IsSelection : Doing → Type 0
IsSelection (field id) = Unit {0}
IsSelection (index e) = Unit {0}
IsSelection _ = ⊥

leads_tells : (chars : Bool) (o : Option CoreType) (action : Doing) (so_far : Bool) → leads_on chars o action so_far ≡ true → IsSelection action
leads_tells chars (Some (Class c)) (field f) so_far h = tt
leads_tells chars (Some (Record fields)) (field f) so_far h = tt
leads_tells chars (Some (Array at element)) (index i) so_far h = tt
leads_tells chars (Some (OpenArray element)) (index i) so_far h = tt
leads_tells chars (Some (DynamicArray element)) (index i) so_far h = tt
leads_tells chars (Some String) (index i) so_far h = tt
leads_tells chars o action so_far h = absurd (not_true h)

index_leads : (chars : Bool) (o : Option CoreType) (e : Expression) (so_far : Bool) → is_solid o ≡ true → leads_on chars o (index e) so_far ≡ true → so_far ≡ true
index_leads chars (Some (Array at element)) e so_far solid h = h
index_leads chars (Some (OpenArray element)) e so_far solid h = h
index_leads chars (Some (DynamicArray element)) e so_far solid h = absurd (not_true solid)
index_leads chars (Some String) e so_far solid h = second_so chars so_far h
index_leads chars _ e so_far solid h = absurd (not_true h)

text_leads : (chars : Bool) (o : Option CoreType) (e : Expression) (so_far : Bool) → o ≡ Some String → leads_on chars o (index e) so_far ≡ true → so_far ≡ true
text_leads chars o e so_far same h = second_so chars so_far (subst (λ o. leads_on chars o (index e) so_far ≡ true) same h)

index_at_by : (core : Core) (of : TypeId) (here : Here) (f : Found) (i : Items) (now : Now) → IsAt now → IsAt (then_index_by core of here f i now).now
index_at_by core of here f i (at_path p) h = tt
index_at_by core of here f i ready h = absurd h
index_at_by core of here f i (a_text bytes) h = absurd h

module _ (core : Core) (r : ℕ) (sees : Sees) where
  -- ---- a place is found where it is

  -- of a text that is written there, and of all else, whose type is solid
  abbrev IsReached : Bool → TypeId → Bool → Now → Type 0
  IsReached true of so_far now = (type_at core of ≡ Some String) × (so_far ≡ false)
  IsReached false of so_far now = IsSolidType core of × (so_far ≡ true → IsAt now)

  constant_reached : (c : Const) (nodes words : ℕ) (of : TypeId) (now : Now) → Fits core c of → EveryNode (simple_asks core) (root_nodes (fixed c nodes words) of) → IsReached (is_text (fixed c nodes words)) of false now
  constant_reached (Text bytes) nodes words of now h s = (h, refl)
  constant_reached (Ordinal n) nodes words of now h s = (s, λ e. absurd (not_true e))
  constant_reached (SetOf es) nodes words of now h s = (s, λ e. absurd (not_true e))
  constant_reached NilOf nodes words of now h s = (s, λ e. absurd (not_true e))

  root_reached : (root : Start) (here : Here) (of : TypeId) → IsRoot core sees root of → EveryNode (simple_asks core) (root_nodes root of) → IsReached (is_text root) of (is_variable root) (find_root (env_at core r) here of root).now
  root_reached (fixed c nodes words) here of h s = constant_reached c nodes words of (of_constant c here.temp).now h s
  root_reached (variable id) here of h s = (s, λ e. tt)
  root_reached (object id) here of h s = (s, λ e. absurd (not_true e))
  root_reached (call id given) here of h s = (s.0, λ e. absurd (not_true e))
  root_reached (constructed k id given) here of h s = absurd s
  root_reached (bracketed es) here of h s = (s.0, λ e. absurd (not_true e))
  root_reached eof here of h s = (s, λ e. absurd (not_true e))
  root_reached eoln here of h s = (s, λ e. absurd (not_true e))

  step_reached : (chars : Bool) (action : Doing) (here : Here) (text : Bool) (of next : TypeId) (so_far : Bool) (f : Found) → IsAction core sees of action next → IsSimpleStep core text action next → IsReached text of so_far f.now → IsReached (text_after text action) next (leads_on chars (type_at core of) action so_far) (find_step (env_at core r) here of action next f).now
  step_reached chars (convert c origin) here false of next so_far f h s k = (s, λ e. absurd (leads_tells chars (type_at core of) (convert c origin) so_far e))
  step_reached chars bracket here false of next so_far f h s k = (s, λ e. absurd (leads_tells chars (type_at core of) bracket so_far e))
  step_reached chars (field id) here false of next so_far f h s k = (s, λ e. tt)
  step_reached chars (index e) here false of next so_far f h s k = (s.1, λ leads. index_at_by core of here f (make (env_at core r) (past f.used (past_whole here)) e).items f.now (k.1 (index_leads chars (type_at core of) e so_far k.0 leads)))
  step_reached chars (method id dispatch given) here false of next so_far f h s k = absurd s
  step_reached chars (prefixed o checked) here false of next so_far f h s k = (s, λ e. absurd (leads_tells chars (type_at core of) (prefixed o checked) so_far e))
  step_reached chars (operate o checked e) here false of next so_far f h s k = (s.1, λ leads. absurd (leads_tells chars (type_at core of) (operate o checked e) so_far leads))
  step_reached chars (is to) here false of next so_far f h s k = (s, λ e. absurd (leads_tells chars (type_at core of) (is to) so_far e))
  step_reached chars (apply function checked) here false of next so_far f h s k = (s, λ e. absurd (leads_tells chars (type_at core of) (apply function checked) so_far e))
  step_reached chars (copied e e') here false of next so_far f h s k = (s, λ leads. absurd (leads_tells chars (type_at core of) (copied e e') so_far leads))
  step_reached chars bracket here true of next so_far f h s k = (subst (λ of. type_at core of ≡ Some String) h k.0, false_from_ne_true (leads_on chars (type_at core of) bracket so_far) (leads_tells chars (type_at core of) bracket so_far))
  step_reached chars (index e) here true of next so_far f h s k = (s.1, λ leads. absurd (not_true (sym k.1 ∙ text_leads chars (type_at core of) e so_far k.0 leads)))
  step_reached chars (apply function checked) here true of next so_far f h s k = (s.1, λ e. absurd (leads_tells chars (type_at core of) (apply function checked) so_far e))
  step_reached chars _ here true of next so_far f h s k = absurd s

  end_reached : (text : Bool) (of : TypeId) (so_far : Bool) (now : Now) → IsReached text of so_far now → so_far ≡ true → IsAt now
  end_reached true of so_far now k e = absurd (not_true (sym k.1 ∙ e))
  end_reached false of so_far now k e = k.1 e

  steps_reached : (chars : Bool) (ss : Steps) (here : Here) (text : Bool) (of : TypeId) (so_far : Bool) (f : Found) → AreSteps core sees of ss → EveryNode (simple_asks core) (steps_nodes text ss) → IsReached text of so_far f.now → is_place_after chars core of ss so_far ≡ true → IsAt (find_steps (env_at core r) here of ss f).now
  steps_reached chars no_steps here text of so_far f h s k leads = end_reached text of so_far f.now k leads
  steps_reached chars (steps action next others) here text of so_far f h s k leads =
      steps_reached chars others here (text_after text action) next (leads_on chars (type_at core of) action so_far) (find_step (env_at core r) here of action next f) h.1 s.1 (step_reached chars action here text of next so_far f h.0 s.0 k) leads

  pub place_at : (chars : Bool) (e : Expression) (here : Here) → IsTyped core sees e → IsSimple core e → IsTrue (is_place chars core e) → IsAt (find (env_at core r) here e).now
  place_at chars (expression root of others) here h s leads = steps_reached chars others here (is_text root) of (is_variable root) (find_root (env_at core r) here of root) h.1 s.1 (root_reached root here of h.0 s.0) leads
