-- Declarations of types, constants and variables leave fit states.
use Rattle.std.proofs.Common.{◌≡◌, inl, ℕ, ◌+◌, nat_le, true, false, ◌||◌, List, [], ◌∷◌, ◌++◌, length, is_some, Option, Some, None, refl, slice_get}
use Rattle.std.proofs.lemmas.List.Elements.{All-cons, All-nil}
use Rattle.op_accepted.proofs.Denoting.{MaySolid, denoted_fits}
use Rattle.op_accepted.proofs.Grown.{later_itself, solid_on}
use Rattle.op_accepted.proofs.StateParts.{Nothing, keeps_after, keeps_breaks, keeps_checked, keeps_each, keeps_followed, keeps_from, keeps_gives, keeps_here, keeps_then, keeps_where}
use Rattle.op_accepted.proofs.Parts.{fits_silent}
use Rattle.op_accepted.proofs.Rows.{valued_fit, variabled, variabled_fit, variabled_later}
use Rattle.op_accepted.proofs.TypeRows.{IsSolid, declared_fits}
use Rattle.op_accepted.specs.Fit.{IfAny, IsFitConstant, none, some}
use Rattle.op_accepted.specs.State.{AreTreesFit, IsFit, IsFitState, IsLater, IsPlainRow, Keeps}
use Rattle.op_check_unit.specs.Declaring.{constant_by, constant_declared, constant_meaning, constants_declared, defined, globals_fit, most_global_bytes, names_declared, next_variable, one_type_declared, row_entered, rows_entered, type_declared, type_meaning, typed_declared, types_declared, value_means, variable_meaning, variables_declared, variables_named, with_first, with_row}
use Rattle.op_check_unit.specs.Initials.{first}
use Rattle.op_check_unit.specs.Naming.{all_ahead, declared, ended, with_ahead}
use Rattle.op_check_unit.specs.Steps.{Here}
use Rattle.op_core.proofs.Growing.{some_and}
use Rattle.op_core.specs.Faults.{none as no_faults}
use Rattle.op_core.specs.Initial.{FirstValue}
use Rattle.op_core.specs.declared.ids.TypeId.{TypeId}
use Rattle.op_core.specs.declared.ids.VariableId.{VariableId}
use Rattle.op_core.specs.declared.program.Core.{Core}
use Rattle.op_core.specs.declared.routine.Role.{Role}
use Rattle.op_core.specs.declared.routine.Role.TheVariants.{Plain, Constant}
use Rattle.op_core.specs.declared.routine.Variable.{Variable as VariableRow}
use Rattle.op_judgement.specs.Judgement.{checked}
use Rattle.op_judgement.specs.declared.rules.LanguageRule.TheVariants.{GlobalsTooLarge}
use Rattle.op_judgement.specs.Steps.{done, each}
use Rattle.op_meaning.specs.Shapes.{is_reference}
use Rattle.op_plain.specs.Plain.{is_plain_role}
use Rattle.op_tree.specs.Declaration.{Constant as ConstantTree, TypeDeclaration, TypeDefinition, Variables, class, denotes, forward_class, forward_interface, interface}
use Rattle.op_tree.specs.Denoter.{Denoter}
use Rattle.op_tree.specs.Initial.{Initial, value, list, record_}
use Rattle.op_tree.specs.declared.position.Name.{Name}
use Rattle.op_types.specs.declared.constant.Constant.{Constant as Value}
use Rattle.op_types.specs.declared.visible.Meaning.TheVariants.{Constant as ConstantNamed, Spoiled, Variable}
use Rattle.op_typing.specs.Simple.{IsSolidType}

-- ---- names that stand in front

pub ahead_fits : (ns : List Name) (h : Here) → IsFitState h → IsFitState (all_ahead ns h) × IsLater h.core (all_ahead ns h).core
ahead_fits [] h x = (x, later_itself)
ahead_fits (n ∷ ns) h x = ahead_fits ns (with_ahead n h) x

-- ---- rows of variables

-- of variables and typed constants
record IsOfBlock (role : Role) : Type 0 where
  plain : is_plain_role role ≡ true
  itself : is_reference role ≡ false

plain_of_block : IsOfBlock Plain
plain_of_block = record { plain = refl; itself = refl }

constant_of_block : IsOfBlock Constant
constant_of_block = record { plain = refl; itself = refl }

pub last_row : {A : Type 0} (xs : List A) (y : A) → slice_get (xs ++ y ∷ []) (length xs) ≡ Some y
last_row [] y = refl
last_row (x ∷ xs) y = last_row xs y

module _ (known : AreTreesFit) where
  -- ---- types

  defined_fits : (own : Name) (d : TypeDefinition) (h : Here) → IsFitState h → Keeps IsSolid h.core (done (defined own d h))
  defined_fits own (denotes t) h x = denoted_fits known (Some own) false t h x
  defined_fits own forward_class h x = keeps_checked {P = IsSolid} x fits_silent
  defined_fits own (class c) h x = keeps_checked {P = IsSolid} x fits_silent
  defined_fits own (forward_interface i) h x = keeps_checked {P = IsSolid} x fits_silent
  defined_fits own (interface i) h x = keeps_checked {P = IsSolid} x fits_silent

  type_fits : (d : TypeDeclaration) (h : Here) → IsFitState h → Keeps Nothing h.core (done (type_declared d h))
  type_fits d h x = keeps_followed (λ t h. declared d.name (type_meaning t) (ended h)) (defined_fits d.name d.definition (with_ahead d.name h) x) (λ t i y l f. one i y f)
    where
      one : {t : Option TypeId} (i : Here) → IsFitState i → MaySolid t i.core → Keeps Nothing i.core (done (declared d.name (type_meaning t) (ended i)))
      one i y none = declared_fits d.name (type_meaning None) (ended i) y tt
      one i y (some of f) = declared_fits d.name (type_meaning (Some of)) (ended i) y (inl f)

  pub types_fit : (ds : List TypeDeclaration) (h : Here) → IsFitState h → Keeps Nothing h.core (done (types_declared ds h))
  types_fit ds h x = keeps_each type_declared type_fits ds h x

  -- ---- rows of variables

  begun_fits : (role : Role) (of : TypeId) (n : Name) (v : Option FirstValue) (h : Here) → IsOfBlock role → IsFitState h → IsSolidType h.core of → Keeps Nothing h.core (done (globals_fit n.position.place (with_row role of n (with_first v h))))
  begun_fits role of n v h b x f = go v
    where
      new : VariableRow
      new = record { name = n; of = of; role = role; first_value = None }

      globals : List VariableId
      globals = (with_row role of n h).core.globals

      state : IsFit (variabled h.core (new ∷ []) globals) h.names h.bodies h.first_values
      state = variabled_fit known h.core h.names h.bodies h.first_values (new ∷ []) globals x (All-cons (λ v. IsSolidType h.core v.of) new [] f (All-nil (λ v. IsSolidType h.core v.of))) (All-cons IsPlainRow new [] (record { role = b.plain; bare = refl }) (All-nil IsPlainRow))

      go : (v : Option FirstValue) → Keeps Nothing h.core (done (globals_fit n.position.place (with_row role of n (with_first v h))))
      go None = keeps_where (is_some h.routine || nat_le (with_row role of n h).bytes most_global_bytes) GlobalsTooLarge n.position.place (with_row role of n h) (λ e. keeps_gives state (variabled_later h.core (new ∷ []) globals) tt)
      go (Some v) =
          keeps_where (is_some h.routine || nat_le (with_row role of n h).bytes most_global_bytes) GlobalsTooLarge n.position.place (with_row role of n (with_first (Some v) h))
          (λ e. keeps_gives (valued_fit (next_variable h, v) state (some_and (λ v. is_reference v.role ≡ false) (last_row h.core.variables new) b.itself)) (variabled_later h.core (new ∷ []) globals) tt)

  row_fits : (role : Role) (of : TypeId) (i : Option Initial) (n : Name) (h : Here) → IsOfBlock role → IsFitState h → IsSolidType h.core of → Keeps Nothing h.core (done (row_entered role of i n h))
  row_fits role of None n h b x f = keeps_after no_faults (done (globals_fit n.position.place (with_row role of n (with_first None h)))) (begun_fits role of n None h b x f)
  row_fits role of (Some i) n h b x f = keeps_after (checked (first h.core h.names of i)).faults (done (globals_fit n.position.place (with_row role of n (with_first (checked (first h.core h.names of i)).typed h)))) (begun_fits role of n (checked (first h.core h.names of i)).typed h b x f)

  -- ---- constants

  abbrev IsFitValue : Value → Core → Type 0
  IsFitValue c core = IsFitConstant core c.value c.of

  value_fits : (i : Initial) (h : Here) → IsFitState h → Keeps IsFitValue h.core (done (value_means i h))
  value_fits (value e) h x = keeps_checked x (known.constant h.core h.names x.tables x.names e)
  value_fits (list p items) h x = keeps_breaks
  value_fits (record_ p fields) h x = keeps_breaks

  typed_fits : {t : Option TypeId} (i : Initial) (n : Name) (h : Here) → IsFitState h → MaySolid t h.core → Keeps Nothing h.core (done (typed_declared t i n h))
  typed_fits i n h x none = declared_fits n Spoiled h x tt
  typed_fits i n h x (some of f) =
      keeps_then (declared n (Variable (next_variable h) false)) (row_fits Constant of (Some i) n h constant_of_block x f) (λ g y l. declared_fits n (Variable (next_variable h) false) g y tt)

  constant_by_fits : (d : Option Denoter) (i : Initial) (n : Name) (h : Here) → IsFitState h → Keeps Nothing h.core (done (constant_by d i n h))
  constant_by_fits None i n h x = keeps_followed (λ c h. declared n (constant_meaning c) h) (value_fits i h x) (λ c g y l f. one g y f)
    where
      one : {c : Option Value} (g : Here) → IsFitState g → IfAny (λ c. IsFitConstant g.core c.value c.of) c → Keeps Nothing g.core (done (declared n (constant_meaning c) g))
      one g y none = declared_fits n Spoiled g y tt
      one g y (some c f) = declared_fits n (ConstantNamed c) g y f
  constant_by_fits (Some t) i n h x =
      keeps_followed (λ t h. typed_declared t i n (ended h)) (denoted_fits known None false t (with_ahead n h) x) (λ t g y l f. typed_fits i n (ended g) y f)

  constant_fits : (d : ConstantTree) (h : Here) → IsFitState h → Keeps Nothing h.core (done (constant_declared d h))
  constant_fits d h x = constant_by_fits d.denoter d.value d.name h x

  pub constants_fit : (ds : List ConstantTree) (h : Here) → IsFitState h → Keeps Nothing h.core (done (constants_declared ds h))
  constants_fit ds h x = keeps_each constant_declared constant_fits ds h x

  -- ---- variables

  each_row_fits : (of : TypeId) (i : Option Initial) (ns : List Name) (h : Here) → IsFitState h → IsSolidType h.core of → Keeps Nothing h.core (done (each (row_entered Plain of i) ns h))
  each_row_fits of i [] h x f = keeps_here x tt
  each_row_fits of i (n ∷ ns) h x f = keeps_then (each (row_entered Plain of i) ns) (row_fits Plain of i n h plain_of_block x f) (λ g y l. each_row_fits of i ns g y (solid_on h.core g.core l.types of f))

  rows_fit : {t : Option TypeId} (i : Option Initial) (ns : List Name) (h : Here) → IsFitState h → MaySolid t h.core → Keeps Nothing h.core (done (rows_entered t i ns h))
  rows_fit i ns h x none = keeps_here x tt
  rows_fit i ns h x (some of f) = each_row_fits of i ns h x f

  variable_fits : (t : Option TypeId) (k : ℕ) (n : Name) (h : Here) → IsFitState h → Keeps Nothing h.core (done (declared n (variable_meaning t k) h))
  variable_fits None k n h x = declared_fits n Spoiled h x tt
  variable_fits (Some of) k n h x = declared_fits n (Variable (record { 0 = k }) true) h x tt

  named_fit : (t : Option TypeId) (k : ℕ) (ns : List Name) (h : Here) → IsFitState h → Keeps Nothing h.core (done (variables_named t k ns h))
  named_fit t k [] h x = keeps_here x tt
  named_fit t k (n ∷ ns) h x = keeps_then (variables_named t (k + 1) ns) (variable_fits t k n h x) (λ g y l. named_fit t (k + 1) ns g y)

  one_type_fits : (v : Variables) (h : Here) → IsFitState h → Keeps Nothing h.core (done (one_type_declared v h))
  one_type_fits v h x =
      let a = ahead_fits v.names h x in
      keeps_from a.1
      (keeps_followed (λ t h. names_declared t v.value v.names (ended h)) (denoted_fits known None false v.denoter (all_ahead v.names h) a.0)
      (λ t i y l f. keeps_then (variables_named t (length i.core.variables) v.names) (rows_fit v.value v.names (ended i) y f) (λ g z m. named_fit t (length i.core.variables) v.names g z)))

  pub variables_fit : (vs : List Variables) (h : Here) → IsFitState h → Keeps Nothing h.core (done (variables_declared vs h))
  variables_fit vs h x = keeps_each one_type_declared one_type_fits vs h x
