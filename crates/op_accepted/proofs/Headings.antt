-- Headings have solid types and few parameters, and leave fit states.
use Rattle.std.proofs.Common.{◌<◌, ◌≤◌, Bool, true, false, List, [], ◌∷◌, All, IfSome, length, length-append, nat_lt, Option, Some, None, arith}
use Rattle.std.proofs.lemmas.Bool.{ltb-true}
use Rattle.std.proofs.lemmas.List.Elements.{All-nil, All-push}
use Rattle.op_accepted.proofs.Denoting.{MaySolid, denoted_fits, may_solid_on}
use Rattle.op_accepted.proofs.Grown.{all_solid_on}
use Rattle.op_accepted.proofs.StateParts.{keeps_behind, keeps_checked, keeps_followed, keeps_gather, keeps_gives, keeps_here, keeps_if, keeps_silent}
use Rattle.op_accepted.proofs.Parts.{fits_silent}
use Rattle.op_accepted.proofs.Rows.{parametered_fit, parametered_later}
use Rattle.op_accepted.proofs.TypeRows.{IsSolid, type_named_fits}
use Rattle.op_accepted.specs.Fit.{none, some}
use Rattle.op_accepted.specs.State.{AreTreesFit, IsFitState, Keeps, faulty}
use Rattle.op_check_unit.specs.Headings.{head_by, head_means, is_taken, most_parameters, no_parameters, one_parameter, own_name, parameter_group, parameter_type, result_means, some_parameters, with_parameter}
use Rattle.op_check_unit.specs.Steps.{Here}
use Rattle.op_check_unit.specs.declared.heading.Head.{Head}
use Rattle.op_check_unit.specs.declared.heading.ParameterRows.{ParameterRows}
use Rattle.op_core.specs.Faults.{here}
use Rattle.op_core.specs.Growing.{IsFrontOf}
use Rattle.op_core.specs.declared.ids.TypeId.{TypeId}
use Rattle.op_core.specs.declared.program.Core.{Core}
use Rattle.op_judgement.specs.Judgement.{fault}
use Rattle.op_judgement.specs.declared.rules.LanguageRule.TheVariants.{DeclaredTwice, TooManyParameters}
use Rattle.op_judgement.specs.Steps.{by, done, followed, gather, gives}
use Rattle.op_tree.specs.Declaration.{Heading}
use Rattle.op_tree.specs.Denoter.{Denoter}
use Rattle.op_tree.specs.declared.heading.Parameter.{Parameter}
use Rattle.op_tree.specs.declared.heading.ParameterMode.{ParameterMode}
use Rattle.op_tree.specs.declared.heading.ParameterType.{ParameterType}
use Rattle.op_tree.specs.declared.heading.ParameterType.TheVariants.{Named, String}
use Rattle.op_tree.specs.declared.heading.RoutineKind.{RoutineKind}
use Rattle.op_tree.specs.declared.position.Name.{Name}
use Rattle.op_types.specs.Names.{Named as Seen}
use Rattle.op_typing.specs.Simple.{IsSolidType}

-- ---- parameters

-- each row is of a name that was seen
record AreFitParameters (r : ParameterRows) (core : Core) : Type 0 where
  solid : All (λ p. IsSolidType core p.of) r.rows
  counted : length r.rows ≤ length r.seen
  few : length r.seen ≤ 64

parameters_on : (old new : Core) (r : ParameterRows) → IsFrontOf old.types new.types → AreFitParameters r old → AreFitParameters r new
parameters_on old new r f a = record { solid = all_solid_on (λ p. p.of) old new f r.rows a.solid; counted = a.counted; few = a.few }

with_parameter_fits : (core : Core) (mode : ParameterMode) {t : Option TypeId} (n : Name) (r : ParameterRows) → MaySolid t core → length r.seen < 64 → AreFitParameters r core → AreFitParameters (with_parameter mode t n r) core
with_parameter_fits core mode n r none lt a =
    let c = a.counted in
    let l = length-append {A = Seen} r.seen in record { solid = a.solid; counted = omega (arith, c, l); few = omega (arith, lt, l) }
with_parameter_fits core mode n r (some of h) lt a =
    let c = a.counted in
    let l = length-append {A = Seen} r.seen in
    let m = length-append r.rows in record { solid = All-push (λ p. IsSolidType core p.of) r.rows _ a.solid h; counted = omega (arith, c, l, m); few = omega (arith, lt, l) }

parameter_fits : (own : Option Name) (mode : ParameterMode) {t : Option TypeId} (n : Name) (r : ParameterRows) (h : Here) → IsFitState h → MaySolid t h.core → AreFitParameters r h.core → Keeps AreFitParameters h.core (done (one_parameter own mode t n r h))
parameter_fits own mode n r h x f a =
    keeps_if (is_taken own r n) (λ e. faulty (fault DeclaredTwice n.position.place) here)
    (λ e. keeps_if (nat_lt (length r.seen) most_parameters) (λ e. keeps_here x (with_parameter_fits h.core mode n r f (ltb-true (length r.seen) most_parameters e) a)) (λ e. faulty (fault TooManyParameters n.position.place) here))

some_parameters_fit : (own : Option Name) (mode : ParameterMode) {t : Option TypeId} (ns : List Name) (r : ParameterRows) (h : Here) → IsFitState h → MaySolid t h.core → AreFitParameters r h.core → Keeps AreFitParameters h.core (done (some_parameters own mode t ns r h))
some_parameters_fit own mode [] r h x f a = keeps_here x a
some_parameters_fit own mode {t} (n ∷ ns) r h x f a =
    keeps_behind (gather (one_parameter own mode t) ns) (parameter_fits own mode n r h x f a) (λ q i y l b. some_parameters_fit own mode ns q i y (may_solid_on h.core i.core l.types f) b)

type_by_fits : (array : Bool) (t : ParameterType) (p : Parameter) (h : Here) → IsFitState h → Keeps IsSolid h.core (done (parameter_type (record p { open_array = array; of = t }) h))
type_by_fits true t p h x = keeps_checked {P = IsSolid} x fits_silent
type_by_fits false (String q) p h x = keeps_checked {P = IsSolid} x fits_silent
type_by_fits false (Named q) p h x = keeps_checked x (type_named_fits h.core h.names x.names None false q)

group_fits : (own : Option Name) (p : Parameter) (r : ParameterRows) (h : Here) → IsFitState h → AreFitParameters r h.core → Keeps AreFitParameters h.core (done (parameter_group own p r h))
group_fits own p r h x a =
    keeps_followed (λ t h. some_parameters own p.mode t p.names r h) (type_by_fits p.open_array p.of p h x) (λ t i y l f. some_parameters_fit own p.mode p.names r i y f (parameters_on h.core i.core r l.types a))

-- ---- headings

abbrev pub IsFitResult : Option TypeId → Core → Type 0
IsFitResult of core = IfSome of (IsSolidType core)

abbrev pub IsFitHead : Head → Core → Type 0
IsFitHead x core = (x.parameters.count ≤ 64) × IsFitResult x.result core

module _ (known : AreTreesFit) where
  result_fits : (d : Option Denoter) (h : Here) → IsFitState h → Keeps IsFitResult h.core (done (result_means d h))
  result_fits None h x = keeps_here x tt
  result_fits (Some d) h x = keeps_behind (λ t h. gives (Some t) h) (denoted_fits known None false d h x) (λ t i y l f. keeps_here y f)

  head_by_fits : (kind : RoutineKind) (of : Option TypeId) (r : ParameterRows) (h : Here) → IsFitState h → AreFitParameters r h.core → IsFitResult of h.core → Keeps IsFitHead h.core (done (head_by kind of r h))
  head_by_fits kind of r h x a f =
      keeps_if r.whole
      (λ e. let c = a.counted in let m = a.few in keeps_gives (parametered_fit known h.core h.names h.bodies h.first_values r.rows x a.solid) (parametered_later h.core r.rows) (omega (arith, c, m), f))
      (λ e. keeps_silent x)

  pub head_fits : (x : Heading) (h : Here) → IsFitState h → Keeps IsFitHead h.core (done (head_means x h))
  head_fits x h y =
      keeps_behind (λ r h. followed (result_means x.result h) (by (λ t h. head_by x.kind t r h)))
      (keeps_gather AreFitParameters (parameter_group (own_name x.kind x.name)) (group_fits (own_name x.kind x.name)) x.parameters no_parameters h y (record { solid = All-nil (λ p. IsSolidType h.core p.of); counted = omega arith; few = omega arith }))
      (λ r i z l a. keeps_behind (λ t h. head_by x.kind t r h) (result_fits x.result i z) (λ t j w m f. head_by_fits x.kind t r j w (parameters_on i.core j.core r m.types a) f))
