-- A heading means one or breaks a rule, and leaves a settled state.
use Rattle.std.proofs.Common.{◌≡◌, ◌+◌, ◌≤◌, Bool, true, false, List, [], ◌∷◌, ◌++◌, All, IfSome, length, length-append, is_some, nat_lt, Option, Some, None, refl, sym, subst, arith}
use Rattle.std.proofs.lemmas.List.Elements.{All-nil, All-push, All-weaker}
use Rattle.std.specs.List.{list_any}
use Rattle.op_sound.proofs.Tables.{tabled_beside}
use Rattle.op_sound.proofs.Steps.{from_behind, from_checked, from_followed, from_gives, later_itself, lead_behind, leads, leads_on, same_variables, settled_typed, wider}
use Rattle.op_sound.proofs.Types.{IsType, behind_front, denoted_settled, from_if, type_named_whole}
use Rattle.op_sound.specs.Complete.{From, Later, Leads, Settled, Stage, faulty, scope}
use Rattle.op_check_unit.specs.Headings.{form_means, head_by, head_means, is_overload, is_plain, is_taken, most_parameters, no_parameters, one_parameter, own_name, parameter_group, parameter_type, result_means, some_parameters, with_parameter}
use Rattle.op_check_unit.specs.Steps.{Here}
use Rattle.op_check_unit.specs.Types.{in_core}
use Rattle.op_check_unit.specs.declared.heading.Head.{Head}
use Rattle.op_check_unit.specs.declared.heading.ParameterRows.{ParameterRows}
use Rattle.op_core.proofs.Growing.{front_itself, front_row}
use Rattle.op_core.specs.Faults.{here}
use Rattle.op_core.specs.Relations.{Filled, IsWhole, filled}
use Rattle.op_core.specs.Sound.{Fit, Row}
use Rattle.op_core.specs.declared.ids.TypeId.{TypeId}
use Rattle.op_core.specs.declared.program.Core.{Core}
use Rattle.op_judgement.proofs.Completing.{whole_fine, whole_if, whole_rule, whole_tested}
use Rattle.op_judgement.specs.Judgement.{checked, fault}
use Rattle.op_judgement.specs.declared.rules.LanguageRule.TheVariants.{DeclaredTwice, TooManyParameters, WrongKindOfName}
use Rattle.op_judgement.specs.Steps.{Step, by, done, followed, gather, gives}
use Rattle.op_tree.specs.Declaration.{Heading}
use Rattle.op_tree.specs.Denoter.{Denoter}
use Rattle.op_tree.specs.declared.heading.Directive.{Directive}
use Rattle.op_tree.specs.declared.heading.Parameter.{Parameter}
use Rattle.op_tree.specs.declared.heading.ParameterMode.{ParameterMode}
use Rattle.op_tree.specs.declared.heading.ParameterType.{ParameterType}
use Rattle.op_tree.specs.declared.heading.ParameterType.TheVariants.{Named, String}
use Rattle.op_tree.specs.declared.heading.RoutineKind.{RoutineKind}
use Rattle.op_tree.specs.declared.position.Name.{Name}

pub form_whole : (x : Heading) (ds : List Directive) → IsWhole (checked (form_means x ds))
form_whole x ds = whole_if (list_any is_overload ds) whole_rule (whole_tested WrongKindOfName x.name.position.place (is_plain x.kind (is_some x.result)) (λ _. whole_fine))

-- ---- parameters

abbrev AreParameters : ParameterRows → Core → Type 0
AreParameters r core = (r.whole ≡ true) × All (λ p. Row core.types p.of.0) r.rows

with_parameter_whole : {t : Option TypeId} (core : Core) (mode : ParameterMode) (n : Name) (r : ParameterRows) → Filled (λ of. IsType of core) t → AreParameters r core → AreParameters (with_parameter mode t n r) core
with_parameter_whole core mode n r (filled of q) a = (a.0, All-push (λ p. Row core.types p.of.0) r.rows _ a.1 q)

-- what stays in a state
abbrev Stays : {A : Type 0} → (A → Core → Type 0) → Here → A → Here → Type 0
Stays P h a i = (i ≡ h) × P a h.core

gather_stays : {A B : Type 0} (P : B → Core → Type 0) (h : Here) (f : A → B → Here → Step Here B) → ((a : A) (b : B) → P b h.core → From (Stays P h) (done (f a b h))) → (as_ : List A) (b : B) → P b h.core → From (Stays P h) (done (gather f as_ b h))
gather_stays P h f k [] b p = from_gives (refl, p)
gather_stays P h f k (a ∷ as_) b p = from_behind (gather f as_) (k a b p) (λ c i q. subst (λ i. From (Stays P h) (done (gather f as_ c i))) (sym q.0) (gather_stays P h f k as_ c q.1))

parameter_settled : {t : Option TypeId} (own : Option Name) (mode : ParameterMode) (h : Here) → Filled (λ of. IsType of h.core) t → (n : Name) (r : ParameterRows) → AreParameters r h.core → From (Stays AreParameters h) (done (one_parameter own mode t n r h))
parameter_settled own mode h f n r a =
    from_if (is_taken own r n) (λ e. faulty (fault DeclaredTwice n.position.place) here)
    (λ e. from_if (nat_lt (length r.seen) most_parameters) (λ e. from_gives (refl, with_parameter_whole h.core mode n r f a)) (λ e. faulty (fault TooManyParameters n.position.place) here))

type_by_settled : {s : Stage} (array : Bool) (t : ParameterType) (p : Parameter) (h : Here) → Settled s h → From (Stays IsType h) (done (parameter_type (record p { open_array = array; of = t }) h))
type_by_settled true t p h x = from_checked {P = λ of. IsType of h.core} whole_rule (λ of q. (refl, q))
type_by_settled false (String q) p h x = from_checked {P = λ of. IsType of h.core} whole_rule (λ of q. (refl, q))
type_by_settled {s} false (Named q) p h x = from_checked (type_named_whole h.core (scope s.around.apart s.inside h.core) h.names x.names None false q) (λ of q. (refl, q))

group_settled : {s : Stage} (own : Option Name) (h : Here) → Settled s h → (p : Parameter) (r : ParameterRows) → AreParameters r h.core → From (Stays AreParameters h) (done (parameter_group own p r h))
group_settled own h x p r a = from_followed (λ t h. some_parameters own p.mode t p.names r h) (type_by_settled p.open_array p.of p h x) (λ t i f. one i f)
  where
    one : {t : Option TypeId} (i : Here) → Filled (λ of. Stays IsType h of i) t → From (Stays AreParameters h) (done (some_parameters own p.mode t p.names r i))
    one i (filled of q) = subst (λ i. From (Stays AreParameters h) (done (some_parameters own p.mode (Some of) p.names r i))) (sym q.0) (gather_stays AreParameters h (one_parameter own p.mode (Some of)) (parameter_settled own p.mode h (filled of q.1)) p.names r a)

-- ---- headings

abbrev pub IsResult : Option TypeId → Core → Type 0
IsResult of core = IfSome of (λ of. Row core.types of.0)

-- it has rows of parameters, and gives what there is
abbrev pub IsHead : Head → Core → Type 0
IsHead x core = Fit core.parameters x.parameters × IsResult x.result core

result_settled : {s : Stage} (d : Option Denoter) (h : Here) → Settled s h → From (Leads s h IsResult) (done (result_means d h))
result_settled None h x = from_gives (leads x later_itself tt)
result_settled (Some d) h x = lead_behind {P = IsType} (λ t h. gives (Some t) h) (denoted_settled None false d h x) (λ t i y l q. from_gives (leads y l q))

head_by_settled : {s : Stage} (kind : RoutineKind) (of : Option TypeId) (r : ParameterRows) (h : Here) → AreParameters r h.core → IsResult of h.core → Settled s h → From (Leads s h IsHead) (done (head_by kind of r h))
head_by_settled {s} kind of r h a q x = from_if r.whole (λ e. from_gives (leads y later (fit, q))) (λ e. let w = a.0 in absurd (cc))
  where
    wide : Core
    wide = record h.core { parameters = h.core.parameters ++ r.rows }

    y : Settled s (in_core wide h)
    y = settled_typed wide r.rows x (wider x (front_itself h.core.types) (front_itself h.core.extents) (front_itself h.core.fields) (behind_front h.core.parameters r.rows) (front_itself h.core.variables) (front_itself h.core.globals) (front_itself h.core.routines) (refl, refl, refl, refl, refl) (omega arith)) (tabled_beside _ _ _ _ _ x.tables) refl a.1 refl refl refl refl

    later : Later h.core wide
    later = record { types = front_itself h.core.types; parameters = behind_front h.core.parameters r.rows; variables = same_variables; globals = front_itself h.core.globals; routines = refl }

    fit : length h.core.parameters + length r.rows ≤ length (h.core.parameters ++ r.rows)
    fit = let l = length-append h.core.parameters r.rows in omega (arith, l)

pub head_settled : {s : Stage} (x : Heading) (h : Here) → Settled s h → From (Leads s h IsHead) (done (head_means x h))
head_settled {s} x h y =
    from_behind (λ r h. followed (result_means x.result h) (by (λ t h. head_by x.kind t r h)))
    (gather_stays AreParameters h (parameter_group (own_name x.kind x.name)) (group_settled (own_name x.kind x.name) h y) x.parameters no_parameters (refl, All-nil (λ p. Row h.core.types p.of.0)))
    (λ r i w. subst (λ i. From (Leads s h IsHead) (done (followed (result_means x.result i) (by (λ t h. head_by x.kind t r h))))) (sym w.0)
    (lead_behind {P = IsResult} (λ t h. head_by x.kind t r h) (result_settled x.result h y) (λ t j z l q. leads_on l (head_by_settled x.kind t r j (w.1.0, All-weaker (λ p. Row h.core.types p.of.0) (λ p. Row j.core.types p.of.0) (λ p b. front_row l.types b) r.rows w.1.1) q z))))
