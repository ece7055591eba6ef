-- Headings of routines (Free Pascal Reference Guide, "Procedures and functions").
use Rattle.std.specs.Prelude.{ℕ, Bool, true, false, not, ◌||◌, nat_lt, List, [], ◌∷◌, ◌++◌, length, is_some, codes, Option, Some, None}
use Rattle.std.specs.List.{list_any}
use Rattle.std.specs.Str.{str_eq_ignore_ascii_case}
use Rattle.op_base.specs.declared.place.Place.{Place}
use Rattle.op_check_unit.specs.Denoting.{denoted}
use Rattle.op_check_unit.specs.Naming.{is_name, type_named}
use Rattle.op_check_unit.specs.Records.{seen_too}
use Rattle.op_check_unit.specs.Steps.{Here}
use Rattle.op_check_unit.specs.Types.{in_core, string_means}
use Rattle.op_check_unit.specs.declared.heading.Head.{Head}
use Rattle.op_check_unit.specs.declared.heading.ParameterRows.{ParameterRows}
use Rattle.op_core.specs.declared.ids.TypeId.{TypeId}
use Rattle.op_judgement.specs.Judgement.{Judgement, by_test, fine, refused, when as judged_when}
use Rattle.op_judgement.specs.declared.rules.Feature.TheVariants.{DynamicArrays, Overloads}
use Rattle.op_judgement.specs.declared.rules.LanguageRule.TheVariants.{DeclaredTwice, NotInProfile, TooManyParameters, WrongKindOfName}
use Rattle.op_judgement.specs.Steps.{Step, followed, gather, gives, judged, onward, silent, unchanged, when}
use Rattle.op_tree.specs.Declaration.{Heading}
use Rattle.op_tree.specs.Denoter.{Denoter}
use Rattle.op_tree.specs.declared.heading.Directive.{Directive}
use Rattle.op_tree.specs.declared.heading.Directive.TheVariants.{Overload}
use Rattle.op_tree.specs.declared.heading.Parameter.{Parameter}
use Rattle.op_tree.specs.declared.heading.ParameterMode.{ParameterMode}
use Rattle.op_tree.specs.declared.heading.ParameterType.{ParameterType}
use Rattle.op_tree.specs.declared.heading.ParameterType.TheVariants.{Named, String}
use Rattle.op_tree.specs.declared.heading.RoutineKind.{RoutineKind}
use Rattle.op_tree.specs.declared.heading.RoutineKind.TheVariants.{Procedure, Function}
use Rattle.op_tree.specs.declared.position.Name.{Name}
use Rattle.op_types.specs.Names.{lower, meaning_of}

-- ---- the form of a heading

abbrev pub is_overload : Directive → Bool
is_overload Overload = true
is_overload _ = false

-- a function gives a result and a procedure none; the others are methods
abbrev pub is_plain : RoutineKind → Bool → Bool
is_plain Procedure result = not result
is_plain Function result = result
is_plain _ result = false

-- at its name
abbrev pub form_means : Heading → List Directive → Judgement (Unit {0})
form_means x ds =
    judged_when (list_any is_overload ds) (refused (NotInProfile Overloads) x.name.position.place)
    (by_test WrongKindOfName x.name.position.place (fine tt) (is_plain x.kind (is_some x.result)))

-- ---- parameters

-- the name that a function has in its own body
abbrev pub own_name : RoutineKind → Name → Option Name
own_name Function n = Some n
own_name _ n = None

-- beside it stands the name of its result
abbrev pub is_result : Option Name → Name → Bool
is_result None n = false
is_result (Some own) n = str_eq_ignore_ascii_case n.text (codes "result")

abbrev pub is_taken : Option Name → ParameterRows → Name → Bool
is_taken own r n = is_name own n || is_result own n || is_some (meaning_of r.seen (lower n.text))

abbrev pub no_parameters : ParameterRows
no_parameters = record { rows = []; seen = []; whole = true }

-- a parameter more, without which the heading is not whole where its type is broken
abbrev pub with_parameter : ParameterMode → Option TypeId → Name → ParameterRows → ParameterRows
with_parameter mode None n r = record { rows = r.rows; seen = seen_too n r.seen; whole = false }
with_parameter mode (Some of) n r = record { rows = r.rows ++ record { name = n; mode = mode; of = of } ∷ []; seen = seen_too n r.seen; whole = r.whole }

-- the most parameters of a routine
abbrev pub most_parameters : ℕ
most_parameters = 64

abbrev pub one_parameter : Option Name → ParameterMode → Option TypeId → Name → ParameterRows → Here → Step Here ParameterRows
one_parameter own mode t n r h =
    when (is_taken own r n) (unchanged DeclaredTwice n.position.place r h)
    (when (nat_lt (length r.seen) most_parameters) (gives (with_parameter mode t n r) h) (unchanged TooManyParameters n.position.place r h))

abbrev pub some_parameters : Option Name → ParameterMode → Option TypeId → List Name → ParameterRows → Here → Step Here ParameterRows
some_parameters own mode t ns r h = gather (one_parameter own mode t) ns r h

abbrev start_of_name : Name → Option Name → Place
start_of_name n None = n.position.place
start_of_name n (Some u) = u.position.place

abbrev pub start_of_type : ParameterType → Place
start_of_type (Named q) = start_of_name q.name q.unit
start_of_type (String p) = p.place

abbrev type_by : Bool → ParameterType → Here → Step Here TypeId
type_by true t h = judged h (refused (NotInProfile DynamicArrays) (start_of_type t))
type_by false (String p) h = judged h (string_means p)
type_by false (Named q) h = judged h (type_named h.core h.names None false q)

-- open arrays and strings are left out
abbrev pub parameter_type : Parameter → Here → Step Here TypeId
parameter_type p h = type_by p.open_array p.of h

-- parameters of one mode and type
abbrev pub parameter_group : Option Name → Parameter → ParameterRows → Here → Step Here ParameterRows
parameter_group own p r h = followed (parameter_type p h) (λ t h. some_parameters own p.mode t p.names r h)

abbrev pub parameter_groups : Option Name → List Parameter → ParameterRows → Here → Step Here ParameterRows
parameter_groups own ps r h = gather (parameter_group own) ps r h

-- ---- headings

abbrev pub result_means : Option Denoter → Here → Step Here (Option TypeId)
result_means None h = gives None h
result_means (Some d) h = onward (denoted None false d h) (λ t h. gives (Some t) h)

abbrev with_parameters : ParameterRows → Here → Here
with_parameters r h = in_core (record h.core { parameters = h.core.parameters ++ r.rows }) h

abbrev pub head_of : RoutineKind → Option TypeId → ParameterRows → Here → Head
head_of kind of r h = record { kind = kind; parameters = record { first = length h.core.parameters; count = length r.rows }; result = of }

-- the heading with these parameters and this result
abbrev pub head_by : RoutineKind → Option TypeId → ParameterRows → Here → Step Here Head
head_by kind of r h = when r.whole (gives (head_of kind of r h) (with_parameters r h)) (silent h)

abbrev pub head_means : Heading → Here → Step Here Head
head_means x h =
    onward (parameter_groups (own_name x.kind x.name) x.parameters no_parameters h) (λ r h. onward (result_means x.result h) (λ t h. head_by x.kind t r h))
