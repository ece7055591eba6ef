-- The selector of a case and its labels (Free Pascal Reference Guide, "The Case statement").
use Rattle.std.specs.Prelude.{int_le, Bool, true, false, List, [], ◌∷◌, ◌++◌, Option, Some, None}
use Rattle.std.specs.Option.{option_to_list}
use Rattle.op_base.specs.declared.place.Place.{Place}
use Rattle.op_check_expr.specs.Phrases as phrase
use Rattle.op_check_expr.specs.Scopes.{Here}
use Rattle.op_check_expr.specs.Values.{Value, constant, computed, as_type, type_of}
use Rattle.op_core.specs.Expression.{Expression as Tree}
use Rattle.op_core.specs.Relations.{Entry, Where}
use Rattle.op_core.specs.declared.ids.TypeId.{TypeId}
use Rattle.op_core.specs.declared.program.Core.{Core}
use Rattle.op_core.specs.declared.statement.Label.{Label}
use Rattle.op_judgement.specs.Judgement.{Judgement, by_entry, by_test, changed, checked, fine, followed, known, of_two, refused, through, untyped, with_part}
use Rattle.op_judgement.specs.declared.rules.Feature.TheVariants.{CaseOnStrings}
use Rattle.op_judgement.specs.declared.rules.LanguageRule.TheVariants.{EmptyRange, NoConstant, NotAssignable, NotInProfile, NotOrdinal, Syntax}
use Rattle.op_tree.specs.Expression.{Expression, Element, one, range, Elements, no_elements, elements}
use Rattle.op_types.specs.Assignable.{assignable}
use Rattle.op_types.specs.ConstantParts.{plus, start_of}
use Rattle.op_types.specs.Sorts.{sort_of}
use Rattle.op_types.specs.Values.{number_of}
use Rattle.op_types.specs.declared.constant.Constant.{Constant}
use Rattle.op_types.specs.declared.constant.Weight.{Weight}
use Rattle.op_types.specs.declared.sort.Sort.{Sort}
use Rattle.op_types.specs.declared.sort.Sort.TheVariants.{Ordinal, String}
use Rattle.op_check_stmt.specs.LabelLaw.{distinct_law, once_told}
use Rattle.op_check_stmt.specs.Labels.{NoneMet, TwiceBreaks, once, repeated}
use Rattle.op_check_stmt.specs.Unplaced.{place_of_body}
use Rattle.op_check_stmt.specs.Variable.{host_of}
use Rattle.op_check_stmt.specs.declared.case.Bound.{Bound}
use Rattle.op_check_stmt.specs.declared.case.Spot.{Spot}

-- ---- the selector

-- a value at a place, as one of its type's host; strings are not in this profile
abbrev pub selected_by : Core → Place → Value → Sort → Judgement Tree
selected_by core place v (Ordinal kind) = fine (as_type core false (host_of core (type_of v)) v)
selected_by core place v String = refused (NotInProfile CaseOnStrings) place
selected_by core place v _ = refused NotOrdinal place

abbrev pub selected : Core → Place → Value → Judgement Tree
selected core place v = selected_by core place v (sort_of core (type_of v))

abbrev pub selector : Here → Expression → Judgement Tree
selector here e = through (phrase.value here None e) (selected here.core (start_of e))

-- ---- labels

abbrev pub constant_in : Value → Option Constant
constant_in (constant c) = Some c
constant_in (computed e) = None

abbrev pub number : Constant → Bound
number c = record { number = number_of c.value; weight = c.weight }

abbrev pub fits : Core → TypeId → Option TypeId → Bool
fits core from None = true
fits core from (Some to) = assignable core from to

-- of a selector that has no type too, where the bound is then silent
abbrev pub of_type : Option TypeId → Constant → Judgement Bound
of_type None c = untyped
of_type (Some of) c = fine (number c)

-- a value at a place as a bound of a label, where the selector has this type
abbrev pub bound_means : Core → Place → Option TypeId → Value → Judgement Bound
bound_means core place of v = by_test NotAssignable place (by_entry NoConstant place (of_type of) (constant_in v)) (fits core (type_of v) of)

abbrev pub bound : Here → Option TypeId → Expression → Judgement Bound
bound here of e = through (phrase.value here None e) (bound_means here.core (start_of e) of)

abbrev pub spot : Place → Bound → Bound → Weight → Spot
spot place low high w = record { label = record { first = low.number; last = high.number; nodes = w.nodes; words = w.words }; place = place }

-- from one bound to another, which is not below it
abbrev pub range_means : Place → Bound → Bound → Judgement Spot
range_means place low high = by_test EmptyRange place (fine (spot place low high (plus low.weight high.weight))) (int_le low.number high.number)

abbrev pub both_bounds : Place → Option Bound → Option Bound → Judgement Spot
both_bounds place low high = with_part (λ low. with_part (range_means place low) high) low

abbrev pub label : Here → Option TypeId → Element → Judgement Spot
label here of (one e) = changed (λ b. spot (start_of e) b b b.weight) (bound here of e)
label here of (range e f) = followed (bound here of e) (λ low. followed (bound here of f) (both_bounds (start_of e) low))

abbrev pub labels : Here → Option TypeId → Elements → Judgement (List Label)
labels here of no_elements = fine []
labels here of (elements e es) = of_two (λ l others. l ∷ others) (changed (λ s. s.label) (label here of e)) (labels here of es)

-- those of a branch: the grammar has one at least
abbrev pub branch_labels : Here → Option TypeId → Elements → Judgement (List Label)
branch_labels here of no_elements = refused Syntax (place_of_body here)
branch_labels here of (elements e es) = labels here of (elements e es)

-- the labels that have values, with their places
abbrev pub spots : Here → Option TypeId → Elements → List Spot
spots here of no_elements = []
spots here of (elements e es) = option_to_list (checked (label here of e)).typed ++ spots here of es

-- ---- labels that are there twice

-- what has these labels, where none of them has a value in common with an earlier one
abbrev pub distinct : {A : Type 0} → Option A → List Spot → Judgement A
distinct a ss = known (once a (repeated ss)) (Where (NoneMet ss) (Entry a)) (TwiceBreaks ss) (distinct_law a ss) (once_told a (repeated ss))
