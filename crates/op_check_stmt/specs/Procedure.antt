-- The built-in procedures (Free Pascal Reference Guide, "Write", and "Inc", "Include", "Exit" .. of unit System).
use Rattle.std.specs.Prelude.{ℤ, pos, Bool, true, false, not, List, [], ◌∷◌, Option, Some, None, slice_get, unwrap_or, is_some}
use Rattle.std.specs.Option.{option_and_then, option_map}
use Rattle.op_base.specs.declared.place.Place.{Place}
use Rattle.op_check_expr.specs.Expressions.{position_of}
use Rattle.op_check_expr.specs.Phrases as phrase
use Rattle.op_check_expr.specs.Scopes.{Here}
use Rattle.op_check_expr.specs.declared.scope.Around.{Around}
use Rattle.op_check_expr.specs.Values.{Value, conversion, tree_of, type_of}
use Rattle.op_core.specs.Expression.{Expression as Tree, expression, constant, no_steps}
use Rattle.op_judgement.proofs.Told.{all_told}
use Rattle.op_judgement.specs.Judgement.{Breaks, Judgement, Means, by_entry, by_test, changed, checked, fine, given, known, of_two, refused, through}
use Rattle.op_judgement.specs.declared.rules.Feature.TheVariants.{FractionWidth}
use Rattle.op_judgement.specs.declared.rules.LanguageRule.TheVariants.{LeavesFinally, NotInProfile, NotOrdinal, NotWritten, VariableOfAnotherType, WrongArguments}
use Rattle.op_core.specs.Sizes.{type_at}
use Rattle.op_core.specs.Statement.{Item, plain, padded, Target, write, count, include, exclude, Statement, call as call_statement, exit, exit_with, halt, built_in}
use Rattle.op_core.specs.Typing as typing
use Rattle.op_core.specs.declared.constant.Const.TheVariants.{Ordinal as OrdinalConstant}
use Rattle.op_core.specs.declared.ids.RoutineId.{RoutineId}
use Rattle.op_core.specs.declared.ids.TypeId.{TypeId}
use Rattle.op_core.specs.declared.operation.Conversion.TheVariants.{Keep}
use Rattle.op_core.specs.declared.program.Core.{Core}
use Rattle.op_core.specs.declared.types.CoreType.{CoreType}
use Rattle.op_core.specs.declared.types.CoreType.TheVariants as type
use Rattle.op_tree.specs.Expression.{Expression, Argument, value as value_argument, padded as padded_argument, rounded, Arguments, no_arguments, arguments, Designator, designator, named, Selectors, no_selectors, selectors, member as member', call, expr_of}
use Rattle.op_tree.specs.Lists.{arguments_of}
use Rattle.op_tree.specs.declared.position.Name.{Name}
use Rattle.op_tree.specs.declared.statement.Direction.{Direction}
use Rattle.op_tree.specs.declared.statement.Direction.TheVariants.{To, Downto}
use Rattle.op_types.specs.ConstantParts.{joined_name, start_of}
use Rattle.op_types.specs.Names.{Named, lower, meaning_of}
use Rattle.op_types.specs.Operators as table
use Rattle.op_types.specs.Sorts.{sort_of}
use Rattle.op_types.specs.declared.sort.OrdinalKind.TheVariants.{Integer, Boolean, Char}
use Rattle.op_types.specs.declared.sort.Sort.{Sort}
use Rattle.op_types.specs.declared.sort.Sort.TheVariants.{Ordinal, String}
use Rattle.op_types.specs.declared.visible.BuiltIn as types
use Rattle.op_types.specs.declared.visible.BuiltIn.TheVariants as name
use Rattle.op_types.specs.declared.visible.Meaning.{Meaning}
use Rattle.op_types.specs.declared.visible.Meaning.TheVariants.{BuiltIn as BuiltInNamed, Unit}
use Rattle.op_check_stmt.specs.LeavingLaw.{leaving_law}
use Rattle.op_check_stmt.specs.Leaving.{by_reach, in_finally, jump_of, leaves, reach_of}
use Rattle.op_check_stmt.specs.Variable.{is_ordinal}
use Rattle.op_check_stmt.specs.declared.leaving.Jump.{Jump}
use Rattle.op_check_stmt.specs.declared.leaving.Jump.TheVariants.{Break, Continue}
use Rattle.op_check_stmt.specs.declared.procedure.Called.{Called as RustCalled}
use Rattle.op_check_stmt.specs.declared.given.Given.{Given}
use Rattle.op_check_stmt.specs.declared.given.Given.TheVariants.{Nothing, One, Two, Others}

-- ---- arguments

-- the values that a procedure is given
pub data Values : Type 0 where
  none : Values
  one : (e : Expression) → Values
  two : (e f : Expression) → Values
  others : Values

abbrev pub values : Arguments → Values
values no_arguments = none
values (arguments (value_argument e) no_arguments) = one e
values (arguments (value_argument e) (arguments (value_argument f) no_arguments)) = two e f
values _ = others

abbrev pub values_of : Given → Values
values_of Nothing = none
values_of (One e) = one (expr_of e.now)
values_of (Two e f) = two (expr_of e.now) (expr_of f.now)
values_of Others = others

-- ---- Write and WriteLn

-- integers, Booleans, Chars and strings
abbrev pub is_text : Sort → Bool
is_text (Ordinal Integer) = true
is_text (Ordinal Boolean) = true
is_text (Ordinal Char) = true
is_text String = true
is_text _ = false

abbrev pub text_means : Core → Place → Value → Judgement Tree
text_means core place v = by_test NotWritten place (fine (tree_of v)) (is_text (sort_of core (type_of v)))

abbrev pub text : Here → Expression → Judgement Tree
text here e = through (phrase.value here None e) (text_means here.core (start_of e))

abbrev pub item : Here → Argument → Judgement Item
item here (value_argument e) = changed plain (text here e)
item here (padded_argument e width) = of_two padded (text here e) (phrase.given here table.integer false width)
item here (rounded e width digits) = refused (NotInProfile FractionWidth) (start_of digits)

abbrev pub items : Here → Arguments → Judgement (List Item)
items here no_arguments = fine []
items here (arguments a rest) = of_two (λ x xs. x ∷ xs) (item here a) (items here rest)

abbrev pub written : Here → Bool → Arguments → Judgement Statement
written here ends_line args = changed (λ xs. built_in (write xs ends_line)) (items here args)

-- ---- Inc and Dec

-- an Integer that is not written, and so is no node of the text
abbrev pub unwritten : ℤ → Tree
unwritten n = expression (constant (OrdinalConstant n) 0 0) table.integer no_steps

-- the place, and how an Integer is stored there
abbrev pub place_counted : Core → Bool → Tree → Target
place_counted core ranges place = record { place = place; store = unwrap_or (conversion core ranges table.integer (typing.type_of place)) Keep }

abbrev pub counted_means : Core → Place → Bool → Tree → Judgement Target
counted_means core at ranges place = by_test NotOrdinal at (fine (place_counted core ranges place)) (is_ordinal (sort_of core (typing.type_of place)))

abbrev pub counted : Here → Bool → Expression → Judgement Target
counted here ranges e = through (phrase.variable here None e) (counted_means here.core (start_of e) ranges)

abbrev pub count_by : Direction → Bool → Judgement Target → Judgement Tree → Judgement Statement
count_by direction overflow target amount = of_two (λ t n. built_in (count direction t n overflow)) target amount

-- at the procedure's name
abbrev pub count_means : Here → Direction → Name → Values → Judgement Statement
count_means here direction n (one e) = count_by direction n.position.switches.q (counted here (position_of e).switches.r e) (fine (unwritten (pos 1)))
count_means here direction n (two e f) = count_by direction n.position.switches.q (counted here (position_of e).switches.r e) (phrase.given here table.integer false f)
count_means here direction n _ = refused WrongArguments n.position.place

-- ---- Include and Exclude

abbrev pub base_by : Option CoreType → Option TypeId
base_by (Some (type.Set base)) = Some base
base_by _ = None

-- the base of a set type
abbrev pub base_of : Core → TypeId → Option TypeId
base_of core of = base_by (type_at core of)

abbrev pub set_means : Core → Place → Tree → Judgement Tree
set_means core at place = by_test VariableOfAnotherType at (fine place) (is_some (base_of core (typing.type_of place)))

-- a variable that is a set
abbrev pub set : Here → Expression → Judgement Tree
set here e = through (phrase.variable here None e) (set_means here.core (start_of e))

abbrev pub base_in : Core → Option Tree → Option TypeId
base_in core s = option_and_then (λ e. base_of core (typing.type_of e)) s

-- an element of a set of this base, where there is one
abbrev pub member : Here → Option TypeId → Expression → Judgement Tree
member here None e = changed tree_of (phrase.value here None e)
member here (Some base) e = phrase.element here base e

abbrev pub change : Bool → Tree → Tree → Statement
change true s e = built_in (include s e)
change false s e = built_in (exclude s e)

-- Include or Exclude, at its name
abbrev pub change_means : Here → Bool → Name → Values → Judgement Statement
change_means here includes n (two s e) = of_two (change includes) (set here s) (given (set here s) (λ place. member here (base_in here.core place) e))
change_means here includes n _ = refused WrongArguments n.position.place

-- ---- Exit, Halt, Break and Continue

abbrev pub result_at : Core → RoutineId → Option TypeId
result_at core id = option_and_then (λ r. r.result) (slice_get core.routines id.0)

-- the type of what the routine gives
abbrev pub result_of : Here → Option TypeId
result_of here = option_and_then (result_at here.core) here.routine

-- at the word, unless a finally part would be left
abbrev pub exits : Here → Place → Judgement Statement → Judgement Statement
exits here place c = by_test LeavesFinally place c (not (in_finally here.around))

abbrev pub exit_means : Here → Name → Values → Judgement Statement
exit_means here n none = exits here n.position.place (fine exit)
exit_means here n (one e) = by_entry WrongArguments n.position.place (λ of. exits here n.position.place (changed exit_with (phrase.given here of (position_of e).switches.r e))) (result_of here)
exit_means here n _ = refused WrongArguments n.position.place

-- the program ends with this status, or with 0
abbrev pub halt_means : Here → Name → Values → Judgement Statement
halt_means here n none = fine (halt (unwritten (pos 0)))
halt_means here n (one e) = changed halt (phrase.given here table.integer false e)
halt_means here n _ = refused WrongArguments n.position.place

-- what leaves a loop, or its turn, at the word
abbrev pub leaving : {A : Type 0} → Place → A → List Around → Judgement A
leaving place statement around =
    known (checked (by_reach place statement (reach_of around))) (Means (leaves place statement around)) (Breaks (leaves place statement around)) (leaving_law place statement around) (all_told (by_reach place statement (reach_of around)))

abbrev pub jump_means : Here → Jump → Name → Values → Judgement Statement
jump_means here jump n none = leaving n.position.place (jump_of jump) here.around
jump_means here jump n _ = refused WrongArguments n.position.place

-- ---- calls

-- a built-in name, and what it is given
pub record Called : Type 0 where
  pub which : types.BuiltIn
  pub name : Name
  pub given : Arguments

abbrev pub called_of : RustCalled → Called
called_of c = record { which = c.which; name = c.name.now; given = arguments_of c.given.now }

abbrev pub arguments_behind : Selectors → Option Arguments
arguments_behind no_selectors = Some no_arguments
arguments_behind (selectors (call args) no_selectors) = Some args
arguments_behind _ = None

abbrev pub called_behind : Name → Selectors → Option Meaning → Option Called
called_behind n ss (Some (BuiltInNamed b)) = option_map (λ args. record { which = b; name = n; given = args }) (arguments_behind ss)
called_behind n ss _ = None

abbrev in_unit : List Named → Name → Selectors → Option Called
in_unit names n (selectors (member' m) ss) = called_behind m ss (meaning_of names (joined_name n.text m.text))
in_unit names n _ = None

abbrev pub called_by : List Named → Name → Selectors → Option Meaning → Option Called
called_by names n ss (Some (Unit id)) = in_unit names n ss
called_by names n ss m = called_behind n ss m

-- the built-in name that is called, also behind the name of its unit
abbrev pub called : List Named → Designator → Option Called
called names (designator (named n) ss) = called_by names n ss (meaning_of names (lower n.text))
called names _ = None

-- a call that is no built-in procedure's
abbrev pub plain_call : Here → Designator → Judgement Statement
plain_call here d = changed call_statement (phrase.call_alone here d)

abbrev pub procedure : Here → Designator → types.BuiltIn → Called → Judgement Statement
procedure here d name.Write c = written here false c.given
procedure here d name.WriteLn c = written here true c.given
procedure here d name.Inc c = count_means here To c.name (values c.given)
procedure here d name.Dec c = count_means here Downto c.name (values c.given)
procedure here d name.Include c = change_means here true c.name (values c.given)
procedure here d name.Exclude c = change_means here false c.name (values c.given)
procedure here d name.Exit c = exit_means here c.name (values c.given)
procedure here d name.Halt c = halt_means here c.name (values c.given)
procedure here d name.Break c = jump_means here Break c.name (values c.given)
procedure here d name.Continue c = jump_means here Continue c.name (values c.given)
procedure here d _ c = plain_call here d

abbrev pub called_means : Here → Designator → Option Called → Judgement Statement
called_means here d None = plain_call here d
called_means here d (Some c) = procedure here d c.which c

abbrev pub call_means : Here → Designator → Judgement Statement
call_means here d = called_means here d (called here.visible d)
