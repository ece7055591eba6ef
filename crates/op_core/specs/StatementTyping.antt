-- Which typed statements are such, and where they may stand (Free Pascal Reference Guide, "Statements").
use Rattle.std.specs.Prelude.{◌≡◌, Bool, true, false, Option, Some, None, IsTrue, IsSomeAnd, ◌≤ℤ◌}
use Rattle.std.proofs.Common.{refl}
use Rattle.op_core.specs.Needs.{Fact, always, both, either, some, of_kind, has_part, part_is, hosted, one_type, exception, placed, IsSo, row, Need, fact, two_of, three_of, four_of, each, of_option, may_name, value_of, IsMet}
pub use Rattle.op_core.specs.Needs.{host}
use Rattle.op_core.specs.Expression.{Expression}
use Rattle.op_core.specs.Members.{There}
use Rattle.op_core.specs.Sizes.{type_at, range_of}
use Rattle.op_core.specs.Statement.{Item, plain, padded, Target, BuiltIn, write, read, count, set_length, include, exclude, val, str, free, destroy, Statement, empty, block, if_then, if_else, case_of, while_do, repeat_until, for_to, for_in, try_finally, try_on, try_on_else, raise, reraise, call, assign, exit, exit_with, break, continue, halt, built_in, Statements, no_statements, statements, Branches, no_branches, branches, Handlers, no_handlers, handlers}
use Rattle.op_core.specs.Typing.{Sees, IsTyped, typed, type_of, value_as, integer, boolean, string, ordinal, a_set, an_object, Within, converts, base_of, element_of, is_place}
use Rattle.op_core.specs.declared.ids.ClassId.{ClassId}
use Rattle.op_core.specs.declared.ids.TypeId.{TypeId}
use Rattle.op_core.specs.declared.ids.VariableId.{VariableId}
use Rattle.op_core.specs.declared.program.Core.{Core}
use Rattle.op_core.specs.declared.statement.Label.{Label}
use Rattle.op_core.specs.declared.types.CoreType.{CoreType}
use Rattle.op_core.specs.declared.types.CoreType.TheVariants.{Integer, Boolean, String, Subrange, DynamicArray, Char, Class}

-- what stands round a statement: what the routine gives, whether a handler is round it, and whether a loop or the routine may
-- be left, which no statement of a finally part does
pub record Here : Type 0 where
  pub result : Option TypeId
  pub handler : Bool
  pub loop : Bool
  pub routine : Bool

abbrev pub in_loop : Here → Here
in_loop here = record here { loop = true }

abbrev pub in_handler : Here → Here
in_handler here = record here { handler = true }

abbrev pub in_finally : Here → Here
in_finally here = record here { loop = false; routine = false }

abbrev pub raised : TypeId → Fact
raised of = some (λ c. both (of_kind of (Class c)) (exception c))

abbrev pub is_text : Option CoreType → Bool
is_text (Some (Integer kind)) = true
is_text (Some Boolean) = true
is_text (Some Char) = true
is_text (Some String) = true
is_text _ = false

-- what is read or written: integers, Booleans, Chars and strings
abbrev pub text : TypeId → Fact
text of = hosted is_text refl of

-- what the bounds of a loop over a variable of a type are: Integers, values of a subrange's base, or else of that type
abbrev pub bounds_by : TypeId → TypeId → CoreType → Fact
bounds_by at of (Integer kind) = integer of
bounds_by at of (Subrange base low high) = always (base ≡ of)
bounds_by at of t = both (always (at ≡ of)) (ordinal of)

-- what has a length that can be set
abbrev pub with_length : TypeId → Fact
with_length of = either (string of) (some (λ element. of_kind of (DynamicArray element)))

-- what `for in` goes over, with its elements' type
abbrev pub gives_elements : TypeId → TypeId → Fact
gives_elements of element = either (part_is element_of refl of element) (either (part_is base_of refl of element) (both (string of) (of_kind element Char)))

abbrev pub has : (TypeId → Fact) → Expression → Need
has f e = two_of (typed e) (fact (f (type_of e)))

abbrev pub target_of : Bool → (TypeId → Fact) → Expression → Need
target_of chars f e = two_of (has f e) (fact (placed chars e))

abbrev pub target_as : (TypeId → Fact) → Target → Need
target_as f target = target_of true f target.place

abbrev pub item_as : Item → Need
item_as (plain e) = has text e
item_as (padded e width) = two_of (has text e) (has integer width)

abbrev pub element_and_set : Expression → Expression → Need
element_and_set set e = three_of (target_of false a_set set) (typed e) (fact (has_part base_of refl (type_of set) (λ base. one_type (type_of e) base)))

abbrev pub built_in_as : BuiltIn → Need
built_in_as (write items ends_line) = each items item_as
built_in_as (read targets ends_line) = each targets (target_as text)
built_in_as (count direction target amount checked) = two_of (target_as ordinal target) (has integer amount)
built_in_as (set_length target e) = two_of (target_of false with_length target) (has integer e)
built_in_as (include set e) = element_and_set set e
built_in_as (exclude set e) = element_and_set set e
built_in_as (val text v code) = three_of (has string text) (target_as ordinal v) (target_as ordinal code)
built_in_as (str v target) = two_of (item_as v) (target_of false string target)
built_in_as (free object empties) = has an_object object
built_in_as (destroy object) = has an_object object

abbrev pub label_of : TypeId → Label → Need
label_of of label = fact (both (has_part range_of refl of (λ r. always (Within r label.first × Within r label.last))) (always (label.first ≤ℤ label.last)))

abbrev pub caught_as : ClassId → Option VariableId → Need
caught_as c None = fact (always (Unit {0}))
caught_as c (Some id) = may_name id (λ of role. of_kind of (Class c))

abbrev mutual
  pub statement_as : Here → Statement → Need
  statement_as here empty = fact (always (Unit {0}))
  statement_as here (block ss) = statements_as here ss
  statement_as here (if_then e s) = two_of (has boolean e) (statement_as here s)
  statement_as here (if_else e s t) = three_of (has boolean e) (statement_as here s) (statement_as here t)
  statement_as here (case_of e bs ss) = three_of (has ordinal e) (branches_as here (type_of e) bs) (statements_as here ss)
  statement_as here (while_do e s) = two_of (has boolean e) (statement_as (in_loop here) s)
  statement_as here (repeat_until ss e) = two_of (statements_as (in_loop here) ss) (has boolean e)
  statement_as here (for_to id e direction f s) = four_of (may_name id (λ of role. row of (bounds_by of (type_of e)))) (typed e) (value_of (value_as f) (type_of e)) (statement_as (in_loop here) s)
  statement_as here (for_in id store e s) = three_of (typed e) (may_name id (λ of role. some (λ element. both (gives_elements (type_of e) element) (converts store element of)))) (statement_as (in_loop here) s)
  statement_as here (try_finally ss ts) = two_of (statements_as here ss) (statements_as (in_finally here) ts)
  statement_as here (try_on ss hs) = two_of (statements_as here ss) (handlers_as (in_handler here) hs)
  statement_as here (try_on_else ss hs ts) = three_of (statements_as here ss) (handlers_as (in_handler here) hs) (statements_as (in_handler here) ts)
  statement_as here (raise e) = has raised e
  statement_as here reraise = fact (always (here.handler ≡ true))
  statement_as here (call e) = typed e
  statement_as here (assign target e) = three_of (typed target) (fact (placed true target)) (value_of (value_as e) (type_of target))
  statement_as here exit = fact (always (here.routine ≡ true))
  statement_as here (exit_with e) = two_of (fact (always (here.routine ≡ true))) (of_option here.result (λ of. value_of (value_as e) of))
  statement_as here break = fact (always (here.loop ≡ true))
  statement_as here continue = fact (always (here.loop ≡ true))
  statement_as here (halt e) = has integer e
  statement_as here (built_in action) = built_in_as action

  pub statements_as : Here → Statements → Need
  statements_as here no_statements = fact (always (Unit {0}))
  statements_as here (statements s ss) = two_of (statement_as here s) (statements_as here ss)

  pub branches_as : Here → TypeId → Branches → Need
  branches_as here of no_branches = fact (always (Unit {0}))
  branches_as here of (branches labels s bs) = three_of (each labels (label_of of)) (statement_as here s) (branches_as here of bs)

  pub handlers_as : Here → Handlers → Need
  handlers_as here no_handlers = fact (always (Unit {0}))
  handlers_as here (handlers v c s hs) = four_of (fact (exception c)) (caught_as c v) (statement_as here s) (handlers_as here hs)

-- ---- as they are read of a program

abbrev pub IsText : Core → TypeId → Type 0
IsText core of = IsSo core (text of)

abbrev pub Bounds : Core → TypeId → Option CoreType → TypeId → Type 0
Bounds core at o of = IsSomeAnd o (λ t. IsSo core (bounds_by at of t))

abbrev pub GivesElements : Core → TypeId → TypeId → Type 0
GivesElements core of element = IsSo core (gives_elements of element)

abbrev pub Has : (Core → TypeId → Type 0) → Core → Sees → Expression → Type 0
Has Q core sees e = IsTyped core sees e × Q core (type_of e)

abbrev pub IsTargetOf : Bool → (Core → TypeId → Type 0) → Core → Sees → Expression → Type 0
IsTargetOf chars Q core sees e = Has Q core sees e × IsTrue (is_place chars core e)

abbrev pub IsTarget : (Core → TypeId → Type 0) → Core → Sees → Target → Type 0
IsTarget Q core sees target = IsTargetOf true Q core sees target.place

abbrev pub IsVariable : Sees → Core → VariableId → (TypeId → Type 0) → Type 0
IsVariable sees core id Q = sees.variable id × There core.variables id.0 (λ v. Q v.of)

abbrev pub IsItem : Core → Sees → Item → Type 0
IsItem core sees x = IsMet core sees (item_as x)

abbrev pub IsElementOf : Core → Sees → Expression → Expression → Type 0
IsElementOf core sees set e = IsMet core sees (element_and_set set e)

abbrev pub IsBuiltIn : Core → Sees → BuiltIn → Type 0
IsBuiltIn core sees x = IsMet core sees (built_in_as x)

abbrev pub IsLabel : Core → TypeId → Label → Type 0
IsLabel core of label = IsSomeAnd (range_of (type_at core of)) (λ r. Within r label.first × Within r label.last) × (label.first ≤ℤ label.last)

abbrev pub IsStatement : Core → Sees → Here → Statement → Type 0
IsStatement core sees here s = IsMet core sees (statement_as here s)

abbrev pub AreStatements : Core → Sees → Here → Statements → Type 0
AreStatements core sees here ss = IsMet core sees (statements_as here ss)

abbrev pub AreBranches : Core → Sees → Here → TypeId → Branches → Type 0
AreBranches core sees here of bs = IsMet core sees (branches_as here of bs)
