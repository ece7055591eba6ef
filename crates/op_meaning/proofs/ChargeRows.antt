-- Routines with the words and nodes that were counted in their texts by hand, and what an activation of each is charged.
use Rattle.std.specs.Prelude.{◌≡◌, ℕ, ℤ, pos, negsuc, true, false, List, [], ◌∷◌, ◌++◌, Some, None, slice_get, replicate}
use Rattle.std.proofs.Common.{refl, ap, ◌∙◌}
use Rattle.op_core.specs.Expression.{Expression, expression, constant, variable, call, set, no_steps, steps, convert, bracket, index, operate, apply, no_elements, elements, one, range, Arguments, no_arguments, arguments, value, listed, no_expressions, expressions}
use Rattle.op_core.specs.Rows.{rows}
use Rattle.op_core.specs.Sizes.{plain as extent}
use Rattle.op_core.specs.Statement.{Statement, Statements, no_statements, statements, no_branches, branches, no_handlers, handlers, empty, block, if_then, case_of, for_to, try_on, call as call_statement, assign, halt, built_in, write, count, plain, padded, stmts_of}
use Rattle.op_core.specs.Types.{id, predefined}
use Rattle.op_core.specs.declared.constant.Const.TheVariants.{Ordinal}
use Rattle.op_core.specs.declared.ids.RoutineId.{RoutineId}
use Rattle.op_core.specs.declared.operation.Conversion.TheVariants.{Keep, LowBits, Check}
use Rattle.op_core.specs.declared.operation.Function.TheVariants.{Length}
use Rattle.op_core.specs.declared.operation.Origin.TheVariants.{Implied, Cast}
use Rattle.op_core.specs.declared.program.Core.{Core}
use Rattle.op_core.specs.declared.routine.Body.{Body}
use Rattle.op_core.specs.declared.routine.Owner.TheVariants.{Unit as OfUnit}
use Rattle.op_core.specs.declared.routine.Role.{Role}
use Rattle.op_core.specs.declared.routine.Role.TheVariants.{Plain, Parameter, Object, Result, Handler}
use Rattle.op_core.specs.declared.routine.Routine.{Routine}
use Rattle.op_core.specs.declared.routine.Variable.{Variable}
use Rattle.op_core.specs.declared.statement.Label.{Label}
use Rattle.op_core.specs.declared.types.CoreType.{CoreType}
use Rattle.op_core.specs.declared.types.CoreType.TheVariants.{Subrange, Set, Record, Array, OpenArray}
use Rattle.op_core.specs.declared.types.Extent.{Extent}
use Rattle.op_tree.specs.declared.heading.ParameterMode.TheVariants.{Value as ByValue, Var as ByVar}
use Rattle.op_tree.specs.declared.heading.RoutineKind.TheVariants.{Procedure}
use Rattle.op_tree.specs.declared.operator.Operator.{Operator}
use Rattle.op_tree.specs.declared.operator.Operator.TheVariants.{Greater, Add, Subtract, In_}
use Rattle.op_tree.specs.declared.position.Name.{Name}
use Rattle.op_tree.specs.declared.statement.Direction.TheVariants.{To}
use Rattle.op_meaning.specs.Charge.{activation_weight, charge_at, charge_by, charge_of, listed_values, nodes_of, statements_in, valued, words_of}

-- what was counted
pub record Counts (core : Core) (vs : List Variable) (ss : Statements) (words nodes charge : ℕ) : Type 0 where
  pub words_are : words_of (activation_weight core vs (Some ss)) ≡ words
  pub nodes_are : nodes_of (activation_weight core vs (Some ss)) ≡ nodes
  pub charge_is : charge_by (activation_weight core vs (Some ss)) ≡ charge

-- so is the routine of a program charged that has these variables and statements
pub charged_so : (core : Core) (routine : RoutineId) (r : Routine) (ss : Statements) (words nodes charge : ℕ) →
    slice_get core.routines routine.0 ≡ Some r → statements_in r.body ≡ Some ss → Counts core (rows core.variables r.variables) ss words nodes charge → charge_of core routine ≡ charge
charged_so core routine r ss words nodes charge there body counts =
    ap (charge_at core) there ∙ ap (λ b. charge_by (activation_weight core (rows core.variables r.variables) b)) body ∙ counts.charge_is

-- ---- types

-- Behind the predefined types stand
-- 16 TPair = record A: Integer; B: Byte end, of 8 bytes; 17 TIndex = 1 .. 5, and 18 its sets;
-- 19 TRow = array [TIndex] of Byte, of 5 bytes; 20 TGrid = array [TIndex] of TRow, of 25 bytes; 21 array of Byte.
abbrev types : List CoreType
types = predefined ++ Record (record { first = 0; count = 2 }) ∷ Subrange (id 4) (pos 1) (pos 5) ∷ Set (id 17) ∷ Array (id 17) (id 1) ∷ Array (id 17) (id 19) ∷ OpenArray (id 1) ∷ []

abbrev bytes : ℕ → ℕ → Extent
bytes n alignment = record { size = n; alignment = alignment; managed = false }

abbrev extents : List Extent
extents = extent 1 false ∷ extent 1 false ∷ extent 2 false ∷ extent 2 false ∷ extent 4 false ∷ extent 1 false ∷ extent 1 false ∷ replicate 9 (extent 4 false)
    ++ bytes 8 4 ∷ extent 4 false ∷ extent 4 false ∷ bytes 5 1 ∷ bytes 25 1 ∷ extent 4 false ∷ []

-- ---- trees

abbrev var : ℕ → ℕ → Expression
var n of = expression (variable (record { 0 = n })) (id of) no_steps

-- a constant that stands for so many nodes
abbrev number : ℤ → ℕ → Expression
number n nodes = expression (constant (Ordinal n) nodes 0) (id 4) no_steps

abbrev joined : Expression → Operator → Expression → ℕ → Expression
joined (expression root of others) o e to = expression root of (steps (operate o false e) (id to) no_steps)

abbrev call_of : ℕ → ℕ → Arguments → Expression
call_of n of given = expression (call (record { 0 = n }) given) (id of) no_steps

abbrev given_one : Expression → Arguments
given_one e = arguments (value e) no_arguments

abbrev alone : Statement → Statements
alone s = statements s no_statements

abbrev two : Statement → Statement → Statements
two s t = statements s (alone t)

abbrev label : ℤ → ℤ → ℕ → Label
label first last nodes = record { first = first; last = last; nodes = nodes; words = 0 }

-- ---- the table

-- the rows of a program, but for names
module _ (name : Name) where
  abbrev one_of : ℕ → Role → Variable
  one_of of role = record { name = name; of = id of; role = role; first_value = None }

  abbrev with_variables : List Variable → List Routine → Core
  with_variables vs rs = record {
    types = types;
    extents = extents;
    fields = [];
    classes = [];
    interfaces = [];
    listed = [];
    methods = [];
    properties = [];
    routines = rs;
    parameters = [];
    variables = vs;
    globals = [];
    units = [];
    exceptions = None;
  }

  abbrev Row : List Variable → Statements → ℕ → ℕ → ℕ → Type 0
  Row vs ss words nodes charge = Counts (with_variables vs []) vs ss words nodes charge

  -- procedure f(n: Integer); begin if n > 0 then f(n - 1) end;
  abbrev f_variables : List Variable
  f_variables = one_of 4 (Parameter ByValue) ∷ []

  abbrev f_statements : Statements
  f_statements = alone (if_then (joined (var 0 4) Greater (number (pos 0) 1) 5) (call_statement (call_of 0 9 (given_one (joined (var 0 4) Subtract (number (pos 1) 1) 4)))))

  pub recursion : Row f_variables f_statements 1 9 404
  unfolding valued
  recursion = record { words_are = refl; nodes_are = refl; charge_is = refl }

  -- begin f(38) end.
  abbrev main_statements : Statements
  main_statements = alone (call_statement (call_of 0 9 (given_one (number (pos 38) 1))))

  pub main_part : Row [] main_statements 0 3 304
  unfolding valued
  main_part = record { words_are = refl; nodes_are = refl; charge_is = refl }

  -- The empty statement counts nothing: begin ; ; begin ; end end
  pub empty_statements : Row [] (statements empty (statements empty (alone (block (two empty empty))))) 0 2 288
  unfolding valued
  empty_statements = record { words_are = refl; nodes_are = refl; charge_is = refl }

  -- Brackets are a node: (a: Integer) begin a := (a) end
  pub brackets : Row (one_of 4 (Parameter ByValue) ∷ []) (alone (assign (var 0 4) (expression (variable (record { 0 = 0 })) (id 4) (steps bracket (id 4) no_steps)))) 1 5 340
  unfolding valued
  brackets = record { words_are = refl; nodes_are = refl; charge_is = refl }

  -- Each node of a set takes its word, brackets too: var s: set of TIndex; begin s := (s) end
  pub set_in_brackets : Row (one_of 18 Plain ∷ []) (alone (assign (var 0 18) (expression (variable (record { 0 = 0 })) (id 18) (steps bracket (id 18) no_steps)))) 4 5 352
  unfolding valued
  set_in_brackets = record { words_are = refl; nodes_are = refl; charge_is = refl }

  -- Two indices are two nodes; the array takes its words, and so does its row: (i: Integer) var g: TGrid; begin g[i, 2] := 7 end
  pub two_indices : Row (one_of 4 (Parameter ByValue) ∷ one_of 20 Plain ∷ [])
      (alone (assign (expression (variable (record { 0 = 1 })) (id 20)
      (steps (index (expression (variable (record { 0 = 0 })) (id 4) (steps (convert Check Implied) (id 17) no_steps))) (id 19) (steps (index (number (pos 2) 1)) (id 1) no_steps)))
      (number (pos 7) 1)))
      17 8 452
  unfolding valued
  two_indices = record { words_are = refl; nodes_are = refl; charge_is = refl }

  -- A parameter by reference takes two words: (var a, b: Integer) var t: Integer; begin t := a; a := b; b := t end
  pub by_reference : Row (one_of 4 (Parameter ByVar) ∷ one_of 4 (Parameter ByVar) ∷ one_of 4 Plain ∷ [])
      (statements (assign (var 2 4) (var 0 4)) (two (assign (var 0 4) (var 1 4)) (assign (var 1 4) (var 2 4))))
      5 10 436
  unfolding valued
  by_reference = record { words_are = refl; nodes_are = refl; charge_is = refl }

  -- A range in a set is no node, and a Byte takes a word: (n: Byte): Boolean; begin Result := n in [1, n, 4 .. 9] end
  pub set_constructor : Row (one_of 1 (Parameter ByValue) ∷ one_of 5 Result ∷ [])
      (alone (assign (var 1 5) (joined (var 0 1) In_ (expression (set (elements (one (number (pos 1) 1)) (elements (one (expression (variable (record { 0 = 0 })) (id 1) (steps (convert Check Implied) (id 11) no_steps)))
      (elements (range (number (pos 4) 1) (number (pos 9) 1)) no_elements)))) (id 12) no_steps) 5)))
      3 10 428
  unfolding valued
  set_constructor = record { words_are = refl; nodes_are = refl; charge_is = refl }

  -- A constant expression counts as it is written: var x: Integer; begin x := 2 * 3; x := -5 end
  pub constant_expression : Row (one_of 4 Plain ∷ []) (two (assign (var 0 4) (number (pos 6) 3)) (assign (var 0 4) (number (negsuc 4) 2))) 1 10 420
  unfolding valued
  constant_expression = record { words_are = refl; nodes_are = refl; charge_is = refl }

  -- A call takes the words of what it gives, as a statement too: var p: TPair; begin p := Pair(1); Pair(2) end
  pub record_valued_call : Row (one_of 16 Plain ∷ []) (two (assign (var 0 16) (call_of 0 16 (given_one (number (pos 1) 1)))) (call_statement (call_of 0 16 (given_one (number (pos 2) 1))))) 8 7 400
  unfolding valued
  record_valued_call = record { words_are = refl; nodes_are = refl; charge_is = refl }

  -- The variable of a loop is a name: (n: Integer) var i, s: Integer; begin for i := 1 to n do s := s + i end
  pub for_loop : Row (one_of 4 (Parameter ByValue) ∷ one_of 4 Plain ∷ one_of 4 Plain ∷ [])
      (alone (for_to (record { 0 = 1 }) (number (pos 1) 1) To (var 0 4) (assign (var 2 4) (joined (var 2 4) Add (var 1 4) 4))))
      3 10 428
  unfolding valued
  for_loop = record { words_are = refl; nodes_are = refl; charge_is = refl }

  -- Labels count as they are written, a range has no node: (n: Integer) begin case n of 1: ; 2 .. 3, -5: n := 0 else begin end end end
  pub case_with_labels : Row (one_of 4 (Parameter ByValue) ∷ [])
      (alone (case_of (var 0 4)
      (branches (label (pos 1) (pos 1) 1 ∷ []) empty (branches (label (pos 2) (pos 3) 2 ∷ label (negsuc 4) (negsuc 4) 2 ∷ []) (assign (var 0 4) (number (pos 0) 1)) no_branches))
      (alone (block no_statements))))
      1 12 452
  unfolding valued
  case_with_labels = record { words_are = refl; nodes_are = refl; charge_is = refl }

  -- A set in a label takes its word: (n: Integer) begin case n of Ord(3 in [1, 2]): n := 0; 5: end end
  pub label_with_a_set : Row (one_of 4 (Parameter ByValue) ∷ [])
      (alone (case_of (var 0 4)
      (branches (record { first = pos 0; last = pos 0; nodes = 6; words = 1 } ∷ []) (assign (var 0 4) (number (pos 0) 1)) (branches (label (pos 5) (pos 5) 1 ∷ []) empty no_branches))
      no_statements))
      2 13 472
  unfolding valued
  label_with_a_set = record { words_are = refl; nodes_are = refl; charge_is = refl }

  -- An open array takes three words, its name none, and a list the words of its elements: procedure p(a: array of Byte; n: Byte);
  -- begin p([n, n, 3, n, 2], Length(a)) end
  pub open_array : Row (one_of 21 (Parameter ByValue) ∷ one_of 1 (Parameter ByValue) ∷ [])
      (alone (call_statement (call_of 0 9
      (arguments (listed (id 21) (expressions (var 1 1) (expressions (var 1 1) (expressions (number (pos 3) 1) (expressions (var 1 1) (expressions (number (pos 2) 1) no_expressions))))))
      (given_one (expression (variable (record { 0 = 0 })) (id 21) (steps (apply Length false) (id 4) (steps (convert LowBits Implied) (id 1) no_steps))))))))
      6 10 440
  unfolding valued listed_values
  open_array = record { words_are = refl; nodes_are = refl; charge_is = refl }

  -- Widths count, and an amount that is not written does not: (n: Integer) begin WriteLn(n: 8, Chr(n)); Inc(n) end
  pub written : Row (one_of 4 (Parameter ByValue) ∷ [])
      (two (built_in (write (padded (var 0 4) (number (pos 8) 1) ∷ plain (expression (variable (record { 0 = 0 })) (id 4) (steps (convert LowBits Cast) (id 6) no_steps)) ∷ []) true))
      (built_in (count To (record { place = var 0 4; store = Keep }) (number (pos 1) 0) false)))
      1 8 388
  unfolding valued
  written = record { words_are = refl; nodes_are = refl; charge_is = refl }

  -- A clause of a handler is a node, and what it declares is no local: begin try q except on E: Exception do q end end
  pub handled : Row (one_of 4 Handler ∷ [])
      (alone (try_on (alone (call_statement (call_of 0 9 no_arguments))) (handlers (Some (record { 0 = 0 })) (record { 0 = 2 }) (call_statement (call_of 0 9 no_arguments)) no_handlers)))
      0 5 336
  unfolding valued
  handled = record { words_are = refl; nodes_are = refl; charge_is = refl }

  -- The object of a method takes a word: constructor TObject.Create; begin end
  pub empty_method : Row (one_of 4 Object ∷ []) no_statements 1 1 276
  unfolding valued
  empty_method = record { words_are = refl; nodes_are = refl; charge_is = refl }

  -- begin Halt end.
  pub halting : Row [] (alone (halt (number (pos 0) 0))) 0 2 288
  unfolding valued
  halting = record { words_are = refl; nodes_are = refl; charge_is = refl }

  -- ---- two routines of a program

  abbrev routine_of : ℕ → ℕ → Body → Routine
  routine_of first size body = record {
    name = name;
    kind = Procedure;
    unit = record { 0 = 0 };
    owner = OfUnit;
    enclosing = None;
    parameters = record { first = first; count = size };
    result = None;
    variables = record { first = first; count = size };
    body = Some body;
  }

  -- The program of the first two rows, whose bodies say those statements.
  module _ (f main : Body) (f_says : stmts_of f.statements.items ≡ f_statements) (main_says : stmts_of main.statements.items ≡ main_statements) where
    abbrev program : Core
    program = with_variables f_variables (routine_of 0 1 f ∷ routine_of 1 0 main ∷ [])

    pub f_charge : charge_of program (record { 0 = 0 }) ≡ 404
    unfolding valued
    f_charge = charged_so program (record { 0 = 0 }) (routine_of 0 1 f) f_statements 1 9 404 refl (ap Some f_says) (record { words_are = refl; nodes_are = refl; charge_is = refl })

    pub main_charge : charge_of program (record { 0 = 1 }) ≡ 304
    unfolding valued
    main_charge = charged_so program (record { 0 = 1 }) (routine_of 1 0 main) main_statements 0 3 304 refl (ap Some main_says) (record { words_are = refl; nodes_are = refl; charge_is = refl })
