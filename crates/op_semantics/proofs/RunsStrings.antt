-- Strings: constants, variables, results, operators, built-in routines. Each program stands above what it comes to; tests/semantics makes this file of the
-- texts in tests/semantics.d, and tells how what is expected was found.
use Rattle.std.specs.Prelude.{◌≡◌, pos, negsuc, true, false, [], ◌∷◌, ◌++◌, codes, Some, None}
use Rattle.std.proofs.Common.{refl}
use Rattle.op_core.specs.Expression.{expression, call as call_of, no_steps, then, bracket, copy, value, place}
use Rattle.op_core.specs.Initial.{constant as first_constant}
use Rattle.op_core.specs.Statement.{assign, call, block, if_then, if_else, case_of, no_branches, branches, while_do, repeat_until, for_to, for_in, exit, exit_with, halt, built_in, write, count, set_length, val, str, plain, padded}
use Rattle.op_core.specs.Types.{id}
use Rattle.op_core.specs.declared.class.Binding.TheVariants.{Static, Virtual as VirtualBinding}
use Rattle.op_core.specs.declared.constant.Const.TheVariants.{Text}
use Rattle.op_core.specs.declared.operation.Conversion.TheVariants.{Keep, LowBits, Check, ToString}
use Rattle.op_core.specs.declared.operation.Function.TheVariants.{Length, Low, Succ, Pred, UpCase}
use Rattle.op_core.specs.declared.routine.Owner.TheVariants.{Unit as OfUnit, Class as OfClass}
use Rattle.op_core.specs.declared.routine.Role.TheVariants.{Plain, Parameter, Object as ObjectRole, Result}
use Rattle.op_core.specs.declared.types.CoreType.TheVariants.{Subrange, Record, Array, DynamicArray, Class, Interface}
use Rattle.op_meaning.proofs.Programs.{said, var, known, quoted, with_q, signed, applying, to, at, dot, argued, listed, rows_at, part}
use Rattle.op_semantics.proofs.Programs.{outcome, ends_with, asks, frees, variable_id, routine_id, class_id, interface_id, target_at, label, row, routine_row, class_row, method_row, interface_row, program}
use Rattle.op_semantics.specs.Frames.{Program}
use Rattle.op_tree.specs.declared.heading.ParameterMode.TheVariants.{Value, Var, Const_, Out}
use Rattle.op_tree.specs.declared.heading.RoutineKind.TheVariants.{Procedure, Function as FunctionKind, Constructor, Destructor}
use Rattle.op_tree.specs.declared.operator.Operator.TheVariants.{Equal, NotEqual, Less, Greater, LessEqual, GreaterEqual, Add, Subtract, Or, Div, And}
use Rattle.op_tree.specs.declared.operator.PrefixOperator.TheVariants.{Not}
use Rattle.op_tree.specs.declared.position.Name.{Name}
use Rattle.op_tree.specs.declared.statement.Direction.TheVariants.{To, Downto}

module _ (name : Name) where
  -- What the second operand of `and` makes ends with the condition, and is not made where the first one is False
  abbrev text_and_operand : Program
  text_and_operand = program name
      []
      []
      (row name 7 Plain None ∷ row name 7 Plain None ∷ row name 5 Plain None ∷ [])
      []
      []
      []
      []
      []
      (variable_id 0 ∷ variable_id 1 ∷ variable_id 2 ∷ [])
      None
      ((listed (
      (assign (var 0 7) (quoted (codes "x"))) ∷
      (assign (var 1 7) (quoted (codes "y"))) ∷
      (assign (var 2 5) (with_q false 5 (applying Length false (var 0 7) 4) Equal (known (pos 1) 4))) ∷
      (if_then (with_q false 5 (var 2 5) And (then (with_q false 5 (with_q false 7 (var 0 7) Add (var 1 7)) Equal (quoted (codes "xy"))) bracket (id 5))) (built_in (write (plain (quoted (codes "yes")) ∷ []) true))) ∷
      (assign (var 2 5) (signed false 5 Not (var 2 5))) ∷
      (if_then (with_q false 5 (var 2 5) And (then (with_q false 5 (with_q false 7 (var 0 7) Add (var 1 7)) Equal (quoted (codes "xy"))) bracket (id 5))) (built_in (write (plain (quoted (codes "no")) ∷ []) true))) ∷
      (built_in (write (plain (quoted (codes "next")) ∷ []) true)) ∷ [])) ∷
      [])

  text_and_operand_runs : outcome 4000 text_and_operand ([]) ≡ ends_with (asks 32 ∷ frees 1 ∷ []) (said (codes "yes") ++ said (codes "next")) ([]) 0
  unfolding outcome
  text_and_operand_runs = refl

  -- A text joined to itself, three times
  abbrev text_append_self : Program
  text_append_self = program name
      []
      []
      (row name 7 Plain None ∷ row name 4 Plain None ∷ [])
      []
      []
      []
      []
      []
      (variable_id 0 ∷ variable_id 1 ∷ [])
      None
      ((listed (
      (assign (var 0 7) (quoted (codes "a"))) ∷
      (for_to (variable_id 1) (known (pos 1) 4) To (known (pos 3) 4) (block (listed (
      (assign (var 0 7) (with_q false 7 (var 0 7) Add (var 0 7))) ∷
      (built_in (write (plain (var 0 7) ∷ []) true)) ∷ [])))) ∷ [])) ∷
      [])

  text_append_self_runs : outcome 4000 text_append_self ([]) ≡ ends_with (asks 32 ∷ asks 32 ∷ frees 1 ∷ asks 32 ∷ frees 2 ∷ frees 3 ∷ []) (said (codes "aa") ++ said (codes "aaaa") ++ said (codes "aaaaaaaa")) ([]) 0
  unfolding outcome
  text_append_self_runs = refl

  -- A const parameter takes a variable, a literal, a Char and a sum
  abbrev text_by_const : Program
  text_by_const = program name
      []
      []
      (row name 7 Plain None ∷ row name 6 Plain None ∷ row name 7 (Parameter Const_) None ∷ [])
      (routine_row name (codes "p") Procedure OfUnit 1 None 2 1 ∷ [])
      []
      []
      []
      []
      (variable_id 0 ∷ variable_id 1 ∷ [])
      None
      ((listed (
      (built_in (write (plain (var 2 7) ∷ plain (applying Length false (var 2 7) 4) ∷ []) true)) ∷ [])) ∷
      (listed (
      (assign (var 0 7) (quoted (codes "hi"))) ∷
      (assign (var 1 6) (known (pos 99) 6)) ∷
      (call (expression (call_of (routine_id 0) (argued (value (var 0 7) ∷ []))) (id 9) no_steps)) ∷
      (call (expression (call_of (routine_id 0) (argued (value (quoted (codes "lit")) ∷ []))) (id 9) no_steps)) ∷
      (call (expression (call_of (routine_id 0) (argued (value (to ToString 7 (var 1 6)) ∷ []))) (id 9) no_steps)) ∷
      (call (expression (call_of (routine_id 0) (argued (value (with_q false 7 (var 0 7) Add (to ToString 7 (var 1 6))) ∷ []))) (id 9) no_steps)) ∷
      (call (expression (call_of (routine_id 0) (argued (value (quoted ([])) ∷ []))) (id 9) no_steps)) ∷ [])) ∷
      [])

  text_by_const_runs : outcome 4000 text_by_const ([]) ≡ ends_with (asks 32 ∷ frees 1 ∷ asks 32 ∷ asks 32 ∷ frees 3 ∷ frees 2 ∷ []) (said (codes "hi2") ++ said (codes "lit3") ++ said (codes "c1") ++ said (codes "hic3") ++ said (codes "0")) ([]) 0
  unfolding outcome
  text_by_const_runs = refl

  -- An out parameter is empty when its routine begins
  abbrev text_by_out : Program
  text_by_out = program name
      []
      []
      (row name 7 Plain None ∷ row name 7 (Parameter Out) None ∷ [])
      (routine_row name (codes "p") Procedure OfUnit 1 None 1 1 ∷ [])
      []
      []
      []
      []
      (variable_id 0 ∷ [])
      None
      ((listed (
      (built_in (write (plain (applying Length false (var 1 7) 4) ∷ []) true)) ∷
      (assign (var 1 7) (with_q false 7 (var 1 7) Add (quoted (codes "new")))) ∷ [])) ∷
      (listed (
      (assign (var 0 7) (quoted (codes "old"))) ∷
      (call (expression (call_of (routine_id 0) (argued (place (var 0 7) ∷ []))) (id 9) no_steps)) ∷
      (built_in (write (plain (var 0 7) ∷ []) true)) ∷ [])) ∷
      [])

  text_by_out_runs : outcome 4000 text_by_out ([]) ≡ ends_with [] (said (codes "0") ++ said (codes "new")) ([]) 0
  unfolding outcome
  text_by_out_runs = refl

  -- A value parameter may be changed without any effect on its argument
  abbrev text_by_value : Program
  text_by_value = program name
      []
      []
      (row name 7 Plain None ∷ row name 7 (Parameter Value) None ∷ [])
      (routine_row name (codes "p") Procedure OfUnit 1 None 1 1 ∷ [])
      []
      []
      []
      []
      (variable_id 0 ∷ [])
      None
      ((listed (
      (assign (var 1 7) (with_q false 7 (var 1 7) Add (quoted (codes "!")))) ∷
      (built_in (write (plain (var 1 7) ∷ []) true)) ∷ [])) ∷
      (listed (
      (assign (var 0 7) (quoted (codes "hi"))) ∷
      (call (expression (call_of (routine_id 0) (argued (value (var 0 7) ∷ []))) (id 9) no_steps)) ∷
      (call (expression (call_of (routine_id 0) (argued (value (quoted (codes "lit")) ∷ []))) (id 9) no_steps)) ∷
      (call (expression (call_of (routine_id 0) (argued (value (with_q false 7 (var 0 7) Add (quoted (codes "x"))) ∷ []))) (id 9) no_steps)) ∷
      (built_in (write (plain (var 0 7) ∷ []) true)) ∷ [])) ∷
      [])

  text_by_value_runs : outcome 4000 text_by_value ([]) ≡ ends_with (asks 32 ∷ frees 1 ∷ asks 32 ∷ frees 2 ∷ asks 32 ∷ asks 32 ∷ frees 4 ∷ frees 3 ∷ []) (said (codes "hi!") ++ said (codes "lit!") ++ said (codes "hix!") ++ said (codes "hi")) ([]) 0
  unfolding outcome
  text_by_value_runs = refl

  -- A var parameter is the variable itself, also when it is given twice
  abbrev text_by_var : Program
  text_by_var = program name
      []
      []
      (row name 7 Plain None ∷ row name 7 (Parameter Var) None ∷ row name 7 (Parameter Var) None ∷ [])
      (routine_row name (codes "p") Procedure OfUnit 2 None 1 2 ∷ [])
      []
      []
      []
      []
      (variable_id 0 ∷ [])
      None
      ((listed (
      (assign (var 1 7) (with_q false 7 (var 1 7) Add (quoted (codes "1")))) ∷
      (assign (var 2 7) (with_q false 7 (var 2 7) Add (quoted (codes "2")))) ∷
      (built_in (write (plain (var 1 7) ∷ plain (known (pos 32) 6) ∷ plain (var 2 7) ∷ []) true)) ∷ [])) ∷
      (listed (
      (assign (var 0 7) (quoted (codes "x"))) ∷
      (call (expression (call_of (routine_id 0) (argued (place (var 0 7) ∷ place (var 0 7) ∷ []))) (id 9) no_steps)) ∷
      (built_in (write (plain (var 0 7) ∷ []) true)) ∷ [])) ∷
      [])

  text_by_var_runs : outcome 4000 text_by_var ([]) ≡ ends_with (asks 32 ∷ asks 32 ∷ frees 1 ∷ frees 2 ∷ []) (said (codes "x12 x12") ++ said (codes "x12")) ([]) 0
  unfolding outcome
  text_by_var_runs = refl

  -- case on a character of a text, with ranges
  abbrev text_case : Program
  text_case = program name
      []
      []
      (row name 7 Plain None ∷ row name 6 Plain None ∷ [])
      []
      []
      []
      []
      []
      (variable_id 0 ∷ variable_id 1 ∷ [])
      None
      ((listed (
      (assign (var 0 7) (quoted (codes "b7-Z"))) ∷
      (for_in (variable_id 1) Keep (var 0 7) (case_of (var 1 6) (branches (label (pos 97) (pos 102) ∷ label (pos 65) (pos 70) ∷ []) (built_in (write (plain (quoted (codes "letter ")) ∷ []) false)) (branches (label (pos 48) (pos 57) ∷ []) (built_in (write (plain (quoted (codes "digit ")) ∷ []) false)) (branches (label (pos 45) (pos 45) ∷ []) (block (listed (
      (built_in (write (plain (quoted (codes "minus ")) ∷ []) false)) ∷ []))) no_branches))) (listed (
      (built_in (write (plain (quoted (codes "other ")) ∷ []) false)) ∷ [])))) ∷
      (built_in (write [] true)) ∷ [])) ∷
      [])

  text_case_runs : outcome 4000 text_case ([]) ≡ ends_with [] (said (codes "letter digit minus other ")) ([]) 0
  unfolding outcome
  text_case_runs = refl

  -- All six comparisons, with a text that begins another one
  abbrev text_compare : Program
  text_compare = program name
      []
      []
      (row name 7 Plain None ∷ row name 7 Plain None ∷ [])
      (routine_row name (codes "p") Procedure OfUnit 0 None 2 0 ∷ [])
      []
      []
      []
      []
      (variable_id 0 ∷ variable_id 1 ∷ [])
      None
      ((listed (
      (built_in (write (plain (with_q false 5 (var 0 7) Equal (var 1 7)) ∷ plain (with_q false 5 (var 0 7) NotEqual (var 1 7)) ∷ plain (with_q false 5 (var 0 7) Less (var 1 7)) ∷ plain (with_q false 5 (var 0 7) LessEqual (var 1 7)) ∷ plain (with_q false 5 (var 0 7) Greater (var 1 7)) ∷ plain (with_q false 5 (var 0 7) GreaterEqual (var 1 7)) ∷ []) true)) ∷ [])) ∷
      (listed (
      (assign (var 0 7) (quoted (codes "ab"))) ∷
      (assign (var 1 7) (quoted (codes "abc"))) ∷
      (call (expression (call_of (routine_id 0) (argued [])) (id 9) no_steps)) ∷
      (assign (var 0 7) (quoted (codes "b"))) ∷
      (call (expression (call_of (routine_id 0) (argued [])) (id 9) no_steps)) ∷
      (assign (var 1 7) (quoted (codes "b"))) ∷
      (call (expression (call_of (routine_id 0) (argued [])) (id 9) no_steps)) ∷
      (assign (var 0 7) (quoted ([]))) ∷
      (call (expression (call_of (routine_id 0) (argued [])) (id 9) no_steps)) ∷
      (assign (var 1 7) (quoted ([]))) ∷
      (call (expression (call_of (routine_id 0) (argued [])) (id 9) no_steps)) ∷ [])) ∷
      [])

  text_compare_runs : outcome 4000 text_compare ([]) ≡ ends_with [] (said (codes "FALSETRUETRUETRUEFALSEFALSE") ++ said (codes "FALSETRUEFALSEFALSETRUETRUE") ++ said (codes "TRUEFALSEFALSETRUEFALSETRUE") ++ said (codes "FALSETRUETRUETRUEFALSEFALSE") ++ said (codes "TRUEFALSEFALSETRUEFALSETRUE")) ([]) 0
  unfolding outcome
  text_compare_runs = refl

  -- Texts are compared by their bytes from 0 to 255, zero bytes included
  abbrev text_compare_bytes : Program
  text_compare_bytes = program name
      []
      []
      (row name 7 Plain None ∷ row name 7 Plain None ∷ [])
      []
      []
      []
      []
      []
      (variable_id 0 ∷ variable_id 1 ∷ [])
      None
      ((listed (
      (assign (var 0 7) (quoted ((97 ∷ 0 ∷ 98 ∷ [])))) ∷
      (assign (var 1 7) (quoted ((97 ∷ 0 ∷ 99 ∷ [])))) ∷
      (built_in (write (plain (with_q false 5 (var 0 7) Less (var 1 7)) ∷ plain (applying Length false (var 0 7) 4) ∷ []) true)) ∷
      (assign (var 0 7) (quoted ((200 ∷ [])))) ∷
      (assign (var 1 7) (quoted (codes "z"))) ∷
      (built_in (write (plain (with_q false 5 (var 0 7) Greater (var 1 7)) ∷ plain (with_q false 5 (known (pos 90) 6) Less (known (pos 97) 6)) ∷ plain (with_q false 5 (with_q false 7 (quoted (codes "a")) Add (var 1 7)) Greater (quoted (codes "az"))) ∷ []) true)) ∷ [])) ∷
      [])

  text_compare_bytes_runs : outcome 4000 text_compare_bytes ([]) ≡ ends_with (asks 32 ∷ frees 1 ∷ []) (said (codes "TRUE3") ++ said (codes "TRUETRUEFALSE")) ([]) 0
  unfolding outcome
  text_compare_bytes_runs = refl

  -- Texts that are made for conditions of if, while, until and case
  abbrev text_condition_temporaries : Program
  text_condition_temporaries = program name
      []
      []
      (row name 7 Plain None ∷ row name 4 (Parameter Value) None ∷ row name 7 Result None ∷ [])
      (routine_row name (codes "f") FunctionKind OfUnit 1 (Some 7) 1 2 ∷ [])
      []
      []
      []
      []
      (variable_id 0 ∷ [])
      None
      ((listed (
      (built_in (str (plain (var 1 4)) (var 2 7))) ∷
      (assign (var 2 7) (with_q false 7 (var 2 7) Add (quoted (codes ".")))) ∷ [])) ∷
      (listed (
      (if_else (with_q false 5 (with_q false 7 (expression (call_of (routine_id 0) (argued (value (known (pos 1) 4) ∷ []))) (id 7) no_steps) Add (expression (call_of (routine_id 0) (argued (value (known (pos 2) 4) ∷ []))) (id 7) no_steps)) Equal (quoted (codes "1.2."))) (assign (var 0 7) (quoted (codes "yes"))) (assign (var 0 7) (quoted (codes "no")))) ∷
      (while_do (with_q false 5 (applying Length false (expression (call_of (routine_id 0) (argued (value (applying Length false (var 0 7) 4) ∷ []))) (id 7) no_steps) 4) Less (known (pos 3) 4)) (assign (var 0 7) (with_q false 7 (var 0 7) Add (quoted (codes "abcd"))))) ∷
      (repeat_until (listed (
      (assign (var 0 7) (with_q false 7 (var 0 7) Add (expression (call_of (routine_id 0) (argued (value (known (pos 0) 4) ∷ []))) (id 7) no_steps))) ∷ [])) (with_q false 5 (at (var 0 7) (applying Length false (var 0 7) 4) 6) Equal (known (pos 46) 6))) ∷
      (case_of (applying Length false (with_q false 7 (var 0 7) Add (expression (call_of (routine_id 0) (argued (value (known (pos 1) 4) ∷ []))) (id 7) no_steps)) 4) (branches (label (pos 0) (pos 5) ∷ []) (built_in (write (plain (quoted (codes "short")) ∷ []) true)) (branches (label (pos 6) (pos 99) ∷ []) (built_in (write (plain (var 0 7) ∷ []) true)) no_branches)) (listed ([]))) ∷ [])) ∷
      [])

  text_condition_temporaries_runs : outcome 4000 text_condition_temporaries ([]) ≡ ends_with (asks 32 ∷ asks 32 ∷ frees 1 ∷ asks 32 ∷ asks 32 ∷ frees 3 ∷ asks 32 ∷ frees 5 ∷ frees 4 ∷ frees 2 ∷ asks 32 ∷ asks 32 ∷ frees 6 ∷ frees 7 ∷ asks 32 ∷ asks 32 ∷ asks 32 ∷ frees 9 ∷ frees 10 ∷ asks 32 ∷ frees 8 ∷ asks 32 ∷ asks 32 ∷ frees 12 ∷ frees 13 ∷ asks 32 ∷ asks 32 ∷ frees 14 ∷ asks 32 ∷ frees 15 ∷ frees 11 ∷ asks 32 ∷ asks 32 ∷ frees 17 ∷ asks 32 ∷ frees 19 ∷ frees 18 ∷ frees 16 ∷ []) (said (codes "yesabcdabcd0.")) ([]) 0
  unfolding outcome
  text_condition_temporaries_runs = refl

  -- A const parameter keeps its text while the variable behind it changes
  abbrev text_const_keeps_old : Program
  text_const_keeps_old = program name
      []
      []
      (row name 7 Plain None ∷ row name 7 (Parameter Const_) None ∷ [])
      (routine_row name (codes "p") Procedure OfUnit 1 None 1 1 ∷ [])
      []
      []
      []
      []
      (variable_id 0 ∷ [])
      None
      ((listed (
      (assign (var 0 7) (with_q false 7 (var 0 7) Add (quoted (codes "2")))) ∷
      (built_in (write (plain (var 1 7) ∷ plain (known (pos 32) 6) ∷ plain (var 0 7) ∷ []) true)) ∷ [])) ∷
      (listed (
      (assign (var 0 7) (quoted (codes "on"))) ∷
      (assign (var 0 7) (with_q false 7 (var 0 7) Add (quoted (codes "e")))) ∷
      (call (expression (call_of (routine_id 0) (argued (value (var 0 7) ∷ []))) (id 9) no_steps)) ∷
      (built_in (write (plain (var 0 7) ∷ []) true)) ∷ [])) ∷
      [])

  text_const_keeps_old_runs : outcome 4000 text_const_keeps_old ([]) ≡ ends_with (asks 32 ∷ asks 32 ∷ frees 1 ∷ frees 2 ∷ []) (said (codes "one one2") ++ said (codes "one2")) ([]) 0
  unfolding outcome
  text_const_keeps_old_runs = refl

  -- Copy at its edges: first place below 1, too many, none, past the end
  abbrev text_copy : Program
  text_copy = program name
      []
      []
      (row name 7 Plain None ∷ [])
      []
      []
      []
      []
      []
      (variable_id 0 ∷ [])
      None
      ((listed (
      (assign (var 0 7) (quoted (codes "abcde"))) ∷
      (built_in (write (plain (then (var 0 7) (copy (known (pos 2) 4) (known (pos 3) 4)) (id 7)) ∷ plain (known (pos 124) 6) ∷ plain (then (var 0 7) (copy (known (pos 0) 4) (known (pos 2) 4)) (id 7)) ∷ plain (known (pos 124) 6) ∷ plain (then (var 0 7) (copy (known (negsuc 4) 4) (known (pos 2) 4)) (id 7)) ∷ plain (known (pos 124) 6) ∷ plain (then (var 0 7) (copy (known (pos 4) 4) (known (pos 9) 4)) (id 7)) ∷ []) true)) ∷
      (built_in (write (plain (then (var 0 7) (copy (known (pos 5) 4) (known (pos 1) 4)) (id 7)) ∷ plain (known (pos 124) 6) ∷ plain (then (var 0 7) (copy (known (pos 6) 4) (known (pos 1) 4)) (id 7)) ∷ plain (known (pos 124) 6) ∷ plain (then (var 0 7) (copy (known (pos 2) 4) (known (pos 0) 4)) (id 7)) ∷ plain (known (pos 124) 6) ∷ plain (then (var 0 7) (copy (known (pos 2) 4) (known (negsuc 0) 4)) (id 7)) ∷ plain (known (pos 124) 6) ∷ []) true)) ∷
      (built_in (write (plain (then (var 0 7) (copy (known (pos 1) 4) (known (pos 2147483647) 4)) (id 7)) ∷ plain (known (pos 124) 6) ∷ plain (then (var 0 7) (copy (known (pos 3) 4) (known (pos 2147483647) 4)) (id 7)) ∷ plain (known (pos 124) 6) ∷ plain (then (quoted ([])) (copy (known (pos 1) 4) (known (pos 1) 4)) (id 7)) ∷ plain (known (pos 124) 6) ∷ []) true)) ∷ [])) ∷
      [])

  text_copy_runs : outcome 4000 text_copy ([]) ≡ ends_with (asks 32 ∷ asks 32 ∷ asks 32 ∷ asks 32 ∷ frees 4 ∷ frees 3 ∷ frees 2 ∷ frees 1 ∷ asks 32 ∷ frees 5 ∷ asks 32 ∷ asks 32 ∷ frees 7 ∷ frees 6 ∷ []) (said (codes "bcd|ab|ab|de") ++ said (codes "e||||") ++ said (codes "abcde|cde||")) ([]) 0
  unfolding outcome
  text_copy_runs = refl

  -- A piece that is the whole text is a text of its own
  abbrev text_copy_makes_new : Program
  text_copy_makes_new = program name
      []
      []
      (row name 7 Plain None ∷ row name 7 Plain None ∷ [])
      []
      []
      []
      []
      []
      (variable_id 0 ∷ variable_id 1 ∷ [])
      None
      ((listed (
      (assign (var 0 7) (quoted (codes "ab"))) ∷
      (assign (var 0 7) (with_q false 7 (var 0 7) Add (quoted (codes "c")))) ∷
      (assign (var 1 7) (then (var 0 7) (copy (known (pos 1) 4) (known (pos 3) 4)) (id 7))) ∷
      (assign (at (var 1 7) (known (pos 2) 4) 6) (known (pos 45) 6)) ∷
      (built_in (write (plain (var 0 7) ∷ plain (var 1 7) ∷ plain (with_q false 5 (var 0 7) Equal (var 1 7)) ∷ []) true)) ∷ [])) ∷
      [])

  text_copy_makes_new_runs : outcome 4000 text_copy_makes_new ([]) ≡ ends_with (asks 32 ∷ asks 32 ∷ frees 1 ∷ frees 2 ∷ []) (said (codes "abca-cFALSE")) ([]) 0
  unfolding outcome
  text_copy_makes_new_runs = refl

  -- Delete at its edges, with a second holder that keeps the old text
  abbrev text_delete : Program
  text_delete = program name
      []
      []
      (row name 7 Plain None ∷ row name 7 Plain None ∷ row name 7 (Parameter Var) None ∷ row name 4 (Parameter Value) None ∷ row name 4 (Parameter Value) None ∷ [])
      (routine_row name (codes "delete") Procedure OfUnit 3 None 2 3 ∷ [])
      []
      []
      []
      []
      (variable_id 0 ∷ variable_id 1 ∷ [])
      None
      ((listed (
      (if_then (with_q false 5 (with_q false 5 (then (with_q false 5 (var 3 4) Less (known (pos 1) 4)) bracket (id 5)) Or (then (with_q false 5 (var 3 4) Greater (applying Length false (var 2 7) 4)) bracket (id 5))) Or (then (with_q false 5 (var 4 4) Less (known (pos 1) 4)) bracket (id 5))) (exit)) ∷
      (if_then (with_q false 5 (var 4 4) Greater (with_q false 4 (with_q false 4 (applying Length false (var 2 7) 4) Subtract (var 3 4)) Add (known (pos 1) 4))) (assign (var 4 4) (with_q false 4 (with_q false 4 (applying Length false (var 2 7) 4) Subtract (var 3 4)) Add (known (pos 1) 4)))) ∷
      (assign (var 2 7) (with_q false 7 (then (var 2 7) (copy (known (pos 1) 4) (with_q false 4 (var 3 4) Subtract (known (pos 1) 4))) (id 7)) Add (then (var 2 7) (copy (with_q false 4 (var 3 4) Add (var 4 4)) (applying Length false (var 2 7) 4)) (id 7)))) ∷ [])) ∷
      (listed (
      (assign (var 0 7) (quoted (codes "abcdef"))) ∷
      (assign (var 1 7) (var 0 7)) ∷
      (call (expression (call_of (routine_id 0) (argued (place (var 0 7) ∷ value (known (pos 2) 4) ∷ value (known (pos 2) 4) ∷ []))) (id 9) no_steps)) ∷
      (built_in (write (plain (var 0 7) ∷ []) true)) ∷
      (call (expression (call_of (routine_id 0) (argued (place (var 0 7) ∷ value (known (pos 0) 4) ∷ value (known (pos 2) 4) ∷ []))) (id 9) no_steps)) ∷
      (call (expression (call_of (routine_id 0) (argued (place (var 0 7) ∷ value (known (pos 5) 4) ∷ value (known (pos 1) 4) ∷ []))) (id 9) no_steps)) ∷
      (call (expression (call_of (routine_id 0) (argued (place (var 0 7) ∷ value (known (pos 1) 4) ∷ value (known (pos 0) 4) ∷ []))) (id 9) no_steps)) ∷
      (built_in (write (plain (var 0 7) ∷ []) true)) ∷
      (call (expression (call_of (routine_id 0) (argued (place (var 0 7) ∷ value (known (pos 3) 4) ∷ value (known (pos 99) 4) ∷ []))) (id 9) no_steps)) ∷
      (built_in (write (plain (var 0 7) ∷ plain (known (pos 32) 6) ∷ plain (var 1 7) ∷ []) true)) ∷ [])) ∷
      [])

  text_delete_runs : outcome 4000 text_delete ([]) ≡ ends_with (asks 32 ∷ asks 32 ∷ asks 32 ∷ frees 2 ∷ frees 1 ∷ asks 32 ∷ frees 3 ∷ frees 4 ∷ []) (said (codes "adef") ++ said (codes "adef") ++ said (codes "ad abcdef")) ([]) 0
  unfolding outcome
  text_delete_runs = refl

  -- Texts as elements of a static and of a dynamic array
  abbrev text_elements : Program
  text_elements = program name
      (Subrange (id 4) (pos 1) (pos 3) ∷ Array (id 16) (id 7) ∷ DynamicArray (id 7) ∷ [])
      []
      (row name 17 Plain None ∷ row name 18 Plain None ∷ row name 4 Plain None ∷ [])
      []
      []
      []
      []
      []
      (variable_id 0 ∷ variable_id 1 ∷ variable_id 2 ∷ [])
      None
      ((listed (
      (assign (at (var 0 17) (known (pos 1) 4) 7) (quoted (codes "p"))) ∷
      (assign (at (var 0 17) (known (pos 2) 4) 7) (with_q false 7 (at (var 0 17) (known (pos 1) 4) 7) Add (quoted (codes "q")))) ∷
      (built_in (set_length (var 1 18) (known (pos 2) 4))) ∷
      (assign (at (var 1 18) (known (pos 0) 4) 7) (at (var 0 17) (known (pos 2) 4) 7)) ∷
      (assign (at (var 1 18) (known (pos 1) 4) 7) (with_q false 7 (at (var 1 18) (known (pos 0) 4) 7) Add (at (var 0 17) (known (pos 3) 4) 7))) ∷
      (assign (at (at (var 1 18) (known (pos 0) 4) 7) (known (pos 1) 4) 6) (known (pos 90) 6)) ∷
      (for_to (variable_id 2) (known (pos 1) 4) To (known (pos 3) 4) (built_in (write (plain (at (var 0 17) (var 2 4) 7) ∷ plain (known (pos 44) 6) ∷ []) false))) ∷
      (built_in (write (plain (at (var 1 18) (known (pos 0) 4) 7) ∷ plain (known (pos 44) 6) ∷ plain (at (var 1 18) (known (pos 1) 4) 7) ∷ []) true)) ∷ [])) ∷
      [])

  text_elements_runs : outcome 4000 text_elements ([]) ≡ ends_with (asks 32 ∷ asks 32 ∷ asks 32 ∷ frees 3 ∷ frees 1 ∷ frees 2 ∷ []) (said (codes "p,pq,,Zq,pq")) ([]) 0
  unfolding outcome
  text_elements_runs = refl

  -- An error that ends the program writes nothing more and empties nothing
  abbrev text_error_keeps : Program
  text_error_keeps = program name
      []
      []
      (row name 7 Plain None ∷ row name 4 Plain None ∷ [])
      []
      []
      []
      []
      []
      (variable_id 0 ∷ variable_id 1 ∷ [])
      None
      ((listed (
      (assign (var 0 7) (quoted (codes "abc"))) ∷
      (assign (var 0 7) (with_q false 7 (var 0 7) Add (quoted (codes "d")))) ∷
      (built_in (write (plain (var 0 7) ∷ plain (with_q false 4 (known (pos 8) 4) Div (then (with_q false 4 (var 1 4) Add (known (pos 4) 4)) bracket (id 4))) ∷ []) true)) ∷
      (built_in (write (plain (var 0 7) ∷ plain (with_q false 4 (known (pos 8) 4) Div (var 1 4)) ∷ []) true)) ∷
      (built_in (write (plain (quoted (codes "never")) ∷ []) true)) ∷ [])) ∷
      [])

  text_error_keeps_runs : outcome 4000 text_error_keeps ([]) ≡ ends_with (asks 32 ∷ []) (said (codes "abcd2") ++ codes "abcd") (said (codes "Runtime error 200")) 200
  unfolding outcome
  text_error_keeps_runs = refl

  -- Exit with a value stores the result and leaves
  abbrev text_exit_value : Program
  text_exit_value = program name
      []
      []
      (row name 4 (Parameter Value) None ∷ row name 7 Result None ∷ row name 7 Plain None ∷ [])
      (routine_row name (codes "f") FunctionKind OfUnit 1 (Some 7) 0 3 ∷ [])
      []
      []
      []
      []
      []
      None
      ((listed (
      (assign (var 2 7) (quoted (codes "loc"))) ∷
      (assign (var 1 7) (quoted (codes "first"))) ∷
      (if_then (with_q false 5 (var 0 4) Equal (known (pos 1) 4)) (exit_with (with_q false 7 (var 2 7) Add (quoted (codes "al"))))) ∷
      (if_then (with_q false 5 (var 0 4) Equal (known (pos 2) 4)) (exit)) ∷
      (assign (var 1 7) (with_q false 7 (var 1 7) Add (quoted (codes "+")))) ∷ [])) ∷
      (listed (
      (built_in (write (plain (expression (call_of (routine_id 0) (argued (value (known (pos 1) 4) ∷ []))) (id 7) no_steps) ∷ plain (known (pos 32) 6) ∷ plain (expression (call_of (routine_id 0) (argued (value (known (pos 2) 4) ∷ []))) (id 7) no_steps) ∷ plain (known (pos 32) 6) ∷ plain (expression (call_of (routine_id 0) (argued (value (known (pos 3) 4) ∷ []))) (id 7) no_steps) ∷ []) true)) ∷ [])) ∷
      [])

  text_exit_value_runs : outcome 4000 text_exit_value ([]) ≡ ends_with (asks 32 ∷ asks 32 ∷ frees 2 ∷ frees 1 ∷ []) (said (codes "local first first+")) ([]) 0
  unfolding outcome
  text_exit_value_runs = refl

  -- Texts in the fields of a record: the record is copied, then one side changes
  abbrev text_fields : Program
  text_fields = program name
      (Record (rows_at 0 3) ∷ [])
      (part name 7 ∷ part name 4 ∷ part name 7 ∷ [])
      (row name 16 Plain None ∷ row name 16 Plain None ∷ [])
      []
      []
      []
      []
      []
      (variable_id 0 ∷ variable_id 1 ∷ [])
      None
      ((listed (
      (assign (dot (var 0 16) 0 7) (quoted (codes "one"))) ∷
      (assign (dot (var 0 16) 2 7) (with_q false 7 (dot (var 0 16) 0 7) Add (quoted (codes "!")))) ∷
      (assign (dot (var 0 16) 1 4) (known (pos 3) 4)) ∷
      (assign (var 1 16) (var 0 16)) ∷
      (assign (at (dot (var 1 16) 0 7) (known (pos 1) 4) 6) (known (pos 79) 6)) ∷
      (assign (dot (var 0 16) 2 7) (quoted ([]))) ∷
      (built_in (write (plain (dot (var 0 16) 0 7) ∷ plain (dot (var 0 16) 1 4) ∷ plain (dot (var 0 16) 2 7) ∷ plain (known (pos 32) 6) ∷ plain (dot (var 1 16) 0 7) ∷ plain (dot (var 1 16) 1 4) ∷ plain (dot (var 1 16) 2 7) ∷ []) true)) ∷ [])) ∷
      [])

  text_fields_runs : outcome 4000 text_fields ([]) ≡ ends_with (asks 32 ∷ asks 32 ∷ frees 2 ∷ frees 1 ∷ []) (said (codes "one3 One3one!")) ([]) 0
  unfolding outcome
  text_fields_runs = refl

  -- Globals that still hold texts when the program ends, one of them shared
  abbrev text_globals_end : Program
  text_globals_end = program name
      (Subrange (id 4) (pos 0) (pos 1) ∷ Array (id 16) (id 7) ∷ [])
      []
      (row name 7 Plain None ∷ row name 7 Plain None ∷ row name 7 Plain None ∷ row name 17 Plain None ∷ [])
      []
      []
      []
      []
      []
      (variable_id 0 ∷ variable_id 1 ∷ variable_id 2 ∷ variable_id 3 ∷ [])
      None
      ((listed (
      (assign (var 0 7) (quoted (codes "ab"))) ∷
      (assign (var 0 7) (with_q false 7 (var 0 7) Add (quoted (codes "c")))) ∷
      (assign (var 1 7) (var 0 7)) ∷
      (assign (var 2 7) (with_q false 7 (var 1 7) Add (var 0 7))) ∷
      (assign (at (var 3 17) (known (pos 1) 4) 7) (var 2 7)) ∷
      (assign (at (var 3 17) (known (pos 0) 4) 7) (quoted (codes "literal"))) ∷
      (built_in (write (plain (var 0 7) ∷ plain (var 1 7) ∷ plain (var 2 7) ∷ plain (at (var 3 17) (known (pos 0) 4) 7) ∷ plain (at (var 3 17) (known (pos 1) 4) 7) ∷ []) true)) ∷ [])) ∷
      [])

  text_globals_end_runs : outcome 4000 text_globals_end ([]) ≡ ends_with (asks 32 ∷ asks 32 ∷ frees 1 ∷ frees 2 ∷ []) (said (codes "abcabcabcabcliteralabcabc")) ([]) 0
  unfolding outcome
  text_globals_end_runs = refl

  -- Halt within a call ends the program: the globals go, what the call holds stays
  abbrev text_halt_inside : Program
  text_halt_inside = program name
      []
      []
      (row name 7 Plain None ∷ row name 7 (Parameter Value) None ∷ row name 7 Plain None ∷ [])
      (routine_row name (codes "p") Procedure OfUnit 1 None 1 2 ∷ [])
      []
      []
      []
      []
      (variable_id 0 ∷ [])
      None
      ((listed (
      (assign (var 2 7) (with_q false 7 (var 1 7) Add (quoted (codes "!")))) ∷
      (built_in (write (plain (var 2 7) ∷ []) true)) ∷
      (halt (known (pos 3) 4)) ∷ [])) ∷
      (listed (
      (assign (var 0 7) (quoted (codes "glob"))) ∷
      (assign (var 0 7) (with_q false 7 (var 0 7) Add (quoted (codes "al")))) ∷
      (call (expression (call_of (routine_id 0) (argued (value (var 0 7) ∷ []))) (id 9) no_steps)) ∷
      (built_in (write (plain (quoted (codes "never")) ∷ []) true)) ∷ [])) ∷
      [])

  text_halt_inside_runs : outcome 4000 text_halt_inside ([]) ≡ ends_with (asks 32 ∷ asks 32 ∷ []) (said (codes "global!")) ([]) 3
  unfolding outcome
  text_halt_inside_runs = refl

  -- Counting a Char up and down, in a variable and in a field
  abbrev text_inc_char : Program
  text_inc_char = program name
      (Record (rows_at 0 1) ∷ Subrange (id 4) (pos 0) (pos 1) ∷ Array (id 17) (id 6) ∷ [])
      (part name 6 ∷ [])
      (row name 6 Plain None ∷ row name 16 Plain None ∷ row name 18 Plain None ∷ [])
      []
      []
      []
      []
      []
      (variable_id 0 ∷ variable_id 1 ∷ variable_id 2 ∷ [])
      None
      ((listed (
      (assign (var 0 6) (known (pos 97) 6)) ∷
      (built_in (count To (target_at (var 0 6) Check) (known (pos 1) 4) false)) ∷
      (built_in (count To (target_at (var 0 6) Check) (known (pos 2) 4) false)) ∷
      (assign (dot (var 1 16) 0 6) (known (pos 122) 6)) ∷
      (built_in (count Downto (target_at (dot (var 1 16) 0 6) Check) (known (pos 3) 4) false)) ∷
      (assign (at (var 2 18) (known (pos 1) 4) 6) (applying Succ false (var 0 6) 6)) ∷
      (assign (at (var 2 18) (known (pos 0) 4) 6) (applying Pred false (var 0 6) 6)) ∷
      (built_in (write (plain (var 0 6) ∷ plain (dot (var 1 16) 0 6) ∷ plain (at (var 2 18) (known (pos 0) 4) 6) ∷ plain (at (var 2 18) (known (pos 1) 4) 6) ∷ []) true)) ∷ [])) ∷
      [])

  text_inc_char_runs : outcome 4000 text_inc_char ([]) ≡ ends_with [] (said (codes "dwce")) ([]) 0
  unfolding outcome
  text_inc_char_runs = refl

  -- The Char 255 cannot be counted up
  abbrev text_inc_char_end : Program
  text_inc_char_end = program name
      []
      []
      (row name 6 Plain None ∷ [])
      []
      []
      []
      []
      []
      (variable_id 0 ∷ [])
      None
      ((listed (
      (assign (var 0 6) (known (pos 254) 6)) ∷
      (built_in (count To (target_at (var 0 6) Check) (known (pos 1) 4) false)) ∷
      (built_in (write (plain (to Keep 4 (var 0 6)) ∷ []) true)) ∷
      (built_in (count To (target_at (var 0 6) Check) (known (pos 1) 4) false)) ∷
      (built_in (write (plain (quoted (codes "never")) ∷ []) true)) ∷ [])) ∷
      [])

  text_inc_char_end_runs : outcome 4000 text_inc_char_end ([]) ≡ ends_with [] (said (codes "255")) (said (codes "Runtime error 201")) 201
  unfolding outcome
  text_inc_char_end_runs = refl

  -- The empty text has no character
  abbrev text_index_empty : Program
  text_index_empty = program name
      []
      []
      (row name 7 Plain None ∷ row name 4 Plain None ∷ [])
      []
      []
      []
      []
      []
      (variable_id 0 ∷ variable_id 1 ∷ [])
      None
      ((listed (
      (assign (var 1 4) (known (pos 1) 4)) ∷
      (if_then (with_q false 5 (applying Length false (var 0 7) 4) Equal (known (pos 0) 4)) (built_in (write (plain (quoted (codes "empty")) ∷ []) true))) ∷
      (if_then (with_q false 5 (at (var 0 7) (var 1 4) 6) Equal (known (pos 120) 6)) (built_in (write (plain (quoted (codes "never")) ∷ []) true))) ∷ [])) ∷
      [])

  text_index_empty_runs : outcome 4000 text_index_empty ([]) ≡ ends_with [] (said (codes "empty")) (said (codes "Runtime error 201")) 201
  unfolding outcome
  text_index_empty_runs = refl

  -- The index after the last character is outside, and nothing is stored
  abbrev text_index_high : Program
  text_index_high = program name
      []
      []
      (row name 7 Plain None ∷ row name 4 Plain None ∷ [])
      []
      []
      []
      []
      []
      (variable_id 0 ∷ variable_id 1 ∷ [])
      None
      ((listed (
      (assign (var 0 7) (quoted (codes "abc"))) ∷
      (assign (var 1 4) (known (pos 4) 4)) ∷
      (assign (at (var 0 7) (var 1 4) 6) (known (pos 120) 6)) ∷
      (built_in (write (plain (var 0 7) ∷ []) true)) ∷ [])) ∷
      [])

  text_index_high_runs : outcome 4000 text_index_high ([]) ≡ ends_with [] ([]) (said (codes "Runtime error 201")) 201
  unfolding outcome
  text_index_high_runs = refl

  -- Index 0 is outside of every text
  abbrev text_index_low : Program
  text_index_low = program name
      []
      []
      (row name 7 Plain None ∷ row name 4 Plain None ∷ [])
      []
      []
      []
      []
      []
      (variable_id 0 ∷ variable_id 1 ∷ [])
      None
      ((listed (
      (assign (var 0 7) (quoted (codes "abc"))) ∷
      (assign (var 1 4) (known (pos 0) 4)) ∷
      (built_in (write (plain (quoted (codes "before")) ∷ []) true)) ∷
      (built_in (write (plain (at (var 0 7) (var 1 4) 6) ∷ []) true)) ∷ [])) ∷
      [])

  text_index_low_runs : outcome 4000 text_index_low ([]) ≡ ends_with [] (said (codes "before")) (said (codes "Runtime error 201")) 201
  unfolding outcome
  text_index_low_runs = refl

  -- Characters of a variable, of a literal, of a call and of a bracketed sum
  abbrev text_index_read : Program
  text_index_read = program name
      []
      []
      (row name 7 Plain None ∷ row name 7 Result None ∷ [])
      (routine_row name (codes "f") FunctionKind OfUnit 0 (Some 7) 1 1 ∷ [])
      []
      []
      []
      []
      (variable_id 0 ∷ [])
      None
      ((listed (
      (assign (var 1 7) (quoted (codes "fgh"))) ∷ [])) ∷
      (listed (
      (assign (var 0 7) (quoted (codes "abc"))) ∷
      (built_in (write (plain (at (var 0 7) (known (pos 1) 4) 6) ∷ plain (at (var 0 7) (known (pos 3) 4) 6) ∷ plain (at (quoted (codes "klm")) (known (pos 2) 4) 6) ∷ plain (at (expression (call_of (routine_id 0) (argued [])) (id 7) no_steps) (known (pos 1) 4) 6) ∷ plain (at (then (with_q false 7 (var 0 7) Add (quoted (codes "d"))) bracket (id 7)) (known (pos 4) 4) 6) ∷ []) true)) ∷
      (built_in (write (plain (at (quoted (codes "xyz")) (known (pos 2) 4) 6) ∷ []) true)) ∷ [])) ∷
      [])

  text_index_read_runs : outcome 4000 text_index_read ([]) ≡ ends_with (asks 32 ∷ frees 1 ∷ []) (said (codes "aclfd") ++ said (codes "y")) ([]) 0
  unfolding outcome
  text_index_read_runs = refl

  -- A character is stored: in a literal's copy, with one holder, and with two holders
  abbrev text_index_store : Program
  text_index_store = program name
      []
      []
      (row name 7 Plain None ∷ row name 7 Plain None ∷ [])
      []
      []
      []
      []
      []
      (variable_id 0 ∷ variable_id 1 ∷ [])
      None
      ((listed (
      (assign (var 0 7) (quoted (codes "abc"))) ∷
      (assign (at (var 0 7) (known (pos 2) 4) 6) (known (pos 88) 6)) ∷
      (assign (at (var 0 7) (known (pos 1) 4) 6) (known (pos 89) 6)) ∷
      (assign (var 1 7) (var 0 7)) ∷
      (assign (at (var 1 7) (known (pos 3) 4) 6) (known (pos 90) 6)) ∷
      (assign (at (var 0 7) (known (pos 3) 4) 6) (known (pos 87) 6)) ∷
      (built_in (write (plain (var 0 7) ∷ plain (known (pos 32) 6) ∷ plain (var 1 7) ∷ []) true)) ∷ [])) ∷
      [])

  text_index_store_runs : outcome 4000 text_index_store ([]) ≡ ends_with (asks 32 ∷ asks 32 ∷ frees 1 ∷ frees 2 ∷ []) (said (codes "YXW YXZ")) ([]) 0
  unfolding outcome
  text_index_store_runs = refl

  -- Insert in front, within, behind and of nothing
  abbrev text_insert : Program
  text_insert = program name
      []
      []
      (row name 7 Plain None ∷ row name 7 (Parameter Const_) None ∷ row name 7 (Parameter Var) None ∷ row name 4 (Parameter Value) None ∷ [])
      (routine_row name (codes "insert") Procedure OfUnit 3 None 1 3 ∷ [])
      []
      []
      []
      []
      (variable_id 0 ∷ [])
      None
      ((listed (
      (if_then (with_q false 5 (var 3 4) Less (known (pos 1) 4)) (assign (var 3 4) (known (pos 1) 4))) ∷
      (if_then (with_q false 5 (var 3 4) Greater (with_q false 4 (applying Length false (var 2 7) 4) Add (known (pos 1) 4))) (assign (var 3 4) (with_q false 4 (applying Length false (var 2 7) 4) Add (known (pos 1) 4)))) ∷
      (assign (var 2 7) (with_q false 7 (with_q false 7 (then (var 2 7) (copy (known (pos 1) 4) (with_q false 4 (var 3 4) Subtract (known (pos 1) 4))) (id 7)) Add (var 1 7)) Add (then (var 2 7) (copy (var 3 4) (applying Length false (var 2 7) 4)) (id 7)))) ∷ [])) ∷
      (listed (
      (assign (var 0 7) (quoted (codes "bc"))) ∷
      (call (expression (call_of (routine_id 0) (argued (value (quoted (codes "a")) ∷ place (var 0 7) ∷ value (known (pos 1) 4) ∷ []))) (id 9) no_steps)) ∷
      (call (expression (call_of (routine_id 0) (argued (value (quoted (codes "e")) ∷ place (var 0 7) ∷ value (known (pos 99) 4) ∷ []))) (id 9) no_steps)) ∷
      (call (expression (call_of (routine_id 0) (argued (value (quoted (codes "d")) ∷ place (var 0 7) ∷ value (known (pos 4) 4) ∷ []))) (id 9) no_steps)) ∷
      (built_in (write (plain (var 0 7) ∷ []) true)) ∷
      (call (expression (call_of (routine_id 0) (argued (value (quoted ([])) ∷ place (var 0 7) ∷ value (known (pos 2) 4) ∷ []))) (id 9) no_steps)) ∷
      (call (expression (call_of (routine_id 0) (argued (value (var 0 7) ∷ place (var 0 7) ∷ value (known (pos 3) 4) ∷ []))) (id 9) no_steps)) ∷
      (call (expression (call_of (routine_id 0) (argued (value (quoted (codes "<")) ∷ place (var 0 7) ∷ value (known (negsuc 3) 4) ∷ []))) (id 9) no_steps)) ∷
      (built_in (write (plain (var 0 7) ∷ []) true)) ∷ [])) ∷
      [])

  text_insert_runs : outcome 4000 text_insert ([]) ≡ ends_with (asks 32 ∷ asks 32 ∷ frees 1 ∷ asks 32 ∷ asks 32 ∷ frees 3 ∷ frees 2 ∷ asks 32 ∷ asks 32 ∷ asks 32 ∷ asks 32 ∷ frees 7 ∷ frees 6 ∷ frees 5 ∷ frees 4 ∷ asks 32 ∷ asks 32 ∷ asks 32 ∷ frees 10 ∷ frees 9 ∷ frees 8 ∷ asks 32 ∷ asks 32 ∷ asks 32 ∷ asks 32 ∷ frees 14 ∷ frees 13 ∷ frees 12 ∷ frees 11 ∷ asks 32 ∷ asks 32 ∷ frees 16 ∷ frees 15 ∷ frees 17 ∷ []) (said (codes "abcde") ++ said (codes "<ababcdecde")) ([]) 0
  unfolding outcome
  text_insert_runs = refl

  -- Chars in sums: Char with Char, Char with text, text with Char
  abbrev text_join_chars : Program
  text_join_chars = program name
      []
      []
      (row name 6 Plain None ∷ row name 6 Plain None ∷ row name 7 Plain None ∷ [])
      []
      []
      []
      []
      []
      (variable_id 0 ∷ variable_id 1 ∷ variable_id 2 ∷ [])
      None
      ((listed (
      (assign (var 0 6) (known (pos 120) 6)) ∷
      (assign (var 1 6) (known (pos 121) 6)) ∷
      (assign (var 2 7) (with_q false 7 (to ToString 7 (var 0 6)) Add (to ToString 7 (var 1 6)))) ∷
      (built_in (write (plain (var 2 7) ∷ []) true)) ∷
      (assign (var 2 7) (with_q false 7 (with_q false 7 (to ToString 7 (var 0 6)) Add (var 2 7)) Add (to ToString 7 (var 1 6)))) ∷
      (built_in (write (plain (var 2 7) ∷ plain (applying Length false (var 2 7) 4) ∷ []) true)) ∷
      (assign (var 2 7) (to ToString 7 (var 0 6))) ∷
      (built_in (write (plain (var 2 7) ∷ plain (with_q false 5 (var 2 7) Equal (to ToString 7 (var 0 6))) ∷ plain (with_q false 5 (var 2 7) Less (to ToString 7 (var 1 6))) ∷ []) true)) ∷ [])) ∷
      [])

  text_join_chars_runs : outcome 4000 text_join_chars ([]) ≡ ends_with (asks 32 ∷ asks 32 ∷ asks 32 ∷ frees 2 ∷ frees 1 ∷ asks 32 ∷ asks 32 ∷ asks 32 ∷ asks 32 ∷ frees 6 ∷ frees 5 ∷ frees 3 ∷ frees 4 ∷ asks 32 ∷ frees 7 ∷ asks 32 ∷ asks 32 ∷ frees 10 ∷ frees 9 ∷ frees 8 ∷ []) (said (codes "xy") ++ said (codes "xxyy4") ++ said (codes "xTRUETRUE")) ([]) 0
  unfolding outcome
  text_join_chars_runs = refl

  -- A sum with an empty side has the other side's text and shares it
  abbrev text_join_empty : Program
  text_join_empty = program name
      []
      []
      (row name 7 Plain None ∷ row name 7 Plain None ∷ row name 7 Plain None ∷ row name 7 Plain None ∷ [])
      []
      []
      []
      []
      []
      (variable_id 0 ∷ variable_id 1 ∷ variable_id 2 ∷ variable_id 3 ∷ [])
      None
      ((listed (
      (assign (var 1 7) (quoted (codes "ab"))) ∷
      (assign (var 1 7) (with_q false 7 (var 1 7) Add (quoted (codes "c")))) ∷
      (assign (var 2 7) (with_q false 7 (var 1 7) Add (var 0 7))) ∷
      (assign (var 3 7) (with_q false 7 (var 0 7) Add (var 1 7))) ∷
      (assign (at (var 2 7) (known (pos 1) 4) 6) (known (pos 88) 6)) ∷
      (built_in (write (plain (var 1 7) ∷ plain (var 2 7) ∷ plain (var 3 7) ∷ plain (with_q false 7 (var 0 7) Add (var 0 7)) ∷ plain (known (pos 46) 6) ∷ []) true)) ∷ [])) ∷
      [])

  text_join_empty_runs : outcome 4000 text_join_empty ([]) ≡ ends_with (asks 32 ∷ asks 32 ∷ frees 2 ∷ frees 1 ∷ []) (said (codes "abcXbcabc.")) ([]) 0
  unfolding outcome
  text_join_empty_runs = refl

  -- A named text, a variable with a first value, and a literal
  abbrev text_literals : Program
  text_literals = program name
      []
      []
      (row name 7 Plain (Some (first_constant (Text (codes "xy")))) ∷ row name 7 Plain None ∷ [])
      []
      []
      []
      []
      []
      (variable_id 0 ∷ variable_id 1 ∷ [])
      None
      ((listed (
      (assign (var 1 7) (quoted (codes "abc"))) ∷
      (built_in (write (plain (var 0 7) ∷ plain (var 1 7) ∷ plain (quoted (codes "abc")) ∷ plain (known (pos 113) 6) ∷ []) true)) ∷
      (assign (var 0 7) (var 1 7)) ∷
      (built_in (write (plain (with_q false 5 (var 0 7) Equal (quoted (codes "abc"))) ∷ []) true)) ∷ [])) ∷
      [])

  text_literals_runs : outcome 4000 text_literals ([]) ≡ ends_with [] (said (codes "xyabcabcq") ++ said (codes "TRUE")) ([]) 0
  unfolding outcome
  text_literals_runs = refl

  -- A local text starts empty at each call, one with a first value starts with that
  abbrev text_local_starts_empty : Program
  text_local_starts_empty = program name
      []
      []
      (row name 7 Plain None ∷ row name 7 Plain (Some (first_constant (Text (codes "first")))) ∷ [])
      (routine_row name (codes "p") Procedure OfUnit 0 None 0 2 ∷ [])
      []
      []
      []
      []
      []
      None
      ((listed (
      (built_in (write (plain (applying Length false (var 0 7) 4) ∷ plain (var 1 7) ∷ []) true)) ∷
      (assign (var 0 7) (quoted (codes "used"))) ∷
      (assign (var 1 7) (with_q false 7 (var 1 7) Add (var 0 7))) ∷ [])) ∷
      (listed (
      (call (expression (call_of (routine_id 0) (argued [])) (id 9) no_steps)) ∷
      (call (expression (call_of (routine_id 0) (argued [])) (id 9) no_steps)) ∷ [])) ∷
      [])

  text_local_starts_empty_runs : outcome 4000 text_local_starts_empty ([]) ≡ ends_with (asks 32 ∷ frees 1 ∷ asks 32 ∷ frees 2 ∷ []) (said (codes "0first") ++ said (codes "0first")) ([]) 0
  unfolding outcome
  text_local_starts_empty_runs = refl

  -- Low of a text looks at the place: a field of nil ends with 216.
  abbrev text_low_of_nil_field : Program
  text_low_of_nil_field = program name
      (Class (class_id 0) ∷ Interface (interface_id 0) ∷ Class (class_id 1) ∷ Class (class_id 2) ∷ [])
      (part name 7 ∷ [])
      (row name 19 Plain None ∷ row name 16 ObjectRole None ∷ row name 16 ObjectRole None ∷ [])
      (routine_row name (codes "create") Constructor (OfClass (class_id 0)) 0 None 1 1 ∷ routine_row name (codes "destroy") Destructor (OfClass (class_id 0)) 0 None 2 1 ∷ [])
      (class_row (codes "TObject") 16 None 0 0 0 2 0 0 ∷ class_row (codes "TInterfacedObject") 18 (Some (class_id 0)) 0 0 2 0 0 1 ∷ class_row (codes "A") 19 (Some (class_id 0)) 0 1 2 0 1 0 ∷ [])
      (interface_row (codes "iunknown") 17 None 2 0 ∷ [])
      (method_row 0 Static false ∷ method_row 1 VirtualBinding false ∷ [])
      (interface_id 0 ∷ [])
      (variable_id 0 ∷ [])
      None
      ((listed ([])) ∷
      (listed ([])) ∷
      (listed (
      (built_in (write (plain (known (pos 98) 6) ∷ []) true)) ∷
      (built_in (write (plain (applying Low false (dot (var 0 19) 0 7) 4) ∷ []) true)) ∷ [])) ∷
      [])

  text_low_of_nil_field_runs : outcome 4000 text_low_of_nil_field ([]) ≡ ends_with [] (said (codes "b")) (said (codes "Runtime error 216")) 216
  unfolding outcome
  text_low_of_nil_field_runs = refl

  -- A left side that is a variable keeps its text while the right side changes the variable
  abbrev text_operand_changes : Program
  text_operand_changes = program name
      []
      []
      (row name 7 Plain None ∷ row name 7 Result None ∷ [])
      (routine_row name (codes "f") FunctionKind OfUnit 0 (Some 7) 1 1 ∷ [])
      []
      []
      []
      []
      (variable_id 0 ∷ [])
      None
      ((listed (
      (assign (var 0 7) (with_q false 7 (var 0 7) Add (quoted (codes "2")))) ∷
      (assign (var 1 7) (quoted (codes "f"))) ∷ [])) ∷
      (listed (
      (assign (var 0 7) (quoted (codes "one"))) ∷
      (built_in (write (plain (with_q false 7 (var 0 7) Add (expression (call_of (routine_id 0) (argued [])) (id 7) no_steps)) ∷ []) true)) ∷
      (built_in (write (plain (with_q false 5 (var 0 7) Equal (with_q false 7 (expression (call_of (routine_id 0) (argued [])) (id 7) no_steps) Add (var 0 7))) ∷ []) true)) ∷
      (assign (var 0 7) (with_q false 7 (var 0 7) Add (expression (call_of (routine_id 0) (argued [])) (id 7) no_steps))) ∷
      (built_in (write (plain (var 0 7) ∷ []) true)) ∷ [])) ∷
      [])

  text_operand_changes_runs : outcome 4000 text_operand_changes ([]) ≡ ends_with (asks 32 ∷ asks 32 ∷ frees 2 ∷ asks 32 ∷ asks 32 ∷ frees 4 ∷ frees 1 ∷ asks 32 ∷ asks 32 ∷ frees 5 ∷ frees 3 ∷ frees 6 ∷ []) (said (codes "onef") ++ said (codes "FALSE") ++ said (codes "one22f")) ([]) 0
  unfolding outcome
  text_operand_changes_runs = refl

  -- One variable given as a value and as out: the value is taken first, then the variable is emptied
  abbrev text_out_and_const_same : Program
  text_out_and_const_same = program name
      []
      []
      (row name 7 Plain None ∷ row name 7 (Parameter Value) None ∷ row name 7 (Parameter Out) None ∷ [])
      (routine_row name (codes "p") Procedure OfUnit 2 None 1 2 ∷ [])
      []
      []
      []
      []
      (variable_id 0 ∷ [])
      None
      ((listed (
      (built_in (write (plain (var 1 7) ∷ plain (applying Length false (var 2 7) 4) ∷ plain (applying Length false (var 0 7) 4) ∷ []) true)) ∷
      (assign (var 2 7) (with_q false 7 (var 1 7) Add (var 1 7))) ∷ [])) ∷
      (listed (
      (assign (var 0 7) (quoted (codes "ab"))) ∷
      (assign (var 0 7) (with_q false 7 (var 0 7) Add (quoted (codes "c")))) ∷
      (call (expression (call_of (routine_id 0) (argued (value (var 0 7) ∷ place (var 0 7) ∷ []))) (id 9) no_steps)) ∷
      (built_in (write (plain (var 0 7) ∷ []) true)) ∷ [])) ∷
      [])

  text_out_and_const_same_runs : outcome 4000 text_out_and_const_same ([]) ≡ ends_with (asks 32 ∷ asks 32 ∷ frees 1 ∷ frees 2 ∷ []) (said (codes "abc00") ++ said (codes "abcabc")) ([]) 0
  unfolding outcome
  text_out_and_const_same_runs = refl

  -- A variable becomes a piece of its own text, and the text of its own length
  abbrev text_piece_of_itself : Program
  text_piece_of_itself = program name
      []
      []
      (row name 7 Plain None ∷ [])
      []
      []
      []
      []
      []
      (variable_id 0 ∷ [])
      None
      ((listed (
      (assign (var 0 7) (quoted (codes "abcdef"))) ∷
      (assign (var 0 7) (then (var 0 7) (copy (known (pos 2) 4) (known (pos 3) 4)) (id 7))) ∷
      (built_in (write (plain (var 0 7) ∷ []) true)) ∷
      (assign (var 0 7) (with_q false 7 (then (var 0 7) (copy (known (pos 1) 4) (known (pos 2) 4)) (id 7)) Add (var 0 7))) ∷
      (built_in (write (plain (var 0 7) ∷ []) true)) ∷
      (built_in (str (plain (applying Length false (var 0 7) 4)) (var 0 7))) ∷
      (built_in (write (plain (var 0 7) ∷ []) true)) ∷ [])) ∷
      [])

  text_piece_of_itself_runs : outcome 4000 text_piece_of_itself ([]) ≡ ends_with (asks 32 ∷ asks 32 ∷ asks 32 ∷ frees 2 ∷ frees 1 ∷ asks 32 ∷ frees 3 ∷ frees 4 ∷ []) (said (codes "bcd") ++ said (codes "bcbcd") ++ said (codes "5")) ([]) 0
  unfolding outcome
  text_piece_of_itself_runs = refl

  -- Pos finds the first place, or 0
  abbrev text_pos : Program
  text_pos = program name
      []
      []
      (row name 7 Plain None ∷ row name 7 (Parameter Const_) None ∷ row name 7 (Parameter Const_) None ∷ row name 4 Result None ∷ row name 4 Plain None ∷ row name 4 Plain None ∷ [])
      (routine_row name (codes "pos") FunctionKind OfUnit 2 (Some 4) 1 5 ∷ [])
      []
      []
      []
      []
      (variable_id 0 ∷ [])
      None
      ((listed (
      (assign (var 3 4) (known (pos 0) 4)) ∷
      (if_then (with_q false 5 (applying Length false (var 1 7) 4) Equal (known (pos 0) 4)) (exit)) ∷
      (for_to (variable_id 4) (known (pos 1) 4) To (with_q false 4 (with_q false 4 (applying Length false (var 2 7) 4) Subtract (applying Length false (var 1 7) 4)) Add (known (pos 1) 4)) (block (listed (
      (assign (var 5 4) (known (pos 1) 4)) ∷
      (while_do (with_q false 5 (then (with_q false 5 (var 5 4) LessEqual (applying Length false (var 1 7) 4)) bracket (id 5)) And (then (with_q false 5 (at (var 2 7) (with_q false 4 (with_q false 4 (var 4 4) Add (var 5 4)) Subtract (known (pos 1) 4)) 6) Equal (at (var 1 7) (var 5 4) 6)) bracket (id 5))) (assign (var 5 4) (with_q false 4 (var 5 4) Add (known (pos 1) 4)))) ∷
      (if_then (with_q false 5 (var 5 4) Greater (applying Length false (var 1 7) 4)) (block (listed (
      (assign (var 3 4) (var 4 4)) ∷
      (exit) ∷ [])))) ∷ [])))) ∷ [])) ∷
      (listed (
      (assign (var 0 7) (quoted (codes "banana"))) ∷
      (built_in (write (plain (expression (call_of (routine_id 0) (argued (value (quoted (codes "an")) ∷ value (var 0 7) ∷ []))) (id 4) no_steps) ∷ plain (expression (call_of (routine_id 0) (argued (value (quoted (codes "na")) ∷ value (var 0 7) ∷ []))) (id 4) no_steps) ∷ plain (expression (call_of (routine_id 0) (argued (value (quoted (codes "x")) ∷ value (var 0 7) ∷ []))) (id 4) no_steps) ∷ []) true)) ∷
      (built_in (write (plain (expression (call_of (routine_id 0) (argued (value (quoted ([])) ∷ value (var 0 7) ∷ []))) (id 4) no_steps) ∷ plain (expression (call_of (routine_id 0) (argued (value (quoted (codes "banana")) ∷ value (var 0 7) ∷ []))) (id 4) no_steps) ∷ plain (expression (call_of (routine_id 0) (argued (value (quoted (codes "bananas")) ∷ value (var 0 7) ∷ []))) (id 4) no_steps) ∷ []) true)) ∷ [])) ∷
      [])

  text_pos_runs : outcome 4000 text_pos ([]) ≡ ends_with [] (said (codes "230") ++ said (codes "010")) ([]) 0
  unfolding outcome
  text_pos_runs = refl

  -- Texts in a routine that calls itself
  abbrev text_recursion : Program
  text_recursion = program name
      []
      []
      (row name 7 (Parameter Const_) None ∷ row name 7 Result None ∷ [])
      (routine_row name (codes "rev") FunctionKind OfUnit 1 (Some 7) 0 2 ∷ [])
      []
      []
      []
      []
      []
      None
      ((listed (
      (if_then (with_q false 5 (applying Length false (var 0 7) 4) Less (known (pos 2) 4)) (exit_with (var 0 7))) ∷
      (assign (var 1 7) (with_q false 7 (expression (call_of (routine_id 0) (argued (value (then (var 0 7) (copy (known (pos 2) 4) (applying Length false (var 0 7) 4)) (id 7)) ∷ []))) (id 7) no_steps) Add (to ToString 7 (at (var 0 7) (known (pos 1) 4) 6)))) ∷ [])) ∷
      (listed (
      (built_in (write (plain (expression (call_of (routine_id 0) (argued (value (quoted (codes "abcd")) ∷ []))) (id 7) no_steps) ∷ plain (expression (call_of (routine_id 0) (argued (value (quoted (codes "x")) ∷ []))) (id 7) no_steps) ∷ plain (expression (call_of (routine_id 0) (argued (value (quoted ([])) ∷ []))) (id 7) no_steps) ∷ []) true)) ∷ [])) ∷
      [])

  text_recursion_runs : outcome 4000 text_recursion ([]) ≡ ends_with (asks 32 ∷ asks 32 ∷ asks 32 ∷ asks 32 ∷ asks 32 ∷ frees 4 ∷ frees 3 ∷ asks 32 ∷ asks 32 ∷ frees 6 ∷ frees 5 ∷ frees 2 ∷ asks 32 ∷ asks 32 ∷ frees 8 ∷ frees 7 ∷ frees 1 ∷ frees 9 ∷ []) (said (codes "dcbax")) ([]) 0
  unfolding outcome
  text_recursion_runs = refl

  -- The result is a variable like others: an element of it is stored without touching its other holder
  abbrev text_result_shared : Program
  text_result_shared = program name
      []
      []
      (row name 7 Plain None ∷ row name 7 Result None ∷ [])
      (routine_row name (codes "f") FunctionKind OfUnit 0 (Some 7) 1 1 ∷ [])
      []
      []
      []
      []
      (variable_id 0 ∷ [])
      None
      ((listed (
      (assign (var 0 7) (quoted (codes "abc"))) ∷
      (assign (var 0 7) (with_q false 7 (var 0 7) Add (quoted (codes "d")))) ∷
      (assign (var 1 7) (var 0 7)) ∷
      (assign (at (var 1 7) (known (pos 1) 4) 6) (known (pos 88) 6)) ∷ [])) ∷
      (listed (
      (built_in (write (plain (expression (call_of (routine_id 0) (argued [])) (id 7) no_steps) ∷ plain (known (pos 32) 6) ∷ plain (var 0 7) ∷ []) true)) ∷ [])) ∷
      [])

  text_result_shared_runs : outcome 4000 text_result_shared ([]) ≡ ends_with (asks 32 ∷ asks 32 ∷ frees 2 ∷ frees 1 ∷ []) (said (codes "Xbcd abcd")) ([]) 0
  unfolding outcome
  text_result_shared_runs = refl

  -- A function that stores nothing gives the empty text, whatever its result is stored in
  abbrev text_result_starts_empty : Program
  text_result_starts_empty = program name
      []
      []
      (row name 7 Plain None ∷ row name 4 (Parameter Value) None ∷ row name 7 Result None ∷ [])
      (routine_row name (codes "f") FunctionKind OfUnit 1 (Some 7) 1 2 ∷ [])
      []
      []
      []
      []
      (variable_id 0 ∷ [])
      None
      ((listed (
      (if_then (with_q false 5 (var 1 4) Greater (known (pos 0) 4)) (assign (var 2 7) (quoted (codes "set")))) ∷ [])) ∷
      (listed (
      (assign (var 0 7) (expression (call_of (routine_id 0) (argued (value (known (pos 1) 4) ∷ []))) (id 7) no_steps)) ∷
      (built_in (write (plain (var 0 7) ∷ []) true)) ∷
      (assign (var 0 7) (expression (call_of (routine_id 0) (argued (value (known (pos 0) 4) ∷ []))) (id 7) no_steps)) ∷
      (built_in (write (plain (applying Length false (var 0 7) 4) ∷ []) true)) ∷ [])) ∷
      [])

  text_result_starts_empty_runs : outcome 4000 text_result_starts_empty ([]) ≡ ends_with [] (said (codes "set") ++ said (codes "0")) ([]) 0
  unfolding outcome
  text_result_starts_empty_runs = refl

  -- Functions that give texts: by Result, by their own name, and without storing anything
  abbrev text_results : Program
  text_results = program name
      []
      []
      (row name 7 Plain None ∷ row name 7 Result None ∷ row name 4 (Parameter Value) None ∷ row name 7 Result None ∷ [])
      (routine_row name (codes "a") FunctionKind OfUnit 0 (Some 7) 1 1 ∷ routine_row name (codes "b") FunctionKind OfUnit 1 (Some 7) 2 2 ∷ [])
      []
      []
      []
      []
      (variable_id 0 ∷ [])
      None
      ((listed (
      (assign (var 1 7) (quoted (codes "a"))) ∷
      (assign (var 1 7) (with_q false 7 (var 1 7) Add (quoted (codes "b")))) ∷ [])) ∷
      (listed (
      (if_then (with_q false 5 (var 2 4) Greater (known (pos 0) 4)) (assign (var 3 7) (with_q false 7 (expression (call_of (routine_id 0) (argued [])) (id 7) no_steps) Add (quoted (codes "c"))))) ∷ [])) ∷
      (listed (
      (assign (var 0 7) (expression (call_of (routine_id 1) (argued (value (known (pos 1) 4) ∷ []))) (id 7) no_steps)) ∷
      (built_in (write (plain (var 0 7) ∷ plain (expression (call_of (routine_id 0) (argued [])) (id 7) no_steps) ∷ plain (known (pos 46) 6) ∷ []) true)) ∷ [])) ∷
      [])

  text_results_runs : outcome 4000 text_results ([]) ≡ ends_with (asks 32 ∷ asks 32 ∷ frees 1 ∷ asks 32 ∷ frees 3 ∷ frees 2 ∷ []) (said (codes "abcab.")) ([]) 0
  unfolding outcome
  text_results_runs = refl

  -- A variable assigned to itself keeps its text, also when it is the only holder
  abbrev text_same_assign : Program
  text_same_assign = program name
      []
      []
      (row name 7 Plain None ∷ [])
      []
      []
      []
      []
      []
      (variable_id 0 ∷ [])
      None
      ((listed (
      (assign (var 0 7) (quoted (codes "ab"))) ∷
      (assign (var 0 7) (with_q false 7 (var 0 7) Add (quoted (codes "c")))) ∷
      (assign (var 0 7) (var 0 7)) ∷
      (assign (var 0 7) (with_q false 7 (var 0 7) Add (quoted ([])))) ∷
      (built_in (write (plain (var 0 7) ∷ []) true)) ∷
      (assign (var 0 7) (quoted ([]))) ∷
      (assign (var 0 7) (var 0 7)) ∷
      (built_in (write (plain (applying Length false (var 0 7) 4) ∷ []) true)) ∷ [])) ∷
      [])

  text_same_assign_runs : outcome 4000 text_same_assign ([]) ≡ ends_with (asks 32 ∷ frees 1 ∷ []) (said (codes "abc") ++ said (codes "0")) ([]) 0
  unfolding outcome
  text_same_assign_runs = refl

  -- SetLength: shorter, longer with zero bytes, same, none
  abbrev text_setlength : Program
  text_setlength = program name
      []
      []
      (row name 7 Plain None ∷ [])
      []
      []
      []
      []
      []
      (variable_id 0 ∷ [])
      None
      ((listed (
      (assign (var 0 7) (quoted (codes "hello"))) ∷
      (built_in (set_length (var 0 7) (known (pos 2) 4))) ∷
      (built_in (write (plain (var 0 7) ∷ []) true)) ∷
      (built_in (set_length (var 0 7) (known (pos 4) 4))) ∷
      (built_in (write (plain (applying Length false (var 0 7) 4) ∷ plain (to Keep 4 (at (var 0 7) (known (pos 3) 4) 6)) ∷ plain (to Keep 4 (at (var 0 7) (known (pos 4) 4) 6)) ∷ plain (at (var 0 7) (known (pos 2) 4) 6) ∷ []) true)) ∷
      (built_in (set_length (var 0 7) (known (pos 4) 4))) ∷
      (built_in (set_length (var 0 7) (known (pos 0) 4))) ∷
      (built_in (write (plain (applying Length false (var 0 7) 4) ∷ plain (with_q false 5 (var 0 7) Equal (quoted ([]))) ∷ []) true)) ∷ [])) ∷
      [])

  text_setlength_runs : outcome 4000 text_setlength ([]) ≡ ends_with (asks 32 ∷ asks 32 ∷ frees 1 ∷ frees 2 ∷ []) (said (codes "he") ++ said (codes "400e") ++ said (codes "0TRUE")) ([]) 0
  unfolding outcome
  text_setlength_runs = refl

  -- SetLength of a literal's text makes an own one
  abbrev text_setlength_literal : Program
  text_setlength_literal = program name
      []
      []
      (row name 7 Plain None ∷ row name 7 Plain None ∷ [])
      []
      []
      []
      []
      []
      (variable_id 0 ∷ variable_id 1 ∷ [])
      None
      ((listed (
      (assign (var 0 7) (quoted (codes "abc"))) ∷
      (built_in (set_length (var 0 7) (known (pos 3) 4))) ∷
      (assign (at (var 0 7) (known (pos 1) 4) 6) (known (pos 88) 6)) ∷
      (assign (var 1 7) (quoted (codes "abc"))) ∷
      (built_in (set_length (var 1 7) (known (pos 2) 4))) ∷
      (built_in (write (plain (var 0 7) ∷ plain (var 1 7) ∷ plain (quoted (codes "abc")) ∷ []) true)) ∷
      (assign (var 1 7) (quoted ([]))) ∷
      (built_in (set_length (var 1 7) (known (pos 1) 4))) ∷
      (built_in (write (plain (to Keep 4 (at (var 1 7) (known (pos 1) 4) 6)) ∷ []) true)) ∷ [])) ∷
      [])

  text_setlength_literal_runs : outcome 4000 text_setlength_literal ([]) ≡ ends_with (asks 32 ∷ asks 32 ∷ frees 2 ∷ asks 32 ∷ frees 1 ∷ frees 3 ∷ []) (said (codes "Xbcababc") ++ said (codes "0")) ([]) 0
  unfolding outcome
  text_setlength_literal_runs = refl

  -- A negative length is an error
  abbrev text_setlength_negative : Program
  text_setlength_negative = program name
      []
      []
      (row name 7 Plain None ∷ row name 4 Plain None ∷ [])
      []
      []
      []
      []
      []
      (variable_id 0 ∷ variable_id 1 ∷ [])
      None
      ((listed (
      (assign (var 0 7) (quoted (codes "ab"))) ∷
      (assign (var 1 4) (known (negsuc 0) 4)) ∷
      (built_in (write (plain (var 0 7) ∷ []) true)) ∷
      (built_in (set_length (var 0 7) (var 1 4))) ∷
      (built_in (write (plain (quoted (codes "never")) ∷ []) true)) ∷ [])) ∷
      [])

  text_setlength_negative_runs : outcome 4000 text_setlength_negative ([]) ≡ ends_with [] (said (codes "ab")) (said (codes "Runtime error 201")) 201
  unfolding outcome
  text_setlength_negative_runs = refl

  -- After SetLength the variable is the only holder, even with the same length
  abbrev text_setlength_shared : Program
  text_setlength_shared = program name
      []
      []
      (row name 7 Plain None ∷ row name 7 Plain None ∷ [])
      []
      []
      []
      []
      []
      (variable_id 0 ∷ variable_id 1 ∷ [])
      None
      ((listed (
      (assign (var 0 7) (quoted (codes "ab"))) ∷
      (assign (var 0 7) (with_q false 7 (var 0 7) Add (quoted (codes "c")))) ∷
      (assign (var 1 7) (var 0 7)) ∷
      (built_in (set_length (var 1 7) (known (pos 3) 4))) ∷
      (assign (at (var 1 7) (known (pos 1) 4) 6) (known (pos 88) 6)) ∷
      (built_in (write (plain (var 0 7) ∷ plain (var 1 7) ∷ []) true)) ∷
      (assign (var 1 7) (var 0 7)) ∷
      (built_in (set_length (var 1 7) (known (pos 1) 4))) ∷
      (built_in (set_length (var 0 7) (known (pos 5) 4))) ∷
      (built_in (write (plain (var 1 7) ∷ plain (applying Length false (var 0 7) 4) ∷ plain (at (var 0 7) (known (pos 3) 4) 6) ∷ []) true)) ∷ [])) ∷
      [])

  text_setlength_shared_runs : outcome 4000 text_setlength_shared ([]) ≡ ends_with (asks 32 ∷ asks 32 ∷ frees 2 ∷ asks 32 ∷ asks 32 ∷ frees 1 ∷ frees 4 ∷ frees 3 ∷ []) (said (codes "abcXbc") ++ said (codes "a5c")) ([]) 0
  unfolding outcome
  text_setlength_shared_runs = refl

  -- Texts whose blocks are just full and just too large for one size
  abbrev text_sizes : Program
  text_sizes = program name
      []
      []
      (row name 7 Plain None ∷ row name 7 Plain None ∷ [])
      []
      []
      []
      []
      []
      (variable_id 0 ∷ variable_id 1 ∷ [])
      None
      ((listed (
      (built_in (set_length (var 0 7) (known (pos 15) 4))) ∷
      (assign (var 1 7) (with_q false 7 (var 0 7) Add (quoted (codes "x")))) ∷
      (built_in (write (plain (applying Length false (var 0 7) 4) ∷ plain (known (pos 32) 6) ∷ plain (applying Length false (var 1 7) 4) ∷ []) true)) ∷
      (built_in (set_length (var 0 7) (known (pos 31) 4))) ∷
      (assign (var 1 7) (with_q false 7 (var 0 7) Add (quoted ([])))) ∷
      (built_in (set_length (var 1 7) (known (pos 32) 4))) ∷
      (built_in (write (plain (applying Length false (var 0 7) 4) ∷ plain (known (pos 32) 6) ∷ plain (applying Length false (var 1 7) 4) ∷ plain (known (pos 32) 6) ∷ plain (applying Length false (with_q false 7 (var 0 7) Add (var 1 7)) 4) ∷ []) true)) ∷ [])) ∷
      [])

  text_sizes_runs : outcome 4000 text_sizes ([]) ≡ ends_with (asks 32 ∷ asks 48 ∷ asks 48 ∷ frees 1 ∷ frees 2 ∷ asks 64 ∷ asks 80 ∷ frees 5 ∷ frees 3 ∷ frees 4 ∷ []) (said (codes "15 16") ++ said (codes "31 32 63")) ([]) 0
  unfolding outcome
  text_sizes_runs = refl

  -- A character is stored in a value parameter, in a field and in an element
  abbrev text_store_in_parameter : Program
  text_store_in_parameter = program name
      (Record (rows_at 0 1) ∷ Subrange (id 4) (pos 0) (pos 1) ∷ Array (id 17) (id 7) ∷ [])
      (part name 7 ∷ [])
      (row name 7 Plain None ∷ row name 16 Plain None ∷ row name 18 Plain None ∷ row name 7 (Parameter Value) None ∷ [])
      (routine_row name (codes "p") Procedure OfUnit 1 None 3 1 ∷ [])
      []
      []
      []
      []
      (variable_id 0 ∷ variable_id 1 ∷ variable_id 2 ∷ [])
      None
      ((listed (
      (assign (at (var 3 7) (known (pos 1) 4) 6) (known (pos 80) 6)) ∷
      (built_in (write (plain (var 3 7) ∷ []) true)) ∷ [])) ∷
      (listed (
      (assign (var 0 7) (quoted (codes "gg"))) ∷
      (assign (dot (var 1 16) 0 7) (var 0 7)) ∷
      (assign (at (var 2 18) (known (pos 1) 4) 7) (dot (var 1 16) 0 7)) ∷
      (call (expression (call_of (routine_id 0) (argued (value (at (var 2 18) (known (pos 1) 4) 7) ∷ []))) (id 9) no_steps)) ∷
      (assign (at (dot (var 1 16) 0 7) (known (pos 2) 4) 6) (known (pos 70) 6)) ∷
      (assign (at (at (var 2 18) (known (pos 1) 4) 7) (known (pos 1) 4) 6) (known (pos 69) 6)) ∷
      (built_in (write (plain (var 0 7) ∷ plain (dot (var 1 16) 0 7) ∷ plain (at (var 2 18) (known (pos 1) 4) 7) ∷ []) true)) ∷ [])) ∷
      [])

  text_store_in_parameter_runs : outcome 4000 text_store_in_parameter ([]) ≡ ends_with (asks 32 ∷ frees 1 ∷ asks 32 ∷ asks 32 ∷ frees 2 ∷ frees 3 ∷ []) (said (codes "Pg") ++ said (codes "gggFEg")) ([]) 0
  unfolding outcome
  text_store_in_parameter_runs = refl

  -- The right side of a store runs first, then the index, then the character goes in
  abbrev text_store_order : Program
  text_store_order = program name
      []
      []
      (row name 7 Plain None ∷ row name 4 Result None ∷ row name 6 Result None ∷ [])
      (routine_row name (codes "i") FunctionKind OfUnit 0 (Some 4) 1 1 ∷ routine_row name (codes "c") FunctionKind OfUnit 0 (Some 6) 2 1 ∷ [])
      []
      []
      []
      []
      (variable_id 0 ∷ [])
      None
      ((listed (
      (built_in (write (plain (known (pos 105) 6) ∷ []) false)) ∷
      (assign (var 0 7) (with_q false 7 (var 0 7) Add (quoted (codes "d")))) ∷
      (assign (var 1 4) (known (pos 4) 4)) ∷ [])) ∷
      (listed (
      (built_in (write (plain (known (pos 99) 6) ∷ []) false)) ∷
      (assign (var 0 7) (with_q false 7 (var 0 7) Add (quoted (codes "x")))) ∷
      (assign (var 2 6) (known (pos 81) 6)) ∷ [])) ∷
      (listed (
      (assign (var 0 7) (quoted (codes "ab"))) ∷
      (assign (at (var 0 7) (expression (call_of (routine_id 0) (argued [])) (id 4) no_steps) 6) (expression (call_of (routine_id 1) (argued [])) (id 6) no_steps)) ∷
      (built_in (write (plain (known (pos 32) 6) ∷ plain (var 0 7) ∷ []) true)) ∷ [])) ∷
      [])

  text_store_order_runs : outcome 4000 text_store_order ([]) ≡ ends_with (asks 32 ∷ asks 32 ∷ frees 1 ∷ frees 2 ∷ []) (said (codes "ci abxQ")) ([]) 0
  unfolding outcome
  text_store_order_runs = refl

  -- Str of numbers, alone and with a width
  abbrev text_str : Program
  text_str = program name
      []
      []
      (row name 7 Plain None ∷ [])
      []
      []
      []
      []
      []
      (variable_id 0 ∷ [])
      None
      ((listed (
      (built_in (str (plain (known (pos 0) 4)) (var 0 7))) ∷
      (built_in (write (plain (var 0 7) ∷ []) true)) ∷
      (built_in (str (plain (known (negsuc 2147483647) 4)) (var 0 7))) ∷
      (built_in (write (plain (var 0 7) ∷ plain (applying Length false (var 0 7) 4) ∷ []) true)) ∷
      (built_in (str (padded (known (pos 42) 4) (known (pos 5) 4)) (var 0 7))) ∷
      (built_in (write (plain (known (pos 91) 6) ∷ plain (var 0 7) ∷ plain (known (pos 93) 6) ∷ []) true)) ∷
      (built_in (str (padded (known (pos 42) 4) (known (pos 1) 4)) (var 0 7))) ∷
      (built_in (write (plain (known (pos 91) 6) ∷ plain (var 0 7) ∷ plain (known (pos 93) 6) ∷ []) true)) ∷
      (built_in (str (padded (known (negsuc 2) 4) (known (pos 4) 4)) (var 0 7))) ∷
      (built_in (write (plain (known (pos 91) 6) ∷ plain (var 0 7) ∷ plain (known (pos 93) 6) ∷ []) true)) ∷ [])) ∷
      [])

  text_str_runs : outcome 4000 text_str ([]) ≡ ends_with (asks 32 ∷ asks 32 ∷ frees 1 ∷ asks 32 ∷ frees 2 ∷ asks 32 ∷ frees 3 ∷ asks 32 ∷ frees 4 ∷ frees 5 ∷ []) (said (codes "0") ++ said (codes "-214748364811") ++ said (codes "[   42]") ++ said (codes "[42]") ++ said (codes "[  -3]")) ([]) 0
  unfolding outcome
  text_str_runs = refl

  -- StringOfChar with a length, none and a negative one
  abbrev text_stringofchar : Program
  text_stringofchar = program name
      []
      []
      (row name 7 Plain None ∷ row name 6 (Parameter Value) None ∷ row name 4 (Parameter Value) None ∷ row name 7 Result None ∷ row name 4 Plain None ∷ [])
      (routine_row name (codes "stringofchar") FunctionKind OfUnit 2 (Some 7) 1 4 ∷ [])
      []
      []
      []
      []
      (variable_id 0 ∷ [])
      None
      ((listed (
      (if_then (with_q false 5 (var 2 4) Less (known (pos 0) 4)) (assign (var 2 4) (known (pos 0) 4))) ∷
      (built_in (set_length (var 3 7) (var 2 4))) ∷
      (for_to (variable_id 4) (known (pos 1) 4) To (var 2 4) (assign (at (var 3 7) (var 4 4) 6) (var 1 6))) ∷ [])) ∷
      (listed (
      (assign (var 0 7) (expression (call_of (routine_id 0) (argued (value (known (pos 45) 6) ∷ value (known (pos 4) 4) ∷ []))) (id 7) no_steps)) ∷
      (built_in (write (plain (var 0 7) ∷ plain (applying Length false (expression (call_of (routine_id 0) (argued (value (known (pos 120) 6) ∷ value (known (pos 0) 4) ∷ []))) (id 7) no_steps) 4) ∷ plain (applying Length false (expression (call_of (routine_id 0) (argued (value (known (pos 120) 6) ∷ value (known (negsuc 1) 4) ∷ []))) (id 7) no_steps) 4) ∷ []) true)) ∷
      (assign (at (var 0 7) (known (pos 2) 4) 6) (known (pos 43) 6)) ∷
      (built_in (write (plain (var 0 7) ∷ []) true)) ∷ [])) ∷
      [])

  text_stringofchar_runs : outcome 4000 text_stringofchar ([]) ≡ ends_with (asks 32 ∷ frees 1 ∷ []) (said (codes "----00") ++ said (codes "-+--")) ([]) 0
  unfolding outcome
  text_stringofchar_runs = refl

  -- The parts of a sum run from left to right
  abbrev text_sum_order : Program
  text_sum_order = program name
      []
      []
      (row name 4 (Parameter Value) None ∷ row name 7 Result None ∷ [])
      (routine_row name (codes "f") FunctionKind OfUnit 1 (Some 7) 0 2 ∷ [])
      []
      []
      []
      []
      []
      None
      ((listed (
      (built_in (write (plain (var 0 4) ∷ plain (known (pos 32) 6) ∷ []) false)) ∷
      (built_in (str (plain (var 0 4)) (var 1 7))) ∷ [])) ∷
      (listed (
      (built_in (write (plain (with_q false 7 (with_q false 7 (with_q false 7 (quoted (codes "a")) Add (expression (call_of (routine_id 0) (argued (value (known (pos 1) 4) ∷ []))) (id 7) no_steps)) Add (expression (call_of (routine_id 0) (argued (value (known (pos 2) 4) ∷ []))) (id 7) no_steps)) Add (then (with_q false 7 (expression (call_of (routine_id 0) (argued (value (known (pos 3) 4) ∷ []))) (id 7) no_steps) Add (expression (call_of (routine_id 0) (argued (value (known (pos 4) 4) ∷ []))) (id 7) no_steps)) bracket (id 7))) ∷ []) true)) ∷ [])) ∷
      [])

  text_sum_order_runs : outcome 4000 text_sum_order ([]) ≡ ends_with (asks 32 ∷ asks 32 ∷ asks 32 ∷ asks 32 ∷ asks 32 ∷ asks 32 ∷ asks 32 ∷ asks 32 ∷ frees 8 ∷ frees 7 ∷ frees 6 ∷ frees 5 ∷ frees 4 ∷ frees 3 ∷ frees 2 ∷ frees 1 ∷ []) (said (codes "1 2 3 4 a1234")) ([]) 0
  unfolding outcome
  text_sum_order_runs = refl

  -- UpCase changes small letters alone
  abbrev text_upcase : Program
  text_upcase = program name
      []
      []
      (row name 7 Plain None ∷ row name 4 Plain None ∷ [])
      []
      []
      []
      []
      []
      (variable_id 0 ∷ variable_id 1 ∷ [])
      None
      ((listed (
      (assign (var 0 7) (quoted (codes "aZ1z{"))) ∷
      (for_to (variable_id 1) (known (pos 1) 4) To (applying Length false (var 0 7) 4) (assign (at (var 0 7) (var 1 4) 6) (applying UpCase false (at (var 0 7) (var 1 4) 6) 6))) ∷
      (built_in (write (plain (var 0 7) ∷ []) true)) ∷ [])) ∷
      [])

  text_upcase_runs : outcome 4000 text_upcase ([]) ≡ ends_with (asks 32 ∷ frees 1 ∷ []) (said (codes "AZ1Z{")) ([]) 0
  unfolding outcome
  text_upcase_runs = refl

  -- Numbers just within and just outside of 32 bits
  abbrev text_val_32_bits : Program
  text_val_32_bits = program name
      []
      []
      (row name 4 Plain None ∷ row name 4 Plain None ∷ [])
      []
      []
      []
      []
      []
      (variable_id 0 ∷ variable_id 1 ∷ [])
      None
      ((listed (
      (built_in (val (quoted (codes "2147483648")) (target_at (var 0 4) Keep) (target_at (var 1 4) Keep))) ∷
      (built_in (write (plain (var 0 4) ∷ plain (known (pos 32) 6) ∷ plain (var 1 4) ∷ []) true)) ∷
      (built_in (val (quoted (codes "-2147483649")) (target_at (var 0 4) Keep) (target_at (var 1 4) Keep))) ∷
      (built_in (write (plain (var 0 4) ∷ plain (known (pos 32) 6) ∷ plain (var 1 4) ∷ []) true)) ∷
      (built_in (val (quoted (codes "$123456789")) (target_at (var 0 4) Keep) (target_at (var 1 4) Keep))) ∷
      (built_in (write (plain (var 0 4) ∷ plain (known (pos 32) 6) ∷ plain (var 1 4) ∷ []) true)) ∷
      (built_in (val (quoted (codes "99999999999")) (target_at (var 0 4) Keep) (target_at (var 1 4) Keep))) ∷
      (built_in (write (plain (var 0 4) ∷ plain (known (pos 32) 6) ∷ plain (var 1 4) ∷ []) true)) ∷
      (built_in (val (quoted (codes "%11111111111111111111111111111111")) (target_at (var 0 4) Keep) (target_at (var 1 4) Keep))) ∷
      (built_in (write (plain (var 0 4) ∷ plain (known (pos 32) 6) ∷ plain (var 1 4) ∷ []) true)) ∷ [])) ∷
      [])

  text_val_32_bits_runs : outcome 4000 text_val_32_bits ([]) ≡ ends_with [] (said (codes "0 10") ++ said (codes "0 11") ++ said (codes "0 10") ++ said (codes "0 10") ++ said (codes "-1 0")) ([]) 0
  unfolding outcome
  text_val_32_bits_runs = refl

  -- Faults that Val finds, with the place of the first wrong character
  abbrev text_val_bad : Program
  text_val_bad = program name
      []
      []
      (row name 4 Plain None ∷ row name 4 Plain None ∷ row name 7 (Parameter Const_) None ∷ [])
      (routine_row name (codes "p") Procedure OfUnit 1 None 2 1 ∷ [])
      []
      []
      []
      []
      (variable_id 0 ∷ variable_id 1 ∷ [])
      None
      ((listed (
      (assign (var 0 4) (known (pos 5) 4)) ∷
      (built_in (val (var 2 7) (target_at (var 0 4) Keep) (target_at (var 1 4) Keep))) ∷
      (built_in (write (plain (var 0 4) ∷ plain (known (pos 32) 6) ∷ plain (var 1 4) ∷ []) true)) ∷ [])) ∷
      (listed (
      (call (expression (call_of (routine_id 0) (argued (value (quoted ([])) ∷ []))) (id 9) no_steps)) ∷
      (call (expression (call_of (routine_id 0) (argued (value (quoted (codes "-")) ∷ []))) (id 9) no_steps)) ∷
      (call (expression (call_of (routine_id 0) (argued (value (quoted (codes "12x")) ∷ []))) (id 9) no_steps)) ∷
      (call (expression (call_of (routine_id 0) (argued (value (quoted (codes "y1")) ∷ []))) (id 9) no_steps)) ∷
      (call (expression (call_of (routine_id 0) (argued (value (quoted (codes "   ")) ∷ []))) (id 9) no_steps)) ∷
      (call (expression (call_of (routine_id 0) (argued (value (quoted (codes "1-")) ∷ []))) (id 9) no_steps)) ∷
      (call (expression (call_of (routine_id 0) (argued (value (quoted (codes "--1")) ∷ []))) (id 9) no_steps)) ∷
      (call (expression (call_of (routine_id 0) (argued (value (quoted (codes "$")) ∷ []))) (id 9) no_steps)) ∷
      (call (expression (call_of (routine_id 0) (argued (value (quoted (codes "$g")) ∷ []))) (id 9) no_steps)) ∷
      (call (expression (call_of (routine_id 0) (argued (value (quoted (codes "%2")) ∷ []))) (id 9) no_steps)) ∷
      (call (expression (call_of (routine_id 0) (argued (value (quoted (codes "&8")) ∷ []))) (id 9) no_steps)) ∷
      (call (expression (call_of (routine_id 0) (argued (value (quoted (codes "+ 1")) ∷ []))) (id 9) no_steps)) ∷ [])) ∷
      [])

  text_val_bad_runs : outcome 4000 text_val_bad ([]) ≡ ends_with [] (said (codes "0 1") ++ said (codes "0 2") ++ said (codes "0 3") ++ said (codes "0 1") ++ said (codes "0 4") ++ said (codes "0 2") ++ said (codes "0 2") ++ said (codes "0 2") ++ said (codes "0 2") ++ said (codes "0 2") ++ said (codes "0 2") ++ said (codes "0 2")) ([]) 0
  unfolding outcome
  text_val_bad_runs = refl

  -- Spellings that Val takes
  abbrev text_val_good : Program
  text_val_good = program name
      []
      []
      (row name 4 Plain None ∷ row name 4 Plain None ∷ row name 7 (Parameter Const_) None ∷ [])
      (routine_row name (codes "p") Procedure OfUnit 1 None 2 1 ∷ [])
      []
      []
      []
      []
      (variable_id 0 ∷ variable_id 1 ∷ [])
      None
      ((listed (
      (built_in (val (var 2 7) (target_at (var 0 4) Keep) (target_at (var 1 4) Keep))) ∷
      (built_in (write (plain (var 0 4) ∷ plain (known (pos 32) 6) ∷ plain (var 1 4) ∷ []) true)) ∷ [])) ∷
      (listed (
      (call (expression (call_of (routine_id 0) (argued (value (quoted (codes "12")) ∷ []))) (id 9) no_steps)) ∷
      (call (expression (call_of (routine_id 0) (argued (value (quoted (codes "-7")) ∷ []))) (id 9) no_steps)) ∷
      (call (expression (call_of (routine_id 0) (argued (value (quoted (codes "+5")) ∷ []))) (id 9) no_steps)) ∷
      (call (expression (call_of (routine_id 0) (argued (value (quoted (codes "  3")) ∷ []))) (id 9) no_steps)) ∷
      (call (expression (call_of (routine_id 0) (argued (value (quoted (codes "$fF")) ∷ []))) (id 9) no_steps)) ∷
      (call (expression (call_of (routine_id 0) (argued (value (quoted (codes "%101")) ∷ []))) (id 9) no_steps)) ∷
      (call (expression (call_of (routine_id 0) (argued (value (quoted (codes "&17")) ∷ []))) (id 9) no_steps)) ∷
      (call (expression (call_of (routine_id 0) (argued (value (quoted (codes "007")) ∷ []))) (id 9) no_steps)) ∷
      (call (expression (call_of (routine_id 0) (argued (value (quoted (codes "2147483647")) ∷ []))) (id 9) no_steps)) ∷
      (call (expression (call_of (routine_id 0) (argued (value (quoted (codes "-2147483648")) ∷ []))) (id 9) no_steps)) ∷
      (call (expression (call_of (routine_id 0) (argued (value (quoted (codes "$FFFFFFFF")) ∷ []))) (id 9) no_steps)) ∷ [])) ∷
      [])

  text_val_good_runs : outcome 4000 text_val_good ([]) ≡ ends_with [] (said (codes "12 0") ++ said (codes "-7 0") ++ said (codes "5 0") ++ said (codes "3 0") ++ said (codes "255 0") ++ said (codes "5 0") ++ said (codes "15 0") ++ said (codes "7 0") ++ said (codes "2147483647 0") ++ said (codes "-2147483648 0") ++ said (codes "-1 0")) ([]) 0
  unfolding outcome
  text_val_good_runs = refl

  -- Val stores into an element, a field and a Byte, whose low bits are kept
  abbrev text_val_places : Program
  text_val_places = program name
      (Record (rows_at 0 1) ∷ Subrange (id 4) (pos 0) (pos 1) ∷ Array (id 17) (id 4) ∷ [])
      (part name 4 ∷ [])
      (row name 18 Plain None ∷ row name 16 Plain None ∷ row name 1 Plain None ∷ row name 3 Plain None ∷ [])
      []
      []
      []
      []
      []
      (variable_id 0 ∷ variable_id 1 ∷ variable_id 2 ∷ variable_id 3 ∷ [])
      None
      ((listed (
      (built_in (val (quoted (codes "12")) (target_at (at (var 0 18) (known (pos 1) 4) 4) Keep) (target_at (dot (var 1 16) 0 4) Keep))) ∷
      (built_in (write (plain (at (var 0 18) (known (pos 1) 4) 4) ∷ plain (known (pos 32) 6) ∷ plain (dot (var 1 16) 0 4) ∷ []) true)) ∷
      (built_in (val (quoted (codes "1x")) (target_at (dot (var 1 16) 0 4) Keep) (target_at (at (var 0 18) (known (pos 0) 4) 4) Keep))) ∷
      (built_in (write (plain (dot (var 1 16) 0 4) ∷ plain (known (pos 32) 6) ∷ plain (at (var 0 18) (known (pos 0) 4) 4) ∷ []) true)) ∷
      (built_in (val (quoted (codes "300")) (target_at (var 2 1) LowBits) (target_at (var 3 3) LowBits))) ∷
      (built_in (write (plain (var 2 1) ∷ plain (known (pos 32) 6) ∷ plain (var 3 3) ∷ []) true)) ∷ [])) ∷
      [])

  text_val_places_runs : outcome 4000 text_val_places ([]) ≡ ends_with [] (said (codes "12 0") ++ said (codes "0 2") ++ said (codes "44 0")) ([]) 0
  unfolding outcome
  text_val_places_runs = refl

  -- No sign stands before a prefix, and x is none; blanks may stand in front alone
  abbrev text_val_prefixes : Program
  text_val_prefixes = program name
      []
      []
      (row name 4 Plain None ∷ row name 4 Plain None ∷ row name 7 (Parameter Const_) None ∷ [])
      (routine_row name (codes "p") Procedure OfUnit 1 None 2 1 ∷ [])
      []
      []
      []
      []
      (variable_id 0 ∷ variable_id 1 ∷ [])
      None
      ((listed (
      (built_in (val (var 2 7) (target_at (var 0 4) Keep) (target_at (var 1 4) Keep))) ∷
      (built_in (write (plain (var 0 4) ∷ plain (known (pos 32) 6) ∷ plain (var 1 4) ∷ []) true)) ∷ [])) ∷
      (listed (
      (call (expression (call_of (routine_id 0) (argued (value (quoted (codes "-$1")) ∷ []))) (id 9) no_steps)) ∷
      (call (expression (call_of (routine_id 0) (argued (value (quoted (codes "+%1")) ∷ []))) (id 9) no_steps)) ∷
      (call (expression (call_of (routine_id 0) (argued (value (quoted (codes "0x1")) ∷ []))) (id 9) no_steps)) ∷
      (call (expression (call_of (routine_id 0) (argued (value (quoted (codes "x1")) ∷ []))) (id 9) no_steps)) ∷
      (call (expression (call_of (routine_id 0) (argued (value (quoted (codes "1 ")) ∷ []))) (id 9) no_steps)) ∷
      (call (expression (call_of (routine_id 0) (argued (value (quoted ((32 ∷ 9 ∷ 55 ∷ []))) ∷ []))) (id 9) no_steps)) ∷ [])) ∷
      [])

  text_val_prefixes_runs : outcome 4000 text_val_prefixes ([]) ≡ ends_with [] (said (codes "0 2") ++ said (codes "0 2") ++ said (codes "0 2") ++ said (codes "0 1") ++ said (codes "0 2") ++ said (codes "7 0")) ([]) 0
  unfolding outcome
  text_val_prefixes_runs = refl

  -- One variable as a value and as var: the value keeps the old text
  abbrev text_value_and_var : Program
  text_value_and_var = program name
      []
      []
      (row name 7 Plain None ∷ row name 7 (Parameter Value) None ∷ row name 7 (Parameter Var) None ∷ [])
      (routine_row name (codes "p") Procedure OfUnit 2 None 1 2 ∷ [])
      []
      []
      []
      []
      (variable_id 0 ∷ [])
      None
      ((listed (
      (assign (var 2 7) (with_q false 7 (var 2 7) Add (quoted (codes "1")))) ∷
      (assign (at (var 2 7) (known (pos 1) 4) 6) (known (pos 88) 6)) ∷
      (built_in (write (plain (var 1 7) ∷ plain (known (pos 32) 6) ∷ plain (var 2 7) ∷ plain (known (pos 32) 6) ∷ plain (var 0 7) ∷ []) true)) ∷ [])) ∷
      (listed (
      (assign (var 0 7) (quoted (codes "ab"))) ∷
      (assign (var 0 7) (with_q false 7 (var 0 7) Add (quoted (codes "c")))) ∷
      (call (expression (call_of (routine_id 0) (argued (value (var 0 7) ∷ place (var 0 7) ∷ []))) (id 9) no_steps)) ∷
      (built_in (write (plain (var 0 7) ∷ []) true)) ∷ [])) ∷
      [])

  text_value_and_var_runs : outcome 4000 text_value_and_var ([]) ≡ ends_with (asks 32 ∷ asks 32 ∷ frees 1 ∷ frees 2 ∷ []) (said (codes "abc Xbc1 Xbc1") ++ said (codes "Xbc1")) ([]) 0
  unfolding outcome
  text_value_and_var_runs = refl

  -- Items are written one after the other: a call writes before its own item
  abbrev text_write_order : Program
  text_write_order = program name
      []
      []
      (row name 7 Plain None ∷ row name 7 Result None ∷ [])
      (routine_row name (codes "f") FunctionKind OfUnit 0 (Some 7) 1 1 ∷ [])
      []
      []
      []
      []
      (variable_id 0 ∷ [])
      None
      ((listed (
      (built_in (write (plain (quoted (codes "(f)")) ∷ []) false)) ∷
      (assign (var 0 7) (quoted (codes "changed"))) ∷
      (assign (var 1 7) (quoted (codes "f"))) ∷ [])) ∷
      (listed (
      (assign (var 0 7) (quoted (codes "first"))) ∷
      (built_in (write (plain (var 0 7) ∷ plain (known (pos 32) 6) ∷ plain (expression (call_of (routine_id 0) (argued [])) (id 7) no_steps) ∷ plain (known (pos 32) 6) ∷ plain (var 0 7) ∷ []) true)) ∷ [])) ∷
      [])

  text_write_order_runs : outcome 4000 text_write_order ([]) ≡ ends_with [] (said (codes "first (f)f changed")) ([]) 0
  unfolding outcome
  text_write_order_runs = refl

  -- Write with widths: texts, Chars, numbers and Booleans are padded and never cut
  abbrev text_write_widths : Program
  text_write_widths = program name
      []
      []
      (row name 7 Plain None ∷ row name 4 Plain None ∷ [])
      []
      []
      []
      []
      []
      (variable_id 0 ∷ variable_id 1 ∷ [])
      None
      ((listed (
      (assign (var 0 7) (quoted (codes "abc"))) ∷
      (assign (var 1 4) (known (pos 6) 4)) ∷
      (built_in (write (plain (known (pos 91) 6) ∷ padded (var 0 7) (var 1 4) ∷ plain (quoted (codes "][")) ∷ padded (var 0 7) (known (pos 2) 4) ∷ plain (quoted (codes "][")) ∷ padded (known (pos 120) 6) (known (pos 3) 4) ∷ plain (known (pos 93) 6) ∷ []) true)) ∷
      (built_in (write (plain (known (pos 91) 6) ∷ padded (known (pos 12) 4) (known (pos 4) 4) ∷ plain (quoted (codes "][")) ∷ padded (known (negsuc 11) 4) (known (pos 2) 4) ∷ plain (quoted (codes "][")) ∷ padded (with_q false 5 (known (pos 1) 4) Equal (known (pos 1) 4)) (known (pos 6) 4) ∷ plain (quoted (codes "][")) ∷ padded (with_q false 5 (known (pos 1) 4) Equal (known (pos 2) 4)) (known (pos 1) 4) ∷ plain (known (pos 93) 6) ∷ []) true)) ∷
      (built_in (write (plain (known (pos 91) 6) ∷ padded (var 0 7) (known (pos 0) 4) ∷ plain (quoted (codes "][")) ∷ padded (known (pos 32) 6) (known (pos 1) 4) ∷ plain (known (pos 93) 6) ∷ []) true)) ∷ [])) ∷
      [])

  text_write_widths_runs : outcome 4000 text_write_widths ([]) ≡ ends_with [] (said (codes "[   abc][abc][  x]") ++ said (codes "[  12][-12][  TRUE][FALSE]") ++ said (codes "[abc][ ]")) ([]) 0
  unfolding outcome
  text_write_widths_runs = refl
