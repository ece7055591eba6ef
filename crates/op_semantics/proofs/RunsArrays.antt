-- Dynamic and open arrays, records and arrays with managed parts, for in. Each program stands above what it comes to; tests/semantics makes this file of the
-- texts in tests/semantics.d, and tells how what is expected was found.
use Rattle.std.specs.Prelude.{◌≡◌, pos, negsuc, true, false, [], ◌∷◌, ◌++◌, codes, Some, None}
use Rattle.std.proofs.Common.{refl}
use Rattle.op_core.specs.Expression.{expression, call as call_of, construct, no_steps, then, bracket, copy, one, range, value, place, array as whole_array, no_expressions, expressions}
use Rattle.op_core.specs.Statement.{assign, call, block, if_then, if_else, for_to, for_in, try_on_else, no_handlers, raise, exit_with, break, continue, built_in, write, count, set_length, str, plain}
use Rattle.op_core.specs.Types.{id}
use Rattle.op_core.specs.declared.class.Binding.TheVariants.{Static, Virtual as VirtualBinding}
use Rattle.op_core.specs.declared.operation.Conversion.TheVariants.{Keep, LowBits}
use Rattle.op_core.specs.declared.operation.Function.TheVariants.{Length, Low, High, Assigned, Whole}
use Rattle.op_core.specs.declared.routine.Owner.TheVariants.{Unit as OfUnit, Class as OfClass}
use Rattle.op_core.specs.declared.routine.Role.TheVariants.{Plain, Parameter, Object as ObjectRole, Result}
use Rattle.op_core.specs.declared.types.CoreType.TheVariants.{Subrange, Enumeration, Set, Record, Array, DynamicArray, OpenArray, Class, Interface}
use Rattle.op_meaning.proofs.Programs.{said, var, known, quoted, with_q, applying, to, at, dot, set_of_all, argued, listed, rows_at, part}
use Rattle.op_semantics.proofs.Programs.{outcome, ends_with, asks, makes, frees, nothing, variable_id, routine_id, class_id, interface_id, target_at, listed_as, row, routine_row, class_row, method_row, interface_row, program}
use Rattle.op_semantics.specs.Frames.{Program}
use Rattle.op_tree.specs.declared.heading.ParameterMode.TheVariants.{Value, Var, Const_, Out}
use Rattle.op_tree.specs.declared.heading.RoutineKind.TheVariants.{Procedure, Function as FunctionKind, Constructor, Destructor}
use Rattle.op_tree.specs.declared.operator.Operator.TheVariants.{Equal, NotEqual, Greater, GreaterEqual, Add, Subtract, Multiply}
use Rattle.op_tree.specs.declared.position.Name.{Name}
use Rattle.op_tree.specs.declared.statement.Direction.TheVariants.{To}

module _ (name : Name) where
  -- Literals, texts and arrays by value are made in the order of the arguments.
  abbrev array_arguments_in_order : Program
  array_arguments_in_order = program name
      (DynamicArray (id 4) ∷ OpenArray (id 4) ∷ [])
      []
      (row name 7 Plain None ∷ row name 16 Plain None ∷ row name 17 (Parameter Const_) None ∷ row name 7 (Parameter Const_) None ∷ row name 17 (Parameter Value) None ∷ [])
      (routine_row name (codes "p") Procedure OfUnit 3 None 2 3 ∷ [])
      []
      []
      []
      []
      (variable_id 0 ∷ variable_id 1 ∷ [])
      None
      ((listed (
      (built_in (write (plain (applying Length false (var 2 17) 4) ∷ plain (applying Length false (var 4 17) 4) ∷ []) true)) ∷
      (if_then (with_q false 5 (applying Length false (var 2 17) 4) Greater (known (pos 0) 4)) (built_in (write (plain (at (var 2 17) (known (pos 0) 4) 4) ∷ plain (at (var 2 17) (known (pos 1) 4) 4) ∷ plain (var 3 7) ∷ []) true))) ∷ [])) ∷
      (listed (
      (assign (var 0 7) (quoted (codes "q"))) ∷
      (built_in (set_length (var 1 16) (known (pos 3) 4))) ∷
      (call (expression (call_of (routine_id 0) (argued (listed_as (id 17) (expressions (known (pos 8) 4) (expressions (known (pos 9) 4) no_expressions)) ∷ value (var 0 7) ∷ whole_array (var 1 16) ∷ []))) (id 9) no_steps)) ∷ [])) ∷
      [])

  array_arguments_in_order_runs : outcome 4000 array_arguments_in_order ([]) ≡ ends_with (asks 32 ∷ asks 32 ∷ frees 2 ∷ frees 1 ∷ []) (said (codes "23") ++ said (codes "89q")) ([]) 0
  unfolding outcome
  array_arguments_in_order_runs = refl

  -- Brackets round an open array do not copy it; Copy does.
  abbrev array_brackets_round_open : Program
  array_brackets_round_open = program name
      (OpenArray (id 7) ∷ [])
      []
      (row name 7 Plain None ∷ row name 16 (Parameter Const_) None ∷ row name 4 Plain None ∷ [])
      (routine_row name (codes "p") Procedure OfUnit 1 None 1 2 ∷ [])
      []
      []
      []
      []
      (variable_id 0 ∷ [])
      None
      ((listed (
      (for_to (variable_id 2) (known (pos 0) 4) To (applying High false (var 1 16) 4) (built_in (write (plain (at (then (var 1 16) bracket (id 16)) (var 2 4) 7) ∷ []) true))) ∷
      (built_in (write (plain (applying Length false (then (var 1 16) bracket (id 16)) 4) ∷ []) true)) ∷ [])) ∷
      (listed (
      (assign (var 0 7) (quoted (codes "x"))) ∷
      (call (expression (call_of (routine_id 0) (argued (listed_as (id 16) (expressions (var 0 7) (expressions (with_q false 7 (var 0 7) Add (quoted (codes "y"))) no_expressions)) ∷ []))) (id 9) no_steps)) ∷ [])) ∷
      [])

  array_brackets_round_open_runs : outcome 4000 array_brackets_round_open ([]) ≡ ends_with (asks 32 ∷ frees 1 ∷ []) (said (codes "x") ++ said (codes "xy") ++ said (codes "2")) ([]) 0
  unfolding outcome
  array_brackets_round_open_runs = refl

  -- Arrays with equal elements are not the same array; two empty ones are
  abbrev array_compare : Program
  array_compare = program name
      (DynamicArray (id 4) ∷ [])
      []
      (row name 16 Plain None ∷ row name 16 Plain None ∷ [])
      []
      []
      []
      []
      []
      (variable_id 0 ∷ variable_id 1 ∷ [])
      None
      ((listed (
      (built_in (set_length (var 0 16) (known (pos 1) 4))) ∷
      (built_in (set_length (var 1 16) (known (pos 1) 4))) ∷
      (built_in (write (plain (with_q false 5 (var 0 16) Equal (var 1 16)) ∷ plain (with_q false 5 (var 0 16) NotEqual (var 1 16)) ∷ plain (with_q false 5 (var 0 16) Equal (to Keep 16 nothing)) ∷ plain (with_q false 5 (var 1 16) NotEqual (to Keep 16 nothing)) ∷ []) true)) ∷
      (assign (var 1 16) (var 0 16)) ∷
      (built_in (write (plain (with_q false 5 (var 0 16) Equal (var 1 16)) ∷ []) true)) ∷
      (assign (var 0 16) (to Keep 16 nothing)) ∷
      (built_in (set_length (var 1 16) (known (pos 0) 4))) ∷
      (built_in (write (plain (with_q false 5 (var 0 16) Equal (var 1 16)) ∷ []) true)) ∷ [])) ∷
      [])

  array_compare_runs : outcome 4000 array_compare ([]) ≡ ends_with (asks 32 ∷ asks 32 ∷ frees 2 ∷ frees 1 ∷ []) (said (codes "FALSETRUEFALSETRUE") ++ said (codes "TRUE") ++ said (codes "TRUE")) ([]) 0
  unfolding outcome
  array_compare_runs = refl

  -- Copy of an array: whole, a piece, past the end, below 0, of nothing
  abbrev array_copy : Program
  array_copy = program name
      (DynamicArray (id 4) ∷ OpenArray (id 4) ∷ [])
      []
      (row name 16 Plain None ∷ row name 16 Plain None ∷ row name 4 Plain None ∷ row name 17 (Parameter Const_) None ∷ row name 4 Plain None ∷ [])
      (routine_row name (codes "p") Procedure OfUnit 1 None 3 2 ∷ [])
      []
      []
      []
      []
      (variable_id 0 ∷ variable_id 1 ∷ variable_id 2 ∷ [])
      None
      ((listed (
      (for_to (variable_id 4) (known (pos 0) 4) To (applying High false (var 3 17) 4) (built_in (write (plain (at (var 3 17) (var 4 4) 4) ∷ plain (known (pos 32) 6) ∷ []) false))) ∷
      (built_in (write (plain (known (pos 110) 6) ∷ plain (applying Length false (var 3 17) 4) ∷ []) true)) ∷ [])) ∷
      (listed (
      (built_in (set_length (var 0 16) (known (pos 4) 4))) ∷
      (for_to (variable_id 2) (known (pos 0) 4) To (known (pos 3) 4) (assign (at (var 0 16) (var 2 4) 4) (with_q false 4 (var 2 4) Add (known (pos 1) 4)))) ∷
      (assign (var 1 16) (applying Whole false (var 0 16) 16)) ∷
      (assign (at (var 1 16) (known (pos 0) 4) 4) (known (pos 9) 4)) ∷
      (call (expression (call_of (routine_id 0) (argued (whole_array (var 0 16) ∷ []))) (id 9) no_steps)) ∷
      (call (expression (call_of (routine_id 0) (argued (whole_array (var 1 16) ∷ []))) (id 9) no_steps)) ∷
      (assign (var 1 16) (then (var 0 16) (copy (known (pos 1) 4) (known (pos 2) 4)) (id 16))) ∷
      (call (expression (call_of (routine_id 0) (argued (whole_array (var 1 16) ∷ []))) (id 9) no_steps)) ∷
      (assign (var 1 16) (then (var 0 16) (copy (known (pos 2) 4) (known (pos 99) 4)) (id 16))) ∷
      (call (expression (call_of (routine_id 0) (argued (whole_array (var 1 16) ∷ []))) (id 9) no_steps)) ∷
      (assign (var 1 16) (then (var 0 16) (copy (known (pos 4) 4) (known (pos 1) 4)) (id 16))) ∷
      (call (expression (call_of (routine_id 0) (argued (whole_array (var 1 16) ∷ []))) (id 9) no_steps)) ∷
      (built_in (write (plain (with_q false 5 (then (var 0 16) (copy (known (pos 1) 4) (known (pos 0) 4)) (id 16)) Equal (to Keep 16 nothing)) ∷ []) true)) ∷ [])) ∷
      [])

  array_copy_runs : outcome 4000 array_copy ([]) ≡ ends_with (asks 32 ∷ asks 32 ∷ asks 32 ∷ frees 2 ∷ asks 32 ∷ frees 3 ∷ frees 4 ∷ frees 1 ∷ []) (said (codes "1 2 3 4 n4") ++ said (codes "9 2 3 4 n4") ++ said (codes "2 3 n2") ++ said (codes "3 4 n2") ++ said (codes "n0") ++ said (codes "TRUE")) ([]) 0
  unfolding outcome
  array_copy_runs = refl

  -- A first place below 0 counts as 0
  abbrev array_copy_below : Program
  array_copy_below = program name
      (DynamicArray (id 4) ∷ [])
      []
      (row name 16 Plain None ∷ row name 16 Plain None ∷ [])
      []
      []
      []
      []
      []
      (variable_id 0 ∷ variable_id 1 ∷ [])
      None
      ((listed (
      (built_in (set_length (var 0 16) (known (pos 2) 4))) ∷
      (assign (at (var 0 16) (known (pos 0) 4) 4) (known (pos 5) 4)) ∷
      (assign (var 1 16) (then (var 0 16) (copy (known (negsuc 0) 4) (known (pos 1) 4)) (id 16))) ∷
      (built_in (write (plain (applying Length false (var 1 16) 4) ∷ plain (at (var 1 16) (known (pos 0) 4) 4) ∷ []) true)) ∷ [])) ∷
      [])

  array_copy_below_runs : outcome 4000 array_copy_below ([]) ≡ ends_with (asks 32 ∷ asks 32 ∷ frees 1 ∷ frees 2 ∷ []) (said (codes "15")) ([]) 0
  unfolding outcome
  array_copy_below_runs = refl

  -- A copy of an array of arrays has the same rows
  abbrev array_copy_of_arrays : Program
  array_copy_of_arrays = program name
      (DynamicArray (id 4) ∷ DynamicArray (id 16) ∷ [])
      []
      (row name 17 Plain None ∷ row name 17 Plain None ∷ [])
      []
      []
      []
      []
      []
      (variable_id 0 ∷ variable_id 1 ∷ [])
      None
      ((listed (
      (built_in (set_length (var 0 17) (known (pos 2) 4))) ∷
      (built_in (set_length (at (var 0 17) (known (pos 1) 4) 16) (known (pos 1) 4))) ∷
      (assign (var 1 17) (applying Whole false (var 0 17) 17)) ∷
      (assign (at (at (var 1 17) (known (pos 1) 4) 16) (known (pos 0) 4) 4) (known (pos 4) 4)) ∷
      (assign (at (var 1 17) (known (pos 0) 4) 16) (at (var 1 17) (known (pos 1) 4) 16)) ∷
      (built_in (write (plain (at (at (var 0 17) (known (pos 1) 4) 16) (known (pos 0) 4) 4) ∷ plain (applying Length false (at (var 0 17) (known (pos 0) 4) 16) 4) ∷ plain (with_q false 5 (var 0 17) Equal (var 1 17)) ∷ plain (with_q false 5 (at (var 0 17) (known (pos 1) 4) 16) Equal (at (var 1 17) (known (pos 0) 4) 16)) ∷ []) true)) ∷ [])) ∷
      [])

  array_copy_of_arrays_runs : outcome 4000 array_copy_of_arrays ([]) ≡ ends_with (asks 32 ∷ asks 32 ∷ asks 32 ∷ frees 1 ∷ frees 2 ∷ frees 3 ∷ []) (said (codes "40FALSETRUE")) ([]) 0
  unfolding outcome
  array_copy_of_arrays_runs = refl

  -- The right side has its effect though the index is found bad afterwards
  abbrev array_error_after_side : Program
  array_error_after_side = program name
      (DynamicArray (id 4) ∷ [])
      []
      (row name 16 Plain None ∷ row name 4 Plain None ∷ row name 4 Result None ∷ [])
      (routine_row name (codes "f") FunctionKind OfUnit 0 (Some 4) 2 1 ∷ [])
      []
      []
      []
      []
      (variable_id 0 ∷ variable_id 1 ∷ [])
      None
      ((listed (
      (built_in (write (plain (quoted (codes "right side")) ∷ []) true)) ∷
      (assign (var 2 4) (known (pos 3) 4)) ∷ [])) ∷
      (listed (
      (built_in (set_length (var 0 16) (known (pos 2) 4))) ∷
      (assign (var 1 4) (known (pos 2) 4)) ∷
      (assign (at (var 0 16) (var 1 4) 4) (expression (call_of (routine_id 0) (argued [])) (id 4) no_steps)) ∷
      (built_in (write (plain (quoted (codes "never")) ∷ []) true)) ∷ [])) ∷
      [])

  array_error_after_side_runs : outcome 4000 array_error_after_side ([]) ≡ ends_with (asks 32 ∷ []) (said (codes "right side")) (said (codes "Runtime error 201")) 201
  unfolding outcome
  array_error_after_side_runs = refl

  -- for in over a static array, a dynamic array, a text and a set
  abbrev array_for_in : Program
  array_for_in = program name
      (Subrange (id 4) (pos 3) (pos 5) ∷ Array (id 16) (id 4) ∷ DynamicArray (id 7) ∷ Subrange (id 4) (pos 0) (pos 9) ∷ Set (id 19) ∷ [])
      []
      (row name 17 Plain None ∷ row name 18 Plain None ∷ row name 4 Plain None ∷ row name 7 Plain None ∷ row name 6 Plain None ∷ row name 20 Plain None ∷ [])
      []
      []
      []
      []
      []
      (variable_id 0 ∷ variable_id 1 ∷ variable_id 2 ∷ variable_id 3 ∷ variable_id 4 ∷ variable_id 5 ∷ [])
      None
      ((listed (
      (assign (at (var 0 17) (known (pos 3) 4) 4) (known (pos 1) 4)) ∷
      (assign (at (var 0 17) (known (pos 5) 4) 4) (known (pos 2) 4)) ∷
      (for_in (variable_id 2) Keep (var 0 17) (built_in (write (plain (var 2 4) ∷ plain (known (pos 32) 6) ∷ []) false))) ∷
      (built_in (set_length (var 1 18) (known (pos 2) 4))) ∷
      (assign (at (var 1 18) (known (pos 1) 4) 7) (quoted (codes "dd"))) ∷
      (for_in (variable_id 3) Keep (var 1 18) (built_in (write (plain (known (pos 91) 6) ∷ plain (var 3 7) ∷ plain (known (pos 93) 6) ∷ []) false))) ∷
      (for_in (variable_id 4) Keep (quoted (codes "xyz")) (built_in (write (plain (var 4 6) ∷ plain (known (pos 32) 6) ∷ []) false))) ∷
      (assign (var 5 20) (set_of_all (one (known (pos 7) 4) ∷ one (known (pos 2) 4) ∷ one (known (pos 4) 4) ∷ []) 20)) ∷
      (for_in (variable_id 2) Keep (var 5 20) (built_in (write (plain (var 2 4) ∷ plain (known (pos 32) 6) ∷ []) false))) ∷
      (for_in (variable_id 2) Keep (set_of_all (one (known (pos 1) 4) ∷ range (known (pos 8) 4) (known (pos 9) 4) ∷ []) 20) (built_in (write (plain (var 2 4) ∷ []) false))) ∷
      (built_in (write [] true)) ∷ [])) ∷
      [])

  array_for_in_runs : outcome 4000 array_for_in ([]) ≡ ends_with (asks 32 ∷ frees 1 ∷ []) (said (codes "1 0 2 [][dd]x y z 2 4 7 189")) ([]) 0
  unfolding outcome
  array_for_in_runs = refl

  -- Break and Continue in for in over an open array and over a set
  abbrev array_for_in_break : Program
  array_for_in_break = program name
      (Enumeration 3 ∷ OpenArray (id 7) ∷ Set (id 16) ∷ [])
      []
      (row name 16 Plain None ∷ row name 17 (Parameter Const_) None ∷ row name 7 Plain None ∷ [])
      (routine_row name (codes "p") Procedure OfUnit 1 None 1 2 ∷ [])
      []
      []
      []
      []
      (variable_id 0 ∷ [])
      None
      ((listed (
      (for_in (variable_id 2) Keep (var 1 17) (block (listed (
      (if_then (with_q false 5 (applying Length false (var 2 7) 4) Equal (known (pos 0) 4)) (continue)) ∷
      (if_then (with_q false 5 (var 2 7) Equal (quoted (codes "stop"))) (break)) ∷
      (built_in (write (plain (var 2 7) ∷ plain (known (pos 32) 6) ∷ []) false)) ∷ [])))) ∷
      (built_in (write (plain (quoted (codes "| ")) ∷ plain (var 2 7) ∷ []) true)) ∷ [])) ∷
      (listed (
      (call (expression (call_of (routine_id 0) (argued (listed_as (id 17) (expressions (quoted (codes "one")) (expressions (quoted ([])) (expressions (quoted (codes "two")) (expressions (quoted (codes "stop")) (expressions (quoted (codes "three")) no_expressions))))) ∷ []))) (id 9) no_steps)) ∷
      (for_in (variable_id 0) Keep (set_of_all (one (known (pos 2) 16) ∷ one (known (pos 0) 16) ∷ []) 18) (block (listed (
      (built_in (write (plain (to Keep 4 (var 0 16)) ∷ []) false)) ∷
      (if_then (with_q false 5 (var 0 16) Equal (known (pos 2) 16)) (break)) ∷ [])))) ∷
      (built_in (write (plain (to Keep 4 (var 0 16)) ∷ []) true)) ∷ [])) ∷
      [])

  array_for_in_break_runs : outcome 4000 array_for_in_break ([]) ≡ ends_with [] (said (codes "one two | stop") ++ said (codes "022")) ([]) 0
  unfolding outcome
  array_for_in_break_runs = refl

  -- for in over a call's result: the call runs once; Break and Continue in it
  abbrev array_for_in_call : Program
  array_for_in_call = program name
      (DynamicArray (id 7) ∷ [])
      []
      (row name 7 Plain None ∷ row name 16 Result None ∷ [])
      (routine_row name (codes "f") FunctionKind OfUnit 0 (Some 16) 1 1 ∷ [])
      []
      []
      []
      []
      (variable_id 0 ∷ [])
      None
      ((listed (
      (built_in (write (plain (quoted (codes "F ")) ∷ []) false)) ∷
      (built_in (set_length (var 1 16) (known (pos 3) 4))) ∷
      (assign (at (var 1 16) (known (pos 0) 4) 7) (quoted (codes "a"))) ∷
      (assign (at (var 1 16) (known (pos 1) 4) 7) (with_q false 7 (at (var 1 16) (known (pos 0) 4) 7) Add (quoted (codes "b")))) ∷
      (assign (at (var 1 16) (known (pos 2) 4) 7) (quoted (codes "c"))) ∷ [])) ∷
      (listed (
      (for_in (variable_id 0) Keep (expression (call_of (routine_id 0) (argued [])) (id 16) no_steps) (block (listed (
      (if_then (with_q false 5 (var 0 7) Equal (quoted (codes "a"))) (continue)) ∷
      (built_in (write (plain (var 0 7) ∷ []) true)) ∷
      (break) ∷ [])))) ∷
      (built_in (write (plain (var 0 7) ∷ []) true)) ∷ [])) ∷
      [])

  array_for_in_call_runs : outcome 4000 array_for_in_call ([]) ≡ ends_with (asks 32 ∷ asks 32 ∷ frees 1 ∷ frees 2 ∷ []) (said (codes "F ab") ++ said (codes "ab")) ([]) 0
  unfolding outcome
  array_for_in_call_runs = refl

  -- for in goes over what it began with: the variable may change meanwhile
  abbrev array_for_in_changed : Program
  array_for_in_changed = program name
      (DynamicArray (id 4) ∷ Subrange (id 4) (pos 0) (pos 1) ∷ Array (id 17) (id 4) ∷ [])
      []
      (row name 16 Plain None ∷ row name 7 Plain None ∷ row name 18 Plain None ∷ row name 4 Plain None ∷ row name 6 Plain None ∷ [])
      []
      []
      []
      []
      []
      (variable_id 0 ∷ variable_id 1 ∷ variable_id 2 ∷ variable_id 3 ∷ variable_id 4 ∷ [])
      None
      ((listed (
      (built_in (set_length (var 0 16) (known (pos 3) 4))) ∷
      (assign (at (var 0 16) (known (pos 2) 4) 4) (known (pos 5) 4)) ∷
      (for_in (variable_id 3) Keep (var 0 16) (block (listed (
      (built_in (write (plain (var 3 4) ∷ []) false)) ∷
      (assign (var 0 16) (to Keep 16 nothing)) ∷ [])))) ∷
      (assign (var 1 7) (quoted (codes "abc"))) ∷
      (for_in (variable_id 4) Keep (var 1 7) (block (listed (
      (built_in (write (plain (var 4 6) ∷ []) false)) ∷
      (assign (var 1 7) (quoted (codes "zzz"))) ∷ [])))) ∷
      (for_in (variable_id 3) Keep (var 2 18) (block (listed (
      (built_in (write (plain (var 3 4) ∷ []) false)) ∷
      (assign (at (var 2 18) (known (pos 1) 4) 4) (known (pos 7) 4)) ∷ [])))) ∷
      (built_in (write (plain (known (pos 32) 6) ∷ plain (applying Length false (var 0 16) 4) ∷ plain (var 1 7) ∷ plain (at (var 2 18) (known (pos 1) 4) 4) ∷ []) true)) ∷ [])) ∷
      [])

  array_for_in_changed_runs : outcome 4000 array_for_in_changed ([]) ≡ ends_with (asks 32 ∷ frees 1 ∷ []) (said (codes "005abc00 0zzz7")) ([]) 0
  unfolding outcome
  array_for_in_changed_runs = refl

  -- A routine is left out of a for in
  abbrev array_for_in_exit : Program
  array_for_in_exit = program name
      (DynamicArray (id 7) ∷ [])
      []
      (row name 16 Plain None ∷ row name 7 (Parameter Const_) None ∷ row name 4 Result None ∷ row name 7 Plain None ∷ [])
      (routine_row name (codes "f") FunctionKind OfUnit 1 (Some 4) 1 3 ∷ [])
      []
      []
      []
      []
      (variable_id 0 ∷ [])
      None
      ((listed (
      (assign (var 2 4) (known (pos 0) 4)) ∷
      (for_in (variable_id 3) Keep (var 0 16) (block (listed (
      (if_then (with_q false 5 (var 3 7) Equal (var 1 7)) (exit_with (applying Length false (with_q false 7 (var 3 7) Add (var 1 7)) 4))) ∷
      (assign (var 2 4) (with_q false 4 (var 2 4) Subtract (known (pos 1) 4))) ∷ [])))) ∷ [])) ∷
      (listed (
      (built_in (set_length (var 0 16) (known (pos 3) 4))) ∷
      (assign (at (var 0 16) (known (pos 1) 4) 7) (quoted (codes "ab"))) ∷
      (built_in (write (plain (expression (call_of (routine_id 0) (argued (value (quoted (codes "ab")) ∷ []))) (id 4) no_steps) ∷ plain (known (pos 32) 6) ∷ plain (expression (call_of (routine_id 0) (argued (value (quoted ([])) ∷ []))) (id 4) no_steps) ∷ plain (known (pos 32) 6) ∷ plain (expression (call_of (routine_id 0) (argued (value (quoted (codes "no")) ∷ []))) (id 4) no_steps) ∷ []) true)) ∷ [])) ∷
      [])

  array_for_in_exit_runs : outcome 4000 array_for_in_exit ([]) ≡ ends_with (asks 32 ∷ asks 32 ∷ frees 2 ∷ frees 1 ∷ []) (said (codes "4 0 -3")) ([]) 0
  unfolding outcome
  array_for_in_exit_runs = refl

  -- for in over an open array, of which an element changes while the loop runs
  abbrev array_for_in_open : Program
  array_for_in_open = program name
      (DynamicArray (id 4) ∷ OpenArray (id 4) ∷ [])
      []
      (row name 16 Plain None ∷ row name 17 (Parameter Var) None ∷ row name 4 Plain None ∷ [])
      (routine_row name (codes "p") Procedure OfUnit 1 None 1 2 ∷ [])
      []
      []
      []
      []
      (variable_id 0 ∷ [])
      None
      ((listed (
      (for_in (variable_id 2) Keep (var 1 17) (block (listed (
      (built_in (write (plain (var 2 4) ∷ plain (known (pos 32) 6) ∷ []) false)) ∷
      (assign (at (var 1 17) (known (pos 2) 4) 4) (with_q false 4 (at (var 1 17) (known (pos 2) 4) 4) Add (known (pos 10) 4))) ∷ [])))) ∷
      (built_in (write [] true)) ∷ [])) ∷
      (listed (
      (built_in (set_length (var 0 16) (known (pos 3) 4))) ∷
      (assign (at (var 0 16) (known (pos 0) 4) 4) (known (pos 1) 4)) ∷
      (call (expression (call_of (routine_id 0) (argued (whole_array (var 0 16) ∷ []))) (id 9) no_steps)) ∷
      (built_in (write (plain (at (var 0 16) (known (pos 2) 4) 4) ∷ []) true)) ∷ [])) ∷
      [])

  array_for_in_open_runs : outcome 4000 array_for_in_open ([]) ≡ ends_with (asks 32 ∷ frees 1 ∷ []) (said (codes "1 0 20 ") ++ said (codes "30")) ([]) 0
  unfolding outcome
  array_for_in_open_runs = refl

  -- Arrays indexed by Char, Boolean, an enumeration and a subrange
  abbrev array_index_by_type : Program
  array_index_by_type = program name
      (Enumeration 3 ∷ Subrange (id 4) (negsuc 0) (pos 1) ∷ Array (id 6) (id 1) ∷ Array (id 5) (id 4) ∷ Array (id 16) (id 6) ∷ Array (id 17) (id 7) ∷ [])
      []
      (row name 18 Plain None ∷ row name 19 Plain None ∷ row name 20 Plain None ∷ row name 21 Plain None ∷ [])
      []
      []
      []
      []
      []
      (variable_id 0 ∷ variable_id 1 ∷ variable_id 2 ∷ variable_id 3 ∷ [])
      None
      ((listed (
      (assign (at (var 0 18) (known (pos 120) 6) 1) (to LowBits 1 (known (pos 200) 4))) ∷
      (assign (at (var 1 19) (with_q false 5 (known (pos 1) 4) Equal (known (pos 1) 4)) 4) (known (pos 3) 4)) ∷
      (assign (at (var 2 20) (known (pos 1) 16) 6) (known (pos 103) 6)) ∷
      (assign (at (var 3 21) (known (negsuc 0) 4) 7) (quoted (codes "minus"))) ∷
      (built_in (write (plain (at (var 0 18) (known (pos 120) 6) 1) ∷ plain (at (var 1 19) (known (pos 1) 5) 4) ∷ plain (at (var 2 20) (known (pos 1) 16) 6) ∷ plain (at (var 3 21) (known (negsuc 0) 4) 7) ∷ plain (to Keep 4 (applying High false (var 2 20) 16)) ∷ plain (applying Low false (var 3 21) 17) ∷ []) true)) ∷
      (built_in (write (plain (at (var 1 19) (with_q false 5 (known (pos 1) 4) Equal (known (pos 2) 4)) 4) ∷ plain (applying Length false (at (var 3 21) (known (pos 1) 4) 7) 4) ∷ []) true)) ∷ [])) ∷
      [])

  array_index_by_type_runs : outcome 4000 array_index_by_type ([]) ≡ ends_with [] (said (codes "2003gminus2-1") ++ said (codes "00")) ([]) 0
  unfolding outcome
  array_index_by_type_runs = refl

  -- The index of a dynamic array is checked, also -1 and of nil
  abbrev array_index_dynamic : Program
  array_index_dynamic = program name
      (DynamicArray (id 4) ∷ [])
      []
      (row name 16 Plain None ∷ row name 4 Plain None ∷ [])
      []
      []
      []
      []
      []
      (variable_id 0 ∷ variable_id 1 ∷ [])
      None
      ((listed (
      (built_in (set_length (var 0 16) (known (pos 1) 4))) ∷
      (assign (var 1 4) (known (negsuc 0) 4)) ∷
      (built_in (write (plain (at (var 0 16) (known (pos 0) 4) 4) ∷ []) true)) ∷
      (built_in (write (plain (at (var 0 16) (var 1 4) 4) ∷ []) true)) ∷ [])) ∷
      [])

  array_index_dynamic_runs : outcome 4000 array_index_dynamic ([]) ≡ ends_with (asks 32 ∷ []) (said (codes "0")) (said (codes "Runtime error 201")) 201
  unfolding outcome
  array_index_dynamic_runs = refl

  -- An element of nil
  abbrev array_index_nil : Program
  array_index_nil = program name
      (DynamicArray (id 4) ∷ [])
      []
      (row name 16 Plain None ∷ row name 4 Plain None ∷ [])
      []
      []
      []
      []
      []
      (variable_id 0 ∷ variable_id 1 ∷ [])
      None
      ((listed (
      (built_in (write (plain (applying Length false (var 0 16) 4) ∷ plain (var 1 4) ∷ []) true)) ∷
      (assign (at (var 0 16) (var 1 4) 4) (known (pos 1) 4)) ∷
      (built_in (write (plain (quoted (codes "never")) ∷ []) true)) ∷ [])) ∷
      [])

  array_index_nil_runs : outcome 4000 array_index_nil ([]) ≡ ends_with [] (said (codes "00")) (said (codes "Runtime error 201")) 201
  unfolding outcome
  array_index_nil_runs = refl

  -- All indices and the right side run before any of them is checked
  abbrev array_index_order : Program
  array_index_order = program name
      (Subrange (id 4) (pos 0) (pos 1) ∷ Subrange (id 4) (pos 0) (pos 1) ∷ Array (id 17) (id 4) ∷ Array (id 16) (id 18) ∷ [])
      []
      (row name 19 Plain None ∷ row name 4 (Parameter Value) None ∷ row name 4 Result None ∷ [])
      (routine_row name (codes "f") FunctionKind OfUnit 1 (Some 4) 1 2 ∷ [])
      []
      []
      []
      []
      (variable_id 0 ∷ [])
      None
      ((listed (
      (built_in (write (plain (var 1 4) ∷ plain (known (pos 32) 6) ∷ []) false)) ∷
      (assign (var 2 4) (var 1 4)) ∷ [])) ∷
      (listed (
      (assign (at (at (var 0 19) (expression (call_of (routine_id 0) (argued (value (known (pos 0) 4) ∷ []))) (id 4) no_steps) 18) (expression (call_of (routine_id 0) (argued (value (known (pos 1) 4) ∷ []))) (id 4) no_steps) 4) (expression (call_of (routine_id 0) (argued (value (known (pos 9) 4) ∷ []))) (id 4) no_steps)) ∷
      (built_in (write (plain (at (at (var 0 19) (known (pos 0) 4) 18) (known (pos 1) 4) 4) ∷ []) true)) ∷
      (assign (at (at (var 0 19) (expression (call_of (routine_id 0) (argued (value (known (pos 7) 4) ∷ []))) (id 4) no_steps) 18) (expression (call_of (routine_id 0) (argued (value (known (pos 8) 4) ∷ []))) (id 4) no_steps) 4) (expression (call_of (routine_id 0) (argued (value (known (pos 5) 4) ∷ []))) (id 4) no_steps)) ∷
      (built_in (write (plain (quoted (codes "never")) ∷ []) true)) ∷ [])) ∷
      [])

  array_index_order_runs : outcome 4000 array_index_order ([]) ≡ ends_with [] (said (codes "9 0 1 9") ++ codes "5 7 8 ") (said (codes "Runtime error 201")) 201
  unfolding outcome
  array_index_order_runs = refl

  -- The index of a static array is checked at both ends
  abbrev array_index_static : Program
  array_index_static = program name
      (Subrange (id 4) (pos 2) (pos 4) ∷ Array (id 16) (id 4) ∷ [])
      []
      (row name 17 Plain None ∷ row name 4 Plain None ∷ [])
      []
      []
      []
      []
      []
      (variable_id 0 ∷ variable_id 1 ∷ [])
      None
      ((listed (
      (for_to (variable_id 1) (known (pos 2) 4) To (known (pos 4) 4) (assign (at (var 0 17) (var 1 4) 4) (var 1 4))) ∷
      (built_in (write (plain (with_q false 4 (at (var 0 17) (known (pos 2) 4) 4) Add (at (var 0 17) (known (pos 4) 4) 4)) ∷ []) true)) ∷
      (assign (var 1 4) (known (pos 5) 4)) ∷
      (built_in (write (plain (quoted (codes "before")) ∷ []) true)) ∷
      (assign (at (var 0 17) (var 1 4) 4) (known (pos 1) 4)) ∷
      (built_in (write (plain (quoted (codes "never")) ∷ []) true)) ∷ [])) ∷
      [])

  array_index_static_runs : outcome 4000 array_index_static ([]) ≡ ends_with [] (said (codes "6") ++ said (codes "before")) (said (codes "Runtime error 201")) 201
  unfolding outcome
  array_index_static_runs = refl

  -- Length of the empty literal, of a Char and of text literals.
  abbrev array_length_of_literal : Program
  array_length_of_literal = program name
      []
      []
      []
      []
      []
      []
      []
      []
      []
      None
      ((listed (
      (built_in (write (plain (applying Length false (quoted ([])) 4) ∷ []) true)) ∷
      (built_in (write (plain (applying Length false (quoted (codes "a")) 4) ∷ plain (applying Length false (quoted (codes "abc")) 4) ∷ []) true)) ∷ [])) ∷
      [])

  array_length_of_literal_runs : outcome 4000 array_length_of_literal ([]) ≡ ends_with [] (said (codes "0") ++ said (codes "13")) ([]) 0
  unfolding outcome
  array_length_of_literal_runs = refl

  -- The elements of a list are made from left to right, and stay until the call's end
  abbrev array_list_of_calls : Program
  array_list_of_calls = program name
      (OpenArray (id 7) ∷ [])
      []
      (row name 4 (Parameter Value) None ∷ row name 7 Result None ∷ row name 16 (Parameter Const_) None ∷ row name 7 Plain None ∷ [])
      (routine_row name (codes "f") FunctionKind OfUnit 1 (Some 7) 0 2 ∷ routine_row name (codes "p") Procedure OfUnit 1 None 2 2 ∷ [])
      []
      []
      []
      []
      []
      None
      ((listed (
      (built_in (write (plain (var 0 4) ∷ []) false)) ∷
      (built_in (str (plain (var 0 4)) (var 1 7))) ∷
      (assign (var 1 7) (with_q false 7 (var 1 7) Add (quoted (codes ";")))) ∷ [])) ∷
      (listed (
      (for_in (variable_id 3) Keep (var 2 16) (built_in (write (plain (known (pos 32) 6) ∷ plain (var 3 7) ∷ []) false))) ∷
      (built_in (write [] true)) ∷ [])) ∷
      (listed (
      (call (expression (call_of (routine_id 1) (argued (listed_as (id 16) (expressions (expression (call_of (routine_id 0) (argued (value (known (pos 1) 4) ∷ []))) (id 7) no_steps) (expressions (expression (call_of (routine_id 0) (argued (value (known (pos 2) 4) ∷ []))) (id 7) no_steps) (expressions (quoted (codes "lit")) (expressions (expression (call_of (routine_id 0) (argued (value (known (pos 3) 4) ∷ []))) (id 7) no_steps) no_expressions)))) ∷ []))) (id 9) no_steps)) ∷ [])) ∷
      [])

  array_list_of_calls_runs : outcome 4000 array_list_of_calls ([]) ≡ ends_with (asks 32 ∷ asks 32 ∷ frees 1 ∷ asks 32 ∷ asks 32 ∷ frees 3 ∷ asks 32 ∷ asks 32 ∷ frees 5 ∷ frees 6 ∷ frees 4 ∷ frees 2 ∷ []) (said (codes "123 1; 2; lit 3;")) ([]) 0
  unfolding outcome
  array_list_of_calls_runs = refl

  -- Calls with record results in array constructors, nested; copies in a loop.
  abbrev array_literals_nested : Program
  array_literals_nested = program name
      (Class (class_id 0) ∷ Interface (interface_id 0) ∷ Class (class_id 1) ∷ Record (rows_at 0 2) ∷ Class (class_id 2) ∷ OpenArray (id 19) ∷ OpenArray (id 4) ∷ Subrange (id 4) (pos 0) (pos 2) ∷ Array (id 23) (id 19) ∷ [])
      (part name 4 ∷ part name 7 ∷ [])
      (row name 19 Plain None ∷ row name 19 Plain None ∷ row name 4 Plain None ∷ row name 24 Plain None ∷ row name 7 Plain None ∷ row name 16 ObjectRole None ∷ row name 16 ObjectRole None ∷ row name 19 (Parameter Const_) None ∷ row name 21 (Parameter Const_) None ∷ row name 19 Result None ∷ row name 22 (Parameter Const_) None ∷ row name 22 (Parameter Const_) None ∷ row name 22 (Parameter Const_) None ∷ row name 4 Result None ∷ [])
      (routine_row name (codes "create") Constructor (OfClass (class_id 0)) 0 None 5 1 ∷ routine_row name (codes "destroy") Destructor (OfClass (class_id 0)) 0 None 6 1 ∷ routine_row name (codes "f") FunctionKind OfUnit 2 (Some 19) 7 3 ∷ routine_row name (codes "w") Procedure OfUnit 2 None 10 2 ∷ routine_row name (codes "g") FunctionKind OfUnit 1 (Some 4) 12 2 ∷ [])
      (class_row (codes "TObject") 16 None 0 0 0 2 0 0 ∷ class_row (codes "TInterfacedObject") 18 (Some (class_id 0)) 0 0 2 0 0 1 ∷ class_row (codes "E") 20 (Some (class_id 0)) 2 0 2 0 1 0 ∷ [])
      (interface_row (codes "iunknown") 17 None 2 0 ∷ [])
      (method_row 0 Static false ∷ method_row 1 VirtualBinding false ∷ [])
      (interface_id 0 ∷ [])
      (variable_id 0 ∷ variable_id 1 ∷ variable_id 2 ∷ variable_id 3 ∷ variable_id 4 ∷ [])
      None
      ((listed ([])) ∷
      (listed ([])) ∷
      (listed (
      (assign (var 9 19) (var 7 19)) ∷
      (assign (dot (var 9 19) 1 7) (with_q false 7 (dot (var 9 19) 1 7) Add (dot (at (var 8 21) (known (pos 1) 4) 19) 1 7))) ∷
      (if_then (with_q false 5 (dot (at (var 8 21) (known (pos 0) 4) 19) 0 4) Equal (known (pos 9) 4)) (raise (expression (construct (class_id 2) (routine_id 0) (argued [])) (id 20) no_steps))) ∷ [])) ∷
      (listed (
      (built_in (write (plain (at (var 10 22) (known (pos 0) 4) 4) ∷ plain (applying Length false (var 11 22) 4) ∷ plain (at (var 11 22) (known (pos 0) 4) 4) ∷ []) true)) ∷ [])) ∷
      (listed (
      (assign (var 13 4) (with_q false 4 (at (var 12 22) (known (pos 0) 4) 4) Add (at (var 12 22) (known (pos 1) 4) 4))) ∷ [])) ∷
      (listed (
      (assign (var 4 7) (quoted (codes "m"))) ∷
      (assign (dot (var 0 19) 0 4) (known (pos 1) 4)) ∷
      (assign (dot (var 0 19) 1 7) (with_q false 7 (var 4 7) Add (quoted (codes "a")))) ∷
      (assign (dot (var 1 19) 0 4) (known (pos 9) 4)) ∷
      (assign (dot (var 1 19) 1 7) (with_q false 7 (var 4 7) Add (quoted (codes "b")))) ∷
      (assign (var 0 19) (expression (call_of (routine_id 2) (argued (value (expression (call_of (routine_id 2) (argued (value (var 0 19) ∷ listed_as (id 21) (expressions (var 0 19) (expressions (var 1 19) no_expressions)) ∷ []))) (id 19) no_steps) ∷ listed_as (id 21) (expressions (var 0 19) (expressions (var 0 19) no_expressions)) ∷ []))) (id 19) no_steps)) ∷
      (built_in (write (plain (dot (var 0 19) 1 7) ∷ []) true)) ∷
      (try_on_else (listed (
      (assign (at (var 3 24) (known (pos 1) 4) 19) (expression (call_of (routine_id 2) (argued (value (var 0 19) ∷ listed_as (id 21) (expressions (var 1 19) (expressions (var 0 19) no_expressions)) ∷ []))) (id 19) no_steps)) ∷ [])) no_handlers (listed (
      (built_in (write (plain (known (pos 99) 6) ∷ []) true)) ∷ []))) ∷
      (call (expression (call_of (routine_id 3) (argued (listed_as (id 22) (expressions (expression (call_of (routine_id 4) (argued (listed_as (id 22) (expressions (known (pos 1) 4) (expressions (known (pos 2) 4) no_expressions)) ∷ []))) (id 4) no_steps) (expressions (known (pos 4) 4) no_expressions)) ∷ listed_as (id 22) (expressions (expression (call_of (routine_id 4) (argued (listed_as (id 22) (expressions (known (pos 5) 4) (expressions (expression (call_of (routine_id 4) (argued (listed_as (id 22) (expressions (known (pos 6) 4) (expressions (known (pos 7) 4) no_expressions)) ∷ []))) (id 4) no_steps) no_expressions)) ∷ []))) (id 4) no_steps) no_expressions) ∷ []))) (id 9) no_steps)) ∷
      (for_to (variable_id 2) (known (pos 0) 4) To (known (pos 1) 4) (block (listed (
      (assign (at (var 3 24) (var 2 4) 19) (var 0 19)) ∷
      (if_then (with_q false 5 (var 2 4) Equal (known (pos 1) 4)) (continue)) ∷ [])))) ∷
      (built_in (write (plain (dot (at (var 3 24) (known (pos 0) 4) 19) 1 7) ∷ plain (dot (at (var 3 24) (known (pos 2) 4) 19) 1 7) ∷ plain (dot (at (var 3 24) (known (pos 1) 4) 19) 1 7) ∷ []) true)) ∷ [])) ∷
      [])

  array_literals_nested_runs : outcome 4000 array_literals_nested ([]) ≡ ends_with (asks 32 ∷ asks 32 ∷ asks 32 ∷ asks 32 ∷ frees 3 ∷ frees 1 ∷ asks 32 ∷ makes 16 ∷ frees 5 ∷ frees 6 ∷ frees 2 ∷ frees 4 ∷ []) (said (codes "mambma") ++ said (codes "c") ++ said (codes "3118") ++ said (codes "mambmamambma")) ([]) 0
  unfolding outcome
  array_literals_nested_runs = refl

  -- Local arrays and records start empty in each call and end with it
  abbrev array_local_ends : Program
  array_local_ends = program name
      (DynamicArray (id 7) ∷ Record (rows_at 0 2) ∷ Subrange (id 4) (pos 0) (pos 1) ∷ Array (id 18) (id 7) ∷ [])
      (part name 7 ∷ part name 16 ∷ [])
      (row name 4 (Parameter Value) None ∷ row name 17 Plain None ∷ row name 19 Plain None ∷ [])
      (routine_row name (codes "p") Procedure OfUnit 1 None 0 3 ∷ [])
      []
      []
      []
      []
      []
      None
      ((listed (
      (built_in (write (plain (applying Length false (dot (var 1 17) 0 7) 4) ∷ plain (applying Length false (dot (var 1 17) 1 16) 4) ∷ plain (applying Length false (at (var 2 19) (known (pos 1) 4) 7) 4) ∷ []) true)) ∷
      (assign (dot (var 1 17) 0 7) (quoted (codes "ab"))) ∷
      (assign (dot (var 1 17) 0 7) (with_q false 7 (dot (var 1 17) 0 7) Add (quoted (codes "c")))) ∷
      (built_in (set_length (dot (var 1 17) 1 16) (known (pos 2) 4))) ∷
      (assign (at (dot (var 1 17) 1 16) (known (pos 1) 4) 7) (dot (var 1 17) 0 7)) ∷
      (assign (at (var 2 19) (known (pos 1) 4) 7) (with_q false 7 (at (dot (var 1 17) 1 16) (known (pos 1) 4) 7) Add (quoted (codes "d")))) ∷
      (if_then (with_q false 5 (var 0 4) Greater (known (pos 0) 4)) (call (expression (call_of (routine_id 0) (argued (value (with_q false 4 (var 0 4) Subtract (known (pos 1) 4)) ∷ []))) (id 9) no_steps))) ∷
      (built_in (write (plain (at (var 2 19) (known (pos 1) 4) 7) ∷ []) true)) ∷ [])) ∷
      (listed (
      (call (expression (call_of (routine_id 0) (argued (value (known (pos 1) 4) ∷ []))) (id 9) no_steps)) ∷ [])) ∷
      [])

  array_local_ends_runs : outcome 4000 array_local_ends ([]) ≡ ends_with (asks 32 ∷ asks 32 ∷ asks 32 ∷ asks 32 ∷ asks 32 ∷ asks 32 ∷ frees 4 ∷ frees 5 ∷ frees 6 ∷ frees 1 ∷ frees 2 ∷ frees 3 ∷ []) (said (codes "000") ++ said (codes "000") ++ said (codes "abcd") ++ said (codes "abcd")) ([]) 0
  unfolding outcome
  array_local_ends_runs = refl

  -- A negative length is an error
  abbrev array_negative : Program
  array_negative = program name
      (DynamicArray (id 4) ∷ [])
      []
      (row name 16 Plain None ∷ row name 4 Plain None ∷ [])
      []
      []
      []
      []
      []
      (variable_id 0 ∷ variable_id 1 ∷ [])
      None
      ((listed (
      (built_in (set_length (var 0 16) (known (pos 1) 4))) ∷
      (assign (var 1 4) (known (negsuc 1) 4)) ∷
      (built_in (write (plain (applying Length false (var 0 16) 4) ∷ []) true)) ∷
      (built_in (set_length (var 0 16) (var 1 4))) ∷
      (built_in (write (plain (quoted (codes "never")) ∷ []) true)) ∷ [])) ∷
      [])

  array_negative_runs : outcome 4000 array_negative ([]) ≡ ends_with (asks 32 ∷ []) (said (codes "1")) (said (codes "Runtime error 201")) 201
  unfolding outcome
  array_negative_runs = refl

  -- An array of records of arrays: one place deep inside is stored, the rest stays
  abbrev array_nested_static : Program
  array_nested_static = program name
      (Subrange (id 4) (pos 0) (pos 1) ∷ Array (id 16) (id 7) ∷ Record (rows_at 0 2) ∷ Subrange (id 4) (pos 1) (pos 2) ∷ Array (id 19) (id 18) ∷ [])
      (part name 17 ∷ part name 1 ∷ [])
      (row name 20 Plain None ∷ row name 20 Plain None ∷ [])
      []
      []
      []
      []
      []
      (variable_id 0 ∷ variable_id 1 ∷ [])
      None
      ((listed (
      (assign (at (dot (at (var 0 20) (known (pos 1) 4) 18) 0 17) (known (pos 0) 4) 7) (quoted (codes "a"))) ∷
      (assign (at (dot (at (var 0 20) (known (pos 1) 4) 18) 0 17) (known (pos 1) 4) 7) (with_q false 7 (at (dot (at (var 0 20) (known (pos 1) 4) 18) 0 17) (known (pos 0) 4) 7) Add (quoted (codes "b")))) ∷
      (assign (at (var 0 20) (known (pos 2) 4) 18) (at (var 0 20) (known (pos 1) 4) 18)) ∷
      (assign (at (at (dot (at (var 0 20) (known (pos 2) 4) 18) 0 17) (known (pos 1) 4) 7) (known (pos 2) 4) 6) (known (pos 88) 6)) ∷
      (assign (var 1 20) (var 0 20)) ∷
      (assign (dot (at (var 1 20) (known (pos 1) 4) 18) 1 1) (to LowBits 1 (known (pos 9) 4))) ∷
      (assign (at (var 0 20) (known (pos 1) 4) 18) (at (var 1 20) (known (pos 2) 4) 18)) ∷
      (built_in (write (plain (at (dot (at (var 0 20) (known (pos 1) 4) 18) 0 17) (known (pos 1) 4) 7) ∷ plain (at (dot (at (var 0 20) (known (pos 2) 4) 18) 0 17) (known (pos 1) 4) 7) ∷ plain (at (dot (at (var 1 20) (known (pos 1) 4) 18) 0 17) (known (pos 1) 4) 7) ∷ plain (dot (at (var 1 20) (known (pos 1) 4) 18) 1 1) ∷ plain (dot (at (var 0 20) (known (pos 1) 4) 18) 1 1) ∷ []) true)) ∷ [])) ∷
      [])

  array_nested_static_runs : outcome 4000 array_nested_static ([]) ≡ ends_with (asks 32 ∷ asks 32 ∷ frees 1 ∷ frees 2 ∷ []) (said (codes "aXaXab90")) ([]) 0
  unfolding outcome
  array_nested_static_runs = refl

  -- Arrays of arrays: rows are shared too, a row is made longer alone
  abbrev array_of_arrays : Program
  array_of_arrays = program name
      (DynamicArray (id 4) ∷ DynamicArray (id 16) ∷ [])
      []
      (row name 17 Plain None ∷ row name 16 Plain None ∷ row name 4 Plain None ∷ [])
      []
      []
      []
      []
      []
      (variable_id 0 ∷ variable_id 1 ∷ variable_id 2 ∷ [])
      None
      ((listed (
      (built_in (set_length (var 0 17) (known (pos 2) 4))) ∷
      (for_to (variable_id 2) (known (pos 0) 4) To (known (pos 1) 4) (built_in (set_length (at (var 0 17) (var 2 4) 16) (known (pos 2) 4)))) ∷
      (assign (at (at (var 0 17) (known (pos 1) 4) 16) (known (pos 0) 4) 4) (known (pos 5) 4)) ∷
      (assign (var 1 16) (at (var 0 17) (known (pos 1) 4) 16)) ∷
      (assign (at (var 1 16) (known (pos 1) 4) 4) (known (pos 6) 4)) ∷
      (built_in (write (plain (at (at (var 0 17) (known (pos 1) 4) 16) (known (pos 0) 4) 4) ∷ plain (at (at (var 0 17) (known (pos 1) 4) 16) (known (pos 1) 4) 4) ∷ plain (at (at (var 0 17) (known (pos 0) 4) 16) (known (pos 1) 4) 4) ∷ []) true)) ∷
      (built_in (set_length (at (var 0 17) (known (pos 1) 4) 16) (known (pos 3) 4))) ∷
      (assign (at (at (var 0 17) (known (pos 1) 4) 16) (known (pos 0) 4) 4) (known (pos 8) 4)) ∷
      (built_in (write (plain (at (var 1 16) (known (pos 0) 4) 4) ∷ plain (applying Length false (at (var 0 17) (known (pos 1) 4) 16) 4) ∷ plain (applying Length false (var 1 16) 4) ∷ []) true)) ∷
      (assign (at (var 0 17) (known (pos 0) 4) 16) (var 1 16)) ∷
      (assign (var 0 17) (to Keep 17 nothing)) ∷
      (built_in (write (plain (at (var 1 16) (known (pos 1) 4) 4) ∷ []) true)) ∷ [])) ∷
      [])

  array_of_arrays_runs : outcome 4000 array_of_arrays ([]) ≡ ends_with (asks 32 ∷ asks 32 ∷ asks 32 ∷ asks 32 ∷ frees 2 ∷ frees 4 ∷ frees 1 ∷ frees 3 ∷ []) (said (codes "560") ++ said (codes "532") ++ said (codes "6")) ([]) 0
  unfolding outcome
  array_of_arrays_runs = refl

  -- Records as elements: an element is copied out, and copied in
  abbrev array_of_records : Program
  array_of_records = program name
      (Record (rows_at 0 2) ∷ DynamicArray (id 16) ∷ [])
      (part name 7 ∷ part name 4 ∷ [])
      (row name 17 Plain None ∷ row name 16 Plain None ∷ [])
      []
      []
      []
      []
      []
      (variable_id 0 ∷ variable_id 1 ∷ [])
      None
      ((listed (
      (built_in (set_length (var 0 17) (known (pos 2) 4))) ∷
      (assign (dot (at (var 0 17) (known (pos 0) 4) 16) 0 7) (quoted (codes "one"))) ∷
      (assign (dot (at (var 0 17) (known (pos 0) 4) 16) 0 7) (with_q false 7 (dot (at (var 0 17) (known (pos 0) 4) 16) 0 7) Add (quoted (codes "!")))) ∷
      (assign (var 1 16) (at (var 0 17) (known (pos 0) 4) 16)) ∷
      (assign (dot (var 1 16) 1 4) (known (pos 4) 4)) ∷
      (assign (at (dot (var 1 16) 0 7) (known (pos 1) 4) 6) (known (pos 79) 6)) ∷
      (assign (at (var 0 17) (known (pos 1) 4) 16) (var 1 16)) ∷
      (assign (at (var 0 17) (known (pos 0) 4) 16) (at (var 0 17) (known (pos 1) 4) 16)) ∷
      (assign (dot (var 1 16) 0 7) (quoted ([]))) ∷
      (built_in (write (plain (dot (at (var 0 17) (known (pos 0) 4) 16) 0 7) ∷ plain (dot (at (var 0 17) (known (pos 0) 4) 16) 1 4) ∷ plain (dot (at (var 0 17) (known (pos 1) 4) 16) 0 7) ∷ plain (applying Length false (dot (var 1 16) 0 7) 4) ∷ []) true)) ∷ [])) ∷
      [])

  array_of_records_runs : outcome 4000 array_of_records ([]) ≡ ends_with (asks 32 ∷ asks 32 ∷ asks 32 ∷ frees 2 ∷ frees 3 ∷ frees 1 ∷ []) (said (codes "One!4One!0")) ([]) 0
  unfolding outcome
  array_of_records_runs = refl

  -- Texts as elements: copied with the array, kept by SetLength, ended one by one
  abbrev array_of_texts : Program
  array_of_texts = program name
      (DynamicArray (id 7) ∷ [])
      []
      (row name 16 Plain None ∷ row name 16 Plain None ∷ [])
      []
      []
      []
      []
      []
      (variable_id 0 ∷ variable_id 1 ∷ [])
      None
      ((listed (
      (built_in (set_length (var 0 16) (known (pos 3) 4))) ∷
      (assign (at (var 0 16) (known (pos 0) 4) 7) (quoted (codes "x"))) ∷
      (assign (at (var 0 16) (known (pos 1) 4) 7) (with_q false 7 (at (var 0 16) (known (pos 0) 4) 7) Add (quoted (codes "y")))) ∷
      (assign (at (var 0 16) (known (pos 2) 4) 7) (with_q false 7 (at (var 0 16) (known (pos 1) 4) 7) Add (quoted (codes "z")))) ∷
      (assign (var 1 16) (then (var 0 16) (copy (known (pos 1) 4) (known (pos 2) 4)) (id 16))) ∷
      (assign (at (at (var 1 16) (known (pos 0) 4) 7) (known (pos 1) 4) 6) (known (pos 45) 6)) ∷
      (built_in (set_length (var 0 16) (known (pos 2) 4))) ∷
      (built_in (write (plain (at (var 0 16) (known (pos 0) 4) 7) ∷ plain (at (var 0 16) (known (pos 1) 4) 7) ∷ plain (known (pos 32) 6) ∷ plain (at (var 1 16) (known (pos 0) 4) 7) ∷ plain (at (var 1 16) (known (pos 1) 4) 7) ∷ []) true)) ∷
      (assign (var 0 16) (to Keep 16 nothing)) ∷
      (built_in (write (plain (at (var 1 16) (known (pos 1) 4) 7) ∷ []) true)) ∷ [])) ∷
      [])

  array_of_texts_runs : outcome 4000 array_of_texts ([]) ≡ ends_with (asks 32 ∷ asks 32 ∷ asks 32 ∷ asks 32 ∷ asks 32 ∷ asks 32 ∷ frees 1 ∷ frees 2 ∷ frees 6 ∷ frees 5 ∷ frees 3 ∷ frees 4 ∷ []) (said (codes "xxy -yxyz") ++ said (codes "xyz")) ([]) 0
  unfolding outcome
  array_of_texts_runs = refl

  -- A const open array looks at its argument in place
  abbrev array_open_const : Program
  array_open_const = program name
      (DynamicArray (id 4) ∷ Subrange (id 6) (pos 97) (pos 99) ∷ Array (id 17) (id 4) ∷ OpenArray (id 4) ∷ [])
      []
      (row name 16 Plain None ∷ row name 18 Plain None ∷ row name 19 (Parameter Const_) None ∷ row name 4 Result None ∷ row name 4 Plain None ∷ [])
      (routine_row name (codes "sum") FunctionKind OfUnit 1 (Some 4) 2 3 ∷ [])
      []
      []
      []
      []
      (variable_id 0 ∷ variable_id 1 ∷ [])
      None
      ((listed (
      (assign (var 3 4) (applying Low false (var 2 19) 4)) ∷
      (for_to (variable_id 4) (known (pos 0) 4) To (applying High false (var 2 19) 4) (assign (var 3 4) (with_q false 4 (var 3 4) Add (at (var 2 19) (var 4 4) 4)))) ∷
      (if_then (with_q false 5 (var 0 16) NotEqual (to Keep 16 nothing)) (assign (at (var 0 16) (known (pos 0) 4) 4) (with_q false 4 (at (var 0 16) (known (pos 0) 4) 4) Add (known (pos 1) 4)))) ∷ [])) ∷
      (listed (
      (built_in (set_length (var 0 16) (known (pos 2) 4))) ∷
      (assign (at (var 0 16) (known (pos 1) 4) 4) (known (pos 5) 4)) ∷
      (assign (at (var 1 18) (known (pos 98) 6) 4) (known (pos 3) 4)) ∷
      (built_in (write (plain (expression (call_of (routine_id 0) (argued (whole_array (var 0 16) ∷ []))) (id 4) no_steps) ∷ plain (known (pos 32) 6) ∷ plain (expression (call_of (routine_id 0) (argued (whole_array (var 0 16) ∷ []))) (id 4) no_steps) ∷ plain (known (pos 32) 6) ∷ plain (expression (call_of (routine_id 0) (argued (whole_array (var 1 18) ∷ []))) (id 4) no_steps) ∷ plain (known (pos 32) 6) ∷ plain (expression (call_of (routine_id 0) (argued (listed_as (id 19) (expressions (known (pos 1) 4) (expressions (known (pos 2) 4) (expressions (at (var 0 16) (known (pos 1) 4) 4) no_expressions))) ∷ []))) (id 4) no_steps) ∷ []) true)) ∷ [])) ∷
      [])

  array_open_const_runs : outcome 4000 array_open_const ([]) ≡ ends_with (asks 32 ∷ frees 1 ∷ []) (said (codes "5 6 3 8")) ([]) 0
  unfolding outcome
  array_open_const_runs = refl

  -- A dynamic array given as a var open array stays while its variable is emptied
  abbrev array_open_held : Program
  array_open_held = program name
      (DynamicArray (id 7) ∷ OpenArray (id 7) ∷ [])
      []
      (row name 16 Plain None ∷ row name 17 (Parameter Var) None ∷ [])
      (routine_row name (codes "p") Procedure OfUnit 1 None 1 1 ∷ [])
      []
      []
      []
      []
      (variable_id 0 ∷ [])
      None
      ((listed (
      (assign (var 0 16) (to Keep 16 nothing)) ∷
      (assign (at (var 1 17) (known (pos 0) 4) 7) (with_q false 7 (at (var 1 17) (known (pos 0) 4) 7) Add (quoted (codes "!")))) ∷
      (built_in (write (plain (at (var 1 17) (known (pos 0) 4) 7) ∷ plain (applying Length false (var 1 17) 4) ∷ plain (applying Length false (var 0 16) 4) ∷ []) true)) ∷ [])) ∷
      (listed (
      (built_in (set_length (var 0 16) (known (pos 2) 4))) ∷
      (assign (at (var 0 16) (known (pos 0) 4) 7) (quoted (codes "kept"))) ∷
      (call (expression (call_of (routine_id 0) (argued (whole_array (var 0 16) ∷ []))) (id 9) no_steps)) ∷
      (built_in (write (plain (with_q false 5 (var 0 16) Equal (to Keep 16 nothing)) ∷ []) true)) ∷ [])) ∷
      [])

  array_open_held_runs : outcome 4000 array_open_held ([]) ≡ ends_with (asks 32 ∷ asks 32 ∷ frees 2 ∷ frees 1 ∷ []) (said (codes "kept!20") ++ said (codes "TRUE")) ([]) 0
  unfolding outcome
  array_open_held_runs = refl

  -- Open arrays of texts by value: storing into the copy leaves the argument
  abbrev array_open_texts : Program
  array_open_texts = program name
      (DynamicArray (id 7) ∷ OpenArray (id 7) ∷ [])
      []
      (row name 16 Plain None ∷ row name 17 (Parameter Value) None ∷ [])
      (routine_row name (codes "p") Procedure OfUnit 1 None 1 1 ∷ [])
      []
      []
      []
      []
      (variable_id 0 ∷ [])
      None
      ((listed (
      (assign (at (var 1 17) (known (pos 0) 4) 7) (with_q false 7 (at (var 1 17) (known (pos 0) 4) 7) Add (quoted (codes "+")))) ∷
      (assign (at (at (var 1 17) (known (pos 1) 4) 7) (known (pos 1) 4) 6) (known (pos 90) 6)) ∷
      (built_in (write (plain (at (var 1 17) (known (pos 0) 4) 7) ∷ plain (at (var 1 17) (known (pos 1) 4) 7) ∷ []) true)) ∷ [])) ∷
      (listed (
      (built_in (set_length (var 0 16) (known (pos 2) 4))) ∷
      (assign (at (var 0 16) (known (pos 0) 4) 7) (quoted (codes "p1"))) ∷
      (assign (at (var 0 16) (known (pos 1) 4) 7) (with_q false 7 (at (var 0 16) (known (pos 0) 4) 7) Add (quoted (codes "q")))) ∷
      (call (expression (call_of (routine_id 0) (argued (whole_array (var 0 16) ∷ []))) (id 9) no_steps)) ∷
      (call (expression (call_of (routine_id 0) (argued (listed_as (id 17) (expressions (quoted (codes "ab")) (expressions (with_q false 7 (quoted (codes "cd")) Add (at (var 0 16) (known (pos 0) 4) 7)) no_expressions)) ∷ []))) (id 9) no_steps)) ∷
      (built_in (write (plain (at (var 0 16) (known (pos 0) 4) 7) ∷ plain (at (var 0 16) (known (pos 1) 4) 7) ∷ []) true)) ∷ [])) ∷
      [])

  array_open_texts_runs : outcome 4000 array_open_texts ([]) ≡ ends_with (asks 32 ∷ asks 32 ∷ asks 32 ∷ asks 32 ∷ asks 32 ∷ frees 4 ∷ frees 5 ∷ frees 3 ∷ asks 32 ∷ asks 32 ∷ asks 32 ∷ asks 32 ∷ frees 8 ∷ frees 9 ∷ frees 7 ∷ frees 6 ∷ frees 2 ∷ frees 1 ∷ []) (said (codes "p1+Z1q") ++ said (codes "ab+Zdp1") ++ said (codes "p1p1q")) ([]) 0
  unfolding outcome
  array_open_texts_runs = refl

  -- An open array by value is a copy: a static array, a dynamic one, and a list
  abbrev array_open_value : Program
  array_open_value = program name
      (Subrange (id 4) (pos 1) (pos 2) ∷ Array (id 16) (id 4) ∷ DynamicArray (id 4) ∷ OpenArray (id 4) ∷ [])
      []
      (row name 17 Plain None ∷ row name 18 Plain None ∷ row name 19 (Parameter Value) None ∷ [])
      (routine_row name (codes "p") Procedure OfUnit 1 None 2 1 ∷ [])
      []
      []
      []
      []
      (variable_id 0 ∷ variable_id 1 ∷ [])
      None
      ((listed (
      (if_then (with_q false 5 (applying High false (var 2 19) 4) GreaterEqual (known (pos 0) 4)) (assign (at (var 2 19) (known (pos 0) 4) 4) (with_q false 4 (at (var 2 19) (known (pos 0) 4) 4) Add (known (pos 1) 4)))) ∷
      (if_else (with_q false 5 (applying High false (var 2 19) 4) GreaterEqual (known (pos 0) 4)) (built_in (write (plain (at (var 2 19) (known (pos 0) 4) 4) ∷ plain (known (pos 32) 6) ∷ plain (applying High false (var 2 19) 4) ∷ []) true)) (built_in (write (plain (quoted (codes "none")) ∷ []) true))) ∷ [])) ∷
      (listed (
      (assign (at (var 0 17) (known (pos 1) 4) 4) (known (pos 5) 4)) ∷
      (built_in (set_length (var 1 18) (known (pos 3) 4))) ∷
      (assign (at (var 1 18) (known (pos 0) 4) 4) (known (pos 6) 4)) ∷
      (call (expression (call_of (routine_id 0) (argued (whole_array (var 0 17) ∷ []))) (id 9) no_steps)) ∷
      (call (expression (call_of (routine_id 0) (argued (whole_array (var 1 18) ∷ []))) (id 9) no_steps)) ∷
      (call (expression (call_of (routine_id 0) (argued (listed_as (id 19) (expressions (known (pos 8) 4) (expressions (known (pos 9) 4) no_expressions)) ∷ []))) (id 9) no_steps)) ∷
      (call (expression (call_of (routine_id 0) (argued (listed_as (id 19) no_expressions ∷ []))) (id 9) no_steps)) ∷
      (assign (var 1 18) (to Keep 18 nothing)) ∷
      (call (expression (call_of (routine_id 0) (argued (whole_array (var 1 18) ∷ []))) (id 9) no_steps)) ∷
      (built_in (write (plain (at (var 0 17) (known (pos 1) 4) 4) ∷ []) true)) ∷ [])) ∷
      [])

  array_open_value_runs : outcome 4000 array_open_value ([]) ≡ ends_with (asks 32 ∷ asks 32 ∷ frees 2 ∷ asks 32 ∷ frees 3 ∷ asks 32 ∷ frees 4 ∷ frees 1 ∷ []) (said (codes "6 1") ++ said (codes "7 2") ++ said (codes "9 1") ++ said (codes "none") ++ said (codes "none") ++ said (codes "5")) ([]) 0
  unfolding outcome
  array_open_value_runs = refl

  -- A var open array stores into its argument, of which another routine gets it too
  abbrev array_open_var : Program
  array_open_var = program name
      (DynamicArray (id 7) ∷ Subrange (id 4) (pos 0) (pos 1) ∷ Array (id 17) (id 7) ∷ OpenArray (id 7) ∷ [])
      []
      (row name 16 Plain None ∷ row name 18 Plain None ∷ row name 19 (Parameter Var) None ∷ row name 7 (Parameter Const_) None ∷ row name 4 Plain None ∷ [])
      (routine_row name (codes "p") Procedure OfUnit 2 None 2 3 ∷ [])
      []
      []
      []
      []
      (variable_id 0 ∷ variable_id 1 ∷ [])
      None
      ((listed (
      (for_to (variable_id 4) (known (pos 0) 4) To (applying High false (var 2 19) 4) (assign (at (var 2 19) (var 4 4) 7) (with_q false 7 (at (var 2 19) (var 4 4) 7) Add (var 3 7)))) ∷
      (if_then (with_q false 5 (var 3 7) Equal (quoted (codes "x"))) (call (expression (call_of (routine_id 0) (argued (whole_array (var 2 19) ∷ value (quoted (codes "y!")) ∷ []))) (id 9) no_steps))) ∷ [])) ∷
      (listed (
      (built_in (set_length (var 0 16) (known (pos 2) 4))) ∷
      (assign (at (var 0 16) (known (pos 1) 4) 7) (quoted (codes "d"))) ∷
      (call (expression (call_of (routine_id 0) (argued (whole_array (var 0 16) ∷ value (quoted (codes "x")) ∷ []))) (id 9) no_steps)) ∷
      (call (expression (call_of (routine_id 0) (argued (whole_array (var 1 18) ∷ value (quoted (codes "z")) ∷ []))) (id 9) no_steps)) ∷
      (built_in (write (plain (at (var 0 16) (known (pos 0) 4) 7) ∷ plain (known (pos 32) 6) ∷ plain (at (var 0 16) (known (pos 1) 4) 7) ∷ plain (known (pos 32) 6) ∷ plain (at (var 1 18) (known (pos 0) 4) 7) ∷ plain (at (var 1 18) (known (pos 1) 4) 7) ∷ []) true)) ∷ [])) ∷
      [])

  array_open_var_runs : outcome 4000 array_open_var ([]) ≡ ends_with (asks 32 ∷ asks 32 ∷ asks 32 ∷ asks 32 ∷ frees 2 ∷ frees 3 ∷ frees 4 ∷ frees 1 ∷ []) (said (codes "xy! dxy! zz")) ([]) 0
  unfolding outcome
  array_open_var_runs = refl

  -- Out arguments are all empty before the routine begins
  abbrev array_out_arguments : Program
  array_out_arguments = program name
      (DynamicArray (id 7) ∷ [])
      []
      (row name 16 Plain None ∷ row name 7 Plain None ∷ row name 7 (Parameter Out) None ∷ row name 16 (Parameter Out) None ∷ [])
      (routine_row name (codes "p") Procedure OfUnit 2 None 2 2 ∷ [])
      []
      []
      []
      []
      (variable_id 0 ∷ variable_id 1 ∷ [])
      None
      ((listed (
      (built_in (write (plain (applying Length false (var 2 7) 4) ∷ plain (applying Length false (var 3 16) 4) ∷ plain (applying Length false (var 1 7) 4) ∷ plain (applying Length false (var 0 16) 4) ∷ []) true)) ∷
      (assign (var 2 7) (quoted (codes "new"))) ∷
      (built_in (set_length (var 3 16) (known (pos 1) 4))) ∷ [])) ∷
      (listed (
      (assign (var 1 7) (quoted (codes "old"))) ∷
      (built_in (set_length (var 0 16) (known (pos 2) 4))) ∷
      (assign (at (var 0 16) (known (pos 0) 4) 7) (quoted (codes "zero"))) ∷
      (call (expression (call_of (routine_id 0) (argued (place (var 1 7) ∷ place (var 0 16) ∷ []))) (id 9) no_steps)) ∷
      (built_in (write (plain (var 1 7) ∷ plain (applying Length false (var 0 16) 4) ∷ plain (at (var 0 16) (known (pos 0) 4) 7) ∷ plain (known (pos 46) 6) ∷ []) true)) ∷ [])) ∷
      [])

  array_out_arguments_runs : outcome 4000 array_out_arguments ([]) ≡ ends_with (asks 32 ∷ frees 1 ∷ asks 32 ∷ frees 2 ∷ []) (said (codes "0000") ++ said (codes "new1.")) ([]) 0
  unfolding outcome
  array_out_arguments_runs = refl

  -- An array and one of its elements, both as out: the array is held until the statement ends
  abbrev array_out_both : Program
  array_out_both = program name
      (DynamicArray (id 7) ∷ [])
      []
      (row name 16 Plain None ∷ row name 16 (Parameter Out) None ∷ row name 7 (Parameter Out) None ∷ [])
      (routine_row name (codes "p") Procedure OfUnit 2 None 1 2 ∷ [])
      []
      []
      []
      []
      (variable_id 0 ∷ [])
      None
      ((listed (
      (built_in (write (plain (applying Length false (var 1 16) 4) ∷ plain (applying Length false (var 2 7) 4) ∷ []) true)) ∷
      (assign (var 2 7) (quoted (codes "y"))) ∷
      (built_in (set_length (var 1 16) (known (pos 2) 4))) ∷
      (built_in (write (plain (var 2 7) ∷ plain (applying Length false (at (var 1 16) (known (pos 0) 4) 7) 4) ∷ []) true)) ∷ [])) ∷
      (listed (
      (built_in (set_length (var 0 16) (known (pos 1) 4))) ∷
      (assign (at (var 0 16) (known (pos 0) 4) 7) (quoted (codes "zero"))) ∷
      (assign (at (var 0 16) (known (pos 0) 4) 7) (with_q false 7 (at (var 0 16) (known (pos 0) 4) 7) Add (quoted (codes "!")))) ∷
      (call (expression (call_of (routine_id 0) (argued (place (var 0 16) ∷ place (at (var 0 16) (known (pos 0) 4) 7) ∷ []))) (id 9) no_steps)) ∷
      (built_in (write (plain (applying Length false (var 0 16) 4) ∷ plain (known (pos 91) 6) ∷ plain (at (var 0 16) (known (pos 0) 4) 7) ∷ plain (known (pos 93) 6) ∷ []) true)) ∷ [])) ∷
      [])

  array_out_both_runs : outcome 4000 array_out_both ([]) ≡ ends_with (asks 32 ∷ asks 32 ∷ frees 2 ∷ asks 32 ∷ frees 1 ∷ frees 3 ∷ []) (said (codes "00") ++ said (codes "y0") ++ said (codes "2[]")) ([]) 0
  unfolding outcome
  array_out_both_runs = refl

  -- An out open array: its texts are empty, its numbers stay
  abbrev array_out_open : Program
  array_out_open = program name
      (DynamicArray (id 7) ∷ Subrange (id 4) (pos 0) (pos 1) ∷ Array (id 17) (id 4) ∷ OpenArray (id 7) ∷ OpenArray (id 4) ∷ [])
      []
      (row name 16 Plain None ∷ row name 18 Plain None ∷ row name 19 (Parameter Out) None ∷ row name 20 (Parameter Out) None ∷ [])
      (routine_row name (codes "p") Procedure OfUnit 2 None 2 2 ∷ [])
      []
      []
      []
      []
      (variable_id 0 ∷ variable_id 1 ∷ [])
      None
      ((listed (
      (built_in (write (plain (applying Length false (var 2 19) 4) ∷ plain (applying Length false (at (var 2 19) (known (pos 0) 4) 7) 4) ∷ plain (applying High false (var 3 20) 4) ∷ []) true)) ∷
      (assign (at (var 2 19) (known (pos 1) 4) 7) (quoted (codes "q"))) ∷ [])) ∷
      (listed (
      (built_in (set_length (var 0 16) (known (pos 2) 4))) ∷
      (assign (at (var 0 16) (known (pos 0) 4) 7) (quoted (codes "p"))) ∷
      (call (expression (call_of (routine_id 0) (argued (whole_array (var 0 16) ∷ whole_array (var 1 18) ∷ []))) (id 9) no_steps)) ∷
      (built_in (write (plain (known (pos 91) 6) ∷ plain (at (var 0 16) (known (pos 0) 4) 7) ∷ plain (at (var 0 16) (known (pos 1) 4) 7) ∷ plain (known (pos 93) 6) ∷ []) true)) ∷ [])) ∷
      [])

  array_out_open_runs : outcome 4000 array_out_open ([]) ≡ ends_with (asks 32 ∷ frees 1 ∷ []) (said (codes "201") ++ said (codes "[q]")) ([]) 0
  unfolding outcome
  array_out_open_runs = refl

  -- The right side makes the array longer before the place is looked at
  abbrev array_path_resized : Program
  array_path_resized = program name
      (DynamicArray (id 4) ∷ [])
      []
      (row name 16 Plain None ∷ row name 4 Result None ∷ [])
      (routine_row name (codes "f") FunctionKind OfUnit 0 (Some 4) 1 1 ∷ [])
      []
      []
      []
      []
      (variable_id 0 ∷ [])
      None
      ((listed (
      (built_in (set_length (var 0 16) (with_q false 4 (applying Length false (var 0 16) 4) Add (known (pos 1) 4)))) ∷
      (assign (var 1 4) (applying Length false (var 0 16) 4)) ∷ [])) ∷
      (listed (
      (assign (at (var 0 16) (known (pos 0) 4) 4) (expression (call_of (routine_id 0) (argued [])) (id 4) no_steps)) ∷
      (assign (at (var 0 16) (with_q false 4 (expression (call_of (routine_id 0) (argued [])) (id 4) no_steps) Subtract (known (pos 1) 4)) 4) (known (pos 5) 4)) ∷
      (built_in (write (plain (applying Length false (var 0 16) 4) ∷ plain (at (var 0 16) (known (pos 0) 4) 4) ∷ plain (at (var 0 16) (known (pos 1) 4) 4) ∷ []) true)) ∷ [])) ∷
      [])

  array_path_resized_runs : outcome 4000 array_path_resized ([]) ≡ ends_with (asks 32 ∷ asks 32 ∷ frees 1 ∷ frees 2 ∷ []) (said (codes "215")) ([]) 0
  unfolding outcome
  array_path_resized_runs = refl

  -- A record with a text: by value, as const, as var, as out
  abbrev array_record_passed : Program
  array_record_passed = program name
      (Record (rows_at 0 2) ∷ [])
      (part name 7 ∷ part name 4 ∷ [])
      (row name 16 Plain None ∷ row name 16 (Parameter Value) None ∷ row name 16 (Parameter Const_) None ∷ row name 16 (Parameter Var) None ∷ row name 16 (Parameter Out) None ∷ [])
      (routine_row name (codes "v") Procedure OfUnit 1 None 1 1 ∷ routine_row name (codes "c") Procedure OfUnit 1 None 2 1 ∷ routine_row name (codes "w") Procedure OfUnit 1 None 3 1 ∷ routine_row name (codes "o") Procedure OfUnit 1 None 4 1 ∷ [])
      []
      []
      []
      []
      (variable_id 0 ∷ [])
      None
      ((listed (
      (assign (dot (var 1 16) 0 7) (with_q false 7 (dot (var 1 16) 0 7) Add (quoted (codes "1")))) ∷
      (built_in (write (plain (dot (var 1 16) 0 7) ∷ plain (dot (var 1 16) 1 4) ∷ []) true)) ∷ [])) ∷
      (listed (
      (built_in (write (plain (dot (var 2 16) 0 7) ∷ plain (dot (var 2 16) 1 4) ∷ []) true)) ∷ [])) ∷
      (listed (
      (assign (dot (var 3 16) 0 7) (with_q false 7 (dot (var 3 16) 0 7) Add (quoted (codes "2")))) ∷
      (built_in (count To (target_at (dot (var 3 16) 1 4) Keep) (known (pos 1) 4) false)) ∷ [])) ∷
      (listed (
      (built_in (write (plain (applying Length false (dot (var 4 16) 0 7) 4) ∷ []) true)) ∷
      (assign (dot (var 4 16) 0 7) (quoted (codes "out"))) ∷ [])) ∷
      (listed (
      (assign (dot (var 0 16) 0 7) (quoted (codes "x"))) ∷
      (assign (dot (var 0 16) 1 4) (known (pos 3) 4)) ∷
      (call (expression (call_of (routine_id 0) (argued (value (var 0 16) ∷ []))) (id 9) no_steps)) ∷
      (call (expression (call_of (routine_id 1) (argued (value (var 0 16) ∷ []))) (id 9) no_steps)) ∷
      (call (expression (call_of (routine_id 2) (argued (place (var 0 16) ∷ []))) (id 9) no_steps)) ∷
      (call (expression (call_of (routine_id 1) (argued (value (var 0 16) ∷ []))) (id 9) no_steps)) ∷
      (call (expression (call_of (routine_id 3) (argued (place (var 0 16) ∷ []))) (id 9) no_steps)) ∷
      (built_in (write (plain (dot (var 0 16) 0 7) ∷ []) true)) ∷ [])) ∷
      [])

  array_record_passed_runs : outcome 4000 array_record_passed ([]) ≡ ends_with (asks 32 ∷ frees 1 ∷ asks 32 ∷ frees 2 ∷ []) (said (codes "x13") ++ said (codes "x3") ++ said (codes "x24") ++ said (codes "0") ++ said (codes "out")) ([]) 0
  unfolding outcome
  array_record_passed_runs = refl

  -- A function gives a record; its field is read, it is stored, and it is thrown away
  abbrev array_record_result : Program
  array_record_result = program name
      (DynamicArray (id 4) ∷ Record (rows_at 0 2) ∷ [])
      (part name 7 ∷ part name 16 ∷ [])
      (row name 17 Plain None ∷ row name 4 (Parameter Value) None ∷ row name 17 Result None ∷ [])
      (routine_row name (codes "f") FunctionKind OfUnit 1 (Some 17) 1 2 ∷ [])
      []
      []
      []
      []
      (variable_id 0 ∷ [])
      None
      ((listed (
      (built_in (str (plain (var 1 4)) (dot (var 2 17) 0 7))) ∷
      (assign (dot (var 2 17) 0 7) (with_q false 7 (dot (var 2 17) 0 7) Add (quoted (codes "f")))) ∷
      (built_in (set_length (dot (var 2 17) 1 16) (var 1 4))) ∷
      (if_then (with_q false 5 (var 1 4) Greater (known (pos 0) 4)) (assign (at (dot (var 2 17) 1 16) (known (pos 0) 4) 4) (var 1 4))) ∷ [])) ∷
      (listed (
      (built_in (write (plain (dot (expression (call_of (routine_id 0) (argued (value (known (pos 2) 4) ∷ []))) (id 17) no_steps) 0 7) ∷ plain (applying Length false (dot (expression (call_of (routine_id 0) (argued (value (known (pos 3) 4) ∷ []))) (id 17) no_steps) 1 16) 4) ∷ []) true)) ∷
      (assign (var 0 17) (expression (call_of (routine_id 0) (argued (value (known (pos 4) 4) ∷ []))) (id 17) no_steps)) ∷
      (call (expression (call_of (routine_id 0) (argued (value (known (pos 1) 4) ∷ []))) (id 17) no_steps)) ∷
      (built_in (write (plain (dot (var 0 17) 0 7) ∷ plain (at (dot (var 0 17) 1 16) (known (pos 0) 4) 4) ∷ plain (at (dot (expression (call_of (routine_id 0) (argued (value (known (pos 7) 4) ∷ []))) (id 17) no_steps) 1 16) (known (pos 0) 4) 4) ∷ []) true)) ∷ [])) ∷
      [])

  array_record_result_runs : outcome 4000 array_record_result ([]) ≡ ends_with (asks 32 ∷ asks 32 ∷ frees 1 ∷ asks 32 ∷ asks 32 ∷ asks 32 ∷ frees 4 ∷ asks 32 ∷ frees 5 ∷ frees 6 ∷ frees 2 ∷ frees 3 ∷ asks 32 ∷ asks 32 ∷ frees 7 ∷ asks 32 ∷ asks 32 ∷ asks 32 ∷ frees 10 ∷ asks 32 ∷ frees 11 ∷ frees 12 ∷ asks 32 ∷ asks 32 ∷ frees 13 ∷ asks 48 ∷ frees 14 ∷ frees 15 ∷ frees 8 ∷ frees 9 ∷ []) (said (codes "2f3") ++ said (codes "4f47")) ([]) 0
  unfolding outcome
  array_record_result_runs = refl

  -- Records that share an array in a field, until one side's length is set
  abbrev array_records_of_arrays : Program
  array_records_of_arrays = program name
      (DynamicArray (id 4) ∷ Record (rows_at 0 2) ∷ DynamicArray (id 17) ∷ [])
      (part name 16 ∷ part name 7 ∷ [])
      (row name 18 Plain None ∷ row name 17 Plain None ∷ [])
      []
      []
      []
      []
      []
      (variable_id 0 ∷ variable_id 1 ∷ [])
      None
      ((listed (
      (built_in (set_length (var 0 18) (known (pos 2) 4))) ∷
      (built_in (set_length (dot (at (var 0 18) (known (pos 0) 4) 17) 0 16) (known (pos 1) 4))) ∷
      (assign (dot (at (var 0 18) (known (pos 0) 4) 17) 1 7) (quoted (codes "x"))) ∷
      (assign (at (var 0 18) (known (pos 1) 4) 17) (at (var 0 18) (known (pos 0) 4) 17)) ∷
      (assign (at (dot (at (var 0 18) (known (pos 1) 4) 17) 0 16) (known (pos 0) 4) 4) (known (pos 5) 4)) ∷
      (assign (var 1 17) (at (var 0 18) (known (pos 1) 4) 17)) ∷
      (built_in (set_length (dot (var 1 17) 0 16) (known (pos 2) 4))) ∷
      (assign (at (dot (var 1 17) 0 16) (known (pos 0) 4) 4) (known (pos 6) 4)) ∷
      (assign (dot (var 1 17) 1 7) (with_q false 7 (dot (var 1 17) 1 7) Add (quoted (codes "y")))) ∷
      (built_in (write (plain (at (dot (at (var 0 18) (known (pos 0) 4) 17) 0 16) (known (pos 0) 4) 4) ∷ plain (at (dot (var 1 17) 0 16) (known (pos 0) 4) 4) ∷ plain (applying Length false (dot (at (var 0 18) (known (pos 1) 4) 17) 0 16) 4) ∷ plain (dot (at (var 0 18) (known (pos 1) 4) 17) 1 7) ∷ plain (dot (var 1 17) 1 7) ∷ []) true)) ∷ [])) ∷
      [])

  array_records_of_arrays_runs : outcome 4000 array_records_of_arrays ([]) ≡ ends_with (asks 32 ∷ asks 32 ∷ asks 32 ∷ asks 32 ∷ frees 2 ∷ frees 1 ∷ frees 3 ∷ frees 4 ∷ []) (said (codes "561xxy")) ([]) 0
  unfolding outcome
  array_records_of_arrays_runs = refl

  -- A function's array is the global's own array
  abbrev array_result_shared : Program
  array_result_shared = program name
      (DynamicArray (id 4) ∷ [])
      []
      (row name 16 Plain None ∷ row name 16 Result None ∷ [])
      (routine_row name (codes "f") FunctionKind OfUnit 0 (Some 16) 1 1 ∷ [])
      []
      []
      []
      []
      (variable_id 0 ∷ [])
      None
      ((listed (
      (assign (var 1 16) (var 0 16)) ∷ [])) ∷
      (listed (
      (built_in (set_length (var 0 16) (known (pos 2) 4))) ∷
      (assign (at (expression (call_of (routine_id 0) (argued [])) (id 16) no_steps) (known (pos 1) 4) 4) (known (pos 6) 4)) ∷
      (built_in (write (plain (at (var 0 16) (known (pos 1) 4) 4) ∷ plain (with_q false 5 (expression (call_of (routine_id 0) (argued [])) (id 16) no_steps) Equal (var 0 16)) ∷ plain (applying Length false (expression (call_of (routine_id 0) (argued [])) (id 16) no_steps) 4) ∷ plain (at (expression (call_of (routine_id 0) (argued [])) (id 16) no_steps) (known (pos 1) 4) 4) ∷ []) true)) ∷ [])) ∷
      [])

  array_result_shared_runs : outcome 4000 array_result_shared ([]) ≡ ends_with (asks 32 ∷ frees 1 ∷ []) (said (codes "6TRUE26")) ([]) 0
  unfolding outcome
  array_result_shared_runs = refl

  -- A row outlives the array that held it
  abbrev array_self_holding : Program
  array_self_holding = program name
      (DynamicArray (id 7) ∷ DynamicArray (id 16) ∷ [])
      []
      (row name 17 Plain None ∷ row name 16 Plain None ∷ [])
      []
      []
      []
      []
      []
      (variable_id 0 ∷ variable_id 1 ∷ [])
      None
      ((listed (
      (built_in (set_length (var 0 17) (known (pos 1) 4))) ∷
      (built_in (set_length (at (var 0 17) (known (pos 0) 4) 16) (known (pos 1) 4))) ∷
      (assign (at (at (var 0 17) (known (pos 0) 4) 16) (known (pos 0) 4) 7) (quoted (codes "deep"))) ∷
      (assign (var 1 16) (at (var 0 17) (known (pos 0) 4) 16)) ∷
      (assign (at (var 0 17) (known (pos 0) 4) 16) (to Keep 16 nothing)) ∷
      (built_in (write (plain (at (var 1 16) (known (pos 0) 4) 7) ∷ plain (applying Length false (at (var 0 17) (known (pos 0) 4) 16) 4) ∷ []) true)) ∷
      (assign (var 1 16) (applying Whole false (var 1 16) 16)) ∷
      (assign (at (var 1 16) (known (pos 0) 4) 7) (with_q false 7 (at (var 1 16) (known (pos 0) 4) 7) Add (quoted (codes "er")))) ∷
      (built_in (write (plain (at (var 1 16) (known (pos 0) 4) 7) ∷ []) true)) ∷ [])) ∷
      [])

  array_self_holding_runs : outcome 4000 array_self_holding ([]) ≡ ends_with (asks 32 ∷ asks 32 ∷ asks 32 ∷ frees 2 ∷ asks 32 ∷ frees 1 ∷ frees 4 ∷ frees 3 ∷ []) (said (codes "deep0") ++ said (codes "deeper")) ([]) 0
  unfolding outcome
  array_self_holding_runs = refl

  -- SetLength makes longer with zeros, shorter, and none
  abbrev array_setlength : Program
  array_setlength = program name
      (DynamicArray (id 4) ∷ [])
      []
      (row name 16 Plain None ∷ row name 4 Plain None ∷ [])
      []
      []
      []
      []
      []
      (variable_id 0 ∷ variable_id 1 ∷ [])
      None
      ((listed (
      (built_in (write (plain (applying Length false (var 0 16) 4) ∷ plain (applying High false (var 0 16) 4) ∷ []) true)) ∷
      (built_in (set_length (var 0 16) (known (pos 3) 4))) ∷
      (for_to (variable_id 1) (known (pos 0) 4) To (applying High false (var 0 16) 4) (assign (at (var 0 16) (var 1 4) 4) (with_q false 4 (var 1 4) Multiply (var 1 4)))) ∷
      (built_in (set_length (var 0 16) (known (pos 5) 4))) ∷
      (for_to (variable_id 1) (known (pos 0) 4) To (known (pos 4) 4) (built_in (write (plain (at (var 0 16) (var 1 4) 4) ∷ plain (known (pos 32) 6) ∷ []) false))) ∷
      (built_in (set_length (var 0 16) (known (pos 2) 4))) ∷
      (built_in (write (plain (applying Length false (var 0 16) 4) ∷ plain (applying High false (var 0 16) 4) ∷ plain (at (var 0 16) (known (pos 1) 4) 4) ∷ plain (applying Low false (var 0 16) 4) ∷ []) true)) ∷
      (built_in (set_length (var 0 16) (known (pos 0) 4))) ∷
      (built_in (write (plain (with_q false 5 (var 0 16) Equal (to Keep 16 nothing)) ∷ plain (applying Length false (var 0 16) 4) ∷ []) true)) ∷ [])) ∷
      [])

  array_setlength_runs : outcome 4000 array_setlength ([]) ≡ ends_with (asks 32 ∷ asks 48 ∷ frees 1 ∷ asks 32 ∷ frees 2 ∷ frees 3 ∷ []) (said (codes "0-1") ++ said (codes "0 1 4 0 0 2110") ++ said (codes "TRUE0")) ([]) 0
  unfolding outcome
  array_setlength_runs = refl

  -- Assignment shares the array, SetLength parts the two
  abbrev array_shared : Program
  array_shared = program name
      (DynamicArray (id 4) ∷ [])
      []
      (row name 16 Plain None ∷ row name 16 Plain None ∷ [])
      []
      []
      []
      []
      []
      (variable_id 0 ∷ variable_id 1 ∷ [])
      None
      ((listed (
      (built_in (set_length (var 0 16) (known (pos 2) 4))) ∷
      (assign (var 1 16) (var 0 16)) ∷
      (assign (at (var 1 16) (known (pos 0) 4) 4) (known (pos 7) 4)) ∷
      (built_in (write (plain (at (var 0 16) (known (pos 0) 4) 4) ∷ plain (with_q false 5 (var 0 16) Equal (var 1 16)) ∷ []) true)) ∷
      (built_in (set_length (var 1 16) (known (pos 2) 4))) ∷
      (assign (at (var 1 16) (known (pos 0) 4) 4) (known (pos 9) 4)) ∷
      (built_in (write (plain (at (var 0 16) (known (pos 0) 4) 4) ∷ plain (at (var 1 16) (known (pos 0) 4) 4) ∷ plain (with_q false 5 (var 0 16) Equal (var 1 16)) ∷ []) true)) ∷
      (assign (var 0 16) (to Keep 16 nothing)) ∷
      (built_in (write (plain (applying Length false (var 0 16) 4) ∷ plain (applying Length false (var 1 16) 4) ∷ plain (applying Assigned false (var 0 16) 5) ∷ plain (applying Assigned false (var 1 16) 5) ∷ []) true)) ∷ [])) ∷
      [])

  array_shared_runs : outcome 4000 array_shared ([]) ≡ ends_with (asks 32 ∷ asks 32 ∷ frees 1 ∷ frees 2 ∷ []) (said (codes "7TRUE") ++ said (codes "79FALSE") ++ said (codes "02FALSETRUE")) ([]) 0
  unfolding outcome
  array_shared_runs = refl

  -- A static array of texts is copied by assignment, passed by value, and given back
  abbrev array_static_texts : Program
  array_static_texts = program name
      (Subrange (id 4) (pos 1) (pos 2) ∷ Array (id 16) (id 7) ∷ [])
      []
      (row name 17 Plain None ∷ row name 17 Plain None ∷ row name 17 (Parameter Value) None ∷ row name 17 Result None ∷ [])
      (routine_row name (codes "f") FunctionKind OfUnit 1 (Some 17) 2 2 ∷ [])
      []
      []
      []
      []
      (variable_id 0 ∷ variable_id 1 ∷ [])
      None
      ((listed (
      (assign (at (var 2 17) (known (pos 1) 4) 7) (with_q false 7 (at (var 2 17) (known (pos 1) 4) 7) Add (quoted (codes "+")))) ∷
      (assign (var 3 17) (var 2 17)) ∷
      (assign (at (var 3 17) (known (pos 2) 4) 7) (quoted (codes "r"))) ∷ [])) ∷
      (listed (
      (assign (at (var 0 17) (known (pos 1) 4) 7) (quoted (codes "p"))) ∷
      (assign (at (var 0 17) (known (pos 2) 4) 7) (quoted (codes "q"))) ∷
      (assign (var 1 17) (expression (call_of (routine_id 0) (argued (value (var 0 17) ∷ []))) (id 17) no_steps)) ∷
      (built_in (write (plain (at (var 0 17) (known (pos 1) 4) 7) ∷ plain (at (var 0 17) (known (pos 2) 4) 7) ∷ plain (known (pos 32) 6) ∷ plain (at (var 1 17) (known (pos 1) 4) 7) ∷ plain (at (var 1 17) (known (pos 2) 4) 7) ∷ []) true)) ∷
      (assign (var 0 17) (var 1 17)) ∷
      (assign (at (at (var 1 17) (known (pos 1) 4) 7) (known (pos 1) 4) 6) (known (pos 42) 6)) ∷
      (built_in (write (plain (at (var 0 17) (known (pos 1) 4) 7) ∷ plain (at (var 1 17) (known (pos 1) 4) 7) ∷ []) true)) ∷ [])) ∷
      [])

  array_static_texts_runs : outcome 4000 array_static_texts ([]) ≡ ends_with (asks 32 ∷ asks 32 ∷ frees 1 ∷ frees 2 ∷ []) (said (codes "pq p+r") ++ said (codes "p+*+")) ([]) 0
  unfolding outcome
  array_static_texts_runs = refl

  -- A global array of arrays of texts that is full when the program ends
  abbrev array_strings_falls : Program
  array_strings_falls = program name
      (Subrange (id 4) (pos 0) (pos 1) ∷ DynamicArray (id 7) ∷ Array (id 16) (id 17) ∷ [])
      []
      (row name 18 Plain None ∷ row name 4 Plain None ∷ [])
      []
      []
      []
      []
      []
      (variable_id 0 ∷ variable_id 1 ∷ [])
      None
      ((listed (
      (for_to (variable_id 1) (known (pos 0) 4) To (known (pos 1) 4) (block (listed (
      (built_in (set_length (at (var 0 18) (var 1 4) 17) (known (pos 2) 4))) ∷
      (assign (at (at (var 0 18) (var 1 4) 17) (known (pos 0) 4) 7) (quoted (codes "a"))) ∷
      (assign (at (at (var 0 18) (var 1 4) 17) (known (pos 1) 4) 7) (with_q false 7 (at (at (var 0 18) (var 1 4) 17) (known (pos 0) 4) 7) Add (quoted (codes "b")))) ∷ [])))) ∷
      (assign (at (var 0 18) (known (pos 1) 4) 17) (at (var 0 18) (known (pos 0) 4) 17)) ∷
      (built_in (write (plain (at (at (var 0 18) (known (pos 1) 4) 17) (known (pos 1) 4) 7) ∷ []) true)) ∷ [])) ∷
      [])

  array_strings_falls_runs : outcome 4000 array_strings_falls ([]) ≡ ends_with (asks 32 ∷ asks 32 ∷ asks 32 ∷ asks 32 ∷ frees 4 ∷ frees 3 ∷ frees 2 ∷ frees 1 ∷ []) (said (codes "ab")) ([]) 0
  unfolding outcome
  array_strings_falls_runs = refl

  -- Texts of two elements change places
  abbrev array_swap : Program
  array_swap = program name
      (DynamicArray (id 7) ∷ [])
      []
      (row name 16 Plain None ∷ row name 7 Plain None ∷ row name 7 (Parameter Var) None ∷ row name 7 (Parameter Var) None ∷ row name 7 Plain None ∷ [])
      (routine_row name (codes "swap") Procedure OfUnit 2 None 2 3 ∷ [])
      []
      []
      []
      []
      (variable_id 0 ∷ variable_id 1 ∷ [])
      None
      ((listed (
      (assign (var 4 7) (var 2 7)) ∷
      (assign (var 2 7) (var 3 7)) ∷
      (assign (var 3 7) (var 4 7)) ∷ [])) ∷
      (listed (
      (built_in (set_length (var 0 16) (known (pos 2) 4))) ∷
      (assign (at (var 0 16) (known (pos 0) 4) 7) (quoted (codes "p"))) ∷
      (assign (at (var 0 16) (known (pos 1) 4) 7) (with_q false 7 (at (var 0 16) (known (pos 0) 4) 7) Add (quoted (codes "q")))) ∷
      (call (expression (call_of (routine_id 0) (argued (place (at (var 0 16) (known (pos 0) 4) 7) ∷ place (at (var 0 16) (known (pos 1) 4) 7) ∷ []))) (id 9) no_steps)) ∷
      (built_in (write (plain (at (var 0 16) (known (pos 0) 4) 7) ∷ plain (known (pos 32) 6) ∷ plain (at (var 0 16) (known (pos 1) 4) 7) ∷ []) true)) ∷
      (call (expression (call_of (routine_id 0) (argued (place (at (var 0 16) (known (pos 0) 4) 7) ∷ place (at (var 0 16) (known (pos 0) 4) 7) ∷ []))) (id 9) no_steps)) ∷
      (built_in (write (plain (at (var 0 16) (known (pos 0) 4) 7) ∷ plain (applying Length false (var 1 7) 4) ∷ []) true)) ∷ [])) ∷
      [])

  array_swap_runs : outcome 4000 array_swap ([]) ≡ ends_with (asks 32 ∷ asks 32 ∷ frees 2 ∷ frees 1 ∷ []) (said (codes "pq p") ++ said (codes "pq0")) ([]) 0
  unfolding outcome
  array_swap_runs = refl

  -- A static array with two dimensions: rows are arrays too
  abbrev array_two_dimensions : Program
  array_two_dimensions = program name
      (Subrange (id 4) (pos 1) (pos 2) ∷ Array (id 16) (id 6) ∷ Subrange (id 4) (pos 1) (pos 2) ∷ Array (id 18) (id 6) ∷ Array (id 5) (id 19) ∷ Subrange (id 4) (pos 0) (pos 1) ∷ Array (id 21) (id 17) ∷ [])
      []
      (row name 20 Plain None ∷ row name 17 Plain None ∷ row name 4 Plain None ∷ row name 22 Plain None ∷ [])
      []
      []
      []
      []
      []
      (variable_id 0 ∷ variable_id 1 ∷ variable_id 2 ∷ variable_id 3 ∷ [])
      None
      ((listed (
      (for_to (variable_id 2) (known (pos 1) 4) To (known (pos 2) 4) (block (listed (
      (assign (at (at (var 0 20) (known (pos 0) 5) 19) (var 2 4) 6) (to LowBits 6 (with_q false 4 (known (pos 96) 4) Add (var 2 4)))) ∷
      (assign (at (at (var 0 20) (known (pos 1) 5) 19) (var 2 4) 6) (to LowBits 6 (with_q false 4 (known (pos 64) 4) Add (var 2 4)))) ∷ [])))) ∷
      (assign (at (at (var 3 22) (known (pos 0) 4) 17) (known (pos 1) 4) 6) (at (at (var 0 20) (known (pos 1) 5) 19) (known (pos 2) 4) 6)) ∷
      (assign (var 1 17) (at (var 3 22) (known (pos 0) 4) 17)) ∷
      (assign (at (var 1 17) (known (pos 2) 4) 6) (known (pos 33) 6)) ∷
      (assign (at (var 3 22) (known (pos 1) 4) 17) (var 1 17)) ∷
      (built_in (write (plain (at (at (var 0 20) (known (pos 0) 5) 19) (known (pos 1) 4) 6) ∷ plain (at (at (var 0 20) (known (pos 1) 5) 19) (known (pos 1) 4) 6) ∷ plain (at (at (var 3 22) (known (pos 1) 4) 17) (known (pos 1) 4) 6) ∷ plain (at (at (var 3 22) (known (pos 1) 4) 17) (known (pos 2) 4) 6) ∷ plain (applying Length false (var 0 20) 4) ∷ plain (applying High false (var 3 22) 21) ∷ []) true)) ∷ [])) ∷
      [])

  array_two_dimensions_runs : outcome 4000 array_two_dimensions ([]) ≡ ends_with [] (said (codes "aAB!21")) ([]) 0
  unfolding outcome
  array_two_dimensions_runs = refl

  -- A var argument within an array that becomes nil: the array stays for the call
  abbrev array_var_argument : Program
  array_var_argument = program name
      (DynamicArray (id 7) ∷ [])
      []
      (row name 16 Plain None ∷ row name 7 (Parameter Var) None ∷ [])
      (routine_row name (codes "p") Procedure OfUnit 1 None 1 1 ∷ [])
      []
      []
      []
      []
      (variable_id 0 ∷ [])
      None
      ((listed (
      (assign (var 0 16) (to Keep 16 nothing)) ∷
      (assign (var 1 7) (with_q false 7 (var 1 7) Add (quoted (codes "!")))) ∷
      (built_in (write (plain (var 1 7) ∷ plain (applying Length false (var 0 16) 4) ∷ []) true)) ∷ [])) ∷
      (listed (
      (built_in (set_length (var 0 16) (known (pos 2) 4))) ∷
      (assign (at (var 0 16) (known (pos 1) 4) 7) (quoted (codes "hi"))) ∷
      (assign (at (var 0 16) (known (pos 1) 4) 7) (with_q false 7 (at (var 0 16) (known (pos 1) 4) 7) Add (quoted (codes "o")))) ∷
      (call (expression (call_of (routine_id 0) (argued (place (at (var 0 16) (known (pos 1) 4) 7) ∷ []))) (id 9) no_steps)) ∷
      (built_in (write (plain (with_q false 5 (var 0 16) Equal (to Keep 16 nothing)) ∷ []) true)) ∷ [])) ∷
      [])

  array_var_argument_runs : outcome 4000 array_var_argument ([]) ≡ ends_with (asks 32 ∷ asks 32 ∷ asks 32 ∷ frees 2 ∷ frees 3 ∷ frees 1 ∷ []) (said (codes "hio!0") ++ said (codes "TRUE")) ([]) 0
  unfolding outcome
  array_var_argument_runs = refl

  -- A var argument within an array that is made longer: the store goes to the old one
  abbrev array_var_resized : Program
  array_var_resized = program name
      (DynamicArray (id 4) ∷ [])
      []
      (row name 16 Plain None ∷ row name 16 Plain None ∷ row name 4 (Parameter Var) None ∷ [])
      (routine_row name (codes "p") Procedure OfUnit 1 None 2 1 ∷ [])
      []
      []
      []
      []
      (variable_id 0 ∷ variable_id 1 ∷ [])
      None
      ((listed (
      (built_in (set_length (var 0 16) (known (pos 3) 4))) ∷
      (assign (var 2 4) (known (pos 7) 4)) ∷
      (built_in (write (plain (var 2 4) ∷ plain (at (var 0 16) (known (pos 0) 4) 4) ∷ []) true)) ∷ [])) ∷
      (listed (
      (built_in (set_length (var 0 16) (known (pos 1) 4))) ∷
      (assign (at (var 0 16) (known (pos 0) 4) 4) (known (pos 1) 4)) ∷
      (call (expression (call_of (routine_id 0) (argued (place (at (var 0 16) (known (pos 0) 4) 4) ∷ []))) (id 9) no_steps)) ∷
      (built_in (write (plain (at (var 0 16) (known (pos 0) 4) 4) ∷ plain (applying Length false (var 0 16) 4) ∷ plain (applying Length false (var 1 16) 4) ∷ []) true)) ∷ [])) ∷
      [])

  array_var_resized_runs : outcome 4000 array_var_resized ([]) ≡ ends_with (asks 32 ∷ asks 32 ∷ frees 1 ∷ frees 2 ∷ []) (said (codes "71") ++ said (codes "130")) ([]) 0
  unfolding outcome
  array_var_resized_runs = refl
