-- Exceptions through what has to be ended. Each program stands above what it comes to; tests/semantics makes this file of the
-- texts in tests/semantics.d, and tells how what is expected was found.
use Rattle.std.specs.Prelude.{◌≡◌, pos, negsuc, true, false, [], ◌∷◌, ◌++◌, codes, Some, None}
use Rattle.std.proofs.Common.{refl}
use Rattle.op_core.specs.Expression.{expression, call as call_of, construct, method, no_steps, then, bracket, copy, value}
use Rattle.op_core.specs.Statement.{assign, call, block, if_then, if_else, case_of, no_branches, branches, while_do, repeat_until, for_to, for_in, try_finally, try_on, try_on_else, handlers, no_handlers, raise, reraise, exit, exit_with, break, continue, halt, built_in, write, count, set_length, str, free, plain}
use Rattle.op_core.specs.Types.{id}
use Rattle.op_core.specs.declared.class.Binding.TheVariants.{Static, Virtual as VirtualBinding, Override}
use Rattle.op_core.specs.declared.operation.Conversion.TheVariants.{Keep, Check, ToInterface, Instance}
use Rattle.op_core.specs.declared.operation.Dispatch.TheVariants.{Direct}
use Rattle.op_core.specs.declared.operation.Function.TheVariants.{Length}
use Rattle.op_core.specs.declared.routine.Owner.TheVariants.{Unit as OfUnit, Class as OfClass}
use Rattle.op_core.specs.declared.routine.Role.TheVariants.{Plain, Parameter, Object as ObjectRole, Result, Handler}
use Rattle.op_core.specs.declared.types.CoreType.TheVariants.{Subrange, Enumeration, Array, DynamicArray, Class, Interface}
use Rattle.op_meaning.proofs.Programs.{said, var, known, quoted, with_q, applying, to, at, dot, argued, listed, part}
use Rattle.op_semantics.proofs.Programs.{outcome, ends_with, asks, makes, frees, nothing, variable_id, routine_id, class_id, interface_id, obj, target_at, label, row, routine_row, class_row, method_row, interface_row, program}
use Rattle.op_semantics.specs.Frames.{Program}
use Rattle.op_tree.specs.declared.heading.ParameterMode.TheVariants.{Value, Const_}
use Rattle.op_tree.specs.declared.heading.RoutineKind.TheVariants.{Procedure, Function as FunctionKind, Constructor, Destructor}
use Rattle.op_tree.specs.declared.operator.Operator.TheVariants.{Equal, NotEqual, Less, Greater, Add, Subtract, Div}
use Rattle.op_tree.specs.declared.position.Name.{Name}
use Rattle.op_tree.specs.declared.statement.Direction.TheVariants.{To}

module _ (name : Name) where
  -- raise without an operand raises the handler's exception again
  abbrev raise_again : Program
  raise_again = program name
      (Class (class_id 0) ∷ Interface (interface_id 0) ∷ Class (class_id 1) ∷ Class (class_id 2) ∷ Class (class_id 3) ∷ Class (class_id 4) ∷ Class (class_id 5) ∷ Class (class_id 6) ∷ Class (class_id 7) ∷ Class (class_id 8) ∷ Class (class_id 9) ∷ [])
      (part name 7 ∷ [])
      (row name 16 ObjectRole None ∷ row name 16 ObjectRole None ∷ row name 19 ObjectRole None ∷ row name 7 (Parameter Const_) None ∷ row name 4 (Parameter Value) None ∷ row name 7 Result None ∷ row name 26 ObjectRole None ∷ row name 26 Handler None ∷ row name 19 Handler None ∷ [])
      (routine_row name (codes "create") Constructor (OfClass (class_id 0)) 0 None 0 1 ∷ routine_row name (codes "destroy") Destructor (OfClass (class_id 0)) 0 None 1 1 ∷ routine_row name (codes "create") Constructor (OfClass (class_id 2)) 1 None 2 2 ∷ routine_row name (codes "inttostr") FunctionKind OfUnit 1 (Some 7) 4 2 ∷ routine_row name (codes "destroy") Destructor (OfClass (class_id 9)) 0 None 6 1 ∷ [])
      (class_row (codes "TObject") 16 None 0 0 0 2 0 0 ∷ class_row (codes "TInterfacedObject") 18 (Some (class_id 0)) 0 0 2 0 0 1 ∷ class_row (codes "Exception") 19 (Some (class_id 0)) 0 1 2 1 1 0 ∷ class_row (codes "EConvertError") 20 (Some (class_id 2)) 1 0 3 0 1 0 ∷ class_row (codes "EInvalidCast") 21 (Some (class_id 2)) 1 0 3 0 1 0 ∷ class_row (codes "EIntError") 22 (Some (class_id 2)) 1 0 3 0 1 0 ∷ class_row (codes "EDivByZero") 23 (Some (class_id 5)) 1 0 3 0 1 0 ∷ class_row (codes "ERangeError") 24 (Some (class_id 5)) 1 0 3 0 1 0 ∷ class_row (codes "EIntOverflow") 25 (Some (class_id 5)) 1 0 3 0 1 0 ∷ class_row (codes "EA") 26 (Some (class_id 2)) 1 0 3 1 1 0 ∷ [])
      (interface_row (codes "iunknown") 17 None 4 0 ∷ [])
      (method_row 0 Static false ∷ method_row 1 VirtualBinding false ∷ method_row 2 Static false ∷ method_row 4 Override false ∷ [])
      (interface_id 0 ∷ [])
      []
      (Some (record { message = record { 0 = 0 }; exception = class_id 2; zero_divisor = class_id 6; range = class_id 7; overflow = class_id 8; cast = class_id 4 }))
      ((listed ([])) ∷
      (listed ([])) ∷
      (listed (
      (assign (dot (obj 2 19) 0 7) (var 3 7)) ∷ [])) ∷
      (listed (
      (built_in (str (plain (var 4 4)) (var 5 7))) ∷ [])) ∷
      (listed (
      (built_in (write (plain (quoted (codes "freed")) ∷ []) true)) ∷
      (call (then (obj 6 26) (method (routine_id 1) Direct (argued [])) (id 9))) ∷ [])) ∷
      (listed (
      (try_on (listed (
      (try_on (listed (
      (raise (expression (construct (class_id 9) (routine_id 2) (argued (value (quoted (codes "a")) ∷ []))) (id 26) no_steps)) ∷ [])) (handlers (Some (variable_id 7)) (class_id 9) (block (listed (
      (assign (dot (var 7 26) 0 7) (with_q false 7 (dot (var 7 26) 0 7) Add (quoted (codes "b")))) ∷
      (built_in (write (plain (quoted (codes "inner")) ∷ []) true)) ∷
      (reraise) ∷ []))) no_handlers)) ∷ [])) (handlers (Some (variable_id 8)) (class_id 2) (built_in (write (plain (quoted (codes "outer ")) ∷ plain (dot (var 8 19) 0 7) ∷ []) true)) no_handlers)) ∷
      (built_in (write (plain (quoted (codes "end")) ∷ []) true)) ∷ [])) ∷
      [])

  raise_again_runs : outcome 4000 raise_again ([]) ≡ ends_with (makes 32 ∷ asks 32 ∷ frees 2 ∷ frees 1 ∷ []) (said (codes "inner") ++ said (codes "outer ab") ++ said (codes "freed") ++ said (codes "end")) ([]) 0
  unfolding outcome
  raise_again_runs = refl

  -- Raise again, Exit, Continue and Break out of handlers, an exception that takes the place of one under way.
  abbrev raise_again_and_exit : Program
  raise_again_and_exit = program name
      (Class (class_id 0) ∷ Interface (interface_id 0) ∷ Class (class_id 1) ∷ Class (class_id 2) ∷ [])
      (part name 4 ∷ [])
      (row name 4 Plain None ∷ row name 19 Plain None ∷ row name 16 ObjectRole None ∷ row name 16 ObjectRole None ∷ row name 19 ObjectRole None ∷ row name 4 (Parameter Value) None ∷ row name 19 ObjectRole None ∷ row name 19 Handler None ∷ row name 4 Result None ∷ row name 19 Handler None ∷ row name 19 Handler None ∷ row name 19 Handler None ∷ row name 19 Handler None ∷ [])
      (routine_row name (codes "create") Constructor (OfClass (class_id 0)) 0 None 2 1 ∷ routine_row name (codes "destroy") Destructor (OfClass (class_id 0)) 0 None 3 1 ∷ routine_row name (codes "create") Constructor (OfClass (class_id 2)) 1 None 4 2 ∷ routine_row name (codes "destroy") Destructor (OfClass (class_id 2)) 0 None 6 1 ∷ routine_row name (codes "p") Procedure OfUnit 0 None 7 1 ∷ routine_row name (codes "q") FunctionKind OfUnit 0 (Some 4) 8 2 ∷ [])
      (class_row (codes "TObject") 16 None 0 0 0 2 0 0 ∷ class_row (codes "TInterfacedObject") 18 (Some (class_id 0)) 0 0 2 0 0 1 ∷ class_row (codes "E") 19 (Some (class_id 0)) 0 1 2 2 1 0 ∷ [])
      (interface_row (codes "iunknown") 17 None 4 0 ∷ [])
      (method_row 0 Static false ∷ method_row 1 VirtualBinding false ∷ method_row 2 Static false ∷ method_row 3 Override false ∷ [])
      (interface_id 0 ∷ [])
      (variable_id 0 ∷ variable_id 1 ∷ [])
      None
      ((listed ([])) ∷
      (listed ([])) ∷
      (listed (
      (assign (dot (obj 4 19) 0 4) (var 5 4)) ∷ [])) ∷
      (listed (
      (built_in (write (plain (known (pos 100) 6) ∷ plain (dot (obj 6 19) 0 4) ∷ []) true)) ∷
      (call (then (obj 6 19) (method (routine_id 1) Direct (argued [])) (id 9))) ∷ [])) ∷
      (listed (
      (try_on (listed (
      (try_finally (listed (
      (raise (expression (construct (class_id 2) (routine_id 2) (argued (value (known (pos 1) 4) ∷ []))) (id 19) no_steps)) ∷ [])) (listed (
      (built_in (write (plain (quoted (codes "f1")) ∷ []) true)) ∷
      (raise (expression (construct (class_id 2) (routine_id 2) (argued (value (known (pos 2) 4) ∷ []))) (id 19) no_steps)) ∷ []))) ∷ [])) (handlers (Some (variable_id 7)) (class_id 2) (block (listed (
      (built_in (write (plain (known (pos 104) 6) ∷ plain (dot (var 7 19) 0 4) ∷ []) true)) ∷
      (reraise) ∷ []))) no_handlers)) ∷ [])) ∷
      (listed (
      (assign (var 8 4) (known (pos 5) 4)) ∷
      (try_on (listed (
      (call (expression (call_of (routine_id 4) (argued [])) (id 9) no_steps)) ∷ [])) (handlers (Some (variable_id 9)) (class_id 2) (block (listed (
      (try_finally (listed (
      (exit_with (with_q false 4 (dot (var 9 19) 0 4) Add (known (pos 10) 4))) ∷ [])) (listed (
      (built_in (write (plain (quoted (codes "fq")) ∷ []) true)) ∷ []))) ∷ []))) no_handlers)) ∷ [])) ∷
      (listed (
      (built_in (write (plain (expression (call_of (routine_id 5) (argued [])) (id 4) no_steps) ∷ []) true)) ∷
      (for_to (variable_id 0) (known (pos 1) 4) To (known (pos 3) 4) (try_finally (listed (
      (try_on (listed (
      (raise (expression (construct (class_id 2) (routine_id 2) (argued (value (with_q false 4 (var 0 4) Add (known (pos 20) 4)) ∷ []))) (id 19) no_steps)) ∷ [])) (handlers (Some (variable_id 10)) (class_id 2) (block (listed (
      (if_then (with_q false 5 (dot (var 10 19) 0 4) Equal (known (pos 21) 4)) (continue)) ∷
      (if_then (with_q false 5 (dot (var 10 19) 0 4) Equal (known (pos 22) 4)) (break)) ∷ []))) no_handlers)) ∷ [])) (listed (
      (built_in (write (plain (quoted (codes "fin ")) ∷ plain (var 0 4) ∷ []) true)) ∷ [])))) ∷
      (try_on (listed (
      (raise (expression (construct (class_id 2) (routine_id 2) (argued (value (known (pos 30) 4) ∷ []))) (id 19) no_steps)) ∷ [])) (handlers (Some (variable_id 11)) (class_id 2) (block (listed (
      (built_in (free (var 11 19) false)) ∷
      (built_in (write (plain (known (pos 120) 6) ∷ []) true)) ∷ []))) no_handlers)) ∷
      (try_on_else (listed (
      (try_on (listed (
      (assign (var 1 19) (expression (construct (class_id 2) (routine_id 2) (argued (value (known (pos 40) 4) ∷ []))) (id 19) no_steps)) ∷
      (raise (var 1 19)) ∷ [])) (handlers (Some (variable_id 12)) (class_id 2) (block (listed (
      (assign (var 12 19) (to Keep 19 nothing)) ∷
      (reraise) ∷ []))) no_handlers)) ∷ [])) no_handlers (listed (
      (built_in (write (plain (quoted (codes "again ")) ∷ plain (dot (var 1 19) 0 4) ∷ []) true)) ∷ []))) ∷
      (built_in (write (plain (quoted (codes "end")) ∷ []) true)) ∷ [])) ∷
      [])

  raise_again_and_exit_runs : outcome 4000 raise_again_and_exit ([]) ≡ ends_with (makes 32 ∷ makes 32 ∷ frees 1 ∷ frees 2 ∷ makes 32 ∷ frees 3 ∷ makes 32 ∷ frees 4 ∷ makes 32 ∷ frees 5 ∷ makes 32 ∷ frees 6 ∷ []) (said (codes "f1") ++ said (codes "d1") ++ said (codes "h2") ++ said (codes "fq") ++ said (codes "d2") ++ said (codes "12") ++ said (codes "d21") ++ said (codes "fin 1") ++ said (codes "d22") ++ said (codes "fin 2") ++ said (codes "d30") ++ said (codes "x") ++ said (codes "again 40") ++ said (codes "d40") ++ said (codes "end")) ([]) 0
  unfolding outcome
  raise_again_and_exit_runs = refl

  -- An exception in one argument of several: the later ones do not run
  abbrev raise_argument_errors : Program
  raise_argument_errors = program name
      (Class (class_id 0) ∷ Interface (interface_id 0) ∷ Class (class_id 1) ∷ Class (class_id 2) ∷ Class (class_id 3) ∷ Class (class_id 4) ∷ Class (class_id 5) ∷ Class (class_id 6) ∷ Class (class_id 7) ∷ Class (class_id 8) ∷ [])
      (part name 7 ∷ [])
      (row name 4 Plain None ∷ row name 16 ObjectRole None ∷ row name 16 ObjectRole None ∷ row name 19 ObjectRole None ∷ row name 7 (Parameter Const_) None ∷ row name 4 (Parameter Value) None ∷ row name 7 Result None ∷ row name 7 (Parameter Const_) None ∷ row name 4 (Parameter Value) None ∷ row name 7 Result None ∷ row name 22 Handler None ∷ [])
      (routine_row name (codes "create") Constructor (OfClass (class_id 0)) 0 None 1 1 ∷ routine_row name (codes "destroy") Destructor (OfClass (class_id 0)) 0 None 2 1 ∷ routine_row name (codes "create") Constructor (OfClass (class_id 2)) 1 None 3 2 ∷ routine_row name (codes "inttostr") FunctionKind OfUnit 1 (Some 7) 5 2 ∷ routine_row name (codes "f") FunctionKind OfUnit 2 (Some 7) 7 3 ∷ [])
      (class_row (codes "TObject") 16 None 0 0 0 2 0 0 ∷ class_row (codes "TInterfacedObject") 18 (Some (class_id 0)) 0 0 2 0 0 1 ∷ class_row (codes "Exception") 19 (Some (class_id 0)) 0 1 2 1 1 0 ∷ class_row (codes "EConvertError") 20 (Some (class_id 2)) 1 0 3 0 1 0 ∷ class_row (codes "EInvalidCast") 21 (Some (class_id 2)) 1 0 3 0 1 0 ∷ class_row (codes "EIntError") 22 (Some (class_id 2)) 1 0 3 0 1 0 ∷ class_row (codes "EDivByZero") 23 (Some (class_id 5)) 1 0 3 0 1 0 ∷ class_row (codes "ERangeError") 24 (Some (class_id 5)) 1 0 3 0 1 0 ∷ class_row (codes "EIntOverflow") 25 (Some (class_id 5)) 1 0 3 0 1 0 ∷ [])
      (interface_row (codes "iunknown") 17 None 3 0 ∷ [])
      (method_row 0 Static false ∷ method_row 1 VirtualBinding false ∷ method_row 2 Static false ∷ [])
      (interface_id 0 ∷ [])
      (variable_id 0 ∷ [])
      (Some (record { message = record { 0 = 0 }; exception = class_id 2; zero_divisor = class_id 6; range = class_id 7; overflow = class_id 8; cast = class_id 4 }))
      ((listed ([])) ∷
      (listed ([])) ∷
      (listed (
      (assign (dot (obj 3 19) 0 7) (var 4 7)) ∷ [])) ∷
      (listed (
      (built_in (str (plain (var 5 4)) (var 6 7))) ∷ [])) ∷
      (listed (
      (built_in (write (plain (var 7 7) ∷ plain (known (pos 32) 6) ∷ []) false)) ∷
      (assign (var 9 7) (with_q false 7 (var 7 7) Add (expression (call_of (routine_id 3) (argued (value (with_q false 4 (known (pos 6) 4) Div (var 8 4)) ∷ []))) (id 7) no_steps))) ∷ [])) ∷
      (listed (
      (try_on (listed (
      (built_in (write (plain (with_q false 7 (with_q false 7 (expression (call_of (routine_id 4) (argued (value (quoted (codes "a")) ∷ value (known (pos 1) 4) ∷ []))) (id 7) no_steps) Add (expression (call_of (routine_id 4) (argued (value (quoted (codes "b")) ∷ value (var 0 4) ∷ []))) (id 7) no_steps)) Add (expression (call_of (routine_id 4) (argued (value (quoted (codes "c")) ∷ value (known (pos 3) 4) ∷ []))) (id 7) no_steps)) ∷ []) true)) ∷ [])) (handlers (Some (variable_id 10)) (class_id 5) (built_in (write (plain (quoted (codes "caught")) ∷ []) true)) no_handlers)) ∷ [])) ∷
      [])

  raise_argument_errors_runs : outcome 4000 raise_argument_errors ([]) ≡ ends_with (asks 32 ∷ asks 32 ∷ frees 1 ∷ makes 32 ∷ frees 2 ∷ frees 3 ∷ []) (said (codes "a b caught")) ([]) 0
  unfolding outcome
  raise_argument_errors_runs = refl

  -- A destructor that catches its own exception ends as others do
  abbrev raise_caught_in_destructor : Program
  raise_caught_in_destructor = program name
      (Class (class_id 0) ∷ Interface (interface_id 0) ∷ Class (class_id 1) ∷ Class (class_id 2) ∷ Class (class_id 3) ∷ Class (class_id 4) ∷ Class (class_id 5) ∷ Class (class_id 6) ∷ Class (class_id 7) ∷ Class (class_id 8) ∷ Class (class_id 9) ∷ [])
      (part name 7 ∷ [])
      (row name 17 Plain None ∷ row name 16 ObjectRole None ∷ row name 16 ObjectRole None ∷ row name 19 ObjectRole None ∷ row name 7 (Parameter Const_) None ∷ row name 4 (Parameter Value) None ∷ row name 7 Result None ∷ row name 26 ObjectRole None ∷ row name 19 Handler None ∷ [])
      (routine_row name (codes "create") Constructor (OfClass (class_id 0)) 0 None 1 1 ∷ routine_row name (codes "destroy") Destructor (OfClass (class_id 0)) 0 None 2 1 ∷ routine_row name (codes "create") Constructor (OfClass (class_id 2)) 1 None 3 2 ∷ routine_row name (codes "inttostr") FunctionKind OfUnit 1 (Some 7) 5 2 ∷ routine_row name (codes "destroy") Destructor (OfClass (class_id 9)) 0 None 7 2 ∷ [])
      (class_row (codes "TObject") 16 None 0 0 0 2 0 0 ∷ class_row (codes "TInterfacedObject") 18 (Some (class_id 0)) 0 0 2 0 0 1 ∷ class_row (codes "Exception") 19 (Some (class_id 0)) 0 1 2 1 1 0 ∷ class_row (codes "EConvertError") 20 (Some (class_id 2)) 1 0 3 0 1 0 ∷ class_row (codes "EInvalidCast") 21 (Some (class_id 2)) 1 0 3 0 1 0 ∷ class_row (codes "EIntError") 22 (Some (class_id 2)) 1 0 3 0 1 0 ∷ class_row (codes "EDivByZero") 23 (Some (class_id 5)) 1 0 3 0 1 0 ∷ class_row (codes "ERangeError") 24 (Some (class_id 5)) 1 0 3 0 1 0 ∷ class_row (codes "EIntOverflow") 25 (Some (class_id 5)) 1 0 3 0 1 0 ∷ class_row (codes "TA") 26 (Some (class_id 1)) 1 0 3 1 1 0 ∷ [])
      (interface_row (codes "iunknown") 17 None 4 0 ∷ [])
      (method_row 0 Static false ∷ method_row 1 VirtualBinding false ∷ method_row 2 Static false ∷ method_row 4 Override false ∷ [])
      (interface_id 0 ∷ [])
      (variable_id 0 ∷ [])
      (Some (record { message = record { 0 = 0 }; exception = class_id 2; zero_divisor = class_id 6; range = class_id 7; overflow = class_id 8; cast = class_id 4 }))
      ((listed ([])) ∷
      (listed ([])) ∷
      (listed (
      (assign (dot (obj 3 19) 0 7) (var 4 7)) ∷ [])) ∷
      (listed (
      (built_in (str (plain (var 5 4)) (var 6 7))) ∷ [])) ∷
      (listed (
      (try_on (listed (
      (raise (expression (construct (class_id 2) (routine_id 2) (argued (value (quoted (codes "inside")) ∷ []))) (id 19) no_steps)) ∷ [])) (handlers (Some (variable_id 8)) (class_id 2) (built_in (write (plain (dot (var 8 19) 0 7) ∷ []) true)) no_handlers)) ∷
      (call (then (obj 7 26) (method (routine_id 1) Direct (argued [])) (id 9))) ∷ [])) ∷
      (listed (
      (assign (var 0 17) (to ToInterface 17 (expression (construct (class_id 9) (routine_id 0) (argued [])) (id 26) no_steps))) ∷
      (assign (var 0 17) (to Keep 17 nothing)) ∷
      (built_in (write (plain (quoted (codes "end")) ∷ []) true)) ∷ [])) ∷
      [])

  raise_caught_in_destructor_runs : outcome 4000 raise_caught_in_destructor ([]) ≡ ends_with (makes 16 ∷ makes 32 ∷ frees 2 ∷ frees 1 ∷ []) (said (codes "inside") ++ said (codes "end")) ([]) 0
  unfolding outcome
  raise_caught_in_destructor_runs = refl

  -- The first clause that fits takes the exception
  abbrev raise_clauses : Program
  raise_clauses = program name
      (Class (class_id 0) ∷ Interface (interface_id 0) ∷ Class (class_id 1) ∷ Class (class_id 2) ∷ Class (class_id 3) ∷ Class (class_id 4) ∷ Class (class_id 5) ∷ Class (class_id 6) ∷ Class (class_id 7) ∷ Class (class_id 8) ∷ Class (class_id 9) ∷ Class (class_id 10) ∷ [])
      (part name 7 ∷ [])
      (row name 16 ObjectRole None ∷ row name 16 ObjectRole None ∷ row name 19 ObjectRole None ∷ row name 7 (Parameter Const_) None ∷ row name 4 (Parameter Value) None ∷ row name 7 Result None ∷ row name 4 (Parameter Value) None ∷ row name 27 Handler None ∷ row name 26 Handler None ∷ [])
      (routine_row name (codes "create") Constructor (OfClass (class_id 0)) 0 None 0 1 ∷ routine_row name (codes "destroy") Destructor (OfClass (class_id 0)) 0 None 1 1 ∷ routine_row name (codes "create") Constructor (OfClass (class_id 2)) 1 None 2 2 ∷ routine_row name (codes "inttostr") FunctionKind OfUnit 1 (Some 7) 4 2 ∷ routine_row name (codes "p") Procedure OfUnit 1 None 6 3 ∷ [])
      (class_row (codes "TObject") 16 None 0 0 0 2 0 0 ∷ class_row (codes "TInterfacedObject") 18 (Some (class_id 0)) 0 0 2 0 0 1 ∷ class_row (codes "Exception") 19 (Some (class_id 0)) 0 1 2 1 1 0 ∷ class_row (codes "EConvertError") 20 (Some (class_id 2)) 1 0 3 0 1 0 ∷ class_row (codes "EInvalidCast") 21 (Some (class_id 2)) 1 0 3 0 1 0 ∷ class_row (codes "EIntError") 22 (Some (class_id 2)) 1 0 3 0 1 0 ∷ class_row (codes "EDivByZero") 23 (Some (class_id 5)) 1 0 3 0 1 0 ∷ class_row (codes "ERangeError") 24 (Some (class_id 5)) 1 0 3 0 1 0 ∷ class_row (codes "EIntOverflow") 25 (Some (class_id 5)) 1 0 3 0 1 0 ∷ class_row (codes "EA") 26 (Some (class_id 2)) 1 0 3 0 1 0 ∷ class_row (codes "EB") 27 (Some (class_id 9)) 1 0 3 0 1 0 ∷ [])
      (interface_row (codes "iunknown") 17 None 3 0 ∷ [])
      (method_row 0 Static false ∷ method_row 1 VirtualBinding false ∷ method_row 2 Static false ∷ [])
      (interface_id 0 ∷ [])
      []
      (Some (record { message = record { 0 = 0 }; exception = class_id 2; zero_divisor = class_id 6; range = class_id 7; overflow = class_id 8; cast = class_id 4 }))
      ((listed ([])) ∷
      (listed ([])) ∷
      (listed (
      (assign (dot (obj 2 19) 0 7) (var 3 7)) ∷ [])) ∷
      (listed (
      (built_in (str (plain (var 4 4)) (var 5 7))) ∷ [])) ∷
      (listed (
      (try_on (listed (
      (if_then (with_q false 5 (var 6 4) Equal (known (pos 1) 4)) (raise (expression (construct (class_id 9) (routine_id 2) (argued (value (quoted (codes "one")) ∷ []))) (id 26) no_steps))) ∷
      (if_then (with_q false 5 (var 6 4) Equal (known (pos 2) 4)) (raise (expression (construct (class_id 10) (routine_id 2) (argued (value (quoted (codes "two")) ∷ []))) (id 27) no_steps))) ∷
      (if_then (with_q false 5 (var 6 4) Equal (known (pos 3) 4)) (raise (expression (construct (class_id 2) (routine_id 2) (argued (value (quoted (codes "three")) ∷ []))) (id 19) no_steps))) ∷
      (built_in (write (plain (quoted (codes "none")) ∷ []) true)) ∷ [])) (handlers (Some (variable_id 7)) (class_id 10) (built_in (write (plain (quoted (codes "B ")) ∷ plain (dot (var 7 27) 0 7) ∷ []) true)) (handlers (Some (variable_id 8)) (class_id 9) (built_in (write (plain (quoted (codes "A ")) ∷ plain (dot (var 8 26) 0 7) ∷ []) true)) (handlers None (class_id 2) (built_in (write (plain (quoted (codes "other")) ∷ []) true)) no_handlers)))) ∷ [])) ∷
      (listed (
      (call (expression (call_of (routine_id 4) (argued (value (known (pos 0) 4) ∷ []))) (id 9) no_steps)) ∷
      (call (expression (call_of (routine_id 4) (argued (value (known (pos 1) 4) ∷ []))) (id 9) no_steps)) ∷
      (call (expression (call_of (routine_id 4) (argued (value (known (pos 2) 4) ∷ []))) (id 9) no_steps)) ∷
      (call (expression (call_of (routine_id 4) (argued (value (known (pos 3) 4) ∷ []))) (id 9) no_steps)) ∷ [])) ∷
      [])

  raise_clauses_runs : outcome 4000 raise_clauses ([]) ≡ ends_with (makes 32 ∷ frees 1 ∷ makes 32 ∷ frees 2 ∷ makes 32 ∷ frees 3 ∷ []) (said (codes "none") ++ said (codes "A one") ++ said (codes "B two") ++ said (codes "other")) ([]) 0
  unfolding outcome
  raise_clauses_runs = refl

  -- An exception in the condition of a loop
  abbrev raise_condition : Program
  raise_condition = program name
      (Class (class_id 0) ∷ Interface (interface_id 0) ∷ Class (class_id 1) ∷ Class (class_id 2) ∷ Class (class_id 3) ∷ Class (class_id 4) ∷ Class (class_id 5) ∷ Class (class_id 6) ∷ Class (class_id 7) ∷ Class (class_id 8) ∷ [])
      (part name 7 ∷ [])
      (row name 4 Plain None ∷ row name 16 ObjectRole None ∷ row name 16 ObjectRole None ∷ row name 19 ObjectRole None ∷ row name 7 (Parameter Const_) None ∷ row name 4 (Parameter Value) None ∷ row name 7 Result None ∷ row name 7 (Parameter Const_) None ∷ row name 5 Result None ∷ [])
      (routine_row name (codes "create") Constructor (OfClass (class_id 0)) 0 None 1 1 ∷ routine_row name (codes "destroy") Destructor (OfClass (class_id 0)) 0 None 2 1 ∷ routine_row name (codes "create") Constructor (OfClass (class_id 2)) 1 None 3 2 ∷ routine_row name (codes "inttostr") FunctionKind OfUnit 1 (Some 7) 5 2 ∷ routine_row name (codes "f") FunctionKind OfUnit 1 (Some 5) 7 2 ∷ [])
      (class_row (codes "TObject") 16 None 0 0 0 2 0 0 ∷ class_row (codes "TInterfacedObject") 18 (Some (class_id 0)) 0 0 2 0 0 1 ∷ class_row (codes "Exception") 19 (Some (class_id 0)) 0 1 2 1 1 0 ∷ class_row (codes "EConvertError") 20 (Some (class_id 2)) 1 0 3 0 1 0 ∷ class_row (codes "EInvalidCast") 21 (Some (class_id 2)) 1 0 3 0 1 0 ∷ class_row (codes "EIntError") 22 (Some (class_id 2)) 1 0 3 0 1 0 ∷ class_row (codes "EDivByZero") 23 (Some (class_id 5)) 1 0 3 0 1 0 ∷ class_row (codes "ERangeError") 24 (Some (class_id 5)) 1 0 3 0 1 0 ∷ class_row (codes "EIntOverflow") 25 (Some (class_id 5)) 1 0 3 0 1 0 ∷ [])
      (interface_row (codes "iunknown") 17 None 3 0 ∷ [])
      (method_row 0 Static false ∷ method_row 1 VirtualBinding false ∷ method_row 2 Static false ∷ [])
      (interface_id 0 ∷ [])
      (variable_id 0 ∷ [])
      (Some (record { message = record { 0 = 0 }; exception = class_id 2; zero_divisor = class_id 6; range = class_id 7; overflow = class_id 8; cast = class_id 4 }))
      ((listed ([])) ∷
      (listed ([])) ∷
      (listed (
      (assign (dot (obj 3 19) 0 7) (var 4 7)) ∷ [])) ∷
      (listed (
      (built_in (str (plain (var 5 4)) (var 6 7))) ∷ [])) ∷
      (listed (
      (built_in (write (plain (var 7 7) ∷ plain (known (pos 32) 6) ∷ []) false)) ∷
      (assign (var 8 5) (with_q false 5 (with_q false 4 (known (pos 6) 4) Div (then (with_q false 4 (var 0 4) Subtract (known (pos 2) 4)) bracket (id 4))) Less (known (pos 10) 4))) ∷ [])) ∷
      (listed (
      (try_on (listed (
      (while_do (expression (call_of (routine_id 4) (argued (value (with_q false 7 (quoted (codes "turn")) Add (expression (call_of (routine_id 3) (argued (value (var 0 4) ∷ []))) (id 7) no_steps)) ∷ []))) (id 5) no_steps) (assign (var 0 4) (with_q false 4 (var 0 4) Add (known (pos 1) 4)))) ∷
      (built_in (write (plain (quoted (codes "never")) ∷ []) true)) ∷ [])) (handlers None (class_id 6) (built_in (write (plain (quoted (codes "at ")) ∷ plain (var 0 4) ∷ []) true)) no_handlers)) ∷ [])) ∷
      [])

  raise_condition_runs : outcome 4000 raise_condition ([]) ≡ ends_with (asks 32 ∷ asks 32 ∷ frees 2 ∷ frees 1 ∷ asks 32 ∷ asks 32 ∷ frees 4 ∷ frees 3 ∷ asks 32 ∷ asks 32 ∷ makes 32 ∷ frees 6 ∷ frees 5 ∷ frees 7 ∷ []) (said (codes "turn0 turn1 turn2 at 2")) ([]) 0
  unfolding outcome
  raise_condition_runs = refl

  -- An exception that leaves a constructor calls the destructor and makes nothing
  abbrev raise_constructor : Program
  raise_constructor = program name
      (Class (class_id 0) ∷ Interface (interface_id 0) ∷ Class (class_id 1) ∷ Class (class_id 2) ∷ Class (class_id 3) ∷ Class (class_id 4) ∷ Class (class_id 5) ∷ Class (class_id 6) ∷ Class (class_id 7) ∷ Class (class_id 8) ∷ Class (class_id 9) ∷ [])
      (part name 7 ∷ part name 7 ∷ [])
      (row name 26 Plain None ∷ row name 16 ObjectRole None ∷ row name 16 ObjectRole None ∷ row name 19 ObjectRole None ∷ row name 7 (Parameter Const_) None ∷ row name 4 (Parameter Value) None ∷ row name 7 Result None ∷ row name 26 ObjectRole None ∷ row name 4 (Parameter Value) None ∷ row name 26 ObjectRole None ∷ row name 19 Handler None ∷ [])
      (routine_row name (codes "create") Constructor (OfClass (class_id 0)) 0 None 1 1 ∷ routine_row name (codes "destroy") Destructor (OfClass (class_id 0)) 0 None 2 1 ∷ routine_row name (codes "create") Constructor (OfClass (class_id 2)) 1 None 3 2 ∷ routine_row name (codes "inttostr") FunctionKind OfUnit 1 (Some 7) 5 2 ∷ routine_row name (codes "create") Constructor (OfClass (class_id 9)) 1 None 7 2 ∷ routine_row name (codes "destroy") Destructor (OfClass (class_id 9)) 0 None 9 1 ∷ [])
      (class_row (codes "TObject") 16 None 0 0 0 2 0 0 ∷ class_row (codes "TInterfacedObject") 18 (Some (class_id 0)) 0 0 2 0 0 1 ∷ class_row (codes "Exception") 19 (Some (class_id 0)) 0 1 2 1 1 0 ∷ class_row (codes "EConvertError") 20 (Some (class_id 2)) 1 0 3 0 1 0 ∷ class_row (codes "EInvalidCast") 21 (Some (class_id 2)) 1 0 3 0 1 0 ∷ class_row (codes "EIntError") 22 (Some (class_id 2)) 1 0 3 0 1 0 ∷ class_row (codes "EDivByZero") 23 (Some (class_id 5)) 1 0 3 0 1 0 ∷ class_row (codes "ERangeError") 24 (Some (class_id 5)) 1 0 3 0 1 0 ∷ class_row (codes "EIntOverflow") 25 (Some (class_id 5)) 1 0 3 0 1 0 ∷ class_row (codes "TA") 26 (Some (class_id 0)) 1 1 3 2 1 0 ∷ [])
      (interface_row (codes "iunknown") 17 None 5 0 ∷ [])
      (method_row 0 Static false ∷ method_row 1 VirtualBinding false ∷ method_row 2 Static false ∷ method_row 4 Static false ∷ method_row 5 Override false ∷ [])
      (interface_id 0 ∷ [])
      (variable_id 0 ∷ [])
      (Some (record { message = record { 0 = 0 }; exception = class_id 2; zero_divisor = class_id 6; range = class_id 7; overflow = class_id 8; cast = class_id 4 }))
      ((listed ([])) ∷
      (listed ([])) ∷
      (listed (
      (assign (dot (obj 3 19) 0 7) (var 4 7)) ∷ [])) ∷
      (listed (
      (built_in (str (plain (var 5 4)) (var 6 7))) ∷ [])) ∷
      (listed (
      (assign (dot (obj 7 26) 1 7) (with_q false 7 (quoted (codes "f")) Add (expression (call_of (routine_id 3) (argued (value (var 8 4) ∷ []))) (id 7) no_steps))) ∷
      (if_then (with_q false 5 (var 8 4) Greater (known (pos 1) 4)) (raise (expression (construct (class_id 2) (routine_id 2) (argued (value (with_q false 7 (quoted (codes "no ")) Add (dot (obj 7 26) 1 7)) ∷ []))) (id 19) no_steps))) ∷ [])) ∷
      (listed (
      (built_in (write (plain (quoted (codes "destroy ")) ∷ plain (dot (obj 9 26) 1 7) ∷ []) true)) ∷
      (call (then (obj 9 26) (method (routine_id 1) Direct (argued [])) (id 9))) ∷ [])) ∷
      (listed (
      (try_on (listed (
      (assign (var 0 26) (expression (construct (class_id 9) (routine_id 4) (argued (value (known (pos 1) 4) ∷ []))) (id 26) no_steps)) ∷
      (built_in (free (var 0 26) false)) ∷
      (assign (var 0 26) (to Keep 26 nothing)) ∷
      (assign (var 0 26) (expression (construct (class_id 9) (routine_id 4) (argued (value (known (pos 7) 4) ∷ []))) (id 26) no_steps)) ∷ [])) (handlers (Some (variable_id 10)) (class_id 2) (built_in (write (plain (dot (var 10 19) 0 7) ∷ []) true)) no_handlers)) ∷
      (built_in (write (plain (with_q false 5 (var 0 26) Equal (to Keep 26 nothing)) ∷ []) true)) ∷ [])) ∷
      [])

  raise_constructor_runs : outcome 4000 raise_constructor ([]) ≡ ends_with (makes 32 ∷ asks 32 ∷ asks 32 ∷ frees 2 ∷ frees 3 ∷ frees 1 ∷ makes 32 ∷ asks 32 ∷ asks 32 ∷ frees 5 ∷ asks 32 ∷ makes 32 ∷ frees 6 ∷ frees 4 ∷ frees 7 ∷ frees 8 ∷ []) (said (codes "destroy f1") ++ said (codes "destroy f7") ++ said (codes "no f7") ++ said (codes "TRUE")) ([]) 0
  unfolding outcome
  raise_constructor_runs = refl

  -- Continue out of a handler, and raise again by its else part
  abbrev raise_continue : Program
  raise_continue = program name
      (Class (class_id 0) ∷ Interface (interface_id 0) ∷ Class (class_id 1) ∷ Class (class_id 2) ∷ Class (class_id 3) ∷ Class (class_id 4) ∷ Class (class_id 5) ∷ Class (class_id 6) ∷ Class (class_id 7) ∷ Class (class_id 8) ∷ Class (class_id 9) ∷ [])
      (part name 7 ∷ [])
      (row name 4 Plain None ∷ row name 16 ObjectRole None ∷ row name 16 ObjectRole None ∷ row name 19 ObjectRole None ∷ row name 7 (Parameter Const_) None ∷ row name 4 (Parameter Value) None ∷ row name 7 Result None ∷ row name 19 Handler None ∷ [])
      (routine_row name (codes "create") Constructor (OfClass (class_id 0)) 0 None 1 1 ∷ routine_row name (codes "destroy") Destructor (OfClass (class_id 0)) 0 None 2 1 ∷ routine_row name (codes "create") Constructor (OfClass (class_id 2)) 1 None 3 2 ∷ routine_row name (codes "inttostr") FunctionKind OfUnit 1 (Some 7) 5 2 ∷ [])
      (class_row (codes "TObject") 16 None 0 0 0 2 0 0 ∷ class_row (codes "TInterfacedObject") 18 (Some (class_id 0)) 0 0 2 0 0 1 ∷ class_row (codes "Exception") 19 (Some (class_id 0)) 0 1 2 1 1 0 ∷ class_row (codes "EConvertError") 20 (Some (class_id 2)) 1 0 3 0 1 0 ∷ class_row (codes "EInvalidCast") 21 (Some (class_id 2)) 1 0 3 0 1 0 ∷ class_row (codes "EIntError") 22 (Some (class_id 2)) 1 0 3 0 1 0 ∷ class_row (codes "EDivByZero") 23 (Some (class_id 5)) 1 0 3 0 1 0 ∷ class_row (codes "ERangeError") 24 (Some (class_id 5)) 1 0 3 0 1 0 ∷ class_row (codes "EIntOverflow") 25 (Some (class_id 5)) 1 0 3 0 1 0 ∷ class_row (codes "EA") 26 (Some (class_id 2)) 1 0 3 0 1 0 ∷ [])
      (interface_row (codes "iunknown") 17 None 3 0 ∷ [])
      (method_row 0 Static false ∷ method_row 1 VirtualBinding false ∷ method_row 2 Static false ∷ [])
      (interface_id 0 ∷ [])
      (variable_id 0 ∷ [])
      (Some (record { message = record { 0 = 0 }; exception = class_id 2; zero_divisor = class_id 6; range = class_id 7; overflow = class_id 8; cast = class_id 4 }))
      ((listed ([])) ∷
      (listed ([])) ∷
      (listed (
      (assign (dot (obj 3 19) 0 7) (var 4 7)) ∷ [])) ∷
      (listed (
      (built_in (str (plain (var 5 4)) (var 6 7))) ∷ [])) ∷
      (listed (
      (try_on (listed (
      (for_to (variable_id 0) (known (pos 1) 4) To (known (pos 3) 4) (try_on_else (listed (
      (if_then (with_q false 5 (var 0 4) Equal (known (pos 1) 4)) (raise (expression (construct (class_id 9) (routine_id 2) (argued (value (quoted (codes "one")) ∷ []))) (id 26) no_steps))) ∷
      (if_then (with_q false 5 (var 0 4) Equal (known (pos 2) 4)) (raise (expression (construct (class_id 2) (routine_id 2) (argued (value (quoted (codes "two")) ∷ []))) (id 19) no_steps))) ∷
      (built_in (write (plain (quoted (codes "never")) ∷ []) true)) ∷ [])) (handlers None (class_id 9) (block (listed (
      (built_in (write (plain (quoted (codes "EA")) ∷ []) true)) ∷
      (continue) ∷ []))) no_handlers) (listed (
      (reraise) ∷ [])))) ∷ [])) (handlers (Some (variable_id 7)) (class_id 2) (built_in (write (plain (dot (var 7 19) 0 7) ∷ plain (var 0 4) ∷ []) true)) no_handlers)) ∷ [])) ∷
      [])

  raise_continue_runs : outcome 4000 raise_continue ([]) ≡ ends_with (makes 32 ∷ frees 1 ∷ makes 32 ∷ frees 2 ∷ []) (said (codes "EA") ++ said (codes "two2")) ([]) 0
  unfolding outcome
  raise_continue_runs = refl

  -- A descendant's constructor fails after the ancestor's has run, in an argument of another call
  abbrev raise_descendant_constructor : Program
  raise_descendant_constructor = program name
      (Class (class_id 0) ∷ Interface (interface_id 0) ∷ Class (class_id 1) ∷ Class (class_id 2) ∷ Class (class_id 3) ∷ Class (class_id 4) ∷ Class (class_id 5) ∷ Class (class_id 6) ∷ Class (class_id 7) ∷ Class (class_id 8) ∷ Class (class_id 9) ∷ Class (class_id 10) ∷ [])
      (part name 7 ∷ part name 7 ∷ [])
      (row name 16 ObjectRole None ∷ row name 16 ObjectRole None ∷ row name 19 ObjectRole None ∷ row name 7 (Parameter Const_) None ∷ row name 4 (Parameter Value) None ∷ row name 7 Result None ∷ row name 26 ObjectRole None ∷ row name 26 ObjectRole None ∷ row name 27 ObjectRole None ∷ row name 27 ObjectRole None ∷ row name 26 (Parameter Value) None ∷ row name 19 Handler None ∷ [])
      (routine_row name (codes "create") Constructor (OfClass (class_id 0)) 0 None 0 1 ∷ routine_row name (codes "destroy") Destructor (OfClass (class_id 0)) 0 None 1 1 ∷ routine_row name (codes "create") Constructor (OfClass (class_id 2)) 1 None 2 2 ∷ routine_row name (codes "inttostr") FunctionKind OfUnit 1 (Some 7) 4 2 ∷ routine_row name (codes "create") Constructor (OfClass (class_id 9)) 0 None 6 1 ∷ routine_row name (codes "destroy") Destructor (OfClass (class_id 9)) 0 None 7 1 ∷ routine_row name (codes "create") Constructor (OfClass (class_id 10)) 0 None 8 1 ∷ routine_row name (codes "destroy") Destructor (OfClass (class_id 10)) 0 None 9 1 ∷ routine_row name (codes "p") Procedure OfUnit 1 None 10 1 ∷ [])
      (class_row (codes "TObject") 16 None 0 0 0 2 0 0 ∷ class_row (codes "TInterfacedObject") 18 (Some (class_id 0)) 0 0 2 0 0 1 ∷ class_row (codes "Exception") 19 (Some (class_id 0)) 0 1 2 1 1 0 ∷ class_row (codes "EConvertError") 20 (Some (class_id 2)) 1 0 3 0 1 0 ∷ class_row (codes "EInvalidCast") 21 (Some (class_id 2)) 1 0 3 0 1 0 ∷ class_row (codes "EIntError") 22 (Some (class_id 2)) 1 0 3 0 1 0 ∷ class_row (codes "EDivByZero") 23 (Some (class_id 5)) 1 0 3 0 1 0 ∷ class_row (codes "ERangeError") 24 (Some (class_id 5)) 1 0 3 0 1 0 ∷ class_row (codes "EIntOverflow") 25 (Some (class_id 5)) 1 0 3 0 1 0 ∷ class_row (codes "TA") 26 (Some (class_id 0)) 1 0 3 2 1 0 ∷ class_row (codes "TB") 27 (Some (class_id 9)) 1 1 5 2 1 0 ∷ [])
      (interface_row (codes "iunknown") 17 None 7 0 ∷ [])
      (method_row 0 Static false ∷ method_row 1 VirtualBinding false ∷ method_row 2 Static false ∷ method_row 4 Static false ∷ method_row 5 Override false ∷ method_row 6 Static false ∷ method_row 7 Override false ∷ [])
      (interface_id 0 ∷ [])
      []
      (Some (record { message = record { 0 = 0 }; exception = class_id 2; zero_divisor = class_id 6; range = class_id 7; overflow = class_id 8; cast = class_id 4 }))
      ((listed ([])) ∷
      (listed ([])) ∷
      (listed (
      (assign (dot (obj 2 19) 0 7) (var 3 7)) ∷ [])) ∷
      (listed (
      (built_in (str (plain (var 4 4)) (var 5 7))) ∷ [])) ∷
      (listed (
      (built_in (write (plain (quoted (codes "A made")) ∷ []) true)) ∷ [])) ∷
      (listed (
      (built_in (write (plain (quoted (codes "A gone")) ∷ []) true)) ∷
      (call (then (obj 7 26) (method (routine_id 1) Direct (argued [])) (id 9))) ∷ [])) ∷
      (listed (
      (call (then (obj 8 27) (method (routine_id 4) Direct (argued [])) (id 9))) ∷
      (assign (dot (obj 8 27) 1 7) (quoted (codes "set"))) ∷
      (raise (expression (construct (class_id 2) (routine_id 2) (argued (value (quoted (codes "no")) ∷ []))) (id 19) no_steps)) ∷ [])) ∷
      (listed (
      (built_in (write (plain (quoted (codes "B gone ")) ∷ plain (dot (obj 9 27) 1 7) ∷ []) true)) ∷
      (call (then (obj 9 27) (method (routine_id 5) Direct (argued [])) (id 9))) ∷ [])) ∷
      (listed (
      (built_in (write (plain (quoted (codes "never")) ∷ []) true)) ∷ [])) ∷
      (listed (
      (try_on (listed (
      (call (expression (call_of (routine_id 8) (argued (value (to Keep 26 (expression (construct (class_id 10) (routine_id 6) (argued [])) (id 27) no_steps)) ∷ []))) (id 9) no_steps)) ∷ [])) (handlers (Some (variable_id 11)) (class_id 2) (built_in (write (plain (dot (var 11 19) 0 7) ∷ []) true)) no_handlers)) ∷ [])) ∷
      [])

  raise_descendant_constructor_runs : outcome 4000 raise_descendant_constructor ([]) ≡ ends_with (makes 32 ∷ makes 32 ∷ frees 1 ∷ frees 2 ∷ []) (said (codes "A made") ++ said (codes "B gone set") ++ said (codes "A gone") ++ said (codes "no")) ([]) 0
  unfolding outcome
  raise_descendant_constructor_runs = refl

  -- An exception that leaves a destructor which Free called: the instance is dead, the exception goes on
  abbrev raise_destructor : Program
  raise_destructor = program name
      (Class (class_id 0) ∷ Interface (interface_id 0) ∷ Class (class_id 1) ∷ Class (class_id 2) ∷ Class (class_id 3) ∷ Class (class_id 4) ∷ Class (class_id 5) ∷ Class (class_id 6) ∷ Class (class_id 7) ∷ Class (class_id 8) ∷ Class (class_id 9) ∷ Class (class_id 10) ∷ [])
      (part name 7 ∷ part name 17 ∷ [])
      (row name 26 Plain None ∷ row name 16 ObjectRole None ∷ row name 16 ObjectRole None ∷ row name 19 ObjectRole None ∷ row name 7 (Parameter Const_) None ∷ row name 4 (Parameter Value) None ∷ row name 7 Result None ∷ row name 26 ObjectRole None ∷ row name 27 ObjectRole None ∷ row name 19 Handler None ∷ [])
      (routine_row name (codes "create") Constructor (OfClass (class_id 0)) 0 None 1 1 ∷ routine_row name (codes "destroy") Destructor (OfClass (class_id 0)) 0 None 2 1 ∷ routine_row name (codes "create") Constructor (OfClass (class_id 2)) 1 None 3 2 ∷ routine_row name (codes "inttostr") FunctionKind OfUnit 1 (Some 7) 5 2 ∷ routine_row name (codes "destroy") Destructor (OfClass (class_id 9)) 0 None 7 1 ∷ routine_row name (codes "destroy") Destructor (OfClass (class_id 10)) 0 None 8 1 ∷ [])
      (class_row (codes "TObject") 16 None 0 0 0 2 0 0 ∷ class_row (codes "TInterfacedObject") 18 (Some (class_id 0)) 0 0 2 0 0 1 ∷ class_row (codes "Exception") 19 (Some (class_id 0)) 0 1 2 1 1 0 ∷ class_row (codes "EConvertError") 20 (Some (class_id 2)) 1 0 3 0 1 0 ∷ class_row (codes "EInvalidCast") 21 (Some (class_id 2)) 1 0 3 0 1 0 ∷ class_row (codes "EIntError") 22 (Some (class_id 2)) 1 0 3 0 1 0 ∷ class_row (codes "EDivByZero") 23 (Some (class_id 5)) 1 0 3 0 1 0 ∷ class_row (codes "ERangeError") 24 (Some (class_id 5)) 1 0 3 0 1 0 ∷ class_row (codes "EIntOverflow") 25 (Some (class_id 5)) 1 0 3 0 1 0 ∷ class_row (codes "TA") 26 (Some (class_id 0)) 1 1 3 1 1 0 ∷ class_row (codes "TB") 27 (Some (class_id 1)) 2 0 4 1 1 0 ∷ [])
      (interface_row (codes "iunknown") 17 None 5 0 ∷ [])
      (method_row 0 Static false ∷ method_row 1 VirtualBinding false ∷ method_row 2 Static false ∷ method_row 4 Override false ∷ method_row 5 Override false ∷ [])
      (interface_id 0 ∷ [])
      (variable_id 0 ∷ [])
      (Some (record { message = record { 0 = 0 }; exception = class_id 2; zero_divisor = class_id 6; range = class_id 7; overflow = class_id 8; cast = class_id 4 }))
      ((listed ([])) ∷
      (listed ([])) ∷
      (listed (
      (assign (dot (obj 3 19) 0 7) (var 4 7)) ∷ [])) ∷
      (listed (
      (built_in (str (plain (var 5 4)) (var 6 7))) ∷ [])) ∷
      (listed (
      (built_in (write (plain (quoted (codes "in")) ∷ []) true)) ∷
      (raise (expression (construct (class_id 2) (routine_id 2) (argued (value (quoted (codes "bad")) ∷ []))) (id 19) no_steps)) ∷ [])) ∷
      (listed (
      (built_in (write (plain (quoted (codes "field gone")) ∷ []) true)) ∷
      (call (then (obj 8 27) (method (routine_id 1) Direct (argued [])) (id 9))) ∷ [])) ∷
      (listed (
      (assign (var 0 26) (expression (construct (class_id 9) (routine_id 0) (argued [])) (id 26) no_steps)) ∷
      (assign (dot (var 0 26) 1 17) (to ToInterface 17 (expression (construct (class_id 10) (routine_id 0) (argued [])) (id 27) no_steps))) ∷
      (try_on (listed (
      (built_in (free (var 0 26) false)) ∷ [])) (handlers (Some (variable_id 9)) (class_id 2) (built_in (write (plain (dot (var 9 19) 0 7) ∷ []) true)) no_handlers)) ∷
      (built_in (write (plain (with_q false 5 (var 0 26) NotEqual (to Keep 26 nothing)) ∷ []) true)) ∷ [])) ∷
      [])

  raise_destructor_runs : outcome 4000 raise_destructor ([]) ≡ ends_with (makes 32 ∷ makes 16 ∷ makes 32 ∷ frees 2 ∷ frees 1 ∷ frees 3 ∷ []) (said (codes "in") ++ said (codes "field gone") ++ said (codes "bad") ++ said (codes "TRUE")) ([]) 0
  unfolding outcome
  raise_destructor_runs = refl

  -- else takes what no clause takes; statements without on take all
  abbrev raise_else : Program
  raise_else = program name
      (Class (class_id 0) ∷ Interface (interface_id 0) ∷ Class (class_id 1) ∷ Class (class_id 2) ∷ Class (class_id 3) ∷ Class (class_id 4) ∷ Class (class_id 5) ∷ Class (class_id 6) ∷ Class (class_id 7) ∷ Class (class_id 8) ∷ Class (class_id 9) ∷ [])
      (part name 7 ∷ [])
      (row name 16 ObjectRole None ∷ row name 16 ObjectRole None ∷ row name 19 ObjectRole None ∷ row name 7 (Parameter Const_) None ∷ row name 4 (Parameter Value) None ∷ row name 7 Result None ∷ row name 4 (Parameter Value) None ∷ [])
      (routine_row name (codes "create") Constructor (OfClass (class_id 0)) 0 None 0 1 ∷ routine_row name (codes "destroy") Destructor (OfClass (class_id 0)) 0 None 1 1 ∷ routine_row name (codes "create") Constructor (OfClass (class_id 2)) 1 None 2 2 ∷ routine_row name (codes "inttostr") FunctionKind OfUnit 1 (Some 7) 4 2 ∷ routine_row name (codes "p") Procedure OfUnit 1 None 6 1 ∷ [])
      (class_row (codes "TObject") 16 None 0 0 0 2 0 0 ∷ class_row (codes "TInterfacedObject") 18 (Some (class_id 0)) 0 0 2 0 0 1 ∷ class_row (codes "Exception") 19 (Some (class_id 0)) 0 1 2 1 1 0 ∷ class_row (codes "EConvertError") 20 (Some (class_id 2)) 1 0 3 0 1 0 ∷ class_row (codes "EInvalidCast") 21 (Some (class_id 2)) 1 0 3 0 1 0 ∷ class_row (codes "EIntError") 22 (Some (class_id 2)) 1 0 3 0 1 0 ∷ class_row (codes "EDivByZero") 23 (Some (class_id 5)) 1 0 3 0 1 0 ∷ class_row (codes "ERangeError") 24 (Some (class_id 5)) 1 0 3 0 1 0 ∷ class_row (codes "EIntOverflow") 25 (Some (class_id 5)) 1 0 3 0 1 0 ∷ class_row (codes "EA") 26 (Some (class_id 2)) 1 0 3 0 1 0 ∷ [])
      (interface_row (codes "iunknown") 17 None 3 0 ∷ [])
      (method_row 0 Static false ∷ method_row 1 VirtualBinding false ∷ method_row 2 Static false ∷ [])
      (interface_id 0 ∷ [])
      []
      (Some (record { message = record { 0 = 0 }; exception = class_id 2; zero_divisor = class_id 6; range = class_id 7; overflow = class_id 8; cast = class_id 4 }))
      ((listed ([])) ∷
      (listed ([])) ∷
      (listed (
      (assign (dot (obj 2 19) 0 7) (var 3 7)) ∷ [])) ∷
      (listed (
      (built_in (str (plain (var 4 4)) (var 5 7))) ∷ [])) ∷
      (listed (
      (try_on_else (listed (
      (if_else (with_q false 5 (var 6 4) Equal (known (pos 1) 4)) (raise (expression (construct (class_id 9) (routine_id 2) (argued (value (quoted (codes "a")) ∷ []))) (id 26) no_steps)) (raise (expression (construct (class_id 2) (routine_id 2) (argued (value (quoted (codes "b")) ∷ []))) (id 19) no_steps))) ∷ [])) (handlers None (class_id 9) (built_in (write (plain (quoted (codes "EA")) ∷ []) true)) no_handlers) (listed (
      (built_in (write (plain (quoted (codes "else")) ∷ []) true)) ∷ []))) ∷ [])) ∷
      (listed (
      (call (expression (call_of (routine_id 4) (argued (value (known (pos 1) 4) ∷ []))) (id 9) no_steps)) ∷
      (call (expression (call_of (routine_id 4) (argued (value (known (pos 2) 4) ∷ []))) (id 9) no_steps)) ∷
      (try_on_else (listed (
      (raise (expression (construct (class_id 9) (routine_id 2) (argued (value (quoted (codes "c")) ∷ []))) (id 26) no_steps)) ∷ [])) no_handlers (listed (
      (built_in (write (plain (quoted (codes "all")) ∷ []) true)) ∷ []))) ∷ [])) ∷
      [])

  raise_else_runs : outcome 4000 raise_else ([]) ≡ ends_with (makes 32 ∷ frees 1 ∷ makes 32 ∷ frees 2 ∷ makes 32 ∷ frees 3 ∷ []) (said (codes "EA") ++ said (codes "else") ++ said (codes "all")) ([]) 0
  unfolding outcome
  raise_else_runs = refl

  -- The errors that are raised as exceptions, with the class that each has
  abbrev raise_errors : Program
  raise_errors = program name
      (Class (class_id 0) ∷ Interface (interface_id 0) ∷ Class (class_id 1) ∷ Class (class_id 2) ∷ Class (class_id 3) ∷ Class (class_id 4) ∷ Class (class_id 5) ∷ Class (class_id 6) ∷ Class (class_id 7) ∷ Class (class_id 8) ∷ Subrange (id 4) (pos 1) (pos 2) ∷ Array (id 26) (id 4) ∷ [])
      (part name 7 ∷ [])
      (row name 4 Plain None ∷ row name 27 Plain None ∷ row name 16 Plain None ∷ row name 16 ObjectRole None ∷ row name 16 ObjectRole None ∷ row name 19 ObjectRole None ∷ row name 7 (Parameter Const_) None ∷ row name 4 (Parameter Value) None ∷ row name 7 Result None ∷ row name 4 (Parameter Value) None ∷ row name 23 Handler None ∷ row name 24 Handler None ∷ row name 25 Handler None ∷ row name 21 Handler None ∷ [])
      (routine_row name (codes "create") Constructor (OfClass (class_id 0)) 0 None 3 1 ∷ routine_row name (codes "destroy") Destructor (OfClass (class_id 0)) 0 None 4 1 ∷ routine_row name (codes "create") Constructor (OfClass (class_id 2)) 1 None 5 2 ∷ routine_row name (codes "inttostr") FunctionKind OfUnit 1 (Some 7) 7 2 ∷ routine_row name (codes "p") Procedure OfUnit 1 None 9 5 ∷ [])
      (class_row (codes "TObject") 16 None 0 0 0 2 0 0 ∷ class_row (codes "TInterfacedObject") 18 (Some (class_id 0)) 0 0 2 0 0 1 ∷ class_row (codes "Exception") 19 (Some (class_id 0)) 0 1 2 1 1 0 ∷ class_row (codes "EConvertError") 20 (Some (class_id 2)) 1 0 3 0 1 0 ∷ class_row (codes "EInvalidCast") 21 (Some (class_id 2)) 1 0 3 0 1 0 ∷ class_row (codes "EIntError") 22 (Some (class_id 2)) 1 0 3 0 1 0 ∷ class_row (codes "EDivByZero") 23 (Some (class_id 5)) 1 0 3 0 1 0 ∷ class_row (codes "ERangeError") 24 (Some (class_id 5)) 1 0 3 0 1 0 ∷ class_row (codes "EIntOverflow") 25 (Some (class_id 5)) 1 0 3 0 1 0 ∷ [])
      (interface_row (codes "iunknown") 17 None 3 0 ∷ [])
      (method_row 0 Static false ∷ method_row 1 VirtualBinding false ∷ method_row 2 Static false ∷ [])
      (interface_id 0 ∷ [])
      (variable_id 0 ∷ variable_id 1 ∷ variable_id 2 ∷ [])
      (Some (record { message = record { 0 = 0 }; exception = class_id 2; zero_divisor = class_id 6; range = class_id 7; overflow = class_id 8; cast = class_id 4 }))
      ((listed ([])) ∷
      (listed ([])) ∷
      (listed (
      (assign (dot (obj 5 19) 0 7) (var 6 7)) ∷ [])) ∷
      (listed (
      (built_in (str (plain (var 7 4)) (var 8 7))) ∷ [])) ∷
      (listed (
      (try_on (listed (
      (case_of (var 9 4) (branches (label (pos 1) (pos 1) ∷ []) (assign (var 0 4) (with_q false 4 (known (pos 5) 4) Div (var 0 4))) (branches (label (pos 2) (pos 2) ∷ []) (assign (at (var 1 27) (with_q false 4 (with_q false 4 (var 9 4) Add (var 0 4)) Add (known (pos 1) 4)) 4) (known (pos 1) 4)) (branches (label (pos 3) (pos 3) ∷ []) (assign (var 0 4) (with_q true 4 (known (pos 2147483647) 4) Add (then (with_q true 4 (var 0 4) Add (known (pos 1) 4)) bracket (id 4)))) (branches (label (pos 4) (pos 4) ∷ []) (assign (dot (then (to Instance 19 (var 2 16)) bracket (id 19)) 0 7) (quoted (codes "x"))) no_branches)))) (listed ([]))) ∷ [])) (handlers (Some (variable_id 10)) (class_id 6) (built_in (write (plain (quoted (codes "200 ")) ∷ plain (dot (var 10 23) 0 7) ∷ []) true)) (handlers (Some (variable_id 11)) (class_id 7) (built_in (write (plain (quoted (codes "201 ")) ∷ plain (dot (var 11 24) 0 7) ∷ []) true)) (handlers (Some (variable_id 12)) (class_id 8) (built_in (write (plain (quoted (codes "215")) ∷ []) true)) (handlers (Some (variable_id 13)) (class_id 4) (built_in (write (plain (quoted (codes "219")) ∷ []) true)) no_handlers))))) ∷ [])) ∷
      (listed (
      (assign (var 2 16) (expression (construct (class_id 0) (routine_id 0) (argued [])) (id 16) no_steps)) ∷
      (call (expression (call_of (routine_id 4) (argued (value (known (pos 1) 4) ∷ []))) (id 9) no_steps)) ∷
      (call (expression (call_of (routine_id 4) (argued (value (known (pos 2) 4) ∷ []))) (id 9) no_steps)) ∷
      (call (expression (call_of (routine_id 4) (argued (value (known (pos 3) 4) ∷ []))) (id 9) no_steps)) ∷
      (call (expression (call_of (routine_id 4) (argued (value (known (pos 4) 4) ∷ []))) (id 9) no_steps)) ∷ [])) ∷
      [])

  raise_errors_runs : outcome 4000 raise_errors ([]) ≡ ends_with (makes 16 ∷ makes 32 ∷ frees 2 ∷ makes 32 ∷ frees 3 ∷ makes 32 ∷ frees 4 ∷ makes 32 ∷ frees 5 ∷ []) (said (codes "200 Division by zero") ++ said (codes "201 Range check error") ++ said (codes "215") ++ said (codes "219")) ([]) 0
  unfolding outcome
  raise_errors_runs = refl

  -- Finally parts run from the inside out, also without an exception and by Exit
  abbrev raise_finally : Program
  raise_finally = program name
      (Class (class_id 0) ∷ Interface (interface_id 0) ∷ Class (class_id 1) ∷ Class (class_id 2) ∷ Class (class_id 3) ∷ Class (class_id 4) ∷ Class (class_id 5) ∷ Class (class_id 6) ∷ Class (class_id 7) ∷ Class (class_id 8) ∷ [])
      (part name 7 ∷ [])
      (row name 16 ObjectRole None ∷ row name 16 ObjectRole None ∷ row name 19 ObjectRole None ∷ row name 7 (Parameter Const_) None ∷ row name 4 (Parameter Value) None ∷ row name 7 Result None ∷ row name 4 (Parameter Value) None ∷ row name 19 Handler None ∷ [])
      (routine_row name (codes "create") Constructor (OfClass (class_id 0)) 0 None 0 1 ∷ routine_row name (codes "destroy") Destructor (OfClass (class_id 0)) 0 None 1 1 ∷ routine_row name (codes "create") Constructor (OfClass (class_id 2)) 1 None 2 2 ∷ routine_row name (codes "inttostr") FunctionKind OfUnit 1 (Some 7) 4 2 ∷ routine_row name (codes "p") Procedure OfUnit 1 None 6 1 ∷ [])
      (class_row (codes "TObject") 16 None 0 0 0 2 0 0 ∷ class_row (codes "TInterfacedObject") 18 (Some (class_id 0)) 0 0 2 0 0 1 ∷ class_row (codes "Exception") 19 (Some (class_id 0)) 0 1 2 1 1 0 ∷ class_row (codes "EConvertError") 20 (Some (class_id 2)) 1 0 3 0 1 0 ∷ class_row (codes "EInvalidCast") 21 (Some (class_id 2)) 1 0 3 0 1 0 ∷ class_row (codes "EIntError") 22 (Some (class_id 2)) 1 0 3 0 1 0 ∷ class_row (codes "EDivByZero") 23 (Some (class_id 5)) 1 0 3 0 1 0 ∷ class_row (codes "ERangeError") 24 (Some (class_id 5)) 1 0 3 0 1 0 ∷ class_row (codes "EIntOverflow") 25 (Some (class_id 5)) 1 0 3 0 1 0 ∷ [])
      (interface_row (codes "iunknown") 17 None 3 0 ∷ [])
      (method_row 0 Static false ∷ method_row 1 VirtualBinding false ∷ method_row 2 Static false ∷ [])
      (interface_id 0 ∷ [])
      []
      (Some (record { message = record { 0 = 0 }; exception = class_id 2; zero_divisor = class_id 6; range = class_id 7; overflow = class_id 8; cast = class_id 4 }))
      ((listed ([])) ∷
      (listed ([])) ∷
      (listed (
      (assign (dot (obj 2 19) 0 7) (var 3 7)) ∷ [])) ∷
      (listed (
      (built_in (str (plain (var 4 4)) (var 5 7))) ∷ [])) ∷
      (listed (
      (try_finally (listed (
      (try_finally (listed (
      (built_in (write (plain (quoted (codes "body ")) ∷ []) false)) ∷
      (if_then (with_q false 5 (var 6 4) Equal (known (pos 1) 4)) (exit)) ∷
      (if_then (with_q false 5 (var 6 4) Equal (known (pos 2) 4)) (raise (expression (construct (class_id 2) (routine_id 2) (argued (value (quoted (codes "x")) ∷ []))) (id 19) no_steps))) ∷
      (built_in (write (plain (quoted (codes "done ")) ∷ []) false)) ∷ [])) (listed (
      (built_in (write (plain (quoted (codes "inner ")) ∷ []) false)) ∷ []))) ∷
      (built_in (write (plain (quoted (codes "between ")) ∷ []) false)) ∷ [])) (listed (
      (built_in (write (plain (quoted (codes "outer")) ∷ []) true)) ∷ []))) ∷ [])) ∷
      (listed (
      (call (expression (call_of (routine_id 4) (argued (value (known (pos 0) 4) ∷ []))) (id 9) no_steps)) ∷
      (call (expression (call_of (routine_id 4) (argued (value (known (pos 1) 4) ∷ []))) (id 9) no_steps)) ∷
      (try_on (listed (
      (call (expression (call_of (routine_id 4) (argued (value (known (pos 2) 4) ∷ []))) (id 9) no_steps)) ∷ [])) (handlers (Some (variable_id 7)) (class_id 2) (built_in (write (plain (quoted (codes "caught ")) ∷ plain (dot (var 7 19) 0 7) ∷ []) true)) no_handlers)) ∷ [])) ∷
      [])

  raise_finally_runs : outcome 4000 raise_finally ([]) ≡ ends_with (makes 32 ∷ frees 1 ∷ []) (said (codes "body done inner between outer") ++ said (codes "body inner outer") ++ said (codes "body inner outer") ++ said (codes "caught x")) ([]) 0
  unfolding outcome
  raise_finally_runs = refl

  -- The object under way is freed in finally; except takes it, on looks at its class and ends with 216.
  abbrev raise_freed_by_finally : Program
  raise_freed_by_finally = program name
      (Class (class_id 0) ∷ Interface (interface_id 0) ∷ Class (class_id 1) ∷ Class (class_id 2) ∷ [])
      []
      (row name 19 Plain None ∷ row name 16 ObjectRole None ∷ row name 16 ObjectRole None ∷ row name 19 Handler None ∷ [])
      (routine_row name (codes "create") Constructor (OfClass (class_id 0)) 0 None 1 1 ∷ routine_row name (codes "destroy") Destructor (OfClass (class_id 0)) 0 None 2 1 ∷ [])
      (class_row (codes "TObject") 16 None 0 0 0 2 0 0 ∷ class_row (codes "TInterfacedObject") 18 (Some (class_id 0)) 0 0 2 0 0 1 ∷ class_row (codes "E") 19 (Some (class_id 0)) 0 0 2 0 1 0 ∷ [])
      (interface_row (codes "iunknown") 17 None 2 0 ∷ [])
      (method_row 0 Static false ∷ method_row 1 VirtualBinding false ∷ [])
      (interface_id 0 ∷ [])
      (variable_id 0 ∷ [])
      None
      ((listed ([])) ∷
      (listed ([])) ∷
      (listed (
      (try_on_else (listed (
      (try_finally (listed (
      (assign (var 0 19) (expression (construct (class_id 2) (routine_id 0) (argued [])) (id 19) no_steps)) ∷
      (raise (var 0 19)) ∷ [])) (listed (
      (built_in (free (var 0 19) false)) ∷ []))) ∷ [])) no_handlers (listed (
      (built_in (write (plain (quoted (codes "any")) ∷ []) true)) ∷ []))) ∷
      (try_on (listed (
      (try_finally (listed (
      (assign (var 0 19) (expression (construct (class_id 2) (routine_id 0) (argued [])) (id 19) no_steps)) ∷
      (raise (var 0 19)) ∷ [])) (listed (
      (built_in (free (var 0 19) false)) ∷ []))) ∷ [])) (handlers (Some (variable_id 3)) (class_id 2) (built_in (write (plain (quoted (codes "no")) ∷ []) true)) no_handlers)) ∷ [])) ∷
      [])

  raise_freed_by_finally_runs : outcome 4000 raise_freed_by_finally ([]) ≡ ends_with (makes 16 ∷ frees 1 ∷ makes 16 ∷ frees 2 ∷ []) (said (codes "any")) (said (codes "Runtime error 216")) 216
  unfolding outcome
  raise_freed_by_finally_runs = refl

  -- A handler that frees its instance: it is not freed again
  abbrev raise_freed_by_handler : Program
  raise_freed_by_handler = program name
      (Class (class_id 0) ∷ Interface (interface_id 0) ∷ Class (class_id 1) ∷ Class (class_id 2) ∷ Class (class_id 3) ∷ Class (class_id 4) ∷ Class (class_id 5) ∷ Class (class_id 6) ∷ Class (class_id 7) ∷ Class (class_id 8) ∷ Class (class_id 9) ∷ [])
      (part name 7 ∷ [])
      (row name 16 ObjectRole None ∷ row name 16 ObjectRole None ∷ row name 19 ObjectRole None ∷ row name 7 (Parameter Const_) None ∷ row name 4 (Parameter Value) None ∷ row name 7 Result None ∷ row name 26 ObjectRole None ∷ row name 26 Handler None ∷ [])
      (routine_row name (codes "create") Constructor (OfClass (class_id 0)) 0 None 0 1 ∷ routine_row name (codes "destroy") Destructor (OfClass (class_id 0)) 0 None 1 1 ∷ routine_row name (codes "create") Constructor (OfClass (class_id 2)) 1 None 2 2 ∷ routine_row name (codes "inttostr") FunctionKind OfUnit 1 (Some 7) 4 2 ∷ routine_row name (codes "destroy") Destructor (OfClass (class_id 9)) 0 None 6 1 ∷ [])
      (class_row (codes "TObject") 16 None 0 0 0 2 0 0 ∷ class_row (codes "TInterfacedObject") 18 (Some (class_id 0)) 0 0 2 0 0 1 ∷ class_row (codes "Exception") 19 (Some (class_id 0)) 0 1 2 1 1 0 ∷ class_row (codes "EConvertError") 20 (Some (class_id 2)) 1 0 3 0 1 0 ∷ class_row (codes "EInvalidCast") 21 (Some (class_id 2)) 1 0 3 0 1 0 ∷ class_row (codes "EIntError") 22 (Some (class_id 2)) 1 0 3 0 1 0 ∷ class_row (codes "EDivByZero") 23 (Some (class_id 5)) 1 0 3 0 1 0 ∷ class_row (codes "ERangeError") 24 (Some (class_id 5)) 1 0 3 0 1 0 ∷ class_row (codes "EIntOverflow") 25 (Some (class_id 5)) 1 0 3 0 1 0 ∷ class_row (codes "EA") 26 (Some (class_id 2)) 1 0 3 1 1 0 ∷ [])
      (interface_row (codes "iunknown") 17 None 4 0 ∷ [])
      (method_row 0 Static false ∷ method_row 1 VirtualBinding false ∷ method_row 2 Static false ∷ method_row 4 Override false ∷ [])
      (interface_id 0 ∷ [])
      []
      (Some (record { message = record { 0 = 0 }; exception = class_id 2; zero_divisor = class_id 6; range = class_id 7; overflow = class_id 8; cast = class_id 4 }))
      ((listed ([])) ∷
      (listed ([])) ∷
      (listed (
      (assign (dot (obj 2 19) 0 7) (var 3 7)) ∷ [])) ∷
      (listed (
      (built_in (str (plain (var 4 4)) (var 5 7))) ∷ [])) ∷
      (listed (
      (built_in (write (plain (quoted (codes "freed")) ∷ []) true)) ∷
      (call (then (obj 6 26) (method (routine_id 1) Direct (argued [])) (id 9))) ∷ [])) ∷
      (listed (
      (try_on (listed (
      (raise (expression (construct (class_id 9) (routine_id 2) (argued (value (quoted (codes "a")) ∷ []))) (id 26) no_steps)) ∷ [])) (handlers (Some (variable_id 7)) (class_id 9) (block (listed (
      (built_in (free (var 7 26) false)) ∷
      (built_in (write (plain (quoted (codes "handled")) ∷ []) true)) ∷ []))) no_handlers)) ∷
      (built_in (write (plain (quoted (codes "end")) ∷ []) true)) ∷ [])) ∷
      [])

  raise_freed_by_handler_runs : outcome 4000 raise_freed_by_handler ([]) ≡ ends_with (makes 32 ∷ frees 1 ∷ []) (said (codes "freed") ++ said (codes "handled") ++ said (codes "end")) ([]) 0
  unfolding outcome
  raise_freed_by_handler_runs = refl

  -- An exception that its handler freed is raised again.
  abbrev raise_freed_exception : Program
  raise_freed_exception = program name
      (Class (class_id 0) ∷ Interface (interface_id 0) ∷ Class (class_id 1) ∷ Class (class_id 2) ∷ [])
      []
      (row name 19 Plain None ∷ row name 16 ObjectRole None ∷ row name 16 ObjectRole None ∷ row name 19 Handler None ∷ [])
      (routine_row name (codes "create") Constructor (OfClass (class_id 0)) 0 None 1 1 ∷ routine_row name (codes "destroy") Destructor (OfClass (class_id 0)) 0 None 2 1 ∷ [])
      (class_row (codes "TObject") 16 None 0 0 0 2 0 0 ∷ class_row (codes "TInterfacedObject") 18 (Some (class_id 0)) 0 0 2 0 0 1 ∷ class_row (codes "E") 19 (Some (class_id 0)) 0 0 2 0 1 0 ∷ [])
      (interface_row (codes "iunknown") 17 None 2 0 ∷ [])
      (method_row 0 Static false ∷ method_row 1 VirtualBinding false ∷ [])
      (interface_id 0 ∷ [])
      (variable_id 0 ∷ [])
      None
      ((listed ([])) ∷
      (listed ([])) ∷
      (listed (
      (try_on (listed (
      (assign (var 0 19) (expression (construct (class_id 2) (routine_id 0) (argued [])) (id 19) no_steps)) ∷
      (raise (var 0 19)) ∷ [])) (handlers (Some (variable_id 3)) (class_id 2) (block (listed (
      (built_in (free (var 3 19) false)) ∷
      (built_in (write (plain (known (pos 102) 6) ∷ []) true)) ∷
      (reraise) ∷ []))) no_handlers)) ∷ [])) ∷
      [])

  raise_freed_exception_runs : outcome 4000 raise_freed_exception ([]) ≡ ends_with (makes 16 ∷ frees 1 ∷ []) (said (codes "f")) (said (codes "Runtime error 216")) 216
  unfolding outcome
  raise_freed_exception_runs = refl

  -- An exception that leaves a destructor which a lost interface started is unhandled at once
  abbrev raise_from_fall : Program
  raise_from_fall = program name
      (Class (class_id 0) ∷ Interface (interface_id 0) ∷ Class (class_id 1) ∷ Class (class_id 2) ∷ Class (class_id 3) ∷ Class (class_id 4) ∷ Class (class_id 5) ∷ Class (class_id 6) ∷ Class (class_id 7) ∷ Class (class_id 8) ∷ Class (class_id 9) ∷ [])
      (part name 7 ∷ [])
      (row name 17 Plain None ∷ row name 16 ObjectRole None ∷ row name 16 ObjectRole None ∷ row name 19 ObjectRole None ∷ row name 7 (Parameter Const_) None ∷ row name 4 (Parameter Value) None ∷ row name 7 Result None ∷ row name 26 ObjectRole None ∷ [])
      (routine_row name (codes "create") Constructor (OfClass (class_id 0)) 0 None 1 1 ∷ routine_row name (codes "destroy") Destructor (OfClass (class_id 0)) 0 None 2 1 ∷ routine_row name (codes "create") Constructor (OfClass (class_id 2)) 1 None 3 2 ∷ routine_row name (codes "inttostr") FunctionKind OfUnit 1 (Some 7) 5 2 ∷ routine_row name (codes "destroy") Destructor (OfClass (class_id 9)) 0 None 7 1 ∷ [])
      (class_row (codes "TObject") 16 None 0 0 0 2 0 0 ∷ class_row (codes "TInterfacedObject") 18 (Some (class_id 0)) 0 0 2 0 0 1 ∷ class_row (codes "Exception") 19 (Some (class_id 0)) 0 1 2 1 1 0 ∷ class_row (codes "EConvertError") 20 (Some (class_id 2)) 1 0 3 0 1 0 ∷ class_row (codes "EInvalidCast") 21 (Some (class_id 2)) 1 0 3 0 1 0 ∷ class_row (codes "EIntError") 22 (Some (class_id 2)) 1 0 3 0 1 0 ∷ class_row (codes "EDivByZero") 23 (Some (class_id 5)) 1 0 3 0 1 0 ∷ class_row (codes "ERangeError") 24 (Some (class_id 5)) 1 0 3 0 1 0 ∷ class_row (codes "EIntOverflow") 25 (Some (class_id 5)) 1 0 3 0 1 0 ∷ class_row (codes "TA") 26 (Some (class_id 1)) 1 0 3 1 1 0 ∷ [])
      (interface_row (codes "iunknown") 17 None 4 0 ∷ [])
      (method_row 0 Static false ∷ method_row 1 VirtualBinding false ∷ method_row 2 Static false ∷ method_row 4 Override false ∷ [])
      (interface_id 0 ∷ [])
      (variable_id 0 ∷ [])
      (Some (record { message = record { 0 = 0 }; exception = class_id 2; zero_divisor = class_id 6; range = class_id 7; overflow = class_id 8; cast = class_id 4 }))
      ((listed ([])) ∷
      (listed ([])) ∷
      (listed (
      (assign (dot (obj 3 19) 0 7) (var 4 7)) ∷ [])) ∷
      (listed (
      (built_in (str (plain (var 5 4)) (var 6 7))) ∷ [])) ∷
      (listed (
      (built_in (write (plain (quoted (codes "in")) ∷ []) true)) ∷
      (raise (expression (construct (class_id 2) (routine_id 2) (argued (value (quoted (codes "lost")) ∷ []))) (id 19) no_steps)) ∷ [])) ∷
      (listed (
      (assign (var 0 17) (to ToInterface 17 (expression (construct (class_id 9) (routine_id 0) (argued [])) (id 26) no_steps))) ∷
      (try_on_else (listed (
      (assign (var 0 17) (to Keep 17 nothing)) ∷ [])) no_handlers (listed (
      (built_in (write (plain (quoted (codes "never")) ∷ []) true)) ∷ []))) ∷ [])) ∷
      [])

  raise_from_fall_runs : outcome 4000 raise_from_fall ([]) ≡ ends_with (makes 16 ∷ makes 32 ∷ []) (said (codes "in")) (said (codes "Unhandled Exception: lost")) 217
  unfolding outcome
  raise_from_fall_runs = refl

  -- Where no clause fits the exception goes on to the next try
  abbrev raise_goes_on : Program
  raise_goes_on = program name
      (Class (class_id 0) ∷ Interface (interface_id 0) ∷ Class (class_id 1) ∷ Class (class_id 2) ∷ Class (class_id 3) ∷ Class (class_id 4) ∷ Class (class_id 5) ∷ Class (class_id 6) ∷ Class (class_id 7) ∷ Class (class_id 8) ∷ Class (class_id 9) ∷ Class (class_id 10) ∷ [])
      (part name 7 ∷ [])
      (row name 16 ObjectRole None ∷ row name 16 ObjectRole None ∷ row name 19 ObjectRole None ∷ row name 7 (Parameter Const_) None ∷ row name 4 (Parameter Value) None ∷ row name 7 Result None ∷ row name 27 Handler None ∷ row name 27 Handler None ∷ row name 26 Handler None ∷ [])
      (routine_row name (codes "create") Constructor (OfClass (class_id 0)) 0 None 0 1 ∷ routine_row name (codes "destroy") Destructor (OfClass (class_id 0)) 0 None 1 1 ∷ routine_row name (codes "create") Constructor (OfClass (class_id 2)) 1 None 2 2 ∷ routine_row name (codes "inttostr") FunctionKind OfUnit 1 (Some 7) 4 2 ∷ [])
      (class_row (codes "TObject") 16 None 0 0 0 2 0 0 ∷ class_row (codes "TInterfacedObject") 18 (Some (class_id 0)) 0 0 2 0 0 1 ∷ class_row (codes "Exception") 19 (Some (class_id 0)) 0 1 2 1 1 0 ∷ class_row (codes "EConvertError") 20 (Some (class_id 2)) 1 0 3 0 1 0 ∷ class_row (codes "EInvalidCast") 21 (Some (class_id 2)) 1 0 3 0 1 0 ∷ class_row (codes "EIntError") 22 (Some (class_id 2)) 1 0 3 0 1 0 ∷ class_row (codes "EDivByZero") 23 (Some (class_id 5)) 1 0 3 0 1 0 ∷ class_row (codes "ERangeError") 24 (Some (class_id 5)) 1 0 3 0 1 0 ∷ class_row (codes "EIntOverflow") 25 (Some (class_id 5)) 1 0 3 0 1 0 ∷ class_row (codes "EA") 26 (Some (class_id 2)) 1 0 3 0 1 0 ∷ class_row (codes "EB") 27 (Some (class_id 2)) 1 0 3 0 1 0 ∷ [])
      (interface_row (codes "iunknown") 17 None 3 0 ∷ [])
      (method_row 0 Static false ∷ method_row 1 VirtualBinding false ∷ method_row 2 Static false ∷ [])
      (interface_id 0 ∷ [])
      []
      (Some (record { message = record { 0 = 0 }; exception = class_id 2; zero_divisor = class_id 6; range = class_id 7; overflow = class_id 8; cast = class_id 4 }))
      ((listed ([])) ∷
      (listed ([])) ∷
      (listed (
      (assign (dot (obj 2 19) 0 7) (var 3 7)) ∷ [])) ∷
      (listed (
      (built_in (str (plain (var 4 4)) (var 5 7))) ∷ [])) ∷
      (listed (
      (try_on (listed (
      (try_on (listed (
      (raise (expression (construct (class_id 9) (routine_id 2) (argued (value (quoted (codes "a")) ∷ []))) (id 26) no_steps)) ∷
      (built_in (write (plain (quoted (codes "never")) ∷ []) true)) ∷ [])) (handlers (Some (variable_id 6)) (class_id 10) (built_in (write (plain (quoted (codes "never")) ∷ []) true)) no_handlers)) ∷
      (built_in (write (plain (quoted (codes "never")) ∷ []) true)) ∷ [])) (handlers (Some (variable_id 7)) (class_id 10) (built_in (write (plain (quoted (codes "never")) ∷ []) true)) (handlers (Some (variable_id 8)) (class_id 9) (built_in (write (plain (quoted (codes "outer ")) ∷ plain (dot (var 8 26) 0 7) ∷ []) true)) no_handlers))) ∷
      (built_in (write (plain (quoted (codes "end")) ∷ []) true)) ∷ [])) ∷
      [])

  raise_goes_on_runs : outcome 4000 raise_goes_on ([]) ≡ ends_with (makes 32 ∷ frees 1 ∷ []) (said (codes "outer a") ++ said (codes "end")) ([]) 0
  unfolding outcome
  raise_goes_on_runs = refl

  -- Halt in a handler and through a finally part: neither runs on
  abbrev raise_halt : Program
  raise_halt = program name
      (Class (class_id 0) ∷ Interface (interface_id 0) ∷ Class (class_id 1) ∷ Class (class_id 2) ∷ Class (class_id 3) ∷ Class (class_id 4) ∷ Class (class_id 5) ∷ Class (class_id 6) ∷ Class (class_id 7) ∷ Class (class_id 8) ∷ [])
      (part name 7 ∷ [])
      (row name 16 ObjectRole None ∷ row name 16 ObjectRole None ∷ row name 19 ObjectRole None ∷ row name 7 (Parameter Const_) None ∷ row name 4 (Parameter Value) None ∷ row name 7 Result None ∷ row name 19 Handler None ∷ [])
      (routine_row name (codes "create") Constructor (OfClass (class_id 0)) 0 None 0 1 ∷ routine_row name (codes "destroy") Destructor (OfClass (class_id 0)) 0 None 1 1 ∷ routine_row name (codes "create") Constructor (OfClass (class_id 2)) 1 None 2 2 ∷ routine_row name (codes "inttostr") FunctionKind OfUnit 1 (Some 7) 4 2 ∷ [])
      (class_row (codes "TObject") 16 None 0 0 0 2 0 0 ∷ class_row (codes "TInterfacedObject") 18 (Some (class_id 0)) 0 0 2 0 0 1 ∷ class_row (codes "Exception") 19 (Some (class_id 0)) 0 1 2 1 1 0 ∷ class_row (codes "EConvertError") 20 (Some (class_id 2)) 1 0 3 0 1 0 ∷ class_row (codes "EInvalidCast") 21 (Some (class_id 2)) 1 0 3 0 1 0 ∷ class_row (codes "EIntError") 22 (Some (class_id 2)) 1 0 3 0 1 0 ∷ class_row (codes "EDivByZero") 23 (Some (class_id 5)) 1 0 3 0 1 0 ∷ class_row (codes "ERangeError") 24 (Some (class_id 5)) 1 0 3 0 1 0 ∷ class_row (codes "EIntOverflow") 25 (Some (class_id 5)) 1 0 3 0 1 0 ∷ [])
      (interface_row (codes "iunknown") 17 None 3 0 ∷ [])
      (method_row 0 Static false ∷ method_row 1 VirtualBinding false ∷ method_row 2 Static false ∷ [])
      (interface_id 0 ∷ [])
      []
      (Some (record { message = record { 0 = 0 }; exception = class_id 2; zero_divisor = class_id 6; range = class_id 7; overflow = class_id 8; cast = class_id 4 }))
      ((listed ([])) ∷
      (listed ([])) ∷
      (listed (
      (assign (dot (obj 2 19) 0 7) (var 3 7)) ∷ [])) ∷
      (listed (
      (built_in (str (plain (var 4 4)) (var 5 7))) ∷ [])) ∷
      (listed (
      (try_finally (listed (
      (try_on (listed (
      (raise (expression (construct (class_id 2) (routine_id 2) (argued (value (quoted (codes "x")) ∷ []))) (id 19) no_steps)) ∷ [])) (handlers (Some (variable_id 6)) (class_id 2) (block (listed (
      (built_in (write (plain (dot (var 6 19) 0 7) ∷ []) true)) ∷
      (halt (known (pos 5) 4)) ∷ []))) no_handlers)) ∷ [])) (listed (
      (built_in (write (plain (quoted (codes "never")) ∷ []) true)) ∷ []))) ∷ [])) ∷
      [])

  raise_halt_runs : outcome 4000 raise_halt ([]) ≡ ends_with (makes 32 ∷ []) (said (codes "x")) ([]) 5
  unfolding outcome
  raise_halt_runs = refl

  -- Halt in a destructor that the end of the program runs.
  abbrev raise_halt_in_closing : Program
  raise_halt_in_closing = program name
      (Class (class_id 0) ∷ Interface (interface_id 0) ∷ Class (class_id 1) ∷ Interface (interface_id 1) ∷ Class (class_id 2) ∷ [])
      (part name 4 ∷ [])
      (row name 19 Plain None ∷ row name 19 Plain None ∷ row name 19 Plain None ∷ row name 16 ObjectRole None ∷ row name 16 ObjectRole None ∷ row name 20 ObjectRole None ∷ row name 4 (Parameter Value) None ∷ row name 20 ObjectRole None ∷ row name 19 Plain None ∷ [])
      (routine_row name (codes "create") Constructor (OfClass (class_id 0)) 0 None 3 1 ∷ routine_row name (codes "destroy") Destructor (OfClass (class_id 0)) 0 None 4 1 ∷ routine_row name (codes "create") Constructor (OfClass (class_id 2)) 1 None 5 2 ∷ routine_row name (codes "destroy") Destructor (OfClass (class_id 2)) 0 None 7 1 ∷ routine_row name (codes "p") Procedure OfUnit 0 None 8 1 ∷ [])
      (class_row (codes "TObject") 16 None 0 0 0 2 0 0 ∷ class_row (codes "TInterfacedObject") 18 (Some (class_id 0)) 0 0 2 0 0 1 ∷ class_row (codes "TT") 20 (Some (class_id 1)) 0 1 2 2 1 1 ∷ [])
      (interface_row (codes "iunknown") 17 None 4 0 ∷ interface_row (codes "ii") 19 (Some (interface_id 0)) 4 0 ∷ [])
      (method_row 0 Static false ∷ method_row 1 VirtualBinding false ∷ method_row 2 Static false ∷ method_row 3 Override false ∷ [])
      (interface_id 0 ∷ interface_id 1 ∷ [])
      (variable_id 0 ∷ variable_id 1 ∷ variable_id 2 ∷ [])
      None
      ((listed ([])) ∷
      (listed ([])) ∷
      (listed (
      (assign (dot (obj 5 20) 0 4) (var 6 4)) ∷ [])) ∷
      (listed (
      (built_in (write (plain (known (pos 100) 6) ∷ plain (dot (obj 7 20) 0 4) ∷ []) true)) ∷
      (if_then (with_q false 5 (dot (obj 7 20) 0 4) Equal (known (pos 2) 4)) (halt (known (pos 261) 4))) ∷
      (call (then (obj 7 20) (method (routine_id 1) Direct (argued [])) (id 9))) ∷ [])) ∷
      (listed (
      (assign (var 8 19) (to ToInterface 19 (expression (construct (class_id 2) (routine_id 2) (argued (value (known (pos 4) 4) ∷ []))) (id 20) no_steps))) ∷
      (try_finally (listed (
      (halt (known (pos 9) 4)) ∷ [])) (listed (
      (built_in (write (plain (quoted (codes "no")) ∷ []) true)) ∷ []))) ∷ [])) ∷
      (listed (
      (assign (var 0 19) (to ToInterface 19 (expression (construct (class_id 2) (routine_id 2) (argued (value (known (pos 1) 4) ∷ []))) (id 20) no_steps))) ∷
      (assign (var 1 19) (to ToInterface 19 (expression (construct (class_id 2) (routine_id 2) (argued (value (known (pos 2) 4) ∷ []))) (id 20) no_steps))) ∷
      (assign (var 2 19) (to ToInterface 19 (expression (construct (class_id 2) (routine_id 2) (argued (value (known (pos 3) 4) ∷ []))) (id 20) no_steps))) ∷
      (call (expression (call_of (routine_id 4) (argued [])) (id 9) no_steps)) ∷ [])) ∷
      [])

  raise_halt_in_closing_runs : outcome 4000 raise_halt_in_closing ([]) ≡ ends_with (makes 32 ∷ makes 32 ∷ makes 32 ∷ makes 32 ∷ frees 1 ∷ frees 3 ∷ []) (said (codes "d1") ++ said (codes "d2") ++ said (codes "d3")) ([]) 5
  unfolding outcome
  raise_halt_in_closing_runs = refl

  -- The temporaries of the operand of Halt are ended though the call in it raises.
  abbrev raise_halt_temporary : Program
  raise_halt_temporary = program name
      (Class (class_id 0) ∷ Interface (interface_id 0) ∷ Class (class_id 1) ∷ Class (class_id 2) ∷ [])
      []
      (row name 7 Plain None ∷ row name 16 ObjectRole None ∷ row name 16 ObjectRole None ∷ row name 19 ObjectRole None ∷ row name 7 (Parameter Const_) None ∷ row name 4 Result None ∷ [])
      (routine_row name (codes "create") Constructor (OfClass (class_id 0)) 0 None 1 1 ∷ routine_row name (codes "destroy") Destructor (OfClass (class_id 0)) 0 None 2 1 ∷ routine_row name (codes "create") Constructor (OfClass (class_id 2)) 0 None 3 1 ∷ routine_row name (codes "f") FunctionKind OfUnit 1 (Some 4) 4 2 ∷ [])
      (class_row (codes "TObject") 16 None 0 0 0 2 0 0 ∷ class_row (codes "TInterfacedObject") 18 (Some (class_id 0)) 0 0 2 0 0 1 ∷ class_row (codes "E") 19 (Some (class_id 0)) 0 0 2 1 1 0 ∷ [])
      (interface_row (codes "iunknown") 17 None 3 0 ∷ [])
      (method_row 0 Static false ∷ method_row 1 VirtualBinding false ∷ method_row 2 Static false ∷ [])
      (interface_id 0 ∷ [])
      (variable_id 0 ∷ [])
      None
      ((listed ([])) ∷
      (listed ([])) ∷
      (listed ([])) ∷
      (listed (
      (assign (var 5 4) (known (pos 0) 4)) ∷
      (raise (expression (construct (class_id 2) (routine_id 2) (argued [])) (id 19) no_steps)) ∷ [])) ∷
      (listed (
      (assign (var 0 7) (quoted (codes "x"))) ∷
      (try_on_else (listed (
      (halt (expression (call_of (routine_id 3) (argued (value (with_q false 7 (quoted (codes "bad ")) Add (var 0 7)) ∷ []))) (id 4) no_steps)) ∷ [])) no_handlers (listed (
      (built_in (write (plain (known (pos 99) 6) ∷ []) true)) ∷ []))) ∷
      (built_in (write (plain (with_q false 7 (var 0 7) Add (quoted (codes "y"))) ∷ []) true)) ∷ [])) ∷
      [])

  raise_halt_temporary_runs : outcome 4000 raise_halt_temporary ([]) ≡ ends_with (asks 32 ∷ makes 16 ∷ frees 1 ∷ frees 2 ∷ asks 32 ∷ frees 3 ∷ []) (said (codes "c") ++ said (codes "xy")) ([]) 0
  unfolding outcome
  raise_halt_temporary_runs = refl

  -- A handler's end frees the instance, also when it is left by Exit
  abbrev raise_handler_ends : Program
  raise_handler_ends = program name
      (Class (class_id 0) ∷ Interface (interface_id 0) ∷ Class (class_id 1) ∷ Class (class_id 2) ∷ Class (class_id 3) ∷ Class (class_id 4) ∷ Class (class_id 5) ∷ Class (class_id 6) ∷ Class (class_id 7) ∷ Class (class_id 8) ∷ Class (class_id 9) ∷ [])
      (part name 7 ∷ [])
      (row name 16 ObjectRole None ∷ row name 16 ObjectRole None ∷ row name 19 ObjectRole None ∷ row name 7 (Parameter Const_) None ∷ row name 4 (Parameter Value) None ∷ row name 7 Result None ∷ row name 26 ObjectRole None ∷ row name 4 (Parameter Value) None ∷ row name 26 Handler None ∷ [])
      (routine_row name (codes "create") Constructor (OfClass (class_id 0)) 0 None 0 1 ∷ routine_row name (codes "destroy") Destructor (OfClass (class_id 0)) 0 None 1 1 ∷ routine_row name (codes "create") Constructor (OfClass (class_id 2)) 1 None 2 2 ∷ routine_row name (codes "inttostr") FunctionKind OfUnit 1 (Some 7) 4 2 ∷ routine_row name (codes "destroy") Destructor (OfClass (class_id 9)) 0 None 6 1 ∷ routine_row name (codes "p") Procedure OfUnit 1 None 7 2 ∷ [])
      (class_row (codes "TObject") 16 None 0 0 0 2 0 0 ∷ class_row (codes "TInterfacedObject") 18 (Some (class_id 0)) 0 0 2 0 0 1 ∷ class_row (codes "Exception") 19 (Some (class_id 0)) 0 1 2 1 1 0 ∷ class_row (codes "EConvertError") 20 (Some (class_id 2)) 1 0 3 0 1 0 ∷ class_row (codes "EInvalidCast") 21 (Some (class_id 2)) 1 0 3 0 1 0 ∷ class_row (codes "EIntError") 22 (Some (class_id 2)) 1 0 3 0 1 0 ∷ class_row (codes "EDivByZero") 23 (Some (class_id 5)) 1 0 3 0 1 0 ∷ class_row (codes "ERangeError") 24 (Some (class_id 5)) 1 0 3 0 1 0 ∷ class_row (codes "EIntOverflow") 25 (Some (class_id 5)) 1 0 3 0 1 0 ∷ class_row (codes "EA") 26 (Some (class_id 2)) 1 0 3 1 1 0 ∷ [])
      (interface_row (codes "iunknown") 17 None 4 0 ∷ [])
      (method_row 0 Static false ∷ method_row 1 VirtualBinding false ∷ method_row 2 Static false ∷ method_row 4 Override false ∷ [])
      (interface_id 0 ∷ [])
      []
      (Some (record { message = record { 0 = 0 }; exception = class_id 2; zero_divisor = class_id 6; range = class_id 7; overflow = class_id 8; cast = class_id 4 }))
      ((listed ([])) ∷
      (listed ([])) ∷
      (listed (
      (assign (dot (obj 2 19) 0 7) (var 3 7)) ∷ [])) ∷
      (listed (
      (built_in (str (plain (var 4 4)) (var 5 7))) ∷ [])) ∷
      (listed (
      (built_in (write (plain (quoted (codes "freed ")) ∷ plain (dot (obj 6 26) 0 7) ∷ []) true)) ∷
      (call (then (obj 6 26) (method (routine_id 1) Direct (argued [])) (id 9))) ∷ [])) ∷
      (listed (
      (try_on (listed (
      (raise (expression (construct (class_id 9) (routine_id 2) (argued (value (quoted (codes "a")) ∷ []))) (id 26) no_steps)) ∷ [])) (handlers (Some (variable_id 8)) (class_id 9) (block (listed (
      (if_then (with_q false 5 (var 7 4) Equal (known (pos 1) 4)) (exit)) ∷
      (built_in (write (plain (quoted (codes "handled")) ∷ []) true)) ∷ []))) no_handlers)) ∷
      (built_in (write (plain (quoted (codes "after")) ∷ []) true)) ∷ [])) ∷
      (listed (
      (call (expression (call_of (routine_id 5) (argued (value (known (pos 0) 4) ∷ []))) (id 9) no_steps)) ∷
      (call (expression (call_of (routine_id 5) (argued (value (known (pos 1) 4) ∷ []))) (id 9) no_steps)) ∷
      (built_in (write (plain (quoted (codes "end")) ∷ []) true)) ∷ [])) ∷
      [])

  raise_handler_ends_runs : outcome 4000 raise_handler_ends ([]) ≡ ends_with (makes 32 ∷ frees 1 ∷ makes 32 ∷ frees 2 ∷ []) (said (codes "handled") ++ said (codes "freed a") ++ said (codes "after") ++ said (codes "freed a") ++ said (codes "end")) ([]) 0
  unfolding outcome
  raise_handler_ends_runs = refl

  -- An exception of a finally part replaces the one under way, which is freed
  abbrev raise_in_finally : Program
  raise_in_finally = program name
      (Class (class_id 0) ∷ Interface (interface_id 0) ∷ Class (class_id 1) ∷ Class (class_id 2) ∷ Class (class_id 3) ∷ Class (class_id 4) ∷ Class (class_id 5) ∷ Class (class_id 6) ∷ Class (class_id 7) ∷ Class (class_id 8) ∷ Class (class_id 9) ∷ [])
      (part name 7 ∷ [])
      (row name 16 ObjectRole None ∷ row name 16 ObjectRole None ∷ row name 19 ObjectRole None ∷ row name 7 (Parameter Const_) None ∷ row name 4 (Parameter Value) None ∷ row name 7 Result None ∷ row name 26 ObjectRole None ∷ row name 26 Handler None ∷ [])
      (routine_row name (codes "create") Constructor (OfClass (class_id 0)) 0 None 0 1 ∷ routine_row name (codes "destroy") Destructor (OfClass (class_id 0)) 0 None 1 1 ∷ routine_row name (codes "create") Constructor (OfClass (class_id 2)) 1 None 2 2 ∷ routine_row name (codes "inttostr") FunctionKind OfUnit 1 (Some 7) 4 2 ∷ routine_row name (codes "destroy") Destructor (OfClass (class_id 9)) 0 None 6 1 ∷ [])
      (class_row (codes "TObject") 16 None 0 0 0 2 0 0 ∷ class_row (codes "TInterfacedObject") 18 (Some (class_id 0)) 0 0 2 0 0 1 ∷ class_row (codes "Exception") 19 (Some (class_id 0)) 0 1 2 1 1 0 ∷ class_row (codes "EConvertError") 20 (Some (class_id 2)) 1 0 3 0 1 0 ∷ class_row (codes "EInvalidCast") 21 (Some (class_id 2)) 1 0 3 0 1 0 ∷ class_row (codes "EIntError") 22 (Some (class_id 2)) 1 0 3 0 1 0 ∷ class_row (codes "EDivByZero") 23 (Some (class_id 5)) 1 0 3 0 1 0 ∷ class_row (codes "ERangeError") 24 (Some (class_id 5)) 1 0 3 0 1 0 ∷ class_row (codes "EIntOverflow") 25 (Some (class_id 5)) 1 0 3 0 1 0 ∷ class_row (codes "EA") 26 (Some (class_id 2)) 1 0 3 1 1 0 ∷ [])
      (interface_row (codes "iunknown") 17 None 4 0 ∷ [])
      (method_row 0 Static false ∷ method_row 1 VirtualBinding false ∷ method_row 2 Static false ∷ method_row 4 Override false ∷ [])
      (interface_id 0 ∷ [])
      []
      (Some (record { message = record { 0 = 0 }; exception = class_id 2; zero_divisor = class_id 6; range = class_id 7; overflow = class_id 8; cast = class_id 4 }))
      ((listed ([])) ∷
      (listed ([])) ∷
      (listed (
      (assign (dot (obj 2 19) 0 7) (var 3 7)) ∷ [])) ∷
      (listed (
      (built_in (str (plain (var 4 4)) (var 5 7))) ∷ [])) ∷
      (listed (
      (built_in (write (plain (quoted (codes "freed ")) ∷ plain (dot (obj 6 26) 0 7) ∷ []) true)) ∷
      (call (then (obj 6 26) (method (routine_id 1) Direct (argued [])) (id 9))) ∷ [])) ∷
      (listed (
      (try_on (listed (
      (try_finally (listed (
      (raise (expression (construct (class_id 9) (routine_id 2) (argued (value (quoted (codes "first")) ∷ []))) (id 26) no_steps)) ∷ [])) (listed (
      (built_in (write (plain (quoted (codes "finally")) ∷ []) true)) ∷
      (raise (expression (construct (class_id 9) (routine_id 2) (argued (value (quoted (codes "second")) ∷ []))) (id 26) no_steps)) ∷ []))) ∷ [])) (handlers (Some (variable_id 7)) (class_id 9) (built_in (write (plain (quoted (codes "caught ")) ∷ plain (dot (var 7 26) 0 7) ∷ []) true)) no_handlers)) ∷
      (built_in (write (plain (quoted (codes "end")) ∷ []) true)) ∷ [])) ∷
      [])

  raise_in_finally_runs : outcome 4000 raise_in_finally ([]) ≡ ends_with (makes 32 ∷ makes 32 ∷ frees 1 ∷ frees 2 ∷ []) (said (codes "finally") ++ said (codes "freed first") ++ said (codes "caught second") ++ said (codes "freed second") ++ said (codes "end")) ([]) 0
  unfolding outcome
  raise_in_finally_runs = refl

  -- An exception raised in a handler: the handler's own is freed, the new one goes on
  abbrev raise_in_handler : Program
  raise_in_handler = program name
      (Class (class_id 0) ∷ Interface (interface_id 0) ∷ Class (class_id 1) ∷ Class (class_id 2) ∷ Class (class_id 3) ∷ Class (class_id 4) ∷ Class (class_id 5) ∷ Class (class_id 6) ∷ Class (class_id 7) ∷ Class (class_id 8) ∷ Class (class_id 9) ∷ [])
      (part name 7 ∷ [])
      (row name 16 ObjectRole None ∷ row name 16 ObjectRole None ∷ row name 19 ObjectRole None ∷ row name 7 (Parameter Const_) None ∷ row name 4 (Parameter Value) None ∷ row name 7 Result None ∷ row name 26 ObjectRole None ∷ row name 26 Handler None ∷ row name 26 Handler None ∷ [])
      (routine_row name (codes "create") Constructor (OfClass (class_id 0)) 0 None 0 1 ∷ routine_row name (codes "destroy") Destructor (OfClass (class_id 0)) 0 None 1 1 ∷ routine_row name (codes "create") Constructor (OfClass (class_id 2)) 1 None 2 2 ∷ routine_row name (codes "inttostr") FunctionKind OfUnit 1 (Some 7) 4 2 ∷ routine_row name (codes "destroy") Destructor (OfClass (class_id 9)) 0 None 6 1 ∷ [])
      (class_row (codes "TObject") 16 None 0 0 0 2 0 0 ∷ class_row (codes "TInterfacedObject") 18 (Some (class_id 0)) 0 0 2 0 0 1 ∷ class_row (codes "Exception") 19 (Some (class_id 0)) 0 1 2 1 1 0 ∷ class_row (codes "EConvertError") 20 (Some (class_id 2)) 1 0 3 0 1 0 ∷ class_row (codes "EInvalidCast") 21 (Some (class_id 2)) 1 0 3 0 1 0 ∷ class_row (codes "EIntError") 22 (Some (class_id 2)) 1 0 3 0 1 0 ∷ class_row (codes "EDivByZero") 23 (Some (class_id 5)) 1 0 3 0 1 0 ∷ class_row (codes "ERangeError") 24 (Some (class_id 5)) 1 0 3 0 1 0 ∷ class_row (codes "EIntOverflow") 25 (Some (class_id 5)) 1 0 3 0 1 0 ∷ class_row (codes "EA") 26 (Some (class_id 2)) 1 0 3 1 1 0 ∷ [])
      (interface_row (codes "iunknown") 17 None 4 0 ∷ [])
      (method_row 0 Static false ∷ method_row 1 VirtualBinding false ∷ method_row 2 Static false ∷ method_row 4 Override false ∷ [])
      (interface_id 0 ∷ [])
      []
      (Some (record { message = record { 0 = 0 }; exception = class_id 2; zero_divisor = class_id 6; range = class_id 7; overflow = class_id 8; cast = class_id 4 }))
      ((listed ([])) ∷
      (listed ([])) ∷
      (listed (
      (assign (dot (obj 2 19) 0 7) (var 3 7)) ∷ [])) ∷
      (listed (
      (built_in (str (plain (var 4 4)) (var 5 7))) ∷ [])) ∷
      (listed (
      (built_in (write (plain (quoted (codes "freed ")) ∷ plain (dot (obj 6 26) 0 7) ∷ []) true)) ∷
      (call (then (obj 6 26) (method (routine_id 1) Direct (argued [])) (id 9))) ∷ [])) ∷
      (listed (
      (try_on (listed (
      (try_on (listed (
      (raise (expression (construct (class_id 9) (routine_id 2) (argued (value (quoted (codes "first")) ∷ []))) (id 26) no_steps)) ∷ [])) (handlers (Some (variable_id 7)) (class_id 9) (raise (expression (construct (class_id 9) (routine_id 2) (argued (value (quoted (codes "second")) ∷ []))) (id 26) no_steps)) no_handlers)) ∷ [])) (handlers (Some (variable_id 8)) (class_id 9) (built_in (write (plain (quoted (codes "caught ")) ∷ plain (dot (var 8 26) 0 7) ∷ []) true)) no_handlers)) ∷
      (built_in (write (plain (quoted (codes "end")) ∷ []) true)) ∷ [])) ∷
      [])

  raise_in_handler_runs : outcome 4000 raise_in_handler ([]) ≡ ends_with (makes 32 ∷ makes 32 ∷ frees 1 ∷ frees 2 ∷ []) (said (codes "freed first") ++ said (codes "caught second") ++ said (codes "freed second") ++ said (codes "end")) ([]) 0
  unfolding outcome
  raise_in_handler_runs = refl

  -- A loop that handles exceptions turn by turn
  abbrev raise_in_loop : Program
  raise_in_loop = program name
      (Class (class_id 0) ∷ Interface (interface_id 0) ∷ Class (class_id 1) ∷ Class (class_id 2) ∷ Class (class_id 3) ∷ Class (class_id 4) ∷ Class (class_id 5) ∷ Class (class_id 6) ∷ Class (class_id 7) ∷ Class (class_id 8) ∷ [])
      (part name 7 ∷ [])
      (row name 4 Plain None ∷ row name 7 Plain None ∷ row name 16 ObjectRole None ∷ row name 16 ObjectRole None ∷ row name 19 ObjectRole None ∷ row name 7 (Parameter Const_) None ∷ row name 4 (Parameter Value) None ∷ row name 7 Result None ∷ row name 23 Handler None ∷ [])
      (routine_row name (codes "create") Constructor (OfClass (class_id 0)) 0 None 2 1 ∷ routine_row name (codes "destroy") Destructor (OfClass (class_id 0)) 0 None 3 1 ∷ routine_row name (codes "create") Constructor (OfClass (class_id 2)) 1 None 4 2 ∷ routine_row name (codes "inttostr") FunctionKind OfUnit 1 (Some 7) 6 2 ∷ [])
      (class_row (codes "TObject") 16 None 0 0 0 2 0 0 ∷ class_row (codes "TInterfacedObject") 18 (Some (class_id 0)) 0 0 2 0 0 1 ∷ class_row (codes "Exception") 19 (Some (class_id 0)) 0 1 2 1 1 0 ∷ class_row (codes "EConvertError") 20 (Some (class_id 2)) 1 0 3 0 1 0 ∷ class_row (codes "EInvalidCast") 21 (Some (class_id 2)) 1 0 3 0 1 0 ∷ class_row (codes "EIntError") 22 (Some (class_id 2)) 1 0 3 0 1 0 ∷ class_row (codes "EDivByZero") 23 (Some (class_id 5)) 1 0 3 0 1 0 ∷ class_row (codes "ERangeError") 24 (Some (class_id 5)) 1 0 3 0 1 0 ∷ class_row (codes "EIntOverflow") 25 (Some (class_id 5)) 1 0 3 0 1 0 ∷ [])
      (interface_row (codes "iunknown") 17 None 3 0 ∷ [])
      (method_row 0 Static false ∷ method_row 1 VirtualBinding false ∷ method_row 2 Static false ∷ [])
      (interface_id 0 ∷ [])
      (variable_id 0 ∷ variable_id 1 ∷ [])
      (Some (record { message = record { 0 = 0 }; exception = class_id 2; zero_divisor = class_id 6; range = class_id 7; overflow = class_id 8; cast = class_id 4 }))
      ((listed ([])) ∷
      (listed ([])) ∷
      (listed (
      (assign (dot (obj 4 19) 0 7) (var 5 7)) ∷ [])) ∷
      (listed (
      (built_in (str (plain (var 6 4)) (var 7 7))) ∷ [])) ∷
      (listed (
      (for_to (variable_id 0) (known (negsuc 0) 4) To (known (pos 1) 4) (try_on (listed (
      (assign (var 1 7) (with_q false 7 (with_q false 7 (var 1 7) Add (expression (call_of (routine_id 3) (argued (value (with_q false 4 (known (pos 4) 4) Div (var 0 4)) ∷ []))) (id 7) no_steps)) Add (quoted (codes " ")))) ∷ [])) (handlers (Some (variable_id 8)) (class_id 6) (assign (var 1 7) (with_q false 7 (var 1 7) Add (quoted (codes "zero ")))) no_handlers))) ∷
      (built_in (write (plain (var 1 7) ∷ []) true)) ∷ [])) ∷
      [])

  raise_in_loop_runs : outcome 4000 raise_in_loop ([]) ≡ ends_with (asks 32 ∷ asks 32 ∷ frees 1 ∷ makes 32 ∷ asks 32 ∷ frees 2 ∷ frees 3 ∷ asks 32 ∷ asks 32 ∷ asks 32 ∷ frees 6 ∷ frees 5 ∷ frees 4 ∷ frees 7 ∷ []) (said (codes "-4 zero 4 ")) ([]) 0
  unfolding outcome
  raise_in_loop_runs = refl

  -- A handler that raises its own instance: it is under way again and not freed
  abbrev raise_itself : Program
  raise_itself = program name
      (Class (class_id 0) ∷ Interface (interface_id 0) ∷ Class (class_id 1) ∷ Class (class_id 2) ∷ Class (class_id 3) ∷ Class (class_id 4) ∷ Class (class_id 5) ∷ Class (class_id 6) ∷ Class (class_id 7) ∷ Class (class_id 8) ∷ Class (class_id 9) ∷ [])
      (part name 7 ∷ [])
      (row name 16 ObjectRole None ∷ row name 16 ObjectRole None ∷ row name 19 ObjectRole None ∷ row name 7 (Parameter Const_) None ∷ row name 4 (Parameter Value) None ∷ row name 7 Result None ∷ row name 26 ObjectRole None ∷ row name 26 Handler None ∷ row name 26 Handler None ∷ [])
      (routine_row name (codes "create") Constructor (OfClass (class_id 0)) 0 None 0 1 ∷ routine_row name (codes "destroy") Destructor (OfClass (class_id 0)) 0 None 1 1 ∷ routine_row name (codes "create") Constructor (OfClass (class_id 2)) 1 None 2 2 ∷ routine_row name (codes "inttostr") FunctionKind OfUnit 1 (Some 7) 4 2 ∷ routine_row name (codes "destroy") Destructor (OfClass (class_id 9)) 0 None 6 1 ∷ [])
      (class_row (codes "TObject") 16 None 0 0 0 2 0 0 ∷ class_row (codes "TInterfacedObject") 18 (Some (class_id 0)) 0 0 2 0 0 1 ∷ class_row (codes "Exception") 19 (Some (class_id 0)) 0 1 2 1 1 0 ∷ class_row (codes "EConvertError") 20 (Some (class_id 2)) 1 0 3 0 1 0 ∷ class_row (codes "EInvalidCast") 21 (Some (class_id 2)) 1 0 3 0 1 0 ∷ class_row (codes "EIntError") 22 (Some (class_id 2)) 1 0 3 0 1 0 ∷ class_row (codes "EDivByZero") 23 (Some (class_id 5)) 1 0 3 0 1 0 ∷ class_row (codes "ERangeError") 24 (Some (class_id 5)) 1 0 3 0 1 0 ∷ class_row (codes "EIntOverflow") 25 (Some (class_id 5)) 1 0 3 0 1 0 ∷ class_row (codes "EA") 26 (Some (class_id 2)) 1 0 3 1 1 0 ∷ [])
      (interface_row (codes "iunknown") 17 None 4 0 ∷ [])
      (method_row 0 Static false ∷ method_row 1 VirtualBinding false ∷ method_row 2 Static false ∷ method_row 4 Override false ∷ [])
      (interface_id 0 ∷ [])
      []
      (Some (record { message = record { 0 = 0 }; exception = class_id 2; zero_divisor = class_id 6; range = class_id 7; overflow = class_id 8; cast = class_id 4 }))
      ((listed ([])) ∷
      (listed ([])) ∷
      (listed (
      (assign (dot (obj 2 19) 0 7) (var 3 7)) ∷ [])) ∷
      (listed (
      (built_in (str (plain (var 4 4)) (var 5 7))) ∷ [])) ∷
      (listed (
      (built_in (write (plain (quoted (codes "freed")) ∷ []) true)) ∷
      (call (then (obj 6 26) (method (routine_id 1) Direct (argued [])) (id 9))) ∷ [])) ∷
      (listed (
      (try_on (listed (
      (try_on (listed (
      (raise (expression (construct (class_id 9) (routine_id 2) (argued (value (quoted (codes "a")) ∷ []))) (id 26) no_steps)) ∷ [])) (handlers (Some (variable_id 7)) (class_id 9) (raise (var 7 26)) no_handlers)) ∷ [])) (handlers (Some (variable_id 8)) (class_id 9) (built_in (write (plain (quoted (codes "caught ")) ∷ plain (dot (var 8 26) 0 7) ∷ []) true)) no_handlers)) ∷
      (built_in (write (plain (quoted (codes "end")) ∷ []) true)) ∷ [])) ∷
      [])

  raise_itself_runs : outcome 4000 raise_itself ([]) ≡ ends_with (makes 32 ∷ frees 1 ∷ []) (said (codes "caught a") ++ said (codes "freed") ++ said (codes "end")) ([]) 0
  unfolding outcome
  raise_itself_runs = refl

  -- An exception is an instance like others: made earlier, raised later, changed in between
  abbrev raise_kept : Program
  raise_kept = program name
      (Class (class_id 0) ∷ Interface (interface_id 0) ∷ Class (class_id 1) ∷ Class (class_id 2) ∷ Class (class_id 3) ∷ Class (class_id 4) ∷ Class (class_id 5) ∷ Class (class_id 6) ∷ Class (class_id 7) ∷ Class (class_id 8) ∷ Class (class_id 9) ∷ [])
      (part name 7 ∷ part name 4 ∷ [])
      (row name 26 Plain None ∷ row name 16 ObjectRole None ∷ row name 16 ObjectRole None ∷ row name 19 ObjectRole None ∷ row name 7 (Parameter Const_) None ∷ row name 4 (Parameter Value) None ∷ row name 7 Result None ∷ row name 26 Handler None ∷ [])
      (routine_row name (codes "create") Constructor (OfClass (class_id 0)) 0 None 1 1 ∷ routine_row name (codes "destroy") Destructor (OfClass (class_id 0)) 0 None 2 1 ∷ routine_row name (codes "create") Constructor (OfClass (class_id 2)) 1 None 3 2 ∷ routine_row name (codes "inttostr") FunctionKind OfUnit 1 (Some 7) 5 2 ∷ routine_row name (codes "p") Procedure OfUnit 0 None 7 0 ∷ [])
      (class_row (codes "TObject") 16 None 0 0 0 2 0 0 ∷ class_row (codes "TInterfacedObject") 18 (Some (class_id 0)) 0 0 2 0 0 1 ∷ class_row (codes "Exception") 19 (Some (class_id 0)) 0 1 2 1 1 0 ∷ class_row (codes "EConvertError") 20 (Some (class_id 2)) 1 0 3 0 1 0 ∷ class_row (codes "EInvalidCast") 21 (Some (class_id 2)) 1 0 3 0 1 0 ∷ class_row (codes "EIntError") 22 (Some (class_id 2)) 1 0 3 0 1 0 ∷ class_row (codes "EDivByZero") 23 (Some (class_id 5)) 1 0 3 0 1 0 ∷ class_row (codes "ERangeError") 24 (Some (class_id 5)) 1 0 3 0 1 0 ∷ class_row (codes "EIntOverflow") 25 (Some (class_id 5)) 1 0 3 0 1 0 ∷ class_row (codes "EA") 26 (Some (class_id 2)) 1 1 3 0 1 0 ∷ [])
      (interface_row (codes "iunknown") 17 None 3 0 ∷ [])
      (method_row 0 Static false ∷ method_row 1 VirtualBinding false ∷ method_row 2 Static false ∷ [])
      (interface_id 0 ∷ [])
      (variable_id 0 ∷ [])
      (Some (record { message = record { 0 = 0 }; exception = class_id 2; zero_divisor = class_id 6; range = class_id 7; overflow = class_id 8; cast = class_id 4 }))
      ((listed ([])) ∷
      (listed ([])) ∷
      (listed (
      (assign (dot (obj 3 19) 0 7) (var 4 7)) ∷ [])) ∷
      (listed (
      (built_in (str (plain (var 5 4)) (var 6 7))) ∷ [])) ∷
      (listed (
      (raise (var 0 26)) ∷ [])) ∷
      (listed (
      (assign (var 0 26) (expression (construct (class_id 9) (routine_id 2) (argued (value (quoted (codes "first")) ∷ []))) (id 26) no_steps)) ∷
      (assign (dot (var 0 26) 1 4) (known (pos 4) 4)) ∷
      (assign (dot (var 0 26) 0 7) (with_q false 7 (dot (var 0 26) 0 7) Add (quoted (codes "!")))) ∷
      (try_on (listed (
      (call (expression (call_of (routine_id 4) (argued [])) (id 9) no_steps)) ∷ [])) (handlers (Some (variable_id 7)) (class_id 9) (built_in (write (plain (dot (var 7 26) 0 7) ∷ plain (dot (var 7 26) 1 4) ∷ plain (with_q false 5 (var 7 26) Equal (var 0 26)) ∷ []) true)) no_handlers)) ∷ [])) ∷
      [])

  raise_kept_runs : outcome 4000 raise_kept ([]) ≡ ends_with (makes 32 ∷ asks 32 ∷ frees 2 ∷ frees 1 ∷ []) (said (codes "first!4TRUE")) ([]) 0
  unfolding outcome
  raise_kept_runs = refl

  -- A local's destructor prints between the raise and the handler, with its own exception inside
  abbrev raise_local_ends_print : Program
  raise_local_ends_print = program name
      (Class (class_id 0) ∷ Interface (interface_id 0) ∷ Class (class_id 1) ∷ Class (class_id 2) ∷ Class (class_id 3) ∷ Class (class_id 4) ∷ Class (class_id 5) ∷ Class (class_id 6) ∷ Class (class_id 7) ∷ Class (class_id 8) ∷ Class (class_id 9) ∷ [])
      (part name 7 ∷ [])
      (row name 16 ObjectRole None ∷ row name 16 ObjectRole None ∷ row name 19 ObjectRole None ∷ row name 7 (Parameter Const_) None ∷ row name 4 (Parameter Value) None ∷ row name 7 Result None ∷ row name 26 ObjectRole None ∷ row name 19 Handler None ∷ row name 17 Plain None ∷ row name 19 Handler None ∷ [])
      (routine_row name (codes "create") Constructor (OfClass (class_id 0)) 0 None 0 1 ∷ routine_row name (codes "destroy") Destructor (OfClass (class_id 0)) 0 None 1 1 ∷ routine_row name (codes "create") Constructor (OfClass (class_id 2)) 1 None 2 2 ∷ routine_row name (codes "inttostr") FunctionKind OfUnit 1 (Some 7) 4 2 ∷ routine_row name (codes "destroy") Destructor (OfClass (class_id 9)) 0 None 6 2 ∷ routine_row name (codes "p") Procedure OfUnit 0 None 8 1 ∷ [])
      (class_row (codes "TObject") 16 None 0 0 0 2 0 0 ∷ class_row (codes "TInterfacedObject") 18 (Some (class_id 0)) 0 0 2 0 0 1 ∷ class_row (codes "Exception") 19 (Some (class_id 0)) 0 1 2 1 1 0 ∷ class_row (codes "EConvertError") 20 (Some (class_id 2)) 1 0 3 0 1 0 ∷ class_row (codes "EInvalidCast") 21 (Some (class_id 2)) 1 0 3 0 1 0 ∷ class_row (codes "EIntError") 22 (Some (class_id 2)) 1 0 3 0 1 0 ∷ class_row (codes "EDivByZero") 23 (Some (class_id 5)) 1 0 3 0 1 0 ∷ class_row (codes "ERangeError") 24 (Some (class_id 5)) 1 0 3 0 1 0 ∷ class_row (codes "EIntOverflow") 25 (Some (class_id 5)) 1 0 3 0 1 0 ∷ class_row (codes "TA") 26 (Some (class_id 1)) 1 0 3 1 1 0 ∷ [])
      (interface_row (codes "iunknown") 17 None 4 0 ∷ [])
      (method_row 0 Static false ∷ method_row 1 VirtualBinding false ∷ method_row 2 Static false ∷ method_row 4 Override false ∷ [])
      (interface_id 0 ∷ [])
      []
      (Some (record { message = record { 0 = 0 }; exception = class_id 2; zero_divisor = class_id 6; range = class_id 7; overflow = class_id 8; cast = class_id 4 }))
      ((listed ([])) ∷
      (listed ([])) ∷
      (listed (
      (assign (dot (obj 2 19) 0 7) (var 3 7)) ∷ [])) ∷
      (listed (
      (built_in (str (plain (var 4 4)) (var 5 7))) ∷ [])) ∷
      (listed (
      (try_on (listed (
      (raise (expression (construct (class_id 2) (routine_id 2) (argued (value (quoted (codes "inner")) ∷ []))) (id 19) no_steps)) ∷ [])) (handlers (Some (variable_id 7)) (class_id 2) (built_in (write (plain (dot (var 7 19) 0 7) ∷ []) true)) no_handlers)) ∷
      (call (then (obj 6 26) (method (routine_id 1) Direct (argued [])) (id 9))) ∷ [])) ∷
      (listed (
      (assign (var 8 17) (to ToInterface 17 (expression (construct (class_id 9) (routine_id 0) (argued [])) (id 26) no_steps))) ∷
      (raise (expression (construct (class_id 2) (routine_id 2) (argued (value (quoted (codes "outer")) ∷ []))) (id 19) no_steps)) ∷ [])) ∷
      (listed (
      (try_on (listed (
      (call (expression (call_of (routine_id 5) (argued [])) (id 9) no_steps)) ∷ [])) (handlers (Some (variable_id 9)) (class_id 2) (built_in (write (plain (dot (var 9 19) 0 7) ∷ []) true)) no_handlers)) ∷ [])) ∷
      [])

  raise_local_ends_print_runs : outcome 4000 raise_local_ends_print ([]) ≡ ends_with (makes 16 ∷ makes 32 ∷ makes 32 ∷ frees 3 ∷ frees 1 ∷ frees 2 ∷ []) (said (codes "inner") ++ said (codes "outer")) ([]) 0
  unfolding outcome
  raise_local_ends_print_runs = refl

  -- Break and Continue out of protected parts run the finally parts
  abbrev raise_loops : Program
  raise_loops = program name
      (Class (class_id 0) ∷ Interface (interface_id 0) ∷ Class (class_id 1) ∷ Class (class_id 2) ∷ Class (class_id 3) ∷ Class (class_id 4) ∷ Class (class_id 5) ∷ Class (class_id 6) ∷ Class (class_id 7) ∷ Class (class_id 8) ∷ [])
      (part name 7 ∷ [])
      (row name 4 Plain None ∷ row name 16 ObjectRole None ∷ row name 16 ObjectRole None ∷ row name 19 ObjectRole None ∷ row name 7 (Parameter Const_) None ∷ row name 4 (Parameter Value) None ∷ row name 7 Result None ∷ [])
      (routine_row name (codes "create") Constructor (OfClass (class_id 0)) 0 None 1 1 ∷ routine_row name (codes "destroy") Destructor (OfClass (class_id 0)) 0 None 2 1 ∷ routine_row name (codes "create") Constructor (OfClass (class_id 2)) 1 None 3 2 ∷ routine_row name (codes "inttostr") FunctionKind OfUnit 1 (Some 7) 5 2 ∷ [])
      (class_row (codes "TObject") 16 None 0 0 0 2 0 0 ∷ class_row (codes "TInterfacedObject") 18 (Some (class_id 0)) 0 0 2 0 0 1 ∷ class_row (codes "Exception") 19 (Some (class_id 0)) 0 1 2 1 1 0 ∷ class_row (codes "EConvertError") 20 (Some (class_id 2)) 1 0 3 0 1 0 ∷ class_row (codes "EInvalidCast") 21 (Some (class_id 2)) 1 0 3 0 1 0 ∷ class_row (codes "EIntError") 22 (Some (class_id 2)) 1 0 3 0 1 0 ∷ class_row (codes "EDivByZero") 23 (Some (class_id 5)) 1 0 3 0 1 0 ∷ class_row (codes "ERangeError") 24 (Some (class_id 5)) 1 0 3 0 1 0 ∷ class_row (codes "EIntOverflow") 25 (Some (class_id 5)) 1 0 3 0 1 0 ∷ [])
      (interface_row (codes "iunknown") 17 None 3 0 ∷ [])
      (method_row 0 Static false ∷ method_row 1 VirtualBinding false ∷ method_row 2 Static false ∷ [])
      (interface_id 0 ∷ [])
      (variable_id 0 ∷ [])
      (Some (record { message = record { 0 = 0 }; exception = class_id 2; zero_divisor = class_id 6; range = class_id 7; overflow = class_id 8; cast = class_id 4 }))
      ((listed ([])) ∷
      (listed ([])) ∷
      (listed (
      (assign (dot (obj 3 19) 0 7) (var 4 7)) ∷ [])) ∷
      (listed (
      (built_in (str (plain (var 5 4)) (var 6 7))) ∷ [])) ∷
      (listed (
      (for_to (variable_id 0) (known (pos 1) 4) To (known (pos 4) 4) (block (listed (
      (try_finally (listed (
      (if_then (with_q false 5 (var 0 4) Equal (known (pos 1) 4)) (continue)) ∷
      (if_then (with_q false 5 (var 0 4) Equal (known (pos 3) 4)) (break)) ∷
      (built_in (write (plain (quoted (codes "body")) ∷ plain (var 0 4) ∷ plain (known (pos 32) 6) ∷ []) false)) ∷ [])) (listed (
      (built_in (write (plain (quoted (codes "fin")) ∷ plain (var 0 4) ∷ plain (known (pos 32) 6) ∷ []) false)) ∷ []))) ∷ [])))) ∷
      (built_in (write (plain (var 0 4) ∷ []) true)) ∷
      (repeat_until (listed (
      (try_on_else (listed (
      (raise (expression (construct (class_id 2) (routine_id 2) (argued (value (quoted (codes "x")) ∷ []))) (id 19) no_steps)) ∷ [])) no_handlers (listed (
      (break) ∷ []))) ∷ [])) (known (pos 0) 5)) ∷
      (built_in (write (plain (quoted (codes "end")) ∷ []) true)) ∷ [])) ∷
      [])

  raise_loops_runs : outcome 4000 raise_loops ([]) ≡ ends_with (makes 32 ∷ frees 1 ∷ []) (said (codes "fin1 body2 fin2 fin3 3") ++ said (codes "end")) ([]) 0
  unfolding outcome
  raise_loops_runs = refl

  -- A try within a handler: the outer exception is still there afterwards
  abbrev raise_nested : Program
  raise_nested = program name
      (Class (class_id 0) ∷ Interface (interface_id 0) ∷ Class (class_id 1) ∷ Class (class_id 2) ∷ Class (class_id 3) ∷ Class (class_id 4) ∷ Class (class_id 5) ∷ Class (class_id 6) ∷ Class (class_id 7) ∷ Class (class_id 8) ∷ [])
      (part name 7 ∷ [])
      (row name 16 ObjectRole None ∷ row name 16 ObjectRole None ∷ row name 19 ObjectRole None ∷ row name 7 (Parameter Const_) None ∷ row name 4 (Parameter Value) None ∷ row name 7 Result None ∷ row name 19 Handler None ∷ row name 20 Handler None ∷ [])
      (routine_row name (codes "create") Constructor (OfClass (class_id 0)) 0 None 0 1 ∷ routine_row name (codes "destroy") Destructor (OfClass (class_id 0)) 0 None 1 1 ∷ routine_row name (codes "create") Constructor (OfClass (class_id 2)) 1 None 2 2 ∷ routine_row name (codes "inttostr") FunctionKind OfUnit 1 (Some 7) 4 2 ∷ [])
      (class_row (codes "TObject") 16 None 0 0 0 2 0 0 ∷ class_row (codes "TInterfacedObject") 18 (Some (class_id 0)) 0 0 2 0 0 1 ∷ class_row (codes "Exception") 19 (Some (class_id 0)) 0 1 2 1 1 0 ∷ class_row (codes "EConvertError") 20 (Some (class_id 2)) 1 0 3 0 1 0 ∷ class_row (codes "EInvalidCast") 21 (Some (class_id 2)) 1 0 3 0 1 0 ∷ class_row (codes "EIntError") 22 (Some (class_id 2)) 1 0 3 0 1 0 ∷ class_row (codes "EDivByZero") 23 (Some (class_id 5)) 1 0 3 0 1 0 ∷ class_row (codes "ERangeError") 24 (Some (class_id 5)) 1 0 3 0 1 0 ∷ class_row (codes "EIntOverflow") 25 (Some (class_id 5)) 1 0 3 0 1 0 ∷ [])
      (interface_row (codes "iunknown") 17 None 3 0 ∷ [])
      (method_row 0 Static false ∷ method_row 1 VirtualBinding false ∷ method_row 2 Static false ∷ [])
      (interface_id 0 ∷ [])
      []
      (Some (record { message = record { 0 = 0 }; exception = class_id 2; zero_divisor = class_id 6; range = class_id 7; overflow = class_id 8; cast = class_id 4 }))
      ((listed ([])) ∷
      (listed ([])) ∷
      (listed (
      (assign (dot (obj 2 19) 0 7) (var 3 7)) ∷ [])) ∷
      (listed (
      (built_in (str (plain (var 4 4)) (var 5 7))) ∷ [])) ∷
      (listed (
      (try_on (listed (
      (raise (expression (construct (class_id 2) (routine_id 2) (argued (value (quoted (codes "outer")) ∷ []))) (id 19) no_steps)) ∷ [])) (handlers (Some (variable_id 6)) (class_id 2) (block (listed (
      (try_on (listed (
      (raise (expression (construct (class_id 3) (routine_id 2) (argued (value (quoted (codes "inner")) ∷ []))) (id 20) no_steps)) ∷ [])) (handlers (Some (variable_id 7)) (class_id 3) (built_in (write (plain (dot (var 7 20) 0 7) ∷ plain (quoted (codes " in ")) ∷ plain (dot (var 6 19) 0 7) ∷ []) true)) no_handlers)) ∷
      (built_in (write (plain (dot (var 6 19) 0 7) ∷ []) true)) ∷ []))) no_handlers)) ∷ [])) ∷
      [])

  raise_nested_runs : outcome 4000 raise_nested ([]) ≡ ends_with (makes 32 ∷ makes 32 ∷ frees 2 ∷ frees 1 ∷ []) (said (codes "inner in outer") ++ said (codes "outer")) ([]) 0
  unfolding outcome
  raise_nested_runs = refl

  -- raise of nil is an error of its own
  abbrev raise_nil : Program
  raise_nil = program name
      (Class (class_id 0) ∷ Interface (interface_id 0) ∷ Class (class_id 1) ∷ Class (class_id 2) ∷ Class (class_id 3) ∷ Class (class_id 4) ∷ Class (class_id 5) ∷ Class (class_id 6) ∷ Class (class_id 7) ∷ Class (class_id 8) ∷ [])
      (part name 7 ∷ [])
      (row name 19 Plain None ∷ row name 16 ObjectRole None ∷ row name 16 ObjectRole None ∷ row name 19 ObjectRole None ∷ row name 7 (Parameter Const_) None ∷ row name 4 (Parameter Value) None ∷ row name 7 Result None ∷ [])
      (routine_row name (codes "create") Constructor (OfClass (class_id 0)) 0 None 1 1 ∷ routine_row name (codes "destroy") Destructor (OfClass (class_id 0)) 0 None 2 1 ∷ routine_row name (codes "create") Constructor (OfClass (class_id 2)) 1 None 3 2 ∷ routine_row name (codes "inttostr") FunctionKind OfUnit 1 (Some 7) 5 2 ∷ [])
      (class_row (codes "TObject") 16 None 0 0 0 2 0 0 ∷ class_row (codes "TInterfacedObject") 18 (Some (class_id 0)) 0 0 2 0 0 1 ∷ class_row (codes "Exception") 19 (Some (class_id 0)) 0 1 2 1 1 0 ∷ class_row (codes "EConvertError") 20 (Some (class_id 2)) 1 0 3 0 1 0 ∷ class_row (codes "EInvalidCast") 21 (Some (class_id 2)) 1 0 3 0 1 0 ∷ class_row (codes "EIntError") 22 (Some (class_id 2)) 1 0 3 0 1 0 ∷ class_row (codes "EDivByZero") 23 (Some (class_id 5)) 1 0 3 0 1 0 ∷ class_row (codes "ERangeError") 24 (Some (class_id 5)) 1 0 3 0 1 0 ∷ class_row (codes "EIntOverflow") 25 (Some (class_id 5)) 1 0 3 0 1 0 ∷ [])
      (interface_row (codes "iunknown") 17 None 3 0 ∷ [])
      (method_row 0 Static false ∷ method_row 1 VirtualBinding false ∷ method_row 2 Static false ∷ [])
      (interface_id 0 ∷ [])
      (variable_id 0 ∷ [])
      (Some (record { message = record { 0 = 0 }; exception = class_id 2; zero_divisor = class_id 6; range = class_id 7; overflow = class_id 8; cast = class_id 4 }))
      ((listed ([])) ∷
      (listed ([])) ∷
      (listed (
      (assign (dot (obj 3 19) 0 7) (var 4 7)) ∷ [])) ∷
      (listed (
      (built_in (str (plain (var 5 4)) (var 6 7))) ∷ [])) ∷
      (listed (
      (built_in (write (plain (quoted (codes "before")) ∷ []) true)) ∷
      (raise (var 0 19)) ∷ [])) ∷
      [])

  raise_nil_runs : outcome 4000 raise_nil ([]) ≡ ends_with [] (said (codes "before")) (said (codes "Runtime error 216")) 216
  unfolding outcome
  raise_nil_runs = refl

  -- A use of nil ends the program though a handler stands around it
  abbrev raise_not_raised : Program
  raise_not_raised = program name
      (Class (class_id 0) ∷ Interface (interface_id 0) ∷ Class (class_id 1) ∷ Class (class_id 2) ∷ Class (class_id 3) ∷ Class (class_id 4) ∷ Class (class_id 5) ∷ Class (class_id 6) ∷ Class (class_id 7) ∷ Class (class_id 8) ∷ Class (class_id 9) ∷ [])
      (part name 7 ∷ part name 4 ∷ [])
      (row name 26 Plain None ∷ row name 16 ObjectRole None ∷ row name 16 ObjectRole None ∷ row name 19 ObjectRole None ∷ row name 7 (Parameter Const_) None ∷ row name 4 (Parameter Value) None ∷ row name 7 Result None ∷ [])
      (routine_row name (codes "create") Constructor (OfClass (class_id 0)) 0 None 1 1 ∷ routine_row name (codes "destroy") Destructor (OfClass (class_id 0)) 0 None 2 1 ∷ routine_row name (codes "create") Constructor (OfClass (class_id 2)) 1 None 3 2 ∷ routine_row name (codes "inttostr") FunctionKind OfUnit 1 (Some 7) 5 2 ∷ [])
      (class_row (codes "TObject") 16 None 0 0 0 2 0 0 ∷ class_row (codes "TInterfacedObject") 18 (Some (class_id 0)) 0 0 2 0 0 1 ∷ class_row (codes "Exception") 19 (Some (class_id 0)) 0 1 2 1 1 0 ∷ class_row (codes "EConvertError") 20 (Some (class_id 2)) 1 0 3 0 1 0 ∷ class_row (codes "EInvalidCast") 21 (Some (class_id 2)) 1 0 3 0 1 0 ∷ class_row (codes "EIntError") 22 (Some (class_id 2)) 1 0 3 0 1 0 ∷ class_row (codes "EDivByZero") 23 (Some (class_id 5)) 1 0 3 0 1 0 ∷ class_row (codes "ERangeError") 24 (Some (class_id 5)) 1 0 3 0 1 0 ∷ class_row (codes "EIntOverflow") 25 (Some (class_id 5)) 1 0 3 0 1 0 ∷ class_row (codes "TA") 26 (Some (class_id 0)) 1 1 3 0 1 0 ∷ [])
      (interface_row (codes "iunknown") 17 None 3 0 ∷ [])
      (method_row 0 Static false ∷ method_row 1 VirtualBinding false ∷ method_row 2 Static false ∷ [])
      (interface_id 0 ∷ [])
      (variable_id 0 ∷ [])
      (Some (record { message = record { 0 = 0 }; exception = class_id 2; zero_divisor = class_id 6; range = class_id 7; overflow = class_id 8; cast = class_id 4 }))
      ((listed ([])) ∷
      (listed ([])) ∷
      (listed (
      (assign (dot (obj 3 19) 0 7) (var 4 7)) ∷ [])) ∷
      (listed (
      (built_in (str (plain (var 5 4)) (var 6 7))) ∷ [])) ∷
      (listed (
      (try_on_else (listed (
      (built_in (write (plain (quoted (codes "before")) ∷ []) true)) ∷
      (assign (dot (var 0 26) 1 4) (known (pos 1) 4)) ∷ [])) no_handlers (listed (
      (built_in (write (plain (quoted (codes "never")) ∷ []) true)) ∷ []))) ∷ [])) ∷
      [])

  raise_not_raised_runs : outcome 4000 raise_not_raised ([]) ≡ ends_with [] (said (codes "before")) (said (codes "Runtime error 216")) 216
  unfolding outcome
  raise_not_raised_runs = refl

  -- A temporary of the operand of raise is ended before the exception is under way.
  abbrev raise_operand_temporary : Program
  raise_operand_temporary = program name
      (Class (class_id 0) ∷ Interface (interface_id 0) ∷ Class (class_id 1) ∷ Class (class_id 2) ∷ [])
      []
      (row name 7 Plain None ∷ row name 16 ObjectRole None ∷ row name 16 ObjectRole None ∷ row name 19 ObjectRole None ∷ row name 7 (Parameter Const_) None ∷ [])
      (routine_row name (codes "create") Constructor (OfClass (class_id 0)) 0 None 1 1 ∷ routine_row name (codes "destroy") Destructor (OfClass (class_id 0)) 0 None 2 1 ∷ routine_row name (codes "create") Constructor (OfClass (class_id 2)) 1 None 3 2 ∷ [])
      (class_row (codes "TObject") 16 None 0 0 0 2 0 0 ∷ class_row (codes "TInterfacedObject") 18 (Some (class_id 0)) 0 0 2 0 0 1 ∷ class_row (codes "E") 19 (Some (class_id 0)) 0 0 2 1 1 0 ∷ [])
      (interface_row (codes "iunknown") 17 None 3 0 ∷ [])
      (method_row 0 Static false ∷ method_row 1 VirtualBinding false ∷ method_row 2 Static false ∷ [])
      (interface_id 0 ∷ [])
      (variable_id 0 ∷ [])
      None
      ((listed ([])) ∷
      (listed ([])) ∷
      (listed ([])) ∷
      (listed (
      (assign (var 0 7) (quoted (codes "x"))) ∷
      (try_on_else (listed (
      (raise (expression (construct (class_id 2) (routine_id 2) (argued (value (with_q false 7 (quoted (codes "bad ")) Add (var 0 7)) ∷ []))) (id 19) no_steps)) ∷ [])) no_handlers (listed (
      (built_in (write (plain (known (pos 99) 6) ∷ []) true)) ∷ []))) ∷
      (built_in (write (plain (with_q false 7 (var 0 7) Add (quoted (codes "y"))) ∷ []) true)) ∷ [])) ∷
      [])

  raise_operand_temporary_runs : outcome 4000 raise_operand_temporary ([]) ≡ ends_with (asks 32 ∷ makes 16 ∷ frees 1 ∷ frees 2 ∷ asks 32 ∷ frees 3 ∷ []) (said (codes "c") ++ said (codes "xy")) ([]) 0
  unfolding outcome
  raise_operand_temporary_runs = refl

  -- Checked stores to subranges and enumerations raise
  abbrev raise_range : Program
  raise_range = program name
      (Class (class_id 0) ∷ Interface (interface_id 0) ∷ Class (class_id 1) ∷ Class (class_id 2) ∷ Class (class_id 3) ∷ Class (class_id 4) ∷ Class (class_id 5) ∷ Class (class_id 6) ∷ Class (class_id 7) ∷ Class (class_id 8) ∷ Subrange (id 4) (pos 1) (pos 9) ∷ Enumeration 2 ∷ [])
      (part name 7 ∷ [])
      (row name 26 Plain None ∷ row name 4 Plain None ∷ row name 27 Plain None ∷ row name 16 ObjectRole None ∷ row name 16 ObjectRole None ∷ row name 19 ObjectRole None ∷ row name 7 (Parameter Const_) None ∷ row name 4 (Parameter Value) None ∷ row name 7 Result None ∷ [])
      (routine_row name (codes "create") Constructor (OfClass (class_id 0)) 0 None 3 1 ∷ routine_row name (codes "destroy") Destructor (OfClass (class_id 0)) 0 None 4 1 ∷ routine_row name (codes "create") Constructor (OfClass (class_id 2)) 1 None 5 2 ∷ routine_row name (codes "inttostr") FunctionKind OfUnit 1 (Some 7) 7 2 ∷ [])
      (class_row (codes "TObject") 16 None 0 0 0 2 0 0 ∷ class_row (codes "TInterfacedObject") 18 (Some (class_id 0)) 0 0 2 0 0 1 ∷ class_row (codes "Exception") 19 (Some (class_id 0)) 0 1 2 1 1 0 ∷ class_row (codes "EConvertError") 20 (Some (class_id 2)) 1 0 3 0 1 0 ∷ class_row (codes "EInvalidCast") 21 (Some (class_id 2)) 1 0 3 0 1 0 ∷ class_row (codes "EIntError") 22 (Some (class_id 2)) 1 0 3 0 1 0 ∷ class_row (codes "EDivByZero") 23 (Some (class_id 5)) 1 0 3 0 1 0 ∷ class_row (codes "ERangeError") 24 (Some (class_id 5)) 1 0 3 0 1 0 ∷ class_row (codes "EIntOverflow") 25 (Some (class_id 5)) 1 0 3 0 1 0 ∷ [])
      (interface_row (codes "iunknown") 17 None 3 0 ∷ [])
      (method_row 0 Static false ∷ method_row 1 VirtualBinding false ∷ method_row 2 Static false ∷ [])
      (interface_id 0 ∷ [])
      (variable_id 0 ∷ variable_id 1 ∷ variable_id 2 ∷ [])
      (Some (record { message = record { 0 = 0 }; exception = class_id 2; zero_divisor = class_id 6; range = class_id 7; overflow = class_id 8; cast = class_id 4 }))
      ((listed ([])) ∷
      (listed ([])) ∷
      (listed (
      (assign (dot (obj 5 19) 0 7) (var 6 7)) ∷ [])) ∷
      (listed (
      (built_in (str (plain (var 7 4)) (var 8 7))) ∷ [])) ∷
      (listed (
      (assign (var 1 4) (known (pos 10) 4)) ∷
      (assign (var 0 26) (to Check 26 (known (pos 9) 4))) ∷
      (try_on (listed (
      (assign (var 0 26) (to Check 26 (var 1 4))) ∷ [])) (handlers None (class_id 7) (built_in (write (plain (quoted (codes "x ")) ∷ plain (var 0 26) ∷ []) true)) no_handlers)) ∷
      (assign (var 2 27) (known (pos 1) 27)) ∷
      (try_on (listed (
      (built_in (count To (target_at (var 2 27) Check) (known (pos 1) 4) false)) ∷ [])) (handlers None (class_id 7) (built_in (write (plain (quoted (codes "c ")) ∷ plain (to Keep 4 (var 2 27)) ∷ []) true)) no_handlers)) ∷
      (try_on (listed (
      (built_in (write (plain (applying Length false (then (quoted (codes "abc")) (copy (known (pos 1) 4) (var 0 26)) (id 7)) 4) ∷ []) true)) ∷
      (assign (var 0 26) (to Check 26 (with_q false 4 (to Keep 4 (var 0 26)) Add (known (pos 1) 4)))) ∷ [])) (handlers None (class_id 7) (built_in (write (plain (quoted (codes "r ")) ∷ plain (var 0 26) ∷ []) true)) no_handlers)) ∷ [])) ∷
      [])

  raise_range_runs : outcome 4000 raise_range ([]) ≡ ends_with (makes 32 ∷ frees 1 ∷ makes 32 ∷ frees 2 ∷ asks 32 ∷ frees 3 ∷ makes 32 ∷ frees 4 ∷ []) (said (codes "x 9") ++ said (codes "c 1") ++ said (codes "3") ++ said (codes "r 9")) ([]) 0
  unfolding outcome
  raise_range_runs = refl

  -- A function that an exception leaves gives nothing: the result that it had goes
  abbrev raise_result : Program
  raise_result = program name
      (Class (class_id 0) ∷ Interface (interface_id 0) ∷ Class (class_id 1) ∷ Class (class_id 2) ∷ Class (class_id 3) ∷ Class (class_id 4) ∷ Class (class_id 5) ∷ Class (class_id 6) ∷ Class (class_id 7) ∷ Class (class_id 8) ∷ Class (class_id 9) ∷ [])
      (part name 7 ∷ [])
      (row name 17 Plain None ∷ row name 16 ObjectRole None ∷ row name 16 ObjectRole None ∷ row name 19 ObjectRole None ∷ row name 7 (Parameter Const_) None ∷ row name 4 (Parameter Value) None ∷ row name 7 Result None ∷ row name 26 ObjectRole None ∷ row name 17 Result None ∷ row name 20 Handler None ∷ [])
      (routine_row name (codes "create") Constructor (OfClass (class_id 0)) 0 None 1 1 ∷ routine_row name (codes "destroy") Destructor (OfClass (class_id 0)) 0 None 2 1 ∷ routine_row name (codes "create") Constructor (OfClass (class_id 2)) 1 None 3 2 ∷ routine_row name (codes "inttostr") FunctionKind OfUnit 1 (Some 7) 5 2 ∷ routine_row name (codes "destroy") Destructor (OfClass (class_id 9)) 0 None 7 1 ∷ routine_row name (codes "f") FunctionKind OfUnit 0 (Some 17) 8 1 ∷ [])
      (class_row (codes "TObject") 16 None 0 0 0 2 0 0 ∷ class_row (codes "TInterfacedObject") 18 (Some (class_id 0)) 0 0 2 0 0 1 ∷ class_row (codes "Exception") 19 (Some (class_id 0)) 0 1 2 1 1 0 ∷ class_row (codes "EConvertError") 20 (Some (class_id 2)) 1 0 3 0 1 0 ∷ class_row (codes "EInvalidCast") 21 (Some (class_id 2)) 1 0 3 0 1 0 ∷ class_row (codes "EIntError") 22 (Some (class_id 2)) 1 0 3 0 1 0 ∷ class_row (codes "EDivByZero") 23 (Some (class_id 5)) 1 0 3 0 1 0 ∷ class_row (codes "ERangeError") 24 (Some (class_id 5)) 1 0 3 0 1 0 ∷ class_row (codes "EIntOverflow") 25 (Some (class_id 5)) 1 0 3 0 1 0 ∷ class_row (codes "TA") 26 (Some (class_id 1)) 1 0 3 1 1 0 ∷ [])
      (interface_row (codes "iunknown") 17 None 4 0 ∷ [])
      (method_row 0 Static false ∷ method_row 1 VirtualBinding false ∷ method_row 2 Static false ∷ method_row 4 Override false ∷ [])
      (interface_id 0 ∷ [])
      (variable_id 0 ∷ [])
      (Some (record { message = record { 0 = 0 }; exception = class_id 2; zero_divisor = class_id 6; range = class_id 7; overflow = class_id 8; cast = class_id 4 }))
      ((listed ([])) ∷
      (listed ([])) ∷
      (listed (
      (assign (dot (obj 3 19) 0 7) (var 4 7)) ∷ [])) ∷
      (listed (
      (built_in (str (plain (var 5 4)) (var 6 7))) ∷ [])) ∷
      (listed (
      (built_in (write (plain (quoted (codes "gone")) ∷ []) true)) ∷ [])) ∷
      (listed (
      (assign (var 8 17) (to ToInterface 17 (expression (construct (class_id 9) (routine_id 0) (argued [])) (id 26) no_steps))) ∷
      (raise (expression (construct (class_id 3) (routine_id 2) (argued (value (quoted (codes "bad")) ∷ []))) (id 20) no_steps)) ∷ [])) ∷
      (listed (
      (try_on (listed (
      (assign (var 0 17) (expression (call_of (routine_id 5) (argued [])) (id 17) no_steps)) ∷ [])) (handlers (Some (variable_id 9)) (class_id 3) (built_in (write (plain (dot (var 9 20) 0 7) ∷ []) true)) no_handlers)) ∷
      (built_in (write (plain (with_q false 5 (var 0 17) NotEqual (to Keep 17 nothing)) ∷ []) true)) ∷ [])) ∷
      [])

  raise_result_runs : outcome 4000 raise_result ([]) ≡ ends_with (makes 16 ∷ makes 32 ∷ frees 1 ∷ frees 2 ∷ []) (said (codes "gone") ++ said (codes "bad") ++ said (codes "FALSE")) ([]) 0
  unfolding outcome
  raise_result_runs = refl

  -- The temporaries of a statement that an exception leaves go before the handler begins
  abbrev raise_temporaries : Program
  raise_temporaries = program name
      (Class (class_id 0) ∷ Interface (interface_id 0) ∷ Class (class_id 1) ∷ Class (class_id 2) ∷ Class (class_id 3) ∷ Class (class_id 4) ∷ Class (class_id 5) ∷ Class (class_id 6) ∷ Class (class_id 7) ∷ Class (class_id 8) ∷ Class (class_id 9) ∷ [])
      (part name 7 ∷ part name 4 ∷ [])
      (row name 16 ObjectRole None ∷ row name 16 ObjectRole None ∷ row name 19 ObjectRole None ∷ row name 7 (Parameter Const_) None ∷ row name 4 (Parameter Value) None ∷ row name 7 Result None ∷ row name 26 ObjectRole None ∷ row name 4 (Parameter Value) None ∷ row name 26 ObjectRole None ∷ row name 4 (Parameter Value) None ∷ row name 17 Result None ∷ row name 17 (Parameter Value) None ∷ row name 17 (Parameter Value) None ∷ row name 17 (Parameter Value) None ∷ row name 19 Handler None ∷ [])
      (routine_row name (codes "create") Constructor (OfClass (class_id 0)) 0 None 0 1 ∷ routine_row name (codes "destroy") Destructor (OfClass (class_id 0)) 0 None 1 1 ∷ routine_row name (codes "create") Constructor (OfClass (class_id 2)) 1 None 2 2 ∷ routine_row name (codes "inttostr") FunctionKind OfUnit 1 (Some 7) 4 2 ∷ routine_row name (codes "create") Constructor (OfClass (class_id 9)) 1 None 6 2 ∷ routine_row name (codes "destroy") Destructor (OfClass (class_id 9)) 0 None 8 1 ∷ routine_row name (codes "make") FunctionKind OfUnit 1 (Some 17) 9 2 ∷ routine_row name (codes "p") Procedure OfUnit 3 None 11 3 ∷ [])
      (class_row (codes "TObject") 16 None 0 0 0 2 0 0 ∷ class_row (codes "TInterfacedObject") 18 (Some (class_id 0)) 0 0 2 0 0 1 ∷ class_row (codes "Exception") 19 (Some (class_id 0)) 0 1 2 1 1 0 ∷ class_row (codes "EConvertError") 20 (Some (class_id 2)) 1 0 3 0 1 0 ∷ class_row (codes "EInvalidCast") 21 (Some (class_id 2)) 1 0 3 0 1 0 ∷ class_row (codes "EIntError") 22 (Some (class_id 2)) 1 0 3 0 1 0 ∷ class_row (codes "EDivByZero") 23 (Some (class_id 5)) 1 0 3 0 1 0 ∷ class_row (codes "ERangeError") 24 (Some (class_id 5)) 1 0 3 0 1 0 ∷ class_row (codes "EIntOverflow") 25 (Some (class_id 5)) 1 0 3 0 1 0 ∷ class_row (codes "TA") 26 (Some (class_id 1)) 1 1 3 2 1 0 ∷ [])
      (interface_row (codes "iunknown") 17 None 5 0 ∷ [])
      (method_row 0 Static false ∷ method_row 1 VirtualBinding false ∷ method_row 2 Static false ∷ method_row 4 Static false ∷ method_row 5 Override false ∷ [])
      (interface_id 0 ∷ [])
      []
      (Some (record { message = record { 0 = 0 }; exception = class_id 2; zero_divisor = class_id 6; range = class_id 7; overflow = class_id 8; cast = class_id 4 }))
      ((listed ([])) ∷
      (listed ([])) ∷
      (listed (
      (assign (dot (obj 2 19) 0 7) (var 3 7)) ∷ [])) ∷
      (listed (
      (built_in (str (plain (var 4 4)) (var 5 7))) ∷ [])) ∷
      (listed (
      (assign (dot (obj 6 26) 1 4) (var 7 4)) ∷ [])) ∷
      (listed (
      (built_in (write (plain (quoted (codes "gone ")) ∷ plain (dot (obj 8 26) 1 4) ∷ []) true)) ∷
      (call (then (obj 8 26) (method (routine_id 1) Direct (argued [])) (id 9))) ∷ [])) ∷
      (listed (
      (assign (var 10 17) (to ToInterface 17 (expression (construct (class_id 9) (routine_id 4) (argued (value (var 9 4) ∷ []))) (id 26) no_steps))) ∷
      (if_then (with_q false 5 (var 9 4) Equal (known (pos 3) 4)) (raise (expression (construct (class_id 2) (routine_id 2) (argued (value (quoted (codes "three")) ∷ []))) (id 19) no_steps))) ∷ [])) ∷
      (listed (
      (built_in (write (plain (quoted (codes "never")) ∷ []) true)) ∷ [])) ∷
      (listed (
      (try_on (listed (
      (call (expression (call_of (routine_id 7) (argued (value (expression (call_of (routine_id 6) (argued (value (known (pos 1) 4) ∷ []))) (id 17) no_steps) ∷ value (expression (call_of (routine_id 6) (argued (value (known (pos 2) 4) ∷ []))) (id 17) no_steps) ∷ value (expression (call_of (routine_id 6) (argued (value (known (pos 3) 4) ∷ []))) (id 17) no_steps) ∷ []))) (id 9) no_steps)) ∷ [])) (handlers (Some (variable_id 14)) (class_id 2) (built_in (write (plain (dot (var 14 19) 0 7) ∷ []) true)) no_handlers)) ∷ [])) ∷
      [])

  raise_temporaries_runs : outcome 4000 raise_temporaries ([]) ≡ ends_with (makes 32 ∷ makes 32 ∷ makes 32 ∷ makes 32 ∷ frees 3 ∷ frees 2 ∷ frees 1 ∷ frees 4 ∷ []) (said (codes "gone 3") ++ said (codes "gone 2") ++ said (codes "gone 1") ++ said (codes "three")) ([]) 0
  unfolding outcome
  raise_temporaries_runs = refl

  -- Texts half made when an exception comes; the variable keeps its old value
  abbrev raise_text_temporaries : Program
  raise_text_temporaries = program name
      (Class (class_id 0) ∷ Interface (interface_id 0) ∷ Class (class_id 1) ∷ Class (class_id 2) ∷ Class (class_id 3) ∷ Class (class_id 4) ∷ Class (class_id 5) ∷ Class (class_id 6) ∷ Class (class_id 7) ∷ Class (class_id 8) ∷ [])
      (part name 7 ∷ [])
      (row name 7 Plain None ∷ row name 7 Plain None ∷ row name 16 ObjectRole None ∷ row name 16 ObjectRole None ∷ row name 19 ObjectRole None ∷ row name 7 (Parameter Const_) None ∷ row name 4 (Parameter Value) None ∷ row name 7 Result None ∷ row name 4 (Parameter Value) None ∷ row name 7 Result None ∷ row name 19 Handler None ∷ [])
      (routine_row name (codes "create") Constructor (OfClass (class_id 0)) 0 None 2 1 ∷ routine_row name (codes "destroy") Destructor (OfClass (class_id 0)) 0 None 3 1 ∷ routine_row name (codes "create") Constructor (OfClass (class_id 2)) 1 None 4 2 ∷ routine_row name (codes "inttostr") FunctionKind OfUnit 1 (Some 7) 6 2 ∷ routine_row name (codes "f") FunctionKind OfUnit 1 (Some 7) 8 2 ∷ [])
      (class_row (codes "TObject") 16 None 0 0 0 2 0 0 ∷ class_row (codes "TInterfacedObject") 18 (Some (class_id 0)) 0 0 2 0 0 1 ∷ class_row (codes "Exception") 19 (Some (class_id 0)) 0 1 2 1 1 0 ∷ class_row (codes "EConvertError") 20 (Some (class_id 2)) 1 0 3 0 1 0 ∷ class_row (codes "EInvalidCast") 21 (Some (class_id 2)) 1 0 3 0 1 0 ∷ class_row (codes "EIntError") 22 (Some (class_id 2)) 1 0 3 0 1 0 ∷ class_row (codes "EDivByZero") 23 (Some (class_id 5)) 1 0 3 0 1 0 ∷ class_row (codes "ERangeError") 24 (Some (class_id 5)) 1 0 3 0 1 0 ∷ class_row (codes "EIntOverflow") 25 (Some (class_id 5)) 1 0 3 0 1 0 ∷ [])
      (interface_row (codes "iunknown") 17 None 3 0 ∷ [])
      (method_row 0 Static false ∷ method_row 1 VirtualBinding false ∷ method_row 2 Static false ∷ [])
      (interface_id 0 ∷ [])
      (variable_id 0 ∷ variable_id 1 ∷ [])
      (Some (record { message = record { 0 = 0 }; exception = class_id 2; zero_divisor = class_id 6; range = class_id 7; overflow = class_id 8; cast = class_id 4 }))
      ((listed ([])) ∷
      (listed ([])) ∷
      (listed (
      (assign (dot (obj 4 19) 0 7) (var 5 7)) ∷ [])) ∷
      (listed (
      (built_in (str (plain (var 6 4)) (var 7 7))) ∷ [])) ∷
      (listed (
      (assign (var 9 7) (with_q false 7 (var 1 7) Add (quoted (codes "f")))) ∷
      (if_then (with_q false 5 (var 8 4) Equal (known (pos 2) 4)) (raise (expression (construct (class_id 2) (routine_id 2) (argued (value (with_q false 7 (quoted (codes "at ")) Add (var 9 7)) ∷ []))) (id 19) no_steps))) ∷ [])) ∷
      (listed (
      (assign (var 1 7) (quoted (codes "x"))) ∷
      (assign (var 0 7) (with_q false 7 (var 1 7) Add (quoted (codes "!")))) ∷
      (try_on (listed (
      (assign (var 0 7) (with_q false 7 (expression (call_of (routine_id 4) (argued (value (known (pos 1) 4) ∷ []))) (id 7) no_steps) Add (expression (call_of (routine_id 4) (argued (value (known (pos 2) 4) ∷ []))) (id 7) no_steps))) ∷ [])) (handlers (Some (variable_id 10)) (class_id 2) (built_in (write (plain (dot (var 10 19) 0 7) ∷ []) true)) no_handlers)) ∷
      (built_in (write (plain (var 0 7) ∷ []) true)) ∷ [])) ∷
      [])

  raise_text_temporaries_runs : outcome 4000 raise_text_temporaries ([]) ≡ ends_with (asks 32 ∷ asks 32 ∷ asks 32 ∷ asks 32 ∷ makes 32 ∷ frees 3 ∷ frees 2 ∷ frees 4 ∷ frees 5 ∷ frees 1 ∷ []) (said (codes "at xf") ++ said (codes "x!")) ([]) 0
  unfolding outcome
  raise_text_temporaries_runs = refl

  -- An exception ends the locals of the calls that it leaves
  abbrev raise_through_calls : Program
  raise_through_calls = program name
      (Class (class_id 0) ∷ Interface (interface_id 0) ∷ Class (class_id 1) ∷ Class (class_id 2) ∷ Class (class_id 3) ∷ Class (class_id 4) ∷ Class (class_id 5) ∷ Class (class_id 6) ∷ Class (class_id 7) ∷ Class (class_id 8) ∷ Class (class_id 9) ∷ [])
      (part name 7 ∷ part name 4 ∷ [])
      (row name 16 ObjectRole None ∷ row name 16 ObjectRole None ∷ row name 19 ObjectRole None ∷ row name 7 (Parameter Const_) None ∷ row name 4 (Parameter Value) None ∷ row name 7 Result None ∷ row name 26 ObjectRole None ∷ row name 4 (Parameter Value) None ∷ row name 26 ObjectRole None ∷ row name 4 (Parameter Value) None ∷ row name 17 Plain None ∷ row name 19 Handler None ∷ [])
      (routine_row name (codes "create") Constructor (OfClass (class_id 0)) 0 None 0 1 ∷ routine_row name (codes "destroy") Destructor (OfClass (class_id 0)) 0 None 1 1 ∷ routine_row name (codes "create") Constructor (OfClass (class_id 2)) 1 None 2 2 ∷ routine_row name (codes "inttostr") FunctionKind OfUnit 1 (Some 7) 4 2 ∷ routine_row name (codes "create") Constructor (OfClass (class_id 9)) 1 None 6 2 ∷ routine_row name (codes "destroy") Destructor (OfClass (class_id 9)) 0 None 8 1 ∷ routine_row name (codes "p") Procedure OfUnit 1 None 9 2 ∷ [])
      (class_row (codes "TObject") 16 None 0 0 0 2 0 0 ∷ class_row (codes "TInterfacedObject") 18 (Some (class_id 0)) 0 0 2 0 0 1 ∷ class_row (codes "Exception") 19 (Some (class_id 0)) 0 1 2 1 1 0 ∷ class_row (codes "EConvertError") 20 (Some (class_id 2)) 1 0 3 0 1 0 ∷ class_row (codes "EInvalidCast") 21 (Some (class_id 2)) 1 0 3 0 1 0 ∷ class_row (codes "EIntError") 22 (Some (class_id 2)) 1 0 3 0 1 0 ∷ class_row (codes "EDivByZero") 23 (Some (class_id 5)) 1 0 3 0 1 0 ∷ class_row (codes "ERangeError") 24 (Some (class_id 5)) 1 0 3 0 1 0 ∷ class_row (codes "EIntOverflow") 25 (Some (class_id 5)) 1 0 3 0 1 0 ∷ class_row (codes "TA") 26 (Some (class_id 1)) 1 1 3 2 1 0 ∷ [])
      (interface_row (codes "iunknown") 17 None 5 0 ∷ [])
      (method_row 0 Static false ∷ method_row 1 VirtualBinding false ∷ method_row 2 Static false ∷ method_row 4 Static false ∷ method_row 5 Override false ∷ [])
      (interface_id 0 ∷ [])
      []
      (Some (record { message = record { 0 = 0 }; exception = class_id 2; zero_divisor = class_id 6; range = class_id 7; overflow = class_id 8; cast = class_id 4 }))
      ((listed ([])) ∷
      (listed ([])) ∷
      (listed (
      (assign (dot (obj 2 19) 0 7) (var 3 7)) ∷ [])) ∷
      (listed (
      (built_in (str (plain (var 4 4)) (var 5 7))) ∷ [])) ∷
      (listed (
      (assign (dot (obj 6 26) 1 4) (var 7 4)) ∷ [])) ∷
      (listed (
      (built_in (write (plain (quoted (codes "gone ")) ∷ plain (dot (obj 8 26) 1 4) ∷ []) true)) ∷
      (call (then (obj 8 26) (method (routine_id 1) Direct (argued [])) (id 9))) ∷ [])) ∷
      (listed (
      (assign (var 10 17) (to ToInterface 17 (expression (construct (class_id 9) (routine_id 4) (argued (value (var 9 4) ∷ []))) (id 26) no_steps))) ∷
      (if_then (with_q false 5 (var 9 4) Equal (known (pos 3) 4)) (raise (expression (construct (class_id 2) (routine_id 2) (argued (value (quoted (codes "deep")) ∷ []))) (id 19) no_steps))) ∷
      (call (expression (call_of (routine_id 6) (argued (value (with_q false 4 (var 9 4) Add (known (pos 1) 4)) ∷ []))) (id 9) no_steps)) ∷
      (built_in (write (plain (quoted (codes "never")) ∷ []) true)) ∷ [])) ∷
      (listed (
      (try_on (listed (
      (call (expression (call_of (routine_id 6) (argued (value (known (pos 1) 4) ∷ []))) (id 9) no_steps)) ∷ [])) (handlers (Some (variable_id 11)) (class_id 2) (built_in (write (plain (dot (var 11 19) 0 7) ∷ []) true)) no_handlers)) ∷ [])) ∷
      [])

  raise_through_calls_runs : outcome 4000 raise_through_calls ([]) ≡ ends_with (makes 32 ∷ makes 32 ∷ makes 32 ∷ makes 32 ∷ frees 3 ∷ frees 2 ∷ frees 1 ∷ frees 4 ∷ []) (said (codes "gone 3") ++ said (codes "gone 2") ++ said (codes "gone 1") ++ said (codes "deep")) ([]) 0
  unfolding outcome
  raise_through_calls_runs = refl

  -- Exceptions through activations that hold interfaces whose destructors raise and handle; for in, Continue.
  abbrev raise_through_interfaces : Program
  raise_through_interfaces = program name
      (Class (class_id 0) ∷ Interface (interface_id 0) ∷ Class (class_id 1) ∷ Class (class_id 2) ∷ Interface (interface_id 1) ∷ Class (class_id 3) ∷ DynamicArray (id 20) ∷ [])
      (part name 4 ∷ [])
      (row name 4 Plain None ∷ row name 7 Plain None ∷ row name 22 Plain None ∷ row name 20 Plain None ∷ row name 16 ObjectRole None ∷ row name 16 ObjectRole None ∷ row name 19 ObjectRole None ∷ row name 4 (Parameter Value) None ∷ row name 19 ObjectRole None ∷ row name 21 ObjectRole None ∷ row name 19 Handler None ∷ row name 20 Result None ∷ row name 20 (Parameter Const_) None ∷ row name 7 (Parameter Const_) None ∷ row name 4 (Parameter Value) None ∷ row name 20 Plain None ∷ row name 19 Handler None ∷ row name 19 Handler None ∷ [])
      (routine_row name (codes "create") Constructor (OfClass (class_id 0)) 0 None 4 1 ∷ routine_row name (codes "destroy") Destructor (OfClass (class_id 0)) 0 None 5 1 ∷ routine_row name (codes "create") Constructor (OfClass (class_id 2)) 1 None 6 2 ∷ routine_row name (codes "destroy") Destructor (OfClass (class_id 2)) 0 None 8 1 ∷ routine_row name (codes "destroy") Destructor (OfClass (class_id 3)) 0 None 9 2 ∷ routine_row name (codes "mk") FunctionKind OfUnit 0 (Some 20) 11 1 ∷ routine_row name (codes "r") Procedure OfUnit 3 None 12 4 ∷ [])
      (class_row (codes "TObject") 16 None 0 0 0 2 0 0 ∷ class_row (codes "TInterfacedObject") 18 (Some (class_id 0)) 0 0 2 0 0 1 ∷ class_row (codes "E") 19 (Some (class_id 0)) 0 1 2 2 1 0 ∷ class_row (codes "TT") 21 (Some (class_id 1)) 1 0 4 1 1 1 ∷ [])
      (interface_row (codes "iunknown") 17 None 5 0 ∷ interface_row (codes "ii") 20 (Some (interface_id 0)) 5 0 ∷ [])
      (method_row 0 Static false ∷ method_row 1 VirtualBinding false ∷ method_row 2 Static false ∷ method_row 3 Override false ∷ method_row 4 Override false ∷ [])
      (interface_id 0 ∷ interface_id 1 ∷ [])
      (variable_id 0 ∷ variable_id 1 ∷ variable_id 2 ∷ variable_id 3 ∷ [])
      None
      ((listed ([])) ∷
      (listed ([])) ∷
      (listed (
      (assign (dot (obj 6 19) 0 4) (var 7 4)) ∷ [])) ∷
      (listed (
      (built_in (write (plain (known (pos 100) 6) ∷ plain (dot (obj 8 19) 0 4) ∷ []) true)) ∷
      (call (then (obj 8 19) (method (routine_id 1) Direct (argued [])) (id 9))) ∷ [])) ∷
      (listed (
      (try_on (listed (
      (raise (expression (construct (class_id 2) (routine_id 2) (argued (value (known (pos 7) 4) ∷ []))) (id 19) no_steps)) ∷ [])) (handlers (Some (variable_id 10)) (class_id 2) (built_in (write (plain (quoted (codes "in ")) ∷ plain (dot (var 10 19) 0 4) ∷ []) true)) no_handlers)) ∷
      (call (then (obj 9 21) (method (routine_id 1) Direct (argued [])) (id 9))) ∷ [])) ∷
      (listed (
      (assign (var 11 20) (to ToInterface 20 (expression (construct (class_id 3) (routine_id 0) (argued [])) (id 21) no_steps))) ∷ [])) ∷
      (listed (
      (assign (var 15 20) (expression (call_of (routine_id 5) (argued [])) (id 20) no_steps)) ∷
      (if_else (with_q false 5 (var 14 4) Greater (known (pos 0) 4)) (call (expression (call_of (routine_id 6) (argued (value (var 15 20) ∷ value (with_q false 7 (var 13 7) Add (quoted (codes "x"))) ∷ value (with_q false 4 (var 14 4) Subtract (known (pos 1) 4)) ∷ []))) (id 9) no_steps)) (raise (expression (construct (class_id 2) (routine_id 2) (argued (value (applying Length false (var 13 7) 4) ∷ []))) (id 19) no_steps))) ∷ [])) ∷
      (listed (
      (try_on (listed (
      (built_in (set_length (var 2 22) (known (pos 2) 4))) ∷
      (assign (at (var 2 22) (known (pos 0) 4) 20) (expression (call_of (routine_id 5) (argued [])) (id 20) no_steps)) ∷
      (assign (at (var 2 22) (known (pos 1) 4) 20) (expression (call_of (routine_id 5) (argued [])) (id 20) no_steps)) ∷
      (for_in (variable_id 3) Keep (var 2 22) (for_to (variable_id 0) (known (pos 1) 4) To (known (pos 2) 4) (try_on (listed (
      (try_finally (listed (
      (call (expression (call_of (routine_id 6) (argued (value (expression (call_of (routine_id 5) (argued [])) (id 20) no_steps) ∷ value (quoted (codes "y")) ∷ value (known (pos 1) 4) ∷ []))) (id 9) no_steps)) ∷ [])) (listed (
      (if_then (with_q false 5 (var 0 4) Equal (known (pos 2) 4)) (built_in (write (plain (quoted (codes "two")) ∷ []) true))) ∷ []))) ∷ [])) (handlers (Some (variable_id 16)) (class_id 2) (block (listed (
      (if_then (with_q false 5 (var 0 4) NotEqual (known (pos 2) 4)) (continue)) ∷
      (reraise) ∷ []))) no_handlers)))) ∷ [])) (handlers (Some (variable_id 17)) (class_id 2) (block (listed (
      (built_in (write (plain (quoted (codes "out ")) ∷ plain (dot (var 17 19) 0 4) ∷ []) true)) ∷
      (raise (var 17 19)) ∷ []))) no_handlers)) ∷ [])) ∷
      [])

  raise_through_interfaces_runs : outcome 4000 raise_through_interfaces ([]) ≡ ends_with (asks 32 ∷ makes 16 ∷ makes 16 ∷ makes 16 ∷ makes 16 ∷ asks 32 ∷ makes 16 ∷ makes 32 ∷ makes 32 ∷ frees 9 ∷ frees 7 ∷ frees 6 ∷ makes 32 ∷ frees 10 ∷ frees 5 ∷ makes 32 ∷ frees 11 ∷ frees 4 ∷ frees 8 ∷ makes 16 ∷ makes 16 ∷ asks 32 ∷ makes 16 ∷ makes 32 ∷ makes 32 ∷ frees 17 ∷ frees 15 ∷ frees 14 ∷ makes 32 ∷ frees 18 ∷ frees 13 ∷ makes 32 ∷ frees 19 ∷ frees 12 ∷ makes 32 ∷ frees 20 ∷ frees 3 ∷ frees 1 ∷ makes 32 ∷ frees 21 ∷ frees 2 ∷ []) (said (codes "in 7") ++ said (codes "d7") ++ said (codes "in 7") ++ said (codes "d7") ++ said (codes "in 7") ++ said (codes "d7") ++ said (codes "d2") ++ said (codes "in 7") ++ said (codes "d7") ++ said (codes "in 7") ++ said (codes "d7") ++ said (codes "in 7") ++ said (codes "d7") ++ said (codes "two") ++ said (codes "out 2") ++ said (codes "in 7") ++ said (codes "d7") ++ said (codes "in 7") ++ said (codes "d7")) (said (codes "Unhandled E: ")) 217
  unfolding outcome
  raise_through_interfaces_runs = refl

  -- An unhandled exception runs the finally parts, then the globals go
  abbrev raise_unhandled : Program
  raise_unhandled = program name
      (Class (class_id 0) ∷ Interface (interface_id 0) ∷ Class (class_id 1) ∷ Class (class_id 2) ∷ Class (class_id 3) ∷ Class (class_id 4) ∷ Class (class_id 5) ∷ Class (class_id 6) ∷ Class (class_id 7) ∷ Class (class_id 8) ∷ Class (class_id 9) ∷ Class (class_id 10) ∷ [])
      (part name 7 ∷ [])
      (row name 17 Plain None ∷ row name 16 ObjectRole None ∷ row name 16 ObjectRole None ∷ row name 19 ObjectRole None ∷ row name 7 (Parameter Const_) None ∷ row name 4 (Parameter Value) None ∷ row name 7 Result None ∷ row name 27 ObjectRole None ∷ [])
      (routine_row name (codes "create") Constructor (OfClass (class_id 0)) 0 None 1 1 ∷ routine_row name (codes "destroy") Destructor (OfClass (class_id 0)) 0 None 2 1 ∷ routine_row name (codes "create") Constructor (OfClass (class_id 2)) 1 None 3 2 ∷ routine_row name (codes "inttostr") FunctionKind OfUnit 1 (Some 7) 5 2 ∷ routine_row name (codes "destroy") Destructor (OfClass (class_id 10)) 0 None 7 1 ∷ [])
      (class_row (codes "TObject") 16 None 0 0 0 2 0 0 ∷ class_row (codes "TInterfacedObject") 18 (Some (class_id 0)) 0 0 2 0 0 1 ∷ class_row (codes "Exception") 19 (Some (class_id 0)) 0 1 2 1 1 0 ∷ class_row (codes "EConvertError") 20 (Some (class_id 2)) 1 0 3 0 1 0 ∷ class_row (codes "EInvalidCast") 21 (Some (class_id 2)) 1 0 3 0 1 0 ∷ class_row (codes "EIntError") 22 (Some (class_id 2)) 1 0 3 0 1 0 ∷ class_row (codes "EDivByZero") 23 (Some (class_id 5)) 1 0 3 0 1 0 ∷ class_row (codes "ERangeError") 24 (Some (class_id 5)) 1 0 3 0 1 0 ∷ class_row (codes "EIntOverflow") 25 (Some (class_id 5)) 1 0 3 0 1 0 ∷ class_row (codes "eown") 26 (Some (class_id 2)) 1 0 3 0 1 0 ∷ class_row (codes "TA") 27 (Some (class_id 1)) 1 0 3 1 1 0 ∷ [])
      (interface_row (codes "iunknown") 17 None 4 0 ∷ [])
      (method_row 0 Static false ∷ method_row 1 VirtualBinding false ∷ method_row 2 Static false ∷ method_row 4 Override false ∷ [])
      (interface_id 0 ∷ [])
      (variable_id 0 ∷ [])
      (Some (record { message = record { 0 = 0 }; exception = class_id 2; zero_divisor = class_id 6; range = class_id 7; overflow = class_id 8; cast = class_id 4 }))
      ((listed ([])) ∷
      (listed ([])) ∷
      (listed (
      (assign (dot (obj 3 19) 0 7) (var 4 7)) ∷ [])) ∷
      (listed (
      (built_in (str (plain (var 5 4)) (var 6 7))) ∷ [])) ∷
      (listed (
      (built_in (write (plain (quoted (codes "global gone")) ∷ []) true)) ∷
      (call (then (obj 7 27) (method (routine_id 1) Direct (argued [])) (id 9))) ∷ [])) ∷
      (listed (
      (assign (var 0 17) (to ToInterface 17 (expression (construct (class_id 10) (routine_id 0) (argued [])) (id 27) no_steps))) ∷
      (try_finally (listed (
      (raise (expression (construct (class_id 9) (routine_id 2) (argued (value (quoted (codes "why")) ∷ []))) (id 26) no_steps)) ∷ [])) (listed (
      (built_in (write (plain (quoted (codes "finally")) ∷ []) true)) ∷ []))) ∷
      (built_in (write (plain (quoted (codes "never")) ∷ []) true)) ∷ [])) ∷
      [])

  raise_unhandled_runs : outcome 4000 raise_unhandled ([]) ≡ ends_with (makes 16 ∷ makes 32 ∷ frees 1 ∷ []) (said (codes "finally") ++ said (codes "global gone")) (said (codes "Unhandled eown: why")) 217
  unfolding outcome
  raise_unhandled_runs = refl

  -- An unhandled exception leaves two calls: their finally parts run, the locals go
  abbrev raise_unhandled_in_call : Program
  raise_unhandled_in_call = program name
      (Class (class_id 0) ∷ Interface (interface_id 0) ∷ Class (class_id 1) ∷ Class (class_id 2) ∷ Class (class_id 3) ∷ Class (class_id 4) ∷ Class (class_id 5) ∷ Class (class_id 6) ∷ Class (class_id 7) ∷ Class (class_id 8) ∷ Class (class_id 9) ∷ [])
      (part name 7 ∷ [])
      (row name 16 ObjectRole None ∷ row name 16 ObjectRole None ∷ row name 19 ObjectRole None ∷ row name 7 (Parameter Const_) None ∷ row name 4 (Parameter Value) None ∷ row name 7 Result None ∷ row name 4 (Parameter Value) None ∷ row name 7 Plain None ∷ [])
      (routine_row name (codes "create") Constructor (OfClass (class_id 0)) 0 None 0 1 ∷ routine_row name (codes "destroy") Destructor (OfClass (class_id 0)) 0 None 1 1 ∷ routine_row name (codes "create") Constructor (OfClass (class_id 2)) 1 None 2 2 ∷ routine_row name (codes "inttostr") FunctionKind OfUnit 1 (Some 7) 4 2 ∷ routine_row name (codes "p") Procedure OfUnit 1 None 6 2 ∷ [])
      (class_row (codes "TObject") 16 None 0 0 0 2 0 0 ∷ class_row (codes "TInterfacedObject") 18 (Some (class_id 0)) 0 0 2 0 0 1 ∷ class_row (codes "Exception") 19 (Some (class_id 0)) 0 1 2 1 1 0 ∷ class_row (codes "EConvertError") 20 (Some (class_id 2)) 1 0 3 0 1 0 ∷ class_row (codes "EInvalidCast") 21 (Some (class_id 2)) 1 0 3 0 1 0 ∷ class_row (codes "EIntError") 22 (Some (class_id 2)) 1 0 3 0 1 0 ∷ class_row (codes "EDivByZero") 23 (Some (class_id 5)) 1 0 3 0 1 0 ∷ class_row (codes "ERangeError") 24 (Some (class_id 5)) 1 0 3 0 1 0 ∷ class_row (codes "EIntOverflow") 25 (Some (class_id 5)) 1 0 3 0 1 0 ∷ class_row (codes "eown") 26 (Some (class_id 2)) 1 0 3 0 1 0 ∷ [])
      (interface_row (codes "iunknown") 17 None 3 0 ∷ [])
      (method_row 0 Static false ∷ method_row 1 VirtualBinding false ∷ method_row 2 Static false ∷ [])
      (interface_id 0 ∷ [])
      []
      (Some (record { message = record { 0 = 0 }; exception = class_id 2; zero_divisor = class_id 6; range = class_id 7; overflow = class_id 8; cast = class_id 4 }))
      ((listed ([])) ∷
      (listed ([])) ∷
      (listed (
      (assign (dot (obj 2 19) 0 7) (var 3 7)) ∷ [])) ∷
      (listed (
      (built_in (str (plain (var 4 4)) (var 5 7))) ∷ [])) ∷
      (listed (
      (assign (var 7 7) (with_q false 7 (quoted (codes "level ")) Add (expression (call_of (routine_id 3) (argued (value (var 6 4) ∷ []))) (id 7) no_steps))) ∷
      (try_finally (listed (
      (if_then (with_q false 5 (var 6 4) Equal (known (pos 2) 4)) (raise (expression (construct (class_id 9) (routine_id 2) (argued (value (var 7 7) ∷ []))) (id 26) no_steps))) ∷
      (call (expression (call_of (routine_id 4) (argued (value (with_q false 4 (var 6 4) Add (known (pos 1) 4)) ∷ []))) (id 9) no_steps)) ∷ [])) (listed (
      (built_in (write (plain (var 7 7) ∷ []) true)) ∷ []))) ∷ [])) ∷
      (listed (
      (call (expression (call_of (routine_id 4) (argued (value (known (pos 1) 4) ∷ []))) (id 9) no_steps)) ∷ [])) ∷
      [])

  raise_unhandled_in_call_runs : outcome 4000 raise_unhandled_in_call ([]) ≡ ends_with (asks 32 ∷ asks 32 ∷ frees 1 ∷ asks 32 ∷ asks 32 ∷ frees 3 ∷ makes 32 ∷ frees 2 ∷ []) (said (codes "level 2") ++ said (codes "level 1")) (said (codes "Unhandled eown: level 2")) 217
  unfolding outcome
  raise_unhandled_in_call_runs = refl

  -- An error that is raised and that nobody handles
  abbrev raise_unhandled_range : Program
  raise_unhandled_range = program name
      (Class (class_id 0) ∷ Interface (interface_id 0) ∷ Class (class_id 1) ∷ Class (class_id 2) ∷ Class (class_id 3) ∷ Class (class_id 4) ∷ Class (class_id 5) ∷ Class (class_id 6) ∷ Class (class_id 7) ∷ Class (class_id 8) ∷ [])
      (part name 7 ∷ [])
      (row name 7 Plain None ∷ row name 4 Plain None ∷ row name 16 ObjectRole None ∷ row name 16 ObjectRole None ∷ row name 19 ObjectRole None ∷ row name 7 (Parameter Const_) None ∷ row name 4 (Parameter Value) None ∷ row name 7 Result None ∷ [])
      (routine_row name (codes "create") Constructor (OfClass (class_id 0)) 0 None 2 1 ∷ routine_row name (codes "destroy") Destructor (OfClass (class_id 0)) 0 None 3 1 ∷ routine_row name (codes "create") Constructor (OfClass (class_id 2)) 1 None 4 2 ∷ routine_row name (codes "inttostr") FunctionKind OfUnit 1 (Some 7) 6 2 ∷ [])
      (class_row (codes "TObject") 16 None 0 0 0 2 0 0 ∷ class_row (codes "TInterfacedObject") 18 (Some (class_id 0)) 0 0 2 0 0 1 ∷ class_row (codes "Exception") 19 (Some (class_id 0)) 0 1 2 1 1 0 ∷ class_row (codes "EConvertError") 20 (Some (class_id 2)) 1 0 3 0 1 0 ∷ class_row (codes "EInvalidCast") 21 (Some (class_id 2)) 1 0 3 0 1 0 ∷ class_row (codes "EIntError") 22 (Some (class_id 2)) 1 0 3 0 1 0 ∷ class_row (codes "EDivByZero") 23 (Some (class_id 5)) 1 0 3 0 1 0 ∷ class_row (codes "ERangeError") 24 (Some (class_id 5)) 1 0 3 0 1 0 ∷ class_row (codes "EIntOverflow") 25 (Some (class_id 5)) 1 0 3 0 1 0 ∷ [])
      (interface_row (codes "iunknown") 17 None 3 0 ∷ [])
      (method_row 0 Static false ∷ method_row 1 VirtualBinding false ∷ method_row 2 Static false ∷ [])
      (interface_id 0 ∷ [])
      (variable_id 0 ∷ variable_id 1 ∷ [])
      (Some (record { message = record { 0 = 0 }; exception = class_id 2; zero_divisor = class_id 6; range = class_id 7; overflow = class_id 8; cast = class_id 4 }))
      ((listed ([])) ∷
      (listed ([])) ∷
      (listed (
      (assign (dot (obj 4 19) 0 7) (var 5 7)) ∷ [])) ∷
      (listed (
      (built_in (str (plain (var 6 4)) (var 7 7))) ∷ [])) ∷
      (listed (
      (assign (var 1 4) (known (pos 3) 4)) ∷
      (assign (var 0 7) (quoted (codes "ab"))) ∷
      (try_finally (listed (
      (built_in (write (plain (at (var 0 7) (var 1 4) 6) ∷ []) true)) ∷ [])) (listed (
      (built_in (write (plain (quoted (codes "finally")) ∷ []) true)) ∷ []))) ∷ [])) ∷
      [])

  raise_unhandled_range_runs : outcome 4000 raise_unhandled_range ([]) ≡ ends_with (makes 32 ∷ []) (said (codes "finally")) (said (codes "Unhandled ERangeError: Range check error")) 217
  unfolding outcome
  raise_unhandled_range_runs = refl
