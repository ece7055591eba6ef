-- Interfaces: who holds an instance, and when it goes. Each program stands above what it comes to; tests/semantics makes this file of the
-- texts in tests/semantics.d, and tells how what is expected was found.
use Rattle.std.specs.Prelude.{◌≡◌, pos, true, false, [], ◌∷◌, ◌++◌, codes, Some, None}
use Rattle.std.proofs.Common.{refl}
use Rattle.op_core.specs.Expression.{expression, call as call_of, construct, method, no_steps, then, bracket, is, value, place, array as whole_array, no_expressions, expressions}
use Rattle.op_core.specs.Statement.{assign, call, block, if_then, if_else, while_do, repeat_until, for_to, for_in, try_finally, try_on, try_on_else, handlers, no_handlers, raise, exit, exit_with, halt, built_in, write, set_length, str, free, destroy, plain}
use Rattle.op_core.specs.Types.{id}
use Rattle.op_core.specs.declared.class.Binding.TheVariants.{Static, Virtual as VirtualBinding, Override}
use Rattle.op_core.specs.declared.operation.Conversion.TheVariants.{Keep, ToInterface, Instance}
use Rattle.op_core.specs.declared.operation.Dispatch.TheVariants.{Direct, Interface as ByInterface}
use Rattle.op_core.specs.declared.operation.Function.TheVariants.{Length, Assigned, ClassName}
use Rattle.op_core.specs.declared.routine.Owner.TheVariants.{Unit as OfUnit, Class as OfClass, Interface as OfInterface}
use Rattle.op_core.specs.declared.routine.Role.TheVariants.{Plain, Parameter, Object as ObjectRole, Result, Handler}
use Rattle.op_core.specs.declared.types.CoreType.TheVariants.{Subrange, Record, Array, DynamicArray, OpenArray, Class, Interface}
use Rattle.op_meaning.proofs.Programs.{said, var, known, quoted, with_q, signed, applying, to, at, dot, argued, listed, rows_at, part}
use Rattle.op_semantics.proofs.Programs.{outcome, ends_with, asks, makes, frees, nothing, variable_id, routine_id, class_id, interface_id, obj, listed_as, row, routine_row, class_row, method_row, interface_row, program}
use Rattle.op_semantics.specs.Frames.{Program}
use Rattle.op_tree.specs.declared.heading.ParameterMode.TheVariants.{Value, Var, Const_, Out}
use Rattle.op_tree.specs.declared.heading.RoutineKind.TheVariants.{Procedure, Function as FunctionKind, Constructor, Destructor}
use Rattle.op_tree.specs.declared.operator.Operator.TheVariants.{Equal, NotEqual, Greater, Add, Subtract, Div}
use Rattle.op_tree.specs.declared.operator.PrefixOperator.TheVariants.{Not}
use Rattle.op_tree.specs.declared.position.Name.{Name}
use Rattle.op_tree.specs.declared.statement.Direction.TheVariants.{To}

module _ (name : Name) where
  -- An interface with an ancestor: its value goes where the ancestor is wanted
  abbrev face_ancestors : Program
  face_ancestors = program name
      (Class (class_id 0) ∷ Interface (interface_id 0) ∷ Class (class_id 1) ∷ Interface (interface_id 1) ∷ Interface (interface_id 2) ∷ Class (class_id 2) ∷ [])
      []
      (row name 19 Plain None ∷ row name 20 Plain None ∷ row name 17 Plain None ∷ row name 16 ObjectRole None ∷ row name 16 ObjectRole None ∷ row name 19 ObjectRole None ∷ row name 20 ObjectRole None ∷ row name 21 ObjectRole None ∷ row name 21 ObjectRole None ∷ row name 19 (Parameter Const_) None ∷ [])
      (routine_row name (codes "create") Constructor (OfClass (class_id 0)) 0 None 3 1 ∷ routine_row name (codes "destroy") Destructor (OfClass (class_id 0)) 0 None 4 1 ∷ routine_row name (codes "a") Procedure (OfInterface (interface_id 1)) 0 None 5 1 ∷ routine_row name (codes "b") Procedure (OfInterface (interface_id 2)) 0 None 6 1 ∷ routine_row name (codes "a") Procedure (OfClass (class_id 2)) 0 None 7 1 ∷ routine_row name (codes "b") Procedure (OfClass (class_id 2)) 0 None 8 1 ∷ routine_row name (codes "p") Procedure OfUnit 1 None 9 1 ∷ [])
      (class_row (codes "TObject") 16 None 0 0 0 2 0 0 ∷ class_row (codes "TInterfacedObject") 18 (Some (class_id 0)) 0 0 2 0 0 1 ∷ class_row (codes "TC") 21 (Some (class_id 1)) 0 0 2 2 1 1 ∷ [])
      (interface_row (codes "iunknown") 17 None 4 0 ∷ interface_row (codes "ia") 19 (Some (interface_id 0)) 4 1 ∷ interface_row (codes "ib") 20 (Some (interface_id 1)) 5 1 ∷ [])
      (method_row 0 Static false ∷ method_row 1 VirtualBinding false ∷ method_row 4 Static false ∷ method_row 5 Static false ∷ method_row 2 Static false ∷ method_row 3 Static false ∷ [])
      (interface_id 0 ∷ interface_id 2 ∷ [])
      (variable_id 0 ∷ variable_id 1 ∷ variable_id 2 ∷ [])
      None
      ((listed ([])) ∷
      (listed ([])) ∷
      (listed ([])) ∷
      (listed ([])) ∷
      (listed (
      (built_in (write (plain (known (pos 65) 6) ∷ []) true)) ∷ [])) ∷
      (listed (
      (built_in (write (plain (known (pos 66) 6) ∷ []) true)) ∷ [])) ∷
      (listed (
      (call (then (var 9 19) (method (routine_id 2) ByInterface (argued [])) (id 9))) ∷ [])) ∷
      (listed (
      (assign (var 1 20) (to ToInterface 20 (expression (construct (class_id 2) (routine_id 0) (argued [])) (id 21) no_steps))) ∷
      (call (then (var 1 20) (method (routine_id 2) ByInterface (argued [])) (id 9))) ∷
      (call (then (var 1 20) (method (routine_id 3) ByInterface (argued [])) (id 9))) ∷
      (assign (var 0 19) (to Keep 19 (var 1 20))) ∷
      (call (then (var 0 19) (method (routine_id 2) ByInterface (argued [])) (id 9))) ∷
      (call (expression (call_of (routine_id 6) (argued (value (to Keep 19 (var 1 20)) ∷ []))) (id 9) no_steps)) ∷
      (assign (var 2 17) (to Keep 17 (var 1 20))) ∷
      (built_in (write (plain (with_q false 5 (var 0 19) Equal (var 1 20)) ∷ plain (with_q false 5 (var 2 17) Equal (to Keep 17 nothing)) ∷ []) true)) ∷ [])) ∷
      [])

  face_ancestors_runs : outcome 4000 face_ancestors ([]) ≡ ends_with (makes 16 ∷ frees 1 ∷ []) (said (codes "A") ++ said (codes "B") ++ said (codes "A") ++ said (codes "A") ++ said (codes "TRUEFALSE")) ([]) 0
  unfolding outcome
  face_ancestors_runs = refl

  -- While an array's elements go, the variable is empty already
  abbrev face_array_falls : Program
  face_array_falls = program name
      (Class (class_id 0) ∷ Interface (interface_id 0) ∷ Class (class_id 1) ∷ Class (class_id 2) ∷ DynamicArray (id 17) ∷ [])
      []
      (row name 20 Plain None ∷ row name 16 ObjectRole None ∷ row name 16 ObjectRole None ∷ row name 19 ObjectRole None ∷ [])
      (routine_row name (codes "create") Constructor (OfClass (class_id 0)) 0 None 1 1 ∷ routine_row name (codes "destroy") Destructor (OfClass (class_id 0)) 0 None 2 1 ∷ routine_row name (codes "destroy") Destructor (OfClass (class_id 2)) 0 None 3 1 ∷ [])
      (class_row (codes "TObject") 16 None 0 0 0 2 0 0 ∷ class_row (codes "TInterfacedObject") 18 (Some (class_id 0)) 0 0 2 0 0 1 ∷ class_row (codes "TA") 19 (Some (class_id 1)) 0 0 2 1 1 0 ∷ [])
      (interface_row (codes "iunknown") 17 None 3 0 ∷ [])
      (method_row 0 Static false ∷ method_row 1 VirtualBinding false ∷ method_row 2 Override false ∷ [])
      (interface_id 0 ∷ [])
      (variable_id 0 ∷ [])
      None
      ((listed ([])) ∷
      (listed ([])) ∷
      (listed (
      (built_in (write (plain (applying Length false (var 0 20) 4) ∷ []) true)) ∷
      (call (then (obj 3 19) (method (routine_id 1) Direct (argued [])) (id 9))) ∷ [])) ∷
      (listed (
      (built_in (set_length (var 0 20) (known (pos 2) 4))) ∷
      (assign (at (var 0 20) (known (pos 0) 4) 17) (to ToInterface 17 (expression (construct (class_id 2) (routine_id 0) (argued [])) (id 19) no_steps))) ∷
      (assign (at (var 0 20) (known (pos 1) 4) 17) (to ToInterface 17 (expression (construct (class_id 2) (routine_id 0) (argued [])) (id 19) no_steps))) ∷
      (assign (var 0 20) (to Keep 20 nothing)) ∷
      (built_in (write (plain (quoted (codes "end")) ∷ []) true)) ∷ [])) ∷
      [])

  face_array_falls_runs : outcome 4000 face_array_falls ([]) ≡ ends_with (asks 32 ∷ makes 16 ∷ makes 16 ∷ frees 2 ∷ frees 3 ∷ frees 1 ∷ []) (said (codes "0") ++ said (codes "0") ++ said (codes "end")) ([]) 0
  unfolding outcome
  face_array_falls_runs = refl

  -- as from one interface to another, and from a class
  abbrev face_as : Program
  face_as = program name
      (Class (class_id 0) ∷ Interface (interface_id 0) ∷ Class (class_id 1) ∷ Interface (interface_id 1) ∷ Interface (interface_id 2) ∷ Class (class_id 2) ∷ [])
      []
      (row name 19 Plain None ∷ row name 17 Plain None ∷ row name 16 ObjectRole None ∷ row name 16 ObjectRole None ∷ row name 19 ObjectRole None ∷ row name 20 ObjectRole None ∷ row name 21 ObjectRole None ∷ row name 21 ObjectRole None ∷ [])
      (routine_row name (codes "create") Constructor (OfClass (class_id 0)) 0 None 2 1 ∷ routine_row name (codes "destroy") Destructor (OfClass (class_id 0)) 0 None 3 1 ∷ routine_row name (codes "a") Procedure (OfInterface (interface_id 1)) 0 None 4 1 ∷ routine_row name (codes "b") Procedure (OfInterface (interface_id 2)) 0 None 5 1 ∷ routine_row name (codes "a") Procedure (OfClass (class_id 2)) 0 None 6 1 ∷ routine_row name (codes "b") Procedure (OfClass (class_id 2)) 0 None 7 1 ∷ [])
      (class_row (codes "TObject") 16 None 0 0 0 2 0 0 ∷ class_row (codes "TInterfacedObject") 18 (Some (class_id 0)) 0 0 2 0 0 1 ∷ class_row (codes "TC") 21 (Some (class_id 1)) 0 0 2 2 1 2 ∷ [])
      (interface_row (codes "iunknown") 17 None 4 0 ∷ interface_row (codes "ia") 19 (Some (interface_id 0)) 4 1 ∷ interface_row (codes "ib") 20 (Some (interface_id 0)) 5 1 ∷ [])
      (method_row 0 Static false ∷ method_row 1 VirtualBinding false ∷ method_row 4 Static false ∷ method_row 5 Static false ∷ method_row 2 Static false ∷ method_row 3 Static false ∷ [])
      (interface_id 0 ∷ interface_id 1 ∷ interface_id 2 ∷ [])
      (variable_id 0 ∷ variable_id 1 ∷ [])
      None
      ((listed ([])) ∷
      (listed ([])) ∷
      (listed ([])) ∷
      (listed ([])) ∷
      (listed (
      (built_in (write (plain (known (pos 65) 6) ∷ []) true)) ∷ [])) ∷
      (listed (
      (built_in (write (plain (known (pos 66) 6) ∷ []) true)) ∷ [])) ∷
      (listed (
      (assign (var 1 17) (to ToInterface 17 (expression (construct (class_id 2) (routine_id 0) (argued [])) (id 21) no_steps))) ∷
      (assign (var 0 19) (to Instance 19 (var 1 17))) ∷
      (call (then (var 0 19) (method (routine_id 2) ByInterface (argued [])) (id 9))) ∷
      (call (then (then (to Instance 20 (var 0 19)) bracket (id 20)) (method (routine_id 3) ByInterface (argued [])) (id 9))) ∷
      (built_in (write (plain (then (var 1 17) (is (id 20)) (id 5)) ∷ plain (with_q false 5 (then (to Instance 20 (var 1 17)) bracket (id 20)) NotEqual (to Keep 20 nothing)) ∷ []) true)) ∷ [])) ∷
      [])

  face_as_runs : outcome 4000 face_as ([]) ≡ ends_with (makes 16 ∷ frees 1 ∷ []) (said (codes "A") ++ said (codes "B") ++ said (codes "TRUETRUE")) ([]) 0
  unfolding outcome
  face_as_runs = refl

  -- As between interfaces and classes, with its exceptions; is of nil.
  abbrev face_as_and_casts : Program
  face_as_and_casts = program name
      (Class (class_id 0) ∷ Interface (interface_id 0) ∷ Class (class_id 1) ∷ Class (class_id 2) ∷ Class (class_id 3) ∷ Class (class_id 4) ∷ Class (class_id 5) ∷ Class (class_id 6) ∷ Class (class_id 7) ∷ Class (class_id 8) ∷ Interface (interface_id 1) ∷ Interface (interface_id 2) ∷ Class (class_id 9) ∷ Class (class_id 10) ∷ [])
      (part name 7 ∷ [])
      (row name 26 Plain None ∷ row name 16 Plain None ∷ row name 7 Plain None ∷ row name 4 Plain None ∷ row name 16 ObjectRole None ∷ row name 16 ObjectRole None ∷ row name 19 ObjectRole None ∷ row name 7 (Parameter Const_) None ∷ row name 4 (Parameter Value) None ∷ row name 7 Result None ∷ row name 26 ObjectRole None ∷ row name 27 ObjectRole None ∷ row name 28 ObjectRole None ∷ row name 28 ObjectRole None ∷ row name 29 ObjectRole None ∷ row name 7 (Parameter Const_) None ∷ row name 4 (Parameter Value) None ∷ row name 26 Result None ∷ row name 21 Handler None ∷ row name 20 Handler None ∷ row name 19 Handler None ∷ row name 22 Handler None ∷ [])
      (routine_row name (codes "create") Constructor (OfClass (class_id 0)) 0 None 4 1 ∷ routine_row name (codes "destroy") Destructor (OfClass (class_id 0)) 0 None 5 1 ∷ routine_row name (codes "create") Constructor (OfClass (class_id 2)) 1 None 6 2 ∷ routine_row name (codes "inttostr") FunctionKind OfUnit 1 (Some 7) 8 2 ∷ routine_row name (codes "go") Procedure (OfInterface (interface_id 1)) 0 None 10 1 ∷ routine_row name (codes "ho") Procedure (OfInterface (interface_id 2)) 0 None 11 1 ∷ routine_row name (codes "go") Procedure (OfClass (class_id 9)) 0 None 12 1 ∷ routine_row name (codes "destroy") Destructor (OfClass (class_id 9)) 0 None 13 1 ∷ routine_row name (codes "ho") Procedure (OfClass (class_id 10)) 0 None 14 1 ∷ routine_row name (codes "f") FunctionKind OfUnit 2 (Some 26) 15 3 ∷ [])
      (class_row (codes "TObject") 16 None 0 0 0 2 0 0 ∷ class_row (codes "TInterfacedObject") 18 (Some (class_id 0)) 0 0 2 0 0 1 ∷ class_row (codes "Exception") 19 (Some (class_id 0)) 0 1 2 1 1 0 ∷ class_row (codes "EConvertError") 20 (Some (class_id 2)) 1 0 3 0 1 0 ∷ class_row (codes "EInvalidCast") 21 (Some (class_id 2)) 1 0 3 0 1 0 ∷ class_row (codes "EIntError") 22 (Some (class_id 2)) 1 0 3 0 1 0 ∷ class_row (codes "EDivByZero") 23 (Some (class_id 5)) 1 0 3 0 1 0 ∷ class_row (codes "ERangeError") 24 (Some (class_id 5)) 1 0 3 0 1 0 ∷ class_row (codes "EIntOverflow") 25 (Some (class_id 5)) 1 0 3 0 1 0 ∷ class_row (codes "TT") 28 (Some (class_id 1)) 1 0 3 2 1 1 ∷ class_row (codes "TU") 29 (Some (class_id 9)) 1 0 5 1 2 1 ∷ [])
      (interface_row (codes "iunknown") 17 None 6 0 ∷ interface_row (codes "ii") 26 (Some (interface_id 0)) 6 1 ∷ interface_row (codes "ij") 27 (Some (interface_id 0)) 7 1 ∷ [])
      (method_row 0 Static false ∷ method_row 1 VirtualBinding false ∷ method_row 2 Static false ∷ method_row 6 Static false ∷ method_row 7 Override false ∷ method_row 8 Static false ∷ method_row 4 Static false ∷ method_row 5 Static false ∷ [])
      (interface_id 0 ∷ interface_id 1 ∷ interface_id 2 ∷ [])
      (variable_id 0 ∷ variable_id 1 ∷ variable_id 2 ∷ variable_id 3 ∷ [])
      (Some (record { message = record { 0 = 0 }; exception = class_id 2; zero_divisor = class_id 6; range = class_id 7; overflow = class_id 8; cast = class_id 4 }))
      ((listed ([])) ∷
      (listed ([])) ∷
      (listed (
      (assign (dot (obj 6 19) 0 7) (var 7 7)) ∷ [])) ∷
      (listed (
      (built_in (str (plain (var 8 4)) (var 9 7))) ∷ [])) ∷
      (listed ([])) ∷
      (listed ([])) ∷
      (listed (
      (built_in (write (plain (quoted (codes "go")) ∷ []) true)) ∷ [])) ∷
      (listed (
      (built_in (write (plain (quoted (codes "gone")) ∷ []) true)) ∷
      (call (then (obj 13 28) (method (routine_id 1) Direct (argued [])) (id 9))) ∷ [])) ∷
      (listed (
      (built_in (write (plain (quoted (codes "ho")) ∷ []) true)) ∷ [])) ∷
      (listed (
      (assign (var 17 26) (to ToInterface 26 (expression (construct (class_id 9) (routine_id 0) (argued [])) (id 28) no_steps))) ∷
      (built_in (write (plain (var 15 7) ∷ plain (with_q false 4 (known (pos 10) 4) Div (var 16 4)) ∷ []) true)) ∷ [])) ∷
      (listed (
      (assign (var 0 26) (to ToInterface 26 (expression (construct (class_id 10) (routine_id 0) (argued [])) (id 29) no_steps))) ∷
      (call (then (then (to Instance 27 (var 0 26)) bracket (id 27)) (method (routine_id 5) ByInterface (argued [])) (id 9))) ∷
      (assign (var 1 16) (to Keep 16 (expression (construct (class_id 9) (routine_id 0) (argued [])) (id 28) no_steps))) ∷
      (try_on (listed (
      (call (then (then (to Instance 29 (var 1 16)) bracket (id 29)) (method (routine_id 8) Direct (argued [])) (id 9))) ∷ [])) (handlers (Some (variable_id 18)) (class_id 4) (built_in (write (plain (dot (var 18 21) 0 7) ∷ []) true)) no_handlers)) ∷
      (try_on (listed (
      (call (then (then (to Instance 27 (var 1 16)) bracket (id 27)) (method (routine_id 5) ByInterface (argued [])) (id 9))) ∷ [])) (handlers (Some (variable_id 19)) (class_id 3) (built_in (write (plain (quoted (codes "no")) ∷ []) true)) (handlers (Some (variable_id 20)) (class_id 2) (built_in (write (plain (applying ClassName false (var 20 19) 7) ∷ []) true)) no_handlers))) ∷
      (built_in (free (var 1 16) false)) ∷
      (assign (var 2 7) (quoted (codes "u"))) ∷
      (assign (var 3 4) (known (pos 0) 4)) ∷
      (try_on (listed (
      (assign (var 0 26) (expression (call_of (routine_id 9) (argued (value (with_q false 7 (quoted (codes "v")) Add (var 2 7)) ∷ value (var 3 4) ∷ []))) (id 26) no_steps)) ∷ [])) (handlers (Some (variable_id 21)) (class_id 5) (built_in (write (plain (dot (var 21 22) 0 7) ∷ []) true)) no_handlers)) ∷
      (call (then (var 0 26) (method (routine_id 4) ByInterface (argued [])) (id 9))) ∷
      (assign (var 1 16) (to Keep 16 (to Instance 29 nothing))) ∷
      (built_in (write (plain (then (var 1 16) (is (id 28)) (id 5)) ∷ plain (applying Assigned false (var 1 16) 5) ∷ []) true)) ∷
      (if_then (then (var 0 26) (is (id 27)) (id 5)) (built_in (write (plain (quoted (codes "is")) ∷ []) true))) ∷
      (try_finally (listed (
      (built_in (free (var 1 16) false)) ∷
      (built_in (destroy (var 1 16))) ∷ [])) (listed (
      (built_in (write (plain (quoted (codes "never")) ∷ []) true)) ∷ []))) ∷ [])) ∷
      [])

  face_as_and_casts_runs : outcome 4000 face_as_and_casts ([]) ≡ ends_with (makes 16 ∷ makes 16 ∷ makes 32 ∷ frees 3 ∷ makes 32 ∷ frees 4 ∷ frees 2 ∷ asks 32 ∷ makes 16 ∷ makes 32 ∷ frees 6 ∷ frees 5 ∷ frees 7 ∷ []) (said (codes "ho") ++ said (codes "Invalid type cast") ++ said (codes "EInvalidCast") ++ said (codes "gone") ++ said (codes "vugone") ++ said (codes "Division by zero") ++ said (codes "go") ++ said (codes "FALSEFALSE") ++ said (codes "is")) (said (codes "Runtime error 216")) 216
  unfolding outcome
  face_as_and_casts_runs = refl

  -- as to an interface that the instance's class has not
  abbrev face_as_fails : Program
  face_as_fails = program name
      (Class (class_id 0) ∷ Interface (interface_id 0) ∷ Class (class_id 1) ∷ Interface (interface_id 1) ∷ [])
      []
      (row name 17 Plain None ∷ row name 19 Plain None ∷ row name 16 ObjectRole None ∷ row name 16 ObjectRole None ∷ row name 19 ObjectRole None ∷ [])
      (routine_row name (codes "create") Constructor (OfClass (class_id 0)) 0 None 2 1 ∷ routine_row name (codes "destroy") Destructor (OfClass (class_id 0)) 0 None 3 1 ∷ routine_row name (codes "a") Procedure (OfInterface (interface_id 1)) 0 None 4 1 ∷ [])
      (class_row (codes "TObject") 16 None 0 0 0 2 0 0 ∷ class_row (codes "TInterfacedObject") 18 (Some (class_id 0)) 0 0 2 0 0 1 ∷ [])
      (interface_row (codes "iunknown") 17 None 2 0 ∷ interface_row (codes "ia") 19 (Some (interface_id 0)) 2 1 ∷ [])
      (method_row 0 Static false ∷ method_row 1 VirtualBinding false ∷ method_row 2 Static false ∷ [])
      (interface_id 0 ∷ [])
      (variable_id 0 ∷ variable_id 1 ∷ [])
      None
      ((listed ([])) ∷
      (listed ([])) ∷
      (listed ([])) ∷
      (listed (
      (assign (var 0 17) (to Instance 17 (var 1 19))) ∷
      (built_in (write (plain (with_q false 5 (var 0 17) Equal (to Keep 17 nothing)) ∷ []) true)) ∷
      (assign (var 0 17) (to ToInterface 17 (expression (construct (class_id 1) (routine_id 0) (argued [])) (id 18) no_steps))) ∷
      (built_in (write (plain (then (var 0 17) (is (id 19)) (id 5)) ∷ []) true)) ∷
      (assign (var 1 19) (to Instance 19 (var 0 17))) ∷
      (built_in (write (plain (quoted (codes "never")) ∷ []) true)) ∷ [])) ∷
      [])

  face_as_fails_runs : outcome 4000 face_as_fails ([]) ≡ ends_with (makes 16 ∷ []) (said (codes "TRUE") ++ said (codes "FALSE")) (said (codes "Runtime error 219")) 219
  unfolding outcome
  face_as_fails_runs = refl

  -- A new instance takes the place of the old one
  abbrev face_assign : Program
  face_assign = program name
      (Class (class_id 0) ∷ Interface (interface_id 0) ∷ Class (class_id 1) ∷ Class (class_id 2) ∷ [])
      (part name 4 ∷ [])
      (row name 17 Plain None ∷ row name 16 ObjectRole None ∷ row name 16 ObjectRole None ∷ row name 19 ObjectRole None ∷ row name 4 (Parameter Value) None ∷ row name 19 ObjectRole None ∷ [])
      (routine_row name (codes "create") Constructor (OfClass (class_id 0)) 0 None 1 1 ∷ routine_row name (codes "destroy") Destructor (OfClass (class_id 0)) 0 None 2 1 ∷ routine_row name (codes "create") Constructor (OfClass (class_id 2)) 1 None 3 2 ∷ routine_row name (codes "destroy") Destructor (OfClass (class_id 2)) 0 None 5 1 ∷ [])
      (class_row (codes "TObject") 16 None 0 0 0 2 0 0 ∷ class_row (codes "TInterfacedObject") 18 (Some (class_id 0)) 0 0 2 0 0 1 ∷ class_row (codes "TA") 19 (Some (class_id 1)) 0 1 2 2 1 0 ∷ [])
      (interface_row (codes "iunknown") 17 None 4 0 ∷ [])
      (method_row 0 Static false ∷ method_row 1 VirtualBinding false ∷ method_row 2 Static false ∷ method_row 3 Override false ∷ [])
      (interface_id 0 ∷ [])
      (variable_id 0 ∷ [])
      None
      ((listed ([])) ∷
      (listed ([])) ∷
      (listed (
      (assign (dot (obj 3 19) 0 4) (var 4 4)) ∷ [])) ∷
      (listed (
      (built_in (write (plain (quoted (codes "gone ")) ∷ plain (dot (obj 5 19) 0 4) ∷ []) true)) ∷
      (call (then (obj 5 19) (method (routine_id 1) Direct (argued [])) (id 9))) ∷ [])) ∷
      (listed (
      (assign (var 0 17) (to ToInterface 17 (expression (construct (class_id 2) (routine_id 2) (argued (value (known (pos 1) 4) ∷ []))) (id 19) no_steps))) ∷
      (built_in (write (plain (quoted (codes "first")) ∷ []) true)) ∷
      (assign (var 0 17) (to ToInterface 17 (expression (construct (class_id 2) (routine_id 2) (argued (value (known (pos 2) 4) ∷ []))) (id 19) no_steps))) ∷
      (built_in (write (plain (quoted (codes "second")) ∷ []) true)) ∷
      (assign (var 0 17) (to Keep 17 nothing)) ∷
      (built_in (write (plain (quoted (codes "end")) ∷ []) true)) ∷ [])) ∷
      [])

  face_assign_runs : outcome 4000 face_assign ([]) ≡ ends_with (makes 32 ∷ makes 32 ∷ frees 1 ∷ frees 2 ∷ []) (said (codes "first") ++ said (codes "gone 1") ++ said (codes "second") ++ said (codes "gone 2") ++ said (codes "end")) ([]) 0
  unfolding outcome
  face_assign_runs = refl

  -- A destructor prints the variable that is being assigned: it has the new value
  abbrev face_assign_prints : Program
  face_assign_prints = program name
      (Class (class_id 0) ∷ Interface (interface_id 0) ∷ Class (class_id 1) ∷ Interface (interface_id 1) ∷ Class (class_id 2) ∷ [])
      (part name 4 ∷ [])
      (row name 19 Plain None ∷ row name 16 ObjectRole None ∷ row name 16 ObjectRole None ∷ row name 19 ObjectRole None ∷ row name 4 Result None ∷ row name 20 ObjectRole None ∷ row name 4 (Parameter Value) None ∷ row name 20 ObjectRole None ∷ row name 4 Result None ∷ row name 20 ObjectRole None ∷ [])
      (routine_row name (codes "create") Constructor (OfClass (class_id 0)) 0 None 1 1 ∷ routine_row name (codes "destroy") Destructor (OfClass (class_id 0)) 0 None 2 1 ∷ routine_row name (codes "n") FunctionKind (OfInterface (interface_id 1)) 0 (Some 4) 3 2 ∷ routine_row name (codes "create") Constructor (OfClass (class_id 2)) 1 None 5 2 ∷ routine_row name (codes "n") FunctionKind (OfClass (class_id 2)) 0 (Some 4) 7 2 ∷ routine_row name (codes "destroy") Destructor (OfClass (class_id 2)) 0 None 9 1 ∷ [])
      (class_row (codes "TObject") 16 None 0 0 0 2 0 0 ∷ class_row (codes "TInterfacedObject") 18 (Some (class_id 0)) 0 0 2 0 0 1 ∷ class_row (codes "TA") 20 (Some (class_id 1)) 0 1 2 3 1 1 ∷ [])
      (interface_row (codes "iunknown") 17 None 5 0 ∷ interface_row (codes "ia") 19 (Some (interface_id 0)) 5 1 ∷ [])
      (method_row 0 Static false ∷ method_row 1 VirtualBinding false ∷ method_row 3 Static false ∷ method_row 4 Static false ∷ method_row 5 Override false ∷ method_row 2 Static false ∷ [])
      (interface_id 0 ∷ interface_id 1 ∷ [])
      (variable_id 0 ∷ [])
      None
      ((listed ([])) ∷
      (listed ([])) ∷
      (listed ([])) ∷
      (listed (
      (assign (dot (obj 5 20) 0 4) (var 6 4)) ∷ [])) ∷
      (listed (
      (assign (var 8 4) (dot (obj 7 20) 0 4)) ∷ [])) ∷
      (listed (
      (built_in (write (plain (quoted (codes "gone ")) ∷ plain (dot (obj 9 20) 0 4) ∷ []) false)) ∷
      (if_else (with_q false 5 (var 0 19) Equal (to Keep 19 nothing)) (built_in (write (plain (quoted (codes " nil")) ∷ []) true)) (built_in (write (plain (quoted (codes " now ")) ∷ plain (then (var 0 19) (method (routine_id 2) ByInterface (argued [])) (id 4)) ∷ []) true))) ∷
      (call (then (obj 9 20) (method (routine_id 1) Direct (argued [])) (id 9))) ∷ [])) ∷
      (listed (
      (assign (var 0 19) (to ToInterface 19 (expression (construct (class_id 2) (routine_id 3) (argued (value (known (pos 1) 4) ∷ []))) (id 20) no_steps))) ∷
      (assign (var 0 19) (to ToInterface 19 (expression (construct (class_id 2) (routine_id 3) (argued (value (known (pos 2) 4) ∷ []))) (id 20) no_steps))) ∷
      (assign (var 0 19) (to Keep 19 nothing)) ∷
      (built_in (write (plain (quoted (codes "end")) ∷ []) true)) ∷ [])) ∷
      [])

  face_assign_prints_runs : outcome 4000 face_assign_prints ([]) ≡ ends_with (makes 32 ∷ makes 32 ∷ frees 1 ∷ frees 2 ∷ []) (said (codes "gone 1 now 2") ++ said (codes "gone 2 nil") ++ said (codes "end")) ([]) 0
  unfolding outcome
  face_assign_prints_runs = refl

  -- Methods called through an interface, with parameters and results
  abbrev face_calls : Program
  face_calls = program name
      (Class (class_id 0) ∷ Interface (interface_id 0) ∷ Class (class_id 1) ∷ Interface (interface_id 1) ∷ Class (class_id 2) ∷ [])
      (part name 4 ∷ [])
      (row name 19 Plain None ∷ row name 16 ObjectRole None ∷ row name 16 ObjectRole None ∷ row name 19 ObjectRole None ∷ row name 4 (Parameter Value) None ∷ row name 19 ObjectRole None ∷ row name 7 (Parameter Const_) None ∷ row name 7 Result None ∷ row name 20 ObjectRole None ∷ row name 4 (Parameter Value) None ∷ row name 20 ObjectRole None ∷ row name 7 (Parameter Const_) None ∷ row name 7 Result None ∷ [])
      (routine_row name (codes "create") Constructor (OfClass (class_id 0)) 0 None 1 1 ∷ routine_row name (codes "destroy") Destructor (OfClass (class_id 0)) 0 None 2 1 ∷ routine_row name (codes "add") Procedure (OfInterface (interface_id 1)) 1 None 3 2 ∷ routine_row name (codes "text") FunctionKind (OfInterface (interface_id 1)) 1 (Some 7) 5 3 ∷ routine_row name (codes "add") Procedure (OfClass (class_id 2)) 1 None 8 2 ∷ routine_row name (codes "text") FunctionKind (OfClass (class_id 2)) 1 (Some 7) 10 3 ∷ [])
      (class_row (codes "TObject") 16 None 0 0 0 2 0 0 ∷ class_row (codes "TInterfacedObject") 18 (Some (class_id 0)) 0 0 2 0 0 1 ∷ class_row (codes "TA") 20 (Some (class_id 1)) 0 1 2 2 1 1 ∷ [])
      (interface_row (codes "iunknown") 17 None 4 0 ∷ interface_row (codes "ia") 19 (Some (interface_id 0)) 4 2 ∷ [])
      (method_row 0 Static false ∷ method_row 1 VirtualBinding false ∷ method_row 4 Static false ∷ method_row 5 Static false ∷ method_row 2 Static false ∷ method_row 3 Static false ∷ [])
      (interface_id 0 ∷ interface_id 1 ∷ [])
      (variable_id 0 ∷ [])
      None
      ((listed ([])) ∷
      (listed ([])) ∷
      (listed ([])) ∷
      (listed ([])) ∷
      (listed (
      (assign (dot (obj 8 20) 0 4) (with_q false 4 (dot (obj 8 20) 0 4) Add (var 9 4))) ∷ [])) ∷
      (listed (
      (built_in (str (plain (dot (obj 10 20) 0 4)) (var 12 7))) ∷
      (assign (var 12 7) (with_q false 7 (var 11 7) Add (var 12 7))) ∷ [])) ∷
      (listed (
      (assign (var 0 19) (to ToInterface 19 (expression (construct (class_id 2) (routine_id 0) (argued [])) (id 20) no_steps))) ∷
      (call (then (var 0 19) (method (routine_id 2) ByInterface (argued (value (known (pos 4) 4) ∷ []))) (id 9))) ∷
      (call (then (var 0 19) (method (routine_id 2) ByInterface (argued (value (known (pos 5) 4) ∷ []))) (id 9))) ∷
      (built_in (write (plain (then (var 0 19) (method (routine_id 3) ByInterface (argued (value (quoted (codes "f=")) ∷ []))) (id 7)) ∷ plain (applying Length false (then (var 0 19) (method (routine_id 3) ByInterface (argued (value (quoted ([])) ∷ []))) (id 7)) 4) ∷ []) true)) ∷ [])) ∷
      [])

  face_calls_runs : outcome 4000 face_calls ([]) ≡ ends_with (makes 32 ∷ asks 32 ∷ asks 32 ∷ frees 2 ∷ asks 32 ∷ frees 4 ∷ frees 3 ∷ frees 1 ∷ []) (said (codes "f=91")) ([]) 0
  unfolding outcome
  face_calls_runs = refl

  -- A chain of three goes from its head on, when the head's only holder lets go
  abbrev face_chain : Program
  face_chain = program name
      (Class (class_id 0) ∷ Interface (interface_id 0) ∷ Class (class_id 1) ∷ Interface (interface_id 1) ∷ Class (class_id 2) ∷ [])
      (part name 4 ∷ part name 19 ∷ [])
      (row name 19 Plain None ∷ row name 20 Plain None ∷ row name 4 Plain None ∷ row name 16 ObjectRole None ∷ row name 16 ObjectRole None ∷ row name 20 ObjectRole None ∷ [])
      (routine_row name (codes "create") Constructor (OfClass (class_id 0)) 0 None 3 1 ∷ routine_row name (codes "destroy") Destructor (OfClass (class_id 0)) 0 None 4 1 ∷ routine_row name (codes "destroy") Destructor (OfClass (class_id 2)) 0 None 5 1 ∷ [])
      (class_row (codes "TObject") 16 None 0 0 0 2 0 0 ∷ class_row (codes "TInterfacedObject") 18 (Some (class_id 0)) 0 0 2 0 0 1 ∷ class_row (codes "TN") 20 (Some (class_id 1)) 0 2 2 1 1 1 ∷ [])
      (interface_row (codes "iunknown") 17 None 3 0 ∷ interface_row (codes "in_") 19 (Some (interface_id 0)) 3 0 ∷ [])
      (method_row 0 Static false ∷ method_row 1 VirtualBinding false ∷ method_row 2 Override false ∷ [])
      (interface_id 0 ∷ interface_id 1 ∷ [])
      (variable_id 0 ∷ variable_id 1 ∷ variable_id 2 ∷ [])
      None
      ((listed ([])) ∷
      (listed ([])) ∷
      (listed (
      (built_in (write (plain (quoted (codes "gone ")) ∷ plain (dot (obj 5 20) 0 4) ∷ []) true)) ∷
      (call (then (obj 5 20) (method (routine_id 1) Direct (argued [])) (id 9))) ∷ [])) ∷
      (listed (
      (for_to (variable_id 2) (known (pos 1) 4) To (known (pos 3) 4) (block (listed (
      (assign (var 1 20) (expression (construct (class_id 2) (routine_id 0) (argued [])) (id 20) no_steps)) ∷
      (assign (dot (var 1 20) 0 4) (var 2 4)) ∷
      (assign (dot (var 1 20) 1 19) (var 0 19)) ∷
      (assign (var 0 19) (to ToInterface 19 (var 1 20))) ∷ [])))) ∷
      (assign (var 1 20) (to Keep 20 nothing)) ∷
      (assign (var 0 19) (to Keep 19 nothing)) ∷
      (built_in (write (plain (quoted (codes "end")) ∷ []) true)) ∷ [])) ∷
      [])

  face_chain_runs : outcome 4000 face_chain ([]) ≡ ends_with (makes 32 ∷ makes 32 ∷ makes 32 ∷ frees 1 ∷ frees 2 ∷ frees 3 ∷ []) (said (codes "gone 3") ++ said (codes "gone 2") ++ said (codes "gone 1") ++ said (codes "end")) ([]) 0
  unfolding outcome
  face_chain_runs = refl

  -- A class variable holds nothing: its instance goes with the interface, and is dead then
  abbrev face_class_variable : Program
  face_class_variable = program name
      (Class (class_id 0) ∷ Interface (interface_id 0) ∷ Class (class_id 1) ∷ Class (class_id 2) ∷ [])
      (part name 4 ∷ [])
      (row name 19 Plain None ∷ row name 17 Plain None ∷ row name 16 ObjectRole None ∷ row name 16 ObjectRole None ∷ row name 19 ObjectRole None ∷ [])
      (routine_row name (codes "create") Constructor (OfClass (class_id 0)) 0 None 2 1 ∷ routine_row name (codes "destroy") Destructor (OfClass (class_id 0)) 0 None 3 1 ∷ routine_row name (codes "destroy") Destructor (OfClass (class_id 2)) 0 None 4 1 ∷ [])
      (class_row (codes "TObject") 16 None 0 0 0 2 0 0 ∷ class_row (codes "TInterfacedObject") 18 (Some (class_id 0)) 0 0 2 0 0 1 ∷ class_row (codes "TA") 19 (Some (class_id 1)) 0 1 2 1 1 0 ∷ [])
      (interface_row (codes "iunknown") 17 None 3 0 ∷ [])
      (method_row 0 Static false ∷ method_row 1 VirtualBinding false ∷ method_row 2 Override false ∷ [])
      (interface_id 0 ∷ [])
      (variable_id 0 ∷ variable_id 1 ∷ [])
      None
      ((listed ([])) ∷
      (listed ([])) ∷
      (listed (
      (built_in (write (plain (quoted (codes "gone")) ∷ []) true)) ∷
      (call (then (obj 4 19) (method (routine_id 1) Direct (argued [])) (id 9))) ∷ [])) ∷
      (listed (
      (assign (var 0 19) (expression (construct (class_id 2) (routine_id 0) (argued [])) (id 19) no_steps)) ∷
      (assign (dot (var 0 19) 0 4) (known (pos 3) 4)) ∷
      (assign (var 1 17) (to ToInterface 17 (var 0 19))) ∷
      (built_in (write (plain (dot (var 0 19) 0 4) ∷ []) true)) ∷
      (assign (var 1 17) (to Keep 17 nothing)) ∷
      (built_in (write (plain (applying Assigned false (var 0 19) 5) ∷ []) true)) ∷
      (built_in (write (plain (dot (var 0 19) 0 4) ∷ []) true)) ∷ [])) ∷
      [])

  face_class_variable_runs : outcome 4000 face_class_variable ([]) ≡ ends_with (makes 32 ∷ frees 1 ∷ []) (said (codes "3") ++ said (codes "gone") ++ said (codes "TRUE")) (said (codes "Runtime error 216")) 216
  unfolding outcome
  face_class_variable_runs = refl

  -- Interfaces are equal where their instance is the same
  abbrev face_compare : Program
  face_compare = program name
      (Class (class_id 0) ∷ Interface (interface_id 0) ∷ Class (class_id 1) ∷ Interface (interface_id 1) ∷ Class (class_id 2) ∷ [])
      []
      (row name 19 Plain None ∷ row name 19 Plain None ∷ row name 19 Plain None ∷ row name 16 ObjectRole None ∷ row name 16 ObjectRole None ∷ row name 19 ObjectRole None ∷ row name 20 ObjectRole None ∷ [])
      (routine_row name (codes "create") Constructor (OfClass (class_id 0)) 0 None 3 1 ∷ routine_row name (codes "destroy") Destructor (OfClass (class_id 0)) 0 None 4 1 ∷ routine_row name (codes "p") Procedure (OfInterface (interface_id 1)) 0 None 5 1 ∷ routine_row name (codes "p") Procedure (OfClass (class_id 2)) 0 None 6 1 ∷ [])
      (class_row (codes "TObject") 16 None 0 0 0 2 0 0 ∷ class_row (codes "TInterfacedObject") 18 (Some (class_id 0)) 0 0 2 0 0 1 ∷ class_row (codes "TA") 20 (Some (class_id 1)) 0 0 2 1 1 1 ∷ [])
      (interface_row (codes "iunknown") 17 None 3 0 ∷ interface_row (codes "ia") 19 (Some (interface_id 0)) 3 1 ∷ [])
      (method_row 0 Static false ∷ method_row 1 VirtualBinding false ∷ method_row 3 Static false ∷ method_row 2 Static false ∷ [])
      (interface_id 0 ∷ interface_id 1 ∷ [])
      (variable_id 0 ∷ variable_id 1 ∷ variable_id 2 ∷ [])
      None
      ((listed ([])) ∷
      (listed ([])) ∷
      (listed ([])) ∷
      (listed (
      (built_in (write (plain (known (pos 80) 6) ∷ []) true)) ∷ [])) ∷
      (listed (
      (assign (var 0 19) (to ToInterface 19 (expression (construct (class_id 2) (routine_id 0) (argued [])) (id 20) no_steps))) ∷
      (assign (var 1 19) (var 0 19)) ∷
      (assign (var 2 19) (to ToInterface 19 (expression (construct (class_id 2) (routine_id 0) (argued [])) (id 20) no_steps))) ∷
      (built_in (write (plain (with_q false 5 (var 0 19) Equal (var 1 19)) ∷ plain (with_q false 5 (var 0 19) Equal (var 2 19)) ∷ plain (with_q false 5 (var 0 19) NotEqual (var 2 19)) ∷ plain (with_q false 5 (var 0 19) Equal (to Keep 19 nothing)) ∷ plain (applying Assigned false (var 2 19) 5) ∷ []) true)) ∷
      (assign (var 2 19) (to Keep 19 nothing)) ∷
      (built_in (write (plain (with_q false 5 (var 2 19) Equal (to Keep 19 nothing)) ∷ plain (applying Assigned false (var 2 19) 5) ∷ []) true)) ∷ [])) ∷
      [])

  face_compare_runs : outcome 4000 face_compare ([]) ≡ ends_with (makes 16 ∷ makes 16 ∷ frees 2 ∷ frees 1 ∷ []) (said (codes "TRUEFALSETRUEFALSETRUE") ++ said (codes "TRUEFALSE")) ([]) 0
  unfolding outcome
  face_compare_runs = refl

  -- An instance made for a condition goes before the choice
  abbrev face_condition_end : Program
  face_condition_end = program name
      (Class (class_id 0) ∷ Interface (interface_id 0) ∷ Class (class_id 1) ∷ Interface (interface_id 1) ∷ Class (class_id 2) ∷ [])
      []
      (row name 16 ObjectRole None ∷ row name 16 ObjectRole None ∷ row name 19 ObjectRole None ∷ row name 5 Result None ∷ row name 20 ObjectRole None ∷ row name 5 Result None ∷ row name 20 ObjectRole None ∷ row name 19 Result None ∷ [])
      (routine_row name (codes "create") Constructor (OfClass (class_id 0)) 0 None 0 1 ∷ routine_row name (codes "destroy") Destructor (OfClass (class_id 0)) 0 None 1 1 ∷ routine_row name (codes "ok") FunctionKind (OfInterface (interface_id 1)) 0 (Some 5) 2 2 ∷ routine_row name (codes "ok") FunctionKind (OfClass (class_id 2)) 0 (Some 5) 4 2 ∷ routine_row name (codes "destroy") Destructor (OfClass (class_id 2)) 0 None 6 1 ∷ routine_row name (codes "make") FunctionKind OfUnit 0 (Some 19) 7 1 ∷ [])
      (class_row (codes "TObject") 16 None 0 0 0 2 0 0 ∷ class_row (codes "TInterfacedObject") 18 (Some (class_id 0)) 0 0 2 0 0 1 ∷ class_row (codes "TA") 20 (Some (class_id 1)) 0 0 2 2 1 1 ∷ [])
      (interface_row (codes "iunknown") 17 None 4 0 ∷ interface_row (codes "ia") 19 (Some (interface_id 0)) 4 1 ∷ [])
      (method_row 0 Static false ∷ method_row 1 VirtualBinding false ∷ method_row 3 Static false ∷ method_row 4 Override false ∷ method_row 2 Static false ∷ [])
      (interface_id 0 ∷ interface_id 1 ∷ [])
      []
      None
      ((listed ([])) ∷
      (listed ([])) ∷
      (listed ([])) ∷
      (listed (
      (assign (var 5 5) (known (pos 1) 5)) ∷ [])) ∷
      (listed (
      (built_in (write (plain (quoted (codes "gone")) ∷ []) true)) ∷
      (call (then (obj 6 20) (method (routine_id 1) Direct (argued [])) (id 9))) ∷ [])) ∷
      (listed (
      (assign (var 7 19) (to ToInterface 19 (expression (construct (class_id 2) (routine_id 0) (argued [])) (id 20) no_steps))) ∷ [])) ∷
      (listed (
      (if_then (then (expression (call_of (routine_id 5) (argued [])) (id 19) no_steps) (method (routine_id 2) ByInterface (argued [])) (id 5)) (built_in (write (plain (quoted (codes "then")) ∷ []) true))) ∷
      (repeat_until (listed (
      (built_in (write (plain (quoted (codes "turn")) ∷ []) true)) ∷ [])) (then (expression (call_of (routine_id 5) (argued [])) (id 19) no_steps) (method (routine_id 2) ByInterface (argued [])) (id 5))) ∷
      (while_do (signed false 5 Not (then (expression (call_of (routine_id 5) (argued [])) (id 19) no_steps) (method (routine_id 2) ByInterface (argued [])) (id 5))) (built_in (write (plain (quoted (codes "never")) ∷ []) true))) ∷
      (built_in (write (plain (quoted (codes "end")) ∷ []) true)) ∷ [])) ∷
      [])

  face_condition_end_runs : outcome 4000 face_condition_end ([]) ≡ ends_with (makes 16 ∷ frees 1 ∷ makes 16 ∷ frees 2 ∷ makes 16 ∷ frees 3 ∷ []) (said (codes "gone") ++ said (codes "then") ++ said (codes "turn") ++ said (codes "gone") ++ said (codes "gone") ++ said (codes "end")) ([]) 0
  unfolding outcome
  face_condition_end_runs = refl

  -- A new instance as a const argument: a temporary holds it for the call
  abbrev face_const_new : Program
  face_const_new = program name
      (Class (class_id 0) ∷ Interface (interface_id 0) ∷ Class (class_id 1) ∷ Class (class_id 2) ∷ [])
      []
      (row name 16 ObjectRole None ∷ row name 16 ObjectRole None ∷ row name 19 ObjectRole None ∷ row name 17 (Parameter Const_) None ∷ [])
      (routine_row name (codes "create") Constructor (OfClass (class_id 0)) 0 None 0 1 ∷ routine_row name (codes "destroy") Destructor (OfClass (class_id 0)) 0 None 1 1 ∷ routine_row name (codes "destroy") Destructor (OfClass (class_id 2)) 0 None 2 1 ∷ routine_row name (codes "p") Procedure OfUnit 1 None 3 1 ∷ [])
      (class_row (codes "TObject") 16 None 0 0 0 2 0 0 ∷ class_row (codes "TInterfacedObject") 18 (Some (class_id 0)) 0 0 2 0 0 1 ∷ class_row (codes "TA") 19 (Some (class_id 1)) 0 0 2 1 1 0 ∷ [])
      (interface_row (codes "iunknown") 17 None 3 0 ∷ [])
      (method_row 0 Static false ∷ method_row 1 VirtualBinding false ∷ method_row 2 Override false ∷ [])
      (interface_id 0 ∷ [])
      []
      None
      ((listed ([])) ∷
      (listed ([])) ∷
      (listed (
      (built_in (write (plain (quoted (codes "gone")) ∷ []) true)) ∷
      (call (then (obj 2 19) (method (routine_id 1) Direct (argued [])) (id 9))) ∷ [])) ∷
      (listed (
      (built_in (write (plain (quoted (codes "in")) ∷ plain (with_q false 5 (var 3 17) NotEqual (to Keep 17 nothing)) ∷ []) true)) ∷ [])) ∷
      (listed (
      (call (expression (call_of (routine_id 3) (argued (value (to ToInterface 17 (expression (construct (class_id 2) (routine_id 0) (argued [])) (id 19) no_steps)) ∷ []))) (id 9) no_steps)) ∷
      (built_in (write (plain (quoted (codes "end")) ∷ []) true)) ∷ [])) ∷
      [])

  face_const_new_runs : outcome 4000 face_const_new ([]) ≡ ends_with (makes 16 ∷ frees 1 ∷ []) (said (codes "inTRUE") ++ said (codes "gone") ++ said (codes "end")) ([]) 0
  unfolding outcome
  face_const_new_runs = refl

  -- A const parameter holds its instance while the global lets go
  abbrev face_const_parameter : Program
  face_const_parameter = program name
      (Class (class_id 0) ∷ Interface (interface_id 0) ∷ Class (class_id 1) ∷ Interface (interface_id 1) ∷ Class (class_id 2) ∷ [])
      []
      (row name 19 Plain None ∷ row name 16 ObjectRole None ∷ row name 16 ObjectRole None ∷ row name 19 ObjectRole None ∷ row name 20 ObjectRole None ∷ row name 20 ObjectRole None ∷ row name 19 (Parameter Const_) None ∷ [])
      (routine_row name (codes "create") Constructor (OfClass (class_id 0)) 0 None 1 1 ∷ routine_row name (codes "destroy") Destructor (OfClass (class_id 0)) 0 None 2 1 ∷ routine_row name (codes "say") Procedure (OfInterface (interface_id 1)) 0 None 3 1 ∷ routine_row name (codes "say") Procedure (OfClass (class_id 2)) 0 None 4 1 ∷ routine_row name (codes "destroy") Destructor (OfClass (class_id 2)) 0 None 5 1 ∷ routine_row name (codes "p") Procedure OfUnit 1 None 6 1 ∷ [])
      (class_row (codes "TObject") 16 None 0 0 0 2 0 0 ∷ class_row (codes "TInterfacedObject") 18 (Some (class_id 0)) 0 0 2 0 0 1 ∷ class_row (codes "TA") 20 (Some (class_id 1)) 0 0 2 2 1 1 ∷ [])
      (interface_row (codes "iunknown") 17 None 4 0 ∷ interface_row (codes "ia") 19 (Some (interface_id 0)) 4 1 ∷ [])
      (method_row 0 Static false ∷ method_row 1 VirtualBinding false ∷ method_row 3 Static false ∷ method_row 4 Override false ∷ method_row 2 Static false ∷ [])
      (interface_id 0 ∷ interface_id 1 ∷ [])
      (variable_id 0 ∷ [])
      None
      ((listed ([])) ∷
      (listed ([])) ∷
      (listed ([])) ∷
      (listed (
      (built_in (write (plain (quoted (codes "say")) ∷ []) true)) ∷ [])) ∷
      (listed (
      (built_in (write (plain (quoted (codes "gone")) ∷ []) true)) ∷
      (call (then (obj 5 20) (method (routine_id 1) Direct (argued [])) (id 9))) ∷ [])) ∷
      (listed (
      (assign (var 0 19) (to Keep 19 nothing)) ∷
      (call (then (var 6 19) (method (routine_id 2) ByInterface (argued [])) (id 9))) ∷
      (built_in (write (plain (quoted (codes "leave")) ∷ []) true)) ∷ [])) ∷
      (listed (
      (assign (var 0 19) (to ToInterface 19 (expression (construct (class_id 2) (routine_id 0) (argued [])) (id 20) no_steps))) ∷
      (call (expression (call_of (routine_id 5) (argued (value (var 0 19) ∷ []))) (id 9) no_steps)) ∷
      (built_in (write (plain (quoted (codes "end")) ∷ []) true)) ∷ [])) ∷
      [])

  face_const_parameter_runs : outcome 4000 face_const_parameter ([]) ≡ ends_with (makes 16 ∷ frees 1 ∷ []) (said (codes "say") ++ said (codes "leave") ++ said (codes "gone") ++ said (codes "end")) ([]) 0
  unfolding outcome
  face_const_parameter_runs = refl

  -- A constructor with an interface argument raises, destructors raise under Free and under a store of nil.
  abbrev face_constructor_raises : Program
  face_constructor_raises = program name
      (Class (class_id 0) ∷ Interface (interface_id 0) ∷ Class (class_id 1) ∷ Class (class_id 2) ∷ Interface (interface_id 1) ∷ Class (class_id 3) ∷ [])
      (part name 4 ∷ part name 7 ∷ part name 20 ∷ [])
      (row name 21 Plain None ∷ row name 20 Plain None ∷ row name 16 ObjectRole None ∷ row name 16 ObjectRole None ∷ row name 19 ObjectRole None ∷ row name 4 (Parameter Value) None ∷ row name 19 ObjectRole None ∷ row name 20 ObjectRole None ∷ row name 21 ObjectRole None ∷ row name 4 (Parameter Value) None ∷ row name 20 (Parameter Const_) None ∷ row name 21 ObjectRole None ∷ row name 21 ObjectRole None ∷ row name 19 Handler None ∷ row name 19 Handler None ∷ [])
      (routine_row name (codes "create") Constructor (OfClass (class_id 0)) 0 None 2 1 ∷ routine_row name (codes "destroy") Destructor (OfClass (class_id 0)) 0 None 3 1 ∷ routine_row name (codes "create") Constructor (OfClass (class_id 2)) 1 None 4 2 ∷ routine_row name (codes "destroy") Destructor (OfClass (class_id 2)) 0 None 6 1 ∷ routine_row name (codes "go") Procedure (OfInterface (interface_id 1)) 0 None 7 1 ∷ routine_row name (codes "create") Constructor (OfClass (class_id 3)) 2 None 8 3 ∷ routine_row name (codes "go") Procedure (OfClass (class_id 3)) 0 None 11 1 ∷ routine_row name (codes "destroy") Destructor (OfClass (class_id 3)) 0 None 12 1 ∷ [])
      (class_row (codes "TObject") 16 None 0 0 0 2 0 0 ∷ class_row (codes "TInterfacedObject") 18 (Some (class_id 0)) 0 0 2 0 0 1 ∷ class_row (codes "E") 19 (Some (class_id 0)) 0 1 2 2 1 0 ∷ class_row (codes "TT") 21 (Some (class_id 1)) 1 2 4 3 1 1 ∷ [])
      (interface_row (codes "iunknown") 17 None 7 0 ∷ interface_row (codes "ii") 20 (Some (interface_id 0)) 7 1 ∷ [])
      (method_row 0 Static false ∷ method_row 1 VirtualBinding false ∷ method_row 2 Static false ∷ method_row 3 Override false ∷ method_row 5 Static false ∷ method_row 6 Static false ∷ method_row 7 Override false ∷ method_row 4 Static false ∷ [])
      (interface_id 0 ∷ interface_id 1 ∷ [])
      (variable_id 0 ∷ variable_id 1 ∷ [])
      None
      ((listed ([])) ∷
      (listed ([])) ∷
      (listed (
      (assign (dot (obj 4 19) 0 4) (var 5 4)) ∷ [])) ∷
      (listed (
      (built_in (write (plain (known (pos 100) 6) ∷ plain (dot (obj 6 19) 0 4) ∷ []) true)) ∷
      (call (then (obj 6 19) (method (routine_id 1) Direct (argued [])) (id 9))) ∷ [])) ∷
      (listed ([])) ∷
      (listed (
      (assign (dot (obj 8 21) 1 7) (quoted (codes "n"))) ∷
      (assign (dot (obj 8 21) 1 7) (with_q false 7 (dot (obj 8 21) 1 7) Add (quoted (codes "m")))) ∷
      (assign (dot (obj 8 21) 2 20) (var 10 20)) ∷
      (if_then (with_q false 5 (var 9 4) Equal (known (pos 1) 4)) (raise (expression (construct (class_id 2) (routine_id 2) (argued (value (var 9 4) ∷ []))) (id 19) no_steps))) ∷ [])) ∷
      (listed (
      (built_in (write (plain (quoted (codes "go")) ∷ []) true)) ∷ [])) ∷
      (listed (
      (built_in (write (plain (quoted (codes "gone ")) ∷ plain (dot (obj 12 21) 1 7) ∷ []) true)) ∷
      (if_then (with_q false 5 (dot (obj 12 21) 1 7) Equal (quoted (codes "nmx"))) (raise (expression (construct (class_id 2) (routine_id 2) (argued (value (known (pos 9) 4) ∷ []))) (id 19) no_steps))) ∷
      (call (then (obj 12 21) (method (routine_id 1) Direct (argued [])) (id 9))) ∷ [])) ∷
      (listed (
      (try_on (listed (
      (assign (var 1 20) (to ToInterface 20 (expression (construct (class_id 3) (routine_id 5) (argued (value (known (pos 1) 4) ∷ value (to ToInterface 20 (expression (construct (class_id 3) (routine_id 5) (argued (value (known (pos 0) 4) ∷ value (to Keep 20 nothing) ∷ []))) (id 21) no_steps)) ∷ []))) (id 21) no_steps))) ∷ [])) (handlers (Some (variable_id 13)) (class_id 2) (built_in (write (plain (quoted (codes "c ")) ∷ plain (dot (var 13 19) 0 4) ∷ []) true)) no_handlers)) ∷
      (assign (var 0 21) (expression (construct (class_id 3) (routine_id 5) (argued (value (known (pos 0) 4) ∷ value (to ToInterface 20 (expression (construct (class_id 3) (routine_id 5) (argued (value (known (pos 0) 4) ∷ value (to Keep 20 nothing) ∷ []))) (id 21) no_steps)) ∷ []))) (id 21) no_steps)) ∷
      (assign (dot (var 0 21) 1 7) (with_q false 7 (dot (var 0 21) 1 7) Add (quoted (codes "x")))) ∷
      (try_on (listed (
      (built_in (free (var 0 21) false)) ∷ [])) (handlers (Some (variable_id 14)) (class_id 2) (built_in (write (plain (quoted (codes "c ")) ∷ plain (dot (var 14 19) 0 4) ∷ []) true)) no_handlers)) ∷
      (assign (var 1 20) (to ToInterface 20 (expression (construct (class_id 3) (routine_id 5) (argued (value (known (pos 0) 4) ∷ value (to Keep 20 nothing) ∷ []))) (id 21) no_steps))) ∷
      (call (then (var 1 20) (method (routine_id 4) ByInterface (argued [])) (id 9))) ∷
      (assign (var 1 20) (to Keep 20 nothing)) ∷
      (built_in (write (plain (quoted (codes "last")) ∷ []) true)) ∷
      (assign (var 0 21) (expression (construct (class_id 3) (routine_id 5) (argued (value (known (pos 0) 4) ∷ value (to Keep 20 nothing) ∷ []))) (id 21) no_steps)) ∷
      (assign (dot (var 0 21) 1 7) (with_q false 7 (dot (var 0 21) 1 7) Add (quoted (codes "x")))) ∷
      (assign (var 1 20) (to ToInterface 20 (var 0 21))) ∷
      (try_on_else (listed (
      (assign (var 1 20) (to Keep 20 nothing)) ∷ [])) no_handlers (listed (
      (built_in (write (plain (quoted (codes "never")) ∷ []) true)) ∷ []))) ∷ [])) ∷
      [])

  face_constructor_raises_runs : outcome 4000 face_constructor_raises ([]) ≡ ends_with (makes 32 ∷ asks 32 ∷ makes 32 ∷ asks 32 ∷ makes 32 ∷ frees 4 ∷ frees 3 ∷ frees 2 ∷ frees 1 ∷ frees 5 ∷ makes 32 ∷ asks 32 ∷ makes 32 ∷ asks 32 ∷ asks 32 ∷ frees 9 ∷ makes 32 ∷ frees 10 ∷ frees 7 ∷ frees 6 ∷ frees 8 ∷ frees 11 ∷ makes 32 ∷ asks 32 ∷ frees 13 ∷ frees 12 ∷ makes 32 ∷ asks 32 ∷ asks 32 ∷ frees 15 ∷ makes 32 ∷ []) (said (codes "gone nm") ++ said (codes "gone nm") ++ said (codes "c 1") ++ said (codes "d1") ++ said (codes "gone nmx") ++ said (codes "gone nm") ++ said (codes "c 9") ++ said (codes "d9") ++ said (codes "go") ++ said (codes "gone nm") ++ said (codes "last") ++ said (codes "gone nmx")) (said (codes "Unhandled E: ")) 217
  unfolding outcome
  face_constructor_raises_runs = refl

  -- Two instances that hold each other stay
  abbrev face_cycle : Program
  face_cycle = program name
      (Class (class_id 0) ∷ Interface (interface_id 0) ∷ Class (class_id 1) ∷ Class (class_id 2) ∷ [])
      (part name 17 ∷ [])
      (row name 19 Plain None ∷ row name 19 Plain None ∷ row name 17 Plain None ∷ row name 16 ObjectRole None ∷ row name 16 ObjectRole None ∷ row name 19 ObjectRole None ∷ [])
      (routine_row name (codes "create") Constructor (OfClass (class_id 0)) 0 None 3 1 ∷ routine_row name (codes "destroy") Destructor (OfClass (class_id 0)) 0 None 4 1 ∷ routine_row name (codes "destroy") Destructor (OfClass (class_id 2)) 0 None 5 1 ∷ [])
      (class_row (codes "TObject") 16 None 0 0 0 2 0 0 ∷ class_row (codes "TInterfacedObject") 18 (Some (class_id 0)) 0 0 2 0 0 1 ∷ class_row (codes "TA") 19 (Some (class_id 1)) 0 1 2 1 1 0 ∷ [])
      (interface_row (codes "iunknown") 17 None 3 0 ∷ [])
      (method_row 0 Static false ∷ method_row 1 VirtualBinding false ∷ method_row 2 Override false ∷ [])
      (interface_id 0 ∷ [])
      (variable_id 0 ∷ variable_id 1 ∷ variable_id 2 ∷ [])
      None
      ((listed ([])) ∷
      (listed ([])) ∷
      (listed (
      (built_in (write (plain (quoted (codes "never")) ∷ []) true)) ∷
      (call (then (obj 5 19) (method (routine_id 1) Direct (argued [])) (id 9))) ∷ [])) ∷
      (listed (
      (assign (var 0 19) (expression (construct (class_id 2) (routine_id 0) (argued [])) (id 19) no_steps)) ∷
      (assign (var 1 19) (expression (construct (class_id 2) (routine_id 0) (argued [])) (id 19) no_steps)) ∷
      (assign (var 2 17) (to ToInterface 17 (var 0 19))) ∷
      (assign (dot (var 0 19) 0 17) (to ToInterface 17 (var 1 19))) ∷
      (assign (dot (var 1 19) 0 17) (to ToInterface 17 (var 0 19))) ∷
      (assign (var 2 17) (to Keep 17 nothing)) ∷
      (built_in (write (plain (quoted (codes "end")) ∷ []) true)) ∷ [])) ∷
      [])

  face_cycle_runs : outcome 4000 face_cycle ([]) ≡ ends_with (makes 32 ∷ makes 32 ∷ []) (said (codes "end")) ([]) 0
  unfolding outcome
  face_cycle_runs = refl

  -- A destructor that clears another variable: that instance goes within it
  abbrev face_destructor_clears : Program
  face_destructor_clears = program name
      (Class (class_id 0) ∷ Interface (interface_id 0) ∷ Class (class_id 1) ∷ Class (class_id 2) ∷ [])
      (part name 4 ∷ [])
      (row name 17 Plain None ∷ row name 17 Plain None ∷ row name 16 ObjectRole None ∷ row name 16 ObjectRole None ∷ row name 19 ObjectRole None ∷ row name 4 (Parameter Value) None ∷ row name 19 ObjectRole None ∷ [])
      (routine_row name (codes "create") Constructor (OfClass (class_id 0)) 0 None 2 1 ∷ routine_row name (codes "destroy") Destructor (OfClass (class_id 0)) 0 None 3 1 ∷ routine_row name (codes "create") Constructor (OfClass (class_id 2)) 1 None 4 2 ∷ routine_row name (codes "destroy") Destructor (OfClass (class_id 2)) 0 None 6 1 ∷ [])
      (class_row (codes "TObject") 16 None 0 0 0 2 0 0 ∷ class_row (codes "TInterfacedObject") 18 (Some (class_id 0)) 0 0 2 0 0 1 ∷ class_row (codes "TA") 19 (Some (class_id 1)) 0 1 2 2 1 0 ∷ [])
      (interface_row (codes "iunknown") 17 None 4 0 ∷ [])
      (method_row 0 Static false ∷ method_row 1 VirtualBinding false ∷ method_row 2 Static false ∷ method_row 3 Override false ∷ [])
      (interface_id 0 ∷ [])
      (variable_id 0 ∷ variable_id 1 ∷ [])
      None
      ((listed ([])) ∷
      (listed ([])) ∷
      (listed (
      (assign (dot (obj 4 19) 0 4) (var 5 4)) ∷ [])) ∷
      (listed (
      (built_in (write (plain (quoted (codes "in ")) ∷ plain (dot (obj 6 19) 0 4) ∷ []) true)) ∷
      (if_then (with_q false 5 (dot (obj 6 19) 0 4) Equal (known (pos 1) 4)) (assign (var 1 17) (to Keep 17 nothing))) ∷
      (built_in (write (plain (quoted (codes "out ")) ∷ plain (dot (obj 6 19) 0 4) ∷ []) true)) ∷
      (call (then (obj 6 19) (method (routine_id 1) Direct (argued [])) (id 9))) ∷ [])) ∷
      (listed (
      (assign (var 0 17) (to ToInterface 17 (expression (construct (class_id 2) (routine_id 2) (argued (value (known (pos 1) 4) ∷ []))) (id 19) no_steps))) ∷
      (assign (var 1 17) (to ToInterface 17 (expression (construct (class_id 2) (routine_id 2) (argued (value (known (pos 2) 4) ∷ []))) (id 19) no_steps))) ∷
      (assign (var 0 17) (to Keep 17 nothing)) ∷
      (built_in (write (plain (quoted (codes "end")) ∷ plain (with_q false 5 (var 1 17) Equal (to Keep 17 nothing)) ∷ []) true)) ∷ [])) ∷
      [])

  face_destructor_clears_runs : outcome 4000 face_destructor_clears ([]) ≡ ends_with (makes 32 ∷ makes 32 ∷ frees 2 ∷ frees 1 ∷ []) (said (codes "in 1") ++ said (codes "in 2") ++ said (codes "out 2") ++ said (codes "out 1") ++ said (codes "endTRUE")) ([]) 0
  unfolding outcome
  face_destructor_clears_runs = refl

  -- Texts and other instances in fields are still there while the destructor runs
  abbrev face_destructor_uses_fields : Program
  face_destructor_uses_fields = program name
      (Class (class_id 0) ∷ Interface (interface_id 0) ∷ Class (class_id 1) ∷ Class (class_id 2) ∷ DynamicArray (id 17) ∷ [])
      (part name 7 ∷ part name 20 ∷ [])
      (row name 19 Plain None ∷ row name 17 Plain None ∷ row name 16 ObjectRole None ∷ row name 16 ObjectRole None ∷ row name 19 ObjectRole None ∷ [])
      (routine_row name (codes "create") Constructor (OfClass (class_id 0)) 0 None 2 1 ∷ routine_row name (codes "destroy") Destructor (OfClass (class_id 0)) 0 None 3 1 ∷ routine_row name (codes "destroy") Destructor (OfClass (class_id 2)) 0 None 4 1 ∷ [])
      (class_row (codes "TObject") 16 None 0 0 0 2 0 0 ∷ class_row (codes "TInterfacedObject") 18 (Some (class_id 0)) 0 0 2 0 0 1 ∷ class_row (codes "TA") 19 (Some (class_id 1)) 0 2 2 1 1 0 ∷ [])
      (interface_row (codes "iunknown") 17 None 3 0 ∷ [])
      (method_row 0 Static false ∷ method_row 1 VirtualBinding false ∷ method_row 2 Override false ∷ [])
      (interface_id 0 ∷ [])
      (variable_id 0 ∷ variable_id 1 ∷ [])
      None
      ((listed ([])) ∷
      (listed ([])) ∷
      (listed (
      (built_in (write (plain (dot (obj 4 19) 0 7) ∷ plain (applying Length false (dot (obj 4 19) 1 20) 4) ∷ []) true)) ∷
      (call (then (obj 4 19) (method (routine_id 1) Direct (argued [])) (id 9))) ∷
      (built_in (write (plain (dot (obj 4 19) 0 7) ∷ plain (applying Length false (dot (obj 4 19) 1 20) 4) ∷ []) true)) ∷ [])) ∷
      (listed (
      (assign (var 0 19) (expression (construct (class_id 2) (routine_id 0) (argued [])) (id 19) no_steps)) ∷
      (assign (var 1 17) (to ToInterface 17 (var 0 19))) ∷
      (assign (dot (var 0 19) 0 7) (quoted (codes "in"))) ∷
      (built_in (set_length (dot (var 0 19) 1 20) (known (pos 2) 4))) ∷
      (assign (at (dot (var 0 19) 1 20) (known (pos 1) 4) 17) (to ToInterface 17 (expression (construct (class_id 2) (routine_id 0) (argued [])) (id 19) no_steps))) ∷
      (assign (var 1 17) (to Keep 17 nothing)) ∷
      (built_in (write (plain (quoted (codes "end")) ∷ []) true)) ∷ [])) ∷
      [])

  face_destructor_uses_fields_runs : outcome 4000 face_destructor_uses_fields ([]) ≡ ends_with (makes 32 ∷ asks 32 ∷ makes 32 ∷ frees 3 ∷ frees 2 ∷ frees 1 ∷ []) (said (codes "in2") ++ said (codes "in2") ++ said (codes "0") ++ said (codes "0") ++ said (codes "end")) ([]) 0
  unfolding outcome
  face_destructor_uses_fields_runs = refl

  -- Exit out of a routine with locals that hold instances
  abbrev face_exit : Program
  face_exit = program name
      (Class (class_id 0) ∷ Interface (interface_id 0) ∷ Class (class_id 1) ∷ Class (class_id 2) ∷ [])
      []
      (row name 16 ObjectRole None ∷ row name 16 ObjectRole None ∷ row name 19 ObjectRole None ∷ row name 4 (Parameter Value) None ∷ row name 4 Result None ∷ row name 17 Plain None ∷ [])
      (routine_row name (codes "create") Constructor (OfClass (class_id 0)) 0 None 0 1 ∷ routine_row name (codes "destroy") Destructor (OfClass (class_id 0)) 0 None 1 1 ∷ routine_row name (codes "destroy") Destructor (OfClass (class_id 2)) 0 None 2 1 ∷ routine_row name (codes "f") FunctionKind OfUnit 1 (Some 4) 3 3 ∷ [])
      (class_row (codes "TObject") 16 None 0 0 0 2 0 0 ∷ class_row (codes "TInterfacedObject") 18 (Some (class_id 0)) 0 0 2 0 0 1 ∷ class_row (codes "TA") 19 (Some (class_id 1)) 0 0 2 1 1 0 ∷ [])
      (interface_row (codes "iunknown") 17 None 3 0 ∷ [])
      (method_row 0 Static false ∷ method_row 1 VirtualBinding false ∷ method_row 2 Override false ∷ [])
      (interface_id 0 ∷ [])
      []
      None
      ((listed ([])) ∷
      (listed ([])) ∷
      (listed (
      (built_in (write (plain (quoted (codes "gone")) ∷ []) true)) ∷
      (call (then (obj 2 19) (method (routine_id 1) Direct (argued [])) (id 9))) ∷ [])) ∷
      (listed (
      (assign (var 5 17) (to ToInterface 17 (expression (construct (class_id 2) (routine_id 0) (argued [])) (id 19) no_steps))) ∷
      (assign (var 4 4) (known (pos 1) 4)) ∷
      (if_then (with_q false 5 (var 3 4) Equal (known (pos 1) 4)) (exit_with (known (pos 2) 4))) ∷
      (while_do (with_q false 5 (var 3 4) Greater (known (pos 0) 4)) (block (listed (
      (if_then (with_q false 5 (var 3 4) Equal (known (pos 2) 4)) (exit)) ∷
      (assign (var 3 4) (with_q false 4 (var 3 4) Subtract (known (pos 1) 4))) ∷ [])))) ∷ [])) ∷
      (listed (
      (built_in (write (plain (expression (call_of (routine_id 3) (argued (value (known (pos 1) 4) ∷ []))) (id 4) no_steps) ∷ []) true)) ∷
      (built_in (write (plain (expression (call_of (routine_id 3) (argued (value (known (pos 2) 4) ∷ []))) (id 4) no_steps) ∷ []) true)) ∷
      (built_in (write (plain (expression (call_of (routine_id 3) (argued (value (known (pos 0) 4) ∷ []))) (id 4) no_steps) ∷ []) true)) ∷ [])) ∷
      [])

  face_exit_runs : outcome 4000 face_exit ([]) ≡ ends_with (makes 16 ∷ frees 1 ∷ makes 16 ∷ frees 2 ∷ makes 16 ∷ frees 3 ∷ []) (said (codes "gone") ++ said (codes "2") ++ said (codes "gone") ++ said (codes "1") ++ said (codes "gone") ++ said (codes "1")) ([]) 0
  unfolding outcome
  face_exit_runs = refl

  -- A field that is ended is filled again by the destructor of what it held
  abbrev face_field_refilled : Program
  face_field_refilled = program name
      (Class (class_id 0) ∷ Interface (interface_id 0) ∷ Class (class_id 1) ∷ Class (class_id 2) ∷ Class (class_id 3) ∷ [])
      (part name 17 ∷ part name 19 ∷ [])
      (row name 19 Plain None ∷ row name 20 Plain None ∷ row name 16 ObjectRole None ∷ row name 16 ObjectRole None ∷ row name 19 ObjectRole None ∷ row name 20 ObjectRole None ∷ [])
      (routine_row name (codes "create") Constructor (OfClass (class_id 0)) 0 None 2 1 ∷ routine_row name (codes "destroy") Destructor (OfClass (class_id 0)) 0 None 3 1 ∷ routine_row name (codes "destroy") Destructor (OfClass (class_id 2)) 0 None 4 1 ∷ routine_row name (codes "destroy") Destructor (OfClass (class_id 3)) 0 None 5 1 ∷ [])
      (class_row (codes "TObject") 16 None 0 0 0 2 0 0 ∷ class_row (codes "TInterfacedObject") 18 (Some (class_id 0)) 0 0 2 0 0 1 ∷ class_row (codes "TA") 19 (Some (class_id 1)) 0 1 2 1 1 0 ∷ class_row (codes "TB") 20 (Some (class_id 1)) 1 1 3 1 1 0 ∷ [])
      (interface_row (codes "iunknown") 17 None 4 0 ∷ [])
      (method_row 0 Static false ∷ method_row 1 VirtualBinding false ∷ method_row 2 Override false ∷ method_row 3 Override false ∷ [])
      (interface_id 0 ∷ [])
      (variable_id 0 ∷ variable_id 1 ∷ [])
      None
      ((listed ([])) ∷
      (listed ([])) ∷
      (listed (
      (built_in (write (plain (known (pos 65) 6) ∷ []) true)) ∷
      (call (then (obj 4 19) (method (routine_id 1) Direct (argued [])) (id 9))) ∷ [])) ∷
      (listed (
      (built_in (write (plain (known (pos 66) 6) ∷ []) true)) ∷
      (assign (dot (dot (obj 5 20) 1 19) 0 17) (to ToInterface 17 (expression (construct (class_id 1) (routine_id 0) (argued [])) (id 18) no_steps))) ∷
      (call (then (obj 5 20) (method (routine_id 1) Direct (argued [])) (id 9))) ∷ [])) ∷
      (listed (
      (assign (var 0 19) (expression (construct (class_id 2) (routine_id 0) (argued [])) (id 19) no_steps)) ∷
      (assign (var 1 20) (expression (construct (class_id 3) (routine_id 0) (argued [])) (id 20) no_steps)) ∷
      (assign (dot (var 1 20) 1 19) (var 0 19)) ∷
      (assign (dot (var 0 19) 0 17) (to ToInterface 17 (var 1 20))) ∷
      (built_in (free (var 0 19) false)) ∷
      (built_in (write (plain (quoted (codes "never")) ∷ []) true)) ∷ [])) ∷
      [])

  face_field_refilled_runs : outcome 4000 face_field_refilled ([]) ≡ ends_with (makes 32 ∷ makes 32 ∷ makes 16 ∷ frees 2 ∷ []) (said (codes "A") ++ said (codes "B")) (said (codes "Runtime error 204")) 204
  unfolding outcome
  face_field_refilled_runs = refl

  -- for in over an array of interfaces: the loop's variable holds the last one
  abbrev face_for_in : Program
  face_for_in = program name
      (Class (class_id 0) ∷ Interface (interface_id 0) ∷ Class (class_id 1) ∷ Class (class_id 2) ∷ DynamicArray (id 17) ∷ [])
      (part name 4 ∷ [])
      (row name 20 Plain None ∷ row name 17 Plain None ∷ row name 16 ObjectRole None ∷ row name 16 ObjectRole None ∷ row name 19 ObjectRole None ∷ row name 4 (Parameter Value) None ∷ row name 19 ObjectRole None ∷ [])
      (routine_row name (codes "create") Constructor (OfClass (class_id 0)) 0 None 2 1 ∷ routine_row name (codes "destroy") Destructor (OfClass (class_id 0)) 0 None 3 1 ∷ routine_row name (codes "create") Constructor (OfClass (class_id 2)) 1 None 4 2 ∷ routine_row name (codes "destroy") Destructor (OfClass (class_id 2)) 0 None 6 1 ∷ [])
      (class_row (codes "TObject") 16 None 0 0 0 2 0 0 ∷ class_row (codes "TInterfacedObject") 18 (Some (class_id 0)) 0 0 2 0 0 1 ∷ class_row (codes "TA") 19 (Some (class_id 1)) 0 1 2 2 1 0 ∷ [])
      (interface_row (codes "iunknown") 17 None 4 0 ∷ [])
      (method_row 0 Static false ∷ method_row 1 VirtualBinding false ∷ method_row 2 Static false ∷ method_row 3 Override false ∷ [])
      (interface_id 0 ∷ [])
      (variable_id 0 ∷ variable_id 1 ∷ [])
      None
      ((listed ([])) ∷
      (listed ([])) ∷
      (listed (
      (assign (dot (obj 4 19) 0 4) (var 5 4)) ∷ [])) ∷
      (listed (
      (built_in (write (plain (quoted (codes "gone ")) ∷ plain (dot (obj 6 19) 0 4) ∷ []) true)) ∷
      (call (then (obj 6 19) (method (routine_id 1) Direct (argued [])) (id 9))) ∷ [])) ∷
      (listed (
      (built_in (set_length (var 0 20) (known (pos 2) 4))) ∷
      (assign (at (var 0 20) (known (pos 0) 4) 17) (to ToInterface 17 (expression (construct (class_id 2) (routine_id 2) (argued (value (known (pos 1) 4) ∷ []))) (id 19) no_steps))) ∷
      (assign (at (var 0 20) (known (pos 1) 4) 17) (to ToInterface 17 (expression (construct (class_id 2) (routine_id 2) (argued (value (known (pos 2) 4) ∷ []))) (id 19) no_steps))) ∷
      (for_in (variable_id 1) Keep (var 0 20) (built_in (write (plain (with_q false 5 (var 1 17) NotEqual (to Keep 17 nothing)) ∷ []) true))) ∷
      (assign (var 0 20) (to Keep 20 nothing)) ∷
      (built_in (write (plain (quoted (codes "cleared")) ∷ []) true)) ∷
      (assign (var 1 17) (to Keep 17 nothing)) ∷ [])) ∷
      [])

  face_for_in_runs : outcome 4000 face_for_in ([]) ≡ ends_with (asks 32 ∷ makes 32 ∷ makes 32 ∷ frees 2 ∷ frees 1 ∷ frees 3 ∷ []) (said (codes "TRUE") ++ said (codes "TRUE") ++ said (codes "gone 1") ++ said (codes "cleared") ++ said (codes "gone 2")) ([]) 0
  unfolding outcome
  face_for_in_runs = refl

  -- An instance that no interface has held yet is freed like others
  abbrev face_free_unheld : Program
  face_free_unheld = program name
      (Class (class_id 0) ∷ Interface (interface_id 0) ∷ Class (class_id 1) ∷ Class (class_id 2) ∷ [])
      []
      (row name 19 Plain None ∷ row name 16 ObjectRole None ∷ row name 16 ObjectRole None ∷ row name 19 ObjectRole None ∷ [])
      (routine_row name (codes "create") Constructor (OfClass (class_id 0)) 0 None 1 1 ∷ routine_row name (codes "destroy") Destructor (OfClass (class_id 0)) 0 None 2 1 ∷ routine_row name (codes "destroy") Destructor (OfClass (class_id 2)) 0 None 3 1 ∷ [])
      (class_row (codes "TObject") 16 None 0 0 0 2 0 0 ∷ class_row (codes "TInterfacedObject") 18 (Some (class_id 0)) 0 0 2 0 0 1 ∷ class_row (codes "TA") 19 (Some (class_id 1)) 0 0 2 1 1 0 ∷ [])
      (interface_row (codes "iunknown") 17 None 3 0 ∷ [])
      (method_row 0 Static false ∷ method_row 1 VirtualBinding false ∷ method_row 2 Override false ∷ [])
      (interface_id 0 ∷ [])
      (variable_id 0 ∷ [])
      None
      ((listed ([])) ∷
      (listed ([])) ∷
      (listed (
      (built_in (write (plain (quoted (codes "gone")) ∷ []) true)) ∷
      (call (then (obj 3 19) (method (routine_id 1) Direct (argued [])) (id 9))) ∷ [])) ∷
      (listed (
      (assign (var 0 19) (expression (construct (class_id 2) (routine_id 0) (argued [])) (id 19) no_steps)) ∷
      (built_in (write (plain (quoted (codes "made")) ∷ []) true)) ∷
      (built_in (free (var 0 19) false)) ∷
      (built_in (write (plain (quoted (codes "end")) ∷ []) true)) ∷ [])) ∷
      [])

  face_free_unheld_runs : outcome 4000 face_free_unheld ([]) ≡ ends_with (makes 16 ∷ frees 1 ∷ []) (said (codes "made") ++ said (codes "gone") ++ said (codes "end")) ([]) 0
  unfolding outcome
  face_free_unheld_runs = refl

  -- At the end the globals go in order of declaration; a destructor sees those that are still there
  abbrev face_globals_end : Program
  face_globals_end = program name
      (Class (class_id 0) ∷ Interface (interface_id 0) ∷ Class (class_id 1) ∷ Class (class_id 2) ∷ [])
      (part name 4 ∷ [])
      (row name 7 Plain None ∷ row name 17 Plain None ∷ row name 17 Plain None ∷ row name 7 Plain None ∷ row name 16 ObjectRole None ∷ row name 16 ObjectRole None ∷ row name 19 ObjectRole None ∷ row name 4 (Parameter Value) None ∷ row name 19 ObjectRole None ∷ [])
      (routine_row name (codes "create") Constructor (OfClass (class_id 0)) 0 None 4 1 ∷ routine_row name (codes "destroy") Destructor (OfClass (class_id 0)) 0 None 5 1 ∷ routine_row name (codes "create") Constructor (OfClass (class_id 2)) 1 None 6 2 ∷ routine_row name (codes "destroy") Destructor (OfClass (class_id 2)) 0 None 8 1 ∷ [])
      (class_row (codes "TObject") 16 None 0 0 0 2 0 0 ∷ class_row (codes "TInterfacedObject") 18 (Some (class_id 0)) 0 0 2 0 0 1 ∷ class_row (codes "TA") 19 (Some (class_id 1)) 0 1 2 2 1 0 ∷ [])
      (interface_row (codes "iunknown") 17 None 4 0 ∷ [])
      (method_row 0 Static false ∷ method_row 1 VirtualBinding false ∷ method_row 2 Static false ∷ method_row 3 Override false ∷ [])
      (interface_id 0 ∷ [])
      (variable_id 0 ∷ variable_id 1 ∷ variable_id 2 ∷ variable_id 3 ∷ [])
      None
      ((listed ([])) ∷
      (listed ([])) ∷
      (listed (
      (assign (dot (obj 6 19) 0 4) (var 7 4)) ∷ [])) ∷
      (listed (
      (built_in (write (plain (quoted (codes "gone ")) ∷ plain (dot (obj 8 19) 0 4) ∷ plain (with_q false 5 (var 1 17) Equal (to Keep 17 nothing)) ∷ plain (with_q false 5 (var 2 17) Equal (to Keep 17 nothing)) ∷ plain (applying Length false (var 0 7) 4) ∷ plain (applying Length false (var 3 7) 4) ∷ []) true)) ∷
      (call (then (obj 8 19) (method (routine_id 1) Direct (argued [])) (id 9))) ∷ [])) ∷
      (listed (
      (assign (var 0 7) (quoted (codes "ab"))) ∷
      (assign (var 3 7) (quoted (codes "abc"))) ∷
      (assign (var 2 17) (to ToInterface 17 (expression (construct (class_id 2) (routine_id 2) (argued (value (known (pos 2) 4) ∷ []))) (id 19) no_steps))) ∷
      (assign (var 1 17) (to ToInterface 17 (expression (construct (class_id 2) (routine_id 2) (argued (value (known (pos 1) 4) ∷ []))) (id 19) no_steps))) ∷
      (built_in (write (plain (quoted (codes "end")) ∷ []) true)) ∷ [])) ∷
      [])

  face_globals_end_runs : outcome 4000 face_globals_end ([]) ≡ ends_with (makes 32 ∷ makes 32 ∷ frees 2 ∷ frees 1 ∷ []) (said (codes "end") ++ said (codes "gone 1TRUEFALSE03") ++ said (codes "gone 2TRUETRUE03")) ([]) 0
  unfolding outcome
  face_globals_end_runs = refl

  -- Halt in a routine whose local holds an instance: that one stays, the global's one goes
  abbrev face_halt : Program
  face_halt = program name
      (Class (class_id 0) ∷ Interface (interface_id 0) ∷ Class (class_id 1) ∷ Class (class_id 2) ∷ [])
      (part name 4 ∷ [])
      (row name 17 Plain None ∷ row name 16 ObjectRole None ∷ row name 16 ObjectRole None ∷ row name 19 ObjectRole None ∷ row name 4 (Parameter Value) None ∷ row name 19 ObjectRole None ∷ row name 17 Plain None ∷ [])
      (routine_row name (codes "create") Constructor (OfClass (class_id 0)) 0 None 1 1 ∷ routine_row name (codes "destroy") Destructor (OfClass (class_id 0)) 0 None 2 1 ∷ routine_row name (codes "create") Constructor (OfClass (class_id 2)) 1 None 3 2 ∷ routine_row name (codes "destroy") Destructor (OfClass (class_id 2)) 0 None 5 1 ∷ routine_row name (codes "p") Procedure OfUnit 0 None 6 1 ∷ [])
      (class_row (codes "TObject") 16 None 0 0 0 2 0 0 ∷ class_row (codes "TInterfacedObject") 18 (Some (class_id 0)) 0 0 2 0 0 1 ∷ class_row (codes "TA") 19 (Some (class_id 1)) 0 1 2 2 1 0 ∷ [])
      (interface_row (codes "iunknown") 17 None 4 0 ∷ [])
      (method_row 0 Static false ∷ method_row 1 VirtualBinding false ∷ method_row 2 Static false ∷ method_row 3 Override false ∷ [])
      (interface_id 0 ∷ [])
      (variable_id 0 ∷ [])
      None
      ((listed ([])) ∷
      (listed ([])) ∷
      (listed (
      (assign (dot (obj 3 19) 0 4) (var 4 4)) ∷ [])) ∷
      (listed (
      (built_in (write (plain (quoted (codes "gone ")) ∷ plain (dot (obj 5 19) 0 4) ∷ []) true)) ∷
      (call (then (obj 5 19) (method (routine_id 1) Direct (argued [])) (id 9))) ∷ [])) ∷
      (listed (
      (assign (var 6 17) (to ToInterface 17 (expression (construct (class_id 2) (routine_id 2) (argued (value (known (pos 2) 4) ∷ []))) (id 19) no_steps))) ∷
      (halt (known (pos 6) 4)) ∷ [])) ∷
      (listed (
      (assign (var 0 17) (to ToInterface 17 (expression (construct (class_id 2) (routine_id 2) (argued (value (known (pos 1) 4) ∷ []))) (id 19) no_steps))) ∷
      (call (expression (call_of (routine_id 4) (argued [])) (id 9) no_steps)) ∷ [])) ∷
      [])

  face_halt_runs : outcome 4000 face_halt ([]) ≡ ends_with (makes 32 ∷ makes 32 ∷ frees 1 ∷ []) (said (codes "gone 1")) ([]) 6
  unfolding outcome
  face_halt_runs = refl

  -- Free of an instance that an interface holds
  abbrev face_held_free : Program
  face_held_free = program name
      (Class (class_id 0) ∷ Interface (interface_id 0) ∷ Class (class_id 1) ∷ Class (class_id 2) ∷ [])
      []
      (row name 19 Plain None ∷ row name 17 Plain None ∷ row name 16 ObjectRole None ∷ row name 16 ObjectRole None ∷ row name 19 ObjectRole None ∷ [])
      (routine_row name (codes "create") Constructor (OfClass (class_id 0)) 0 None 2 1 ∷ routine_row name (codes "destroy") Destructor (OfClass (class_id 0)) 0 None 3 1 ∷ routine_row name (codes "destroy") Destructor (OfClass (class_id 2)) 0 None 4 1 ∷ [])
      (class_row (codes "TObject") 16 None 0 0 0 2 0 0 ∷ class_row (codes "TInterfacedObject") 18 (Some (class_id 0)) 0 0 2 0 0 1 ∷ class_row (codes "TA") 19 (Some (class_id 1)) 0 0 2 1 1 0 ∷ [])
      (interface_row (codes "iunknown") 17 None 3 0 ∷ [])
      (method_row 0 Static false ∷ method_row 1 VirtualBinding false ∷ method_row 2 Override false ∷ [])
      (interface_id 0 ∷ [])
      (variable_id 0 ∷ variable_id 1 ∷ [])
      None
      ((listed ([])) ∷
      (listed ([])) ∷
      (listed (
      (built_in (write (plain (quoted (codes "never")) ∷ []) true)) ∷
      (call (then (obj 4 19) (method (routine_id 1) Direct (argued [])) (id 9))) ∷ [])) ∷
      (listed (
      (assign (var 0 19) (expression (construct (class_id 2) (routine_id 0) (argued [])) (id 19) no_steps)) ∷
      (assign (var 1 17) (to ToInterface 17 (var 0 19))) ∷
      (built_in (write (plain (quoted (codes "held")) ∷ []) true)) ∷
      (built_in (free (var 0 19) false)) ∷ [])) ∷
      [])

  face_held_free_runs : outcome 4000 face_held_free ([]) ≡ ends_with (makes 16 ∷ []) (said (codes "held")) (said (codes "Runtime error 204")) 204
  unfolding outcome
  face_held_free_runs = refl

  -- Interfaces in an array go one by one, in order
  abbrev face_in_array : Program
  face_in_array = program name
      (Class (class_id 0) ∷ Interface (interface_id 0) ∷ Class (class_id 1) ∷ Class (class_id 2) ∷ DynamicArray (id 17) ∷ [])
      (part name 4 ∷ [])
      (row name 20 Plain None ∷ row name 4 Plain None ∷ row name 16 ObjectRole None ∷ row name 16 ObjectRole None ∷ row name 19 ObjectRole None ∷ row name 4 (Parameter Value) None ∷ row name 19 ObjectRole None ∷ [])
      (routine_row name (codes "create") Constructor (OfClass (class_id 0)) 0 None 2 1 ∷ routine_row name (codes "destroy") Destructor (OfClass (class_id 0)) 0 None 3 1 ∷ routine_row name (codes "create") Constructor (OfClass (class_id 2)) 1 None 4 2 ∷ routine_row name (codes "destroy") Destructor (OfClass (class_id 2)) 0 None 6 1 ∷ [])
      (class_row (codes "TObject") 16 None 0 0 0 2 0 0 ∷ class_row (codes "TInterfacedObject") 18 (Some (class_id 0)) 0 0 2 0 0 1 ∷ class_row (codes "TA") 19 (Some (class_id 1)) 0 1 2 2 1 0 ∷ [])
      (interface_row (codes "iunknown") 17 None 4 0 ∷ [])
      (method_row 0 Static false ∷ method_row 1 VirtualBinding false ∷ method_row 2 Static false ∷ method_row 3 Override false ∷ [])
      (interface_id 0 ∷ [])
      (variable_id 0 ∷ variable_id 1 ∷ [])
      None
      ((listed ([])) ∷
      (listed ([])) ∷
      (listed (
      (assign (dot (obj 4 19) 0 4) (var 5 4)) ∷ [])) ∷
      (listed (
      (built_in (write (plain (known (pos 45) 6) ∷ plain (dot (obj 6 19) 0 4) ∷ plain (known (pos 32) 6) ∷ []) false)) ∷
      (call (then (obj 6 19) (method (routine_id 1) Direct (argued [])) (id 9))) ∷ [])) ∷
      (listed (
      (built_in (set_length (var 0 20) (known (pos 4) 4))) ∷
      (for_to (variable_id 1) (known (pos 0) 4) To (known (pos 3) 4) (assign (at (var 0 20) (var 1 4) 17) (to ToInterface 17 (expression (construct (class_id 2) (routine_id 2) (argued (value (var 1 4) ∷ []))) (id 19) no_steps)))) ∷
      (built_in (set_length (var 0 20) (known (pos 3) 4))) ∷
      (built_in (write (plain (quoted (codes "shorter")) ∷ []) true)) ∷
      (assign (at (var 0 20) (known (pos 1) 4) 17) (at (var 0 20) (known (pos 0) 4) 17)) ∷
      (built_in (write (plain (quoted (codes "replaced")) ∷ []) true)) ∷
      (assign (var 0 20) (to Keep 20 nothing)) ∷
      (built_in (write (plain (quoted (codes "end")) ∷ []) true)) ∷ [])) ∷
      [])

  face_in_array_runs : outcome 4000 face_in_array ([]) ≡ ends_with (asks 32 ∷ makes 32 ∷ makes 32 ∷ makes 32 ∷ makes 32 ∷ asks 32 ∷ frees 5 ∷ frees 1 ∷ frees 3 ∷ frees 2 ∷ frees 4 ∷ frees 6 ∷ []) (said (codes "-3 shorter") ++ said (codes "-1 replaced") ++ said (codes "-0 -2 end")) ([]) 0
  unfolding outcome
  face_in_array_runs = refl

  -- A constructor stores Self and lets go of it: nothing is destroyed, the instance lives on
  abbrev face_in_construction : Program
  face_in_construction = program name
      (Class (class_id 0) ∷ Interface (interface_id 0) ∷ Class (class_id 1) ∷ Class (class_id 2) ∷ [])
      (part name 4 ∷ [])
      (row name 17 Plain None ∷ row name 19 Plain None ∷ row name 16 ObjectRole None ∷ row name 16 ObjectRole None ∷ row name 19 ObjectRole None ∷ row name 19 ObjectRole None ∷ [])
      (routine_row name (codes "create") Constructor (OfClass (class_id 0)) 0 None 2 1 ∷ routine_row name (codes "destroy") Destructor (OfClass (class_id 0)) 0 None 3 1 ∷ routine_row name (codes "create") Constructor (OfClass (class_id 2)) 0 None 4 1 ∷ routine_row name (codes "destroy") Destructor (OfClass (class_id 2)) 0 None 5 1 ∷ [])
      (class_row (codes "TObject") 16 None 0 0 0 2 0 0 ∷ class_row (codes "TInterfacedObject") 18 (Some (class_id 0)) 0 0 2 0 0 1 ∷ class_row (codes "TA") 19 (Some (class_id 1)) 0 1 2 2 1 0 ∷ [])
      (interface_row (codes "iunknown") 17 None 4 0 ∷ [])
      (method_row 0 Static false ∷ method_row 1 VirtualBinding false ∷ method_row 2 Static false ∷ method_row 3 Override false ∷ [])
      (interface_id 0 ∷ [])
      (variable_id 0 ∷ variable_id 1 ∷ [])
      None
      ((listed ([])) ∷
      (listed ([])) ∷
      (listed (
      (assign (var 0 17) (to ToInterface 17 (obj 4 19))) ∷
      (assign (var 0 17) (to Keep 17 nothing)) ∷
      (assign (dot (obj 4 19) 0 4) (known (pos 4) 4)) ∷ [])) ∷
      (listed (
      (built_in (write (plain (quoted (codes "gone")) ∷ []) true)) ∷
      (call (then (obj 5 19) (method (routine_id 1) Direct (argued [])) (id 9))) ∷ [])) ∷
      (listed (
      (assign (var 1 19) (expression (construct (class_id 2) (routine_id 2) (argued [])) (id 19) no_steps)) ∷
      (built_in (write (plain (dot (var 1 19) 0 4) ∷ []) true)) ∷
      (assign (var 0 17) (to ToInterface 17 (var 1 19))) ∷
      (assign (var 0 17) (to Keep 17 nothing)) ∷
      (built_in (write (plain (quoted (codes "end")) ∷ []) true)) ∷ [])) ∷
      [])

  face_in_construction_runs : outcome 4000 face_in_construction ([]) ≡ ends_with (makes 32 ∷ frees 1 ∷ []) (said (codes "4") ++ said (codes "gone") ++ said (codes "end")) ([]) 0
  unfolding outcome
  face_in_construction_runs = refl

  -- An instance that holds another: the outer one's destructor runs first
  abbrev face_in_field : Program
  face_in_field = program name
      (Class (class_id 0) ∷ Interface (interface_id 0) ∷ Class (class_id 1) ∷ Class (class_id 2) ∷ [])
      (part name 4 ∷ part name 17 ∷ [])
      (row name 17 Plain None ∷ row name 17 Plain None ∷ row name 16 ObjectRole None ∷ row name 16 ObjectRole None ∷ row name 19 ObjectRole None ∷ row name 4 (Parameter Value) None ∷ row name 17 (Parameter Const_) None ∷ row name 19 ObjectRole None ∷ [])
      (routine_row name (codes "create") Constructor (OfClass (class_id 0)) 0 None 2 1 ∷ routine_row name (codes "destroy") Destructor (OfClass (class_id 0)) 0 None 3 1 ∷ routine_row name (codes "create") Constructor (OfClass (class_id 2)) 2 None 4 3 ∷ routine_row name (codes "destroy") Destructor (OfClass (class_id 2)) 0 None 7 1 ∷ [])
      (class_row (codes "TObject") 16 None 0 0 0 2 0 0 ∷ class_row (codes "TInterfacedObject") 18 (Some (class_id 0)) 0 0 2 0 0 1 ∷ class_row (codes "TA") 19 (Some (class_id 1)) 0 2 2 2 1 0 ∷ [])
      (interface_row (codes "iunknown") 17 None 4 0 ∷ [])
      (method_row 0 Static false ∷ method_row 1 VirtualBinding false ∷ method_row 2 Static false ∷ method_row 3 Override false ∷ [])
      (interface_id 0 ∷ [])
      (variable_id 0 ∷ variable_id 1 ∷ [])
      None
      ((listed ([])) ∷
      (listed ([])) ∷
      (listed (
      (assign (dot (obj 4 19) 0 4) (var 5 4)) ∷
      (assign (dot (obj 4 19) 1 17) (var 6 17)) ∷ [])) ∷
      (listed (
      (built_in (write (plain (quoted (codes "gone ")) ∷ plain (dot (obj 7 19) 0 4) ∷ []) true)) ∷
      (call (then (obj 7 19) (method (routine_id 1) Direct (argued [])) (id 9))) ∷
      (built_in (write (plain (quoted (codes "done ")) ∷ plain (dot (obj 7 19) 0 4) ∷ []) true)) ∷ [])) ∷
      (listed (
      (assign (var 0 17) (to ToInterface 17 (expression (construct (class_id 2) (routine_id 2) (argued (value (known (pos 1) 4) ∷ value (to Keep 17 nothing) ∷ []))) (id 19) no_steps))) ∷
      (assign (var 1 17) (to ToInterface 17 (expression (construct (class_id 2) (routine_id 2) (argued (value (known (pos 2) 4) ∷ value (var 0 17) ∷ []))) (id 19) no_steps))) ∷
      (assign (var 0 17) (to ToInterface 17 (expression (construct (class_id 2) (routine_id 2) (argued (value (known (pos 3) 4) ∷ value (var 1 17) ∷ []))) (id 19) no_steps))) ∷
      (assign (var 1 17) (to Keep 17 nothing)) ∷
      (built_in (write (plain (quoted (codes "drop")) ∷ []) true)) ∷
      (assign (var 0 17) (to Keep 17 nothing)) ∷
      (built_in (write (plain (quoted (codes "end")) ∷ []) true)) ∷ [])) ∷
      [])

  face_in_field_runs : outcome 4000 face_in_field ([]) ≡ ends_with (makes 32 ∷ makes 32 ∷ makes 32 ∷ frees 1 ∷ frees 2 ∷ frees 3 ∷ []) (said (codes "drop") ++ said (codes "gone 3") ++ said (codes "done 3") ++ said (codes "gone 2") ++ said (codes "done 2") ++ said (codes "gone 1") ++ said (codes "done 1") ++ said (codes "end")) ([]) 0
  unfolding outcome
  face_in_field_runs = refl

  -- A record with an interface is copied: two holders
  abbrev face_in_record : Program
  face_in_record = program name
      (Class (class_id 0) ∷ Interface (interface_id 0) ∷ Class (class_id 1) ∷ Record (rows_at 0 2) ∷ Class (class_id 2) ∷ [])
      (part name 7 ∷ part name 17 ∷ [])
      (row name 19 Plain None ∷ row name 19 Plain None ∷ row name 19 Plain None ∷ row name 16 ObjectRole None ∷ row name 16 ObjectRole None ∷ row name 20 ObjectRole None ∷ [])
      (routine_row name (codes "create") Constructor (OfClass (class_id 0)) 0 None 3 1 ∷ routine_row name (codes "destroy") Destructor (OfClass (class_id 0)) 0 None 4 1 ∷ routine_row name (codes "destroy") Destructor (OfClass (class_id 2)) 0 None 5 1 ∷ [])
      (class_row (codes "TObject") 16 None 0 0 0 2 0 0 ∷ class_row (codes "TInterfacedObject") 18 (Some (class_id 0)) 0 0 2 0 0 1 ∷ class_row (codes "TA") 20 (Some (class_id 1)) 2 0 2 1 1 0 ∷ [])
      (interface_row (codes "iunknown") 17 None 3 0 ∷ [])
      (method_row 0 Static false ∷ method_row 1 VirtualBinding false ∷ method_row 2 Override false ∷ [])
      (interface_id 0 ∷ [])
      (variable_id 0 ∷ variable_id 1 ∷ variable_id 2 ∷ [])
      None
      ((listed ([])) ∷
      (listed ([])) ∷
      (listed (
      (built_in (write (plain (quoted (codes "gone")) ∷ []) true)) ∷
      (call (then (obj 5 20) (method (routine_id 1) Direct (argued [])) (id 9))) ∷ [])) ∷
      (listed (
      (assign (dot (var 0 19) 1 17) (to ToInterface 17 (expression (construct (class_id 2) (routine_id 0) (argued [])) (id 20) no_steps))) ∷
      (assign (var 1 19) (var 0 19)) ∷
      (assign (var 0 19) (var 2 19)) ∷
      (built_in (write (plain (quoted (codes "one left")) ∷ plain (with_q false 5 (dot (var 0 19) 1 17) Equal (to Keep 17 nothing)) ∷ []) true)) ∷
      (assign (dot (var 1 19) 1 17) (to Keep 17 nothing)) ∷
      (built_in (write (plain (quoted (codes "end")) ∷ []) true)) ∷ [])) ∷
      [])

  face_in_record_runs : outcome 4000 face_in_record ([]) ≡ ends_with (makes 16 ∷ frees 1 ∷ []) (said (codes "one leftTRUE") ++ said (codes "gone") ++ said (codes "end")) ([]) 0
  unfolding outcome
  face_in_record_runs = refl

  -- A class that implements an interface again leaves the methods of an interface that only its ancestor has as they were.
  abbrev face_inherited_interface : Program
  face_inherited_interface = program name
      (Class (class_id 0) ∷ Interface (interface_id 0) ∷ Class (class_id 1) ∷ Interface (interface_id 1) ∷ Interface (interface_id 2) ∷ Class (class_id 2) ∷ Class (class_id 3) ∷ [])
      []
      (row name 20 Plain None ∷ row name 16 ObjectRole None ∷ row name 16 ObjectRole None ∷ row name 19 ObjectRole None ∷ row name 21 ObjectRole None ∷ row name 22 ObjectRole None ∷ [])
      (routine_row name (codes "create") Constructor (OfClass (class_id 0)) 0 None 1 1 ∷ routine_row name (codes "destroy") Destructor (OfClass (class_id 0)) 0 None 2 1 ∷ routine_row name (codes "m") Procedure (OfInterface (interface_id 1)) 0 None 3 1 ∷ routine_row name (codes "m") Procedure (OfClass (class_id 2)) 0 None 4 1 ∷ routine_row name (codes "m") Procedure (OfClass (class_id 3)) 0 None 5 1 ∷ [])
      (class_row (codes "TObject") 16 None 0 0 0 2 0 0 ∷ class_row (codes "TInterfacedObject") 18 (Some (class_id 0)) 0 0 2 0 0 1 ∷ class_row (codes "A") 21 (Some (class_id 1)) 0 0 2 1 1 1 ∷ class_row (codes "B") 22 (Some (class_id 2)) 0 0 3 1 2 1 ∷ [])
      (interface_row (codes "iunknown") 17 None 4 0 ∷ interface_row (codes "ib") 19 (Some (interface_id 0)) 4 1 ∷ interface_row (codes "id") 20 (Some (interface_id 1)) 5 0 ∷ [])
      (method_row 0 Static false ∷ method_row 1 VirtualBinding false ∷ method_row 3 Static false ∷ method_row 4 Static false ∷ method_row 2 Static false ∷ [])
      (interface_id 0 ∷ interface_id 2 ∷ interface_id 1 ∷ [])
      (variable_id 0 ∷ [])
      None
      ((listed ([])) ∷
      (listed ([])) ∷
      (listed ([])) ∷
      (listed (
      (built_in (write (plain (known (pos 65) 6) ∷ []) true)) ∷ [])) ∷
      (listed (
      (built_in (write (plain (known (pos 66) 6) ∷ []) true)) ∷ [])) ∷
      (listed (
      (assign (var 0 20) (to ToInterface 20 (expression (construct (class_id 3) (routine_id 0) (argued [])) (id 22) no_steps))) ∷
      (call (then (var 0 20) (method (routine_id 2) ByInterface (argued [])) (id 9))) ∷ [])) ∷
      [])

  face_inherited_interface_runs : outcome 4000 face_inherited_interface ([]) ≡ ends_with (makes 16 ∷ frees 1 ∷ []) (said (codes "A")) ([]) 0
  unfolding outcome
  face_inherited_interface_runs = refl

  -- An instance goes when its last interface place lets go
  abbrev face_last_goes : Program
  face_last_goes = program name
      (Class (class_id 0) ∷ Interface (interface_id 0) ∷ Class (class_id 1) ∷ Class (class_id 2) ∷ [])
      []
      (row name 17 Plain None ∷ row name 17 Plain None ∷ row name 16 ObjectRole None ∷ row name 16 ObjectRole None ∷ row name 19 ObjectRole None ∷ [])
      (routine_row name (codes "create") Constructor (OfClass (class_id 0)) 0 None 2 1 ∷ routine_row name (codes "destroy") Destructor (OfClass (class_id 0)) 0 None 3 1 ∷ routine_row name (codes "destroy") Destructor (OfClass (class_id 2)) 0 None 4 1 ∷ [])
      (class_row (codes "TObject") 16 None 0 0 0 2 0 0 ∷ class_row (codes "TInterfacedObject") 18 (Some (class_id 0)) 0 0 2 0 0 1 ∷ class_row (codes "TA") 19 (Some (class_id 1)) 0 0 2 1 1 0 ∷ [])
      (interface_row (codes "iunknown") 17 None 3 0 ∷ [])
      (method_row 0 Static false ∷ method_row 1 VirtualBinding false ∷ method_row 2 Override false ∷ [])
      (interface_id 0 ∷ [])
      (variable_id 0 ∷ variable_id 1 ∷ [])
      None
      ((listed ([])) ∷
      (listed ([])) ∷
      (listed (
      (built_in (write (plain (quoted (codes "gone")) ∷ []) true)) ∷
      (call (then (obj 4 19) (method (routine_id 1) Direct (argued [])) (id 9))) ∷ [])) ∷
      (listed (
      (assign (var 0 17) (to ToInterface 17 (expression (construct (class_id 2) (routine_id 0) (argued [])) (id 19) no_steps))) ∷
      (assign (var 1 17) (var 0 17)) ∷
      (assign (var 0 17) (to Keep 17 nothing)) ∷
      (built_in (write (plain (quoted (codes "one left")) ∷ []) true)) ∷
      (assign (var 1 17) (to Keep 17 nothing)) ∷
      (built_in (write (plain (quoted (codes "end")) ∷ []) true)) ∷ [])) ∷
      [])

  face_last_goes_runs : outcome 4000 face_last_goes ([]) ≡ ends_with (makes 16 ∷ frees 1 ∷ []) (said (codes "one left") ++ said (codes "gone") ++ said (codes "end")) ([]) 0
  unfolding outcome
  face_last_goes_runs = refl

  -- A descendant that lists the interface again has its own static methods there
  abbrev face_listed_again : Program
  face_listed_again = program name
      (Class (class_id 0) ∷ Interface (interface_id 0) ∷ Class (class_id 1) ∷ Interface (interface_id 1) ∷ Class (class_id 2) ∷ Class (class_id 3) ∷ [])
      []
      (row name 19 Plain None ∷ row name 16 ObjectRole None ∷ row name 16 ObjectRole None ∷ row name 19 ObjectRole None ∷ row name 20 ObjectRole None ∷ row name 21 ObjectRole None ∷ [])
      (routine_row name (codes "create") Constructor (OfClass (class_id 0)) 0 None 1 1 ∷ routine_row name (codes "destroy") Destructor (OfClass (class_id 0)) 0 None 2 1 ∷ routine_row name (codes "s") Procedure (OfInterface (interface_id 1)) 0 None 3 1 ∷ routine_row name (codes "s") Procedure (OfClass (class_id 2)) 0 None 4 1 ∷ routine_row name (codes "s") Procedure (OfClass (class_id 3)) 0 None 5 1 ∷ [])
      (class_row (codes "TObject") 16 None 0 0 0 2 0 0 ∷ class_row (codes "TInterfacedObject") 18 (Some (class_id 0)) 0 0 2 0 0 1 ∷ class_row (codes "TA") 20 (Some (class_id 1)) 0 0 2 1 1 1 ∷ class_row (codes "TB") 21 (Some (class_id 2)) 0 0 3 1 2 1 ∷ [])
      (interface_row (codes "iunknown") 17 None 4 0 ∷ interface_row (codes "ia") 19 (Some (interface_id 0)) 4 1 ∷ [])
      (method_row 0 Static false ∷ method_row 1 VirtualBinding false ∷ method_row 3 Static false ∷ method_row 4 Static false ∷ method_row 2 Static false ∷ [])
      (interface_id 0 ∷ interface_id 1 ∷ interface_id 1 ∷ [])
      (variable_id 0 ∷ [])
      None
      ((listed ([])) ∷
      (listed ([])) ∷
      (listed ([])) ∷
      (listed (
      (built_in (write (plain (quoted (codes "A.S")) ∷ []) true)) ∷ [])) ∷
      (listed (
      (built_in (write (plain (quoted (codes "B.S")) ∷ []) true)) ∷ [])) ∷
      (listed (
      (assign (var 0 19) (to ToInterface 19 (expression (construct (class_id 2) (routine_id 0) (argued [])) (id 20) no_steps))) ∷
      (call (then (var 0 19) (method (routine_id 2) ByInterface (argued [])) (id 9))) ∷
      (assign (var 0 19) (to ToInterface 19 (expression (construct (class_id 3) (routine_id 0) (argued [])) (id 21) no_steps))) ∷
      (call (then (var 0 19) (method (routine_id 2) ByInterface (argued [])) (id 9))) ∷ [])) ∷
      [])

  face_listed_again_runs : outcome 4000 face_listed_again ([]) ≡ ends_with (makes 16 ∷ makes 16 ∷ frees 1 ∷ frees 2 ∷ []) (said (codes "A.S") ++ said (codes "B.S")) ([]) 0
  unfolding outcome
  face_listed_again_runs = refl

  -- The instance's class decides about the methods, not the type of the variable it comes from
  abbrev face_listed_by_instance : Program
  face_listed_by_instance = program name
      (Class (class_id 0) ∷ Interface (interface_id 0) ∷ Class (class_id 1) ∷ Interface (interface_id 1) ∷ Class (class_id 2) ∷ Class (class_id 3) ∷ [])
      []
      (row name 19 Plain None ∷ row name 20 Plain None ∷ row name 16 ObjectRole None ∷ row name 16 ObjectRole None ∷ row name 19 ObjectRole None ∷ row name 20 ObjectRole None ∷ row name 21 ObjectRole None ∷ [])
      (routine_row name (codes "create") Constructor (OfClass (class_id 0)) 0 None 2 1 ∷ routine_row name (codes "destroy") Destructor (OfClass (class_id 0)) 0 None 3 1 ∷ routine_row name (codes "s") Procedure (OfInterface (interface_id 1)) 0 None 4 1 ∷ routine_row name (codes "s") Procedure (OfClass (class_id 2)) 0 None 5 1 ∷ routine_row name (codes "s") Procedure (OfClass (class_id 3)) 0 None 6 1 ∷ [])
      (class_row (codes "TObject") 16 None 0 0 0 2 0 0 ∷ class_row (codes "TInterfacedObject") 18 (Some (class_id 0)) 0 0 2 0 0 1 ∷ class_row (codes "TA") 20 (Some (class_id 1)) 0 0 2 1 1 1 ∷ class_row (codes "TB") 21 (Some (class_id 2)) 0 0 3 1 2 1 ∷ [])
      (interface_row (codes "iunknown") 17 None 4 0 ∷ interface_row (codes "ia") 19 (Some (interface_id 0)) 4 1 ∷ [])
      (method_row 0 Static false ∷ method_row 1 VirtualBinding false ∷ method_row 3 Static false ∷ method_row 4 Static false ∷ method_row 2 Static false ∷ [])
      (interface_id 0 ∷ interface_id 1 ∷ interface_id 1 ∷ [])
      (variable_id 0 ∷ variable_id 1 ∷ [])
      None
      ((listed ([])) ∷
      (listed ([])) ∷
      (listed ([])) ∷
      (listed (
      (built_in (write (plain (quoted (codes "A.S")) ∷ []) true)) ∷ [])) ∷
      (listed (
      (built_in (write (plain (quoted (codes "B.S")) ∷ []) true)) ∷ [])) ∷
      (listed (
      (assign (var 1 20) (to Keep 20 (expression (construct (class_id 3) (routine_id 0) (argued [])) (id 21) no_steps))) ∷
      (assign (var 0 19) (to ToInterface 19 (var 1 20))) ∷
      (call (then (var 0 19) (method (routine_id 2) ByInterface (argued [])) (id 9))) ∷ [])) ∷
      [])

  face_listed_by_instance_runs : outcome 4000 face_listed_by_instance ([]) ≡ ends_with (makes 16 ∷ frees 1 ∷ []) (said (codes "B.S")) ([]) 0
  unfolding outcome
  face_listed_by_instance_runs = refl

  -- A routine's locals go in order of declaration, after its parameters
  abbrev face_locals_order : Program
  face_locals_order = program name
      (Class (class_id 0) ∷ Interface (interface_id 0) ∷ Class (class_id 1) ∷ Class (class_id 2) ∷ [])
      (part name 4 ∷ [])
      (row name 16 ObjectRole None ∷ row name 16 ObjectRole None ∷ row name 19 ObjectRole None ∷ row name 4 (Parameter Value) None ∷ row name 19 ObjectRole None ∷ row name 17 (Parameter Value) None ∷ row name 17 (Parameter Value) None ∷ row name 17 Plain None ∷ row name 17 Plain None ∷ [])
      (routine_row name (codes "create") Constructor (OfClass (class_id 0)) 0 None 0 1 ∷ routine_row name (codes "destroy") Destructor (OfClass (class_id 0)) 0 None 1 1 ∷ routine_row name (codes "create") Constructor (OfClass (class_id 2)) 1 None 2 2 ∷ routine_row name (codes "destroy") Destructor (OfClass (class_id 2)) 0 None 4 1 ∷ routine_row name (codes "p") Procedure OfUnit 2 None 5 4 ∷ [])
      (class_row (codes "TObject") 16 None 0 0 0 2 0 0 ∷ class_row (codes "TInterfacedObject") 18 (Some (class_id 0)) 0 0 2 0 0 1 ∷ class_row (codes "TA") 19 (Some (class_id 1)) 0 1 2 2 1 0 ∷ [])
      (interface_row (codes "iunknown") 17 None 4 0 ∷ [])
      (method_row 0 Static false ∷ method_row 1 VirtualBinding false ∷ method_row 2 Static false ∷ method_row 3 Override false ∷ [])
      (interface_id 0 ∷ [])
      []
      None
      ((listed ([])) ∷
      (listed ([])) ∷
      (listed (
      (assign (dot (obj 2 19) 0 4) (var 3 4)) ∷ [])) ∷
      (listed (
      (built_in (write (plain (quoted (codes "gone ")) ∷ plain (dot (obj 4 19) 0 4) ∷ []) true)) ∷
      (call (then (obj 4 19) (method (routine_id 1) Direct (argued [])) (id 9))) ∷ [])) ∷
      (listed (
      (assign (var 5 17) (to ToInterface 17 (expression (construct (class_id 2) (routine_id 2) (argued (value (known (pos 1) 4) ∷ []))) (id 19) no_steps))) ∷
      (assign (var 6 17) (to ToInterface 17 (expression (construct (class_id 2) (routine_id 2) (argued (value (known (pos 2) 4) ∷ []))) (id 19) no_steps))) ∷
      (assign (var 8 17) (to ToInterface 17 (expression (construct (class_id 2) (routine_id 2) (argued (value (known (pos 4) 4) ∷ []))) (id 19) no_steps))) ∷
      (assign (var 7 17) (to ToInterface 17 (expression (construct (class_id 2) (routine_id 2) (argued (value (known (pos 3) 4) ∷ []))) (id 19) no_steps))) ∷
      (built_in (write (plain (quoted (codes "leave")) ∷ []) true)) ∷ [])) ∷
      (listed (
      (call (expression (call_of (routine_id 4) (argued (value (to Keep 17 nothing) ∷ value (to Keep 17 nothing) ∷ []))) (id 9) no_steps)) ∷
      (built_in (write (plain (quoted (codes "end")) ∷ []) true)) ∷ [])) ∷
      [])

  face_locals_order_runs : outcome 4000 face_locals_order ([]) ≡ ends_with (makes 32 ∷ makes 32 ∷ makes 32 ∷ makes 32 ∷ frees 1 ∷ frees 2 ∷ frees 4 ∷ frees 3 ∷ []) (said (codes "leave") ++ said (codes "gone 1") ++ said (codes "gone 2") ++ said (codes "gone 3") ++ said (codes "gone 4") ++ said (codes "end")) ([]) 0
  unfolding outcome
  face_locals_order_runs = refl

  -- A new instance as a value argument goes with the call
  abbrev face_new_argument : Program
  face_new_argument = program name
      (Class (class_id 0) ∷ Interface (interface_id 0) ∷ Class (class_id 1) ∷ Class (class_id 2) ∷ [])
      []
      (row name 16 ObjectRole None ∷ row name 16 ObjectRole None ∷ row name 19 ObjectRole None ∷ row name 17 (Parameter Value) None ∷ [])
      (routine_row name (codes "create") Constructor (OfClass (class_id 0)) 0 None 0 1 ∷ routine_row name (codes "destroy") Destructor (OfClass (class_id 0)) 0 None 1 1 ∷ routine_row name (codes "destroy") Destructor (OfClass (class_id 2)) 0 None 2 1 ∷ routine_row name (codes "p") Procedure OfUnit 1 None 3 1 ∷ [])
      (class_row (codes "TObject") 16 None 0 0 0 2 0 0 ∷ class_row (codes "TInterfacedObject") 18 (Some (class_id 0)) 0 0 2 0 0 1 ∷ class_row (codes "TA") 19 (Some (class_id 1)) 0 0 2 1 1 0 ∷ [])
      (interface_row (codes "iunknown") 17 None 3 0 ∷ [])
      (method_row 0 Static false ∷ method_row 1 VirtualBinding false ∷ method_row 2 Override false ∷ [])
      (interface_id 0 ∷ [])
      []
      None
      ((listed ([])) ∷
      (listed ([])) ∷
      (listed (
      (built_in (write (plain (quoted (codes "gone")) ∷ []) true)) ∷
      (call (then (obj 2 19) (method (routine_id 1) Direct (argued [])) (id 9))) ∷ [])) ∷
      (listed (
      (built_in (write (plain (quoted (codes "in")) ∷ plain (with_q false 5 (var 3 17) NotEqual (to Keep 17 nothing)) ∷ []) true)) ∷ [])) ∷
      (listed (
      (call (expression (call_of (routine_id 3) (argued (value (to ToInterface 17 (expression (construct (class_id 2) (routine_id 0) (argued [])) (id 19) no_steps)) ∷ []))) (id 9) no_steps)) ∷
      (built_in (write (plain (quoted (codes "end")) ∷ []) true)) ∷ [])) ∷
      [])

  face_new_argument_runs : outcome 4000 face_new_argument ([]) ≡ ends_with (makes 16 ∷ frees 1 ∷ []) (said (codes "inTRUE") ++ said (codes "gone") ++ said (codes "end")) ([]) 0
  unfolding outcome
  face_new_argument_runs = refl

  -- A method of a nil interface: its argument runs first
  abbrev face_nil_call : Program
  face_nil_call = program name
      (Class (class_id 0) ∷ Interface (interface_id 0) ∷ Class (class_id 1) ∷ Interface (interface_id 1) ∷ [])
      []
      (row name 19 Plain None ∷ row name 16 ObjectRole None ∷ row name 16 ObjectRole None ∷ row name 19 ObjectRole None ∷ row name 4 (Parameter Value) None ∷ row name 4 Result None ∷ [])
      (routine_row name (codes "create") Constructor (OfClass (class_id 0)) 0 None 1 1 ∷ routine_row name (codes "destroy") Destructor (OfClass (class_id 0)) 0 None 2 1 ∷ routine_row name (codes "p") Procedure (OfInterface (interface_id 1)) 1 None 3 2 ∷ routine_row name (codes "f") FunctionKind OfUnit 0 (Some 4) 5 1 ∷ [])
      (class_row (codes "TObject") 16 None 0 0 0 2 0 0 ∷ class_row (codes "TInterfacedObject") 18 (Some (class_id 0)) 0 0 2 0 0 1 ∷ [])
      (interface_row (codes "iunknown") 17 None 2 0 ∷ interface_row (codes "ia") 19 (Some (interface_id 0)) 2 1 ∷ [])
      (method_row 0 Static false ∷ method_row 1 VirtualBinding false ∷ method_row 2 Static false ∷ [])
      (interface_id 0 ∷ [])
      (variable_id 0 ∷ [])
      None
      ((listed ([])) ∷
      (listed ([])) ∷
      (listed ([])) ∷
      (listed (
      (built_in (write (plain (quoted (codes "argument")) ∷ []) true)) ∷
      (assign (var 5 4) (known (pos 1) 4)) ∷ [])) ∷
      (listed (
      (call (then (var 0 19) (method (routine_id 2) ByInterface (argued (value (expression (call_of (routine_id 3) (argued [])) (id 4) no_steps) ∷ []))) (id 9))) ∷
      (built_in (write (plain (quoted (codes "never")) ∷ []) true)) ∷ [])) ∷
      [])

  face_nil_call_runs : outcome 4000 face_nil_call ([]) ≡ ends_with [] (said (codes "argument")) (said (codes "Runtime error 216")) 216
  unfolding outcome
  face_nil_call_runs = refl

  -- Constructors with var, out and open array arguments, of which one raises and one has an index outside.
  abbrev face_open_array_literals : Program
  face_open_array_literals = program name
      (Class (class_id 0) ∷ Interface (interface_id 0) ∷ Class (class_id 1) ∷ Interface (interface_id 1) ∷ Class (class_id 2) ∷ OpenArray (id 19) ∷ Class (class_id 3) ∷ DynamicArray (id 7) ∷ DynamicArray (id 19) ∷ [])
      []
      (row name 23 Plain None ∷ row name 19 Plain None ∷ row name 19 Plain None ∷ row name 24 Plain None ∷ row name 19 Plain None ∷ row name 16 ObjectRole None ∷ row name 16 ObjectRole None ∷ row name 20 ObjectRole None ∷ row name 7 (Parameter Var) None ∷ row name 19 (Parameter Out) None ∷ row name 21 (Parameter Const_) None ∷ row name 20 ObjectRole None ∷ [])
      (routine_row name (codes "create") Constructor (OfClass (class_id 0)) 0 None 5 1 ∷ routine_row name (codes "destroy") Destructor (OfClass (class_id 0)) 0 None 6 1 ∷ routine_row name (codes "create") Constructor (OfClass (class_id 2)) 3 None 7 4 ∷ routine_row name (codes "destroy") Destructor (OfClass (class_id 2)) 0 None 11 1 ∷ [])
      (class_row (codes "TObject") 16 None 0 0 0 2 0 0 ∷ class_row (codes "TInterfacedObject") 18 (Some (class_id 0)) 0 0 2 0 0 1 ∷ class_row (codes "TT") 20 (Some (class_id 1)) 0 0 2 2 1 1 ∷ class_row (codes "E") 22 (Some (class_id 0)) 0 0 4 0 2 0 ∷ [])
      (interface_row (codes "iunknown") 17 None 4 0 ∷ interface_row (codes "ii") 19 (Some (interface_id 0)) 4 0 ∷ [])
      (method_row 0 Static false ∷ method_row 1 VirtualBinding false ∷ method_row 2 Static false ∷ method_row 3 Override false ∷ [])
      (interface_id 0 ∷ interface_id 1 ∷ [])
      (variable_id 0 ∷ variable_id 1 ∷ variable_id 2 ∷ variable_id 3 ∷ variable_id 4 ∷ [])
      None
      ((listed ([])) ∷
      (listed ([])) ∷
      (listed (
      (assign (var 8 7) (with_q false 7 (var 8 7) Add (quoted (codes "k")))) ∷
      (assign (var 9 19) (at (var 10 21) (known (pos 0) 4) 19)) ∷
      (if_then (with_q false 5 (applying Length false (var 8 7) 4) Equal (known (pos 3) 4)) (raise (expression (construct (class_id 3) (routine_id 0) (argued [])) (id 22) no_steps))) ∷ [])) ∷
      (listed (
      (built_in (write (plain (known (pos 100) 6) ∷ []) true)) ∷
      (call (then (obj 11 20) (method (routine_id 1) Direct (argued [])) (id 9))) ∷ [])) ∷
      (listed (
      (built_in (set_length (var 0 23) (known (pos 1) 4))) ∷
      (built_in (set_length (var 3 24) (known (pos 1) 4))) ∷
      (assign (at (var 0 23) (known (pos 0) 4) 7) (quoted (codes "a"))) ∷
      (assign (at (var 0 23) (known (pos 0) 4) 7) (with_q false 7 (at (var 0 23) (known (pos 0) 4) 7) Add (quoted (codes "b")))) ∷
      (try_on_else (listed (
      (assign (var 4 19) (to ToInterface 19 (expression (construct (class_id 2) (routine_id 2) (argued (place (at (var 0 23) (known (pos 0) 4) 7) ∷ place (var 1 19) ∷ whole_array (var 3 24) ∷ []))) (id 20) no_steps))) ∷ [])) no_handlers (listed (
      (built_in (write (plain (known (pos 99) 6) ∷ plain (at (var 0 23) (known (pos 0) 4) 7) ∷ plain (applying Assigned false (var 4 19) 5) ∷ []) true)) ∷ []))) ∷
      (assign (at (var 0 23) (known (pos 0) 4) 7) (quoted (codes "a"))) ∷
      (assign (var 4 19) (to ToInterface 19 (expression (construct (class_id 2) (routine_id 2) (argued (place (at (var 0 23) (known (pos 0) 4) 7) ∷ place (var 1 19) ∷ listed_as (id 21) (expressions (var 2 19) (expressions (var 4 19) no_expressions)) ∷ []))) (id 20) no_steps))) ∷
      (try_finally (listed (
      (assign (var 4 19) (to ToInterface 19 (expression (construct (class_id 2) (routine_id 2) (argued (place (at (var 0 23) (known (pos 7) 4) 7) ∷ place (var 1 19) ∷ listed_as (id 21) (expressions (var 2 19) (expressions (var 4 19) no_expressions)) ∷ []))) (id 20) no_steps))) ∷ [])) (listed (
      (built_in (write (plain (known (pos 122) 6) ∷ []) true)) ∷ []))) ∷ [])) ∷
      [])

  face_open_array_literals_runs : outcome 4000 face_open_array_literals ([]) ≡ ends_with (asks 32 ∷ asks 32 ∷ asks 32 ∷ makes 16 ∷ asks 32 ∷ frees 3 ∷ makes 16 ∷ frees 4 ∷ frees 6 ∷ frees 5 ∷ makes 16 ∷ asks 32 ∷ []) (said (codes "d") ++ said (codes "cabkFALSE")) (said (codes "Runtime error 201")) 201
  unfolding outcome
  face_open_array_literals_runs = refl

  -- An out argument is emptied before the routine begins, and its instance goes then
  abbrev face_out_prints : Program
  face_out_prints = program name
      (Class (class_id 0) ∷ Interface (interface_id 0) ∷ Class (class_id 1) ∷ Class (class_id 2) ∷ [])
      []
      (row name 17 Plain None ∷ row name 16 ObjectRole None ∷ row name 16 ObjectRole None ∷ row name 19 ObjectRole None ∷ row name 4 Result None ∷ row name 17 (Parameter Out) None ∷ row name 4 (Parameter Value) None ∷ [])
      (routine_row name (codes "create") Constructor (OfClass (class_id 0)) 0 None 1 1 ∷ routine_row name (codes "destroy") Destructor (OfClass (class_id 0)) 0 None 2 1 ∷ routine_row name (codes "destroy") Destructor (OfClass (class_id 2)) 0 None 3 1 ∷ routine_row name (codes "f") FunctionKind OfUnit 0 (Some 4) 4 1 ∷ routine_row name (codes "p") Procedure OfUnit 2 None 5 2 ∷ [])
      (class_row (codes "TObject") 16 None 0 0 0 2 0 0 ∷ class_row (codes "TInterfacedObject") 18 (Some (class_id 0)) 0 0 2 0 0 1 ∷ class_row (codes "TA") 19 (Some (class_id 1)) 0 0 2 1 1 0 ∷ [])
      (interface_row (codes "iunknown") 17 None 3 0 ∷ [])
      (method_row 0 Static false ∷ method_row 1 VirtualBinding false ∷ method_row 2 Override false ∷ [])
      (interface_id 0 ∷ [])
      (variable_id 0 ∷ [])
      None
      ((listed ([])) ∷
      (listed ([])) ∷
      (listed (
      (built_in (write (plain (quoted (codes "gone")) ∷ plain (with_q false 5 (var 0 17) Equal (to Keep 17 nothing)) ∷ []) true)) ∷
      (call (then (obj 3 19) (method (routine_id 1) Direct (argued [])) (id 9))) ∷ [])) ∷
      (listed (
      (built_in (write (plain (quoted (codes "argument")) ∷ []) true)) ∷
      (assign (var 4 4) (known (pos 1) 4)) ∷ [])) ∷
      (listed (
      (built_in (write (plain (quoted (codes "begin")) ∷ plain (with_q false 5 (var 5 17) Equal (to Keep 17 nothing)) ∷ []) true)) ∷
      (assign (var 5 17) (to ToInterface 17 (expression (construct (class_id 2) (routine_id 0) (argued [])) (id 19) no_steps))) ∷ [])) ∷
      (listed (
      (assign (var 0 17) (to ToInterface 17 (expression (construct (class_id 2) (routine_id 0) (argued [])) (id 19) no_steps))) ∷
      (call (expression (call_of (routine_id 4) (argued (place (var 0 17) ∷ value (expression (call_of (routine_id 3) (argued [])) (id 4) no_steps) ∷ []))) (id 9) no_steps)) ∷
      (built_in (write (plain (quoted (codes "end")) ∷ []) true)) ∷
      (assign (var 0 17) (to Keep 17 nothing)) ∷ [])) ∷
      [])

  face_out_prints_runs : outcome 4000 face_out_prints ([]) ≡ ends_with (makes 16 ∷ frees 1 ∷ makes 16 ∷ frees 2 ∷ []) (said (codes "argument") ++ said (codes "goneTRUE") ++ said (codes "beginTRUE") ++ said (codes "end") ++ said (codes "goneTRUE")) ([]) 0
  unfolding outcome
  face_out_prints_runs = refl

  -- A call through an interface reaches the descendant's override, not its static method
  abbrev face_override : Program
  face_override = program name
      (Class (class_id 0) ∷ Interface (interface_id 0) ∷ Class (class_id 1) ∷ Interface (interface_id 1) ∷ Class (class_id 2) ∷ Class (class_id 3) ∷ [])
      []
      (row name 19 Plain None ∷ row name 16 ObjectRole None ∷ row name 16 ObjectRole None ∷ row name 19 ObjectRole None ∷ row name 19 ObjectRole None ∷ row name 20 ObjectRole None ∷ row name 20 ObjectRole None ∷ row name 21 ObjectRole None ∷ row name 21 ObjectRole None ∷ [])
      (routine_row name (codes "create") Constructor (OfClass (class_id 0)) 0 None 1 1 ∷ routine_row name (codes "destroy") Destructor (OfClass (class_id 0)) 0 None 2 1 ∷ routine_row name (codes "v") Procedure (OfInterface (interface_id 1)) 0 None 3 1 ∷ routine_row name (codes "s") Procedure (OfInterface (interface_id 1)) 0 None 4 1 ∷ routine_row name (codes "v") Procedure (OfClass (class_id 2)) 0 None 5 1 ∷ routine_row name (codes "s") Procedure (OfClass (class_id 2)) 0 None 6 1 ∷ routine_row name (codes "v") Procedure (OfClass (class_id 3)) 0 None 7 1 ∷ routine_row name (codes "s") Procedure (OfClass (class_id 3)) 0 None 8 1 ∷ [])
      (class_row (codes "TObject") 16 None 0 0 0 2 0 0 ∷ class_row (codes "TInterfacedObject") 18 (Some (class_id 0)) 0 0 2 0 0 1 ∷ class_row (codes "TA") 20 (Some (class_id 1)) 0 0 2 2 1 1 ∷ class_row (codes "TB") 21 (Some (class_id 2)) 0 0 4 2 2 0 ∷ [])
      (interface_row (codes "iunknown") 17 None 6 0 ∷ interface_row (codes "ia") 19 (Some (interface_id 0)) 6 2 ∷ [])
      (method_row 0 Static false ∷ method_row 1 VirtualBinding false ∷ method_row 4 VirtualBinding false ∷ method_row 5 Static false ∷ method_row 6 Override false ∷ method_row 7 Static false ∷ method_row 2 Static false ∷ method_row 3 Static false ∷ [])
      (interface_id 0 ∷ interface_id 1 ∷ [])
      (variable_id 0 ∷ [])
      None
      ((listed ([])) ∷
      (listed ([])) ∷
      (listed ([])) ∷
      (listed ([])) ∷
      (listed (
      (built_in (write (plain (quoted (codes "A.V")) ∷ []) true)) ∷ [])) ∷
      (listed (
      (built_in (write (plain (quoted (codes "A.S")) ∷ []) true)) ∷ [])) ∷
      (listed (
      (built_in (write (plain (quoted (codes "B.V")) ∷ []) true)) ∷ [])) ∷
      (listed (
      (built_in (write (plain (quoted (codes "B.S")) ∷ []) true)) ∷ [])) ∷
      (listed (
      (assign (var 0 19) (to ToInterface 19 (expression (construct (class_id 3) (routine_id 0) (argued [])) (id 21) no_steps))) ∷
      (call (then (var 0 19) (method (routine_id 2) ByInterface (argued [])) (id 9))) ∷
      (call (then (var 0 19) (method (routine_id 3) ByInterface (argued [])) (id 9))) ∷ [])) ∷
      [])

  face_override_runs : outcome 4000 face_override ([]) ≡ ends_with (makes 16 ∷ frees 1 ∷ []) (said (codes "B.V") ++ said (codes "A.S")) ([]) 0
  unfolding outcome
  face_override_runs = refl

  -- A destructor may hand Self to an interface that lets go again
  abbrev face_passes_self : Program
  face_passes_self = program name
      (Class (class_id 0) ∷ Interface (interface_id 0) ∷ Class (class_id 1) ∷ Class (class_id 2) ∷ [])
      []
      (row name 17 Plain None ∷ row name 16 ObjectRole None ∷ row name 16 ObjectRole None ∷ row name 19 ObjectRole None ∷ row name 17 (Parameter Value) None ∷ [])
      (routine_row name (codes "create") Constructor (OfClass (class_id 0)) 0 None 1 1 ∷ routine_row name (codes "destroy") Destructor (OfClass (class_id 0)) 0 None 2 1 ∷ routine_row name (codes "destroy") Destructor (OfClass (class_id 2)) 0 None 3 1 ∷ routine_row name (codes "p") Procedure OfUnit 1 None 4 1 ∷ [])
      (class_row (codes "TObject") 16 None 0 0 0 2 0 0 ∷ class_row (codes "TInterfacedObject") 18 (Some (class_id 0)) 0 0 2 0 0 1 ∷ class_row (codes "TA") 19 (Some (class_id 1)) 0 0 2 1 1 0 ∷ [])
      (interface_row (codes "iunknown") 17 None 3 0 ∷ [])
      (method_row 0 Static false ∷ method_row 1 VirtualBinding false ∷ method_row 2 Override false ∷ [])
      (interface_id 0 ∷ [])
      (variable_id 0 ∷ [])
      None
      ((listed ([])) ∷
      (listed ([])) ∷
      (listed (
      (call (expression (call_of (routine_id 3) (argued (value (to ToInterface 17 (obj 3 19)) ∷ []))) (id 9) no_steps)) ∷
      (built_in (write (plain (quoted (codes "after")) ∷ []) true)) ∷
      (call (then (obj 3 19) (method (routine_id 1) Direct (argued [])) (id 9))) ∷ [])) ∷
      (listed (
      (built_in (write (plain (known (pos 80) 6) ∷ plain (with_q false 5 (var 4 17) NotEqual (to Keep 17 nothing)) ∷ []) true)) ∷
      (assign (var 4 17) (to Keep 17 nothing)) ∷ [])) ∷
      (listed (
      (assign (var 0 17) (to ToInterface 17 (expression (construct (class_id 2) (routine_id 0) (argued [])) (id 19) no_steps))) ∷
      (assign (var 0 17) (to Keep 17 nothing)) ∷
      (built_in (write (plain (quoted (codes "end")) ∷ []) true)) ∷ [])) ∷
      [])

  face_passes_self_runs : outcome 4000 face_passes_self ([]) ≡ ends_with (makes 16 ∷ frees 1 ∷ []) (said (codes "PTRUE") ++ said (codes "after") ++ said (codes "end")) ([]) 0
  unfolding outcome
  face_passes_self_runs = refl

  -- A method called through an interface may clear the only variable: its instance goes afterwards
  abbrev face_receiver_held : Program
  face_receiver_held = program name
      (Class (class_id 0) ∷ Interface (interface_id 0) ∷ Class (class_id 1) ∷ Interface (interface_id 1) ∷ Class (class_id 2) ∷ [])
      (part name 4 ∷ [])
      (row name 19 Plain None ∷ row name 16 ObjectRole None ∷ row name 16 ObjectRole None ∷ row name 19 ObjectRole None ∷ row name 20 ObjectRole None ∷ row name 20 ObjectRole None ∷ [])
      (routine_row name (codes "create") Constructor (OfClass (class_id 0)) 0 None 1 1 ∷ routine_row name (codes "destroy") Destructor (OfClass (class_id 0)) 0 None 2 1 ∷ routine_row name (codes "clear") Procedure (OfInterface (interface_id 1)) 0 None 3 1 ∷ routine_row name (codes "clear") Procedure (OfClass (class_id 2)) 0 None 4 1 ∷ routine_row name (codes "destroy") Destructor (OfClass (class_id 2)) 0 None 5 1 ∷ [])
      (class_row (codes "TObject") 16 None 0 0 0 2 0 0 ∷ class_row (codes "TInterfacedObject") 18 (Some (class_id 0)) 0 0 2 0 0 1 ∷ class_row (codes "TA") 20 (Some (class_id 1)) 0 1 2 2 1 1 ∷ [])
      (interface_row (codes "iunknown") 17 None 4 0 ∷ interface_row (codes "ia") 19 (Some (interface_id 0)) 4 1 ∷ [])
      (method_row 0 Static false ∷ method_row 1 VirtualBinding false ∷ method_row 3 Static false ∷ method_row 4 Override false ∷ method_row 2 Static false ∷ [])
      (interface_id 0 ∷ interface_id 1 ∷ [])
      (variable_id 0 ∷ [])
      None
      ((listed ([])) ∷
      (listed ([])) ∷
      (listed ([])) ∷
      (listed (
      (assign (dot (obj 4 20) 0 4) (known (pos 5) 4)) ∷
      (assign (var 0 19) (to Keep 19 nothing)) ∷
      (built_in (write (plain (quoted (codes "still ")) ∷ plain (dot (obj 4 20) 0 4) ∷ []) true)) ∷ [])) ∷
      (listed (
      (built_in (write (plain (quoted (codes "gone ")) ∷ plain (dot (obj 5 20) 0 4) ∷ []) true)) ∷
      (call (then (obj 5 20) (method (routine_id 1) Direct (argued [])) (id 9))) ∷ [])) ∷
      (listed (
      (assign (var 0 19) (to ToInterface 19 (expression (construct (class_id 2) (routine_id 0) (argued [])) (id 20) no_steps))) ∷
      (call (then (var 0 19) (method (routine_id 2) ByInterface (argued [])) (id 9))) ∷
      (built_in (write (plain (quoted (codes "end")) ∷ []) true)) ∷ [])) ∷
      [])

  face_receiver_held_runs : outcome 4000 face_receiver_held ([]) ≡ ends_with (makes 32 ∷ frees 1 ∷ []) (said (codes "still 5") ++ said (codes "gone 5") ++ said (codes "end")) ([]) 0
  unfolding outcome
  face_receiver_held_runs = refl

  -- Records and arrays of interfaces as results, by value, as out and const parameters.
  abbrev face_records_with_interfaces : Program
  face_records_with_interfaces = program name
      (Class (class_id 0) ∷ Interface (interface_id 0) ∷ Class (class_id 1) ∷ Interface (interface_id 1) ∷ Class (class_id 2) ∷ Subrange (id 4) (pos 0) (pos 1) ∷ Array (id 21) (id 19) ∷ Record (rows_at 1 3) ∷ Class (class_id 3) ∷ [])
      (part name 4 ∷ part name 7 ∷ part name 19 ∷ part name 22 ∷ [])
      (row name 23 Plain None ∷ row name 23 Plain None ∷ row name 16 ObjectRole None ∷ row name 16 ObjectRole None ∷ row name 20 ObjectRole None ∷ row name 4 (Parameter Value) None ∷ row name 20 ObjectRole None ∷ row name 4 (Parameter Value) None ∷ row name 23 Result None ∷ row name 23 (Parameter Value) None ∷ row name 23 (Parameter Out) None ∷ row name 23 (Parameter Const_) None ∷ [])
      (routine_row name (codes "create") Constructor (OfClass (class_id 0)) 0 None 2 1 ∷ routine_row name (codes "destroy") Destructor (OfClass (class_id 0)) 0 None 3 1 ∷ routine_row name (codes "create") Constructor (OfClass (class_id 2)) 1 None 4 2 ∷ routine_row name (codes "destroy") Destructor (OfClass (class_id 2)) 0 None 6 1 ∷ routine_row name (codes "mk") FunctionKind OfUnit 1 (Some 23) 7 2 ∷ routine_row name (codes "v") Procedure OfUnit 3 None 9 3 ∷ [])
      (class_row (codes "TObject") 16 None 0 0 0 2 0 0 ∷ class_row (codes "TInterfacedObject") 18 (Some (class_id 0)) 0 0 2 0 0 1 ∷ class_row (codes "TT") 20 (Some (class_id 1)) 0 1 2 2 1 1 ∷ class_row (codes "E") 24 (Some (class_id 0)) 4 0 4 0 2 0 ∷ [])
      (interface_row (codes "iunknown") 17 None 4 0 ∷ interface_row (codes "ii") 19 (Some (interface_id 0)) 4 0 ∷ [])
      (method_row 0 Static false ∷ method_row 1 VirtualBinding false ∷ method_row 2 Static false ∷ method_row 3 Override false ∷ [])
      (interface_id 0 ∷ interface_id 1 ∷ [])
      (variable_id 0 ∷ variable_id 1 ∷ [])
      None
      ((listed ([])) ∷
      (listed ([])) ∷
      (listed (
      (assign (dot (obj 4 20) 0 4) (var 5 4)) ∷ [])) ∷
      (listed (
      (built_in (write (plain (known (pos 100) 6) ∷ plain (dot (obj 6 20) 0 4) ∷ []) true)) ∷
      (call (then (obj 6 20) (method (routine_id 1) Direct (argued [])) (id 9))) ∷ [])) ∷
      (listed (
      (assign (dot (var 8 23) 2 19) (to ToInterface 19 (expression (construct (class_id 2) (routine_id 2) (argued (value (var 7 4) ∷ []))) (id 20) no_steps))) ∷
      (assign (at (dot (var 8 23) 3 22) (known (pos 1) 4) 19) (to ToInterface 19 (expression (construct (class_id 2) (routine_id 2) (argued (value (with_q false 4 (var 7 4) Add (known (pos 1) 4)) ∷ []))) (id 20) no_steps))) ∷
      (if_then (with_q false 5 (var 7 4) Equal (known (pos 50) 4)) (raise (expression (construct (class_id 3) (routine_id 0) (argued [])) (id 24) no_steps))) ∷ [])) ∷
      (listed (
      (built_in (write (plain (known (pos 118) 6) ∷ plain (applying Assigned false (dot (var 10 23) 2 19) 5) ∷ plain (applying Assigned false (dot (var 11 23) 2 19) 5) ∷ []) true)) ∷
      (assign (dot (var 9 23) 2 19) (to Keep 19 nothing)) ∷
      (assign (var 10 23) (var 9 23)) ∷ [])) ∷
      (listed (
      (assign (var 0 23) (expression (call_of (routine_id 4) (argued (value (known (pos 1) 4) ∷ []))) (id 23) no_steps)) ∷
      (assign (var 0 23) (expression (call_of (routine_id 4) (argued (value (known (pos 3) 4) ∷ []))) (id 23) no_steps)) ∷
      (try_on_else (listed (
      (assign (var 0 23) (expression (call_of (routine_id 4) (argued (value (known (pos 50) 4) ∷ []))) (id 23) no_steps)) ∷ [])) no_handlers (listed (
      (built_in (write (plain (known (pos 99) 6) ∷ []) true)) ∷ []))) ∷
      (assign (var 1 23) (expression (call_of (routine_id 4) (argued (value (known (pos 60) 4) ∷ []))) (id 23) no_steps)) ∷
      (call (expression (call_of (routine_id 5) (argued (value (var 0 23) ∷ place (var 1 23) ∷ value (expression (call_of (routine_id 4) (argued (value (known (pos 30) 4) ∷ []))) (id 23) no_steps) ∷ []))) (id 9) no_steps)) ∷
      (built_in (write (plain (known (pos 101) 6) ∷ []) true)) ∷ [])) ∷
      [])

  face_records_with_interfaces_runs : outcome 4000 face_records_with_interfaces ([]) ≡ ends_with (makes 32 ∷ makes 32 ∷ makes 32 ∷ makes 32 ∷ frees 1 ∷ frees 2 ∷ makes 32 ∷ makes 32 ∷ makes 16 ∷ frees 5 ∷ frees 6 ∷ frees 7 ∷ makes 32 ∷ makes 32 ∷ makes 32 ∷ makes 32 ∷ frees 8 ∷ frees 9 ∷ frees 10 ∷ frees 11 ∷ frees 3 ∷ frees 4 ∷ []) (said (codes "d1") ++ said (codes "d2") ++ said (codes "d50") ++ said (codes "d51") ++ said (codes "c") ++ said (codes "d60") ++ said (codes "d61") ++ said (codes "vFALSETRUE") ++ said (codes "d30") ++ said (codes "d31") ++ said (codes "e") ++ said (codes "d3") ++ said (codes "d4")) ([]) 0
  unfolding outcome
  face_records_with_interfaces_runs = refl

  -- A function gives an interface that is stored
  abbrev face_result : Program
  face_result = program name
      (Class (class_id 0) ∷ Interface (interface_id 0) ∷ Class (class_id 1) ∷ Class (class_id 2) ∷ [])
      []
      (row name 17 Plain None ∷ row name 16 ObjectRole None ∷ row name 16 ObjectRole None ∷ row name 19 ObjectRole None ∷ row name 17 Result None ∷ [])
      (routine_row name (codes "create") Constructor (OfClass (class_id 0)) 0 None 1 1 ∷ routine_row name (codes "destroy") Destructor (OfClass (class_id 0)) 0 None 2 1 ∷ routine_row name (codes "destroy") Destructor (OfClass (class_id 2)) 0 None 3 1 ∷ routine_row name (codes "make") FunctionKind OfUnit 0 (Some 17) 4 1 ∷ [])
      (class_row (codes "TObject") 16 None 0 0 0 2 0 0 ∷ class_row (codes "TInterfacedObject") 18 (Some (class_id 0)) 0 0 2 0 0 1 ∷ class_row (codes "TA") 19 (Some (class_id 1)) 0 0 2 1 1 0 ∷ [])
      (interface_row (codes "iunknown") 17 None 3 0 ∷ [])
      (method_row 0 Static false ∷ method_row 1 VirtualBinding false ∷ method_row 2 Override false ∷ [])
      (interface_id 0 ∷ [])
      (variable_id 0 ∷ [])
      None
      ((listed ([])) ∷
      (listed ([])) ∷
      (listed (
      (built_in (write (plain (quoted (codes "gone")) ∷ []) true)) ∷
      (call (then (obj 3 19) (method (routine_id 1) Direct (argued [])) (id 9))) ∷ [])) ∷
      (listed (
      (assign (var 4 17) (to ToInterface 17 (expression (construct (class_id 2) (routine_id 0) (argued [])) (id 19) no_steps))) ∷
      (built_in (write (plain (quoted (codes "made")) ∷ []) true)) ∷ [])) ∷
      (listed (
      (assign (var 0 17) (expression (call_of (routine_id 3) (argued [])) (id 17) no_steps)) ∷
      (built_in (write (plain (quoted (codes "stored")) ∷ []) true)) ∷
      (assign (var 0 17) (to Keep 17 nothing)) ∷
      (built_in (write (plain (quoted (codes "end")) ∷ []) true)) ∷ [])) ∷
      [])

  face_result_runs : outcome 4000 face_result ([]) ≡ ends_with (makes 16 ∷ frees 1 ∷ []) (said (codes "made") ++ said (codes "stored") ++ said (codes "gone") ++ said (codes "end")) ([]) 0
  unfolding outcome
  face_result_runs = refl

  -- A routine that makes, uses and leaves an interface
  abbrev face_result_in_routine : Program
  face_result_in_routine = program name
      (Class (class_id 0) ∷ Interface (interface_id 0) ∷ Class (class_id 1) ∷ Interface (interface_id 1) ∷ Class (class_id 2) ∷ [])
      []
      (row name 16 ObjectRole None ∷ row name 16 ObjectRole None ∷ row name 19 ObjectRole None ∷ row name 20 ObjectRole None ∷ row name 20 ObjectRole None ∷ row name 19 Plain None ∷ [])
      (routine_row name (codes "create") Constructor (OfClass (class_id 0)) 0 None 0 1 ∷ routine_row name (codes "destroy") Destructor (OfClass (class_id 0)) 0 None 1 1 ∷ routine_row name (codes "show") Procedure (OfInterface (interface_id 1)) 0 None 2 1 ∷ routine_row name (codes "show") Procedure (OfClass (class_id 2)) 0 None 3 1 ∷ routine_row name (codes "destroy") Destructor (OfClass (class_id 2)) 0 None 4 1 ∷ routine_row name (codes "p") Procedure OfUnit 0 None 5 1 ∷ [])
      (class_row (codes "TObject") 16 None 0 0 0 2 0 0 ∷ class_row (codes "TInterfacedObject") 18 (Some (class_id 0)) 0 0 2 0 0 1 ∷ class_row (codes "TA") 20 (Some (class_id 1)) 0 0 2 2 1 1 ∷ [])
      (interface_row (codes "iunknown") 17 None 4 0 ∷ interface_row (codes "ia") 19 (Some (interface_id 0)) 4 1 ∷ [])
      (method_row 0 Static false ∷ method_row 1 VirtualBinding false ∷ method_row 3 Static false ∷ method_row 4 Override false ∷ method_row 2 Static false ∷ [])
      (interface_id 0 ∷ interface_id 1 ∷ [])
      []
      None
      ((listed ([])) ∷
      (listed ([])) ∷
      (listed ([])) ∷
      (listed (
      (built_in (write (plain (quoted (codes "show")) ∷ []) true)) ∷ [])) ∷
      (listed (
      (built_in (write (plain (quoted (codes "gone")) ∷ []) true)) ∷
      (call (then (obj 4 20) (method (routine_id 1) Direct (argued [])) (id 9))) ∷ [])) ∷
      (listed (
      (assign (var 5 19) (to ToInterface 19 (expression (construct (class_id 2) (routine_id 0) (argued [])) (id 20) no_steps))) ∷
      (call (then (var 5 19) (method (routine_id 2) ByInterface (argued [])) (id 9))) ∷ [])) ∷
      (listed (
      (call (expression (call_of (routine_id 5) (argued [])) (id 9) no_steps)) ∷
      (built_in (write (plain (quoted (codes "between")) ∷ []) true)) ∷
      (call (expression (call_of (routine_id 5) (argued [])) (id 9) no_steps)) ∷ [])) ∷
      [])

  face_result_in_routine_runs : outcome 4000 face_result_in_routine ([]) ≡ ends_with (makes 16 ∷ frees 1 ∷ makes 16 ∷ frees 2 ∷ []) (said (codes "show") ++ said (codes "gone") ++ said (codes "between") ++ said (codes "show") ++ said (codes "gone")) ([]) 0
  unfolding outcome
  face_result_in_routine_runs = refl

  -- Temporaries of one statement go in reverse order of their making
  abbrev face_reverse : Program
  face_reverse = program name
      (Class (class_id 0) ∷ Interface (interface_id 0) ∷ Class (class_id 1) ∷ Class (class_id 2) ∷ [])
      (part name 4 ∷ [])
      (row name 16 ObjectRole None ∷ row name 16 ObjectRole None ∷ row name 19 ObjectRole None ∷ row name 4 (Parameter Value) None ∷ row name 19 ObjectRole None ∷ row name 4 (Parameter Value) None ∷ row name 17 Result None ∷ [])
      (routine_row name (codes "create") Constructor (OfClass (class_id 0)) 0 None 0 1 ∷ routine_row name (codes "destroy") Destructor (OfClass (class_id 0)) 0 None 1 1 ∷ routine_row name (codes "create") Constructor (OfClass (class_id 2)) 1 None 2 2 ∷ routine_row name (codes "destroy") Destructor (OfClass (class_id 2)) 0 None 4 1 ∷ routine_row name (codes "make") FunctionKind OfUnit 1 (Some 17) 5 2 ∷ [])
      (class_row (codes "TObject") 16 None 0 0 0 2 0 0 ∷ class_row (codes "TInterfacedObject") 18 (Some (class_id 0)) 0 0 2 0 0 1 ∷ class_row (codes "TA") 19 (Some (class_id 1)) 0 1 2 2 1 0 ∷ [])
      (interface_row (codes "iunknown") 17 None 4 0 ∷ [])
      (method_row 0 Static false ∷ method_row 1 VirtualBinding false ∷ method_row 2 Static false ∷ method_row 3 Override false ∷ [])
      (interface_id 0 ∷ [])
      []
      None
      ((listed ([])) ∷
      (listed ([])) ∷
      (listed (
      (assign (dot (obj 2 19) 0 4) (var 3 4)) ∷ [])) ∷
      (listed (
      (built_in (write (plain (quoted (codes "gone ")) ∷ plain (dot (obj 4 19) 0 4) ∷ []) true)) ∷
      (call (then (obj 4 19) (method (routine_id 1) Direct (argued [])) (id 9))) ∷ [])) ∷
      (listed (
      (assign (var 6 17) (to ToInterface 17 (expression (construct (class_id 2) (routine_id 2) (argued (value (var 5 4) ∷ []))) (id 19) no_steps))) ∷ [])) ∷
      (listed (
      (built_in (write (plain (with_q false 5 (expression (call_of (routine_id 4) (argued (value (known (pos 1) 4) ∷ []))) (id 17) no_steps) Equal (expression (call_of (routine_id 4) (argued (value (known (pos 2) 4) ∷ []))) (id 17) no_steps)) ∷ []) true)) ∷
      (built_in (write (plain (quoted (codes "end")) ∷ []) true)) ∷ [])) ∷
      [])

  face_reverse_runs : outcome 4000 face_reverse ([]) ≡ ends_with (makes 32 ∷ makes 32 ∷ frees 2 ∷ frees 1 ∷ []) (said (codes "FALSE") ++ said (codes "gone 2") ++ said (codes "gone 1") ++ said (codes "end")) ([]) 0
  unfolding outcome
  face_reverse_runs = refl

  -- Self as an interface argument in a constructor and in a destructor.
  abbrev face_self_as_interface : Program
  face_self_as_interface = program name
      (Class (class_id 0) ∷ Interface (interface_id 0) ∷ Class (class_id 1) ∷ Interface (interface_id 1) ∷ Class (class_id 2) ∷ [])
      []
      (row name 19 Plain None ∷ row name 20 Plain None ∷ row name 16 ObjectRole None ∷ row name 16 ObjectRole None ∷ row name 20 ObjectRole None ∷ row name 20 ObjectRole None ∷ row name 19 (Parameter Const_) None ∷ [])
      (routine_row name (codes "create") Constructor (OfClass (class_id 0)) 0 None 2 1 ∷ routine_row name (codes "destroy") Destructor (OfClass (class_id 0)) 0 None 3 1 ∷ routine_row name (codes "create") Constructor (OfClass (class_id 2)) 0 None 4 1 ∷ routine_row name (codes "destroy") Destructor (OfClass (class_id 2)) 0 None 5 1 ∷ routine_row name (codes "q") Procedure OfUnit 1 None 6 1 ∷ [])
      (class_row (codes "TObject") 16 None 0 0 0 2 0 0 ∷ class_row (codes "TInterfacedObject") 18 (Some (class_id 0)) 0 0 2 0 0 1 ∷ class_row (codes "TT") 20 (Some (class_id 1)) 0 0 2 2 1 1 ∷ [])
      (interface_row (codes "iunknown") 17 None 4 0 ∷ interface_row (codes "ii") 19 (Some (interface_id 0)) 4 0 ∷ [])
      (method_row 0 Static false ∷ method_row 1 VirtualBinding false ∷ method_row 2 Static false ∷ method_row 3 Override false ∷ [])
      (interface_id 0 ∷ interface_id 1 ∷ [])
      (variable_id 0 ∷ variable_id 1 ∷ [])
      None
      ((listed ([])) ∷
      (listed ([])) ∷
      (listed (
      (call (expression (call_of (routine_id 4) (argued (value (to ToInterface 19 (obj 4 20)) ∷ []))) (id 9) no_steps)) ∷
      (built_in (write (plain (known (pos 99) 6) ∷ []) true)) ∷ [])) ∷
      (listed (
      (assign (var 0 19) (to ToInterface 19 (obj 5 20))) ∷
      (assign (var 0 19) (to Keep 19 nothing)) ∷
      (call (expression (call_of (routine_id 4) (argued (value (to ToInterface 19 (obj 5 20)) ∷ []))) (id 9) no_steps)) ∷
      (built_in (write (plain (known (pos 100) 6) ∷ []) true)) ∷
      (call (then (obj 5 20) (method (routine_id 1) Direct (argued [])) (id 9))) ∷ [])) ∷
      (listed (
      (built_in (write (plain (known (pos 113) 6) ∷ []) true)) ∷ [])) ∷
      (listed (
      (assign (var 1 20) (expression (construct (class_id 2) (routine_id 2) (argued [])) (id 20) no_steps)) ∷
      (call (expression (call_of (routine_id 4) (argued (value (to ToInterface 19 (var 1 20)) ∷ []))) (id 9) no_steps)) ∷
      (built_in (write (plain (applying Assigned false (var 1 20) 5) ∷ []) true)) ∷
      (assign (var 1 20) (expression (construct (class_id 2) (routine_id 2) (argued [])) (id 20) no_steps)) ∷
      (assign (var 0 19) (to ToInterface 19 (var 1 20))) ∷
      (built_in (free (var 1 20) false)) ∷ [])) ∷
      [])

  face_self_as_interface_runs : outcome 4000 face_self_as_interface ([]) ≡ ends_with (makes 16 ∷ frees 1 ∷ makes 16 ∷ []) (said (codes "q") ++ said (codes "c") ++ said (codes "q") ++ said (codes "q") ++ said (codes "d") ++ said (codes "TRUE") ++ said (codes "q") ++ said (codes "c")) (said (codes "Runtime error 204")) 204
  unfolding outcome
  face_self_as_interface_runs = refl

  -- The only holder assigned to itself destroys nothing
  abbrev face_self_assign : Program
  face_self_assign = program name
      (Class (class_id 0) ∷ Interface (interface_id 0) ∷ Class (class_id 1) ∷ Class (class_id 2) ∷ [])
      []
      (row name 17 Plain None ∷ row name 16 ObjectRole None ∷ row name 16 ObjectRole None ∷ row name 19 ObjectRole None ∷ [])
      (routine_row name (codes "create") Constructor (OfClass (class_id 0)) 0 None 1 1 ∷ routine_row name (codes "destroy") Destructor (OfClass (class_id 0)) 0 None 2 1 ∷ routine_row name (codes "destroy") Destructor (OfClass (class_id 2)) 0 None 3 1 ∷ [])
      (class_row (codes "TObject") 16 None 0 0 0 2 0 0 ∷ class_row (codes "TInterfacedObject") 18 (Some (class_id 0)) 0 0 2 0 0 1 ∷ class_row (codes "TA") 19 (Some (class_id 1)) 0 0 2 1 1 0 ∷ [])
      (interface_row (codes "iunknown") 17 None 3 0 ∷ [])
      (method_row 0 Static false ∷ method_row 1 VirtualBinding false ∷ method_row 2 Override false ∷ [])
      (interface_id 0 ∷ [])
      (variable_id 0 ∷ [])
      None
      ((listed ([])) ∷
      (listed ([])) ∷
      (listed (
      (built_in (write (plain (quoted (codes "gone")) ∷ []) true)) ∷
      (call (then (obj 3 19) (method (routine_id 1) Direct (argued [])) (id 9))) ∷ [])) ∷
      (listed (
      (assign (var 0 17) (to ToInterface 17 (expression (construct (class_id 2) (routine_id 0) (argued [])) (id 19) no_steps))) ∷
      (assign (var 0 17) (var 0 17)) ∷
      (built_in (write (plain (quoted (codes "still there")) ∷ []) true)) ∷
      (assign (var 0 17) (to Keep 17 nothing)) ∷ [])) ∷
      [])

  face_self_assign_runs : outcome 4000 face_self_assign ([]) ≡ ends_with (makes 16 ∷ frees 1 ∷ []) (said (codes "still there") ++ said (codes "gone")) ([]) 0
  unfolding outcome
  face_self_assign_runs = refl

  -- An instance that only a temporary holds goes when its statement ends
  abbrev face_statement_end : Program
  face_statement_end = program name
      (Class (class_id 0) ∷ Interface (interface_id 0) ∷ Class (class_id 1) ∷ Interface (interface_id 1) ∷ Class (class_id 2) ∷ [])
      []
      (row name 16 ObjectRole None ∷ row name 16 ObjectRole None ∷ row name 19 ObjectRole None ∷ row name 20 ObjectRole None ∷ row name 20 ObjectRole None ∷ row name 19 Result None ∷ [])
      (routine_row name (codes "create") Constructor (OfClass (class_id 0)) 0 None 0 1 ∷ routine_row name (codes "destroy") Destructor (OfClass (class_id 0)) 0 None 1 1 ∷ routine_row name (codes "show") Procedure (OfInterface (interface_id 1)) 0 None 2 1 ∷ routine_row name (codes "show") Procedure (OfClass (class_id 2)) 0 None 3 1 ∷ routine_row name (codes "destroy") Destructor (OfClass (class_id 2)) 0 None 4 1 ∷ routine_row name (codes "make") FunctionKind OfUnit 0 (Some 19) 5 1 ∷ [])
      (class_row (codes "TObject") 16 None 0 0 0 2 0 0 ∷ class_row (codes "TInterfacedObject") 18 (Some (class_id 0)) 0 0 2 0 0 1 ∷ class_row (codes "TA") 20 (Some (class_id 1)) 0 0 2 2 1 1 ∷ [])
      (interface_row (codes "iunknown") 17 None 4 0 ∷ interface_row (codes "ia") 19 (Some (interface_id 0)) 4 1 ∷ [])
      (method_row 0 Static false ∷ method_row 1 VirtualBinding false ∷ method_row 3 Static false ∷ method_row 4 Override false ∷ method_row 2 Static false ∷ [])
      (interface_id 0 ∷ interface_id 1 ∷ [])
      []
      None
      ((listed ([])) ∷
      (listed ([])) ∷
      (listed ([])) ∷
      (listed (
      (built_in (write (plain (quoted (codes "show")) ∷ []) true)) ∷ [])) ∷
      (listed (
      (built_in (write (plain (quoted (codes "gone")) ∷ []) true)) ∷
      (call (then (obj 4 20) (method (routine_id 1) Direct (argued [])) (id 9))) ∷ [])) ∷
      (listed (
      (assign (var 5 19) (to ToInterface 19 (expression (construct (class_id 2) (routine_id 0) (argued [])) (id 20) no_steps))) ∷ [])) ∷
      (listed (
      (call (then (expression (call_of (routine_id 5) (argued [])) (id 19) no_steps) (method (routine_id 2) ByInterface (argued [])) (id 9))) ∷
      (built_in (write (plain (quoted (codes "next")) ∷ []) true)) ∷
      (call (expression (call_of (routine_id 5) (argued [])) (id 19) no_steps)) ∷
      (built_in (write (plain (quoted (codes "end")) ∷ []) true)) ∷ [])) ∷
      [])

  face_statement_end_runs : outcome 4000 face_statement_end ([]) ≡ ends_with (makes 16 ∷ frees 1 ∷ makes 16 ∷ frees 2 ∷ []) (said (codes "show") ++ said (codes "gone") ++ said (codes "next") ++ said (codes "gone") ++ said (codes "end")) ([]) 0
  unfolding outcome
  face_statement_end_runs = refl

  -- A static array of interfaces is copied, and the copy holds its instances too
  abbrev face_static_array : Program
  face_static_array = program name
      (Class (class_id 0) ∷ Interface (interface_id 0) ∷ Class (class_id 1) ∷ Class (class_id 2) ∷ Subrange (id 4) (pos 1) (pos 2) ∷ Array (id 20) (id 17) ∷ [])
      (part name 4 ∷ [])
      (row name 21 Plain None ∷ row name 21 Plain None ∷ row name 21 Plain None ∷ row name 16 ObjectRole None ∷ row name 16 ObjectRole None ∷ row name 19 ObjectRole None ∷ row name 4 (Parameter Value) None ∷ row name 19 ObjectRole None ∷ [])
      (routine_row name (codes "create") Constructor (OfClass (class_id 0)) 0 None 3 1 ∷ routine_row name (codes "destroy") Destructor (OfClass (class_id 0)) 0 None 4 1 ∷ routine_row name (codes "create") Constructor (OfClass (class_id 2)) 1 None 5 2 ∷ routine_row name (codes "destroy") Destructor (OfClass (class_id 2)) 0 None 7 1 ∷ [])
      (class_row (codes "TObject") 16 None 0 0 0 2 0 0 ∷ class_row (codes "TInterfacedObject") 18 (Some (class_id 0)) 0 0 2 0 0 1 ∷ class_row (codes "TA") 19 (Some (class_id 1)) 0 1 2 2 1 0 ∷ [])
      (interface_row (codes "iunknown") 17 None 4 0 ∷ [])
      (method_row 0 Static false ∷ method_row 1 VirtualBinding false ∷ method_row 2 Static false ∷ method_row 3 Override false ∷ [])
      (interface_id 0 ∷ [])
      (variable_id 0 ∷ variable_id 1 ∷ variable_id 2 ∷ [])
      None
      ((listed ([])) ∷
      (listed ([])) ∷
      (listed (
      (assign (dot (obj 5 19) 0 4) (var 6 4)) ∷ [])) ∷
      (listed (
      (built_in (write (plain (quoted (codes "gone ")) ∷ plain (dot (obj 7 19) 0 4) ∷ []) true)) ∷
      (call (then (obj 7 19) (method (routine_id 1) Direct (argued [])) (id 9))) ∷ [])) ∷
      (listed (
      (assign (at (var 0 21) (known (pos 1) 4) 17) (to ToInterface 17 (expression (construct (class_id 2) (routine_id 2) (argued (value (known (pos 1) 4) ∷ []))) (id 19) no_steps))) ∷
      (assign (at (var 0 21) (known (pos 2) 4) 17) (to ToInterface 17 (expression (construct (class_id 2) (routine_id 2) (argued (value (known (pos 2) 4) ∷ []))) (id 19) no_steps))) ∷
      (assign (var 1 21) (var 0 21)) ∷
      (assign (var 0 21) (var 2 21)) ∷
      (built_in (write (plain (quoted (codes "copied")) ∷ plain (with_q false 5 (at (var 1 21) (known (pos 1) 4) 17) NotEqual (to Keep 17 nothing)) ∷ []) true)) ∷
      (assign (var 1 21) (var 2 21)) ∷
      (built_in (write (plain (quoted (codes "end")) ∷ []) true)) ∷ [])) ∷
      [])

  face_static_array_runs : outcome 4000 face_static_array ([]) ≡ ends_with (makes 32 ∷ makes 32 ∷ frees 1 ∷ frees 2 ∷ []) (said (codes "copiedTRUE") ++ said (codes "gone 1") ++ said (codes "gone 2") ++ said (codes "end")) ([]) 0
  unfolding outcome
  face_static_array_runs = refl

  -- A destructor that stores Self in a global again
  abbrev face_stores_self : Program
  face_stores_self = program name
      (Class (class_id 0) ∷ Interface (interface_id 0) ∷ Class (class_id 1) ∷ Class (class_id 2) ∷ [])
      []
      (row name 17 Plain None ∷ row name 17 Plain None ∷ row name 16 ObjectRole None ∷ row name 16 ObjectRole None ∷ row name 19 ObjectRole None ∷ [])
      (routine_row name (codes "create") Constructor (OfClass (class_id 0)) 0 None 2 1 ∷ routine_row name (codes "destroy") Destructor (OfClass (class_id 0)) 0 None 3 1 ∷ routine_row name (codes "destroy") Destructor (OfClass (class_id 2)) 0 None 4 1 ∷ [])
      (class_row (codes "TObject") 16 None 0 0 0 2 0 0 ∷ class_row (codes "TInterfacedObject") 18 (Some (class_id 0)) 0 0 2 0 0 1 ∷ class_row (codes "TA") 19 (Some (class_id 1)) 0 0 2 1 1 0 ∷ [])
      (interface_row (codes "iunknown") 17 None 3 0 ∷ [])
      (method_row 0 Static false ∷ method_row 1 VirtualBinding false ∷ method_row 2 Override false ∷ [])
      (interface_id 0 ∷ [])
      (variable_id 0 ∷ variable_id 1 ∷ [])
      None
      ((listed ([])) ∷
      (listed ([])) ∷
      (listed (
      (built_in (write (plain (quoted (codes "in")) ∷ []) true)) ∷
      (assign (var 0 17) (to ToInterface 17 (obj 4 19))) ∷
      (call (then (obj 4 19) (method (routine_id 1) Direct (argued [])) (id 9))) ∷
      (built_in (write (plain (quoted (codes "out")) ∷ []) true)) ∷ [])) ∷
      (listed (
      (assign (var 1 17) (to ToInterface 17 (expression (construct (class_id 2) (routine_id 0) (argued [])) (id 19) no_steps))) ∷
      (assign (var 1 17) (to Keep 17 nothing)) ∷
      (built_in (write (plain (quoted (codes "never")) ∷ []) true)) ∷ [])) ∷
      [])

  face_stores_self_runs : outcome 4000 face_stores_self ([]) ≡ ends_with (makes 16 ∷ []) (said (codes "in") ++ said (codes "out")) (said (codes "Runtime error 204")) 204
  unfolding outcome
  face_stores_self_runs = refl

  -- A class with two interfaces: both hold the one instance
  abbrev face_two : Program
  face_two = program name
      (Class (class_id 0) ∷ Interface (interface_id 0) ∷ Class (class_id 1) ∷ Interface (interface_id 1) ∷ Interface (interface_id 2) ∷ Class (class_id 2) ∷ [])
      (part name 4 ∷ [])
      (row name 21 Plain None ∷ row name 19 Plain None ∷ row name 20 Plain None ∷ row name 16 ObjectRole None ∷ row name 16 ObjectRole None ∷ row name 19 ObjectRole None ∷ row name 20 ObjectRole None ∷ row name 20 ObjectRole None ∷ row name 21 ObjectRole None ∷ row name 21 ObjectRole None ∷ row name 21 ObjectRole None ∷ [])
      (routine_row name (codes "create") Constructor (OfClass (class_id 0)) 0 None 3 1 ∷ routine_row name (codes "destroy") Destructor (OfClass (class_id 0)) 0 None 4 1 ∷ routine_row name (codes "a") Procedure (OfInterface (interface_id 1)) 0 None 5 1 ∷ routine_row name (codes "b") Procedure (OfInterface (interface_id 2)) 0 None 6 1 ∷ routine_row name (codes "a") Procedure (OfInterface (interface_id 2)) 0 None 7 1 ∷ routine_row name (codes "a") Procedure (OfClass (class_id 2)) 0 None 8 1 ∷ routine_row name (codes "b") Procedure (OfClass (class_id 2)) 0 None 9 1 ∷ routine_row name (codes "destroy") Destructor (OfClass (class_id 2)) 0 None 10 1 ∷ [])
      (class_row (codes "TObject") 16 None 0 0 0 2 0 0 ∷ class_row (codes "TInterfacedObject") 18 (Some (class_id 0)) 0 0 2 0 0 1 ∷ class_row (codes "TC") 21 (Some (class_id 1)) 0 1 2 3 1 2 ∷ [])
      (interface_row (codes "iunknown") 17 None 5 0 ∷ interface_row (codes "ia") 19 (Some (interface_id 0)) 5 1 ∷ interface_row (codes "ib") 20 (Some (interface_id 0)) 6 2 ∷ [])
      (method_row 0 Static false ∷ method_row 1 VirtualBinding false ∷ method_row 5 Static false ∷ method_row 6 Static false ∷ method_row 7 Override false ∷ method_row 2 Static false ∷ method_row 3 Static false ∷ method_row 4 Static false ∷ [])
      (interface_id 0 ∷ interface_id 1 ∷ interface_id 2 ∷ [])
      (variable_id 0 ∷ variable_id 1 ∷ variable_id 2 ∷ [])
      None
      ((listed ([])) ∷
      (listed ([])) ∷
      (listed ([])) ∷
      (listed ([])) ∷
      (listed ([])) ∷
      (listed (
      (assign (dot (obj 8 21) 0 4) (with_q false 4 (dot (obj 8 21) 0 4) Add (known (pos 1) 4))) ∷
      (built_in (write (plain (known (pos 65) 6) ∷ plain (dot (obj 8 21) 0 4) ∷ []) true)) ∷ [])) ∷
      (listed (
      (assign (dot (obj 9 21) 0 4) (with_q false 4 (dot (obj 9 21) 0 4) Add (known (pos 1) 4))) ∷
      (built_in (write (plain (known (pos 66) 6) ∷ plain (dot (obj 9 21) 0 4) ∷ []) true)) ∷ [])) ∷
      (listed (
      (built_in (write (plain (quoted (codes "gone")) ∷ []) true)) ∷
      (call (then (obj 10 21) (method (routine_id 1) Direct (argued [])) (id 9))) ∷ [])) ∷
      (listed (
      (assign (var 0 21) (expression (construct (class_id 2) (routine_id 0) (argued [])) (id 21) no_steps)) ∷
      (assign (var 1 19) (to ToInterface 19 (var 0 21))) ∷
      (assign (var 2 20) (to ToInterface 20 (var 0 21))) ∷
      (call (then (var 1 19) (method (routine_id 2) ByInterface (argued [])) (id 9))) ∷
      (call (then (var 2 20) (method (routine_id 3) ByInterface (argued [])) (id 9))) ∷
      (call (then (var 2 20) (method (routine_id 4) ByInterface (argued [])) (id 9))) ∷
      (assign (var 1 19) (to Keep 19 nothing)) ∷
      (built_in (write (plain (dot (var 0 21) 0 4) ∷ []) true)) ∷
      (assign (var 2 20) (to Keep 20 nothing)) ∷
      (built_in (write (plain (quoted (codes "end")) ∷ []) true)) ∷ [])) ∷
      [])

  face_two_runs : outcome 4000 face_two ([]) ≡ ends_with (makes 32 ∷ frees 1 ∷ []) (said (codes "A1") ++ said (codes "B2") ++ said (codes "A3") ++ said (codes "3") ++ said (codes "gone") ++ said (codes "end")) ([]) 0
  unfolding outcome
  face_two_runs = refl

  -- One variable as a value and as out: the value holds the instance
  abbrev face_value_and_out : Program
  face_value_and_out = program name
      (Class (class_id 0) ∷ Interface (interface_id 0) ∷ Class (class_id 1) ∷ Class (class_id 2) ∷ [])
      []
      (row name 17 Plain None ∷ row name 16 ObjectRole None ∷ row name 16 ObjectRole None ∷ row name 19 ObjectRole None ∷ row name 17 (Parameter Value) None ∷ row name 17 (Parameter Out) None ∷ [])
      (routine_row name (codes "create") Constructor (OfClass (class_id 0)) 0 None 1 1 ∷ routine_row name (codes "destroy") Destructor (OfClass (class_id 0)) 0 None 2 1 ∷ routine_row name (codes "destroy") Destructor (OfClass (class_id 2)) 0 None 3 1 ∷ routine_row name (codes "p") Procedure OfUnit 2 None 4 2 ∷ [])
      (class_row (codes "TObject") 16 None 0 0 0 2 0 0 ∷ class_row (codes "TInterfacedObject") 18 (Some (class_id 0)) 0 0 2 0 0 1 ∷ class_row (codes "TA") 19 (Some (class_id 1)) 0 0 2 1 1 0 ∷ [])
      (interface_row (codes "iunknown") 17 None 3 0 ∷ [])
      (method_row 0 Static false ∷ method_row 1 VirtualBinding false ∷ method_row 2 Override false ∷ [])
      (interface_id 0 ∷ [])
      (variable_id 0 ∷ [])
      None
      ((listed ([])) ∷
      (listed ([])) ∷
      (listed (
      (built_in (write (plain (quoted (codes "gone")) ∷ []) true)) ∷
      (call (then (obj 3 19) (method (routine_id 1) Direct (argued [])) (id 9))) ∷ [])) ∷
      (listed (
      (built_in (write (plain (with_q false 5 (var 4 17) Equal (to Keep 17 nothing)) ∷ plain (with_q false 5 (var 5 17) Equal (to Keep 17 nothing)) ∷ []) true)) ∷
      (assign (var 5 17) (var 4 17)) ∷ [])) ∷
      (listed (
      (assign (var 0 17) (to ToInterface 17 (expression (construct (class_id 2) (routine_id 0) (argued [])) (id 19) no_steps))) ∷
      (call (expression (call_of (routine_id 3) (argued (value (var 0 17) ∷ place (var 0 17) ∷ []))) (id 9) no_steps)) ∷
      (built_in (write (plain (with_q false 5 (var 0 17) Equal (to Keep 17 nothing)) ∷ []) true)) ∷
      (assign (var 0 17) (to Keep 17 nothing)) ∷
      (built_in (write (plain (quoted (codes "end")) ∷ []) true)) ∷ [])) ∷
      [])

  face_value_and_out_runs : outcome 4000 face_value_and_out ([]) ≡ ends_with (makes 16 ∷ frees 1 ∷ []) (said (codes "FALSETRUE") ++ said (codes "FALSE") ++ said (codes "gone") ++ said (codes "end")) ([]) 0
  unfolding outcome
  face_value_and_out_runs = refl

  -- A value parameter holds its instance while the global lets go
  abbrev face_value_parameter : Program
  face_value_parameter = program name
      (Class (class_id 0) ∷ Interface (interface_id 0) ∷ Class (class_id 1) ∷ Class (class_id 2) ∷ [])
      []
      (row name 17 Plain None ∷ row name 16 ObjectRole None ∷ row name 16 ObjectRole None ∷ row name 19 ObjectRole None ∷ row name 17 (Parameter Value) None ∷ [])
      (routine_row name (codes "create") Constructor (OfClass (class_id 0)) 0 None 1 1 ∷ routine_row name (codes "destroy") Destructor (OfClass (class_id 0)) 0 None 2 1 ∷ routine_row name (codes "destroy") Destructor (OfClass (class_id 2)) 0 None 3 1 ∷ routine_row name (codes "p") Procedure OfUnit 1 None 4 1 ∷ [])
      (class_row (codes "TObject") 16 None 0 0 0 2 0 0 ∷ class_row (codes "TInterfacedObject") 18 (Some (class_id 0)) 0 0 2 0 0 1 ∷ class_row (codes "TA") 19 (Some (class_id 1)) 0 0 2 1 1 0 ∷ [])
      (interface_row (codes "iunknown") 17 None 3 0 ∷ [])
      (method_row 0 Static false ∷ method_row 1 VirtualBinding false ∷ method_row 2 Override false ∷ [])
      (interface_id 0 ∷ [])
      (variable_id 0 ∷ [])
      None
      ((listed ([])) ∷
      (listed ([])) ∷
      (listed (
      (built_in (write (plain (quoted (codes "gone")) ∷ []) true)) ∷
      (call (then (obj 3 19) (method (routine_id 1) Direct (argued [])) (id 9))) ∷ [])) ∷
      (listed (
      (assign (var 0 17) (to Keep 17 nothing)) ∷
      (built_in (write (plain (quoted (codes "in")) ∷ plain (with_q false 5 (var 4 17) NotEqual (to Keep 17 nothing)) ∷ []) true)) ∷ [])) ∷
      (listed (
      (assign (var 0 17) (to ToInterface 17 (expression (construct (class_id 2) (routine_id 0) (argued [])) (id 19) no_steps))) ∷
      (call (expression (call_of (routine_id 3) (argued (value (var 0 17) ∷ []))) (id 9) no_steps)) ∷
      (built_in (write (plain (quoted (codes "end")) ∷ []) true)) ∷ [])) ∷
      [])

  face_value_parameter_runs : outcome 4000 face_value_parameter ([]) ≡ ends_with (makes 16 ∷ frees 1 ∷ []) (said (codes "inTRUE") ++ said (codes "gone") ++ said (codes "end")) ([]) 0
  unfolding outcome
  face_value_parameter_runs = refl

  -- Var and out interface arguments in arrays and fields, with the call that changes them.
  abbrev face_var_and_out : Program
  face_var_and_out = program name
      (Class (class_id 0) ∷ Interface (interface_id 0) ∷ Class (class_id 1) ∷ Interface (interface_id 1) ∷ Class (class_id 2) ∷ DynamicArray (id 19) ∷ [])
      (part name 4 ∷ part name 19 ∷ [])
      (row name 21 Plain None ∷ row name 20 Plain None ∷ row name 20 Plain None ∷ row name 19 Plain None ∷ row name 16 ObjectRole None ∷ row name 16 ObjectRole None ∷ row name 19 ObjectRole None ∷ row name 4 Result None ∷ row name 20 ObjectRole None ∷ row name 4 (Parameter Value) None ∷ row name 20 ObjectRole None ∷ row name 4 Result None ∷ row name 20 ObjectRole None ∷ row name 19 (Parameter Var) None ∷ row name 19 (Parameter Out) None ∷ row name 4 (Parameter Value) None ∷ row name 4 Result None ∷ [])
      (routine_row name (codes "create") Constructor (OfClass (class_id 0)) 0 None 4 1 ∷ routine_row name (codes "destroy") Destructor (OfClass (class_id 0)) 0 None 5 1 ∷ routine_row name (codes "v") FunctionKind (OfInterface (interface_id 1)) 0 (Some 4) 6 2 ∷ routine_row name (codes "create") Constructor (OfClass (class_id 2)) 1 None 8 2 ∷ routine_row name (codes "v") FunctionKind (OfClass (class_id 2)) 0 (Some 4) 10 2 ∷ routine_row name (codes "destroy") Destructor (OfClass (class_id 2)) 0 None 12 1 ∷ routine_row name (codes "s") Procedure OfUnit 3 None 13 3 ∷ routine_row name (codes "k") FunctionKind OfUnit 0 (Some 4) 16 1 ∷ [])
      (class_row (codes "TObject") 16 None 0 0 0 2 0 0 ∷ class_row (codes "TInterfacedObject") 18 (Some (class_id 0)) 0 0 2 0 0 1 ∷ class_row (codes "TT") 20 (Some (class_id 1)) 0 2 2 3 1 1 ∷ [])
      (interface_row (codes "iunknown") 17 None 5 0 ∷ interface_row (codes "ii") 19 (Some (interface_id 0)) 5 1 ∷ [])
      (method_row 0 Static false ∷ method_row 1 VirtualBinding false ∷ method_row 3 Static false ∷ method_row 4 Static false ∷ method_row 5 Override false ∷ method_row 2 Static false ∷ [])
      (interface_id 0 ∷ interface_id 1 ∷ [])
      (variable_id 0 ∷ variable_id 1 ∷ variable_id 2 ∷ variable_id 3 ∷ [])
      None
      ((listed ([])) ∷
      (listed ([])) ∷
      (listed ([])) ∷
      (listed (
      (assign (dot (obj 8 20) 0 4) (var 9 4)) ∷ [])) ∷
      (listed (
      (assign (var 11 4) (dot (obj 10 20) 0 4)) ∷ [])) ∷
      (listed (
      (built_in (write (plain (known (pos 100) 6) ∷ plain (dot (obj 12 20) 0 4) ∷ []) true)) ∷
      (call (then (obj 12 20) (method (routine_id 1) Direct (argued [])) (id 9))) ∷ [])) ∷
      (listed (
      (built_in (write (plain (known (pos 115) 6) ∷ plain (applying Assigned false (var 13 19) 5) ∷ plain (applying Assigned false (var 14 19) 5) ∷ []) true)) ∷
      (assign (var 14 19) (to ToInterface 19 (expression (construct (class_id 2) (routine_id 3) (argued (value (var 15 4) ∷ []))) (id 20) no_steps))) ∷
      (assign (var 13 19) (var 14 19)) ∷ [])) ∷
      (listed (
      (assign (var 3 19) (to Keep 19 nothing)) ∷
      (assign (var 16 4) (known (pos 8) 4)) ∷ [])) ∷
      (listed (
      (built_in (set_length (var 0 21) (known (pos 2) 4))) ∷
      (assign (at (var 0 21) (known (pos 0) 4) 19) (to ToInterface 19 (expression (construct (class_id 2) (routine_id 3) (argued (value (known (pos 1) 4) ∷ []))) (id 20) no_steps))) ∷
      (assign (var 3 19) (to ToInterface 19 (expression (construct (class_id 2) (routine_id 3) (argued (value (known (pos 2) 4) ∷ []))) (id 20) no_steps))) ∷
      (call (expression (call_of (routine_id 6) (argued (place (at (var 0 21) (known (pos 0) 4) 19) ∷ place (var 3 19) ∷ value (expression (call_of (routine_id 7) (argued [])) (id 4) no_steps) ∷ []))) (id 9) no_steps)) ∷
      (built_in (write (plain (then (var 3 19) (method (routine_id 2) ByInterface (argued [])) (id 4)) ∷ plain (then (at (var 0 21) (known (pos 0) 4) 19) (method (routine_id 2) ByInterface (argued [])) (id 4)) ∷ []) true)) ∷
      (assign (var 0 21) (to Keep 21 nothing)) ∷
      (assign (var 1 20) (expression (construct (class_id 2) (routine_id 3) (argued (value (known (pos 3) 4) ∷ []))) (id 20) no_steps)) ∷
      (assign (dot (var 1 20) 1 19) (var 3 19)) ∷
      (assign (var 2 20) (expression (construct (class_id 2) (routine_id 3) (argued (value (known (pos 4) 4) ∷ []))) (id 20) no_steps)) ∷
      (call (expression (call_of (routine_id 6) (argued (place (dot (var 1 20) 1 19) ∷ place (dot (var 2 20) 1 19) ∷ value (known (pos 5) 4) ∷ []))) (id 9) no_steps)) ∷
      (built_in (free (var 2 20) false)) ∷
      (built_in (write (plain (with_q false 5 (var 2 20) Equal (to Keep 20 nothing)) ∷ plain (then (dot (var 1 20) 1 19) (method (routine_id 2) ByInterface (argued [])) (id 4)) ∷ []) true)) ∷
      (assign (var 3 19) (to ToInterface 19 (var 1 20))) ∷
      (assign (var 1 20) (to Keep 20 nothing)) ∷
      (call (expression (call_of (routine_id 6) (argued (place (dot (var 2 20) 1 19) ∷ place (var 3 19) ∷ value (known (pos 6) 4) ∷ []))) (id 9) no_steps)) ∷ [])) ∷
      [])

  face_var_and_out_runs : outcome 4000 face_var_and_out ([]) ≡ ends_with (asks 32 ∷ makes 32 ∷ makes 32 ∷ frees 3 ∷ makes 32 ∷ frees 2 ∷ frees 1 ∷ makes 32 ∷ makes 32 ∷ makes 32 ∷ frees 6 ∷ frees 4 ∷ []) (said (codes "d2") ++ said (codes "sTRUEFALSE") ++ said (codes "d1") ++ said (codes "88") ++ said (codes "sTRUEFALSE") ++ said (codes "d4") ++ said (codes "FALSE5") ++ said (codes "d8")) (said (codes "Runtime error 216")) 216
  unfolding outcome
  face_var_and_out_runs = refl

  -- An interface given as var: the routine's store lets the old instance go
  abbrev face_var_argument : Program
  face_var_argument = program name
      (Class (class_id 0) ∷ Interface (interface_id 0) ∷ Class (class_id 1) ∷ Class (class_id 2) ∷ [])
      (part name 4 ∷ [])
      (row name 17 Plain None ∷ row name 16 ObjectRole None ∷ row name 16 ObjectRole None ∷ row name 19 ObjectRole None ∷ row name 4 (Parameter Value) None ∷ row name 19 ObjectRole None ∷ row name 17 (Parameter Var) None ∷ row name 17 (Parameter Value) None ∷ [])
      (routine_row name (codes "create") Constructor (OfClass (class_id 0)) 0 None 1 1 ∷ routine_row name (codes "destroy") Destructor (OfClass (class_id 0)) 0 None 2 1 ∷ routine_row name (codes "create") Constructor (OfClass (class_id 2)) 1 None 3 2 ∷ routine_row name (codes "destroy") Destructor (OfClass (class_id 2)) 0 None 5 1 ∷ routine_row name (codes "p") Procedure OfUnit 2 None 6 2 ∷ [])
      (class_row (codes "TObject") 16 None 0 0 0 2 0 0 ∷ class_row (codes "TInterfacedObject") 18 (Some (class_id 0)) 0 0 2 0 0 1 ∷ class_row (codes "TA") 19 (Some (class_id 1)) 0 1 2 2 1 0 ∷ [])
      (interface_row (codes "iunknown") 17 None 4 0 ∷ [])
      (method_row 0 Static false ∷ method_row 1 VirtualBinding false ∷ method_row 2 Static false ∷ method_row 3 Override false ∷ [])
      (interface_id 0 ∷ [])
      (variable_id 0 ∷ [])
      None
      ((listed ([])) ∷
      (listed ([])) ∷
      (listed (
      (assign (dot (obj 3 19) 0 4) (var 4 4)) ∷ [])) ∷
      (listed (
      (built_in (write (plain (quoted (codes "gone ")) ∷ plain (dot (obj 5 19) 0 4) ∷ []) true)) ∷
      (call (then (obj 5 19) (method (routine_id 1) Direct (argued [])) (id 9))) ∷ [])) ∷
      (listed (
      (assign (var 6 17) (var 7 17)) ∷
      (built_in (write (plain (quoted (codes "stored")) ∷ []) true)) ∷ [])) ∷
      (listed (
      (assign (var 0 17) (to ToInterface 17 (expression (construct (class_id 2) (routine_id 2) (argued (value (known (pos 1) 4) ∷ []))) (id 19) no_steps))) ∷
      (call (expression (call_of (routine_id 4) (argued (place (var 0 17) ∷ value (to ToInterface 17 (expression (construct (class_id 2) (routine_id 2) (argued (value (known (pos 2) 4) ∷ []))) (id 19) no_steps)) ∷ []))) (id 9) no_steps)) ∷
      (built_in (write (plain (quoted (codes "back")) ∷ []) true)) ∷
      (assign (var 0 17) (to Keep 17 nothing)) ∷ [])) ∷
      [])

  face_var_argument_runs : outcome 4000 face_var_argument ([]) ≡ ends_with (makes 32 ∷ makes 32 ∷ frees 1 ∷ frees 2 ∷ []) (said (codes "gone 1") ++ said (codes "stored") ++ said (codes "back") ++ said (codes "gone 2")) ([]) 0
  unfolding outcome
  face_var_argument_runs = refl
