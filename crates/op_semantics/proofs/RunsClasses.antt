-- Classes: instances, methods, properties, destructors, casts. Each program stands above what it comes to; tests/semantics makes this file of the
-- texts in tests/semantics.d, and tells how what is expected was found.
use Rattle.std.specs.Prelude.{◌≡◌, pos, negsuc, true, false, [], ◌∷◌, ◌++◌, codes, Some, None}
use Rattle.std.proofs.Common.{refl}
use Rattle.op_core.specs.Expression.{expression, call as call_of, construct, method, no_steps, then, bracket, is, value, place, no_arguments}
use Rattle.op_core.specs.Statement.{assign, call, empty, block, if_then, for_to, try_on, handlers, no_handlers, exit, halt, built_in, write, count, set_length, str, free, destroy, plain}
use Rattle.op_core.specs.Types.{id}
use Rattle.op_core.specs.declared.class.Binding.TheVariants.{Static, Virtual as VirtualBinding, Override}
use Rattle.op_core.specs.declared.operation.Conversion.TheVariants.{Keep, LowBits, ToString, ToInterface, Instance}
use Rattle.op_core.specs.declared.operation.Dispatch.TheVariants.{Direct, Virtual}
use Rattle.op_core.specs.declared.operation.Function.TheVariants.{Length, High, Assigned, ClassName}
use Rattle.op_core.specs.declared.routine.Owner.TheVariants.{Unit as OfUnit, Class as OfClass}
use Rattle.op_core.specs.declared.routine.Role.TheVariants.{Plain, Parameter, Object as ObjectRole, Result, Handler}
use Rattle.op_core.specs.declared.types.CoreType.TheVariants.{Subrange, Record, Array, DynamicArray, Class, Interface}
use Rattle.op_meaning.proofs.Programs.{said, var, known, quoted, with_q, applying, to, at, dot, argued, listed, rows_at, part}
use Rattle.op_semantics.proofs.Programs.{outcome, ends_with, asks, makes, frees, nothing, variable_id, routine_id, class_id, interface_id, obj, target_at, row, routine_row, class_row, method_row, interface_row, program}
use Rattle.op_semantics.specs.Frames.{Program}
use Rattle.op_tree.specs.declared.heading.ParameterMode.TheVariants.{Value, Var, Const_, Out}
use Rattle.op_tree.specs.declared.heading.RoutineKind.TheVariants.{Procedure, Function as FunctionKind, Constructor, Destructor}
use Rattle.op_tree.specs.declared.operator.Operator.TheVariants.{Equal, NotEqual, Less, Add, Multiply}
use Rattle.op_tree.specs.declared.position.Name.{Name}
use Rattle.op_tree.specs.declared.statement.Direction.TheVariants.{To}

module _ (name : Name) where
  -- An abstract method that is called
  abbrev class_abstract : Program
  class_abstract = program name
      (Class (class_id 0) ∷ Interface (interface_id 0) ∷ Class (class_id 1) ∷ Class (class_id 2) ∷ Class (class_id 3) ∷ [])
      []
      (row name 19 Plain None ∷ row name 16 ObjectRole None ∷ row name 16 ObjectRole None ∷ row name 19 ObjectRole None ∷ row name 20 ObjectRole None ∷ [])
      (routine_row name (codes "create") Constructor (OfClass (class_id 0)) 0 None 1 1 ∷ routine_row name (codes "destroy") Destructor (OfClass (class_id 0)) 0 None 2 1 ∷ routine_row name (codes "p") Procedure (OfClass (class_id 2)) 0 None 3 1 ∷ routine_row name (codes "p") Procedure (OfClass (class_id 3)) 0 None 4 1 ∷ [])
      (class_row (codes "TObject") 16 None 0 0 0 2 0 0 ∷ class_row (codes "TInterfacedObject") 18 (Some (class_id 0)) 0 0 2 0 0 1 ∷ class_row (codes "TA") 19 (Some (class_id 0)) 0 0 2 1 1 0 ∷ class_row (codes "TB") 20 (Some (class_id 2)) 0 0 3 1 1 0 ∷ [])
      (interface_row (codes "iunknown") 17 None 4 0 ∷ [])
      (method_row 0 Static false ∷ method_row 1 VirtualBinding false ∷ method_row 2 VirtualBinding true ∷ method_row 3 Override false ∷ [])
      (interface_id 0 ∷ [])
      (variable_id 0 ∷ [])
      None
      ((listed ([])) ∷
      (listed ([])) ∷
      (listed ([])) ∷
      (listed (
      (built_in (write (plain (known (pos 66) 6) ∷ []) true)) ∷ [])) ∷
      (listed (
      (assign (var 0 19) (to Keep 19 (expression (construct (class_id 3) (routine_id 0) (argued [])) (id 20) no_steps))) ∷
      (call (then (var 0 19) (method (routine_id 2) Virtual (argued [])) (id 9))) ∷
      (built_in (free (var 0 19) false)) ∷
      (assign (var 0 19) (expression (construct (class_id 2) (routine_id 0) (argued [])) (id 19) no_steps)) ∷
      (built_in (write (plain (quoted (codes "made")) ∷ []) true)) ∷
      (call (then (var 0 19) (method (routine_id 2) Virtual (argued [])) (id 9))) ∷
      (built_in (write (plain (quoted (codes "never")) ∷ []) true)) ∷ [])) ∷
      [])

  class_abstract_runs : outcome 4000 class_abstract ([]) ≡ ends_with (makes 16 ∷ frees 1 ∷ makes 16 ∷ []) (said (codes "B") ++ said (codes "made")) (said (codes "Runtime error 211")) 211
  unfolding outcome
  class_abstract_runs = refl

  -- An abstract constructor ends with 211 once its object is made.
  abbrev class_abstract_constructor : Program
  class_abstract_constructor = program name
      (Class (class_id 0) ∷ Interface (interface_id 0) ∷ Class (class_id 1) ∷ Class (class_id 2) ∷ [])
      []
      (row name 19 Plain None ∷ row name 16 ObjectRole None ∷ row name 16 ObjectRole None ∷ row name 19 ObjectRole None ∷ [])
      (routine_row name (codes "create") Constructor (OfClass (class_id 0)) 0 None 1 1 ∷ routine_row name (codes "destroy") Destructor (OfClass (class_id 0)) 0 None 2 1 ∷ routine_row name (codes "create") Constructor (OfClass (class_id 2)) 0 None 3 1 ∷ [])
      (class_row (codes "TObject") 16 None 0 0 0 2 0 0 ∷ class_row (codes "TInterfacedObject") 18 (Some (class_id 0)) 0 0 2 0 0 1 ∷ class_row (codes "A") 19 (Some (class_id 0)) 0 0 2 1 1 0 ∷ [])
      (interface_row (codes "iunknown") 17 None 3 0 ∷ [])
      (method_row 0 Static false ∷ method_row 1 VirtualBinding false ∷ method_row 2 VirtualBinding true ∷ [])
      (interface_id 0 ∷ [])
      (variable_id 0 ∷ [])
      None
      ((listed ([])) ∷
      (listed ([])) ∷
      (listed ([])) ∷
      (listed (
      (assign (var 0 19) (expression (construct (class_id 2) (routine_id 2) (argued [])) (id 19) no_steps)) ∷
      (built_in (write (plain (quoted (codes "made")) ∷ []) true)) ∷ [])) ∷
      [])

  class_abstract_constructor_runs : outcome 4000 class_abstract_constructor ([]) ≡ ends_with (makes 16 ∷ []) ([]) (said (codes "Runtime error 211")) 211
  unfolding outcome
  class_abstract_constructor_runs = refl

  -- Free of an object with an abstract destructor ends with 211.
  abbrev class_abstract_destructor : Program
  class_abstract_destructor = program name
      (Class (class_id 0) ∷ Interface (interface_id 0) ∷ Class (class_id 1) ∷ Class (class_id 2) ∷ [])
      []
      (row name 19 Plain None ∷ row name 16 ObjectRole None ∷ row name 16 ObjectRole None ∷ row name 19 ObjectRole None ∷ [])
      (routine_row name (codes "create") Constructor (OfClass (class_id 0)) 0 None 1 1 ∷ routine_row name (codes "destroy") Destructor (OfClass (class_id 0)) 0 None 2 1 ∷ routine_row name (codes "destroy") Destructor (OfClass (class_id 2)) 0 None 3 1 ∷ [])
      (class_row (codes "TObject") 16 None 0 0 0 2 0 0 ∷ class_row (codes "TInterfacedObject") 18 (Some (class_id 0)) 0 0 2 0 0 1 ∷ class_row (codes "A") 19 (Some (class_id 0)) 0 0 2 1 1 0 ∷ [])
      (interface_row (codes "iunknown") 17 None 3 0 ∷ [])
      (method_row 0 Static false ∷ method_row 1 VirtualBinding false ∷ method_row 2 Override true ∷ [])
      (interface_id 0 ∷ [])
      (variable_id 0 ∷ [])
      None
      ((listed ([])) ∷
      (listed ([])) ∷
      (listed ([])) ∷
      (listed (
      (assign (var 0 19) (expression (construct (class_id 2) (routine_id 0) (argued [])) (id 19) no_steps)) ∷
      (built_in (free (var 0 19) false)) ∷
      (built_in (write (plain (quoted (codes "freed")) ∷ []) true)) ∷ [])) ∷
      [])

  class_abstract_destructor_runs : outcome 4000 class_abstract_destructor ([]) ≡ ends_with (makes 16 ∷ []) ([]) (said (codes "Runtime error 211")) 211
  unfolding outcome
  class_abstract_destructor_runs = refl

  -- A constructor's argument runs before its body
  abbrev class_argument_first : Program
  class_argument_first = program name
      (Class (class_id 0) ∷ Interface (interface_id 0) ∷ Class (class_id 1) ∷ Class (class_id 2) ∷ [])
      (part name 7 ∷ [])
      (row name 19 Plain None ∷ row name 16 ObjectRole None ∷ row name 16 ObjectRole None ∷ row name 19 ObjectRole None ∷ row name 7 (Parameter Const_) None ∷ row name 7 (Parameter Const_) None ∷ row name 7 Result None ∷ [])
      (routine_row name (codes "create") Constructor (OfClass (class_id 0)) 0 None 1 1 ∷ routine_row name (codes "destroy") Destructor (OfClass (class_id 0)) 0 None 2 1 ∷ routine_row name (codes "create") Constructor (OfClass (class_id 2)) 1 None 3 2 ∷ routine_row name (codes "f") FunctionKind OfUnit 1 (Some 7) 5 2 ∷ [])
      (class_row (codes "TObject") 16 None 0 0 0 2 0 0 ∷ class_row (codes "TInterfacedObject") 18 (Some (class_id 0)) 0 0 2 0 0 1 ∷ class_row (codes "TA") 19 (Some (class_id 0)) 0 1 2 1 1 0 ∷ [])
      (interface_row (codes "iunknown") 17 None 3 0 ∷ [])
      (method_row 0 Static false ∷ method_row 1 VirtualBinding false ∷ method_row 2 Static false ∷ [])
      (interface_id 0 ∷ [])
      (variable_id 0 ∷ [])
      None
      ((listed ([])) ∷
      (listed ([])) ∷
      (listed (
      (built_in (write (plain (quoted (codes "create")) ∷ []) true)) ∷
      (assign (dot (obj 3 19) 0 7) (with_q false 7 (var 4 7) Add (quoted (codes ".")))) ∷ [])) ∷
      (listed (
      (built_in (write (plain (quoted (codes "F ")) ∷ plain (var 5 7) ∷ []) true)) ∷
      (assign (var 6 7) (var 5 7)) ∷ [])) ∷
      (listed (
      (assign (var 0 19) (expression (construct (class_id 2) (routine_id 2) (argued (value (expression (call_of (routine_id 3) (argued (value (quoted (codes "1")) ∷ []))) (id 7) no_steps) ∷ []))) (id 19) no_steps)) ∷
      (built_in (write (plain (dot (var 0 19) 0 7) ∷ []) true)) ∷
      (built_in (free (var 0 19) false)) ∷ [])) ∷
      [])

  class_argument_first_runs : outcome 4000 class_argument_first ([]) ≡ ends_with (makes 32 ∷ asks 32 ∷ frees 2 ∷ frees 1 ∷ []) (said (codes "F 1") ++ said (codes "create") ++ said (codes "1.")) ([]) 0
  unfolding outcome
  class_argument_first_runs = refl

  -- An argument that frees the receiver: the receiver is looked at after it
  abbrev class_argument_frees : Program
  class_argument_frees = program name
      (Class (class_id 0) ∷ Interface (interface_id 0) ∷ Class (class_id 1) ∷ Class (class_id 2) ∷ [])
      []
      (row name 19 Plain None ∷ row name 16 ObjectRole None ∷ row name 16 ObjectRole None ∷ row name 19 ObjectRole None ∷ row name 4 (Parameter Value) None ∷ row name 4 Result None ∷ [])
      (routine_row name (codes "create") Constructor (OfClass (class_id 0)) 0 None 1 1 ∷ routine_row name (codes "destroy") Destructor (OfClass (class_id 0)) 0 None 2 1 ∷ routine_row name (codes "p") Procedure (OfClass (class_id 2)) 1 None 3 2 ∷ routine_row name (codes "f") FunctionKind OfUnit 0 (Some 4) 5 1 ∷ [])
      (class_row (codes "TObject") 16 None 0 0 0 2 0 0 ∷ class_row (codes "TInterfacedObject") 18 (Some (class_id 0)) 0 0 2 0 0 1 ∷ class_row (codes "TA") 19 (Some (class_id 0)) 0 0 2 1 1 0 ∷ [])
      (interface_row (codes "iunknown") 17 None 3 0 ∷ [])
      (method_row 0 Static false ∷ method_row 1 VirtualBinding false ∷ method_row 2 Static false ∷ [])
      (interface_id 0 ∷ [])
      (variable_id 0 ∷ [])
      None
      ((listed ([])) ∷
      (listed ([])) ∷
      (listed (
      (built_in (write (plain (quoted (codes "never")) ∷ []) true)) ∷ [])) ∷
      (listed (
      (built_in (write (plain (quoted (codes "argument")) ∷ []) true)) ∷
      (built_in (free (var 0 19) false)) ∷
      (assign (var 5 4) (known (pos 1) 4)) ∷ [])) ∷
      (listed (
      (assign (var 0 19) (expression (construct (class_id 2) (routine_id 0) (argued [])) (id 19) no_steps)) ∷
      (call (then (var 0 19) (method (routine_id 2) Direct (argued (value (expression (call_of (routine_id 3) (argued [])) (id 4) no_steps) ∷ []))) (id 9))) ∷ [])) ∷
      [])

  class_argument_frees_runs : outcome 4000 class_argument_frees ([]) ≡ ends_with (makes 16 ∷ frees 1 ∷ []) (said (codes "argument")) (said (codes "Runtime error 216")) 216
  unfolding outcome
  class_argument_frees_runs = refl

  -- A constructor's arguments run from left to right
  abbrev class_arguments_order : Program
  class_arguments_order = program name
      (Class (class_id 0) ∷ Interface (interface_id 0) ∷ Class (class_id 1) ∷ Class (class_id 2) ∷ [])
      (part name 7 ∷ [])
      (row name 19 Plain None ∷ row name 16 ObjectRole None ∷ row name 16 ObjectRole None ∷ row name 19 ObjectRole None ∷ row name 7 (Parameter Const_) None ∷ row name 7 (Parameter Const_) None ∷ row name 7 (Parameter Const_) None ∷ row name 7 Result None ∷ [])
      (routine_row name (codes "create") Constructor (OfClass (class_id 0)) 0 None 1 1 ∷ routine_row name (codes "destroy") Destructor (OfClass (class_id 0)) 0 None 2 1 ∷ routine_row name (codes "create") Constructor (OfClass (class_id 2)) 2 None 3 3 ∷ routine_row name (codes "f") FunctionKind OfUnit 1 (Some 7) 6 2 ∷ [])
      (class_row (codes "TObject") 16 None 0 0 0 2 0 0 ∷ class_row (codes "TInterfacedObject") 18 (Some (class_id 0)) 0 0 2 0 0 1 ∷ class_row (codes "TA") 19 (Some (class_id 0)) 0 1 2 1 1 0 ∷ [])
      (interface_row (codes "iunknown") 17 None 3 0 ∷ [])
      (method_row 0 Static false ∷ method_row 1 VirtualBinding false ∷ method_row 2 Static false ∷ [])
      (interface_id 0 ∷ [])
      (variable_id 0 ∷ [])
      None
      ((listed ([])) ∷
      (listed ([])) ∷
      (listed (
      (assign (dot (obj 3 19) 0 7) (with_q false 7 (var 4 7) Add (var 5 7))) ∷ [])) ∷
      (listed (
      (built_in (write (plain (quoted (codes "F ")) ∷ plain (var 6 7) ∷ []) true)) ∷
      (assign (var 7 7) (var 6 7)) ∷ [])) ∷
      (listed (
      (assign (var 0 19) (expression (construct (class_id 2) (routine_id 2) (argued (value (expression (call_of (routine_id 3) (argued (value (quoted (codes "1")) ∷ []))) (id 7) no_steps) ∷ value (expression (call_of (routine_id 3) (argued (value (quoted (codes "2")) ∷ []))) (id 7) no_steps) ∷ []))) (id 19) no_steps)) ∷
      (built_in (write (plain (dot (var 0 19) 0 7) ∷ []) true)) ∷
      (built_in (free (var 0 19) false)) ∷ [])) ∷
      [])

  class_arguments_order_runs : outcome 4000 class_arguments_order ([]) ≡ ends_with (makes 32 ∷ asks 32 ∷ frees 2 ∷ frees 1 ∷ []) (said (codes "F 1") ++ said (codes "F 2") ++ said (codes "12")) ([]) 0
  unfolding outcome
  class_arguments_order_runs = refl

  -- as and casts that succeed, also of nil
  abbrev class_as : Program
  class_as = program name
      (Class (class_id 0) ∷ Interface (interface_id 0) ∷ Class (class_id 1) ∷ Class (class_id 2) ∷ Class (class_id 3) ∷ [])
      (part name 4 ∷ [])
      (row name 19 Plain None ∷ row name 19 Plain None ∷ row name 20 Plain None ∷ row name 16 ObjectRole None ∷ row name 16 ObjectRole None ∷ row name 20 ObjectRole None ∷ [])
      (routine_row name (codes "create") Constructor (OfClass (class_id 0)) 0 None 3 1 ∷ routine_row name (codes "destroy") Destructor (OfClass (class_id 0)) 0 None 4 1 ∷ routine_row name (codes "p") Procedure (OfClass (class_id 3)) 0 None 5 1 ∷ [])
      (class_row (codes "TObject") 16 None 0 0 0 2 0 0 ∷ class_row (codes "TInterfacedObject") 18 (Some (class_id 0)) 0 0 2 0 0 1 ∷ class_row (codes "TA") 19 (Some (class_id 0)) 0 1 2 0 1 0 ∷ class_row (codes "TB") 20 (Some (class_id 2)) 1 0 2 1 1 0 ∷ [])
      (interface_row (codes "iunknown") 17 None 3 0 ∷ [])
      (method_row 0 Static false ∷ method_row 1 VirtualBinding false ∷ method_row 2 Static false ∷ [])
      (interface_id 0 ∷ [])
      (variable_id 0 ∷ variable_id 1 ∷ variable_id 2 ∷ [])
      None
      ((listed ([])) ∷
      (listed ([])) ∷
      (listed (
      (built_in (write (plain (known (pos 80) 6) ∷ plain (dot (obj 5 20) 0 4) ∷ []) true)) ∷ [])) ∷
      (listed (
      (assign (var 0 19) (to Keep 19 (expression (construct (class_id 3) (routine_id 0) (argued [])) (id 20) no_steps))) ∷
      (assign (dot (then (to Instance 20 (var 0 19)) bracket (id 20)) 0 4) (known (pos 4) 4)) ∷
      (call (then (then (to Instance 20 (var 0 19)) bracket (id 20)) (method (routine_id 2) Direct (argued [])) (id 9))) ∷
      (call (then (to Instance 20 (var 0 19)) (method (routine_id 2) Direct (argued [])) (id 9))) ∷
      (assign (var 2 20) (to Instance 20 (var 0 19))) ∷
      (built_in (write (plain (with_q false 5 (var 2 20) Equal (var 0 19)) ∷ plain (with_q false 5 (then (to Instance 20 (var 1 19)) bracket (id 20)) Equal (to Keep 20 nothing)) ∷ plain (with_q false 5 (to Instance 20 (var 1 19)) Equal (to Keep 20 nothing)) ∷ []) true)) ∷
      (built_in (free (to Instance 16 (var 0 19)) false)) ∷ [])) ∷
      [])

  class_as_runs : outcome 4000 class_as ([]) ≡ ends_with (makes 32 ∷ frees 1 ∷ []) (said (codes "P4") ++ said (codes "P4") ++ said (codes "TRUETRUETRUE")) ([]) 0
  unfolding outcome
  class_as_runs = refl

  -- as to a class that is not the instance's
  abbrev class_as_fails : Program
  class_as_fails = program name
      (Class (class_id 0) ∷ Interface (interface_id 0) ∷ Class (class_id 1) ∷ Class (class_id 2) ∷ Class (class_id 3) ∷ [])
      (part name 4 ∷ [])
      (row name 19 Plain None ∷ row name 16 ObjectRole None ∷ row name 16 ObjectRole None ∷ [])
      (routine_row name (codes "create") Constructor (OfClass (class_id 0)) 0 None 1 1 ∷ routine_row name (codes "destroy") Destructor (OfClass (class_id 0)) 0 None 2 1 ∷ [])
      (class_row (codes "TObject") 16 None 0 0 0 2 0 0 ∷ class_row (codes "TInterfacedObject") 18 (Some (class_id 0)) 0 0 2 0 0 1 ∷ class_row (codes "TA") 19 (Some (class_id 0)) 0 0 2 0 1 0 ∷ class_row (codes "TB") 20 (Some (class_id 2)) 0 1 2 0 1 0 ∷ [])
      (interface_row (codes "iunknown") 17 None 2 0 ∷ [])
      (method_row 0 Static false ∷ method_row 1 VirtualBinding false ∷ [])
      (interface_id 0 ∷ [])
      (variable_id 0 ∷ [])
      None
      ((listed ([])) ∷
      (listed ([])) ∷
      (listed (
      (assign (var 0 19) (expression (construct (class_id 2) (routine_id 0) (argued [])) (id 19) no_steps)) ∷
      (built_in (write (plain (then (var 0 19) (is (id 20)) (id 5)) ∷ []) true)) ∷
      (built_in (write (plain (dot (then (to Instance 20 (var 0 19)) bracket (id 20)) 0 4) ∷ []) true)) ∷ [])) ∷
      [])

  class_as_fails_runs : outcome 4000 class_as_fails ([]) ≡ ends_with (makes 16 ∷ []) (said (codes "FALSE")) (said (codes "Runtime error 219")) 219
  unfolding outcome
  class_as_fails_runs = refl

  -- A bad index in a constructor's argument: nothing is made, so nothing is destroyed
  abbrev class_bad_argument : Program
  class_bad_argument = program name
      (Class (class_id 0) ∷ Interface (interface_id 0) ∷ Class (class_id 1) ∷ Class (class_id 2) ∷ Class (class_id 3) ∷ Class (class_id 4) ∷ Class (class_id 5) ∷ Class (class_id 6) ∷ Class (class_id 7) ∷ Class (class_id 8) ∷ Class (class_id 9) ∷ Subrange (id 4) (pos 0) (pos 1) ∷ Array (id 27) (id 4) ∷ [])
      (part name 7 ∷ [])
      (row name 28 Plain None ∷ row name 4 Plain None ∷ row name 26 Plain None ∷ row name 16 ObjectRole None ∷ row name 16 ObjectRole None ∷ row name 19 ObjectRole None ∷ row name 7 (Parameter Const_) None ∷ row name 4 (Parameter Value) None ∷ row name 7 Result None ∷ row name 26 ObjectRole None ∷ row name 4 (Parameter Value) None ∷ row name 26 ObjectRole None ∷ row name 24 Handler None ∷ [])
      (routine_row name (codes "create") Constructor (OfClass (class_id 0)) 0 None 3 1 ∷ routine_row name (codes "destroy") Destructor (OfClass (class_id 0)) 0 None 4 1 ∷ routine_row name (codes "create") Constructor (OfClass (class_id 2)) 1 None 5 2 ∷ routine_row name (codes "inttostr") FunctionKind OfUnit 1 (Some 7) 7 2 ∷ routine_row name (codes "create") Constructor (OfClass (class_id 9)) 1 None 9 2 ∷ routine_row name (codes "destroy") Destructor (OfClass (class_id 9)) 0 None 11 1 ∷ [])
      (class_row (codes "TObject") 16 None 0 0 0 2 0 0 ∷ class_row (codes "TInterfacedObject") 18 (Some (class_id 0)) 0 0 2 0 0 1 ∷ class_row (codes "Exception") 19 (Some (class_id 0)) 0 1 2 1 1 0 ∷ class_row (codes "EConvertError") 20 (Some (class_id 2)) 1 0 3 0 1 0 ∷ class_row (codes "EInvalidCast") 21 (Some (class_id 2)) 1 0 3 0 1 0 ∷ class_row (codes "EIntError") 22 (Some (class_id 2)) 1 0 3 0 1 0 ∷ class_row (codes "EDivByZero") 23 (Some (class_id 5)) 1 0 3 0 1 0 ∷ class_row (codes "ERangeError") 24 (Some (class_id 5)) 1 0 3 0 1 0 ∷ class_row (codes "EIntOverflow") 25 (Some (class_id 5)) 1 0 3 0 1 0 ∷ class_row (codes "TA") 26 (Some (class_id 0)) 1 0 3 2 1 0 ∷ [])
      (interface_row (codes "iunknown") 17 None 5 0 ∷ [])
      (method_row 0 Static false ∷ method_row 1 VirtualBinding false ∷ method_row 2 Static false ∷ method_row 4 Static false ∷ method_row 5 Override false ∷ [])
      (interface_id 0 ∷ [])
      (variable_id 0 ∷ variable_id 1 ∷ variable_id 2 ∷ [])
      (Some (record { message = record { 0 = 0 }; exception = class_id 2; zero_divisor = class_id 6; range = class_id 7; overflow = class_id 8; cast = class_id 4 }))
      ((listed ([])) ∷
      (listed ([])) ∷
      (listed (
      (assign (dot (obj 5 19) 0 7) (var 6 7)) ∷ [])) ∷
      (listed (
      (built_in (str (plain (var 7 4)) (var 8 7))) ∷ [])) ∷
      (listed (
      (built_in (write (plain (quoted (codes "never")) ∷ []) true)) ∷ [])) ∷
      (listed (
      (built_in (write (plain (quoted (codes "never")) ∷ []) true)) ∷
      (call (then (obj 11 26) (method (routine_id 1) Direct (argued [])) (id 9))) ∷ [])) ∷
      (listed (
      (assign (var 1 4) (known (pos 2) 4)) ∷
      (try_on (listed (
      (assign (var 2 26) (expression (construct (class_id 9) (routine_id 4) (argued (value (at (var 0 28) (var 1 4) 4) ∷ []))) (id 26) no_steps)) ∷ [])) (handlers (Some (variable_id 12)) (class_id 7) (built_in (write (plain (quoted (codes "caught")) ∷ []) true)) no_handlers)) ∷
      (built_in (write (plain (with_q false 5 (var 2 26) Equal (to Keep 26 nothing)) ∷ []) true)) ∷ [])) ∷
      [])

  class_bad_argument_runs : outcome 4000 class_bad_argument ([]) ≡ ends_with (makes 32 ∷ frees 1 ∷ []) (said (codes "caught") ++ said (codes "TRUE")) ([]) 0
  unfolding outcome
  class_bad_argument_runs = refl

  -- A bare inherited hands on the parameters, or does nothing where no ancestor has the routine
  abbrev class_bare_inherited : Program
  class_bare_inherited = program name
      (Class (class_id 0) ∷ Interface (interface_id 0) ∷ Class (class_id 1) ∷ Class (class_id 2) ∷ Class (class_id 3) ∷ [])
      []
      (row name 20 Plain None ∷ row name 16 ObjectRole None ∷ row name 16 ObjectRole None ∷ row name 19 ObjectRole None ∷ row name 4 (Parameter Value) None ∷ row name 7 (Parameter Value) None ∷ row name 20 ObjectRole None ∷ row name 4 (Parameter Value) None ∷ row name 7 (Parameter Value) None ∷ row name 20 ObjectRole None ∷ [])
      (routine_row name (codes "create") Constructor (OfClass (class_id 0)) 0 None 1 1 ∷ routine_row name (codes "destroy") Destructor (OfClass (class_id 0)) 0 None 2 1 ∷ routine_row name (codes "p") Procedure (OfClass (class_id 2)) 2 None 3 3 ∷ routine_row name (codes "p") Procedure (OfClass (class_id 3)) 2 None 6 3 ∷ routine_row name (codes "q") Procedure (OfClass (class_id 3)) 0 None 9 1 ∷ [])
      (class_row (codes "TObject") 16 None 0 0 0 2 0 0 ∷ class_row (codes "TInterfacedObject") 18 (Some (class_id 0)) 0 0 2 0 0 1 ∷ class_row (codes "TA") 19 (Some (class_id 0)) 0 0 2 1 1 0 ∷ class_row (codes "TB") 20 (Some (class_id 2)) 0 0 3 2 1 0 ∷ [])
      (interface_row (codes "iunknown") 17 None 5 0 ∷ [])
      (method_row 0 Static false ∷ method_row 1 VirtualBinding false ∷ method_row 2 VirtualBinding false ∷ method_row 3 Override false ∷ method_row 4 Static false ∷ [])
      (interface_id 0 ∷ [])
      (variable_id 0 ∷ [])
      None
      ((listed ([])) ∷
      (listed ([])) ∷
      (listed (
      (built_in (write (plain (var 4 4) ∷ plain (var 5 7) ∷ []) true)) ∷ [])) ∷
      (listed (
      (assign (var 7 4) (with_q false 4 (var 7 4) Add (known (pos 1) 4))) ∷
      (assign (var 8 7) (with_q false 7 (var 8 7) Add (quoted (codes "!")))) ∷
      (call (then (obj 6 20) (method (routine_id 2) Direct (argued (value (var 7 4) ∷ value (var 8 7) ∷ []))) (id 9))) ∷
      (built_in (write (plain (known (pos 66) 6) ∷ []) true)) ∷ [])) ∷
      (listed (
      (empty) ∷
      (built_in (write (plain (known (pos 81) 6) ∷ []) true)) ∷ [])) ∷
      (listed (
      (assign (var 0 20) (expression (construct (class_id 3) (routine_id 0) (argued [])) (id 20) no_steps)) ∷
      (call (then (var 0 20) (method (routine_id 3) Virtual (argued (value (known (pos 1) 4) ∷ value (quoted (codes "x")) ∷ []))) (id 9))) ∷
      (call (then (var 0 20) (method (routine_id 4) Direct (argued [])) (id 9))) ∷
      (built_in (free (var 0 20) false)) ∷ [])) ∷
      [])

  class_bare_inherited_runs : outcome 4000 class_bare_inherited ([]) ≡ ends_with (makes 16 ∷ asks 32 ∷ frees 2 ∷ frees 1 ∷ []) (said (codes "2x!") ++ said (codes "B") ++ said (codes "Q")) ([]) 0
  unfolding outcome
  class_bare_inherited_runs = refl

  -- A cast to a class is checked as well
  abbrev class_cast_fails : Program
  class_cast_fails = program name
      (Class (class_id 0) ∷ Interface (interface_id 0) ∷ Class (class_id 1) ∷ Class (class_id 2) ∷ Class (class_id 3) ∷ [])
      (part name 4 ∷ [])
      (row name 19 Plain None ∷ row name 20 Plain None ∷ row name 16 ObjectRole None ∷ row name 16 ObjectRole None ∷ [])
      (routine_row name (codes "create") Constructor (OfClass (class_id 0)) 0 None 2 1 ∷ routine_row name (codes "destroy") Destructor (OfClass (class_id 0)) 0 None 3 1 ∷ [])
      (class_row (codes "TObject") 16 None 0 0 0 2 0 0 ∷ class_row (codes "TInterfacedObject") 18 (Some (class_id 0)) 0 0 2 0 0 1 ∷ class_row (codes "TA") 19 (Some (class_id 0)) 0 0 2 0 1 0 ∷ class_row (codes "TB") 20 (Some (class_id 2)) 0 1 2 0 1 0 ∷ [])
      (interface_row (codes "iunknown") 17 None 2 0 ∷ [])
      (method_row 0 Static false ∷ method_row 1 VirtualBinding false ∷ [])
      (interface_id 0 ∷ [])
      (variable_id 0 ∷ variable_id 1 ∷ [])
      None
      ((listed ([])) ∷
      (listed ([])) ∷
      (listed (
      (assign (var 0 19) (expression (construct (class_id 2) (routine_id 0) (argued [])) (id 19) no_steps)) ∷
      (built_in (write (plain (quoted (codes "before")) ∷ []) true)) ∷
      (assign (var 1 20) (to Instance 20 (var 0 19))) ∷
      (built_in (write (plain (quoted (codes "never")) ∷ plain (with_q false 5 (var 1 20) Equal (to Keep 20 nothing)) ∷ []) true)) ∷ [])) ∷
      [])

  class_cast_fails_runs : outcome 4000 class_cast_fails ([]) ≡ ends_with (makes 16 ∷ []) (said (codes "before")) (said (codes "Runtime error 219")) 219
  unfolding outcome
  class_cast_fails_runs = refl

  -- A field of nil cast to a class ends with 216.
  abbrev class_cast_of_nil : Program
  class_cast_of_nil = program name
      (Class (class_id 0) ∷ Interface (interface_id 0) ∷ Class (class_id 1) ∷ Class (class_id 2) ∷ [])
      (part name 4 ∷ [])
      (row name 19 Plain None ∷ row name 16 ObjectRole None ∷ row name 16 ObjectRole None ∷ [])
      (routine_row name (codes "create") Constructor (OfClass (class_id 0)) 0 None 1 1 ∷ routine_row name (codes "destroy") Destructor (OfClass (class_id 0)) 0 None 2 1 ∷ [])
      (class_row (codes "TObject") 16 None 0 0 0 2 0 0 ∷ class_row (codes "TInterfacedObject") 18 (Some (class_id 0)) 0 0 2 0 0 1 ∷ class_row (codes "A") 19 (Some (class_id 0)) 0 1 2 0 1 0 ∷ [])
      (interface_row (codes "iunknown") 17 None 2 0 ∷ [])
      (method_row 0 Static false ∷ method_row 1 VirtualBinding false ∷ [])
      (interface_id 0 ∷ [])
      (variable_id 0 ∷ [])
      None
      ((listed ([])) ∷
      (listed ([])) ∷
      (listed (
      (assign (var 0 19) (expression (construct (class_id 2) (routine_id 0) (argued [])) (id 19) no_steps)) ∷
      (assign (dot (var 0 19) 0 4) (known (pos 3) 4)) ∷
      (built_in (write (plain (dot (to Instance 19 nothing) 0 4) ∷ []) true)) ∷ [])) ∷
      [])

  class_cast_of_nil_runs : outcome 4000 class_cast_of_nil ([]) ≡ ends_with (makes 32 ∷ []) ([]) (said (codes "Runtime error 216")) 216
  unfolding outcome
  class_cast_of_nil_runs = refl

  -- Fields of a descendant stand behind the ancestor's and are found through any variable
  abbrev class_classes_as_fields : Program
  class_classes_as_fields = program name
      (Class (class_id 0) ∷ Interface (interface_id 0) ∷ Class (class_id 1) ∷ Class (class_id 2) ∷ Class (class_id 3) ∷ [])
      (part name 7 ∷ part name 6 ∷ part name 1 ∷ part name 7 ∷ [])
      (row name 19 Plain None ∷ row name 20 Plain None ∷ row name 16 ObjectRole None ∷ row name 16 ObjectRole None ∷ [])
      (routine_row name (codes "create") Constructor (OfClass (class_id 0)) 0 None 2 1 ∷ routine_row name (codes "destroy") Destructor (OfClass (class_id 0)) 0 None 3 1 ∷ [])
      (class_row (codes "TObject") 16 None 0 0 0 2 0 0 ∷ class_row (codes "TInterfacedObject") 18 (Some (class_id 0)) 0 0 2 0 0 1 ∷ class_row (codes "TA") 19 (Some (class_id 0)) 0 2 2 0 1 0 ∷ class_row (codes "TB") 20 (Some (class_id 2)) 2 2 2 0 1 0 ∷ [])
      (interface_row (codes "iunknown") 17 None 2 0 ∷ [])
      (method_row 0 Static false ∷ method_row 1 VirtualBinding false ∷ [])
      (interface_id 0 ∷ [])
      (variable_id 0 ∷ variable_id 1 ∷ [])
      None
      ((listed ([])) ∷
      (listed ([])) ∷
      (listed (
      (assign (var 1 20) (expression (construct (class_id 3) (routine_id 0) (argued [])) (id 20) no_steps)) ∷
      (assign (var 0 19) (to Keep 19 (var 1 20))) ∷
      (assign (dot (var 0 19) 0 7) (quoted (codes "one"))) ∷
      (assign (dot (var 1 20) 1 6) (known (pos 99) 6)) ∷
      (assign (dot (var 1 20) 2 1) (to LowBits 1 (known (pos 250) 4))) ∷
      (assign (dot (var 1 20) 3 7) (with_q false 7 (dot (var 0 19) 0 7) Add (to ToString 7 (dot (var 1 20) 1 6)))) ∷
      (built_in (count To (target_at (dot (var 1 20) 2 1) LowBits) (known (pos 10) 4) false)) ∷
      (built_in (write (plain (dot (var 1 20) 0 7) ∷ plain (dot (var 0 19) 1 6) ∷ plain (dot (var 1 20) 2 1) ∷ plain (dot (to Instance 20 (var 0 19)) 3 7) ∷ []) true)) ∷
      (built_in (free (var 0 19) false)) ∷ [])) ∷
      [])

  class_classes_as_fields_runs : outcome 4000 class_classes_as_fields ([]) ≡ ends_with (makes 32 ∷ asks 32 ∷ asks 32 ∷ frees 2 ∷ frees 3 ∷ frees 1 ∷ []) (said (codes "onec4onec")) ([]) 0
  unfolding outcome
  class_classes_as_fields_runs = refl

  -- Fields start as zero, a constructor fills some of them
  abbrev class_construct : Program
  class_construct = program name
      (Class (class_id 0) ∷ Interface (interface_id 0) ∷ Class (class_id 1) ∷ Class (class_id 2) ∷ [])
      (part name 4 ∷ part name 7 ∷ part name 5 ∷ part name 16 ∷ [])
      (row name 19 Plain None ∷ row name 16 ObjectRole None ∷ row name 16 ObjectRole None ∷ row name 19 ObjectRole None ∷ row name 4 (Parameter Value) None ∷ [])
      (routine_row name (codes "create") Constructor (OfClass (class_id 0)) 0 None 1 1 ∷ routine_row name (codes "destroy") Destructor (OfClass (class_id 0)) 0 None 2 1 ∷ routine_row name (codes "create") Constructor (OfClass (class_id 2)) 1 None 3 2 ∷ [])
      (class_row (codes "TObject") 16 None 0 0 0 2 0 0 ∷ class_row (codes "TInterfacedObject") 18 (Some (class_id 0)) 0 0 2 0 0 1 ∷ class_row (codes "TA") 19 (Some (class_id 0)) 0 4 2 1 1 0 ∷ [])
      (interface_row (codes "iunknown") 17 None 3 0 ∷ [])
      (method_row 0 Static false ∷ method_row 1 VirtualBinding false ∷ method_row 2 Static false ∷ [])
      (interface_id 0 ∷ [])
      (variable_id 0 ∷ [])
      None
      ((listed ([])) ∷
      (listed ([])) ∷
      (listed (
      (built_in (write (plain (dot (obj 3 19) 0 4) ∷ plain (dot (obj 3 19) 1 7) ∷ plain (dot (obj 3 19) 2 5) ∷ plain (with_q false 5 (dot (obj 3 19) 3 16) Equal (to Keep 16 nothing)) ∷ []) true)) ∷
      (assign (dot (obj 3 19) 0 4) (var 4 4)) ∷ [])) ∷
      (listed (
      (assign (var 0 19) (expression (construct (class_id 2) (routine_id 2) (argued (value (known (pos 7) 4) ∷ []))) (id 19) no_steps)) ∷
      (built_in (write (plain (dot (var 0 19) 0 4) ∷ plain (dot (var 0 19) 1 7) ∷ plain (dot (var 0 19) 2 5) ∷ []) true)) ∷
      (built_in (free (var 0 19) false)) ∷ [])) ∷
      [])

  class_construct_runs : outcome 4000 class_construct ([]) ≡ ends_with (makes 32 ∷ frees 1 ∷ []) (said (codes "0FALSETRUE") ++ said (codes "7FALSE")) ([]) 0
  unfolding outcome
  class_construct_runs = refl

  -- A constructor called on an instance runs as a method
  abbrev class_constructor_again : Program
  class_constructor_again = program name
      (Class (class_id 0) ∷ Interface (interface_id 0) ∷ Class (class_id 1) ∷ Class (class_id 2) ∷ [])
      (part name 4 ∷ part name 7 ∷ [])
      (row name 19 Plain None ∷ row name 19 Plain None ∷ row name 16 ObjectRole None ∷ row name 16 ObjectRole None ∷ row name 19 ObjectRole None ∷ row name 4 (Parameter Value) None ∷ [])
      (routine_row name (codes "create") Constructor (OfClass (class_id 0)) 0 None 2 1 ∷ routine_row name (codes "destroy") Destructor (OfClass (class_id 0)) 0 None 3 1 ∷ routine_row name (codes "create") Constructor (OfClass (class_id 2)) 1 None 4 2 ∷ [])
      (class_row (codes "TObject") 16 None 0 0 0 2 0 0 ∷ class_row (codes "TInterfacedObject") 18 (Some (class_id 0)) 0 0 2 0 0 1 ∷ class_row (codes "TA") 19 (Some (class_id 0)) 0 2 2 1 1 0 ∷ [])
      (interface_row (codes "iunknown") 17 None 3 0 ∷ [])
      (method_row 0 Static false ∷ method_row 1 VirtualBinding false ∷ method_row 2 Static false ∷ [])
      (interface_id 0 ∷ [])
      (variable_id 0 ∷ variable_id 1 ∷ [])
      None
      ((listed ([])) ∷
      (listed ([])) ∷
      (listed (
      (assign (dot (obj 4 19) 0 4) (with_q false 4 (dot (obj 4 19) 0 4) Add (var 5 4))) ∷
      (assign (dot (obj 4 19) 1 7) (with_q false 7 (dot (obj 4 19) 1 7) Add (quoted (codes "c")))) ∷ [])) ∷
      (listed (
      (assign (var 0 19) (expression (construct (class_id 2) (routine_id 2) (argued (value (known (pos 1) 4) ∷ []))) (id 19) no_steps)) ∷
      (assign (var 1 19) (var 0 19)) ∷
      (call (then (var 0 19) (method (routine_id 2) Direct (argued (value (known (pos 5) 4) ∷ []))) (id 9))) ∷
      (built_in (write (plain (dot (var 1 19) 0 4) ∷ plain (dot (var 1 19) 1 7) ∷ plain (with_q false 5 (var 0 19) Equal (var 1 19)) ∷ []) true)) ∷
      (built_in (free (var 0 19) false)) ∷ [])) ∷
      [])

  class_constructor_again_runs : outcome 4000 class_constructor_again ([]) ≡ ends_with (makes 32 ∷ asks 32 ∷ frees 2 ∷ frees 1 ∷ []) (said (codes "6ccTRUE")) ([]) 0
  unfolding outcome
  class_constructor_again_runs = refl

  -- Two constructors, one calls the ancestor's, one leaves early
  abbrev class_constructors : Program
  class_constructors = program name
      (Class (class_id 0) ∷ Interface (interface_id 0) ∷ Class (class_id 1) ∷ Class (class_id 2) ∷ Class (class_id 3) ∷ [])
      (part name 4 ∷ [])
      (row name 16 ObjectRole None ∷ row name 16 ObjectRole None ∷ row name 19 ObjectRole None ∷ row name 19 ObjectRole None ∷ row name 4 (Parameter Value) None ∷ row name 20 ObjectRole None ∷ row name 4 (Parameter Value) None ∷ row name 19 (Parameter Value) None ∷ [])
      (routine_row name (codes "create") Constructor (OfClass (class_id 0)) 0 None 0 1 ∷ routine_row name (codes "destroy") Destructor (OfClass (class_id 0)) 0 None 1 1 ∷ routine_row name (codes "create") Constructor (OfClass (class_id 2)) 0 None 2 1 ∷ routine_row name (codes "from") Constructor (OfClass (class_id 2)) 1 None 3 2 ∷ routine_row name (codes "from") Constructor (OfClass (class_id 3)) 1 None 5 2 ∷ routine_row name (codes "p") Procedure OfUnit 1 None 7 1 ∷ [])
      (class_row (codes "TObject") 16 None 0 0 0 2 0 0 ∷ class_row (codes "TInterfacedObject") 18 (Some (class_id 0)) 0 0 2 0 0 1 ∷ class_row (codes "TA") 19 (Some (class_id 0)) 0 1 2 2 1 0 ∷ class_row (codes "TB") 20 (Some (class_id 2)) 1 0 4 1 1 0 ∷ [])
      (interface_row (codes "iunknown") 17 None 5 0 ∷ [])
      (method_row 0 Static false ∷ method_row 1 VirtualBinding false ∷ method_row 2 Static false ∷ method_row 3 Static false ∷ method_row 4 Static false ∷ [])
      (interface_id 0 ∷ [])
      []
      None
      ((listed ([])) ∷
      (listed ([])) ∷
      (listed (
      (assign (dot (obj 2 19) 0 4) (known (pos 1) 4)) ∷ [])) ∷
      (listed (
      (if_then (with_q false 5 (var 4 4) Less (known (pos 0) 4)) (exit)) ∷
      (assign (dot (obj 3 19) 0 4) (var 4 4)) ∷ [])) ∷
      (listed (
      (call (then (obj 5 20) (method (routine_id 3) Direct (argued (value (with_q false 4 (var 6 4) Add (known (pos 1) 4)) ∷ []))) (id 9))) ∷
      (assign (dot (obj 5 20) 0 4) (with_q false 4 (dot (obj 5 20) 0 4) Multiply (known (pos 10) 4))) ∷ [])) ∷
      (listed (
      (built_in (write (plain (dot (var 7 19) 0 4) ∷ []) true)) ∷
      (built_in (free (var 7 19) false)) ∷ [])) ∷
      (listed (
      (call (expression (call_of (routine_id 5) (argued (value (expression (construct (class_id 2) (routine_id 2) (argued [])) (id 19) no_steps) ∷ []))) (id 9) no_steps)) ∷
      (call (expression (call_of (routine_id 5) (argued (value (expression (construct (class_id 2) (routine_id 3) (argued (value (known (pos 4) 4) ∷ []))) (id 19) no_steps) ∷ []))) (id 9) no_steps)) ∷
      (call (expression (call_of (routine_id 5) (argued (value (expression (construct (class_id 2) (routine_id 3) (argued (value (known (negsuc 3) 4) ∷ []))) (id 19) no_steps) ∷ []))) (id 9) no_steps)) ∷
      (call (expression (call_of (routine_id 5) (argued (value (to Keep 19 (expression (construct (class_id 3) (routine_id 4) (argued (value (known (pos 4) 4) ∷ []))) (id 20) no_steps)) ∷ []))) (id 9) no_steps)) ∷
      (call (expression (call_of (routine_id 5) (argued (value (to Keep 19 (expression (construct (class_id 3) (routine_id 2) (argued [])) (id 20) no_steps)) ∷ []))) (id 9) no_steps)) ∷ [])) ∷
      [])

  class_constructors_runs : outcome 4000 class_constructors ([]) ≡ ends_with (makes 32 ∷ frees 1 ∷ makes 32 ∷ frees 2 ∷ makes 32 ∷ frees 3 ∷ makes 32 ∷ frees 4 ∷ makes 32 ∷ frees 5 ∷ []) (said (codes "1") ++ said (codes "4") ++ said (codes "0") ++ said (codes "50") ++ said (codes "1")) ([]) 0
  unfolding outcome
  class_constructors_runs = refl

  -- A field of a dead instance
  abbrev class_dead_field : Program
  class_dead_field = program name
      (Class (class_id 0) ∷ Interface (interface_id 0) ∷ Class (class_id 1) ∷ Class (class_id 2) ∷ [])
      (part name 4 ∷ [])
      (row name 19 Plain None ∷ row name 19 Plain None ∷ row name 16 ObjectRole None ∷ row name 16 ObjectRole None ∷ [])
      (routine_row name (codes "create") Constructor (OfClass (class_id 0)) 0 None 2 1 ∷ routine_row name (codes "destroy") Destructor (OfClass (class_id 0)) 0 None 3 1 ∷ [])
      (class_row (codes "TObject") 16 None 0 0 0 2 0 0 ∷ class_row (codes "TInterfacedObject") 18 (Some (class_id 0)) 0 0 2 0 0 1 ∷ class_row (codes "TA") 19 (Some (class_id 0)) 0 1 2 0 1 0 ∷ [])
      (interface_row (codes "iunknown") 17 None 2 0 ∷ [])
      (method_row 0 Static false ∷ method_row 1 VirtualBinding false ∷ [])
      (interface_id 0 ∷ [])
      (variable_id 0 ∷ variable_id 1 ∷ [])
      None
      ((listed ([])) ∷
      (listed ([])) ∷
      (listed (
      (assign (var 0 19) (expression (construct (class_id 2) (routine_id 0) (argued [])) (id 19) no_steps)) ∷
      (assign (dot (var 0 19) 0 4) (known (pos 3) 4)) ∷
      (assign (var 1 19) (var 0 19)) ∷
      (built_in (write (plain (dot (var 1 19) 0 4) ∷ []) true)) ∷
      (built_in (free (var 0 19) false)) ∷
      (built_in (write (plain (quoted (codes "freed")) ∷ []) true)) ∷
      (built_in (write (plain (dot (var 1 19) 0 4) ∷ []) true)) ∷ [])) ∷
      [])

  class_dead_field_runs : outcome 4000 class_dead_field ([]) ≡ ends_with (makes 32 ∷ frees 1 ∷ []) (said (codes "3") ++ said (codes "freed")) (said (codes "Runtime error 216")) 216
  unfolding outcome
  class_dead_field_runs = refl

  -- Free of a dead instance
  abbrev class_dead_free : Program
  class_dead_free = program name
      (Class (class_id 0) ∷ Interface (interface_id 0) ∷ Class (class_id 1) ∷ Class (class_id 2) ∷ [])
      []
      (row name 19 Plain None ∷ row name 16 ObjectRole None ∷ row name 16 ObjectRole None ∷ [])
      (routine_row name (codes "create") Constructor (OfClass (class_id 0)) 0 None 1 1 ∷ routine_row name (codes "destroy") Destructor (OfClass (class_id 0)) 0 None 2 1 ∷ [])
      (class_row (codes "TObject") 16 None 0 0 0 2 0 0 ∷ class_row (codes "TInterfacedObject") 18 (Some (class_id 0)) 0 0 2 0 0 1 ∷ class_row (codes "TA") 19 (Some (class_id 0)) 0 0 2 0 1 0 ∷ [])
      (interface_row (codes "iunknown") 17 None 2 0 ∷ [])
      (method_row 0 Static false ∷ method_row 1 VirtualBinding false ∷ [])
      (interface_id 0 ∷ [])
      (variable_id 0 ∷ [])
      None
      ((listed ([])) ∷
      (listed ([])) ∷
      (listed (
      (assign (var 0 19) (expression (construct (class_id 2) (routine_id 0) (argued [])) (id 19) no_steps)) ∷
      (built_in (free (var 0 19) false)) ∷
      (built_in (write (plain (quoted (codes "once")) ∷ []) true)) ∷
      (built_in (free (var 0 19) false)) ∷
      (built_in (write (plain (quoted (codes "never")) ∷ []) true)) ∷ [])) ∷
      [])

  class_dead_free_runs : outcome 4000 class_dead_free ([]) ≡ ends_with (makes 16 ∷ frees 1 ∷ []) (said (codes "once")) (said (codes "Runtime error 216")) 216
  unfolding outcome
  class_dead_free_runs = refl

  -- A static method of a dead instance: its arguments run, its body does not
  abbrev class_dead_method : Program
  class_dead_method = program name
      (Class (class_id 0) ∷ Interface (interface_id 0) ∷ Class (class_id 1) ∷ Class (class_id 2) ∷ [])
      []
      (row name 19 Plain None ∷ row name 16 ObjectRole None ∷ row name 16 ObjectRole None ∷ row name 19 ObjectRole None ∷ row name 4 (Parameter Value) None ∷ row name 4 Result None ∷ [])
      (routine_row name (codes "create") Constructor (OfClass (class_id 0)) 0 None 1 1 ∷ routine_row name (codes "destroy") Destructor (OfClass (class_id 0)) 0 None 2 1 ∷ routine_row name (codes "p") Procedure (OfClass (class_id 2)) 1 None 3 2 ∷ routine_row name (codes "f") FunctionKind OfUnit 0 (Some 4) 5 1 ∷ [])
      (class_row (codes "TObject") 16 None 0 0 0 2 0 0 ∷ class_row (codes "TInterfacedObject") 18 (Some (class_id 0)) 0 0 2 0 0 1 ∷ class_row (codes "TA") 19 (Some (class_id 0)) 0 0 2 1 1 0 ∷ [])
      (interface_row (codes "iunknown") 17 None 3 0 ∷ [])
      (method_row 0 Static false ∷ method_row 1 VirtualBinding false ∷ method_row 2 Static false ∷ [])
      (interface_id 0 ∷ [])
      (variable_id 0 ∷ [])
      None
      ((listed ([])) ∷
      (listed ([])) ∷
      (listed (
      (built_in (write (plain (quoted (codes "never")) ∷ []) true)) ∷ [])) ∷
      (listed (
      (built_in (write (plain (quoted (codes "argument")) ∷ []) true)) ∷
      (assign (var 5 4) (known (pos 1) 4)) ∷ [])) ∷
      (listed (
      (assign (var 0 19) (expression (construct (class_id 2) (routine_id 0) (argued [])) (id 19) no_steps)) ∷
      (built_in (free (var 0 19) false)) ∷
      (call (then (var 0 19) (method (routine_id 2) Direct (argued (value (expression (call_of (routine_id 3) (argued [])) (id 4) no_steps) ∷ []))) (id 9))) ∷ [])) ∷
      [])

  class_dead_method_runs : outcome 4000 class_dead_method ([]) ≡ ends_with (makes 16 ∷ frees 1 ∷ []) (said (codes "argument")) (said (codes "Runtime error 216")) 216
  unfolding outcome
  class_dead_method_runs = refl

  -- A reference to a dead instance may be copied and compared
  abbrev class_dead_no_use : Program
  class_dead_no_use = program name
      (Class (class_id 0) ∷ Interface (interface_id 0) ∷ Class (class_id 1) ∷ Class (class_id 2) ∷ DynamicArray (id 19) ∷ [])
      (part name 4 ∷ [])
      (row name 19 Plain None ∷ row name 19 Plain None ∷ row name 20 Plain None ∷ row name 16 ObjectRole None ∷ row name 16 ObjectRole None ∷ [])
      (routine_row name (codes "create") Constructor (OfClass (class_id 0)) 0 None 3 1 ∷ routine_row name (codes "destroy") Destructor (OfClass (class_id 0)) 0 None 4 1 ∷ [])
      (class_row (codes "TObject") 16 None 0 0 0 2 0 0 ∷ class_row (codes "TInterfacedObject") 18 (Some (class_id 0)) 0 0 2 0 0 1 ∷ class_row (codes "TA") 19 (Some (class_id 0)) 0 1 2 0 1 0 ∷ [])
      (interface_row (codes "iunknown") 17 None 2 0 ∷ [])
      (method_row 0 Static false ∷ method_row 1 VirtualBinding false ∷ [])
      (interface_id 0 ∷ [])
      (variable_id 0 ∷ variable_id 1 ∷ variable_id 2 ∷ [])
      None
      ((listed ([])) ∷
      (listed ([])) ∷
      (listed (
      (assign (var 0 19) (expression (construct (class_id 2) (routine_id 0) (argued [])) (id 19) no_steps)) ∷
      (built_in (free (var 0 19) false)) ∷
      (assign (var 1 19) (var 0 19)) ∷
      (built_in (set_length (var 2 20) (known (pos 1) 4))) ∷
      (assign (at (var 2 20) (known (pos 0) 4) 19) (var 1 19)) ∷
      (built_in (write (plain (with_q false 5 (var 0 19) Equal (var 1 19)) ∷ plain (applying Assigned false (var 0 19) 5) ∷ plain (with_q false 5 (var 1 19) NotEqual (to Keep 19 nothing)) ∷ plain (with_q false 5 (at (var 2 20) (known (pos 0) 4) 19) Equal (var 0 19)) ∷ []) true)) ∷ [])) ∷
      [])

  class_dead_no_use_runs : outcome 4000 class_dead_no_use ([]) ≡ ends_with (makes 32 ∷ frees 1 ∷ asks 32 ∷ frees 2 ∷ []) (said (codes "TRUETRUETRUETRUE")) ([]) 0
  unfolding outcome
  class_dead_no_use_runs = refl

  -- A new instance is never the dead one, also where it takes its room
  abbrev class_dead_not_new : Program
  class_dead_not_new = program name
      (Class (class_id 0) ∷ Interface (interface_id 0) ∷ Class (class_id 1) ∷ Class (class_id 2) ∷ [])
      (part name 4 ∷ [])
      (row name 19 Plain None ∷ row name 19 Plain None ∷ row name 16 ObjectRole None ∷ row name 16 ObjectRole None ∷ [])
      (routine_row name (codes "create") Constructor (OfClass (class_id 0)) 0 None 2 1 ∷ routine_row name (codes "destroy") Destructor (OfClass (class_id 0)) 0 None 3 1 ∷ [])
      (class_row (codes "TObject") 16 None 0 0 0 2 0 0 ∷ class_row (codes "TInterfacedObject") 18 (Some (class_id 0)) 0 0 2 0 0 1 ∷ class_row (codes "TA") 19 (Some (class_id 0)) 0 1 2 0 1 0 ∷ [])
      (interface_row (codes "iunknown") 17 None 2 0 ∷ [])
      (method_row 0 Static false ∷ method_row 1 VirtualBinding false ∷ [])
      (interface_id 0 ∷ [])
      (variable_id 0 ∷ variable_id 1 ∷ [])
      None
      ((listed ([])) ∷
      (listed ([])) ∷
      (listed (
      (assign (var 0 19) (expression (construct (class_id 2) (routine_id 0) (argued [])) (id 19) no_steps)) ∷
      (built_in (free (var 0 19) false)) ∷
      (assign (var 1 19) (expression (construct (class_id 2) (routine_id 0) (argued [])) (id 19) no_steps)) ∷
      (assign (dot (var 1 19) 0 4) (known (pos 4) 4)) ∷
      (built_in (write (plain (with_q false 5 (var 0 19) Equal (var 1 19)) ∷ []) true)) ∷
      (built_in (write (plain (dot (var 1 19) 0 4) ∷ []) true)) ∷
      (built_in (write (plain (dot (var 0 19) 0 4) ∷ []) true)) ∷ [])) ∷
      [])

  class_dead_not_new_runs : outcome 4000 class_dead_not_new ([]) ≡ ends_with (makes 32 ∷ frees 1 ∷ makes 32 ∷ []) (said (codes "FALSE") ++ said (codes "4")) (said (codes "Runtime error 216")) 216
  unfolding outcome
  class_dead_not_new_runs = refl

  -- A destructor that destroys its object again ends with 204 at the second release.
  abbrev class_destroy_again : Program
  class_destroy_again = program name
      (Class (class_id 0) ∷ Interface (interface_id 0) ∷ Class (class_id 1) ∷ Class (class_id 2) ∷ [])
      []
      (row name 16 ObjectRole None ∷ row name 16 ObjectRole None ∷ row name 19 ObjectRole None ∷ [])
      (routine_row name (codes "create") Constructor (OfClass (class_id 0)) 0 None 0 1 ∷ routine_row name (codes "destroy") Destructor (OfClass (class_id 0)) 0 None 1 1 ∷ routine_row name (codes "destroy") Destructor (OfClass (class_id 2)) 0 None 2 1 ∷ [])
      (class_row (codes "TObject") 16 None 0 0 0 2 0 0 ∷ class_row (codes "TInterfacedObject") 18 (Some (class_id 0)) 0 0 2 0 0 1 ∷ class_row (codes "TT") 19 (Some (class_id 0)) 0 0 2 1 1 0 ∷ [])
      (interface_row (codes "iunknown") 17 None 3 0 ∷ [])
      (method_row 0 Static false ∷ method_row 1 VirtualBinding false ∷ method_row 2 Override false ∷ [])
      (interface_id 0 ∷ [])
      []
      None
      ((listed ([])) ∷
      (listed ([])) ∷
      (listed (
      (built_in (write (plain (known (pos 100) 6) ∷ []) true)) ∷
      (built_in (destroy (obj 2 19))) ∷ [])) ∷
      (listed (
      (built_in (free (expression (construct (class_id 2) (routine_id 0) (argued [])) (id 19) no_steps) false)) ∷ [])) ∷
      [])

  class_destroy_again_runs : outcome 4000 class_destroy_again ([]) ≡ ends_with (makes 16 ∷ []) (said (codes "d")) (said (codes "Runtime error 204")) 204
  unfolding outcome
  class_destroy_again_runs = refl

  -- Destroy may be called by its name; a second call finds a dead instance
  abbrev class_destroy_call : Program
  class_destroy_call = program name
      (Class (class_id 0) ∷ Interface (interface_id 0) ∷ Class (class_id 1) ∷ Class (class_id 2) ∷ [])
      []
      (row name 19 Plain None ∷ row name 16 ObjectRole None ∷ row name 16 ObjectRole None ∷ row name 19 ObjectRole None ∷ [])
      (routine_row name (codes "create") Constructor (OfClass (class_id 0)) 0 None 1 1 ∷ routine_row name (codes "destroy") Destructor (OfClass (class_id 0)) 0 None 2 1 ∷ routine_row name (codes "destroy") Destructor (OfClass (class_id 2)) 0 None 3 1 ∷ [])
      (class_row (codes "TObject") 16 None 0 0 0 2 0 0 ∷ class_row (codes "TInterfacedObject") 18 (Some (class_id 0)) 0 0 2 0 0 1 ∷ class_row (codes "TA") 19 (Some (class_id 0)) 0 0 2 1 1 0 ∷ [])
      (interface_row (codes "iunknown") 17 None 3 0 ∷ [])
      (method_row 0 Static false ∷ method_row 1 VirtualBinding false ∷ method_row 2 Override false ∷ [])
      (interface_id 0 ∷ [])
      (variable_id 0 ∷ [])
      None
      ((listed ([])) ∷
      (listed ([])) ∷
      (listed (
      (built_in (write (plain (quoted (codes "gone")) ∷ []) true)) ∷
      (call (then (obj 3 19) (method (routine_id 1) Direct (argued [])) (id 9))) ∷ [])) ∷
      (listed (
      (assign (var 0 19) (expression (construct (class_id 2) (routine_id 0) (argued [])) (id 19) no_steps)) ∷
      (built_in (destroy (var 0 19))) ∷
      (built_in (write (plain (quoted (codes "once")) ∷ []) true)) ∷
      (built_in (destroy (var 0 19))) ∷ [])) ∷
      [])

  class_destroy_call_runs : outcome 4000 class_destroy_call ([]) ≡ ends_with (makes 16 ∷ frees 1 ∷ []) (said (codes "gone") ++ said (codes "once")) (said (codes "Runtime error 216")) 216
  unfolding outcome
  class_destroy_call_runs = refl

  -- Destroy of an instance that an interface holds
  abbrev class_destroy_held : Program
  class_destroy_held = program name
      (Class (class_id 0) ∷ Interface (interface_id 0) ∷ Class (class_id 1) ∷ Class (class_id 2) ∷ [])
      []
      (row name 19 Plain None ∷ row name 17 Plain None ∷ row name 16 ObjectRole None ∷ row name 16 ObjectRole None ∷ row name 19 ObjectRole None ∷ [])
      (routine_row name (codes "create") Constructor (OfClass (class_id 0)) 0 None 2 1 ∷ routine_row name (codes "destroy") Destructor (OfClass (class_id 0)) 0 None 3 1 ∷ routine_row name (codes "destroy") Destructor (OfClass (class_id 2)) 0 None 4 1 ∷ [])
      (class_row (codes "TObject") 16 None 0 0 0 2 0 0 ∷ class_row (codes "TInterfacedObject") 18 (Some (class_id 0)) 0 0 2 0 0 1 ∷ class_row (codes "TA") 19 (Some (class_id 1)) 0 0 2 1 1 0 ∷ [])
      (interface_row (codes "iunknown") 17 None 3 0 ∷ [])
      (method_row 0 Static false ∷ method_row 1 VirtualBinding false ∷ method_row 2 Override false ∷ [])
      (interface_id 0 ∷ [])
      (variable_id 0 ∷ variable_id 1 ∷ [])
      None
      ((listed ([])) ∷
      (listed ([])) ∷
      (listed (
      (built_in (write (plain (quoted (codes "never")) ∷ []) true)) ∷
      (call (then (obj 4 19) (method (routine_id 1) Direct (argued [])) (id 9))) ∷ [])) ∷
      (listed (
      (assign (var 0 19) (expression (construct (class_id 2) (routine_id 0) (argued [])) (id 19) no_steps)) ∷
      (assign (var 1 17) (to ToInterface 17 (var 0 19))) ∷
      (built_in (write (plain (quoted (codes "held")) ∷ []) true)) ∷
      (built_in (destroy (var 0 19))) ∷ [])) ∷
      [])

  class_destroy_held_runs : outcome 4000 class_destroy_held ([]) ≡ ends_with (makes 16 ∷ []) (said (codes "held")) (said (codes "Runtime error 204")) 204
  unfolding outcome
  class_destroy_held_runs = refl

  -- Destroy of an instance, without inherited, while its destructor runs
  abbrev class_destroy_in_destructor : Program
  class_destroy_in_destructor = program name
      (Class (class_id 0) ∷ Interface (interface_id 0) ∷ Class (class_id 1) ∷ Class (class_id 2) ∷ [])
      (part name 4 ∷ [])
      (row name 19 Plain None ∷ row name 16 ObjectRole None ∷ row name 16 ObjectRole None ∷ row name 19 ObjectRole None ∷ [])
      (routine_row name (codes "create") Constructor (OfClass (class_id 0)) 0 None 1 1 ∷ routine_row name (codes "destroy") Destructor (OfClass (class_id 0)) 0 None 2 1 ∷ routine_row name (codes "destroy") Destructor (OfClass (class_id 2)) 0 None 3 1 ∷ [])
      (class_row (codes "TObject") 16 None 0 0 0 2 0 0 ∷ class_row (codes "TInterfacedObject") 18 (Some (class_id 0)) 0 0 2 0 0 1 ∷ class_row (codes "TA") 19 (Some (class_id 0)) 0 1 2 1 1 0 ∷ [])
      (interface_row (codes "iunknown") 17 None 3 0 ∷ [])
      (method_row 0 Static false ∷ method_row 1 VirtualBinding false ∷ method_row 2 Override false ∷ [])
      (interface_id 0 ∷ [])
      (variable_id 0 ∷ [])
      None
      ((listed ([])) ∷
      (listed ([])) ∷
      (listed (
      (assign (dot (obj 3 19) 0 4) (with_q false 4 (dot (obj 3 19) 0 4) Add (known (pos 1) 4))) ∷
      (built_in (write (plain (quoted (codes "in ")) ∷ plain (dot (obj 3 19) 0 4) ∷ []) true)) ∷
      (if_then (with_q false 5 (dot (obj 3 19) 0 4) Less (known (pos 3) 4)) (built_in (destroy (obj 3 19)))) ∷
      (built_in (write (plain (quoted (codes "never")) ∷ []) true)) ∷ [])) ∷
      (listed (
      (assign (var 0 19) (expression (construct (class_id 2) (routine_id 0) (argued [])) (id 19) no_steps)) ∷
      (built_in (destroy (var 0 19))) ∷ [])) ∷
      [])

  class_destroy_in_destructor_runs : outcome 4000 class_destroy_in_destructor ([]) ≡ ends_with (makes 32 ∷ []) (said (codes "in 1")) (said (codes "Runtime error 204")) 204
  unfolding outcome
  class_destroy_in_destructor_runs = refl

  -- Destroy of nil is no Free
  abbrev class_destroy_nil : Program
  class_destroy_nil = program name
      (Class (class_id 0) ∷ Interface (interface_id 0) ∷ Class (class_id 1) ∷ Class (class_id 2) ∷ [])
      []
      (row name 19 Plain None ∷ row name 16 ObjectRole None ∷ row name 16 ObjectRole None ∷ [])
      (routine_row name (codes "create") Constructor (OfClass (class_id 0)) 0 None 1 1 ∷ routine_row name (codes "destroy") Destructor (OfClass (class_id 0)) 0 None 2 1 ∷ [])
      (class_row (codes "TObject") 16 None 0 0 0 2 0 0 ∷ class_row (codes "TInterfacedObject") 18 (Some (class_id 0)) 0 0 2 0 0 1 ∷ class_row (codes "TA") 19 (Some (class_id 0)) 0 0 2 0 1 0 ∷ [])
      (interface_row (codes "iunknown") 17 None 2 0 ∷ [])
      (method_row 0 Static false ∷ method_row 1 VirtualBinding false ∷ [])
      (interface_id 0 ∷ [])
      (variable_id 0 ∷ [])
      None
      ((listed ([])) ∷
      (listed ([])) ∷
      (listed (
      (built_in (free (var 0 19) false)) ∷
      (built_in (write (plain (quoted (codes "before")) ∷ []) true)) ∷
      (built_in (destroy (var 0 19))) ∷
      (built_in (write (plain (quoted (codes "never")) ∷ []) true)) ∷ [])) ∷
      [])

  class_destroy_nil_runs : outcome 4000 class_destroy_nil ([]) ≡ ends_with [] (said (codes "before")) (said (codes "Runtime error 216")) 216
  unfolding outcome
  class_destroy_nil_runs = refl

  -- A destructor that frees what its instance owns, nil too
  abbrev class_destructor_frees_other : Program
  class_destructor_frees_other = program name
      (Class (class_id 0) ∷ Interface (interface_id 0) ∷ Class (class_id 1) ∷ Class (class_id 2) ∷ [])
      (part name 7 ∷ part name 19 ∷ [])
      (row name 19 Plain None ∷ row name 16 ObjectRole None ∷ row name 16 ObjectRole None ∷ row name 19 ObjectRole None ∷ row name 7 (Parameter Const_) None ∷ row name 19 ObjectRole None ∷ [])
      (routine_row name (codes "create") Constructor (OfClass (class_id 0)) 0 None 1 1 ∷ routine_row name (codes "destroy") Destructor (OfClass (class_id 0)) 0 None 2 1 ∷ routine_row name (codes "create") Constructor (OfClass (class_id 2)) 1 None 3 2 ∷ routine_row name (codes "destroy") Destructor (OfClass (class_id 2)) 0 None 5 1 ∷ [])
      (class_row (codes "TObject") 16 None 0 0 0 2 0 0 ∷ class_row (codes "TInterfacedObject") 18 (Some (class_id 0)) 0 0 2 0 0 1 ∷ class_row (codes "TA") 19 (Some (class_id 0)) 0 2 2 2 1 0 ∷ [])
      (interface_row (codes "iunknown") 17 None 4 0 ∷ [])
      (method_row 0 Static false ∷ method_row 1 VirtualBinding false ∷ method_row 2 Static false ∷ method_row 3 Override false ∷ [])
      (interface_id 0 ∷ [])
      (variable_id 0 ∷ [])
      None
      ((listed ([])) ∷
      (listed ([])) ∷
      (listed (
      (assign (dot (obj 3 19) 0 7) (with_q false 7 (var 4 7) Add (quoted (codes ".")))) ∷
      (if_then (with_q false 5 (applying Length false (var 4 7) 4) Less (known (pos 3) 4)) (assign (dot (obj 3 19) 1 19) (expression (construct (class_id 2) (routine_id 2) (argued (value (with_q false 7 (var 4 7) Add (quoted (codes "x"))) ∷ []))) (id 19) no_steps))) ∷ [])) ∷
      (listed (
      (built_in (free (dot (obj 5 19) 1 19) false)) ∷
      (built_in (write (plain (dot (obj 5 19) 0 7) ∷ []) true)) ∷
      (call (then (obj 5 19) (method (routine_id 1) Direct (argued [])) (id 9))) ∷ [])) ∷
      (listed (
      (assign (var 0 19) (expression (construct (class_id 2) (routine_id 2) (argued (value (quoted (codes "a")) ∷ []))) (id 19) no_steps)) ∷
      (built_in (write (plain (dot (dot (var 0 19) 1 19) 0 7) ∷ []) true)) ∷
      (built_in (free (var 0 19) false)) ∷ [])) ∷
      [])

  class_destructor_frees_other_runs : outcome 4000 class_destructor_frees_other ([]) ≡ ends_with (makes 32 ∷ asks 32 ∷ asks 32 ∷ makes 32 ∷ asks 32 ∷ asks 32 ∷ makes 32 ∷ asks 32 ∷ frees 6 ∷ frees 3 ∷ frees 8 ∷ frees 7 ∷ frees 5 ∷ frees 4 ∷ frees 2 ∷ frees 1 ∷ []) (said (codes "ax.") ++ said (codes "axx.") ++ said (codes "ax.") ++ said (codes "a.")) ([]) 0
  unfolding outcome
  class_destructor_frees_other_runs = refl

  -- Destructors run from the instance's class up, through any variable
  abbrev class_destructors : Program
  class_destructors = program name
      (Class (class_id 0) ∷ Interface (interface_id 0) ∷ Class (class_id 1) ∷ Class (class_id 2) ∷ Class (class_id 3) ∷ [])
      (part name 7 ∷ [])
      (row name 16 Plain None ∷ row name 20 Plain None ∷ row name 16 ObjectRole None ∷ row name 16 ObjectRole None ∷ row name 19 ObjectRole None ∷ row name 20 ObjectRole None ∷ [])
      (routine_row name (codes "create") Constructor (OfClass (class_id 0)) 0 None 2 1 ∷ routine_row name (codes "destroy") Destructor (OfClass (class_id 0)) 0 None 3 1 ∷ routine_row name (codes "destroy") Destructor (OfClass (class_id 2)) 0 None 4 1 ∷ routine_row name (codes "destroy") Destructor (OfClass (class_id 3)) 0 None 5 1 ∷ [])
      (class_row (codes "TObject") 16 None 0 0 0 2 0 0 ∷ class_row (codes "TInterfacedObject") 18 (Some (class_id 0)) 0 0 2 0 0 1 ∷ class_row (codes "TA") 19 (Some (class_id 0)) 0 0 2 1 1 0 ∷ class_row (codes "TB") 20 (Some (class_id 2)) 0 1 3 1 1 0 ∷ [])
      (interface_row (codes "iunknown") 17 None 4 0 ∷ [])
      (method_row 0 Static false ∷ method_row 1 VirtualBinding false ∷ method_row 2 Override false ∷ method_row 3 Override false ∷ [])
      (interface_id 0 ∷ [])
      (variable_id 0 ∷ variable_id 1 ∷ [])
      None
      ((listed ([])) ∷
      (listed ([])) ∷
      (listed (
      (built_in (write (plain (known (pos 65) 6) ∷ []) true)) ∷
      (call (then (obj 4 19) (method (routine_id 1) Direct (argued [])) (id 9))) ∷ [])) ∷
      (listed (
      (built_in (write (plain (quoted (codes "B ")) ∷ plain (dot (obj 5 20) 0 7) ∷ []) true)) ∷
      (call (then (obj 5 20) (method (routine_id 2) Direct (argued [])) (id 9))) ∷
      (built_in (write (plain (quoted (codes "B done ")) ∷ plain (dot (obj 5 20) 0 7) ∷ []) true)) ∷ [])) ∷
      (listed (
      (assign (var 1 20) (expression (construct (class_id 3) (routine_id 0) (argued [])) (id 20) no_steps)) ∷
      (assign (dot (var 1 20) 0 7) (quoted (codes "text"))) ∷
      (assign (dot (var 1 20) 0 7) (with_q false 7 (dot (var 1 20) 0 7) Add (quoted (codes "!")))) ∷
      (assign (var 0 16) (to Keep 16 (var 1 20))) ∷
      (built_in (free (var 0 16) false)) ∷
      (built_in (write (plain (quoted (codes "end")) ∷ []) true)) ∷ [])) ∷
      [])

  class_destructors_runs : outcome 4000 class_destructors ([]) ≡ ends_with (makes 32 ∷ asks 32 ∷ frees 2 ∷ frees 1 ∷ []) (said (codes "B text!") ++ said (codes "A") ++ said (codes "B done text!") ++ said (codes "end")) ([]) 0
  unfolding outcome
  class_destructors_runs = refl

  -- Two classes that know each other, and Self given to another instance
  abbrev class_forward : Program
  class_forward = program name
      (Class (class_id 0) ∷ Interface (interface_id 0) ∷ Class (class_id 1) ∷ Class (class_id 2) ∷ Class (class_id 3) ∷ [])
      (part name 20 ∷ part name 4 ∷ [])
      (row name 20 Plain None ∷ row name 19 Plain None ∷ row name 16 ObjectRole None ∷ row name 16 ObjectRole None ∷ row name 20 ObjectRole None ∷ row name 19 (Parameter Value) None ∷ row name 19 ObjectRole None ∷ row name 20 (Parameter Value) None ∷ row name 19 ObjectRole None ∷ row name 7 (Parameter Const_) None ∷ [])
      (routine_row name (codes "create") Constructor (OfClass (class_id 0)) 0 None 2 1 ∷ routine_row name (codes "destroy") Destructor (OfClass (class_id 0)) 0 None 3 1 ∷ routine_row name (codes "show") Procedure (OfClass (class_id 3)) 1 None 4 2 ∷ routine_row name (codes "create") Constructor (OfClass (class_id 2)) 1 None 6 2 ∷ routine_row name (codes "tell") Procedure (OfClass (class_id 2)) 1 None 8 2 ∷ [])
      (class_row (codes "TObject") 16 None 0 0 0 2 0 0 ∷ class_row (codes "TInterfacedObject") 18 (Some (class_id 0)) 0 0 2 0 0 1 ∷ class_row (codes "TB") 19 (Some (class_id 0)) 0 1 2 2 1 0 ∷ class_row (codes "TA") 20 (Some (class_id 0)) 1 1 4 1 1 0 ∷ [])
      (interface_row (codes "iunknown") 17 None 5 0 ∷ [])
      (method_row 0 Static false ∷ method_row 1 VirtualBinding false ∷ method_row 3 Static false ∷ method_row 4 Static false ∷ method_row 2 Static false ∷ [])
      (interface_id 0 ∷ [])
      (variable_id 0 ∷ variable_id 1 ∷ [])
      None
      ((listed ([])) ∷
      (listed ([])) ∷
      (listed (
      (assign (dot (obj 4 20) 1 4) (with_q false 4 (dot (obj 4 20) 1 4) Add (known (pos 1) 4))) ∷
      (call (then (var 5 19) (method (routine_id 4) Direct (argued (value (quoted (codes "shown")) ∷ []))) (id 9))) ∷ [])) ∷
      (listed (
      (assign (dot (obj 6 19) 0 20) (var 7 20)) ∷
      (call (then (dot (obj 6 19) 0 20) (method (routine_id 2) Direct (argued (value (obj 6 19) ∷ []))) (id 9))) ∷ [])) ∷
      (listed (
      (built_in (write (plain (var 9 7) ∷ plain (dot (dot (obj 8 19) 0 20) 1 4) ∷ []) true)) ∷ [])) ∷
      (listed (
      (assign (var 0 20) (expression (construct (class_id 3) (routine_id 0) (argued [])) (id 20) no_steps)) ∷
      (assign (var 1 19) (expression (construct (class_id 2) (routine_id 3) (argued (value (var 0 20) ∷ []))) (id 19) no_steps)) ∷
      (call (then (var 0 20) (method (routine_id 2) Direct (argued (value (var 1 19) ∷ []))) (id 9))) ∷
      (built_in (free (var 1 19) false)) ∷
      (built_in (free (var 0 20) false)) ∷ [])) ∷
      [])

  class_forward_runs : outcome 4000 class_forward ([]) ≡ ends_with (makes 32 ∷ makes 32 ∷ frees 2 ∷ frees 1 ∷ []) (said (codes "shown1") ++ said (codes "shown2")) ([]) 0
  unfolding outcome
  class_forward_runs = refl

  -- Free of an instance while its constructor runs
  abbrev class_free_in_constructor : Program
  class_free_in_constructor = program name
      (Class (class_id 0) ∷ Interface (interface_id 0) ∷ Class (class_id 1) ∷ Class (class_id 2) ∷ [])
      []
      (row name 19 Plain None ∷ row name 16 ObjectRole None ∷ row name 16 ObjectRole None ∷ row name 19 ObjectRole None ∷ [])
      (routine_row name (codes "create") Constructor (OfClass (class_id 0)) 0 None 1 1 ∷ routine_row name (codes "destroy") Destructor (OfClass (class_id 0)) 0 None 2 1 ∷ routine_row name (codes "create") Constructor (OfClass (class_id 2)) 0 None 3 1 ∷ [])
      (class_row (codes "TObject") 16 None 0 0 0 2 0 0 ∷ class_row (codes "TInterfacedObject") 18 (Some (class_id 0)) 0 0 2 0 0 1 ∷ class_row (codes "TA") 19 (Some (class_id 0)) 0 0 2 1 1 0 ∷ [])
      (interface_row (codes "iunknown") 17 None 3 0 ∷ [])
      (method_row 0 Static false ∷ method_row 1 VirtualBinding false ∷ method_row 2 Static false ∷ [])
      (interface_id 0 ∷ [])
      (variable_id 0 ∷ [])
      None
      ((listed ([])) ∷
      (listed ([])) ∷
      (listed (
      (built_in (write (plain (quoted (codes "in")) ∷ []) true)) ∷
      (built_in (free (obj 3 19) false)) ∷
      (built_in (write (plain (quoted (codes "never")) ∷ []) true)) ∷ [])) ∷
      (listed (
      (assign (var 0 19) (expression (construct (class_id 2) (routine_id 2) (argued [])) (id 19) no_steps)) ∷ [])) ∷
      [])

  class_free_in_constructor_runs : outcome 4000 class_free_in_constructor ([]) ≡ ends_with (makes 16 ∷ []) (said (codes "in")) (said (codes "Runtime error 204")) 204
  unfolding outcome
  class_free_in_constructor_runs = refl

  -- Free of an instance while its destructor runs
  abbrev class_free_in_destructor : Program
  class_free_in_destructor = program name
      (Class (class_id 0) ∷ Interface (interface_id 0) ∷ Class (class_id 1) ∷ Class (class_id 2) ∷ [])
      (part name 4 ∷ [])
      (row name 19 Plain None ∷ row name 16 ObjectRole None ∷ row name 16 ObjectRole None ∷ row name 19 ObjectRole None ∷ [])
      (routine_row name (codes "create") Constructor (OfClass (class_id 0)) 0 None 1 1 ∷ routine_row name (codes "destroy") Destructor (OfClass (class_id 0)) 0 None 2 1 ∷ routine_row name (codes "destroy") Destructor (OfClass (class_id 2)) 0 None 3 1 ∷ [])
      (class_row (codes "TObject") 16 None 0 0 0 2 0 0 ∷ class_row (codes "TInterfacedObject") 18 (Some (class_id 0)) 0 0 2 0 0 1 ∷ class_row (codes "TA") 19 (Some (class_id 0)) 0 1 2 1 1 0 ∷ [])
      (interface_row (codes "iunknown") 17 None 3 0 ∷ [])
      (method_row 0 Static false ∷ method_row 1 VirtualBinding false ∷ method_row 2 Override false ∷ [])
      (interface_id 0 ∷ [])
      (variable_id 0 ∷ [])
      None
      ((listed ([])) ∷
      (listed ([])) ∷
      (listed (
      (assign (dot (obj 3 19) 0 4) (with_q false 4 (dot (obj 3 19) 0 4) Add (known (pos 1) 4))) ∷
      (built_in (write (plain (quoted (codes "in ")) ∷ plain (dot (obj 3 19) 0 4) ∷ []) true)) ∷
      (if_then (with_q false 5 (dot (obj 3 19) 0 4) Less (known (pos 3) 4)) (built_in (free (obj 3 19) false))) ∷
      (built_in (write (plain (quoted (codes "never")) ∷ []) true)) ∷ [])) ∷
      (listed (
      (assign (var 0 19) (expression (construct (class_id 2) (routine_id 0) (argued [])) (id 19) no_steps)) ∷
      (built_in (free (var 0 19) false)) ∷ [])) ∷
      [])

  class_free_in_destructor_runs : outcome 4000 class_free_in_destructor ([]) ≡ ends_with (makes 32 ∷ []) (said (codes "in 1")) (said (codes "Runtime error 204")) 204
  unfolding outcome
  class_free_in_destructor_runs = refl

  -- A method may free its own instance; a field is a use after that
  abbrev class_free_in_method : Program
  class_free_in_method = program name
      (Class (class_id 0) ∷ Interface (interface_id 0) ∷ Class (class_id 1) ∷ Class (class_id 2) ∷ [])
      (part name 4 ∷ [])
      (row name 19 Plain None ∷ row name 16 ObjectRole None ∷ row name 16 ObjectRole None ∷ row name 19 ObjectRole None ∷ row name 19 ObjectRole None ∷ [])
      (routine_row name (codes "create") Constructor (OfClass (class_id 0)) 0 None 1 1 ∷ routine_row name (codes "destroy") Destructor (OfClass (class_id 0)) 0 None 2 1 ∷ routine_row name (codes "p") Procedure (OfClass (class_id 2)) 0 None 3 1 ∷ routine_row name (codes "destroy") Destructor (OfClass (class_id 2)) 0 None 4 1 ∷ [])
      (class_row (codes "TObject") 16 None 0 0 0 2 0 0 ∷ class_row (codes "TInterfacedObject") 18 (Some (class_id 0)) 0 0 2 0 0 1 ∷ class_row (codes "TA") 19 (Some (class_id 0)) 0 1 2 2 1 0 ∷ [])
      (interface_row (codes "iunknown") 17 None 4 0 ∷ [])
      (method_row 0 Static false ∷ method_row 1 VirtualBinding false ∷ method_row 2 Static false ∷ method_row 3 Override false ∷ [])
      (interface_id 0 ∷ [])
      (variable_id 0 ∷ [])
      None
      ((listed ([])) ∷
      (listed ([])) ∷
      (listed (
      (assign (dot (obj 3 19) 0 4) (known (pos 1) 4)) ∷
      (built_in (free (obj 3 19) false)) ∷
      (built_in (write (plain (quoted (codes "still in P")) ∷ []) true)) ∷
      (built_in (write (plain (dot (obj 3 19) 0 4) ∷ []) true)) ∷ [])) ∷
      (listed (
      (built_in (write (plain (quoted (codes "gone")) ∷ []) true)) ∷
      (call (then (obj 4 19) (method (routine_id 1) Direct (argued [])) (id 9))) ∷ [])) ∷
      (listed (
      (assign (var 0 19) (expression (construct (class_id 2) (routine_id 0) (argued [])) (id 19) no_steps)) ∷
      (call (then (var 0 19) (method (routine_id 2) Direct (argued [])) (id 9))) ∷ [])) ∷
      [])

  class_free_in_method_runs : outcome 4000 class_free_in_method ([]) ≡ ends_with (makes 32 ∷ frees 1 ∷ []) (said (codes "gone") ++ said (codes "still in P")) (said (codes "Runtime error 216")) 216
  unfolding outcome
  class_free_in_method_runs = refl

  -- Free of nil does nothing; FreeAndNil twice
  abbrev class_free_nil : Program
  class_free_nil = program name
      (Class (class_id 0) ∷ Interface (interface_id 0) ∷ Class (class_id 1) ∷ Class (class_id 2) ∷ Class (class_id 3) ∷ Class (class_id 4) ∷ Class (class_id 5) ∷ Class (class_id 6) ∷ Class (class_id 7) ∷ Class (class_id 8) ∷ Class (class_id 9) ∷ [])
      (part name 7 ∷ [])
      (row name 26 Plain None ∷ row name 26 Plain None ∷ row name 16 ObjectRole None ∷ row name 16 ObjectRole None ∷ row name 19 ObjectRole None ∷ row name 7 (Parameter Const_) None ∷ row name 4 (Parameter Value) None ∷ row name 7 Result None ∷ row name 26 ObjectRole None ∷ [])
      (routine_row name (codes "create") Constructor (OfClass (class_id 0)) 0 None 2 1 ∷ routine_row name (codes "destroy") Destructor (OfClass (class_id 0)) 0 None 3 1 ∷ routine_row name (codes "create") Constructor (OfClass (class_id 2)) 1 None 4 2 ∷ routine_row name (codes "inttostr") FunctionKind OfUnit 1 (Some 7) 6 2 ∷ routine_row name (codes "destroy") Destructor (OfClass (class_id 9)) 0 None 8 1 ∷ [])
      (class_row (codes "TObject") 16 None 0 0 0 2 0 0 ∷ class_row (codes "TInterfacedObject") 18 (Some (class_id 0)) 0 0 2 0 0 1 ∷ class_row (codes "Exception") 19 (Some (class_id 0)) 0 1 2 1 1 0 ∷ class_row (codes "EConvertError") 20 (Some (class_id 2)) 1 0 3 0 1 0 ∷ class_row (codes "EInvalidCast") 21 (Some (class_id 2)) 1 0 3 0 1 0 ∷ class_row (codes "EIntError") 22 (Some (class_id 2)) 1 0 3 0 1 0 ∷ class_row (codes "EDivByZero") 23 (Some (class_id 5)) 1 0 3 0 1 0 ∷ class_row (codes "ERangeError") 24 (Some (class_id 5)) 1 0 3 0 1 0 ∷ class_row (codes "EIntOverflow") 25 (Some (class_id 5)) 1 0 3 0 1 0 ∷ class_row (codes "TA") 26 (Some (class_id 0)) 1 0 3 1 1 0 ∷ [])
      (interface_row (codes "iunknown") 17 None 4 0 ∷ [])
      (method_row 0 Static false ∷ method_row 1 VirtualBinding false ∷ method_row 2 Static false ∷ method_row 4 Override false ∷ [])
      (interface_id 0 ∷ [])
      (variable_id 0 ∷ variable_id 1 ∷ [])
      (Some (record { message = record { 0 = 0 }; exception = class_id 2; zero_divisor = class_id 6; range = class_id 7; overflow = class_id 8; cast = class_id 4 }))
      ((listed ([])) ∷
      (listed ([])) ∷
      (listed (
      (assign (dot (obj 4 19) 0 7) (var 5 7)) ∷ [])) ∷
      (listed (
      (built_in (str (plain (var 6 4)) (var 7 7))) ∷ [])) ∷
      (listed (
      (built_in (write (plain (quoted (codes "gone")) ∷ []) true)) ∷
      (call (then (obj 8 26) (method (routine_id 1) Direct (argued [])) (id 9))) ∷ [])) ∷
      (listed (
      (built_in (free (var 0 26) false)) ∷
      (assign (var 0 26) (expression (construct (class_id 9) (routine_id 0) (argued [])) (id 26) no_steps)) ∷
      (assign (var 1 26) (var 0 26)) ∷
      (built_in (free (var 0 26) true)) ∷
      (built_in (free (var 0 26) true)) ∷
      (built_in (write (plain (with_q false 5 (var 0 26) Equal (to Keep 26 nothing)) ∷ plain (with_q false 5 (var 1 26) Equal (to Keep 26 nothing)) ∷ plain (applying Assigned false (var 1 26) 5) ∷ []) true)) ∷ [])) ∷
      [])

  class_free_nil_runs : outcome 4000 class_free_nil ([]) ≡ ends_with (makes 16 ∷ frees 1 ∷ []) (said (codes "gone") ++ said (codes "TRUEFALSETRUE")) ([]) 0
  unfolding outcome
  class_free_nil_runs = refl

  -- Free of nil cast to a class does nothing.
  abbrev class_free_of_cast_nil : Program
  class_free_of_cast_nil = program name
      (Class (class_id 0) ∷ Interface (interface_id 0) ∷ Class (class_id 1) ∷ Class (class_id 2) ∷ [])
      (part name 4 ∷ [])
      (row name 19 Plain None ∷ row name 16 ObjectRole None ∷ row name 16 ObjectRole None ∷ [])
      (routine_row name (codes "create") Constructor (OfClass (class_id 0)) 0 None 1 1 ∷ routine_row name (codes "destroy") Destructor (OfClass (class_id 0)) 0 None 2 1 ∷ [])
      (class_row (codes "TObject") 16 None 0 0 0 2 0 0 ∷ class_row (codes "TInterfacedObject") 18 (Some (class_id 0)) 0 0 2 0 0 1 ∷ class_row (codes "A") 19 (Some (class_id 0)) 0 1 2 0 1 0 ∷ [])
      (interface_row (codes "iunknown") 17 None 2 0 ∷ [])
      (method_row 0 Static false ∷ method_row 1 VirtualBinding false ∷ [])
      (interface_id 0 ∷ [])
      (variable_id 0 ∷ [])
      None
      ((listed ([])) ∷
      (listed ([])) ∷
      (listed (
      (assign (var 0 19) (expression (construct (class_id 2) (routine_id 0) (argued [])) (id 19) no_steps)) ∷
      (built_in (free (to Instance 19 nothing) false)) ∷
      (assign (dot (var 0 19) 0 4) (known (pos 3) 4)) ∷
      (built_in (write (plain (dot (var 0 19) 0 4) ∷ []) true)) ∷ [])) ∷
      [])

  class_free_of_cast_nil_runs : outcome 4000 class_free_of_cast_nil ([]) ≡ ends_with (makes 32 ∷ []) (said (codes "3")) ([]) 0
  unfolding outcome
  class_free_of_cast_nil_runs = refl

  -- FreeAndNil empties the variable before the destructor runs, Free leaves it
  abbrev class_freeandnil_first : Program
  class_freeandnil_first = program name
      (Class (class_id 0) ∷ Interface (interface_id 0) ∷ Class (class_id 1) ∷ Class (class_id 2) ∷ Class (class_id 3) ∷ Class (class_id 4) ∷ Class (class_id 5) ∷ Class (class_id 6) ∷ Class (class_id 7) ∷ Class (class_id 8) ∷ Class (class_id 9) ∷ [])
      (part name 7 ∷ [])
      (row name 26 Plain None ∷ row name 16 ObjectRole None ∷ row name 16 ObjectRole None ∷ row name 19 ObjectRole None ∷ row name 7 (Parameter Const_) None ∷ row name 4 (Parameter Value) None ∷ row name 7 Result None ∷ row name 26 ObjectRole None ∷ [])
      (routine_row name (codes "create") Constructor (OfClass (class_id 0)) 0 None 1 1 ∷ routine_row name (codes "destroy") Destructor (OfClass (class_id 0)) 0 None 2 1 ∷ routine_row name (codes "create") Constructor (OfClass (class_id 2)) 1 None 3 2 ∷ routine_row name (codes "inttostr") FunctionKind OfUnit 1 (Some 7) 5 2 ∷ routine_row name (codes "destroy") Destructor (OfClass (class_id 9)) 0 None 7 1 ∷ [])
      (class_row (codes "TObject") 16 None 0 0 0 2 0 0 ∷ class_row (codes "TInterfacedObject") 18 (Some (class_id 0)) 0 0 2 0 0 1 ∷ class_row (codes "Exception") 19 (Some (class_id 0)) 0 1 2 1 1 0 ∷ class_row (codes "EConvertError") 20 (Some (class_id 2)) 1 0 3 0 1 0 ∷ class_row (codes "EInvalidCast") 21 (Some (class_id 2)) 1 0 3 0 1 0 ∷ class_row (codes "EIntError") 22 (Some (class_id 2)) 1 0 3 0 1 0 ∷ class_row (codes "EDivByZero") 23 (Some (class_id 5)) 1 0 3 0 1 0 ∷ class_row (codes "ERangeError") 24 (Some (class_id 5)) 1 0 3 0 1 0 ∷ class_row (codes "EIntOverflow") 25 (Some (class_id 5)) 1 0 3 0 1 0 ∷ class_row (codes "TA") 26 (Some (class_id 0)) 1 0 3 1 1 0 ∷ [])
      (interface_row (codes "iunknown") 17 None 4 0 ∷ [])
      (method_row 0 Static false ∷ method_row 1 VirtualBinding false ∷ method_row 2 Static false ∷ method_row 4 Override false ∷ [])
      (interface_id 0 ∷ [])
      (variable_id 0 ∷ [])
      (Some (record { message = record { 0 = 0 }; exception = class_id 2; zero_divisor = class_id 6; range = class_id 7; overflow = class_id 8; cast = class_id 4 }))
      ((listed ([])) ∷
      (listed ([])) ∷
      (listed (
      (assign (dot (obj 3 19) 0 7) (var 4 7)) ∷ [])) ∷
      (listed (
      (built_in (str (plain (var 5 4)) (var 6 7))) ∷ [])) ∷
      (listed (
      (built_in (write (plain (with_q false 5 (var 0 26) Equal (to Keep 26 nothing)) ∷ []) true)) ∷
      (call (then (obj 7 26) (method (routine_id 1) Direct (argued [])) (id 9))) ∷ [])) ∷
      (listed (
      (assign (var 0 26) (expression (construct (class_id 9) (routine_id 0) (argued [])) (id 26) no_steps)) ∷
      (built_in (free (var 0 26) true)) ∷
      (assign (var 0 26) (expression (construct (class_id 9) (routine_id 0) (argued [])) (id 26) no_steps)) ∷
      (built_in (free (var 0 26) false)) ∷
      (built_in (write (plain (with_q false 5 (var 0 26) NotEqual (to Keep 26 nothing)) ∷ []) true)) ∷ [])) ∷
      [])

  class_freeandnil_first_runs : outcome 4000 class_freeandnil_first ([]) ≡ ends_with (makes 16 ∷ frees 1 ∷ makes 16 ∷ frees 2 ∷ []) (said (codes "TRUE") ++ said (codes "FALSE") ++ said (codes "TRUE")) ([]) 0
  unfolding outcome
  class_freeandnil_first_runs = refl

  -- A method frees its receiver and stores in a var argument of it.
  abbrev class_freed_receiver : Program
  class_freed_receiver = program name
      (Class (class_id 0) ∷ Interface (interface_id 0) ∷ Class (class_id 1) ∷ Class (class_id 2) ∷ Subrange (id 4) (pos 0) (pos 1) ∷ Array (id 20) (id 7) ∷ [])
      (part name 21 ∷ [])
      (row name 19 Plain None ∷ row name 4 Plain None ∷ row name 16 ObjectRole None ∷ row name 16 ObjectRole None ∷ row name 19 ObjectRole None ∷ row name 7 (Parameter Var) None ∷ row name 7 (Parameter Const_) None ∷ [])
      (routine_row name (codes "create") Constructor (OfClass (class_id 0)) 0 None 2 1 ∷ routine_row name (codes "destroy") Destructor (OfClass (class_id 0)) 0 None 3 1 ∷ routine_row name (codes "m") Procedure (OfClass (class_id 2)) 2 None 4 3 ∷ [])
      (class_row (codes "TObject") 16 None 0 0 0 2 0 0 ∷ class_row (codes "TInterfacedObject") 18 (Some (class_id 0)) 0 0 2 0 0 1 ∷ class_row (codes "TT") 19 (Some (class_id 0)) 0 1 2 1 1 0 ∷ [])
      (interface_row (codes "iunknown") 17 None 3 0 ∷ [])
      (method_row 0 Static false ∷ method_row 1 VirtualBinding false ∷ method_row 2 Static false ∷ [])
      (interface_id 0 ∷ [])
      (variable_id 0 ∷ variable_id 1 ∷ [])
      None
      ((listed ([])) ∷
      (listed ([])) ∷
      (listed (
      (built_in (write (plain (var 5 7) ∷ plain (var 6 7) ∷ []) true)) ∷
      (built_in (free (var 0 19) false)) ∷
      (built_in (write (plain (quoted (codes "freed")) ∷ plain (var 6 7) ∷ []) true)) ∷
      (assign (var 5 7) (quoted (codes "q"))) ∷ [])) ∷
      (listed (
      (assign (var 0 19) (expression (construct (class_id 2) (routine_id 0) (argued [])) (id 19) no_steps)) ∷
      (assign (var 1 4) (known (pos 1) 4)) ∷
      (assign (at (dot (var 0 19) 0 21) (var 1 4) 7) (quoted (codes "u"))) ∷
      (assign (at (dot (var 0 19) 0 21) (var 1 4) 7) (with_q false 7 (at (dot (var 0 19) 0 21) (var 1 4) 7) Add (quoted (codes "v")))) ∷
      (call (then (var 0 19) (method (routine_id 2) Direct (argued (place (at (dot (var 0 19) 0 21) (var 1 4) 7) ∷ value (with_q false 7 (at (dot (var 0 19) 0 21) (var 1 4) 7) Add (quoted (codes "w"))) ∷ []))) (id 9))) ∷ [])) ∷
      [])

  class_freed_receiver_runs : outcome 4000 class_freed_receiver ([]) ≡ ends_with (makes 32 ∷ asks 32 ∷ asks 32 ∷ frees 1 ∷ []) (said (codes "uvuvw") ++ said (codes "freeduvw")) (said (codes "Runtime error 216")) 216
  unfolding outcome
  class_freed_receiver_runs = refl

  -- Halt in a destructor: what calls it does not go on
  abbrev class_halt_in_destructor : Program
  class_halt_in_destructor = program name
      (Class (class_id 0) ∷ Interface (interface_id 0) ∷ Class (class_id 1) ∷ Class (class_id 2) ∷ [])
      []
      (row name 19 Plain None ∷ row name 16 ObjectRole None ∷ row name 16 ObjectRole None ∷ row name 19 ObjectRole None ∷ [])
      (routine_row name (codes "create") Constructor (OfClass (class_id 0)) 0 None 1 1 ∷ routine_row name (codes "destroy") Destructor (OfClass (class_id 0)) 0 None 2 1 ∷ routine_row name (codes "destroy") Destructor (OfClass (class_id 2)) 0 None 3 1 ∷ [])
      (class_row (codes "TObject") 16 None 0 0 0 2 0 0 ∷ class_row (codes "TInterfacedObject") 18 (Some (class_id 0)) 0 0 2 0 0 1 ∷ class_row (codes "TA") 19 (Some (class_id 0)) 0 0 2 1 1 0 ∷ [])
      (interface_row (codes "iunknown") 17 None 3 0 ∷ [])
      (method_row 0 Static false ∷ method_row 1 VirtualBinding false ∷ method_row 2 Override false ∷ [])
      (interface_id 0 ∷ [])
      (variable_id 0 ∷ [])
      None
      ((listed ([])) ∷
      (listed ([])) ∷
      (listed (
      (built_in (write (plain (quoted (codes "in")) ∷ []) true)) ∷
      (halt (known (pos 4) 4)) ∷ [])) ∷
      (listed (
      (assign (var 0 19) (expression (construct (class_id 2) (routine_id 0) (argued [])) (id 19) no_steps)) ∷
      (built_in (free (var 0 19) false)) ∷
      (built_in (write (plain (quoted (codes "never")) ∷ []) true)) ∷ [])) ∷
      [])

  class_halt_in_destructor_runs : outcome 4000 class_halt_in_destructor ([]) ≡ ends_with (makes 16 ∷ []) (said (codes "in")) ([]) 4
  unfolding outcome
  class_halt_in_destructor_runs = refl

  -- Virtual, hidden and static methods of four generations, inherited with and without a name.
  abbrev class_hidden_virtual : Program
  class_hidden_virtual = program name
      (Class (class_id 0) ∷ Interface (interface_id 0) ∷ Class (class_id 1) ∷ Class (class_id 2) ∷ Class (class_id 3) ∷ Class (class_id 4) ∷ Class (class_id 5) ∷ [])
      []
      (row name 19 Plain None ∷ row name 20 Plain None ∷ row name 21 Plain None ∷ row name 22 Plain None ∷ row name 16 ObjectRole None ∷ row name 16 ObjectRole None ∷ row name 19 ObjectRole None ∷ row name 19 ObjectRole None ∷ row name 19 ObjectRole None ∷ row name 20 ObjectRole None ∷ row name 20 ObjectRole None ∷ row name 20 ObjectRole None ∷ row name 21 ObjectRole None ∷ row name 21 ObjectRole None ∷ row name 22 ObjectRole None ∷ row name 22 ObjectRole None ∷ [])
      (routine_row name (codes "create") Constructor (OfClass (class_id 0)) 0 None 4 1 ∷ routine_row name (codes "destroy") Destructor (OfClass (class_id 0)) 0 None 5 1 ∷ routine_row name (codes "v") Procedure (OfClass (class_id 2)) 0 None 6 1 ∷ routine_row name (codes "w") Procedure (OfClass (class_id 2)) 0 None 7 1 ∷ routine_row name (codes "z") Procedure (OfClass (class_id 2)) 0 None 8 1 ∷ routine_row name (codes "v") Procedure (OfClass (class_id 3)) 0 None 9 1 ∷ routine_row name (codes "w") Procedure (OfClass (class_id 3)) 0 None 10 1 ∷ routine_row name (codes "z") Procedure (OfClass (class_id 3)) 0 None 11 1 ∷ routine_row name (codes "v") Procedure (OfClass (class_id 4)) 0 None 12 1 ∷ routine_row name (codes "w") Procedure (OfClass (class_id 4)) 0 None 13 1 ∷ routine_row name (codes "v") Procedure (OfClass (class_id 5)) 0 None 14 1 ∷ routine_row name (codes "z") Procedure (OfClass (class_id 5)) 0 None 15 1 ∷ [])
      (class_row (codes "TObject") 16 None 0 0 0 2 0 0 ∷ class_row (codes "TInterfacedObject") 18 (Some (class_id 0)) 0 0 2 0 0 1 ∷ class_row (codes "TA") 19 (Some (class_id 0)) 0 0 2 3 1 0 ∷ class_row (codes "TB") 20 (Some (class_id 2)) 0 0 5 3 1 0 ∷ class_row (codes "TC") 21 (Some (class_id 3)) 0 0 8 2 1 0 ∷ class_row (codes "TD") 22 (Some (class_id 4)) 0 0 10 2 1 0 ∷ [])
      (interface_row (codes "iunknown") 17 None 12 0 ∷ [])
      (method_row 0 Static false ∷ method_row 1 VirtualBinding false ∷ method_row 2 VirtualBinding false ∷ method_row 3 VirtualBinding true ∷ method_row 4 Static false ∷ method_row 5 Override false ∷ method_row 6 Override false ∷ method_row 7 Static false ∷ method_row 8 VirtualBinding false ∷ method_row 9 Override false ∷ method_row 10 Override false ∷ method_row 11 Static false ∷ [])
      (interface_id 0 ∷ [])
      (variable_id 0 ∷ variable_id 1 ∷ variable_id 2 ∷ variable_id 3 ∷ [])
      None
      ((listed ([])) ∷
      (listed ([])) ∷
      (listed (
      (built_in (write (plain (quoted (codes "AV")) ∷ []) true)) ∷ [])) ∷
      (listed ([])) ∷
      (listed (
      (built_in (write (plain (quoted (codes "AZ")) ∷ []) true)) ∷
      (call (then (obj 8 19) (method (routine_id 2) Virtual (argued [])) (id 9))) ∷ [])) ∷
      (listed (
      (built_in (write (plain (quoted (codes "BV")) ∷ []) true)) ∷
      (call (then (obj 9 20) (method (routine_id 2) Direct (argued [])) (id 9))) ∷ [])) ∷
      (listed (
      (built_in (write (plain (quoted (codes "BW")) ∷ []) true)) ∷ [])) ∷
      (listed (
      (built_in (write (plain (quoted (codes "BZ")) ∷ []) true)) ∷
      (call (then (obj 11 20) (method (routine_id 4) Direct (argued [])) (id 9))) ∷ [])) ∷
      (listed (
      (built_in (write (plain (quoted (codes "CV")) ∷ []) true)) ∷ [])) ∷
      (listed (
      (built_in (write (plain (quoted (codes "CW")) ∷ []) true)) ∷
      (call (then (obj 13 21) (method (routine_id 6) Direct (argued [])) (id 9))) ∷ [])) ∷
      (listed (
      (built_in (write (plain (quoted (codes "DV")) ∷ []) true)) ∷
      (call (then (obj 14 22) (method (routine_id 8) Direct (argued [])) (id 9))) ∷ [])) ∷
      (listed (
      (built_in (write (plain (quoted (codes "DZ")) ∷ []) true)) ∷
      (call (then (obj 15 22) (method (routine_id 10) Virtual (argued [])) (id 9))) ∷
      (call (then (obj 15 22) (method (routine_id 7) Direct (argued [])) (id 9))) ∷ [])) ∷
      (listed (
      (assign (var 3 22) (expression (construct (class_id 5) (routine_id 0) (argued [])) (id 22) no_steps)) ∷
      (assign (var 0 19) (to Keep 19 (var 3 22))) ∷
      (assign (var 1 20) (to Keep 20 (var 3 22))) ∷
      (assign (var 2 21) (to Keep 21 (var 3 22))) ∷
      (call (then (var 0 19) (method (routine_id 2) Virtual (argued [])) (id 9))) ∷
      (call (then (var 1 20) (method (routine_id 5) Virtual (argued [])) (id 9))) ∷
      (call (then (var 2 21) (method (routine_id 8) Virtual (argued [])) (id 9))) ∷
      (call (then (var 3 22) (method (routine_id 10) Virtual (argued [])) (id 9))) ∷
      (call (then (var 0 19) (method (routine_id 4) Direct (argued [])) (id 9))) ∷
      (call (then (var 1 20) (method (routine_id 7) Direct (argued [])) (id 9))) ∷
      (call (then (var 2 21) (method (routine_id 7) Direct (argued [])) (id 9))) ∷
      (call (then (var 3 22) (method (routine_id 11) Direct (argued [])) (id 9))) ∷
      (call (then (var 0 19) (method (routine_id 3) Virtual (argued [])) (id 9))) ∷
      (built_in (write (plain (then (var 0 19) (is (id 20)) (id 5)) ∷ plain (then (var 0 19) (is (id 22)) (id 5)) ∷ plain (then (var 3 22) (is (id 19)) (id 5)) ∷ plain (applying ClassName false (var 0 19) 7) ∷ []) true)) ∷
      (built_in (free (var 3 22) false)) ∷
      (built_in (write (plain (applying Assigned false (var 0 19) 5) ∷ []) true)) ∷
      (assign (var 0 19) (expression (construct (class_id 2) (routine_id 0) (argued [])) (id 19) no_steps)) ∷
      (built_in (write (plain (then (var 0 19) (is (id 20)) (id 5)) ∷ []) true)) ∷
      (call (then (var 0 19) (method (routine_id 3) Virtual (argued [])) (id 9))) ∷ [])) ∷
      [])

  class_hidden_virtual_runs : outcome 4000 class_hidden_virtual ([]) ≡ ends_with (makes 16 ∷ frees 1 ∷ makes 16 ∷ []) (said (codes "BV") ++ said (codes "AV") ++ said (codes "BV") ++ said (codes "AV") ++ said (codes "DV") ++ said (codes "CV") ++ said (codes "DV") ++ said (codes "CV") ++ said (codes "AZ") ++ said (codes "BV") ++ said (codes "AV") ++ said (codes "BZ") ++ said (codes "AZ") ++ said (codes "BV") ++ said (codes "AV") ++ said (codes "BZ") ++ said (codes "AZ") ++ said (codes "BV") ++ said (codes "AV") ++ said (codes "DZ") ++ said (codes "DV") ++ said (codes "CV") ++ said (codes "BZ") ++ said (codes "AZ") ++ said (codes "BV") ++ said (codes "AV") ++ said (codes "CW") ++ said (codes "BW") ++ said (codes "TRUETRUETRUETD") ++ said (codes "TRUE") ++ said (codes "FALSE")) (said (codes "Runtime error 211")) 211
  unfolding outcome
  class_hidden_virtual_runs = refl

  -- Instances in an array: nothing holds them, a loop frees them
  abbrev class_in_array : Program
  class_in_array = program name
      (Class (class_id 0) ∷ Interface (interface_id 0) ∷ Class (class_id 1) ∷ Class (class_id 2) ∷ DynamicArray (id 19) ∷ [])
      (part name 4 ∷ [])
      (row name 20 Plain None ∷ row name 19 Plain None ∷ row name 4 Plain None ∷ row name 16 ObjectRole None ∷ row name 16 ObjectRole None ∷ row name 19 ObjectRole None ∷ [])
      (routine_row name (codes "create") Constructor (OfClass (class_id 0)) 0 None 3 1 ∷ routine_row name (codes "destroy") Destructor (OfClass (class_id 0)) 0 None 4 1 ∷ routine_row name (codes "destroy") Destructor (OfClass (class_id 2)) 0 None 5 1 ∷ [])
      (class_row (codes "TObject") 16 None 0 0 0 2 0 0 ∷ class_row (codes "TInterfacedObject") 18 (Some (class_id 0)) 0 0 2 0 0 1 ∷ class_row (codes "TA") 19 (Some (class_id 0)) 0 1 2 1 1 0 ∷ [])
      (interface_row (codes "iunknown") 17 None 3 0 ∷ [])
      (method_row 0 Static false ∷ method_row 1 VirtualBinding false ∷ method_row 2 Override false ∷ [])
      (interface_id 0 ∷ [])
      (variable_id 0 ∷ variable_id 1 ∷ variable_id 2 ∷ [])
      None
      ((listed ([])) ∷
      (listed ([])) ∷
      (listed (
      (built_in (write (plain (known (pos 45) 6) ∷ plain (dot (obj 5 19) 0 4) ∷ []) false)) ∷
      (call (then (obj 5 19) (method (routine_id 1) Direct (argued [])) (id 9))) ∷ [])) ∷
      (listed (
      (built_in (set_length (var 0 20) (known (pos 3) 4))) ∷
      (for_to (variable_id 2) (known (pos 0) 4) To (known (pos 2) 4) (block (listed (
      (assign (at (var 0 20) (var 2 4) 19) (expression (construct (class_id 2) (routine_id 0) (argued [])) (id 19) no_steps)) ∷
      (assign (dot (at (var 0 20) (var 2 4) 19) 0 4) (with_q false 4 (var 2 4) Multiply (var 2 4))) ∷ [])))) ∷
      (assign (var 1 19) (at (var 0 20) (known (pos 2) 4) 19)) ∷
      (built_in (set_length (var 0 20) (known (pos 2) 4))) ∷
      (for_to (variable_id 2) (known (pos 0) 4) To (applying High false (var 0 20) 4) (built_in (free (at (var 0 20) (var 2 4) 19) false))) ∷
      (assign (var 0 20) (to Keep 20 nothing)) ∷
      (built_in (write (plain (known (pos 32) 6) ∷ plain (dot (var 1 19) 0 4) ∷ []) true)) ∷
      (built_in (free (var 1 19) false)) ∷ [])) ∷
      [])

  class_in_array_runs : outcome 4000 class_in_array ([]) ≡ ends_with (asks 32 ∷ makes 32 ∷ makes 32 ∷ makes 32 ∷ asks 32 ∷ frees 1 ∷ frees 2 ∷ frees 3 ∷ frees 5 ∷ frees 4 ∷ []) (said (codes "-0-1 4") ++ codes "-4") ([]) 0
  unfolding outcome
  class_in_array_runs = refl

  -- An instance in a record: the copy refers to the same one
  abbrev class_in_record : Program
  class_in_record = program name
      (Class (class_id 0) ∷ Interface (interface_id 0) ∷ Class (class_id 1) ∷ Class (class_id 2) ∷ Record (rows_at 1 2) ∷ [])
      (part name 4 ∷ part name 19 ∷ part name 7 ∷ [])
      (row name 20 Plain None ∷ row name 20 Plain None ∷ row name 16 ObjectRole None ∷ row name 16 ObjectRole None ∷ [])
      (routine_row name (codes "create") Constructor (OfClass (class_id 0)) 0 None 2 1 ∷ routine_row name (codes "destroy") Destructor (OfClass (class_id 0)) 0 None 3 1 ∷ [])
      (class_row (codes "TObject") 16 None 0 0 0 2 0 0 ∷ class_row (codes "TInterfacedObject") 18 (Some (class_id 0)) 0 0 2 0 0 1 ∷ class_row (codes "TA") 19 (Some (class_id 0)) 0 1 2 0 1 0 ∷ [])
      (interface_row (codes "iunknown") 17 None 2 0 ∷ [])
      (method_row 0 Static false ∷ method_row 1 VirtualBinding false ∷ [])
      (interface_id 0 ∷ [])
      (variable_id 0 ∷ variable_id 1 ∷ [])
      None
      ((listed ([])) ∷
      (listed ([])) ∷
      (listed (
      (assign (dot (var 0 20) 1 19) (expression (construct (class_id 2) (routine_id 0) (argued [])) (id 19) no_steps)) ∷
      (assign (dot (var 0 20) 2 7) (quoted (codes "x"))) ∷
      (assign (var 1 20) (var 0 20)) ∷
      (assign (dot (dot (var 1 20) 1 19) 0 4) (known (pos 8) 4)) ∷
      (assign (dot (var 1 20) 2 7) (quoted (codes "y"))) ∷
      (built_in (write (plain (dot (dot (var 0 20) 1 19) 0 4) ∷ plain (dot (var 0 20) 2 7) ∷ plain (dot (var 1 20) 2 7) ∷ plain (with_q false 5 (dot (var 0 20) 1 19) Equal (dot (var 1 20) 1 19)) ∷ []) true)) ∷
      (built_in (free (dot (var 0 20) 1 19) false)) ∷ [])) ∷
      [])

  class_in_record_runs : outcome 4000 class_in_record ([]) ≡ ends_with (makes 32 ∷ frees 1 ∷ []) (said (codes "8xyTRUE")) ([]) 0
  unfolding outcome
  class_in_record_runs = refl

  -- Three levels: each one calls the ancestor's method, with a value that grows
  abbrev class_inherited : Program
  class_inherited = program name
      (Class (class_id 0) ∷ Interface (interface_id 0) ∷ Class (class_id 1) ∷ Class (class_id 2) ∷ Class (class_id 3) ∷ Class (class_id 4) ∷ [])
      []
      (row name 19 Plain None ∷ row name 16 ObjectRole None ∷ row name 16 ObjectRole None ∷ row name 19 ObjectRole None ∷ row name 4 (Parameter Value) None ∷ row name 4 Result None ∷ row name 20 ObjectRole None ∷ row name 4 (Parameter Value) None ∷ row name 4 Result None ∷ row name 21 ObjectRole None ∷ row name 4 (Parameter Value) None ∷ row name 4 Result None ∷ [])
      (routine_row name (codes "create") Constructor (OfClass (class_id 0)) 0 None 1 1 ∷ routine_row name (codes "destroy") Destructor (OfClass (class_id 0)) 0 None 2 1 ∷ routine_row name (codes "f") FunctionKind (OfClass (class_id 2)) 1 (Some 4) 3 3 ∷ routine_row name (codes "f") FunctionKind (OfClass (class_id 3)) 1 (Some 4) 6 3 ∷ routine_row name (codes "f") FunctionKind (OfClass (class_id 4)) 1 (Some 4) 9 3 ∷ [])
      (class_row (codes "TObject") 16 None 0 0 0 2 0 0 ∷ class_row (codes "TInterfacedObject") 18 (Some (class_id 0)) 0 0 2 0 0 1 ∷ class_row (codes "TA") 19 (Some (class_id 0)) 0 0 2 1 1 0 ∷ class_row (codes "TB") 20 (Some (class_id 2)) 0 0 3 1 1 0 ∷ class_row (codes "TC") 21 (Some (class_id 3)) 0 0 4 1 1 0 ∷ [])
      (interface_row (codes "iunknown") 17 None 5 0 ∷ [])
      (method_row 0 Static false ∷ method_row 1 VirtualBinding false ∷ method_row 2 VirtualBinding false ∷ method_row 3 Override false ∷ method_row 4 Override false ∷ [])
      (interface_id 0 ∷ [])
      (variable_id 0 ∷ [])
      None
      ((listed ([])) ∷
      (listed ([])) ∷
      (listed (
      (assign (var 5 4) (var 4 4)) ∷ [])) ∷
      (listed (
      (assign (var 8 4) (with_q false 4 (then (obj 6 20) (method (routine_id 2) Direct (argued (value (with_q false 4 (var 7 4) Add (known (pos 1) 4)) ∷ []))) (id 4)) Multiply (known (pos 10) 4))) ∷ [])) ∷
      (listed (
      (assign (var 11 4) (with_q false 4 (then (obj 9 21) (method (routine_id 3) Direct (argued (value (var 10 4) ∷ []))) (id 4)) Add (known (pos 5) 4))) ∷ [])) ∷
      (listed (
      (assign (var 0 19) (to Keep 19 (expression (construct (class_id 4) (routine_id 0) (argued [])) (id 21) no_steps))) ∷
      (built_in (write (plain (then (var 0 19) (method (routine_id 2) Virtual (argued (value (known (pos 2) 4) ∷ []))) (id 4)) ∷ []) true)) ∷
      (built_in (free (var 0 19) false)) ∷ [])) ∷
      [])

  class_inherited_runs : outcome 4000 class_inherited ([]) ≡ ends_with (makes 16 ∷ frees 1 ∷ []) (said (codes "35")) ([]) 0
  unfolding outcome
  class_inherited_runs = refl

  -- A destructor called with inherited runs as a method, so it may run twice
  abbrev class_inherited_twice : Program
  class_inherited_twice = program name
      (Class (class_id 0) ∷ Interface (interface_id 0) ∷ Class (class_id 1) ∷ Class (class_id 2) ∷ Class (class_id 3) ∷ [])
      []
      (row name 19 Plain None ∷ row name 16 ObjectRole None ∷ row name 16 ObjectRole None ∷ row name 19 ObjectRole None ∷ row name 20 ObjectRole None ∷ [])
      (routine_row name (codes "create") Constructor (OfClass (class_id 0)) 0 None 1 1 ∷ routine_row name (codes "destroy") Destructor (OfClass (class_id 0)) 0 None 2 1 ∷ routine_row name (codes "destroy") Destructor (OfClass (class_id 2)) 0 None 3 1 ∷ routine_row name (codes "destroy") Destructor (OfClass (class_id 3)) 0 None 4 1 ∷ [])
      (class_row (codes "TObject") 16 None 0 0 0 2 0 0 ∷ class_row (codes "TInterfacedObject") 18 (Some (class_id 0)) 0 0 2 0 0 1 ∷ class_row (codes "TA") 19 (Some (class_id 0)) 0 0 2 1 1 0 ∷ class_row (codes "TB") 20 (Some (class_id 2)) 0 0 3 1 1 0 ∷ [])
      (interface_row (codes "iunknown") 17 None 4 0 ∷ [])
      (method_row 0 Static false ∷ method_row 1 VirtualBinding false ∷ method_row 2 Override false ∷ method_row 3 Override false ∷ [])
      (interface_id 0 ∷ [])
      (variable_id 0 ∷ [])
      None
      ((listed ([])) ∷
      (listed ([])) ∷
      (listed (
      (built_in (write (plain (known (pos 65) 6) ∷ []) true)) ∷
      (call (then (obj 3 19) (method (routine_id 1) Direct (argued [])) (id 9))) ∷ [])) ∷
      (listed (
      (built_in (write (plain (known (pos 66) 6) ∷ []) true)) ∷
      (call (then (obj 4 20) (method (routine_id 2) Direct (argued [])) (id 9))) ∷
      (call (then (obj 4 20) (method (routine_id 2) Direct (argued [])) (id 9))) ∷ [])) ∷
      (listed (
      (assign (var 0 19) (to Keep 19 (expression (construct (class_id 3) (routine_id 0) (argued [])) (id 20) no_steps))) ∷
      (built_in (free (var 0 19) false)) ∷
      (built_in (write (plain (quoted (codes "end")) ∷ []) true)) ∷ [])) ∷
      [])

  class_inherited_twice_runs : outcome 4000 class_inherited_twice ([]) ≡ ends_with (makes 16 ∷ frees 1 ∷ []) (said (codes "B") ++ said (codes "A") ++ said (codes "A") ++ said (codes "end")) ([]) 0
  unfolding outcome
  class_inherited_twice_runs = refl

  -- The ancestor's fields end before the descendant's, each in order of declaration
  abbrev class_interface_fields : Program
  class_interface_fields = program name
      (Class (class_id 0) ∷ Interface (interface_id 0) ∷ Class (class_id 1) ∷ Class (class_id 2) ∷ Class (class_id 3) ∷ Class (class_id 4) ∷ [])
      (part name 4 ∷ part name 17 ∷ part name 17 ∷ part name 17 ∷ [])
      (row name 21 Plain None ∷ row name 16 ObjectRole None ∷ row name 16 ObjectRole None ∷ row name 19 ObjectRole None ∷ row name 4 (Parameter Value) None ∷ row name 19 ObjectRole None ∷ row name 21 ObjectRole None ∷ [])
      (routine_row name (codes "create") Constructor (OfClass (class_id 0)) 0 None 1 1 ∷ routine_row name (codes "destroy") Destructor (OfClass (class_id 0)) 0 None 2 1 ∷ routine_row name (codes "create") Constructor (OfClass (class_id 2)) 1 None 3 2 ∷ routine_row name (codes "destroy") Destructor (OfClass (class_id 2)) 0 None 5 1 ∷ routine_row name (codes "destroy") Destructor (OfClass (class_id 4)) 0 None 6 1 ∷ [])
      (class_row (codes "TObject") 16 None 0 0 0 2 0 0 ∷ class_row (codes "TInterfacedObject") 18 (Some (class_id 0)) 0 0 2 0 0 1 ∷ class_row (codes "TI") 19 (Some (class_id 1)) 0 1 2 2 1 0 ∷ class_row (codes "TA") 20 (Some (class_id 0)) 1 2 4 0 1 0 ∷ class_row (codes "TB") 21 (Some (class_id 3)) 3 1 4 1 1 0 ∷ [])
      (interface_row (codes "iunknown") 17 None 5 0 ∷ [])
      (method_row 0 Static false ∷ method_row 1 VirtualBinding false ∷ method_row 2 Static false ∷ method_row 3 Override false ∷ method_row 4 Override false ∷ [])
      (interface_id 0 ∷ [])
      (variable_id 0 ∷ [])
      None
      ((listed ([])) ∷
      (listed ([])) ∷
      (listed (
      (assign (dot (obj 3 19) 0 4) (var 4 4)) ∷ [])) ∷
      (listed (
      (built_in (write (plain (quoted (codes "gone ")) ∷ plain (dot (obj 5 19) 0 4) ∷ []) true)) ∷
      (call (then (obj 5 19) (method (routine_id 1) Direct (argued [])) (id 9))) ∷ [])) ∷
      (listed (
      (built_in (write (plain (known (pos 66) 6) ∷ []) true)) ∷
      (call (then (obj 6 21) (method (routine_id 1) Direct (argued [])) (id 9))) ∷
      (built_in (write (plain (quoted (codes "B done")) ∷ []) true)) ∷ [])) ∷
      (listed (
      (assign (var 0 21) (expression (construct (class_id 4) (routine_id 0) (argued [])) (id 21) no_steps)) ∷
      (assign (dot (var 0 21) 3 17) (to ToInterface 17 (expression (construct (class_id 2) (routine_id 2) (argued (value (known (pos 3) 4) ∷ []))) (id 19) no_steps))) ∷
      (assign (dot (var 0 21) 2 17) (to ToInterface 17 (expression (construct (class_id 2) (routine_id 2) (argued (value (known (pos 2) 4) ∷ []))) (id 19) no_steps))) ∷
      (assign (dot (var 0 21) 1 17) (to ToInterface 17 (expression (construct (class_id 2) (routine_id 2) (argued (value (known (pos 1) 4) ∷ []))) (id 19) no_steps))) ∷
      (built_in (free (var 0 21) false)) ∷
      (built_in (write (plain (quoted (codes "end")) ∷ []) true)) ∷ [])) ∷
      [])

  class_interface_fields_runs : outcome 4000 class_interface_fields ([]) ≡ ends_with (makes 32 ∷ makes 32 ∷ makes 32 ∷ makes 32 ∷ frees 4 ∷ frees 3 ∷ frees 2 ∷ frees 1 ∷ []) (said (codes "B") ++ said (codes "B done") ++ said (codes "gone 1") ++ said (codes "gone 2") ++ said (codes "gone 3") ++ said (codes "end")) ([]) 0
  unfolding outcome
  class_interface_fields_runs = refl

  -- is asks for the class or a descendant of it
  abbrev class_is : Program
  class_is = program name
      (Class (class_id 0) ∷ Interface (interface_id 0) ∷ Class (class_id 1) ∷ Class (class_id 2) ∷ Class (class_id 3) ∷ Class (class_id 4) ∷ [])
      []
      (row name 19 Plain None ∷ row name 16 ObjectRole None ∷ row name 16 ObjectRole None ∷ [])
      (routine_row name (codes "create") Constructor (OfClass (class_id 0)) 0 None 1 1 ∷ routine_row name (codes "destroy") Destructor (OfClass (class_id 0)) 0 None 2 1 ∷ routine_row name (codes "p") Procedure OfUnit 0 None 3 0 ∷ [])
      (class_row (codes "TObject") 16 None 0 0 0 2 0 0 ∷ class_row (codes "TInterfacedObject") 18 (Some (class_id 0)) 0 0 2 0 0 1 ∷ class_row (codes "TA") 19 (Some (class_id 0)) 0 0 2 0 1 0 ∷ class_row (codes "TB") 20 (Some (class_id 2)) 0 0 2 0 1 0 ∷ class_row (codes "TC") 21 (Some (class_id 2)) 0 0 2 0 1 0 ∷ [])
      (interface_row (codes "iunknown") 17 None 2 0 ∷ [])
      (method_row 0 Static false ∷ method_row 1 VirtualBinding false ∷ [])
      (interface_id 0 ∷ [])
      (variable_id 0 ∷ [])
      None
      ((listed ([])) ∷
      (listed ([])) ∷
      (listed (
      (built_in (write (plain (then (var 0 19) (is (id 19)) (id 5)) ∷ plain (then (var 0 19) (is (id 20)) (id 5)) ∷ plain (then (var 0 19) (is (id 21)) (id 5)) ∷ plain (then (var 0 19) (is (id 16)) (id 5)) ∷ []) true)) ∷ [])) ∷
      (listed (
      (call (expression (call_of (routine_id 2) (argued [])) (id 9) no_steps)) ∷
      (assign (var 0 19) (expression (construct (class_id 2) (routine_id 0) (argued [])) (id 19) no_steps)) ∷
      (call (expression (call_of (routine_id 2) (argued [])) (id 9) no_steps)) ∷
      (built_in (free (var 0 19) false)) ∷
      (assign (var 0 19) (to Keep 19 (expression (construct (class_id 3) (routine_id 0) (argued [])) (id 20) no_steps))) ∷
      (call (expression (call_of (routine_id 2) (argued [])) (id 9) no_steps)) ∷
      (built_in (free (var 0 19) false)) ∷ [])) ∷
      [])

  class_is_runs : outcome 4000 class_is ([]) ≡ ends_with (makes 16 ∷ frees 1 ∷ makes 16 ∷ frees 2 ∷ []) (said (codes "FALSEFALSEFALSEFALSE") ++ said (codes "TRUEFALSEFALSETRUE") ++ said (codes "TRUETRUEFALSETRUE")) ([]) 0
  unfolding outcome
  class_is_runs = refl

  -- A list of instances that free the rest after them
  abbrev class_list : Program
  class_list = program name
      (Class (class_id 0) ∷ Interface (interface_id 0) ∷ Class (class_id 1) ∷ Class (class_id 2) ∷ [])
      (part name 4 ∷ part name 19 ∷ [])
      (row name 19 Plain None ∷ row name 16 ObjectRole None ∷ row name 16 ObjectRole None ∷ row name 19 ObjectRole None ∷ row name 4 (Parameter Value) None ∷ row name 19 (Parameter Value) None ∷ row name 19 ObjectRole None ∷ [])
      (routine_row name (codes "create") Constructor (OfClass (class_id 0)) 0 None 1 1 ∷ routine_row name (codes "destroy") Destructor (OfClass (class_id 0)) 0 None 2 1 ∷ routine_row name (codes "create") Constructor (OfClass (class_id 2)) 2 None 3 3 ∷ routine_row name (codes "destroy") Destructor (OfClass (class_id 2)) 0 None 6 1 ∷ [])
      (class_row (codes "TObject") 16 None 0 0 0 2 0 0 ∷ class_row (codes "TInterfacedObject") 18 (Some (class_id 0)) 0 0 2 0 0 1 ∷ class_row (codes "TN") 19 (Some (class_id 0)) 0 2 2 2 1 0 ∷ [])
      (interface_row (codes "iunknown") 17 None 4 0 ∷ [])
      (method_row 0 Static false ∷ method_row 1 VirtualBinding false ∷ method_row 2 Static false ∷ method_row 3 Override false ∷ [])
      (interface_id 0 ∷ [])
      (variable_id 0 ∷ [])
      None
      ((listed ([])) ∷
      (listed ([])) ∷
      (listed (
      (assign (dot (obj 3 19) 0 4) (var 4 4)) ∷
      (assign (dot (obj 3 19) 1 19) (var 5 19)) ∷ [])) ∷
      (listed (
      (built_in (write (plain (quoted (codes "free ")) ∷ plain (dot (obj 6 19) 0 4) ∷ []) true)) ∷
      (built_in (free (dot (obj 6 19) 1 19) false)) ∷
      (call (then (obj 6 19) (method (routine_id 1) Direct (argued [])) (id 9))) ∷ [])) ∷
      (listed (
      (assign (var 0 19) (expression (construct (class_id 2) (routine_id 2) (argued (value (known (pos 2) 4) ∷ value (expression (construct (class_id 2) (routine_id 2) (argued (value (known (pos 1) 4) ∷ value (to Keep 19 nothing) ∷ []))) (id 19) no_steps) ∷ []))) (id 19) no_steps)) ∷
      (assign (var 0 19) (expression (construct (class_id 2) (routine_id 2) (argued (value (known (pos 3) 4) ∷ value (var 0 19) ∷ []))) (id 19) no_steps)) ∷
      (built_in (write (plain (dot (dot (dot (var 0 19) 1 19) 1 19) 0 4) ∷ []) true)) ∷
      (built_in (free (var 0 19) false)) ∷ [])) ∷
      [])

  class_list_runs : outcome 4000 class_list ([]) ≡ ends_with (makes 32 ∷ makes 32 ∷ makes 32 ∷ frees 1 ∷ frees 2 ∷ frees 3 ∷ []) (said (codes "1") ++ said (codes "free 3") ++ said (codes "free 2") ++ said (codes "free 1")) ([]) 0
  unfolding outcome
  class_list_runs = refl

  -- Fields that hold texts, arrays and records are emptied when the instance goes
  abbrev class_managed_fields : Program
  class_managed_fields = program name
      (Class (class_id 0) ∷ Interface (interface_id 0) ∷ Class (class_id 1) ∷ Record (rows_at 0 2) ∷ Class (class_id 2) ∷ DynamicArray (id 7) ∷ Subrange (id 4) (pos 0) (pos 1) ∷ Array (id 22) (id 7) ∷ [])
      (part name 7 ∷ part name 4 ∷ part name 7 ∷ part name 21 ∷ part name 19 ∷ part name 23 ∷ [])
      (row name 20 Plain None ∷ row name 7 Plain None ∷ row name 16 ObjectRole None ∷ row name 16 ObjectRole None ∷ [])
      (routine_row name (codes "create") Constructor (OfClass (class_id 0)) 0 None 2 1 ∷ routine_row name (codes "destroy") Destructor (OfClass (class_id 0)) 0 None 3 1 ∷ [])
      (class_row (codes "TObject") 16 None 0 0 0 2 0 0 ∷ class_row (codes "TInterfacedObject") 18 (Some (class_id 0)) 0 0 2 0 0 1 ∷ class_row (codes "TA") 20 (Some (class_id 0)) 2 4 2 0 1 0 ∷ [])
      (interface_row (codes "iunknown") 17 None 2 0 ∷ [])
      (method_row 0 Static false ∷ method_row 1 VirtualBinding false ∷ [])
      (interface_id 0 ∷ [])
      (variable_id 0 ∷ variable_id 1 ∷ [])
      None
      ((listed ([])) ∷
      (listed ([])) ∷
      (listed (
      (assign (var 0 20) (expression (construct (class_id 2) (routine_id 0) (argued [])) (id 20) no_steps)) ∷
      (assign (dot (var 0 20) 2 7) (quoted (codes "ab"))) ∷
      (assign (dot (var 0 20) 2 7) (with_q false 7 (dot (var 0 20) 2 7) Add (quoted (codes "c")))) ∷
      (built_in (set_length (dot (var 0 20) 3 21) (known (pos 2) 4))) ∷
      (assign (at (dot (var 0 20) 3 21) (known (pos 1) 4) 7) (dot (var 0 20) 2 7)) ∷
      (assign (dot (dot (var 0 20) 4 19) 0 7) (with_q false 7 (at (dot (var 0 20) 3 21) (known (pos 1) 4) 7) Add (quoted (codes "d")))) ∷
      (assign (at (dot (var 0 20) 5 23) (known (pos 1) 4) 7) (dot (dot (var 0 20) 4 19) 0 7)) ∷
      (assign (var 1 7) (at (dot (var 0 20) 5 23) (known (pos 1) 4) 7)) ∷
      (built_in (free (var 0 20) false)) ∷
      (built_in (write (plain (var 1 7) ∷ []) true)) ∷ [])) ∷
      [])

  class_managed_fields_runs : outcome 4000 class_managed_fields ([]) ≡ ends_with (makes 48 ∷ asks 32 ∷ asks 32 ∷ asks 32 ∷ frees 2 ∷ frees 3 ∷ frees 1 ∷ frees 4 ∷ []) (said (codes "abcd")) ([]) 0
  unfolding outcome
  class_managed_fields_runs = refl

  -- Methods with parameters of each mode and with results
  abbrev class_methods : Program
  class_methods = program name
      (Class (class_id 0) ∷ Interface (interface_id 0) ∷ Class (class_id 1) ∷ Class (class_id 2) ∷ [])
      (part name 4 ∷ [])
      (row name 19 Plain None ∷ row name 7 Plain None ∷ row name 4 Plain None ∷ row name 16 ObjectRole None ∷ row name 16 ObjectRole None ∷ row name 19 ObjectRole None ∷ row name 4 (Parameter Value) None ∷ row name 19 ObjectRole None ∷ row name 7 (Parameter Const_) None ∷ row name 7 Result None ∷ row name 19 ObjectRole None ∷ row name 7 (Parameter Out) None ∷ row name 4 (Parameter Var) None ∷ [])
      (routine_row name (codes "create") Constructor (OfClass (class_id 0)) 0 None 3 1 ∷ routine_row name (codes "destroy") Destructor (OfClass (class_id 0)) 0 None 4 1 ∷ routine_row name (codes "add") Procedure (OfClass (class_id 2)) 1 None 5 2 ∷ routine_row name (codes "text") FunctionKind (OfClass (class_id 2)) 1 (Some 7) 7 3 ∷ routine_row name (codes "give") Procedure (OfClass (class_id 2)) 2 None 10 3 ∷ [])
      (class_row (codes "TObject") 16 None 0 0 0 2 0 0 ∷ class_row (codes "TInterfacedObject") 18 (Some (class_id 0)) 0 0 2 0 0 1 ∷ class_row (codes "TA") 19 (Some (class_id 0)) 0 1 2 3 1 0 ∷ [])
      (interface_row (codes "iunknown") 17 None 5 0 ∷ [])
      (method_row 0 Static false ∷ method_row 1 VirtualBinding false ∷ method_row 2 Static false ∷ method_row 3 Static false ∷ method_row 4 Static false ∷ [])
      (interface_id 0 ∷ [])
      (variable_id 0 ∷ variable_id 1 ∷ variable_id 2 ∷ [])
      None
      ((listed ([])) ∷
      (listed ([])) ∷
      (listed (
      (assign (dot (obj 5 19) 0 4) (with_q false 4 (dot (obj 5 19) 0 4) Add (var 6 4))) ∷ [])) ∷
      (listed (
      (built_in (str (plain (dot (obj 7 19) 0 4)) (var 9 7))) ∷
      (assign (var 9 7) (with_q false 7 (var 8 7) Add (var 9 7))) ∷ [])) ∷
      (listed (
      (assign (var 11 7) (with_q false 7 (var 11 7) Add (then (obj 10 19) (method (routine_id 3) Direct (argued (value (quoted (codes "g")) ∷ []))) (id 7)))) ∷
      (assign (var 12 4) (with_q false 4 (var 12 4) Add (dot (obj 10 19) 0 4))) ∷ [])) ∷
      (listed (
      (assign (var 0 19) (expression (construct (class_id 2) (routine_id 0) (argued [])) (id 19) no_steps)) ∷
      (call (then (var 0 19) (method (routine_id 2) Direct (argued (value (known (pos 3) 4) ∷ []))) (id 9))) ∷
      (call (then (var 0 19) (method (routine_id 2) Direct (argued (value (known (pos 4) 4) ∷ []))) (id 9))) ∷
      (assign (var 1 7) (quoted (codes "old"))) ∷
      (call (then (var 0 19) (method (routine_id 4) Direct (argued (place (var 1 7) ∷ place (var 2 4) ∷ []))) (id 9))) ∷
      (built_in (write (plain (then (var 0 19) (method (routine_id 3) Direct (argued (value (quoted (codes "n=")) ∷ []))) (id 7)) ∷ plain (var 1 7) ∷ plain (var 2 4) ∷ []) true)) ∷
      (built_in (free (var 0 19) false)) ∷ [])) ∷
      [])

  class_methods_runs : outcome 4000 class_methods ([]) ≡ ends_with (makes 32 ∷ asks 32 ∷ asks 32 ∷ frees 2 ∷ asks 32 ∷ asks 32 ∷ frees 4 ∷ frees 5 ∷ frees 1 ∷ frees 3 ∷ []) (said (codes "n=7g77")) ([]) 0
  unfolding outcome
  class_methods_runs = refl

  -- The name of an instance's class, also within its methods
  abbrev class_name : Program
  class_name = program name
      (Class (class_id 0) ∷ Interface (interface_id 0) ∷ Class (class_id 1) ∷ Class (class_id 2) ∷ Class (class_id 3) ∷ [])
      []
      (row name 19 Plain None ∷ row name 7 Plain None ∷ row name 16 ObjectRole None ∷ row name 16 ObjectRole None ∷ row name 19 ObjectRole None ∷ [])
      (routine_row name (codes "create") Constructor (OfClass (class_id 0)) 0 None 2 1 ∷ routine_row name (codes "destroy") Destructor (OfClass (class_id 0)) 0 None 3 1 ∷ routine_row name (codes "p") Procedure (OfClass (class_id 2)) 0 None 4 1 ∷ [])
      (class_row (codes "TObject") 16 None 0 0 0 2 0 0 ∷ class_row (codes "TInterfacedObject") 18 (Some (class_id 0)) 0 0 2 0 0 1 ∷ class_row (codes "ta") 19 (Some (class_id 0)) 0 0 2 1 1 0 ∷ class_row (codes "tb") 20 (Some (class_id 2)) 0 0 3 0 1 0 ∷ [])
      (interface_row (codes "iunknown") 17 None 3 0 ∷ [])
      (method_row 0 Static false ∷ method_row 1 VirtualBinding false ∷ method_row 2 Static false ∷ [])
      (interface_id 0 ∷ [])
      (variable_id 0 ∷ variable_id 1 ∷ [])
      None
      ((listed ([])) ∷
      (listed ([])) ∷
      (listed (
      (built_in (write (plain (applying ClassName false (obj 4 19) 7) ∷ plain (quoted (codes ".P")) ∷ []) true)) ∷ [])) ∷
      (listed (
      (assign (var 0 19) (to Keep 19 (expression (construct (class_id 3) (routine_id 0) (argued [])) (id 20) no_steps))) ∷
      (call (then (var 0 19) (method (routine_id 2) Direct (argued [])) (id 9))) ∷
      (assign (var 1 7) (applying ClassName false (var 0 19) 7)) ∷
      (assign (at (var 1 7) (known (pos 1) 4) 6) (known (pos 84) 6)) ∷
      (built_in (write (plain (var 1 7) ∷ plain (known (pos 32) 6) ∷ plain (applying ClassName false (var 0 19) 7) ∷ []) true)) ∷
      (built_in (free (var 0 19) false)) ∷ [])) ∷
      [])

  class_name_runs : outcome 4000 class_name ([]) ≡ ends_with (makes 16 ∷ asks 32 ∷ frees 1 ∷ frees 2 ∷ []) (said (codes "tb.P") ++ said (codes "Tb tb")) ([]) 0
  unfolding outcome
  class_name_runs = refl

  -- An instance that nobody frees: its destructor does not run at the end
  abbrev class_never_freed : Program
  class_never_freed = program name
      (Class (class_id 0) ∷ Interface (interface_id 0) ∷ Class (class_id 1) ∷ Class (class_id 2) ∷ [])
      (part name 7 ∷ [])
      (row name 19 Plain None ∷ row name 16 ObjectRole None ∷ row name 16 ObjectRole None ∷ row name 19 ObjectRole None ∷ [])
      (routine_row name (codes "create") Constructor (OfClass (class_id 0)) 0 None 1 1 ∷ routine_row name (codes "destroy") Destructor (OfClass (class_id 0)) 0 None 2 1 ∷ routine_row name (codes "destroy") Destructor (OfClass (class_id 2)) 0 None 3 1 ∷ [])
      (class_row (codes "TObject") 16 None 0 0 0 2 0 0 ∷ class_row (codes "TInterfacedObject") 18 (Some (class_id 0)) 0 0 2 0 0 1 ∷ class_row (codes "TA") 19 (Some (class_id 0)) 0 1 2 1 1 0 ∷ [])
      (interface_row (codes "iunknown") 17 None 3 0 ∷ [])
      (method_row 0 Static false ∷ method_row 1 VirtualBinding false ∷ method_row 2 Override false ∷ [])
      (interface_id 0 ∷ [])
      (variable_id 0 ∷ [])
      None
      ((listed ([])) ∷
      (listed ([])) ∷
      (listed (
      (built_in (write (plain (quoted (codes "never")) ∷ []) true)) ∷
      (call (then (obj 3 19) (method (routine_id 1) Direct (argued [])) (id 9))) ∷ [])) ∷
      (listed (
      (assign (var 0 19) (expression (construct (class_id 2) (routine_id 0) (argued [])) (id 19) no_steps)) ∷
      (assign (dot (var 0 19) 0 7) (quoted (codes "x"))) ∷
      (assign (dot (var 0 19) 0 7) (with_q false 7 (dot (var 0 19) 0 7) Add (quoted (codes "y")))) ∷
      (built_in (write (plain (dot (var 0 19) 0 7) ∷ []) true)) ∷
      (assign (var 0 19) (to Keep 19 nothing)) ∷
      (built_in (write (plain (quoted (codes "end")) ∷ []) true)) ∷ [])) ∷
      [])

  class_never_freed_runs : outcome 4000 class_never_freed ([]) ≡ ends_with (makes 32 ∷ asks 32 ∷ []) (said (codes "xy") ++ said (codes "end")) ([]) 0
  unfolding outcome
  class_never_freed_runs = refl

  -- A field of nil
  abbrev class_nil_field : Program
  class_nil_field = program name
      (Class (class_id 0) ∷ Interface (interface_id 0) ∷ Class (class_id 1) ∷ Class (class_id 2) ∷ [])
      (part name 4 ∷ [])
      (row name 19 Plain None ∷ row name 16 ObjectRole None ∷ row name 16 ObjectRole None ∷ [])
      (routine_row name (codes "create") Constructor (OfClass (class_id 0)) 0 None 1 1 ∷ routine_row name (codes "destroy") Destructor (OfClass (class_id 0)) 0 None 2 1 ∷ [])
      (class_row (codes "TObject") 16 None 0 0 0 2 0 0 ∷ class_row (codes "TInterfacedObject") 18 (Some (class_id 0)) 0 0 2 0 0 1 ∷ class_row (codes "TA") 19 (Some (class_id 0)) 0 1 2 0 1 0 ∷ [])
      (interface_row (codes "iunknown") 17 None 2 0 ∷ [])
      (method_row 0 Static false ∷ method_row 1 VirtualBinding false ∷ [])
      (interface_id 0 ∷ [])
      (variable_id 0 ∷ [])
      None
      ((listed ([])) ∷
      (listed ([])) ∷
      (listed (
      (built_in (write (plain (with_q false 5 (var 0 19) Equal (to Keep 19 nothing)) ∷ []) true)) ∷
      (built_in (write (plain (dot (var 0 19) 0 4) ∷ []) true)) ∷ [])) ∷
      [])

  class_nil_field_runs : outcome 4000 class_nil_field ([]) ≡ ends_with [] (said (codes "TRUE")) (said (codes "Runtime error 216")) 216
  unfolding outcome
  class_nil_field_runs = refl

  -- A static method of nil, though its body uses no field
  abbrev class_nil_method : Program
  class_nil_method = program name
      (Class (class_id 0) ∷ Interface (interface_id 0) ∷ Class (class_id 1) ∷ Class (class_id 2) ∷ [])
      []
      (row name 19 Plain None ∷ row name 16 ObjectRole None ∷ row name 16 ObjectRole None ∷ row name 19 ObjectRole None ∷ [])
      (routine_row name (codes "create") Constructor (OfClass (class_id 0)) 0 None 1 1 ∷ routine_row name (codes "destroy") Destructor (OfClass (class_id 0)) 0 None 2 1 ∷ routine_row name (codes "p") Procedure (OfClass (class_id 2)) 0 None 3 1 ∷ [])
      (class_row (codes "TObject") 16 None 0 0 0 2 0 0 ∷ class_row (codes "TInterfacedObject") 18 (Some (class_id 0)) 0 0 2 0 0 1 ∷ class_row (codes "TA") 19 (Some (class_id 0)) 0 0 2 1 1 0 ∷ [])
      (interface_row (codes "iunknown") 17 None 3 0 ∷ [])
      (method_row 0 Static false ∷ method_row 1 VirtualBinding false ∷ method_row 2 Static false ∷ [])
      (interface_id 0 ∷ [])
      (variable_id 0 ∷ [])
      None
      ((listed ([])) ∷
      (listed ([])) ∷
      (listed (
      (built_in (write (plain (quoted (codes "never")) ∷ []) true)) ∷ [])) ∷
      (listed (
      (built_in (write (plain (quoted (codes "before")) ∷ []) true)) ∷
      (call (then (var 0 19) (method (routine_id 2) Direct (argued [])) (id 9))) ∷ [])) ∷
      [])

  class_nil_method_runs : outcome 4000 class_nil_method ([]) ≡ ends_with [] (said (codes "before")) (said (codes "Runtime error 216")) 216
  unfolding outcome
  class_nil_method_runs = refl

  -- A store to a field of nil: the right side runs first
  abbrev class_nil_store : Program
  class_nil_store = program name
      (Class (class_id 0) ∷ Interface (interface_id 0) ∷ Class (class_id 1) ∷ Class (class_id 2) ∷ [])
      (part name 7 ∷ [])
      (row name 19 Plain None ∷ row name 16 ObjectRole None ∷ row name 16 ObjectRole None ∷ row name 7 Result None ∷ [])
      (routine_row name (codes "create") Constructor (OfClass (class_id 0)) 0 None 1 1 ∷ routine_row name (codes "destroy") Destructor (OfClass (class_id 0)) 0 None 2 1 ∷ routine_row name (codes "f") FunctionKind OfUnit 0 (Some 7) 3 1 ∷ [])
      (class_row (codes "TObject") 16 None 0 0 0 2 0 0 ∷ class_row (codes "TInterfacedObject") 18 (Some (class_id 0)) 0 0 2 0 0 1 ∷ class_row (codes "TA") 19 (Some (class_id 0)) 0 1 2 0 1 0 ∷ [])
      (interface_row (codes "iunknown") 17 None 2 0 ∷ [])
      (method_row 0 Static false ∷ method_row 1 VirtualBinding false ∷ [])
      (interface_id 0 ∷ [])
      (variable_id 0 ∷ [])
      None
      ((listed ([])) ∷
      (listed ([])) ∷
      (listed (
      (built_in (write (plain (quoted (codes "right")) ∷ []) true)) ∷
      (assign (var 3 7) (quoted (codes "x"))) ∷ [])) ∷
      (listed (
      (assign (dot (var 0 19) 0 7) (expression (call_of (routine_id 2) (argued [])) (id 7) no_steps)) ∷
      (built_in (write (plain (quoted (codes "never")) ∷ []) true)) ∷ [])) ∷
      [])

  class_nil_store_runs : outcome 4000 class_nil_store ([]) ≡ ends_with [] (said (codes "right")) (said (codes "Runtime error 216")) 216
  unfolding outcome
  class_nil_store_runs = refl

  -- A virtual method of nil: its arguments run first
  abbrev class_nil_virtual : Program
  class_nil_virtual = program name
      (Class (class_id 0) ∷ Interface (interface_id 0) ∷ Class (class_id 1) ∷ Class (class_id 2) ∷ [])
      []
      (row name 19 Plain None ∷ row name 16 ObjectRole None ∷ row name 16 ObjectRole None ∷ row name 19 ObjectRole None ∷ row name 4 (Parameter Value) None ∷ row name 4 Result None ∷ [])
      (routine_row name (codes "create") Constructor (OfClass (class_id 0)) 0 None 1 1 ∷ routine_row name (codes "destroy") Destructor (OfClass (class_id 0)) 0 None 2 1 ∷ routine_row name (codes "p") Procedure (OfClass (class_id 2)) 1 None 3 2 ∷ routine_row name (codes "f") FunctionKind OfUnit 0 (Some 4) 5 1 ∷ [])
      (class_row (codes "TObject") 16 None 0 0 0 2 0 0 ∷ class_row (codes "TInterfacedObject") 18 (Some (class_id 0)) 0 0 2 0 0 1 ∷ class_row (codes "TA") 19 (Some (class_id 0)) 0 0 2 1 1 0 ∷ [])
      (interface_row (codes "iunknown") 17 None 3 0 ∷ [])
      (method_row 0 Static false ∷ method_row 1 VirtualBinding false ∷ method_row 2 VirtualBinding false ∷ [])
      (interface_id 0 ∷ [])
      (variable_id 0 ∷ [])
      None
      ((listed ([])) ∷
      (listed ([])) ∷
      (listed (
      (built_in (write (plain (quoted (codes "never")) ∷ []) true)) ∷ [])) ∷
      (listed (
      (built_in (write (plain (quoted (codes "argument")) ∷ []) true)) ∷
      (assign (var 5 4) (known (pos 1) 4)) ∷ [])) ∷
      (listed (
      (call (then (var 0 19) (method (routine_id 2) Virtual (argued (value (expression (call_of (routine_id 3) (argued [])) (id 4) no_steps) ∷ []))) (id 9))) ∷ [])) ∷
      [])

  class_nil_virtual_runs : outcome 4000 class_nil_virtual ([]) ≡ ends_with [] (said (codes "argument")) (said (codes "Runtime error 216")) 216
  unfolding outcome
  class_nil_virtual_runs = refl

  -- A parameter and a local hide a field, Self shows it
  abbrev class_own_names : Program
  class_own_names = program name
      (Class (class_id 0) ∷ Interface (interface_id 0) ∷ Class (class_id 1) ∷ Class (class_id 2) ∷ [])
      (part name 4 ∷ part name 4 ∷ [])
      (row name 19 Plain None ∷ row name 16 ObjectRole None ∷ row name 16 ObjectRole None ∷ row name 19 ObjectRole None ∷ row name 4 (Parameter Value) None ∷ row name 4 Plain None ∷ [])
      (routine_row name (codes "create") Constructor (OfClass (class_id 0)) 0 None 1 1 ∷ routine_row name (codes "destroy") Destructor (OfClass (class_id 0)) 0 None 2 1 ∷ routine_row name (codes "p") Procedure (OfClass (class_id 2)) 1 None 3 3 ∷ [])
      (class_row (codes "TObject") 16 None 0 0 0 2 0 0 ∷ class_row (codes "TInterfacedObject") 18 (Some (class_id 0)) 0 0 2 0 0 1 ∷ class_row (codes "TA") 19 (Some (class_id 0)) 0 2 2 1 1 0 ∷ [])
      (interface_row (codes "iunknown") 17 None 3 0 ∷ [])
      (method_row 0 Static false ∷ method_row 1 VirtualBinding false ∷ method_row 2 Static false ∷ [])
      (interface_id 0 ∷ [])
      (variable_id 0 ∷ [])
      None
      ((listed ([])) ∷
      (listed ([])) ∷
      (listed (
      (assign (var 5 4) (with_q false 4 (var 4 4) Add (known (pos 1) 4))) ∷
      (assign (dot (obj 3 19) 0 4) (with_q false 4 (var 4 4) Multiply (known (pos 2) 4))) ∷
      (assign (dot (obj 3 19) 1 4) (with_q false 4 (dot (obj 3 19) 0 4) Add (var 5 4))) ∷
      (built_in (write (plain (var 4 4) ∷ plain (var 5 4) ∷ plain (dot (obj 3 19) 0 4) ∷ plain (dot (obj 3 19) 1 4) ∷ []) true)) ∷ [])) ∷
      (listed (
      (assign (var 0 19) (expression (construct (class_id 2) (routine_id 0) (argued [])) (id 19) no_steps)) ∷
      (call (then (var 0 19) (method (routine_id 2) Direct (argued (value (known (pos 2) 4) ∷ []))) (id 9))) ∷
      (built_in (write (plain (dot (var 0 19) 0 4) ∷ plain (dot (var 0 19) 1 4) ∷ []) true)) ∷
      (built_in (free (var 0 19) false)) ∷ [])) ∷
      [])

  class_own_names_runs : outcome 4000 class_own_names ([]) ≡ ends_with (makes 32 ∷ frees 1 ∷ []) (said (codes "2347") ++ said (codes "47")) ([]) 0
  unfolding outcome
  class_own_names_runs = refl

  -- Properties that are fields: whole, indexed, and as elements of an array
  abbrev class_property_field : Program
  class_property_field = program name
      (Class (class_id 0) ∷ Interface (interface_id 0) ∷ Class (class_id 1) ∷ DynamicArray (id 4) ∷ Class (class_id 2) ∷ [])
      (part name 7 ∷ part name 19 ∷ [])
      (row name 20 Plain None ∷ row name 19 Plain None ∷ row name 16 ObjectRole None ∷ row name 16 ObjectRole None ∷ [])
      (routine_row name (codes "create") Constructor (OfClass (class_id 0)) 0 None 2 1 ∷ routine_row name (codes "destroy") Destructor (OfClass (class_id 0)) 0 None 3 1 ∷ [])
      (class_row (codes "TObject") 16 None 0 0 0 2 0 0 ∷ class_row (codes "TInterfacedObject") 18 (Some (class_id 0)) 0 0 2 0 0 1 ∷ class_row (codes "TA") 20 (Some (class_id 0)) 0 2 2 0 1 0 ∷ [])
      (interface_row (codes "iunknown") 17 None 2 0 ∷ [])
      (method_row 0 Static false ∷ method_row 1 VirtualBinding false ∷ [])
      (interface_id 0 ∷ [])
      (variable_id 0 ∷ variable_id 1 ∷ [])
      None
      ((listed ([])) ∷
      (listed ([])) ∷
      (listed (
      (assign (var 0 20) (expression (construct (class_id 2) (routine_id 0) (argued [])) (id 20) no_steps)) ∷
      (assign (dot (var 0 20) 0 7) (quoted (codes "abc"))) ∷
      (built_in (set_length (var 1 19) (known (pos 2) 4))) ∷
      (assign (dot (var 0 20) 1 19) (var 1 19)) ∷
      (assign (at (dot (var 0 20) 1 19) (known (pos 1) 4) 4) (known (pos 6) 4)) ∷
      (built_in (write (plain (dot (var 0 20) 0 7) ∷ plain (at (dot (var 0 20) 0 7) (known (pos 2) 4) 6) ∷ plain (applying Length false (dot (var 0 20) 0 7) 4) ∷ plain (applying Length false (dot (var 0 20) 1 19) 4) ∷ plain (at (var 1 19) (known (pos 1) 4) 4) ∷ []) true)) ∷
      (built_in (free (var 0 20) false)) ∷ [])) ∷
      [])

  class_property_field_runs : outcome 4000 class_property_field ([]) ≡ ends_with (makes 32 ∷ asks 32 ∷ frees 1 ∷ frees 2 ∷ []) (said (codes "abcb326")) ([]) 0
  unfolding outcome
  class_property_field_runs = refl

  -- Properties that are methods, read and write
  abbrev class_property_method : Program
  class_property_method = program name
      (Class (class_id 0) ∷ Interface (interface_id 0) ∷ Class (class_id 1) ∷ Class (class_id 2) ∷ [])
      (part name 7 ∷ [])
      (row name 19 Plain None ∷ row name 16 ObjectRole None ∷ row name 16 ObjectRole None ∷ row name 19 ObjectRole None ∷ row name 7 Result None ∷ row name 19 ObjectRole None ∷ row name 7 (Parameter Const_) None ∷ [])
      (routine_row name (codes "create") Constructor (OfClass (class_id 0)) 0 None 1 1 ∷ routine_row name (codes "destroy") Destructor (OfClass (class_id 0)) 0 None 2 1 ∷ routine_row name (codes "gets") FunctionKind (OfClass (class_id 2)) 0 (Some 7) 3 2 ∷ routine_row name (codes "sets") Procedure (OfClass (class_id 2)) 1 None 5 2 ∷ [])
      (class_row (codes "TObject") 16 None 0 0 0 2 0 0 ∷ class_row (codes "TInterfacedObject") 18 (Some (class_id 0)) 0 0 2 0 0 1 ∷ class_row (codes "TA") 19 (Some (class_id 0)) 0 1 2 2 1 0 ∷ [])
      (interface_row (codes "iunknown") 17 None 4 0 ∷ [])
      (method_row 0 Static false ∷ method_row 1 VirtualBinding false ∷ method_row 2 Static false ∷ method_row 3 Static false ∷ [])
      (interface_id 0 ∷ [])
      (variable_id 0 ∷ [])
      None
      ((listed ([])) ∷
      (listed ([])) ∷
      (listed (
      (built_in (write (plain (quoted (codes "get ")) ∷ []) false)) ∷
      (assign (var 4 7) (with_q false 7 (with_q false 7 (quoted (codes "<")) Add (dot (obj 3 19) 0 7)) Add (quoted (codes ">")))) ∷ [])) ∷
      (listed (
      (built_in (write (plain (quoted (codes "set ")) ∷ plain (var 6 7) ∷ []) true)) ∷
      (assign (dot (obj 5 19) 0 7) (with_q false 7 (dot (obj 5 19) 0 7) Add (var 6 7))) ∷ [])) ∷
      (listed (
      (assign (var 0 19) (expression (construct (class_id 2) (routine_id 0) (argued [])) (id 19) no_steps)) ∷
      (assign (then (var 0 19) (method (routine_id 3) Direct no_arguments) (id 7)) (quoted (codes "x"))) ∷
      (assign (then (var 0 19) (method (routine_id 3) Direct no_arguments) (id 7)) (with_q false 7 (then (var 0 19) (method (routine_id 2) Direct (argued [])) (id 7)) Add (quoted (codes "y")))) ∷
      (built_in (write (plain (then (var 0 19) (method (routine_id 2) Direct (argued [])) (id 7)) ∷ plain (dot (var 0 19) 0 7) ∷ plain (at (then (var 0 19) (method (routine_id 2) Direct (argued [])) (id 7)) (known (pos 2) 4) 6) ∷ plain (applying Length false (then (var 0 19) (method (routine_id 2) Direct (argued [])) (id 7)) 4) ∷ []) true)) ∷
      (built_in (free (var 0 19) false)) ∷ [])) ∷
      [])

  class_property_method_runs : outcome 4000 class_property_method ([]) ≡ ends_with (makes 32 ∷ asks 32 ∷ asks 32 ∷ frees 2 ∷ asks 32 ∷ asks 32 ∷ frees 4 ∷ frees 3 ∷ asks 32 ∷ asks 32 ∷ frees 6 ∷ asks 32 ∷ asks 32 ∷ frees 8 ∷ asks 32 ∷ asks 32 ∷ frees 10 ∷ frees 11 ∷ frees 9 ∷ frees 7 ∷ frees 5 ∷ frees 1 ∷ []) (said (codes "set x") ++ said (codes "get set <x>y") ++ said (codes "get <x<x>y>x<x>yget xget 7")) ([]) 0
  unfolding outcome
  class_property_method_runs = refl

  -- A property that is a method: the right side runs first, then the receiver
  abbrev class_property_order : Program
  class_property_order = program name
      (Class (class_id 0) ∷ Interface (interface_id 0) ∷ Class (class_id 1) ∷ Class (class_id 2) ∷ [])
      []
      (row name 19 Plain None ∷ row name 16 ObjectRole None ∷ row name 16 ObjectRole None ∷ row name 19 ObjectRole None ∷ row name 4 (Parameter Value) None ∷ row name 19 Result None ∷ row name 4 Result None ∷ [])
      (routine_row name (codes "create") Constructor (OfClass (class_id 0)) 0 None 1 1 ∷ routine_row name (codes "destroy") Destructor (OfClass (class_id 0)) 0 None 2 1 ∷ routine_row name (codes "setn") Procedure (OfClass (class_id 2)) 1 None 3 2 ∷ routine_row name (codes "who") FunctionKind OfUnit 0 (Some 19) 5 1 ∷ routine_row name (codes "what") FunctionKind OfUnit 0 (Some 4) 6 1 ∷ [])
      (class_row (codes "TObject") 16 None 0 0 0 2 0 0 ∷ class_row (codes "TInterfacedObject") 18 (Some (class_id 0)) 0 0 2 0 0 1 ∷ class_row (codes "TA") 19 (Some (class_id 0)) 0 0 2 1 1 0 ∷ [])
      (interface_row (codes "iunknown") 17 None 3 0 ∷ [])
      (method_row 0 Static false ∷ method_row 1 VirtualBinding false ∷ method_row 2 Static false ∷ [])
      (interface_id 0 ∷ [])
      (variable_id 0 ∷ [])
      None
      ((listed ([])) ∷
      (listed ([])) ∷
      (listed (
      (built_in (write (plain (quoted (codes "set ")) ∷ plain (var 4 4) ∷ []) true)) ∷ [])) ∷
      (listed (
      (built_in (write (plain (quoted (codes "who ")) ∷ []) false)) ∷
      (assign (var 5 19) (var 0 19)) ∷ [])) ∷
      (listed (
      (built_in (write (plain (quoted (codes "what ")) ∷ []) false)) ∷
      (assign (var 6 4) (known (pos 3) 4)) ∷ [])) ∷
      (listed (
      (assign (var 0 19) (expression (construct (class_id 2) (routine_id 0) (argued [])) (id 19) no_steps)) ∷
      (assign (then (expression (call_of (routine_id 3) (argued [])) (id 19) no_steps) (method (routine_id 2) Direct no_arguments) (id 4)) (expression (call_of (routine_id 4) (argued [])) (id 4) no_steps)) ∷
      (built_in (free (var 0 19) false)) ∷ [])) ∷
      [])

  class_property_order_runs : outcome 4000 class_property_order ([]) ≡ ends_with (makes 16 ∷ frees 1 ∷ []) (said (codes "what who set 3")) ([]) 0
  unfolding outcome
  class_property_order_runs = refl

  -- A property of the ancestor whose reader the descendant overrides
  abbrev class_property_override : Program
  class_property_override = program name
      (Class (class_id 0) ∷ Interface (interface_id 0) ∷ Class (class_id 1) ∷ Class (class_id 2) ∷ Class (class_id 3) ∷ [])
      (part name 4 ∷ [])
      (row name 19 Plain None ∷ row name 16 ObjectRole None ∷ row name 16 ObjectRole None ∷ row name 19 ObjectRole None ∷ row name 4 Result None ∷ row name 20 ObjectRole None ∷ row name 4 Result None ∷ [])
      (routine_row name (codes "create") Constructor (OfClass (class_id 0)) 0 None 1 1 ∷ routine_row name (codes "destroy") Destructor (OfClass (class_id 0)) 0 None 2 1 ∷ routine_row name (codes "get") FunctionKind (OfClass (class_id 2)) 0 (Some 4) 3 2 ∷ routine_row name (codes "get") FunctionKind (OfClass (class_id 3)) 0 (Some 4) 5 2 ∷ [])
      (class_row (codes "TObject") 16 None 0 0 0 2 0 0 ∷ class_row (codes "TInterfacedObject") 18 (Some (class_id 0)) 0 0 2 0 0 1 ∷ class_row (codes "TA") 19 (Some (class_id 0)) 0 1 2 1 1 0 ∷ class_row (codes "TB") 20 (Some (class_id 2)) 1 0 3 1 1 0 ∷ [])
      (interface_row (codes "iunknown") 17 None 4 0 ∷ [])
      (method_row 0 Static false ∷ method_row 1 VirtualBinding false ∷ method_row 2 VirtualBinding false ∷ method_row 3 Override false ∷ [])
      (interface_id 0 ∷ [])
      (variable_id 0 ∷ [])
      None
      ((listed ([])) ∷
      (listed ([])) ∷
      (listed (
      (assign (var 4 4) (dot (obj 3 19) 0 4)) ∷ [])) ∷
      (listed (
      (assign (var 6 4) (with_q false 4 (then (obj 5 20) (method (routine_id 2) Direct (argued [])) (id 4)) Multiply (known (pos 2) 4))) ∷ [])) ∷
      (listed (
      (assign (var 0 19) (to Keep 19 (expression (construct (class_id 3) (routine_id 0) (argued [])) (id 20) no_steps))) ∷
      (assign (dot (var 0 19) 0 4) (known (pos 7) 4)) ∷
      (assign (dot (var 0 19) 0 4) (with_q false 4 (then (var 0 19) (method (routine_id 2) Virtual (argued [])) (id 4)) Add (known (pos 1) 4))) ∷
      (built_in (write (plain (then (var 0 19) (method (routine_id 2) Virtual (argued [])) (id 4)) ∷ []) true)) ∷
      (built_in (free (var 0 19) false)) ∷ [])) ∷
      [])

  class_property_override_runs : outcome 4000 class_property_override ([]) ≡ ends_with (makes 32 ∷ frees 1 ∷ []) (said (codes "30")) ([]) 0
  unfolding outcome
  class_property_override_runs = refl

  -- The receiver of a property and of a method is found first; an argument frees it.
  abbrev class_property_receiver : Program
  class_property_receiver = program name
      (Class (class_id 0) ∷ Interface (interface_id 0) ∷ Class (class_id 1) ∷ Class (class_id 2) ∷ [])
      (part name 4 ∷ [])
      (row name 19 Plain None ∷ row name 16 ObjectRole None ∷ row name 16 ObjectRole None ∷ row name 19 ObjectRole None ∷ row name 4 (Parameter Value) None ∷ row name 19 ObjectRole None ∷ row name 4 Result None ∷ row name 19 ObjectRole None ∷ row name 4 (Parameter Value) None ∷ row name 19 Result None ∷ row name 4 Result None ∷ [])
      (routine_row name (codes "create") Constructor (OfClass (class_id 0)) 0 None 1 1 ∷ routine_row name (codes "destroy") Destructor (OfClass (class_id 0)) 0 None 2 1 ∷ routine_row name (codes "setf") Procedure (OfClass (class_id 2)) 1 None 3 2 ∷ routine_row name (codes "getf") FunctionKind (OfClass (class_id 2)) 0 (Some 4) 5 2 ∷ routine_row name (codes "m") Procedure (OfClass (class_id 2)) 1 None 7 2 ∷ routine_row name (codes "r") FunctionKind OfUnit 0 (Some 19) 9 1 ∷ routine_row name (codes "n") FunctionKind OfUnit 0 (Some 4) 10 1 ∷ [])
      (class_row (codes "TObject") 16 None 0 0 0 2 0 0 ∷ class_row (codes "TInterfacedObject") 18 (Some (class_id 0)) 0 0 2 0 0 1 ∷ class_row (codes "A") 19 (Some (class_id 0)) 0 1 2 3 1 0 ∷ [])
      (interface_row (codes "iunknown") 17 None 5 0 ∷ [])
      (method_row 0 Static false ∷ method_row 1 VirtualBinding false ∷ method_row 2 Static false ∷ method_row 3 Static false ∷ method_row 4 Static false ∷ [])
      (interface_id 0 ∷ [])
      (variable_id 0 ∷ [])
      None
      ((listed ([])) ∷
      (listed ([])) ∷
      (listed (
      (built_in (write (plain (quoted (codes "set")) ∷ plain (var 4 4) ∷ []) true)) ∷
      (assign (dot (obj 3 19) 0 4) (var 4 4)) ∷ [])) ∷
      (listed (
      (built_in (write (plain (quoted (codes "get")) ∷ []) true)) ∷
      (assign (var 6 4) (dot (obj 5 19) 0 4)) ∷ [])) ∷
      (listed (
      (built_in (write (plain (known (pos 109) 6) ∷ plain (var 8 4) ∷ []) true)) ∷ [])) ∷
      (listed (
      (built_in (write (plain (known (pos 114) 6) ∷ []) true)) ∷
      (assign (var 9 19) (var 0 19)) ∷ [])) ∷
      (listed (
      (built_in (write (plain (known (pos 110) 6) ∷ []) true)) ∷
      (built_in (free (var 0 19) false)) ∷
      (assign (var 10 4) (known (pos 7) 4)) ∷ [])) ∷
      (listed (
      (assign (var 0 19) (expression (construct (class_id 2) (routine_id 0) (argued [])) (id 19) no_steps)) ∷
      (assign (then (expression (call_of (routine_id 5) (argued [])) (id 19) no_steps) (method (routine_id 2) Direct no_arguments) (id 4)) (with_q false 4 (then (expression (call_of (routine_id 5) (argued [])) (id 19) no_steps) (method (routine_id 3) Direct (argued [])) (id 4)) Add (known (pos 1) 4))) ∷
      (call (then (expression (call_of (routine_id 5) (argued [])) (id 19) no_steps) (method (routine_id 4) Direct (argued (value (then (expression (call_of (routine_id 5) (argued [])) (id 19) no_steps) (method (routine_id 3) Direct (argued [])) (id 4)) ∷ []))) (id 9))) ∷
      (built_in (free (var 0 19) true)) ∷
      (built_in (free (var 0 19) false)) ∷
      (assign (var 0 19) (expression (construct (class_id 2) (routine_id 0) (argued [])) (id 19) no_steps)) ∷
      (call (then (expression (call_of (routine_id 5) (argued [])) (id 19) no_steps) (method (routine_id 4) Direct (argued (value (expression (call_of (routine_id 6) (argued [])) (id 4) no_steps) ∷ []))) (id 9))) ∷ [])) ∷
      [])

  class_property_receiver_runs : outcome 4000 class_property_receiver ([]) ≡ ends_with (makes 32 ∷ frees 1 ∷ makes 32 ∷ frees 2 ∷ []) (said (codes "r") ++ said (codes "get") ++ said (codes "r") ++ said (codes "set1") ++ said (codes "r") ++ said (codes "r") ++ said (codes "get") ++ said (codes "m1") ++ said (codes "r") ++ said (codes "n")) (said (codes "Runtime error 216")) 216
  unfolding outcome
  class_property_receiver_runs = refl

  -- Two variables refer to one instance, comparing looks at the instance
  abbrev class_references : Program
  class_references = program name
      (Class (class_id 0) ∷ Interface (interface_id 0) ∷ Class (class_id 1) ∷ Class (class_id 2) ∷ [])
      (part name 4 ∷ [])
      (row name 19 Plain None ∷ row name 19 Plain None ∷ row name 19 Plain None ∷ row name 16 ObjectRole None ∷ row name 16 ObjectRole None ∷ [])
      (routine_row name (codes "create") Constructor (OfClass (class_id 0)) 0 None 3 1 ∷ routine_row name (codes "destroy") Destructor (OfClass (class_id 0)) 0 None 4 1 ∷ [])
      (class_row (codes "TObject") 16 None 0 0 0 2 0 0 ∷ class_row (codes "TInterfacedObject") 18 (Some (class_id 0)) 0 0 2 0 0 1 ∷ class_row (codes "TA") 19 (Some (class_id 0)) 0 1 2 0 1 0 ∷ [])
      (interface_row (codes "iunknown") 17 None 2 0 ∷ [])
      (method_row 0 Static false ∷ method_row 1 VirtualBinding false ∷ [])
      (interface_id 0 ∷ [])
      (variable_id 0 ∷ variable_id 1 ∷ variable_id 2 ∷ [])
      None
      ((listed ([])) ∷
      (listed ([])) ∷
      (listed (
      (assign (var 0 19) (expression (construct (class_id 2) (routine_id 0) (argued [])) (id 19) no_steps)) ∷
      (assign (var 1 19) (var 0 19)) ∷
      (assign (var 2 19) (expression (construct (class_id 2) (routine_id 0) (argued [])) (id 19) no_steps)) ∷
      (assign (dot (var 1 19) 0 4) (known (pos 5) 4)) ∷
      (built_in (write (plain (dot (var 0 19) 0 4) ∷ plain (with_q false 5 (var 0 19) Equal (var 1 19)) ∷ plain (with_q false 5 (var 0 19) Equal (var 2 19)) ∷ plain (with_q false 5 (var 0 19) NotEqual (to Keep 19 nothing)) ∷ plain (dot (var 2 19) 0 4) ∷ []) true)) ∷
      (built_in (free (var 0 19) false)) ∷
      (built_in (free (var 2 19) false)) ∷ [])) ∷
      [])

  class_references_runs : outcome 4000 class_references ([]) ≡ ends_with (makes 32 ∷ makes 32 ∷ frees 1 ∷ frees 2 ∷ []) (said (codes "5TRUEFALSETRUE0")) ([]) 0
  unfolding outcome
  class_references_runs = refl

  -- A function gives an instance, whose method is called at once
  abbrev class_result : Program
  class_result = program name
      (Class (class_id 0) ∷ Interface (interface_id 0) ∷ Class (class_id 1) ∷ Class (class_id 2) ∷ [])
      (part name 4 ∷ [])
      (row name 19 Plain None ∷ row name 16 ObjectRole None ∷ row name 16 ObjectRole None ∷ row name 19 ObjectRole None ∷ row name 19 Result None ∷ row name 19 Result None ∷ [])
      (routine_row name (codes "create") Constructor (OfClass (class_id 0)) 0 None 1 1 ∷ routine_row name (codes "destroy") Destructor (OfClass (class_id 0)) 0 None 2 1 ∷ routine_row name (codes "next") FunctionKind (OfClass (class_id 2)) 0 (Some 19) 3 2 ∷ routine_row name (codes "get") FunctionKind OfUnit 0 (Some 19) 5 1 ∷ [])
      (class_row (codes "TObject") 16 None 0 0 0 2 0 0 ∷ class_row (codes "TInterfacedObject") 18 (Some (class_id 0)) 0 0 2 0 0 1 ∷ class_row (codes "TA") 19 (Some (class_id 0)) 0 1 2 1 1 0 ∷ [])
      (interface_row (codes "iunknown") 17 None 3 0 ∷ [])
      (method_row 0 Static false ∷ method_row 1 VirtualBinding false ∷ method_row 2 Static false ∷ [])
      (interface_id 0 ∷ [])
      (variable_id 0 ∷ [])
      None
      ((listed ([])) ∷
      (listed ([])) ∷
      (listed (
      (assign (dot (obj 3 19) 0 4) (with_q false 4 (dot (obj 3 19) 0 4) Add (known (pos 1) 4))) ∷
      (assign (var 4 19) (obj 3 19)) ∷ [])) ∷
      (listed (
      (if_then (with_q false 5 (var 0 19) Equal (to Keep 19 nothing)) (assign (var 0 19) (expression (construct (class_id 2) (routine_id 0) (argued [])) (id 19) no_steps))) ∷
      (assign (var 5 19) (var 0 19)) ∷ [])) ∷
      (listed (
      (built_in (write (plain (dot (then (then (expression (call_of (routine_id 3) (argued [])) (id 19) no_steps) (method (routine_id 2) Direct (argued [])) (id 19)) (method (routine_id 2) Direct (argued [])) (id 19)) 0 4) ∷ []) true)) ∷
      (assign (dot (expression (call_of (routine_id 3) (argued [])) (id 19) no_steps) 0 4) (known (pos 10) 4)) ∷
      (built_in (write (plain (dot (then (expression (call_of (routine_id 3) (argued [])) (id 19) no_steps) (method (routine_id 2) Direct (argued [])) (id 19)) 0 4) ∷ []) true)) ∷
      (built_in (free (expression (call_of (routine_id 3) (argued [])) (id 19) no_steps) false)) ∷ [])) ∷
      [])

  class_result_runs : outcome 4000 class_result ([]) ≡ ends_with (makes 32 ∷ frees 1 ∷ []) (said (codes "2") ++ said (codes "11")) ([]) 0
  unfolding outcome
  class_result_runs = refl

  -- A field of a destroyed object gets a text in a destructor that its end runs.
  abbrev class_resurrected_field : Program
  class_resurrected_field = program name
      (Class (class_id 0) ∷ Interface (interface_id 0) ∷ Class (class_id 1) ∷ Interface (interface_id 1) ∷ Class (class_id 2) ∷ Class (class_id 3) ∷ [])
      (part name 7 ∷ part name 19 ∷ part name 20 ∷ [])
      (row name 20 Plain None ∷ row name 21 Plain None ∷ row name 16 ObjectRole None ∷ row name 16 ObjectRole None ∷ row name 21 ObjectRole None ∷ [])
      (routine_row name (codes "create") Constructor (OfClass (class_id 0)) 0 None 2 1 ∷ routine_row name (codes "destroy") Destructor (OfClass (class_id 0)) 0 None 3 1 ∷ routine_row name (codes "destroy") Destructor (OfClass (class_id 3)) 0 None 4 1 ∷ [])
      (class_row (codes "TObject") 16 None 0 0 0 2 0 0 ∷ class_row (codes "TInterfacedObject") 18 (Some (class_id 0)) 0 0 2 0 0 1 ∷ class_row (codes "TB") 20 (Some (class_id 0)) 0 2 2 0 1 0 ∷ class_row (codes "TA") 21 (Some (class_id 1)) 2 1 2 1 1 1 ∷ [])
      (interface_row (codes "iunknown") 17 None 3 0 ∷ interface_row (codes "ii") 19 (Some (interface_id 0)) 3 0 ∷ [])
      (method_row 0 Static false ∷ method_row 1 VirtualBinding false ∷ method_row 2 Override false ∷ [])
      (interface_id 0 ∷ interface_id 1 ∷ [])
      (variable_id 0 ∷ variable_id 1 ∷ [])
      None
      ((listed ([])) ∷
      (listed ([])) ∷
      (listed (
      (assign (dot (dot (obj 4 21) 2 20) 0 7) (quoted (codes "again"))) ∷
      (call (then (obj 4 21) (method (routine_id 1) Direct (argued [])) (id 9))) ∷ [])) ∷
      (listed (
      (assign (var 0 20) (expression (construct (class_id 2) (routine_id 0) (argued [])) (id 20) no_steps)) ∷
      (assign (var 1 21) (expression (construct (class_id 3) (routine_id 0) (argued [])) (id 21) no_steps)) ∷
      (assign (dot (var 1 21) 2 20) (var 0 20)) ∷
      (assign (dot (var 0 20) 1 19) (to ToInterface 19 (var 1 21))) ∷
      (built_in (free (var 0 20) false)) ∷
      (built_in (write (plain (known (pos 120) 6) ∷ []) true)) ∷ [])) ∷
      [])

  class_resurrected_field_runs : outcome 4000 class_resurrected_field ([]) ≡ ends_with (makes 32 ∷ makes 32 ∷ frees 2 ∷ []) ([]) (said (codes "Runtime error 204")) 204
  unfolding outcome
  class_resurrected_field_runs = refl

  -- A static method is chosen by the declared type
  abbrev class_static : Program
  class_static = program name
      (Class (class_id 0) ∷ Interface (interface_id 0) ∷ Class (class_id 1) ∷ Class (class_id 2) ∷ Class (class_id 3) ∷ [])
      []
      (row name 19 Plain None ∷ row name 20 Plain None ∷ row name 16 ObjectRole None ∷ row name 16 ObjectRole None ∷ row name 19 ObjectRole None ∷ row name 20 ObjectRole None ∷ [])
      (routine_row name (codes "create") Constructor (OfClass (class_id 0)) 0 None 2 1 ∷ routine_row name (codes "destroy") Destructor (OfClass (class_id 0)) 0 None 3 1 ∷ routine_row name (codes "p") Procedure (OfClass (class_id 2)) 0 None 4 1 ∷ routine_row name (codes "p") Procedure (OfClass (class_id 3)) 0 None 5 1 ∷ [])
      (class_row (codes "TObject") 16 None 0 0 0 2 0 0 ∷ class_row (codes "TInterfacedObject") 18 (Some (class_id 0)) 0 0 2 0 0 1 ∷ class_row (codes "TA") 19 (Some (class_id 0)) 0 0 2 1 1 0 ∷ class_row (codes "TB") 20 (Some (class_id 2)) 0 0 3 1 1 0 ∷ [])
      (interface_row (codes "iunknown") 17 None 4 0 ∷ [])
      (method_row 0 Static false ∷ method_row 1 VirtualBinding false ∷ method_row 2 Static false ∷ method_row 3 Static false ∷ [])
      (interface_id 0 ∷ [])
      (variable_id 0 ∷ variable_id 1 ∷ [])
      None
      ((listed ([])) ∷
      (listed ([])) ∷
      (listed (
      (built_in (write (plain (known (pos 65) 6) ∷ []) true)) ∷ [])) ∷
      (listed (
      (built_in (write (plain (known (pos 66) 6) ∷ []) true)) ∷ [])) ∷
      (listed (
      (assign (var 1 20) (expression (construct (class_id 3) (routine_id 0) (argued [])) (id 20) no_steps)) ∷
      (assign (var 0 19) (to Keep 19 (var 1 20))) ∷
      (call (then (var 0 19) (method (routine_id 2) Direct (argued [])) (id 9))) ∷
      (call (then (var 1 20) (method (routine_id 3) Direct (argued [])) (id 9))) ∷
      (built_in (free (var 1 20) false)) ∷ [])) ∷
      [])

  class_static_runs : outcome 4000 class_static ([]) ≡ ends_with (makes 16 ∷ frees 1 ∷ []) (said (codes "A") ++ said (codes "B")) ([]) 0
  unfolding outcome
  class_static_runs = refl

  -- TObject itself
  abbrev class_tobject : Program
  class_tobject = program name
      (Class (class_id 0) ∷ Interface (interface_id 0) ∷ Class (class_id 1) ∷ [])
      []
      (row name 16 Plain None ∷ row name 16 Plain None ∷ row name 16 ObjectRole None ∷ row name 16 ObjectRole None ∷ [])
      (routine_row name (codes "create") Constructor (OfClass (class_id 0)) 0 None 2 1 ∷ routine_row name (codes "destroy") Destructor (OfClass (class_id 0)) 0 None 3 1 ∷ [])
      (class_row (codes "TObject") 16 None 0 0 0 2 0 0 ∷ class_row (codes "TInterfacedObject") 18 (Some (class_id 0)) 0 0 2 0 0 1 ∷ [])
      (interface_row (codes "iunknown") 17 None 2 0 ∷ [])
      (method_row 0 Static false ∷ method_row 1 VirtualBinding false ∷ [])
      (interface_id 0 ∷ [])
      (variable_id 0 ∷ variable_id 1 ∷ [])
      None
      ((listed ([])) ∷
      (listed ([])) ∷
      (listed (
      (assign (var 0 16) (expression (construct (class_id 0) (routine_id 0) (argued [])) (id 16) no_steps)) ∷
      (assign (var 1 16) (var 0 16)) ∷
      (built_in (write (plain (then (var 0 16) (is (id 16)) (id 5)) ∷ plain (with_q false 5 (var 1 16) Equal (var 0 16)) ∷ plain (applying Assigned false (var 1 16) 5) ∷ []) true)) ∷
      (built_in (free (var 1 16) false)) ∷ [])) ∷
      [])

  class_tobject_runs : outcome 4000 class_tobject ([]) ≡ ends_with (makes 16 ∷ frees 1 ∷ []) (said (codes "TRUETRUETRUE")) ([]) 0
  unfolding outcome
  class_tobject_runs = refl

  -- A field given as var is checked at each use, also after its instance has gone
  abbrev class_var_dead : Program
  class_var_dead = program name
      (Class (class_id 0) ∷ Interface (interface_id 0) ∷ Class (class_id 1) ∷ Class (class_id 2) ∷ [])
      (part name 4 ∷ [])
      (row name 19 Plain None ∷ row name 16 ObjectRole None ∷ row name 16 ObjectRole None ∷ row name 4 (Parameter Var) None ∷ [])
      (routine_row name (codes "create") Constructor (OfClass (class_id 0)) 0 None 1 1 ∷ routine_row name (codes "destroy") Destructor (OfClass (class_id 0)) 0 None 2 1 ∷ routine_row name (codes "p") Procedure OfUnit 1 None 3 1 ∷ [])
      (class_row (codes "TObject") 16 None 0 0 0 2 0 0 ∷ class_row (codes "TInterfacedObject") 18 (Some (class_id 0)) 0 0 2 0 0 1 ∷ class_row (codes "TA") 19 (Some (class_id 0)) 0 1 2 0 1 0 ∷ [])
      (interface_row (codes "iunknown") 17 None 2 0 ∷ [])
      (method_row 0 Static false ∷ method_row 1 VirtualBinding false ∷ [])
      (interface_id 0 ∷ [])
      (variable_id 0 ∷ [])
      None
      ((listed ([])) ∷
      (listed ([])) ∷
      (listed (
      (assign (var 3 4) (with_q false 4 (var 3 4) Add (known (pos 1) 4))) ∷
      (built_in (write (plain (var 3 4) ∷ []) true)) ∷
      (built_in (free (var 0 19) false)) ∷
      (built_in (write (plain (quoted (codes "freed")) ∷ []) true)) ∷
      (assign (var 3 4) (known (pos 7) 4)) ∷
      (built_in (write (plain (quoted (codes "never")) ∷ []) true)) ∷ [])) ∷
      (listed (
      (assign (var 0 19) (expression (construct (class_id 2) (routine_id 0) (argued [])) (id 19) no_steps)) ∷
      (call (expression (call_of (routine_id 2) (argued (place (dot (var 0 19) 0 4) ∷ []))) (id 9) no_steps)) ∷ [])) ∷
      [])

  class_var_dead_runs : outcome 4000 class_var_dead ([]) ≡ ends_with (makes 32 ∷ frees 1 ∷ []) (said (codes "1") ++ said (codes "freed")) (said (codes "Runtime error 216")) 216
  unfolding outcome
  class_var_dead_runs = refl

  -- An element of an array in a field is held for the call, also when the instance goes
  abbrev class_var_in_array : Program
  class_var_in_array = program name
      (Class (class_id 0) ∷ Interface (interface_id 0) ∷ Class (class_id 1) ∷ Class (class_id 2) ∷ DynamicArray (id 7) ∷ [])
      (part name 20 ∷ [])
      (row name 19 Plain None ∷ row name 16 ObjectRole None ∷ row name 16 ObjectRole None ∷ row name 7 (Parameter Var) None ∷ [])
      (routine_row name (codes "create") Constructor (OfClass (class_id 0)) 0 None 1 1 ∷ routine_row name (codes "destroy") Destructor (OfClass (class_id 0)) 0 None 2 1 ∷ routine_row name (codes "p") Procedure OfUnit 1 None 3 1 ∷ [])
      (class_row (codes "TObject") 16 None 0 0 0 2 0 0 ∷ class_row (codes "TInterfacedObject") 18 (Some (class_id 0)) 0 0 2 0 0 1 ∷ class_row (codes "TA") 19 (Some (class_id 0)) 0 1 2 0 1 0 ∷ [])
      (interface_row (codes "iunknown") 17 None 2 0 ∷ [])
      (method_row 0 Static false ∷ method_row 1 VirtualBinding false ∷ [])
      (interface_id 0 ∷ [])
      (variable_id 0 ∷ [])
      None
      ((listed ([])) ∷
      (listed ([])) ∷
      (listed (
      (built_in (free (var 0 19) false)) ∷
      (assign (var 3 7) (with_q false 7 (var 3 7) Add (quoted (codes "!")))) ∷
      (built_in (write (plain (var 3 7) ∷ []) true)) ∷ [])) ∷
      (listed (
      (assign (var 0 19) (expression (construct (class_id 2) (routine_id 0) (argued [])) (id 19) no_steps)) ∷
      (built_in (set_length (dot (var 0 19) 0 20) (known (pos 1) 4))) ∷
      (assign (at (dot (var 0 19) 0 20) (known (pos 0) 4) 7) (quoted (codes "kept"))) ∷
      (call (expression (call_of (routine_id 2) (argued (place (at (dot (var 0 19) 0 20) (known (pos 0) 4) 7) ∷ []))) (id 9) no_steps)) ∷ [])) ∷
      [])

  class_var_in_array_runs : outcome 4000 class_var_in_array ([]) ≡ ends_with (makes 32 ∷ asks 32 ∷ frees 1 ∷ asks 32 ∷ frees 3 ∷ frees 2 ∷ []) (said (codes "kept!")) ([]) 0
  unfolding outcome
  class_var_in_array_runs = refl

  -- A virtual method is chosen by the instance; a reintroduced one begins anew
  abbrev class_virtual : Program
  class_virtual = program name
      (Class (class_id 0) ∷ Interface (interface_id 0) ∷ Class (class_id 1) ∷ Class (class_id 2) ∷ Class (class_id 3) ∷ [])
      []
      (row name 19 Plain None ∷ row name 16 ObjectRole None ∷ row name 16 ObjectRole None ∷ row name 19 ObjectRole None ∷ row name 19 ObjectRole None ∷ row name 20 ObjectRole None ∷ row name 20 ObjectRole None ∷ [])
      (routine_row name (codes "create") Constructor (OfClass (class_id 0)) 0 None 1 1 ∷ routine_row name (codes "destroy") Destructor (OfClass (class_id 0)) 0 None 2 1 ∷ routine_row name (codes "p") Procedure (OfClass (class_id 2)) 0 None 3 1 ∷ routine_row name (codes "q") Procedure (OfClass (class_id 2)) 0 None 4 1 ∷ routine_row name (codes "p") Procedure (OfClass (class_id 3)) 0 None 5 1 ∷ routine_row name (codes "q") Procedure (OfClass (class_id 3)) 0 None 6 1 ∷ [])
      (class_row (codes "TObject") 16 None 0 0 0 2 0 0 ∷ class_row (codes "TInterfacedObject") 18 (Some (class_id 0)) 0 0 2 0 0 1 ∷ class_row (codes "TA") 19 (Some (class_id 0)) 0 0 2 2 1 0 ∷ class_row (codes "TB") 20 (Some (class_id 2)) 0 0 4 2 1 0 ∷ [])
      (interface_row (codes "iunknown") 17 None 6 0 ∷ [])
      (method_row 0 Static false ∷ method_row 1 VirtualBinding false ∷ method_row 2 VirtualBinding false ∷ method_row 3 VirtualBinding false ∷ method_row 4 Override false ∷ method_row 5 Static false ∷ [])
      (interface_id 0 ∷ [])
      (variable_id 0 ∷ [])
      None
      ((listed ([])) ∷
      (listed ([])) ∷
      (listed (
      (built_in (write (plain (quoted (codes "A.P")) ∷ []) true)) ∷
      (call (then (obj 3 19) (method (routine_id 3) Virtual (argued [])) (id 9))) ∷ [])) ∷
      (listed (
      (built_in (write (plain (quoted (codes "A.Q")) ∷ []) true)) ∷ [])) ∷
      (listed (
      (built_in (write (plain (quoted (codes "B.P")) ∷ []) true)) ∷
      (call (then (obj 5 20) (method (routine_id 5) Direct (argued [])) (id 9))) ∷ [])) ∷
      (listed (
      (built_in (write (plain (quoted (codes "B.Q")) ∷ []) true)) ∷ [])) ∷
      (listed (
      (assign (var 0 19) (to Keep 19 (expression (construct (class_id 3) (routine_id 0) (argued [])) (id 20) no_steps))) ∷
      (call (then (var 0 19) (method (routine_id 2) Virtual (argued [])) (id 9))) ∷
      (call (then (var 0 19) (method (routine_id 3) Virtual (argued [])) (id 9))) ∷
      (built_in (free (var 0 19) false)) ∷
      (assign (var 0 19) (expression (construct (class_id 2) (routine_id 0) (argued [])) (id 19) no_steps)) ∷
      (call (then (var 0 19) (method (routine_id 2) Virtual (argued [])) (id 9))) ∷
      (built_in (free (var 0 19) false)) ∷ [])) ∷
      [])

  class_virtual_runs : outcome 4000 class_virtual ([]) ≡ ends_with (makes 16 ∷ frees 1 ∷ makes 16 ∷ frees 2 ∷ []) (said (codes "B.P") ++ said (codes "B.Q") ++ said (codes "A.Q") ++ said (codes "A.P") ++ said (codes "A.Q")) ([]) 0
  unfolding outcome
  class_virtual_runs = refl

  -- A virtual method called by the ancestor's constructor is the descendant's own
  abbrev class_virtual_in_constructor : Program
  class_virtual_in_constructor = program name
      (Class (class_id 0) ∷ Interface (interface_id 0) ∷ Class (class_id 1) ∷ Class (class_id 2) ∷ Class (class_id 3) ∷ [])
      (part name 7 ∷ [])
      (row name 19 Plain None ∷ row name 16 ObjectRole None ∷ row name 16 ObjectRole None ∷ row name 19 ObjectRole None ∷ row name 19 ObjectRole None ∷ row name 20 ObjectRole None ∷ row name 20 ObjectRole None ∷ [])
      (routine_row name (codes "create") Constructor (OfClass (class_id 0)) 0 None 1 1 ∷ routine_row name (codes "destroy") Destructor (OfClass (class_id 0)) 0 None 2 1 ∷ routine_row name (codes "create") Constructor (OfClass (class_id 2)) 0 None 3 1 ∷ routine_row name (codes "p") Procedure (OfClass (class_id 2)) 0 None 4 1 ∷ routine_row name (codes "create") Constructor (OfClass (class_id 3)) 0 None 5 1 ∷ routine_row name (codes "p") Procedure (OfClass (class_id 3)) 0 None 6 1 ∷ [])
      (class_row (codes "TObject") 16 None 0 0 0 2 0 0 ∷ class_row (codes "TInterfacedObject") 18 (Some (class_id 0)) 0 0 2 0 0 1 ∷ class_row (codes "TA") 19 (Some (class_id 0)) 0 0 2 2 1 0 ∷ class_row (codes "TB") 20 (Some (class_id 2)) 0 1 4 2 1 0 ∷ [])
      (interface_row (codes "iunknown") 17 None 6 0 ∷ [])
      (method_row 0 Static false ∷ method_row 1 VirtualBinding false ∷ method_row 2 Static false ∷ method_row 3 VirtualBinding false ∷ method_row 4 Static false ∷ method_row 5 Override false ∷ [])
      (interface_id 0 ∷ [])
      (variable_id 0 ∷ [])
      None
      ((listed ([])) ∷
      (listed ([])) ∷
      (listed (
      (call (then (obj 3 19) (method (routine_id 3) Virtual (argued [])) (id 9))) ∷ [])) ∷
      (listed (
      (built_in (write (plain (known (pos 65) 6) ∷ []) true)) ∷ [])) ∷
      (listed (
      (assign (dot (obj 5 20) 0 7) (quoted (codes "set"))) ∷
      (call (then (obj 5 20) (method (routine_id 2) Direct (argued [])) (id 9))) ∷
      (call (then (obj 5 20) (method (routine_id 5) Virtual (argued [])) (id 9))) ∷ [])) ∷
      (listed (
      (built_in (write (plain (quoted (codes "B ")) ∷ plain (dot (obj 6 20) 0 7) ∷ []) true)) ∷
      (assign (dot (obj 6 20) 0 7) (with_q false 7 (dot (obj 6 20) 0 7) Add (quoted (codes "+")))) ∷ [])) ∷
      (listed (
      (assign (var 0 19) (to Keep 19 (expression (construct (class_id 3) (routine_id 4) (argued [])) (id 20) no_steps))) ∷
      (call (then (var 0 19) (method (routine_id 3) Virtual (argued [])) (id 9))) ∷
      (built_in (free (var 0 19) false)) ∷ [])) ∷
      [])

  class_virtual_in_constructor_runs : outcome 4000 class_virtual_in_constructor ([]) ≡ ends_with (makes 32 ∷ asks 32 ∷ asks 32 ∷ frees 2 ∷ asks 32 ∷ frees 3 ∷ frees 4 ∷ frees 1 ∷ []) (said (codes "B set") ++ said (codes "B set+") ++ said (codes "B set++")) ([]) 0
  unfolding outcome
  class_virtual_in_constructor_runs = refl
