-- Programs that are run by computation: units, Halt, and exceptions, whose frames the machine has although the checker refuses their
-- constructs so far. Above each stands its text; what is expected is what Free Pascal writes, or what the profile says where that is
-- another thing.
use Rattle.std.specs.Prelude.{◌≡◌, ℕ, ◌+◌, pos, true, false, List, [], ◌∷◌, ◌++◌, Option, Some, None, codes}
use Rattle.std.proofs.Common.{refl}
use Rattle.op_core.specs.Expression.{expression, construct, no_arguments, no_steps}
use Rattle.op_core.specs.Statement.{Statement, Handlers, handlers, no_handlers, assign, try_finally, try_on, try_on_else, raise, reraise, halt, for_to, break}
use Rattle.op_core.specs.Types.{id}
use Rattle.op_core.specs.declared.class.Binding.TheVariants.{Static, Override}
use Rattle.op_core.specs.declared.class.Class.{Class as ClassRow}
use Rattle.op_core.specs.declared.ids.ClassId.{ClassId}
use Rattle.op_core.specs.declared.ids.RoutineId.{RoutineId}
use Rattle.op_core.specs.declared.program.Unit.{Unit as UnitRow}
use Rattle.op_core.specs.declared.routine.Owner.TheVariants.{Class as OfClass}
use Rattle.op_core.specs.declared.routine.Role.TheVariants.{Object}
use Rattle.op_core.specs.declared.routine.Routine.{Routine}
use Rattle.op_core.specs.declared.types.CoreType.TheVariants.{Class}
use Rattle.op_meaning.proofs.Programs.{outcome, writes, fails_with, said, var, num, quoted, calc, listed, line, text, do_call, rows_at, row, own, part, procedure, core_of, runs}
use Rattle.op_meaning.specs.Frames.{Program}
use Rattle.op_meaning.specs.World.{Ended}
use Rattle.op_tree.specs.declared.class.Visibility.TheVariants.{Public}
use Rattle.op_tree.specs.declared.heading.RoutineKind.TheVariants.{Constructor, Destructor}
use Rattle.op_tree.specs.declared.operator.Operator.TheVariants.{Div}
use Rattle.op_tree.specs.declared.position.Name.{Name}
use Rattle.op_tree.specs.declared.statement.Direction.TheVariants.{To}

abbrev pub routine_id : ℕ → RoutineId
routine_id n = record { 0 = n }

abbrev pub class_id : ℕ → ClassId
class_id n = record { 0 = n }

-- a unit with an initialization and a finalization part
abbrev unit_with : Option RoutineId → Option RoutineId → UnitRow
unit_with first last = record { name = []; globals = rows_at 0 0; initialization = first; finalization = last }

abbrev says : List ℕ → Statement
says t = line (quoted t ∷ [])

module _ (name : Name) where
  -- ---- units

  -- The main file uses A and B, and A uses B in its implementation part, so the order is B, A. Each part writes its name. Routines: 0 and
  -- 1 are the parts of B, 2 and 3 those of A, 4 is the main part.
  abbrev units_program : List Statement → Program
  units_program main = runs name (record (core_of name [] [] 0 [] (procedure name 0 0 0 ∷ procedure name 0 0 0 ∷ procedure name 0 0 0 ∷ procedure name 0 0 0 ∷ [])) {
    units = unit_with (Some (routine_id 0)) (Some (routine_id 1)) ∷ unit_with (Some (routine_id 2)) (Some (routine_id 3)) ∷ unit_with (Some (routine_id 4)) None ∷ [];
  })
      ((says (codes "B") ∷ []) ∷ (says (codes "final B") ∷ []) ∷ (says (codes "A") ∷ []) ∷ (says (codes "final A") ∷ []) ∷ main ∷ [])

  units_run : outcome 60 (units_program (says (codes "main") ∷ [])) ≡ writes (said (codes "B") ++ said (codes "A") ++ said (codes "main") ++ said (codes "final A") ++ said (codes "final B"))
  unfolding outcome
  units_run = refl

  -- Halt ends with the low eight bits of its number; the finalization parts are done, and no finally part
  halt_closes : outcome 60 (units_program (try_finally (listed (says (codes "main") ∷ halt (num (pos 259)) ∷ [])) (listed (says (codes "no") ∷ [])) ∷ []))
      ≡ record { output = said (codes "B") ++ said (codes "A") ++ said (codes "main") ++ said (codes "final A") ++ said (codes "final B"); errors = []; ending = Ended 3 }
  unfolding outcome
  halt_closes = refl

  -- a run-time error that ends the program does no closing
  error_does_not_close : outcome 60 (units_program (line (calc (num (pos 1)) Div (num (pos 0)) ∷ []) ∷ []))
      ≡ fails_with (said (codes "B") ++ said (codes "A")) (codes "200") 200
  unfolding outcome
  error_does_not_close = refl

  -- ---- exceptions

  -- Classes: 0 TObject, 1 Exception with its message, 2 EA of Exception, whose constructor writes c and whose destructor writes d, 3 EB of
  -- EA, 4 EC of Exception, 5 EDivByZero of Exception. Routines: 0 the constructor, 1 the destructor, 2 a procedure p, 3 the main part.
  abbrev pub class_of : List ℕ → ℕ → Option ClassId → ℕ → ℕ → ℕ → ClassRow
  class_of said_name of above fields first_method methods = record {
    name = said_name;
    of = id of;
    unit = record { 0 = 0 };
    ancestor = above;
    interfaces = rows_at 0 0;
    fields = rows_at 0 fields;
    methods = rows_at first_method methods;
    properties = rows_at 0 0;
    complete = true;
  }

  abbrev pub raising : List Statement → List Statement → Program
  raising p main = runs name (record (core_of name (Class (class_id 0) ∷ Class (class_id 1) ∷ Class (class_id 2) ∷ Class (class_id 3) ∷ Class (class_id 4) ∷ Class (class_id 5) ∷ []) (part name 7 ∷ []) 1
      (own name 4 ∷ row name 18 Object ∷ []) (maker ∷ ender ∷ procedure name 0 0 0 ∷ [])) {
        classes = class_of (codes "TObject") 16 None 0 0 0 ∷ class_of (codes "Exception") 17 (Some (class_id 0)) 1 0 0 ∷ class_of (codes "EA") 18 (Some (class_id 1)) 0 0 2
            ∷ class_of (codes "EB") 19 (Some (class_id 2)) 0 0 0 ∷ class_of (codes "EC") 20 (Some (class_id 1)) 0 0 0 ∷ class_of (codes "EDivByZero") 21 (Some (class_id 1)) 0 0 0 ∷ [];
        methods = record { routine = routine_id 0; visibility = Public; binding = Static; is_abstract = false } ∷ record { routine = routine_id 1; visibility = Public; binding = Override; is_abstract = false } ∷ [];
        exceptions = Some (record { exception = class_id 1; message = record { 0 = 0 }; zero_divisor = class_id 5; range = class_id 4; overflow = class_id 4; cast = class_id 4 });
      })
      ((text (codes "c") ∷ []) ∷ (text (codes "d") ∷ []) ∷ p ∷ main ∷ [])
    where
      maker : Routine
      maker = record (procedure name 0 1 1) { kind = Constructor; owner = OfClass (class_id 2) }

      ender : Routine
      ender = record (procedure name 0 1 1) { kind = Destructor; owner = OfClass (class_id 2) }

  -- an instance of the class is made by the constructor
  abbrev raises : ℕ → Statement
  raises c = raise (expression (construct (class_id c) (routine_id 0) no_arguments) (id (16 + c)) no_steps)

  abbrev on_class : ℕ → Statement → Handlers → Handlers
  on_class c s others = handlers None (class_id c) s others

  -- Out of a callee: its finally part is done, its own handlers do not fit, and the clause of an ancestor takes it. At the handler's end
  -- the instance is freed.
  --   uses SysUtils;
  --   type
  --     EA = class(Exception)
  --       constructor Create;
  --       destructor Destroy; override;
  --     end;
  --     EB = class(EA) end;
  --     EC = class(Exception) end;
  --   constructor EA.Create; begin Write('c'); end;
  --   destructor EA.Destroy; begin Write('d'); end;
  --   procedure p;
  --   begin
  --     try raise EA.Create; finally Write('f'); end;
  --     Write('no');
  --   end;
  --   begin
  --     try
  --       try p; except on EB do Write('b'); on EC do Write('C'); end;
  --     except
  --       on EA do Write('a');
  --     else
  --       Write('x');
  --     end;
  --     WriteLn;
  --   end.
  caught_by_ancestor : outcome 120 (raising
      (try_finally (listed (raises 2 ∷ [])) (listed (text (codes "f") ∷ [])) ∷ text (codes "no") ∷ [])
      (try_on_else (listed (try_on (listed (do_call 2 [] ∷ [])) (on_class 3 (text (codes "b")) (on_class 4 (text (codes "C")) no_handlers)) ∷ []))
      (on_class 2 (text (codes "a")) no_handlers) (listed (text (codes "x") ∷ [])) ∷ line [] ∷ []))
      ≡ writes (said (codes "cfad"))
  unfolding outcome
  caught_by_ancestor = refl

  -- raised again by its handler it is not freed there
  --   uses SysUtils;
  --   type
  --     EA = class(Exception)
  --       constructor Create;
  --       destructor Destroy; override;
  --     end;
  --     EB = class(EA) end;
  --   constructor EA.Create; begin Write('c'); end;
  --   destructor EA.Destroy; begin Write('d'); end;
  --   begin
  --     try
  --       try raise EB.Create; except on EA do begin Write('r'); raise; end; end;
  --     except
  --       Write('s');
  --     end;
  --     WriteLn;
  --   end.
  raised_again : outcome 120 (raising []
      (try_on_else (listed (try_on (listed (raises 3 ∷ [])) (on_class 2 (try_finally (listed (text (codes "r") ∷ reraise ∷ [])) (listed [])) no_handlers) ∷ [])) no_handlers (listed (text (codes "s") ∷ []))
      ∷ line [] ∷ []))
      ≡ writes (said (codes "crsd"))
  unfolding outcome
  raised_again = refl

  -- one that is raised in a finally part replaces the one under way, which is freed, and in Free Pascal is not
  replaced_in_finally : outcome 160 (raising []
      (try_on (listed (try_finally (listed (raises 2 ∷ [])) (listed (text (codes "g") ∷ raises 3 ∷ [])) ∷ [])) (on_class 3 (text (codes "B")) no_handlers) ∷ line [] ∷ []))
      ≡ writes (said (codes "cgcdBd"))
  unfolding outcome
  replaced_in_finally = refl

  -- Break out of a handler frees the instance before the loop is left
  --   uses SysUtils;
  --   type
  --     EA = class(Exception)
  --       constructor Create;
  --       destructor Destroy; override;
  --     end;
  --   constructor EA.Create; begin Write('c'); end;
  --   destructor EA.Destroy; begin Write('d'); end;
  --   var i: Integer;
  --   begin
  --     for i := 1 to 2 do
  --       try
  --         try raise EA.Create; except on EA do begin Write('h'); Break; end; end;
  --       finally
  --         Write('f');
  --       end;
  --     WriteLn(i);
  --   end.
  handler_left_by_break : outcome 160 (raising []
      (for_to (record { 0 = 0 }) (num (pos 1)) To (num (pos 2)) (try_finally
      (listed (try_on (listed (raises 2 ∷ [])) (on_class 2 (try_finally (listed (text (codes "h") ∷ break ∷ [])) (listed [])) no_handlers) ∷ [])) (listed (text (codes "f") ∷ [])))
      ∷ line (var 0 4 ∷ []) ∷ []))
      ≡ writes (said (codes "chdf1"))
  unfolding outcome
  handler_left_by_break = refl

  -- an error is raised as its class
  --   uses SysUtils;
  --   var i: Integer;
  --   begin
  --     try
  --       Write('t');
  --       i := 1 div i;
  --     except
  --       on EDivByZero do Write('z');
  --     end;
  --     WriteLn;
  --   end.
  abbrev pub error_program : Program
  error_program = raising []
      (try_on (listed (text (codes "t") ∷ assign (var 0 4) (calc (num (pos 1)) Div (var 0 4)) ∷ [])) (on_class 5 (text (codes "z")) no_handlers) ∷ line [] ∷ [])

  error_raised : outcome 60 error_program ≡ writes (said (codes "tz"))
  unfolding outcome
  error_raised = refl

  -- what nothing handles ends with 217, and says its class and message; finally parts are done
  unhandled_error : outcome 60 (raising [] (try_finally (listed (assign (var 0 4) (calc (num (pos 1)) Div (var 0 4)) ∷ [])) (listed (text (codes "f") ∷ [])) ∷ []))
      ≡ record { output = codes "f"; errors = said (codes "Unhandled EDivByZero: Division by zero"); ending = Ended 217 }
  unfolding outcome
  unhandled_error = refl
