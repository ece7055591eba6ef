-- Programs that are run by computation: records and arrays with bounds. Above each stands its text; what is expected is what Free Pascal
-- writes, or what the profile says where that is another thing (an assignment evaluates its right side first, and indices are always
-- checked).
use Rattle.std.specs.Prelude.{◌≡◌, ℕ, zero, suc, ℤ, pos, false, List, [], ◌∷◌, ◌++◌, Option, Some, None, codes}
use Rattle.std.proofs.Common.{refl}
use Rattle.op_core.specs.Expression.{Expression, value, place}
use Rattle.op_core.specs.Initial.{FirstValue, constant as first, parts, values, no_values}
use Rattle.op_core.specs.Statement.{Statement, assign, for_to, built_in, count}
use Rattle.op_core.specs.Types.{id}
use Rattle.op_core.specs.declared.constant.Const.TheVariants.{Ordinal}
use Rattle.op_core.specs.declared.operation.Conversion.TheVariants.{Keep, Check}
use Rattle.op_core.specs.declared.operation.Function.TheVariants.{Length, Low, High}
use Rattle.op_core.specs.declared.types.CoreType.{CoreType}
use Rattle.op_core.specs.declared.types.CoreType.TheVariants.{Subrange, Array, Record}
use Rattle.op_meaning.proofs.Programs.{quoted, outcome, writes, fails_with, said, var, num, known, calc, applying, to, at, dot, called, line, shown, do_call, rows_at, own, by_val, by_var, gives, part, procedure, function, core_of, runs}
use Rattle.op_meaning.specs.Frames.{Program}
use Rattle.op_tree.specs.declared.operator.Operator.TheVariants.{Add, Multiply}
use Rattle.op_tree.specs.declared.position.Name.{Name}
use Rattle.op_tree.specs.declared.statement.Direction.TheVariants.{To}

-- types: 16 is a record of a Byte and an Integer, 17 the range 1..3, 18 an array of three such records, 19 an array [1..3, 1..3] of
-- Integer by way of 20
abbrev types : List CoreType
types = Record (rows_at 0 2) ∷ Subrange (id 4) (pos 1) (pos 3) ∷ Array (id 17) (id 16) ∷ Array (id 17) (id 4) ∷ Array (id 17) (id 19) ∷ []

abbrev blank : Expression
blank = known (pos 32) 6

-- an index that is an Integer is checked
abbrev within : Expression → Expression
within e = to Check 17 e

-- an element of an array of Integers, and a row of the array of such
abbrev cell : Expression → ℤ → Expression
cell e n = at e (known n 17) 4

abbrev line_of : ℤ → Expression
line_of n = at (var 0 20) (known n 17) 19

-- the routine is charged more than there is room for, the main part is not
abbrev charges : ℕ → ℕ
charges zero = 800
charges (suc r) = 304

module _ (name : Name) where
  -- ---- records in an array

  -- a variable parameter that is a field of an element, and copies of records
  --   type
  --     R = record
  --       a: Byte;
  --       b: Integer;
  --     end;
  --   var
  --     xs: array[1..3] of R; i: Integer; r0: R;
  --   procedure p(var x: Integer; y: R);
  --   begin
  --     x := x + y.b;
  --     y.b := 0;
  --   end;
  --   begin
  --     i := 2;
  --     xs[i].b := 5;
  --     r0 := xs[i];
  --     r0.a := 7;
  --     p(xs[i].b, r0);
  --     xs[3] := r0;
  --     WriteLn(xs[2].b, xs[3].a, xs[3].b, xs[1].b);
  --   end.
  abbrev element : Expression → Expression
  element e = at (var 0 18) e 16

  abbrev parts_program : List Statement → Program
  parts_program last = runs name (core_of name types (part name 1 ∷ part name 4 ∷ []) 3 (own name 18 ∷ own name 4 ∷ own name 16 ∷ by_var name 4 ∷ by_val name 16 ∷ []) (procedure name 2 3 2 ∷ []))
      ((assign (var 3 4) (calc (var 3 4) Add (dot (var 4 16) 1 4)) ∷ assign (dot (var 4 16) 1 4) (num (pos 0)) ∷ [])
      ∷ (assign (var 1 4) (num (pos 2)) ∷ assign (dot (element (within (var 1 4))) 1 4) (num (pos 5)) ∷ assign (var 2 16) (element (within (var 1 4)))
      ∷ assign (dot (var 2 16) 0 1) (known (pos 7) 1) ∷ do_call 0 (place (dot (element (within (var 1 4))) 1 4) ∷ value (var 2 16) ∷ [])
      ∷ assign (element (known (pos 3) 17)) (var 2 16)
      ∷ line (dot (element (known (pos 2) 17)) 1 4 ∷ to Keep 4 (dot (element (known (pos 3) 17)) 0 1) ∷ dot (element (known (pos 3) 17)) 1 4 ∷ dot (element (known (pos 1) 17)) 1 4 ∷ []) ∷ last) ∷ [])

  parts_run : outcome 120 (parts_program []) ≡ writes (said (codes "10750"))
  unfolding outcome
  parts_run = refl

  -- an index out of range is error 201, in a place that is stored, in one that is read, and in one that is passed
  store_fails : outcome 120 (parts_program (assign (var 1 4) (num (pos 4)) ∷ assign (element (within (var 1 4))) (var 2 16) ∷ [])) ≡ fails_with (said (codes "10750")) (codes "201") 201
  unfolding outcome
  store_fails = refl

  load_fails : outcome 120 (parts_program (assign (var 1 4) (num (pos 0)) ∷ line (dot (element (within (var 1 4))) 1 4 ∷ []) ∷ [])) ≡ fails_with (said (codes "10750")) (codes "201") 201
  unfolding outcome
  load_fails = refl

  passing_fails : outcome 120 (parts_program (do_call 0 (place (dot (element (known (pos 4) 17)) 1 4) ∷ value (var 2 16) ∷ []) ∷ [])) ≡ fails_with (said (codes "10750")) (codes "201") 201
  unfolding outcome
  passing_fails = refl

  -- where an index is out of range and the stack has no room, it is the index that fails
  fails_before_the_push : outcome 20 (record (runs name (core_of name types (part name 1 ∷ part name 4 ∷ []) 1 (own name 18 ∷ by_var name 4 ∷ []) (procedure name 1 1 1 ∷ []))
      ([] ∷ (do_call 0 (place (dot (element (known (pos 4) 17)) 1 4) ∷ []) ∷ []) ∷ [])) { charge = charges; stack = 1000 })
      ≡ fails_with [] (codes "201") 201
  unfolding outcome
  fails_before_the_push = refl

  -- ---- a record is copied while it is changed

  -- the right side is evaluated, and so copied, before the index of the left side changes it, where Free Pascal copies behind; a value
  -- parameter keeps its copy
  --   type
  --     R = record
  --       a: Byte;
  --       b: Integer;
  --     end;
  --   var
  --     xs: array[1..3] of R; r0: R;
  --   function f: Integer;
  --   begin
  --     r0.b := 9;
  --     f := 3;
  --   end;
  --   procedure p(y: R);
  --   begin
  --     r0.b := 5;
  --     Write(y.b, ' ');
  --     y.b := 8;
  --     Write(r0.b, ' ');
  --   end;
  --   begin
  --     r0.b := 1;
  --     xs[f] := r0;
  --     WriteLn(xs[3].b, ' ', r0.b);
  --     p(r0);
  --     r0 := r0;
  --     WriteLn(r0.b);
  --   end.
  copied_while_changed : outcome 120 (runs name (core_of name types (part name 1 ∷ part name 4 ∷ []) 2 (own name 18 ∷ own name 16 ∷ gives name 4 ∷ by_val name 16 ∷ []) (function name 4 0 2 1 ∷ procedure name 1 3 1 ∷ []))
      ((assign (dot (var 1 16) 1 4) (num (pos 9)) ∷ assign (var 2 4) (num (pos 3)) ∷ [])
      ∷ (assign (dot (var 1 16) 1 4) (num (pos 5)) ∷ shown (dot (var 3 16) 1 4 ∷ blank ∷ []) ∷ assign (dot (var 3 16) 1 4) (num (pos 8)) ∷ shown (dot (var 1 16) 1 4 ∷ blank ∷ []) ∷ [])
      ∷ (assign (dot (var 1 16) 1 4) (num (pos 1)) ∷ assign (at (var 0 18) (within (called 0 [] 4)) 16) (var 1 16)
      ∷ line (dot (at (var 0 18) (known (pos 3) 17) 16) 1 4 ∷ blank ∷ dot (var 1 16) 1 4 ∷ [])
      ∷ do_call 1 (value (var 1 16) ∷ []) ∷ assign (var 1 16) (var 1 16) ∷ line (dot (var 1 16) 1 4 ∷ []) ∷ []) ∷ []))
      ≡ writes (said (codes "1 9") ++ said (codes "9 5 5"))
  unfolding outcome
  copied_while_changed = refl

  -- ---- arrays of arrays

  -- `m[i, j]` is `m[i][j]`; a row is copied as a whole; what a function gives can be selected at once; Low, High and Length
  --   type
  --     T = array[1..3] of Integer;
  --   var
  --     m: array[1..3] of T; i, j: Integer;
  --   function f(x: T): T;
  --   begin
  --     x[1] := x[1] + 100;
  --     f := x;
  --   end;
  --   begin
  --     for i := 1 to 3 do
  --       for j := 1 to 3 do m[i, j] := 10 * i + j;
  --     m[2] := m[3];
  --     WriteLn(m[2, 2], ' ', f(m[1])[1], ' ', m[1][1], ' ', Low(m), High(m[2]), Length(m));
  --   end.
  arrays_run : outcome 400 (runs name (core_of name types [] 3 (own name 20 ∷ own name 4 ∷ own name 4 ∷ by_val name 19 ∷ gives name 19 ∷ []) (function name 19 1 3 2 ∷ []))
      ((assign (cell (var 3 19) (pos 1)) (calc (cell (var 3 19) (pos 1)) Add (num (pos 100))) ∷ assign (var 4 19) (var 3 19) ∷ [])
      ∷ (for_to (record { 0 = 1 }) (num (pos 1)) To (num (pos 3)) (for_to (record { 0 = 2 }) (num (pos 1)) To (num (pos 3))
      (assign (at (at (var 0 20) (within (var 1 4)) 19) (within (var 2 4)) 4) (calc (calc (num (pos 10)) Multiply (var 1 4)) Add (var 2 4))))
      ∷ assign (line_of (pos 2)) (line_of (pos 3))
      ∷ line (cell (line_of (pos 2)) (pos 2) ∷ blank ∷ cell (called 0 (value (line_of (pos 1)) ∷ []) 19) (pos 1) ∷ blank ∷ cell (line_of (pos 1)) (pos 1) ∷ blank
      ∷ applying Low false (var 0 20) 4 ∷ applying High false (line_of (pos 2)) 4 ∷ applying Length false (var 0 20) 4 ∷ []) ∷ []) ∷ []))
      ≡ writes (said (codes "32 111 11 133"))
  unfolding outcome
  arrays_run = refl

  -- ---- a place that is found once

  -- Inc finds its place once: the index is evaluated once
  --   var
  --     a: array[1..3] of Integer; n: Integer;
  --   function f: Integer;
  --   begin
  --     n := n + 1;
  --     f := n;
  --   end;
  --   begin
  --     Inc(a[f]);
  --     Inc(a[f], 5);
  --     WriteLn(a[1], a[2], a[3], n);
  --   end.
  found_once : outcome 120 (runs name (core_of name types [] 2 (own name 19 ∷ own name 4 ∷ gives name 4 ∷ []) (function name 4 0 2 1 ∷ []))
      ((assign (var 1 4) (calc (var 1 4) Add (num (pos 1))) ∷ assign (var 2 4) (var 1 4) ∷ [])
      ∷ (built_in (count To (record { place = at (var 0 19) (within (called 0 [] 4)) 4; store = Keep }) (num (pos 1)) false)
      ∷ built_in (count To (record { place = at (var 0 19) (within (called 0 [] 4)) 4; store = Keep }) (num (pos 5)) false)
      ∷ line (cell (var 0 19) (pos 1) ∷ cell (var 0 19) (pos 2) ∷ cell (var 0 19) (pos 3) ∷ var 1 4 ∷ []) ∷ []) ∷ []))
      ≡ writes (said (codes "1502"))
  unfolding outcome
  found_once = refl

  -- ---- literals

  -- a Char of a literal by its index, which is checked; its bounds (in Free Pascal 0 and 2, though its indices are 1 to 3)
  --   var
  --     i: Integer;
  --   begin
  --     i := 2;
  --     WriteLn('abc'[i], 'abc'[i + 1], Low('abc'), High('abc'));
  --   end.
  abbrev abc : Expression
  abc = quoted (codes "abc")

  abbrev literal_program : ℤ → Program
  literal_program n = runs name (core_of name [] [] 1 (own name 4 ∷ []) [])
      ((assign (var 0 4) (num n) ∷ line (at abc (var 0 4) 6 ∷ at abc (calc (var 0 4) Add (num (pos 1))) 6 ∷ applying Low false abc 4 ∷ applying High false abc 4 ∷ []) ∷ []) ∷ [])

  literal_runs : outcome 60 (literal_program (pos 2)) ≡ writes (said (codes "bc13"))
  unfolding outcome
  literal_runs = refl

  literal_too_low : outcome 60 (literal_program (pos 0)) ≡ fails_with [] (codes "201") 201
  unfolding outcome
  literal_too_low = refl

  literal_too_high : outcome 60 (literal_program (pos 3)) ≡ fails_with (codes "c") (codes "201") 201
  unfolding outcome
  literal_too_high = refl

  -- ---- first values

  -- of an array of records, and of a field of a record
  --   type
  --     R = record
  --       a: Byte;
  --       b: Integer;
  --     end;
  --   var
  --     xs: array[1..3] of R = ((a: 1; b: 2), (a: 3; b: 4), (a: 5; b: 6));
  --   begin
  --     xs[2].b := 9;
  --     WriteLn(xs[1].a, xs[2].a, xs[2].b, xs[3].b);
  --   end.
  abbrev pair : ℤ → ℤ → FirstValue
  pair m n = parts (values (first (Ordinal m)) (values (first (Ordinal n)) no_values))

  abbrev three_pairs : ℕ → Option FirstValue
  three_pairs zero = Some (parts (values (pair (pos 1) (pos 2)) (values (pair (pos 3) (pos 4)) (values (pair (pos 5) (pos 6)) no_values))))
  three_pairs (suc v) = None

  first_values_run : outcome 60 (record (runs name (core_of name types (part name 1 ∷ part name 4 ∷ []) 1 (own name 18 ∷ []) [])
      ((assign (dot (element (known (pos 2) 17)) 1 4) (num (pos 9))
      ∷ line (to Keep 4 (dot (element (known (pos 1) 17)) 0 1) ∷ to Keep 4 (dot (element (known (pos 2) 17)) 0 1) ∷ dot (element (known (pos 2) 17)) 1 4 ∷ dot (element (known (pos 3) 17)) 1 4 ∷ []) ∷ []) ∷ [])) { first = three_pairs })
      ≡ writes (said (codes "1396"))
  unfolding outcome
  first_values_run = refl
