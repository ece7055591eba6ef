-- Programs that are run by computation: routines, their parameters and results, and the stack that they are charged. Above each stands
-- its text; what is expected is what Free Pascal writes, or what the profile says where that is another thing (charges, order, what begins as zero).
use Rattle.std.specs.Prelude.{◌≡◌, ℕ, zero, suc, ℤ, pos, [], ◌∷◌, Option, Some, None, codes}
use Rattle.std.proofs.Common.{refl}
use Rattle.op_core.specs.Expression.{Expression, value, place}
use Rattle.op_core.specs.Initial.{FirstValue, constant as first}
use Rattle.op_core.specs.Statement.{assign, if_then, if_else, exit_with, call}
use Rattle.op_core.specs.declared.constant.Const.TheVariants.{Ordinal}
use Rattle.op_meaning.proofs.Programs.{outcome, writes, fails_with, said, var, num, known, calc, test, called, line, shown, do_call, own, by_val, by_var, by_const, by_out, gives, procedure, function, core_of, runs}
use Rattle.op_meaning.specs.Frames.{Program}
use Rattle.op_tree.specs.declared.operator.Operator.TheVariants.{Equal, Less, Greater, Add, Subtract, Multiply}
use Rattle.op_tree.specs.declared.position.Name.{Name}

-- the first routine is charged the first number, the one behind it, which is the main part, the second
abbrev charges : ℕ → ℕ → ℕ → ℕ
charges f main zero = f
charges f main (suc r) = main

abbrev blank : Expression
blank = known (pos 32) 6

abbrev next : Expression
next = called 0 [] 4

module _ (name : Name) where
  -- ---- charges

  -- An activation of f is charged 256, 4 for its parameter and 16 for each of its 9 nodes, which makes 404, and the main part 256 and 16
  -- for each of its 3 nodes, which makes 304.
  --   procedure f(n: Integer);
  --   begin
  --     if n > 0 then f(n - 1);
  --   end;
  --   begin
  --     f(38);
  --   end.
  abbrev deep_program : ℤ → ℕ → Program
  deep_program n stack = record (runs name (core_of name [] [] 0 (by_val name 4 ∷ []) (procedure name 1 0 1 ∷ []))
      ((if_then (test (var 0 4) Greater (num (pos 0))) (do_call 0 (value (calc (var 0 4) Subtract (num (pos 1))) ∷ [])) ∷ [])
      ∷ (do_call 0 (value (num n) ∷ []) ∷ []) ∷ [])) {
        charge = charges 404 304;
        stack = stack;
      }

  -- 39 activations of f and the main part make 16,060 of 16,384 bytes
  deep_ends : outcome 700 (deep_program (pos 38) 16384) ≡ writes []
  unfolding outcome
  deep_ends = refl

  -- one more makes 16,464
  too_deep : outcome 700 (deep_program (pos 39) 16384) ≡ fails_with [] (codes "202") 202
  unfolding outcome
  too_deep = refl

  -- the stack may be full to the last byte, and not one byte more
  exactly_full : outcome 700 (deep_program (pos 38) 16060) ≡ writes []
  unfolding outcome
  exactly_full = refl

  one_byte_more : outcome 700 (deep_program (pos 38) 16059) ≡ fails_with [] (codes "202") 202
  unfolding outcome
  one_byte_more = refl

  -- the main part is charged too
  no_room_for_main : outcome 20 (deep_program (pos 0) 303) ≡ fails_with [] (codes "202") 202
  unfolding outcome
  no_room_for_main = refl

  -- what has returned is charged no more
  --   procedure f(n: Integer);
  --   begin
  --     Write(n);
  --   end;
  --   begin
  --     f(1); f(2); f(3);
  --   end.
  charged_while_under_way : outcome 60 (record (runs name (core_of name [] [] 0 (by_val name 4 ∷ []) (procedure name 1 0 1 ∷ []))
      ((shown (var 0 4 ∷ []) ∷ []) ∷ (do_call 0 (value (num (pos 1)) ∷ []) ∷ do_call 0 (value (num (pos 2)) ∷ []) ∷ do_call 0 (value (num (pos 3)) ∷ []) ∷ []) ∷ [])) { stack = 608 })
      ≡ writes (codes "123")
  unfolding outcome
  charged_while_under_way = refl

  -- ---- results

  -- a function that calls itself
  --   function fac(n: Integer): Integer;
  --   begin
  --     if n = 0 then fac := 1 else fac := n * fac(n - 1);
  --   end;
  --   function fib(n: Integer): Integer;
  --   begin
  --     if n < 2 then Exit(n);
  --     Result := fib(n - 1) + fib(n - 2);
  --   end;
  --   begin
  --     WriteLn(fac(10), ' ', fib(6));
  --   end.
  results_run : outcome 800 (runs name (core_of name [] [] 0 (by_val name 4 ∷ gives name 4 ∷ by_val name 4 ∷ gives name 4 ∷ []) (function name 4 1 0 2 ∷ function name 4 1 2 2 ∷ []))
      ((if_else (test (var 0 4) Equal (num (pos 0))) (assign (var 1 4) (num (pos 1))) (assign (var 1 4) (calc (var 0 4) Multiply (called 0 (value (calc (var 0 4) Subtract (num (pos 1))) ∷ []) 4))) ∷ [])
      ∷ (if_then (test (var 2 4) Less (num (pos 2))) (exit_with (var 2 4))
      ∷ assign (var 3 4) (calc (called 1 (value (calc (var 2 4) Subtract (num (pos 1))) ∷ []) 4) Add (called 1 (value (calc (var 2 4) Subtract (num (pos 2))) ∷ []) 4)) ∷ [])
      ∷ (line (called 0 (value (num (pos 10)) ∷ []) 4 ∷ known (pos 32) 6 ∷ called 1 (value (num (pos 6)) ∷ []) 4 ∷ []) ∷ []) ∷ []))
      ≡ writes (said (codes "3628800 8"))
  unfolding outcome
  results_run = refl

  -- a result begins as zero (in Free Pascal as anything), and a call as a statement drops it
  --   var n: Integer;
  --   function f(b: Boolean): Integer;
  --   begin
  --     n := n + 1;
  --     if b then f := 5;
  --   end;
  --   begin
  --     f(True);
  --     WriteLn(f(True), f(False), n);
  --   end.
  result_begins_as_zero : outcome 120 (runs name (core_of name [] [] 1 (own name 4 ∷ by_val name 5 ∷ gives name 4 ∷ []) (function name 4 1 1 2 ∷ []))
      ((assign (var 0 4) (calc (var 0 4) Add (num (pos 1))) ∷ if_then (var 1 5) (assign (var 2 4) (num (pos 5))) ∷ [])
      ∷ (call (called 0 (value (known (pos 1) 5) ∷ []) 4) ∷ line (called 0 (value (known (pos 1) 5) ∷ []) 4 ∷ called 0 (value (known (pos 0) 5) ∷ []) 4 ∷ var 0 4 ∷ []) ∷ []) ∷ []))
      ≡ writes (said (codes "503"))
  unfolding outcome
  result_begins_as_zero = refl

  -- ---- parameters

  -- a value is a copy, a variable parameter is the variable itself, also twice the same one, and also where it is handed on
  --   var n: Integer;
  --   procedure inner(var a, b: Integer);
  --   begin
  --     a := a + 1;
  --     b := b * 2;
  --     Write(a, ' ', b, ' ');
  --   end;
  --   procedure outer(v: Integer; const c: Integer; var x: Integer; out o: Integer);
  --   begin
  --     v := v + 100;
  --     x := x + 10;
  --     Write(v, ' ', c, ' ');
  --     inner(x, x);
  --     o := 7;
  --   end;
  --   var m: Integer;
  --   begin
  --     n := 1;
  --     outer(n, n + 1, n, m);
  --     WriteLn(n, ' ', m);
  --   end.
  parameters_run : outcome 200 (runs name (core_of name [] [] 2 (own name 4 ∷ own name 4 ∷ by_var name 4 ∷ by_var name 4 ∷ by_val name 4 ∷ by_const name 4 ∷ by_var name 4 ∷ by_out name 4 ∷ [])
      (procedure name 2 2 2 ∷ procedure name 4 4 4 ∷ []))
      ((assign (var 2 4) (calc (var 2 4) Add (num (pos 1))) ∷ assign (var 3 4) (calc (var 3 4) Multiply (num (pos 2))) ∷ shown (var 2 4 ∷ blank ∷ var 3 4 ∷ blank ∷ []) ∷ [])
      ∷ (assign (var 4 4) (calc (var 4 4) Add (num (pos 100))) ∷ assign (var 6 4) (calc (var 6 4) Add (num (pos 10))) ∷ shown (var 4 4 ∷ blank ∷ var 5 4 ∷ blank ∷ [])
      ∷ do_call 0 (place (var 6 4) ∷ place (var 6 4) ∷ []) ∷ assign (var 7 4) (num (pos 7)) ∷ [])
      ∷ (assign (var 0 4) (num (pos 1)) ∷ do_call 1 (value (var 0 4) ∷ value (calc (var 0 4) Add (num (pos 1))) ∷ place (var 0 4) ∷ place (var 1 4) ∷ []) ∷ line (var 0 4 ∷ blank ∷ var 1 4 ∷ []) ∷ []) ∷ []))
      ≡ writes (said (codes "101 2 24 24 24 7"))
  unfolding outcome
  parameters_run = refl

  -- arguments are evaluated from the left to the right (in Free Pascal from the right to the left)
  --   var n: Integer;
  --   function next: Integer;
  --   begin
  --     n := n + 1;
  --     next := n;
  --   end;
  --   procedure show(a, b, c: Integer);
  --   begin
  --     WriteLn(a, b, c);
  --   end;
  --   begin
  --     show(next, next * 2, next + next * 10);
  --   end.
  evaluated_in_order : outcome 160 (runs name (core_of name [] [] 1 (own name 4 ∷ gives name 4 ∷ by_val name 4 ∷ by_val name 4 ∷ by_val name 4 ∷ []) (function name 4 0 1 1 ∷ procedure name 3 2 3 ∷ []))
      ((assign (var 0 4) (calc (var 0 4) Add (num (pos 1))) ∷ assign (var 1 4) (var 0 4) ∷ [])
      ∷ (line (var 2 4 ∷ var 3 4 ∷ var 4 4 ∷ []) ∷ [])
      ∷ (do_call 1 (value next ∷ value (calc next Multiply (num (pos 2))) ∷ value (calc next Add (calc next Multiply (num (pos 10)))) ∷ []) ∷ []) ∷ []))
      ≡ writes (said (codes "1443"))
  unfolding outcome
  evaluated_in_order = refl

  -- ---- locals

  -- each activation has its own variables, which begin as zero (in Free Pascal as anything) or with their first value
  --   procedure p(n: Integer);
  --   var z: Integer; k: Integer = 5;
  --   begin
  --     z := z + n;
  --     k := k + n;
  --     if n > 1 then p(n - 1);
  --     Write(z, ' ', k, ' ');
  --   end;
  --   var g: Integer = 40;
  --   begin
  --     p(2);
  --     p(1);
  --     WriteLn(g + 2);
  --   end.
  abbrev first_values : ℕ → Option FirstValue
  first_values zero = Some (first (Ordinal (pos 40)))
  first_values (suc (suc (suc zero))) = Some (first (Ordinal (pos 5)))
  first_values _ = None

  first_values_run : outcome 200 (record (runs name (core_of name [] [] 1 (own name 4 ∷ by_val name 4 ∷ own name 4 ∷ own name 4 ∷ []) (procedure name 1 1 3 ∷ []))
      ((assign (var 2 4) (calc (var 2 4) Add (var 1 4)) ∷ assign (var 3 4) (calc (var 3 4) Add (var 1 4))
      ∷ if_then (test (var 1 4) Greater (num (pos 1))) (do_call 0 (value (calc (var 1 4) Subtract (num (pos 1))) ∷ [])) ∷ shown (var 2 4 ∷ blank ∷ var 3 4 ∷ blank ∷ []) ∷ [])
      ∷ (do_call 0 (value (num (pos 2)) ∷ []) ∷ do_call 0 (value (num (pos 1)) ∷ []) ∷ line (calc (var 0 4) Add (num (pos 2)) ∷ []) ∷ []) ∷ [])) { first = first_values })
      ≡ writes (said (codes "1 6 2 7 1 6 42"))
  unfolding outcome
  first_values_run = refl
