-- Programs that are run by computation: choices and loops. Above each stands its text; what is expected is what Free Pascal writes, or
-- what the profile says where that is another thing (a loop whose variable is changed, a copy that is gone over).
use Rattle.std.specs.Prelude.{◌≡◌, ℕ, ℤ, pos, [], ◌∷◌, ◌++◌, codes}
use Rattle.std.proofs.Common.{refl}
use Rattle.op_core.specs.Expression.{value, one}
use Rattle.op_core.specs.Statement.{Statement, branches, no_branches, assign, block, if_then, case_of, while_do, repeat_until, for_to, for_in, break, continue}
use Rattle.op_core.specs.Types.{id}
use Rattle.op_core.specs.declared.ids.VariableId.{VariableId}
use Rattle.op_core.specs.declared.operation.Conversion.TheVariants.{Keep}
use Rattle.op_core.specs.declared.statement.Label.{Label}
use Rattle.op_core.specs.declared.types.CoreType.TheVariants.{Set, Subrange, Array}
use Rattle.op_meaning.proofs.Programs.{outcome, writes, fails_with, said, var, num, known, calc, test, to, at, set_of_all, called, listed, line, shown, text, do_call, own, by_val, gives, procedure, function, core_of, runs}
use Rattle.op_tree.specs.declared.operator.Operator.TheVariants.{Equal, Less, Greater, Add}
use Rattle.op_tree.specs.declared.position.Name.{Name}
use Rattle.op_tree.specs.declared.statement.Direction.TheVariants.{To, Downto}

-- the values from one to another
abbrev from_to : ℤ → ℤ → Label
from_to m n = record { first = m; last = n; nodes = 1; words = 0 }

abbrev v : ℕ → VariableId
v n = record { 0 = n }

module _ (name : Name) where
  -- ---- for

  -- a sum of a hundred terms
  --   var i, s: Integer;
  --   begin
  --     for i := 1 to 100 do s := s + i;
  --     WriteLn(s);
  --   end.
  sum_runs : outcome 1100 (runs name (core_of name [] [] 2 (own name 4 ∷ own name 4 ∷ []) [])
      ((for_to (v 0) (num (pos 1)) To (num (pos 100)) (assign (var 1 4) (calc (var 1 4) Add (var 0 4))) ∷ line (var 1 4 ∷ []) ∷ []) ∷ []))
      ≡ writes (said (codes "5050"))
  unfolding outcome
  sum_runs = refl

  -- the variable of a loop that a callee changes: each turn stores the next value all the same, and what is stored last stays. Free
  -- Pascal counts by the variable itself
  --   var i: Integer;
  --   procedure p;
  --   begin
  --     i := i + 10;
  --   end;
  --   begin
  --     for i := 1 to 3 do begin
  --       Write(i, ' '); p; Write(i, ' ');
  --     end;
  --     WriteLn(i);
  --   end.
  changed_by_callee : outcome 120 (runs name (core_of name [] [] 1 (own name 4 ∷ []) (procedure name 0 1 0 ∷ []))
      ((assign (var 0 4) (calc (var 0 4) Add (num (pos 10))) ∷ [])
      ∷ (for_to (v 0) (num (pos 1)) To (num (pos 3)) (block (listed (shown (var 0 4 ∷ known (pos 32) 6 ∷ []) ∷ do_call 0 [] ∷ shown (var 0 4 ∷ known (pos 32) 6 ∷ []) ∷ []))) ∷ line (var 0 4 ∷ []) ∷ []) ∷ []))
      ≡ writes (said (codes "1 11 2 12 3 13 13"))
  unfolding outcome
  changed_by_callee = refl

  -- both bounds are evaluated once, the first one first, and what the body does to a bound changes nothing
  --   var i, n: Integer;
  --   function f(x: Integer): Integer;
  --   begin
  --     Write('f', x, ' ');
  --     f := x;
  --   end;
  --   begin
  --     n := 3;
  --     for i := f(1) to f(n) do begin
  --       n := 1;
  --       Write(i, ' ');
  --     end;
  --     for i := f(2) downto f(n) do Write(i, ' ');
  --     WriteLn(n);
  --   end.
  bounds_once : outcome 200 (runs name (core_of name [] [] 2 (own name 4 ∷ own name 4 ∷ by_val name 4 ∷ gives name 4 ∷ []) (function name 4 1 2 2 ∷ []))
      ((shown (known (pos 102) 6 ∷ var 2 4 ∷ known (pos 32) 6 ∷ []) ∷ assign (var 3 4) (var 2 4) ∷ [])
      ∷ (assign (var 1 4) (num (pos 3))
      ∷ for_to (v 0) (called 0 (value (num (pos 1)) ∷ []) 4) To (called 0 (value (var 1 4) ∷ []) 4) (block (listed (assign (var 1 4) (num (pos 1)) ∷ shown (var 0 4 ∷ known (pos 32) 6 ∷ []) ∷ [])))
      ∷ for_to (v 0) (called 0 (value (num (pos 2)) ∷ []) 4) Downto (called 0 (value (var 1 4) ∷ []) 4) (shown (var 0 4 ∷ known (pos 32) 6 ∷ []))
      ∷ line (var 1 4 ∷ []) ∷ []) ∷ []))
      ≡ writes (said (codes "f1 f3 1 2 3 f2 f1 2 1 1"))
  unfolding outcome
  bounds_once = refl

  -- a loop without a turn leaves its variable as it is, and its bounds may lie outside of the variable's type
  --   var b: Byte; i: Integer;
  --   begin
  --     b := 7; i := 300;
  --     for b := i to 10 do Write('x');
  --     for b := 254 to 255 do Write(b, ' ');
  --     WriteLn(b);
  --     for b := 254 to i do Write('y');
  --   end.
  -- One with a turn is error 201 before it.
  bound_out_of_range : outcome 120 (runs name (core_of name [] [] 2 (own name 1 ∷ own name 4 ∷ []) [])
      ((assign (var 0 1) (known (pos 7) 1) ∷ assign (var 1 4) (num (pos 300)) ∷ for_to (v 0) (var 1 4) To (num (pos 10)) (text (codes "x"))
      ∷ for_to (v 0) (num (pos 254)) To (num (pos 255)) (shown (var 0 1 ∷ known (pos 32) 6 ∷ [])) ∷ line (var 0 1 ∷ [])
      ∷ for_to (v 0) (num (pos 254)) To (var 1 4) (text (codes "y")) ∷ []) ∷ []))
      ≡ fails_with (codes "254 255 " ++ said (codes "255")) (codes "201") 201
  unfolding outcome
  bound_out_of_range = refl

  -- the last value may be the greatest one there is
  --   var i: Integer; c: Char;
  --   begin
  --     for i := 2147483646 to 2147483647 do Write(i, ' ');
  --     for c := 'c' downto 'a' do Write(c);
  --     WriteLn;
  --   end.
  greatest_bound : outcome 120 (runs name (core_of name [] [] 2 (own name 4 ∷ own name 6 ∷ []) [])
      ((for_to (v 0) (num (pos 2147483646)) To (num (pos 2147483647)) (shown (var 0 4 ∷ known (pos 32) 6 ∷ []))
      ∷ for_to (v 1) (known (pos 99) 6) Downto (known (pos 97) 6) (shown (var 1 6 ∷ [])) ∷ line [] ∷ []) ∷ []))
      ≡ writes (said (codes "2147483646 2147483647 cba"))
  unfolding outcome
  greatest_bound = refl

  abbrev element : ℤ → ℤ → Statement
  element k n = assign (at (var 0 18) (known k 16) 4) (num n)

  -- a loop over a static array goes over a copy of it, where Free Pascal shows 9, and one over a set in ascending order
  --   type Small = 1..3;
  --   var a: array[Small] of Integer; x: Integer; e: Small;
  --   begin
  --     a[1] := 4; a[2] := 5; a[3] := 6;
  --     for x in a do begin
  --       a[3] := 9;
  --       Write(x, ' ');
  --     end;
  --     for e in [3, 1] do Write(e);
  --     WriteLn;
  --   end.
  over_collections : outcome 200 (runs name (core_of name (Subrange (id 4) (pos 1) (pos 3) ∷ Set (id 16) ∷ Array (id 16) (id 4) ∷ []) [] 3 (own name 18 ∷ own name 4 ∷ own name 16 ∷ []) [])
      ((element (pos 1) (pos 4) ∷ element (pos 2) (pos 5) ∷ element (pos 3) (pos 6)
      ∷ for_in (v 1) Keep (var 0 18) (block (listed (element (pos 3) (pos 9) ∷ shown (var 1 4 ∷ known (pos 32) 6 ∷ []) ∷ [])))
      ∷ for_in (v 2) Keep (set_of_all (one (known (pos 3) 16) ∷ one (known (pos 1) 16) ∷ []) 17) (shown (to Keep 4 (var 2 16) ∷ []))
      ∷ line [] ∷ []) ∷ []))
      ≡ writes (said (codes "4 5 6 13"))
  unfolding outcome
  over_collections = refl

  -- ---- while and repeat

  -- Continue goes to the test, and Break behind the loop, of the innermost loop
  --   var i, j: Integer;
  --   begin
  --     while i < 4 do begin
  --       i := i + 1;
  --       if i = 2 then Continue;
  --       j := 0;
  --       repeat
  --         j := j + 1;
  --         if j = 2 then Continue;
  --         if j = 4 then Break;
  --         Write(i, j, ' ');
  --       until j + i > 6;
  --       if i = 3 then Break;
  --     end;
  --     WriteLn(i, j);
  --   end.
  left_and_continued : outcome 400 (runs name (core_of name [] [] 2 (own name 4 ∷ own name 4 ∷ []) [])
      ((while_do (test (var 0 4) Less (num (pos 4))) (block (listed (
      assign (var 0 4) (calc (var 0 4) Add (num (pos 1)))
      ∷ if_then (test (var 0 4) Equal (num (pos 2))) continue
      ∷ assign (var 1 4) (num (pos 0))
      ∷ repeat_until (listed (
      assign (var 1 4) (calc (var 1 4) Add (num (pos 1)))
      ∷ if_then (test (var 1 4) Equal (num (pos 2))) continue
      ∷ if_then (test (var 1 4) Equal (num (pos 4))) break
      ∷ shown (var 0 4 ∷ var 1 4 ∷ known (pos 32) 6 ∷ []) ∷ []))
      (test (calc (var 1 4) Add (var 0 4)) Greater (num (pos 6)))
      ∷ if_then (test (var 0 4) Equal (num (pos 3))) break ∷ [])))
      ∷ line (var 0 4 ∷ var 1 4 ∷ []) ∷ []) ∷ []))
      ≡ writes (said (codes "11 13 31 33 34"))
  unfolding outcome
  left_and_continued = refl

  -- a body that is done at least once, and one that is never done
  --   begin
  --     repeat Write('r'); until True;
  --     while False do Write('w');
  --     WriteLn;
  --   end.
  once_and_never : outcome 40 (runs name (core_of name [] [] 0 [] [])
      ((repeat_until (listed (text (codes "r") ∷ [])) (known (pos 1) 5) ∷ while_do (known (pos 0) 5) (text (codes "w")) ∷ line [] ∷ []) ∷ []))
      ≡ writes (said (codes "r"))
  unfolding outcome
  once_and_never = refl

  -- ---- case

  -- the branch with the value, the statements behind `else`, or nothing
  --   var i: Integer;
  --   begin
  --     for i := 0 to 7 do
  --       case i of
  --         1: Write('a');
  --         2, 4..5: Write('b');
  --       else
  --         Write('-');
  --       end;
  --     for i := 0 to 7 do
  --       case i of
  --         6: Write('c');
  --       end;
  --     case 3 of
  --       3: ;
  --     else
  --       Write('x');
  --     end;
  --     WriteLn;
  --   end.
  chosen_by_label : outcome 400 (runs name (core_of name [] [] 1 (own name 4 ∷ []) [])
      ((for_to (v 0) (num (pos 0)) To (num (pos 7)) (case_of (var 0 4)
      (branches (from_to (pos 1) (pos 1) ∷ []) (text (codes "a")) (branches (from_to (pos 2) (pos 2) ∷ from_to (pos 4) (pos 5) ∷ []) (text (codes "b")) no_branches))
      (listed (text (codes "-") ∷ [])))
      ∷ for_to (v 0) (num (pos 0)) To (num (pos 7)) (case_of (var 0 4) (branches (from_to (pos 6) (pos 6) ∷ []) (text (codes "c")) no_branches) (listed []))
      ∷ case_of (num (pos 3)) (branches (from_to (pos 3) (pos 3) ∷ []) (block (listed [])) no_branches) (listed (text (codes "x") ∷ []))
      ∷ line [] ∷ []) ∷ []))
      ≡ writes (said (codes "-ab-bb--c"))
  unfolding outcome
  chosen_by_label = refl
