-- Programs that are run by computation: finally parts, and how they are come to. Above each stands its text; what is expected is what
-- Free Pascal writes, but for the error at the end.
use Rattle.std.specs.Prelude.{◌≡◌, pos, [], ◌∷◌, codes}
use Rattle.std.proofs.Common.{refl}
use Rattle.op_core.specs.Expression.{value}
use Rattle.op_core.specs.Statement.{Statement, assign, block, if_then, while_do, for_to, try_finally, exit, exit_with, break, continue}
use Rattle.op_core.specs.declared.ids.VariableId.{VariableId}
use Rattle.op_meaning.proofs.Programs.{outcome, writes, fails_with, said, var, num, known, quoted, calc, test, called, listed, line, shown, text, do_call, own, by_val, gives, procedure, function, core_of, runs}
use Rattle.op_meaning.specs.Frames.{Program}
use Rattle.op_tree.specs.declared.operator.Operator.TheVariants.{Equal, Div}
use Rattle.op_tree.specs.declared.position.Name.{Name}
use Rattle.op_tree.specs.declared.statement.Direction.TheVariants.{To}

abbrev i : VariableId
i = record { 0 = 0 }

module _ (name : Name) where
  -- nothing is done
  --   begin
  --   end.
  empty_runs : outcome 10 (runs name (core_of name [] [] 0 [] []) ([] ∷ [])) ≡ writes []
  unfolding outcome
  empty_runs = refl

  -- Exit out of a protected part
  --   procedure P;
  --   begin
  --     try Exit; finally WriteLn('f'); end;
  --     WriteLn('no');
  --   end;
  --   begin
  --     P;
  --   end.
  left_by_exit : outcome 30 (runs name (core_of name [] [] 0 [] (procedure name 0 0 0 ∷ []))
      ((try_finally (listed (exit ∷ [])) (listed (line (quoted (codes "f") ∷ []) ∷ [])) ∷ line (quoted (codes "no") ∷ []) ∷ []) ∷ (do_call 0 [] ∷ []) ∷ []))
      ≡ writes (said (codes "f"))
  unfolding outcome
  left_by_exit = refl

  -- two finally parts round a statement of a loop
  abbrev nested : Statement → Program
  nested leaves = runs name (core_of name [] [] 1 (own name 4 ∷ []) [])
      ((for_to i (num (pos 1)) To (num (pos 3))
      (try_finally (listed (try_finally (listed (if_then (test (var 0 4) Equal (num (pos 2))) leaves ∷ shown (var 0 4 ∷ []) ∷ [])) (listed (text (codes "a") ∷ [])) ∷ text (codes ".") ∷ []))
      (listed (text (codes "b") ∷ [])))
      ∷ line (var 0 4 ∷ []) ∷ []) ∷ [])

  -- left by Break
  --   var i: Integer;
  --   begin
  --     for i := 1 to 3 do
  --       try
  --         try
  --           if i = 2 then Break;
  --           Write(i);
  --         finally
  --           Write('a');
  --         end;
  --         Write('.');
  --       finally
  --         Write('b');
  --       end;
  --     WriteLn(i);
  --   end.
  left_by_break : outcome 150 (nested break) ≡ writes (said (codes "1a.bab2"))
  unfolding outcome
  left_by_break = refl

  -- left by Continue
  --   var i: Integer;
  --   begin
  --     for i := 1 to 3 do
  --       try
  --         try
  --           if i = 2 then Continue;
  --           Write(i);
  --         finally
  --           Write('a');
  --         end;
  --         Write('.');
  --       finally
  --         Write('b');
  --       end;
  --     WriteLn(i);
  --   end.
  left_by_continue : outcome 150 (nested continue) ≡ writes (said (codes "1a.bab3a.b3"))
  unfolding outcome
  left_by_continue = refl

  -- left by Exit, which leaves the main part
  --   var i: Integer;
  --   begin
  --     for i := 1 to 3 do
  --       try
  --         try
  --           if i = 2 then Exit;
  --           Write(i);
  --         finally
  --           Write('a');
  --         end;
  --         Write('.');
  --       finally
  --         Write('b');
  --       end;
  --     WriteLn(i);
  --   end.
  left_by_exit_of_main : outcome 150 (nested exit) ≡ writes (codes "1a.bab")
  unfolding outcome
  left_by_exit_of_main = refl

  -- a loop within a finally part has its own Break, and what was left goes on behind it; the result is what was stored at Exit
  --   var r: Integer;
  --   function f: Integer;
  --   var k: Integer;
  --   begin
  --     f := 1;
  --     while True do
  --       try
  --         Exit(7);
  --       finally
  --         for k := 1 to 3 do begin
  --           try
  --             if k = 2 then Break;
  --             Write(k);
  --           finally
  --             Write('c');
  --           end;
  --         end;
  --         Write('d');
  --       end;
  --   end;
  --   begin
  --     r := f;
  --     WriteLn(r);
  --   end.
  break_within : outcome 150 (runs name (core_of name [] [] 1 (own name 4 ∷ gives name 4 ∷ own name 4 ∷ []) (function name 4 0 1 2 ∷ []))
      ((assign (var 1 4) (num (pos 1))
      ∷ while_do (known (pos 1) 5) (try_finally (listed (exit_with (num (pos 7)) ∷ []))
      (listed (for_to (record { 0 = 2 }) (num (pos 1)) To (num (pos 3)) (block (listed (
      try_finally (listed (if_then (test (var 2 4) Equal (num (pos 2))) break ∷ shown (var 2 4 ∷ []) ∷ [])) (listed (text (codes "c") ∷ [])) ∷ [])))
      ∷ text (codes "d") ∷ []))) ∷ [])
      ∷ (assign (var 0 4) (called 0 [] 4) ∷ line (var 0 4 ∷ []) ∷ []) ∷ []))
      ≡ writes (said (codes "1ccd7"))
  unfolding outcome
  break_within = refl

  -- a callee's Exit leaves the callee alone
  --   procedure p(n: Integer);
  --   begin
  --     try
  --       if n = 1 then Exit;
  --       Write('n');
  --     finally
  --       Write('p');
  --     end;
  --     Write('q');
  --   end;
  --   begin
  --     try
  --       p(1);
  --       p(2);
  --     finally
  --       WriteLn('m');
  --     end;
  --   end.
  exit_of_callee : outcome 100 (runs name (core_of name [] [] 0 (by_val name 4 ∷ []) (procedure name 1 0 1 ∷ []))
      ((try_finally (listed (if_then (test (var 0 4) Equal (num (pos 1))) exit ∷ text (codes "n") ∷ [])) (listed (text (codes "p") ∷ [])) ∷ text (codes "q") ∷ [])
      ∷ (try_finally (listed (do_call 0 (value (num (pos 1)) ∷ []) ∷ do_call 0 (value (num (pos 2)) ∷ []) ∷ [])) (listed (line (quoted (codes "m") ∷ []) ∷ [])) ∷ []) ∷ []))
      ≡ writes (said (codes "pnpqm"))
  unfolding outcome
  exit_of_callee = refl

  -- a run-time error ends the program at once: no finally part is done, where Free Pascal still writes `f`
  --   var i: Integer;
  --   begin
  --     try
  --       Write('t');
  --       i := 1 div i;
  --     finally
  --       Write('f');
  --     end;
  --   end.
  error_in_protected : outcome 40 (runs name (core_of name [] [] 1 (own name 4 ∷ []) [])
      ((try_finally (listed (text (codes "t") ∷ assign (var 0 4) (calc (num (pos 1)) Div (var 0 4)) ∷ [])) (listed (text (codes "f") ∷ [])) ∷ []) ∷ []))
      ≡ fails_with (codes "t") (codes "200") 200
  unfolding outcome
  error_in_protected = refl
