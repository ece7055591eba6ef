-- Managed code that is run by computation: it writes what the source machine writes. Above each program stands its text.
use Rattle.std.specs.Prelude.{◌≡◌, ℕ, pos, [], ◌∷◌, codes}
use Rattle.std.specs.Int.{int_wrap}
use Rattle.std.proofs.Common.{refl}
use Rattle.op_meaning.specs.Spots.{spots_from}
use Rattle.op_simulation.specs.System.{run}
use Rattle.op_core.specs.Statement.{if_then, for_to, try_finally, exit, break}
use Rattle.op_core.specs.declared.ids.VariableId.{VariableId}
use Rattle.op_meaning.proofs.Programs.{Outcome, writes, said, var, num, quoted, test, listed, line, shown, text, do_call, own, procedure, core_of, runs}
use Rattle.op_meaning.specs.Actions.{perform}
use Rattle.op_meaning.specs.Frames.{Program}
use Rattle.op_meaning.specs.Holding.{each, any_below}
use Rattle.op_meaning.specs.Sets.{bits_below}
use Rattle.op_meaning.specs.Texts.{decimal_by}
use Rattle.op_tree.specs.declared.operator.Operator.TheVariants.{Equal}
use Rattle.op_tree.specs.declared.position.Name.{Name}
use Rattle.op_tree.specs.declared.statement.Direction.TheVariants.{To}
use Rattle.op_mir.specs.Machine.{MirState, code_of, execute, mir_done, mir_acted, mir_stepped, mir_step_by, mir_step, mir_machine, mir_start}

abbrev outcome_of : MirState → Outcome
outcome_of m = record { output = m.world.output; errors = m.world.errors; ending = m.world.ending }

-- of so many instructions without input
unfoldable pub code_outcome : ℕ → Program → Outcome
unfolding run mir_step mir_step_by mir_stepped mir_acted mir_done execute perform bits_below decimal_by int_wrap each any_below spots_from
code_outcome n p = outcome_of (run (mir_machine (code_of p)) n (mir_start p []))

abbrev i : VariableId
i = record { 0 = 0 }

module _ (name : Name) where
  -- Exit out of a protected part
  --   procedure P;
  --   begin
  --     try Exit; finally WriteLn('f'); end;
  --     WriteLn('no');
  --   end;
  --   begin
  --     P;
  --   end.
  left_by_exit : code_outcome 30 (runs name (core_of name [] [] 0 [] (procedure name 0 0 0 ∷ []))
      ((try_finally (listed (exit ∷ [])) (listed (line (quoted (codes "f") ∷ []) ∷ [])) ∷ line (quoted (codes "no") ∷ []) ∷ []) ∷ (do_call 0 [] ∷ []) ∷ []))
      ≡ writes (said (codes "f"))
  unfolding code_outcome
  left_by_exit = refl

  -- Break out of a finally part in a loop
  --   var i: Integer;
  --   begin
  --     for i := 1 to 3 do
  --       try
  --         if i = 2 then Break;
  --         Write(i);
  --       finally
  --         Write('b');
  --       end;
  --     WriteLn(i);
  --   end.
  left_by_break : code_outcome 100 (runs name (core_of name [] [] 1 (own name 4 ∷ []) [])
      ((for_to i (num (pos 1)) To (num (pos 3))
      (try_finally (listed (if_then (test (var 0 4) Equal (num (pos 2))) break ∷ shown (var 0 4 ∷ []) ∷ [])) (listed (text (codes "b") ∷ [])))
      ∷ line (var 0 4 ∷ []) ∷ []) ∷ []))
      ≡ writes (said (codes "1bb2"))
  unfolding code_outcome
  left_by_break = refl
