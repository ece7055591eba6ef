-- Some programs and statements are tested by computation.
use Rattle.std.proofs.Common.{◌≡◌, true, false, [], ◌∷◌, Option, Some, None, refl}
use Rattle.std.specs.Prelude.{Bool, pos, codes}
use Rattle.op_core.specs.Expression.{expression, constant, eof, no_steps}
use Rattle.op_core.specs.Statement.{assign, built_in, count, empty, for_to, no_handlers, no_statements, read, try_finally, try_on, while_do}
use Rattle.op_core.specs.Types.{id}
use Rattle.op_core.specs.declared.constant.Const.TheVariants.{Ordinal}
use Rattle.op_core.specs.declared.ids.RoutineId.{RoutineId}
use Rattle.op_core.specs.declared.operation.Conversion.TheVariants.{Keep}
use Rattle.op_core.specs.declared.program.Core.{Core}
use Rattle.op_meaning.proofs.Programs.{calc, core_of, function, gives, by_val, by_var, line, listed, num, own, quoted, var}
use Rattle.op_plain.specs.Plain.{are_plain_statements, is_plain_by, is_plain_program, is_plain_unit, takes_few}
use Rattle.op_tree.specs.declared.operator.Operator.TheVariants.{Add}
use Rattle.op_tree.specs.declared.position.Name.{Name}
use Rattle.op_typing.specs.SimpleTests.{is_short_text}
use Rattle.op_tree.specs.declared.statement.Direction.TheVariants.{To}

module _ (name : Name) where
  -- var i: Integer; function F(n: Integer; var m: Integer): Integer;
  abbrev core : Core
  core = core_of name [] [] 1 (own name 4 ∷ by_val name 4 ∷ by_var name 4 ∷ gives name 4 ∷ []) (function name 4 2 1 3 ∷ [])

  tables_pass : is_plain_program core ≡ true
  unfolding is_plain_by
  tables_pass = refl

  -- a unit with an initialization part, a finalization part or none
  abbrev with_parts : Option RoutineId → Option RoutineId → Bool
  with_parts first last = is_plain_unit core (record { name = []; globals = record { first = 0; count = 0 }; initialization = first; finalization = last })

  -- the main part gives nothing, and the function an Integer
  no_part_passes : with_parts None None ≡ true
  no_part_passes = refl

  first_part_passes : with_parts (Some (record { 0 = 1 })) None ≡ true
  first_part_passes = refl

  function_fails : with_parts (Some (record { 0 = 0 })) None ≡ false
  function_fails = refl

  last_part_passes : with_parts None (Some (record { 0 = 1 })) ≡ true
  last_part_passes = refl

  last_function_fails : with_parts None (Some (record { 0 = 0 })) ≡ false
  last_function_fails = refl

  -- for i := 1 to 3 do
  --   try
  --     Inc(i);
  --   finally
  --     WriteLn('a', i + 1);
  --   end;
  body_passes :
      are_plain_statements is_short_text core (listed (for_to (record { 0 = 0 }) (num (pos 1)) To (num (pos 3))
      (try_finally (listed (built_in (count To (record { place = var 0 4; store = Keep }) (expression (constant (Ordinal (pos 1)) 0 0) (id 4) no_steps) false) ∷ []))
      (listed (line (quoted (codes "a") ∷ calc (var 0 4) Add (num (pos 1)) ∷ []) ∷ []))) ∷ [])) ≡ true
  body_passes = refl

  -- i := 1, where the constant stands for no node
  unwritten_fails : are_plain_statements is_short_text core (listed (assign (var 0 4) (expression (constant (Ordinal (pos 1)) 0 0) (id 4) no_steps) ∷ [])) ≡ false
  unwritten_fails = refl

  -- try except end
  handlers_fail : are_plain_statements is_short_text core (listed (try_on no_statements no_handlers ∷ [])) ≡ false
  handlers_fail = refl

  -- ReadLn
  reading_fails : are_plain_statements is_short_text core (listed (built_in (read [] true) ∷ [])) ≡ false
  reading_fails = refl

  -- while Eof do ;
  end_of_input_fails : are_plain_statements is_short_text core (listed (while_do (expression eof (id 1) no_steps) empty ∷ [])) ≡ false
  end_of_input_fails = refl

  -- s := 'a', where s is a string
  string_fails : are_plain_statements is_short_text core (listed (assign (var 0 7) (quoted (codes "a")) ∷ [])) ≡ false
  string_fails = refl

  -- a variable of the type of strings
  strings_fail : is_plain_program (core_of name [] [] 1 (own name 7 ∷ []) []) ≡ false
  unfolding is_plain_by
  strings_fail = refl

-- 64 parameters are the most
most_pass : takes_few 64 ≡ true
most_pass = refl

more_fail : takes_few 65 ≡ false
more_fail = refl
