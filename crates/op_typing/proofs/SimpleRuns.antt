-- Some programs and expressions are tested by computation.
use Rattle.std.proofs.Common.{◌≡◌, true, false, [], ◌∷◌, refl}
use Rattle.std.specs.Prelude.{pos, codes}
use Rattle.op_core.specs.Statement.{if_then, for_to, try_finally, break}
use Rattle.op_core.specs.declared.operation.Conversion.TheVariants.{ToString}
use Rattle.op_core.specs.declared.operation.Function.TheVariants.{Length}
use Rattle.op_core.specs.declared.program.Core.{Core}
use Rattle.op_meaning.proofs.Programs.{applying, at, core_of, line, listed, num, own, quoted, shown, test, text, to, var, with_q}
use Rattle.op_tree.specs.declared.operator.Operator.TheVariants.{Add, Equal}
use Rattle.op_tree.specs.declared.position.Name.{Name}
use Rattle.op_tree.specs.declared.statement.Direction.TheVariants.{To}
use Rattle.op_typing.specs.SimpleTests.{are_simple_statements, is_simple, is_simple_program}

module _ (name : Name) where
  -- var i: Integer; c: Char;
  abbrev core : Core
  core = core_of name [] [] 2 (own name 4 ∷ own name 6 ∷ []) []

  tables_pass : is_simple_program core ≡ true
  unfolding is_simple_program
  tables_pass = refl

  -- for i := 1 to 3 do
  --   try
  --     if i = 2 then Break;
  --     Write(i);
  --   finally
  --     Write('b');
  --   end;
  -- WriteLn(i);
  body_passes :
      are_simple_statements core (listed (for_to (record { 0 = 0 }) (num (pos 1)) To (num (pos 3))
      (try_finally (listed (if_then (test (var 0 4) Equal (num (pos 2))) break ∷ shown (var 0 4 ∷ []) ∷ [])) (listed (text (codes "b") ∷ [])))
      ∷ line (var 0 4 ∷ []) ∷ [])) ≡ true
  body_passes = refl

  -- 'abc'[i], Length('abc')
  char_passes : is_simple core (at (quoted (codes "abc")) (var 0 4) 6) ≡ true
  char_passes = refl

  length_passes : is_simple core (applying Length false (quoted (codes "abc")) 4) ≡ true
  length_passes = refl

  -- Length(c) and c + 'x', where c becomes a string
  string_fails : is_simple core (applying Length false (to ToString 7 (var 1 6)) 4) ≡ false
  string_fails = refl

  sum_fails : is_simple core (with_q false 7 (to ToString 7 (var 1 6)) Add (quoted (codes "x"))) ≡ false
  sum_fails = refl
