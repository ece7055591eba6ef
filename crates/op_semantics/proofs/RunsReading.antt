-- Reading: Chars, integers, strings, lines, the end of the input. Each program stands above what it comes to; tests/semantics makes this file of the
-- texts in tests/semantics.d, and tells how what is expected was found.
use Rattle.std.specs.Prelude.{◌≡◌, pos, true, false, [], ◌∷◌, ◌++◌, codes, None}
use Rattle.std.proofs.Common.{refl}
use Rattle.op_core.specs.Expression.{expression, call as call_of, no_steps, eof, eoln, place}
use Rattle.op_core.specs.Statement.{assign, call, block, while_do, built_in, write, read, set_length, plain}
use Rattle.op_core.specs.Types.{id}
use Rattle.op_core.specs.declared.operation.Conversion.TheVariants.{Keep, LowBits, Check}
use Rattle.op_core.specs.declared.operation.Function.TheVariants.{Length}
use Rattle.op_core.specs.declared.routine.Owner.TheVariants.{Unit as OfUnit}
use Rattle.op_core.specs.declared.routine.Role.TheVariants.{Plain, Parameter}
use Rattle.op_core.specs.declared.types.CoreType.TheVariants.{Subrange, Record, Array, DynamicArray}
use Rattle.op_meaning.proofs.Programs.{said, var, known, quoted, with_q, signed, applying, to, at, dot, argued, listed, rows_at, part}
use Rattle.op_semantics.proofs.Programs.{outcome, ends_with, asks, frees, variable_id, routine_id, target_at, row, routine_row, program}
use Rattle.op_semantics.specs.Frames.{Program}
use Rattle.op_tree.specs.declared.heading.ParameterMode.TheVariants.{Var}
use Rattle.op_tree.specs.declared.heading.RoutineKind.TheVariants.{Procedure}
use Rattle.op_tree.specs.declared.operator.Operator.TheVariants.{Add}
use Rattle.op_tree.specs.declared.operator.PrefixOperator.TheVariants.{Not}
use Rattle.op_tree.specs.declared.position.Name.{Name}

module _ (name : Name) where
  -- A text that is no number ends the program
  abbrev read_bad_number : Program
  read_bad_number = program name
      []
      []
      (row name 4 Plain None ∷ [])
      []
      []
      []
      []
      []
      (variable_id 0 ∷ [])
      None
      ((listed (
      (built_in (read ((target_at (var 0 4) Keep) ∷ []) false)) ∷
      (built_in (write (plain (var 0 4) ∷ []) true)) ∷
      (built_in (read ((target_at (var 0 4) Keep) ∷ []) false)) ∷
      (built_in (write (plain (quoted (codes "never")) ∷ []) true)) ∷ [])) ∷
      [])

  read_bad_number_runs : outcome 4000 read_bad_number (said (codes "12 12x")) ≡ ends_with [] (said (codes "12")) (said (codes "Runtime error 106")) 106
  unfolding outcome
  read_bad_number_runs = refl

  -- A carriage return is a byte like others in texts, and is passed over before numbers
  abbrev read_carriage_return : Program
  read_carriage_return = program name
      []
      []
      (row name 7 Plain None ∷ row name 4 Plain None ∷ [])
      []
      []
      []
      []
      []
      (variable_id 0 ∷ variable_id 1 ∷ [])
      None
      ((listed (
      (built_in (read ((target_at (var 0 7) Keep) ∷ []) true)) ∷
      (built_in (write (plain (applying Length false (var 0 7) 4) ∷ plain (to Keep 4 (at (var 0 7) (applying Length false (var 0 7) 4) 6)) ∷ []) true)) ∷
      (built_in (read ((target_at (var 1 4) Keep) ∷ []) true)) ∷
      (built_in (write (plain (var 1 4) ∷ plain (expression eof (id 5) no_steps) ∷ []) true)) ∷ [])) ∷
      [])

  read_carriage_return_runs : outcome 4000 read_carriage_return (said (97 ∷ 98 ∷ 13 ∷ []) ++ said (32 ∷ 55 ∷ 13 ∷ [])) ≡ ends_with (asks 96 ∷ asks 32 ∷ frees 1 ∷ frees 2 ∷ []) (said (codes "313") ++ said (codes "7TRUE")) ([]) 0
  unfolding outcome
  read_carriage_return_runs = refl

  -- Chars are read one after the other, the line feed too, and then the end mark
  abbrev read_char : Program
  read_char = program name
      []
      []
      (row name 6 Plain None ∷ row name 6 Plain None ∷ row name 6 Plain None ∷ row name 6 Plain None ∷ row name 6 Plain None ∷ [])
      []
      []
      []
      []
      []
      (variable_id 0 ∷ variable_id 1 ∷ variable_id 2 ∷ variable_id 3 ∷ variable_id 4 ∷ [])
      None
      ((listed (
      (built_in (read ((target_at (var 0 6) Keep) ∷ (target_at (var 1 6) Keep) ∷ (target_at (var 2 6) Keep) ∷ (target_at (var 3 6) Keep) ∷ (target_at (var 4 6) Keep) ∷ []) false)) ∷
      (built_in (write (plain (var 0 6) ∷ plain (var 1 6) ∷ plain (var 2 6) ∷ plain (to Keep 4 (var 3 6)) ∷ plain (known (pos 32) 6) ∷ plain (to Keep 4 (var 4 6)) ∷ plain (expression eof (id 5) no_steps) ∷ []) true)) ∷ [])) ∷
      [])

  read_char_runs : outcome 4000 read_char (said (codes "a b")) ≡ ends_with [] (said (codes "a b10 26TRUE")) ([]) 0
  unfolding outcome
  read_char_runs = refl

  -- Nothing to read: an empty text, the number 0, the end mark
  abbrev read_empty_input : Program
  read_empty_input = program name
      []
      []
      (row name 7 Plain None ∷ row name 4 Plain None ∷ row name 6 Plain None ∷ [])
      []
      []
      []
      []
      []
      (variable_id 0 ∷ variable_id 1 ∷ variable_id 2 ∷ [])
      None
      ((listed (
      (assign (var 0 7) (quoted (codes "old"))) ∷
      (assign (var 1 4) (known (pos 5) 4)) ∷
      (built_in (read ((target_at (var 0 7) Keep) ∷ []) false)) ∷
      (built_in (read ((target_at (var 1 4) Keep) ∷ []) false)) ∷
      (built_in (read ((target_at (var 2 6) Keep) ∷ []) false)) ∷
      (built_in (write (plain (known (pos 91) 6) ∷ plain (var 0 7) ∷ plain (known (pos 93) 6) ∷ plain (var 1 4) ∷ plain (known (pos 32) 6) ∷ plain (to Keep 4 (var 2 6)) ∷ plain (expression eof (id 5) no_steps) ∷ plain (expression eoln (id 5) no_steps) ∷ []) true)) ∷ [])) ∷
      [])

  read_empty_input_runs : outcome 4000 read_empty_input ([]) ≡ ends_with [] (said (codes "[]0 26TRUETRUE")) ([]) 0
  unfolding outcome
  read_empty_input_runs = refl

  -- Eoln is True before a line feed and at the end
  abbrev read_eoln : Program
  read_eoln = program name
      []
      []
      (row name 6 Plain None ∷ [])
      []
      []
      []
      []
      []
      (variable_id 0 ∷ [])
      None
      ((listed (
      (while_do (signed false 5 Not (expression eof (id 5) no_steps)) (block (listed (
      (while_do (signed false 5 Not (expression eoln (id 5) no_steps)) (block (listed (
      (built_in (read ((target_at (var 0 6) Keep) ∷ []) false)) ∷
      (built_in (write (plain (var 0 6) ∷ []) false)) ∷ [])))) ∷
      (built_in (write (plain (known (pos 124) 6) ∷ plain (expression eof (id 5) no_steps) ∷ []) true)) ∷
      (built_in (read [] true)) ∷ [])))) ∷
      (built_in (write (plain (expression eoln (id 5) no_steps) ∷ plain (expression eof (id 5) no_steps) ∷ []) true)) ∷ [])) ∷
      [])

  read_eoln_runs : outcome 4000 read_eoln (said (codes "ab") ++ codes "c") ≡ ends_with [] (said (codes "ab|FALSE") ++ said (codes "c|TRUE") ++ said (codes "TRUETRUE")) ([]) 0
  unfolding outcome
  read_eoln_runs = refl

  -- Numbers with blanks, tabs and empty lines between them
  abbrev read_integers : Program
  read_integers = program name
      []
      []
      (row name 4 Plain None ∷ row name 4 Plain None ∷ row name 4 Plain None ∷ row name 4 Plain None ∷ [])
      []
      []
      []
      []
      []
      (variable_id 0 ∷ variable_id 1 ∷ variable_id 2 ∷ variable_id 3 ∷ [])
      None
      ((listed (
      (built_in (read ((target_at (var 0 4) Keep) ∷ (target_at (var 1 4) Keep) ∷ []) false)) ∷
      (built_in (read ((target_at (var 2 4) Keep) ∷ []) true)) ∷
      (built_in (read ((target_at (var 3 4) Keep) ∷ []) false)) ∷
      (built_in (write (plain (var 0 4) ∷ plain (known (pos 32) 6) ∷ plain (var 1 4) ∷ plain (known (pos 32) 6) ∷ plain (var 2 4) ∷ plain (known (pos 32) 6) ∷ plain (var 3 4) ∷ []) true)) ∷ [])) ∷
      [])

  read_integers_runs : outcome 4000 read_integers (said (49 ∷ 50 ∷ 32 ∷ 45 ∷ 55 ∷ 9 ∷ 43 ∷ 51 ∷ []) ++ (10 ∷ []) ++ said (codes "  $1F")) ≡ ends_with [] (said (codes "12 -7 3 31")) ([]) 0
  unfolding outcome
  read_integers_runs = refl

  -- Read goes item by item: the first number is the index of the second place
  abbrev read_into_element : Program
  read_into_element = program name
      (Subrange (id 4) (pos 0) (pos 2) ∷ Array (id 16) (id 4) ∷ DynamicArray (id 7) ∷ [])
      []
      (row name 17 Plain None ∷ row name 18 Plain None ∷ row name 4 Plain None ∷ [])
      []
      []
      []
      []
      []
      (variable_id 0 ∷ variable_id 1 ∷ variable_id 2 ∷ [])
      None
      ((listed (
      (built_in (read ((target_at (var 2 4) Keep) ∷ (target_at (at (var 0 17) (var 2 4) 4) Keep) ∷ []) false)) ∷
      (built_in (set_length (var 1 18) (known (pos 2) 4))) ∷
      (built_in (read ((target_at (at (var 1 18) (known (pos 0) 4) 7) Keep) ∷ []) true)) ∷
      (built_in (read ((target_at (at (var 1 18) (var 2 4) 7) Keep) ∷ []) false)) ∷
      (built_in (write (plain (var 2 4) ∷ plain (at (var 0 17) (known (pos 0) 4) 4) ∷ plain (at (var 0 17) (known (pos 1) 4) 4) ∷ plain (known (pos 91) 6) ∷ plain (at (var 1 18) (known (pos 0) 4) 7) ∷ plain (quoted (codes "][")) ∷ plain (at (var 1 18) (known (pos 1) 4) 7) ∷ plain (known (pos 93) 6) ∷ []) true)) ∷ [])) ∷
      [])

  read_into_element_runs : outcome 4000 read_into_element (said (codes "1 7 ab") ++ codes "cd") ≡ ends_with (asks 32 ∷ asks 96 ∷ asks 32 ∷ frees 2 ∷ asks 96 ∷ asks 32 ∷ frees 4 ∷ frees 3 ∷ frees 5 ∷ frees 1 ∷ []) (said (codes "107[ ab][cd]")) ([]) 0
  unfolding outcome
  read_into_element_runs = refl

  -- A line of 63 bytes
  abbrev read_line_63 : Program
  read_line_63 = program name
      []
      []
      (row name 7 Plain None ∷ [])
      []
      []
      []
      []
      []
      (variable_id 0 ∷ [])
      None
      ((listed (
      (built_in (read ((target_at (var 0 7) Keep) ∷ []) true)) ∷
      (built_in (write (plain (applying Length false (var 0 7) 4) ∷ plain (at (var 0 7) (known (pos 1) 4) 6) ∷ plain (at (var 0 7) (known (pos 63) 4) 6) ∷ plain (expression eof (id 5) no_steps) ∷ []) true)) ∷ [])) ∷
      [])

  read_line_63_runs : outcome 4000 read_line_63 (said (codes "012345678901234567890123456789012345678901234567890123456789012")) ≡ ends_with (asks 96 ∷ asks 80 ∷ frees 1 ∷ frees 2 ∷ []) (said (codes "6302TRUE")) ([]) 0
  unfolding outcome
  read_line_63_runs = refl

  -- A line of 64 bytes
  abbrev read_line_64 : Program
  read_line_64 = program name
      []
      []
      (row name 7 Plain None ∷ [])
      []
      []
      []
      []
      []
      (variable_id 0 ∷ [])
      None
      ((listed (
      (built_in (read ((target_at (var 0 7) Keep) ∷ []) true)) ∷
      (built_in (write (plain (applying Length false (var 0 7) 4) ∷ plain (at (var 0 7) (known (pos 1) 4) 6) ∷ plain (at (var 0 7) (known (pos 64) 4) 6) ∷ plain (expression eof (id 5) no_steps) ∷ []) true)) ∷ [])) ∷
      [])

  read_line_64_runs : outcome 4000 read_line_64 (said (codes "0123456789012345678901234567890123456789012345678901234567890123")) ≡ ends_with (asks 96 ∷ asks 160 ∷ frees 1 ∷ asks 96 ∷ frees 2 ∷ frees 3 ∷ []) (said (codes "6403TRUE")) ([]) 0
  unfolding outcome
  read_line_64_runs = refl

  -- A line of 65 bytes without a line feed, into a variable that holds a text already
  abbrev read_line_65 : Program
  read_line_65 = program name
      []
      []
      (row name 7 Plain None ∷ [])
      []
      []
      []
      []
      []
      (variable_id 0 ∷ [])
      None
      ((listed (
      (assign (var 0 7) (quoted (codes "ab"))) ∷
      (assign (var 0 7) (with_q false 7 (var 0 7) Add (quoted (codes "c")))) ∷
      (built_in (read ((target_at (var 0 7) Keep) ∷ []) false)) ∷
      (built_in (write (plain (applying Length false (var 0 7) 4) ∷ plain (at (var 0 7) (known (pos 1) 4) 6) ∷ plain (at (var 0 7) (known (pos 65) 4) 6) ∷ plain (expression eof (id 5) no_steps) ∷ []) true)) ∷ [])) ∷
      [])

  read_line_65_runs : outcome 4000 read_line_65 (codes "01234567890123456789012345678901234567890123456789012345678901234") ≡ ends_with (asks 32 ∷ asks 96 ∷ asks 160 ∷ frees 2 ∷ asks 96 ∷ frees 3 ∷ frees 1 ∷ frees 4 ∷ []) (said (codes "6504TRUE")) ([]) 0
  unfolding outcome
  read_line_65_runs = refl

  -- All lines up to the end; the last one has no line feed
  abbrev read_loop : Program
  read_loop = program name
      []
      []
      (row name 7 Plain None ∷ row name 4 Plain None ∷ [])
      []
      []
      []
      []
      []
      (variable_id 0 ∷ variable_id 1 ∷ [])
      None
      ((listed (
      (while_do (signed false 5 Not (expression eof (id 5) no_steps)) (block (listed (
      (built_in (read ((target_at (var 0 7) Keep) ∷ []) true)) ∷
      (assign (var 1 4) (with_q false 4 (var 1 4) Add (known (pos 1) 4))) ∷
      (built_in (write (plain (var 1 4) ∷ plain (known (pos 58) 6) ∷ plain (var 0 7) ∷ []) true)) ∷ [])))) ∷
      (built_in (read ((target_at (var 0 7) Keep) ∷ []) true)) ∷
      (built_in (write (plain (applying Length false (var 0 7) 4) ∷ []) true)) ∷ [])) ∷
      [])

  read_loop_runs : outcome 4000 read_loop (said (codes "one") ++ (10 ∷ []) ++ codes "three") ≡ ends_with (asks 96 ∷ asks 32 ∷ frees 1 ∷ frees 2 ∷ asks 96 ∷ asks 32 ∷ frees 3 ∷ frees 4 ∷ []) (said (codes "1:one") ++ said (codes "2:") ++ said (codes "3:three") ++ said (codes "0")) ([]) 0
  unfolding outcome
  read_loop_runs = refl

  -- A number, a Char and the rest of the line with one call
  abbrev read_mixed : Program
  read_mixed = program name
      []
      []
      (row name 4 Plain None ∷ row name 6 Plain None ∷ row name 7 Plain None ∷ row name 7 Plain None ∷ [])
      []
      []
      []
      []
      []
      (variable_id 0 ∷ variable_id 1 ∷ variable_id 2 ∷ variable_id 3 ∷ [])
      None
      ((listed (
      (built_in (read ((target_at (var 0 4) Keep) ∷ (target_at (var 1 6) Keep) ∷ (target_at (var 2 7) Keep) ∷ []) true)) ∷
      (built_in (read ((target_at (var 3 7) Keep) ∷ []) false)) ∷
      (built_in (write (plain (var 0 4) ∷ plain (known (pos 91) 6) ∷ plain (var 1 6) ∷ plain (quoted (codes "][")) ∷ plain (var 2 7) ∷ plain (quoted (codes "][")) ∷ plain (var 3 7) ∷ plain (known (pos 93) 6) ∷ []) true)) ∷ [])) ∷
      [])

  read_mixed_runs : outcome 4000 read_mixed (said (codes "  12 xyz") ++ said (codes "next")) ≡ ends_with (asks 96 ∷ asks 32 ∷ frees 1 ∷ asks 96 ∷ asks 32 ∷ frees 3 ∷ frees 2 ∷ frees 4 ∷ []) (said (codes "12[ ][xyz][next]")) ([]) 0
  unfolding outcome
  read_mixed_runs = refl

  -- A number beyond 32 bits ends the program
  abbrev read_number_too_large : Program
  read_number_too_large = program name
      []
      []
      (row name 4 Plain None ∷ [])
      []
      []
      []
      []
      []
      (variable_id 0 ∷ [])
      None
      ((listed (
      (built_in (read ((target_at (var 0 4) Keep) ∷ []) false)) ∷
      (built_in (write (plain (var 0 4) ∷ []) true)) ∷
      (built_in (read ((target_at (var 0 4) Keep) ∷ []) false)) ∷
      (built_in (write (plain (quoted (codes "never")) ∷ []) true)) ∷ [])) ∷
      [])

  read_number_too_large_runs : outcome 4000 read_number_too_large (codes "2147483647 2147483648") ≡ ends_with [] (said (codes "2147483647")) (said (codes "Runtime error 106")) 106
  unfolding outcome
  read_number_too_large_runs = refl

  -- ReadLn without a target passes over the rest of a line
  abbrev read_only_line : Program
  read_only_line = program name
      []
      []
      (row name 6 Plain None ∷ [])
      []
      []
      []
      []
      []
      (variable_id 0 ∷ [])
      None
      ((listed (
      (built_in (read ((target_at (var 0 6) Keep) ∷ []) false)) ∷
      (built_in (write (plain (var 0 6) ∷ []) false)) ∷
      (built_in (read [] true)) ∷
      (built_in (read ((target_at (var 0 6) Keep) ∷ []) true)) ∷
      (built_in (write (plain (var 0 6) ∷ plain (expression eof (id 5) no_steps) ∷ []) true)) ∷ [])) ∷
      [])

  read_only_line_runs : outcome 4000 read_only_line (said (codes "skip this") ++ codes "ab") ≡ ends_with [] (said (codes "saTRUE")) ([]) 0
  unfolding outcome
  read_only_line_runs = refl

  -- The value is read before its place is looked at
  abbrev read_outside_index : Program
  read_outside_index = program name
      (DynamicArray (id 4) ∷ [])
      []
      (row name 16 Plain None ∷ row name 4 Plain None ∷ [])
      []
      []
      []
      []
      []
      (variable_id 0 ∷ variable_id 1 ∷ [])
      None
      ((listed (
      (built_in (set_length (var 0 16) (known (pos 1) 4))) ∷
      (assign (var 1 4) (known (pos 3) 4)) ∷
      (built_in (read ((target_at (at (var 0 16) (known (pos 0) 4) 4) Keep) ∷ []) false)) ∷
      (built_in (write (plain (at (var 0 16) (known (pos 0) 4) 4) ∷ plain (expression eof (id 5) no_steps) ∷ []) true)) ∷
      (built_in (read ((target_at (at (var 0 16) (var 1 4) 4) Keep) ∷ []) false)) ∷
      (built_in (write (plain (quoted (codes "never")) ∷ []) true)) ∷ [])) ∷
      [])

  read_outside_index_runs : outcome 4000 read_outside_index (codes "5 6") ≡ ends_with (asks 32 ∷ []) (said (codes "5FALSE")) (said (codes "Runtime error 201")) 201
  unfolding outcome
  read_outside_index_runs = refl

  -- Lines of no byte and of one byte
  abbrev read_short_line : Program
  read_short_line = program name
      []
      []
      (row name 7 Plain None ∷ [])
      []
      []
      []
      []
      []
      (variable_id 0 ∷ [])
      None
      ((listed (
      (assign (var 0 7) (quoted (codes "old"))) ∷
      (built_in (read ((target_at (var 0 7) Keep) ∷ []) true)) ∷
      (built_in (write (plain (applying Length false (var 0 7) 4) ∷ []) true)) ∷
      (built_in (read ((target_at (var 0 7) Keep) ∷ []) true)) ∷
      (built_in (write (plain (applying Length false (var 0 7) 4) ∷ plain (var 0 7) ∷ []) true)) ∷ [])) ∷
      [])

  read_short_line_runs : outcome 4000 read_short_line ((10 ∷ []) ++ said (codes "x")) ≡ ends_with (asks 96 ∷ asks 32 ∷ frees 1 ∷ frees 2 ∷ []) (said (codes "0") ++ said (codes "1x")) ([]) 0
  unfolding outcome
  read_short_line_runs = refl

  -- Numbers into Byte and Word keep their low bits, a subrange is checked
  abbrev read_small_types : Program
  read_small_types = program name
      (Subrange (id 4) (pos 1) (pos 10) ∷ [])
      []
      (row name 1 Plain None ∷ row name 3 Plain None ∷ row name 16 Plain None ∷ [])
      []
      []
      []
      []
      []
      (variable_id 0 ∷ variable_id 1 ∷ variable_id 2 ∷ [])
      None
      ((listed (
      (built_in (read ((target_at (var 0 1) LowBits) ∷ (target_at (var 1 3) LowBits) ∷ (target_at (var 2 16) Check) ∷ []) false)) ∷
      (built_in (write (plain (var 0 1) ∷ plain (known (pos 32) 6) ∷ plain (var 1 3) ∷ plain (known (pos 32) 6) ∷ plain (var 2 16) ∷ []) true)) ∷
      (built_in (read ((target_at (var 2 16) Check) ∷ []) false)) ∷
      (built_in (write (plain (quoted (codes "never")) ∷ []) true)) ∷ [])) ∷
      [])

  read_small_types_runs : outcome 4000 read_small_types (codes "300 -1 7 11") ≡ ends_with [] (said (codes "44 65535 7")) (said (codes "Runtime error 201")) 201
  unfolding outcome
  read_small_types_runs = refl

  -- Read of a text stops before the line feed, ReadLn passes over it
  abbrev read_strings : Program
  read_strings = program name
      []
      []
      (row name 7 Plain None ∷ row name 7 Plain None ∷ row name 7 Plain None ∷ [])
      []
      []
      []
      []
      []
      (variable_id 0 ∷ variable_id 1 ∷ variable_id 2 ∷ [])
      None
      ((listed (
      (built_in (read ((target_at (var 0 7) Keep) ∷ []) false)) ∷
      (built_in (read ((target_at (var 1 7) Keep) ∷ []) false)) ∷
      (built_in (write (plain (var 0 7) ∷ plain (applying Length false (var 1 7) 4) ∷ plain (expression eoln (id 5) no_steps) ∷ plain (expression eof (id 5) no_steps) ∷ []) true)) ∷
      (built_in (read [] true)) ∷
      (built_in (read ((target_at (var 2 7) Keep) ∷ []) true)) ∷
      (built_in (write (plain (var 2 7) ∷ plain (expression eof (id 5) no_steps) ∷ []) true)) ∷ [])) ∷
      [])

  read_strings_runs : outcome 4000 read_strings (said (codes "ab") ++ said (codes "cd")) ≡ ends_with (asks 96 ∷ asks 32 ∷ frees 1 ∷ asks 96 ∷ asks 32 ∷ frees 3 ∷ frees 2 ∷ frees 4 ∷ []) (said (codes "ab0TRUEFALSE") ++ said (codes "cdTRUE")) ([]) 0
  unfolding outcome
  read_strings_runs = refl

  -- A text is read into a var parameter and into a field
  abbrev read_through_parameter : Program
  read_through_parameter = program name
      (Record (rows_at 0 2) ∷ [])
      (part name 4 ∷ part name 7 ∷ [])
      (row name 16 Plain None ∷ row name 7 Plain None ∷ row name 7 (Parameter Var) None ∷ [])
      (routine_row name (codes "p") Procedure OfUnit 1 None 2 1 ∷ [])
      []
      []
      []
      []
      (variable_id 0 ∷ variable_id 1 ∷ [])
      None
      ((listed (
      (built_in (read ((target_at (var 2 7) Keep) ∷ []) true)) ∷
      (built_in (write (plain (var 2 7) ∷ plain (var 1 7) ∷ plain (dot (var 0 16) 1 7) ∷ []) true)) ∷ [])) ∷
      (listed (
      (call (expression (call_of (routine_id 0) (argued (place (var 1 7) ∷ []))) (id 9) no_steps)) ∷
      (call (expression (call_of (routine_id 0) (argued (place (dot (var 0 16) 1 7) ∷ []))) (id 9) no_steps)) ∷ [])) ∷
      [])

  read_through_parameter_runs : outcome 4000 read_through_parameter (said (codes "first") ++ said (codes "second")) ≡ ends_with (asks 96 ∷ asks 32 ∷ frees 1 ∷ asks 96 ∷ asks 32 ∷ frees 3 ∷ frees 4 ∷ frees 2 ∷ []) (said (codes "firstfirst") ++ said (codes "secondfirstsecond")) ([]) 0
  unfolding outcome
  read_through_parameter_runs = refl
