-- Programs that are run by computation: integers, Booleans and the other ordinal values. Above each stands its text; what is expected
-- is what Free Pascal writes, or what the profile says where that is another thing (a quotient that overflows, values past the ends of
-- a type, the count of a shift).
use Rattle.std.specs.Prelude.{◌≡◌, ℤ, pos, negsuc, true, false, List, [], ◌∷◌, ◌++◌, codes}
use Rattle.std.proofs.Common.{refl}
use Rattle.op_core.specs.Expression.{Expression, value}
use Rattle.op_core.specs.Statement.{Statement, assign, built_in, count, write, padded, plain}
use Rattle.op_core.specs.declared.operation.Conversion.TheVariants.{Keep, LowBits, Check}
use Rattle.op_core.specs.declared.operation.Function.TheVariants.{Succ, Pred, Abs, Sqr, Odd, Ord, UpCase}
use Rattle.op_core.specs.declared.types.CoreType.TheVariants.{Enumeration}
use Rattle.op_meaning.proofs.Programs.{outcome, writes, fails_with, said, var, num, known, quoted, with_q, calc, test, signed, applying, to, called, line, do_call, own, by_val, gives, procedure, function, core_of, runs}
use Rattle.op_meaning.specs.Frames.{Program}
use Rattle.op_tree.specs.declared.operator.Operator.TheVariants.{Equal, NotEqual, Less, Greater, LessEqual, Add, Subtract, Or, Xor, Multiply, Div, Mod_, And, Shl, Shr}
use Rattle.op_tree.specs.declared.operator.PrefixOperator.TheVariants.{Not, Minus}
use Rattle.op_tree.specs.declared.position.Name.{Name}
use Rattle.op_tree.specs.declared.statement.Direction.TheVariants.{To, Downto}

module _ (name : Name) where
  -- ---- one line: a is the least Integer, b is 2, c is -1 and z is 0

  abbrev with_line : List Expression → Program
  with_line es = runs name (core_of name [] [] 4 (own name 4 ∷ own name 4 ∷ own name 4 ∷ own name 4 ∷ []) [])
      ((assign (var 0 4) (num (negsuc 2147483647)) ∷ assign (var 1 4) (num (pos 2)) ∷ assign (var 2 4) (num (negsuc 0)) ∷ line es ∷ []) ∷ [])

  abbrev a : Expression
  a = var 0 4

  abbrev b : Expression
  b = var 1 4

  abbrev c : Expression
  c = var 2 4

  abbrev z : Expression
  z = var 3 4

  abbrev blank : Expression
  blank = known (pos 32) 6

  -- division cuts towards zero, the remainder has the sign of the dividend, and shr takes no notice of a sign
  --   var b, c: Integer;
  --   begin
  --     b := 2; c := -1;
  --     WriteLn((c - 6) div b, ' ', (c - 6) mod b, ' ', (b + 5) mod (c - 1), ' ', c shr 1, ' ', b shl 4);
  --   end.
  division_runs : outcome 60 (with_line (
      calc (calc c Subtract (num (pos 6))) Div b ∷ blank ∷ calc (calc c Subtract (num (pos 6))) Mod_ b ∷ blank
      ∷ calc (calc b Add (num (pos 5))) Mod_ (calc c Subtract (num (pos 1))) ∷ blank ∷ calc c Shr (num (pos 1)) ∷ blank ∷ calc b Shl (num (pos 4)) ∷ []))
      ≡ writes (said (codes "-3 -1 1 2147483647 32"))
  unfolding outcome
  division_runs = refl

  -- the least Integer divided by -1 is itself, and the remainder 0
  least_divided : outcome 40 (with_line (calc a Div c ∷ blank ∷ calc a Mod_ c ∷ [])) ≡ writes (said (codes "-2147483648 0"))
  unfolding outcome
  least_divided = refl

  -- but under {$Q+} it overflows
  least_checked : outcome 40 (with_line (with_q true 4 a Div c ∷ [])) ≡ fails_with [] (codes "215") 215
  unfolding outcome
  least_checked = refl

  -- a zero divisor is error 200, and what stands in front of it is written
  --   var b, z: Integer;
  --   begin
  --     b := 2; z := 0;
  --     Write(b);
  --     WriteLn(b div z);
  --   end.
  divided_by_zero : outcome 40 (with_line (b ∷ calc b Div z ∷ [])) ≡ fails_with (codes "2") (codes "200") 200
  unfolding outcome
  divided_by_zero = refl

  remainder_by_zero : outcome 40 (with_line (with_q true 4 b Mod_ z ∷ [])) ≡ fails_with [] (codes "200") 200
  unfolding outcome
  remainder_by_zero = refl

  -- under {$Q-} results keep their low 32 bits
  --   var a: Integer;
  --   begin
  --     a := -2147483647 - 1;
  --     WriteLn(-a, ' ', a - 1, ' ', a * 3, ' ', Abs(a), ' ', Sqr(a + 65537), ' ', Pred(a));
  --   end.
  wrapping_runs : outcome 80 (with_line (
      signed false 4 Minus a ∷ blank ∷ calc a Subtract (num (pos 1)) ∷ blank ∷ calc a Multiply (num (pos 3)) ∷ blank ∷ applying Abs false a 4 ∷ blank
      ∷ applying Sqr false (calc a Add (num (pos 65537))) 4 ∷ blank ∷ applying Pred false a 4 ∷ []))
      ≡ writes (said (codes "-2147483648 2147483647 -2147483648 -2147483648 131073 2147483647"))
  unfolding outcome
  wrapping_runs = refl

  -- under {$Q+} each of them is error 215
  --   {$Q+}
  --   var a: Integer;
  --   begin
  --     a := -2147483647 - 1;
  --     WriteLn(a - 1);
  --   end.
  difference_checked : outcome 40 (with_line (with_q true 4 a Subtract (num (pos 1)) ∷ [])) ≡ fails_with [] (codes "215") 215
  unfolding outcome
  difference_checked = refl

  product_checked : outcome 40 (with_line (with_q true 4 a Multiply (num (pos 3)) ∷ [])) ≡ fails_with [] (codes "215") 215
  unfolding outcome
  product_checked = refl

  minus_checked : outcome 40 (with_line (signed true 4 Minus a ∷ [])) ≡ fails_with [] (codes "215") 215
  unfolding outcome
  minus_checked = refl

  absolute_checked : outcome 40 (with_line (applying Abs true a 4 ∷ [])) ≡ fails_with [] (codes "215") 215
  unfolding outcome
  absolute_checked = refl

  square_checked : outcome 40 (with_line (applying Sqr true a 4 ∷ [])) ≡ fails_with [] (codes "215") 215
  unfolding outcome
  square_checked = refl

  pred_checked : outcome 40 (with_line (applying Pred true a 4 ∷ [])) ≡ fails_with [] (codes "215") 215
  unfolding outcome
  pred_checked = refl

  -- the switch at each operator decides: the first sum wraps, and the difference behind {$Q+} overflows
  --   var a: Integer;
  --   begin
  --     a := 2147483647;
  --     Write(a + 1);
  --     WriteLn(a + 1 {$Q+} - 1);
  --   end.
  switched_at_operator : outcome 60 (with_line (calc (calc a Subtract (num (pos 1))) Add (num (pos 1)) ∷ with_q true 4 (calc (calc a Subtract (num (pos 1))) Add (num (pos 1))) Subtract (num (pos 1)) ∷ []))
      ≡ fails_with (codes "-2147483648") (codes "215") 215
  unfolding outcome
  switched_at_operator = refl

  -- bits: a shift goes by the low five bits of its count
  --   var b: Integer;
  --   begin
  --     b := 2;
  --     WriteLn((b + 4) and 3, ' ', b or 5, ' ', (b + 4) xor 3, ' ', not b, ' ', b shl 1, ' ', -b shr 28);
  --   end.
  bits_run : outcome 90 (with_line (
      calc (calc b Add (num (pos 4))) And (num (pos 3)) ∷ blank ∷ calc b Or (num (pos 5)) ∷ blank ∷ calc (calc b Add (num (pos 4))) Xor (num (pos 3)) ∷ blank
      ∷ signed false 4 Not b ∷ blank ∷ calc b Shl (num (pos 33)) ∷ blank ∷ calc (signed false 4 Minus b) Shr (num (pos 28)) ∷ []))
      ≡ writes (said (codes "2 7 5 -3 4 15"))
  unfolding outcome
  bits_run = refl

  -- comparisons, `not` and `xor` of Booleans, Odd, UpCase and Ord
  --   var b, c: Integer;
  --   begin
  --     b := 2; c := -1;
  --     WriteLn(c < b, ' ', b <= c, ' ', not (b = b), ' ', (b <> c) xor (b > c), ' ', Odd(c), ' ', UpCase('a'), UpCase('{'), ' ', Ord('a'));
  --   end.
  comparisons_run : outcome 90 (with_line (
      test c Less b ∷ blank ∷ test b LessEqual c ∷ blank ∷ signed false 5 Not (test b Equal b) ∷ blank ∷ with_q false 5 (test b NotEqual c) Xor (test b Greater c) ∷ blank
      ∷ applying Odd false c 5 ∷ blank ∷ applying UpCase false (known (pos 97) 6) 6 ∷ applying UpCase false (known (pos 123) 6) 6 ∷ blank ∷ applying Ord false (known (pos 97) 6) 4 ∷ []))
      ≡ writes (said (codes "TRUE FALSE FALSE FALSE TRUE A{ 97"))
  unfolding outcome
  comparisons_run = refl

  -- casts to the predefined integer types and to Char keep the low bits
  --   var a: Integer;
  --   begin
  --     a := 300;
  --     WriteLn(Byte(a), ' ', ShortInt(a - 100), ' ', Word(-a), ' ', SmallInt(a + 65236), ' ', Char(a + 21));
  --   end.
  casts_run : outcome 80 (with_line (
      to LowBits 1 (num (pos 300)) ∷ blank ∷ to LowBits 0 (num (pos 200)) ∷ blank ∷ to LowBits 3 (num (negsuc 299)) ∷ blank ∷ to LowBits 2 (num (pos 65536)) ∷ blank
      ∷ to LowBits 6 (num (pos 321)) ∷ []))
      ≡ writes (said (codes "44 -56 65236 0 A"))
  unfolding outcome
  casts_run = refl

  -- a cast to Boolean is checked
  cast_checked : outcome 30 (with_line (to Check 5 (num (pos 1)) ∷ to Check 5 b ∷ [])) ≡ fails_with (codes "TRUE") (codes "201") 201
  unfolding outcome
  cast_checked = refl

  -- blanks on the left, up to a width; a text is never cut
  --   var b: Integer;
  --   begin
  --     b := 2;
  --     WriteLn(b:3, -7:1, 'ab':4, True:b + 4, 'x':2, 0:-3, '|');
  --   end.
  widths_run : outcome 60 (runs name (core_of name [] [] 1 (own name 4 ∷ []) [])
      ((assign a (num (pos 2))
      ∷ built_in (write (padded a (num (pos 3)) ∷ padded (num (negsuc 6)) (num (pos 1)) ∷ padded (quoted (codes "ab")) (num (pos 4)) ∷ padded (known (pos 1) 5) (calc a Add (num (pos 4)))
      ∷ padded (known (pos 120) 6) (num (pos 2)) ∷ padded (num (pos 0)) (num (negsuc 2)) ∷ plain (known (pos 124) 6) ∷ []) true) ∷ []) ∷ []))
      ≡ writes (said (codes "  2-7  ab  TRUE x0|"))
  unfolding outcome
  widths_run = refl

  -- ---- the ends of types

  -- under {$R-} an assignment to a smaller integer and an argument keep the low bits, and under {$R+} they are checked: the switch at
  -- the `:=` and at the first token of the argument decides
  --   var i: Integer; b: Byte;
  --   procedure p(x: Byte);
  --   begin
  --     Write(x, ' ');
  --   end;
  --   begin
  --     i := 300;
  --     b := i;
  --     Write(b, ' ');
  --     p(i + 1);
  --     b {$R+} := i;
  --     WriteLn(b);
  --   end.
  abbrev ranges_program : Statement → Program
  ranges_program last = runs name (core_of name [] [] 2 (own name 4 ∷ own name 1 ∷ by_val name 1 ∷ []) (procedure name 1 2 1 ∷ []))
      ((built_in (write (plain (var 2 1) ∷ plain blank ∷ []) false) ∷ [])
      ∷ (assign (var 0 4) (num (pos 300)) ∷ assign (var 1 1) (to LowBits 1 (var 0 4)) ∷ built_in (write (plain (var 1 1) ∷ plain blank ∷ []) false)
      ∷ do_call 0 (value (to LowBits 1 (calc (var 0 4) Add (num (pos 1)))) ∷ []) ∷ last ∷ line (var 1 1 ∷ []) ∷ []) ∷ [])

  store_checked : outcome 60 (ranges_program (assign (var 1 1) (to Check 1 (var 0 4)))) ≡ fails_with (codes "44 45 ") (codes "201") 201
  unfolding outcome
  store_checked = refl

  argument_checked : outcome 60 (ranges_program (do_call 0 (value (to Check 1 (var 0 4)) ∷ []))) ≡ fails_with (codes "44 45 ") (codes "201") 201
  unfolding outcome
  argument_checked = refl

  -- Succ and Pred within a type; of an Integer they are a sum and a difference
  --   type Color = (Red, Green);
  --   var e: Color; b: Byte;
  --   begin
  --     e := Red; b := 254;
  --     WriteLn(Ord(Succ(e)), Succ(False), Succ(b), Pred('b'), Pred(0));
  --   end.
  abbrev ends_program : List Expression → Program
  ends_program es = runs name (core_of name (Enumeration 2 ∷ []) [] 2 (own name 16 ∷ own name 1 ∷ []) []) ((assign (var 1 1) (known (pos 254) 1) ∷ line es ∷ []) ∷ [])

  neighbours_run : outcome 60 (ends_program (
      applying Ord false (applying Succ false (var 0 16) 16) 4 ∷ applying Succ false (known (pos 0) 5) 5 ∷ to Keep 4 (applying Succ false (var 1 1) 1) ∷ applying Pred false (known (pos 98) 6) 6
      ∷ applying Pred false (num (pos 0)) 4 ∷ []))
      ≡ writes (said (codes "1TRUE255a-1"))
  unfolding outcome
  neighbours_run = refl

  -- past the ends they are error 201, whatever R says
  past_enumeration : outcome 30 (ends_program (applying Ord false (applying Succ false (applying Succ false (var 0 16) 16) 16) 4 ∷ [])) ≡ fails_with [] (codes "201") 201
  unfolding outcome
  past_enumeration = refl

  before_false : outcome 30 (ends_program (applying Pred false (known (pos 0) 5) 5 ∷ [])) ≡ fails_with [] (codes "201") 201
  unfolding outcome
  before_false = refl

  past_byte : outcome 30 (ends_program (applying Succ false (applying Succ false (var 1 1) 1) 1 ∷ [])) ≡ fails_with [] (codes "201") 201
  unfolding outcome
  past_byte = refl

  -- ---- Inc and Dec

  -- Dec of a Byte under {$R-} keeps the low bits, Inc of a Char is checked; the variable is read before the amount is evaluated, where
  -- Free Pascal writes 52
  --   var i: Integer; b: Byte; c: Char;
  --   function f: Integer;
  --   begin
  --     i := 50;
  --     f := 2;
  --   end;
  --   begin
  --     i := 5; b := 1; c := 'x';
  --     Inc(i); Dec(b, 2); Inc(c, 2);
  --     Write(i, ' ', b, ' ', c, ' ');
  --     Inc(i, f);
  --     WriteLn(i);
  --   end.
  abbrev counts_program : Statement → Program
  counts_program last = runs name (core_of name [] [] 3 (own name 4 ∷ own name 1 ∷ own name 6 ∷ gives name 4 ∷ []) (function name 4 0 3 1 ∷ []))
      ((assign (var 0 4) (num (pos 50)) ∷ assign (var 3 4) (num (pos 2)) ∷ [])
      ∷ (assign (var 0 4) (num (pos 5)) ∷ assign (var 1 1) (known (pos 1) 1) ∷ assign (var 2 6) (known (pos 120) 6)
      ∷ built_in (count To (record { place = var 0 4; store = Keep }) (num (pos 1)) false)
      ∷ built_in (count Downto (record { place = var 1 1; store = LowBits }) (num (pos 2)) false)
      ∷ built_in (count To (record { place = var 2 6; store = Check }) (num (pos 2)) false)
      ∷ built_in (write (plain (var 0 4) ∷ plain blank ∷ plain (var 1 1) ∷ plain blank ∷ plain (var 2 6) ∷ plain blank ∷ []) false)
      ∷ last ∷ line (var 0 4 ∷ []) ∷ []) ∷ [])

  counts_run : outcome 90 (counts_program (built_in (count To (record { place = var 0 4; store = Keep }) (called 0 [] 4) false))) ≡ writes (said (codes "6 255 z 8"))
  unfolding outcome
  counts_run = refl

  count_checked : outcome 90 (counts_program (built_in (count To (record { place = var 0 4; store = Keep }) (num (pos 2147483647)) true))) ≡ fails_with (codes "6 255 z ") (codes "215") 215
  unfolding outcome
  count_checked = refl

  char_past_end : outcome 90 (counts_program (built_in (count To (record { place = var 2 6; store = Check }) (num (pos 200)) false))) ≡ fails_with (codes "6 255 z ") (codes "201") 201
  unfolding outcome
  char_past_end = refl

  -- ---- `and` and `or` stop early

  -- the operand behind `and` is evaluated where the one in front is true, the one behind `or` where it is false, and then decides
  --   function t(b: Boolean; n: Integer): Boolean;
  --   begin
  --     Write(n);
  --     t := b;
  --   end;
  --   begin
  --     WriteLn(t(False, 1) and t(True, 2));
  --     WriteLn(t(True, 3) and t(False, 4));
  --     WriteLn(t(True, 5) or t(False, 6));
  --     WriteLn(t(False, 7) or t(True, 8) and t(True, 9));
  --   end.
  abbrev t : ℤ → ℤ → Expression
  t truth n = called 0 (value (known truth 5) ∷ value (num n) ∷ []) 5

  stops_early : outcome 160 (runs name (core_of name [] [] 0 (by_val name 5 ∷ by_val name 4 ∷ gives name 5 ∷ []) (function name 5 2 0 3 ∷ []))
      ((built_in (write (plain (var 1 4) ∷ []) false) ∷ assign (var 2 5) (var 0 5) ∷ [])
      ∷ (line (test (t (pos 0) (pos 1)) And (t (pos 1) (pos 2)) ∷ []) ∷ line (test (t (pos 1) (pos 3)) And (t (pos 0) (pos 4)) ∷ [])
      ∷ line (test (t (pos 1) (pos 5)) Or (t (pos 0) (pos 6)) ∷ []) ∷ line (test (t (pos 0) (pos 7)) Or (test (t (pos 1) (pos 8)) And (t (pos 1) (pos 9))) ∷ []) ∷ []) ∷ []))
      ≡ writes (said (codes "1FALSE") ++ said (codes "34FALSE") ++ said (codes "5TRUE") ++ said (codes "789TRUE"))
  unfolding outcome
  stops_early = refl
