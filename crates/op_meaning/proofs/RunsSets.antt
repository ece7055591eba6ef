-- Programs that are run by computation: sets, and the ranges of types. Above each stands its text; what is expected is what Free Pascal
-- writes, or what the profile says where that is another thing (elements and casts are always checked).
use Rattle.std.specs.Prelude.{◌≡◌, ℕ, ℤ, pos, negsuc, false, List, [], ◌∷◌, codes}
use Rattle.std.proofs.Common.{refl}
use Rattle.op_core.specs.Expression.{Expression, expression, constant, no_steps, one, range}
use Rattle.op_core.specs.Statement.{assign, built_in, include, exclude}
use Rattle.op_core.specs.Types.{id}
use Rattle.op_core.specs.declared.constant.Const.TheVariants.{Set as SetOf}
use Rattle.op_core.specs.declared.operation.Conversion.TheVariants.{Keep, Check}
use Rattle.op_core.specs.declared.types.CoreType.TheVariants.{Enumeration, Subrange, Set}
use Rattle.op_meaning.proofs.Programs.{outcome, writes, fails_with, said, var, num, known, with_q, calc, test, to, set_of_all, line, own, core_of, runs}
use Rattle.op_meaning.specs.Frames.{Program}
use Rattle.op_tree.specs.declared.operator.Operator.TheVariants.{Equal, NotEqual, LessEqual, GreaterEqual, In_, Add, Subtract, Multiply}
use Rattle.op_tree.specs.declared.position.Name.{Name}

-- a constant set
abbrev fixed_set : List ℕ → ℕ → Expression
fixed_set es t = expression (constant (SetOf es) 1 1) (id t) no_steps

abbrev blank : Expression
blank = known (pos 32) 6

module _ (name : Name) where
  -- a constructor with a range, and Exclude
  --   type Small = 0..31;
  --   var s: set of Small;
  --   begin
  --     s := [1, 3..5];
  --     Exclude(s, 4);
  --     WriteLn(5 in s, 4 in s);
  --   end.
  set_runs : outcome 60 (runs name (core_of name [] [] 1 (own name 12 ∷ []) [])
      ((assign (var 0 12) (set_of_all (one (known (pos 1) 11) ∷ range (known (pos 3) 11) (known (pos 5) 11) ∷ []) 12)
      ∷ built_in (exclude (var 0 12) (known (pos 4) 11))
      ∷ line (test (num (pos 5)) In_ (var 0 12) ∷ test (num (pos 4)) In_ (var 0 12) ∷ []) ∷ []) ∷ []))
      ≡ writes (said (codes "TRUEFALSE"))
  unfolding outcome
  set_runs = refl

  -- a value that is no element of the base is error 201
  include_checked : outcome 60 (runs name (core_of name [] [] 2 (own name 12 ∷ own name 4 ∷ []) [])
      ((assign (var 1 4) (num (pos 32)) ∷ built_in (include (var 0 12) (to Check 11 (var 1 4))) ∷ line [] ∷ []) ∷ []))
      ≡ fails_with [] (codes "201") 201
  unfolding outcome
  include_checked = refl

  -- both ends of a range are checked, also of an empty one
  --   type Small = 0..31;
  --   var s: set of Small; i: Integer;
  --   begin
  --     i := 7;
  --     s := [i..3];
  --     WriteLn(s = []);
  --   end.
  abbrev range_program : ℤ → Program
  range_program n = runs name (core_of name [] [] 2 (own name 12 ∷ own name 4 ∷ []) [])
      ((assign (var 1 4) (num n) ∷ assign (var 0 12) (set_of_all (range (to Check 11 (var 1 4)) (known (pos 3) 11) ∷ []) 12) ∷ line (test (var 0 12) Equal (fixed_set [] 12) ∷ []) ∷ []) ∷ [])

  empty_range : outcome 40 (range_program (pos 7)) ≡ writes (said (codes "TRUE"))
  unfolding outcome
  empty_range = refl

  empty_range_checked : outcome 40 (range_program (pos 32)) ≡ fails_with [] (codes "201") 201
  unfolding outcome
  empty_range_checked = refl

  -- the operators, with the greatest element
  --   type Small = 0..31;
  --   var s, t: set of Small;
  --   begin
  --     s := [0, 5, 31];
  --     t := [5, 6];
  --     WriteLn(s + t = [0, 5, 6, 31], ' ', s * t = [5], ' ', s - t = [0, 31], ' ', t <= s, ' ', [5, 31] <= s, ' ', s >= [0], ' ', s <> t, ' ', 31 in s);
  --   end.
  abbrev s : Expression
  s = var 0 12

  abbrev t : Expression
  t = var 1 12

  operators_run : outcome 160 (runs name (core_of name [] [] 2 (own name 12 ∷ own name 12 ∷ []) [])
      ((assign s (fixed_set (0 ∷ 5 ∷ 31 ∷ []) 12) ∷ assign t (fixed_set (5 ∷ 6 ∷ []) 12)
      ∷ line (test (with_q false 12 s Add t) Equal (fixed_set (0 ∷ 5 ∷ 6 ∷ 31 ∷ []) 12) ∷ blank ∷ test (with_q false 12 s Multiply t) Equal (fixed_set (5 ∷ []) 12) ∷ blank
      ∷ test (with_q false 12 s Subtract t) Equal (fixed_set (0 ∷ 31 ∷ []) 12) ∷ blank ∷ test t LessEqual s ∷ blank ∷ test (fixed_set (5 ∷ 31 ∷ []) 12) LessEqual s ∷ blank
      ∷ test s GreaterEqual (fixed_set (0 ∷ []) 12) ∷ blank ∷ test s NotEqual t ∷ blank ∷ test (num (pos 31)) In_ s ∷ []) ∷ []) ∷ []))
      ≡ writes (said (codes "TRUE TRUE TRUE FALSE TRUE TRUE TRUE TRUE"))
  unfolding outcome
  operators_run = refl

  -- no number outside of 0 to 31 is in a set
  --   type Small = 0..31;
  --   var s: set of Small; i: Integer;
  --   begin
  --     s := [0..31];
  --     i := -1;
  --     WriteLn(i in s, ' ', i + 33 in s, ' ', i + 32 in s);
  --   end.
  outside_of_sets : outcome 60 (runs name (core_of name [] [] 2 (own name 12 ∷ own name 4 ∷ []) [])
      ((assign s (set_of_all (range (known (pos 0) 11) (known (pos 31) 11) ∷ []) 12) ∷ assign (var 1 4) (num (negsuc 0))
      ∷ line (test (var 1 4) In_ s ∷ blank ∷ test (calc (var 1 4) Add (num (pos 33))) In_ s ∷ blank ∷ test (calc (var 1 4) Add (num (pos 32))) In_ s ∷ []) ∷ []) ∷ []))
      ≡ writes (said (codes "FALSE FALSE TRUE"))
  unfolding outcome
  outside_of_sets = refl

  -- a set goes to one over fewer values where it has no other elements, which Free Pascal does not check
  --   type
  --     Color = (Red, Green, Blue);
  --     Cold = Green..Blue;
  --   var c: set of Color; d: set of Cold;
  --   begin
  --     c := [Green, Blue];
  --     d := c;
  --     WriteLn(Blue in d);
  --     Include(c, Red);
  --     d := c;
  --   end.
  narrowed : outcome 60 (runs name (core_of name (Enumeration 3 ∷ Set (id 16) ∷ Subrange (id 16) (pos 1) (pos 2) ∷ Set (id 18) ∷ []) [] 2 (own name 17 ∷ own name 19 ∷ []) [])
      ((assign (var 0 17) (fixed_set (1 ∷ 2 ∷ []) 17) ∷ assign (var 1 19) (to Check 19 (var 0 17)) ∷ line (test (known (pos 2) 16) In_ (var 1 19) ∷ [])
      ∷ built_in (include (var 0 17) (known (pos 0) 16)) ∷ assign (var 1 19) (to Check 19 (var 0 17)) ∷ line [] ∷ []) ∷ []))
      ≡ fails_with (said (codes "TRUE")) (codes "201") 201
  unfolding outcome
  narrowed = refl

  -- what is stored in a subrange is checked whatever R says
  --   type Small = 0..31;
  --   var x: Small; i: Integer;
  --   begin
  --     i := 31;
  --     x := i;
  --     WriteLn(x);
  --     x := i + 1;
  --   end.
  subrange_checked : outcome 40 (runs name (core_of name [] [] 2 (own name 11 ∷ own name 4 ∷ []) [])
      ((assign (var 1 4) (num (pos 31)) ∷ assign (var 0 11) (to Check 11 (var 1 4)) ∷ line (to Keep 4 (var 0 11) ∷ []) ∷ assign (var 0 11) (to Check 11 (calc (var 1 4) Add (num (pos 1)))) ∷ []) ∷ []))
      ≡ fails_with (said (codes "31")) (codes "201") 201
  unfolding outcome
  subrange_checked = refl
