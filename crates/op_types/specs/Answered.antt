-- What is answered of constant expressions.
use Rattle.std.specs.Option.{option_map}
use Rattle.std.specs.Prelude.{◌≡◌, ◌⊎◌, Bool, true, false, List, Option, Some, None, Result, Ok, Err}
use Rattle.op_core.specs.Faults.{FirstIs}
use Rattle.op_core.specs.Relations.{IsFirstOf, NoneBroken, Only, Through}
use Rattle.op_core.specs.declared.constant.Const.{Const}
use Rattle.op_core.specs.declared.error.CheckError.TheVariants.{Refused, NoMemory}
use Rattle.op_core.specs.declared.error.CheckError.{CheckError}
use Rattle.op_core.specs.declared.program.Core.{Core}
use Rattle.op_judgement.specs.Judgement.{Breaks, Judgement, Means, checked}
use Rattle.op_tree.specs.Expression.{Expression, chain, prefixed, number, nil, set, literal, designated, inherited, Operations, no_operations, operation, Elements, no_elements, elements, Element, one, range, Designator, designator, named, bracketed, no_selectors, selectors, member, call, Arguments, no_arguments, arguments, value}
use Rattle.op_types.specs.ConstantParts.{joined_name}
use Rattle.op_types.specs.Folding.{constant, is_constant}
use Rattle.op_types.specs.Names.{Named, lower, meaning_of}
use Rattle.op_types.specs.declared.constant.Constant.{Constant}
use Rattle.op_types.specs.declared.visible.Meaning.TheVariants.{Spoiled}

-- ---- spoiled names

-- a name in it is spoiled: its declaration breaks a rule
abbrev mutual
  pub IsSpoiled : List Named → Expression → Type 0
  IsSpoiled names (chain first rest) = IsSpoiled names first ⊎ OperandsAreSpoiled names rest
  IsSpoiled names (prefixed o p e) = IsSpoiled names e
  IsSpoiled names (number n p) = ⊥
  IsSpoiled names (nil p) = ⊥
  IsSpoiled names (set p es) = ElementsAreSpoiled names es
  IsSpoiled names (literal text p s) = ⊥
  IsSpoiled names (designated d) = DesignatorIsSpoiled names d
  IsSpoiled names (inherited p d) = ⊥

  pub OperandsAreSpoiled : List Named → Operations → Type 0
  OperandsAreSpoiled names no_operations = ⊥
  OperandsAreSpoiled names (operation o p e others) = IsSpoiled names e ⊎ OperandsAreSpoiled names others

  pub ElementsAreSpoiled : List Named → Elements → Type 0
  ElementsAreSpoiled names no_elements = ⊥
  ElementsAreSpoiled names (elements e es) = ElementIsSpoiled names e ⊎ ElementsAreSpoiled names es

  pub ElementIsSpoiled : List Named → Element → Type 0
  ElementIsSpoiled names (one e) = IsSpoiled names e
  ElementIsSpoiled names (range e f) = IsSpoiled names e ⊎ IsSpoiled names f

  pub DesignatorIsSpoiled : List Named → Designator → Type 0
  DesignatorIsSpoiled names (designator (named n) no_selectors) = meaning_of names (lower n.text) ≡ Some Spoiled
  DesignatorIsSpoiled names (designator (named n) (selectors (member m) no_selectors)) = meaning_of names (joined_name n.text m.text) ≡ Some Spoiled
  DesignatorIsSpoiled names (designator (named n) (selectors (call args) no_selectors)) =
      (meaning_of names (lower n.text) ≡ Some Spoiled) ⊎ ArgumentIsSpoiled names args
  DesignatorIsSpoiled names (designator (named n) (selectors (member m) (selectors (call args) no_selectors))) =
      (meaning_of names (joined_name n.text m.text) ≡ Some Spoiled) ⊎ ArgumentIsSpoiled names args
  DesignatorIsSpoiled names (designator (bracketed p e) no_selectors) = IsSpoiled names e
  DesignatorIsSpoiled names _ = ⊥

  pub ArgumentIsSpoiled : List Named → Arguments → Type 0
  ArgumentIsSpoiled names (arguments (value e) no_arguments) = IsSpoiled names e
  ArgumentIsSpoiled names _ = ⊥

-- ---- what is answered

-- the constant, where no rule is broken; else the first one; None where it is no constant expression
abbrev pub FoldIs : Bool → Judgement Constant → Result (Option Const) CheckError → Type 0
FoldIs is_one j (Err NoMemory) = Unit {0}
FoldIs false j (Ok v) = v ≡ None
FoldIs false j (Err (Refused r)) = ⊥
FoldIs true j (Ok v) = (v ≡ option_map (λ a. a.value) (checked j).typed) × FirstIs (checked j).faults None
FoldIs true j (Err (Refused r)) = FirstIs (checked j).faults (Some r)

-- it evaluates to nothing
abbrev pub Without : (Constant → Type 0) → Type 0
Without T = (a : Constant) → T a → ⊥

-- A value where the expression is constant and has one, and breaks no rule. None where it is not constant; or where it breaks no rule and
-- has no value either, since a name in it is spoiled. Else the first rule that it breaks. Memory may be short at any time.
abbrev pub Folds : Core → List Named → Expression → Result (Option Const) CheckError → Type 0
Folds core names e (Ok (Some v)) =
    (is_constant core names e ≡ true) × Through (Means (constant core names e)) (λ a. Only a.value) v × NoneBroken (Breaks (constant core names e))
Folds core names e (Ok None) =
    (is_constant core names e ≡ false)
    ⊎ ((is_constant core names e ≡ true) × Without (Means (constant core names e)) × NoneBroken (Breaks (constant core names e)) × IsSpoiled names e)
Folds core names e (Err (Refused r)) = (is_constant core names e ≡ true) × IsFirstOf (Breaks (constant core names e)) r
Folds core names e (Err NoMemory) = Unit {0}
