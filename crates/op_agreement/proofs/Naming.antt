-- What code names is as it is asked of a routine's variables and temporaries, if each of its instructions names what it may.
use Rattle.std.proofs.Common.{◌≡◌, ◌<◌, ℕ, suc, Bool, true, false, ◌||◌, List, [], ◌∷◌, ◌++◌, fold, length, map, slice_get, Option, Some, None, refl, sym, ap, ◌∙◌, subst, true≢false, if◌then◌else◌}
use Rattle.std.proofs.lemmas.Bool.{eqb-true}
use Rattle.std.proofs.lemmas.List.Elements.{All-cons, All-head, All-nil, All-tail}
use Rattle.std.proofs.lemmas.List.Folds.{list_any-append}
use Rattle.std.specs.List.{All, list_any}
use Rattle.op_base.proofs.Tests.{or_second}
use Rattle.op_constants.specs.Arranged.{IsSmall}
use Rattle.op_core.specs.Rows.{rows}
use Rattle.op_core.specs.declared.ids.TypeId.{TypeId}
use Rattle.op_core.specs.declared.program.Core.{Core}
use Rattle.op_core.specs.declared.routine.Variable.{Variable}
use Rattle.op_places.proofs.RoomLemmas.{temporary_is}
use Rattle.op_places.specs.Frames.{parameters_of}
use Rattle.op_places.specs.Homes.{is_one_root, roots_of, with_action, with_block, with_given, with_instruction, with_place, with_receiver, with_root, with_temporary}
use Rattle.op_meaning.specs.Expressions.{result_of}
use Rattle.op_meaning.specs.Paths.{Step as MeantStep, in_temporary}
use Rattle.op_meaning.specs.Shapes.{type_of_local, variables_of}
use Rattle.op_mir.specs.View.{view_action, view_given, view_path, view_receiver, view_root}
use Rattle.op_mir.specs.declared.action.Action.TheVariants.{Constant, Load, Store, Copy, Look, BeginWith, Pick, Compute, Do}
use Rattle.op_mir.specs.declared.action.Action.{Action}
use Rattle.op_mir.specs.declared.code.Block.{Block}
use Rattle.op_mir.specs.declared.code.Mir.{Mir}
use Rattle.op_mir.specs.declared.code.Routine.{Routine}
use Rattle.op_mir.specs.declared.instruction.Given.TheVariants.{ByValue, ByPlace, ByCopy}
use Rattle.op_mir.specs.declared.instruction.Given.{Given}
use Rattle.op_mir.specs.declared.instruction.Instruction.TheVariants.{Act, Call, Jump, When, Unless, Switch, Dispatch, MakeDue, OpenTemporaries, EndTemporary, Stop, Return}
use Rattle.op_mir.specs.declared.instruction.Instruction.{Instruction}
use Rattle.op_mir.specs.declared.instruction.Receiver.TheVariants.{Nowhere, Temporary as ToTemporary, Place}
use Rattle.op_mir.specs.declared.instruction.Receiver.{Receiver}
use Rattle.op_mir.specs.declared.path.Path.{Path}
use Rattle.op_mir.specs.declared.path.Root.TheVariants.{Global, Local, Through, Temporary}
use Rattle.op_mir.specs.declared.path.Root.{Root}
use Rattle.op_agreement.proofs.Places.{small_first}
use Rattle.op_agreement.specs.Framing.{AreSmallResults, HasVariables, MayAct, MayBeGiven, MayBeNamed, MayReceive, NamesFit}
use Rattle.op_agreement.specs.Typed.{AreSmall, AreTypedGiven, IsFine, IsTypedAction, IsTypedGiven, IsTypedReceiver, IsVariable, PathTo, RootIs}

-- ---- the roots of code

-- roots that are one are the same
root_is : (root s : Root) → is_one_root root s ≡ true → s ≡ root
root_is (Temporary of n) s e = temporary_is of n s e
root_is (Local v) (Local w) e = ap (λ k. Local (record { 0 = k })) (sym (eqb-true v.0 w.0 e))
root_is (Local v) (Global w) e = absurd (true≢false (sym e))
root_is (Local v) (Through w) e = absurd (true≢false (sym e))
root_is (Local v) (Temporary of n) e = absurd (true≢false (sym e))
root_is (Global v) s e = absurd (true≢false (sym e))
root_is (Through v) s e = absurd (true≢false (sym e))

-- a test or nothing
or_nothing : (b : Bool) → (b || false) ≡ true → b ≡ true
or_nothing true e = refl
or_nothing false e = e

module _ (core : Core) (r : ℕ) where
  -- all of these roots may be named
  abbrev pub AllMay : List Root → Type 0
  AllMay roots = (root : Root) → list_any (is_one_root root) roots ≡ true → MayBeNamed core r root

  -- one more that may be named
  end_may : (roots : List Root) (s : Root) → AllMay roots → MayBeNamed core r s → AllMay (roots ++ s ∷ [])
  end_may roots s all may root h = by (list_any (is_one_root root) roots) refl
    where
      by : (b : Bool) → list_any (is_one_root root) roots ≡ b → MayBeNamed core r root
      by true e = all root e
      by false e =
          let last : list_any (is_one_root root) (s ∷ []) ≡ true = or_second (list_any (is_one_root root) roots) (list_any (is_one_root root) (s ∷ [])) e (sym (list_any-append (is_one_root root) roots (s ∷ [])) ∙ h) in
          subst (MayBeNamed core r) (root_is root s (or_nothing (is_one_root root s) last)) may

  -- naming what may be named: a root, those of operands, of an instruction, of code
  root_may : (roots : List Root) (s : Root) → AllMay roots → MayBeNamed core r s → AllMay (with_root roots s)
  root_may roots s all may = by (list_any (is_one_root s) roots)
    where
      by : (b : Bool) → AllMay (if b then roots else roots ++ s ∷ [])
      by true = all
      by false = end_may roots s all may

  temporary_may : (roots : List Root) (s : Root) → AllMay roots → MayBeNamed core r s → AllMay (with_temporary roots s)
  temporary_may roots (Temporary of n) all may = root_may roots (Temporary of n) all may
  temporary_may roots (Global v) all may = all
  temporary_may roots (Local v) all may = all
  temporary_may roots (Through v) all may = all

  place_may : (roots : List Root) (s : Root) → AllMay roots → MayBeNamed core r s → AllMay (with_place roots s)
  place_may roots (Local v) all may = root_may roots (Local v) all may
  place_may roots (Temporary of n) all may = root_may roots (Temporary of n) all may
  place_may roots (Global v) all may = all
  place_may roots (Through v) all may = all

  given_may : (roots : List Root) (g : Given) → AllMay roots → MayBeGiven core r g → AllMay (with_given roots g)
  given_may roots (ByPlace path) all may = place_may roots path.root all may
  given_may roots (ByCopy of path) all may = temporary_may roots path.root all may
  given_may roots (ByValue kind t) all may = all

  givens_may : (roots : List Root) (gs : List Given) → AllMay roots → All (MayBeGiven core r) gs → AllMay (fold with_given roots gs)
  givens_may roots [] all may = all
  givens_may roots (g ∷ gs) all may = givens_may (with_given roots g) gs (given_may roots g all (All-head (MayBeGiven core r) g gs may)) (All-tail (MayBeGiven core r) g gs may)

  receiver_may : (roots : List Root) (x : Receiver) → AllMay roots → MayReceive core r x → AllMay (with_receiver roots x)
  receiver_may roots (Place of to) all may = temporary_may roots to.root all may
  receiver_may roots Nowhere all may = all
  receiver_may roots (ToTemporary t) all may = all

  action_may : (roots : List Root) (a : Action) → AllMay roots → MayAct core r a → AllMay (with_action roots a)
  action_may roots (Load to kind from) all may = temporary_may roots from.root all may
  action_may roots (Store to kind from) all may = temporary_may roots to.root all may
  action_may roots (Copy of to from) all may = temporary_may (with_temporary roots from.root) to.root (temporary_may roots from.root all may.1) may.0
  action_may roots (Look at) all may = temporary_may roots at.root all may
  action_may roots (Constant to n) all may = all
  action_may roots (BeginWith v) all may = all
  action_may roots (Pick to text index) all may = all
  action_may roots (Compute k) all may = all
  action_may roots (Do p os to) all may = all

  instruction_may : (roots : List Root) (i : Instruction) → AllMay roots → NamesFit core r i → AllMay (with_instruction roots i)
  instruction_may roots (Act a landing) all may = action_may roots a all may
  instruction_may roots (Call f call) all may = receiver_may (fold with_given roots call.given) call.receiver (givens_may roots call.given all may.0) may.1
  instruction_may roots (Jump block) all may = all
  instruction_may roots (When t block) all may = all
  instruction_may roots (Unless t block) all may = all
  instruction_may roots (Switch t arms) all may = all
  instruction_may roots (Dispatch t block) all may = all
  instruction_may roots (MakeDue f) all may = all
  instruction_may roots (OpenTemporaries ts) all may = all
  instruction_may roots (EndTemporary t) all may = all
  instruction_may roots (Stop t) all may = all
  instruction_may roots Return all may = all

  code_may : (roots : List Root) (code : List Instruction) → AllMay roots → All (NamesFit core r) code → AllMay (fold with_instruction roots code)
  code_may roots [] all may = all
  code_may roots (i ∷ code) all may = code_may (with_instruction roots i) code (instruction_may roots i all (All-head (NamesFit core r) i code may)) (All-tail (NamesFit core r) i code may)

  blocks_may : (roots : List Root) (blocks : List Block) → AllMay roots → ((k : ℕ) (block : Block) → slice_get blocks k ≡ Some block → All (NamesFit core r) block.code) → AllMay (fold with_block roots blocks)
  blocks_may roots [] all may = all
  blocks_may roots (b ∷ blocks) all may = blocks_may (with_block roots b) blocks (code_may roots b.code all (may 0 b refl)) (λ k block e. may (suc k) block e)

  -- what a routine's code needs an address of may be named, if each of its instructions names what it may
  pub roots_may : (x : Routine) → ((k : ℕ) (block : Block) → slice_get x.blocks k ≡ Some block → All (NamesFit core r) block.code) → AllMay (roots_of x)
  roots_may x may = blocks_may [] x.blocks (λ root h. absurd (true≢false (sym h))) may

  -- ---- typed instructions name what they may

  -- a root of a type, from which the steps lead through small values, may be named
  root_typed : (root : Root) (from : TypeId) (steps : List MeantStep) → RootIs core r (view_root root) from → AreSmall core from steps → MayBeNamed core r root
  root_typed (Temporary of n) from steps is small = subst (IsSmall core) (sym is) (small_first core from steps small)
  root_typed (Local v) from steps is small = is.0
  root_typed (Global v) from steps is small = tt
  root_typed (Through v) from steps is small = tt

  -- so may the root of a typed path
  path_typed : (path : Path) (of : TypeId) → PathTo core r (view_path path) of → MayBeNamed core r path.root
  path_typed path of to = root_typed path.root to.from (view_path path).steps to.root to.small

  -- the roots of a typed action
  action_typed : (a : Action) → IsTypedAction core r (view_action core r a) → MayAct core r a
  action_typed (Load to kind from) typed = let (of, shape, path) = typed in path_typed from of path
  action_typed (Store to kind from) typed = let (of, shape, path) = typed in path_typed to of path
  action_typed (Copy of to from) typed = let (shape, target, source) = typed in (path_typed to of target, path_typed from of source)
  action_typed (Look at) typed = let (of, path) = typed in path_typed at of path
  action_typed (Constant to n) typed = tt
  action_typed (BeginWith v) typed = tt
  action_typed (Pick to text index) typed = tt
  action_typed (Compute k) typed = tt
  action_typed (Do p os to) typed = tt

  -- of what is given to a parameter, and to all
  given_typed : (g : Given) (p : Variable) → IsTypedGiven core r (view_given g) p → MayBeGiven core r g
  given_typed (ByPlace path) p typed = let (reference, to) = typed in path_typed path p.of to
  given_typed (ByCopy of path) p typed = let (value, same, shape, to) = typed in path_typed path of to
  given_typed (ByValue kind t) p typed = tt

  givens_typed : (gs : List Given) (ps : List Variable) → AreTypedGiven core r (map view_given gs) ps → All (MayBeGiven core r) gs
  givens_typed [] ps typed = All-nil (MayBeGiven core r)
  givens_typed (g ∷ gs) [] typed = absurd typed
  givens_typed (g ∷ gs) (p ∷ ps) typed = All-cons (MayBeGiven core r) g gs (given_typed g p typed.0) (givens_typed gs ps typed.1)

  -- a temporary that gets a result of the type
  temporary_typed : (root : Root) (of : TypeId) (n : ℕ) → view_root root ≡ in_temporary of n → IsSmall core of → MayBeNamed core r root
  temporary_typed (Temporary type m) of n e small = let same : type ≡ of = cc in subst (IsSmall core) (sym same) small
  temporary_typed (Local v) of n e small = absurd cc
  temporary_typed (Global v) of n e small = tt
  temporary_typed (Through v) of n e small = tt

  -- what gets a result
  receiver_typed : (x : Receiver) (result : Option TypeId) → IsTypedReceiver core (view_receiver x) result → ((of : TypeId) → result ≡ Some of → IsSmall core of) → MayReceive core r x
  receiver_typed (Place of to) (Some type) typed small =
      let (n, is, same, shape) = typed in
      temporary_typed to.root of n (ap (λ path. path.root) is) (subst (IsSmall core) same (small type refl))
  receiver_typed (Place of to) None typed small = absurd typed
  receiver_typed Nowhere result typed small = tt
  receiver_typed (ToTemporary t) result typed small = tt

  -- an instruction that is fine names what it may, if results are small
  pub fine_names : (mir : Mir) (x : Routine) → AreSmallResults core → (i : Instruction) → IsFine core mir r x i → NamesFit core r i
  fine_names mir x small (Act a landing) fine = action_typed a fine.1
  fine_names mir x small (Call id call) fine =
      let (low, given, receiver, typed) = fine in
      (givens_typed call.given _ typed.gives, receiver_typed call.receiver (result_of (slice_get core.routines id.0)) typed.receives (small id.0))
  fine_names mir x small (Jump block) fine = tt
  fine_names mir x small (When t block) fine = tt
  fine_names mir x small (Unless t block) fine = tt
  fine_names mir x small (Switch t arms) fine = tt
  fine_names mir x small (Dispatch t block) fine = tt
  fine_names mir x small (MakeDue f) fine = tt
  fine_names mir x small (OpenTemporaries ts) fine = absurd fine
  fine_names mir x small (EndTemporary t) fine = absurd fine
  fine_names mir x small (Stop t) fine = tt
  fine_names mir x small Return fine = tt

  -- so what is asked of a routine's variables is there, if their rows fit and each instruction is fine
  pub has_variables : (mir : Mir) (x : Routine) → AreSmallResults core → length (rows core.variables (variables_of core r)) ≡ (variables_of core r).count
      → ((v : ℕ) → IsVariable core r v true → v < parameters_of core r) → ((v : ℕ) → IsVariable core r v false → IsSmall core (type_of_local core r v))
      → ((k : ℕ) (block : Block) → slice_get x.blocks k ≡ Some block → All (IsFine core mir r x) block.code) → HasVariables core r x
  has_variables mir x small there references variables fine =
      let named : AllMay (roots_of x) = roots_may x (λ k block e j d low. fine_names mir x small _ (fine k block e j d low)) in
      record {
        there = there;
        references = references;
        variables = variables;
        temporaries = λ of n h. named (Temporary of n) h;
        places = λ v h. named (Local v) h;
      }
