-- What code needs an address of has one in its frame.
use Rattle.std.proofs.Common.{◌≡◌, ◌⊎◌, inl, inr, ℕ, zero, suc, Bool, true, false, List, [], ◌∷◌, ◌++◌, fold, slice_get, Some, refl, ◌∙◌, subst, if◌then◌else◌}
use Rattle.std.proofs.lemmas.Bool.{eq-eqb, or_left, or_right}
use Rattle.std.proofs.lemmas.List.Folds.{list_any-append}
use Rattle.std.specs.List.{list_any}
use Rattle.op_core.specs.declared.program.Core.{Core}
use Rattle.op_places.proofs.RoomLemmas.{one_with_itself}
use Rattle.op_places.specs.Frames.{frame_of}
use Rattle.op_places.specs.Homes.{is_one_root, roots_of, with_action, with_block, with_call, with_given, with_instruction, with_place, with_receiver, with_root, with_temporary}
use Rattle.op_mir.specs.declared.action.Action.TheVariants.{Constant, Load, Store, Copy, Look, BeginWith, Pick, Compute, Do}
use Rattle.op_mir.specs.declared.action.Action.{Action}
use Rattle.op_mir.specs.declared.code.Block.{Block}
use Rattle.op_mir.specs.declared.code.Routine.{Routine}
use Rattle.op_mir.specs.declared.instruction.Call.{Call as Operands}
use Rattle.op_mir.specs.declared.instruction.Given.TheVariants.{ByValue, ByPlace, ByCopy}
use Rattle.op_mir.specs.declared.instruction.Given.{Given}
use Rattle.op_mir.specs.declared.instruction.Instruction.TheVariants.{Act, Call, Jump, When, Unless, Switch, Dispatch, MakeDue, OpenTemporaries, EndTemporary, Stop, Return}
use Rattle.op_mir.specs.declared.instruction.Instruction.{Instruction}
use Rattle.op_mir.specs.declared.instruction.Receiver.TheVariants.{Nowhere, Temporary as ToTemporary, Place}
use Rattle.op_mir.specs.declared.instruction.Receiver.{Receiver}
use Rattle.op_mir.specs.declared.path.Root.TheVariants.{Global, Local, Through, Temporary}
use Rattle.op_mir.specs.declared.path.Root.{Root}
use Rattle.op_agreement.proofs.Homes.{named_stored}
use Rattle.op_agreement.specs.Framing.{HasVariables}
use Rattle.op_agreement.specs.Settings.{HasGiven, HasHomes, HasReceiver, HasRoots, HaveGiven, HaveHomes, IsPlaced, IsRooted}

-- ---- a root that is among the roots stays there

module _ (root : Root) where
  -- it is among them
  abbrev pub IsAmong : List Root → Type 0
  IsAmong roots = list_any (is_one_root root) roots ≡ true

  -- it is among two lists if it is among one of them
  end_has : (roots others : List Root) → IsAmong roots ⊎ IsAmong others → IsAmong (roots ++ others)
  end_has roots others (inl h) = list_any-append (is_one_root root) roots others ∙ or_left (list_any (is_one_root root) roots) (list_any (is_one_root root) others) h
  end_has roots others (inr h) = list_any-append (is_one_root root) roots others ∙ or_right (list_any (is_one_root root) roots) (list_any (is_one_root root) others) h

  -- naming further roots lets it stay: a root, those of operands, of an instruction, of code
  root_stays : (roots : List Root) (s : Root) → IsAmong roots → IsAmong (with_root roots s)
  root_stays roots s h = by (list_any (is_one_root s) roots)
    where
      by : (b : Bool) → IsAmong (if b then roots else roots ++ s ∷ [])
      by true = h
      by false = end_has roots (s ∷ []) (inl h)

  temporary_stays : (roots : List Root) (s : Root) → IsAmong roots → IsAmong (with_temporary roots s)
  temporary_stays roots (Temporary of n) h = root_stays roots (Temporary of n) h
  temporary_stays roots (Global v) h = h
  temporary_stays roots (Local v) h = h
  temporary_stays roots (Through v) h = h

  place_stays : (roots : List Root) (s : Root) → IsAmong roots → IsAmong (with_place roots s)
  place_stays roots (Local v) h = root_stays roots (Local v) h
  place_stays roots (Temporary of n) h = temporary_stays roots (Temporary of n) h
  place_stays roots (Global v) h = h
  place_stays roots (Through v) h = h

  given_stays : (roots : List Root) (x : Given) → IsAmong roots → IsAmong (with_given roots x)
  given_stays roots (ByPlace path) h = place_stays roots path.root h
  given_stays roots (ByCopy of path) h = temporary_stays roots path.root h
  given_stays roots (ByValue kind t) h = h

  pub givens_stay : (roots : List Root) (xs : List Given) → IsAmong roots → IsAmong (fold with_given roots xs)
  givens_stay roots [] h = h
  givens_stay roots (x ∷ xs) h = givens_stay (with_given roots x) xs (given_stays roots x h)

  pub receiver_stays : (roots : List Root) (x : Receiver) → IsAmong roots → IsAmong (with_receiver roots x)
  receiver_stays roots (Place of to) h = temporary_stays roots to.root h
  receiver_stays roots Nowhere h = h
  receiver_stays roots (ToTemporary t) h = h

  action_stays : (roots : List Root) (a : Action) → IsAmong roots → IsAmong (with_action roots a)
  action_stays roots (Load to kind from) h = temporary_stays roots from.root h
  action_stays roots (Store to kind from) h = temporary_stays roots to.root h
  action_stays roots (Copy of to from) h = temporary_stays (with_temporary roots from.root) to.root (temporary_stays roots from.root h)
  action_stays roots (Look at) h = temporary_stays roots at.root h
  action_stays roots (Constant to n) h = h
  action_stays roots (BeginWith v) h = h
  action_stays roots (Pick to text index) h = h
  action_stays roots (Compute k) h = h
  action_stays roots (Do p os to) h = h

  instruction_stays : (roots : List Root) (i : Instruction) → IsAmong roots → IsAmong (with_instruction roots i)
  instruction_stays roots (Act a landing) h = action_stays roots a h
  instruction_stays roots (Call f call) h = receiver_stays (fold with_given roots call.given) call.receiver (givens_stay roots call.given h)
  instruction_stays roots (Jump block) h = h
  instruction_stays roots (When t block) h = h
  instruction_stays roots (Unless t block) h = h
  instruction_stays roots (Switch t arms) h = h
  instruction_stays roots (Dispatch t block) h = h
  instruction_stays roots (MakeDue f) h = h
  instruction_stays roots (OpenTemporaries ts) h = h
  instruction_stays roots (EndTemporary t) h = h
  instruction_stays roots (Stop t) h = h
  instruction_stays roots Return h = h

  pub code_stays : (roots : List Root) (code : List Instruction) → IsAmong roots → IsAmong (fold with_instruction roots code)
  code_stays roots [] h = h
  code_stays roots (i ∷ code) h = code_stays (with_instruction roots i) code (instruction_stays roots i h)

  pub blocks_stay : (roots : List Root) (blocks : List Block) → IsAmong roots → IsAmong (fold with_block roots blocks)
  blocks_stay roots [] h = h
  blocks_stay roots (b ∷ blocks) h = blocks_stay (with_block roots b) blocks (code_stays roots b.code h)

-- ---- what code names is among the roots

-- a root that is one with itself is among them once it is named
named : (roots : List Root) (s : Root) → is_one_root s s ≡ true → IsAmong s (with_root roots s)
named roots s same = by (list_any (is_one_root s) roots) refl
  where
    by : (b : Bool) → list_any (is_one_root s) roots ≡ b → IsAmong s (if b then roots else roots ++ s ∷ [])
    by true e = e
    by false e = end_has s roots (s ∷ []) (inr (or_left (is_one_root s s) false same))

-- all of the one list are among the other
abbrev pub AreAmong : (roots others : List Root) → Type 0
AreAmong roots others = (root : Root) → IsAmong root roots → IsAmong root others

module _ (core : Core) (r : ℕ) (x : Routine) (has : HasVariables core r x) where
  -- a temporary that begins a path is among the roots
  rooted : (roots : List Root) (s : Root) → AreAmong (with_temporary roots s) (roots_of x) → IsRooted core r (frame_of core r x) s
  rooted roots (Temporary of n) among = among (Temporary of n) (named roots (Temporary of n) (one_with_itself of n))
  rooted roots (Global v) among = tt
  rooted roots (Local v) among = tt
  rooted roots (Through v) among = tt

  -- a variable that is given by place is stored, since it is among the roots
  placed : (roots : List Root) (s : Root) → AreAmong (with_place roots s) (roots_of x) → IsPlaced core r (frame_of core r x) s
  placed roots (Local v) among =
      let here : IsAmong (Local v) (roots_of x) = among (Local v) (named roots (Local v) (eq-eqb v.0 v.0 refl)) in
      named_stored core r x has v.0 (has.places v here) here
  placed roots (Temporary of n) among = rooted roots (Temporary of n) among
  placed roots (Global v) among = tt
  placed roots (Through v) among = tt

  -- what is given has an address where it needs one
  given_home : (roots : List Root) (given : Given) → AreAmong (with_given roots given) (roots_of x) → HasGiven core r (frame_of core r x) given
  given_home roots (ByPlace path) among = placed roots path.root among
  given_home roots (ByCopy of path) among = rooted roots path.root among
  given_home roots (ByValue kind t) among = tt

  givens_home : (roots : List Root) (given : List Given) → AreAmong (fold with_given roots given) (roots_of x) → HaveGiven core r (frame_of core r x) given
  givens_home roots [] among = tt
  givens_home roots (g ∷ gs) among =
      (given_home roots g (λ root h. among root (givens_stay root (with_given roots g) gs h)), givens_home (with_given roots g) gs among)

  -- and so has what gets a result
  receiver_home : (roots : List Root) (receiver : Receiver) → AreAmong (with_receiver roots receiver) (roots_of x) → HasReceiver core r (frame_of core r x) receiver
  receiver_home roots (Place of to) among = rooted roots to.root among
  receiver_home roots Nowhere among = tt
  receiver_home roots (ToTemporary t) among = tt

  -- what an action names has an address
  action_home : (roots : List Root) (a : Action) → AreAmong (with_action roots a) (roots_of x) → HasRoots core r (frame_of core r x) a
  action_home roots (Load to kind from) among = rooted roots from.root among
  action_home roots (Store to kind from) among = rooted roots to.root among
  action_home roots (Copy of to from) among =
      (rooted (with_temporary roots from.root) to.root among, rooted roots from.root (λ root h. among root (temporary_stays root (with_temporary roots from.root) to.root h)))
  action_home roots (Look at) among = rooted roots at.root among
  action_home roots (Constant to n) among = tt
  action_home roots (BeginWith v) among = tt
  action_home roots (Pick to text index) among = tt
  action_home roots (Compute k) among = tt
  action_home roots (Do p os to) among = tt

  -- and what a call names
  call_home : (roots : List Root) (call : Operands) → AreAmong (with_call roots call) (roots_of x) → HaveGiven core r (frame_of core r x) call.given × HasReceiver core r (frame_of core r x) call.receiver
  call_home roots call among = (
    givens_home roots call.given (λ root h. among root (receiver_stays root (fold with_given roots call.given) call.receiver h)),
    receiver_home (fold with_given roots call.given) call.receiver among,
  )

  -- and what an instruction names
  instruction_home : (roots : List Root) (i : Instruction) → AreAmong (with_instruction roots i) (roots_of x) → HasHomes core r (frame_of core r x) i
  instruction_home roots (Act a landing) among = action_home roots a among
  instruction_home roots (Call f call) among = call_home roots call among
  instruction_home roots (Jump block) among = tt
  instruction_home roots (When t block) among = tt
  instruction_home roots (Unless t block) among = tt
  instruction_home roots (Switch t arms) among = tt
  instruction_home roots (Dispatch t block) among = tt
  instruction_home roots (MakeDue f) among = tt
  instruction_home roots (OpenTemporaries ts) among = tt
  instruction_home roots (EndTemporary t) among = tt
  instruction_home roots (Stop t) among = tt
  instruction_home roots Return among = tt

  -- in code all of whose roots are among those of the routine
  code_home : (roots : List Root) (code : List Instruction) → AreAmong (fold with_instruction roots code) (roots_of x) → HaveHomes core r (frame_of core r x) code
  code_home roots [] among = tt
  code_home roots (i ∷ code) among =
      (instruction_home roots i (λ root h. among root (code_stays root (with_instruction roots i) code h)), code_home (with_instruction roots i) code among)

  -- and in each of some blocks
  blocks_home : (roots : List Root) (blocks : List Block) (k : ℕ) (block : Block) → AreAmong (fold with_block roots blocks) (roots_of x) → slice_get blocks k ≡ Some block → HaveHomes core r (frame_of core r x) block.code
  blocks_home roots [] k block among e = absurd cc
  blocks_home roots (b ∷ blocks) zero block among e =
      let same : b ≡ block = cc in
      subst (λ b. HaveHomes core r (frame_of core r x) b.code) same (code_home roots b.code (λ root h. among root (blocks_stay root (with_block roots b) blocks h)))
  blocks_home roots (b ∷ blocks) (suc k) block among e = blocks_home (with_block roots b) blocks k block among e

  -- What the code of a routine needs an address of has one, also where nothing comes to that code.
  pub have_homes : (k : ℕ) (block : Block) → slice_get x.blocks k ≡ Some block → HaveHomes core r (frame_of core r x) block.code
  have_homes k block e = blocks_home [] x.blocks k block (λ root h. h) e
