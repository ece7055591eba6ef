-- What holds of each instruction of the code of items, if it holds of those that each item becomes.
use Rattle.std.specs.Prelude.{◌≡◌, ◌<◌, ℕ, suc, ◌+◌, pos, Bool, List, [], ◌∷◌, None}
use Rattle.op_core.specs.declared.statement.Label.{Label}
use Rattle.op_meaning.specs.Actions.{constant}
use Rattle.op_meaning.specs.Items.{Item, act, also, choose, select, loop, body_first, protect, leave, enter, scoped, attempt, throw, rethrow, halt, construct, free, Items, none, then_do, Turns, turns, Cases, no_cases, cases}
use Rattle.op_mir.specs.Code.{Arm, Instr, do_act, do_call, jump, when, unless, switch, dispatch, make_due, open_temporaries, end_temporary, stop, ret, branch_if, branch_unless}

-- this holds of each element
abbrev pub Every : {A : Type 0} → (A → Type 0) → List A → Type 0
Every Q [] = Unit {0}
Every Q (x ∷ xs) = Q x × Every Q xs

-- the code never goes on behind it
abbrev pub IsLast : Instr → Type 0
IsLast (jump k) = Unit {0}
IsLast ret = Unit {0}
IsLast (stop t) = ⊥
IsLast (do_act a landing) = ⊥
IsLast (do_call r given receiver landing) = ⊥
IsLast (when t k) = ⊥
IsLast (unless t k) = ⊥
IsLast (switch t arms) = ⊥
IsLast (dispatch t k) = ⊥
IsLast (make_due f) = ⊥
IsLast (open_temporaries ts) = ⊥
IsLast (end_temporary t) = ⊥

abbrev pub Leaves : List Instr → Type 0
Leaves [] = ⊥
Leaves (i ∷ []) = IsLast i
Leaves (i ∷ j ∷ is) = Leaves (j ∷ is)

-- this holds of each instruction, and the last one leaves the code
pub record IsCode (Q : Instr → Type 0) (code : List Instr) : Type 0 where
  pub each : Every Q code
  pub leaves : Leaves code

-- the arms of a selection: each leads to one of so many blocks, and not to the first one
abbrev pub ArmsOf : ℕ → Cases → List Arm → Type 0
ArmsOf blocks no_cases [] = Unit {0}
ArmsOf blocks (cases labels items others) (arm ∷ arms) = (arm.labels ≡ labels) × (0 < arm.block) × (arm.block < blocks) × ArmsOf blocks others arms
ArmsOf blocks _ _ = ⊥

-- Of the instructions of items, where there are so many blocks. No branch leads to the first one. Items of exceptions and of instances have no code, and
-- temporaries that have to be ended no low code.
abbrev mutual
  pub AreMade : (Instr → Type 0) → ℕ → Items → Type 0
  AreMade Q blocks none = Unit {0}
  AreMade Q blocks (then_do i others) = IsMade Q blocks i × AreMade Q blocks others

  pub IsMade : (Instr → Type 0) → ℕ → Item → Type 0
  IsMade Q blocks (act a) = Q (do_act a None)
  IsMade Q blocks (also truth t items) = ((k : ℕ) → 0 < k → k < blocks → Q (branch_unless truth t k)) × AreMade Q blocks items
  IsMade Q blocks (choose t first otherwise) = ((k : ℕ) → 0 < k → k < blocks → Q (unless t k)) × AreMade Q blocks first × AreMade Q blocks otherwise
  IsMade Q blocks (select t cs otherwise) = ((arms : List Arm) → ArmsOf blocks cs arms → Q (switch t arms)) × AreMadeCases Q blocks cs × AreMade Q blocks otherwise
  IsMade Q blocks (loop l) = AreMadeTurns Q blocks l
  IsMade Q blocks (body_first l) = AreMadeTurns Q blocks l
  IsMade Q blocks (protect t items finalization) = ((n : ℕ) → n < 4 → Q (do_act (constant t (pos n)) None)) × ((k : ℕ) → k + 3 < blocks → Q (dispatch t k)) × AreMade Q blocks items × AreMade Q blocks finalization
  IsMade Q blocks (leave what) = what < 3
  IsMade Q blocks (enter r given receiver) = Q (do_call r given receiver None)
  IsMade Q blocks (halt t) = Q (stop t)
  IsMade Q blocks (scoped t ts items) = ⊥
  IsMade Q blocks (attempt items cs) = ⊥
  IsMade Q blocks (throw at) = ⊥
  IsMade Q blocks rethrow = ⊥
  IsMade Q blocks (construct c r given receiver) = ⊥
  IsMade Q blocks (free takes_nil at) = ⊥

  pub AreMadeTurns : (Instr → Type 0) → ℕ → Turns → Type 0
  AreMadeTurns Q blocks (turns head t ends between body) = ((k : ℕ) → 0 < k → k < blocks → Q (branch_if ends t k)) × AreMade Q blocks head × AreMade Q blocks between × AreMade Q blocks body

  pub AreMadeCases : (Instr → Type 0) → ℕ → Cases → Type 0
  AreMadeCases Q blocks no_cases = Unit {0}
  AreMadeCases Q blocks (cases labels items others) = AreMade Q blocks items × AreMadeCases Q blocks others
