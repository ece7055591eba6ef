-- Managed code, and how items become blocks of it. (Free Pascal Reference Guide, "Statements", "Exceptions" and "Using functions and
-- procedures".)
use Rattle.std.specs.Prelude.{ℕ, zero, suc, ◌+◌, pos, Bool, true, false, List, [], ◌∷◌, ◌++◌, length, Option, Some, None, nat_eq, if◌then◌else◌}
use Rattle.std.specs.List.{flat_map}
use Rattle.op_core.specs.declared.ids.RoutineId.{RoutineId}
use Rattle.op_core.specs.declared.program.Unit.{Unit as UnitRow}
use Rattle.op_core.specs.declared.statement.Label.{Label}
use Rattle.op_meaning.specs.Actions.{Action, constant}
use Rattle.op_meaning.specs.Calls.{env_of}
use Rattle.op_meaning.specs.Expressions.{first_here}
use Rattle.op_meaning.specs.Frames.{Program}
use Rattle.op_meaning.specs.Items.{Given, Receiver, nowhere, Item, act, also, choose, select, loop, body_first, protect, leave, enter, scoped, attempt, throw, rethrow, halt, construct, free, Items, none, then_do, ◌&◌, Turns, turns, Cases, no_cases, cases}
use Rattle.op_meaning.specs.Shapes.{variables_of}
use Rattle.op_meaning.specs.Statements.{work_of_all, first_items}
use Rattle.op_meaning.specs.World.{Temporary}

-- ---- instructions

-- a branch of a switch: the values that lead to a block
pub record Arm : Type 0 where
  pub labels : List Label
  pub block : ℕ

-- Blocks are named by their numbers. What may raise has a landing: the block at which the code goes on then; with none the activation is
-- left.
pub data Instr : Type 0 where
  do_act : (action : Action) → (landing : Option ℕ) → Instr
  do_call : (routine : ℕ) → (given : List Given) → (receiver : Receiver) → (landing : Option ℕ) → Instr
  jump : (block : ℕ) → Instr
  -- to the block where the temporary is true, or is not, and on to the next instruction otherwise
  when : (temp block : ℕ) → Instr
  unless : (temp block : ℕ) → Instr
  -- to the block of the first arm that has the value, and on where none has
  switch : (temp : ℕ) → (arms : List Arm) → Instr
  -- behind a finally part: by the reason in the temporary to the block of Exit, of Break or of Continue, which stand together, or the
  -- exception in the next temporary is raised again; on where nothing was left
  dispatch : (temp block : ℕ) → Instr
  -- the finalization of a unit becomes due
  make_due : (finalization : RoutineId) → Instr
  -- temporaries that are made behind it end in this order; a temporary ends, if it was made
  open_temporaries : (temporaries : List Temporary) → Instr
  end_temporary : (temporary : Temporary) → Instr
  -- the program ends with the status in the temporary
  stop : (temp : ℕ) → Instr
  ret : Instr

-- ---- code is made from its end

-- code in front of other code, and the blocks that it leads to, from a number on
pub record Made : Type 0 where
  pub now : List Instr
  pub blocks : List (List Instr)

-- the code that leaves, for each reason: 1 leaves the routine, 2 a loop, 3 its turn
abbrev pub Exits : Type 0
Exits = ℕ → List Instr

-- nothing but a jump
abbrev pub is_jump : List Instr → Bool
is_jump (jump k ∷ []) = true
is_jump _ = false

-- how code comes to what stands behind it: by the jump that stands there, or by one to a block with it
abbrev pub continued : ℕ → List Instr → List Instr
continued k behind = if is_jump behind then behind else jump k ∷ []

abbrev pub loop_exits : Exits → ℕ → Exits
loop_exits out k (suc (suc zero)) = jump k ∷ []
loop_exits out k (suc (suc (suc zero))) = jump (suc k) ∷ []
loop_exits out k reason = out reason

abbrev pub finally_exits : ℕ → ℕ → Exits
finally_exits t k reason = do_act (constant t (pos reason)) None ∷ jump k ∷ []

-- temporaries end in front of other code
abbrev pub ends : List Temporary → List Instr → List Instr
ends [] behind = behind
ends (t ∷ ts) behind = end_temporary t ∷ ends ts behind

-- they end in front of what leaves them; none is open any more that could be made
abbrev pub scope_exits : Exits → List Temporary → Exits
scope_exits out ts reason = open_temporaries [] ∷ ends ts (out reason)

-- where the truth of a temporary ends a loop, and where it skips the second operand of `or`
abbrev pub branch_if : Bool → ℕ → ℕ → Instr
branch_if true t k = when t k
branch_if false t k = unless t k

abbrev pub branch_unless : Bool → ℕ → ℕ → Instr
branch_unless true t k = unless t k
branch_unless false t k = when t k

abbrev pub no_code : Made
no_code = record { now = []; blocks = [] }

-- Code that does the items and goes on at what stands behind them; new blocks have the numbers from k on. Items of exceptions
-- and of instances have no code yet.
abbrev mutual
  pub code : Exits → Items → ℕ → List Instr → Made
  code out none k behind = record { now = behind; blocks = [] }
  code out (then_do i others) k behind =
      let b = code out others k behind in
      let a = code_item out i (k + length b.blocks) b.now in
      record { now = a.now; blocks = b.blocks ++ a.blocks }

  pub code_item : Exits → Item → ℕ → List Instr → Made
  code_item out (act a) k behind = record { now = do_act a None ∷ behind; blocks = [] }
  code_item out (also truth t items) k behind =
      let a = code out items (k + 1) (continued k behind) in
      record { now = branch_unless truth t k ∷ a.now; blocks = behind ∷ a.blocks }
  code_item out (choose t first otherwise) k behind =
      let b = code out otherwise (k + 2) (continued k behind) in
      let a = code out first (k + 2 + length b.blocks) (continued k behind) in
      record { now = unless t (k + 1) ∷ a.now; blocks = behind ∷ b.now ∷ b.blocks ++ a.blocks }
  code_item out (select t cs otherwise) k behind =
      let b = code out otherwise (k + 1) (continued k behind) in
      let a = code_cases out cs (k + 1 + length b.blocks) (continued k behind) in
      record { now = switch t a.0 ∷ b.now; blocks = behind ∷ b.blocks ++ a.1 }
  code_item out (loop l) k behind = record { now = jump (suc k) ∷ []; blocks = code_loop out l k behind }
  code_item out (body_first l) k behind = record { now = jump (suc (suc k)) ∷ []; blocks = code_loop out l k behind }
  code_item out (protect t items finalization) k behind =
      let b = code out finalization (k + 4) (dispatch t k ∷ behind) in
      let a = code (finally_exits t k) items (k + 4 + length b.blocks) (jump k ∷ []) in
      record { now = do_act (constant t (pos 0)) None ∷ a.now; blocks = b.now ∷ out 1 ∷ out 2 ∷ out 3 ∷ b.blocks ++ a.blocks }
  code_item out (leave what) k behind = record { now = out (suc what); blocks = [] }
  code_item out (enter r given receiver) k behind = record { now = do_call r given receiver None ∷ behind; blocks = [] }
  code_item out (scoped t ts items) k behind =
      let a = code (scope_exits out (t ∷ ts)) items k (ends (t ∷ ts) behind) in
      record { now = open_temporaries (t ∷ ts) ∷ a.now; blocks = a.blocks }
  code_item out (halt t) k behind = record { now = stop t ∷ behind; blocks = [] }
  code_item out (attempt items cs) k behind = no_code
  code_item out (throw at) k behind = no_code
  code_item out rethrow k behind = no_code
  code_item out (construct c r given receiver) k behind = no_code
  code_item out (free takes_nil at) k behind = no_code

  -- three blocks and those of its parts: what is behind the loop, its head, and its body
  pub code_loop : Exits → Turns → ℕ → List Instr → List (List Instr)
  code_loop out (turns head t ends between body) k behind =
      let c = code (loop_exits out k) body (k + 3) (jump (suc k) ∷ []) in
      let b = code (loop_exits out k) between (k + 3 + length c.blocks) (continued (suc (suc k)) c.now) in
      let a = code out head (k + 3 + length c.blocks + length b.blocks) (branch_if ends t k ∷ b.now) in
      behind ∷ a.now ∷ c.now ∷ c.blocks ++ (b.blocks ++ a.blocks)

  -- the arms, and the blocks that they lead to
  pub code_cases : Exits → Cases → ℕ → List Instr → List Arm × List (List Instr)
  code_cases out no_cases k behind = ([], [])
  code_cases out (cases labels items others) k behind =
      let b = code_cases out others k behind in
      let a = code out items (k + length b.1 + 1) behind in
      (record { labels = labels; block = k + length b.1 } ∷ b.0, b.1 ++ a.now ∷ a.blocks)

-- the body of a loop, and how the code between turns comes to it
abbrev pub body_code : Exits → Turns → ℕ → Made
body_code out (turns head t ends between body) k = code (loop_exits out k) body (k + 3) (jump (suc k) ∷ [])

abbrev pub to_body : Exits → Turns → ℕ → List Instr
to_body out l k = continued (suc (suc k)) (body_code out l k).now

abbrev pub between_code : Exits → Turns → ℕ → ℕ → Made
between_code out (turns head t ends between body) k j = code (loop_exits out k) between j (to_body out (turns head t ends between body) k)

-- ---- routines: block 0 begins, and block 1 returns

abbrev pub routine_exits : Exits
routine_exits reason = jump 1 ∷ []

abbrev pub blocks_of : Items → List (List Instr)
blocks_of items = let a = code routine_exits items 2 (jump 1 ∷ []) in a.now ∷ (ret ∷ []) ∷ a.blocks

-- the first values of a routine's variables, and its statements
abbrev pub items_of : Program → ℕ → Items
items_of p r = first_items p.core p.first r (variables_of p.core r).count & work_of_all (env_of p r) first_here (p.body r)

-- ---- the program itself enters the parts of its units

abbrev pub entering : Option RoutineId → List Instr
entering None = []
entering (Some r) = do_call r.0 [] nowhere None ∷ []

abbrev pub becoming_due : Option RoutineId → List Instr
becoming_due None = []
becoming_due (Some r) = make_due r ∷ []

abbrev pub unit_code : UnitRow → List Instr
unit_code u = entering u.initialization ++ becoming_due u.finalization

abbrev pub program_blocks : Program → List (List Instr)
program_blocks p = (flat_map unit_code p.core.units ++ ret ∷ []) ∷ (ret ∷ []) ∷ []

-- it has the number behind those of all routines
abbrev pub blocks_in : Program → ℕ → List (List Instr)
blocks_in p r = if nat_eq r (length p.core.routines) then program_blocks p else blocks_of (items_of p r)
