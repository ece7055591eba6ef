-- How many scratch registers variables begin with, and what a routine without statements does: its variables begin with their values, and it returns.
use Rattle.std.proofs.Common.{◌≡◌, ◌<◌, ◌≤◌, ◌⊎◌, inl, inr, ℕ, zero, suc, ◌+◌, Bool, true, false, List, [], ◌∷◌, length, map, fold, take, nat_lt, Option, Some, None, slice_get, refl, sym, ap, ◌∙◌, subst, arith, if◌then◌else◌}
use Rattle.std.specs.List.{list_any}
use Rattle.op_constants.specs.Offsets.{size_in}
use Rattle.op_constants.specs.Shapes.{is_composite}
use Rattle.op_core.proofs.Rows.{row_at}
use Rattle.op_core.specs.Initial.{FirstValue}
use Rattle.op_core.specs.Rows.{rows}
use Rattle.op_core.specs.Statement.{BuiltIn, write, read, count, set_length, include, exclude, val, str, free as free_of, destroy, Statement, empty, call as call_statement, built_in, Statements, no_statements, statements}
use Rattle.op_core.specs.declared.ids.TypeId.{TypeId}
use Rattle.op_core.specs.declared.program.Core.{Core}
use Rattle.op_core.specs.declared.routine.Variable.{Variable}
use Rattle.op_places.specs.Frames.{first_room, frame_of, parameters_of}
use Rattle.op_places.specs.Homes.{home_at, home_by, homes_from, keeping_of, roots_of, room_by, with_block, with_instruction}
use Rattle.op_places.specs.declared.frame.Frame.{Frame}
use Rattle.op_places.specs.declared.homes.Keeping.TheVariants.{AsGiven, InRegister}
use Rattle.op_places.specs.declared.homes.Room.{Room}
use Rattle.op_frames.proofs.ExpressionsWithin.{expression_some, made_both}
use Rattle.op_frames.proofs.Lowered.{code_is, most_at}
use Rattle.op_frames.specs.Counted.{AreCountedStatements, IsCountedStatement}
use Rattle.op_frames.specs.Fitting.{begin_of_block, begin_of_routine, begin_room, begins_with_one, is_held, is_stored}
use Rattle.op_frames.specs.Made.{AreMade, Every, IsCode}
use Rattle.op_lower.specs.Lowers.{IsRoutine}
use Rattle.op_meaning.specs.Actions.{begin_with}
use Rattle.op_meaning.specs.Calls.{env_of}
use Rattle.op_meaning.specs.Charge.{built_in_weight, nodes_of, statement_weight, statements_weight}
use Rattle.op_meaning.specs.Expressions.{Env, Here, first_here}
use Rattle.op_meaning.specs.Frames.{program_of}
use Rattle.op_meaning.specs.Items.{act, none, only}
use Rattle.op_meaning.specs.Shapes.{is_reference, shape_of, type_of_local, type_of_row, variables_of}
use Rattle.op_meaning.specs.Statements.{first_items, work_of, work_of_all}
use Rattle.op_mir.specs.Code.{Instr, do_act, jump, ret}
use Rattle.op_mir.specs.View.{view_block, view_instruction}
use Rattle.op_mir.specs.declared.action.Action.{Action}
use Rattle.op_mir.specs.declared.action.Action.TheVariants.{Constant, Load, Store, Copy, Look, BeginWith, Pick, Compute, Do}
use Rattle.op_mir.specs.declared.code.Block.{Block}
use Rattle.op_mir.specs.declared.code.Routine.{Routine}
use Rattle.op_mir.specs.declared.ids.BlockId.{BlockId}
use Rattle.op_mir.specs.declared.ids.LocalId.{LocalId}
use Rattle.op_mir.specs.declared.instruction.Instruction.{Instruction}
use Rattle.op_mir.specs.declared.instruction.Instruction.TheVariants.{Act, Call, Jump, When, Unless, Switch, Dispatch, MakeDue, OpenTemporaries, EndTemporary, Stop, Return}
use Rattle.op_mir.specs.declared.path.Root.{Root}

-- ---- two at most

two_by : (one : Bool) → (if one then 1 else 2) ≤ 2
two_by true = omega arith
two_by false = omega arith

module _ (core : Core) (r : ℕ) (frame : Frame) where
  room_two : (i : Instruction) → begin_room core r frame i ≤ 2
  unfolding begin_room
  room_two (Act (BeginWith v) landing) = two_by (begins_with_one core r frame v)
  room_two (Act (Constant to k) landing) = omega arith
  room_two (Act (Load to kind from) landing) = omega arith
  room_two (Act (Store to kind from) landing) = omega arith
  room_two (Act (Copy of to from) landing) = omega arith
  room_two (Act (Look at) landing) = omega arith
  room_two (Act (Pick to text index) landing) = omega arith
  room_two (Act (Compute c) landing) = omega arith
  room_two (Act (Do p operands to) landing) = omega arith
  room_two (Call f operands) = omega arith
  room_two (Jump block) = omega arith
  room_two (When t block) = omega arith
  room_two (Unless t block) = omega arith
  room_two (Switch t arms) = omega arith
  room_two (Dispatch t block) = omega arith
  room_two (MakeDue f) = omega arith
  room_two (OpenTemporaries ts) = omega arith
  room_two (EndTemporary t) = omega arith
  room_two (Stop t) = omega arith
  room_two Return = omega arith

  code_two : (code : List Instruction) → Every (λ i. begin_room core r frame i ≤ 2) code
  code_two [] = tt
  code_two (i ∷ code) = (room_two i, code_two code)

  blocks_two : (bs : List Block) → Every (λ b. begin_of_block core r frame b ≤ 2) bs
  blocks_two [] = tt
  blocks_two (b ∷ bs) = (most_at (begin_room core r frame) b.code 2 (code_two b.code), blocks_two bs)

pub begins_two : (core : Core) (r : ℕ) (routine : Routine) → begin_of_routine core r routine ≤ 2
begins_two core r routine = most_at (begin_of_block core r (frame_of core r routine)) routine.blocks 2 (blocks_two core r (frame_of core r routine) routine.blocks)

-- ---- a body without nodes has no items

built_in_some : (core : Core) (b : BuiltIn) → 1 ≤ nodes_of (built_in_weight core b)
built_in_some core (write items ends_line) = omega arith
built_in_some core (read targets ends_line) = omega arith
built_in_some core (count direction target amount checked) = omega arith
built_in_some core (set_length target e) = omega arith
built_in_some core (include s e) = omega arith
built_in_some core (exclude s e) = omega arith
built_in_some core (val text v code) = omega arith
built_in_some core (str v target) = omega arith
built_in_some core (free_of e empties) = omega arith
built_in_some core (destroy e) = omega arith

module _ (Q : Instr → Type 0) (blocks : ℕ) (env : Env) (here : Here) where
  no_work : (s : Statement) → IsCountedStatement s → nodes_of (statement_weight env.core s) ≡ 0 → AreMade Q blocks (work_of env here s)
  no_work empty c e = tt
  no_work (call_statement a) c e = let some = expression_some env.core a c in absurd (omega (arith, some, e))
  no_work (built_in action) c e = let some = built_in_some env.core action in absurd (omega (arith, some, e))
  no_work _ c e = absurd (omega (arith, e))

  none_works : (ss : Statements) → AreCountedStatements ss → nodes_of (statements_weight env.core ss) ≡ 0 → AreMade Q blocks (work_of_all env here ss)
  none_works no_statements c e = tt
  none_works (statements s ss) c e = made_both Q blocks (work_of env here s) (work_of_all env here ss) (no_work s c.0 (omega (arith, e))) (none_works ss c.1 (omega (arith, e)))

-- ---- rows of variables

-- a variable of the routine with the number
record HasRow (core : Core) (r v : ℕ) : Type 0 where
  row : Variable
  there : slice_get (rows core.variables (variables_of core r)) v ≡ Some row
  of : type_of_local core r v ≡ row.of

-- ---- what is done there

-- a variable begins with a value, or the routine returns
abbrev IsBeginning : Core → ℕ → Instr → Type 0
IsBeginning core r (do_act (begin_with v of value) landing) = HasRow core r v
IsBeginning core r (jump k) = Unit {0}
IsBeginning core r ret = Unit {0}
IsBeginning core r _ = ⊥

module _ (core : Core) (stack r blocks : ℕ) where
  has_row : (v : ℕ) → v < (variables_of core r).count → (o : Option Variable) → slice_get core.variables ((variables_of core r).first + v) ≡ o → (value : FirstValue) → (program_of core stack).first ((variables_of core r).first + v) ≡ Some value → HasRow core r v
  has_row v low None there value e = let none : None ≡ Some value = rw there at e in absurd cc
  has_row v low (Some row) there value e = record { row = row; there = row_at core.variables (variables_of core r) v low ∙ there; of = ap type_of_row there }

  firsts_begin : (n : ℕ) → n ≤ (variables_of core r).count → AreMade (IsBeginning core r) blocks (first_items core (program_of core stack).first r n)
  firsts_begin zero less = tt
  firsts_begin (suc v) less = by (firsts_begin v (omega (arith, less))) ((program_of core stack).first ((variables_of core r).first + v)) refl
    where
      by : AreMade (IsBeginning core r) blocks (first_items core (program_of core stack).first r v) → (o : Option FirstValue) → (program_of core stack).first ((variables_of core r).first + v) ≡ o → AreMade (IsBeginning core r) blocks (first_items core (program_of core stack).first r (suc v))
      by so_far None e = rw e (made_both (IsBeginning core r) blocks (first_items core (program_of core stack).first r v) none so_far tt)
      by so_far (Some value) e = rw e (made_both (IsBeginning core r) blocks (first_items core (program_of core stack).first r v) (only (act (begin_with v (type_of_local core r v) value))) so_far (has_row v (omega (arith, less)) (slice_get core.variables ((variables_of core r).first + v)) refl value e, tt))

-- ---- it names no root

module _ (core : Core) (r : ℕ) where
  action_roots : (a : Action) (landing : Option BlockId) → IsBeginning core r (view_instruction core r (Act a landing)) → (roots : List Root) → with_instruction roots (Act a landing) ≡ roots
  action_roots (Load to kind from) landing p roots = absurd p
  action_roots (Store to kind from) landing p roots = absurd p
  action_roots (Copy of to from) landing p roots = absurd p
  action_roots (Look at) landing p roots = absurd p
  action_roots (BeginWith v) landing p roots = refl
  action_roots (Constant to k) landing p roots = refl
  action_roots (Pick to text index) landing p roots = refl
  action_roots (Compute c) landing p roots = refl
  action_roots (Do q operands to) landing p roots = refl

  instruction_roots : (i : Instruction) → IsBeginning core r (view_instruction core r i) → (roots : List Root) → with_instruction roots i ≡ roots
  instruction_roots (Act a landing) p roots = action_roots a landing p roots
  instruction_roots (Call f operands) p roots = absurd p
  instruction_roots (Jump block) p roots = refl
  instruction_roots (When t block) p roots = refl
  instruction_roots (Unless t block) p roots = refl
  instruction_roots (Switch t arms) p roots = refl
  instruction_roots (Dispatch t block) p roots = refl
  instruction_roots (MakeDue f) p roots = refl
  instruction_roots (OpenTemporaries ts) p roots = refl
  instruction_roots (EndTemporary t) p roots = refl
  instruction_roots (Stop t) p roots = refl
  instruction_roots Return p roots = refl

  code_roots : (code : List Instruction) → Every (IsBeginning core r) (map (view_instruction core r) code) → (roots : List Root) → fold with_instruction roots code ≡ roots
  code_roots [] p roots = refl
  code_roots (i ∷ code) p roots = ap (λ rs. fold with_instruction rs code) (instruction_roots i p.0 roots) ∙ code_roots code p.1 roots

  blocks_roots : (bs : List Block) → Every (IsCode (IsBeginning core r)) (map (view_block core r) bs) → (roots : List Root) → fold with_block roots bs ≡ roots
  blocks_roots [] p roots = refl
  blocks_roots (b ∷ bs) p roots = let code = p.0 in ap (λ rs. fold with_block rs bs) (code_roots b.code code.each roots) ∙ blocks_roots bs p.1 roots

-- ---- so its numbers are in registers

held_by_keeping : (reference parameter : Bool) (k : ℕ) (room : Room) → is_held (home_by (if reference then AsGiven else if parameter then AsGiven else InRegister) k room) ≡ true
held_by_keeping true parameter k room = refl
held_by_keeping false true k room = refl
held_by_keeping false false k room = refl

number_held : (core : Core) (parameters k : ℕ) (room : Room) (vs : List Variable) (j : ℕ) (w : Variable) → slice_get vs j ≡ Some w → is_composite (shape_of core w.of) ≡ false → is_held (home_at (homes_from core parameters [] k room vs) (record { 0 = j })) ≡ true
number_held core parameters k room [] j w there e = absurd cc
number_held core parameters k room (v ∷ vs) zero w there e =
    let same : v ≡ w = cc in
    let single : is_composite (shape_of core v.of) ≡ false = subst (λ (x : Variable). is_composite (shape_of core x.of) ≡ false) (sym same) e in
    rw single (held_by_keeping (is_reference v.role) (nat_lt k parameters) k room)
number_held core parameters k room (v ∷ vs) (suc j) w there e = number_held core parameters (k + 1) (room_by (keeping_of core parameters [] k v) (size_in core v.of) room) vs j w there e

-- ---- and one scratch register is enough, if the register of a parameter is free or there are no variables

module _ (core : Core) (r : ℕ) (routine : Routine) (none : roots_of routine ≡ []) (free : (list_any is_stored (take (parameters_of core r) (frame_of core r routine).homes) ≡ true) ⊎ (rows core.variables (variables_of core r) ≡ [])) where
  row_there : (v : ℕ) (w : Variable) → slice_get (rows core.variables (variables_of core r)) v ≡ Some w → rows core.variables (variables_of core r) ≡ [] → ⊥
  row_there v w there bare = let nothing : slice_get {X = Variable} [] v ≡ Some w = sym (ap (λ vs. slice_get vs v) bare) ∙ there in absurd cc

  homes_are : (frame_of core r routine).homes ≡ homes_from core (parameters_of core r) [] 0 (first_room (parameters_of core r)) (rows core.variables (variables_of core r))
  homes_are = ap (λ roots. homes_from core (parameters_of core r) roots 0 (first_room (parameters_of core r)) (rows core.variables (variables_of core r))) none

  whole_one : (v : LocalId) (landing : Option BlockId) → HasRow core r v.0 → is_composite (shape_of core (type_of_local core r v.0)) ≡ true → begin_room core r (frame_of core r routine) (Act (BeginWith v) landing) ≤ 1
  unfolding begin_room
  whole_one v landing has e = by free
    where
      by : (list_any is_stored (take (parameters_of core r) (frame_of core r routine).homes) ≡ true) ⊎ (rows core.variables (variables_of core r) ≡ []) → begin_room core r (frame_of core r routine) (Act (BeginWith v) landing) ≤ 1
      by (inl stored) = let one : 1 ≤ 1 = omega arith in rw (e, stored) one
      by (inr bare) = absurd (row_there v.0 has.row has.there bare)

  number_one : (v : LocalId) (landing : Option BlockId) → HasRow core r v.0 → is_composite (shape_of core (type_of_local core r v.0)) ≡ false → begin_room core r (frame_of core r routine) (Act (BeginWith v) landing) ≤ 1
  unfolding begin_room
  number_one v landing has e =
      let single : is_composite (shape_of core has.row.of) ≡ false = subst (λ (of : TypeId). is_composite (shape_of core of) ≡ false) has.of e in
      let held = number_held core (parameters_of core r) 0 (first_room (parameters_of core r)) (rows core.variables (variables_of core r)) v.0 has.row has.there single in
      let kept : is_held (home_at (frame_of core r routine).homes v) ≡ true = subst (λ homes. is_held (home_at homes v) ≡ true) (sym homes_are) held in
      let one : 1 ≤ 1 = omega arith in rw (e, kept) one

  variable_one : (v : LocalId) (landing : Option BlockId) → HasRow core r v.0 → (whole : Bool) → is_composite (shape_of core (type_of_local core r v.0)) ≡ whole → begin_room core r (frame_of core r routine) (Act (BeginWith v) landing) ≤ 1
  variable_one v landing has true e = whole_one v landing has e
  variable_one v landing has false e = number_one v landing has e

  room_one : (i : Instruction) → IsBeginning core r (view_instruction core r i) → begin_room core r (frame_of core r routine) i ≤ 1
  unfolding begin_room
  room_one (Act (BeginWith v) landing) p = variable_one v landing p (is_composite (shape_of core (type_of_local core r v.0))) refl
  room_one (Act (Constant to k) landing) p = omega arith
  room_one (Act (Load to kind from) landing) p = omega arith
  room_one (Act (Store to kind from) landing) p = omega arith
  room_one (Act (Copy of to from) landing) p = omega arith
  room_one (Act (Look at) landing) p = omega arith
  room_one (Act (Pick to text index) landing) p = omega arith
  room_one (Act (Compute c) landing) p = omega arith
  room_one (Act (Do q operands to) landing) p = omega arith
  room_one (Call f operands) p = omega arith
  room_one (Jump block) p = omega arith
  room_one (When t block) p = omega arith
  room_one (Unless t block) p = omega arith
  room_one (Switch t arms) p = omega arith
  room_one (Dispatch t block) p = omega arith
  room_one (MakeDue f) p = omega arith
  room_one (OpenTemporaries ts) p = omega arith
  room_one (EndTemporary t) p = omega arith
  room_one (Stop t) p = omega arith
  room_one Return p = omega arith

  code_one : (code : List Instruction) → Every (IsBeginning core r) (map (view_instruction core r) code) → Every (λ i. begin_room core r (frame_of core r routine) i ≤ 1) code
  code_one [] p = tt
  code_one (i ∷ code) p = (room_one i p.0, code_one code p.1)

  blocks_one : (bs : List Block) → Every (IsCode (IsBeginning core r)) (map (view_block core r) bs) → Every (λ b. begin_of_block core r (frame_of core r routine) b ≤ 1) bs
  blocks_one [] p = tt
  blocks_one (b ∷ bs) p = let code = p.0 in (most_at (begin_room core r (frame_of core r routine)) b.code 1 (code_one b.code code.each), blocks_one bs p.1)

-- A routine without statements begins its variables with one scratch register, where the register of a parameter is free or there are no variables.
pub begins_one : (core : Core) (stack r : ℕ) (routine : Routine) → IsRoutine core r routine → AreCountedStatements ((program_of core stack).body r) → nodes_of (statements_weight core ((program_of core stack).body r)) ≡ 0
    → (list_any is_stored (take (parameters_of core r) (frame_of core r routine).homes) ≡ true) ⊎ (rows core.variables (variables_of core r) ≡ []) → begin_of_routine core r routine ≤ 1
begins_one core stack r routine is counted bare free =
    let p = program_of core stack in
    let blocks = length routine.blocks in
    let firsts = firsts_begin core stack r blocks (variables_of core r).count (omega arith) in
    let work = none_works (IsBeginning core r) blocks (env_of p r) first_here (p.body r) counted bare in
    let made = made_both (IsBeginning core r) blocks (first_items core p.first r (variables_of core r).count) (work_of_all (env_of p r) first_here (p.body r)) firsts work in
    let code = code_is (IsBeginning core r) core stack r routine (λ k some less. tt) tt is made in
    most_at (begin_of_block core r (frame_of core r routine)) routine.blocks 1 (blocks_one core r routine (blocks_roots core r routine.blocks code []) free routine.blocks code)
