-- A routine whose charge is at most what a stack has names fewer registers than a stack has words.
use Rattle.std.proofs.Common.{◌≡◌, ◌≢◌, ◌<◌, ◌≤◌, ℕ, zero, suc, pos, ◌+◌, ◌-◌, ◌*◌, ◌/◌, ◌%◌, ◌^◌, max, min, Bool, true, false, ◌||◌, List, [], ◌∷◌, length, nat_lt, Option, Some, None, slice_get, refl, sym, ap, ◌∙◌, subst, arith, if◌then◌else◌}
use Rattle.std.specs.List.{list_any}
use Rattle.op_constants.specs.Offsets.{size_in}
use Rattle.op_constants.specs.Shapes.{is_composite}
use Rattle.op_core.specs.Initial.{FirstValue}
use Rattle.op_core.specs.Rows.{rows}
use Rattle.op_core.specs.Sizes.{type_at}
use Rattle.op_core.specs.Statement.{stmts_of}
use Rattle.op_core.specs.Typing.{takes_place}
use Rattle.op_core.specs.declared.ids.TypeId.{TypeId}
use Rattle.op_core.specs.declared.program.Core.{Core}
use Rattle.op_core.specs.declared.routine.Body.{Body}
use Rattle.op_core.specs.declared.routine.Role.{Role}
use Rattle.op_core.specs.declared.routine.Role.TheVariants.{Plain, Constant, Parameter, Object, Result, Handler}
use Rattle.op_core.specs.declared.routine.Routine.{Routine as Row}
use Rattle.op_core.specs.declared.routine.Variable.{Variable}
use Rattle.op_places.specs.Frames.{first_room, parameters_of, variables_room}
use Rattle.op_places.specs.Homes.{is_one_root, keeping_of, room_behind, room_by, roots_of}
use Rattle.op_expand.specs.Routines.{most_charge}
use Rattle.op_places.specs.declared.homes.Keeping.{Keeping}
use Rattle.op_places.specs.declared.homes.Keeping.TheVariants.{AsGiven, InRegister, InMemory}
use Rattle.op_places.specs.declared.homes.Room.{Room}
use Rattle.op_frames.proofs.Beginnings.{begins_two}
use Rattle.op_frames.proofs.Lowered.{routine_under}
use Rattle.op_frames.proofs.ExpressionsWithin.{made_both}
use Rattle.op_frames.proofs.StatementsWithin.{all_well}
use Rattle.op_frames.specs.Charged.{IsCharged}
use Rattle.op_frames.specs.Counted.{AreCountedStatements}
use Rattle.op_frames.specs.Fitting.{begin_of_routine, registers_of_routine, room_of_block, scratch_of_routine}
use Rattle.op_frames.specs.Made.{AreMade, Every}
use Rattle.op_frames.specs.Within.{IsWithin}
use Rattle.op_low.specs.Valid.{most_registers}
use Rattle.op_lower.specs.Lowers.{IsRoutine}
use Rattle.op_lower.specs.Temporaries.{most_of}
use Rattle.op_meaning.specs.Actions.{begin_with}
use Rattle.op_meaning.specs.Calls.{env_of}
use Rattle.op_meaning.specs.Charge.{charge_of, is_open, nodes_of, parameter_words, statements_weight, variable_words, variables_weight, words_in, words_of}
use Rattle.op_meaning.specs.Expressions.{first_here}
use Rattle.op_meaning.specs.Frames.{program_of}
use Rattle.op_meaning.specs.Items.{Items, none, then_do, ◌&◌, act, only}
use Rattle.op_meaning.specs.Shapes.{is_reference, shape_of, type_of_local, variables_of}
use Rattle.op_meaning.specs.Statements.{first_items, work_of_all}
use Rattle.op_mir.specs.Code.{items_of}
use Rattle.op_mir.specs.declared.code.Routine.{Routine}
use Rattle.op_mir.specs.declared.path.Root.{Root}
use Rattle.op_mir.specs.declared.path.Root.TheVariants.{Local}

-- ---- variables that registers have

some_words : (n : ℕ) → 1 ≤ n → 1 ≤ words_in n
some_words n p = omega arith

parameter_some : (open_ place : Bool) (n : ℕ) → 1 ≤ n → 1 ≤ (if open_ then 3 else (if place then 2 else words_in n))
parameter_some true place n p = omega arith
parameter_some false true n p = omega arith
parameter_some false false n p = some_words n p

pub charged_some : (core : Core) (v : Variable) (role : Role) → IsCharged role → 1 ≤ size_in core v.of → 1 ≤ variable_words core v role
charged_some core v Object c s = omega arith
charged_some core v (Parameter mode) c s = parameter_some (is_open (type_at core v.of)) (takes_place mode) (size_in core v.of) s
charged_some core v Result c s = some_words (size_in core v.of) s
charged_some core v Plain c s = some_words (size_in core v.of) s
charged_some core v Constant c s = some_words (size_in core v.of) s
charged_some core v Handler c s = absurd c

pub held_by : (reference whole named parameter : Bool) → (if reference then AsGiven else if whole || named then InMemory else if parameter then AsGiven else InRegister) ≡ InRegister → whole ≡ false
held_by true whole named parameter e = absurd cc
held_by false true named parameter e = absurd cc
held_by false false true parameter e = absurd cc
held_by false false false true e = absurd cc
held_by false false false false e = refl

module _ (core : Core) (parameters : ℕ) (roots : List Root) (sizes : (of : TypeId) → is_composite (shape_of core of) ≡ false → 1 ≤ size_in core of) where
  room_step : (keeping : Keeping) (size words : ℕ) (room : Room) → (keeping ≡ InRegister → 1 ≤ words) → (room_by keeping size room).register ≤ room.register + words
  room_step AsGiven size words room h = omega arith
  room_step InMemory size words room h = omega arith
  room_step InRegister size words room h = let p = h refl in omega (arith, p)

  pub step_words : (k : ℕ) (v : Variable) → IsCharged v.role → keeping_of core parameters roots k v ≡ InRegister → 1 ≤ variable_words core v v.role
  step_words k v c e =
      let single = held_by (is_reference v.role) (is_composite (shape_of core v.of)) (list_any (is_one_root (Local (record { 0 = k }))) roots) (nat_lt k parameters) e in
      charged_some core v v.role c (sizes v.of single)

  -- as many as the variables have words
  registers_counted : (k : ℕ) (room : Room) (vs : List Variable) → Every (λ v. IsCharged v.role) vs → (room_behind core parameters roots k room vs).register ≤ room.register + words_of (variables_weight core vs)
  registers_counted k room [] c = omega arith
  registers_counted k room (v ∷ vs) c =
      let keeping = keeping_of core parameters roots k v in
      let here = room_step keeping (size_in core v.of) (variable_words core v v.role) room (step_words k v c.0) in
      let rest = registers_counted (k + 1) (room_by keeping (size_in core v.of) room) vs c.1 in
      omega (arith, here, rest)

-- ---- items of first values

pub first_well : (core : Core) (blocks top room r n : ℕ) (first : ℕ → Option FirstValue) → AreMade (IsWithin top room) blocks (first_items core first r n)
first_well core blocks top room r zero first = tt
first_well core blocks top room r (suc v) first = by (first_well core blocks top room r v first) (first ((variables_of core r).first + v)) refl
  where
    by : AreMade (IsWithin top room) blocks (first_items core first r v) → (o : Option FirstValue) → first ((variables_of core r).first + v) ≡ o → AreMade (IsWithin top room) blocks (first_items core first r (suc v))
    by so_far None e = rw e (made_both (IsWithin top room) blocks (first_items core first r v) none so_far tt)
    by so_far (Some value) e = rw e (made_both (IsWithin top room) blocks (first_items core first r v) (only (act (begin_with v (type_of_local core r v) value))) so_far ((tt, omega arith), tt))

-- ---- charges

weigh : (a b c d : ℕ) → 272 + 4 * a + 16 * d ≤ 256 + 4 * (a + (0 + c)) + 16 * (b + (1 + d))
weigh a b c d = omega arith

weigh_all : (a b c d : ℕ) → 272 + 4 * a + 4 * c + 16 * d ≤ 256 + 4 * (a + (0 + c)) + 16 * (b + (1 + d))
weigh_all a b c d = omega arith

module _ (core : Core) (stack r : ℕ) (row : Row) (b : Body) (there : slice_get core.routines r ≡ Some row) (body : row.body ≡ Some b) where
  -- the nodes of the text of the routine's body, and the words of its variables
  abbrev pub nodes : ℕ
  nodes = nodes_of (statements_weight core ((program_of core stack).body r))

  abbrev pub words : ℕ
  words = words_of (variables_weight core (rows core.variables (variables_of core r)))

  covers : 272 + 4 * words + 16 * nodes ≤ charge_of core (record { 0 = r })
  covers = rw there (rw body (weigh (words_of (variables_weight core (rows core.variables row.variables))) (nodes_of (variables_weight core (rows core.variables row.variables))) (words_of (statements_weight core (stmts_of b.statements.items))) (nodes_of (statements_weight core (stmts_of b.statements.items)))))

  pub covers_all : 272 + 4 * words + 4 * words_of (statements_weight core ((program_of core stack).body r)) + 16 * nodes ≤ charge_of core (record { 0 = r })
  covers_all = rw there (rw body (weigh_all (words_of (variables_weight core (rows core.variables row.variables))) (nodes_of (variables_weight core (rows core.variables row.variables))) (words_of (statements_weight core (stmts_of b.statements.items))) (nodes_of (statements_weight core (stmts_of b.statements.items)))))

  under_charge : (routine : Routine) → IsRoutine core r routine → routine.charge ≤ most_charge → 272 + 4 * words + 16 * nodes ≤ most_charge
  under_charge routine is less =
      let e = is.charge in
      least (charge_of core (record { 0 = r })) routine.charge (272 + 4 * words + 16 * nodes) e less covers
    where
      least : (charge given sum : ℕ) → given ≡ min charge (2 ^ 64 - 1) → given ≤ most_charge → sum ≤ charge → sum ≤ most_charge
      least charge given sum e less covered = omega (arith, e, less, covered)

  pub registers_small : (routine : Routine) → IsRoutine core r routine → AreCountedStatements ((program_of core stack).body r) → Every (λ v. IsCharged v.role) (rows core.variables (variables_of core r)) → ((of : TypeId) → is_composite (shape_of core of) ≡ false → 1 ≤ size_in core of) → parameters_of core r ≤ 64 → routine.charge ≤ most_charge → registers_of_routine core r routine ≤ most_registers
  registers_small routine is counted charged sizes few less =
      let p = program_of core stack in
      let top = 2 * nodes in
      let room = 2 * nodes + 1 in
      let blocks = length routine.blocks in
      let firsts = first_well core blocks top room r (variables_of core r).count p.first in
      let work = all_well blocks top room (env_of p r) first_here (p.body r) counted (omega arith) (omega arith) in
      let made = made_both (IsWithin top room) blocks (first_items core p.first r (variables_of core r).count) (work_of_all (env_of p r) first_here (p.body r)) firsts work in
      let under = routine_under top room core stack r routine is made in
      let variables = registers_counted core (parameters_of core r) (roots_of routine) sizes 0 (first_room (parameters_of core r)) (rows core.variables (variables_of core r)) charged in
      let charge = under_charge routine is less in
      total (variables_room core r routine).register routine.temporaries (begin_of_routine core r routine) (most_of (room_of_block core r) routine.blocks) (parameters_of core r) words nodes variables under.0 (begins_two core r routine) under.1 few charge
    where
      total : (registers temporaries begins rooms parameters words nodes : ℕ) → registers ≤ 2 + parameters + words → temporaries ≤ 2 * nodes → begins ≤ 2 → rooms ≤ 2 * nodes + 1 → parameters ≤ 64 → 272 + 4 * words + 16 * nodes ≤ 2 ^ 26 → registers + temporaries + max (max 1 begins) rooms ≤ 2 ^ 24
      total registers temporaries begins rooms parameters words nodes a b c d e f = omega (arith, a, b, c, d, e, f)
