-- A frame takes no more bytes than its routine is charged, if its temporaries of record and array types take no more than the text says.
use Rattle.std.proofs.Common.{◌≡◌, ◌≤◌, ◌⊎◌, ℕ, zero, suc, ◌+◌, ◌-◌, ◌*◌, max, Bool, true, false, ◌||◌, List, [], ◌∷◌, length, nat_lt, Some, slice_get, take, inl, inr, refl, ap, arith, if◌then◌else◌}
use Rattle.std.specs.List.{list_any, sum_by}
use Rattle.std.proofs.lemmas.Bool.Decides.{nat_tests}
use Rattle.std.proofs.lemmas.List.Sums.{sum_by-cons}
use Rattle.op_constants.specs.Offsets.{size_in}
use Rattle.op_constants.specs.Shapes.{is_composite}
use Rattle.op_core.specs.Rows.{rows}
use Rattle.op_core.specs.Sizes.{type_at}
use Rattle.op_core.specs.declared.ids.TypeId.{TypeId}
use Rattle.op_core.specs.declared.program.Core.{Core}
use Rattle.op_core.specs.declared.routine.Body.{Body}
use Rattle.op_core.specs.declared.routine.Role.{Role}
use Rattle.op_core.specs.declared.routine.Role.TheVariants.{Plain, Constant, Parameter, Object, Result, Handler}
use Rattle.op_core.specs.declared.routine.Routine.{Routine as Row}
use Rattle.op_core.specs.declared.routine.Variable.{Variable}
use Rattle.op_places.specs.Frames.{first_room, frame_of, parameters_of, variables_room}
use Rattle.op_places.specs.Homes.{end_of, home_by, homes_from, is_one_root, keeping_of, room_behind, room_by, roots_of, rounded, size_of_root}
use Rattle.op_places.specs.declared.homes.Home.{Home}
use Rattle.op_places.specs.declared.homes.Keeping.{Keeping}
use Rattle.op_places.specs.declared.homes.Keeping.TheVariants.{AsGiven, InRegister, InMemory}
use Rattle.op_places.specs.declared.homes.Room.{Room}
use Rattle.op_frames.proofs.Beginnings.{begins_one, begins_two}
use Rattle.op_frames.proofs.Lowered.{routine_under}
use Rattle.op_frames.proofs.ExpressionsWithin.{made_both}
use Rattle.op_frames.proofs.RegistersUnder.{charged_some, covers_all, first_well, step_words}
use Rattle.op_frames.proofs.StatementsWithin.{all_well}
use Rattle.op_frames.specs.Charged.{IsCharged}
use Rattle.op_frames.specs.Counted.{AreCountedStatements}
use Rattle.op_frames.specs.Fitting.{begin_of_routine, is_stored, registers_of_routine, room_of_block}
use Rattle.op_frames.specs.Made.{Every}
use Rattle.op_frames.specs.Within.{IsWithin}
use Rattle.op_lower.specs.Lowers.{IsRoutine}
use Rattle.op_lower.specs.Temporaries.{most_of}
use Rattle.op_meaning.specs.Calls.{env_of}
use Rattle.op_meaning.specs.Charge.{charge_of, is_open, nodes_of, statements_weight, variable_words, variables_weight, words_in, words_of}
use Rattle.op_meaning.specs.Expressions.{first_here}
use Rattle.op_meaning.specs.Frames.{program_of}
use Rattle.op_meaning.specs.Shapes.{is_reference, shape_of, variables_of}
use Rattle.op_meaning.specs.Statements.{first_items, work_of_all}
use Rattle.op_mir.specs.declared.code.Routine.{Routine}
use Rattle.op_mir.specs.declared.path.Root.{Root}
use Rattle.op_mir.specs.declared.path.Root.TheVariants.{Local}
use Rattle.op_tree.specs.declared.heading.ParameterMode.TheVariants.{Value, Var, Const_, Out}

-- ---- variables in memory

-- whole words
rounded_is : (n : ℕ) → rounded n ≡ 4 * words_in n
rounded_is n = times (words_in n)
  where
    times : (k : ℕ) → k * 4 ≡ 4 * k
    times k = omega arith

three_words : (n : ℕ) → n ≤ 12 → rounded n ≤ 12
three_words n p = omega arith

value_bytes : (open_ : Bool) (n : ℕ) → (open_ ≡ true → n ≤ 12) → rounded n ≤ 4 * (if open_ then 3 else words_in n)
value_bytes true n p = three_words n (p refl)
value_bytes false n p = let e = rounded_is n in omega (arith, e)

pub kept_by : (reference whole named parameter : Bool) → (if reference then AsGiven else if whole || named then InMemory else if parameter then AsGiven else InRegister) ≡ InMemory → reference ≡ false
kept_by true whole named parameter e = absurd cc
kept_by false whole named parameter e = refl

module _ (core : Core) (opens : (of : TypeId) → is_open (type_at core of) ≡ true → size_in core of ≤ 12) where
  pub memory_words : (v : Variable) (role : Role) → IsCharged role → is_reference role ≡ false → (role ≡ Object → size_in core v.of ≤ 4) → rounded (size_in core v.of) ≤ 4 * variable_words core v role
  memory_words v Object c r o = let p = o refl in one_word (size_in core v.of) p
    where
      one_word : (n : ℕ) → n ≤ 4 → rounded n ≤ 4 * 1
      one_word n p = omega arith
  memory_words v Result c r o = let e = rounded_is (size_in core v.of) in omega (arith, e)
  memory_words v Plain c r o = let e = rounded_is (size_in core v.of) in omega (arith, e)
  memory_words v Constant c r o = let e = rounded_is (size_in core v.of) in omega (arith, e)
  memory_words v Handler c r o = absurd c
  memory_words v (Parameter Value) c r o = value_bytes (is_open (type_at core v.of)) (size_in core v.of) (opens v.of)
  memory_words v (Parameter Const_) c r o = value_bytes (is_open (type_at core v.of)) (size_in core v.of) (opens v.of)
  memory_words v (Parameter Var) c r o = absurd cc
  memory_words v (Parameter Out) c r o = absurd cc

  module _ (parameters : ℕ) (roots : List Root) (sizes : (of : TypeId) → is_composite (shape_of core of) ≡ false → 1 ≤ size_in core of) where
    room_step : (keeping : Keeping) (size words : ℕ) (room : Room) → (keeping ≡ InRegister → 1 ≤ words) → (keeping ≡ InMemory → rounded size ≤ 4 * words) → 4 * (room_by keeping size room).register + (room_by keeping size room).offset ≤ 4 * room.register + room.offset + 4 * words
    room_step AsGiven size words room h g = omega arith
    room_step InMemory size words room h g = let p = g refl in omega (arith, p)
    room_step InRegister size words room h g = let p = h refl in omega (arith, p)

    in_memory : (k : ℕ) (v : Variable) → IsCharged v.role → (v.role ≡ Object → size_in core v.of ≤ 4) → keeping_of core parameters roots k v ≡ InMemory → rounded (size_in core v.of) ≤ 4 * variable_words core v v.role
    in_memory k v c o e =
        let value = kept_by (is_reference v.role) (is_composite (shape_of core v.of)) (list_any (is_one_root (Local (record { 0 = k }))) roots) (nat_lt k parameters) e in
        memory_words v v.role c value o

    -- what is asked of a variable
    abbrev pub IsKept : Variable → Type 0
    IsKept v = IsCharged v.role × (v.role ≡ Object → size_in core v.of ≤ 4)

    room_charged : (k : ℕ) (room : Room) (vs : List Variable) → Every IsKept vs → 4 * (room_behind core parameters roots k room vs).register + (room_behind core parameters roots k room vs).offset ≤ 4 * room.register + room.offset + 4 * words_of (variables_weight core vs)
    room_charged k room [] c = omega arith
    room_charged k room (v ∷ vs) c =
        let keeping = keeping_of core parameters roots k v in
        let here = room_step keeping (size_in core v.of) (variable_words core v v.role) room (step_words core parameters roots sizes k v c.0.0) (in_memory k v c.0.0 c.0.1) in
        let rest = room_charged (k + 1) (room_by keeping (size_in core v.of) room) vs c.1 in
        omega (arith, here, rest)

    -- ---- the first parameter: it is stored, or has words that it does not take

    pub first_kept : (reference whole named parameter : Bool) → parameter ≡ true
        → ((if reference then AsGiven else if whole || named then InMemory else if parameter then AsGiven else InRegister) ≡ InMemory)
        ⊎ (((if reference then AsGiven else if whole || named then InMemory else if parameter then AsGiven else InRegister) ≡ AsGiven) × ((reference ≡ true) ⊎ (whole ≡ false)))
    first_kept true whole named parameter e = inr (refl, inl refl)
    first_kept false true named parameter e = inl refl
    first_kept false false true parameter e = inl refl
    first_kept false false false true e = inr (refl, inr refl)
    first_kept false false false false e = absurd cc

    place_words : (open_ : Bool) → 1 ≤ (if open_ then 3 else 2)
    place_words true = omega arith
    place_words false = omega arith

    pub reference_words : (v : Variable) (role : Role) → is_reference role ≡ true → 1 ≤ variable_words core v role
    reference_words v (Parameter Var) e = place_words (is_open (type_at core v.of))
    reference_words v (Parameter Out) e = place_words (is_open (type_at core v.of))
    reference_words v (Parameter Value) e = absurd cc
    reference_words v (Parameter Const_) e = absurd cc
    reference_words v Object e = absurd cc
    reference_words v Result e = absurd cc
    reference_words v Plain e = absurd cc
    reference_words v Constant e = absurd cc
    reference_words v Handler e = absurd cc

    given_words : (v : Variable) → IsCharged v.role → (is_reference v.role ≡ true) ⊎ (is_composite (shape_of core v.of) ≡ false) → 1 ≤ variable_words core v v.role
    given_words v c (inl refers) = reference_words v v.role refers
    given_words v c (inr single) = charged_some core v v.role c (sizes v.of single)

    given_room : (keeping : Keeping) (size : ℕ) (room : Room) → keeping ≡ AsGiven → 4 * (room_by keeping size room).register + (room_by keeping size room).offset ≤ 4 * room.register + room.offset
    given_room AsGiven size room e = omega arith
    given_room InMemory size room e = absurd cc
    given_room InRegister size room e = absurd cc

    pub stored_first : (n : ℕ) → 1 ≤ n → (home : Home) (homes : List Home) → is_stored home ≡ true → list_any is_stored (take n (home ∷ homes)) ≡ true
    stored_first zero some home homes e = absurd (omega (arith, some))
    stored_first (suc n) some home homes e = rw e refl

    first_there : 1 ≤ parameters → nat_lt 0 parameters ≡ true
    first_there some = grind (arith, nat_tests)

    first_free : (room : Room) (vs : List Variable) → Every IsKept vs → 1 ≤ parameters
        → ((list_any is_stored (take parameters (homes_from core parameters roots 0 room vs)) ≡ true) ⊎ (vs ≡ []))
        ⊎ (4 * (room_behind core parameters roots 0 room vs).register + (room_behind core parameters roots 0 room vs).offset + 4 ≤ 4 * room.register + room.offset + 4 * words_of (variables_weight core vs))
    first_free room [] c some = inl (inr refl)
    first_free room (v ∷ vs) c some = by (first_kept (is_reference v.role) (is_composite (shape_of core v.of)) (list_any (is_one_root (Local (record { 0 = 0 }))) roots) (nat_lt 0 parameters) (first_there some))
      where
        by : (keeping_of core parameters roots 0 v ≡ InMemory) ⊎ ((keeping_of core parameters roots 0 v ≡ AsGiven) × ((is_reference v.role ≡ true) ⊎ (is_composite (shape_of core v.of) ≡ false)))
            → ((list_any is_stored (take parameters (homes_from core parameters roots 0 room (v ∷ vs))) ≡ true) ⊎ ((v ∷ vs) ≡ []))
            ⊎ (4 * (room_behind core parameters roots 0 room (v ∷ vs)).register + (room_behind core parameters roots 0 room (v ∷ vs)).offset + 4 ≤ 4 * room.register + room.offset + 4 * words_of (variables_weight core (v ∷ vs)))
        by (inl memory) = inl (inl (stored_first parameters some (home_by (keeping_of core parameters roots 0 v) 0 room) _ (ap (λ keeping. is_stored (home_by keeping 0 room)) memory)))
        by (inr (given, why)) =
            let here = given_room (keeping_of core parameters roots 0 v) (size_in core v.of) room given in
            let words = given_words v c.0.0 why in
            let rest = room_charged 1 (room_by (keeping_of core parameters roots 0 v) (size_in core v.of) room) vs c.1 in
            inr (omega (arith, here, words, rest))

pub end_is : (core : Core) (offset : ℕ) (roots : List Root) → end_of core offset roots ≡ offset + sum_by (size_of_root core) roots
end_is core offset [] = let e : offset ≡ offset + 0 = omega arith in e
end_is core offset (r ∷ rs) =
    let a = end_is core (offset + size_of_root core r) rs in
    let b = sum_by-cons (size_of_root core) r rs in
    omega (arith, a, b)

-- ---- frames

module _ (core : Core) (stack r : ℕ) (row : Row) (b : Body) (there : slice_get core.routines r ≡ Some row) (body : row.body ≡ Some b) where
  some_or_none : (n : ℕ) → (1 ≤ n) ⊎ (n ≡ 0)
  some_or_none zero = inr refl
  some_or_none (suc n) = inl (omega arith)

  few_or_most : (n : ℕ) → (n ≤ 63) ⊎ (1 ≤ n)
  few_or_most zero = inl (omega arith)
  few_or_most (suc n) = inr (omega arith)

  -- what a frame has room by, beside what is counted: nodes, less parameters than there may be, one scratch register, or a word that a parameter does not take
  abbrev HasRoom : (nodes parameters begins taken given : ℕ) → Type 0
  HasRoom nodes parameters begins taken given = ((1 ≤ nodes) ⊎ (parameters ≤ 63)) ⊎ ((begins ≤ 1) ⊎ (taken + 4 ≤ given))

  pub frame_small : (routine : Routine) → IsRoutine core r routine → AreCountedStatements ((program_of core stack).body r)
      → ((of : TypeId) → is_open (type_at core of) ≡ true → size_in core of ≤ 12) → ((of : TypeId) → is_composite (shape_of core of) ≡ false → 1 ≤ size_in core of)
      → Every (λ v. IsCharged v.role × (v.role ≡ Object → size_in core v.of ≤ 4)) (rows core.variables (variables_of core r))
      → sum_by (size_of_root core) (roots_of routine) ≤ 4 * words_of (statements_weight core ((program_of core stack).body r))
      → parameters_of core r ≤ 64
      → (frame_of core r routine).locals + 4 * (registers_of_routine core r routine + 1) + 4 * (63 - parameters_of core r) ≤ charge_of core (record { 0 = r })
  frame_small routine is counted opens sizes kept wholes few =
      let p = program_of core stack in
      let nodes = nodes_of (statements_weight core (p.body r)) in
      let top = 2 * nodes in
      let room = 2 * nodes + 1 in
      let blocks = length routine.blocks in
      let firsts = first_well core blocks top room r (variables_of core r).count p.first in
      let work = all_well blocks top room (env_of p r) first_here (p.body r) counted (omega arith) (omega arith) in
      let made = made_both (IsWithin top room) blocks (first_items core p.first r (variables_of core r).count) (work_of_all (env_of p r) first_here (p.body r)) firsts work in
      let under = routine_under top room core stack r routine is made in
      let variables = room_charged core opens (parameters_of core r) (roots_of routine) sizes 0 (first_room (parameters_of core r)) (rows core.variables (variables_of core r)) kept in
      let ends = end_is core (variables_room core r routine).offset (roots_of routine) in
      total (frame_of core r routine).locals (variables_room core r routine).offset (sum_by (size_of_root core) (roots_of routine)) (variables_room core r routine).register routine.temporaries (begin_of_routine core r routine) (most_of (room_of_block core r) routine.blocks) (parameters_of core r) (words_of (variables_weight core (rows core.variables (variables_of core r)))) (words_of (statements_weight core (p.body r))) nodes (charge_of core (record { 0 = r })) ends variables wholes under.0 (begins_two core r routine) under.1 few (room_by_nodes (some_or_none nodes)) (covers_all core stack r row b there body)
    where
      -- what the first parameter leaves
      room_by_first : nodes_of (statements_weight core ((program_of core stack).body r)) ≡ 0
          → ((list_any is_stored (take (parameters_of core r) (frame_of core r routine).homes) ≡ true) ⊎ (rows core.variables (variables_of core r) ≡ []))
          ⊎ (4 * (variables_room core r routine).register + (variables_room core r routine).offset + 4 ≤ 4 * (2 + parameters_of core r) + 0 + 4 * words_of (variables_weight core (rows core.variables (variables_of core r))))
          → HasRoom (nodes_of (statements_weight core ((program_of core stack).body r))) (parameters_of core r) (begin_of_routine core r routine) (4 * (variables_room core r routine).register + (variables_room core r routine).offset) (4 * (2 + parameters_of core r) + 0 + 4 * words_of (variables_weight core (rows core.variables (variables_of core r))))
      room_by_first none (inl free) = inr (inl (begins_one core stack r routine is counted none free))
      room_by_first none (inr words) = inr (inr words)

      room_by_parameters : nodes_of (statements_weight core ((program_of core stack).body r)) ≡ 0 → (parameters_of core r ≤ 63) ⊎ (1 ≤ parameters_of core r)
          → HasRoom (nodes_of (statements_weight core ((program_of core stack).body r))) (parameters_of core r) (begin_of_routine core r routine) (4 * (variables_room core r routine).register + (variables_room core r routine).offset) (4 * (2 + parameters_of core r) + 0 + 4 * words_of (variables_weight core (rows core.variables (variables_of core r))))
      room_by_parameters none (inl less) = inl (inr less)
      room_by_parameters none (inr some) = room_by_first none (first_free core opens (parameters_of core r) (roots_of routine) sizes (first_room (parameters_of core r)) (rows core.variables (variables_of core r)) kept some)

      room_by_nodes : (1 ≤ nodes_of (statements_weight core ((program_of core stack).body r))) ⊎ (nodes_of (statements_weight core ((program_of core stack).body r)) ≡ 0)
          → HasRoom (nodes_of (statements_weight core ((program_of core stack).body r))) (parameters_of core r) (begin_of_routine core r routine) (4 * (variables_room core r routine).register + (variables_room core r routine).offset) (4 * (2 + parameters_of core r) + 0 + 4 * words_of (variables_weight core (rows core.variables (variables_of core r))))
      room_by_nodes (inl some) = inl (inl some)
      room_by_nodes (inr none) = room_by_parameters none (few_or_most (parameters_of core r))

      total : (locals offset wholes registers temporaries begins rooms parameters words more nodes charge : ℕ) → locals ≡ offset + wholes → 4 * registers + offset ≤ 4 * (2 + parameters) + 0 + 4 * words → wholes ≤ 4 * more → temporaries ≤ 2 * nodes → begins ≤ 2 → rooms ≤ 2 * nodes + 1 → parameters ≤ 64 → HasRoom nodes parameters begins (4 * registers + offset) (4 * (2 + parameters) + 0 + 4 * words) → 272 + 4 * words + 4 * more + 16 * nodes ≤ charge → locals + 4 * (registers + temporaries + max (max 1 begins) rooms + 1) + 4 * (63 - parameters) ≤ charge
      total locals offset wholes registers temporaries begins rooms parameters words more nodes charge a b c d e f g (inl (inl h)) i = omega (arith, a, b, c, d, e, f, g, h, i)
      total locals offset wholes registers temporaries begins rooms parameters words more nodes charge a b c d e f g (inl (inr h)) i = omega (arith, a, b, c, d, e, f, g, h, i)
      total locals offset wholes registers temporaries begins rooms parameters words more nodes charge a b c d e f g (inr (inl h)) i = omega (arith, a, b, c, d, e, f, g, h, i)
      total locals offset wholes registers temporaries begins rooms parameters words more nodes charge a b c d e f g (inr (inr h)) i = omega (arith, a, b, c, d, e, f, g, h, i)
