-- The homes of a routine's variables: registers of their own, and stretches of its locals that are their own.
use Rattle.std.proofs.Common.{◌≡◌, ◌≢◌, ◌<◌, ◌≤◌, ◌⊎◌, ℕ, suc, ◌+◌, ◌%◌, Bool, true, false, ◌||◌, List, take, nat_lt, slice_get, Some, refl, sym, ap, ap₂, ◌∙◌, subst, arith, inl, inr, if◌then◌else◌}
use Rattle.std.proofs.lemmas.Bool.{cases_lt, ltb-true, or_left, or_right}
use Rattle.std.specs.List.{list_any}
use Rattle.op_constants.specs.Offsets.{size_in}
use Rattle.op_constants.specs.Shapes.{is_composite}
use Rattle.op_core.proofs.Rows.{row_at, there_is}
use Rattle.op_core.specs.Rows.{rows}
use Rattle.op_core.specs.declared.program.Core.{Core}
use Rattle.op_core.specs.declared.routine.Variable.{Variable}
use Rattle.op_places.specs.Frames.{first_room, frame_of, parameters_of, variables_room}
use Rattle.op_places.specs.Homes.{home_at, home_by, is_one_root, keeping_of, parameter, room_behind, room_by, roots_of, rounded}
use Rattle.op_places.specs.declared.frame.Frame.{Frame}
use Rattle.op_places.specs.declared.homes.Home.{Home}
use Rattle.op_places.specs.declared.homes.Home.TheVariants.{Held, Stored}
use Rattle.op_places.specs.declared.homes.Keeping.{Keeping}
use Rattle.op_places.specs.declared.homes.Keeping.TheVariants.{AsGiven, InRegister, InMemory}
use Rattle.op_places.specs.declared.homes.Room.{Room}
use Rattle.op_meaning.specs.Shapes.{composite, is_reference, refers, shape_of, type_of_local, type_of_row, variables_of}
use Rattle.op_mir.specs.declared.code.Routine.{Routine}
use Rattle.op_mir.specs.declared.path.Root.TheVariants.{Local}
use Rattle.op_rt_text.specs.Names.{register}
use Rattle.op_agreement.proofs.Rooms.{IsLater, before_all, before_later, before_next, behind_later, behind_whole, home_there, rounded_more}
use Rattle.op_agreement.specs.Chart.{stored_offset}
use Rattle.op_agreement.specs.Framing.{HasVariables}
use Rattle.op_agreement.specs.Settings.{HomeFits}
use Rattle.op_agreement.specs.Typed.{IsVariable}

-- ---- rows that lie together

-- the row of a routine's variable
pub record IsRow (core : Core) (r v : ℕ) (row : Variable) : Type 0 where
  pub counted : v < (variables_of core r).count
  pub there : slice_get (rows core.variables (variables_of core r)) v ≡ Some row
  pub stands : slice_get core.variables ((variables_of core r).first + v) ≡ Some row

-- ---- how a variable is kept

abbrev keeping_by : (reference memory parameter : Bool) → Keeping
keeping_by reference memory parameter = if reference then AsGiven else if memory then InMemory else if parameter then AsGiven else InRegister

-- what stays as it was given is a reference or a parameter
given_by : (reference memory parameter : Bool) → keeping_by reference memory parameter ≡ AsGiven → (reference ≡ true) ⊎ (parameter ≡ true)
given_by true memory parameter e = inl refl
given_by false true parameter e = absurd cc
given_by false false true e = inr refl
given_by false false false e = absurd cc

-- the number of the register that a home is
abbrev number_held : Home → ℕ
number_held (Held r) = r.0
number_held _ = 0

module _ (core : Core) (r : ℕ) (x : Routine) (has : HasVariables core r x) where
  abbrev parameters : ℕ
  parameters = parameters_of core r

  abbrev vs : List Variable
  vs = rows core.variables (variables_of core r)

  abbrev frame : Frame
  frame = frame_of core r x

  abbrev home : ℕ → Home
  home v = home_at frame.homes (record { 0 = v })

  -- what is free before a variable
  abbrev before : ℕ → Room
  before v = room_behind core parameters (roots_of x) 0 (first_room parameters) (take v vs)

  abbrev keeping : ℕ → Variable → Keeping
  keeping v row = keeping_of core parameters (roots_of x) v row

  abbrev in_memory : ℕ → Variable → Bool
  in_memory v row = is_composite (shape_of core row.of) || list_any (is_one_root (Local (record { 0 = v }))) (roots_of x)

  -- each variable has its row
  pub row_of : (v : ℕ) → v < (variables_of core r).count → (row : Variable) × IsRow core r v row
  row_of v low =
      let (row, there) = there_is vs v (subst (λ n. v < n) (sym has.there) low) in
      (row, record { counted = low; there = there; stands = sym (row_at core.variables (variables_of core r) v low) ∙ there })

  -- a variable is at home where its way of being kept and what is free before it say
  home_as : (v : ℕ) (row : Variable) → IsRow core r v row → (k : Keeping) → keeping v row ≡ k → home v ≡ home_by k v (before v)
  home_as v row is k e =
      let number : v ≡ 0 + v = omega arith in
      home_there core parameters (roots_of x) 0 v v (first_room parameters) vs row number is.there ∙ ap (λ k. home_by k v (before v)) e

  -- and what is free behind it is what it leaves of that
  next_as : (v : ℕ) (row : Variable) → IsRow core r v row → (k : Keeping) → keeping v row ≡ k → before (suc v) ≡ room_by k (size_in core row.of) (before v)
  next_as v row is k e =
      let number : v ≡ 0 + v = omega arith in
      before_next core parameters (roots_of x) 0 v v (first_room parameters) vs row number is.there ∙ ap (λ k. room_by k (size_in core row.of) (before v)) e

  -- so it is one of the parameters
  given_low : (v : ℕ) (row : Variable) → IsRow core r v row → keeping v row ≡ AsGiven → v < parameters
  given_low v row is e = by (given_by (is_reference row.role) (in_memory v row) (nat_lt v parameters) e)
    where
      by : (is_reference row.role ≡ true) ⊎ (nat_lt v parameters ≡ true) → v < parameters
      by (inl reference) = has.references v (is.counted, ap refers is.stands ∙ reference)
      by (inr parameter) = ltb-true v parameters parameter

  -- what is free before a variable lies behind the parameters
  free_first : (v : ℕ) → 2 + parameters ≤ (before v).register
  free_first v = (behind_later core parameters (roots_of x) 0 (first_room parameters) (take v vs)).register

  -- no more is free behind all variables
  free_last : (v : ℕ) → IsLater (before v) (variables_room core r x)
  free_last v = before_all core parameters (roots_of x) 0 (first_room parameters) vs v

  -- temporaries come behind the parameters
  pub all_behind : 2 + parameters ≤ frame.bank.temporaries
  all_behind = (behind_later core parameters (roots_of x) 0 (first_room parameters) vs).register

  -- ---- variables in registers

  -- each variable has a register behind the first two and in front of the temporaries, or is stored
  pub home_fits : (v : ℕ) → v < (variables_of core r).count → HomeFits frame (home v)
  home_fits v low = let (row, is) = row_of v low in by row is (keeping v row) refl
    where
      by : (row : Variable) → IsRow core r v row → (k : Keeping) → keeping v row ≡ k → HomeFits frame (home v)
      by row is AsGiven e =
          let few = given_low v row is e in
          let all = all_behind in
          let low : 2 ≤ 2 + v = omega arith in
          let high : 2 + v < frame.bank.temporaries = omega (arith, few, all) in
          subst (HomeFits frame) (sym (home_as v row is AsGiven e)) (low, high)
      by row is InRegister e =
          let first = free_first v in
          let next : (before (suc v)).register ≡ (before v).register + 1 = ap (λ room. room.register) (next_as v row is InRegister e) in
          let last = (free_last (suc v)).register in
          let low : 2 ≤ (before v).register = omega (arith, first) in
          let high : (before v).register < frame.bank.temporaries = omega (arith, next, last) in
          subst (HomeFits frame) (sym (home_as v row is InRegister e)) (low, high)
      by row is InMemory e = subst (HomeFits frame) (sym (home_as v row is InMemory e)) tt

  -- a register is that in which a parameter comes, or the next that is free
  held_is : (v a : ℕ) (row : Variable) → IsRow core r v row → home v ≡ Held (register a) → ((a ≡ 2 + v) × (v < parameters)) ⊎ ((a ≡ (before v).register) × ((before (suc v)).register ≡ a + 1))
  held_is v a row is held = by (keeping v row) refl
    where
      by : (k : Keeping) → keeping v row ≡ k → ((a ≡ 2 + v) × (v < parameters)) ⊎ ((a ≡ (before v).register) × ((before (suc v)).register ≡ a + 1))
      by AsGiven e =
          let same : a ≡ 2 + v = ap number_held (sym held ∙ home_as v row is AsGiven e) in
          inl (same, given_low v row is e)
      by InRegister e =
          let same : a ≡ (before v).register = ap number_held (sym held ∙ home_as v row is InRegister e) in
          let next : (before (suc v)).register ≡ (before v).register + 1 = ap (λ room. room.register) (next_as v row is InRegister e) in
          inr (same, omega (arith, same, next))
      by InMemory e = let clash : Stored (before v).offset ≡ Held (register a) = sym (home_as v row is InMemory e) ∙ held in absurd cc

  -- an earlier variable has another one than a later one
  registers_apart : (v u a b : ℕ) → v < (variables_of core r).count → u < (variables_of core r).count → v < u → home v ≡ Held (register a) → home u ≡ Held (register b) → a ≢ b
  registers_apart v u a b low high order one other same =
      let (row, is) = row_of v low in
      let (row', is') = row_of u high in
      by (held_is v a row is one) (held_is u b row' is' other)
    where
      by : ((a ≡ 2 + v) × (v < parameters)) ⊎ ((a ≡ (before v).register) × ((before (suc v)).register ≡ a + 1)) → ((b ≡ 2 + u) × (u < parameters)) ⊎ ((b ≡ (before u).register) × ((before (suc u)).register ≡ b + 1)) → ⊥
      by (inl (p, few)) (inl (q, many)) = omega (arith, order, p, q, same)
      by (inl (p, few)) (inr (q, next)) = let first = free_first u in omega (arith, p, few, q, first, same)
      by (inr (p, next)) (inl (q, many)) = let first = free_first v in omega (arith, p, q, many, first, same)
      by (inr (p, next)) (inr (q, more)) =
          let later = (before_later core parameters (roots_of x) 0 (first_room parameters) vs (suc v) u order).register in
          omega (arith, p, next, q, later, same)

  -- no two variables have the same one
  pub alone : (v u a b : ℕ) → v < (variables_of core r).count → u < (variables_of core r).count → v ≢ u → home v ≡ Held (register a) → home u ≡ Held (register b) → a ≢ b
  alone v u a b low high differ one other same = by (cases_lt v u) (cases_lt u v)
    where
      by : (v < u) ⊎ (u ≤ v) → (u < v) ⊎ (v ≤ u) → ⊥
      by (inl order) _ = registers_apart v u a b low high order one other same
      by (inr p) (inl order) = registers_apart u v b a high low order other one (sym same)
      by (inr p) (inr q) = differ (omega (arith, p, q))

  -- a reference stays where it was given
  pub reference_held : (v : ℕ) → IsVariable core r v true → home v ≡ Held (register (parameter v))
  reference_held v variable =
      let (row, is) = row_of v variable.0 in
      let reference : is_reference row.role ≡ true = sym (ap refers is.stands) ∙ variable.1 in
      home_as v row is AsGiven (ap (λ b. keeping_by b (in_memory v row) (nat_lt v parameters)) reference)

  -- ---- variables in memory

  -- a variable of parts, and one that the code needs an address of, is stored
  kept_stored : (v : ℕ) (row : Variable) → IsRow core r v row → is_reference row.role ≡ false → in_memory v row ≡ true → home v ≡ Stored (before v).offset
  kept_stored v row is value memory = home_as v row is InMemory (ap₂ (λ a b. keeping_by a b (nat_lt v parameters)) value memory)

  -- so a variable of parts is stored
  pub composite_stored : (v : ℕ) → IsVariable core r v false → shape_of core (type_of_local core r v) ≡ composite → (offset : ℕ) × (home v ≡ Stored offset)
  composite_stored v variable shape =
      let (row, is) = row_of v variable.0 in
      let type : type_of_local core r v ≡ row.of = ap type_of_row is.stands in
      let whole : is_composite (shape_of core row.of) ≡ true = ap (λ of. is_composite (shape_of core of)) (sym type) ∙ ap is_composite shape in
      (_, kept_stored v row is (sym (ap refers is.stands) ∙ variable.1) (or_left (is_composite (shape_of core row.of)) (list_any (is_one_root (Local (record { 0 = v }))) (roots_of x)) whole))

  -- and so is one among the roots, as what is given by place is
  pub named_stored : (v : ℕ) → IsVariable core r v false → list_any (is_one_root (Local (record { 0 = v }))) (roots_of x) ≡ true → (offset : ℕ) × (home v ≡ Stored offset)
  named_stored v variable named =
      let (row, is) = row_of v variable.0 in
      (_, kept_stored v row is (sym (ap refers is.stands) ∙ variable.1) (or_right (is_composite (shape_of core row.of)) (list_any (is_one_root (Local (record { 0 = v }))) (roots_of x)) named))

  -- what is stored takes the next bytes that are free, by whole words
  stored_is : (v offset : ℕ) → v < (variables_of core r).count → home v ≡ Stored offset → (offset ≡ (before v).offset) × ((before (suc v)).offset ≡ offset + rounded (size_in core (type_of_local core r v)))
  stored_is v offset low stored = let (row, is) = row_of v low in by row is (keeping v row) refl
    where
      by : (row : Variable) → IsRow core r v row → (k : Keeping) → keeping v row ≡ k → (offset ≡ (before v).offset) × ((before (suc v)).offset ≡ offset + rounded (size_in core (type_of_local core r v)))
      by row is AsGiven e = let clash : Held (register (parameter v)) ≡ Stored offset = sym (home_as v row is AsGiven e) ∙ stored in absurd cc
      by row is InRegister e = let clash : Held (register (before v).register) ≡ Stored offset = sym (home_as v row is InRegister e) ∙ stored in absurd cc
      by row is InMemory e =
          let same : offset ≡ (before v).offset = ap stored_offset (sym stored ∙ home_as v row is InMemory e) in
          let size : rounded (size_in core (type_of_local core r v)) ≡ rounded (size_in core row.of) = ap (λ o. rounded (size_in core (type_of_row o))) is.stands in
          let next : (before (suc v)).offset ≡ (before v).offset + rounded (size_in core row.of) = ap (λ room. room.offset) (next_as v row is InMemory e) in
          (same, omega (arith, same, size, next))

  -- in front of the temporaries
  pub local_within : (v offset : ℕ) → v < (variables_of core r).count → home v ≡ Stored offset → offset + rounded (size_in core (type_of_local core r v)) ≤ frame.temporaries
  local_within v offset low stored =
      let next = (stored_is v offset low stored).1 in
      let last = (free_last (suc v)).offset in
      omega (arith, next, last)

  -- at a whole word
  pub local_whole : (v offset : ℕ) → v < (variables_of core r).count → home v ≡ Stored offset → offset % 4 ≡ 0
  local_whole v offset low stored =
      subst (λ a. a % 4 ≡ 0) (sym (stored_is v offset low stored).0) (behind_whole core parameters (roots_of x) 0 (first_room parameters) (take v vs) refl)

  -- one behind the other
  pub locals_apart : (v u a b : ℕ) → v < (variables_of core r).count → u < (variables_of core r).count → v < u → home v ≡ Stored a → home u ≡ Stored b → a + size_in core (type_of_local core r v) ≤ b
  locals_apart v u a b low high order one other =
      let next = (stored_is v a low one).1 in
      let same = (stored_is u b high other).0 in
      let later = (before_later core parameters (roots_of x) 0 (first_room parameters) vs (suc v) u order).offset in
      let more = rounded_more (size_in core (type_of_local core r v)) in
      omega (arith, next, same, later, more)
