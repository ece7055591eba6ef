-- Where a routine keeps its variables: parameters by value that stay in registers where they came, other variables behind all parameters.
use Rattle.std.proofs.Common.{◌≡◌, ◌≢◌, ◌≤◌, ◌<◌, ◌⊎◌, inl, inr, ℕ, zero, suc, ◌+◌, List, [], ◌∷◌, Option, Some, None, refl, sym, ap, ◌∙◌, subst, arith}
use Rattle.std.specs.Prelude.{Bool, true, false, ◌||◌, nat_lt, take, drop, slice_get, if◌then◌else◌}
use Rattle.std.specs.List.{list_any}
use Rattle.std.proofs.lemmas.Bool.{cases_eq, cases_lt}
use Rattle.std.proofs.lemmas.Bool.Decides.{nat_tests}
use Rattle.op_constants.specs.Offsets.{size_in}
use Rattle.op_constants.specs.Shapes.{is_composite}
use Rattle.op_core.proofs.Rows.{row_at, row_of}
use Rattle.op_core.specs.Rows.{rows}
use Rattle.op_core.specs.declared.program.Core.{Core}
use Rattle.op_core.specs.declared.routine.Variable.{Variable}
use Rattle.op_places.proofs.RoomLemmas.{room_grows}
use Rattle.op_places.specs.Frames.{first_room, frame_of, parameters_of}
use Rattle.op_places.specs.Homes.{home_at, home_by, homes_from, is_one_root, keeping_of, parameter, room_behind, room_by, roots_of}
use Rattle.op_places.specs.declared.frame.Frame.{Frame}
use Rattle.op_places.specs.declared.homes.Home.{Home}
use Rattle.op_places.specs.declared.homes.Home.TheVariants.{Held, Stored, Shared}
use Rattle.op_places.specs.declared.homes.Keeping.{Keeping}
use Rattle.op_places.specs.declared.homes.Keeping.TheVariants.{AsGiven, InRegister, InMemory}
use Rattle.op_places.specs.declared.homes.Room.{Room}
use Rattle.op_meaning.specs.Shapes.{is_reference, refers, shape_of, variables_of}
use Rattle.op_mir.specs.declared.code.Routine.{Routine}
use Rattle.op_mir.specs.declared.path.Root.{Root}
use Rattle.op_mir.specs.declared.path.Root.TheVariants.{Local}
use Rattle.op_rt_text.specs.Names.{register}
use Rattle.op_agreement.specs.Settings.{FrameFits, HomeFits}
use Rattle.op_agreement.specs.Typed.{IsVariable}

-- ---- rows

pub take_get : {A : Type 0} (n : ℕ) (xs : List A) (j : ℕ) → j < n → slice_get (take n xs) j ≡ slice_get xs j
take_get zero xs j low = absurd (omega arith)
take_get (suc n) [] j low = refl
take_get (suc n) (y ∷ ys) zero low = refl
take_get (suc n) (y ∷ ys) (suc j) low = take_get n ys j (omega arith)

-- behind so many
pub get_drop : {A : Type 0} (n : ℕ) (xs : List A) (j : ℕ) → slice_get (drop n xs) j ≡ slice_get xs (n + j)
get_drop zero xs j = let e : j ≡ 0 + j = omega arith in ap (slice_get xs) e
get_drop (suc n) [] j = refl
get_drop (suc n) (y ∷ ys) j = let e : suc (n + j) ≡ suc n + j = omega arith in get_drop n ys j ∙ ap (slice_get (y ∷ ys)) e

-- ---- homes, one behind the other

-- how a variable is kept, by whether it stands for another one, needs an address, and is a parameter
abbrev chosen : (reference memory given : Bool) → Keeping
chosen reference memory given = if reference then AsGiven else if memory then InMemory else if given then AsGiven else InRegister

abbrev register_held : Home → ℕ
register_held (Held r) = r.0
register_held (Stored offset) = 0
register_held (Shared id) = 0

-- a variable that does not exist
abbrev home_or : Option Home → Home
home_or None = Stored 0
home_or (Some home) = home

module _ (core : Core) (parameters : ℕ) (roots : List Root) where
  -- a home of the variable in a row, behind some room
  home_of_row : (vs : List Variable) (k : ℕ) (room : Room) (j : ℕ) (p : Variable) → slice_get vs j ≡ Some p → (behind : Room) × (room.register ≤ behind.register) × (slice_get (homes_from core parameters roots k room vs) j ≡ Some (home_by (keeping_of core parameters roots (k + j) p) (k + j) behind))
  home_of_row [] k room j p e = absurd cc
  home_of_row (v ∷ vs) k room zero p e =
      let same : v ≡ p = cc in
      let at : k ≡ k + 0 = omega arith in
      (room, omega arith, ap (λ i. Some (home_by (keeping_of core parameters roots i v) i room)) at ∙ ap (λ q. Some (home_by (keeping_of core parameters roots (k + 0) q) (k + 0) room)) same)
  home_of_row (v ∷ vs) k room (suc j) p e =
      let next = room_by (keeping_of core parameters roots k v) (size_in core v.of) room in
      let (behind, more, is) = home_of_row vs (k + 1) next j p e in
      let grows = room_grows (keeping_of core parameters roots k v) (size_in core v.of) room in
      let at : k + 1 + j ≡ k + suc j = omega arith in
      (behind, omega arith, is ∙ ap (λ i. Some (home_by (keeping_of core parameters roots i p) i behind)) at)

  -- no row, no home
  no_home : (vs : List Variable) (k : ℕ) (room : Room) (j : ℕ) → slice_get vs j ≡ None → slice_get (homes_from core parameters roots k room vs) j ≡ None
  no_home [] k room j e = refl
  -- no row, no home
  no_home (v ∷ vs) k room zero e = absurd cc
  -- no row, no home
  no_home (v ∷ vs) k room (suc j) e = no_home vs (k + 1) (room_by (keeping_of core parameters roots k v) (size_in core v.of) room) j e

  -- and so behind all variables
  room_behind_grows : (vs : List Variable) (k : ℕ) (room : Room) → room.register ≤ (room_behind core parameters roots k room vs).register
  room_behind_grows [] k room = omega arith
  -- and so behind all variables
  room_behind_grows (v ∷ vs) k room =
      let a = room_grows (keeping_of core parameters roots k v) (size_in core v.of) room in
      let b = room_behind_grows vs (k + 1) (room_by (keeping_of core parameters roots k v) (size_in core v.of) room) in
      omega arith

  -- each register between the parameters and the temporaries is the home of a variable
  pub record HomeOf (vs : List Variable) (k : ℕ) (room : Room) (r : ℕ) : Type 0 where
    pub row : ℕ
    pub variable : Variable
    pub there : slice_get vs row ≡ Some variable
    pub keeping : keeping_of core parameters roots (k + row) variable ≡ InRegister
    pub home : slice_get (homes_from core parameters roots k room vs) row ≡ Some (Held (register r))

  -- with a variable in front
  further : (v : Variable) (vs : List Variable) (k : ℕ) (room : Room) (r : ℕ) → HomeOf vs (k + 1) (room_by (keeping_of core parameters roots k v) (size_in core v.of) room) r → HomeOf (v ∷ vs) k room r
  further v vs k room r h =
      let at : k + 1 + h.row ≡ k + suc h.row = omega arith in
      record { row = suc h.row; variable = h.variable; there = h.there; keeping = ap (λ i. keeping_of core parameters roots i h.variable) (sym at) ∙ h.keeping; home = h.home }

  -- by the register that the first variable gets, or by those behind it
  register_home : (vs : List Variable) (k : ℕ) (room : Room) (r : ℕ) → room.register ≤ r → r < (room_behind core parameters roots k room vs).register → HomeOf vs k room r
  register_home [] k room r from to = absurd (omega arith)
  -- by the register that the first variable gets, or by those behind it
  register_home (v ∷ vs) k room r from to = by (keeping_of core parameters roots k v) refl (register_home vs (k + 1) (room_by (keeping_of core parameters roots k v) (size_in core v.of) room) r)
    where
      next : Keeping → Room
      next keeping = room_by keeping (size_in core v.of) room

      by : (keeping : Keeping) → keeping_of core parameters roots k v ≡ keeping → ((next (keeping_of core parameters roots k v)).register ≤ r → r < (room_behind core parameters roots k room (v ∷ vs)).register → HomeOf vs (k + 1) (next (keeping_of core parameters roots k v)) r) → HomeOf (v ∷ vs) k room r
      by AsGiven e inner = let same : (next (keeping_of core parameters roots k v)).register ≡ room.register = ap (λ x. (next x).register) e in further v vs k room r (inner (omega arith) to)
      by InMemory e inner = let same : (next (keeping_of core parameters roots k v)).register ≡ room.register = ap (λ x. (next x).register) e in further v vs k room r (inner (omega arith) to)
      by InRegister e inner = choose (cases_eq r room.register)
        where
          choose : (r ≡ room.register) ⊎ (r ≡ room.register → ⊥) → HomeOf (v ∷ vs) k room r
          choose (inl same) =
              let at : k ≡ k + 0 = omega arith in
              record {
                row = 0;
                variable = v;
                there = refl;
                keeping = ap (λ i. keeping_of core parameters roots i v) (sym at) ∙ e;
                home = ap (λ x. Some (home_by x k room)) e ∙ ap (λ x. Some (Held (register x))) (sym same);
              }
          choose (inr other) = let same : (next (keeping_of core parameters roots k v)).register ≡ room.register + 1 = ap (λ x. (next x).register) e in further v vs k room r (inner (omega arith) to)

  -- a variable by value that is kept in a register has the one in which it came, or one that was free
  held_in : (k : ℕ) (p : Variable) (room : Room) (q : ℕ) → is_reference p.role ≡ false → home_by (keeping_of core parameters roots k p) k room ≡ Held (record { 0 = q }) → ((k < parameters) × (q ≡ parameter k)) ⊎ ((parameters ≤ k) × (q ≡ room.register))
  held_in k p room q value home = by (is_composite (shape_of core p.of) || list_any (is_one_root (Local (record { 0 = k }))) roots) (nat_lt k parameters) refl (subst (λ b. home_by (chosen b (is_composite (shape_of core p.of) || list_any (is_one_root (Local (record { 0 = k }))) roots) (nat_lt k parameters)) k room ≡ Held (record { 0 = q })) value home)
    where
      by : (memory given : Bool) → nat_lt k parameters ≡ given → home_by (chosen false memory given) k room ≡ Held (record { 0 = q }) → ((k < parameters) × (q ≡ parameter k)) ⊎ ((parameters ≤ k) × (q ≡ room.register))
      by true given e is = absurd cc
      by false true e is = inl (grind (arith, nat_tests), sym (ap register_held is))
      by false false e is = inr (grind (arith, nat_tests), sym (ap register_held is))

  -- what stands for another variable stays where it came
  reference_given : (k : ℕ) (p : Variable) → is_reference p.role ≡ true → keeping_of core parameters roots k p ≡ AsGiven
  reference_given k p is = ap (λ b. chosen b (is_composite (shape_of core p.of) || list_any (is_one_root (Local (record { 0 = k }))) roots) (nat_lt k parameters)) is

-- ---- the frame of a routine

-- there is one or none
some_or_none : {A : Type 0} (o : Option A) → (o ≡ None) ⊎ ((x : A) × (o ≡ Some x))
some_or_none None = inl refl
-- there is one or none
some_or_none (Some x) = inr (x, refl)

-- a parameter by value that is kept in the register in which it came, or another variable behind all parameters
pub record InOwn (core : Core) (r v q : ℕ) : Type 0 where
  pub low : v < parameters_of core r
  pub own : q ≡ parameter v
  pub variable : Variable
  pub row : slice_get (rows core.variables (variables_of core r)) v ≡ Some variable

-- another variable, behind all parameters
pub record InFree (core : Core) (r v q : ℕ) : Type 0 where
  pub high : parameters_of core r ≤ v
  pub behind : parameter (parameters_of core r) ≤ q

module _ (core : Core) (r : ℕ) (x : Routine) where
  abbrev first_home : Room
  first_home = first_room (parameters_of core r)

  abbrev rows_here : List Variable
  rows_here = rows core.variables (variables_of core r)

  -- temporaries stand behind the parameters
  behind_in : parameter (parameters_of core r) ≤ (frame_of core r x).bank.temporaries
  behind_in = room_behind_grows core (parameters_of core r) (roots_of x) rows_here 0 first_home

  -- a variable by value that is kept in a register, by its row
  held_by_row : (v q : ℕ) → IsVariable core r v false → home_at (frame_of core r x).homes (record { 0 = v }) ≡ Held (record { 0 = q }) → InOwn core r v q ⊎ InFree core r v q
  held_by_row v q variable home = by (some_or_none (slice_get rows_here v))
    where
      value : (p : Variable) → slice_get rows_here v ≡ Some p → is_reference p.role ≡ false
      value p is = sym (ap refers (row_of core.variables (variables_of core r) v p is).1) ∙ variable.1

      far : (p : Variable) → slice_get rows_here v ≡ Some p → (room : Room) → first_home.register ≤ room.register → ((v < parameters_of core r) × (q ≡ parameter v)) ⊎ ((parameters_of core r ≤ v) × (q ≡ room.register)) → InOwn core r v q ⊎ InFree core r v q
      far p is room more (inl (low, own)) = inl (record { low = low; own = own; variable = p; row = is })
      far p is room more (inr (behind, free)) = inr (record { high = behind; behind = omega arith })

      by : (slice_get rows_here v ≡ None) ⊎ ((p : Variable) × (slice_get rows_here v ≡ Some p)) → InOwn core r v q ⊎ InFree core r v q
      by (inl none) =
          let stored : home_at (frame_of core r x).homes (record { 0 = v }) ≡ Stored 0 = ap home_or (no_home core (parameters_of core r) (roots_of x) rows_here 0 first_home v none) in
          let clash : Held (record { 0 = q }) ≡ Stored 0 = sym home ∙ stored in
          absurd cc
      by (inr (p, is)) =
          let (room, more, at_) = home_of_row core (parameters_of core r) (roots_of x) rows_here 0 first_home v p is in
          let zeroth : 0 + v ≡ v = omega arith in
          let there : home_by (keeping_of core (parameters_of core r) (roots_of x) v p) v room ≡ Held (record { 0 = q }) = ap (λ i. home_by (keeping_of core (parameters_of core r) (roots_of x) i p) i room) (sym zeroth) ∙ sym (ap home_or at_) ∙ home in
          far p is room more (held_in core (parameters_of core r) (roots_of x) v p room q (value p is) there)

  -- What stands for another variable and is no parameter would share its register with a variable that has it alone.
  parameter_of_frame : FrameFits core r x (frame_of core r x) → (v : ℕ) → IsVariable core r v true → v < parameters_of core r
  parameter_of_frame fits v variable = by (cases_lt v (parameters_of core r))
    where
      home_v : home_at (frame_of core r x).homes (record { 0 = v }) ≡ Held (register (parameter v))
      home_v = fits.references (record { 0 = v }) variable

      clash : HomeOf core (parameters_of core r) (roots_of x) rows_here 0 first_home (parameter v) → ⊥
      clash h =
          let (low, found) = row_of core.variables (variables_of core r) h.row h.variable h.there in
          let zeroth : 0 + h.row ≡ h.row = omega arith in
          let other : v ≢ h.row = λ same.
          let reference : is_reference h.variable.role ≡ true = sym (ap refers found) ∙ ap (λ j. refers (slice_get core.variables ((variables_of core r).first + j))) (sym same) ∙ variable.1 in
          let two : InRegister ≡ AsGiven = sym h.keeping ∙ reference_given core (parameters_of core r) (roots_of x) (0 + h.row) h.variable reference in
          cc in
          fits.alone (record { 0 = v }) (record { 0 = h.row }) (parameter v) (parameter v) variable.0 low other home_v (ap home_or h.home) refl

      by : (v < parameters_of core r) ⊎ (parameters_of core r ≤ v) → v < parameters_of core r
      by (inl low) = low
      by (inr high) =
          let below : parameter v < (frame_of core r x).bank.temporaries = (subst (HomeFits (frame_of core r x)) home_v (fits.homes (record { 0 = v }) variable.0)).1 in
          absurd (clash (register_home core (parameters_of core r) (roots_of x) rows_here 0 first_home (parameter v) (omega arith) below))

-- ---- the same of the frame that a routine has

module _ (core : Core) (r : ℕ) (x : Routine) (frame : Frame) (framed : frame ≡ frame_of core r x) where
  -- temporaries stand behind the parameters
  pub temporaries_behind : parameter (parameters_of core r) ≤ frame.bank.temporaries
  temporaries_behind = subst (λ f. parameter (parameters_of core r) ≤ f.bank.temporaries) (sym framed) (behind_in core r x)

  -- a variable by value that is kept in a register
  pub held_variable : (v q : ℕ) → IsVariable core r v false → home_at frame.homes (record { 0 = v }) ≡ Held (record { 0 = q }) → InOwn core r v q ⊎ InFree core r v q
  held_variable v q variable home = held_by_row core r x v q variable (subst (λ f. home_at f.homes (record { 0 = v }) ≡ Held (record { 0 = q })) framed home)

  -- only parameters stand for other variables
  pub reference_is_parameter : FrameFits core r x frame → (v : ℕ) → IsVariable core r v true → v < parameters_of core r
  reference_is_parameter fits = parameter_of_frame core r x (subst (FrameFits core r x) framed fits)
