-- The registers and the locals of a frame, and the code with which a routine begins.
use Rattle.std.proofs.Common.{◌≡◌, ◌<◌, ◌≤◌, ◌⊎◌, ℕ, zero, suc, pos, ◌+◌, ◌%◌, max, Bool, true, false, ◌||◌, List, [], ◌∷◌, ◌++◌, length, map, take, nat_eq, nat_le, nat_lt, slice_get, Option, Some, None, refl, sym, ap, ◌∙◌, subst, arith, inl, inr, true≢false, length-take, if◌then◌else◌}
use Rattle.std.proofs.lemmas.Bool.{lt-ltb, ltb-true}
use Rattle.std.specs.List.{list_any}
use Rattle.op_compute.specs.Bank.{scratch_of}
use Rattle.op_compute.specs.declared.bank.Bank.{Bank}
use Rattle.op_constants.specs.Offsets.{size_in}
use Rattle.op_constants.specs.Shapes.{is_composite}
use Rattle.op_core.specs.Rows.{rows}
use Rattle.op_core.specs.declared.ids.TypeId.{TypeId}
use Rattle.op_core.specs.declared.program.Core.{Core}
use Rattle.op_core.specs.declared.routine.Variable.{Variable}
use Rattle.op_places.proofs.RoomLemmas.{behind_grows, room_whole, rounded_whole, sum_whole}
use Rattle.op_expand.specs.Calls.{left}
use Rattle.op_places.specs.Frames.{frame_of, first_room, parameters_of, returning_of, spare_from, spare_of, variables_room}
use Rattle.op_places.specs.Homes.{end_of, home_at, home_by, homes_from, is_one_root, keeping_of, parameter, room_behind, room_by, roots_of, size_of_root}
use Rattle.op_places.specs.Moves.{store_code, taken_code}
use Rattle.op_expand.specs.Routines.{all_received, beginning, begun_with_stack, received, received_number}
use Rattle.op_places.specs.declared.frame.Frame.{Frame}
use Rattle.op_places.specs.declared.frame.Returning.{Returning}
use Rattle.op_places.specs.declared.frame.Returning.TheVariants.{Ending, Nothing, Result}
use Rattle.op_places.specs.declared.homes.Home.{Home}
use Rattle.op_places.specs.declared.homes.Home.TheVariants.{Held, Stored, Shared}
use Rattle.op_places.specs.declared.homes.Keeping.{Keeping}
use Rattle.op_places.specs.declared.homes.Keeping.TheVariants.{AsGiven, InRegister, InMemory}
use Rattle.op_places.specs.declared.homes.Room.{Room}
use Rattle.op_frames.proofs.ComputingFine.{joined}
use Rattle.op_frames.proofs.Fine.{Bounds, Below, IsFine, AreFine}
use Rattle.op_frames.proofs.MovesFine.{HasRuntime, local_path, store_fine, taken_fine}
use Rattle.op_frames.proofs.PlacesFine.{IsHome, IsFrame, Temporaries}
use Rattle.op_frames.specs.Fitting.{is_stored}
use Rattle.op_low.specs.Valid.{has_symbol}
use Rattle.op_low.specs.declared.ids.VirtualRegister.{VirtualRegister}
use Rattle.op_low.specs.declared.instruction.Instruction.{Instruction as LowInstruction}
use Rattle.op_meaning.specs.Shapes.{is_reference, shape_of, variables_of}
use Rattle.op_meaning.specs.Statements.{kind_of}
use Rattle.op_mir.specs.declared.code.Routine.{Routine}
use Rattle.op_mir.specs.declared.ids.LocalId.{LocalId}
use Rattle.op_mir.specs.declared.path.Root.{Root}
use Rattle.op_mir.specs.declared.path.Root.TheVariants.{Global, Local, Through, Temporary}
use Rattle.op_rt_text.specs.Names.{register}

-- ---- variables in registers

given_by : (reference memory parameter : Bool) → (if reference then AsGiven else if memory then InMemory else if parameter then AsGiven else InRegister) ≡ AsGiven → (reference ≡ true) ⊎ (parameter ≡ true)
given_by true memory parameter e = inl refl
given_by false true parameter e = absurd cc
given_by false false true e = inr refl
given_by false false false e = absurd cc

-- what is kept as it was given is a reference or a parameter
given_is : (core : Core) (parameters : ℕ) (roots : List Root) (k : ℕ) (v : Variable) → keeping_of core parameters roots k v ≡ AsGiven → (is_reference v.role ≡ true) ⊎ (nat_lt k parameters ≡ true)
given_is core parameters roots k v e = given_by (is_reference v.role) (is_composite (shape_of core v.of) || list_any (is_one_root (Local (record { 0 = k }))) roots) (nat_lt k parameters) e

module _ (m : Bounds) (core : Core) (parameters : ℕ) (roots : List Root) (few : 2 + parameters ≤ m.registers) where
  -- references stand among the parameters
  abbrev pub AreGiven : ℕ → List Variable → Type 0
  AreGiven k vs = (j : ℕ) (v : Variable) → slice_get vs j ≡ Some v → is_reference v.role ≡ true → k + j < parameters

  home_below : (keeping : Keeping) (k size : ℕ) (room : Room) → (keeping ≡ AsGiven → k < parameters) → (room_by keeping size room).register ≤ m.registers → IsHome m (home_by keeping k room)
  home_below AsGiven k size room given less = let p = given refl in let q : 2 + k < m.registers = omega (arith, p, few) in q
  home_below InRegister k size room given less = omega (arith, less)
  home_below InMemory k size room given less = tt

  given_below : (k : ℕ) (v : Variable) → (is_reference v.role ≡ true → k < parameters) → keeping_of core parameters roots k v ≡ AsGiven → k < parameters
  given_below k v h e = by (given_is core parameters roots k v e)
    where
      by : (is_reference v.role ≡ true) ⊎ (nat_lt k parameters ≡ true) → k < parameters
      by (inl i) = h i
      by (inr i) = ltb-true k parameters i

  pub homes_below : (k : ℕ) (room : Room) (vs : List Variable) → AreGiven k vs → (room_behind core parameters roots k room vs).register ≤ m.registers → (j : ℕ) → IsHome m (home_at (homes_from core parameters roots k room vs) (record { 0 = j }))
  homes_below k room [] given less j = tt
  homes_below k room (v ∷ vs) given less zero =
      let rest = behind_grows core parameters roots (k + 1) (room_by (keeping_of core parameters roots k v) (size_in core v.of) room) vs in
      let mine : k + 0 ≡ k = omega arith in
      home_below (keeping_of core parameters roots k v) k (size_in core v.of) room (given_below k v (λ i. subst (λ x. x < parameters) mine (given 0 v refl i))) (omega (arith, rest, less))
  homes_below k room (v ∷ vs) given less (suc j) =
      homes_below (k + 1) (room_by (keeping_of core parameters roots k v) (size_in core v.of) room) vs (λ i w e h. let p : k + suc i < parameters = given (suc i) w e h in omega (arith, p)) less j

-- ---- the spare register

pub spare_below : (m : Bounds) (parameters : ℕ) (other : VirtualRegister) (k : ℕ) (homes : List Home) → 2 + parameters ≤ m.registers → k + length homes ≤ parameters → Below m other → Below m (spare_from other k homes)
spare_below m parameters other k [] few less o = o
spare_below m parameters other k (Stored offset ∷ homes) few less o =
    let less' : k + suc (length homes) ≤ parameters = less in
    let q : 2 + k < m.registers = omega (arith, few, less') in q
spare_below m parameters other k (Held r ∷ homes) few less o =
    let less' : k + suc (length homes) ≤ parameters = less in
    spare_below m parameters other (k + 1) homes few (omega (arith, less')) o
spare_below m parameters other k (Shared id ∷ homes) few less o =
    let less' : k + suc (length homes) ≤ parameters = less in
    spare_below m parameters other (k + 1) homes few (omega (arith, less')) o

-- it is that of a parameter, where one is stored
pub spare_given : (m : Bounds) (parameters : ℕ) (other : VirtualRegister) (k : ℕ) (homes : List Home) → 2 + parameters ≤ m.registers → k + length homes ≤ parameters → list_any is_stored homes ≡ true → Below m (spare_from other k homes)
spare_given m parameters other k [] few less e = absurd (true≢false (sym e))
spare_given m parameters other k (Stored offset ∷ homes) few less e =
    let less' : k + suc (length homes) ≤ parameters = less in
    let q : 2 + k < m.registers = omega (arith, few, less') in q
spare_given m parameters other k (Held r ∷ homes) few less e =
    let less' : k + suc (length homes) ≤ parameters = less in
    spare_given m parameters other (k + 1) homes few (omega (arith, less')) e
spare_given m parameters other k (Shared id ∷ homes) few less e =
    let less' : k + suc (length homes) ≤ parameters = less in
    spare_given m parameters other (k + 1) homes few (omega (arith, less')) e

pub taken_few : {A : Type 0} (n : ℕ) (xs : List A) → 0 + length (take n xs) ≤ n
taken_few n xs = let e = length-take n xs in omega (arith, e)

-- ---- locals take whole words

behind_whole : (core : Core) (parameters : ℕ) (roots : List Root) (k : ℕ) (room : Room) (vs : List Variable) → room.offset % 4 ≡ 0 → (room_behind core parameters roots k room vs).offset % 4 ≡ 0
behind_whole core parameters roots k room [] p = p
behind_whole core parameters roots k room (v ∷ vs) p =
    behind_whole core parameters roots (k + 1) (room_by (keeping_of core parameters roots k v) (size_in core v.of) room) vs (room_whole (keeping_of core parameters roots k v) (size_in core v.of) room p)

root_whole : (core : Core) (root : Root) → size_of_root core root % 4 ≡ 0
root_whole core (Temporary of n) = rounded_whole (size_in core of)
root_whole core (Global v) = refl
root_whole core (Local v) = refl
root_whole core (Through v) = refl

end_whole : (core : Core) (offset : ℕ) (roots : List Root) → offset % 4 ≡ 0 → end_of core offset roots % 4 ≡ 0
end_whole core offset [] p = p
end_whole core offset (r ∷ rs) p = end_whole core (offset + size_of_root core r) rs (sum_whole offset (size_of_root core r) p (root_whole core r))

pub locals_whole : (core : Core) (r : ℕ) (routine : Routine) → (frame_of core r routine).locals % 4 ≡ 0
locals_whole core r routine =
    end_whole core (variables_room core r routine).offset (roots_of routine)
    (behind_whole core (parameters_of core r) (roots_of routine) 0 (first_room (parameters_of core r)) (rows core.variables (variables_of core r)) refl)

-- ---- the code with which a routine begins

begun : (m : Bounds) (core : Core) (r : ℕ) (frame : Frame) → AreFine m (begun_with_stack core) → AreFine m (all_received core frame 0 (take (parameters_of core r) (rows core.variables (variables_of core r)))) → AreFine m (beginning core frame r)
unfolding taken_code
begun m core r frame s others = by frame.returning refl
  where
    by : (returning : Returning) → frame.returning ≡ returning → AreFine m (beginning core frame r)
    by Ending e = rw e s
    by Nothing e = rw e others
    by (Result of v) e = rw e others

module _ (m : Bounds) (core : Core) (r : ℕ) (routine : Routine) (n : ℕ) (is : IsFrame m core (frame_of core r routine)) (temporaries : Temporaries (frame_of core r routine) n) (runtime : HasRuntime m) (few : 2 + parameters_of core r ≤ m.registers) (one : (frame_of core r routine).bank.scratch + 1 ≤ m.registers) where
  received_by_shape : (whole : Bool) (k : ℕ) (of : TypeId) → k < parameters_of core r → AreFine m (if whole then taken_code core (frame_of core r routine) (register (parameter k)) (size_in core of) (record { 0 = k }) else received_number core (frame_of core r routine) k of)
  received_by_shape true k of p =
      let q : 2 + k < m.registers = omega (arith, p, few) in
      taken_fine m core (frame_of core r routine) n is temporaries runtime (register (parameter k)) (size_in core of) (record { 0 = k }) (is.sizes of) q one
  received_by_shape false k of p =
      let q : 2 + k < m.registers = omega (arith, p, few) in
      let room : (frame_of core r routine).bank.scratch + 0 + 1 ≤ m.registers = omega (arith, one) in
      store_fine m core (frame_of core r routine) n is temporaries runtime (kind_of core of) (local_path (record { 0 = k })) (scratch_of (frame_of core r routine).bank 0) (tt, tt, omega arith) (omega arith) room (register (parameter k)) q

  received_fine : (k : ℕ) (v : Variable) → k < parameters_of core r → AreFine m (received core (frame_of core r routine) k v)
  received_fine k v p = by (home_at (frame_of core r routine).homes (record { 0 = k })) refl
    where
      by : (home : Home) → home_at (frame_of core r routine).homes (record { 0 = k }) ≡ home → AreFine m (received core (frame_of core r routine) k v)
      by (Held q) e = rw e tt
      by (Shared id) e = rw e tt
      by (Stored offset) e = rw e (received_by_shape (is_composite (shape_of core v.of)) k v.of p)

  all_fine : (k : ℕ) (vs : List Variable) → k + length vs ≤ parameters_of core r → AreFine m (all_received core (frame_of core r routine) k vs)
  all_fine k [] less = tt
  all_fine k (v ∷ vs) less =
      let less' : k + suc (length vs) ≤ parameters_of core r = less in
      joined m _ _ (received_fine k v (omega (arith, less'))) (all_fine (k + 1) vs (omega (arith, less')))

  stack_there : AreFine m (begun_with_stack core)
  unfolding has_symbol
  stack_there =
      let zero : 0 < m.registers = omega (arith, is.two) in
      ((zero, lt-ltb (length core.variables) (length m.low.globals) is.globals), ((zero, zero, refl), tt))

  pub beginning_fine : AreFine m (beginning core (frame_of core r routine) r)
  beginning_fine = begun m core r (frame_of core r routine) stack_there (all_fine 0 (take (parameters_of core r) (rows core.variables (variables_of core r))) (taken_few (parameters_of core r) (rows core.variables (variables_of core r))))
