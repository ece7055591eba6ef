-- The register in which the address of a first value comes: nothing that is kept in registers is kept there.
use Rattle.std.proofs.Common.{◌≡◌, ◌≢◌, ◌≤◌, ◌<◌, ◌⊎◌, inl, inr, ℕ, zero, suc, ◌+◌, List, [], ◌∷◌, refl, sym, ap, ◌∙◌, subst, arith}
use Rattle.std.specs.Prelude.{take}
use Rattle.op_compute.specs.Bank.{scratch_of}
use Rattle.op_constants.specs.Offsets.{size_in}
use Rattle.op_core.specs.Rows.{rows}
use Rattle.op_core.specs.declared.program.Core.{Core}
use Rattle.op_core.specs.declared.routine.Variable.{Variable}
use Rattle.op_places.proofs.RoomLemmas.{behind_grows, room_grows}
use Rattle.op_places.specs.Frames.{bank_of, first_room, frame_of, parameters_of, spare_from, variables_room}
use Rattle.op_places.specs.Homes.{home_at, home_by, homes_from, keeping_of, parameter, room_by, roots_of}
use Rattle.op_places.specs.declared.frame.Frame.{Frame}
use Rattle.op_places.specs.declared.homes.Home.TheVariants.{Held, Stored, Shared}
use Rattle.op_places.specs.declared.homes.Home.{Home}
use Rattle.op_places.specs.declared.homes.Keeping.TheVariants.{AsGiven, InRegister, InMemory}
use Rattle.op_places.specs.declared.homes.Keeping.{Keeping}
use Rattle.op_places.specs.declared.homes.Room.{Room}
use Rattle.op_low.specs.declared.ids.VirtualRegister.{VirtualRegister}
use Rattle.op_meaning.specs.Shapes.{variables_of}
use Rattle.op_mir.specs.declared.code.Routine.{Routine}
use Rattle.op_mir.specs.declared.ids.LocalId.{LocalId}
use Rattle.op_mir.specs.declared.path.Root.{Root}
use Rattle.op_agreement.specs.Chart.{Floor}
use Rattle.op_agreement.specs.Settings.{Setting}
use Rattle.op_agreement.specs.Stands.{IsFloor}

-- ---- rooms

-- ---- variables in registers

abbrev register_held : Home → ℕ
register_held (Held r) = r.0
register_held _ = 0

-- a variable in a register is in the one of its number among the parameters, or behind all parameters
held_apart : (core : Core) (parameters : ℕ) (roots : List Root) (k : ℕ) (room : Room) (vs : List Variable) → parameter parameters ≤ room.register → (j : ℕ) (r : VirtualRegister) → home_at (homes_from core parameters roots k room vs) (record { 0 = j }) ≡ Held r → (r.0 ≡ parameter (k + j)) ⊎ (parameter parameters ≤ r.0)
held_apart core parameters roots k room [] behind j r e = absurd cc
held_apart core parameters roots k room (v ∷ vs) behind zero r e = by (keeping_of core parameters roots k v) e
  where
    by : (keeping : Keeping) → home_by keeping k room ≡ Held r → (r.0 ≡ parameter (k + 0)) ⊎ (parameter parameters ≤ r.0)
    by AsGiven e = let is : parameter k ≡ r.0 = ap register_held e in inl (omega arith)
    by InRegister e = let is : room.register ≡ r.0 = ap register_held e in inr (omega arith)
    by InMemory e = absurd cc
held_apart core parameters roots k room (v ∷ vs) behind (suc j) r e =
    let more = room_grows (keeping_of core parameters roots k v) (size_in core v.of) room in
    by (held_apart core parameters roots (k + 1) (room_by (keeping_of core parameters roots k v) (size_in core v.of) room) vs (omega arith) j r e)
  where
    by : (r.0 ≡ parameter (k + 1 + j)) ⊎ (parameter parameters ≤ r.0) → (r.0 ≡ parameter (k + suc j)) ⊎ (parameter parameters ≤ r.0)
    by (inl is) = inl (omega arith)
    by (inr more) = inr more

-- ---- the spare register

-- it is that of a stored parameter, of those from number k on
record IsStoredParameter (k n : ℕ) (homes : List Home) (spare : VirtualRegister) : Type 0 where
  j : ℕ
  below : j < n
  offset : ℕ
  stored : home_at homes (record { 0 = j }) ≡ Stored offset
  is : spare.0 ≡ parameter (k + j)

-- where there is none it is the other register
spare_stored : (other : VirtualRegister) (k n : ℕ) (homes : List Home) → (spare_from other k (take n homes) ≡ other) ⊎ IsStoredParameter k n homes (spare_from other k (take n homes))
spare_stored other k zero homes = inl refl
spare_stored other k (suc n) [] = inl refl
spare_stored other k (suc n) (Stored offset ∷ homes) = inr (record { j = 0; below = omega arith; offset = offset; stored = refl; is = omega arith })
spare_stored other k (suc n) (Held r ∷ homes) = by (spare_stored other (k + 1) n homes)
  where
    by : (spare_from other (k + 1) (take n homes) ≡ other) ⊎ IsStoredParameter (k + 1) n homes (spare_from other (k + 1) (take n homes)) → (spare_from other (k + 1) (take n homes) ≡ other) ⊎ IsStoredParameter k (suc n) (Held r ∷ homes) (spare_from other (k + 1) (take n homes))
    by (inl e) = inl e
    by (inr s) = let low = s.below in let same = s.is in inr (record { j = suc s.j; below = omega arith; offset = s.offset; stored = s.stored; is = omega arith })
spare_stored other k (suc n) (Shared id ∷ homes) = by (spare_stored other (k + 1) n homes)
  where
    by : (spare_from other (k + 1) (take n homes) ≡ other) ⊎ IsStoredParameter (k + 1) n homes (spare_from other (k + 1) (take n homes)) → (spare_from other (k + 1) (take n homes) ≡ other) ⊎ IsStoredParameter k (suc n) (Shared id ∷ homes) (spare_from other (k + 1) (take n homes))
    by (inl e) = inl e
    by (inr s) = let low = s.below in let same = s.is in inr (record { j = suc s.j; below = omega arith; offset = s.offset; stored = s.stored; is = omega arith })

-- it is none of the first two, nor the first scratch register, and no variable and no temporary is kept there
pub record SpareFits (x : Routine) (frame : Frame) : Type 0 where
  pub behind : 2 ≤ frame.spare.0
  pub other : frame.spare.0 ≢ frame.bank.scratch
  pub variables : (v : LocalId) (r : VirtualRegister) → home_at frame.homes v ≡ Held r → r.0 < frame.bank.temporaries → r.0 ≢ frame.spare.0
  pub temporaries : (t : ℕ) → t < x.temporaries → frame.bank.temporaries + t ≢ frame.spare.0

module _ (core : Core) (number : ℕ) (x : Routine) where
  abbrev parameters : ℕ
  parameters = parameters_of core number

  abbrev variables : List Variable
  variables = rows core.variables (variables_of core number)

  abbrev all_homes : List Home
  all_homes = homes_from core parameters (roots_of x) 0 (first_room parameters) variables

  abbrev framed : Frame
  framed = frame_of core number x

  -- by the frame that is made of the routine
  spare_of_frame : SpareFits x framed
  spare_of_frame =
      let first = behind_grows core parameters (roots_of x) 0 (first_room parameters) variables in
      by first (spare_stored (scratch_of (bank_of (variables_room core number x) x) 1) 0 parameters all_homes)
    where
      by : parameter parameters ≤ (variables_room core number x).register → (framed.spare ≡ scratch_of framed.bank 1) ⊎ IsStoredParameter 0 parameters all_homes framed.spare → SpareFits x framed
      by first (inl e) =
          let is : framed.spare.0 ≡ framed.bank.scratch + 1 = ap (λ (r : VirtualRegister). r.0) e in
          record {
            behind = omega arith;
            other = λ same. omega arith;
            variables = λ v r home low same. omega arith;
            temporaries = λ t low same. omega arith;
          }
      by first (inr s) =
          let is = s.is in
          let low = s.below in
          record {
            behind = omega arith;
            other = λ same. omega arith;
            variables = λ v r home less same. apart v r home same (held_apart core parameters (roots_of x) 0 (first_room parameters) variables (omega arith) v.0 r home);
            temporaries = λ t less same. omega arith;
          }
        where
          apart : (v : LocalId) (r : VirtualRegister) → home_at framed.homes v ≡ Held r → r.0 ≡ framed.spare.0 → (r.0 ≡ parameter (0 + v.0)) ⊎ (parameter parameters ≤ r.0) → ⊥
          apart v r home same (inl number) =
              let is = s.is in
              let one : v.0 ≡ s.j = omega arith in
              let clash : Held r ≡ Stored s.offset = sym home ∙ ap (λ n. home_at all_homes (record { 0 = n })) one ∙ s.stored in
              absurd cc
          apart v r home same (inr more) = let is = s.is in let low = s.below in omega arith

-- the spare register of a routine of the program
pub spare_fits : (g : Setting) (f : Floor) → IsFloor g f → SpareFits f.routine f.frame
spare_fits g f floor = subst (SpareFits f.routine) (sym floor.framed) (spare_of_frame g.core f.number f.routine)
