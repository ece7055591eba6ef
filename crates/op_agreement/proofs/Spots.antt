-- Spots: which register has an address, while others hold what stood in front of it.
use Rattle.std.proofs.Common.{◌≤◌, ◌<◌, ◌⊎◌, inl, inr, ℕ, ◌+◌, List, [], ◌∷◌, sym, subst, arith}
use Rattle.std.specs.Prelude.{Bool, true, false, nat_le, if◌then◌else◌}
use Rattle.op_constants.specs.Offsets.{field_offset}
use Rattle.op_core.specs.declared.ids.TypeId.{TypeId}
use Rattle.op_core.specs.declared.program.Core.{Core}
use Rattle.op_places.specs.Homes.{parameter}
use Rattle.op_places.specs.Places.{after, at_register, at_scratch, home_of, home_spot, place_of, reached, steps_spot}
use Rattle.op_places.specs.declared.spot.Spot.{Spot}
use Rattle.op_low.specs.State.{State}
use Rattle.op_low.specs.declared.ids.VirtualRegister.{VirtualRegister}
use Rattle.op_mir.specs.Machine.{MirState}
use Rattle.op_mir.specs.View.{view_path, view_root}
use Rattle.op_mir.specs.declared.path.Path.{Path}
use Rattle.op_mir.specs.declared.path.Root.TheVariants.{Global, Local, Through, Temporary}
use Rattle.op_mir.specs.declared.path.Root.{Root}
use Rattle.op_mir.specs.declared.path.Step.TheVariants.{Field, Element}
use Rattle.op_mir.specs.declared.path.Step.{Step}
use Rattle.op_rt_text.specs.Names.{register}
use Rattle.op_agreement.proofs.Standing.{here}
use Rattle.op_agreement.specs.Chart.{Floor}
use Rattle.op_agreement.specs.Settings.{HomeFits, IsPlaced, Setting}
use Rattle.op_agreement.specs.Typed.{PathTo, RootIs}
use Rattle.op_agreement.specs.Stands.{Stays}

-- The register of a spot stands in front of those that are free then, and is none of the scratch registers in front of those that were free.
pub record SpotFits (scratch : ℕ) (free : VirtualRegister) (spot : Spot) : Type 0 where
  pub base : spot.base.0 < spot.free.0
  pub more : free.0 ≤ spot.free.0
  pub apart : (spot.base.0 < scratch) ⊎ (free.0 ≤ spot.base.0)

-- the first free register
pub fits_scratch : (scratch : ℕ) (free : VirtualRegister) → SpotFits scratch free (at_scratch free)
fits_scratch scratch free = record { base = omega arith; more = omega arith; apart = inr (omega arith) }

-- a register in front of all scratch registers
pub fits_register : (scratch : ℕ) (r free : VirtualRegister) → r.0 < scratch → scratch ≤ free.0 → SpotFits scratch free (at_register r free)
fits_register scratch r free low less = record { base = omega arith; more = omega arith; apart = inl low }

-- along the steps of a path
pub fits_steps : (core : Core) (scratch : ℕ) (free : VirtualRegister) (ss : List Step) (spot : Spot) → SpotFits scratch free spot → SpotFits scratch free (steps_spot core ss spot)
fits_steps core scratch free [] spot fits = fits
fits_steps core scratch free (Field of n ∷ ss) spot fits = fits_steps core scratch free ss (record spot { offset = spot.offset + field_offset core of n }) (record { base = fits.base; more = fits.more; apart = fits.apart })
fits_steps core scratch free (Element of low high t ∷ ss) spot fits =
    let more = fits.more in
    fits_steps core scratch free ss (record spot { base = spot.free; free = after spot.free }) (record { base = omega arith; more = omega arith; apart = inr (omega arith) })

-- where the distance has become at most a limit
pub fits_reached : (scratch : ℕ) (free : VirtualRegister) (limit : ℕ) (spot : Spot) → SpotFits scratch free spot → SpotFits scratch free (reached limit spot)
fits_reached scratch free limit spot fits = by (nat_le spot.offset limit)
  where
    by : (b : Bool) → SpotFits scratch free (if b then spot else at_scratch spot.free)
    by true = fits
    by false = let more = fits.more in record { base = omega arith; more = omega arith; apart = inr (omega arith) }

module _ (g : Setting) (m : MirState) (l : State) (floors : ℕ → Floor) (s : Stays g floors m l) where
  -- where a path begins
  pub begin_fits : (root : Root) (from : TypeId) (free : VirtualRegister) → RootIs g.core (here m floors).number (view_root root) from → IsPlaced g.core (here m floors).number (here m floors).frame root → (here m floors).frame.bank.scratch ≤ free.0 → SpotFits (here m floors).frame.bank.scratch free (home_spot free (home_of g.core (here m floors).frame root))
  begin_fits (Global v) from free root placed less = fits_scratch (here m floors).frame.bank.scratch free
  begin_fits (Local v) from free root (offset, home) less = subst (λ h. SpotFits (here m floors).frame.bank.scratch free (home_spot free h)) (sym home) (fits_scratch (here m floors).frame.bank.scratch free)
  begin_fits (Temporary of n) from free root placed less = fits_scratch (here m floors).frame.bank.scratch free
  begin_fits (Through v) from free (variable, type) placed less =
      let fits = s.activation.floor.fits in
      let home = fits.references v variable in
      let in_front : parameter v.0 < (here m floors).frame.bank.temporaries = (subst (HomeFits (here m floors).frame) home (fits.homes v variable.0)).1 in
      let behind = fits.scratch in
      subst (λ h. SpotFits (here m floors).frame.bank.scratch free (home_spot free h)) (sym home) (fits_register (here m floors).frame.bank.scratch (register (parameter v.0)) free (omega arith) less)

  -- where it leads
  pub place_fits : (path : Path) (of : TypeId) (free : VirtualRegister) → PathTo g.core (here m floors).number (view_path path) of → IsPlaced g.core (here m floors).number (here m floors).frame path.root → (here m floors).frame.bank.scratch ≤ free.0 → SpotFits (here m floors).frame.bank.scratch free (place_of g.core (here m floors).frame 0 path.root path.steps free)
  place_fits path of free typed placed less =
      fits_reached (here m floors).frame.bank.scratch free 0 (steps_spot g.core path.steps (home_spot free (home_of g.core (here m floors).frame path.root)))
      (fits_steps g.core (here m floors).frame.bank.scratch free path.steps (home_spot free (home_of g.core (here m floors).frame path.root)) (begin_fits path.root typed.from free typed.root placed less))
