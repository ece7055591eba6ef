-- What the optimizer makes of code that may be built may be built.
use Rattle.std.proofs.Common.{◌≡◌, Bool, true, false, ◌&&◌, nat_le, refl, ap}
use Rattle.op_image.specs.Building.{is_buildable, is_laid_out}
use Rattle.op_layout.specs.declared.layout.Layout.{Layout}
use Rattle.op_link.specs.Memory.{globals_size}
use Rattle.op_low.specs.Valid.{is_valid}
use Rattle.op_low.specs.declared.code.Low.{Low}
use Rattle.op_optimize.proofs.Optimized.{stays_valid, thins}
use Rattle.op_optimize.specs.Optimizing.{Optimizes}
use Rattle.op_correctness.proofs.Thinner.{as_many_routines}

-- where three tests hold, the first one does
first_holds : (a b c : Bool) → a && b && c ≡ true → a ≡ true
first_holds true b c e = refl
first_holds false b c e = absurd cc

-- and may be another one that holds
first_changed : (a b c x : Bool) → x ≡ true → a && b && c ≡ true → x && b && c ≡ true
first_changed true b c x is e = rw is e
first_changed false b c x is e = absurd cc

module _ (low better : Low) (layout : Layout) (optimizes : Optimizes low better) where
  -- it names as much, and there are as many routines
  same_layout : is_laid_out better layout ≡ is_laid_out low layout
  unfolding is_laid_out
  same_layout =
      let counts = optimizes.counts in
      let many = as_many_routines low.routines better.routines (thins low better optimizes) in
      rw (counts, many) refl

  same_globals : nat_le (globals_size better.globals) 15728640 ≡ nat_le (globals_size low.globals) 15728640
  same_globals = ap (λ gs. nat_le (globals_size gs) 15728640) optimizes.globals

  pub stays_buildable : is_buildable low layout ≡ true → is_buildable better layout ≡ true
  unfolding is_buildable
  stays_buildable is =
      let valid = first_holds (is_valid low) (is_laid_out low layout) (nat_le (globals_size low.globals) 15728640) is in
      rw (same_layout, same_globals)
      (first_changed (is_valid low) (is_laid_out low layout) (nat_le (globals_size low.globals) 15728640) (is_valid better) (stays_valid low better optimizes valid) is)
