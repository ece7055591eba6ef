-- The word that counts the finalization parts that are due, where memory changes.
use Rattle.std.proofs.Common.{◌≡◌, ◌≤◌, ◌<◌, ℕ, ◌+◌, ◌∙◌, arith}
use Rattle.op_rv.proofs.Memory.{word_at-same}
use Rattle.op_agreement.specs.Fitting.{IsFitting}
use Rattle.op_agreement.specs.Settings.{Setting, due_address}
use Rattle.op_agreement.specs.Stands.{IsCounted}

module _ (g : Setting) (fit : IsFitting g) (n : ℕ) (old new : ℕ → ℕ) where
  -- where its bytes are as they were
  pub count_kept : ((x : ℕ) → due_address g ≤ x → x < due_address g + 4 → new x ≡ old x) → IsCounted g n old → IsCounted g n new
  count_kept same counted some = word_at-same old new (due_address g) same ∙ counted some

  -- where nothing below the stack changes
  pub count_below : ((x : ℕ) → x < g.bottom → new x ≡ old x) → IsCounted g n old → IsCounted g n new
  count_below same counted some =
      let below = fit.placed.due.below in
      word_at-same old new (due_address g) (λ x from to. same x (omega arith)) ∙ counted some
