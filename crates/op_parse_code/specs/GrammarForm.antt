-- The two forms that the profile leaves out and that the grammar has: they are refused wherever they stand.
use Rattle.std.specs.Prelude.{◌≡◌, ℕ, List, ◌∷◌, ◌++◌}
use Rattle.op_scan.specs.declared.token.TokenKind.TheVariants as kind
use Rattle.op_tree.specs.Expression.{Expression}
use Rattle.op_tree.specs.ExpressionGrammar.{IsExpr}
use Rattle.op_tree.specs.Terminal.{Terminal, ◌at◌}
use Rattle.op_tree.specs.declared.position.Position.{Position}

-- The feature, by its number; the tokens from the form's first one on; those from the one on that tells the form.
pub data GrammarForm : ℕ → List Terminal → List Terminal → Type 0 where
  -- `/`
  is_slash : {p : Position} {r : List Terminal} → GrammarForm 1 (kind.Slash at p ∷ r) (kind.Slash at p ∷ r)
  -- the width of a fraction
  is_fraction_width : {d : ℕ} {e : Expression} {p q : Position} {ks r : List Terminal} → IsExpr d e ks (kind.Colon at q ∷ r) → GrammarForm 35 (kind.Colon at p ∷ ks) (kind.Colon at q ∷ r)

-- such a form stands in the tokens, and its telling token in front of these
abbrev pub HasGrammarForm : ℕ → List Terminal → List Terminal → Type 0
HasGrammarForm feature ks q = (seen form : List Terminal) × (ks ≡ seen ++ form) × GrammarForm feature form q
