-- Phrases of expressions, seen from their parts.
use Rattle.std.proofs.Common.{◌≡◌, ◌<◌, List, [], ◌∷◌, ◌++◌, ℕ, length, arith, Option, Some, None, refl, ap, ◌∙◌}
use Rattle.std.specs.Option.{option_map}
use Rattle.op_core.specs.declared.first_refusal.FirstRefusal.{FirstRefusal}
use Rattle.op_core.specs.declared.ids.TypeId.{TypeId}
use Rattle.op_judgement.specs.Judgement.{Judgement, Reports, through}
use Rattle.op_tree.specs.Expression.{literal, Arguments, Selector as Phrase, selector_of, Selectors, no_selectors, selectors}
use Rattle.op_tree.specs.Statement.{selectors_of}
use Rattle.op_tree.specs.declared.expression.Selector.{Selector}
use Rattle.op_tree.specs.declared.position.Position.{Position}
use Rattle.op_check_expr.specs.Expressions.{position_of_denoted, selected, settled, still_at, still_at_position, text_denoted, value_in}
use Rattle.op_check_expr.specs.Phrases.{call_in, last_call}
use Rattle.op_check_expr.specs.Naming.{Denoted}
use Rattle.op_check_expr.specs.Scopes.{Here}
use Rattle.op_check_expr.specs.Values.{Value}

pub literal_wanted : (here : Here) (wanted : Option TypeId) (text : List ℕ) (p : Position) (ss : Selectors) → value_in here None (literal text p ss) ≡ value_in here wanted (literal text p ss)
literal_wanted here wanted text p no_selectors = refl
literal_wanted here wanted text p (selectors x xs) = refl

pub still_reports : (d : Option Denoted) (j : Judgement Value) (old new : FirstRefusal) (v : Option Value) (p : Option Position) (r : Option Denoted) → p ≡ position_of_denoted d → r ≡ still_at_position p v → Reports j old new v → Reports (still_at d j) old new r
still_reports d j old new v p r e f h = (f ∙ ap (λ p. still_at_position p v) e ∙ ap (still_at_position (position_of_denoted d)) h.0, h.1)

pub literal_selected : (here : Here) (text : List ℕ) (p : Position) (ss : List Selector) → 0 < length ss → through (selected here (Some (text_denoted p text)) (selectors_of ss)) (settled here) ≡ value_in here None (literal text p (selectors_of ss))
literal_selected here text p [] h = absurd (omega (arith, h))
literal_selected here text p (x ∷ xs) h = refl

-- the last of a list of selectors

abbrev pub beside : Selectors → Arguments → Selectors × Arguments
beside front args = (front, args)

abbrev with_front : Phrase → Selectors × Arguments → Selectors × Arguments
with_front y r = (selectors y r.0, r.1)

behind_more : (y : Phrase) (front : Selectors) (a : Option Arguments) → option_map (with_front y) (option_map (beside front) a) ≡ option_map (beside (selectors y front)) a
behind_more y front None = refl
behind_more y front (Some args) = refl

pub last_given : (front : List Selector) (x : Selector) → last_call (selectors_of (front ++ x ∷ [])) ≡ option_map (beside (selectors_of front)) (call_in (selector_of x))
last_given [] x = refl
last_given (y ∷ []) x = behind_more (selector_of y) no_selectors (call_in (selector_of x))
last_given (y ∷ (z ∷ zs)) x = ap (option_map (with_front (selector_of y))) (last_given (z ∷ zs) x) ∙ behind_more (selector_of y) (selectors_of (z ∷ zs)) (call_in (selector_of x))
