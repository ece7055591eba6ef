-- What is proved of parts that are checked, in the program where they are and in each that it grows to.
use Rattle.std.specs.Prelude.{◌≡◌, ℕ, Bool, true, List, Option}
use Rattle.op_check_expr.specs.Phrases as phrase
use Rattle.op_check_expr.specs.Scopes.{Here}
use Rattle.op_check_stmt.specs.Statement.{statement}
use Rattle.op_core.specs.Growing.{Grows, SeesMore}
use Rattle.op_core.specs.Relations.{Whole}
use Rattle.op_core.specs.Sound.{IsFounded}
use Rattle.op_core.specs.StatementTyping as typing
use Rattle.op_core.specs.Typing.{Sees}
use Rattle.op_core.specs.declared.ids.TypeId.{TypeId}
use Rattle.op_core.specs.declared.program.Core.{Core}
use Rattle.op_judgement.specs.Judgement.{checked}
use Rattle.op_tree.specs.Expression.{Expression}
use Rattle.op_tree.specs.Statement.{Statement}
use Rattle.op_typed.specs.Settled.{IsSettled, IsSoundValue}
use Rattle.op_typed.specs.Surrounding.{Surrounds}
use Rattle.op_types.specs.Folding.{constant, is_constant}
use Rattle.op_types.specs.Names.{Named}
use Rattle.op_typed.specs.Standing.{AllStand, IsSoundConstant}

-- what may be named in a scope, by tests of the numbers of variables and routines
abbrev pub seen_by : (ℕ → Bool) → (ℕ → Bool) → Sees
seen_by variable routine = record { variable = λ id. variable id.0 ≡ true; routine = λ id. routine id.0 ≡ true }

-- this is so in every program that the first one grows to, whatever may be named there besides
abbrev pub InEveryLater : Core → (ℕ → Bool) → (ℕ → Bool) → (Core → Sees → Type 0) → Type 0
InEveryLater core v r P = (later : Core) (w s : ℕ → Bool) → Grows core later → SeesMore (seen_by v r) (seen_by w s) → P later (seen_by w s)

-- a constant expression breaks a rule or has a constant that is one of its type
abbrev pub ConstantsAreSound : Type 0
ConstantsAreSound = (core : Core) (v r : ℕ → Bool) (names : List Named) → IsFounded core → AllStand core (seen_by v r) names → (e : Expression) → is_constant core names e ≡ true → Whole (λ c. (later : Core) → Grows core later → IsSoundConstant later c) (checked (constant core names e))

-- an expression breaks a rule or has a constant or a typed tree
abbrev pub ExpressionsAreTyped : Type 0
ExpressionsAreTyped = (v r : ℕ → Bool) (here : Here) → IsSettled (seen_by v r) here → (wanted : Option TypeId) (e : Expression) → Whole (λ x. InEveryLater here.core v r (λ later sees. IsSoundValue later sees x)) (checked (phrase.value here wanted e))

-- a statement breaks a rule or is typed where it stands
abbrev pub StatementsAreTyped : Type 0
StatementsAreTyped = (v r : ℕ → Bool) (here : Here) (at : typing.Here) → IsSettled (seen_by v r) here → Surrounds here at → (s : Statement) → Whole (λ x. InEveryLater here.core v r (λ later sees. typing.IsStatement later sees at x)) (checked (statement here s))
