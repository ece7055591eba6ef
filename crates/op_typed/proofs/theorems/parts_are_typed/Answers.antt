use Rattle.op_core.specs.Growing.{Grows, SeesMore}
use Rattle.op_core.specs.StatementTyping.{statement_as}
use Rattle.op_core.specs.Typing.{Sees, fits, typed}
use Rattle.op_core.specs.declared.program.Core.{Core}
use Rattle.op_check_expr.specs.Values.{Value, computed, constant}
use Rattle.op_judgement.proofs.Completing.{whole_as}
use Rattle.op_typed.proofs.Constants.{folded_whole}
use Rattle.op_typed.proofs.Expressions.{value_of_whole}
use Rattle.op_typed.proofs.Lasting.{fact_lasts, need_lasts}
use Rattle.op_typed.proofs.Statements.{statement_whole}
use Rattle.op_typed.proofs.theorems.parts_are_typed.Goals as goal
use Rattle.op_typed.specs.Claims.{seen_by}
use Rattle.op_typed.specs.Settled.{IsSoundValue}

value_lasts : {old new : Core} {less more : Sees} → Grows old new → SeesMore less more → (v : Value) → IsSoundValue old less v → IsSoundValue new more v
value_lasts g s (constant c) h = fact_lasts g (fits c.value c.of) h
value_lasts g s (computed e) h = need_lasts g s (typed e) h

pub returns : goal.returns
returns c =
    record {
      constants = λ core v r names founded stand e is. whole_as (folded_whole (seen_by v r) names founded stand e is) (λ c h later g. fact_lasts g (fits c.value c.of) h);
      expressions = λ v r here settled wanted e. whole_as (value_of_whole settled wanted e) (λ x h later w s g more. value_lasts g more x h);
      statements = λ v r here at settled round s. whole_as (statement_whole at settled round s) (λ x h later w q g more. need_lasts g more (statement_as at x) h);
    }
