-- The frame of a routine takes no more bytes than the routine is charged, and neither does what it needs.
use Rattle.std.proofs.Common.{◌≡◌, ◌≤◌, ℕ, zero, suc, ◌+◌, ◌*◌, List, length, Option, Some, None, slice_get, refl, sym, ap, ◌∙◌, subst, arith, ◌-◌}
use Rattle.std.specs.List.{sum_by}
use Rattle.op_constants.specs.Offsets.{size_in}
use Rattle.op_core.specs.Initial.{FirstValue}
use Rattle.op_core.specs.Rows.{rows}
use Rattle.op_core.specs.Sound.{IsBody, IsSound, at_start, everything}
use Rattle.op_core.specs.Statement.{Statements, no_statements, stmts_of}
use Rattle.op_core.specs.StatementTyping.{AreStatements}
use Rattle.op_core.specs.declared.program.Core.{Core}
use Rattle.op_core.specs.declared.routine.Body.{Body}
use Rattle.op_core.specs.declared.routine.Role.TheVariants.{Object}
use Rattle.op_core.specs.declared.routine.Routine.{Routine as Row}
use Rattle.op_places.specs.Frames.{frame_of, parameters_of}
use Rattle.op_places.specs.Homes.{roots_of, size_of_root}
use Rattle.op_frames.proofs.ExpressionsWithin.{made_both}
use Rattle.op_frames.proofs.FramesUnder.{frame_small}
use Rattle.op_frames.proofs.NeedUnder.{need_small, once_small}
use Rattle.op_frames.proofs.SoundSizes.{open_small, single_some}
use Rattle.op_frames.proofs.WholesUnder.{wholes_small}
use Rattle.op_frames.specs.Charged.{IsCharged}
use Rattle.op_frames.specs.Counted.{AreCountedStatements}
use Rattle.op_frames.specs.Fitting.{registers_of_routine}
use Rattle.op_frames.specs.Made.{AreMade, Every}
use Rattle.op_frames.specs.Wholes.{AreWholesIn}
use Rattle.op_lower.specs.Lowers.{IsRoutine}
use Rattle.op_meaning.specs.Actions.{begin_with}
use Rattle.op_meaning.specs.Calls.{env_of}
use Rattle.op_meaning.specs.Charge.{charge_of, statements_weight, words_of}
use Rattle.op_meaning.specs.Expressions.{first_here}
use Rattle.op_meaning.specs.Frames.{program_of}
use Rattle.op_meaning.specs.Items.{act, none, only}
use Rattle.op_meaning.specs.Shapes.{type_of_local, variables_of}
use Rattle.op_meaning.specs.Statements.{first_items, work_of_all}
use Rattle.op_mir.specs.Code.{items_of}
use Rattle.op_mir.specs.FrameNeed.{each_once, frame_need, roots_named}
use Rattle.op_mir.specs.declared.code.Routine.{Routine}
use Rattle.op_mir.specs.declared.path.Root.{Root}
use Rattle.op_typing.proofs.Rows.{each_row, if_some}
use Rattle.op_typing.specs.Simple.{AreSimpleStatements, IsSimpleProgram, IsSimpleRoutine}
use Rattle.op_wholes.proofs.ListsCovered.{all_listed}
use Rattle.op_wholes.proofs.StatementsNamed.{statements_in}
use Rattle.op_wholes.proofs.WholesSmall.{statements_small}
use Rattle.op_wholes.specs.Listed.{wholes_of_statements}

-- ---- items of first values

first_named : (core : Core) (wholes : List Root) (blocks r n : ℕ) (first : ℕ → Option FirstValue) → AreMade (AreWholesIn wholes) blocks (first_items core first r n)
first_named core wholes blocks r zero first = tt
first_named core wholes blocks r (suc v) first = by (first_named core wholes blocks r v first) (first ((variables_of core r).first + v)) refl
  where
    by : AreMade (AreWholesIn wholes) blocks (first_items core first r v) → (o : Option FirstValue) → first ((variables_of core r).first + v) ≡ o → AreMade (AreWholesIn wholes) blocks (first_items core first r (suc v))
    by so_far None e = rw e (made_both (AreWholesIn wholes) blocks (first_items core first r v) none so_far tt)
    by so_far (Some value) e = rw e (made_both (AreWholesIn wholes) blocks (first_items core first r v) (only (act (begin_with v (type_of_local core r v) value))) so_far (tt, tt))

-- ---- bodies

abbrev body_by : Option Body → Statements
body_by None = no_statements
body_by (Some b) = stmts_of b.statements.items

abbrev statements_by : Option Row → Statements
statements_by None = no_statements
statements_by (Some row) = body_by row.body

module _ (core : Core) (stack r : ℕ) (row : Row) (b : Body) (sound : IsSound core) (simple : IsSimpleProgram core) (there : slice_get core.routines r ≡ Some row) (body : row.body ≡ Some b) (counted : AreCountedStatements ((program_of core stack).body r)) where
  text_is : (program_of core stack).body r ≡ stmts_of b.statements.items
  text_is = ap statements_by there ∙ ap body_by body

  pub all_named : (blocks : ℕ) → AreMade (AreWholesIn (wholes_of_statements core 0 ((program_of core stack).body r))) blocks (items_of (program_of core stack) r)
  all_named blocks =
      let p = program_of core stack in
      let wholes = wholes_of_statements core 0 (p.body r) in
      let typed = if_some row.body (λ b. AreStatements core (everything core) (at_start row) (stmts_of b.statements.items)) b (each_row (IsBody core (everything core)) core.routines r row sound.bodies there) body in
      let plain = each_row (IsSimpleRoutine core) core.routines r row simple.routines there in
      let is_simple = if_some row.body (λ b. AreSimpleStatements core (stmts_of b.statements.items)) b plain.body body in
      let work = statements_in core r wholes blocks (everything core) simple (p.body r) (at_start row) first_here
      (subst (AreStatements core (everything core) (at_start row)) (sym text_is) typed) (subst (AreSimpleStatements core) (sym text_is) is_simple) counted (all_listed wholes) in
      made_both (AreWholesIn wholes) blocks (first_items core p.first r (variables_of core r).count) (work_of_all (env_of p r) first_here (p.body r)) (first_named core wholes blocks r (variables_of core r).count p.first) work

  pub roots_small : (routine : Routine) → IsRoutine core r routine → sum_by (size_of_root core) (roots_of routine) ≤ 4 * words_of (statements_weight core ((program_of core stack).body r))
  roots_small routine is =
      let wholes = wholes_of_statements core 0 ((program_of core stack).body r) in
      let listed = wholes_small core stack r routine wholes is (all_named (length routine.blocks)) in
      let charged = statements_small core 0 ((program_of core stack).body r) in
      omega (arith, listed, charged)

  pub once_charged : (routine : Routine) → IsRoutine core r routine → sum_by (size_of_root core) (each_once (roots_named routine.blocks)) ≤ 4 * words_of (statements_weight core ((program_of core stack).body r))
  once_charged routine is =
      let wholes = wholes_of_statements core 0 ((program_of core stack).body r) in
      let listed = once_small core wholes stack r routine is (all_named (length routine.blocks)) in
      let charged = statements_small core 0 ((program_of core stack).body r) in
      omega (arith, listed, charged)

pub frame_fits : (core : Core) (stack r : ℕ) (row : Row) (b : Body) → IsSound core → IsSimpleProgram core → slice_get core.routines r ≡ Some row → row.body ≡ Some b
    → (routine : Routine) → IsRoutine core r routine → AreCountedStatements ((program_of core stack).body r)
    → Every (λ v. IsCharged v.role × (v.role ≡ Object → size_in core v.of ≤ 4)) (rows core.variables (variables_of core r))
    → parameters_of core r ≤ 64
    → (frame_of core r routine).locals + 4 * (registers_of_routine core r routine + 1) + 4 * (63 - parameters_of core r) ≤ charge_of core (record { 0 = r })
frame_fits core stack r row b sound simple there body routine is counted kept few =
    frame_small core stack r row b there body routine is counted (open_small core sound.extents) (single_some core sound.extents) kept
    (roots_small core stack r row b sound simple there body counted routine is) few

pub need_fits : (core : Core) (stack r : ℕ) (row : Row) (b : Body) → IsSound core → IsSimpleProgram core → slice_get core.routines r ≡ Some row → row.body ≡ Some b
    → (routine : Routine) → IsRoutine core r routine → AreCountedStatements ((program_of core stack).body r)
    → Every (λ v. IsCharged v.role × (v.role ≡ Object → size_in core v.of ≤ 4)) (rows core.variables (variables_of core r))
    → parameters_of core r ≤ 64
    → frame_need core r routine ≤ charge_of core (record { 0 = r })
need_fits core stack r row b sound simple there body routine is counted kept few =
    need_small core stack r row b there body routine is counted (open_small core sound.extents) (single_some core sound.extents) kept
    (once_charged core stack r row b sound simple there body counted routine is) few
