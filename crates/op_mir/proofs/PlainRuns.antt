-- A program of the plain class, so its code goes along with it.
use Rattle.std.proofs.Common.{◌≡◌, ℕ, zero, suc, ◌+◌, [], ◌∷◌, Option, Some, None, refl, rules, slice_get}
use Rattle.std.specs.Prelude.{pos, codes}
use Rattle.op_core.specs.Initial.{FirstValue}
use Rattle.op_core.specs.Statement.{if_then, for_to, try_finally, break}
use Rattle.op_core.specs.declared.ids.VariableId.{VariableId}
use Rattle.op_meaning.proofs.Programs.{var, num, test, listed, line, shown, text, own, core_of, runs}
use Rattle.op_meaning.specs.Actions.{begin_with}
use Rattle.op_meaning.specs.Calls.{env_of, ending_of, emptied_type}
use Rattle.op_meaning.specs.Expressions.{first_here}
use Rattle.op_meaning.specs.Frames.{Program}
use Rattle.op_meaning.specs.Items.{act, Items, none, then_do, ◌&◌}
use Rattle.op_meaning.specs.Shapes.{variables_of, type_of_local}
use Rattle.op_meaning.specs.Statements.{work_of_all, first_items}
use Rattle.op_tree.specs.declared.operator.Operator.TheVariants.{Equal}
use Rattle.op_tree.specs.declared.position.Name.{Name}
use Rattle.op_tree.specs.declared.statement.Direction.TheVariants.{To}
use Rattle.op_mir.specs.Plain.{ArePlain, IsPlain}

-- ---- items that are plain

pub plain_both : (p : Program) (a b : Items) → ArePlain p a → ArePlain p b → ArePlain p (a & b)
plain_both p none b ha hb = hb
plain_both p (then_do i others) b ha hb = (ha.0, plain_both p others b ha.1 hb)

-- the first values of variables are actions
first_by : (p : Program) (r v : ℕ) (first : Option FirstValue) → p.first ((variables_of p.core r).first + v) ≡ first → ArePlain p (first_items p.core p.first r v) → ArePlain p (first_items p.core p.first r (suc v))
first_by p r v None e h = rw e (plain_both p (first_items p.core p.first r v) none h tt)
first_by p r v (Some value) e h = rw e (plain_both p (first_items p.core p.first r v) (then_do (act (begin_with v (type_of_local p.core r v) value)) none) h (tt, tt))

pub plain_first : (p : Program) (r n : ℕ) → ArePlain p (first_items p.core p.first r n)
plain_first p r zero = tt
plain_first p r (suc v) = first_by p r v (p.first ((variables_of p.core r).first + v)) refl (plain_first p r v)

-- ---- a program

abbrev i : VariableId
i = record { 0 = 0 }

module _ (name : Name) where
  --   var i: Integer;
  --   begin
  --     for i := 1 to 3 do
  --       try
  --         if i = 2 then Break;
  --         Write(i);
  --       finally
  --         Write('b');
  --       end;
  --     WriteLn(i);
  --   end.
  abbrev program : Program
  program = runs name (core_of name [] [] 1 (own name 4 ∷ []) [])
      ((for_to i (num (pos 1)) To (num (pos 3))
      (try_finally (listed (if_then (test (var 0 4) Equal (num (pos 2))) break ∷ shown (var 0 4 ∷ []) ∷ [])) (listed (text (codes "b") ∷ [])))
      ∷ line (var 0 4 ∷ []) ∷ []) ∷ [])

  statements : (r : ℕ) → ArePlain program (work_of_all (env_of program r) first_here (program.body r))
  statements zero = search rules
  statements (suc r) = tt

  ends : (r : ℕ) → ending_of program.core r ≡ []
  ends zero = refl
  ends (suc r) = refl

  empties : (v : ℕ) → emptied_type program.core (slice_get program.core.variables v) ≡ None
  empties zero = refl
  empties (suc v) = refl

  program_is_plain : IsPlain program
  program_is_plain = record {
    exceptions = refl;
    bodies = λ r. plain_both program (first_items program.core program.first r (variables_of program.core r).count) (work_of_all (env_of program r) first_here (program.body r)) (plain_first program r (variables_of program.core r).count) (statements r);
    endings = ends;
    outs = empties;
    units = search rules;
    globals = refl;
  }
