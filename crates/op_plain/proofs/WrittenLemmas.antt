-- The bodies of a program that passes the test are written: conversions that are not stand apart, and each branch of a case has a label.
use Rattle.std.proofs.Common.{◌≡◌, ℕ, Bool, true, false, not, ◌&&◌, List, length}
use Rattle.std.proofs.lemmas.Bool.{and_parts, ltb-true}
use Rattle.op_core.specs.Expression.{Steps, no_steps, steps, Action, convert, bracket, field, index, method, prefixed, operate, is, apply, copy, Argument, value, place, array, listed}
use Rattle.op_core.specs.Statement.{Statements}
use Rattle.op_core.specs.declared.operation.Origin.TheVariants.{As_, Cast, Implied}
use Rattle.op_core.specs.declared.program.Core.{Core}
use Rattle.op_sizes.specs.Written.{AreApart, AreWrittenStatements, MayFollow, WrittenArgument, is_implied, written_asks}
use Rattle.op_plain.proofs.Parts.{failed}
use Rattle.op_plain.proofs.Shown.{Shows, statements_shown}
use Rattle.op_plain.specs.Plain.{are_apart, are_plain_statements, is_plain_argument}

may_follow : (implied : Bool) (action : Action) → not (implied && is_implied action) ≡ true → MayFollow implied action
may_follow false action e = tt
may_follow true (convert conversion Implied) e = failed e
may_follow true (convert conversion Cast) e = tt
may_follow true (convert conversion As_) e = tt
may_follow true bracket e = tt
may_follow true (field id) e = tt
may_follow true (index i) e = tt
may_follow true (method id dispatch given) e = tt
may_follow true (prefixed operator checked) e = tt
may_follow true (operate operator checked i) e = tt
may_follow true (is class) e = tt
may_follow true (apply function checked) e = tt
may_follow true (copy i j) e = tt

apart : (others : Steps) (implied : Bool) → are_apart implied others ≡ true → AreApart implied others
apart no_steps implied e = tt
apart (steps action next others) implied e =
    let parts = and_parts (not (implied && is_implied action)) (are_apart (is_implied action) others) e in
    (may_follow implied action parts.0, apart others (is_implied action) parts.1)

module _ (texts : List ℕ → Bool) (core : Core) where
  argument_written : (a : Argument) (P : Type 0) → is_plain_argument texts core a ≡ true → P → WrittenArgument a P
  argument_written (value a) P e p = p
  argument_written (place a) P e p = p
  argument_written (array a) P e p = p
  argument_written (listed of es) P e p = tt

  written_shown : Shows texts core written_asks
  written_shown = record {
    in_root = λ root of P e p. p;
    in_steps = λ others P e p. (apart others false e, p);
    in_step = λ text action next P e p. p;
    in_argument = argument_written;
    in_copy = λ P. tt;
    in_labels = λ labels e. ltb-true 0 (length labels) (and_parts _ _ e).0;
    in_amount = λ a h. h;
    in_bare = λ v nodes words of e. (tt, (tt, tt));
  }

  pub statements_written : (ss : Statements) → are_plain_statements texts core ss ≡ true → AreWrittenStatements ss
  statements_written ss e = statements_shown texts core written_asks written_shown ss e
