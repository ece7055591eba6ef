-- The bodies of a program that passes the test are counted, and each statement but the empty one has a node.
use Rattle.std.proofs.Common.{◌≡◌, inl, inr, ℕ, Bool, true, List, [], ◌∷◌, refl}
use Rattle.std.proofs.lemmas.Bool.{and_parts, ltb-true}
use Rattle.op_core.specs.Expression.{Root, constant, variable, object, call, construct, set, eof, eoln, Argument, value, place, array, listed}
use Rattle.op_core.specs.Statement.{Statements}
use Rattle.op_core.specs.declared.ids.TypeId.{TypeId}
use Rattle.op_core.specs.declared.program.Core.{Core}
use Rattle.op_core.specs.declared.statement.Label.{Label}
use Rattle.op_frames.specs.Counted.{AreCountedLabels, AreCountedStatements, CountedArgument, CountedRoot, counted_asks}
use Rattle.op_plain.proofs.Parts.{failed}
use Rattle.op_plain.proofs.Shown.{Shows, statements_shown}
use Rattle.op_plain.specs.Plain.{are_nodes, are_plain_statements, is_plain_argument, is_plain_root}

module _ (texts : List ℕ → Bool) (core : Core) where
  root_counted : (root : Root) (of : TypeId) (P : Type 0) → is_plain_root texts core root of ≡ true → P → CountedRoot root P
  root_counted (constant v nodes words) of P e p = ltb-true 0 nodes (and_parts _ _ e).0
  root_counted (variable id) of P e p = p
  root_counted (object id) of P e p = failed e
  root_counted (call id given) of P e p = p
  root_counted (construct c id given) of P e p = failed e
  root_counted (set es) of P e p = p
  root_counted eof of P e p = p
  root_counted eoln of P e p = p

  argument_counted : (a : Argument) (P : Type 0) → is_plain_argument texts core a ≡ true → P → CountedArgument a P
  argument_counted (value a) P e p = p
  argument_counted (place a) P e p = p
  argument_counted (array a) P e p = p
  argument_counted (listed of es) P e p = tt

  labels_counted : (labels : List Label) → are_nodes labels ≡ true → AreCountedLabels labels
  labels_counted [] e = tt
  labels_counted (l ∷ ls) e = (ltb-true 0 l.nodes (and_parts _ _ e).0, labels_counted ls (and_parts _ _ e).1)

  counted_shown : Shows texts core counted_asks
  counted_shown = record {
    in_root = root_counted;
    in_steps = λ others P e p. p;
    in_step = λ text action next P e p. p;
    in_argument = argument_counted;
    in_copy = λ P. tt;
    in_labels = λ labels e. labels_counted labels (and_parts _ _ e).1;
    in_amount = λ a h. inl h;
    in_bare = λ v nodes words of e. inr (record { value = v; nodes = nodes; words = words; of = of; are = refl });
  }

  pub statements_counted : (ss : Statements) → are_plain_statements texts core ss ≡ true → AreCountedStatements ss
  statements_counted ss e = statements_shown texts core counted_asks counted_shown ss e
