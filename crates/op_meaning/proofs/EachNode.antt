-- What is asked of each node of a tree follows from a test of it, where it follows at each node.
use Rattle.std.proofs.Common.{◌≡◌, Bool, true}
use Rattle.std.proofs.lemmas.Bool.{and_parts}
use Rattle.op_core.specs.Expression.{Expression}
use Rattle.op_meaning.specs.Every.{Asks, EveryNode, EveryWork, Node, Nodes, Tests, Works, amount, around, both, expression_nodes, node, none, nothing, passes, passes_in, three, two, written}

pub record Tells (t : Tests) (q : Asks) : Type 1 where
  pub at_node : (n : Node) (b : Bool) (Q : Type 0) → (b ≡ true → Q) → t.of_node n b ≡ true → q.of_node n Q
  pub at_amount : (e : Expression) → (passes t (expression_nodes e) ≡ true → EveryNode q (expression_nodes e)) → t.of_amount e (passes t (expression_nodes e)) ≡ true → q.of_amount e (EveryNode q (expression_nodes e))

module _ (t : Tests) (q : Asks) (f : Tells t q) where
  pub told : (x : Nodes) → passes t x ≡ true → EveryNode q x
  told none e = tt
  told (node n inner) e = f.at_node n (passes t inner) (EveryNode q inner) (told inner) e
  told (two x y) e = let parts = and_parts _ _ e in (told x parts.0, told y parts.1)

  pub told_in : (x : Works) → passes_in t x ≡ true → EveryWork q x
  told_in nothing e = tt
  told_in (written a) e = told (expression_nodes a) e
  told_in (amount a) e = f.at_amount a (told (expression_nodes a)) e
  told_in (around n inner) e = f.at_node n (passes_in t inner) (EveryWork q inner) (told_in inner) e
  told_in (both x y) e = let parts = and_parts _ _ e in (told_in x parts.0, told_in y parts.1)
  told_in (three x y z) e = let first = and_parts _ _ e in let others = and_parts _ _ first.1 in (told_in x first.0, told_in y others.0, told_in z others.1)
