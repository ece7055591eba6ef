use Rattle.op_tree.proofs.ClassUnique.{unique_class, unique_interface}
use Rattle.op_tree.proofs.DeclarationUnique.{unique_declarations, unique_interface_part}
use Rattle.op_tree.proofs.DenoterUnique.{unique_denoter, unique_initial}
use Rattle.op_tree.proofs.ExpressionUnique.{unique_chain}
use Rattle.op_tree.proofs.FileUnique.{unique_file}
use Rattle.op_tree.proofs.HeadingUnique.{unique_heading}
use Rattle.op_tree.proofs.MethodUnique.{unique_method}
use Rattle.op_tree.proofs.StatementUnique.{unique_statement}
use Rattle.op_tree.proofs.law.at_most_one.Goals as goal

pub returns : goal.returns
returns c = record {
  expression = λ l d d' e e' ks r r' f f' h h'. unique_chain f f' h h';
  statement = λ d d' s s' ks r r' f f' h h'. unique_statement f f' h h';
  denoter = λ d d' t t' ks r r' f f' h h'. unique_denoter f f' h h';
  initializer = λ d d' i i' ks r r' f f' h h'. unique_initial f f' h h';
  heading = λ d d' h h' p p' ks r r' f f'. unique_heading f f';
  method = λ d d' a a' ks r r' f f' h h'. unique_method f f' h h';
  class = λ d d' c c' p p' ks r r' f f'. unique_class f f';
  interface = λ d d' i i' p p' ks r r' f f'. unique_interface f f';
  declarations = λ d d' es es' ks r r' f f' h h'. unique_declarations f f' h h';
  interface_part = λ d d' es es' ks r r' f f' h h'. unique_interface_part f f' h h';
  file = λ f f' ks s s'. (unique_file s s').0;
}
