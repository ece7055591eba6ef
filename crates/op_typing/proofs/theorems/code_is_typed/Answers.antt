use Rattle.op_typing.proofs.CodeTyped.{code_is_typed, items_are_typed, mir_is_typed}
use Rattle.op_typing.proofs.SimpleTestLemmas.{simple_by_test}
use Rattle.op_typing.proofs.theorems.code_is_typed.Goals as goal

pub returns : goal.returns
returns c = record {
  items = items_are_typed;
  code = code_is_typed;
  made = mir_is_typed;
  test = simple_by_test;
}
