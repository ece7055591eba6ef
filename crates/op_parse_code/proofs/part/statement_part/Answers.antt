use Rattle.std.proofs.Common.{◌≡◌, ◌-◌, drop, length, sym, ap, ◌∙◌, arith, subst}
use Rattle.std.proofs.lemmas.List.{drop-map, length-map}
use Rattle.op_parse_code.proofs.StatementKnown.{known_statement}
use Rattle.op_parse_code.proofs.Parts.{behind_place}
use Rattle.op_parse_code.specs.WholeStatement.{SomeStatement}
use Rattle.op_tree.specs.Statement.{stmt_of}
use Rattle.op_tree.specs.Terminal.{terminals, terminal_of}
use Rattle.op_parse_code.proofs.part.statement_part.Goals as goal

pub returns-clause-range : goal.returns-clause-range
returns-clause-range c =
    let size : length c.as_slice-list.result.now ≡ length c.args.tokens.now.list = ap length c.as_slice-list.ensures in
    (omega (arith, size, c.split_at.ensures.back_len, c.in_ok-tree.ensures.shorter), omega (arith, size))

pub returns-clause-whole : goal.returns-clause-whole
returns-clause-whole c =
    let ks = terminals c.args.tokens.now.list in
    let r = terminals c.in_ok-tree.behind.now in
    let e = stmt_of c.in_ok-tree.tree in
    let from : terminals c.split_at.result.1.now ≡ drop c.args.at ks = ap terminals (c.split_at.ensures.back ∙ ap (drop c.args.at) c.as_slice-list.ensures) ∙ sym (drop-map terminal_of c.args.at c.args.tokens.now.list) in
    let w : SomeStatement c.args.left e (drop c.args.at ks) r = subst (λ z. SomeStatement c.args.left e z r) from c.in_ok-tree.ensures.whole in
    let size : length c.as_slice-list.result.now - length c.in_ok-tree.behind.now ≡ length ks - length r = omega (arith, ap length c.as_slice-list.ensures, length-map c.args.tokens.now.list terminal_of, length-map c.in_ok-tree.behind.now terminal_of) in
    subst (λ z. SomeStatement c.args.left e (drop c.args.at ks) z) (sym (ap (λ n. drop n ks) size ∙ behind_place SomeStatement c.args.left e c.args.at ks r known_statement w)) w
