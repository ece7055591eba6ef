use Rattle.std.proofs.Common.{◌≡◌, eqb, false, rules}
use Rattle.op_scan.proofs.Places.{feed_follows, byte_follows}
use Rattle.op_scan.proofs.place.next_place.Goals as goal

pub returns-then-byte-eq10-clause-follows : goal.returns-then-byte-eq10-clause-follows
returns-then-byte-eq10-clause-follows c = λ before h. feed_follows c.args.place c.args.byte before c.if-byte-eq10.true h

pub returns-clause-follows : goal.returns-clause-follows
returns-clause-follows c =
    let apart : eqb c.args.byte 10 ≡ false = search rules in
    λ before h. byte_follows c.args.place c.args.byte before apart h
