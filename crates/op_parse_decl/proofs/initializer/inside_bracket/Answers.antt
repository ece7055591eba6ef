use Rattle.op_parse_decl.proofs.Initials.{room_ends, room_stays}
use Rattle.op_parse_decl.proofs.initializer.inside_bracket.Goals as goal

pub returns-then-left-lt2 : goal.returns-then-left-lt2
returns-then-left-lt2 c = λ k d ks h. room_ends c.args.room _ k d c.args.bracket ks c.in-Left.is c.if-left-lt2.true h

pub returns-in-Spent : goal.returns-in-Spent
returns-in-Spent c = λ k d ks h. room_stays c.args.room _ k d c.args.bracket ks c.in-Spent.is h
