use Rattle.std.proofs.Common.{◌≡◌, None, length, arith, rules}
use Rattle.std.specs.Prelude.{replicate}
use Rattle.std.proofs.lemmas.Grind.{common_steps}
use Rattle.op_regs.proofs.ScanLemmas.{begin_fair}
use Rattle.op_regs.proofs.scan.Scan.begin.Goals as goal

pub returns-clause-fair : goal.returns-clause-fair
returns-clause-fair c =
    let made : c.in_ok-homes.homes.items ≡ replicate c.len.result None = c.in_ok-homes.ensures.items_if_clones_equal (λ y same. first_of (cc, search rules, grind arith)) in
    let homes : c.in_ok-homes.homes.items ≡ replicate (length c.args.spans.items) None = grind (arith, made, common_steps) in
    let holders : c.in_ok-holders.holders.items ≡ replicate 18 None = c.in_ok-holders.ensures.items_if_clones_equal (λ y same. first_of (cc, search rules, grind arith)) in
    begin_fair _ c.requires homes holders
