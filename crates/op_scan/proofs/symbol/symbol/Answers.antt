use Rattle.std.proofs.Common.{refl, sym, arith}
use Rattle.std.proofs.lemmas.List.{length-take}
use Rattle.op_scan.specs.Item.{a_symbol, stands, nothing}
use Rattle.op_scan.proofs.SymbolFronts.{two_length, one_length, two_front, one_front, symbol_missing, symbol_rule}
use Rattle.op_scan.specs.declared.effect.Effect.TheVariants.{Breaks}
use Rattle.std.proofs.Common.{ap}
use Rattle.op_scan.proofs.symbol.symbol.Goals as goal

pub returns-in-Some : goal.returns-in-Some
returns-in-Some c =
    let bytes = c.args.bytes.now in
    let e = sym c.in-Some.ensures in
    stands (a_symbol c.in-Some.kind) (omega (arith, length-take 2 bytes, two_length bytes c.requires c.in-Some.kind e)) (two_front bytes c.requires c.in-Some.kind e) refl

pub returns-in-Some-symbol_of_first : goal.returns-in-Some-symbol_of_first
returns-in-Some-symbol_of_first c =
    let bytes = c.args.bytes.now in
    let kind = c.in-Some-symbol_of_first.kind in
    let e = sym c.in-Some-symbol_of_first.ensures in
    stands (a_symbol kind) (omega (arith, length-take 1 bytes, one_length bytes c.requires kind e)) (one_front bytes c.requires kind e (sym c.in_default.ensures)) refl

pub returns : goal.returns
returns c =
    let bytes = c.args.bytes.now in
    let none = sym c.in_default-symbol_of_first.ensures in
    nothing refl (symbol_missing bytes c.requires none (sym c.in_default.ensures)) (ap Breaks (sym (symbol_rule bytes c.requires none)))
