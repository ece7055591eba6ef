use Rattle.std.proofs.Common.{None, Some, map, take, sym, ap, ◌∙◌, arith}
use Rattle.std.specs.Option.{option_flatten}
use Rattle.op_types.specs.Names.{last_named, named}
use Rattle.op_types.proofs.Index.{arrived, begins, goes_on, lies}
use Rattle.op_types.proofs.names.Names.last_of.Goals as goal

pub loop-last-init : goal.loop-last-init
loop-last-init c =
    begins c.self.inside.declared.items c.self.inside.newest c.args.within c.args.key.now c.flatten-last.result c.self.invariant (c.flatten-last.ensures ∙ ap option_flatten (c.copied.ensures ∙ c.get.ensures.value))

pub returns-then-at-within : goal.returns-then-at-within
returns-then-at-within c =
    arrived (map named c.self.inside.declared.items) c.args.within c.args.key.now.items c.loop-last.last (Some c.in-Some.at) c.loop-last.invariant c.in-Some.is c.if-at-within.true
    ∙ ap (λ ns. last_named (take c.args.within ns) c.args.key.now.items) c.self.view_is

pub index-requires : goal.index-requires
index-requires c =
    let h = lies c.self.inside.declared.items c.loop-last.invariant.front c.args.key.now.items c.in-Some.at (sym c.in-Some.is ∙ c.loop-last.invariant.is) in
    let k = c.self.inside.declared.ok in
    grind (arith, h, k)

pub loop-last-smaller : goal.loop-last-smaller
loop-last-smaller c =
    (goes_on c.self.inside.declared.items c.self.inside.newest c.args.within c.args.key.now.items c.loop-last.last c.in-Some.at c.index.result.now c.self.invariant c.loop-last.invariant c.in-Some.is c.if-at-within.false c.index.ensures).1

pub loop-last-preserved : goal.loop-last-preserved
loop-last-preserved c =
    (goes_on c.self.inside.declared.items c.self.inside.newest c.args.within c.args.key.now.items c.loop-last.last c.in-Some.at c.index.result.now c.self.invariant c.loop-last.invariant c.in-Some.is c.if-at-within.false c.index.ensures).0

pub returns : goal.returns
returns c =
    arrived (map named c.self.inside.declared.items) c.args.within c.args.key.now.items c.loop-last.last None c.loop-last.invariant c.in_default.is
    ∙ ap (λ ns. last_named (take c.args.within ns) c.args.key.now.items) c.self.view_is
