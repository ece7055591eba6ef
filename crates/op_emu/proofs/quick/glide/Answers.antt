use Rattle.std.proofs.Common.{◌+◌, ◌*◌, ◌-◌, length, get_or, refl, subst, arith}
use Rattle.op_rv.specs.Step.{running_step, after}
use Rattle.op_emu.specs.Quick.{Goes}
use Rattle.op_emu.specs.Segments.{regions_of}
use Rattle.op_emu.specs.declared.quick.Next.TheVariants.{On, To, Stayed}
use Rattle.op_emu.specs.declared.row.Row.TheVariants.{Other}
use Rattle.op_emu.proofs.Gliding.{fits_of, next_of, not_last, next_word, Goes-none, Goes-then, Goes-same}
use Rattle.op_emu.proofs.quick.glide.Goals as goal

pub returns-then-limit-many-clause-goes : goal.returns-then-limit-many-clause-goes
returns-then-limit-many-clause-goes c = Goes-none 0 _ _ _ refl

pub steps-init : goal.steps-init
steps-init c =
    let inside = c.requires.inside in
    record {
      inside = c.requires.inside;
      low = omega arith;
      high = omega arith;
      apart = c.requires.apart;
      decoded = λ start rows is. is;
      goes = Goes-none _ _ _ _ (omega arith);
    }

pub quick-requires-clause-fit : goal.quick-requires-clause-fit
quick-requires-clause-fit c =
    let now = c.steps.invariant in
    fits_of c.args.rows.now _ (regions_of c.steps.segments) c.args.base c.steps.k (now.decoded c.args.base c.args.rows.now c.requires.decoded) now.inside refl

pub steps-preserved-in-On : goal.steps-preserved-in-On
steps-preserved-in-On c =
    let now = c.steps.invariant in
    let rows = c.args.rows.now in
    let rs = regions_of c.steps.segments in
    let rs' = regions_of c.quick.new.segments in
    let words = c.steps.words.words in
    let words' = c.quick.new.registers.words in
    let decoded = now.decoded c.args.base rows c.requires.decoded in
    let row = get_or rows c.steps.k Other in
    let more = not_last rows row c.args.base c.steps.k words words' rs rs' decoded now.inside refl c.in-On.ensures.goes in
    let next = next_of rows row On c.args.base c.steps.k words words' rs rs' decoded now.inside refl c.in-On.ensures.goes in
    let near = c.requires.decoded.near in
    let low = now.low in
    record {
      inside = more;
      low = omega arith;
      high = now.high;
      apart = c.quick.ensures.apart;
      decoded = λ start rows is. c.quick.ensures.decoded start rows (now.decoded start rows is);
      goes = Goes-then _ _ _ words words' _ (c.args.base + 4 * c.steps.k) _ _ rs rs' (omega arith) now.goes (subst (λ pc. Goes running_step words (c.args.base + 4 * c.steps.k) rs words' pc rs') (next_word c.args.base c.steps.k (omega arith)) next);
    }

pub returns-then-credit-limit-clause-goes : goal.returns-then-credit-limit-clause-goes
returns-then-credit-limit-clause-goes c =
    let now = c.steps.invariant in
    let rows = c.args.rows.now in
    let rs = regions_of c.steps.segments in
    let rs' = regions_of c.quick.new.segments in
    let words = c.steps.words.words in
    let words' = c.quick.new.registers.words in
    let decoded = now.decoded c.args.base rows c.requires.decoded in
    let next = next_of rows (get_or rows c.steps.k Other) (To c.in-To.place) c.args.base c.steps.k words words' rs rs' decoded now.inside refl c.in-To.ensures.goes in
    let below = next.0 in
    let low = now.low in
    Goes-then _ _ _ words words' _ (c.args.base + 4 * c.steps.k) _ _ rs rs' (omega arith) now.goes next.1

pub returns-then-credit-limit-clause-decoded : goal.returns-then-credit-limit-clause-decoded
returns-then-credit-limit-clause-decoded c =
    λ start rows is. c.quick.ensures.decoded start rows (c.steps.invariant.decoded start rows is)

pub steps-preserved : goal.steps-preserved
steps-preserved c =
    let now = c.steps.invariant in
    let rows = c.args.rows.now in
    let rs = regions_of c.steps.segments in
    let rs' = regions_of c.quick.new.segments in
    let words = c.steps.words.words in
    let words' = c.quick.new.registers.words in
    let decoded = now.decoded c.args.base rows c.requires.decoded in
    let next = next_of rows (get_or rows c.steps.k Other) (To c.in-To.place) c.args.base c.steps.k words words' rs rs' decoded now.inside refl c.in-To.ensures.goes in
    let below = next.0 in
    let low = now.low in
    record {
      inside = next.0;
      low = omega arith;
      high = c.if-credit-limit.false;
      apart = c.quick.ensures.apart;
      decoded = λ start rows is. c.quick.ensures.decoded start rows (now.decoded start rows is);
      goes = Goes-then _ _ _ words words' _ (c.args.base + 4 * c.steps.k) _ _ rs rs' (omega arith) now.goes next.1;
    }

pub returns-in-Stayed-clause-goes : goal.returns-in-Stayed-clause-goes
returns-in-Stayed-clause-goes c =
    let now = c.steps.invariant in
    let rows = c.args.rows.now in
    let rs = regions_of c.steps.segments in
    let rs' = regions_of c.quick.new.segments in
    let words = c.steps.words.words in
    let words' = c.quick.new.registers.words in
    let decoded = now.decoded c.args.base rows c.requires.decoded in
    let next = next_of rows (get_or rows c.steps.k Other) Stayed c.args.base c.steps.k words words' rs rs' decoded now.inside refl c.in-Stayed.ensures.goes in
    Goes-same (after (c.steps.credit + c.steps.k - length rows)) c.args.registers.now.words words words' (c.args.base + 4 * c.args.from) (c.args.base + 4 * c.steps.k) (regions_of c.args.segments.now) rs rs' now.goes next.0 next.1

pub returns-in-Stayed-clause-decoded : goal.returns-in-Stayed-clause-decoded
returns-in-Stayed-clause-decoded c =
    λ start rows is. c.quick.ensures.decoded start rows (c.steps.invariant.decoded start rows is)
