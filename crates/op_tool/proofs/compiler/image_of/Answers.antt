use Rattle.std.proofs.Common.{subst, sym}
use Rattle.op_build.specs.Built.{IsNotBuilt}
use Rattle.op_build.specs.declared.building.BuildError.TheVariants.{Limit, Unbuildable}
use Rattle.op_correctness.proofs.Correct.{correct}
use Rattle.op_correctness.proofs.ManagedValid.{managed_valid}
use Rattle.op_correctness.proofs.Sized.{limited, sized}
use Rattle.op_tool.proofs.Large.{never_unbuildable}
use Rattle.op_tool.proofs.compiler.image_of.Goals as goal

pub returns-in-Ok-clause-made : goal.returns-in-Ok-clause-made
returns-in-Ok-clause-made c = record {
  mir = c.in_ok-mir.mir;
  lowers = c.in_ok-mir.ensures.lowers;
  valid = managed_valid c.args.core c.in_ok-mir.mir (sym c.if-not-has_short_texts.ensures.short) c.requires.sound.0 c.requires.sound.1 c.in_ok-mir.ensures.lowers;
  built = c.in-Ok.ensures.made;
  agrees = correct c.args.core c.in_ok-mir.mir c.args.settings.now c.in-Ok.image.items (sym c.if-not-has_short_texts.ensures.short) c.requires.sound.0 c.requires.sound.1 c.requires.settings c.in_ok-mir.ensures.lowers c.in_ok-mir.ensures.manages c.in-Ok.ensures.made;
  small = sized c.args.core c.in_ok-mir.mir c.args.settings.now (sym c.if-not-has_short_texts.ensures.short) c.requires.sound.0 c.in_ok-mir.ensures.lowers c.in-Ok.ensures.made.better c.in-Ok.ensures.made.optimizes;
}

pub returns-in-Err-Limit-clause-failed : goal.returns-in-Err-Limit-clause-failed
returns-in-Err-Limit-clause-failed c =
    let why : IsNotBuilt c.args.core c.in_ok-mir.mir c.args.settings.now Limit = subst (IsNotBuilt c.args.core c.in_ok-mir.mir c.args.settings.now) c.in-Err-Limit.field-0-is c.in-Err-Limit.ensures.failed in
    record {
      fails = record { mir = c.in_ok-mir.mir; lowers = c.in_ok-mir.ensures.lowers; valid = managed_valid c.args.core c.in_ok-mir.mir (sym c.if-not-has_short_texts.ensures.short) c.requires.sound.0 c.requires.sound.1 c.in_ok-mir.ensures.lowers; why = why };
      size = limited c.args.core c.in_ok-mir.mir c.args.settings.now (sym c.if-not-has_short_texts.ensures.short) c.requires.sound.0 c.in_ok-mir.ensures.lowers why;
    }

pub unreachable-requires : goal.unreachable-requires
unreachable-requires c =
    let why : IsNotBuilt c.args.core c.in_ok-mir.mir c.args.settings.now Unbuildable = subst (IsNotBuilt c.args.core c.in_ok-mir.mir c.args.settings.now) c.in-Err-Unbuildable.field-0-is c.in-Err-Unbuildable.ensures.failed in
    never_unbuildable c.args.core c.in_ok-mir.mir c.args.settings.now (sym c.if-not-has_short_texts.ensures.short) c.requires.sound.0 c.requires.sound.1 c.in_ok-mir.ensures.lowers why
