use Rattle.std.proofs.Common.{ℕ, List, ap, subst, ◌∙◌}
use Rattle.op_link.specs.Linking.{is_linkable}
use Rattle.op_image.specs.Means.{AreBytes}
use Rattle.op_image.proofs.Linkable.{linkable, valid_code}
use Rattle.op_image.proofs.Meant.{means_of}
use Rattle.op_image.proofs.building.build.Goals as goal

pub select-requires : goal.select-requires
select-requires c = valid_code c.args.low c.args.layout.now c.requires.buildable

pub link-requires-clause-linkable : goal.link-requires-clause-linkable
link-requires-clause-linkable c =
    ap (λ objects. is_linkable objects c.args.layout.now) c.in_ok-objects.ensures ∙ linkable c.args.low c.args.layout.now c.requires.buildable

pub returns-clause-means : goal.returns-clause-means
returns-clause-means c =
    means_of c.args.low c.args.layout.now c.args.settings.now c.in_ok-objects.objects c.in_ok-image.image.items c.in_ok-objects.ensures c.requires.buildable c.requires.settings c.in_ok-image.ensures.within c.in_ok-image.ensures.loads c.in_ok-image.ensures.code (subst (λ (bytes : List ℕ). AreBytes bytes) c.as_slice.ensures.value c.are_bytes.ensures)
