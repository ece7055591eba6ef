use Rattle.std.proofs.Common.{◌≤◌, ◌∙◌, ℕ, Vec, Global, List, ap, sym, subst}
use Rattle.std.specs.Option.{option_map}
use Rattle.op_link.specs.declared.place.RoutinePlace.{RoutinePlace}
use Rattle.op_link.specs.Linking.{image_by, linked_size_by}
use Rattle.op_link.specs.Memory.{most_linked}
use Rattle.op_link.proofs.Longest.{longest_reaches}
use Rattle.op_link.proofs.linker.link_longest.Goals as goal

pub unreachable-requires : goal.unreachable-requires
unreachable-requires c =
    let objects = c.args.objects.now in
    let layout = c.args.layout.now in
    let settings = c.args.settings.now in
    let empty = c.from-none.ensures ∙ c.new.ensures.items in
    let within = subst (λ (known : List RoutinePlace). linked_size_by known layout objects ≤ most_linked) empty c.in-Ok-None.ensures.within in
    let none =
    sym (ap (option_map (λ (image : Vec ℕ Global). image.items)) c.in-Ok-None.field-0-is)
    ∙ c.in-Ok-None.ensures.image
    ∙ ap (λ (known : List RoutinePlace). image_by known layout objects settings) empty in
    longest_reaches objects layout settings c.requires.linkable within none
