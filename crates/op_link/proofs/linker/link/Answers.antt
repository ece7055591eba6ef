use Rattle.std.proofs.Common.{◌≡◌, ◌<◌, ◌≤◌, ◌∙◌, ℕ, Some, None, Vec, Global, List, [], ap, sym, subst, arith}
use Rattle.std.proofs.lemmas.Bool.Decides.{nat_tests}
use Rattle.std.specs.Option.{option_map}
use Rattle.op_link.specs.declared.linker.LinkError.{LinkError}
use Rattle.op_link.specs.declared.linker.LinkError.TheVariants.{Limit}
use Rattle.op_link.specs.declared.place.RoutinePlace.{RoutinePlace}
use Rattle.op_link.specs.Linking.{image_by, image_of, linked_size, linked_size_by, longest}
use Rattle.op_link.specs.Loaded.{HasCode, IsLoaded, linked_sizes}
use Rattle.op_link.specs.Memory.{most_linked, segments_of}
use Rattle.op_link.proofs.Loading.{first_loaded, first_code, second_loaded, second_code}
use Rattle.op_link.proofs.Settled.{if_ok_both, first_image, first_size, second_image, second_size, past_limit, too_many, if_ok, if_err}
use Rattle.op_link.proofs.linker.link.Goals as goal

pub returns-then-not-is_small-clause-limit : goal.returns-then-not-is_small-clause-limit
returns-then-not-is_small-clause-limit c =
    let many = c.if-not-is_small.ensures in
    let whole = c.as_slice.ensures in
    λ _. too_many c.args.objects.now c.args.layout.now c.args.settings.now (grind (arith, nat_tests, many, whole))

first : (c : goal.In-Ok-Some) → Some c.in-Ok-Some.image.items ≡ image_by (longest c.args.objects.now) c.args.layout.now c.args.objects.now c.args.settings.now
first c =
    sym (ap (option_map (λ (image : Vec ℕ Global). image.items)) c.in-Ok-Some.field-0-is)
    ∙ c.in-Ok-Some.ensures.image
    ∙ ap (λ (known : List RoutinePlace). image_by known c.args.layout.now c.args.objects.now c.args.settings.now) c.in_ok-known.ensures

pub returns-in-Ok-Some-clause-image : goal.returns-in-Ok-Some-clause-image
returns-in-Ok-Some-clause-image c =
    first_image c.args.objects.now c.args.layout.now c.args.settings.now c.in-Ok-Some.image.items (first c)

pub returns-in-Ok-Some-clause-within : goal.returns-in-Ok-Some-clause-within
returns-in-Ok-Some-clause-within c =
    let known = ap (λ (known : List RoutinePlace). linked_size_by known c.args.layout.now c.args.objects.now) c.in_ok-known.ensures in
    subst (λ (n : ℕ). n ≤ most_linked) (known ∙ first_size c.args.objects.now c.args.layout.now c.args.settings.now c.in-Ok-Some.image.items (first c)) c.in-Ok-Some.ensures.within

none : (c : goal.After-link_longest) → None ≡ image_by (longest c.args.objects.now) c.args.layout.now c.args.objects.now c.args.settings.now
none c =
    sym (ap (option_map (λ (image : Vec ℕ Global). image.items)) c.in-Ok-None.field-0-is)
    ∙ c.in-Ok-None.ensures.image
    ∙ ap (λ (known : List RoutinePlace). image_by known c.args.layout.now c.args.objects.now c.args.settings.now) c.in_ok-known.ensures

pub returns-in-Ok-None-clause-image : goal.returns-in-Ok-None-clause-image
returns-in-Ok-None-clause-image c =
    let objects = c.args.objects.now in
    let layout = c.args.layout.now in
    let settings = c.args.settings.now in
    if_ok c.link_longest.result (λ (image : Vec ℕ Global). Some image.items ≡ image_by [] layout objects settings) (λ (image : Vec ℕ Global). image.items ≡ image_of objects layout settings) (λ image is. second_image objects layout settings image.items (none c) is) c.link_longest.ensures.image

pub returns-in-Ok-None-clause-within : goal.returns-in-Ok-None-clause-within
returns-in-Ok-None-clause-within c =
    let objects = c.args.objects.now in
    let layout = c.args.layout.now in
    let settings = c.args.settings.now in
    if_ok c.link_longest.result (λ _. linked_size_by [] layout objects ≤ most_linked) (λ _. linked_size objects layout settings ≤ most_linked) (λ _ within. subst (λ (n : ℕ). n ≤ most_linked) (second_size objects layout settings (none c)) within) c.link_longest.ensures.within

pub returns-in-Ok-None-clause-limit : goal.returns-in-Ok-None-clause-limit
returns-in-Ok-None-clause-limit c =
    let objects = c.args.objects.now in
    let layout = c.args.layout.now in
    let settings = c.args.settings.now in
    if_err c.link_longest.result (λ (error : LinkError). error ≡ Limit → most_linked < linked_size_by [] layout objects) (λ (error : LinkError). error ≡ Limit → most_linked < linked_size objects layout settings) (λ error past is. subst (λ (n : ℕ). most_linked < n) (second_size objects layout settings (none c)) (past is)) c.link_longest.ensures.limit

pub returns-in-Err-clause-limit : goal.returns-in-Err-clause-limit
returns-in-Err-clause-limit c =
    let limit = c.in-Err.ensures.limit in
    λ is. past_limit c.args.objects.now c.args.layout.now c.args.settings.now (subst (λ (known : List RoutinePlace). most_linked < linked_size_by known c.args.layout.now c.args.objects.now) c.in_ok-known.ensures (limit is))

pub returns-in-Ok-Some-clause-loads : goal.returns-in-Ok-Some-clause-loads
returns-in-Ok-Some-clause-loads c =
    let layout = c.args.layout.now in
    let objects = c.args.objects.now in
    let within = subst (λ (known : List RoutinePlace). linked_size_by known layout objects ≤ most_linked) c.in_ok-known.ensures c.in-Ok-Some.ensures.within in
    first_loaded objects layout c.args.settings.now c.in-Ok-Some.image.items c.requires.linkable c.requires.settings within (first c)

pub returns-in-Ok-Some-clause-code : goal.returns-in-Ok-Some-clause-code
returns-in-Ok-Some-clause-code c =
    first_code c.args.objects.now c.args.layout.now c.args.settings.now c.in-Ok-Some.image.items c.requires.linkable (first c)

pub returns-in-Ok-None-clause-loads : goal.returns-in-Ok-None-clause-loads
returns-in-Ok-None-clause-loads c =
    let objects = c.args.objects.now in
    let layout = c.args.layout.now in
    let settings = c.args.settings.now in
    if_ok_both c.link_longest.result (λ (image : Vec ℕ Global). Some image.items ≡ image_by [] layout objects settings) (λ _. linked_size_by [] layout objects ≤ most_linked) (λ (image : Vec ℕ Global). IsLoaded image.items (segments_of (linked_sizes objects layout settings) settings)) (λ image is within. second_loaded objects layout settings image.items (none c) c.requires.linkable c.requires.settings within is) c.link_longest.ensures.image c.link_longest.ensures.within

pub returns-in-Ok-None-clause-code : goal.returns-in-Ok-None-clause-code
returns-in-Ok-None-clause-code c =
    let objects = c.args.objects.now in
    let layout = c.args.layout.now in
    let settings = c.args.settings.now in
    if_ok c.link_longest.result (λ (image : Vec ℕ Global). Some image.items ≡ image_by [] layout objects settings) (λ (image : Vec ℕ Global). HasCode image.items objects layout settings) (λ image is. second_code objects layout settings image.items (none c) c.requires.linkable is) c.link_longest.ensures.image
