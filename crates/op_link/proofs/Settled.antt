-- Which of the two attempts counts.
use Rattle.std.proofs.Common.{◌≡◌, ℕ, ◌<◌, ◌≤◌, Bool, true, false, Some, None, Result, Ok, Err, IfOk, IfErr, List, [], is_some, if◌then◌else◌, ap, sym, ◌∙◌, arith}
use Rattle.std.specs.Option.{option_map_or}
use Rattle.op_layout.specs.declared.layout.Layout.{Layout}
use Rattle.op_rv.specs.declared.objects.Objects.{Objects}
use Rattle.op_link.specs.declared.memory_map.Settings.{Settings}
use Rattle.op_link.specs.declared.place.RoutinePlace.{RoutinePlace}
use Rattle.op_link.specs.Memory.{most_linked}
use Rattle.op_link.specs.Placing.{items_in_routines}
use Rattle.op_link.specs.Linking.{image_by, image_of, linked_size, linked_size_by, longest, settled, sizes_of}
use Rattle.op_link.proofs.Growth.{code_end, code_end_at_most}

pub settled_first : (objects : Objects) (layout : Layout) (settings : Settings) (image : List ℕ) → Some image ≡ image_by (longest objects) layout objects settings → settled layout objects settings ≡ longest objects
unfolding settled
settled_first objects layout settings image is = ap (λ found. if is_some found then longest objects else []) (sym is)

pub settled_second : (objects : Objects) (layout : Layout) (settings : Settings) → None ≡ image_by (longest objects) layout objects settings → settled layout objects settings ≡ []
unfolding settled
settled_second objects layout settings is = ap (λ found. if is_some found then longest objects else []) (sym is)

image_settled : (objects : Objects) (layout : Layout) (settings : Settings) (known : List RoutinePlace) (image : List ℕ) → settled layout objects settings ≡ known → Some image ≡ image_by known layout objects settings → image ≡ image_of objects layout settings
unfolding image_of
image_settled objects layout settings known image is found =
    ap (λ found. option_map_or (λ image. image) found []) (found ∙ ap (λ known. image_by known layout objects settings) (sym is))

size_settled : (objects : Objects) (layout : Layout) (settings : Settings) (known : List RoutinePlace) → settled layout objects settings ≡ known → linked_size_by known layout objects ≡ linked_size objects layout settings
unfolding linked_size
size_settled objects layout settings known is = ap (λ known. linked_size_by known layout objects) (sym is)

-- the first attempt gives an image
pub first_image : (objects : Objects) (layout : Layout) (settings : Settings) (image : List ℕ) → Some image ≡ image_by (longest objects) layout objects settings → image ≡ image_of objects layout settings
first_image objects layout settings image is =
    image_settled objects layout settings (longest objects) image (settled_first objects layout settings image is) is

pub first_size : (objects : Objects) (layout : Layout) (settings : Settings) (image : List ℕ) → Some image ≡ image_by (longest objects) layout objects settings → linked_size_by (longest objects) layout objects ≡ linked_size objects layout settings
first_size objects layout settings image is =
    size_settled objects layout settings (longest objects) (settled_first objects layout settings image is)

-- it gives none, and the second one does
pub second_image : (objects : Objects) (layout : Layout) (settings : Settings) (image : List ℕ) → None ≡ image_by (longest objects) layout objects settings → Some image ≡ image_by [] layout objects settings → image ≡ image_of objects layout settings
second_image objects layout settings image none is =
    image_settled objects layout settings [] image (settled_second objects layout settings none) is

pub second_size : (objects : Objects) (layout : Layout) (settings : Settings) → None ≡ image_by (longest objects) layout objects settings → linked_size_by [] layout objects ≡ linked_size objects layout settings
second_size objects layout settings none =
    size_settled objects layout settings [] (settled_second objects layout settings none)

-- ---- the limit

size_at_most : (known : List RoutinePlace) (layout : Layout) (objects : Objects) → linked_size_by known layout objects ≤ linked_size_by [] layout objects
unfolding linked_size_by sizes_of
size_at_most known layout objects = let end = code_end_at_most known objects.routines in omega (arith, end)

past_settled : (objects : Objects) (layout : Layout) (found : Bool) → most_linked < linked_size_by (longest objects) layout objects → most_linked < linked_size_by (if found then longest objects else []) layout objects
past_settled objects layout true past = past
past_settled objects layout false past = let size = size_at_most (longest objects) layout objects in omega (arith, past, size)

pub past_limit : (objects : Objects) (layout : Layout) (settings : Settings) → most_linked < linked_size_by (longest objects) layout objects → most_linked < linked_size objects layout settings
unfolding linked_size settled
past_limit objects layout settings past =
    past_settled objects layout (is_some (image_by (longest objects) layout objects settings)) past

size_of_many : (known : List RoutinePlace) (layout : Layout) (objects : Objects) → 16777216 < items_in_routines objects.routines → most_linked < linked_size_by known layout objects
unfolding linked_size_by sizes_of
size_of_many known layout objects many = let end = (code_end known objects.routines).least in omega (arith, end, many)

pub too_many : (objects : Objects) (layout : Layout) (settings : Settings) → 16777216 < items_in_routines objects.routines → most_linked < linked_size objects layout settings
unfolding linked_size
too_many objects layout settings many = size_of_many (settled layout objects settings) layout objects many

-- ---- answers

pub if_ok : {T E : Type 0} (answer : Result T E) (P Q : T → Type 0) → ((t : T) → P t → Q t) → IfOk answer P → IfOk answer Q
if_ok (Ok t) P Q follows p = follows t p
if_ok (Err error) P Q follows p = tt

pub if_ok_both : {T E : Type 0} (answer : Result T E) (P Q R : T → Type 0) → ((t : T) → P t → Q t → R t) → IfOk answer P → IfOk answer Q → IfOk answer R
if_ok_both (Ok t) P Q R follows p q = follows t p q
if_ok_both (Err error) P Q R follows p q = tt

pub if_err : {T E : Type 0} (answer : Result T E) (P Q : E → Type 0) → ((error : E) → P error → Q error) → IfErr answer P → IfErr answer Q
if_err (Ok t) P Q follows p = tt
if_err (Err error) P Q follows p = follows error p
