-- What one attempt gives.
use Rattle.std.proofs.Common.{◌≡◌, ℕ, ◌≤◌, Some, List, ap, sym, ◌∙◌, subst, arith}
use Rattle.std.specs.Option.{option_map}
use Rattle.op_layout.specs.declared.layout.Layout.{Layout}
use Rattle.op_rv.specs.declared.objects.Objects.{Objects}
use Rattle.op_rv.specs.declared.objects.ObjectRoutine.{ObjectRoutine}
use Rattle.op_link.specs.declared.addresses.Addresses.{Addresses}
use Rattle.op_link.specs.declared.memory_map.Settings.{Settings}
use Rattle.op_link.specs.declared.memory_map.Sizes.{Sizes}
use Rattle.op_link.specs.declared.place.Placement.{Placement}
use Rattle.op_link.specs.declared.place.RoutinePlace.{RoutinePlace}
use Rattle.op_link.specs.Placing.{placement_by}
use Rattle.op_link.specs.Linking.{sizes_of, addresses_of, image_bytes, program_code, image_by}
use Rattle.op_link.proofs.Growth.{code_end}

pub placement_end : (known : List RoutinePlace) (routines : List ObjectRoutine) (placement : Placement) → placement ≡ placement_by known routines → 0x00010000 ≤ placement.end
placement_end known routines placement is =
    subst (λ (placement : Placement). 0x00010000 ≤ placement.end) (sym is) (let end = (code_end known routines).least in omega (arith, end))

pub image_found : (known : List RoutinePlace) (layout : Layout) (objects : Objects) (settings : Settings) (placement : Placement) (sizes : Sizes) (addresses : Addresses) (image : List ℕ) → placement ≡ placement_by known objects.routines → sizes ≡ sizes_of placement.end layout objects → addresses ≡ addresses_of known placement.routines sizes objects → option_map (image_bytes layout objects settings sizes addresses.routines) (program_code layout addresses settings objects) ≡ Some image → Some image ≡ image_by known layout objects settings
unfolding image_by addresses_of
image_found known layout objects settings placement sizes addresses image is_placement is_sizes is_addresses is =
    sym is
    ∙ ap (λ (addresses : Addresses). option_map (image_bytes layout objects settings sizes addresses.routines) (program_code layout addresses settings objects)) is_addresses
    ∙ ap (λ (sizes : Sizes). option_map (image_bytes layout objects settings sizes placement.routines) (program_code layout (addresses_of known placement.routines sizes objects) settings objects)) is_sizes
    ∙ ap (λ (placement : Placement). option_map (image_bytes layout objects settings (sizes_of placement.end layout objects) placement.routines) (program_code layout (addresses_of known placement.routines (sizes_of placement.end layout objects) objects) settings objects)) is_placement
