-- The order in which the interface parts of units are declared: each behind those that it uses, so that it sees what these declare. It is that
-- of a depth-first walk over the uses of interface parts alone, which begins at the units in their order.
use Rattle.std.specs.Prelude.{ℕ, suc, zero, ◌+◌, nat_eq, List, [], ◌∷◌, ◌++◌, length, slice_get, Option, Some, None, if◌then◌else◌}
use Rattle.std.specs.List.{list_any}
use Rattle.std.specs.Option.{option_and_then}
use Rattle.std.specs.Str.{str_eq_ignore_ascii_case}
use Rattle.op_tree.specs.File.{File, UnitFile, program, unit}
use Rattle.op_tree.specs.declared.position.Name.{Name}

-- ---- units by their numbers, which are their places in the order of units

-- the first unit of this name
abbrev pub unit_named : List File → List ℕ → Option UnitFile
unit_named [] name = None
unit_named (program p ∷ fs) name = unit_named fs name
unit_named (unit u ∷ fs) name = if str_eq_ignore_ascii_case u.name.text name then Some u else unit_named fs name

abbrev pub unit_at : List (List ℕ) → List File → ℕ → Option UnitFile
unit_at order fs k = option_and_then (unit_named fs) (slice_get order k)

-- the number of the first unit of this name, where these are numbered from k on
abbrev pub number_from : ℕ → List (List ℕ) → List ℕ → Option ℕ
number_from k [] name = None
number_from k (n ∷ ns) name = if str_eq_ignore_ascii_case n name then Some k else number_from (k + 1) ns name

-- ---- the walk

abbrev pub interface_uses : Option UnitFile → List Name
interface_uses None = []
interface_uses (Some u) = u.interface.uses

-- a visit gives the numbers so far and those that it reaches
abbrev Visit : Type 0
Visit = ℕ → List ℕ → List ℕ

abbrev pub visited_by : Visit → Option ℕ → List ℕ → List ℕ
visited_by visit None so_far = so_far
visited_by visit (Some k) so_far = visit k so_far

-- the units of these names, one behind the other
abbrev pub all_visited : Visit → List (List ℕ) → List Name → List ℕ → List ℕ
all_visited visit order [] so_far = so_far
all_visited visit order (n ∷ ns) so_far = all_visited visit order ns (visited_by visit (number_from 0 order n.text) so_far)

-- a unit behind those that it uses, unless it was reached; so many steps deep at most
abbrev pub visited : ℕ → List (List ℕ) → List File → Visit
visited zero order fs k so_far = so_far
visited (suc depth) order fs k so_far =
    if list_any (λ j. nat_eq j k) so_far then so_far else all_visited (visited depth order fs) order (interface_uses (unit_at order fs k)) so_far ++ k ∷ []

-- these units, numbered from k on
abbrev pub visited_from : Visit → ℕ → List (List ℕ) → List ℕ → List ℕ
visited_from visit k [] so_far = so_far
visited_from visit k (n ∷ ns) so_far = visited_from visit (k + 1) ns (visit k so_far)

-- no way is deeper than there are units
abbrev pub interface_order : List (List ℕ) → List File → List ℕ
interface_order order fs = visited_from (visited (length order) order fs) 0 order []
