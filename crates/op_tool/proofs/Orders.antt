-- A program has at most a thousand units.
use Rattle.std.proofs.Common.{◌≡◌, ◌≤◌, ◌+◌, ℕ, List, [], ◌∷◌, Option, Some, length, ap, ◌∙◌, arith}
use Rattle.std.proofs.lemmas.List.{length-append}
use Rattle.op_base.specs.declared.files.NamedFile.{NamedFile}
use Rattle.op_base.specs.declared.place.Place.{Place}
use Rattle.op_units.specs.Walk.{Ends, GivesForest, Visits, Walked, Walks, breaks, breaks_within, goes, is_cycle, is_done, passes, placed, refused, visits, walked, with_unit}
use Rattle.op_units.specs.declared.forest.Forest.{Forest}
use Rattle.op_units.specs.declared.uses.Use.{Use}

-- units were read and placed, not more of them placed than read
record Goes (w n : Walked) : Type 0 where
  placed_less : length n.order + length w.units ≤ length n.units + length w.order
  few : length n.units ≤ 1000

-- what is so of a walk that comes to its end
abbrev GoesTo : Walked → Ends → Type 0
GoesTo w (walked n) = length w.units ≤ 1000 → Goes w n
GoesTo w (refused refusal file) = Unit {0}

one_more : (units : List (List ℕ)) (unit : List ℕ) → length (with_unit (Some unit) units) ≡ length units + 1
one_more units unit = length-append units (unit ∷ [])

-- a unit that is visited was read, and is placed behind what it uses
joined : (w m n : Walked) (unit : List ℕ) (end : Ends) → length m.units ≡ length w.units + 1 → m.order ≡ w.order → Goes m n → GoesTo (placed n (Some unit)) end → GoesTo w end
joined w m n unit (walked e) units order inner rest = λ few.
    let r = rest inner.few in
    let behind = r.placed_less in
    let before = inner.placed_less in
    let more = one_more n.order unit in
    let same = ap length order in
    record { placed_less = omega (arith, behind, before, more, same, units); few = r.few }
joined w m n unit (refused refusal file) units order inner rest = tt

goes_on : {stored : Option (List NamedFile)} {folder file : List ℕ} {closing : Option Place} {w : Walked} {uses : List Use} {end : Ends} → Visits stored folder file closing w uses end → GoesTo w end
goes_on is_done = λ few. record { placed_less = omega arith; few = few }
goes_on is_cycle = tt
goes_on (passes known rest) = goes_on rest
goes_on (breaks rule) = tt
goes_on (breaks_within opens inner) = tt
goes_on {w} {end} (visits {m} {n} {used} opens inner rest) =
    let units = ap (λ m. length m.units) opens.enters.new_is ∙ one_more w.units used.name in
    let order = ap (λ m. m.order) opens.enters.new_is in
    let less = opens.fits in
    joined w m n used.name end units order (goes_on inner (omega (arith, less, units))) (goes_on rest)

walked_few : (w all : Walked) → length w.units ≡ 0 → length w.order ≡ 0 → GoesTo w (walked all) → length all.order ≤ 1000
walked_few w all units order so =
    let g = so (omega (arith, units)) in
    let less = g.placed_less in
    let few = g.few in
    omega (arith, less, few, order)

few_walked : {stored : Option (List NamedFile)} {main : List ℕ} {all : Walked} → Walks stored main (walked all) → length all.order ≤ 1000
few_walked {all} (goes {w} has folder enters rest) =
    walked_few w all (ap (λ w. length w.units) enters.new_is) (ap (λ w. length w.order) enters.new_is) (goes_on rest)

pub few_units : (stored : Option (List NamedFile)) (main : List ℕ) (forest : Forest) → GivesForest stored main forest → length forest.order ≤ 1023
few_units stored main forest gives =
    let few = few_walked gives.walks in
    let same = ap length gives.is_forest.order in
    omega (arith, few, same)
