-- Lists of temporaries: each has its own ones, and those that are in a list of two parts are in both.
use Rattle.std.proofs.Common.{List, [], ◌∷◌, ◌++◌}
use Rattle.std.proofs.lemmas.Bool.{or_left, or_right}
use Rattle.std.specs.List.{list_any}
use Rattle.op_places.proofs.RoomLemmas.{one_with_itself}
use Rattle.op_places.specs.Homes.{is_one_root}
use Rattle.op_frames.specs.Made.{Every}
use Rattle.op_frames.specs.Wholes.{IsWholeIn}
use Rattle.op_mir.specs.View.{view_root}
use Rattle.op_mir.specs.declared.path.Root.{Root}
use Rattle.op_mir.specs.declared.path.Root.TheVariants.{Global, Local, Through, Temporary}

-- a list has the temporary
abbrev pub IsListed : List Root → Root → Type 0
IsListed wholes root = IsWholeIn wholes (view_root root)

first_listed : (x : Root) (rs : List Root) → IsListed (x ∷ rs) x
first_listed (Temporary of n) rs = or_left (is_one_root (Temporary of n) (Temporary of n)) (list_any (is_one_root (Temporary of n)) rs) (one_with_itself of n)
first_listed (Global v) rs = tt
first_listed (Local v) rs = tt
first_listed (Through v) rs = tt

listed_behind : (x r : Root) (rs : List Root) → IsListed rs r → IsListed (x ∷ rs) r
listed_behind x (Temporary of n) rs h = or_right (is_one_root (Temporary of n) x) (list_any (is_one_root (Temporary of n)) rs) h
listed_behind x (Global v) rs h = tt
listed_behind x (Local v) rs h = tt
listed_behind x (Through v) rs h = tt

all_behind : (x : Root) (wholes rs : List Root) → Every (IsListed wholes) rs → Every (IsListed (x ∷ wholes)) rs
all_behind x wholes [] h = tt
all_behind x wholes (r ∷ rs) h = (listed_behind x r wholes h.0, all_behind x wholes rs h.1)

pub all_listed : (rs : List Root) → Every (IsListed rs) rs
all_listed [] = tt
all_listed (x ∷ rs) = (first_listed x rs, all_behind x rs rs (all_listed rs))

-- it has all of these
abbrev pub AreListed : List Root → List Root → Type 0
AreListed wholes roots = Every (IsListed wholes) roots

-- ---- lists that are joined

pub front_listed : (wholes xs ys : List Root) → AreListed wholes (xs ++ ys) → AreListed wholes xs
front_listed wholes [] ys h = tt
front_listed wholes (x ∷ xs) ys h = (h.0, front_listed wholes xs ys h.1)

pub back_listed : (wholes xs ys : List Root) → AreListed wholes (xs ++ ys) → AreListed wholes ys
back_listed wholes [] ys h = h
back_listed wholes (x ∷ xs) ys h = back_listed wholes xs ys h.1
