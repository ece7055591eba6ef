-- Which temporaries of record and array types an instruction names: those of a list.
use Rattle.std.specs.Prelude.{◌≡◌, ℕ, true, List}
use Rattle.std.specs.List.{list_any}
use Rattle.op_places.specs.Homes.{is_one_root}
use Rattle.op_frames.specs.Made.{Every}
use Rattle.op_meaning.specs.Actions.{Action, constant, load, store, copy, look, begin_with, pick, arithmetic, compare, negate, complement, invert, absolute, odd, upper, low_bits, check, neighbour, single, span, combine, contains, check_set, primitive}
use Rattle.op_meaning.specs.Items.{Given, by_value, by_place, by_copy, Receiver, nowhere, to_temp, to_place}
use Rattle.op_meaning.specs.Paths.{Root, in_global, in_local, through, in_temporary}
use Rattle.op_mir.specs.Code.{Instr, do_act, do_call, jump, when, unless, switch, dispatch, make_due, open_temporaries, end_temporary, stop, ret}
use Rattle.op_mir.specs.declared.path.Root.{Root as ManagedRoot}
use Rattle.op_mir.specs.declared.path.Root.TheVariants.{Temporary}

abbrev pub IsWholeIn : List ManagedRoot → Root → Type 0
IsWholeIn wholes (in_temporary of n) = list_any (is_one_root (Temporary of n)) wholes ≡ true
IsWholeIn wholes (in_global v) = Unit {0}
IsWholeIn wholes (in_local v) = Unit {0}
IsWholeIn wholes (through v) = Unit {0}

abbrev pub ActionIn : List ManagedRoot → Action → Type 0
ActionIn wholes (constant to n) = Unit {0}
ActionIn wholes (load to kind from) = IsWholeIn wholes from.root
ActionIn wholes (store to kind from) = IsWholeIn wholes to.root
ActionIn wholes (copy of to from) = IsWholeIn wholes to.root × IsWholeIn wholes from.root
ActionIn wholes (look at) = IsWholeIn wholes at.root
ActionIn wholes (begin_with v of value) = Unit {0}
ActionIn wholes (pick to text index) = Unit {0}
ActionIn wholes (arithmetic o checked to a b) = Unit {0}
ActionIn wholes (compare o to a b) = Unit {0}
ActionIn wholes (negate checked to a) = Unit {0}
ActionIn wholes (complement to a) = Unit {0}
ActionIn wholes (invert to a) = Unit {0}
ActionIn wholes (absolute checked to a) = Unit {0}
ActionIn wholes (odd to a) = Unit {0}
ActionIn wholes (upper to a) = Unit {0}
ActionIn wholes (low_bits kind to a) = Unit {0}
ActionIn wholes (check low high to a) = Unit {0}
ActionIn wholes (neighbour distance low high to a) = Unit {0}
ActionIn wholes (single to a) = Unit {0}
ActionIn wholes (span to a b) = Unit {0}
ActionIn wholes (combine o to a b) = Unit {0}
ActionIn wholes (contains to a b) = Unit {0}
ActionIn wholes (check_set all to a) = Unit {0}
ActionIn wholes (primitive p operands to) = Unit {0}

abbrev pub GivenIn : List ManagedRoot → Given → Type 0
GivenIn wholes (by_place p) = IsWholeIn wholes p.root
GivenIn wholes (by_copy of p) = IsWholeIn wholes p.root
GivenIn wholes (by_value kind t) = Unit {0}

abbrev pub ReceiverIn : List ManagedRoot → Receiver → Type 0
ReceiverIn wholes (to_place of p) = IsWholeIn wholes p.root
ReceiverIn wholes nowhere = Unit {0}
ReceiverIn wholes (to_temp t) = Unit {0}

-- temporaries that end have no low code yet that comes to them
abbrev pub AreWholesIn : List ManagedRoot → Instr → Type 0
AreWholesIn wholes (do_act a landing) = ActionIn wholes a
AreWholesIn wholes (do_call r given receiver landing) = Every (GivenIn wholes) given × ReceiverIn wholes receiver
AreWholesIn wholes (jump k) = Unit {0}
AreWholesIn wholes (when t k) = Unit {0}
AreWholesIn wholes (unless t k) = Unit {0}
AreWholesIn wholes (switch t arms) = Unit {0}
AreWholesIn wholes (dispatch t k) = Unit {0}
AreWholesIn wholes (make_due f) = Unit {0}
AreWholesIn wholes (open_temporaries ts) = Unit {0}
AreWholesIn wholes (end_temporary t) = Unit {0}
AreWholesIn wholes (stop t) = Unit {0}
AreWholesIn wholes ret = Unit {0}
