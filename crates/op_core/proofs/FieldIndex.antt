-- The index of the fields of records.
use Rattle.std.proofs.Common.{◌≡◌, ℕ, zero, suc, ◌+◌, ◌<◌, ◌≤◌, Bool, true, false, cond, List, [], ◌∷◌, ◌++◌, length, get_or, take, drop, nat_eq, position, Some, Vec, refl, sym, ap, ap₂, subst, ◌∙◌, add-one, arith, length-append, drop-cons, drop_of_length-le}
use Rattle.std.proofs.lemmas.Bool.{eqb-true}
use Rattle.std.proofs.lemmas.Iterator.Adapters.{position_from-zero}
use Rattle.std.proofs.lemmas.List.{take-append-le}
use Rattle.std.specs.List.{position_from}
use Rattle.std.specs.Map.{lookup}
use Rattle.std.specs.Str.{bytes_eq}
use Rattle.std.specs.declared.alloc.Global.{Global}
use Rattle.indexmap.specs.IndexMap.{IndexMap, IsEmpty, IsUnchanged, Updates, get}
use Rattle.op_core.specs.FieldNames.{AreFound, Finds, is_named, is_spelled, lower}
use Rattle.op_core.specs.Rows.{rows}
use Rattle.op_core.specs.declared.fields.RecordNames.{RecordNames}
use Rattle.op_core.specs.declared.ids.Run.{Run}
use Rattle.op_core.specs.declared.types.Field.{Field}

-- ---- the names of one record

abbrev same : Vec ℕ Global → Vec ℕ Global → Bool
same a b = bytes_eq a.items b.items

-- each name in small letters has the position of the first of these fields that has it, counted from the position of the first field
abbrev pub FindsFrom : {S : Type 0} → ℕ → List Field → IndexMap (Vec ℕ Global) ℕ S → Type 0
FindsFrom first fields positions = (key : Vec ℕ Global) → get (λ a b. bytes_eq a.items b.items) positions key ≡ position_from (is_spelled key.items) first fields

pub nothing_found : {S : Type 0} (fs : List Field) (n : ℕ) (positions : IndexMap (Vec ℕ Global) ℕ S) → n ≡ length fs → IsEmpty positions → FindsFrom n (drop n fs) positions
nothing_found fs n positions at none key =
    ap (λ (es : List (Vec ℕ Global × ℕ)). lookup (same key) es) none
    ∙ sym (ap (position_from (is_spelled key.items) n) (drop_of_length-le fs {i = n} (omega arith)))

next_of : (fs : List Field) (k : ℕ) (f : Field) → k < length fs → f ≡ get_or fs k f → drop k fs ≡ f ∷ drop (k + 1) fs
next_of fs k f low is = rw add-one (drop-cons fs k f low) ∙ ap (λ x. x ∷ drop (k + 1) fs) (sym is)

pub one_found : {S : Type 0} (fs : List Field) (k n : ℕ) (f : Field) (old new : IndexMap (Vec ℕ Global) ℕ S) (key : Vec ℕ Global) → n ≡ k + 1 → k < length fs → f ≡ get_or fs k f → key.items ≡ lower f.name.text → Updates same old new key (Some k) → FindsFrom n (drop n fs) old → FindsFrom k (drop k fs) new
one_found fs k n f old new key at low is spelled u h q =
    u.0 q
    ∙ ap₂ (λ letters o. cond (bytes_eq letters q.items) (Some k) o) spelled (subst (λ n. get same old q ≡ position_from (is_spelled q.items) n (drop n fs)) at (h q))
    ∙ ap (position_from (is_spelled q.items) k) (sym (next_of fs k f low is))

pub all_found : {S : Type 0} (fs : List Field) (n : ℕ) (positions : IndexMap (Vec ℕ Global) ℕ S) → n ≤ 0 → FindsFrom n (drop n fs) positions → Finds fs positions
all_found fs zero positions low h key = h key ∙ sym (position_from-zero (is_spelled key.items) fs)
all_found fs (suc n) positions low h key = absurd (omega arith)

-- ---- the records

pub none_yet : {S : Type 0} (records : IndexMap ℕ RecordNames S) → IsEmpty records → AreFound [] records
none_yet records none = record { found = λ first names h. let e = sym (ap (λ (es : List (ℕ × RecordNames)). lookup (nat_eq first) es) none) ∙ h in absurd (cc) }

-- ---- a record more

in_front : (fs more : List Field) (first count : ℕ) → first + count ≤ length fs → take count (drop first (fs ++ more)) ≡ take count (drop first fs)
in_front fs more zero count low = take-append-le count fs more (omega arith)
in_front [] more (suc first) count low = absurd (omega arith)
in_front (f ∷ fs) more (suc first) count low = in_front fs more first count (omega arith)

pub still_found : {S : Type 0} (fs more : List Field) (records : IndexMap ℕ RecordNames S) → AreFound fs records → AreFound (fs ++ more) records
still_found fs more records a = record {
  found = λ first names h.
      let g = a.found first names h in
      let low : first + names.count ≤ length fs = g.0 in
      (omega (arith, length-append fs more, low), subst (λ (xs : List Field). Finds xs names.positions) (sym (in_front fs more first names.count low)) g.1);
}

pub unchanged_found : {S : Type 0} (fs : List Field) (old new : IndexMap ℕ RecordNames S) → IsUnchanged old new → AreFound fs old → AreFound fs new
unchanged_found fs old new still a = record { found = λ first names h. a.found first names (sym (ap (λ (es : List (ℕ × RecordNames)). lookup (nat_eq first) es) still) ∙ h) }

whole : (fs : List Field) → take (length fs) fs ≡ fs
whole [] = refl
whole (f ∷ fs) = ap (λ xs. f ∷ xs) (whole fs)

behind : (fs more : List Field) → take (length more) (drop (length fs) (fs ++ more)) ≡ more
behind [] more = whole more
behind (f ∷ fs) more = behind fs more

-- what the names of a record have to be, by the number of its first field
abbrev AreNames : List Field → ℕ → RecordNames → Type 0
AreNames fs first names = (first + names.count ≤ length fs) × Finds (take names.count (drop first fs)) names.positions

pub record_found : {S : Type 0} (fs more : List Field) (old new : IndexMap ℕ RecordNames S) (names : RecordNames) (first : ℕ) → first ≡ length fs → names.count ≡ length more → Finds more names.positions → Updates nat_eq old new first (Some names) → AreFound fs old → AreFound (fs ++ more) new
record_found fs more old new names first at many finds u a = record { found = λ k other h. by k other (nat_eq first k) refl (sym (u.0 k) ∙ h) }
  where
    parts : take names.count (drop first (fs ++ more)) ≡ more
    parts = ap₂ (λ n k. take n (drop k (fs ++ more))) many at ∙ behind fs more

    own : AreNames (fs ++ more) first names
    own = (omega (arith, length-append fs more, at, many), subst (λ (xs : List Field). Finds xs names.positions) (sym parts) finds)

    by : (k : ℕ) (other : RecordNames) (c : Bool) → nat_eq first k ≡ c → cond c (Some names) (get nat_eq old k) ≡ Some other → AreNames (fs ++ more) k other
    by k other true e h =
        let one : names ≡ other = cc in
        subst (λ (other : RecordNames). AreNames (fs ++ more) k other) one (subst (λ (k : ℕ). AreNames (fs ++ more) k names) (eqb-true first k e) own)
    by k other false e h = (still_found fs more old a).found k other h

-- ---- looking up

pub looked_up : {S : Type 0} (fs view : List Field) (records : IndexMap ℕ RecordNames S) (run : Run) (name : List ℕ) (names : RecordNames) (key : Vec ℕ Global) → AreFound fs records → get nat_eq records run.first ≡ Some names → names.count ≡ run.count → key.items ≡ lower name → fs ≡ view → get same names.positions key ≡ position (is_named name) (rows view run)
looked_up fs view records run name names key a at many spelled is =
    (a.found run.first names at).1 key
    ∙ ap₂ (λ letters n. position (is_spelled letters) (take n (drop run.first fs))) spelled many
    ∙ ap (λ fs. position (is_spelled (lower name)) (rows fs run)) is
