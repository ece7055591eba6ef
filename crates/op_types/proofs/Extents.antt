-- The extents that are kept stay right when rows come behind others.
use Rattle.std.proofs.Common.{◌≡◌, false, ℕ, zero, suc, ◌+◌, ◌<◌, ◌≤◌, List, [], ◌∷◌, ◌++◌, length, map, slice_get, Some, None, refl, sym, ap, subst, ◌∙◌, arith, length-append}
use Rattle.std.proofs.lemmas.Option.{slice_get_within}
use Rattle.std.specs.List.{All, AllByRecursion, fold}
use Rattle.std.specs.Prelude.{unwrap_or}
use Rattle.op_base.proofs.Lists.{slice_get-front}
use Rattle.op_core.specs.Rows.{rows}
use Rattle.op_core.specs.Sizes.{IsBehind, KeepsExtents, extended, extent_by, extent_of, in_order, is_com, plain, range_of, rounded, times, type_at, values_of}
use Rattle.op_core.specs.declared.class.Interface.{Interface as Face}
use Rattle.op_core.specs.declared.ids.TypeId.{TypeId}
use Rattle.op_core.specs.declared.program.Core.{Core}
use Rattle.op_core.specs.declared.types.CoreType.{CoreType}
use Rattle.op_core.specs.declared.types.CoreType.TheVariants.{Integer, Boolean, Char, String, Enumeration, Subrange, Set, Record, Array, DynamicArray, OpenArray, Class, Interface, Nil, EmptySet, Nothing, Broken}
use Rattle.op_core.specs.declared.types.Extent.{Extent}
use Rattle.op_core.specs.declared.types.Field.{Field}
use Rattle.op_types.specs.Entering.{entered, rows_of, sets_of, with_type, with_types}
use Rattle.op_types.specs.declared.enter.Sets.{Sets}
use Rattle.op_types.specs.declared.enter.Sets.TheVariants.{None as None', OfAll, OfFirst}

-- ---- rows behind others

pub seam : {A : Type 0} (xs : List A) (y : A) (n : ℕ) → n ≡ length xs → slice_get (xs ++ y ∷ []) n ≡ Some y
seam [] y zero h = refl
seam [] y (suc n) h = absurd (omega (arith, h))
seam (x ∷ xs) y zero h = absurd (omega (arith, h))
seam (x ∷ xs) y (suc n) h = seam xs y n (omega (arith, h))

-- a row of a list with one more is one of the list, or the last one
pub data Row {A : Type 0} (xs : List A) (y : A) (n : ℕ) (z : A) : Type 0 where
  old : slice_get xs n ≡ Some z → Row xs y n z
  last : n ≡ length xs → y ≡ z → Row xs y n z

pub row : {A : Type 0} (xs : List A) (y : A) (n : ℕ) (z : A) → slice_get (xs ++ y ∷ []) n ≡ Some z → Row xs y n z
row [] y zero z h = last refl (cc)
row [] y (suc n) z h = absurd (cc)
row (x ∷ xs) y zero z h = old h
row (x ∷ xs) y (suc n) z h = further (row xs y n z h)
  where
    further : Row xs y n z → Row (x ∷ xs) y (suc n) z
    further (old e) = old e
    further (last e f) = last (ap suc e) f

-- ---- extents

same_parts : (f g : TypeId → Extent) (n : ℕ) (xs : List Field) → ((of : TypeId) → of.0 < n → f of ≡ g of) → All (λ x. x.of.0 < n) xs → map (λ x. f x.of) xs ≡ map (λ x. g x.of) xs
same_parts f g n [] e h = refl
same_parts f g n (x ∷ xs) e h = (λ i. e x.of (h 0 x (omega arith)) i ∷ same_parts f g n xs e (λ k d l. h (suc k) d (omega (arith, l))) i)

-- a type whose parts stand in front of n has the same extent where what stands in front of n is the same
same_extent : (core more : Core) (n : ℕ) (t : CoreType) → more.fields ≡ core.fields → more.interfaces ≡ core.interfaces → ((of : TypeId) → of.0 < n → extent_of core of ≡ extent_of more of) → ((of : TypeId) → of.0 < n → type_at core of ≡ type_at more of) → IsBehind core.fields core.interfaces n t → extent_by (extent_of core) core (Some t) ≡ extent_by (extent_of more) more (Some t)
same_extent core more n (Integer kind) f i e s b = refl
same_extent core more n Boolean f i e s b = refl
same_extent core more n Char f i e s b = refl
same_extent core more n String f i e s b = refl
same_extent core more n (Enumeration values) f i e s b = refl
same_extent core more n (Subrange base low high) f i e s b = refl
same_extent core more n (Set base) f i e s b = refl
same_extent core more n (Record run) f i e s b =
    ap (λ es. rounded (fold extended (record { size = 0; alignment = 1; managed = false }) es)) (same_parts (extent_of core) (extent_of more) n (rows core.fields run) e b.1)
    ∙ ap (λ fs. in_order (extent_of more) (rows fs run)) (sym f)
same_extent core more n (Array index element) f i e s b = (λ j. times (values_of (range_of (s index b.0 j))) (e element b.1 j))
same_extent core more n (DynamicArray element) f i e s b = refl
same_extent core more n (OpenArray element) f i e s b = refl
same_extent core more n (Class c) f i e s b = refl
same_extent core more n (Interface id) f i e s b = ap (λ xs. plain 4 (is_com (slice_get xs id.0))) (sym i)
same_extent core more n Nil f i e s b = refl
same_extent core more n EmptySet f i e s b = refl
same_extent core more n Nothing f i e s b = refl
same_extent core more n Broken f i e s b = refl

abbrev pub IsAlone : CoreType → Type 0
IsAlone t = (fields : List Field) (faces : List Face) (n : ℕ) → IsBehind fields faces n t

pub keeps : (core : Core) (t : CoreType) → KeepsExtents core → IsBehind core.fields core.interfaces (length core.types) t → KeepsExtents (with_type core t)
keeps core t k b = record {
  count = length-append core.extents _ ∙ ap (λ n. n + 1) k.count ∙ sym (length-append core.types (t ∷ []));
  behind = λ n u h. behind n u (row core.types t n u h);
  each = λ n u h. each n u (row core.types t n u h);
}
  where
    e : Extent
    e = extent_by (extent_of core) core (Some t)

    still : (n : ℕ) (u : CoreType) → n ≤ length core.types → IsBehind core.fields core.interfaces n u → extent_by (extent_of core) core (Some u) ≡ extent_by (extent_of (with_type core t)) (with_type core t) (Some u)
    still n u h c = same_extent core (with_type core t) n u refl refl
        (λ of l. ap (λ x. unwrap_or x (plain 4 false)) (sym (slice_get-front core.extents (e ∷ []) of.0 (omega (arith, k.count, h, l)))))
        (λ of l. sym (slice_get-front core.types (t ∷ []) of.0 (omega (arith, h, l)))) c

    behind : (n : ℕ) (u : CoreType) → Row core.types t n u → IsBehind core.fields core.interfaces n u
    behind n u (old h) = k.behind n u h
    behind n u (last h f) = subst (IsBehind core.fields core.interfaces n) f (subst (λ n. IsBehind core.fields core.interfaces n t) (sym h) b)

    each : (n : ℕ) (u : CoreType) → Row core.types t n u → slice_get (core.extents ++ e ∷ []) n ≡ Some (extent_by (extent_of (with_type core t)) (with_type core t) (Some u))
    each n u (old h) =
        let l : n < length core.types = slice_get_within core.types n u h in
        slice_get-front core.extents (e ∷ []) n (omega (arith, k.count, l))
        ∙ k.each n u h
        ∙ ap Some (still n u (omega (arith, l)) (k.behind n u h))
    each n u (last h f) =
        seam core.extents e n (h ∙ sym k.count)
        ∙ ap Some (still (length core.types) t (omega arith) b)
        ∙ ap (λ u. Some (extent_by (extent_of (with_type core t)) (with_type core t) (Some u))) f

-- what stands behind a type is made of no others
pub keeps_all : (core : Core) (ts : List CoreType) → AllByRecursion IsAlone ts → KeepsExtents core → KeepsExtents (with_types core ts)
keeps_all core [] h k = k
keeps_all core (t ∷ ts) h k = keeps_all (with_type core t) ts h.1 (keeps core t k (h.0 core.fields core.interfaces (length core.types)))

pub alone : (n : ℕ) (s : Sets) → AllByRecursion IsAlone (rows_of n s)
alone n None' = tt
alone n OfAll = (λ fs is n. tt, tt)
alone n OfFirst = (λ fs is n. tt, (λ fs is n. tt, tt))

-- a type and what stands behind it
pub entered_keeps : (core : Core) (t : CoreType) → KeepsExtents core → IsBehind core.fields core.interfaces (length core.types) t → KeepsExtents (entered core t)
unfolding entered
entered_keeps core t k b = keeps_all (with_type core t) (rows_of (length core.types) (sets_of t)) (alone (length core.types) (sets_of t)) (keeps core t k b)

-- ---- beginning

-- a core without types
pub kept_of_none : (core : Core) → core ≡ record { types = []; extents = []; fields = []; classes = []; interfaces = []; listed = []; methods = []; properties = []; routines = []; parameters = []; variables = []; globals = []; units = []; exceptions = None } → KeepsExtents core
kept_of_none core e = subst KeepsExtents (sym e) (record { count = refl; behind = λ n t h. absurd (cc); each = λ n t h. absurd (cc) })
