-- The walk over units has one outcome.
use Rattle.std.proofs.Common.{◌≡◌, ℕ, ◌+◌, ◌-◌, ◌<◌, ◌≤◌, Bool, true, false, ◌||◌, List, [], ◌∷◌, ◌++◌, Option, Some, None, append_assoc, codes, length, map, nat_eq, arith, refl, sym, ap, subst, ◌∙◌, ◌⊎◌, inl, inr, IsSome, IsSomeAnd}
use Rattle.std.proofs.lemmas.Bool.{false≢true}
use Rattle.std.proofs.lemmas.List.{length-map}
use Rattle.std.specs.List.{list_any}
use Rattle.op_base.specs.FileAnswer.{file_named}
use Rattle.op_base.specs.declared.files.NamedFile.{NamedFile}
use Rattle.op_base.specs.declared.place.Place.{Place}
use Rattle.op_base.specs.declared.rule.Refusal.{Refusal}
use Rattle.op_core.specs.Faults.{broken}
use Rattle.op_tree.specs.File.{File, file_of}
use Rattle.op_tree.specs.declared.file.Tree.{Tree}
use Rattle.op_units.proofs.Names.{same_by}
use Rattle.op_units.proofs.OneText.{one_fault, one_tree, same_implementation, same_interface, whole_file}
use Rattle.op_units.specs.Names.{file_of_unit, is_among, implementation_uses, interface_uses, is_built_in, is_system, is_sysutils, IsFolder, name_of}
use Rattle.op_units.specs.OneWalk.{SameEnd, SameRefusal, Seen, seen}
use Rattle.op_units.specs.Walk.{AreOpen, AreVisited, Ends, Enters, FileBreaks, Has, IsFile, IsMissing, IsNew, IsPassed, IsThere, IsTooLarge, Lead, Opens, UseBreaks, Visits, Walked, Walks, are_all, are_front, breaks, breaks_within, goes, is_cycle, is_done, is_known, is_missing, is_too_large, is_too_many, is_unbuilt, main_breaks, main_is_missing, main_is_too_large, nothing_read, passes, path, placed, refused, room, start_of, unit_name, visits, walked, with_file, with_interface, with_unit}
use Rattle.op_units.specs.declared.uses.Use.{Use}

none_some : {A : Type 0} {x : A} → None ≡ Some x → ⊥
none_some e = cc

same_some : {A : Type 0} {x y : A} → Some x ≡ Some y → x ≡ y
same_some e = cc

heads : {A : Type 0} {x y : A} {xs ys : List A} → x ∷ xs ≡ y ∷ ys → (x ≡ y) × (xs ≡ ys)
heads e = (cc, cc)

-- ---- the uses that are visited

files_with : (ts : List Tree) (t : Tree) → map file_of (ts ++ t ∷ []) ≡ map file_of ts ++ file_of t ∷ []
files_with [] t = refl
files_with (x ∷ ts) t = ap (λ fs. file_of x ∷ fs) (files_with ts t)

module _ (w v : Walked) (e : seen v ≡ seen w) where
  lead : {a b : List ℕ} → Lead v.units v.interfaces a b → Lead w.units w.interfaces a b
  lead {a = a} {b = b} h = subst (λ s. Lead s.units s.interfaces a b) e h

  -- the first name by which there is a cycle
  one_front : (unit : List ℕ) (xs ys us vs : List Use) (x y : Use) → xs ++ x ∷ us ≡ ys ++ y ∷ vs → AreOpen w unit xs → Lead w.units w.interfaces x.name unit → AreOpen v unit ys → Lead v.units v.interfaces y.name unit → (xs ≡ ys) × (x ≡ y)
  one_front unit [] [] us vs x y same apart leads apart' leads' = (refl, (heads same).0)
  one_front unit [] (z ∷ ys) us vs x y same apart leads apart' leads' = absurd (apart'.0 (subst (λ s. Lead s.units s.interfaces z.name unit) (sym e) (subst (λ u. Lead w.units w.interfaces u.name unit) (heads same).0 leads)))
  one_front unit (z ∷ xs) [] us vs x y same apart leads apart' leads' = absurd (apart.0 (lead (subst (λ u. Lead v.units v.interfaces u.name unit) (sym (heads same).0) leads')))
  one_front unit (z ∷ xs) (t ∷ ys) us vs x y same apart leads apart' leads' =
      let h = heads same in
      let r = one_front unit xs ys us vs x y h.1 apart.1 leads apart'.1 leads' in
      (ap (λ u. u ∷ xs) h.0 ∙ ap (λ us. t ∷ us) r.0, r.1)

  not_open : (unit : List ℕ) (xs us ks : List Use) (x : Use) → ks ≡ xs ++ x ∷ us → AreOpen w unit ks → Lead w.units w.interfaces x.name unit → ⊥
  not_open unit [] us [] x same apart leads = cc
  not_open unit [] us (k ∷ ks) x same apart leads = apart.0 (subst (λ u. Lead w.units w.interfaces u.name unit) (sym (heads same).0) leads)
  not_open unit (z ∷ xs) us [] x same apart leads = cc
  not_open unit (z ∷ xs) us (k ∷ ks) x same apart leads = not_open unit xs us ks x (heads same).1 apart.1 leads

  open_here : (unit : List ℕ) (ks : List Use) → AreOpen v unit ks → AreOpen w unit ks
  open_here unit [] h = tt
  open_here unit (k ∷ ks) h = (λ l. h.0 (subst (λ s. Lead s.units s.interfaces k.name unit) (sym e) l), open_here unit ks h.1)

  one_visited : (unit : List ℕ) (ks js us vs : List Use) (c d : Option Place) → AreVisited w unit ks js us c → AreVisited v unit ks js vs d → (us ≡ vs) × (c ≡ d)
  one_visited unit ks js us vs c d (are_all apart) (are_all apart') = (refl, refl)
  one_visited unit ks js us vs c d (are_all apart) (are_front front rest used same apart' leads) = absurd (not_open unit front rest ks used same apart (lead leads))
  one_visited unit ks js us vs c d (are_front front rest used same apart leads) (are_all apart') = absurd (not_open unit front rest ks used same (open_here unit ks apart') leads)
  one_visited unit ks js us vs c d (are_front xs us' x same apart leads) (are_front ys vs' y same' apart' leads') =
      let r = one_front unit xs ys us' vs' x y (sym same ∙ same') apart leads apart' leads' in (r.0, ap (λ u. Some u.place) r.1)

  -- ---- a file that is read

  number : length v.trees ≡ length w.trees
  number = sym (length-map v.trees file_of) ∙ ap (λ s. length s.files) e ∙ length-map w.trees file_of

  file_here : {n : Option (List ℕ)} {bytes : List ℕ} {t : Tree} → IsFile (length v.trees) n bytes t → IsFile (length w.trees) n bytes t
  file_here {n = n} {bytes = bytes} {t = t} h = subst (λ k. IsFile k n bytes t) number h

  breaks_here : {n : Option (List ℕ)} {bytes : List ℕ} {r : Refusal} → FileBreaks (length v.trees) n bytes r → FileBreaks (length w.trees) n bytes r
  breaks_here {n = n} {bytes = bytes} {r = r} h = subst (λ k. FileBreaks k n bytes r) number h

  known_here : (name : List ℕ) {b : Bool} → is_known v name ≡ b → is_known w name ≡ b
  known_here name {b = b} h = subst (λ s. is_among name s.units ≡ b) e h

  new_here : {name : List ℕ} → IsNew v name → IsNew w name
  new_here {name = name} h = record { unknown = known_here name h.unknown; outside = h.outside }

  fits_here : length v.units < 1000 → length w.units < 1000
  fits_here h = subst (λ s. length s.units < 1000) e h

  many_here : 1000 ≤ length v.units → 1000 ≤ length w.units
  many_here h = subst (λ s. 1000 ≤ length s.units) e h

  has_here : (stored : Option (List NamedFile)) (name bytes : List ℕ) → Has stored name (room v.size) bytes → Has stored name (room w.size) bytes
  has_here stored name bytes h = subst (λ s. Has stored name (room s.size) bytes) e h

  large_here : (stored : Option (List NamedFile)) (name : List ℕ) → IsTooLarge stored name (room v.size) → IsTooLarge stored name (room w.size)
  large_here stored name h = subst (λ s. IsTooLarge stored name (room s.size)) e h

  -- what is read is the same
  seen_with : (file : List ℕ) (n : Option (List ℕ)) (bytes : List ℕ) (t u : Tree) → file_of t ≡ file_of u → seen (with_file w file n bytes t) ≡ seen (with_file v file n bytes u)
  seen_with file n bytes t u f =
      put_is w t ∙ ap (λ s. put s (file_of t) (interface_uses t)) (sym e) ∙ ap (λ x. put (seen v) x (interface_uses t)) f ∙ ap (put (seen v) (file_of u)) (same_interface t u f) ∙ sym (put_is v u)
    where
      put : Seen → File → List Use → Seen
      put s x us = record {
        files = s.files ++ x ∷ [];
        names = s.names ++ file ∷ [];
        units = with_unit n s.units;
        interfaces = with_interface n (map name_of us) s.interfaces;
        order = s.order;
        size = s.size + length bytes;
      }

      put_is : (a : Walked) (x : Tree) → seen (with_file a file n bytes x) ≡ put (seen a) (file_of x) (interface_uses x)
      put_is a x = ap (λ fs. record (seen (with_file a file n bytes x)) { files = fs }) (files_with a.trees x)

  one_entered : (file : List ℕ) (n : Option (List ℕ)) (bytes : List ℕ) (us vs : List Use) (c d : Option Place) (m k : Walked) → Enters w file n bytes us c m → Enters v file n bytes vs d k → (us ≡ vs) × (c ≡ d) × (seen m ≡ seen k)
  one_entered file n bytes us vs c d m k a b =
      let t = a.main in
      let u = b.main in
      let f = one_tree (length w.trees) bytes t u a.is_file.reads (file_here b.is_file).reads in
      let there : AreVisited v (unit_name n) (interface_uses t) (implementation_uses t) vs d = subst (λ i. AreVisited v (unit_name n) i (implementation_uses t) vs d) (sym (same_interface t u f)) (subst (λ j. AreVisited v (unit_name n) (interface_uses u) j vs d) (sym (same_implementation t u f)) b.visited) in
      let same = one_visited (unit_name n) (interface_uses t) (implementation_uses t) us vs c d a.visited there in
      (same.0, same.1, ap seen a.new_is ∙ seen_with file n bytes t u f ∙ sym (ap seen b.new_is))

-- ---- a name in a uses list

or_false : (a b : Bool) → (a || b) ≡ false → b ≡ true → ⊥
or_false true b e f = false≢true (sym e)
or_false false b e f = false≢true (sym e ∙ f)

or_true : (a b : Bool) → (a || b) ≡ false → a ≡ true → ⊥
or_true true b e f = false≢true (sym e)
or_true false b e f = false≢true f

two_names : (name : List ℕ) → is_system name ≡ true → is_sysutils name ≡ true → ⊥
two_names name a b = clash (sym (same_by name (codes "system") a) ∙ same_by name (codes "sysutils") b)
  where
    clash : codes "system" ≡ codes "sysutils" → ⊥
    clash e = let h : 6 ≡ 8 = ap length e in omega (arith, h)

module _ (files : List NamedFile) (folder : List ℕ) where
  not_missing : (name bytes : List ℕ) (most : ℕ) → Has (Some files) name most bytes → IsMissing (Some files) name → ⊥
  not_missing name bytes most h m = none_some (sym m ∙ h.1)

  not_large : (name bytes : List ℕ) (most : ℕ) → Has (Some files) name most bytes → IsTooLarge (Some files) name most → ⊥
  not_large name bytes most h l = over (subst (λ o. IsSomeAnd o (λ bs. most < length bs)) h.1 l)
    where
      over : most < length bytes → ⊥
      over k = omega (arith, k, h.0)

  same_bytes : (name one other : List ℕ) (most least : ℕ) → Has (Some files) name most one → Has (Some files) name least other → one ≡ other
  same_bytes name one other most least h k = same_some (sym h.1 ∙ k.1)

  missing_there : (name : List ℕ) → IsMissing (Some files) name → IsThere (Some files) name → ⊥
  missing_there name m t = nothing (file_named files name) m t
    where
      nothing : (o : Option (List ℕ)) → o ≡ None → IsSome o → ⊥
      nothing None e h = false≢true h
      nothing (Some x) e h = none_some (sym e)

  missing_large : (name : List ℕ) (most : ℕ) → IsMissing (Some files) name → IsTooLarge (Some files) name most → ⊥
  missing_large name most m l = nothing (file_named files name) m l
    where
      nothing : (o : Option (List ℕ)) → o ≡ None → IsSomeAnd o (λ bs. most < length bs) → ⊥
      nothing None e h = absurd h
      nothing (Some x) e h = none_some (sym e)

  many_few : (n : ℕ) → 1000 ≤ n → n < 1000 → ⊥
  many_few n h k = omega (arith, h, k)

  moved_use : (w v : Walked) → seen v ≡ seen w → (file : List ℕ) (used : Use) (r : Refusal) (name : List ℕ) → UseBreaks (Some files) folder v file used r name → UseBreaks (Some files) folder w file used r name
  moved_use w v e file used r name (is_unbuilt k s) = is_unbuilt (known_here w v e used.name k) s
  moved_use w v e file used r name (is_missing n m) = is_missing (new_here w v e n) m
  moved_use w v e file used r name (is_too_many n t m) = is_too_many (new_here w v e n) t (many_here w v e m)
  moved_use w v e file used r name (is_too_large n f l) =
      subst (λ k. UseBreaks (Some files) folder w file used (broken 62 (start_of k)) (file_of_unit used.name)) (sym (number w v e)) (is_too_large (new_here w v e n) (fits_here w v e f) (large_here w v e (Some files) (path folder used.name) l))
  moved_use w v e file used r name (breaks bytes n f h b) = breaks bytes (new_here w v e n) (fits_here w v e f) (has_here w v e (Some files) (path folder used.name) bytes h) (breaks_here w v e b)

  -- each name is passed, or breaks one rule, or its unit is read
  passed_new : (w : Walked) (name : List ℕ) → IsPassed w name → IsNew w name → ⊥
  passed_new w name (inl known) n = false≢true (sym n.unknown ∙ known)
  passed_new w name (inr system) n = or_true (is_system name) (is_sysutils name) n.outside system

  unbuilt_new : (w : Walked) (name : List ℕ) → is_sysutils name ≡ true → IsNew w name → ⊥
  unbuilt_new w name s n = or_false (is_system name) (is_sysutils name) n.outside s

  passed_breaks : (w : Walked) (file : List ℕ) (used : Use) (r : Refusal) (name : List ℕ) → IsPassed w used.name → UseBreaks (Some files) folder w file used r name → ⊥
  passed_breaks w file used r name (inl known) (is_unbuilt k s) = false≢true (sym k ∙ known)
  passed_breaks w file used r name (inr system) (is_unbuilt k s) = two_names used.name system s
  passed_breaks w file used r name p (is_missing n m) = passed_new w used.name p n
  passed_breaks w file used r name p (is_too_many n t m) = passed_new w used.name p n
  passed_breaks w file used r name p (is_too_large n f l) = passed_new w used.name p n
  passed_breaks w file used r name p (breaks bytes n f h b) = passed_new w used.name p n

  opens_breaks : (w m : Walked) (file : List ℕ) (used : Use) (us : List Use) (c : Option Place) (r : Refusal) (name : List ℕ) → Opens (Some files) folder w used.name us c m → UseBreaks (Some files) folder w file used r name → ⊥
  opens_breaks w m file used us c r name o (is_unbuilt k s) = unbuilt_new w used.name s o.is_new
  opens_breaks w m file used us c r name o (is_missing n g) = not_missing (path folder used.name) o.bytes (room w.size) o.has g
  opens_breaks w m file used us c r name o (is_too_many n t g) = many_few (length w.units) g o.fits
  opens_breaks w m file used us c r name o (is_too_large n f l) = not_large (path folder used.name) o.bytes (room w.size) o.has l
  opens_breaks w m file used us c r name o (breaks bytes n f h b) =
      whole_file (length w.trees) (Some used.name) o.bytes o.enters.main r o.enters.is_file (subst (λ bs. FileBreaks (length w.trees) (Some used.name) bs r) (same_bytes (path folder used.name) bytes o.bytes (room w.size) (room w.size) h o.has) b)

  one_use : (w : Walked) (file : List ℕ) (used : Use) (r s : Refusal) (name other : List ℕ) → UseBreaks (Some files) folder w file used r name → UseBreaks (Some files) folder w file used s other → (name ≡ other) × SameRefusal r s
  one_use w file used r s name other (is_unbuilt k u) (is_unbuilt l x) = (refl, inl refl)
  one_use w file used r s name other (is_unbuilt k u) (is_missing n m) = absurd (unbuilt_new w used.name u n)
  one_use w file used r s name other (is_unbuilt k u) (is_too_many n t m) = absurd (unbuilt_new w used.name u n)
  one_use w file used r s name other (is_unbuilt k u) (is_too_large n f l) = absurd (unbuilt_new w used.name u n)
  one_use w file used r s name other (is_unbuilt k u) (breaks bytes n f h b) = absurd (unbuilt_new w used.name u n)
  one_use w file used r s name other (is_missing n m) (is_unbuilt k u) = absurd (unbuilt_new w used.name u n)
  one_use w file used r s name other (is_missing n m) (is_missing n' m') = (refl, inl refl)
  one_use w file used r s name other (is_missing n m) (is_too_many n' t g) = absurd (missing_there (path folder used.name) m t)
  one_use w file used r s name other (is_missing n m) (is_too_large n' f l) = absurd (missing_large (path folder used.name) (room w.size) m l)
  one_use w file used r s name other (is_missing n m) (breaks bytes n' f h b) = absurd (not_missing (path folder used.name) bytes (room w.size) h m)
  one_use w file used r s name other (is_too_many n t g) (is_unbuilt k u) = absurd (unbuilt_new w used.name u n)
  one_use w file used r s name other (is_too_many n t g) (is_missing n' m) = absurd (missing_there (path folder used.name) m t)
  one_use w file used r s name other (is_too_many n t g) (is_too_many n' t' g') = (refl, inl refl)
  one_use w file used r s name other (is_too_many n t g) (is_too_large n' f l) = absurd (many_few (length w.units) g f)
  one_use w file used r s name other (is_too_many n t g) (breaks bytes n' f h b) = absurd (many_few (length w.units) g f)
  one_use w file used r s name other (is_too_large n f l) (is_unbuilt k u) = absurd (unbuilt_new w used.name u n)
  one_use w file used r s name other (is_too_large n f l) (is_missing n' m) = absurd (missing_large (path folder used.name) (room w.size) m l)
  one_use w file used r s name other (is_too_large n f l) (is_too_many n' t g) = absurd (many_few (length w.units) g f)
  one_use w file used r s name other (is_too_large n f l) (is_too_large n' f' l') = (refl, inl refl)
  one_use w file used r s name other (is_too_large n f l) (breaks bytes n' f' h b) = absurd (not_large (path folder used.name) bytes (room w.size) h l)
  one_use w file used r s name other (breaks bytes n f h b) (is_unbuilt k u) = absurd (unbuilt_new w used.name u n)
  one_use w file used r s name other (breaks bytes n f h b) (is_missing n' m) = absurd (not_missing (path folder used.name) bytes (room w.size) h m)
  one_use w file used r s name other (breaks bytes n f h b) (is_too_many n' t g) = absurd (many_few (length w.units) g f)
  one_use w file used r s name other (breaks bytes n f h b) (is_too_large n' f' l) = absurd (not_large (path folder used.name) bytes (room w.size) h l)
  one_use w file used r s name other (breaks bytes n f h b) (breaks bs n' f' h' b') =
      (refl, one_fault (length w.trees) (Some used.name) bytes r s b (subst (λ x. FileBreaks (length w.trees) (Some used.name) x s) (same_bytes (path folder used.name) bs bytes (room w.size) (room w.size) h' h) b'))

  one_opened : (w v m k : Walked) → seen v ≡ seen w → (name : List ℕ) (us vs : List Use) (c d : Option Place) → Opens (Some files) folder w name us c m → Opens (Some files) folder v name vs d k → (us ≡ vs) × (c ≡ d) × (seen m ≡ seen k)
  one_opened w v m k e name us vs c d a b =
      one_entered w v e (file_of_unit name) (Some name) a.bytes us vs c d m k a.enters
      (subst (λ bs. Enters v (file_of_unit name) (Some name) bs vs d k) (same_bytes (path folder name) b.bytes a.bytes (room v.size) (room w.size) b.has a.has) b.enters)

  -- ---- the walk

  moved_passed : (w v : Walked) → seen v ≡ seen w → (name : List ℕ) → IsPassed v name → IsPassed w name
  moved_passed w v e name (inl known) = inl (known_here w v e name known)
  moved_passed w v e name (inr system) = inr system

  placed_same : (w v : Walked) (n : Option (List ℕ)) → seen w ≡ seen v → seen (placed v n) ≡ seen (placed w n)
  placed_same w v n e = ap (λ (s : Seen). record s { order = with_unit n s.order }) (sym e)

  one_visit : (w v : Walked) → seen v ≡ seen w → (file : List ℕ) (closing : Option Place) (uses : List Use) (one other : Ends) → Visits (Some files) folder file closing w uses one → Visits (Some files) folder file closing v uses other → SameEnd one other
  one_visit w v e file closing uses one other is_done is_done = sym e
  one_visit w v e file closing uses one other is_cycle is_cycle = (refl, inl refl)
  one_visit w v e file closing uses one other (passes {used = used} {uses = us} p d) (passes q c) = one_visit w v e file closing us one other d c
  one_visit w v e file closing uses one other (passes {used = used} p d) (breaks b) = absurd (passed_breaks w file used _ _ p (moved_use w v e file used _ _ b))
  one_visit w v e file closing uses one other (passes {used = used} p d) (breaks_within o c) = absurd (passed_new w used.name p (new_here w v e o.is_new))
  one_visit w v e file closing uses one other (passes {used = used} p d) (visits o c r) = absurd (passed_new w used.name p (new_here w v e o.is_new))
  one_visit w v e file closing uses one other (breaks {used = used} b) (passes q c) = absurd (passed_breaks w file used _ _ (moved_passed w v e used.name q) b)
  one_visit w v e file closing uses one other (breaks {used = used} b) (breaks a) = one_use w file used _ _ _ _ b (moved_use w v e file used _ _ a)
  one_visit w v e file closing uses one other (breaks {used = used} b) (breaks_within {within = within} {m = m} {inner = inner} o c) = absurd (opens_breaks v m file used inner within _ _ o (moved_use v w (sym e) file used _ _ b))
  one_visit w v e file closing uses one other (breaks {used = used} b) (visits {within = within} {m = m} {inner = inner} o c r) = absurd (opens_breaks v m file used inner within _ _ o (moved_use v w (sym e) file used _ _ b))
  one_visit w v e file closing uses one other (breaks_within {used = used} o d) (passes q c) = absurd (passed_new w used.name (moved_passed w v e used.name q) o.is_new)
  one_visit w v e file closing uses one other (breaks_within {within = within} {m = m} {used = used} {inner = inner} o d) (breaks b) = absurd (opens_breaks w m file used inner within _ _ o (moved_use w v e file used _ _ b))
  one_visit w v e file closing uses one other (breaks_within {within = within} {m = m} {used = used} {inner = inner} o d) (breaks_within {within = c} {m = k} {inner = others} p b) =
      let s = one_opened w v m k e used.name inner others within c o p in
      one_visit m k (sym s.2) (file_of_unit used.name) within inner one other d (subst (λ x. Visits (Some files) folder (file_of_unit used.name) x k inner other) (sym s.1) (subst (λ us. Visits (Some files) folder (file_of_unit used.name) c k us other) (sym s.0) b))
  one_visit w v e file closing uses one other (breaks_within {within = within} {m = m} {used = used} {inner = inner} o d) (visits {within = c} {m = k} {n = n} {inner = others} p b r) =
      let s = one_opened w v m k e used.name inner others within c o p in
      absurd (one_visit m k (sym s.2) (file_of_unit used.name) within inner one (walked n) d (subst (λ x. Visits (Some files) folder (file_of_unit used.name) x k inner (walked n)) (sym s.1) (subst (λ us. Visits (Some files) folder (file_of_unit used.name) c k us (walked n)) (sym s.0) b)))
  one_visit w v e file closing uses one other (visits {used = used} o d r) (passes q c) = absurd (passed_new w used.name (moved_passed w v e used.name q) o.is_new)
  one_visit w v e file closing uses one other (visits {within = within} {m = m} {used = used} {inner = inner} o d r) (breaks b) = absurd (opens_breaks w m file used inner within _ _ o (moved_use w v e file used _ _ b))
  one_visit w v e file closing uses one other (visits {within = within} {m = m} {n = n} {used = used} {inner = inner} o d r) (breaks_within {within = c} {m = k} {inner = others} p b) =
      let s = one_opened w v m k e used.name inner others within c o p in
      absurd (one_visit m k (sym s.2) (file_of_unit used.name) within inner (walked n) other d (subst (λ x. Visits (Some files) folder (file_of_unit used.name) x k inner other) (sym s.1) (subst (λ us. Visits (Some files) folder (file_of_unit used.name) c k us other) (sym s.0) b)))
  one_visit w v e file closing uses one other (visits {within = within} {m = m} {n = n} {used = used} {uses = us} {inner = inner} o d r) (visits {within = c} {m = k} {n = l} {inner = others} p b q) =
      let s = one_opened w v m k e used.name inner others within c o p in
      let same = one_visit m k (sym s.2) (file_of_unit used.name) within inner (walked n) (walked l) d (subst (λ x. Visits (Some files) folder (file_of_unit used.name) x k inner (walked l)) (sym s.1) (subst (λ xs. Visits (Some files) folder (file_of_unit used.name) c k xs (walked l)) (sym s.0) b)) in
      one_visit (placed n (Some used.name)) (placed l (Some used.name)) (placed_same n l (Some used.name) same) file closing us one other r q

-- ---- the folder

abbrev EndsFolder : List ℕ → Type 0
EndsFolder folder = (folder ≡ []) ⊎ ((front : List ℕ) × (folder ≡ front ++ 47 ∷ []))

abbrev has_slash : List ℕ → Bool
has_slash = list_any (nat_eq 47)

slash_behind : (xs ys : List ℕ) → has_slash (xs ++ 47 ∷ ys) ≡ true
slash_behind [] ys = refl
slash_behind (x ∷ xs) ys = either (nat_eq 47 x) (has_slash (xs ++ 47 ∷ ys)) (slash_behind xs ys)
  where
    either : (a b : Bool) → b ≡ true → (a || b) ≡ true
    either true b e = refl
    either false b e = e

slash_in : (x : ℕ) (folder bare : List ℕ) → EndsFolder (x ∷ folder) → has_slash (x ∷ folder ++ bare) ≡ true
slash_in x folder bare (inl e) = cc
slash_in x folder bare (inr (front, e)) = ap (λ xs. has_slash (xs ++ bare)) e ∙ ap has_slash (append_assoc front (47 ∷ []) bare) ∙ slash_behind front bare

ends_behind : (x : ℕ) (folder : List ℕ) → EndsFolder (x ∷ folder) → EndsFolder folder
ends_behind x folder (inl e) = cc
ends_behind x folder (inr ([], e)) = inl (heads e).1
ends_behind x folder (inr (y ∷ front, e)) = inr (front, (heads e).1)

one_cut : (f g a b : List ℕ) → f ++ a ≡ g ++ b → has_slash a ≡ false → has_slash b ≡ false → EndsFolder f → EndsFolder g → f ≡ g
one_cut [] [] a b e h k i j = refl
one_cut [] (y ∷ g) a b e h k i j = absurd (false≢true (sym h ∙ ap has_slash e ∙ slash_in y g b j))
one_cut (x ∷ f) [] a b e h k i j = absurd (false≢true (sym k ∙ ap has_slash (sym e) ∙ slash_in x f a i))
one_cut (x ∷ f) (y ∷ g) a b e h k i j = let p = heads e in ap (λ z. z ∷ f) p.0 ∙ ap (λ zs. y ∷ zs) (one_cut f g a b p.1 h k (ends_behind x f i) (ends_behind y g j))

one_folder : (main f g : List ℕ) → IsFolder main f → IsFolder main g → f ≡ g
one_folder main f g a b = one_cut f g a.bare b.bare (sym a.parts ∙ b.parts) a.last b.last a.ends b.ends

-- ---- from the main file on

pub one_walk : (files : List NamedFile) (main : List ℕ) (one other : Ends) → Walks (Some files) main one → Walks (Some files) main other → SameEnd one other
one_walk files main one other (main_is_missing m) (main_is_missing m') = (refl, inl refl)
one_walk files main one other (main_is_missing m) (main_is_too_large l) = absurd (missing_large files [] main 4194304 m l)
one_walk files main one other (main_is_missing m) (main_breaks bytes h b) = absurd (not_missing files [] main bytes 4194304 h m)
one_walk files main one other (main_is_missing m) (goes {bytes = bytes} h f e v) = absurd (not_missing files [] main bytes 4194304 h m)
one_walk files main one other (main_is_too_large l) (main_is_missing m) = absurd (missing_large files [] main 4194304 m l)
one_walk files main one other (main_is_too_large l) (main_is_too_large l') = (refl, inl refl)
one_walk files main one other (main_is_too_large l) (main_breaks bytes h b) = absurd (not_large files [] main bytes 4194304 h l)
one_walk files main one other (main_is_too_large l) (goes {bytes = bytes} h f e v) = absurd (not_large files [] main bytes 4194304 h l)
one_walk files main one other (main_breaks bytes h b) (main_is_missing m) = absurd (not_missing files [] main bytes 4194304 h m)
one_walk files main one other (main_breaks bytes h b) (main_is_too_large l) = absurd (not_large files [] main bytes 4194304 h l)
one_walk files main one other (main_breaks {refusal = r} bytes h b) (main_breaks {refusal = s} bs k a) = (refl, one_fault 0 None bytes r s b (subst (λ x. FileBreaks 0 None x s) (same_bytes files [] main bs bytes 4194304 4194304 k h) a))
one_walk files main one other (main_breaks {refusal = r} bytes h b) (goes {bytes = bs} k f e v) = absurd (whole_file 0 None bs e.main r e.is_file (subst (λ x. FileBreaks 0 None x r) (same_bytes files [] main bytes bs 4194304 4194304 h k) b))
one_walk files main one other (goes {bytes = bytes} h f e v) (main_is_missing m) = absurd (not_missing files [] main bytes 4194304 h m)
one_walk files main one other (goes {bytes = bytes} h f e v) (main_is_too_large l) = absurd (not_large files [] main bytes 4194304 h l)
one_walk files main one other (goes {bytes = bytes} h f e v) (main_breaks {refusal = s} bs k b) = absurd (whole_file 0 None bytes e.main s e.is_file (subst (λ x. FileBreaks 0 None x s) (same_bytes files [] main bs bytes 4194304 4194304 k h) b))
one_walk files main one other (goes {folder = folder} {bytes = bytes} {w = w} {uses = us} {closing = c} h f e v) (goes {folder = g} {bytes = bs} {w = k} {uses = vs} {closing = d} h' f' e' v') =
    let s = one_entered nothing_read nothing_read refl main None bytes us vs c d w k e (subst (λ x. Enters nothing_read main None x vs d k) (same_bytes files [] main bs bytes 4194304 4194304 h' h) e') in
    one_visit files folder w k (sym s.2) main c us one other v
    (subst (λ x. Visits (Some files) x main c k us other) (one_folder main g folder f' f) (subst (λ x. Visits (Some files) g main x k us other) (sym s.1) (subst (λ x. Visits (Some files) g main d k x other) (sym s.0) v')))
