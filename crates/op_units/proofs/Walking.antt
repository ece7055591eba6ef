-- The walk with the files under visit: what is in front of them completes what they began.
use Rattle.std.proofs.Common.{◌≡◌, ℕ, List, [], ◌∷◌, Option, Some, None, Ok, Err, refl, sym, ap, subst, ◌∙◌}
use Rattle.op_base.specs.Outside.{Rose}
use Rattle.op_base.specs.declared.files.NamedFile.{NamedFile}
use Rattle.op_base.specs.declared.place.Place.{Place}
use Rattle.op_base.specs.declared.rule.Refusal.{Refusal}
use Rattle.op_core.specs.Faults.{broken}
use Rattle.op_units.specs.Cycles.{RefusesBy, StopsAt, with_frame}
use Rattle.op_units.specs.Names.{file_of_unit}
use Rattle.op_units.specs.Walk.{Ends, walked, refused, IsPassed, Opens, UseBreaks, UseIs, Visits, is_done, is_cycle, passes, breaks as breaks_at, breaks_within, visits, Walked, placed}
use Rattle.op_units.specs.declared.error.LoadError.{LoadError}
use Rattle.op_units.specs.declared.error.LoadError.TheVariants.{Refused, ReadFault, NoMemory}
use Rattle.op_units.specs.declared.frame.Frame.{Frame}
use Rattle.op_units.specs.declared.uses.Use.{Use}

module _ (stored : Option (List NamedFile)) (folder : List ℕ) where
  -- what is done behind the uses of a file
  abbrev Then : (Walked → Ends → Type 0) → Ends → Ends → Type 0
  Then goes (walked w) end = goes w end
  Then goes (refused refusal file) end = end ≡ refused refusal file

  -- from here the walk over the uses that are left of these files, the first one innermost, ends so
  abbrev pub Goes : List Frame → Walked → Ends → Type 0
  Goes [] w end = end ≡ walked w
  Goes (f ∷ fs) w end = (m : Ends) × Visits stored folder f.file f.closing w f.uses.items m × Then (λ n. Goes fs (placed n f.unit)) m end

  -- the same of a file by its parts
  abbrev At : List ℕ → Option (List ℕ) → Option Place → List Use → List Frame → Walked → Ends → Type 0
  At file unit closing uses fs w end = (m : Ends) × Visits stored folder file closing w uses m × Then (λ n. Goes fs (placed n unit)) m end

  -- what is left of the walk completes it
  abbrev pub Completes : (Ends → Type 0) → List Frame → Walked → Type 0
  Completes whole fs w = (end : Ends) → Goes fs w end → whole end

  -- ---- the main file alone

  alone : (file : List ℕ) (unit : Option (List ℕ)) (closing : Option Place) (uses : List Use) (w : Walked) (m end : Ends) → unit ≡ None → Visits stored folder file closing w uses m → Then (λ n. Goes [] (placed n unit)) m end → Visits stored folder file closing w uses end
  alone file unit closing uses w (walked n) end e v t = subst (Visits stored folder file closing w uses) (sym (t ∙ ap (λ u. walked (placed n u)) e)) v
  alone file unit closing uses w (refused refusal name) end e v t = subst (Visits stored folder file closing w uses) (sym t) v

  pub begins : (f : Frame) (fs : List Frame) (w : Walked) → f.unit ≡ None → fs ≡ f ∷ [] → Completes (Visits stored folder f.file f.closing w f.uses.items) fs w
  begins f fs w e is end goes = of_one (subst (λ gs. Goes gs w end) is goes)
    where
      of_one : Goes (f ∷ []) w end → Visits stored folder f.file f.closing w f.uses.items end
      of_one (m, v, t) = alone f.file f.unit f.closing f.uses.items w m end e v t

  -- ---- a use

  passed : (file : List ℕ) (unit : Option (List ℕ)) (closing : Option Place) (used : Use) (uses : List Use) (fs : List Frame) (w : Walked) (end : Ends) → IsPassed w used.name → At file unit closing uses fs w end → At file unit closing (used ∷ uses) fs w end
  passed file unit closing used uses fs w end p (m, v, t) = (m, passes p v, t)

  entered_by : (f : Frame) (used : Use) (inner : List Use) (within : Option Place) (fs : List Frame) (w new : Walked) (m end : Ends) → Opens stored folder w used.name inner within new → Visits stored folder (file_of_unit used.name) within new inner m → Then (λ n. Goes (f ∷ fs) (placed n (Some used.name))) m end → At f.file f.unit f.closing (used ∷ f.uses.items) fs w end
  entered_by f used inner within fs w new (walked n) end o v (m, rest, t) = (m, visits o v rest, t)
  entered_by f used inner within fs w new (refused refusal name) end o v t = (refused refusal name, breaks_within o v, t)

  entered : (f : Frame) (used : Use) (inner : List Use) (within : Option Place) (fs : List Frame) (w new : Walked) (end : Ends) → Opens stored folder w used.name inner within new → At (file_of_unit used.name) (Some used.name) within inner (f ∷ fs) new end → At f.file f.unit f.closing (used ∷ f.uses.items) fs w end
  entered f used inner within fs w new end o (m, v, t) = entered_by f used inner within fs w new m end o v t

  -- the file with what is left of its uses is in front, and the one that is entered before it
  goes_in : (g : Frame) (used : Use) (rest : List Frame) (w new : Walked) (before after : ℕ) (inner : Option Frame) (end : Ends) → UseIs stored folder g.file used w new before after (Ok inner) → Goes (with_frame inner (g ∷ rest)) new end → At g.file g.unit g.closing (used ∷ g.uses.items) rest w end
  goes_in g used rest w new before after None end (p, same) goes = passed g.file g.unit g.closing used g.uses.items rest w end p (subst (λ x. Goes (g ∷ rest) x end) same goes)
  goes_in g used rest w new before after (Some f) end (file, unit, opens) goes =
      entered g used f.uses.items f.closing rest w new end opens (subst (λ u. At (file_of_unit used.name) u f.closing f.uses.items (g ∷ rest) new end) unit (subst (λ x. At x f.unit f.closing f.uses.items (g ∷ rest) new end) file goes))

  pub goes_on_in : (whole : Ends → Type 0) (frames rest after_frames : List Frame) (f g : Frame) (used : Use) (w new : Walked) (before after : ℕ) (inner : Option Frame) → frames ≡ f ∷ rest → g.file ≡ f.file → g.unit ≡ f.unit → g.closing ≡ f.closing → f.uses.items ≡ used ∷ g.uses.items → UseIs stored folder f.file used w new before after (Ok inner) → after_frames ≡ with_frame inner (g ∷ rest) → Completes whole frames w → Completes whole after_frames new
  goes_on_in whole frames rest after_frames f g used w new before after inner is file unit closing uses u put completes end goes =
      completes end (subst (λ fs. Goes fs w end) (sym is) (subst (λ us. At f.file f.unit f.closing us rest w end) (sym uses)
      (subst (λ c. At f.file f.unit c (used ∷ g.uses.items) rest w end) closing (subst (λ n. At f.file n g.closing (used ∷ g.uses.items) rest w end) unit (subst (λ n. At n g.unit g.closing (used ∷ g.uses.items) rest w end) file
      (goes_in g used rest w new before after inner end (subst (λ n. UseIs stored folder n used w new before after (Ok inner)) (sym file) u) (subst (λ fs. Goes fs new end) put goes)))))))

  -- ---- a refusal

  -- of a use
  stops_by : (whole : Ends → Type 0) (frames rest : List Frame) (f : Frame) (used : Use) (uses : List Use) (w : Walked) (refusal : Refusal) (name : List ℕ) → frames ≡ f ∷ rest → f.uses.items ≡ used ∷ uses → UseBreaks stored folder w f.file used refusal name → Completes whole frames w → whole (refused refusal name)
  stops_by whole frames rest f used uses w refusal name is us b completes =
      completes (refused refusal name) (subst (λ fs. Goes fs w (refused refusal name)) (sym is) (subst (λ xs. At f.file f.unit f.closing xs rest w (refused refusal name)) (sym us) (refused refusal name, breaks_at b, refl)))

  pub stopped : (frames rest : List Frame) (first f : Frame) (used : Use) (uses : List Use) (start w new : Walked) (initial before after : ℕ) (error : LoadError) → frames ≡ f ∷ rest → f.uses.items ≡ used ∷ uses → UseIs stored folder f.file used w new before after (Err error) → (Rose before after → Rose initial after) → Completes (Visits stored folder first.file first.closing start first.uses.items) frames w → StopsAt stored folder first start initial after error
  stopped frames rest first f used uses start w new initial before after (Refused refusal name) is us u rose completes = stops_by (Visits stored folder first.file first.closing start first.uses.items) frames rest f used uses w refusal name is us u completes
  stopped frames rest first f used uses start w new initial before after ReadFault is us u rose completes = rose u
  stopped frames rest first f used uses start w new initial before after NoMemory is us u rose completes = u

  -- of a name that closes a cycle
  pub closed : (frames rest : List Frame) (first f : Frame) (place : Place) (start w : Walked) (initial after : ℕ) (error : LoadError) → frames ≡ f ∷ rest → f.uses.items ≡ [] → f.closing ≡ Some place → RefusesBy f.file (broken 11 place) error → Completes (Visits stored folder first.file first.closing start first.uses.items) frames w → StopsAt stored folder first start initial after error
  closed frames rest first f place start w initial after (Refused refusal name) is us c (file, given) completes =
      subst (λ r. Visits stored folder first.file first.closing start first.uses.items (refused r name)) (sym given) (subst (λ n. Visits stored folder first.file first.closing start first.uses.items (refused (broken 11 place) n)) (sym file)
      (completes (refused (broken 11 place) f.file) (subst (λ fs. Goes fs w (refused (broken 11 place) f.file)) (sym is) (by_parts f.closing f.uses.items c us))))
    where
      by_parts : (closing : Option Place) (uses : List Use) → closing ≡ Some place → uses ≡ [] → At f.file f.unit closing uses rest w (refused (broken 11 place) f.file)
      by_parts closing uses c u = subst (λ x. At f.file f.unit x uses rest w (refused (broken 11 place) f.file)) (sym c) (subst (λ us. At f.file f.unit (Some place) us rest w (refused (broken 11 place) f.file)) (sym u) (refused (broken 11 place) f.file, is_cycle, refl))
  closed frames rest first f place start w initial after ReadFault is us c r completes = absurd r
  closed frames rest first f place start w initial after NoMemory is us c r completes = r

  -- ---- the end

  -- a file whose uses are visited is placed
  pub put_in_order : (whole : Ends → Type 0) (frames rest : List Frame) (f : Frame) (w new : Walked) → frames ≡ f ∷ rest → f.uses.items ≡ [] → f.closing ≡ None → new ≡ placed w f.unit → Completes whole frames w → Completes whole rest new
  put_in_order whole frames rest f w new is us c e completes end goes =
      completes end (subst (λ fs. Goes fs w end) (sym is) (by_parts f.closing f.uses.items c us (walked w, is_done, subst (λ n. Goes rest n end) e goes)))
    where
      by_parts : (closing : Option Place) (uses : List Use) → closing ≡ None → uses ≡ [] → At f.file f.unit None [] rest w end → At f.file f.unit closing uses rest w end
      by_parts closing uses c u h = subst (λ x. At f.file f.unit x uses rest w end) (sym c) (subst (λ us. At f.file f.unit None us rest w end) (sym u) h)

  pub ended : (whole : Ends → Type 0) (frames : List Frame) (w : Walked) → frames ≡ [] → Completes whole frames w → whole (walked w)
  ended whole frames w is completes = completes (walked w) (subst (λ fs. Goes fs w (walked w)) (sym is) refl)
