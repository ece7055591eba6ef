-- What comes of a name in a uses list, and of the file that is read for it.
use Rattle.std.proofs.Common.{◌≡◌, ℕ, zero, suc, ◌<◌, ◌≤◌, Bool, false, List, [], ◌∷◌, ◌++◌, length, map, take, get_or, Option, Some, None, Result, Ok, Err, refl, sym, ap, subst, ◌∙◌, inl, inr, arith, IfSome, IsSome, is_some}
use Rattle.std.specs.Prelude.{IsSomeAnd}
use Rattle.std.proofs.lemmas.Bool.{or_from}
use Rattle.std.specs.Result.{IsErrAnd}
use Rattle.op_base.specs.FileAnswer.{Answers, file_named}
use Rattle.op_base.specs.declared.files.FileAnswer.{FileAnswer}
use Rattle.op_base.specs.declared.files.FileAnswer.TheVariants.{Found, Long, Missing}
use Rattle.op_base.specs.declared.files.NamedFile.{NamedFile}
use Rattle.op_base.specs.declared.place.Place.{Place}
use Rattle.op_base.specs.declared.rule.Refusal.{Refusal}
use Rattle.op_core.specs.Faults.{broken}
use Rattle.op_parse_code.specs.declared.error.ParseError.{ParseError}
use Rattle.op_parse_code.specs.declared.error.ParseError.TheVariants as parsed
use Rattle.op_tree.specs.declared.file.Tree.{Tree}
use Rattle.op_units.specs.Cycles.{ClosesAt, ClosingIs, EnterIs, FirstIs, FrameIs, RefusesBy, TooLargeIs, closing_at, use_at, uses_up_to, with_parts}
use Rattle.op_units.specs.Names.{file_of_unit, implementation_uses, interface_uses, is_system, is_sysutils, name_of}
use Rattle.op_units.specs.Walk.{AreVisited, are_all, are_front, by_name, by_text, by_uses, Enters, FileBreaks, FileBreaksAs, IsNew, IsThere, IsTooLarge, Stops, UseBreaks, UseIs, Walked, Walks, breaks, is_known, is_missing, is_too_large, is_too_many, misnamed, nothing_read, main_breaks, own_names, path, refused, room, start_of, unit_name, used_again}
use Rattle.op_units.specs.Reading.{Breaks, BreaksAs, Reads}
use Rattle.op_units.specs.declared.error.LoadError.{LoadError}
use Rattle.op_units.specs.declared.error.LoadError.TheVariants as errors
use Rattle.op_units.specs.declared.frame.Frame.{Frame}
use Rattle.op_units.specs.declared.uses.Use.{Use}

-- ---- up to the name that closes a cycle

pub place_at : (uses : List Use) (k : ℕ) (d : Use) → k < length uses → use_at uses k ≡ Some (get_or uses k d).place
place_at [] k d h = absurd (omega (arith, h))
place_at (u ∷ us) zero d h = refl
place_at (u ∷ us) (suc k) d h = place_at us k d (omega (arith, h))

front_of : (front rest : List Use) (u : Use) → take (length front) (front ++ u ∷ rest) ≡ front
front_of [] rest u = refl
front_of (v ∷ front) rest u = ap (λ us. v ∷ us) (front_of front rest u)

place_of : (front rest : List Use) (u : Use) → use_at (front ++ u ∷ rest) (length front) ≡ Some u.place
place_of [] rest u = refl
place_of (v ∷ front) rest u = place_of front rest u

by_closing : (w : Walked) (unit : List ℕ) (interface implementation : List Use) (k : ℕ) → ClosesAt w unit interface k → AreVisited w unit interface implementation (take k interface) (use_at interface k)
by_closing w unit interface implementation k c =
    subst (λ p. AreVisited w unit interface implementation (take k interface) p) (sym (ap (λ us. use_at us k) c.parts ∙ ap (λ n. use_at (c.front ++ c.used ∷ c.rest) n) (sym c.number) ∙ place_of c.front c.rest c.used))
    (subst (λ us. AreVisited w unit interface implementation us (Some c.used.place)) (sym (ap (λ us. take k us) c.parts ∙ ap (λ n. take n (c.front ++ c.used ∷ c.rest)) (sym c.number) ∙ front_of c.front c.rest c.used))
    (are_front c.front c.rest c.used c.parts c.others c.leads))

pub visited_by : (w : Walked) (unit : List ℕ) (interface implementation : List Use) (closing : Option ℕ) → ClosingIs w unit interface closing → AreVisited w unit interface implementation (uses_up_to closing interface implementation) (closing_at closing interface)
visited_by w unit interface implementation None h = are_all h
visited_by w unit interface implementation (Some k) h = by_closing w unit interface implementation k h

-- ---- a file

pub enters : (w new : Walked) (file : List ℕ) (unit : Option (List ℕ)) (bytes : List ℕ) (t : Tree) (closing : Option ℕ) (interface implementation : List Use) (frame : Frame) → Reads (length w.trees) bytes t → misnamed unit t ≡ None → used_again (own_names unit) (interface ++ implementation) ≡ None → interface ≡ interface_uses t → implementation ≡ implementation_uses t → ClosingIs w (unit_name unit) interface closing → new ≡ with_parts w file unit (length bytes) t (map name_of interface) → FrameIs file unit closing interface implementation frame → EnterIs file unit bytes w new (Ok frame)
enters w new file unit bytes t closing interface implementation frame reads named once i j c n f = (
  f.file_is,
  f.unit_is,
  record {
    main = t;
    is_file = record { reads = reads; named = named; once = ap (used_again (own_names unit)) (sym (ap (λ us. us ++ implementation) i ∙ ap (λ us. interface_uses t ++ us) j)) ∙ once };
    visited = subst (λ us. AreVisited w (unit_name unit) (interface_uses t) us frame.uses.items frame.closing) j (subst (λ us. AreVisited w (unit_name unit) us implementation frame.uses.items frame.closing) i
        (subst (λ p. AreVisited w (unit_name unit) interface implementation frame.uses.items p) (sym f.closing_is) (subst (λ us. AreVisited w (unit_name unit) interface implementation us (closing_at closing interface)) (sym f.uses_are) (visited_by w (unit_name unit) interface implementation closing c))));
    new_is = n ∙ ap (λ us. with_parts w file unit (length bytes) t (map name_of us)) i;
  },
)

-- the one that closes a cycle is one of them
pub closing_within : (w : Walked) (unit : List ℕ) (interface : List Use) (closing : Option ℕ) → ClosingIs w unit interface closing → IfSome closing (λ at. at < length interface)
closing_within w unit interface None h = tt
closing_within w unit interface (Some k) c = subst (λ us. k < length us) (sym c.parts) (subst (λ n. n < length (c.front ++ c.used ∷ c.rest)) c.number (length_front c.front c.rest c.used))
  where
    length_front : (front rest : List Use) (u : Use) → length front < length (front ++ u ∷ rest)
    length_front [] rest u = omega arith
    length_front (v ∷ front) rest u = omega (arith, length_front front rest u)

pub file_breaks : (w : Walked) (number : ℕ) (unit : Option (List ℕ)) (bytes : List ℕ) (e : ParseError) (refusal : Refusal) → number ≡ length w.trees → FileBreaksAs number unit bytes e → e ≡ parsed.Refused refusal → FileBreaks (length w.trees) unit bytes refusal
file_breaks w number unit bytes e refusal same h is = subst (λ n. FileBreaks n unit bytes refusal) same (subst (λ x. FileBreaksAs number unit bytes x) is h)

pub breaks_by_text : (number : ℕ) (unit : Option (List ℕ)) (bytes : List ℕ) (e : ParseError) → BreaksAs number bytes e → FileBreaksAs number unit bytes e
breaks_by_text number unit bytes (parsed.Refused refusal) h = by_text h
breaks_by_text number unit bytes parsed.NoMemory h = tt

pub same_uses : (names own : List (List ℕ)) (first interface second implementation : List Use) → names ≡ own → first ≡ interface → second ≡ implementation → used_again names (first ++ second) ≡ used_again own (interface ++ implementation)
same_uses names own first interface second implementation e f g = ap (λ n. used_again n (first ++ second)) e ∙ ap (λ us. used_again own (us ++ second)) f ∙ ap (λ us. used_again own (interface ++ us)) g

-- ---- a name

pub use_refused : (stored : Option (List NamedFile)) (folder file : List ℕ) (used : Use) (w new : Walked) (before after : ℕ) (refusal : Refusal) (name : List ℕ) (e : LoadError) → UseBreaks stored folder w file used refusal name → RefusesBy name refusal e → UseIs stored folder file used w new before after (Err e)
use_refused stored folder file used w new before after refusal name (errors.Refused given n) b (is, same) = subst (λ r. UseBreaks stored folder w file used r n) (sym same) (subst (λ x. UseBreaks stored folder w file used refusal x) (sym is) b)
use_refused stored folder file used w new before after refusal name errors.ReadFault b r = absurd r
use_refused stored folder file used w new before after refusal name errors.NoMemory b r = r

pub is_new : (w : Walked) (name : List ℕ) → is_known w name ≡ false → is_system name ≡ false → is_sysutils name ≡ false → IsNew w name
is_new w name k s t = record { unknown = k; outside = or_from (is_system name) (is_sysutils name) s t }

pub is_new_by : (w : Walked) (name now : List ℕ) (a b d : Bool) → now ≡ name → a ≡ is_known w now → a ≡ false → b ≡ is_system now → b ≡ false → d ≡ is_sysutils now → d ≡ false → IsNew w name
is_new_by w name now a b d same e x f y g z = subst (λ n. IsNew w n) same (is_new w now (sym e ∙ x) (sym f ∙ y) (sym g ∙ z))

-- what is found is there, and so is what is too large
there_found : (o : Option (List ℕ)) (bytes : List ℕ) → o ≡ Some bytes → IsSome o
there_found o bytes e = ap is_some e

there_long : (o : Option (List ℕ)) (most : ℕ) → IsSomeAnd o (λ bytes. most < length bytes) → IsSome o
there_long None most h = absurd h
there_long (Some bytes) most h = refl

found_is_there : (stored : Option (List NamedFile)) (p bytes : List ℕ) → IfSome stored (λ files. file_named files p ≡ Some bytes) → IsThere stored p
found_is_there None p bytes h = h
found_is_there (Some files) p bytes h = there_found (file_named files p) bytes h

long_is_there : (stored : Option (List NamedFile)) (p : List ℕ) (most : ℕ) → IsTooLarge stored p most → IsThere stored p
long_is_there None p most h = h
long_is_there (Some files) p most h = there_long (file_named files p) most h

-- what was answered of the unit's file
pub answered : (stored : Option (List NamedFile)) (p q : List ℕ) (most before after : ℕ) (answer other : FileAnswer) → Answers stored p most before after answer → p ≡ q → answer ≡ other → Answers stored q most before after other
answered stored p q most before after answer other h e f = subst (λ a. Answers stored q most before after a) f (subst (λ x. Answers stored x most before after answer) e h)

pub missing : (stored : Option (List NamedFile)) (folder file : List ℕ) (used : Use) (w new : Walked) (before after : ℕ) (e : LoadError) → IsNew w used.name → Answers stored (path folder used.name) (room w.size) before after Missing → RefusesBy file (broken 10 used.place) e → UseIs stored folder file used w new before after (Err e)
missing stored folder file used w new before after e n a r = use_refused stored folder file used w new before after (broken 10 used.place) file e (is_missing n a) r

pub too_many : (stored : Option (List NamedFile)) (folder file bytes : List ℕ) (used : Use) (w new : Walked) (before after : ℕ) (e : LoadError) → IsNew w used.name → Answers stored (path folder used.name) (room w.size) before after (Found bytes) → 1000 ≤ length w.units → RefusesBy file (broken 63 used.place) e → UseIs stored folder file used w new before after (Err e)
too_many stored folder file bytes used w new before after e n a full r = use_refused stored folder file used w new before after (broken 63 used.place) file e (is_too_many n (found_is_there stored (path folder used.name) bytes a.1) full) r

pub too_large : (stored : Option (List NamedFile)) (folder file : List ℕ) (used : Use) (w new : Walked) (before after : ℕ) (e : LoadError) → IsNew w used.name → Answers stored (path folder used.name) (room w.size) before after Long → TooLargeIs w file (file_of_unit used.name) used.place e → UseIs stored folder file used w new before after (Err e)
too_large stored folder file used w new before after (errors.Refused refusal name) n a (inl (full, is, same)) = use_refused stored folder file used w new before after (broken 63 used.place) file (errors.Refused refusal name) (is_too_many n (long_is_there stored (path folder used.name) (room w.size) a) full) (same, is)
too_large stored folder file used w new before after (errors.Refused refusal name) n a (inr (fits, is, same)) = use_refused stored folder file used w new before after (broken 62 (start_of (length w.trees))) (file_of_unit used.name) (errors.Refused refusal name) (is_too_large n fits a) (same, is)
too_large stored folder file used w new before after errors.ReadFault n a r = absurd r
too_large stored folder file used w new before after errors.NoMemory n a r = r

-- an error that is passed on
pub is_passed_on : (r : Result (Option Frame) LoadError) (e : LoadError) → IsErrAnd r (λ x. x ≡ e) → r ≡ Err e
is_passed_on (Ok o) e h = absurd h
is_passed_on (Err x) e h = ap (λ y. Err y) h

-- the file is read
pub opened : (stored : Option (List NamedFile)) (folder file bytes bare : List ℕ) (used : Use) (w new : Walked) (before after : ℕ) (frame : Frame) → IsNew w used.name → Answers stored (path folder used.name) (room w.size) before after (Found bytes) → length w.units < 1000 → bare ≡ file_of_unit used.name → EnterIs bare (Some used.name) bytes w new (Ok frame) → UseIs stored folder file used w new before after (Ok (Some frame))
opened stored folder file bytes bare used w new before after frame n a fits is (f, u, enters) =
    (f ∙ is, u, record { bytes = bytes; is_new = n; has = a; fits = fits; enters = subst (λ x. Enters w x (Some used.name) bytes frame.uses.items frame.closing new) is enters })

pub not_opened : (stored : Option (List NamedFile)) (folder file bytes bare : List ℕ) (used : Use) (w new : Walked) (before after : ℕ) (e : LoadError) → IsNew w used.name → Answers stored (path folder used.name) (room w.size) before after (Found bytes) → length w.units < 1000 → bare ≡ file_of_unit used.name → EnterIs bare (Some used.name) bytes w new (Err e) → UseIs stored folder file used w new before after (Err e)
not_opened stored folder file bytes bare used w new before after (errors.Refused refusal name) n a fits is (same, b) = subst (λ x. UseBreaks stored folder w file used refusal x) (sym (same ∙ is)) (breaks bytes n fits a b)
not_opened stored folder file bytes bare used w new before after errors.ReadFault n a fits is h = absurd h
not_opened stored folder file bytes bare used w new before after errors.NoMemory n a fits is h = h

-- ---- the main file

pub main_refused : (stored : Option (List NamedFile)) (main : List ℕ) (before after : ℕ) (refusal : Refusal) (e : LoadError) → Walks stored main (refused refusal main) → RefusesBy main refusal e → Stops stored main before after e
main_refused stored main before after refusal (errors.Refused given name) w (is, same) = subst (λ r. Walks stored main (refused r name)) (sym same) (subst (λ x. Walks stored main (refused refusal x)) (sym is) w)
main_refused stored main before after refusal errors.ReadFault w r = absurd r
main_refused stored main before after refusal errors.NoMemory w r = r

pub main_entered : (stored : Option (List NamedFile)) (main file bytes : List ℕ) (w new : Walked) (before after : ℕ) (r : Result Frame LoadError) → Answers stored main 4194304 before after (Found bytes) → w ≡ nothing_read → file ≡ main → EnterIs file None bytes w new r → FirstIs stored main new before after r
main_entered stored main file bytes w new before after (Ok frame) a n is (f, u, enters) = (f ∙ is, u, bytes, a, subst (λ x. Enters x main None bytes frame.uses.items frame.closing new) n (subst (λ x. Enters w x None bytes frame.uses.items frame.closing new) is enters))
main_entered stored main file bytes w new before after (Err (errors.Refused refusal name)) a n is (same, b) = subst (λ x. Walks stored main (refused refusal x)) (sym (same ∙ is)) (main_breaks bytes a (subst (λ x. FileBreaks (length x.trees) None bytes refusal) n b))
main_entered stored main file bytes w new before after (Err errors.ReadFault) a n is h = absurd h
main_entered stored main file bytes w new before after (Err errors.NoMemory) a n is h = h
