-- What a program's files are refused for breaks a rule that has a text.
use Rattle.std.proofs.Common.{◌≡◌, ℕ, Bool, true, false, if◌then◌else◌, List, [], ◌∷◌, Option, Some, None, Result, Ok, Err, IfErr, refl, sym, subst}
use Rattle.std.proofs.lemmas.Option.{none-some, same_Some}
use Rattle.op_base.specs.Rule.{text_of_feature, text_of_rule}
use Rattle.op_base.specs.declared.files.NamedFile.{NamedFile}
use Rattle.op_base.specs.declared.place.Place.{Place}
use Rattle.op_base.specs.declared.rule.Refusal.{Refusal}
use Rattle.op_core.specs.Faults.{comes_before}
use Rattle.op_parse_decl.proofs.Told.{told_refusal}
use Rattle.op_scan.proofs.Told.{told_scans}
use Rattle.op_base.specs.Rule.{HasText}
use Rattle.op_scan.specs.declared.token.Tokens.{Tokens}
use Rattle.op_tree.specs.Terminal.{Terminal}
use Rattle.op_units.specs.Forms.{ShownForm, is_fraction_width, is_slash}
use Rattle.op_units.specs.Reading.{Breaks, IsShown, by_form, by_grammar, by_spelling, by_tokens, by_word, first_of}
use Rattle.op_units.specs.Unbuilt.{FirstUnbuilt, IsFirstUnbuilt, Unbuilt, is_string, named}
use Rattle.op_units.specs.Walk.{Ends, FileBreaks, RefusalHasText, Stops, UseBreaks, Visits, Walked, Walks, breaks, breaks_within, by_name, by_text, by_uses, goes, is_cycle, is_done, is_missing, is_too_large, is_too_many, is_unbuilt, main_breaks, main_is_missing, main_is_too_large, passes, refused, visits, walked}
use Rattle.op_units.specs.declared.error.LoadError.{LoadError}
use Rattle.op_units.specs.declared.error.LoadError.TheVariants as errors
use Rattle.op_units.specs.declared.forest.Forest.{Forest}
use Rattle.op_units.specs.declared.uses.Use.{Use}

-- its rule has a text
abbrev IsTold : Refusal → Type 0
IsTold refusal = HasText refusal.rule

-- ---- constructs that are not built

string_text : (long : Bool) → HasText (record { number = 13; feature = if long then 40 else 3 })
unfolding text_of_feature text_of_rule
string_text true = refl
string_text false = refl

told_unbuilt : {feature : ℕ} {ks q : List Terminal} → Unbuilt feature ks q → HasText (record { number = 13; feature = feature })
unfolding text_of_feature text_of_rule
told_unbuilt (is_string {p = p} h) = string_text p.switches.h
told_unbuilt other = refl

told_named : (feature : ℕ) (told : List Terminal) (refusal : Refusal) → named (feature, told) ≡ Some refusal → HasText (record { number = 13; feature = feature }) → IsTold refusal
told_named feature [] refusal is h = absurd (none-some refusal is)
told_named feature (t ∷ ts) refusal is h = subst IsTold (same_Some _ refusal is) h

told_first_unbuilt : {ks : List Terminal} {refusal : Refusal} → IsFirstUnbuilt ks refusal → IsTold refusal
told_first_unbuilt {refusal = refusal} first = told_named first.feature first.told refusal first.names (told_unbuilt first.is_there.unbuilt)

told_form : {feature : ℕ} {ks q : List Terminal} → ShownForm feature ks q → HasText (record { number = 13; feature = feature })
unfolding text_of_feature text_of_rule
told_form is_slash = refl
told_form (is_fraction_width h) = refl

-- ---- the text of a file

either : (test : Bool) (x y : Refusal) → IsTold x → IsTold y → IsTold (if test then x else y)
either true x y h k = h
either false x y h k = k

told_first : (ks : List Terminal) (grammar : Refusal) (word : Option Refusal) → IsTold grammar → FirstUnbuilt ks word → IsTold (first_of grammar word)
told_first ks grammar None h first = h
told_first ks grammar (Some word) h first = either (comes_before word grammar) word grammar (told_first_unbuilt first) h

told_shown : {tokens : Tokens} {refusal : Refusal} → IsShown tokens refusal → IsTold refusal
told_shown (by_grammar grammar word refuses first is) = subst IsTold (sym is) (told_first _ grammar word (told_refusal refuses) first)
told_shown (by_word file spells first) = told_first_unbuilt first
told_shown (by_form file spells built form) = told_named form.feature form.told _ form.names (told_form form.is_there.3)

told_text : {number : ℕ} {bytes : List ℕ} {refusal : Refusal} → Breaks number bytes refusal → IsTold refusal
told_text (by_spelling scans) = told_scans scans
told_text (by_tokens tokens stand shown) = told_shown shown

-- ---- the walk

told_file : {number : ℕ} {unit : Option (List ℕ)} {bytes : List ℕ} {refusal : Refusal} → FileBreaks number unit bytes refusal → IsTold refusal
unfolding text_of_rule
told_file (by_text text) = told_text text
told_file (by_name t place reads misnamed is) = subst IsTold (sym is) refl
told_file (by_uses t place reads named again is) = subst IsTold (sym is) refl

told_use : {stored : Option (List NamedFile)} {folder : List ℕ} {w : Walked} {file : List ℕ} {used : Use} {refusal : Refusal} {name : List ℕ} → UseBreaks stored folder w file used refusal name → IsTold refusal
unfolding text_of_feature text_of_rule
told_use (is_unbuilt new is) = refl
told_use (is_missing new missing) = refl
told_use (is_too_many new there many) = refl
told_use (is_too_large new fits large) = refl
told_use (breaks bytes new fits has file) = told_file file

abbrev EndHasText : Ends → Type 0
EndHasText (walked w) = Unit {0}
EndHasText (refused refusal file) = HasText refusal.rule

told_visits : {stored : Option (List NamedFile)} {folder file : List ℕ} {closing : Option Place} {w : Walked} {uses : List Use} {end : Ends} → Visits stored folder file closing w uses end → EndHasText end
unfolding text_of_rule
told_visits is_done = tt
told_visits is_cycle = refl
told_visits (passes passed rest) = told_visits rest
told_visits (breaks use_breaks) = told_use use_breaks
told_visits (breaks_within opens inner) = told_visits inner
told_visits (visits opens inner rest) = told_visits rest

pub told_walks : {stored : Option (List NamedFile)} {main : List ℕ} {end : Ends} → Walks stored main end → EndHasText end
unfolding text_of_rule
told_walks (main_is_missing missing) = refl
told_walks (main_is_too_large large) = refl
told_walks (main_breaks bytes has file) = told_file file
told_walks (goes has folder enters visit) = told_visits visit

-- ---- the answer

pub told_error : (stored : Option (List NamedFile)) (main : List ℕ) (before after : ℕ) (e : LoadError) → Stops stored main before after e → RefusalHasText e
told_error stored main before after (errors.Refused refusal file) walks = told_walks walks
told_error stored main before after errors.ReadFault rose = tt
told_error stored main before after errors.NoMemory h = tt

pub told_answer : (stored : Option (List NamedFile)) (main : List ℕ) (before after : ℕ) (r : Result Forest LoadError) → IfErr r (Stops stored main before after) → IfErr r RefusalHasText
told_answer stored main before after (Ok forest) h = tt
told_answer stored main before after (Err e) h = told_error stored main before after e h
