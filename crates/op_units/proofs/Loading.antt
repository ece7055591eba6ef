-- From the text of a file to its tree, and from the main file to the files of a program.
use Rattle.std.proofs.Common.{◌≡◌, ℕ, suc, ◌≤◌, Option, None, Some, List, [], ◌∷◌, drop, length, arith, refl, ap, subst, ◌∙◌, Result, Ok, Err, IfErr, IsErrAnd, sym, inl, inr}
use Rattle.op_base.proofs.Tests.{rose_since}
use Rattle.op_base.specs.declared.files.NamedFile.{NamedFile}
use Rattle.op_base.specs.declared.place.Place.{Place}
use Rattle.op_base.specs.declared.rule.Refusal.{Refusal}
use Rattle.op_parse_code.specs.declared.error.ParseError.{ParseError}
use Rattle.op_parse_code.specs.declared.error.ParseError.TheVariants as parsed
use Rattle.op_scan.specs.Scan.{StandFor}
use Rattle.op_scan.specs.declared.token.Tokens.{Tokens}
use Rattle.op_tree.specs.File.{file_of}
use Rattle.op_tree.specs.FileGrammar.{Spells}
use Rattle.op_tree.specs.Terminal.{terminals}
use Rattle.op_tree.specs.declared.file.Tree.{Tree}
use Rattle.op_units.specs.Cycles.{FirstIs, RefusesBy, StopsAt}
use Rattle.op_units.specs.Forms.{FirstShown}
use Rattle.op_units.specs.Names.{IsFolder}
use Rattle.op_units.specs.Reading.{ReadsTokens, BreaksAs, by_tokens, IsShownAs, IsShown, RefusedByGrammar, by_form, by_grammar, by_word, first_told}
use Rattle.op_units.specs.Unbuilt.{FirstUnbuilt}
use Rattle.op_units.specs.Walk.{Ends, GivesForest, Stops, UseIs, Visits, Walked, Walks, goes, refused}
use Rattle.op_units.specs.declared.error.LoadError.{LoadError}
use Rattle.op_units.specs.declared.error.LoadError.TheVariants as errors
use Rattle.op_units.specs.declared.forest.Forest.{Forest}
use Rattle.op_units.specs.declared.frame.Frame.{Frame}
use Rattle.op_units.specs.declared.uses.Use.{Use}

pub reads_tokens : (tokens : Tokens) (t : Tree) (shown : Option Refusal) → FirstShown (terminals tokens.list) shown → shown ≡ None → Spells (file_of t) (terminals tokens.list) → ReadsTokens tokens t
reads_tokens tokens t shown f e s = let h : FirstShown (terminals tokens.list) None = subst (FirstShown (terminals tokens.list)) e f in record { spells = s; built = h.0; plain = h.1 }

-- no tree was read
pub shown_as : (tokens : Tokens) (e told : ParseError) (word : Option Refusal) → told ≡ first_told e word → RefusedByGrammar tokens e → FirstUnbuilt (terminals tokens.list) word → IsShownAs tokens told
shown_as tokens (parsed.Refused grammar) told word is h first = subst (IsShownAs tokens) (sym is) (by_grammar grammar word h first refl)
shown_as tokens parsed.NoMemory told word is h first = subst (IsShownAs tokens) (sym is) tt

-- a tree spells the tokens, and what shows in them is refused
pub is_shown : (tokens : Tokens) (t : Tree) (shown : Option Refusal) (refusal : Refusal) → FirstShown (terminals tokens.list) shown → shown ≡ Some refusal → Spells (file_of t) (terminals tokens.list) → IsShown tokens refusal
is_shown tokens t shown refusal f e s = elim (told) [ inl word ↦ by_word (file_of t) s word | inr form ↦ by_form (file_of t) s form.0 form.1 ]
  where
    told : FirstShown (terminals tokens.list) (Some refusal)
    told = subst (FirstShown (terminals tokens.list)) e f

pub breaks_by_tokens : (number : ℕ) (bytes : List ℕ) (tokens : Tokens) (r : Result Tree ParseError) → StandFor number bytes tokens → IfErr r (IsShownAs tokens) → IfErr r (BreaksAs number bytes)
breaks_by_tokens number bytes tokens (Ok t) s h = h
breaks_by_tokens number bytes tokens (Err (parsed.Refused refusal)) s h = by_tokens tokens s h
breaks_by_tokens number bytes tokens (Err parsed.NoMemory) s h = h

-- ---- errors

-- an error that is handed on by `?`
pub handed_on : {T E : Type 0} {R Q : E → Type 0} (r : Result T E) → IsErrAnd r R → ((e : E) → R e → Q e) → IfErr r Q
handed_on (Ok x) h f = absurd h
handed_on (Err e) h f = f e h

pub refused_by : (name other : List ℕ) (r s : Refusal) (e : LoadError) → name ≡ other → r ≡ s → RefusesBy name r e → RefusesBy other s e
refused_by name other r s e n is h = subst (λ x. RefusesBy x s e) n (subst (λ x. RefusesBy name x e) is h)

-- ---- the walk from the main file

-- no use was in front, so none is left
pub none_left : (uses rest : List Use) → uses ≡ rest → rest ≡ drop 1 uses → uses ≡ []
none_left [] rest e f = refl
none_left (used ∷ uses) rest e f = absurd (longer (ap length (e ∙ f)))
  where
    longer : suc (length uses) ≡ length uses → ⊥
    longer h = omega (arith, h)

pub use_in : (stored other : Option (List NamedFile)) (folder file name : List ℕ) (used : Use) (w new : Walked) (before after : ℕ) (r : Result (Option Frame) LoadError) → stored ≡ other → file ≡ name → UseIs stored folder file used w new before after r → UseIs other folder name used w new before after r
use_in stored other folder file name used w new before after r s f h = subst (λ x. UseIs other folder x used w new before after r) f (subst (λ x. UseIs x folder file used w new before after r) s h)

pub walks_on : (stored : Option (List NamedFile)) (main folder : List ℕ) (frame : Frame) (w : Walked) (initial before : ℕ) (end : Ends) → FirstIs stored main w initial before (Ok frame) → IsFolder main folder → Visits stored folder frame.file frame.closing w frame.uses.items end → Walks stored main end
walks_on stored main folder frame w initial before end (file, unit, bytes, has, enters) f v = goes has f enters (subst (λ x. Visits stored folder x frame.closing w frame.uses.items end) file v)

pub stops_on : (stored : Option (List NamedFile)) (main folder : List ℕ) (frame : Frame) (w : Walked) (initial before after : ℕ) (e : LoadError) → FirstIs stored main w initial before (Ok frame) → IsFolder main folder → initial ≤ before → StopsAt stored folder frame w before after e → Stops stored main initial after e
stops_on stored main folder frame w initial before after (errors.Refused refusal name) is f counts h = walks_on stored main folder frame w initial before (refused refusal name) is f h
stops_on stored main folder frame w initial before after errors.ReadFault is f counts h = rose_since initial before after counts h
stops_on stored main folder frame w initial before after errors.NoMemory is f counts h = h
