-- What a print is made of, and how it is laid out.
use Rattle.std.specs.Prelude.{ℕ, ◌-◌, Bool, true, false, List, [], ◌∷◌, ◌++◌, ◌&&◌, ◌||◌, not, length, take, Option, Some, None, slice_index_or, nat_eq, if◌then◌else◌}
use Rattle.op_scan.specs.Byte.{is_name_byte}
use Rattle.op_scan.specs.Scan.{all_off}
use Rattle.op_scan.specs.declared.token.Switches.{Switches}
use Rattle.op_scan.specs.declared.token.TokenKind.{TokenKind}
use Rattle.op_scan.specs.declared.token.TokenKind.TheVariants as kind
use Rattle.op_print.specs.Spelling.{spelling}

-- What a print is made of, with no text yet.
infixr 60 ◌&◌
pub data Draft : Type 0 where
  nothing : Draft
  -- with a blank before it
  word : (kind : TokenKind) → Draft
  -- with a blank before it only where it would run into what stands there
  tight : (kind : TokenKind) → Draft
  -- the same of a word whose token has these switches
  word_at : (switches : Switches) (kind : TokenKind) → Draft
  tight_at : (switches : Switches) (kind : TokenKind) → Draft
  -- what follows stands where these switches are on
  switch : (switches : Switches) → Draft
  -- what follows begins a line
  line : Draft
  -- from now on lines begin two columns further in, or two less
  indent : Draft
  outdent : Draft
  -- one after the other
  ◌&◌ : (first second : Draft) → Draft

-- ---- drafts of lists

abbrev pub each : List Draft → Draft
each [] = nothing
each (d ∷ ds) = d & each ds

-- each behind a mark
abbrev pub behind : TokenKind → List Draft → Draft
behind mark [] = nothing
behind mark (d ∷ ds) = tight mark & d & behind mark ds

-- with a mark between them
abbrev pub separated : TokenKind → List Draft → Draft
separated mark [] = nothing
separated mark (d ∷ ds) = d & behind mark ds

-- the same in brackets, where there are any
abbrev pub enclosed : TokenKind → TokenKind → TokenKind → List Draft → Draft
enclosed opening mark closing [] = nothing
enclosed opening mark closing (d ∷ ds) = tight opening & separated mark (d ∷ ds) & tight closing

abbrev pub optional : {A : Type 0} → (A → Draft) → Option A → Draft
optional draft None = nothing
optional draft (Some x) = draft x

-- further in; what follows begins a line
abbrev pub indented : Draft → Draft
indented d = indent & d & outdent & line

-- up to `end` on a line of its own
abbrev pub ended : Draft → Draft
ended d = indented d & word kind.End

-- ---- pages

-- What was printed so far, the blanks with which a line begins, how many bytes more fit on this one, and the switches there.
pub record Page : Type 0 where
  pub text : List ℕ
  pub margin : List ℕ
  pub room : ℕ
  pub switches : Switches

-- how many bytes may stand on a line before it is broken
abbrev pub line_length : ℕ
line_length = 100

-- a page with nothing on it
abbrev pub empty_page : Page
empty_page = record { text = []; margin = []; room = line_length; switches = all_off }

-- words that begin and end with these bytes would be one word, or another symbol, or a comment
unfoldable pub runs_together : ℕ → ℕ → Bool
runs_together last first =
    (is_name_byte last && is_name_byte first) ||
    ((nat_eq last 39 && (nat_eq first 39 || nat_eq first 35)) ||
    ((nat_eq last 40 && nat_eq first 42) ||
    ((nat_eq last 47 && nat_eq first 47) ||
    ((nat_eq last 46 && nat_eq first 46) ||
    ((nat_eq last 58 && nat_eq first 61) ||
    ((nat_eq last 60 && (nat_eq first 61 || nat_eq first 62)) ||
    (nat_eq last 62 && nat_eq first 61)))))))

-- a blank, a line feed and an opening bracket have no blank behind them
abbrev pub hugs : ℕ → Bool
hugs last = nat_eq last 32 || (nat_eq last 10 || (nat_eq last 40 || nat_eq last 91))

-- the last byte that was printed, where at the beginning a line begins
abbrev pub last_byte : List ℕ → ℕ
last_byte text = slice_index_or text (length text - 1) 10

abbrev pub first_byte : List ℕ → ℕ
first_byte bytes = slice_index_or bytes 0 32

unfoldable pub wants_gap : Bool → List ℕ → List ℕ → Bool
wants_gap is_tight text bytes = runs_together (last_byte text) (first_byte bytes) || not (is_tight || hugs (last_byte text))

abbrev pub broken : Page → Page
broken page = record { text = page.text ++ 10 ∷ page.margin; margin = page.margin; room = line_length; switches = page.switches }

-- At the beginning of the page a line has begun.
unfoldable pub start_line : Page → Page
start_line page = if nat_eq (length page.text) 0 then page else broken page

-- lines begin two columns further in, or two less
unfoldable pub further_in : Page → Page
further_in page = record { text = page.text; margin = page.margin ++ 32 ∷ 32 ∷ []; room = page.room; switches = page.switches }

unfoldable pub less_far_in : Page → Page
less_far_in page = record { text = page.text; margin = take (length page.margin - 2) page.margin; room = page.room; switches = page.switches }

-- a blank, or a line's end where nothing more fits
unfoldable pub parted : Page → Page
parted page = if nat_eq page.room 0 then broken page else record { text = page.text ++ 32 ∷ []; margin = page.margin; room = page.room; switches = page.switches }

abbrev pub written : List ℕ → Page → Page
written bytes page = record { text = page.text ++ bytes; margin = page.margin; room = page.room - length bytes; switches = page.switches }

-- a word, where it is tight or not
unfoldable pub put : Bool → List ℕ → Page → Page
put is_tight bytes page = written bytes (if wants_gap is_tight page.text bytes then parted page else page)

-- ---- switches

abbrev pub same_state : Bool → Bool → Bool
same_state a b = if a then b else not b

unfoldable pub same_switches : Switches → Switches → Bool
same_switches s t = same_state s.h t.h && (same_state s.q t.q && same_state s.r t.r)

-- `+` or `-`
abbrev pub sign_of : Bool → ℕ
sign_of on = if on then 43 else 45

-- the directive `{$H+,Q-,R-}` with these states
abbrev pub directive_of : Switches → List ℕ
directive_of s = 123 ∷ 36 ∷ 72 ∷ sign_of s.h ∷ 44 ∷ 81 ∷ sign_of s.q ∷ 44 ∷ 82 ∷ sign_of s.r ∷ 125 ∷ []

abbrev pub with_switches : Switches → Page → Page
with_switches s page = record { text = page.text; margin = page.margin; room = page.room; switches = s }

-- a directive, where other switches hold
unfoldable pub switched_to : Switches → Page → Page
switched_to s page = if same_switches s page.switches then page else with_switches s (put false (directive_of s) page)

-- the page behind a draft
abbrev pub after : Page → Draft → Page
after page nothing = page
after page (word k) = put false (spelling k) page
after page (tight k) = put true (spelling k) page
after page (word_at s k) = put false (spelling k) (switched_to s page)
after page (tight_at s k) = put true (spelling k) (switched_to s page)
after page (switch s) = switched_to s page
after page line = start_line page
after page indent = further_in page
after page outdent = less_far_in page
after page (first & second) = after (after page first) second
