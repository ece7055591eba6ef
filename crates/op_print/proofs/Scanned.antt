-- Scanning what is printed gives the tokens of its words.
use Rattle.std.proofs.Common.{◌≡◌, ◌≢◌, ℕ, suc, zero, ◌+◌, ◌-◌, Bool, true, false, cond, ◌&&◌, ◌||◌, List, [], ◌∷◌, ◌++◌, length, ◌⊎◌, inl, inr, take, drop, get_or, refl, sym, ap, ◌∙◌, subst, append_assoc, length-append, arith}
use Rattle.std.specs.Prelude.{decimal, nat_eq, not}
use Rattle.std.proofs.Math.Bool.{and-false}
use Rattle.std.proofs.lemmas.Bool.{and_parts}
use Rattle.std.specs.List.{list_all}
use Rattle.std.proofs.lemmas.Bool.Decides.{nat_tests}
use Rattle.std.proofs.lemmas.List.{get_or-append-add}
use Rattle.op_base.proofs.Tests.{ap₃}
use Rattle.op_base.specs.declared.place.Place.{Place}
use Rattle.op_print.proofs.Directives.{inside_of, directive_stands, directive_effect}
use Rattle.op_print.proofs.Symbols.{spelled}
use Rattle.op_print.proofs.Words.{all_append, decimal_digits, last_all, last_cons, IsApart, IsSpelled}
use Rattle.op_print.specs.Page.{Page, empty_page, Draft, nothing, word, tight, word_at, tight_at, switch, line, indent, outdent, ◌&◌, first_byte, last_byte, runs_together, hugs, wants_gap, broken, start_line, further_in, less_far_in, parted, written, put, same_state, same_switches, directive_of, with_switches, switched_to, after}
use Rattle.op_print.specs.Scanned.{begins_as_name, IsSpellable, AreSpellable, Sign, sign, first_said, AreSaid, AreSigned, signs_before, ScansTo}
use Rattle.op_print.specs.Spelling.{quoted, spelling}
use Rattle.op_scan.proofs.Scanning.{not_empty}
use Rattle.op_scan.proofs.Strings.{append_nil}
use Rattle.op_scan.specs.Byte.{is_blank, is_name_start, is_name_byte, is_digit_in}
use Rattle.op_scan.specs.Item.{a_blank, a_comment, blank}
use Rattle.op_scan.specs.Scan.{Scans, all_off, ends, passes, gives, whole, token_at, place_of, mark_length}
use Rattle.op_scan.specs.declared.number.Base.TheVariants.{Decimal}
use Rattle.op_scan.specs.declared.token.Switches.{Switches}
use Rattle.op_scan.specs.declared.token.Token.{Token}
use Rattle.op_scan.specs.declared.token.TokenKind.{TokenKind}
use Rattle.op_scan.specs.declared.token.TokenKind.TheVariants as kind

-- ---- words

some_bytes : (k : TokenKind) → IsSpellable k → spelling k ≢ []
some_bytes k h =
    let s = spelled k [] h tt in
    not_empty (spelling k) [] s.item s.stands

start_is_no_mark : (x : ℕ) → is_name_start x ≡ true → nat_eq x 239 ≡ false
unfolding is_name_start
start_is_no_mark x h = grind (arith, nat_tests)

digit_is_no_mark : (x : ℕ) → is_digit_in Decimal x ≡ true → nat_eq x 239 ≡ false
unfolding is_digit_in
digit_is_no_mark x h = grind (arith, nat_tests)

name_is_no_mark : (text : List ℕ) → begins_as_name text ≡ true → nat_eq (first_byte text) 239 ≡ false
name_is_no_mark [] h = refl
name_is_no_mark (x ∷ text) h = start_is_no_mark x h

digits_no_mark : (ds : List ℕ) → list_all (is_digit_in Decimal) ds ≡ true → nat_eq (first_byte ds) 239 ≡ false
digits_no_mark [] h = refl
digits_no_mark (x ∷ ds) h = digit_is_no_mark x (and_parts (is_digit_in Decimal x) (list_all (is_digit_in Decimal) ds) h).0

no_mark : (k : TokenKind) → IsSpellable k → nat_eq (first_byte (spelling k)) 239 ≡ false
unfolding quoted
no_mark (kind.Identifier text) h = name_is_no_mark text h.first
no_mark (kind.Number n) h = digits_no_mark (decimal n) (decimal_digits n (omega (arith, h))).0
no_mark k h = refl

-- ---- what is left of a text

-- its tokens, wherever it stands
pub record Tokens (file mark : ℕ) (before : List ℕ) (s : Switches) (rest : List ℕ) (signs : List Sign) : Type 0 where
  pub tokens : List Token
  pub end : Place
  pub scans : Scans file mark before s rest (whole tokens end)
  pub signed : AreSigned tokens signs

-- where these switches hold
abbrev Scanned : Switches → List ℕ → List Sign → Type 0
Scanned s rest signs = (file mark : ℕ) (before : List ℕ) → Tokens file mark before s rest signs

blank_first : (b : ℕ) (s : Switches) (rest : List ℕ) (signs : List Sign) → is_blank b ≡ true → Scanned s rest signs → Scanned s (b ∷ rest) signs
blank_first b s rest signs e h file mark before =
    let r = h file mark (before ++ b ∷ []) in
    record { tokens = r.tokens; end = r.end; scans = passes (b ∷ []) rest a_blank refl (blank e) refl r.scans; signed = r.signed }

blanks_first : (bs : List ℕ) (s : Switches) (rest : List ℕ) (signs : List Sign) → list_all is_blank bs ≡ true → Scanned s rest signs → Scanned s (bs ++ rest) signs
blanks_first [] s rest signs e h = h
blanks_first (b ∷ bs) s rest signs e h =
    let d = and_parts (is_blank b) (list_all is_blank bs) e in
    blank_first b s (bs ++ rest) signs d.0 (blanks_first bs s rest signs d.1 h)

word_first : (k : TokenKind) (o : List Switches) (s : Switches) (rest : List ℕ) (signs : List Sign) → AreSaid o s → IsSpelled k rest → Scanned s rest signs → Scanned s (spelling k ++ rest) (sign k o ∷ signs)
word_first k o s rest signs said w h file mark before =
    let r = h file mark (before ++ spelling k) in
    record {
      tokens = token_at file mark before (spelling k) s k ∷ r.tokens;
      end = r.end;
      scans = gives k (whole r.tokens r.end) (spelling k) rest w.item refl w.stands (w.gives s) r.scans refl;
      signed = (refl, said, r.signed);
    }

-- a directive, behind which its switches hold
directive_first : (s t : Switches) (rest : List ℕ) (signs : List Sign) → Scanned t rest signs → Scanned s (directive_of t ++ rest) signs
directive_first s t rest signs h file mark before =
    let r = h file mark (before ++ directive_of t) in
    record { tokens = r.tokens; end = r.end; scans = passes (directive_of t) rest (a_comment (inside_of t)) refl (directive_stands t rest) (directive_effect s t) r.scans; signed = r.signed }

-- What follows on a page: it does not run into what stands there, begins no byte order mark, and has tokens with these signs.
record Rest (page : Page) (text : List ℕ) (signs : List Sign) : Type 0 where
  rest : List ℕ
  is : text ≡ page.text ++ rest
  apart : IsApart (last_byte page.text) rest
  plain : nat_eq (first_byte rest) 239 ≡ false
  scanned : Scanned page.switches rest signs

feed_apart : (last : ℕ) → runs_together last 10 ≡ false
unfolding runs_together is_name_byte
feed_apart last = simp and-false refl

blank_apart : (last : ℕ) → runs_together last 32 ≡ false
unfolding runs_together is_name_byte
blank_apart last = simp and-false refl

first_apart : (last : ℕ) (w rest : List ℕ) → w ≢ [] → runs_together last (first_byte w) ≡ false → IsApart last (w ++ rest)
first_apart last [] rest n h = absurd (n refl)
first_apart last (x ∷ w) rest n h = h

first_same : (w rest : List ℕ) → w ≢ [] → first_byte (w ++ rest) ≡ first_byte w
first_same [] rest n = absurd (n refl)
first_same (x ∷ w) rest n = refl

get_behind : (xs w : List ℕ) (k : ℕ) → get_or (xs ++ w) (length xs + k) 10 ≡ get_or w k 10
get_behind xs w k = get_or-append-add xs w k 10

last_same : (xs w : List ℕ) → w ≢ [] → last_byte (xs ++ w) ≡ last_byte w
last_same xs [] n = absurd (n refl)
last_same xs (x ∷ w) n =
    let e : length (xs ++ x ∷ w) - 1 ≡ length xs + (length (x ∷ w) - 1) = omega (arith, length-append xs (x ∷ w)) in
    ap (λ k. get_or (xs ++ x ∷ w) k 10) e ∙ get_behind xs (x ∷ w) (length (x ∷ w) - 1)

-- a word behind what stands there
put_here : (k : TokenKind) (o : List Switches) (page : Page) (text : List ℕ) (signs : List Sign) → IsSpellable k → AreSaid o page.switches → runs_together (last_byte page.text) (first_byte (spelling k)) ≡ false → Rest (written (spelling k) page) text signs → Rest page text (sign k o ∷ signs)
put_here k o page text signs h said a r =
    let some = some_bytes k h in
    record {
      rest = spelling k ++ r.rest;
      is = r.is ∙ append_assoc page.text (spelling k) r.rest;
      apart = first_apart (last_byte page.text) (spelling k) r.rest some a;
      plain = ap (λ z. nat_eq z 239) (first_same (spelling k) r.rest some) ∙ no_mark k h;
      scanned = word_first k o page.switches r.rest signs said (spelled k r.rest h (subst (λ z. IsApart z r.rest) (last_same page.text (spelling k) some) r.apart)) r.scanned;
    }

-- a gap behind what stands there
gap_here : (b : ℕ) (others : List ℕ) (page after : Page) (text : List ℕ) (signs : List Sign) → list_all is_blank (b ∷ others) ≡ true → runs_together (last_byte page.text) b ≡ false → nat_eq b 239 ≡ false → after.text ≡ page.text ++ b ∷ others → after.switches ≡ page.switches → Rest after text signs → Rest page text signs
gap_here b others page after text signs e a m t w r = record {
  rest = b ∷ others ++ r.rest;
  is = r.is ∙ ap (λ z. z ++ r.rest) t ∙ append_assoc page.text (b ∷ others) r.rest;
  apart = a;
  plain = m;
  scanned = blanks_first (b ∷ others) page.switches r.rest signs e (subst (λ z. Scanned z r.rest signs) w r.scanned);
}

spaced : (margin : List ℕ) → list_all is_blank margin ≡ true → list_all is_blank (10 ∷ margin) ≡ true
unfolding is_blank
spaced margin e = e

blanks_two : list_all is_blank (32 ∷ 32 ∷ []) ≡ true
unfolding is_blank
blanks_two = refl

blank_one : list_all is_blank (32 ∷ []) ≡ true
unfolding is_blank
blank_one = refl

broken_here : (page : Page) (text : List ℕ) (signs : List Sign) → list_all is_blank page.margin ≡ true → Rest (broken page) text signs → Rest page text signs
broken_here page text signs m r = gap_here 10 page.margin page (broken page) text signs (spaced page.margin m) (feed_apart (last_byte page.text)) refl refl refl r

abbrev blank_behind : Page → Page
blank_behind page = record { text = page.text ++ 32 ∷ []; margin = page.margin; room = page.room; switches = page.switches }

parted_here : (page : Page) (text : List ℕ) (signs : List Sign) → list_all is_blank page.margin ≡ true → Rest (parted page) text signs → Rest page text signs
unfolding parted
parted_here page text signs m r = at (nat_eq page.room 0) r
  where
    at : (b : Bool) → Rest (cond b (broken page) (blank_behind page)) text signs → Rest page text signs
    at true r = broken_here page text signs m r
    at false r = gap_here 32 [] page (blank_behind page) text signs blank_one (blank_apart (last_byte page.text)) refl refl refl r

parted_switches : (page : Page) → (parted page).switches ≡ page.switches
unfolding parted
parted_switches page = at (nat_eq page.room 0)
  where
    at : (b : Bool) → (cond b (broken page) (blank_behind page)).switches ≡ page.switches
    at true = refl
    at false = refl

-- behind a gap nothing runs into a word
blank_is : (b : ℕ) → is_blank b ≡ true → (is_name_byte b ≡ false) × (nat_eq b 39 ≡ false) × (nat_eq b 40 ≡ false) × (nat_eq b 47 ≡ false) × (nat_eq b 46 ≡ false) × (nat_eq b 58 ≡ false) × (nat_eq b 60 ≡ false) × (nat_eq b 62 ≡ false)
unfolding is_blank is_name_byte
blank_is b h = (grind (arith, nat_tests), grind (arith, nat_tests), grind (arith, nat_tests), grind (arith, nat_tests), grind (arith, nat_tests), grind (arith, nat_tests), grind (arith, nat_tests), grind (arith, nat_tests))

blank_runs : (b first : ℕ) → is_blank b ≡ true → runs_together b first ≡ false
unfolding runs_together
blank_runs b first h =
    let n = blank_is b h in
    simp (n.0, n.1, n.2, n.3, n.4, n.5, n.6, n.7) refl

last_blank : (xs : List ℕ) (b : ℕ) (others : List ℕ) → list_all is_blank (b ∷ others) ≡ true → is_blank (last_byte (xs ++ b ∷ others)) ≡ true
last_blank xs b others h = ap is_blank (last_same xs (b ∷ others) (λ e. cc) ∙ last_cons b others) ∙ last_all is_blank b others h

after_gap : (page : Page) (first : ℕ) → list_all is_blank page.margin ≡ true → runs_together (last_byte (parted page).text) first ≡ false
unfolding parted
after_gap page first m = at (nat_eq page.room 0)
  where
    at : (b : Bool) → runs_together (last_byte (cond b (broken page) (blank_behind page)).text) first ≡ false
    at true = blank_runs _ first (last_blank page.text 10 page.margin (spaced page.margin m))
    at false = blank_runs _ first (last_blank page.text 32 [] blank_one)

put_margin : (t : Bool) (bytes : List ℕ) (page : Page) → list_all is_blank page.margin ≡ true → list_all is_blank (put t bytes page).margin ≡ true
unfolding put parted
put_margin t bytes page m = at (wants_gap t page.text bytes) (nat_eq page.room 0)
  where
    at : (a b : Bool) → list_all is_blank (written bytes (cond a (cond b (broken page) (blank_behind page)) page)).margin ≡ true
    at true true = m
    at true false = m
    at false b = m

put_at : (t : Bool) (k : TokenKind) (o : List Switches) (page : Page) (text : List ℕ) (signs : List Sign) → IsSpellable k → AreSaid o page.switches → list_all is_blank page.margin ≡ true → Rest (put t (spelling k) page) text signs → Rest page text (sign k o ∷ signs)
unfolding put wants_gap
put_at t k o page text signs h said m r = at (runs_together (last_byte page.text) (first_byte (spelling k))) (not (t || hugs (last_byte page.text))) refl r
  where
    parted_first : Rest (written (spelling k) (parted page)) text signs → Rest page text (sign k o ∷ signs)
    parted_first r = parted_here page text (sign k o ∷ signs) m (put_here k o (parted page) text signs h (subst (AreSaid o) (sym (parted_switches page)) said) (after_gap page (first_byte (spelling k)) m) r)

    at : (a b : Bool) → runs_together (last_byte page.text) (first_byte (spelling k)) ≡ a → Rest (written (spelling k) (cond (a || b) (parted page) page)) text signs → Rest page text (sign k o ∷ signs)
    at true b e r = parted_first r
    at false true e r = parted_first r
    at false false e r = put_here k o page text signs h said e r

-- ---- directives

brace_apart : (last : ℕ) → runs_together last 123 ≡ false
unfolding runs_together is_name_byte
brace_apart last = simp and-false refl

-- a directive behind what stands there
directive_here : (s : Switches) (page : Page) (text : List ℕ) (signs : List Sign) → Rest (with_switches s (written (directive_of s) page)) text signs → Rest page text signs
directive_here s page text signs r = record {
  rest = directive_of s ++ r.rest;
  is = r.is ∙ append_assoc page.text (directive_of s) r.rest;
  apart = brace_apart (last_byte page.text);
  plain = refl;
  scanned = directive_first page.switches s r.rest signs r.scanned;
}

put_directive : (s : Switches) (page : Page) (text : List ℕ) (signs : List Sign) → list_all is_blank page.margin ≡ true → Rest (with_switches s (put false (directive_of s) page)) text signs → Rest page text signs
unfolding put
put_directive s page text signs m r = at (wants_gap false page.text (directive_of s)) r
  where
    at : (b : Bool) → Rest (with_switches s (written (directive_of s) (cond b (parted page) page))) text signs → Rest page text signs
    at true r = parted_here page text signs m (directive_here s (parted page) text signs r)
    at false r = directive_here s page text signs r

same_is : (a b : Bool) → same_state a b ≡ true → a ≡ b
same_is true b h = sym h
same_is false true h = h
same_is false false h = refl

same_are : (s t : Switches) → same_switches s t ≡ true → t ≡ s
unfolding same_switches
same_are s t h =
    let a = and_parts _ _ h in
    let b = and_parts _ _ a.1 in
    sym (ap₃ (λ h q r. record { h = h; q = q; r = r }) (same_is s.h t.h a.0) (same_is s.q t.q b.0) (same_is s.r t.r b.1))

switched_is : (s : Switches) (page : Page) → (switched_to s page).switches ≡ s
unfolding switched_to
switched_is s page = at (same_switches s page.switches) refl
  where
    at : (b : Bool) → same_switches s page.switches ≡ b → (cond b page (with_switches s (put false (directive_of s) page))).switches ≡ s
    at true e = same_are s page.switches e
    at false e = refl

switched_margin : (s : Switches) (page : Page) → list_all is_blank page.margin ≡ true → list_all is_blank (switched_to s page).margin ≡ true
unfolding switched_to
switched_margin s page m = at (same_switches s page.switches)
  where
    at : (b : Bool) → list_all is_blank (cond b page (with_switches s (put false (directive_of s) page))).margin ≡ true
    at true = m
    at false = put_margin false (directive_of s) page m

switched_here : (s : Switches) (page : Page) (text : List ℕ) (signs : List Sign) → list_all is_blank page.margin ≡ true → Rest (switched_to s page) text signs → Rest page text signs
unfolding switched_to
switched_here s page text signs m r = at (same_switches s page.switches) r
  where
    at : (b : Bool) → Rest (cond b page (with_switches s (put false (directive_of s) page))) text signs → Rest page text signs
    at true r = r
    at false r = put_directive s page text signs m r

-- a word whose token has these switches
put_there : (t : Bool) (s : Switches) (k : TokenKind) (page : Page) (text : List ℕ) (signs : List Sign) → IsSpellable k → list_all is_blank page.margin ≡ true → Rest (put t (spelling k) (switched_to s page)) text signs → Rest page text (sign k (s ∷ []) ∷ signs)
put_there t s k page text signs h m r = switched_here s page text (sign k (s ∷ []) ∷ signs) m (put_at t k (s ∷ []) (switched_to s page) text signs h (switched_is s page, tt) (switched_margin s page m) r)

all_take : (p : ℕ → Bool) (n : ℕ) (xs : List ℕ) → list_all p xs ≡ true → list_all p (take n xs) ≡ true
all_take p zero xs h = refl
all_take p (suc n) [] h = refl
all_take p (suc n) (x ∷ xs) h =
    let d = and_parts (p x) (list_all p xs) h in
    ap (λ t. t && list_all p (take n xs)) d.0 ∙ all_take p n xs d.1

margin_kept : (d : Draft) (page : Page) → list_all is_blank page.margin ≡ true → list_all is_blank (after page d).margin ≡ true
unfolding start_line further_in less_far_in
margin_kept nothing page m = m
margin_kept (word k) page m = put_margin false (spelling k) page m
margin_kept (tight k) page m = put_margin true (spelling k) page m
margin_kept (word_at s k) page m = put_margin false (spelling k) (switched_to s page) (switched_margin s page m)
margin_kept (tight_at s k) page m = put_margin true (spelling k) (switched_to s page) (switched_margin s page m)
margin_kept (switch s) page m = switched_margin s page m
margin_kept line page m = at (nat_eq (length page.text) 0)
  where
    at : (b : Bool) → list_all is_blank (cond b page (broken page)).margin ≡ true
    at true = m
    at false = m
margin_kept indent page m = all_append is_blank page.margin (32 ∷ 32 ∷ []) m blanks_two
margin_kept outdent page m = all_take is_blank (length page.margin - 2) page.margin m
margin_kept (a & b) page m = margin_kept b (after page a) (margin_kept a page m)

same_text : (page next : Page) (text : List ℕ) (signs : List Sign) → next.text ≡ page.text → next.switches ≡ page.switches → Rest next text signs → Rest page text signs
same_text page next text signs e w r = record { rest = r.rest; is = r.is ∙ ap (λ z. z ++ r.rest) e; apart = subst (λ z. IsApart (last_byte z) r.rest) e r.apart; plain = r.plain; scanned = subst (λ z. Scanned z r.rest signs) w r.scanned }

line_here : (page : Page) (text : List ℕ) (signs : List Sign) → list_all is_blank page.margin ≡ true → Rest (start_line page) text signs → Rest page text signs
unfolding start_line
line_here page text signs m r = at (nat_eq (length page.text) 0) r
  where
    at : (b : Bool) → Rest (cond b page (broken page)) text signs → Rest page text signs
    at true r = r
    at false r = broken_here page text signs m r

-- what follows a draft, and the draft in front of it
rest_of : (d : Draft) (page : Page) (text : List ℕ) (signs : List Sign) → AreSpellable d → list_all is_blank page.margin ≡ true → Rest (after page d) text signs → Rest page text (signs_before d signs)
unfolding further_in less_far_in
rest_of nothing page text signs h m r = r
rest_of (word k) page text signs h m r = put_at false k [] page text signs h tt m r
rest_of (tight k) page text signs h m r = put_at true k [] page text signs h tt m r
rest_of (word_at s k) page text signs h m r = put_there false s k page text signs h m r
rest_of (tight_at s k) page text signs h m r = put_there true s k page text signs h m r
rest_of (switch s) page text signs h m r = switched_here s page text signs m r
rest_of line page text signs h m r = line_here page text signs m r
rest_of indent page text signs h m r = same_text page (after page indent) text signs refl refl r
rest_of outdent page text signs h m r = same_text page (after page outdent) text signs refl refl r
rest_of (a & b) page text signs h m r = rest_of a page text (signs_before b signs) h.0 m (rest_of b (after page a) text signs h.1 (margin_kept a page m) r)

-- ---- the switches of the first word

-- no word stands in the draft, and no change of switches
abbrev pub IsWordless : Draft → Type 0
IsWordless (word k) = ⊥
IsWordless (tight k) = ⊥
IsWordless (word_at s k) = ⊥
IsWordless (tight_at s k) = ⊥
IsWordless (switch s) = ⊥
IsWordless (a & b) = IsWordless a × IsWordless b
IsWordless other = Unit {0}

-- the draft begins with a word whose switches it does not say
abbrev pub BeginsWithWord : Draft → Type 0
BeginsWithWord (word k) = Unit {0}
BeginsWithWord (tight k) = Unit {0}
BeginsWithWord (a & b) = BeginsWithWord a ⊎ (IsWordless a × BeginsWithWord b)
BeginsWithWord other = ⊥

wordless_signs : (d : Draft) (signs : List Sign) → IsWordless d → signs_before d signs ≡ signs
wordless_signs (word k) signs h = absurd h
wordless_signs (tight k) signs h = absurd h
wordless_signs (word_at s k) signs h = absurd h
wordless_signs (tight_at s k) signs h = absurd h
wordless_signs (switch s) signs h = absurd h
wordless_signs (a & b) signs h = ap (signs_before a) (wordless_signs b signs h.1) ∙ wordless_signs a signs h.0
wordless_signs other signs h = refl

wordless_switches : (d : Draft) (page : Page) → IsWordless d → (after page d).switches ≡ page.switches
unfolding start_line further_in less_far_in
wordless_switches (word k) page h = absurd h
wordless_switches (tight k) page h = absurd h
wordless_switches (word_at s k) page h = absurd h
wordless_switches (tight_at s k) page h = absurd h
wordless_switches (switch s) page h = absurd h
wordless_switches line page h = at (nat_eq (length page.text) 0)
  where
    at : (b : Bool) → (cond b page (broken page)).switches ≡ page.switches
    at true = refl
    at false = refl
wordless_switches (a & b) page h = wordless_switches b (after page a) h.1 ∙ wordless_switches a page h.0
wordless_switches other page h = refl

-- the same as `rest_of`, where the first word has the switches of the page
rest_first : (s : Switches) (d : Draft) (page : Page) (text : List ℕ) (signs : List Sign) → BeginsWithWord d → AreSpellable d → list_all is_blank page.margin ≡ true → page.switches ≡ s → Rest (after page d) text signs → Rest page text (first_said s (signs_before d signs))
rest_first s (word k) page text signs b h m e r = put_at false k (s ∷ []) page text signs h (e, tt) m r
rest_first s (tight k) page text signs b h m e r = put_at true k (s ∷ []) page text signs h (e, tt) m r
rest_first s (x & y) page text signs (inl b) h m e r = rest_first s x page text (signs_before y signs) b h.0 m e (rest_of y (after page x) text signs h.1 (margin_kept x page m) r)
rest_first s (x & y) page text signs (inr (w, b)) h m e r =
    let inner = rest_first s y (after page x) text signs b h.1 (margin_kept x page m) (wordless_switches x page w ∙ e) r in
    let whole = rest_of x page text (first_said s (signs_before y signs)) h.0 m inner in
    subst (Rest page text) (wordless_signs x (first_said s (signs_before y signs)) w ∙ sym (ap (first_said s) (wordless_signs x (signs_before y signs) w))) whole
rest_first s other page text signs b h m e r = absurd b

at_end : (page : Page) → Rest page page.text []
at_end page = record {
  rest = [];
  is = sym (append_nil page.text);
  apart = tt;
  plain = refl;
  scanned = λ file mark before. record { tokens = []; end = place_of file before; scans = ends; signed = tt };
}

-- ---- the whole text

turned : (x : ℕ) → nat_eq x 239 ≡ false → nat_eq 239 x ≡ false
turned x h = grind (arith, nat_tests)

mark_is_none : (text : List ℕ) → nat_eq (first_byte text) 239 ≡ false → mark_length text ≡ 0
unfolding mark_length
mark_is_none [] h = refl
mark_is_none (x ∷ text) h =
    let e = turned x h in
    rw e refl

whole_text : (text : List ℕ) (signs : List Sign) → Rest empty_page text signs → (file : ℕ) → ScansTo file text signs
whole_text text signs r file =
    let t = r.scanned file (mark_length text) [] in
    let n : mark_length text ≡ 0 = mark_is_none text (ap (λ z. nat_eq (first_byte z) 239) r.is ∙ r.plain) in
    record {
      tokens = t.tokens;
      end = t.end;
      outcome = subst (λ z. Scans file (mark_length text) [] all_off z (whole t.tokens t.end)) (sym (ap (λ k. drop k text) n ∙ r.is)) t.scans;
      signed = t.signed;
    }

pub scanned_text : (d : Draft) → AreSpellable d → (file : ℕ) → ScansTo file (after empty_page d).text (signs_before d [])
scanned_text d h file =
    let text = (after empty_page d).text in
    whole_text text (signs_before d []) (rest_of d empty_page text [] h refl (at_end (after empty_page d))) file

-- where the first word has these switches
pub scanned_first : (s : Switches) (d : Draft) → BeginsWithWord d → AreSpellable d → (file : ℕ) → ScansTo file (after empty_page (switch s & d)).text (first_said s (signs_before d []))
scanned_first s d b h file =
    let page = switched_to s empty_page in
    let text = (after page d).text in
    let signs = first_said s (signs_before d []) in
    let m = switched_margin s empty_page refl in
    whole_text text signs (switched_here s empty_page text signs refl (rest_first s d page text [] b h m (switched_is s empty_page) (at_end (after page d)))) file
