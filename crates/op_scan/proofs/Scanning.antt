-- The loop over a text, and that a text has one outcome.
use Rattle.std.proofs.Common.{◌≡◌, ◌≢◌, ℕ, ◌+◌, ◌^◌, ◌<◌, ◌≤◌, List, [], ◌∷◌, ◌++◌, take, drop, length, Some, None, Result, Ok, Err, refl, sym, ap, ◌∙◌, subst, append_assoc, length-append, arith}
use Rattle.std.proofs.lemmas.List.{take-append-drop, length-take, length-drop, nil_from_length}
use Rattle.op_base.specs.declared.place.Place.{Place}
use Rattle.op_base.specs.declared.rule.Refusal.{Refusal}
use Rattle.op_base.specs.declared.rule.Rule.{Rule}
use Rattle.op_scan.proofs.Items.{Stands-unique, append_cancel, no_symbol_empty}
use Rattle.op_scan.proofs.Places.{place_bounds, place_begin}
use Rattle.op_scan.proofs.Strings.{append_nil}
use Rattle.op_scan.specs.Comment.{opening, closing}
use Rattle.op_scan.specs.Item.{Item, Stands, blank, line_comment, comment, name, number, string, symbol, IsFront, stands, nothing as no_front, effect_of, rule_without}
use Rattle.op_scan.specs.Literal.{mark_of}
use Rattle.op_scan.specs.Scan.{place_of, Outcome, whole, refused, preceded, Scans, ends, passes, gives, breaks, nothing, token_at, all_off, Answers, IsOutcome, IsAnswer}
use Rattle.op_scan.specs.Symbol.{symbol_of}
use Rattle.op_scan.specs.declared.comment.Marks.{Marks}
use Rattle.op_scan.specs.declared.comment.Marks.TheVariants.{Braces, Stars}
use Rattle.op_scan.specs.declared.effect.Effect.{Effect}
use Rattle.op_scan.specs.declared.effect.Effect.TheVariants.{Passes, Gives, Breaks}
use Rattle.op_scan.specs.declared.number.Base.{Base}
use Rattle.op_scan.specs.declared.number.Base.TheVariants.{Decimal, Hexadecimal, Octal, Binary}
use Rattle.op_scan.specs.declared.token.ScanError.{ScanError}
use Rattle.op_scan.specs.declared.token.ScanError.TheVariants.{Refused, NoMemory}
use Rattle.op_scan.specs.declared.token.Switches.{Switches}
use Rattle.op_scan.specs.declared.token.Token.{Token}
use Rattle.op_scan.specs.declared.token.TokenKind.{TokenKind}
use Rattle.op_scan.specs.declared.token.Tokens.{Tokens}

-- ---- an item has bytes

number_not_empty : (base : Base) (digits : List ℕ) → digits ≢ [] → mark_of base ++ digits ≢ []
number_not_empty Decimal digits n e = n e
number_not_empty Hexadecimal digits n e = absurd cc
number_not_empty Octal digits n e = absurd cc
number_not_empty Binary digits n e = absurd cc

comment_not_empty : (marks : Marks) (inside : List ℕ) → opening marks ++ inside ≢ []
comment_not_empty Braces inside e = absurd cc
comment_not_empty Stars inside e = absurd cc

pub not_empty : (piece rest : List ℕ) (item : Item) → Stands piece rest item → piece ≢ []
not_empty piece rest item (blank h) e = absurd cc
not_empty piece rest item (line_comment h) e = absurd cc
not_empty piece rest item (comment marks {inside = inside} d) e = comment_not_empty marks inside (append_empty (opening marks ++ inside) (closing marks) e)
  where
    append_empty : (xs ys : List ℕ) → xs ++ ys ≡ [] → xs ≡ []
    append_empty [] ys e = refl
    append_empty (x ∷ xs) ys e = absurd cc
not_empty piece rest item (name h w) e = absurd cc
not_empty piece rest item (number base {digits = digits} d) e = number_not_empty base digits d.some e
not_empty piece rest item (string n d) e = n e
not_empty piece rest item (symbol s l n m) e = absurd (none_some (sym no_symbol_empty ∙ ap symbol_of (sym e) ∙ s))
  where
    none_some : {x : TokenKind} → None ≡ Some x → ⊥
    none_some e = absurd cc

-- ---- one outcome

-- what follows is decided by the bytes
module _ (bytes p r p' r' : List ℕ) (i i' : Item) (e : bytes ≡ p ++ r) (h : Stands p r i) (e' : bytes ≡ p' ++ r') (h' : Stands p' r' i') where
  same_piece : p ≡ p'
  same_piece = (Stands-unique bytes p r p' r' e e' i i' h h').0

  same_item : i ≡ i'
  same_item = (Stands-unique bytes p r p' r' e e' i i' h h').1

  same_after : r ≡ r'
  same_after = append_cancel p r r' (sym e ∙ e' ∙ ap (λ z. z ++ r') (sym same_piece))

passes_same : {s t : Switches} → Passes s ≡ Passes t → s ≡ t
passes_same e = cc

pub gives_same : {s t : TokenKind} → Gives s ≡ Gives t → s ≡ t
gives_same e = cc

breaks_same : {s t : Rule} → Breaks s ≡ Breaks t → s ≡ t
breaks_same e = cc

passes≢gives : {s : Switches} {k : TokenKind} → Passes s ≡ Gives k → ⊥
passes≢gives e = absurd cc

pub passes≢breaks : {s : Switches} {k : Rule} → Passes s ≡ Breaks k → ⊥
passes≢breaks e = absurd cc

pub gives≢breaks : {s : TokenKind} {k : Rule} → Gives s ≡ Breaks k → ⊥
gives≢breaks e = absurd cc

not_nil : (piece rest : List ℕ) (item : Item) → [] ≡ piece ++ rest → Stands piece rest item → ⊥
not_nil [] rest item e h = not_empty [] rest item h refl
not_nil (x ∷ piece) rest item e h = absurd cc

moved_back : (file mark : ℕ) (before p p' r r' : List ℕ) (s s' : Switches) (o : Outcome) → p ≡ p' → r ≡ r' → s ≡ s' → Scans file mark (before ++ p') s' r' o → Scans file mark (before ++ p) s r o
moved_back file mark before p p' r r' s s' o e f g d =
    subst (λ z. Scans file mark (before ++ z) s r o) (sym e) (subst (λ z. Scans file mark (before ++ p') s z o) (sym f) (subst (λ z. Scans file mark (before ++ p') z r' o) (sym g) d))

-- two items at one place do the same
same_effect : (bytes p r p' r' : List ℕ) (i i' : Item) (s : Switches) (x x' : Effect) → bytes ≡ p ++ r → Stands p r i → effect_of s i ≡ x → bytes ≡ p' ++ r' → Stands p' r' i' → effect_of s i' ≡ x' → x ≡ x'
same_effect bytes p r p' r' i i' s x x' e h f e' h' f' = sym f ∙ ap (effect_of s) (same_item bytes p r p' r' i i' e h e' h') ∙ f'

pub Scans-unique : (file mark : ℕ) (before : List ℕ) (s : Switches) (bytes : List ℕ) (o : Outcome) → Scans file mark before s bytes o → (o' : Outcome) → Scans file mark before s bytes o' → o ≡ o'
Scans-unique file mark before s bytes o ends o' ends = refl
Scans-unique file mark before s bytes o ends o' (passes p r i e h f d) = absurd (not_nil p r i e h)
Scans-unique file mark before s bytes o ends o' (gives k q p r i e h f d a) = absurd (not_nil p r i e h)
Scans-unique file mark before s bytes o ends o' (breaks k p r i e h f a) = absurd (not_nil p r i e h)
Scans-unique file mark before s bytes o ends o' (nothing some none a) = absurd (some refl)
Scans-unique file mark before s bytes o (passes p r i e h f d) o' ends = absurd (not_nil p r i e h)
Scans-unique file mark before s bytes o (passes {next = t} p r i e h f d) o' (passes {next = t'} p' r' i' e' h' f' d') =
    Scans-unique file mark (before ++ p) t r o d o'
    (moved_back file mark before p p' r r' t t' o' (same_piece bytes p r p' r' i i' e h e' h') (same_after bytes p r p' r' i i' e h e' h') (passes_same (same_effect bytes p r p' r' i i' s _ _ e h f e' h' f')) d')
Scans-unique file mark before s bytes o (passes p r i e h f d) o' (gives k q p' r' i' e' h' f' d' a) = absurd (passes≢gives (same_effect bytes p r p' r' i i' s _ _ e h f e' h' f'))
Scans-unique file mark before s bytes o (passes p r i e h f d) o' (breaks k p' r' i' e' h' f' a) = absurd (passes≢breaks (same_effect bytes p r p' r' i i' s _ _ e h f e' h' f'))
Scans-unique file mark before s bytes o (passes p r i e h f d) o' (nothing some none a) = absurd (none p r i e h)
Scans-unique file mark before s bytes o (gives k q p r i e h f d a) o' ends = absurd (not_nil p r i e h)
Scans-unique file mark before s bytes o (gives k q p r i e h f d a) o' (passes p' r' i' e' h' f' d') = absurd (passes≢gives (same_effect bytes p' r' p r i' i s _ _ e' h' f' e h f))
Scans-unique file mark before s bytes o (gives k q p r i e h f d a) o' (gives k' q' p' r' i' e' h' f' d' a') =
    let piece = same_piece bytes p r p' r' i i' e h e' h' in
    let rest = same_after bytes p r p' r' i i' e h e' h' in
    let kind = gives_same (same_effect bytes p r p' r' i i' s _ _ e h f e' h' f') in
    let others = Scans-unique file mark (before ++ p) s r q d q' (moved_back file mark before p p' r r' s s q' piece rest refl d') in
    a ∙ ap (λ z. preceded (token_at file mark before p s k) z) others
    ∙ ap (λ z. preceded (token_at file mark before z s k) q') piece ∙ ap (λ z. preceded (token_at file mark before p' s z) q') kind ∙ sym a'
Scans-unique file mark before s bytes o (gives k q p r i e h f d a) o' (breaks k' p' r' i' e' h' f' a') = absurd (gives≢breaks (same_effect bytes p r p' r' i i' s _ _ e h f e' h' f'))
Scans-unique file mark before s bytes o (gives k q p r i e h f d a) o' (nothing some none a') = absurd (none p r i e h)
Scans-unique file mark before s bytes o (breaks k p r i e h f a) o' ends = absurd (not_nil p r i e h)
Scans-unique file mark before s bytes o (breaks k p r i e h f a) o' (passes p' r' i' e' h' f' d') = absurd (passes≢breaks (same_effect bytes p' r' p r i' i s _ _ e' h' f' e h f))
Scans-unique file mark before s bytes o (breaks k p r i e h f a) o' (gives k' q p' r' i' e' h' f' d' a') = absurd (gives≢breaks (same_effect bytes p' r' p r i' i s _ _ e' h' f' e h f))
Scans-unique file mark before s bytes o (breaks k p r i e h f a) o' (breaks k' p' r' i' e' h' f' a') =
    a ∙ ap (λ (z : Rule). let x : Refusal = record { rule = z; place = place_of file before } in refused x) (breaks_same (same_effect bytes p r p' r' i i' s _ _ e h f e' h' f')) ∙ sym a'
Scans-unique file mark before s bytes o (breaks k p r i e h f a) o' (nothing some none a') = absurd (none p r i e h)
Scans-unique file mark before s bytes o (nothing some none a) o' ends = absurd (some refl)
Scans-unique file mark before s bytes o (nothing some none a) o' (passes p r i e h f d) = absurd (none p r i e h)
Scans-unique file mark before s bytes o (nothing some none a) o' (gives k q p r i e h f d a') = absurd (none p r i e h)
Scans-unique file mark before s bytes o (nothing some none a) o' (breaks k p r i e h f a') = absurd (none p r i e h)
Scans-unique file mark before s bytes o (nothing some none a) o' (nothing some' none' a') = a ∙ sym a'

-- so an answer is the only one, but for want of memory
pub only_answer : (file : ℕ) (bytes : List ℕ) (r : Result Tokens ScanError) → Answers file bytes r → (o : Outcome) → IsOutcome file bytes o → IsAnswer o r
only_answer file bytes (Ok tokens) a o d = subst (λ z. IsAnswer z (Ok tokens)) (Scans-unique _ _ _ _ _ _ a o d) (refl, refl)
only_answer file bytes (Err (Refused refusal)) a o d = subst (λ z. IsAnswer z (Err (Refused refusal))) (Scans-unique _ _ _ _ _ _ a o d) refl
only_answer file bytes (Err NoMemory) a (whole tokens end) d = tt
only_answer file bytes (Err NoMemory) a (refused refusal) d = tt

-- ---- the tokens so far

abbrev pub after_all : List Token → Outcome → Outcome
after_all tokens (whole others end) = whole (tokens ++ others) end
after_all tokens (refused refusal) = refused refusal

after_nil : (o : Outcome) → after_all [] o ≡ o
after_nil (whole others end) = refl
after_nil (refused refusal) = refl

after_push : (tokens : List Token) (token : Token) (o : Outcome) → after_all (tokens ++ token ∷ []) o ≡ after_all tokens (preceded token o)
after_push tokens token (whole others end) = ap (λ z. whole z end) (append_assoc tokens (token ∷ []) others)
after_push tokens token (refused refusal) = refl

-- the rest of the text decides
pub record ScanSoFar (file mark : ℕ) (text rest : List ℕ) (first : ℕ) (place : Place) (s : Switches) (tokens : List Token) : Type 0 where
  pub before : List ℕ
  pub parts : text ≡ before ++ rest
  pub first_is : first ≡ mark + length before
  pub place_is : place ≡ place_of file before
  pub completes : (o : Outcome) → Scans file mark before s rest o → Scans file mark [] all_off text (after_all tokens o)

pub scan_begins : (file mark : ℕ) (text : List ℕ) → ScanSoFar file mark text text mark (record { file = file; line = 1; col = 1 }) all_off []
scan_begins file mark text = record {
  before = [];
  parts = refl;
  first_is = omega arith;
  place_is = sym (place_begin file);
  completes = λ o d. subst (λ z. Scans file mark [] all_off text z) (sym (after_nil o)) d;
}

-- an item that breaks no rule
record Found (s : Switches) (bytes : List ℕ) (n : ℕ) (effect : Effect) : Type 0 where
  item : Item
  stands_there : Stands (take n bytes) (drop n bytes) item
  is : effect_of s item ≡ effect

found : {s : Switches} {bytes : List ℕ} {n : ℕ} {effect : Effect} → IsFront s bytes n effect → ((r : Rule) → effect ≢ Breaks r) → Found s bytes n effect
found (stands item le h e) n = record { item = item; stands_there = h; is = sym e }
found {bytes = bytes} (no_front z none e) n = absurd (n (rule_without bytes) e)

pub front_within : {s : Switches} {bytes : List ℕ} {n : ℕ} {effect : Effect} → IsFront s bytes n effect → n ≤ length bytes
front_within (stands item le h e) = le
front_within (no_front z none e) = omega (arith, z)

pub front_moves : {s : Switches} {bytes : List ℕ} {n : ℕ} {effect : Effect} → IsFront s bytes n effect → ((r : Rule) → effect ≢ Breaks r) → length (drop n bytes) < length bytes
front_moves {bytes = bytes} {n = n} f some_item =
    let g = found f some_item in
    let le = front_within f in
    let some : length (take n bytes) ≢ 0 = λ e. not_empty (take n bytes) (drop n bytes) g.item g.stands_there (nil_from_length (take n bytes) e) in
    omega (arith, le, some, length-take n bytes, length-drop n bytes)

module _ (file mark : ℕ) (text rest : List ℕ) (first : ℕ) (place : Place) (s : Switches) (tokens : List Token) (h : ScanSoFar file mark text rest first place s tokens) where
  file_is : place.file ≡ file
  unfolding place_of
  file_is = ap (λ p. p.file) h.place_is

  moved : (n : ℕ) (next : Place) → ((before : List ℕ) → place ≡ place_of place.file before → next ≡ place_of place.file (before ++ take n rest)) → next ≡ place_of file (h.before ++ take n rest)
  moved n next follows =
      follows h.before (h.place_is ∙ ap (λ f. place_of f h.before) (sym file_is)) ∙ ap (λ f. place_of f (h.before ++ take n rest)) file_is

  cut_parts : (n : ℕ) → text ≡ (h.before ++ take n rest) ++ drop n rest
  cut_parts n = h.parts ∙ ap (λ z. h.before ++ z) (sym (take-append-drop n rest)) ∙ sym (append_assoc h.before (take n rest) (drop n rest))

  cut_first : (n : ℕ) → n ≤ length rest → first + n ≡ mark + length (h.before ++ take n rest)
  cut_first n le = omega (arith, h.first_is, length-append h.before (take n rest), length-take n rest)

  pub scan_passes : (n : ℕ) (effect : Effect) (next : Switches) → IsFront s rest n effect → effect ≡ Passes next → (there : Place) → ((before : List ℕ) → place ≡ place_of place.file before → there ≡ place_of place.file (before ++ take n rest)) → ScanSoFar file mark text (drop n rest) (first + n) there next tokens
  scan_passes n effect next f e there follows =
      let g = found f (λ r b. passes≢breaks (sym e ∙ b)) in
      record {
        before = h.before ++ take n rest;
        parts = cut_parts n;
        first_is = cut_first n (front_within f);
        place_is = moved n there follows;
        completes = λ o d. h.completes o (passes (take n rest) (drop n rest) g.item (sym (take-append-drop n rest)) g.stands_there (g.is ∙ e) d);
      }

  pub scan_gives : (n : ℕ) (effect : Effect) (kind : TokenKind) → IsFront s rest n effect → effect ≡ Gives kind → (there : Place) → ((before : List ℕ) → place ≡ place_of place.file before → there ≡ place_of place.file (before ++ take n rest)) → (newer : List Token) → newer ≡ tokens ++ (record { kind = kind; span = record { first = first; past = first + n }; place = place; switches = s }) ∷ [] → ScanSoFar file mark text (drop n rest) (first + n) there s newer
  scan_gives n effect kind f e there follows newer new =
      let g = found f (λ r b. gives≢breaks (sym e ∙ b)) in
      let le = front_within f in
      let past : first + n ≡ mark + length h.before + length (take n rest) = omega (arith, h.first_is, le, length-take n rest) in
      let token : ◌≡◌ {A = Token} (record { kind = kind; span = record { first = first; past = first + n }; place = place; switches = s }) (token_at file mark h.before (take n rest) s kind) =
      ap (λ (z : ℕ). let t : Token = record { kind = kind; span = record { first = z; past = first + n }; place = place; switches = s } in t) h.first_is
      ∙ ap (λ (z : ℕ). let t : Token = record { kind = kind; span = record { first = mark + length h.before; past = z }; place = place; switches = s } in t) past
      ∙ ap (λ (z : Place). let t : Token = record { kind = kind; span = record { first = mark + length h.before; past = mark + length h.before + length (take n rest) }; place = z; switches = s } in t) h.place_is
      in
      record {
        before = h.before ++ take n rest;
        parts = cut_parts n;
        first_is = cut_first n le;
        place_is = moved n there follows;
        completes = λ o d.
            subst (λ z. Scans file mark [] all_off text z)
            (sym (ap (λ z. after_all z o) (new ∙ ap (λ t. tokens ++ t ∷ []) token) ∙ after_push tokens (token_at file mark h.before (take n rest) s kind) o))
            (h.completes (preceded (token_at file mark h.before (take n rest) s kind) o)
            (gives kind o (take n rest) (drop n rest) g.item (sym (take-append-drop n rest)) g.stands_there (g.is ∙ e) d refl));
      }

  refusal_is : (r : Rule) → ◌≡◌ {A = Outcome} (refused (record { rule = r; place = place })) (refused (record { rule = r; place = place_of file h.before }))
  refusal_is r = ap (λ (z : Place). let p : Refusal = record { rule = r; place = z } in refused p) h.place_is

  pub scan_breaks : (n : ℕ) (effect : Effect) (r : Rule) → IsFront s rest n effect → effect ≡ Breaks r → rest ≢ [] → Scans file mark [] all_off text (refused (record { rule = r; place = place }))
  scan_breaks n effect r (stands item le g e) b some =
      h.completes (refused (record { rule = r; place = place })) (breaks r (take n rest) (drop n rest) item (sym (take-append-drop n rest)) g (sym e ∙ b) (refusal_is r))
  scan_breaks n effect r (no_front z none e) b some =
      h.completes (refused (record { rule = r; place = place }))
      (nothing some none (refusal_is r ∙ ap (λ (x : Rule). let p : Refusal = record { rule = x; place = place_of file h.before } in refused p) (breaks_same (sym b ∙ e))))

  pub scan_ends : rest ≡ [] → Scans file mark [] all_off text (whole tokens place)
  scan_ends e =
      subst (λ z. Scans file mark [] all_off text (whole z place)) (append_nil tokens)
      (subst (λ p. Scans file mark [] all_off text (whole (tokens ++ []) p)) (sym h.place_is)
      (h.completes (whole [] (place_of file h.before)) (subst (λ z. Scans file mark h.before s z (whole [] (place_of file h.before))) (sym e) ends)))

  -- the numbers of a text of at most 2 ^ 31 bytes
  pub scan_bounds : (n : ℕ) → n ≤ length rest → (mark + length text ≤ 2 ^ 31) → (first + n ≤ 2 ^ 31) × (place.line + n ≤ 1 + 2 ^ 31) × (place.col + n ≤ 1 + 2 ^ 31)
  scan_bounds n le small =
      let b = place_bounds file h.before in
      let line : place.line ≡ (place_of file h.before).line = ap (λ p. p.line) h.place_is in
      let col : place.col ≡ (place_of file h.before).col = ap (λ p. p.col) h.place_is in
      let len = ap length h.parts in
      let sum = length-append h.before rest in
      (omega (arith, h.first_is, le, small, len, sum), omega (arith, b.0, line, le, small, len, sum), omega (arith, b.1, col, le, small, len, sum))
