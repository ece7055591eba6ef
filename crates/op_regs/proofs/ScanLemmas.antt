-- What the scan keeps where a register gets a home.
use Rattle.std.proofs.Common.{◌≡◌, ◌≢◌, ◌<◌, ◌≤◌, ◌+◌, ◌⊎◌, ℕ, zero, suc, Bool, true, false, List, [], ◌∷◌, length, cond, get_or, Option, Some, None, refl, sym, ap, ◌∙◌, subst, inl, inr, arith}
use Rattle.std.specs.Prelude.{nat_eq, nat_lt, if◌then◌else◌, replicate}
use Rattle.std.proofs.Math.ListN.{set}
use Rattle.std.proofs.lemmas.Bool.{both_ways, cases_eq, eq-eqb, ltb-false, ltb-true, ne_eqb}
use Rattle.std.proofs.lemmas.Bool.Decides.{nat_tests}
use Rattle.std.proofs.lemmas.List.{length-replicate, length-set}
use Rattle.std.proofs.lemmas.List.Sums.{sum_by-set}
use Rattle.std.proofs.lemmas.Option.{same_Some, slice_get-get_or}
use Rattle.op_regs.specs.Homes.{given}
use Rattle.op_regs.specs.Liveness.{most}
use Rattle.op_regs.specs.Scanning.{AreFair, Covers, Crowd, Holders, Homes, AreRuns, IsBusy, IsFair, IsFirstBelow, IsNext, IsNextBelow, IsOver, LeftFrom, Spans, count_left, ends_before, first_of, free_by, is_free, is_left, next_at, next_by}
use Rattle.op_regs.specs.Tables.{entry, or_none}
use Rattle.op_regs.specs.declared.home.Home.{Home}
use Rattle.op_regs.specs.declared.home.Home.TheVariants.{Frame, Reg}
use Rattle.op_regs.specs.declared.interval.Interval.{Interval}
use Rattle.op_regs.specs.declared.scan.Next.{Next}
use Rattle.op_regs.specs.declared.scan.Scan.{Scan}
use Rattle.op_regs.proofs.TableLemmas.{Puts, counted, entry_within, set_puts}

-- ---- the registers that are given out differ

given_once : (j k : ℕ) → j < most → k < most → given j ≡ given k → j ≡ k
given_once j k few less same = grind (arith, nat_tests, same)

same_number : (j k : ℕ) → Some (Reg j) ≡ Some (Reg k) → j ≡ k
same_number j k e = cc

no_home : {A : Type 0} {x : A} → Some x ≡ None → ⊥
no_home e = absurd cc

no_word : {n w : ℕ} → Some (Reg n) ≡ Some (Frame w) → ⊥
no_word e = absurd cc

module _ (span : Spans) (home new_home : Homes) (holder new_holder : Holders) (words : ℕ) (fair : AreFair span home holder words) where
  -- ---- a register of the machine that is free is given to the next register

  module _ (r k : ℕ) (i : Interval) (few : k < most) (left : home r ≡ None) (is : span r ≡ Some i) (first : LeftFrom span home i.first) (free : (h : ℕ) (j : Interval) → holder k ≡ Some h → span h ≡ Some j → j.last < i.first) (given_home : Puts home new_home r (Some (Reg (given k)))) (holding : Puts holder new_holder k (Some r)) where
    -- what is left then was left before
    still_left : (s : ℕ) → new_home s ≡ None → (s ≢ r) × (home s ≡ None)
    still_left s none =
        let apart : s ≢ r = λ e. no_home (sym given_home.here ∙ ap new_home (sym e) ∙ none) in
        (apart, sym (given_home.elsewhere s apart) ∙ none)

    still_over : (j : Interval) → IsOver span home j → IsOver span new_home j
    still_over j over = λ s l none at_s. over s l (still_left s none).1 at_s

    had : (s : ℕ) (x : Home) → s ≢ r → new_home s ≡ Some x → home s ≡ Some x
    had s x apart e = sym (given_home.elsewhere s apart) ∙ e

    its_home : (s : ℕ) (x : Home) → s ≡ r → new_home s ≡ Some x → x ≡ Reg (given k)
    its_home s x e at_s = same_Some _ _ (sym at_s ∙ ap new_home e ∙ given_home.here)

    its_span : (s : ℕ) (j : Interval) → s ≡ r → span s ≡ Some j → j ≡ i
    its_span s j e at_s = same_Some _ _ (sym at_s ∙ ap span e ∙ is)

    -- what has had this register of the machine ends before
    others_end : (s : ℕ) (j : Interval) → home s ≡ Some (Reg (given k)) → span s ≡ Some j → j.last < i.first
    others_end s j at_s is_s =
        elim (fair.held s k j few at_s is_s) [
          | inl holds ↦ free s j holds is_s
          | inr over ↦ over r i left is
        ]

    gives_order : (s : ℕ) (x : Home) (j : Interval) → new_home s ≡ Some x → span s ≡ Some j → LeftFrom span new_home j.first
    gives_order s x j at_s is_s = λ t l none is_t.
        elim (cases_eq s r) [
          | inl e ↦ let same : j ≡ i = its_span s j e is_s in subst (λ (m : Interval). m.first ≤ l.first) (sym same) (first t l (still_left t none).1 is_t)
          | inr apart ↦ fair.order s x j (had s x apart at_s) is_s t l (still_left t none).1 is_t
        ]

    gives_apart : (s t : ℕ) (x : Home) (j l : Interval) → s ≢ t → new_home s ≡ Some x → new_home t ≡ Some x → span s ≡ Some j → span t ≡ Some l → j.first ≤ l.last → l.first ≤ j.last → ⊥
    gives_apart s t x j l differ at_s at_t is_s is_t before behind =
        elim (cases_eq s r) [
          | inl es ↦ elim (cases_eq t r) [
            | inl et ↦ differ (es ∙ sym et)
            | inr apart ↦
                let ends : l.last < i.first = others_end t l (had t x apart at_t ∙ ap Some (its_home s x es at_s)) is_t in
                let begins : j.first ≡ i.first = ap (λ (m : Interval). m.first) (its_span s j es is_s) in
                absurd (omega (arith, ends, begins, before))
          ]
          | inr apart ↦ elim (cases_eq t r) [
            | inl et ↦
                let ends : j.last < i.first = others_end s j (had s x apart at_s ∙ ap Some (its_home t x et at_t)) is_s in
                let begins : l.first ≡ i.first = ap (λ (m : Interval). m.first) (its_span t l et is_t) in
                absurd (omega (arith, ends, begins, behind))
            | inr also ↦ fair.apart s t x j l differ (had s x apart at_s) (had t x also at_t) is_s is_t before behind
          ]
        ]

    gives_held : (s n : ℕ) (j : Interval) → n < most → new_home s ≡ Some (Reg (given n)) → span s ≡ Some j → (new_holder n ≡ Some s) ⊎ IsOver span new_home j
    gives_held s n j less at_s is_s =
        elim (cases_eq s r) [
          | inl e ↦
              let numbers : given n ≡ given k = same_number _ _ (ap Some (its_home s (Reg (given n)) e at_s)) in
              let same : n ≡ k = given_once n k less few numbers in
              inl (ap new_holder same ∙ holding.here ∙ ap Some (sym e))
          | inr apart ↦ elim (fair.held s n j less (had s (Reg (given n)) apart at_s) is_s) [
            | inl holds ↦ elim (cases_eq n k) [
              | inl same ↦
                  let ends : j.last < i.first = free s j (ap holder (sym same) ∙ holds) is_s in
                  inr (λ t l none is_t. let later : i.first ≤ l.first = first t l (still_left t none).1 is_t in omega (arith, ends, later))
              | inr other ↦ inl (holding.elsewhere n other ∙ holds)
            ]
            | inr over ↦ inr (still_over j over)
          ]
        ]

    gives_holds : (n h : ℕ) → n < most → new_holder n ≡ Some h → new_home h ≡ Some (Reg (given n))
    gives_holds n h less holds =
        elim (cases_eq n k) [
          | inl same ↦
              let it : h ≡ r = same_Some _ _ (sym holds ∙ ap new_holder same ∙ holding.here) in
              ap new_home it ∙ given_home.here ∙ ap (λ m. Some (Reg (given m))) (sym same)
          | inr other ↦
              let had_it : home h ≡ Some (Reg (given n)) = fair.holds n h less (sym (holding.elsewhere n other) ∙ holds) in
              let apart : h ≢ r = λ e. no_home (sym had_it ∙ ap home e ∙ left) in
              given_home.elsewhere h apart ∙ had_it
        ]

    pub gives : AreFair span new_home new_holder words
    gives =
        record {
          runs = fair.runs;
          taken = λ s x at_s. elim (cases_eq s r) [ inl e ↦ (i, ap span e ∙ is) | inr apart ↦ fair.taken s x (had s x apart at_s) ];
          order = gives_order;
          apart = gives_apart;
          below = λ s w at_s. elim (cases_eq s r) [ inl e ↦ absurd (no_word (ap Some (sym (its_home s (Frame w) e at_s)))) | inr apart ↦ fair.below s w (had s (Frame w) apart at_s) ];
          held = gives_held;
          holds = gives_holds;
          numbers = λ s n at_s. elim (cases_eq s r) [ inl e ↦ (k, few, same_number _ _ (ap Some (its_home s (Reg n) e at_s))) | inr apart ↦ fair.numbers s n (had s (Reg n) apart at_s) ];
          crowded = λ s w at_s. elim (cases_eq s r) [ inl e ↦ absurd (no_word (ap Some (sym (its_home s (Frame w) e at_s)))) | inr apart ↦ fair.crowded s w (had s (Frame w) apart at_s) ];
        }

  -- ---- a register gets a word of the frame

  module _ (f : ℕ) (i : Interval) (is : span f ≡ Some i) (first : (s : ℕ) (j : Interval) → s ≢ f → home s ≡ None → span s ≡ Some j → i.first ≤ j.first) (crowd : Crowd span f) (word_home : Puts home new_home f (Some (Frame words))) (stay : (k h : ℕ) → k < most → h ≢ f → holder k ≡ Some h → new_holder k ≡ Some h) (were : (k h : ℕ) → k < most → new_holder k ≡ Some h → (h ≢ f) × (holder k ≡ Some h)) where
    left_before : (s : ℕ) → new_home s ≡ None → (s ≢ f) × (home s ≡ None)
    left_before s none =
        let apart : s ≢ f = λ e. no_home (sym word_home.here ∙ ap new_home (sym e) ∙ none) in
        (apart, sym (word_home.elsewhere s apart) ∙ none)

    had_before : (s : ℕ) (x : Home) → s ≢ f → new_home s ≡ Some x → home s ≡ Some x
    had_before s x apart e = sym (word_home.elsewhere s apart) ∙ e

    has_word : (s : ℕ) (x : Home) → s ≡ f → new_home s ≡ Some x → x ≡ Frame words
    has_word s x e at_s = same_Some _ _ (sym at_s ∙ ap new_home e ∙ word_home.here)

    same_word : (v w : ℕ) → Some (Frame v) ≡ Some (Frame w) → v ≡ w
    same_word v w e = cc

    -- no other register has it
    word_once : (s : ℕ) (x : Home) → s ≢ f → new_home s ≡ Some x → x ≡ Frame words → ⊥
    word_once s x apart at_s e =
        let less : words < words = fair.below s words (had_before s x apart at_s ∙ ap Some e) in
        absurd (omega (arith, less))

    leaves_order : (s : ℕ) (x : Home) (j : Interval) → new_home s ≡ Some x → span s ≡ Some j → LeftFrom span new_home j.first
    leaves_order s x j at_s is_s = λ t l none is_t.
        elim (cases_eq s f) [
          | inl e ↦
              let same : j ≡ i = same_Some _ _ (sym is_s ∙ ap span e ∙ is) in
              subst (λ (m : Interval). m.first ≤ l.first) (sym same) (first t l (left_before t none).0 (left_before t none).1 is_t)
          | inr apart ↦ fair.order s x j (had_before s x apart at_s) is_s t l (left_before t none).1 is_t
        ]

    leaves_apart : (s t : ℕ) (x : Home) (j l : Interval) → s ≢ t → new_home s ≡ Some x → new_home t ≡ Some x → span s ≡ Some j → span t ≡ Some l → j.first ≤ l.last → l.first ≤ j.last → ⊥
    leaves_apart s t x j l differ at_s at_t is_s is_t before behind =
        elim (cases_eq s f) [
          | inl es ↦ word_once t x (λ et. differ (es ∙ sym et)) at_t (has_word s x es at_s)
          | inr apart ↦ elim (cases_eq t f) [
            | inl et ↦ word_once s x apart at_s (has_word t x et at_t)
            | inr also ↦ fair.apart s t x j l differ (had_before s x apart at_s) (had_before t x also at_t) is_s is_t before behind
          ]
        ]

    leaves_held : (s n : ℕ) (j : Interval) → n < most → new_home s ≡ Some (Reg (given n)) → span s ≡ Some j → (new_holder n ≡ Some s) ⊎ IsOver span new_home j
    leaves_held s n j less at_s is_s =
        elim (cases_eq s f) [
          | inl e ↦ absurd (no_word (ap Some (has_word s (Reg (given n)) e at_s)))
          | inr apart ↦ elim (fair.held s n j less (had_before s (Reg (given n)) apart at_s) is_s) [
            | inl holds ↦ inl (stay n s less apart holds)
            | inr over ↦ inr (λ t l none is_t. over t l (left_before t none).1 is_t)
          ]
        ]

    pub leaves : AreFair span new_home new_holder (words + 1)
    leaves =
        record {
          runs = fair.runs;
          taken = λ s x at_s. elim (cases_eq s f) [ inl e ↦ (i, ap span e ∙ is) | inr apart ↦ fair.taken s x (had_before s x apart at_s) ];
          order = leaves_order;
          apart = leaves_apart;
          below = λ s w at_s.
              elim (cases_eq s f) [
                | inl e ↦ let same : w ≡ words = same_word _ _ (ap Some (has_word s (Frame w) e at_s)) in omega (arith, same)
                | inr apart ↦ let less : w < words = fair.below s w (had_before s (Frame w) apart at_s) in omega (arith, less)
              ];
          held = leaves_held;
          holds = λ n h less holds. let (apart, held_it) = were n h less holds in word_home.elsewhere h apart ∙ fair.holds n h less held_it;
          numbers = λ s n at_s. elim (cases_eq s f) [ inl e ↦ absurd (no_word (ap Some (has_word s (Reg n) e at_s))) | inr apart ↦ fair.numbers s n (had_before s (Reg n) apart at_s) ];
          crowded = λ s w at_s. elim (cases_eq s f) [ inl e ↦ subst (Crowd span) (sym e) crowd | inr apart ↦ fair.crowded s w (had_before s (Frame w) apart at_s) ];
        }

-- ---- where no register of the machine is free

or_zero : Option ℕ → ℕ
or_zero None = 0
or_zero (Some n) = n

-- what lives in a register of the machine does so still
record IsLiving (span : Spans) (p : ℕ) (o : Option ℕ) : Type 0 where
  register : ℕ
  interval : Interval
  holds : o ≡ Some register
  is : span register ≡ Some interval
  until : p ≤ interval.last

living : (span : Spans) (p : ℕ) (o : Option ℕ) → free_by span p o ≡ false → IsLiving span p o
living span p None e = absurd cc
living span p (Some h) e = by (span h) refl e
  where
    by : (o : Option Interval) → span h ≡ o → ends_before o p ≡ false → IsLiving span p (Some h)
    by None is none = absurd cc
    by (Some j) is none = record { register = h; interval = j; holds = refl; is = is; until = ltb-false j.last p none }

module _ (span : Spans) (home : Homes) (holder : Holders) (words : ℕ) (fair : AreFair span home holder words) (r : ℕ) (i : Interval) (left : home r ≡ None) (is : span r ≡ Some i) (busy : (k : ℕ) → k < most → free_by span i.first (holder k) ≡ false) where
  lives : (k : ℕ) → k < most → IsLiving span i.first (holder k)
  lives k less = living span i.first (holder k) (busy k less)

  held_by : ℕ → ℕ
  unfolding or_zero
  held_by k = or_zero (holder k)

  held_is : (k : ℕ) → k < most → holder k ≡ Some (held_by k)
  unfolding held_by or_zero
  held_is k less = let it = lives k less in it.holds ∙ ap Some (sym (ap or_zero it.holds))

  home_held : (k : ℕ) → k < most → home (held_by k) ≡ Some (Reg (given k))
  home_held k less = fair.holds k (held_by k) less (held_is k less)

  held_once : (j k : ℕ) → j < most → k < most → held_by j ≡ held_by k → j ≡ k
  held_once j k few less e = given_once j k few less (same_number _ _ (sym (home_held j few) ∙ ap home e ∙ home_held k less))

  held_apart : (k : ℕ) → k < most → held_by k ≢ r
  held_apart k less e = no_home (sym (home_held k less) ∙ ap home e ∙ left)

  covers_own : Covers span r i.first
  covers_own = record { interval = i; is = is; behind = omega arith; before = fair.runs r i is }

  held_meets : (k : ℕ) → k < most → Covers span (held_by k) i.first
  unfolding held_by or_zero
  held_meets k less =
      let it = lives k less in
      let there : span (held_by k) ≡ Some it.interval = ap span (ap or_zero it.holds) ∙ it.is in
      record {
        interval = it.interval;
        is = there;
        behind = fair.order (held_by k) (Reg (given k)) it.interval (home_held k less) there r i left is;
        before = it.until;
      }

  pub next_crowd : Crowd span r
  next_crowd = record { point = i.first; own = covers_own; others = held_by; differ = held_once; apart = held_apart; meet = held_meets }

  -- ---- what lives in a register of the machine goes to the frame

  module _ (m : ℕ) (few : m < most) where
    instead : ℕ → ℕ
    instead k = if nat_eq k m then r else held_by k

    instead_here : (k : ℕ) → k ≡ m → instead k ≡ r
    unfolding instead
    instead_here k e = ap (λ b. if b then r else held_by k) (eq-eqb k m e)

    instead_elsewhere : (k : ℕ) → k ≢ m → instead k ≡ held_by k
    unfolding instead
    instead_elsewhere k apart = ap (λ b. if b then r else held_by k) (ne_eqb k m apart)

    instead_once : (j k : ℕ) → j < most → k < most → instead j ≡ instead k → j ≡ k
    instead_once j k less also e =
        elim (cases_eq j m) [
          | inl jm ↦ elim (cases_eq k m) [
            | inl km ↦ jm ∙ sym km
            | inr apart ↦ absurd (held_apart k also (sym (instead_elsewhere k apart) ∙ sym e ∙ instead_here j jm))
          ]
          | inr other ↦ elim (cases_eq k m) [
            | inl km ↦ absurd (held_apart j less (sym (instead_elsewhere j other) ∙ e ∙ instead_here k km))
            | inr apart ↦ held_once j k less also (sym (instead_elsewhere j other) ∙ e ∙ instead_elsewhere k apart)
          ]
        ]

    instead_apart : (k : ℕ) → k < most → instead k ≢ held_by m
    instead_apart k less e =
        elim (cases_eq k m) [
          | inl km ↦ held_apart m few (sym e ∙ instead_here k km)
          | inr apart ↦ apart (held_once k m less few (sym (instead_elsewhere k apart) ∙ e))
        ]

    instead_meets : (k : ℕ) → k < most → Covers span (instead k) i.first
    instead_meets k less =
        elim (cases_eq k m) [
          | inl km ↦ subst (λ s. Covers span s i.first) (sym (instead_here k km)) covers_own
          | inr apart ↦ subst (λ s. Covers span s i.first) (sym (instead_elsewhere k apart)) (held_meets k less)
        ]

    held_crowd : Crowd span (held_by m)
    held_crowd = record { point = i.first; own = held_meets m few; others = instead; differ = instead_once; apart = instead_apart; meet = instead_meets }

    pub evicts : (new_home : Homes) (new_holder : Holders) (f : ℕ) → holder m ≡ Some f → Puts home new_home f (Some (Frame words)) → Puts holder new_holder m None → AreFair span new_home new_holder (words + 1)
    evicts new_home new_holder f holds word_home nothing =
        let it : held_by m ≡ f = same_Some _ _ (sym (held_is m few) ∙ holds) in
        let cover : Covers span f i.first = subst (λ s. Covers span s i.first) it (held_meets m few) in
        let its_home : home f ≡ Some (Reg (given m)) = fair.holds m f few holds in
        leaves span home new_home holder new_holder words fair f cover.interval cover.is
        (λ s j apart none at_s. fair.order f (Reg (given m)) cover.interval its_home cover.is s j none at_s)
        (subst (Crowd span) it held_crowd)
        word_home
        (λ k h less apart at_k.
        elim (cases_eq k m) [
          | inl e ↦ absurd (apart (same_Some _ _ (sym at_k ∙ ap holder e ∙ holds)))
          | inr other ↦ nothing.elsewhere k other ∙ at_k
        ])
        (λ k h less at_k.
        elim (cases_eq k m) [
          | inl e ↦ absurd (no_home (sym at_k ∙ ap new_holder e ∙ nothing.here))
          | inr other ↦
              let before : holder k ≡ Some h = sym (nothing.elsewhere k other) ∙ at_k in
              (λ same. other (given_once k m less few (same_number _ _ (sym (fair.holds k h less before) ∙ ap home same ∙ its_home))), before)
        ])

-- ---- how many are left

left_sum : (homes : List (Option Home)) (r : ℕ) (x : Home) → r < length homes → count_left (set homes r (Some x)) + counted (is_left (entry homes r)) ≡ count_left homes
left_sum homes r x less =
    let there : entry homes r ≡ get_or homes r None = ap or_none (slice_get-get_or homes r None less) in
    let counts : counted (is_left (entry homes r)) ≡ counted (is_left (get_or homes r None)) = ap (λ o. counted (is_left o)) there in
    let sums : count_left (set homes r (Some x)) + counted (is_left (get_or homes r None)) ≡ count_left homes + 0 = sum_by-set (λ o. cond (is_left o) 1 0) homes r (Some x) None less in
    omega (arith, counts, sums)

pub left_less : (homes new : List (Option Home)) (r : ℕ) (x : Home) → r < length homes → entry homes r ≡ None → new ≡ set homes r (Some x) → count_left new < count_left homes
left_less homes new r x less none is =
    let counts : counted (is_left (entry homes r)) ≡ 1 = ap (λ o. counted (is_left o)) none in
    let same : count_left new ≡ count_left (set homes r (Some x)) = ap count_left is in
    omega (arith, counts, same, left_sum homes r x less)

pub left_no_more : (homes new : List (Option Home)) (r : ℕ) (x : Home) → r < length homes → new ≡ set homes r (Some x) → count_left new ≤ count_left homes
left_no_more homes new r x less is =
    let same : count_left new ≡ count_left (set homes r (Some x)) = ap count_left is in
    omega (arith, same, left_sum homes r x less)

-- ---- which is next

no_next : (scan : Scan) (n : ℕ) (best : Option Next) → ((j : Interval) → entry scan.homes.items n ≡ None → entry scan.spans.items n ≡ Some j → ⊥) → IsFirstBelow scan n best → IsFirstBelow scan (n + 1) best
no_next scan n None none below =
    λ s j less left is.
    elim (cases_eq s n) [
      | inl e ↦ none j (ap (entry scan.homes.items) (sym e) ∙ left) (ap (entry scan.spans.items) (sym e) ∙ is)
      | inr apart ↦ below s j (omega (arith, less, apart)) left is
    ]
no_next scan n (Some best) none below =
    record {
      left = below.left;
      is = below.is;
      first = λ s j less left is.
          elim (cases_eq s n) [
            | inl e ↦ absurd (none j (ap (entry scan.homes.items) (sym e) ∙ left) (ap (entry scan.spans.items) (sym e) ∙ is))
            | inr apart ↦ below.first s j (omega (arith, less, apart)) left is
          ];
    }

one_next : (scan : Scan) (n : ℕ) (i : Interval) (best : Option Next) → entry scan.homes.items n ≡ None → entry scan.spans.items n ≡ Some i → IsFirstBelow scan n best → IsFirstBelow scan (n + 1) (first_of best (Some (record { register = n; interval = i })))
one_next scan n i None left is below =
    record {
      left = left;
      is = is;
      first = λ s j less none at_s.
          elim (cases_eq s n) [
            | inl e ↦ let same : i ≡ j = same_Some _ _ (sym is ∙ ap (entry scan.spans.items) (sym e) ∙ at_s) in subst (λ (m : Interval). i.first ≤ m.first) same (omega arith)
            | inr apart ↦ absurd (below s j (omega (arith, less, apart)) none at_s)
          ];
    }
one_next scan n i (Some best) left is below = pick (nat_lt i.first best.interval.first) refl
  where
    pick : (sooner : Bool) → nat_lt i.first best.interval.first ≡ sooner → IsFirstBelow scan (n + 1) (if sooner then Some (record { register = n; interval = i }) else Some best)
    pick true e =
        let sooner : i.first < best.interval.first = ltb-true i.first best.interval.first e in
        record {
          left = left;
          is = is;
          first = λ s j less none at_s.
              elim (cases_eq s n) [
                | inl here ↦ let same : i ≡ j = same_Some _ _ (sym is ∙ ap (entry scan.spans.items) (sym here) ∙ at_s) in subst (λ (m : Interval). i.first ≤ m.first) same (omega arith)
                | inr apart ↦ let later : best.interval.first ≤ j.first = below.first s j (omega (arith, less, apart)) none at_s in omega (arith, sooner, later)
              ];
        }
    pick false e =
        let no_sooner : best.interval.first ≤ i.first = ltb-false i.first best.interval.first e in
        record {
          left = below.left;
          is = below.is;
          first = λ s j less none at_s.
              elim (cases_eq s n) [
                | inl here ↦ let same : i ≡ j = same_Some _ _ (sym is ∙ ap (entry scan.spans.items) (sym here) ∙ at_s) in subst (λ (m : Interval). best.interval.first ≤ m.first) same no_sooner
                | inr apart ↦ below.first s j (omega (arith, less, apart)) none at_s
              ];
        }

pub first_more : (scan : Scan) (n : ℕ) (best : Option Next) → IsFirstBelow scan n best → IsFirstBelow scan (n + 1) (first_of best (next_at scan n))
first_more scan n best below = by (entry scan.spans.items n) (entry scan.homes.items n) refl refl
  where
    nothing : (o : Option Next) → o ≡ None → first_of best o ≡ best
    nothing o e = ap (first_of best) e ∙ alone best
      where
        alone : (b : Option Next) → first_of b None ≡ b
        alone None = refl
        alone (Some b) = refl

    by : (o : Option Interval) (h : Option Home) → entry scan.spans.items n ≡ o → entry scan.homes.items n ≡ h → IsFirstBelow scan (n + 1) (first_of best (next_by n o h))
    by None h is at_n = subst (IsFirstBelow scan (n + 1)) (sym (nothing None refl)) (no_next scan n best (λ j none there. no_home (sym there ∙ is)) below)
    by (Some i) None is at_n = one_next scan n i best at_n is below
    by (Some i) (Some x) is at_n = subst (IsFirstBelow scan (n + 1)) (sym (nothing None refl)) (no_next scan n best (λ j none there. no_home (sym at_n ∙ none)) below)

-- ---- the scan

free_means : (span : Spans) (p : ℕ) (o : Option ℕ) → free_by span p o ≡ true → (h : ℕ) (j : Interval) → o ≡ Some h → span h ≡ Some j → j.last < p
free_means span p None e h j is at_h = absurd (no_home (sym is))
free_means span p (Some g) e h j is at_h =
    let there : span g ≡ Some j = ap span (same_Some _ _ is) ∙ at_h in
    ltb-true j.last p (sym (ap (λ o. ends_before o p) there) ∙ e)

-- a scan with the same intervals
fair_again : (old new : Scan) (words : ℕ) → new.spans.items ≡ old.spans.items → new.words ≡ words → AreFair (entry old.spans.items) (entry new.homes.items) (entry new.holders.items) words → AreFair (entry new.spans.items) (entry new.homes.items) (entry new.holders.items) new.words
fair_again old new words spans same fair =
    subst (λ s. AreFair (entry s) (entry new.homes.items) (entry new.holders.items) new.words) (sym spans)
    (subst (λ w. AreFair (entry old.spans.items) (entry new.homes.items) (entry new.holders.items) w) (sym same) fair)

pub next_within : (scan : Scan) (next : Next) → IsFair scan → IsNext scan next → next.register < length scan.homes.items
next_within scan next fair is = omega (arith, fair.each, entry_within scan.spans.items next.register next.interval is.is)

next_first : (scan : Scan) (next : Next) → IsNext scan next → LeftFrom (entry scan.spans.items) (entry scan.homes.items) next.interval.first
next_first scan next is = λ s j left at_s. is.first s j (entry_within scan.spans.items s j at_s) left at_s

no_entries : {A : Type 0} (n k : ℕ) → entry {A = A} (replicate n None) k ≡ None
no_entries zero k = refl
no_entries (suc n) zero = refl
no_entries (suc n) (suc k) = no_entries n k

pub begin_fair : (scan : Scan) → AreRuns scan.spans.items → scan.homes.items ≡ replicate (length scan.spans.items) None → scan.holders.items ≡ replicate most None → IsFair scan
begin_fair scan runs homes holders =
    let no_one : (r : ℕ) → entry scan.homes.items r ≡ None = λ r. ap (λ t. entry t r) homes ∙ no_entries (length scan.spans.items) r in
    let none_there : (r : ℕ) (x : Home) → entry scan.homes.items r ≡ Some x → ⊥ = λ r x at_r. no_home (sym at_r ∙ no_one r) in
    record {
      each = ap length homes ∙ length-replicate (length scan.spans.items) None;
      few = ap length holders;
      fair = record {
        runs = runs;
        taken = λ r x at_r. absurd (none_there r x at_r);
        order = λ r x i at_r is. absurd (none_there r x at_r);
        apart = λ r s x i j differ at_r at_s is_r is_s before behind. none_there r x at_r;
        below = λ r w at_r. absurd (none_there r (Frame w) at_r);
        held = λ r k i less at_r is. absurd (none_there r (Reg (given k)) at_r);
        holds = λ k h less holds. absurd (no_home (sym holds ∙ ap (λ t. entry t k) holders ∙ no_entries most k));
        numbers = λ r n at_r. absurd (none_there r (Reg n) at_r);
        crowded = λ r w at_r. absurd (none_there r (Frame w) at_r);
      };
    }

pub give_fair : (old new : Scan) (number : ℕ) (next : Next) → IsFair old → number < most → IsNext old next → is_free old number next.interval.first ≡ true → new.spans.items ≡ old.spans.items → new.homes.items ≡ set old.homes.items next.register (Some (Reg (given number))) → new.holders.items ≡ set old.holders.items number (Some next.register) → new.words ≡ old.words → IsFair new
give_fair old new number next fair few is free spans homes holders words =
    record {
      each = ap length homes ∙ length-set old.homes.items next.register (Some (Reg (given number))) ∙ fair.each ∙ sym (ap length spans);
      few = ap length holders ∙ length-set old.holders.items number (Some next.register) ∙ fair.few;
      fair = fair_again old new old.words spans words
          (gives (entry old.spans.items) (entry old.homes.items) (entry new.homes.items) (entry old.holders.items) (entry new.holders.items) old.words fair.fair
          next.register number next.interval few is.left is.is (next_first old next is)
          (free_means (entry old.spans.items) next.interval.first (entry old.holders.items number) free)
          (set_puts old.homes.items new.homes.items next.register (Some (Reg (given number))) (next_within old next fair is) homes)
          (set_puts old.holders.items new.holders.items number (Some next.register) (omega (arith, few, fair.few)) holders));
    }

pub leave_fair : (old new : Scan) (next : Next) → IsFair old → IsNext old next → IsBusy old next.interval.first → new.spans.items ≡ old.spans.items → new.homes.items ≡ set old.homes.items next.register (Some (Frame old.words)) → new.holders.items ≡ old.holders.items → new.words ≡ old.words + 1 → IsFair new
leave_fair old new next fair is busy spans homes holders words =
    record {
      each = ap length homes ∙ length-set old.homes.items next.register (Some (Frame old.words)) ∙ fair.each ∙ sym (ap length spans);
      few = ap length holders ∙ fair.few;
      fair = fair_again old new (old.words + 1) spans words
          (leaves (entry old.spans.items) (entry old.homes.items) (entry new.homes.items) (entry old.holders.items) (entry new.holders.items) old.words fair.fair
          next.register next.interval is.is
          (λ s j apart left at_s. next_first old next is s j left at_s)
          (next_crowd (entry old.spans.items) (entry old.homes.items) (entry old.holders.items) old.words fair.fair next.register next.interval is.left is.is busy)
          (set_puts old.homes.items new.homes.items next.register (Some (Frame old.words)) (next_within old next fair is) homes)
          (λ k h less apart at_k. ap (λ t. entry t k) holders ∙ at_k)
          (λ k h less at_k.
          let before : entry old.holders.items k ≡ Some h = sym (ap (λ t. entry t k) holders) ∙ at_k in
          (λ same. no_home (sym (fair.fair.holds k h less before) ∙ ap (entry old.homes.items) same ∙ is.left), before)));
    }

module _ (old new : Scan) (number : ℕ) (next : Next) (f : ℕ) (fair : IsFair old) (few : number < most) (is : IsNext old next) (busy : IsBusy old next.interval.first) (holds : entry old.holders.items number ≡ Some f) (spans : new.spans.items ≡ old.spans.items) (homes : new.homes.items ≡ set old.homes.items f (Some (Frame old.words))) where
  its_home_was : entry old.homes.items f ≡ Some (Reg (given number))
  its_home_was = fair.fair.holds number f few holds

  pub evicted_within : f < length old.homes.items
  evicted_within = entry_within old.homes.items f (Reg (given number)) its_home_was

  evicted_puts : Puts (entry old.homes.items) (entry new.homes.items) f (Some (Frame old.words))
  evicted_puts = set_puts old.homes.items new.homes.items f (Some (Frame old.words)) evicted_within homes

  pub evict_fair : new.holders.items ≡ set old.holders.items number None → new.words ≡ old.words + 1 → IsFair new
  evict_fair holders words =
      record {
        each = ap length homes ∙ length-set old.homes.items f (Some (Frame old.words)) ∙ fair.each ∙ sym (ap length spans);
        few = ap length holders ∙ length-set old.holders.items number None ∙ fair.few;
        fair = fair_again old new (old.words + 1) spans words
            (evicts (entry old.spans.items) (entry old.homes.items) (entry old.holders.items) old.words fair.fair next.register next.interval is.left is.is busy number few
            (entry new.homes.items) (entry new.holders.items) f holds evicted_puts
            (set_puts old.holders.items new.holders.items number None (omega (arith, few, fair.few)) holders));
      }

  pub evict_next : IsNext new next
  evict_next =
      let apart : next.register ≢ f = λ e. no_home (sym its_home_was ∙ ap (entry old.homes.items) (sym e) ∙ is.left) in
      record {
        left = evicted_puts.elsewhere next.register apart ∙ is.left;
        is = ap (λ t. entry t next.register) spans ∙ is.is;
        first = λ s j less left at_s.
            let other : s ≢ f = λ e. no_home (sym evicted_puts.here ∙ ap (entry new.homes.items) (sym e) ∙ left) in
            let at_old : entry old.spans.items s ≡ Some j = sym (ap (λ t. entry t s) spans) ∙ at_s in
            is.first s j (entry_within old.spans.items s j at_old) (sym (evicted_puts.elsewhere s other) ∙ left) at_old;
      }

  pub evict_free : new.holders.items ≡ set old.holders.items number None → is_free new number next.interval.first ≡ true
  evict_free holders =
      let none : entry new.holders.items number ≡ None = (set_puts old.holders.items new.holders.items number None (omega (arith, few, fair.few)) holders).here in
      ap (free_by (entry new.spans.items) next.interval.first) none

-- where no register of the machine is free, each is held
pub none_held : (scan : Scan) (number p : ℕ) → number < most → IsBusy scan p → entry scan.holders.items number ≡ None → ⊥
none_held scan number p few busy none = both_ways _ (busy number few) (ap (free_by (entry scan.spans.items) p) none)
