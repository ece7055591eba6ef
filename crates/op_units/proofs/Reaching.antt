-- The search along interface uses.
use Rattle.std.proofs.Common.{◌≡◌, ℕ, zero, suc, ◌+◌, ◌<◌, ◌≤◌, Bool, true, false, List, [], ◌∷◌, ◌++◌, length, slice_get, take, drop, get_or, Some, None, if◌then◌else◌, refl, sym, ap, subst, ◌∙◌, ◌⊎◌, inl, inr, arith}
use Rattle.std.proofs.lemmas.Bool.{cases_lt, false≢true}
use Rattle.std.proofs.lemmas.Option.{none-some, slice_get_cases, slice_get_within}
use Rattle.op_units.specs.Names.{is_among}
use Rattle.op_units.specs.Cycles.{ClosedAt, ClosesAt, Reached, with_name, with_names}
use Rattle.op_units.specs.Walk.{AreOpen, IsOpen, Lead, is_there, goes_on, Walked, interface_of}
use Rattle.op_units.specs.declared.uses.Use.{Use}
use Rattle.op_units.proofs.Names.{Grows, grows, grows_not, grows_also, still_among, with_one, among_cases, among_one, among_itself, among_front, among_back, number_among, front_stays}

-- ---- more names

pub with_name_grows : (xs : List (List ℕ)) (name : List ℕ) → Grows xs (with_name xs name)
with_name_grows xs name = (with_one xs name (is_among name xs) refl).0

pub with_name_has : (xs : List (List ℕ)) (name : List ℕ) → is_among name (with_name xs name) ≡ true
with_name_has xs name = (with_one xs name (is_among name xs) refl).1

pub with_names_grows : (xs names : List (List ℕ)) → Grows xs (with_names xs names)
with_names_grows xs [] = grows_not xs
with_names_grows xs (n ∷ ns) = grows_also xs (with_name xs n) (with_names (with_name xs n) ns) (with_name_grows xs n) (with_names_grows (with_name xs n) ns)

pub with_names_has : (xs names : List (List ℕ)) (b : List ℕ) → is_among b names ≡ true → is_among b (with_names xs names) ≡ true
with_names_has xs [] b h = absurd (false≢true h)
with_names_has xs (n ∷ ns) b h =
    elim (among_cases b (n ∷ []) ns h) [
      | inl e ↦ still_among b (with_name xs n) (with_names (with_name xs n) ns) (with_names_grows (with_name xs n) ns) (subst (λ x. is_among x (with_name xs n) ≡ true) (sym (among_one b n e)) (with_name_has xs n))
      | inr e ↦ with_names_has (with_name xs n) ns b e
    ]

last_or : (xs : List (List ℕ)) (n : List ℕ) (k : ℕ) (a : List ℕ) → slice_get (xs ++ n ∷ []) k ≡ Some a → (slice_get xs k ≡ Some a) ⊎ (a ≡ n)
last_or [] n zero a h = inr (same h)
  where
    same : Some n ≡ Some a → a ≡ n
    same e = cc
last_or [] n (suc k) a h = absurd (none h)
  where
    none : None ≡ Some a → ⊥
    none e = cc
last_or (x ∷ xs) n zero a h = inl h
last_or (x ∷ xs) n (suc k) a h = last_or xs n k a h

with_name_only : (xs : List (List ℕ)) (n : List ℕ) (k : ℕ) (a : List ℕ) (b : Bool) → slice_get (if b then xs else xs ++ n ∷ []) k ≡ Some a → (slice_get xs k ≡ Some a) ⊎ (a ≡ n)
with_name_only xs n k a true h = inl h
with_name_only xs n k a false h = last_or xs n k a h

pub with_names_only : (xs names : List (List ℕ)) (k : ℕ) (a : List ℕ) → slice_get (with_names xs names) k ≡ Some a → (slice_get xs k ≡ Some a) ⊎ (is_among a names ≡ true)
with_names_only xs [] k a h = inl h
with_names_only xs (n ∷ ns) k a h =
    elim (with_names_only (with_name xs n) ns k a h) [
      | inl e ↦ elim (with_name_only xs n k a (is_among n xs) e) [ inl f ↦ inl f | inr f ↦ inr (among_front a (n ∷ []) ns (subst (λ x. is_among x (n ∷ []) ≡ true) (sym f) (among_itself n))) ]
      | inr e ↦ inr (among_back a (n ∷ []) ns e)
    ]

pub among_at : (xs : List (List ℕ)) (k : ℕ) (a : List ℕ) → slice_get xs k ≡ Some a → is_among a xs ≡ true
among_at [] k a h = absurd (omega (arith, slice_get_within [] k a h))
among_at (x ∷ xs) zero a h = among_front a (x ∷ []) xs (subst (λ y. is_among y (x ∷ []) ≡ true) (same h) (among_itself x))
  where
    same : Some x ≡ Some a → x ≡ a
    same e = cc
among_at (x ∷ xs) (suc k) a h = among_back a (x ∷ []) xs (among_at xs k a h)

-- ---- closed names

below_or : (k n : ℕ) → (k < n) ⊎ (n ≤ k)
below_or k n = cases_lt k n

module _ (units : List (List ℕ)) (interfaces : List (List (List ℕ))) where
  same_some : {a b : List ℕ} → Some a ≡ Some b → a ≡ b
  same_some e = cc

  still_closed : (xs ys : List (List ℕ)) (k : ℕ) → Grows xs ys → k < length xs → ClosedAt units interfaces xs k → ClosedAt units interfaces ys k
  still_closed xs ys k (grows m e) w h a b names s i t =
      elim (slice_get_cases xs k).1 [
        | inl f ↦ still_among b xs ys (grows m e) (h a b names (f.2 ∙ sym (subst (λ us. slice_get us k ≡ Some f.0) (sym e) (front_stays xs m k f.0 f.2)) ∙ s) i t)
        | inr f ↦ absurd (omega (arith, w, f.0))
      ]

  -- what leads from one of the names is among them
  pub leads_among : (seen : List (List ℕ)) (a c : List ℕ) → ((k : ℕ) → ClosedAt units interfaces seen k) → Lead units interfaces a c → is_among a seen ≡ true → is_among c seen ≡ true
  leads_among seen a c h is_there t = t
  leads_among seen a c h (goes_on b names i u more) t = let r = number_among a seen t in leads_among seen b c h more (h r.0 a b names r.1 i u)

  lead_on : {a b : List ℕ} (c : List ℕ) (names : List (List ℕ)) → Lead units interfaces a b → interface_of units interfaces b ≡ Some names → is_among c names ≡ true → Lead units interfaces a c
  lead_on c names is_there i u = goes_on c names i u is_there
  lead_on c names (goes_on b ns j v more) i u = goes_on b ns j v (lead_on c names more i u)

  -- how far the search has come
  pub record Reaching (old : List (List ℕ)) (start : List ℕ) (seen : List (List ℕ)) (number : ℕ) : Type 0 where
    pub grown : Grows old seen
    pub has : is_among start seen ≡ true
    pub front : (k : ℕ) → length old ≤ k → k < number → ClosedAt units interfaces seen k
    pub sound : (k : ℕ) (a : List ℕ) → length old ≤ k → slice_get seen k ≡ Some a → Lead units interfaces start a

  begins_sound : (old : List (List ℕ)) (start : List ℕ) (b : Bool) (k : ℕ) (a : List ℕ) → length old ≤ k → slice_get (if b then old else old ++ start ∷ []) k ≡ Some a → Lead units interfaces start a
  begins_sound old start true k a w h = absurd (omega (arith, w, slice_get_within old k a h))
  begins_sound old start false k a w h = elim (last_or old start k a h) [ inl e ↦ absurd (omega (arith, w, slice_get_within old k a e)) | inr e ↦ subst (λ x. Lead units interfaces start x) (sym e) is_there ]

  pub reaching_begins : (old : List (List ℕ)) (start : List ℕ) (new : List (List ℕ)) (first : ℕ) → first ≡ length old → new ≡ with_name old start → Reaching old start new first
  reaching_begins old start new first f e = record {
    grown = subst (Grows old) (sym e) (with_name_grows old start);
    has = subst (λ xs. is_among start xs ≡ true) (sym e) (with_name_has old start);
    front = λ k w v. absurd (omega (arith, w, v, f));
    sound = λ k a w h. begins_sound old start (is_among start old) k a w (subst (λ xs. slice_get xs k ≡ Some a) e h);
  }

  -- the next name was not read, so it uses nothing
  pub reaching_skips : (old : List (List ℕ)) (start : List ℕ) (seen : List (List ℕ)) (number : ℕ) (name : List ℕ) → Reaching old start seen number → slice_get seen number ≡ Some name → interface_of units interfaces name ≡ None → Reaching old start seen (number + 1)
  reaching_skips old start seen number name h s i = record {
    grown = h.grown;
    has = h.has;
    front = λ k w v. closed_at k w v;
    sound = h.sound;
  }
    where
      last : (k : ℕ) → k < number + 1 → number ≤ k → k ≡ number
      last k v e = omega (arith, v, e)

      closed_at : (k : ℕ) → length old ≤ k → k < number + 1 → ClosedAt units interfaces seen k
      closed_at k w v = elim (below_or k number) [
        | inl e ↦ h.front k w e
        | inr e ↦ λ a b names t j u. absurd (none-some _ (sym i ∙ ap (λ x. interface_of units interfaces x) (same_some (sym s ∙ ap (λ n. slice_get seen n) (sym (last k v e)) ∙ t)) ∙ j))
      ]

  -- the names that it uses are added
  pub reaching_adds : (old : List (List ℕ)) (start : List ℕ) (seen : List (List ℕ)) (number : ℕ) (name : List ℕ) (names : List (List ℕ)) → Reaching old start seen number → length old ≤ number → slice_get seen number ≡ Some name → interface_of units interfaces name ≡ Some names → Reaching old start (with_names seen names) (number + 1)
  reaching_adds old start seen number name names h after s i = record {
    grown = grows_also old seen (with_names seen names) h.grown (with_names_grows seen names);
    has = still_among start seen (with_names seen names) (with_names_grows seen names) h.has;
    front = λ k w v. closed_at k w v;
    sound = λ k a w t. sound_at k a w t;
  }
    where
      last : (k : ℕ) → k < number + 1 → number ≤ k → k ≡ number
      last k v e = omega (arith, v, e)

      here : ClosedAt units interfaces (with_names seen names) number
      here a b others t j u = with_names_has seen names b (subst (λ ns. is_among b ns ≡ true) (same_list (sym j ∙ ap (λ x. interface_of units interfaces x) (same_some (sym t ∙ stays)) ∙ i)) u)
        where
          same_list : {x y : List (List ℕ)} → Some x ≡ Some y → x ≡ y
          same_list e = cc

          stays_by : Grows seen (with_names seen names) → slice_get (with_names seen names) number ≡ Some name
          stays_by (grows m e) = subst (λ us. slice_get us number ≡ Some name) (sym e) (front_stays seen m number name s)

          stays : slice_get (with_names seen names) number ≡ Some name
          stays = stays_by (with_names_grows seen names)

      closed_at : (k : ℕ) → length old ≤ k → k < number + 1 → ClosedAt units interfaces (with_names seen names) k
      closed_at k w v = elim (below_or k number) [
        | inl e ↦ still_closed seen (with_names seen names) k (with_names_grows seen names) (omega (arith, e, slice_get_within seen number name s)) (h.front k w e)
        | inr e ↦ subst (λ n. ClosedAt units interfaces (with_names seen names) n) (sym (last k v e)) here
      ]

      sound_at : (k : ℕ) (a : List ℕ) → length old ≤ k → slice_get (with_names seen names) k ≡ Some a → Lead units interfaces start a
      sound_at k a w t = elim (with_names_only seen names k a t) [
        | inl e ↦ h.sound k a w e
        | inr e ↦ lead_on a names (h.sound number name after s) i e
      ]

  -- no name is left
  pub reached : (old : List (List ℕ)) (start : List ℕ) (seen : List (List ℕ)) (number : ℕ) → Reaching old start seen number → slice_get seen number ≡ None → Reached units interfaces old start seen
  reached old start seen number h s = by_growth h.grown
    where
      past : length seen ≤ number
      past = elim (slice_get_cases seen number).1 [ inl f ↦ absurd (none-some _ (sym s ∙ f.2)) | inr f ↦ f.0 ]

      sound_of : (name : List ℕ) → Grows old seen → is_among name seen ≡ true → (is_among name old ≡ true) ⊎ Lead units interfaces start name
      sound_of name g t = let r = number_among name seen t in
          elim (slice_get_cases old r.0).1 [
            | inl f ↦ inl (among_at old r.0 name (f.2 ∙ sym (stays_in g r.0 f.0 f.2) ∙ r.1))
            | inr f ↦ inr (h.sound r.0 name f.0 r.1)
          ]
        where
          stays_in : Grows old seen → (k : ℕ) → (a : List ℕ) → slice_get old k ≡ Some a → slice_get seen k ≡ Some a
          stays_in (grows m e) k a q = subst (λ us. slice_get us k ≡ Some a) (sym e) (front_stays old m k a q)

      closed_of : ((k : ℕ) → ClosedAt units interfaces old k) → (k : ℕ) → ClosedAt units interfaces seen k
      closed_of c k = elim (slice_get_cases old k).1 [
        | inl f ↦ still_closed old seen k h.grown f.1 (c k)
        | inr f ↦ elim (below_or k number) [
          | inl e ↦ h.front k f.0 e
          | inr e ↦ λ a b names t j u. absurd (omega (arith, past, e, slice_get_within seen k a t))
        ]
      ]

      by_growth : Grows old seen → Reached units interfaces old start seen
      by_growth (grows m e) = record { more = m; grows = e; has = h.has; closed = closed_of; sound = λ name t. sound_of name (grows m e) t }

-- ---- the first name that closes a cycle

-- none of the uses so far does
pub record Open (w : Walked) (unit : List ℕ) (interface : List Use) (number : ℕ) (seen : List (List ℕ)) : Type 0 where
  pub closed : (k : ℕ) → ClosedAt w.units w.interfaces seen k
  pub outside : is_among unit seen ≡ false
  pub are_open : AreOpen w unit (take number interface)

pub nothing_seen : (w : Walked) (unit : List ℕ) (interface : List Use) → Open w unit interface 0 []
nothing_seen w unit interface = record { closed = λ k a b names s i t. absurd (omega (arith, slice_get_within [] k a s)); outside = refl; are_open = tt }

open_more : (w : Walked) (unit : List ℕ) (uses : List Use) (used : Use) → AreOpen w unit uses → IsOpen w unit used → AreOpen w unit (uses ++ used ∷ [])
open_more w unit [] used h i = (i, tt)
open_more w unit (u ∷ us) used h i = (h.0, open_more w unit us used h.1 i)

parted : (uses : List Use) (n : ℕ) (d : Use) → n < length uses → uses ≡ take n uses ++ get_or uses n d ∷ drop (suc n) uses
parted [] n d h = absurd (omega (arith, h))
parted (u ∷ us) zero d h = refl
parted (u ∷ us) (suc n) d h = ap (λ xs. u ∷ xs) (parted us n d (omega (arith, h)))

longer : (uses : List Use) (n : ℕ) (d : Use) → n < length uses → take (suc n) uses ≡ take n uses ++ get_or uses n d ∷ []
longer [] n d h = absurd (omega (arith, h))
longer (u ∷ us) zero d h = refl
longer (u ∷ us) (suc n) d h = ap (λ xs. u ∷ xs) (longer us n d (omega (arith, h)))

shorter : (uses : List Use) (n : ℕ) → n < length uses → length (take n uses) ≡ n
shorter [] n h = absurd (omega (arith, h))
shorter (u ∷ us) zero h = refl
shorter (u ∷ us) (suc n) h = ap suc (shorter us n (omega (arith, h)))

next : (n : ℕ) → n + 1 ≡ suc n
next n = omega arith

pub none_closes_yet : (w : Walked) (unit : List ℕ) (interface : List Use) (number : ℕ) (seen new : List (List ℕ)) (start : List ℕ) (used : Use) → Open w unit interface number seen → Reached w.units w.interfaces seen start new → number < length interface → used ≡ get_or interface number used → start ≡ used.name → is_among unit new ≡ false → Open w unit interface (number + 1) new
none_closes_yet w unit interface number seen new start used o r within is named out = record {
  closed = r.closed o.closed;
  outside = out;
  are_open = subst (λ us. AreOpen w unit us) (sym (ap (λ n. take n interface) (next number) ∙ longer interface number used within ∙ ap (λ u. take number interface ++ u ∷ []) (sym is))) (open_more w unit (take number interface) used o.are_open (λ leads. absurd (false≢true (sym out ∙ leads_among w.units w.interfaces new used.name unit (r.closed o.closed) leads (subst (λ n. is_among n new ≡ true) named r.has)))));
}

pub closes_here : (w : Walked) (unit : List ℕ) (interface : List Use) (number : ℕ) (seen new : List (List ℕ)) (start : List ℕ) (used : Use) → Open w unit interface number seen → Reached w.units w.interfaces seen start new → number < length interface → used ≡ get_or interface number used → start ≡ used.name → is_among unit new ≡ true → ClosesAt w unit interface number
closes_here w unit interface number seen new start used o r within is named among = record {
  front = take number interface;
  rest = drop (suc number) interface;
  used = used;
  parts = parted interface number used within ∙ ap (λ u. take number interface ++ u ∷ drop (suc number) interface) (sym is);
  number = shorter interface number within;
  others = o.are_open;
  leads = elim (r.sound unit among) [ inl e ↦ absurd (false≢true (sym o.outside ∙ e)) | inr e ↦ subst (λ n. Lead w.units w.interfaces n unit) named e ];
}
