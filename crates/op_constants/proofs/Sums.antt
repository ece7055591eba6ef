-- How many bytes the constants take that have the keys of a set as their literals.
use Rattle.std.proofs.Common.{◌≡◌, ◌<◌, ◌≤◌, ℕ, suc, ◌+◌, Bool, true, false, List, [], ◌∷◌, length, map, drop, drop-cons, get_or, nat_le, sum_by, Vec, refl, sym, ap, ◌∙◌, arith}
use Rattle.std.proofs.lemmas.Bool.Decides.{nat_tests}
use Rattle.std.proofs.lemmas.List.{drop_all}
use Rattle.std.proofs.lemmas.List.Concat.{length-flat_map}
use Rattle.std.proofs.lemmas.List.Sums.{sum_by-cons}
use Rattle.std.specs.declared.alloc.Global.{Global}
use Rattle.op_layout.specs.Places.{layout_of}

lengths : (keys : List (Vec ℕ Global)) → sum_by (λ k. length k.items) keys ≡ sum_by (λ text. length text) (map (λ k. k.items) keys)
lengths [] = refl
lengths (k ∷ ks) =
    sum_by-cons (λ k. length k.items) k ks
    ∙ ap (λ n. length k.items + n) (lengths ks)
    ∙ sym (sum_by-cons (λ text. length text) k.items (map (λ k. k.items) ks))

keys_take : (keys : List (Vec ℕ Global)) (texts : List (List ℕ)) → map (λ k. k.items) keys ≡ texts → sum_by (λ k. length k.items) keys ≡ length (layout_of texts).bytes
keys_take keys texts view =
    lengths keys
    ∙ sym (length-flat_map (λ text. text) (map (λ k. k.items) keys))
    ∙ ap (λ ts. length (layout_of ts).bytes) view

nothing_fits : (room : ℕ) → nat_le 0 room ≡ true
nothing_fits room = grind (arith, nat_tests)

too_many : (n rest total room : ℕ) → total ≡ n + rest → (n ≤ room → ⊥) → nat_le total room ≡ false
too_many n rest total room is past = by (nat_le total room) refl
  where
    fits : nat_le total room ≡ true → n ≤ room
    fits e = grind (arith, nat_tests, is, e)

    by : (b : Bool) → nat_le total room ≡ b → b ≡ false
    by true e = absurd (past (fits e))
    by false e = refl

-- what is left of the room decides, whether all keys fit: `kept`
module _ (items keys : List (Vec ℕ Global)) (texts : List (List ℕ)) (k room most : ℕ) (are : items ≡ keys) (view : map (λ key. key.items) keys ≡ texts) (kept : nat_le (sum_by (λ key. length key.items) (drop k items)) room ≡ nat_le (sum_by (λ key. length key.items) items) most) where
  decided : (b : Bool) → nat_le (sum_by (λ key. length key.items) (drop k items)) room ≡ b → b ≡ nat_le (length (layout_of texts).bytes) most
  decided b e = sym e ∙ kept ∙ ap (λ n. nat_le n most) (keys_take items texts (ap (λ ks. map (λ key. key.items) ks) are ∙ view))

  -- where none is left, all do
  pub none_left : length items ≤ k → true ≡ nat_le (length (layout_of texts).bytes) most
  none_left end = decided true (ap (λ ks. nat_le (sum_by (λ key. length key.items) ks) room) (drop_all k items end) ∙ nothing_fits room)

  -- where the next one does not, they do not
  pub next_passes : (key : Vec ℕ Global) (n : ℕ) → k < length items → key ≡ get_or items k key → n ≡ length key.items → (n ≤ room → ⊥) → false ≡ nat_le (length (layout_of texts).bytes) most
  next_passes key n there is counts past =
      let split : drop k items ≡ key ∷ drop (suc k) items = drop-cons items k key there ∙ ap (λ one. one ∷ drop (suc k) items) (sym is) in
      let total : sum_by (λ one. length one.items) (drop k items) ≡ length key.items + sum_by (λ one. length one.items) (drop (suc k) items) = ap (λ ks. sum_by (λ one. length one.items) ks) split ∙ sum_by-cons (λ one. length one.items) key (drop (suc k) items) in
      decided false (too_many n (sum_by (λ one. length one.items) (drop (suc k) items)) (sum_by (λ one. length one.items) (drop k items)) room (total ∙ ap (λ m. m + sum_by (λ one. length one.items) (drop (suc k) items)) (sym counts)) past)
