-- The texts that come together part by part are the different ones of all.
use Rattle.std.proofs.Common.{◌≡◌, ◌≤◌, ℕ, suc, ◌+◌, Bool, true, false, ◌||◌, not, cond, List, [], ◌∷◌, ◌++◌, length, map, drop, fold, nat_lt, Option, Some, None, position, Vec, refl, sym, ap, ap₂, subst, ◌∙◌, arith, append_assoc, append-nil, if◌then◌else◌}
use Rattle.std.proofs.lemmas.Bool.{false≢true, true≢false}
use Rattle.std.proofs.lemmas.Bool.Decides.{nat_tests}
use Rattle.std.proofs.lemmas.List.{length-map}
use Rattle.std.proofs.lemmas.List.Concat.{flat_map-cons}
use Rattle.std.proofs.lemmas.List.Folds.{list_any-append}
use Rattle.std.specs.List.{filter, flat_map, list_any, position_or_len, prefix_len}
use Rattle.std.specs.Option.{unwrap_or}
use Rattle.std.specs.Str.{bytes_eq}
use Rattle.std.specs.declared.alloc.Global.{Global}
use Rattle.op_core.specs.declared.program.Core.{Core}
use Rattle.op_mir.specs.declared.code.Block.{Block}
use Rattle.op_mir.specs.declared.code.Mir.{Mir}
use Rattle.op_mir.specs.declared.code.Routine.{Routine}
use Rattle.op_constants.specs.Fixed.{fixed_literals}
use Rattle.op_constants.specs.Keeping.{with_block, with_instruction, with_routine, with_routines, with_text, with_texts}
use Rattle.op_constants.specs.Literals.{block_literals, instruction_literals, literals_of, routine_literals, routines_literals}
use Rattle.op_constants.specs.Texts.{distinct, is_among, number_of}
use Rattle.op_constants.proofs.Distinct.{others, others_by, same_by, same_bytes}

-- ---- those that are not there yet

missing : List (List ℕ) → List (List ℕ) → List (List ℕ)
missing texts more = filter (λ text. not (is_among text texts)) more

missing_by : List (List ℕ) → List ℕ → List (List ℕ) → Bool → List (List ℕ)
missing_by texts x more there = cond (not there) (x ∷ missing texts more) (missing texts more)

-- which is no text that is there
missing_others : (texts : List (List ℕ)) (x : List ℕ) (more : List (List ℕ)) → is_among x texts ≡ true → missing texts (others x more) ≡ missing texts more
unfolding missing missing_by
missing_others texts x [] there = refl
missing_others texts x (y ∷ ys) there = by (bytes_eq x y) refl (missing_others texts x ys there)
  where
    by : (same : Bool) → bytes_eq x y ≡ same → missing texts (others x ys) ≡ missing texts ys → missing texts (others x (y ∷ ys)) ≡ missing texts (y ∷ ys)
    by true e rest =
        ap (λ same. missing texts (others_by y (others x ys) same)) e ∙ rest
        ∙ sym (ap (missing_by texts y ys) (ap (λ t. is_among t texts) (sym (same_by x y e)) ∙ there))
    by false e rest =
        ap (λ same. missing texts (others_by y (others x ys) same)) e
        ∙ ap (λ ts. cond (not (is_among y texts)) (y ∷ ts) ts) rest

-- with one text more
missing_more : (texts : List (List ℕ)) (x : List ℕ) (more : List (List ℕ)) → missing (texts ++ x ∷ []) more ≡ missing texts (others x more)
unfolding missing missing_by
missing_more texts x [] = refl
missing_more texts x (y ∷ ys) = by (bytes_eq x y) refl (missing_more texts x ys)
  where
    both : (a b : Bool) → b ≡ true → (a || (b || false)) ≡ true
    both true b e = refl
    both false true e = refl
    both false false e = absurd (false≢true e)

    none : (a b : Bool) → b ≡ false → (a || (b || false)) ≡ a
    none true b e = refl
    none false false e = refl
    none false true e = absurd (true≢false e)

    turned : (b : Bool) → bytes_eq y x ≡ b → bytes_eq x y ≡ false → bytes_eq y x ≡ false
    turned true e differs = absurd (true≢false (sym (subst (λ t. bytes_eq x t ≡ true) (sym (same_by y x e)) (same_bytes x)) ∙ differs))
    turned false e differs = e

    by : (same : Bool) → bytes_eq x y ≡ same → missing (texts ++ x ∷ []) ys ≡ missing texts (others x ys) → missing (texts ++ x ∷ []) (y ∷ ys) ≡ missing texts (others x (y ∷ ys))
    by true e rest =
        let same = subst (λ t. bytes_eq t x ≡ true) (same_by x y e) (same_bytes x) in
        ap (missing_by (texts ++ x ∷ []) y ys) (list_any-append (bytes_eq y) texts (x ∷ []) ∙ both (is_among y texts) (bytes_eq y x) same)
        ∙ rest
        ∙ sym (ap (λ same. missing texts (others_by y (others x ys) same)) e)
    by false e rest =
        ap (missing_by (texts ++ x ∷ []) y ys) (list_any-append (bytes_eq y) texts (x ∷ []) ∙ none (is_among y texts) (bytes_eq y x) (turned (bytes_eq y x) refl e))
        ∙ ap (λ ts. cond (not (is_among y texts)) (y ∷ ts) ts) rest
        ∙ sym (ap (λ same. missing texts (others_by y (others x ys) same)) e)

-- the texts, and behind them the different ones of the others that are not there yet
kept : (texts more : List (List ℕ)) → with_texts texts more ≡ texts ++ missing texts (distinct more)
unfolding missing missing_by
kept texts [] = sym (append-nil texts)
kept texts (x ∷ xs) = by (is_among x texts) refl (kept texts xs) (kept (texts ++ x ∷ []) xs)
  where
    by : (there : Bool) → is_among x texts ≡ there → with_texts texts xs ≡ texts ++ missing texts (distinct xs) → with_texts (texts ++ x ∷ []) xs ≡ (texts ++ x ∷ []) ++ missing (texts ++ x ∷ []) (distinct xs) → with_texts texts (x ∷ xs) ≡ texts ++ missing texts (x ∷ others x (distinct xs))
    by true e stays grows =
        ap (λ there. with_texts (if there then texts else texts ++ x ∷ []) xs) e
        ∙ stays
        ∙ ap (λ ts. texts ++ ts) (sym (missing_others texts x (distinct xs) e))
        ∙ sym (ap (λ there. texts ++ missing_by texts x (others x (distinct xs)) there) e)
    by false e stays grows =
        ap (λ there. with_texts (if there then texts else texts ++ x ∷ []) xs) e
        ∙ grows
        ∙ append_assoc texts (x ∷ []) (missing (texts ++ x ∷ []) (distinct xs))
        ∙ ap (λ ts. texts ++ (x ∷ ts)) (missing_more texts x (distinct xs))
        ∙ sym (ap (λ there. texts ++ missing_by texts x (others x (distinct xs)) there) e)

all_missing : (more : List (List ℕ)) → missing [] more ≡ more
unfolding missing
all_missing [] = refl
all_missing (x ∷ xs) = ap (λ ts. x ∷ ts) (all_missing xs)

-- from none on they are the different ones
pub all_kept : (more : List (List ℕ)) → with_texts [] more ≡ distinct more
all_kept more = kept [] more ∙ all_missing (distinct more)

-- ---- parts of code

fold_joined : {A B : Type 0} (f : A → B → A) (a : A) (xs ys : List B) → fold f a (xs ++ ys) ≡ fold f (fold f a xs) ys
fold_joined f a [] ys = refl
fold_joined f a (x ∷ xs) ys = fold_joined f (f a x) xs ys

block_kept : (core : Core) (r : ℕ) (texts : List (List ℕ)) (block : Block) → with_block core r texts block ≡ with_texts texts (block_literals core r block)
block_kept core r texts block = by texts block.code
  where
    by : (texts : List (List ℕ)) (is : List _) → fold (with_instruction core r) texts is ≡ with_texts texts (flat_map (instruction_literals core r) is)
    by texts [] = refl
    by texts (i ∷ is) =
        by (with_instruction core r texts i) is
        ∙ sym (fold_joined with_text texts (instruction_literals core r i) (flat_map (instruction_literals core r) is))
        ∙ ap (with_texts texts) (sym (flat_map-cons (instruction_literals core r) i is))

routine_kept : (core : Core) (r : ℕ) (texts : List (List ℕ)) (routine : Routine) → with_routine core r texts routine ≡ with_texts texts (routine_literals core r routine)
routine_kept core r texts routine = by texts routine.blocks
  where
    by : (texts : List (List ℕ)) (bs : List Block) → fold (with_block core r) texts bs ≡ with_texts texts (flat_map (block_literals core r) bs)
    by texts [] = refl
    by texts (b ∷ bs) =
        ap (λ ts. fold (with_block core r) ts bs) (block_kept core r texts b)
        ∙ by (with_texts texts (block_literals core r b)) bs
        ∙ sym (fold_joined with_text texts (block_literals core r b) (flat_map (block_literals core r) bs))
        ∙ ap (with_texts texts) (sym (flat_map-cons (block_literals core r) b bs))

routines_kept : (core : Core) (r : ℕ) (texts : List (List ℕ)) (xs : List Routine) → with_routines core r texts xs ≡ with_texts texts (routines_literals core r xs)
routines_kept core r texts [] = refl
routines_kept core r texts (x ∷ xs) =
    ap (λ ts. with_routines core (suc r) ts xs) (routine_kept core r texts x)
    ∙ routines_kept core (suc r) (with_texts texts (routine_literals core r x)) xs
    ∙ sym (fold_joined with_text texts (routine_literals core r x) (routines_literals core (suc r) xs))

-- all of a program
pub literals_kept : (core : Core) (mir : Mir) → with_routine core (length mir.routines) (with_routines core 0 (with_texts [] fixed_literals) mir.routines) mir.program ≡ literals_of core mir
literals_kept core mir =
    let routines = routines_literals core 0 mir.routines in
    let own = routine_literals core (length mir.routines) mir.program in
    routine_kept core (length mir.routines) (with_routines core 0 (with_texts [] fixed_literals) mir.routines) mir.program
    ∙ ap (λ ts. with_texts ts own) (routines_kept core 0 (with_texts [] fixed_literals) mir.routines ∙ sym (fold_joined with_text [] fixed_literals routines))
    ∙ sym (fold_joined with_text [] (fixed_literals ++ routines) own)
    ∙ all_kept (fixed_literals ++ routines ++ own)

-- where no routine is left
pub literals_done : (core : Core) (mir : Mir) (texts : List (List ℕ)) (r k : ℕ) (xs : List Routine) → with_routines core r texts (drop k xs) ≡ with_routines core 0 (with_texts [] fixed_literals) xs → r ≡ k → xs ≡ mir.routines → length xs ≡ k → with_routine core r texts mir.program ≡ literals_of core mir
literals_done core mir texts r k xs rest number are end =
    let none : drop k xs ≡ [] = drop_past xs k end in
    let so_far : texts ≡ with_routines core 0 (with_texts [] fixed_literals) mir.routines = sym (ap (with_routines core r texts) none) ∙ rest ∙ ap (with_routines core 0 (with_texts [] fixed_literals)) are in
    ap (λ n. with_routine core n texts mir.program) (number ∙ sym end ∙ ap length are) ∙ ap (λ ts. with_routine core (length mir.routines) ts mir.program) so_far ∙ literals_kept core mir
  where
    drop_past : (ys : List Routine) (n : ℕ) → length ys ≡ n → drop n ys ≡ []
    drop_past [] n e = ap (λ m. drop m []) (sym e)
    drop_past (y ∷ ys) n e = ap (λ m. drop m (y ∷ ys)) (sym e) ∙ drop_past ys (length ys) refl

-- ---- texts in the keys of a set

any_items : (p : List ℕ → Bool) (keys : List (Vec ℕ Global)) → list_any (λ k. p k.items) keys ≡ list_any p (map (λ k. k.items) keys)
any_items p [] = refl
any_items p (k ∷ ks) = ap (λ b. p k.items || b) (any_items p ks)

map_added : (keys : List (Vec ℕ Global)) (key : Vec ℕ Global) (b : Bool) → map (λ k. k.items) (if b then keys else keys ++ key ∷ []) ≡ (if b then map (λ k. k.items) keys else map (λ k. k.items) keys ++ key.items ∷ [])
map_added keys key true = refl
map_added keys key false = map_last keys
  where
    map_last : (ks : List (Vec ℕ Global)) → map (λ k. k.items) (ks ++ key ∷ []) ≡ map (λ k. k.items) ks ++ key.items ∷ []
    map_last [] = refl
    map_last (k ∷ ks) = ap (λ xs. k.items ∷ xs) (map_last ks)

-- a key more
pub key_kept : (keys new : List (Vec ℕ Global)) (key : Vec ℕ Global) (text : List ℕ) (old : List (List ℕ)) → key.items ≡ text → map (λ k. k.items) keys ≡ old → new ≡ (if list_any (λ k. bytes_eq key.items k.items) keys then keys else keys ++ key ∷ []) → map (λ k. k.items) new ≡ with_text old text
key_kept keys new key text old e v n =
    ap (λ ks. map (λ k. k.items) ks) n ∙ map_added keys key (list_any (λ k. bytes_eq key.items k.items) keys)
    ∙ ap (λ b. if b then map (λ k. k.items) keys else map (λ k. k.items) keys ++ key.items ∷ []) (any_items (bytes_eq key.items) keys)
    ∙ ap (λ ts. if list_any (bytes_eq key.items) ts then ts else ts ++ key.items ∷ []) v
    ∙ ap (with_text old) e

front_items : (p : List ℕ → Bool) (keys : List (Vec ℕ Global)) → prefix_len (λ k. p k.items) keys ≡ prefix_len p (map (λ k. k.items) keys)
front_items p [] = refl
front_items p (k ∷ ks) = ap (λ n. if p k.items then 1 + n else 0) (front_items p ks)

-- the place of a key, or how many there are
placed : {A : Type 0} (p : A → Bool) (xs : List A) → unwrap_or (position p xs) (length xs) ≡ position_or_len p xs
placed p xs = by (nat_lt (position_or_len p xs) (length xs)) refl
  where
    within : (xs : List _) → position_or_len p xs ≤ length xs
    within [] = omega arith
    within (x ∷ xs) = cased (p x) (within xs)
      where
        cased : (b : Bool) → position_or_len p xs ≤ length xs → cond (not b) (1 + position_or_len p xs) 0 ≤ length (x ∷ xs)
        cased true less = omega arith
        cased false less = omega (arith, less)

    by : (b : Bool) → nat_lt (position_or_len p xs) (length xs) ≡ b → unwrap_or (position p xs) (length xs) ≡ position_or_len p xs
    by true e = ap (λ b. unwrap_or (cond b (Some (position_or_len p xs)) None) (length xs)) e
    by false e = ap (λ b. unwrap_or (cond b (Some (position_or_len p xs)) None) (length xs)) e ∙ (let less = within xs in grind (arith, nat_tests, less))

pub key_numbered : (keys : List (Vec ℕ Global)) (text : List ℕ) (old : List (List ℕ)) → map (λ k. k.items) keys ≡ old → unwrap_or (position (λ k. bytes_eq text k.items) keys) (length keys) ≡ number_of old text
key_numbered keys text old v = placed (λ k. bytes_eq text k.items) keys ∙ front_items (λ x. not (bytes_eq text x)) keys ∙ ap (λ ts. number_of ts text) v
