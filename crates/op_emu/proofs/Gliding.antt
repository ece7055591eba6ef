-- Steps over words that were decoded ahead, as steps of the definition.
use Rattle.std.proofs.Common.{◌≡◌, ℕ, zero, suc, ◌+◌, ◌-◌, ◌*◌, ◌%◌, ◌^◌, ◌<◌, true, Option, Some, None, MatchOption, List, length, get_or, refl, ap, sym, ◌∙◌, subst, arith, ⊎_elim}
use Rattle.std.proofs.lemmas.Bool.{cases_lt}
use Rattle.op_rv.specs.State.{State, Running}
use Rattle.op_rv.specs.Step.{act, step, step_by_ending, running_step, after}
use Rattle.op_rv.specs.declared.instruction.Instr.{Instr}
use Rattle.op_emu.specs.Acts.{Moment, moment, state_of, streams, Acts, Leads}
use Rattle.op_emu.specs.Quick.{running, Goes, NextIs, RowGoes}
use Rattle.op_emu.specs.Region.{Region}
use Rattle.std.specs.Option.{option_map_or}
use Rattle.op_rv.specs.Encoding.{fits}
use Rattle.op_emu.specs.Rows.{instr_of, RowFits, Stands, AreDecoded}
use Rattle.op_emu.specs.declared.hart.Hart.{Hart}
use Rattle.op_emu.specs.declared.quick.Next.{Next}
use Rattle.op_emu.specs.declared.quick.Next.TheVariants.{On, To, Stayed}
use Rattle.op_emu.specs.declared.row.Row.{Row}
use Rattle.op_emu.specs.declared.row.Row.TheVariants.{Other}
use Rattle.op_emu.proofs.ActsLemmas.{running_step-row, after-suc, Acts-quiet, Acts-same, Acts-then}

fits_of_option : (rs : List Region) (at : ℕ) (o : Option Instr) → ((i : Instr) → o ≡ Some i → Stands rs at i) → option_map_or fits o true ≡ true
fits_of_option rs at None stands = refl
fits_of_option rs at (Some i) stands = (stands i refl).fit

-- the operands of a row that stands fit their fields
pub fits_of : (rows : List Row) (row : Row) (rs : List Region) (base k : ℕ) → AreDecoded rs base rows → k < length rows → row ≡ get_or rows k Other → RowFits row
fits_of rows row rs base k decoded inside is =
    fits_of_option rs (base + 4 * k) (instr_of row) (λ i of. decoded.stand k inside i (ap instr_of (sym is) ∙ of))

-- no step
pub Goes-none : (n : ℕ) (words : List ℕ) (pc : ℕ) (rs : List Region) → n ≡ 0 → Goes (after n) words pc rs words pc rs
unfolding after
Goes-none n words pc rs is x o e = ap (λ n. after n (running words pc rs x o e)) is

-- the instruction that stands at the pc
Goes-stands : (words words' : List ℕ) (pc pc' : ℕ) (rs rs' : List Region) (i : Instr) → Stands rs pc i → Goes (act i) words pc rs words' pc' rs' → Goes running_step words pc rs words' pc' rs'
Goes-stands words words' pc pc' rs rs' i stands goes x o e =
    running_step-row (running words pc rs x o e) i _ stands.fetched refl stands.found ∙ goes x o e

next_stands : (next : Next) (base many k : ℕ) (words words' : List ℕ) (rs rs' : List Region) (i : Instr) → Stands rs (base + 4 * k) i → NextIs (act i) base many k words rs next words' rs' → NextIs running_step base many k words rs next words' rs'
next_stands On base many k words words' rs rs' i stands is = Goes-stands words words' _ _ rs rs' i stands is
next_stands (To place) base many k words words' rs rs' i stands is = (is.0, Goes-stands words words' _ _ rs rs' i stands is.1)
next_stands Stayed base many k words words' rs rs' i stands is = is

next_of_option : (o : Option Instr) (next : Next) (base many k : ℕ) (words words' : List ℕ) (rs rs' : List Region) → ((i : Instr) → o ≡ Some i → Stands rs (base + 4 * k) i) → MatchOption o ((next ≡ Stayed) × (words' ≡ words) × (rs' ≡ rs)) (λ i. NextIs (act i) base many k words rs next words' rs') → NextIs running_step base many k words rs next words' rs'
next_of_option None next base many k words words' rs rs' stands is =
    subst (λ next. NextIs running_step base many k words rs next words' rs') (sym is.0) (is.1, is.2)
next_of_option (Some i) next base many k words words' rs rs' stands is =
    next_stands next base many k words words' rs rs' i (stands i refl) is

-- what is done of the row at a place is a step
pub next_of : (rows : List Row) (row : Row) (next : Next) (base k : ℕ) (words words' : List ℕ) (rs rs' : List Region) → AreDecoded rs base rows → k < length rows → row ≡ get_or rows k Other → RowGoes row base (length rows) k words rs next words' rs' → NextIs running_step base (length rows) k words rs next words' rs'
next_of rows row next base k words words' rs rs' decoded inside is goes =
    next_of_option (instr_of row) next base (length rows) k words words' rs rs' (λ i of. decoded.stand k inside i (ap instr_of (sym is) ∙ of)) goes

stayed : On ≡ Stayed → ⊥
stayed is = cc

-- the last row is none, so what goes on is not the last
pub not_last : (rows : List Row) (row : Row) (base k : ℕ) (words words' : List ℕ) (rs rs' : List Region) → AreDecoded rs base rows → k < length rows → row ≡ get_or rows k Other → RowGoes row base (length rows) k words rs On words' rs' → k + 1 < length rows
not_last rows row base k words words' rs rs' decoded inside is goes =
    ⊎_elim (λ more. more) (λ past.
    let end : k ≡ length rows - 1 = omega arith in
    let none : row ≡ Other = is ∙ ap (λ n. get_or rows n Other) end ∙ decoded.last in
    absurd (stayed (subst (λ row. RowGoes row base (length rows) k words rs On words' rs') none goes).0)) (cases_lt (k + 1) (length rows))

-- the address of the next word, which does not wrap
pub next_word : (base k : ℕ) → base + 4 * k + 4 < 2 ^ 32 → (base + 4 * k + 4) % 2 ^ 32 ≡ base + 4 * (k + 1)
next_word base k below = omega arith

step_running : (words : List ℕ) (pc : ℕ) (rs : List Region) (x o e : List ℕ) → step (running words pc rs x o e) ≡ running_step (running words pc rs x o e)
unfolding step step_by_ending
step_running words pc rs x o e = refl

-- so many steps and one more
pub Goes-then : (n m : ℕ) (words words' words'' : List ℕ) (pc pc' pc'' : ℕ) (rs rs' rs'' : List Region) → m ≡ suc n → Goes (after n) words pc rs words' pc' rs' → Goes running_step words' pc' rs' words'' pc'' rs'' → Goes (after m) words pc rs words'' pc'' rs''
Goes-then n m words words' words'' pc pc' pc'' rs rs' rs'' is first next x o e =
    ap (λ m. after m (running words pc rs x o e)) is
    ∙ sym (after-suc n (running words pc rs x o e))
    ∙ ap step (first x o e)
    ∙ step_running words' pc' rs' x o e
    ∙ next x o e

-- the same, and nothing more
pub Goes-same : (f : State → State) (words words' words'' : List ℕ) (pc pc' : ℕ) (rs rs' rs'' : List Region) → Goes f words pc rs words' pc' rs' → words'' ≡ words' → rs'' ≡ rs' → Goes f words pc rs words'' pc' rs''
Goes-same f words words' words'' pc pc' rs rs' rs'' goes is_words is_rs x o e =
    goes x o e
    ∙ ap (λ words. running words pc' rs' x o e) (sym is_words)
    ∙ ap (λ rs. running words'' pc' rs x o e) (sym is_rs)

pub after-add : (m n : ℕ) (s : State) → after (m + n) s ≡ after n (after m s)
unfolding after
after-add zero n s = let e : zero + n ≡ n = omega arith in ap (λ k. after k s) e
after-add (suc m) n s = let e : suc m + n ≡ suc (m + n) = omega arith in ap (λ k. after k s) e ∙ after-add m n (step s)

-- a run, and steps that touch no stream
pub Acts-glide : (m n : ℕ) (a : Moment) (b c : Hart) (i i' o o' e e' : Option (List ℕ)) → Acts (after m) a (moment b Running) (streams i i' o o' e e') → Leads (after n) b (moment c Running) → Acts (after (m + n)) a (moment c Running) (streams i i' o o' e e')
Acts-glide m n a b c i i' o o' e e' first next =
    Acts-same (λ s. after n (after m s)) (after (m + n)) a (moment c Running) _ (λ x out err. after-add m n (state_of a x out err)) (Acts-then (after m) (after n) a (moment b Running) i i' i' o o' o' e e' e' (moment c Running) first (Acts-quiet (after n) (moment b Running) (moment c Running) i' o' e' next.input next.leads))
