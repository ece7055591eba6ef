-- Refusals of parts are refusals of what they are parts of.
use Rattle.std.proofs.Common.{◌≡◌, ◌+◌, ◌-◌, ℕ, zero, suc, List, [], ◌∷◌, ◌++◌, append_assoc, refl, sym, ap, ◌∙◌, subst, length, length-append, arith, ap₂}
use Rattle.op_tree.proofs.ExpressionUnique.{behind}
use Rattle.op_base.specs.declared.place.Place.{Place}
use Rattle.op_parse_code.proofs.Cuts.{IsCut, cut_seen, same_behind}
use Rattle.op_parse_code.specs.GrammarForm.{HasGrammarForm}
use Rattle.op_parse_code.specs.Refusal.{Phrase, SameHead, Dead, Leads, Alive, Shown, RefusesBy, Decision, out_of_memory, syntax, nested, in_grammar, refused_at}
use Rattle.op_parse_code.specs.Whole.{Marked, NoMark}
use Rattle.op_parse_code.specs.declared.error.ParseError.{ParseError}
use Rattle.op_parse_code.specs.declared.mark.Mark.{Mark}
use Rattle.op_tree.specs.Terminal.{Terminal}

-- some part stands there
abbrev pub Some_ : {A : Type 0} → Phrase A → ℕ → List Terminal → Type 0
Some_ {A} P d ks = (a : A) × (r : List Terminal) × P d a ks r

-- one part, and behind it another
abbrev pub Seq : {A B : Type 0} → Phrase A → Phrase B → Phrase (A × B)
Seq P Q d x ks r = (m : List Terminal) × P d x.0 ks m × Q d x.1 m r

pub head_same : {t u : Terminal} {ks ls : List Terminal} → t ∷ ks ≡ u ∷ ls → t ≡ u
head_same h = cc

pub suc_same : {n m : ℕ} → suc n ≡ suc m → n ≡ m
suc_same h = cc

-- two lists of tokens before the same ones, where the whole is the same
pub append_same_front : (f g q : List Terminal) → f ++ q ≡ g ++ q → f ≡ g
append_same_front [] [] q h = refl
append_same_front [] (u ∷ g) q h = absurd (omega (arith, ap length h, length-append g q))
append_same_front (t ∷ f) [] q h = absurd (omega (arith, ap length h, length-append f q))
append_same_front (t ∷ f) (u ∷ g) q h = ap₂ (λ x y. x ∷ y) (head_same h) (append_same_front f g q (ap behind h))

-- ---- tokens in front

pub with_token_in_grammar : (t : Terminal) {feature : ℕ} {ks q : List Terminal} → HasGrammarForm feature ks q → HasGrammarForm feature (t ∷ ks) q
with_token_in_grammar t (seen, form, e, f) = (t ∷ seen, form, ap (λ z. t ∷ z) e, f)

pub with_front_in_grammar : (front : List Terminal) {feature : ℕ} {ks m q : List Terminal} → ks ≡ front ++ m → HasGrammarForm feature m q → HasGrammarForm feature ks q
with_front_in_grammar front e (seen, form, e1, f) = (front ++ seen, form, e ∙ ap (λ z. front ++ z) e1 ∙ sym (append_assoc front seen form), f)

pub leads_token : {A B : Type 0} (P : A → List Terminal → List Terminal → Type 0) (Q : B → List Terminal → List Terminal → Type 0) (G : List Terminal → Type 0) (t : Terminal) (ks q : List Terminal) → ((b : B) (ls r : List Terminal) → Q b (t ∷ ls) r → (a : A) × (r' : List Terminal) × P a ls r') → Leads P ks q G → Leads Q (t ∷ ks) q G
leads_token P Q G t ks q h (seen, e, never) = (t ∷ seen, ap (λ z. t ∷ z) e, λ ls b r s x. let w = h b (seen ++ ls) r x in never ls w.0 w.1 s w.2)

pub leads_map : {A B : Type 0} (P : A → List Terminal → List Terminal → Type 0) (Q : B → List Terminal → List Terminal → Type 0) (G : List Terminal → Type 0) (ks q : List Terminal) → ((b : B) (ls r : List Terminal) → SameHead ks ls → Q b ls r → (a : A) × (r' : List Terminal) × P a ls r') → Leads P ks q G → Leads Q ks q G
leads_map P Q G ks q h (seen, e, never) = (seen, e, λ ls b r s x. let w = h b (seen ++ ls) r (subst (λ z. SameHead z (seen ++ ls)) (sym e) (same_behind seen q ls s)) x in never ls w.0 w.1 s w.2)

leads_seen : {A : Type 0} (P : A → List Terminal → List Terminal → Type 0) (G : List Terminal → Type 0) (ks q front : List Terminal) → ks ≡ front ++ q → Leads P ks q G → (ls : List Terminal) (a : A) (r : List Terminal) → SameHead q ls → P a (front ++ ls) r → G ls
leads_seen P G ks q front e (seen, e1, never) ls a r s x = never ls a r s (subst (λ z. P a (z ++ ls) r) (append_same_front front seen q (sym e ∙ e1)) x)

pub inside_seen : {A : Type 0} (P : A → List Terminal → List Terminal → Type 0) (ks q front : List Terminal) → ks ≡ front ++ q → Dead P ks q → (ls : List Terminal) (a : A) (r : List Terminal) → SameHead q ls → P a (front ++ ls) r → ⊥
inside_seen P ks q front e dead = leads_seen P (λ ls. ⊥) ks q front e dead

pub dead_here : {A : Type 0} (P : A → List Terminal → List Terminal → Type 0) (ks : List Terminal) → ((a : A) (ls r : List Terminal) → SameHead ks ls → P a ls r → ⊥) → Dead P ks ks
dead_here P ks h = ([], refl, λ ls a r s x. h a ls r s x)

pub leads_inside : {A B : Type 0} (P : Phrase A) (Q : Phrase B) (G : List Terminal → Type 0) (d' : ℕ) (t : Terminal) (ks q : List Terminal) → ((b : B) (ls r : List Terminal) → Q d' b (t ∷ ls) r → (i : ℕ) × (d' ≡ suc i) × Some_ P i ls) → ((i : ℕ) → Leads (P i) ks q G) → Leads (Q d') (t ∷ ks) q G
leads_inside P Q G d' t ks q h never =
    let first = never d' in
    (t ∷ first.0, ap (λ z. t ∷ z) first.1, λ ls b r s x. let w = h b (first.0 ++ ls) r x in leads_seen (P w.0) G ks q first.0 first.1 (never w.0) ls w.2.0 w.2.1 s w.2.2)

pub inside_any : {A B : Type 0} (P : Phrase A) (Q : Phrase B) (d' : ℕ) (t : Terminal) (ks q : List Terminal) → ((b : B) (ls r : List Terminal) → Q d' b (t ∷ ls) r → (i : ℕ) × (d' ≡ suc i) × Some_ P i ls) → ((i : ℕ) → Dead (P i) ks q) → Dead (Q d') (t ∷ ks) q
inside_any P Q d' t ks q h never = leads_inside P Q (λ ls. ⊥) d' t ks q h never

pub leads_deeper : {A B : Type 0} (P : Phrase A) (Q : Phrase B) (G : List Terminal → Type 0) (d' : ℕ) (ks q : List Terminal) → ((b : B) (ls r : List Terminal) → SameHead ks ls → Q d' b ls r → (i : ℕ) × (d' ≡ suc i) × Some_ P i ls) → ((i : ℕ) → Leads (P i) ks q G) → Leads (Q d') ks q G
leads_deeper P Q G d' ks q h never =
    let first = never d' in
    (first.0, first.1, λ ls b r s x. let w = h b (first.0 ++ ls) r (subst (λ z. SameHead z (first.0 ++ ls)) (sym first.1) (same_behind first.0 q ls s)) x in leads_seen (P w.0) G ks q first.0 first.1 (never w.0) ls w.2.0 w.2.1 s w.2.2)

-- ---- parts of a greater depth

-- what is shown of some tokens shows what is to be shown of others, up to the same token
abbrev pub Shows : Shown → ℕ → List Terminal → Shown → ℕ → List Terminal → Type 0
Shows W d ks V i ls = (q : List Terminal) → W d ks q → V i ls q

-- Where tokens begin a part of a greater depth, others do, up to the same token.
abbrev pub HandsOn : {A B : Type 0} → Phrase A → ℕ → List Terminal → Phrase B → ℕ → List Terminal → Type 0
HandsOn P d ks Q i ls = Shows (Alive P) d ks (Alive Q) i ls

-- ---- refusals

-- at the same depth, what stands behind a token
pub refuses_behind_by : {A B : Type 0} {D : Decision} {W V : Shown} (P : Phrase A) (Q : Phrase B) (d : ℕ) (end : Place) (t : Terminal) (ks : List Terminal) (e : ParseError) → ((d' : ℕ) (b : B) (ls r : List Terminal) → Q d' b (t ∷ ls) r → Some_ P d' ls) → Shows W d ks V d (t ∷ ks) → RefusesBy D W P d end ks e → RefusesBy D V Q d end (t ∷ ks) e
refuses_behind_by P Q d end t ks e h k (out_of_memory x) = out_of_memory x
refuses_behind_by P Q d end t ks e h k (syntax q x never) = syntax q x (λ d'. leads_token (P d') (Q d') (λ ls. ⊥) t ks q (h d') (never d'))
refuses_behind_by P Q d end t ks e h k (nested q z n x w never v lives) = nested q z n x w (leads_token (P d) (Q d) (λ ls. ⊥) t ks z (h d) never) v (k n lives)
refuses_behind_by P Q d end t ks e h k (in_grammar feature q x f) = in_grammar feature q x (with_token_in_grammar t f)

-- one deeper, what stands behind a token
pub refuses_inside_by : {A B : Type 0} {D : Decision} {W V : Shown} (P : Phrase A) (Q : Phrase B) (d : ℕ) (end : Place) (t : Terminal) (ks : List Terminal) (e : ParseError) → ((d' : ℕ) (b : B) (ls r : List Terminal) → Q d' b (t ∷ ls) r → (i : ℕ) × (d' ≡ suc i) × Some_ P i ls) → Shows W d ks V (suc d) (t ∷ ks) → RefusesBy D W P d end ks e → RefusesBy D V Q (suc d) end (t ∷ ks) e
refuses_inside_by P Q d end t ks e h k (out_of_memory x) = out_of_memory x
refuses_inside_by P Q d end t ks e h k (syntax q x (never)) = syntax q x (λ d'. inside_any P Q d' t ks q (h d') never)
refuses_inside_by P Q d end t ks e h k (nested q z n x w never v lives) = nested q z n x w (leads_token (P d) (Q (suc d)) (λ ls. ⊥) t ks z (λ b ls r f. let u = h (suc d) b ls r f in subst (λ (i : ℕ). Some_ P i ls) (sym (suc_same u.1)) u.2) never) v (k n lives)
refuses_inside_by P Q d end t ks e h k (in_grammar feature q x f) = in_grammar feature q x (with_token_in_grammar t f)

-- one deeper at the same place
pub refuses_deeper_by : {A B : Type 0} {D : Decision} {W V : Shown} (P : Phrase A) (Q : Phrase B) (d : ℕ) (end : Place) (ks : List Terminal) (e : ParseError) → ((d' : ℕ) (b : B) (ls r : List Terminal) → SameHead ks ls → Q d' b ls r → (i : ℕ) × (d' ≡ suc i) × Some_ P i ls) → Shows W d ks V (suc d) ks → RefusesBy D W P d end ks e → RefusesBy D V Q (suc d) end ks e
refuses_deeper_by P Q d end ks e h k (out_of_memory x) = out_of_memory x
refuses_deeper_by P Q d end ks e h k (syntax q x never) = syntax q x (λ d'. leads_deeper P Q (λ ls. ⊥) d' ks q (h d') never)
refuses_deeper_by P Q d end ks e h k (nested q z n x w never v lives) = nested q z n x w (leads_map (P d) (Q (suc d)) (λ ls. ⊥) ks z (λ b ls r s f. let u = h (suc d) b ls r s f in subst (λ (i : ℕ). Some_ P i ls) (sym (suc_same u.1)) u.2) never) v (k n lives)
refuses_deeper_by P Q d end ks e h k (in_grammar feature q x f) = in_grammar feature q x f

-- the same place and depth
pub refuses_map_by : {A B : Type 0} {D : Decision} {W V : Shown} (P : Phrase A) (Q : Phrase B) (d : ℕ) (end : Place) (ks : List Terminal) (e : ParseError) → ((d' : ℕ) (b : B) (ls r : List Terminal) → SameHead ks ls → Q d' b ls r → Some_ P d' ls) → Shows W d ks V d ks → RefusesBy D W P d end ks e → RefusesBy D V Q d end ks e
refuses_map_by P Q d end ks e h k (out_of_memory x) = out_of_memory x
refuses_map_by P Q d end ks e h k (syntax q x never) = syntax q x (λ d'. leads_map (P d') (Q d') (λ ls. ⊥) ks q (h d') (never d'))
refuses_map_by P Q d end ks e h k (nested q z n x w never v lives) = nested q z n x w (leads_map (P d) (Q d) (λ ls. ⊥) ks z (h d) never) v (k n lives)
refuses_map_by P Q d end ks e h k (in_grammar feature q x f) = in_grammar feature q x f

pub refuses_first_by : {A B : Type 0} {D : Decision} {W V : Shown} (P : Phrase A) (Q : Phrase B) (d : ℕ) (end : Place) (ks : List Terminal) (e : ParseError) → Shows W d ks V d ks → RefusesBy D W P d end ks e → RefusesBy D V (Seq P Q) d end ks e
refuses_first_by P Q d end ks e k h = refuses_map_by P (Seq P Q) d end ks e (λ d' b ls r s x. (b.0, x.0, x.1)) k h

-- the same where a part of a greater depth is shown

pub refuses_behind : {A B : Type 0} {D : Decision} (P : Phrase A) (Q : Phrase B) (d : ℕ) (end : Place) (t : Terminal) (ks : List Terminal) (e : ParseError) → ((d' : ℕ) (b : B) (ls r : List Terminal) → Q d' b (t ∷ ls) r → Some_ P d' ls) → HandsOn P d ks Q d (t ∷ ks) → RefusesBy D (Alive P) P d end ks e → RefusesBy D (Alive Q) Q d end (t ∷ ks) e
refuses_behind P Q d end t ks e h k x = refuses_behind_by {W = Alive P} {V = Alive Q} P Q d end t ks e h k x

pub refuses_inside : {A B : Type 0} {D : Decision} (P : Phrase A) (Q : Phrase B) (d : ℕ) (end : Place) (t : Terminal) (ks : List Terminal) (e : ParseError) → ((d' : ℕ) (b : B) (ls r : List Terminal) → Q d' b (t ∷ ls) r → (i : ℕ) × (d' ≡ suc i) × Some_ P i ls) → HandsOn P d ks Q (suc d) (t ∷ ks) → RefusesBy D (Alive P) P d end ks e → RefusesBy D (Alive Q) Q (suc d) end (t ∷ ks) e
refuses_inside P Q d end t ks e h k x = refuses_inside_by {W = Alive P} {V = Alive Q} P Q d end t ks e h k x

pub refuses_deeper : {A B : Type 0} {D : Decision} (P : Phrase A) (Q : Phrase B) (d : ℕ) (end : Place) (ks : List Terminal) (e : ParseError) → ((d' : ℕ) (b : B) (ls r : List Terminal) → SameHead ks ls → Q d' b ls r → (i : ℕ) × (d' ≡ suc i) × Some_ P i ls) → HandsOn P d ks Q (suc d) ks → RefusesBy D (Alive P) P d end ks e → RefusesBy D (Alive Q) Q (suc d) end ks e
refuses_deeper P Q d end ks e h k x = refuses_deeper_by {W = Alive P} {V = Alive Q} P Q d end ks e h k x

pub refuses_map : {A B : Type 0} {D : Decision} (P : Phrase A) (Q : Phrase B) (d : ℕ) (end : Place) (ks : List Terminal) (e : ParseError) → ((d' : ℕ) (b : B) (ls r : List Terminal) → SameHead ks ls → Q d' b ls r → Some_ P d' ls) → HandsOn P d ks Q d ks → RefusesBy D (Alive P) P d end ks e → RefusesBy D (Alive Q) Q d end ks e
refuses_map P Q d end ks e h k x = refuses_map_by {W = Alive P} {V = Alive Q} P Q d end ks e h k x

pub refuses_first : {A B : Type 0} {D : Decision} (P : Phrase A) (Q : Phrase B) (d : ℕ) (end : Place) (ks : List Terminal) (e : ParseError) → HandsOn P d ks (Seq P Q) d ks → RefusesBy D (Alive P) P d end ks e → RefusesBy D (Alive (Seq P Q)) (Seq P Q) d end ks e
refuses_first P Q d end ks e k x = refuses_first_by {W = Alive P} {V = Alive (Seq P Q)} P Q d end ks e k x

-- ---- what is known of a sort of parts

-- A part stands whatever follows that begins so, and at any greater depth, and never other one ends elsewhere.
pub record Known {A : Type 0} (P : Phrase A) : Type 0 where
  pub front : (d : ℕ) (a : A) (ks m : List Terminal) → P d a ks m → (f : List Terminal → List Terminal) × IsCut f × (ks ≡ f m) × ((x : List Terminal) → SameHead m x → P d a (f x) x)
  pub same : (d d' : ℕ) (a a' : A) (ks m m' : List Terminal) → P d a ks m → P d' a' ks m' → m ≡ m'
  pub deepens : (d : ℕ) (a : A) (ks m : List Terminal) → P d a ks m → P (suc d) a ks m

pub leads_after : {A B : Type 0} (P : Phrase A) (Q : Phrase B) (G : List Terminal → Type 0) (d d' : ℕ) (a : A) (ks m q : List Terminal) → Known P → P d a ks m → Leads (Q d') m q G → Leads (Seq P Q d') ks q G
leads_after P Q G d d' a ks m q known p (seen, e, never) =
    let w = known.front d a ks m p in
    let s = cut_seen w.1 in (
      s.0 ++ seen,
      w.2 ∙ s.1 m ∙ ap (λ z. s.0 ++ z) e ∙ sym (append_assoc s.0 seen q),
      λ ls b r h x.
          let whole : P d a (s.0 ++ (seen ++ ls)) (seen ++ ls) = subst (λ z. P d a z (seen ++ ls)) (s.1 (seen ++ ls)) (w.3 (seen ++ ls) (subst (λ z. SameHead z (seen ++ ls)) (sym e) (same_behind seen q ls h))) in
          let other : P d' b.0 (s.0 ++ (seen ++ ls)) x.0 = subst (λ z. P d' b.0 z x.0) (append_assoc s.0 seen ls) x.1 in
          never ls b.1 r h (subst (λ z. Q d' b.1 z r) (sym (known.same d d' a b.0 _ _ _ whole other)) x.2),
    )

by_depth : {A : Type 0} (P : Phrase A) (n d i : ℕ) (a : A) (ks m : List Terminal) → Known P → i ≡ n + d → P d a ks m → P i a ks m
by_depth P zero d i a ks m known h p = let same : d ≡ i = omega (arith, h) in subst (λ (z : ℕ). P z a ks m) same p
by_depth P (suc n) d i a ks m known h p = let same : suc (n + d) ≡ i = omega (arith, h) in subst (λ (z : ℕ). P z a ks m) same (known.deepens (n + d) a ks m (by_depth P n d (n + d) a ks m known refl p))

pub alive_after : {A B : Type 0} (P : Phrase A) (Q : Phrase B) (d : ℕ) (a : A) (ks m q : List Terminal) → Known P → P d a ks m → Alive Q d m q → Alive (Seq P Q) d ks q
alive_after P Q d a ks m q known p x =
    let w = known.front x.depth a ks m (by_depth P (x.depth - d) d x.depth a ks m known (omega (arith, x.deep)) p) in
    let s = cut_seen w.1 in
    let goes : List Terminal = x.first ∷ (x.others ++ x.behind) in
    let whole : P x.depth a (s.0 ++ (x.seen ++ goes)) (x.seen ++ goes) = subst (λ z. P x.depth a z (x.seen ++ goes)) (s.1 (x.seen ++ goes)) (w.3 (x.seen ++ goes) (subst (λ z. SameHead z (x.seen ++ goes)) (sym (x.from ∙ ap (λ z. x.seen ++ z) x.to)) (same_behind x.seen (x.first ∷ x.rest) goes refl))) in
    record {
      seen = s.0 ++ x.seen;
      first = x.first;
      rest = x.rest;
      from = w.2 ∙ s.1 m ∙ ap (λ z. s.0 ++ z) x.from ∙ sym (append_assoc s.0 x.seen q);
      to = x.to;
      depth = x.depth;
      deep = x.deep;
      others = x.others;
      behind = x.behind;
      part = (a, x.part);
      stands = (x.seen ++ goes, subst (λ z. P x.depth a z (x.seen ++ goes)) (sym (append_assoc s.0 x.seen goes)) whole, x.stands);
    }

pub refuses_after_by : {A B : Type 0} {D : Decision} {W V : Shown} (P : Phrase A) (Q : Phrase B) (d : ℕ) (end : Place) (a : A) (ks m : List Terminal) (e : ParseError) → Known P → P d a ks m → Shows W d m V d ks → RefusesBy D W Q d end m e → RefusesBy D V (Seq P Q) d end ks e
refuses_after_by P Q d end a ks m e known p k (out_of_memory x) = out_of_memory x
refuses_after_by P Q d end a ks m e known p k (syntax q x never) = syntax q x (λ d'. leads_after P Q (λ ls. ⊥) d d' a ks m q known p (never d'))
refuses_after_by P Q d end a ks m e known p k (nested q z n x w never v lives) = nested q z n x w (leads_after P Q (λ ls. ⊥) d d a ks m z known p never) v (k n lives)
refuses_after_by P Q d end a ks m e known p k (in_grammar feature q x f) =
    let w = known.front d a ks m p in
    let s = cut_seen w.1 in
    in_grammar feature q x (with_front_in_grammar s.0 (w.2 ∙ s.1 m) f)

pub refuses_after : {A B : Type 0} {D : Decision} (P : Phrase A) (Q : Phrase B) (d : ℕ) (end : Place) (a : A) (ks m : List Terminal) (e : ParseError) → Known P → P d a ks m → RefusesBy D (Alive Q) Q d end m e → RefusesBy D (Alive (Seq P Q)) (Seq P Q) d end ks e
refuses_after P Q d end a ks m e known p h = refuses_after_by {W = Alive Q} {V = Alive (Seq P Q)} P Q d end a ks m e known p (λ q x. alive_after P Q d a ks m q known p x) h

-- ---- marks

pub no_mark_same : (m : Mark) (ks ls : List Terminal) → SameHead ks ls → NoMark m ks → NoMark m ls
no_mark_same m [] [] s never = never
no_mark_same m [] (u ∷ ls) s never = absurd s
no_mark_same m (t ∷ ks) [] s never = absurd s
no_mark_same m (t ∷ ks) (u ∷ ls) s never = λ p r h. never p ks (ap (λ z. z ∷ ks) (s ∙ head_same h))

pub no_mark_refuses : {D : Decision} {W : Shown} (m : Mark) (d : ℕ) (end : Place) (ks : List Terminal) (e : ParseError) → NoMark m ks → e ≡ refused_at 9 0 end ks → RefusesBy D W (Marked m) d end ks e
no_mark_refuses m d end ks e never x = syntax ks x (λ d'. dead_here (Marked m d') ks (λ p ls r s h. no_mark_same m ks ls s never p r h))
