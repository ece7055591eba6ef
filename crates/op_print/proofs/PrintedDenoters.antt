-- Names, types and first values can be printed and read again.
use Rattle.std.proofs.Common.{◌≡◌, ℕ, suc, true, false, List, [], ◌∷◌, Some, None, map, refl, sym, ap, subst, ap₂}
use Rattle.op_base.proofs.Tests.{ap₃}
use Rattle.op_print.proofs.Printed.{here, Able, Printed, printed, again, passed, Listed, last, more, bracketed, enclosed_is}
use Rattle.op_print.proofs.PrintedExpressions.{printed_chain}
use Rattle.op_print.specs.DenoterDrafts.{denoter_draft, denoter_drafts, fields_draft, initial_draft, initial_drafts, field_initial_drafts}
use Rattle.op_print.specs.NameDrafts.{name_draft, bracketed_draft, qualified_draft}
use Rattle.op_print.specs.Page.{nothing, word, tight, word_at, ◌&◌}
use Rattle.op_print.specs.Unplaced.{bare_position, bare_name, bare_names, bare_qualified, bare_denoter, bare_denoters, bare_field_lists, bare_initial, bare_initials, bare_field_initials}
use Rattle.op_scan.specs.declared.token.TokenKind.TheVariants as kind
use Rattle.op_tree.specs.Denoter.{Denoter, named, string, subrange, enumeration, set, array, record_, Denoters, no_denoters, denoters, FieldLists, no_fields, fields}
use Rattle.op_tree.specs.DenoterGrammar.{IsDenoter, is_named, is_string, is_subrange, is_enumeration, is_set, is_unpacked, is_packed, is_dynamic_array, is_static_array, is_record, AreDenoters, are_one_denoter, are_denoters, AreFieldLists, are_no_fields, are_last_fields, are_fields, IsNoExpression, IsInitial, is_value, is_list, is_record_value, AreInitials, are_one_initial, are_initials, AreFieldInitials, are_one_field_initial, are_field_initials}
use Rattle.op_tree.specs.Initial.{Initial, value, list, record_ as record_value, Initials, no_initials, initials, FieldInitials, no_field_initials, field_initials}
use Rattle.op_tree.specs.NameGrammar.{IsName, is_name, AreNames, are_one_name, are_names, IsQualified, is_unqualified, is_qualified, AreBracketedNames, are_bracketed_names}
use Rattle.op_tree.specs.Terminal.{Terminal, ◌at◌, name}
use Rattle.op_tree.specs.declared.position.Name.{Name}
use Rattle.op_tree.specs.declared.position.Position.{Position}
use Rattle.op_tree.specs.declared.position.QualifiedName.{QualifiedName}

-- ---- names

pub printed_name : {n : Name} {ks r : List Terminal} → IsName n ks r → Able ks → Printed IsName bare_name n (name_draft n) r
printed_name (is_name {text = text} {p = w}) g = printed g.0 g.1 (λ p z. again (name text (here p w)) is_name refl)

pub printed_names : {ns : List Name} {ks r : List Terminal} → AreNames ns ks r → Able ks → Listed AreNames bare_names kind.Comma ns (map name_draft ns) r
printed_names (are_one_name n) g = last (λ x. x ∷ []) (λ a ks z. are_one_name) (λ a. ap (λ x. x ∷ [])) (printed_name n g)
printed_names (are_names n ns) g =
    let u = printed_name n g in
    more (λ x y. x ∷ y) (λ a b p ks m z. are_names) (λ a b. ap₂ (λ x y. x ∷ y)) u (printed_names ns u.able.1)

pub printed_qualified : {q : QualifiedName} {ks r : List Terminal} → IsQualified q ks r → Able ks → Printed IsQualified bare_qualified q (qualified_draft q) r
printed_qualified (is_unqualified n) g = passed (λ x. record { unit = None; name = x }) (λ a ks z. is_unqualified) (λ a. ap (λ x. record { unit = None; name = x })) (printed_name n g)
printed_qualified (is_qualified (is_name {text = t} {p = x}) (is_name {text = w} {p = y})) g = printed (g.0, (tt, g.1.1.0)) g.1.1.1 (λ p z. again (record { unit = Some (name t (here p.0 x)); name = name w (here p.1.1 y) }) (is_qualified is_name is_name) refl)

pub printed_brackets : {d : ℕ} {ns : List Name} {ks r : List Terminal} → AreBracketedNames d ns ks r → Able ks → Printed (AreBracketedNames d) bare_names ns (bracketed_draft ns) r
printed_brackets (are_bracketed_names ns) g = bracketed kind.OpenParenthesis (λ a p q ks z. are_bracketed_names) tt (printed_names ns g.1)

-- ---- types

mutual
  pub printed_denoter : {d : ℕ} {t : Denoter} {ks r : List Terminal} → IsDenoter d t ks r → Able ks → Printed (IsDenoter d) bare_denoter t (denoter_draft t) r
  printed_denoter (is_named q) g = passed named (λ a ks z. is_named) (λ a. ap named) (printed_qualified q g)
  printed_denoter (is_string {p = w}) g = printed tt g.1 (λ p z. again (string (here p w)) is_string refl)
  printed_denoter (is_subrange f h) g =
      let u = printed_chain f g in
      let v = printed_chain h u.able.1 in
      printed (u.words, (tt, v.words)) v.able (λ p z. let a = u.again p.0 _ in let b = v.again p.1.1 z in again (subrange a.part b.part) (is_subrange a.is b.is) (ap₂ subrange a.same b.same))
  printed_denoter (is_enumeration {p = w} (are_bracketed_names ns)) g =
      let u = printed_names ns g.1 in
      printed (tt, (u.all.words, tt)) u.all.able.1 (λ p z. let a = u.all.again p.1.0 _ in again (enumeration (here p.0 w) a.part) (is_enumeration (are_bracketed_names a.is)) (ap (enumeration (bare_position w)) a.same))
  printed_denoter (is_set {p = w} t) g =
      let u = printed_denoter t g.1.1 in
      printed (tt, (tt, u.words)) u.able (λ p z. let a = u.again p.1.1 z in again (set (here p.0 w) a.part) (is_set a.is) (ap (set (bare_position w)) a.same))
  printed_denoter (is_unpacked {p = w} (is_dynamic_array t)) g =
      let u = printed_denoter t g.1.1 in
      printed (tt, (tt, (tt, (tt, u.words)))) u.able (λ p z. let a = u.again p.1.1.1.1 z in again (array (here p.1.0 w) false no_denoters a.part) (is_unpacked (is_dynamic_array a.is)) (ap (array (bare_position w) false no_denoters) a.same))
  printed_denoter (is_packed {p = w} (is_dynamic_array t)) g =
      let u = printed_denoter t g.1.1.1 in
      printed (tt, (tt, (tt, (tt, u.words)))) u.able (λ p z. let a = u.again p.1.1.1.1 z in again (array (here p.0 w) true no_denoters a.part) (is_packed (is_dynamic_array a.is)) (ap (array (bare_position w) true no_denoters) a.same))
  printed_denoter {r = r} (is_unpacked (is_static_array {d = d} {ts = ts0} {t = t0} {p = q} ts t)) g =
      let u = printed_denoters ts g.1.1 in
      let v = printed_denoter t u.all.able.1.1 in
      subst (λ c. Printed (IsDenoter (suc (suc d))) bare_denoter (array q false ts0 t0) (nothing & word_at q.switches kind.Array & c & word kind.Of & denoter_draft t0) r) (sym (enclosed_is kind.OpenBracket kind.Comma kind.CloseBracket (denoter_drafts ts0) u.some))
      (printed (tt, (tt, ((tt, (u.all.words, tt)), (tt, v.words)))) v.able (λ p z. let a = u.all.again p.1.1.0.1.0 _ in let b = v.again p.1.1.1.1 z in again (array (here p.1.0 q) false a.part b.part) (is_unpacked (is_static_array a.is b.is)) (ap₂ (array (bare_position q) false) a.same b.same)))
  printed_denoter {r = r} (is_packed (is_static_array {d = d} {ts = ts0} {t = t0} {p = q} ts t)) g =
      let u = printed_denoters ts g.1.1.1 in
      let v = printed_denoter t u.all.able.1.1 in
      subst (λ c. Printed (IsDenoter (suc (suc d))) bare_denoter (array q true ts0 t0) (word_at q.switches kind.Packed & word kind.Array & c & word kind.Of & denoter_draft t0) r) (sym (enclosed_is kind.OpenBracket kind.Comma kind.CloseBracket (denoter_drafts ts0) u.some))
      (printed (tt, (tt, ((tt, (u.all.words, tt)), (tt, v.words)))) v.able (λ p z. let a = u.all.again p.1.1.0.1.0 _ in let b = v.again p.1.1.1.1 z in again (array (here p.0 q) true a.part b.part) (is_packed (is_static_array a.is b.is)) (ap₂ (array (bare_position q) true) a.same b.same)))
  printed_denoter (is_unpacked {p = w} (is_record fs)) g =
      let u = printed_fields fs g.1 in
      printed (tt, (tt, ((tt, (u.words, (tt, tt))), tt))) u.able.1 (λ p z. let a = u.again p.1.1.0.1.0 _ in again (record_ (here p.1.0 w) false a.part) (is_unpacked (is_record a.is)) (ap (record_ (bare_position w) false) a.same))
  printed_denoter (is_packed {p = w} (is_record fs)) g =
      let u = printed_fields fs g.1.1 in
      printed (tt, (tt, ((tt, (u.words, (tt, tt))), tt))) u.able.1 (λ p z. let a = u.again p.1.1.0.1.0 _ in again (record_ (here p.0 w) true a.part) (is_packed (is_record a.is)) (ap (record_ (bare_position w) true) a.same))

  printed_denoters : {d : ℕ} {ts : Denoters} {ks r : List Terminal} → AreDenoters d ts ks r → Able ks → Listed (AreDenoters d) bare_denoters kind.Comma ts (denoter_drafts ts) r
  printed_denoters (are_one_denoter t) g = last (λ x. denoters x no_denoters) (λ a ks z. are_one_denoter) (λ a. ap (λ x. denoters x no_denoters)) (printed_denoter t g)
  printed_denoters (are_denoters t ts) g =
      let u = printed_denoter t g in
      more denoters (λ a b p ks m z. are_denoters) (λ a b. ap₂ denoters) u (printed_denoters ts u.able.1)

  printed_fields : {d : ℕ} {fs : FieldLists} {ks r : List Terminal} → AreFieldLists d fs ks r → Able ks → Printed (AreFieldLists d) bare_field_lists fs (fields_draft fs) r
  printed_fields are_no_fields g = printed tt g (λ p z. again no_fields are_no_fields refl)
  printed_fields (are_last_fields ns t) g =
      let u = printed_names ns g in
      let v = printed_denoter t u.all.able.1 in
      printed ((tt, (u.all.words, (tt, (v.words, tt)))), tt) v.able (λ p z. let a = u.all.again p.0.1.0 _ in let b = v.again p.0.1.1.1.0 _ in again (fields a.part b.part no_fields) (are_fields a.is b.is are_no_fields) (ap₂ (λ x y. fields x y no_fields) a.same b.same))
  printed_fields (are_fields ns t fs) g =
      let u = printed_names ns g in
      let v = printed_denoter t u.all.able.1 in
      let w = printed_fields fs v.able.1 in
      printed ((tt, (u.all.words, (tt, (v.words, tt)))), w.words) w.able (λ p z. let a = u.all.again p.0.1.0 _ in let b = v.again p.0.1.1.1.0 _ in let c = w.again p.1 z in again (fields a.part b.part c.part) (are_fields a.is b.is c.is) (ap₃ fields a.same b.same c.same))

-- ---- first values

still_none : (is x : Initials) → bare_initials x ≡ bare_initials is → IsNoExpression is → IsNoExpression x
still_none no_initials (initials (value e) no_initials) q n = absurd cc
still_none (initials (value g) no_initials) (initials (value e) no_initials) q n = n
still_none (initials (value g) (initials i is)) (initials (value e) no_initials) q n = absurd cc
still_none (initials (list p is) js) (initials (value e) no_initials) q n = absurd cc
still_none (initials (record_value p fs) js) (initials (value e) no_initials) q n = absurd cc
still_none is other q n = tt

-- id ":" init
abbrev IsField : ℕ → (Name × Initial) → List Terminal → List Terminal → Type 0
IsField d f ks z = (m : List Terminal) × (p : Position) × IsName f.0 ks (kind.Colon at p ∷ m) × IsInitial d f.1 m z

abbrev bare_field : (Name × Initial) → (Name × Initial)
bare_field f = (bare_name f.0, bare_initial f.1)

printed_field : {d : ℕ} {n : Name} {i : Initial} {p : Position} {m r : List Terminal} → Printed IsName bare_name n (name_draft n) (kind.Colon at p ∷ m) → Printed (IsInitial d) bare_initial i (initial_draft i) r → Printed (IsField d) bare_field (n, i) (name_draft n & tight kind.Colon & initial_draft i) r
printed_field u v = printed (u.words, (tt, v.words)) v.able (λ p z. let a = u.again p.0 _ in let b = v.again p.1.1 z in again (a.part, b.part) (_, p.1.0, a.is, b.is) (ap₂ (λ x y. (x, y)) a.same b.same))

mutual
  pub printed_initial : {d : ℕ} {i : Initial} {ks r : List Terminal} → IsInitial d i ks r → Able ks → Printed (IsInitial d) bare_initial i (initial_draft i) r
  printed_initial (is_value e) g = passed value (λ a ks z. is_value) (λ a. ap value) (printed_chain e g)
  printed_initial (is_list {is = is0} {p = w} is h) g =
      let u = printed_initials is g.1 in
      printed (tt, (u.all.words, tt)) u.all.able.1 (λ p z. let a = u.all.again p.1.0 _ in again (list (here p.0 w) a.part) (is_list a.is (still_none is0 a.part a.same h)) (ap (list (bare_position w)) a.same))
  printed_initial (is_record_value {p = w} fs) g =
      let u = printed_field_initials fs g.1 in
      printed (tt, (u.all.words, tt)) u.all.able.1 (λ p z. let a = u.all.again p.1.0 _ in again (record_value (here p.0 w) a.part) (is_record_value a.is) (ap (record_value (bare_position w)) a.same))

  printed_initials : {d : ℕ} {is : Initials} {ks r : List Terminal} → AreInitials d is ks r → Able ks → Listed (AreInitials d) bare_initials kind.Comma is (initial_drafts is) r
  printed_initials (are_one_initial i) g = last (λ x. initials x no_initials) (λ a ks z. are_one_initial) (λ a. ap (λ x. initials x no_initials)) (printed_initial i g)
  printed_initials (are_initials i is) g =
      let u = printed_initial i g in
      more initials (λ a b p ks m z. are_initials) (λ a b. ap₂ initials) u (printed_initials is u.able.1)

  printed_field_initials : {d : ℕ} {fs : FieldInitials} {ks r : List Terminal} → AreFieldInitials d fs ks r → Able ks → Listed (AreFieldInitials d) bare_field_initials kind.Semicolon fs (field_initial_drafts fs) r
  printed_field_initials (are_one_field_initial n i) g = last (λ x. field_initials x.0 x.1 no_field_initials) (λ a ks z h. are_one_field_initial h.2 h.3) (λ a. ap (λ x. field_initials x.0 x.1 no_field_initials)) (let u = printed_name n g in printed_field u (printed_initial i u.able.1))
  printed_field_initials (are_field_initials n i fs) g =
      let v = printed_name n g in
      let u = printed_field v (printed_initial i v.able.1) in
      more (λ x y. field_initials x.0 x.1 y) (λ a b p ks m z h. are_field_initials h.2 h.3) (λ a b. ap₂ (λ x y. field_initials x.0 x.1 y)) u (printed_field_initials fs u.able.1)
