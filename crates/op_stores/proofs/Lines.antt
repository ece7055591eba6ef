-- What is read: items within choices and loops, and where what was read goes.
use Rattle.std.proofs.Common.{◌≡◌, ℕ, ◌+◌, List, [], ◌∷◌, Option, Result, IfOk, refl, ap, subst, ◌∙◌}
use Rattle.op_base.specs.declared.memory_error.NoMemory.{NoMemory}
use Rattle.op_core.specs.Statement.{Target}
use Rattle.op_core.specs.declared.ids.TypeId.{TypeId}
use Rattle.op_core.specs.declared.types.CoreType.{CoreType}
use Rattle.op_semantics.specs.Actions.{peek, primitive}
use Rattle.op_semantics.specs.Expressions.{Here, Found, found, ready, held_path}
use Rattle.op_semantics.specs.Items.{Items, none, ◌&◌, acts, choose, only, scoped}
use Rattle.op_semantics.specs.Primitives.{in_new, literal_text, value_of}
use Rattle.op_semantics.specs.Statements.{is_in_line, longer_by, read_into, read_line, while_next}
use Rattle.op_semantics.specs.declared.primitive.Primitive.TheVariants.{Same, WiderLine}
use Rattle.op_stores.proofs.Behind.{adds_both, adds_by, ok_as, ok_both}
use Rattle.op_stores.specs.Parts.{byte_added, line_read, replaced}
use Rattle.op_values.specs.Adding.{Adds, Gives, env_view, found_view, view_in}
use Rattle.op_values.specs.declared.found.Found.{Found as RustFound}
use Rattle.op_values.specs.declared.item.Item.{Item}
use Rattle.op_values.specs.declared.setting.Setting.{Setting}

-- what a list has that was empty
pub built : (setting : Setting) (start new : List Item) (xs : Items) → start ≡ [] → Adds setting start new xs → view_in setting new ≡ xs
built setting start new xs e a = a ∙ ap (λ l. view_in setting l & xs) e

pub empty_list : (setting : Setting) (list : List Item) → list ≡ [] → view_in setting list ≡ none
empty_list setting list e = ap (view_in setting) e

pub while_as : {A : Type 0} (setting : Setting) (old new : List Item) (r : Result A NoMemory) (t : ℕ) (test body : List Item) (xs ys : Items) → view_in setting test ≡ xs → view_in setting body ≡ ys → IfOk r (λ _. Adds setting old new (while_next t (view_in setting test) (view_in setting body))) → IfOk r (λ _. Adds setting old new (while_next t xs ys))
while_as setting old new r t test body xs ys e e' a =
    ok_as setting old new r (ap (λ x. while_next t x (view_in setting body)) e ∙ ap (λ y. while_next t xs y) e') a

choose_as : {A : Type 0} (setting : Setting) (old new : List Item) (r : Result A NoMemory) (t t' : ℕ) (first otherwise : List Item) (xs : Items) → t ≡ t' → view_in setting first ≡ xs → otherwise ≡ [] → IfOk r (λ _. Adds setting old new (only (choose t (view_in setting first) (view_in setting otherwise)))) → IfOk r (λ _. Adds setting old new (only (choose t' xs none)))
choose_as setting old new r t t' first otherwise xs e-t e e' a =
    ok_as setting old new r
    (ap (λ n. only (choose n (view_in setting first) (view_in setting otherwise))) e-t
    ∙ ap (λ x. only (choose t' x (view_in setting otherwise))) e
    ∙ ap (λ y. only (choose t' xs y)) (empty_list setting otherwise e')) a

-- a line becomes longer
pub longer : {A : Type 0} (setting : Setting) (old mid new : List Item) (r : Result A NoMemory) (of : TypeId) (t line room : ℕ) (start wider otherwise : List Item) → room ≡ line + 1 → start ≡ [] → otherwise ≡ [] → Adds setting start wider (replaced of WiderLine (value_of (held_path of line)) (held_path of line) room) → Adds setting old mid (byte_added (held_path of line) t) → IfOk r (λ _. Adds setting mid new (only (choose t (view_in setting wider) (view_in setting otherwise)))) → IfOk r (λ _. Adds setting old new (longer_by of t line))
longer setting old mid new r of t line room start wider otherwise e-room e-start e-otherwise a b c =
    let widened = replaced of WiderLine (value_of (held_path of line)) (held_path of line) in
    ok_both setting old mid new r (byte_added (held_path of line) t) (only (choose t (widened (line + 1)) none)) b
    (choose_as setting mid new r t t wider otherwise (widened (line + 1)) refl (built setting start wider (widened room) e-start a ∙ ap widened e-room) e-otherwise c)

-- the first byte, and then the line that it begins
pub a_line : {A : Type 0} (setting : Setting) (old mid more new : List Item) (r : Result A NoMemory) (of : TypeId) (t next held line : ℕ) (inner start first otherwise : List Item) → line ≡ held + 1 → next ≡ t + 1 → start ≡ [] → otherwise ≡ [] → view_in setting inner ≡ line_read of t held → Adds setting start first (only (scoped (record { of = of; n = line }) [] (view_in setting inner))) → Adds setting old mid (acts (primitive Same (literal_text [] ∷ []) (in_new of held) ∷ peek t ∷ [])) → Adds setting mid more (is_in_line t) → IfOk r (λ _. Adds setting more new (only (choose next (view_in setting first) (view_in setting otherwise)))) → IfOk r (λ _. Adds setting old new (read_line of t held))
a_line setting old mid more new r of t next held line inner start first otherwise e-line e-next e-start e-otherwise e-inner a b c d =
    let begun = acts (primitive Same (literal_text [] ∷ []) (in_new of held) ∷ peek t ∷ []) in
    let within = only (scoped (record { of = of; n = held + 1 }) [] (line_read of t held)) in
    ok_both setting old mid new r begun (is_in_line t & only (choose (t + 1) within none)) b
    (ok_both setting mid more new r (is_in_line t) (only (choose (t + 1) within none)) c
    (choose_as setting more new r next (t + 1) first otherwise within e-next
    (built setting start first (only (scoped (record { of = of; n = line }) [] (view_in setting inner))) e-start a
    ∙ ap (λ n. only (scoped (record { of = of; n = n }) [] (view_in setting inner))) e-line
    ∙ ap (λ x. only (scoped (record { of = of; n = held + 1 }) [] x)) e-inner)
    e-otherwise d))

-- what is read goes to the first temporary, and from there to its place
pub then_stored : (setting : Setting) (old mid new : List Item) (f : RustFound) (reads : ℕ → Items) (stores : Here → Items) (t : ℕ) (here there : Here) (held : ℕ) → t ≡ there.temp → there ≡ here → found_view f ≡ found none ready held → Adds setting old mid (reads t) → Adds setting mid new (stores there) → Gives setting old new f (found (reads here.temp & stores here) ready held)
then_stored setting old mid new f reads stores t here there held e-t e-here e-found a b =
    record {
      adds = adds_by setting old new (ap (λ n. reads n & stores there) e-t ∙ ap (λ h. reads h.temp & stores h) e-here) (adds_both setting old mid new (reads t) (stores there) a b);
      is = e-found;
    }

-- by what the tables say of the place's type
pub read_as : (setting : Setting) (old new : List Item) (r : Result RustFound NoMemory) (here : Here) (x : Target) (of of' : TypeId) (type type' : Option CoreType) (place : Found) → of ≡ of' → type ≡ type' → IfOk r (λ f. Gives setting old new f (read_into (env_view setting) here x of type place)) → IfOk r (λ f. Gives setting old new f (read_into (env_view setting) here x of' type' place))
read_as setting old new r here x of of' type type' place e e' a =
    subst (λ y. IfOk r (λ f. Gives setting old new f (read_into (env_view setting) here x of' y place))) e'
    (subst (λ y. IfOk r (λ f. Gives setting old new f (read_into (env_view setting) here x y type place))) e a)
