-- Parts of declarations leave a settled state or break a rule where their parts do.
use Rattle.std.proofs.Common.{◌≡◌, ◌≤◌, ℕ, Bool, true, false, List, [], ◌∷◌, ◌++◌, All, IfSome, IsTrue, append-nil, append_assoc, length, length-append, slice_get, take, take-take, Option, Some, None, refl, sym, ap, subst, ◌∙◌, arith}
use Rattle.std.proofs.lemmas.List.{take-append-le}
use Rattle.std.proofs.lemmas.List.Elements.{All-append, All-nil, All-push, All-weaker}
use Rattle.op_base.specs.declared.place.Place.{Place}
use Rattle.op_base.specs.declared.rule.Refusal.{Refusal}
use Rattle.op_sound.proofs.Growth.{Wider, body_on, counts_on, declared_bytes, exports_on, front_length, names_on, people_on, units_on, value_on}
use Rattle.op_sound.specs.Complete.{Counts, From, Inside, IsBareRoutine, IsBareVariable, IsDone, IsInside, IsOpen, IsPeopled, IsTypedBody, IsTypedFirst, Later, Leads, Settled, Stage, WithBlockRows, declared_in, faulty, scope, settled}
use Rattle.op_check_unit.specs.Declaring.{most_global_bytes}
use Rattle.op_check_unit.specs.Naming.{all_ahead, with_ahead}
use Rattle.op_check_unit.specs.Steps.{Given, Here, by, checked, followed, gives, is_clear, unless, unless_faulty, where_true}
use Rattle.op_sound.specs.Tables.{IsTabled}
use Rattle.op_check_unit.specs.Types.{in_core}
use Rattle.op_core.proofs.Growing.{front_itself, front_through, grows_behind}
use Rattle.op_core.specs.Faults.{Checked, Faults, behind, both, front, here, one}
use Rattle.op_core.specs.Growing.{IsFrontOf}
use Rattle.op_core.specs.Initial.{FirstValue}
use Rattle.op_core.specs.Relations.{Filled, Whole, filled, typed, faulty as broken_rule}
use Rattle.op_core.specs.Sound.{IsFounded, IsHeaded, Row, bytes_of, globals_of, is_of_block}
use Rattle.op_core.specs.declared.ids.VariableId.{VariableId}
use Rattle.op_core.specs.declared.program.Core.{Core}
use Rattle.op_core.specs.declared.routine.Parameter.{Parameter}
use Rattle.op_core.specs.declared.routine.Variable.{Variable}
use Rattle.op_judgement.proofs.Clear.{some_fault}
use Rattle.op_judgement.specs.Steps as step
use Rattle.op_judgement.specs.Steps.{Step, done}
use Rattle.op_judgement.specs.declared.rules.LanguageRule.{LanguageRule}
use Rattle.op_tree.specs.declared.position.Name.{Name}
use Rattle.op_types.specs.Names.{Named}
use Rattle.op_typed.specs.Standing.{AllStand, StandsFor}

-- ---- parts

pub filled_so : {A : Type 0} {P Q : A → Type 0} {o : Option A} → Filled P o → ((a : A) → P a → Q a) → Filled Q o
filled_so (filled a p) k = filled a (k a p)

pub from_gives : {A : Type 0} {R : A → Here → Type 0} {a : A} {h : Here} → R a h → From R (gives a h)
from_gives {a} r = settled (filled a r)

pub from_breaks : {A : Type 0} {R : A → Here → Type 0} {f : Refusal} {h : Here} → From R (record { typed = None; here = h; faults = one f })
from_breaks {f} = faulty f here

pub from_checked : {A : Type 0} {P : A → Type 0} {R : A → Here → Type 0} {h : Here} {c : Checked A} → Whole P c → ((a : A) → P a → R a h) → From R (checked h c)
from_checked (typed p) k = settled (filled_so p k)
from_checked (broken_rule r i) k = faulty r i

pub from_after : {A : Type 0} {R : A → Here → Type 0} (faults : Faults) (g : Given A) → From R g → From R (record { typed = g.typed; here = g.here; faults = both faults g.faults })
from_after faults g (settled p) = settled p
from_after faults g (faulty r i) = faulty r (behind i)

-- a part, and what comes behind it
pub from_followed : {A B : Type 0} {R : A → Here → Type 0} {Q : B → Here → Type 0} {g : Given A} (f : Option A → Here → Step Here B) → From R g → ((o : Option A) (h : Here) → Filled (λ a. R a h) o → From Q (done (f o h))) → From Q (followed g (λ o h. done (f o h)))
from_followed {g} f (settled p) k = from_after g.faults (done (f g.typed g.here)) (k g.typed g.here p)
from_followed f (faulty r i) k = faulty r (front i)

pub from_by : {A B : Type 0} {P : A → Type 0} {Q : B → Here → Type 0} {o : Option A} (f : A → Here → Step Here B) (h : Here) → Filled P o → ((a : A) → P a → From Q (done (f a h))) → From Q (by (λ a h. done (f a h)) o h)
from_by f h (filled a p) k = k a p

-- a part, and what is made of its meaning
pub from_behind : {A B : Type 0} {R : A → Here → Type 0} {Q : B → Here → Type 0} {g : Given A} (f : A → Here → Step Here B) → From R g → ((a : A) (h : Here) → R a h → From Q (done (f a h))) → From Q (followed g (by (λ a h. done (f a h))))
from_behind f d k = from_followed (step.by f) d (λ o h p. from_by f h p (λ a r. k a h r))

-- a part, and what is made of the state behind it
pub from_then : {A B : Type 0} {R : A → Here → Type 0} {Q : B → Here → Type 0} {g : Given A} (f : Here → Step Here B) → From R g → ((a : A) (h : Here) → R a h → From Q (done (f h))) → From Q (followed g (λ t h. done (f h)))
from_then {A} {B} {R} {Q} f d k = from_followed (λ t h. f h) d (λ o h p. one h p)
  where
    one : {o : Option A} (h : Here) → Filled (λ a. R a h) o → From Q (done (f h))
    one h (filled a r) = k a h r

pub from_where : {A : Type 0} {R : A → Here → Type 0} (b : Bool) (rule : LanguageRule) (place : Place) (h : Here) {g : Given A} → (b ≡ true → From R g) → From R (where_true b rule place h g)
from_where true rule place h d = d refl
from_where false rule place h d = from_breaks

pub from_so : {A : Type 0} {R Q : A → Here → Type 0} {g : Given A} → From R g → ((a : A) (h : Here) → R a h → Q a h) → From Q g
from_so {g} (settled p) k = settled (filled_so p (λ a r. k a g.here r))
from_so (faulty r i) k = faulty r i

-- ---- states behind others

pub same_variables : {vs : List Variable} → WithBlockRows vs vs
same_variables {vs} = record { more = []; is = sym (append-nil vs); of_block = All-nil (λ v. IsTrue (is_of_block v.role)) }

variables_through : {us vs ws : List Variable} → WithBlockRows us vs → WithBlockRows vs ws → WithBlockRows us ws
variables_through {us} f g = record {
  more = f.more ++ g.more;
  is = g.is ∙ ap (λ vs. vs ++ g.more) f.is ∙ append_assoc us f.more g.more;
  of_block = All-append (λ v. IsTrue (is_of_block v.role)) f.more g.more f.of_block g.of_block;
}

pub later_itself : {core : Core} → Later core core
later_itself {core} = record { types = front_itself core.types; parameters = front_itself core.parameters; variables = same_variables; globals = front_itself core.globals; routines = refl }

pub later_through : {a b c : Core} → Later a b → Later b c → Later a c
later_through f g = record {
  types = front_through f.types g.types;
  parameters = front_through f.parameters g.parameters;
  variables = variables_through f.variables g.variables;
  globals = front_through f.globals g.globals;
  routines = g.routines ∙ f.routines;
}

pub leads : {A : Type 0} {s : Stage} {h i : Here} {P : A → Core → Type 0} {a : A} → Settled s i → Later h.core i.core → P a i.core → Leads s h P a i
leads x l p = record { state = x; later = l; so = p }

-- what leads on from a state leads on from one before it
pub leads_on : {A : Type 0} {s : Stage} {h i : Here} {P : A → Core → Type 0} {g : Given A} → Later h.core i.core → From (Leads s i P) g → From (Leads s h P) g
leads_on l d = from_so d (λ a j r. leads r.state (later_through l r.later) r.so)

-- a part that leads somewhere, and what is made of that
pub lead_followed : {A B : Type 0} {s : Stage} {h : Here} {P : A → Core → Type 0} {Q : B → Here → Type 0} {g : Given A} (f : Option A → Here → Step Here B) → From (Leads s h P) g → ((o : Option A) (i : Here) → Settled s i → Later h.core i.core → Filled (λ a. P a i.core) o → From Q (done (f o i))) → From Q (followed g (λ o i. done (f o i)))
lead_followed {A} {B} {s} {h} {P} {Q} f d k = from_followed f d one
  where
    one : (o : Option A) (i : Here) → Filled (λ a. Leads s h P a i) o → From Q (done (f o i))
    one o i (filled a r) = k (Some a) i r.state r.later (filled a r.so)

pub lead_behind : {A B : Type 0} {s : Stage} {h : Here} {P : A → Core → Type 0} {Q : B → Here → Type 0} {g : Given A} (f : A → Here → Step Here B) → From (Leads s h P) g → ((a : A) (i : Here) → Settled s i → Later h.core i.core → P a i.core → From Q (done (f a i))) → From Q (followed g (by (λ a i. done (f a i))))
lead_behind f d k = from_behind f d (λ a i r. k a i r.state r.later r.so)

abbrev pub Moves : {A : Type 0} → Stage → Here → A → Here → Type 0
Moves s h = Leads s h (λ a core. Unit {0})

pub moves_each : {A : Type 0} {s : Stage} (f : A → Here → Step Here (Unit {0})) → ((a : A) (h : Here) → Settled s h → From (Moves s h) (done (f a h))) → (as_ : List A) (h : Here) → Settled s h → From (Moves s h) (done (step.each f as_ h))
moves_each f k [] h s = from_gives (leads s later_itself tt)
moves_each f k (a ∷ as_) h s = from_then (step.each f as_) (k a h s) (λ t i r. leads_on r.later (moves_each f k as_ i r.state))

-- ---- what a settled state has

pub founded_in : {core : Core} → IsTabled core → IsPeopled core → IsFounded core
founded_in {core} t p = record {
  types = t.types;
  predefined = sym (take-take 16 19 core.types (omega arith)) ∙ ap (take 16) t.system.types;
  sets = t.sets;
  parameters = p.parameters;
  variables = All-weaker (IsBareVariable core) (λ v. Row core.types v.of.0) (λ v q. q.0) core.variables p.variables;
  routines = All-weaker (IsBareRoutine core) (IsHeaded core) (λ r q. (q.owner, q.runs.0, q.result)) core.routines p.routines;
}

pub founded : {s : Stage} {h : Here} → Settled s h → IsFounded h.core
founded x = founded_in x.tables x.people

-- ---- tables that grow

pub inside_on : (apart : List VariableId) {old new : Core} (i : Option Inside) → Wider old new → (ns : List Named) → IfSome i (λ j. Counts new None j.bytes) → IfSome i (IsInside apart old ns) → IfSome i (IsInside apart new ns)
inside_on apart None w ns c x = tt
inside_on apart (Some i) w ns c x =
    let l = front_length w.variables in let f = x.first in
    record { first = omega (arith, l, f); names = x.names; stand = names_on apart None w (take i.names ns) x.stand; counts = c }

pub current_on : {P Q : ℕ → Type 0} (o : Option ℕ) → ((n : ℕ) → P n → Q n) → IfSome o P → IfSome o Q
current_on None k c = tt
current_on (Some n) k c = k n c

-- in other tables, in which routines are the same; and with other bytes
pub settled_in : {s : Stage} {h : Here} (new : Core) (b : ℕ) → Settled s h → Wider h.core new → IsTabled new → IsPeopled new → new.units ≡ h.core.units → new.routines ≡ h.core.routines → Counts new s.inside b → IfSome s.inside (λ i. Counts new None i.bytes) → Settled s (record h { core = new; bytes = b })
settled_in {s} {h} new b x w t p u r c d = record {
  tables = t;
  people = p;
  unit = (let lt = x.unit in let e = ap length u in omega (arith, lt, e));
  rows = (let lt = x.rows in let e = ap length u in omega (arith, lt, e));
  units = subst (All (IsDone new s.around.start s.current h.awaited)) (sym u) (units_on h.core new s.around.start s.current s.current h.awaited h.awaited (λ p lt d. (ap (λ rs. slice_get rs p) r, d)) h.core.units x.units);
  exports = exports_on s.around.apart w s.around.exports x.exports;
  start = (let le = x.start in let more = front_length w.globals in omega (arith, le, more));
  names = names_on s.around.apart s.inside w h.names x.names;
  first = x.first;
  counts = c;
  routine = x.routine;
  inside = inside_on s.around.apart s.inside w h.names d x.inside;
  current = current_on s.current (λ n c. (let e = ap length r in let lt = c.0 in omega (arith, e, lt), c.1)) x.current;
  awaits = x.awaits ∙ sym (ap length r);
  accounted = λ n lt. let e = ap length r in x.accounted n (omega (arith, e, lt));
  bodies = All-weaker (λ b. IsTypedBody s.around.apart h.core b × (IsOpen s.current h.awaited b.0.0 → ⊥)) (λ b. IsTypedBody s.around.apart new b × (IsOpen s.current h.awaited b.0.0 → ⊥)) (λ b y. (body_on s.around.apart w x.people b (ap (λ rs. slice_get rs b.0.0) r) y.0, y.1)) h.bodies x.bodies;
  values = All-weaker (IsTypedFirst h.core) (IsTypedFirst new) (λ v y. value_on w (founded x) v y) h.first_values x.values;
}

pub wider : {s : Stage} {h : Here} {new : Core} → Settled s h → IsFrontOf h.core.types new.types → IsFrontOf h.core.extents new.extents → IsFrontOf h.core.fields new.fields → IsFrontOf h.core.parameters new.parameters → IsFrontOf h.core.variables new.variables → IsFrontOf h.core.globals new.globals → IsFrontOf h.core.routines new.routines → (new.classes ≡ h.core.classes) × (new.interfaces ≡ h.core.interfaces) × (new.listed ≡ h.core.listed) × (new.methods ≡ h.core.methods) × (new.exceptions ≡ h.core.exceptions) → length h.core.units ≤ length new.units → Wider h.core new
wider {h} x t e f p v g r k u = record {
  grows = grows_behind (founded x).routines t e f p v r k.0 k.1 k.2 k.3 k.4;
  variables = v;
  globals = g;
  routines = front_length r;
  units = u;
}

pub if_counts : (apart : List VariableId) (old new : Core) (i : Option Inside) (ns : List Named) → ((b : ℕ) → Counts old None b → Counts new None b) → IfSome i (IsInside apart old ns) → IfSome i (λ j. Counts new None j.bytes)
if_counts apart old new None ns c x = tt
if_counts apart old new (Some i) ns c x = c i.bytes x.counts

-- rows are put behind those of types, fields and parameters
pub settled_typed : {s : Stage} {h : Here} (new : Core) (ps : List Parameter) → Settled s h → Wider h.core new → IsTabled new → new.parameters ≡ h.core.parameters ++ ps → All (λ p. Row new.types p.of.0) ps → new.variables ≡ h.core.variables → new.globals ≡ h.core.globals → new.routines ≡ h.core.routines → new.units ≡ h.core.units → Settled s (in_core new h)
settled_typed {s} {h} new ps x w t e a v g r u =
    settled_in new h.bytes x w t (people_on w x.tables x.people ps [] [] e (v ∙ sym (append-nil h.core.variables)) (g ∙ sym (append-nil h.core.globals)) r a (All-nil (IsBareVariable new)) (All-nil (λ v. Row new.variables v.0)) room)
    u r (counts_on h.core new s.inside h.bytes (same s.inside) x.counts) (if_counts s.around.apart h.core new s.inside h.names (λ b c. counts_on h.core new None b (same None) c) x.inside)
  where
    same : (i : Option Inside) → bytes_of new (declared_in i new) ≡ bytes_of h.core (declared_in i h.core)
    same i = declared_bytes new i x.tables x.people w.grows.extents v g

    room : bytes_of new (globals_of new) ≤ most_global_bytes
    room = subst (λ n. n ≤ most_global_bytes) (sym (same None)) x.people.room

-- ---- states that differ in little

pub settled_ahead : {s : Stage} {h : Here} (ns : List Named) → Settled s h → Settled s (record h { ahead = ns })
settled_ahead ns x = record { tables = x.tables; people = x.people; unit = x.unit; rows = x.rows; units = x.units; exports = x.exports; start = x.start; names = x.names; first = x.first; counts = x.counts; routine = x.routine; inside = x.inside; current = x.current; awaits = x.awaits; accounted = x.accounted; bodies = x.bodies; values = x.values }

pub settled_all_ahead : {s : Stage} (ns : List Name) (h : Here) → Settled s h → Settled s (all_ahead ns h)
settled_all_ahead [] h x = x
settled_all_ahead (n ∷ ns) h x = settled_all_ahead ns (with_ahead n h) (settled_ahead _ x)

all_ahead_core : (ns : List Name) (h : Here) → (all_ahead ns h).core ≡ h.core
all_ahead_core [] h = refl
all_ahead_core (n ∷ ns) h = all_ahead_core ns (with_ahead n h)

-- a state with the tables of another one is behind what that is behind
pub later_ahead : (ns : List Name) (h : Here) → Later h.core (all_ahead ns h).core
later_ahead ns h = subst (Later h.core) (sym (all_ahead_core ns h)) later_itself

inside_named : (apart : List VariableId) (core : Core) (i : Option Inside) (ns ms : List Named) → IfSome i (IsInside apart core ns) → IfSome i (IsInside apart core (ns ++ ms))
inside_named apart core None ns ms x = tt
inside_named apart core (Some i) ns ms x =
    let l = length-append ns ms in let le = x.names in
    record { first = x.first; names = omega (arith, l, le); stand = subst (AllStand core (scope apart None core)) (sym (take-append-le i.names ns ms x.names)) x.stand; counts = x.counts }

pub settled_named : {s : Stage} {h : Here} {count : ℕ} (ns : List Named) → Settled s h → AllStand h.core (scope s.around.apart s.inside h.core) ns → Settled s (record h { names = h.names ++ ns; count = count })
settled_named {s} {h} ns x a = record {
  tables = x.tables;
  people = x.people;
  unit = x.unit;
  rows = x.rows;
  units = x.units;
  exports = x.exports;
  start = x.start;
  names = All-append (λ n. StandsFor h.core (scope s.around.apart s.inside h.core) n.meaning) h.names ns x.names a;
  first = (let l = length-append h.names ns in let le = x.first in omega (arith, l, le));
  counts = x.counts;
  routine = x.routine;
  inside = inside_named s.around.apart h.core s.inside h.names ns x.inside;
  current = x.current;
  awaits = x.awaits;
  accounted = x.accounted;
  bodies = x.bodies;
  values = x.values;
}

pub settled_valued : {s : Stage} {h : Here} (v : VariableId × FirstValue) → Settled s h → IsTypedFirst h.core v → Settled s (record h { first_values = h.first_values ++ v ∷ [] })
settled_valued {s} {h} v x a = record {
  tables = x.tables;
  people = x.people;
  unit = x.unit;
  rows = x.rows;
  units = x.units;
  exports = x.exports;
  start = x.start;
  names = x.names;
  first = x.first;
  counts = x.counts;
  routine = x.routine;
  inside = x.inside;
  current = x.current;
  awaits = x.awaits;
  accounted = x.accounted;
  bodies = x.bodies;
  values = All-push (IsTypedFirst h.core) h.first_values v x.values a;
}

-- ---- what comes behind such a part

pub from_unless : {A B : Type 0} {R : A → Here → Type 0} {Q : B → Here → Type 0} (g : Given A) (f : Here → Given B) → From R g → ((a : A) (h : Here) → R a h → From Q (f h)) → From Q (unless_faulty g f)
from_unless {A} {B} {R} {Q} g f d k = by_test (is_clear g.faults) refl
  where
    alone : {o : Option A} → Filled (λ a. R a g.here) o → From Q (f g.here)
    alone (filled a r) = k a g.here r

    behind_it : From R g → From Q (followed g (λ t h. f h))
    behind_it (settled p) = from_after g.faults (f g.here) (alone p)
    behind_it (faulty r i) = faulty r (front i)

    by_test : (b : Bool) → is_clear g.faults ≡ b → From Q (unless b g f)
    by_test true e = behind_it d
    by_test false e = let s = some_fault g.faults e in faulty s.0 s.1
