-- What an answer says of the streams.
use Rattle.std.proofs.Common.{◌≡◌, ◌≢◌, ℕ, ◌≤◌, inl, inr, Option, Some, None, List, [], ◌++◌, codes, decimal, false, refl, ap, sym, ◌∙◌, subst, arith, append_assoc}
use Rattle.std.proofs.lemmas.List.{append-nil}
use Rattle.op_base.proofs.Tests.{rose_since}
use Rattle.op_base.specs.Outside.{appended, preceded, AppendsFront}
use Rattle.op_emu.proofs.Stretches.{AppendsFront-after}
use Rattle.op_emu.specs.Acts.{OutputFailed, Streams, Faults, streams, faults}
use Rattle.op_base.specs.declared.rule.Refusal.{Refusal}
use Rattle.op_tool.specs.Effects.{Effect, effect, OnlyReports, ReportIs, Says, WouldWrite, WritesAll, line}
use Rattle.op_emu.specs.Filling.{AreBytes}
use Rattle.op_emu.proofs.FillingLemmas.{bytes_append, no_bytes}
use Rattle.op_tool.specs.Owes.{OnlyRefuses, Reports, ReportsBadImage, ReportsRefusal}
use Rattle.op_tool.specs.declared.finish.Finish.{Finish}
use Rattle.op_tool.specs.declared.finish.Finish.TheVariants.{Ended, Usage, Refused, ReadFault, WriteFault, Spent, NoMemory, BadImage, Faulted, Limit}

pub nothing_appended : (o : Option (List ℕ)) → o ≡ appended o []
nothing_appended None = refl
nothing_appended (Some bytes) = ap Some (sym (append-nil bytes))

pub none_preceded : (i : Option (List ℕ)) → preceded [] i ≡ i
none_preceded None = refl
none_preceded (Some rest) = refl

-- nothing is a front, and so is all
nothing_in_front : (o : Option (List ℕ)) (bytes : List ℕ) → AppendsFront o bytes o
nothing_in_front o bytes = record { front = []; rest = bytes; parts = refl; appends = nothing_appended o }

all_in_front : (old new : Option (List ℕ)) (bytes : List ℕ) → new ≡ appended old bytes → AppendsFront old bytes new
all_in_front old new bytes all = record { front = bytes; rest = []; parts = append-nil bytes; appends = all }

-- a front of a front
pub front_of_front : (old new : Option (List ℕ)) (bytes more all : List ℕ) → all ≡ bytes ++ more → AppendsFront old bytes new → AppendsFront old all new
front_of_front old new bytes more all e front =
    record {
      front = front.front;
      rest = front.rest ++ more;
      parts = sym (append_assoc front.front front.rest more) ∙ ap (λ xs. xs ++ more) front.parts ∙ sym e;
      appends = front.appends;
    }

pub appended_twice : (o : Option (List ℕ)) (first more : List ℕ) → appended (appended o first) more ≡ appended o (first ++ more)
appended_twice None first more = refl
appended_twice (Some old) first more = ap Some (append_assoc old first more)

-- two parts of a line, one after the other
pub reports_behind : (finish answer : Finish) (first more : List ℕ) (o o' o'' : Option (List ℕ)) (c c' c'' : ℕ) → o' ≡ appended o first → c ≤ c' → ReportIs finish more answer o' o'' c' c'' → ReportIs finish (first ++ more) answer o o'' c c''
reports_behind finish answer first more o o' o'' c c' c'' all le (inl (is, rest)) =
    inl (is, rest ∙ ap (λ s. appended s more) all ∙ appended_twice o first more)
reports_behind finish answer first more o o' o'' c c' c'' all le (inr (is, front, rose)) =
    inr (is, AppendsFront-after o o' o'' first more all front, rose_since c c' c'' le rose)

-- an answer that is no failure of an output
says_all : (owed : Finish → Effect → Type 0) (finish : Finish) (told : Streams) (counts : Faults) → finish ≢ WriteFault → WritesAll (owed finish) told → Says owed finish told counts
unfolding Says
says_all owed (Ended status) told counts other all = all
says_all owed Usage told counts other all = all
says_all owed (Refused rule place) told counts other all = all
says_all owed ReadFault told counts other all = all
says_all owed WriteFault told counts other all = absurd (other refl)
says_all owed Spent told counts other all = all
says_all owed NoMemory told counts other all = all
says_all owed (BadImage condition) told counts other all = all
says_all owed (Faulted kind pc) told counts other all = all
says_all owed Limit told counts other all = all

-- an effect whose last bytes to the errors are these
abbrev pub reporting : List ℕ → Effect → Effect
reporting bytes done = record done { err = done.err ++ bytes }

-- what was owed but for a last line, and then the report of that line
pub says_behind : (owed : Finish → Effect → Type 0) (finish answer : Finish) (bytes : List ℕ) (i i' o o' e e' e'' : Option (List ℕ)) (r r' n n' c c' c'' : ℕ) → finish ≢ WriteFault → c ≤ c' → WritesAll (λ done. owed finish (reporting bytes done)) (streams i i' o o' e e') → ReportIs finish bytes answer e' e'' c' c'' → Says owed answer (streams i i' o o' e e'') (faults r r' n n' c c'')
unfolding Says
says_behind owed finish answer bytes i i' o o' e e' e'' r r' n n' c c' c'' other le all (inl (is, rest)) =
    subst (λ f. Says owed f (streams i i' o o' e e'') (faults r r' n n' c c'')) (sym is) (says_all owed finish (streams i i' o o' e e'') (faults r r' n n' c c'') other (record {
      intake = record { taken = all.intake.taken; ended = all.intake.ended; bounded = all.intake.bounded; parts = all.intake.parts; exhausted = all.intake.exhausted };
      steps = all.steps;
      out = all.out;
      err = all.err ++ bytes;
      is_owed = all.is_owed;
      output = all.output;
      errors = rest ∙ ap (λ s. appended s bytes) all.errors ∙ appended_twice e all.err bytes;
    }))
says_behind owed finish answer bytes i i' o o' e e' e'' r r' n n' c c' c'' other le all (inr (is, front, rose)) =
    subst (λ f. Says owed f (streams i i' o o' e e'') (faults r r' n n' c c'')) (sym is) (record {
      intake = record { taken = all.intake.taken; ended = all.intake.ended; bounded = all.intake.bounded; parts = all.intake.parts; exhausted = all.intake.exhausted };
      would = λ left may. record {
        finish = finish;
        done = effect all.steps (all.intake.taken ++ left) left all.out (all.err ++ bytes);
        is_owed = all.is_owed left may;
        over = refl;
        more = [];
        leaves = refl;
        output = all_in_front o o' all.out all.output;
        errors = AppendsFront-after e e' e'' all.err bytes all.errors front;
      };
      failed = inr (rose_since c c' c'' le rose);
    })

-- nothing was read and nothing written
untouched : (owed : Effect → Type 0) (i o e : Option (List ℕ)) → ((input : List ℕ) → owed (effect 0 input input [] [])) → WritesAll owed (streams i i o o e e)
untouched owed i o e owes =
    record {
      intake = record { taken = []; ended = false; bounded = no_bytes; parts = sym (none_preceded i); exhausted = λ ended. cc };
      steps = 0;
      out = [];
      err = [];
      is_owed = λ left may. owes left;
      output = nothing_appended o;
      errors = nothing_appended e;
    }

-- a report of an answer that owes its line alone
pub says_report : (owed : Finish → Effect → Type 0) (finish answer : Finish) (bytes : List ℕ) (i o e e' : Option (List ℕ)) (r r' n c c' : ℕ) → finish ≢ WriteFault → ((input : List ℕ) → owed finish (effect 0 input input [] bytes)) → ReportIs finish bytes answer e e' c c' → Says owed answer (streams i i o o e e') (faults r r' n n c c')
says_report owed finish answer bytes i o e e' r r' n c c' other owes is =
    says_behind owed finish answer bytes i i o o e e e' r r' n n c c c' other (omega arith) (untouched (λ done. owed finish (reporting bytes done)) i o e owes) is

-- what each answer owes, for what it owes too
map_all : (f g : Effect → Type 0) (told : Streams) → ((done : Effect) → AreBytes done.input → f done → g done) → WritesAll f told → WritesAll g told
map_all f g told leads all =
    record {
      intake = all.intake;
      steps = all.steps;
      out = all.out;
      err = all.err;
      is_owed = λ left may. leads (effect all.steps (all.intake.taken ++ left) left all.out all.err) (bytes_append all.intake.taken left all.intake.bounded may.0) (all.is_owed left may);
      output = all.output;
      errors = all.errors;
    }

map_would : (f g : Finish → Effect → Type 0) (told : Streams) (input left : List ℕ) → AreBytes input → ((finish : Finish) (done : Effect) → AreBytes done.input → f finish done → g finish done) → WouldWrite f told input left → WouldWrite g told input left
map_would f g told input left bytes leads would =
    record {
      finish = would.finish;
      done = would.done;
      is_owed = leads would.finish would.done (subst AreBytes (sym would.over) bytes) would.is_owed;
      over = would.over;
      more = would.more;
      leaves = would.leaves;
      output = would.output;
      errors = would.errors;
    }

pub says_also : (f g : Finish → Effect → Type 0) (finish : Finish) (told : Streams) (counts : Faults) → ((finish : Finish) (done : Effect) → AreBytes done.input → f finish done → g finish done) → Says f finish told counts → Says g finish told counts
unfolding Says
says_also f g WriteFault told counts leads part =
    record {
      intake = part.intake;
      would = λ left may. map_would f g told (part.intake.taken ++ left) left (bytes_append part.intake.taken left part.intake.bounded may.0) leads (part.would left may);
      failed = part.failed;
    }
says_also f g (Ended status) told counts leads all = map_all (f (Ended status)) (g (Ended status)) told (leads (Ended status)) all
says_also f g Usage told counts leads all = map_all (f Usage) (g Usage) told (leads Usage) all
says_also f g (Refused rule place) told counts leads all = map_all (f (Refused rule place)) (g (Refused rule place)) told (leads (Refused rule place)) all
says_also f g ReadFault told counts leads all = map_all (f ReadFault) (g ReadFault) told (leads ReadFault) all
says_also f g Spent told counts leads all = map_all (f Spent) (g Spent) told (leads Spent) all
says_also f g NoMemory told counts leads all = map_all (f NoMemory) (g NoMemory) told (leads NoMemory) all
says_also f g (BadImage condition) told counts leads all = map_all (f (BadImage condition)) (g (BadImage condition)) told (leads (BadImage condition)) all
says_also f g (Faulted kind pc) told counts leads all = map_all (f (Faulted kind pc)) (g (Faulted kind pc)) told (leads (Faulted kind pc)) all
says_also f g Limit told counts leads all = map_all (f Limit) (g Limit) told (leads Limit) all

-- reports that stand alone, by what it takes that their line is owed
pub says_no_memory : (owed : Finish → Effect → Type 0) (answer : Finish) (i o e e' : Option (List ℕ)) (r r' n c c' : ℕ) → ((done : Effect) → OnlyReports (line (codes "opc: out of memory")) done → owed NoMemory done) → ReportIs NoMemory (line (codes "opc: out of memory")) answer e e' c c' → Says owed answer (streams i i o o e e') (faults r r' n n c c')
says_no_memory owed answer i o e e' r r' n c c' owes is =
    says_report owed NoMemory answer (line (codes "opc: out of memory")) i o e e' r r' n c c' (λ same. cc) (λ input. owes (effect 0 input input [] (line (codes "opc: out of memory"))) (refl, refl, refl)) is

pub says_bad_image : (owed : Finish → Effect → Type 0) (condition : ℕ) (answer : Finish) (i o e e' : Option (List ℕ)) (r r' n c c' : ℕ) → ((done : Effect) → OnlyReports (line (codes "opc: bad image: Elf" ++ decimal condition)) done → owed (BadImage condition) done) → ((done : Effect) → OnlyReports (line (codes "opc: out of memory")) done → owed NoMemory done) → ReportsBadImage condition answer e e' c c' → Says owed answer (streams i i o o e e') (faults r r' n n c c')
says_bad_image owed condition answer i o e e' r r' n c c' owes owes_no_memory (inl is) =
    let bytes = line (codes "opc: bad image: Elf" ++ decimal condition) in
    says_report owed (BadImage condition) answer bytes i o e e' r r' n c c' (λ same. cc) (λ input. owes (effect 0 input input [] bytes) (refl, refl, refl)) is
says_bad_image owed condition answer i o e e' r r' n c c' owes owes_no_memory (inr is) =
    says_no_memory owed answer i o e e' r r' n c c' owes_no_memory is

pub says_refused : (owed : Finish → Effect → Type 0) (name file : List ℕ) (refusal : Refusal) (answer : Finish) (i o e e' : Option (List ℕ)) (r r' n c c' : ℕ) → file ≡ name → ((done : Effect) → OnlyRefuses name refusal.place refusal.rule done → owed (Refused refusal.rule refusal.place) done) → ((done : Effect) → OnlyReports (line (codes "opc: out of memory")) done → owed NoMemory done) → ReportsRefusal file refusal answer e e' c c' → Says owed answer (streams i i o o e e') (faults r r' n n c c')
says_refused owed name file refusal answer i o e e' r r' n c c' is_file owes owes_no_memory (inl (bytes, reports, is)) =
    says_report owed (Refused refusal.rule refusal.place) answer bytes i o e e' r r' n c c' (λ same. cc) (λ input. owes (effect 0 input input [] bytes) (bytes, subst (λ f. Reports f refusal.place refusal.rule bytes) is_file reports, (refl, refl, refl))) is
says_refused owed name file refusal answer i o e e' r r' n c c' is_file owes owes_no_memory (inr is) =
    says_no_memory owed answer i o e e' r r' n c c' owes_no_memory is

-- nothing was read, and these bytes were written to the output, or a front of them
pub says_written : (owed : Finish → Effect → Type 0) (finish : Finish) (bytes : List ℕ) (i o o' e : Option (List ℕ)) (counts : Faults) → finish ≢ WriteFault → ((input : List ℕ) → owed finish (effect 0 input input bytes [])) → o' ≡ appended o bytes → Says owed finish (streams i i o o' e e) counts
says_written owed finish bytes i o o' e counts other owes all =
    says_all owed finish (streams i i o o' e e) counts other (record {
      intake = record { taken = []; ended = false; bounded = no_bytes; parts = sym (none_preceded i); exhausted = λ ended. cc };
      steps = 0;
      out = bytes;
      err = [];
      is_owed = λ left may. owes left;
      output = all;
      errors = nothing_appended e;
    })

pub says_written_in_part : (owed : Finish → Effect → Type 0) (finish : Finish) (bytes : List ℕ) (i o o' e : Option (List ℕ)) (counts : Faults) → ((input : List ℕ) → owed finish (effect 0 input input bytes [])) → AppendsFront o bytes o' → OutputFailed counts → Says owed WriteFault (streams i i o o' e e) counts
unfolding Says
says_written_in_part owed finish bytes i o o' e counts owes front failed =
    record {
      intake = record { taken = []; ended = false; bounded = no_bytes; parts = sym (none_preceded i); exhausted = λ ended. cc };
      would = λ left may. record {
        finish = finish;
        done = effect 0 left left bytes [];
        is_owed = owes left;
        over = refl;
        more = [];
        leaves = refl;
        output = front;
        errors = nothing_in_front e [];
      };
      failed = failed;
    }
