-- Which call of the environment a number asks for.
use Rattle.std.proofs.Common.{◌≡◌, ℕ, true, nat_eq, if◌then◌else◌, take, refl, ap, ◌∙◌}
use Rattle.std.proofs.lemmas.Bool.{cond-true}
use Rattle.op_rv.specs.Environment.{environment_call, exit_call, filled, is_writable, read_call, write_call}
use Rattle.op_rv.specs.State.{State, faulted, register}
use Rattle.op_rv.specs.declared.fault.FaultKind.TheVariants.{Store as StoreFault, Call as CallFault}

pub environment_call-read : (s : State) → register s 17 ≡ 63 → environment_call s ≡ read_call s
unfolding environment_call
environment_call-read s is = ap (λ n. if nat_eq n 63 then read_call s else (if nat_eq n 64 then write_call s else (if nat_eq n 93 then exit_call s else faulted CallFault s))) is

pub environment_call-write : (s : State) → register s 17 ≡ 64 → environment_call s ≡ write_call s
unfolding environment_call
environment_call-write s is = ap (λ n. if nat_eq n 63 then read_call s else (if nat_eq n 64 then write_call s else (if nat_eq n 93 then exit_call s else faulted CallFault s))) is

pub environment_call-exit : (s : State) → register s 17 ≡ 93 → environment_call s ≡ exit_call s
unfolding environment_call
environment_call-exit s is = ap (λ n. if nat_eq n 63 then read_call s else (if nat_eq n 64 then write_call s else (if nat_eq n 93 then exit_call s else faulted CallFault s))) is

-- what is read where that may be written
pub read_call-filled : (s : State) → register s 10 ≡ 0 → is_writable s ≡ true → read_call s ≡ filled (take (register s 12) s.input) s
unfolding read_call
read_call-filled s is can =
    let first = if is_writable s then filled (take (register s 12) s.input) s else faulted StoreFault s in
    let chosen : (if nat_eq (register s 10) 0 then first else faulted CallFault s) ≡ first = ap (λ n. if nat_eq n 0 then first else faulted CallFault s) is in
    chosen ∙ cond-true (is_writable s) (filled (take (register s 12) s.input) s) (faulted StoreFault s) can
