-- Counts of calls and faults in memory.
use Rattle.std.specs.Prelude.{ℕ, ◌+◌, ◌-◌, ◌^◌, min, Bool, nat_eq, if◌then◌else◌}
use Rattle.std.specs.List.{list_any}
use Rattle.op_base.specs.declared.fault_plan.FaultPlan.{FaultPlan}

-- the next call is one of those that fail
abbrev pub is_listed : FaultPlan → Bool
is_listed plan = list_any (λ number. nat_eq number plan.calls) plan.fails.items

-- a count after one more, which stops at its greatest value
abbrev pub next_number : ℕ → ℕ
next_number n = min (n + 1) (2 ^ 64 - 1)

-- the plan after a call: the same calls are listed, the next one has the next number, and there is one fault more where the call failed
abbrev pub after_call : FaultPlan → Bool → FaultPlan
after_call plan failed =
    record plan { calls = next_number plan.calls; faults = if failed then next_number plan.faults else plan.faults }
