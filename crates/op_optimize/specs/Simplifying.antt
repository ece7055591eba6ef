-- Blocks and routines with fewer instructions.
use Rattle.std.specs.Prelude.{◌≡◌, ◌<◌, ℕ, suc, Bool, true, false, ◌&&◌, ◌||◌, not, Option, Some, None, List, [], ◌∷◌, length, nat_lt, if◌then◌else◌}
use Rattle.std.specs.List.{list_all}
use Rattle.op_low.specs.declared.code.Block.{Block}
use Rattle.op_low.specs.declared.code.Routine.{Routine}
use Rattle.op_low.specs.declared.ids.VirtualRegister.{VirtualRegister}
use Rattle.op_low.specs.declared.instruction.Instruction.{Instruction}
use Rattle.op_low.specs.declared.instruction.Instruction.TheVariants.{Move}
use Rattle.op_optimize.specs.Contents.{known_behind}
use Rattle.op_optimize.specs.Each.{Each}
use Rattle.op_optimize.specs.Facts.{behind_write, mentions, with_fact, without}
use Rattle.op_optimize.specs.Liveness.{is_closed, is_dead, is_live_beyond, watched}
use Rattle.op_optimize.specs.Reading.{same, target_of}
use Rattle.op_optimize.specs.Rewriting.{rewritten}
use Rattle.op_optimize.specs.Values.{value_behind}
use Rattle.op_optimize.specs.Worth.{serves}
use Rattle.op_optimize.specs.declared.block.Way.{Way}
use Rattle.op_optimize.specs.declared.fact.Fact.{Fact}
use Rattle.op_optimize.specs.declared.fact.Known.{Known}
use Rattle.op_optimize.specs.declared.fact.Value.{Value}
use Rattle.op_optimize.specs.declared.fact.Value.TheVariants.{Copy}

-- ---- an instruction that is left out

-- how many facts there are at most where one more comes
abbrev pub most_facts : ℕ
most_facts = 12

abbrev pub serves_by : List ℕ → Way → List Fact → (to : VirtualRegister) → List Instruction → Option Value → Option Value
serves_by live way facts to is None = None
serves_by live way facts to is (Some v) = if nat_lt (length facts) most_facts && serves live way.nothing to v is then Some v else None

abbrev pub left_out_by : List ℕ → Way → List Fact → List Known → Instruction → List Instruction → Option VirtualRegister → Option Value
left_out_by live way facts known i is None = None
left_out_by live way facts known i is (Some to) = serves_by live way facts to is (value_behind facts known way.nothing to i)

-- the value that its register would have
unfoldable pub left_out : List ℕ → Way → List Fact → List Known → Instruction → List Instruction → Option Value
left_out live way facts known i is = if way.thorough then left_out_by live way facts known i is (target_of i) else None

-- ---- an instruction that stays

-- where the value is moved next, and not read behind that, it is written where it is moved to
unfoldable pub destination : List ℕ → Way → List Instruction → VirtualRegister → VirtualRegister
destination live way (Move last from ∷ is) to = if way.thorough && same from to && not (same last to) && is_dead live is to then last else to
destination live way is to = to

abbrev pub last_written : List ℕ → Way → List Instruction → Option VirtualRegister → Option VirtualRegister
last_written live way is None = None
last_written live way is (Some to) = Some (destination live way is to)

-- where no register is written
abbrev pub or_nothing : Way → Option VirtualRegister → VirtualRegister
or_nothing way None = way.nothing
or_nothing way (Some to) = to

-- no block at which it may go on reads what the better code has not written
unfoldable pub may_go : List ℕ → List Fact → Instruction → Bool
may_go live facts i = list_all (λ f. not (is_live_beyond live i f.register)) facts

-- no fact that is lost where a register is written is needed
unfoldable pub may_lose : List ℕ → List Fact → List Instruction → VirtualRegister → Bool
may_lose live facts is r = list_all (λ f. same f.register r || (not (mentions f.value r) || is_dead live is f.register)) facts

abbrev pub may_write_by : List ℕ → Way → List Fact → List Instruction → (to last : VirtualRegister) → Bool
may_write_by live way facts is to last = not (same last way.nothing) && may_lose live (without facts to) is last

unfoldable pub may_write : List ℕ → Way → List Fact → List Instruction → Option VirtualRegister → Bool
may_write live way facts is None = true
may_write live way facts is (Some to) = may_write_by live way facts is to (destination live way is to)

abbrev pub facts_by : List Fact → (to last : VirtualRegister) → List Fact
facts_by facts to last = with_fact (behind_write (without facts to) last) to (Copy last)

unfoldable pub facts_behind : List ℕ → Way → List Fact → List Instruction → Option VirtualRegister → List Fact
facts_behind live way facts is None = facts
facts_behind live way facts is (Some to) = facts_by facts to (destination live way is to)

abbrev pub known_by : List Known → Instruction → Option VirtualRegister → List Known
known_by known i None = known
known_by known i (Some last) = known_behind known last i

unfoldable pub contents_behind : List ℕ → Way → List Known → Instruction → List Instruction → List Known
contents_behind live way known i is = known_by known i (last_written live way is (target_of i))

unfoldable pub stays_as : List ℕ → Way → List Fact → Instruction → List Instruction → Option Instruction
stays_as live way facts i is =
    if may_go live facts i && may_write live way facts is (target_of i)
    then rewritten facts way.nothing (or_nothing way (last_written live way is (target_of i))) i
    else None

-- ---- code

abbrev pub in_front : Option Instruction → Option (List Instruction) → Option (List Instruction)
in_front None js = None
in_front (Some j) None = None
in_front (Some j) (Some js) = Some (j ∷ js)

abbrev pub is_left_out : Option Value → Bool
is_left_out None = false
is_left_out (Some v) = true

abbrev pub and_fact : List Fact → Option VirtualRegister → Option Value → List Fact
and_fact facts None v = facts
and_fact facts (Some to) None = facts
and_fact facts (Some to) (Some v) = with_fact facts to v

-- the better code for code, behind facts and known contents
unfoldable pub simplified : List ℕ → Way → List Fact → List Known → List Instruction → Option (List Instruction)
simplified live way facts known [] = Some []
simplified live way facts known (i ∷ is) =
    if is_left_out (left_out live way facts known i is)
    then simplified live way (and_fact facts (target_of i) (left_out live way facts known i is)) known is
    else
    in_front
    (stays_as live way facts i is)
    (simplified live way (facts_behind live way facts is (target_of i)) (contents_behind live way known i is) is)

-- ---- routines

-- a register that a routine has not
abbrev pub nothing_of : Routine → VirtualRegister
nothing_of routine = record { 0 = routine.registers }

-- all stays
abbrev pub plain_way : Routine → Way
plain_way routine = record { thorough = false; nothing = nothing_of routine }

-- a block of a routine, simplified in some way
pub record SimplifiesBlock (live : List ℕ) (routine : Routine) (block better : Block) : Type 0 where
  pub way : Way
  pub nothing : way.nothing ≡ nothing_of routine
  pub is : simplified live way [] [] block.code ≡ Some better.code

-- with a register more, which always has 0; a routine with many registers stays
pub record SimplifiesBlocks (live : List ℕ) (routine better : Routine) : Type 0 where
  pub few : routine.registers < watched
  pub closed : is_closed live routine ≡ true
  pub parameters : better.parameters ≡ routine.parameters
  pub locals : better.locals ≡ routine.locals
  pub registers : better.registers ≡ suc routine.registers
  pub blocks : Each (SimplifiesBlock live routine) routine.blocks better.blocks

-- a routine stays, or its blocks are simplified
pub data SimplifiesRoutine (routine better : Routine) : Type 0 where
  Stays : better ≡ routine → SimplifiesRoutine routine better
  Simplifies : (live : List ℕ) → SimplifiesBlocks live routine better → SimplifiesRoutine routine better

-- what becomes of a block, if it can be simplified
abbrev pub BlockIs : List ℕ → Routine → Block → Option Block → Type 0
BlockIs live routine block None = Unit {0}
BlockIs live routine block (Some better) = SimplifiesBlock live routine block better

-- and of a list of them
abbrev pub BlocksAre : List ℕ → Routine → List Block → Option (List Block) → Type 0
BlocksAre live routine blocks None = Unit {0}
BlocksAre live routine blocks (Some better) = Each (SimplifiesBlock live routine) blocks better

-- and of a routine
abbrev pub RoutineIs : Routine → Option Routine → Type 0
RoutineIs routine None = Unit {0}
RoutineIs routine (Some better) = (live : List ℕ) × SimplifiesBlocks live routine better
