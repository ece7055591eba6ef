use Rattle.std.proofs.Common.{◌≡◌, map, vec_len}
use Rattle.op_check_unit.specs.Bodies.{said}
use Rattle.op_check_unit.specs.Checking.{body_in, placed, without_bodies}
use Rattle.op_check_unit.proofs.body.place_all.Given as goal

abbrev pub invariant-loop-body : goal.invariant-loop-body
invariant-loop-body l = (without_bodies l.core ≡ without_bodies l.fn.core) × (placed (map said l.bodies.items) (map body_in l.core.routines) ≡ placed (map said l.fn.bodies.items) (map body_in l.fn.core.routines))

abbrev pub decreases-loop-body : goal.decreases-loop-body
decreases-loop-body l = vec_len l.bodies
