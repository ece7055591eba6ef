-- What begins at a byte inside a comment, told by two bytes.
use Rattle.std.specs.Prelude.{ℕ, List, ◌&&◌, nat_eq, if◌then◌else◌}
use Rattle.op_scan.specs.Byte.{begins_with}
use Rattle.op_scan.specs.declared.comment.Marks.{Marks}
use Rattle.op_scan.specs.declared.comment.Marks.TheVariants.{Braces, Stars}
use Rattle.op_scan.specs.declared.comment.Inside.{Inside}
use Rattle.op_scan.specs.declared.comment.Inside.TheVariants.{Closes, Opens, Plain}

abbrev pub opens : ℕ → List ℕ → Inside
opens first after =
    if nat_eq first 123 then Opens Braces else
    (if nat_eq first 40 && begins_with after 42 then Opens Stars else Plain)

abbrev pub inside_at : Marks → ℕ → List ℕ → Inside
inside_at Braces first after = if nat_eq first 125 then Closes else opens first after
inside_at Stars first after = if nat_eq first 42 && begins_with after 41 then Closes else opens first after
