-- What can stand at a place, told by its first two bytes.
use Rattle.std.specs.Prelude.{ℕ, List, [], ◌∷◌, ◌&&◌, nat_eq, if◌then◌else◌}
use Rattle.std.specs.Char.{is_ascii_digit}
use Rattle.op_scan.specs.Byte.{is_name_start, is_blank, begins_with}
use Rattle.op_scan.specs.declared.comment.Marks.TheVariants.{Braces, Stars}
use Rattle.op_scan.specs.declared.number.Base.TheVariants.{Decimal, Hexadecimal, Octal, Binary}
use Rattle.op_scan.specs.declared.class.Class.{Class}
use Rattle.op_scan.specs.declared.class.Class.TheVariants as class

-- by a byte that is no part of a word of letters and digits, and what follows it
abbrev pub class_of_mark : ℕ → List ℕ → Class
class_of_mark first after =
    if nat_eq first 36 then class.Number Hexadecimal else
    (if nat_eq first 38 then class.Number Octal else
    (if nat_eq first 37 then class.Number Binary else
    (if nat_eq first 39 then class.String else
    (if nat_eq first 35 then class.String else
    (if nat_eq first 123 then class.Comment Braces else
    (if nat_eq first 40 && begins_with after 42 then class.Comment Stars else
    (if nat_eq first 47 && begins_with after 47 then class.LineComment else class.Symbol)))))))

unfoldable pub class_of : ℕ → List ℕ → Class
class_of first after =
    if is_name_start first then class.Name else
    (if is_blank first then class.Blank else
    (if is_ascii_digit first then class.Number Decimal else class_of_mark first after))

unfoldable pub class_at : List ℕ → Class
class_at [] = class.Symbol
class_at (first ∷ after) = class_of first after
