-- Types and first values stand at any greater depth.
use Rattle.std.specs.Prelude.{ℕ, suc, Bool, List}
use Rattle.op_parse_code.proofs.Deeper.{deeper_chain}
use Rattle.op_tree.specs.Denoter.{Denoter, Denoters, FieldLists}
use Rattle.op_tree.specs.DenoterGrammar.{IsDenoter, is_named, is_string, is_subrange, is_enumeration, is_set, is_unpacked, is_packed, IsStructure, is_dynamic_array, is_static_array, is_record, AreDenoters, are_one_denoter, are_denoters, AreFieldLists, are_no_fields, are_last_fields, are_fields, IsInitial, is_value, is_list, is_record_value, AreInitials, are_one_initial, are_initials, AreFieldInitials, are_one_field_initial, are_field_initials}
use Rattle.op_tree.specs.Initial.{Initial, Initials, FieldInitials}
use Rattle.op_tree.specs.NameGrammar.{AreBracketedNames, are_bracketed_names}
use Rattle.op_tree.specs.Terminal.{Terminal}
use Rattle.op_tree.specs.declared.position.Name.{Name}
use Rattle.op_tree.specs.declared.position.Position.{Position}

pub deeper_brackets : {d : ℕ} {ns : List Name} {ks r : List Terminal} → AreBracketedNames d ns ks r → AreBracketedNames (suc d) ns ks r
deeper_brackets (are_bracketed_names ns) = are_bracketed_names ns

mutual
  pub deeper_denoter : {d : ℕ} {t : Denoter} {ks r : List Terminal} → IsDenoter d t ks r → IsDenoter (suc d) t ks r
  deeper_denoter (is_named q) = is_named q
  deeper_denoter is_string = is_string
  deeper_denoter (is_subrange a b) = is_subrange (deeper_chain a) (deeper_chain b)
  deeper_denoter (is_enumeration ns) = is_enumeration (deeper_brackets ns)
  deeper_denoter (is_set t) = is_set (deeper_denoter t)
  deeper_denoter (is_unpacked s) = is_unpacked (deeper_structure s)
  deeper_denoter (is_packed s) = is_packed (deeper_structure s)

  deeper_structure : {d : ℕ} {p : Position} {b : Bool} {t : Denoter} {ks r : List Terminal} → IsStructure d p b t ks r → IsStructure (suc d) p b t ks r
  deeper_structure (is_dynamic_array t) = is_dynamic_array (deeper_denoter t)
  deeper_structure (is_static_array ts t) = is_static_array (deeper_denoters ts) (deeper_denoter t)
  deeper_structure (is_record fs) = is_record (deeper_fields fs)

  pub deeper_denoters : {d : ℕ} {ts : Denoters} {ks r : List Terminal} → AreDenoters d ts ks r → AreDenoters (suc d) ts ks r
  deeper_denoters (are_one_denoter t) = are_one_denoter (deeper_denoter t)
  deeper_denoters (are_denoters t ts) = are_denoters (deeper_denoter t) (deeper_denoters ts)

  pub deeper_fields : {d : ℕ} {fs : FieldLists} {ks r : List Terminal} → AreFieldLists d fs ks r → AreFieldLists (suc d) fs ks r
  deeper_fields are_no_fields = are_no_fields
  deeper_fields (are_last_fields ns t) = are_last_fields ns (deeper_denoter t)
  deeper_fields (are_fields ns t fs) = are_fields ns (deeper_denoter t) (deeper_fields fs)

mutual
  pub deeper_initial : {d : ℕ} {i : Initial} {ks r : List Terminal} → IsInitial d i ks r → IsInitial (suc d) i ks r
  deeper_initial (is_value f) = is_value (deeper_chain f)
  deeper_initial (is_list is n) = is_list (deeper_initials is) n
  deeper_initial (is_record_value fs) = is_record_value (deeper_field_initials fs)

  pub deeper_initials : {d : ℕ} {is : Initials} {ks r : List Terminal} → AreInitials d is ks r → AreInitials (suc d) is ks r
  deeper_initials (are_one_initial i) = are_one_initial (deeper_initial i)
  deeper_initials (are_initials i is) = are_initials (deeper_initial i) (deeper_initials is)

  pub deeper_field_initials : {d : ℕ} {fs : FieldInitials} {ks r : List Terminal} → AreFieldInitials d fs ks r → AreFieldInitials (suc d) fs ks r
  deeper_field_initials (are_one_field_initial n i) = are_one_field_initial n (deeper_initial i)
  deeper_field_initials (are_field_initials n i fs) = are_field_initials n (deeper_initial i) (deeper_field_initials fs)
