-- Filling memory a stretch at a time.
use Rattle.std.proofs.Common.{◌≡◌, ℕ, zero, suc, ◌≤◌, ◌+◌, Option, Some, None, List, [], ◌∷◌, ◌++◌, refl, ap, sym, ◌∙◌, subst, arith, append_assoc, length-append}
use Rattle.op_base.specs.Outside.{preceded}
use Rattle.op_emu.specs.Region.{Region}
use Rattle.op_emu.specs.Segments.{IsWritten}
use Rattle.op_base.specs.declared.source.Got.{Got}
use Rattle.op_base.specs.declared.source.Got.TheVariants.{Gave, End, Failed}
use Rattle.op_emu.specs.Filling.{AreBytes, Fills, FrontIs}
use Rattle.op_emu.proofs.Writing.{written_none, written_then}

pub nothing_preceded : (i : Option (List ℕ)) → i ≡ preceded [] i
nothing_preceded None = refl
nothing_preceded (Some rest) = refl

pub preceded-append : (a b : List ℕ) (o : Option (List ℕ)) → preceded (a ++ b) o ≡ preceded a (preceded b o)
preceded-append a b None = refl
preceded-append a b (Some rest) = ap Some (append_assoc a b rest)

-- no bytes, and bytes behind bytes
pub no_bytes : AreBytes []
no_bytes k = omega arith

pub bytes_append : (a b : List ℕ) → AreBytes a → AreBytes b → AreBytes (a ++ b)
bytes_append [] b first more k = more k
bytes_append (x ∷ xs) b first more zero = first zero
bytes_append (x ∷ xs) b first more (suc k) = bytes_append xs b (λ j. first (suc j)) more k

pub fills_none : (rs : List Region) (at : ℕ) (i : Option (List ℕ)) → Fills 0 rs rs at i i
fills_none rs at i = record { bytes = []; many = refl; bounded = no_bytes; parts = nothing_preceded i; written = written_none rs at }

pub fills_more : (a b c : List Region) (at n k : ℕ) (i i' i'' : Option (List ℕ)) → Fills n a b at i i' → Fills k b c (at + n) i' i'' → Fills (n + k) a c at i i''
fills_more a b c at n k i i' i'' p q =
    record {
      bytes = p.bytes ++ q.bytes;
      many = omega (arith, length-append p.bytes q.bytes, p.many, q.many);
      bounded = bytes_append p.bytes q.bytes p.bounded q.bounded;
      parts = p.parts ∙ ap (preceded p.bytes) q.parts ∙ sym (preceded-append p.bytes q.bytes i'');
      written = written_then a b c at p.bytes q.bytes p.written (subst (λ m. IsWritten b c (at + m) q.bytes) (sym p.many) q.written);
    }

-- what was asked of at most n bytes was asked of at most as many and more
pub FrontIs-most : (got : Got) (old new : List Region) (at n m : ℕ) (i i' : Option (List ℕ)) (f f' : ℕ) → n ≤ m → FrontIs got old new at n i i' f f' → FrontIs got old new at m i i' f f'
FrontIs-most (Gave k) old new at n m i i' f f' within is = (is.0, omega (arith, is.1, within), is.2)
FrontIs-most End old new at n m i i' f f' within is = is
FrontIs-most Failed old new at n m i i' f f' within is = is
