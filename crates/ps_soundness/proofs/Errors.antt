-- The class of error records is one of a text.
use Rattle.std.proofs.Common.{◌≡◌, ℕ, Bool, true, false, ◌&&◌, List, [], ◌∷◌, refl}
use Rattle.std.specs.Prelude.{codes}
use Rattle.ps_type_text.specs.Texts.{IsName, IsNamed, is_name_byte}
use Rattle.ps_meaning.specs.ps_typing.Library.{error_fields}

-- names by a test of their bytes
abbrev are_name_bytes : List ℕ → Bool
are_name_bytes [] = true
are_name_bytes (byte ∷ bytes) = is_name_byte byte && are_name_bytes bytes

both_true : (a b : Bool) → (a && b) ≡ true → (a ≡ true) × (b ≡ true)
both_true true b e = (refl, e)
both_true false b e = absurd cc

pub by_bytes : (bytes : List ℕ) → are_name_bytes bytes ≡ true → IsName bytes
by_bytes [] e = tt
by_bytes (byte ∷ bytes) e = let h = both_true (is_name_byte byte) (are_name_bytes bytes) e in (h.0, by_bytes bytes h.1)

pub error_named : IsNamed (codes "error.record") error_fields
unfolding is_name_byte
error_named = record {
  class = by_bytes (codes "error.record") refl;
  each = (
    by_bytes (codes "error.context") refl,
    (by_bytes (codes "error.fault") refl, (by_bytes (codes "error.explain") refl, tt)),
  );
}
