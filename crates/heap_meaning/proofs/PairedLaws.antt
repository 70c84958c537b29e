-- A row of names through readings, writes and new objects.
use Rattle.std.proofs.Common.{arith, inl, inr, ◌⊎◌, ◌≡◌, ℕ, zero, suc, List, [], ◌∷◌, length, length-append, refl, sym, ap, ◌∙◌, Some}
use Rattle.std.proofs.lemmas.List.{length-set}
use Rattle.proc_values.specs.obj_layout.declared.reference.Reference as reference
use Rattle.proc_values.specs.swizzle.Joint.{Shown}
use Rattle.proc_values.specs.swizzle.Changes.{Within, ChangedAt}
use Rattle.proc_values.specs.ps_heap.Objects.{Heap, Object, with_object, with_new, new_number}
use Rattle.heap_meaning.specs.Tables.{IsNewTable}
use Rattle.heap_meaning.specs.Standing.{Seen, Pairing, IsLike, IsPlain, Stands, IsOne, with_pair}
use Rattle.heap_meaning.specs.Paired.{name_in, paired, StandsRow, and_name}
use Rattle.heap_meaning.proofs.StandingLaws.{like-more}
use Rattle.heap_meaning.proofs.TableLaws.{tables-same}
use Rattle.heap_meaning.proofs.HeapLaws.{stands-within, stands-written, stands-made}

pub name-before : (names : List reference.Reference) (m n : reference.Reference) (id : ℕ) → name_in names id ≡ Some m → name_in (and_name names n) id ≡ Some m
name-before [] m n id is = absurd (cc)
name-before (k ∷ ks) m n zero is = is
name-before (k ∷ ks) m n (suc id) is = name-before ks m n id is

pub name-last : (names : List reference.Reference) (n : reference.Reference) → name_in (and_name names n) (length names) ≡ Some n
name-last [] n = refl
name-last (k ∷ ks) n = name-last ks n

-- a name of the longer row is one of the row, or the last
pub name-cases : (names : List reference.Reference) (m n : reference.Reference) (id : ℕ) → name_in (and_name names n) id ≡ Some m → (name_in names id ≡ Some m) ⊎ ((m ≡ n) × (id ≡ length names))
name-cases [] m n zero is = let same : n ≡ m = cc in inr (sym same, refl)
name-cases [] m n (suc id) is = absurd (cc)
name-cases (k ∷ ks) m n zero is = inl is
name-cases (k ∷ ks) m n (suc id) is = elim (name-cases ks m n id is) [ inl one ↦ inl one | inr e ↦ inr (e.0, ap suc e.1) ]

-- pairings that pair the same
pub stands-same : (seen : Seen) (heap : Heap) (pair other : Pairing) → ((n : reference.Reference) (id : ℕ) → pair n id → other n id) → ((n : reference.Reference) (id : ℕ) → other n id → pair n id) → Stands seen heap pair → Stands seen heap other
stands-same seen heap pair other there back s = record {
  both = λ n id p.
      let b = s.both n id (back n id p) in
      record { it = b.it; object = b.object; there = b.there; means = b.means; like = like-more seen seen pair other b.it b.object (λ m it k j. j) (λ m it j. record { it = it; there = j; kind_is = refl }) there b.like };
  one_number = λ n i j p q. s.one_number n i j (back n i p) (back n j q);
  one_name = λ n m id p q. s.one_name n m id (back n id p) (back m id q);
  tables = tables-same seen heap pair other there back s.tables;
}

-- A reading: the same row.
pub row-within : (seen now : Seen) (heap : Heap) (names : List reference.Reference) → Within seen now → StandsRow seen heap names → StandsRow now heap names
row-within seen now heap names grows r = record { stands = stands-within seen now heap (paired names) grows r.stands; long = r.long }

-- A write on both sides: the same row.
pub row-written : (seen now : Seen) (heap : Heap) (names : List reference.Reference) (n : reference.Reference) (id : ℕ) (it new : Shown) (object : Object) → IsOne seen → StandsRow seen heap names → paired names n id → seen n it → IsPlain object
    → new.kind ≡ it.kind → ChangedAt seen n new now → IsLike now (paired names) new object → StandsRow now (with_object heap id object) names
row-written seen now heap names n id it new object one r p there plain same_kind c like = record {
  stands = stands-written seen now heap (paired names) n id it new object one r.stands p there plain same_kind c like;
  long = r.long ∙ sym (length-set heap id object);
}

-- A new object on both sides: one name more, at the new number.
pub row-made : (seen now : Seen) (heap : Heap) (names : List reference.Reference) (n : reference.Reference) (new : Shown) (object : Object) → StandsRow seen heap names → ((it : Shown) → seen n it → ⊥)
    → ChangedAt seen n new now → IsLike now (paired (and_name names n)) new object → IsNewTable new object → StandsRow now (with_new heap object) (and_name names n)
row-made seen now heap names n new object r fresh c like table =
    let more = with_pair (paired names) n (new_number heap) in
    let there : (m : reference.Reference) (id : ℕ) → more m id → paired (and_name names n) m id = λ m id p. elim p [
      | inl q ↦ name-before names m n id q
      | inr e ↦ ap (name_in (and_name names n)) (e.1 ∙ sym r.long) ∙ name-last names n ∙ ap (λ (k : reference.Reference). Some k) (sym e.0)
    ] in
    let back : (m : reference.Reference) (id : ℕ) → paired (and_name names n) m id → more m id = λ m id p. elim (name-cases names m n id p) [
      | inl q ↦ inl q
      | inr e ↦ inr (e.0, e.1 ∙ r.long)
    ] in
    record {
      stands = stands-same now (with_new heap object) more (paired (and_name names n)) there back
          (stands-made seen now heap (paired names) n new object r.stands fresh c (like-more now now (paired (and_name names n)) more new object (λ m it k j. j) (λ m it j. record { it = it; there = j; kind_is = refl }) back like) table);
      long = omega (arith, length-append names (n ∷ []), length-append heap (object ∷ []), r.long);
    }
