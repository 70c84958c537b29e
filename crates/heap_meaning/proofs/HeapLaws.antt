-- The pairing goes through readings, writes and new objects.
use Rattle.std.proofs.Common.{inl, inr, ◌⊎◌, ◌≡◌, ◌≢◌, ℕ, List, refl, sym, ap, ◌∙◌, subst, Some, None}
use Rattle.std.proofs.lemmas.Bool.{cases_eq}
use Rattle.proc_values.specs.obj_layout.declared.kind.Kind.TheVariants as kind
use Rattle.proc_values.specs.obj_layout.declared.reference.Reference as reference
use Rattle.proc_values.specs.swizzle.Joint.{Shown}
use Rattle.proc_values.specs.swizzle.Changes.{Within, ChangedAt}
use Rattle.proc_values.specs.ps_heap.Tables.{Table}
use Rattle.proc_values.specs.ps_heap.Objects.{Heap, Object, Keyed, object_at, with_object, with_new, new_number}
use Rattle.node_rows.specs.Nodes.{IsAmong}
use Rattle.heap_meaning.specs.Tables.{IsTable, IsNewTable}
use Rattle.heap_meaning.specs.Standing.{Seen, Pairing, IsLike, IsPlain, Both, Stands, IsOne, with_pair}
use Rattle.heap_meaning.proofs.StandingLaws.{IsFixed, Fixed, Kinds, fixed-changed, kinds-changed, not-fixed, others-stay, like-more, object-set, object-set_other, object-last, object-before, object-none}
use Rattle.heap_meaning.proofs.TableLaws.{IsOfTable, is-plain, no-node, tables-within, tables-written, tables-made, tables-entered}

-- A reading, and whatever loses no object: the same pairing.
pub stands-within : (seen now : Seen) (heap : Heap) (pair : Pairing) → Within seen now → Stands seen heap pair → Stands now heap pair
stands-within seen now heap pair grows s = record {
  both = λ n id p.
      let b = s.both n id p in
      record { it = b.it; object = b.object; there = grows n b.it b.there; means = b.means; like = like-more seen now pair pair b.it b.object (λ m it k j. grows m it j) (λ m it j. record { it = it; there = grows m it j; kind_is = refl }) (λ m i q. q) b.like };
  one_number = s.one_number;
  one_name = s.one_name;
  tables = tables-within seen now heap pair grows s.tables;
}

-- A write on both sides: the same pairing.
pub stands-written : (seen now : Seen) (heap : Heap) (pair : Pairing) (n : reference.Reference) (id : ℕ) (it new : Shown) (object : Object) → IsOne seen → Stands seen heap pair → pair n id → seen n it → IsPlain object
    → new.kind ≡ it.kind → ChangedAt seen n new now → IsLike now pair new object → Stands now (with_object heap id object) pair
stands-written seen now heap pair n id it new object one s p there plain same_kind c like =
    let other : IsFixed it.kind → ⊥ = λ f. not-fixed now pair new object like (subst IsFixed (sym same_kind) f) in
    let no_table : IsOfTable it.kind → ⊥ = λ f. is-plain now pair new object plain like (subst IsOfTable (sym same_kind) f) in
    let fixed = fixed-changed seen now n it new one there other c in
    let kinds = kinds-changed seen now n it new one there same_kind c in
    record {
      both = λ m i q. elim (cases_eq i id) [
        | inl same ↦
            let names : n ≡ m = s.one_name n m i (subst (λ (k : ℕ). pair n k) (sym same) p) q in
            let mine = s.both n id p in
            subst (λ (r : reference.Reference). Both now (with_object heap id object) pair r i) names
            (subst (λ (k : ℕ). Both now (with_object heap id object) pair n k) (sym same)
            (record { it = new; object = object; there = c.there; means = object-set heap id mine.object object mine.means; like = like }))
        | inr apart ↦
            let b = s.both m i q in
            let ne : m ≢ n = λ e. apart (s.one_number n i id (subst (λ (r : reference.Reference). pair r i) e q) p) in
            record {
              it = b.it;
              object = b.object;
              there = c.stays m b.it ne b.there;
              means = object-set_other heap id i object apart ∙ b.means;
              like = like-more seen now pair pair b.it b.object fixed kinds (λ m i q. q) b.like;
            }
      ];
      one_number = s.one_number;
      one_name = s.one_name;
      tables = tables-written seen now heap pair id (s.both n id p).object object plain (s.both n id p).means fixed kinds (others-stay IsOfTable seen now n it new one there no_table c) s.tables;
    }

-- A new object on both sides: one more pair.
pub stands-made : (seen now : Seen) (heap : Heap) (pair : Pairing) (n : reference.Reference) (new : Shown) (object : Object) → Stands seen heap pair → ((it : Shown) → seen n it → ⊥)
    → ChangedAt seen n new now → IsLike now (with_pair pair n (new_number heap)) new object → IsNewTable new object → Stands now (with_new heap object) (with_pair pair n (new_number heap))
stands-made seen now heap pair n new object s fresh c like table =
    let more = with_pair pair n (new_number heap) in
    let apart : (m : reference.Reference) (i : ℕ) → pair m i → m ≢ n = λ m i p e. let b = s.both m i p in fresh b.it (subst (λ (r : reference.Reference). seen r b.it) e b.there) in
    let apart_id : (m : reference.Reference) (i : ℕ) → pair m i → i ≢ new_number heap = λ m i p e.
    let b = s.both m i p in
    let bad : Some b.object ≡ None = sym b.means ∙ ap (object_at heap) e ∙ object-none heap in absurd (cc) in
    let stays : Within seen now = λ m it j. c.stays m it (λ e. fresh it (subst (λ (r : reference.Reference). seen r it) e j)) j in
    let fixed : Fixed seen now = λ m it k j. stays m it j in
    let kinds : Kinds seen now = λ m it j. record { it = it; there = stays m it j; kind_is = refl } in
    record {
      both = λ m i q. elim q [
        | inl p ↦
            let b = s.both m i p in
            record {
              it = b.it;
              object = b.object;
              there = c.stays m b.it (apart m i p) b.there;
              means = object-before heap object b.object i b.means;
              like = like-more seen now pair more b.it b.object fixed kinds (λ m i q. inl q) b.like;
            }
        | inr e ↦
            subst (λ (r : reference.Reference). Both now (with_new heap object) more r i) (sym e.0)
            (subst (λ (k : ℕ). Both now (with_new heap object) more n k) (sym e.1)
            (record { it = new; object = object; there = c.there; means = object-last heap object; like = like }))
      ];
      one_number = λ m i j p q. elim p [
        | inl a ↦ elim q [ inl b ↦ s.one_number m i j a b | inr b ↦ absurd (apart m i a b.0) ]
        | inr a ↦ elim q [ inl b ↦ absurd (apart m j b a.0) | inr b ↦ a.1 ∙ sym b.1 ]
      ];
      one_name = λ m k i p q. elim p [
        | inl a ↦ elim q [ inl b ↦ s.one_name m k i a b | inr b ↦ absurd (apart_id m i a b.1) ]
        | inr a ↦ elim q [ inl b ↦ absurd (apart_id k i b a.1) | inr b ↦ a.0 ∙ sym b.0 ]
      ];
      tables = tables-made seen now heap pair n new object s stays c.there like table;
    }

-- A table was written, with its nodes, on both sides: the same pairing. All that is neither the table nor one of its nodes stays, and its nodes
-- were its nodes or are new.
pub stands-entered : (seen now : Seen) (heap : Heap) (pair : Pairing) (n : reference.Reference) (id : ℕ) (old table : Table) (after : List reference.Reference) → IsOne seen → (s : Stands seen heap pair) → pair n id
    → object_at heap id ≡ Some (Keyed old) → Kinds seen now
    → ((m : reference.Reference) (it : Shown) → m ≢ n → (IsAmong m (s.tables.nodes id) → ⊥) → seen m it → now m it)
    → IsTable now pair n table after → ((m : reference.Reference) → IsAmong m after → IsAmong m (s.tables.nodes id) ⊎ ((it : Shown) → seen m it → ⊥))
    → Stands now (with_object heap id (Keyed table)) pair
stands-entered seen now heap pair n id old table after one s p was kinds others is fresh =
    record {
      both = λ m i q. elim (cases_eq i id) [
        | inl same ↦
            let named : n ≡ m = s.one_name n m i (subst (λ (k : ℕ). pair n k) (sym same) p) q in
            subst (λ (r : reference.Reference). Both now (with_object heap id (Keyed table)) pair r i) named
            (subst (λ (k : ℕ). Both now (with_object heap id (Keyed table)) pair n k) (sym same)
            (record { it = is.it; object = Keyed table; there = is.there; means = object-set heap id (Keyed old) (Keyed table) was; like = is.kind_is }))
        | inr apart ↦
            let b = s.both m i q in
            let ne : m ≢ n = λ e. apart (s.one_number n i id (subst (λ (r : reference.Reference). pair r i) e q) p) in
            record {
              it = b.it;
              object = b.object;
              there = stay m b.it ne (no-node seen pair b.it b.object b.like) b.there;
              means = object-set_other heap id i (Keyed table) apart ∙ b.means;
              like = like-more seen now pair pair b.it b.object fixed kinds (λ m i q. q) b.like;
            }
      ];
      one_number = s.one_number;
      one_name = s.one_name;
      tables = tables-entered seen now heap pair n id old table after one s p was fixed kinds others is fresh;
    }
  where
    stay : (m : reference.Reference) (it : Shown) → m ≢ n → it.kind ≢ kind.Node → seen m it → now m it
    stay m it ne other j = others m it ne (λ a. let k = s.tables.are_nodes id m a in other (ap (λ (x : Shown). x.kind) (one m it k.it j k.there) ∙ k.kind_is)) j

    fixed : Fixed seen now
    fixed m it f j =
        let mine = s.tables.each n id old p was in
        stay m it
        (λ e. subst IsFixed (ap (λ (x : Shown). x.kind) (one n it mine.it (subst (λ (r : reference.Reference). seen r it) e j) mine.there) ∙ mine.kind_is) f)
        (λ e. subst IsFixed e f) j
