-- Calls over tables answer the same but for ids, and so does each call of the library over tables and databases.
use Rattle.std.proofs.Common.{Bool, true, false, inl, inr, ◌≡◌, ℕ, List, [], ◌∷◌, map, refl, sym, ap, ◌∙◌, subst, Option, Some, None, if◌then◌else◌, pos}
use Rattle.std.specs.Option.{option_map}
use Rattle.std.specs.Ordering.{int_cmp}
use Rattle.std.specs.declared.cmp.Ordering.{Ordering}
use Rattle.std.specs.declared.cmp.Ordering.TheVariants.{Less, Equal, Greater}
use Rattle.std.proofs.lemmas.List.{length-map}
use Rattle.reaching.specs.Reaching.{IsIn}
use Rattle.avl_trees.specs.Rising.{pick, find}
use Rattle.ps_heap.specs.ps_base.declared.trap.Trap.TheVariants.{Overflow}
use Rattle.ps_heap.specs.Operators.{is_int}
use Rattle.ps_heap.specs.Values.{Value, Num, Flag, Text, Nil, Pointer, Vector, Procedure, Nothing}
use Rattle.ps_heap.specs.Texts.{Attempt, Yields, Fails, order_of}
use Rattle.ps_heap.specs.Tables.{Key, string_key, int_key, Entry, entry_of, Table, without_keys, by_strings, by_ints, seek, found_under, with_under, on_yield, entered, looked_up, cardinality}
use Rattle.ps_heap.specs.Objects.{Object, Structure, Elements, Scope, Keyed, object_at, table_in, table_of, object_of_value, value_of_object}
use Rattle.ps_heap.specs.References.{pointers, value_ids, values_ids, object_ids, next_in}
use Rattle.ps_heap.specs.Weights.{entry_weight}
use Rattle.ps_heap.specs.Held.{Held, Under, reading}
use Rattle.ps_heap.specs.Calls.{answer_of, then_try, is_new_entry, table_put, enter_call, lookup_call, number_answered, cardinality_call}
use Rattle.database_meaning.specs.Same.{renamed_value, renamed_entry, renamed_table, renamed}
use Rattle.database_meaning.specs.SameRuns.{Pairing, AreAmong, IsSameHeld, IsSameAnswer, AreBoth}
use Rattle.database_meaning.proofs.CallLaws.{ids_of, table-at, entered-ids, value-id}
use Rattle.database_meaning.proofs.GrownPairs.{goes_same, counting-same}
use Rattle.database_meaning.proofs.SameTouches.{touching-same}
use Rattle.database_meaning.proofs.SamePlaces.{changed-same, noted-same}
use Rattle.database_meaning.proofs.SameAnswers.{plain-same}

-- Entries with other ids, under their keys.

module _ {K : Type 0} (order : K → K → Ordering) (f : ℕ → ℕ) (key : K) where
  found-renamed : (entries : List (Entry K)) → found_under order key (map (renamed_entry f) entries) ≡ option_map f (found_under order key entries)
  found-renamed [] = refl
  found-renamed (e ∷ es) = go (order key e.key) (found-renamed es)
    where
      go : (r : Ordering) → found_under order key (map (renamed_entry f) es) ≡ option_map f (found_under order key es)
          → option_map (λ entry. entry.object) (pick r None (Some (renamed_entry f e)) (find (seek order key) (map (renamed_entry f) es)))
          ≡ option_map f (option_map (λ entry. entry.object) (pick r None (Some e) (find (seek order key) es)))
      go Less rest = refl
      go Equal rest = refl
      go Greater rest = rest

  under-renamed : (object : Option ℕ) (entries : List (Entry K)) → with_under order key (option_map f object) (map (renamed_entry f) entries) ≡ map (renamed_entry f) (with_under order key object entries)
  under-renamed None [] = refl
  under-renamed (Some id) [] = refl
  under-renamed None (e ∷ es) = go (order key e.key) (under-renamed None es)
    where
      go : (r : Ordering) → with_under order key None (map (renamed_entry f) es) ≡ map (renamed_entry f) (with_under order key None es)
          → pick r (map (renamed_entry f) (e ∷ es)) (map (renamed_entry f) es) (renamed_entry f e ∷ with_under order key None (map (renamed_entry f) es))
          ≡ map (renamed_entry f) (pick r (e ∷ es) es (e ∷ with_under order key None es))
      go Less rest = refl
      go Equal rest = refl
      go Greater rest = ap (λ xs. renamed_entry f e ∷ xs) rest
  under-renamed (Some id) (e ∷ es) = go (order key e.key) (under-renamed (Some id) es)
    where
      go : (r : Ordering) → with_under order key (Some (f id)) (map (renamed_entry f) es) ≡ map (renamed_entry f) (with_under order key (Some id) es)
          → pick r (entry_of key (f id) ∷ map (renamed_entry f) (e ∷ es)) (entry_of e.key (f id) ∷ map (renamed_entry f) es) (renamed_entry f e ∷ with_under order key (Some (f id)) (map (renamed_entry f) es))
          ≡ map (renamed_entry f) (pick r (entry_of key id ∷ e ∷ es) (entry_of e.key id ∷ es) (e ∷ with_under order key (Some id) es))
      go Less rest = refl
      go Equal rest = refl
      go Greater rest = ap (λ xs. renamed_entry f e ∷ xs) rest

  -- what is found is one of the ids
  found-in : (entries : List (Entry K)) (id : ℕ) → found_under order key entries ≡ Some id → IsIn id (values_ids (pointers entries))
  found-in [] id e = absurd (cc)
  found-in (entry ∷ es) id e = go (order key entry.key) e (λ h. found-in es id h)
    where
      go : (r : Ordering) → option_map (λ x. x.object) (pick r None (Some entry) (find (seek order key) es)) ≡ Some id
          → (found_under order key es ≡ Some id → IsIn id (values_ids (pointers es))) → IsIn id (values_ids (pointers (entry ∷ es)))
      go Less is rest = absurd (cc)
      go Equal is rest = inl cc
      go Greater is rest = inr (rest is)

-- Tables.

entered-renamed : (f : ℕ → ℕ) (key : Key) (object : Option ℕ) (t : Table) → entered key (option_map f object) (renamed_table f t) ≡ on_yield (entered key object t) (renamed_table f)
unfolding entered
entered-renamed f (string_key bytes) None without_keys = refl
entered-renamed f (string_key bytes) (Some id) without_keys = refl
entered-renamed f (string_key bytes) object (by_strings entries) = ap (λ es. Yields (by_strings es)) (under-renamed order_of f bytes object entries)
entered-renamed f (string_key bytes) object (by_ints entries) = refl
entered-renamed f (int_key z) None without_keys = refl
entered-renamed f (int_key z) (Some id) without_keys = refl
entered-renamed f (int_key z) object (by_ints entries) = ap (λ es. Yields (by_ints es)) (under-renamed int_cmp f z object entries)
entered-renamed f (int_key z) object (by_strings entries) = refl

looked-renamed : (f : ℕ → ℕ) (key : Key) (t : Table) → looked_up key (renamed_table f t) ≡ on_yield (looked_up key t) (option_map f)
unfolding looked_up
looked-renamed f (string_key bytes) without_keys = refl
looked-renamed f (string_key bytes) (by_strings entries) = ap Yields (found-renamed order_of f bytes entries)
looked-renamed f (string_key bytes) (by_ints entries) = refl
looked-renamed f (int_key z) without_keys = refl
looked-renamed f (int_key z) (by_ints entries) = ap Yields (found-renamed int_cmp f z entries)
looked-renamed f (int_key z) (by_strings entries) = refl

pub looked-in : (key : Key) (t : Table) (id : ℕ) → looked_up key t ≡ Yields (Some id) → IsIn id (ids_of t)
unfolding looked_up
looked-in (string_key bytes) without_keys id e = absurd (cc)
looked-in (string_key bytes) (by_strings entries) id e = found-in order_of (λ x. x) bytes entries id (cc)
looked-in (string_key bytes) (by_ints entries) id e = absurd (cc)
looked-in (int_key z) without_keys id e = absurd (cc)
looked-in (int_key z) (by_ints entries) id e = found-in int_cmp (λ x. x) z entries id (cc)
looked-in (int_key z) (by_strings entries) id e = absurd (cc)

many-renamed : (f : ℕ → ℕ) (t : Table) → cardinality (renamed_table f t) ≡ cardinality t
unfolding cardinality
many-renamed f without_keys = refl
many-renamed f (by_strings entries) = length-map entries (renamed_entry f)
many-renamed f (by_ints entries) = length-map entries (renamed_entry f)

in-renamed : (f : ℕ → ℕ) (o : Option Object) → table_in (option_map (renamed f) o) ≡ on_yield (table_in o) (renamed_table f)
in-renamed f None = refl
in-renamed f (Some (Structure class fields)) = refl
in-renamed f (Some (Elements ty low elements)) = refl
in-renamed f (Some (Scope text parent names)) = refl
in-renamed f (Some (Keyed table)) = refl

-- Values as what a key has, and back.

object-renamed : (f : ℕ → ℕ) (v : Value) → object_of_value (renamed_value f v) ≡ option_map f (object_of_value v)
object-renamed f (Num z) = refl
object-renamed f (Flag b) = refl
object-renamed f (Text bytes) = refl
object-renamed f Nil = refl
object-renamed f (Pointer id) = refl
object-renamed f (Vector id) = refl
object-renamed f (Procedure does scope) = refl
object-renamed f Nothing = refl

new-entry-renamed : (f : ℕ → ℕ) (before object : Option ℕ) → is_new_entry (option_map f before) (option_map f object) ≡ is_new_entry before object
new-entry-renamed f None None = refl
new-entry-renamed f None (Some id) = refl
new-entry-renamed f (Some x) None = refl
new-entry-renamed f (Some x) (Some id) = refl

module _ {p : Pairing} {a b : Held} (s : IsSameHeld p a b) where
  pub table-of-same : (v : Value) → AreAmong (value_ids v) p.ids → table_of b.objects (renamed_value p.new v) ≡ on_yield (table_of a.objects v) (renamed_table p.new)
  unfolding table_of
  table-of-same (Num z) known = refl
  table-of-same (Flag f) known = refl
  table-of-same (Text bytes) known = refl
  table-of-same Nil known = refl
  table-of-same (Pointer id) known = ap table_in (s.objects.same id (known id (inl refl))) ∙ in-renamed p.new (object_at a.objects id)
  table-of-same (Vector id) known = refl
  table-of-same (Procedure does scope) known = refl
  table-of-same Nothing known = refl

  -- what a table has is known where the table is
  pub table-known : (v : Value) (t : Table) → AreAmong (value_ids v) p.ids → table_of a.objects v ≡ Yields t → AreAmong (ids_of t) p.ids
  unfolding next_in
  table-known v t known is x l =
      let at = table-at a.objects v t is in
      s.objects.closed at.id (known at.id (subst (λ w. IsIn at.id (value_ids w)) (sym at.v_is) (inl refl))) x (subst (λ o. IsIn x (object_ids o)) (sym at.there) l)

  read-same : (found : Option ℕ) → ((id : ℕ) → found ≡ Some id → IsIn id p.ids)
      → IsSameAnswer p (answer_of (value_of_object found) (reading (value_of_object found) a)) (answer_of (value_of_object (option_map p.new found)) (reading (value_of_object (option_map p.new found)) b))
  read-same None known = record { pairs = p; goes_on = goes_same p; held = touching-same s [] (λ x l. absurd l); value = refl; denoted = λ x l. absurd l; events = tt }
  read-same (Some id) known = record {
    pairs = p;
    goes_on = goes_same p;
    held = touching-same s (id ∷ []) one;
    value = refl;
    denoted = one;
    events = tt;
  }
    where
      one : AreAmong (id ∷ []) p.ids
      one x l = elim l [ inl e ↦ subst (λ k. IsIn k p.ids) (sym e) (known id refl) | inr no_more ↦ absurd no_more ]

  pub lookup-same : (key : Key) (table : Value) → AreAmong (value_ids table) p.ids → AreBoth (IsSameAnswer p) (lookup_call key table a) (lookup_call key (renamed_value p.new table) b)
  unfolding lookup_call
  lookup-same key table known =
      subst (λ x. AreBoth (IsSameAnswer p) (lookup_call key table a) (then_try x (λ t. on_yield (looked_up key t) (λ found. answer_of (value_of_object found) (reading (value_of_object found) b)))))
      (sym (table-of-same table known)) (go (table_of a.objects table) refl)
    where
      found : (t : Table) (l : Attempt (Option ℕ)) → table_of a.objects table ≡ Yields t → looked_up key t ≡ l
          → AreBoth (IsSameAnswer p) (on_yield l (λ x. answer_of (value_of_object x) (reading (value_of_object x) a)))
          (on_yield (on_yield l (option_map p.new)) (λ x. answer_of (value_of_object x) (reading (value_of_object x) b)))
      found t (Yields x) is e = read-same x (λ id same. table-known table t known is id (looked-in key t id (e ∙ ap Yields same)))
      found t (Fails trap) is e = refl

      go : (x : Attempt Table) → table_of a.objects table ≡ x
          → AreBoth (IsSameAnswer p) (then_try x (λ t. on_yield (looked_up key t) (λ y. answer_of (value_of_object y) (reading (value_of_object y) a))))
          (then_try (on_yield x (renamed_table p.new)) (λ t. on_yield (looked_up key t) (λ y. answer_of (value_of_object y) (reading (value_of_object y) b))))
      go (Yields t) is =
          subst (λ l. AreBoth (IsSameAnswer p) (on_yield (looked_up key t) (λ y. answer_of (value_of_object y) (reading (value_of_object y) a)))
          (on_yield l (λ y. answer_of (value_of_object y) (reading (value_of_object y) b)))) (sym (looked-renamed p.new key t)) (found t (looked_up key t) is refl)
      go (Fails trap) is = refl

  pub cardinality-same : (table : Value) → AreAmong (value_ids table) p.ids → AreBoth (IsSameAnswer p) (cardinality_call table a) (cardinality_call (renamed_value p.new table) b)
  unfolding cardinality_call
  cardinality-same table known =
      subst (λ x. AreBoth (IsSameAnswer p) (cardinality_call table a) (then_try x (λ t. number_answered (cardinality t) b))) (sym (table-of-same table known)) (go (table_of a.objects table))
    where
      answered : (n : ℕ) (is : Bool) → AreBoth (IsSameAnswer p) (if is then Yields (answer_of (Num (pos n)) a) else Fails Overflow) (if is then Yields (answer_of (Num (pos n)) b) else Fails Overflow)
      answered n true = plain-same s (Num (pos n)) refl (λ x l. absurd l)
      answered n false = refl

      go : (x : Attempt Table) → AreBoth (IsSameAnswer p) (then_try x (λ t. number_answered (cardinality t) a)) (then_try (on_yield x (renamed_table p.new)) (λ t. number_answered (cardinality t) b))
      go (Yields t) = subst (λ n. AreBoth (IsSameAnswer p) (number_answered (cardinality t) a) (number_answered n b)) (sym (many-renamed p.new t)) (answered (cardinality t) (is_int (pos (cardinality t))))
      go (Fails trap) = refl

  -- a table with another entry
  put-same : (id : ℕ) (key : Key) (before object : Option ℕ) (new : Table) → IsIn id p.ids → AreAmong (ids_of new) p.ids
      → IsSameHeld p (table_put (Pointer id) key before object new a) (table_put (Pointer (p.new id)) key (option_map p.new before) (option_map p.new object) (renamed_table p.new new) b)
  put-same id key before object new known among =
      noted-same (counting-same (if is_new_entry before object then entry_weight key else 0) (if is_new_entry (option_map p.new before) (option_map p.new object) then entry_weight key else 0)
      (ap (λ e. if e then entry_weight key else 0) (new-entry-renamed p.new before object)) (changed-same s id known (Keyed new) among)) (Under id key) known

  pub enter-same : (key : Key) (table v : Value) → AreAmong (value_ids table) p.ids → AreAmong (value_ids v) p.ids
      → AreBoth (IsSameHeld p) (enter_call key table v a) (enter_call key (renamed_value p.new table) (renamed_value p.new v) b)
  unfolding enter_call
  enter-same key table v known of_value =
      subst (λ x. AreBoth (IsSameHeld p) (enter_call key table v a) (then_try x (λ t. then_try (looked_up key t) (λ before. entering (object_of_value (renamed_value p.new v)) t before))))
      (sym (table-of-same table known))
      (subst (λ o. AreBoth (IsSameHeld p) (enter_call key table v a) (then_try (on_yield (table_of a.objects table) (renamed_table p.new)) (λ t. then_try (looked_up key t) (λ before. entering o t before))))
      (sym (object-renamed p.new v)) (go (table_of a.objects table) refl))
    where
      entering : Option ℕ → Table → Option ℕ → Attempt Held
      entering object t before = on_yield (entered key object t) (λ new. table_put (renamed_value p.new table) key before object new b)

      put : (t new : Table) (before : Option ℕ) → table_of a.objects table ≡ Yields t → entered key (object_of_value v) t ≡ Yields new
          → IsSameHeld p (table_put table key before (object_of_value v) new a) (table_put (renamed_value p.new table) key (option_map p.new before) (option_map p.new (object_of_value v)) (renamed_table p.new new) b)
      put t new before is e =
          let at = table-at a.objects table t is in
          let here = known at.id (subst (λ w. IsIn at.id (value_ids w)) (sym at.v_is) (inl refl)) in
          subst (λ w. IsSameHeld p (table_put w key before (object_of_value v) new a) (table_put (renamed_value p.new w) key (option_map p.new before) (option_map p.new (object_of_value v)) (renamed_table p.new new) b))
          (sym at.v_is) (put-same at.id key before (object_of_value v) new here (λ x l. elim (entered-ids key (object_of_value v) t new e x l) [
            | inl was ↦ table-known table t known is x was
            | inr now ↦ of_value x (value-id v x now)
          ]))

      third : (t : Table) (before : Option ℕ) (c : Attempt Table) → table_of a.objects table ≡ Yields t → entered key (object_of_value v) t ≡ c
          → AreBoth (IsSameHeld p) (on_yield c (λ new. table_put table key before (object_of_value v) new a))
          (on_yield (on_yield c (renamed_table p.new)) (λ new. table_put (renamed_value p.new table) key (option_map p.new before) (option_map p.new (object_of_value v)) new b))
      third t before (Yields new) is e = put t new before is e
      third t before (Fails trap) is e = refl

      second : (t : Table) (l : Attempt (Option ℕ)) → table_of a.objects table ≡ Yields t
          → AreBoth (IsSameHeld p) (then_try l (λ before. on_yield (entered key (object_of_value v) t) (λ new. table_put table key before (object_of_value v) new a)))
          (then_try (on_yield l (option_map p.new)) (λ before. entering (option_map p.new (object_of_value v)) (renamed_table p.new t) before))
      second t (Fails trap) is = refl
      second t (Yields before) is =
          subst (λ c. AreBoth (IsSameHeld p) (on_yield (entered key (object_of_value v) t) (λ new. table_put table key before (object_of_value v) new a))
          (on_yield c (λ new. table_put (renamed_value p.new table) key (option_map p.new before) (option_map p.new (object_of_value v)) new b)))
          (sym (entered-renamed p.new key (object_of_value v) t)) (third t before (entered key (object_of_value v) t) is refl)

      go : (x : Attempt Table) → table_of a.objects table ≡ x
          → AreBoth (IsSameHeld p) (then_try x (λ t. then_try (looked_up key t) (λ before. on_yield (entered key (object_of_value v) t) (λ new. table_put table key before (object_of_value v) new a))))
          (then_try (on_yield x (renamed_table p.new)) (λ t. then_try (looked_up key t) (λ before. entering (option_map p.new (object_of_value v)) t before)))
      go (Fails trap) is = refl
      go (Yields t) is =
          subst (λ l. AreBoth (IsSameHeld p) (then_try (looked_up key t) (λ before. on_yield (entered key (object_of_value v) t) (λ new. table_put table key before (object_of_value v) new a)))
          (then_try l (λ before. entering (option_map p.new (object_of_value v)) (renamed_table p.new t) before)))
          (sym (looked-renamed p.new key t)) (second t (looked_up key t) is)
