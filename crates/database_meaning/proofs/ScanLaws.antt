-- What a scan finds next is in the table.
use Rattle.std.proofs.Common.{Bool, true, false, inl, inr, ◌≡◌, ℕ, List, [], ◌∷◌, map, refl, ap, ◌∙◌, subst, Option, Some, None}
use Rattle.std.specs.Option.{option_map}
use Rattle.std.specs.Ordering.{int_cmp}
use Rattle.std.specs.declared.cmp.Ordering.{Ordering}
use Rattle.std.specs.declared.cmp.Ordering.TheVariants.{Less, Equal, Greater}
use Rattle.reaching.specs.Reaching.{IsIn}
use Rattle.avl_trees.specs.Rising.{pick, above}
use Rattle.ps_heap.specs.Texts.{Yields, order_of}
use Rattle.ps_heap.specs.Tables.{Key, string_key, int_key, Entry, Table, without_keys, by_strings, by_ints, seek, next_of, on_yield, next_string, next_int}
use Rattle.ps_heap.specs.References.{pointers, values_ids}
use Rattle.ps_heap.specs.Scans.{Found, found_of, last_string, last_int, next_in_table}
use Rattle.database_meaning.specs.Same.{renamed_entry, renamed_table}
use Rattle.database_meaning.proofs.CallLaws.{ids_of}

above-in : {K : Type 0} (order : K → K → Ordering) (key : K) (entries : List (Entry K)) (entry : Entry K) → above (seek order key) entries ≡ Some entry → IsIn entry.object (values_ids (pointers entries))
above-in order key [] entry e = absurd (cc)
above-in order key (first ∷ es) entry e = go (order key first.key) e (λ h. above-in order key es entry h)
  where
    go : (r : Ordering) → pick r (Some first) (above (seek order key) es) (above (seek order key) es) ≡ Some entry → (above (seek order key) es ≡ Some entry → IsIn entry.object (values_ids (pointers es)))
        → IsIn entry.object (values_ids (pointers (first ∷ es)))
    go Less is rest = let same : entry ≡ first = cc in inl (ap (λ x. x.object) same)
    go Equal is rest = inr (rest is)
    go Greater is rest = inr (rest is)

next-in : {K : Type 0} (order : K → K → Ordering) (last : Option K) (entries : List (Entry K)) (entry : Entry K) → next_of order last entries ≡ Some entry → IsIn entry.object (values_ids (pointers entries))
next-in order None [] entry e = absurd (cc)
next-in order None (first ∷ es) entry e = let same : entry ≡ first = cc in inl (ap (λ x. x.object) same)
next-in order (Some key) entries entry e = above-in order key entries entry e

found-entry : {K : Type 0} (key_of : K → Key) (ids : List ℕ) (o : Option (Entry K)) → ((entry : Entry K) → o ≡ Some entry → IsIn entry.object ids) → (it : Found)
    → option_map (found_of key_of) o ≡ Some it → IsIn it.object ids
found-entry key_of ids None h it e = absurd (cc)
found-entry key_of ids (Some entry) h it e = let same : found_of key_of entry ≡ it = cc in subst (λ x. IsIn x ids) (ap (λ x. x.object) same) (h entry refl)

yielded : {A : Type 0} {a b : A} → Yields a ≡ Yields b → a ≡ b
yielded e = cc

pub next-found : (strings : Bool) (last : Option Key) (t : Table) (it : Found) → next_in_table strings last t ≡ Yields (Some it) → IsIn it.object (ids_of t)
unfolding next_string next_int
next-found true last without_keys it e = found-entry string_key [] (next_of order_of (last_string last) []) (λ entry h. next-in order_of (last_string last) [] entry h) it (yielded e)
next-found true last (by_strings entries) it e =
    found-entry string_key (values_ids (pointers entries)) (next_of order_of (last_string last) entries) (λ entry h. next-in order_of (last_string last) entries entry h) it (yielded e)
next-found true last (by_ints entries) it e = absurd (cc)
next-found false last without_keys it e = found-entry int_key [] (next_of int_cmp (last_int last) []) (λ entry h. next-in int_cmp (last_int last) [] entry h) it (yielded e)
next-found false last (by_ints entries) it e =
    found-entry int_key (values_ids (pointers entries)) (next_of int_cmp (last_int last) entries) (λ entry h. next-in int_cmp (last_int last) entries entry h) it (yielded e)
next-found false last (by_strings entries) it e = absurd (cc)

-- In a table with other ids it is found with another one.

abbrev pub renamed_found : (ℕ → ℕ) → Found → Found
renamed_found f it = record { key = it.key; object = f it.object }

above-renamed : {K : Type 0} (order : K → K → Ordering) (f : ℕ → ℕ) (key : K) (entries : List (Entry K)) → above (seek order key) (map (renamed_entry f) entries) ≡ option_map (renamed_entry f) (above (seek order key) entries)
above-renamed order f key [] = refl
above-renamed order f key (e ∷ es) = go (order key e.key) (above-renamed order f key es)
  where
    go : (r : Ordering) → above (seek order key) (map (renamed_entry f) es) ≡ option_map (renamed_entry f) (above (seek order key) es)
        → pick r (Some (renamed_entry f e)) (above (seek order key) (map (renamed_entry f) es)) (above (seek order key) (map (renamed_entry f) es))
        ≡ option_map (renamed_entry f) (pick r (Some e) (above (seek order key) es) (above (seek order key) es))
    go Less rest = refl
    go Equal rest = rest
    go Greater rest = rest

entry-renamed : {K : Type 0} (order : K → K → Ordering) (f : ℕ → ℕ) (last : Option K) (entries : List (Entry K)) → next_of order last (map (renamed_entry f) entries) ≡ option_map (renamed_entry f) (next_of order last entries)
entry-renamed order f None [] = refl
entry-renamed order f None (e ∷ es) = refl
entry-renamed order f (Some key) entries = above-renamed order f key entries

found-renamed : {K : Type 0} (key_of : K → Key) (f : ℕ → ℕ) (o : Option (Entry K)) → option_map (found_of key_of) (option_map (renamed_entry f) o) ≡ option_map (renamed_found f) (option_map (found_of key_of) o)
found-renamed key_of f None = refl
found-renamed key_of f (Some entry) = refl

pub next-renamed : (f : ℕ → ℕ) (strings : Bool) (last : Option Key) (t : Table) → next_in_table strings last (renamed_table f t) ≡ on_yield (next_in_table strings last t) (option_map (renamed_found f))
unfolding next_string next_int
next-renamed f true last without_keys = ap Yields (ap (option_map (found_of string_key)) (entry-renamed order_of f (last_string last) []) ∙ found-renamed string_key f (next_of order_of (last_string last) []))
next-renamed f true last (by_strings entries) =
    ap Yields (ap (option_map (found_of string_key)) (entry-renamed order_of f (last_string last) entries) ∙ found-renamed string_key f (next_of order_of (last_string last) entries))
next-renamed f true last (by_ints entries) = refl
next-renamed f false last without_keys = ap Yields (ap (option_map (found_of int_key)) (entry-renamed int_cmp f (last_int last) []) ∙ found-renamed int_key f (next_of int_cmp (last_int last) []))
next-renamed f false last (by_ints entries) =
    ap Yields (ap (option_map (found_of int_key)) (entry-renamed int_cmp f (last_int last) entries) ∙ found-renamed int_key f (next_of int_cmp (last_int last) entries))
next-renamed f false last (by_strings entries) = refl
