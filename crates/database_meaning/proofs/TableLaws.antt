-- Tables are finite maps.
use Rattle.std.proofs.Common.{false, ◌≡◌, ◌≢◌, ℕ, List, [], refl, sym, ap, ◌∙◌, subst, Option, Some, None}
use Rattle.std.proofs.lemmas.Bool.{true≢false}
use Rattle.std.specs.Cmp.{IsTotalOrder}
use Rattle.std.proofs.lemmas.Cmp.{int_cmp_total, nat_list_cmp_total}
use Rattle.std.specs.Ordering.{int_cmp, is_eq}
use Rattle.std.specs.declared.cmp.Ordering.{Ordering}
use Rattle.std.specs.declared.cmp.Ordering.TheVariants.{Equal}
use Rattle.ps_heap.specs.Texts.{Yields, order_of}
use Rattle.ps_heap.specs.Tables.{string_key, int_key, Entry, without_keys, by_strings, by_ints, found_under, with_under, AreInKeyOrder, IsInKeyOrder, entered, looked_up}
use Rattle.database_meaning.specs.TableLaws.{EnteredIsFound, OthersStay, KeysStayInOrder, KindsStay, AreFiniteMaps}
use Rattle.database_meaning.proofs.EntryLaws.{with_under_rising, found_entered, found_removed, other_entered, other_removed, next_is_least}

yielded : {A : Type 0} {a b : A} → Yields a ≡ Yields b → a ≡ b
yielded e = cc

found_with : {K : Type 0} (order : K → K → Ordering) (o : IsTotalOrder order) (key : K) (object : Option ℕ) (entries : List (Entry K)) → AreInKeyOrder order entries
    → found_under order key (with_under order key object entries) ≡ object
found_with order o key None entries h = found_removed order o key entries h
found_with order o key (Some object) entries h = found_entered order o key object entries

other_with : {K : Type 0} (order : K → K → Ordering) (o : IsTotalOrder order) (key other : K) (object : Option ℕ) (entries : List (Entry K)) → AreInKeyOrder order entries → order other key ≢ Equal
    → found_under order other (with_under order key object entries) ≡ found_under order other entries
other_with order o key other None entries h apart = other_removed order o key other entries h apart
other_with order o key other (Some object) entries h apart = other_entered order o key other object entries h apart

entered_found : EnteredIsFound
unfolding entered looked_up
entered_found (string_key key) None without_keys new h e = subst (λ t. looked_up (string_key key) t ≡ Yields None) (yielded e) refl
entered_found (string_key key) (Some id) without_keys new h e =
    subst (λ t. looked_up (string_key key) t ≡ Yields (Some id)) (yielded e) (ap Yields (found_with order_of nat_list_cmp_total key (Some id) [] tt))
entered_found (string_key key) object (by_strings entries) new h e =
    subst (λ t. looked_up (string_key key) t ≡ Yields object) (yielded e) (ap Yields (found_with order_of nat_list_cmp_total key object entries h))
entered_found (string_key key) object (by_ints entries) new h e = absurd (cc)
entered_found (int_key key) None without_keys new h e = subst (λ t. looked_up (int_key key) t ≡ Yields None) (yielded e) refl
entered_found (int_key key) (Some id) without_keys new h e =
    subst (λ t. looked_up (int_key key) t ≡ Yields (Some id)) (yielded e) (ap Yields (found_with int_cmp int_cmp_total key (Some id) [] tt))
entered_found (int_key key) object (by_ints entries) new h e =
    subst (λ t. looked_up (int_key key) t ≡ Yields object) (yielded e) (ap Yields (found_with int_cmp int_cmp_total key object entries h))
entered_found (int_key key) object (by_strings entries) new h e = absurd (cc)

apart_of : {K : Type 0} (order : K → K → Ordering) (a b : K) → is_eq (order a b) ≡ false → order a b ≢ Equal
apart_of order a b e q = true≢false (sym (ap is_eq q) ∙ e)

-- an entry of another kind of key would be a trap
others_stay : OthersStay
unfolding entered looked_up
others_stay (string_key key) other None found without_keys new h apart e l = subst (λ t. looked_up other t ≡ Yields found) (sym (yielded e)) l
others_stay (string_key key) (string_key other) (Some id) found without_keys new h apart e l =
    ap Yields (sym (other_with order_of nat_list_cmp_total key other (Some id) [] tt (apart_of order_of other key apart))) ∙ subst (λ t. looked_up (string_key other) t ≡ Yields found) (sym (yielded e)) l
others_stay (string_key key) (int_key other) (Some id) found without_keys new h apart e l =
    let bad : looked_up (int_key other) (by_strings (with_under order_of key (Some id) [])) ≡ Yields found = subst (λ t. looked_up (int_key other) t ≡ Yields found) (sym (yielded e)) l in absurd (cc)
others_stay (string_key key) (string_key other) object found (by_strings entries) new h apart e l =
    ap Yields (sym (other_with order_of nat_list_cmp_total key other object entries h (apart_of order_of other key apart))) ∙ subst (λ t. looked_up (string_key other) t ≡ Yields found) (sym (yielded e)) l
others_stay (string_key key) (int_key other) object found (by_strings entries) new h apart e l =
    let bad : looked_up (int_key other) (by_strings (with_under order_of key object entries)) ≡ Yields found = subst (λ t. looked_up (int_key other) t ≡ Yields found) (sym (yielded e)) l in absurd (cc)
others_stay (string_key key) other object found (by_ints entries) new h apart e l = absurd (cc)
others_stay (int_key key) other None found without_keys new h apart e l = subst (λ t. looked_up other t ≡ Yields found) (sym (yielded e)) l
others_stay (int_key key) (int_key other) (Some id) found without_keys new h apart e l =
    ap Yields (sym (other_with int_cmp int_cmp_total key other (Some id) [] tt (apart_of int_cmp other key apart))) ∙ subst (λ t. looked_up (int_key other) t ≡ Yields found) (sym (yielded e)) l
others_stay (int_key key) (string_key other) (Some id) found without_keys new h apart e l =
    let bad : looked_up (string_key other) (by_ints (with_under int_cmp key (Some id) [])) ≡ Yields found = subst (λ t. looked_up (string_key other) t ≡ Yields found) (sym (yielded e)) l in absurd (cc)
others_stay (int_key key) (int_key other) object found (by_ints entries) new h apart e l =
    ap Yields (sym (other_with int_cmp int_cmp_total key other object entries h (apart_of int_cmp other key apart))) ∙ subst (λ t. looked_up (int_key other) t ≡ Yields found) (sym (yielded e)) l
others_stay (int_key key) (string_key other) object found (by_ints entries) new h apart e l =
    let bad : looked_up (string_key other) (by_ints (with_under int_cmp key object entries)) ≡ Yields found = subst (λ t. looked_up (string_key other) t ≡ Yields found) (sym (yielded e)) l in absurd (cc)
others_stay (int_key key) other object found (by_strings entries) new h apart e l = absurd (cc)

keys_stay : KeysStayInOrder
unfolding entered
keys_stay (string_key key) None without_keys new h e = subst IsInKeyOrder (yielded e) tt
keys_stay (string_key key) (Some id) without_keys new h e = subst IsInKeyOrder (yielded e) (with_under_rising order_of nat_list_cmp_total key (Some id) [] tt)
keys_stay (string_key key) object (by_strings entries) new h e = subst IsInKeyOrder (yielded e) (with_under_rising order_of nat_list_cmp_total key object entries h)
keys_stay (string_key key) object (by_ints entries) new h e = absurd (cc)
keys_stay (int_key key) None without_keys new h e = subst IsInKeyOrder (yielded e) tt
keys_stay (int_key key) (Some id) without_keys new h e = subst IsInKeyOrder (yielded e) (with_under_rising int_cmp int_cmp_total key (Some id) [] tt)
keys_stay (int_key key) object (by_ints entries) new h e = subst IsInKeyOrder (yielded e) (with_under_rising int_cmp int_cmp_total key object entries h)
keys_stay (int_key key) object (by_strings entries) new h e = absurd (cc)

kinds_stay : KindsStay
unfolding entered
kinds_stay key object without_keys new e = tt
kinds_stay (string_key key) object (by_strings entries) new e = (with_under order_of key object entries, sym (yielded e))
kinds_stay (int_key key) object (by_strings entries) new e = absurd (cc)
kinds_stay (int_key key) object (by_ints entries) new e = (with_under int_cmp key object entries, sym (yielded e))
kinds_stay (string_key key) object (by_ints entries) new e = absurd (cc)

pub finite_maps : AreFiniteMaps
finite_maps = record {
  found = entered_found;
  others = others_stay;
  order = keys_stay;
  kinds = kinds_stay;
  next = (λ last entries h. next_is_least order_of nat_list_cmp_total last entries h, λ last entries h. next_is_least int_cmp int_cmp_total last entries h);
}
