-- What goes together weighs the same, and is touched for the first time together.
use Rattle.std.proofs.Common.{Bool, true, false, inl, inr, ◌≡◌, ℕ, ◌+◌, ◌*◌, ◌<◌, List, [], ◌∷◌, map, length, refl, sym, ap, ◌∙◌, subst, Option, Some, None, if◌then◌else◌, nat_eq}
use Rattle.std.specs.Prelude.{◌&&◌, not}
use Rattle.std.specs.Option.{option_map}
use Rattle.std.proofs.lemmas.Bool.{cases_Bool, eqb-true, eqb-false, eq-eqb, ne_eqb}
use Rattle.std.proofs.lemmas.List.{length-map}
use Rattle.reaching.specs.Reaching.{IsIn, is_in}
use Rattle.ps_heap.specs.Values.{Value, Num, Flag, Text, Nil, Pointer, Vector, Procedure, Nothing, Routine}
use Rattle.ps_heap.specs.Tables.{Key, string_key, int_key, Entry, without_keys, by_strings, by_ints}
use Rattle.ps_heap.specs.Objects.{Object, Structure, Elements, Scope, Keyed, Heap, object_at}
use Rattle.ps_heap.specs.References.{values_of}
use Rattle.ps_heap.specs.Weights.{text_weight, entry_weight, entries_weight, full_weight, value_weight, values_weight, whole_weight}
use Rattle.ps_heap.specs.Databases.{is_there}
use Rattle.ps_heap.specs.Held.{Held, home_at, weight_at, is_first_touch, touched_with, touched_after, touched_weight, touching}
use Rattle.database_meaning.specs.Same.{renamed_value, renamed_entry, renamed}
use Rattle.database_meaning.specs.SameRuns.{Pairing, AreAmong, AreHomesOf, AreIdsOf, IsSameHeld}
use Rattle.database_meaning.proofs.KeptLaws.{both-true, committed-is}
use Rattle.database_meaning.proofs.RenamedObjects.{places-renamed}

-- Weights.

value-weighs : (weigh : Routine → ℕ) (f : ℕ → ℕ) (v : Value) → value_weight weigh (renamed_value f v) ≡ value_weight weigh v
value-weighs weigh f (Num z) = refl
value-weighs weigh f (Flag b) = refl
value-weighs weigh f (Text bytes) = refl
value-weighs weigh f Nil = refl
value-weighs weigh f (Pointer id) = refl
value-weighs weigh f (Vector id) = refl
value-weighs weigh f (Procedure does scope) = refl
value-weighs weigh f Nothing = refl

values-weigh : (weigh : Routine → ℕ) (f : ℕ → ℕ) (vs : List Value) → values_weight weigh (map (renamed_value f) vs) ≡ values_weight weigh vs
values-weigh weigh f [] = refl
values-weigh weigh f (v ∷ vs) =
    ap (λ n. n + values_weight weigh (map (renamed_value f) vs)) (value-weighs weigh f v) ∙ ap (λ n. value_weight weigh v + n) (values-weigh weigh f vs)

entries-weigh : {K : Type 0} (key_of : K → Key) (f : ℕ → ℕ) (entries : List (Entry K)) → entries_weight key_of (map (renamed_entry f) entries) ≡ entries_weight key_of entries
entries-weigh key_of f [] = refl
entries-weigh key_of f (entry ∷ entries) = ap (λ n. entry_weight (key_of entry.key) + n) (entries-weigh key_of f entries)

full-weighs : (f : ℕ → ℕ) (o : Object) → full_weight (renamed f o) ≡ full_weight o
full-weighs f (Structure class fields) = ap (λ n. 48 + 8 * n + text_weight class) (length-map fields (renamed_value f))
full-weighs f (Elements ty low elements) = ap (λ n. 56 + 8 * n + text_weight ty) (length-map elements (renamed_value f))
full-weighs f (Scope text parent names) = ap (λ n. 56 + 8 * n + text_weight text) (length-map names (renamed_value f))
full-weighs f (Keyed without_keys) = refl
full-weighs f (Keyed (by_strings entries)) = ap (λ n. 64 + n) (entries-weigh string_key f entries)
full-weighs f (Keyed (by_ints entries)) = ap (λ n. 64 + n) (entries-weigh int_key f entries)

weighs : (weigh : Routine → ℕ) (f : ℕ → ℕ) (o : Object) → whole_weight weigh (renamed f o) ≡ whole_weight weigh o
weighs weigh f o =
    ap (λ n. n + values_weight weigh (values_of (renamed f o))) (full-weighs f o)
    ∙ ap (λ n. full_weight o + n) (ap (values_weight weigh) (places-renamed f o) ∙ values-weigh weigh f (values_of o))

at-weighs : (weigh : Routine → ℕ) (f : ℕ → ℕ) (o : Option Object) → weight_at weigh (option_map (renamed f) o) ≡ weight_at weigh o
at-weighs weigh f None = refl
at-weighs weigh f (Some o) = weighs weigh f o

-- What is touched is there.

touched-there : (heap : Heap) (homes : List (Option ℕ)) → AreHomesOf heap homes → (ids touched : List ℕ) → AreIdsOf heap touched → AreIdsOf heap (touched_after homes ids touched)
unfolding touched_after is_first_touch
touched-there heap homes homed [] touched low = low
touched-there heap homes homed (id ∷ ids) touched low = touched-there heap homes homed ids (touched_with homes id touched) (go (is_there (home_at homes id) && not (is_in id touched)) refl)
  where
    go : (b : Bool) → (is_there (home_at homes id) && not (is_in id touched)) ≡ b → AreIdsOf heap (if b then id ∷ touched else touched)
    go false e x l = low x l
    go true e x (inr l) = low x l
    go true e x (inl same) =
        let home = committed-is homes id (both-true (is_there (home_at homes id)) (not (is_in id touched)) e) in
        subst (λ k. k < length heap) (sym same) (homed id home.0 home.1)

-- Touching.

module _ {p : Pairing} {a b : Held} (s : IsSameHeld p a b) where
  -- two ids are one exactly where those that go with them are
  pub same-id : (x y : ℕ) → IsIn x p.ids → IsIn y p.ids → nat_eq (p.new x) (p.new y) ≡ nat_eq x y
  same-id x y l m =
      elim (cases_Bool (nat_eq x y)) [
        | inl one ↦ eq-eqb (p.new x) (p.new y) (ap p.new (eqb-true x y one)) ∙ sym one
        | inr apart ↦ ne_eqb (p.new x) (p.new y) (λ e. eqb-false x y apart (sym (s.objects.one x l) ∙ ap p.back e ∙ s.objects.one y m)) ∙ sym apart
      ]

  abbrev Both : List ℕ → List ℕ → Type 0
  Both touched others = (id : ℕ) → IsIn id p.ids → is_in (p.new id) others ≡ is_in id touched

  first-same : (touched others : List ℕ) → Both touched others → (id : ℕ) → IsIn id p.ids → is_first_touch b.homes (p.new id) others ≡ is_first_touch a.homes id touched
  unfolding is_first_touch
  first-same touched others both id l =
      ap (λ home. is_there home && not (is_in (p.new id) others)) (s.homes.same id l) ∙ ap (λ i. is_there (home_at a.homes id) && not i) (both id l)

  with-same : (touched others : List ℕ) → Both touched others → (x : ℕ) → IsIn x p.ids → Both (touched_with a.homes x touched) (touched_with b.homes (p.new x) others)
  unfolding is_in
  with-same touched others both x m id l =
      ap (λ f. is_in (p.new id) (if f then p.new x ∷ others else others)) (first-same touched others both x m) ∙ go (is_first_touch a.homes x touched)
    where
      go : (f : Bool) → is_in (p.new id) (if f then p.new x ∷ others else others) ≡ is_in id (if f then x ∷ touched else touched)
      go false = both id l
      go true = ap (λ e. if e then true else is_in (p.new id) others) (same-id id x l m) ∙ ap (λ i. if nat_eq id x then true else i) (both id l)

  after-same : (ids : List ℕ) → AreAmong ids p.ids → (touched others : List ℕ) → Both touched others → Both (touched_after a.homes ids touched) (touched_after b.homes (map p.new ids) others)
  unfolding touched_after
  after-same [] known touched others both id l = both id l
  after-same (x ∷ xs) known touched others both id l =
      after-same xs (λ y m. known y (inr m)) (touched_with a.homes x touched) (touched_with b.homes (p.new x) others) (with-same touched others both x (known x (inl refl))) id l

  weight-same : (id : ℕ) → IsIn id p.ids → weight_at b.weigh (object_at b.objects (p.new id)) ≡ weight_at a.weigh (object_at a.objects id)
  weight-same id l =
      ap (weight_at b.weigh) (s.objects.same id l) ∙ (at-weighs b.weigh p.new (object_at a.objects id) ∙ ap (λ w. weight_at w (object_at a.objects id)) s.weigh)

  weights-same : (ids : List ℕ) → AreAmong ids p.ids → (touched others : List ℕ) → Both touched others
      → touched_weight b.weigh b.objects b.homes (map p.new ids) others ≡ touched_weight a.weigh a.objects a.homes ids touched
  unfolding touched_weight
  weights-same [] known touched others both = refl
  weights-same (x ∷ xs) known touched others both =
      let here = known x (inl refl) in
      let rest = touched_weight b.weigh b.objects b.homes (map p.new xs) (touched_with b.homes (p.new x) others) in
      ap (λ f. (if f then weight_at b.weigh (object_at b.objects (p.new x)) else 0) + rest) (first-same touched others both x here)
      ∙ (ap (λ w. (if is_first_touch a.homes x touched then w else 0) + rest) (weight-same x here)
      ∙ ap (λ n. (if is_first_touch a.homes x touched then weight_at a.weigh (object_at a.objects x) else 0) + n)
      (weights-same xs (λ y m. known y (inr m)) (touched_with a.homes x touched) (touched_with b.homes (p.new x) others) (with-same touched others both x here)))

  pub touching-same : (ids : List ℕ) → AreAmong ids p.ids → IsSameHeld p (touching ids a) (touching (map p.new ids) b)
  touching-same ids known = record {
    objects = s.objects;
    homes = s.homes;
    directory = s.directory;
    openings = s.openings;
    created = s.created;
    assigned = s.assigned;
    touched = record {
      same = after-same ids known a.touched b.touched s.touched.same;
      first = touched-there a.objects a.homes s.homes.first ids a.touched s.touched.first;
      second = touched-there b.objects b.homes s.homes.second (map p.new ids) b.touched s.touched.second;
    };
    asked = s.asked;
    replies = s.replies;
    counted = ap (λ n. n + touched_weight b.weigh b.objects b.homes (map p.new ids) b.touched) s.counted
        ∙ ap (λ n. a.counted + n) (weights-same ids known a.touched b.touched s.touched.same);
    weigh = s.weigh;
  }
