-- What reading a table answers: the object under a key, and the next key.
use Rattle.std.proofs.Common.{◌≡◌, ◌≢◌, ℕ, ℤ, true, false, List, [], ◌∷◌, Option, Some, None, Result, Ok, Err, MatchResult, OnOk, refl, sym, ap, ◌∙◌, subst, inl, inr}
use Rattle.std.specs.Option.{option_map}
use Rattle.ps_base.specs.declared.trap.Trap.{Trap}
use Rattle.ps_base.specs.declared.trap.Trap.TheVariants as trap
use Rattle.joint_ops.specs.ps_outside.Outside.{Outside}
use Rattle.joint_ops.specs.obj_layout.Stored.{Space}
use Rattle.joint_ops.specs.obj_layout.declared.reference.Reference.{Reference}
use Rattle.joint_ops.specs.obj_layout.declared.reference.Reference.TheVariants as name
use Rattle.joint_ops.specs.swizzle.Heap as area
use Rattle.joint_ops.specs.swizzle.Heap.{IsHeap, IsHeld}
use Rattle.joint_ops.specs.swizzle.Joint.{name_at, shown_at}
use Rattle.joint_ops.specs.swizzle.Text.{text_at}
use Rattle.joint_ops.specs.swizzle.Changes.{IsKnown, Within}
use Rattle.joint_ops.specs.heap_texts.declared.fault.OpFault.{OpFault}
use Rattle.joint_ops.specs.heap_texts.declared.fault.OpFault.TheVariants as op
use Rattle.joint_ops.specs.ps_heap.Values.{Value, Num, Text, Pointer}
use Rattle.joint_ops.specs.ps_heap.Texts.{Attempt, Yields, Fails, order_of}
use Rattle.joint_ops.specs.ps_heap.Tables.{Entry, Table, without_keys, by_strings, by_ints, found_under, looked_up, next_int, next_of, next_string, string_key, int_key, Key}
use Rattle.joint_ops.specs.ps_heap.Scans.{found_of, last_string, next_in_table, next_key}
use Rattle.joint_ops.specs.ps_heap.Objects.{Heap, value_of_object}
use Rattle.joint_ops.specs.World.{IsWorld, DenotesIn, Answers, BreaksAsReading, Stands, seen}
use Rattle.joint_ops.specs.Seeing.{Gains}
use Rattle.joint_ops.specs.heap_ops.Outcomes.{UnlessFault}
use Rattle.joint_ops.proofs.GainLaws.{gains-stands}
use Rattle.joint_ops.specs.heap_meaning.Paired.{paired}
use Rattle.joint_ops.specs.heap_meaning.Standing.{IsPointed, StandsFor}
use Rattle.joint_ops.specs.heap_meaning.Tables.{ArePairs}
use Rattle.joint_ops.proofs.of_heap_meaning.StandingLaws.{stands-more}
use Rattle.joint_ops.proofs.SeenLaws.{seen-held, shown-bytes, text-denoted}
use Rattle.table_lib.specs.Operations.{FetchesUsed, IsOpFetchFault, LooksUp as LooksIn, Uses}
use Rattle.table_lib.specs.Nexts.{FindsPair, IsIntPair, IsPairOf, IsTextPair, after_key, string_of}
use Rattle.table_lib.specs.table_nodes.avl_trees.Rising.{above, find}
use Rattle.table_lib.specs.table_nodes.avl_trees.Trees.{Tree, items}
use Rattle.table_lib.specs.table_nodes.avl_trees.Standing.{Item, seek}
use Rattle.table_lib.specs.table_nodes.node_rows.Keys as keys
use Rattle.table_lib.specs.table_nodes.node_rows.Keys.{Keys, KeyOf, order_by}
use Rattle.table_lib.specs.table_nodes.node_rows.Nodes.{I}
use Rattle.table_lib.specs.table_nodes.Nodes as nodes
use Rattle.table_lib.specs.table_nodes.Fetching.{Arrives}
use Rattle.table_lib.specs.table_nodes.Searching.{AreSeen, IsObject, value_of}
use Rattle.table_lib.specs.table_nodes.Sought.{IsTextHeld}
use Rattle.table_lib.specs.table_nodes.Steps.{place}
use Rattle.joint_tables.specs.Tables.{AreFoundInt, AreFoundText, IsLastText, LooksUp, NextInt, NextText, last_int_key}
use Rattle.joint_tables.proofs.SeenLaws.{arrived-gains, breaks-off, grown-within, seen-nodes, stayed-gains}
use Rattle.joint_tables.proofs.OperandLaws.{HasTree, keyed, through}
use Rattle.joint_tables.proofs.PairLaws.{IsSame, above-pairs, find-pairs, first-pairs}

-- a key of the meaning
abbrev pub key_of : (ks : Keys) → KeyOf ks → Key
key_of keys.by_texts bytes = string_key bytes
key_of keys.by_ints z = int_key z

-- the values of a table's pairs are seen
pub values-seen : (ks : Keys) (here : area.Heap) (outside : Outside Space) (names : List Reference) (is : List (I ks)) (es : List (Entry (KeyOf ks)))
    → ArePairs (seen here outside) (paired names) is es
    → AreSeen ks here outside is
values-seen ks here outside names [] [] p = tt
values-seen ks here outside names (a ∷ is) (e ∷ es) p = (known (p.1.1), values-seen ks here outside names is es p.2)
  where
    known : IsPointed (seen here outside) a.entry.value → IsKnown (nodes.seen here outside) a.entry.value
    known k = elim k [
      | inl s ↦ record { it = s.it; is = seen-nodes here outside a.entry.value s.it s.there }
      | inr s ↦ record { it = s.it; is = seen-nodes here outside a.entry.value s.it s.there }
    ]
values-seen ks here outside names [] (e ∷ es) p = absurd p
values-seen ks here outside names (a ∷ is) [] p = absurd p

module _ (old new : area.Heap) (before after : Outside Space) (of : Heap) (names : List Reference) (h : IsHeap old) (w : IsWorld old before of names)
    (grows : nodes.Grows old new before after) where
  within : Within (seen old before) (seen new after)
  within = grown-within old new before after grows

  -- what was gained, unless there was a fault
  abbrev Gained : {T : Type 0} → Result T OpFault → Type 0
  Gained result = UnlessFault result (Gains old new before after)

  -- then area and vault stand for the same heap
  stood : Gains old new before after → Stands old new before after of names
  stood g = gains-stands old new before after of names g w

  trapped : {T : Type 0} (result : Result T OpFault) (t : Trap) → result ≡ Err (op.Trap t) → Gained result → Stands old new before after of names
  trapped result t e g = stood (subst (λ (r : Result _ OpFault). Gained r) e g)

  -- An answered reading gained what came, one that ended in a trap nothing.
  answered : {T : Type 0} (result : Result T OpFault) → ((t : Trap) → result ≡ Err (op.Trap t) → new ≡ old) → OnOk result (Arrives old new before)
      → Gained result
  answered (Ok x) stays came = arrived-gains old new before after h grows came
  answered (Err (op.Trap t)) stays came = stayed-gains old new before after h grows (stays t refl)
  answered (Err (op.Swizzle fault)) stays came = tt

  -- what the meaning answers doesn't matter to what is gained
  abbrev unanswered : Table → Attempt ℕ
  unanswered t = Fails trap.KeyKind

  -- So a reading of the table that a value denotes gained what came from the vault.
  pub read-gains : {T : Type 0} (ks : Keys) (unused : Result T OpFault → Type 0) (used : ℕ → Tree (I ks) → Result T OpFault → Type 0)
      (operand : Option ℕ) (v : Value) (result : Result T OpFault) → Uses ks (place old before) operand unused used result
      → FetchesUsed ks (place old before) new operand result → ((t : Trap) → result ≡ Err (op.Trap t) → new ≡ old)
      → DenotesIn old before names operand v → Gained result
  read-gains ks unused used operand v result u f stays d =
      through old before of names h w ks (λ r. OnOk r (Arrives old new before))
      (λ at t r. AreSeen ks old before (items t) → OnOk r (Arrives old new before)) operand v unanswered (λ attempt r. Gained r) result
      (record { nil = u.nil; class = u.class; other = u.other; unused_is = f.unused; used_is = f.used }) d
      (λ t e. stayed-gains old new before after h grows (stays t e))
      (λ at t e g unused none came. answered result stays came)
      (λ at t entries x e g came. answered result stays (came (values-seen ks old before names (items x.tree) entries x.pairs)))
      (λ other entries ne. refl)

  -- what stands for a value does so still
  later-value : (n : Reference) (v : Value) → StandsFor (seen old before) (paired names) n v → StandsFor (seen new after) (paired names) n v
  later-value n v s =
      stands-more (seen old before) (seen new after) (paired names) (paired names) n v (λ m it k j. within m it j)
      (λ m it j. record { it = it; there = within m it j; kind_is = refl }) (λ m id p. p) s

  found-denotes : {K : Type 0} (found : Option ℕ) (item : Option (Item Reference K Reference)) (entry : Option (Entry K))
      → IsObject new found (value_of item) → IsSame (seen old before) (paired names) item entry
      → DenotesIn new after names found (value_of_object (option_map (λ e. e.object) entry))
  found-denotes None None None o s = record { name = name.Nil; denotes = refl; stands = refl }
  found-denotes (Some at) (Some a) (Some e) o s =
      record { name = a.entry.value; denotes = o; stands = later-value a.entry.value (Pointer e.object) s.1 }
  found-denotes (Some at) None entry o s = absurd o
  found-denotes None (Some a) entry o s = absurd o
  found-denotes None None (Some e) o s = absurd s
  found-denotes (Some at) (Some a) None o s = absurd s

  -- a key was sought among the entries of its kind
  sought : (ks : Keys) (key : KeyOf ks) (entries : List (Entry (KeyOf ks))) (at : ℕ) (mine : List Reference)
      (x : HasTree ks old before names at entries mine) (result : Result (Option ℕ) OpFault)
      → BreaksAsReading before after result → Gained result
      → MatchResult result (λ found. IsObject new found (value_of (find (seek (order_by ks) key) (items x.tree))))
      (λ fault. AreSeen ks old before (items x.tree) → IsOpFetchFault old before fault)
      → Answers old new before after (λ to found. DenotesIn new after names to (value_of_object found)) of names (Yields (found_under (order_by ks) key entries)) result
  sought ks key entries at mine x (Ok found) fails g m =
      let same =
      find-pairs (seen old before) (paired names) (seek (order_by ks) key) (Rattle.joint_ops.specs.ps_heap.Tables.seek (order_by ks) key)
      (λ a e f. ap (order_by ks key) f) (items x.tree) entries x.pairs in
      (found_under (order_by ks) key entries, refl, found-denotes found _ _ m same, stood g)
  sought ks key entries at mine x (Err (op.Trap t)) fails g m = absurd (m (values-seen ks old before names (items x.tree) entries x.pairs))
  sought ks key entries at mine x (Err (op.Swizzle fault)) fails g m =
      breaks-off old new before after fault fails (m (values-seen ks old before names (items x.tree) entries x.pairs))

  pub looked-up : (ks : Keys) (key : KeyOf ks) (operand : Option ℕ) (v : Value) (result : Result (Option ℕ) OpFault)
      → BreaksAsReading before after result → Gained result
      → LooksIn ks (place old before) new operand key result → DenotesIn old before names operand v
      → LooksUp old new before after of names v (key_of ks key) result
  unfolding looked_up
  looked-up ks key operand v result fails gains looks d =
      through old before of names h w ks _ _ operand v (looked_up (key_of ks key))
      (λ attempt r. Answers old new before after (λ to found. DenotesIn new after names to (value_of_object found)) of names attempt r) result looks d
      (λ t e. (refl, trapped result t e gains))
      (λ at t e f unused none is. empty ks key result is gains)
      (λ at t entries x e f m. full ks key entries at _ x result fails gains m)
      (λ other entries ne. wrong ks key other entries ne)
    where
      empty : (ks : Keys) (key : KeyOf ks) (r : Result (Option ℕ) OpFault) → r ≡ Ok None → Gained r
          → Answers old new before after (λ to found. DenotesIn new after names to (value_of_object found)) of names (looked_up (key_of ks key) without_keys) r
      empty keys.by_texts key r is gains =
          subst (Answers old new before after (λ to found. DenotesIn new after names to (value_of_object found)) of names (Yields None)) (sym is)
          (None, refl, record { name = name.Nil; denotes = refl; stands = refl }, stood (subst (λ (x : Result (Option ℕ) OpFault). Gained x) is gains))
      empty keys.by_ints key r is gains =
          subst (Answers old new before after (λ to found. DenotesIn new after names to (value_of_object found)) of names (Yields None)) (sym is)
          (None, refl, record { name = name.Nil; denotes = refl; stands = refl }, stood (subst (λ (x : Result (Option ℕ) OpFault). Gained x) is gains))

      full : (ks : Keys) (key : KeyOf ks) (entries : List (Entry (KeyOf ks))) (at : ℕ) (mine : List Reference)
          (x : HasTree ks old before names at entries mine) (r : Result (Option ℕ) OpFault)
          → BreaksAsReading before after r → Gained r
          → MatchResult r (λ found. IsObject new found (value_of (find (seek (order_by ks) key) (items x.tree))))
          (λ fault. AreSeen ks old before (items x.tree) → IsOpFetchFault old before fault)
          → Answers old new before after (λ to found. DenotesIn new after names to (value_of_object found)) of names (looked_up (key_of ks key) (keyed ks entries)) r
      full keys.by_texts key entries at mine x r fails gains m = sought keys.by_texts key entries at mine x r fails gains m
      full keys.by_ints key entries at mine x r fails gains m = sought keys.by_ints key entries at mine x r fails gains m

      wrong : (ks : Keys) (key : KeyOf ks) (other : Keys) (entries : List (Entry (KeyOf other))) → other ≢ ks → looked_up (key_of ks key)
          (keyed other entries) ≡ Fails trap.KeyKind
      wrong keys.by_texts key keys.by_texts entries ne = absurd (ne refl)
      wrong keys.by_texts key keys.by_ints entries ne = refl
      wrong keys.by_ints key keys.by_texts entries ne = refl
      wrong keys.by_ints key keys.by_ints entries ne = absurd (ne refl)

  -- The next key.

  -- the pair of the least key above another, or of the least of all
  next-same : (ks : Keys) (last : Option (KeyOf ks)) (is : List (I ks)) (es : List (Entry (KeyOf ks))) → ArePairs (seen old before)
      (paired names) is es
      → IsSame (seen old before) (paired names) (above (after_key ks last) is) (next_of (order_by ks) last es)
  next-same ks None is es p = first-pairs (seen old before) (paired names) is es p
  next-same ks (Some key) is es p =
      above-pairs (seen old before) (paired names) (λ a. order_by ks key a.entry.key) (Rattle.joint_ops.specs.ps_heap.Tables.seek (order_by ks) key)
      (λ a e f. ap (order_by ks key) f) is es p

  object-denotes : (at : ℕ) (n : Reference) (id : ℕ) → IsHeld new at → name_at new at ≡ n → StandsFor (seen old before) (paired names) n (Pointer id)
      → DenotesIn new after names (Some at) (Pointer id)
  object-denotes at n id held e s = record { name = n; denotes = (held, e); stands = later-value n (Pointer id) s }

  text-denotes : (at : ℕ) (bytes : List ℕ) → IsTextHeld new at → text_at new at ≡ bytes → DenotesIn new after names (Some at) (Text bytes)
  text-denotes at bytes t e = record {
    name = name_at new at;
    denotes = (t.held, refl);
    stands = record { it = shown_at new at; there = seen-held new after at t.held; kind = t.kind; bytes_are = sym (shown-bytes new at t.kind) ∙ e };
  }

  texts-found : (found : Option (ℕ × ℕ)) (item : Option (I keys.by_texts)) (entry : Option (Entry (List ℕ))) → IsPairOf (IsTextPair new) found item
      → IsSame (seen old before) (paired names) item entry
      → AreFoundText new after names found (option_map (found_of string_key) entry)
  texts-found None None None o s = tt
  texts-found (Some pair) (Some a) (Some e) o s =
      (text-denotes (pair.0) e.key (o.0) (o.1 ∙ s.0), object-denotes (pair.1) a.entry.value e.object (o.2) (o.3) s.1)
  texts-found (Some pair) None entry o s = absurd o
  texts-found None (Some a) entry o s = absurd o
  texts-found None None (Some e) o s = absurd s
  texts-found (Some pair) (Some a) None o s = absurd s

  ints-found : (found : Option (ℤ × ℕ)) (item : Option (I keys.by_ints)) (entry : Option (Entry ℤ)) → IsPairOf (IsIntPair new) found item
      → IsSame (seen old before) (paired names) item entry
      → AreFoundInt new after names found (option_map (found_of int_key) entry)
  ints-found None None None o s = tt
  ints-found (Some pair) (Some a) (Some e) o s =
      (ap (λ (z : ℤ). Num z) (sym s.0 ∙ sym o.0), object-denotes (pair.1) a.entry.value e.object (o.1) (o.2) s.1)
  ints-found (Some pair) None entry o s = absurd o
  ints-found None (Some a) entry o s = absurd o
  ints-found None None (Some e) o s = absurd s
  ints-found (Some pair) (Some a) None o s = absurd s

  module _ {P F : Type 0} (ks : Keys) (is : P → I ks → Type 0) (are : Option P → Option F → Type 0) (as_found : Entry (KeyOf ks) → F)
      (founds : (found : Option P) (item : Option (I ks)) (entry : Option (Entry (KeyOf ks))) → IsPairOf is found item → IsSame (seen old before)
      (paired names) item entry → are found (option_map as_found entry)) where
    next-found : (last : Option (KeyOf ks)) (entries : List (Entry (KeyOf ks))) (at : ℕ) (mine : List Reference)
        (x : HasTree ks old before names at entries mine) (r : Result (Option P) OpFault)
        → BreaksAsReading before after r → Gained r
        → MatchResult r (λ found. IsPairOf is found (above (after_key ks last) (items x.tree)))
        (λ fault. AreSeen ks old before (items x.tree) → IsOpFetchFault old before fault)
        → Answers old new before after are of names (Yields (option_map as_found (next_of (order_by ks) last entries))) r
    next-found last entries at mine x (Ok found) fails g m =
        (option_map as_found (next_of (order_by ks) last entries), refl, founds found _ _ m (next-same ks last (items x.tree) entries x.pairs), stood g)
    next-found last entries at mine x (Err (op.Trap t)) fails g m = absurd (m (values-seen ks old before names (items x.tree) entries x.pairs))
    next-found last entries at mine x (Err (op.Swizzle fault)) fails g m =
        breaks-off old new before after fault fails (m (values-seen ks old before names (items x.tree) entries x.pairs))

    next-none : (r : Result (Option P) OpFault) → r ≡ Ok None → Gained r → are None None → Answers old new before after are of names (Yields None) r
    next-none r e gains none =
        subst (Answers old new before after are of names (Yields None)) (sym e)
        (None, refl, none, stood (subst (λ (x : Result (Option P) OpFault). Gained x) e gains))

  -- the last key, by its operand
  pub last-text : (operand : Option ℕ) (last : Option Key) → IsLastText old before names operand last → string_of old operand ≡ last_string last
  last-text None None l = refl
  last-text (Some at) (Some (string_key bytes)) l = ap (λ (t : List ℕ). Some t) (text-denoted old before names at bytes h l).bytes_are
  last-text None (Some key) l = absurd l
  last-text (Some at) None l = absurd l
  last-text (Some at) (Some (int_key z)) l = absurd l

  pub next-texts : (last : Option Key) (text : Option (List ℕ)) (operand : Option ℕ) (v : Value) (result : Result (Option (ℕ × ℕ)) OpFault)
      → BreaksAsReading before after result → Gained result → text ≡ last_string last
      → FindsPair keys.by_texts (IsTextPair new) (place old before) operand text result → DenotesIn old before names operand v
      → NextText old new before after of names v last result
  unfolding next_key next_string
  next-texts last text operand v result fails gains same finds d =
      through old before of names h w keys.by_texts _ _ operand v (next_in_table true last)
      (λ attempt r. Answers old new before after (AreFoundText new after names) of names attempt r) result
      (subst (λ (l : Option (List ℕ)). FindsPair keys.by_texts (IsTextPair new) (place old before) operand l result) same finds) d
      (λ t e. (refl, trapped result t e gains))
      (λ at t e f unused none is. empty result is gains)
      (λ at t entries x e f m. full entries at _ x result fails gains m)
      (λ other entries ne. wrong other entries ne)
    where
      empty : (r : Result (Option (ℕ × ℕ)) OpFault) → r ≡ Ok None → Gained r
          → Answers old new before after (AreFoundText new after names) of names (next_in_table true last without_keys) r
      empty r is gains = nothing (last_string last)
        where
          nothing : (l : Option (List ℕ))
              → Answers old new before after (AreFoundText new after names) of names (Yields (option_map (found_of string_key) (next_of order_of l []))) r
          nothing None = next-none keys.by_texts (IsTextPair new) (AreFoundText new after names) (found_of string_key) texts-found r is gains tt
          nothing (Some key) = next-none keys.by_texts (IsTextPair new) (AreFoundText new after names) (found_of string_key) texts-found r is gains tt

      full : (entries : List (Entry (List ℕ))) (at : ℕ) (mine : List Reference) (x : HasTree keys.by_texts old before names at entries mine)
          (r : Result (Option (ℕ × ℕ)) OpFault) → BreaksAsReading before after r → Gained r
          → MatchResult r (λ found. IsPairOf (IsTextPair new) found (above (after_key keys.by_texts (last_string last)) (items x.tree)))
          (λ fault. AreSeen keys.by_texts old before (items x.tree) → IsOpFetchFault old before fault)
          → Answers old new before after (AreFoundText new after names) of names (next_in_table true last (by_strings entries)) r
      full entries at mine x r fails gains m =
          next-found keys.by_texts (IsTextPair new) (AreFoundText new after names) (found_of string_key) texts-found
          (last_string last) entries at mine x r fails gains m

      wrong : (other : Keys) (entries : List (Entry (KeyOf other))) → other ≢ keys.by_texts
          → next_in_table true last (keyed other entries) ≡ Fails trap.KeyKind
      wrong keys.by_texts entries ne = absurd (ne refl)
      wrong keys.by_ints entries ne = refl

  pub next-ints : (last : Option ℤ) (operand : Option ℕ) (v : Value) (result : Result (Option (ℤ × ℕ)) OpFault) → BreaksAsReading before after result → Gained result
      → FindsPair keys.by_ints (IsIntPair new) (place old before) operand last result → DenotesIn old before names operand v
      → NextInt old new before after of names v (last_int_key last) result
  unfolding next_key next_int
  next-ints last operand v result fails gains finds d =
      through old before of names h w keys.by_ints _ _ operand v (next_in_table false (last_int_key last))
      (λ attempt r. Answers old new before after (AreFoundInt new after names) of names attempt r) result
      finds d
      (λ t e. (refl, trapped result t e gains))
      (λ at t e f unused none is. empty last result is gains)
      (λ at t entries x e f m. full last entries at _ x result fails gains m)
      (λ other entries ne. wrong last other entries ne)
    where
      empty : (l : Option ℤ) (r : Result (Option (ℤ × ℕ)) OpFault) → r ≡ Ok None → Gained r
          → Answers old new before after (AreFoundInt new after names) of names (next_in_table false (last_int_key l) without_keys) r
      empty None r is gains = next-none keys.by_ints (IsIntPair new) (AreFoundInt new after names) (found_of int_key) ints-found r is gains tt
      empty (Some z) r is gains = next-none keys.by_ints (IsIntPair new) (AreFoundInt new after names) (found_of int_key) ints-found r is gains tt

      full : (l : Option ℤ) (entries : List (Entry ℤ)) (at : ℕ) (mine : List Reference) (x : HasTree keys.by_ints old before names at entries mine)
          (r : Result (Option (ℤ × ℕ)) OpFault) → BreaksAsReading before after r → Gained r
          → MatchResult r (λ found. IsPairOf (IsIntPair new) found (above (after_key keys.by_ints l) (items x.tree)))
          (λ fault. AreSeen keys.by_ints old before (items x.tree) → IsOpFetchFault old before fault)
          → Answers old new before after (AreFoundInt new after names) of names (next_in_table false (last_int_key l) (by_ints entries)) r
      full None entries at mine x r fails gains m =
          next-found keys.by_ints (IsIntPair new) (AreFoundInt new after names) (found_of int_key) ints-found None entries at mine x r fails gains m
      full (Some z) entries at mine x r fails gains m =
          next-found keys.by_ints (IsIntPair new) (AreFoundInt new after names) (found_of int_key) ints-found (Some z) entries at mine x r fails gains m

      wrong : (l : Option ℤ) (other : Keys) (entries : List (Entry (KeyOf other))) → other ≢ keys.by_ints → next_in_table false (last_int_key l)
          (keyed other entries) ≡ Fails trap.KeyKind
      wrong l keys.by_ints entries ne = absurd (ne refl)
      wrong l keys.by_texts entries ne = refl
