-- A scan goes on with what was found in a table.
use Rattle.std.proofs.Common.{◌≡◌, ◌≢◌, ℕ, ◌+◌, ◌<◌, ℤ, Bool, true, false, List, [], ◌∷◌, Option, Some, None, refl, sym, ap, ◌∙◌, subst, arith}
use Rattle.std.specs.Option.{option_map}
use Rattle.std.specs.Prelude.{Result, Ok, Err, if◌then◌else◌, pos, slice_index_or}
use Rattle.ps_base.specs.declared.trap.Trap.{Trap}
use Rattle.ps_base.specs.declared.trap.Trap.TheVariants.{Overflow}
use Rattle.machine_core.specs.ps_outside.Outside.{Outside}
use Rattle.machine_core.specs.obj_layout.Stored.{Space}
use Rattle.machine_core.specs.obj_layout.declared.reference.Reference.{Reference}
use Rattle.machine_core.specs.swizzle.Heap as area
use Rattle.machine_core.specs.swizzle.Reading.{LeavesOutside}
use Rattle.machine_core.specs.swizzle.Touch.{Keeps}
use Rattle.machine_core.specs.swizzle.declared.fault.SwizzleFault.{SwizzleFault}
use Rattle.machine_core.specs.heap_texts.declared.fault.OpFault.{OpFault}
use Rattle.machine_core.specs.heap_texts.declared.fault.OpFault.TheVariants as op
use Rattle.machine_core.specs.ps_heap.Calls.{then_try}
use Rattle.machine_core.specs.ps_heap.Ends.{Trapped}
use Rattle.machine_core.specs.ps_heap.Held.{touching}
use Rattle.machine_core.specs.ps_heap.Objects.{Heap, table_of}
use Rattle.machine_core.specs.ps_heap.Operators.{is_same}
use Rattle.machine_core.specs.ps_heap.Scans.{Found, found_of, last_string, most_scan_calls, next_in_table, next_key, shown_key}
use Rattle.machine_core.specs.ps_heap.Tables.{Key, Entry, Table, without_keys, by_ints, by_strings, next_string, on_yield, seek, string_key}
use Rattle.machine_core.specs.ps_heap.Texts.{Attempt, Yields, Fails, order_of}
use Rattle.joint_tables.specs.table_lib.table_nodes.avl_trees.Rising.{above, pick}
use Rattle.machine_core.specs.ps_heap.Values.{Value, Text, is_one}
use Rattle.machine_core.specs.ps_stepping.Config.{Config}
use Rattle.machine_core.specs.ps_stepping.Steps.{Step, Stops, Stuck, attempted, on, with_num}
use Rattle.machine_core.specs.ps_stepping.Objects.{having}
use Rattle.machine_core.specs.ps_stepping.Jumps.{back, forward}
use Rattle.machine_core.specs.ps_stepping.Scans.{last_of, one_more, scan_on, touched_now}
use Rattle.machine_core.specs.joint_ops.World.{DenotesIn, IsWorld, Stands, Answers}
use Rattle.machine_core.specs.declared.machine.Machine.{Machine}
use Rattle.machine_core.specs.declared.run_end.RunEnd.TheVariants as in_code
use Rattle.machine_core.specs.declared.stepped.Stepped.{Stepped}
use Rattle.machine_core.specs.declared.stepped.Stepped.TheVariants.{Halts, Breaks}
use Rattle.machine_core.specs.Holding.{HeldBy, Holds, IsSound, words_of, world_in}
use Rattle.machine_core.specs.Naming.{NamesObjects}
use Rattle.machine_core.specs.Stepped.{Does, Takes, UnlessBroken, end_of, ended}
use Rattle.machine_core.specs.inside.Taking.{Becomes, Leaves}
use Rattle.machine_core.proofs.Popping.{num_slot}
use Rattle.machine_core.proofs.Carrying.{does-behind, read-holds, touched-held}
use Rattle.machine_operands.specs.Giving.{BreaksWith}
use Rattle.machine_operands.proofs.Breaking.{trap-does}
use Rattle.machine_operands.proofs.Reading.{names-kept}
use Rattle.joint_tables.specs.Tables.{AreFoundInt, AreFoundText, IsLastText, last_int_key}
use Rattle.machine_tables.specs.declared.scan.Scan.{Scan}
use Rattle.machine_tables.specs.inside.Operands.{Follows, IsTable}
use Rattle.machine_tables.specs.inside.Scanning.{AreTableAndInt, AreTableAndText, ReadsTable, IsFoundInt, IsFoundText, after_empty, call_counted, goes_after, goes_after_key, goes_on_with, hands_over}
use Rattle.machine_tables.proofs.Lasts.{num-local}
use Rattle.machine_tables.proofs.Parts.{does-as}

-- what is so of a machine with another answer
so-of : (r s : Stepped) (P : Type 0) → r ≡ s → UnlessBroken s P → UnlessBroken r P
so-of r s P is p = subst (λ (x : Stepped). UnlessBroken x P) (sym is) p

-- After the next key was looked for.
module _ (strings : Bool) (scan : Scan) (before after : Outside Space) (m new : Machine) (now : area.Heap) (r : Stepped) (n : NamesObjects m)
    (left : LeavesOutside before after) (keeps : Keeps m.objects now) {T : Type 0} (are : List Reference → T → Option Found → Type 0)
    {A : Type 0} (denotes : List Reference → A → Type 0) (table : A → Value) (key : A → Option Key) where
  abbrev over : Machine
  over = record m { objects = now }

  abbrev of : A → Config → Step
  of a c = goes_after strings scan (key a) (table a) c

  abbrev pub Next : Result T OpFault → Type 0
  Next got = (heap : Heap) (names : List Reference) (a : A) → IsWorld m.objects before heap names → denotes names a
      → Answers m.objects now before after (are names) heap names (next_key strings heap (table a) (key a)) got

  same-size : (P : ℕ → Type 0) → P now.size → P m.objects.size
  same-size P p = subst P keeps.size p

  pub scan-found : (found : T) → Next (Ok found) → Follows after after (λ names f. are names found f) (goes_on_with strings scan) over new r
      → Follows before after denotes of m new r
  scan-found found next f = record {
    sound = f.sound;
    names = f.names;
    size = same-size (λ (size : ℕ). UnlessBroken r (new.objects.size ≡ size)) f.size;
    does = λ names c a h d.
        let got = next c.store.held.objects names a (world_in h.run) d in
        does-behind before after after m.objects.size now.size (of a c) r new left keeps.size
        (does-as after after now.size (of a c) (goes_on_with strings scan got.0 c) r new
        (ap (λ (x : Attempt (Option Found)). attempted scan.line x (λ f. goes_on_with strings scan f c)) got.1)
        (f.does names c got.0 (read-holds m.objects now before after names (words_of m) c h got.3) got.2));
  }

  pub scan-trapped : (t : Trap) → Next (Err (op.Trap t)) → IsSound new → r ≡ Halts → new ≡ ended (in_code.Trapped t scan.line) over
      → Follows before after denotes of m new r
  scan-trapped t next sound answer is = record {
    sound = sound;
    names =
        subst (λ (x : Machine). UnlessBroken r (NamesObjects x)) (sym is)
        (so-of r Halts (NamesObjects (ended (in_code.Trapped t scan.line) over)) answer (names-kept m now keeps n));
    size =
        subst (λ (x : Machine). UnlessBroken r (x.objects.size ≡ m.objects.size)) (sym is) (so-of r Halts (now.size ≡ m.objects.size) answer keeps.size);
    does = λ names c a h d.
        trap-does over new r before after scan.line m.objects.size t (next_key strings c.store.held.objects (table a) (key a))
        (λ f. goes_on_with strings scan f c) answer is (next c.store.held.objects names a (world_in h.run) d).0;
  }

  pub scan-broken : (fault : SwizzleFault) → Next (Err (op.Swizzle fault)) → r ≡ Breaks → BreaksWith before after over new r fault
      → Follows before after denotes of m new r
  scan-broken fault next answer broke = record {
    sound = broke.sound;
    names = so-of r Breaks (NamesObjects new) answer tt;
    size = so-of r Breaks (new.objects.size ≡ m.objects.size) answer tt;
    does = λ names c a h d. broke.off m.objects (of a c) (next c.store.held.objects names a (world_in h.run) d);
  }

-- The least string above the empty one is the least of all, unless that is the empty one.
abbrev pub AreAfterEmpty : Attempt (Option Found) → Attempt (Option Found) → Type 0
AreAfterEmpty (Fails t) after = after ≡ Fails t
AreAfterEmpty (Yields None) after = after ≡ Yields None
AreAfterEmpty (Yields (Some found)) after = (bytes : List ℕ) → shown_key found.key ≡ Text bytes → bytes ≢ [] → after ≡ Yields (Some found)

after-empty-in : (t : Table) → AreAfterEmpty (next_in_table true None t) (next_in_table true (Some (string_key [])) t)
unfolding next_string
after-empty-in without_keys = refl
after-empty-in (by_strings []) = refl
after-empty-in (by_strings (e ∷ entries)) = of e.key refl
  where
    of : (key : List ℕ) → e.key ≡ key → AreAfterEmpty (next_in_table true None (by_strings (e ∷ entries))) (next_in_table true (Some (string_key [])) (by_strings (e ∷ entries)))
    of [] is bytes shown other = absurd (other (let same : Text e.key ≡ Text bytes = shown in let k : e.key ≡ bytes = cc in sym k ∙ is))
    of (b ∷ bs) is bytes shown other =
        ap (λ (k : List ℕ). Yields (option_map (found_of string_key) (pick (order_of [] k) (Some e) (above (seek order_of []) entries) (above (seek order_of []) entries)))) is
after-empty-in (by_ints entries) = refl

pub after-the-empty : (heap : Heap) (v : Value) → AreAfterEmpty (next_key true heap v None) (next_key true heap v (Some (string_key [])))
unfolding next_key
after-the-empty heap v = of (table_of heap v)
  where
    of : (t : Attempt Table) → AreAfterEmpty (then_try t (next_in_table true None)) (then_try t (next_in_table true (Some (string_key []))))
    of (Yields t) = after-empty-in t
    of (Fails trap) = refl

-- what is found among strings is a string
abbrev IsStringFound : Attempt (Option Found) → Type 0
IsStringFound (Yields (Some found)) = (bytes : List ℕ) × (shown_key found.key ≡ Text bytes)
IsStringFound (Yields None) = Unit {0}
IsStringFound (Fails t) = Unit {0}

found-string : (heap : Heap) (v : Value) (key : Option Key) → IsStringFound (next_key true heap v key)
unfolding next_key
found-string heap v key = of (table_of heap v)
  where
    in-entries : (a : Attempt (Option (Entry (List ℕ)))) → IsStringFound (on_yield a (option_map (found_of string_key)))
    in-entries (Yields None) = tt
    in-entries (Yields (Some entry)) = (entry.key, refl)
    in-entries (Fails trap) = tt

    of : (t : Attempt Table) → IsStringFound (then_try t (next_in_table true key))
    of (Yields t) = in-entries (next_string (last_string key) t)
    of (Fails trap) = tt

string-shown : (heap : Heap) (v : Value) (key : Option Key) (found : Found) → next_key true heap v key ≡ Yields (Some found)
    → (bytes : List ℕ) × (shown_key found.key ≡ Text bytes)
string-shown heap v key found is = subst IsStringFound is (found-string heap v key)

-- What goes on with a pair that was found.
module _ (strings : Bool) (scan : Scan) (out : Outside Space) (m new : Machine) (r : Stepped) (denotes : List Reference → Found → Type 0) where
  abbrev IsFull : Bool → Type 0
  IsFull b = (names : List Reference) (c : Config) → HeldBy out names m c → is_same (c.locals.nums scan.nums) (pos most_scan_calls) ≡ b

  abbrev with-pair : Found → Config → Step
  with-pair found c = goes_on_with strings scan (Some found) c

  abbrev touched-by : Found → Config → Config
  touched-by found c = having (touching (found.object ∷ [])) c

  -- it would be one too many
  pub scan-full : IsFull true → NamesObjects m → IsSound new → r ≡ Halts → new ≡ ended (in_code.Trapped Overflow scan.line) m
      → Follows out out denotes with-pair m new r
  scan-full full n sound answer is = record {
    sound = sound;
    names =
        subst (λ (x : Machine). UnlessBroken r (NamesObjects x)) (sym is)
        (so-of r Halts (NamesObjects (ended (in_code.Trapped Overflow scan.line) m)) answer (over-end n));
    size =
        subst (λ (x : Machine). UnlessBroken r (x.objects.size ≡ m.objects.size)) (sym is) (so-of r Halts (m.objects.size ≡ m.objects.size) answer refl);
    does = λ names c found h d.
        subst (λ (x : Stepped). Does out out m.objects.size (with-pair found c) x new) (sym answer) (
          touched_now (found.object ∷ []) c.store.held,
          subst (λ (x : Machine). with-pair found c ≡ Stops (end_of x.end) (touched_now (found.object ∷ []) c.store.held)) (sym is)
              (ap (λ (b : Bool). if b then Stops (Trapped Overflow scan.line) (touched_now (found.object ∷ []) c.store.held)
              else hands_over strings scan found (touched-by found c)) (full names c h)),
        );
  }
    where
      over-end : NamesObjects m → NamesObjects (ended (in_code.Trapped Overflow scan.line) m)
      over-end n = n

  pub scan-hands : IsFull false → Follows out out denotes (hands_over strings scan) m new r → Follows out out denotes with-pair m new r
  scan-hands full f = record {
    sound = f.sound;
    names = f.names;
    size = f.size;
    does = λ names c found h d.
        does-as out out m.objects.size (with-pair found c) (hands_over strings scan found (touched-by found c)) r new
        (ap (λ (b : Bool). if b then Stops (Trapped Overflow scan.line) (touched_now (found.object ∷ []) c.store.held)
        else hands_over strings scan found (touched-by found c)) (full names c h))
        (f.does names (touched-by found c) found (touched-held m.objects out names (words_of m) c (found.object ∷ []) h) d);
  }

-- What goes on with a pair or without one.
module _ (scan : Scan) (out : Outside Space) (m new : Machine) (r : Stepped) where
  pub string-or-none : (key object : ℕ) → Follows out out (IsFoundText m.objects out key object) (λ found. goes_on_with true scan (Some found)) m new r
      → Follows out out (λ names f. AreFoundText m.objects out names (Some (key, object)) f) (goes_on_with true scan) m new r
  string-or-none key object f = record { sound = f.sound; names = f.names; size = f.size; does = by }
    where
      by : (names : List Reference) (c : Config) (a : Option Found) → HeldBy out names m c → AreFoundText m.objects out names (Some (key, object)) a
          → Does out out m.objects.size (goes_on_with true scan a c) r new
      by names c None h are = absurd are
      by names c (Some found) h are = f.does names c found h (record { is = are })

  pub int-or-none : (key : ℤ) (object : ℕ) → Follows out out (IsFoundInt m.objects out key object) (λ found. goes_on_with false scan (Some found)) m new r
      → Follows out out (λ names f. AreFoundInt m.objects out names (Some (key, object)) f) (goes_on_with false scan) m new r
  int-or-none key object f = record { sound = f.sound; names = f.names; size = f.size; does = by }
    where
      by : (names : List Reference) (c : Config) (a : Option Found) → HeldBy out names m c → AreFoundInt m.objects out names (Some (key, object)) a
          → Does out out m.objects.size (goes_on_with false scan a c) r new
      by names c None h are = absurd are
      by names c (Some found) h are = f.does names c found h (record { is = are })

  module _ (n : NamesObjects m) (t : Takes out out (forward scan.own scan.end) m new r) where
    pub no-string : Follows out out (λ names f. AreFoundText m.objects out names None f) (goes_on_with true scan) m new r
    no-string = record { sound = t.sound; names = t.names n; size = t.size; does = by }
      where
        by : (names : List Reference) (c : Config) (a : Option Found) → HeldBy out names m c → AreFoundText m.objects out names None a
            → Does out out m.objects.size (goes_on_with true scan a c) r new
        by names c None h are = t.does c (record { names = names; held = h })
        by names c (Some found) h are = absurd are

    pub no-int : Follows out out (λ names f. AreFoundInt m.objects out names None f) (goes_on_with false scan) m new r
    no-int = record { sound = t.sound; names = t.names n; size = t.size; does = by }
      where
        by : (names : List Reference) (c : Config) (a : Option Found) → HeldBy out names m c → AreFoundInt m.objects out names None a
            → Does out out m.objects.size (goes_on_with false scan a c) r new
        by names c None h are = t.does c (record { names = names; held = h })
        by names c (Some found) h are = absurd are

-- What is above the empty string, by what is the least of all.
module _ (before after : Outside Space) (m : Machine) (now : area.Heap) (heap : Heap) (names : List Reference) (v : Value) where
  abbrev Said : Option Key → Result (Option (ℕ × ℕ)) OpFault → Type 0
  Said key got = Answers m.objects now before after (AreFoundText now after names) heap names (next_key true heap v key) got

  -- there is no string
  pub above-none : Said None (Ok None) → Said (Some (string_key [])) (Ok None)
  above-none (None, is, are, stands) =
      (None, subst (λ (x : Attempt (Option Found)). AreAfterEmpty x (next_key true heap v (Some (string_key [])))) is (after-the-empty heap v), are, stands)
  above-none (Some found, is, are, stands) = absurd are

  -- the least string has bytes
  pub above-some : (key object : ℕ) → ((bytes : List ℕ) → DenotesIn now after names (Some key) (Text bytes) → bytes ≢ []) → Said None (Ok (Some (key, object)))
      → Said (Some (string_key [])) (Ok (Some (key, object)))
  above-some key object long (None, is, are, stands) = absurd are
  above-some key object long (Some found, is, are, stands) =
      let shown = string-shown heap v None found is in (
        Some found,
        subst (λ (x : Attempt (Option Found)). AreAfterEmpty x (next_key true heap v (Some (string_key [])))) is (after-the-empty heap v) shown.0 shown.1
            (long shown.0 (subst (λ (w : Value). DenotesIn now after names (Some key) w) shown.1 are.0)),
        are,
        stands,
      )

  pub above-trap : (t : Trap) → Said None (Err (op.Trap t)) → Said (Some (string_key [])) (Err (op.Trap t))
  above-trap t (is, stands) =
      (subst (λ (x : Attempt (Option Found)). AreAfterEmpty x (next_key true heap v (Some (string_key [])))) is (after-the-empty heap v), stands)

abbrev IsTold : area.Heap → area.Heap → Outside Space → Outside Space → ℕ → ℕ → List Reference → Config → Value → Type 0
IsTold here now before mid key object names c v =
    Answers here now before mid (AreFoundText now mid names) c.store.held.objects names (next_key true c.store.held.objects v None) (Ok (Some (key, object)))

-- The least string is the empty one: what is above it is looked for.
pub empty-follows : (scan : Scan) (before mid after : Outside Space) (m new : Machine) (now : area.Heap) (r : Stepped) (table : Option ℕ) (key object : ℕ)
    → LeavesOutside before mid → Keeps m.objects now
    → ((heap : Heap) (names : List Reference) (v : Value) → IsWorld m.objects before heap names → DenotesIn m.objects before names table v
    → Answers m.objects now before mid (AreFoundText now mid names) heap names (next_key true heap v None) (Ok (Some (key, object))))
    → ((names : List Reference) (bytes : List ℕ) → DenotesIn now mid names (Some key) (Text bytes) → bytes ≡ [])
    → Follows mid after (AreTableAndText now mid table (Some key)) (goes_after_key true scan) (record m { objects = now }) new r
    → Follows before after (IsTable m.objects before table) (after_empty scan) m new r
empty-follows scan before mid after m new now r table key object left keeps told empty f = record {
  sound = f.sound;
  names = f.names;
  size = subst (λ (size : ℕ). UnlessBroken r (new.objects.size ≡ size)) keeps.size f.size;
  does = λ names c v h d.
      let t = told c.store.held.objects names v (world_in h.run) d.table_is in
      does-behind before mid after m.objects.size now.size (after_empty scan v c) r new left keeps.size
      (f.does names c (record { table = v; key = Some (string_key []) })
      (read-holds m.objects now before mid names (words_of m) c h (stands names c v t))
      (record { table_is = (stands names c v t).carries.values table v d.table_is; key_is = key-is names c v t }));
}
  where
    stands : (names : List Reference) (c : Config) (v : Value) → IsTold m.objects now before mid key object names c v → Stands m.objects now before mid c.store.held.objects names
    stands names c v (found, is, are, s) = s

    key-is : (names : List Reference) (c : Config) (v : Value) → IsTold m.objects now before mid key object names c v → DenotesIn now mid names (Some key) (Text [])
    key-is names c v (None, is, are, s) = absurd are
    key-is names c v (Some found, is, are, s) =
        let shown = string-shown c.store.held.objects v None found is in
        let d : DenotesIn now mid names (Some key) (Text shown.0) = subst (λ (w : Value). DenotesIn now mid names (Some key) w) shown.1 are.0 in
        subst (λ (bytes : List ℕ). DenotesIn now mid names (Some key) (Text bytes)) (empty names shown.0 d) d

-- A call of the procedure is counted.
pub call-counts : (out : Outside Space) (m mid new : Machine) (r : Stepped) (own slot to : ℕ) (more z w : ℤ) (next : Config → Step) → Leaves m mid
    → slot + 2 < m.frame.nums → w ≡ slice_index_or m.nums.own slot w → z ≡ one_more w → Becomes out (λ c. with_num c slot z) m mid
    → ((d : Config) → (if is_one more then back own to d else on d) ≡ next d) → Takes out out next mid new r → Takes out out (call_counted own slot to more) m new r
call-counts out m mid new r own slot to more z w next left below read is set same t = record {
  sound = t.sound;
  names = λ n. t.names (left.names n);
  size = subst (λ (here : area.Heap). UnlessBroken r (new.objects.size ≡ here.size)) left.objects t.size;
  does = λ c h.
      let d = with_num c slot (one_more (c.locals.nums slot)) in
      let count = num-local out m h.names c h.held slot w (omega (arith, below)) read in
      does-as out out m.objects.size (call_counted own slot to more c) (next d) r new
      (ap (λ (b : Bool). if b then (if is_one more then back own to d else on d) else Stuck) (num_slot m out c h.names h.held (slot + 2) below) ∙ same d)
      (subst (λ (here : area.Heap). Does out out here.size (next d) r new) left.objects
      (t.does d (subst (λ (x : ℤ). Holds out mid (with_num c slot x)) (is ∙ ap one_more (sym count)) (set.holds c h))));
}

-- A scan, by its table and its last key.
module _ (before after : Outside Space) (m new : Machine) (r : Stepped) (scan : Scan) (table : Option ℕ) where
  abbrev Reads : Type 0
  Reads = (names : List Reference) (c : Config) → HeldBy before names m c → ReadsTable before m scan names c (Some table)

  abbrev Scanned : Bool → Config → Step
  Scanned strings c = scan_on strings scan.own scan.refs scan.nums scan.end scan.line c

  taken-of : {A : Type 0} (denotes : List Reference → A → Type 0) (of : A → Config → Step) (strings : Bool) → Follows before after denotes of m new r
      → ((names : List Reference) (c : Config) → HeldBy before names m c → (a : A) × denotes names a × (Scanned strings c ≡ of a c))
      → Takes before after (Scanned strings) m new r
  taken-of denotes of strings f go = record {
    sound = f.sound;
    names = λ n. f.names;
    size = f.size;
    does = λ c h.
        let x = go h.names c h.held in
        does-as before after m.objects.size (Scanned strings c) (of x.0 c) r new x.2 (f.does h.names c x.0 h.held x.1);
  }

  pub scanned : (key : Option ℕ) → Follows before after (AreTableAndText m.objects before table key) (goes_after_key true scan) m new r → Reads
      → ((names : List Reference) (c : Config) → HeldBy before names m c → IsLastText m.objects before names key (last_of true scan.refs scan.nums c))
      → Takes before after (Scanned true) m new r
  scanned key f reads is =
      taken-of (AreTableAndText m.objects before table key) (goes_after_key true scan) true f
      (λ names c h.
      let x = reads names c h in
      (record { table = x.0; key = last_of true scan.refs scan.nums c }, record { table_is = x.1; key_is = is names c h }, x.2 true))

  pub scanned-empty : Follows before after (IsTable m.objects before table) (after_empty scan) m new r → Reads
      → ((names : List Reference) (c : Config) → HeldBy before names m c → last_of true scan.refs scan.nums c ≡ Some (string_key []))
      → Takes before after (Scanned true) m new r
  scanned-empty f reads is =
      taken-of (IsTable m.objects before table) (after_empty scan) true f
      (λ names c h.
      let x = reads names c h in
      (x.0, record { table_is = x.1 }, x.2 true ∙ ap (λ (k : Option Key). goes_after true scan k x.0 c) (is names c h)))

  pub scanned-int : (key : Option ℤ) → Follows before after (AreTableAndInt m.objects before table key) (goes_after_key false scan) m new r → Reads
      → ((names : List Reference) (c : Config) → HeldBy before names m c → last_int_key key ≡ last_of false scan.refs scan.nums c)
      → Takes before after (Scanned false) m new r
  scanned-int key f reads is =
      taken-of (AreTableAndInt m.objects before table key) (goes_after_key false scan) false f
      (λ names c h.
      let x = reads names c h in
      (record { table = x.0; key = last_of false scan.refs scan.nums c }, record { table_is = x.1; key_is = is names c h }, x.2 false))
