-- The calls of the library leave what a run holds as the laws of commits ask for.
use Rattle.std.proofs.Common.{Bool, true, false, inl, inr, ◌⊎◌, ◌≡◌, ℕ, suc, ◌<◌, List, [], ◌∷◌, ◌++◌, length, refl, sym, ap, ◌∙◌, subst, Option, Some, None, if◌then◌else◌, nat_eq, set}
use Rattle.std.proofs.lemmas.Bool.{cases_Bool, cases_eq, true≢false, eqb-true}
use Rattle.std.proofs.lemmas.List.{length-set}
use Rattle.std.specs.Ordering.{int_cmp}
use Rattle.std.specs.declared.cmp.Ordering.{Ordering}
use Rattle.std.specs.declared.cmp.Ordering.TheVariants.{Less, Equal, Greater}
use Rattle.avl_trees.specs.Rising.{pick}
use Rattle.ps_heap.specs.Values.{Value, Num, Flag, Text, Nil, Pointer, Vector, Procedure, Nothing}
use Rattle.ps_heap.specs.Texts.{Attempt, Yields, Fails, order_of}
use Rattle.reaching.specs.Reaching.{IsIn, is_in}
use Rattle.reaching.proofs.Lists.{then_is, else_is, in-append}
use Rattle.ps_heap.specs.Tables.{Key, string_key, int_key, Entry, Table, without_keys, by_strings, by_ints, with_under, on_yield, entered, looked_up}
use Rattle.ps_heap.specs.Objects.{Object, Structure, Elements, Scope, Keyed, Heap, object_at, table_in, table_of, object_of_value}
use Rattle.ps_heap.specs.References.{pointers, value_ids, values_ids, object_ids, next_in}
use Rattle.ps_heap.specs.Weights.{entry_weight, whole_weight}
use Rattle.ps_heap.specs.Databases.{Mode, Reading, Writing, Opening, Numbered, with_writing, numbers_for_writing, each_once, open_for_writing, Fault, BusyWriter, StaleStart, create_fault, Admission, Admits, Refuses, admission, directory_weight, full_directory_weight}
use Rattle.ps_heap.specs.Databases as database
use Rattle.ps_heap.specs.Held.{Held, Under, counting, with_object, touching, Reply, Free, Busy, Stale}
use Rattle.ps_heap.specs.Commit.{Decision, NotWritable, NothingToDo, Saves, decision, is_empty}
use Rattle.ps_heap.specs.Calls.{Answer, then_try, is_new_entry, table_put, enter_call, error_record, refused, directory_known, asks_to_create, asks_to_open, reply_in, replies_after, by_reply, if_replied, created_database, create_unless, create_answer, opened_database, open_by, open_answer, commit_by, commit_call}
use Rattle.database_meaning.specs.Sound.{IsRight}
use Rattle.database_meaning.proofs.KeptLaws.{made-right, change-right, object-set, object-other, touching-right, saved-right}

-- Only the objects, the homes, the openings, and what was created and assigned matter.

pub counting-right : (bytes : ℕ) (h : Held) → IsRight h → IsRight (counting bytes h)
counting-right bytes h r = record {
  sound = record { committed = r.sound.committed; open_too = r.sound.open_too };
  there = r.there;
  homed = r.homed;
  closed = λ x y c goes. elim (r.closed x y c goes) [ inl is ↦ inl is | inr a ↦ inr (record { place = a.place; there = a.there; object_is = a.object_is }) ];
}

pub replied-right : (replies : List Reply) (h : Held) → IsRight h → IsRight (record h { replies = replies })
replied-right replies h r = record {
  sound = record { committed = r.sound.committed; open_too = r.sound.open_too };
  there = r.there;
  homed = r.homed;
  closed = λ x y c goes. elim (r.closed x y c goes) [ inl is ↦ inl is | inr a ↦ inr (record { place = a.place; there = a.there; object_is = a.object_is }) ];
}

asked-right : (h : Held) → IsRight h → IsRight (record h { asked = true })
asked-right h r = record {
  sound = record { committed = r.sound.committed; open_too = r.sound.open_too };
  there = r.there;
  homed = r.homed;
  closed = λ x y c goes. elim (r.closed x y c goes) [ inl is ↦ inl is | inr a ↦ inr (record { place = a.place; there = a.there; object_is = a.object_is }) ];
}

-- Entering.

under-ids : {K : Type 0} (order : K → K → Ordering) (key : K) (object : Option ℕ) (entries : List (Entry K)) (y : ℕ)
    → IsIn y (values_ids (pointers (with_under order key object entries))) → IsIn y (values_ids (pointers entries)) ⊎ (object ≡ Some y)
under-ids order key None [] y l = absurd l
under-ids order key (Some id) [] y l = elim l [ inl e ↦ inr (ap Some (sym e)) | inr no_more ↦ absurd no_more ]
under-ids order key None (e ∷ es) y l =
    (elim (order key e.key) as (λ r. IsIn y (values_ids (pointers (pick r (e ∷ es) es (e ∷ with_under order key None es)))) → IsIn y (values_ids (pointers (e ∷ es))) ⊎ (None ≡ Some y)) [
      | Less ↦ λ m. inl m
      | Equal ↦ λ m. inl (inr m)
      | Greater ↦ λ m. elim m [ inl is ↦ inl (inl is) | inr n ↦ elim (under-ids order key None es y n) [ inl old ↦ inl (inr old) | inr new ↦ inr new ] ]
    ]) l
under-ids order key (Some id) (e ∷ es) y l =
    (elim (order key e.key) as (λ r. IsIn y (values_ids (pointers (pick r (record { key = key; object = id } ∷ e ∷ es) (record { key = e.key; object = id } ∷ es) (e ∷ with_under order key (Some id) es))))
    → IsIn y (values_ids (pointers (e ∷ es))) ⊎ (Some id ≡ Some y)) [
      | Less ↦ λ m. elim m [ inl is ↦ inr (ap Some (sym is)) | inr old ↦ inl old ]
      | Equal ↦ λ m. elim m [ inl is ↦ inr (ap Some (sym is)) | inr old ↦ inl (inr old) ]
      | Greater ↦ λ m. elim m [ inl is ↦ inl (inl is) | inr n ↦ elim (under-ids order key (Some id) es y n) [ inl old ↦ inl (inr old) | inr new ↦ inr new ] ]
    ]) l

abbrev pub ids_of : Table → List ℕ
ids_of table = object_ids (Some (Keyed table))

yielded : {A : Type 0} {a b : A} → Yields a ≡ Yields b → a ≡ b
yielded e = cc

pub entered-ids : (key : Key) (object : Option ℕ) (old new : Table) → entered key object old ≡ Yields new → (y : ℕ) → IsIn y (ids_of new) → IsIn y (ids_of old) ⊎ (object ≡ Some y)
unfolding entered
entered-ids (string_key key) None without_keys new e y l = inl (subst (λ t. IsIn y (ids_of t)) (sym (yielded e)) l)
entered-ids (string_key key) (Some id) without_keys new e y l = under-ids order_of key (Some id) [] y (subst (λ t. IsIn y (ids_of t)) (sym (yielded e)) l)
entered-ids (string_key key) object (by_strings entries) new e y l = under-ids order_of key object entries y (subst (λ t. IsIn y (ids_of t)) (sym (yielded e)) l)
entered-ids (string_key key) object (by_ints entries) new e y l = absurd (cc)
entered-ids (int_key key) None without_keys new e y l = inl (subst (λ t. IsIn y (ids_of t)) (sym (yielded e)) l)
entered-ids (int_key key) (Some id) without_keys new e y l = under-ids int_cmp key (Some id) [] y (subst (λ t. IsIn y (ids_of t)) (sym (yielded e)) l)
entered-ids (int_key key) object (by_ints entries) new e y l = under-ids int_cmp key object entries y (subst (λ t. IsIn y (ids_of t)) (sym (yielded e)) l)
entered-ids (int_key key) object (by_strings entries) new e y l = absurd (cc)

pub record IsTableAt (heap : Heap) (v : Value) (t : Table) : Type 0 where
  pub id : ℕ
  pub v_is : v ≡ Pointer id
  pub there : object_at heap id ≡ Some (Keyed t)

table-in : (o : Option Object) (t : Table) → table_in o ≡ Yields t → o ≡ Some (Keyed t)
table-in None t e = absurd (cc)
table-in (Some (Structure class fields)) t e = absurd (cc)
table-in (Some (Elements ty low elements)) t e = absurd (cc)
table-in (Some (Scope text parent names)) t e = absurd (cc)
table-in (Some (Keyed table)) t e = ap (λ x. Some (Keyed x)) (yielded e)

pub table-at : (heap : Heap) (v : Value) (t : Table) → table_of heap v ≡ Yields t → IsTableAt heap v t
unfolding table_of
table-at heap (Num z) t e = absurd (cc)
table-at heap (Flag b) t e = absurd (cc)
table-at heap (Text bytes) t e = absurd (cc)
table-at heap Nil t e = absurd (cc)
table-at heap (Pointer id) t e = record { id = id; v_is = refl; there = table-in (object_at heap id) t e }
table-at heap (Vector id) t e = absurd (cc)
table-at heap (Procedure does scope) t e = absurd (cc)
table-at heap Nothing t e = absurd (cc)

pub value-id : (v : Value) (y : ℕ) → object_of_value v ≡ Some y → IsIn y (value_ids v)
value-id (Num z) y e = absurd (cc)
value-id (Flag b) y e = absurd (cc)
value-id (Text bytes) y e = absurd (cc)
value-id Nil y e = absurd (cc)
value-id (Pointer id) y e = inl cc
value-id (Vector id) y e = absurd (cc)
value-id (Procedure does scope) y e = absurd (cc)
value-id Nothing y e = absurd (cc)

put-right : (id : ℕ) (key : Key) (before : Option ℕ) (v : Value) (old new : Table) (h : Held) → IsRight h → ((y : ℕ) → IsIn y (value_ids v) → y < length h.objects)
    → object_at h.objects id ≡ Some (Keyed old) → entered key (object_of_value v) old ≡ Yields new → IsRight (table_put (Pointer id) key before (object_of_value v) new h)
unfolding next_in
put-right id key before v old new h r low there e =
    let bytes = if is_new_entry before (object_of_value v) then entry_weight key else 0 in
    change-right (counting bytes h) (set h.objects id (Keyed new)) (Under id key) (counting-right bytes h r) (length-set h.objects id (Keyed new)) changes
  where
    changes : (x y : ℕ) → IsIn y (object_ids (object_at (set h.objects id (Keyed new)) x)) → IsIn y (object_ids (object_at h.objects x)) ⊎ ((x ≡ id) × (y < length h.objects))
    changes x y goes =
        elim (cases_eq x id) [
          | inl same ↦
              let here : IsIn y (ids_of new) = subst (λ p. IsIn y (object_ids p)) (ap (object_at (set h.objects id (Keyed new))) same ∙ object-set h.objects id (Keyed old) (Keyed new) there) goes in
              elim (entered-ids key (object_of_value v) old new e y here) [
                | inl was ↦ inl (subst (λ p. IsIn y (object_ids p)) (sym (ap (object_at h.objects) same ∙ there)) was)
                | inr is ↦ inr (same, low y (value-id v y is))
              ]
          | inr apart ↦ inl (subst (λ p. IsIn y (object_ids p)) (object-other h.objects id x (Keyed new) apart) goes)
        ]

pub enter-right : (key : Key) (table v : Value) (h new : Held) → IsRight h → ((y : ℕ) → IsIn y (value_ids v) → y < length h.objects) → enter_call key table v h ≡ Yields new → IsRight new
unfolding enter_call
enter-right key table v h new r low e = first (table_of h.objects table) refl e
  where
    puts : Table → Option ℕ → Attempt Held
    puts t before = on_yield (entered key (object_of_value v) t) (λ n. table_put table key before (object_of_value v) n h)

    third : (t : Table) (before : Option ℕ) (c : Attempt Table) → table_of h.objects table ≡ Yields t → entered key (object_of_value v) t ≡ c
        → on_yield c (λ n. table_put table key before (object_of_value v) n h) ≡ Yields new → IsRight new
    third t before (Yields n) is c e =
        let at = table-at h.objects table t is in
        subst IsRight (yielded e) (subst (λ w. IsRight (table_put w key before (object_of_value v) n h)) (sym at.v_is) (put-right at.id key before v t n h r low at.there c))
    third t before (Fails trap) is c e = absurd (cc)

    second : (t : Table) (b : Attempt (Option ℕ)) → table_of h.objects table ≡ Yields t → then_try b (λ before. puts t before) ≡ Yields new → IsRight new
    second t (Yields before) is e = third t before (entered key (object_of_value v) t) is refl e
    second t (Fails trap) is e = absurd (cc)

    first : (a : Attempt Table) → table_of h.objects table ≡ a → then_try a (λ t. then_try (looked_up key t) (λ before. puts t before)) ≡ Yields new → IsRight new
    first (Yields t) is e = second t (looked_up key t) is e
    first (Fails trap) is e = absurd (cc)

-- Databases open for writing.

pub each-in : (before ns : List ℕ) (n : ℕ) → IsIn n (each_once before ns) → IsIn n ns
unfolding each_once
each-in before [] n l = absurd l
each-in before (m ∷ ms) n l =
    elim (cases_Bool (is_in m before)) [
      | inl old ↦ inr (each-in before ms n (subst (IsIn n) (then_is (is_in m before) (each_once before ms) (m ∷ each_once (m ∷ before) ms) old) l))
      | inr new ↦ elim (subst (IsIn n) (else_is (is_in m before) (each_once before ms) (m ∷ each_once (m ∷ before) ms) new) l) [ inl e ↦ inl e | inr k ↦ inr (each-in (m ∷ before) ms n k) ]
    ]

in-each : (before ns : List ℕ) (n : ℕ) → IsIn n ns → is_in n before ≡ false → IsIn n (each_once before ns)
unfolding each_once is_in
in-each before [] n l free = absurd l
in-each before (m ∷ ms) n l free =
    elim (cases_Bool (is_in m before)) [
      | inl old ↦ subst (IsIn n) (sym (then_is (is_in m before) (each_once before ms) (m ∷ each_once (m ∷ before) ms) old))
          (elim l [ inl e ↦ absurd (true≢false (sym (ap (λ k. is_in k before) e ∙ old) ∙ free)) | inr k ↦ in-each before ms n k free ])
      | inr new ↦ subst (IsIn n) (sym (else_is (is_in m before) (each_once before ms) (m ∷ each_once (m ∷ before) ms) new))
          (elim (cases_Bool (nat_eq n m)) [
            | inl same ↦ inl (eqb-true n m same)
            | inr apart ↦ elim l [ inl e ↦ inl e | inr k ↦ inr (in-each (m ∷ before) ms n k (else_is (nat_eq n m) true (is_in n before) apart ∙ free)) ]
          ])
    ]

with-more : (mode : Mode) (number : ℕ) (xs ys : List ℕ) (n : ℕ) → (IsIn n xs → IsIn n ys) → IsIn n (with_writing mode number xs) → IsIn n (with_writing mode number ys)
with-more Reading number xs ys n more l = more l
with-more Writing number xs ys n more (inl e) = inl e
with-more Writing number xs ys n more (inr l) = inr (more l)

with-rest : (mode : Mode) (number : ℕ) (xs : List ℕ) (n : ℕ) → IsIn n xs → IsIn n (with_writing mode number xs)
with-rest Reading number xs n l = l
with-rest Writing number xs n l = inr l

numbers-more : (openings more : List Opening) (n : ℕ) → IsIn n (numbers_for_writing openings) → IsIn n (numbers_for_writing (openings ++ more))
numbers-more [] more n l = absurd l
numbers-more (o ∷ os) more n l = with-more o.mode o.number (numbers_for_writing os) (numbers_for_writing (os ++ more)) n (λ k. numbers-more os more n k) l

numbers-last : (openings : List Opening) (n : ℕ) → IsIn n (numbers_for_writing (openings ++ record { number = n; mode = Writing } ∷ []))
numbers-last [] n = inl refl
numbers-last (o ∷ os) n = with-rest o.mode o.number (numbers_for_writing (os ++ record { number = n; mode = Writing } ∷ [])) n (numbers-last os n)

writing-more : (openings more : List Opening) (n : ℕ) → IsIn n (open_for_writing openings) → IsIn n (open_for_writing (openings ++ more))
unfolding is_in
writing-more openings more n l = in-each [] (numbers_for_writing (openings ++ more)) n (numbers-more openings more n (each-in [] (numbers_for_writing openings) n l)) refl

writing-last : (openings : List Opening) (n : ℕ) → IsIn n (open_for_writing (openings ++ record { number = n; mode = Writing } ∷ []))
unfolding is_in
writing-last openings n = in-each [] (numbers_for_writing (openings ++ record { number = n; mode = Writing } ∷ [])) n (numbers-last openings n) refl

pub opened-right : (openings more : List Opening) (h : Held) → h.openings ≡ openings → IsRight h → IsRight (record h { openings = openings ++ more })
opened-right openings more h is r = record {
  sound = record { committed = r.sound.committed; open_too = λ n l. writing-more openings more n (subst (λ os. IsIn n (open_for_writing os)) is (r.sound.open_too n l)) };
  there = r.there;
  homed = r.homed;
  closed = λ x y c goes. elim (r.closed x y c goes) [ inl done ↦ inl done | inr a ↦ inr (record { place = a.place; there = a.there; object_is = a.object_is }) ];
}

refused-right : (context : List ℕ) (fault : Fault) (h : Held) → IsRight h → IsRight (refused context fault h).held
refused-right context fault h r = counting-right (whole_weight h.weigh (error_record context fault)) (with_object (error_record context fault) h) (made-right (error_record context fault) h r (λ y l. absurd l))

pub created-right : (name password : List ℕ) (h : Held) → IsRight h → IsRight (created_database name password h).held
created-right name password h r =
    let m = made-right (Keyed without_keys) h r (λ y l. absurd l) in
    let number = suc (length h.directory) in
    record {
      sound = record {
        committed = m.sound.committed;
        open_too = λ n l. elim (in-append n h.created (number ∷ []) l) [
          | inl old ↦ writing-more h.openings (record { number = number; mode = Writing } ∷ []) n (m.sound.open_too n old)
          | inr (inl e) ↦ subst (λ k. IsIn k (open_for_writing (h.openings ++ record { number = number; mode = Writing } ∷ []))) (sym e) (writing-last h.openings number)
          | inr (inr no_more) ↦ absurd no_more
        ];
      };
      there = m.there;
      homed = m.homed;
      closed = λ x y c goes. elim (m.closed x y c goes) [ inl is ↦ inl is | inr a ↦ inr (record { place = a.place; there = a.there; object_is = a.object_is }) ];
    }

-- The calls over databases.

abbrev KeepsRight : (Held → Answer) → Type 0
KeepsRight grant = (h : Held) → IsRight h → IsRight (grant h).held

by_reply-right : (context : List ℕ) (reply : Reply) (grant : Held → Answer) → KeepsRight grant → (h : Held) → IsRight h → IsRight (by_reply context reply grant h).held
by_reply-right context Free grant keeps h r = keeps h r
by_reply-right context Busy grant keeps h r = refused-right context BusyWriter h r
by_reply-right context Stale grant keeps h r = refused-right context StaleStart h r

if_replied-right : (context : List ℕ) (grant : Held → Answer) → KeepsRight grant → (h : Held) → IsRight h → IsRight (if_replied context grant h).held
if_replied-right context grant keeps h r = go (is_empty (open_for_writing h.openings))
  where
    go : (b : Bool) → IsRight (if b then by_reply context (reply_in h.replies) grant (record h { replies = replies_after h.replies }) else grant h).held
    go true = by_reply-right context (reply_in h.replies) grant keeps (record h { replies = replies_after h.replies }) (replied-right (replies_after h.replies) h r)
    go false = keeps h r

pub create-right : (name password : List ℕ) (h : Held) → IsRight h → IsRight (create_answer name password h).held
unfolding create_answer
create-right name password h r = go (create_fault h.directory name password)
  where
    go : (fault : Option Fault) → IsRight (create_unless fault name password h).held
    go (Some fault) = refused-right _ fault h r
    go None = if_replied-right _ (created_database name password) (created-right name password) (counting (directory_weight (suc (length h.directory))) h)
        (counting-right (directory_weight (suc (length h.directory))) h r)

pub open-right : (name password mode : List ℕ) (h : Held) → IsRight h → IsRight (open_answer name password mode h).held
unfolding open_answer
open-right name password mode h r = go (admission h.directory name password mode)
  where
    opens-right : (to : Numbered) (mode : Mode) → KeepsRight (opened_database to mode)
    opens-right to mode now kept = opened-right now.openings (record { number = to.number; mode = mode } ∷ []) now refl kept

    go : (a : Admission) → IsRight (open_by a h).held
    go (Refuses fault) = refused-right _ fault h r
    go (Admits to Reading) = opens-right to Reading (touching (to.database.root ∷ []) h) (touching-right (to.database.root ∷ []) h r)
    go (Admits to Writing) = if_replied-right _ (opened_database to Writing) (opens-right to Writing) (touching (to.database.root ∷ []) h) (touching-right (to.database.root ∷ []) h r)

known-right : (h : Held) → IsRight h → IsRight (directory_known h)
known-right h r = counting-right (if h.asked then 0 else full_directory_weight h.directory) (record h { asked = true }) (asked-right h r)

pub asks_create-right : (name : List ℕ) (h : Held) → IsRight h → IsRight (asks_to_create name h).held
unfolding asks_to_create
asks_create-right name h r = counting-right 64 (directory_known h) (known-right h r)

pub asks_open-right : (name mode : List ℕ) (h : Held) → IsRight h → IsRight (asks_to_open name mode h).held
unfolding asks_to_open
asks_open-right name mode h r = known-right h r

pub commit-right : (h : Held) → IsRight h → IsRight (commit_call h).held
unfolding commit_call
commit-right h r = go (decision h) refl
  where
    go : (d : Decision) → decision h ≡ d → IsRight (commit_by d h).held
    go NotWritable e = refused-right _ database.NotWritable h r
    go NothingToDo e = r
    go (Saves heap) e = saved-right h heap r e
