-- What the meaning answers to a call on databases of a run that no other session answers.
use Rattle.std.proofs.Common.{◌≡◌, ℕ, suc, ◌+◌, ◌≤◌, Bool, true, false, List, [], ◌∷◌, length, Option, Some, None, refl, sym, ap, ◌∙◌, subst, arith, if◌then◌else◌}
use Rattle.std.specs.Prelude.{codes}
use Rattle.machine_core.specs.ps_heap.Calls.{Answer, asks_to_create, asks_to_open, by_reply, create_answer, create_unless, created_database, directory_known, error_record, if_replied, open_answer, open_as, open_by, opened_database, refused, reply_in, replies_after}
use Rattle.machine_core.specs.ps_heap.Commit.{is_empty}
use Rattle.machine_core.specs.ps_heap.Databases.{Admission, Admits, Refuses, Fault, Mode, Reading, Writing, Numbered, admission, create_fault, directory_weight, open_for_writing}
use Rattle.machine_core.specs.ps_heap.Held.{Held, Reply, counting, touching}
use Rattle.machine_core.specs.ps_heap.Values.{Value, Pointer}
use Rattle.machine_core.specs.ps_heap.Weights.{whole_weight}
use Rattle.machine_core.specs.joint_held.Opening.{with_opening}
use Rattle.machine_core.specs.joint_held.Writing.{HoldsAlike}
use Rattle.machine_databases.specs.Refusing.{IsRefusal}
use Rattle.machine_databases.specs.inside.Answering.{Credentials, Entry, created_with, opened_with}

-- An answer has this value and leaves this.
pub record Leaves (v : Value) (h : Held) (a : Answer) : Type 0 where
  pub value : a.value ≡ v
  pub held : a.held ≡ h

-- where no reply is left, the call goes on
if-free : (context : List ℕ) (grant : Held → Answer) (h : Held) → h.replies ≡ [] → if_replied context grant h ≡ grant h
if-free context grant h none =
    subst (λ (rs : List Reply). if_replied context grant (record h { replies = rs }) ≡ grant (record h { replies = rs })) (sym none) (of (is_empty (open_for_writing h.openings)))
  where
    of : (b : Bool)
        → (if b then by_reply context (reply_in []) grant (record h { replies = replies_after [] }) else grant (record h { replies = [] })) ≡ grant (record h { replies = [] })
    of true = refl
    of false = refl

-- what is held alike is so as it is
alike-refl : (h : Held) → HoldsAlike h h
alike-refl h = record { objects = refl; homes = refl; directory = refl; openings = refl; created = refl; assigned = refl; asked = refl }

-- Creating.

-- the run that has asked, with the root counted; and with the directory that names one more
abbrev pub asking : Held → Held
asking h = counting 64 (directory_known h)

abbrev pub naming_one : Held → Held
naming_one h = counting (directory_weight (suc (length h.directory))) (asking h)

module _ (of : Credentials) (h : Held) where
  created-is : (found : Option Fault) → create_fault h.directory of.name of.password ≡ found
      → (a : Answer) × (a ≡ create_unless found of.name of.password (asking h)) × ((created_with of h).value ≡ a.value) × ((created_with of h).held ≡ a.held)
  unfolding asks_to_create create_answer
  created-is found e =
      let same : create_unless (create_fault h.directory of.name of.password) of.name of.password (asking h) ≡ create_unless found of.name of.password (asking h) =
      ap (λ (f : Option Fault). create_unless f of.name of.password (asking h)) e in
      (create_unless found of.name of.password (asking h), refl, ap (λ (a : Answer). a.value) same, ap (λ (a : Answer). a.held) same)

  -- without a fault there is a database more
  pub creates : h.replies ≡ [] → create_fault h.directory of.name of.password ≡ None
      → Leaves (created_database of.name of.password (naming_one h)).value (created_database of.name of.password (naming_one h)).held (created_with of h)
  creates none e =
      let a = created-is None e in
      let free = if-free (codes "create.database") (created_database of.name of.password) (naming_one h) none in
      record {
        value = a.2 ∙ ap (λ (x : Answer). x.value) (a.1 ∙ free);
        held = a.3 ∙ ap (λ (x : Answer). x.held) (a.1 ∙ free);
      }

  -- else an error record
  pub create-refused : (fault : Fault) → create_fault h.directory of.name of.password ≡ Some fault
      → Leaves (refused (codes "create.database") fault (asking h)).value (refused (codes "create.database") fault (asking h)).held (created_with of h)
  create-refused fault e =
      let a = created-is (Some fault) e in
      record { value = a.2 ∙ ap (λ (x : Answer). x.value) a.1; held = a.3 ∙ ap (λ (x : Answer). x.held) a.1 }

-- an answer that leaves what a refused call leaves is a refusal
pub refusal-of : (context : List ℕ) (fault : Fault) (h : Held) (a : Answer) → Leaves (refused context fault h).value (refused context fault h).held a
    → IsRefusal context fault h a
refusal-of context fault h a l = record {
  value = l.value;
  held = subst (HoldsAlike (refused context fault h).held) (sym l.held) (alike-refl (refused context fault h).held);
  counted = let same : a.held.counted ≡ h.counted + whole_weight h.weigh (error_record context fault) = ap (λ (k : Held). k.counted) l.held in omega (arith, same);
}

module _ (of : Credentials) (h : Held) where
  -- The root is counted, whatever is answered, and the new directory where there is no fault.
  pub directory-counted : h.replies ≡ [] → create_fault h.directory of.name of.password ≡ None → directory_weight (suc (length h.directory)) ≤ (created_with of h).held.counted
  directory-counted none e =
      let same : (created_with of h).held.counted ≡ (naming_one h).counted = ap (λ (k : Held). k.counted) (creates of h none e).held in omega (arith, same)

  pub root-counted : h.replies ≡ [] → 64 ≤ (created_with of h).held.counted
  root-counted none = by (create_fault h.directory of.name of.password) refl
    where
      by : (found : Option Fault) → create_fault h.directory of.name of.password ≡ found → 64 ≤ (created_with of h).held.counted
      by None e =
          let same : (created_with of h).held.counted ≡ (naming_one h).counted = ap (λ (k : Held). k.counted) (creates of h none e).held in omega (arith, same)
      by (Some fault) e =
          let same : (created_with of h).held.counted ≡ (asking h).counted + whole_weight h.weigh (error_record (codes "create.database") fault) =
          ap (λ (k : Held). k.counted) (create-refused of h fault e).held in
          omega (arith, same)

-- Opening.

-- the run that has asked, with the root touched
abbrev pub touching_root : Numbered → Held → Held
touching_root to h = touching (to.database.root ∷ []) (directory_known h)

module _ (entry : Entry) (h : Held) where
  opened-is : (found : Admission) → admission h.directory entry.of.name entry.of.password entry.mode ≡ found
      → (a : Answer) × (a ≡ open_by found (directory_known h)) × ((opened_with entry h).value ≡ a.value) × ((opened_with entry h).held ≡ a.held)
  unfolding asks_to_open open_answer
  opened-is found e =
      let same : open_by (admission h.directory entry.of.name entry.of.password entry.mode) (directory_known h) ≡ open_by found (directory_known h) =
      ap (λ (f : Admission). open_by f (directory_known h)) e in
      (open_by found (directory_known h), refl, ap (λ (a : Answer). a.value) same, ap (λ (a : Answer). a.held) same)

  as-opened : (mode : Mode) (to : Numbered) → h.replies ≡ [] → open_as mode to (touching_root to h) ≡ opened_database to mode (touching_root to h)
  as-opened Reading to none = refl
  as-opened Writing to none = if-free (codes "open.database") (opened_database to Writing) (touching_root to h) none

  -- what is admitted has an opening more
  pub opens : h.replies ≡ [] → (to : Numbered) (mode : Mode) → admission h.directory entry.of.name entry.of.password entry.mode ≡ Admits to mode
      → Leaves (Pointer to.database.root) (with_opening to.number mode (touching_root to h)) (opened_with entry h)
  opens none to mode e =
      let a = opened-is (Admits to mode) e in
      record {
        value = a.2 ∙ ap (λ (x : Answer). x.value) (a.1 ∙ as-opened mode to none);
        held = a.3 ∙ ap (λ (x : Answer). x.held) (a.1 ∙ as-opened mode to none);
      }

  pub open-refused : (fault : Fault) → admission h.directory entry.of.name entry.of.password entry.mode ≡ Refuses fault
      → Leaves (refused (codes "open.database") fault (directory_known h)).value (refused (codes "open.database") fault (directory_known h)).held (opened_with entry h)
  open-refused fault e =
      let a = opened-is (Refuses fault) e in
      record { value = a.2 ∙ ap (λ (x : Answer). x.value) a.1; held = a.3 ∙ ap (λ (x : Answer). x.held) a.1 }
