-- What the calls of a store say.
use Rattle.std.proofs.Common.{◌≡◌, ℕ, ◌+◌, ◌-◌, ◌^◌, ◌≤◌, min, Bool, true, false, List, length, sym, ◌∙◌, ap, subst, arith, Option, Some, None, Result, Ok, Err}
use Rattle.std.specs.Prelude.{OnErr, OnOk}
use Rattle.std.proofs.lemmas.Result.{on_err_weaker}
use Rattle.obj_layout.specs.ps_outside.Outside.{Outside}
use Rattle.obj_layout.specs.ps_outside.Past.{KeepsPast}
use Rattle.volume_parts.specs.Calls.{Looks}
use Rattle.paged_volume.specs.Layout.{capacity_of}
use Rattle.paged_volume.specs.Standing.{seen}
use Rattle.paged_volume.specs.Staging.{Stages}
use Rattle.paged_volume.specs.declared.committed.Committed.{Committed}
use Rattle.paged_volume.specs.declared.table.Table.{Table}
use Rattle.obj_layout.specs.declared.vault.VaultFault.{VaultFault}
use Rattle.obj_layout.specs.Stored.{Space, Holds, IsHeaded, length_there, words_there, appended, overwritten, directed}
use Rattle.obj_layout.specs.Storing.{Becomes, Settles, SameNumbers, SameUsers, all_settled, TestsObject, reading, writing, settling}
use Rattle.obj_store.specs.declared.source.Source.{Source}
use Rattle.obj_store.specs.Calls.{Measures, Fetches, Appends, Overwrites, SettlesAll}
use Rattle.obj_store.specs.Spaces.{IsInOrder, used_in, directory_in, spaces, spaces_at}
use Rattle.obj_store.specs.Store.{Store, access_of, directory_of, most_of, outside_of, used_of, bounded, is_alone}
use Rattle.obj_store.specs.StoreLaws.{used_is, most_is}
use Rattle.obj_store.specs.Tested.{IsObjectFault, IsOverwriteFault, IsAppendFault, IsSettleFault, IsWhole}
use Rattle.obj_store.proofs.FaultLaws.{tests_fault, tests_overwrite, look_call, look_refused, object_room, object_pages, store_call, overwrite_call, overwrite_room, overwrite_lacks, append_call, append_sound, append_lacks, full_fault, settle_room, settle_sound, settle_lacks}
use Rattle.obj_store.proofs.HeldLaws.{held_words}
use Rattle.obj_store.proofs.SpaceLaws.{same_spaces}

-- after a fault no call may be made
pub dead_of : {T E : Type 0} (result : Result T E) (live : Bool) → OnErr result (live ≡ false) → OnErr result (live ≡ true → ⊥)
dead_of result live dead = on_err_weaker result (λ no yes. cc) dead

-- the numbers of a store, and of a view, go by its table, its words and whether something is staged
pub store_numbers : {H : Type 0} (old new : Store H) → (new.table ≡ old.table) × (new.used ≡ old.used) × (new.staged ≡ old.staged) → SameNumbers used_of directory_of most_of access_of old new
store_numbers old new same = (
  ap (λ (n : ℕ). bounded n) same.1,
  ap (λ (t : Table). t.committed.note.directory) same.0,
  ap (λ (t : Table). min (capacity_of t.committed.pages) (2 ^ 30 - 1)) same.0,
  (λ i. record { writes = true; alone = is_alone (same.0 i).pins.items; lent = tt; staged = same.2 i }),
)

pub staged_numbers : {H : Type 0} (old new : Store H) → new.table.committed ≡ old.table.committed → (directory_of new ≡ directory_of old) × (most_of new ≡ most_of old)
staged_numbers old new committed = (
  ap (λ (k : Committed). k.note.directory) committed,
  ap (λ (k : Committed). min (capacity_of k.pages) (2 ^ 30 - 1)) committed,
)

pub call_numbers : {H : Type 0} (old new : Store H) → new.table.committed ≡ old.table.committed → new.used ≡ old.used →
    (used_of new ≡ used_of old) × (directory_of new ≡ directory_of old) × (most_of new ≡ most_of old)
call_numbers old new committed used =
    let staged = staged_numbers old new committed in
    (ap (λ (n : ℕ). bounded n) used, staged.0, staged.1)

pub settled_numbers : {H : Type 0} (old new : Store H) → (new.used ≡ old.used) × (new.table.committed.pages ≡ old.table.committed.pages) →
    (used_of new ≡ used_of old) × (most_of new ≡ most_of old)
settled_numbers old new same = (ap (λ (n : ℕ). bounded n) same.0, ap (λ (n : ℕ). min (capacity_of n) (2 ^ 30 - 1)) same.1)

-- who uses a store goes by its pins
pub store_users : {H : Type 0} (old new : Store H) → is_alone new.table.pins.items ≡ is_alone old.table.pins.items → SameUsers (access_of old) (access_of new)
store_users old new alone = λ i. record { writes = true; alone = alone i; lent = tt; staged = false }

pub store_settled : {T E H : Type 0} (result : Result T E) (old new : Store H) → is_alone new.table.pins.items ≡ is_alone old.table.pins.items → OnOk result (new.staged ≡ false) →
    OnOk result (access_of new ≡ all_settled (access_of old))
store_settled (Ok value) old new alone settled = λ i. record { writes = true; alone = alone i; lent = tt; staged = settled i }
store_settled (Err fault) old new alone settled = tt

pub view_numbers : {H : Type 0} (source : Source) (old new : Store H) → (new.table ≡ old.table) × (new.used ≡ old.used) × (new.staged ≡ old.staged) →
    (bounded (used_in source new.used) ≡ bounded (used_in source old.used)) × (directory_in source new.table ≡ directory_in source old.table) × (most_of new ≡ most_of old)
view_numbers source old new same = (
  ap (λ (n : ℕ). bounded (used_in source n)) same.1,
  ap (λ (t : Table). directory_in source t) same.0,
  ap (λ (t : Table). min (capacity_of t.committed.pages) (2 ^ 30 - 1)) same.0,
)

-- an object that passes its tests
passes : {T : Type 0} (outside : Outside Space) (pid : ℕ) (wanted : Option ℕ) (value : T) → IsWhole outside pid wanted → TestsObject {T = T} outside pid wanted (Ok value)
passes outside pid wanted value whole = record { sound = whole; at_pid = λ at found bound e. absurd (cc); damaged = λ at found bound e. absurd (cc) }

module _ (source : Source) (used : ℕ) (p q : Table) (a b : Outside (List ℕ)) (is_q : q ≡ p) (pid : ℕ) where
  pub measured : (count : ℕ) → Looks a b 2 → ((words : List ℕ) → Holds (spaces_at source used p a) pid words → length words ≡ count) →
      ((space : Space) → (spaces_at source used p a).contents space → length_there pid space ≡ count) → IsWhole (spaces_at source used p a) pid None →
      Measures (spaces_at source used p a) (spaces_at source used q b) pid (Ok count)
  measured count looks told stands whole = record {
    told = told;
    stands = stands;
    tested = passes (spaces_at source used p a) pid None count whole;
    call = look_call source used used 2 p q a b looks count;
    same = same_spaces source used p q a b is_q looks.same;
    full = λ u w m e. cc;
    pages = λ h w m e. cc;
  }

  pub not_measured : (fault : VaultFault) → Looks a b 2 → IsObjectFault (spaces_at source used p a) (spaces_at source used q b) pid None fault →
      Measures (spaces_at source used p a) (spaces_at source used q b) pid (Err fault)
  not_measured fault looks is = record {
    told = tt;
    stands = tt;
    tested = tests_fault (spaces_at source used p a) (spaces_at source used q b) pid None fault is;
    call = look_refused source used used 2 p q a b looks pid None fault is;
    same = same_spaces source used p q a b is_q looks.same;
    full = object_room (spaces_at source used p a) (spaces_at source used q b) pid None fault is;
    pages = object_pages (spaces_at source used p a) (spaces_at source used q b) pid None fault is;
  }

  pub fetched : (count : ℕ) (into : List ℕ) → Looks a b (reading count) → ((space : Space) → (spaces_at source used p a).contents space → words_there pid count space ≡ into) →
      IsHeaded into → IsWhole (spaces_at source used p a) pid (Some count) → Fetches (spaces_at source used p a) (spaces_at source used q b) pid count into (Ok tt)
  fetched count into looks read headed whole = record {
    told = λ fits words h. held_words (spaces_at source used p a) pid count into words h (fits words h) read;
    stands = read;
    headed = headed;
    tested = passes (spaces_at source used p a) pid (Some count) tt whole;
    call = look_call source used used (reading count) p q a b looks tt;
    same = same_spaces source used p q a b is_q looks.same;
    full = λ u w m e. cc;
    pages = λ h w m e. cc;
  }

  pub not_fetched : (count : ℕ) (into : List ℕ) (fault : VaultFault) → Looks a b (reading count) → IsObjectFault (spaces_at source used p a) (spaces_at source used q b) pid (Some count) fault →
      Fetches (spaces_at source used p a) (spaces_at source used q b) pid count into (Err fault)
  not_fetched count into fault looks is = record {
    told = λ fits. tt;
    stands = tt;
    headed = tt;
    tested = tests_fault (spaces_at source used p a) (spaces_at source used q b) pid (Some count) fault is;
    call = look_refused source used used (reading count) p q a b looks pid (Some count) fault is;
    same = same_spaces source used p q a b is_q looks.same;
    full = object_room (spaces_at source used p a) (spaces_at source used q b) pid (Some count) fault is;
    pages = object_pages (spaces_at source used p a) (spaces_at source used q b) pid (Some count) fault is;
  }

-- calls that write
module _ {H : Type 0} (outside : H → Outside (List ℕ)) (store : Store H) (q : Table) (host : H) (order : IsInOrder store.used store.table.committed) where
  pub was_appended : (words : List ℕ) → KeepsPast (outside store.host) (outside host) → Stages (seen store.table (outside store.host)) (seen q (outside host)) (writing (length words)) →
      Becomes (outside_of outside store) (spaces (store.used + length words) q (outside host)) (appended words) → q.committed ≡ store.table.committed → IsInOrder (store.used + length words) q.committed →
      Appends (outside_of outside store) (spaces (store.used + length words) q (outside host)) words (used_of store) (bounded (store.used + length words)) (most_of store) (access_of store) (Ok store.used)
  was_appended words past stages becomes committed next =
      let used = used_is store.used store.table.committed order in
      let most = most_is store.used store.table.committed order in
      let within : store.used + length words ≤ capacity_of store.table.committed.pages = subst (λ (k : Committed). store.used + length words ≤ capacity_of k.pages) committed next.within in
      record {
        pid = sym used;
        told = becomes;
        full = λ u w m e. absurd (cc);
        room = omega (arith, used, most, within);
        pages = λ h w m e. absurd (cc);
        call = store_call {T = ℕ} store.used (store.used + length words) (writing (length words)) store.table q (outside store.host) (outside host) past stages store.used;
        sound = λ at found bound e. cc;
        used_is = used_is (store.used + length words) q.committed next ∙ ap (λ (n : ℕ). n + length words) (sym used);
      }

  pub not_appended : (words : List ℕ) (fault : VaultFault) → KeepsPast (outside store.host) (outside host) → Stages (seen store.table (outside store.host)) (seen q (outside host)) (writing (length words)) →
      q.pins.items ≡ store.table.pins.items → IsAppendFault (outside store.host) (outside host) q store.used (length words) (capacity_of store.table.committed.pages) fault →
      Appends (outside_of outside store) (spaces store.used q (outside host)) words (used_of store) (used_of store) (most_of store) (access_of store) (Err fault)
  not_appended words fault past stages pins is =
      let used = used_is store.used store.table.committed order in
      let most = most_is store.used store.table.committed order in
      record {
        pid = tt;
        told = tt;
        full = λ u w m e.
            let at = full_fault {T = ℕ} (outside store.host) (outside host) q store.used (length words) (capacity_of store.table.committed.pages) fault is u w m e in
            (at.0 ∙ sym used, at.1, at.2 ∙ sym most, at.3);
        room = tt;
        pages = append_lacks {T = ℕ} (outside store.host) (outside host) store.table q store.used (length words) (capacity_of store.table.committed.pages) fault pins is;
        call = append_call {T = ℕ} store.used store.used (writing (length words)) store.table q (outside store.host) (outside host) past stages (length words) (capacity_of store.table.committed.pages) fault is;
        sound = append_sound {T = ℕ} (outside store.host) (outside host) store.table q store.used (length words) (capacity_of store.table.committed.pages) fault is;
        used_is = tt;
      }

  pub was_overwritten : (pid : ℕ) (words : List ℕ) → KeepsPast (outside store.host) (outside host) → Stages (seen store.table (outside store.host)) (seen q (outside host)) (writing (length words)) →
      Becomes (outside_of outside store) (spaces store.used q (outside host)) (overwritten pid words) → IsWhole (outside_of outside store) pid (Some (length words)) →
      Overwrites (outside_of outside store) (spaces store.used q (outside host)) pid words (access_of store) (Ok tt)
  was_overwritten pid words past stages becomes whole = record {
    told = becomes;
    tested = passes (outside_of outside store) pid (Some (length words)) tt whole;
    call = store_call {T = Unit {0}} store.used store.used (writing (length words)) store.table q (outside store.host) (outside host) past stages tt;
    full = λ u w m e. cc;
    pages = λ h w m e. absurd (cc);
  }

  pub not_overwritten : (pid : ℕ) (words : List ℕ) (fault : VaultFault) → KeepsPast (outside store.host) (outside host) → Stages (seen store.table (outside store.host)) (seen q (outside host)) (writing (length words)) →
      q.pins.items ≡ store.table.pins.items → IsOverwriteFault (outside_of outside store) (spaces store.used q (outside host)) q pid (Some (length words)) fault →
      Overwrites (outside_of outside store) (spaces store.used q (outside host)) pid words (access_of store) (Err fault)
  not_overwritten pid words fault past stages pins is = record {
    told = tt;
    tested = tests_overwrite (outside_of outside store) (spaces store.used q (outside host)) q pid (Some (length words)) fault is;
    call = overwrite_call {T = Unit {0}} store.used store.used (writing (length words)) store.table q (outside store.host) (outside host) past stages pid (Some (length words)) fault is;
    full = overwrite_room (outside_of outside store) (spaces store.used q (outside host)) store.table q pid (Some (length words)) fault is;
    pages = overwrite_lacks (outside_of outside store) (spaces store.used q (outside host)) store.table q pid (Some (length words)) fault pins is;
  }

  pub was_settled : (directory : ℕ) → Becomes (outside_of outside store) (spaces store.used q (outside host)) (directed directory) →
      Settles {T = Unit {0}} (outside_of outside store) (spaces store.used q (outside host)) (settling store.used) (directed directory) (Ok tt) →
      SettlesAll (outside_of outside store) (spaces store.used q (outside host)) (used_of store) directory (access_of store) (Ok tt)
  was_settled directory becomes settles = record {
    told = becomes;
    settled = subst (λ (n : ℕ). Settles {T = Unit {0}} (outside_of outside store) (spaces store.used q (outside host)) (settling n) (directed directory) (Ok tt)) (sym (used_is store.used store.table.committed order)) settles;
    full = λ u w m e. cc;
    pages = λ h w m e. absurd (cc);
    sound = λ at found bound e. cc;
  }

  pub not_settled : (directory : ℕ) (next : Committed) (fault : VaultFault) → Settles {T = Unit {0}} (outside_of outside store) (spaces store.used q (outside host)) (settling store.used) (directed directory) (Err fault) →
      IsSettleFault store.table next fault → SettlesAll (outside_of outside store) (spaces store.used q (outside host)) (used_of store) directory (access_of store) (Err fault)
  not_settled directory next fault settles is = record {
    told = tt;
    settled = subst (λ (n : ℕ). Settles {T = Unit {0}} (outside_of outside store) (spaces store.used q (outside host)) (settling n) (directed directory) (Err fault)) (sym (used_is store.used store.table.committed order)) settles;
    full = settle_room store.table next fault is;
    pages = settle_lacks store.table next fault is;
    sound = settle_sound store.table next fault is;
  }
