-- What is shown of a store is shown of its host's device.
use Rattle.std.proofs.Common.{◌≡◌, inl, inr, ⊎_elim, ℕ, ◌≤◌, List, [], ◌∷◌, ◌++◌, length, refl, sym, ◌∙◌, ap, subst, arith, Option, Some, None}
use Rattle.std.proofs.lemmas.Option.{same_Some}
use Rattle.ps_outside.specs.Outside.{Outside}
use Rattle.ps_outside.specs.Past.{KeepsPast}
use Rattle.obj_store.specs.volume_parts.Holding.{Held}
use Rattle.paged_volume.specs.Standing.{held_in}
use Rattle.paged_volume.specs.declared.table.Table.{Table}
use Rattle.obj_layout.specs.Stored.{Space, without_file}
use Rattle.obj_store.specs.declared.source.Source.{Source}
use Rattle.obj_store.specs.Spaces.{spaces_at, space_found, space_held, space_filed, space_of, IsSpaceIn}
use Rattle.commit_moments.specs.Steps.{Step, heap_after, commit_next, StandsForSome, broken}
use Rattle.commit_moments.specs.Shown.{LeavesOnly, Shown, SoFar, BrokeOff}
use Rattle.vault_moments.proofs.VaultLaws.{AsKept}
use Rattle.device_moments.specs.Held.{HeldAs}

unfiled_is : (found : Option Held) → without_file (record (space_found found) { file = [] }) ≡ space_found found
unfiled_is None = refl
unfiled_is (Some held) = refl

-- without its file, the space of a file is what it holds
pub held_unfiled : (bytes : List ℕ) → without_file (space_filed bytes) ≡ space_held bytes
held_unfiled bytes = unfiled_is (held_in bytes)

pub held_is : (found : Option Held) (space : Space) → IsSpaceIn found space → space_found found ≡ space
held_is None space is = absurd (cc)
held_is (Some held) space is = same_Some (space_of held.note.used held) space is

module _ {H : Type 0} (kept_as : Space → H → Type 0) (start : H) (source other : Source) (used next : ℕ) (s t : Table) (a b : Outside (List ℕ)) where
  abbrev pub OfStore : Space → H → Type 0
  OfStore = AsKept kept_as

  pub image_seen : (m : ℕ) (bytes : List ℕ) → b.images m bytes → (spaces_at other next t b).images m (space_filed bytes)
  image_seen m bytes at = record { from = bytes; was = at; by = refl }

  pub held_as : (bytes : List ℕ) (heap : H) → kept_as (without_file (space_filed bytes)) heap → HeldAs kept_as bytes heap
  held_as bytes heap so = subst (λ (x : Space). kept_as x heap) (held_unfiled bytes) so

  -- what a crash could leave at the moments that have been stays byte for byte
  pub device_past : KeepsPast (spaces_at source used s a) (spaces_at other next t b) → KeepsPast a b
  device_past is = record {
    later = is.later;
    kept = λ m bytes le at.
        let now = is.kept m (space_filed bytes) le (record { from = bytes; was = at; by = refl }) in
        subst (λ (file : List ℕ). b.images m file) (ap (λ (x : Space). x.file) now.by) now.was;
    no_other = λ m bytes le at.
        let was = is.no_other m (space_filed bytes) le (image_seen m bytes at) in
        subst (λ (file : List ℕ). a.images m file) (ap (λ (x : Space). x.file) was.by) was.was;
  }

  some_held : (bytes : List ℕ) (heap : Option H) → StandsForSome OfStore (space_filed bytes) heap → StandsForSome (HeldAs kept_as) bytes heap
  some_held bytes None so = so
  some_held bytes (Some heap) so = held_as bytes heap so

  pub device_shown : (steps : List (Step H)) → Shown OfStore start (spaces_at source used s a) (spaces_at other next t b) steps → Shown (HeldAs kept_as) start a b steps
  device_shown steps is = record {
    told_past = is.told_past;
    past = device_past is.past;
    each = λ m bytes low until at.
        let here = is.each m bytes low until at in
        record {
          done = here.done;
          rest = here.rest;
          steps_are = here.steps_are;
          front = here.front;
          is_prefix = here.is_prefix;
          told = here.told;
          leaves = λ x image. ⊎_elim
              (λ old. inl (held_as x (heap_after start here.done) old))
              (λ new. inr (some_held x (commit_next here.rest) new))
              (here.leaves (space_filed x) (image_seen m x image));
        };
  }

  pub device_only : (heap : H) → LeavesOnly OfStore (spaces_at other next t b) heap → LeavesOnly (HeldAs kept_as) b heap
  device_only heap is = λ x at. held_as x heap (is (space_filed x) (image_seen b.clock x at))

  pub device_so_far : (steps : List (Step H)) (owed : List ℕ) → SoFar OfStore start (spaces_at source used s a) (spaces_at other next t b) steps owed → SoFar (HeldAs kept_as) start a b steps owed
  device_so_far steps owed is = record {
    shown = device_shown steps is.shown;
    due = record {
      whole = is.due.whole;
      late = is.due.late;
      steps_are = is.due.steps_are;
      quiet = is.due.quiet;
      sent = is.due.sent;
      late_is = is.due.late_is;
      told = is.due.told;
    };
    leaves = device_only (heap_after start steps) is.leaves;
  }

  pub device_broke_off : (steps : List (Step H)) (heap : H) → BrokeOff OfStore start (spaces_at source used s a) (spaces_at other next t b) steps heap → BrokeOff (HeldAs kept_as) start a b steps heap
  device_broke_off steps heap is = record {
    shown = λ line. device_shown (steps ++ broken line (Some heap) ∷ []) (is.shown line);
    told = is.told;
    leaves = λ x at. ⊎_elim (λ old. inl (held_as x (heap_after start steps) old)) (λ new. inr (held_as x heap new)) (is.leaves (space_filed x) (image_seen b.clock x at));
  }

-- what an image of the host stands for an image of its store does
pub store_only : {H : Type 0} (kept_as : Space → H → Type 0) (source : Source) (used : ℕ) (s : Table) (a : Outside (List ℕ)) (heap : H) → LeavesOnly (HeldAs kept_as) a heap → LeavesOnly (AsKept kept_as) (spaces_at source used s a) heap
store_only kept_as source used s a heap only = λ x at. subst (λ (y : Space). kept_as y heap) (sym (held_unfiled at.from) ∙ ap without_file at.by) (only at.from at.was)

some_word : (found : Option Held) → 1 ≤ length (space_found found).words → (space : Space) × IsSpaceIn found space × (space_found found ≡ space)
some_word None some = absurd (omega arith)
some_word (Some held) some = (space_of held.note.used held, refl, refl)

-- Where what stands has a word, a volume is found in the file that stands.
pub found_as : {H : Type 0} (kept_as : Space → H → Type 0) (bytes : List ℕ) (heap : H) → ((s : Space) → kept_as s heap → 1 ≤ length s.words) → HeldAs kept_as bytes heap
    → (space : Space) × IsSpaceIn (held_in bytes) space × kept_as space heap
found_as kept_as bytes heap some so =
    let there = some_word (held_in bytes) (some (space_held bytes) so) in
    (there.0, there.1, subst (λ (s : Space). kept_as s heap) there.2 so)
