-- An attached store holds what is committed in the file.
use Rattle.std.proofs.Common.{◌≡◌, ℕ, ◌-◌, ◌*◌, ◌≤◌, Bool, List, length, get_or, replicate, refl, sym, ◌∙◌, ap, arith, Option, Some, []}
use Rattle.std.specs.Option.{option_map}
use Rattle.obj_layout.specs.ps_outside.Outside.{Outside, After}
use Rattle.paged_volume.specs.Layout.{capacity_pages}
use Rattle.volume_parts.specs.Holding.{Held}
use Rattle.paged_volume.specs.Standing.{IsFit, Says, held_in, with_zeros, seen, staged_in, committed_in, logical_of}
use Rattle.paged_volume.specs.Attaching.{IsAttached}
use Rattle.paged_volume.specs.declared.table.Table.{Table}
use Rattle.paged_volume.specs.Found.{bytes_named}
use Rattle.paged_volume.proofs.Held.{held_says, length_bytes}
use Rattle.obj_layout.specs.Stored.{Space}
use Rattle.obj_store.specs.Spaces.{space_of, IsInOrder, spaces}
use Rattle.obj_store.specs.Opening.{IsSpaceOf}
use Rattle.obj_store.proofs.SettleLaws.{zeros_words}

-- the words that are committed lie before the zeros
zeros_space : (table : Table) (bytes : List ℕ) → IsFit table.committed →
    space_of table.committed.note.used (with_zeros table.committed.pages (committed_in table bytes)) ≡ space_of table.committed.note.used (committed_in table bytes)
zeros_space table bytes fit =
    let used = table.committed.note.used in
    let front = bytes_named (λ page. get_or table.map.committed page 0) (logical_of table.committed) bytes in
    let long : 8 * used ≤ length front = omega (arith, length_bytes (λ page. get_or table.map.committed page 0) (logical_of table.committed) bytes) in
    λ i. record { words = zeros_words used front (replicate (4096 * capacity_pages table.committed.pages - length front) 0) long i; directory = table.committed.note.directory; file = [] }

module _ (old new : Outside (List ℕ)) (lives : Bool) (table : Table) (is : IsAttached old new lives table) (law : (bytes : List ℕ) → new.contents bytes → new.images new.clock bytes) where
  says : (bytes : List ℕ) → old.contents bytes → Says table bytes
  says bytes was = is.alive.says bytes (law bytes (is.looks.same.kept bytes was))

  held_there : (bytes : List ℕ) → old.contents bytes → held_in bytes ≡ Some (committed_in table bytes)
  held_there bytes was = held_says table bytes is.alive.is_table.fit is.alive.is_table.once (says bytes was)

  pub opened_order : IsInOrder table.committed.note.used table.committed
  opened_order = record { fit = is.alive.is_table.fit; below = is.alive.is_table.fit.below; within = is.alive.is_table.fit.within }

  pub opened_holds : (space : Space) → (spaces table.committed.note.used table new).contents space → After old.contents IsSpaceOf space
  opened_holds space told =
      let at = is.holds told.staged.from told.staged.was in
      let bytes = at.from in
      let held = held_there bytes at.was in
      let whole : Some (with_zeros table.committed.pages (committed_in table bytes)) ≡ told.staged.from =
      sym (ap (λ (o : Option Held). option_map (with_zeros table.committed.pages) o) held) ∙ at.by in
      let there : Some (space_of table.committed.note.used (with_zeros table.committed.pages (committed_in table bytes))) ≡ Some space =
      ap (λ (o : Option Held). option_map (space_of table.committed.note.used) o) whole ∙ told.staged.by in
      record {
        from = bytes;
        was = at.was;
        by = ap (λ (o : Option Held). option_map (λ held. space_of held.note.used held) o) held
            ∙ ap (λ (s : Space). Some s) (sym (zeros_space table bytes is.alive.is_table.fit))
            ∙ there;
      }

  pub opened_stays : ((x y : List ℕ) → old.contents x → old.contents y → x ≡ y) → (space : Space) → After old.contents IsSpaceOf space → (spaces table.committed.note.used table new).contents space
  opened_stays one space after =
      let now : (seen table new).contents (Some (staged_in table after.from)) =
      record { from = after.from; was = is.looks.same.kept after.from after.was; by = refl } in
      let at = is.holds (Some (staged_in table after.from)) now in
      let same = one at.from after.from at.was after.was in
      let held = held_there after.from after.was in
      let whole : Some (with_zeros table.committed.pages (committed_in table after.from)) ≡ Some (staged_in table after.from) =
      sym (ap (λ (o : Option Held). option_map (with_zeros table.committed.pages) o) (ap held_in same ∙ held)) ∙ at.by in
      let here : Some (space_of table.committed.note.used (committed_in table after.from)) ≡ Some space =
      sym (ap (λ (o : Option Held). option_map (λ held. space_of held.note.used held) o) held) ∙ after.by in
      record {
        order = opened_order;
        staged = record {
          from = Some (staged_in table after.from);
          was = now;
          by = ap (λ (o : Option Held). option_map (space_of table.committed.note.used) o) (sym whole)
              ∙ ap (λ (s : Space). Some s) (zeros_space table after.from is.alive.is_table.fit)
              ∙ here;
        };
      }
