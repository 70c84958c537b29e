use Rattle.std.proofs.Common.{◌≡◌, ℕ, sym, ap, subst, refl}
use Rattle.obj_layout.specs.ps_outside.Outside.{After}
use Rattle.volume_parts.specs.declared.note.Note.{Note}
use Rattle.obj_layout.specs.Stored.{Space}
use Rattle.obj_store.specs.Spaces.{IsInOrder, spaces}
use Rattle.obj_store.specs.Opening.{IsSpaceOf}
use Rattle.volume_parts.specs.Layout.{pages_of_words}
use Rattle.paged_volume.specs.Staging.{HasPages}
use Rattle.paged_volume.proofs.Bounds.{are_low}
use Rattle.paged_volume.proofs.Tables.{committed_staged}
use Rattle.obj_store.proofs.KeptLaws.{none_kept}
use Rattle.obj_store.proofs.OpenLaws.{opened_order, opened_holds, opened_stays}
use Rattle.obj_store.proofs.store.ObjStore.attach.Goals as goal

pub returns-in-Ok-attach-clause-ok : goal.returns-in-Ok-attach-clause-ok
returns-in-Ok-attach-clause-ok g c =
    let o = g.H.Host.outside in
    let v = c.in-Ok-attach.volume in
    let is = c.in-Ok-attach.ensures.ok in
    let old = o c.args.host in
    let new = o v.host in
    let used : c.note-used.result.used ≡ v.table.committed.note.used = ap (λ (n : Note). n.used) c.note-used.ensures in
    record {
      looks = is.looks;
      few = (are_low v.table.committed is.alive.is_table.fit).few;
      settles = is.settles;
      found = is.found;
      live = refl;
      used = used;
      unstaged = refl;
      unpinned = is.unpinned;
      holds = subst (λ (n : ℕ). (space : Space) → (spaces n v.table new).contents space → After old.contents IsSpaceOf space) (sym used)
          (opened_holds old new v.live v.table is (g.met.H.Host.is_image v.host));
      stays = subst (λ (n : ℕ). (space : Space) → After old.contents IsSpaceOf space → (spaces n v.table new).contents space) (sym used)
          (opened_stays old new v.live v.table is (g.met.H.Host.is_image v.host) (g.met.H.Host.one c.args.host));
    }

pub invariant_of-result : goal.invariant_of-result
invariant_of-result g c =
    let o = g.H.Host.outside in
    let v = c.in-Ok-attach.volume in
    let is = c.in-Ok-attach.ensures.ok in
    let used : c.note-used.result.used ≡ v.table.committed.note.used = ap (λ (n : Note). n.used) c.note-used.ensures in
    record {
      order = subst (λ (n : ℕ). IsInOrder n v.table.committed) (sym used) (opened_order (o c.args.host) (o v.host) v.live v.table is (g.met.H.Host.is_image v.host));
      alive = λ live. is.alive;
      has = λ live. subst (λ (n : ℕ). HasPages v.table (pages_of_words n)) (sym used) (λ page lt. committed_staged v.table is.alive.is_table page lt);
      pages = λ live. none_kept c.in-Ok.kept.places.items v.table (o v.host) c.in-Ok.ensures;
      unstaged = λ live no. record { pages = is.blank; words = used };
    }
