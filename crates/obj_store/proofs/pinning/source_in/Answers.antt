use Rattle.std.proofs.Common.{◌∙◌, sym, refl, subst}
use Rattle.volume_parts.specs.declared.note.Note.{Note}
use Rattle.obj_store.specs.declared.source.Source.TheVariants.{Pinned}
use Rattle.obj_store.specs.Viewing.{IsViewed, IsFew}
use Rattle.obj_store.proofs.ViewLaws.{held_some, viewed_latest, viewed_older, commit_few}
use Rattle.obj_store.proofs.pinning.source_in.Goals as goal

pub returns-then-is_current-clause-viewed : goal.returns-then-is_current-clause-viewed
returns-then-is_current-clause-viewed g c =
    let t = c.args.volume.now.table in
    let held = held_some t c.args.pin c.requires.pin in
    (refl, viewed_latest t c.args.pin held.0 c.requires.alive.is_table held.1 (sym (c.is_current.ensures held.0 held.1) ∙ c.if-is_current.true))

pub returns-clause-viewed : goal.returns-clause-viewed
returns-clause-viewed g c =
    let t = c.args.volume.now.table in
    let held = held_some t c.args.pin c.requires.pin in
    let older = viewed_older t c.args.pin held.0 held.1 (sym (c.is_current.ensures held.0 held.1) ∙ c.if-is_current.false) in
    subst (λ (n : Note). IsViewed t c.args.pin (Pinned c.args.pin n)) (sym (c.pinned_note.ensures held.0 held.1)) (refl, older)

pub returns-clause-few : goal.returns-clause-few
returns-clause-few g c =
    let t = c.args.volume.now.table in
    let held = held_some t c.args.pin c.requires.pin in
    subst (λ (n : Note). IsFew (Pinned c.args.pin n)) (sym (c.pinned_note.ensures held.0 held.1)) (commit_few t c.args.pin held.0 c.requires.alive.is_table held.1)
