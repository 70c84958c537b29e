use Rattle.std.proofs.Common.{◌+◌, sym, ap, ◌∙◌, subst}
use Rattle.std.specs.Prelude.{Ok, Err}
use Rattle.swizzle.specs.obj_layout.Stored.{IsSpace}
use Rattle.swizzle.specs.obj_layout.Storing.{Becomes, Settles}
use Rattle.commit_images.specs.Images.{words_of, new_in, changed_in}
use Rattle.commit_images.specs.Saved.{saved, saving, FailsSave}
use Rattle.reach_commit.specs.Committing.{Saves, BreaksOff}
use Rattle.reach_commit.proofs.ClearLaws.{Clears, clears-then, clears-marks, clears-reached}
use Rattle.reach_commit.proofs.SavesLaws.{settles-as-err, saves, breaks-off}
use Rattle.reach_commit.proofs.store.store.Goals as goal

pub returns-clause-stored : goal.returns-clause-stored
returns-clause-stored g c =
    let old = c.args.sw.now in
    let mid = c.make_ready-first.new.sw in
    let cleared = c.clear_assigned.new.self in
    let new = c.clear_reached.new.self in
    let first = c.make_ready-first.result in
    let first_is = c.make_ready-first.ensures.first in
    let fresh = new_in mid first in
    let changed = changed_in mid first in
    let words = words_of mid fresh in
    let before = g.V.Vault.outside c.args.vault.now in
    let after = g.V.Vault.outside c.save.new.vault in
    let directory_before = g.V.Vault.directory_at c.args.vault.now in
    let e = c.in-Ok.ensures in
    let pid = c.pid_of-named.ensures in
    let clears = clears-then mid cleared new (subst (Clears mid) (sym c.clear_assigned.ensures.written) (clears-marks mid)) (subst (Clears cleared) (sym c.clear_reached.ensures.written) (clears-reached cleared)) in
    let becomes = subst (λ d. Becomes before after (saved mid fresh changed d)) pid e.becomes in
    let settles = subst (λ n. Settles before after (saving mid fresh changed (n + words)) (saved mid fresh changed (c.pid_of-named.result)) (Ok c.in-Ok.saved)) (sym first_is) e.settles in
    let settled = subst (λ d. Settles before after (saving mid fresh changed (first + words)) (saved mid fresh changed d) (Ok c.in-Ok.saved)) pid settles in
    subst (λ n. Saves old new c.args.writing.now c.args.directory before after n (g.V.Vault.used_words c.save.new.vault) (g.V.Vault.most_words c.args.vault.now) (g.V.Vault.directory_at c.save.new.vault) c.in-Ok.saved.fresh c.in-Ok.saved.rewritten) first_is
    (saves old mid new c.args.writing.now c.args.directory first directory_before before after c.make_ready-first.ensures.was c.make_ready-first.ensures.sound c.make_ready-first.ensures.ready c.make_ready-first.ensures.moved clears
    (λ space is. subst (λ n. IsSpace n directory_before space) (sym first_is) (g.met.V.Vault.space c.args.vault.now space is))
    (g.met.V.Vault.one c.args.vault.now) becomes e.there
    (g.V.Vault.used_words c.save.new.vault) (g.V.Vault.most_words c.args.vault.now) (g.V.Vault.directory_at c.save.new.vault) c.in-Ok.saved.fresh c.in-Ok.saved.rewritten c.in-Ok.saved e.counted.0 e.counted.1
    (ap (λ h. h.assigned) c.clear_reached.ensures.written ∙ ap (λ h. h.assigned) c.clear_assigned.ensures.written)
    (ap (λ h. h.reached) c.clear_reached.ensures.written)
    (e.used ∙ ap (λ n. n + words) (sym first_is)) e.room (e.directory ∙ pid) settled)

pub returns-in-Err-clause-stored : goal.returns-in-Err-clause-stored
returns-in-Err-clause-stored g c =
    let old = c.args.sw.now in
    let mid = c.make_ready-first.new.sw in
    let first = c.make_ready-first.result in
    let first_is = c.make_ready-first.ensures.first in
    let fresh = new_in mid first in
    let changed = changed_in mid first in
    let words = words_of mid fresh in
    let before = g.V.Vault.outside c.args.vault.now in
    let after = g.V.Vault.outside c.save.new.vault in
    let directory_before = g.V.Vault.directory_at c.args.vault.now in
    let most = g.V.Vault.most_words c.args.vault.now in
    let e = c.in-Err.ensures in
    let pid = c.pid_of-named.ensures in
    let fault = c.in-Err.fault in
    let broke = settles-as-err {T = Unit {0}} before after (saving mid fresh changed (g.V.Vault.used_words c.args.vault.now + words)) (saved mid fresh changed (c.pid_of-named.result)) fault e.settles in
    let settles = subst (λ n. Settles {T = Unit {0}} before after (saving mid fresh changed (n + words)) (saved mid fresh changed (c.pid_of-named.result)) (Err fault)) (sym first_is) broke in
    let settled = subst (λ d. Settles {T = Unit {0}} before after (saving mid fresh changed (first + words)) (saved mid fresh changed d) (Err fault)) pid settles in
    let fails = subst (λ n. FailsSave mid fresh changed before after n most fault) (sym first_is) e.fault in
    subst (λ n. BreaksOff old mid c.args.writing.now c.args.directory before after n most fault) first_is
    (breaks-off old mid c.args.writing.now c.args.directory first directory_before most before after fault c.make_ready-first.ensures.was c.make_ready-first.ensures.sound c.make_ready-first.ensures.ready
    c.make_ready-first.ensures.moved (λ space is. subst (λ n. IsSpace n directory_before space) (sym first_is) (g.met.V.Vault.space c.args.vault.now space is)) (g.met.V.Vault.one c.args.vault.now) settled fails)
