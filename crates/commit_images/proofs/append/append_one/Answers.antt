use Rattle.std.proofs.Common.{ℕ, List, sym, ap, ◌∙◌, subst, arith}
use Rattle.std.specs.Prelude.{Err}
use Rattle.std.proofs.lemmas.List.{length-take-le}
use Rattle.swizzle.specs.obj_layout.Storing.{Becomes}
use Rattle.swizzle.specs.obj_layout.Stored.{appended}
use Rattle.commit_images.specs.Images.{is_new}
use Rattle.commit_images.specs.Staging.{Appends, FailsAppend}
use Rattle.commit_images.proofs.StagingLaws.{appends-none, appends-one, append_fails-one}
use Rattle.commit_images.proofs.OneLaws.{none-of, one-of, one-ready}
use Rattle.commit_images.proofs.append.append_one.Goals as goal

pub returns-then-not-has_new_pid-clause-stored : goal.returns-then-not-has_new_pid-clause-stored
returns-then-not-has_new_pid-clause-stored g c =
    let sw = c.args.sw.now in
    let outside = g.V.Vault.outside c.args.vault.now in
    let no = sym c.has_new_pid.ensures ∙ c.if-not-has_new_pid.true in
    let used = g.V.Vault.used_words c.args.vault.now in
    let most = g.V.Vault.most_words c.args.vault.now in
    (sym no, subst (λ (xs : List ℕ). Appends sw xs outside outside used used most) (sym (none-of (is_new sw c.args.first) c.args.object no)) (appends-none sw outside used most))

pub make_image-count-requires-clause-pids : goal.make_image-count-requires-clause-pids
make_image-count-requires-clause-pids g c =
    one-ready c.args.sw.now (is_new c.args.sw.now c.args.first) c.args.object (sym c.has_new_pid.ensures ∙ c.if-not-has_new_pid.false) c.requires.ready

pub returns-in-Ok-clause-stored : goal.returns-in-Ok-clause-stored
returns-in-Ok-clause-stored g c =
    let sw = c.args.sw.now in
    let a = g.V.Vault.outside c.args.vault.now in
    let b = g.V.Vault.outside c.append.new.self in
    let yes = sym c.has_new_pid.ensures ∙ c.if-not-has_new_pid.false in
    let used = g.V.Vault.used_words c.args.vault.now in
    let now = g.V.Vault.used_words c.append.new.self in
    let most = g.V.Vault.most_words c.args.vault.now in
    let image = c.make_image-count.ensures.image in
    let long = length-take-le c.make_image-count.result c.make_image-count.new.buffer c.make_image-count.ensures.within in
    let becomes = subst (λ (ws : List ℕ). Becomes a b (appended ws)) image c.in-Ok.ensures.told in
    let one = appends-one sw c.args.object a b used now most c.make_image-count.result c.append.result c.in-Ok.field-0 becomes (omega (arith, c.in-Ok.ensures.used, long)) (omega (arith, c.in-Ok.ensures.room, long)) c.make_image-count.ensures.count
    (omega (arith, c.in-Ok.ensures.call.calls, long)) in
    (sym yes, subst (λ (xs : List ℕ). Appends sw xs a b used now most) (sym (one-of (is_new sw c.args.first) c.args.object yes)) one)

pub returns-in-Err-clause-stored : goal.returns-in-Err-clause-stored
returns-in-Err-clause-stored g c =
    let sw = c.args.sw.now in
    let a = g.V.Vault.outside c.args.vault.now in
    let b = g.V.Vault.outside c.append.new.self in
    let yes = sym c.has_new_pid.ensures ∙ c.if-not-has_new_pid.false in
    let used = g.V.Vault.used_words c.args.vault.now in
    let most = g.V.Vault.most_words c.args.vault.now in
    let long = length-take-le c.make_image-count.result c.make_image-count.new.buffer c.make_image-count.ensures.within in
    let one = append_fails-one sw c.args.object a b used most c.make_image-count.result c.in-Err.fault
    (λ e. c.in-Err.ensures.call.cause (ap Err e)) (λ e. c.in-Err.ensures.call.other (ap Err e)) (λ at found bound e. c.in-Err.ensures.sound at found bound (ap Err e)) c.make_image-count.ensures.count
    (λ u w k e. let f = c.in-Err.ensures.full u w k (ap Err e) in (f.0, f.1 ∙ long, f.2, f.3)) in
    subst (λ (xs : List ℕ). FailsAppend sw xs a b used most c.in-Err.fault) (sym (one-of (is_new sw c.args.first) c.args.object yes)) one
