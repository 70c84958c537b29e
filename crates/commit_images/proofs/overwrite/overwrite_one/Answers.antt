use Rattle.std.proofs.Common.{ℕ, List, sym, ap, ◌∙◌, subst, arith}
use Rattle.std.specs.Prelude.{Err, Some}
use Rattle.std.proofs.lemmas.List.{length-take-le}
use Rattle.swizzle.specs.obj_layout.Storing.{Becomes}
use Rattle.swizzle.specs.obj_layout.Stored.{overwritten, damage_at}
use Rattle.commit_images.specs.Images.{is_changed}
use Rattle.commit_images.specs.Staging.{Overwrites, FailsOverwrite}
use Rattle.commit_images.proofs.StagingLaws.{overwrites-none, overwrites-one, overwrite_fails-one}
use Rattle.commit_images.proofs.OneLaws.{none-of, one-of, one-ready}
use Rattle.commit_images.proofs.overwrite.overwrite_one.Goals as goal

pub returns-then-not-is_written_anew-clause-stored : goal.returns-then-not-is_written_anew-clause-stored
returns-then-not-is_written_anew-clause-stored g c =
    let sw = c.args.sw.now in
    let outside = g.V.Vault.outside c.args.vault.now in
    let no = sym c.is_written_anew.ensures ∙ c.if-not-is_written_anew.true in
    (sym no, subst (λ (xs : List ℕ). Overwrites sw xs outside outside) (sym (none-of (is_changed sw c.args.first) c.args.object no)) (overwrites-none sw outside))

pub make_image-count-requires-clause-pids : goal.make_image-count-requires-clause-pids
make_image-count-requires-clause-pids g c =
    one-ready c.args.sw.now (is_changed c.args.sw.now c.args.first) c.args.object (sym c.is_written_anew.ensures ∙ c.if-not-is_written_anew.false) c.requires.ready

pub returns-in-Ok-clause-stored : goal.returns-in-Ok-clause-stored
returns-in-Ok-clause-stored g c =
    let sw = c.args.sw.now in
    let a = g.V.Vault.outside c.args.vault.now in
    let b = g.V.Vault.outside c.overwrite.new.self in
    let yes = sym c.is_written_anew.ensures ∙ c.if-not-is_written_anew.false in
    let image = c.make_image-count.ensures.image in
    let long = length-take-le c.make_image-count.result c.make_image-count.new.buffer c.make_image-count.ensures.within in
    let becomes = subst (λ (ws : List ℕ). Becomes a b (overwritten c.pid.result ws)) image c.in-Ok.ensures.told in
    let one = overwrites-one sw c.args.object a b c.pid.result c.make_image-count.result becomes c.pid.ensures c.make_image-count.ensures.count
    (λ space held. ap (λ n. damage_at space.words c.pid.result (Some n)) (sym long) ∙ c.in-Ok.ensures.tested.sound space held) (omega (arith, c.in-Ok.ensures.call.calls, long)) in
    (sym yes, subst (λ (xs : List ℕ). Overwrites sw xs a b) (sym (one-of (is_changed sw c.args.first) c.args.object yes)) one)

pub returns-in-Err-clause-stored : goal.returns-in-Err-clause-stored
returns-in-Err-clause-stored g c =
    let sw = c.args.sw.now in
    let a = g.V.Vault.outside c.args.vault.now in
    let b = g.V.Vault.outside c.overwrite.new.self in
    let yes = sym c.is_written_anew.ensures ∙ c.if-not-is_written_anew.false in
    let long = length-take-le c.make_image-count.result c.make_image-count.new.buffer c.make_image-count.ensures.within in
    let one = overwrite_fails-one sw c.args.object a b c.pid.result c.make_image-count.result c.in-Err.fault
    (λ e. c.in-Err.ensures.call.cause (ap Err e)) (λ e. c.in-Err.ensures.call.other (ap Err e)) (λ u w k e. c.in-Err.ensures.full u w k (ap Err e)) c.pid.ensures c.make_image-count.ensures.count
    (λ at found bound e. c.in-Err.ensures.tested.at_pid at found bound (ap Err e))
    (λ at found bound e space held. ap (λ n. damage_at space.words c.pid.result (Some n)) (sym long) ∙ c.in-Err.ensures.tested.damaged at found bound (ap Err e) space held) in
    subst (λ (xs : List ℕ). FailsOverwrite sw xs a b c.in-Err.fault) (sym (one-of (is_changed sw c.args.first) c.args.object yes)) one
