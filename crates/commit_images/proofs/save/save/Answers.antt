use Rattle.std.proofs.Common.{◌≡◌, ◌+◌, ◌≤◌, ◌∙◌, subst}
use Rattle.swizzle.specs.obj_layout.Stored.{Space, directed}
use Rattle.swizzle.specs.obj_layout.Storing.{settling}
use Rattle.commit_images.specs.Images.{words_of, with_images, over_images, new_in, changed_in}
use Rattle.commit_images.specs.Saved.{saved, saving}
use Rattle.commit_images.proofs.StagingLaws.{stages-then, becomes-then}
use Rattle.commit_images.proofs.SaveLaws.{settles-broken, settles-ok, settles-err, saved-is, both-become, few-calls, fails-changed, fails-new, fails-settled}
use Rattle.commit_images.proofs.save.save.Goals as goal

pub returns-in-Err-overwrite_all-clause-settles : goal.returns-in-Err-overwrite_all-clause-settles
returns-in-Err-overwrite_all-clause-settles g c =
    let a = g.V.Vault.outside c.args.vault.now in
    let b = g.V.Vault.outside c.append_all.new.vault in
    let d = g.V.Vault.outside c.overwrite_all.new.vault in
    let sw = c.args.sw.now in
    let new = new_in sw c.args.first in
    let changed = changed_in sw c.args.first in
    let s = c.in-Ok.ensures.stages in
    let f = fails-changed sw new changed a b d (g.V.Vault.used_words c.args.vault.now) (g.V.Vault.used_words c.append_all.new.vault) (g.V.Vault.most_words c.args.vault.now) c.in-Err-overwrite_all.fault s c.in-Err-overwrite_all.ensures.stages c.in-Ok.ensures.stored.1 c.in-Err-overwrite_all.ensures.stored in
    settles-broken a d (saving sw new changed (g.V.Vault.used_words c.args.vault.now + words_of sw new)) (saved sw new changed c.args.directory) c.in-Err-overwrite_all.fault
    (stages-then a b d s c.in-Err-overwrite_all.ensures.stages) f.device f.output

pub returns-in-Err-overwrite_all-clause-fault : goal.returns-in-Err-overwrite_all-clause-fault
returns-in-Err-overwrite_all-clause-fault g c =
    let sw = c.args.sw.now in
    fails-changed sw (new_in sw c.args.first) (changed_in sw c.args.first) (g.V.Vault.outside c.args.vault.now) (g.V.Vault.outside c.append_all.new.vault) (g.V.Vault.outside c.overwrite_all.new.vault)
    (g.V.Vault.used_words c.args.vault.now) (g.V.Vault.used_words c.append_all.new.vault) (g.V.Vault.most_words c.args.vault.now) c.in-Err-overwrite_all.fault c.in-Ok.ensures.stages c.in-Err-overwrite_all.ensures.stages c.in-Ok.ensures.stored.1 c.in-Err-overwrite_all.ensures.stored

pub returns-in-Ok-settle-clause-becomes : goal.returns-in-Ok-settle-clause-becomes
returns-in-Ok-settle-clause-becomes g c =
    let a = g.V.Vault.outside c.args.vault.now in
    let b = g.V.Vault.outside c.append_all.new.vault in
    let d = g.V.Vault.outside c.overwrite_all.new.vault in
    let e = g.V.Vault.outside c.settle.new.self in
    let sw = c.args.sw.now in
    let new = new_in sw c.args.first in
    let changed = changed_in sw c.args.first in
    let both = both-become sw new changed a b d (g.V.Vault.used_words c.args.vault.now) (g.V.Vault.used_words c.append_all.new.vault) (g.V.Vault.most_words c.args.vault.now) c.in-Ok.ensures.stored.1 c.in-Ok-overwrite_all.ensures.stored.1 in
    becomes-then a d e (λ (space : Space). over_images sw changed (with_images sw new space)) (directed c.args.directory) (saved sw new changed c.args.directory) both c.in-Ok-settle.ensures.told (saved-is sw new changed c.args.directory)

pub returns-in-Ok-settle-clause-settles : goal.returns-in-Ok-settle-clause-settles
returns-in-Ok-settle-clause-settles g c =
    let a = g.V.Vault.outside c.args.vault.now in
    let b = g.V.Vault.outside c.append_all.new.vault in
    let d = g.V.Vault.outside c.overwrite_all.new.vault in
    let e = g.V.Vault.outside c.settle.new.self in
    let sw = c.args.sw.now in
    let new = new_in sw c.args.first in
    let changed = changed_in sw c.args.first in
    let used = g.V.Vault.used_words c.args.vault.now + words_of sw new in
    let s = stages-then a b d c.in-Ok.ensures.stages c.in-Ok-overwrite_all.ensures.stages in
    let both = both-become sw new changed a b d (g.V.Vault.used_words c.args.vault.now) (g.V.Vault.used_words c.append_all.new.vault) (g.V.Vault.most_words c.args.vault.now) c.in-Ok.ensures.stored.1 c.in-Ok-overwrite_all.ensures.stored.1 in
    let now : g.V.Vault.used_words c.overwrite_all.new.vault ≡ used = c.in-Ok-overwrite_all.ensures.numbers.0 ∙ c.in-Ok.ensures.stored.1.used_is in
    let last = subst (λ n. e.device_calls ≤ d.device_calls + settling n) now c.in-Ok-settle.ensures.settled.calls in
    settles-ok a d e (λ (space : Space). over_images sw changed (with_images sw new space)) (directed c.args.directory) (saved sw new changed c.args.directory) s both (saved-is sw new changed c.args.directory)
    (settling (g.V.Vault.used_words c.overwrite_all.new.vault)) (saving sw new changed used) c.in-Ok-settle.field-0 (record { fresh = c.in-Ok.count; rewritten = c.in-Ok-overwrite_all.count }) c.in-Ok-settle.ensures.settled
    (few-calls sw new changed a.device_calls b.device_calls d.device_calls e.device_calls used c.in-Ok.ensures.stored.1.calls c.in-Ok-overwrite_all.ensures.stored.1.calls last)

pub returns-in-Err-settle-clause-settles : goal.returns-in-Err-settle-clause-settles
returns-in-Err-settle-clause-settles g c =
    let a = g.V.Vault.outside c.args.vault.now in
    let b = g.V.Vault.outside c.append_all.new.vault in
    let d = g.V.Vault.outside c.overwrite_all.new.vault in
    let e = g.V.Vault.outside c.settle.new.self in
    let sw = c.args.sw.now in
    let new = new_in sw c.args.first in
    let changed = changed_in sw c.args.first in
    let s = stages-then a b d c.in-Ok.ensures.stages c.in-Ok-overwrite_all.ensures.stages in
    let both = both-become sw new changed a b d (g.V.Vault.used_words c.args.vault.now) (g.V.Vault.used_words c.append_all.new.vault) (g.V.Vault.most_words c.args.vault.now) c.in-Ok.ensures.stored.1 c.in-Ok-overwrite_all.ensures.stored.1 in
    settles-err a d e (λ (space : Space). over_images sw changed (with_images sw new space)) (directed c.args.directory) (saved sw new changed c.args.directory) s both (saved-is sw new changed c.args.directory)
    (settling (g.V.Vault.used_words c.overwrite_all.new.vault)) (saving sw new changed (g.V.Vault.used_words c.args.vault.now + words_of sw new)) c.in-Err-settle.fault c.in-Err-settle.ensures.settled

pub returns-in-Err-clause-fault : goal.returns-in-Err-clause-fault
returns-in-Err-clause-fault g c =
    let sw = c.args.sw.now in
    fails-new sw (new_in sw c.args.first) (changed_in sw c.args.first) (g.V.Vault.outside c.args.vault.now) (g.V.Vault.outside c.append_all.new.vault) (g.V.Vault.used_words c.args.vault.now)
    (g.V.Vault.most_words c.args.vault.now) c.in-Err.fault c.in-Err.ensures.stages c.in-Err.ensures.stored

pub returns-in-Err-settle-clause-fault : goal.returns-in-Err-settle-clause-fault
returns-in-Err-settle-clause-fault g c =
    let sw = c.args.sw.now in
    fails-settled sw (new_in sw c.args.first) (changed_in sw c.args.first) (g.V.Vault.outside c.args.vault.now) (g.V.Vault.outside c.append_all.new.vault) (g.V.Vault.outside c.overwrite_all.new.vault)
    (g.V.Vault.outside c.settle.new.self) (g.V.Vault.used_words c.args.vault.now) (g.V.Vault.used_words c.append_all.new.vault) (g.V.Vault.most_words c.args.vault.now)
    (settling (g.V.Vault.used_words c.overwrite_all.new.vault)) (directed c.args.directory) c.in-Err-settle.fault c.in-Ok.ensures.stages c.in-Ok-overwrite_all.ensures.stages
    c.in-Ok.ensures.stored.1 c.in-Ok-overwrite_all.ensures.stored.1 c.in-Err-settle.ensures.settled c.in-Err-settle.ensures.full c.in-Err-settle.ensures.sound
