use Rattle.std.proofs.Common.{inr}
use Rattle.ps_port.proofs.of_ps_outside.Moments.{along_then}
use Rattle.volume_parts.proofs.Shutting.{old_then, before_shut}
use Rattle.paged_volume.specs.Making as making
use Rattle.paged_volume.proofs.New.{making_old, making_shut, shut_written}
use Rattle.paged_volume.proofs.making.format.Goals as goal

pub returns-in_err-write_synced-clause-any_moment : goal.returns-in_err-write_synced-clause-any_moment
returns-in_err-write_synced-clause-any_moment g c =
    let o = g.H.Host.outside in
    making_old c.args.pages (o c.args.host.now) (o c.write_synced.new.host) (old_then (o c.args.host.now) (o c.open_gate.new.host) (o c.write_synced.new.host) c.open_gate.ensures.images c.write_synced.ensures.images)

pub fill-requires-clause-shut : goal.fill-requires-clause-shut
fill-requires-clause-shut g c = λ image now. let after = c.in_ok-write_synced.ensures.durable image now in shut_written after.from image after.by

pub returns-in_err-fill-clause-any_moment : goal.returns-in_err-fill-clause-any_moment
returns-in_err-fill-clause-any_moment g c =
    let o = g.H.Host.outside in
    let before = making_old c.args.pages (o c.args.host.now) (o c.write_synced.new.host) (old_then (o c.args.host.now) (o c.open_gate.new.host) (o c.write_synced.new.host) c.open_gate.ensures.images c.write_synced.ensures.images) in
    along_then before c.fill.ensures.any_moment (λ image shut. making_shut (o c.args.host.now) c.args.pages image shut)

pub returns-in_err-open-clause-any_moment : goal.returns-in_err-open-clause-any_moment
returns-in_err-open-clause-any_moment g c =
    let o = g.H.Host.outside in
    let before = making_old c.args.pages (o c.args.host.now) (o c.write_synced.new.host) (old_then (o c.args.host.now) (o c.open_gate.new.host) (o c.write_synced.new.host) c.open_gate.ensures.images c.write_synced.ensures.images) in
    let filled = along_then before c.fill.ensures.any_moment (λ image shut. making_shut (o c.args.host.now) c.args.pages image shut) in
    along_then filled c.open.ensures.any_moment (λ image is. inr (λ opened. is))

pub returns-clause-any_moment : goal.returns-clause-any_moment
returns-clause-any_moment g c =
    let o = g.H.Host.outside in
    let before = making_old c.args.pages (o c.args.host.now) (o c.write_synced.new.host) (old_then (o c.args.host.now) (o c.open_gate.new.host) (o c.write_synced.new.host) c.open_gate.ensures.images c.write_synced.ensures.images) in
    let filled = along_then before c.fill.ensures.any_moment (λ image shut. making_shut (o c.args.host.now) c.args.pages image shut) in
    along_then filled c.open.ensures.any_moment (λ image is. inr (λ opened. is))

pub returns-in_err-write_synced-clause-gate : goal.returns-in_err-write_synced-clause-gate
returns-in_err-write_synced-clause-gate g c =
    let o = g.H.Host.outside in
    making.not_shut (old_then (o c.args.host.now) (o c.open_gate.new.host) (o c.write_synced.new.host) c.open_gate.ensures.images c.write_synced.ensures.images)

pub returns-in_err-fill-clause-gate : goal.returns-in_err-fill-clause-gate
returns-in_err-fill-clause-gate g c =
    let before = before_shut g.H.Host.outside c.args.pages c.args.host.now c.open_gate.new.host c.write_synced.new.host c.open_gate.ensures.images c.write_synced.ensures.images
    c.open_gate.ensures.calls c.write_synced.ensures.calls in
    making.still_shut c.write_synced.new.host before c.fill.ensures.any_moment

pub returns-in_err-open-clause-gate : goal.returns-in_err-open-clause-gate
returns-in_err-open-clause-gate g c =
    let before = before_shut g.H.Host.outside c.args.pages c.args.host.now c.open_gate.new.host c.write_synced.new.host c.open_gate.ensures.images c.write_synced.ensures.images
    c.open_gate.ensures.calls c.write_synced.ensures.calls in
    making.opened (record {
      shut = c.write_synced.new.host;
      full = c.fill.new.host;
      before = before;
      stays = c.fill.ensures.any_moment;
      opens = c.open.ensures.any_moment;
      calls = c.open.ensures.calls;
    })

pub returns-clause-gate : goal.returns-clause-gate
returns-clause-gate g c =
    let before = before_shut g.H.Host.outside c.args.pages c.args.host.now c.open_gate.new.host c.write_synced.new.host c.open_gate.ensures.images c.write_synced.ensures.images
    c.open_gate.ensures.calls c.write_synced.ensures.calls in
    making.opened (record {
      shut = c.write_synced.new.host;
      full = c.fill.new.host;
      before = before;
      stays = c.fill.ensures.any_moment;
      opens = c.open.ensures.any_moment;
      calls = c.open.ensures.calls;
    })

pub returns-clause-opened : goal.returns-clause-opened
returns-clause-opened g c =
    let before = before_shut g.H.Host.outside c.args.pages c.args.host.now c.open_gate.new.host c.write_synced.new.host c.open_gate.ensures.images c.write_synced.ensures.images
    c.open_gate.ensures.calls c.write_synced.ensures.calls in
    record {
      shut = c.write_synced.new.host;
      full = c.fill.new.host;
      before = before;
      stays = c.fill.ensures.any_moment;
      opens = c.open.ensures.any_moment;
      calls = c.open.ensures.calls;
    }
