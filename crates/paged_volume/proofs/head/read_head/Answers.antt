use Rattle.std.proofs.Common.{inl, inr, sym, ◌∙◌}
use Rattle.paged_volume.proofs.Tests.{refused_none, refused_head, head_was_read, not_some}
use Rattle.paged_volume.proofs.head.read_head.Goals.{then-size-lt-LEAST_BYTES-via-then-size-lt-LEAST_BYTES, then-size-lt-LEAST_BYTES-via-else-size-lt-LEAST_BYTES+then-gate-ne1}
use Rattle.paged_volume.proofs.head.read_head.Goals as goal

pub returns-then-size-lt-LEAST_BYTES-clause-cause : goal.returns-then-size-lt-LEAST_BYTES-clause-cause
returns-then-size-lt-LEAST_BYTES-clause-cause g c =
    let o = g.H.Host.outside in
    refused_none (o c.args.host.now) (o c.read_gate.new.host) c.in_ok-size.size c.in_ok-gate.gate c.in_ok-size.ensures.size
    (λ bytes now. c.in_ok-gate.ensures.gate bytes (c.size.ensures.contents.kept bytes now))
    (elim c.then-size-lt-LEAST_BYTES.branch [
      | then-size-lt-LEAST_BYTES-via-then-size-lt-LEAST_BYTES w ↦ inl w.if-size-lt-LEAST_BYTES.true
      | then-size-lt-LEAST_BYTES-via-else-size-lt-LEAST_BYTES+then-gate-ne1 w ↦ inr w.if-gate-ne1.true
    ])

pub returns-in-Some-clause-cause : goal.returns-in-Some-clause-cause
returns-in-Some-clause-cause g c =
    let o = g.H.Host.outside in
    refused_head (o c.args.host.now) (o c.read_numbers.new.host) c.in_ok-size.size c.in_ok-gate.gate c.in_ok-head.head c.in-Some.damage c.fault.result c.in_ok-size.ensures.size
    (λ bytes now. c.in_ok-gate.ensures.gate bytes (c.size.ensures.contents.kept bytes now)) c.if-size-lt-LEAST_BYTES.false c.if-gate-ne1.false
    (λ bytes now. c.in_ok-head.ensures.head bytes (c.read_gate.ensures.looks.same.kept bytes (c.size.ensures.contents.kept bytes now)))
    (sym c.test_head.ensures ∙ c.in-Some.is) c.fault.ensures

pub returns-clause-fit : goal.returns-clause-fit
returns-clause-fit g c =
    let o = g.H.Host.outside in
    (head_was_read (o c.args.host.now) c.in_ok-size.size c.in_ok-gate.gate c.in_ok-head.head c.in_ok-size.ensures.size
    (λ bytes now. c.in_ok-gate.ensures.gate bytes (c.size.ensures.contents.kept bytes now)) c.if-gate-ne1.false
    (λ bytes now. c.in_ok-head.ensures.head bytes (c.read_gate.ensures.looks.same.kept bytes (c.size.ensures.contents.kept bytes now)))
    (sym c.test_head.ensures ∙ not_some c.test_head.result c.in_default.not-Some)).0

pub returns-clause-says : goal.returns-clause-says
returns-clause-says g c =
    let o = g.H.Host.outside in
    (head_was_read (o c.args.host.now) c.in_ok-size.size c.in_ok-gate.gate c.in_ok-head.head c.in_ok-size.ensures.size
    (λ bytes now. c.in_ok-gate.ensures.gate bytes (c.size.ensures.contents.kept bytes now)) c.if-gate-ne1.false
    (λ bytes now. c.in_ok-head.ensures.head bytes (c.read_gate.ensures.looks.same.kept bytes (c.size.ensures.contents.kept bytes now)))
    (sym c.test_head.ensures ∙ not_some c.test_head.result c.in_default.not-Some)).1
