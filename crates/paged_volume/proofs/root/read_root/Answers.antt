use Rattle.std.proofs.Common.{ℕ, sym, ◌∙◌, ap, arith, take, drop}
use Rattle.volume_parts.proofs.Looking.{looks_then, looks_call}
use Rattle.paged_volume.specs.Found.{root_tests}
use Rattle.paged_volume.proofs.Tests.{refused_root, root_was_passed, root_was_read, root_most, not_some}
use Rattle.paged_volume.proofs.root.read_root.Goals as goal

pub test_root-requires-clause-at : goal.test_root-requires-clause-at
test_root-requires-clause-at g c = omega (arith, c.root_at-at.ensures, root_most c.in_ok-second.second)

pub read_at-requires : goal.read_at-requires
read_at-requires g c = λ bytes now.
    let has = c.requires.passed bytes (c.read_selector.ensures.looks.same.no_other bytes now) in
    let long = has.long in
    let least = c.requires.fit.least in
    omega (arith, c.root_at-at.ensures, root_most c.in_ok-second.second, c.requires.size)

pub returns-in-Some-clause-cause : goal.returns-in-Some-clause-cause
returns-in-Some-clause-cause g c =
    let o = g.H.Host.outside in
    let same = c.read_selector.ensures.looks.same in
    refused_root (o c.args.host.now) (o c.read_at.new.self) c.args.head.format c.args.head.pages c.in_ok-second.second c.root_of-root.result c.in-Some.damage c.fault.result c.requires.fit c.requires.passed
    c.in_ok-second.ensures.selected
    (λ bytes now. root_was_read c.root_at-at.result _ bytes c.read_at.new.into c.root_of-root.result c.root_at-at.ensures
    (c.in_ok-read_at.ensures.read bytes (same.kept bytes now) ∙ (λ i. take (c.requires.size i) (drop c.root_at-at.result bytes))) c.root_of-root.ensures)
    (ap (λ (at : ℕ). root_tests c.args.head.format c.args.head.pages at c.root_of-root.result.note c.root_of-root.result.logical c.root_of-root.result.depth) (sym c.root_at-at.ensures) ∙ sym c.test_root.ensures ∙ c.in-Some.is)
    c.fault.ensures

pub returns-clause-fit : goal.returns-clause-fit
returns-clause-fit g c =
    let o = g.H.Host.outside in
    let same = c.read_selector.ensures.looks.same in
    (root_was_passed (o c.args.host.now) c.args.head.format c.args.head.pages c.in_ok-second.second c.root_of-root.result c.requires.fit
    (λ bytes now. root_was_read c.root_at-at.result _ bytes c.read_at.new.into c.root_of-root.result c.root_at-at.ensures
    (c.in_ok-read_at.ensures.read bytes (same.kept bytes now) ∙ (λ i. take (c.requires.size i) (drop c.root_at-at.result bytes))) c.root_of-root.ensures)
    (ap (λ (at : ℕ). root_tests c.args.head.format c.args.head.pages at c.root_of-root.result.note c.root_of-root.result.logical c.root_of-root.result.depth) (sym c.root_at-at.ensures) ∙ sym c.test_root.ensures ∙ not_some c.test_root.result c.in_default.not-Some)).0

pub returns-clause-root : goal.returns-clause-root
returns-clause-root g c =
    let o = g.H.Host.outside in
    let same = c.read_selector.ensures.looks.same in
    (root_was_passed (o c.args.host.now) c.args.head.format c.args.head.pages c.in_ok-second.second c.root_of-root.result c.requires.fit
    (λ bytes now. root_was_read c.root_at-at.result _ bytes c.read_at.new.into c.root_of-root.result c.root_at-at.ensures
    (c.in_ok-read_at.ensures.read bytes (same.kept bytes now) ∙ (λ i. take (c.requires.size i) (drop c.root_at-at.result bytes))) c.root_of-root.ensures)
    (ap (λ (at : ℕ). root_tests c.args.head.format c.args.head.pages at c.root_of-root.result.note c.root_of-root.result.logical c.root_of-root.result.depth) (sym c.root_at-at.ensures) ∙ sym c.test_root.ensures ∙ not_some c.test_root.result c.in_default.not-Some)).1

pub returns-clause-page : goal.returns-clause-page
returns-clause-page g c = λ bytes now.
    let same = c.read_selector.ensures.looks.same in
    c.in_ok-read_at.ensures.read bytes (same.kept bytes now) ∙ (λ i. take (c.requires.size i) (drop (c.root_at-at.ensures i) bytes))

pub returns-in-Some-clause-looks : goal.returns-in-Some-clause-looks
returns-in-Some-clause-looks g c =
    let o = g.H.Host.outside in
    looks_then (o c.args.host.now) (o c.read_selector.new.host) (o c.read_at.new.self) 1 1 2 c.read_selector.ensures.looks
    (looks_call (o c.read_selector.new.host) (o c.read_at.new.self) c.read_at.result c.read_at.ensures.images c.read_at.ensures.contents c.read_at.ensures.call) (omega arith)

pub returns-clause-looks : goal.returns-clause-looks
returns-clause-looks g c =
    let o = g.H.Host.outside in
    looks_then (o c.args.host.now) (o c.read_selector.new.host) (o c.read_at.new.self) 1 1 2 c.read_selector.ensures.looks
    (looks_call (o c.read_selector.new.host) (o c.read_at.new.self) c.read_at.result c.read_at.ensures.images c.read_at.ensures.contents c.read_at.ensures.call) (omega arith)
