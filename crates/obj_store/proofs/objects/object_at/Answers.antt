use Rattle.std.proofs.Common.{◌≡◌, ◌+◌, ◌^◌, ◌<◌, ◌≤◌, length, inr, ◌∙◌, arith}
use Rattle.obj_layout.specs.Header.{header_fault, header_words}
use Rattle.obj_layout.specs.Stored.{of_words}
use Rattle.obj_store.specs.Spaces.{spaces_at}
use Rattle.obj_store.specs.Tested.{AreHeld, HasFour, IsObjectFault, IsObjectHeader, IsDamageAt}
use Rattle.obj_store.specs.StoreLaws.{order_low}
use Rattle.obj_store.proofs.SpaceLaws.{long_space, words_read}
use Rattle.obj_store.proofs.TestLaws.{if_ok_both, if_err, four_header, four_damaged, held_four, damage_weaker}
use Rattle.obj_store.proofs.objects.object_at.Goals as goal

pub fault_of_place-requires : goal.fault_of_place-requires
fault_of_place-requires g c =
    let low = order_low c.args.used c.args.volume.now.table.committed c.requires.order in
    let few = low.1 in
    let small : c.args.used < 2 ^ 30 = omega arith in
    small

pub returns-in-Some-clause-fault : goal.returns-in-Some-clause-fault
returns-in-Some-clause-fault g c =
    let v = c.args.volume.now in
    let outside = spaces_at c.args.source c.args.used v.table (g.H.Host.outside v.host) in
    inr (damage_weaker c.args.pid c.args.wanted (λ words. length words ≡ c.args.used) (AreHeld outside) c.in-Some.fault
    (λ words are. (λ i. length (are.are i)) ∙ long_space c.args.source c.args.used v.table (g.H.Host.outside v.host) are.space are.held)
    (c.in-Some.ensures c.args.wanted))

pub header_of-requires-clause-small : goal.header_of-requires-clause-small
header_of-requires-clause-small g c =
    let low = order_low c.args.used c.args.volume.now.table.committed c.requires.order in
    let few = low.1 in
    let small : c.args.used < 2 ^ 30 = omega arith in
    small

pub returns-in-Ok-clause-header : goal.returns-in-Ok-clause-header
returns-in-Ok-clause-header g c =
    let v = c.args.volume.now in
    let host = g.H.Host.outside v.host in
    let source = c.args.source in
    let used = c.args.used in
    let pid = c.args.pid in
    let four = c.read_words.new.into in
    let place = c.in_default.ensures in
    let low : 1 ≤ pid = omega (arith, place.0) in
    let high : pid + 4 ≤ used = omega (arith, place.1) in
    if_ok_both (λ header. four ≡ header_words header) (IsObjectHeader (spaces_at source used v.table host) pid c.args.wanted) _ c.header_of.result
    (λ header spelled sound. four_header (spaces_at source used v.table host) used pid c.args.wanted four header low high
    (long_space source used v.table host)
    (words_read source used pid 4 v.table host four c.read_words.ensures.size high c.in-Ok.ensures.read) spelled sound)
    c.header_of.ensures.spelled c.header_of.ensures.sound

pub returns-in-Ok-clause-fault : goal.returns-in-Ok-clause-fault
returns-in-Ok-clause-fault g c =
    let v = c.args.volume.now in
    let w = c.read_words.new.volume in
    let host = g.H.Host.outside v.host in
    let source = c.args.source in
    let used = c.args.used in
    let pid = c.args.pid in
    let four = c.read_words.new.into in
    let place = c.in_default.ensures in
    let low : 1 ≤ pid = omega (arith, place.0) in
    let high : pid + 4 ≤ used = omega (arith, place.1) in
    let outside = spaces_at source used v.table host in
    if_err (IsDamageAt pid (of_words pid used four (header_fault four) c.args.wanted))
    (IsObjectFault outside (spaces_at source used w.table (g.H.Host.outside w.host)) pid c.args.wanted) c.header_of.result
    (λ fault is. inr (damage_weaker pid c.args.wanted (HasFour used pid four) (AreHeld outside) fault
    (λ words are. held_four outside used pid four words (long_space source used v.table host)
    (words_read source used pid 4 v.table host four c.read_words.ensures.size high c.in-Ok.ensures.read) are)
    (four_damaged used pid c.args.wanted four fault low high is)))
    c.header_of.ensures.refused
