use Rattle.std.proofs.Common.{◌≡◌, ◌+◌, ◌^◌, ◌<◌, ◌≤◌, ℕ, length, take, drop, Some, inr, sym, ap, ◌∙◌, subst, arith}
use Rattle.std.proofs.lemmas.List.{take-take}
use Rattle.obj_layout.specs.Stored.{Space}
use Rattle.obj_store.specs.Spaces.{spaces_at}
use Rattle.obj_store.specs.Tested.{AreHeld, HasFour, IsObjectFault, TellsDamage}
use Rattle.obj_store.proofs.ReadLaws.{shown_kept}
use Rattle.obj_store.specs.StoreLaws.{order_low}
use Rattle.obj_store.proofs.SpaceLaws.{long_space, words_read}
use Rattle.obj_store.proofs.TestLaws.{on_ok_of, if_err, held_four, damage_weaker}
use Rattle.obj_store.proofs.objects.fetch_at.Goals as goal

pub test_words-requires-clause-small : goal.test_words-requires-clause-small
test_words-requires-clause-small g c =
    let low = order_low c.args.used c.args.volume.now.table.committed c.requires.order in
    let few = low.1 in
    let small : c.args.used < 2 ^ 30 = omega arith in
    small

pub returns-in-Ok-clause-read : goal.returns-in-Ok-clause-read
returns-in-Ok-clause-read g c =
    let o = g.H.Host.outside in
    let v = c.args.volume.now in
    let w = c.object_at.new.volume in
    let fits = c.in_ok-_header.ensures.fits in
    let count = length c.args.into.now in
    let within : c.args.pid + count ≤ c.args.used = omega (arith, fits.within, fits.as_wanted) in
    on_ok_of c.test_words.result
    (words_read c.args.source c.args.used c.args.pid count v.table (o v.host) c.read_words.new.into c.read_words.ensures.size within
    (λ held now. c.in-Ok.ensures.read held (shown_kept c.args.source v.table w.table (o v.host) (o w.host) c.object_at.ensures.same c.object_at.ensures.looks.same (Some held) now)))

pub returns-in-Ok-clause-fault : goal.returns-in-Ok-clause-fault
returns-in-Ok-clause-fault g c =
    let o = g.H.Host.outside in
    let v = c.args.volume.now in
    let w = c.object_at.new.volume in
    let z = c.read_words.new.volume in
    let fits = c.in_ok-_header.ensures.fits in
    let source = c.args.source in
    let used = c.args.used in
    let pid = c.args.pid in
    let count = length c.args.into.now in
    let read = c.read_words.new.into in
    let size = c.read_words.ensures.size in
    let within : pid + count ≤ used = omega (arith, fits.within, fits.as_wanted) in
    let some : 4 ≤ count = omega (arith, fits.as_wanted) in
    let outside = spaces_at source used v.table (o v.host) in
    let there = words_read source used pid count v.table (o v.host) read size within
    (λ held now. c.in-Ok.ensures.read held (shown_kept c.args.source v.table w.table (o v.host) (o w.host) c.object_at.ensures.same c.object_at.ensures.looks.same (Some held) now)) in
    let front : (space : Space) → take 4 (drop pid space.words) ≡ take 4 (take count (drop pid space.words)) = λ space. sym (take-take 4 count (drop pid space.words) some) in
    if_err (TellsDamage pid (Some (length read)) (HasFour used pid (take 4 read)))
    (IsObjectFault outside (spaces_at source used z.table (o z.host)) pid (Some count)) c.test_words.result
    (λ fault is. inr (damage_weaker pid (Some count) (HasFour used pid (take 4 read)) (AreHeld outside) fault
    (λ words are. held_four outside used pid (take 4 read) words (long_space source used v.table (o v.host))
    (λ space held. front space ∙ ap (take 4) (there space held)) are)
    (subst (λ (n : ℕ). TellsDamage pid (Some n) (HasFour used pid (take 4 read)) fault) size is)))
    c.test_words.ensures.refused
