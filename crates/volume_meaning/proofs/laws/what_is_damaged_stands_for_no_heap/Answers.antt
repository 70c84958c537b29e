use Rattle.std.proofs.Common.{◌≡◌, ◌∙◌, sym}
use Rattle.ps_volumes.specs.paged_volume.Found.{a_volume, no_volume, damaged}
use Rattle.volume_meaning.proofs.Volumes.{volume-found}
use Rattle.volume_meaning.proofs.laws.what_is_damaged_stands_for_no_heap.Goals as goal

pub returns-clause-damage : goal.returns-clause-damage
returns-clause-damage c image heap why is stands =
    let volume = volume-found image heap stands in
    let e : damaged why ≡ a_volume volume.0 volume.1 volume.2 = sym is ∙ volume.3 in
    absurd (cc)

pub returns-clause-none : goal.returns-clause-none
returns-clause-none c image heap size gate is stands =
    let volume = volume-found image heap stands in
    let e : no_volume size gate ≡ a_volume volume.0 volume.1 volume.2 = sym is ∙ volume.3 in
    absurd (cc)
