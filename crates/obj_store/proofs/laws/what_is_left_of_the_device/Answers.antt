use Rattle.obj_store.proofs.LeftLaws.{device_left}
use Rattle.obj_store.proofs.laws.what_is_left_of_the_device.Goals as goal

pub returns : goal.returns
returns g c = λ a b is.
    let seen = g.H.Host.outside in
    device_left a.used b.used a.table b.table (seen a.host) (seen b.host) is
