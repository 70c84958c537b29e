use Rattle.no_store.proofs.HoldingLaws.{device-left}
use Rattle.no_store.proofs.laws.what_is_left_of_the_device.Goals as goal

pub returns : goal.returns
returns g c = λ a b is. device-left (g.H.Host.outside a) (g.H.Host.outside b) is
