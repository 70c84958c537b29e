use Rattle.obj_store.proofs.LeftLaws.{all_put}
use Rattle.obj_store.proofs.laws.what_is_put_is_told.Goals as goal

pub returns-clause-front : goal.returns-clause-front
returns-clause-front g c = λ a b bytes result is. is.told

pub returns-clause-all : goal.returns-clause-all
returns-clause-all g c = λ a b bytes is.
    let seen = g.H.Host.outside in
    all_put a.used b.used a.table b.table (seen a.host) (seen b.host) bytes tt is
