use Rattle.no_store.proofs.PutLaws.{all-put}
use Rattle.no_store.proofs.laws.what_is_put_is_told.Goals as goal

pub returns-clause-front : goal.returns-clause-front
returns-clause-front g c = λ a b bytes result is. is.told

pub returns-clause-all : goal.returns-clause-all
returns-clause-all g c = λ a b bytes is. all-put (g.H.Host.outside a) (g.H.Host.outside b) bytes tt is
