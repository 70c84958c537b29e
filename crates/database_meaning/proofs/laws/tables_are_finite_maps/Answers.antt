use Rattle.database_meaning.proofs.TableLaws.{finite_maps}
use Rattle.database_meaning.proofs.laws.tables_are_finite_maps.Goals as goal

pub returns : goal.returns
returns c = finite_maps
