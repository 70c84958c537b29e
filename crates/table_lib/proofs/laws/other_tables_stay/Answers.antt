use Rattle.table_nodes.specs.Steps.{place}
use Rattle.table_lib.proofs.StayLaws.{apart_entered, apart_taken}
use Rattle.table_lib.proofs.laws.other_tables_stay.Goals as goal

pub returns-clause-entered : goal.returns-clause-entered
returns-clause-entered g c ks other old new before after at b t v key value p pairs spares apart table names w =
    apart_entered ks other (place old (g.V.Vault.outside before)) (place new (g.V.Vault.outside after)) at b t v p pairs spares apart table names key value w

pub returns-clause-taken : goal.returns-clause-taken
returns-clause-taken g c ks other old new before after at b t v key p pairs spares apart table names w =
    apart_taken ks other (place old (g.V.Vault.outside before)) (place new (g.V.Vault.outside after)) at b t v p pairs spares apart table names key w
