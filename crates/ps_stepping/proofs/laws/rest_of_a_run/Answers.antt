use Rattle.ps_stepping.proofs.Paths.{rest_is, way_ends, stops_at_the_end, is_never_stuck, front_on_the_way}
use Rattle.ps_stepping.proofs.laws.rest_of_a_run.Goals as goal

pub returns-clause-ends : goal.returns-clause-ends
returns-clause-ends _ = λ total c last before run way. way_ends total c last before run way

pub returns-clause-rest : goal.returns-clause-rest
returns-clause-rest _ = λ total c last before behind run way end. rest_is total c last before behind run way end

pub returns-clause-end : goal.returns-clause-end
returns-clause-end _ = λ total c last before e touched run way s. stops_at_the_end total c last before e touched run way s

pub returns-clause-goes : goal.returns-clause-goes
returns-clause-goes _ = λ total c last before run way s. is_never_stuck total c last before run way s

pub returns-clause-front : goal.returns-clause-front
returns-clause-front _ = λ total c last before run way. front_on_the_way total c last before run way
