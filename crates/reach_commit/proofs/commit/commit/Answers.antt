use Rattle.std.proofs.Common.{ap, subst}
use Rattle.std.specs.Prelude.{Err, MatchBool}
use Rattle.commit_walk.proofs.HomeLaws.{home_below}
use Rattle.reach_commit.specs.Deciding.{HasWork, IsIdle}
use Rattle.reach_commit.proofs.WorkLaws.{writes}
use Rattle.reach_commit.proofs.commit.commit.Goals as goal

pub num-requires-clause-below : goal.num-requires-clause-below
num-requires-clause-below g c = home_below c.args.sw.now c.in-Some.object c.sound.ensures c.in-Some.ensures.held

pub store-requires-clause-writes : goal.store-requires-clause-writes
store-requires-clause-writes g c =
    writes c.args.sw.now c.args.writing.now c.requires.writes c.in_default.ensures.refused
    (subst (λ b. MatchBool b (HasWork c.args.sw.now c.args.writing.now) (IsIdle c.args.sw.now c.args.writing.now)) c.if-not-has_work.false c.has_work.ensures)

pub returns-in-Err-clause-pages : goal.returns-in-Err-clause-pages
returns-in-Err-clause-pages g c = λ held wanted pages e. c.in-Err.ensures.pages held wanted pages (ap Err e)
