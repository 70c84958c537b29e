use Rattle.std.proofs.Common.{sym, ◌∙◌}
use Rattle.commit_walk.proofs.HomeLaws.{home_below}
use Rattle.commit_walk.proofs.OnlyLaws.{gives-num, gives-none}
use Rattle.commit_walk.proofs.homes.give_home.Goals as goal

pub set_num-requires-clause-below : goal.set_num-requires-clause-below
set_num-requires-clause-below c = home_below c.args.sw.now c.args.object c.sound.ensures c.requires

pub returns-then-is_homed : goal.returns-then-is_homed
returns-then-is_homed c = gives-num c.args.sw.now c.set_num.new.self c.args.object c.args.number c.sound.ensures c.requires (sym c.is_homed.ensures ∙ c.if-is_homed.true) c.set_num.ensures.written

pub returns-else-is_homed : goal.returns-else-is_homed
returns-else-is_homed c = gives-none c.args.sw.now c.args.object c.args.number (sym c.is_homed.ensures ∙ c.if-is_homed.false)
