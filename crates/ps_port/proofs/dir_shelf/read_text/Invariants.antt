use Rattle.std.proofs.Common.{◌≡◌, ◌≤◌, vec_len}
use Rattle.ps_base.specs.Limits.{most_text_bytes}
use Rattle.ps_port.specs.declared.dir_shelf.TheConstants.{MOST_COUNTED}
use Rattle.ps_port.proofs.dir_shelf.read_text.Given as goal

-- while the bytes are no more than a text may have, all of them are kept
abbrev pub invariant-loop : goal.invariant-loop
invariant-loop g l = record { kept : l.length ≤ most_text_bytes → vec_len l.into ≡ l.length; counted : l.length ≤ MOST_COUNTED }
