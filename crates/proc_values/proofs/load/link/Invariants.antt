use Rattle.std.proofs.Common.{◌≡◌, ◌+◌, drop}
use Rattle.ps_base.specs.CodeUnit.{constants_view}
use Rattle.proc_values.specs.Units.{constants_places, constants_words}
use Rattle.proc_values.proofs.LinkLaws.{Linked}
use Rattle.proc_values.proofs.load.link.Given as goal

-- the slots before this one refer to their constants
abbrev pub invariant-loop-constant : goal.invariant-loop-constant
invariant-loop-constant l = record {
  so_far : Linked l.initial.sw l.sw l.code (constants_places l.first (constants_view l.constants)) l.at l.slot
      (constants_view (drop l.constant-index l.constants));
  slot_is : l.slot ≡ l.constant-index;
  words : l.at + constants_words (constants_view (drop l.constant-index l.constants)) ≡ l.first + constants_words (constants_view l.constants);
}
