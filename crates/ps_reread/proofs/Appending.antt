-- One more at the end, and then the rest: lists of clauses, of arms and of items without their lines.
use Rattle.std.proofs.Common.{◌≡◌, refl, ap}
use Rattle.ps_layout.specs.ps_tree.Phrase.{Phrase, Phrases, none, more, Arm, Arms, no_arms, more_arms, WriteItem, WriteItems, no_items, more_items}
use Rattle.ps_layout.specs.ps_tree.Composing.{and_then, and_arm, and_item}
use Rattle.ps_reread.specs.Bare.{bare, bare_all, bare_arm, bare_arms, bare_item, bare_items}

abbrev pub append : Phrases → Phrases → Phrases
append none behind = behind
append (more first rest) behind = more first (append rest behind)

pub append_none : (ps : Phrases) → append ps none ≡ ps
append_none none = refl
append_none (more first rest) = ap (λ (ps : Phrases). more first ps) (append_none rest)

pub append_one : (before : Phrases) (one : Phrase) (behind : Phrases) → append (bare_all (and_then before one)) behind ≡ append (bare_all before) (more (bare one) behind)
append_one none one behind = refl
append_one (more first rest) one behind = ap (λ (ps : Phrases). more (bare first) ps) (append_one rest one behind)

abbrev pub append_arms : Arms → Arms → Arms
append_arms no_arms behind = behind
append_arms (more_arms first rest) behind = more_arms first (append_arms rest behind)

pub append_no_arms : (arms : Arms) → append_arms arms no_arms ≡ arms
append_no_arms no_arms = refl
append_no_arms (more_arms first rest) = ap (λ (arms : Arms). more_arms first arms) (append_no_arms rest)

pub append_arm : (before : Arms) (one : Arm) (behind : Arms) → append_arms (bare_arms (and_arm before one)) behind ≡ append_arms (bare_arms before) (more_arms (bare_arm one) behind)
append_arm no_arms one behind = refl
append_arm (more_arms first rest) one behind = ap (λ (arms : Arms). more_arms (bare_arm first) arms) (append_arm rest one behind)

abbrev pub append_items : WriteItems → WriteItems → WriteItems
append_items no_items behind = behind
append_items (more_items first rest) behind = more_items first (append_items rest behind)

pub append_no_items : (items : WriteItems) → append_items items no_items ≡ items
append_no_items no_items = refl
append_no_items (more_items first rest) = ap (λ (items : WriteItems). more_items first items) (append_no_items rest)

pub append_item : (before : WriteItems) (one : WriteItem) (behind : WriteItems) → append_items (bare_items (and_item before one)) behind ≡ append_items (bare_items before) (more_items (bare_item one) behind)
append_item no_items one behind = refl
append_item (more_items first rest) one behind = ap (λ (items : WriteItems). more_items (bare_item first) items) (append_item rest one behind)
