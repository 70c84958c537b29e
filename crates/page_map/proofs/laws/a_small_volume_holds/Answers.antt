use Rattle.std.proofs.Common.{refl}
use Rattle.page_map.specs.Pages.{free_where, names, one_names}
use Rattle.page_map.specs.Numbers.{with_numbers}
use Rattle.page_map.specs.Rows.{first_free, held, new_volume, pin, put, put_all, switch, unpin}
use Rattle.page_map.proofs.laws.a_small_volume_holds.Goals as goal

pub returns-clause-new : goal.returns-clause-new
unfolding first_free free_where held names new_volume one_names pin put put_all switch unpin with_numbers
returns-clause-new c = refl

pub returns-clause-switched : goal.returns-clause-switched
unfolding first_free free_where held names new_volume one_names pin put put_all switch unpin with_numbers
returns-clause-switched c = refl

pub returns-clause-again : goal.returns-clause-again
unfolding first_free free_where held names new_volume one_names pin put put_all switch unpin with_numbers
returns-clause-again c = refl

pub returns-clause-pinned : goal.returns-clause-pinned
unfolding first_free free_where held names new_volume one_names pin put put_all switch unpin with_numbers
returns-clause-pinned c = refl

pub returns-clause-pinned_and_switched : goal.returns-clause-pinned_and_switched
unfolding first_free free_where held names new_volume one_names pin put put_all switch unpin with_numbers
returns-clause-pinned_and_switched c = refl

pub returns-clause-full : goal.returns-clause-full
unfolding first_free free_where held names new_volume one_names pin put put_all switch unpin with_numbers
returns-clause-full c = refl

pub returns-clause-unpinned : goal.returns-clause-unpinned
unfolding first_free free_where held names new_volume one_names pin put put_all switch unpin with_numbers
returns-clause-unpinned c = refl
