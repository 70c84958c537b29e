-- What goes on to a vault of the bytes that are due, and what is pending of them still.
use Rattle.std.specs.Prelude.{◌≡◌, ℕ, ◌-◌, ◌*◌, ◌/◌, List, [], ◌++◌, Result, OnOk, OnErr}
use Rattle.obj_layout.specs.ps_outside.Outside.{Outside}
use Rattle.obj_layout.specs.declared.vault.VaultFault.{VaultFault}
use Rattle.obj_layout.specs.Stored.{Space}
use Rattle.obj_layout.specs.Storing.{Puts}

-- The first of the bytes that are due were put to the vault, as one put of them would do, so that nothing else is changed. The others are
-- pending after an answer; after a fault nothing is.
pub record Sends {T : Type 0} (old new : Outside Space) (due owed : List ℕ) (result : Result T VaultFault) : Type 0 where
  pub sent : List ℕ
  pub rest : List ℕ
  pub due_is : due ≡ sent ++ rest
  pub puts : Puts old new sent result
  pub owes : OnOk result (owed ≡ rest)
  pub lets_go : OnErr result (owed ≡ [])

-- Of so many bytes that are due this many are pending: those after the last full piece that isn't the end of them.
abbrev pub left_of : ℕ → ℕ
left_of due = due - 65536 * ((due - 1) / 65536)
