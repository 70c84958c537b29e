-- A value for each number.
use Rattle.std.specs.Prelude.{◌≡◌, ℕ, nat_eq, slice_index_or, if◌then◌else◌}
use Rattle.ps_placer.specs.declared.table.Table.{Table}

abbrev pub value_at : {A : Type 0} → Table A → ℕ → A
value_at table k = slice_index_or table.items.items k table.usual

-- one value was set
pub record Sets {A : Type 0} (number : ℕ) (value : A) (old new : Table A) : Type 0 where
  pub each : (k : ℕ) → value_at new k ≡ (if nat_eq number k then value else value_at old k)
