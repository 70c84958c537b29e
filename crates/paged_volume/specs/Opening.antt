-- How far the making of a volume came, by moments.
use Rattle.std.specs.Prelude.{ℕ, ◌≤◌, List}
use Rattle.ps_port.specs.ps_outside.Outside.{Outside, Leaves}
use Rattle.volume_parts.specs.Making.{IsOld, IsShut, StaysShut}
use Rattle.paged_volume.specs.Making.{IsNew}

-- Up to one moment each image is one from before, with any byte 0; up to a later one the gate of each is shut; and from there on the new volume stands
-- whole after it.
pub record OpensAt (pages : ℕ) (old new : Outside (List ℕ)) : Type 0 where
  pub shut_from : ℕ
  pub shut_until : ℕ
  pub from : old.clock ≤ shut_from
  pub order : shut_from ≤ shut_until
  pub until : shut_until ≤ new.clock
  pub before : (m : ℕ) (image : List ℕ) → old.clock ≤ m → m ≤ shut_from → new.images m image → IsOld old image
  pub shut : (m : ℕ) (image : List ℕ) → shut_from ≤ m → m ≤ shut_until → new.images m image → IsShut image
  pub opens : (m : ℕ) (image : List ℕ) → shut_until ≤ m → m ≤ new.clock → new.images m image → IsNew pages image

-- how far it came
pub data ShutsAt (pages : ℕ) (old new : Outside (List ℕ)) : Type 0 where
  not_shut : Leaves old new (IsOld old) → ShutsAt pages old new
  still_shut : StaysShut old new → ShutsAt pages old new
  opened : OpensAt pages old new → ShutsAt pages old new
