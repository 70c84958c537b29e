-- A map from PIDs to places, as chains: each bucket has a head, and each place a link to the next one of its bucket, 0 for none.
use Rattle.std.specs.Prelude.{◌≡◌, ◌≢◌, ◌⊎◌, ℕ, zero, suc, ◌%◌, ◌<◌, ◌≤◌, nat_eq, if◌then◌else◌, List, [], ◌∷◌, length, get_or, Option, Some, None}
use Rattle.reaching.specs.Reaching.{IsIn}

-- from a place on the links lead over exactly these places
abbrev pub Chain : (ℕ → ℕ) → ℕ → List ℕ → Type 0
Chain next at [] = at ≡ 0
Chain next at (x ∷ xs) = (at ≡ x) × (1 ≤ x) × Chain next (next x) xs

-- no number stands twice in the list
abbrev pub AreOnce : List ℕ → Type 0
AreOnce [] = Unit {0}
AreOnce (x ∷ xs) = (IsIn x xs → ⊥) × AreOnce xs

-- What the heads and the links of a map have to be: each bucket's chain ends, and its places are of that bucket.
pub record Belongs (heads : List ℕ) (key next : ℕ → ℕ) (is_place : ℕ → Type 0) : Type 0 where
  pub places : ℕ → List ℕ
  pub chains : (b : ℕ) → b < length heads → Chain next (get_or heads b 0) (places b)
  pub once : (b : ℕ) → b < length heads → AreOnce (places b)
  pub theirs : (b x : ℕ) → b < length heads → IsIn x (places b) → is_place x
  pub bucket : (b x : ℕ) → b < length heads → IsIn x (places b) → key x % length heads ≡ b

-- a place is in the map
pub record IsInMap {heads : List ℕ} {key next : ℕ → ℕ} {is_place : ℕ → Type 0} (map : Belongs heads key next is_place) (x : ℕ) : Type 0 where
  pub bucket : ℕ
  pub below : bucket < length heads
  pub is : IsIn x (map.places bucket)

-- the place with this PID, or none
abbrev pub IsFind : {heads : List ℕ} {key next : ℕ → ℕ} {is_place : ℕ → Type 0} → Belongs heads key next is_place → ℕ → Option ℕ → Type 0
IsFind {key = key} map pid None = (x : ℕ) → IsInMap map x → key x ≢ pid
IsFind {key = key} map pid (Some at) = IsInMap map at × (key at ≡ pid)

-- One link is another. Of the places all other links stay, and so do the keys.
pub record Relinked (key next : ℕ → ℕ) (is_place : ℕ → Type 0) (key_now next_now : ℕ → ℕ) (place_now : ℕ → Type 0) (at to : ℕ) : Type 0 where
  pub there : next_now at ≡ to
  pub others : (x : ℕ) → is_place x → x ≢ at → next_now x ≡ next x
  pub keys : (x : ℕ) → is_place x → key_now x ≡ key x
  pub places : (x : ℕ) → is_place x → place_now x

-- How many places the links lead over, of so many at most.
unfoldable pub steps : (ℕ → ℕ) → ℕ → ℕ → ℕ
steps next zero at = 0
steps next (suc n) at = if nat_eq at 0 then 0 else suc (steps next n (next at))

-- The map after a place was added: it has that place too, and no other.
pub record IsAdded {heads : List ℕ} {key next : ℕ → ℕ} {is_place : ℕ → Type 0} (old : Belongs heads key next is_place) (at : ℕ) (heads_now : List ℕ) (key_now next_now : ℕ → ℕ) (place_now : ℕ → Type 0) : Type 0 where
  pub now : Belongs heads_now key_now next_now place_now
  pub has : IsInMap now at
  pub grows : (x : ℕ) → IsInMap old x → IsInMap now x
  pub no_more : (x : ℕ) → IsInMap now x → (x ≡ at) ⊎ IsInMap old x
