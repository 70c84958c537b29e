-- How a map from names to objects becomes another where some objects get new names at once, and where they get new homes.
use Rattle.std.specs.Prelude.{◌≡◌, ◌≢◌, ◌⊎◌, ℕ, List, [], ◌∷◌, map, length, Option, Some, None}
use Rattle.heap_meaning.specs.obj_layout.declared.kind.Kind.{Kind}
use Rattle.heap_meaning.specs.obj_layout.declared.reference.Reference.{Reference}
use Rattle.heap_meaning.specs.obj_layout.declared.reference.Reference.TheVariants.{Nil}
use Rattle.heap_meaning.specs.swizzle.Joint.{Shown}
use Rattle.heap_meaning.specs.swizzle.Changes.{IsKnown}
use Rattle.heap_meaning.specs.Standing.{Seen, Pairing}

-- what is seen of an object where each name is replaced by its new one
abbrev pub renamed : (Reference → Reference) → Shown → Shown
renamed ρ it = record it { refs = map ρ it.refs }

-- an object under its name before
pub record Before (old : Seen) (ρ : Reference → Reference) (name : Reference) (it : Shown) : Type 0 where
  pub name_before : Reference
  pub it_before : Shown
  pub is : old name_before it_before
  pub name_is : name ≡ ρ name_before
  pub it_is : it ≡ renamed ρ it_before

-- Every object has its new name, also in the places of others, and nothing else has changed.
pub record Renames (old new : Seen) (ρ : Reference → Reference) : Type 0 where
  pub nil : ρ Nil ≡ Nil
  pub only_nil : (name : Reference) → ρ name ≡ Nil → name ≡ Nil
  pub one : (a b : Reference) → IsKnown old a → IsKnown old b → ρ a ≡ ρ b → a ≡ b
  pub forth : (name : Reference) (it : Shown) → old name it → new (ρ name) (renamed ρ it)
  pub back : (name : Reference) (it : Shown) → new name it → Before old ρ name it

-- the same but for number word 0
pub record IsRehomed (it new : Shown) : Type 0 where
  pub kind : new.kind ≡ it.kind
  pub refs : new.refs ≡ it.refs
  pub bytes : new.bytes ≡ it.bytes
  pub first : ℕ
  pub second : ℕ
  pub words : List ℕ
  pub before : it.nums ≡ first ∷ words
  pub after : new.nums ≡ second ∷ words

-- an object as it was, or with another home
pub record Now (new : Seen) (name : Reference) (it : Shown) : Type 0 where
  pub now : Shown
  pub there : new name now
  pub is : (now ≡ it) ⊎ IsRehomed it now
