-- What is kept of the names of a log.
use Rattle.std.specs.Prelude.{◌≡◌, ℕ, Option, Some, None, List, [], ◌∷◌, length, map, reverse, if◌then◌else◌}
use Rattle.std.specs.Option.{option_flatten}
use Rattle.std.specs.Str.{bytes_eq}
use Rattle.std.specs.declared.alloc.Global.{Global}
use Rattle.std.specs.declared.vec.Vec.{Vec}
use Rattle.indexmap.specs.IndexMap.{IndexMap, get_by}
use Rattle.ps_log.specs.declared.log.Line.{Line}

abbrev pub place_in : {S : Type 0} → IndexMap (Vec ℕ Global) (Option ℕ) S → List ℕ → Option ℕ
place_in last name = option_flatten (get_by (λ k. bytes_eq name k.items) last)

-- the place of the one name, and the places of the others as they were
abbrev pub Replaces : {S : Type 0} → IndexMap (Vec ℕ Global) (Option ℕ) S → IndexMap (Vec ℕ Global) (Option ℕ) S → List ℕ → Option ℕ → Type 0
Replaces old new name place = (other : List ℕ) → place_in new other ≡ (if bytes_eq name other then place else place_in old other)

abbrev pub AreAlike : {S : Type 0} → IndexMap (Vec ℕ Global) (Option ℕ) S → IndexMap (Vec ℕ Global) (Option ℕ) S → Type 0
AreAlike old new = (name : List ℕ) → place_in new name ≡ place_in old name

-- the name of an entry, and the place of the entry that it hides
pub record Link : Type 0 where
  pub name : List ℕ
  pub hides : Option ℕ

-- those of the lines of a log, the last first
abbrev pub link_of : {T : Type 0} → (T → List ℕ) → Line T → Link
link_of name_of line = record { name = name_of line.entry; hides = line.hides }

abbrev pub links_back : {T : Type 0} → (T → List ℕ) → List (Line T) → List Link
links_back name_of lines = map (link_of name_of) (reverse lines)

-- the place of the last entry of the name: how many stand before it
abbrev pub last_in : List Link → List ℕ → Option ℕ
last_in [] name = None
last_in (link ∷ before) name = if bytes_eq link.name name then Some (length before) else last_in before name

abbrev pub AreLinked : List Link → Type 0
AreLinked [] = Unit {0}
AreLinked (link ∷ before) = (link.hides ≡ last_in before link.name) × AreLinked before

pub record IsKept {S : Type 0} (links : List Link) (last : IndexMap (Vec ℕ Global) (Option ℕ) S) : Type 0 where
  pub found : (name : List ℕ) → place_in last name ≡ last_in links name
  pub linked : AreLinked links
