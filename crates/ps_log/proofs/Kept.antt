-- What is kept of a sequence of names: where the names stand last, and what is left after one less.
use Rattle.std.proofs.Common.{◌≡◌, ℕ, Bool, true, false, Option, Some, None, IsSome, List, ◌∷◌, length, if◌then◌else◌, refl, sym, ap, ◌∙◌, subst, true≢false}
use Rattle.std.specs.Option.{option_flatten}
use Rattle.std.specs.Str.{bytes_eq}
use Rattle.std.specs.Cmp.Lexicographic.{bytes_decides}
use Rattle.std.specs.Map.{IsKeyTest, AreApart, KeepsOthers}
use Rattle.std.specs.declared.alloc.Global.{Global}
use Rattle.std.specs.declared.vec.Vec.{Vec}
use Rattle.indexmap.specs.IndexMap.{IndexMap, get_by}
use Rattle.ps_log.specs.inside.Kept.{place_in, Replaces, Link, last_in, IsKept}

itself : (name : List ℕ) → bytes_eq name name ≡ true
itself name = (bytes_decides name name).1 refl

-- a query by another name finds what it found, where only what is found by the one name changes
abbrev same_key : Vec ℕ Global → Vec ℕ Global → Bool
same_key x y = bytes_eq x.items y.items

is_key_test : (name : List ℕ) → IsKeyTest same_key (λ k. bytes_eq name k.items)
is_key_test name x y is = ap (λ (n : List ℕ). bytes_eq n y.items) ((bytes_decides name x.items).0 is)

are_apart : (name other : List ℕ) → bytes_eq name other ≡ false → AreApart {K = Vec ℕ Global} (λ k. bytes_eq name k.items) (λ k. bytes_eq other k.items)
are_apart name other differ k is = by (bytes_eq other k.items) refl
  where
    by : (b : Bool) → bytes_eq other k.items ≡ b → b ≡ false
    by false e = refl
    by true e = absurd (true≢false (sym ((bytes_decides name other).1 ((bytes_decides name k.items).0 is ∙ sym ((bytes_decides other k.items).0 e))) ∙ differ))

pub replaced : {S : Type 0} (old new : IndexMap (Vec ℕ Global) (Option ℕ) S) (name : List ℕ) (place : Option ℕ)
    → get_by (λ k. bytes_eq name k.items) new ≡ Some place
    → KeepsOthers same_key (λ k. bytes_eq name k.items) old.entries new.entries
    → Replaces old new name place
unfolding KeepsOthers
replaced old new name place here others other = by (bytes_eq name other) refl
  where
    by : (b : Bool) → bytes_eq name other ≡ b → place_in new other ≡ (if b then place else place_in old other)
    by true e = subst (λ (n : List ℕ). place_in new n ≡ place) ((bytes_decides name other).0 e) (ap option_flatten here)
    by false e = ap option_flatten (others (λ k. bytes_eq other k.items) (is_key_test other) (are_apart name other e))

has_place : (o : Option (Option ℕ)) {n : ℕ} → option_flatten o ≡ Some n → IsSome o
has_place None e = absurd (cc)
has_place (Some place) e = refl

pub one_less : {S : Type 0} (link : Link) (before : List Link) (old new : IndexMap (Vec ℕ Global) (Option ℕ) S)
    → IsKept (link ∷ before) old
    → (IsSome (get_by (λ k. bytes_eq link.name k.items) old) → Replaces old new link.name link.hides)
    → IsKept before new
one_less link before old new kept replaces = record { found = λ name. by name (bytes_eq link.name name) refl; linked = kept.linked.1 }
  where
    here : place_in old link.name ≡ Some (length before)
    here = kept.found link.name ∙ ap (λ (b : Bool). if b then Some (length before) else last_in before link.name) (itself link.name)

    after : Replaces old new link.name link.hides
    after = replaces (has_place (get_by (λ k. bytes_eq link.name k.items) old) here)

    by : (name : List ℕ) (b : Bool) → bytes_eq link.name name ≡ b → place_in new name ≡ last_in before name
    by name true is = after name ∙ ap (λ (b : Bool). if b then link.hides else place_in old name) is
        ∙ kept.linked.0 ∙ ap (last_in before) ((bytes_decides link.name name).0 is)
    by name false is = after name ∙ ap (λ (b : Bool). if b then link.hides else place_in old name) is ∙ kept.found name
        ∙ ap (λ (b : Bool). if b then Some (length before) else last_in before name) is
