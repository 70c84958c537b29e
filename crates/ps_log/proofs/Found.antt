-- The last entry of a name stands at the place that is kept.
use Rattle.std.proofs.Common.{◌≡◌, ℕ, suc, ◌<◌, ◌≤◌, Bool, true, false, Some, None, is_some, List, [], ◌∷◌, ◌++◌, length, map, reverse, take, drop, get_or, if◌then◌else◌, refl, sym, ap, ◌∙◌, arith}
use Rattle.std.proofs.Math.ListN.{get_or-append}
use Rattle.std.proofs.Math.Seq.{get_or-append_seam}
use Rattle.std.proofs.lemmas.List.{reverse-append, length-map, length-reverse, length-append, length-take-le, reverse-reverse, take-append-drop, drop-map}
use Rattle.indexmap.proofs.ReorderLemmas.{map-reverse}
use Rattle.std.specs.Str.{bytes_eq}
use Rattle.ps_log.specs.First.{first_named}
use Rattle.std.proofs.Math.Dec.{leb}
use Rattle.std.proofs.lemmas.Bool.Decides.{nat_tests}
use Rattle.ps_log.specs.inside.Kept.{Link, link_of, last_in}
use Rattle.ps_log.specs.declared.log.Line.{Line}

some_is : {m n : ℕ} → Some m ≡ Some n → m ≡ n
some_is e = cc

above : (n place : ℕ) → n ≤ place → leb n place ≡ true
above n place h = grind (arith, nat_tests)

below : (n place : ℕ) → place < n → leb n place ≡ false
below n place h = grind (arith, nat_tests)

module _ {T : Type 0} (name_of : T → List ℕ) where
  abbrev links : List (Line T) → List Link
  links lines = map (link_of name_of) lines

  abbrev entries : List (Line T) → List T
  entries lines = map (λ line. line.entry) lines

  -- the lines stand here with the last first
  place_within : (lines : List (Line T)) (name : List ℕ) (place : ℕ) → last_in (links lines) name ≡ Some place → place < length lines
  place_within [] name place e = absurd (cc)
  place_within (line ∷ before) name place e = by (place_within before name place) (bytes_eq (name_of line.entry) name) e
    where
      by : (last_in (links before) name ≡ Some place → place < length before) → (b : Bool)
          → (if b then Some (length (links before)) else last_in (links before) name) ≡ Some place → place < suc (length before)
      by within true e = omega (arith, some_is e, length-map before (link_of name_of))
      by within false e = omega (arith, within e)

  entry_at : (lines : List (Line T)) (name : List ℕ) (place : ℕ) (d : Line T) → last_in (links lines) name ≡ Some place
      → first_named name_of (entries lines) name ≡ Some (get_or (reverse lines) place d).entry
  entry_at [] name place d e = absurd (cc)
  entry_at (line ∷ before) name place d e = by (entry_at before name place d) (bytes_eq (name_of line.entry) name) e
    where
      at : (n : ℕ) → get_or (reverse (line ∷ before)) n d ≡ get_or (reverse before ++ line ∷ []) n d
      at n = ap (λ (l : List (Line T)). get_or l n d) (reverse-append (line ∷ []) before)

      by : (last_in (links before) name ≡ Some place → first_named name_of (entries before) name ≡ Some (get_or (reverse before) place d).entry)
          → (b : Bool) → (if b then Some (length (links before)) else last_in (links before) name) ≡ Some place
          → (if b then Some line.entry else first_named name_of (entries before) name) ≡ Some (get_or (reverse (line ∷ before)) place d).entry
      by found true e =
          let place_is : length (reverse before) ≡ place = length-reverse before ∙ sym (length-map before (link_of name_of)) ∙ some_is e in
          let moved = ap (λ (n : ℕ). get_or (reverse before ++ line ∷ []) n d) (sym place_is) in
          ap (λ (l : Line T). Some l.entry) (sym (at place ∙ moved ∙ get_or-append_seam (reverse before) line [] d))
      by found false e =
          let inside : place < length (reverse before) = omega (arith, place_within before name place e, length-reverse before) in
          found e ∙ ap (λ (l : Line T). Some l.entry) (sym (at place ∙ get_or-append (reverse before) (line ∷ []) d place inside))

  no_entry : (lines : List (Line T)) (name : List ℕ) → last_in (links lines) name ≡ None → first_named name_of (entries lines) name ≡ None
  no_entry [] name e = refl
  no_entry (line ∷ before) name e = by (no_entry before name) (bytes_eq (name_of line.entry) name) e
    where
      by : (last_in (links before) name ≡ None → first_named name_of (entries before) name ≡ None)
          → (b : Bool) → (if b then Some (length (links before)) else last_in (links before) name) ≡ None
          → (if b then Some line.entry else first_named name_of (entries before) name) ≡ None
      by none true e = absurd (cc)
      by none false e = none e

  -- an entry stands among the last ones exactly where its place is at or above the number of the others
  place_among : (lines others : List (Line T)) (name : List ℕ) (place : ℕ) → last_in (links (lines ++ others)) name ≡ Some place
      → leb (length others) place ≡ is_some (first_named name_of (entries lines) name)
  place_among [] others name place e = below (length others) place (place_within others name place e)
  place_among (line ∷ before) others name place e = by (place_among before others name place) (bytes_eq (name_of line.entry) name) e
    where
      by : (last_in (links (before ++ others)) name ≡ Some place → leb (length others) place ≡ is_some (first_named name_of (entries before) name))
          → (b : Bool) → (if b then Some (length (links (before ++ others))) else last_in (links (before ++ others)) name) ≡ Some place
          → leb (length others) place ≡ is_some (if b then Some line.entry else first_named name_of (entries before) name)
      by told true e = above (length others) place (omega (arith, some_is e, length-map (before ++ others) (link_of name_of), length-append before others))
      by told false e = told e

  none_among : (lines others : List (Line T)) (name : List ℕ) → last_in (links (lines ++ others)) name ≡ None
      → first_named name_of (entries lines) name ≡ None
  none_among [] others name e = refl
  none_among (line ∷ before) others name e = by (none_among before others name) (bytes_eq (name_of line.entry) name) e
    where
      by : (last_in (links (before ++ others)) name ≡ None → first_named name_of (entries before) name ≡ None)
          → (b : Bool) → (if b then Some (length (links (before ++ others))) else last_in (links (before ++ others)) name) ≡ None
          → (if b then Some line.entry else first_named name_of (entries before) name) ≡ None
      by none true e = absurd (cc)
      by none false e = none e

  module _ (lines : List (Line T)) (seen : List T) (is : entries lines ≡ seen) (name : List ℕ) where
    pub is_within : (place : ℕ) → last_in (links (reverse lines)) name ≡ Some place → place < length lines
    is_within place at = omega (arith, place_within (reverse lines) name place at, length-reverse lines)

    seen_back : entries (reverse lines) ≡ reverse seen
    seen_back = map-reverse (λ line. line.entry) lines ∙ ap reverse is

    pub found : (place : ℕ) (line : Line T) → last_in (links (reverse lines)) name ≡ Some place → line ≡ get_or lines place line
        → Some line.entry ≡ first_named name_of (reverse seen) name
    found place line at there =
        sym (ap (λ (l : List T). first_named name_of l name) (sym seen_back) ∙ entry_at (reverse lines) name place line at
        ∙ ap (λ (l : List (Line T)). Some (get_or l place line).entry) (reverse-reverse lines) ∙ ap (λ (l : Line T). Some l.entry) (sym there))

    pub missing : last_in (links (reverse lines)) name ≡ None → None ≡ first_named name_of (reverse seen) name
    missing at = sym (ap (λ (l : List T). first_named name_of l name) (sym seen_back) ∙ no_entry (reverse lines) name at)

    module _ (count : ℕ) (few : count ≤ length seen) where
      abbrev others : List (Line T)
      others = reverse (take count lines)

      abbrev last_ones : List (Line T)
      last_ones = reverse (drop count lines)

      parted : reverse lines ≡ last_ones ++ others
      parted = ap reverse (sym (take-append-drop count lines)) ∙ reverse-append (take count lines) (drop count lines)

      counted : length others ≡ count
      counted = length-reverse (take count lines) ∙ length-take-le count lines (omega (arith, ap length is, length-map lines (λ line. line.entry), few))

      seen_last : entries last_ones ≡ reverse (drop count seen)
      seen_last = map-reverse (λ line. line.entry) (drop count lines) ∙ ap reverse (sym (drop-map (λ line. line.entry) count lines) ∙ ap (drop count) is)

      pub found_behind : (place : ℕ) → last_in (links (reverse lines)) name ≡ Some place
          → leb count place ≡ is_some (first_named name_of (reverse (drop count seen)) name)
      found_behind place at =
          ap (λ n. leb n place) (sym counted) ∙ place_among last_ones others name place (ap (λ (l : List (Line T)). last_in (links l) name) (sym parted) ∙ at)
          ∙ ap (λ (l : List T). is_some (first_named name_of l name)) seen_last

      pub missing_behind : last_in (links (reverse lines)) name ≡ None → false ≡ is_some (first_named name_of (reverse (drop count seen)) name)
      missing_behind at =
          sym (ap is_some (none_among last_ones others name (ap (λ (l : List (Line T)). last_in (links l) name) (sym parted) ∙ at)))
          ∙ ap (λ (l : List T). is_some (first_named name_of l name)) seen_last
