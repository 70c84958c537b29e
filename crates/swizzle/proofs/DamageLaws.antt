-- What a vault holds passes its tests, and what is damaged may not come into the area.
use Rattle.std.proofs.Common.{inl, inr, ◌≡◌, ℕ, zero, suc, ◌+◌, ◌-◌, ◌<◌, ◌≤◌, List, [], ◌∷◌, length, take, drop, slice_index, Option, Some, None, IfSome, refl, sym, ap, ◌∙◌, subst, arith, length-drop}
use Rattle.std.proofs.lemmas.Bool.Decides.{nat_tests}
use Rattle.std.proofs.lemmas.List.{drop-drop, take-take, length-take-le, get_or-take, get_or-drop}
use Rattle.std.specs.Prelude.{Result, Err}
use Rattle.obj_layout.specs.ps_outside.Outside.{Outside, SameContents}
use Rattle.obj_layout.specs.declared.header.Header.{Header}
use Rattle.obj_layout.specs.declared.header.LayoutFault.{LayoutFault}
use Rattle.obj_layout.specs.declared.vault.VaultFault.{VaultFault}
use Rattle.obj_layout.specs.declared.vault.VaultFault.TheVariants.{Damaged}
use Rattle.obj_layout.specs.Header.{HasFitFields, header_fault, header_words, object_length}
use Rattle.obj_layout.specs.Stored.{Damage, Space, HasObject, Holds, damage_at, length_in, of_length, of_words}
use Rattle.obj_layout.specs.Storing.{TestsObject}
use Rattle.obj_layout.proofs.HeaderLaws.{kind_number-lt, header_fault-header_words}
use Rattle.obj_layout.proofs.ObjectLaws.{object-long, Cuts-lies}
use Rattle.obj_layout.proofs.StoredLaws.{HasObject-within, HasObject-object, Holds-same}
use Rattle.swizzle.specs.Objects.{HasRoomForBytes}
use Rattle.swizzle.specs.Fetched.{IsFar, IsFarWord}
use Rattle.swizzle.specs.Damaged.{IsDamaged, PassesVault, ReportsDamage, damage_by, far_damage, near_word}
use Rattle.swizzle.proofs.FetchedLaws.{AreFarWords, far_header, far_refs}

-- where four words stand there, they and their length are tested
four_stand : (words : List ℕ) (pid : ℕ) (wanted : Option ℕ) → 1 ≤ pid → pid + 4 ≤ length words
    → damage_at words pid wanted ≡ of_words pid (length words) (take 4 (drop pid words)) (header_fault (take 4 (drop pid words))) wanted
four_stand words pid wanted low high = grind (arith, nat_tests)

-- the words of a header tell its object's length
length_spelled : (header : Header) → HasFitFields header → length_in (header_words header) ≡ object_length header
length_spelled header fields = let kind = kind_number-lt header.kind in omega (arith, fields.flags, fields.nums, kind)

length_whole : (pid used long : ℕ) (wanted : Option ℕ) → pid + long ≤ used → IfSome wanted (λ count. long ≡ count) → of_length pid used long wanted ≡ None
length_whole pid used long None within is = grind (arith, nat_tests)
length_whole pid used long (Some count) within is = grind (arith, nat_tests)

-- the four words of an object
four_words : (words whole : List ℕ) (pid : ℕ) → 1 ≤ pid → 4 ≤ length words → take (length words) (drop (pid - 1) (drop 1 whole)) ≡ words
    → take 4 (drop pid whole) ≡ take 4 words
four_words words whole pid low four there =
    let behind : drop (pid - 1) (drop 1 whole) ≡ drop pid whole = drop-drop (pid - 1) 1 whole ∙ ap (λ (n : ℕ). drop n whole) (omega (arith, low)) in
    sym (take-take 4 (length words) (drop pid whole) four)
    ∙ ap (take 4) (ap (take (length words)) (sym behind) ∙ there)

-- What a space holds isn't damaged.
pub object_sound : (space : Space) (pid : ℕ) (words : List ℕ) (wanted : Option ℕ) → HasObject space pid words → IfSome wanted (λ count. length words ≡ count)
    → damage_at space.words pid wanted ≡ None
object_sound space pid words wanted has is =
    let o = HasObject-object space pid words has in
    let within = HasObject-within space pid words has in
    let long = object-long words o in
    let lies = Cuts-lies 1 (drop 1 space.words) has.objects (record { pid = pid; words = words }) has.cut.1 has.among in
    let four : take 4 (drop pid space.words) ≡ header_words o.header = four_words words space.words pid within.low long lies.there ∙ sym o.spelled in
    let fits : IfSome wanted (λ count. object_length o.header ≡ count) = fits_wanted wanted is o.long in
    four_stand space.words pid wanted within.low (let h = within.high in omega arith)
    ∙ ap (λ (w : List ℕ). of_words pid (length space.words) w (header_fault w) wanted) four
    ∙ ap (λ (f : Option LayoutFault). of_words pid (length space.words) (header_words o.header) f wanted) (header_fault-header_words o.header o.fields o.lengths)
    ∙ ap (λ (n : ℕ). of_length pid (length space.words) n wanted) (length_spelled o.header o.fields)
    ∙ length_whole pid (length space.words) (object_length o.header) wanted (omega (arith, within.high, o.long)) fits
  where
    fits_wanted : (given : Option ℕ) → IfSome given (λ count. length words ≡ count) → length words ≡ object_length (HasObject-object space pid words has).header
        → IfSome given (λ count. object_length (HasObject-object space pid words has).header ≡ count)
    fits_wanted None k e = tt
    fits_wanted (Some count) k e = sym e ∙ k

-- A call of the vault that refuses an object as damaged gives the numbers of its test.
pub tested_damage : {T : Type 0} (outside : Outside Space) (pid : ℕ) (wanted : Option ℕ) (result : Result T VaultFault) → TestsObject outside pid wanted result
    → IfSome wanted (λ count. (words : List ℕ) → Holds outside pid words → length words ≡ count)
    → (at found bound : ℕ) → result ≡ Err (Damaged at found bound) → (at ≡ pid) × IsDamaged outside pid (record { found = found; wanted = bound })
tested_damage outside pid wanted result t long at found bound e =
    (t.at_pid at found bound e, inl (record { wanted = wanted; length_is = long; tested = t.damaged at found bound e }))

-- What is damaged before a call that leaves the contents is so after it, and the other way round.
pub damaged-same : (old new : Outside Space) (pid : ℕ) (what : Damage) → SameContents old new → IsDamaged new pid what → IsDamaged old pid what
damaged-same old new pid what same (inl r) = inl (record {
  wanted = r.wanted;
  length_is = length_same r.wanted r.length_is;
  tested = λ space is. r.tested space (same.kept space is);
})
  where
    length_same : (wanted : Option ℕ) → IfSome wanted (λ count. (words : List ℕ) → Holds new pid words → length words ≡ count)
        → IfSome wanted (λ count. (words : List ℕ) → Holds old pid words → length words ≡ count)
    length_same None h = tt
    length_same (Some count) h = λ words held. h words ((Holds-same old new same pid words).1 held)
damaged-same old new pid what same (inr u) =
    inr (record { words = u.words; headed = u.headed; held = λ list held. u.held list ((Holds-same old new same pid list).1 held); why = u.why })

pub reports-same : (old new : Outside Space) (pid : ℕ) (fault : VaultFault) → SameContents old new → ReportsDamage new pid fault → ReportsDamage old pid fault
reports-same old new pid fault same reports at found wanted e =
    let t = reports at found wanted e in (t.0, damaged-same old new pid (record { found = found; wanted = wanted }) same t.1)

pub passes-same : (old new : Outside Space) (pid : ℕ) → SameContents old new → PassesVault new pid → PassesVault old pid
passes-same old new pid same passes space is = passes space (same.kept space is)

-- An object that is held is damaged by its own words.
pub held-damaged : (outside : Outside Space) (pid : ℕ) (what : Damage) (words : List ℕ) → IsDamaged outside pid what → Holds outside pid words → far_damage words ≡ Some what
held-damaged outside pid what words (inl r) held =
    let sound : damage_at held.space.words pid r.wanted ≡ None = object_sound held.space pid words r.wanted held.has (length_held r.wanted r.length_is) in
    let bad : None ≡ Some what = sym sound ∙ r.tested held.space held.is in
    absurd (cc)
  where
    length_held : (wanted : Option ℕ) → IfSome wanted (λ count. (list : List ℕ) → Holds outside pid list → length list ≡ count) → IfSome wanted (λ count. length words ≡ count)
    length_held None h = tt
    length_held (Some count) h = h words held
held-damaged outside pid what words (inr u) held = ap far_damage (u.held words held) ∙ u.why

-- References of an object that isn't in the area.

pub near_word-none : (words : List ℕ) → near_word words ≡ None → AreFarWords words
near_word-none [] e k below = absurd (omega (arith, below))
near_word-none (w ∷ ws) e zero below = grind (arith, nat_tests)
near_word-none (w ∷ ws) e (suc k) below = near_word-none ws (rest w ws e) k (omega arith)
  where
    rest : (w : ℕ) (ws : List ℕ) → near_word (w ∷ ws) ≡ None → near_word ws ≡ None
    rest w ws e = grind (arith, nat_tests)

pub near_word-far : (words : List ℕ) → AreFarWords words → near_word words ≡ None
near_word-far [] far = refl
near_word-far (w ∷ ws) far = step w ws (far 0 (omega arith)) (near_word-far ws (λ k below. far (suc k) (omega arith)))
  where
    step : (w : ℕ) (ws : List ℕ) → IsFarWord w → near_word ws ≡ None → near_word (w ∷ ws) ≡ None
    step w ws (inl none) rest = grind (arith, nat_tests)
    step w ws (inr high) rest = grind (arith, nat_tests)

pub far_slot : (words : List ℕ) (refs slot : ℕ) → near_word (take refs (drop 4 words)) ≡ None → 4 + refs ≤ length words → slot < refs → IsFarWord (slice_index words (4 + slot))
far_slot words refs slot none long below =
    let count : length (take refs (drop 4 words)) ≡ refs = length-take-le refs (drop 4 words) (omega (arith, length-drop 4 words)) in
    let read : slice_index (take refs (drop 4 words)) slot ≡ slice_index words (4 + slot) = get_or-take refs (drop 4 words) slot 0 below ∙ get_or-drop 4 words slot 0 in
    subst IsFarWord read (near_word-none (take refs (drop 4 words)) none slot (omega arith))

-- Words that may come into the area fail no test.
pub far-undamaged : (words : List ℕ) (header : Header) → IsFar words header → far_damage words ≡ None
far-undamaged words header far =
    let near : near_word (take header.refs (drop 4 words)) ≡ None = near_word-far (take header.refs (drop 4 words)) (far_refs words header far) in
    ap (λ (h : Header). damage_by h words) (far_header words header far) ∙ sound_by header words far.home far.bytes near
  where
    sound_by : (header : Header) (words : List ℕ) → 1 ≤ header.nums → HasRoomForBytes header.kind header.nums header.bytes
        → near_word (take header.refs (drop 4 words)) ≡ None → damage_by header words ≡ None
    sound_by header words home bytes near = grind (arith, nat_tests)

-- So an object that is held and may come into the area isn't damaged.
pub far-held : (outside : Outside Space) (pid : ℕ) (what : Damage) (words : List ℕ) (header : Header) → IsDamaged outside pid what → Holds outside pid words → IsFar words header → ⊥
far-held outside pid what words header damaged held far =
    let bad : None ≡ Some what = sym (far-undamaged words header far) ∙ held-damaged outside pid what words damaged held in
    absurd (cc)
