-- What a store of objects holds is a map from PIDs to objects.
use Rattle.std.proofs.Common.{◌≡◌, ◌↔◌, ℕ, ◌+◌, ◌≤◌, List, length, drop, refl, sym, ap, subst, arith, length-drop}
use Rattle.ps_outside.specs.Outside.{Outside, SameContents}
use Rattle.obj_layout.specs.Objects.{Placed, IsObject, IsAmong}
use Rattle.obj_layout.specs.Stored.{Space, IsSpace, HasObject, Holds, IsHeaded}
use Rattle.obj_layout.proofs.ObjectLaws.{Cuts-unique, Cuts-object, Cuts-lies, Cuts-map}

abbrev placed : ℕ → List ℕ → Placed
placed pid words = record { pid = pid; words = words }

-- a space has one object of a PID
pub HasObject-one : (space : Space) (pid : ℕ) (xs ys : List ℕ) → HasObject space pid xs → HasObject space pid ys → xs ≡ ys
HasObject-one space pid xs ys h k =
    let rest = drop 1 space.words in
    let same = Cuts-unique 1 rest h.objects k.objects h.cut.1 k.cut.1 in
    let here : IsAmong (placed pid xs) k.objects = subst (IsAmong (placed pid xs)) same h.among in
    ap (λ (o : Placed). o.words) (Cuts-map 1 rest k.objects (placed pid xs) (placed pid ys) k.cut.1 here k.among refl)

-- An object of a space lies after word 0 and within the space's words.
pub record IsWithin (used pid : ℕ) (words : List ℕ) : Type 0 where
  pub low : 1 ≤ pid
  pub high : pid + length words ≤ used

pub HasObject-within : (space : Space) (pid : ℕ) (words : List ℕ) → HasObject space pid words → IsWithin (length space.words) pid words
HasObject-within space pid words h =
    let lies = Cuts-lies 1 (drop 1 space.words) h.objects (placed pid words) h.cut.1 h.among in
    let some = h.cut.0 in
    record { low = lies.from; high = omega (arith, lies.within, length-drop 1 space.words) }

pub HasObject-object : (space : Space) (pid : ℕ) (words : List ℕ) → HasObject space pid words → IsObject words
HasObject-object space pid words h = Cuts-object 1 (drop 1 space.words) h.objects (placed pid words) h.cut.1 h.among

-- one content, one list for a PID
pub Holds-one : (outside : Outside Space) (pid : ℕ) (xs ys : List ℕ) → ((a b : Space) → outside.contents a → outside.contents b → a ≡ b)
    → Holds outside pid xs → Holds outside pid ys → xs ≡ ys
Holds-one outside pid xs ys one h k =
    HasObject-one k.space pid xs ys (subst (λ (s : Space). HasObject s pid xs) (one h.space k.space h.is k.is) h.has) k.has

-- what is held is an object
pub Holds-object : (outside : Outside Space) (pid : ℕ) (words : List ℕ) → Holds outside pid words → IsObject words
Holds-object outside pid words h = HasObject-object h.space pid words h.has

-- so it begins with a header that gives its number of words
pub Holds-headed : (outside : Outside Space) (pid : ℕ) (words : List ℕ) → Holds outside pid words → IsHeaded words
Holds-headed outside pid words h =
    let object = Holds-object outside pid words h in
    record { header = object.header; fields = object.fields; lengths = object.lengths; spelled = sym object.spelled; long = object.long }

-- its PID is at least 1
pub Holds-low : (outside : Outside Space) (pid : ℕ) (words : List ℕ) → Holds outside pid words → 1 ≤ pid
Holds-low outside pid words h = (HasObject-within h.space pid words h.has).low

-- and it ends at or below the used words
pub Holds-within : (outside : Outside Space) (used directory pid : ℕ) (words : List ℕ) → ((space : Space) → outside.contents space → IsSpace used directory space)
    → Holds outside pid words → IsWithin used pid words
Holds-within outside used directory pid words space h =
    let it = space h.space h.is in
    subst (λ (n : ℕ). IsWithin n pid words) it.long (HasObject-within h.space pid words h.has)

-- what a call that leaves the contents leaves
pub Holds-same : (old new : Outside Space) → SameContents old new → (pid : ℕ) (words : List ℕ) → Holds new pid words ↔ Holds old pid words
Holds-same old new same pid words =
    ((λ h. record { space = h.space; is = same.no_other h.space h.is; has = h.has }), (λ h. record { space = h.space; is = same.kept h.space h.is; has = h.has }))
