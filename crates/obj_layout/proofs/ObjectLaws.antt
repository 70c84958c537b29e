-- A space is cut into objects in at most one way.
use Rattle.std.proofs.Common.{◌≡◌, ℕ, ◌+◌, ◌-◌, ◌≤◌, List, [], ◌∷◌, ◌++◌, length, take, drop, refl, sym, ap, ◌∙◌, subst, arith, length-append, append_assoc, inl, inr}
use Rattle.std.proofs.lemmas.List.{take-append-le, take-append-drop, take_at, drop_at}
use Rattle.std.proofs.Math.Seq.{drop-append-add}
use Rattle.obj_layout.specs.Header.{header_words, object_length}
use Rattle.obj_layout.specs.Objects.{IsObject, Placed, Cuts, IsAmong, Lies}
use Rattle.obj_layout.proofs.HeaderLaws.{header_words-injective}

-- an object has its header
pub object-long : (words : List ℕ) → IsObject words → 4 ≤ length words
object-long words object = omega (arith, object.long)

-- an object at the start of words is as long as its header there says
pub object-length_same : (words xs ys front back : List ℕ) → IsObject xs → IsObject ys → words ≡ xs ++ front → words ≡ ys ++ back → length xs ≡ length ys
object-length_same words xs ys front back x y ex ey =
    let head_x : take 4 words ≡ take 4 xs = ap (take 4) ex ∙ take-append-le 4 xs front (object-long xs x) in
    let head_y : take 4 words ≡ take 4 ys = ap (take 4) ey ∙ take-append-le 4 ys back (object-long ys y) in
    let one : header_words x.header ≡ header_words y.header = x.spelled ∙ sym head_x ∙ head_y ∙ sym y.spelled in
    x.long ∙ ap object_length (header_words-injective x.header y.header x.fields y.fields one) ∙ sym y.long

abbrev placed : ℕ → List ℕ → Placed
placed pid words = record { pid = pid; words = words }

same_placed : (m n : ℕ) (xs ys : List ℕ) → m ≡ n → xs ≡ ys → placed m xs ≡ placed n ys
same_placed m n xs ys e f = cc

same_objects : (o p : Placed) (os ps : List Placed) → o.pid ≡ p.pid → o.words ≡ p.words → os ≡ ps → o ∷ os ≡ p ∷ ps
same_objects o p os ps e f g = ap (λ (x : Placed). x ∷ os) (same_placed o.pid p.pid o.words p.words e f) ∙ ap (λ (xs : List Placed). p ∷ xs) g

-- a space is cut into objects in at most one way
pub Cuts-unique : (at : ℕ) (words : List ℕ) (os ps : List Placed) → Cuts at words os → Cuts at words ps → os ≡ ps
Cuts-unique at words [] [] c d = refl
Cuts-unique at words [] (p ∷ ps) c d =
    let long = object-long p.words d.1 in
    let none : 0 ≡ length p.words + length d.2.0 = ap length (sym c ∙ d.2.1) ∙ length-append p.words d.2.0 in
    absurd (omega arith)
Cuts-unique at words (o ∷ os) [] c d =
    let long = object-long o.words c.1 in
    let none : 0 ≡ length o.words + length c.2.0 = ap length (sym d ∙ c.2.1) ∙ length-append o.words c.2.0 in
    absurd (omega arith)
Cuts-unique at words (o ∷ os) (p ∷ ps) c d =
    let long = object-length_same words o.words p.words c.2.0 d.2.0 c.1 d.1 c.2.1 d.2.1 in
    let first : o.words ≡ p.words =
    sym (take_at o.words c.2.0 (length o.words) refl) ∙ ap (take (length o.words)) (sym c.2.1 ∙ d.2.1) ∙ take_at p.words d.2.0 (length o.words) (sym long) in
    let rest : d.2.0 ≡ c.2.0 =
    sym (drop_at p.words d.2.0 (length o.words) (sym long)) ∙ ap (drop (length o.words)) (sym d.2.1 ∙ c.2.1) ∙ drop_at o.words c.2.0 (length o.words) refl in
    let cut : Cuts (at + length o.words) c.2.0 ps =
    subst (λ (r : List ℕ). Cuts (at + length o.words) r ps) rest (subst (λ (n : ℕ). Cuts (at + n) d.2.0 ps) (sym long) d.2.2) in
    let others = Cuts-unique (at + length o.words) c.2.0 os ps c.2.2 cut in
    same_objects o p os ps (c.0 ∙ sym d.0) first others

-- objects after objects
pub Cuts-append : (at : ℕ) (xs ys : List ℕ) (os ps : List Placed) → Cuts at xs os → Cuts (at + length xs) ys ps → Cuts at (xs ++ ys) (os ++ ps)
Cuts-append at xs ys [] ps c d =
    let none : length xs ≡ 0 = ap length c in
    subst (λ (r : List ℕ). Cuts at r ps) (ap (λ (r : List ℕ). r ++ ys) (sym c)) (subst (λ (n : ℕ). Cuts n ys ps) (omega arith) d)
Cuts-append at xs ys (o ∷ os) ps c d =
    let long : at + length xs ≡ at + length o.words + length c.2.0 = omega (arith, ap length c.2.1 ∙ length-append o.words c.2.0) in
    let rest = Cuts-append (at + length o.words) c.2.0 ys os ps c.2.2 (subst (λ (n : ℕ). Cuts n ys ps) long d) in
    (c.0, c.1, (c.2.0 ++ ys, ap (λ (r : List ℕ). r ++ ys) c.2.1 ∙ append_assoc o.words c.2.0 ys, rest))

-- each object of a cut is an object, and lies at its PID
pub Cuts-object : (at : ℕ) (words : List ℕ) (os : List Placed) (o : Placed) → Cuts at words os → IsAmong o os → IsObject o.words
Cuts-object at words [] o c none = elim none [ ]
Cuts-object at words (p ∷ os) o c (inl e) = subst IsObject (ap (λ (x : Placed). x.words) (sym e)) c.1
Cuts-object at words (p ∷ os) o c (inr m) = Cuts-object (at + length p.words) c.2.0 os o c.2.2 m

pub Cuts-lies : (at : ℕ) (words : List ℕ) (os : List Placed) (o : Placed) → Cuts at words os → IsAmong o os → Lies at words o
Cuts-lies at words [] o c none = elim none [ ]
Cuts-lies at words (p ∷ os) o c (inl e) =
    let pid : o.pid ≡ at = ap (λ (x : Placed). x.pid) e ∙ c.0 in
    let front : o.words ≡ p.words = ap (λ (x : Placed). x.words) e in
    let long : length words ≡ length p.words + length c.2.0 = ap length c.2.1 ∙ length-append p.words c.2.0 in
    let first : o.pid - at ≡ 0 = omega arith in
    record {
      from = omega arith;
      within = omega (arith, ap length front);
      there = ap (λ (n : ℕ). take (length o.words) (drop n words)) first ∙ ap (take (length o.words)) (c.2.1 ∙ ap (λ (r : List ℕ). r ++ c.2.0) (sym front)) ∙ take_at o.words c.2.0 (length o.words) refl;
    }
Cuts-lies at words (p ∷ os) o c (inr m) =
    let rest = Cuts-lies (at + length p.words) c.2.0 os o c.2.2 m in
    let long : length words ≡ length p.words + length c.2.0 = ap length c.2.1 ∙ length-append p.words c.2.0 in
    let from = rest.from in
    let place : o.pid - at ≡ length p.words + (o.pid - (at + length p.words)) = omega arith in
    record {
      from = omega (arith, rest.from);
      within = omega (arith, rest.within);
      there = ap (λ (r : List ℕ). take (length o.words) (drop (o.pid - at) r)) c.2.1 ∙ ap (λ (n : ℕ). take (length o.words) (drop n (p.words ++ c.2.0))) place ∙ ap (take (length o.words)) (drop-append-add p.words c.2.0 (o.pid - (at + length p.words))) ∙ rest.there;
    }

-- the objects of a cut are a map: one PID, one object
pub Cuts-map : (at : ℕ) (words : List ℕ) (os : List Placed) (o p : Placed) → Cuts at words os → IsAmong o os → IsAmong p os → o.pid ≡ p.pid → o ≡ p
Cuts-map at words os o p c m n e =
    let lo = Cuts-lies at words os o c m in
    let lp = Cuts-lies at words os p c n in
    let here = drop (o.pid - at) words in
    let split = λ (k : ℕ). take-append-drop k here in
    let at_o : here ≡ o.words ++ drop (length o.words) here = sym (split (length o.words)) ∙ ap (λ (r : List ℕ). r ++ drop (length o.words) here) lo.there in
    let there : take (length p.words) here ≡ p.words = ap (λ (k : ℕ). take (length p.words) (drop (k - at) words)) e ∙ lp.there in
    let at_p : here ≡ p.words ++ drop (length p.words) here = sym (split (length p.words)) ∙ ap (λ (r : List ℕ). r ++ drop (length p.words) here) there in
    let long = object-length_same here o.words p.words (drop (length o.words) here) (drop (length p.words) here) (Cuts-object at words os o c m) (Cuts-object at words os p c n) at_o at_p in
    same_placed o.pid p.pid o.words p.words e (sym lo.there ∙ ap (λ (k : ℕ). take k here) long ∙ there)
