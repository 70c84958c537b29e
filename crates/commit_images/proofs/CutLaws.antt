-- A space that is cut into objects is so with an object more behind it, and with an object in place of one that is as long.
use Rattle.std.proofs.Common.{◌≡◌, ◌≢◌, ℕ, ◌+◌, ◌-◌, ◌≤◌, List, [], ◌∷◌, ◌++◌, length, take, drop, refl, sym, ap, ◌∙◌, subst, arith, length-append, length-drop, append_assoc, inl, inr, ◌⊎◌, Option, Some, None}
use Rattle.std.specs.Prelude.{◌==◌, if◌then◌else◌, nat_lt}
use Rattle.std.proofs.lemmas.List.{append-nil, drop_at, drop-append-le}
use Rattle.std.proofs.Math.Seq.{take-append-add, drop-append-add}
use Rattle.std.proofs.lemmas.Bool.{cases_eq}
use Rattle.std.proofs.lemmas.Bool.Decides.{nat_tests}
use Rattle.swizzle.specs.obj_layout.declared.header.LayoutFault.{LayoutFault}
use Rattle.swizzle.specs.obj_layout.declared.header.LayoutFault.TheVariants.{UnknownKind, BadBits, BadLength}
use Rattle.swizzle.specs.obj_layout.Header.{header_fault}
use Rattle.swizzle.specs.obj_layout.Objects.{Placed, IsObject, Cuts, HoldsObjects, IsAmong}
use Rattle.swizzle.specs.obj_layout.Stored.{Space, HasObject, appended, overwritten, with_words, Damage, damage, damage_at, of_length, of_words, length_in}
use Rattle.swizzle.proofs.of_obj_layout.ObjectLaws.{object-long, Cuts-unique, Cuts-append, Cuts-lies}
use Rattle.swizzle.proofs.DamageLaws.{object_sound}
use Rattle.swizzle.proofs.ObjectLaws.{here, elsewhere}
use Rattle.commit_images.specs.Stored.{IsCut}

abbrev pub placed : ℕ → List ℕ → Placed
placed pid words = record { pid = pid; words = words }

-- Membership.

among-left : (o : Placed) (os ps : List Placed) → IsAmong o os → IsAmong o (os ++ ps)
among-left o [] ps none = absurd none
among-left o (q ∷ os) ps (inl e) = inl e
among-left o (q ∷ os) ps (inr m) = inr (among-left o os ps m)

among-right : (o : Placed) (os ps : List Placed) → IsAmong o ps → IsAmong o (os ++ ps)
among-right o [] ps m = m
among-right o (q ∷ os) ps m = inr (among-right o os ps m)

among-cases : (o : Placed) (os ps : List Placed) → IsAmong o (os ++ ps) → IsAmong o os ⊎ IsAmong o ps
among-cases o [] ps m = inr m
among-cases o (q ∷ os) ps (inl e) = inl (inl e)
among-cases o (q ∷ os) ps (inr m) = elim (among-cases o os ps m) [ inl l ↦ inl (inr l) | inr r ↦ inr r ]

-- One object more.

holds-more : (used put : List ℕ) (os : List Placed) → HoldsObjects used os → IsObject put → HoldsObjects (used ++ put) (os ++ placed (length used) put ∷ [])
holds-more used put os h o =
    let some = h.0 in
    let behind : length used ≡ 1 + length (drop 1 used) = omega (arith, length-drop 1 used) in
    let last : Cuts (1 + length (drop 1 used)) put (placed (length used) put ∷ []) = (behind, o, ([], sym (append-nil put), refl)) in (
      omega (arith, length-append used put),
      subst (λ (r : List ℕ). Cuts 1 r (os ++ placed (length used) put ∷ [])) (sym (drop-append-le 1 used put h.0)) (Cuts-append 1 (drop 1 used) put os (placed (length used) put ∷ []) h.1 last),
    )

pub more-cut : (space : Space) (put : List ℕ) → IsCut space → IsObject put → IsCut (appended put space)
more-cut space put c o = record { objects = c.objects ++ placed (length space.words) put ∷ []; cut = holds-more space.words put c.objects c.cut o }

pub more-stays : (space : Space) (put : List ℕ) (pid : ℕ) (words : List ℕ) → IsObject put → HasObject space pid words → HasObject (appended put space) pid words
more-stays space put pid words o h = record {
  objects = h.objects ++ placed (length space.words) put ∷ [];
  cut = holds-more space.words put h.objects h.cut o;
  among = among-left (placed pid words) h.objects (placed (length space.words) put ∷ []) h.among;
}

pub more-here : (space : Space) (put : List ℕ) → IsCut space → IsObject put → HasObject (appended put space) (length space.words) put
more-here space put c o = record {
  objects = c.objects ++ placed (length space.words) put ∷ [];
  cut = holds-more space.words put c.objects c.cut o;
  among = among-right (placed (length space.words) put) c.objects (placed (length space.words) put ∷ []) (inl refl);
}

pub more-cases : (space : Space) (put : List ℕ) (pid : ℕ) (words : List ℕ) → IsCut space → IsObject put → HasObject (appended put space) pid words
    → HasObject space pid words ⊎ ((pid ≡ length space.words) × (words ≡ put))
more-cases space put pid words c o h =
    let cut = holds-more space.words put c.objects c.cut o in
    let last = placed (length space.words) put ∷ [] in
    let same = Cuts-unique 1 (drop 1 (appended put space).words) h.objects (c.objects ++ last) h.cut.1 cut.1 in
    let m : IsAmong (placed pid words) (c.objects ++ last) = subst (IsAmong (placed pid words)) same h.among in
    elim (among-cases (placed pid words) c.objects last m) [
      | inl l ↦ inl (record { objects = c.objects; cut = c.cut; among = l })
      | inr r ↦ elim r [ inl e ↦ inr (ap (λ (x : Placed). x.pid) e, ap (λ (x : Placed). x.words) e) | inr none ↦ absurd none ]
    ]

-- One object in place of another.

abbrev replaced : List Placed → ℕ → List ℕ → List Placed
replaced [] pid put = []
replaced (o ∷ os) pid put = if o.pid == pid then placed pid put ∷ os else o ∷ replaced os pid put

with_words-later : (front words : List ℕ) (k n : ℕ) (put : List ℕ) → n ≡ length front + k → with_words (front ++ words) n put ≡ front ++ with_words words k put
with_words-later front words k n put e =
    let first : take n (front ++ words) ≡ front ++ take k words = ap (λ (i : ℕ). take i (front ++ words)) e ∙ take-append-add front words k in
    let last : drop (n + length put) (front ++ words) ≡ drop (k + length put) words = ap (λ (i : ℕ). drop i (front ++ words)) (omega (arith, e)) ∙ drop-append-add front words (k + length put) in
    ap (λ (r : List ℕ). r ++ (put ++ drop (n + length put) (front ++ words))) first
    ∙ append_assoc front (take k words) (put ++ drop (n + length put) (front ++ words))
    ∙ ap (λ (r : List ℕ). front ++ (take k words ++ (put ++ r))) last

with_words-first : (old rest put : List ℕ) → length put ≡ length old → with_words (old ++ rest) 0 put ≡ put ++ rest
with_words-first old rest put long =
    ap (λ (n : ℕ). put ++ drop n (old ++ rest)) (omega (arith, long)) ∙ ap (λ (r : List ℕ). put ++ r) (drop_at old rest (length old) refl)

cuts-replaced : (at : ℕ) (words : List ℕ) (os : List Placed) (pid : ℕ) (old put : List ℕ) → Cuts at words os → IsAmong (placed pid old) os → length put ≡ length old → IsObject put
    → Cuts at (with_words words (pid - at) put) (replaced os pid put)
cuts-replaced at words [] pid old put c none long o = absurd none
cuts-replaced at words (p ∷ os) pid old put c (inl e) long o =
    let is : pid ≡ p.pid = ap (λ (x : Placed). x.pid) e in
    let olds : old ≡ p.words = ap (λ (x : Placed). x.words) e in
    let start : pid - at ≡ 0 = omega (arith, is, c.0) in
    let whole : words ≡ old ++ c.2.0 = c.2.1 ∙ ap (λ (r : List ℕ). r ++ c.2.0) (sym olds) in
    let now : with_words words (pid - at) put ≡ put ++ c.2.0 = ap (λ (k : ℕ). with_words words k put) start ∙ ap (λ (r : List ℕ). with_words r 0 put) whole ∙ with_words-first old c.2.0 put long in
    let long_p : length p.words ≡ length put = omega (arith, long, ap length olds) in
    let cut : Cuts at (put ++ c.2.0) (placed pid put ∷ os) = (is ∙ c.0, o, (c.2.0, refl, subst (λ (n : ℕ). Cuts (at + n) c.2.0 os) long_p c.2.2)) in
    subst (λ (r : List Placed). Cuts at (with_words words (pid - at) put) r) (sym (here p.pid pid (placed pid put ∷ os) (p ∷ replaced os pid put) (sym is)))
    (subst (λ (r : List ℕ). Cuts at r (placed pid put ∷ os)) (sym now) cut)
cuts-replaced at words (p ∷ os) pid old put c (inr m) long o =
    let lies = Cuts-lies (at + length p.words) c.2.0 os (placed pid old) c.2.2 m in
    let four = object-long p.words c.1 in
    let from : at + length p.words ≤ pid = lies.from in
    let apart : p.pid ≢ pid = λ e. omega (arith, e, c.0, from, four) in
    let rest = cuts-replaced (at + length p.words) c.2.0 os pid old put c.2.2 m long o in
    let place : pid - at ≡ length p.words + (pid - (at + length p.words)) = omega (arith, from) in
    let now : with_words words (pid - at) put ≡ p.words ++ with_words c.2.0 (pid - (at + length p.words)) put = ap (λ (r : List ℕ). with_words r (pid - at) put) c.2.1 ∙ with_words-later p.words c.2.0 (pid - (at + length p.words)) (pid - at) put place in
    subst (λ (r : List Placed). Cuts at (with_words words (pid - at) put) r) (sym (elsewhere p.pid pid (placed pid put ∷ os) (p ∷ replaced os pid put) apart))
    (c.0, c.1, (with_words c.2.0 (pid - (at + length p.words)) put, now, rest))

among-replaced : (os : List Placed) (pid : ℕ) (old put : List ℕ) → IsAmong (placed pid old) os → IsAmong (placed pid put) (replaced os pid put)
among-replaced [] pid old put none = absurd none
among-replaced (p ∷ os) pid old put (inl e) =
    subst (IsAmong (placed pid put)) (sym (here p.pid pid (placed pid put ∷ os) (p ∷ replaced os pid put) (sym (ap (λ (x : Placed). x.pid) e)))) (inl refl)
among-replaced (p ∷ os) pid old put (inr m) = elim (cases_eq p.pid pid) [
  | inl e ↦ subst (IsAmong (placed pid put)) (sym (here p.pid pid (placed pid put ∷ os) (p ∷ replaced os pid put) e)) (inl refl)
  | inr ne ↦ subst (IsAmong (placed pid put)) (sym (elsewhere p.pid pid (placed pid put ∷ os) (p ∷ replaced os pid put) ne)) (inr (among-replaced os pid old put m))
]

among-kept : (os : List Placed) (pid : ℕ) (put : List ℕ) (o : Placed) → IsAmong o os → o.pid ≢ pid → IsAmong o (replaced os pid put)
among-kept [] pid put o none apart = absurd none
among-kept (p ∷ os) pid put o m apart = elim (cases_eq p.pid pid) [
  | inl e ↦ subst (IsAmong o) (sym (here p.pid pid (placed pid put ∷ os) (p ∷ replaced os pid put) e)) (later m e)
  | inr ne ↦ subst (IsAmong o) (sym (elsewhere p.pid pid (placed pid put ∷ os) (p ∷ replaced os pid put) ne)) (elim m [ inl same ↦ inl same | inr k ↦ inr (among-kept os pid put o k apart) ])
]
  where
    later : IsAmong o (p ∷ os) → p.pid ≡ pid → IsAmong o (placed pid put ∷ os)
    later (inl same) e = absurd (apart (ap (λ (x : Placed). x.pid) same ∙ e))
    later (inr k) e = inr k

among-back : (os : List Placed) (pid : ℕ) (put : List ℕ) (o : Placed) → IsAmong o (replaced os pid put) → o.pid ≢ pid → IsAmong o os
among-back [] pid put o none apart = absurd none
among-back (p ∷ os) pid put o m apart = elim (cases_eq p.pid pid) [
  | inl e ↦ later (subst (IsAmong o) (here p.pid pid (placed pid put ∷ os) (p ∷ replaced os pid put) e) m)
  | inr ne ↦ elim (subst (IsAmong o) (elsewhere p.pid pid (placed pid put ∷ os) (p ∷ replaced os pid put) ne) m) [ inl same ↦ inl same | inr k ↦ inr (among-back os pid put o k apart) ]
]
  where
    later : IsAmong o (placed pid put ∷ os) → IsAmong o (p ∷ os)
    later (inl same) = absurd (apart (ap (λ (x : Placed). x.pid) same))
    later (inr k) = inr k

-- word 0 is no object's
with_words-behind : (used : List ℕ) (pid : ℕ) (put : List ℕ) → 1 ≤ length used → 1 ≤ pid → drop 1 (with_words used pid put) ≡ with_words (drop 1 used) (pid - 1) put
with_words-behind [] pid put some low = absurd (omega (arith, some))
with_words-behind (w ∷ ws) pid put some low = ap (drop 1) (with_words-later (w ∷ []) ws (pid - 1) pid put (omega (arith, low)))

some-words : (used : List ℕ) (pid : ℕ) (put : List ℕ) → 1 ≤ length used → 1 ≤ pid → 1 ≤ length (with_words used pid put)
some-words [] pid put some low = absurd (omega (arith, some))
some-words (w ∷ ws) pid put some low = let whole = ap length (with_words-later (w ∷ []) ws (pid - 1) pid put (omega (arith, low))) in omega (arith, whole)

holds-replaced : (used : List ℕ) (os : List Placed) (pid : ℕ) (old put : List ℕ) → HoldsObjects used os → IsAmong (placed pid old) os → length put ≡ length old → IsObject put
    → HoldsObjects (with_words used pid put) (replaced os pid put)
holds-replaced used os pid old put h m long o =
    let lies = Cuts-lies 1 (drop 1 used) os (placed pid old) h.1 m in
    let low : 1 ≤ pid = lies.from in (
      some-words used pid put h.0 low,
      subst (λ (r : List ℕ). Cuts 1 r (replaced os pid put)) (sym (with_words-behind used pid put h.0 low)) (cuts-replaced 1 (drop 1 used) os pid old put h.1 m long o),
    )

pub over-cut : (space : Space) (pid : ℕ) (old put : List ℕ) → HasObject space pid old → length put ≡ length old → IsObject put → IsCut (overwritten pid put space)
over-cut space pid old put h long o = record { objects = replaced h.objects pid put; cut = holds-replaced space.words h.objects pid old put h.cut h.among long o }

pub over-here : (space : Space) (pid : ℕ) (old put : List ℕ) → HasObject space pid old → length put ≡ length old → IsObject put → HasObject (overwritten pid put space) pid put
over-here space pid old put h long o = record {
  objects = replaced h.objects pid put;
  cut = holds-replaced space.words h.objects pid old put h.cut h.among long o;
  among = among-replaced h.objects pid old put h.among;
}

same-cut : (space : Space) (pid q : ℕ) (old words : List ℕ) → (h : HasObject space pid old) → HasObject space q words → IsAmong (placed q words) h.objects
same-cut space pid q old words h k = subst (IsAmong (placed q words)) (Cuts-unique 1 (drop 1 space.words) k.objects h.objects k.cut.1 h.cut.1) k.among

pub over-stays : (space : Space) (pid : ℕ) (old put : List ℕ) (q : ℕ) (words : List ℕ) → HasObject space pid old → length put ≡ length old → IsObject put
    → q ≢ pid → HasObject space q words → HasObject (overwritten pid put space) q words
over-stays space pid old put q words h long o apart k = record {
  objects = replaced h.objects pid put;
  cut = holds-replaced space.words h.objects pid old put h.cut h.among long o;
  among = among-kept h.objects pid put (placed q words) (same-cut space pid q old words h k) apart;
}

pub over-back : (space : Space) (pid : ℕ) (old put : List ℕ) (q : ℕ) (words : List ℕ) → HasObject space pid old → length put ≡ length old → IsObject put
    → q ≢ pid → HasObject (overwritten pid put space) q words → HasObject space q words
unfolding over-here
over-back space pid old put q words h long o apart k =
    let now = over-here space pid old put h long o in
    record { objects = h.objects; cut = h.cut; among = among-back h.objects pid put (placed q words) (same-cut (overwritten pid put space) pid q put words now k) apart }

length-middle : (front old rest put : List ℕ) → length put ≡ length old → length (front ++ (put ++ rest)) ≡ length (front ++ (old ++ rest))
length-middle front old rest put long = omega (arith, long, length-append front (put ++ rest), length-append put rest, length-append front (old ++ rest), length-append old rest)

-- Of an object that a space holds and that passes the tests of a length, that is the length.

same_wanted : (pid used : ℕ) (header : List ℕ) (fault : Option LayoutFault) (m n : ℕ) → of_words pid used header fault (Some m) ≡ None → of_words pid used header fault (Some n) ≡ None → m ≡ n
same_wanted pid used header (Some (UnknownKind found)) m n a b = absurd (cc)
same_wanted pid used header (Some (BadBits found)) m n a b = absurd (cc)
same_wanted pid used header (Some (BadLength found bound)) m n a b = absurd (cc)
same_wanted pid used header None m n a b = by_length (length_in header) a b
  where
    by_length : (long : ℕ) → of_length pid used long (Some m) ≡ None → of_length pid used long (Some n) ≡ None → m ≡ n
    by_length long a b = grind (arith, nat_tests)

through : (used pid : ℕ) (x : Option Damage)
    → (if nat_lt pid 1 then damage pid 1 else (if nat_lt pid used then (if nat_lt used (pid + 4) then damage (pid + 4) used else x) else damage pid used)) ≡ None → x ≡ None
through used pid x e = grind (arith, nat_tests)

same_damage : (words : List ℕ) (pid m n : ℕ) → damage_at words pid (Some m) ≡ None → damage_at words pid (Some n) ≡ None → m ≡ n
same_damage words pid m n a b =
    let header = take 4 (drop pid words) in
    let used = length words in
    same_wanted pid used header (header_fault header) m n
    (through used pid (of_words pid used header (header_fault header) (Some m)) a)
    (through used pid (of_words pid used header (header_fault header) (Some n)) b)

pub tested-long : (space : Space) (pid : ℕ) (words : List ℕ) (n : ℕ) → HasObject space pid words → damage_at space.words pid (Some n) ≡ None → n ≡ length words
tested-long space pid words n h tested = same_damage space.words pid n (length words) tested (object_sound space pid words (Some (length words)) h refl)
