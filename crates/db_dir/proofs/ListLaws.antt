-- Databases in their places, and the search for a name.
use Rattle.std.proofs.Common.{arith, ◌≡◌, ℕ, zero, suc, ◌+◌, ◌*◌, ◌<◌, Bool, true, false, List, [], ◌∷◌, ◌++◌, length, get_or, Option, Some, None, refl, ap, ◌∙◌, subst}
use Rattle.std.specs.Prelude.{if◌then◌else◌}
use Rattle.std.specs.List.{AllByRecursion}
use Rattle.joint_ops.specs.obj_layout.declared.reference.Reference.{Reference}
use Rattle.joint_ops.specs.obj_layout.declared.reference.Reference.TheVariants.{Nil}
use Rattle.joint_ops.specs.swizzle.Changes.{Within}
use Rattle.joint_ops.specs.heap_places.Shapes.{IsText}
use Rattle.joint_ops.specs.heap_meaning.Standing.{Seen, Pairing}
use Rattle.joint_ops.proofs.of_heap_meaning.StandingLaws.{text-more}
use Rattle.joint_ops.specs.ps_heap.Texts.{is_same_text}
use Rattle.joint_ops.specs.ps_heap.Databases.{Database, Directory, Numbered, named_from}
use Rattle.db_dir.specs.Directories.{AreNamed, IsRootSeen, IsFitDatabase}

-- the database in a place, from 0
abbrev pub in_place : Directory → ℕ → Option Database
in_place [] k = None
in_place (d ∷ ds) zero = Some d
in_place (d ∷ ds) (suc k) = in_place ds k

pub place-below : (ds : Directory) (k : ℕ) (d : Database) → in_place ds k ≡ Some d → k < length ds
place-below [] k d e = absurd (cc)
place-below (x ∷ ds) zero d e = omega arith
place-below (x ∷ ds) (suc k) d e = omega (arith, place-below ds k d e)

pub place-there : (ds : Directory) (k : ℕ) → k < length ds → (d : Database) × (in_place ds k ≡ Some d)
place-there [] k lt = absurd (omega (arith, lt))
place-there (x ∷ ds) zero lt = (x, refl)
place-there (x ∷ ds) (suc k) lt = place-there ds k (omega (arith, lt))

pub fit-in_place : (ds : Directory) (k : ℕ) (d : Database) → AllByRecursion IsFitDatabase ds → in_place ds k ≡ Some d → IsFitDatabase d
fit-in_place [] k d f e = absurd (cc)
fit-in_place (x ∷ ds) zero d f e = let same : x ≡ d = cc in subst IsFitDatabase same f.0
fit-in_place (x ∷ ds) (suc k) d f e = fit-in_place ds k d f.1 e

-- What the references of a directory are, in the places of one database.
pub record IsNamed (s : Seen) (pair : Pairing) (refs : List Reference) (k : ℕ) (d : Database) : Type 0 where
  pub name : IsText s (get_or refs (3 * k) Nil) d.name
  pub password : IsText s (get_or refs (3 * k + 1) Nil) d.password
  pub root : IsRootSeen s pair (get_or refs (3 * k + 2) Nil) d.root

first-named : (s : Seen) (pair : Pairing) (n p r : Reference) (more : List Reference) (x d : Database) → x ≡ d → IsText s n x.name → IsText s p x.password
    → IsRootSeen s pair r x.root → IsNamed s pair (n ∷ p ∷ r ∷ more) 0 d
first-named s pair n p r more x d same a b c = subst (IsNamed s pair (n ∷ p ∷ r ∷ more) 0) same (record { name = a; password = b; root = c })

next-named : (s : Seen) (pair : Pairing) (n p r : Reference) (more : List Reference) (k : ℕ) (d : Database) → IsNamed s pair more k d
    → IsNamed s pair (n ∷ p ∷ r ∷ more) (suc k) d
next-named s pair n p r more k d is =
    let refs = n ∷ p ∷ r ∷ more in
    let a : suc (suc (suc (3 * k))) ≡ 3 * suc k = omega arith in
    let b : suc (suc (suc (3 * k + 1))) ≡ 3 * suc k + 1 = omega arith in
    let c : suc (suc (suc (3 * k + 2))) ≡ 3 * suc k + 2 = omega arith in
    record {
      name = subst (λ (i : ℕ). IsText s (get_or refs i Nil) d.name) a is.name;
      password = subst (λ (i : ℕ). IsText s (get_or refs i Nil) d.password) b is.password;
      root = subst (λ (i : ℕ). IsRootSeen s pair (get_or refs i Nil) d.root) c is.root;
    }

pub named-in_place : (s : Seen) (pair : Pairing) (refs : List Reference) (ds : Directory) (k : ℕ) (d : Database) → AreNamed s pair refs ds → in_place ds k ≡ Some d
    → IsNamed s pair refs k d
named-in_place s pair refs [] k d a e = absurd (cc)
named-in_place s pair [] (x ∷ ds) k d a e = absurd a
named-in_place s pair (n ∷ []) (x ∷ ds) k d a e = absurd a
named-in_place s pair (n ∷ p ∷ []) (x ∷ ds) k d a e = absurd a
named-in_place s pair (n ∷ p ∷ r ∷ more) (x ∷ ds) zero d a e = let same : x ≡ d = cc in first-named s pair n p r more x d same a.0 a.1 a.2
named-in_place s pair (n ∷ p ∷ r ∷ more) (x ∷ ds) (suc k) d a e = next-named s pair n p r more k d (named-in_place s pair more ds k d a.3 e)

pub named-length : (s : Seen) (pair : Pairing) (refs : List Reference) (ds : Directory) → AreNamed s pair refs ds → length refs ≡ 3 * length ds
named-length s pair [] [] a = refl
named-length s pair (n ∷ []) [] a = absurd a
named-length s pair (n ∷ o ∷ []) [] a = absurd a
named-length s pair (n ∷ o ∷ q ∷ more) [] a = absurd a
named-length s pair [] (x ∷ ds) a = absurd a
named-length s pair (n ∷ []) (x ∷ ds) a = absurd a
named-length s pair (n ∷ p ∷ []) (x ∷ ds) a = absurd a
named-length s pair (n ∷ p ∷ r ∷ more) (x ∷ ds) a = omega (arith, named-length s pair more ds a.3)

pub root-within : (s t : Seen) (pair : Pairing) (n : Reference) (root : ℕ) → Within s t → IsRootSeen s pair n root → IsRootSeen t pair n root
root-within s t pair n root w r = record { paired = r.paired; kind = record { it = r.kind.it; there = w n r.kind.it r.kind.there; kind_is = r.kind.kind_is } }

pub text-within : (s t : Seen) (n : Reference) (bytes : List ℕ) → Within s t → IsText s n bytes → IsText t n bytes
text-within s t n bytes w x = text-more s t n bytes (λ it k there. w n it there) x

pub named-within : (s t : Seen) (pair : Pairing) (refs : List Reference) (ds : Directory) → Within s t → AreNamed s pair refs ds → AreNamed t pair refs ds
named-within s t pair [] [] w a = a
named-within s t pair (n ∷ []) [] w a = absurd a
named-within s t pair (n ∷ o ∷ []) [] w a = absurd a
named-within s t pair (n ∷ o ∷ q ∷ more) [] w a = absurd a
named-within s t pair [] (x ∷ ds) w a = absurd a
named-within s t pair (n ∷ []) (x ∷ ds) w a = absurd a
named-within s t pair (n ∷ p ∷ []) (x ∷ ds) w a = absurd a
named-within s t pair (n ∷ p ∷ r ∷ more) (x ∷ ds) w a =
    (text-within s t n x.name w a.0, text-within s t p x.password w a.1, root-within s t pair r x.root w a.2, named-within s t pair more ds w a.3)

-- one database more
pub named-more : (s : Seen) (pair : Pairing) (refs : List Reference) (ds : Directory) (n p r : Reference) (d : Database) → AreNamed s pair refs ds → IsText s n d.name
    → IsText s p d.password → IsRootSeen s pair r d.root → AreNamed s pair (refs ++ n ∷ p ∷ r ∷ []) (ds ++ d ∷ [])
named-more s pair [] [] n p r d a x y z = (x, y, z, tt)
named-more s pair (m ∷ []) [] n p r d a x y z = absurd a
named-more s pair (m ∷ o ∷ []) [] n p r d a x y z = absurd a
named-more s pair (m ∷ o ∷ q ∷ more) [] n p r d a x y z = absurd a
named-more s pair [] (e ∷ ds) n p r d a x y z = absurd a
named-more s pair (m ∷ []) (e ∷ ds) n p r d a x y z = absurd a
named-more s pair (m ∷ o ∷ []) (e ∷ ds) n p r d a x y z = absurd a
named-more s pair (m ∷ o ∷ q ∷ more) (e ∷ ds) n p r d a x y z = (a.0, a.1, a.2, named-more s pair more ds n p r d a.3 x y z)

pub fit-more : (ds : Directory) (d : Database) → AllByRecursion IsFitDatabase ds → IsFitDatabase d → AllByRecursion IsFitDatabase (ds ++ d ∷ [])
fit-more [] d f g = (g, tt)
fit-more (x ∷ ds) d f g = (f.0, fit-more ds d f.1 g)

-- The search for a name.

abbrev pub numbered : ℕ → Database → Numbered
numbered n d = record { number = n; database = d }

pub named-none : (n : ℕ) (ds : Directory) (name : List ℕ) → ((k : ℕ) (d : Database) → in_place ds k ≡ Some d → is_same_text d.name name ≡ false)
    → named_from n ds name ≡ None
named-none n [] name f = refl
named-none n (x ∷ ds) name f =
    ap (λ (b : Bool). if b then Some (numbered n x) else named_from (suc n) ds name) (f 0 x refl)
    ∙ named-none (suc n) ds name (λ k d e. f (suc k) d e)

pub named-first : (n : ℕ) (ds : Directory) (name : List ℕ) (k m : ℕ) (d : Database) → in_place ds k ≡ Some d
    → ((j : ℕ) (e : Database) → j < k → in_place ds j ≡ Some e → is_same_text e.name name ≡ false) → is_same_text d.name name ≡ true → m ≡ n + k
    → named_from n ds name ≡ Some (numbered m d)
named-first n [] name k m d there f is at = absurd (cc)
named-first n (x ∷ ds) name zero m d there f is at =
    let same : x ≡ d = cc in
    ap (λ (b : Bool). if b then Some (numbered n x) else named_from (suc n) ds name) (ap (λ (y : Database). is_same_text y.name name) same ∙ is)
    ∙ ap (λ (y : Database). Some (numbered n y)) same
    ∙ ap (λ (i : ℕ). Some (numbered i d)) (omega (arith, at))
named-first n (x ∷ ds) name (suc k) m d there f is at =
    ap (λ (b : Bool). if b then Some (numbered n x) else named_from (suc n) ds name) (f 0 x (omega arith) refl)
    ∙ named-first (suc n) ds name k m d there (λ j e lt y. f (suc j) e (omega (arith, lt)) y) is (omega (arith, at))
