-- Objects and directories with other ids: to what they refer, renamed twice, and by functions that agree on their ids.
use Rattle.std.proofs.Common.{inl, inr, ◌≡◌, ℕ, List, [], ◌∷◌, ◌++◌, map, refl, sym, ap, ◌∙◌, Option, Some, None}
use Rattle.std.specs.Option.{option_map}
use Rattle.std.proofs.lemmas.List.{map-append}
use Rattle.ps_heap.specs.Values.{Value, Num, Flag, Text, Nil, Pointer, Vector, Procedure, Nothing}
use Rattle.reaching.specs.Reaching.{IsIn}
use Rattle.reaching.proofs.Lists.{in-front, in-behind}
use Rattle.ps_heap.specs.Tables.{Entry, entry_of, without_keys, by_strings, by_ints}
use Rattle.ps_heap.specs.Objects.{Object, Structure, Elements, Scope, Keyed}
use Rattle.ps_heap.specs.Scopes.{parent_in}
use Rattle.ps_heap.specs.References.{pointers, values_of, scope_ids, value_ids, values_ids, object_ids}
use Rattle.ps_heap.specs.Databases.{Directory, every_root}
use Rattle.database_meaning.specs.Same.{renamed_value, renamed_entry, renamed, renamed_database}

-- Members of mapped lists.

pub in-map : (f : ℕ → ℕ) (x : ℕ) (xs : List ℕ) → IsIn x xs → IsIn (f x) (map f xs)
in-map f x [] l = absurd l
in-map f x (y ∷ ys) (inl e) = inl (ap f e)
in-map f x (y ∷ ys) (inr l) = inr (in-map f x ys l)

pub record Before (f : ℕ → ℕ) (z : ℕ) (xs : List ℕ) : Type 0 where
  pub old : ℕ
  pub there : IsIn old xs
  pub is : z ≡ f old

pub map-in : (f : ℕ → ℕ) (z : ℕ) (xs : List ℕ) → IsIn z (map f xs) → Before f z xs
map-in f z [] l = absurd l
map-in f z (y ∷ ys) (inl e) = record { old = y; there = inl refl; is = e }
map-in f z (y ∷ ys) (inr l) = let b = map-in f z ys l in record { old = b.old; there = inr b.there; is = b.is }

-- The ids of a renamed object.

scope-renamed : (f : ℕ → ℕ) (scope : Option ℕ) → scope_ids (option_map f scope) ≡ map f (scope_ids scope)
scope-renamed f None = refl
scope-renamed f (Some id) = refl

pub value-renamed : (f : ℕ → ℕ) (v : Value) → value_ids (renamed_value f v) ≡ map f (value_ids v)
value-renamed f (Num z) = refl
value-renamed f (Flag b) = refl
value-renamed f (Text bytes) = refl
value-renamed f Nil = refl
value-renamed f (Pointer id) = refl
value-renamed f (Vector id) = refl
value-renamed f (Procedure does scope) = scope-renamed f scope
value-renamed f Nothing = refl

pub values-renamed : (f : ℕ → ℕ) (vs : List Value) → values_ids (map (renamed_value f) vs) ≡ map f (values_ids vs)
values-renamed f [] = refl
values-renamed f (v ∷ vs) =
    ap (λ xs. xs ++ values_ids (map (renamed_value f) vs)) (value-renamed f v)
    ∙ (ap (λ xs. map f (value_ids v) ++ xs) (values-renamed f vs) ∙ sym (map-append f (value_ids v) (values_ids vs)))

entries-renamed : {K : Type 0} (f : ℕ → ℕ) (entries : List (Entry K)) → pointers (map (renamed_entry f) entries) ≡ map (renamed_value f) (pointers entries)
entries-renamed f [] = refl
entries-renamed f (entry ∷ entries) = ap (λ vs. Pointer (f entry.object) ∷ vs) (entries-renamed f entries)

pub places-renamed : (f : ℕ → ℕ) (o : Object) → values_of (renamed f o) ≡ map (renamed_value f) (values_of o)
places-renamed f (Structure class fields) = refl
places-renamed f (Elements ty low elements) = refl
places-renamed f (Scope text parent names) = refl
places-renamed f (Keyed without_keys) = refl
places-renamed f (Keyed (by_strings entries)) = entries-renamed f entries
places-renamed f (Keyed (by_ints entries)) = entries-renamed f entries

pub parent-renamed : (f : ℕ → ℕ) (o : Object) → parent_in (Some (renamed f o)) ≡ option_map f (parent_in (Some o))
parent-renamed f (Structure class fields) = refl
parent-renamed f (Elements ty low elements) = refl
parent-renamed f (Scope text parent names) = refl
parent-renamed f (Keyed table) = refl

pub ids-renamed : (f : ℕ → ℕ) (o : Option Object) → object_ids (option_map (renamed f) o) ≡ map f (object_ids o)
ids-renamed f None = refl
ids-renamed f (Some o) =
    let parents : scope_ids (parent_in (Some (renamed f o))) ≡ map f (scope_ids (parent_in (Some o))) = ap scope_ids (parent-renamed f o) ∙ scope-renamed f (parent_in (Some o)) in
    let places : values_ids (values_of (renamed f o)) ≡ map f (values_ids (values_of o)) = ap values_ids (places-renamed f o) ∙ values-renamed f (values_of o) in
    ap (λ xs. xs ++ values_ids (values_of (renamed f o))) parents
    ∙ (ap (λ xs. map f (scope_ids (parent_in (Some o))) ++ xs) places ∙ sym (map-append f (scope_ids (parent_in (Some o))) (values_ids (values_of o))))

-- Renaming twice, and by what keeps each id.

option-twice : (f g : ℕ → ℕ) (o : Option ℕ) → option_map g (option_map f o) ≡ option_map (λ x. g (f x)) o
option-twice f g None = refl
option-twice f g (Some x) = refl

value-twice : (f g : ℕ → ℕ) (v : Value) → renamed_value g (renamed_value f v) ≡ renamed_value (λ x. g (f x)) v
value-twice f g (Num z) = refl
value-twice f g (Flag b) = refl
value-twice f g (Text bytes) = refl
value-twice f g Nil = refl
value-twice f g (Pointer id) = refl
value-twice f g (Vector id) = refl
value-twice f g (Procedure does scope) = ap (Procedure does) (option-twice f g scope)
value-twice f g Nothing = refl

map-twice : {A : Type 0} (f g h : A → A) → ((a : A) → g (f a) ≡ h a) → (xs : List A) → map g (map f xs) ≡ map h xs
map-twice f g h same [] = refl
map-twice f g h same (x ∷ xs) = ap (λ y. y ∷ map g (map f xs)) (same x) ∙ ap (λ ys. h x ∷ ys) (map-twice f g h same xs)

values-twice : (f g : ℕ → ℕ) (vs : List Value) → map (renamed_value g) (map (renamed_value f) vs) ≡ map (renamed_value (λ x. g (f x))) vs
values-twice f g vs = map-twice (renamed_value f) (renamed_value g) (renamed_value (λ x. g (f x))) (value-twice f g) vs

entries-twice : {K : Type 0} (f g : ℕ → ℕ) (entries : List (Entry K)) → map (renamed_entry g) (map (renamed_entry f) entries) ≡ map (renamed_entry (λ x. g (f x))) entries
entries-twice f g entries = map-twice (renamed_entry f) (renamed_entry g) (renamed_entry (λ x. g (f x))) (λ e. refl) entries

twice : (f g : ℕ → ℕ) (o : Object) → renamed g (renamed f o) ≡ renamed (λ x. g (f x)) o
twice f g (Structure class fields) = ap (Structure class) (values-twice f g fields)
twice f g (Elements ty low elements) = ap (Elements ty low) (values-twice f g elements)
twice f g (Scope text parent names) =
    ap (λ p. Scope text p (map (renamed_value g) (map (renamed_value f) names))) (option-twice f g parent) ∙ ap (Scope text (option_map (λ x. g (f x)) parent)) (values-twice f g names)
twice f g (Keyed without_keys) = refl
twice f g (Keyed (by_strings entries)) = ap (λ es. Keyed (by_strings es)) (entries-twice f g entries)
twice f g (Keyed (by_ints entries)) = ap (λ es. Keyed (by_ints es)) (entries-twice f g entries)

pub object-twice : (f g : ℕ → ℕ) (o : Option Object) → option_map (renamed g) (option_map (renamed f) o) ≡ option_map (renamed (λ x. g (f x))) o
object-twice f g None = refl
object-twice f g (Some o) = ap Some (twice f g o)

-- It agrees with another one on each of these ids.
abbrev pub Agrees : (f g : ℕ → ℕ) → List ℕ → Type 0
Agrees f g xs = (x : ℕ) → IsIn x xs → f x ≡ g x

pub option-agrees : (f g : ℕ → ℕ) (o : Option ℕ) → Agrees f g (scope_ids o) → option_map f o ≡ option_map g o
option-agrees f g None k = refl
option-agrees f g (Some x) k = ap Some (k x (inl refl))

pub value-agrees : (f g : ℕ → ℕ) (v : Value) → Agrees f g (value_ids v) → renamed_value f v ≡ renamed_value g v
value-agrees f g (Num z) k = refl
value-agrees f g (Flag b) k = refl
value-agrees f g (Text bytes) k = refl
value-agrees f g Nil k = refl
value-agrees f g (Pointer id) k = ap Pointer (k id (inl refl))
value-agrees f g (Vector id) k = ap Vector (k id (inl refl))
value-agrees f g (Procedure does scope) k = ap (Procedure does) (option-agrees f g scope k)
value-agrees f g Nothing k = refl

pub values-agree : (f g : ℕ → ℕ) (vs : List Value) → Agrees f g (values_ids vs) → map (renamed_value f) vs ≡ map (renamed_value g) vs
values-agree f g [] k = refl
values-agree f g (v ∷ vs) k =
    ap (λ w. w ∷ map (renamed_value f) vs) (value-agrees f g v (λ x l. k x (in-front x (value_ids v) (values_ids vs) l)))
    ∙ ap (λ ws. renamed_value g v ∷ ws) (values-agree f g vs (λ x l. k x (in-behind x (value_ids v) (values_ids vs) l)))

entries-agree : {K : Type 0} (f g : ℕ → ℕ) (entries : List (Entry K)) → Agrees f g (values_ids (pointers entries)) → map (renamed_entry f) entries ≡ map (renamed_entry g) entries
entries-agree f g [] k = refl
entries-agree f g (entry ∷ entries) k =
    ap (λ id. entry_of entry.key id ∷ map (renamed_entry f) entries) (k entry.object (inl refl))
    ∙ ap (λ es. entry_of entry.key (g entry.object) ∷ es) (entries-agree f g entries (λ x l. k x (inr l)))

pub agrees : (f g : ℕ → ℕ) (o : Object) → Agrees f g (object_ids (Some o)) → renamed f o ≡ renamed g o
agrees f g (Structure class fields) k = ap (Structure class) (values-agree f g fields k)
agrees f g (Elements ty low elements) k = ap (Elements ty low) (values-agree f g elements k)
agrees f g (Scope text parent names) k =
    ap (λ p. Scope text p (map (renamed_value f) names)) (option-agrees f g parent (λ x l. k x (in-front x (scope_ids parent) (values_ids names) l)))
    ∙ ap (Scope text (option_map g parent)) (values-agree f g names (λ x l. k x (in-behind x (scope_ids parent) (values_ids names) l)))
agrees f g (Keyed without_keys) k = refl
agrees f g (Keyed (by_strings entries)) k = ap (λ es. Keyed (by_strings es)) (entries-agree f g entries k)
agrees f g (Keyed (by_ints entries)) k = ap (λ es. Keyed (by_ints es)) (entries-agree f g entries k)

pub object-agrees : (f g : ℕ → ℕ) (o : Option Object) → Agrees f g (object_ids o) → option_map (renamed f) o ≡ option_map (renamed g) o
object-agrees f g None k = refl
object-agrees f g (Some o) k = ap Some (agrees f g o k)

-- Where each id is itself, nothing is renamed.

map-self : {A : Type 0} (h : A → A) → ((a : A) → h a ≡ a) → (xs : List A) → map h xs ≡ xs
map-self h same [] = refl
map-self h same (x ∷ xs) = ap (λ y. y ∷ map h xs) (same x) ∙ ap (λ ys. x ∷ ys) (map-self h same xs)

option-self : (o : Option ℕ) → option_map (λ x. x) o ≡ o
option-self None = refl
option-self (Some x) = refl

value-self : (v : Value) → renamed_value (λ x. x) v ≡ v
value-self (Num z) = refl
value-self (Flag b) = refl
value-self (Text bytes) = refl
value-self Nil = refl
value-self (Pointer id) = refl
value-self (Vector id) = refl
value-self (Procedure does scope) = ap (Procedure does) (option-self scope)
value-self Nothing = refl

values-self : (vs : List Value) → map (renamed_value (λ x. x)) vs ≡ vs
values-self vs = map-self (renamed_value (λ x. x)) value-self vs

self : (o : Object) → renamed (λ x. x) o ≡ o
self (Structure class fields) = ap (Structure class) (values-self fields)
self (Elements ty low elements) = ap (Elements ty low) (values-self elements)
self (Scope text parent names) = ap (λ p. Scope text p (map (renamed_value (λ x. x)) names)) (option-self parent) ∙ ap (Scope text parent) (values-self names)
self (Keyed without_keys) = refl
self (Keyed (by_strings entries)) = ap (λ es. Keyed (by_strings es)) (map-self (renamed_entry (λ x. x)) (λ e. refl) entries)
self (Keyed (by_ints entries)) = ap (λ es. Keyed (by_ints es)) (map-self (renamed_entry (λ x. x)) (λ e. refl) entries)

object-self : (o : Option Object) → option_map (renamed (λ x. x)) o ≡ o
object-self None = refl
object-self (Some o) = ap Some (self o)

-- it keeps each of these ids
abbrev Keeps : (ℕ → ℕ) → List ℕ → Type 0
Keeps f xs = Agrees f (λ x. x) xs

pub object-kept : (f : ℕ → ℕ) (o : Option Object) → Keeps f (object_ids o) → option_map (renamed f) o ≡ o
object-kept f o k = object-agrees f (λ x. x) o k ∙ object-self o

-- Directories.

pub roots-renamed : (f : ℕ → ℕ) (ds : Directory) → every_root (map (renamed_database f) ds) ≡ map f (every_root ds)
unfolding every_root
roots-renamed f [] = refl
roots-renamed f (d ∷ ds) = ap (λ rs. f d.root ∷ rs) (roots-renamed f ds)

pub databases-twice : (f g : ℕ → ℕ) (ds : Directory) → map (renamed_database g) (map (renamed_database f) ds) ≡ map (renamed_database (λ x. g (f x))) ds
databases-twice f g ds = map-twice (renamed_database f) (renamed_database g) (renamed_database (λ x. g (f x))) (λ d. refl) ds

pub databases-agree : (f g : ℕ → ℕ) (ds : Directory) → Agrees f g (every_root ds) → map (renamed_database f) ds ≡ map (renamed_database g) ds
unfolding every_root
databases-agree f g [] k = refl
databases-agree f g (d ∷ ds) k =
    ap (λ r. record { name = d.name; password = d.password; root = r } ∷ map (renamed_database f) ds) (k d.root (inl refl))
    ∙ ap (λ rest. record { name = d.name; password = d.password; root = g d.root } ∷ rest) (databases-agree f g ds (λ x l. k x (inr l)))

pub databases-kept : (f : ℕ → ℕ) (ds : Directory) → Keeps f (every_root ds) → map (renamed_database f) ds ≡ ds
databases-kept f ds k = databases-agree f (λ x. x) ds k ∙ map-self (renamed_database (λ x. x)) (λ d. refl) ds
