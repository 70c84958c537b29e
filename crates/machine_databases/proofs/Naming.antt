-- What a machine's words name once its databases are others, and that it stays sound.
use Rattle.std.proofs.Common.{◌≡◌, ◌⊎◌, ℕ, ◌+◌, ◌<◌, ◌≤◌, Bool, true, false, List, [], ◌∷◌, length, Option, Some, None, inl, inr, sym, ap, ◌∙◌, subst, arith, length-append}
use Rattle.std.specs.Prelude.{IfSome, if◌then◌else◌, vec_capacity}
use Rattle.machine_core.specs.joint_held.reach_commit.commit_walk.reaching.Reaching.{is_in}
use Rattle.std.proofs.lemmas.Bool.{cases_eq}
use Rattle.std.proofs.lemmas.List.{get_or-append-add, get_or_append_left}
use Rattle.machine_core.specs.swizzle.Heap as area
use Rattle.machine_core.specs.swizzle.declared.fault.SwizzleFault.{SwizzleFault}
use Rattle.machine_core.specs.ps_heap.ps_base.Limits.{most_databases}
use Rattle.machine_core.specs.joint_held.db_dir.Directories.{IsShaped}
use Rattle.machine_core.specs.joint_held.reach_commit.Becoming.{AreNewRoots, IsNewRoot}
use Rattle.machine_core.specs.joint_held.reach_commit.commit_walk.Homes.{source_at}
use Rattle.machine_core.specs.joint_held.reach_commit.commit_walk.declared.homes.Source.{Source}
use Rattle.machine_core.specs.joint_held.Opening.{and_source}
use Rattle.machine_core.specs.declared.databases.Databases.{Databases}
use Rattle.machine_core.specs.declared.machine.Machine.{Machine}
use Rattle.machine_core.specs.Holding.{IsSound}
use Rattle.machine_core.specs.Naming.{NamesDatabases, NamesObjects, naming}
use Rattle.machine_databases.specs.inside.Giving.{IsUnused, and_opened, numbers_of}

pub sound-with : (m : Machine) (now : area.Heap) (d : Databases) → IsSound m → IsSound (record m { objects = now; databases = d })
sound-with m now d sound = record {
  nums_fit = sound.nums_fit;
  refs_fit = sound.refs_fit;
  nums_below = sound.nums_below;
  refs_below = sound.refs_below;
  nums_room = sound.nums_room;
  refs_room = sound.refs_room;
  values_room = sound.values_room;
  waiting = sound.waiting;
}

-- and so with another fault
pub sound-broken : (m : Machine) (now : area.Heap) (d : Databases) (fault : SwizzleFault) → IsSound m → IsSound (record m { objects = now; databases = d; fault = fault })
sound-broken m now d fault sound = record {
  nums_fit = sound.nums_fit;
  refs_fit = sound.refs_fit;
  nums_below = sound.nums_below;
  refs_below = sound.refs_below;
  nums_room = sound.nums_room;
  refs_room = sound.refs_room;
  values_room = sound.values_room;
  waiting = sound.waiting;
}

pub names-with : (m : Machine) (d : Databases) → NamesObjects m → NamesDatabases m.objects d.writing.items d.directory (vec_capacity d.writing)
    → NamesObjects (record m { databases = d })
names-with m d n databases = record {
  code = n.code;
  scope = n.scope;
  own = n.own;
  below = n.below;
  callers = n.callers;
  item = n.item;
  databases = databases;
}

-- there is room for 256
pub room-in : (here : area.Heap) (writing : List Source) (directory : Option ℕ) (places : ℕ) → NamesDatabases here writing directory places → most_databases ≤ places
room-in here writing directory places (naming shaped roots room) = room

pub shaped-in : (here : area.Heap) (writing : List Source) (directory : Option ℕ) (places : ℕ) → NamesDatabases here writing directory places
    → IfSome directory (IsShaped here)
shaped-in here writing directory places (naming shaped roots room) = shaped

pub roots-in : (here : area.Heap) (writing : List Source) (directory : Option ℕ) (places : ℕ) → NamesDatabases here writing directory places
    → AreNewRoots here writing
roots-in here writing directory places (naming shaped roots room) = roots

pub with-directory : (here : area.Heap) (writing : List Source) (directory now : Option ℕ) (places : ℕ) → NamesDatabases here writing directory places
    → IfSome now (IsShaped here) → NamesDatabases here writing now places
with-directory here writing directory now places (naming shaped roots room) is = naming is roots room

-- Sources with one more.

left-source : (writing : List Source) (number : ℕ) (root : Option ℕ) (place : ℕ) → place < length writing → source_at (and_source writing number root) place ≡ source_at writing place
left-source writing number root place lt = get_or_append_left writing (record { number = number; root = root } ∷ []) (record { number = 0; root = None }) place lt

last-source : (writing : List Source) (number : ℕ) (root : Option ℕ) → source_at (and_source writing number root) (length writing) ≡ record { number = number; root = root }
last-source writing number root =
    let same : length writing ≡ length writing + 0 = omega arith in
    ap (source_at (and_source writing number root)) same ∙ get_or-append-add writing (record { number = number; root = root } ∷ []) 0 (record { number = 0; root = None })

place-or : (writing : List Source) (number : ℕ) (root : Option ℕ) (place : ℕ) → place < length (and_source writing number root) → (place < length writing) ⊎ (place ≡ length writing)
place-or writing number root place lt =
    let long = length-append writing (record { number = number; root = root } ∷ []) in
    elim (cases_eq place (length writing)) [ inl e ↦ inr e | inr ne ↦ inl (omega (arith, lt, long, ne)) ]

module _ (here : area.Heap) (writing : List Source) (number : ℕ) (root : Option ℕ) (unused : (at : ℕ) → root ≡ Some at → IsUnused here writing at)
    (roots : AreNewRoots here writing) where
  root-left : (place : ℕ) → place < length writing → (source_at (and_source writing number root) place).root ≡ (source_at writing place).root
  root-left place lt = ap (λ (s : Source). s.root) (left-source writing number root place lt)

  root-last : (source_at (and_source writing number root) (length writing)).root ≡ root
  root-last = ap (λ (s : Source). s.root) (last-source writing number root)

  the-last : (at : ℕ) → root ≡ Some at → IsNewRoot here (and_source writing number root) (length writing) at
  the-last at e =
      let u = unused at e in
      record {
        held = u.held;
        unstored = u.unstored;
        kind = u.kind;
        only = λ p lt is. elim (place-or writing number root p lt) [
          | inr last ↦ last
          | inl low ↦ absurd (u.only p low (sym (root-left p low) ∙ is))
        ];
      }

  -- so do the roots with that of a database that is open for writing too
  pub roots-more : AreNewRoots here (and_source writing number root)
  roots-more place at lt e = elim (place-or writing number root place lt) [
    | inr last ↦
        subst (λ (p : ℕ). IsNewRoot here (and_source writing number root) p at) (sym last)
        (the-last at (sym root-last ∙ (ap (λ (p : ℕ). (source_at (and_source writing number root) p).root) (sym last) ∙ e)))
    | inl low ↦
        let was = sym (root-left place low) ∙ e in
        let r = roots place at low was in
        record {
          held = r.held;
          unstored = r.unstored;
          kind = r.kind;
          only = λ p lt_p e_p. elim (place-or writing number root p lt_p) [
            | inl low_p ↦ r.only p low_p (sym (root-left p low_p) ∙ e_p)
            | inr last_p ↦
                let is = sym root-last ∙ (ap (λ (p : ℕ). (source_at (and_source writing number root) p).root) (sym last_p) ∙ e_p) in
                absurd ((unused at is).only place low was)
          ];
        }
  ]

-- what the words name where a database is open for writing too
pub names-more : (here : area.Heap) (writing now : List Source) (directory at : Option ℕ) (places room number : ℕ) (root : Option ℕ)
    → NamesDatabases here writing directory places → now ≡ and_source writing number root → room ≡ places
    → ((x : ℕ) → root ≡ Some x → IsUnused here writing x) → IfSome at (IsShaped here) → NamesDatabases here now at room
names-more here writing now directory at places room number root n same roomy unused shaped =
    naming shaped
    (subst (AreNewRoots here) (sym same) (roots-more here writing number root unused (roots-in here writing directory places n)))
    (subst (λ (k : ℕ). most_databases ≤ k) (sym roomy) (room-in here writing directory places n))

-- and where one was opened
roots-opened : (here : area.Heap) (writing : List Source) (number : ℕ) (b : Bool) → AreNewRoots here writing → AreNewRoots here (and_opened writing number b)
roots-opened here writing number false roots = roots
roots-opened here writing number true roots = of (is_in number (numbers_of writing))
  where
    of : (found : Bool) → AreNewRoots here (if found then writing else and_source writing number None)
    of true = roots
    of false = roots-more here writing number None (λ at e. let bad : None ≡ Some at = e in absurd (cc)) roots

pub names-opened : (here : area.Heap) (writing now : List Source) (directory at : Option ℕ) (places room number : ℕ) (b : Bool)
    → NamesDatabases here writing directory places → now ≡ and_opened writing number b → room ≡ places → at ≡ directory → NamesDatabases here now at room
names-opened here writing now directory at places room number b n same roomy still =
    naming (subst (λ (d : Option ℕ). IfSome d (IsShaped here)) (sym still) (shaped-in here writing directory places n))
    (subst (AreNewRoots here) (sym same) (roots-opened here writing number b (roots-in here writing directory places n)))
    (subst (λ (k : ℕ). most_databases ≤ k) (sym roomy) (room-in here writing directory places n))

-- the root that is given is unused
pub unused-only : (here : area.Heap) (writing : List Source) (root at : ℕ) → IsUnused here writing root → Some root ≡ Some at → IsUnused here writing at
unused-only here writing root at unused e = let same : root ≡ at = cc in subst (IsUnused here writing) same unused
