-- A switch of a volume, seen as spaces.
use Rattle.std.proofs.Common.{◌≡◌, ◌⊎◌, inl, inr, ℕ, ◌+◌, ◌-◌, ◌*◌, ◌/◌, ◌<◌, ◌≤◌, Bool, List, [], ◌++◌, length, take, replicate, refl, sym, ◌∙◌, ap, subst, arith, Option, Some, None, Result, Ok, Err}
use Rattle.std.specs.Option.{option_map}
use Rattle.std.proofs.lemmas.Option.{same_Some}
use Rattle.std.proofs.lemmas.Grind.{same_number_lists}
use Rattle.std.proofs.lemmas.List.{get_or-take, get_or_append_left, length-take-le}
use Rattle.obj_layout.specs.ps_outside.Outside.{Outside, After, Leaves, LeavesSame, Rose}
use Rattle.obj_layout.specs.ps_outside.Past.{KeepsPast}
use Rattle.obj_layout.proofs.of_ps_outside.PastMoments.{past_as}
use Rattle.paged_volume.specs.Layout.{capacity_pages}
use Rattle.volume_parts.specs.Layout.{pages_of_words}
use Rattle.volume_parts.specs.Holding.{Held}
use Rattle.paged_volume.specs.Standing.{seen, staged_in, with_zeros, held_in}
use Rattle.volume_parts.specs.Holding.{saved}
use Rattle.paged_volume.specs.Committing.{Switches, IsSwitchFault}
use Rattle.volume_parts.specs.Calls.{Was}
use Rattle.paged_volume.specs.Planning.{switched}
use Rattle.paged_volume.specs.declared.table.Table.{Table}
use Rattle.paged_volume.specs.declared.committed.Committed.{Committed}
use Rattle.paged_volume.specs.declared.volume.VolumeFault.{VolumeFault}
use Rattle.paged_volume.specs.declared.volume.VolumeFault.TheVariants as volume
use Rattle.paged_volume.proofs.Committing.{follows_switched}
use Rattle.obj_layout.specs.declared.vault.VaultFault.{VaultFault}
use Rattle.obj_layout.specs.declared.vault.VaultFault.TheVariants.{Device, Output}
use Rattle.obj_layout.specs.Stored.{Space, directed, without_file}
use Rattle.obj_layout.specs.Storing.{Becomes, Settles, settling, unfiled}
use Rattle.obj_store.specs.Spaces.{word_at, words_of, space_of, space_found, space_held, space_filed, IsInOrder, spaces}
use Rattle.obj_store.specs.Lacking.{told_fault}
use Rattle.obj_store.proofs.WordLaws.{word_same}
use Rattle.obj_store.proofs.WriteLaws.{held_long}
use Rattle.obj_store.specs.StoreLaws.{length_words}
use Rattle.obj_store.proofs.SpaceLaws.{word_of, stood, told_of}

-- without its file, the space of a file is what it holds
unfiled_is : (found : Option Held) → without_file (record (space_found found) { file = [] }) ≡ space_found found
unfiled_is None = refl
unfiled_is (Some held) = refl

held_unfiled : (bytes : List ℕ) → without_file (space_filed bytes) ≡ space_held bytes
held_unfiled bytes = unfiled_is (held_in bytes)

module _ (used : ℕ) (table : Table) (outside : Outside (List ℕ)) (m : ℕ) where
  -- what is found in an image of a volume is in one of its store, whatever its file
  pub found_unfiled : (found : Option Held) → (seen table outside).images m found → (unfiled (spaces used table outside)).images m (space_found found)
  found_unfiled found at = record {
    from = space_filed at.from;
    was = record { from = at.from; was = at.was; by = refl };
    by = held_unfiled at.from ∙ ap space_found at.by;
  }

  -- and back
  pub unfiled_found : (space : Space) → (unfiled (spaces used table outside)).images m space →
      After ((seen table outside).images m) (λ (found : Option Held) (now : Space). space_found found ≡ now) space
  unfiled_found space at = record {
    from = held_in at.was.from;
    was = record { from = at.was.from; was = at.was.was; by = refl };
    by = sym (held_unfiled at.was.from) ∙ ap without_file at.was.by ∙ at.by;
  }

-- what is so of the images of a volume is so of those of its store, whatever their files
along_unfiled : (used next : ℕ) (p q : Table) (a b : Outside (List ℕ)) (P : Option Held → Type 0) (Q : Space → Type 0) → Leaves (seen p a) (seen q b) P
    → ((found : Option Held) → P found → Q (space_found found)) → Leaves (unfiled (spaces used p a)) (unfiled (spaces next q b)) Q
along_unfiled used next p q a b P Q is holds = record {
  later = is.later;
  kept = λ m space past at.
      let x = unfiled_found used p a m space at in
      subst (λ (y : Space). (unfiled (spaces next q b)).images m y) x.by (found_unfiled next q b m x.from (is.kept m x.from past x.was));
  no_other = λ m space past at.
      let x = unfiled_found next q b m space at in
      subst (λ (y : Space). (unfiled (spaces used p a)).images m y) x.by (found_unfiled used p a m x.from (is.no_other m x.from past x.was));
  each = λ m space from until at.
      let x = unfiled_found next q b m space at in
      subst Q x.by (holds x.from (is.each m x.from from until x.was));
}

-- what leaves the images of a volume leaves those of its store, whatever their files
pub same_images : (used next : ℕ) (p q : Table) (a b : Outside (List ℕ)) → LeavesSame (seen p a) (seen q b)
    → LeavesSame (unfiled (spaces used p a)) (unfiled (spaces next q b))
same_images used next p q a b same =
    along_unfiled used next p q a b ((seen p a).images a.clock) ((unfiled (spaces used p a)).images a.clock) same (λ found was. found_unfiled used p a a.clock found was)

same_words : (used : ℕ) (xs ys : List ℕ) → ((index : ℕ) → index < used → word_at xs index ≡ word_at ys index) → words_of used xs ≡ words_of used ys
same_words used xs ys same =
    same_number_lists (words_of used xs) (words_of used ys) (length_words used xs ∙ sym (length_words used ys))
    (λ k lt.
    let all : k < used = omega (arith, length_words used xs) in
    word_of used xs k all ∙ same k all ∙ sym (word_of used ys k all))

-- the words of what is saved
pub saved_words : (used : ℕ) (bytes : List ℕ) → words_of used (take (4096 * pages_of_words used) bytes) ≡ words_of used bytes
saved_words used bytes =
    same_words used (take (4096 * pages_of_words used) bytes) bytes
    (λ index lt. word_same (take (4096 * pages_of_words used) bytes) bytes index index (λ k low. get_or-take (4096 * pages_of_words used) bytes (8 * index + k) 0 (omega arith)))

pub zeros_words : (used : ℕ) (front back : List ℕ) → 8 * used ≤ length front → words_of used (front ++ back) ≡ words_of used front
zeros_words used front back long =
    same_words used (front ++ back) front (λ index lt. word_same (front ++ back) front index index (λ k low. get_or_append_left front back 0 (8 * index + k) (omega arith)))

-- what was held, before a step
record WasHeld (volume : Outside (Option Held)) (step : Held → Held) (found : Option Held) : Type 0 where
  pub held : Held
  pub now : volume.contents (Some held)
  pub is : Some (step held) ≡ found

was_held : (p : Table) (a : Outside (List ℕ)) (step : Held → Held) (found : Option Held) → Was (seen p a) step found → WasHeld (seen p a) step found
was_held p a step found was = record {
  held = staged_in p was.was.from;
  now = record { from = was.was.from; was = was.was.was; by = refl };
  is = ap (λ (o : Option Held). option_map step o) was.was.by ∙ was.by;
}

module _ (used directory : ℕ) (p q : Table) (a b : Outside (List ℕ)) (order : IsInOrder used p.committed) (order_next : IsInOrder used q.committed) where
  full : Held → Held
  full held = with_zeros p.committed.pages (saved used directory held)

  few : pages_of_words used ≤ capacity_pages p.committed.pages
  few = let within = order.within in omega arith

  saved_space : (held : Held) → space_of used (saved used directory held) ≡ directed directory (space_of used held)
  saved_space held = λ i. record { words = saved_words used held.bytes i; directory = directory; file = [] }

  full_space : (held : Held) → (seen p a).contents (Some held) → space_of used (with_zeros p.committed.pages (saved used directory held)) ≡ directed directory (space_of used held)
  full_space held now =
      let long = held_long p a held now in
      let front : length (take (4096 * pages_of_words used) held.bytes) ≡ 4096 * pages_of_words used = length-take-le (4096 * pages_of_words used) held.bytes (omega (arith, long, few)) in
      (λ i. record {
        words = zeros_words used (take (4096 * pages_of_words used) held.bytes) (replicate (4096 * capacity_pages p.committed.pages - length (take (4096 * pages_of_words used) held.bytes)) 0) (omega (arith, front)) i;
        directory = directory;
        file = [];
      })
      ∙ saved_space held

  module _ (holds : (found : Option Held) → (seen q b).contents found → Was (seen p a) (λ held. with_zeros p.committed.pages (saved used directory held)) found)
      (stays : (found : Option Held) → Was (seen p a) (λ held. with_zeros p.committed.pages (saved used directory held)) found → (seen q b).contents found) where
    full_now : (held : Held) → (seen p a).contents (Some held) → (seen q b).contents (Some (with_zeros p.committed.pages (saved used directory held)))
    full_now held now = stays (Some (with_zeros p.committed.pages (saved used directory held))) (record { from = Some held; was = now; by = refl })

    pub switch_becomes : Becomes (spaces used p a) (spaces used q b) (directed directory)
    switch_becomes = record {
      told = λ space told.
          let is = stood used p a space told in
          subst (λ (x : Space). (spaces used q b).contents x) (full_space is.held is.now ∙ ap (directed directory) is.is)
          (told_of used q b (with_zeros p.committed.pages (saved used directory is.held)) order_next (full_now is.held is.now));
      no_other = λ after told.
          let is = stood used q b after told in
          let was = was_held p a (λ held. with_zeros p.committed.pages (saved used directory held)) (Some is.held) (holds (Some is.held) is.now) in (
            space_of used was.held,
            told_of used p a was.held order was.now,
            sym (full_space was.held was.now) ∙ ap (space_of used) (same_Some (with_zeros p.committed.pages (saved used directory was.held)) is.held was.is) ∙ is.is,
          );
    }

    pub switch_durable : ((found : Option Held) → (seen q b).images b.clock found → Was (seen p a) (saved used directory) found) →
        (space : Space) → (unfiled (spaces used q b)).images b.clock space → (spaces used q b).contents space
    switch_durable kept space at =
        let after = unfiled_found used q b b.clock space at in
        let was = was_held p a (saved used directory) after.from (kept after.from after.was) in
        let is : space_of used (saved used directory was.held) ≡ space = ap (λ (o : Option Held). space_found o) was.is ∙ after.by in
        subst (λ (x : Space). (spaces used q b).contents x) (full_space was.held was.now ∙ sym (saved_space was.held) ∙ is)
        (told_of used q b (with_zeros p.committed.pages (saved used directory was.held)) order_next (full_now was.held was.now))

  pub switch_images : Leaves (seen p a) (seen q b) (λ found. (seen p a).images a.clock found ⊎ Was (seen p a) (saved used directory) found) →
      Leaves (unfiled (spaces used p a)) (unfiled (spaces used q b))
      (λ space. (unfiled (spaces used p a)).images a.clock space ⊎ ((before : Space) × (spaces used p a).contents before × (directed directory before ≡ space)))
  switch_images images =
      along_unfiled used used p q a b (λ found. (seen p a).images a.clock found ⊎ Was (seen p a) (saved used directory) found)
      (λ (space : Space). (unfiled (spaces used p a)).images a.clock space ⊎ ((before : Space) × (spaces used p a).contents before × (directed directory before ≡ space))) images one
    where
      one : (found : Option Held) → ((seen p a).images a.clock found ⊎ Was (seen p a) (saved used directory) found) →
          (unfiled (spaces used p a)).images a.clock (space_found found) ⊎ ((before : Space) × (spaces used p a).contents before × (directed directory before ≡ space_found found))
      one found (inl old) = inl (found_unfiled used p a a.clock found old)
      one found (inr new) =
          let was = was_held p a (saved used directory) found new in
          inr (
            space_of used was.held,
            told_of used p a was.held order was.now,
            sym (saved_space was.held) ∙ ap (λ (o : Option Held). space_found o) was.is,
          )

pub switched_order : (used directory : ℕ) (p q : Committed) → IsInOrder used p → 1 ≤ used → directory < used → q ≡ switched used directory p → IsInOrder used q
switched_order used directory p q order some below is = subst (λ (c : Committed). IsInOrder used c) (sym is) (record {
  fit = (follows_switched p used directory order.fit some order.within below).fit;
  below = below;
  within = order.within;
})

pub switch_settles : (used directory : ℕ) (p q : Table) (a b : Outside (List ℕ)) → IsInOrder used p.committed → IsInOrder used q.committed → KeepsPast a b → 1 ≤ used →
    b.device_calls ≤ a.device_calls + ((used + 524287) / 524288 + 6) → Switches {T = Unit {0}} {E = VolumeFault} (seen p a) (seen q b) p.committed.pages used directory (Ok tt) →
    Settles {T = Unit {0}} (spaces used p a) (spaces used q b) (settling used) (directed directory) (Ok tt)
switch_settles used directory p q a b order order_next past some calls is = record {
  told = is.told;
  images = switch_images used directory p q a b order order_next is.images;
  past = past_as a b space_filed past;
  durable = λ before space told. switch_durable used directory p q a b order order_next is.holds is.stays is.kept space;
  counts = is.counts;
  output = is.output;
  cause = λ e. absurd (cc);
  other = λ e. cc;
  calls = let fits : b.device_calls ≤ a.device_calls + settling used = omega arith in fits;
}

module _ {H : Type 0} (outside : H → Outside (List ℕ)) (old new : H) (lived lives : Bool) (used directory : ℕ) (p q : Table) (next : Committed) where
  switch_cause : (fault : VolumeFault) → IsSwitchFault outside old new lived lives p q next fault → ◌≡◌ {A = Result (Unit {0}) VaultFault} (Err (told_fault fault)) (Err Device) →
      Rose (outside old).device_faults (outside new).device_faults
  switch_cause volume.Device is e = is.0
  switch_cause (volume.Full held wanted pages) is e = absurd (cc)

  switch_other : (fault : VolumeFault) → ◌≡◌ {A = Result (Unit {0}) VaultFault} (Err (told_fault fault)) (Err Output) → ⊥
  switch_other volume.Device e = cc
  switch_other (volume.Full held wanted pages) e = cc

  -- nothing is committed
  pub switch_fails : (fault : VolumeFault) → IsInOrder used p.committed → IsInOrder used q.committed → KeepsPast (outside old) (outside new) →
      IsSwitchFault outside old new lived lives p q next fault → Switches {T = Unit {0}} {E = VolumeFault} (seen p (outside old)) (seen q (outside new)) p.committed.pages used directory (Err fault) →
      Settles {T = Unit {0}} (spaces used p (outside old)) (spaces used q (outside new)) (settling used) (directed directory) (Err (told_fault fault))
  switch_fails fault order order_next past why is = record {
    told = is.told;
    images = switch_images used directory p q (outside old) (outside new) order order_next is.images;
    past = past_as (outside old) (outside new) space_filed past;
    durable = tt;
    counts = is.counts;
    output = is.output;
    cause = switch_cause fault why;
    other = switch_other fault;
    calls = tt;
  }
