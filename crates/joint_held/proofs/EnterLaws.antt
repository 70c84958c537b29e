-- What a run holds after an enter into a table.
use Rattle.std.proofs.Common.{true, false, inl, inr, ◌⊎◌, ◌≡◌, ◌≢◌, ℕ, ◌≤◌, List, refl, sym, ap, ◌∙◌, subst, arith, Option, Some, None, nat_eq, if◌then◌else◌}
use Rattle.std.proofs.lemmas.Bool.{cases_eq, true≢false}
use Rattle.joint_ops.specs.ps_outside.Outside.{Outside}
use Rattle.joint_ops.specs.obj_layout.Stored.{Space, Holds}
use Rattle.joint_ops.specs.obj_layout.Kind.{kind_number}
use Rattle.joint_ops.specs.obj_layout.declared.kind.Kind.{Kind}
use Rattle.joint_ops.specs.obj_layout.declared.kind.Kind.TheVariants as kind
use Rattle.joint_ops.specs.obj_layout.declared.header.Header.{Header}
use Rattle.joint_ops.specs.obj_layout.declared.reference.Reference.{Reference}
use Rattle.joint_ops.specs.obj_layout.declared.reference.Reference.TheVariants.{Nil, Pid, Local}
use Rattle.joint_ops.specs.swizzle.Objects.{Object, object_words}
use Rattle.joint_ops.specs.swizzle.Heap as area
use Rattle.joint_ops.specs.swizzle.Heap.{IsHeap, IsHeld, IsListed, header_at, num_at}
use Rattle.joint_ops.specs.swizzle.Joint.{Shown, name_at, shown_at}
use Rattle.swizzle.proofs.NameLaws.{names-decided, name-pid, name-none, pid_in}
use Rattle.joint_ops.specs.World.{IsStored, seen}
use Rattle.joint_ops.proofs.SeenLaws.{seen-is, seen-held, seen-one, stored-stays}
use Rattle.joint_ops.specs.heap_places.Shapes.{word_in, IsText}
use Rattle.joint_ops.specs.heap_meaning.Standing.{Seen, IsOne, IsKindOf}
use Rattle.joint_ops.specs.heap_meaning.Paired.{paired}
use Rattle.heap_meaning.proofs.TableLaws.{no-node}
use Rattle.joint_ops.specs.ps_heap.Objects.{Heap}
use Rattle.joint_ops.specs.ps_heap.Databases.{is_there}
use Rattle.joint_ops.specs.ps_heap.Held.{Place, object_of, places_with, Held, home_at, assigning}
use Rattle.db_dir.specs.Directories.{IsDirectory, IsDirectoryAt}
use Rattle.commit_walk.specs.Walk.{has_home}
use Rattle.commit_walk.specs.Homes.{source_at}
use Rattle.commit_walk.specs.declared.homes.Source.{Source}
use Rattle.reach_commit.specs.commit_images.Images.{image_of}
use Rattle.joint_held.specs.Held.{IsAtHome, IsOf, IsNoted, HasPlace, IsOfHeap, HasRoot, IsOneStore, HoldsRun}
use Rattle.joint_held.specs.Entering.{EntersTable}
use Rattle.joint_held.proofs.ImageLaws.{far-same}
use Rattle.joint_held.proofs.StoreLaws.{same-store, unasked-stays, unasked-as}
use Rattle.joint_held.proofs.GainLaws.{home-by_kind}
use Rattle.joint_held.proofs.WriteLaws.{with-place, with-this, place-with, named-stays}

table-home : (h : Header) → h.kind ≡ kind.Table → has_home h ≡ true
unfolding has_home
table-home h e = ap (λ k. if nat_eq (kind_number k) 2 then true else (if nat_eq (kind_number k) 3 then true else (if nat_eq (kind_number k) 4 then true else nat_eq (kind_number k) 7))) e

other-home : (h : Header) → (k : Kind) → h.kind ≡ k → (k ≡ kind.Node) ⊎ (k ≡ kind.Directory) → has_home h ≡ false
unfolding has_home
other-home h k e (inl n) = ap (λ k. if nat_eq (kind_number k) 2 then true else (if nat_eq (kind_number k) 3 then true else (if nat_eq (kind_number k) 4 then true else nat_eq (kind_number k) 7))) (e ∙ n)
other-home h k e (inr n) = ap (λ k. if nat_eq (kind_number k) 2 then true else (if nat_eq (kind_number k) 3 then true else (if nat_eq (kind_number k) 4 then true else nat_eq (kind_number k) 7))) (e ∙ n)

pub held-or : (here : area.Heap) (y : ℕ) → IsHeld here y ⊎ (IsHeld here y → ⊥)
held-or here y = go (area.found here y) refl
  where
    go : (r : Option Object) → area.found here y ≡ r → IsHeld here y ⊎ (IsHeld here y → ⊥)
    go (Some o) is = inl (record { object = o; is = is })
    go None is = inr (λ h. let bad : None ≡ Some h.object = sym is ∙ h.is in absurd (cc))

module _ (old new : area.Heap) (before after : Outside Space) (names : List Reference) (writing : List Source) (directory : Option ℕ) (h : Held) (x : ℕ) (place : Place) (objects : Heap)
    (was_sound : IsHeap old) (sound : IsHeap new) (run : HoldsRun old before names writing directory h)
    (w : EntersTable old new before after names h run.world.row.stands.tables.nodes x (object_of place) objects) where
  abbrev S : Seen
  S = seen old before

  abbrev N : Seen
  N = seen new after

  store : IsOneStore after
  store = same-store before after w.enter.contents run.store

  was_one : IsOne (seen old before)
  was_one = seen-one old before was_sound run.store.one

  abbrev Id : ℕ
  Id = object_of place

  name-same : (y : ℕ) → IsHeld old y → name_at new y ≡ name_at old y
  name-same y held = (w.enter.lasts y held).name

  kind-same : (y : ℕ) → IsHeld old y → (header_at new y).kind ≡ (header_at old y).kind
  kind-same y held = (w.enter.lasts y held).kind

  pid-of : (here : area.Heap) (y : ℕ) → pid_in (name_at here y) ≡ (header_at here y).pid
  unfolding pid_in
  pid-of here y = elim (cases_eq (header_at here y).pid 0) [
    | inl none ↦ ap pid_in (name-none (header_at here y) y none) ∙ sym none
    | inr some ↦ ap pid_in (name-pid (header_at here y) y (omega arith))
  ]

  pid-same : (y : ℕ) → IsHeld old y → (header_at new y).pid ≡ (header_at old y).pid
  pid-same y held = sym (pid-of new y) ∙ (ap pid_in (name-same y held) ∙ pid-of old y)

  listed-held : (y : ℕ) → IsListed y old.assigned → IsHeld old y
  listed-held y l = let m = was_sound.noted.marked y l in record { object = m.object; is = m.is }

  of-new : (y id : ℕ) → IsOf old names y id → IsOf new names y id
  of-new y id p = record { held = (w.enter.lasts y p.held).held; named = p.named ∙ ap Some (sym (name-same y p.held)) }

  of-old : (y id : ℕ) → IsHeld old y → IsOf new names y id → IsOf old names y id
  of-old y id held p = record { held = held; named = p.named ∙ ap Some (name-same y held) }

  -- an object with an id is no node
  no-node_new : (y id : ℕ) → IsOf new names y id → (header_at new y).kind ≢ kind.Node
  no-node_new y id p =
      let b = w.world.row.stands.both (name_at new y) id p.named in
      let same = seen-is new after y (name_at new y) b.it sound p.held refl b.there in
      λ e. no-node N (paired names) b.it b.object b.like (ap (λ (s : Shown). s.kind) same ∙ e)

  -- What is neither a node nor the table is seen still.
  still-seen : (n : Reference) (it : Shown) → it.kind ≢ kind.Node → it.kind ≢ kind.Table → S n it → N n it
  still-seen n it no_node no_table s =
      w.enter.others n it no_node (λ e. no_table (ap (λ (i : Shown). i.kind) (seen-is old before x n it was_sound w.enter.held (sym e) s) ∙ w.enter.table)) s

  text-stays : (n : Reference) (bytes : List ℕ) → IsText S n bytes → IsText N n bytes
  text-stays n bytes k = record {
    it = k.it;
    there = still-seen n k.it (λ e. let bad : kind.Text ≡ kind.Node = sym k.kind ∙ e in absurd (cc)) (λ e. let bad : kind.Text ≡ kind.Table = sym k.kind ∙ e in absurd (cc)) k.there;
    kind = k.kind;
    bytes_are = k.bytes_are;
  }

  -- what is seen of the table now
  x-now : (n : Reference) → n ≡ name_at old x → N n (shown_at new x)
  x-now n e = subst (λ (m : Reference). N m (shown_at new x)) (name-same x w.enter.held ∙ sym e) (seen-held new after x (w.enter.lasts x w.enter.held).held)

  table-stays : (n : Reference) → IsKindOf S n kind.Table → IsKindOf N n kind.Table
  table-stays n k = elim (names-decided n (name_at old x)) [
    | inl e ↦ record { it = shown_at new x; there = x-now n e; kind_is = kind-same x w.enter.held ∙ w.enter.table }
    | inr ne ↦ record { it = k.it; there = w.enter.others n k.it (λ e. let bad : kind.Table ≡ kind.Node = sym k.kind_is ∙ e in absurd (cc)) ne k.there; kind_is = k.kind_is }
  ]

  homes : (n : Reference) (id : ℕ) → paired names n id → IsAtHome N n (home_at h.homes id)
  homes n id p = go n (home_at h.homes id) p (run.homes n id p)
    where
      go : (m : Reference) (home : Option ℕ) → paired names m id → IsAtHome S m home → IsAtHome N m home
      go Nil home q a = absurd a
      go (Pid i) None q a = absurd a
      go (Local z) None q a = a
      go (Local z) (Some k) q a = absurd a
      go (Pid i) (Some k) q a = elim (names-decided (Pid i) (name_at old x)) [
        | inl e ↦
            let was : a.0 ≡ shown_at old x = seen-is old before x (Pid i) a.0 was_sound w.enter.held (sym e) a.1 in
            (shown_at new x, x-now (Pid i) e, w.enter.home ∙ (sym (ap (λ (s : Shown). word_in s 0) was) ∙ a.2))
        | inr ne ↦
            let b = run.world.row.stands.both (Pid i) id q in
            let same = was_one (Pid i) a.0 b.it a.1 b.there in
            (a.0, w.enter.others (Pid i) a.0 (λ e. no-node S (paired names) b.it b.object b.like (sym (ap (λ (s : Shown). s.kind) same) ∙ e)) ne a.1, a.2)
      ]

  home-stored : (y id : ℕ) → IsOf old names y id → is_there (home_at h.homes id) ≡ true → 1 ≤ (header_at old y).pid
  home-stored y id p some = elim (cases_eq (header_at old y).pid 0) [
    | inr ne ↦ omega (arith, ne)
    | inl none ↦ go (home_at h.homes id) some (subst (λ m. IsAtHome S m (home_at h.homes id)) (name-none (header_at old y) y none) (run.homes (name_at old y) id p.named))
  ]
    where
      go : (home : Option ℕ) → is_there home ≡ true → IsAtHome S (Local y) home → 1 ≤ (header_at old y).pid
      go None e a = absurd (true≢false (sym e))
      go (Some n) e a = absurd a

  stored-home : (y id : ℕ) → IsOf old names y id → 1 ≤ (header_at old y).pid → is_there (home_at h.homes id) ≡ true
  stored-home y id p low = go (home_at h.homes id) (subst (λ m. IsAtHome S m (home_at h.homes id)) (name-pid (header_at old y) y low) (run.homes (name_at old y) id p.named))
    where
      go : (home : Option ℕ) → IsAtHome S (Pid (header_at old y).pid) home → is_there home ≡ true
      go None a = absurd a
      go (Some n) a = refl

  noted : (id : ℕ) → HasPlace (places_with h.homes place h.assigned) id → (y : ℕ) × IsOf new names y id × IsNoted new y
  noted id k = elim (place-with h.homes place h.assigned id k) [
    | inl was ↦
        let n = run.assigned.noted id was in
        (n.0, of-new n.0 id n.1, record { stored = (let same = pid-same n.0 n.1.held in let low = n.2.stored in omega (arith, same, low)); listed = w.enter.still n.0 n.2.listed })
    | inr now ↦
        let low = home-stored x Id w.of now.1 in
        (x, subst (IsOf new names x) now.0 (of-new x Id w.of), record { stored = (let same = pid-same x w.enter.held in omega (arith, same, low)); listed = w.enter.noted })
  ]

  -- an object with an id or a home that is noted was noted, or is the table
  was-noted : (y : ℕ) → IsNoted new y → ((header_at new y).kind ≢ kind.Node) → (IsHeld old y × IsNoted old y) ⊎ (y ≡ x)
  was-noted y n no_node = elim (w.enter.only y n.listed) [
    | inl was ↦
        let held = listed-held y was in
        let low : 1 ≤ (header_at old y).pid = (let same = pid-same y held in let now = n.stored in omega (arith, same, now)) in
        inl (held, record { stored = low; listed = was })
    | inr (inl e) ↦ inr e
    | inr (inr node_is) ↦ absurd (no_node node_is)
  ]

  placed : (y id : ℕ) → IsOf new names y id → IsNoted new y → HasPlace (places_with h.homes place h.assigned) id
  placed y id p n = elim (was-noted y n (no-node_new y id p)) [
    | inl was ↦ with-place h.homes place h.assigned id (run.assigned.placed y id (of-old y id was.0 p) was.1)
    | inr e ↦
        let here = of-old x id w.enter.held (subst (λ z. IsOf new names z id) e p) in
        let low : 1 ≤ (header_at old x).pid = (let same = pid-same x w.enter.held in let now = subst (λ z. 1 ≤ (header_at new z).pid) e n.stored in omega (arith, same, now)) in
        let id_is : id ≡ Id = run.world.row.stands.one_number (name_at old x) id Id here.named w.of.named in
        subst (HasPlace (places_with h.homes place h.assigned)) (sym id_is) (with-this h.homes place h.assigned (stored-home x Id w.of low))
  ]

  known : (y : ℕ) → IsNoted new y → has_home (header_at new y) ≡ true → (id : ℕ) × IsOf new names y id
  known y n home = elim (was-noted y n (λ e. true≢false (sym home ∙ other-home (header_at new y) kind.Node e (inl refl)))) [
    | inl was ↦
        let k = run.assigned.known y was.1 (sym (home-by_kind (header_at new y) (header_at old y) (kind-same y was.0)) ∙ home) in
        (k.0, of-new y k.0 k.1)
    | inr e ↦ (Id, subst (λ z. IsOf new names z Id) (sym e) (of-new x Id w.of))
  ]

  -- What the vault has.

  there : (y : ℕ) → IsHeld new y → 1 ≤ (header_at new y).pid → (words : List ℕ) × Holds after (header_at new y).pid words
  there y held low = elim (held-or old y) [
    | inr away ↦ w.brought.there y held away low
    | inl was ↦
        let same = pid-same y was in
        let k = run.current.told.there y was (omega (arith, same, low)) in
        (k.0, subst (λ p. Holds after p k.0) (sym same) (record { space = k.1.space; is = w.enter.contents.kept k.1.space k.1.is; has = k.1.has }))
  ]

  image-same : (y : ℕ) → IsHeld old y → shown_at new y ≡ shown_at old y → image_of new y ≡ image_of old y
  unfolding image_of
  image-same y held shows =
      let l = w.enter.lasts y held in
      ap object_words (far-same old new y l.kind l.refs l.nums (ap (λ (s : Shown). s.bytes) shows) (ap (λ (s : Shown). s.refs) shows) (ap (λ (s : Shown). s.nums) shows))

  stored : (y : ℕ) → IsHeld new y → 1 ≤ (header_at new y).pid → (IsListed y new.assigned → ⊥) → IsOfHeap new objects names w.world.row.stands.tables.nodes y
      → IsStored after (header_at new y).pid (image_of new y)
  stored y held low away of = elim (held-or old y) [
    | inr none ↦ w.brought.same y held none low away
    | inl was ↦
        elim (w.enter.kept y was) [
          | inr l ↦ absurd (away l)
          | inl shows ↦
              let same = pid-same y was in
              let s = run.current.stored y was (omega (arith, same, low)) (λ l. away (w.enter.still y l)) (w.were y was of) in
              subst (λ p. IsStored after p (image_of new y)) (sym same)
              (subst (IsStored after (header_at old y).pid) (sym (image-same y was shows)) (stored-stays before after (header_at old y).pid (image_of old y) w.enter.contents s))
        ]
  ]

  noted-kind : (y : ℕ) → IsListed y new.assigned → (has_home (header_at new y) ≡ true) ⊎ ((header_at new y).kind ≡ kind.Node)
  noted-kind y l = elim (w.enter.only y l) [
    | inl was ↦
        let held = listed-held y was in
        elim (run.current.noted y was) [
          | inl home ↦ inl (home-by_kind (header_at new y) (header_at old y) (kind-same y held) ∙ home)
          | inr node_is ↦ inr (kind-same y held ∙ node_is)
        ]
    | inr (inl e) ↦ inl (table-home (header_at new y) (subst (λ z. (header_at new z).kind ≡ kind.Table) (sym e) (kind-same x w.enter.held ∙ w.enter.table)))
    | inr (inr node_is) ↦ inr node_is
  ]

  -- The directory stays.

  directory-held : (at : ℕ) → IsDirectory S (paired names) (shown_at old at) h.directory → IsHeld old at
  directory-held at d = elim (held-or old at) [
    | inl held ↦ held
    | inr away ↦ absurd (unheld (area.found old at) refl away)
  ]
    where
      unheld : (r : Option Object) → area.found old at ≡ r → (IsHeld old at → ⊥) → ⊥
      unheld (Some o) is away = away (record { object = o; is = is })
      unheld None is away =
          let text_kind : (shown_at old at).kind ≡ kind.Text = ap (λ (f : Option Object). (Rattle.std.specs.Prelude.unwrap_or f area.nothing).header.kind) is in
          let bad : kind.Text ≡ kind.Directory = sym text_kind ∙ d.kind_is in
          absurd (cc)

  directory-shown : (at : ℕ) → IsHeld old at → (header_at old at).kind ≡ kind.Directory → shown_at new at ≡ shown_at old at
  directory-shown at held is = elim (w.enter.kept at held) [
    | inl shows ↦ shows
    | inr l ↦
        let now : (header_at new at).kind ≡ kind.Directory = kind-same at held ∙ is in
        elim (noted-kind at l) [
          | inl home ↦ absurd (true≢false (sym home ∙ other-home (header_at new at) kind.Directory now (inr refl)))
          | inr node_is ↦ let bad : kind.Directory ≡ kind.Node = sym now ∙ node_is in absurd (cc)
        ]
  ]

  directory-new : (d : Option ℕ) → IsDirectoryAt old S (paired names) d h.directory → IsDirectoryAt new N (paired names) d h.directory
  directory-new None is = is
  directory-new (Some at) is =
      subst (λ (s : Shown). IsDirectory N (paired names) s h.directory) (sym (directory-shown at (directory-held at is) is.kind_is)) (record {
        kind_is = is.kind_is;
        home = is.home;
        some = is.some;
        few = is.few;
        fit = is.fit;
        names = named-stays S N (paired names) (shown_at old at).refs h.directory text-stays table-stays is.names;
      })

  directory-seen : (n : Reference) (it : Shown) → it.kind ≡ kind.Directory → S n it → N n it
  directory-seen n it k s =
      still-seen n it (λ e. let bad : kind.Directory ≡ kind.Node = sym k ∙ e in absurd (cc)) (λ e. let bad : kind.Directory ≡ kind.Table = sym k ∙ e in absurd (cc)) s

  root-new : (number at : ℕ) → HasRoot old names h number at → HasRoot new names (assigning place objects h) number at
  root-new number at r = record { database = r.database; is = r.is; root = of-new at r.database.root r.root }

  pub entered-run : HoldsRun new after names writing directory (assigning place objects h)
  entered-run = record {
    store = store;
    world = w.world;
    homes = homes;
    homed = omega (arith, run.homed, run.world.row.long, w.world.row.long);
    assigned = record { noted = noted; placed = placed; known = known };
    trees = w.trees;
    current = record {
      told = record {
        content = run.current.told.content;
        is = w.enter.contents.kept run.current.told.content run.current.told.is;
        cut = λ space is. run.current.told.cut space (w.enter.contents.no_other space is);
        there = there;
        whole = w.brought.whole;
      };
      stored = stored;
      noted = noted-kind;
    };
    sources = record {
      numbers = run.sources.numbers;
      each = λ q lt. record {
        made = λ at e. let m = (run.sources.each q lt).made at e in (m.0, root-new (source_at writing q).number at m.1);
        other = (run.sources.each q lt).other;
      };
      made = run.sources.made;
      roots = λ q at lt e.
          let r = run.sources.roots q at lt e in
          record { held = (w.enter.lasts at r.held).held; unstored = pid-same at r.held ∙ r.unstored; kind = kind-same at r.held ∙ r.kind; only = r.only };
      others = run.sources.others;
    };
    asked = λ e. directory-new directory (run.asked e);
    unasked = λ e.
        unasked-as new after names h (assigning place objects h) directory refl refl refl
        (unasked-stays old new before after names names h directory w.enter.contents.no_other directory-seen (λ ns a. named-stays S N (paired names) ns h.directory text-stays table-stays a) (run.unasked e));
  }
