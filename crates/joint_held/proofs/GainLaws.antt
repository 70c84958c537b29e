-- What a run holds is held still where the area gained objects.
use Rattle.std.proofs.Common.{true, inl, inr, ◌⊎◌, ◌≡◌, ℕ, ◌≤◌, List, [], ◌∷◌, refl, sym, ap, ◌∙◌, subst, arith, Option, Some, None, nat_eq, if◌then◌else◌}
use Rattle.std.specs.Prelude.{take, drop, ◌^◌}
use Rattle.std.specs.List.{AllByRecursion}
use Rattle.std.proofs.lemmas.Bool.{cases_eq}
use Rattle.joint_ops.specs.ps_outside.Outside.{Outside}
use Rattle.joint_ops.specs.obj_area.Words.{AreWords}
use Rattle.joint_ops.specs.obj_layout.Stored.{Space, Holds}
use Rattle.joint_ops.specs.obj_layout.Kind.{kind_number}
use Rattle.joint_ops.specs.obj_layout.declared.kind.Kind.TheVariants as kind
use Rattle.joint_ops.specs.obj_layout.declared.header.Header.{Header}
use Rattle.joint_ops.specs.obj_layout.declared.reference.Reference.{Reference}
use Rattle.joint_ops.specs.obj_layout.declared.reference.Reference.TheVariants.{Nil, Pid, Local}
use Rattle.joint_ops.specs.swizzle.Objects.{Object, object_in, header_in}
use Rattle.joint_ops.specs.swizzle.Heap as area
use Rattle.joint_ops.specs.swizzle.Heap.{IsHeap, IsHeld, IsListed, header_at, local_of}
use Rattle.joint_ops.specs.swizzle.Joint.{Shown, name_at, shown_at}
use Rattle.swizzle.proofs.NameLaws.{name-pid, name-none, pid_in}
use Rattle.joint_ops.specs.World.{IsStored, IsWorld, seen}
use Rattle.joint_ops.proofs.SeenLaws.{seen-one, stored-stays}
use Rattle.joint_ops.specs.heap_places.Shapes.{slot_of}
use Rattle.joint_ops.specs.heap_meaning.avl_trees.Trees.{Tree}
use Rattle.joint_ops.specs.heap_meaning.avl_trees.Standing.{root_of, Stands}
use Rattle.joint_ops.specs.heap_meaning.node_rows.Keys.{Keys}
use Rattle.joint_ops.specs.heap_meaning.node_rows.Nodes.{I, IsAmong, HasNode, link_of}
use Rattle.joint_ops.specs.heap_meaning.Standing.{Seen, IsOne}
use Rattle.joint_ops.specs.heap_meaning.Paired.{paired}
use Rattle.heap_meaning.proofs.PairedLaws.{row-within}
use Rattle.joint_ops.specs.ps_heap.Tables.{Table}
use Rattle.joint_ops.specs.ps_heap.Objects.{Keyed, object_at}
use Rattle.joint_ops.specs.ps_heap.Held.{Held, home_at}
use Rattle.db_dir.specs.Directories.{IsDirectory, IsDirectoryAt}
use Rattle.db_dir.proofs.ListLaws.{named-within}
use Rattle.commit_walk.specs.Walk.{has_home}
use Rattle.commit_walk.specs.Homes.{source_at}
use Rattle.commit_walk.specs.declared.homes.Source.{Source}
use Rattle.reach_commit.specs.commit_images.Images.{image_of}
use Rattle.reach_commit.specs.commit_images.Stored.{IsWhole}
use Rattle.reach_commit.specs.Telling.{IsTold}
use Rattle.joint_held.specs.Held.{IsAtHome, IsOf, IsNoted, IsHere, HasChanged, IsTree, IsKeyed, IsNodeOf, IsOfHeap, HasRoot, IsOneStore, HoldsRun}
use Rattle.joint_ops.specs.Seeing.{Came, Gains}
use Rattle.joint_held.proofs.TreeLaws as trees
use Rattle.joint_held.proofs.TreeLaws.{tree-stays, tree-one, tree-in, nodes-one, node-known, WasOpen, is-tree}
use Rattle.joint_held.proofs.ImageLaws.{came-image}
use Rattle.joint_held.proofs.StoreLaws.{same-store, unasked-stays}

-- The kind decides whether an object has a home.
pub home-by_kind : (h i : Header) → h.kind ≡ i.kind → has_home h ≡ has_home i
unfolding has_home
home-by_kind h i e = ap (λ k. if nat_eq (kind_number k) 2 then true else (if nat_eq (kind_number k) 3 then true else (if nat_eq (kind_number k) 4 then true else nat_eq (kind_number k) 7))) e

module _ (old new : area.Heap) (before after : Outside Space) (names : List Reference) (writing : List Source) (directory : Option ℕ) (h : Held)
    (t : Gains old new before after) (run : HoldsRun old before names writing directory h) where
  was_sound : IsHeap old
  was_sound = t.was_sound

  sound : IsHeap new
  sound = t.sound

  store : IsOneStore after
  store = same-store before after t.contents run.store

  one : IsOne (seen new after)
  one = seen-one new after sound store.one

  abbrev S : Seen
  S = seen old before

  abbrev N : Seen
  N = seen new after

  now-held : (x : ℕ) → IsHeld old x → IsHeld new x
  now-held x held = (t.keeps.objects x held).held

  name-same : (x : ℕ) → IsHeld old x → name_at new x ≡ name_at old x
  name-same x held = (t.keeps.objects x held).name

  shown-same : (x : ℕ) → IsHeld old x → shown_at new x ≡ shown_at old x
  shown-same x held = (t.keeps.objects x held).shown_as

  kind-same : (x : ℕ) → IsHeld old x → (header_at new x).kind ≡ (header_at old x).kind
  kind-same x held = ap (λ (s : Shown). s.kind) (shown-same x held)

  pid-of : (here : area.Heap) (x : ℕ) → pid_in (name_at here x) ≡ (header_at here x).pid
  unfolding pid_in
  pid-of here x = elim (cases_eq (header_at here x).pid 0) [
    | inl none ↦ ap pid_in (name-none (header_at here x) x none) ∙ sym none
    | inr some ↦ ap pid_in (name-pid (header_at here x) x (omega arith))
  ]

  pid-same : (x : ℕ) → IsHeld old x → (header_at new x).pid ≡ (header_at old x).pid
  pid-same x held = sym (pid-of new x) ∙ (ap pid_in (name-same x held) ∙ pid-of old x)

  listed-old : (x : ℕ) → IsListed x new.assigned → IsListed x old.assigned
  listed-old x l = subst (IsListed x) t.keeps.assigned l

  listed-new : (x : ℕ) → IsListed x old.assigned → IsListed x new.assigned
  listed-new x l = subst (IsListed x) (sym t.keeps.assigned) l

  listed-held : (x : ℕ) → IsListed x old.assigned → IsHeld old x
  listed-held x l = let m = was_sound.noted.marked x l in record { object = m.object; is = m.is }

  of-new : (x id : ℕ) → IsOf old names x id → IsOf new names x id
  of-new x id p = record { held = now-held x p.held; named = p.named ∙ ap Some (sym (name-same x p.held)) }

  of-old : (x id : ℕ) → IsHeld old x → IsOf new names x id → IsOf old names x id
  of-old x id held p = record { held = held; named = p.named ∙ ap Some (name-same x held) }

  noted-new : (x : ℕ) → IsHeld old x → IsNoted old x → IsNoted new x
  noted-new x held n = record { stored = (let same = pid-same x held in let low = n.stored in omega (arith, same, low)); listed = listed-new x n.listed }

  noted-old : (x : ℕ) → IsNoted new x → IsHeld old x × IsNoted old x
  noted-old x n =
      let l = listed-old x n.listed in
      let held = listed-held x l in
      (held, record { stored = (let same = pid-same x held in let low = n.stored in omega (arith, same, low)); listed = l })

  world : IsWorld new after h.objects names
  world = record { row = row-within S N h.objects names t.grows run.world.row }

  homes : (n : Reference) (id : ℕ) → paired names n id → IsAtHome N n (home_at h.homes id)
  homes n id p = go n (home_at h.homes id) (run.homes n id p)
    where
      go : (m : Reference) (home : Option ℕ) → IsAtHome S m home → IsAtHome N m home
      go Nil home a = absurd a
      go (Pid q) None a = absurd a
      go (Pid q) (Some n) a = (a.0, t.grows (Pid q) a.0 a.1, a.2)
      go (Local z) None a = a
      go (Local z) (Some n) a = absurd a

  -- The trees of tables.

  stays : trees.Stays S N
  stays = record { nodes = λ n it k s. t.grows n it s; texts = λ n bytes x. record { it = x.it; there = t.grows n x.it x.there; kind = x.kind; bytes_are = x.bytes_are } }

  here : (m : Reference) → IsHere old m → IsHere new m
  here m w = record { at = w.at; held = now-held w.at w.held; name = name-same w.at w.held ∙ w.name }

  -- what isn't stored or is noted was so before, where it was seen
  was-open : (x : ℕ) → IsHeld new x → (it : Shown) → S (name_at new x) it → ((header_at new x).pid ≡ 0) ⊎ IsListed x new.assigned → WasOpen old (name_at new x)
  was-open x held it known (inr l) =
      let was = listed-held x (listed-old x l) in
      record { at = x; held = was; name = sym (name-same x was); why = inr (listed-old x l) }
  was-open x held it known (inl none) = elim (t.came x held) [
    | inl was ↦ record { at = x; held = was; name = sym (name-same x was); why = inl (sym (pid-same x was) ∙ none) }
    | inr (inl c) ↦ let low = c.stored in absurd (omega (arith, none, low))
    | inr (inr m) ↦ absurd (m.unseen it known)
  ]

  changed-new : (ns : List Reference) → HasChanged old ns → HasChanged new ns
  changed-new ns c = record {
    at = c.at;
    held = now-held c.at c.held;
    among = subst (λ m. IsAmong m ns) (sym (name-same c.at c.held)) c.among;
    why = elim c.why [ inl none ↦ inl (pid-same c.at c.held ∙ none) | inr l ↦ inr (listed-new c.at l) ];
  }

  are-trees : (n : Reference) (id : ℕ) (table : Table) (it : Shown) (ks : Keys) (u : Tree (I ks)) → paired names n id → object_at h.objects id ≡ Some (Keyed table) → IsKeyed ks table → N n it
      → link_of (slot_of it 0) ≡ root_of u → Stands (HasNode ks N) u → IsTree new N n ks u
  are-trees n id table it ks u named is keyed there root stands =
      let tab = run.world.row.stands.tables.each n id table named is in
      let w = tree-in ks S (paired names) tab.root table (run.world.row.stands.tables.nodes id) keyed tab.has in
      let slot : slot_of tab.it 0 ≡ tab.root = ap (λ (r : List Reference). Rattle.std.specs.Prelude.get_or r 0 Nil) tab.refs in
      let was_root : link_of (slot_of tab.it 0) ≡ root_of w.tree = ap link_of slot ∙ w.root_is in
      let same : tab.it ≡ it = one n tab.it it (t.grows n tab.it tab.there) there in
      let one_tree = tree-one ks N w.tree u one (sym was_root ∙ (ap (λ (s : Shown). link_of (slot_of s 0)) same ∙ root)) (tree-stays ks S N w.tree stays w.stands) stands in
      let was = run.trees n id table tab.it ks w.tree named is keyed tab.there was_root w.stands in
      subst (IsTree new N n ks) one_tree
      (is-tree old new S N n ks w.tree one stays w.stands (λ x held k why. let w = node-known ks S N w.tree stays w.stands (name_at new x) k in was-open x held w.0 w.1 why) here (changed-new (n ∷ [])) was)

  -- What the vault has.

  was-node : (x : ℕ) → IsHeld old x → IsOfHeap new h.objects names world.row.stands.tables.nodes x → IsOfHeap old h.objects names run.world.row.stands.tables.nodes x
  was-node x held (inl other) = inl (λ e. other (kind-same x held ∙ e))
  was-node x held (inr n) = inr (node-back x n (subst (λ m. IsAmong m (world.row.stands.tables.nodes n.id)) (name-same x held) n.among))
    where
      node-back : (x : ℕ) (n : IsNodeOf new h.objects names world.row.stands.tables.nodes x) → IsAmong (name_at old x) (world.row.stands.tables.nodes n.id)
          → IsNodeOf old h.objects names run.world.row.stands.tables.nodes x
      node-back x n among =
          let a = run.world.row.stands.tables.each n.name n.id n.table n.named n.table_is in
          let b = world.row.stands.tables.each n.name n.id n.table n.named n.table_is in
          let same = nodes-one S N (paired names) (paired names) n.name n.table (run.world.row.stands.tables.nodes n.id) (world.row.stands.tables.nodes n.id) one stays a b (λ it s. t.grows n.name it s) in
          record { name = n.name; id = n.id; named = n.named; table = n.table; table_is = n.table_is; among = subst (IsAmong (name_at old x)) (sym same) among }

  image-same : (x : ℕ) → IsHeld old x → image_of new x ≡ image_of old x
  unfolding image_of
  image-same x held =
      let s = t.keeps.objects x held in
      ap Rattle.joint_ops.specs.swizzle.Objects.object_words
      (Rattle.joint_held.proofs.ImageLaws.far-same old new x (kind-same x held) s.refs s.nums (ap (λ (i : Shown). i.bytes) s.shown_as) (ap (λ (i : Shown). i.refs) s.shown_as) (ap (λ (i : Shown). i.nums) s.shown_as))

  came-stored : (x : ℕ) → IsHeld new x → Came old new before x → IsStored after (header_at new x).pid (image_of new x)
  came-stored x held c =
      let words_fit : AreWords c.words = Rattle.joint_held.proofs.ImageLaws.held-words before (header_at new x).pid c.words run.store.wide c.there.there in
      let same = came-image new x c.words c.there.header sound held c.there.far words_fit c.there.clean c.shown in
      subst (IsStored after (header_at new x).pid) (sym same) (stored-stays before after (header_at new x).pid c.words t.contents c.there)

  stored : (x : ℕ) → IsHeld new x → 1 ≤ (header_at new x).pid → (IsListed x new.assigned → ⊥) → IsOfHeap new h.objects names world.row.stands.tables.nodes x
      → IsStored after (header_at new x).pid (image_of new x)
  stored x held low away of = elim (t.came x held) [
    | inr (inl c) ↦ came-stored x held c
    | inr (inr m) ↦ let none = m.unstored in absurd (omega (arith, none, low))
    | inl was ↦
        let same = pid-same x was in
        let s = run.current.stored x was (omega (arith, same, low)) (λ l. away (listed-new x l)) (was-node x was of) in
        subst (λ p. IsStored after p (image_of new x)) (sym same) (subst (IsStored after (header_at old x).pid) (sym (image-same x was)) (stored-stays before after (header_at old x).pid (image_of old x) t.contents s))
  ]

  whole : (x : ℕ) → IsHeld new x → IsWhole new x
  whole x held = elim (t.came x held) [
    | inl was ↦
        let s = t.keeps.objects x was in
        let w = run.current.told.whole x was in
        record {
          contents = w.contents;
          counts = Rattle.joint_held.proofs.ImageLaws.contents-same (header_at old x) (header_at new x) w.contents (kind-same x was) s.refs s.nums (ap (λ (i : Shown). i.bytes) s.shown_as) w.counts;
        }
    | inr (inl c) ↦ Rattle.joint_held.proofs.ImageLaws.came-whole new before x c.words sound held c.there c.shown
    | inr (inr m) ↦ record { contents = m.whole.0; counts = m.whole.1 }
  ]

  told : IsTold new after
  told = record {
    content = run.current.told.content;
    is = t.contents.kept run.current.told.content run.current.told.is;
    cut = λ space is. run.current.told.cut space (t.contents.no_other space is);
    there = λ x held low. elim (t.came x held) [
      | inl was ↦
          let same = pid-same x was in
          let k = run.current.told.there x was (omega (arith, same, low)) in
          (k.0, subst (λ p. Holds after p k.0) (sym same) (record { space = k.1.space; is = t.contents.kept k.1.space k.1.is; has = k.1.has }))
      | inr (inl c) ↦ (c.words, record { space = c.there.there.space; is = t.contents.kept c.there.there.space c.there.there.is; has = c.there.there.has })
      | inr (inr m) ↦ let none = m.unstored in absurd (omega (arith, none, low))
    ];
    whole = whole;
  }

  noted-kind : (x : ℕ) → IsListed x new.assigned → (has_home (header_at new x) ≡ true) ⊎ ((header_at new x).kind ≡ kind.Node)
  noted-kind x l =
      let was = listed-held x (listed-old x l) in
      elim (run.current.noted x (listed-old x l)) [
        | inl home ↦ inl (home-by_kind (header_at new x) (header_at old x) (kind-same x was) ∙ home)
        | inr node_is ↦ inr (kind-same x was ∙ node_is)
      ]

  -- The directory lies in the area.

  directory-held : (at : ℕ) → IsDirectory S (paired names) (shown_at old at) h.directory → IsHeld old at
  directory-held at d = go (area.found old at) refl
    where
      go : (r : Option Object) → area.found old at ≡ r → IsHeld old at
      go (Some o) is = record { object = o; is = is }
      go None is =
          let text_kind : (shown_at old at).kind ≡ kind.Text = ap (λ (f : Option Object). (Rattle.std.specs.Prelude.unwrap_or f area.nothing).header.kind) is in
          let bad : kind.Text ≡ kind.Directory = sym text_kind ∙ d.kind_is in
          absurd (cc)

  directory-new : (d : Option ℕ) → IsDirectoryAt old S (paired names) d h.directory → IsDirectoryAt new N (paired names) d h.directory
  directory-new None is = is
  directory-new (Some at) is =
      let held = directory-held at is in
      subst (λ (s : Shown). IsDirectory N (paired names) s h.directory) (sym (shown-same at held)) (record {
        kind_is = is.kind_is;
        home = is.home;
        some = is.some;
        few = is.few;
        fit = is.fit;
        names = named-within S N (paired names) (shown_at old at).refs h.directory t.grows is.names;
      })

  root-new : (number at : ℕ) → HasRoot old names h number at → HasRoot new names h number at
  root-new number at r = record { database = r.database; is = r.is; root = of-new at r.database.root r.root }

  pub holds : HoldsRun new after names writing directory h
  holds = record {
    store = store;
    world = world;
    homes = homes;
    homed = run.homed;
    assigned = record {
      noted = λ id k. let n = run.assigned.noted id k in (n.0, of-new n.0 id n.1, noted-new n.0 n.1.held n.2);
      placed = λ x id p n. let o = noted-old x n in run.assigned.placed x id (of-old x id o.0 p) o.1;
      known = λ x n home.
          let o = noted-old x n in
          let k = run.assigned.known x o.1 (sym (home-by_kind (header_at new x) (header_at old x) (kind-same x o.0)) ∙ home) in
          (k.0, of-new x k.0 k.1);
    };
    trees = are-trees;
    current = record { told = told; stored = stored; noted = noted-kind };
    sources = record {
      numbers = run.sources.numbers;
      each = λ place lt. record {
        made = λ at e. let m = (run.sources.each place lt).made at e in (m.0, root-new (source_at writing place).number at m.1);
        other = (run.sources.each place lt).other;
      };
      made = run.sources.made;
      roots = λ place at lt e.
          let r = run.sources.roots place at lt e in
          record { held = now-held at r.held; unstored = pid-same at r.held ∙ r.unstored; kind = kind-same at r.held ∙ r.kind; only = r.only };
      others = run.sources.others;
    };
    asked = λ e. directory-new directory (run.asked e);
    unasked = λ e. unasked-stays old new before after names names h directory t.contents.no_other (λ n it k s. t.grows n it s) (λ ns a. named-within S N (paired names) ns h.directory t.grows a) (run.unasked e);
  }
