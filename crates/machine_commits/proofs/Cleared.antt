-- What a run holds is held still, and what was denoted is denoted, where nothing is noted as reached any more.
use Rattle.std.proofs.Common.{inl, inr, ◌⊎◌, ◌≡◌, ℕ, ◌≤◌, List, ◌∷◌, [], refl, sym, ap, ◌∙◌, subst, Option, Some, None}
use Rattle.ps_base.specs.CodeUnit.{UnitView}
use Rattle.machine_core.specs.ps_outside.Outside.{Outside}
use Rattle.machine_core.specs.obj_layout.Stored.{Holds, Space}
use Rattle.machine_core.specs.obj_layout.declared.kind.Kind.TheVariants as kind
use Rattle.machine_core.specs.obj_layout.declared.reference.Reference.{Reference}
use Rattle.machine_core.specs.obj_layout.declared.reference.Reference.TheVariants.{Nil, Pid, Local}
use Rattle.machine_core.specs.swizzle.Objects.{Object}
use Rattle.machine_core.specs.swizzle.Heap as area
use Rattle.machine_core.specs.swizzle.Heap.{IsHeap, IsHeld, IsListed, header_at, with_none_reached}
use Rattle.machine_core.specs.swizzle.Joint.{Shown, name_at, shown_at}
use Rattle.machine_core.specs.swizzle.Changes.{Same}
use Rattle.swizzle.proofs.MarkLaws.{joint-left}
use Rattle.machine_core.specs.joint_ops.World.{DenotesIn, DenotesScopeIn, IsStored, IsUnitIn, IsWorld, seen}
use Rattle.joint_ops.proofs.SeenLaws.{Passes, carries-value, carries-scope, carries-unit, seen-held, seen-is, seen-one}
use Rattle.machine_core.specs.joint_ops.heap_places.Shapes.{slot_of}
use Rattle.machine_core.specs.joint_ops.heap_meaning.avl_trees.Trees.{Tree}
use Rattle.machine_core.specs.joint_ops.heap_meaning.avl_trees.Standing.{Stands, root_of}
use Rattle.machine_core.specs.joint_ops.heap_meaning.node_rows.Keys.{Keys}
use Rattle.machine_core.specs.joint_ops.heap_meaning.node_rows.Nodes.{I, HasNode, IsAmong, link_of}
use Rattle.machine_core.specs.joint_ops.heap_meaning.Standing.{Seen, IsOne}
use Rattle.machine_core.specs.joint_ops.heap_meaning.Paired.{paired}
use Rattle.heap_meaning.proofs.PairedLaws.{row-within}
use Rattle.machine_core.specs.ps_heap.Values.{Value}
use Rattle.machine_core.specs.ps_heap.Tables.{Table}
use Rattle.machine_core.specs.ps_heap.Objects.{Keyed, object_at as meant_at}
use Rattle.machine_core.specs.ps_heap.Held.{Held, home_at}
use Rattle.machine_core.specs.joint_held.db_dir.Directories.{IsDirectory, IsDirectoryAt}
use Rattle.db_dir.proofs.ListLaws.{named-within}
use Rattle.machine_core.specs.joint_held.reach_commit.commit_walk.Walk.{has_home}
use Rattle.machine_core.specs.joint_held.reach_commit.commit_walk.Homes.{source_at}
use Rattle.machine_core.specs.joint_held.reach_commit.commit_walk.declared.homes.Source.{Source}
use Rattle.machine_core.specs.joint_held.reach_commit.commit_images.Images.{image_of}
use Rattle.machine_core.specs.joint_held.reach_commit.commit_images.Stored.{IsWhole}
use Rattle.machine_core.specs.joint_held.reach_commit.Telling.{IsTold}
use Rattle.machine_core.specs.joint_held.Held.{AreAssigned, AreSources, HasChanged, HasRoot, HoldsRun, IsAtHome, IsCurrent, IsHere, IsKeyed, IsNoted, IsNodeOf, IsOf, IsOfHeap, IsTree}
use Rattle.reach_commit.proofs.ClearLaws.{Clears, clears-reached, image-cleared, same-names}
use Rattle.joint_held.proofs.GainLaws.{home-by_kind}
use Rattle.joint_held.proofs.ImageLaws.{contents-same}
use Rattle.joint_held.proofs.StoreLaws.{unasked-stays}
use Rattle.joint_held.proofs.TreeLaws as trees
use Rattle.joint_held.proofs.TreeLaws.{WasOpen, is-tree, nodes-one, tree-stays}

module _ (here : area.Heap) (outside : Outside Space) where
  abbrev now : area.Heap
  now = with_none_reached here

  abbrev S : Seen
  S = seen here outside

  abbrev N : Seen
  N = seen now outside

  both : Same S N
  both = joint-left here (IsStored outside)

  clears : Clears here now
  clears = clears-reached here

  now-held : (x : ℕ) → IsHeld here x → IsHeld now x
  now-held x held = clears.remade.held x held

  was-held : (x : ℕ) → IsHeld now x → IsHeld here x
  was-held x held = clears.remade.back x held

  name-same : (x : ℕ) → name_at now x ≡ name_at here x
  name-same = same-names here now clears.pids

  -- What was denoted is denoted still.

  passes : Passes here now S N
  passes = record {
    names = λ at held. (now-held at held, name-same at);
    fixed = λ n it k s. both.grows n it s;
    kinds = λ n it s. record { it = it; there = both.grows n it s; kind_is = refl };
  }

  pub cleared-values : (names : List Reference) (to : Option ℕ) (v : Value) → DenotesIn here outside names to v → DenotesIn now outside names to v
  cleared-values names to v d = carries-value here now S N (paired names) (paired names) to v passes (λ n id p. p) d

  pub cleared-scopes : (names : List Reference) (to scope : Option ℕ) → DenotesScopeIn here outside names to scope → DenotesScopeIn now outside names to scope
  cleared-scopes names to scope d = carries-scope here now S N (paired names) (paired names) to scope passes (λ n id p. p) d

  pub cleared-units : (code : ℕ) (u : UnitView) → IsUnitIn here outside code u → IsUnitIn now outside code u
  cleared-units code u i = carries-unit here now outside outside code u passes i

  -- What the run holds.

  module _ (names : List Reference) (writing : List Source) (directory : Option ℕ) (h : Held) (sound : IsHeap here) (good : IsHeap now)
      (run : HoldsRun here outside names writing directory h) where
    one : IsOne N
    one = seen-one now outside good run.store.one

    kind-same : (x : ℕ) → (header_at now x).kind ≡ (header_at here x).kind
    kind-same x = (clears.remade.objects x).kind

    pid-same : (x : ℕ) → (header_at now x).pid ≡ (header_at here x).pid
    pid-same x = clears.pids x

    shown-same : (x : ℕ) → IsHeld here x → shown_at now x ≡ shown_at here x
    shown-same x held =
        sym (seen-is now outside x (name_at here x) (shown_at here x) good (now-held x held) (name-same x)
        (both.grows (name_at here x) (shown_at here x) (seen-held here outside x held)))

    of-now : (x id : ℕ) → IsOf here names x id → IsOf now names x id
    of-now x id p = record { held = now-held x p.held; named = p.named ∙ ap Some (sym (name-same x)) }

    of-was : (x id : ℕ) → IsOf now names x id → IsOf here names x id
    of-was x id p = record { held = was-held x p.held; named = p.named ∙ ap Some (name-same x) }

    noted-now : (x : ℕ) → IsNoted here x → IsNoted now x
    noted-now x n = record { stored = subst (λ (p : ℕ). 1 ≤ p) (sym (pid-same x)) n.stored; listed = n.listed }

    noted-was : (x : ℕ) → IsNoted now x → IsNoted here x
    noted-was x n = record { stored = subst (λ (p : ℕ). 1 ≤ p) (pid-same x) n.stored; listed = n.listed }

    home-same : (x : ℕ) → has_home (header_at now x) ≡ has_home (header_at here x)
    home-same x = home-by_kind (header_at now x) (header_at here x) (kind-same x)

    world : IsWorld now outside h.objects names
    world = record { row = row-within S N h.objects names both.grows run.world.row }

    homes : (n : Reference) (id : ℕ) → paired names n id → IsAtHome N n (home_at h.homes id)
    homes n id p = go n (home_at h.homes id) (run.homes n id p)
      where
        go : (m : Reference) (home : Option ℕ) → IsAtHome S m home → IsAtHome N m home
        go Nil home a = absurd a
        go (Pid q) None a = absurd a
        go (Pid q) (Some n) a = (a.0, both.grows (Pid q) a.0 a.1, a.2)
        go (Local z) None a = a
        go (Local z) (Some n) a = absurd a

    assigned : AreAssigned now names h.assigned
    assigned = record {
      noted = λ id k. let n = run.assigned.noted id k in (n.0, of-now n.0 id n.1, noted-now n.0 n.2);
      placed = λ x id p n. run.assigned.placed x id (of-was x id p) (noted-was x n);
      known = λ x n home. let k = run.assigned.known x (noted-was x n) (sym (home-same x) ∙ home) in (k.0, of-now x k.0 k.1);
    }

    -- The trees of tables.

    stays : trees.Stays S N
    stays = record { nodes = λ n it k s. both.grows n it s; texts = λ n bytes x. record { it = x.it; there = both.grows n x.it x.there; kind = x.kind; bytes_are = x.bytes_are } }

    stayed : trees.Stays N S
    stayed = record { nodes = λ n it k s. both.no_more n it s; texts = λ n bytes x. record { it = x.it; there = both.no_more n x.it x.there; kind = x.kind; bytes_are = x.bytes_are } }

    here-now : (m : Reference) → IsHere here m → IsHere now m
    here-now m w = record { at = w.at; held = now-held w.at w.held; name = name-same w.at ∙ w.name }

    changed-now : (ns : List Reference) → HasChanged here ns → HasChanged now ns
    changed-now ns c = record {
      at = c.at;
      held = now-held c.at c.held;
      among = subst (λ (m : Reference). IsAmong m ns) (sym (name-same c.at)) c.among;
      why = elim c.why [ inl none ↦ inl (pid-same c.at ∙ none) | inr l ↦ inr l ];
    }

    was-open : (x : ℕ) → IsHeld now x → ((header_at now x).pid ≡ 0) ⊎ IsListed x now.assigned → WasOpen here (name_at now x)
    was-open x held why = record {
      at = x;
      held = was-held x held;
      name = sym (name-same x);
      why = elim why [ inl none ↦ inl (sym (pid-same x) ∙ none) | inr l ↦ inr l ];
    }

    are-trees : (n : Reference) (id : ℕ) (table : Table) (it : Shown) (ks : Keys) (t : Tree (I ks)) → paired names n id → meant_at h.objects id ≡ Some (Keyed table)
        → IsKeyed ks table → N n it → link_of (slot_of it 0) ≡ root_of t → Stands (HasNode ks N) t → IsTree now N n ks t
    are-trees n id table it ks t named is keyed there root stands =
        let before = tree-stays ks N S t stayed stands in
        let was = run.trees n id table it ks t named is keyed (both.no_more n it there) root before in
        is-tree here now S N n ks t one stays before (λ x held k why. was-open x held why) here-now (changed-now (n ∷ [])) was

    -- What the vault has.

    was-node : (x : ℕ) → IsOfHeap now h.objects names world.row.stands.tables.nodes x → IsOfHeap here h.objects names run.world.row.stands.tables.nodes x
    was-node x (inl other) = inl (λ e. other (kind-same x ∙ e))
    was-node x (inr n) = inr (node-back n (subst (λ (m : Reference). IsAmong m (world.row.stands.tables.nodes n.id)) (name-same x) n.among))
      where
        node-back : (n : IsNodeOf now h.objects names world.row.stands.tables.nodes x) → IsAmong (name_at here x) (world.row.stands.tables.nodes n.id)
            → IsNodeOf here h.objects names run.world.row.stands.tables.nodes x
        node-back n among =
            let a = run.world.row.stands.tables.each n.name n.id n.table n.named n.table_is in
            let b = world.row.stands.tables.each n.name n.id n.table n.named n.table_is in
            let same = nodes-one S N (paired names) (paired names) n.name n.table (run.world.row.stands.tables.nodes n.id) (world.row.stands.tables.nodes n.id) one stays a b (λ it s. both.grows n.name it s) in
            record { name = n.name; id = n.id; named = n.named; table = n.table; table_is = n.table_is; among = subst (IsAmong (name_at here x)) (sym same) among }

    stored : (x : ℕ) → IsHeld now x → 1 ≤ (header_at now x).pid → (IsListed x now.assigned → ⊥) → IsOfHeap now h.objects names world.row.stands.tables.nodes x
        → IsStored outside (header_at now x).pid (image_of now x)
    stored x held low away of =
        let s = run.current.stored x (was-held x held) (subst (λ (p : ℕ). 1 ≤ p) (pid-same x) low) away (was-node x of) in
        subst (λ (p : ℕ). IsStored outside p (image_of now x)) (sym (pid-same x))
        (subst (IsStored outside (header_at here x).pid) (sym (image-cleared here now x clears)) s)

    whole : (x : ℕ) → IsHeld now x → IsWhole now x
    whole x held =
        let b = clears.remade.objects x in
        let w = run.current.told.whole x (was-held x held) in
        record { contents = w.contents; counts = contents-same (header_at here x) (header_at now x) w.contents b.kind b.refs_count b.nums_count b.bytes w.counts }

    told : IsTold now outside
    told = record {
      content = run.current.told.content;
      is = run.current.told.is;
      cut = run.current.told.cut;
      there = λ x held low.
          let k = run.current.told.there x (was-held x held) (subst (λ (p : ℕ). 1 ≤ p) (pid-same x) low) in
          (k.0, subst (λ (p : ℕ). Holds outside p k.0) (sym (pid-same x)) k.1);
      whole = whole;
    }

    current : IsCurrent now outside h.objects names world.row.stands.tables.nodes
    current = record {
      told = told;
      stored = stored;
      noted = λ x l. elim (run.current.noted x l) [ inl home ↦ inl (home-same x ∙ home) | inr is ↦ inr (kind-same x ∙ is) ];
    }

    root-now : (number at : ℕ) → HasRoot here names h number at → HasRoot now names h number at
    root-now number at r = record { database = r.database; is = r.is; root = of-now at r.database.root r.root }

    sources : AreSources now names h writing
    sources = record {
      numbers = run.sources.numbers;
      each = λ place lt. record {
        made = λ at e. let m = (run.sources.each place lt).made at e in (m.0, root-now (source_at writing place).number at m.1);
        other = (run.sources.each place lt).other;
      };
      made = run.sources.made;
      roots = λ place at lt e.
          let r = run.sources.roots place at lt e in
          record { held = now-held at r.held; unstored = pid-same at ∙ r.unstored; kind = kind-same at ∙ r.kind; only = r.only };
      others = run.sources.others;
    }

    directory-held : (at : ℕ) → IsDirectory S (paired names) (shown_at here at) h.directory → IsHeld here at
    directory-held at d = go (area.found here at) refl
      where
        go : (r : Option Object) → area.found here at ≡ r → IsHeld here at
        go (Some o) is = record { object = o; is = is }
        go None is =
            let text_kind : (shown_at here at).kind ≡ kind.Text = ap (λ (f : Option Object). (Rattle.std.specs.Prelude.unwrap_or f area.nothing).header.kind) is in
            let bad : kind.Text ≡ kind.Directory = sym text_kind ∙ d.kind_is in
            absurd (cc)

    directory-now : (d : Option ℕ) → IsDirectoryAt here S (paired names) d h.directory → IsDirectoryAt now N (paired names) d h.directory
    directory-now None is = is
    directory-now (Some at) is =
        let held = directory-held at is in
        subst (λ (s : Shown). IsDirectory N (paired names) s h.directory) (sym (shown-same at held)) (record {
          kind_is = is.kind_is;
          home = is.home;
          some = is.some;
          few = is.few;
          fit = is.fit;
          names = named-within S N (paired names) (shown_at here at).refs h.directory both.grows is.names;
        })

    pub cleared-run : HoldsRun now outside names writing directory h
    cleared-run = record {
      store = run.store;
      world = world;
      homes = homes;
      homed = run.homed;
      assigned = assigned;
      trees = are-trees;
      current = current;
      sources = sources;
      asked = λ e. directory-now directory (run.asked e);
      unasked = λ e.
          unasked-stays here now outside outside names names h directory (λ space is. is) (λ n it k s. both.grows n it s)
          (λ ns a. named-within S N (paired names) ns h.directory both.grows a) (run.unasked e);
    }
