-- The nodes of tables that a walk comes to.
use Rattle.std.proofs.Common.{inl, inr, ◌⊎◌, ◌≡◌, ℕ, ◌<◌, ◌≤◌, List, length, get_or, refl, sym, ap, ◌∙◌, subst, arith, Option, Some, None}
use Rattle.std.proofs.lemmas.Bool.{cases_eq}
use Rattle.joint_ops.specs.ps_outside.Outside.{Outside}
use Rattle.joint_ops.specs.obj_layout.Stored.{Space}
use Rattle.joint_ops.specs.obj_layout.declared.kind.Kind.TheVariants as kind
use Rattle.joint_ops.specs.obj_layout.declared.reference.Reference.{Reference}
use Rattle.joint_ops.specs.swizzle.Heap as area
use Rattle.joint_ops.specs.swizzle.Heap.{IsHeap, IsHeld, IsListed, header_at, num_at}
use Rattle.joint_ops.specs.swizzle.Joint.{Shown, name_at, shown_at}
use Rattle.swizzle.proofs.NameLaws.{name-pid}
use Rattle.joint_ops.specs.World.{IsStored, seen}
use Rattle.joint_ops.proofs.SeenLaws.{seen-is}
use Rattle.joint_ops.specs.heap_places.Shapes.{slot_of}
use Rattle.joint_ops.specs.heap_meaning.avl_trees.Trees.{items}
use Rattle.joint_ops.specs.heap_meaning.avl_trees.Standing.{root_of}
use Rattle.joint_ops.specs.heap_meaning.node_rows.Nodes.{IsAmong, link_of}
use Rattle.joint_ops.specs.heap_meaning.Tables.{names_of}
use Rattle.joint_ops.specs.heap_meaning.Standing.{Seen, IsOne, IsLike}
use Rattle.joint_ops.specs.heap_meaning.Paired.{paired}
use Rattle.joint_ops.specs.ps_heap.Held.{Held}
use Rattle.joint_ops.specs.ps_heap.Commit.{loose}
use Rattle.reaching.specs.Reaching.{IsIn, at_start, by_step}
use Rattle.reaching.specs.Refined.{Through, straight, over, IsHidden}
use Rattle.commit_walk.specs.Walk.{Goes, May, IsAt, Finds}
use Rattle.commit_walk.specs.Homes.{source_at}
use Rattle.commit_walk.specs.declared.homes.Source.{Source}
use Rattle.commit_walk.proofs.FromLaws.{index-in, in-index}
use Rattle.reach_commit.specs.Deciding.{AreWritable}
use Rattle.reach_commit.specs.Becoming.{with_directory, IsReached}
use Rattle.joint_held.specs.Held.{IsOf, IsNoted, IsNodeOf, HoldsRun}
use Rattle.joint_reach.specs.Meets.{IsToBeStored, MeetsNodes}
use Rattle.joint_reach.proofs.Tied.{IsChanged}
use Rattle.joint_reach.proofs.SeenLaws.{ids_in, goes-named, pid-some}
use Rattle.joint_reach.proofs.TreeLaws.{tree-at}
use Rattle.joint_reach.proofs.MeetLaws.{IsObjectKind, Status, is_text, is_code, is_closure, is_node, code-kind, root-node, node-way, table-root, first, step}
use Rattle.joint_reach.proofs.TiedLaws.{texts, tied}
use Rattle.joint_reach.proofs.SourceLaws.{listed-in, one-object, object-kind, object-home}
use Rattle.joint_reach.proofs.ReachLaws.{left-source, last-source, Entry, entry_text, entry_root, entry-of, IsFoundBy, found-step, directory-is, directory-held, found-in, in-found}

module _ (here : area.Heap) (outside : Outside Space) (names : List Reference) (writing : List Source) (directory : Option ℕ) (h : Held) (sound : IsHeap here) (one : IsOne (seen here outside))
    (run : HoldsRun here outside names writing directory h) (writable : AreWritable here writing) where
  abbrev S : Seen
  S = seen here outside

  abbrev Nodes : ℕ → List Reference
  Nodes = run.world.row.stands.tables.nodes

  abbrev Free : ℕ → Type 0
  Free i = IsIn i (loose h)

  abbrev Way : ℕ → ℕ → Type 0
  Way x y = Through (Goes here) (May here) (IsHidden (IsOf here names)) x y

  abbrev NodeHere : ℕ → Type 0
  NodeHere x = IsNodeOf here h.objects names Nodes x

  abbrev tied_here : Rattle.joint_reach.proofs.Tied.IsTied here (IsStored outside) h.objects names (λ i. IsIn i (loose h))
  tied_here = tied here outside names writing directory h sound one run

  -- The table of a changed node lies in the area, and a way leads from it to the node.
  record TableOf (x : ℕ) (m : Reference) (id : ℕ) : Type 0 where
    at : ℕ
    is : IsOf here names at id
    name : name_at here at ≡ m
    why : ((header_at here at).pid ≡ 0) ⊎ IsListed at here.assigned
    way : Way at x
    stored : 1 ≤ (header_at here x).pid → 1 ≤ (header_at here at).pid

  table-of : (x : ℕ) → IsHeld here x → (n : NodeHere x) → ((header_at here x).pid ≡ 0) ⊎ IsListed x here.assigned → TableOf x n.name n.id
  table-of x held n why =
      let tab = run.world.row.stands.tables.each n.name n.id n.table n.named n.table_is in
      let w = tree-at S (paired names) n.name (name_at here x) n.table (Nodes n.id) tab n.among in
      let tree = run.trees n.name n.id n.table tab.it w.ks w.tree n.named n.table_is w.keyed tab.there w.root w.stands in
      let among : IsAmong (name_at here x) (names_of (items w.tree)) = subst (IsAmong (name_at here x)) w.nodes_are n.among in
      let c : IsChanged here w.item.name (shown_at here x) = record { at = x; held = held; name = w.name; shown = refl; why = why } in
      let top = tree.top (record { at = x; held = held; among = among; why = why }) in
      let named : name_at here top.at ≡ n.name = elim top.among [ inl e ↦ e | inr b ↦ absurd b ] in
      let same : tab.it ≡ shown_at here top.at = seen-is here outside top.at n.name tab.it sound top.held named tab.there in
      let root : link_of (slot_of (shown_at here top.at) 0) ≡ root_of w.tree = subst (λ (s : Shown). link_of (slot_of s 0) ≡ root_of w.tree) same w.root in
      let some : 0 < length (shown_at here top.at).refs = subst (λ (s : Shown). 0 < length s.refs) same (let long = ap length tab.refs in omega (arith, long)) in
      record {
        at = top.at;
        is = record { held = top.held; named = n.named ∙ ap Some (sym named) };
        name = named;
        why = top.why;
        way = node-way here (IsStored outside) h.objects names Free tied_here top.at w.ks w.tree w.item (shown_at here x)
            (table-root here (IsStored outside) h.objects names Free tied_here top.at w.ks w.tree top.held some root w.stands) w.stands tree.hung w.among c;
        stored = λ low.
            let p = tree.stored (header_at here x).pid (subst (λ m. IsAmong m (names_of (items w.tree))) (name-pid (header_at here x) x low) among) in
            pid-some here top.at p.0 (named ∙ p.1);
      }

  -- What lies on a way from an assigned object, or from one that is reached, is reached.

  source-way : (place x y : ℕ) → IsIn x here.assigned → IsAt here (source_at writing place).number x → Way x y → Finds here (source_at writing place).number (source_at writing place).root y
  source-way place x y l at (straight w goes may) =
      let i = in-index here.assigned x l in
      at_start y (inr (record { place = i.place; below = i.below; at = subst (IsAt here (source_at writing place).number) (sym i.is) at; goes = subst (λ z. Goes here z y) (sym i.is) goes })) may
  source-way place x y l at (over z w before hidden goes may) = by_step z y (source-way place x z l at before) goes may

  found-way : (x y : ℕ) → IsFoundBy here outside names writing directory h sound one run writable x → Way x y → IsFoundBy here outside names writing directory h sound one run writable y
  found-way x y f (straight w goes may) = found-step here outside names writing directory h sound one run writable x y f goes may
  found-way x y f (over z w before hidden goes may) = found-step here outside names writing directory h sound one run writable z y (found-way x z f before) goes may

  assigned-way : (x y i : ℕ) → IsOf here names x i → 1 ≤ (header_at here x).pid → IsListed x here.assigned → Way x y → IsReached here writing directory y
  assigned-way x y i p some l way =
      let listed = listed-in x here.assigned l in
      let home = object-home here outside names writing directory h sound one run x i p in
      let w = writable x (record { listed = listed; homed = record { stored = some; kind = home } }) in
      let at : IsAt here (source_at writing w.place).number x = record { stored = some; kind = home; home = sym w.is } in
      found-in here outside names writing directory h sound one run writable y (record { place = w.place; below = w.below; finds = source-way w.place x y listed at way })

  stored-way : (x y i : ℕ) → IsOf here names x i → 1 ≤ (header_at here x).pid → ((header_at here x).pid ≡ 0) ⊎ IsListed x here.assigned → Way x y → IsReached here writing directory y
  stored-way x y i p some (inl none) way = absurd (omega (arith, none, some))
  stored-way x y i p some (inr l) way = assigned-way x y i p some l way

  noted : (x : ℕ) → IsHeld here x → NodeHere x → IsNoted here x → IsReached here writing directory x
  noted x held n k =
      let t = table-of x held n (inr k.listed) in
      stored-way t.at x n.id t.is (t.stored k.stored) t.why t.way

  fresh : (x : ℕ) → IsHeld here x → (n : NodeHere x) → IsToBeStored here names writing directory n.name n.id → (header_at here x).pid ≡ 0 → IsReached here writing directory x
  fresh x held n (inl pid) none =
      let t = table-of x held n (inl none) in
      stored-way t.at x n.id t.is (pid-some here t.at pid.0 (t.name ∙ pid.1)) t.why t.way
  fresh x held n (inr t0) none =
      let t = table-of x held n (inl none) in
      let same = one-object here outside names writing directory h sound one run t0.0 t.at n.id t0.1 t.is in
      let reached = subst (IsReached here writing directory) same t0.2 in
      found-in here outside names writing directory h sound one run writable x (found-way t.at x (in-found here outside names writing directory h sound one run writable t.at n.id t.is reached) t.way)

  -- Where the walk comes from: the directory, an object with an id, or what one of these refers to, which is stored or reached.

  data Comes (y : ℕ) : Type 0 where
    is_directory : (is : directory ≡ Some y) → Comes y
    comes_text : (held : IsHeld here y) (is : (header_at here y).kind ≡ kind.Text) → Comes y
    comes_object : (i : ℕ) (is : IsOf here names y i) → Comes y
    comes_part : (m : Reference) (id : ℕ) (ids : List ℕ) (named : paired names m id) (to : IsToBeStored here names writing directory m id) (held : IsHeld here y)
        (status : Status S (paired names) (name_at here y) ids (Nodes id)) → Comes y

  from-object : (x i y : ℕ) → IsOf here names x i → IsToBeStored here names writing directory (name_at here x) i → Goes here x y → Comes y
  from-object x i y p to goes =
      let b = run.world.row.stands.both (name_at here x) i p.named in
      let like = subst (λ (s : Shown). IsLike S (paired names) s b.object) (seen-is here outside x (name_at here x) b.it sound p.held refl b.there) b.like in
      elim (first here (IsStored outside) h.objects names Free tied_here x i y b.object p.held p.named b.means like (goes-named here x y sound p.held goes)) [
        | inl s ↦ comes_part (name_at here x) i (ids_in b.object) p.named to goes.names.held s
        | inr o ↦ comes_object o.id (record { held = goes.names.held; named = o.is })
      ]

  from-name : (y : ℕ) → IsHeld here y → Entry S (paired names) (name_at here y) 1 h.directory → Comes y
  from-name y held (entry_text bytes is) = comes_text held (ap (λ (s : Shown). s.kind) (sym (seen-is here outside y (name_at here y) is.it sound held refl is.there)) ∙ is.kind)
  from-name y held (entry_root number d is goes) = comes_object d.root (record { held = held; named = goes })

  from-part : (x y : ℕ) (m : Reference) (id : ℕ) (ids : List ℕ) → paired names m id → IsToBeStored here names writing directory m id → IsHeld here x
      → Status S (paired names) (name_at here x) ids (Nodes id) → Goes here x y → Comes y
  from-part x y m id ids named to held status goes =
      elim (step here (IsStored outside) h.objects names Free tied_here x y ids (Nodes id) held status (goes-named here x y sound held goes)) [
        | inl s ↦ comes_part m id ids named to goes.names.held s
        | inr o ↦ comes_object o.id (record { held = goes.names.held; named = o.is })
      ]

  comes : (number : ℕ) (root : Option ℕ) → ((z : ℕ) → root ≡ Some z → (directory ≡ Some z) ⊎ ((i : ℕ) × IsOf here names z i)) → ((z : ℕ) → Finds here number root z → IsReached here writing directory z)
      → (y : ℕ) → Finds here number root y → Comes y
  comes number root roots reach y (at_start z (inl e) may) = elim (roots y e) [ inl d ↦ is_directory d | inr p ↦ comes_object p.0 p.1 ]
  comes number root roots reach y (at_start z (inr s) may) =
      let x = get_or here.assigned s.place 0 in
      let k = run.assigned.known x (record { stored = s.at.stored; listed = Rattle.commit_walk.proofs.SteadyLaws.in-listed x here.assigned (index-in here.assigned s.place s.below) }) s.at.kind in
      from-object x k.0 y k.1 (inl ((header_at here x).pid, name-pid (header_at here x) x s.at.stored)) s.goes
  comes number root roots reach y (by_step x z before goes may) = go (comes number root roots reach x before)
    where
      go : Comes x → Comes y
      go (is_directory e) =
          let held = directory-held here outside names writing directory h sound one run writable x e in
          from-name y goes.names.held
          (entry-of S (paired names) (shown_at here x).refs h.directory 1 (name_at here y) (directory-is here outside names writing directory h sound one run writable x e).names (goes-named here x y sound held goes))
      go (comes_text held is) = absurd (texts here outside names writing directory h sound one run x (name_at here y) held is (goes-named here x y sound held goes))
      go (comes_object i p) = from-object x i y p (inr (x, p, reach x before)) goes
      go (comes_part m id ids named to held status) = from-part x y m id ids named to held status goes

  comes-reached : (y : ℕ) → IsReached here writing directory y → Comes y
  comes-reached y f =
      elim (cases_eq f.place (length writing)) [
        | inr ne ↦
            let below = f.below in
            let lt : f.place < length writing = omega (arith, below, ne) in
            let s = source_at writing f.place in
            let finds = subst (λ (w : Source). Finds here w.number w.root y) (left-source writing directory f.place lt) f.finds in
            comes s.number s.root
            (λ z e. let m = (run.sources.each f.place lt).made z e in inr (m.1.database.root, m.1.root))
            (λ z k. found-in here outside names writing directory h sound one run writable z (record { place = f.place; below = lt; finds = k }))
            y finds
        | inl e ↦
            let is : source_at (with_directory writing directory) f.place ≡ record { number = 0; root = directory } = ap (source_at (with_directory writing directory)) e ∙ last-source writing directory in
            comes 0 directory (λ z d. inl d)
            (λ z k. record { place = f.place; below = f.below; finds = subst (λ (w : Source). Finds here w.number w.root z) (sym is) k })
            y (subst (λ (w : Source). Finds here w.number w.root y) is f.finds)
      ]

  up : (x : ℕ) → IsReached here writing directory x → (n : NodeHere x) → IsToBeStored here names writing directory n.name n.id
  up x reached n = go (comes-reached x reached)
    where
      node_kind : (header_at here x).kind ≡ kind.Node → Comes x → IsToBeStored here names writing directory n.name n.id
      node_kind is (is_directory e) =
          let bad : kind.Node ≡ kind.Directory = sym is ∙ (directory-is here outside names writing directory h sound one run writable x e).kind_is in
          absurd (cc)
      node_kind is (comes_text held text) = let bad : kind.Node ≡ kind.Text = sym is ∙ text in absurd (cc)
      node_kind is (comes_object i p) = absurd (subst IsObjectKind is (object-kind here outside names writing directory h sound one run x i p))
      node_kind is (comes_part m id ids named to held (is_text t)) =
          let bad : kind.Node ≡ kind.Text = sym is ∙ (ap (λ (s : Shown). s.kind) (sym (seen-is here outside x (name_at here x) t.it sound held refl t.there)) ∙ t.kind_is) in
          absurd (cc)
      node_kind is (comes_part m id ids named to held (is_code u c)) =
          let k = code-kind S (name_at here x) u c in
          let bad : kind.Node ≡ kind.Code = sym is ∙ (ap (λ (s : Shown). s.kind) (sym (seen-is here outside x (name_at here x) k.0 sound held refl k.1)) ∙ k.2) in
          absurd (cc)
      node_kind is (comes_part m id ids named to held (is_closure c)) =
          let bad : kind.Node ≡ kind.Closure = sym is ∙ (ap (λ (s : Shown). s.kind) (sym (seen-is here outside x (name_at here x) c.it sound held refl c.there)) ∙ c.is.kind_is) in
          absurd (cc)
      node_kind is (comes_part m id ids named to held (is_node nd)) =
          let among : IsAmong (name_at here x) (Nodes id) = nd.within (name_at here x) (root-node S (paired names) (name_at here x) ids (Nodes id) nd) in
          let same : id ≡ n.id = run.world.row.stands.tables.apart id n.id (name_at here x) among n.among in
          let name_same : m ≡ n.name = run.world.row.stands.one_name m n.name n.id (subst (paired names m) same named) n.named in
          subst (λ i. IsToBeStored here names writing directory n.name i) same (subst (λ k. IsToBeStored here names writing directory k id) name_same to)

      go : Comes x → IsToBeStored here names writing directory n.name n.id
      go c =
          let k = run.world.row.stands.tables.are_nodes n.id (name_at here x) n.among in
          node_kind (ap (λ (s : Shown). s.kind) (sym (kind_here k.it k.there (area.found here x) refl)) ∙ k.kind_is) c
        where
          kind_here : (it : Shown) → S (name_at here x) it → (r : Option Rattle.joint_ops.specs.swizzle.Objects.Object) → area.found here x ≡ r → it ≡ shown_at here x
          kind_here it there (Some o) is = seen-is here outside x (name_at here x) it sound (record { object = o; is = is }) refl there
          kind_here it there None is = absurd (unheld (comes-held c) is)
            where
              unheld : IsHeld here x → area.found here x ≡ None → ⊥
              unheld held none = let bad : None ≡ Some held.object = sym none ∙ held.is in absurd (cc)

              comes-held : Comes x → IsHeld here x
              comes-held (is_directory e) = directory-held here outside names writing directory h sound one run writable x e
              comes-held (comes_text held text) = held
              comes-held (comes_object i p) = p.held
              comes-held (comes_part m id ids named to held s) = held

  pub meets-nodes : MeetsNodes here h.objects names writing directory Nodes
  meets-nodes = record { noted = noted; fresh = fresh; up = λ x reached n none. up x reached n }
