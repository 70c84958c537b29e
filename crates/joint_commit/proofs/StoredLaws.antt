-- What is seen of area and vault under PIDs after a commit is seen in each space that the vault holds.
use Rattle.std.proofs.Common.{true, inl, inr, ◌⊎◌, ◌≡◌, ◌≢◌, ℕ, ℤ, zero, suc, ◌≤◌, List, [], ◌∷◌, map, get_or, refl, sym, ap, ◌∙◌, subst, arith, Option, Some, None, IfSome}
use Rattle.std.specs.Prelude.{unwrap_or}
use Rattle.swizzle.specs.obj_layout.ps_outside.Outside.{Outside}
use Rattle.swizzle.specs.obj_layout.declared.kind.Kind.TheVariants.{Node}
use Rattle.swizzle.specs.obj_layout.declared.reference.Reference.{Reference}
use Rattle.swizzle.specs.obj_layout.declared.reference.Reference.TheVariants.{Nil, Pid, Local}
use Rattle.swizzle.specs.obj_layout.Stored.{Space, without_file}
use Rattle.swizzle.specs.obj_layout.Storing.{Becomes}
use Rattle.swizzle.proofs.of_obj_layout.StoredLaws.{HasObject-within}
use Rattle.swizzle.specs.Heap.{Heap, IsHeap, IsHeld, IsListed, found, object_at, header_at}
use Rattle.swizzle.specs.Joint.{Shown, name_at, shown_at, shown_words}
use Rattle.swizzle.specs.Changes.{IsKnown}
use Rattle.swizzle.proofs.NameLaws.{name-pid, name-none}
use Rattle.reaching.specs.Reaching.{IsIn}
use Rattle.commit_walk.specs.Walk.{has_home}
use Rattle.commit_walk.specs.declared.homes.Source.{Source}
use Rattle.commit_walk.proofs.AllLaws.{listed-or}
use Rattle.commit_walk.proofs.SteadyLaws.{in-listed}
use Rattle.heap_meaning.specs.heap_places.Shapes.{slot_of}
use Rattle.heap_meaning.specs.node_rows.Keys.{by_ints as int_keys}
use Rattle.heap_meaning.specs.node_rows.Nodes.{IsAmong, link_of}
use Rattle.heap_meaning.specs.Paired.{paired, StandsRow}
use Rattle.heap_meaning.specs.ps_heap.Tables.{Entry, Table, by_ints}
use Rattle.heap_meaning.specs.ps_heap.Objects as meaning
use Rattle.heap_meaning.specs.ps_heap.Held.{Held}
use Rattle.renames.proofs.TableLaws.{among-moved}
use Rattle.joint_ops.specs.World.{IsStored, seen}
use Rattle.joint_ops.proofs.SeenLaws.{nil-unseen, seen-one}
use Rattle.commit_images.specs.Images.{image_of}
use Rattle.commit_images.specs.Saved.{saved}
use Rattle.reach_commit.specs.Becoming.{IsReached}
use Rattle.reach_commit.specs.Committing.{Commits, pid_of}
use Rattle.reach_commit.specs.Telling.{IsTold, Moved, Tells}
use Rattle.reach_commit.proofs.ReadyLaws.{none-or-some}
use Rattle.joint_held.specs.Held.{IsNodeOf, IsOfHeap, HoldsRun}
use Rattle.space_meaning.specs.Space.{SeenIn}
use Rattle.space_meaning.specs.Stands.{HaveNoKeyTexts}
use Rattle.space_meaning.specs.Keeping.{IsKept}
use Rattle.joint_reach.proofs.SourceLaws.{listed-in}
use Rattle.joint_reach.specs.Meets.{IsToBeStored, MeetsNodes}
use Rattle.joint_commit.proofs.SpaceLaws.{words-seen, object-seen}
use Rattle.joint_commit.proofs.NodeLaws.{now-refs, get-map, row-nodes}

-- what has a PID lies in the area
pub held-by_pid : (heap : Heap) (x : ℕ) → 1 ≤ (header_at heap x).pid → IsHeld heap x
held-by_pid heap x low = by (found heap x) refl low
  where
    by : (o : Option _) → found heap x ≡ o → 1 ≤ (unwrap_or o Rattle.swizzle.specs.Heap.nothing).header.pid → IsHeld heap x
    by (Some o) e l = record { object = o; is = e }
    by None e l = absurd (omega (arith, l))

-- an object with a PID for its name
pub record Named (heap : Heap) (x pid : ℕ) : Type 0 where
  pub low : 1 ≤ (header_at heap x).pid
  pub is : (header_at heap x).pid ≡ pid

pub pid-named : (heap : Heap) (x pid : ℕ) → Pid pid ≡ name_at heap x → Named heap x pid
pid-named heap x pid e = elim (none-or-some (header_at heap x).pid) [
  | inl none ↦ let bad : Pid pid ≡ Local x = e ∙ name-none (header_at heap x) x none in absurd (cc)
  | inr some ↦ let same : Pid pid ≡ Pid (header_at heap x).pid = e ∙ name-pid (header_at heap x) x some in record { low = some; is = cc }
]

-- a name of the row before
pub record NamedBefore (to : Reference → Reference) (names : List Reference) (n : Reference) (id : ℕ) : Type 0 where
  pub before : Reference
  pub is : paired names before id
  pub now : n ≡ to before

pub named-before : (to : Reference → Reference) (names : List Reference) (n : Reference) (id : ℕ) → paired (map to names) n id → NamedBefore to names n id
named-before to [] n id e = let none : None ≡ Some n = e in absurd (cc)
named-before to (m ∷ ms) n zero e = let same : to m ≡ n = cc in record { before = m; is = refl; now = sym same }
named-before to (m ∷ ms) n (suc id) e = let rest = named-before to ms n id e in record { before = rest.before; is = rest.is; now = rest.now }

-- A commit that stored, of a run that area and vault hold.
pub record Setting (old new : Heap) (before after : Outside Space) (names : List Reference) (writing : List Source) (directory : Option ℕ) (h : Held) : Type 0 where
  pub used : ℕ
  pub fresh : List ℕ
  pub changed : List ℕ
  pub sound : IsHeap old
  pub good : IsHeap new
  pub only : (a b : Space) → before.contents a → before.contents b → a ≡ b
  pub one : (a b : Space) → after.contents a → after.contents b → a ≡ b
  pub given : IfSome directory (IsHeld old)
  pub holds : HoldsRun old before names writing directory h
  pub commits : Commits old new writing directory used fresh changed
  pub becomes : Becomes before after (saved new fresh changed (pid_of new directory))
  pub tells : Tells old new before after fresh changed (pid_of new directory)
  pub meets : MeetsNodes old h.objects names writing directory holds.world.row.stands.tables.nodes

module _ (old new : Heap) (before after : Outside Space) (names : List Reference) (writing : List Source) (directory : Option ℕ) (h : Held)
    (s : Setting old new before after names writing directory h) where
  pub told : IsTold old before
  told = s.holds.current.told

  abbrev pub moved : Moved old new before after
  moved = s.tells.moved s.holds.current.told

  abbrev pub to : Reference → Reference
  to = moved.to

  -- the row of names afterwards
  abbrev pub row : StandsRow (seen new after) h.objects (map to names)
  row = (moved.world h.objects names s.holds.world).row

  -- what was stored now has a PID
  pub fresh-pid : (x : ℕ) → IsIn x s.fresh ⊎ IsIn x s.changed → 1 ≤ (header_at new x).pid
  fresh-pid x l =
      let t = s.holds.current.told in
      let space = t.content in
      let k = s.tells.stores t space t.is in
      (HasObject-within _ (header_at new x).pid (image_of new x) (k.here x l)).low

  -- An object of the area that has a PID has its present words on the vault, unless it is a node that was taken out of its table.
  pub stored-now : (x : ℕ) → IsHeld new x → 1 ≤ (header_at new x).pid → IsOfHeap old h.objects names s.holds.world.row.stands.tables.nodes x
      → IsStored after (header_at new x).pid (image_of new x)
  stored-now x held low of =
      let t = s.holds.current.told in
      let c = s.commits in
      let was_held = c.remains.back x held in
      elim (listed-or x s.fresh) [
        | inl l ↦ s.tells.kept t x held low (inl (inl l))
        | inr away ↦
            let pid : (header_at new x).pid ≡ (header_at old x).pid = c.unstored x away in
            let was_low : 1 ≤ (header_at old x).pid = omega (arith, pid, low) in
            elim (listed-or x s.changed) [
              | inl l ↦ s.tells.kept t x held low (inl (inr l))
              | inr unchanged ↦ elim (listed-or x old.assigned) [
                | inr free ↦ s.tells.kept t x held low (inr (s.holds.current.stored x was_held was_low (λ l. free (listed-in x old.assigned l)) of))
                | inl l ↦ absurd (unchanged (c.changed_all x (record { assigned = l; stored = was_low; kind = changes x was_held was_low l of })))
              ]
            ]
      ]
    where
      changes : (x : ℕ) → IsHeld old x → 1 ≤ (header_at old x).pid → IsIn x old.assigned → IsOfHeap old h.objects names s.holds.world.row.stands.tables.nodes x
          → (has_home (header_at old x) ≡ true) ⊎ (((header_at old x).kind ≡ Node) × IsReached old writing directory x)
      changes x was low l of =
          elim (s.holds.current.noted x (in-listed x old.assigned l)) [
            | inl home ↦ inl home
            | inr node ↦ elim of [
              | inl other ↦ absurd (other node)
              | inr is ↦ inr (node, s.meets.noted x was is (record { stored = low; listed = in-listed x old.assigned l }))
            ]
          ]

  -- a table that has a PID afterwards was stored, or was reached
  pub to-be-stored : (n : Reference) (id pid : ℕ) → paired names n id → to n ≡ Pid pid → IsToBeStored old names writing directory n id
  to-be-stored n id pid p e =
      let b = s.holds.world.row.stands.both n id p in
      by b.it b.there
    where
      here : (y : ℕ) → IsHeld old y → n ≡ name_at old y → IsToBeStored old names writing directory n id
      here y held name = elim (none-or-some (header_at old y).pid) [
        | inr some ↦ inl ((header_at old y).pid, name ∙ name-pid (header_at old y) y some)
        | inl none ↦
            let new_name : Pid pid ≡ name_at new y = sym e ∙ (ap to name ∙ sym (moved.index y)) in
            let low = (pid-named new y pid new_name).low in
            elim (listed-or y s.fresh) [
              | inl l ↦ inr (y, record { held = held; named = subst (λ (m : Reference). paired names m id) name p }, (s.commits.fresh_only y l).0)
              | inr away ↦ let same = s.commits.unstored y away in absurd (omega (arith, same, none, low))
            ]
      ]

      by : (it : Shown) → seen old before n it → IsToBeStored old names writing directory n id
      by it (inl a) = here a.at a.held a.name_is
      by it (inr v) = inl (v.pid, v.name_is)

  -- a node of such a table that lies in the area has a PID too
  pub node-pid : (x : ℕ) → IsHeld old x → (node : IsNodeOf old h.objects names s.holds.world.row.stands.tables.nodes x) → IsToBeStored old names writing directory node.name node.id
      → 1 ≤ (header_at new x).pid
  node-pid x held node stored = elim (none-or-some (header_at old x).pid) [
    | inr some ↦ let same = s.commits.remains.pids x some in omega (arith, same, some)
    | inl none ↦ fresh-pid x (inl (s.commits.fresh_all x (s.meets.fresh x held node stored none) none))
  ]

  -- a node of a table that lies in the area was one of it before
  pub among-back : (x : ℕ) → IsHeld new x → (n : Reference) (id : ℕ) (table : Table) → paired names n id → meaning.object_at h.objects id ≡ Some (meaning.Keyed table)
      → IsAmong (name_at new x) (row.stands.tables.nodes id) → IsAmong (name_at old x) (s.holds.world.row.stands.tables.nodes id)
  among-back x held n id table p is among =
      let r0 = s.holds.world.row in
      let same = row-nodes (seen old before) (seen new after) to moved.moves (seen-one new after s.good s.one) (nil-unseen new after) h.objects names r0 row n id table p is in
      let m = among-moved to (name_at new x) (r0.stands.tables.nodes id) (subst (IsAmong (name_at new x)) same among) in
      let k = r0.stands.tables.are_nodes id m.before m.is in
      let was = s.commits.remains.back x held in
      let known : IsKnown (seen old before) (name_at old x) = record { it = shown_at old x; is = inl (record { at = x; held = was; name_is = refl; shown_is = refl }) } in
      let name : name_at old x ≡ m.before =
      moved.moves.one (name_at old x) m.before known (record { it = k.it; is = k.there }) (sym (moved.index x) ∙ m.now) in
      subst (λ (r : Reference). IsAmong r (r0.stands.tables.nodes id)) (sym name) m.is

  -- the nodes of a table with int keys name no key text, as before
  plain-now : (pid id : ℕ) (entries : List (Entry ℤ)) → paired (map to names) (Pid pid) id → meaning.object_at h.objects id ≡ Some (meaning.Keyed (by_ints entries))
      → HaveNoKeyTexts (seen new after) (row.stands.tables.nodes id)
  plain-now pid id entries p is m it among there =
      let r0 = s.holds.world.row in
      let b = named-before to names (Pid pid) id p in
      let own = r0.stands.tables.each b.before id (by_ints entries) b.is is in
      let slot : slot_of own.it 0 ≡ own.root = ap (λ (rs : List Reference). get_or rs 0 Nil) own.refs in
      let tree = s.holds.trees b.before id (by_ints entries) own.it int_keys own.has.tree b.is is tt own.there (ap link_of slot ∙ own.has.root_is) own.has.stands in
      let nodes = row-nodes (seen old before) (seen new after) to moved.moves (seen-one new after s.good s.one) (nil-unseen new after) h.objects names r0 row b.before id (by_ints entries) b.is is in
      let was = among-moved to m (r0.stands.tables.nodes id) (subst (IsAmong m) nodes among) in
      let k = r0.stands.tables.are_nodes id was.before was.is in
      let w = moved.moves.forth was.before k.it k.there in
      let same : it ≡ w.now = seen-one new after s.good s.one m it w.now there (subst (λ (r : Reference). seen new after r w.now) (sym was.now) w.there) in
      let refs : it.refs ≡ map to k.it.refs = ap (λ (x : Shown). x.refs) same ∙ now-refs (seen new after) to (to was.before) k.it w in
      let none : slot_of k.it 2 ≡ Nil = tree.plain was.before k.it (subst (IsAmong was.before) own.has.nodes_are was.is) k.there in
      ap (λ (rs : List Reference). get_or rs 2 Nil) refs ∙ (get-map to k.it.refs 2 moved.moves.nil ∙ (ap to none ∙ moved.moves.nil))

  module _ (space : Space) (is : after.contents space) where
    abbrev there : Space
    there = without_file space

    -- of the area
    area-kept : (x : ℕ) (n : Reference) (it : Shown) → IsHeld new x → 1 ≤ (header_at new x).pid → n ≡ name_at new x → it ≡ shown_at new x
        → IsOfHeap old h.objects names s.holds.world.row.stands.tables.nodes x → SeenIn (without_file space) n it
    area-kept x n it held low name shown of =
        subst (λ (m : Reference). SeenIn (without_file space) m it) (sym (name ∙ name-pid (header_at new x) x low))
        (subst (SeenIn (without_file space) (Pid (header_at new x).pid)) (sym shown) (object-seen after space is s.one new x s.good held (stored-now x held low of)))

    -- of the vault
    vault-kept : (pid : ℕ) (words : List ℕ) (n : Reference) (it : Shown) → n ≡ Pid pid → IsStored after pid words → it ≡ shown_words words → SeenIn (without_file space) n it
    vault-kept pid words n it name k shown =
        subst (λ (m : Reference). SeenIn (without_file space) m it) (sym name)
        (subst (SeenIn (without_file space) (Pid pid)) (sym shown) (words-seen after space is s.one pid words k))

    pub things-kept : (pid : ℕ) (it : Shown) → seen new after (Pid pid) it → it.kind ≢ Node → SeenIn (without_file space) (Pid pid) it
    things-kept pid it (inl a) other =
        let p = pid-named new a.at pid a.name_is in
        let kind : (header_at old a.at).kind ≢ Node = λ e. other (ap (λ (x : Shown). x.kind) a.shown_is ∙ (s.commits.remains.kind a.at ∙ e)) in
        area-kept a.at (Pid pid) it a.held p.low a.name_is a.shown_is (inl kind)
    things-kept pid it (inr v) other = vault-kept v.pid v.words (Pid pid) it v.name_is v.there v.shown_is

    pub nodes-kept : (pid id : ℕ) (table : Table) → paired (map to names) (Pid pid) id → meaning.object_at h.objects id ≡ Some (meaning.Keyed table) → (n : Reference)
        → IsAmong n (row.stands.tables.nodes id) → (it : Shown) → seen new after n it → SeenIn (without_file space) n it
    nodes-kept pid id table p table_is n among it (inr v) = vault-kept v.pid v.words n it v.name_is v.there v.shown_is
    nodes-kept pid id table p table_is n among it (inl a) =
        let b = named-before to names (Pid pid) id p in
        let node : IsNodeOf old h.objects names s.holds.world.row.stands.tables.nodes a.at = record {
          name = b.before;
          id = id;
          named = b.is;
          table = table;
          table_is = table_is;
          among = among-back a.at a.held b.before id table b.is table_is (subst (λ (m : Reference). IsAmong m (row.stands.tables.nodes id)) a.name_is among);
        } in
        area-kept a.at n it a.held (node-pid a.at (s.commits.remains.back a.at a.held) node (to-be-stored b.before id pid b.is (sym b.now))) a.name_is a.shown_is (inr node)

    pub space-keeps : IsKept (seen new after) (without_file space) h.objects (map to names) row.stands.tables.nodes
    space-keeps = record { nil = nil-unseen new after; things = things-kept; in_tables = nodes-kept; plain = plain-now }
