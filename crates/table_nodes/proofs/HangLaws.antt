-- Nodes hang together still, one step after another.
use Rattle.std.proofs.Common.{◌≡◌, ◌≢◌, ◌⊎◌, ℕ, List, [], ◌∷◌, refl, sym, ap, ◌∙◌, subst, inl, inr}
use Rattle.std.specs.List.{AllByRecursion}
use Rattle.heap_places.specs.ps_outside.Outside.{Outside}
use Rattle.heap_places.specs.obj_layout.Stored.{Space}
use Rattle.heap_places.specs.obj_layout.declared.reference.Reference.{Reference}
use Rattle.heap_places.specs.obj_layout.declared.reference.Reference.TheVariants.{Pid, Local}
use Rattle.heap_places.specs.swizzle.Heap.{Heap, IsHeap, IsHeld, IsListed, header_at}
use Rattle.heap_places.specs.swizzle.Joint.{Shown, name_at}
use Rattle.heap_places.specs.swizzle.Reading.{joint}
use Rattle.heap_places.specs.swizzle.Touch.{Keeps}
use Rattle.heap_places.proofs.of_swizzle.NameLaws.{name_at-injective, name-none, not_away, pid_in}
use Rattle.avl_trees.specs.Trees.{Tree, leaf, node, items}
use Rattle.avl_trees.specs.Standing.{Item, Given, Has, IsApart, IsRising, Stands, row_of, under}
use Rattle.avl_trees.proofs.Ordered.{all_back, all_front, around}
use Rattle.avl_trees.proofs.Standing.{all_have, between}
use Rattle.node_rows.specs.Keys.{Keys, order_by}
use Rattle.node_rows.specs.Nodes.{I}
use Rattle.table_nodes.specs.Hanging.{HasChanged, AreHung, Hangs}
use Rattle.table_nodes.specs.Nodes.{IsChanged, IsHere, IsNode, IsSteady}
use Rattle.table_nodes.specs.Steps.{Place, IsPlace, Touches, rows_of}
use Rattle.table_nodes.proofs.FetchLaws.{pid_named}
use Rattle.table_nodes.proofs.KeyLaws.{total}
use Rattle.table_nodes.proofs.SeenLaws.{seen_joint}
use Rattle.table_nodes.proofs.StepLaws.{one}

-- What was seen has changed only where it had, where objects of the area stay and none is noted.
pub keeps_steady : (old new : Heap) (outside : Outside Space) → IsHeap old → IsHeap new → Keeps old new → (n : Reference) (it : Shown) → joint old outside n it → IsChanged new n → IsChanged old n
unfolding pid_in
keeps_steady old new outside h now keeps n it (inl k) c =
    let s = keeps.objects k.at k.held in
    let same = name_at-injective new c.at k.at now c.named.node.held s.held (c.named.name ∙ (k.name_is ∙ sym s.name)) in
    let is = subst (IsNode new) same c.named.node in
    let pids : (header_at new k.at).pid ≡ (header_at old k.at).pid = sym (pid_named new k.at) ∙ (ap pid_in s.name ∙ pid_named old k.at) in
    record {
      at = k.at;
      named = record { node = record { held = k.held; kind = sym (ap (λ (x : Shown). x.kind) s.shown_as) ∙ is.kind; refs = sym s.refs ∙ is.refs; nums = sym s.nums ∙ is.nums }; name = sym k.name_is };
      why = elim (subst (λ i. ((header_at new i).pid ≡ 0) ⊎ IsListed i new.assigned) same c.why) [ inl none ↦ inl (sym pids ∙ none) | inr l ↦ inr (subst (IsListed k.at) keeps.assigned l) ];
    }
keeps_steady old new outside h now keeps n it (inr v) c = absurd (go c.why)
  where
    go : ((header_at new c.at).pid ≡ 0) ⊎ IsListed c.at new.assigned → ⊥
    go (inl none) = let bad : Local c.at ≡ Pid v.pid = sym (name-none (header_at new c.at) c.at none) ∙ (c.named.name ∙ v.name_is) in absurd (cc)
    go (inr l) =
        let m = h.noted.marked c.at (subst (IsListed c.at) keeps.assigned l) in
        let held : IsHeld old c.at = record { object = m.object; is = m.is } in
        not_away old c.at v.pid h held (sym (sym (keeps.objects c.at held).name ∙ (c.named.name ∙ v.name_is))) v.away

-- Lists of items.

all_two : {A : Type 0} (P Q R : A → Type 0) → ((a : A) → P a → Q a → R a) → (xs : List A) → AllByRecursion P xs → AllByRecursion Q xs → AllByRecursion R xs
all_two P Q R f [] p q = tt
all_two P Q R f (x ∷ xs) p q = (f x p.0 q.0, all_two P Q R f xs p.1 q.1)

all_apart_none : {K : Type 0} (is : List (Item Reference K Reference)) → AllByRecursion (λ i. IsApart {N = Reference} {K = K} {V = Reference} i.name []) is
all_apart_none [] = tt
all_apart_none (i ∷ is) = (tt, all_apart_none is)

-- items are apart from those that are apart from them
pub all_apart : {K : Type 0} (ws is : List (Item Reference K Reference)) → AllByRecursion (λ w. IsApart w.name is) ws → AllByRecursion (λ i. IsApart i.name ws) is
all_apart [] is p = all_apart_none is
all_apart (w ∷ ws) is p = all_two (λ i. i.name ≢ w.name) (λ i. IsApart i.name ws) (λ i. IsApart i.name (w ∷ ws)) (λ i ne q. ((λ e. ne (sym e)), q)) is p.0 (all_apart ws is p.1)

-- Trees hang together still where their nodes haven't changed.

changed_back : {K : Type 0} (old new : Heap) (is : List (Item Reference K Reference)) → AllByRecursion (λ i. IsChanged new i.name → IsChanged old i.name) is → HasChanged new is → HasChanged old is
changed_back old new [] p c = c
changed_back old new (i ∷ is) p (inl c) = inl (p.0 c)
changed_back old new (i ∷ is) p (inr c) = inr (changed_back old new is p.1 c)

hung_kept : {K : Type 0} (old new : Heap) → ((n : Reference) → IsHere old n → IsHere new n) → (t : Tree (Item Reference K Reference)) → AllByRecursion (λ i. IsChanged new i.name → IsChanged old i.name) (items t)
    → AreHung old t → AreHung new t
hung_kept old new here leaf p h = tt
hung_kept old new here (node l a r) p h = (
  λ c. here a.name (h.0 (changed_back old new (items (node l a r)) p c)),
  hung_kept old new here l (all_front (λ i. IsChanged new i.name → IsChanged old i.name) (items l) (a ∷ items r) p) h.1,
  hung_kept old new here r (all_back (λ i. IsChanged new i.name → IsChanged old i.name) (items l) (a ∷ items r) p).1 h.2,
)

-- what is steady beside the nodes of these items
abbrev pub Steady : (ks : Keys) → Place → Place → List (I ks) → Type 0
Steady ks old new ws = (n : Reference) (it : Shown) → IsApart n ws → joint old.heap old.outside n it → IsChanged new.heap n → IsChanged old.heap n

pub hung_beside : (ks : Keys) (old new : Place) (ws : List (I ks)) → ((n : Reference) → IsHere old.heap n → IsHere new.heap n) → Steady ks old new ws → (t : Tree (I ks)) → Stands (rows_of ks old) t
    → AllByRecursion (λ i. IsApart i.name ws) (items t) → AreHung old.heap t → AreHung new.heap t
hung_beside ks old new ws here steady t s p h =
    hung_kept old.heap new.heap here t
    (all_two (λ i. IsApart i.name ws) (Has (rows_of ks old)) (λ i. IsChanged new.heap i.name → IsChanged old.heap i.name)
    (λ i beside has c. steady i.name has.there.it beside (seen_joint old.heap old.outside i.name has.there.it has.there.there) c) (items t) p (all_have (rows_of ks old) t s))
    h

-- over touches
pub here_touched : (old new : Place) → Touches old new → (n : Reference) → IsHere old.heap n → IsHere new.heap n
here_touched old new grows n k = record { at = k.at; named = grows.named k.at n k.named }

pub steady_touched : (old new : Place) → IsPlace old → Touches old new → (n : Reference) (it : Shown) → joint old.heap old.outside n it → IsChanged new.heap n → IsChanged old.heap n
steady_touched old new p grows n it k c = keeps_steady old.heap new.heap old.outside p.heap grows.heap grows.keeps n it k c

pub hung_touched : (ks : Keys) (old new : Place) → IsPlace old → Touches old new → (t : Tree (I ks)) → Stands (rows_of ks old) t → AreHung old.heap t → AreHung new.heap t
hung_touched ks old new p grows t s h = hung_beside ks old new [] (here_touched old new grows) (λ n it q k c. steady_touched old new p grows n it k c) t s (all_apart_none (items t)) h

pub hangs_touched : (ks : Keys) (old m new : Place) → IsPlace old → Touches old m → (before after : Tree (I ks)) → Stands (rows_of ks old) before → Hangs ks m.heap new.heap m.outside before after → Hangs ks old.heap new.heap old.outside before after
hangs_touched ks old m new p grows before after s w = record {
  here = λ n k. w.here n (here_touched old m grows n k);
  steady = λ n it q k c. steady_touched old m p grows n it k (w.steady n it q (grows.seen n it k) c);
  hung = λ h. w.hung (hung_touched ks old m p grows before s h);
}

-- nothing was done
pub hangs_part : (ks : Keys) (p : Place) (before after : Tree (I ks)) → (AreHung p.heap before → AreHung p.heap after) → Hangs ks p.heap p.heap p.outside before after
hangs_part ks p before after f = record { here = λ n k. k; steady = λ n it q k c. c; hung = f }

-- The names of the nodes of a tree are apart.

-- the name of an item is apart from those before it and from those behind it, and these from one another
pub record Parted {K : Type 0} (xs : List (Item Reference K Reference)) (a : Item Reference K Reference) (ys : List (Item Reference K Reference)) : Type 0 where
  pub left : IsApart a.name xs
  pub right : IsApart a.name ys
  pub across : AllByRecursion (λ x. IsApart x.name ys) xs
  pub back : AllByRecursion (λ y. IsApart y.name xs) ys

pub given_parted : (ks : Keys) (p : Place) → IsPlace p → (l : Tree (I ks)) (a : I ks) (r : Tree (I ks)) → Given (order_by ks) (rows_of ks p) l a r → Parted (items l) a (items r)
given_parted ks p h l a r g =
    let b = between (rows_of ks p) (one ks p h) (order_by ks) (total ks) (items l) a (items r) (all_have (rows_of ks p) l g.left) g.has (all_have (rows_of ks p) r g.right) g.rising in
    record { left = b.left; right = b.right; across = b.across; back = b.back }

pub tree_given : (ks : Keys) (p : Place) (l : Tree (I ks)) (a : I ks) (r : Tree (I ks)) → Stands (rows_of ks p) (node l a r) → IsRising (order_by ks) (node l a r) → Given (order_by ks) (rows_of ks p) l a r
tree_given ks p l a r s rising = record { left = s.1; has = record { row = row_of l a r; there = s.0; entry = refl }; right = s.2; rising = rising }

pub tree_parted : (ks : Keys) (p : Place) → IsPlace p → (l : Tree (I ks)) (a : I ks) (r : Tree (I ks)) → Stands (rows_of ks p) (node l a r) → IsRising (order_by ks) (node l a r) → Parted (items l) a (items r)
tree_parted ks p h l a r s rising = given_parted ks p h l a r (tree_given ks p l a r s rising)

-- A turn: the nodes that were written lie in the area, and what hangs below them is as it was.

module _ (ks : Keys) (old new : Place) (p : IsPlace old) (here : (n : Reference) → IsHere old.heap n → IsHere new.heap n) where
  -- a part of a tree that has none of the nodes that were written
  part_hung : (ws : List (I ks)) → Steady ks old new ws → (t : Tree (I ks)) → Stands (rows_of ks old) t → AllByRecursion (λ w. IsApart w.name (items t)) ws → AreHung old.heap t → AreHung new.heap t
  part_hung ws steady t s q h = hung_beside ks old new ws here steady t s (all_apart ws (items t) q) h

  pub plain_hung : (l : Tree (I ks)) (a : I ks) (r : Tree (I ks)) → Given (order_by ks) (rows_of ks old) l a r → Steady ks old new (a ∷ []) → IsHere new.heap a.name → AreHung old.heap (node l a r) → AreHung new.heap (node l a r)
  plain_hung l a r g steady ha h =
      let o = given_parted ks old p l a r g in
      ((λ c. ha), part_hung (a ∷ []) steady l g.left (o.left, tt) h.1, part_hung (a ∷ []) steady r g.right (o.right, tt) h.2)

  pub right_hung : (x : Tree (I ks)) (b : I ks) (y : Tree (I ks)) (a : I ks) (r : Tree (I ks)) → Given (order_by ks) (rows_of ks old) (node x b y) a r → Steady ks old new (a ∷ b ∷ []) → IsHere new.heap a.name → IsHere new.heap b.name
      → AreHung old.heap (node (node x b y) a r) → AreHung new.heap (node x b (node y a r))
  right_hung x b y a r g steady ha hb h =
      let o = given_parted ks old p (node x b y) a r g in
      let i = tree_parted ks old p x b y g.left (around (under (order_by ks)) (items (node x b y)) a (items r) g.rising).left in
      let back = all_back (λ z. z.name ≢ a.name) (items x) (b ∷ items y) o.left in
      let hx = part_hung (a ∷ b ∷ []) steady x g.left.1 (all_front (λ z. z.name ≢ a.name) (items x) (b ∷ items y) o.left, (i.left, tt)) h.1.1 in
      let hy = part_hung (a ∷ b ∷ []) steady y g.left.2 (back.1, (i.right, tt)) h.1.2 in
      let hr = part_hung (a ∷ b ∷ []) steady r g.right (o.right, ((all_back (λ z. IsApart z.name (items r)) (items x) (b ∷ items y) o.across).0, tt)) h.2 in
      ((λ c. hb), hx, ((λ c. ha), hy, hr))

  pub left_hung : (l : Tree (I ks)) (a : I ks) (x : Tree (I ks)) (b : I ks) (y : Tree (I ks)) → Given (order_by ks) (rows_of ks old) l a (node x b y) → Steady ks old new (a ∷ b ∷ []) → IsHere new.heap a.name → IsHere new.heap b.name
      → AreHung old.heap (node l a (node x b y)) → AreHung new.heap (node (node l a x) b y)
  left_hung l a x b y g steady ha hb h =
      let o = given_parted ks old p l a (node x b y) g in
      let i = tree_parted ks old p x b y g.right (around (under (order_by ks)) (items l) a (items (node x b y)) g.rising).right in
      let back = all_back (λ z. z.name ≢ a.name) (items x) (b ∷ items y) o.right in
      let hl = part_hung (a ∷ b ∷ []) steady l g.left (o.left, ((all_back (λ z. IsApart z.name (items l)) (items x) (b ∷ items y) o.back).0, tt)) h.1 in
      let hx = part_hung (a ∷ b ∷ []) steady x g.right.1 (all_front (λ z. z.name ≢ a.name) (items x) (b ∷ items y) o.right, (i.left, tt)) h.2.1 in
      let hy = part_hung (a ∷ b ∷ []) steady y g.right.2 (back.1, (i.right, tt)) h.2.2 in
      ((λ c. hb), ((λ c. ha), hl, hx), hy)

  pub inner_hung : (x : Tree (I ks)) (b : I ks) (u : Tree (I ks)) (d : I ks) (v : Tree (I ks)) (a : I ks) (r : Tree (I ks)) → Given (order_by ks) (rows_of ks old) (node x b (node u d v)) a r → Steady ks old new (a ∷ b ∷ d ∷ [])
      → IsHere new.heap a.name → IsHere new.heap b.name → IsHere new.heap d.name → AreHung old.heap (node (node x b (node u d v)) a r) → AreHung new.heap (node (node x b u) d (node v a r))
  inner_hung x b u d v a r g steady ha hb hd h =
      let ws = a ∷ b ∷ d ∷ [] in
      let o = given_parted ks old p (node x b (node u d v)) a r g in
      let rising = (around (under (order_by ks)) (items (node x b (node u d v))) a (items r) g.rising).left in
      let m = tree_parted ks old p x b (node u d v) g.left rising in
      let i = tree_parted ks old p u d v g.left.2 (around (under (order_by ks)) (items x) b (items (node u d v)) rising).right in
      let oback = all_back (λ z. z.name ≢ a.name) (items x) (b ∷ items (node u d v)) o.left in
      let across = all_back (λ z. IsApart z.name (items r)) (items x) (b ∷ items (node u d v)) o.across in
      let hx = part_hung ws steady x g.left.1 (all_front (λ z. z.name ≢ a.name) (items x) (b ∷ items (node u d v)) o.left, (m.left, ((all_back (λ z. IsApart z.name (items x)) (items u) (d ∷ items v) m.back).0, tt))) h.1.1 in
      let hu = part_hung ws steady u g.left.2.1 (all_front (λ z. z.name ≢ a.name) (items u) (d ∷ items v) oback.1, (all_front (λ z. z.name ≢ b.name) (items u) (d ∷ items v) m.right, (i.left, tt))) h.1.2.1 in
      let hv = part_hung ws steady v g.left.2.2 ((all_back (λ z. z.name ≢ a.name) (items u) (d ∷ items v) oback.1).1, ((all_back (λ z. z.name ≢ b.name) (items u) (d ∷ items v) m.right).1, (i.right, tt))) h.1.2.2 in
      let hr = part_hung ws steady r g.right (o.right, (across.0, ((all_back (λ z. IsApart z.name (items r)) (items u) (d ∷ items v) across.1).0, tt))) h.2 in
      ((λ c. hd), ((λ c. hb), hx, hu), ((λ c. ha), hv, hr))

  pub outer_hung : (l : Tree (I ks)) (a : I ks) (u : Tree (I ks)) (d : I ks) (v : Tree (I ks)) (b : I ks) (y : Tree (I ks)) → Given (order_by ks) (rows_of ks old) l a (node (node u d v) b y) → Steady ks old new (a ∷ b ∷ d ∷ [])
      → IsHere new.heap a.name → IsHere new.heap b.name → IsHere new.heap d.name → AreHung old.heap (node l a (node (node u d v) b y)) → AreHung new.heap (node (node l a u) d (node v b y))
  outer_hung l a u d v b y g steady ha hb hd h =
      let ws = a ∷ b ∷ d ∷ [] in
      let o = given_parted ks old p l a (node (node u d v) b y) g in
      let rising = (around (under (order_by ks)) (items l) a (items (node (node u d v) b y)) g.rising).right in
      let m = tree_parted ks old p (node u d v) b y g.right rising in
      let i = tree_parted ks old p u d v g.right.1 (around (under (order_by ks)) (items (node u d v)) b (items y) rising).left in
      let front = all_front (λ z. z.name ≢ a.name) (items (node u d v)) (b ∷ items y) o.right in
      let hl = part_hung ws steady l g.left (o.left, ((all_back (λ z. IsApart z.name (items l)) (items (node u d v)) (b ∷ items y) o.back).0, ((all_back (λ z. IsApart z.name (items l)) (items u) (d ∷ items v) (all_front (λ z. IsApart z.name (items l)) (items (node u d v)) (b ∷ items y) o.back)).0, tt))) h.1 in
      let hu = part_hung ws steady u g.right.1.1 (all_front (λ z. z.name ≢ a.name) (items u) (d ∷ items v) front, (all_front (λ z. z.name ≢ b.name) (items u) (d ∷ items v) m.left, (i.left, tt))) h.2.1.1 in
      let hv = part_hung ws steady v g.right.1.2 ((all_back (λ z. z.name ≢ a.name) (items u) (d ∷ items v) front).1, ((all_back (λ z. z.name ≢ b.name) (items u) (d ∷ items v) m.left).1, (i.right, tt))) h.2.1.2 in
      let hy = part_hung ws steady y g.right.2 ((all_back (λ z. z.name ≢ a.name) (items (node u d v)) (b ∷ items y) o.right).1, (m.right, ((all_back (λ z. IsApart z.name (items y)) (items u) (d ∷ items v) m.across).0, tt))) h.2.2 in
      ((λ c. hd), ((λ c. ha), hl, hu), ((λ c. hb), hv, hy))

  -- what becomes of the whole

  pub plain_hangs : (l : Tree (I ks)) (a : I ks) (r : Tree (I ks)) → Given (order_by ks) (rows_of ks old) l a r → Steady ks old new (a ∷ []) → IsHere new.heap a.name → Hangs ks old.heap new.heap old.outside (node l a r) (node l a r)
  plain_hangs l a r g steady ha = record {
    here = here;
    steady = λ n it q k c. steady n it ((all_back (λ z. z.name ≢ n) (items l) (a ∷ items r) q).0, tt) k c;
    hung = plain_hung l a r g steady ha;
  }

  pub right_hangs : (x : Tree (I ks)) (b : I ks) (y : Tree (I ks)) (a : I ks) (r : Tree (I ks)) → Given (order_by ks) (rows_of ks old) (node x b y) a r → Steady ks old new (a ∷ b ∷ []) → IsHere new.heap a.name → IsHere new.heap b.name
      → Hangs ks old.heap new.heap old.outside (node (node x b y) a r) (node x b (node y a r))
  right_hangs x b y a r g steady ha hb = record {
    here = here;
    steady = λ n it q k c. steady n it ((all_back (λ z. z.name ≢ n) (items (node x b y)) (a ∷ items r) q).0, ((all_back (λ z. z.name ≢ n) (items x) (b ∷ items y) (all_front (λ z. z.name ≢ n) (items (node x b y)) (a ∷ items r) q)).0, tt)) k c;
    hung = right_hung x b y a r g steady ha hb;
  }

  pub left_hangs : (l : Tree (I ks)) (a : I ks) (x : Tree (I ks)) (b : I ks) (y : Tree (I ks)) → Given (order_by ks) (rows_of ks old) l a (node x b y) → Steady ks old new (a ∷ b ∷ []) → IsHere new.heap a.name → IsHere new.heap b.name
      → Hangs ks old.heap new.heap old.outside (node l a (node x b y)) (node (node l a x) b y)
  left_hangs l a x b y g steady ha hb = record {
    here = here;
    steady = λ n it q k c.
        let back = all_back (λ z. z.name ≢ n) (items l) (a ∷ items (node x b y)) q in
        steady n it (back.0, ((all_back (λ z. z.name ≢ n) (items x) (b ∷ items y) back.1).0, tt)) k c;
    hung = left_hung l a x b y g steady ha hb;
  }

  pub inner_hangs : (x : Tree (I ks)) (b : I ks) (u : Tree (I ks)) (d : I ks) (v : Tree (I ks)) (a : I ks) (r : Tree (I ks)) → Given (order_by ks) (rows_of ks old) (node x b (node u d v)) a r → Steady ks old new (a ∷ b ∷ d ∷ [])
      → IsHere new.heap a.name → IsHere new.heap b.name → IsHere new.heap d.name → Hangs ks old.heap new.heap old.outside (node (node x b (node u d v)) a r) (node (node x b u) d (node v a r))
  inner_hangs x b u d v a r g steady ha hb hd = record {
    here = here;
    steady = λ n it q k c.
        let front = all_back (λ z. z.name ≢ n) (items x) (b ∷ items (node u d v)) (all_front (λ z. z.name ≢ n) (items (node x b (node u d v))) (a ∷ items r) q) in
        steady n it ((all_back (λ z. z.name ≢ n) (items (node x b (node u d v))) (a ∷ items r) q).0, (front.0, ((all_back (λ z. z.name ≢ n) (items u) (d ∷ items v) front.1).0, tt))) k c;
    hung = inner_hung x b u d v a r g steady ha hb hd;
  }

  pub outer_hangs : (l : Tree (I ks)) (a : I ks) (u : Tree (I ks)) (d : I ks) (v : Tree (I ks)) (b : I ks) (y : Tree (I ks)) → Given (order_by ks) (rows_of ks old) l a (node (node u d v) b y) → Steady ks old new (a ∷ b ∷ d ∷ [])
      → IsHere new.heap a.name → IsHere new.heap b.name → IsHere new.heap d.name → Hangs ks old.heap new.heap old.outside (node l a (node (node u d v) b y)) (node (node l a u) d (node v b y))
  outer_hangs l a u d v b y g steady ha hb hd = record {
    here = here;
    steady = λ n it q k c.
        let back = all_back (λ z. z.name ≢ n) (items l) (a ∷ items (node (node u d v) b y)) q in
        let inner = all_front (λ z. z.name ≢ n) (items (node u d v)) (b ∷ items y) back.1 in
        steady n it (back.0, ((all_back (λ z. z.name ≢ n) (items (node u d v)) (b ∷ items y) back.1).0, ((all_back (λ z. z.name ≢ n) (items u) (d ∷ items v) inner).0, tt))) k c;
    hung = outer_hung l a u d v b y g steady ha hb hd;
  }

-- writes one after another

pub two_steady : (old m m1 m2 : Place) (first second : ℕ) (a b : Reference) → IsPlace old → Touches old m → IsSteady m.heap m1.heap first → IsSteady m1.heap m2.heap second → name_at m.heap first ≡ a → name_at m1.heap second ≡ b
    → (n : Reference) (it : Shown) → a ≢ n → b ≢ n → joint old.heap old.outside n it → IsChanged m2.heap n → IsChanged old.heap n
two_steady old m m1 m2 first second a b p grows s1 s2 ea eb n it na nb k c = steady_touched old m p grows n it k (s1 n (λ e. na (sym (e ∙ ea))) (s2 n (λ e. nb (sym (e ∙ eb))) c))

pub three_steady : (old m m1 m2 m3 : Place) (first second third : ℕ) (a b d : Reference) → IsPlace old → Touches old m → IsSteady m.heap m1.heap first → IsSteady m1.heap m2.heap second → IsSteady m2.heap m3.heap third
    → name_at m.heap first ≡ a → name_at m1.heap second ≡ b → name_at m2.heap third ≡ d → (n : Reference) (it : Shown) → a ≢ n → b ≢ n → d ≢ n → joint old.heap old.outside n it → IsChanged m3.heap n → IsChanged old.heap n
three_steady old m m1 m2 m3 first second third a b d p grows s1 s2 s3 ea eb ed n it na nb nd k c = two_steady old m m1 m2 first second a b p grows s1 s2 ea eb n it na nb k (s3 n (λ e. nd (sym (e ∙ ed))) c)

-- A tree has changed, and another one beside it hangs as it did.
pub side_kept : (ks : Keys) (old new : Place) (before after : Tree (I ks)) → Hangs ks old.heap new.heap old.outside before after → (t : Tree (I ks)) → Stands (rows_of ks old) t → AllByRecursion (λ i. IsApart i.name (items before)) (items t)
    → AreHung old.heap t → AreHung new.heap t
side_kept ks old new before after w t s p h = hung_beside ks old new (items before) w.here w.steady t s p h
