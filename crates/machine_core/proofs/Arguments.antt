-- The arguments of a call, as they are popped and as the locals of the body that is called.
use Rattle.std.proofs.Common.{◌≡◌, ℕ, zero, suc, ◌+◌, ◌<◌, ◌≤◌, ℤ, pos, List, [], ◌∷◌, ◌++◌, length, drop, get_or, refl, sym, ap, ◌∙◌, subst, arith, length-append, append_assoc}
use Rattle.std.specs.Prelude.{reverse, replicate}
use Rattle.std.proofs.lemmas.List.{append-nil, reverse-append, reverse-reverse, length-reverse, drop-append-le, get_or_append_left, get_or-replicate, length-replicate, drop_all}
use Rattle.joint_ops.specs.ps_outside.Outside.{Outside}
use Rattle.joint_ops.specs.obj_layout.Stored.{Space}
use Rattle.joint_ops.specs.obj_layout.declared.reference.Reference.{Reference}
use Rattle.joint_ops.specs.swizzle.Heap as area
use Rattle.ps_stepping.specs.ps_heap.Values.{Value, Nil}
use Rattle.ps_stepping.specs.Config.{Config}
use Rattle.ps_stepping.specs.Steps.{Step, Stuck, pop_num_of, pop_ref_of}
use Rattle.ps_stepping.specs.Objects.{pop_nums, pop_refs}
use Rattle.joint_ops.specs.World.{DenotesIn}
use Rattle.machine_core.specs.Rows.{IsRow, IsRefRow, AreDenoted, object_in}

-- the items above some of a row, the top first
pub pushed-above : {W : Type 0} (size : ℕ) (low own : List W) → size ≤ length low → reverse (drop size (low ++ own)) ≡ reverse own ++ reverse (drop size low)
pushed-above {W} size low own room = ap (λ (xs : List W). reverse xs) (drop-append-le size low own room) ∙ reverse-append (drop size low) own

-- the first of some, put before others after the rest
one-more : {W : Type 0} (y : W) (ys acc : List W) → reverse ys ++ (y ∷ acc) ≡ reverse (y ∷ ys) ++ acc
one-more {W} y ys acc = sym (ap (λ (zs : List W). zs ++ acc) (reverse-append (y ∷ []) ys) ∙ append_assoc (reverse ys) (y ∷ []) acc)

-- Numbers.

pub nums-popped : (ys acc rest : List ℤ) (c : Config) (next : List ℤ → Config → Step) → c.nums ≡ ys ++ rest
    → pop_nums (length ys) acc c next ≡ next (reverse ys ++ acc) (record c { nums = rest })
nums-popped [] acc rest c next is = ap (λ (zs : List ℤ). next acc (record c { nums = zs })) is
nums-popped (y ∷ ys) acc rest c next is =
    ap (λ (zs : List ℤ). pop_num_of zs c (λ z d. pop_nums (length ys) (z ∷ acc) d next)) is
    ∙ nums-popped ys (y ∷ acc) rest (record c { nums = ys ++ rest }) next refl
    ∙ ap (λ (zs : List ℤ). next zs (record c { nums = rest })) (one-more y ys acc)

-- the numbers above some of a row are popped
pub args-popped : (size : ℕ) (low own : List ℤ) (c : Config) → IsRow (low ++ own) size c.nums c.locals.nums → size ≤ length low
    → (rest : List ℤ) × ((next : List ℤ → Config → Step) → pop_nums (length own) [] c next ≡ next own (record c { nums = rest })) × IsRow low size rest c.locals.nums
args-popped size low own c row room = (
  reverse (drop size low),
  λ next.
      ap (λ (n : ℕ). pop_nums n [] c next) (sym (length-reverse own))
      ∙ nums-popped (reverse own) [] (reverse (drop size low)) c next (row.pushed_are ∙ pushed-above size low own room)
      ∙ ap (λ (zs : List ℤ). next zs (record c { nums = reverse (drop size low) })) (append-nil (reverse (reverse own)) ∙ reverse-reverse own),
  record {
    room = room;
    pushed_are = refl;
    locals_are = λ slot d below. row.locals_are slot d below ∙ get_or_append_left low own d slot (omega arith);
  },
)

-- too few numbers are pushed
pub too-few-nums : (n : ℕ) (acc : List ℤ) (c : Config) (next : List ℤ → Config → Step) → length c.nums < n → pop_nums n acc c next ≡ Stuck
too-few-nums zero acc c next few = absurd (omega arith)
too-few-nums (suc n) acc c next few = of c.nums refl (λ z d low. too-few-nums n (z ∷ acc) d next low)
  where
    of : (zs : List ℤ) → c.nums ≡ zs → ((z : ℤ) (d : Config) → length d.nums < n → pop_nums n (z ∷ acc) d next ≡ Stuck)
        → pop_num_of zs c (λ z d. pop_nums n (z ∷ acc) d next) ≡ Stuck
    of [] is others = refl
    of (z ∷ zs) is others = others z (record c { nums = zs }) (let long = ap length is in omega (arith, few, long))

-- with blanks after them they are the locals of the body that is called
args-read : (own : List ℤ) (k slot : ℕ) (d : ℤ) → slot < length own + k → get_or own slot (pos 0) ≡ get_or (own ++ replicate k (pos 0)) slot d
args-read [] k slot d below = sym (get_or-replicate k slot (pos 0) d (omega arith))
args-read (z ∷ zs) k zero d below = refl
args-read (z ∷ zs) k (suc slot) d below = args-read zs k slot d (omega arith)

pub args-row : (own : List ℤ) (k size : ℕ) → length own + k ≡ size → IsRow (own ++ replicate k (pos 0)) size [] (λ slot. get_or own slot (pos 0))
args-row own k size is =
    let long : length (own ++ replicate k (pos 0)) ≡ size = omega (arith, is, length-append own (replicate k (pos 0)), length-replicate k (pos 0)) in
    record {
      room = omega (arith, long);
      pushed_are = sym (ap (λ (xs : List ℤ). reverse xs) (drop_all size (own ++ replicate k (pos 0)) (omega (arith, long))));
      locals_are = λ slot d below. args-read own k slot d (omega (arith, is));
    }

-- References.

pub refs-popped : (ys acc rest : List Value) (c : Config) (next : List Value → Config → Step) → c.refs ≡ ys ++ rest
    → pop_refs (length ys) acc c next ≡ next (reverse ys ++ acc) (record c { refs = rest })
refs-popped [] acc rest c next is = ap (λ (zs : List Value). next acc (record c { refs = zs })) is
refs-popped (y ∷ ys) acc rest c next is =
    ap (λ (zs : List Value). pop_ref_of zs c (λ z d. pop_refs (length ys) (z ∷ acc) d next)) is
    ∙ refs-popped ys (y ∷ acc) rest (record c { refs = ys ++ rest }) next refl
    ∙ ap (λ (zs : List Value). next zs (record c { refs = rest })) (one-more y ys acc)

-- too few references are pushed, for one below them
pub too-few-refs : (n : ℕ) (acc : List Value) (c : Config) (next : List Value → Value → Config → Step) → length c.refs ≤ n
    → pop_refs n acc c (λ vs d. pop_ref_of d.refs d (λ v e. next vs v e)) ≡ Stuck
too-few-refs zero acc c next few = of c.refs refl
  where
    of : (vs : List Value) → c.refs ≡ vs → pop_ref_of vs c (λ v e. next acc v e) ≡ Stuck
    of [] is = refl
    of (v ∷ vs) is = absurd (let long = ap length is in omega (arith, few, long))
too-few-refs (suc n) acc c next few = of c.refs refl (λ v d low. too-few-refs n (v ∷ acc) d next low)
  where
    of : (vs : List Value) → c.refs ≡ vs
        → ((v : Value) (d : Config) → length d.refs ≤ n → pop_refs n (v ∷ acc) d (λ vs e. pop_ref_of e.refs e (λ w f. next vs w f)) ≡ Stuck)
        → pop_ref_of vs c (λ v d. pop_refs n (v ∷ acc) d (λ vs d. pop_ref_of d.refs d (λ v e. next vs v e))) ≡ Stuck
    of [] is others = refl
    of (v ∷ vs) is others = others v (record c { refs = vs }) (let long = ap length is in omega (arith, few, long))

module _ (here : area.Heap) (outside : Outside Space) (names : List Reference) where
  -- what is denoted by some words, and by others after them
  pub denoted-split : (ws us : List ℕ) (vs : List Value) → AreDenoted here outside names (ws ++ us) vs
      → (a : List Value) × (b : List Value) × (vs ≡ a ++ b) × AreDenoted here outside names ws a × AreDenoted here outside names us b
  denoted-split [] us vs d = ([], vs, refl, tt, d)
  denoted-split (w ∷ ws) us [] d = absurd d
  denoted-split (w ∷ ws) us (v ∷ vs) d =
      let rest = denoted-split ws us vs d.1 in
      (v ∷ rest.0, rest.1, ap (λ (xs : List Value). v ∷ xs) rest.2, (d.0, rest.3), rest.4)

  denoted-joined : (ws us : List ℕ) (vs xs : List Value) → AreDenoted here outside names ws vs → AreDenoted here outside names us xs → AreDenoted here outside names (ws ++ us) (vs ++ xs)
  denoted-joined [] us [] xs d e = e
  denoted-joined [] us (v ∷ vs) xs d e = absurd d
  denoted-joined (w ∷ ws) us [] xs d e = absurd d
  denoted-joined (w ∷ ws) us (v ∷ vs) xs d e = (d.0, denoted-joined ws us vs xs d.1 e)

  pub denoted-reverse : (ws : List ℕ) (vs : List Value) → AreDenoted here outside names ws vs → AreDenoted here outside names (reverse ws) (reverse vs)
  denoted-reverse [] [] d = tt
  denoted-reverse [] (v ∷ vs) d = absurd d
  denoted-reverse (w ∷ ws) [] d = absurd d
  denoted-reverse (w ∷ ws) (v ∷ vs) d =
      subst (λ (xs : List ℕ). AreDenoted here outside names xs (reverse (v ∷ vs))) (sym (reverse-append (w ∷ []) ws))
      (subst (λ (xs : List Value). AreDenoted here outside names (reverse ws ++ w ∷ []) xs) (sym (reverse-append (v ∷ []) vs))
      (denoted-joined (reverse ws) (w ∷ []) (reverse vs) (v ∷ []) (denoted-reverse ws vs d.1) (d.0, tt)))

  pub denoted-many : (ws : List ℕ) (vs : List Value) → AreDenoted here outside names ws vs → length vs ≡ length ws
  denoted-many [] [] d = refl
  denoted-many [] (v ∷ vs) d = absurd d
  denoted-many (w ∷ ws) [] d = absurd d
  denoted-many (w ∷ ws) (v ∷ vs) d = ap suc (denoted-many ws vs d.1)

  -- The references above some of a row, of which the lowest is a procedure: they are popped, and then that one.
  pub record Below (size : ℕ) (low own : List ℕ) (w : ℕ) (c : Config) : Type 0 where
    pub args : List Value
    pub of : Value
    pub rest : List Value
    pub pops : (next : List Value → Value → Config → Step) → pop_refs (length own) [] c (λ vs d. pop_ref_of d.refs d (λ v e. next vs v e)) ≡ next args of (record c { refs = rest })
    pub are : AreDenoted here outside names own args
    pub is : DenotesIn here outside names (object_in w) of
    pub row : IsRefRow here outside names low size rest c.locals.refs

  pub below-popped : (size : ℕ) (low own : List ℕ) (w : ℕ) (c : Config) → IsRefRow here outside names ((low ++ w ∷ []) ++ own) size c.refs c.locals.refs → size ≤ length low
      → Below size low own w c
  below-popped size low own w c row room =
      let mid = low ++ w ∷ [] in
      let wide : size ≤ length mid = omega (arith, room, length-append low (w ∷ [])) in
      let all = subst (λ (xs : List ℕ). AreDenoted here outside names xs c.refs) (pushed-above size mid own wide ∙ ap (λ (xs : List ℕ). reverse own ++ xs) (pushed-above size low (w ∷ []) room)) row.pushed_are in
      let two = denoted-split (reverse own) (w ∷ reverse (drop size low)) c.refs all in
      let top = top-of two.1 two.4 in
      let args = reverse two.0 in
      record {
        args = args;
        of = top.0;
        rest = top.1;
        pops = λ next.
            ap (λ (n : ℕ). pop_refs n [] c (λ vs d. pop_ref_of d.refs d (λ v e. next vs v e))) (sym (denoted-many (reverse own) two.0 two.3 ∙ length-reverse own))
            ∙ refs-popped two.0 [] two.1 c (λ vs d. pop_ref_of d.refs d (λ v e. next vs v e)) two.2
            ∙ ap (λ (vs : List Value). pop_ref_of two.1 (record c { refs = two.1 }) (λ v e. next vs v e)) (append-nil args)
            ∙ ap (λ (vs : List Value). pop_ref_of vs (record c { refs = two.1 }) (λ v e. next args v e)) top.2;
        are = subst (λ (xs : List ℕ). AreDenoted here outside names xs args) (reverse-reverse own) (denoted-reverse (reverse own) two.0 two.3);
        is = top.3;
        row = record {
          room = room;
          pushed_are = top.4;
          locals_are = λ slot d below.
              subst (λ (x : ℕ). DenotesIn here outside names (object_in x) (c.locals.refs slot))
              (get_or_append_left mid own d slot (omega (arith, wide)) ∙ get_or_append_left low (w ∷ []) d slot (omega arith)) (row.locals_are slot d below);
        };
      }
    where
      top-of : (vs : List Value) → AreDenoted here outside names (w ∷ reverse (drop size low)) vs
          → (v : Value) × (rest : List Value) × (vs ≡ v ∷ rest) × DenotesIn here outside names (object_in w) v × AreDenoted here outside names (reverse (drop size low)) rest
      top-of [] d = absurd d
      top-of (v ∷ vs) d = (v, vs, refl, d.0, d.1)

  module _ (nil : DenotesIn here outside names (object_in 0) Nil) where
    -- with nils after them they are the locals of the body that is called
    refs-read : (own : List ℕ) (vs : List Value) (k slot d : ℕ) → AreDenoted here outside names own vs → slot < length own + k
        → DenotesIn here outside names (object_in (get_or (own ++ replicate k 0) slot d)) (get_or vs slot Nil)
    refs-read [] [] k slot d are below = subst (λ (x : ℕ). DenotesIn here outside names (object_in x) Nil) (sym (get_or-replicate k slot 0 d (omega arith))) nil
    refs-read [] (v ∷ vs) k slot d are below = absurd are
    refs-read (w ∷ ws) [] k slot d are below = absurd are
    refs-read (w ∷ ws) (v ∷ vs) k zero d are below = are.0
    refs-read (w ∷ ws) (v ∷ vs) k (suc slot) d are below = refs-read ws vs k slot d are.1 (omega arith)

    pub refs-row : (own : List ℕ) (vs : List Value) (k size : ℕ) → AreDenoted here outside names own vs → length own + k ≡ size
        → IsRefRow here outside names (own ++ replicate k 0) size [] (λ slot. get_or vs slot Nil)
    refs-row own vs k size are is =
        let long : length (own ++ replicate k 0) ≡ size = omega (arith, is, length-append own (replicate k 0), length-replicate {A = ℕ} k 0) in
        record {
          room = omega (arith, long);
          pushed_are = subst (λ (xs : List ℕ). AreDenoted here outside names xs []) (sym (ap (λ (xs : List ℕ). reverse xs) (drop_all size (own ++ replicate k 0) (omega (arith, long))))) tt;
          locals_are = λ slot d below. refs-read own vs k slot d are (omega (arith, is));
        }
