-- A function that first takes something from the stacks, and then does what another does.
use Rattle.std.proofs.Common.{◌≡◌, ℕ, ℤ, List, Option, Some, None, refl, sym, ap, ◌∙◌, subst}
use Rattle.joint_ops.specs.ps_outside.Outside.{Outside}
use Rattle.joint_ops.specs.obj_layout.Stored.{Space}
use Rattle.joint_ops.specs.swizzle.Heap as area
use Rattle.ps_stepping.specs.ps_heap.Values.{Value}
use Rattle.ps_stepping.specs.Config.{Config}
use Rattle.ps_stepping.specs.Machine.{Step, Stuck, pop_num_of, pop_num, pop_ref_of, pop_ref, pop_two, pop_width}
use Rattle.machine_core.specs.declared.machine.Machine.{Machine}
use Rattle.machine_core.specs.declared.stepped.Stepped.{Stepped}
use Rattle.machine_core.specs.declared.stepped.Stepped.TheVariants.{Damaged}
use Rattle.machine_core.specs.Holding.{Holds, IsSound, object_in}
use Rattle.machine_core.specs.Naming.{IsNamed, NamesObjects}
use Rattle.machine_core.specs.Stepped.{Takes, Does, UnlessBroken}
use Rattle.machine_core.specs.inside.Taking.{Leaves, Taken, TakenRef, TakesTwo, TakesRef, HasTop, HasTopRef, HasTwo, ReadsRef}

module _ (before after : Outside Space) where
  module _ (old mid new : Machine) (r : Stepped) (left : Leaves old mid) where
    size-there : UnlessBroken r (new.objects.size ≡ mid.objects.size) → UnlessBroken r (new.objects.size ≡ old.objects.size)
    size-there size = subst (λ (here : area.Heap). UnlessBroken r (new.objects.size ≡ here.size)) left.objects size

    does-there : (s : Step) → Does before after mid.objects.size s r new → Does before after old.objects.size s r new
    does-there s does = subst (λ (here : area.Heap). Does before after here.size s r new) left.objects does

    -- after what was taken
    pub taken-then : {T : Type 0} (taking : Config → (T → Config → Step) → Step) (t : T) (next : T → Config → Step) → Taken before taking old mid (Some t)
        → Takes before after (next t) mid new r → Takes before after (λ c. taking c next) old new r
    taken-then taking t next p q = record {
      sound = q.sound;
      names = λ n. q.names (left.names n);
      size = size-there q.size;
      does = λ c h.
          let g = p.gives h.names c h.held in
          subst (λ (s : Step). Does before after old.objects.size s r new) (sym (g.1 next)) (does-there (next t g.0) (q.does g.0 (record { names = h.names; held = g.2 })));
    }

    pub ref-then : (taking : Config → (Value → Config → Step) → Step) (w : ℕ) (next : Value → Config → Step) → TakenRef before taking old mid (Some w)
        → (NamesObjects old → IsNamed mid.objects w) → TakesRef before after next mid (object_in w) new r → Takes before after (λ c. taking c next) old new r
    ref-then taking w next p named q = record {
      sound = q.sound;
      names = λ n. q.names (left.names n) (named n);
      size = size-there q.size;
      does = λ c h.
          let g = p.gives h.names c h.held in
          subst (λ (s : Step). Does before after old.objects.size s r new) (sym (g.2 next)) (does-there (next g.1 g.0) (q.does h.names g.1 g.0 g.3 g.4));
    }

  -- nothing was there to take
  module _ (old mid : Machine) (left : Leaves old mid) where
    pub taken-none : {T : Type 0} (taking : Config → (T → Config → Step) → Step) (next : T → Config → Step) → Taken before taking old mid None
        → Takes before after (λ c. taking c next) old mid Damaged
    taken-none taking next p = record { sound = left.sound; names = left.names; size = ap (λ (here : area.Heap). here.size) left.objects; does = λ c h. p.gives h.names c h.held next }

    pub ref-none : (taking : Config → (Value → Config → Step) → Step) (next : Value → Config → Step) → TakenRef before taking old mid None
        → Takes before after (λ c. taking c next) old mid Damaged
    ref-none taking next p = record { sound = left.sound; names = left.names; size = ap (λ (here : area.Heap). here.size) left.objects; does = λ c h. p.gives h.names c h.held next }

  -- what follows a reference does not go by its value
  pub any-value : (of : Config → Step) (mid new : Machine) (to : Option ℕ) (r : Stepped) → Takes before after of mid new r → TakesRef before after (λ v. of) mid to new r
  any-value of mid new to r t = record {
    sound = t.sound;
    names = λ n held. t.names n;
    size = t.size;
    does = λ names v c h d. t.does c (record { names = names; held = h });
  }

  module _ (old new : Machine) (r : Stepped) where
    abbrev Did : Step → Type 0
    Did s = Does before after old.objects.size s r new

    -- what goes by the number on top, which stays or is dropped
    module _ (z : ℤ) (of : Config → Step) (next : Config → ℤ → Config → Step) (top : (c : Config) → Holds before old c → HasTop c (Some z)) where
      pub top-stays : ((c d : Config) → next c z d ≡ of c) → Takes before after of old new r → Takes before after (λ c. pop_num c (next c)) old new r
      top-stays same t = record {
        sound = t.sound;
        names = t.names;
        size = t.size;
        does = λ c h.
            let has = top c h in
            subst Did (sym (ap (λ (xs : List ℤ). pop_num_of xs c (next c)) has.1 ∙ same c (record c { nums = has.0 }))) (t.does c h);
      }

      pub top-drops : ((c d : Config) → next c z d ≡ of d) → Takes before after (λ c. pop_num c (λ x d. of d)) old new r
          → Takes before after (λ c. pop_num c (next c)) old new r
      top-drops same t = record {
        sound = t.sound;
        names = t.names;
        size = t.size;
        does = λ c h.
            let has = top c h in
            subst Did
            (ap (λ (xs : List ℤ). pop_num_of xs c (λ x d. of d)) has.1 ∙ sym (ap (λ (xs : List ℤ). pop_num_of xs c (next c)) has.1 ∙ same c (record c { nums = has.0 }))) (t.does c h);
      }

    -- the reference on top stays
    pub top-ref-stays : (w : ℕ) (of : Value → Config → Step) (next : Config → Value → Config → Step) → (NamesObjects old → IsNamed old.objects w)
        → ((c : Config) → Holds before old c → HasTopRef before old c (Some w)) → ((c d : Config) (v : Value) → next c v d ≡ of v c)
        → TakesRef before after of old (object_in w) new r → Takes before after (λ c. pop_ref c (next c)) old new r
    top-ref-stays w of next named top same t = record {
      sound = t.sound;
      names = λ n. t.names n (named n);
      size = t.size;
      does = λ c h.
          let has = top c h in
          subst Did (sym (ap (λ (xs : List Value). pop_ref_of xs c (next c)) has.2 ∙ same c (record c { refs = has.1 }) has.0)) (t.does has.3 has.0 c has.4 has.5);
    }

    -- a local that the frame has, and what goes by its value
    pub local-leads : (slot w : ℕ) (of : Value → Config → Step) (all : Config → Step) → (NamesObjects old → IsNamed old.objects w)
        → ((c : Config) → Holds before old c → ReadsRef before slot old c (Some w)) → ((c : Config) → Holds before old c → all c ≡ of (c.locals.refs slot) c)
        → TakesRef before after of old (object_in w) new r → Takes before after all old new r
    local-leads slot w of all named reads same t = record {
      sound = t.sound;
      names = λ n. t.names n (named n);
      size = t.size;
      does = λ c h.
          let has = reads c h in
          subst Did (sym (same c h)) (t.does has.1 (c.locals.refs slot) c has.2 has.3);
    }

    -- the step is another one from each configuration that the machine holds
    pub same-held : (of other : Config → Step) → ((c : Config) → Holds before old c → other c ≡ of c) → Takes before after of old new r
        → Takes before after other old new r
    same-held of other same t = record { sound = t.sound; names = t.names; size = t.size; does = λ c h. subst Did (sym (same c h)) (t.does c h) }

    -- what follows two numbers does not go by them
    pub any-two : (of : Step) → Takes before after (λ c. of) old new r → TakesTwo before after (λ c. of) old new r
    any-two of t = record { sound = t.sound; names = t.names; size = t.size; does = λ c a b rest h tops. t.does c h }

    -- the step is another one
    pub same-step : (of other : Config → Step) → ((c : Config) → other c ≡ of c) → Takes before after of old new r → Takes before after other old new r
    same-step of other same t = same-held of other (λ c h. same c) t

  -- There is no step from each configuration that the machine holds.
  module _ (m : Machine) (sound : IsSound m) where
    pub stuck-there : (of : Config → Step) → ((c : Config) → Holds before m c → of c ≡ Stuck) → Takes before after of m m Damaged
    stuck-there of none = record { sound = sound; names = λ n. n; size = refl; does = none }

    pub no-top : (next : Config → ℤ → Config → Step) → ((c : Config) → Holds before m c → HasTop c None) → Takes before after (λ c. pop_num c (next c)) m m Damaged
    no-top next top = stuck-there (λ c. pop_num c (next c)) (λ c h. ap (λ (xs : List ℤ). pop_num_of xs c (next c)) (top c h))

    pub no-top-ref : (next : Config → Value → Config → Step) → ((c : Config) → Holds before m c → HasTopRef before m c None)
        → Takes before after (λ c. pop_ref c (next c)) m m Damaged
    no-top-ref next top = stuck-there (λ c. pop_ref c (next c)) (λ c h. ap (λ (xs : List Value). pop_ref_of xs c (next c)) (top c h))

    pub no-operands : (next : ℤ → ℤ → Config → Step) → ((c : Config) → Holds before m c → HasTwo c None) → Takes before after (λ c. pop_two c next) m m Damaged
    no-operands next tops = stuck-there (λ c. pop_two c next) (λ c h. tops c h next)

-- a width is a number that was pushed
pub width-taken : (outside : Outside Space) (old new : Machine) (given : ℕ) (z : ℤ) → given ≡ 1 → Taken outside pop_num old new (Some z)
    → Taken outside (pop_width given) old new (Some (Some z))
width-taken outside old new given z one p = record {
  gives = λ names c h. let g = p.gives names c h in (g.0, (λ next. ap (λ (n : ℕ). pop_width n c next) one ∙ g.1 (λ x d. next (Some x) d)), g.2);
}
