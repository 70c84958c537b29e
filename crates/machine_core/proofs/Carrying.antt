-- What a machine stands for, as its area and its vault change by operations on objects.
use Rattle.std.proofs.Common.{◌≡◌, ℕ, ◌<◌, ◌≤◌, ◌+◌, [], List, inl, inr, refl, sym, ◌∙◌, subst, arith}
use Rattle.joint_ops.specs.ps_outside.Outside.{Outside, Rose, SameContents}
use Rattle.joint_ops.specs.obj_layout.Stored.{Space}
use Rattle.joint_ops.specs.obj_layout.declared.reference.Reference.{Reference}
use Rattle.joint_ops.specs.obj_layout.declared.vault.VaultFault.TheVariants as vault
use Rattle.joint_ops.specs.swizzle.Heap as area
use Rattle.joint_ops.specs.swizzle.Heap.{top_of}
use Rattle.joint_ops.specs.swizzle.Reading.{LeavesOutside}
use Rattle.joint_ops.specs.swizzle.declared.fault.SwizzleFault.{SwizzleFault}
use Rattle.joint_ops.specs.swizzle.declared.fault.SwizzleFault.TheVariants.{AreaFull, Vault}
use Rattle.ps_stepping.specs.ps_heap.Calls.{enter_call}
use Rattle.ps_stepping.specs.ps_heap.Held.{touching}
use Rattle.ps_stepping.specs.ps_heap.Tables.{Key}
use Rattle.ps_stepping.specs.ps_heap.Texts.{Yields}
use Rattle.ps_stepping.specs.ps_heap.Values.{Value}
use Rattle.ps_stepping.specs.ps_meaning.Meaning.{Store}
use Rattle.ps_stepping.specs.Config.{Config}
use Rattle.ps_stepping.specs.Steps.{Step, Goes, Stuck}
use Rattle.ps_stepping.specs.Objects.{having}
use Rattle.joint_ops.specs.World.{Carries, Stands, BreaksOff}
use Rattle.joint_ops.specs.Made.{IsShort}
use Rattle.machine_core.specs.declared.machine.Machine.{Machine}
use Rattle.machine_core.specs.declared.stepped.Stepped.{Stepped}
use Rattle.machine_core.specs.declared.stepped.Stepped.TheVariants.{Quiet, Turns, Writes, Halts, Breaks, Damaged}
use Rattle.machine_core.specs.Holding.{Held, HoldsStore, IsSound, Words}
use Rattle.machine_core.specs.Full.{Makes, StoresOne, BreaksBy}
use Rattle.machine_core.specs.Stepped.{Does, UnlessBroken}
use Rattle.machine_core.proofs.RefRows.{row_more}
use Rattle.machine_core.proofs.Callers.{all-waiting}
use Rattle.machine_core.proofs.RunLaws.{run-touching, run-gained}

-- What objects are touched says nothing of the words.
pub touched-held : (here : area.Heap) (outside : Outside Space) (names : List Reference) (w : Words) (c : Config) (ids : List ℕ)
    → Held here outside names w c → Held here outside names w (having (touching ids) c)
touched-held here outside names w c ids h = record {
  unit_is = h.unit_is;
  fit = h.fit;
  frame_is = h.frame_is;
  at_is = h.at_is;
  nums_are = h.nums_are;
  refs_are = h.refs_are;
  scope_is = h.scope_is;
  callers_are = h.callers_are;
  input_is = h.input_is;
  turns_are = h.turns_are;
  run = run-touching names w.writing w.asked w.directory c.store.held here outside ids h.run;
}

module _ (here now : area.Heap) (before after : Outside Space) where
  -- What stands for a configuration stands for one with another store, where area and vault stand for its heap and carry what was denoted.
  pub held-more : (names more : List Reference) (w : Words) (c : Config) (store : Store) → Carries here now before after names more
      → Held here before names w c → HoldsStore now after more w.writing w.asked w.directory store.held
      → store.turns ≡ c.store.turns → store.input ≡ c.store.input → Held now after more w (record c { store = store })
  held-more names more w c store k h run turns input = record {
    unit_is = k.units w.code c.unit h.unit_is;
    fit = h.fit;
    frame_is = h.frame_is;
    at_is = h.at_is;
    nums_are = h.nums_are;
    refs_are = row_more here before names now after more k.values w.refs.own w.frame.refs c.refs c.locals.refs h.refs_are;
    scope_is = k.scopes _ _ h.scope_is;
    callers_are = all-waiting here now before after names more k w.callers w.nums.below w.refs.below c.callers h.callers_are;
    input_is = h.input_is ∙ sym input;
    turns_are = turns ∙ h.turns_are;
    run = run;
  }

  -- after an operation that read, the words stand for the same configuration
  pub read-holds : (names : List Reference) (w : Words) (c : Config) → Held here before names w c → Stands here now before after c.store.held.objects names
      → Held now after names w c
  read-holds names w c h s =
      held-more names names w c c.store s.carries h (run-gained names w.writing w.asked w.directory c.store.held here now before after s.gains h.run) refl refl

  -- and where objects are touched then
  pub touched-holds : (names : List Reference) (w : Words) (c : Config) (ids : List ℕ) → Held here before names w c
      → Stands here now before after c.store.held.objects names → Held now after names w (having (touching ids) c)
  touched-holds names w c ids h s = touched-held now after names w c ids (read-holds names w c h s)

  -- An operation that broke off as reading does: so did the step, whatever it is.
  pub broken-off : (s : Step) (fault : SwizzleFault) → BreaksOff here now before after fault → BreaksBy before after here.size s fault
  broken-off s (AreaFull top wanted size) b =
      let a = b.3.1 in
      (b.1, subst (λ (n : ℕ). n < top + wanted) b.1 b.2, inr (inr (record { pid = b.3.0; words = a.words; stored = a.stored; count = b.3.2 })))
  broken-off s (Vault vault.Device) b = b
  broken-off s (Vault vault.Output) b = absurd b
  broken-off s (Vault (vault.Full used wanted capacity)) b = absurd b
  broken-off s (Vault (vault.NoPages held wanted pages)) b = absurd b
  broken-off s (Vault (vault.Damaged at found wanted)) b = absurd b

  -- There was no room for the object that the step makes.
  pub short-full : (s : Step) (store : Store) (next : Config) (weight : ℕ) (fault : SwizzleFault) → s ≡ Goes [] next → Makes store next weight
      → IsShort here now weight fault → BreaksBy before after here.size s fault
  short-full s store next weight fault step makes short =
      subst (λ (x : SwizzleFault). BreaksBy before after here.size s x) (sym short.fault_is)
      (refl, short.full, inl (record { next = next; step_is = step; before = store; weight = weight; makes = makes; words = short.words }))

  -- There was no room for the node of a pair that the step enters.
  pub node-full : (s : Step) (store : Store) (next : Config) (key : Key) (table value : Value) (top wanted size : ℕ) → s ≡ Goes [] next
      → enter_call key table value store.held ≡ Yields next.store.held → wanted ≡ 11 → size ≡ here.size → size < top + wanted
      → BreaksBy before after here.size s (AreaFull top wanted size)
  node-full s store next key table value top wanted size step enters words same short = (
    same,
    subst (λ (n : ℕ). n < top + wanted) same short,
    inr (inl (record { next = next; step_is = step; before = store; key = key; table = table; value = value; enters = enters; words = words })),
  )

-- What is damaged breaks off a step that isn't there.
pub damaged-stuck : (before after : Outside Space) (size : ℕ) (s : Step) (fault : SwizzleFault) (pid found wanted : ℕ) → s ≡ Stuck
    → fault ≡ Vault (vault.Damaged pid found wanted) → BreaksBy before after size s fault
damaged-stuck before after size s fault pid found wanted stuck is = subst (λ (x : SwizzleFault). BreaksBy before after size s x) (sym is) stuck

-- the objects are no part of what is said of the stacks
pub sound-kept : (m : Machine) (now : area.Heap) → IsSound m → IsSound (record m { objects = now })
sound-kept m now sound = record {
  nums_fit = sound.nums_fit;
  refs_fit = sound.refs_fit;
  nums_below = sound.nums_below;
  refs_below = sound.refs_below;
  nums_room = sound.nums_room;
  refs_room = sound.refs_room;
  values_room = sound.values_room;
  waiting = sound.waiting;
}

-- what follows from what holds where the step didn't break off
pub unless-broken : (r : Stepped) {A B : Type 0} → (A → B) → UnlessBroken r A → UnlessBroken r B
unless-broken Quiet f a = f a
unless-broken Turns f a = f a
unless-broken Writes f a = f a
unless-broken Halts f a = f a
unless-broken Breaks f a = tt
unless-broken Damaged f a = f a

-- a size that is kept after an operation that kept it
pub size-behind : (r : Stepped) (a b c : ℕ) → b ≡ a → UnlessBroken r (c ≡ b) → UnlessBroken r (c ≡ a)
size-behind r a b c same k = unless-broken r (λ e. e ∙ same) k

-- What a vault stores after an operation that left its contents, it stored before; and a count that rose then has risen since.
stores-earlier : (before mid : Outside Space) (wanted : ℕ) → SameContents before mid → StoresOne mid wanted → StoresOne before wanted
stores-earlier before mid wanted same s =
    let held = s.stored.there in
    record {
      pid = s.pid;
      words = s.words;
      stored = record {
        there = record { space = held.space; is = same.no_other held.space held.is; has = held.has };
        header = s.stored.header;
        far = s.stored.far;
        clean = s.stored.clean;
      };
      count = s.count;
    }

rose-earlier : (a b c : ℕ) → a ≤ b → Rose b c → Rose a c
rose-earlier a b c low (inl more) = inl (omega (arith, low, more))
rose-earlier a b c low (inr last) = inr last

-- A step broke off for the same reason in a run that began before, where what was held stayed and no count sank.
pub breaks-earlier : (before mid after : Outside Space) (size : ℕ) (s : Step) (fault : SwizzleFault) → SameContents before mid
    → before.device_faults ≤ mid.device_faults → BreaksBy mid after size s fault → BreaksBy before after size s fault
breaks-earlier before mid after size s (AreaFull top wanted its) same low (is, full, inl made) = (is, full, inl made)
breaks-earlier before mid after size s (AreaFull top wanted its) same low (is, full, inr (inl enters)) = (is, full, inr (inl enters))
breaks-earlier before mid after size s (AreaFull top wanted its) same low (is, full, inr (inr stored)) = (is, full, inr (inr (stores-earlier before mid wanted same stored)))
breaks-earlier before mid after size s (Vault vault.Device) same low b = rose-earlier before.device_faults mid.device_faults after.device_faults low b
breaks-earlier before mid after size s (Vault vault.Output) same low b = b
breaks-earlier before mid after size s (Vault (vault.Full used wanted capacity)) same low b = b
breaks-earlier before mid after size s (Vault (vault.NoPages held wanted pages)) same low b = b
breaks-earlier before mid after size s (Vault (vault.Damaged at found wanted)) same low b = b

pub breaks-behind : (before mid after : Outside Space) (size : ℕ) (s : Step) (fault : SwizzleFault) → LeavesOutside before mid
    → BreaksBy mid after size s fault → BreaksBy before after size s fault
breaks-behind before mid after size s fault left b = breaks-earlier before mid after size s fault left.contents left.counts b

-- what is done after an operation that left the outside and kept the size
pub does-behind : (before mid after : Outside Space) (a b : ℕ) (s : Step) (r : Stepped) (m : Machine) → LeavesOutside before mid → b ≡ a
    → Does mid after b s r m → Does before after a s r m
does-behind before mid after a b s Quiet m left same d = d
does-behind before mid after a b s Turns m left same d = d
does-behind before mid after a b s Writes m left same d = d
does-behind before mid after a b s Halts m left same d = d
does-behind before mid after a b s Breaks m left same d =
    breaks-behind before mid after a s m.fault left (subst (λ (n : ℕ). BreaksBy mid after n s m.fault) same d)
does-behind before mid after a b s Damaged m left same d = d
