-- A clause of a type yields a value of the type.
use Rattle.std.proofs.Common.{◌≤◌, ◌≡◌, ℕ, List, [], ◌∷◌, Option, Some, None, refl, sym, subst, arith}
use Rattle.std.specs.Prelude.{codes}
use Rattle.ps_meaning.specs.ps_base.TyView.{TyView}
use Rattle.ps_meaning.specs.ps_base.TyView as types
use Rattle.ps_meaning.specs.ps_base.declared.line.Line.{Line}
use Rattle.ps_meaning.specs.ps_program.declared.place.Place.{Place}
use Rattle.ps_meaning.specs.ps_program.declared.place.Place.TheVariants.{Plain, Kept}
use Rattle.ps_meaning.specs.ps_program.Node.{Node, Nodes, none, more, body}
use Rattle.ps_meaning.specs.ps_program.Node as node
use Rattle.ps_type_text.specs.Texts.{Field, class_text}
use Rattle.ps_meaning.specs.ps_typing.WellTyped.{Env, Free, Local, Claim, behind_loop, behind_scan, next_slot, with_scopes, types_of_params, Rule, Declares, IsTyped, AreTyped, AreItems}
use Rattle.ps_meaning.specs.ps_typing.WellTyped as typed
use Rattle.ps_heap.specs.Values.{Value, Num, Nothing}
use Rattle.ps_heap.specs.Objects.{Heap}
use Rattle.ps_meaning.specs.ps_typing.Library.{caller, two}
use Rattle.ps_meaning.specs.Meaning.{Frame, State, Outcome, Value_is, Ends, Meaning, set as set_at}
use Rattle.ps_meaning.specs.Evaluation.{Context, call_meant, eval, eval_all}
use Rattle.ps_soundness.specs.Running.{IsPlace, IsScopeText, RunsIn, Runs, AllRunIn}
use Rattle.ps_soundness.specs.Free.{AllBelow, AreBelow}
use Rattle.ps_soundness.specs.Shapes.{IsOf, AreLocals, ComesTo, IsTypedHeld}
use Rattle.ps_soundness.proofs.Telling.{Told}
use Rattle.ps_soundness.proofs.Growing.{grows_not, of_kept}
use Rattle.ps_soundness.proofs.Places.{free_slot, name_has, name_set}
use Rattle.ps_soundness.proofs.Combining.{Comes, Sound, sound_then, sound_give, sound_nothing, sound_get, sound_set, narrowed}
use Rattle.ps_soundness.proofs.Calling.{sound_call, sound_procedure}
use Rattle.ps_soundness.proofs.Loops.{Turns, sound_for}
use Rattle.ps_soundness.proofs.Scans.{key_type, scan_sound}
use Rattle.ps_soundness.proofs.Sequences.{AreSound}
use Rattle.ps_soundness.proofs.Declaring.{Climbs, declared_climbs, climbs, climbs_all, below_climbs, declared_below, declared_over, declared_less, scope_same, sound_set_local, declared_sound, sound_let, literal_sound}
use Rattle.ps_soundness.proofs.Rules.{CallsYield, rule_sound}
use Rattle.ps_soundness.proofs.Running.{AllRunClaims, parts_run, named_rightly}
use Rattle.ps_soundness.proofs.Standings.{Standing, AreAround, IsStanding, stand, by_rules, in_scopes}
use Rattle.ps_soundness.proofs.InScopes.{AreCalls, sound_get_kept, sound_set_kept, sound_opened}

-- a loop by `for` takes three free slots, and what is known after a turn is known before it
sound_loop : {env : Env} {own : Standing} (free : Free) (control : Place) (wholes : Option (List (List Field))) (c : Context) (heap : Heap) (slot : ℕ)
    (from to by s : Node) (scope : Option (List ℕ)) (line : Line) → slot ≡ free.nums → AllBelow env.locals free →
    ((new : Heap) (frame : Frame) → IsStanding new frame own → IsStanding new frame (stand wholes env)) →
    Turns in_scopes (stand wholes env) own scope control (eval c s) →
    ((new : Heap) → Sound in_scopes new (stand wholes env) (stand wholes env) types.Int (eval c from)) →
    ((new : Heap) → Sound in_scopes new (stand wholes env) (stand wholes env) types.Int (eval c to)) →
    ((new : Heap) → Sound in_scopes new (stand wholes env) (stand wholes env) types.Int (eval c by)) →
    Sound in_scopes heap (stand wholes env) (stand wholes env) types.Void (eval c (node.For slot from to by scope control s line))
unfolding eval
sound_loop {env = env} free control wholes c heap slot from to by s scope line e below less turns hf ht hb =
    sound_for in_scopes c.bound line slot scope control (eval c s)
    (λ at low high new v. sound_set_local at types.Int v (λ now frame g are. free_slot by_rules now frame free types.Int at v env.locals (omega arith) below are))
    turns
    (λ z new. sound_set in_scopes slot types.Int (Num z) (λ now frame g are.
    let before = less now frame are in (
      free_slot by_rules now frame free types.Int slot (Num z) env.locals (omega arith) below before.0,
      subst (λ (scope : Option ℕ). AreAround now scope wholes env.scopes) (sym (scope_same frame types.Int slot (Num z))) before.1,
    )))
    hf ht hb (λ new. narrowed in_scopes less (sound_nothing in_scopes))

-- a turn without a scope of its own, and one with it
turns_unscoped : (told : Told) (wholes : Option (List (List Field))) {env own : Env} {free behind : Free} {control : Place} {clause : Meaning} →
    Declares env free control types.Int own behind → IsPlace wholes control types.Int → AllBelow env.locals free →
    ((new : Heap) → Sound in_scopes new (stand wholes own) (stand wholes own) types.Void clause) →
    Turns in_scopes (stand wholes env) (stand wholes own) None control clause
turns_unscoped told wholes declares at below h z is new =
    sound_then in_scopes (declared_sound told wholes declares at below new (Num z) is) (λ h2 u g is_done. h h2)

turns_scoped : (told : Told) (wholes : List (List Field)) (text : List ℕ) (opened : IsScopeText text) {env own : Env} {free behind : Free}
    {control : Place} {clause : Meaning} →
    Declares (with_scopes ([] ∷ env.scopes) env) free control types.Int own behind → IsPlace (Some (opened.fields ∷ wholes)) control types.Int →
    AllBelow env.locals free →
    ((new : Heap) → Sound in_scopes new (stand (Some (opened.fields ∷ wholes)) own) (stand (Some (opened.fields ∷ wholes)) own) types.Void clause) →
    Turns in_scopes (stand (Some wholes) env) (record { locals = own.locals; wholes = Some wholes; scopes = env.scopes }) (Some text) control clause
turns_scoped told wholes text opened declares at below h z is new =
    sound_opened text opened (λ inside g.
    sound_then in_scopes (declared_sound told (Some (opened.fields ∷ wholes)) declares at below inside (Num z) is) (λ h2 u g2 is_done. h h2))

-- a value in a free slot, and free slots after the locals of a scan
spare : {heap : Heap} {wholes : Option (List (List Field))} {scopes : List (List Field)} (free : Free) (locals : List Local) (at : ℕ) (ty : TyView) (v : Value) →
    next_slot ty free ≤ at → AllBelow locals free →
    Sound in_scopes heap (record { locals = locals; wholes = wholes; scopes = scopes }) (record { locals = locals; wholes = wholes; scopes = scopes }) types.Void
    (set_at (Plain at) ty v)
spare free locals at ty v low below = sound_set_local at ty v (λ now frame g are. free_slot by_rules now frame free ty at v locals low below are)

in_scan : (env : Env) (free : Free) → AllBelow env.locals free → AllBelow env.locals (behind_scan free)
in_scan env free below = below_climbs free (behind_scan free) env.locals (record { nums = omega arith; refs = omega arith }) below

-- free slots after the three of a loop, after its start, limit and step, and in what is repeated
in_loop : (env : Env) (free : Free) → AllBelow env.locals free → AllBelow env.locals (behind_loop free)
in_loop env free below = below_climbs free (behind_loop free) env.locals (record { nums = omega arith; refs = omega arith }) below

loop_room : {env first own : Env} {behind between : Free} {control : Place} {claims : List Claim} (free : Free) →
    Declares first (behind_loop free) control types.Int own behind → AreTyped env behind claims between → AllBelow first.locals free →
    AllBelow first.locals behind × AllBelow own.locals between
loop_room {first = first} {own = own} {behind = behind} {between = between} free declares are below =
    let one = declared_climbs declares in
    let up : Climbs free behind = record { nums = omega (arith, one.nums); refs = omega (arith, one.refs) } in (
      below_climbs free behind first.locals up below,
      below_climbs behind between own.locals (climbs_all are) (declared_below declares (in_loop first free below)),
    )

-- where nothing is known of the scopes nothing is called
calls_yield : (wholes : Option (List (List Field))) (env : Env) {t : Node} {claims : List Claim} {ty : TyView} → Rule t claims ty → RunsIn wholes t →
    (c : Context) → AreCalls wholes c → CallsYield in_scopes (stand wholes env) c t
calls_yield None env (typed.call are) r c calls = absurd r
calls_yield (Some wholes) env (typed.call {line = line} are) r c calls = λ heap v args ps g is of. sound_call in_scopes c calls line v args ps g is of
calls_yield wholes env other r c calls = tt

mutual
  unfolding eval eval_all

  pub sound : (told : Told) (wholes : Option (List (List Field))) {env : Env} {free behind : Free} {t : Node} {ty : TyView} →
      IsTyped env free t ty behind → AllBelow env.locals free →
      RunsIn wholes t →
      (c : Context) → AreCalls wholes c → (heap : Heap) → Sound in_scopes heap (stand wholes env) (stand wholes env) ty (eval c t)
  sound told wholes (typed.by_rule {env = env} {clause = t} rule are) below r c calls heap =
      rule_sound in_scopes told {known = stand wholes env} rule c (sound_each told wholes are below (parts_run wholes rule r) c calls) (named_rightly wholes rule r)
      (calls_yield wholes env rule r c calls) heap
  sound told wholes (typed.name {env = env} {place = Plain slot} {ty = ty} found) below r c calls heap =
      sound_get in_scopes slot ty (λ now frame are. name_has by_rules now frame slot ty env.locals found are.0)
  sound told None (typed.name {place = Kept up position} found) below r c calls heap = absurd r
  sound told (Some wholes) (typed.name {place = Kept up position} {ty = ty} found) below r c calls heap = sound_get_kept told up position ty found
  sound told wholes (typed.set_name {env = env} {place = Plain slot} {ty = ty} found te) below r c calls heap =
      sound_then in_scopes (sound told wholes te below r.1 c calls heap) (λ h1 v g is. sound_set_local slot ty v (λ now frame k are.
      name_set by_rules told now frame slot ty v env.locals (name_has by_rules now frame slot ty env.locals found are) (of_kept by_rules h1 now k ty v is) are))
  sound told None (typed.set_name {place = Kept up position} found te) below r c calls heap = absurd r.0
  sound told (Some wholes) (typed.set_name {place = Kept up position} {ty = ty} found te) below r c calls heap =
      sound_then in_scopes (sound told (Some wholes) te below r.1 c calls heap) (λ h1 v g is. sound_set_kept told up position ty v found is)
  sound told None (typed.block typed.unscoped are is) below r c calls heap = sound_items told None are below r.1 c calls heap Nothing tt
  sound told None (typed.block typed.scoped are is) below r c calls heap = absurd (let e = r.0 in cc)
  sound told (Some wholes) (typed.block typed.unscoped are is) below r c calls heap = sound_items told (Some wholes) are below r c calls heap Nothing tt
  sound told (Some wholes) (typed.block (typed.scoped {first = first} {rest = rest}) are is) below r c calls heap =
      sound_opened (class_text (codes "scope") (first ∷ rest)) r.0
      (λ new g. sound_items told (Some (r.0.fields ∷ wholes)) are below r.1 c calls new Nothing tt)
  sound told None (typed.loop {env = env} {free = free} {behind = behind} {between = between} {slot = slot} {a = a} {b = b} {c = by} {s = s}
      {control = control} {line = line} slot_is typed.unscoped declares is are t) below r c calls heap =
      let room = loop_room free declares are below in
      let three = sound_each told None are room.0 (r.0, (r.1, (r.2, tt))) c calls in
      sound_loop free control None c heap slot a b by s None line slot_is below (declared_less None declares)
      (turns_unscoped told None declares r.4 (in_loop env free below) (λ new. sound told None t room.1 r.5 c calls new))
      (λ new. three.0 new) (λ new. three.1.0 new) (λ new. three.1.1.0 new)
  sound told None (typed.loop slot_is typed.scoped declares is are t) below r c calls heap = absurd (let e = r.3 in cc)
  sound told (Some wholes) (typed.loop {env = env} {free = free} {behind = behind} {between = between} {slot = slot} {a = a} {b = b} {c = by} {s = s}
      {control = control} {line = line} slot_is typed.unscoped declares is are t) below r c calls heap =
      let room = loop_room free declares are below in
      let three = sound_each told (Some wholes) are room.0 (r.0, (r.1, (r.2, tt))) c calls in
      sound_loop free control (Some wholes) c heap slot a b by s None line slot_is below (declared_less (Some wholes) declares)
      (turns_unscoped told (Some wholes) declares r.3 (in_loop env free below) (λ new. sound told (Some wholes) t room.1 r.4 c calls new))
      (λ new. three.0 new) (λ new. three.1.0 new) (λ new. three.1.1.0 new)
  sound told (Some wholes) (typed.loop {env = env} {free = free} {behind = behind} {between = between} {slot = slot} {a = a} {b = b} {c = by} {s = s}
      {control = control} {line = line} slot_is (typed.scoped {first = first} {rest = rest}) declares is are t) below r c calls heap =
      let room = loop_room free declares are below in
      let three = sound_each told (Some wholes) are room.0 (r.0, (r.1, (r.2, tt))) c calls in
      sound_loop free control (Some wholes) c heap slot a b by s (Some (class_text (codes "scope") (first ∷ rest))) line slot_is below
      (λ new frame h. (declared_over declares new frame h.0, h.1))
      (turns_scoped told wholes (class_text (codes "scope") (first ∷ rest)) r.3.0 declares r.3.1 (in_loop env free below)
      (λ new. sound told (Some (r.3.0.fields ∷ wholes)) t room.1 r.3.2 c calls new))
      (λ new. three.0 new) (λ new. three.1.0 new) (λ new. three.1.1.0 new)
  sound told None (typed.scan q_is s_is are) below r c calls heap = absurd r
  sound told (Some wholes) (typed.scan {env = env} {free = free} {string = string} {a = a} {f = f} {q = q} {s = s} {line = line} q_is s_is are) below r c calls
      heap =
      let inside = in_scan env free below in
      let both = sound_each told (Some wholes) are inside (r.0, (r.1, tt)) c calls in
      scan_sound in_scopes c.bound line string q s (λ procedure args. call_meant c line procedure args)
      (λ at low high new v. spare free env.locals at types.Pntr v (omega (arith, low, q_is)) below)
      (λ at low high new v. spare free env.locals at types.Int v (omega (arith, low, s_is)) below)
      (λ at low high new v. spare free env.locals at types.Str v (omega (arith, low, q_is)) below)
      (λ at low high new v. spare free env.locals at (caller (key_type string)) v (omega (arith, low, q_is)) below)
      (λ new. both.0 new) (λ new. both.1.0 new)
      (λ from procedure is now args more vs. sound_call in_scopes c calls line procedure args (two (key_type string) types.Pntr) types.Bool
      (of_kept by_rules from now more (caller (key_type string)) procedure is) vs)
  sound told None (typed.literal is_body) below r c calls heap = absurd r
  sound told (Some wholes) (typed.literal {env = env} {params = params} {gives = gives} {tree = tree} {scope = text} {line = line} is_body) below r c calls
      heap =
      sound_procedure in_scopes (body params gives tree text line) (types.Proc (types_of_params params) gives) (λ now frame are.
      record { wholes = wholes; scopes = env.scopes; typed = is_body; runs = r; stand = are.1; ty_is = refl })

  sound_each : (told : Told) (wholes : Option (List (List Field))) {env : Env} {free behind : Free} {claims : List Claim} →
      AreTyped env free claims behind → AllBelow env.locals free → AllRunClaims wholes claims → (c : Context) → AreCalls wholes c →
      AreSound in_scopes (stand wholes env) c claims
  sound_each told wholes typed.AreTyped.no_more below r c calls = tt
  sound_each told wholes (typed.AreTyped.one_more {env = env} {free = free} {between = between} first others) below r c calls = (
    λ heap. sound told wholes first below r.0 c calls heap,
    sound_each told wholes others (below_climbs free between env.locals (climbs first) below) r.1 c calls,
  )

  pub sound_items : (told : Told) (wholes : Option (List (List Field))) {env last : Env} {free behind : Free} {before ty : TyView} {items : Nodes} →
      AreItems env free before items ty last behind →
      AllBelow env.locals free → AllRunIn wholes items → (c : Context) → AreCalls wholes c → (heap : Heap) (v : Value) → IsOf heap before v →
      Sound in_scopes heap (stand wholes env) (stand wholes env) ty (eval_all c v items)
  sound_items told wholes typed.at_end below r c calls heap v is = sound_give in_scopes v is
  sound_items told wholes (typed.a_clause {env = env} {free = free} {between = between} first others) below r c calls heap v is =
      sound_then in_scopes (sound told wholes first below r.0 c calls heap)
      (λ h1 w g of. sound_items told wholes others (below_climbs free between env.locals (climbs first) below) r.1 c calls h1 w of)
  sound_items told wholes (typed.a_value {env = env} {with_name = with_name} {free = free} {behind = behind} {between = between} isnt declares te others)
      below r c calls heap v is =
      let inside = below_climbs behind between with_name.locals (climbs te) (declared_below declares below) in
      let own = sound told wholes te (below_climbs free behind env.locals (declared_climbs declares) below) r.0.1 c calls heap in
      sound_let told wholes declares r.0.0 below own (λ h1 w of. sound_items told wholes others inside r.1 c calls h1 w of)
  sound_items told None (typed.a_literal declares te others) below r c calls heap v is = absurd r.0.1
  sound_items told (Some wholes) (typed.a_literal {with_name = with_name} {behind = behind} {between = between} declares te others) below r c calls heap v
      is =
      let inside = below_climbs behind between with_name.locals (climbs te) (declared_below declares below) in
      narrowed in_scopes (declared_less (Some wholes) declares)
      (sound_then in_scopes (literal_sound told wholes declares te r.0.1 r.0.0 below heap)
      (λ h1 w g of. sound_items told (Some wholes) others inside r.1 c calls h1 w of))

comes_to : (before : State) (env : Env) (ty : TyView) (o : Outcome) → Comes in_scopes before (stand None env) ty o → ComesTo before.store.held.objects env ty o
comes_to before env ty (Value_is v frame state) h = record { grows = h.grows; typed = h.typed; locals = h.are.0; value = h.value }
comes_to before env ty (Ends e state) h = (h.0, h.1)

pub typed_comes_to : (told : Told) (c : Context) (env : Env) (free behind : Free) (clause : Node) (ty : TyView) (frame : Frame) (state : State) →
    IsTyped env free clause ty behind → Runs clause → AreBelow env free → IsTypedHeld state.store.held → AreLocals state.store.held.objects frame env.locals →
    ComesTo state.store.held.objects env ty (eval c clause frame state)
typed_comes_to told c env free behind clause ty frame state of runs below typed are =
    comes_to state env ty (eval c clause frame state)
    ((sound told None of below runs c tt state.store.held.objects).runs frame state (grows_not state.store.held.objects) typed (are, tt))
