-- What the words of a machine name stays in the area, and is named as words are pushed, popped and written.
use Rattle.std.proofs.Common.{◌≡◌, ℕ, zero, suc, ◌+◌, ◌<◌, ◌-◌, ◌++◌, ◌∷◌, [], List, Option, Some, None, length, get_or, set, take, drop, sym, ap, ◌∙◌, subst}
use Rattle.std.specs.Prelude.{All, IfSome, replicate}
use Rattle.std.proofs.lemmas.List.Elements.{All-weaker, All-push, All-pop, All-set, All-get_or, All-take, All-drop, All-append, All-replicate}
use Rattle.joint_ops.specs.swizzle.Heap as area
use Rattle.joint_ops.specs.swizzle.Heap.{IsHeld, Stands as AllStand}
use Rattle.joint_ops.specs.proc_values.declared.reading.CodePlace.{CodePlace}
use Rattle.joint_ops.specs.proc_values.Reading.{IsPlaceOf}
use Rattle.frame_stack.specs.Frames.{Frames}
use Rattle.joint_held.specs.db_dir.Directories.{HasPlaces, IsShaped}
use Rattle.joint_held.specs.reach_commit.Becoming.{IsNewRoot}
use Rattle.joint_held.specs.reach_commit.commit_walk.declared.homes.Source.{Source}
use Rattle.machine_core.specs.declared.body.Body.{Body}
use Rattle.machine_core.specs.declared.caller.Caller.{Caller}
use Rattle.machine_core.specs.declared.machine.Machine.{Machine}
use Rattle.machine_core.specs.declared.stepped.Item.{Item}
use Rattle.machine_core.specs.declared.stepped.Item.TheVariants as item
use Rattle.machine_core.specs.Items.{IsItem}
use Rattle.machine_core.specs.Rows.{object_in, word_of}
use Rattle.machine_core.specs.Words.{Words}
use Rattle.machine_core.specs.Calling.{IsThere}
use Rattle.machine_core.specs.Naming.{IsNamed, IsKept, NamesDatabases, NamesIn, NamesObjects, naming}
use Rattle.machine_core.specs.inside.Handing.{IsEntered, caller_of}

module _ (old new : area.Heap) (stand : AllStand old new) where
  -- what lies in the area lies there still, where all objects stay
  pub held-last : (to : Option ℕ) → IfSome to (IsHeld old) → IfSome to (IsHeld new)
  held-last None held = tt
  held-last (Some at) held = (stand at held).held

  pub place-last : (code : ℕ) (place : CodePlace) → IsPlaceOf old code place → IsPlaceOf new code place
  place-last code place is =
      let s = stand code is.held in
      record {
        held = s.held;
        kind = s.kind ∙ is.kind;
        first_is = is.first_is ∙ ap (λ (n : ℕ). code + 6 + n) (sym s.refs);
        count_is = is.count_is ∙ sym s.bytes;
      }

  kept-last : (of : Caller) → IsKept old of → IsKept new of
  kept-last of is = record { code = place-last of.code of.place is.code; scope = held-last (object_in of.scope) is.scope }

  item-last : (it : Item) → IsItem old it → IsItem new it
  item-last (item.Int z) is = tt
  item-last (item.Flag b) is = tt
  item-last (item.Text at) is = let s = stand at is.0 in (s.held, s.kind ∙ is.1)

  shaped-last : (directory : Option ℕ) → IfSome directory (IsShaped old) → IfSome directory (IsShaped new)
  shaped-last None is = tt
  shaped-last (Some at) is =
      let s = stand at is.held in
      record {
        held = s.held;
        kind_is = s.kind ∙ is.kind_is;
        home = s.nums ∙ is.home;
        count = is.count;
        places = subst (λ (n : ℕ). HasPlaces n is.count) (sym s.refs) is.places;
      }

  root-last : (writing : List Source) (place at : ℕ) → IsNewRoot old writing place at → IsNewRoot new writing place at
  root-last writing place at is =
      let s = stand at is.held in
      record { held = s.held; unstored = s.pid ∙ is.unstored; kind = s.kind ∙ is.kind; only = is.only }

  pub databases-last : (writing : List Source) (directory : Option ℕ) (places : ℕ) → NamesDatabases old writing directory places → NamesDatabases new writing directory places
  databases-last writing directory places (naming shaped roots room) =
      naming (shaped-last directory shaped) (λ place at below is. root-last writing place at (roots place at below is)) room

  -- so do all that a machine's words name
  pub names-last : (w : Words) (it : Item) → NamesIn old w it → NamesIn new w it
  names-last w it n = record {
    code = place-last w.code w.place n.code;
    scope = held-last (object_in w.scope) n.scope;
    own = All-weaker (λ word. IsNamed old word) (λ word. IsNamed new word) (λ word. held-last (object_in word)) w.refs.own n.own;
    below = All-weaker (λ word. IsNamed old word) (λ word. IsNamed new word) (λ word. held-last (object_in word)) w.refs.below n.below;
    callers = All-weaker (λ caller. IsKept old caller) (λ caller. IsKept new caller) kept-last w.callers n.callers;
    item = item-last it n.item;
    databases = databases-last w.writing w.directory w.places n.databases;
  }

module _ (here : area.Heap) where
  -- the word of an object of the area, or of none, names it
  pub word-named : (to : Option ℕ) → IfSome to (IsHeld here) → IsNamed here (word_of to)
  word-named None held = tt
  word-named (Some zero) held = tt
  word-named (Some (suc n)) held = held

  -- the references of the body that runs are others, and those of the bodies that wait stay
  pub names-own : (w : Words) (it : Item) (refs : Frames ℕ) → NamesIn here w it → refs.below ≡ w.refs.below → All (λ word. IsNamed here word) refs.own
      → NamesIn here (record w { refs = refs }) it
  names-own w it refs n same own = record {
    code = n.code;
    scope = n.scope;
    own = own;
    below = subst (λ (ws : List ℕ). All (λ word. IsNamed here word) ws) (sym same) n.below;
    callers = n.callers;
    item = n.item;
    databases = n.databases;
  }

  -- one more is pushed, or the top is popped, or one is written
  pub names-pushed : (w : Words) (it : Item) (refs : Frames ℕ) (word : ℕ) → NamesIn here w it → refs.below ≡ w.refs.below → refs.own ≡ w.refs.own ++ word ∷ []
      → IsNamed here word → NamesIn here (record w { refs = refs }) it
  names-pushed w it refs word n same own is =
      names-own w it refs n same
      (subst (λ (ws : List ℕ). All (λ word. IsNamed here word) ws) (sym own) (All-push (λ word. IsNamed here word) w.refs.own word n.own is))

  pub names-popped : (w : Words) (it : Item) (refs : Frames ℕ) (word : ℕ) → NamesIn here w it → refs.below ≡ w.refs.below → w.refs.own ≡ refs.own ++ word ∷ []
      → NamesIn here (record w { refs = refs }) it × IsNamed here word
  names-popped w it refs word n same own =
      let both = All-pop (λ word. IsNamed here word) w.refs.own refs.own (Some word) own n.own in
      (names-own w it refs n same both.0, both.1)

  pub names-written : (w : Words) (it : Item) (refs : Frames ℕ) (slot word : ℕ) → NamesIn here w it → refs.below ≡ w.refs.below → refs.own ≡ set w.refs.own slot word
      → IsNamed here word → NamesIn here (record w { refs = refs }) it
  names-written w it refs slot word n same own is =
      names-own w it refs n same
      (subst (λ (ws : List ℕ). All (λ word. IsNamed here word) ws) (sym own) (All-set (λ word. IsNamed here word) w.refs.own slot word is n.own))

  -- a word of the body that runs
  pub word-there : (w : Words) (it : Item) (place word : ℕ) → NamesIn here w it → place < length w.refs.own → word ≡ get_or w.refs.own place word → IsNamed here word
  word-there w it place word n below is =
      subst (λ (x : ℕ). IsNamed here x) (sym is) (All-get_or (λ word. IsNamed here word) w.refs.own place word below n.own)

  -- the last body that waits goes on with some of the words below
  pub names-resumed : (w v : Words) (it : Item) (last : Caller) → NamesIn here w it → w.callers ≡ v.callers ++ last ∷ [] → v.code ≡ last.code → v.place ≡ last.place
      → v.scope ≡ last.scope → v.writing ≡ w.writing → v.directory ≡ w.directory → v.places ≡ w.places → (own from low : ℕ) → v.refs.own ≡ take own (drop from w.refs.below) → v.refs.below ≡ take low w.refs.below → NamesIn here v it
  names-resumed w v it last n split code place scope writing directory places own from low own_are below_are =
      let all = All-pop (λ caller. IsKept here caller) w.callers v.callers (Some last) split n.callers in
      let words = n.below in
      record {
        code = subst (λ (x : ℕ). IsPlaceOf here x v.place) (sym code) (subst (λ (p : CodePlace). IsPlaceOf here last.code p) (sym place) all.1.code);
        scope = subst (λ (x : ℕ). IsNamed here x) (sym scope) all.1.scope;
        own =
            subst (λ (ws : List ℕ). All (λ word. IsNamed here word) ws) (sym own_are)
            (All-take (λ word. IsNamed here word) own (drop from w.refs.below) (All-drop (λ word. IsNamed here word) from w.refs.below words));
        below = subst (λ (ws : List ℕ). All (λ word. IsNamed here word) ws) (sym below_are) (All-take (λ word. IsNamed here word) low w.refs.below words);
        callers = all.0;
        item = n.item;
        databases = subst (λ (d : Option ℕ). NamesDatabases here v.writing d v.places) (sym directory)
            (subst (λ (n : ℕ). NamesDatabases here v.writing w.directory n) (sym places)
            (subst (λ (ds : List Source). NamesDatabases here ds w.directory w.places) (sym writing) n.databases));
      }

-- the body that ran waits, and another one begins with its arguments
pub names-entered : (body : Body) (args : ℕ) (old new : Machine) → IsEntered body args old new → NamesObjects old → IsThere old.objects body → NamesObjects new
names-entered body args old new e n there =
    subst (λ (m : Machine). NamesObjects m) (sym e.new_is) (record {
      code = there.code;
      scope = there.scope;
      own =
          subst (λ (ws : List ℕ). All (IsNamed old.objects) ws) (sym e.own_refs)
          (All-append (IsNamed old.objects) (drop (e.low_refs + 1) old.refs.own) (replicate (body.frame.refs - args) 0)
          (All-drop (IsNamed old.objects) (e.low_refs + 1) old.refs.own n.own) (All-replicate (IsNamed old.objects) (body.frame.refs - args) 0 tt));
      below =
          subst (λ (ws : List ℕ). All (IsNamed old.objects) ws) (sym e.refs_below)
          (All-append (IsNamed old.objects) old.refs.below (take (e.low_refs + 1) old.refs.own) n.below (All-take (IsNamed old.objects) (e.low_refs + 1) old.refs.own n.own));
      callers =
          let own = caller_of old e.low_nums (e.low_refs + 1) in
          subst (λ (cs : List Caller). All (λ caller. IsKept old.objects caller) cs) (sym e.callers_are)
          (All-push (λ caller. IsKept old.objects caller) old.callers.items own n.callers (record { code = n.code; scope = n.scope }));
      item = n.item;
      databases = n.databases;
    })
