-- What a machine's words name lies in the area after a commit that saved, and no root of a database is new.
use Rattle.std.proofs.Common.{◌≡◌, ℕ, zero, suc, ◌+◌, ◌≤◌, List, [], ◌∷◌, Option, Some, None, refl, sym, ap, ◌∙◌, subst}
use Rattle.std.specs.Prelude.{IfSome}
use Rattle.std.proofs.lemmas.List.Elements.{All-weaker}
use Rattle.machine_core.specs.swizzle.Heap as area
use Rattle.machine_core.specs.swizzle.Heap.{IsHeld}
use Rattle.machine_core.specs.proc_values.declared.reading.CodePlace.{CodePlace}
use Rattle.machine_core.specs.proc_values.Reading.{IsPlaceOf}
use Rattle.machine_core.specs.ps_heap.ps_base.Limits.{most_databases}
use Rattle.machine_core.specs.joint_held.db_dir.Directories.{HasPlaces, IsShaped}
use Rattle.machine_core.specs.joint_held.reach_commit.Committing.{Remains}
use Rattle.machine_core.specs.joint_held.reach_commit.commit_walk.Homes.{source_at}
use Rattle.machine_core.specs.joint_held.reach_commit.commit_walk.declared.homes.Source.{Source}
use Rattle.machine_core.specs.declared.caller.Caller.{Caller}
use Rattle.machine_core.specs.declared.stepped.Item.{Item}
use Rattle.machine_core.specs.declared.stepped.Item.TheVariants as item
use Rattle.machine_core.specs.Items.{IsItem}
use Rattle.machine_core.specs.Rows.{object_in}
use Rattle.machine_core.specs.Words.{Words}
use Rattle.machine_core.specs.Naming.{IsNamed, IsKept, NamesDatabases, NamesIn, naming}
use Rattle.joint_commit.specs.Saving.{none_made}

no-root : (writing : List Source) (place : ℕ) → (source_at (none_made writing) place).root ≡ None
no-root [] place = refl
no-root (w ∷ ws) zero = refl
no-root (w ∷ ws) (suc place) = no-root ws place

module _ (old new : area.Heap) (r : Remains old new) where
  held-still : (to : Option ℕ) → IfSome to (IsHeld old) → IfSome to (IsHeld new)
  held-still None held = tt
  held-still (Some at) held = r.held at held

  place-still : (code : ℕ) (place : CodePlace) → IsPlaceOf old code place → IsPlaceOf new code place
  place-still code place is = record {
    held = r.held code is.held;
    kind = r.kind code ∙ is.kind;
    first_is = is.first_is ∙ ap (λ (n : ℕ). code + 6 + n) (sym (r.refs_count code));
    count_is = is.count_is ∙ sym (r.bytes code);
  }

  kept-still : (of : Caller) → IsKept old of → IsKept new of
  kept-still of is = record { code = place-still of.code of.place is.code; scope = held-still (object_in of.scope) is.scope }

  item-still : (it : Item) → IsItem old it → IsItem new it
  item-still (item.Int z) is = tt
  item-still (item.Flag b) is = tt
  item-still (item.Text at) is = (r.held at is.0, r.kind at ∙ is.1)

  shaped-still : (directory : Option ℕ) → IfSome directory (IsShaped old) → IfSome directory (IsShaped new)
  shaped-still None is = tt
  shaped-still (Some at) is = record {
    held = r.held at is.held;
    kind_is = r.kind at ∙ is.kind_is;
    home = r.nums_count at ∙ is.home;
    count = is.count;
    places = subst (λ (n : ℕ). HasPlaces n is.count) (sym (r.refs_count at)) is.places;
  }

  -- no root is new
  databases-still : (writing now : List Source) (directory : Option ℕ) (places room : ℕ) → NamesDatabases old writing directory places → now ≡ none_made writing → room ≡ places
      → NamesDatabases new now directory room
  databases-still writing now directory places room (naming shaped roots wide) is roomy =
      naming (shaped-still directory shaped)
      (λ place at below e. let bad : None ≡ Some at = sym (no-root writing place) ∙ (ap (λ (ws : List Source). (source_at ws place).root) (sym is) ∙ e) in absurd (cc))
      (subst (λ (n : ℕ). most_databases ≤ n) (sym roomy) wide)

  -- so do all that a machine's words name
  pub names-saved : (w : Words) (it : Item) (writing : List Source) (places : ℕ) → NamesIn old w it → writing ≡ none_made w.writing → places ≡ w.places
      → NamesIn new (record w { writing = writing; places = places }) it
  names-saved w it writing places n is roomy = record {
    code = place-still w.code w.place n.code;
    scope = held-still (object_in w.scope) n.scope;
    own = All-weaker (λ word. IsNamed old word) (λ word. IsNamed new word) (λ word. held-still (object_in word)) w.refs.own n.own;
    below = All-weaker (λ word. IsNamed old word) (λ word. IsNamed new word) (λ word. held-still (object_in word)) w.refs.below n.below;
    callers = All-weaker (λ caller. IsKept old caller) (λ caller. IsKept new caller) kept-still w.callers n.callers;
    item = item-still it n.item;
    databases = databases-still w.writing writing w.directory w.places places n.databases is roomy;
  }
