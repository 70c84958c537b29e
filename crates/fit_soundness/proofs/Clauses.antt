-- A fit clause yields a value of its type.
use Rattle.std.proofs.Common.{ℕ, ◌+◌, ◌<◌, ◌≤◌, Bool, true, false, List, [], ◌∷◌, ◌++◌, Option, Some, None, refl, sym, ap, ◌∙◌, arith, if◌then◌else◌}
use Rattle.std.proofs.lemmas.List.{append_assoc}
use Rattle.ps_heap.specs.ps_base.TyView.{TyView}
use Rattle.ps_heap.specs.ps_base.TyView as types
use Rattle.ps_heap.specs.ps_base.declared.line.Line.{Line}
use Rattle.ps_typing_laws.proofs.Tracked.{clauses_of, item_nodes, parts_named}
use Rattle.ps_soundness.specs.ps_type_text.Texts.{class_text}
use Rattle.std.specs.Prelude.{codes}
use Rattle.ps_soundness.specs.ps_program.declared.place.Place.{Place}
use Rattle.ps_soundness.specs.ps_program.declared.place.Place.TheVariants.{Plain, Kept}
use Rattle.ps_soundness.specs.ps_program.Node.{Node, Nodes, none, more, BodyNode, body}
use Rattle.ps_soundness.specs.ps_program.Node as node
use Rattle.ps_soundness.specs.ps_typing.Library.{caller, two}
use Rattle.ps_soundness.specs.ps_typing.WellTyped.{Claim, Rule, types_of_params, Local}
use Rattle.ps_soundness.specs.ps_typing.WellTyped as typed
use Rattle.ps_heap.specs.Values.{Value, Num, Nothing}
use Rattle.ps_heap.specs.Objects.{Heap}
use Rattle.ps_soundness.specs.ps_meaning.Meaning.{Frame, Meaning}
use Rattle.ps_soundness.specs.ps_meaning.Evaluation.{Context, call_meant, eval, eval_all}
use Rattle.ps_soundness.specs.Over.{IsOf}
use Rattle.ps_soundness.proofs.Telling.{Told}
use Rattle.ps_soundness.proofs.Growing.{of_kept, locals_kept}
use Rattle.ps_soundness.proofs.Places.{spare_slot, name_has, name_set}
use Rattle.ps_soundness.proofs.Combining.{Sound, sound_then, sound_give, sound_nothing, sound_get, sound_set, narrowed}
use Rattle.ps_soundness.proofs.Calling.{Answers, sound_call, sound_kept_get, sound_kept_set, sound_procedure}
use Rattle.ps_soundness.proofs.Loops.{Turns, sound_for}
use Rattle.ps_soundness.proofs.Scans.{key_type, scan_sound}
use Rattle.ps_soundness.proofs.Sequences.{AreSound}
use Rattle.ps_soundness.proofs.Rules.{NamesRightly, CallsYield, rule_sound}
use Rattle.heap_fit.specs.Slots.{from, slot_on}
use Rattle.heap_fit.specs.Bodies.{Level, InScope, with_levels, NamesWell, Declares, IsFit, AreFit, AreItems}
use Rattle.heap_fit.specs.Bodies as fit
use Rattle.heap_fit.proofs.InOrder.{slots, all_slots, slots_are, append_slots, none_own, items_are}
use Rattle.fit_soundness.specs.Levels.{HasRoom, fitting}
use Rattle.fit_soundness.proofs.Rooms.{Taken, joint, room_left, room_right, room_as, room_skip, three_spare}
use Rattle.fit_soundness.proofs.Levels.{fits, levels_kept, kept_found, kept_read, kept_put}
use Rattle.fit_soundness.proofs.Standings.{Standing, IsStanding, in_levels, within, stand, sound_set_local, sound_scope}
use Rattle.fit_soundness.proofs.Declaring.{declares_sound, declares_over, declares_levels, declares_less, declares_room, literal_sound}

-- What a clause names.
rightly : {t : Node} {claims : List Claim} {ty : TyView} → Rule t claims ty → NamesWell t → NamesRightly t
rightly typed.int h = h
rightly typed.text h = h
rightly (typed.make of_class are) h = h
rightly (typed.field is_field) h = h
rightly (typed.set_field is_field) h = h
rightly typed.elems h = h
rightly other h = tt

calls_yield : (env : InScope) {t : Node} {claims : List Claim} {ty : TyView} → Rule t claims ty → (c : Context) → Answers in_levels c.call → CallsYield in_levels (stand env) c t
calls_yield env (typed.call {line = line} are) c calls = λ heap v args ps g is of. sound_call in_levels c calls line v args ps g is of
calls_yield env other c calls = tt

-- The slots of its parts.

abbrev pub of_clause : Node → Taken
of_clause t numbers = slots numbers t

abbrev pub of_clauses : List Node → Taken
of_clauses ts numbers = all_slots numbers ts

rule_room : {locals : List Local} {t : Node} {claims : List Claim} {ty : TyView} → Rule t claims ty → HasRoom locals (of_clause t) → HasRoom locals (of_clauses (clauses_of claims))
rule_room {t = t} {claims = claims} r room =
    room_as (of_clause t) (of_clauses (clauses_of claims))
    (λ numbers. slots_are numbers t (clauses_of claims) (parts_named r).0 ∙ ap (λ xs. xs ++ all_slots numbers (clauses_of claims)) (none_own r numbers)) room

set_room : {locals : List Local} (place : Place) (ty : TyView) (e : Node) → HasRoom locals (of_clause (node.SetName place ty e)) → HasRoom locals (of_clause e)
set_room place ty e room =
    room_left (of_clause e) (λ numbers. [])
    (room_as (of_clause (node.SetName place ty e)) (joint (of_clause e) (λ numbers. [])) (λ numbers. slots_are numbers (node.SetName place ty e) (e ∷ []) refl) room)

block_room : {locals : List Local} (scope : Option (List ℕ)) (items : Nodes) → HasRoom locals (of_clause (node.Block scope items)) → HasRoom locals (of_clauses (item_nodes items))
block_room scope items room =
    room_as (of_clause (node.Block scope items)) (of_clauses (item_nodes items)) (λ numbers. slots_are numbers (node.Block scope items) (item_nodes items) (items_are items)) room

abbrev three_nums : ℕ → Taken
three_nums slot numbers = if numbers then from slot 3 else []

loop_room : {locals : List Local} (slot : ℕ) (a b c : Node) (scope : Option (List ℕ)) (control : Place) (s : Node) (line : Line) →
    HasRoom locals (of_clause (node.For slot a b c scope control s line)) →
    HasRoom locals (joint (joint (three_nums slot) (λ numbers. slot_on numbers types.Int control)) (of_clauses (a ∷ b ∷ c ∷ s ∷ [])))
loop_room slot a b c scope control s line room =
    room_as (of_clause (node.For slot a b c scope control s line))
    (joint (joint (three_nums slot) (λ numbers. slot_on numbers types.Int control)) (of_clauses (a ∷ b ∷ c ∷ s ∷ [])))
    (λ numbers. slots_are numbers (node.For slot a b c scope control s line) (a ∷ b ∷ c ∷ s ∷ []) refl) room

-- of the three clauses of a loop, and of its control with what is repeated
room_three : {locals : List Local} (a b c s : Node) → HasRoom locals (of_clauses (a ∷ b ∷ c ∷ s ∷ [])) → HasRoom locals (of_clauses (a ∷ b ∷ c ∷ []))
room_three a b c s room =
    room_left (of_clauses (a ∷ b ∷ c ∷ [])) (of_clauses (s ∷ []))
    (room_as (of_clauses (a ∷ b ∷ c ∷ s ∷ [])) (joint (of_clauses (a ∷ b ∷ c ∷ [])) (of_clauses (s ∷ []))) (λ numbers. append_slots numbers (a ∷ b ∷ c ∷ []) (s ∷ [])) room)

room_turn : {locals : List Local} (slot : ℕ) (control : Place) (a b c s : Node) →
    HasRoom locals (joint (joint (three_nums slot) (λ numbers. slot_on numbers types.Int control)) (of_clauses (a ∷ b ∷ c ∷ s ∷ []))) →
    HasRoom locals (joint (λ numbers. slot_on numbers types.Int control) (of_clause s))
room_turn slot control a b c s room =
    let own : Taken = λ numbers. slot_on numbers types.Int control in
    let last : Taken = of_clauses (s ∷ []) in
    let parted = room_as (joint (joint (three_nums slot) own) (of_clauses (a ∷ b ∷ c ∷ s ∷ []))) (joint (joint (three_nums slot) own) (joint (of_clauses (a ∷ b ∷ c ∷ [])) last))
    (λ numbers. ap (λ xs. (three_nums slot numbers ++ own numbers) ++ xs) (append_slots numbers (a ∷ b ∷ c ∷ []) (s ∷ []))) room in
    let skipped = room_skip (joint (three_nums slot) own) (of_clauses (a ∷ b ∷ c ∷ [])) last parted in
    let behind = room_right (three_nums slot) (joint own last)
    (room_as (joint (joint (three_nums slot) own) last) (joint (three_nums slot) (joint own last)) (λ numbers. append_assoc (three_nums slot numbers) (own numbers) (last numbers)) skipped) in
    room_left (joint own (of_clause s)) (λ numbers. [])
    (room_as (joint own last) (joint (joint own (of_clause s)) (λ numbers. [])) (λ numbers. sym (append_assoc (own numbers) (slots numbers s) [])) behind)

abbrev scan_slots : ℕ → ℕ → Taken
scan_slots q s numbers = if numbers then from s 3 else from q 3

scan_room : {locals : List Local} (string : Bool) (a f : Node) (q s : ℕ) (line : Line) → HasRoom locals (of_clause (node.Scan string a f q s line)) →
    HasRoom locals (joint (scan_slots q s) (of_clauses (a ∷ f ∷ [])))
scan_room string a f q s line room =
    room_as (of_clause (node.Scan string a f q s line)) (joint (scan_slots q s) (of_clauses (a ∷ f ∷ []))) (λ numbers. slots_are numbers (node.Scan string a f q s line) (a ∷ f ∷ []) refl) room

-- of a name that is declared, of its clause, and of what comes after it
let_room : {locals : List Local} (place : Place) (ty : TyView) (e : Node) (rest : Nodes) → HasRoom locals (of_clauses (item_nodes (more (node.Let place ty e) rest))) →
    HasRoom locals (joint (λ numbers. slot_on numbers ty place) (joint (of_clause e) (of_clauses (item_nodes rest))))
let_room place ty e rest room =
    room_as (of_clauses (item_nodes (more (node.Let place ty e) rest))) (joint (λ numbers. slot_on numbers ty place) (joint (of_clause e) (of_clauses (item_nodes rest))))
    (λ numbers. ap (λ xs. xs ++ all_slots numbers (item_nodes rest)) (slots_are numbers (node.Let place ty e) (e ∷ []) refl)
    ∙ append_assoc (slot_on numbers ty place) (slots numbers e ++ []) (all_slots numbers (item_nodes rest))
    ∙ ap (λ xs. slot_on numbers ty place ++ xs) (append_assoc (slots numbers e) [] (all_slots numbers (item_nodes rest)))) room

-- A loop by `for`, where what is known after a turn is known before it.
sound_loop : {env : InScope} {own : Standing} (control : Place) (c : Context) (heap : Heap) (slot : ℕ) (a b by s : Node) (scope : Option (List ℕ)) (line : Line) →
    HasRoom env.locals (three_nums slot) → ((new : Heap) (frame : Frame) → IsStanding new frame own → IsStanding new frame (stand env)) →
    Turns in_levels (stand env) own scope control (eval c s) →
    ((new : Heap) → Sound in_levels new (stand env) (stand env) types.Int (eval c a)) →
    ((new : Heap) → Sound in_levels new (stand env) (stand env) types.Int (eval c b)) →
    ((new : Heap) → Sound in_levels new (stand env) (stand env) types.Int (eval c by)) →
    Sound in_levels heap (stand env) (stand env) types.Void (eval c (node.For slot a b by scope control s line))
unfolding eval
sound_loop {env = env} {own = own} control c heap slot a b by s scope line room less turns ha hb hc =
    let spares = λ (at : ℕ) (low : slot ≤ at) (high : at < slot + 3). three_spare env.locals true (three_nums slot) slot at low high refl room.free in
    sound_for in_levels c.bound line slot scope control (eval c s)
    (λ at low high new v. sound_set_local at types.Int v (λ now frame g are. spare_slot fits now frame types.Int at v env.locals (spares at low high) are))
    turns
    (λ z new. sound_set in_levels slot types.Int (Num z) (λ now frame g are.
    let before = less now frame are in
    (spare_slot fits now frame types.Int slot (Num z) env.locals (spares slot (omega arith) (omega arith)) before.0, before.1)))
    ha hb hc (λ new. narrowed in_levels less (sound_nothing in_levels))

turns_unscoped : (told : Told) {scope : Option (List ℕ)} {env own : InScope} {control : Place} {clause : Meaning} (rest : Taken) → Declares scope env control types.Int own →
    HasRoom env.locals (joint (λ numbers. slot_on numbers types.Int control) rest) →
    ((new : Heap) → Sound in_levels new (stand own) (stand own) types.Void clause) → Turns in_levels (stand env) (stand own) None control clause
turns_unscoped told rest declares room h z is new =
    sound_then in_levels (declares_sound told rest declares refl room new (Num z) is) (λ h2 u g is_done. h h2)

mutual
  unfolding eval eval_all

  pub sound : (told : Told) {env : InScope} {t : Node} {ty : TyView} → IsFit env t ty → HasRoom env.locals (of_clause t) → (c : Context) → Answers in_levels c.call → (heap : Heap) →
      Sound in_levels heap (stand env) (stand env) ty (eval c t)
  sound told (fit.by_rule {env = env} rule names parts) room c calls heap =
      rule_sound in_levels told {known = stand env} rule c (sound_each told parts (rule_room rule room) c calls) (rightly rule names) (calls_yield env rule c calls) heap
  sound told (fit.name {env = env} {place = Plain slot} {ty = ty} at) room c calls heap =
      sound_get in_levels slot ty (λ now frame are. name_has fits now frame slot ty env.locals at are.0)
  sound told (fit.name {env = env} {place = Kept up position} {ty = ty} at) room c calls heap =
      sound_kept_get in_levels up position ty (λ now frame typed are. kept_read told now frame.scope up position ty typed (kept_found now env.levels frame.scope up position ty at are.1))
  sound told (fit.set_name {env = env} {place = Plain slot} {ty = ty} {e = e} at te) room c calls heap =
      sound_then in_levels (sound told te (set_room (Plain slot) ty e room) c calls heap) (λ h1 v g is. sound_set_local slot ty v (λ now frame k are.
      name_set fits told now frame slot ty v env.locals (name_has fits now frame slot ty env.locals at are) (of_kept fits h1 now k ty v is) are))
  sound told (fit.set_name {env = env} {place = Kept up position} {ty = ty} {e = e} at te) room c calls heap =
      sound_then in_levels (sound told te (set_room (Kept up position) ty e room) c calls heap) (λ h1 v g is. sound_kept_set in_levels up position ty v (λ now frame k typed are.
      let put = kept_put told now frame.scope up position ty v typed (kept_found now env.levels frame.scope up position ty at are.1) (of_kept fits h1 now k ty v is) in
      (put.0, put.1, (locals_kept fits now _ put.0 frame env.locals are.0, levels_kept now _ put.0 env.levels frame.scope are.1))))
  sound told (fit.block {items = items} fit.unscoped are) room c calls heap = sound_items told are (block_room None items room) c calls heap Nothing tt
  sound told (fit.block {items = items} (fit.scoped {first = first} {rest = rest} named) are) room c calls heap =
      sound_scope (first ∷ rest) named (λ new g. sound_items told are (block_room (Some (class_text (codes "scope") (first ∷ rest))) items room) c calls new Nothing tt)
  sound told (fit.loop {env = env} {slot = slot} {a = a} {b = b} {c = by} {s = s} {control = control} {line = line} fit.unscoped declares are t) room c calls heap =
      let whole = loop_room slot a b by None control s line room in
      let controls : Taken = λ numbers. slot_on numbers types.Int control in
      let parts = room_right (joint (three_nums slot) controls) (of_clauses (a ∷ b ∷ by ∷ s ∷ [])) whole in
      let inner = room_turn slot control a b by s whole in
      let three = sound_each told are (room_three a b by s parts) c calls in
      sound_loop {env = env} control c heap slot a b by s None line (room_left (three_nums slot) controls (room_left (joint (three_nums slot) controls) (of_clauses (a ∷ b ∷ by ∷ s ∷ [])) whole))
      (declares_less declares)
      (turns_unscoped told (of_clause s) declares inner (λ new. sound told t (declares_room (of_clause s) declares inner) c calls new))
      three.0 three.1.0 three.1.1.0
  sound told (fit.loop {env = env} {own = own} {slot = slot} {a = a} {b = b} {c = by} {s = s} {control = control} {line = line} (fit.scoped {first = first} {rest = rest} named) declares are t)
      room c calls heap =
      let text = class_text (codes "scope") (first ∷ rest) in
      let whole = loop_room slot a b by (Some text) control s line room in
      let controls : Taken = λ numbers. slot_on numbers types.Int control in
      let parts = room_right (joint (three_nums slot) controls) (of_clauses (a ∷ b ∷ by ∷ s ∷ [])) whole in
      let inner = room_turn slot control a b by s whole in
      let three = sound_each told are (room_three a b by s parts) c calls in
      sound_loop {env = env} {own = within own.locals env.levels} control c heap slot a b by s (Some text) line
      (room_left (three_nums slot) controls (room_left (joint (three_nums slot) controls) (of_clauses (a ∷ b ∷ by ∷ s ∷ [])) whole))
      (λ new frame h. (declares_over declares new frame h.0, h.1))
      (λ z is new. sound_scope (first ∷ rest) named (λ inside g.
      narrowed in_levels (λ at frame h. (h.0, declares_levels declares at frame.scope h.1))
      (turns_unscoped told (of_clause s) declares inner (λ later. sound told t (declares_room (of_clause s) declares inner) c calls later) z is inside)))
      three.0 three.1.0 three.1.1.0
  sound told (fit.scan {env = env} {string = string} {a = a} {f = f} {q = q} {s = s} {line = line} are) room c calls heap =
      let whole = scan_room string a f q s line room in
      let free = (room_left (scan_slots q s) (of_clauses (a ∷ f ∷ [])) whole).free in
      let both = sound_each told are (room_right (scan_slots q s) (of_clauses (a ∷ f ∷ [])) whole) c calls in
      scan_sound in_levels c.bound line string q s (λ procedure args. call_meant c line procedure args)
      (λ at low high new v. sound_set_local at types.Pntr v (λ now frame g are. spare_slot fits now frame types.Pntr at v env.locals (three_spare env.locals false (scan_slots q s) q at low high refl free) are))
      (λ at low high new v. sound_set_local at types.Int v (λ now frame g are. spare_slot fits now frame types.Int at v env.locals (three_spare env.locals true (scan_slots q s) s at low high refl free) are))
      (λ at low high new v. sound_set_local at types.Str v (λ now frame g are. spare_slot fits now frame types.Str at v env.locals (three_spare env.locals false (scan_slots q s) q at low high refl free) are))
      (λ at low high new v. sound_set_local at (caller (key_type string)) v (λ now frame g are.
      spare_slot fits now frame (caller (key_type string)) at v env.locals (three_spare env.locals false (scan_slots q s) q at low high refl free) are))
      both.0 both.1.0
      (λ from procedure is now args more vs. sound_call in_levels c calls line procedure args (two (key_type string) types.Pntr) types.Bool
      (of_kept fits from now more (caller (key_type string)) procedure is) vs)
  sound told (fit.literal {env = env} {params = params} {gives = gives} {tree = tree} {scope = text} {line = line} is_body) room c calls heap =
      sound_procedure in_levels (body params gives tree text line) (types.Proc (types_of_params params) gives) (λ now frame are.
      record { levels = env.levels; fit = is_body; stand = are.1; ty_is = refl })

  sound_each : (told : Told) {env : InScope} {claims : List Claim} → AreFit env claims → HasRoom env.locals (of_clauses (clauses_of claims)) → (c : Context) → Answers in_levels c.call →
      AreSound in_levels (stand env) c claims
  sound_each told fit.AreFit.no_more room c calls = tt
  sound_each told (fit.one_more {clause = clause} {rest = rest} first others) room c calls = (
    λ heap. sound told first (room_left (of_clause clause) (of_clauses (clauses_of rest)) room) c calls heap,
    sound_each told others (room_right (of_clause clause) (of_clauses (clauses_of rest)) room) c calls,
  )

  sound_items : (told : Told) {scope : Option (List ℕ)} {env last : InScope} {before ty : TyView} {items : Nodes} → AreItems scope env before items ty last → HasRoom env.locals (of_clauses (item_nodes items)) →
      (c : Context) → Answers in_levels c.call → (heap : Heap) (v : Value) → IsOf fitting heap before v → Sound in_levels heap (stand env) (stand env) ty (eval_all c v items)
  sound_items told fit.at_end room c calls heap v is = sound_give in_levels v is
  sound_items told (fit.a_clause {item = item} {rest = rest} first others) room c calls heap v is =
      sound_then in_levels (sound told first (room_left (of_clause item) (of_clauses (item_nodes rest)) room) c calls heap)
      (λ h1 w g of. sound_items told others (room_right (of_clause item) (of_clauses (item_nodes rest)) room) c calls h1 w of)
  sound_items told (fit.a_value {place = place} {e = e} {rest = rest} {of = of_type} isnt declares te others) room c calls heap v is =
      let whole = let_room place of_type e rest room in
      let after = joint (of_clause e) (of_clauses (item_nodes rest)) in
      let inside = room_right (λ numbers. slot_on numbers of_type place) after whole in
      let next = room_right (of_clause e) (of_clauses (item_nodes rest)) (declares_room after declares whole) in
      narrowed in_levels (declares_less declares)
      (sound_then in_levels
      (sound_then in_levels (sound told te (room_left (of_clause e) (of_clauses (item_nodes rest)) inside) c calls heap) (λ h1 w g is_w. declares_sound told after declares isnt whole h1 w is_w))
      (λ h2 u g is_u. sound_items told others next c calls h2 u is_u))
  sound_items told (fit.a_literal {place = place} {procedure = procedure} {rest = rest} {of = of_type} declares te others) room c calls heap v is =
      let e = node.Proc procedure in
      let whole = let_room place of_type e rest room in
      let after = joint (of_clause e) (of_clauses (item_nodes rest)) in
      let next = room_right (of_clause e) (of_clauses (item_nodes rest)) (declares_room after declares whole) in
      narrowed in_levels (declares_less declares)
      (sound_then in_levels (literal_sound told after declares te whole heap) (λ h1 u g is_u. sound_items told others next c calls h1 u is_u))
