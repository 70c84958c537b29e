-- An error record beside what a run holds.
use Rattle.std.proofs.Common.{arith, ◌≡◌, ℕ, ◌+◌, ◌*◌, List, [], ◌∷◌, refl, sym, ap, subst, Option, Some, None, Result, Ok, Err, IfOk, IfErr}
use Rattle.joint_held.specs.joint_ops.ps_outside.Outside.{Outside}
use Rattle.joint_held.specs.joint_ops.obj_layout.Stored.{Space}
use Rattle.joint_held.specs.joint_ops.obj_layout.declared.kind.Kind.TheVariants as kind
use Rattle.joint_held.specs.joint_ops.obj_layout.declared.reference.Reference.{Reference}
use Rattle.joint_held.specs.joint_ops.swizzle.declared.fault.SwizzleFault.{SwizzleFault}
use Rattle.joint_held.specs.joint_ops.swizzle.Objects.{Object, size_of}
use Rattle.joint_held.specs.joint_ops.swizzle.Heap.{Heap, IsHeap, IsHeld}
use Rattle.joint_held.specs.joint_ops.swizzle.Joint.{name_at}
use Rattle.joint_held.specs.joint_ops.swizzle.Touch.{Keeps}
use Rattle.joint_ops.proofs.of_swizzle.MadeLaws.{made-held, made-object}
use Rattle.joint_ops.proofs.of_swizzle.JointLaws.{held-lt}
use Rattle.joint_ops.proofs.GrowthLaws.{made-keeps}
use Rattle.joint_held.specs.joint_ops.heap_texts.Texts.{text_object}
use Rattle.joint_held.specs.joint_ops.text_forms.declared.forms.Form.{Form}
use Rattle.joint_held.specs.joint_ops.heap_places.declared.value.Value as code
use Rattle.joint_held.specs.joint_ops.heap_places.declared.value.Value.TheVariants.{Ref}
use Rattle.joint_held.specs.joint_ops.heap_places.Filling.{filled, filled_words, refs_of, words_of, AreNear, Fills}
use Rattle.joint_held.specs.joint_ops.heap_meaning.Paired.{and_name}
use Rattle.joint_ops.proofs.of_heap_meaning.PairedLaws.{name-before}
use Rattle.joint_held.specs.joint_ops.text_forms.Forms.{forms_of}
use Rattle.joint_held.specs.joint_ops.Seeing.{Gains}
use Rattle.joint_held.specs.joint_ops.World.{IsWorld, DenotesIn}
use Rattle.joint_held.specs.joint_ops.Operands.{AreForIn}
use Rattle.joint_held.specs.joint_ops.Made.{IsNew, IsNewText}
use Rattle.joint_ops.proofs.TextLaws.{new-text}
use Rattle.joint_ops.proofs.MadeLaws.{makes-structure}
use Rattle.joint_ops.proofs.GainLaws.{gains-then}
use Rattle.joint_ops.proofs.SeenLaws.{keeps-carries}
use Rattle.joint_held.specs.joint_ops.ps_heap.ps_typing.Library.{error_class}
use Rattle.joint_held.specs.joint_ops.ps_heap.Values.{Value, Text, Pointer}
use Rattle.joint_held.specs.joint_ops.ps_heap.Texts.{Yields}
use Rattle.joint_held.specs.joint_ops.ps_heap.Objects as meant
use Rattle.joint_held.specs.joint_ops.ps_heap.Databases.{Fault, fault_text, explain_text}
use Rattle.joint_held.specs.joint_ops.ps_heap.Held.{Held, made}
use Rattle.joint_held.specs.joint_ops.ps_heap.Calls.{error_record}
use Rattle.joint_held.specs.joint_ops.ps_heap.Weights.{own_weight, text_weight, whole_weight}
use Rattle.joint_held.specs.reach_commit.commit_walk.declared.homes.Source.{Source}
use Rattle.joint_held.specs.Held.{HoldsRun}
use Rattle.joint_held.proofs.GainLaws.{holds}
use Rattle.joint_held.proofs.IdLaws.{id-given}
use Rattle.joint_held.proofs.ValueLaws.{counted-run}
use Rattle.error_records.specs.declared.records.Texts.{Texts}
use Rattle.error_records.specs.Records.{itself, LacksRoom, IsNewRecord, IsRefused, Refuses}
use Rattle.error_records.specs.inside.Texts.{IsTextMade, AreMade}
use Rattle.error_records.proofs.Rows.{class-forms}
use Rattle.error_records.proofs.RoomLaws.{IsAfter, one-more, text-more, class-after, context-after, fault-after, no-room}

-- The values of its fields.
abbrev pub fields_of : Texts → List code.Value
fields_of texts = Ref (Some texts.context) ∷ Ref (Some texts.fault) ∷ Ref (Some texts.explain) ∷ []

abbrev meant_fields : List ℕ → Fault → List Value
meant_fields context fault = Text context ∷ Text (fault_text fault) ∷ Text (explain_text fault) ∷ []

abbrev structure_object : Texts → Object
structure_object texts = filled kind.Structure texts.class None (fields_of texts)

module _ (old mid : Heap) (context : List ℕ) (fault : Fault) (texts : Texts) (are : AreMade old mid context fault texts) where
  abbrev texts_weight : ℕ
  texts_weight = text_weight error_class + text_weight context + text_weight (fault_text fault) + text_weight (explain_text fault)

  -- The four texts together.
  pub texts-after : IsAfter old mid texts_weight
  texts-after =
      let a = class-after old are.first texts.class are.class in
      let b = context-after old are.first are.second texts.context context a are.context_made in
      let c = fault-after old are.second are.third texts.fault context fault b are.fault_made in
      text-more old are.third mid texts.explain (text_weight error_class + text_weight context + text_weight (fault_text fault)) texts_weight (explain_text fault) c
      are.explain_made refl

  -- Each lies in the area still.

  second-keeps : Keeps are.first are.second
  second-keeps = made-keeps are.first are.second texts.context (text_object context) are.context_made.was_sound are.context_made.made

  third-keeps : Keeps are.second are.third
  third-keeps = made-keeps are.second are.third texts.fault (text_object (fault_text fault)) are.fault_made.was_sound are.fault_made.made

  last-keeps : Keeps are.third mid
  last-keeps = made-keeps are.third mid texts.explain (text_object (explain_text fault)) are.explain_made.was_sound are.explain_made.made

  text-held : (here there : Heap) (bytes : List ℕ) (at : ℕ) → IsTextMade here there bytes at → IsHeld there at
  text-held here there bytes at t = made-held here there at (text_object bytes) t.made

  still : (here there : Heap) (at : ℕ) → Keeps here there → IsHeld here at → IsHeld there at
  still here there at keeps held = (keeps.objects at held).held

  from-third : (at : ℕ) → IsHeld are.third at → IsHeld mid at
  from-third at held = still are.third mid at last-keeps held

  from-second : (at : ℕ) → IsHeld are.second at → IsHeld mid at
  from-second at held = from-third at (still are.second are.third at third-keeps held)

  pub class-held : IsHeld mid texts.class
  class-held = from-second texts.class (still are.first are.second texts.class second-keeps (text-held old are.first error_class texts.class are.class))

  pub fields-near : AreNear mid (fields_of texts)
  fields-near =
      let explain_held = text-held are.third mid (explain_text fault) texts.explain are.explain_made in
      let fault_held = from-third texts.fault (text-held are.second are.third (fault_text fault) texts.fault are.fault_made) in
      (from-second texts.context (text-held are.first are.second context texts.context are.context_made), (fault_held, (explain_held, tt)))

  module _ (new : Heap) where
    -- There was no room for the structure.

    structure-size : 8 * filled_words None (fields_of texts) ≡ own_weight (error_record context fault)
    unfolding filled_words refs_of words_of
    structure-size = refl

    pub no-structure : (why : SwizzleFault) → Fills mid new kind.Structure texts.class None (fields_of texts) (Err why) → LacksRoom old new context fault why × Keeps old new
    no-structure why full =
        no-room old mid new texts_weight (own_weight (error_record context fault)) (filled_words None (fields_of texts)) context fault why texts-after full structure-size (omega arith)
        itself

    module _ (at : ℕ) (sound : IsHeap new) (m : Fills mid new kind.Structure texts.class None (fields_of texts) (Ok at)) where
      object-size : 8 * size_of (structure_object texts) ≡ own_weight (error_record context fault)
      unfolding filled refs_of words_of
      object-size = refl

      pub all-after : IsAfter old new (texts_weight + own_weight (error_record context fault))
      all-after =
          one-more old mid new at texts_weight (own_weight (error_record context fault)) (texts_weight + own_weight (error_record context fault)) (structure_object texts)
          are.explain_made.sound texts-after m object-size refl

      pub is-new : IsNewRecord old new at
      unfolding filled
      is-new =
          let there = made-object mid new at (structure_object texts) m in
          record {
            kind = ap (λ (o : Object). o.header.kind) there;
            unstored = ap (λ (o : Object). o.header.pid) there;
            fresh = λ held. omega (arith, held-lt old at are.class.was_sound held, texts-after.keeps.top, m.place);
          }

      -- Beside what a run holds.
      module _ (outside : Outside Space) (names : List Reference) (writing : List Source) (directory : Option ℕ) (h : Held)
          (run : HoldsRun old outside names writing directory h) where
        abbrev New : (here there : Heap) (bytes : List ℕ) (at : ℕ) → Type 0
        New here there bytes at = IsNewText here there outside h.objects names bytes at

        new-one : (here there : Heap) (bytes : List ℕ) (at : ℕ) → IsTextMade here there bytes at → IsWorld here outside h.objects names → New here there bytes at
        new-one here there bytes at t world = new-text outside here there h.objects names bytes at t.was_sound t.sound t.good world t.made

        class-new : New old are.first error_class texts.class
        class-new = new-one old are.first error_class texts.class are.class run.world

        context-new : New are.first are.second context texts.context
        context-new = new-one are.first are.second context texts.context are.context_made class-new.stands.world

        fault-new : New are.second are.third (fault_text fault) texts.fault
        fault-new = new-one are.second are.third (fault_text fault) texts.fault are.fault_made context-new.stands.world

        explain-new : New are.third mid (explain_text fault) texts.explain
        explain-new = new-one are.third mid (explain_text fault) texts.explain are.explain_made fault-new.stands.world

        denotes-third : (to : Option ℕ) (v : Value) → DenotesIn are.third outside names to v → DenotesIn mid outside names to v
        denotes-third to v d = explain-new.stands.carries.values to v d

        denotes-second : (to : Option ℕ) (v : Value) → DenotesIn are.second outside names to v → DenotesIn mid outside names to v
        denotes-second to v d = denotes-third to v (fault-new.stands.carries.values to v d)

        class-denotes : DenotesIn mid outside names (Some texts.class) (Text error_class)
        class-denotes = denotes-second (Some texts.class) (Text error_class) (context-new.stands.carries.values (Some texts.class) (Text error_class) class-new.denotes)

        fields-denote : AreForIn mid outside names (forms_of error_class) (fields_of texts) (meant_fields context fault)
        fields-denote =
            subst (λ (forms : List Form). AreForIn mid outside names forms (fields_of texts) (meant_fields context fault)) (sym class-forms) (
              tt,
              denotes-second (Some texts.context) (Text context) context-new.denotes,
              (tt, denotes-third (Some texts.fault) (Text (fault_text fault)) fault-new.denotes, (tt, explain-new.denotes, tt)),
            )

        record-new : IsNew mid new outside h.objects names Pointer (error_record context fault) at
        record-new =
            let makes = makes-structure outside mid new h.objects names texts.class (fields_of texts) error_class (meant_fields context fault) at are.explain_made.sound sound
            class-held fields-near m explain-new.stands.world class-denotes fields-denote in
            subst (λ (o : meant.Object). IsNew mid new outside h.objects names Pointer o at) (yields-one (error_record context fault) makes.0 makes.1) makes.2
          where
            yields-one : (a b : meant.Object) → Yields a ≡ Yields b → b ≡ a
            yields-one a b e = cc

        all-gain : Gains old new outside outside
        all-gain =
            let two = gains-then old are.first are.second outside outside outside class-new.stands.gains context-new.stands.gains in
            let three = gains-then old are.second are.third outside outside outside two fault-new.stands.gains in
            let four = gains-then old are.third mid outside outside outside three explain-new.stands.gains in
            gains-then old mid new outside outside outside four record-new.gains

        pub refused-run : IsRefused old new outside names writing directory h context fault at
        refused-run =
            let object = error_record context fault in
            let more = and_name names (name_at new at) in
            let given = id-given new outside names writing directory h at object sound
            (record { held = record-new.held; unstored = record-new.unstored; fresh = record-new.fresh; world = record-new.world })
            (holds old new outside outside names writing directory h all-gain run) in
            record {
              run = counted-run new outside more writing directory (made object h) h.touched (h.counted + whole_weight h.weigh object) given;
              carries = keeps-carries old new outside outside names more all-gain.keeps all-gain.grows (λ n id p. name-before names n (name_at new at) id p);
              denotes = record-new.denotes;
              top = omega (arith, all-after.top);
            }

-- The call, by what making the structure answered.
module _ (old mid new : Heap) (context : List ℕ) (fault : Fault) (texts : Texts) (are : AreMade old mid context fault texts) (sound : IsHeap new) where
  pub result-held : (result : Result ℕ SwizzleFault) → Fills mid new kind.Structure texts.class None (fields_of texts) result → IfOk result (IsHeld new)
  result-held (Ok at) m = made-held mid new at (structure_object texts) m
  result-held (Err why) full = tt

  pub result-made : (result : Result ℕ SwizzleFault) → Fills mid new kind.Structure texts.class None (fields_of texts) result → IfOk result (IsNewRecord old new)
  result-made (Ok at) m = is-new old mid context fault texts are new at sound m
  result-made (Err why) full = tt

  pub result-keeps : (result : Result ℕ SwizzleFault) → Fills mid new kind.Structure texts.class None (fields_of texts) result → Keeps old new
  result-keeps (Ok at) m = (all-after old mid context fault texts are new at sound m).keeps
  result-keeps (Err why) full = (no-structure old mid context fault texts are new why full).1

  pub result-fails : (result : Result ℕ SwizzleFault) → Fills mid new kind.Structure texts.class None (fields_of texts) result → IfErr result (LacksRoom old new context fault)
  result-fails (Ok at) m = tt
  result-fails (Err why) full = (no-structure old mid context fault texts are new why full).0

  pub result-run : (outside : Outside Space) (names : List Reference) (writing : List Source) (directory : Option ℕ) (h : Held) → HoldsRun old outside names writing directory h
      → (result : Result ℕ SwizzleFault) → Fills mid new kind.Structure texts.class None (fields_of texts) result
      → Refuses old new outside names writing directory h context fault result
  result-run outside names writing directory h run (Ok at) m = refused-run old mid context fault texts are new at sound m outside names writing directory h run
  result-run outside names writing directory h run (Err why) full = (no-structure old mid context fault texts are new why full).0
