use Rattle.std.proofs.Common.{◌≡◌, List, ℕ, Bool, true, false, Option, Some, Vec, if◌then◌else◌, refl, ◌∙◌, ap}
use Rattle.std.specs.Option.{option_map}
use Rattle.std.specs.Str.{bytes_eq}
use Rattle.std.specs.String.{string_bytes}
use Rattle.std.specs.declared.alloc.Global.{Global}
use Rattle.std.proofs.lemmas.Map.Text.{btree_map_updates_text}
use Rattle.ps_port.specs.MemoryTexts.{text_of}
use Rattle.ps_port.proofs.memory_shelf.MemoryShelf.add.Goals as goal

-- the items of a choice
chosen : (b : Bool) (text : Vec ℕ Global) (old : Option (Vec ℕ Global)) → option_map (λ t. t.items) (if b then Some text else old) ≡ (if b then Some text.items else option_map (λ t. t.items) old)
chosen true text old = refl
chosen false text old = refl

pub returns-clause-ok : goal.returns-clause-ok
returns-clause-ok c = λ q.
    ap (λ (found : Option (Vec ℕ Global)). option_map (λ t. t.items) found) (btree_map_updates_text (string_bytes c.in_ok-key.key) c.args.self.now.texts c.insert.new.self (Some c.in_ok-text.text) c.in_ok-insert.ensures.updates q)
    ∙ chosen (bytes_eq (string_bytes c.in_ok-key.key) q) c.in_ok-text.text _
    ∙ ap (λ (name : List ℕ). if bytes_eq name q then Some c.in_ok-text.text.items else text_of c.args.self.now q) c.in_ok-key.ensures.ok
    ∙ ap (λ (bytes : List ℕ). if bytes_eq c.args.name.now q then Some bytes else text_of c.args.self.now q) c.in_ok-text.ensures.items
