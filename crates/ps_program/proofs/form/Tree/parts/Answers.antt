use Rattle.std.proofs.Common.{◌∙◌, sym, refl}
use Rattle.ps_program.proofs.NodeLists.{block_is, make_is, lib_is, elems_is, call_is, case_is}
use Rattle.ps_program.proofs.PartLemmas.{moved}
use Rattle.ps_program.proofs.form.Tree.parts.Goals as goal

pub returns-in-Block : goal.returns-in-Block
returns-in-Block c = moved _ _ _ _ (block_is _ _ _ _ (sym c.deref.ensures ∙ c.in-Block.is) c.as_slice.ensures) c.all.ensures (record { listed = refl; no_literal = refl })

pub returns-in-Make : goal.returns-in-Make
returns-in-Make c = moved _ _ _ _ (make_is _ _ _ _ (sym c.deref.ensures ∙ c.in-Make.is) c.as_slice-in-Make.ensures) c.all-in-Make.ensures (record { listed = refl; no_literal = refl })

pub returns-in-Lib : goal.returns-in-Lib
returns-in-Lib c = moved _ _ _ _ (lib_is _ _ _ _ _ (sym c.deref.ensures ∙ c.in-Lib.is) c.as_slice-in-Lib.ensures) c.all-in-Lib.ensures (record { listed = refl; no_literal = refl })

pub returns-in-Elems : goal.returns-in-Elems
returns-in-Elems c = moved _ _ _ _ (elems_is _ _ _ _ _ _ (sym c.deref.ensures ∙ c.in-Elems.is) c.as_slice-in-Elems.ensures) c.first-in-Elems.ensures (record { listed = refl; no_literal = refl })

pub returns-in-Call : goal.returns-in-Call
returns-in-Call c = moved _ _ _ _ (call_is _ _ _ _ _ (sym c.deref.ensures ∙ c.in-Call.is) c.as_slice-in-Call.ensures) c.first-in-Call.ensures (record { listed = refl; no_literal = refl })

pub returns-in-Case : goal.returns-in-Case
returns-in-Case c = moved _ _ _ _ (case_is _ _ _ _ _ _ (sym c.deref.ensures ∙ c.in-Case.is) c.as_slice-in-Case.ensures) c.first-in-Case.ensures (record { listed = refl; no_literal = refl })
