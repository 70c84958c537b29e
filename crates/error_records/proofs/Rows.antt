-- Refusals, computed: the meaning's calls answer these.
use Rattle.std.proofs.Common.{◌≡◌, ℕ, List, [], ◌∷◌, refl, Some}
use Rattle.std.specs.Prelude.{codes}
use Rattle.joint_held.specs.joint_ops.ps_heap.ps_typing.Library.{error_class}
use Rattle.joint_held.specs.joint_ops.text_forms.Forms.{forms_of, forms_from, form_here, begins}
use Rattle.joint_held.specs.joint_ops.text_forms.declared.forms.Form.TheVariants.{Reference}
use Rattle.joint_held.specs.joint_ops.ps_heap.Databases as meant
use Rattle.joint_held.specs.joint_ops.ps_heap.Commit as commit
use Rattle.joint_held.specs.joint_ops.ps_heap.Held.{Held}
use Rattle.joint_held.specs.joint_ops.ps_heap.Calls.{refused, create_unless, open_by, commit_by}
use Rattle.joint_held.specs.db_dir.declared.fault.DirFault.TheVariants as dir
use Rattle.error_records.specs.declared.refusals.Call.TheVariants as call
use Rattle.error_records.specs.declared.refusals.Refusal.TheVariants as refusal
use Rattle.error_records.specs.Refusals.{context_of, fault_by}

create_refused : (name password : List ℕ) (h : Held) → create_unless (Some meant.Exists) name password h ≡ refused (context_of call.Create) (fault_by (refusal.Directory dir.Exists)) h
create_refused name password h = refl

open_refused : (h : Held) → open_by (meant.Refuses meant.WrongPassword) h ≡ refused (context_of call.Open) (fault_by (refusal.Directory dir.Password)) h
open_refused h = refl

commit_refused : (h : Held) → commit_by commit.NotWritable h ≡ refused (context_of call.Commit) (fault_by refusal.NotWritable) h
commit_refused h = refl

class_is : error_class ≡ codes "error.record(string error.context;string error.fault;string error.explain)"
class_is = refl

-- all three fields are references
pub class-forms : forms_of error_class ≡ Reference ∷ Reference ∷ Reference ∷ []
unfolding forms_of forms_from form_here begins
class-forms = refl
