-- What was looked up stays so.
use Rattle.joint_ops.specs.swizzle.Heap.{Heap}
use Rattle.joint_ops.specs.heap_ops.Layouts as layouts
use Rattle.joint_ops.specs.heap_ops.declared.layouts.Layouts.{Layouts}
use Rattle.joint_ops.proofs.of_heap_ops.LayoutLaws.{stay_so}
use Rattle.objects.specs.declared.known.Known.{Known}
use Rattle.objects.specs.declared.known_fields.KnownFields.{KnownFields}
use Rattle.objects.specs.declared.known_procedures.KnownProcedures.{KnownProcedures}
use Rattle.objects.specs.declared.known_makes.KnownMakes.{KnownMakes}
use Rattle.objects.specs.Bodies as procedures
use Rattle.objects.specs.Makes as makes
use Rattle.objects.specs.Fields as fields
use Rattle.objects.specs.Known.{IsRight}
use Rattle.objects.specs.Lasting.{Lasts}
use Rattle.objects.proofs.FieldEntries.{texts-stay, all-stay}
use Rattle.objects.proofs.VectorEntries.{vectors-stay}
use Rattle.objects.proofs.ProcedureEntries.{procedures-stay}
use Rattle.objects.proofs.MakeEntries.{makes-stay}

pub right-stays : (old new : Heap) (known : Known) → IsRight old known → Lasts old new → IsRight new known
right-stays old new known right l = record {
  layouts = stay_so old new known.layouts.entries.items right.layouts (texts-stay old new l.code);
  fields = all-stay old new l.code known.fields.entries.items right.fields;
  vectors = vectors-stay old new l known.vectors.entries.items right.vectors;
  procedures = procedures-stay old new l known.procedures.entries.items right.procedures;
  makes = makes-stay old new l.code known.makes.entries.items right.makes;
}

-- So it is with other places that were looked up, and with other fields.

pub right-layouts : (here : Heap) (known : Known) (more : Layouts) → IsRight here known → layouts.AreSo here more.entries.items
    → IsRight here (record known { layouts = more })
right-layouts here known more right so = record { layouts = so; fields = right.fields; vectors = right.vectors; procedures = right.procedures; makes = right.makes }

pub right-fields : (here : Heap) (known : Known) (more : KnownFields) → IsRight here known → fields.AreSo here more.entries.items
    → IsRight here (record known { fields = more })
right-fields here known more right so = record { layouts = right.layouts; fields = so; vectors = right.vectors; procedures = right.procedures; makes = right.makes }

pub right-procedures : (here : Heap) (known : Known) (more : KnownProcedures) → IsRight here known → procedures.AreSo here more.entries.items
    → IsRight here (record known { procedures = more })
right-procedures here known more right so =
    record { layouts = right.layouts; fields = right.fields; vectors = right.vectors; procedures = so; makes = right.makes }

pub right-makes : (here : Heap) (known : Known) (more : KnownMakes) → IsRight here known → makes.AreSo here more.entries.items
    → IsRight here (record known { makes = more })
right-makes here known more right so =
    record { layouts = right.layouts; fields = right.fields; vectors = right.vectors; procedures = right.procedures; makes = so }
