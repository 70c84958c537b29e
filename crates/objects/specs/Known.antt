-- What was looked up of the area is so.
use Rattle.joint_ops.specs.swizzle.Heap.{Heap}
use Rattle.joint_ops.specs.heap_ops.Layouts as layouts
use Rattle.objects.specs.declared.known.Known.{Known}
use Rattle.objects.specs.Fields as fields
use Rattle.objects.specs.Vectors as vectors
use Rattle.objects.specs.Bodies as procedures
use Rattle.objects.specs.Makes as makes

pub record IsRight (here : Heap) (known : Known) : Type 0 where
  pub layouts : layouts.AreSo here known.layouts.entries.items
  pub fields : fields.AreSo here known.fields.entries.items
  pub vectors : vectors.AreSo here known.vectors.entries.items
  pub procedures : procedures.AreSo here known.procedures.entries.items
  pub makes : makes.AreSo here known.makes.entries.items
