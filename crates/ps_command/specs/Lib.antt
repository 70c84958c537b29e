pub mod inside
pub use Rattle.machine_run.specs.obj_layout as obj_layout
