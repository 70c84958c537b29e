pub use Rattle.ps_command.specs.obj_layout as obj_layout
