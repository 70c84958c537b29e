use Rattle.joint_ops.proofs.ValueLaws.{is-one, tells-same}
use Rattle.joint_ops.proofs.values.is_one.Goals as goal

pub returns : goal.returns
returns g c vault of names v w world d e nv nw =
    is-one c.args.sw.now (g.V.Vault.outside vault) of names c.args.a c.args.b v w c.eq.result c.sound.ensures world d e nv nw
    (tells-same c.args.a c.args.b c.eq.result c.eq.ensures)
