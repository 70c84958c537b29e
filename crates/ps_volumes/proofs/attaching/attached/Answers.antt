use Rattle.std.proofs.Common.{sym, subst}
use Rattle.ps_volumes.specs.Attaching.{IsUnattached}
use Rattle.ps_volumes.proofs.Moved.{unattached_before, unattached_after, stored_by}
use Rattle.ps_volumes.proofs.attaching.attached.Goals as goal

pub returns-in-Ok-attach-clause-ok : goal.returns-in-Ok-attach-clause-ok
returns-in-Ok-attach-clause-ok g c =
    let o = g.H.Host.outside in
    let host = c.in-Ok.host in
    let store = c.in-Ok-attach.store in
    stored_by (o c.args.host) (o host) (g.met.H.Host.is_image host) o c.in-Ok.field-0-1 store c.in-Ok.ensures.ok c.in-Ok-attach.ensures.ok c.in-Ok.ensures.when c.in-Ok.ensures.moved (g.met.H.Host.is_image store.host)

pub returns-in-Err-attach-clause-err : goal.returns-in-Err-attach-clause-err
returns-in-Err-attach-clause-err g c =
    let o = g.H.Host.outside in
    let host = c.in-Ok.host in
    let refused = c.in-Err-attach.refused in
    let is = c.in-Err-attach.ensures.err in
    let report = c.reported.result.report in
    subst (λ (back : g.row.H.Denot). IsUnattached (o c.args.host) (o back) report) (sym c.reported.ensures.host)
    (unattached_after (o c.args.host) (o host) (g.met.H.Host.is_image host) c.in-Ok.field-0-1 c.in-Ok.ensures.ok (o refused.host) is.looks.images is.looks.told is.looks.counts is.looks.output
    (g.met.H.Host.is_image refused.host) refused.cause report c.reported.ensures.report is)

pub returns-in-Err-clause-err : goal.returns-in-Err-clause-err
returns-in-Err-clause-err g c =
    let o = g.H.Host.outside in
    let refused = c.in-Err.refused in
    let report = c.reported-in-Err.result.report in
    subst (λ (back : g.row.H.Denot). IsUnattached (o c.args.host) (o back) report) (sym c.reported-in-Err.ensures.host)
    (unattached_before (o c.args.host) (o refused.host) (g.met.H.Host.is_image refused.host) refused.cause report c.reported-in-Err.ensures.report c.in-Err.ensures.err)
