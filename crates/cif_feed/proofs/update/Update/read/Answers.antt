-- What the lines say is one update (`makes-update`), unless memory runs out.
use Rattle.cif_extract.{specs.declared.fault.Fault.TheVariants.Memory, proofs.ReadCalls.hands-either}
use Rattle.cif_feed.proofs.{Names.Extract, Names.Ok, Names.goes-on, Names.refl, SpelledFeeds.makes-update}
use Rattle.cif_feed.proofs.update.Update.read.Goals as goal

pub returns : goal.returns
returns g c =
    goes-on _ _ _ _ _ _ c.in_ok-lines.lines c.in_ok-lines.ensures.reads (Ok c.in_ok-of_lines.field-0)
    (makes-update c.args.max_lines c.all.result c.all.ensures c.in_ok-lines.lines c.in_ok-of_lines.field-0 c.in_ok-of_lines.ensures.says
    c.in_ok-of_lines.ensures.counts c.in_ok-of_lines.ensures.passed)

pub returns-in_err-of_lines : goal.returns-in_err-of_lines
returns-in_err-of_lines g c =
    let handed = c.from_residual-in_err-of_lines in
    goes-on _ _ _ _ _ _ c.in_ok-lines.lines c.in_ok-lines.ensures.reads handed.result
    (hands-either handed.result (Extract Memory) handed.ensures.1 _ _ (record { fault = λ bytes after is. tt; answers = tt; other = refl }))
