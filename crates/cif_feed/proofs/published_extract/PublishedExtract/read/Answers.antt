-- What the lines say is one published extract (`makes-published`), unless memory runs out.
use Rattle.cif_extract.{proofs.ReadCalls.hands-either, specs.declared.fault.Fault.TheVariants.Memory}
use Rattle.cif_feed.proofs.Names.{Extract, Ok, goes-on, hands-on, refl}
use Rattle.cif_feed.proofs.SpelledFeeds.{makes-published, reads-published}
use Rattle.cif_feed.proofs.published_extract.PublishedExtract.read.Goals as goal

pub returns : goal.returns
returns g c =
    goes-on _ _ _ _ _ _ c.in_ok-lines.lines c.in_ok-lines.ensures.reads (Ok c.in_ok-of_lines.field-0)
    (makes-published c.args.allowed c.args.max_lines c.in_ok-lines.lines c.in_ok-of_lines.field-0 c.in_ok-of_lines.ensures.says
    c.in_ok-of_lines.ensures.counts c.in_ok-of_lines.ensures.passed)

pub returns-in_err-of_lines : goal.returns-in_err-of_lines
returns-in_err-of_lines g c =
    let handed = c.from_residual-in_err-of_lines in
    goes-on _ _ _ _ _ _ c.in_ok-lines.lines c.in_ok-lines.ensures.reads handed.result
    (hands-either handed.result (Extract Memory) handed.ensures.1 _ _ (record { fault = λ bytes after is. tt; answers = tt; other = refl }))

pub returns-in_err-lines : goal.returns-in_err-lines
returns-in_err-lines g c =
    let fault = c.in_err-lines.field-0.0 in
    hands-on _ _ _ _ _ _ fault (reads-published c.args.allowed c.args.max_lines fault) c.in_err-lines.ensures.reads _
    c.from_residual.ensures.1
