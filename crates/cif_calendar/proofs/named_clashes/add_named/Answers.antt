-- One clash after another goes behind by its name (`named-more`), and so do all that were found (`named-all`).
use Rattle.cif_calendar.proofs.Names.{KeyClash, [], ap, keyed, length, subst, sym, ◌++◌, ◌<◌, ◌∙◌, ◌∷◌}
use Rattle.cif_calendar.proofs.{KeyPositions.has-key, NamedClashes.named-all, NamedClashes.named-more}
use Rattle.cif_calendar.proofs.named_clashes.add_named.Goals as goal

pub loop-clash-preserved : goal.loop-clash-preserved
loop-clash-preserved g c =
    let key = g.E.Entry.key in
    let terms = g.E.Entry.terms in
    let entries = c.args.entries.now in
    let clash = c.clash-item.result in
    let below = subst (λ (x : KeyClash). x.position < length entries) (sym c.clash-item.is)
    (c.requires c.loop-clash.clash-index clash c.loop-clash-test.true) in
    named-more g.E.NamedEntry.clash_of (keyed key terms entries) c.args.clashes.now.items c.args.found.now c.loop-clash.clash-index
    c.loop-clash.clashes.items _ clash (key c.index-entries-clash.result) c.loop-clash-test.true c.clash-item.is
    (has-key key terms entries clash.position c.index-entries-clash.result below c.index-entries-clash.is) c.loop-clash.invariant
    (c.in_ok-push.ensures.items ∙ ap (λ one. c.loop-clash.clashes.items ++ (one ∷ [])) c.clash_on.ensures)

pub returns : goal.returns
returns g c = λ keys stand_for.
    named-all g.E.NamedEntry.clash_of (keyed g.E.Entry.key g.E.Entry.terms c.args.entries.now) c.args.clashes.now.items c.args.found.now
    keys
    stand_for c.loop-clash.clash-index c.loop-clash-test.false c.loop-clash.clashes.items c.loop-clash.invariant
