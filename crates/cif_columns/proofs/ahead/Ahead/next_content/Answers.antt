-- What the held bytes decide is so of all that is left; the loop ends, as undecided bytes are fewer than can be held.
use Rattle.cif_columns.proofs.Names.{AreUndecided, Keeps-trans, List, Most, Ok, ap, most_by, subst, sym, ℕ, ◌∙◌, ◌≡◌}
use Rattle.cif_columns.proofs.{NextContents.decided_next, NextContents.last_next, ReadSources.read_on_both}
use Rattle.cif_columns.proofs.ahead.Ahead.next_content.Goals as goal

-- what is held later is undecided as it was
undecided : (most : Most) (held now : List ℕ) → now ≡ held → AreUndecided (most_by most held) held → AreUndecided (most_by most now) now
undecided most held now same none = subst (λ l. AreUndecided (most_by most l) l) (sym same) none

pub returns-in-Some : goal.returns-in-Some
returns-in-Some g c =
    let so_far = c.loop-next.invariant in
    decided_next g.R.Read.remaining g.R.ReadDevice.read_errors c.args.most c.args.self.now c.loop-next.self c.decided_content.new.self
    c.args.source.now c.loop-next.source so_far.same_bytes so_far.read_on (c.requires.some _) so_far.begun c.in-Some.next
    c.in-Some.ensures.found

pub returns-in-Ok-false : goal.returns-in-Ok-false
returns-in-Ok-false g c =
    let so_far = c.loop-next.invariant in
    let end = c.in-Ok-false.ensures.end (ap Ok c.in-Ok-false.field-0-test) in
    last_next g.R.Read.remaining g.R.ReadDevice.read_errors c.args.most c.args.self.now c.fill.new.self c.last_content.new.self
    c.args.source.now c.fill.new.source
    (Keeps-trans _ _ _ so_far.same_bytes (rw (← c.in_default.ensures.kept) c.in-Ok-false.ensures.bytes))
    (read_on_both _ _ _ _ so_far.read_on c.in-Ok-false.ensures.device.1)
    (undecided c.args.most _ _ (end.0 ∙ c.in_default.ensures.kept) c.in_default.ensures.none)
    (sym so_far.read_on.going ∙ c.in-Ok-false.ensures.device.0) end.2 end.1 c.last_content.result c.last_content.ensures
