-- No association has a code.
use Rattle.cif_feed.proofs.Names.{Global, IfOk-weaker, Vec, association_terms, code_list, published_association_terms, refl, ℕ, ◌+◌}
use Rattle.cif_feed.proofs.CountedClashes.{chosen-dates}
use Rattle.cif_feed.proofs.published_entry.PublishedAssociationPublishedEntry.clash_dates.Goals as goal

pub returns : goal.returns
returns c =
    let window = c.args.window.now in
    IfOk-weaker _ _ _ (λ (days : Vec ℕ Global) are. chosen-dates c.args._holidays.now published_association_terms c.args.entries.now
    code_list (λ a code has of_code. absurd (cc)) (λ a. association_terms a.association) (λ a. refl) c.args.members.now window.first
    (window.last + 1) days.items are) c.clash_dates.ensures
