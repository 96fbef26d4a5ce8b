-- Bytes spell one extract, and the prepared one says what the published one does (`says-published`).
use Rattle.cif_feed.proofs.Names.{AreDroppedIf, SayAsPublished, codes_named, contents_of, one_spelled, subst}
use Rattle.cif_feed.proofs.{PreparedRuns.says-published, SpelledFeeds.one_published}
use Rattle.cif_feed.proofs.laws.prepared_texts_say_what_was_published.Goals as goal

pub returns : goal.returns
returns c = λ bytes text h drops max dropped p x is read written.
    let same_p = one_published (codes_named h) (contents_of bytes) is.published p is.spelled.spell read.spell in
    let same_x = one_spelled text is.prepared x is.spells written in (
      subst (λ q. SayAsPublished h drops q x) same_p
          (subst (SayAsPublished h drops is.published) same_x
          (says-published h drops is.published is.prepared dropped is.is)),
      subst (λ q. AreDroppedIf drops h q dropped) same_p is.is.reported,
    )
