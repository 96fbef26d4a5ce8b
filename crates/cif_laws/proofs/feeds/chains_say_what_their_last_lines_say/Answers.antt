-- What is prepared is what the updates leave, and the updates leave the last words (`chain-says`).
use Rattle.cif_laws.proofs.FeedChains.{chain-says}
use Rattle.cif_laws.proofs.feeds.chains_say_what_their_last_lines_say.Goals as goal

pub returns : goal.returns
returns c = λ how max limit h drops form asked full first others canonical chain.
    chain-says how max limit h drops form asked full first others canonical chain
