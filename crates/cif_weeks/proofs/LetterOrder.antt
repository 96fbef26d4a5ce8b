-- What tests of two letters tell: of their order, and of whether they are the same.
use Rattle.cif_weeks.proofs.Names.{Stp, letter, partial_lt, rules, true, ◌<◌, ◌↔◌, ◌≡◌}
use Rattle.cif_columns.specs.contracts.stp.StpPartialEq.TheImpl as equality
use Rattle.cif_columns.specs.contracts.stp.StpPartialOrd.TheImpl as order

pub letter-before : (s t : Stp) → (partial_lt (order.ghosts).partial_cmp s t ≡ true) ↔ (letter s < letter t)
letter-before s t = search rules

pub letter-same : (s t : Stp) → ((equality.ghosts).eq s t ≡ true) ↔ (letter s ≡ letter t)
letter-same s t = search rules
