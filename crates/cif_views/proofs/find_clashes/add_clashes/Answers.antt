-- What is found are the clashes, and each goes behind by its name.
use Rattle.cif_views.proofs.find_clashes.add_clashes.Goals as goal

pub add_named-requires : goal.add_named-requires
add_named-requires g c = rw c.as_slice.ensures.value c.in_ok-found.ensures.within

pub returns : goal.returns
returns g c =
    let found = c.in_ok-found.ensures.clashes in
    let added = c.in_ok-add_named.ensures found.clashes (rw c.as_slice.ensures.value found.stand_for) in
    record { found = found.clashes; clashes = found.are; added = added }
