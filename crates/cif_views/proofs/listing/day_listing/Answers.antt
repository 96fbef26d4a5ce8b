-- By the format.
use Rattle.cif_canon.specs.Normalised.{FaultWrites, IfWritten}
use Rattle.cif_views.proofs.Names.{List, extract_parts, listing_in, subst, sym, ℕ, ◌≡◌}
use Rattle.cif_views.proofs.RowNames.{Json, Text, Tsv}
use Rattle.cif_views.specs.Listing.{IsDayListing}
use Rattle.cif_views.specs.declared.listing.Listing.{Listing}
use Rattle.cif_views.proofs.listing.day_listing.Goals as goal

pub returns-in-Text-clause-view : goal.returns-in-Text-clause-view
returns-in-Text-clause-view g c =
    let listing = c.args.listing in
    let same : listing_in Text listing.calls ≡ listing = (λ i. record { format = sym c.in-Text.is i; calls = listing.calls }) in
    subst (λ (l : Listing). (x : List ℕ)
    × FaultWrites g.W.Write.contents g.W.WriteDevice.write_errors x c.args.sink.now c.list_day.new.sink c.list_day.result
    × IfWritten c.list_day.result (IsDayListing l (extract_parts c.args.extract.now) c.args.day x)) same c.list_day.ensures.view

pub returns-in-Tsv-clause-view : goal.returns-in-Tsv-clause-view
returns-in-Tsv-clause-view g c =
    let listing = c.args.listing in
    let same : listing_in Tsv listing.calls ≡ listing = (λ i. record { format = sym c.in-Tsv.is i; calls = listing.calls }) in
    subst (λ (l : Listing). (x : List ℕ)
    × FaultWrites g.W.Write.contents g.W.WriteDevice.write_errors x c.args.sink.now c.list_day-in-Tsv.new.sink c.list_day-in-Tsv.result
    × IfWritten c.list_day-in-Tsv.result (IsDayListing l (extract_parts c.args.extract.now) c.args.day x)) same c.list_day-in-Tsv.ensures.view

pub returns-in-Json-clause-view : goal.returns-in-Json-clause-view
returns-in-Json-clause-view g c =
    let listing = c.args.listing in
    let same : listing_in Json listing.calls ≡ listing = (λ i. record { format = sym c.in-Json.is i; calls = listing.calls }) in
    subst (λ (l : Listing). (x : List ℕ)
    × FaultWrites g.W.Write.contents g.W.WriteDevice.write_errors x c.args.sink.now c.list_day-in-Json.new.sink c.list_day-in-Json.result
    × IfWritten c.list_day-in-Json.result (IsDayListing l (extract_parts c.args.extract.now) c.args.day x)) same c.list_day-in-Json.ensures.view
