-- By the format.
use Rattle.cif_canon.specs.Normalised.{FaultWrites, IfWritten}
use Rattle.cif_views.proofs.Names.{List, extract_parts, listing_in, subst, sym, ℕ, ◌≡◌}
use Rattle.cif_views.proofs.RowNames.{Json, Text, Tsv}
use Rattle.cif_views.specs.Listing.{IsTrainListing}
use Rattle.cif_views.specs.declared.listing.Listing.{Listing}
use Rattle.cif_views.proofs.listing.train_listing.Goals as goal

pub returns-in-Text-clause-view : goal.returns-in-Text-clause-view
returns-in-Text-clause-view g c =
    let listing = c.args.listing in
    let same : listing_in Text listing.calls ≡ listing = (λ i. record { format = sym c.in-Text.is i; calls = listing.calls }) in
    subst (λ (l : Listing). (x : List ℕ)
    × FaultWrites g.W.Write.contents g.W.WriteDevice.write_errors x c.args.sink.now c.list_train.new.sink c.list_train.result
    × IfWritten c.list_train.result (IsTrainListing l c.args.form (extract_parts c.args.extract.now) c.args.uid.now x)) same c.list_train.ensures.view

pub returns-in-Tsv-clause-view : goal.returns-in-Tsv-clause-view
returns-in-Tsv-clause-view g c =
    let listing = c.args.listing in
    let same : listing_in Tsv listing.calls ≡ listing = (λ i. record { format = sym c.in-Tsv.is i; calls = listing.calls }) in
    subst (λ (l : Listing). (x : List ℕ)
    × FaultWrites g.W.Write.contents g.W.WriteDevice.write_errors x c.args.sink.now c.list_train-in-Tsv.new.sink c.list_train-in-Tsv.result
    × IfWritten c.list_train-in-Tsv.result (IsTrainListing l c.args.form (extract_parts c.args.extract.now) c.args.uid.now x)) same c.list_train-in-Tsv.ensures.view

pub returns-in-Json-clause-view : goal.returns-in-Json-clause-view
returns-in-Json-clause-view g c =
    let listing = c.args.listing in
    let same : listing_in Json listing.calls ≡ listing = (λ i. record { format = sym c.in-Json.is i; calls = listing.calls }) in
    subst (λ (l : Listing). (x : List ℕ)
    × FaultWrites g.W.Write.contents g.W.WriteDevice.write_errors x c.args.sink.now c.list_train-in-Json.new.sink c.list_train-in-Json.result
    × IfWritten c.list_train-in-Json.result (IsTrainListing l c.args.form (extract_parts c.args.extract.now) c.args.uid.now x)) same c.list_train-in-Json.ensures.view
