-- Names of std, of the crates below and of specs/, from modules that several of the proofs cite.
pub use Rattle.std.proofs.Common.{All, AllPairs, Bool, Contains, Equal, Err, Greater, IsErrAnd, IsNone, IsPermutation, IsSome, IsSortedBy}
pub use Rattle.std.proofs.Common.{IsTrue, Less, List, None, Ok, Option, Ordering, Result, Some, SomeIff, [], ap, append-nil, append_assoc}
pub use Rattle.std.proofs.Common.{ap₂, arith, cond, drop, eqb-true, false, flat_map, get_or, get_or-drop, get_or-set_other, get_or-set_same}
pub use Rattle.std.proofs.Common.{inl, inr, is_eq, is_gt, is_le, is_lt, is_some, leb, length, length-append, length-drop, length-set}
pub use Rattle.std.proofs.Common.{length-take-le, ltb, ltb-false, ltb-true, map, max, min, nat_cmp, not, option_and_then, option_map, refl}
pub use Rattle.std.proofs.Common.{replicate, rules, set, slice_get, subst, suc, sym, take, take-append-drop, take_all, true, true≢false}
pub use Rattle.std.proofs.Common.{unwrap_or, zero, ℕ, ⊎_elim, ◌%◌, ◌*◌, ◌++◌, ◌+◌, ◌-◌, ◌/◌, ◌<◌, ◌↔◌, ◌∙◌, ◌∷◌, ◌≡◌, ◌≢◌, ◌≤◌, ◌⊎◌}
pub use Rattle.std.proofs.{lemmas.Bool.iff_false, lemmas.Bool.not-false, lemmas.List.Quantifiers.all_pairs_push}
pub use Rattle.std.proofs.{lemmas.Option.slice_get-map, lemmas.Option.slice_get_read, lemmas.Result.IfOk-weaker}
pub use Rattle.std.proofs.lemmas.List.{drop_all, get_or-map, set-get_or}
pub use Rattle.std.proofs.lemmas.List.Elements.{All-more, All-same, Contains-append_cases, Contains-append_left, Contains-get_or}
pub use Rattle.std.proofs.lemmas.List.Elements.{Contains-push, Contains-push_cases}
pub use Rattle.std.proofs.lemmas.List.Sorted.{All-permutation, Contains-permutation, IsPartitionPoint-from_clause, IsPartitionedBy-ltb}
pub use Rattle.std.proofs.lemmas.List.Sorted.{IsPermutation-map, ranks_by, sorted_far}
pub use Rattle.std.specs.Cmp.{IsTotalOrder, alike_right, tied_itself}
pub use Rattle.std.specs.{List.range_with_len, Ordering.ord_min, Ordering.ordering_reverse}
pub use Rattle.cif_columns.proofs.Names.{All-contains, All-drop, All-nil, All-push, All-take, Contains-append_right, RunsOn, cases_lt}
pub use Rattle.cif_columns.proofs.Names.{drop_more, false≢true, flat_map-append, get_or-replicate, get_or_append_left, get_or_default}
pub use Rattle.cif_columns.proofs.Names.{get_or_from_slice_get, get_or_past, length-map, length-replicate, letter, nat_tests}
pub use Rattle.cif_columns.proofs.Names.{nil_from_length, same_Some, slice_get-get_or, slice_get_within, take_more}
pub use Rattle.cif_columns.specs.Day.{weekday_of}
pub use Rattle.cif_extract.proofs.Names.{C, P, Stp, err_from_is_err_and, get_or-append_seam, map-append, on_ok_weaker}
pub use Rattle.cif_calendar.specs.{Applies.Applies, ClashDates.AreClashDates, ClashDates.IsClashBetween, DayState.AreDayStates}
pub use Rattle.cif_calendar.specs.{DayState.IsDayState, Ranks.AreRanked, Wins.Wins, Wins.precedence}
pub use Rattle.cif_calendar.specs.ByKey.{AnyHasKey, AreAllByKey, AreFrom, AreOfFirstKey, HasKey, IsCountOfKey, IsFirstOfBoth, IsNotAfter}
pub use Rattle.cif_calendar.specs.{ByKey.IsRising, Runs.BodyRuns, Runs.NothingRuns, Runs.Runs}
pub use Rattle.cif_calendar.specs.Calendar.{CalendarParts, IsAnswer, IsCalendar, IsFault, body_on}
pub use Rattle.cif_calendar.specs.Clash.{IsClash, IsClear, IsClearFrom, IsFirstClash}
pub use Rattle.cif_calendar.specs.Keys.{AreClear, ArePositionsOf, IsFirstClashOf, keyed, of_key}
pub use Rattle.cif_calendar.specs.Pieces.{BeginsPiece, ChangesOn, IsBoundary, IsPiece, IsUnbroken, Tiles, source_at, winner_of}
pub use Rattle.cif_calendar.specs.Source.{IsChosen, IsSource, IsWinnerAt, body_at}
pub use Rattle.cif_calendar.specs.Steps.Clashes.{IsAddedOfKey, IsFaultAdded, named, named_if}
pub use Rattle.cif_calendar.specs.Steps.Standing.{AreAlike, AreBelow, Combines, HaveOneBody, IsBelow, IsDisputed, IsRank, Leads, LooksAt}
pub use Rattle.cif_calendar.specs.Steps.Standing.{NoneApplies, Stands, StandsAt}
pub use Rattle.cif_calendar.specs.Steps.Stretches.{AddsIfDisputed, AreBehind, AreStretches, AreStretchesOf, IsJoint, IsPart, IsStretch}
pub use Rattle.cif_calendar.specs.Terms.{AreLawful, Records, SameRecords, Terms}
pub use Rattle.cif_calendar.specs.declared.{key_calendar.CalendarFault.CalendarFault, key_calendar.CalendarFault.TheVariants.Ambiguous}
pub use Rattle.cif_calendar.specs.declared.{key_calendar.CalendarFault.TheVariants.Memory, key_calendar.Piece.Piece}
pub use Rattle.cif_calendar.specs.declared.{key_clashes.KeyClash.KeyClash, standing.Standing.Standing, stretch.Stretch.Stretch}
pub use Rattle.cif_calendar.specs.declared.standing.Standing.TheVariants.{Disputed, Leader, Nobody}
