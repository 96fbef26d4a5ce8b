-- Names of std, of the crates below and of specs/, from modules that several of the proofs cite.
pub use Rattle.std.proofs.Common.{All, AllPairs, Bool, Contains, IsPermutation, IsSome, Less, List, MatchBool, None, Option, Ordering, Some}
pub use Rattle.std.proofs.Common.{[], ap, append-nil, append_assoc, arith, drop, false, get_or, get_or-drop, get_or-take, inl, inr, is_lt}
pub use Rattle.std.proofs.Common.{is_some, le-leb, leb, leb-false, leb-true, length, length-append, length-drop, length-take, map, nat_cmp}
pub use Rattle.std.proofs.Common.{option_and_then, refl, reverse, rules, set, slice_get, subst, suc, sym, take, take-append-drop, take_all}
pub use Rattle.std.proofs.Common.{true, unwrap_or, zero, ℕ, ⊎_elim, ◌%◌, ◌*◌, ◌++◌, ◌+◌, ◌-◌, ◌<◌, ◌==◌, ◌↔◌, ◌∙◌, ◌∷◌, ◌≡◌, ◌≢◌, ◌≤◌, ◌⊎◌}
pub use Rattle.std.proofs.lemmas.Bool.{cases_eq, cond-false, cond-true, lt-leb}
pub use Rattle.std.proofs.{lemmas.List.Kept.AllPairs-cons, lemmas.List.get_or_read_under}
pub use Rattle.std.proofs.lemmas.List.Sorted.{IsNonDecreasingBy-drop, IsNonDecreasingBy-from_all_adjacent}
pub use Rattle.std.proofs.lemmas.List.Sorted.{IsNonDecreasingBy-from_sort_by_key, IsNonDecreasingBy-push, IsPartitionedBy-leb}
pub use Rattle.std.proofs.lemmas.List.Sorted.{IsPermutation-reverse, IsPermutation-sym, answers_always}
pub use Rattle.std.specs.List.{AllWithin, AllZip, refill}
pub use Rattle.std.specs.{List.Sorted.IsNonDecreasingBy, List.Sorted.IsPartitionPoint, Ordering.ordering_then, Ordering.partial_lt}
pub use Rattle.cif_columns.proofs.Names.{All-append, All-cons, All-head, All-tail, IsDay, IsFirstOf, IsLastOf, reverse-append}
pub use Rattle.cif_columns.{proofs.Names.reverse-reverse, proofs.Names.take-append_seam, specs.Day.week_of}
pub use Rattle.cif_calendar.proofs.{Elements.Contains-cases, Elements.Contains-first, Elements.Contains-rest, PieceLists.source_at-piece}
pub use Rattle.cif_calendar.proofs.{PieceLists.tiles-ends, PieceLists.tiles-from, Positions.AreLawful-chosen, Positions.at-contains}
pub use Rattle.cif_calendar.proofs.{Positions.contains-at, Winning.terms_at}
pub use Rattle.cif_calendar.proofs.Names.{All-contains, All-nil, All-take, AreClear, AreLawful, BodyRuns, CalendarParts}
pub use Rattle.cif_calendar.proofs.Names.{Contains-append_cases, Contains-append_left, Contains-append_right, Contains-get_or}
pub use Rattle.cif_calendar.proofs.Names.{Contains-permutation, Contains-push, Contains-push_cases, IfOk-weaker, IsCalendar, IsChosen}
pub use Rattle.cif_calendar.proofs.Names.{IsClearFrom, IsPartitionPoint-from_clause, IsSource, IsTotalOrder, IsWinnerAt, P, RunsOn, Stp}
pub use Rattle.cif_calendar.proofs.Names.{Terms, Tiles, Wins, body_at, body_on, cases_lt, drop_all, drop_more, get_or-append_seam}
pub use Rattle.cif_calendar.proofs.Names.{get_or_default, get_or_from_slice_get, iff_false, length-map, letter, nat_tests, of_key}
pub use Rattle.cif_calendar.proofs.Names.{same_Some, slice_get-get_or, slice_get_within, source_at, take_more, weekday_of, winner_of}
pub use Rattle.cif_calendar.proofs.RisingLists.{AllPairs-members, Contains-none, IsOneWay, less_one_way, not_less, same_members}
pub use Rattle.cif_calendar.specs.{Applies.IsAmongDates, declared.key_calendar.Piece.Piece}
pub use Rattle.cif_weeks.specs.Aligned.{IsAligned, IsAlignedOne, IsAlignedThree, IsAlignedTwo}
pub use Rattle.cif_weeks.specs.{Applies.IsInRange, Applies.IsWeekOf, Exact.IsExact}
pub use Rattle.cif_weeks.specs.{HaveForm.HaveForm, Meets.Meets, WhatRuns.SayTheSame, WhatRuns.SayWhatRuns}
pub use Rattle.cif_weeks.specs.Canonical.{AreCanonical, Precedes, SayTheSameByKey, SayWhatRunsByKey, with_key}
pub use Rattle.cif_weeks.specs.MemberRuns.{AreRunsOfMembers, HaveClash, IsMembersRun}
pub use Rattle.cif_weeks.specs.Permanent.{Permanent, Permanents, permanent_entries, terms_of}
pub use Rattle.cif_weeks.specs.Runs.{AreCanonicalRuns, AreSources, IsRunOf, record_of, window_of}
pub use Rattle.cif_weeks.specs.Separate.{AreApart, AreSeparate, Change, ChangeBetween, EitherApplies, ExactlyOne, Follows}
pub use Rattle.cif_weeks.specs.Steps.BodyRuns.{AreAdded, AreBodyRuns, AreFewestBefore, AreGrownTo, AreRunsBefore, AreRunsOfBody}
pub use Rattle.cif_weeks.specs.Steps.BodyRuns.{AreRunsOfSpans, BreaksBefore, EndsBefore, EndsWeeksBefore, HasDayOf, HasSource, IsLatest}
pub use Rattle.cif_weeks.specs.Steps.BodyRuns.{IsLatestExact, IsLongestBefore, IsSpansRun, dates_of, monday_of}
pub use Rattle.cif_weeks.specs.Steps.Fewest.{GoesOn, HasGoneOn, IsLeft, IsMissing, IsPart, IsReach, IsRunDay, IsTooLate, Stops}
pub use Rattle.cif_weeks.specs.Steps.Growing.{Breaks, Fits, IsApartFrom, IsByWeeks, IsGrown, IsLongest, IsMade, IsWeeksFrom}
pub use Rattle.cif_weeks.specs.Steps.PieceSpans.{AreBySource, AreInOrder, AreNear, AreSpansBefore, AreSpansOn, HasBodyOn, IsPieceSpan}
pub use Rattle.cif_weeks.specs.Steps.PieceSpans.{IsWinnerOn, body_in, named, source_in}
pub use Rattle.cif_weeks.specs.Steps.Spans.{AgreeOn, AreSpansOf, HasDay, HaveOneMask, IsAgreed, IsDisputed, IsMembersSpan, IsSourceAmong}
pub use Rattle.cif_weeks.specs.{Steps.Spans.IsSpanOf, Steps.Spans.Leads, Steps.Spans.Shows, Steps.Spans.SomeOf, declared.span.Weeks.Weeks}
pub use Rattle.cif_weeks.specs.Steps.WeekMasks.{Counts, IsLastDay, IsMask, MasksAgree, MasksDiffer}
pub use Rattle.cif_weeks.specs.Window.{IsWithin, Window, window_days, window_from}
pub use Rattle.cif_weeks.specs.declared.{form.Form.Form, form.Form.TheVariants.One, form.Form.TheVariants.Three, form.Form.TheVariants.Two}
pub use Rattle.cif_weeks.specs.declared.{form.Run.Run, span.Span.Span}
