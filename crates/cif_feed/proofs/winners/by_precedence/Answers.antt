-- One position more, and in the end all in their order.
use Rattle.cif_columns.specs.Stp.{letter}
use Rattle.cif_feed.proofs.Names.{List, PublishedSchedule, [], ap, arith, get_or, length, map, map_more, slice_get, subst, sym, take, take_all, ℕ, ◌++◌, ◌<◌, ◌∙◌, ◌∷◌, ◌≡◌}
use Rattle.std.proofs.Common.{IsPermutation}
use Rattle.std.proofs.lemmas.List.Sorted.{All-permutation}
use Rattle.cif_calendar.proofs.Names.{slice_get-get_or}
use Rattle.cif_weeks.proofs.SourceRuns.{pair-order}
use Rattle.cif_feed.specs.Steps.Deciding.{precedence_in, ranked_at}
use Rattle.cif_feed.proofs.RankedPositions.{ranked-within}
use Rattle.cif_feed.proofs.winners.by_precedence.Goals as goal
use Rattle.cif_feed.proofs.winners.by_precedence.Goals.{After-sort_unstable}

pub loop-position-preserved : goal.loop-position-preserved
loop-position-preserved c =
    let f = ranked_at c.args.schedules.now in
    let i = c.loop-position.position-index in
    let at = get_or c.args.members.now i 0 in
    let own : c.precedence.result ≡ precedence_in (slice_get c.args.schedules.now at) =
    c.precedence.ensures ∙ (ap (λ (s : PublishedSchedule). letter s.schedule.letter) c.index-schedules-position.is
    ∙ sym (ap precedence_in (slice_get-get_or c.args.schedules.now at c.index-schedules-position.result
    (c.requires i 0 c.loop-position-test.true)))) in
    c.in_ok-push.ensures.items
    ∙ (ap (λ (l : List (ℕ × ℕ)). l ++ (c.precedence.result, at) ∷ []) c.loop-position.invariant
    ∙ (ap (λ (p : ℕ). map f (take i c.args.members.now) ++ (p, at) ∷ []) own
    ∙ sym (map_more f c.args.members.now i 0 c.loop-position-test.true)))

permuted : (c : After-sort_unstable) → IsPermutation (map (ranked_at c.args.schedules.now) c.args.members.now) c.sort_unstable.new.self.items
permuted c = subst (λ (l : List (ℕ × ℕ)). IsPermutation l c.sort_unstable.new.self.items)
    (c.loop-position.invariant ∙ ap (map (ranked_at c.args.schedules.now))
    (take_all c.loop-position.position-index c.args.members.now c.loop-position-test.false)) c.sort_unstable.ensures.permutation

pub returns-clause-ranked : goal.returns-clause-ranked
returns-clause-ranked c = permuted (goal.at.returns-clause-ranked c).After-sort_unstable

pub returns-clause-in_order : goal.returns-clause-in_order
returns-clause-in_order c = λ k d within. pair-order _ _ _ _ (c.sort_unstable.ensures.sorted k d (omega arith) within)

pub returns-clause-within : goal.returns-clause-within
returns-clause-within c =
    All-permutation (λ (p : ℕ × ℕ). p.1 < length c.args.schedules.now) (map (ranked_at c.args.schedules.now) c.args.members.now)
    c.sort_unstable.new.self.items (permuted (goal.at.returns-clause-within c).After-sort_unstable)
    (ranked-within c.args.schedules.now (length c.args.schedules.now) c.args.members.now c.requires)
