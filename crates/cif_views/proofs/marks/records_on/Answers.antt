-- One entry after another is looked at, and a sort puts them in order: it is total, and no two have one place (`placed-sorted`).
use Rattle.cif_views.proofs.Names.{ArePlacedBelow, ap, arith, false≢true, is_lt, keyed, length, length-map, map, map-append, placed_at}
use Rattle.cif_views.proofs.Names.{placed_cmp, placed_of, ranks_by, refl, rules, some_pair_parts, subst, sym, terms_at, ◌+◌, ◌∙◌, ◌≡◌}
use Rattle.std.proofs.{lemmas.Fn.always_returns_same, lemmas.List.Elements.All-nil}
use Rattle.cif_calendar.specs.Applies.{Applies}
use Rattle.cif_views.proofs.Explaining.{placed-more, placed-no_more, placed-sorted, placed_total}
use Rattle.cif_views.proofs.marks.records_on.Goals as goal
use Rattle.cif_views.proofs.marks.records_on.Goals.{else-is_applying, then-is_applying+in_ok-push}

pub loop-place-init : goal.loop-place-init
loop-place-init g c = rw c.new-applying.ensures.items (record {
  found = All-nil _;
  below = All-nil _;
  all = λ p is below. absurd (omega (arith, below));
  rising = λ i j d less within. absurd (omega (arith, within));
})

pub loop-place-preserved : goal.loop-place-preserved
loop-place-preserved g c =
    let of = placed_of g.E.Entry.key g.E.Entry.terms in
    let is_of = g.E.ExplainedEntry.is_of in
    let entries = keyed g.E.Entry.key g.E.Entry.terms c.args.entries.now in
    let place = c.loop-place.place in
    let entry = c.index-entries-place.result in
    let at = terms_at (λ x. (g.E.Entry.key x, g.E.Entry.terms x)) c.args.entries.now place entry c.loop-place-test.true
    c.index-entries-place.is in
    elim c.if-is_applying.branch [
      | then-is_applying+in_ok-push w ↦
          let applies = c.is_applying.ensures.0 w.if-is_applying.true in
          subst (ArePlacedBelow is_of entries c.args.uid.now c.args.day (place + 1))
          (sym (ap (λ v. map of v.items) w.applying-is ∙ ap (map of) w.in_ok-push.ensures.items
          ∙ map-append of c.loop-place.applying.items _))
          (placed-more is_of entries c.args.uid.now c.args.day place _ c.loop-place.invariant
          (placed_at place (g.E.Entry.key entry) (g.E.Entry.terms entry))
          (record { at = at; train = applies.0; applies = applies.1 }) refl)
      | else-is_applying w ↦
          subst (λ v. ArePlacedBelow is_of entries c.args.uid.now c.args.day (place + 1) (map of v.items)) (sym w.applying-is)
          (placed-no_more is_of entries c.args.uid.now c.args.day place _ c.loop-place.invariant
          (λ k r is train applies.
          let parts = some_pair_parts _ _ _ _ (sym at ∙ is) in
          false≢true (sym w.if-is_applying.false ∙ c.is_applying.ensures.1
          (subst (λ k. is_of k c.args.uid.now) (sym parts.0) train, subst (λ t. Applies t c.args.day) (sym parts.1) applies))))
    ]

pub returns : goal.returns
returns g c =
    let of = placed_of g.E.Entry.key g.E.Entry.terms in
    let end : c.loop-place.place ≡ length c.args.entries.now = omega (arith, c.loop-place-test.false, c.loop-place.auto.place-end) in
    placed-sorted of g.E.Key.Ord.cmp g.met.E.Key.Ord.total g.E.ExplainedEntry.is_of
    (keyed g.E.Entry.key g.E.Entry.terms c.args.entries.now) c.args.uid.now c.args.day _ _ c.sort_by.ensures.permutation
    (subst (λ n. ArePlacedBelow g.E.ExplainedEntry.is_of (keyed g.E.Entry.key g.E.Entry.terms c.args.entries.now) c.args.uid.now
    c.args.day n (map of c.loop-place.applying.items))
    (end ∙ sym (length-map c.args.entries.now (λ x. (g.E.Entry.key x, g.E.Entry.terms x)))) c.loop-place.invariant)
    (c.in_ok-sort_by.ensures.sorted (λ x y. is_lt (placed_cmp g.E.Key.Ord.cmp (of x) (of y)))
    (ranks_by (placed_total g.E.Key.Ord.cmp g.met.E.Key.Ord.total) of) (always_returns_same _ _ _ (λ a r f k. search rules)))
