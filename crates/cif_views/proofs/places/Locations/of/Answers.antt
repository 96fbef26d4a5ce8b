-- One location more (`drop_more`), and at the end all are sorted (`permuted-named`).
use Rattle.cif_views.proofs.Names.{IsPermutation, List, [], ap, append-nil, append_assoc, drop, flat_map, if◌then◌else◌, refl, subst}
use Rattle.cif_views.proofs.Names.{sym, Tiploc, ℕ, ◌++◌, ◌+◌, ◌∙◌, ◌∷◌, ◌≡◌}
use Rattle.std.proofs.lemmas.List.{at_drop_more}
use Rattle.cif_views.proofs.Named.{permuted-named}
use Rattle.cif_views.specs.Places.{crs_of, tiploc_of}
use Rattle.cif_views.specs.Steps.Boards.{code_is, named_by}
use Rattle.cif_views.proofs.Names.{at_drop_all}
use Rattle.cif_views.proofs.places.Locations.of.Goals as goal
use Rattle.cif_views.proofs.places.Locations.of.Goals.{then-has_code+in_ok-push-2, else-has_code}

pub loop-tiploc-init : goal.loop-tiploc-init
loop-tiploc-init c =
    ap (λ (l : List (List ℕ)). l ++ flat_map (named_by c.args.place.now) c.args.tiplocs.now)
    (c.in_ok-push.ensures.items ∙ ap (λ (l : List (List ℕ)). l ++ (c.args.place.now.tiploc ∷ [])) c.new-named.ensures.items)

pub loop-tiploc-preserved : goal.loop-tiploc-preserved
loop-tiploc-preserved c =
    let place = c.args.place.now in
    let ts = c.args.tiplocs.now in
    let i = c.loop-tiploc.tiploc-index in
    let t = c.tiploc-item.result in
    let rest = flat_map (named_by place) (drop (i + 1) ts) in
    let whole = ap (λ (l : List (List ℕ)). c.loop-tiploc.named.items ++ l)
    (ap (λ u. named_by place u ++ rest) c.tiploc-item.is ∙ sym (at_drop_more (flat_map (named_by place)) ts i t c.loop-tiploc-test.true))
    ∙ c.loop-tiploc.invariant in
    elim c.if-has_code.branch [
      | then-has_code+in_ok-push-2 w ↦
          let own : tiploc_of t ∷ [] ≡ named_by place t =
          ap (λ b. if b then tiploc_of t ∷ [] else []) (sym w.if-has_code.true ∙ c.has_code.ensures) in
          ap (λ v. v.items ++ rest) w.named-is
          ∙ ap (λ (l : List (List ℕ)). l ++ rest) (w.in_ok-push-2.ensures.items
          ∙ ap (λ (l : List ℕ). c.loop-tiploc.named.items ++ (l ∷ [])) w.tiploc_of.ensures
          ∙ ap (λ (l : List (List ℕ)). c.loop-tiploc.named.items ++ l) own)
          ∙ append_assoc c.loop-tiploc.named.items (named_by place t) rest
          ∙ whole
      | else-has_code w ↦
          let own : [] ≡ named_by place t =
          ap (λ b. if b then tiploc_of t ∷ [] else []) (sym w.if-has_code.false ∙ c.has_code.ensures) in
          ap (λ v. v.items ++ rest) w.named-is
          ∙ ap (λ (l : List (List ℕ)). c.loop-tiploc.named.items ++ (l ++ rest)) own
          ∙ whole
    ]

pub returns : goal.returns
returns c =
    let place = c.args.place.now in
    let ts = c.args.tiplocs.now in
    let all = sym (append-nil c.loop-tiploc.named.items)
    ∙ ap (λ (l : List (List ℕ)). c.loop-tiploc.named.items ++ l)
    (sym (at_drop_all (flat_map (named_by place)) ts c.loop-tiploc.tiploc-index c.loop-tiploc-test.false))
    ∙ c.loop-tiploc.invariant in
    permuted-named ts place c.sort_unstable.new.self.items
    (subst (λ l. IsPermutation l c.sort_unstable.new.self.items) all c.sort_unstable.ensures.permutation)
