-- The first item is before the others.
use Rattle.cif_canon.proofs.Names.{List, [], ap₂, arith, drop, get_or, length, refl, sym, take, take_all, ◌-◌, ◌<◌, ◌∙◌, ◌∷◌, ◌≡◌}
use Rattle.cif_canon.proofs.listed_differences.push_next.Goals as goal

first-before : {T : Type 0} (items : List T) (item : T) → 0 < length items → item ≡ get_or items 0 item →
    items ≡ item ∷ take (length items - 1) (drop 1 items)
first-before [] item some is = absurd (omega (arith, some))
first-before (x ∷ xs) item some is = ap₂ (λ y ys. y ∷ ys) (sym is) (sym (take_all (length (x ∷ xs) - 1) xs (omega arith)))

pub returns-in-Left : goal.returns-in-Left
returns-in-Left g c = rw c.in-Left.is (
  record {
    item = c.index-own-0.result;
    items_are = rw c.in-Left.is at (sym c.of-own.ensures
        ∙ first-before c.of-own.result.now c.index-own-0.result (rw c.of-own.ensures c.requires) c.index-own-0.is);
    new_is = rw c.in-Left.is at c.in_ok-push.ensures.items;
  },
  refl,
)

pub returns-in-Right : goal.returns-in-Right
returns-in-Right g c = rw c.in-Right.is (
  record {
    item = c.index-own-0.result;
    items_are = rw c.in-Right.is at (sym c.of-own.ensures
        ∙ first-before c.of-own.result.now c.index-own-0.result (rw c.of-own.ensures c.requires) c.index-own-0.is);
    new_is = rw c.in-Right.is at c.in_ok-push.ensures.items;
  },
  refl,
)
