-- Several dates more (`many-more`).
use Rattle.cif_feed.proofs.Names.{List, ap, ap₂, codes, rules, ℕ, ◌++◌, ◌∙◌}
use Rattle.cif_feed.proofs.ClashingKeys.{many-more}
use Rattle.cif_feed.proofs.dropped.DroppedKey.text.Goals as goal

pub returns : goal.returns
returns c =
    let both = λ (a b : List ℕ). a ++ b in
    let clash = c.push_str.ensures.bytes ∙ ap₂ both c.new-text.ensures (c.as_str.ensures.value ∙ c.text.ensures) in
    let joined = c.push_str-2.ensures.bytes ∙ ap (λ (l : List ℕ). l ++ codes " and ") clash in
    let number = c.push_str-3.ensures.bytes ∙ ap₂ both joined c.format.ensures.text in
    many-more c.args.self.now _ (search rules) (search rules)
    (c.push_str-4.ensures.bytes ∙ ap (λ (l : List ℕ). l ++ codes " more dates") number)
